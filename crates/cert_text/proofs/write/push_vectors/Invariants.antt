use Rattle.std.proofs.Common.{◌≡◌, ◌++◌, map, drop}
use Rattle.cert_text.specs.Written.{listed_item, text_of}
use Rattle.cert_text.proofs.write.push_vectors.Given as goal

abbrev pub invariant-loop-slots : goal.invariant-loop-slots
invariant-loop-slots l =
    l.initial.out.items ++ text_of (map listed_item (map (λ slots. slots.now) l.vectors)) ≡ l.out.items ++ text_of (map listed_item (map (λ slots. slots.now) (drop l.slots-index l.vectors)))
