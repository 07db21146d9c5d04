use Rattle.std.proofs.Common.{◌≡◌, ◌∙◌, ℕ, List, drop, length, subst, sym}
use Rattle.std.specs.Global.{Vec}
use Rattle.std.proofs.lemmas.List.{take_at}
use Rattle.state_families.specs.Incoming.{AreIncoming, lists_of}
use Rattle.state_families.proofs.IncomingLemmas.{incoming_of}
use Rattle.state_families.proofs.incoming.edges_into.Goals as goal

pub returns : goal.returns
returns c =
    let u = c.args.u.now in
    let new = c.note_edges.new.lists in
    let lists = c.in_ok-lists.lists in
    let count : length new ≡ lists.len = c.note_edges.auto.lists ∙ c.as_mut_slice.ensures.len in
    subst (λ (xs : List (Vec ℕ)). AreIncoming u.edges (length u.nodes) (length u.edges) (lists_of xs)) (sym (take_at new (drop (length new) lists.items) lists.len count))
    (incoming_of u.edges c.as_slice.result.now lists.items c.as_mut_slice.result.now new c.len.result (length u.nodes) c.as_slice.ensures c.as_mut_slice.ensures.value c.in_ok-lists.ensures
    c.len.ensures c.in_ok-note_edges.ensures)
