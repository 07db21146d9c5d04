use Rattle.std.proofs.Common.{◌≡◌, ℕ, ◌<◌, ◌+◌, ◌^◌, ◌++◌, ◌∷◌, [], Bor, List, map, get_or, subst, sym, ◌∙◌}
use Rattle.std.proofs.lemmas.List.{get_or-map, length-map}
use Rattle.std.proofs.lemmas.Option.{none-some, same_Some}
use Rattle.wx_text.specs.Decimal.{decimal}
use Rattle.cert_items.proofs.SoFar.{ReadSoFar, read_more, none_has}
use Rattle.cert_items.proofs.numbers.read_numbers.Goals as goal

pub loop-word-preserved : goal.loop-word-preserved
loop-word-preserved c =
    let words = c.args.words.now in
    let i = c.loop-word.word-index in
    let texts : List (List ℕ) = map (λ w. w.now) words in
    let none : Bor (List ℕ) = record { ref_ptr = (0, 0); now = [] } in
    let grown : c.push.new.self.items ≡ c.loop-word.list.items ++ c.in-Some.number ∷ [] = c.in_ok-push.ensures.items in
    subst (λ list. ReadSoFar decimal (λ n. n < 2 ^ 64) texts (i + 1) list) (sym grown)
    (read_more decimal (λ n. n < 2 ^ 64) texts i c.loop-word.list.items c.in-Some.number c.loop-word.invariant
    (subst (λ n. i < n) (sym (length-map words (λ w. w.now))) c.loop-word-test.true)
    (λ d. get_or-map (λ w. w.now) words i none d c.loop-word-test.true ∙ c.in-Some.ensures.sound)
    c.in-Some.ensures.small
    (λ w small same. sym (same_Some c.in-Some.number w (c.in-Some.ensures.complete w small (c.in-Some.ensures.sound ∙ same)))))

pub returns-in_default-clause-complete : goal.returns-in_default-clause-complete
returns-in_default-clause-complete c lines small same =
    let words = c.args.words.now in
    let i = c.loop-word.word-index in
    let texts : List (List ℕ) = map (λ w. w.now) words in
    let none : Bor (List ℕ) = record { ref_ptr = (0, 0); now = [] } in
    absurd (none_has decimal (λ n. n < 2 ^ 64) texts i (get_or words i none).now lines
    (subst (λ n. i < n) (sym (length-map words (λ w. w.now))) c.loop-word-test.true)
    (λ d. get_or-map (λ w. w.now) words i none d c.loop-word-test.true)
    (λ w fits is. none-some w (c.in_default.ensures.complete w fits is)) small same)
