use Rattle.std.proofs.Common.{◌≡◌, ℕ, ◌+◌, ◌<◌, List, [], map, Bor, get_or, subst, sym, ◌∙◌}
use Rattle.std.specs.Option.{IfSome}
use Rattle.std.proofs.lemmas.List.{get_or-map, length-map}
use Rattle.std.proofs.lemmas.Option.{none-some}
use Rattle.start_file.specs.declared.start_item.Item.{Item}
use Rattle.start_file.specs.Start.{words_of, Fits}
use Rattle.start_file.specs.StartText.{words_in, IsProper}
use Rattle.start_file.specs.StartReading.{Follows}
use Rattle.start_file.proofs.StartFronts.{LinesSoFar, line_more, foreign}
use Rattle.start_file.proofs.start_text.read_lines.Goals as goal

pub returns-in_default-clause-refused : goal.returns-in_default-clause-refused
returns-in_default-clause-refused c =
    let lines = c.args.lines.now in
    let i = c.loop-index.index in
    let none : Bor (List ℕ) = record { ref_ptr = (0, 0); now = [] } in
    foreign c.args.image.now c.args.shape (map (λ l. l.now) lines) i c.loop-index.items.items (get_or lines i none).now c.loop-index.invariant
    (subst (λ n. i < n) (sym (length-map lines (λ l. l.now))) c.loop-index-test.true)
    (get_or-map (λ l. l.now) lines i none [] c.loop-index-test.true)
    (λ x proper follows same.
    none-some x (sym c.in_default.is ∙ c.in_ok-item.ensures.complete x proper (subst (λ items. Follows items x) (sym c.as_slice.ensures.value) follows) same))

pub loop-index-preserved : goal.loop-index-preserved
loop-index-preserved c =
    let lines = c.args.lines.now in
    let i = c.loop-index.index in
    let none : Bor (List ℕ) = record { ref_ptr = (0, 0); now = [] } in
    let x = c.in-Some.item in
    let line = (get_or lines i none).now in
    let sound : words_in line ≡ words_of x = subst (λ o. IfSome o (λ x. words_in line ≡ words_of x)) c.in-Some.is c.in_ok-item.ensures.sound in
    let proper : IsProper c.args.image.now c.args.shape x = subst (λ o. IfSome o (λ x. IsProper c.args.image.now c.args.shape x)) c.in-Some.is c.in_ok-item.ensures.proper in
    let behind : Follows c.as_slice.result.now x = subst (λ o. IfSome o (λ x. Follows c.as_slice.result.now x)) c.in-Some.is c.in_ok-item.ensures.follows in
    let alone : (other : Item) → Fits other → words_of x ≡ words_of other → other ≡ x =
    subst (λ o. IfSome o (λ x. (other : Item) → Fits other → words_of x ≡ words_of other → other ≡ x)) c.in-Some.is c.in_ok-item.ensures.alone in
    subst (λ items. LinesSoFar c.args.image.now c.args.shape (map (λ l. l.now) lines) (i + 1) items) (sym c.in_ok-push.ensures.items)
    (line_more c.args.image.now c.args.shape (map (λ l. l.now) lines) i c.loop-index.items.items line x c.loop-index.invariant
    (subst (λ n. i < n) (sym (length-map lines (λ l. l.now))) c.loop-index-test.true)
    (get_or-map (λ l. l.now) lines i none [] c.loop-index-test.true) sound proper
    (subst (λ items. Follows items x) c.as_slice.ensures.value behind) alone)
