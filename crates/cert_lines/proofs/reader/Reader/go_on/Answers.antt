use Rattle.std.proofs.Common.{◌≡◌, ◌+◌, map, sym, ap, subst, ◌∙◌}
use Rattle.std.specs.Prelude.{slice_index}
use Rattle.cert_lines.specs.Machine.{step, behind_word}
use Rattle.cert_lines.specs.Reading.{lines_of, view, IsReadyAt}
use Rattle.std.proofs.lemmas.List.{map-append}
use Rattle.cert_lines.proofs.ReaderLemmas.{grown, dead_end, word_ended, goes_along}
use Rattle.cert_lines.proofs.reader.Reader.go_on.Goals as goal

pub returns-then-grows-clause-step : goal.returns-then-grows-clause-step
returns-then-grows-clause-step c =
    let b = c.args.self.now.bytes.now in
    let ready = subst (IsReadyAt b c.args.at) c.requires.place c.requires.ready in
    rw c.requires.place (grown c.args.self.now.version (lines_of c.args.self.now.rows.items) (map (λ w. w.now) c.args.self.now.words.items) b c.args.at c.args.kind c.args.role c.args.start ready.0 c.requires.more (sym c.grows.ensures ∙ c.if-grows.true))

pub returns-then-not-is_word-clause-step : goal.returns-then-not-is_word-clause-step
returns-then-not-is_word-clause-step c =
    let b = c.args.self.now.bytes.now in
    let ready = subst (IsReadyAt b c.args.at) c.requires.place c.requires.ready in
    rw c.requires.place (dead_end c.args.self.now.version (lines_of c.args.self.now.rows.items) (map (λ w. w.now) c.args.self.now.words.items) b c.args.at c.args.kind c.args.role c.args.start ready.0 c.requires.more (sym c.grows.ensures ∙ c.if-grows.false) (sym c.is_word.ensures ∙ c.if-not-is_word.true))

pub returns-clause-step : goal.returns-clause-step
returns-clause-step c =
    let b = c.args.self.now.bytes.now in
    let v = c.args.self.now.version in
    let lines = lines_of c.args.self.now.rows.items in
    let words = map (λ w. w.now) c.args.self.now.words.items in
    let ready = subst (IsReadyAt b c.args.at) c.requires.place c.requires.ready in
    let is = word_ended v lines words b c.args.at c.args.kind c.args.role c.args.start ready.0 c.requires.more (sym c.grows.ensures ∙ c.if-grows.false) (sym c.is_word.ensures ∙ c.if-not-is_word.false) in
    let pushed = ap (map (λ w. w.now)) c.in_ok-push.ensures.items ∙ map-append (λ w. w.now) c.args.self.now.words.items _ in
    let whole : step (view c.args.self.now c.args.at) (slice_index b c.args.at) ≡ behind_word v lines c.args.kind (map (λ w. w.now) c.push.new.self.items) c.args.role (slice_index b c.args.at) =
    rw c.requires.place (is ∙ ap (λ w. behind_word v lines c.args.kind w c.args.role (slice_index b c.args.at)) (sym pushed)) in
    goes_along c.end_word.result (view c.end_word.new.self (c.args.at + 1)) _ _ whole c.end_word.ensures.step
