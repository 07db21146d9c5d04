use Rattle.std.proofs.Common.{◌≡◌, ℕ, List, sym, ap, ◌∙◌, arith}
use Rattle.std.specs.Prelude.{slice_range, ◌+◌, ◌-◌, ◌++◌, ◌∷◌, []}
use Rattle.ffx_facts.specs.Machine.{step, step_in}
use Rattle.ffx_facts.specs.Scan.{view}
use Rattle.ffx_facts.proofs.ScannerLemmas.{goes_along, text_more}
use Rattle.ffx_facts.proofs.state.Scanner.take.Goals as goal

pub returns-clause-step : goal.returns-clause-step
unfolding step
returns-clause-step c =
    let s = c.args.self.now in
    let b = s.bytes.now in
    let t : slice_range b s.start (s.place + 1) ≡ slice_range b s.start s.place ++ c.args.byte ∷ [] = text_more b s.start s.place c.args.byte (omega arith) c.requires.more c.requires.next in
    let n : s.place ≡ s.place + 1 - 1 = omega arith in
    let grown = ap (λ (text : List ℕ). step_in s.part (slice_range b s.start s.place) (record (view s) { place = s.place + 1; text = text }) c.args.byte) (sym t) in
    let before = ap (λ (k : ℕ). step_in s.part (slice_range b s.start k) (record (view s) { place = s.place + 1; text = slice_range b s.start (s.place + 1) }) c.args.byte) n in
    goes_along _ _ _ _ (grown ∙ before) c.act.ensures.step
