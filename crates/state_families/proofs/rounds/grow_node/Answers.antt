use Rattle.std.proofs.Common.{ℕ, List}
use Rattle.std.specs.List.{Contains}
use Rattle.std.proofs.lemmas.Result.{IfOk-weaker}
use Rattle.state_families.specs.Growth.{IsGrowth}
use Rattle.state_families.specs.Leaving.{IsExitAmong}
use Rattle.state_families.proofs.ExitLemmas.{among_bounded}
use Rattle.state_families.proofs.RoundLemmas.{growth_alike}
use Rattle.state_families.proofs.rounds.grow_node.Goals as goal

pub grow-requires-clause-arrivals : goal.grow-requires-clause-arrivals
grow-requires-clause-arrivals c =
    let s = c.args.subject.now in
    λ slots there. among_bounded s.unfolded.now s.machine.now s.classes.now c.args.numbers.now c.args.fresh.now slots
    ((c.in_ok-arrivals.ensures.arrivals slots).0 (rw c.as_slice.ensures.value at there))

pub returns-clause-growth : goal.returns-clause-growth
returns-clause-growth c =
    let s = c.args.subject.now in
    let m = s.machine.now in
    let Arrive : List ℕ → Type 0 = Contains c.in_ok-arrivals.arrivals.items in
    let Other : List ℕ → Type 0 = IsExitAmong s.unfolded.now m s.classes.now c.args.numbers.now c.args.fresh.now in
    IfOk-weaker c.grow.result (IsGrowth m.states m.horizon Arrive c.args.set.now c.grow.new.set) (IsGrowth m.states m.horizon Other c.args.set.now c.grow.new.set)
    (λ list g. growth_alike m.states m.horizon Arrive Other c.args.set.now c.grow.new.set list c.in_ok-arrivals.ensures.arrivals g) (rw c.as_slice.ensures.value at c.grow.ensures)
