use Rattle.std.proofs.Common.{ℕ, List, ◌↔◌, length}
use Rattle.std.specs.List.{Contains}
use Rattle.std.proofs.lemmas.Result.{IfOk-weaker}
use Rattle.xdd_table.specs.Diagram.{time}
use Rattle.xdd_ops.specs.Pairs.{IsPairOf}
use Rattle.state_families.specs.Leaving.{IsAllowedExit, IsPicked}
use Rattle.state_families.proofs.LeavingLemmas.{added_to_none, both, keeps_twice, pairs_within, picked_allowed}
use Rattle.state_families.proofs.leaving.allowed_exits.Goals as goal

pub picked-requires : goal.picked-requires
picked-requires c =
    let nodes = c.settle.new.table in
    rw c.as_slice.ensures
    (pairs_within c.args.table.now c.args.classes.now c.args.leaving.now c.zip.new.pairs (λ f. time nodes f c.in_ok-place.place.place) (λ f. c.in_ok-place.ensures.times f)
    (added_to_none c.new-pairs.result c.zip.new.pairs (IsPairOf nodes c.in_ok-place.place.place c.in_ok-place.place.place) c.new-pairs.ensures c.zip.ensures.only) c.requires.positions)

pub returns-clause-exits : goal.returns-clause-exits
returns-clause-exits c =
    let nodes = c.settle.new.table in
    let pairs = c.zip.new.pairs in
    let list = c.args.leaving.now.list in
    IfOk-weaker c.picked.result (λ found. (slots : List ℕ) → Contains found.items slots ↔ IsPicked pairs list (length pairs) slots)
    (λ found. (slots : List ℕ) → Contains found.items slots ↔ IsAllowedExit c.args.table.now c.args.classes.now c.args.leaving.now slots)
    (λ found told slots. both (told slots)
    (picked_allowed c.args.table.now c.args.classes.now c.args.leaving.now pairs (λ f. time nodes f c.in_ok-place.place.place) (λ f. c.in_ok-place.ensures.times f)
    (added_to_none c.new-pairs.result pairs (IsPairOf nodes c.in_ok-place.place.place c.in_ok-place.place.place) c.new-pairs.ensures c.zip.ensures.only)
    (λ f. (time c.zip.new.table f c.in_ok-zip.field-0.place, c.in_ok-zip.ensures.times f)) slots))
    (rw c.as_slice.ensures at c.picked.ensures)

pub returns-in_err-zip-clause-kept : goal.returns-in_err-zip-clause-kept
returns-in_err-zip-clause-kept c = keeps_twice c.args.table.now c.settle.new.table c.zip.new.table c.settle.ensures.kept c.zip.ensures.kept

pub returns-clause-kept : goal.returns-clause-kept
returns-clause-kept c = keeps_twice c.args.table.now c.settle.new.table c.zip.new.table c.settle.ensures.kept c.zip.ensures.kept
