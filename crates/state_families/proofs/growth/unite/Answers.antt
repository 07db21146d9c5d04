use Rattle.std.proofs.Common.{◌∙◌, arith, sym}
use Rattle.std.specs.List.{Contains}
use Rattle.std.proofs.lemmas.Result.{IfOk-weaker}
use Rattle.state_families.specs.Growth.{IsGrowth, IsMerged, Joins}
use Rattle.state_families.proofs.GrowthLemmas.{none_of, some_of, unite_join, unite_open, unite_same}
use Rattle.state_families.proofs.growth.unite.Goals as goal

pub returns-then-is_empty : goal.returns-then-is_empty
returns-then-is_empty c =
    let set = c.args.set.now in
    let m = c.args.m.now in
    let fresh = c.in_ok-union.field-0.fresh in
    let union = c.in_ok-union.field-0.union in
    let merged : IsMerged set.vectors c.args.arrivals.now union.items fresh.items = rw c.as_slice.ensures at c.in_ok-union.ensures in
    let none = none_of fresh.len fresh.items fresh.ok.0 (sym c.is_empty.ensures ∙ c.if-is_empty.true) in
    unite_same m.states m.horizon c.args.arrivals.now set.vectors union.items fresh.items merged set.kept c.new.result
    c.requires.sound c.requires.open none (c.new.ensures ∙ none)

pub returns-then-len-states : goal.returns-then-len-states
returns-then-len-states c =
    let set = c.args.set.now in
    let m = c.args.m.now in
    let fresh = c.in_ok-union.field-0.fresh in
    let union = c.in_ok-union.field-0.union in
    let merged : IsMerged set.vectors c.args.arrivals.now union.items fresh.items = rw c.as_slice.ensures at c.in_ok-union.ensures in
    let some = some_of fresh.len fresh.items fresh.ok.0 (sym c.is_empty.ensures ∙ c.if-is_empty.false) in
    IfOk-weaker c.join.result (Joins m.states union.items c.join.new.set) (IsGrowth m.states m.horizon (Contains c.args.arrivals.now) set c.join.new.set)
    (λ list j. unite_join m.states m.horizon c.args.arrivals.now set.vectors union.items fresh.items merged set.kept c.join.new.set list
    c.requires.sound c.requires.open some c.requires.arrivals (omega (arith, c.if-len-states.true, c.len.ensures, union.ok.0)) j)
    c.join.ensures

pub returns : goal.returns
returns c =
    let set = c.args.set.now in
    let m = c.args.m.now in
    let fresh = c.in_ok-union.field-0.fresh in
    let union = c.in_ok-union.field-0.union in
    let merged : IsMerged set.vectors c.args.arrivals.now union.items fresh.items = rw c.as_slice.ensures at c.in_ok-union.ensures in
    let some = some_of fresh.len fresh.items fresh.ok.0 (sym c.is_empty.ensures ∙ c.if-is_empty.false) in
    unite_open m.states m.horizon c.args.arrivals.now set.vectors union.items fresh.items merged set.kept c.new-2.result c.new-3.result
    c.requires.sound c.requires.open some c.requires.arrivals (omega (arith, c.if-len-states.false, c.len.ensures, union.ok.0)) c.new-2.ensures c.new-3.ensures
