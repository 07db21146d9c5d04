use Rattle.std.proofs.Common.{◌∙◌, ◌+◌, ◌++◌, ℕ, List, ap, arith, take}
use Rattle.std.proofs.lemmas.List.{take_all, take_more}
use Rattle.std.proofs.lemmas.List.Elements.{Contains-get_or}
use Rattle.state_families.proofs.ArrivalLemmas.{from_all, from_more, from_none}
use Rattle.state_families.proofs.LeavingLemmas.{keeps_self, keeps_twice}
use Rattle.state_families.proofs.arrivals.add_exits.Goals as goal

pub exits_from-requires-clause-small : goal.exits_from-requires-clause-small
exits_from-requires-clause-small c = c.requires.small _ (Contains-get_or c.args.sources.now c.loop-source.source-index _ c.loop-source-test.true)

pub loop-source-init : goal.loop-source-init
loop-source-init c =
    let s = c.args.subject.now in record {
      exits = λ slots. from_none s.unfolded.now s.machine.now s.classes.now c.args.edge c.args.sources.now c.args.arrivals.now.items slots;
      right = c.requires.right;
      kept = keeps_self c.args.table.now;
    }

pub loop-source-preserved : goal.loop-source-preserved
loop-source-preserved c =
    let s = c.args.subject.now in
    let sources = c.args.sources.now in
    let i = c.loop-source.source-index in record {
      exits =
          from_more s.unfolded.now s.machine.now s.classes.now c.args.edge (take i sources) (take (i + 1) sources) _ c.args.arrivals.now.items c.loop-source.arrivals.items
          c.extend_from_slice.new.self.items c.in_ok-exits.exits.items (take_more sources i _ c.loop-source-test.true)
          (c.in_ok-extend_from_slice.ensures.items ∙ ap (λ (xs : List (List ℕ)). c.loop-source.arrivals.items ++ xs) c.as_slice.ensures.value) c.in_ok-exits.ensures.exits
          c.loop-source.invariant.exits;
      right = c.in_ok-exits.ensures.right;
      kept = keeps_twice c.args.table.now c.loop-source.table c.exits_from.new.table c.loop-source.invariant.kept c.exits_from.ensures.kept;
    }

pub returns-clause-exits : goal.returns-clause-exits
returns-clause-exits c =
    let s = c.args.subject.now in
    let sources = c.args.sources.now in
    let i = c.loop-source.source-index in
    from_all s.unfolded.now s.machine.now s.classes.now c.args.edge (take i sources) sources c.args.arrivals.now.items c.loop-source.arrivals.items
    (take_all i sources (omega arith)) c.loop-source.invariant.exits

pub returns-in_err-exits-clause-kept : goal.returns-in_err-exits-clause-kept
returns-in_err-exits-clause-kept c = keeps_twice c.args.table.now c.loop-source.table c.exits_from.new.table c.loop-source.invariant.kept c.exits_from.ensures.kept

pub returns-in_err-extend_from_slice-clause-kept : goal.returns-in_err-extend_from_slice-clause-kept
returns-in_err-extend_from_slice-clause-kept c =
    keeps_twice c.args.table.now c.loop-source.table c.exits_from.new.table c.loop-source.invariant.kept c.exits_from.ensures.kept
