use Rattle.std.proofs.Common.{◌≡◌, ◌∙◌, ℕ, length, subst, arith}
use Rattle.cert_judge.proofs.KeepLemmas.{keeps_self, keeps_twice}
use Rattle.state_charges.specs.Raising.{IsEarly, IsEdgeRise, Raises}
use Rattle.state_charges.proofs.RaisingLemmas.{raised_by_more, raised_by_none}
use Rattle.state_charges.proofs.edges.raise_edges.Goals as goal

pub loop-number-init : goal.loop-number-init
loop-number-init c =
    let s = c.args.subject.now in
    record {
      kept = keeps_self c.args.table.now;
      right = c.requires.right;
      raises = raised_by_none (IsEdgeRise s.unfolded.now s.machine.now s.classes.now s.vectors.now c.args.places.now.groups) c.args.amounts.now;
    }

pub raise_edge-requires-clause-long : goal.raise_edge-requires-clause-long
raise_edge-requires-clause-long c = c.loop-number.invariant.raises.long ∙ c.requires.long

pub raise_edge-requires-clause-right : goal.raise_edge-requires-clause-right
raise_edge-requires-clause-right c = c.loop-number.invariant.right

pub returns-in_err-raise_edge-clause-kept : goal.returns-in_err-raise_edge-clause-kept
returns-in_err-raise_edge-clause-kept c =
    keeps_twice c.args.table.now c.loop-number.table c.raise_edge.new.table c.loop-number.invariant.kept c.raise_edge.ensures.kept

pub loop-number-preserved : goal.loop-number-preserved
loop-number-preserved c =
    let s = c.args.subject.now in
    record {
      kept = keeps_twice c.args.table.now c.loop-number.table c.raise_edge.new.table c.loop-number.invariant.kept c.raise_edge.ensures.kept;
      right = c.in_ok-raise_edge.ensures.right;
      raises = raised_by_more (IsEdgeRise s.unfolded.now s.machine.now s.classes.now s.vectors.now c.args.places.now.groups) c.loop-number.number
          c.args.amounts.now c.loop-number.amounts c.raise_edge.new.amounts c.loop-number.invariant.raises c.in_ok-raise_edge.ensures.raises;
    }

pub returns-clause-raises : goal.returns-clause-raises
returns-clause-raises c =
    let s = c.args.subject.now in
    let done : c.loop-number.number ≡ length s.unfolded.now.edges = omega arith in
    subst (λ (n : ℕ). Raises (IsEarly (IsEdgeRise s.unfolded.now s.machine.now s.classes.now s.vectors.now c.args.places.now.groups) n)
    c.args.amounts.now c.loop-number.amounts) done c.loop-number.invariant.raises

pub returns-clause-kept : goal.returns-clause-kept
returns-clause-kept c = c.loop-number.invariant.kept
