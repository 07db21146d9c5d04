use Rattle.std.proofs.Common.{◌≡◌, get_or, ◌∙◌, arith, rules}
use Rattle.std.proofs.lemmas.List.{length-set}
use Rattle.std.proofs.lemmas.List.Elements.{All-get_or, All-tail}
use Rattle.xdd_table.specs.declared.node.Dd.{Dd}
use Rattle.xdd_table.specs.Diagram.{BeginsAfter}
use Rattle.pipe_block.specs.Times.{IsDiagram}
use Rattle.pipe_block.proofs.Gathers.{bundle_cofactors, set_done, set_left, same_at}
use Rattle.pipe_block.proofs.gather.cofactors.Goals as goal

pub cofactor-requires-clause-within : goal.cofactor-requires-clause-within
cofactor-requires-clause-within c =
    let z : Dd = record { place = 0 } in
    let same : get_or c.loop-k.slots c.loop-k.k z ≡ get_or c.args.bundle.now.slots c.loop-k.k z =
    same_at c.loop-k.slots c.args.bundle.now.slots c.loop-k.k z (c.loop-k.invariant.left c.loop-k.k (omega arith)) in
    rw same (All-get_or (IsDiagram c.args.table.now 12) c.args.bundle.now.slots c.loop-k.k z (search rules)
    (All-tail (IsDiagram c.args.table.now 12) c.args.bundle.now.number c.args.bundle.now.slots c.requires.diagrams)).within

pub cofactor-requires-clause-from : goal.cofactor-requires-clause-from
cofactor-requires-clause-from c = λ e l.
    let z : Dd = record { place = 0 } in
    let same : get_or c.loop-k.slots c.loop-k.k z ≡ get_or c.args.bundle.now.slots c.loop-k.k z =
    same_at c.loop-k.slots c.args.bundle.now.slots c.loop-k.k z (c.loop-k.invariant.left c.loop-k.k (omega arith)) in
    rw same (All-get_or (λ (d : Dd). BeginsAfter c.args.table.now e d.place) c.args.bundle.now.slots c.loop-k.k z (search rules)
    (All-tail (λ (d : Dd). BeginsAfter c.args.table.now e d.place) c.args.bundle.now.number c.args.bundle.now.slots (c.requires.from.each e l)))

pub loop-k-preserved : goal.loop-k-preserved
loop-k-preserved c = record {
  long = length-set c.loop-k.slots c.loop-k.k c.cofactor.result ∙ c.loop-k.invariant.long;
  done = set_done c.args.table.now c.args.event c.args.misses c.args.bundle.now.slots c.loop-k.slots c.loop-k.k c.cofactor.result (omega (arith, c.loop-k.invariant.long))
      (c.loop-k.invariant.left c.loop-k.k (omega arith)) c.cofactor.ensures c.loop-k.invariant.done;
  left = set_left c.args.bundle.now.slots c.loop-k.slots c.loop-k.k c.cofactor.result c.loop-k.invariant.left;
}

pub returns : goal.returns
returns c =
    bundle_cofactors c.args.table.now c.args.event c.args.misses c.args.bundle.now.number c.cofactor-2.result c.args.bundle.now.slots c.loop-k.slots (search rules) c.loop-k.invariant.long
    c.cofactor-2.ensures (λ j d r l at at'. c.loop-k.invariant.done j d r (omega arith) at at')
