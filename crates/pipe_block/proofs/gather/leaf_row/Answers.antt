use Rattle.std.proofs.Common.{◌∙◌, arith, rules}
use Rattle.std.proofs.lemmas.List.{length-set}
use Rattle.std.proofs.lemmas.List.Elements.{All-get_or, All-tail}
use Rattle.xdd_table.specs.declared.node.Dd.{Dd}
use Rattle.xdd_table.specs.Diagram.{BeginsAfter}
use Rattle.pipe_block.specs.Times.{IsDiagram}
use Rattle.pipe_block.proofs.Gathers.{leaf_times, set_time}
use Rattle.pipe_block.proofs.gather.leaf_row.Goals as goal

pub leaf_time-requires-clause-diagram : goal.leaf_time-requires-clause-diagram
leaf_time-requires-clause-diagram c =
    let z : Dd = record { place = 0 } in
    All-get_or (IsDiagram c.args.table.now 12) c.args.bundle.now.slots c.loop-k.k z (search rules)
    (All-tail (IsDiagram c.args.table.now 12) c.args.bundle.now.number c.args.bundle.now.slots c.requires.diagrams)

pub leaf_time-requires-clause-from : goal.leaf_time-requires-clause-from
leaf_time-requires-clause-from c = λ e l.
    let z : Dd = record { place = 0 } in
    All-get_or (λ (d : Dd). BeginsAfter c.args.table.now e d.place) c.args.bundle.now.slots c.loop-k.k z (search rules)
    (All-tail (λ (d : Dd). BeginsAfter c.args.table.now e d.place) c.args.bundle.now.number c.args.bundle.now.slots (c.requires.from.each e l))

pub loop-k-preserved : goal.loop-k-preserved
loop-k-preserved c = record {
  long = length-set c.loop-k.slots c.loop-k.k c.leaf_time.result ∙ c.loop-k.invariant.long;
  done = set_time c.args.table.now c.args.bundle.now.slots c.loop-k.slots c.loop-k.k c.leaf_time.result (omega (arith, c.loop-k.invariant.long)) c.leaf_time.ensures c.loop-k.invariant.done;
}

pub returns : goal.returns
returns c = λ f.
    leaf_times c.args.table.now f c.args.bundle.now.number c.leaf_time-2.result c.args.bundle.now.slots c.loop-k.slots (search rules) c.loop-k.invariant.long
    (c.leaf_time-2.ensures f) (λ j d l at. c.loop-k.invariant.done j d (omega arith) at f)
