use Rattle.std.proofs.Common.{◌+◌, List, subst, sym}
use Rattle.cache_class.specs.declared.tables.SetTable.{SetTable}
use Rattle.cache_class.specs.Tables.{AreSetTables}
use Rattle.cache_class.proofs.ReadyLemmas.{sets_more}
use Rattle.cache_class.proofs.sets.set_tables.Goals as goal

pub loop-set-preserved : goal.loop-set-preserved
loop-set-preserved c =
    let table : SetTable = record { flow = c.in_ok-narrow.narrow; verdicts = c.in_ok-verdicts.verdicts } in
    subst (λ (tables : List SetTable). AreSetTables c.args.shape c.args.flow.now (c.loop-set.set + 1) tables) (sym c.in_ok-push.ensures.items)
    (sets_more c.args.shape c.args.flow.now c.loop-set.set c.loop-set.tables.items table c.loop-set.invariant
    (record { of = c.in_ok-narrow.ensures.of; flows = c.in_ok-narrow.ensures.flow; judged = c.in_ok-verdicts.ensures }))
