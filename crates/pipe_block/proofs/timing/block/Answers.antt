use Rattle.std.proofs.Common.{◌<◌, refl}
use Rattle.pipe_block.specs.Events.{entries_of}
use Rattle.pipe_block.specs.Walks.{row_from}
use Rattle.pipe_block.proofs.Results.{block_times}
use Rattle.pipe_block.proofs.timing.block.Goals as goal

pub returns-clause-times : goal.returns-clause-times
returns-clause-times c =
    let b = c.args.b.now in
    let from = c.args.from.now.slots in
    let m = c.args.m.now in
    let w = c.in_ok-walked.walked in
    block_times w.plan c.columns.new.table w.rows.keys w.root.place c.in_ok-all.all m from b (λ f. row_from m from (entries_of b f)) (λ e. e < 0)
    c.in_ok-walked.ensures.leads (rw c.as_slice-rows.ensures.keys at c.in_ok-all.ensures.rows) (λ f. refl)

pub returns-clause-few : goal.returns-clause-few
returns-clause-few c = c.in_ok-all.ensures.rows.diagrams 12 (c.in_ok-walked.ensures.leads.events 12 c.requires.timed.few)
