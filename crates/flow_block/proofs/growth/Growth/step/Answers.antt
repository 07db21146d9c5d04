use Rattle.flow_block.proofs.Filled.{here, kept_by, added_by, step_crowded, step_added}
use Rattle.flow_block.proofs.growth.Growth.step.Goals as goal

pub returns-then-not-branch : goal.returns-then-not-branch
returns-then-not-branch g c =
    let at = here g.of _ _ _ _ _ c.requires.0 c.place.ensures in
    step_crowded g.of _ _ _ _ _ _ _ _ c.requires.1.1.1.0 at c.requires.1.1.1.1 (kept_by _ c.if-not-branch.true c.in_ok-add.ensures)

pub returns : goal.returns
returns g c =
    let at = here g.of _ _ _ _ _ c.requires.0 c.place.ensures in
    step_added g.of _ _ _ _ _ _ _ _ _ c.requires.1.1.1.0 at c.requires.1.1.1.1 (added_by _ c.if-not-branch.false c.in_ok-add.ensures) c.ends_behind.ensures
