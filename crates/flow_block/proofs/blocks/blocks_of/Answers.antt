use Rattle.std.proofs.Common.{Bool, List, subst, sym}
use Rattle.flow_block.specs.Code.{AreLeaders}
use Rattle.flow_block.proofs.Finished.{begin_all, blocks_are}
use Rattle.flow_block.proofs.blocks.blocks_of.Goals as goal

pub blocks_at-requires : goal.blocks_at-requires
blocks_at-requires g c = (
  record { body = c.args.body.now; code = c.requires.0 },
  (
    subst (λ (x : List Bool). AreLeaders g.of c.args.code.now.addresses.now x) (sym c.deref-3.ensures.value) c.in_ok-leaders.ensures,
    (
      c.requires.1.0,
      (
        c.requires.1.1.0,
        (begin_all g.of _ _ _ _ _ _ c.in_ok-marks.ensures c.deref-2.ensures.value c.in_ok-starts.ensures c.deref-4.ensures.value, c.requires.1.1.1.1),
      ),
    ),
  ),
)

pub returns : goal.returns
returns g c = blocks_are (λ v. v.items) g.of _ _ _ _ _ _ _ _ _ _ c.requires.1.1.0 c.requires.1.1.1.0 (record { body = c.args.body.now; code = c.requires.0 }) c.in_ok-marks.ensures c.deref-2.ensures.value c.in_ok-starts.ensures c.deref-4.ensures.value c.blocks_at.ensures
