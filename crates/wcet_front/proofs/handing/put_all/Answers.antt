use Rattle.wcet_front.proofs.Putting.{put_more}
use Rattle.wcet_front.proofs.handing.put_all.Goals as goal

pub loop-rest-preserved : goal.loop-rest-preserved
loop-rest-preserved g c = (
  put_more _ _ _ _ _ _ _ _ _ _ c.loop-rest.invariant.0 c.in-Ok.ensures.outcome c.after-rest.ensures,
  λ r. c.put.ensures.reliable (c.loop-rest.invariant.1 r),
)
