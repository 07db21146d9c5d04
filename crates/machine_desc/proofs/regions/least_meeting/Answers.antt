use Rattle.std.proofs.Common.{arith}
use Rattle.machine_desc.proofs.regions.least_meeting.Goals as goal

pub returns-in-Some : goal.returns-in-Some
returns-in-Some c = record {
  ordered = c.in-Some.ensures.behind;
  among = c.in-Some.ensures.among;
  meet = c.in-Some.ensures.meets;
  lower_first = λ x d h1 h2 h3 m. (c.loop-a.invariant x h1).none d h2 h3 m;
  lower_second = c.in-Some.ensures.first;
}

pub returns : goal.returns
returns c = record { apart = λ a b h1 h2 m. (c.loop-a.invariant a (omega arith)).none b h1 h2 m }
