use Rattle.std.proofs.Common.{arith}
use Rattle.elf_image.proofs.overlap.least_overlap.Goals as goal

pub returns-in-Some : goal.returns-in-Some
returns-in-Some c = record {
  ordered = c.in-Some.ensures.1.behind;
  among = c.in-Some.ensures.0;
  meet = c.in-Some.ensures.1.meets;
  lower_first = λ x d h1 h2 h3 m. (c.loop-a.invariant x h1).none d h2 h3 m;
  lower_second = c.in-Some.ensures.1.first;
}

pub returns : goal.returns
returns c = record { apart = λ a b h1 h2 m. (c.loop-a.invariant a (omega arith)).none b h1 h2 m }
