use Rattle.std.proofs.Common.{length}
use Rattle.path_problem.proofs.PartLemmas.{NamesSoFar}
use Rattle.path_problem.proofs.part.place_members.Given as goal

abbrev pub invariant-loop-member : goal.invariant-loop-member
invariant-loop-member l = NamesSoFar l.members l.member-index (length l.initial.places) l.names.items l.places
