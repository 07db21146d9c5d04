-- There is one least solution.
use Rattle.std.proofs.Common.{arith}
use Rattle.cache_flow.specs.Laws.{LeastMustIsOne, LeastMayIsOne, LeastYoungerIsOne}

pub must_is_one : LeastMustIsOne
must_is_one shape flow states others a b node h line is =
    omega (arith, a.least others b.solution node h line is, b.least states a.solution node h line is)

pub may_is_one : LeastMayIsOne
may_is_one shape flow states others a b node h line is =
    omega (arith, a.least others b.solution node h line is, b.least states a.solution node h line is)

pub younger_is_one : LeastYoungerIsOne
younger_is_one shape flow part states others a b node member =
    (b.least states a.solution node member, a.least others b.solution node member)
