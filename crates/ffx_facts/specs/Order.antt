-- From what elements say to facts in the order of addresses. This project's reading of FFX.
use Rattle.std.specs.Prelude.{ℕ, List, [], ◌∷◌, ◌++◌, map, take_while, Option, Some, if◌then◌else◌}
use Rattle.std.specs.Ordering.{nat_cmp}
use Rattle.std.specs.List.Sorted.{IsPermutation}
use Rattle.std.specs.BTreeSet.{insert_key}
use Rattle.wx_base.specs.declared.facts.Facts.{Facts}
use Rattle.wx_base.specs.declared.facts.LoopFact.{LoopFact}
use Rattle.wx_base.specs.declared.facts.TargetFact.{TargetFact}
use Rattle.wx_base.specs.Facts.{FactsAscend}
use Rattle.ffx_facts.specs.declared.kind.Kind.{Kind}
use Rattle.ffx_facts.specs.declared.kind.Kind.TheVariants.{Loop, MultiBranch, MultiCall, Target}
use Rattle.ffx_facts.specs.declared.says.Bounds.{Bounds}
use Rattle.ffx_facts.specs.declared.says.Says.{Says}
use Rattle.ffx_facts.specs.Pieces.{is_same_kind}

-- the fact of a loop that has bounds
abbrev pub loop_fact : Kind → ℕ → Option Bounds → List LoopFact
loop_fact Loop address (Some bounds) =
    record { address = address; maxcount = bounds.maxcount; totalcount = bounds.totalcount } ∷ []
loop_fact _ address _ = []

-- the facts on loops, in the order of the file
abbrev pub loop_facts : List Says → List LoopFact
loop_facts [] = []
loop_facts (s ∷ all) = loop_fact s.kind s.address s.bounds ++ loop_facts all

-- the targets that come first
abbrev pub leading_targets : List Says → List ℕ
leading_targets all = map (λ s. s.address) (take_while (λ s. is_same_kind s.kind Target) all)

-- addresses, put one after another into others that ascend, each once
abbrev pub put_all : List ℕ → List ℕ → List ℕ
put_all ordered [] = ordered
put_all ordered (address ∷ addresses) = put_all (insert_key nat_cmp ordered address) addresses

-- the facts on jumps or calls, in the order of the file; the targets of each are the elements right behind it
abbrev pub target_facts : Kind → List Says → List TargetFact
target_facts kind [] = []
target_facts kind (s ∷ all) =
    if is_same_kind s.kind kind then record { address = s.address; targets = put_all [] (leading_targets all) } ∷ target_facts kind all
    else target_facts kind all

-- the facts are those that were said, in the order of addresses
pub record AreFacts (all : List Says) (facts : Facts) : Type 0 where
  pub loops : IsPermutation (loop_facts all) facts.loops
  pub branches : IsPermutation (target_facts MultiBranch all) facts.branches
  pub calls : IsPermutation (target_facts MultiCall all) facts.calls
  pub ascend : FactsAscend facts
