-- What a user says of a program's flow, as lists in the order of addresses. This project's own.
use Rattle.std.specs.Prelude.{ℕ, ◌<◌, ◌==◌, List, [], AllPairs, All, find}
use Rattle.std.specs.Option.{option_map_or}
use Rattle.wx_base.specs.declared.facts.Facts.{Facts}
use Rattle.wx_base.specs.declared.facts.LoopFact.{LoopFact}
use Rattle.wx_base.specs.declared.facts.TargetFact.{TargetFact}

-- each address is below those behind it, so none stands twice
abbrev pub AreAscending : List ℕ → Type 0
AreAscending addresses = AllPairs (λ a b. a < b) addresses

-- the facts on loops are in the order of the loops' heads, no head twice
abbrev pub LoopsAscend : List LoopFact → Type 0
LoopsAscend facts = AllPairs (λ f g. f.address < g.address) facts

-- the facts on jumps or calls are in the order of these, none twice, and so are the targets of each
pub record TargetsAscend (facts : List TargetFact) : Type 0 where
  pub addresses : AllPairs (λ f g. f.address < g.address) facts
  pub targets : All (λ f. AreAscending f.targets) facts

-- all lists of the facts ascend
pub record FactsAscend (facts : Facts) : Type 0 where
  pub loops : LoopsAscend facts.loops
  pub branches : TargetsAscend facts.branches
  pub calls : TargetsAscend facts.calls

-- the targets that facts on jumps or calls list for an instruction; none where they do not name it
abbrev pub targets_of : List TargetFact → ℕ → List ℕ
targets_of facts address = option_map_or (λ fact. fact.targets) (find (λ fact. fact.address == address) facts) []
