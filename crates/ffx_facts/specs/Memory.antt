-- What is kept of facts so that none is taken twice.
use Rattle.std.specs.Prelude.{◌≡◌, ℕ, Bool, false, List}
use Rattle.std.specs.List.{list_any}
use Rattle.std.specs.Ordering.{nat_cmp}
use Rattle.std.specs.BTreeSet.{contains}
use Rattle.ffx_facts.specs.declared.kind.Kind.{Kind}
use Rattle.ffx_facts.specs.declared.kind.Kind.TheVariants.{Loop, MultiBranch, MultiCall}
use Rattle.ffx_facts.specs.declared.seen.Seen.{Seen}
use Rattle.ffx_facts.specs.declared.says.Says.{Says}
use Rattle.ffx_facts.specs.Faults.{is_fact_at}

-- whether a fact of this kind was seen at an address
abbrev pub was_seen : Seen → Kind → ℕ → Bool
was_seen seen Loop address = contains nat_cmp seen.loops address
was_seen seen MultiBranch address = contains nat_cmp seen.branches address
was_seen seen MultiCall address = contains nat_cmp seen.calls address
was_seen seen _ address = false

-- exactly the facts of a list were seen
pub record HasSeen (seen : Seen) (all : List Says) : Type 0 where
  pub facts : (kind : Kind) (address : ℕ) → was_seen seen kind address ≡ list_any (is_fact_at kind address) all
