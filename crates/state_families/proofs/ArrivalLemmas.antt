-- What arrives is gathered edge by edge and vector by vector.
use Rattle.std.proofs.Common.{◌≡◌, ◌⊎◌, ◌↔◌, ℕ, ◌^◌, ◌≤◌, List, [], ◌∷◌, ◌++◌, take, slice_get, Some, sym, ap, subst, ◌∙◌, inl, inr, arith}
use Rattle.std.specs.List.{Contains}
use Rattle.std.proofs.lemmas.List.Elements.{Contains-append_cases, Contains-append_left, Contains-append_right, Contains-push, Contains-push_cases}
use Rattle.std.proofs.lemmas.Option.{same_Some}
use Rattle.wx_base.specs.declared.machine.Machine.{Machine}
use Rattle.wx_base.specs.Vector.{AreWithin}
use Rattle.flow_ctx.specs.declared.unfolded.Edge.{Edge}
use Rattle.flow_ctx.specs.declared.unfolded.Unfolded.{Unfolded}
use Rattle.cache_class.specs.declared.class.Classes.{Classes}
use Rattle.state_families.specs.declared.node_set.NodeSet.{NodeSet}
use Rattle.state_families.specs.Families.{IsExitOf, IsListedAt}
use Rattle.state_families.specs.Fresh.{AreReached, IsBounded}
use Rattle.state_families.specs.Leaving.{IsExitAmong, IsExitFrom}

-- slots within the horizon are small
pub small_of : (bound : ℕ) (slots : List ℕ) → bound ≤ 4095 → IsBounded bound slots → AreWithin (10 ^ 18) slots
small_of bound slots few b = record { each = λ k. omega (arith, few, b.within.each k) }

module _ (u : Unfolded) (m : Machine) (classes : Classes) where
  -- before the first vector
  pub from_none : (edge : Edge) (sources arrivals : List (List ℕ)) (slots : List ℕ)
      → Contains arrivals slots ↔ (Contains arrivals slots ⊎ IsExitFrom u m classes edge (take 0 sources) slots)
  from_none edge sources arrivals slots = (λ c. inl c, λ e. elim e [ inl c ↦ c | inr x ↦ absurd (omega (arith, x.listed.1)) ])

  -- one vector more
  pub from_more : (edge : Edge) (some more : List (List ℕ)) (source : List ℕ) (before between after list : List (List ℕ)) → more ≡ some ++ source ∷ [] → after ≡ between ++ list
      → ((slots : List ℕ) → Contains list slots ↔ IsExitOf u m classes edge source slots)
      → ((slots : List ℕ) → Contains between slots ↔ (Contains before slots ⊎ IsExitFrom u m classes edge some slots))
      → (slots : List ℕ) → Contains after slots ↔ (Contains before slots ⊎ IsExitFrom u m classes edge more slots)
  from_more edge some more source before between after list more_is after_is exact so_far slots = (told, back)
    where
      here : Contains more source
      here = subst (λ (xs : List (List ℕ)). Contains xs source) (sym more_is) (Contains-push some source)

      later : IsExitFrom u m classes edge some slots → IsExitFrom u m classes edge more slots
      later x = record {
        source = x.source;
        listed = subst (λ (xs : List (List ℕ)). Contains xs x.source) (sym more_is) (Contains-append_left some (source ∷ []) x.source x.listed);
        exits = x.exits;
      }

      told : Contains after slots → Contains before slots ⊎ IsExitFrom u m classes edge more slots
      told c = elim (Contains-append_cases between list slots (subst (λ (xs : List (List ℕ)). Contains xs slots) after_is c)) [
        | inl b ↦ elim ((so_far slots).0 b) [ inl k ↦ inl k | inr x ↦ inr (later x) ]
        | inr l ↦ inr (record { source = source; listed = here; exits = (exact slots).0 l })
      ]

      back : Contains before slots ⊎ IsExitFrom u m classes edge more slots → Contains after slots
      back e = subst (λ (xs : List (List ℕ)). Contains xs slots) (sym after_is) (elim e [
        | inl k ↦ Contains-append_left between list slots ((so_far slots).1 (inl k))
        | inr x ↦ elim (Contains-push_cases some source x.source (subst (λ (xs : List (List ℕ)). Contains xs x.source) more_is x.listed)) [
          | inl c ↦ Contains-append_left between list slots ((so_far slots).1 (inr (record { source = x.source; listed = c; exits = x.exits })))
          | inr same ↦
              Contains-append_right between list slots ((exact slots).1 (subst (λ (s : List ℕ). IsExitOf u m classes edge s slots) (sym same) x.exits))
        ]
      ])

  -- all vectors of a list
  pub from_all : (edge : Edge) (some sources : List (List ℕ)) (before after : List (List ℕ)) → some ≡ sources
      → ((slots : List ℕ) → Contains after slots ↔ (Contains before slots ⊎ IsExitFrom u m classes edge some slots))
      → (slots : List ℕ) → Contains after slots ↔ (Contains before slots ⊎ IsExitFrom u m classes edge sources slots)
  from_all edge some sources before after is so_far =
      subst (λ (xs : List (List ℕ)). (slots : List ℕ) → Contains after slots ↔ (Contains before slots ⊎ IsExitFrom u m classes edge xs slots)) is so_far

  module _ (fresh : List (List (List ℕ))) where
    -- before the first edge
    pub among_none : (numbers : List ℕ) (slots : List ℕ) → Contains [] slots ↔ IsExitAmong u m classes (take 0 numbers) fresh slots
    among_none numbers slots = (λ c. absurd (omega (arith, c.1)), λ x. absurd (omega (arith, x.among.1)))

    -- one edge more
    pub among_more : (some more : List ℕ) (number : ℕ) (edge : Edge) (sources between after : List (List ℕ)) → more ≡ some ++ number ∷ []
        → slice_get u.edges number ≡ Some edge → slice_get fresh edge.from ≡ Some sources
        → ((slots : List ℕ) → Contains after slots ↔ (Contains between slots ⊎ IsExitFrom u m classes edge sources slots))
        → ((slots : List ℕ) → Contains between slots ↔ IsExitAmong u m classes some fresh slots)
        → (slots : List ℕ) → Contains after slots ↔ IsExitAmong u m classes more fresh slots
    among_more some more number edge sources between after more_is at listed exact so_far slots = (told, back)
      where
        here : Contains more number
        here = subst (λ (xs : List ℕ). Contains xs number) (sym more_is) (Contains-push some number)

        later : IsExitAmong u m classes some fresh slots → IsExitAmong u m classes more fresh slots
        later x = record {
          number = x.number;
          edge = x.edge;
          among = subst (λ (xs : List ℕ). Contains xs x.number) (sym more_is) (Contains-append_left some (number ∷ []) x.number x.among);
          stands = x.stands;
          source = x.source;
          listed = x.listed;
          exits = x.exits;
        }

        told : Contains after slots → IsExitAmong u m classes more fresh slots
        told c = elim ((exact slots).0 c) [
          | inl b ↦ later ((so_far slots).0 b)
          | inr x ↦ record {
            number = number;
            edge = edge;
            among = here;
            stands = at;
            source = x.source;
            listed = record { list = sources; stands = listed; listed = x.listed };
            exits = x.exits;
          }
        ]

        back : IsExitAmong u m classes more fresh slots → Contains after slots
        back x = elim (Contains-push_cases some number x.number (subst (λ (xs : List ℕ). Contains xs x.number) more_is x.among)) [
          | inl c ↦ (exact slots).1 (inl ((so_far slots).1 (record {
            number = x.number;
            edge = x.edge;
            among = c;
            stands = x.stands;
            source = x.source;
            listed = x.listed;
            exits = x.exits;
          })))
          | inr same ↦
              let one : edge ≡ x.edge = same_Some edge x.edge (sym at ∙ ap (λ (n : ℕ). slice_get u.edges n) same ∙ x.stands) in
              let exits = subst (λ (e : Edge). IsExitOf u m classes e x.source slots) (sym one) x.exits in
              let there : slice_get fresh edge.from ≡ Some x.listed.list = ap (λ (e : Edge). slice_get fresh e.from) one ∙ x.listed.stands in
              let list : x.listed.list ≡ sources = same_Some x.listed.list sources (sym there ∙ listed) in
              (exact slots).1 (inr (record { source = x.source; listed = subst (λ (xs : List (List ℕ)). Contains xs x.source) list x.listed.listed; exits = exits }))
        ]

-- what is new in rounds is small
pub reached_small : (Exits : ℕ → ℕ → List ℕ → List ℕ → Type 0) (states bound count start : ℕ) (sets : List NodeSet) (fresh : List (List (List ℕ))) → bound ≤ 4095
    → AreReached Exits states bound count start sets fresh → (node : ℕ) (slots : List ℕ) → IsListedAt fresh node slots → AreWithin (10 ^ 18) slots
reached_small Exits states bound count start sets fresh few r node slots l =
    let w = r.listed node slots l in
    small_of bound slots few ((r.sound node w.set w.stands).bounded slots w.listed)
