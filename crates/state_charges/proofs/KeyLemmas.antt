-- The positions of groups, noted one by one.
use Rattle.std.proofs.Common.{◌≡◌, ℕ, ◌+◌, ◌<◌, ◌≤◌, Bool, true, false, ◌&&◌, cond, eqb, List, [], length, get_or, slice_get, Option, Some, refl, sym, ap, subst, ◌∙◌, inl, inr, arith}
use Rattle.std.specs.List.{AllPairs}
use Rattle.std.proofs.lemmas.Bool.{cases_Bool, cases_lt, false≢true, eqb-true, eq-eqb}
use Rattle.std.proofs.lemmas.Option.{get_or_from_slice_get, same_Some, slice_get_within}
use Rattle.flow_ctx.specs.declared.scope.Scope.{Scope}
use Rattle.flow_ctx.specs.declared.scope.Scope.TheVariants.{Run, Loop}
use Rattle.cache_class.specs.declared.group.Group.{Group}
use Rattle.cache_class.specs.Groups.{IsGroupBefore, IsScopeBefore}
use Rattle.state_charges.specs.Misses.{ArePlaces, key_of, number_of, place_in, same_key, same_number}

-- the positions of the first groups
pub record FirstPlaces (groups : List Group) (i : ℕ) (entries : List ((ℕ × Option ℕ) × ℕ)) : Type 0 where
  pub sound : (group : Group) (place : ℕ) → place_in entries group ≡ Some place → slice_get groups place ≡ Some group
  pub whole : (group : Group) (place : ℕ) → place < i → slice_get groups place ≡ Some group → place_in entries group ≡ Some place

pub no_place : (groups : List Group) → FirstPlaces groups 0 []
no_place groups = record { sound = λ group place e. absurd (cc); whole = λ group place less at. absurd (omega (arith, less)) }

both_true : (a b : Bool) → (a && b) ≡ true → (a ≡ true) × (b ≡ true)
both_true true b e = (refl, e)
both_true false b e = absurd (false≢true e)

one_scope : (s t : Scope) → same_number (number_of s) (number_of t) ≡ true → s ≡ t
one_scope Run Run e = refl
one_scope Run (Loop m) e = absurd (false≢true e)
one_scope (Loop n) Run e = absurd (false≢true e)
one_scope (Loop n) (Loop m) e = ap Loop (eqb-true n m e)

own_scope : (s : Scope) → same_number (number_of s) (number_of s) ≡ true
own_scope Run = refl
own_scope (Loop n) = eq-eqb n n refl

-- groups with one key are one
one_group : (g h : Group) → same_key (key_of g) (key_of h) ≡ true → g ≡ h
one_group g h e =
    let both = both_true (eqb g.line h.line) (same_number (number_of g.scope) (number_of h.scope)) e in
    let line : g.line ≡ h.line = eqb-true g.line h.line both.0 in
    let scope : g.scope ≡ h.scope = one_scope g.scope h.scope both.1 in
    ap (λ (n : ℕ). record { line = n; scope = g.scope }) line ∙ ap (λ (s : Scope). record { line = h.line; scope = s }) scope

own_key : (g : Group) → same_key (key_of g) (key_of g) ≡ true
own_key g = ap (λ (b : Bool). b && same_number (number_of g.scope) (number_of g.scope)) (eq-eqb g.line g.line refl) ∙ own_scope g.scope

not_before : (s : Scope) → IsScopeBefore s s → ⊥
not_before Run e = e
not_before (Loop n) e = omega (arith, e)

-- no group stands before itself
not_earlier : (g : Group) → IsGroupBefore g g → ⊥
not_earlier g (inl less) = omega (arith, less)
not_earlier g (inr (same, before)) = not_before g.scope before

-- a group stands at one position
one_place : (groups : List Group) → AllPairs IsGroupBefore groups → (i j : ℕ) (g : Group) → slice_get groups i ≡ Some g → slice_get groups j ≡ Some g → i < j → ⊥
one_place groups up i j g at there less =
    not_earlier g
    (subst (λ (x : Group). IsGroupBefore x g) (get_or_from_slice_get groups i g g at)
    (subst (λ (y : Group). IsGroupBefore (get_or groups i g) y) (get_or_from_slice_get groups j g g there)
    (up i j g less (slice_get_within groups j g there))))

module _ (groups : List Group) (up : AllPairs IsGroupBefore groups) (i : ℕ) (group : Group) (at : slice_get groups i ≡ Some group)
    (old new : List ((ℕ × Option ℕ) × ℕ))
    (made : (other : Group) → place_in new other ≡ cond (same_key (key_of group) (key_of other)) (Some i) (place_in old other))
    (were : FirstPlaces groups i old) where
  more_sound : (other : Group) (place : ℕ) → place_in new other ≡ Some place → slice_get groups place ≡ Some other
  more_sound other place e = elim (cases_Bool (same_key (key_of group) (key_of other))) [
    | inl same ↦
        let now : Some i ≡ Some place = sym (made other ∙ ap (λ (b : Bool). cond b (Some i) (place_in old other)) same) ∙ e in
        let here : i ≡ place = same_Some i place now in
        subst (λ (k : ℕ). slice_get groups k ≡ Some other) here (at ∙ ap (λ (g : Group). Some g) (one_group group other same))
    | inr apart ↦ were.sound other place (sym (made other ∙ ap (λ (b : Bool). cond b (Some i) (place_in old other)) apart) ∙ e)
  ]

  more_whole : (other : Group) (place : ℕ) → place < i + 1 → slice_get groups place ≡ Some other → place_in new other ≡ Some place
  more_whole other place less there = elim (cases_lt place i) [
    | inl before ↦ elim (cases_Bool (same_key (key_of group) (key_of other))) [
      | inl same ↦ absurd (one_place groups up place i other there (at ∙ ap (λ (g : Group). Some g) (one_group group other same)) before)
      | inr apart ↦ made other ∙ (ap (λ (b : Bool). cond b (Some i) (place_in old other)) apart ∙ were.whole other place before there)
    ]
    | inr behind ↦
        let last : place ≡ i = omega (arith, behind, less) in
        let is : group ≡ other = same_Some group other (sym at ∙ (sym (ap (slice_get groups) last) ∙ there)) in
        let same : same_key (key_of group) (key_of other) ≡ true = subst (λ (g : Group). same_key (key_of group) (key_of g) ≡ true) is (own_key group) in
        made other ∙ (ap (λ (b : Bool). cond b (Some i) (place_in old other)) same ∙ ap (λ (k : ℕ). Some k) (sym last))
  ]

  -- one group more
  pub one_place_more : FirstPlaces groups (i + 1) new
  one_place_more = record { sound = more_sound; whole = more_whole }

-- all groups
pub all_places : (groups : List Group) (i : ℕ) (entries : List ((ℕ × Option ℕ) × ℕ)) → length groups ≤ i → FirstPlaces groups i entries → ArePlaces groups entries
all_places groups i entries done were = record {
  sound = were.sound;
  whole = λ group place at. were.whole group place (omega (arith, done, slice_get_within groups place group at)) at;
}
