-- Verdicts, access by access and node by node.
use Rattle.std.proofs.Common.{◌≡◌, ℕ, zero, suc, ◌+◌, ◌<◌, ◌≤◌, ◌⊎◌, Bool, true, false, List, [], ◌∷◌, ◌++◌, length, take, get_or, Option, Some, refl, sym, ap, ◌∙◌, subst, inl, inr, arith, length-append}
use Rattle.std.specs.List.{All, slice_get}
use Rattle.std.proofs.lemmas.Bool.{cases_Bool, cases_lt, true≢false, false≢true}
use Rattle.std.specs.Option.{option_map_or}
use Rattle.std.proofs.lemmas.Option.{same_Some, slice_get_within, get_or_from_slice_get}
use Rattle.std.proofs.lemmas.List.Elements.{All-get_or}
use Rattle.wx_base.specs.declared.machine.Shape.{Shape}
use Rattle.wx_base.specs.CacheStates.{must_hold, may_hold, must_start}
use Rattle.cache_ages.specs.Bounds.{Bounds, must_ages, may_ages, is_one_of, AreFor}
use Rattle.cache_flow.specs.declared.flow.Flow.{Flow}
use Rattle.cache_flow.specs.Flows.{IsFlow, accesses_of}
use Rattle.cache_flow.specs.Solutions.{must_along, may_along, must_at, may_at, IsLeastMust, IsLeastMay}
use Rattle.cache_flow.specs.Shown.{IsHeld, IsBarred, LeastMustShows, LeastMayShows}
use Rattle.cache_solve.specs.Orders.{must_table, may_table}
use Rattle.cache_sets.specs.declared.verdict.Verdict.{Verdict}
use Rattle.cache_sets.specs.declared.verdict.Verdict.TheVariants.{Held, Barred, Unsure}
use Rattle.cache_sets.specs.Verdicts.{verdict_of, AreVerdictsOf, IsVerdict, AreNodeVerdicts, AreVerdicts}
use Rattle.cache_sets.specs.Verdicts.IsVerdict.{held, barred, unsure}

-- ---- a list that grows by an element

get_front : {X : Type 0} (xs : List X) (x : X) (n : ℕ) → n < length xs → slice_get (xs ++ x ∷ []) n ≡ slice_get xs n
get_front [] x n h = absurd (omega arith)
get_front (y ∷ xs) x zero h = refl
get_front (y ∷ xs) x (suc n) h = get_front xs x n (omega arith)

get_last : {X : Type 0} (xs : List X) (x : X) → slice_get (xs ++ x ∷ []) (length xs) ≡ Some x
get_last [] x = refl
get_last (y ∷ xs) x = get_last xs x

pub get_cases : {X : Type 0} (xs : List X) (x : X) (n : ℕ) (y : X) → slice_get (xs ++ x ∷ []) n ≡ Some y → ((n ≡ length xs) × (x ≡ y)) ⊎ (slice_get xs n ≡ Some y)
get_cases [] x zero y e = inl (refl, same_Some x y e)
get_cases [] x (suc n) y e = absurd (omega (arith, slice_get_within (x ∷ []) (suc n) y e))
get_cases (z ∷ xs) x zero y e = inr e
get_cases (z ∷ xs) x (suc n) y e = elim (get_cases xs x n y e) [
  | inl p ↦ inl (ap suc p.0, p.1)
  | inr q ↦ inr q
]

-- ---- the accesses of a node

-- the verdict that states tell of an access
abbrev pub told_at : Bounds → Bounds → List ℕ → ℕ → ℕ → Verdict
told_at must may accesses place line =
    verdict_of (must_hold must.shape (must_along must.shape (must_ages must) (take place accesses)) line)
    (may_hold may.shape (may_along may.shape (may_ages may) (take place accesses)) line)

pub record ToldSoFar (must may : Bounds) (accesses : List ℕ) (i : ℕ) (verdicts : List Verdict) : Type 0 where
  pub long : length verdicts ≡ i
  pub each : (place line : ℕ) → place < i → slice_get accesses place ≡ Some line → slice_get verdicts place ≡ Some (told_at must may accesses place line)

pub told_none : (must may : Bounds) (accesses : List ℕ) → ToldSoFar must may accesses 0 []
told_none must may accesses = record { long = refl; each = λ place line h e. absurd (omega arith) }

pub told_more : (must may : Bounds) (accesses : List ℕ) (i line : ℕ) (old new : List Verdict) (verdict : Verdict) → slice_get accesses i ≡ Some line
    → verdict ≡ told_at must may accesses i line → new ≡ old ++ verdict ∷ [] → ToldSoFar must may accesses i old → ToldSoFar must may accesses (i + 1) new
told_more must may accesses i line old new verdict at is grown so = record {
  long = ap length grown ∙ length-append old (verdict ∷ []) ∙ ap (λ n. n + 1) so.long;
  each = λ place other h e. elim (cases_lt place i) [
    | inl lt ↦ ap (λ vs. slice_get vs place) grown ∙ get_front old verdict place (omega (arith, lt, so.long)) ∙ so.each place other lt e
    | inr ge ↦
        let here : place ≡ i = omega (arith, h, ge) in
        let same : line ≡ other = same_Some line other (sym at ∙ ap (slice_get accesses) (sym here) ∙ e) in
        ap (λ vs. slice_get vs place) grown ∙ ap (slice_get (old ++ verdict ∷ [])) (here ∙ sym so.long) ∙ get_last old verdict
        ∙ ap Some (is ∙ (λ j. told_at must may accesses ((sym here) j) (same j)))
  ];
}

pub told_all : (must may : Bounds) (accesses : List ℕ) (verdicts : List Verdict) → ToldSoFar must may accesses (length accesses) verdicts → AreVerdictsOf must may accesses verdicts
told_all must may accesses verdicts so = record {
  long = so.long;
  each = λ place line e. so.each place line (slice_get_within accesses place line e) e;
}

-- ---- what verdicts say

decided : (shape : Shape) (flow : Flow) (node place line : ℕ) (m b : Bool) → ((m ≡ true → IsHeld shape flow node place line) × (IsHeld shape flow node place line → m ≡ true))
    → ((b ≡ false → IsBarred shape flow node place line) × (IsBarred shape flow node place line → b ≡ false)) → IsVerdict shape flow node place line (verdict_of m b)
decided shape flow node place line true b held_is barred_is = held (held_is.0 refl)
decided shape flow node place line false true held_is barred_is = unsure (λ h. false≢true (held_is.1 h)) (λ h. true≢false (barred_is.1 h))
decided shape flow node place line false false held_is barred_is = barred (λ h. false≢true (held_is.1 h)) (barred_is.0 refl)

module _ (shape : Shape) (flow : Flow) (is : IsFlow flow) (must_shows : LeastMustShows) (may_shows : LeastMayShows) (musts mays : List Bounds)
    (must_least : IsLeastMust shape flow (must_table shape musts)) (may_least : IsLeastMay shape flow (may_table mays)) where
  pub node_told : (node : ℕ) (must may : Bounds) (verdicts : List Verdict) → node < length flow.nodes → slice_get musts node ≡ Some must → slice_get mays node ≡ Some may
      → AreFor must shape flow.lines → AreFor may shape flow.lines → All (λ line. is_one_of flow.lines line ≡ true) (accesses_of flow node)
      → AreVerdictsOf must may (accesses_of flow node) verdicts → AreNodeVerdicts shape flow node verdicts
  node_told node must may verdicts inside at_must at_may of_must of_may listed told = record {
    long = told.long;
    each = λ place line verdict e v.
        let one = one_listed (accesses_of flow node) place line listed e in
        let m : must_hold must.shape (must_along must.shape (must_ages must) (take place (accesses_of flow node))) line ≡ must_hold shape (must_at shape flow (must_table shape musts) node place) line =
        λ i. must_hold (of_must.shape i) (must_along (of_must.shape i) (must_here i) (take place (accesses_of flow node))) line in
        let b : may_hold may.shape (may_along may.shape (may_ages may) (take place (accesses_of flow node))) line ≡ may_hold shape (may_at shape flow (may_table mays) node place) line =
        λ i. may_hold (of_may.shape i) (may_along (of_may.shape i) (may_here i) (take place (accesses_of flow node))) line in
        let same : verdict ≡ verdict_of (must_hold shape (must_at shape flow (must_table shape musts) node place) line) (may_hold shape (may_at shape flow (may_table mays) node place) line) =
        sym (same_Some (told_at must may (accesses_of flow node) place line) verdict (sym (told.each place line e) ∙ v)) ∙ (λ i. verdict_of (m i) (b i)) in
        subst (IsVerdict shape flow node place line) (sym same)
        (decided shape flow node place line (must_hold shape (must_at shape flow (must_table shape musts) node place) line) (may_hold shape (may_at shape flow (may_table mays) node place) line)
        (must_shows shape flow (must_table shape musts) node place line is must_least inside one)
        (may_shows shape flow (may_table mays) node place line is may_least inside one));
  }
    where
      must_here : must_ages must ≡ must_table shape musts node
      must_here = sym (ap (λ (o : Option Bounds). option_map_or must_ages o (must_start shape)) at_must)

      may_here : may_ages may ≡ may_table mays node
      may_here = sym (ap (λ (o : Option Bounds). option_map_or may_ages o (λ line. 0)) at_may)

      one_listed : (xs : List ℕ) (place line : ℕ) → All (λ n. is_one_of flow.lines n ≡ true) xs → slice_get xs place ≡ Some line → is_one_of flow.lines line ≡ true
      one_listed xs place line all e =
          subst (λ n. is_one_of flow.lines n ≡ true) (get_or_from_slice_get xs place line 0 e) (All-get_or (λ n. is_one_of flow.lines n ≡ true) xs place 0 (slice_get_within xs place line e) all)

-- the verdicts of the first nodes are those that their states tell
pub record NodesToldSoFar (flow : Flow) (musts mays : List Bounds) (i : ℕ) (verdicts : List (List Verdict)) : Type 0 where
  pub long : length verdicts ≡ i
  pub each : (node : ℕ) (must may : Bounds) (told : List Verdict) → slice_get musts node ≡ Some must → slice_get mays node ≡ Some may → slice_get verdicts node ≡ Some told
      → AreVerdictsOf must may (accesses_of flow node) told

pub nodes_none : (flow : Flow) (musts mays : List Bounds) → NodesToldSoFar flow musts mays 0 []
nodes_none flow musts mays = record { long = refl; each = λ node must may told e f g. absurd (omega (arith, slice_get_within {A = List Verdict} [] node told g)) }

-- one node more
pub nodes_more : (flow : Flow) (musts mays : List Bounds) (i : ℕ) (old new : List (List Verdict)) (told : List Verdict) (must may : Bounds)
    → slice_get musts i ≡ Some must → slice_get mays i ≡ Some may → AreVerdictsOf must may (accesses_of flow i) told → new ≡ old ++ told ∷ []
    → NodesToldSoFar flow musts mays i old → NodesToldSoFar flow musts mays (i + 1) new
nodes_more flow musts mays i old new told must may at_must at_may is grown so = record {
  long = ap length grown ∙ length-append old (told ∷ []) ∙ ap (λ n. n + 1) so.long;
  each = λ node m y ts e f g. elim (get_cases old told node ts (ap (λ xs. slice_get xs node) (sym grown) ∙ g)) [
    | inl p ↦
        let here : node ≡ i = p.0 ∙ so.long in
        let m_is : must ≡ m = same_Some must m (sym at_must ∙ ap (slice_get musts) (sym here) ∙ e) in
        let y_is : may ≡ y = same_Some may y (sym at_may ∙ ap (slice_get mays) (sym here) ∙ f) in
        subst (λ k. AreVerdictsOf m y (accesses_of flow k) ts) (sym here)
        (subst (AreVerdictsOf m y (accesses_of flow i)) p.1
        (subst (λ z. AreVerdictsOf m z (accesses_of flow i) told) y_is (subst (λ z. AreVerdictsOf z may (accesses_of flow i) told) m_is is)))
    | inr q ↦ so.each node m y ts e f q
  ];
}

element : {X : Type 0} (xs : List X) (n : ℕ) → n < length xs → (x : X) × (slice_get xs n ≡ Some x)
element [] n h = absurd (omega arith)
element (x ∷ xs) zero h = (x, refl)
element (x ∷ xs) (suc n) h = element xs n (omega arith)

-- and all of them together are right
pub all_told : (shape : Shape) (flow : Flow) → IsFlow flow → LeastMustShows → LeastMayShows → (musts mays : List Bounds)
    → IsLeastMust shape flow (must_table shape musts) → IsLeastMay shape flow (may_table mays) → length musts ≡ length flow.nodes → length mays ≡ length flow.nodes
    → ((n : ℕ) (b : Bounds) → slice_get musts n ≡ Some b → AreFor b shape flow.lines) → ((n : ℕ) (b : Bounds) → slice_get mays n ≡ Some b → AreFor b shape flow.lines)
    → (verdicts : List (List Verdict)) → NodesToldSoFar flow musts mays (length flow.nodes) verdicts → AreVerdicts shape flow verdicts
all_told shape flow is must_shows may_shows musts mays must_least may_least must_long may_long must_each may_each verdicts so = record {
  long = so.long;
  each = λ node told e.
      let inside : node < length flow.nodes = omega (arith, slice_get_within verdicts node told e, so.long) in
      let must = element musts node (omega (arith, inside, must_long)) in
      let may = element mays node (omega (arith, inside, may_long)) in
      node_told shape flow is must_shows may_shows musts mays must_least may_least node must.0 may.0 told inside must.1 may.1
      (must_each node must.0 must.1) (may_each node may.0 may.1) (All-get_or (λ accesses. All (λ line. is_one_of flow.lines line ≡ true) accesses) flow.nodes node [] inside is.listed)
      (so.each node must.0 may.0 told must.1 may.1 e);
}
