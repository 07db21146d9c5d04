-- What misses are charged along a run is within the charges of each scope, once for each stay of it.
use Rattle.std.proofs.Common.{◌≡◌, ℕ, ◌+◌, ◌*◌, ◌≤◌, cond, List, [], ◌∷◌, map, slice_get, refl, sym, ap, subst, ◌∙◌, arith, mul-le-mul_left}
use Rattle.std.specs.Prelude.{Contains, Option, Some, None}
use Rattle.std.specs.Option.{option_map_or}
use Rattle.std.proofs.lemmas.Bool.{eq-eqb}
use Rattle.wx_base.specs.declared.machine.Machine.{Machine}
use Rattle.wx_base.specs.declared.machine.Shape.{Shape}
use Rattle.flow_block.specs.declared.block.SlotKind.TheVariants.{Fetch}
use Rattle.flow_ctx.specs.declared.scope.Scope.{Scope}
use Rattle.flow_ctx.specs.declared.scope.Scope.TheVariants.{Run, Loop}
use Rattle.flow_ctx.specs.declared.unfolded.ULoop.{ULoop}
use Rattle.flow_ctx.specs.declared.unfolded.Unfolded.{Unfolded}
use Rattle.cache_flow.specs.declared.flow.Flow.{Flow}
use Rattle.cache_flow.specs.Flows.{Part}
use Rattle.cache_class.specs.declared.class.Class.TheVariants.{FirstMiss}
use Rattle.cache_class.specs.declared.class.Classes.{Classes}
use Rattle.cache_class.specs.Accesses.{part_of, slots_of}
use Rattle.cache_class.specs.Classes.{AreClasses, IsClass, IsKindClass}
use Rattle.cache_class.specs.Classes.IsClass.{first}
use Rattle.cache_class.specs.Groups.{AreGroups, IsOfGroup}
use Rattle.cert_text.specs.declared.certificate.Charge.{Charge}
use Rattle.cert_rules.specs.Prices.{charges_in, same_scope, sum_places}
use Rattle.cert_rules.specs.Rules.{group_of}
use Rattle.class_laws.specs.Visits.{Visit, misses_in}
use Rattle.bound_laws.proofs.Sums.{as_sum, one_place, places_add, places_same}
use Rattle.bound_laws.proofs.Places.{stands_in, in_front, in_rest}
use Rattle.bound_laws.proofs.Places.Stands.{first as stands_first, other as stands_later}
use Rattle.bound_laws.proofs.Misses.{charged}
use Rattle.bound_laws.proofs.Stays.{begun_of}

-- a scope is the run, or a loop that the unfolding has
pub data IsScope (u : Unfolded) : Scope → Type 0 where
  run : IsScope u Run
  loop : (number : ℕ) (l : ULoop) → slice_get u.loops number ≡ Some l → IsScope u (Loop number)

-- ---- the scopes of groups are there

members_of : Option ULoop → Part
members_of o = option_map_or (λ l. record { head = l.head; members = l.members }) o (record { head = 0; members = [] })

in_loop : (u : Unfolded) (number node : ℕ) (o : Option ULoop) → slice_get u.loops number ≡ o → Contains (members_of o).members node → IsScope u (Loop number)
unfolding members_of
in_loop u number node None is c = absurd (omega (arith, c.1))
in_loop u number node (Some l) is c = loop number l is

scope_of : (u : Unfolded) (scope : Scope) (node : ℕ) → Contains (part_of u scope).members node → IsScope u scope
unfolding members_of
scope_of u Run node c = run
scope_of u (Loop number) node c = in_loop u number node (slice_get u.loops number) refl c

kept_scope : (shape : Shape) (u : Unfolded) (flow : Flow) (node place line : ℕ) (scope : Scope)
    → IsClass shape u flow node place line (FirstMiss scope) → IsScope u scope
kept_scope shape u flow node place line scope (first _ not_held there kept outermost) = scope_of u scope node kept.member

group_scope : (u : Unfolded) (machine : Machine) (classes : Classes) → AreClasses u machine classes → (line number place : ℕ) (scope : Scope)
    → IsOfGroup u classes line scope number place → IsScope u scope
group_scope u machine classes are line number place scope is =
    let node = are.each number is.node is.classes is.stands is.listed in
    let event = node.each place is.slot (FirstMiss scope) is.event is.class in
    let fetch : IsKindClass machine u are.flow number (slots_of u.program is.node) place (Fetch line) (FirstMiss scope) =
    subst (λ kind. IsKindClass machine u are.flow number (slots_of u.program is.node) place kind (FirstMiss scope)) is.fetches event in
    kept_scope machine.shape u are.flow number _ line scope fetch

module _ {A B : Type 0} (f : A → B) where
  contains_made : (xs : List A) (x : A) → Contains xs x → Contains (map f xs) (f x)
  contains_made [] x c = absurd (omega (arith, c.1))
  contains_made (y ∷ xs) x c = elim (stands_in y xs x c) [
    | stands_first same ↦ subst (λ z. Contains (f y ∷ map f xs) (f z)) same (in_front (f y) (map f xs))
    | stands_later d ↦ in_rest (f y) (map f xs) (f x) (contains_made xs x d)
  ]

pub charge_scopes : (u : Unfolded) (machine : Machine) (classes : Classes) (charges : List Charge) → AreClasses u machine classes
    → AreGroups u classes (map group_of charges) → (c : Charge) → Contains charges c → IsScope u c.scope
charge_scopes u machine classes charges are groups c there =
    let group = (groups.exact (group_of c)).0 (contains_made group_of charges c there) in
    group_scope u machine classes are c.line group.number group.place c.scope group.is

-- ---- the charges

module _ (u : Unfolded) (classes : Classes) (visits : List Visit) (walk : List ℕ)
    (once : (line : ℕ) → misses_in classes line Run visits ≤ 1)
    (stays : (number line : ℕ) (l : ULoop) → slice_get u.loops number ≡ Some l → misses_in classes line (Loop number) visits ≤ begun_of u l walk) where
  -- what a charge of a scope comes to
  abbrev share : Scope → ℕ → ℕ → ULoop → ℕ
  share scope amount number l = cond (same_scope scope (Loop number)) amount 0 * begun_of u l walk

  one_charge : (scope : Scope) → IsScope u scope → (line amount : ℕ)
      → amount * misses_in classes line scope visits ≤ cond (same_scope scope Run) amount 0 + sum_places (share scope amount) 0 u.loops
  one_charge scope run line amount = let le = mul-le-mul_left amount (once line) in omega (arith, le)
  one_charge scope (loop number l stands) line amount =
      let le = mul-le-mul_left amount (stays number line l stands) in
      let part = one_place (share (Loop number) amount) 0 number number u.loops l (omega arith) stands in
      let here : share (Loop number) amount number l ≡ amount * begun_of u l walk =
      ap (λ b. cond b amount 0 * begun_of u l walk) (eq-eqb number number refl) in
      omega (arith, le, part, here)

  -- what all charges come to
  abbrev pub all_shares : List Charge → ℕ
  all_shares charges = sum_places (λ number l. charges_in charges (Loop number) * begun_of u l walk) 0 u.loops

  charges_more : (scope : Scope) (c : Charge) (charges : List Charge) → charges_in (c ∷ charges) scope ≡ cond (same_scope c.scope scope) c.amount 0 + charges_in charges scope
  charges_more scope c charges =
      let f : Charge → ℕ = λ d. cond (same_scope d.scope scope) d.amount 0 in
      as_sum f (c ∷ charges) ∙ ap (λ n. f c + n) (sym (as_sum f charges))

  pub charges_are_within : (charges : List Charge) → ((c : Charge) → Contains charges c → IsScope u c.scope)
      → charged charges (λ c. misses_in classes c.line c.scope visits) ≤ charges_in charges Run + all_shares charges
  charges_are_within [] scopes = omega arith
  charges_are_within (c ∷ charges) scopes =
      let rest = charges_are_within charges (λ d there. scopes d (in_rest c charges d there)) in
      let one = one_charge c.scope (scopes c (in_front c charges)) c.line c.amount in
      let run_more = charges_more Run c charges in
      let split = places_same (λ number l. charges_in (c ∷ charges) (Loop number) * begun_of u l walk)
      (λ number l. share c.scope c.amount number l + charges_in charges (Loop number) * begun_of u l walk) 0 u.loops
      (λ number l. let e = ap (λ n. n * begun_of u l walk) (charges_more (Loop number) c charges) in e ∙ omega arith) in
      let both = places_add (share c.scope c.amount) (λ number l. charges_in charges (Loop number) * begun_of u l walk) 0 u.loops in
      omega (arith, rest, one, run_more, split, both)
