-- How often the back edges of a loop are taken: at most its bound for each time that a walk enters it, and for a start at its head.
use Rattle.std.proofs.Common.{◌≡◌, ℕ, zero, suc, ◌+◌, ◌*◌, ◌<◌, ◌≤◌, ◌++◌, ◌==◌, ◌||◌, true, false, List, [], ◌∷◌, slice_get, length, append_assoc, refl, sym, ap, subst, ◌∙◌, inl, inr, arith}
use Rattle.std.specs.Prelude.{Contains, Some}
use Rattle.std.proofs.lemmas.Bool.{cases_eq, eq-eqb, ne_eqb}
use Rattle.std.proofs.lemmas.Option.{same_Some}
use Rattle.flow_graph.specs.declared.program.Program.{Program}
use Rattle.flow_ctx.specs.declared.unfolded.Edge.{Edge}
use Rattle.flow_ctx.specs.declared.unfolded.ULoop.{ULoop}
use Rattle.flow_ctx.specs.declared.unfolded.Unfolded.{Unfolded}
use Rattle.flow_ctx.specs.Stays.{IsWalk, StaysInLoop, Takes}
use Rattle.flow_ctx.specs.Stays.IsWalk.{starts as walk_starts, goes}
use Rattle.flow_ctx.specs.Stays.StaysInLoop.{starts, enters, repeats, moves}
use Rattle.flow_ctx.specs.Stays.Takes.{none, one, other}
use Rattle.flow_ctx.specs.Unfolding.{IsLoop}
use Rattle.ctx_laws.specs.Following.{IsInStay, IsPartTo}
use Rattle.wx_base.specs.Monitor.{is_one_of}
use Rattle.bound_laws.proofs.Sums.{bit}
use Rattle.bound_laws.proofs.Walks.{taken_of}

-- ---- a list of edges has an edge exactly if the test says so

pub data Among (edges : List ℕ) (e : ℕ) : Type 0 where
  present : is_one_of edges e ≡ true → Contains edges e → Among edges e
  missing : is_one_of edges e ≡ false → (Contains edges e → ⊥) → Among edges e

not_first : (x e : ℕ) (edges : List ℕ) → (x ≡ e → ⊥) → (Contains edges e → ⊥) → Contains (x ∷ edges) e → ⊥
not_first x e edges apart absent (zero, h, is) = apart is
not_first x e edges apart absent (suc k, h, is) = absent (k, (let l : k < length edges = omega arith in l), is)

pub among : (edges : List ℕ) (e : ℕ) → Among edges e
among [] e = missing refl (λ c. absurd (omega (arith, c.1)))
among (x ∷ edges) e = elim (cases_eq x e) [
  | inl same ↦ present (ap (λ b. b || is_one_of edges e) (eq-eqb x e same)) (0, (let l : 0 < length (x ∷ edges) = omega arith in l), same)
  | inr apart ↦ elim (among edges e) [
    | present is there ↦ present (ap (λ b. b || is_one_of edges e) (ne_eqb x e apart) ∙ is) (suc there.0, (let l : suc there.0 < length (x ∷ edges) = omega (arith, there.1) in l), there.2)
    | missing is absent ↦ missing (ap (λ b. b || is_one_of edges e) (ne_eqb x e apart) ∙ is) (not_first x e edges apart absent)
  ]
]

pub bit_yes : (edges : List ℕ) (e : ℕ) → is_one_of edges e ≡ true → bit (is_one_of edges e) ≡ 1
unfolding bit
bit_yes edges e is = ap bit is

pub bit_no : (edges : List ℕ) (e : ℕ) → is_one_of edges e ≡ false → bit (is_one_of edges e) ≡ 0
unfolding bit
bit_no edges e is = ap bit is

-- the count is the one that walks are said to take
pub takes : (edges walk : List ℕ) → Takes edges walk (taken_of edges walk)
takes edges [] = none
takes edges (e ∷ walk) = elim (among edges e) [
  | present is there ↦
      let bits = bit_yes edges e is in
      let count : taken_of edges walk + 1 ≡ taken_of edges (e ∷ walk) = omega arith in
      subst (λ n. Takes edges (e ∷ walk) n) count (one e walk (taken_of edges walk) there (takes edges walk))
  | missing is absent ↦
      let bits = bit_no edges e is in
      let count : taken_of edges walk ≡ taken_of edges (e ∷ walk) = omega arith in
      subst (λ n. Takes edges (e ∷ walk) n) count (other e walk (taken_of edges walk) absent (takes edges walk))
]

-- ---- one loop

-- how many stays in a loop have begun behind a walk
abbrev pub begun_of : Unfolded → ULoop → List ℕ → ℕ
begun_of u l walk = taken_of l.entries walk + bit (u.start == l.head)

module _ (program : Program) (u : Unfolded) (l : ULoop) (loop : IsLoop program u.nodes u.edges l) where
  one_edge : (e : ℕ) (f g : Edge) → slice_get u.edges e ≡ Some f → slice_get u.edges e ≡ Some g → f ≡ g
  one_edge e f g a b = same_Some f g (sym a ∙ b)

  not_both : (e : ℕ) → Contains l.entries e → Contains l.back e → ⊥
  not_both e c d =
      let entry = (loop.entries e).0 c in
      let back = (loop.back e).0 d in
      entry.outside (subst (λ (x : Edge). Contains l.members x.from) (one_edge e back.edge entry.edge back.stands entry.stands) back.inside)

  back_into : (e : ℕ) (edge : Edge) → slice_get u.edges e ≡ Some edge → Contains l.back e → edge.to ≡ l.head
  back_into e edge stands c =
      let back = (loop.back e).0 c in ap (λ (x : Edge). x.to) (one_edge e edge back.edge stands back.stands) ∙ back.into

  back_from : (e : ℕ) (edge : Edge) → slice_get u.edges e ≡ Some edge → Contains l.back e → Contains l.members edge.from
  back_from e edge stands c =
      let back = (loop.back e).0 c in subst (λ (x : Edge). Contains l.members x.from) (one_edge e back.edge edge back.stands stands) back.inside

  entry_into : (e : ℕ) (edge : Edge) → slice_get u.edges e ≡ Some edge → Contains l.entries e → edge.to ≡ l.head
  entry_into e edge stands c =
      let entry = (loop.entries e).0 c in ap (λ (x : Edge). x.to) (one_edge e edge entry.edge stands entry.stands) ∙ entry.into

  abbrev begun : List ℕ → ℕ
  begun walk = begun_of u l walk

  -- Behind a walk the back edges taken are within the stays that have begun; while a stay lasts, the stays before it were whole.
  record IsWithin (walk : List ℕ) : Type 0 where
    all : taken_of l.back walk ≤ l.maxcount * begun walk
    lasting : (since : List ℕ) (count : ℕ) → StaysInLoop u l walk since count → taken_of l.back walk + l.maxcount ≤ l.maxcount * begun walk + count

  start_counts : u.start ≡ l.head → bit (u.start == l.head) ≡ 1
  unfolding bit
  start_counts same = ap bit (eq-eqb u.start l.head same)

  at_first : IsWithin []
  at_first = record {
    all = omega arith;
    lasting = at_start;
  }
    where
      at_start : (since : List ℕ) (count : ℕ) → StaysInLoop u l [] since count → taken_of l.back [] + l.maxcount ≤ l.maxcount * begun [] + count
      at_start since count (starts same) = let b = start_counts same in let e = ap (λ n. l.maxcount * n) b in omega arith

  module _ (e : ℕ) (edge : Edge) (walk : List ℕ) (stands : slice_get u.edges e ≡ Some edge) (old : IsWithin walk) where
    -- an edge that enters the loop begins a stay
    by_entry : is_one_of l.entries e ≡ true → Contains l.entries e → is_one_of l.back e ≡ false → (Contains l.back e → ⊥) → IsWithin (e ∷ walk)
    by_entry is there was absent = record { all = omega (arith, a, b, o, f); lasting = last }
      where
        a : bit (is_one_of l.entries e) ≡ 1
        a = bit_yes l.entries e is

        b : bit (is_one_of l.back e) ≡ 0
        b = bit_no l.back e was

        o : taken_of l.back walk ≤ l.maxcount * begun walk
        o = old.all

        f : l.maxcount * bit (is_one_of l.entries e) ≡ l.maxcount * 1
        f = ap (λ n. l.maxcount * n) a

        last : (since : List ℕ) (count : ℕ) → StaysInLoop u l (e ∷ walk) since count → taken_of l.back (e ∷ walk) + l.maxcount ≤ l.maxcount * begun (e ∷ walk) + count
        last since count (enters _ _ c) = omega (arith, a, b, o, f)
        last since count (repeats _ _ _ n stay c) = absurd (absent c)
        last since count (moves _ other_edge _ _ _ stay other_stands apart member) = absurd (apart (entry_into e other_edge other_stands there))

    -- an edge that goes back belongs to a stay that lasts, and is within its bound
    by_back : is_one_of l.entries e ≡ false → is_one_of l.back e ≡ true → Contains l.back e → (since : List ℕ) (count : ℕ) → StaysInLoop u l walk since count → count + 1 ≤ l.maxcount → IsWithin (e ∷ walk)
    by_back is was there since count stay bound = record { all = omega (arith, a, b, f, before since count stay, bound); lasting = last }
      where
        a : bit (is_one_of l.entries e) ≡ 0
        a = bit_no l.entries e is

        b : bit (is_one_of l.back e) ≡ 1
        b = bit_yes l.back e was

        f : l.maxcount * bit (is_one_of l.entries e) ≡ l.maxcount * 0
        f = ap (λ n. l.maxcount * n) a

        before : (since : List ℕ) (count : ℕ) → StaysInLoop u l walk since count → taken_of l.back walk + l.maxcount ≤ l.maxcount * begun walk + count
        before = old.lasting

        last : (since : List ℕ) (count : ℕ) → StaysInLoop u l (e ∷ walk) since count → taken_of l.back (e ∷ walk) + l.maxcount ≤ l.maxcount * begun (e ∷ walk) + count
        last since count (enters _ _ c) = absurd (not_both e c there)
        last since count (repeats _ _ s n earlier c) = let o = before s n earlier in omega (arith, a, b, o, f)
        last since count (moves _ other_edge _ _ _ earlier other_stands apart member) = absurd (apart (back_into e other_edge other_stands there))

    -- any other edge changes nothing
    by_other : is_one_of l.entries e ≡ false → (Contains l.entries e → ⊥) → is_one_of l.back e ≡ false → (Contains l.back e → ⊥) → IsWithin (e ∷ walk)
    by_other is no_entry was no_back = record { all = omega (arith, a, b, f, o); lasting = last }
      where
        a : bit (is_one_of l.entries e) ≡ 0
        a = bit_no l.entries e is

        b : bit (is_one_of l.back e) ≡ 0
        b = bit_no l.back e was

        f : l.maxcount * bit (is_one_of l.entries e) ≡ l.maxcount * 0
        f = ap (λ n. l.maxcount * n) a

        o : taken_of l.back walk ≤ l.maxcount * begun walk
        o = old.all

        last : (since : List ℕ) (count : ℕ) → StaysInLoop u l (e ∷ walk) since count → taken_of l.back (e ∷ walk) + l.maxcount ≤ l.maxcount * begun (e ∷ walk) + count
        last since count (enters _ _ c) = absurd (no_entry c)
        last since count (repeats _ _ s n earlier c) = absurd (no_back c)
        last since count (moves _ other_edge _ s n earlier other_stands apart member) = let p = old.lasting s n earlier in omega (arith, a, b, p, f)

  module _ (whole : List ℕ)
      (inside : (earlier : List ℕ) (number : ℕ) → IsPartTo u whole earlier number → Contains l.members number → IsInStay u l earlier)
      (bounds : (earlier since : List ℕ) (number count : ℕ) → IsPartTo u whole earlier number → StaysInLoop u l earlier since count → count ≤ l.maxcount) where
    step : (later : List ℕ) (e : ℕ) (edge : Edge) (walk : List ℕ) → slice_get u.edges e ≡ Some edge → IsWalk u walk edge.from
        → whole ≡ later ++ e ∷ walk → IsWithin walk → Among l.entries e → Among l.back e → IsWithin (e ∷ walk)
    step later e edge walk stands leads are old (present is there) (present was back) = absurd (not_both e there back)
    step later e edge walk stands leads are old (present is there) (missing was absent) = by_entry e edge walk stands old is there was absent
    step later e edge walk stands leads are old (missing is absent) (present was back) =
        let part : IsPartTo u whole walk edge.from = record { later = later ++ e ∷ []; are = are ∙ sym (append_assoc later (e ∷ []) walk); leads = leads } in
        let stay = inside walk edge.from part (back_from e edge stands back) in
        let part_on : IsPartTo u whole (e ∷ walk) edge.to = record { later = later; are = are; leads = goes e edge walk stands leads } in
        by_back e edge walk stands old is was back stay.since stay.count stay.stays
        (bounds (e ∷ walk) stay.since edge.to (stay.count + 1) part_on (repeats e walk stay.since stay.count stay.stays back))
    step later e edge walk stands leads are old (missing is absent) (missing was not_back) = by_other e edge walk stands old is absent was not_back

    within : (later walk : List ℕ) (node : ℕ) → IsWalk u walk node → whole ≡ later ++ walk → IsWithin walk
    within later walk node walk_starts are = at_first
    within later walk node (goes e edge before stands leads) are =
        step later e edge before stands leads are
        (within (later ++ e ∷ []) before edge.from leads (are ∙ sym (append_assoc later (e ∷ []) before)))
        (among l.entries e) (among l.back e)

    -- the back edges of a loop that a walk takes
    pub back_edges : (node : ℕ) → IsWalk u whole node → taken_of l.back whole ≤ l.maxcount * begun_of u l whole
    back_edges node leads = let it = within [] whole node leads refl in it.all
