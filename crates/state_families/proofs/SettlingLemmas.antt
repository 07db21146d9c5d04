-- Rounds in which each vector brings its exits once: in the round after it came. For a node that is not joined the union of a round is what
-- it had and the exits of what is new; for a joined one the exits of what is old lie under its one vector.
use Rattle.std.proofs.Common.{◌≡◌, ◌⊎◌, ℕ, zero, suc, ◌<◌, List, [], ◌∷◌, get_or, slice_get, Option, Some, None, refl, sym, subst, ◌∙◌, inl, inr, arith}
use Rattle.std.specs.List.{Contains}
use Rattle.std.proofs.lemmas.Option.{same_Some, slice_get_within, slice_get-get_or}
use Rattle.wx_base.specs.Vector.{Covers}
use Rattle.state_families.specs.declared.node_set.NodeSet.{NodeSet}
use Rattle.state_families.specs.Families.{IsListedAt, IsVectorOf, Arrives, IsGreatest, IsUnion, NextSet, IsInUnion, IsRound, AreSettled}
use Rattle.state_families.specs.Families.NextSet.{grows, joins, stays}
use Rattle.state_families.specs.Families.AreAfterRounds.{next}
use Rattle.state_families.specs.Fresh.{IsCoveredBy, IsCoveredIn, IsCoveredAt, IsBounded, IsFit, IsSet, IsGrown, AreReached, AreGrown}

-- ---- covering
pub covers_self : (slots : List ℕ) → Covers slots slots
covers_self slots = record { each = λ k. omega arith }

pub covers_twice : (a b c : List ℕ) → Covers a b → Covers b c → Covers a c
covers_twice a b c p q = record { each = λ k. omega (arith, p.each k, q.each k) }

-- the only vector of a list
pub only_one : (slots other : List ℕ) → Contains (slots ∷ []) other → slots ≡ other
only_one slots other (zero, l, e) = e
only_one slots other (suc k, l, e) = absurd (omega (arith, l))

pub the_one : (slots : List ℕ) → Contains (slots ∷ []) slots
the_one slots = (0, omega arith, refl)

-- ---- one set becomes the next
module _ (states : ℕ) where
  -- each vector of the union is covered in the next set
  pub covered_next : (In : List ℕ → Type 0) (old new : NodeSet) (slots : List ℕ) → NextSet states In old new → In slots → IsCoveredIn new slots
  covered_next In _ _ slots (grows vectors union is few) i = (is.exact slots).1 i
  covered_next In _ _ slots (joins vectors union one is many great) i = (one, refl, great.covers slots i)
  covered_next In _ _ slots (stays vectors kept one great) i = (one, refl, great.covers slots i)

  -- what was covered still is, where all that the set had is in the union
  pub still_covered : (In : List ℕ → Type 0) (old new : NodeSet) (slots : List ℕ) → ((v : List ℕ) → Contains old.vectors v → In v)
      → NextSet states In old new → IsCoveredIn old slots → IsCoveredIn new slots
  still_covered In _ _ slots has (grows vectors union is few) c = (is.exact slots).1 (has slots c)
  still_covered In _ _ slots has (joins vectors union one is many great) c = (one, refl, great.covers slots (has slots c))
  still_covered In _ _ slots has (stays vectors kept one great) c =
      let there : Contains vectors c.0 = subst (λ (xs : List (List ℕ)). Contains xs c.0) (sym c.1) (the_one c.0) in
      (one, refl, covers_twice one c.0 slots (great.covers c.0 (has c.0 there)) c.2)

  -- the slots that are the greatest of some vectors are so of more, if they cover those
  greater : (In More : List ℕ → Type 0) (slots : List ℕ) → ((v : List ℕ) → In v → More v) → ((v : List ℕ) → More v → Covers slots v) → IsGreatest In slots → IsGreatest More slots
  greater In More slots more covers great = record {
    long = great.long;
    covers = covers;
    reached = λ k less. let w = great.reached k less in (w.0, more w.0 w.1, w.2);
  }

  same_union : (In More : List ℕ → Type 0) (union : List (List ℕ)) → ((v : List ℕ) → In v → More v) → ((v : List ℕ) → More v → In v) → IsUnion In union → IsUnion More union
  same_union In More union more less is = record {
    ascending = is.ascending;
    exact = λ v. (λ c. more v ((is.exact v).0 c), λ i. (is.exact v).1 (less v i));
  }

  -- A union may leave out what is covered already.
  pub next_more : (In More : List ℕ → Type 0) (old new : NodeSet) → ((v : List ℕ) → Contains old.vectors v → In v) → ((v : List ℕ) → In v → More v)
      → ((v : List ℕ) → More v → In v ⊎ IsCoveredIn old v) → NextSet states In old new → NextSet states More old new
  next_more In More _ _ has more less (grows vectors union is few) = grows vectors union (same_union In More union more (λ v i. elim (less v i) [ inl h ↦ h | inr c ↦ has v c ]) is) few
  next_more In More _ _ has more less (joins vectors union one is many great) =
      let back : (v : List ℕ) → More v → In v = λ v i. elim (less v i) [ inl h ↦ h | inr c ↦ has v c ] in
      joins vectors union one (same_union In More union more back is) many (greater In More one more (λ v i. great.covers v (back v i)) great)
  next_more In More _ _ has more less (stays vectors kept one great) = stays vectors kept one (greater In More one more covers great)
    where
      covers : (v : List ℕ) → More v → Covers one v
      covers v i = elim (less v i) [
        | inl h ↦ great.covers v h
        | inr c ↦
            let there : Contains vectors c.0 = subst (λ (xs : List (List ℕ)). Contains xs c.0) (sym c.1) (the_one c.0) in
            covers_twice one c.0 v (great.covers c.0 (has c.0 there)) c.2
      ]

  -- a set to which nothing is added stays
  pub next_same : (bound : ℕ) (More : List ℕ → Type 0) (set : NodeSet) → IsSet states bound set → ((v : List ℕ) → Contains set.vectors v → More v)
      → ((v : List ℕ) → More v → IsCoveredIn set v) → NextSet states More set set
  next_same bound More set s has less = by set.vectors set.kept s.fit s.bounded has less
    where
      by : (vectors : List (List ℕ)) (kept : Option (List (List ℕ))) → IsFit states vectors kept → ((v : List ℕ) → Contains vectors v → IsBounded bound v)
          → ((v : List ℕ) → Contains vectors v → More v) → ((v : List ℕ) → More v → IsCoveredBy vectors kept v)
          → NextSet states More (record { vectors = vectors; kept = kept }) (record { vectors = vectors; kept = kept })
      by vectors None fit bounded has less = grows vectors vectors (record { ascending = fit.ascending; exact = λ v. (has v, less v) }) fit.few
      by vectors (Some kept) fit bounded has less =
          let one = fit.0 in
          let there : Contains vectors one = subst (λ (xs : List (List ℕ)). Contains xs one) (sym fit.1) (the_one one) in
          subst (λ (xs : List (List ℕ)). NextSet states More (record { vectors = xs; kept = Some kept }) (record { vectors = xs; kept = Some kept })) (sym fit.1)
          (stays (one ∷ []) kept one (record {
            long = (bounded one there).long;
            covers = λ v i. under one v (subst (λ (xs : List (List ℕ)). IsCoveredBy xs (Some kept) v) fit.1 (less v i));
            reached = λ k l. (one, has one there, refl);
          }))
        where
          under : (one v : List ℕ) → IsCoveredBy (one ∷ []) (Some kept) v → Covers one v
          under one v c =
              let same : one ≡ c.0 = only_one one c.0 (subst (λ (xs : List (List ℕ)). Contains xs c.0) (sym c.1) (the_one c.0)) in
              subst (λ (w : List ℕ). Covers w v) (sym same) c.2

  -- a set covers its own vectors
  pub own_covered : (vectors : List (List ℕ)) (kept : Option (List (List ℕ))) (v : List ℕ) → IsFit states vectors kept → Contains vectors v → IsCoveredBy vectors kept v
  own_covered vectors None v fit c = c
  own_covered vectors (Some kept) v fit c =
      let same : fit.0 ≡ v = only_one fit.0 v (subst (λ (xs : List (List ℕ)). Contains xs v) fit.1 c) in
      (fit.0, fit.1, subst (λ (w : List ℕ). Covers fit.0 w) same (covers_self fit.0))

-- ---- all sets
abbrev nothing : NodeSet
nothing = record { vectors = []; kept = None }

-- what is told of some set at a place is told of the set there
pub vector_at : (sets : List NodeSet) (node : ℕ) (set : NodeSet) (v : List ℕ) → slice_get sets node ≡ Some set → IsVectorOf sets node v → Contains set.vectors v
vector_at sets node set v at w = subst (λ (s : NodeSet). Contains s.vectors v) (same_Some w.set set (sym w.stands ∙ at)) w.listed

covered_at : (sets : List NodeSet) (node : ℕ) (set : NodeSet) (v : List ℕ) → slice_get sets node ≡ Some set → IsCoveredAt sets node v → IsCoveredIn set v
covered_at sets node set v at w = subst (λ (s : NodeSet). IsCoveredIn s v) (same_Some w.set set (sym w.stands ∙ at)) w.covered

module _ (Exits : ℕ → ℕ → List ℕ → List ℕ → Type 0) (states bound count start : ℕ) (into : (from to : ℕ) (source slots : List ℕ) → Exits from to source slots → to < count) where
  module _ (sets : List NodeSet) (fresh : List (List (List ℕ))) (r : AreReached Exits states bound count start sets fresh) where
    abbrev Old : ℕ → NodeSet
    Old node = get_or sets node nothing

    old_at : (node : ℕ) → node < count → slice_get sets node ≡ Some (Old node)
    old_at node l = slice_get-get_or sets node nothing (omega (arith, l, r.long))

    module _ (following : List NodeSet) (new : List (List (List ℕ))) (g : AreGrown Exits states bound sets fresh following new) where
      abbrev New : ℕ → NodeSet
      New node = get_or following node nothing

      new_at : (node : ℕ) → node < count → slice_get following node ≡ Some (New node)
      new_at node l = slice_get-get_or following node nothing (omega (arith, l, r.long, g.long))

      abbrev Fresh : ℕ → List (List ℕ)
      Fresh node = get_or new node []

      fresh_at : (node : ℕ) → node < count → slice_get new node ≡ Some (Fresh node)
      fresh_at node l = slice_get-get_or new node [] (omega (arith, l, r.long, g.new_long))

      abbrev In : ℕ → List ℕ → Type 0
      In node v = Contains (Old node).vectors v ⊎ Arrives Exits (IsListedAt fresh) node v

      grown_at : (node : ℕ) → node < count → IsGrown states bound (Arrives Exits (IsListedAt fresh) node) (Old node) (New node) (Fresh node)
      grown_at node l = g.each node (Old node) (New node) (Fresh node) (old_at node l) (new_at node l) (fresh_at node l)

      -- the exits of what is new are enough
      pub a_round : IsRound Exits states count sets following
      a_round = record {
        long = r.long;
        same = g.long ∙ r.long;
        each = λ node l. record {
          old = Old node;
          new = New node;
          before = old_at node l;
          after = new_at node l;
          becomes = next_more states (In node) (IsInUnion Exits sets node) (Old node) (New node) (λ v c. inl c) (more node l) (less node l) (grown_at node l).next;
        };
      }
        where
          more : (node : ℕ) → node < count → (v : List ℕ) → In node v → IsInUnion Exits sets node v
          more node l v i = elim i [
            | inl c ↦ inl (record { set = Old node; stands = old_at node l; listed = c })
            | inr a ↦ inr (record { from = a.from; source = a.source; listed = r.listed a.from a.source a.listed; exits = a.exits })
          ]

          less : (node : ℕ) → node < count → (v : List ℕ) → IsInUnion Exits sets node v → In node v ⊎ IsCoveredIn (Old node) v
          less node l v i = elim i [
            | inl w ↦ inl (inl (vector_at sets node (Old node) v (old_at node l) w))
            | inr a ↦ elim (r.closed a.from node a.source v a.listed a.exits) [
              | inl f ↦ inl (inr (record { from = a.from; source = a.source; listed = f; exits = a.exits }))
              | inr c ↦ inr (covered_at sets node (Old node) v (old_at node l) c)
            ]
          ]

      pub reached_next : AreReached Exits states bound count start following new
      reached_next = record {
        rounds = next sets following r.rounds a_round;
        long = g.long ∙ r.long;
        fresh_long = g.new_long ∙ r.long;
        sound = λ node set at.
            let l : node < count = within node set at in
            subst (IsSet states bound) (same_Some (New node) set (sym (new_at node l) ∙ at)) (grown_at node l).sound;
        listed = λ node slots w.
            let l : node < count = omega (arith, slice_get_within new node w.list w.stands, g.new_long, r.long) in
            record { set = New node; stands = new_at node l; listed = (grown_at node l).listed slots (fresh_in node l slots w) };
        closed = closed;
      }
        where
          within : (node : ℕ) (set : NodeSet) → slice_get following node ≡ Some set → node < count
          within node set at = omega (arith, slice_get_within following node set at, g.long, r.long)

          fresh_in : (node : ℕ) (l : node < count) (slots : List ℕ) → IsListedAt new node slots → Contains (Fresh node) slots
          fresh_in node l slots w = subst (λ (xs : List (List ℕ)). Contains xs slots) (same_Some w.list (Fresh node) (sym w.stands ∙ fresh_at node l)) w.listed

          closed : (from to : ℕ) (source slots : List ℕ) → IsVectorOf following from source → Exits from to source slots
              → IsListedAt new from source ⊎ IsCoveredAt following to slots
          closed from to source slots w e =
              let l : from < count = within from w.set w.stands in
              let t : to < count = into from to source slots e in
              elim ((grown_at from l).all source (vector_at following from (New from) source (new_at from l) w)) [
                | inr f ↦ inl (record { list = Fresh from; stands = fresh_at from l; listed = f })
                | inl c ↦ elim (r.closed from to source slots (record { set = Old from; stands = old_at from l; listed = c }) e) [
                  | inl f ↦ inr (record {
                    set = New to;
                    stands = new_at to t;
                    covered = covered_next states (In to) (Old to) (New to) slots (grown_at to t).next (inr (record { from = from; source = source; listed = f; exits = e }));
                  })
                  | inr d ↦ inr (record {
                    set = New to;
                    stands = new_at to t;
                    covered = still_covered states (In to) (Old to) (New to) slots (λ v k. inl k) (grown_at to t).next (covered_at sets to (Old to) slots (old_at to t) d);
                  })
                ]
              ]

    -- where nothing is new a further round changes nothing
    pub all_settled : ((node : ℕ) (list : List (List ℕ)) → slice_get fresh node ≡ Some list → list ≡ []) → AreSettled Exits states count start sets
    all_settled none = record {
      rounds = r.rounds;
      settled = record {
        long = r.long;
        same = r.long;
        each = λ node l. record {
          old = Old node;
          new = Old node;
          before = old_at node l;
          after = old_at node l;
          becomes = next_same states bound (IsInUnion Exits sets node) (Old node) (r.sound node (Old node) (old_at node l)) (has node l) (less node l);
        };
      };
    }
      where
        has : (node : ℕ) → node < count → (v : List ℕ) → Contains (Old node).vectors v → IsInUnion Exits sets node v
        has node l v c = inl (record { set = Old node; stands = old_at node l; listed = c })

        nobody : (node : ℕ) (v : List ℕ) → IsListedAt fresh node v → ⊥
        nobody node v w = no_item v (subst (λ (xs : List (List ℕ)). Contains xs v) (none node w.list w.stands) w.listed)
          where
            no_item : (v : List ℕ) → Contains [] v → ⊥
            no_item v c = omega (arith, c.1)

        less : (node : ℕ) → node < count → (v : List ℕ) → IsInUnion Exits sets node v → IsCoveredIn (Old node) v
        less node l v i = elim i [
          | inl w ↦ own_covered states (Old node).vectors (Old node).kept v (r.sound node (Old node) (old_at node l)).fit (vector_at sets node (Old node) v (old_at node l) w)
          | inr a ↦ elim (r.closed a.from node a.source v a.listed a.exits) [
            | inl f ↦ absurd (nobody a.from a.source f)
            | inr c ↦ covered_at sets node (Old node) v (old_at node l) c
          ]
        ]
