-- The printed text of a diagram is a text of the grammar.
use Rattle.std.proofs.Common.{◌≡◌, ℕ, zero, suc, ◌+◌, ◌-◌, ◌<◌, ◌≤◌, Bool, true, false, List, [], ◌∷◌, ◌++◌, length, map, codes, slice_get, get_or, Some, refl, sym, ap, ◌∙◌, arith, inl, inr, ◌⊎◌, eqb, ◌||◌}
use Rattle.std.proofs.lemmas.Bool.{false≢true, eqb-true}
use Rattle.std.proofs.lemmas.Option.{slice_get_within, slice_get-get_or, get_or_from_slice_get}
use Rattle.std.specs.Fmt.{decimal}
use Rattle.xdd_table.specs.declared.node.Dd.{Dd}
use Rattle.xdd_table.specs.declared.node.Node.{Node}
use Rattle.xdd_table.specs.declared.node.Node.TheVariants.{Leaf, Branch}
use Rattle.xdd_table.specs.Diagram.{BeginsAfter, ReadsAfter, IsBranchAt, IsTable}
use Rattle.xdd_table.specs.Order.{has, Finishes, met, leaf, branch}
use Rattle.xdd_ops.specs.Text.{line_number, lines_of, IsTextOf}
use Rattle.xdd_ops.specs.Read.{count_line, lines_text, IsLineAt, AreLines, HasLines, placed, ArePlaced}
use Rattle.xdd_ops.specs.Refusal.{AreReduced, IsDiagramText}
use Rattle.xdd_ops.proofs.ApplyLemmas.{keeps_self}
use Rattle.xdd_ops.proofs.LineLemmas.{dd_same}
use Rattle.xdd_ops.proofs.PlaceLemmas.{spot, front, last, length_push, listed, walk_end, AreApart, number_of, lines_same}
use Rattle.xdd_ops.proofs.RefusalLemmas.{needed}
use Rattle.xdd_ops.proofs.WalkLemmas.{line_walk}

-- a place that stood at an earlier position
record Stood (places : List ℕ) (i p : ℕ) : Type 0 where
  at : ℕ
  before : at < i
  is : slice_get places at ≡ Some p

either_true : (a b : Bool) → (a || b) ≡ true → (a ≡ true) ⊎ (b ≡ true)
either_true true b h = inl refl
either_true false b h = inr h

one_later : (x : ℕ) (xs : List ℕ) (p : ℕ) → Stood xs (length xs) p → Stood (x ∷ xs) (length (x ∷ xs)) p
one_later x xs p s = record { at = suc s.at; before = omega (arith, s.before); is = s.is }

stands : (xs : List ℕ) (p : ℕ) → has xs p ≡ true → Stood xs (length xs) p
stands [] p h = absurd (false≢true h)
stands (x ∷ xs) p h = elim (either_true (eqb p x) (has xs p) h) [
  | inl e ↦ record { at = zero; before = omega arith; is = ap Some (sym (eqb-true p x e)) }
  | inr e ↦ one_later x xs p (stands xs p e)
]

-- a node has a branch at the place
abbrev IsBranchOf : Node → ℕ → Type 0
IsBranchOf (Leaf t) r = ⊥
IsBranchOf (Branch e hit miss) r = (hit.place ≡ r) ⊎ (miss.place ≡ r)

-- the same node has the same branches
same_node : (m n : Node) (r : ℕ) → Some m ≡ Some n → IsBranchOf n r → IsBranchOf m r
same_node m n r e h = let e' : n ≡ m = cc in rw e' at h

-- finished places: each once, and both branches of each before it
record Turns (nodes : List Node) (places : List ℕ) : Type 0 where
  within : (i q : ℕ) → slice_get places i ≡ Some q → q < length nodes
  once : (i j q : ℕ) → slice_get places i ≡ Some q → slice_get places j ≡ Some q → i ≡ j
  branches : (i q r : ℕ) (n : Node) → slice_get places i ≡ Some q → slice_get nodes q ≡ Some n → IsBranchOf n r → Stood places i r

stood_front : (xs : List ℕ) (p i q : ℕ) → Stood xs i q → Stood (xs ++ p ∷ []) i q
stood_front xs p i q s = record { at = s.at; before = s.before; is = front xs p s.at q s.is }

moved : (xs : List ℕ) (i j q : ℕ) → i ≡ j → Stood xs i q → Stood xs j q
moved xs i j q e s = rw e at s

not_there : (done : List ℕ) (p i : ℕ) → has done p ≡ false → slice_get done i ≡ Some p → ⊥
not_there done p i new a = false≢true (sym new ∙ listed done i p a)

module _ (nodes : List Node) where
  turns_none : Turns nodes []
  turns_none = record { within = λ i q a. cc; once = λ i j q a b. cc; branches = λ i q r n a at s. cc }

  turns_push : (done : List ℕ) (p : ℕ) → p < length nodes → ((i : ℕ) → slice_get done i ≡ Some p → ⊥) → ((r : ℕ) (n : Node) → slice_get nodes p ≡ Some n → IsBranchOf n r → Stood done (length done) r)
      → Turns nodes done → Turns nodes (done ++ p ∷ [])
  turns_push done p inside new before t = record {
    within = λ i q a. elim (spot done p i q a) [ inl k ↦ t.within i q k | inr k ↦ omega (arith, k.1) ];
    once = λ i j q a b. elim (spot done p i q a) [
      | inl k ↦ elim (spot done p j q b) [ inl l ↦ t.once i j q k l | inr l ↦ absurd (new i (k ∙ ap Some (sym l.1))) ]
      | inr k ↦ elim (spot done p j q b) [ inl l ↦ absurd (new j (l ∙ ap Some (sym k.1))) | inr l ↦ k.0 ∙ sym l.0 ]
    ];
    branches = λ i q r n a at s. elim (spot done p i q a) [
      | inl k ↦ stood_front done p i r (t.branches i q r n k at s)
      | inr k ↦ moved (done ++ p ∷ []) (length done) i r (sym k.0) (stood_front done p (length done) r (before r n (ap (slice_get nodes) k.1 ∙ at) s))
    ];
  }

  keeps_walk : {p : ℕ} {done after : List ℕ} → Finishes nodes p done after → (i q : ℕ) → slice_get done i ≡ Some q → slice_get after i ≡ Some q
  keeps_walk (met h) i q a = a
  keeps_walk (leaf {p} {t} {done} new at) i q a = front done p i q a
  keeps_walk (branch {p} {e} {hit} {miss} {done} {between} {after} new at w v) i q a = front after p i q (keeps_walk v i q (keeps_walk w i q a))

  has_own : {p : ℕ} {done after : List ℕ} → Finishes nodes p done after → has after p ≡ true
  has_own (met h) = h
  has_own (leaf {p} {t} {done} new at) = listed (done ++ p ∷ []) (length done) p (last done p)
  has_own (branch {p} {e} {hit} {miss} {done} {between} {after} new at w v) = listed (after ++ p ∷ []) (length after) p (last after p)

  has_kept : {p : ℕ} {done after : List ℕ} → Finishes nodes p done after → (q : ℕ) → has done q ≡ true → has after q ≡ true
  has_kept {p} {done} {after} w q h = let s = stands done q h in listed after s.at q (keeps_walk w s.at q s.is)

  module _ (table : IsTable nodes) where
    less_walk : {p : ℕ} {done after : List ℕ} → Finishes nodes p done after → (i q : ℕ) → slice_get after i ≡ Some q → (slice_get done i ≡ Some q) ⊎ (q < suc p)
    less_walk (met h) i q a = inl a
    less_walk (leaf {p} {t} {done} new at) i q a = elim (spot done p i q a) [ inl k ↦ inl k | inr k ↦ inr (omega (arith, k.1)) ]
    less_walk (branch {p} {e} {hit} {miss} {done} {between} {after} new at w v) i q a =
        let b = table.each p (Branch e hit miss) at in
        elim (spot after p i q a) [
          | inl k ↦ elim (less_walk v i q k) [
            | inl l ↦ elim (less_walk w i q l) [ inl m ↦ inl m | inr m ↦ inr (omega (arith, b.hit_before)) ]
            | inr l ↦ inr (omega (arith, b.miss_before))
          ]
          | inr k ↦ inr (omega (arith, k.1))
        ]

    still_new : (p hit miss : ℕ) (done between after : List ℕ) → has done p ≡ false → hit < p → miss < p → Finishes nodes hit done between → Finishes nodes miss between after → (i : ℕ) → slice_get after i ≡ Some p → ⊥
    still_new p hit miss done between after new h m w v i a = elim (less_walk v i p a) [
      | inl k ↦ elim (less_walk w i p k) [ inl l ↦ not_there done p i new l | inr l ↦ absurd (omega arith) ]
      | inr k ↦ absurd (omega arith)
    ]

    both_stand : (hit miss r : ℕ) (done between after : List ℕ) → Finishes nodes hit done between → Finishes nodes miss between after → (hit ≡ r) ⊎ (miss ≡ r) → Stood after (length after) r
    both_stand hit miss r done between after w v (inl e) = stands after r (has_kept v r (ap (has between) (sym e) ∙ has_own w))
    both_stand hit miss r done between after w v (inr e) = stands after r (ap (has after) (sym e) ∙ has_own v)

    turns_walk : {p : ℕ} {done after : List ℕ} → Finishes nodes p done after → Turns nodes done → Turns nodes after
    turns_walk (met h) t = t
    turns_walk (leaf {p} {t = u} {done} new at) t =
        turns_push done p (slice_get_within nodes p (Leaf u) at) (λ i a. not_there done p i new a) (λ r n at' s. absurd (same_node (Leaf u) n r (sym at ∙ at') s)) t
    turns_walk (branch {p} {e} {hit} {miss} {done} {between} {after} new at w v) t =
        let b = table.each p (Branch e hit miss) at in
        turns_push after p (slice_get_within nodes p (Branch e hit miss) at) (still_new p hit.place miss.place done between after new b.hit_before b.miss_before w v)
        (λ r n at' s. both_stand hit.place miss.place r done between after w v (same_node (Branch e hit miss) n r (sym at ∙ at') s)) (turns_walk v (turns_walk w t))

-- a node whose branches are told by the numbers of their lines
abbrev numbered : List ℕ → Node → Node
numbered places (Leaf t) = Leaf t
numbered places (Branch e hit miss) = Branch e (record { place = line_number places hit.place }) (record { place = line_number places miss.place })

abbrev node_at : List Node → ℕ → Node
node_at nodes q = get_or nodes q (Leaf 0)

abbrev lines_at : List Node → List ℕ → List ℕ → List Node
lines_at nodes places some = map (λ q. numbered places (node_at nodes q)) some

length_lines : (f : ℕ → Node) (xs : List ℕ) → length (map f xs) ≡ length xs
length_lines f [] = refl
length_lines f (x ∷ xs) = ap suc (length_lines f xs)

to_line : (f : ℕ → Node) (xs : List ℕ) (i q : ℕ) → slice_get xs i ≡ Some q → slice_get (map f xs) i ≡ Some (f q)
to_line f [] i q h = cc
to_line f (x ∷ xs) zero q h = let e : x ≡ q = cc in rw e refl
to_line f (x ∷ xs) (suc i) q h = to_line f xs i q h

from_line : (f : ℕ → Node) (xs : List ℕ) (i : ℕ) (x : Node) → slice_get (map f xs) i ≡ Some x → (q : ℕ) × (slice_get xs i ≡ Some q) × (f q ≡ x)
from_line f [] i x h = cc
from_line f (y ∷ ys) zero x h = (y, refl, cc)
from_line f (y ∷ ys) (suc i) x h = from_line f ys i x h

same_branch : (e : ℕ) (h h' m m' : Dd) → h ≡ h' → m ≡ m' → Branch e h m ≡ Branch e h' m'
same_branch e h h' m m' a b = rw (a, b) refl

reads_numbered : (e : ℕ) (places : List ℕ) (x : Node) → ReadsAfter e x → ReadsAfter e (numbered places x)
reads_numbered e places (Leaf t) h = h
reads_numbered e places (Branch e' hit miss) h = h

line_same : (lines : List Node) (i : ℕ) (x y : Node) → x ≡ y → IsLineAt lines i x → IsLineAt lines i y
line_same lines i x y e w = rw e at w

module _ (nodes : List Node) (p : ℕ) (bytes : List ℕ) (t : IsTextOf nodes p bytes) where
  turns : Turns nodes t.places
  turns = turns_walk nodes t.table t.walk (turns_none nodes)

  apart : AreApart t.places
  apart = record { each = turns.once }

  abbrev pub printed_lines : List Node
  printed_lines = lines_at nodes t.places t.places

  number_is : (r : ℕ) (i : ℕ) (s : Stood t.places i r) → i ≤ length t.places → line_number t.places r ≡ s.at
  number_is r i s h =
      let k = number_of t.places apart s.at (omega (arith, s.before)) in
      let g = get_or_from_slice_get t.places s.at r 0 s.is in
      rw g at k

  place_back : (r i : ℕ) → Stood t.places i r → i ≤ length t.places → get_or t.places (line_number t.places r) 0 ≡ r
  place_back r i s h = rw (number_is r i s h) (get_or_from_slice_get t.places s.at r 0 s.is)

  back : (i : ℕ) (n : Node) → i ≤ length t.places → ((r : ℕ) → IsBranchOf n r → Stood t.places i r) → placed t.places (numbered t.places n) ≡ n
  back i (Leaf u) h s = refl
  back i (Branch e hit miss) h s =
      let a = dd_same (record { place = get_or t.places (line_number t.places hit.place) 0 }) hit (place_back hit.place i (s hit.place (inl refl)) h) in
      let b = dd_same (record { place = get_or t.places (line_number t.places miss.place) 0 }) miss (place_back miss.place i (s miss.place (inr refl)) h) in
      same_branch e _ hit _ miss a b

  node_is : (q : ℕ) → q < length nodes → slice_get nodes q ≡ Some (node_at nodes q)
  node_is q h = slice_get-get_or nodes q (Leaf 0) h

  pub count : length t.places ≡ length printed_lines
  count = sym (length_lines (λ q. numbered t.places (node_at nodes q)) t.places)

  begins : (e r i : ℕ) → BeginsAfter nodes e r → r < length nodes → (s : Stood t.places i r) → BeginsAfter printed_lines e s.at
  begins e r i after h s =
      let reads : ReadsAfter e (node_at nodes r) = rw (node_is r h) at after in
      let at : slice_get printed_lines s.at ≡ Some (numbered t.places (node_at nodes r)) = to_line (λ q. numbered t.places (node_at nodes q)) t.places s.at r s.is in
      rw at (reads_numbered e t.places (node_at nodes r) reads)

  line_is : (i q : ℕ) (n : Node) → i ≤ length t.places → slice_get t.places i ≡ Some q → slice_get nodes q ≡ Some n → IsLineAt printed_lines i (numbered t.places n)
  line_is i q (Leaf u) h a at = t.fit i q (Leaf u) a at
  line_is i q (Branch e hit miss) h a at =
      let b : IsBranchAt nodes q e hit.place miss.place = t.table.each q (Branch e hit miss) at in
      let q_in = slice_get_within nodes q (Branch e hit miss) at in
      let hits = turns.branches i q hit.place (Branch e hit miss) a at (inl refl) in
      let misses = turns.branches i q miss.place (Branch e hit miss) a at (inr refl) in
      let x : line_number t.places hit.place ≡ hits.at = number_is hit.place i hits h in
      let y : line_number t.places miss.place ≡ misses.at = number_is miss.place i misses h in
      let hit_after : BeginsAfter printed_lines e hits.at = begins e hit.place i b.hit_after (omega (arith, b.hit_before)) hits in
      let miss_after : BeginsAfter printed_lines e misses.at = begins e miss.place i b.miss_after (omega (arith, b.miss_before)) misses in
      record {
        small = t.fit i q (Branch e hit miss) a at;
        hit_earlier = omega (arith, x, hits.before);
        miss_earlier = omega (arith, y, misses.before);
        hit_after = rw x hit_after;
        miss_after = rw y miss_after;
      }

  pub proper : AreLines printed_lines
  proper = record {
    each = λ i x at.
        let l = from_line (λ q. numbered t.places (node_at nodes q)) t.places i x at in
        let h = slice_get_within t.places i l.0 l.1 in
        line_same printed_lines i (numbered t.places (node_at nodes l.0)) x l.2 (line_is i l.0 (node_at nodes l.0) (omega arith) l.1 (node_is l.0 (turns.within i l.0 l.1)));
  }

  pub all : ArePlaced nodes printed_lines t.places
  all = record {
    within = turns.within;
    each = λ i q x a at.
        let l = to_line (λ r. numbered t.places (node_at nodes r)) t.places i q a in
        let e : numbered t.places (node_at nodes q) ≡ x = cc in
        let h = slice_get_within t.places i q a in
        let n = node_is q (turns.within i q a) in
        let b = back i (node_at nodes q) (omega arith) (λ r s. turns.branches i q r (node_at nodes q) a n s) in
        n ∙ ap Some (sym b ∙ ap (placed t.places) e);
    apart = turns.once;
  }

  -- a walk from nowhere finishes its own place last
  ends : (init : List ℕ) × (t.places ≡ init ++ p ∷ [])
  ends = walk_end nodes t.walk refl

  some : 0 < length t.places
  some = omega (arith, ap length ends.1, length_push ends.0 p)

  pub last_is : get_or t.places (length t.places - 1) 0 ≡ p
  last_is =
      let n : length t.places ≡ length ends.0 + 1 = ap length ends.1 ∙ length_push ends.0 p in
      let i : length t.places - 1 ≡ length ends.0 = omega arith in
      let a : slice_get t.places (length ends.0) ≡ Some p = ap (λ l. slice_get l (length ends.0)) ends.1 ∙ last ends.0 p in
      rw i (get_or_from_slice_get t.places (length ends.0) p 0 a)

  pub has_lines : HasLines bytes printed_lines
  has_lines = record {
    some = omega (arith, some, count);
    fits = omega (arith, t.count, count);
    proper = proper;
    whole = t.is ∙ by_lines;
  }
    where
      by_lines : codes "dd " ++ decimal (length t.places) ++ codes "\n" ++ lines_of nodes t.places t.places ≡ count_line (length printed_lines) ++ lines_text printed_lines
      by_lines = rw (lines_same nodes printed_lines t.places all proper count, count) refl

  reduced : AreReduced printed_lines
  reduced = record { each = λ i h u. needed nodes printed_lines t.places all proper nodes (keeps_self nodes) t.table (omega (arith, count)) i (omega (arith, count)) u }

  -- what is printed is a text of the grammar
  pub printed_is_text : IsDiagramText bytes
  printed_is_text =
      let w = line_walk nodes printed_lines t.places all proper count t.places (omega (arith, some, count)) (rw last_is t.walk) in
      record {
        lines = printed_lines;
        has = has_lines;
        reduced = reduced;
        order = w.found;
        walk = w.walk;
        in_turn = λ k h. w.in_turn k h refl;
      }
