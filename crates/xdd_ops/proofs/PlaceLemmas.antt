-- Lines put into a table one by one, and the text of the diagram that they make.
use Rattle.std.proofs.Common.{◌≡◌, ℕ, zero, suc, ◌+◌, ◌-◌, ◌<◌, ◌≤◌, Bool, true, false, List, [], ◌∷◌, ◌++◌, length, map, slice_get, get_or, Option, Some, None, IfSome, refl, sym, ap, ◌∙◌, arith, inl, inr, ◌⊎◌, if◌then◌else◌, eqb, nat_lt, ◌||◌}
use Rattle.std.proofs.lemmas.Bool.{false≢true}
use Rattle.std.proofs.lemmas.Bool.Decides.{nat_tests}
use Rattle.std.proofs.lemmas.List.Sums.{position_or_len_is}
use Rattle.std.proofs.lemmas.Option.{slice_get_within, slice_get-get_or}
use Rattle.std.specs.List.{concat, list_any, position_or_len}
use Rattle.xdd_table.specs.declared.node.Node.{Node}
use Rattle.xdd_table.specs.declared.node.Node.TheVariants.{Leaf, Branch}
use Rattle.xdd_table.specs.Diagram.{BeginsAfter, ReadsAfter, Keeps}
use Rattle.xdd_table.specs.Order.{has, Finishes, met, leaf, branch, ListsBelow}
use Rattle.xdd_ops.specs.Text.{line_number, line_at, lines_of, diagram_text}
use Rattle.xdd_ops.specs.Read.{line_text, lines_text, IsLineAt, AreLines, HasLines, placed, ArePlaced, CanPlace, IsPlaceOf}

-- a list with one place more
pub front : (xs : List ℕ) (p i q : ℕ) → slice_get xs i ≡ Some q → slice_get (xs ++ p ∷ []) i ≡ Some q
front [] p i q h = cc
front (x ∷ xs) p zero q h = h
front (x ∷ xs) p (suc i) q h = front xs p i q h

pub last : (xs : List ℕ) (p : ℕ) → slice_get (xs ++ p ∷ []) (length xs) ≡ Some p
last [] p = refl
last (x ∷ xs) p = last xs p

pub spot : (xs : List ℕ) (p i q : ℕ) → slice_get (xs ++ p ∷ []) i ≡ Some q → (slice_get xs i ≡ Some q) ⊎ ((i ≡ length xs) × (p ≡ q))
spot [] p zero q h = inr (refl, cc)
spot [] p (suc i) q h = cc
spot (x ∷ xs) p zero q h = inl h
spot (x ∷ xs) p (suc i) q h = elim (spot xs p i q h) [ inl g ↦ inl g | inr g ↦ inr (ap suc g.0, g.1) ]

get_front : (xs : List ℕ) (p k : ℕ) → k < length xs → get_or (xs ++ p ∷ []) k 0 ≡ get_or xs k 0
get_front [] p k h = absurd (omega arith)
get_front (x ∷ xs) p zero h = refl
get_front (x ∷ xs) p (suc k) h = get_front xs p k (omega arith)

pub length_push : (xs : List ℕ) (p : ℕ) → length (xs ++ p ∷ []) ≡ length xs + 1
length_push [] p = refl
length_push (x ∷ xs) p = let e = length_push xs p in omega (arith, e)

itself : (a : ℕ) → eqb a a ≡ true
itself a = grind (arith, nat_tests)

right_true : (a b : Bool) → b ≡ true → (a || b) ≡ true
right_true true b h = refl
right_true false b h = h

pub listed : (xs : List ℕ) (i p : ℕ) → slice_get xs i ≡ Some p → list_any (eqb p) xs ≡ true
listed [] i p h = cc
listed (x ∷ xs) zero p h = let e : x ≡ p = cc in rw (e, itself p) refl
listed (x ∷ xs) (suc i) p h = right_true (eqb p x) (list_any (eqb p) xs) (listed xs i p h)

-- how the next place was taken: it is a new one
record Fresh (places new : List ℕ) (p : ℕ) : Type 0 where
  is : new ≡ places ++ p ∷ []
  lacks : (i : ℕ) → slice_get places i ≡ Some p → ⊥

fresh_by : (b : Bool) (places new : List ℕ) (p k : ℕ) → list_any (eqb p) places ≡ b → new ≡ (if b then places else places ++ p ∷ []) → slice_get new (length places) ≡ Some k → Fresh places new p
fresh_by true places new p k e is at =
    let h : length places < length places = slice_get_within places (length places) k (rw is at at) in
    absurd (omega (arith, h))
fresh_by false places new p k e is at = record { is = is; lacks = λ i g. false≢true (sym e ∙ listed places i p g) }

fresh : (places new : List ℕ) (p k : ℕ) → new ≡ (if list_any (eqb p) places then places else places ++ p ∷ []) → slice_get new (length places) ≡ Some k → Fresh places new p
fresh places new p k is at = fresh_by (list_any (eqb p) places) places new p k refl is at

-- a line's node, with one place more
placed_more : (lines : List Node) (places : List ℕ) (p i : ℕ) (x : Node) → i ≤ length places → IsLineAt lines i x → placed (places ++ p ∷ []) x ≡ placed places x
placed_more lines places p i (Leaf t) h w = refl
placed_more lines places p i (Branch e hit miss) h w =
    let a = get_front places p hit.place (omega (arith, w.hit_earlier)) in
    let b = get_front places p miss.place (omega (arith, w.miss_earlier)) in
    rw (a, b) refl

reads_placed : (e : ℕ) (places : List ℕ) (x : Node) → ReadsAfter e x → ReadsAfter e (placed places x)
reads_placed e places (Leaf t) h = h
reads_placed e places (Branch e' hit miss) h = h

module _ (nodes lines : List Node) (places : List ℕ) (all : ArePlaced nodes lines places) (more : length places < length lines) where
  begins_placed : (e k : ℕ) → k < length places → BeginsAfter lines e k → BeginsAfter nodes e (get_or places k 0)
  begins_placed e k h after = by_line (slice_get lines k) refl after
    where
      by_line : (o : Option Node) → slice_get lines k ≡ o → IfSome o (ReadsAfter e) → BeginsAfter nodes e (get_or places k 0)
      by_line None at a = let s : slice_get lines k ≡ Some (get_or lines k (Leaf 0)) = slice_get-get_or lines k (Leaf 0) (omega arith) in cc
      by_line (Some x) at a =
          let n : slice_get nodes (get_or places k 0) ≡ Some (placed places x) = all.each k (get_or places k 0) x (slice_get-get_or places k 0 h) at in
          rw n (reads_placed e places x a)

  pub can_place : (x : Node) → IsLineAt lines (length places) x → CanPlace nodes places x
  can_place (Leaf t) w = tt
  can_place (Branch e hit miss) w = record {
    hit_within = w.hit_earlier;
    miss_within = w.miss_earlier;
    hit_in = all.within hit.place (get_or places hit.place 0) (slice_get-get_or places hit.place 0 w.hit_earlier);
    miss_in = all.within miss.place (get_or places miss.place 0) (slice_get-get_or places miss.place 0 w.miss_earlier);
    hit_after = begins_placed e hit.place w.hit_earlier w.hit_after;
    miss_after = begins_placed e miss.place w.miss_earlier w.miss_after;
  }

  -- the place of a line that takes a place of its own has the line's node
  node_of : (later : List Node) (p : ℕ) (x : Node) → ((i : ℕ) → slice_get places i ≡ Some p → ⊥) → IsLineAt lines (length places) x → IsPlaceOf later places x p → slice_get later p ≡ Some (placed places x)
  node_of later p (Leaf t) lacks w is = is
  node_of later p (Branch e hit miss) lacks w is =
      is.1 (λ same. lacks hit.place (slice_get-get_or places hit.place 0 w.hit_earlier ∙ ap Some (sym (is.0 same))))

  pub placed_next : (later : List Node) (p k : ℕ) (x : Node) (new : List ℕ) → AreLines lines → Keeps nodes later → slice_get lines (length places) ≡ Some x → IsPlaceOf later places x p → p < length later
      → new ≡ (if list_any (eqb p) places then places else places ++ p ∷ []) → slice_get new (length places) ≡ Some k → ArePlaced later lines new × (length new ≡ length places + 1)
  placed_next later p k x new proper keeps at is within keys stored =
      let f = fresh places new p k keys stored in
      let g : length nodes ≤ length later = keeps.grows in
      let n : slice_get later p ≡ Some (placed places x) = node_of later p x f.lacks (proper.each (length places) x at) is in
      rw f.is (
        record {
          within = λ i q h. elim (spot places p i q h) [ inl a ↦ omega (arith, all.within i q a) | inr a ↦ omega (arith, a.1) ];
          each = λ i q y h line. elim (spot places p i q h) [
            | inl a ↦
                let i_in = slice_get_within places i q a in
                rw (placed_more lines places p i y (omega (arith, i_in)) (proper.each i y line)) (keeps.nodes q (all.within i q a) ∙ all.each i q y a line)
            | inr a ↦
                let line' = rw a.0 at line in
                let e : x ≡ y = cc in
                rw (← a.1, ← e, placed_more lines places p (length places) x (omega arith) (proper.each (length places) x at)) n
          ];
          apart = λ i j q h h'. elim (spot places p i q h) [
            | inl a ↦ elim (spot places p j q h') [ inl b ↦ all.apart i j q a b | inr b ↦ absurd (f.lacks i (rw b.1 a)) ]
            | inr a ↦ elim (spot places p j q h') [ inl b ↦ absurd (f.lacks j (rw a.1 b)) | inr b ↦ a.0 ∙ sym b.0 ]
          ];
        },
        length_push places p,
      )

-- the same at an index of the lines
pub can_place_at : (nodes lines : List Node) (places : List ℕ) (i : ℕ) → ArePlaced nodes lines places → AreLines lines → length places ≡ i → i < length lines → CanPlace nodes places (get_or lines i (Leaf 0))
can_place_at nodes lines places i all proper counted h =
    can_place nodes lines places all (omega arith) (get_or lines i (Leaf 0)) (rw counted (proper.each i (get_or lines i (Leaf 0)) (slice_get-get_or lines i (Leaf 0) h)))

pub placed_at : (nodes later lines : List Node) (places new : List ℕ) (i p k : ℕ) → ArePlaced nodes lines places → AreLines lines → Keeps nodes later → length places ≡ i → i < length lines
    → IsPlaceOf later places (get_or lines i (Leaf 0)) p → p < length later → new ≡ (if list_any (eqb p) places then places else places ++ p ∷ []) → slice_get new i ≡ Some k
    → ArePlaced later lines new × (length new ≡ length places + 1)
placed_at nodes later lines places new i p k all proper keeps counted h is within keys stored =
    placed_next nodes lines places all (omega arith) later p k (get_or lines i (Leaf 0)) new proper keeps (rw counted (slice_get-get_or lines i (Leaf 0) h)) is within keys (rw counted stored)

-- a walk's list ends with the place where it began
pub walk_end : (nodes : List Node) {p : ℕ} {done after : List ℕ} → Finishes nodes p done after → has done p ≡ false → (init : List ℕ) × (after ≡ init ++ p ∷ [])
walk_end nodes (met h) none = absurd (false≢true (sym none ∙ h))
walk_end nodes (leaf {p} {t} {done} h is) none = (done, refl)
walk_end nodes (branch {p} {e} {hit} {miss} {done} {between} {after} h is w w') none = (after, refl)

end_at : (order init : List ℕ) (p : ℕ) → order ≡ init ++ p ∷ [] → slice_get order (length init) ≡ Some p
end_at order init p e = rw e (last init p)

same_lists : (xs ys : List ℕ) → length xs ≡ length ys → ((k : ℕ) → k < length ys → slice_get xs k ≡ slice_get ys k) → xs ≡ ys
same_lists [] [] e h = refl
same_lists [] (y ∷ ys) e h = absurd (omega arith)
same_lists (x ∷ xs) [] e h = absurd (omega arith)
same_lists (x ∷ xs) (y ∷ ys) e h =
    let first : Some x ≡ Some y = h zero (omega arith) in
    let s : x ≡ y = cc in
    rw s (ap (λ l. y ∷ l) (same_lists xs ys (omega arith) (λ k l. h (suc k) (omega arith))))

-- places that each stand once
pub record AreApart (places : List ℕ) : Type 0 where
  pub each : (i j p : ℕ) → slice_get places i ≡ Some p → slice_get places j ≡ Some p → i ≡ j

-- equal places stand at one position
pub one_index : (places : List ℕ) → AreApart places → (j k : ℕ) → j < length places → k < length places → get_or places j 0 ≡ get_or places k 0 → j ≡ k
one_index places apart j k h h' e = apart.each j k (get_or places k 0) (slice_get-get_or places j 0 h ∙ ap Some e) (slice_get-get_or places k 0 h')

-- the number of a line is told by its place
module _ (places : List ℕ) (apart : AreApart places) where
  other : (j k : ℕ) (b : Bool) → j < k → k < length places → eqb (get_or places k 0) (get_or places j 0) ≡ b → b ≡ false
  other j k true l h e =
      let s : get_or places k 0 ≡ get_or places j 0 = grind (arith, nat_tests) in
      let same = one_index places apart j k (omega arith) h (sym s) in
      absurd (omega arith)
  other j k false l h e = refl

  pub number_of : (k : ℕ) → k < length places → line_number places (get_or places k 0) ≡ k
  number_of k h =
      let e : position_or_len (eqb (get_or places k 0)) places ≡ k = position_or_len_is (eqb (get_or places k 0)) places k 0 (omega arith)
      (λ j l. other j k (eqb (get_or places k 0) (get_or places j 0)) l h refl) (λ _. itself (get_or places k 0)) in
      let t : nat_lt k (length places) ≡ true = grind (arith, nat_tests) in
      rw (e, t) refl

module _ (nodes lines : List Node) (places : List ℕ) (all : ArePlaced nodes lines places) where
  line_same : AreLines lines → length places ≡ length lines → (i p : ℕ) (x : Node) → slice_get places i ≡ Some p → slice_get lines i ≡ Some x → line_at places (slice_get nodes p) ≡ line_text x
  line_same proper count i p x at line = rw (all.each i p x at line) (by_node x (proper.each i x line))
    where
      by_node : (x : Node) → IsLineAt lines i x → line_at places (Some (placed places x)) ≡ line_text x
      by_node (Leaf t) w = refl
      by_node (Branch e hit miss) w =
          let i_in = slice_get_within places i p at in
          let a = number_of places (record { each = all.apart }) hit.place (omega (arith, w.hit_earlier)) in
          let b = number_of places (record { each = all.apart }) miss.place (omega (arith, w.miss_earlier)) in
          rw (a, b) refl

pub concat_same : (f : ℕ → List ℕ) (g : Node → List ℕ) (ps : List ℕ) (xs : List Node) → length ps ≡ length xs
    → ((i p : ℕ) (x : Node) → slice_get ps i ≡ Some p → slice_get xs i ≡ Some x → f p ≡ g x) → concat (map f ps) ≡ concat (map g xs)
concat_same f g [] [] e h = refl
concat_same f g [] (x ∷ xs) e h = absurd (omega arith)
concat_same f g (p ∷ ps) [] e h = absurd (omega arith)
concat_same f g (p ∷ ps) (x ∷ xs) e h =
    let first : f p ≡ g x = h zero p x refl refl in
    let more : concat (map f ps) ≡ concat (map g xs) = concat_same f g ps xs (omega arith) (λ i q y a b. h (suc i) q y a b) in
    rw (first, more) refl

pub lines_same : (nodes lines : List Node) (places : List ℕ) → ArePlaced nodes lines places → AreLines lines → length places ≡ length lines → lines_of nodes places places ≡ lines_text lines
lines_same nodes lines places all proper count = concat_same (λ p. line_at places (slice_get nodes p)) line_text places lines count (line_same nodes lines places all proper count)

-- lines in the order of the walk are the text of the diagram of the last
module _ (nodes lines : List Node) (places : List ℕ) (all : ArePlaced nodes lines places) (bytes : List ℕ) (has_lines : HasLines bytes lines) (count : length places ≡ length lines) where
  root_at : slice_get places (length places - 1) ≡ Some (get_or places (length places - 1) 0)
  root_at = slice_get-get_or places (length places - 1) 0 (omega (arith, has_lines.some))

  pub root_within : get_or places (length places - 1) 0 < length nodes
  root_within = all.within (length places - 1) (get_or places (length places - 1) 0) root_at

  pub text_of_lines : bytes ≡ diagram_text nodes places
  text_of_lines =
      let t = lines_same nodes lines places all has_lines.proper count in
      rw (t, count) has_lines.whole

  pub walk_same : (order : List ℕ) → Finishes nodes (get_or places (length places - 1) 0) [] order → ListsBelow nodes (get_or places (length places - 1) 0) order
      → ((k : ℕ) → k < length places → slice_get order k ≡ slice_get places k) → order ≡ places
  walk_same order walk below same =
      let w = walk_end nodes walk refl in
      let at_end : slice_get order (length w.0) ≡ Some (get_or places (length places - 1) 0) = end_at order w.0 (get_or places (length places - 1) 0) w.1 in
      let at_root : slice_get order (length places - 1) ≡ Some (get_or places (length places - 1) 0) = same (length places - 1) (omega (arith, has_lines.some)) ∙ root_at in
      let e : length places - 1 ≡ length w.0 = below.once (length places - 1) (length w.0) (get_or places (length places - 1) 0) at_root at_end in
      let n : length order ≡ length w.0 + 1 = ap length w.1 ∙ length_push w.0 (get_or places (length places - 1) 0) in
      same_lists order places (omega (arith, has_lines.some)) same
