-- What reading a text answers: its diagram, or the cause that the text has.
use Rattle.std.proofs.Common.{sym, IfOk, ◌⊎◌, ◌≡◌, ◌≢◌, ℕ, zero, suc, ◌+◌, ◌-◌, ◌<◌, ◌≤◌, List, [], length, slice_get, get_or, Some, Result, Ok, Err, IfErr, refl, ap, ◌∙◌, arith, inl, inr}
use Rattle.std.proofs.lemmas.Bool.{cases_lt}
use Rattle.std.proofs.lemmas.Option.{slice_get_within, slice_get-get_or}
use Rattle.xdd_table.specs.declared.node.Dd.{Dd}
use Rattle.xdd_table.specs.declared.node.Node.{Node}
use Rattle.xdd_table.specs.declared.node.Node.TheVariants.{Leaf, Branch}
use Rattle.xdd_table.specs.Diagram.{IsTable, Keeps}
use Rattle.xdd_table.specs.Order.{Finishes, met, leaf, branch, ListsBelow}
use Rattle.xdd_ops.specs.Text.{diagram_text, FitsNode, IsTextOf}
use Rattle.xdd_ops.specs.Read.{IsLineAt, AreLines, HasLines, placed, ArePlaced}
use Rattle.xdd_ops.specs.Refusal.{IsNotReducedAt, IsRefusedFor, IsUnreduced, AreReduced, IsOrderAt, IsDiagramText, IsRefusal, IsReadAs}
use Rattle.xdd_ops.specs.declared.diagram_error.DiagramError.{DiagramError}
use Rattle.xdd_ops.specs.declared.diagram_error.DiagramError.TheVariants.{Syntax, NotReduced, Order, NoMemory}
use Rattle.xdd_ops.proofs.ApplyLemmas.{keeps_self}
use Rattle.xdd_ops.proofs.GrammarLemmas.{one_reading, no_fault, one_fault}
use Rattle.xdd_ops.proofs.PlaceLemmas.{text_of_lines, walk_same}
use Rattle.xdd_ops.proofs.PrintedLemmas.{printed_lines, printed_is_text, count, proper, all, last_is, has_lines}
use Rattle.xdd_ops.proofs.WalkLemmas.{one_walk, line_walk}

same_walk : (xs ys : List Node) (a b : List ℕ) → xs ≡ ys → Finishes xs (length xs - 1) [] a → Finishes ys (length ys - 1) [] b → a ≡ b
same_walk xs ys a b e w v = one_walk ys (rw e at w) v

unreduced_in : (xs ys : List Node) (i : ℕ) → xs ≡ ys → IsUnreduced xs i → IsUnreduced ys i
unreduced_in xs ys i e u = rw e at u

-- a text of the grammar is refused for want of memory alone
pub only_memory : (bytes : List ℕ) → IsDiagramText bytes → (e : DiagramError) → IsRefusal bytes e → e ≡ NoMemory
only_memory bytes t (Syntax at) h = absurd (no_fault bytes t.lines t.has at h)
only_memory bytes t (NotReduced line) h =
    let s = one_reading bytes t.lines t.has h.lines h.has in
    let w = h.where_it_is in
    absurd (t.reduced.each w.index (omega (arith, ap length s, w.within)) (unreduced_in h.lines t.lines w.index s w.unreduced))
only_memory bytes t (Order line) h =
    let s = one_reading bytes t.lines t.has h.lines h.has in
    let e = same_walk h.lines t.lines h.order t.order s h.walk t.walk in
    absurd (h.differs (ap (λ l. slice_get l h.index) e ∙ t.in_turn h.index (omega (arith, ap length s, h.within))))
only_memory bytes t NoMemory h = refl

pub taken : (r : Result Dd DiagramError) (bytes : List ℕ) → IfErr r (IsRefusal bytes) → IsDiagramText bytes → IfErr r (λ e. e ≡ NoMemory)
taken (Ok d) bytes h t = tt
taken (Err e) bytes h t = only_memory bytes t e h

module _ (bytes : List ℕ) where
  first_unreduced : (i j : ℕ) → IsNotReducedAt bytes i → IsNotReducedAt bytes j → i ≡ j
  first_unreduced i j a b =
      let s = one_reading bytes b.lines b.has a.lines a.has in
      let x = a.where_it_is in
      let y = b.where_it_is in
      elim (cases_lt x.index y.index) [
        | inl l ↦ absurd (y.first x.index l (unreduced_in a.lines b.lines x.index s x.unreduced))
        | inr g ↦ elim (cases_lt y.index x.index) [
          | inl l ↦ absurd (x.first y.index l (unreduced_in b.lines a.lines y.index (sym s) y.unreduced))
          | inr h ↦ omega (arith, x.counted, y.counted)
        ]
      ]

  first_out : (i j : ℕ) → IsOrderAt bytes i → IsOrderAt bytes j → i ≡ j
  first_out i j a b =
      let s = one_reading bytes b.lines b.has a.lines a.has in
      let e = same_walk a.lines b.lines a.order b.order s a.walk b.walk in
      elim (cases_lt a.index b.index) [
        | inl l ↦ absurd (a.differs (ap (λ o. slice_get o a.index) e ∙ b.first a.index l))
        | inr g ↦ elim (cases_lt b.index a.index) [
          | inl l ↦ absurd (b.differs (ap (λ o. slice_get o b.index) (sym e) ∙ a.first b.index l))
          | inr h ↦ omega (arith, a.counted, b.counted)
        ]
      ]

  reduced_or_not : (i j : ℕ) → IsNotReducedAt bytes i → IsOrderAt bytes j → ⊥
  reduced_or_not i j a b =
      let s = one_reading bytes b.lines b.has a.lines a.has in
      let w = a.where_it_is in
      b.reduced.each w.index (omega (arith, ap length s, w.within)) (unreduced_in a.lines b.lines w.index s w.unreduced)

  -- a text has one cause of refusal
  one_cause : (e r : DiagramError) → IsRefusal bytes e → IsRefusal bytes r → e ≢ NoMemory → (r ≡ e) ⊎ (r ≡ NoMemory)
  one_cause NoMemory r h k other = absurd (other refl)
  one_cause (Syntax at) (Syntax to) h k other = inl (ap Syntax (one_fault bytes to at k h))
  one_cause (Syntax at) (NotReduced i) h k other = absurd (no_fault bytes k.lines k.has at h)
  one_cause (Syntax at) (Order i) h k other = absurd (no_fault bytes k.lines k.has at h)
  one_cause (Syntax at) NoMemory h k other = inr refl
  one_cause (NotReduced i) (Syntax to) h k other = absurd (no_fault bytes h.lines h.has to k)
  one_cause (NotReduced i) (NotReduced j) h k other = inl (ap NotReduced (first_unreduced j i k h))
  one_cause (NotReduced i) (Order j) h k other = absurd (reduced_or_not i j h k)
  one_cause (NotReduced i) NoMemory h k other = inr refl
  one_cause (Order i) (Syntax to) h k other = absurd (no_fault bytes h.lines h.has to k)
  one_cause (Order i) (NotReduced j) h k other = absurd (reduced_or_not j i k h)
  one_cause (Order i) (Order j) h k other = inl (ap Order (first_out j i k h))
  one_cause (Order i) NoMemory h k other = inr refl

  pub due : (r : Result Dd DiagramError) → IfErr r (IsRefusal bytes) → IfOk r (λ d. IsDiagramText bytes) → (e : DiagramError) → IsRefusal bytes e → e ≢ NoMemory → IsRefusedFor r e
  due (Ok d) h t e k other = absurd (other (only_memory bytes t e k))
  due (Err r) h t e k other = one_cause e r k h other

-- so is the printed text of a place
pub again_refused : (nodes : List Node) (r : Result Dd DiagramError) (e : DiagramError) (bytes : List ℕ) → r ≡ Err e → IfErr r (IsRefusal bytes) → (p : ℕ) → IsTextOf nodes p bytes → IsReadAs r p
again_refused nodes r e bytes is h p t = rw is (only_memory bytes (printed_is_text nodes p bytes t) e (rw is at h))

fits_same : (m n : Node) → m ≡ n → FitsNode m → FitsNode n
fits_same m n e h = rw e at h

fits_placed : (lines : List Node) (places : List ℕ) (i : ℕ) (x n : Node) → placed places x ≡ n → IsLineAt lines i x → FitsNode n
fits_placed lines places i (Leaf t) n e w = fits_same (placed places (Leaf t)) n e w
fits_placed lines places i (Branch e' hit miss) n e w = fits_same (placed places (Branch e' hit miss)) n e w.small

-- lines that stand at places of a table, and the walk from the last place
module _ (nodes lines : List Node) (places : List ℕ) (here : ArePlaced nodes lines places) (bytes : List ℕ) (has : HasLines bytes lines) (reduced : AreReduced lines) (counted : length places ≡ length lines)
    (order : List ℕ) (walk : Finishes nodes (get_or places (length places - 1) 0) [] order) where
  -- in the order of the walk they are a text of the grammar
  pub text_taken : ((k : ℕ) → k < length places → slice_get order k ≡ slice_get places k) → IsDiagramText bytes
  text_taken same =
      let w = line_walk nodes lines places here has.proper counted order has.some walk in
      record { lines = lines; has = has; reduced = reduced; order = w.found; walk = w.walk; in_turn = λ k h. w.in_turn k h (same k (omega (arith, counted))) }

  -- the text of the diagram at the last place
  pub text_read : IsTable nodes → ListsBelow nodes (get_or places (length places - 1) 0) order → ((k : ℕ) → k < length places → slice_get order k ≡ slice_get places k)
      → IsTextOf nodes (get_or places (length places - 1) 0) bytes
  text_read table below same = record {
    table = table;
    places = places;
    walk = rw (walk_same nodes lines places here bytes has counted order walk below same) at walk;
    is = text_of_lines nodes lines places here bytes has counted;
    count = omega (arith, has.fits, counted);
    fit = λ i q n a at.
        let h = slice_get_within places i q a in
        let l : slice_get lines i ≡ Some (get_or lines i (Leaf 0)) = slice_get-get_or lines i (Leaf 0) (omega (arith, counted)) in
        let p = here.each i q (get_or lines i (Leaf 0)) a l in
        let e : placed places (get_or lines i (Leaf 0)) ≡ n = cc in
        fits_placed lines places i (get_or lines i (Leaf 0)) n e (has.proper.each i (get_or lines i (Leaf 0)) l);
  }

  -- the first line that the walk does not finish in its turn
  pub out_of_order : (index line : ℕ) → line ≡ index + 2 → index < length places → slice_get order index ≢ slice_get places index → ((k : ℕ) → k < index → slice_get order k ≡ slice_get places k) → IsOrderAt bytes line
  out_of_order index line told within differs first =
      let w = line_walk nodes lines places here has.proper counted order has.some walk in
      record {
        lines = lines;
        has = has;
        reduced = reduced;
        order = w.found;
        walk = w.walk;
        index = index;
        counted = told;
        within = omega (arith, counted);
        differs = λ e. differs (w.turned index (omega (arith, counted)) e);
        first = λ k h. w.in_turn k (omega (arith, counted)) (first k h);
      }

-- in one table lines stand at one list of places
module _ (nodes lines : List Node) (ps qs : List ℕ) (table : IsTable nodes) (lawful : AreLines lines) (xs : ArePlaced nodes lines ps) (ys : ArePlaced nodes lines qs)
    (n : length ps ≡ length lines) (m : length qs ≡ length lines) where
  same_placed : (i : ℕ) (x : Node) → IsLineAt lines i x → ((j : ℕ) → j < i → get_or ps j 0 ≡ get_or qs j 0) → placed ps x ≡ placed qs x
  same_placed i (Leaf t) w before = refl
  same_placed i (Branch e hit miss) w before =
      let a = before hit.place w.hit_earlier in
      let b = before miss.place w.miss_earlier in
      rw (a, b) refl

  one_place : (i : ℕ) → i < length lines → ((j : ℕ) → j < i → get_or ps j 0 ≡ get_or qs j 0) → get_or ps i 0 ≡ get_or qs i 0
  one_place i h before =
      let l : slice_get lines i ≡ Some (get_or lines i (Leaf 0)) = slice_get-get_or lines i (Leaf 0) h in
      let x = xs.each i (get_or ps i 0) (get_or lines i (Leaf 0)) (slice_get-get_or ps i 0 (omega arith)) l in
      let y = ys.each i (get_or qs i 0) (get_or lines i (Leaf 0)) (slice_get-get_or qs i 0 (omega arith)) l in
      let s = same_placed i (get_or lines i (Leaf 0)) (lawful.each i (get_or lines i (Leaf 0)) l) before in
      table.once (get_or ps i 0) (get_or qs i 0) (placed qs (get_or lines i (Leaf 0))) (x ∙ ap Some s) y

  one_list : (k : ℕ) → k ≤ length lines → (i : ℕ) → i < k → get_or ps i 0 ≡ get_or qs i 0
  one_list zero most i h = absurd (omega arith)
  one_list (suc k) most i h = elim (cases_lt i k) [
    | inl l ↦ one_list k (omega arith) i l
    | inr g ↦ one_place i (omega arith) (λ j l. one_list k (omega arith) j (omega arith))
  ]

placed_kept : (old new lines : List Node) (places : List ℕ) → Keeps old new → ArePlaced old lines places → ArePlaced new lines places
placed_kept old new lines places k a =
    let g : length old ≤ length new = k.grows in
    record {
      within = λ i p h. omega (arith, a.within i p h);
      each = λ i p x h l. k.nodes p (a.within i p h) ∙ a.each i p x h l;
      apart = a.apart;
    }

pub placed_in : (nodes xs ys : List Node) (places : List ℕ) → xs ≡ ys → ArePlaced nodes xs places → ArePlaced nodes ys places
placed_in nodes xs ys places e a = rw e at a

-- the printed text of a place is read as that place
pub same_root : (old new lines : List Node) (places : List ℕ) (p : ℕ) (bytes : List ℕ) → Keeps old new → IsTable new → ArePlaced new lines places → HasLines bytes lines → length places ≡ length lines → IsTextOf old p bytes
    → get_or places (length places - 1) 0 ≡ p
same_root old new lines places p bytes keeps table here has counted t =
    let s = one_reading bytes (printed_lines old p bytes t) (has_lines old p bytes t) lines has in
    let c = count old p bytes t in
    let l = ap length s in
    let most : length lines - 1 < length lines = omega (arith, has.some) in
    let i : length places - 1 ≡ length t.places - 1 = omega (arith, c, l, counted) in
    let e = one_list new (printed_lines old p bytes t) places t.places table (proper old p bytes t) (placed_in new lines (printed_lines old p bytes t) places s here)
    (placed_kept old new (printed_lines old p bytes t) t.places keeps (all old p bytes t)) (counted ∙ l) c (length (printed_lines old p bytes t)) (omega arith) (length places - 1) (omega (arith, l, most, counted)) in
    e ∙ (ap (λ k. get_or t.places k 0) i ∙ last_is old p bytes t)

pub one_text : (nodes : List Node) (p : ℕ) (text other : List ℕ) → IsTextOf nodes p text → IsTextOf nodes p other → text ≡ other
one_text nodes p text other t u = t.is ∙ (ap (diagram_text nodes) (one_walk nodes t.walk u.walk) ∙ sym u.is)

pub one_root : (nodes : List Node) (p q : ℕ) (text : List ℕ) → IsTextOf nodes p text → IsTextOf nodes q text → p ≡ q
one_root nodes p q text t u =
    let e = same_root nodes nodes (printed_lines nodes q text u) u.places p text (keeps_self nodes) t.table (all nodes q text u) (has_lines nodes q text u) (count nodes q text u) t in
    sym e ∙ last_is nodes q text u

walk_kept : (old new : List Node) → Keeps old new → {p : ℕ} {done after : List ℕ} → Finishes old p done after → Finishes new p done after
walk_kept old new k (met h) = met h
walk_kept old new k (leaf {p} {t} fresh at) = leaf fresh (k.nodes p (slice_get_within old p (Leaf t) at) ∙ at)
walk_kept old new k (branch {p} {e} {hit} {miss} fresh at w v) = branch fresh (k.nodes p (slice_get_within old p (Branch e hit miss) at) ∙ at) (walk_kept old new k w) (walk_kept old new k v)

pub text_kept : (old new : List Node) (p : ℕ) (text : List ℕ) → Keeps old new → IsTable new → IsTextOf old p text → IsTextOf new p text
text_kept old new p text k table t =
    let here = all old p text t in
    record {
      table = table;
      places = t.places;
      walk = walk_kept old new k t.walk;
      is = text_of_lines new (printed_lines old p text t) t.places (placed_kept old new (printed_lines old p text t) t.places k here) text (has_lines old p text t) (count old p text t);
      count = t.count;
      fit = λ i q n a at. t.fit i q n a (sym (k.nodes q (here.within i q a)) ∙ at);
    }
