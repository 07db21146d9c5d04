-- Lines that are as they must be, one after another, and the first that is not.
use Rattle.std.proofs.Common.{◌≡◌, ◌≢◌, ℕ, zero, suc, ◌+◌, ◌<◌, ◌≤◌, Bool, true, false, List, [], ◌∷◌, ◌++◌, length, take, Some, None, refl, sym, ap, subst, ◌∙◌, arith}
use Rattle.std.specs.Prelude.{Option, slice_get}
use Rattle.std.proofs.Common.{◌⊎◌, inl, inr, ⊎_elim, cond, get_or}
use Rattle.std.specs.Prelude.{count_by}
use Rattle.std.proofs.lemmas.List.Elements.{All-nil, All-push}
use Rattle.std.proofs.lemmas.List.Sums.{count_by_more_yes, count_by_more_no}
use Rattle.std.proofs.Math.Seq.{get_or-append_seam}
use Rattle.cert_lines.specs.declared.row.Row.{Row}
use Rattle.cert_lines.specs.Reading.{line_of, lines_of}
use Rattle.cert_items.specs.declared.counts.Counts.{Counts}
use Rattle.cert_items.specs.Counts.{AreCounts}
use Rattle.cert_items.specs.Said.{Fits}
use Rattle.cert_items.specs.Order.{is_node, is_listed, is_multiplier}
use Rattle.std.proofs.lemmas.Bool.{cases_lt, false≢true}
use Rattle.std.proofs.lemmas.List.{length-append, take_all, take-append-le, take_more, length-take-le}
use Rattle.std.proofs.lemmas.Option.{slice_get_within, get_or_from_slice_get}
use Rattle.cert_lines.specs.Grammar.{Line}
use Rattle.cert_items.specs.declared.item.Item.{Item}
use Rattle.cert_items.specs.declared.items_error.ItemsError.{ItemsError}
use Rattle.cert_items.specs.declared.items_error.ItemsError.TheVariants.{Number, Order, NoMemory}
use Rattle.cert_items.specs.Said.{IsSaid}
use Rattle.cert_items.specs.Order.{is_in_order}
use Rattle.cert_items.specs.Faults.{AreItems, AreAllItems, HasNumberFault, HasOrderFault, IsRefusal}
use Rattle.cert_items.specs.Faults.AreItems.{none, more}
use Rattle.cert_items.specs.Judged.{IsJudged}

some_is : {A : Type 0} {a b : A} → Some a ≡ Some b → a ≡ b
some_is {A = A} {a = a} e = ap (λ (o : Option A). elim o as (λ _. A) [ None ↦ a | (Some x) ↦ x ]) e

-- the element right behind some, and one among them
pub get_last : {A : Type 0} (xs : List A) (x : A) → slice_get (xs ++ x ∷ []) (length xs) ≡ Some x
get_last [] x = refl
get_last (y ∷ xs) x = get_last xs x

pub get_front : {A : Type 0} (xs : List A) (x : A) (k : ℕ) → k < length xs → slice_get (xs ++ x ∷ []) k ≡ slice_get xs k
get_front [] x k small = absurd (omega (arith, small))
get_front (y ∷ xs) x zero small = refl
get_front (y ∷ xs) x (suc k) small = get_front xs x k (omega (arith, small))

pub size_more : (items : List Item) (x : Item) → length (items ++ x ∷ []) ≡ length items + 1
size_more items x = length-append items (x ∷ [])

-- what a line among them tells, and what stands before it
pub record Stands (lines : List Line) (items : List Item) (k : ℕ) : Type 0 where
  pub line : Line
  pub tells : Item
  pub here : slice_get lines k ≡ Some line
  pub item : slice_get items k ≡ Some tells
  pub said : IsSaid line tells
  pub order : is_in_order lines (take k items) tells ≡ true

pub stands : (lines : List Line) (items : List Item) (k : ℕ) → AreItems lines items → k < length items → Stands lines items k
stands lines items k none small = absurd (omega (arith, small))
stands lines items k (more {items = before} line x so here said order) small =
    ⊎_elim
    (λ inside.
    let s = stands lines before k so inside in
    record {
      line = s.line;
      tells = s.tells;
      here = s.here;
      item = get_front before x k inside ∙ s.item;
      said = s.said;
      order = ap (λ l. is_in_order lines l s.tells) (take-append-le k before (x ∷ []) (omega arith)) ∙ s.order;
    })
    (λ over.
    let n = size_more before x in
    let at : k ≡ length before = omega (arith, n, small, over) in
    record {
      line = line;
      tells = x;
      here = ap (slice_get lines) at ∙ here;
      item = ap (slice_get (before ++ x ∷ [])) at ∙ get_last before x;
      said = said;
      order = ap (λ l. is_in_order lines l x) (ap (λ i. take i (before ++ x ∷ [])) at ∙ take-append-le (length before) before (x ∷ []) (omega arith) ∙ take_all (length before) before (omega arith)) ∙ order;
    })
    (cases_lt k (length before))

take_nothing : (k : ℕ) → take {A = Item} k [] ≡ []
take_nothing zero = refl
take_nothing (suc k) = refl

pub taken_more : (items : List Item) (k : ℕ) (x : Item) → slice_get items k ≡ Some x → take (k + 1) items ≡ take k items ++ x ∷ []
taken_more items k x e = take_more items k x (slice_get_within items k x e) ∙ ap (λ y. take k items ++ y ∷ []) (get_or_from_slice_get items k x x e)

-- some of the first items
pub shorter : (lines : List Line) (items : List Item) (k : ℕ) → AreItems lines items → AreItems lines (take k items)
shorter lines items k none = subst (AreItems lines) (sym (take_nothing k)) none
shorter lines items k (more {items = before} line x so here said order) =
    ⊎_elim
    (λ inside. subst (AreItems lines) (sym (take-append-le k before (x ∷ []) (omega arith))) (shorter lines before k so))
    (λ over. let n = size_more before x in subst (AreItems lines) (sym (take_all k (before ++ x ∷ []) (omega (arith, n, over)))) (more line x so here said order))
    (cases_le k (length before))
  where
    cases_le : (a b : ℕ) → (a ≤ b) ⊎ (b < a)
    cases_le a b = ⊎_elim (λ h. inr h) (λ h. inl h) (cases_lt b a)

-- the items that were judged are the only ones that the lines tell
pub one_front : (lines : List Line) (items others : List Item) → IsJudged lines items → AreItems lines others → length others ≤ length items → others ≡ take (length others) items
one_front lines items others j none small = refl
one_front lines items others j (more {items = before} line x so here said order) small =
    let n = size_more before x in
    let inside : length before < length items = omega (arith, n, small) in
    let s = stands lines items (length before) j.so inside in
    let same : s.tells ≡ x = j.alone (length before) line s.tells x here s.item said in
    let front = one_front lines items before j so (omega (arith, inside)) in
    ap (λ l. l ++ x ∷ []) front ∙ ap (λ y. take (length before) items ++ y ∷ []) (sym same) ∙ sym (taken_more items (length before) s.tells s.item) ∙ ap (λ i. take i items) (sym n)

-- a line among those that were judged has no fault
pub no_number_fault : (lines : List Line) (items : List Item) (at : ℕ) → IsJudged lines items → (f : HasNumberFault lines at) → length f.before < length items → ⊥
no_number_fault lines items at j f small =
    let s = stands lines items (length f.before) j.so small in
    f.fault s.tells (subst (λ l. IsSaid l s.tells) (some_is (sym s.here ∙ f.here)) s.said)

pub no_order_fault : (lines : List Line) (items : List Item) (at : ℕ) → IsJudged lines items → (f : HasOrderFault lines at) → length f.before < length items → ⊥
no_order_fault lines items at j f small =
    let s = stands lines items (length f.before) j.so small in
    let same : s.tells ≡ f.tells = j.alone (length f.before) f.line s.tells f.tells f.here s.item f.said in
    let front : f.before ≡ take (length f.before) items = one_front lines items f.before j f.so (omega (arith, small)) in
    let order : is_in_order lines f.before f.tells ≡ true = ap (λ l. is_in_order lines l f.tells) front ∙ ap (is_in_order lines (take (length f.before) items)) (sym same) ∙ s.order in
    false≢true (sym f.fault ∙ order)

-- behind a line with a fault no further line is as it must be
pub number_stops : (lines : List Line) (items others : List Item) (at : ℕ) → (f : HasNumberFault lines at) → f.before ≡ items → AreItems lines others → length others ≤ length items
number_stops lines items others at f is so =
    ⊎_elim
    (λ past.
    let s = stands lines others (length items) so past in
    let here : slice_get lines (length items) ≡ Some f.line = ap (λ l. slice_get lines (length l)) (sym is) ∙ f.here in
    absurd (f.fault s.tells (subst (λ l. IsSaid l s.tells) (some_is (sym s.here ∙ here)) s.said)))
    (λ within. within) (cases_lt (length items) (length others))

-- nothing else is told by the line with the fault
abbrev pub Alone : Line → Item → Type 0
Alone line x = (y : Item) → IsSaid line y → x ≡ y

pub order_stops : (lines : List Line) (items others : List Item) (line : Line) (x : Item) → IsJudged lines items → slice_get lines (length items) ≡ Some line → Alone line x → is_in_order lines items x ≡ false → AreItems lines others → length others ≤ length items
order_stops lines items others line x j here alone fault so =
    ⊎_elim
    (λ past.
    let s = stands lines others (length items) so past in
    let same : x ≡ s.tells = alone s.tells (subst (λ l. IsSaid l s.tells) (some_is (sym s.here ∙ here)) s.said) in
    let cut : AreItems lines (take (length items) others) = shorter lines others (length items) so in
    let size : length (take (length items) others) ≡ length items = length-take-le (length items) others (omega (arith, past)) in
    let front : take (length items) others ≡ items = one_front lines items (take (length items) others) j cut (omega (arith, size)) ∙ ap (λ i. take i items) size ∙ take_all (length items) items (omega arith) in
    absurd (false≢true (sym fault ∙ ap (is_in_order lines items) same ∙ ap (λ l. is_in_order lines l s.tells) (sym front) ∙ s.order)))
    (λ within. within) (cases_lt (length items) (length others))

-- ---- what is due
pub most_lines : (lines : List Line) (items : List Item) → AreItems lines items → length items ≤ length lines
most_lines lines items none = omega arith
most_lines lines items (more {items = before} line x so here said order) =
    let n = slice_get_within lines (length before) line here in let m = size_more before x in omega (arith, n, m)

order_most : (lines : List Line) (items others : List Item) (at : ℕ) → IsJudged lines items → (f : HasOrderFault lines at) → f.before ≡ items → Alone f.line f.tells → AreItems lines others → length others ≤ length items
order_most lines items others at j f is alone so =
    order_stops lines items others f.line f.tells j (ap (λ l. slice_get lines (length l)) (sym is) ∙ f.here) alone (ap (λ l. is_in_order lines l f.tells) (sym is) ∙ f.fault) so

same_line : (lines : List Line) (m n : ℕ) (a b : Line) → m ≡ n → slice_get lines m ≡ Some a → slice_get lines n ≡ Some b → a ≡ b
same_line lines m n a b e h k = some_is (sym h ∙ ap (slice_get lines) e ∙ k)

pub number_due : (lines : List Line) (items : List Item) (at : ℕ) → IsJudged lines items → (f : HasNumberFault lines at) → f.before ≡ items → (e : ItemsError) → IsRefusal lines e → e ≢ NoMemory → (Number at ≡ e) ⊎ (Number at ≡ NoMemory)
number_due lines items at j f is (Number m) g other =
    let most : length g.before ≤ length items = number_stops lines items g.before at f is g.so in
    ⊎_elim (λ less. absurd (no_number_fault lines items m j g less))
    (λ same. let n = ap length is in let here : at ≡ m = omega (arith, f.counted, g.counted, most, same, n) in inl (ap Number here)) (cases_lt (length g.before) (length items))
number_due lines items at j f is (Order m) g other =
    let most : length g.before ≤ length items = number_stops lines items g.before at f is g.so in
    ⊎_elim (λ less. absurd (no_order_fault lines items m j g less))
    (λ same.
    let n = ap length is in
    let k : length g.before ≡ length f.before = omega (arith, most, same, n) in
    absurd (f.fault g.tells (subst (λ l. IsSaid l g.tells) (same_line lines (length g.before) (length f.before) g.line f.line k g.here f.here) g.said)))
    (cases_lt (length g.before) (length items))
number_due lines items at j f is NoMemory g other = absurd (other refl)

pub order_due : (lines : List Line) (items : List Item) (at : ℕ) → IsJudged lines items → (f : HasOrderFault lines at) → f.before ≡ items → Alone f.line f.tells → (e : ItemsError) → IsRefusal lines e → e ≢ NoMemory → (Order at ≡ e) ⊎ (Order at ≡ NoMemory)
order_due lines items at j f is alone (Number m) g other =
    let most : length g.before ≤ length items = order_most lines items g.before at j f is alone g.so in
    ⊎_elim (λ less. absurd (no_number_fault lines items m j g less))
    (λ same.
    let n = ap length is in
    let k : length f.before ≡ length g.before = omega (arith, most, same, n) in
    absurd (g.fault f.tells (subst (λ l. IsSaid l f.tells) (same_line lines (length f.before) (length g.before) f.line g.line k f.here g.here) f.said)))
    (cases_lt (length g.before) (length items))
order_due lines items at j f is alone (Order m) g other =
    let most : length g.before ≤ length items = order_most lines items g.before at j f is alone g.so in
    ⊎_elim (λ less. absurd (no_order_fault lines items m j g less))
    (λ same. let n = ap length is in let here : at ≡ m = omega (arith, f.counted, g.counted, most, same, n) in inl (ap Order here)) (cases_lt (length g.before) (length items))
order_due lines items at j f is alone NoMemory g other = absurd (other refl)

pub none_due : (lines : List Line) (items : List Item) → IsJudged lines items → length lines ≤ length items → (e : ItemsError) → IsRefusal lines e → e ≢ NoMemory → ⊥
none_due lines items j all (Number m) g other = let n = slice_get_within lines (length g.before) g.line g.here in no_number_fault lines items m j g (omega (arith, n, all))
none_due lines items j all (Order m) g other = let n = slice_get_within lines (length g.before) g.line g.here in no_order_fault lines items m j g (omega (arith, n, all))
none_due lines items j all NoMemory g other = other refl

pub number_taken : (lines : List Line) (items others : List Item) (at : ℕ) → (f : HasNumberFault lines at) → f.before ≡ items → AreAllItems lines others → ⊥
number_taken lines items others at f is all =
    let most = number_stops lines items others at f is all.so in
    let n = slice_get_within lines (length f.before) f.line f.here in
    let m = ap length is in
    let size = all.all in
    absurd (omega (arith, most, n, m, size))

pub order_taken : (lines : List Line) (items others : List Item) (at : ℕ) → IsJudged lines items → (f : HasOrderFault lines at) → f.before ≡ items → Alone f.line f.tells → AreAllItems lines others → ⊥
order_taken lines items others at j f is alone all =
    let most = order_most lines items others at j f is alone all.so in
    let n = slice_get_within lines (length f.before) f.line f.here in
    let m = ap length is in
    let size = all.all in
    absurd (omega (arith, most, n, m, size))

pub all_once : (lines : List Line) (items others : List Item) → IsJudged lines items → length lines ≤ length items → AreAllItems lines others → items ≡ others
all_once lines items others j over all =
    let size = all.all in
    let longest : length items ≤ length lines = most_lines lines items j.so in
    let front = one_front lines items others j all.so (omega (arith, size, over)) in
    sym (front ∙ take_all (length others) items (omega (arith, size, longest)))

pub all_items : (lines : List Line) (items : List Item) → IsJudged lines items → length items ≡ length lines → AreAllItems lines items
all_items lines items j all = record { so = j.so; all = all }

-- ---- one line more
pub none_judged : (lines : List Line) → IsJudged lines []
none_judged lines = record { so = none; fits = All-nil Fits; alone = λ k line x y h i s. absurd (nothing_there k x i) }
  where
    nothing_there : (k : ℕ) (x : Item) → slice_get [] k ≡ Some x → ⊥
    nothing_there k x i = let n = slice_get_within [] k x i in omega (arith, n)

pub judged_more : (lines : List Line) (items : List Item) (line : Line) (x : Item) → IsJudged lines items → slice_get lines (length items) ≡ Some line → IsSaid line x → is_in_order lines items x ≡ true → Alone line x → IsJudged lines (items ++ x ∷ [])
judged_more lines items line x j here said order alone = record {
  so = more line x j.so here said order;
  fits = All-push Fits items x j.fits said.fits;
  alone = λ k l a y at item is.
      ⊎_elim (λ inside. j.alone k l a y at (sym (get_front items x k inside) ∙ item) is)
      (λ over.
      let n = slice_get_within (items ++ x ∷ []) k a item in
      let m = size_more items x in
      let last : k ≡ length items = omega (arith, n, m, over) in
      let same : a ≡ x = some_is (sym item ∙ ap (slice_get (items ++ x ∷ [])) last ∙ get_last items x) in
      same ∙ alone y (subst (λ t. IsSaid t y) (same_line lines k (length items) l line last at here) is))
      (cases_lt k (length items));
}

pub row_line : (rows : List Row) (k : ℕ) (row : Row) → slice_get rows k ≡ Some row → slice_get (lines_of rows) k ≡ Some (line_of row)
row_line [] k row e = absurd (let n = slice_get_within [] k row e in omega (arith, n))
row_line (r ∷ rows) zero row e = ap (λ x. Some (line_of x)) (some_is e)
row_line (r ∷ rows) (suc k) row e = row_line rows k row e

-- ---- counts
plus_nothing : (n : ℕ) → n ≡ n + 0
plus_nothing n = omega arith

count_push : (p : Item → Bool) (items : List Item) (x : Item) (b : Bool) → p x ≡ b → count_by p (items ++ x ∷ []) ≡ count_by p items + cond b 1 0
count_push p items x b e =
    let all : items ++ x ∷ [] ≡ take (length items + 1) (items ++ x ∷ []) = sym (take_all (length items + 1) (items ++ x ∷ []) (let n = size_more items x in omega (arith, n))) in
    let front : take (length items) (items ++ x ∷ []) ≡ items = take-append-le (length items) items (x ∷ []) (omega arith) ∙ take_all (length items) items (omega arith) in
    let inside : length items < length (items ++ x ∷ []) = let n = size_more items x in omega (arith, n) in
    let here : p (get_or (items ++ x ∷ []) (length items) x) ≡ b = ap p (get_or-append_seam items x [] x) ∙ e in
    ap (count_by p) all ∙ by b here inside ∙ ap (λ l. count_by p l + cond b 1 0) front
  where
    by : (b : Bool) → p (get_or (items ++ x ∷ []) (length items) x) ≡ b → length items < length (items ++ x ∷ []) → count_by p (take (length items + 1) (items ++ x ∷ [])) ≡ count_by p (take (length items) (items ++ x ∷ [])) + cond b 1 0
    by true h inside = count_by_more_yes p (items ++ x ∷ []) (length items) x inside h
    by false h inside = count_by_more_no p (items ++ x ∷ []) (length items) x inside h ∙ plus_nothing (count_by p (take (length items) (items ++ x ∷ [])))

pub counts_more : (counts next : Counts) (items : List Item) (x : Item) → AreCounts counts items → next.nodes ≡ counts.nodes + cond (is_node x) 1 0 → next.listed ≡ counts.listed + cond (is_listed x) 1 0 → next.multipliers ≡ counts.multipliers + cond (is_multiplier x) 1 0
    → AreCounts next (items ++ x ∷ [])
counts_more counts next items x c nodes listed multipliers = record {
  nodes = nodes ∙ ap (λ n. n + cond (is_node x) 1 0) c.nodes ∙ sym (count_push is_node items x (is_node x) refl);
  listed = listed ∙ ap (λ n. n + cond (is_listed x) 1 0) c.listed ∙ sym (count_push is_listed items x (is_listed x) refl);
  multipliers = multipliers ∙ ap (λ n. n + cond (is_multiplier x) 1 0) c.multipliers ∙ sym (count_push is_multiplier items x (is_multiplier x) refl);
}
