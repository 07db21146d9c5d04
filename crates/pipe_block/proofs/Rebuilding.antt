-- The diagrams of columns, rebuilt node by node.
use Rattle.std.proofs.Common.{◌≡◌, ℕ, zero, suc, ◌+◌, ◌<◌, ◌≤◌, Bool, true, false, List, [], ◌∷◌, ◌++◌, length, map, slice_get, slice_index, get_or, set, Some, All, refl, sym, ap, ◌∙◌, inl, inr, arith, if◌then◌else◌, length-append}
use Rattle.std.proofs.lemmas.Bool.{cases_lt}
use Rattle.std.proofs.lemmas.List.{same_lists, length-map, get_or-map, get_or_append_left, get_or_push}
use Rattle.std.proofs.lemmas.List.Elements.{All-get_or, All-from_get_or, All-cons}
use Rattle.std.proofs.lemmas.Option.{slice_get_within, slice_get-get_or, get_or_from_slice_get, slice_get-map, same_Some}
use Rattle.xdd_table.specs.declared.node.Dd.{Dd}
use Rattle.xdd_table.specs.declared.node.Node.{Node}
use Rattle.xdd_table.specs.declared.node.Node.TheVariants.{Branch}
use Rattle.xdd_table.specs.Diagram.{Combination, time, BeginsAfter, EventsLess, itself, by_hit, by_miss, Keeps}
use Rattle.pipe_block.specs.declared.row.Row.{Row}
use Rattle.pipe_block.specs.Times.{times_at, IsDiagram}
use Rattle.pipe_block.proofs.Gathers.{other_set, this_set}
use Rattle.pipe_block.specs.Rows.{IsColumn, IsBuilt, AreBuilt, GivesRows, AreColumns, column_of}

pub column_kept : (plan old new : List Node) (times : List ℕ) (p : ℕ) (d : Dd) → Keeps old new → IsColumn plan old times p d → IsColumn plan new times p d
column_kept plan old new times p d k c =
    let g : length old ≤ length new = k.grows in
    record {
      within = omega (arith, c.within);
      each = λ f t is. k.times f d.place c.within ∙ c.each f t is;
      events = λ bound h. k.events d.place bound c.within (c.events bound h);
    }

pub built_kept : (plan old new : List Node) (times : List ℕ) (p : ℕ) (d : Dd) → Keeps old new → IsBuilt plan old times p d → IsBuilt plan new times p d
built_kept plan old new times p d k b = record {
  column = column_kept plan old new times p d k b.column;
  after = λ e h. k.begins e d.place b.column.within (b.after e h);
}

-- a leaf with the time of its position
pub built_leaf : (plan nodes : List Node) (times : List ℕ) (p t : ℕ) (d : Dd) → ((f : Combination) → time plan f p ≡ t) → d.place < length nodes
    → ((f : Combination) → time nodes f d.place ≡ get_or times t 0) → ((e : ℕ) → BeginsAfter nodes e d.place) → ((b : ℕ) → EventsLess nodes d.place b) → IsBuilt plan nodes times p d
built_leaf plan nodes times p t d is within value after events = record {
  column = record {
    within = within;
    each = λ f u at. value f ∙ get_or_from_slice_get times t u 0 (rw (is f) at at);
    events = λ b h. events b;
  };
  after = λ e h. after e;
}

-- one time at all positions
pub column_one : (plan nodes : List Node) (times : List ℕ) (p first : ℕ) (d : Dd) → All (λ t. t ≡ first) times → d.place < length nodes
    → ((f : Combination) → time nodes f d.place ≡ first) → ((b : ℕ) → EventsLess nodes d.place b) → IsColumn plan nodes times p d
column_one plan nodes times p first d all within value events = record {
  within = within;
  each = λ f t at.
      let i = time plan f p in
      let e : get_or times i 0 ≡ first = All-get_or (λ t. t ≡ first) times i 0 (slice_get_within times i t at) all in
      value f ∙ (sym e ∙ get_or_from_slice_get times i t 0 at);
  events = λ b h. events b;
}

either_time : (b : Bool) (times : List ℕ) (t u i h m h' m' : ℕ) → t ≡ (if b then m' else h') → i ≡ (if b then m else h) → slice_get times i ≡ Some u
    → (slice_get times h ≡ Some u → h' ≡ u) → (slice_get times m ≡ Some u → m' ≡ u) → t ≡ u
either_time true times t u i h m h' m' is is' at x y = is ∙ y (rw is' at at)
either_time false times t u i h m h' m' is is' at x y = is ∙ x (rw is' at at)

-- a branch of what was built for the two branches of the plan
module _ (plan old new : List Node) (times : List ℕ) (p e : ℕ) (hit miss hit' miss' d : Dd) (at : slice_get plan p ≡ Some (Branch e hit miss))
    (h : IsBuilt plan old times hit.place hit') (m : IsBuilt plan old times miss.place miss') where
  pub built_branch : ((f : Combination) → time plan f p ≡ (if f e then time plan f miss.place else time plan f hit.place))
      → d.place < length new
      → ((f : Combination) → time new f d.place ≡ (if f e then time old f miss'.place else time old f hit'.place))
      → ((x : ℕ) → x < e → BeginsAfter new x d.place)
      → ((b : ℕ) → e < b → EventsLess old hit'.place b → EventsLess old miss'.place b → EventsLess new d.place b)
      → IsBuilt plan new times p d
  built_branch reads within value after events = record {
    column = record {
      within = within;
      each = λ f u is.
          either_time (f e) times (time new f d.place) u (time plan f p) (time plan f hit.place) (time plan f miss.place) (time old f hit'.place) (time old f miss'.place)
          (value f) (reads f) is (h.column.each f u) (m.column.each f u);
      events = λ b less.
          let l : e < b = less p e hit miss itself at in
          let lh : EventsLess plan hit.place b = λ q e' x y below is. less q e' x y (by_hit at below) is in
          let lm : EventsLess plan miss.place b = λ q e' x y below is. less q e' x y (by_miss at below) is in
          events b l (h.column.events b lh) (m.column.events b lm);
    };
    after = λ x b. let l : x < e = rw at at b in after x l;
  }

-- one more is built
pub built_more : (plan nodes : List Node) (times : List ℕ) (built : List Dd) (d : Dd) → AreBuilt plan nodes times built → IsBuilt plan nodes times (length built) d → AreBuilt plan nodes times (built ++ d ∷ [])
built_more plan nodes times built d all b = record {
  each = λ p x is. elim (cases_lt p (length built)) [
    | inl l ↦
        all.each p x (slice_get-get_or built p x l ∙ ap (λ y. Some y) (sym (get_or_append_left built (d ∷ []) x p l) ∙ get_or_from_slice_get (built ++ d ∷ []) p x x is))
    | inr g ↦
        let within : p < length (built ++ d ∷ []) = slice_get_within (built ++ d ∷ []) p x is in
        let long : length (built ++ d ∷ []) ≡ length built + 1 = length-append built (d ∷ []) in
        let same : length built ≡ p = omega arith in
        let is' : d ≡ x = sym (get_or_push built d x p same) ∙ get_or_from_slice_get (built ++ d ∷ []) p x x is in
        rw (← same, ← is') b
  ];
}

pub all_kept : (plan old new : List Node) (times : List ℕ) (built : List Dd) → Keeps old new → AreBuilt plan old times built → AreBuilt plan new times built
all_kept plan old new times built k all = record { each = λ p d is. built_kept plan old new times p d k (all.each p d is) }

-- the diagrams of the columns and of the numbers give the rows
pub gives_rows : (plan nodes : List Node) (rows : List Row) (p : ℕ) (number : Dd) (slots : List Dd) → AreColumns plan nodes rows p slots
    → IsColumn plan nodes (map (λ (r : Row). r.number) rows) p number → GivesRows plan nodes rows p (record { number = number; slots = slots })
gives_rows plan nodes rows p number slots c n = record {
  each = λ f r is long.
      let i = time plan f p in
      let num : time nodes f number.place ≡ r.number = n.each f r.number (slice_get-map (λ (r : Row). r.number) rows i ∙ rw is refl) in
      let all : times_at nodes f slots ≡ r.slots =
      same_lists (times_at nodes f slots) r.slots (length-map slots (λ d. time nodes f d.place) ∙ (c.long ∙ sym long))
      (λ k x l.
      let l' : k < length slots = rw (length-map slots (λ d. time nodes f d.place)) at l in
      let z : Dd = record { place = 0 } in
      let l'' : k < length r.slots = omega (arith, c.long) in
      get_or-map (λ d. time nodes f d.place) slots k z x l'
      ∙ (((c.each k (get_or slots k z) (slice_get-get_or slots k z l')).each f (slice_index r.slots k) (slice_get-map (λ (r : Row). slice_index r.slots k) rows i ∙ rw is refl))
      ∙ default r.slots k 0 x l''))
      in
      rw (num, all) refl;
  diagrams = λ bound less.
      All-cons (IsDiagram nodes bound) number slots (record { within = n.within; events = n.events bound less })
      (All-from_get_or (IsDiagram nodes bound) slots (record { place = 0 })
      (λ k l. let x = c.each k (get_or slots k (record { place = 0 })) (slice_get-get_or slots k (record { place = 0 }) l) in record { within = x.within; events = x.events bound less }));
}
  where
    default : (xs : List ℕ) (k d e : ℕ) → k < length xs → get_or xs k d ≡ get_or xs k e
    default [] k d e l = absurd (omega arith)
    default (x ∷ xs) zero d e l = refl
    default (x ∷ xs) (suc k) d e l = default xs k d e (omega arith)

pub columns_kept : (plan old new : List Node) (rows : List Row) (p : ℕ) (slots : List Dd) → Keeps old new → AreColumns plan old rows p slots → AreColumns plan new rows p slots
columns_kept plan old new rows p slots k c = record {
  long = c.long;
  each = λ j d is. column_kept plan old new (column_of j rows) p d k (c.each j d is);
}

-- one more column is set
pub columns_more : (plan old new : List Node) (rows : List Row) (p : ℕ) (slots : List Dd) (k : ℕ) (x : Dd) → Keeps old new → k < length slots → IsColumn plan new (column_of k rows) p x
    → ((j : ℕ) (d : Dd) → j < k → slice_get slots j ≡ Some d → IsColumn plan old (column_of j rows) p d)
    → (j : ℕ) (d : Dd) → j < k + 1 → slice_get (set slots k x) j ≡ Some d → IsColumn plan new (column_of j rows) p d
columns_more plan old new rows p slots k x keeps l c done j d m at = elim (cases_lt j k) [
  | inl n ↦ column_kept plan old new (column_of j rows) p d keeps (done j d n (sym (other_set slots k j x (λ e. omega arith)) ∙ at))
  | inr g ↦
      let same : j ≡ k = omega arith in
      let at' : slice_get (set slots k x) k ≡ Some d = rw same at at in
      let is : d ≡ x = same_Some d x (sym at' ∙ this_set slots k x l) in
      rw (is, same) c
]

pub columns_all : (plan nodes : List Node) (rows : List Row) (p : ℕ) (slots : List Dd) (k : ℕ) → length slots ≡ 35 → 35 ≤ k
    → ((j : ℕ) (d : Dd) → j < k → slice_get slots j ≡ Some d → IsColumn plan nodes (column_of j rows) p d) → AreColumns plan nodes rows p slots
columns_all plan nodes rows p slots k long all done = record {
  long = long;
  each = λ j d is. let l : j < length slots = slice_get_within slots j d is in done j d (omega arith) is;
}
