-- Diagrams taken apart together: the first event, the two halves, and the rows where no event is left.
use Rattle.std.proofs.Common.{◌≡◌, ◌≢◌, ℕ, zero, suc, ◌+◌, ◌<◌, ◌≤◌, ◌⊎◌, Bool, true, false, List, [], ◌∷◌, ◌++◌, length, slice_get, get_or, set, unwrap_or, Option, Some, min, IfSome, None, ◌==◌, refl, sym, ap, ◌∙◌, inl, inr, arith, if◌then◌else◌}
use Rattle.std.proofs.lemmas.Bool.{cases_lt}
use Rattle.std.proofs.lemmas.Bool.Decides.{nat_tests}
use Rattle.std.proofs.lemmas.List.{same_lists, length-map, get_or-map}
use Rattle.std.proofs.lemmas.List.Elements.{All-get_or, All-from_get_or, All-cons, All-head, All-tail, All-nil, All-push, All-pop, All-weaker}
use Rattle.std.proofs.lemmas.Option.{slice_get-get_or, get_or_from_slice_get, unwrap_or-slice_get, same_Some}
use Rattle.xdd_table.specs.declared.node.Dd.{Dd}
use Rattle.xdd_table.specs.declared.node.Node.{Node}
use Rattle.xdd_table.specs.declared.node.Node.TheVariants.{Leaf, Branch}
use Rattle.xdd_table.specs.Diagram.{Combination, time, ReadsAfter, BeginsAfter, EventsLess, itself, by_hit, by_miss, IsBranchAt, Keeps}
use Rattle.pipe_block.specs.declared.row.Row.{Row}
use Rattle.pipe_block.specs.declared.row.Bundle.{Bundle}
use Rattle.pipe_block.specs.Times.{times_at, IsDiagram, AreDiagrams}
use Rattle.pipe_block.specs.Rows.{row_at, parts, AllAfter, AreFrom, IsFirst, IsCofactor, AreCofactors, Extends, AreGathered}
use Rattle.pipe_block.proofs.Plans.{leads_kept}

-- the least of the first events so far and that of one more diagram
module _ (nodes : List Node) (first event least : ℕ) (ds : List Dd) (d : Dd) (is_least : least ≡ min first event) (is : IsFirst nodes event d) where
  pub first_from : AreFrom nodes first ds → AreFrom nodes least (ds ++ d ∷ [])
  first_from from = record {
    each = λ e l.
        let a : e < first = omega arith in
        let b : e < event = omega arith in
        All-push (λ x. BeginsAfter nodes e x.place) ds d (from.each e a) (is.from e b);
  }

  pub first_before : ((e : ℕ) → AllAfter nodes e ds → first < 12 → e < first) → (e : ℕ) → AllAfter nodes e (ds ++ d ∷ []) → least < 12 → e < least
  first_before before e all l =
      let two = All-pop (λ x. BeginsAfter nodes e x.place) (ds ++ d ∷ []) ds (Some d) refl all in
      elim (cases_lt first event) [
        | inl a ↦ let b : e < first = before e two.0 (omega arith) in omega arith
        | inr g ↦ let b : e < event = is.first e two.1 (omega arith) in omega arith
      ]

  pub first_below : ((n : ℕ) → AreDiagrams nodes n ds → first < 12 → first < n) → (n : ℕ) → AreDiagrams nodes n (ds ++ d ∷ []) → least < 12 → least < n
  first_below before n all l =
      let two = All-pop (IsDiagram nodes n) (ds ++ d ∷ []) ds (Some d) refl all in
      elim (cases_lt first event) [
        | inl a ↦ let b : first < n = before n two.0 (omega arith) in omega arith
        | inr g ↦ let b : event < n = is.below n two.1 (omega arith) in omega arith
      ]

  pub first_level : (level : ℕ) → event ≤ 12 → level ≤ 12 → ((level : ℕ) → level ≤ 12 → AreFrom nodes level ds → level ≤ first) → AreFrom nodes level (ds ++ d ∷ []) → level ≤ least
  first_level level small le before from =
      let a : level ≤ first = before level le (record { each = λ e l. (All-pop (λ x. BeginsAfter nodes e x.place) (ds ++ d ∷ []) ds (Some d) refl (from.each e l)).0 }) in
      let b : level ≤ event = elim (cases_lt event level) [
        | inl l ↦
            let c : event < event = is.first event (All-pop (λ x. BeginsAfter nodes event x.place) (ds ++ d ∷ []) ds (Some d) refl (from.each event l)).1 (omega arith) in
            absurd (omega arith)
        | inr g ↦ omega arith
      ] in
      omega arith

-- one diagram alone
pub first_of_one : (nodes : List Node) (event : ℕ) (d : Dd) → IsFirst nodes event d → AreFrom nodes event (d ∷ [])
first_of_one nodes event d is = record { each = λ e l. All-cons (λ x. BeginsAfter nodes e x.place) d [] (is.from e l) (All-nil (λ x. BeginsAfter nodes e x.place)) }

pub before_one : (nodes : List Node) (event : ℕ) (d : Dd) → IsFirst nodes event d → (e : ℕ) → AllAfter nodes e (d ∷ []) → event < 12 → e < event
before_one nodes event d is e all l = is.first e (All-head (λ x. BeginsAfter nodes e x.place) d [] all) l

pub below_one : (nodes : List Node) (event : ℕ) (d : Dd) → IsFirst nodes event d → (n : ℕ) → AreDiagrams nodes n (d ∷ []) → event < 12 → event < n
below_one nodes event d is n all l = is.below n (All-head (IsDiagram nodes n) d [] all) l

pub level_one : (nodes : List Node) (event : ℕ) (d : Dd) → event ≤ 12 → IsFirst nodes event d → (level : ℕ) → level ≤ 12 → AreFrom nodes level (d ∷ []) → level ≤ event
level_one nodes event d small is level le from = elim (cases_lt event level) [
  | inl l ↦
      let c : event < event = is.first event (All-head (λ x. BeginsAfter nodes event x.place) d [] (from.each event l)) (omega arith) in
      absurd (omega arith)
  | inr g ↦ omega arith
]

-- the root of a diagram
pub first_of_branch : (nodes : List Node) (e : ℕ) (hit miss d : Dd) → slice_get nodes d.place ≡ Some (Branch e hit miss) → IsFirst nodes e d
first_of_branch nodes e hit miss d at = record { from = λ x l. rw at l; first = λ x b l. rw at at b; below = λ n x l. x.events d.place e hit miss itself at }

pub first_of_leaf : (nodes : List Node) (t : ℕ) (d : Dd) → slice_get nodes d.place ≡ Some (Leaf t) → IsFirst nodes 12 d
first_of_leaf nodes t d at = record { from = λ x l. rw at tt; first = λ x b l. absurd (omega arith); below = λ n x l. absurd (omega arith) }

pub first_of_late : (nodes : List Node) (e : ℕ) (hit miss d : Dd) → slice_get nodes d.place ≡ Some (Branch e hit miss) → 12 ≤ e → IsFirst nodes 12 d
first_of_late nodes e hit miss d at g = record { from = λ x l. let m : x < e = omega arith in rw at m; first = λ x b l. absurd (omega arith); below = λ n x l. absurd (omega arith) }

-- a diagram that does not read the event first
pub cofactor_itself : (nodes : List Node) (event : ℕ) (misses : Bool) (d : Dd) → d.place < length nodes → BeginsAfter nodes event d.place → IsCofactor nodes event misses d d
cofactor_itself nodes event misses d within after = record { within = within; times = λ f is. refl; after = after; events = λ b h. h }

either : (b c : Bool) (t h m : ℕ) → t ≡ (if b then m else h) → b ≡ c → (if c then m else h) ≡ t
either b c t h m is same = rw (← same) (sym is)

-- its branch where it reads the event first
module _ (nodes : List Node) (event : ℕ) (d hit miss : Dd) (at : slice_get nodes d.place ≡ Some (Branch event hit miss)) (w : IsBranchAt nodes d.place event hit.place miss.place)
    (within : d.place < length nodes) (reads : (f : Combination) → time nodes f d.place ≡ (if f event then time nodes f miss.place else time nodes f hit.place)) where
  pub cofactor_hit : IsCofactor nodes event false d hit
  cofactor_hit = record {
    within = omega (arith, w.hit_before);
    times = λ f is. either (f event) false (time nodes f d.place) (time nodes f hit.place) (time nodes f miss.place) (reads f) is;
    after = w.hit_after;
    events = λ b less q e x y below is. less q e x y (by_hit at below) is;
  }

  pub cofactor_miss : IsCofactor nodes event true d miss
  cofactor_miss = record {
    within = omega (arith, w.miss_before);
    times = λ f is. either (f event) true (time nodes f d.place) (time nodes f hit.place) (time nodes f miss.place) (reads f) is;
    after = w.miss_after;
    events = λ b less q e x y below is. less q e x y (by_miss at below) is;
  }

-- the halves of a bundle
pub bundle_cofactors : (nodes : List Node) (event : ℕ) (misses : Bool) (number number' : Dd) (slots slots' : List Dd) → length slots ≡ 35 → length slots' ≡ 35 → IsCofactor nodes event misses number number'
    → ((j : ℕ) (d r : Dd) → j < 35 → slice_get slots j ≡ Some d → slice_get slots' j ≡ Some r → IsCofactor nodes event misses d r)
    → AreCofactors nodes event misses (record { number = number; slots = slots }) (record { number = number'; slots = slots' })
bundle_cofactors nodes event misses number number' slots slots' long long' n all =
    let z : Dd = record { place = 0 } in
    let at : (j : ℕ) → j < 35 → IsCofactor nodes event misses (get_or slots j z) (get_or slots' j z) =
    λ j l. all j (get_or slots j z) (get_or slots' j z) l (slice_get-get_or slots j z (omega arith)) (slice_get-get_or slots' j z (omega arith)) in
    record {
      times = λ f is.
          let num : time nodes f number'.place ≡ time nodes f number.place = n.times f is in
          let rest : times_at nodes f slots' ≡ times_at nodes f slots =
          same_lists (times_at nodes f slots') (times_at nodes f slots)
          (length-map slots' (λ d. time nodes f d.place) ∙ (long' ∙ (sym long ∙ sym (length-map slots (λ d. time nodes f d.place)))))
          (λ k x l.
          let l' : k < 35 = let e = length-map slots' (λ (d : Dd). time nodes f d.place) in omega arith in
          get_or-map (λ d. time nodes f d.place) slots' k z x (omega arith) ∙ ((at k l').times f is ∙ sym (get_or-map (λ d. time nodes f d.place) slots k z x (omega arith))))
          in
          rw (num, rest) refl;
      after = All-cons (λ d. BeginsAfter nodes event d.place) number' slots' n.after
          (All-from_get_or (λ d. BeginsAfter nodes event d.place) slots' z (λ k l. (at k (omega arith)).after));
      events = λ b ds. All-cons (IsDiagram nodes b) number' slots'
          (let x = All-head (IsDiagram nodes b) number slots ds in record { within = n.within; events = n.events b x.events })
          (All-from_get_or (IsDiagram nodes b) slots' z (λ k l.
          let x = All-get_or (IsDiagram nodes b) slots k z (omega arith) (All-tail (IsDiagram nodes b) number slots ds) in
          let y = at k (omega arith) in
          record { within = y.within; events = y.events b x.events }));
    }

-- the row of diagrams that are leaves
pub leaf_times : (nodes : List Node) (f : Combination) (number : Dd) (n : ℕ) (slots : List Dd) (times : List ℕ) → length slots ≡ 35 → length times ≡ 35 → time nodes f number.place ≡ n
    → ((j : ℕ) (d : Dd) → j < 35 → slice_get slots j ≡ Some d → time nodes f d.place ≡ get_or times j 0)
    → row_at nodes (record { number = number; slots = slots }) f ≡ record { number = n; slots = times }
leaf_times nodes f number n slots times long long' num all =
    let z : Dd = record { place = 0 } in
    let rest : times_at nodes f slots ≡ times =
    same_lists (times_at nodes f slots) times (length-map slots (λ d. time nodes f d.place) ∙ (long ∙ sym long'))
    (λ k x l.
    let l' : k < 35 = let e = length-map slots (λ (d : Dd). time nodes f d.place) in omega arith in
    get_or-map (λ d. time nodes f d.place) slots k z x (omega arith) ∙ (all k (get_or slots k z) l' (slice_get-get_or slots k z (omega arith)) ∙ default times k 0 x (omega arith)))
    in
    rw (num, rest) refl
  where
    default : (xs : List ℕ) (k d e : ℕ) → k < length xs → get_or xs k d ≡ get_or xs k e
    default [] k d e l = absurd (omega arith)
    default (x ∷ xs) zero d e l = refl
    default (x ∷ xs) (suc k) d e l = default xs k d e (omega arith)

-- a diagram that begins after each event before 12 and reads none from 12 on is no branch
pub no_branch : (nodes : List Node) (d : Dd) (e : ℕ) (hit miss : Dd) → slice_get nodes d.place ≡ Some (Branch e hit miss) → EventsLess nodes d.place 12 → ((x : ℕ) → x < 12 → BeginsAfter nodes x d.place) → ⊥
no_branch nodes d e hit miss at less from =
    let l : e < 12 = less d.place e hit miss itself at in
    let b : e < e = rw at at (from e l) in
    omega arith

pub from_after : (nodes : List Node) (bundle : Bundle) (event : ℕ) → AllAfter nodes event (parts bundle) → AreFrom nodes (event + 1) (parts bundle)
from_after nodes bundle event all = record {
  each = λ e l. All-weaker (λ d. BeginsAfter nodes event d.place) (λ d. BeginsAfter nodes e d.place) (λ d b. earlier nodes e event d.place (omega arith) b) (parts bundle) all;
}
  where
    earlier_node : (e event : ℕ) (o : Option Node) → e ≤ event → IfSome o (ReadsAfter event) → IfSome o (ReadsAfter e)
    earlier_node e event None l h = tt
    earlier_node e event (Some (Leaf t)) l h = tt
    earlier_node e event (Some (Branch x hit miss)) l h = omega arith

    earlier : (nodes : List Node) (e event p : ℕ) → e ≤ event → BeginsAfter nodes event p → BeginsAfter nodes e p
    earlier nodes e event p l h = earlier_node e event (slice_get nodes p) l h

pub gathered_kept : (old new : List Node) (rows more : List Row) (nodes : List Node) (kept : Bundle → Option Dd) → Keeps old new → Extends rows more → AreGathered old rows nodes kept → AreGathered new more nodes kept
gathered_kept old new rows more nodes kept k x all = record {
  each = λ b d is.
      leads_kept old new rows more (row_at nodes b) (λ e. AllAfter nodes e (parts b)) (λ bound. AreDiagrams nodes bound (parts b)) d.place k x (all.each b d is);
}

-- one more element of an array is set
pub other_set : {A : Type 0} (xs : List A) (i j : ℕ) (y : A) → i ≢ j → slice_get (set xs i y) j ≡ slice_get xs j
other_set [] i j y n = refl
other_set (x ∷ xs) zero zero y n = absurd (n refl)
other_set (x ∷ xs) zero (suc j) y n = refl
other_set (x ∷ xs) (suc i) zero y n = refl
other_set (x ∷ xs) (suc i) (suc j) y n = other_set xs i j y (λ e. n (ap (λ k. suc k) e))

pub this_set : {A : Type 0} (xs : List A) (i : ℕ) (y : A) → i < length xs → slice_get (set xs i y) i ≡ Some y
this_set [] i y l = absurd (omega arith)
this_set (x ∷ xs) zero y l = refl
this_set (x ∷ xs) (suc i) y l = this_set xs i y (omega arith)

pub same_at : {A : Type 0} (xs ys : List A) (i : ℕ) (d : A) → slice_get xs i ≡ slice_get ys i → get_or xs i d ≡ get_or ys i d
same_at xs ys i d h = sym (unwrap_or-slice_get xs i d) ∙ (ap (λ o. unwrap_or o d) h ∙ unwrap_or-slice_get ys i d)

pub set_left : {A : Type 0} (first slots : List A) (k : ℕ) (r : A) → ((j : ℕ) → k ≤ j → slice_get slots j ≡ slice_get first j) → (j : ℕ) → k + 1 ≤ j → slice_get (set slots k r) j ≡ slice_get first j
set_left first slots k r left j l = other_set slots k j r (λ e. omega arith) ∙ left j (omega arith)

pub set_done : (nodes : List Node) (event : ℕ) (misses : Bool) (first slots : List Dd) (k : ℕ) (r : Dd) → k < length slots → slice_get slots k ≡ slice_get first k
    → IsCofactor nodes event misses (get_or slots k (record { place = 0 })) r
    → ((j : ℕ) (d s : Dd) → j < k → slice_get first j ≡ Some d → slice_get slots j ≡ Some s → IsCofactor nodes event misses d s)
    → (j : ℕ) (d s : Dd) → j < k + 1 → slice_get first j ≡ Some d → slice_get (set slots k r) j ≡ Some s → IsCofactor nodes event misses d s
set_done nodes event misses first slots k r l left c done j d s m at at' = elim (cases_lt j k) [
  | inl n ↦ done j d s n at (sym (other_set slots k j r (λ e. omega arith)) ∙ at')
  | inr g ↦
      let same : j ≡ k = omega arith in
      let at'' : slice_get (set slots k r) k ≡ Some s = rw same at at' in
      let is : s ≡ r = same_Some s r (sym at'' ∙ this_set slots k r l) in
      let first_is : get_or slots k (record { place = 0 }) ≡ d = get_or_from_slice_get slots k d (record { place = 0 }) (left ∙ rw same at at) in
      rw (is, ← first_is) c
]

pub set_time : (nodes : List Node) (diagrams : List Dd) (slots : List ℕ) (k t : ℕ) → k < length slots → ((f : Combination) → time nodes f (get_or diagrams k (record { place = 0 })).place ≡ t)
    → ((j : ℕ) (d : Dd) → j < k → slice_get diagrams j ≡ Some d → (f : Combination) → time nodes f d.place ≡ get_or slots j 0)
    → (j : ℕ) (d : Dd) → j < k + 1 → slice_get diagrams j ≡ Some d → (f : Combination) → time nodes f d.place ≡ get_or (set slots k t) j 0
set_time nodes diagrams slots k t l is done j d m at f = elim (cases_lt j k) [
  | inl n ↦ done j d n at f ∙ sym (same_at (set slots k t) slots j 0 (other_set slots k j t (λ e. omega arith)))
  | inr g ↦
      let same : j ≡ k = omega arith in
      let first_is : get_or diagrams k (record { place = 0 }) ≡ d = get_or_from_slice_get diagrams k d (record { place = 0 }) (rw same at at) in
      ap (λ x. time nodes f x.place) (sym first_is) ∙ (is f ∙ sym (rw same (get_or_from_slice_get (set slots k t) k t 0 (this_set slots k t l))))
]
