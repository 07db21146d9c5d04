-- What a move inside a function makes of its activation.
use Rattle.std.proofs.Common.{◌≡◌, ℕ, zero, suc, ◌+◌, ◌<◌, ◌≤◌, Bool, true, false, cond, eqb, ltb, ◌&&◌, List, [], ◌∷◌, length, map, get_or, set, replicate, Option, Some, None, option_map, Ok, Err, AllPairs, sym, ap, ◌∙◌, subst, refl, arith, ⊎_elim}
use Rattle.std.specs.List.{find, slice_get}
use Rattle.std.specs.Global.{Vec}
use Rattle.std.specs.Vec.{with_items}
use Rattle.std.proofs.lemmas.List.{with_items_is}
use Rattle.std.specs.Option.{option_map_or}
use Rattle.std.specs.Prelude.{IfNone}
use Rattle.std.proofs.lemmas.List.{get_or_read, get_or-map, length-map}
use Rattle.std.proofs.lemmas.Option.{slice_get_read, slice_get_past}
use Rattle.std.proofs.lemmas.Bool.{eq-eqb, eqb-true, ne_eqb, cond-true, cond-false, cases_lt}
use Rattle.wx_base.specs.declared.fact_kind.FactKind.{FactKind}
use Rattle.wx_base.specs.declared.fact_kind.FactKind.TheVariants.{Loop, Total}
use Rattle.wx_base.specs.Facts.{AreAscending}
use Rattle.wx_base.specs.Monitor as monitor
use Rattle.wx_base.specs.State.{replaced}
use Rattle.flow_graph.specs.declared.program.Function.{Function}
use Rattle.flow_graph.specs.declared.program.LoopInfo.{LoopInfo}
use Rattle.flow_graph.specs.Program.{bounded_loop, judged_function}
use Rattle.run_machine.specs.declared.frame.Frame.{Frame}
use Rattle.run_machine.specs.declared.totals.Totals.{Totals}
use Rattle.run_machine.specs.Judging.{IsPlace, heads, loops_at, counter_of, frame_with, frame_of, IsGap, IsFrame, breach_at, counted, summed, totals_of, verdict, watched}
use Rattle.run_machine.proofs.Searching.{find_there, find_absent, find_between}

find_map : {X Y : Type 0} (f : X → Y) (p : Y → Bool) (xs : List X) → find p (map f xs) ≡ option_map f (find (λ x. p (f x)) xs)
find_map f p [] = refl
find_map f p (x ∷ xs) =
    elim (p (f x)) as (λ b. cond b (Some (f x)) (find p (map f xs)) ≡ option_map f (cond b (Some x) (find (λ y. p (f y)) xs))) [ true ↦ refl | false ↦ find_map f p xs ]

-- a head that the loops have not is none of theirs as they are judged
no_head : (loops : List LoopInfo) (to : ℕ) → find (λ l. eqb l.head to) loops ≡ None → find (λ l. eqb l.head to) (map bounded_loop loops) ≡ None
no_head loops to none = find_map bounded_loop (λ l. eqb l.head to) loops ∙ ap (option_map bounded_loop) none

some_head : (loops : List LoopInfo) (to : ℕ) (l : LoopInfo) → find (λ l. eqb l.head to) loops ≡ Some l → find (λ l. eqb l.head to) (map bounded_loop loops) ≡ Some (bounded_loop l)
some_head loops to l one = find_map bounded_loop (λ l. eqb l.head to) loops ∙ ap (option_map bounded_loop) one

between : (loops : List LoopInfo) (i low high to : ℕ) → ((j : ℕ) (d : LoopInfo) → j < i → (get_or loops j d).head < low) → ((j : ℕ) (d : LoopInfo) → i ≤ j → j < length loops → high ≤ (get_or loops j d).head) → low ≤ to → to < high → (j : ℕ) (d : LoopInfo) → j < length loops → (get_or loops j d).head ≡ to → ⊥
between loops i low high to below above l h j d within e =
    ⊎_elim (λ b. omega (arith, below j d b)) (λ a. omega (arith, above j d a within)) (cases_lt j i)

rises : (loops : List LoopInfo) (i j : ℕ) (d : LoopInfo) → AllPairs (λ l m. l.head < m.head) loops → i ≤ j → j < length loops → (get_or loops i d).head ≤ (get_or loops j d).head
rises loops i j d up le within = grind (arith, up i j d, λ (same : i ≡ j). ap (λ n. (get_or loops n d).head) same)

-- the heads before a place are no higher than the last of them
pub up_to : (loops : List LoopInfo) (i : ℕ) (l : LoopInfo) → AllPairs (λ l m. l.head < m.head) loops → i < length loops → l ≡ get_or loops i l → (j : ℕ) (d : LoopInfo) → j ≤ i → (get_or loops j d).head ≤ l.head
up_to loops i l up within at j d le =
    subst (λ (m : LoopInfo). (get_or loops j d).head ≤ m.head) (sym (get_or_read loops i l within at d)) (rises loops j i d up le within)

-- and those from a place on no lower than its own
pub from_on : (loops : List LoopInfo) (i : ℕ) (l : LoopInfo) → AllPairs (λ l m. l.head < m.head) loops → l ≡ get_or loops i l → (j : ℕ) (d : LoopInfo) → i ≤ j → j < length loops → l.head ≤ (get_or loops j d).head
from_on loops i l up at j d le within =
    subst (λ (m : LoopInfo). m.head ≤ (get_or loops j d).head) (sym (get_or_read loops i l (omega arith) at d)) (rises loops i j d up le within)

pub gap_of : (loops : List LoopInfo) (i low high : ℕ) → ((j : ℕ) (d : LoopInfo) → j < i → (get_or loops j d).head < low) → ((j : ℕ) (d : LoopInfo) → i ≤ j → j < length loops → high ≤ (get_or loops j d).head) → IsGap loops low high
gap_of loops i low high below above = record {
  none = λ to l h. no_head loops to (find_absent (λ l. l.head) loops to (between loops i low high to below above l h));
}

-- without loops there is no head
pub no_loops : (high : ℕ) → IsGap [] 0 high
no_loops high = record { none = λ to l h. refl }

-- the empty gap
pub no_gap : (loops : List LoopInfo) → IsGap loops 0 0
no_gap loops = record { none = λ to l h. absurd (omega arith) }

loops_judged : (o : Option Function) → option_map_or (λ f. f.loops) (option_map judged_function o) [] ≡ map bounded_loop (option_map_or (λ f. f.loops) o [])
loops_judged None = refl
loops_judged (Some f) = refl

same_loops : (functions : List Function) (entry place : ℕ) → find (λ f. eqb f.entry entry) functions ≡ slice_get functions place → monitor.loops_of (map judged_function functions) entry ≡ map bounded_loop (loops_at functions place)
same_loops functions entry place same =
    ap (λ (o : Option monitor.Function). option_map_or (λ f. f.loops) o []) (find_map judged_function (λ f. eqb f.entry entry) functions)
    ∙ loops_judged (find (λ f. eqb f.entry entry) functions)
    ∙ ap (λ (o : Option Function). map bounded_loop (option_map_or (λ f. f.loops) o [])) same

-- the loops of a function, from where it stands
pub loops_there : (functions : List Function) (entry place : ℕ) (f : Function) → AllPairs (λ f g. f.entry < g.entry) functions → IsPlace (λ f. f.entry) functions entry (Ok place) → f ≡ get_or functions place f → monitor.loops_of (map judged_function functions) entry ≡ map bounded_loop (loops_at functions place)
loops_there functions entry place f up here at =
    let there : (d : Function) → get_or functions place d ≡ f = λ d. sym (get_or_read functions place f here.0 at d) in
    same_loops functions entry place
    (find_there (λ f. f.entry) functions entry place f up here.0 there (ap (λ (f : Function). f.entry) (sym (there f)) ∙ here.1 f)
    ∙ sym (slice_get_read functions (length functions) place f refl here.0 at))

pub loops_at_place : (functions : List Function) (place : ℕ) (f : Function) → place < length functions → f ≡ get_or functions place f → loops_at functions place ≡ f.loops
loops_at_place functions place f within at =
    ap (λ (o : Option Function). option_map_or (λ f. f.loops) o []) (slice_get_read functions (length functions) place f refl within at)

pub loops_behind : (functions : List Function) → loops_at functions (length functions) ≡ []
loops_behind functions =
    ap (λ (o : Option Function). option_map_or (λ f. f.loops) o []) (slice_get_past functions (length functions) (omega arith))

pub loops_absent : (functions : List Function) (entry i : ℕ) → IsPlace (λ f. f.entry) functions entry (Err i) → monitor.loops_of (map judged_function functions) entry ≡ map bounded_loop (loops_at functions (length functions))
loops_absent functions entry i place =
    same_loops functions entry (length functions)
    (find_between (λ f. f.entry) functions entry i place ∙ sym (slice_get_past functions (length functions) (omega arith)))

-- counters that are all 0
counter_zero : (hs : List ℕ) (n head : ℕ) → counter_of hs (replicate n 0) head ≡ 0
counter_zero [] n head = refl
counter_zero (h ∷ hs) zero head = refl
counter_zero (h ∷ hs) (suc n) head =
    elim (eqb head h) as (λ b. cond b 0 (counter_of hs (replicate n 0) head) ≡ 0) [ true ↦ refl | false ↦ counter_zero hs n head ]

pub opened_with : (hs : List ℕ) (n : ℕ) (counts : List ℕ) → counts ≡ replicate n 0 → ◌≡◌ {A = ℕ → ℕ} (counter_of hs counts) (λ head. 0)
opened_with hs n counts e = λ i head. (ap (λ cs. counter_of hs cs head) e ∙ counter_zero hs n head) i

-- a frame whose counters are all 0 is one that has executed nothing
pub opens : (loops : List LoopInfo) (entry n : ℕ) (counts : List ℕ) → counts ≡ replicate n 0 → frame_with loops entry None counts ≡ monitor.opened entry
opens loops entry n counts e =
    ap (λ (f : ℕ → ℕ). record { function = entry; last = None; counter = f }) (opened_with (heads loops) n counts e)

-- where no head is, nothing is counted
pub stays : (functions : List Function) (frame : Frame) (to : ℕ) (callers : List monitor.Frame) (totals : Totals) → IsFrame functions frame → find (λ l. eqb l.head to) (map bounded_loop (loops_at functions frame.place)) ≡ None
    → monitor.at_head (find (λ l. eqb l.head to) (monitor.loops_of (map judged_function functions) frame.entry)) (frame_of functions frame) callers (totals_of totals) ≡ Ok (watched (frame_of functions frame) callers totals)
stays functions frame to callers totals ok none =
    ap (λ (loops : List monitor.BoundedLoop). monitor.at_head (find (λ l. eqb l.head to) loops) (frame_of functions frame) callers (totals_of totals)) ok.loops
    ∙ ap (λ (o : Option monitor.BoundedLoop). monitor.at_head o (frame_of functions frame) callers (totals_of totals)) none

-- a place behind all has no loops
pub none_behind : (functions : List Function) (place to : ℕ) → length functions ≤ place → find (λ l. eqb l.head to) (map bounded_loop (loops_at functions place)) ≡ None
none_behind functions place to le =
    ap (λ (o : Option Function). find (λ l. eqb l.head to) (map bounded_loop (option_map_or (λ f. f.loops) o []))) (slice_get_past functions place le)

-- the same move, judged by the loops of the function at the place
pub moves : (functions : List Function) (frame : Frame) (to : ℕ) (loops : List LoopInfo) (breach : Option FactKind) (old new : List ℕ) (counts : Vec ℕ) (callers : List monitor.Frame) (totals totals' : Totals)
    → IsFrame functions frame → loops_at functions frame.place ≡ loops → old ≡ frame.counts.items → counts.items ≡ new
    → monitor.at_head (find (λ l. eqb l.head to) (map bounded_loop loops)) (frame_with loops frame.entry frame.last old) callers (totals_of totals) ≡ verdict breach (watched (frame_with loops frame.entry frame.last new) callers totals')
    → monitor.at_head (find (λ l. eqb l.head to) (monitor.loops_of (map judged_function functions) frame.entry)) (frame_of functions frame) callers (totals_of totals)
    ≡ verdict breach (watched (frame_with (loops_at functions frame.place) frame.entry frame.last counts.items) callers totals')
moves functions frame to loops breach old new counts callers totals totals' ok same was is moved =
    ap (λ (loops : List monitor.BoundedLoop). monitor.at_head (find (λ l. eqb l.head to) loops) (frame_of functions frame) callers (totals_of totals)) ok.loops
    ∙ ap (λ (ls : List LoopInfo). monitor.at_head (find (λ l. eqb l.head to) (map bounded_loop ls)) (frame_with ls frame.entry frame.last frame.counts.items) callers (totals_of totals)) same
    ∙ ap (λ (cs : List ℕ). monitor.at_head (find (λ l. eqb l.head to) (map bounded_loop loops)) (frame_with loops frame.entry frame.last cs) callers (totals_of totals)) (sym was)
    ∙ moved ∙ ap (λ (ls : List LoopInfo). verdict breach (watched (frame_with ls frame.entry frame.last new) callers totals')) (sym same)
    ∙ ap (λ (cs : List ℕ). verdict breach (watched (frame_with (loops_at functions frame.place) frame.entry frame.last cs) callers totals')) (sym is)

-- a move between two heads
pub missed : (loops : List LoopInfo) (i to : ℕ) (frame : monitor.Frame) (callers : List monitor.Frame) (totals : ℕ → ℕ) → IsPlace (λ l. l.head) loops to (Err i)
    → monitor.at_head (find (λ l. eqb l.head to) (map bounded_loop loops)) frame callers totals ≡ Ok (record { frames = frame ∷ callers; totals = totals })
missed loops i to frame callers totals place =
    ap (λ (o : Option monitor.BoundedLoop). monitor.at_head o frame callers totals) (no_head loops to (find_between (λ l. l.head) loops to i place))

-- the head at a place is that of its loop
pub head_there : (loops : List LoopInfo) (i to : ℕ) (l : LoopInfo) → AllPairs (λ l m. l.head < m.head) loops → IsPlace (λ l. l.head) loops to (Ok i) → l ≡ get_or loops i l → find (λ l. eqb l.head to) (map bounded_loop loops) ≡ Some (bounded_loop l)
head_there loops i to l up here at =
    let there : (d : LoopInfo) → get_or loops i d ≡ l = λ d. sym (get_or_read loops i l here.0 at d) in
    some_head loops to l (find_there (λ l. l.head) loops to i l up here.0 there (ap (λ (l : LoopInfo). l.head) (sym (there l)) ∙ here.1 l))

heads_ascend : (loops : List LoopInfo) (l : LoopInfo) → AllPairs (λ l m. l.head < m.head) loops → AreAscending (heads loops)
heads_ascend loops l up i j d lt within =
    let count : length (heads loops) ≡ length loops = length-map loops (λ (l : LoopInfo). l.head) in
    let a : get_or (heads loops) i d ≡ (get_or loops i l).head = get_or-map (λ (l : LoopInfo). l.head) loops i l d (omega arith) in
    let b : get_or (heads loops) j d ≡ (get_or loops j l).head = get_or-map (λ (l : LoopInfo). l.head) loops j l d (omega arith) in
    let r : (get_or loops i l).head < (get_or loops j l).head = up i j l lt (omega arith) in
    omega arith

tail_ascends : (h : ℕ) (hs : List ℕ) → AreAscending (h ∷ hs) → AreAscending hs
tail_ascends h hs up i j d lt within = up (suc i) (suc j) d (omega arith) (omega arith)

head_below : (h : ℕ) (hs : List ℕ) (i : ℕ) → AreAscending (h ∷ hs) → i < length hs → h < get_or hs i 0
head_below h hs i up within = up zero (suc i) 0 (omega arith) (omega arith)

-- the counter of the head at a place
counter_at : (hs counts : List ℕ) (i : ℕ) → AreAscending hs → i < length hs → length counts ≡ length hs → counter_of hs counts (get_or hs i 0) ≡ get_or counts i 0
counter_at [] counts i up within same = absurd (omega arith)
counter_at (h ∷ hs) [] i up within same = absurd (omega arith)
counter_at (h ∷ hs) (c ∷ counts) zero up within same = cond-true (eqb h h) c _ (eq-eqb h h refl)
counter_at (h ∷ hs) (c ∷ counts) (suc i) up within same =
    let b : h < get_or hs i 0 = head_below h hs i up (omega arith) in
    cond-false (eqb (get_or hs i 0) h) c _ (ne_eqb (get_or hs i 0) h (λ e. omega arith))
    ∙ counter_at hs counts i (tail_ascends h hs up) (omega arith) (omega arith)

same_choice : (b : Bool) (n c d : ℕ) → cond b n d ≡ cond b n (cond b c d)
same_choice true n c d = refl
same_choice false n c d = refl

-- a write at a place is one at its head
counter_set : (hs counts : List ℕ) (i n at : ℕ) → AreAscending hs → i < length hs → length counts ≡ length hs → counter_of hs (set counts i n) at ≡ replaced (counter_of hs counts) (get_or hs i 0) n at
counter_set [] counts i n at up within same = absurd (omega arith)
counter_set (h ∷ hs) [] i n at up within same = absurd (omega arith)
counter_set (h ∷ hs) (c ∷ counts) zero n at up within same = same_choice (eqb at h) n c (counter_of hs counts at)
counter_set (h ∷ hs) (c ∷ counts) (suc i) n at up within same =
    let b : h < get_or hs i 0 = head_below h hs i up (omega arith) in
    ap (λ (x : ℕ). cond (eqb at h) c x) (counter_set hs counts i n at (tail_ascends h hs up) (omega arith) (omega arith))
    ∙ swapped (eqb at h) (eqb at (get_or hs i 0)) c n (counter_of hs counts at) (λ e. ne_eqb at (get_or hs i 0) (λ f. let g = eqb-true at h e in omega arith))
  where
    swapped : (a b : Bool) (c n d : ℕ) → (a ≡ true → b ≡ false) → cond a c (cond b n d) ≡ cond b n (cond a c d)
    swapped true b c n d apart = ap (λ (b : Bool). cond b n c) (sym (apart refl))
    swapped false b c n d apart = refl

if_none : {X : Type 0} {P : Type 0} (o : Option X) → o ≡ None → IfNone o P → P
if_none None e p = p
if_none (Some x) e p = absurd (cc)

-- what the tests of a move into a head come to
tested : (a b : Bool) (breach : Option FactKind) (w v : monitor.Watch) → breach ≡ cond a (Some Loop) (cond b (Some Total) None) → (breach ≡ None → w ≡ v)
    → cond a (Err Loop) (cond b (Err Total) (Ok w)) ≡ verdict breach v
tested true b breach w v e h = ap (λ (x : Option FactKind). verdict x v) (sym e)
tested false true breach w v e h = ap (λ (x : Option FactKind). verdict x v) (sym e)
tested false false breach w v e h = ap Ok (h e) ∙ ap (λ (x : Option FactKind). verdict x v) (sym e)

-- a move into a head, by what was counted there
module _ (loops : List LoopInfo) (l : LoopInfo) (i : ℕ) (counts new : List ℕ) (frame : monitor.Frame) (callers : List monitor.Frame) (inside : Bool) (breach : Option FactKind) (totals totals' : Totals) where
  pub hit : AllPairs (λ l m. l.head < m.head) loops → i < length loops → l ≡ get_or loops i l → length counts ≡ length loops → frame.counter ≡ counter_of (heads loops) counts → inside ≡ option_map_or (monitor.is_one_of l.members) frame.last false
      → breach ≡ breach_at l inside (get_or counts i 0) (totals_of totals l.head)
      → IfNone breach (new ≡ set counts i (counted inside (get_or counts i 0)))
      → IfNone breach (totals_of totals' ≡ replaced (totals_of totals) l.head (summed inside (totals_of totals l.head)))
      → monitor.at_head (Some (bounded_loop l)) frame callers (totals_of totals) ≡ verdict breach (watched (record frame { counter = counter_of (heads loops) new }) callers totals')
  hit up within at same is side broken written total_written =
      let hs = heads loops in
      let ascends : AreAscending hs = heads_ascend loops l up in
      let there : i < length hs = omega (arith, length-map loops (λ (l : LoopInfo). l.head)) in
      let few : length counts ≡ length hs = omega (arith, length-map loops (λ (l : LoopInfo). l.head)) in
      let head : get_or hs i 0 ≡ l.head = get_or-map (λ (l : LoopInfo). l.head) loops i l 0 within ∙ ap (λ (l : LoopInfo). l.head) (sym at) in
      let n = counted inside (get_or counts i 0) in
      let t = summed inside (totals_of totals l.head) in
      let had : frame.counter l.head ≡ get_or counts i 0 = ap (λ (f : ℕ → ℕ). f l.head) is ∙ ap (counter_of hs counts) (sym head) ∙ counter_at hs counts i ascends there few in
      let into : monitor.count_into (bounded_loop l) frame ≡ n = ap (λ (b : Bool). cond b (frame.counter l.head + 1) 0) (sym side) ∙ ap (λ (x : ℕ). counted inside x) had in
      let total : monitor.total_into (bounded_loop l) frame (totals_of totals) ≡ t = ap (λ (b : Bool). summed b (totals_of totals l.head)) (sym side) in
      let set_is : (at : ℕ) → replaced frame.counter l.head n at ≡ counter_of hs (set counts i n) at = λ at. ap (λ (f : ℕ → ℕ). replaced f l.head n at) is ∙ ap (λ (h : ℕ). replaced (counter_of hs counts) h n at) (sym head) ∙ sym (counter_set hs counts i n at ascends there few) in
      let counter_is : breach ≡ None → ◌≡◌ {A = ℕ → ℕ} (replaced frame.counter l.head n) (counter_of hs new) = λ e. (λ j at. (set_is at ∙ ap (λ cs. counter_of hs cs at) (sym (if_none breach e written))) j) in
      ap (λ (x : ℕ). cond (ltb l.maxcount x) (Err Loop) (cond (option_map_or (monitor.is_one_of l.members) frame.last false && monitor.exceeds (monitor.total_into (bounded_loop l) frame (totals_of totals)) l.totalcount) (Err Total)
      (Ok (record { frames = record frame { counter = replaced frame.counter l.head x } ∷ callers; totals = replaced (totals_of totals) l.head (monitor.total_into (bounded_loop l) frame (totals_of totals)) })))) into
      ∙ ap (λ (x : ℕ). cond (ltb l.maxcount n) (Err Loop) (cond (option_map_or (monitor.is_one_of l.members) frame.last false && monitor.exceeds x l.totalcount) (Err Total)
      (Ok (record { frames = record frame { counter = replaced frame.counter l.head n } ∷ callers; totals = replaced (totals_of totals) l.head x })))) total
      ∙ ap (λ (b : Bool). cond (ltb l.maxcount n) (Err Loop) (cond (b && monitor.exceeds t l.totalcount) (Err Total)
      (Ok (record { frames = record frame { counter = replaced frame.counter l.head n } ∷ callers; totals = replaced (totals_of totals) l.head t })))) (sym side)
      ∙ tested (ltb l.maxcount n) (inside && monitor.exceeds t l.totalcount) breach
      (record { frames = record frame { counter = replaced frame.counter l.head n } ∷ callers; totals = replaced (totals_of totals) l.head t })
      (watched (record frame { counter = counter_of hs new }) callers totals') broken
      (λ e. (λ j. record { frames = record frame { counter = counter_is e j } ∷ callers; totals = sym (if_none breach e total_written) j }))

-- a move into the head at a place
pub hit_there : (loops : List LoopInfo) (i to : ℕ) (l : LoopInfo) (counts new : List ℕ) (frame : monitor.Frame) (callers : List monitor.Frame) (inside : Bool) (breach : Option FactKind) (totals totals' : Totals)
    → AllPairs (λ l m. l.head < m.head) loops → IsPlace (λ l. l.head) loops to (Ok i) → l ≡ get_or loops i l → length counts ≡ length loops → inside ≡ option_map_or (monitor.is_one_of l.members) frame.last false
    → breach ≡ breach_at l inside (get_or counts i 0) (totals_of totals l.head)
    → IfNone breach (new ≡ set counts i (counted inside (get_or counts i 0)))
    → IfNone breach (totals_of totals' ≡ replaced (totals_of totals) l.head (summed inside (totals_of totals l.head)))
    → frame.counter ≡ counter_of (heads loops) counts
    → monitor.at_head (find (λ l. eqb l.head to) (map bounded_loop loops)) frame callers (totals_of totals) ≡ verdict breach (watched (record frame { counter = counter_of (heads loops) new }) callers totals')
hit_there loops i to l counts new frame callers inside breach totals totals' up here at same side broken written total_written is =
    ap (λ (o : Option monitor.BoundedLoop). monitor.at_head o frame callers (totals_of totals)) (head_there loops i to l up here at)
    ∙ hit loops l i counts new frame callers inside breach totals totals' up here.0 at same is side broken written total_written

-- a move from outside keeps the totals
pub same_totals : (totals : ℕ → ℕ) (head : ℕ) → ◌≡◌ {A = ℕ → ℕ} totals (replaced totals head (totals head))
same_totals totals head = λ i at. by at (eqb at head) refl i
  where
    by : (at : ℕ) (b : Bool) → eqb at head ≡ b → totals at ≡ cond b (totals head) (totals at)
    by at true e = ap totals (eqb-true at head e)
    by at false e = refl

-- the counters of a frame, as the definitions see a vector after a write through its slice
pub written_items : (v : Vec ℕ) (new : List ℕ) → length new ≡ length v.items → (with_items v new).items ≡ new
written_items v new same = with_items_is v new (same ∙ sym v.ok.0)
