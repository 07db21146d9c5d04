-- In a whole run the events of a group whose scope is a loop miss once at most for each time that the loop is entered.
use Rattle.std.proofs.Common.{◌≡◌, ℕ, suc, ◌+◌, ◌-◌, ◌≤◌, cond, ◌==◌, ◌&&◌, List, [], ◌∷◌, ◌++◌, length, take, slice_get, refl, sym, ap, subst, ◌∙◌, inl, inr, arith, append_assoc, length-append}
use Rattle.std.specs.Prelude.{Contains, Some, slice_index_or}
use Rattle.std.proofs.lemmas.Bool.{cases_Bool, and_parts, eq-eqb}
use Rattle.std.proofs.lemmas.List.Sums.{sum_by-cons}
use Rattle.std.proofs.lemmas.Option.{get_or_from_slice_get}
use Rattle.wx_base.specs.declared.machine.Machine.{Machine}
use Rattle.wx_base.specs.Cache.{Lines}
use Rattle.wx_base.specs.Machine.{IsShape}
use Rattle.flow_block.specs.declared.block.Slot.{Slot}
use Rattle.flow_ctx.specs.declared.scope.Scope.{Scope}
use Rattle.flow_ctx.specs.declared.scope.Scope.TheVariants.{Loop}
use Rattle.flow_ctx.specs.declared.unfolded.Edge.{Edge}
use Rattle.flow_ctx.specs.declared.unfolded.ULoop.{ULoop}
use Rattle.flow_ctx.specs.declared.unfolded.Unfolded.{Unfolded}
use Rattle.flow_ctx.specs.Stays.{StaysInLoop, Takes}
use Rattle.flow_ctx.specs.Stays.StaysInLoop.{starts, enters, repeats, moves}
use Rattle.flow_ctx.specs.Stays.Takes.{none as takes_none, one as takes_one, other as takes_other}
use Rattle.ctx_laws.specs.Following.{IsInStay, IsPartTo}
use Rattle.cache_flow.specs.Flows.{IsFlow}
use Rattle.cache_flow.specs.Laws.{KeptInStays}
use Rattle.cache_class.specs.declared.class.Class.{Class}
use Rattle.cache_class.specs.declared.class.Classes.{Classes}
use Rattle.cache_class.specs.Accesses.{part_of}
use Rattle.cache_class.specs.Classes.{AreClasses}
use Rattle.class_laws.specs.Visits.{Visit, is_of_group, misses_from, misses_in, visit_misses}
use Rattle.class_laws.proofs.Allowed.{HasClasses, has_classes}
use Rattle.class_laws.proofs.Groups.{kept_at}
use Rattle.class_laws.proofs.Lists.{at_seam, listed_or_not}
use Rattle.class_laws.proofs.Staying.{no_longer, one_longer, since_short}
use Rattle.class_laws.proofs.Visited.{AreVisited, IsVisited, walk_of}
use Rattle.class_laws.proofs.Visited.AreVisited.{none, one}

-- ---- the numbers

-- a visit in a stay, of which the misses before its stay are counted
in_stay_fits : (own all stay bound : ℕ) → all + 1 ≤ bound + stay → own + stay ≤ 1 → own + all ≤ bound
in_stay_fits own all stay bound h k = omega arith

outside_fits : (own all bound : ℕ) → own ≡ 0 → all ≤ bound → own + all ≤ bound
outside_fits own all bound e h = omega arith

goes_on_fits : (own all stay bound more : ℕ) → all + 1 ≤ bound + stay → bound ≤ more → own + all + 1 ≤ more + (own + stay)
goes_on_fits own all stay bound more h k = omega arith

enters_fits : (all count start : ℕ) → all ≤ count + start → all + 1 ≤ count + 1 + start + 0
enters_fits all count start h = omega arith

more_fits : (all count start : ℕ) → all ≤ count + start → all ≤ count + 1 + start
more_fits all count start h = omega arith

one_more : (count start : ℕ) → count + start ≤ count + 1 + start
one_more count start = omega arith

-- ---- visits of other nodes

module _ (kept_law : KeptInStays) (u : Unfolded) (machine : Machine) (table : Classes) (are : AreClasses u machine table) (shape : IsShape machine.shape) (flows : IsFlow are.flow) (first : Lines) where
  module _ (scope : Scope) (node : ℕ) (cache : Lines) (visit : Visit) (is : IsVisited u machine first cache node visit) (line : ℕ) (has : HasClasses u machine table are node visit.block)
      (apart : Contains (part_of u scope).members node → ⊥) where
    none_from : (front rest : List Slot) (classes more : List Class) → visit.block.slots ≡ front ++ rest → has.kinds ≡ classes ++ more → length classes ≡ length front
        → misses_from line scope visit.outcomes (length front) rest more ≡ 0
    none_from front [] classes more e k same = refl
    none_from front (event ∷ rest) classes [] e k same = refl
    none_from front (event ∷ rest) classes (class ∷ more) e k same =
        let number = length front in
        let stands : slice_get visit.block.slots number ≡ Some event = ap (λ (s : List Slot). slice_get s number) e ∙ at_seam front event rest in
        let kind : slice_get has.kinds number ≡ Some class = (λ i. slice_get (k i) (sym same i)) ∙ at_seam classes class more in
        let next : length (front ++ event ∷ []) ≡ length front + 1 = length-append front (event ∷ []) in
        let behind = none_from (front ++ event ∷ []) rest (classes ++ class ∷ []) more (e ∙ sym (append_assoc front (event ∷ []) rest)) (k ∙ sym (append_assoc classes (class ∷ []) more))
        (length-append classes (class ∷ []) ∙ ap (λ n. n + 1) same ∙ sym next) in
        elim (cases_Bool (visit.outcomes number && is_of_group event.kind class line scope)) [
          | inl on ↦
              absurd (apart (kept_at kept_law u machine table are shape flows first scope node cache visit is line number event class has stands kind
              (and_parts (visit.outcomes number) (is_of_group event.kind class line scope) on).1).member)
          | inr off ↦ rw off (sum_of_none (misses_from line scope visit.outcomes (length front + 1) rest more) (ap (λ n. misses_from line scope visit.outcomes n rest more) (sym next) ∙ behind))
        ]
      where
        sum_of_none : (n : ℕ) → n ≡ 0 → 0 + n ≡ 0
        sum_of_none n e = omega arith

    none_here : visit_misses table line scope visit ≡ 0
    none_here =
        let kinds : slice_index_or table.slots visit.node [] ≡ has.kinds = get_or_from_slice_get table.slots visit.node has.kinds [] (ap (slice_get table.slots) is.here ∙ has.stands) in
        ap (λ (ks : List Class). misses_from line scope visit.outcomes 0 visit.block.slots ks) kinds ∙ none_from [] visit.block.slots [] has.kinds refl refl refl

  -- at a node outside of a scope no event of its groups misses
  pub none_outside : (scope : Scope) (node : ℕ) (cache : Lines) (visit : Visit) → IsVisited u machine first cache node visit → (line : ℕ)
      → (Contains (part_of u scope).members node → ⊥) → visit_misses table line scope visit ≡ 0
  none_outside scope node cache visit is line apart = none_here scope node cache visit is line (has_classes u machine table are node visit.block is.is) apart

-- ---- along a walk

-- what a law on stays says of the visits of a walk: those in a stay miss once at most
pub record AreOnce (u : Unfolded) (machine : Machine) (first : Lines) (table : Classes) (line number : ℕ) (l : ULoop) : Type 0 where
  pub once : (visits : List Visit) (walk since : List ℕ) (count node : ℕ) (cache : Lines) (visit : Visit) → AreVisited u machine first visits walk node cache
      → StaysInLoop u l walk since count → IsVisited u machine first cache node visit
      → misses_in table line (Loop number) (visit ∷ take (length walk - length since) visits) ≤ 1
  pub outside : (node : ℕ) (cache : Lines) (visit : Visit) → IsVisited u machine first cache node visit → (Contains l.members node → ⊥)
      → visit_misses table line (Loop number) visit ≡ 0

-- 1 for a start at the head
abbrev pub start_bit : Unfolded → ULoop → ℕ
start_bit u l = cond (u.start == l.head) 1 0

module _ (u : Unfolded) (machine : Machine) (first : Lines) (table : Classes) (line number : ℕ) (l : ULoop) (once : AreOnce u machine first table line number l)
    (whole : List ℕ) (stays : (earlier : List ℕ) (node : ℕ) → IsPartTo u whole earlier node → Contains l.members node → IsInStay u l earlier) where
  abbrev Misses : List Visit → ℕ
  Misses visits = misses_in table line (Loop number) visits

  abbrev own : Visit → ℕ
  own visit = visit_misses table line (Loop number) visit

  cons : (visit : Visit) (visits : List Visit) → Misses (visit ∷ visits) ≡ own visit + Misses visits
  cons visit visits = sum_by-cons (λ v. visit_misses table line (Loop number) v) visit visits

  -- the misses so far, without the node that the walk leads to: those of stays that are over are within the number of entries
  pub record AreWithin (visits : List Visit) (walk : List ℕ) (count : ℕ) : Type 0 where
    pub all : Misses visits ≤ count + start_bit u l
    pub stay : (since : List ℕ) (k : ℕ) → StaysInLoop u l walk since k
        → Misses visits + 1 ≤ count + start_bit u l + Misses (take (length walk - length since) visits)

  -- so they are with that node
  pub with_last : (visits : List Visit) (walk later : List ℕ) (node count : ℕ) (cache : Lines) (visit : Visit) → whole ≡ later ++ walk
      → AreVisited u machine first visits walk node cache → IsVisited u machine first cache node visit → AreWithin visits walk count
      → own visit + Misses visits ≤ count + start_bit u l
  with_last visits walk later node count cache visit e visited is within = elim (listed_or_not l.members node) [
    | inl member ↦
        let part : IsPartTo u whole walk node = record { later = later; are = e; leads = walk_of u machine first visits walk node cache visited } in
        let stay = stays walk node part member in
        in_stay_fits (own visit) (Misses visits) (Misses (take (length walk - length stay.since) visits)) (count + start_bit u l)
        (within.stay stay.since stay.count stay.stays)
        (subst (λ n. n ≤ 1) (cons visit (take (length walk - length stay.since) visits)) (once.once visits walk stay.since stay.count node cache visit visited stay.stays is))
    | inr apart ↦ outside_fits (own visit) (Misses visits) (count + start_bit u l) (once.outside node cache visit is apart) within.all
  ]

  at_begin : AreWithin [] [] 0
  at_begin = record { all = omega arith; stay = first_stay }
    where
      start_is : u.start ≡ l.head → start_bit u l ≡ 1
      start_is e = ap (λ b. cond {A = ℕ} b 1 0) (eq-eqb u.start l.head e)

      first_stay : (since : List ℕ) (k : ℕ) → StaysInLoop u l [] since k → Misses [] + 1 ≤ 0 + start_bit u l + Misses (take (length {A = ℕ} [] - length since) [])
      first_stay since k (starts e) = omega (arith, start_is e)

  module _ (visits : List Visit) (walk : List ℕ) (k : ℕ) (edge : Edge) (cache : Lines) (visit : Visit) (visited : AreVisited u machine first visits walk edge.from cache)
      (stands : slice_get u.edges k ≡ Some edge) (is : IsVisited u machine first cache edge.from visit) (later : List ℕ) (e : whole ≡ later ++ k ∷ walk) (count : ℕ) (within : AreWithin visits walk count) where
    so_far : Misses (visit ∷ visits) ≤ count + start_bit u l
    so_far =
        subst (λ n. n ≤ count + start_bit u l) (sym (cons visit visits))
        (with_last visits walk (later ++ k ∷ []) edge.from count cache visit (e ∙ sym (append_assoc later (k ∷ []) walk)) visited is within)

    -- a stay that goes on
    went_on : (since : List ℕ) (n more : ℕ) → StaysInLoop u l walk since n → count + start_bit u l ≤ more
        → Misses (visit ∷ visits) + 1 ≤ more + Misses (take (suc (length walk) - length since) (visit ∷ visits))
    went_on since n more stay less =
        let kept = take (length walk - length since) visits in
        subst (λ m. Misses (visit ∷ visits) + 1 ≤ more + m) (sym (ap Misses (one_longer (length walk) (length since) visit visits (since_short u l walk since n stay)) ∙ cons visit kept))
        (subst (λ m. m + 1 ≤ more + (own visit + Misses kept)) (sym (cons visit visits))
        (goes_on_fits (own visit) (Misses visits) (Misses kept) (count + start_bit u l) more (within.stay since n stay) less))

    entered : Contains l.entries k → AreWithin (visit ∷ visits) (k ∷ walk) (count + 1)
    entered contains = record { all = more_fits (Misses (visit ∷ visits)) count (start_bit u l) so_far; stay = next_stay }
      where
        next_stay : (since : List ℕ) (n : ℕ) → StaysInLoop u l (k ∷ walk) since n
            → Misses (visit ∷ visits) + 1 ≤ count + 1 + start_bit u l + Misses (take (length (k ∷ walk) - length since) (visit ∷ visits))
        next_stay since n (enters _ _ c) =
            subst (λ m. Misses (visit ∷ visits) + 1 ≤ count + 1 + start_bit u l + m) (sym (ap Misses (no_longer (suc (length walk)) (visit ∷ visits))))
            (enters_fits (Misses (visit ∷ visits)) count (start_bit u l) so_far)
        next_stay since n (repeats _ _ s m stay back) = went_on s m (count + 1 + start_bit u l) stay (one_more count (start_bit u l))
        next_stay since n (moves _ _ _ s m stay f apart member) = went_on s m (count + 1 + start_bit u l) stay (one_more count (start_bit u l))

    not_entered : (Contains l.entries k → ⊥) → AreWithin (visit ∷ visits) (k ∷ walk) count
    not_entered apart = record { all = so_far; stay = next_stay }
      where
        next_stay : (since : List ℕ) (n : ℕ) → StaysInLoop u l (k ∷ walk) since n
            → Misses (visit ∷ visits) + 1 ≤ count + start_bit u l + Misses (take (length (k ∷ walk) - length since) (visit ∷ visits))
        next_stay since n (enters _ _ c) = absurd (apart c)
        next_stay since n (repeats _ _ s m stay back) = went_on s m (count + start_bit u l) stay (omega arith)
        next_stay since n (moves _ _ _ s m stay f other member) = went_on s m (count + start_bit u l) stay (omega arith)

  within_entries : (visits : List Visit) (walk later : List ℕ) (node count : ℕ) (cache : Lines) → whole ≡ later ++ walk
      → AreVisited u machine first visits walk node cache → Takes l.entries walk count → AreWithin visits walk count
  within_entries visits walk later node count cache e none takes_none = at_begin
  within_entries visits walk later node count cache e (one before w k edge visit x so_far_visited stands taken is) (takes_one _ _ n contains takes) =
      entered before w k edge x visit so_far_visited stands is later e n (within_entries before w (later ++ k ∷ []) edge.from n x (e ∙ sym (append_assoc later (k ∷ []) w)) so_far_visited takes) contains
  within_entries visits walk later node count cache e (one before w k edge visit x so_far_visited stands taken is) (takes_other _ _ n apart takes) =
      not_entered before w k edge x visit so_far_visited stands is later e n (within_entries before w (later ++ k ∷ []) edge.from n x (e ∙ sym (append_assoc later (k ∷ []) w)) so_far_visited takes) apart

  -- in the whole run the events of a group miss once at most for each entry, and for a start at the head
  pub once_for_each : (visits : List Visit) (node count : ℕ) (cache : Lines) (visit : Visit) → AreVisited u machine first visits whole node cache
      → IsVisited u machine first cache node visit → Takes l.entries whole count → Misses (visit ∷ visits) ≤ count + start_bit u l
  once_for_each visits node count cache visit visited is takes =
      subst (λ n. n ≤ count + start_bit u l) (sym (cons visit visits))
      (with_last visits whole [] node count cache visit refl visited is (within_entries visits whole [] node count cache refl visited takes))
