-- Starts of blocks: marked addresses as a list, and a queue that is closed under cuts.
use Rattle.std.proofs.Common.{◌≡◌, ◌<◌, ◌≤◌, ◌+◌, ⊎_elim, ℕ, suc, ◌++◌, Bool, true, false, List, [], ◌∷◌, length, get_or, set, length-set, refl, sym, ap, ◌∙◌, subst, arith, Contains}
use Rattle.std.proofs.lemmas.Bool.{cases_lt, cases_eq, both_ways}
use Rattle.std.proofs.lemmas.List.{get_or_push, get_or_append_left, length_push}
use Rattle.std.proofs.lemmas.List.Elements.{Contains-push, Contains-append_left}
use Rattle.std.proofs.lemmas.List.Quantifiers.{all_pairs_push}
use Rattle.wx_base.specs.declared.machine.Machine.{Machine}
use Rattle.wx_base.specs.Facts.{AreAscending}
use Rattle.arm_code.specs.declared.insn.Insn.{Insn}
use Rattle.flow_block.specs.Blocks.{IsOfFunction, IsLeader, Begins, leader, cut}
use Rattle.flow_block.specs.Code.{Subject, IsPlace, IsThere, HasCode, AreLeaders, is_marked}
use Rattle.flow_block.specs.Starts.{IsCut, AreThoseMarked, AddsStart, StartsTo, AreStarts}
use Rattle.flow_block.specs.Sites.{behind}
use Rattle.flow_block.proofs.Marks.{same_place, set_here, set_keeps, set_only}
use Rattle.flow_block.proofs.Lengths.{one_cut, begins_own}
use Rattle.flow_block.proofs.Entered.{there}
use Rattle.std.specs.Result.{OnOk}
use Rattle.std.proofs.Common.{Result, Ok, Err, Option, Some, None, MatchOption}
use Rattle.std.proofs.lemmas.List.{get_or_default}

-- the list has the addresses at the first so many places whose marks are set
pub record MarkedTo (addresses : List ℕ) (marks : List Bool) (list : List ℕ) (upto : ℕ) : Type 0 where
  pub ascending : AreAscending list
  pub sound : (i : ℕ) → i < length list → (place : ℕ) × (place < upto) × IsPlace addresses (get_or list i 0) place × (is_marked marks place ≡ true)
  pub whole : (address place : ℕ) → place < upto → IsPlace addresses address place → is_marked marks place ≡ true → Contains list address

pub none_so_far : (addresses : List ℕ) (marks : List Bool) → MarkedTo addresses marks [] 0
none_so_far addresses marks = record {
  ascending = λ i j d k l. absurd (omega arith);
  sound = λ i l. absurd (omega arith);
  whole = λ a place l. absurd (omega arith);
}

-- the mark at the next place is not set
pub passed_over : (addresses : List ℕ) (marks : List Bool) (list : List ℕ) (at : ℕ) → MarkedTo addresses marks list at → is_marked marks at ≡ false → MarkedTo addresses marks list (at + 1)
passed_over addresses marks list at h e = record {
  ascending = h.ascending;
  sound = λ i l. let k = h.sound i l in (k.0, omega (arith, k.1), k.2, k.3);
  whole = λ a place l p m. ⊎_elim (λ same. absurd (both_ways _ e (ap (λ n. is_marked marks n) (sym same) ∙ m))) (λ ne. h.whole a place (omega arith) p m) (cases_eq place at);
}

-- it is
pub taken : (addresses : List ℕ) (marks : List Bool) (list : List ℕ) (at : ℕ) → AreAscending addresses → at < length addresses → MarkedTo addresses marks list at → is_marked marks at ≡ true → MarkedTo addresses marks (list ++ get_or addresses at 0 ∷ []) (at + 1)
taken addresses marks list at asc l h e =
    let a = get_or addresses at 0 in
    record {
      ascending = all_pairs_push (λ x y. x < y) list a h.ascending (λ i d w.
          let k = h.sound i w in
          let below : get_or addresses k.0 0 < a = asc k.0 at 0 k.1 l in
          let same : get_or list i d ≡ get_or list i 0 = get_or_default list i d 0 w in
          omega (arith, k.2.stands));
      sound = λ i w. ⊎_elim
          (λ k. let s = h.sound i k in (s.0, omega (arith, s.1), subst (λ (x : ℕ). IsPlace addresses x s.0) (sym (get_or_append_left list (a ∷ []) 0 i k)) s.2, s.3))
          (λ k. let same : length list ≡ i = omega (arith, length_push list a) in (at, omega arith, subst (λ (x : ℕ). IsPlace addresses x at) (sym (get_or_push list a 0 i same)) (record { within = l; stands = refl }), e))
          (cases_lt i (length list));
      whole = λ b place w p m. ⊎_elim
          (λ same. subst (λ (x : ℕ). Contains (list ++ a ∷ []) x) (ap (λ n. get_or addresses n 0) (sym same) ∙ p.stands) (Contains-push list a))
          (λ ne. Contains-append_left list (a ∷ []) b (h.whole b place (omega arith) p m))
          (cases_eq place at);
    }

pub all_taken : (addresses : List ℕ) (marks : List Bool) (list : List ℕ) (at : ℕ) → MarkedTo addresses marks list at → length addresses ≤ at → AreThoseMarked addresses marks list
all_taken addresses marks list at h l = record {
  ascending = h.ascending;
  sound = λ i w. let k = h.sound i w in (k.0, k.2, k.3);
  whole = λ a place p m. h.whole a place (omega (arith, p.within)) p m;
}

-- at first the queue has those that begin whatever stands before
pub queue_begun : (s : Subject) (machine : Machine) (addresses : List ℕ) (marks : List Bool) (queue : List ℕ) → AreLeaders s addresses marks → AreThoseMarked addresses marks queue → StartsTo s machine addresses marks queue 0
queue_begun s machine addresses marks queue h k = record {
  long = h.long;
  sound = λ i l. let p = k.sound i l in leader (subst (λ (x : ℕ). IsLeader s.image s.facts s.entry x) p.1.stands (h.sound p.0 p.2));
  queued = k.whole;
  leaders = h.whole;
  done = λ i next place l. absurd (omega arith);
}

-- the next of the queue is not cut
pub no_cut : (s : Subject) (machine : Machine) (addresses : List ℕ) (marks : List Bool) (queue : List ℕ) (at start : ℕ) → StartsTo s machine addresses marks queue at → get_or queue at 0 ≡ start → ((a : ℕ) → IsCut s machine start a → ⊥)
    → StartsTo s machine addresses marks queue (at + 1)
no_cut s machine addresses marks queue at start h e none = record {
  long = h.long;
  sound = h.sound;
  queued = h.queued;
  leaders = h.leaders;
  done = λ i next place l k p. ⊎_elim
      (λ same. absurd (none next (subst (λ (x : ℕ). IsCut s machine x next) (ap (λ n. get_or queue n 0) same ∙ e) k)))
      (λ ne. h.done i next place (omega arith) k p)
      (cases_eq i at);
}

was_added : (s : Subject) (machine : Machine) (addresses : List ℕ) (marks : List Bool) (queue : List ℕ) (at start next p : ℕ) → AreAscending addresses → StartsTo s machine addresses marks queue at → get_or queue at 0 ≡ start
    → IsCut s machine start next → IsPlace addresses next p → is_marked marks p ≡ true → StartsTo s machine addresses marks queue (at + 1)
was_added s machine addresses marks queue at start next p asc h e c w m = record {
  long = h.long;
  sound = h.sound;
  queued = h.queued;
  leaders = h.leaders;
  done = λ i other place l k q. ⊎_elim
      (λ same. ap (λ n. is_marked marks n) (same_place addresses other next place p asc q w (one_cut s machine start other next (subst (λ (x : ℕ). IsCut s machine x other) (ap (λ n. get_or queue n 0) same ∙ e) k) c)) ∙ m)
      (λ ne. h.done i other place (omega arith) k q)
      (cases_eq i at);
}

added_now : (s : Subject) (machine : Machine) (addresses : List ℕ) (marks : List Bool) (queue : List ℕ) (at start next p : ℕ) → AreAscending addresses → StartsTo s machine addresses marks queue at → at < length queue → get_or queue at 0 ≡ start
    → IsCut s machine start next → IsPlace addresses next p → StartsTo s machine addresses (set marks p true) (queue ++ next ∷ []) at
added_now s machine addresses marks queue at start next p asc h l e c w =
    let within : p < length marks = omega (arith, w.within, h.long) in
    record {
      long = length-set marks p true ∙ h.long;
      sound = λ i k. ⊎_elim
          (λ old. subst (λ (x : ℕ). Begins s.image s.facts machine s.entry x) (sym (get_or_append_left queue (next ∷ []) 0 i old)) (h.sound i old))
          (λ new. let same : length queue ≡ i = omega (arith, length_push queue next) in
          subst (λ (x : ℕ). Begins s.image s.facts machine s.entry x) (sym (get_or_push queue next 0 i same ∙ c.next_is)) (cut (subst (λ (x : ℕ). Begins s.image s.facts machine s.entry x) e (h.sound at l)) c.count c.unended))
          (cases_lt i (length queue));
      queued = λ a place q m. ⊎_elim
          (λ old. Contains-append_left queue (next ∷ []) a (h.queued a place q old))
          (λ same. subst (λ (x : ℕ). Contains (queue ++ next ∷ []) x) (sym w.stands ∙ ap (λ n. get_or addresses n 0) (sym same) ∙ q.stands) (Contains-push queue next))
          (set_only marks p place m);
      leaders = λ a place q lead. set_keeps marks p place within (h.leaders a place q lead);
      done = λ i other place k cut_there q. set_keeps marks p place within (h.done i other place k (subst (λ (x : ℕ). IsCut s machine x other) (get_or_append_left queue (next ∷ []) 0 i (omega arith)) cut_there) q);
    }

-- it is cut
pub with_cut : (s : Subject) (machine : Machine) (addresses : List ℕ) (marks marks_then : List Bool) (queue queue_then : List ℕ) (at start next : ℕ) → AreAscending addresses → StartsTo s machine addresses marks queue at → at < length queue → get_or queue at 0 ≡ start
    → IsCut s machine start next → AddsStart addresses next marks marks_then queue queue_then → StartsTo s machine addresses marks_then queue_then (at + 1)
with_cut s machine addresses marks marks_then queue queue_then at start next asc h l e c added = ⊎_elim
    (λ w. subst (λ (x : List Bool). StartsTo s machine addresses x queue_then (at + 1)) (sym w.marks_are) (subst (λ (x : List ℕ). StartsTo s machine addresses marks x (at + 1)) (sym w.queue_is)
    (was_added s machine addresses marks queue at start next w.place asc h e c w.at w.marked)))
    (λ w.
    let within : w.place < length marks = omega (arith, w.at.within, h.long) in
    subst (λ (x : List Bool). StartsTo s machine addresses x queue_then (at + 1)) (sym w.marks_are) (subst (λ (x : List ℕ). StartsTo s machine addresses (set marks w.place true) x (at + 1)) (sym w.queue_is)
    (was_added s machine addresses (set marks w.place true) (queue ++ next ∷ []) at start next w.place asc (added_now s machine addresses marks queue at start next w.place asc h l e c w.at)
    (get_or_append_left queue (next ∷ []) 0 at l ∙ e) c w.at (set_here marks w.place w.place within refl))))
    added

-- what stands in the queue begins a block
queue_begins : (s : Subject) (machine : Machine) (addresses : List ℕ) (marks : List Bool) (queue : List ℕ) (at a : ℕ) → StartsTo s machine addresses marks queue at → Contains queue a → Begins s.image s.facts machine s.entry a
queue_begins s machine addresses marks queue at a h c =
    subst (λ (x : ℕ). Begins s.image s.facts machine s.entry x) (get_or_default queue c.0 0 a c.1 ∙ c.2) (h.sound c.0 c.1)

begins_marked : (s : Subject) (machine : Machine) (addresses : List ℕ) (insns : List Insn) (marks : List Bool) (queue : List ℕ) (at : ℕ) → HasCode s addresses insns → StartsTo s machine addresses marks queue at → length queue ≤ at
    → (a place : ℕ) → IsPlace addresses a place → Begins s.image s.facts machine s.entry a → is_marked marks place ≡ true
begins_marked s machine addresses insns marks queue at code h l a place p (leader lead) = h.leaders a place p lead
begins_marked s machine addresses insns marks queue at code h l _ place p (cut {start} {last} begins count e) =
    let t = there s addresses insns code.body code.code start (begins_own s machine addresses insns code start begins) in
    let c = h.queued start t.place t.at (begins_marked s machine addresses insns marks queue at code h l start t.place t.at begins) in
    h.done c.0 (behind start (suc last)) place (omega (arith, c.1)) (subst (λ (x : ℕ). IsCut s machine x (behind start (suc last))) (sym (get_or_default queue c.0 0 start c.1 ∙ c.2)) (record { last = last; count = count; unended = e; next_is = refl })) p

-- the queue is through
pub closed : (s : Subject) (machine : Machine) (addresses : List ℕ) (insns : List Insn) (marks : List Bool) (queue : List ℕ) (at : ℕ) → HasCode s addresses insns → StartsTo s machine addresses marks queue at → length queue ≤ at → AreStarts s machine addresses marks
closed s machine addresses insns marks queue at code h l = record {
  long = h.long;
  sound = λ a place p m. queue_begins s machine addresses marks queue at a h (h.queued a place p m);
  whole = λ a place p b. begins_marked s machine addresses insns marks queue at code h l a place p b;
}

-- what holds of an outcome that went well
pub on_ok : {A E : Type 0} {P Q : Type 0} (r : Result A E) → (P → Q) → OnOk r P → OnOk r Q
on_ok (Ok x) f h = f h
on_ok (Err e) f h = h

-- what stands in the queue is of the function
pub queue_own : (s : Subject) (machine : Machine) (addresses : List ℕ) (insns : List Insn) (marks : List Bool) (queue : List ℕ) (at start : ℕ) → HasCode s addresses insns → StartsTo s machine addresses marks queue at → at < length queue
    → start ≡ get_or queue at start → IsOfFunction s.image s.facts s.entry start
queue_own s machine addresses insns marks queue at start code h l e =
    begins_own s machine addresses insns code start (queue_begins s machine addresses marks queue at start h (at, l, sym e))

-- and so is the cut behind it
pub cut_own : (s : Subject) (machine : Machine) (addresses : List ℕ) (insns : List Insn) (marks : List Bool) (queue : List ℕ) (at start next : ℕ) → HasCode s addresses insns → StartsTo s machine addresses marks queue at → at < length queue
    → start ≡ get_or queue at start → IsCut s machine start next → IsThere addresses next
cut_own s machine addresses insns marks queue at start next code h l e c =
    let begins = queue_begins s machine addresses marks queue at start h (at, l, sym e) in
    there s addresses insns code.body code.code next (begins_own s machine addresses insns code next (subst (λ (x : ℕ). Begins s.image s.facts machine s.entry x) (sym c.next_is) (cut begins c.count c.unended)))

-- which cut was found
pub some_cut : {s : Subject} {machine : Machine} {start a : ℕ} {o : Option ℕ} → MatchOption o ((a : ℕ) → IsCut s machine start a → ⊥) (λ a. IsCut s machine start a) → o ≡ Some a → IsCut s machine start a
some_cut {s} {machine} {start} {a} {o} h e = subst (λ (x : Option ℕ). MatchOption x ((a : ℕ) → IsCut s machine start a → ⊥) (λ a. IsCut s machine start a)) e h

pub none_cut : {s : Subject} {machine : Machine} {start : ℕ} {o : Option ℕ} → MatchOption o ((a : ℕ) → IsCut s machine start a → ⊥) (λ a. IsCut s machine start a) → o ≡ None → (a : ℕ) → IsCut s machine start a → ⊥
none_cut {s} {machine} {start} {o} h e = subst (λ (x : Option ℕ). MatchOption x ((a : ℕ) → IsCut s machine start a → ⊥) (λ a. IsCut s machine start a)) e h

-- the marks, by another name
pub queue_begun_by : (s : Subject) (machine : Machine) (addresses : List ℕ) (leaders marks : List Bool) (queue : List ℕ) → AreLeaders s addresses leaders → marks ≡ leaders → AreThoseMarked addresses leaders queue → StartsTo s machine addresses marks queue 0
queue_begun_by s machine addresses leaders marks queue h e k = subst (λ (x : List Bool). StartsTo s machine addresses x queue 0) (sym e) (queue_begun s machine addresses leaders queue h k)
