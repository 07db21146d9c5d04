-- Members are marked, and marks are looked at.
use Rattle.std.proofs.Common.{◌≡◌, ℕ, ◌+◌, ◌<◌, ◌≤◌, Bool, true, false, List, [], ◌∷◌, ◌++◌, length, get_or, set, take, replicate, sym, ap, subst, ◌∙◌, inl, inr, arith, get_or-set_same, get_or-set_other}
use Rattle.std.specs.List.{Contains}
use Rattle.std.proofs.lemmas.Bool.{cases_eq, cases_lt, false≢true}
use Rattle.std.proofs.lemmas.List.{get_or-replicate, get_or_past, length-replicate, length-set, take_all, take_more}
use Rattle.std.proofs.lemmas.List.Elements.{Contains-append_left, Contains-get_or, Contains-push, Contains-push_cases}
use Rattle.cache_kept.specs.Parts.{AreInside}
use Rattle.cache_kept.specs.Walk.{is_marked, AreNodes}
use Rattle.cache_kept.proofs.Lists.{none_there, there_too, same_there}

pub marks_begin : (count : ℕ) (marks : List Bool) → marks ≡ replicate count false → AreInside count [] marks
marks_begin count marks is = record {
  long = ap length is ∙ length-replicate count false;
  exact = λ node. (λ h. absurd (false≢true (sym (ap (λ (ms : List Bool). is_marked ms node) is ∙ nothing node) ∙ h)), λ c. absurd (none_there node c));
}
  where
    nothing : (v : ℕ) → get_or (replicate count false) v false ≡ false
    nothing v = elim (cases_lt v count) [
      | inl l ↦ get_or-replicate count v false false l
      | inr p ↦ get_or_past (replicate count false) v false (omega (arith, p, length-replicate {A = Bool} count false))
    ]

pub marked_next : (count : ℕ) (members : List ℕ) (i : ℕ) (marks : List Bool) → i < length members → AreNodes count members → AreInside count (take i members) marks
    → AreInside count (take (i + 1) members) (set marks (get_or members i 0) true)
marked_next count members i marks h nodes so =
    let v : ℕ = get_or members i 0 in
    let all : take (i + 1) members ≡ take i members ++ v ∷ [] = take_more members i 0 h in
    let within : v < length marks = omega (arith, so.long, nodes.within v (Contains-get_or members i 0 h)) in
    record {
      long = length-set marks v true ∙ so.long;
      exact = λ node. elim (cases_eq node v) [
        | inl e ↦ (
          λ _. there_too (take i members ++ v ∷ []) (take (i + 1) members) node (sym all) (same_there (take i members ++ v ∷ []) v node (sym e) (Contains-push (take i members) v)),
          λ _. subst (λ (n : ℕ). is_marked (set marks v true) n ≡ true) (sym e) (get_or-set_same marks v true false within),
        )
        | inr other ↦ (
          λ m. there_too (take i members ++ v ∷ []) (take (i + 1) members) node (sym all)
              (Contains-append_left (take i members) (v ∷ []) node ((so.exact node).0 (sym (get_or-set_other marks v node true false other) ∙ m))),
          λ c. get_or-set_other marks v node true false other ∙ (so.exact node).1
              (elim (Contains-push_cases (take i members) v node (there_too (take (i + 1) members) (take i members ++ v ∷ []) node all c)) [ inl old ↦ old | inr e ↦ absurd (other (sym e)) ]),
        )
      ];
    }

pub marks_end : (count : ℕ) (members : List ℕ) (i : ℕ) (marks : List Bool) → length members ≤ i → AreInside count (take i members) marks → AreInside count members marks
marks_end count members i marks end so = subst (λ (ms : List ℕ). AreInside count ms marks) (take_all i members end) so

-- the nodes before are marked, and so is the next
pub all_next : (nodes : List ℕ) (marks : List Bool) (i : ℕ) → i < length nodes → is_marked marks (get_or nodes i 0) ≡ true
    → ((node : ℕ) → Contains (take i nodes) node → is_marked marks node ≡ true) → (node : ℕ) → Contains (take (i + 1) nodes) node → is_marked marks node ≡ true
all_next nodes marks i h marked so node c =
    elim (Contains-push_cases (take i nodes) (get_or nodes i 0) node (there_too (take (i + 1) nodes) (take i nodes ++ get_or nodes i 0 ∷ []) node (take_more nodes i 0 h) c)) [
      | inl old ↦ so node old
      | inr e ↦ subst (λ (n : ℕ). is_marked marks n ≡ true) e marked
    ]

pub all_done : (nodes : List ℕ) (marks : List Bool) (i : ℕ) → length nodes ≤ i → ((node : ℕ) → Contains (take i nodes) node → is_marked marks node ≡ true)
    → (node : ℕ) → Contains nodes node → is_marked marks node ≡ true
all_done nodes marks i end so node c = so node (there_too nodes (take i nodes) node (sym (take_all i nodes end)) c)

-- no node is marked behind the end of the marks
pub marked_within : (marks : List Bool) (node : ℕ) → is_marked marks node ≡ true → node < length marks
marked_within marks node e = elim (cases_lt node (length marks)) [ inl h ↦ h | inr past ↦ absurd (false≢true (sym (get_or_past marks node false past) ∙ e)) ]
