-- Moves are gathered node by node.
use Rattle.std.proofs.Common.{◌≡◌, ◌↔◌, ℕ, ◌+◌, ◌<◌, ◌≤◌, List, [], ◌∷◌, ◌++◌, length, get_or, map, set, take, replicate, sym, ap, subst, ◌∙◌, inl, inr, arith, get_or-set_same, get_or-set_other}
use Rattle.std.specs.List.{All, Contains}
use Rattle.std.proofs.lemmas.Bool.{cases_eq, cases_lt}
use Rattle.std.proofs.lemmas.List.{get_or-map, get_or-replicate, get_or_past, length-map, length-replicate, map-set, map_push, replicate_more, take_all, take_more}
use Rattle.std.proofs.lemmas.List.Elements.{All-map, Contains-append_left, Contains-push, Contains-push_cases}
use Rattle.std.specs.Global.{Vec}
use Rattle.cache_flow.specs.declared.flow.Move.{Move}
use Rattle.cache_kept.specs.Ways.{lists_of, list_at, turned, AreSources, AreTargets}
use Rattle.cache_kept.proofs.Lists.{none_there, there_too}

-- ---- lists that are changed one by one

pub lists_length : (lists : List (Vec ℕ)) → length (lists_of lists) ≡ length lists
lists_length lists = length-map lists (λ (list : Vec ℕ). list.items)

pub empty_more : (lists after : List (Vec ℕ)) (x : Vec ℕ) (n : ℕ) → after ≡ lists ++ x ∷ [] → x.items ≡ [] → lists_of lists ≡ replicate n [] → lists_of after ≡ replicate (n + 1) []
empty_more lists after x n grown none before =
    ap lists_of grown ∙ map_push (λ (list : Vec ℕ). list.items) lists x ∙ (λ i. before i ++ none i ∷ []) ∙ replicate_more n []

-- the list that stands at a place
pub list_there : (lists : List (Vec ℕ)) (i : ℕ) (x : Vec ℕ) → i < length lists → x ≡ get_or lists i x → list_at lists i ≡ x.items
list_there lists i x h e = get_or-map (λ (list : Vec ℕ). list.items) lists i x [] h ∙ ap (λ (list : Vec ℕ). list.items) (sym e)

pub list_read : (lists : List (Vec ℕ)) (i : ℕ) (x : Vec ℕ) → i < length lists → list_at lists i ≡ (get_or lists i x).items
list_read lists i x h = get_or-map (λ (list : Vec ℕ). list.items) lists i x [] h

pub list_changed : (lists : List (Vec ℕ)) (i : ℕ) (x y : Vec ℕ) (u : ℕ) → i < length lists → x ≡ get_or lists i x → y.items ≡ x.items ++ u ∷ []
    → lists_of (set lists i y) ≡ set (lists_of lists) i (list_at lists i ++ u ∷ [])
list_changed lists i x y u h is e =
    map-set (λ (list : Vec ℕ). list.items) lists i y ∙ ap (set (lists_of lists) i) (e ∙ ap (λ (xs : List ℕ). xs ++ u ∷ []) (sym (list_there lists i x h is)))

-- ---- sources

-- the sources of the first so many moves
pub record SourcesSoFar (count : ℕ) (moves : List Move) (i : ℕ) (lists : List (Vec ℕ)) : Type 0 where
  pub long : length lists ≡ count
  pub exact : (source target : ℕ) → Contains (list_at lists target) source ↔ Contains (take i moves) (record { from = source; to = target })

no_move : (m : Move) → Contains [] m → ⊥
no_move m c = absurd (omega (arith, c.1))

abbrev at_place : List (List ℕ) → ℕ → List ℕ
at_place lists v = get_or lists v []

nothing : (count v : ℕ) → at_place (replicate count []) v ≡ []
nothing count v = elim (cases_lt v count) [ inl l ↦ get_or-replicate count v [] [] l | inr p ↦ get_or_past (replicate count []) v [] (rw length-replicate p) ]

pub sources_none : (count : ℕ) (moves : List Move) (lists : List (Vec ℕ)) → lists_of lists ≡ replicate count [] → SourcesSoFar count moves 0 lists
sources_none count moves lists is = record {
  long = sym (lists_length lists) ∙ ap length is ∙ length-replicate count [];
  exact = λ source target. (
    λ c. absurd (none_there source (there_too (list_at lists target) [] source (ap (λ (ls : List (List ℕ)). at_place ls target) is ∙ nothing count target) c)),
    λ c. absurd (no_move (record { from = source; to = target }) c),
  );
}

pub sources_more : (count : ℕ) (moves : List Move) (i : ℕ) (lists after : List (Vec ℕ)) (step : Move) → i < length moves → step ≡ get_or moves i step → step.to < count
    → SourcesSoFar count moves i lists → length after ≡ length lists → lists_of after ≡ set (lists_of lists) step.to (list_at lists step.to ++ step.from ∷ [])
    → SourcesSoFar count moves (i + 1) after
sources_more count moves i lists after step h here within so long is =
    let all : take (i + 1) moves ≡ take i moves ++ step ∷ [] = take_more moves i step h ∙ ap (λ (m : Move). take i moves ++ m ∷ []) (sym here) in
    record {
      long = long ∙ so.long;
      exact = λ source target. (
        λ c. subst (λ (ms : List Move). Contains ms (record { from = source; to = target })) (sym all) (elim (cases_eq target step.to) [
          | inl e ↦ elim (Contains-push_cases (list_at lists step.to) step.from source (there_too (list_at after target) (list_at lists step.to ++ step.from ∷ []) source (at target e) c)) [
            | inl old ↦ Contains-append_left (take i moves) (step ∷ []) (record { from = source; to = target })
                ((so.exact source target).0 (subst (λ (t : ℕ). Contains (list_at lists t) source) (sym e) old))
            | inr new ↦ subst (λ (m : Move). Contains (take i moves ++ step ∷ []) m) (λ k. record { from = new k; to = sym e k }) (Contains-push (take i moves) step)
          ]
          | inr other ↦ Contains-append_left (take i moves) (step ∷ []) (record { from = source; to = target })
              ((so.exact source target).0 (there_too (list_at after target) (list_at lists target) source (elsewhere target other) c))
        ]),
        λ c. elim (Contains-push_cases (take i moves) step (record { from = source; to = target }) (subst (λ (ms : List Move). Contains ms (record { from = source; to = target })) all c)) [
          | inl old ↦
              let before : Contains (list_at lists target) source = (so.exact source target).1 old in
              elim (cases_eq target step.to) [
                | inl e ↦ there_too (list_at lists step.to ++ step.from ∷ []) (list_at after target) source (sym (at target e))
                    (Contains-append_left (list_at lists step.to) (step.from ∷ []) source (subst (λ (t : ℕ). Contains (list_at lists t) source) e before))
                | inr other ↦ there_too (list_at lists target) (list_at after target) source (sym (elsewhere target other)) before
              ]
          | inr new ↦
              let from : step.from ≡ source = ap (λ (m : Move). m.from) new in
              let to : target ≡ step.to = sym (ap (λ (m : Move). m.to) new) in
              there_too (list_at lists step.to ++ step.from ∷ []) (list_at after target) source (sym (at target to))
              (subst (λ (s : ℕ). Contains (list_at lists step.to ++ step.from ∷ []) s) from (Contains-push (list_at lists step.to) step.from))
        ],
      );
    }
  where
    inside : step.to < length (lists_of lists)
    inside = omega (arith, within, so.long, lists_length lists)

    at : (target : ℕ) → target ≡ step.to → list_at after target ≡ list_at lists step.to ++ step.from ∷ []
    at target e = ap (list_at after) e ∙ ap (λ (ls : List (List ℕ)). get_or ls step.to []) is ∙ get_or-set_same (lists_of lists) step.to (list_at lists step.to ++ step.from ∷ []) [] inside

    elsewhere : (target : ℕ) → (target ≡ step.to → ⊥) → list_at after target ≡ list_at lists target
    elsewhere target other =
        ap (λ (ls : List (List ℕ)). get_or ls target []) is ∙ get_or-set_other (lists_of lists) step.to target (list_at lists step.to ++ step.from ∷ []) [] other

pub sources_all : (count : ℕ) (moves : List Move) (i : ℕ) (lists : List (Vec ℕ)) → length moves ≤ i → SourcesSoFar count moves i lists → AreSources count moves lists
sources_all count moves i lists end so = record {
  long = so.long;
  exact = λ source target. subst (λ (ms : List Move). Contains (list_at lists target) source ↔ Contains ms (record { from = source; to = target })) (take_all i moves end) (so.exact source target);
}

-- ---- targets are the sources of moves turned round

turned_there : (moves : List Move) (m : Move) → Contains moves m → Contains (map turned moves) (turned m)
turned_there moves m c = (c.0, omega (arith, c.1, length-map moves turned), get_or-map turned moves c.0 m (turned m) c.1 ∙ ap turned c.2)

turned_back : (moves : List Move) (m : Move) → Contains (map turned moves) (turned m) → Contains moves m
turned_back moves m c =
    let h : c.0 < length moves = omega (arith, c.1, length-map moves turned) in
    (c.0, h, ap turned (sym (get_or-map turned moves c.0 m (turned m) h) ∙ c.2))

pub targets_from : (count : ℕ) (moves back : List Move) (lists : List (Vec ℕ)) → back ≡ map turned moves → AreSources count back lists → AreTargets count moves lists
targets_from count moves back lists is are = record {
  long = are.long;
  exact = λ source target. (
    λ c. turned_back moves (record { from = source; to = target }) (subst (λ (ms : List Move). Contains ms (record { from = target; to = source })) is ((are.exact target source).0 c)),
    λ c. (are.exact target source).1 (subst (λ (ms : List Move). Contains ms (record { from = target; to = source })) (sym is) (turned_there moves (record { from = source; to = target }) c)),
  );
}

pub turned_within : (count : ℕ) (moves back : List Move) → back ≡ map turned moves → All (λ (m : Move). m.from < count) moves → All (λ (m : Move). m.to < count) back
turned_within count moves back is all = subst (λ (ms : List Move). All (λ (m : Move). m.to < count) ms) (sym is) (All-map (λ (m : Move). m.to < count) turned moves all)

pub sources_same : (n count : ℕ) (given moves : List Move) (lists : List (Vec ℕ)) → n ≡ count → given ≡ moves → AreSources n given lists → AreSources count moves lists
sources_same n count given moves lists e f are = subst (λ (ms : List Move). AreSources count ms lists) f (subst (λ (k : ℕ). AreSources k given lists) e are)
