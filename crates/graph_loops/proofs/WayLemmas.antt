-- Which edges into a vertex are back edges.
use Rattle.std.proofs.Common.{◌≡◌, ℕ, ◌+◌, ◌<◌, ◌≤◌, Bool, true, false, List, [], ◌∷◌, ◌++◌, length, get_or, take, refl, sym, ap, subst, ◌∙◌, inl, inr, arith}
use Rattle.std.specs.Prelude.{◌↔◌}
use Rattle.std.proofs.lemmas.Bool.{cases_eq, cases_lt, false≢true}
use mathlib.Core.Bool.{beq}
use Rattle.std.proofs.lemmas.List.{take_more, get_or_default, get_or_push, get_or_append_left, get_or_past, length_push}
use Rattle.std.proofs.lemmas.List.Elements.{Contains-push, Contains-push_cases, Contains-append_left}
use Rattle.std.specs.List.{Contains}
use Rattle.wx_base.specs.Paths.{Path, IsBackEdge, IsForward}
use Rattle.graph_loops.specs.Graph.{edges, AreReached, AreVertices, IsGraph, IsReached}
use Rattle.graph_loops.specs.Walk.{AreSources}
use Rattle.graph_loops.specs.Ways.{AreBackInto, AreChosen, AreForwardInto, AreSame}
use Rattle.graph_loops.proofs.Places.{none_there, the_one, is_the_one, there_too, same_there, within_there}
use Rattle.graph_loops.proofs.PathLemmas.{anyway, first_comes}

-- ---- vertices chosen by their marks

module _ (marks : List Bool) (mark : Bool) where
  pub chosen_none : AreChosen [] marks mark []
  chosen_none = record { exact = λ v. (λ h. absurd (none_there v h), λ h. absurd (none_there v h.0)) }

  pub chosen_with : (vertices chosen : List ℕ) (i : ℕ) → i < length vertices → get_or marks (get_or vertices i 0) false ≡ mark → AreChosen (take i vertices) marks mark chosen → AreChosen (take (i + 1) vertices) marks mark (chosen ++ get_or vertices i 0 ∷ [])
  chosen_with vertices chosen i h is c =
      let x = get_or vertices i 0 in
      let P : List ℕ → Type 0 = λ vs. AreChosen vs marks mark (chosen ++ x ∷ []) in
      subst P (sym (take_more vertices i 0 h)) (record {
        exact = λ v. (
          λ k. elim (Contains-push_cases chosen x v k) [
            | inl l ↦ let b = (c.exact v).0 l in (Contains-append_left (take i vertices) (x ∷ []) v b.0, b.1)
            | inr e ↦ (same_there (take i vertices ++ x ∷ []) x v e (Contains-push (take i vertices) x), subst (λ (w : ℕ). get_or marks w false ≡ mark) e is)
          ],
          λ k. elim (Contains-push_cases (take i vertices) x v k.0) [
            | inl l ↦ Contains-append_left chosen (x ∷ []) v ((c.exact v).1 (l, k.1))
            | inr e ↦ same_there (chosen ++ x ∷ []) x v e (Contains-push chosen x)
          ],
        );
      })

  pub chosen_without : (vertices chosen : List ℕ) (i : ℕ) → i < length vertices → (get_or marks (get_or vertices i 0) false ≡ mark → ⊥) → AreChosen (take i vertices) marks mark chosen → AreChosen (take (i + 1) vertices) marks mark chosen
  chosen_without vertices chosen i h not c =
      let x = get_or vertices i 0 in
      let P : List ℕ → Type 0 = λ vs. AreChosen vs marks mark chosen in
      subst P (sym (take_more vertices i 0 h)) (record {
        exact = λ v. (
          λ k. let b = (c.exact v).0 k in (Contains-append_left (take i vertices) (x ∷ []) v b.0, b.1),
          λ k. elim (Contains-push_cases (take i vertices) x v k.0) [
            | inl l ↦ (c.exact v).1 (l, k.1)
            | inr e ↦ absurd (not (subst (λ (w : ℕ). get_or marks w false ≡ mark) (sym e) k.1))
          ],
        );
      })

-- ---- the same vertex throughout

pub all_same : (vertices : List ℕ) → ((k : ℕ) → k < length vertices → get_or vertices k 0 ≡ get_or vertices 0 0) → AreSame vertices
all_same vertices h = record { same = λ u v a b. first u a ∙ sym (first v b) }
  where
    first : (u : ℕ) → Contains vertices u → u ≡ get_or vertices 0 0
    first u a = sym (get_or_default vertices a.0 0 u a.1 ∙ a.2) ∙ h a.0 a.1

-- ---- the edges into a vertex from vertices reached

pub record AreInto (lists : List (List ℕ)) (entry v : ℕ) (into : List ℕ) : Type 0 where
  pub exact : (u : ℕ) → Contains into u ↔ (Path (edges lists) [] entry u × Contains (edges lists u) v)

pub path_to : (lists : List (List ℕ)) (avoided : List ℕ) (entry u : ℕ) → IsReached lists avoided (entry ∷ []) u → Path (edges lists) avoided entry u
path_to lists avoided entry u h = subst (λ (r : ℕ). Path (edges lists) avoided r u) (sym (the_one entry h.root h.listed)) h.path

pub reached_by : (lists : List (List ℕ)) (avoided : List ℕ) (entry u : ℕ) → Path (edges lists) avoided entry u → IsReached lists avoided (entry ∷ []) u
reached_by lists avoided entry u p = record { root = entry; listed = is_the_one entry; path = p }

pub sources_within : (lists sources : List (List ℕ)) (n v : ℕ) (list : List ℕ) → n ≡ length lists → AreSources lists sources → list ≡ edges sources v → AreVertices n list
sources_within lists sources n v list e s is = record {
  within = λ u h. subst (λ (m : ℕ). u < m) (sym e) (within_there lists u v ((s.exact u v).0 (there_too list (edges sources v) u is h)));
}

pub sources_are_graph : (lists sources : List (List ℕ)) → AreSources lists sources → IsGraph sources
sources_are_graph lists sources s = record { within = λ v u h. subst (λ (m : ℕ). u < m) (sym s.count) (within_there lists u v ((s.exact u v).0 h)) }

pub into_is : (lists sources : List (List ℕ)) (entry v : ℕ) (list : List ℕ) (body : List Bool) (into : List ℕ) → AreSources lists sources → list ≡ edges sources v → AreReached lists [] (entry ∷ []) body → AreChosen list body true into → AreInto lists entry v into
into_is lists sources entry v list body into s is b c = record {
  exact = λ u. (
    λ h. let k = (c.exact u).0 h in (path_to lists [] entry u ((b.exact u).0 k.1), (s.exact u v).0 (there_too list (edges sources v) u is k.0)),
    λ h. (c.exact u).1 (there_too (edges sources v) list u (sym is) ((s.exact u v).1 h.1), (b.exact u).1 (reached_by lists [] entry u h.0)),
  );
}

pub into_within : (lists : List (List ℕ)) (n entry v : ℕ) (into : List ℕ) → n ≡ length lists → AreInto lists entry v into → AreVertices n into
into_within lists n entry v into e a = record { within = λ u h. subst (λ (m : ℕ). u < m) (sym e) (within_there lists u v ((a.exact u).0 h).1) }

module _ (lists : List (List ℕ)) (entry v : ℕ) (into : List ℕ) (a : AreInto lists entry v into) where
  -- a head is first come to by a forward edge
  pub no_back : (v ≡ entry → ⊥) → AreSame into → (u : ℕ) → IsBackEdge (edges lists) entry u v → ⊥
  no_back apart s u b =
      let first = first_comes (edges lists) v {a = entry} {b = u} (λ e. apart (sym e)) b.reached b.through in
      let same : first.before ≡ u = s.same first.before u
      ((a.exact first.before).1 (anyway (edges lists) (v ∷ []) first.path, first.edge))
      ((a.exact u).1 (b.reached, b.edge)) in
      b.through (subst (λ (x : ℕ). Path (edges lists) (v ∷ []) entry x) same first.path)

  pub all_forward : (v ≡ entry → ⊥) → AreSame into → AreForwardInto lists entry v into
  all_forward apart s = record {
    exact = λ u. (
      λ h. let k = (a.exact u).0 h in record { reached = k.0; edge = k.1; forward = no_back apart s u },
      λ f. (a.exact u).1 (f.reached, f.edge),
    );
  }

  pub none_back : (v ≡ entry → ⊥) → AreSame into → AreBackInto lists entry v []
  none_back apart s = record { exact = λ u. (λ h. absurd (none_there u h), λ b. absurd (no_back apart s u b)) }

  module _ (away : List Bool) (r : AreReached lists (v ∷ []) (entry ∷ []) away) where
    marked : (u : ℕ) → Path (edges lists) (v ∷ []) entry u → get_or away u false ≡ true
    marked u p = (r.exact u).1 (reached_by lists (v ∷ []) entry u p)

    pub forward_are : (chosen : List ℕ) → AreChosen into away true chosen → AreForwardInto lists entry v chosen
    forward_are chosen c = record {
      exact = λ u. (
        λ h.
            let k = (c.exact u).0 h in
            let e = (a.exact u).0 k.0 in
            record { reached = e.0; edge = e.1; forward = λ b. b.through (path_to lists (v ∷ []) entry u ((r.exact u).0 k.1)) },
        λ f. (c.exact u).1 ((a.exact u).1 (f.reached, f.edge), off u f),
      );
    }
      where
        by_mark : (u : ℕ) → IsForward (edges lists) entry u v → (m : Bool) → get_or away u false ≡ m → get_or away u false ≡ true
        by_mark u f true e = e
        by_mark u f false e = absurd (f.forward (record { reached = f.reached; edge = f.edge; through = λ p. false≢true (sym e ∙ marked u p) }))

        off : (u : ℕ) → IsForward (edges lists) entry u v → get_or away u false ≡ true
        off u f = by_mark u f (get_or away u false) refl

    pub back_are : (chosen : List ℕ) → AreChosen into away false chosen → AreBackInto lists entry v chosen
    back_are chosen c = record {
      exact = λ u. (
        λ h.
            let k = (c.exact u).0 h in
            let e = (a.exact u).0 k.0 in
            record { reached = e.0; edge = e.1; through = λ p. false≢true (sym k.1 ∙ marked u p) },
        λ b. (c.exact u).1 ((a.exact u).1 (b.reached, b.edge), off u b),
      );
    }
      where
        by_mark : (u : ℕ) → IsBackEdge (edges lists) entry u v → (m : Bool) → get_or away u false ≡ m → get_or away u false ≡ false
        by_mark u b false e = e
        by_mark u b true e = absurd (b.through (path_to lists (v ∷ []) entry u ((r.exact u).0 e)))

        off : (u : ℕ) → IsBackEdge (edges lists) entry u v → get_or away u false ≡ false
        off u b = by_mark u b (get_or away u false) refl

-- the same chosen
pub chosen_among : (vertices others : List ℕ) (marks seen : List Bool) (mark : Bool) (chosen : List ℕ) → vertices ≡ others → marks ≡ seen → AreChosen vertices marks mark chosen → AreChosen others seen mark chosen
chosen_among vertices others marks seen mark chosen e f c =
    subst (λ (vs : List ℕ). AreChosen vs seen mark chosen) e (subst (λ (ms : List Bool). AreChosen vertices ms mark chosen) f c)

-- marks that are compared
pub same_mark : (a b : Bool) → beq a b ≡ true → a ≡ b
same_mark true true e = refl
same_mark false false e = refl
same_mark true false e = absurd (false≢true e)
same_mark false true e = absurd (false≢true e)

pub other_mark : (a b : Bool) → beq a b ≡ false → a ≡ b → ⊥
other_mark true true e f = false≢true (sym e)
other_mark false false e f = false≢true (sym e)
other_mark true false e f = false≢true (sym f)
other_mark false true e f = false≢true f

-- ---- a list for each of the first vertices

pub record EachSoFar (P : ℕ → List ℕ → Type 0) (i : ℕ) (lists : List (List ℕ)) : Type 0 where
  pub count : length lists ≡ i
  pub each : (v : ℕ) → v < i → P v (edges lists v)

module _ (P : ℕ → List ℕ → Type 0) where
  pub each_none : (lists : List (List ℕ)) → lists ≡ [] → EachSoFar P 0 lists
  each_none lists e = record { count = ap length e; each = λ v h. absurd (omega arith) }

  pub each_more : (lists after : List (List ℕ)) (i : ℕ) (list : List ℕ) → after ≡ lists ++ list ∷ [] → EachSoFar P i lists → P i list → EachSoFar P (i + 1) after
  each_more lists after i list grown s p =
      let Q : List (List ℕ) → Type 0 = λ ls. EachSoFar P (i + 1) ls in
      subst Q (sym grown) (record {
        count = length_push lists list ∙ ap (λ (n : ℕ). n + 1) s.count;
        each = λ v h. elim (cases_eq v i) [
          | inl e ↦ subst (λ (x : ℕ). P x (edges (lists ++ list ∷ []) x)) (sym e) (subst (P i) (sym (get_or_push lists list [] i s.count)) p)
          | inr n ↦ let l : v < i = omega arith in subst (P v) (sym (get_or_append_left lists (list ∷ []) [] v (omega (arith, s.count)))) (s.each v l)
        ];
      })

  -- past the last vertex stands no list
  pub each_all : (lists : List (List ℕ)) (n : ℕ) → ((v : ℕ) → n ≤ v → P v []) → EachSoFar P n lists → (v : ℕ) → P v (edges lists v)
  each_all lists n none s v = elim (cases_lt v n) [
    | inl l ↦ s.each v l
    | inr p ↦ subst (P v) (sym (get_or_past lists v [] (omega (arith, s.count)))) (none v p)
  ]

pub none_forward : (lists : List (List ℕ)) (entry v : ℕ) → IsGraph lists → length lists ≤ v → AreForwardInto lists entry v []
none_forward lists entry v g h = record { exact = λ u. (λ k. absurd (none_there u k), λ f. absurd (omega (arith, g.within u v f.edge))) }

pub none_back_past : (lists : List (List ℕ)) (entry v : ℕ) → IsGraph lists → length lists ≤ v → AreBackInto lists entry v []
none_back_past lists entry v g h = record { exact = λ u. (λ k. absurd (none_there u k), λ b. absurd (omega (arith, g.within u v b.edge))) }

pub back_within : (lists : List (List ℕ)) (n entry v : ℕ) (list back : List ℕ) → n ≡ length lists → list ≡ back → AreBackInto lists entry v back → AreVertices n list
back_within lists n entry v list back e is a = record { within = λ u h. subst (λ (m : ℕ). u < m) (sym e) (within_there lists u v ((a.exact u).0 (there_too list back u is h)).edge) }
