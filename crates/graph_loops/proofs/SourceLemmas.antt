-- How the sources of edges are gathered.
use Rattle.std.proofs.Common.{◌≡◌, ℕ, ◌+◌, ◌<◌, ◌≤◌, List, [], ◌∷◌, ◌++◌, length, get_or, set, take, map, replicate, refl, sym, ap, subst, ◌∙◌, inl, inr, arith, get_or-set_same, get_or-set_other, length-set}
use Rattle.std.specs.Prelude.{◌⊎◌, ◌↔◌}
use Rattle.std.proofs.lemmas.Bool.{cases_eq, cases_lt}
use Rattle.std.proofs.lemmas.List.{take_more, get_or-replicate, get_or_past, length-replicate, map-set}
use Rattle.std.proofs.lemmas.List.Elements.{Contains-push, Contains-push_cases, Contains-append_left}
use Rattle.std.specs.List.{Contains}
use Rattle.graph_loops.specs.Graph.{edges}
use Rattle.graph_loops.specs.Walk.{AreSources, IsSourceAdded}
use Rattle.graph_loops.proofs.Places.{none_there, there_too, same_there, within_there, list_there}

-- a list that changed stands in the lists of all
pub list_changed : {X : Type 0} (f : X → List ℕ) (lists : List X) (i : ℕ) (x y : X) (u : ℕ) → i < length lists → x ≡ get_or lists i x → f y ≡ f x ++ u ∷ [] → map f (set lists i y) ≡ set (map f lists) i (get_or (map f lists) i [] ++ u ∷ [])
list_changed f lists i x y u h is e = map-set f lists i y ∙ ap (set (map f lists) i) (e ∙ ap (λ (xs : List ℕ). xs ++ u ∷ []) (sym (list_there f lists i x h is)))

pub added_none : (lists : List (List ℕ)) (source : ℕ) → IsSourceAdded lists lists source []
added_none lists source = record {
  count = refl;
  exact = λ u v. (λ h. inl h, λ h. elim h [ inl b ↦ b | inr t ↦ absurd (none_there v t.1) ]);
}

module _ (before between after : List (List ℕ)) (source : ℕ) (targets : List ℕ) (t : ℕ) (within : t < length between) (a : IsSourceAdded before between source targets) (is : after ≡ set between t (edges between t ++ source ∷ [])) where
  at_target : edges after t ≡ edges between t ++ source ∷ []
  at_target = ap (λ (lists : List (List ℕ)). edges lists t) is ∙ get_or-set_same between t (edges between t ++ source ∷ []) [] within

  elsewhere : (v : ℕ) → (v ≡ t → ⊥) → edges after v ≡ edges between v
  elsewhere v n = ap (λ (lists : List (List ℕ)). edges lists v) is ∙ get_or-set_other between t v (edges between t ++ source ∷ []) [] n

  Known : ℕ → ℕ → Type 0
  Known u v = Contains (edges before v) u ⊎ ((u ≡ source) × Contains (targets ++ t ∷ []) v)

  further : (u v : ℕ) → Contains (edges between v) u → Contains (edges before v) u ⊎ ((u ≡ source) × Contains (targets ++ t ∷ []) v)
  further u v h = elim ((a.exact u v).0 h) [ inl b ↦ inl b | inr k ↦ inr (k.0, Contains-append_left targets (t ∷ []) v k.1) ]

  pub added_more : IsSourceAdded before after source (targets ++ t ∷ [])
  added_more = record {
    count = ap length is ∙ length-set between t (edges between t ++ source ∷ []) ∙ a.count;
    exact = λ u v. elim (cases_eq v t) [
      | inl e ↦ (there u v e, back u v e)
      | inr n ↦ (
        λ h. further u v (there_too (edges after v) (edges between v) u (elsewhere v n) h),
        λ h. there_too (edges between v) (edges after v) u (sym (elsewhere v n)) ((a.exact u v).1 (elim h [
          | inl b ↦ inl b
          | inr k ↦ inr (k.0, elim (Contains-push_cases targets t v k.1) [ inl c ↦ c | inr e ↦ absurd (n (sym e)) ])
        ])),
      )
    ];
  }
    where
      at : (v : ℕ) → v ≡ t → edges after v ≡ edges between v ++ source ∷ []
      at v e = ap (λ (x : ℕ). edges after x) e ∙ at_target ∙ ap (λ (x : ℕ). edges between x ++ source ∷ []) (sym e)

      there : (u v : ℕ) → v ≡ t → Contains (edges after v) u → Contains (edges before v) u ⊎ ((u ≡ source) × Contains (targets ++ t ∷ []) v)
      there u v e h = elim (Contains-push_cases (edges between v) source u (there_too (edges after v) (edges between v ++ source ∷ []) u (at v e) h)) [
        | inl b ↦ further u v b
        | inr s ↦ inr (sym s, same_there (targets ++ t ∷ []) t v (sym e) (Contains-push targets t))
      ]

      back : (u v : ℕ) → v ≡ t → (Contains (edges before v) u ⊎ ((u ≡ source) × Contains (targets ++ t ∷ []) v)) → Contains (edges after v) u
      back u v e h = there_too (edges between v ++ source ∷ []) (edges after v) u (sym (at v e)) (elim h [
        | inl b ↦ Contains-append_left (edges between v) (source ∷ []) u ((a.exact u v).1 (inl b))
        | inr k ↦ same_there (edges between v ++ source ∷ []) source u (sym k.0) (Contains-push (edges between v) source)
      ])

pub added_next : (before between after : List (List ℕ)) (source : ℕ) (targets : List ℕ) (i : ℕ) → i < length targets → get_or targets i 0 < length between → IsSourceAdded before between source (take i targets)
    → after ≡ set between (get_or targets i 0) (edges between (get_or targets i 0) ++ source ∷ []) → IsSourceAdded before after source (take (i + 1) targets)
added_next before between after source targets i h within a is =
    subst (λ (xs : List ℕ). IsSourceAdded before after source xs) (sym (take_more targets i 0 h)) (added_more before between after source (take i targets) (get_or targets i 0) within a is)

-- the sources among the first i vertices
pub record SourcesSoFar (lists : List (List ℕ)) (i : ℕ) (sources : List (List ℕ)) : Type 0 where
  pub count : length sources ≡ length lists
  pub exact : (u v : ℕ) → Contains (edges sources v) u ↔ ((u < i) × Contains (edges lists u) v)

pub no_sources : (lists sources : List (List ℕ)) (n : ℕ) → n ≡ length lists → sources ≡ replicate n [] → SourcesSoFar lists 0 sources
no_sources lists sources n e is = record {
  count = ap length is ∙ length-replicate n [] ∙ e;
  exact = λ u v. (λ h. absurd (none_there u (there_too (edges sources v) [] u (ap (λ (l : List (List ℕ)). edges l v) is ∙ nothing v) h)), λ h. absurd (omega (arith, h.0)));
}
  where
    nothing : (v : ℕ) → edges (replicate n []) v ≡ []
    nothing v = elim (cases_lt v n) [ inl l ↦ get_or-replicate n v [] [] l | inr p ↦ get_or_past (replicate n []) v [] (rw length-replicate p) ]

pub sources_more : (lists sources after : List (List ℕ)) (i : ℕ) → SourcesSoFar lists i sources → IsSourceAdded sources after i (edges lists i) → SourcesSoFar lists (i + 1) after
sources_more lists sources after i s a = record {
  count = a.count ∙ s.count;
  exact = λ u v. (
    λ h. elim ((a.exact u v).0 h) [
      | inl b ↦ let k = (s.exact u v).0 b in (omega (arith, k.0), k.1)
      | inr k ↦ (omega (arith, k.0), subst (λ (x : ℕ). Contains (edges lists x) v) (sym k.0) k.1)
    ],
    λ h. (a.exact u v).1 (elim (cases_eq u i) [
      | inl e ↦ inr (e, subst (λ (x : ℕ). Contains (edges lists x) v) e h.1)
      | inr n ↦ inl ((s.exact u v).1 (omega (arith, h.0), h.1))
    ]),
  );
}

pub all_sources : (lists sources : List (List ℕ)) (i : ℕ) → length lists ≤ i → SourcesSoFar lists i sources → AreSources lists sources
all_sources lists sources i h s = record {
  count = s.count;
  exact = λ u v. (λ k. ((s.exact u v).0 k).1, λ k. (s.exact u v).1 (omega (arith, within_there lists u v k), k));
}
