-- Marks at the entries of functions, what instructions lead to, and the least call that leads back to itself.
use Rattle.std.proofs.Common.{◌≡◌, ℕ, ◌+◌, ◌<◌, ◌≤◌, Bool, true, false, List, [], ◌∷◌, ◌++◌, length, get_or, set, take, drop, refl, sym, ap, subst, ◌∙◌, inl, inr, arith, length-set, get_or-set_same, get_or-set_other, Option, Some, None}
use Rattle.std.specs.Prelude.{◌⊎◌, Decides, IsTrue}
use Rattle.std.proofs.lemmas.Bool.{cases_eq, cases_lt, false≢true}
use Rattle.std.proofs.lemmas.List.{get_or-map, get_or_past, take_more, take_at}
use Rattle.std.proofs.lemmas.List.Elements.{Contains-push, Contains-push_cases, Contains-append_left, Contains-append_cases}
use Rattle.std.specs.List.{Contains}
use Rattle.std.specs.Global.{Vec}
use Rattle.wx_base.specs.Paths.{Path}
use Rattle.wx_base.specs.Paths.Path.{here, further}
use Rattle.graph_loops.specs.Graph.{edges, lists_of, AreReached, AreVertices, IsGraph, IsReached}
use Rattle.flow_graph.specs.Listing.{leads_of, AreEntries, AreLeads, AreMarkedCallees, IsEntryNumber, IsLeast, IsRecursiveNumber}
use Rattle.flow_graph.specs.Listing.IsEntryNumber.{at_start, called}

none_there : (v : ℕ) → Contains [] v → ⊥
none_there v h = absurd (omega (arith, h.1))

the_one : (u v : ℕ) → Contains (u ∷ []) v → u ≡ v
the_one u v h = let e : h.0 ≡ 0 = omega (arith, h.1) in subst (λ (k : ℕ). get_or (u ∷ []) k v ≡ v) e h.2

-- an element stands in a list that is the same
there_too : (xs ys : List ℕ) (v : ℕ) → xs ≡ ys → Contains xs v → Contains ys v
there_too xs ys v e h = subst (λ (zs : List ℕ). Contains zs v) e h

-- past the end stands no list, so a vertex with an edge is within
within_there : (lists : List (List ℕ)) (u v : ℕ) → Contains (edges lists u) v → u < length lists
within_there lists u v h = elim (cases_lt u (length lists)) [
  | inl l ↦ l
  | inr p ↦ absurd (none_there v (there_too (edges lists u) [] v (get_or_past lists u [] p) h))
]

-- the list of a place among lists
pub list_there : (lists : List (Vec ℕ)) (i : ℕ) (list : Vec ℕ) → i < length lists → list ≡ get_or lists i list → edges (lists_of lists) i ≡ list.items
list_there lists i list h is = get_or-map (λ (l : Vec ℕ). l.items) lists i list [] h ∙ ap (λ (l : Vec ℕ). l.items) (sym is)

-- the numbers of a list of a graph are vertices
pub row_within : (lists : List (List ℕ)) (i n : ℕ) (row : List ℕ) → IsGraph lists → n ≡ length lists → edges lists i ≡ row → AreVertices n row
row_within lists i n row graph e is = record { within = λ v h. subst (λ (m : ℕ). v < m) (sym e) (graph.within i v (there_too row (edges lists i) v (sym is) h)) }

-- ---- marks

-- the marks besides those that there were are at some numbers
pub record AreMarkedBy (before after : List Bool) (numbers : List ℕ) : Type 0 where
  pub long : length after ≡ length before
  pub marked : (v : ℕ) → Decides (get_or after v false) (Contains numbers v ⊎ IsTrue (get_or before v false))

pub marked_next : (before between : List Bool) (numbers : List ℕ) (i : ℕ) → i < length numbers → get_or numbers i 0 < length between → AreMarkedBy before between (take i numbers)
    → AreMarkedBy before (set between (get_or numbers i 0) true) (take (i + 1) numbers)
marked_next before between numbers i h within is = record {
  long = length-set between n true ∙ is.long;
  marked = λ v. subst (λ (list : List ℕ). Decides (get_or (set between n true) v false) (Contains list v ⊎ IsTrue (get_or before v false))) (sym (take_more numbers i 0 h)) (elim (cases_eq v n) [
    | inl e ↦ (
      λ _. inl (subst (λ (x : ℕ). Contains (take i numbers ++ n ∷ []) x) (sym e) (Contains-push (take i numbers) n)),
      λ _. subst (λ (x : ℕ). get_or (set between n true) x false ≡ true) (sym e) (get_or-set_same between n true false within),
    )
    | inr ne ↦ (
      λ m. elim ((is.marked v).0 (sym (get_or-set_other between n v true false ne) ∙ m)) [ inl c ↦ inl (Contains-append_left (take i numbers) (n ∷ []) v c) | inr b ↦ inr b ],
      λ k. get_or-set_other between n v true false ne ∙ (is.marked v).1 (elim k [
        | inl c ↦ elim (Contains-push_cases (take i numbers) n v c) [ inl t ↦ inl t | inr e ↦ absurd (ne (sym e)) ]
        | inr b ↦ inr b
      ]),
    )
  ]);
}
  where
    n : ℕ
    n = get_or numbers i 0

-- the marks that a slice of all of them was given
pub written : (before after : List Bool) (n : ℕ) → n ≡ length before → length after ≡ length before → take n (after ++ drop (length after) before) ≡ after
written before after n e long = take_at after (drop (length after) before) n (long ∙ sym e)

-- ---- entries

-- a function that is called at one of the first so many sites
pub record IsCalledBelow (calls : List (List ℕ)) (count v : ℕ) : Type 0 where
  pub site : ℕ
  pub below : site < count
  pub callee : Contains (edges calls site) v

-- the marks tell the start, and what the first so many sites call
pub record AreEntriesBelow (calls : List (List ℕ)) (start count : ℕ) (marks : List Bool) : Type 0 where
  pub long : length marks ≡ length calls
  pub exact : (v : ℕ) → Decides (get_or marks v false) ((v ≡ start) ⊎ IsCalledBelow calls count v)

pub entries_next : (calls : List (List ℕ)) (first i : ℕ) (before after : List Bool) → AreEntriesBelow calls first i before → AreMarkedBy before after (edges calls i)
    → AreEntriesBelow calls first (i + 1) after
entries_next calls first i before after is by = record {
  long = by.long ∙ is.long;
  exact = λ v. (λ m. there v ((by.marked v).0 m), λ k. (by.marked v).1 (back v k));
}
  where
    there : (v : ℕ) → (Contains (edges calls i) v ⊎ IsTrue (get_or before v false)) → (v ≡ first) ⊎ IsCalledBelow calls (i + 1) v
    there v (inl c) = inr (record { site = i; below = omega arith; callee = c })
    there v (inr m) = elim ((is.exact v).0 m) [
      | inl e ↦ inl e
      | inr c ↦ inr (record { site = c.site; below = omega (arith, c.below); callee = c.callee })
    ]

    back : (v : ℕ) → ((v ≡ first) ⊎ IsCalledBelow calls (i + 1) v) → Contains (edges calls i) v ⊎ IsTrue (get_or before v false)
    back v (inl e) = inr ((is.exact v).1 (inl e))
    back v (inr c) = elim (cases_lt c.site i) [
      | inl below ↦ inr ((is.exact v).1 (inr (record { site = c.site; below = below; callee = c.callee })))
      | inr past ↦ let e : c.site ≡ i = omega (arith, c.below) in inl (subst (λ (s : ℕ). Contains (edges calls s) v) e c.callee)
    ]

pub entries_end : (calls : List (List ℕ)) (first i : ℕ) (marks : List Bool) → length calls ≤ i → AreEntriesBelow calls first i marks → AreEntries calls first marks
entries_end calls first i marks whole is = record {
  count = is.long;
  exact = λ v. (λ m. there v ((is.exact v).0 m), λ k. (is.exact v).1 (back v k));
}
  where
    there : (v : ℕ) → ((v ≡ first) ⊎ IsCalledBelow calls i v) → IsEntryNumber calls first v
    there v (inl e) = subst (λ (x : ℕ). IsEntryNumber calls first x) (sym e) at_start
    there v (inr c) = called c.site c.callee

    back : (v : ℕ) → IsEntryNumber calls first v → (v ≡ first) ⊎ IsCalledBelow calls i v
    back v at_start = inl refl
    back v (called site {entry} c) =
        let within : site < length calls = within_there calls site v c in
        inr (record { site = site; below = omega arith; callee = c })

-- ---- the first of the marked sites that call a function

-- none of the first so many sites is marked and calls it
pub record NoneCalls (calls : List (List ℕ)) (entry : ℕ) (marks : List Bool) (count : ℕ) : Type 0 where
  pub none : (site : ℕ) → site < count → Contains (edges calls site) entry → IsTrue (get_or marks site false) → ⊥

-- ---- least numbers

module _ (P Q : ℕ → Type 0) where
  -- the least of what is the same
  least_like : (r : Option ℕ) → ((v : ℕ) → P v → Q v) → ((v : ℕ) → Q v → P v) → IsLeast P r → IsLeast Q r
  least_like None to from is = λ v q. is v (from v q)
  least_like (Some n) to from is = (to n is.0, λ v q. is.1 v (from v q))

  -- the lesser of two least numbers
  least_of_both : (a b r : Option ℕ) → IsLeast P a → IsLeast Q b → IsLeast (λ v. (a ≡ Some v) ⊎ (b ≡ Some v)) r → IsLeast (λ v. P v ⊎ Q v) r
  least_of_both None None None p q is = λ v h. elim h [ inl x ↦ p v x | inr y ↦ q v y ]
  least_of_both (Some n) b None p q is = absurd (is n (inl refl))
  least_of_both None (Some m) None p q is = absurd (is m (inr refl))
  least_of_both a b (Some r) p q is = (
    elim is.0 [ inl e ↦ inl (holds P a p e) | inr e ↦ inr (holds Q b q e) ],
    λ v h. elim h [
      | inl x ↦ below P a p (λ n e. is.1 n (inl e)) v x
      | inr y ↦ below Q b q (λ n e. is.1 n (inr e)) v y
    ],
  )
    where
      holds : (R : ℕ → Type 0) (o : Option ℕ) → IsLeast R o → {n : ℕ} → o ≡ Some n → R n
      holds R None least e = absurd (cc)
      holds R (Some m) least {n} e = let same : m ≡ n = cc in subst R same least.0

      below : (R : ℕ → Type 0) (o : Option ℕ) → IsLeast R o → ((n : ℕ) → o ≡ Some n → r ≤ n) → (v : ℕ) → R v → r ≤ v
      below R None least h v x = absurd (least v x)
      below R (Some m) least h v x = omega (arith, least.1 v x, h m refl)

-- ---- what instructions lead to

-- the lists of the first so many vertices
pub record AreLeadsBelow (ways calls leads : List (List ℕ)) (count : ℕ) : Type 0 where
  pub long : length leads ≡ count
  pub each : (v : ℕ) → v < count → edges leads v ≡ edges ways v ++ edges calls v

pub leads_end : (ways calls leads : List (List ℕ)) (i : ℕ) → length ways ≡ length calls → i ≡ length ways → AreLeadsBelow ways calls leads i → AreLeads ways calls leads
leads_end ways calls leads i same whole is = record {
  count = is.long ∙ whole;
  each = λ v. elim (cases_lt v i) [
    | inl below ↦ is.each v below
    | inr past ↦
        let no_ways : edges ways v ≡ [] = get_or_past ways v [] (omega arith) in
        let no_calls : edges calls v ≡ [] = get_or_past calls v [] (omega arith) in
        let none : edges leads v ≡ [] = get_or_past leads v [] (omega (arith, is.long)) in
        none ∙ (λ j. sym no_ways j ++ sym no_calls j)
  ];
}

-- the graph of all that instructions lead to
pub leads_graph : (ways calls leads : List (List ℕ)) → length ways ≡ length calls → IsGraph ways → IsGraph calls → AreLeads ways calls leads → IsGraph leads
leads_graph ways calls leads same by_ways by_calls is = record {
  within = λ u v h. elim (Contains-append_cases (edges ways u) (edges calls u) v (there_too (edges leads u) (edges ways u ++ edges calls u) v (is.each u) h)) [
    | inl w ↦ omega (arith, by_ways.within u v w, is.count)
    | inr c ↦ omega (arith, by_calls.within u v c, is.count)
  ];
}

-- ---- calls that lead back to themselves

-- one of the functions whose entries are the first so many numbers
pub record IsRecursiveBelow (ways calls : List (List ℕ)) (count site : ℕ) : Type 0 where
  pub entry : ℕ
  pub below : entry < count
  pub callee : Contains (edges calls site) entry
  pub path : Path (leads_of ways calls) [] entry site

-- the path by other edges that are the same
along : {f g : ℕ → List ℕ} → ((a b : ℕ) → Contains (f a) b → Contains (g a) b) → {a b : ℕ} → Path f [] a b → Path g [] a b
along same (here a free) = here a free
along same {a} (further {b = b} free edge rest) = further free (same a b edge) (along same rest)

module _ (ways calls : List (List ℕ)) where
  -- what is reached from an entry, and calls it
  reached_calls : (leads : List (List ℕ)) (marks : List Bool) (entry : ℕ) → AreLeads ways calls leads → AreReached leads [] (entry ∷ []) marks
      → (site : ℕ) → Decides (get_or marks site false) (Path (leads_of ways calls) [] entry site)
  reached_calls leads marks entry is reached site = (λ m. there ((reached.exact site).0 m), λ path. (reached.exact site).1 (back path))
    where
      there : IsReached leads [] (entry ∷ []) site → Path (leads_of ways calls) [] entry site
      there r = along (λ a b c. there_too (edges leads a) (leads_of ways calls a) b (is.each a) c) (subst (λ (x : ℕ). Path (edges leads) [] x site) (sym (the_one entry r.root r.listed)) r.path)

      back : Path (leads_of ways calls) [] entry site → IsReached leads [] (entry ∷ []) site
      back path = record {
        root = entry;
        listed = (0, omega arith, refl);
        path = along (λ a b c. there_too (leads_of ways calls a) (edges leads a) b (sym (is.each a)) c) path;
      }

  split : (i v : ℕ) → IsRecursiveBelow ways calls (i + 1) v → IsRecursiveBelow ways calls i v ⊎ (Contains (edges calls v) i × Path (leads_of ways calls) [] i v)
  split i v r = elim (cases_lt r.entry i) [
    | inl below ↦ inl (record { entry = r.entry; below = below; callee = r.callee; path = r.path })
    | inr past ↦
        let e : r.entry ≡ i = omega (arith, r.below) in
        inr (subst (λ (x : ℕ). Contains (edges calls v) x) e r.callee, subst (λ (x : ℕ). Path (leads_of ways calls) [] x v) e r.path)
  ]

  more : (i v : ℕ) → IsRecursiveBelow ways calls i v → IsRecursiveBelow ways calls (i + 1) v
  more i v r = record { entry = r.entry; below = omega (arith, r.below); callee = r.callee; path = r.path }

  -- the next number is an entry
  pub recursive_next : (leads : List (List ℕ)) (marks : List Bool) (i : ℕ) (a b r : Option ℕ) → AreLeads ways calls leads → AreReached leads [] (i ∷ []) marks
      → IsLeast (λ v. IsRecursiveBelow ways calls i v) a → IsLeast (λ v. Contains (edges calls v) i × IsTrue (get_or marks v false)) b
      → IsLeast (λ v. (a ≡ Some v) ⊎ (b ≡ Some v)) r → IsLeast (λ v. IsRecursiveBelow ways calls (i + 1) v) r
  recursive_next leads marks i a b r is reached least first lesser =
      let exact = reached_calls leads marks i is reached in
      least_like (λ v. IsRecursiveBelow ways calls i v ⊎ (Contains (edges calls v) i × IsTrue (get_or marks v false))) (λ v. IsRecursiveBelow ways calls (i + 1) v) r
      (λ v h. elim h [
        | inl x ↦ more i v x
        | inr y ↦ record { entry = i; below = omega arith; callee = y.0; path = (exact v).0 y.1 }
      ])
      (λ v h. elim (split i v h) [ inl x ↦ inl x | inr y ↦ inr (y.0, (exact v).1 y.1) ])
      (least_of_both (λ v. IsRecursiveBelow ways calls i v) (λ v. Contains (edges calls v) i × IsTrue (get_or marks v false)) a b r least first lesser)

  -- the next number is none
  pub recursive_past : (entries : List Bool) (i : ℕ) (r : Option ℕ) → AreMarkedCallees calls entries → get_or entries i false ≡ false
      → IsLeast (λ v. IsRecursiveBelow ways calls i v) r → IsLeast (λ v. IsRecursiveBelow ways calls (i + 1) v) r
  recursive_past entries i r covers none least =
      least_like (λ v. IsRecursiveBelow ways calls i v) (λ v. IsRecursiveBelow ways calls (i + 1) v) r (more i)
      (λ v h. elim (split i v h) [ inl x ↦ x | inr y ↦ absurd (false≢true (sym none ∙ covers.each v i y.0)) ]) least

  pub recursive_end : (i : ℕ) (r : Option ℕ) → IsGraph calls → length calls ≤ i → IsLeast (λ v. IsRecursiveBelow ways calls i v) r → IsLeast (λ v. IsRecursiveNumber ways calls v) r
  recursive_end i r graph whole least =
      least_like (λ v. IsRecursiveBelow ways calls i v) (λ v. IsRecursiveNumber ways calls v) r
      (λ v h. record { entry = h.entry; callee = h.callee; path = h.path })
      (λ v h. record { entry = h.entry; below = omega (arith, graph.within v h.entry h.callee); callee = h.callee; path = h.path })
      least
