-- The functions' entries by numbers and by addresses, and what leads where by ways and calls.
use Rattle.std.proofs.Common.{◌≡◌, ◌⊎◌, inl, inr, ℕ, zero, suc, ◌<◌, ◌≤◌, Bool, false, List, [], ◌∷◌, ◌++◌, length, refl, sym, ap, ◌∙◌, subst, arith}
use Rattle.std.proofs.Math.Path.{fun_ext}
use Rattle.std.proofs.lemmas.List.Elements.{Contains-append_left, Contains-append_right, Contains-append_cases}
use Rattle.std.specs.List.{Contains}
use Rattle.std.specs.Prelude.{slice_index, slice_index_or, IsTrue}
use Rattle.wx_base.specs.declared.facts.Facts.{Facts}
use Rattle.wx_base.specs.declared.image.Image.{Image}
use Rattle.wx_base.specs.declared.machine.Machine.{Machine}
use Rattle.wx_base.specs.Functions.{ways_at, callees_at, leads_at, IsEntry}
use Rattle.wx_base.specs.Paths.{Path}
use Rattle.arm_code.specs.declared.insn.Insn.{Insn}
use Rattle.graph_loops.specs.Graph.{edges, IsGraph}
use Rattle.flow_graph.specs.Listing.{IsListing, IsEntryNumber, AreMarkedCallees, IsStart, IsRecursiveNumber, leads_of}
use Rattle.flow_graph.specs.Listing.IsEntryNumber.{at_start, called}
use Rattle.flow_graph.specs.Numbers.{HasNumber, IsNumbering}
use Rattle.flow_graph.specs.declared.error.FlowError.TheVariants.{Recursion}
use Rattle.flow_graph.specs.Refusals.{IsRecursion, IsClean, IsFirst}
use Rattle.flow_graph.proofs.FirstLemmas.{first_recursion, clean_recursion}
use Rattle.flow_graph.proofs.NumberedLists.{place_at_most}
use Rattle.flow_graph.proofs.Numbered.{free_path_to, free_path_back}

-- the rows of two graphs put together
abbrev rows_of : List (List ℕ) → List (List ℕ) → List (List ℕ)
rows_of [] calls = []
rows_of (w ∷ ways) [] = w ∷ rows_of ways []
rows_of (w ∷ ways) (c ∷ calls) = (w ++ c) ∷ rows_of ways calls

rows_edge : (ways calls : List (List ℕ)) → length ways ≡ length calls → (v : ℕ) → edges (rows_of ways calls) v ≡ leads_of ways calls v
rows_edge [] [] e v = refl
rows_edge [] (c ∷ calls) e v = absurd (omega arith)
rows_edge (w ∷ ways) [] e v = absurd (omega arith)
rows_edge (w ∷ ways) (c ∷ calls) e zero = refl
rows_edge (w ∷ ways) (c ∷ calls) e (suc v) = rows_edge ways calls (omega arith) v

rows_count : (ways calls : List (List ℕ)) → length (rows_of ways calls) ≡ length ways
rows_count [] calls = refl
rows_count (w ∷ ways) [] = ap suc (rows_count ways [])
rows_count (w ∷ ways) (c ∷ calls) = ap suc (rows_count ways calls)

-- what has something is a row
row_within : (lists : List (List ℕ)) (v j : ℕ) → Contains (edges lists v) j → v < length lists
row_within [] v j c = absurd (omega (arith, c.1))
row_within (list ∷ lists) zero j c = omega arith
row_within (list ∷ lists) (suc v) j c = omega (arith, row_within lists v j c)

module _ {image : Image} {facts : Facts} {start : ℕ} {addresses : List ℕ} {insns : List Insn} {ways calls : List (List ℕ)} (is : IsListing image facts start addresses insns ways calls) where
  same_count : length ways ≡ length calls
  same_count = is.ways_are.count ∙ sym is.calls_are.count

  -- an element of a row is one of the ways or of the calls
  row_cases : (i j : ℕ) → Contains (edges (rows_of ways calls) i) j → Contains (edges ways i) j ⊎ Contains (edges calls i) j
  row_cases i j c = Contains-append_cases (edges ways i) (edges calls i) j (subst (λ row. Contains row j) (rows_edge ways calls same_count i) c)

  of_ways : (i j : ℕ) → Contains (edges ways i) j → Contains (edges (rows_of ways calls) i) j
  of_ways i j c = subst (λ row. Contains row j) (sym (rows_edge ways calls same_count i)) (Contains-append_left (edges ways i) (edges calls i) j c)

  of_calls : (i j : ℕ) → Contains (edges calls i) j → Contains (edges (rows_of ways calls) i) j
  of_calls i j c = subst (λ row. Contains row j) (sym (rows_edge ways calls same_count i)) (Contains-append_right (edges ways i) (edges calls i) j c)

  -- ways and calls together are numbered too
  leads_are : IsNumbering addresses (rows_of ways calls) (leads_at image facts)
  leads_are = record {
    ascending = is.ascending;
    count = rows_count ways calls ∙ is.ways_are.count;
    within = λ i j h c. elim (row_cases i j c) [ inl w ↦ is.ways_are.within i j h w | inr k ↦ is.calls_are.within i j h k ];
    sound = λ i j h c.
        let a = slice_index addresses i in
        let b = slice_index addresses j in
        elim (row_cases i j c) [
          | inl w ↦ Contains-append_left (ways_at image facts a) (callees_at image facts a) b (is.ways_are.sound i j h w)
          | inr k ↦ Contains-append_right (ways_at image facts a) (callees_at image facts a) b (is.calls_are.sound i j h k)
        ];
    whole = λ i b h c.
        let a = slice_index addresses i in
        elim (Contains-append_cases (ways_at image facts a) (callees_at image facts a) b c) [
          | inl w ↦ let n = is.ways_are.whole i b h w in record { number = n.number; within = n.within; is = n.is; holds = of_ways i n.number n.holds }
          | inr k ↦ let n = is.calls_are.whole i b h k in record { number = n.number; within = n.within; is = n.is; holds = of_calls i n.number n.holds }
        ];
  }

  edges_are : edges (rows_of ways calls) ≡ leads_of ways calls
  edges_are = fun_ext λ v. rows_edge ways calls same_count v

  -- a number that is reached from itself through a call stands for a recursive call
  pub recursion_to : (site : ℕ) → site < length addresses → IsRecursiveNumber ways calls site → IsRecursion image facts start (slice_index addresses site)
  recursion_to site h r =
      let entry_within = is.calls_are.within site r.entry h r.callee in
      record {
        reached = is.reached site h;
        recursive = record {
          entry = slice_index addresses r.entry;
          callee = is.calls_are.sound site r.entry h r.callee;
          path = free_path_to leads_are entry_within (subst (λ leads. Path leads [] r.entry site) (sym edges_are) r.path);
        };
      }

  pub recursion_from : (b : ℕ) → IsRecursion image facts start b → HasNumber addresses (IsRecursiveNumber ways calls) b
  recursion_from b r =
      let p = is.whole b r.reached in
      let site = p.0 in
      let within = p.1.within in
      let same : b ≡ slice_index addresses site = sym p.1.stands in
      let n = is.calls_are.whole site r.recursive.entry within (subst (λ x. Contains (callees_at image facts x) r.recursive.entry) same r.recursive.callee) in
      let path = subst (λ x. Path (leads_at image facts) [] x (slice_index addresses site)) n.is (subst (λ x. Path (leads_at image facts) [] r.recursive.entry x) same r.recursive.path) in
      record {
        number = site;
        within = within;
        is = same;
        holds = record {
          entry = n.number;
          callee = n.holds;
          path = subst (λ leads. Path leads [] n.number site) edges_are (free_path_back leads_are n.number site n.within within path);
        };
      }

  -- calls by numbers are a graph
  pub calls_graph : IsGraph calls
  calls_graph = record { within = λ i j c. omega (arith, is.calls_are.within i j (omega (arith, row_within calls i j c, is.calls_are.count)) c, is.calls_are.count) }

  -- the least number of a recursive call stands for the refusal that is due
  pub recursion_first : (machine : Machine) (site : ℕ) → site < length addresses → IsClean image facts start machine 4 → IsRecursiveNumber ways calls site
      → ((v : ℕ) → IsRecursiveNumber ways calls v → site ≤ v) → IsFirst image facts start machine (Recursion (slice_index addresses site))
  recursion_first machine site h clean r least =
      first_recursion image facts start machine (slice_index addresses site) clean (recursion_to site h r) λ b other.
      let n = recursion_from b other in
      omega (arith, n.is, place_at_most addresses is.ascending site n.number (least n.number n.holds) n.within)

  -- and where there is none, no call is recursive
  pub recursion_clean : (machine : Machine) → IsClean image facts start machine 4 → ((v : ℕ) → IsRecursiveNumber ways calls v → ⊥) → IsClean image facts start machine 5
  recursion_clean machine clean none = clean_recursion image facts start machine clean λ b other. let n = recursion_from b other in none n.number n.holds

  -- a recursive call is one of those listed
  pub recursive_within : (site : ℕ) → IsRecursiveNumber ways calls site → site < length addresses
  recursive_within site r = omega (arith, row_within calls site r.entry r.callee, is.calls_are.count)

  -- entries by numbers are entries of functions
  entry_number_to : (number v : ℕ) → slice_index addresses number ≡ start → v < length addresses → IsEntryNumber calls number v → IsEntry image facts start (slice_index addresses v)
  entry_number_to number v e h at_start = inl e
  entry_number_to number v e h (called site c) =
      let within : site < length addresses = omega (arith, row_within calls site v c, is.calls_are.count) in
      inr (record { site = slice_index addresses site; reached = is.reached site within; callee = is.calls_are.sound site v within c })

  entry_number_from : (number b : ℕ) → number < length addresses → slice_index addresses number ≡ start → IsEntry image facts start b → HasNumber addresses (IsEntryNumber calls number) b
  entry_number_from number b h e (inl same) = record { number = number; within = h; is = same ∙ sym e; holds = at_start }
  entry_number_from number b h e (inr c) =
      let p = is.whole c.site c.reached in
      let site = p.0 in
      let n = is.calls_are.whole site b p.1.within (subst (λ x. Contains (callees_at image facts x) b) (sym p.1.stands) c.callee) in
      record { number = n.number; within = n.within; is = n.is; holds = called site n.holds }

  module _ {marks : List Bool} (begins : IsStart addresses calls start marks) where
    -- a mark stands for an entry
    pub entry_to : (v : ℕ) → v < length addresses → IsTrue (slice_index_or marks v false) → IsEntry image facts start (slice_index addresses v)
    entry_to v h m = entry_number_to begins.number v begins.place.stands h ((begins.entries.exact v).0 m)

    pub entry_from : (b : ℕ) → IsEntry image facts start b → HasNumber addresses (λ v. IsTrue (slice_index_or marks v false)) b
    entry_from b entry =
        let n = entry_number_from begins.number b begins.place.within begins.place.stands entry in
        record { number = n.number; within = n.within; is = n.is; holds = (begins.entries.exact n.number).1 n.holds }

    -- a marked number is one of the addresses'
    pub marked_within : (v : ℕ) → IsTrue (slice_index_or marks v false) → v < length addresses
    marked_within v m = number_within begins.number v begins.place.within ((begins.entries.exact v).0 m)
      where
        number_within : (number v : ℕ) → number < length addresses → IsEntryNumber calls number v → v < length addresses
        number_within number v h at_start = h
        number_within number v h (called site c) = is.calls_are.within site v (omega (arith, row_within calls site v c, is.calls_are.count)) c

    -- all that are called are marked
    pub callees_marked : AreMarkedCallees calls marks
    callees_marked = record { count = begins.entries.count; each = λ site v c. (begins.entries.exact v).1 (called site c) }
