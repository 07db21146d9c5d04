-- The back edges of all loops with a head at an address, of which each belongs to one loop, are within the bound of their total.
use Rattle.std.proofs.Common.{◌≡◌, ℕ, ◌+◌, ◌*◌, ◌≤◌, ◌++◌, ◌==◌, ◌&&◌, Bool, true, false, cond, List, [], ◌∷◌, slice_get, slice_index, refl, sym, ap, subst, ◌∙◌, inl, inr, arith}
use Rattle.std.specs.Prelude.{Contains, Option, Some, None, is_some, option_and_then}
use Rattle.std.specs.Option.{option_map_or}
use Rattle.std.proofs.lemmas.Bool.{eqb-true, eq-eqb, and_parts, false≢true}
use Rattle.std.proofs.lemmas.List.Elements.{All-contains, Contains-append_left, Contains-append_right, Contains-append_cases}
use Rattle.std.proofs.lemmas.Option.{same_Some}
use Rattle.flow_block.specs.declared.block.Block.{Block}
use Rattle.flow_graph.specs.declared.program.Program.{Program}
use Rattle.flow_ctx.specs.declared.unfolded.Edge.{Edge}
use Rattle.flow_ctx.specs.declared.unfolded.ULoop.{ULoop}
use Rattle.flow_ctx.specs.declared.unfolded.Unfolded.{Unfolded}
use Rattle.flow_ctx.specs.Nodes.{IsBlockOf}
use Rattle.flow_ctx.specs.Stays.{Takes}
use Rattle.flow_ctx.specs.Unfolding.{IsLoop, IsUnfolding}
use Rattle.ctx_laws.specs.Following.{AreAllBackTo, HasHeadAt}
use Rattle.wx_base.specs.Monitor.{is_one_of}
use Rattle.cert_rules.specs.Prices.{block_of, head_address, sum_places, totalcounts_at}
use Rattle.bound_laws.proofs.Sums.{all_places, bit, places_add, places_le, places_same, places_zero}
use Rattle.bound_laws.proofs.Walks.{taken_of}
use Rattle.bound_laws.proofs.Places.{Made, made, stands_in, in_front, in_rest, listed, at_most_one, rises}
use Rattle.bound_laws.proofs.Places.Made.{nothing, something}
use Rattle.bound_laws.proofs.Places.Stands.{first, other}
use Rattle.bound_laws.proofs.Stays.{among, bit_yes, takes}
use Rattle.bound_laws.proofs.Stays.Among.{present, missing}

pub block_is : (u : Unfolded) (number : ℕ) (block : Block) → IsBlockOf u number block → block_of u number ≡ Some block
block_is u number block is =
    ap (option_and_then (λ node. option_and_then (λ function. slice_get function.blocks node.block) (slice_get u.program.functions node.function))) is.stands
    ∙ ap (option_and_then (λ function. slice_get function.blocks is.node.block)) is.function_stands ∙ is.block_stands

module _ (program : Program) (u : Unfolded) (unfolds : IsUnfolding program u) where
  pub loop_of : (l : ULoop) → Contains u.loops l → IsLoop program u.nodes u.edges l
  loop_of l c = All-contains (λ m. IsLoop program u.nodes u.edges m) u.loops l unfolds.loops.each c

  head_block : (l : ULoop) (loop : IsLoop program u.nodes u.edges l) → IsBlockOf u l.head loop.head.block
  head_block l loop = record {
    node = loop.node;
    function = loop.head.function;
    stands = loop.stands;
    function_stands = ap (λ (p : Program). slice_get p.functions loop.node.function) unfolds.kept ∙ loop.head.is.function_stands;
    block_stands = loop.head.is.block_stands;
  }

  at_block : (l : ULoop) (block : Block) → IsBlockOf u l.head block → head_address u l ≡ block.start
  at_block l block is = ap (λ o. option_map_or (λ (b : Block). b.start) o 0) (block_is u l.head block is)

  has_head : (l : ULoop) (address : ℕ) → Contains u.loops l → head_address u l ≡ address → HasHeadAt u l address
  has_head l address c at =
      let loop = loop_of l c in
      record { block = loop.head.block; is = head_block l loop; start = sym (at_block l loop.head.block (head_block l loop)) ∙ at }

  module _ (address : ℕ) where
    -- the back edges of some loops with a head there
    pub backs : List ULoop → List ℕ
    backs [] = []
    backs (l ∷ ls) = cond (head_address u l == address) l.back [] ++ backs ls

    -- an edge is a back edge of one of some loops with a head there
    record IsBackIn (ls : List ULoop) (e : ℕ) : Type 0 where
      l : ULoop
      listed_in : Contains ls l
      at : head_address u l ≡ address
      back : Contains l.back e

    in_backs : (ls : List ULoop) (e : ℕ) (l : ULoop) → Contains ls l → head_address u l ≡ address → Contains l.back e → Contains (backs ls) e
    unfolding backs
    in_backs [] e l c at back = absurd (omega (arith, c.1))
    in_backs (m ∷ ls) e l c at back = elim (stands_in m ls l c) [
      | first same ↦
          let here : head_address u m ≡ address = ap (head_address u) same ∙ at in
          let its : Contains m.back e = subst (λ (x : ULoop). Contains x.back e) (sym same) back in
          Contains-append_left (cond (head_address u m == address) m.back []) (backs ls) e
          (subst (λ b. Contains (cond b m.back []) e) (sym (eq-eqb (head_address u m) address here)) its)
      | other d ↦ Contains-append_right (cond (head_address u m == address) m.back []) (backs ls) e (in_backs ls e l d at back)
    ]

    of_first : (m : ULoop) (ls : List ULoop) (e : ℕ) (b : Bool) → (head_address u m == address) ≡ b → Contains (cond b m.back []) e → IsBackIn (m ∷ ls) e
    of_first m ls e true is c = record { l = m; listed_in = in_front m ls; at = eqb-true (head_address u m) address is; back = c }
    of_first m ls e false is c = absurd (omega (arith, c.1))

    from_backs : (ls : List ULoop) (e : ℕ) → Contains (backs ls) e → IsBackIn ls e
    unfolding backs
    from_backs [] e c = absurd (omega (arith, c.1))
    from_backs (m ∷ ls) e c = elim (Contains-append_cases (cond (head_address u m == address) m.back []) (backs ls) e c) [
      | inl here ↦ of_first m ls e (head_address u m == address) refl here
      | inr rest ↦ let it = from_backs ls e rest in record { l = it.l; listed_in = in_rest m ls it.l it.listed_in; at = it.at; back = it.back }
    ]

    all_backs : AreAllBackTo u address (backs u.loops)
    all_backs = record {
      exact = λ e. (
        (λ c. let it = from_backs u.loops e c in record { l = it.l; listed = it.listed_in; head = has_head it.l address it.listed_in it.at; back = it.back }),
        (λ b. in_backs u.loops e b.l b.listed (at_block b.l b.head.block b.head.is ∙ b.head.start) b.back),
      );
    }

    -- a loop has a total, and its head is there
    abbrev pub counts_there : ULoop → Bool
    counts_there l = is_some l.totalcount && (head_address u l == address)

    -- ---- one edge

    module _ (e : ℕ) where
      abbrev counts_edge : ULoop → Bool
      counts_edge l = counts_there l && is_one_of l.back e

      one_head : (l m : ULoop) → Contains u.loops l → Contains u.loops m → Contains l.back e → Contains m.back e → l.head ≡ m.head
      one_head l m c d b k =
          let one = ((loop_of l c).back e).0 b in
          let two = ((loop_of m d).back e).0 k in
          sym one.into ∙ ap (λ (x : Edge). x.to) (same_Some one.edge two.edge (sym one.stands ∙ two.stands)) ∙ two.into

      product : (b c : Bool) → bit b * bit c ≡ bit (b && c)
      unfolding bit
      product true c = omega arith
      product false c = omega arith

      back_of : (l : ULoop) → is_one_of l.back e ≡ true → Contains l.back e
      back_of l t = elim (among l.back e) [
        | present is there ↦ there
        | missing is absent ↦ absurd (false≢true (sym is ∙ t))
      ]

      counted : (l : ULoop) → Contains u.loops l → counts_edge l ≡ true → Contains (backs u.loops) e
      counted l c t =
          let both = and_parts (counts_there l) (is_one_of l.back e) t in
          let parts = and_parts (is_some l.totalcount) (head_address u l == address) both.0 in
          in_backs u.loops e l c (eqb-true (head_address u l) address parts.1) (back_of l both.1)

      never : (b : Bool) → (b ≡ true → ⊥) → bit b ≤ 0
      unfolding bit
      never true k = absurd (k refl)
      never false k = omega arith

      edge_counts : sum_places (λ i l. bit (counts_edge l)) 0 u.loops ≤ bit (is_one_of (backs u.loops) e)
      edge_counts = elim (among (backs u.loops) e) [
        | present is there ↦
            let it = from_backs u.loops e there in
            let one = at_most_one (λ (l : ULoop). l.head) counts_edge it.l.head 0 u.loops
            (rises (λ (l : ULoop). l.head) counts_edge it.l.head u.loops unfolds.loops.ascending)
            (λ m c t. one_head m it.l c it.listed_in (back_of m (and_parts (counts_there m) (is_one_of m.back e) t).1) it.back) in
            let b = bit_yes (backs u.loops) e is in
            omega arith
        | missing is absent ↦
            let none = places_le (λ i l. bit (counts_edge l)) (λ i l. 0) 0 u.loops
            (all_places (λ i l. bit (counts_edge l) ≤ 0) u.loops (λ i l stands. never (counts_edge l) (λ t. absent (counted l (listed u.loops i l stands) t)))) in
            let zeros = places_zero {A = ULoop} (λ i l. 0) 0 u.loops (λ i l. refl) in
            omega arith
      ]

    -- ---- a walk

    abbrev pub taken_there : List ULoop → List ℕ → ℕ
    taken_there ls walk = sum_places (λ i l. bit (counts_there l) * taken_of l.back walk) 0 ls

    walk_counts : (walk : List ℕ) → taken_there u.loops walk ≤ taken_of (backs u.loops) walk
    walk_counts [] = let z = places_zero (λ i l. bit (counts_there l) * 0) 0 u.loops (λ i l. omega arith) in omega arith
    walk_counts (e ∷ walk) =
        let rest = walk_counts walk in
        let one = edge_counts e in
        let split = places_same (λ i l. bit (counts_there l) * (bit (is_one_of l.back e) + taken_of l.back walk))
        (λ i l. bit (counts_there l && is_one_of l.back e) + bit (counts_there l) * taken_of l.back walk) 0 u.loops
        (λ i l. let p = product e (counts_there l) (is_one_of l.back e) in omega arith) in
        let both = places_add (λ i l. bit (counts_there l && is_one_of l.back e)) (λ i l. bit (counts_there l) * taken_of l.back walk) 0 u.loops in
        omega arith

    -- ---- the bound

    module _ (walk : List ℕ)
        (most : (l : ULoop) (total : ℕ) (edges : List ℕ) (count : ℕ) → Contains u.loops l → HasHeadAt u l address → l.totalcount ≡ Some total
        → AreAllBackTo u address edges → Takes edges walk count → count ≤ total) where
      abbrev count_at : ULoop → Option ℕ
      count_at l = cond (head_address u l == address) l.totalcount None

      some_at : (l : ULoop) (b : Bool) (total : ℕ) → (head_address u l == address) ≡ b → cond b l.totalcount None ≡ Some total → (head_address u l ≡ address) × (l.totalcount ≡ Some total)
      some_at l true total is e = (eqb-true (head_address u l) address is, e)
      some_at l false total is e = cc

      no_count : (o : Option ℕ) (b : Bool) → cond b o None ≡ None → bit (is_some o && b) ≡ 0
      unfolding bit
      no_count None true e = refl
      no_count (Some n) true e = cc
      no_count None false e = refl
      no_count (Some n) false e = refl

      by_made : (counts : List ℕ) → Made count_at u.loops counts → taken_there u.loops walk ≤ slice_index counts 0
      by_made _ (nothing none) =
          let le = places_le (λ i l. bit (counts_there l) * taken_of l.back walk) (λ i l. 0) 0 u.loops
          (all_places (λ i l. bit (counts_there l) * taken_of l.back walk ≤ 0) u.loops
          (λ i l stands.
          let z = no_count l.totalcount (head_address u l == address) (none l (listed u.loops i l stands)) in
          let m = ap (λ n. n * taken_of l.back walk) z in omega arith)) in
          let zeros = places_zero {A = ULoop} (λ i l. 0) 0 u.loops (λ i l. refl) in
          omega arith
      by_made _ (something l total rest c e) =
          let at = some_at l (head_address u l == address) total refl e in
          let bound = most l total (backs u.loops) (taken_of (backs u.loops) walk) c (has_head l address c at.0) at.1 all_backs (takes (backs u.loops) walk) in
          let all = walk_counts walk in
          omega arith

      pub within_total : taken_there u.loops walk ≤ slice_index (totalcounts_at u address) 0
      within_total = by_made (totalcounts_at u address) (made count_at u.loops)
