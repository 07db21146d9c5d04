-- A function of an image, from its outline by numbers.
use Rattle.std.proofs.Common.{◌≡◌, ℕ, ◌+◌, ◌<◌, Bool, List, [], ◌∷◌, ◌++◌, length, get_or, map, take, Some, refl, sym, ap, subst, ◌∙◌, inl, inr, arith}
use Rattle.std.proofs.Math.ListN.{get_or-append}
use Rattle.std.proofs.lemmas.Bool.{cases_lt}
use Rattle.std.proofs.lemmas.Grind.{common_steps}
use Rattle.std.proofs.lemmas.List.{ext_get_or, get_or-map, get_or_default, get_or_push, length-map, map_push, take_more}
use Rattle.std.proofs.lemmas.List.Elements.{All-map, All-push, Contains-get_or}
use Rattle.std.proofs.lemmas.Option.{slice_get_within, slice_get-get_or, get_or_from_slice_get}
use Rattle.std.specs.List.{All, Contains, slice_get}
use Rattle.std.specs.Prelude.{slice_index}
use Rattle.arm_code.specs.declared.insn.Insn.{Insn}
use Rattle.wx_base.specs.declared.facts.Facts.{Facts}
use Rattle.wx_base.specs.declared.image.Image.{Image}
use Rattle.wx_base.specs.declared.machine.Machine.{Machine}
use Rattle.wx_base.specs.Functions.{ways_at, IsLoop, AreLoops}
use Rattle.wx_base.specs.Paths.{IsHead, IsMember, Path}
use Rattle.graph_loops.specs.Graph.{edges, AreReached}
use Rattle.graph_loops.specs.Loops as graph
use Rattle.graph_loops.specs.declared.loops.Loop.{Loop}
use Rattle.flow_graph.specs.declared.outline.Outline.{Outline}
use Rattle.flow_graph.specs.declared.program.Function.{Function}
use Rattle.flow_graph.specs.declared.program.LoopInfo.{LoopInfo}
use Rattle.flow_block.specs.Code.{IsCode}
use Rattle.flow_graph.specs.Listing.{IsListing}
use Rattle.flow_graph.specs.Numbers.{IsNumbering}
use Rattle.flow_graph.specs.Outlines.{IsOutline, IsFunction, IsLoopInfo, AreLoopInfos, AreFunctionsOf}
use Rattle.flow_graph.specs.Program.{bounded_loop}
use Rattle.flow_graph.proofs.Numbered.{free_path_to, free_path_from}
use Rattle.flow_graph.proofs.NumberedLists.{AreJust, any_with_key, pairs_mapped}
use Rattle.flow_graph.proofs.NumberedLoops.{head_within, member_within}
use Rattle.flow_graph.proofs.NumberedImage.{loop_to, loops_to}

-- ---- loops with their addresses, one after the other

slice_get_before : {X : Type 0} (xs : List X) (y : X) (i : ℕ) (x : X) → i < length xs → slice_get (xs ++ y ∷ []) i ≡ Some x → slice_get xs i ≡ Some x
slice_get_before xs y i x within e = slice_get-get_or xs i x within ∙ ap Some (sym (get_or-append xs (y ∷ []) x i within) ∙ get_or_from_slice_get (xs ++ y ∷ []) i x x e)

slice_get_last : {X : Type 0} (xs : List X) (y : X) (i : ℕ) (x : X) → length xs ≡ i → slice_get (xs ++ y ∷ []) i ≡ Some x → y ≡ x
slice_get_last xs y i x last e = sym (get_or_push xs y x i last) ∙ get_or_from_slice_get (xs ++ y ∷ []) i x x e

module _ (facts : Facts) (addresses : List ℕ) where
  infos_pushed : (loops : List Loop) (infos : List LoopInfo) (l : Loop) (info : LoopInfo) → AreLoopInfos facts addresses loops infos → IsLoopInfo facts addresses l info
      → AreLoopInfos facts addresses (loops ++ l ∷ []) (infos ++ info ∷ [])
  infos_pushed loops infos l info so_far one = record {
    count = let e = so_far.count in grind (arith, common_steps);
    each = λ i m found at_m at_found. elim (cases_lt i (length loops)) [
      | inl low ↦ so_far.each i m found (slice_get_before loops l i m low at_m) (slice_get_before infos info i found (omega (arith, so_far.count)) at_found)
      | inr high ↦
          let within : i < length (loops ++ l ∷ []) = slice_get_within (loops ++ l ∷ []) i m at_m in
          let long : length (loops ++ l ∷ []) ≡ length loops + 1 = grind (arith, common_steps) in
          let last : length loops ≡ i = omega arith in
          let same_loop : l ≡ m = slice_get_last loops l i m last at_m in
          let same_info : info ≡ found = slice_get_last infos info i found (so_far.count ∙ last) at_found in
          subst (λ (x : Loop). IsLoopInfo facts addresses x found) same_loop (subst (λ (x : LoopInfo). IsLoopInfo facts addresses l x) same_info one)
    ];
  }

  pub infos_more : (loops : List Loop) (infos : List LoopInfo) (i : ℕ) (l : Loop) (info : LoopInfo) → i < length loops → l ≡ get_or loops i l
      → AreLoopInfos facts addresses (take i loops) infos → IsLoopInfo facts addresses l info → AreLoopInfos facts addresses (take (i + 1) loops) (infos ++ info ∷ [])
  infos_more loops infos i l info within is so_far one =
      subst (λ (ls : List Loop). AreLoopInfos facts addresses ls (infos ++ info ∷ [])) (sym (take_more loops i l within ∙ ap (λ (x : Loop). take i loops ++ x ∷ []) (sym is)))
      (infos_pushed (take i loops) infos l info so_far one)

-- an element that stands at a place
element_at : {X : Type 0} (xs : List X) (k : ℕ) → k < length xs → (x : X) × (get_or xs k x ≡ x)
element_at [] k within = absurd (omega arith)
element_at (x ∷ xs) k within = let y = get_or (x ∷ xs) k x in (y, get_or_default (x ∷ xs) k y x within)

-- the loop of which something is told at a place
record Told (facts : Facts) (addresses : List ℕ) (loops : List Loop) (k : ℕ) (info : LoopInfo) : Type 0 where
  loop : Loop
  within : k < length loops
  at : get_or loops k loop ≡ loop
  is : IsLoopInfo facts addresses loop info

told : {facts : Facts} {addresses : List ℕ} {loops : List Loop} {infos : List LoopInfo} → AreLoopInfos facts addresses loops infos → (k : ℕ) (d : LoopInfo) → k < length infos
    → Told facts addresses loops k (get_or infos k d)
told {loops = loops} {infos = infos} are k d h =
    let within : k < length loops = omega (arith, are.count) in
    let x = element_at loops k within in
    record {
      loop = x.0;
      within = within;
      at = x.1;
      is = are.each k x.0 (get_or infos k d) (slice_get-get_or loops k x.0 within ∙ ap Some x.1) (slice_get-get_or infos k d h);
    }

-- ---- the loops of a function

loops_just : (ways : List (List ℕ)) (e : ℕ) (loops : List Loop) → graph.AreLoops ways e loops → AreJust (IsHead (edges ways) e) (map (λ l. l.head) loops)
loops_just ways e loops are = record {
  ascending = pairs_mapped (λ h k. h < k) (λ (l : Loop). l.head) loops are.ascending;
  sound = λ v c.
      let a = any_with_key (λ (l : Loop). l.head) loops v c in
      subst (λ (h : ℕ). IsHead (edges ways) e h) (ap (λ (l : Loop). l.head) a.3 ∙ a.4) (are.each a.0 a.1 a.2).head;
  whole = λ v head.
      let a = are.whole v head in
      (a.0, omega (arith, a.2, length-map loops (λ (l : Loop). l.head)), get_or-map (λ (l : Loop). l.head) loops a.0 a.1 v a.2 ∙ ap (λ (l : Loop). l.head) a.3 ∙ a.4);
}

module _ {addresses : List ℕ} {ways : List (List ℕ)} {leads : ℕ → List ℕ} (is : IsNumbering addresses ways leads) (e : ℕ) (he : e < length addresses) where
  -- the numbers of loops are numbers of addresses
  pub heads_within : (loops : List Loop) → graph.AreLoops ways e loops → All (λ l. l.head < length addresses) loops
  heads_within loops are k d within = head_within is he (are.each k d within).head

  pub members_within : (loops : List Loop) → graph.AreLoops ways e loops → All (λ l. All (λ a. a < length addresses) l.members) loops
  members_within loops are k d within i a inside =
      let l = get_or loops k d in
      let one = are.each k d within in
      member_within is e l.head (get_or l.members i a) he (head_within is he one.head) ((one.exact (get_or l.members i a)).0 (Contains-get_or l.members i a inside))

same_heads : (facts : Facts) (addresses : List ℕ) (loops : List Loop) (infos : List LoopInfo) → AreLoopInfos facts addresses loops infos
    → map (λ b. b.head) (map bounded_loop infos) ≡ map (slice_index addresses) (map (λ l. l.head) loops)
same_heads facts addresses loops infos are = ext_get_or 0 (map (λ b. b.head) (map bounded_loop infos)) (map (slice_index addresses) (map (λ l. l.head) loops))
    (length-map (map bounded_loop infos) (λ b. b.head) ∙ length-map infos bounded_loop ∙ are.count ∙ sym (length-map loops (λ l. l.head)) ∙ sym (length-map (map (λ l. l.head) loops) (slice_index addresses)))
    (λ i h.
    let in_bounded : i < length (map bounded_loop infos) = omega (arith, h, length-map (map bounded_loop infos) (λ b. b.head)) in
    let in_infos : i < length infos = omega (arith, length-map infos bounded_loop) in
    let x = element_at infos i in_infos in
    let t = told are i x.0 in_infos in
    let in_heads : i < length (map (λ l. l.head) loops) = omega (arith, t.within, length-map loops (λ l. l.head)) in
    get_or-map (λ b. b.head) (map bounded_loop infos) i (bounded_loop x.0) 0 in_bounded
    ∙ ap (λ b. b.head) (get_or-map bounded_loop infos i x.0 (bounded_loop x.0) in_infos)
    ∙ t.is.head
    ∙ ap (λ (l : Loop). slice_index addresses l.head) (sym t.at)
    ∙ ap (slice_index addresses) (sym (get_or-map (λ l. l.head) loops i t.loop 0 t.within))
    ∙ sym (get_or-map (slice_index addresses) (map (λ l. l.head) loops) i 0 0 in_heads))

module _ {image : Image} {facts : Facts} {addresses : List ℕ} {ways : List (List ℕ)} (is : IsNumbering addresses ways (ways_at image facts)) where
  one_loop : (e : ℕ) → e < length addresses → (l : Loop) (info : LoopInfo) → graph.IsLoop ways e l → IsLoopInfo facts addresses l info
      → IsLoop image facts (slice_index addresses e) (bounded_loop info)
  one_loop e he l info one is_info =
      let just : AreJust (IsMember (edges ways) e l.head) l.members = record { ascending = one.ascending; sound = λ a c. (one.exact a).0 c; whole = λ a m. (one.exact a).1 m } in
      loop_to is e l.head l.members (bounded_loop info) he one.head just is_info.head is_info.members is_info.bounds

  -- the loops of an outline with their addresses and bounds are the loops of the function
  pub function_loops : (o : Outline) (infos : List LoopInfo) → o.entry < length addresses → IsOutline ways o → AreLoopInfos facts addresses o.structure.loops infos
      → AreLoops image facts (slice_index addresses o.entry) (map bounded_loop infos)
  function_loops o infos he outline are =
      let e = o.entry in
      let loops = o.structure.loops in
      loops_to is e (map (λ l. l.head) loops) (map bounded_loop infos) he (loops_just ways e loops outline.loops) (same_heads facts addresses loops infos are)
      (All-map (λ b. IsLoop image facts (slice_index addresses e) b) bounded_loop infos (λ k d h.
      let t = told are k d h in
      one_loop e he t.loop (get_or infos k d) (subst (λ (l : Loop). graph.IsLoop ways e l) t.at (outline.loops.each k t.loop t.within)) t.is))

-- ---- what is marked by a walk from an entry

the_one : (u v : ℕ) → Contains (u ∷ []) v → u ≡ v
the_one u v h = let e : h.0 ≡ 0 = omega (arith, h.1) in subst (λ (k : ℕ). get_or (u ∷ []) k v ≡ v) e h.2

-- the marks of what is reached from an entry, with the instructions listed, are the code of its function
pub function_code : {image : Image} {facts : Facts} {start : ℕ} {addresses : List ℕ} {insns : List Insn} {ways calls : List (List ℕ)} (e : ℕ) (body : List Bool)
    → IsListing image facts start addresses insns ways calls → e < length addresses → AreReached ways [] (e ∷ []) body
    → IsCode (record { image = image; facts = facts; entry = slice_index addresses e }) addresses insns body
function_code {addresses = addresses} {ways = ways} e body is he reached = record {
  ascending = is.ascending;
  small = is.small;
  insn_each = is.insn_each;
  mark_each = reached.count ∙ is.ways_are.count;
  each = is.each;
  own = λ place within mark.
      let r = (reached.exact place).0 mark in
      let path = subst (λ (x : ℕ). Path (edges ways) [] x place) (sym (the_one e r.root r.listed)) r.path in
      free_path_to is.ways_are he path;
  whole = λ address path.
      let n = free_path_from is.ways_are e he path in
      (n.number, record { within = n.within; stands = sym n.is }, (reached.exact n.number).1 (record { root = e; listed = (0, omega arith, refl); path = n.holds }));
}

-- ---- functions, one after the other

module _ (image : Image) (facts : Facts) (machine : Machine) (addresses : List ℕ) where
  functions_pushed : (outlines : List Outline) (functions : List Function) (o : Outline) (f : Function) → AreFunctionsOf image facts machine addresses outlines functions
      → IsFunction image facts machine (slice_index addresses o.entry) f → AreFunctionsOf image facts machine addresses (outlines ++ o ∷ []) (functions ++ f ∷ [])
  functions_pushed outlines functions o f so_far is = record {
    entries =
        map_push (λ (g : Function). g.entry) functions f
        ∙ ap (λ (xs : List ℕ). xs ++ f.entry ∷ []) so_far.entries
        ∙ ap (λ (x : ℕ). map (λ (p : Outline). slice_index addresses p.entry) outlines ++ x ∷ []) is.begins
        ∙ sym (map_push (λ (p : Outline). slice_index addresses p.entry) outlines o);
    each = All-push (λ g. IsFunction image facts machine g.entry g) functions f so_far.each (record { begins = refl; blocks = is.blocks; loops = is.loops });
  }

  pub functions_more : (outlines : List Outline) (functions : List Function) (i : ℕ) (o : Outline) (f : Function) → i < length outlines → o ≡ get_or outlines i o
      → AreFunctionsOf image facts machine addresses (take i outlines) functions → IsFunction image facts machine (slice_index addresses o.entry) f
      → AreFunctionsOf image facts machine addresses (take (i + 1) outlines) (functions ++ f ∷ [])
  functions_more outlines functions i o f within same so_far is =
      subst (λ (os : List Outline). AreFunctionsOf image facts machine addresses os (functions ++ f ∷ [])) (sym (take_more outlines i o within ∙ ap (λ (x : Outline). take i outlines ++ x ∷ []) (sym same)))
      (functions_pushed (take i outlines) functions o f so_far is)
