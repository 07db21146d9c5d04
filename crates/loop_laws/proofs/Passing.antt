-- What a walk over an unfolding passes in the function of one chain of calls: the instructions of the blocks with that chain, one
-- behind the other along ways. While nodes of longer chains are visited it waits behind the call that leads to them.
use Rattle.std.proofs.Common.{◌≡◌, ℕ, zero, suc, ◌<◌, ◌≤◌, Bool, true, false, cond, List, [], ◌∷◌, ◌++◌, length, slice_get, refl, sym, ap, subst, ◌∙◌, inl, inr, arith, length-append, append_assoc}
use Rattle.std.specs.Prelude.{Contains, Some, None}
use Rattle.std.proofs.lemmas.Bool.{cases_eq}
use Rattle.std.proofs.lemmas.List.Elements.{Contains-append_cases, Contains-append_left, Contains-append_right}
use Rattle.std.proofs.lemmas.Option.{none-some, same_Some}
use Rattle.wx_base.specs.declared.facts.Facts.{Facts}
use Rattle.wx_base.specs.declared.image.Image.{Image}
use Rattle.wx_base.specs.declared.machine.Machine.{Machine}
use Rattle.wx_base.specs.Functions.{ways_at, IsEntry}
use Rattle.wx_base.specs.Paths.{IsHead}
use Rattle.flow_block.specs.declared.block.Block.{Block}
use Rattle.flow_block.specs.Blocks.{IsBlock, last_of_block}
use Rattle.flow_block.specs.Sites.{behind, goes_past_at}
use Rattle.flow_graph.specs.declared.program.Function.{Function}
use Rattle.flow_graph.specs.declared.program.Program.{Program}
use Rattle.flow_graph.specs.Program.{IsProgram}
use Rattle.run_laws.specs.Reached.{LeadsToInstructions}
use Rattle.flow_laws.specs.Programs.{EndsInMemory, HeadsBeginBlocks}
use Rattle.flow_ctx.specs.declared.unfolded.Call.{Call}
use Rattle.flow_ctx.specs.declared.unfolded.UNode.{UNode}
use Rattle.flow_ctx.specs.declared.unfolded.Unfolded.{Unfolded}
use Rattle.flow_ctx.specs.Nodes.{BeginsAt, IsBlockAt, Leads, entry_after, last_address}
use Rattle.flow_ctx.specs.Nodes.Leads.{next, jump, call, ret}
use Rattle.loop_laws.proofs.Lists.{AreFronts, are_fronts, is_the_one, one_element, the_one}
use Rattle.loop_laws.proofs.Lists.AreFronts.{same, longer, shorter}
use Rattle.loop_laws.proofs.Nodes.{block_is, same_block}
use Rattle.loop_laws.proofs.BlockWays.{along, call_way, first_place, jump_way, past_way}

-- ---- ways one behind the other

-- a way from one vertex to another, by the vertices that it leaves
pub data Way (leads : ℕ → List ℕ) : ℕ → List ℕ → ℕ → Type 0 where
  none : (a : ℕ) → Way leads a [] a
  more : (a b c : ℕ) (passed : List ℕ) → Contains (leads a) b → Way leads b passed c → Way leads a (a ∷ passed) c

way_on : (leads : ℕ → List ℕ) (a c d : ℕ) (passed : List ℕ) → Way leads a passed c → Contains (leads c) d → Way leads a (passed ++ c ∷ []) d
way_on leads a c d passed (none _) e = more a d d [] e (none d)
way_on leads a c d passed (more _ b _ rest f way) e = more a b d (rest ++ c ∷ []) f (way_on leads b c d rest way e)

-- the block behind one is what is left where the last instruction may be passed
next_is : (b : Bool) (to address : ℕ) → cond b (Some to) None ≡ Some address → (b ≡ true) × (address ≡ to)
next_is true to address e = (refl, sym (same_Some to address e))
next_is false to address e = absurd (none-some address e)

-- the last instruction of a block stands at one of its places
record IsPlaceOf (start count : ℕ) : Type 0 where
  place : ℕ
  last : suc place ≡ count
  is : last_of_block start count ≡ behind start place

last_place : (start count : ℕ) → 0 < count → IsPlaceOf start count
last_place start zero h = absurd (omega arith)
last_place start (suc n) h = record { place = n; last = refl; is = refl }

behind_last : (start place : ℕ) → behind (behind start place) 1 ≡ behind start (suc place)
behind_last start place = omega arith

module _ (image : Image) (facts : Facts) (first : ℕ) (machine : Machine) (program : Program) (built : IsProgram image facts first machine program)
    (heads : HeadsBeginBlocks) (ends : EndsInMemory image) (led : LeadsToInstructions image facts first) (u : Unfolded)
    (chain : List Call) (entry : ℕ) (is_entry : IsEntry image facts first entry) (entry_is : entry ≡ entry_after program.start chain) where
  abbrev leads : ℕ → List ℕ
  leads = ways_at image facts

  -- a node of the chain whose block begins at an address
  pub record HasNode (address : ℕ) : Type 0 where
    pub number : ℕ
    pub node : UNode
    pub function : Function
    pub block : Block
    pub stands : slice_get u.nodes number ≡ Some node
    pub is : IsBlockAt program node function block
    pub chain_is : node.chain ≡ chain
    pub start : block.start ≡ address

  -- what was passed so far; each head among it is the beginning of some node's block
  pub record Going (from to : ℕ) : Type 0 where
    pub passed : List ℕ
    pub way : Way leads from passed to
    pub good : (a : ℕ) → Contains passed a → IsHead leads entry a → HasNode a

  -- the same, where the address that was come to is written in another way
  abbrev pub moved : (from : ℕ) {a b : ℕ} → Going from a → a ≡ b → Going from b
  moved from g e = record { passed = g.passed; way = subst (λ (to : ℕ). Way leads from g.passed to) e g.way; good = g.good }

  record GoesOn (from a b : ℕ) (g : Going from a) : Type 0 where
    on : Going from b
    keeps : (x : ℕ) → Contains g.passed x → Contains on.passed x
    has : Contains on.passed a

  go_on : (from a b : ℕ) (g : Going from a) → Contains (leads a) b → (IsHead leads entry a → HasNode a) → GoesOn from a b g
  go_on from a b g e good = record {
    on = record {
      passed = g.passed ++ a ∷ [];
      way = way_on leads from a b g.passed g.way e;
      good = λ x h. elim (Contains-append_cases g.passed (a ∷ []) x h) [
        | inl k ↦ g.good x k
        | inr k ↦ subst (λ (y : ℕ). IsHead leads entry y → HasNode y) (the_one a x k) good
      ];
    };
    keeps = λ x h. Contains-append_left g.passed (a ∷ []) x h;
    has = Contains-append_right g.passed (a ∷ []) a (is_the_one a);
  }

  -- ---- along a block

  module _ (b : Block) (block : IsBlock image facts machine entry b) (node : HasNode b.start) where
    abbrev count : ℕ
    count = length b.insns

    zero_is : behind b.start zero ≡ b.start
    zero_is = first_place image facts first led ends entry is_entry machine block.begins

    -- no instruction but the first is a head
    good_place : (k : ℕ) → k < count → IsHead leads entry (behind b.start k) → HasNode (behind b.start k)
    good_place zero less h = subst (λ (a : ℕ). HasNode a) (sym zero_is) node
    good_place (suc k) less h = absurd (block.count.unentered (suc k) (omega arith) less (heads image facts entry (behind b.start (suc k)) ends h))

    record Through (from k : ℕ) (g : Going from b.start) : Type 0 where
      on : Going from (behind b.start k)
      keeps : (x : ℕ) → Contains g.passed x → Contains on.passed x
      start : 0 < k → Contains on.passed b.start

    through : (from k : ℕ) (g : Going from b.start) → k < count → Through from k g
    through from zero g less = record { on = moved from g (sym zero_is); keeps = λ x h. h; start = λ h. absurd (omega (arith, h)) }
    through from (suc k) g less =
        let before = through from k g (omega (arith, less)) in
        let step = go_on from (behind b.start k) (behind b.start (suc k)) before.on
        (along image facts first led ends entry is_entry machine count block.begins block.count k less) (good_place k (omega (arith, less))) in
        record {
          on = step.on;
          keeps = λ x h. step.keeps x (before.keeps x h);
          start = λ h. elim (cases_eq k 0) [
            | inl e ↦ subst (λ (a : ℕ). Contains step.on.passed a) (ap (behind b.start) e ∙ zero_is) step.has
            | inr apart ↦ step.keeps b.start (before.start (omega (arith, apart)))
          ];
        }

    -- the whole block, and then where its last instruction leads
    pub record Left (from to : ℕ) (g : Going from b.start) : Type 0 where
      pub on : Going from to
      pub keeps : (x : ℕ) → Contains g.passed x → Contains on.passed x
      pub start : Contains on.passed b.start
      pub last : Contains on.passed (last_address b)

    pub leave : (from to : ℕ) (g : Going from b.start) → Contains (leads (last_address b)) to → Left from to g
    leave from to g way =
        let last = last_place b.start count block.count.some in
        let less : last.place < count = omega (arith, last.last) in
        let before = through from last.place g less in
        let step = go_on from (behind b.start last.place) to before.on (subst (λ (a : ℕ). Contains (leads a) to) last.is way) (good_place last.place less) in
        record {
          on = step.on;
          keeps = λ x h. step.keeps x (before.keeps x h);
          start = elim (cases_eq last.place 0) [
            | inl e ↦ subst (λ (a : ℕ). Contains step.on.passed a) (ap (behind b.start) e ∙ zero_is) step.has
            | inr apart ↦ step.keeps b.start (before.start (omega (arith, apart)))
          ];
          last = subst (λ (a : ℕ). Contains step.on.passed a) (sym last.is) step.has;
        }

    pub way_next : (address : ℕ) → b.next ≡ Some address → Contains (leads (last_address b)) address
    way_next address e =
        let is = next_is (goes_past_at image (last_address b)) (behind b.start count) address (sym block.next ∙ e) in
        let last = last_place b.start count block.count.some in
        let place : behind (last_address b) 1 ≡ behind b.start count = ap (λ a. behind a 1) last.is ∙ behind_last b.start last.place ∙ ap (behind b.start) last.last in
        subst (λ (a : ℕ). Contains (leads (last_address b)) a) (place ∙ sym is.1) (past_way image facts (last_address b) is.0)

    pub way_jump : (address : ℕ) → Contains b.jumps address → Contains (leads (last_address b)) address
    way_jump address c = jump_way image facts (last_address b) address (subst (λ (xs : List ℕ). Contains xs address) block.jumps c)

    pub way_call : (to : ℕ) → Contains b.calls to → Contains (leads (last_address b)) (behind (last_address b) 1)
    way_call to c = call_way image facts (last_address b) to (subst (λ (xs : List ℕ). Contains xs to) block.calls c)

  -- ---- along an edge

  -- Where the walk is at a node: at the beginning of its block if that has the chain; behind the call with which its chain goes on
  -- otherwise, and that call was passed.
  pub data IsPlaced (passed : List ℕ) (to number : ℕ) : Type 0 where
    here : (n : UNode) (f : Function) (b : Block) → slice_get u.nodes number ≡ Some n → IsBlockAt program n f b → n.chain ≡ chain → b.start ≡ to
        → IsPlaced passed to number
    inside : (n : UNode) (c : Call) (cs : List Call) → slice_get u.nodes number ≡ Some n → n.chain ≡ chain ++ c ∷ cs → Contains passed c.site
        → behind c.site 1 ≡ to → IsPlaced passed to number

  pub record IsAt (from number : ℕ) : Type 0 where
    pub to : ℕ
    pub going : Going from to
    pub placed : IsPlaced going.passed to number

  -- a node was visited: the beginning of its block was passed, or the call with which its chain goes on
  pub data IsVisited (passed : List ℕ) (number : ℕ) : Type 0 where
    by_block : (n : UNode) (f : Function) (b : Block) → slice_get u.nodes number ≡ Some n → IsBlockAt program n f b → n.chain ≡ chain → Contains passed b.start
        → IsVisited passed number
    by_call : (n : UNode) (c : Call) (cs : List Call) → slice_get u.nodes number ≡ Some n → n.chain ≡ chain ++ c ∷ cs → Contains passed c.site
        → IsVisited passed number

  pub record Steps (from number other : ℕ) (s : IsAt from number) : Type 0 where
    pub on : IsAt from other
    pub keeps : (x : ℕ) → Contains s.going.passed x → Contains on.going.passed x
    pub visited : IsVisited on.going.passed number

  module _ (from i j : ℕ) (n m : UNode) (at_i : slice_get u.nodes i ≡ Some n) (at_j : slice_get u.nodes j ≡ Some m) (no_less : length chain ≤ length m.chain) where
    -- from a node of the chain
    module _ (to : ℕ) (g : Going from to) (f : Function) (b : Block) (is : IsBlockAt program n f b) (e : n.chain ≡ chain) (begins : b.start ≡ to) where
      block : IsBlock image facts machine entry b
      block =
          let alike : f.entry ≡ entry = is.entry ∙ ap (entry_after program.start) e ∙ sym entry_is in
          subst (λ (x : ℕ). IsBlock image facts machine x b) alike (block_is image facts first machine program built n f b is)

      node : HasNode b.start
      node = record { number = i; node = n; function = f; block = b; stands = at_i; is = is; chain_is = e; start = refl }

      record Leaves : Type 0 where
        on : IsAt from j
        keeps : (x : ℕ) → Contains g.passed x → Contains on.going.passed x
        start : Contains on.going.passed b.start

      at_block : (address : ℕ) → BeginsAt program m n.chain address → Contains (leads (last_address b)) address → Leaves
      at_block address there way =
          let left = leave b block node from address (moved from g (sym begins)) way in
          record {
            on = record { to = address; going = left.on; placed = here m there.function there.block at_j there.is (there.has ∙ e) there.start };
            keeps = left.keeps;
            start = left.start;
          }

      at_call : (to_entry : ℕ) → BeginsAt program m (n.chain ++ record { site = last_address b; entry = to_entry } ∷ []) to_entry → Contains b.calls to_entry → Leaves
      at_call to_entry there c =
          let made : Call = record { site = last_address b; entry = to_entry } in
          let left = leave b block node from (behind (last_address b) 1) (moved from g (sym begins)) (way_call b block node to_entry c) in
          record {
            on = record {
              to = behind (last_address b) 1;
              going = left.on;
              placed = inside m made [] at_j (there.has ∙ ap (λ (xs : List Call). xs ++ made ∷ []) e) left.last refl;
            };
            keeps = left.keeps;
            start = left.start;
          }

      no_return : (callers : List Call) (last : Call) (address : ℕ) → n.chain ≡ callers ++ last ∷ [] → BeginsAt program m callers address → ⊥
      no_return callers last address h there =
          absurd (omega (arith, no_less, ap length there.has, ap length h, ap length e, length-append callers (last ∷ [])))

      leaves : (taken : Bool) → Leads program n taken m → Leaves
      leaves taken (next f2 b2 address _ is2 h there) =
          let alike = same_block program n n f2 f b2 b refl is2 is in
          at_block address there (way_next b block node address (ap (λ (x : Block). x.next) (sym alike) ∙ h))
      leaves taken (jump f2 b2 address _ is2 h there) =
          let alike = same_block program n n f2 f b2 b refl is2 is in
          at_block address there (way_jump b block node address (subst (λ (x : Block). Contains x.jumps address) alike h))
      leaves taken (call f2 b2 to_entry _ is2 h there) =
          let alike = same_block program n n f2 f b2 b refl is2 is in
          at_call to_entry (subst (λ (x : Block). BeginsAt program m (n.chain ++ record { site = last_address x; entry = to_entry } ∷ []) to_entry) alike there)
          (subst (λ (x : Block). Contains x.calls to_entry) alike h)
      leaves taken (ret f2 b2 callers last _ is2 h chains there) = absurd (no_return callers last _ chains there)

    -- from a node of a longer chain
    module _ (to : ℕ) (passed : List ℕ) (c : Call) (cs : List Call) (e : n.chain ≡ chain ++ c ∷ cs) (site : Contains passed c.site) (place : behind c.site 1 ≡ to) where
      still : (ds : List Call) → m.chain ≡ chain ++ c ∷ ds → IsPlaced passed to j
      still ds h = inside m c ds at_j h site place

      returns : (callers : List Call) (last : Call) → BeginsAt program m callers (behind last.site 1) → AreFronts chain c callers last → n.chain ≡ callers ++ last ∷ [] → IsPlaced passed to j
      returns callers last there (same one other) h =
          here m there.function there.block at_j there.is (there.has ∙ sym one) (there.start ∙ ap (λ (x : Call). behind x.site 1) (sym other) ∙ place)
      returns callers last there (longer rest one) h =
          absurd (omega (arith, no_less, ap length there.has, ap length one, length-append callers (last ∷ rest)))
      returns callers last there (shorter rest one) h = still rest (there.has ∙ one)

      waits : (taken : Bool) → Leads program n taken m → IsPlaced passed to j
      waits taken (next f b address _ is h there) = still cs (there.has ∙ e)
      waits taken (jump f b address _ is h there) = still cs (there.has ∙ e)
      waits taken (call f b to_entry _ is h there) =
          let made : Call = record { site = last_address b; entry = to_entry } in
          still (cs ++ made ∷ []) (there.has ∙ ap (λ (xs : List Call). xs ++ made ∷ []) e ∙ append_assoc chain (c ∷ cs) (made ∷ []))
      waits taken (ret f b callers last _ is h chains there) =
          returns callers last there (are_fronts chain c cs callers last [] (sym e ∙ chains)) chains

    placed_on : (s : IsAt from i) (taken : Bool) → Leads program n taken m → IsPlaced s.going.passed s.to i → Steps from i j s
    placed_on s taken h (here k f b at is e begins) =
        let k_is : k ≡ n = one_element u.nodes i k n at at_i in
        let is_n : IsBlockAt program n f b = subst (λ (x : UNode). IsBlockAt program x f b) k_is is in
        let e_n : n.chain ≡ chain = ap (λ (x : UNode). x.chain) (sym k_is) ∙ e in
        let it = leaves s.to s.going f b is_n e_n begins taken h in
        record { on = it.on; keeps = it.keeps; visited = by_block n f b at_i is_n e_n it.start }
    placed_on s taken h (inside k c cs at e site place) =
        let e_n : n.chain ≡ chain ++ c ∷ cs = ap (λ (x : UNode). x.chain) (one_element u.nodes i n k at_i at) ∙ e in
        record {
          on = record { to = s.to; going = s.going; placed = waits s.to s.going.passed c cs e_n site place taken h };
          keeps = λ x k. k;
          visited = by_call n c cs at_i e_n site;
        }

    pub step : (s : IsAt from i) (taken : Bool) → Leads program n taken m → Steps from i j s
    step s taken h = placed_on s taken h s.placed
