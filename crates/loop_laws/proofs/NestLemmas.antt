-- Two loops of an unfolding that share a member: one is within the other.
use Rattle.std.proofs.Common.{◌≡◌, ℕ, ◌++◌, List, ◌∷◌, slice_get, sym, ap, subst, ◌∙◌, inl, inr, append_assoc}
use Rattle.std.specs.Prelude.{◌⊎◌, Contains, Some}
use Rattle.wx_base.specs.declared.facts.Facts.{Facts}
use Rattle.wx_base.specs.declared.image.Image.{Image}
use Rattle.wx_base.specs.declared.machine.Machine.{Machine}
use Rattle.wx_base.specs.Functions as functions
use Rattle.wx_base.specs.Functions.{ways_at}
use Rattle.flow_block.specs.declared.block.Block.{Block}
use Rattle.flow_graph.specs.declared.program.Program.{Program}
use Rattle.flow_graph.specs.Program.{IsProgram, bounded_loop}
use Rattle.graph_loops.specs.Laws.{LoopsAreNested}
use Rattle.flow_ctx.specs.declared.unfolded.Call.{Call}
use Rattle.flow_ctx.specs.declared.unfolded.ULoop.{ULoop}
use Rattle.flow_ctx.specs.declared.unfolded.UNode.{UNode}
use Rattle.flow_ctx.specs.declared.unfolded.Unfolded.{Unfolded}
use Rattle.flow_ctx.specs.Unfolding.{IsLoop, IsMember}
use Rattle.flow_ctx.specs.Unfolding.IsMember.{own, within}
use Rattle.loop_laws.specs.Laws.{IsWithin, SmallerLoopsAreWithin}
use Rattle.loop_laws.proofs.Lists.{AreFronts, are_fronts, no_more, one_element}
use Rattle.loop_laws.proofs.Lists.AreFronts.{same, longer, shorter}
use Rattle.loop_laws.proofs.Nodes.{loop_here, loop_of, same_block, same_entry}

-- ---- two loops

module _ (program : Program) (u : Unfolded) (l m : ULoop) (inner : IsLoop program u.nodes u.edges l) (outer : IsLoop program u.nodes u.edges m) where
  -- a loop of a longer chain is within the loop at whose member that chain goes on
  within_longer : (call : Call) (calls : List Call) → inner.node.chain ≡ outer.node.chain ++ call ∷ calls → Contains outer.info.members call.site → IsWithin l m
  within_longer call calls chain site = record { members = each }
    where
      behind : (k : ℕ) (n : UNode) → slice_get u.nodes k ≡ Some n → IsMember program inner.node inner.info n → Contains m.members k
      behind k n stands (own f b is e listed) = (outer.members k).1 (record { node = n; stands = stands; member = within call calls (e ∙ chain) site })
      behind k n stands (within d ds e listed) =
          let on : n.chain ≡ outer.node.chain ++ call ∷ (calls ++ d ∷ ds) =
          e ∙ ap (λ (c : List Call). c ++ d ∷ ds) chain ∙ append_assoc outer.node.chain (call ∷ calls) (d ∷ ds) in
          (outer.members k).1 (record { node = n; stands = stands; member = within call (calls ++ d ∷ ds) on site })

      each : (k : ℕ) → Contains l.members k → Contains m.members k
      each k c = let it = (inner.members k).0 c in behind k it.node it.stands it.member

  -- of two loops of one chain that is within the other whose addresses are
  within_same : inner.node.chain ≡ outer.node.chain → ((a : ℕ) → Contains inner.info.members a → Contains outer.info.members a) → IsWithin l m
  within_same chain more = record { members = each }
    where
      level_with : (k : ℕ) (n : UNode) → slice_get u.nodes k ≡ Some n → IsMember program inner.node inner.info n → Contains m.members k
      level_with k n stands (own f b is e listed) = (outer.members k).1 (record { node = n; stands = stands; member = own f b is (e ∙ chain) (more b.start listed) })
      level_with k n stands (within d ds e listed) =
          (outer.members k).1 (record { node = n; stands = stands; member = within d ds (e ∙ ap (λ (c : List Call). c ++ d ∷ ds) chain) (more d.site listed) })

      each : (k : ℕ) → Contains l.members k → Contains m.members k
      each k c = let it = (inner.members k).0 c in level_with k it.node it.stands it.member

-- how two loops that share a member lie
data Meets (program : Program) (u : Unfolded) (l m : ULoop) (one : IsLoop program u.nodes u.edges l) (other : IsLoop program u.nodes u.edges m) : Type 0 where
  beside : (a : ℕ) → one.node.chain ≡ other.node.chain → Contains one.info.members a → Contains other.info.members a → Meets program u l m one other
  in_other : (call : Call) (calls : List Call) → one.node.chain ≡ other.node.chain ++ call ∷ calls → Contains other.info.members call.site → Meets program u l m one other
  in_one : (call : Call) (calls : List Call) → other.node.chain ≡ one.node.chain ++ call ∷ calls → Contains one.info.members call.site → Meets program u l m one other

module _ (program : Program) (u : Unfolded) (l m : ULoop) (one : IsLoop program u.nodes u.edges l) (other : IsLoop program u.nodes u.edges m) where
  calls_meet : (c d : Call) → Contains one.info.members c.site → Contains other.info.members d.site → AreFronts one.node.chain c other.node.chain d → Meets program u l m one other
  calls_meet c d listed there (same chain call) = beside d.site chain (subst (λ (x : Call). Contains one.info.members x.site) call listed) there
  calls_meet c d listed there (longer rest chain) = in_other d rest chain there
  calls_meet c d listed there (shorter rest chain) = in_one c rest chain listed

  meet : (n k : UNode) → n ≡ k → IsMember program one.node one.info n → IsMember program other.node other.info k → Meets program u l m one other
  meet n k is (own f b at e listed) (own g c there h found) =
      let block = same_block program n k f g b c is at there in
      beside c.start (sym e ∙ ap (λ (x : UNode). x.chain) is ∙ h) (subst (λ (x : Block). Contains one.info.members x.start) block listed) found
  meet n k is (own f b at e listed) (within d ds h found) = in_other d ds (sym e ∙ ap (λ (x : UNode). x.chain) is ∙ h) found
  meet n k is (within c cs e listed) (own g b there h found) = in_one c cs (sym h ∙ ap (λ (x : UNode). x.chain) (sym is) ∙ e) listed
  meet n k is (within c cs e listed) (within d ds h found) =
      calls_meet c d listed found (are_fronts one.node.chain c cs other.node.chain d ds (sym e ∙ ap (λ (x : UNode). x.chain) is ∙ h))

  meets : (node : ℕ) → Contains l.members node → Contains m.members node → Meets program u l m one other
  meets node c d =
      let n = (one.members node).0 c in
      let k = (other.members node).0 d in
      meet n.node k.node (one_element u.nodes node n.node k.node n.stands k.stands) n.member k.member

  module _ (image : Image) (facts : Facts) (first : ℕ) (machine : Machine) (built : IsProgram image facts first machine program) where
    here_l : functions.IsLoop image facts one.head.function.entry (bounded_loop one.info)
    here_l = loop_here image facts first machine program built u l one

    -- of two loops of one chain the other is one of the first's function too
    here_m : one.node.chain ≡ other.node.chain → functions.IsLoop image facts one.head.function.entry (bounded_loop other.info)
    here_m chain =
        let entry = same_entry program other.node one.node other.head.function one.head.function other.head.block one.head.block (sym chain) other.head.is one.head.is in
        subst (λ (e : ℕ). functions.IsLoop image facts e (bounded_loop other.info)) entry (loop_here image facts first machine program built u m other)

    nested : LoopsAreNested → Meets program u l m one other → IsWithin l m ⊎ IsWithin m l
    nested law (in_other call calls chain site) = inl (within_longer program u l m one other call calls chain site)
    nested law (in_one call calls chain site) = inr (within_longer program u m l other one call calls chain site)
    nested law (beside a chain c d) =
        let here = here_l in
        let there = here_m chain in
        elim (law (ways_at image facts) one.head.function.entry one.info.head other.info.head a here.head there.head (here.members a c) (there.members a d)) [
          | inl h ↦ inl (within_same program u l m one other chain (λ b k. there.whole b (h.members b (here.members b k))))
          | inr h ↦ inr (within_same program u m l other one (sym chain) (λ b k. here.whole b (h.members b (there.members b k))))
        ]

pub smaller_loops_are_within : LoopsAreNested → SmallerLoopsAreWithin
smaller_loops_are_within law image facts first machine program u l m node built unfolds c d in_l in_m few =
    let one = loop_of program u l unfolds c in
    let other = loop_of program u m unfolds d in
    elim (nested program u l m one other image facts first machine built law (meets program u l m one other node in_l in_m)) [
      | inl h ↦ h
      | inr h ↦ record { members = no_more m.members l.members other.members_ascend h.members few }
    ]
