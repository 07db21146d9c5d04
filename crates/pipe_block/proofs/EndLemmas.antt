-- Ends of blocks: how they are put together, and that they stay as table, leavings and pool grow.
use Rattle.std.proofs.Common.{◌≡◌, ℕ, ◌<◌, ◌≤◌, Bool, true, false, not, List, [], ◌∷◌, ◌++◌, length, slice_get, Option, Some, sym, ◌∙◌, subst, arith}
use Rattle.std.proofs.lemmas.List.Elements.{All-head, All-tail, All-weaker}
use Rattle.std.proofs.lemmas.Option.{same_Some, slice_get_within}
use Rattle.wx_base.specs.declared.machine.Machine.{Machine}
use Rattle.flow_block.specs.declared.block.Block.{Block}
use Rattle.flow_block.specs.Blocks.{most_slots}
use Rattle.flow_ctx.specs.declared.unfolded.Unfolded.{Unfolded}
use Rattle.pipe_time.specs.declared.vector.Vector.{Vector}
use Rattle.xdd_table.specs.declared.node.Dd.{Dd}
use Rattle.xdd_table.specs.declared.node.Node.{Node}
use Rattle.xdd_table.specs.Diagram.{Keeps}
use Rattle.pipe_block.specs.declared.diagrams.Leaving.{Leaving}
use Rattle.pipe_block.specs.declared.ends.Ends.{Ends}
use Rattle.pipe_block.specs.declared.key.MemoKey.{MemoKey}
use Rattle.pipe_block.specs.Kept.{AreEndsOf, AreEndsRight, AreNumbered, IsRight, kept_in, number_in}
use Rattle.pipe_block.specs.Laws.{FinishesStay, KeepsVectors, LeavingsStay, NoEndIsRight, RightEndsStay}
use Rattle.pipe_block.specs.Leavings.{IsFinishOf, IsLeaving, IsLeavingAt, KeepsLeavings}
use Rattle.pipe_block.specs.Times.{IsDiagram}
use Rattle.pipe_block.proofs.Arrivals.{front, end}

diagram_stays : (old new : List Node) (n : ℕ) (d : Dd) → Keeps old new → IsDiagram old n d → IsDiagram new n d
diagram_stays old new n d k x =
    let g : length old ≤ length new = k.grows in
    record { within = omega (arith, x.within); events = k.events d.place n x.within x.events }

pub finish_stays : FinishesStay
finish_stays old new m from block d k w = record {
  times = λ f. k.times f d.place w.diagram.within ∙ w.times f;
  diagram = diagram_stays old new most_slots d k w.diagram;
}

pub leaving_stays : LeavingsStay
leaving_stays old new m from block taken l k w =
    let head = All-head (IsDiagram old most_slots) l.cost (l.place ∷ []) w.diagrams in
    let next = All-head (IsDiagram old most_slots) l.place [] (All-tail (IsDiagram old most_slots) l.cost (l.place ∷ []) w.diagrams) in
    record {
      cost = λ f. k.times f l.cost.place head.within ∙ w.cost f;
      each = λ f. rw (k.times f l.place.place next.within) (w.each f);
      given = w.given;
      once = w.once;
      diagrams = All-weaker (IsDiagram old most_slots) (IsDiagram new most_slots) (λ d x. diagram_stays old new most_slots d k x) (l.cost ∷ l.place ∷ []) w.diagrams;
    }

pub leavings_self : (made : List Leaving) → KeepsLeavings made made
leavings_self made = record { kept = λ number l is. is }

pub leavings_twice : (a b c : List Leaving) → KeepsLeavings a b → KeepsLeavings b c → KeepsLeavings a c
leavings_twice a b c x y = record { kept = λ number l is. y.kept number l (x.kept number l is) }

pub leavings_more : (made longer : List Leaving) (l : Leaving) → longer ≡ made ++ l ∷ [] → KeepsLeavings made longer
leavings_more made longer l is = record { kept = λ number x at'. rw is (front made (l ∷ []) number (slice_get_within made number x at') ∙ at') }

-- what was put last has the number of those before
pub last_leaving : (nodes : List Node) (made longer : List Leaving) (m : Machine) (from : List ℕ) (block : Block) (taken : Bool) (l : Leaving) (number : ℕ)
    → longer ≡ made ++ l ∷ [] → number ≡ length made → IsLeaving nodes m from block taken l → IsLeavingAt nodes longer m from block taken number
last_leaving nodes made longer m from block taken l number pushed is w = record { leaving = l; stands = rw (pushed, is) (end made l); is = w }

module _ (old new : List Node) (made longer : List Leaving) (m : Machine) (from : List ℕ) (block : Block) (k : Keeps old new) (x : KeepsLeavings made longer) where
  pub leaving_at_stays : (taken : Bool) (number : ℕ) → IsLeavingAt old made m from block taken number → IsLeavingAt new longer m from block taken number
  leaving_at_stays taken number w = record {
    leaving = w.leaving;
    stands = x.kept number w.leaving w.stands;
    is = leaving_stays old new m from block taken w.leaving k w.is;
  }

  pub ends_stay : (ends : Ends) → AreEndsOf old made m from block ends → AreEndsOf new longer m from block ends
  ends_stay ends w = record {
    finish = finish_stays old new m from block ends.finish k w.finish;
    leaving = λ taken. record { each = λ number is. leaving_at_stays taken number ((w.leaving taken).each number is) };
  }

pub right_stays : (old new : List Node) (pool more : List Vector) (m : Machine) (u : Unfolded) (entries : List (MemoKey × Ends)) (made longer : List Leaving)
    → Keeps old new → KeepsVectors pool more → KeepsLeavings made longer
    → AreEndsRight old pool m u (record { entries = entries; leavings = made }) → AreEndsRight new more m u (record { entries = entries; leavings = longer })
right_stays old new pool more m u entries made longer k kept x all = record {
  each = λ key ends is.
      let r = all.each key ends is in
      record {
        function = r.function;
        block = r.block;
        from = r.from;
        function_stands = r.function_stands;
        block_stands = r.block_stands;
        from_stands = kept.kept key.place r.from r.from_stands;
        are = ends_stay old new made longer m r.from.slots r.block k x ends r.are;
      };
}

pub right_ends_stay : RightEndsStay
right_ends_stay old new pool more m u memo k kept all = right_stays old new pool more m u memo.entries memo.leavings memo.leavings k kept (leavings_self memo.leavings) all

pub no_end_is_right : NoEndIsRight
no_end_is_right nodes pool m u = record { each = λ key ends is. cc }

module _ (nodes : List Node) (made : List Leaving) (m : Machine) (from : List ℕ) (block : Block) (ends : Ends) (number : ℕ) (other : Option ℕ) where
  both_numbered : (taken : Bool) → number_in ends taken ≡ Some number → number_in ends (not taken) ≡ other → IsLeavingAt nodes made m from block taken number
      → AreNumbered nodes made m from block (not taken) other → (t : Bool) → AreNumbered nodes made m from block t (number_in ends t)
  both_numbered true here there w rest true = record { each = λ n is. subst (λ k. IsLeavingAt nodes made m from block true k) (same_Some number n (sym here ∙ is)) w }
  both_numbered true here there w rest false = subst (λ o. AreNumbered nodes made m from block false o) (sym there) rest
  both_numbered false here there w rest false = record { each = λ n is. subst (λ k. IsLeavingAt nodes made m from block false k) (same_Some number n (sym here ∙ is)) w }
  both_numbered false here there w rest true = subst (λ o. AreNumbered nodes made m from block true o) (sym there) rest

  -- ends put together from their parts
  pub ends_are : (taken : Bool) (finish : Dd) → ends.finish ≡ finish → number_in ends taken ≡ Some number → number_in ends (not taken) ≡ other
      → IsFinishOf nodes m from block finish → IsLeavingAt nodes made m from block taken number → AreNumbered nodes made m from block (not taken) other
      → AreEndsOf nodes made m from block ends
  ends_are taken finish is here there f w rest = record {
    finish = subst (λ d. IsFinishOf nodes m from block d) (sym is) f;
    leaving = both_numbered taken here there w rest;
  }
