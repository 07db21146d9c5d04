use Rattle.std.proofs.Common.{◌+◌, ℕ, List, Some, slice_get, false, true, refl, sym, subst, arith}
use Rattle.std.proofs.lemmas.Bool.{false≢true}
use Rattle.std.specs.Global.{Vec}
use Rattle.flow_ctx.specs.Chosen.{AreChosen}
use Rattle.flow_ctx.specs.Found.{nodes_of}
use Rattle.flow_ctx.specs.Targets.{node_of}
use Rattle.flow_ctx.specs.Unfolding.{IsMemberNumber}
use Rattle.flow_ctx.proofs.ChosenLemmas.{To, chosen_all, chosen_no, chosen_none, chosen_yes}
use Rattle.flow_ctx.proofs.LoopLemmas.{member_no, member_within, member_yes}
use Rattle.flow_ctx.proofs.SearchLemmas.{read_at}
use Rattle.flow_ctx.proofs.members.members_of.Goals as goal
use Rattle.flow_ctx.proofs.members.members_of.Goals.{then-is_member+in_ok-push, else-is_member}

pub loop-number-init : goal.loop-number-init
loop-number-init c =
    let P = IsMemberNumber c.args.program.now (nodes_of c.args.places.now) (node_of c.args.head.now) c.args.info.now in
    subst (λ (l : List ℕ). AreChosen (To P 0) l) (sym c.new-list.ensures.items) (chosen_none P)

pub loop-number-preserved : goal.loop-number-preserved
loop-number-preserved c =
    let program = c.args.program.now in
    let places = c.args.places.now in
    let head = node_of c.args.head.now in
    let P = IsMemberNumber program (nodes_of places) head c.args.info.now in
    let i = c.loop-number.number in
    let p = c.index-places-number.result in
    let is = read_at places places i p refl c.loop-number-test.true c.index-places-number.is in
    elim c.if-is_member.branch [
      | then-is_member+in_ok-push w ↦ subst (λ (v : Vec ℕ). AreChosen (To P (i + 1)) v.items) (sym w.list-is)
          (subst (λ (l : List ℕ). AreChosen (To P (i + 1)) l) (sym w.in_ok-push.ensures.items)
          (chosen_yes P i c.loop-number.list.items c.loop-number.invariant (member_yes program places i p is head c.args.info.now (w.if-is_member.ensures.0 refl))))
      | else-is_member w ↦ subst (λ (v : Vec ℕ). AreChosen (To P (i + 1)) v.items) (sym w.list-is)
          (chosen_no P i c.loop-number.list.items c.loop-number.invariant (member_no program places i p is head c.args.info.now (λ m. false≢true (w.if-is_member.ensures.1 m))))
    ]

pub returns : goal.returns
returns c =
    let P = IsMemberNumber c.args.program.now (nodes_of c.args.places.now) (node_of c.args.head.now) c.args.info.now in
    chosen_all P c.loop-number.number c.loop-number.list.items c.loop-number.invariant
    (λ n m. omega (arith, member_within c.args.program.now c.args.places.now (node_of c.args.head.now) c.args.info.now n m))
