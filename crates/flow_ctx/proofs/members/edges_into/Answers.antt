use Rattle.std.proofs.Common.{get_or, ◌+◌, ℕ, List, Some, slice_get, false, true, refl, sym, subst, arith}
use Rattle.std.proofs.lemmas.Bool.{false≢true}
use Rattle.std.specs.Global.{Vec}
use Rattle.flow_ctx.specs.Chosen.{AreChosen, LeadsIntoAt}
use Rattle.flow_ctx.proofs.ChosenLemmas.{To, chosen_all, chosen_no, chosen_none, chosen_yes}
use Rattle.flow_ctx.proofs.LoopLemmas.{into_no, into_within, into_yes}
use Rattle.std.proofs.lemmas.Option.{slice_get-get_or}
use Rattle.flow_ctx.specs.declared.unfolded.Edge.{Edge}
use Rattle.flow_ctx.proofs.members.edges_into.Goals as goal
use Rattle.flow_ctx.proofs.members.edges_into.Goals.{then-leads_into+in_ok-push, else-leads_into}

abbrev no_edge : Edge
no_edge = record { from = 0; to = 0; taken = false }

pub loop-number-init : goal.loop-number-init
loop-number-init c =
    let P = LeadsIntoAt c.args.edges.now c.args.head c.args.members.now c.args.inside in
    subst (λ (l : List ℕ). AreChosen (To P 0) l) (sym c.new-list.ensures.items) (chosen_none P)

pub loop-number-preserved : goal.loop-number-preserved
loop-number-preserved c =
    let edges = c.args.edges.now in
    let P = LeadsIntoAt edges c.args.head c.args.members.now c.args.inside in
    let i = c.loop-number.number in
    let e = get_or edges i no_edge in
    let is = slice_get-get_or edges i no_edge c.loop-number-test.true in
    elim c.if-leads_into.branch [
      | then-leads_into+in_ok-push w ↦ subst (λ (v : Vec ℕ). AreChosen (To P (i + 1)) v.items) (sym w.list-is)
          (subst (λ (l : List ℕ). AreChosen (To P (i + 1)) l) (sym w.in_ok-push.ensures.items)
          (chosen_yes P i c.loop-number.list.items c.loop-number.invariant (into_yes edges c.args.head c.args.members.now c.args.inside i e is (w.if-leads_into.ensures.0 refl))))
      | else-leads_into w ↦ subst (λ (v : Vec ℕ). AreChosen (To P (i + 1)) v.items) (sym w.list-is)
          (chosen_no P i c.loop-number.list.items c.loop-number.invariant (into_no edges c.args.head c.args.members.now c.args.inside i e is (λ m. false≢true (w.if-leads_into.ensures.1 m))))
    ]

pub returns : goal.returns
returns c =
    let P = LeadsIntoAt c.args.edges.now c.args.head c.args.members.now c.args.inside in
    chosen_all P c.loop-number.number c.loop-number.list.items c.loop-number.invariant
    (λ n m. omega (arith, into_within c.args.edges.now c.args.head c.args.members.now c.args.inside n m))
