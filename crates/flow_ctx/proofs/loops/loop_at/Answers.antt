use Rattle.std.proofs.Common.{ℕ, List, true, false, refl, subst}
use Rattle.flow_ctx.specs.declared.unfolded.ULoop.{ULoop}
use Rattle.flow_ctx.specs.Chosen.{AreChosen, LeadsIntoAt}
use Rattle.flow_ctx.specs.Found.{nodes_of}
use Rattle.flow_ctx.specs.Targets.{node_of}
use Rattle.flow_ctx.proofs.FoundLemmas.{reached_has_place}
use Rattle.flow_ctx.proofs.LoopLemmas.{all_places, head_no, the_loop}
use Rattle.flow_ctx.proofs.NumberLemmas.{node_stands, reached_at}
use Rattle.flow_ctx.proofs.SearchLemmas.{read_at}
use Rattle.flow_ctx.proofs.loops.loop_at.Goals as goal

pub info_at-requires-clause-place : goal.info_at-requires-clause-place
info_at-requires-clause-place c =
    let places = c.args.places.now in
    let p = c.index-places-number.result in
    let is = read_at places places c.args.number p refl c.requires.node c.index-places-number.is in
    reached_has_place c.args.program.now c.requires.order p (reached_at c.args.program.now places c.args.number p c.requires.nodes is)

pub members_of-requires-clause-places : goal.members_of-requires-clause-places
members_of-requires-clause-places c = all_places c.args.program.now c.requires.order c.args.places.now c.requires.nodes

pub returns-in_default : goal.returns-in_default
returns-in_default c =
    let places = c.args.places.now in
    let p = c.index-places-number.result in
    let is = read_at places places c.args.number p refl c.requires.node c.index-places-number.is in
    head_no c.args.program.now places c.args.number p is c.in_default.ensures.info

pub returns : goal.returns
returns c =
    let places = c.args.places.now in
    let edges = c.args.edges.now in
    let i = c.args.number in
    let p = c.index-places-number.result in
    let is = read_at places places i p refl c.requires.node c.index-places-number.is in
    let info = c.in-Some.info.now in
    let l : ULoop = record { head = i; members = c.new.result; back = c.new-2.result; entries = c.new-3.result; maxcount = info.maxcount; totalcount = info.totalcount } in (
      refl,
      the_loop c.args.program.now (nodes_of places) edges l (node_of p) info c.in_ok-members.members.items c.in_ok-back.back.items c.in_ok-entries.entries.items
          (node_stands places i p is) c.in-Some.ensures.info c.new.ensures c.new-2.ensures c.new-3.ensures c.in_ok-members.ensures
          (subst (λ (m : List ℕ). AreChosen (LeadsIntoAt edges i m true) c.in_ok-back.back.items) c.as_slice.ensures.value c.in_ok-back.ensures)
          (subst (λ (m : List ℕ). AreChosen (LeadsIntoAt edges i m false) c.in_ok-entries.entries.items) c.as_slice-2.ensures.value c.in_ok-entries.ensures)
          refl refl,
    )
