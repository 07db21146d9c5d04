use Rattle.std.proofs.Common.{◌≡◌, ◌<◌, ℕ, false, arith, get_or, length, subst}
use Rattle.std.proofs.lemmas.List.Elements.{Contains-get_or}
use Rattle.std.proofs.lemmas.Option.{slice_get-get_or}
use Rattle.flow_ctx.specs.declared.unfolded.Edge.{Edge}
use Rattle.state_families.specs.Incoming.{AreIncoming, lists_of}
use Rattle.state_families.proofs.IncomingLemmas.{incoming_more, incoming_none}
use Rattle.state_families.proofs.incoming.note_edges.Goals as goal

abbrev none : Edge
none = record { from = 0; to = 0; taken = false }

pub push_at-requires : goal.push_at-requires
push_at-requires c =
    let edge = get_or c.args.edges.now c.loop-number.number none in
    let there : edge.to < length c.args.lists.now = c.requires.within edge (Contains-get_or c.args.edges.now c.loop-number.number none (omega arith)) in
    omega (arith, c.loop-number.auto.lists, there)

pub loop-number-init : goal.loop-number-init
loop-number-init c = incoming_none c.args.edges.now (length c.args.lists.now) (lists_of c.args.lists.now) c.requires.empty

pub loop-number-preserved : goal.loop-number-preserved
loop-number-preserved c =
    let edges = c.args.edges.now in
    let number = c.loop-number.number in
    let edge = get_or edges number none in
    let l : number < length edges = omega arith in
    let there : edge.to < length c.args.lists.now = c.requires.within edge (Contains-get_or edges number none l) in
    incoming_more edges (length c.args.lists.now) (lists_of c.loop-number.lists) (lists_of c.push_at.new.lists) number edge (slice_get-get_or edges number none l)
    (omega (arith, there, c.loop-number.invariant.long)) c.in_ok-push_at.ensures c.loop-number.invariant

pub returns : goal.returns
returns c =
    let all : c.loop-number.number ≡ length c.args.edges.now = omega arith in
    subst (λ (n : ℕ). AreIncoming c.args.edges.now (length c.args.lists.now) n (lists_of c.loop-number.lists)) all c.loop-number.invariant
