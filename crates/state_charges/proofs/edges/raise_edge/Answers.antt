use Rattle.std.proofs.Common.{◌≡◌, List, length, sym, subst, arith}
use Rattle.state_charges.specs.declared.miss.Miss.{Miss}
use Rattle.state_charges.specs.Misses.{AreMisses}
use Rattle.state_charges.proofs.EdgeLemmas.{edge_raised, first_misses, kinds_long, leaves_node}
use Rattle.state_charges.proofs.edges.raise_edge.Goals as goal

pub misses_at-requires-clause-node : goal.misses_at-requires-clause-node
misses_at-requires-clause-node c =
    leaves_node c.args.subject.now.unfolded.now c.args.number c.edge_at-edge.result.now c.requires.subject.unfolded.unfolded c.edge_at-edge.ensures

pub block-block-requires : goal.block-block-requires
block-block-requires c =
    let u = c.args.subject.now.unfolded.now in
    c.nodes_have_blocks.ensures u.program u c.edge_at-edge.result.now.from c.requires.subject.unfolded.unfolded
    (leaves_node u c.args.number c.edge_at-edge.result.now c.requires.subject.unfolded.unfolded c.edge_at-edge.ensures)

pub classes_at-classes-requires : goal.classes_at-classes-requires
classes_at-classes-requires c =
    let within = leaves_node c.args.subject.now.unfolded.now c.args.number c.edge_at-edge.result.now c.requires.subject.unfolded.unfolded c.edge_at-edge.ensures in
    omega (arith, c.requires.subject.classed.long, within)

pub vectors_at-family-requires : goal.vectors_at-family-requires
vectors_at-family-requires c =
    let within = leaves_node c.args.subject.now.unfolded.now c.args.number c.edge_at-edge.result.now c.requires.subject.unfolded.unfolded c.edge_at-edge.ensures in
    omega (arith, c.requires.subject.listed.long, within)

pub raise_vectors-requires-clause-node : goal.raise_vectors-requires-clause-node
raise_vectors-requires-clause-node c = record {
  machine = c.requires.subject.machine;
  unfolded = c.requires.subject.unfolded;
  within = leaves_node c.args.subject.now.unfolded.now c.args.number c.edge_at-edge.result.now c.requires.subject.unfolded.unfolded c.edge_at-edge.ensures;
}

pub raise_vectors-requires-clause-departure : goal.raise_vectors-requires-clause-departure
raise_vectors-requires-clause-departure c =
    let s = c.args.subject.now in
    let u = s.unfolded.now in
    let node = c.edge_at-edge.result.now.from in
    let block = c.block-block.result.now in
    let kinds = c.classes_at-classes.result.now in
    let groups = c.args.places.now.groups in
    let long : length kinds ≡ length block.slots = kinds_long u s.machine.now s.classes.now node block kinds c.requires.subject.classed c.block-block.ensures c.classes_at-classes.ensures in
    let timed = c.blocks_are_timed.ensures.nodes s.machine.now u node block c.requires.subject.unfolded c.block-block.ensures in
    let are : AreMisses groups block.slots kinds c.as_slice-listed.result.now =
    subst (λ (ms : List Miss). AreMisses groups block.slots kinds ms) (sym c.as_slice-listed.ensures.value)
    (c.in_ok-misses.ensures block kinds c.block-block.ensures c.classes_at-classes.ensures) in
    record {
      is = c.block-block.ensures;
      few = omega (arith, long, timed.few);
      first = λ k x at. first_misses groups block.slots kinds c.as_slice-listed.result.now (length c.args.amounts.now) c.requires.long are k x at;
    }

pub raise_vectors-requires-clause-small : goal.raise_vectors-requires-clause-small
raise_vectors-requires-clause-small c = λ place v at.
    c.requires.subject.listed.small c.edge_at-edge.result.now.from v
    (record { family = c.vectors_at-family.result.now; place = place; stands = c.vectors_at-family.ensures; listed = at })

pub returns-clause-raises : goal.returns-clause-raises
returns-clause-raises c =
    let s = c.args.subject.now in
    let block = c.block-block.result.now in
    let kinds = c.classes_at-classes.result.now in
    let groups = c.args.places.now.groups in
    let are : AreMisses groups block.slots kinds c.as_slice-listed.result.now =
    subst (λ (ms : List Miss). AreMisses groups block.slots kinds ms) (sym c.as_slice-listed.ensures.value)
    (c.in_ok-misses.ensures block kinds c.block-block.ensures c.classes_at-classes.ensures) in
    edge_raised s.unfolded.now s.machine.now s.classes.now s.vectors.now groups c.args.number c.edge_at-edge.result.now block kinds c.vectors_at-family.result.now
    c.as_slice-listed.result.now c.edge_at-edge.ensures c.block-block.ensures c.classes_at-classes.ensures c.vectors_at-family.ensures are
    c.args.amounts.now c.raise_vectors.new.amounts c.in_ok-raise_vectors.ensures.raises
