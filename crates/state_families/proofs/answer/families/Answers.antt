use Rattle.std.proofs.Common.{◌∙◌, ap, length, map}
use Rattle.state_families.specs.declared.node_set.NodeSet.{NodeSet}
use Rattle.state_families.specs.Families.{IsExitTo, joined_from, vector_of}
use Rattle.state_families.proofs.ExitLemmas.{exit_to_bounded}
use Rattle.state_families.proofs.SmallLemmas.{families_small}
use Rattle.state_families.proofs.answer.families.Goals as goal

pub returns-clause-families : goal.returns-clause-families
returns-clause-families c = record {
  sets = c.in_ok-sets.sets.items;
  settled = c.in_ok-sets.ensures.settled;
  vectors = c.in_ok-all_vectors.ensures ∙ ap (map (λ (set : NodeSet). map vector_of set.vectors)) c.as_slice.ensures.value;
  joined = c.in_ok-joined_nodes.ensures ∙ ap (joined_from 0) c.as_slice-2.ensures.value;
}

pub returns-clause-small : goal.returns-clause-small
returns-clause-small c =
    let u = c.args.u.now in
    let m = c.args.m.now in
    let k = c.args.k.now in
    families_small (IsExitTo u m k) m.states m.horizon (length u.nodes) u.start (exit_to_bounded u m k) c.in_ok-all_vectors.field-0 c.in_ok-sets.sets.items c.requires.machine.horizon.1
    c.in_ok-sets.ensures.settled.rounds (c.in_ok-all_vectors.ensures ∙ ap (map (λ (set : NodeSet). map vector_of set.vectors)) c.as_slice.ensures.value)
