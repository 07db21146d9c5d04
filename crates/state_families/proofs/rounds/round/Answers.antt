use Rattle.std.proofs.Common.{◌≡◌, ◌∙◌, ◌<◌, Some, arith, get_or, length, refl, slice_get, sym}
use Rattle.std.proofs.lemmas.Option.{slice_get-get_or}
use Rattle.state_families.specs.Families.{IsExitTo}
use Rattle.state_families.specs.Leaving.{IsExitAmong}
use Rattle.state_families.proofs.ArrivalLemmas.{reached_small}
use Rattle.state_families.proofs.ExitLemmas.{among_arrives, arrives_among}
use Rattle.state_families.proofs.IncomingLemmas.{numbers_exact}
use Rattle.state_families.proofs.LeavingLemmas.{keeps_self, keeps_twice}
use Rattle.state_families.proofs.RoundLemmas.{grown_all, grown_more, grown_none}
use Rattle.state_families.proofs.rounds.round.Goals as goal

pub grow_node-requires-clause-small : goal.grow_node-requires-clause-small
grow_node-requires-clause-small c =
    let s = c.args.subject.now in
    let m = s.machine.now in
    let u = s.unfolded.now in
    reached_small (IsExitTo u m s.classes.now) m.states m.horizon (length u.nodes) u.start c.args.sets.now c.args.fresh.now c.requires.machine.horizon.1 c.requires.reached

pub grow_node-requires-clause-long : goal.grow_node-requires-clause-long
grow_node-requires-clause-long c = c.requires.reached.fresh_long

pub grow_node-requires-clause-numbers : goal.grow_node-requires-clause-numbers
grow_node-requires-clause-numbers c =
    let u = c.args.subject.now.unfolded.now in
    let node = c.loop-node.node in
    let l : node < length u.nodes = omega (arith, c.loop-node-test.true, c.requires.reached.long) in
    let exact = numbers_exact u.edges (length u.nodes) (length u.edges) c.args.incoming.now c.requires.incoming node c.index-incoming-node.result c.as_slice-numbers.result.now l
    c.index-incoming-node.is c.as_slice-numbers.ensures.value in
    λ number there. ((exact number).0 there).below

pub grow_node-requires-clause-sound : goal.grow_node-requires-clause-sound
grow_node-requires-clause-sound c =
    let before = get_or c.loop-node.sets c.loop-node.node c.index-sets-node.result in
    let node = c.loop-node.node in
    let now = c.loop-node.sets in
    let grown = c.loop-node.invariant.grown in
    let at : slice_get now node ≡ Some before = slice_get-get_or now node c.index-sets-node.result (omega (arith, c.loop-node-test.true, grown.long)) in
    c.requires.reached.sound node before (sym (grown.rest node (omega arith)) ∙ at)

pub loop-node-init : goal.loop-node-init
loop-node-init c =
    let s = c.args.subject.now in
    let m = s.machine.now in
    let u = s.unfolded.now in record {
      grown = grown_none (IsExitTo u m s.classes.now) m.states m.horizon c.args.sets.now c.args.fresh.now c.in_ok-new.new.items c.in_ok-new.ensures.items;
      right = c.requires.right;
      kept = keeps_self c.args.table.now;
    }

pub returns-clause-grown : goal.returns-clause-grown
returns-clause-grown c =
    let s = c.args.subject.now in
    let m = s.machine.now in
    let u = s.unfolded.now in
    grown_all (IsExitTo u m s.classes.now) m.states m.horizon c.args.sets.now c.args.fresh.now c.loop-node.sets c.loop-node.new.items c.loop-node.node (omega arith)
    c.loop-node.invariant.grown

pub returns-clause-fewer : goal.returns-clause-fewer
returns-clause-fewer c = λ any. c.loop-node.invariant.grown.fewer any.place any.list any.stands any.some

pub returns-in_err-list-clause-kept : goal.returns-in_err-list-clause-kept
returns-in_err-list-clause-kept c = keeps_twice c.args.table.now c.loop-node.table c.grow_node.new.table c.loop-node.invariant.kept c.grow_node.ensures.kept

pub returns-in_err-push-clause-kept : goal.returns-in_err-push-clause-kept
returns-in_err-push-clause-kept c = keeps_twice c.args.table.now c.loop-node.table c.grow_node.new.table c.loop-node.invariant.kept c.grow_node.ensures.kept

pub loop-node-preserved : goal.loop-node-preserved
loop-node-preserved c =
    let s = c.args.subject.now in
    let m = s.machine.now in
    let u = s.unfolded.now in
    let classes = s.classes.now in
    let node = c.loop-node.node in
    let before = get_or c.loop-node.sets c.loop-node.node c.index-sets-node.result in
    let now = c.loop-node.sets in
    let grown = c.loop-node.invariant.grown in
    let fresh = c.args.fresh.now in
    let numbers = c.as_slice-numbers.result.now in
    let l : node < length u.nodes = omega (arith, c.loop-node-test.true, c.requires.reached.long) in
    let exact = numbers_exact u.edges (length u.nodes) (length u.edges) c.args.incoming.now c.requires.incoming node c.index-incoming-node.result numbers l
    c.index-incoming-node.is c.as_slice-numbers.ensures.value in
    let at : slice_get now node ≡ Some before = slice_get-get_or now node c.index-sets-node.result (omega (arith, c.loop-node-test.true, grown.long)) in record {
      grown =
          grown_more (IsExitTo u m classes) m.states m.horizon c.args.sets.now fresh node now _ c.loop-node.new.items c.push.new.self.items before c.grow_node.new.set c.in_ok-list.list
          (IsExitAmong u m classes numbers fresh) grown at refl c.in_ok-push.ensures.items (among_arrives u m classes numbers fresh node exact) (arrives_among u m classes numbers fresh node exact)
          c.in_ok-list.ensures.growth;
      right = c.in_ok-list.ensures.right;
      kept = keeps_twice c.args.table.now c.loop-node.table c.grow_node.new.table c.loop-node.invariant.kept c.grow_node.ensures.kept;
    }
