use Rattle.std.proofs.Common.{List, ℕ, sym, subst}
use Rattle.std.specs.Prelude.{Option}
use Rattle.std.specs.Global.{Vec}
use Rattle.path_problem.specs.Chain.{HasRanks, IsClosed}
use Rattle.path_problem.proofs.NetLemmas.{Labeled, first_labels, pointers, short_gain, looked_at, has_settled, relabel, at_some, at_none}
use Rattle.path_problem.proofs.net.better.Goals as goal

pub rounds-init : goal.rounds-init
rounds-init c =
    let F : List (Option ℕ) → Type 0 = λ n. Labeled c.args.links.now c.args.price c.args.values.now c.args.values.now n in
    subst F (sym c.requires.next) (first_labels c.args.links.now c.args.price c.args.values.now c.requires.small)

pub closed_chain-requires : goal.closed_chain-requires
closed_chain-requires c =
    pointers c.args.links.now c.args.price c.args.values.now c.relax.new.values c.relax.new.next c.requires.links c.requires.few c.requires.small
    (relabel c.rounds.auto.values (c.relax.ensures.labels c.args.values.now (relabel (sym c.rounds.auto.values) c.rounds.invariant.labels)))

pub returns-in-Some : goal.returns-in-Some
returns-in-Some c =
    short_gain c.args.links.now c.args.price c.args.values.now c.relax.new.values c.relax.new.next c.requires.links c.requires.few c.requires.small
    (relabel c.rounds.auto.values (c.relax.ensures.labels c.args.values.now (relabel (sym c.rounds.auto.values) c.rounds.invariant.labels))) c.in-Some.walk.items (at_some (HasRanks c.args.links.now c.relax.new.next) (λ (w : Vec ℕ). IsClosed c.args.links.now c.relax.new.next w.items) c.in-Some.is c.in_ok-walk.ensures)

pub rounds-preserved : goal.rounds-preserved
rounds-preserved c =
    looked_at c.args.links.now c.args.price c.args.values.now c.relax.new.values c.relax.new.next c.requires.links c.requires.few c.requires.small
    (relabel c.rounds.auto.values (c.relax.ensures.labels c.args.values.now (relabel (sym c.rounds.auto.values) c.rounds.invariant.labels))) (at_none (HasRanks c.args.links.now c.relax.new.next) (λ (w : Vec ℕ). IsClosed c.args.links.now c.relax.new.next w.items) c.in-None.is c.in_ok-walk.ensures)

pub returns : goal.returns
returns c =
    has_settled c.args.links.now c.args.price c.args.values.now c.relax.new.values c.relax.new.next c.requires.links c.requires.few c.requires.small
    (relabel c.rounds.auto.values (c.relax.ensures.labels c.args.values.now (relabel (sym c.rounds.auto.values) c.rounds.invariant.labels))) (c.relax.ensures.settled c.rounds-test.false)
