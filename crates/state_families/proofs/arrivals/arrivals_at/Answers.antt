use Rattle.std.proofs.Common.{◌≡◌, ◌↔◌, ◌∙◌, ◌+◌, ℕ, List, Some, ap, arith, get_or, slice_get, subst, sym, take}
use Rattle.std.specs.List.{Contains}
use Rattle.std.proofs.lemmas.List.{take_all, take_more}
use Rattle.std.proofs.lemmas.List.Elements.{Contains-get_or}
use Rattle.std.proofs.lemmas.Option.{slice_get-get_or}
use Rattle.state_families.specs.Leaving.{IsExitAmong}
use Rattle.state_families.proofs.ArrivalLemmas.{among_more}
use Rattle.state_families.proofs.ExitLemmas.{edge_from}
use Rattle.state_families.proofs.LeavingLemmas.{keeps_twice}
use Rattle.state_families.proofs.arrivals.arrivals_at.Goals as goal

pub edge_at-edge-requires : goal.edge_at-edge-requires
edge_at-edge-requires c =
    c.requires.numbers (get_or c.args.numbers.now c.loop-number.number-index 0) (Contains-get_or c.args.numbers.now c.loop-number.number-index 0 c.loop-number-test.true)

pub bounds-fresh-edge : goal.bounds-fresh-edge
bounds-fresh-edge c = omega (arith, edge_from c.args.subject.now.unfolded.now _ c.edge_at-edge.result c.requires.unfolded.unfolded c.edge_at-edge.ensures, c.requires.long)

pub add_exits-requires-clause-small : goal.add_exits-requires-clause-small
add_exits-requires-clause-small c =
    let fresh = c.args.fresh.now in
    let edge = c.edge_at-edge.result in
    let item = c.index-fresh-edge.result in
    λ source l. c.requires.small edge.from source (record {
      list = item;
      stands =
          slice_get-get_or fresh edge.from item (omega (arith, edge_from c.args.subject.now.unfolded.now _ edge c.requires.unfolded.unfolded c.edge_at-edge.ensures, c.requires.long))
          ∙ ap Some (sym c.index-fresh-edge.is);
      listed = subst (λ (xs : List (List ℕ)). Contains xs source) c.as_slice-sources.ensures l;
    })

pub add_exits-requires-clause-node : goal.add_exits-requires-clause-node
add_exits-requires-clause-node c = edge_from c.args.subject.now.unfolded.now _ c.edge_at-edge.result c.requires.unfolded.unfolded c.edge_at-edge.ensures

pub returns-in_err-add_exits-clause-kept : goal.returns-in_err-add_exits-clause-kept
returns-in_err-add_exits-clause-kept c = keeps_twice c.args.table.now c.loop-number.table c.add_exits.new.table c.loop-number.invariant.kept c.add_exits.ensures.kept

pub loop-number-preserved : goal.loop-number-preserved
loop-number-preserved c =
    let s = c.args.subject.now in
    let u = s.unfolded.now in
    let numbers = c.args.numbers.now in
    let fresh = c.args.fresh.now in
    let i = c.loop-number.number-index in
    let number = get_or numbers i 0 in
    let edge = c.edge_at-edge.result in
    let item = c.index-fresh-edge.result in
    let sources = c.as_slice-sources.result.now in
    let listed : slice_get fresh edge.from ≡ Some sources =
    slice_get-get_or fresh edge.from item (omega (arith, edge_from u number edge c.requires.unfolded.unfolded c.edge_at-edge.ensures, c.requires.long))
    ∙ ap Some (sym c.index-fresh-edge.is ∙ sym c.as_slice-sources.ensures) in record {
      exits =
          among_more u s.machine.now s.classes.now fresh (take i numbers) (take (i + 1) numbers) number edge sources c.loop-number.arrivals.items c.add_exits.new.arrivals.items
          (take_more numbers i 0 c.loop-number-test.true) c.edge_at-edge.ensures listed c.in_ok-add_exits.ensures.exits c.loop-number.invariant.exits;
      right = c.in_ok-add_exits.ensures.right;
      kept = keeps_twice c.args.table.now c.loop-number.table c.add_exits.new.table c.loop-number.invariant.kept c.add_exits.ensures.kept;
    }

pub returns-clause-arrivals : goal.returns-clause-arrivals
returns-clause-arrivals c =
    let s = c.args.subject.now in
    subst (λ (xs : List ℕ). (slots : List ℕ) → Contains c.loop-number.arrivals.items slots ↔ IsExitAmong s.unfolded.now s.machine.now s.classes.now xs c.args.fresh.now slots)
    (take_all c.loop-number.number-index c.args.numbers.now (omega arith)) c.loop-number.invariant.exits
