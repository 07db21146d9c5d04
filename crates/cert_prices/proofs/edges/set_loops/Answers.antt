use Rattle.std.proofs.Common.{◌<◌, ◌^◌, ℕ, List, All, length, subst, sym, ap, arith}
use Rattle.std.proofs.lemmas.List.Elements.{All-replicate}
use Rattle.flow_ctx.specs.declared.unfolded.ULoop.{ULoop}
use Rattle.cert_prices.proofs.AmongLemmas.{given_more}
use Rattle.cert_prices.proofs.BackLemmas.{all_given, backs_lead, edges_within, entries_lead, none_given}
use Rattle.cert_prices.proofs.ReadLemmas.{element}
use Rattle.cert_prices.proofs.SetLemmas.{sets_below}
use Rattle.cert_prices.proofs.edges.set_loops.Goals as goal

pub loop-number-init : goal.loop-number-init
loop-number-init c =
    let count = length c.args.u.now.edges in
    record {
      entering = none_given (λ (l : ULoop). l.entries) count c.args.entries.now c.args.entering.now c.requires.entering;
      returning = none_given (λ (l : ULoop). l.back) count c.args.backs.now c.args.returning.now c.requires.returning;
      small_entering = subst (λ (ps : List ℕ). All (λ price. price < 2 ^ 126) ps) (sym c.requires.entering) (All-replicate (λ price. price < 2 ^ 126) count 0 (omega arith));
      small_returning = subst (λ (ps : List ℕ). All (λ price. price < 2 ^ 126) ps) (sym c.requires.returning) (All-replicate (λ price. price < 2 ^ 126) count 0 (omega arith));
    }

pub set_loop-requires-clause-entries : goal.set_loop-requires-clause-entries
set_loop-requires-clause-entries c =
    let u = c.args.u.now in
    let i = c.loop-number.number in
    let l = c.index-loops-number.result in
    let at = element u.loops c.as_slice-loops.result.now i l c.as_slice-loops.ensures c.loop-number-test.true c.index-loops-number.is in
    edges_within u.edges (λ (l : ULoop). l.entries) u.loops i l (length c.loop-number.entering) (entries_lead u.program u c.requires.unfolding) at c.loop-number.invariant.entering.long

pub set_loop-requires-clause-backs : goal.set_loop-requires-clause-backs
set_loop-requires-clause-backs c =
    let u = c.args.u.now in
    let i = c.loop-number.number in
    let l = c.index-loops-number.result in
    let at = element u.loops c.as_slice-loops.result.now i l c.as_slice-loops.ensures c.loop-number-test.true c.index-loops-number.is in
    edges_within u.edges (λ (l : ULoop). l.back) u.loops i l (length c.loop-number.returning) (backs_lead u.program u c.requires.unfolding) at c.loop-number.invariant.returning.long

pub loop-number-preserved : goal.loop-number-preserved
loop-number-preserved c =
    let u = c.args.u.now in
    let i = c.loop-number.number in
    let l = c.index-loops-number.result in
    let at = element u.loops c.as_slice-loops.result.now i l c.as_slice-loops.ensures c.loop-number-test.true c.index-loops-number.is in
    let same = ap length c.as_slice-loops.ensures in
    let within : i < length u.loops = omega (arith, same) in
    let up = c.requires.unfolding.loops.ascending in
    let count = length u.edges in
    let entry : i < length c.args.entries.now = omega (arith, same) in
    let back : i < length c.args.backs.now = omega (arith, same) in
    record {
      entering = given_more u.edges (λ (l : ULoop). l.entries) u.loops (entries_lead u.program u c.requires.unfolding) up c.args.entries.now i count l c.loop-number.entering
          c.set_loop.new.entering within at c.set_loop.ensures.entering c.loop-number.invariant.entering;
      returning = given_more u.edges (λ (l : ULoop). l.back) u.loops (backs_lead u.program u c.requires.unfolding) up c.args.backs.now i count l c.loop-number.returning
          c.set_loop.new.returning within at c.set_loop.ensures.returning c.loop-number.invariant.returning;
      small_entering = sets_below l.entries _ (2 ^ 126) c.loop-number.entering c.set_loop.new.entering c.set_loop.ensures.entering (c.requires.small_entries i 0 entry) c.loop-number.invariant.small_entering;
      small_returning = sets_below l.back _ (2 ^ 126) c.loop-number.returning c.set_loop.new.returning c.set_loop.ensures.returning (c.requires.small_backs i 0 back) c.loop-number.invariant.small_returning;
    }

pub returns-clause-entering : goal.returns-clause-entering
returns-clause-entering c =
    let u = c.args.u.now in
    let same = ap length c.as_slice-loops.ensures in
    all_given (λ (l : ULoop). l.entries) u.loops c.loop-number.number (length u.edges) c.args.entries.now c.loop-number.entering (omega (arith, same)) c.loop-number.invariant.entering

pub returns-clause-returning : goal.returns-clause-returning
returns-clause-returning c =
    let u = c.args.u.now in
    let same = ap length c.as_slice-loops.ensures in
    all_given (λ (l : ULoop). l.back) u.loops c.loop-number.number (length u.edges) c.args.backs.now c.loop-number.returning (omega (arith, same)) c.loop-number.invariant.returning
