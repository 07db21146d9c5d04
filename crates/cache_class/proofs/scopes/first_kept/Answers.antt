use Rattle.std.proofs.Common.{◌<◌, ◌∙◌, get_or, length, sym, arith}
use Rattle.std.proofs.lemmas.Bool.{false≢true}
use Rattle.std.proofs.lemmas.List.Elements.{Contains-get_or}
use Rattle.std.proofs.lemmas.Option.{slice_get-get_or}
use Rattle.cache_class.proofs.KeptLemmas.{halved_all, halved_high, halved_low}
use Rattle.cache_class.proofs.scopes.first_kept.Goals as goal

pub is_kept_in_loop-requires-clause-number : goal.is_kept_in_loop-requires-clause-number
is_kept_in_loop-requires-clause-number c =
    let chain = c.args.chain.now in
    let middle = c.middle_of-middle.result in
    let inside : middle < length chain = omega (arith, c.halving.invariant.within, c.middle_of-middle.ensures.high) in
    ((c.requires.chain.exact (get_or chain middle 0)).0 (Contains-get_or chain middle 0 inside)).0

pub is_kept_in_loop-requires-clause-member : goal.is_kept_in_loop-requires-clause-member
is_kept_in_loop-requires-clause-member c =
    let chain = c.args.chain.now in
    let middle = c.middle_of-middle.result in
    let inside : middle < length chain = omega (arith, c.halving.invariant.within, c.middle_of-middle.ensures.high) in
    ((c.requires.chain.exact (get_or chain middle 0)).0 (Contains-get_or chain middle 0 inside)).1

pub halving-preserved-then-branch : goal.halving-preserved-then-branch
halving-preserved-then-branch c =
    let tables = c.args.tables.now in
    let a = c.args.access in
    let chain = c.args.chain.now in
    let middle = c.middle_of-middle.result in
    let inside : middle < length chain = omega (arith, c.halving.invariant.within, c.middle_of-middle.ensures.high) in
    halved_high tables.shape tables.u.now tables.flow a.node a.place a.line chain c.halving.low c.halving.high middle (get_or chain middle 0) c.halving.invariant
    c.middle_of-middle.ensures.low c.middle_of-middle.ensures.high (slice_get-get_or chain middle 0 inside) (c.in_ok-is_kept_in_loop.ensures.0 c.if-branch.true)

pub halving-preserved : goal.halving-preserved
halving-preserved c =
    let tables = c.args.tables.now in
    let a = c.args.access in
    let chain = c.args.chain.now in
    let middle = c.middle_of-middle.result in
    let inside : middle < length chain = omega (arith, c.halving.invariant.within, c.middle_of-middle.ensures.high) in
    halved_low tables.shape tables.u.now tables.flow a.node a.place a.line tables.chains.are_nested chain c.halving.low c.halving.high middle (get_or chain middle 0)
    c.requires.chain c.halving.invariant c.middle_of-middle.ensures.low c.middle_of-middle.ensures.high c.middle_of-middle.ensures.first (slice_get-get_or chain middle 0 inside)
    (λ is. false≢true (sym c.if-branch.false ∙ c.in_ok-is_kept_in_loop.ensures.1 is))

pub returns : goal.returns
returns c =
    let tables = c.args.tables.now in
    let a = c.args.access in
    halved_all tables.shape tables.u.now tables.flow a.node a.place a.line c.args.chain.now c.halving.low c.halving.high c.halving.invariant c.halving-test.false
