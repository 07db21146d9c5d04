use Rattle.std.proofs.Common.{rules, Ok, Err, arith}
use Rattle.std.specs.Prelude.{◌<◌}
use Rattle.std.specs.List.{AllPairs}
use Rattle.std.proofs.lemmas.List.Sorted.{answers_always}
use Rattle.std.proofs.Common.{subst, sym, ◌≡◌}
use Rattle.flow_ctx.proofs.Keys.{place_bound, searched}
use Rattle.flow_ctx.proofs.SearchLemmas.{no_block, block_found, block_nowhere}
use Rattle.flow_ctx.proofs.search.block_at.Goals as goal

pub overflow_cast-result : goal.overflow_cast-result
overflow_cast-result c =
    let list = c.as_slice-blocks.result.now in
    let up = subst (AllPairs (λ b c. b.start < c.start)) (sym c.as_slice-blocks.ensures) c.requires.blocks in
    let by_key = c.in-Ok.ensures.position (λ b. b.start) (answers_always _ _ _ (λ f a r g called. search rules)) in
    let s = searched (λ b. b.start) list up c.args.start no_block (Ok c.in-Ok.at) c.in-Ok.ensures.bound by_key in
    omega (arith, place_bound (λ b. b.start) list up c.in-Ok.at no_block c.in-Ok.ensures.bound, s.is)

pub returns-in-Ok : goal.returns-in-Ok
returns-in-Ok c =
    let list = c.as_slice-blocks.result.now in
    let up = subst (AllPairs (λ b c. b.start < c.start)) (sym c.as_slice-blocks.ensures) c.requires.blocks in
    let by_key = c.in-Ok.ensures.position (λ b. b.start) (answers_always _ _ _ (λ f a r g called. search rules)) in
    let s = searched (λ b. b.start) list up c.args.start no_block (Ok c.in-Ok.at) c.in-Ok.ensures.bound by_key in
    block_found c.args.function.now c.args.start list c.in-Ok.at c.as_slice-blocks.ensures c.in-Ok.ensures.bound s.is

pub returns-in-Err : goal.returns-in-Err
returns-in-Err c =
    let list = c.as_slice-blocks.result.now in
    let up = subst (AllPairs (λ b c. b.start < c.start)) (sym c.as_slice-blocks.ensures) c.requires.blocks in
    let by_key = c.in-Err.ensures.position (λ b. b.start) (answers_always _ _ _ (λ f a r g called. search rules)) in
    let s = searched (λ b. b.start) list up c.args.start no_block (Err c.in-Err.field-0) c.in-Err.ensures.bound by_key in
    block_nowhere c.args.function.now c.args.start list c.as_slice-blocks.ensures s.nowhere
