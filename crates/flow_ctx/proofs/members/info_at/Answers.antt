use Rattle.std.proofs.Common.{rules, ◌≡◌, ℕ, List, length, get_or, Ok, Err, sym, subst}
use Rattle.std.specs.Prelude.{◌<◌}
use Rattle.std.specs.List.{AllPairs}
use Rattle.std.proofs.lemmas.List.Sorted.{answers_always}
use Rattle.flow_graph.specs.declared.program.LoopInfo.{LoopInfo}
use Rattle.flow_ctx.specs.Targets.{node_of}
use Rattle.flow_ctx.proofs.Keys.{searched}
use Rattle.flow_ctx.proofs.MemberLemmas.{head_nowhere, info_ascends, info_found, no_info, read_block}
use Rattle.flow_ctx.proofs.SearchLemmas.{function_in_order}
use Rattle.flow_ctx.proofs.members.info_at.Goals as goal

pub returns-in-Ok-clause-info : goal.returns-in-Ok-clause-info
returns-in-Ok-clause-info c =
    let program = c.args.program.now in
    let place = c.args.place.now in
    let f = c.function_of.result.now in
    let b = c.block_of.result.now in
    let list = c.as_slice-loops.result.now in
    let order = function_in_order program c.requires.order place.function f c.function_of.ensures in
    let up = subst (AllPairs (λ (l m : LoopInfo). l.head < m.head)) (sym c.as_slice-loops.ensures) order.loops in
    let by_key = c.in-Ok.ensures.position (λ l. l.head) (answers_always _ _ _ (λ f a r g called. search rules)) in
    let s = searched (λ (l : LoopInfo). l.head) list up b.start no_info (Ok c.in-Ok.at) c.in-Ok.ensures.bound by_key in
    let at = read_block program place f b c.requires.place c.function_of.ensures (c.block_of.ensures f c.function_of.ensures) in
    info_found program (node_of place) f b at list c.as_slice-loops.ensures c.in-Ok.at c.index-loops-at.result c.in-Ok.ensures.bound c.index-loops-at.is s.is

pub returns-in-Ok-clause-ascending : goal.returns-in-Ok-clause-ascending
returns-in-Ok-clause-ascending c =
    let program = c.args.program.now in
    let place = c.args.place.now in
    let f = c.function_of.result.now in
    let b = c.block_of.result.now in
    let list = c.as_slice-loops.result.now in
    let order = function_in_order program c.requires.order place.function f c.function_of.ensures in
    info_ascends f order list c.as_slice-loops.ensures c.in-Ok.at c.index-loops-at.result c.in-Ok.ensures.bound c.index-loops-at.is

pub returns-in-Err-clause-info : goal.returns-in-Err-clause-info
returns-in-Err-clause-info c =
    let program = c.args.program.now in
    let place = c.args.place.now in
    let f = c.function_of.result.now in
    let b = c.block_of.result.now in
    let list = c.as_slice-loops.result.now in
    let order = function_in_order program c.requires.order place.function f c.function_of.ensures in
    let up = subst (AllPairs (λ (l m : LoopInfo). l.head < m.head)) (sym c.as_slice-loops.ensures) order.loops in
    let by_key = c.in-Err.ensures.position (λ l. l.head) (answers_always _ _ _ (λ f a r g called. search rules)) in
    let s = searched (λ (l : LoopInfo). l.head) list up b.start no_info (Err c.in-Err.field-0) c.in-Err.ensures.bound by_key in
    let at = read_block program place f b c.requires.place c.function_of.ensures (c.block_of.ensures f c.function_of.ensures) in
    head_nowhere program (node_of place) f b at no_info
    (subst (λ (l : List LoopInfo). (j : ℕ) → j < length l → (get_or l j no_info).head ≡ b.start → ⊥) c.as_slice-loops.ensures s.nowhere)
