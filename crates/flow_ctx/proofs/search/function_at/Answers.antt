use Rattle.std.proofs.Common.{rules, Ok, Err, arith}
use Rattle.std.specs.Prelude.{◌<◌}
use Rattle.std.specs.List.{AllPairs}
use Rattle.std.proofs.lemmas.List.Sorted.{answers_always}
use Rattle.std.proofs.Common.{subst, sym, ◌≡◌}
use Rattle.flow_ctx.proofs.Keys.{place_bound, searched}
use Rattle.flow_ctx.proofs.SearchLemmas.{no_function, function_found, function_nowhere}
use Rattle.flow_ctx.proofs.search.function_at.Goals as goal

pub overflow_cast-result : goal.overflow_cast-result
overflow_cast-result c =
    let list = c.as_slice-functions.result.now in
    let up = subst (AllPairs (λ f g. f.entry < g.entry)) (sym c.as_slice-functions.ensures) c.requires.functions in
    let by_key = c.in-Ok.ensures.position (λ f. f.entry) (answers_always _ _ _ (λ f a r g called. search rules)) in
    let s = searched (λ f. f.entry) list up c.args.entry no_function (Ok c.in-Ok.at) c.in-Ok.ensures.bound by_key in
    omega (arith, place_bound (λ f. f.entry) list up c.in-Ok.at no_function c.in-Ok.ensures.bound, s.is)

pub returns-in-Ok : goal.returns-in-Ok
returns-in-Ok c =
    let list = c.as_slice-functions.result.now in
    let up = subst (AllPairs (λ f g. f.entry < g.entry)) (sym c.as_slice-functions.ensures) c.requires.functions in
    let by_key = c.in-Ok.ensures.position (λ f. f.entry) (answers_always _ _ _ (λ f a r g called. search rules)) in
    let s = searched (λ f. f.entry) list up c.args.entry no_function (Ok c.in-Ok.at) c.in-Ok.ensures.bound by_key in
    function_found c.args.program.now c.args.entry list c.in-Ok.at c.as_slice-functions.ensures c.in-Ok.ensures.bound s.is

pub returns-in-Err : goal.returns-in-Err
returns-in-Err c =
    let list = c.as_slice-functions.result.now in
    let up = subst (AllPairs (λ f g. f.entry < g.entry)) (sym c.as_slice-functions.ensures) c.requires.functions in
    let by_key = c.in-Err.ensures.position (λ f. f.entry) (answers_always _ _ _ (λ f a r g called. search rules)) in
    let s = searched (λ f. f.entry) list up c.args.entry no_function (Err c.in-Err.field-0) c.in-Err.ensures.bound by_key in
    function_nowhere c.args.program.now c.args.entry list c.as_slice-functions.ensures s.nowhere
