use Rattle.std.proofs.Common.{rules, Ok, Err, List, AllPairs, ◌<◌, ◌≡◌, Some, slice_get, subst, sym}
use Rattle.std.proofs.lemmas.List.Sorted.{answers_always}
use Rattle.flow_ctx.specs.declared.unfolded.ULoop.{ULoop}
use Rattle.cert_prices.proofs.FoundLemmas.{found}
use Rattle.cert_prices.proofs.TotalLemmas.{start_nowhere, start_there}
use Rattle.cert_prices.proofs.start.start_price.Goals as goal

pub returns-in-Ok-clause-price : goal.returns-in-Ok-clause-price
returns-in-Ok-clause-price c =
    let loops = c.as_slice.result.now in
    let u = c.args.u.now in
    let up = subst (AllPairs (λ l m. l.head < m.head)) (sym c.as_slice.ensures) c.requires.unfolding.loops.ascending in
    let by_key = c.in-Ok.ensures.position (λ l. l.head) (answers_always _ _ _ (λ f a r g called. search rules)) in
    let f = found (λ l. l.head) loops u.start up (Ok c.in-Ok.at) c.in-Ok.ensures.bound by_key in
    sym (start_there u.loops c.args.prices.now u.start c.in-Ok.at f.there.0 c.requires.unfolding.loops.ascending
    (subst (λ (ls : List ULoop). slice_get ls c.in-Ok.at ≡ Some f.there.0) c.as_slice.ensures f.there.1) f.there.2)

pub returns-in-Err-clause-price : goal.returns-in-Err-clause-price
returns-in-Err-clause-price c =
    let loops = c.as_slice.result.now in
    let u = c.args.u.now in
    let up = subst (AllPairs (λ l m. l.head < m.head)) (sym c.as_slice.ensures) c.requires.unfolding.loops.ascending in
    let by_key = c.in-Err.ensures.position (λ l. l.head) (answers_always _ _ _ (λ f a r g called. search rules)) in
    let f = found (λ l. l.head) loops u.start up (Err c.in-Err.field-0) c.in-Err.ensures.bound by_key in
    sym (start_nowhere u.loops c.args.prices.now u.start
    (λ k l e same. f.nowhere k l (subst (λ (ls : List ULoop). slice_get ls k ≡ Some l) (sym c.as_slice.ensures) e) same))
