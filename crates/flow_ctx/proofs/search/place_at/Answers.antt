use Rattle.std.proofs.Common.{◌≡◌, ◌<◌, ℕ, List, length, slice_get, Some, ap, sym, subst, ◌∙◌, arith}
use Rattle.std.proofs.lemmas.Option.{slice_get_within}
use Rattle.flow_graph.specs.declared.program.Function.{Function}
use Rattle.flow_ctx.specs.Nodes.{entry_after}
use Rattle.flow_ctx.specs.Targets.{IsFunctionNumber}
use Rattle.flow_ctx.proofs.SearchLemmas.{begins_at, function_in_order, no_block_begins, no_function_begins, read_at}
use Rattle.flow_ctx.proofs.search.place_at.Goals as goal

pub returns-in_default : goal.returns-in_default
returns-in_default c =
    let program = c.args.program.now in
    let e : c.entry_of.result ≡ entry_after program.start c.args.chain.items = c.entry_of.ensures ∙ ap (entry_after program.start) c.as_slice.ensures.value in
    no_function_begins program c.requires c.args.chain.items c.args.start
    (subst (λ (x : ℕ). (n : ℕ) → IsFunctionNumber program x n → ⊥) e c.in_default.ensures)

pub bounds-as_slice-function : goal.bounds-as_slice-function
bounds-as_slice-function c =
    let f = c.in-Some.ensures in
    subst (λ (l : List Function). c.in-Some.function < length l) (sym c.as_slice-2.ensures) (slice_get_within c.args.program.now.functions c.in-Some.function f.function f.stands)

pub block_at-requires : goal.block_at-requires
block_at-requires c =
    let f = c.in-Some.ensures in
    let within = subst (λ (l : List Function). c.in-Some.function < length l) (sym c.as_slice-2.ensures) (slice_get_within c.args.program.now.functions c.in-Some.function f.function f.stands) in
    function_in_order c.args.program.now c.requires c.in-Some.function c.index-as_slice-function.result
    (read_at c.as_slice-2.result.now c.args.program.now.functions c.in-Some.function c.index-as_slice-function.result c.as_slice-2.ensures within c.index-as_slice-function.is)

pub returns-in_default-block_at : goal.returns-in_default-block_at
returns-in_default-block_at c =
    let program = c.args.program.now in
    let f = c.in-Some.ensures in
    let within = subst (λ (l : List Function). c.in-Some.function < length l) (sym c.as_slice-2.ensures) (slice_get_within program.functions c.in-Some.function f.function f.stands) in
    let e : c.entry_of.result ≡ entry_after program.start c.args.chain.items = c.entry_of.ensures ∙ ap (entry_after program.start) c.as_slice.ensures.value in
    no_block_begins program c.requires c.args.chain.items c.args.start c.in-Some.function c.index-as_slice-function.result
    (subst (λ (x : ℕ). IsFunctionNumber program x c.in-Some.function) e f)
    (read_at c.as_slice-2.result.now program.functions c.in-Some.function c.index-as_slice-function.result c.as_slice-2.ensures within c.index-as_slice-function.is)
    c.in_default-block_at.ensures

pub returns : goal.returns
returns c =
    let program = c.args.program.now in
    let f = c.in-Some.ensures in
    let within = subst (λ (l : List Function). c.in-Some.function < length l) (sym c.as_slice-2.ensures) (slice_get_within program.functions c.in-Some.function f.function f.stands) in
    let e : c.entry_of.result ≡ entry_after program.start c.args.chain.items = c.entry_of.ensures ∙ ap (entry_after program.start) c.as_slice.ensures.value in
    begins_at program c.args.chain.items c.args.start c.in-Some.function c.in-Some-block_at.block
    (subst (λ (x : ℕ). IsFunctionNumber program x c.in-Some.function) e f) c.index-as_slice-function.result
    (read_at c.as_slice-2.result.now program.functions c.in-Some.function c.index-as_slice-function.result c.as_slice-2.ensures within c.index-as_slice-function.is)
    c.in-Some-block_at.ensures
