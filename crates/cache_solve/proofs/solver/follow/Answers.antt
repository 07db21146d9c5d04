use Rattle.std.proofs.Common.{◌≡◌, ◌<◌, ℕ, List, [], ◌∷◌, length, get_or, true, sym, ap, subst, ◌∙◌, arith}
use Rattle.std.proofs.lemmas.List.{get_or_default}
use Rattle.std.proofs.lemmas.Option.{slice_get-get_or}
use Rattle.std.specs.List.{All, slice_set}
use Rattle.cache_ages.specs.Bounds.{is_one_of}
use Rattle.cache_flow.specs.Flows.{accesses_of}
use Rattle.cache_solve.specs.Systems.{AreSettled, IsOf}
use Rattle.cache_solve.proofs.Lists.{set_itself}
use Rattle.cache_solve.proofs.Solving.{alike_at, behind_as, of_as, raised_at, settled_at}
use Rattle.cache_solve.proofs.solver.follow.Goals as goal

pub behind-requires-clause-listed : goal.behind-requires-clause-listed
behind-requires-clause-listed g c =
    let s = g.S.State in
    let f = c.args.flow.now in
    let from = c.args.step.from in
    let states = c.args.states.now in
    let inside : from < length states = omega (arith, c.requires.from, c.requires.long) in
    let state = get_or states from c.index-states-from.result in
    let of = c.requires.alike.each from state (slice_get-get_or states from c.index-states-from.result inside) in
    let is : c.as_slice-accesses.result.now ≡ accesses_of f from =
    c.as_slice-accesses.ensures ∙ c.index-as_slice-from.is ∙ ap (λ ns. get_or ns from c.index-as_slice-from.result) c.as_slice.ensures ∙ get_or_default f.nodes from c.index-as_slice-from.result [] c.requires.from in
    let all = c.requires.flow.each from (accesses_of f from) (slice_get-get_or f.nodes from [] c.requires.from) in
    subst (λ (xs : List ℕ). All (λ line. is_one_of (s.lines_of state) line ≡ true) xs) (sym is)
    (subst (λ (ls : List ℕ). All (λ line. is_one_of ls line ≡ true) (accesses_of f from)) (sym of.of_lines) all)

pub take_in-requires-clause-shape : goal.take_in-requires-clause-shape
take_in-requires-clause-shape g c =
    let from = c.requires.alike.each c.args.step.from (get_or c.args.states.now c.args.step.from c.index-states-from.result)
    (slice_get-get_or c.args.states.now c.args.step.from c.index-states-from.result (omega (arith, c.requires.from, c.requires.long))) in
    let to = c.requires.alike.each c.args.step.to (get_or c.args.states.now c.args.step.to c.index-states-step.result)
    (slice_get-get_or c.args.states.now c.args.step.to c.index-states-step.result (omega (arith, c.requires.to, c.requires.long))) in
    c.in_ok-known.ensures.shape ∙ from.of_shape ∙ sym to.of_shape

pub take_in-requires-clause-lines : goal.take_in-requires-clause-lines
take_in-requires-clause-lines g c =
    let from = c.requires.alike.each c.args.step.from (get_or c.args.states.now c.args.step.from c.index-states-from.result)
    (slice_get-get_or c.args.states.now c.args.step.from c.index-states-from.result (omega (arith, c.requires.from, c.requires.long))) in
    let to = c.requires.alike.each c.args.step.to (get_or c.args.states.now c.args.step.to c.index-states-step.result)
    (slice_get-get_or c.args.states.now c.args.step.to c.index-states-step.result (omega (arith, c.requires.to, c.requires.long))) in
    c.in_ok-known.ensures.lines ∙ from.of_lines ∙ sym to.of_lines

pub returns-clause-alike : goal.returns-clause-alike
returns-clause-alike g c =
    let s = g.S.State in
    let t = c.order.ensures in
    let inside : c.args.step.to < length c.args.states.now = omega (arith, c.requires.to, c.requires.long) in
    let old = get_or c.args.states.now c.args.step.to c.index-states-step.result in
    let to = c.requires.alike.each c.args.step.to old (slice_get-get_or c.args.states.now c.args.step.to c.index-states-step.result inside) in
    let e = c.take_in.ensures in
    alike_at (IsOf s.known s.shape_of s.lines_of s.IsWithin c.args.shape c.args.flow.now.lines) c.args.states.now c.args.step.to c.take_in.new.self inside c.requires.alike
    (of_as s.known s.shape_of s.lines_of s.IsWithin s.Covers s.accessed t.joins t.stays t.keeps c.args.shape c.args.flow.now.lines old c.take_in.new.self to e.shape e.lines e.within)

pub returns-clause-raised : goal.returns-clause-raised
returns-clause-raised g c =
    let s = g.S.State in
    let t = c.order.ensures in
    let f = c.args.flow.now in
    let states = c.args.states.now in
    let step = c.args.step in
    let source = get_or states step.from c.index-states-from.result in
    let old = get_or states step.to c.index-states-step.result in
    let at_from = slice_get-get_or states step.from c.index-states-from.result (omega (arith, c.requires.from, c.requires.long)) in
    let at_to = slice_get-get_or states step.to c.index-states-step.result (omega (arith, c.requires.to, c.requires.long)) in
    let from = c.requires.alike.each step.from source at_from in
    let to = c.requires.alike.each step.to old at_to in
    let is : c.as_slice-accesses.result.now ≡ accesses_of f step.from =
    c.as_slice-accesses.ensures ∙ c.index-as_slice-from.is ∙ ap (λ ns. get_or ns step.from c.index-as_slice-from.result) c.as_slice.ensures ∙ get_or_default f.nodes step.from c.index-as_slice-from.result [] c.requires.from in
    let behind = behind_as s.known s.shape_of s.lines_of s.IsWithin s.Covers s.accessed t.joins t.stays t.keeps (s.shape_of source) c.args.shape (s.lines_of source) f.lines
    c.as_slice-accesses.result.now (accesses_of f step.from) source c.in_ok-known.known from.of_shape from.of_lines is c.in_ok-known.ensures.known in
    let new = c.take_in.new.self in
    raised_at (s.Covers f.lines) (s.accessed c.args.shape) s.known f (t.same f.lines) (t.joins f.lines) states step source old c.in_ok-known.known new at_from at_to behind
    (subst (λ (ls : List ℕ). s.Covers ls (s.known new) (s.known old)) to.of_lines c.take_in.ensures.grown)
    (subst (λ (ls : List ℕ). (joint : s.Known) → s.Covers ls joint (s.known old) → s.Covers ls joint (s.known c.in_ok-known.known) → s.Covers ls joint (s.known new)) to.of_lines c.take_in.ensures.least)

pub returns-clause-settled : goal.returns-clause-settled
returns-clause-settled g c still =
    let s = g.S.State in
    let t = c.order.ensures in
    let f = c.args.flow.now in
    let states = c.args.states.now in
    let step = c.args.step in
    let source = get_or states step.from c.index-states-from.result in
    let old = get_or states step.to c.index-states-step.result in
    let at_from = slice_get-get_or states step.from c.index-states-from.result (omega (arith, c.requires.from, c.requires.long)) in
    let at_to = slice_get-get_or states step.to c.index-states-step.result (omega (arith, c.requires.to, c.requires.long)) in
    let from = c.requires.alike.each step.from source at_from in
    let to = c.requires.alike.each step.to old at_to in
    let is : c.as_slice-accesses.result.now ≡ accesses_of f step.from =
    c.as_slice-accesses.ensures ∙ c.index-as_slice-from.is ∙ ap (λ ns. get_or ns step.from c.index-as_slice-from.result) c.as_slice.ensures ∙ get_or_default f.nodes step.from c.index-as_slice-from.result [] c.requires.from in
    let behind = behind_as s.known s.shape_of s.lines_of s.IsWithin s.Covers s.accessed t.joins t.stays t.keeps (s.shape_of source) c.args.shape (s.lines_of source) f.lines
    c.as_slice-accesses.result.now (accesses_of f step.from) source c.in_ok-known.known from.of_shape from.of_lines is c.in_ok-known.ensures.known in
    let new = c.take_in.new.self in
    let stands : new ≡ old = c.take_in.ensures.unchanged still in
    let covers = subst (λ (x : g.row.S.Denot). s.Covers f.lines (s.known x) (s.known c.in_ok-known.known)) stands
    (subst (λ (ls : List ℕ). s.Covers ls (s.known new) (s.known c.in_ok-known.known)) to.of_lines c.take_in.ensures.covers) in
    let same : slice_set states step.to new ≡ states = ap (slice_set states step.to) stands ∙ set_itself states step.to old at_to in
    subst (λ (xs : List g.row.S.Denot). AreSettled (s.Covers f.lines) (s.accessed c.args.shape) s.known f (step ∷ []) xs) (sym same)
    (settled_at (s.Covers f.lines) (s.accessed c.args.shape) s.known f (t.same f.lines) (t.joins f.lines) states step source old c.in_ok-known.known at_from at_to behind covers)
