use Rattle.std.proofs.lemmas.Result.{err_from_is_err_and}
use Rattle.std.proofs.Common.{inl, refl, arith, sym, ◌∙◌}
use Rattle.std.proofs.lemmas.Bool.{false≢true}
use Rattle.xdd_ops.proofs.NumberLemmas.{none_some}
use Rattle.xdd_ops.proofs.ReadLemmas.{refused_of, end_of, no_count}
use Rattle.xdd_ops.proofs.lines.read_lines.Goals as goal

pub returns-in_err-lines-clause-refused : goal.returns-in_err-lines-clause-refused
returns-in_err-lines-clause-refused c =
    let p = err_from_is_err_and c.from_residual.result c.from_residual.ensures.1 in
    rw (p.1, p.2) (refused_of c.new-cursor.result c.read_count.new.cursor c.in-Some.count c.args.bytes.now c.in_err-lines.field-0.0 c.new-cursor.ensures.place c.new-cursor.ensures.bytes c.in-Some.ensures.bytes
    c.in-Some.ensures.text c.in-Some.ensures.some (omega arith) c.in_err-lines.ensures.refused)

pub returns-then-not-at_end-clause-refused : goal.returns-then-not-at_end-clause-refused
returns-then-not-at_end-clause-refused c =
    end_of c.new-cursor.result c.read_count.new.cursor c.read_counted.new.cursor c.in-Some.count c.place.result c.args.bytes.now c.in_ok-lines.lines.items c.new-cursor.ensures.place c.new-cursor.ensures.bytes c.in-Some.ensures.bytes
    c.in_ok-lines.ensures.bytes c.in-Some.ensures.text c.in-Some.ensures.some (omega arith) c.in_ok-lines.ensures.count c.in_ok-lines.ensures.lines c.in_ok-lines.ensures.text c.place.ensures.place c.place.ensures.within (λ e. false≢true (sym c.if-not-at_end.true ∙ c.at_end.ensures.1 e))

pub returns-in_default-clause-refused : goal.returns-in_default-clause-refused
returns-in_default-clause-refused c =
    inl (refl, no_count c.new-cursor.result c.args.bytes.now c.new-cursor.ensures.place c.new-cursor.ensures.bytes (λ n tail some small e. none_some ⊥ n (c.in_default.ensures.again n tail some small e).0))
