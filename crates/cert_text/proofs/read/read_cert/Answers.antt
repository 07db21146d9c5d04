use Rattle.std.proofs.Common.{List, ap, sym, subst, ◌∙◌}
use Rattle.std.proofs.lemmas.Result.{err_from_is_err_and}
use Rattle.cert_lines.specs.Grammar.{Line, IsText}
use Rattle.cert_lines.specs.Reading.{lines_of}
use Rattle.cert_text.specs.declared.cert_error.CertError.TheVariants.{NoEnd}
use Rattle.cert_text.specs.Told.{certificate_of}
use Rattle.cert_text.specs.Writable.{IsWritable}
use Rattle.cert_text.proofs.ReadableLemmas.{writable_of}
use Rattle.cert_text.proofs.ReadLemmas.{AreLinesOf, items_due, none_due, front_is_cut, end_is}
use Rattle.cert_text.proofs.read.read_cert.Goals as goal

-- ---- what the lines tell is refused
pub returns-in_err-items-clause-due : goal.returns-in_err-items-clause-due
returns-in_err-items-clause-due c = λ e is other.
    let p = err_from_is_err_and c.from_residual-in_err-items.result c.from_residual-in_err-items.ensures.1 in
    let a : AreLinesOf c.args.bytes.now (lines_of c.as_slice.result.now) = record { one = λ v others text. ap lines_of c.as_slice.ensures ∙ (c.in_ok-lines.ensures.once v others text).1; right = c.in_ok-lines.ensures.due } in
    items_due c.args.bytes.now (lines_of c.as_slice.result.now) c.in_err-items.field-0.0 c.from_residual-in_err-items.result p.0 e p.1 p.2 a c.in_err-items.ensures.due is other

pub returns-in_err-items-clause-front : goal.returns-in_err-items-clause-front
returns-in_err-items-clause-front c = λ more d some text. returns-in_err-items-clause-due c NoEnd (front_is_cut c.args.bytes.now more d some text) end_is

-- ---- the certificate
pub returns-clause-due : goal.returns-clause-due
returns-clause-due c = λ e is other.
    let a : AreLinesOf c.args.bytes.now (lines_of c.as_slice.result.now) = record { one = λ v others text. ap lines_of c.as_slice.ensures ∙ (c.in_ok-lines.ensures.once v others text).1; right = c.in_ok-lines.ensures.due } in
    none_due c.args.bytes.now (lines_of c.as_slice.result.now) e a c.in_ok-items.ensures.due is other

pub returns-clause-front : goal.returns-clause-front
returns-clause-front c = λ more d some text. returns-clause-due c NoEnd (front_is_cut c.args.bytes.now more d some text) end_is

pub returns-clause-writable : goal.returns-clause-writable
returns-clause-writable c = λ small.
    let text : IsText c.args.bytes.now c.in_ok-lines.lines.version (lines_of c.as_slice.result.now) =
    subst (λ (l : List Line). IsText c.args.bytes.now c.in_ok-lines.lines.version l) (sym (ap lines_of c.as_slice.ensures)) c.in_ok-lines.ensures.read in
    let w : IsWritable (certificate_of c.in_ok-items.items.items) =
    writable_of c.args.bytes.now c.in_ok-lines.lines.version (lines_of c.as_slice.result.now) c.in_ok-items.items.items text c.in_ok-items.ensures.read small in
    subst IsWritable (sym (c.in_ok-certificate_in.ensures ∙ ap certificate_of c.as_slice-2.ensures.value)) w
