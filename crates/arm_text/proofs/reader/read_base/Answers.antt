-- Only a changed base is marked.
use Rattle.std.proofs.Common.{◌≡◌, ℕ, true, false, Bool, codes, ◌∙◌, ap}
use Rattle.std.proofs.lemmas.List.{append-nil}
use Rattle.std.specs.Option.{option_map}
use Rattle.arm_text.specs.Names.{register_name}
use Rattle.arm_text.proofs.AddressParts.{cut, ends}
use Rattle.arm_text.proofs.OperandParts.{unmarked_base}
use Rattle.arm_text.proofs.reader.read_base.Goals as goal

pub returns-in_err-read_register-in-Some-clause-complete : goal.returns-in_err-read_register-in-Some-clause-complete
returns-in_err-read_register-in-Some-clause-complete c true base below same =
    let inner : c.in-Some.base.now ≡ register_name base = cut c.args.text.now c.in-Some.base.now (register_name base) c.as_slice.result.now (codes "!") same c.as_slice.ensures c.in-Some.ensures in
    let read = c.in_err-read_register-in-Some.ensures.complete base below inner in
    absurd (cc)
returns-in_err-read_register-in-Some-clause-complete c false base below same =
    absurd (unmarked_base base c.args.text.now c.in-Some.base.now c.as_slice.result.now below same c.as_slice.ensures c.in-Some.ensures)

pub returns-in_ok-read_register-in-Some-clause-complete : goal.returns-in_ok-read_register-in-Some-clause-complete
returns-in_ok-read_register-in-Some-clause-complete c true base below same =
    let inner : c.in-Some.base.now ≡ register_name base = cut c.args.text.now c.in-Some.base.now (register_name base) c.as_slice.result.now (codes "!") same c.as_slice.ensures c.in-Some.ensures in
    let by_base : ℕ → Bool × ℕ = λ k. (true, k) in
    ap (option_map by_base) (c.in_ok-read_register-in-Some.ensures.complete base below inner)
returns-in_ok-read_register-in-Some-clause-complete c false base below same =
    absurd (unmarked_base base c.args.text.now c.in-Some.base.now c.as_slice.result.now below same c.as_slice.ensures c.in-Some.ensures)

pub returns-in_err-read_register-in-None-clause-complete : goal.returns-in_err-read_register-in-None-clause-complete
returns-in_err-read_register-in-None-clause-complete c true base below same =
    absurd (c.in-None.ensures (register_name base) (ends c.args.text.now (register_name base) c.as_slice.result.now (codes "!") same c.as_slice.ensures))
returns-in_err-read_register-in-None-clause-complete c false base below same =
    let read = c.in_err-read_register-in-None.ensures.complete base below (same ∙ append-nil (register_name base)) in
    absurd (cc)

pub returns-in_ok-read_register-in-None-clause-complete : goal.returns-in_ok-read_register-in-None-clause-complete
returns-in_ok-read_register-in-None-clause-complete c true base below same =
    absurd (c.in-None.ensures (register_name base) (ends c.args.text.now (register_name base) c.as_slice.result.now (codes "!") same c.as_slice.ensures))
returns-in_ok-read_register-in-None-clause-complete c false base below same =
    let by_base : ℕ → Bool × ℕ = λ k. (false, k) in
    ap (option_map by_base) (c.in_ok-read_register-in-None.ensures.complete base below (same ∙ append-nil (register_name base)))
