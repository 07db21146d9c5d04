-- The base ends at the first comma, and the last bytes tell the three forms apart.
use Rattle.std.proofs.Common.{◌≡◌, ◌++◌, refl, codes}
use Rattle.arm_code.specs.declared.insn.Index.TheVariants.{Plain, Pre, Post}
use Rattle.arm_text.specs.Names.{register_name}
use Rattle.arm_text.specs.Text.{further}
use Rattle.arm_text.proofs.Shapes.{some_is}
use Rattle.arm_text.proofs.AddressParts.{head_of, rest_of, address_is, split_is, not_closed, cut, ends, not_marked_at}
use Rattle.arm_text.proofs.addresses.split_address.Goals as goal

pub returns-in_err-behind-clause-complete : goal.returns-in_err-behind-clause-complete
returns-in_err-behind-clause-complete c index base by below same =
    absurd (c.in_err-behind.ensures (head_of index base ++ further (rest_of index by))
    (search (address_is index base by c.args.text.now same, c.as_slice.ensures)))

pub returns-in_err-base-clause-complete : goal.returns-in_err-base-clause-complete
returns-in_err-base-clause-complete c index base by below same =
    let is = split_is index base by c.args.text.now c.as_slice.result.now c.in_ok-behind.field-0.now below same c.as_slice.ensures c.in_ok-behind.ensures in
    absurd (c.in_err-base.ensures.complete (head_of index base) (rest_of index by) is.without is.parts)

pub returns-in_err-read_register-clause-complete : goal.returns-in_err-read_register-clause-complete
returns-in_err-read_register-clause-complete c Plain base by below same =
    let is = split_is Plain base by c.args.text.now c.as_slice.result.now c.in_ok-behind.field-0.now below same c.as_slice.ensures c.in_ok-behind.ensures in
    let parts = c.in_ok-base.ensures.complete (head_of Plain base) (rest_of Plain by) is.without is.parts in
    absurd (not_closed base c.in_ok-base.base.now c.in-Some.base.now c.as_slice-2.result.now below parts.0 c.as_slice-2.ensures c.in-Some.ensures)
returns-in_err-read_register-clause-complete c Pre base by below same =
    let is = split_is Pre base by c.args.text.now c.as_slice.result.now c.in_ok-behind.field-0.now below same c.as_slice.ensures c.in_ok-behind.ensures in
    let parts = c.in_ok-base.ensures.complete (head_of Pre base) (rest_of Pre by) is.without is.parts in
    absurd (not_closed base c.in_ok-base.base.now c.in-Some.base.now c.as_slice-2.result.now below parts.0 c.as_slice-2.ensures c.in-Some.ensures)
returns-in_err-read_register-clause-complete c Post base by below same =
    let is = split_is Post base by c.args.text.now c.as_slice.result.now c.in_ok-behind.field-0.now below same c.as_slice.ensures c.in_ok-behind.ensures in
    let parts = c.in_ok-base.ensures.complete (head_of Post base) (rest_of Post by) is.without is.parts in
    let inner : c.in-Some.base.now ≡ register_name base = cut c.in_ok-base.base.now c.in-Some.base.now (register_name base) c.as_slice-2.result.now (codes "]") parts.0 c.as_slice-2.ensures c.in-Some.ensures in
    let read = c.in_err-read_register.ensures.complete base below inner in
    absurd (cc)

pub returns-in-Some-clause-complete : goal.returns-in-Some-clause-complete
returns-in-Some-clause-complete c Plain base by below same =
    let is = split_is Plain base by c.args.text.now c.as_slice.result.now c.in_ok-behind.field-0.now below same c.as_slice.ensures c.in_ok-behind.ensures in
    let parts = c.in_ok-base.ensures.complete (head_of Plain base) (rest_of Plain by) is.without is.parts in
    absurd (not_closed base c.in_ok-base.base.now c.in-Some.base.now c.as_slice-2.result.now below parts.0 c.as_slice-2.ensures c.in-Some.ensures)
returns-in-Some-clause-complete c Pre base by below same =
    let is = split_is Pre base by c.args.text.now c.as_slice.result.now c.in_ok-behind.field-0.now below same c.as_slice.ensures c.in_ok-behind.ensures in
    let parts = c.in_ok-base.ensures.complete (head_of Pre base) (rest_of Pre by) is.without is.parts in
    absurd (not_closed base c.in_ok-base.base.now c.in-Some.base.now c.as_slice-2.result.now below parts.0 c.as_slice-2.ensures c.in-Some.ensures)
returns-in-Some-clause-complete c Post base by below same =
    let is = split_is Post base by c.args.text.now c.as_slice.result.now c.in_ok-behind.field-0.now below same c.as_slice.ensures c.in_ok-behind.ensures in
    let parts = c.in_ok-base.ensures.complete (head_of Post base) (rest_of Post by) is.without is.parts in
    let inner : c.in-Some.base.now ≡ register_name base = cut c.in_ok-base.base.now c.in-Some.base.now (register_name base) c.as_slice-2.result.now (codes "]") parts.0 c.as_slice-2.ensures c.in-Some.ensures in
    (refl, some_is (c.in_ok-read_register.ensures.complete base below inner), parts.1)

pub returns-in_err-base-2-clause-complete : goal.returns-in_err-base-2-clause-complete
returns-in_err-base-2-clause-complete c Plain base by below same =
    let is = split_is Plain base by c.args.text.now c.as_slice.result.now c.in_ok-behind.field-0.now below same c.as_slice.ensures c.in_ok-behind.ensures in
    let parts = c.in_ok-base.ensures.complete (head_of Plain base) (rest_of Plain by) is.without is.parts in
    let read = c.in_err-base-2.ensures.complete base below parts.0 in
    absurd (cc)
returns-in_err-base-2-clause-complete c Pre base by below same =
    let is = split_is Pre base by c.args.text.now c.as_slice.result.now c.in_ok-behind.field-0.now below same c.as_slice.ensures c.in_ok-behind.ensures in
    let parts = c.in_ok-base.ensures.complete (head_of Pre base) (rest_of Pre by) is.without is.parts in
    let read = c.in_err-base-2.ensures.complete base below parts.0 in
    absurd (cc)
returns-in_err-base-2-clause-complete c Post base by below same =
    let is = split_is Post base by c.args.text.now c.as_slice.result.now c.in_ok-behind.field-0.now below same c.as_slice.ensures c.in_ok-behind.ensures in
    let parts = c.in_ok-base.ensures.complete (head_of Post base) (rest_of Post by) is.without is.parts in
    absurd (c.in_default.ensures (register_name base) (ends c.in_ok-base.base.now (register_name base) c.as_slice-2.result.now (codes "]") parts.0 c.as_slice-2.ensures))

pub returns-in-Some-before-clause-complete : goal.returns-in-Some-before-clause-complete
returns-in-Some-before-clause-complete c Plain base by below same =
    let is = split_is Plain base by c.args.text.now c.as_slice.result.now c.in_ok-behind.field-0.now below same c.as_slice.ensures c.in_ok-behind.ensures in
    let parts = c.in_ok-base.ensures.complete (head_of Plain base) (rest_of Plain by) is.without is.parts in
    absurd (not_marked_at c.in_ok-base.rest.now c.in-Some-before.by.now by c.as_slice-3.result.now parts.1 c.as_slice-3.ensures c.in-Some-before.ensures)
returns-in-Some-before-clause-complete c Pre base by below same =
    let is = split_is Pre base by c.args.text.now c.as_slice.result.now c.in_ok-behind.field-0.now below same c.as_slice.ensures c.in_ok-behind.ensures in
    let parts = c.in_ok-base.ensures.complete (head_of Pre base) (rest_of Pre by) is.without is.parts in
    (refl, some_is (c.in_ok-base-2.ensures.complete base below parts.0), cut c.in_ok-base.rest.now c.in-Some-before.by.now by c.as_slice-3.result.now (codes "]!") parts.1 c.as_slice-3.ensures c.in-Some-before.ensures)
returns-in-Some-before-clause-complete c Post base by below same =
    let is = split_is Post base by c.args.text.now c.as_slice.result.now c.in_ok-behind.field-0.now below same c.as_slice.ensures c.in_ok-behind.ensures in
    let parts = c.in_ok-base.ensures.complete (head_of Post base) (rest_of Post by) is.without is.parts in
    absurd (c.in_default.ensures (register_name base) (ends c.in_ok-base.base.now (register_name base) c.as_slice-2.result.now (codes "]") parts.0 c.as_slice-2.ensures))

pub returns-in_err-before-clause-complete : goal.returns-in_err-before-clause-complete
returns-in_err-before-clause-complete c Plain base by below same =
    let is = split_is Plain base by c.args.text.now c.as_slice.result.now c.in_ok-behind.field-0.now below same c.as_slice.ensures c.in_ok-behind.ensures in
    let parts = c.in_ok-base.ensures.complete (head_of Plain base) (rest_of Plain by) is.without is.parts in
    absurd (c.in_err-before.ensures by (ends c.in_ok-base.rest.now by c.as_slice-4.result.now (codes "]") parts.1 c.as_slice-4.ensures))
returns-in_err-before-clause-complete c Pre base by below same =
    let is = split_is Pre base by c.args.text.now c.as_slice.result.now c.in_ok-behind.field-0.now below same c.as_slice.ensures c.in_ok-behind.ensures in
    let parts = c.in_ok-base.ensures.complete (head_of Pre base) (rest_of Pre by) is.without is.parts in
    absurd (c.in_default-before.ensures by (ends c.in_ok-base.rest.now by c.as_slice-3.result.now (codes "]!") parts.1 c.as_slice-3.ensures))
returns-in_err-before-clause-complete c Post base by below same =
    let is = split_is Post base by c.args.text.now c.as_slice.result.now c.in_ok-behind.field-0.now below same c.as_slice.ensures c.in_ok-behind.ensures in
    let parts = c.in_ok-base.ensures.complete (head_of Post base) (rest_of Post by) is.without is.parts in
    absurd (c.in_default.ensures (register_name base) (ends c.in_ok-base.base.now (register_name base) c.as_slice-2.result.now (codes "]") parts.0 c.as_slice-2.ensures))

pub returns-clause-complete : goal.returns-clause-complete
returns-clause-complete c Plain base by below same =
    let is = split_is Plain base by c.args.text.now c.as_slice.result.now c.in_ok-behind.field-0.now below same c.as_slice.ensures c.in_ok-behind.ensures in
    let parts = c.in_ok-base.ensures.complete (head_of Plain base) (rest_of Plain by) is.without is.parts in
    (refl, some_is (c.in_ok-base-2.ensures.complete base below parts.0), cut c.in_ok-base.rest.now c.in_ok-before.field-0.now by c.as_slice-4.result.now (codes "]") parts.1 c.as_slice-4.ensures c.in_ok-before.ensures)
returns-clause-complete c Pre base by below same =
    let is = split_is Pre base by c.args.text.now c.as_slice.result.now c.in_ok-behind.field-0.now below same c.as_slice.ensures c.in_ok-behind.ensures in
    let parts = c.in_ok-base.ensures.complete (head_of Pre base) (rest_of Pre by) is.without is.parts in
    absurd (c.in_default-before.ensures by (ends c.in_ok-base.rest.now by c.as_slice-3.result.now (codes "]!") parts.1 c.as_slice-3.ensures))
returns-clause-complete c Post base by below same =
    let is = split_is Post base by c.args.text.now c.as_slice.result.now c.in_ok-behind.field-0.now below same c.as_slice.ensures c.in_ok-behind.ensures in
    let parts = c.in_ok-base.ensures.complete (head_of Post base) (rest_of Post by) is.without is.parts in
    absurd (c.in_default.ensures (register_name base) (ends c.in_ok-base.base.now (register_name base) c.as_slice-2.result.now (codes "]") parts.0 c.as_slice-2.ensures))
