-- The test whether two instructions are the same finds just that.
use Rattle.std.proofs.Common.{◌≡◌, ℕ, ℤ, int_eq, eqb, ◌&&◌, ◌∙◌, Bool, true, false, Option, Some, None, ap, sym, subst, rules, refl}
use Rattle.std.proofs.lemmas.Bool.{and_parts, and_from, eqb-true, eq-eqb}
use Rattle.std.specs.Option.{option_eq}
use Rattle.std.specs.Bool.{beq}
use Rattle.arm_code.specs.declared.insn.Insn.{Insn}
use Rattle.arm_code.specs.declared.insn.Op.{Op}
use Rattle.arm_code.specs.declared.insn.Op.TheVariants as op
use Rattle.arm_code.specs.contracts.insn.InsnPartialEq.TheImpl as insn_eq
use Rattle.arm_code.specs.contracts.insn.OpPartialEq.TheImpl as op_eq
use Rattle.arm_code.specs.declared.insn.Operand.{Operand}
use Rattle.arm_code.specs.contracts.insn.OperandPartialEq.TheImpl as operand_eq
use Rattle.arm_code.specs.declared.insn.Offset.{Offset}
use Rattle.arm_code.specs.contracts.insn.OffsetPartialEq.TheImpl as offset_eq
use Rattle.arm_code.specs.declared.insn.HalfOffset.{HalfOffset}
use Rattle.arm_code.specs.contracts.insn.HalfOffsetPartialEq.TheImpl as half_offset_eq
use Rattle.arm_code.specs.declared.insn.HalfKind.{HalfKind}
use Rattle.arm_code.specs.contracts.insn.HalfKindPartialEq.TheImpl as half_kind_eq
use Rattle.arm_code.specs.declared.insn.Index.{Index}
use Rattle.arm_code.specs.contracts.insn.IndexPartialEq.TheImpl as index_eq

same_operand : (a b : Operand) → operand_eq.eq-value.it a b ≡ true → a ≡ b
same_operand a b e = search rules

operand_itself : (a : Operand) → operand_eq.eq-value.it a a ≡ true
operand_itself a = search rules

same_offset : (a b : Offset) → offset_eq.eq-value.it a b ≡ true → a ≡ b
same_offset a b e = search rules

offset_itself : (a : Offset) → offset_eq.eq-value.it a a ≡ true
offset_itself a = search rules

same_half_offset : (a b : HalfOffset) → half_offset_eq.eq-value.it a b ≡ true → a ≡ b
same_half_offset a b e = search rules

half_offset_itself : (a : HalfOffset) → half_offset_eq.eq-value.it a a ≡ true
half_offset_itself a = search rules

same_half_kind : (a b : HalfKind) → half_kind_eq.eq-value.it a b ≡ true → a ≡ b
same_half_kind a b e = search rules

half_kind_itself : (a : HalfKind) → half_kind_eq.eq-value.it a a ≡ true
half_kind_itself a = search rules

same_index : (a b : Index) → index_eq.eq-value.it a b ≡ true → a ≡ b
same_index a b e = search rules

index_itself : (a : Index) → index_eq.eq-value.it a a ≡ true
index_itself a = search rules

same_nat : (a b : ℕ) → eqb a b ≡ true → a ≡ b
same_nat = eqb-true

nat_itself : (a : ℕ) → eqb a a ≡ true
nat_itself a = eq-eqb a a refl

same_bool : (a b : Bool) → beq a b ≡ true → a ≡ b
same_bool true true e = refl
same_bool true false e = cc
same_bool false true e = cc
same_bool false false e = refl

bool_itself : (a : Bool) → beq a a ≡ true
bool_itself true = refl
bool_itself false = refl

same_int : (a b : ℤ) → int_eq a b ≡ true → a ≡ b
same_int a b e = search rules

int_itself : (a : ℤ) → int_eq a a ≡ true
int_itself a = search rules

same_op : (a b : Op) → op_eq.eq-value.it a b ≡ true → a ≡ b
same_op (op.Alu code s first to second) (op.Alu code' s' first' to' second') e =
    let p0 = and_parts (eqb code code') ((beq s s') && ((eqb first first') && ((eqb to to') && (operand_eq.eq-value.it second second')))) e in
    let e0 : code ≡ code' = same_nat code code' p0.0 in
    let p1 = and_parts (beq s s') ((eqb first first') && ((eqb to to') && (operand_eq.eq-value.it second second'))) p0.1 in
    let e1 : s ≡ s' = same_bool s s' p1.0 in
    let p2 = and_parts (eqb first first') ((eqb to to') && (operand_eq.eq-value.it second second')) p1.1 in
    let e2 : first ≡ first' = same_nat first first' p2.0 in
    let p3 = and_parts (eqb to to') (operand_eq.eq-value.it second second') p2.1 in
    let e3 : to ≡ to' = same_nat to to' p3.0 in
    let e4 : second ≡ second' = same_operand second second' p3.1 in
    cc
same_op (op.Mul accumulate s result added a b) (op.Mul accumulate' s' result' added' a' b') e =
    let p0 = and_parts (beq accumulate accumulate') ((beq s s') && ((eqb result result') && ((eqb added added') && ((eqb a a') && (eqb b b'))))) e in
    let e0 : accumulate ≡ accumulate' = same_bool accumulate accumulate' p0.0 in
    let p1 = and_parts (beq s s') ((eqb result result') && ((eqb added added') && ((eqb a a') && (eqb b b')))) p0.1 in
    let e1 : s ≡ s' = same_bool s s' p1.0 in
    let p2 = and_parts (eqb result result') ((eqb added added') && ((eqb a a') && (eqb b b'))) p1.1 in
    let e2 : result ≡ result' = same_nat result result' p2.0 in
    let p3 = and_parts (eqb added added') ((eqb a a') && (eqb b b')) p2.1 in
    let e3 : added ≡ added' = same_nat added added' p3.0 in
    let p4 = and_parts (eqb a a') (eqb b b') p3.1 in
    let e4 : a ≡ a' = same_nat a a' p4.0 in
    let e5 : b ≡ b' = same_nat b b' p4.1 in
    cc
same_op (op.MulLong signed accumulate s hi lo a b) (op.MulLong signed' accumulate' s' hi' lo' a' b') e =
    let p0 = and_parts (beq signed signed') ((beq accumulate accumulate') && ((beq s s') && ((eqb hi hi') && ((eqb lo lo') && ((eqb a a') && (eqb b b')))))) e in
    let e0 : signed ≡ signed' = same_bool signed signed' p0.0 in
    let p1 = and_parts (beq accumulate accumulate') ((beq s s') && ((eqb hi hi') && ((eqb lo lo') && ((eqb a a') && (eqb b b'))))) p0.1 in
    let e1 : accumulate ≡ accumulate' = same_bool accumulate accumulate' p1.0 in
    let p2 = and_parts (beq s s') ((eqb hi hi') && ((eqb lo lo') && ((eqb a a') && (eqb b b')))) p1.1 in
    let e2 : s ≡ s' = same_bool s s' p2.0 in
    let p3 = and_parts (eqb hi hi') ((eqb lo lo') && ((eqb a a') && (eqb b b'))) p2.1 in
    let e3 : hi ≡ hi' = same_nat hi hi' p3.0 in
    let p4 = and_parts (eqb lo lo') ((eqb a a') && (eqb b b')) p3.1 in
    let e4 : lo ≡ lo' = same_nat lo lo' p4.0 in
    let p5 = and_parts (eqb a a') (eqb b b') p4.1 in
    let e5 : a ≡ a' = same_nat a a' p5.0 in
    let e6 : b ≡ b' = same_nat b b' p5.1 in
    cc
same_op (op.Single load byte to base index up by) (op.Single load' byte' to' base' index' up' by') e =
    let p0 = and_parts (beq load load') ((beq byte byte') && ((eqb to to') && ((eqb base base') && ((index_eq.eq-value.it index index') && ((beq up up') && (offset_eq.eq-value.it by by')))))) e in
    let e0 : load ≡ load' = same_bool load load' p0.0 in
    let p1 = and_parts (beq byte byte') ((eqb to to') && ((eqb base base') && ((index_eq.eq-value.it index index') && ((beq up up') && (offset_eq.eq-value.it by by'))))) p0.1 in
    let e1 : byte ≡ byte' = same_bool byte byte' p1.0 in
    let p2 = and_parts (eqb to to') ((eqb base base') && ((index_eq.eq-value.it index index') && ((beq up up') && (offset_eq.eq-value.it by by')))) p1.1 in
    let e2 : to ≡ to' = same_nat to to' p2.0 in
    let p3 = and_parts (eqb base base') ((index_eq.eq-value.it index index') && ((beq up up') && (offset_eq.eq-value.it by by'))) p2.1 in
    let e3 : base ≡ base' = same_nat base base' p3.0 in
    let p4 = and_parts (index_eq.eq-value.it index index') ((beq up up') && (offset_eq.eq-value.it by by')) p3.1 in
    let e4 : index ≡ index' = same_index index index' p4.0 in
    let p5 = and_parts (beq up up') (offset_eq.eq-value.it by by') p4.1 in
    let e5 : up ≡ up' = same_bool up up' p5.0 in
    let e6 : by ≡ by' = same_offset by by' p5.1 in
    cc
same_op (op.Half kind to base index up by) (op.Half kind' to' base' index' up' by') e =
    let p0 = and_parts (half_kind_eq.eq-value.it kind kind') ((eqb to to') && ((eqb base base') && ((index_eq.eq-value.it index index') && ((beq up up') && (half_offset_eq.eq-value.it by by'))))) e in
    let e0 : kind ≡ kind' = same_half_kind kind kind' p0.0 in
    let p1 = and_parts (eqb to to') ((eqb base base') && ((index_eq.eq-value.it index index') && ((beq up up') && (half_offset_eq.eq-value.it by by')))) p0.1 in
    let e1 : to ≡ to' = same_nat to to' p1.0 in
    let p2 = and_parts (eqb base base') ((index_eq.eq-value.it index index') && ((beq up up') && (half_offset_eq.eq-value.it by by'))) p1.1 in
    let e2 : base ≡ base' = same_nat base base' p2.0 in
    let p3 = and_parts (index_eq.eq-value.it index index') ((beq up up') && (half_offset_eq.eq-value.it by by')) p2.1 in
    let e3 : index ≡ index' = same_index index index' p3.0 in
    let p4 = and_parts (beq up up') (half_offset_eq.eq-value.it by by') p3.1 in
    let e4 : up ≡ up' = same_bool up up' p4.0 in
    let e5 : by ≡ by' = same_half_offset by by' p4.1 in
    cc
same_op (op.Block load before up wback base list) (op.Block load' before' up' wback' base' list') e =
    let p0 = and_parts (beq load load') ((beq before before') && ((beq up up') && ((beq wback wback') && ((eqb base base') && (eqb list list'))))) e in
    let e0 : load ≡ load' = same_bool load load' p0.0 in
    let p1 = and_parts (beq before before') ((beq up up') && ((beq wback wback') && ((eqb base base') && (eqb list list')))) p0.1 in
    let e1 : before ≡ before' = same_bool before before' p1.0 in
    let p2 = and_parts (beq up up') ((beq wback wback') && ((eqb base base') && (eqb list list'))) p1.1 in
    let e2 : up ≡ up' = same_bool up up' p2.0 in
    let p3 = and_parts (beq wback wback') ((eqb base base') && (eqb list list')) p2.1 in
    let e3 : wback ≡ wback' = same_bool wback wback' p3.0 in
    let p4 = and_parts (eqb base base') (eqb list list') p3.1 in
    let e4 : base ≡ base' = same_nat base base' p4.0 in
    let e5 : list ≡ list' = same_nat list list' p4.1 in
    cc
same_op (op.Branch link by) (op.Branch link' by') e =
    let p0 = and_parts (beq link link') (int_eq by by') e in
    let e0 : link ≡ link' = same_bool link link' p0.0 in
    let e1 : by ≡ by' = same_int by by' p0.1 in
    cc
same_op (op.Exchange link register) (op.Exchange link' register') e =
    let p0 = and_parts (beq link link') (eqb register register') e in
    let e0 : link ≡ link' = same_bool link link' p0.0 in
    let e1 : register ≡ register' = same_nat register register' p0.1 in
    cc
same_op (op.Svc number) (op.Svc number') e =
    let e0 : number ≡ number' = same_nat number number' e in
    cc
same_op op.MovPcLr op.MovPcLr e = refl
same_op _ _ e = cc

op_itself : (a : Op) → op_eq.eq-value.it a a ≡ true
op_itself (op.Alu code s first to second) = and_from (eqb code code) ((beq s s) && ((eqb first first) && ((eqb to to) && (operand_eq.eq-value.it second second)))) (nat_itself code) (and_from (beq s s) ((eqb first first) && ((eqb to to) && (operand_eq.eq-value.it second second))) (bool_itself s) (and_from (eqb first first) ((eqb to to) && (operand_eq.eq-value.it second second)) (nat_itself first) (and_from (eqb to to) (operand_eq.eq-value.it second second) (nat_itself to) (operand_itself second))))
op_itself (op.Mul accumulate s result added a b) = and_from (beq accumulate accumulate) ((beq s s) && ((eqb result result) && ((eqb added added) && ((eqb a a) && (eqb b b))))) (bool_itself accumulate) (and_from (beq s s) ((eqb result result) && ((eqb added added) && ((eqb a a) && (eqb b b)))) (bool_itself s) (and_from (eqb result result) ((eqb added added) && ((eqb a a) && (eqb b b))) (nat_itself result) (and_from (eqb added added) ((eqb a a) && (eqb b b)) (nat_itself added) (and_from (eqb a a) (eqb b b) (nat_itself a) (nat_itself b)))))
op_itself (op.MulLong signed accumulate s hi lo a b) = and_from (beq signed signed) ((beq accumulate accumulate) && ((beq s s) && ((eqb hi hi) && ((eqb lo lo) && ((eqb a a) && (eqb b b)))))) (bool_itself signed) (and_from (beq accumulate accumulate) ((beq s s) && ((eqb hi hi) && ((eqb lo lo) && ((eqb a a) && (eqb b b))))) (bool_itself accumulate) (and_from (beq s s) ((eqb hi hi) && ((eqb lo lo) && ((eqb a a) && (eqb b b)))) (bool_itself s) (and_from (eqb hi hi) ((eqb lo lo) && ((eqb a a) && (eqb b b))) (nat_itself hi) (and_from (eqb lo lo) ((eqb a a) && (eqb b b)) (nat_itself lo) (and_from (eqb a a) (eqb b b) (nat_itself a) (nat_itself b))))))
op_itself (op.Single load byte to base index up by) = and_from (beq load load) ((beq byte byte) && ((eqb to to) && ((eqb base base) && ((index_eq.eq-value.it index index) && ((beq up up) && (offset_eq.eq-value.it by by)))))) (bool_itself load) (and_from (beq byte byte) ((eqb to to) && ((eqb base base) && ((index_eq.eq-value.it index index) && ((beq up up) && (offset_eq.eq-value.it by by))))) (bool_itself byte) (and_from (eqb to to) ((eqb base base) && ((index_eq.eq-value.it index index) && ((beq up up) && (offset_eq.eq-value.it by by)))) (nat_itself to) (and_from (eqb base base) ((index_eq.eq-value.it index index) && ((beq up up) && (offset_eq.eq-value.it by by))) (nat_itself base) (and_from (index_eq.eq-value.it index index) ((beq up up) && (offset_eq.eq-value.it by by)) (index_itself index) (and_from (beq up up) (offset_eq.eq-value.it by by) (bool_itself up) (offset_itself by))))))
op_itself (op.Half kind to base index up by) = and_from (half_kind_eq.eq-value.it kind kind) ((eqb to to) && ((eqb base base) && ((index_eq.eq-value.it index index) && ((beq up up) && (half_offset_eq.eq-value.it by by))))) (half_kind_itself kind) (and_from (eqb to to) ((eqb base base) && ((index_eq.eq-value.it index index) && ((beq up up) && (half_offset_eq.eq-value.it by by)))) (nat_itself to) (and_from (eqb base base) ((index_eq.eq-value.it index index) && ((beq up up) && (half_offset_eq.eq-value.it by by))) (nat_itself base) (and_from (index_eq.eq-value.it index index) ((beq up up) && (half_offset_eq.eq-value.it by by)) (index_itself index) (and_from (beq up up) (half_offset_eq.eq-value.it by by) (bool_itself up) (half_offset_itself by)))))
op_itself (op.Block load before up wback base list) = and_from (beq load load) ((beq before before) && ((beq up up) && ((beq wback wback) && ((eqb base base) && (eqb list list))))) (bool_itself load) (and_from (beq before before) ((beq up up) && ((beq wback wback) && ((eqb base base) && (eqb list list)))) (bool_itself before) (and_from (beq up up) ((beq wback wback) && ((eqb base base) && (eqb list list))) (bool_itself up) (and_from (beq wback wback) ((eqb base base) && (eqb list list)) (bool_itself wback) (and_from (eqb base base) (eqb list list) (nat_itself base) (nat_itself list)))))
op_itself (op.Branch link by) = and_from (beq link link) (int_eq by by) (bool_itself link) (int_itself by)
op_itself (op.Exchange link register) = and_from (beq link link) (eqb register register) (bool_itself link) (nat_itself register)
op_itself (op.Svc number) = nat_itself number
op_itself op.MovPcLr = refl

same_insn : (a b : Insn) → insn_eq.eq-value.it a b ≡ true → a ≡ b
same_insn a b e =
    let p = and_parts (eqb a.cond b.cond) (op_eq.eq-value.it a.op b.op) e in
    let conds : a.cond ≡ b.cond = eqb-true _ _ p.0 in
    let ops : a.op ≡ b.op = same_op a.op b.op p.1 in
    ap (λ (n : ℕ). record { cond = n; op = a.op }) conds ∙ ap (λ (o : Op). record { cond = b.cond; op = o }) ops

insn_itself : (a : Insn) → insn_eq.eq-value.it a a ≡ true
insn_itself a = and_from (eqb a.cond a.cond) (op_eq.eq-value.it a.op a.op) (eq-eqb a.cond a.cond refl) (op_itself a.op)

-- whether a reading is an instruction
pub is_that : (o : Option Insn) (i : Insn) → option_eq insn_eq.eq-value.it o (Some i) ≡ true → o ≡ Some i
is_that None i e = cc
is_that (Some j) i e = ap Some (same_insn j i e)

pub finds_that : (o : Option Insn) (i : Insn) → o ≡ Some i → option_eq insn_eq.eq-value.it o (Some i) ≡ true
finds_that None i e = cc
finds_that (Some j) i e =
    let same : j ≡ i = cc in subst (λ x. insn_eq.eq-value.it x i ≡ true) (sym same) (insn_itself i)
