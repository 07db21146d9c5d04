-- The columns of an instruction are those of its word.
use Rattle.std.proofs.Common.{◌≡◌, ◌≤◌, ℕ, ◌<◌, ◌^◌, Bool, true, false, cond, not, ◌&&◌, ◌||◌, eqb, Option, inl, inr, refl, sym, ap, ◌∙◌, subst, arith}
use Rattle.std.proofs.lemmas.Bool.{and_parts, eqb-false, not-true}
use Rattle.std.proofs.lemmas.Nat.{zero_from_ones, ones-le}
use Rattle.wx_base.specs.Bits.{is_in}
use Rattle.std.specs.Prelude.{bit_or, count_ones}
use Rattle.std.specs.Option.{option_map_or}
use Rattle.wx_base.specs.declared.machine.UnitKind.TheVariants as UnitKind
use Rattle.wx_base.specs.Instruction.{Kind, AluImmediate, AluShift, AluByRegister, Mul, MulLong, SingleImmediate, SingleRegister, HalfImmediate, HalfRegister, Block, Branch, Exchange, Svc, MovPcLr, row_of, meets, condition, is_load, half_sort, is_before, writes_back, changes_base, operands_read_by, reads_by, writes_by, unit_by, transfers_by, reads_of, writes_of, unit_of, transfers_of, transfer_reads, transfer_writes, register_bit, rn, rd, rm, always, flags_bit, where_so, block_list, is_block_setting, is_not_pc}
use Rattle.arm_code.specs.declared.insn.Insn.{Insn}
use Rattle.arm_code.specs.declared.insn.HalfKind.TheVariants.{Ldrh, Strh, Ldrsb, Ldrsh}
use Rattle.arm_code.specs.Encoding.{op_by, index_by, half_kind_by, word_of, IsValid}
use Rattle.arm_code.specs.Columns.{op_reads, insn_reads, op_writes, op_unit, op_transfers, half_loads, index_changes}
use Rattle.arm_code.proofs.Spelling.{ReadBy, read_by, word_decodes, HalfBits, half_bits, also_of}

-- the row of a valid instruction's word
pub row_of_valid : (insn : Insn) → IsValid insn → ReadBy (word_of insn) insn
row_of_valid insn v = read_by (word_of insn) insn (word_decodes insn v)

changes_is : (before back : Bool) → index_changes (index_by before back) ≡ changes_base before back
changes_is true true = refl
changes_is true false = refl
changes_is false true = refl
changes_is false false = refl

loads_by_tests : (load half third : Bool) → (load || half) ≡ true → half_loads (cond half (cond load Ldrh Strh) (cond third Ldrsb Ldrsh)) ≡ load
loads_by_tests true true third e = refl
loads_by_tests false true third e = refl
loads_by_tests true false true e = refl
loads_by_tests true false false e = refl
loads_by_tests false false third e = cc

loads_is : (word : ℕ) → HalfBits word → half_loads (half_kind_by (is_load word) (half_sort word)) ≡ is_load word
loads_is word h = loads_by_tests (is_load word) (eqb (half_sort word) 1) (eqb (half_sort word) 2) h.loads_or_half

reads_as : (word : ℕ) (kind : Kind) → meets word (row_of kind) ≡ true → op_reads (op_by word kind) ≡ operands_read_by word kind
reads_as word AluImmediate e = refl
reads_as word AluShift e = refl
reads_as word AluByRegister e = refl
reads_as word Mul e = refl
reads_as word MulLong e = refl
reads_as word SingleImmediate e = refl
reads_as word SingleRegister e = refl
reads_as word HalfImmediate e =
    ap (λ (b : Bool). transfer_reads b (rn word) 0 (register_bit (rd word))) (loads_is word (half_bits word HalfImmediate (inl refl) e))
reads_as word HalfRegister e =
    ap (λ (b : Bool). transfer_reads b (rn word) (register_bit (rm word)) (register_bit (rd word))) (loads_is word (half_bits word HalfRegister (inr refl) e))
reads_as word Block e = refl
reads_as word Branch e = refl
reads_as word Exchange e = refl
reads_as word Svc e = refl
reads_as word MovPcLr e = refl

-- what a transfer of one register writes
moves : (word : ℕ) (load : Bool) → load ≡ is_load word → transfer_writes load (index_changes (index_by (is_before word) (writes_back word))) (rn word) (register_bit (rd word)) ≡ transfer_writes (is_load word) (changes_base (is_before word) (writes_back word)) (rn word) (register_bit (rd word))
moves word load e =
    ap (λ (b : Bool). transfer_writes b (index_changes (index_by (is_before word) (writes_back word))) (rn word) (register_bit (rd word))) e
    ∙ ap (λ (b : Bool). transfer_writes (is_load word) b (rn word) (register_bit (rd word))) (changes_is (is_before word) (writes_back word))

writes_as : (word : ℕ) (kind : Kind) → meets word (row_of kind) ≡ true → op_writes (op_by word kind) ≡ writes_by word kind
writes_as word AluImmediate e = refl
writes_as word AluShift e = refl
writes_as word AluByRegister e = refl
writes_as word Mul e = refl
writes_as word MulLong e = refl
writes_as word SingleImmediate e = moves word (is_load word) refl
writes_as word SingleRegister e = moves word (is_load word) refl
writes_as word HalfImmediate e = moves word _ (loads_is word (half_bits word HalfImmediate (inl refl) e))
writes_as word HalfRegister e = moves word _ (loads_is word (half_bits word HalfRegister (inr refl) e))
writes_as word Block e = refl
writes_as word Branch e = refl
writes_as word Exchange e = refl
writes_as word Svc e = refl
writes_as word MovPcLr e = refl

unit_as : (word : ℕ) (kind : Kind) → op_unit (op_by word kind) ≡ unit_by word kind
unit_as word AluImmediate = refl
unit_as word AluShift = refl
unit_as word AluByRegister = refl
unit_as word Mul = refl
unit_as word MulLong = refl
unit_as word SingleImmediate = refl
unit_as word SingleRegister = refl
unit_as word HalfImmediate = refl
unit_as word HalfRegister = refl
unit_as word Block = refl
unit_as word Branch = refl
unit_as word Exchange = refl
unit_as word Svc = refl
unit_as word MovPcLr = refl

transfers_as : (word : ℕ) (kind : Kind) → op_transfers (op_by word kind) ≡ transfers_by word kind
transfers_as word AluImmediate = refl
transfers_as word AluShift = refl
transfers_as word AluByRegister = refl
transfers_as word Mul = refl
transfers_as word MulLong = refl
transfers_as word SingleImmediate = refl
transfers_as word SingleRegister = refl
transfers_as word HalfImmediate = refl
transfers_as word HalfRegister = refl
transfers_as word Block = refl
transfers_as word Branch = refl
transfers_as word Exchange = refl
transfers_as word Svc = refl
transfers_as word MovPcLr = refl

pub reads_are : (insn : Insn) → IsValid insn → insn_reads insn ≡ reads_of (word_of insn)
unfolding reads_of
reads_are insn v =
    let r = row_of_valid insn v in
    let word = word_of insn in
    ap insn_reads (sym r.insn_is)
    ∙ ap (bit_or (where_so (not (eqb (condition word) always)) flags_bit)) (reads_as word r.kind r.met)
    ∙ sym (ap (λ (k : Option Kind). option_map_or (reads_by word) k 0) r.kind_is)

pub writes_are : (insn : Insn) → IsValid insn → op_writes insn.op ≡ writes_of (word_of insn)
unfolding writes_of
writes_are insn v =
    let r = row_of_valid insn v in
    let word = word_of insn in
    ap (λ (i : Insn). op_writes i.op) (sym r.insn_is)
    ∙ writes_as word r.kind r.met
    ∙ sym (ap (λ (k : Option Kind). option_map_or (writes_by word) k 0) r.kind_is)

pub unit_is : (insn : Insn) → IsValid insn → op_unit insn.op ≡ unit_of (word_of insn)
unfolding unit_of
unit_is insn v =
    let r = row_of_valid insn v in
    let word = word_of insn in
    ap (λ (i : Insn). op_unit i.op) (sym r.insn_is)
    ∙ unit_as word r.kind
    ∙ sym (ap (λ (k : Option Kind). option_map_or (unit_by word) k UnitKind.Alu) r.kind_is)

pub transfers_are : (insn : Insn) → IsValid insn → op_transfers insn.op ≡ transfers_of (word_of insn)
unfolding transfers_of
transfers_are insn v =
    let r = row_of_valid insn v in
    let word = word_of insn in
    ap (λ (i : Insn). op_transfers i.op) (sym r.insn_is)
    ∙ transfers_as word r.kind
    ∙ sym (ap (λ (k : Option Kind). option_map_or (transfers_by word) k 1) r.kind_is)

-- a block transfers at least one register, and at most sixteen
pub record InRange (n : ℕ) : Type 0 where
  pub some : 1 ≤ n
  pub few : n ≤ 16

listed : (load back : Bool) (base list : ℕ) → is_block_setting load back base list ≡ true → (list ≡ 0) → ⊥
listed load back base list e =
    let p = and_parts ((not (eqb list 0) && is_not_pc base) && not (back && is_in list base)) (load || not (is_in list 15)) e in
    let q = and_parts (not (eqb list 0) && is_not_pc base) (not (back && is_in list base)) p.0 in
    let r = and_parts (not (eqb list 0)) (is_not_pc base) q.0 in
    eqb-false list 0 (not-true _ r.0)

count_in_range : (list : ℕ) → list < 2 ^ 16 → ((list ≡ 0) → ⊥) → InRange (count_ones list)
count_in_range list small n = record {
  some = one_or_more (count_ones list) (λ z. n (zero_from_ones list z));
  few = ones-le 16 list small;
}
  where
    one_or_more : (k : ℕ) → ((k ≡ 0) → ⊥) → 1 ≤ k
    one_or_more k h = omega arith

range_of : (word : ℕ) (kind : Kind) → meets word (row_of kind) ≡ true → InRange (op_transfers (op_by word kind))
range_of word Block e =
    count_in_range (block_list word) (omega arith) (listed (is_load word) (writes_back word) (rn word) (block_list word) (also_of word Block e))
range_of word AluImmediate e = record { some = omega arith; few = omega arith }
range_of word AluShift e = record { some = omega arith; few = omega arith }
range_of word AluByRegister e = record { some = omega arith; few = omega arith }
range_of word Mul e = record { some = omega arith; few = omega arith }
range_of word MulLong e = record { some = omega arith; few = omega arith }
range_of word SingleImmediate e = record { some = omega arith; few = omega arith }
range_of word SingleRegister e = record { some = omega arith; few = omega arith }
range_of word HalfImmediate e = record { some = omega arith; few = omega arith }
range_of word HalfRegister e = record { some = omega arith; few = omega arith }
range_of word Branch e = record { some = omega arith; few = omega arith }
range_of word Exchange e = record { some = omega arith; few = omega arith }
range_of word Svc e = record { some = omega arith; few = omega arith }
range_of word MovPcLr e = record { some = omega arith; few = omega arith }

pub transfers_in_range : (insn : Insn) → IsValid insn → InRange (op_transfers insn.op)
transfers_in_range insn v =
    let r = row_of_valid insn v in
    subst (λ (i : Insn). InRange (op_transfers i.op)) r.insn_is (range_of (word_of insn) r.kind r.met)
