-- The instructions, as rows of a table over 32-bit words: which words are instructions, and what each reads, writes
-- and uses. ARM Architecture Reference Manual, A32 encodings; which words a row takes in is this project's own.
use Rattle.std.specs.Prelude.{ℕ, ◌^◌, ◌/◌, ◌%◌, Bool, true, ◌==◌, nat_lt, ◌&&◌, ◌||◌, not, if◌then◌else◌, List, [], ◌∷◌, Option, find, bit_or, count_ones}
use Rattle.std.specs.Option.{option_map_or}
use Rattle.std.specs.List.{list_all, list_any}
use Rattle.wx_base.specs.declared.machine.UnitKind.{UnitKind}
use Rattle.wx_base.specs.declared.machine.UnitKind.TheVariants as unit_kind
use Rattle.wx_base.specs.Bits.{bits, is_in}

-- whether a bit of a word is set
abbrev pub is_set : ℕ → ℕ → Bool
is_set at word = bits at at word == 1

-- the fields that rows share
abbrev pub condition : ℕ → ℕ
condition word = bits 31 28 word

abbrev pub opcode : ℕ → ℕ
opcode word = bits 24 21 word

abbrev pub sets_flags : ℕ → Bool
sets_flags word = is_set 20 word

abbrev pub rn : ℕ → ℕ
rn word = bits 19 16 word

abbrev pub rd : ℕ → ℕ
rd word = bits 15 12 word

abbrev pub rs : ℕ → ℕ
rs word = bits 11 8 word

abbrev pub rm : ℕ → ℕ
rm word = bits 3 0 word

-- of an operand: eight bits and their rotation; and a shift
abbrev pub rotation : ℕ → ℕ
rotation word = bits 11 8 word

abbrev pub immediate : ℕ → ℕ
immediate word = bits 7 0 word

abbrev pub shift_amount : ℕ → ℕ
shift_amount word = bits 11 7 word

abbrev pub shift_kind : ℕ → ℕ
shift_kind word = bits 6 5 word

-- of a multiplication, which has its result where others have the first operand, and what it adds where they have the
-- result
abbrev pub accumulates : ℕ → Bool
accumulates word = is_set 21 word

abbrev pub is_signed : ℕ → Bool
is_signed word = is_set 22 word

abbrev pub product : ℕ → ℕ
product word = bits 19 16 word

abbrev pub addend : ℕ → ℕ
addend word = bits 15 12 word

-- of a transfer: whether the offset is added before it, whether it is added at all, and not subtracted, whether a byte
-- is moved, whether the base is written back, and whether it loads
abbrev pub is_before : ℕ → Bool
is_before word = is_set 24 word

abbrev pub is_up : ℕ → Bool
is_up word = is_set 23 word

abbrev pub is_byte : ℕ → Bool
is_byte word = is_set 22 word

abbrev pub writes_back : ℕ → Bool
writes_back word = is_set 21 word

abbrev pub is_load : ℕ → Bool
is_load word = is_set 20 word

abbrev pub offset : ℕ → ℕ
offset word = bits 11 0 word

-- of a transfer of a half word: the code of its sort, and the two halves of its offset
abbrev pub half_sort : ℕ → ℕ
half_sort word = bits 6 5 word

abbrev pub offset_high : ℕ → ℕ
offset_high word = bits 11 8 word

abbrev pub offset_low : ℕ → ℕ
offset_low word = bits 3 0 word

-- the registers of a block transfer, a bit for each
abbrev pub block_list : ℕ → ℕ
block_list word = bits 15 0 word

-- of a branch: whether it links, and how many words it goes on, modulo 2^24
abbrev pub links : ℕ → Bool
links word = is_set 24 word

abbrev pub branch_offset : ℕ → ℕ
branch_offset word = bits 23 0 word

-- of an exchange: whether it links
abbrev pub exchange_links : ℕ → Bool
exchange_links word = is_set 5 word

abbrev pub svc_number : ℕ → ℕ
svc_number word = bits 23 0 word

-- codes of conditions: "always", and the one that no instruction has
abbrev pub always : ℕ
always = 14

abbrev pub no_condition : ℕ
no_condition = 15

-- codes of opcodes
abbrev pub sub : ℕ
sub = 2

abbrev pub add : ℕ
add = 4

abbrev pub mov : ℕ
mov = 13

-- opcodes that only compare: tst, teq, cmp, cmn
abbrev pub is_compare : ℕ → Bool
is_compare code = code / 4 == 2

-- opcodes without a first operand: mov, mvn
abbrev pub is_move : ℕ → Bool
is_move code = (code == 13) || (code == 15)

-- opcodes that take the carry in: adc, sbc, rsc
abbrev pub takes_carry : ℕ → Bool
takes_carry code = (code == 5) || (code == 6) || (code == 7)

-- whether a register is not pc
abbrev pub is_not_pc : ℕ → Bool
is_not_pc register = not (register == 15)

-- the rows of the table
pub data Kind : Type 0 where
  AluImmediate : Kind
  AluShift : Kind
  AluByRegister : Kind
  Mul : Kind
  MulLong : Kind
  SingleImmediate : Kind
  SingleRegister : Kind
  HalfImmediate : Kind
  HalfRegister : Kind
  Block : Kind
  Branch : Kind
  Exchange : Kind
  Svc : Kind
  MovPcLr : Kind

-- bits high to low with their value
pub record Setting : Type 0 where
  pub high : ℕ
  pub low : ℕ
  pub value : ℕ

-- A row: the settings that its words have, those first that tell most rows apart; lists of settings of which not all
-- hold; and what is asked of the fields besides.
pub record Row : Type 0 where
  pub fixed : List Setting
  pub barred : List (List Setting)
  pub also : ℕ → Bool

abbrev pub bits_are : ℕ → ℕ → ℕ → Setting
bits_are high low value = record { high = high; low = low; value = value }

-- A comparison sets flags and has no result, a move has no first operand.
abbrev pub is_alu_setting : ℕ → ℕ → ℕ → Bool
is_alu_setting code first to = (not (is_compare code) || (to == 0)) && (not (is_move code) || (first == 0))

-- whether a transfer changes its base, by whether the offset is added before it and whether the base is written back
abbrev pub changes_base : Bool → Bool → Bool
changes_base before back = not before || back

-- What a transfer of one register asks of its base: written back explicitly only if the offset is added before; and a
-- base that changes is neither pc nor the register that is moved.
abbrev pub is_base_setting : Bool → Bool → ℕ → ℕ → Bool
is_base_setting before back base to =
    (before || not back) && (not (changes_base before back) || (is_not_pc base && not (base == to)))

-- pc is moved by loads of words alone
abbrev pub is_target_setting : Bool → Bool → ℕ → Bool
is_target_setting load byte to = is_not_pc to || (load && not byte)

-- an offset register is not pc, and is not a base that changes
abbrev pub is_index_setting : Bool → Bool → ℕ → ℕ → Bool
is_index_setting before back base index = is_not_pc index && (not (changes_base before back) || not (index == base))

-- the side conditions of each row on its fields
abbrev pub alu_also : ℕ → Bool
alu_also word = is_alu_setting (opcode word) (rn word) (rd word)

abbrev pub by_register_also : ℕ → Bool
by_register_also word = alu_also word && is_not_pc (rn word) && is_not_pc (rs word) && is_not_pc (rm word)

abbrev pub mul_also : ℕ → Bool
mul_also word =
    is_not_pc (product word) && is_not_pc (addend word) && is_not_pc (rs word) && is_not_pc (rm word)
    && (accumulates word || (addend word == 0))

abbrev pub mul_long_also : ℕ → Bool
mul_long_also word =
    is_not_pc (product word) && is_not_pc (addend word) && is_not_pc (rs word) && is_not_pc (rm word)
    && not (product word == addend word)

abbrev pub single_also : ℕ → Bool
single_also word =
    is_base_setting (is_before word) (writes_back word) (rn word) (rd word)
    && is_target_setting (is_load word) (is_byte word) (rd word)

abbrev pub single_register_also : ℕ → Bool
single_register_also word = single_also word && is_index_setting (is_before word) (writes_back word) (rn word) (rm word)

-- a store moves a half word, which is sort 1
abbrev pub half_also : ℕ → Bool
half_also word =
    (is_load word || (half_sort word == 1))
    && is_base_setting (is_before word) (writes_back word) (rn word) (rd word)
    && is_not_pc (rd word)

abbrev pub half_register_also : ℕ → Bool
half_register_also word = half_also word && is_index_setting (is_before word) (writes_back word) (rn word) (rm word)

-- The list has a register; the base is not pc, and not in the list if it is written back; pc is loaded and not stored.
abbrev pub is_block_setting : Bool → Bool → ℕ → ℕ → Bool
is_block_setting load back base list =
    not (list == 0) && is_not_pc base && not (back && is_in list base) && (load || not (is_in list 15))

abbrev pub block_also : ℕ → Bool
block_also word = is_block_setting (is_load word) (writes_back word) (rn word) (block_list word)

abbrev pub nothing_more : ℕ → Bool
nothing_more word = true

-- what no data processing has: pc as its result, and a comparison that keeps the flags
abbrev pub alu_barred : List (List Setting)
alu_barred = (bits_are 15 12 15 ∷ []) ∷ (bits_are 24 23 2 ∷ bits_are 20 20 0 ∷ []) ∷ []

-- what no transfer of a half word has: sort 0, which is a multiplication
abbrev pub half_barred : List (List Setting)
half_barred = (bits_are 6 5 0 ∷ []) ∷ []

-- the table
abbrev pub row_of : Kind → Row
row_of AluImmediate = record { fixed = bits_are 27 25 1 ∷ []; barred = alu_barred; also = alu_also }
row_of AluShift = record { fixed = bits_are 27 25 0 ∷ bits_are 4 4 0 ∷ []; barred = alu_barred; also = alu_also }
row_of AluByRegister = record { fixed = bits_are 27 25 0 ∷ bits_are 4 4 1 ∷ bits_are 7 7 0 ∷ []; barred = alu_barred; also = by_register_also }
row_of Mul =
    record {
      fixed = bits_are 27 25 0 ∷ bits_are 4 4 1 ∷ bits_are 7 7 1 ∷ bits_are 6 5 0 ∷ bits_are 24 24 0 ∷ bits_are 23 23 0 ∷ bits_are 22 22 0 ∷ [];
      barred = [];
      also = mul_also;
    }
row_of MulLong =
    record {
      fixed = bits_are 27 25 0 ∷ bits_are 4 4 1 ∷ bits_are 7 7 1 ∷ bits_are 6 5 0 ∷ bits_are 24 24 0 ∷ bits_are 23 23 1 ∷ [];
      barred = [];
      also = mul_long_also;
    }
row_of SingleImmediate = record { fixed = bits_are 27 25 2 ∷ []; barred = []; also = single_also }
row_of SingleRegister = record { fixed = bits_are 27 25 3 ∷ bits_are 4 4 0 ∷ []; barred = []; also = single_register_also }
row_of HalfImmediate =
    record { fixed = bits_are 27 25 0 ∷ bits_are 4 4 1 ∷ bits_are 7 7 1 ∷ bits_are 22 22 1 ∷ []; barred = half_barred; also = half_also }
row_of HalfRegister =
    record {
      fixed = bits_are 27 25 0 ∷ bits_are 4 4 1 ∷ bits_are 7 7 1 ∷ bits_are 22 22 0 ∷ bits_are 11 8 0 ∷ [];
      barred = half_barred;
      also = half_register_also;
    }
row_of Block = record { fixed = bits_are 27 25 4 ∷ bits_are 22 22 0 ∷ []; barred = []; also = block_also }
row_of Branch = record { fixed = bits_are 27 25 5 ∷ []; barred = []; also = nothing_more }
row_of Exchange =
    record {
      fixed = bits_are 27 25 0 ∷ bits_are 4 4 1 ∷ bits_are 7 7 0 ∷ bits_are 6 6 0 ∷ bits_are 24 23 2 ∷ bits_are 22 22 0 ∷ bits_are 21 21 1 ∷ bits_are 20 20 0 ∷ bits_are 19 8 4095 ∷ [];
      barred = [];
      also = λ word. is_not_pc (rm word);
    }
row_of Svc = record { fixed = bits_are 27 25 7 ∷ bits_are 24 24 1 ∷ []; barred = []; also = nothing_more }
row_of MovPcLr =
    record {
      fixed = bits_are 27 25 0 ∷ bits_are 4 4 0 ∷ bits_are 7 7 0 ∷ bits_are 6 5 0 ∷ bits_are 24 16 416 ∷ bits_are 15 12 15 ∷ bits_are 11 8 0 ∷ bits_are 3 0 14 ∷ [];
      barred = [];
      also = nothing_more;
    }

abbrev pub kinds : List Kind
kinds =
    AluImmediate ∷ AluShift ∷ AluByRegister ∷ Mul ∷ MulLong ∷ SingleImmediate ∷ SingleRegister ∷ HalfImmediate
    ∷ HalfRegister ∷ Block ∷ Branch ∷ Exchange ∷ Svc ∷ MovPcLr ∷ []

-- whether a word has a setting
abbrev pub has : ℕ → Setting → Bool
has word setting = bits setting.high setting.low word == setting.value

-- whether a word has what a row asks besides its fixed settings
abbrev pub has_rest : ℕ → Row → Bool
has_rest word row = not (list_any (λ settings. list_all (has word) settings) row.barred) && row.also word

-- whether a word has what a row asks, its condition aside
abbrev pub meets : ℕ → Row → Bool
meets word row = list_all (has word) row.fixed && has_rest word row

-- whether a word matches a row
abbrev pub matches : Kind → ℕ → Bool
matches kind word = not (condition word == no_condition) && meets word (row_of kind)

-- the row of a word; a word without one is no instruction
unfoldable pub kind_of : ℕ → Option Kind
kind_of word = find (λ kind. matches kind word) kinds

-- The resources are r0 to r14 and, as number 15, the flags as one. A set of them is a number with a bit for each.

-- a register as a resource; pc is none
abbrev pub register_bit : ℕ → ℕ
register_bit register = if nat_lt register 15 then 2 ^ register else 0

-- the flags as a resource
abbrev pub flags_bit : ℕ
flags_bit = 2 ^ 15

-- a set that counts only where something holds
abbrev pub where_so : Bool → ℕ → ℕ
where_so holds set = if holds then set else 0

-- the registers of a block transfer as resources
abbrev pub list_bits : ℕ → ℕ
list_bits list = list % 2 ^ 15

-- What an instruction reads by its row, its condition aside. Data processing reads its operands; and the flags where it
-- takes the carry in, or rotates through it, which is a rotation to the right by 0.
abbrev pub alu_reads : ℕ → ℕ → ℕ → ℕ
alu_reads code first operand =
    bit_or (where_so (not (is_move code)) (register_bit first)) (bit_or (where_so (takes_carry code) flags_bit) operand)

abbrev pub shift_reads : ℕ → ℕ → ℕ → ℕ
shift_reads register kind amount = bit_or (register_bit register) (where_so ((kind == 3) && (amount == 0)) flags_bit)

abbrev pub two_registers : ℕ → ℕ → ℕ
two_registers a b = bit_or (register_bit a) (register_bit b)

abbrev pub mul_reads : ℕ → ℕ → Bool → ℕ → ℕ
mul_reads a b adds addends = bit_or (two_registers a b) (where_so adds addends)

-- a transfer reads its base, its offset register, and what it stores
abbrev pub transfer_reads : Bool → ℕ → ℕ → ℕ → ℕ
transfer_reads load base index stored = bit_or (register_bit base) (bit_or index (where_so (not load) stored))

abbrev pub operands_read_by : ℕ → Kind → ℕ
operands_read_by word AluImmediate = alu_reads (opcode word) (rn word) 0
operands_read_by word AluShift =
    alu_reads (opcode word) (rn word) (shift_reads (rm word) (shift_kind word) (shift_amount word))
operands_read_by word AluByRegister = alu_reads (opcode word) (rn word) (two_registers (rm word) (rs word))
operands_read_by word Mul = mul_reads (rm word) (rs word) (accumulates word) (register_bit (addend word))
operands_read_by word MulLong =
    mul_reads (rm word) (rs word) (accumulates word) (two_registers (product word) (addend word))
operands_read_by word SingleImmediate = transfer_reads (is_load word) (rn word) 0 (register_bit (rd word))
operands_read_by word SingleRegister =
    transfer_reads (is_load word) (rn word) (register_bit (rm word)) (register_bit (rd word))
operands_read_by word HalfImmediate = transfer_reads (is_load word) (rn word) 0 (register_bit (rd word))
operands_read_by word HalfRegister =
    transfer_reads (is_load word) (rn word) (register_bit (rm word)) (register_bit (rd word))
operands_read_by word Block = transfer_reads (is_load word) (rn word) 0 (list_bits (block_list word))
operands_read_by word Branch = 0
operands_read_by word Exchange = register_bit (rm word)
operands_read_by word Svc = 0
operands_read_by word MovPcLr = register_bit 14

-- what an instruction reads: the flags besides, unless it is always executed
abbrev pub reads_by : ℕ → Kind → ℕ
reads_by word kind = bit_or (where_so (not (condition word == always)) flags_bit) (operands_read_by word kind)

-- What an instruction writes: its result, unless it only compares; the flags if it sets them; what it loads; the base of
-- a transfer that changes it; and the link register if it links.
abbrev pub result_writes : Bool → ℕ → ℕ
result_writes sets result = bit_or (where_so sets flags_bit) result

abbrev pub alu_writes : ℕ → Bool → ℕ → ℕ
alu_writes code sets to = result_writes sets (where_so (not (is_compare code)) (register_bit to))

abbrev pub transfer_writes : Bool → Bool → ℕ → ℕ → ℕ
transfer_writes load changes base loaded = bit_or (where_so changes (register_bit base)) (where_so load loaded)

abbrev pub link_writes : Bool → ℕ
link_writes linked = where_so linked (register_bit 14)

abbrev pub single_writes : ℕ → ℕ
single_writes word =
    transfer_writes (is_load word) (changes_base (is_before word) (writes_back word)) (rn word) (register_bit (rd word))

abbrev pub writes_by : ℕ → Kind → ℕ
writes_by word AluImmediate = alu_writes (opcode word) (sets_flags word) (rd word)
writes_by word AluShift = alu_writes (opcode word) (sets_flags word) (rd word)
writes_by word AluByRegister = alu_writes (opcode word) (sets_flags word) (rd word)
writes_by word Mul = result_writes (sets_flags word) (register_bit (product word))
writes_by word MulLong = result_writes (sets_flags word) (two_registers (product word) (addend word))
writes_by word SingleImmediate = single_writes word
writes_by word SingleRegister = single_writes word
writes_by word HalfImmediate = single_writes word
writes_by word HalfRegister = single_writes word
writes_by word Block = transfer_writes (is_load word) (writes_back word) (rn word) (list_bits (block_list word))
writes_by word Branch = link_writes (links word)
writes_by word Exchange = link_writes (exchange_links word)
writes_by word Svc = 0
writes_by word MovPcLr = 0

-- the unit that it takes
abbrev pub unit_by : ℕ → Kind → UnitKind
unit_by word AluImmediate = unit_kind.Alu
unit_by word AluShift = unit_kind.Alu
unit_by word AluByRegister = unit_kind.Alu
unit_by word Mul = unit_kind.Mul
unit_by word MulLong = unit_kind.Mul
unit_by word SingleImmediate = unit_kind.Mem
unit_by word SingleRegister = unit_kind.Mem
unit_by word HalfImmediate = unit_kind.Mem
unit_by word HalfRegister = unit_kind.Mem
unit_by word Block = unit_kind.Mem
unit_by word Branch = unit_kind.Alu
unit_by word Exchange = unit_kind.Alu
unit_by word Svc = unit_kind.Alu
unit_by word MovPcLr = unit_kind.Alu

-- how many registers it transfers as a block, pc among them, else 1
abbrev pub transfers_by : ℕ → Kind → ℕ
transfers_by word AluImmediate = 1
transfers_by word AluShift = 1
transfers_by word AluByRegister = 1
transfers_by word Mul = 1
transfers_by word MulLong = 1
transfers_by word SingleImmediate = 1
transfers_by word SingleRegister = 1
transfers_by word HalfImmediate = 1
transfers_by word HalfRegister = 1
transfers_by word Block = count_ones (block_list word)
transfers_by word Branch = 1
transfers_by word Exchange = 1
transfers_by word Svc = 1
transfers_by word MovPcLr = 1

-- The same for a word. A word that is no instruction reads and writes nothing; the machine never executes it.
unfoldable pub reads_of : ℕ → ℕ
reads_of word = option_map_or (reads_by word) (kind_of word) 0

unfoldable pub writes_of : ℕ → ℕ
writes_of word = option_map_or (writes_by word) (kind_of word) 0

unfoldable pub unit_of : ℕ → UnitKind
unit_of word = option_map_or (unit_by word) (kind_of word) unit_kind.Alu

unfoldable pub transfers_of : ℕ → ℕ
transfers_of word = option_map_or (transfers_by word) (kind_of word) 1
