-- Straight programs: raw words that go from one to the next up to a call of the supervisor. This project's own.
use Rattle.std.specs.Prelude.{◌≡◌, ℕ, ◌+◌, ◌*◌, ◌^◌, ◌<◌, ◌≤◌, Bool, true, false, ◌==◌, ◌&&◌, ◌||◌, not, if◌then◌else◌, List, [], ◌∷◌, ◌++◌, length, map, reverse, Option, Some, None}
use Rattle.std.specs.List.{flat_map, AllByRecursion}
use Rattle.wx_base.specs.declared.machine.Machine.{Machine}
use Rattle.wx_base.specs.Bits.{bytes_of_word}
use Rattle.wx_base.specs.Instruction.{AluImmediate, Svc, kind_of, condition, opcode, sets_flags, rn, is_not_pc, always, sub, add, mov}
use Rattle.arm_code.specs.declared.insn.Op.{Op}
use Rattle.arm_code.specs.declared.insn.Op.TheVariants as op
use Rattle.arm_code.specs.declared.insn.Operand.TheVariants as operand
use Rattle.wcet_cli.specs.declared.commands.straight.Role.{Role}
use Rattle.wcet_cli.specs.declared.commands.straight.Role.TheVariants.{Plain, Last}
use Rattle.wx_base.specs.Recurrence.{Entry, past_of, completion}
use Rattle.wx_base.specs.declared.image.Image.{Image}
use Rattle.wx_base.specs.Image.{code_image}
use Rattle.wx_base.specs.Monitor.{Rules}
use Rattle.wx_base.specs.Run.{Start, IsStart, Obeys, run_of, time_of}

-- where the first word of a straight program is placed
abbrev pub origin : ℕ
origin = 0x8000

-- What data processing may be in a straight program: always executed; a subtraction, an addition or a move; the flags
-- stay; and the first operand is not pc.
abbrev pub is_plain_alu : ℕ → ℕ → Bool → ℕ → Bool
is_plain_alu cond code s first =
    (cond == always) && ((code == sub) || (code == add) || (code == mov)) && not s && is_not_pc first

-- the word is one that a straight program may have before its end: such data processing with an immediate operand
pub record IsPlain (word : ℕ) : Type 0 where
  pub fits : word < 2 ^ 32
  pub kind : kind_of word ≡ Some AluImmediate
  pub plain : is_plain_alu (condition word) (opcode word) (sets_flags word) (rn word) ≡ true

-- the word ends a straight program: a call of the supervisor that is always executed
pub record IsLast (word : ℕ) : Type 0 where
  pub fits : word < 2 ^ 32
  pub kind : kind_of word ≡ Some Svc
  pub sure : (condition word == always) ≡ true

-- what an operation under a condition is in a straight program, if it may stand in one
abbrev pub op_role : ℕ → Op → Option Role
op_role cond (op.Alu code s first to (operand.Imm value rot)) = if is_plain_alu cond code s first then Some Plain else None
op_role cond (op.Alu code s first to (operand.Shift register kind amount)) = None
op_role cond (op.Alu code s first to (operand.ByReg register kind amount)) = None
op_role cond (op.Svc number) = if cond == always then Some Last else None
op_role cond (op.Mul accumulate s result added a b) = None
op_role cond (op.MulLong signed accumulate s hi lo a b) = None
op_role cond (op.Single load byte to base index up by) = None
op_role cond (op.Half kind to base index up by) = None
op_role cond (op.Block load before up wback base list) = None
op_role cond (op.Branch link by) = None
op_role cond (op.Exchange link register) = None
op_role cond op.MovPcLr = None

abbrev pub bytes_of : List ℕ → List ℕ
bytes_of words = flat_map bytes_of_word words

-- the address behind some words
abbrev pub address_behind : List ℕ → ℕ
address_behind words = origin + 4 * length words

-- The bytes begin with these words: plain ones, and then one that ends them. What stands behind does not matter.
pub record IsProgram (bytes words : List ℕ) : Type 0 where
  pub body : List ℕ
  pub last : ℕ
  pub rest : List ℕ
  pub words_are : words ≡ body ++ last ∷ []
  pub spelled : bytes ≡ bytes_of words ++ rest
  pub plain : AllByRecursion IsPlain body
  pub ends : IsLast last

-- plain words lead to an address at which fewer than four bytes are left
pub record IsCutOff (bytes : List ℕ) (address : ℕ) : Type 0 where
  pub body : List ℕ
  pub rest : List ℕ
  pub spelled : bytes ≡ bytes_of body ++ rest
  pub plain : AllByRecursion IsPlain body
  pub short : length rest < 4
  pub at : address ≡ address_behind body

-- plain words lead to an address with a word that a straight program does not have
pub record IsForeign (bytes : List ℕ) (address word : ℕ) : Type 0 where
  pub body : List ℕ
  pub rest : List ℕ
  pub spelled : bytes ≡ bytes_of body ++ bytes_of_word word ++ rest
  pub plain : AllByRecursion IsPlain body
  pub fits : word < 2 ^ 32
  pub not_plain : IsPlain word → ⊥
  pub not_last : IsLast word → ⊥
  pub at : address ≡ address_behind body

-- a word as an instruction whose fetch misses
abbrev pub missing : ℕ → Entry
missing word = record { word = word; miss = true; slow = false; taken = false }

-- The cycles that the words take, one after the other from the empty pipeline, if each fetch misses.
abbrev pub bound_of : Machine → List ℕ → ℕ
bound_of machine words = completion [] (past_of machine [] (reverse (map missing words)))

-- the image of some words alone, at the origin
abbrev pub image_of : List ℕ → Image
image_of words = code_image origin (bytes_of words)

-- Every run of the image on the machine, from every start, whatever rules its moves are judged by, and however many instructions it
-- has, takes at most so many cycles.
abbrev pub EachRunTakesAtMost : Machine → Image → ℕ → ℕ → Type 0
EachRunTakesAtMost machine image entry cycles =
    (rules : Rules) (start : Start) (n : ℕ) → IsStart machine image entry start →
    time_of (run_of machine image rules entry start n) ≤ cycles

-- Every such run obeys rules that list no function, as those of no facts: it is cut off by no move.
abbrev pub EachRunObeys : Machine → Image → ℕ → Type 0
EachRunObeys machine image entry =
    (rules : Rules) (start : Start) (n : ℕ) → rules.functions ≡ [] → IsStart machine image entry start →
    Obeys (run_of machine image rules entry start n)

-- whatever the machine, every run of a straight program obeys rules that list no function
abbrev pub StraightRunsObey : Type 0
StraightRunsObey =
    (machine : Machine) (bytes program : List ℕ) → length bytes ≤ 16777216 → IsProgram bytes program →
    EachRunObeys machine (image_of program) origin
