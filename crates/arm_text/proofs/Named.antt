-- Which operation has a name.
use Rattle.std.proofs.Common.{◌≡◌, ℕ, ℤ, Bool, false, ◌⊎◌, inl, inr, refl}
use Rattle.arm_code.specs.declared.insn.Op.{Op}
use Rattle.arm_code.specs.declared.insn.Op.TheVariants as op
use Rattle.arm_code.specs.declared.insn.Operand.{Operand}
use Rattle.arm_code.specs.declared.insn.Offset.{Offset}
use Rattle.arm_code.specs.declared.insn.HalfOffset.{HalfOffset}
use Rattle.arm_code.specs.declared.insn.HalfKind.{HalfKind}
use Rattle.arm_code.specs.declared.insn.Index.{Index}
use Rattle.arm_text.specs.declared.mnemonics.Name.TheVariants as name
use Rattle.arm_text.specs.Operands.{name_of}

pub record IsAlu (read : Op) (code : ℕ) (flags : Bool) : Type 0 where
  pub first : ℕ
  pub to : ℕ
  pub second : Operand
  pub is : read ≡ op.Alu code flags first to second

pub record IsReturn (read : Op) (code : ℕ) (flags : Bool) : Type 0 where
  pub code_is : code ≡ 13
  pub flags_is : flags ≡ false
  pub is : read ≡ op.MovPcLr

pub alu_of : (read : Op) (code : ℕ) (flags : Bool) → name_of read ≡ name.Alu code flags → IsAlu read code flags ⊎ IsReturn read code flags
alu_of (op.Alu code' flags' first to second) code flags named = inl (record { first = first; to = to; second = second; is = cc })
alu_of op.MovPcLr code flags named = inr (record { code_is = cc; flags_is = cc; is = refl })
alu_of _ code flags named = absurd (cc)

pub record IsMul (read : Op) (accumulate : Bool) (flags : Bool) : Type 0 where
  pub to : ℕ
  pub added : ℕ
  pub second : ℕ
  pub first : ℕ
  pub is : read ≡ op.Mul accumulate flags to added second first

pub mul_of : (read : Op) (accumulate : Bool) (flags : Bool) → name_of read ≡ name.Mul accumulate flags → IsMul read accumulate flags
mul_of (op.Mul accumulate' flags' to added second first) accumulate flags named = record { to = to; added = added; second = second; first = first; is = cc }
mul_of _ accumulate flags named = absurd (cc)

pub record IsMulLong (read : Op) (signed : Bool) (accumulate : Bool) (flags : Bool) : Type 0 where
  pub high : ℕ
  pub low : ℕ
  pub second : ℕ
  pub first : ℕ
  pub is : read ≡ op.MulLong signed accumulate flags high low second first

pub mul_long_of : (read : Op) (signed : Bool) (accumulate : Bool) (flags : Bool) → name_of read ≡ name.MulLong signed accumulate flags → IsMulLong read signed accumulate flags
mul_long_of (op.MulLong signed' accumulate' flags' high low second first) signed accumulate flags named = record { high = high; low = low; second = second; first = first; is = cc }
mul_long_of _ signed accumulate flags named = absurd (cc)

pub record IsSingle (read : Op) (load : Bool) (byte : Bool) : Type 0 where
  pub to : ℕ
  pub base : ℕ
  pub index : Index
  pub up : Bool
  pub by : Offset
  pub is : read ≡ op.Single load byte to base index up by

pub single_of : (read : Op) (load : Bool) (byte : Bool) → name_of read ≡ name.Single load byte → IsSingle read load byte
single_of (op.Single load' byte' to base index up by) load byte named = record { to = to; base = base; index = index; up = up; by = by; is = cc }
single_of _ load byte named = absurd (cc)

pub record IsHalf (read : Op) (kind : HalfKind) : Type 0 where
  pub to : ℕ
  pub base : ℕ
  pub index : Index
  pub up : Bool
  pub by : HalfOffset
  pub is : read ≡ op.Half kind to base index up by

pub half_of : (read : Op) (kind : HalfKind) → name_of read ≡ name.Half kind → IsHalf read kind
half_of (op.Half kind' to base index up by) kind named = record { to = to; base = base; index = index; up = up; by = by; is = cc }
half_of _ kind named = absurd (cc)

pub record IsBlock (read : Op) (load : Bool) (before : Bool) (up : Bool) : Type 0 where
  pub wback : Bool
  pub base : ℕ
  pub list : ℕ
  pub is : read ≡ op.Block load before up wback base list

pub block_of : (read : Op) (load : Bool) (before : Bool) (up : Bool) → name_of read ≡ name.Block load before up → IsBlock read load before up
block_of (op.Block load' before' up' wback base list) load before up named = record { wback = wback; base = base; list = list; is = cc }
block_of _ load before up named = absurd (cc)

pub record IsBranch (read : Op) (link : Bool) : Type 0 where
  pub words : ℤ
  pub is : read ≡ op.Branch link words

pub branch_of : (read : Op) (link : Bool) → name_of read ≡ name.Branch link → IsBranch read link
branch_of (op.Branch link' words) link named = record { words = words; is = cc }
branch_of _ link named = absurd (cc)

pub record IsExchange (read : Op) (link : Bool) : Type 0 where
  pub register : ℕ
  pub is : read ≡ op.Exchange link register

pub exchange_of : (read : Op) (link : Bool) → name_of read ≡ name.Exchange link → IsExchange read link
exchange_of (op.Exchange link' register) link named = record { register = register; is = cc }
exchange_of _ link named = absurd (cc)

pub record IsSvc (read : Op) : Type 0 where
  pub number : ℕ
  pub is : read ≡ op.Svc number

pub svc_of : (read : Op) → name_of read ≡ name.Svc → IsSvc read
svc_of (op.Svc number) named = record { number = number; is = refl }
svc_of _ named = absurd (cc)
