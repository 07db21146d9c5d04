-- The row of a word, from what it decodes to.
use Rattle.std.proofs.Common.{◌≡◌, ℕ, ◌<◌, ◌^◌, Bool, true, false, cond, eqb, Option, Some, None, refl, sym, ap, ◌∙◌, subst}
use Rattle.std.proofs.lemmas.Bool.{both_ways}
use Rattle.std.specs.Option.{option_map}
use Rattle.wx_base.specs.Instruction.{Kind, AluImmediate, AluShift, AluByRegister, Mul, MulLong, SingleImmediate, SingleRegister, HalfImmediate, HalfRegister, Block, Branch, Exchange, Svc, MovPcLr, kind_of, condition, opcode, sets_flags, rn, always}
use Rattle.arm_code.specs.declared.insn.Insn.{Insn}
use Rattle.arm_code.specs.Encoding.{decoded, insn_by, op_by, word_of}
use Rattle.pipe_time.specs.Entries.{entry_of}
use Rattle.wcet_cli.specs.declared.commands.straight.Role.{Role}
use Rattle.wcet_cli.specs.declared.commands.straight.Role.TheVariants.{Plain, Last}
use Rattle.wcet_cli.specs.Straight.{missing, IsPlain, IsLast, is_plain_alu, op_role}

no_kind : (word : ℕ) (o : Option Kind) → option_map (insn_by word) o ≡ None → o ≡ None
no_kind word None e = refl
no_kind word (Some k) e = cc

-- a word that decodes to nothing has no row
none_of : (word : ℕ) → decoded word ≡ None → kind_of word ≡ None
unfolding decoded
none_of word e = no_kind word (kind_of word) e

no_plain : (word : ℕ) → kind_of word ≡ None → IsPlain word → ⊥
no_plain word e p = let is = p.kind in cc

no_last : (word : ℕ) → kind_of word ≡ None → IsLast word → ⊥
no_last word e p = let is = p.kind in cc

-- a word that decodes to nothing does not stand in a straight program
pub none_plain : (word : ℕ) → decoded word ≡ None → IsPlain word → ⊥
none_plain word e = no_plain word (none_of word e)

pub none_last : (word : ℕ) → decoded word ≡ None → IsLast word → ⊥
none_last word e = no_last word (none_of word e)

-- what the test of a row says of a word
record Says (word : ℕ) (role : Option Role) : Type 0 where
  plain : role ≡ Some Plain → word < 2 ^ 32 → IsPlain word
  last : role ≡ Some Last → word < 2 ^ 32 → IsLast word
  not_plain : role ≡ None → IsPlain word → ⊥
  not_last : role ≡ None → IsLast word → ⊥

other : (word : ℕ) (kind : Kind) → kind_of word ≡ Some kind → (kind ≡ AluImmediate → ⊥) → (kind ≡ Svc → ⊥) → Says word None
other word kind k a s = record {
  plain = λ e small. cc;
  last = λ e small. cc;
  not_plain = λ e p. a (some_is (sym k ∙ p.kind));
  not_last = λ e p. s (some_is (sym k ∙ p.kind));
}
  where
    some_is : {x y : Kind} → Some x ≡ Some y → x ≡ y
    some_is e = cc

plain_says : (word : ℕ) (b : Bool) → kind_of word ≡ Some AluImmediate → is_plain_alu (condition word) (opcode word) (sets_flags word) (rn word) ≡ b → Says word (cond b (Some Plain) None)
plain_says word true k e = record {
  plain = λ r small. record { fits = small; kind = k; plain = e };
  last = λ r small. cc;
  not_plain = λ r p. cc;
  not_last = λ r p. let is = p.kind in cc;
}
plain_says word false k e = record {
  plain = λ r small. cc;
  last = λ r small. cc;
  not_plain = λ r p. let yes = p.plain in both_ways _ e yes;
  not_last = λ r p. let is = p.kind in cc;
}

last_says : (word : ℕ) (b : Bool) → kind_of word ≡ Some Svc → eqb (condition word) always ≡ b → Says word (cond b (Some Last) None)
last_says word true k e = record {
  plain = λ r small. cc;
  last = λ r small. record { fits = small; kind = k; sure = e };
  not_plain = λ r p. let is = p.kind in cc;
  not_last = λ r p. cc;
}
last_says word false k e = record {
  plain = λ r small. cc;
  last = λ r small. cc;
  not_plain = λ r p. let is = p.kind in cc;
  not_last = λ r p. let yes = p.sure in both_ways _ e yes;
}

says_by : (word : ℕ) (kind : Kind) → kind_of word ≡ Some kind → Says word (op_role (condition word) (op_by word kind))
says_by word AluImmediate k = plain_says word (is_plain_alu (condition word) (opcode word) (sets_flags word) (rn word)) k refl
says_by word AluShift k = other word AluShift k (λ e. cc) (λ e. cc)
says_by word AluByRegister k = other word AluByRegister k (λ e. cc) (λ e. cc)
says_by word Mul k = other word Mul k (λ e. cc) (λ e. cc)
says_by word MulLong k = other word MulLong k (λ e. cc) (λ e. cc)
says_by word SingleImmediate k = other word SingleImmediate k (λ e. cc) (λ e. cc)
says_by word SingleRegister k = other word SingleRegister k (λ e. cc) (λ e. cc)
says_by word HalfImmediate k = other word HalfImmediate k (λ e. cc) (λ e. cc)
says_by word HalfRegister k = other word HalfRegister k (λ e. cc) (λ e. cc)
says_by word Block k = other word Block k (λ e. cc) (λ e. cc)
says_by word Branch k = other word Branch k (λ e. cc) (λ e. cc)
says_by word Exchange k = other word Exchange k (λ e. cc) (λ e. cc)
says_by word Svc k = last_says word (eqb (condition word) always) k refl
says_by word MovPcLr k = other word MovPcLr k (λ e. cc) (λ e. cc)

says_found : (word : ℕ) (insn : Insn) (found : Option Kind) → kind_of word ≡ found → option_map (insn_by word) found ≡ Some insn → Says word (op_role insn.cond insn.op)
says_found word insn None k e = cc
says_found word insn (Some kind) k e =
    let same : insn_by word kind ≡ insn = cc in
    subst (λ (i : Insn). Says word (op_role i.cond i.op)) same (says_by word kind k)

says : (word : ℕ) (insn : Insn) → decoded word ≡ Some insn → Says word (op_role insn.cond insn.op)
unfolding decoded
says word insn e = says_found word insn (kind_of word) refl e

pub plain_of : (word : ℕ) (insn : Insn) → word < 2 ^ 32 → decoded word ≡ Some insn → op_role insn.cond insn.op ≡ Some Plain → IsPlain word
plain_of word insn small e r = (says word insn e).plain r small

pub last_of : (word : ℕ) (insn : Insn) → word < 2 ^ 32 → decoded word ≡ Some insn → op_role insn.cond insn.op ≡ Some Last → IsLast word
last_of word insn small e r = (says word insn e).last r small

pub not_plain_of : (word : ℕ) (insn : Insn) → decoded word ≡ Some insn → op_role insn.cond insn.op ≡ None → IsPlain word → ⊥
not_plain_of word insn e r = (says word insn e).not_plain r

pub not_last_of : (word : ℕ) (insn : Insn) → decoded word ≡ Some insn → op_role insn.cond insn.op ≡ None → IsLast word → ⊥
not_last_of word insn e r = (says word insn e).not_last r

-- the entry of a word whose fetch misses
pub missing_of : (insn : Insn) (word : ℕ) → word_of insn ≡ word → entry_of (record { insn = insn; miss = true; slow = false; taken = false }) ≡ missing word
missing_of insn word e = ap missing e
