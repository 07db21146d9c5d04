-- What stands at an address.
use Rattle.std.proofs.Common.{rules, ◌≡◌, ℕ, ◌<◌, ◌+◌, ◌%◌, ◌^◌, ◌&&◌, ◌==◌, Bool, true, false, IsTrue, Any, Option, Some, None, arith, refl, subst}
use Rattle.std.proofs.lemmas.Bool.Decides.{nat_tests}
use Rattle.std.proofs.lemmas.List.Folds.{Any-from_list_any}
use Rattle.std.specs.Option.{option_map, option_map_or}
use Rattle.wx_base.specs.declared.image.Image.{Image}
use Rattle.wx_base.specs.Bits.{add_words}
use Rattle.wx_base.specs.Flow.{flow_of, flow_by, no_flow}
use Rattle.wx_base.specs.Image.{Covers, has_code, is_code_word, spans}
use Rattle.wx_base.specs.Instruction.{Kind, kind_of}
use Rattle.arm_code.specs.Encoding.{decoded, insn_by}

-- a word that is no instruction is nothing to the flow
pub foreign_flow : (word address : ℕ) → decoded word ≡ None → flow_of word address ≡ no_flow
unfolding decoded flow_of
foreign_flow word address e = by (kind_of word) e
  where
    by : (k : Option Kind) → option_map (insn_by word) k ≡ None → option_map_or (flow_by word address) k no_flow ≡ no_flow
    by None e = refl
    by (Some k) e = absurd cc

-- an address of code lies in a segment
covered : (image : Image) (address : ℕ) → has_code image address ≡ true → Covers image address
covered image address e = by (Any-from_list_any (λ s. s.code && spans address s) image.segments e)
  where
    second : (a b : Bool) → (a && b) ≡ true → IsTrue b
    second true true e = search rules
    second true false e = absurd cc
    second false b e = absurd cc

    by : Any (λ s. (s.code && spans address s) ≡ true) image.segments → Covers image address
    by (k, s, h, is, e) = (k, s, h, is, second s.code (spans address s) e)

-- both of two tests
pub both : (a b : Bool) → (a && b) ≡ true → (a ≡ true) × (b ≡ true)
both true true e = (refl, refl)
both true false e = absurd cc
both false b e = absurd cc

-- the addresses of the bytes of a word of code
behind_word : (address by : ℕ) → address < 2 ^ 32 → (address % 4 == 0) ≡ true → by < 4 → address + by ≡ add_words address by
behind_word address by small e h =
    let aligned : address % 4 ≡ 0 = grind (arith, nat_tests) in
    omega arith

-- the four bytes of a word of code lie in segments
pub code_covered : (image : Image) (address : ℕ) → address < 2 ^ 32 → is_code_word image address ≡ true
    → Covers image address × Covers image (add_words address 1) × Covers image (add_words address 2) × Covers image (add_words address 3)
code_covered image address small e =
    let p = both _ _ e in let q = both _ _ p.0 in let r = both _ _ q.0 in let s = both _ _ r.0 in (
      covered image address s.1,
      subst (λ a. Covers image a) (behind_word address 1 small s.0 (omega arith)) (covered image (address + 1) r.1),
      subst (λ a. Covers image a) (behind_word address 2 small s.0 (omega arith)) (covered image (address + 2) q.1),
      subst (λ a. Covers image a) (behind_word address 3 small s.0 (omega arith)) (covered image (address + 3) p.1),
    )
