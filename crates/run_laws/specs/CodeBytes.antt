-- Where an image has code it has a byte.
use Rattle.std.proofs.Common.{◌≡◌, ℕ, Bool, true, false, cond, ◌&&◌, List, [], ◌∷◌, refl, ap, inl, inr}
use Rattle.std.specs.Prelude.{◌⊎◌, Option, Some, find, option_map}
use Rattle.std.proofs.lemmas.Bool.{false≢true, and_parts, or_cases}
use Rattle.std.specs.List.{list_any}
use Rattle.wx_base.specs.declared.image.Image.{Image}
use Rattle.wx_base.specs.declared.image.Segment.{Segment}
use Rattle.wx_base.specs.Image.{byte_of, byte_in, has_code, spans}

-- a byte that the image has at an address
pub record HasByte (image : Image) (address : ℕ) : Type 0 where
  pub byte : ℕ
  pub is : byte_of image address ≡ Some byte

segment_found : (address : ℕ) (s : Segment) (rest : Option Segment) (b : Bool) → spans address s ≡ b → (b ≡ true) ⊎ ((t : Segment) × (rest ≡ Some t)) → (t : Segment) × (cond b (Some s) rest ≡ Some t)
segment_found address s rest true e h = (s, refl)
segment_found address s rest false e (inl h) = absurd (false≢true h)
segment_found address s rest false e (inr h) = h

code_found : (address : ℕ) (segments : List Segment) → list_any (λ segment. segment.code && spans address segment) segments ≡ true
    → (t : Segment) × (find (λ segment. spans address segment) segments ≡ Some t)
code_found address [] e = absurd (false≢true e)
code_found address (s ∷ segments) e =
    segment_found address s (find (λ segment. spans address segment) segments) (spans address s) refl
    (elim (or_cases (s.code && spans address s) (list_any (λ segment. segment.code && spans address segment) segments) e) [
      | inl here ↦ inl (and_parts s.code (spans address s) here).1
      | inr there ↦ inr (code_found address segments there)
    ])

pub code_has_byte : (image : Image) (address : ℕ) → has_code image address ≡ true → HasByte image address
code_has_byte image address e =
    let found = code_found address image.segments e in
    record { byte = byte_in found.0 address; is = ap (option_map (λ segment. byte_in segment address)) found.1 }
