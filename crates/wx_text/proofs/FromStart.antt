-- A cursor at the front of a text, and one that has passed some of its bytes.
use Rattle.std.proofs.Common.{◌≡◌, ℕ, ◌+◌, List, drop, ◌∙◌, ap, arith}
use Rattle.wx_text.specs.Cursor.{Reading, rest, stepped}

pub from_start : (r : Reading) (text : List ℕ) → r.bytes ≡ text → r.place ≡ 0 → rest r ≡ text
from_start r text bytes place = ap (λ t. drop r.place t) bytes ∙ ap (λ p. drop p text) place

pub record Passed (new : Reading) (text : List ℕ) (n : ℕ) : Type 0 where
  pub bytes : new.bytes ≡ text
  pub place : new.place ≡ n

pub passed : (old new : Reading) (text : List ℕ) (n : ℕ) → old.bytes ≡ text → old.place ≡ 0 → new ≡ stepped old n → Passed new text n
passed old new text n bytes place after =
    let at : new.place ≡ old.place + n = ap (λ (r : Reading). r.place) after in
    record { bytes = ap (λ (r : Reading). r.bytes) after ∙ bytes; place = omega arith }
