-- Words in bytes.
use Rattle.std.proofs.Common.{◌≡◌, ℕ, ◌<◌, ◌≤◌, List, ◌++◌, length, get_or, take, drop, sym, ap, ◌∙◌, arith}
use Rattle.std.proofs.lemmas.List.{take-append-drop, get_or-take, get_or_past, length-take-le}
use Rattle.std.proofs.lemmas.Nat.{le_bytes_4}
use Rattle.std.proofs.lemmas.Bool.{cases_lt}
use Rattle.std.proofs.Common.{⊎_elim}
use Rattle.std.specs.Int.{from_le_bytes, w32}
use Rattle.wx_base.specs.Bits.{bytes_of_word}

front_bytes : (bytes : List ℕ) → ((i : ℕ) → get_or bytes i 0 < 256) → 4 ≤ length bytes → (i : ℕ) → get_or (take 4 bytes) i 0 < 256
front_bytes bytes small long i =
    ⊎_elim
    (λ (h : i < 4). rw (get_or-take 4 bytes i 0 h) (small i))
    (λ (h : 4 ≤ i). let past : length (take 4 bytes) ≤ i = rw (length-take-le 4 bytes long) h in rw (get_or_past (take 4 bytes) i 0 past) (omega arith))
    (cases_lt i 4)

-- the first four bytes are a word
pub word_first : (bytes word rest : List ℕ) (n : ℕ) → ((i : ℕ) → get_or bytes i 0 < 256) → 4 ≤ length bytes → word ≡ take 4 bytes → rest ≡ drop 4 bytes → n ≡ from_le_bytes w32 word → bytes ≡ bytes_of_word n ++ rest
word_first bytes word rest n small long w r e =
    let front : bytes_of_word n ≡ take 4 bytes =
    le_bytes_4 (take 4 bytes) n (length-take-le 4 bytes long) (front_bytes bytes small long) (e ∙ ap (from_le_bytes w32) w)
    in
    sym (ap (λ x. x ++ rest) front ∙ ap (λ x. take 4 bytes ++ x) r ∙ take-append-drop 4 bytes)
