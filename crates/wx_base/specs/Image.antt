-- What an executable puts into memory. System V ABI, "Program Header" and "Program Loading".
use Rattle.std.specs.Prelude.{ℕ, ◌+◌, ◌-◌, ◌%◌, Bool, true, ◌&&◌, ◌==◌, IsTrue, Any, nat_le, nat_lt, List, [], ◌∷◌, length, slice_index, Option, Some, None, find, option_map}
use Rattle.std.specs.List.{list_any}
use Rattle.wx_base.specs.declared.image.Image.{Image}
use Rattle.wx_base.specs.declared.image.Segment.{Segment}
use Rattle.wx_base.specs.Bits.{add_words, word_of_bytes}

-- the segment has this address
abbrev pub spans : ℕ → Segment → Bool
spans address segment = nat_le segment.first address && nat_lt address (segment.first + segment.size)

-- an address lies in a segment
abbrev pub Covers : Image → ℕ → Type 0
Covers image address = Any (λ segment. IsTrue (spans address segment)) image.segments

-- the segment of an address; no two of a file's segments share one
abbrev pub segment_of : Image → ℕ → Option Segment
segment_of image address = find (λ segment. spans address segment) image.segments

-- the byte of a segment at an address in it: its own, and 0 past them
abbrev pub byte_in : Segment → ℕ → ℕ
byte_in segment address = slice_index segment.bytes (address - segment.first)

-- the byte that the image has at an address
abbrev pub byte_of : Image → ℕ → Option ℕ
byte_of image address = option_map (λ segment. byte_in segment address) (segment_of image address)

-- the word of four bytes, if each is there
abbrev pub word_from : Option ℕ → Option ℕ → Option ℕ → Option ℕ → Option ℕ
word_from (Some a) (Some b) (Some c) (Some d) = Some (word_of_bytes a b c d)
word_from _ _ _ _ = None

-- the word at an address, if each of its four bytes lies in a segment
unfoldable pub word_of : Image → ℕ → Option ℕ
word_of image address =
    word_from (byte_of image address) (byte_of image (add_words address 1)) (byte_of image (add_words address 2)) (byte_of image (add_words address 3))

-- an address lies in an executable segment
abbrev pub IsCodeAt : Image → ℕ → Type 0
IsCodeAt image address = Any (λ segment. IsTrue segment.code × IsTrue (spans address segment)) image.segments

-- whether an executable segment has the address
abbrev pub has_code : Image → ℕ → Bool
has_code image address = list_any (λ segment. segment.code && spans address segment) image.segments

-- whether a word of code stands at the address: a multiple of 4 whose four bytes lie in executable segments; the four
-- addresses of a multiple of 4 never pass the end of memory
abbrev pub is_code_word : Image → ℕ → Bool
is_code_word image address =
    (address % 4 == 0) && has_code image address && has_code image (address + 1)
    && has_code image (address + 2) && has_code image (address + 3)

-- the image of code bytes alone, from an address on, which is its entry
abbrev pub code_image : ℕ → List ℕ → Image
code_image first bytes =
    record {
      entry = first;
      segments = record { first = first; size = length bytes; code = true; bytes = bytes } ∷ [];
      symbols = [];
    }
