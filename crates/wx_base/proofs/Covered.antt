-- Where a byte of an image is there.
use Rattle.std.proofs.Common.{◌≡◌, ℕ, true, Option, Some, None, Bor, refl}
use Rattle.std.specs.Prelude.{IsTrue, is_some, find}
use Rattle.std.specs.Option.{option_copied}
use Rattle.wx_base.specs.declared.image.Image.{Image}
use Rattle.wx_base.specs.declared.image.Segment.{Segment}
use Rattle.wx_base.specs.Image.{Covers, spans}
use Rattle.wx_base.proofs.Found.{any_from_find, find_from_at}

-- the segment that was found, behind a reference
pub found-copied : (o : Option (Bor Segment)) → is_some o ≡ is_some (option_copied o)
found-copied None = refl
found-copied (Some x) = refl

-- a segment was found exactly where one covers the address
pub covered_if_found : (image : Image) (addr : ℕ) → is_some (find (λ (s : Segment). spans addr s) image.segments) ≡ true → Covers image addr
covered_if_found image addr h =
    any_from_find (λ (s : Segment). IsTrue (spans addr s)) (λ (s : Segment). spans addr s) image.segments (λ s e. e) h

pub found_if_covered : (image : Image) (addr : ℕ) → Covers image addr → is_some (find (λ (s : Segment). spans addr s) image.segments) ≡ true
found_if_covered image addr w = find_from_at (λ (s : Segment). spans addr s) image.segments w.0 w.1 w.2 w.3 w.4
