-- What lines say keeps to what each of them keeps to.
use Rattle.std.proofs.Common.{◌≡◌, ℕ, ◌<◌, ◌^◌, Bool, true, false, ◌==◌, cond, List, [], ◌∷◌, All, Option, Some, None, refl, sym, subst}
use Rattle.std.specs.Option.{option_or, unwrap_or}
use Rattle.std.proofs.lemmas.Bool.{eqb-true}
use Rattle.std.proofs.lemmas.List.Elements.{All-head, All-tail}
use Rattle.wx_base.specs.declared.image.Image.{Image}
use Rattle.wx_base.specs.declared.machine.Shape.{Shape}
use Rattle.wx_base.specs.Image.{Covers}
use Rattle.start_file.specs.declared.start_item.Item.{Item}
use Rattle.start_file.specs.declared.start_item.Item.TheVariants as item
use Rattle.start_file.specs.StartText.{IsProper}
use Rattle.start_file.specs.StartSaid.{said, of_register, of_fill, of_byte}

-- what lines say has what each line's saying has
said_has : {A : Type 0} (P : A → Type 0) (about : Item → Option A) (Q : Item → Type 0) → ((x : Item) → Q x → (v : A) → about x ≡ Some v → P v) → (items : List Item) → All Q items → (v : A) → said about items ≡ Some v → P v
said_has P about Q each [] all v e = absurd (cc)
said_has P about Q each (x ∷ items) all v e = by (said about items) (λ w is. said_has P about Q each items (All-tail Q x items all) w is) e
  where
    by : (later : Option _) → ((w : _) → later ≡ Some w → P w) → option_or later (about x) ≡ Some v → P v
    by (Some w) held same = held v same
    by None held same = each x (All-head Q x items all) v same

-- a number that is said where a test is met
taken : {A : Type 0} (P : A → Type 0) (b : Bool) (w v : A) → cond b (Some w) None ≡ Some v → P w → P v
taken P true w v e p = let same : w ≡ v = cc in subst P same p
taken P false w v e p = absurd (cc)

register_below : (image : Image) (shape : Shape) (n : ℕ) (x : Item) → IsProper image shape x → (v : ℕ) → of_register n x ≡ Some v → v < 2 ^ 32
register_below image shape n item.Head proper v e = absurd (cc)
register_below image shape n (item.Register number value) proper v e = taken (λ k. k < 2 ^ 32) (number == n) value v e proper.fits.1
register_below image shape n (item.Flags flags) proper v e = absurd (cc)
register_below image shape n (item.Fill byte) proper v e = absurd (cc)
register_below image shape n (item.Byte address byte) proper v e = absurd (cc)
register_below image shape n (item.Set set lines) proper v e = absurd (cc)
register_below image shape n item.End proper v e = absurd (cc)

fill_below : (image : Image) (shape : Shape) (x : Item) → IsProper image shape x → (v : ℕ) → of_fill x ≡ Some v → v < 256
fill_below image shape item.Head proper v e = absurd (cc)
fill_below image shape (item.Register number value) proper v e = absurd (cc)
fill_below image shape (item.Flags flags) proper v e = absurd (cc)
fill_below image shape (item.Fill byte) proper v e = taken (λ k. k < 256) true byte v e proper.fits
fill_below image shape (item.Byte address byte) proper v e = absurd (cc)
fill_below image shape (item.Set set lines) proper v e = absurd (cc)
fill_below image shape item.End proper v e = absurd (cc)

-- a byte that is said is one, and its address lies outside the image
abbrev pub IsFree : Image → ℕ → ℕ → Type 0
IsFree image at v = (v < 256) × (Covers image at → ⊥)

byte_free : (image : Image) (shape : Shape) (at : ℕ) (x : Item) → IsProper image shape x → (v : ℕ) → of_byte at x ≡ Some v → IsFree image at v
byte_free image shape at item.Head proper v e = absurd (cc)
byte_free image shape at (item.Register number value) proper v e = absurd (cc)
byte_free image shape at (item.Flags flags) proper v e = absurd (cc)
byte_free image shape at (item.Fill byte) proper v e = absurd (cc)
byte_free image shape at (item.Byte address byte) proper v e = by (address == at) refl e
  where
    by : (b : Bool) → (address == at) ≡ b → cond b (Some byte) None ≡ Some v → IsFree image at v
    by true is same =
        let byte_is : byte ≡ v = cc in
        (subst (λ k. k < 256) byte_is proper.fits.1, λ covers. proper.may (subst (Covers image) (sym (eqb-true address at is)) covers))
    by false is same = absurd (cc)
byte_free image shape at (item.Set set lines) proper v e = absurd (cc)
byte_free image shape at item.End proper v e = absurd (cc)

-- what is said, or another value, is below a limit
pub below_or : (o : Option ℕ) (other limit : ℕ) → ((v : ℕ) → o ≡ Some v → v < limit) → other < limit → unwrap_or o other < limit
below_or (Some v) other limit each small = each v refl
below_or None other limit each small = small

module _ (image : Image) (shape : Shape) (items : List Item) (proper : All (IsProper image shape) items) where
  pub register_said : (n v : ℕ) → said (of_register n) items ≡ Some v → v < 2 ^ 32
  register_said n = said_has (λ v. v < 2 ^ 32) (of_register n) (IsProper image shape) (register_below image shape n) items proper

  pub fill_said : (v : ℕ) → said of_fill items ≡ Some v → v < 256
  fill_said = said_has (λ v. v < 256) of_fill (IsProper image shape) (fill_below image shape) items proper

  pub byte_said : (at v : ℕ) → said (of_byte at) items ≡ Some v → IsFree image at v
  byte_said at = said_has (IsFree image at) (of_byte at) (IsProper image shape) (byte_free image shape at) items proper
