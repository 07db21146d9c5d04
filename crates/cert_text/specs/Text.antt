-- The texts of certificates, both versions, and why other bytes are none. This project's own format.
use Rattle.std.specs.Prelude.{◌≡◌, ◌⊎◌, ℕ, List, Result, Ok, Err}
use Rattle.cert_lines.specs.declared.kind.Version.{Version}
use Rattle.cert_lines.specs.Grammar.{Line, IsText, StopsAt, IsCut}
use Rattle.cert_lines.specs.declared.lines_error.LinesError.{LinesError}
use Rattle.cert_lines.specs.declared.lines_error.LinesError.TheVariants as lines
use Rattle.cert_items.specs.declared.item.Item.{Item}
use Rattle.cert_items.specs.declared.items_error.ItemsError.{ItemsError}
use Rattle.cert_items.specs.declared.items_error.ItemsError.TheVariants as items
use Rattle.cert_items.specs.Faults.{AreAllItems, HasNumberFault, HasOrderFault}
use Rattle.cert_text.specs.declared.certificate.Certificate.{Certificate}
use Rattle.cert_text.specs.declared.cert_error.CertError.{CertError}
use Rattle.cert_text.specs.declared.cert_error.CertError.TheVariants.{Syntax, NoEnd, Number, Order, NoMemory}
use Rattle.cert_text.specs.Told.{certificate_of}

-- the bytes are lines of one of the versions, each as it must be, and tell the certificate
pub record IsTextOf (bytes : List ℕ) (c : Certificate) : Type 0 where
  pub version : Version
  pub lines : List Line
  pub text : IsText bytes version lines
  pub items : List Item
  pub so : AreAllItems lines items
  pub is : c ≡ certificate_of items

-- the bytes are lines, and this is the first with a fault: of a number
pub record IsNumberAt (bytes : List ℕ) (at : ℕ) : Type 0 where
  pub version : Version
  pub lines : List Line
  pub text : IsText bytes version lines
  pub fault : HasNumberFault lines at

-- the same, of order
pub record IsOrderAt (bytes : List ℕ) (at : ℕ) : Type 0 where
  pub version : Version
  pub lines : List Line
  pub text : IsText bytes version lines
  pub fault : HasOrderFault lines at

-- where reading is refused
abbrev pub IsRefusal : List ℕ → CertError → Type 0
IsRefusal bytes (Syntax at) = StopsAt bytes at
IsRefusal bytes NoEnd = IsCut bytes
IsRefusal bytes (Number line) = IsNumberAt bytes line
IsRefusal bytes (Order line) = IsOrderAt bytes line
IsRefusal bytes NoMemory = Unit {0}

-- reading answers with the refusal, unless memory runs out
abbrev pub IsRefusedFor : Result Certificate CertError → CertError → Type 0
IsRefusedFor (Ok c) e = ⊥
IsRefusedFor (Err r) e = (r ≡ e) ⊎ (r ≡ NoMemory)

-- the refusal of lines as one of the certificate's text
abbrev pub of_lines : LinesError → CertError
of_lines (lines.Syntax at) = Syntax at
of_lines lines.NoEnd = NoEnd
of_lines lines.NoMemory = NoMemory

-- the refusal of what lines tell as one of the certificate's text
abbrev pub of_items : ItemsError → CertError
of_items (items.Number line) = Number line
of_items (items.Order line) = Order line
of_items items.NoMemory = NoMemory
