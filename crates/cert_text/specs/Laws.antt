-- What holds of the texts of all certificates.
use Rattle.std.specs.Prelude.{◌≡◌, ◌≢◌, ◌<◌, ◌^◌, ℕ, List, [], ◌++◌, length}
use Rattle.cert_lines.specs.declared.kind.Version.TheVariants.{Two}
use Rattle.cert_text.specs.declared.certificate.Certificate.{Certificate}
use Rattle.cert_text.specs.Text.{IsTextOf}
use Rattle.cert_text.specs.Pool.{HasVectors}
use Rattle.cert_text.specs.Written.{IsWritten}
use Rattle.cert_text.specs.Writable.{IsWritable}

-- a certificate has one number of different vectors
abbrev pub CountIsOne : Type 0
CountIsOne = (c : Certificate) (m n : ℕ) → HasVectors c.families m → HasVectors c.families n → m ≡ n

-- a certificate has one text of version 2
abbrev pub TextIsOne : Type 0
TextIsOne = (c : Certificate) (a b : List ℕ) → IsWritten a c → IsWritten b c → a ≡ b

-- the text that is written of a certificate tells it
abbrev pub WrittenTells : Type 0
WrittenTells = (c : Certificate) (bytes : List ℕ) → IsWritable c → IsWritten bytes c → IsTextOf bytes c

-- a text of version 2 is what is written of the certificate that it tells
abbrev pub TextIsWritten : Type 0
TextIsWritten = (c : Certificate) (bytes : List ℕ) (t : IsTextOf bytes c) → t.version ≡ Two → IsWritten bytes c

-- a certificate that some text tells can be written, if the text has fewer than 2^32 bytes
abbrev pub ReadIsWritable : Type 0
ReadIsWritable = (c : Certificate) (bytes : List ℕ) → length bytes < 2 ^ 32 → IsTextOf bytes c → IsWritable c

-- no proper front of a text is a text
abbrev pub NoTextWithin : Type 0
NoTextWithin = (c d : Certificate) (bytes more : List ℕ) → more ≢ [] → IsTextOf bytes c → IsTextOf (bytes ++ more) d → ⊥
