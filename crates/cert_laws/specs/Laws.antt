-- What holds of all bytes that are read as a certificate, and of all certificates. This project's own.
use Rattle.std.specs.Prelude.{◌≡◌, ◌≢◌, ℕ, List}
use Rattle.cert_text.specs.declared.certificate.Certificate.{Certificate}
use Rattle.cert_text.specs.declared.cert_error.CertError.{CertError}
use Rattle.cert_text.specs.declared.cert_error.CertError.TheVariants.{NoMemory}
use Rattle.cert_text.specs.Pool.{HasVectors}
use Rattle.cert_text.specs.Text.{IsTextOf, IsRefusal}
use Rattle.cert_text.specs.Written.{IsWritten}

-- Bytes are the text of a certificate, or a refusal but that for want of memory has its cause: it cannot be that neither holds.
abbrev pub ReadOrRefused : Type 0
ReadOrRefused = (bytes : List ℕ) → ((c : Certificate) → IsTextOf bytes c → ⊥) → ((e : CertError) → IsRefusal bytes e → e ≡ NoMemory) → ⊥

-- each certificate has a text of version 2, and a number of different vectors
abbrev pub HasText : Type 0
HasText = (c : Certificate) → ((text : List ℕ) × IsWritten text c) × ((vectors : ℕ) × HasVectors c.families vectors)

-- bytes are the text of one certificate at most
abbrev pub OneCertificate : Type 0
OneCertificate = (bytes : List ℕ) (c d : Certificate) → IsTextOf bytes c → IsTextOf bytes d → c ≡ d

-- bytes have at most one refusal but that for want of memory
abbrev pub OneRefusal : Type 0
OneRefusal = (bytes : List ℕ) (e f : CertError) → IsRefusal bytes e → IsRefusal bytes f → e ≢ NoMemory → f ≢ NoMemory → e ≡ f

-- bytes that are the text of a certificate have none
abbrev pub NotBoth : Type 0
NotBoth = (bytes : List ℕ) (c : Certificate) (e : CertError) → IsTextOf bytes c → IsRefusal bytes e → e ≡ NoMemory
