-- A text that is refused as a certificate.
use Rattle.std.proofs.Common.{◌≡◌, ◌⊎◌, inl, inr, sym, ap, ◌∙◌}
use Rattle.cert_text.specs.declared.cert_error.CertError.{CertError}
use Rattle.cert_text.specs.declared.cert_error.CertError.TheVariants as cert_error
use Rattle.wcet_front.specs.declared.reply.Reply.{Reply}
use Rattle.wcet_front.specs.declared.reply.Reply.TheVariants as reply

-- the reply to it is the one that is due
pub refused_as : (refusal due : CertError) (is said : Reply) → is ≡ reply.BadCertificate refusal → (refusal ≡ cert_error.NoMemory → ⊥) → (refusal ≡ due) ⊎ (refusal ≡ cert_error.NoMemory)
    → said ≡ reply.BadCertificate due → is ≡ said
refused_as refusal due is said e other (inl same) f = e ∙ ap reply.BadCertificate same ∙ sym f
refused_as refusal due is said e other (inr none) f = absurd (other none)
