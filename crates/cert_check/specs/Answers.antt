-- What checking a certificate answers. This project's own.
use Rattle.std.specs.Prelude.{ℕ}
use Rattle.wx_base.specs.declared.machine.Machine.{Machine}
use Rattle.flow_ctx.specs.declared.unfolded.Unfolded.{Unfolded}
use Rattle.cache_class.specs.declared.class.Classes.{Classes}
use Rattle.cache_class.specs.Classes.{AreClasses}
use Rattle.cert_text.specs.declared.certificate.Certificate.{Certificate}
use Rattle.cert_rules.specs.Rules.{IsValid}
use Rattle.cert_rules.specs.Judged.{IsBroken}
use Rattle.cert_check.specs.declared.refused.Refused.{Refused}
use Rattle.cert_check.specs.declared.refused.Refused.TheVariants.{Rejected, NoMemory}

-- the certificate is valid for the unfolding on the machine, whose events have their classes
pub record IsAccepted (u : Unfolded) (m : Machine) (c : Certificate) : Type 0 where
  pub classes : Classes
  pub are : AreClasses u m classes
  pub valid : IsValid u m classes c

-- it breaks this rule first, at this vector of this node
pub record IsRejected (u : Unfolded) (m : Machine) (c : Certificate) (rule node vector : ℕ) : Type 0 where
  pub classes : Classes
  pub are : AreClasses u m classes
  pub broken : IsBroken u m classes c rule node vector

-- the cause of a refusal
abbrev pub IsRefusal : Unfolded → Machine → Certificate → Refused → Type 0
IsRefusal u m c (Rejected rule node vector) = IsRejected u m c rule node vector
IsRefusal u m c NoMemory = Unit {0}
