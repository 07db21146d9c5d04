-- What holds of all certificates, and of all events of unfoldings. This project's own.
use Rattle.std.specs.Prelude.{ℕ}
use Rattle.wx_base.specs.declared.machine.Machine.{Machine}
use Rattle.flow_ctx.specs.declared.unfolded.Unfolded.{Unfolded}
use Rattle.cache_class.specs.declared.class.Classes.{Classes}
use Rattle.cache_class.specs.Classes.{AreClasses}
use Rattle.cert_text.specs.declared.certificate.Certificate.{Certificate}
use Rattle.cert_rules.specs.Judged.{IsBroken}
use Rattle.cert_rules.specs.Rules.{IsValid}

-- the events of an unfolding have classes on a machine: it cannot be that they have none
abbrev pub HasClasses : Type 0
HasClasses = (u : Unfolded) (machine : Machine) → ((table : Classes) → AreClasses u machine table → ⊥) → ⊥

-- a certificate is valid, or a rule is the first that it breaks: it cannot be that neither holds
abbrev pub ValidOrBroken : Type 0
ValidOrBroken = (u : Unfolded) (m : Machine) (classes : Classes) (c : Certificate) → (IsValid u m classes c → ⊥)
    → ((rule node vector : ℕ) → IsBroken u m classes c rule node vector → ⊥) → ⊥
