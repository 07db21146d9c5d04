-- What is said of valid certificates and broken rules. This project's own.
use Rattle.std.specs.Prelude.{◌≡◌, ℕ}
use Rattle.wx_base.specs.declared.machine.Machine.{Machine}
use Rattle.flow_ctx.specs.declared.unfolded.Unfolded.{Unfolded}
use Rattle.cache_class.specs.declared.class.Classes.{Classes}
use Rattle.cert_text.specs.declared.certificate.Certificate.{Certificate}
use Rattle.cert_rules.specs.Rules.{IsValid}
use Rattle.cert_rules.specs.Judged.{IsBroken}

-- a valid certificate breaks no rule
abbrev pub ValidBreaksNone : Type 0
ValidBreaksNone =
    (u : Unfolded) (m : Machine) (classes : Classes) (c : Certificate) (rule node vector : ℕ) →
    IsValid u m classes c → IsBroken u m classes c rule node vector → ⊥

-- a rule that is broken first is the only one, at one place
abbrev pub FirstBrokenIsOne : Type 0
FirstBrokenIsOne =
    (u : Unfolded) (m : Machine) (classes : Classes) (c : Certificate) (rule node vector other_rule other_node other_vector : ℕ) →
    IsBroken u m classes c rule node vector → IsBroken u m classes c other_rule other_node other_vector →
    (rule ≡ other_rule) × (node ≡ other_node) × (vector ≡ other_vector)
