-- A text that is refused as facts tells none.
use Rattle.std.proofs.Common.{◌≡◌, ℕ, List, subst, sym}
use Rattle.wx_base.specs.declared.facts.Facts.{Facts}
use Rattle.wx_base.specs.declared.symbol.Symbol.{Symbol}
use Rattle.ffx_facts.specs.declared.error.FactsError.{FactsError}
use Rattle.ffx_facts.specs.declared.error.FactsError.TheVariants.{NoMemory}
use Rattle.ffx_facts.specs.Causes.{AreFactsOf, IsFine}

pub no_facts : (bytes text : List ℕ) (symbols listed : List Symbol) (e : FactsError) → bytes ≡ text → symbols ≡ listed
    → ((all : _) → IsFine bytes symbols all → e ≡ NoMemory) → (e ≡ NoMemory → ⊥) → (facts : Facts) → AreFactsOf text listed facts → ⊥
no_facts bytes text symbols listed e p q read other facts are =
    let fine = subst (λ b. IsFine b symbols are.all) (sym p) (subst (λ s. IsFine text s are.all) (sym q) are.fine) in
    other (read are.all fine)
