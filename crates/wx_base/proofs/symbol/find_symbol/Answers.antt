use Rattle.std.proofs.Common.{◌≡◌, refl, sym, ap, ◌∙◌}
use Rattle.std.specs.Prelude.{is_some}
use Rattle.wx_base.proofs.Found.{any_from_value, value_from_any, named, named_back, named_global}
use Rattle.wx_base.proofs.symbol.find_symbol.Goals as goal

pub returns-in-Some-clause-found : goal.returns-in-Some-clause-found
returns-in-Some-clause-found c = (
  λ _. any_from_value (λ s. s.name ≡ c.args.name.now) _ c.args.symbols.now (named_global c.args.name.now) (ap is_some (sym c.in-Some.ensures)),
  λ _. refl,
)

pub returns-in-None-clause-found : goal.returns-in-None-clause-found
returns-in-None-clause-found c = (
  λ h. any_from_value (λ s. s.name ≡ c.args.name.now) _ c.args.symbols.now (named c.args.name.now) (ap is_some (sym c.first_named.ensures) ∙ h),
  λ w. ap is_some c.first_named.ensures ∙ value_from_any (λ s. s.name ≡ c.args.name.now) _ c.args.symbols.now (named_back c.args.name.now) w,
)
