-- Classes by verdicts.
use Rattle.std.proofs.Common.{◌≡◌, ℕ}
use Rattle.wx_base.specs.declared.machine.Shape.{Shape}
use Rattle.cache_flow.specs.declared.flow.Flow.{Flow}
use Rattle.cache_sets.specs.declared.verdict.Verdict.{Verdict}
use Rattle.cache_sets.specs.declared.verdict.Verdict.TheVariants.{Held, Barred, Unsure}
use Rattle.cache_sets.specs.Verdicts.{IsVerdict}
use Rattle.cache_sets.specs.Verdicts.IsVerdict.{held, barred, unsure}
use Rattle.flow_ctx.specs.declared.scope.Scope.{Scope}
use Rattle.flow_ctx.specs.declared.unfolded.Unfolded.{Unfolded}
use Rattle.cache_class.specs.declared.class.Class.TheVariants.{AlwaysHit, AlwaysMiss, FirstMiss, Open}
use Rattle.cache_class.specs.Classes.{IsKeptIn, IsClass}
use Rattle.cache_class.specs.Classes.IsClass.{hits, misses, first, opens}
use Rattle.cache_class.specs.Tables.{IsOutermost}

module _ (shape : Shape) (u : Unfolded) (flow : Flow) (node place line : ℕ) where
  pub hit_told : (verdict : Verdict) → verdict ≡ Held → IsVerdict shape flow node place line verdict → IsClass shape u flow node place line AlwaysHit
  hit_told verdict e (held h) = hits h
  hit_told verdict e (barred h b) = absurd cc
  hit_told verdict e (unsure h b) = absurd cc

  pub miss_told : (verdict : Verdict) → verdict ≡ Barred → IsVerdict shape flow node place line verdict → IsClass shape u flow node place line AlwaysMiss
  miss_told verdict e (held h) = absurd cc
  miss_told verdict e (barred h b) = misses h b
  miss_told verdict e (unsure h b) = absurd cc

  pub first_told : (verdict : Verdict) (scope : Scope) → verdict ≡ Unsure → IsVerdict shape flow node place line verdict
      → IsOutermost shape u flow node place line scope → IsClass shape u flow node place line (FirstMiss scope)
  first_told verdict scope e (held h) out = absurd cc
  first_told verdict scope e (barred h b) out = absurd cc
  first_told verdict scope e (unsure h b) out = first scope h b out.is out.outermost

  pub open_told : (verdict : Verdict) → verdict ≡ Unsure → IsVerdict shape flow node place line verdict
      → ((scope : Scope) → IsKeptIn shape u flow node place line scope → ⊥) → IsClass shape u flow node place line Open
  open_told verdict e (held h) never = absurd cc
  open_told verdict e (barred h b) never = absurd cc
  open_told verdict e (unsure h b) never = opens h b never
