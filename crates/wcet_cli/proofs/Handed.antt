-- How a call ends, as its reply is handed over.
use Rattle.std.proofs.Common.{◌≡◌, ◌⊎◌, ℕ, ◌<◌, inl, inr, List, Option, sym, ◌∙◌, subst, arith}
use Rattle.wx_host.specs.Outside.{Rose}
use Rattle.run_machine.specs.declared.report.End.{End}
use Rattle.run_machine.specs.declared.report.End.TheVariants as end
use Rattle.wcet_front.specs.declared.reply.Reply.{Reply}
use Rattle.wcet_front.specs.declared.reply.Reply.TheVariants as reply
use Rattle.wcet_front.specs.Reply.{run_status, status_of, IsNoFault, IsSaid, InFull, Wanting, starved}
use Rattle.wcet_front.specs.Handing.{Took, HandsOver, Whole, Unwritten, Starved}
use Rattle.wcet_cli.specs.Call.{EndsWith}

run_is_not_three : (e : End) → run_status e ≡ 3 → ⊥
run_is_not_three end.Ended s = omega (arith, s)
run_is_not_three end.Limit s = omega (arith, s)
run_is_not_three (end.Stopped why address) s = omega (arith, s)
run_is_not_three (end.Breaks fact address) s = omega (arith, s)

-- no reply but one of a write that fails has the status of an output that fails
pub not_three : (said : Reply) → IsNoFault said → status_of said ≡ 3 → ⊥
not_three (reply.Bound cycles) fine s = omega (arith, s)
not_three reply.Usage fine s = omega (arith, s)
not_three (reply.Missing name) fine s = omega (arith, s)
not_three (reply.LeavesCode address) fine s = omega (arith, s)
not_three (reply.Unsupported address word) fine s = omega (arith, s)
not_three (reply.LongFile name) fine s = omega (arith, s)
not_three (reply.BadImage e) fine s = omega (arith, s)
not_three (reply.BadFacts e) fine s = omega (arith, s)
not_three (reply.BadMachine e) fine s = omega (arith, s)
not_three (reply.NoEntry name) fine s = omega (arith, s)
not_three (reply.BadStart e) fine s = omega (arith, s)
not_three (reply.BadFlow e) fine s = omega (arith, s)
not_three (reply.Unreadable name) fine s = omega (arith, s)
not_three (reply.BadCertificate e) fine s = omega (arith, s)
not_three (reply.Migrated nodes vectors) fine s = omega (arith, s)
not_three reply.ManyNodes fine s = omega (arith, s)
not_three (reply.Rejected rule node vector) fine s = omega (arith, s)
not_three (reply.Unwritten name) fine s = absurd fine
not_three (reply.Ran report) fine s = run_is_not_three report.end s

said_is_not_three : (said : Reply) (status : ℕ) (text : List ℕ) → IsNoFault said → IsSaid said status text → status ≡ 3 → ⊥
said_is_not_three said status text fine (InFull s t) e = not_three said fine (sym s ∙ e)
said_is_not_three said status text fine (Wanting s t) e = omega (arith, s, e)

module _ (taken taken' : Option (List ℕ)) (faults faults' ends : ℕ) where
  -- where another status was to come than that of an output that fails, the output failed only if it says so
  three_rose : (status : ℕ) (text : List ℕ) → HandsOver taken taken' faults faults' status text ends → (status ≡ 3 → ⊥) → ends ≡ 3 → Rose faults faults'
  three_rose status text (Whole e took same) fine three = absurd (fine (sym e ∙ three))
  three_rose status text (Unwritten e took rose) fine three = rose
  three_rose status text (Starved e took same) fine three = absurd (omega (arith, e, three))

  -- the sink's faults turn every other status into 3
  pub must_be_three : (status : ℕ) (text : List ℕ) → HandsOver taken taken' faults faults' status text ends → faults < faults' → ends ≡ 3
  must_be_three status text (Whole e took same) more = absurd (omega (arith, same))
  must_be_three status text (Unwritten e took rose) more = e
  must_be_three status text (Starved e took same) more = absurd (omega (arith, same))

  not_unwritten : (status : ℕ) (text : List ℕ) (reliable : Type 0) → HandsOver taken taken' faults faults' status text ends → (status ≡ 3 → ⊥) → (reliable → ends ≡ 3 → ⊥) → reliable ⊎ (Rose faults faults' → ⊥) → ends ≡ 3 → ⊥
  not_unwritten status text reliable hands fine sound (inl r) three = sound r three
  not_unwritten status text reliable hands fine sound (inr none) three = none (three_rose status text hands fine three)

  said_ends : (status : ℕ) (text : List ℕ) (said : Reply) → IsSaid said status text → HandsOver taken taken' faults faults' status text ends → (ends ≡ 3 → ⊥) → EndsWith taken taken' said ends
  said_ends status text said (InFull s t) (Whole e took same) fine = inr (e ∙ s, subst (Took taken taken') t took)
  said_ends status text said (Wanting s t) (Whole e took same) fine = inl (e ∙ s)
  said_ends status text said is (Unwritten e took rose) fine = absurd (fine e)
  said_ends status text said is (Starved e took same) fine = inl e

  -- the due reply ends the call
  pub due_ends : (reliable : Type 0) (said due : Reply) → IsNoFault said → (status : ℕ) × (text : List ℕ) × IsSaid said status text × HandsOver taken taken' faults faults' status text ends → (reliable → IsNoFault said → ends ≡ 3 → ⊥) → reliable ⊎ (Rose faults faults' → ⊥) → said ≡ due → EndsWith taken taken' due ends
  due_ends reliable said due free (status, text, is, hands) sound fine same =
      subst (λ r. EndsWith taken taken' r ends) same
      (said_ends status text said is hands (not_unwritten status text reliable hands (said_is_not_three said status text free is) (λ r. sound r free) fine))

  -- where memory is wanting, so is the answer
  pub wanting_ends : (text : List ℕ) (reliable : Type 0) (due : Reply) → HandsOver taken taken' faults faults' starved text ends → (reliable → ends ≡ 3 → ⊥) → reliable ⊎ (Rose faults faults' → ⊥) → EndsWith taken taken' due ends
  wanting_ends text reliable due (Whole e took same) sound fine = inl e
  wanting_ends text reliable due (Unwritten e took rose) sound fine =
      absurd (not_unwritten starved text reliable (Unwritten e took rose) (λ h. omega (arith, h)) sound fine e)
  wanting_ends text reliable due (Starved e took same) sound fine = inl e
