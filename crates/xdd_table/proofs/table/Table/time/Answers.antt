use Rattle.std.proofs.Common.{◌≡◌, ℕ, ◌<◌, Bool, true, false, if◌then◌else◌, sym, ◌∙◌, arith, length}
use Rattle.std.proofs.lemmas.Bool.{false≢true}
use Rattle.xdd_table.specs.Diagram.{itself, by_hit, by_miss}
use Rattle.xdd_table.proofs.table.Table.time.Goals as goal

miss_taken : (b c : Bool) (t hit miss start : ℕ) → b ≡ c → c ≡ true → t ≡ (if b then miss else hit) → t ≡ start → miss ≡ start
miss_taken true c t hit miss start e h is was = sym is ∙ was
miss_taken false c t hit miss start e h is was = absurd (false≢true (e ∙ h))

hit_taken : (b c : Bool) (t hit miss start : ℕ) → b ≡ c → c ≡ false → t ≡ (if b then miss else hit) → t ≡ start → hit ≡ start
hit_taken true c t hit miss start e h is was = absurd (false≢true (sym h ∙ sym e))
hit_taken false c t hit miss start e h is was = sym is ∙ was

pub bounds-combo-event : goal.bounds-combo-event
bounds-combo-event c = c.loop-time.invariant.events c.loop-time.at.place c.in-Branch.event c.in-Branch.hit c.in-Branch.miss itself c.in-Branch.ensures.value

pub loop-time-preserved-then-combo-event : goal.loop-time-preserved-then-combo-event
loop-time-preserved-then-combo-event c =
    let event : c.in-Branch.event < length c.args.combo.now = c.loop-time.invariant.events c.loop-time.at.place c.in-Branch.event c.in-Branch.hit c.in-Branch.miss itself c.in-Branch.ensures.value in
    record {
      within = omega (arith, c.in-Branch.ensures.shape.miss_before, c.loop-time.invariant.within);
      events = λ q e hit miss below at. c.loop-time.invariant.events q e hit miss (by_miss c.in-Branch.ensures.value below) at;
      times = λ f agrees. miss_taken (f c.in-Branch.event) _ _ _ _ _ (agrees c.in-Branch.event false event) c.if-combo-event.true (c.in-Branch.ensures.times f) (c.loop-time.invariant.times f agrees);
    }

pub loop-time-preserved : goal.loop-time-preserved
loop-time-preserved c =
    let event : c.in-Branch.event < length c.args.combo.now = c.loop-time.invariant.events c.loop-time.at.place c.in-Branch.event c.in-Branch.hit c.in-Branch.miss itself c.in-Branch.ensures.value in
    record {
      within = omega (arith, c.in-Branch.ensures.shape.hit_before, c.loop-time.invariant.within);
      events = λ q e hit miss below at. c.loop-time.invariant.events q e hit miss (by_hit c.in-Branch.ensures.value below) at;
      times = λ f agrees. hit_taken (f c.in-Branch.event) _ _ _ _ _ (agrees c.in-Branch.event false event) c.if-combo-event.false (c.in-Branch.ensures.times f) (c.loop-time.invariant.times f agrees);
    }
