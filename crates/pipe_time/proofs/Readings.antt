-- The next instruction's times as a function of twelve readings of the past.
use Rattle.std.proofs.Common.{◌≡◌, ℕ, ◌+◌, List, refl, max}
use Rattle.wx_base.specs.declared.machine.Machine.{Machine}
use Rattle.wx_base.specs.declared.times.Times.{Times}
use Rattle.wx_base.specs.Instruction.{unit_of}
use Rattle.wx_base.specs.Recurrence.{Entry, Done, ago, when, next, f_back, fe_back, d_back, x_back, c_back, last_jump, unit_free, operands_ready, latency_of}

pub record Readings : Type 0 where
  pub f : ℕ
  pub fe : ℕ
  pub fe_far : ℕ
  pub d : ℕ
  pub d_far : ℕ
  pub x : ℕ
  pub x_far : ℕ
  pub jump : ℕ
  pub c : ℕ
  pub c_far : ℕ
  pub free : ℕ
  pub ready : ℕ

abbrev pub readings : Machine → List ℕ → List Done → Entry → Readings
readings m start past e = record {
  f = ago 1 (f_back start past);
  fe = ago 1 (fe_back start past);
  fe_far = ago m.width (fe_back start past);
  d = ago 1 (d_back start past);
  d_far = ago m.queue (d_back start past);
  x = ago 1 (x_back start past);
  x_far = ago m.width (x_back start past);
  jump = last_jump start past;
  c = ago 1 (c_back start past);
  c_far = ago m.width (c_back start past);
  free = unit_free m start (unit_of e.word) past;
  ready = operands_ready start past e;
}

abbrev pub timed : Machine → Entry → Readings → Times
timed m e r =
    let f = max (max r.f r.fe_far) (max r.d_far r.jump) in
    let fe = max (f + m.hit + when e.miss m.miss) r.fe in
    let d = max (max fe r.d) r.x_far in
    let x = max (max (max (d + 1) r.x) (r.x_far + 1)) (max r.free r.ready) in
    let xe = x + latency_of m e in
    record { f = f; fe = fe; d = d; x = x; xe = xe; c = max (max xe r.c) (r.c_far + 1) }

pub next_timed : (m : Machine) (start : List ℕ) (past : List Done) (e : Entry) → next m start past e ≡ timed m e (readings m start past e)
unfolding next
next_timed m start past e = refl
