-- Two runs side by side: a relation on times that the equations of the recurrence keep.
use Rattle.std.proofs.Common.{◌≡◌, ℕ, zero, suc, ◌+◌, ◌<◌, ◌≤◌, ◌⊎◌, Bool, true, false, refl, arith, cond, max, inl, inr}
use Rattle.wx_base.specs.declared.machine.Machine.{Machine}
use Rattle.wx_base.specs.declared.times.Times.{Times}
use Rattle.wx_base.specs.Bits.{is_in}
use Rattle.wx_base.specs.Recurrence.{Entry, when, latest, latency_of}
use Rattle.pipe_time.proofs.Readings.{Readings, timed}

-- The weaker relation Z holds of two zeros, and the later of two times keeps it.
pub record Joined (R Z : ℕ → ℕ → Type 0) : Type 0 where
  pub weak : (a b : ℕ) → R a b → Z a b
  pub nothing : Z 0 0
  pub both : (a b c d : ℕ) → Z a b → Z c d → Z (max a c) (max b d)

-- R is kept beside Z, and where durations are added that I relates.
pub record Closed (R Z I : ℕ → ℕ → Type 0) : Type 0 where
  pub joined : Joined R Z
  pub behind : (a b c d : ℕ) → R a b → Z c d → R (max a c) (max b d)
  pub later : (a b n k : ℕ) → I n k → R a b → R (a + n) (b + k)
  pub same : (n : ℕ) → I n n

pub record RelatedReadings (R Z : ℕ → ℕ → Type 0) (a b : Readings) : Type 0 where
  pub f : R a.f b.f
  pub fe : R a.fe b.fe
  pub fe_far : R a.fe_far b.fe_far
  pub d : R a.d b.d
  pub d_far : R a.d_far b.d_far
  pub x : R a.x b.x
  pub x_far : R a.x_far b.x_far
  pub jump : Z a.jump b.jump
  pub c : R a.c b.c
  pub c_far : R a.c_far b.c_far
  pub free : R a.free b.free
  pub ready : Z a.ready b.ready

pub record RelatedTimes (R : ℕ → ℕ → Type 0) (a b : Times) : Type 0 where
  pub f : R a.f b.f
  pub fe : R a.fe b.fe
  pub d : R a.d b.d
  pub x : R a.x b.x
  pub xe : R a.xe b.xe
  pub c : R a.c b.c

pub record RelatedEntries (m : Machine) (I : ℕ → ℕ → Type 0) (a b : Entry) : Type 0 where
  pub word : a.word ≡ b.word
  pub taken : a.taken ≡ b.taken
  pub miss : I (when a.miss m.miss) (when b.miss m.miss)
  pub latency : I (latency_of m a) (latency_of m b)

pub timed_related : (R Z I : ℕ → ℕ → Type 0) (m : Machine) (e g : Entry) (a b : Readings) → Closed R Z I → RelatedEntries m I e g →
    RelatedReadings R Z a b → RelatedTimes R (timed m e a) (timed m g b)
timed_related R Z I m e g a b k s r =
    let two : (p q u v : ℕ) → R p q → R u v → R (max p u) (max q v) = λ p q u v h i. k.behind p q u v h (k.joined.weak u v i) in
    let f' : R (max (max a.f a.fe_far) (max a.d_far a.jump)) (max (max b.f b.fe_far) (max b.d_far b.jump)) = two _ _ _ _ (two _ _ _ _ r.f r.fe_far) (k.behind _ _ _ _ r.d_far r.jump) in
    let fe = two _ _ _ _ (k.later _ _ _ _ s.miss (k.later _ _ _ _ (k.same m.hit) f')) r.fe in
    let d = two _ _ _ _ (two _ _ _ _ fe r.d) r.x_far in
    let x = two _ _ _ _ (two _ _ _ _ (two _ _ _ _ (k.later _ _ _ _ (k.same 1) d) r.x) (k.later _ _ _ _ (k.same 1) r.x_far)) (k.behind _ _ _ _ r.free r.ready) in
    let xe = k.later _ _ _ _ s.latency x in
    record { f = f'; fe = fe; d = d; x = x; xe = xe; c = two _ _ _ _ (two _ _ _ _ xe r.c) (k.later _ _ _ _ (k.same 1) r.c_far) }

pub when_related : (Z : ℕ → ℕ → Type 0) (test : Bool) (a b : ℕ) → Z 0 0 → Z a b → Z (when test a) (when test b)
when_related Z true a b n h = h
when_related Z false a b n h = n

pub latest_related : (R Z : ℕ → ℕ → Type 0) (a b : ℕ → ℕ) (set n : ℕ) → Joined R Z → ((r : ℕ) → r < n → R (a r) (b r)) → Z (latest a set n) (latest b set n)
unfolding latest
latest_related R Z a b set zero k h = k.nothing
latest_related R Z a b set (suc n) k h =
    k.both _ _ _ _ (latest_related R Z a b set n k (λ r lt. h r (omega arith)))
    (when_related Z (is_in set n) (a n) (b n) k.nothing (k.weak _ _ (h n (omega arith))))

pub chosen_related : (R : ℕ → ℕ → Type 0) (test : Bool) (a b c d : ℕ) → R a b → R c d → R (cond test a c) (cond test b d)
chosen_related R true a b c d h i = h
chosen_related R false a b c d h i = i

-- the second is at most t later than the first
abbrev pub AtMost : ℕ → ℕ → ℕ → Type 0
AtMost t a b = b ≤ a + t

abbrev pub NoLess : ℕ → ℕ → Type 0
NoLess n k = k ≤ n

max_at_most : (t a b c d : ℕ) → b ≤ a + t → d ≤ c + t → max b d ≤ max a c + t
max_at_most t a b c d h i = omega arith

sum_at_most : (t a b n k : ℕ) → k ≤ n → b ≤ a + t → b + k ≤ a + n + t
sum_at_most t a b n k h i = omega arith

pub at_most_closed : (t : ℕ) → Closed (AtMost t) (AtMost t) NoLess
at_most_closed t = record {
  joined = record { weak = λ a b h. h; nothing = omega arith; both = max_at_most t };
  behind = max_at_most t;
  later = sum_at_most t;
  same = λ n. omega arith;
}

-- the first is the second plus t
abbrev pub Exactly : ℕ → ℕ → ℕ → Type 0
Exactly t a b = a ≡ b + t

-- the same, or both are 0
abbrev pub ExactlyOrNothing : ℕ → ℕ → ℕ → Type 0
ExactlyOrNothing t a b = (a ≡ b + t) ⊎ ((a ≡ 0) × (b ≡ 0))

abbrev pub Same : ℕ → ℕ → Type 0
Same n k = n ≡ k

max_exact : (t a b c d : ℕ) → a ≡ b + t → c ≡ d + t → max a c ≡ max b d + t
max_exact t a b c d h i = omega arith

max_nothing : (t a b c d : ℕ) → a ≡ b + t → c ≡ 0 → d ≡ 0 → max a c ≡ max b d + t
max_nothing t a b c d h i j = omega arith

exact_behind : (t a b c d : ℕ) → Exactly t a b → ExactlyOrNothing t c d → Exactly t (max a c) (max b d)
exact_behind t a b c d h (inl i) = max_exact t a b c d h i
exact_behind t a b c d h (inr i) = max_nothing t a b c d h i.0 i.1

exact_both : (t a b c d : ℕ) → ExactlyOrNothing t a b → ExactlyOrNothing t c d → ExactlyOrNothing t (max a c) (max b d)
exact_both t a b c d (inl h) i = inl (exact_behind t a b c d h i)
exact_both t a b c d (inr h) (inl i) = inl (nothing_first t a b c d h.0 h.1 i)
  where
    nothing_first : (t a b c d : ℕ) → a ≡ 0 → b ≡ 0 → c ≡ d + t → max a c ≡ max b d + t
    nothing_first t a b c d h i j = omega arith
exact_both t a b c d (inr h) (inr i) = inr (no_max a c h.0 i.0, no_max b d h.1 i.1)
  where
    no_max : (a c : ℕ) → a ≡ 0 → c ≡ 0 → max a c ≡ 0
    no_max a c h i = omega arith

sum_exact : (t a b n k : ℕ) → n ≡ k → a ≡ b + t → a + n ≡ b + k + t
sum_exact t a b n k h i = omega arith

pub exactly_closed : (t : ℕ) → Closed (Exactly t) (ExactlyOrNothing t) Same
exactly_closed t = record {
  joined = record { weak = λ a b h. inl h; nothing = inr (refl, refl); both = exact_both t };
  behind = exact_behind t;
  later = sum_exact t;
  same = λ n. refl;
}
