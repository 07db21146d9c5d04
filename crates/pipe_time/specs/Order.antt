-- How times compare where starts and instructions compare. This project's own.
use Rattle.std.specs.Prelude.{◌≡◌, ℕ, ◌+◌, ◌≤◌, ⊤, true, List, [], ◌∷◌, map}
use Rattle.wx_base.specs.declared.machine.Machine.{Machine}
use Rattle.wx_base.specs.declared.times.Times.{Times}
use Rattle.wx_base.specs.Machine.{IsMachine}
use Rattle.wx_base.specs.Recurrence.{Entry, slot, window, past_of, completion}
use Rattle.wx_base.specs.Vector.{Covers, IsLaterBy, IsWorse}

-- the lists are equally long, and the relation holds of each two elements at one place
abbrev pub Pairwise : {A : Type 0} → (A → A → Type 0) → List A → List A → Type 0
Pairwise relation [] [] = ⊤
Pairwise relation (x ∷ xs) (y ∷ ys) = relation x y × Pairwise relation xs ys
Pairwise relation [] (y ∷ ys) = ⊥
Pairwise relation (x ∷ xs) [] = ⊥

-- each of the six times of the second is at most t later than that of the first
pub record AreAtMostLater (t : ℕ) (earlier later : Times) : Type 0 where
  pub f : later.f ≤ earlier.f + t
  pub fe : later.fe ≤ earlier.fe + t
  pub d : later.d ≤ earlier.d + t
  pub x : later.x ≤ earlier.x + t
  pub xe : later.xe ≤ earlier.xe + t
  pub c : later.c ≤ earlier.c + t

-- each of the six times of the first is at least that of the second
pub record AreNoEarlier (later earlier : Times) : Type 0 where
  pub f : earlier.f ≤ later.f
  pub fe : earlier.fe ≤ later.fe
  pub d : earlier.d ≤ later.d
  pub x : earlier.x ≤ later.x
  pub xe : earlier.xe ≤ later.xe
  pub c : earlier.c ≤ later.c

-- each of the six times of the first is that of the second plus t
pub record AreLaterBy (t : ℕ) (later earlier : Times) : Type 0 where
  pub f : later.f ≡ earlier.f + t
  pub fe : later.fe ≡ earlier.fe + t
  pub d : later.d ≡ earlier.d + t
  pub x : later.x ≡ earlier.x + t
  pub xe : later.xe ≡ earlier.xe + t
  pub c : later.c ≡ earlier.c + t

-- each slot of the second is at most t later than that of the first
pub record SlotsAtMostLater (t : ℕ) (earlier later : List ℕ) : Type 0 where
  pub each : (k : ℕ) → slot later k ≤ slot earlier k + t

-- Greater slots, and misses and slow instructions where the other list has them, make no time earlier.
abbrev pub WorseIsNoFaster : Type 0
WorseIsNoFaster =
    (m : Machine) (v u : List ℕ) (worse better : List Entry) → IsMachine m → Covers v u → Pairwise IsWorse worse better →
    Pairwise (λ i j. AreNoEarlier i.times j.times) (past_of m v worse) (past_of m u better)

-- so the last instruction is complete no earlier
abbrev pub WorseCompletesNoEarlier : Type 0
WorseCompletesNoEarlier =
    (m : Machine) (v u : List ℕ) (worse better : List Entry) → IsMachine m → Covers v u → Pairwise IsWorse worse better →
    completion u (past_of m u better) ≤ completion v (past_of m v worse)

-- and the vector behind the one covers the vector behind the other
abbrev pub WorseStaysCovering : Type 0
WorseStaysCovering =
    (m : Machine) (v u : List ℕ) (worse better : List Entry) → IsMachine m → Covers v u → Pairwise IsWorse worse better →
    Covers (window m v (past_of m v worse)) (window m u (past_of m u better))

-- A start at most t later, with instructions that are no worse, makes every time at most t later.
abbrev pub DelayIsPassedOn : Type 0
DelayIsPassedOn =
    (m : Machine) (t : ℕ) (u v : List ℕ) (worse better : List Entry) → IsMachine m → SlotsAtMostLater t u v → Pairwise IsWorse worse better →
    Pairwise (λ i j. AreAtMostLater t i.times j.times) (past_of m u worse) (past_of m v better)

-- so the last instruction is complete at most t later
abbrev pub DelayOfCompletion : Type 0
DelayOfCompletion =
    (m : Machine) (t : ℕ) (u v : List ℕ) (worse better : List Entry) → IsMachine m → SlotsAtMostLater t u v → Pairwise IsWorse worse better →
    completion v (past_of m v better) ≤ completion u (past_of m u worse) + t

-- and the slots behind it are at most t later
abbrev pub DelayOfSlots : Type 0
DelayOfSlots =
    (m : Machine) (t : ℕ) (u v : List ℕ) (worse better : List Entry) → IsMachine m → SlotsAtMostLater t u v → Pairwise IsWorse worse better →
    SlotsAtMostLater t (window m u (past_of m u worse)) (window m v (past_of m v better))

-- the entries as they are, but each fetch misses
abbrev pub all_missing : List Entry → List Entry
all_missing entries = map (λ (e : Entry). record e { miss = true }) entries

-- a run whose fetches all miss is the longest
abbrev pub MissingIsTheLongest : Type 0
MissingIsTheLongest =
    (m : Machine) (entries : List Entry) → IsMachine m →
    completion [] (past_of m [] entries) ≤ completion [] (past_of m [] (all_missing entries))

-- A start later by t makes each of the six times later by t.
abbrev pub ShiftMovesTimes : Type 0
ShiftMovesTimes =
    (m : Machine) (t : ℕ) (later slots : List ℕ) (entries : List Entry) → IsMachine m → IsLaterBy m t later slots →
    Pairwise (λ i j. AreLaterBy t i.times j.times) (past_of m later entries) (past_of m slots entries)

-- So the last instruction, where there is one, is complete later by t.
abbrev pub ShiftMovesCompletion : Type 0
ShiftMovesCompletion =
    (m : Machine) (t : ℕ) (later slots : List ℕ) (e : Entry) (entries : List Entry) → IsMachine m → IsLaterBy m t later slots →
    completion later (past_of m later (e ∷ entries)) ≡ completion slots (past_of m slots (e ∷ entries)) + t
