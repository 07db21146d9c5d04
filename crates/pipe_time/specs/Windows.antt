-- What a vector holds of the past is all that later times depend on. This project's own.
use Rattle.std.specs.Prelude.{◌≡◌, ℕ, ◌≤◌, List, [], ◌∷◌, ◌++◌, map, reverse}
use Rattle.wx_base.specs.declared.machine.Machine.{Machine}
use Rattle.wx_base.specs.declared.times.Times.{Times}
use Rattle.wx_base.specs.Machine.{IsMachine}
use Rattle.wx_base.specs.Recurrence.{Entry, Done, next, window, past_of, completion}
use Rattle.wx_base.specs.Vector.{zero_slots}

-- the window on a past gives the next instruction the times that the past gives it
abbrev pub WindowGivesTimes : Type 0
WindowGivesTimes =
    (m : Machine) (start : List ℕ) (past : List Done) (e : Entry) → IsMachine m →
    next m (window m start past) [] e ≡ next m start past e

-- one more instruction makes of the window on a past the window on the longer past
abbrev pub WindowGivesWindow : Type 0
WindowGivesWindow =
    (m : Machine) (start : List ℕ) (past : List Done) (i : Done) → IsMachine m →
    window m (window m start past) (i ∷ []) ≡ window m start (i ∷ past)

-- to begin from the zero vector is to begin from the empty pipeline
abbrev pub ZeroIsNothing : Type 0
ZeroIsNothing =
    (m : Machine) (past : List Done) (e : Entry) → next m zero_slots past e ≡ next m [] past e

-- the window on nothing is the zero vector
abbrev pub NothingIsZero : Type 0
NothingIsZero = (m : Machine) → window m [] [] ≡ zero_slots

-- so is the window on the zero vector
abbrev pub ZeroStays : Type 0
ZeroStays = (m : Machine) → window m zero_slots [] ≡ zero_slots

-- the times that stepping from vector to vector gives the instructions of a list, the first one first
abbrev pub stepped : Machine → List ℕ → List Entry → List Times
stepped m slots [] = []
stepped m slots (e ∷ es) =
    let times = next m slots [] e in
    times ∷ stepped m (window m slots (record { entry = e; times = times } ∷ [])) es

-- the times of a past, the first instruction first
abbrev pub times_in_order : List Done → List Times
times_in_order past = reverse (map (λ i. i.times) past)

-- stepping from the zero vector gives the times of the recurrence from the empty pipeline
abbrev pub SteppingIsTheRecurrence : Type 0
SteppingIsTheRecurrence =
    (m : Machine) (es : List Entry) → IsMachine m →
    stepped m zero_slots es ≡ times_in_order (past_of m [] (reverse es))

-- one more instruction is complete no earlier than those before it
abbrev pub CompletionNeverFalls : Type 0
CompletionNeverFalls =
    (m : Machine) (start : List ℕ) (past : List Done) (e : Entry) →
    completion start past ≤ completion start (record { entry = e; times = next m start past e } ∷ past)

-- Going on through a list, the last instruction first, from the window on what was executed before gives each instruction the
-- times that going on behind those gives it.
abbrev pub WindowsGoOn : Type 0
WindowsGoOn =
    (m : Machine) (start : List ℕ) (more es : List Entry) → IsMachine m →
    past_of m start (more ++ es) ≡ past_of m (window m start (past_of m start es)) more ++ past_of m start es

-- it leaves the same window behind
abbrev pub WindowsLeadOn : Type 0
WindowsLeadOn =
    (m : Machine) (start : List ℕ) (more es : List Entry) → IsMachine m →
    let between = window m start (past_of m start es) in
    window m between (past_of m between more) ≡ window m start (past_of m start (more ++ es))

-- and the last instruction is complete at the same time
abbrev pub CompletionGoesOn : Type 0
CompletionGoesOn =
    (m : Machine) (start : List ℕ) (more es : List Entry) → IsMachine m →
    let between = window m start (past_of m start es) in
    completion between (past_of m between more) ≡ completion start (past_of m start (more ++ es))
