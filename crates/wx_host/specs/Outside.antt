-- What the program may know of the world outside: a store of named files and a sink of bytes. This project's own.
use Rattle.std.specs.Prelude.{◌≡◌, ◌≢◌, ℕ, ◌^◌, ◌-◌, ◌+◌, ◌<◌, ◌≤◌, ◌⊎◌, ⊤, min, List, [], ◌∷◌, ◌++◌, length, take, Option, Some, None, option_map, Result, Ok, Err, IfSome, IsSomeAnd}
use Rattle.wx_host.specs.declared.store.StoreFault.{StoreFault}
use Rattle.wx_host.specs.declared.store.StoreFault.TheVariants as store_fault
use Rattle.wx_host.specs.declared.sink.SinkFault.{SinkFault}
use Rattle.wx_host.specs.declared.sink.SinkFault.TheVariants as sink_fault

-- what a store that tells its contents has under each name
abbrev pub Contents : Type 0
Contents = List ℕ → Option (List ℕ)

-- the last value of a counter of 64 bits; it stays there
abbrev pub last_count : ℕ
last_count = 2 ^ 64 - 1

-- one more call, up to the last value of the counter
abbrev pub counted : ℕ → ℕ
counted n = min (n + 1) last_count

-- one more name behind those so far, where the store tells them
abbrev pub with_name : Option (List (List ℕ)) → List ℕ → Option (List (List ℕ))
with_name names name = option_map (λ so_far. so_far ++ name ∷ []) names

-- What a store tells of its names after a call with this one: it stands behind the others. After want of memory it may be left out.
abbrev pub NamesGive : Option (List (List ℕ)) → Option (List (List ℕ)) → List ℕ → Result (Unit {0}) StoreFault → Type 0
NamesGive old new name (Err store_fault.NoMemory) = (new ≡ with_name old name) ⊎ (new ≡ old)
NamesGive old new name _ = new ≡ with_name old name

-- a fault was counted between the two values, or the counter can count no more
abbrev pub Rose : ℕ → ℕ → Type 0
Rose before after = (before < after) ⊎ (after ≡ last_count)

-- the greatest length of a file, in bytes
abbrev pub longest_file : ℕ
longest_file = 16777216

-- these bytes are the whole content of the name, where the store tells it
abbrev pub IsWhole : Option Contents → List ℕ → List ℕ → Type 0
IsWhole holds name bytes = IfSome holds (λ contents. contents name ≡ Some bytes)

-- these bytes are nothing, or begin the content of the name, where the store tells it
abbrev pub IsBegun : Option Contents → List ℕ → List ℕ → Type 0
IsBegun holds name bytes =
    IfSome holds (λ contents. (bytes ≡ []) ⊎ ((rest : List ℕ) × (contents name ≡ Some (bytes ++ rest))))

-- these bytes begin a content that is longer than a file may be
abbrev pub IsCut : Option Contents → List ℕ → List ℕ → Type 0
IsCut holds name bytes =
    (length bytes ≡ longest_file)
    × IfSome holds (λ contents. (rest : List ℕ) × (0 < length rest) × (contents name ≡ Some (bytes ++ rest)))

-- the store tells its contents, and nothing has this name
abbrev pub IsMissing : Option Contents → List ℕ → Type 0
IsMissing holds name = IsSomeAnd holds (λ contents. contents name ≡ None)

-- What a read of a name may answer: from the contents, the count of read faults before and after, and the
-- bytes that were handed over.
abbrev pub ReadGives : Option Contents → List ℕ → ℕ → ℕ → List ℕ → Result (Unit {0}) StoreFault → Type 0
ReadGives holds name before after bytes (Ok _) =
    (length bytes ≤ longest_file) × IsWhole holds name bytes
ReadGives holds name before after bytes (Err store_fault.Failed) = Rose before after × IsBegun holds name bytes
ReadGives holds name before after bytes (Err store_fault.Missing) =
    (bytes ≡ []) × IsMissing holds name
ReadGives holds name before after bytes (Err store_fault.Long) = IsCut holds name bytes
ReadGives holds name before after bytes (Err store_fault.NoMemory) = IsBegun holds name bytes

-- no name but this one changed, and a store that tells its contents goes on telling them
abbrev pub ChangesOnly : Option Contents → Option Contents → List ℕ → Type 0
ChangesOnly None None name = ⊤
ChangesOnly (Some old) (Some new) name = (other : List ℕ) → other ≢ name → new other ≡ old other
ChangesOnly _ _ name = ⊥

-- What a write of bytes under a name may answer: from the contents and the count of write faults before and after.
abbrev pub WriteGives : Option Contents → Option Contents → List ℕ → List ℕ → ℕ → ℕ → Result (Unit {0}) StoreFault → Type 0
WriteGives old new name bytes before after (Ok _) = IsWhole new name bytes
WriteGives old new name bytes before after (Err store_fault.Failed) = Rose before after
WriteGives old new name bytes before after (Err store_fault.NoMemory) = new ≡ old
WriteGives old new name bytes before after (Err _) = ⊥

-- What a sink may answer to a piece: how many of its first bytes it took, at least one if there are any; else none.
-- Where it tells what it took, those bytes stand behind what it had.
abbrev pub PutGives : Option (List ℕ) → Option (List ℕ) → List ℕ → ℕ → ℕ → Result ℕ SinkFault → Type 0
PutGives old new piece before after (Ok n) =
    (after ≡ before) × (n ≤ length piece) × (0 < length piece → 0 < n)
    × (new ≡ option_map (λ bytes. bytes ++ take n piece) old)
PutGives old new piece before after (Err sink_fault.Failed) = Rose before after × (new ≡ old)
PutGives old new piece before after (Err sink_fault.NoMemory) = (after ≡ before) × (new ≡ old)
