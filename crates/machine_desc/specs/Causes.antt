-- Why bytes describe no machine: the cause of each refusal, and which of them comes. This project's own.
use Rattle.std.specs.Prelude.{◌≡◌, ◌≢◌, ℕ, ◌<◌, ◌⊎◌, Bool, true, false, Option, Some, None, List, [], length, slice_get, slice_index_or, position}
use Rattle.std.specs.Cmp.Lexicographic.{slice_cmp}
use Rattle.std.specs.Ordering.{nat_cmp}
use Rattle.std.specs.declared.cmp.Ordering.TheVariants.{Greater}
use Rattle.std.specs.Str.{IsUtf8}
use Rattle.toml.specs.Data.{Data, table, Members}
use Rattle.toml.specs.Parse.{parse_document}
use Rattle.wx_base.specs.declared.machine.Machine.{Machine}
use Rattle.wx_base.specs.declared.machine.Region.{Region}
use Rattle.machine_desc.specs.declared.error.MachineError.{MachineError}
use Rattle.machine_desc.specs.declared.error.MachineError.TheVariants as refusal
use Rattle.machine_desc.specs.declared.fault.Fault.{Fault}
use Rattle.machine_desc.specs.declared.fault.Fault.TheVariants.{Missing, Kind, Range}
use Rattle.machine_desc.specs.declared.fault.Faulty.{Faulty}
use Rattle.machine_desc.specs.Document.{elements, faults, unknown}
use Rattle.machine_desc.specs.Meeting.{IsLeastMeeting, NoneMeet}
use Rattle.machine_desc.specs.Values.{machine_of, regions_of}

-- the bytes are a TOML document with these members, as the untyped reading of `toml` defines it
pub record Reads (bytes : List ℕ) (members : Members) : Type 0 where
  pub utf8 : IsUtf8 bytes
  pub parsed : parse_document bytes ≡ Some members

-- the data are those of the document that the bytes are
pub record IsDocumentOf (bytes : List ℕ) (doc : Data) : Type 0 where
  pub members : Members
  pub reads : Reads bytes members
  pub same : doc ≡ table members

-- the bytes are no document
pub record IsNoDocument (bytes : List ℕ) : Type 0 where
  pub none : (members : Members) → Reads bytes members → ⊥

-- the key is the least of some, by its bytes
pub record IsLeast (keys : List (List ℕ)) (key : List ℕ) : Type 0 where
  pub place : ℕ
  pub within : place < length keys
  pub there : slice_index_or keys place [] ≡ key
  pub least : (k : ℕ) → k < length keys → slice_cmp nat_cmp key (slice_index_or keys k []) ≢ Greater

-- the three sorts of faults: the key is missing
abbrev pub is_missing : Fault → Bool
is_missing Missing = true
is_missing Kind = false
is_missing (Range value) = false

-- it holds a value of another kind
abbrev pub is_kind : Fault → Bool
is_kind Missing = false
is_kind Kind = true
is_kind (Range value) = false

-- its number lies outside its range
abbrev pub is_range : Fault → Bool
is_range Missing = false
is_range Kind = false
is_range (Range value) = true

-- the place of the first key with a fault of a sort
abbrev pub first_of : (Fault → Bool) → List Faulty → Option ℕ
first_of sort found = position (λ f. sort f.fault) found

-- this key is the first with a fault of a sort, and has this fault
pub record IsFirst (sort : Fault → Bool) (found : List Faulty) (key : List ℕ) (fault : Fault) : Type 0 where
  pub place : ℕ
  pub first : first_of sort found ≡ Some place
  pub there : slice_get found place ≡ Some (record { key = key; fault = fault })

-- the refusal that tells a fault
abbrev pub refusal_in : List ℕ → Fault → MachineError
refusal_in key Missing = refusal.Missing key
refusal_in key Kind = refusal.Kind key
refusal_in key (Range value) = refusal.Range key value

-- the refusal that tells a key with its fault
abbrev pub refusal_of : Faulty → MachineError
refusal_of faulty = refusal_in faulty.key faulty.fault

-- the place of the first fault of the first sort that there is: missing, then of another kind, then outside its range
abbrev pub IsWorstAt : List Faulty → ℕ → Type 0
IsWorstAt found place =
    (first_of is_missing found ≡ Some place)
    ⊎ ((first_of is_missing found ≡ None) × (first_of is_kind found ≡ Some place))
    ⊎ ((first_of is_missing found ≡ None) × (first_of is_kind found ≡ None) × (first_of is_range found ≡ Some place))

-- the refusal tells the fault at that place
abbrev pub IsWorst : List Faulty → MachineError → Type 0
IsWorst found (refusal.Missing key) = IsFirst is_missing found key Missing
IsWorst found (refusal.Kind key) = (first_of is_missing found ≡ None) × IsFirst is_kind found key Kind
IsWorst found (refusal.Range key value) = (first_of is_missing found ≡ None) × (first_of is_kind found ≡ None) × IsFirst is_range found key (Range value)
IsWorst found _ = ⊥

-- the refusal tells the least pair of regions that meet
abbrev pub IsRegionsCause : List Region → MachineError → Type 0
IsRegionsCause regions (refusal.Regions a b) = IsLeastMeeting regions a b
IsRegionsCause regions _ = ⊥

-- the refusal tells the least of some keys
abbrev pub IsUnknownCause : List (List ℕ) → MachineError → Type 0
IsUnknownCause keys (refusal.Unknown key) = IsLeast keys key
IsUnknownCause keys _ = ⊥

-- the cause of each refusal in a document
abbrev pub CauseIn : Data → MachineError → Type 0
CauseIn doc refusal.NoMemory = ⊥
CauseIn doc refusal.Toml = ⊥
CauseIn doc (refusal.Unknown key) = IsLeast (unknown doc) key
CauseIn doc (refusal.Missing key) = IsFirst is_missing (faults doc) key Missing
CauseIn doc (refusal.Kind key) = IsFirst is_kind (faults doc) key Kind
CauseIn doc (refusal.Range key value) = IsFirst is_range (faults doc) key (Range value)
CauseIn doc (refusal.Regions a b) = IsLeastMeeting (regions_of (elements doc)) a b

-- in which order the causes are looked for
abbrev pub rank : MachineError → ℕ
rank refusal.NoMemory = 0
rank refusal.Toml = 1
rank (refusal.Unknown key) = 2
rank (refusal.Missing key) = 3
rank (refusal.Kind key) = 4
rank (refusal.Range key value) = 5
rank (refusal.Regions a b) = 6

-- the cause of a refusal stands in a document, and no earlier one
pub record IsFirstIn (doc : Data) (e : MachineError) : Type 0 where
  pub stands : CauseIn doc e
  pub first : (f : MachineError) → rank f < rank e → CauseIn doc f → ⊥

-- the bytes are a document that has the cause of a refusal
pub record HasCause (bytes : List ℕ) (e : MachineError) : Type 0 where
  pub members : Members
  pub reads : Reads bytes members
  pub cause : CauseIn (table members) e

-- the cause of each refusal of bytes
abbrev pub Cause : List ℕ → MachineError → Type 0
Cause bytes refusal.NoMemory = ⊥
Cause bytes refusal.Toml = IsNoDocument bytes
Cause bytes (refusal.Unknown key) = HasCause bytes (refusal.Unknown key)
Cause bytes (refusal.Missing key) = HasCause bytes (refusal.Missing key)
Cause bytes (refusal.Kind key) = HasCause bytes (refusal.Kind key)
Cause bytes (refusal.Range key value) = HasCause bytes (refusal.Range key value)
Cause bytes (refusal.Regions a b) = HasCause bytes (refusal.Regions a b)

-- the cause of a refusal stands, and no earlier one
pub record IsFirstCause (bytes : List ℕ) (e : MachineError) : Type 0 where
  pub stands : Cause bytes e
  pub first : (f : MachineError) → rank f < rank e → Cause bytes f → ⊥

-- the refusal of these bytes: want of memory, which is free to come, or that of the first cause that stands
abbrev pub IsRefusal : List ℕ → MachineError → Type 0
IsRefusal bytes e = (e ≡ refusal.NoMemory) ⊎ IsFirstCause bytes e

-- the data tell a machine: all keys are known, there and as wanted, and the regions are apart
pub record IsDescribed (doc : Data) (machine : Machine) : Type 0 where
  pub known : unknown doc ≡ []
  pub faultless : faults doc ≡ []
  pub apart : NoneMeet (regions_of (elements doc))
  pub told : machine ≡ machine_of doc

-- the bytes describe this machine
pub record IsDescription (bytes : List ℕ) (machine : Machine) : Type 0 where
  pub members : Members
  pub reads : Reads bytes members
  pub described : IsDescribed (table members) machine
