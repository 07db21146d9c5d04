-- Some answer is due, whatever the bytes.
use Rattle.std.proofs.Common.{◌≡◌, ◌≢◌, ℕ, zero, suc, ◌+◌, ◌<◌, ◌⊎◌, inl, inr, Bool, List, [], ◌∷◌, length, get_or, Ordering, Less, Equal, Greater, Option, Some, None, refl, sym, subst, ◌∙◌, arith}
use Rattle.std.specs.Str.{IsUtf8, is_utf8}
use Rattle.std.proofs.lemmas.Bool.{cases_Bool, cases_lt, false≢true}
use Rattle.std.proofs.lemmas.List.Quantifiers.{position-Some}
use Rattle.std.proofs.lemmas.Str.{IsUtf8-from_is_utf8, is_utf8-from_IsUtf8}
use Rattle.toml.specs.Data.{Data, table, Members}
use Rattle.toml.specs.Parse.{parse_document}
use Rattle.wx_base.specs.declared.machine.Machine.{Machine}
use Rattle.wx_base.specs.declared.machine.Region.{Region}
use Rattle.machine_desc.specs.declared.error.MachineError.{MachineError}
use Rattle.machine_desc.specs.declared.error.MachineError.TheVariants.{NoMemory, Toml, Unknown, Missing, Kind, Range, Regions}
use Rattle.machine_desc.specs.declared.fault.Fault.{Fault}
use Rattle.machine_desc.specs.declared.fault.Fault.TheVariants as fault
use Rattle.machine_desc.specs.declared.fault.Faulty.{Faulty}
use Rattle.machine_desc.specs.Causes.{Cause, CauseIn, HasCause, IsDescribed, IsDescription, IsFirst, IsFirstCause, IsFirstIn, IsLeast, IsNoDocument, IsWorst, IsWorstAt, Reads, first_of, is_kind, is_missing, is_range, rank, refusal_of}
use Rattle.machine_desc.specs.Document.{elements, faults, unknown}
use Rattle.machine_desc.specs.Meeting.{IsLeastMeeting, Meet, NoneMeet, region_in}
use Rattle.machine_desc.specs.Values.{machine_of, regions_of}
use Rattle.machine_desc.proofs.Least.{against, any_default, alone, replaced, stays}
use Rattle.machine_desc.proofs.Unique.{in_document, low_rank, no_first, no_least, one_document}
use Rattle.machine_desc.proofs.Worst.{no_fault, told}

-- the first number below n at which P holds, if there is one
pub first_below : (P : ℕ → Type 0) → ((k : ℕ) → P k ⊎ (P k → ⊥)) → (n : ℕ) → ((k : ℕ) × (k < n) × P k × ((j : ℕ) → j < k → P j → ⊥)) ⊎ ((k : ℕ) → k < n → P k → ⊥)
first_below P test zero = inr (λ k h p. omega arith)
first_below P test (suc n) = elim (first_below P test n) [
  | inl found ↦ inl (found.0, omega (arith, found.1), found.2, found.3)
  | inr none ↦ elim (test n) [
    | inl here ↦ inl (n, omega arith, here, none)
    | inr not_here ↦ inr (λ k h p. elim (cases_lt k n) [
      | inl less ↦ none k less p
      | inr more ↦ let same : k ≡ n = omega arith in not_here (subst P same p)
    ])
  ]
]

meets : (a b : Region) → Meet a b ⊎ (Meet a b → ⊥)
meets a b = elim (cases_lt b.last a.first) [
  | inl h ↦ inr (λ m. omega (arith, m.first_begins))
  | inr first ↦ elim (cases_lt a.last b.first) [
    | inl h ↦ inr (λ m. omega (arith, m.second_begins))
    | inr second ↦ inl (record { first_begins = first; second_begins = second })
  ]
]

-- a later region that meets region a
abbrev Later : List Region → ℕ → ℕ → Type 0
Later rs a b = (a < b) × Meet (region_in rs a) (region_in rs b)

later : (rs : List Region) (a b : ℕ) → Later rs a b ⊎ (Later rs a b → ⊥)
later rs a b = elim (cases_lt a b) [
  | inl less ↦ elim (meets (region_in rs a) (region_in rs b)) [
    | inl m ↦ inl (less, m)
    | inr none ↦ inr (λ x. none x.1)
  ]
  | inr more ↦ inr (λ x. omega (arith, x.0))
]

-- a region that meets a later one
abbrev MeetsLater : List Region → ℕ → Type 0
MeetsLater rs a = (b : ℕ) × (b < length rs) × Later rs a b × ((j : ℕ) → j < b → Later rs a j → ⊥)

meets_later : (rs : List Region) (a : ℕ) → MeetsLater rs a ⊎ (MeetsLater rs a → ⊥)
meets_later rs a = elim (first_below (Later rs a) (later rs a) (length rs)) [
  | inl found ↦ inl found
  | inr none ↦ inr (λ x. none x.0 x.1 x.2)
]

first_later : (rs : List Region) (a b : ℕ) → b < length rs → Later rs a b → MeetsLater rs a
first_later rs a b within h = elim (first_below (Later rs a) (later rs a) (length rs)) [
  | inl found ↦ found
  | inr none ↦ absurd (none b within h)
]

least_pair : (rs : List Region) → NoneMeet rs ⊎ ((a : ℕ) × (b : ℕ) × IsLeastMeeting rs a b)
least_pair rs = elim (first_below (MeetsLater rs) (meets_later rs) (length rs)) [
  | inl found ↦
      let a = found.0 in
      let later_one = found.2 in inr (
        a,
        later_one.0,
        record {
          ordered = later_one.2.0;
          among = later_one.1;
          meet = later_one.2.1;
          lower_first = λ c d h1 h2 h3 m. found.3 c h1 (first_later rs c d h3 (h2, m));
          lower_second = λ d h1 h2 m. later_one.3 d h2 (h1, m);
        },
      )
  | inr none ↦ inl (record { apart = λ a b h1 h2 m. none a (omega arith) (first_later rs a b h2 (h1, m)) })
]

before_or : (o : Ordering) → (o ≡ Less) ⊎ (o ≢ Less)
before_or Less = inl refl
before_or Equal = inr (λ e. cc)
before_or Greater = inr (λ e. cc)

-- the least of the first of some texts, up to the place n
least_below : (keys : List (List ℕ)) (n : ℕ) → (p : ℕ) × (p < suc n) × ((k : ℕ) → k < n + 1 → against (get_or keys p []) (get_or keys k []) ≢ Greater)
least_below keys zero = (0, omega arith, λ k h. alone keys k (omega arith))
least_below keys (suc n) =
    let so_far = least_below keys n in
    elim (before_or (against (get_or keys (suc n) []) (get_or keys so_far.0 []))) [
      | inl less ↦ (suc n, omega arith, λ k h. replaced keys so_far.0 (suc n) less (λ j g. so_far.2 j (omega arith)) k h)
      | inr no_less ↦ (so_far.0, omega (arith, so_far.1), λ k h. stays keys so_far.0 (suc n) no_less (λ j g. so_far.2 j (omega arith)) k h)
    ]

some_least : (keys : List (List ℕ)) → (keys ≡ []) ⊎ ((key : List ℕ) × IsLeast keys key)
some_least [] = inl refl
some_least (x ∷ keys) =
    let found = least_below (x ∷ keys) (length keys) in
    let key = get_or (x ∷ keys) found.0 [] in
    let within : found.0 < length (x ∷ keys) = omega (arith, found.1) in
    inr (key, record { place = found.0; within = within; there = refl; least = λ k h. found.2 k (omega arith) })

within_first : (sort : Fault → Bool) (found : List Faulty) (k : ℕ) → first_of sort found ≡ Some k → k < length found
within_first sort [] k e = absurd cc
within_first sort (f ∷ fs) k e = (position-Some (λ (x : Faulty). sort x.fault) (f ∷ fs) k f e).0

at_place : (found : List Faulty) (k : ℕ) → k < length found → Faulty
at_place [] k h = absurd (omega arith)
at_place (f ∷ fs) k h = get_or (f ∷ fs) k f

there_place : (found : List Faulty) (k : ℕ) (h : k < length found) → at_place found k h ≡ get_or found k (at_place found k h)
unfolding at_place
there_place [] k h = absurd (omega arith)
there_place (f ∷ fs) k h = any_default (f ∷ fs) k f (get_or (f ∷ fs) k f) h

worst_place : (found : List Faulty) (a b c : Option ℕ) → first_of is_missing found ≡ a → first_of is_kind found ≡ b → first_of is_range found ≡ c → (found ≡ []) ⊎ ((place : ℕ) × (place < length found) × IsWorstAt found place)
worst_place found (Some k) b c ea eb ec = inr (k, within_first is_missing found k ea, inl ea)
worst_place found None (Some k) c ea eb ec = inr (k, within_first is_kind found k eb, inr (inl (ea, eb)))
worst_place found None None (Some k) ea eb ec = inr (k, within_first is_range found k ec, inr (inr (ea, eb, ec)))
worst_place found None None None ea eb ec = inl (no_fault found ea eb ec)

-- the fault that is told, if there is one
some_worst : (found : List Faulty) → (found ≡ []) ⊎ ((e : MachineError) × IsWorst found e)
some_worst found = elim (worst_place found (first_of is_missing found) (first_of is_kind found) (first_of is_range found) refl refl refl) [
  | inl none ↦ inl none
  | inr place ↦ inr (refusal_of (at_place found place.0 place.1), told found (at_place found place.0 place.1) place.0 place.2 (there_place found place.0 place.1))
]

-- a cause in a document is that of a refusal above the first two
high_rank : (doc : Data) (e : MachineError) → CauseIn doc e → 1 < rank e
high_rank doc NoMemory c = absurd c
high_rank doc Toml c = absurd c
high_rank doc (Unknown k) c = omega arith
high_rank doc (Missing k) c = omega arith
high_rank doc (Kind k) c = omega arith
high_rank doc (Range k v) c = omega arith
high_rank doc (Regions a b) c = omega arith

of_bytes : (b : List ℕ) (e : MachineError) → 1 < rank e → HasCause b e → Cause b e
of_bytes b NoMemory r c = absurd (omega arith)
of_bytes b Toml r c = absurd (omega arith)
of_bytes b (Unknown k) r c = c
of_bytes b (Missing k) r c = c
of_bytes b (Kind k) r c = c
of_bytes b (Range k v) r c = c
of_bytes b (Regions x y) r c = c

-- no cause of bytes that are a document stands where none stands in the document
not_of_bytes : (b : List ℕ) (m : Members) (f : MachineError) → Reads b m → (CauseIn (table m) f → ⊥) → Cause b f → ⊥
not_of_bytes b m f reads none c = elim (cases_lt 1 (rank f)) [
  | inl high ↦
      let x = in_document b f high c in
      let same : x.members ≡ m = one_document b x.members m x.reads reads in none (subst (λ (n : Members). CauseIn (table n) f) same x.cause)
  | inr low ↦ let t : Cause b Toml = subst (Cause b) (low_rank b f low c) c in t.none m reads
]

-- a first cause in a document is one of the bytes
lifted : (b : List ℕ) (m : Members) (e : MachineError) → Reads b m → IsFirstIn (table m) e → IsFirstCause b e
lifted b m e reads h = record {
  stands = of_bytes b e (high_rank (table m) e h.stands) (record { members = m; reads = reads; cause = h.stands });
  first = λ f r c. not_of_bytes b m f reads (h.first f r) c;
}

no_first_of : (sort : Fault → Bool) (found : List Faulty) (key : List ℕ) (f : Fault) → first_of sort found ≡ None → IsFirst sort found key f → ⊥
no_first_of sort found key f none x = let e = sym none ∙ x.first in cc

unknown_fails : (doc : Data) (key : List ℕ) → unknown doc ≡ [] → IsLeast (unknown doc) key → ⊥
unknown_fails doc key known c = no_least key (subst (λ (keys : List (List ℕ)). IsLeast keys key) known c)

-- no cause before that of a missing key stands where all keys are known
before_missing : (doc : Data) (f : MachineError) → unknown doc ≡ [] → rank f < 3 → CauseIn doc f → ⊥
before_missing doc NoMemory known r c = c
before_missing doc Toml known r c = c
before_missing doc (Unknown k) known r c = unknown_fails doc k known c
before_missing doc f known r c = omega arith

before_kind : (doc : Data) (f : MachineError) → unknown doc ≡ [] → first_of is_missing (faults doc) ≡ None → rank f < 4 → CauseIn doc f → ⊥
before_kind doc NoMemory known missing r c = c
before_kind doc Toml known missing r c = c
before_kind doc (Unknown k) known missing r c = unknown_fails doc k known c
before_kind doc (Missing k) known missing r c = no_first_of is_missing (faults doc) k fault.Missing missing c
before_kind doc f known missing r c = omega arith

before_range : (doc : Data) (f : MachineError) → unknown doc ≡ [] → first_of is_missing (faults doc) ≡ None → first_of is_kind (faults doc) ≡ None → rank f < 5 → CauseIn doc f → ⊥
before_range doc NoMemory known missing kind r c = c
before_range doc Toml known missing kind r c = c
before_range doc (Unknown k) known missing kind r c = unknown_fails doc k known c
before_range doc (Missing k) known missing kind r c = no_first_of is_missing (faults doc) k fault.Missing missing c
before_range doc (Kind k) known missing kind r c = no_first_of is_kind (faults doc) k fault.Kind kind c
before_range doc f known missing kind r c = omega arith

no_fault_of : (sort : Fault → Bool) (found : List Faulty) (key : List ℕ) (f : Fault) → found ≡ [] → IsFirst sort found key f → ⊥
no_fault_of sort found key f none x = no_first sort key f (subst (λ (fs : List Faulty). IsFirst sort fs key f) none x)

before_regions : (doc : Data) (f : MachineError) → unknown doc ≡ [] → faults doc ≡ [] → rank f < 6 → CauseIn doc f → ⊥
before_regions doc NoMemory known none r c = c
before_regions doc Toml known none r c = c
before_regions doc (Unknown k) known none r c = unknown_fails doc k known c
before_regions doc (Missing k) known none r c = no_fault_of is_missing (faults doc) k fault.Missing none c
before_regions doc (Kind k) known none r c = no_fault_of is_kind (faults doc) k fault.Kind none c
before_regions doc (Range k v) known none r c = no_fault_of is_range (faults doc) k (fault.Range v) none c
before_regions doc (Regions a b) known none r c = omega arith

-- the fault that is told is the first cause where all keys are known
worst_is_first : (doc : Data) (e : MachineError) → unknown doc ≡ [] → IsWorst (faults doc) e → IsFirstIn doc e
worst_is_first doc (Missing k) known w = record { stands = w; first = λ f r c. before_missing doc f known r c }
worst_is_first doc (Kind k) known w = record { stands = w.1; first = λ f r c. before_kind doc f known w.0 r c }
worst_is_first doc (Range k v) known w = record { stands = w.2; first = λ f r c. before_range doc f known w.0 w.1 r c }
worst_is_first doc NoMemory known w = absurd w
worst_is_first doc Toml known w = absurd w
worst_is_first doc (Unknown k) known w = absurd w
worst_is_first doc (Regions a b) known w = absurd w

-- a document describes a machine, or has a first cause
in_a_document : (doc : Data) → IsDescribed doc (machine_of doc) ⊎ ((e : MachineError) × IsFirstIn doc e)
in_a_document doc = elim (some_least (unknown doc)) [
  | inr foreign ↦ inr (Unknown foreign.0, record { stands = foreign.1; first = λ f r c. omega (arith, high_rank doc f c) })
  | inl known ↦ elim (some_worst (faults doc)) [
    | inr worst ↦ inr (worst.0, worst_is_first doc worst.0 known worst.1)
    | inl none ↦ elim (least_pair (regions_of (elements doc))) [
      | inr pair ↦ inr (Regions pair.0 pair.1, record { stands = pair.2; first = λ f r c. before_regions doc f known none r c })
      | inl apart ↦ inl (record { known = known; faultless = none; apart = apart; told = refl })
    ]
  ]
]

abbrev pub Due : List ℕ → Type 0
Due b = ((machine : Machine) × IsDescription b machine) ⊎ ((e : MachineError) × IsFirstCause b e)

first_fails : (b : List ℕ) (f : MachineError) → rank f < 1 → Cause b f → ⊥
first_fails b NoMemory r c = c
first_fails b f r c = omega arith

no_document : (b : List ℕ) → IsNoDocument b → Due b
no_document b none = inr (Toml, record { stands = none; first = λ f r c. absurd (first_fails b f r c) })

read_as : (b : List ℕ) (m : Option Members) → IsUtf8 b → parse_document b ≡ m → Due b
read_as b None utf8 parsed = no_document b (record { none = λ m r. let e = sym parsed ∙ r.parsed in cc })
read_as b (Some m) utf8 parsed =
    let reads : Reads b m = record { utf8 = utf8; parsed = parsed } in
    elim (in_a_document (table m)) [
      | inl described ↦ inl (machine_of (table m), record { members = m; reads = reads; described = described })
      | inr first ↦ inr (first.0, lifted b m first.0 reads first.1)
    ]

-- bytes describe a machine, or have a first cause
pub due : (b : List ℕ) → Due b
due b = elim (cases_Bool (is_utf8 b)) [
  | inl text ↦ read_as b (parse_document b) (IsUtf8-from_is_utf8 b text) refl
  | inr foreign ↦ no_document b (record { none = λ m r. false≢true (sym foreign ∙ is_utf8-from_IsUtf8 b r.utf8) })
]
