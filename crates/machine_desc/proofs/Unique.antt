-- At most one refusal has the first cause, and a description has no cause.
use Rattle.std.proofs.Common.{◌≡◌, ◌≢◌, ℕ, ◌<◌, ◌≤◌, ◌⊎◌, inl, inr, List, [], ◌∷◌, Ordering, Less, Equal, Greater, nat_cmp, Ok, Err, Result, refl, sym, ap, subst, ◌∙◌, arith}
use Rattle.std.specs.Prelude.{IfErr, IfOk, IsErrAnd, slice_get, Bool}
use Rattle.std.proofs.lemmas.Bool.{cases_lt}
use Rattle.std.proofs.lemmas.Bool.Decides.{nat_tests}
use Rattle.std.proofs.lemmas.Option.{same_Some}
use Rattle.std.specs.Ordering.{ordering_then}
use Rattle.toml.specs.Data.{Data, table, Members}
use Rattle.wx_base.specs.declared.machine.Machine.{Machine}
use Rattle.wx_base.specs.declared.machine.Region.{Region}
use Rattle.machine_desc.specs.declared.error.MachineError.{MachineError}
use Rattle.machine_desc.specs.declared.error.MachineError.TheVariants.{NoMemory, Toml, Unknown, Missing, Kind, Range, Regions}
use Rattle.machine_desc.specs.declared.fault.Fault.{Fault}
use Rattle.machine_desc.specs.declared.fault.Fault.TheVariants as fault
use Rattle.machine_desc.specs.declared.fault.Faulty.{Faulty}
use Rattle.machine_desc.specs.Causes.{Cause, CauseIn, HasCause, IsDescribed, IsDescription, IsFirst, IsFirstCause, IsLeast, IsRefusal, Reads, is_kind, is_missing, is_range, rank}
use Rattle.machine_desc.specs.Document.{elements, faults, unknown}
use Rattle.machine_desc.specs.Meeting.{IsLeastMeeting}
use Rattle.machine_desc.specs.Values.{machine_of, regions_of}
use Rattle.machine_desc.proofs.Least.{against, flipped}

-- bytes are one document
pub one_document : (b : List ℕ) (m n : Members) → Reads b m → Reads b n → m ≡ n
one_document b m n x y = let e = sym x.parsed ∙ y.parsed in cc

neither_way : (o : Ordering) (x y : List ℕ) → against x y ≡ o → against x y ≢ Greater → against y x ≢ Greater → against x y ≡ Equal
neither_way Less x y e a b = absurd (b (flipped x y Less e))
neither_way Equal x y e a b = e
neither_way Greater x y e a b = absurd (a e)

equal_heads : (m n : ℕ) → nat_cmp m n ≡ Equal → m ≡ n
equal_heads m n e = grind (arith, nat_tests)

parts : (a b : Ordering) → ordering_then a b ≡ Equal → (a ≡ Equal) × (b ≡ Equal)
parts Less b e = absurd cc
parts Equal b e = (refl, e)
parts Greater b e = absurd cc

equal_texts : (x y : List ℕ) → against x y ≡ Equal → x ≡ y
equal_texts [] [] e = refl
equal_texts [] (n ∷ y) e = absurd cc
equal_texts (m ∷ x) [] e = absurd cc
equal_texts (m ∷ x) (n ∷ y) e =
    let p = parts (nat_cmp m n) (against x y) e in
    let heads : m ≡ n = equal_heads m n p.0 in
    let tails : x ≡ y = equal_texts x y p.1 in cc

-- of some texts one is the least
one_least : (keys : List (List ℕ)) (k l : List ℕ) → IsLeast keys k → IsLeast keys l → k ≡ l
one_least keys k l x y =
    let a : against k l ≢ Greater = subst (λ (t : List ℕ). against k t ≢ Greater) y.there (x.least y.place y.within) in
    let b : against l k ≢ Greater = subst (λ (t : List ℕ). against l t ≢ Greater) x.there (y.least x.place x.within) in
    equal_texts k l (neither_way (against k l) k l refl a b)

-- one key is the first with a fault of a sort
one_first : (sort : Fault → Bool) (found : List Faulty) (k l : List ℕ) (f g : Fault) → IsFirst sort found k f → IsFirst sort found l g → (k ≡ l) × (f ≡ g)
one_first sort found k l f g x y =
    let places : x.place ≡ y.place = let e = sym x.first ∙ y.first in cc in
    let one : Faulty = record { key = k; fault = f } in
    let other : Faulty = record { key = l; fault = g } in
    let same : one ≡ other = same_Some one other (sym x.there ∙ ap (slice_get found) places ∙ y.there) in
    (ap (λ (z : Faulty). z.key) same, ap (λ (z : Faulty). z.fault) same)

one_lower : (rs : List Region) (a b c d : ℕ) → IsLeastMeeting rs a b → IsLeastMeeting rs c d → a ≡ c
one_lower rs a b c d x y = elim (cases_lt a c) [
  | inl h ↦ absurd (y.lower_first a b h x.ordered x.among x.meet)
  | inr h ↦ elim (cases_lt c a) [ inl k ↦ absurd (x.lower_first c d k y.ordered y.among y.meet) | inr k ↦ omega arith ]
]

one_upper : (rs : List Region) (a b d : ℕ) → IsLeastMeeting rs a b → IsLeastMeeting rs a d → b ≡ d
one_upper rs a b d x y = elim (cases_lt b d) [
  | inl h ↦ absurd (y.lower_second b x.ordered h x.meet)
  | inr h ↦ elim (cases_lt d b) [ inl k ↦ absurd (x.lower_second d y.ordered k y.meet) | inr k ↦ omega arith ]
]

-- one pair of regions is the least that meets
one_meeting : (rs : List Region) (a b c d : ℕ) → IsLeastMeeting rs a b → IsLeastMeeting rs c d → Regions a b ≡ Regions c d
one_meeting rs a b c d x y =
    let first : a ≡ c = one_lower rs a b c d x y in
    let second : b ≡ d = one_upper rs a b d x (subst (λ (k : ℕ). IsLeastMeeting rs k d) (sym first) y) in
    cc

-- in one document the causes of one rank are one
same_in : (doc : Data) (e f : MachineError) → CauseIn doc e → CauseIn doc f → rank e ≡ rank f → e ≡ f
same_in doc (Unknown k) (Unknown l) c d r = ap Unknown (one_least (unknown doc) k l c d)
same_in doc (Missing k) (Missing l) c d r = ap Missing (one_first is_missing (faults doc) k l fault.Missing fault.Missing c d).0
same_in doc (Kind k) (Kind l) c d r = ap Kind (one_first is_kind (faults doc) k l fault.Kind fault.Kind c d).0
same_in doc (Range k v) (Range l w) c d r = let same = one_first is_range (faults doc) k l (fault.Range v) (fault.Range w) c d in cc
same_in doc (Regions a b) (Regions x y) c d r = one_meeting (regions_of (elements doc)) a b x y c d
same_in doc NoMemory f c d r = absurd c
same_in doc Toml f c d r = absurd c
same_in doc e NoMemory c d r = absurd d
same_in doc e Toml c d r = absurd d
same_in doc e f c d r = absurd (omega arith)

has_same : (b : List ℕ) (e f : MachineError) → HasCause b e → HasCause b f → rank e ≡ rank f → e ≡ f
has_same b e f x y r =
    let same : y.members ≡ x.members = one_document b y.members x.members y.reads x.reads in
    same_in (table x.members) e f x.cause (subst (λ (m : Members). CauseIn (table m) f) same y.cause) r

-- the cause of a refusal but want of memory and of a document lies in a document
pub in_document : (b : List ℕ) (e : MachineError) → 1 < rank e → Cause b e → HasCause b e
in_document b NoMemory r c = absurd c
in_document b Toml r c = absurd (omega arith)
in_document b (Unknown k) r c = c
in_document b (Missing k) r c = c
in_document b (Kind k) r c = c
in_document b (Range k v) r c = c
in_document b (Regions x y) r c = c

pub low_rank : (b : List ℕ) (e : MachineError) → rank e ≤ 1 → Cause b e → e ≡ Toml
low_rank b NoMemory r c = absurd c
low_rank b Toml r c = refl
low_rank b (Unknown k) r c = absurd (omega arith)
low_rank b (Missing k) r c = absurd (omega arith)
low_rank b (Kind k) r c = absurd (omega arith)
low_rank b (Range k v) r c = absurd (omega arith)
low_rank b (Regions x y) r c = absurd (omega arith)

same_rank : (b : List ℕ) (e f : MachineError) → Cause b e → Cause b f → rank e ≡ rank f → e ≡ f
same_rank b e f c d r = elim (cases_lt 1 (rank e)) [
  | inl high ↦ has_same b e f (in_document b e high c) (in_document b f (omega arith) d) r
  | inr low ↦ low_rank b e low c ∙ sym (low_rank b f (omega arith) d)
]

-- two first causes are one
pub one_first_cause : (b : List ℕ) (e f : MachineError) → IsFirstCause b e → IsFirstCause b f → e ≡ f
one_first_cause b e f x y = elim (cases_lt (rank e) (rank f)) [
  | inl h ↦ absurd (y.first e h x.stands)
  | inr h ↦ elim (cases_lt (rank f) (rank e)) [
    | inl k ↦ absurd (x.first f k y.stands)
    | inr k ↦ same_rank b e f x.stands y.stands (omega arith)
  ]
]

pub no_least : (key : List ℕ) → IsLeast [] key → ⊥
no_least key x = omega (arith, x.within)

pub no_first : (sort : Fault → Bool) (key : List ℕ) (f : Fault) → IsFirst sort [] key f → ⊥
no_first sort key f x = let e = x.there in cc

-- a description has no cause in it
described_has_none : (doc : Data) (machine : Machine) (e : MachineError) → IsDescribed doc machine → CauseIn doc e → ⊥
described_has_none doc machine NoMemory h c = c
described_has_none doc machine Toml h c = c
described_has_none doc machine (Unknown k) h c = no_least k (subst (λ (keys : List (List ℕ)). IsLeast keys k) h.known c)
described_has_none doc machine (Missing k) h c = no_first is_missing k fault.Missing (subst (λ (found : List Faulty). IsFirst is_missing found k fault.Missing) h.faultless c)
described_has_none doc machine (Kind k) h c = no_first is_kind k fault.Kind (subst (λ (found : List Faulty). IsFirst is_kind found k fault.Kind) h.faultless c)
described_has_none doc machine (Range k v) h c = no_first is_range k (fault.Range v) (subst (λ (found : List Faulty). IsFirst is_range found k (fault.Range v)) h.faultless c)
described_has_none doc machine (Regions a b) h c = h.apart.apart a b c.ordered c.among c.meet

-- bytes that describe a machine have no cause of a refusal
pub no_cause : (b : List ℕ) (machine : Machine) (e : MachineError) → IsDescription b machine → Cause b e → ⊥
no_cause b machine e h c = elim (cases_lt 1 (rank e)) [
  | inl high ↦
      let x = in_document b e high c in
      let same : x.members ≡ h.members = one_document b x.members h.members x.reads h.reads in
      described_has_none (table h.members) machine e h.described (subst (λ (m : Members). CauseIn (table m) e) same x.cause)
  | inr low ↦ let t : Cause b Toml = subst (Cause b) (low_rank b e low c) c in t.none h.members h.reads
]

refusal_is : (b : List ℕ) (e f : MachineError) → IsFirstCause b e → IsRefusal b f → (f ≡ NoMemory) ⊎ (f ≡ e)
refusal_is b e f x (inl h) = inl h
refusal_is b e f x (inr h) = inr (one_first_cause b f e h x)

-- bytes with a first cause are refused by it, or for want of memory
pub exact_refusal : (b : List ℕ) (r : Result Machine MachineError) (first : MachineError) → IfOk r (IsDescription b) → IfErr r (IsRefusal b) → IsFirstCause b first → IsErrAnd r (λ e. (e ≡ NoMemory) ⊎ (e ≡ first))
exact_refusal b (Ok machine) first p q h = absurd (no_cause b machine first p h.stands)
exact_refusal b (Err e) first p q h = refusal_is b first e h q

-- bytes describe one machine
pub one_machine : (b : List ℕ) (m n : Machine) → IsDescription b m → IsDescription b n → m ≡ n
one_machine b m n x y =
    x.described.told ∙ ap (λ (ms : Members). machine_of (table ms)) (one_document b x.members y.members x.reads y.reads) ∙ sym y.described.told
