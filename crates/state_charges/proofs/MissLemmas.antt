-- The events of a block that belong to groups, gathered one by one, and groups with their amounts.
use Rattle.std.proofs.Common.{◌≡◌, ℕ, ◌+◌, ◌<◌, ◌≤◌, List, [], ◌∷◌, ◌++◌, length, map, take, slice_get, slice_index, Option, Some, None, refl, sym, ap, subst, ◌∙◌, inl, inr, arith}
use Rattle.std.proofs.lemmas.Bool.{cases_lt}
use Rattle.std.proofs.lemmas.List.{map-append, take_all, take_more}
use Rattle.std.proofs.lemmas.Option.{get_or_from_slice_get, same_Some, slice_get_within}
use Rattle.flow_block.specs.declared.block.Slot.{Slot}
use Rattle.flow_block.specs.declared.block.SlotKind.{SlotKind}
use Rattle.flow_block.specs.declared.block.SlotKind.TheVariants.{Fetch, Multiply, Data}
use Rattle.cache_class.specs.declared.class.Class.{Class}
use Rattle.cache_class.specs.declared.class.Class.TheVariants.{AlwaysHit, AlwaysMiss, FirstMiss, Open}
use Rattle.cache_class.specs.declared.group.Group.{Group}
use Rattle.cert_text.specs.declared.certificate.Charge.{Charge}
use Rattle.cert_rules.specs.Rules.{group_of}
use Rattle.state_charges.specs.declared.miss.Miss.{Miss}
use Rattle.state_charges.specs.Misses.{AreMisses, ArePlaces, HaveAmounts, IsMiss, event_place, fetch_place}
use Rattle.state_charges.proofs.PushLemmas.{at_push, before_push, of_push}

-- the kind and the class are those of an event of the group at a position
pub record IsPlaced (groups : List Group) (kind : SlotKind) (class : Class) (place : ℕ) : Type 0 where
  pub group : Group
  pub fetches : kind ≡ Fetch group.line
  pub first : class ≡ FirstMiss group.scope
  pub listed : slice_get groups place ≡ Some group

module _ (groups : List Group) (entries : List ((ℕ × Option ℕ) × ℕ)) (are : ArePlaces groups entries) where
  -- the position that is found for an event is that of its group
  pub placed : (kind : SlotKind) (class : Class) (place : ℕ) → event_place entries kind class ≡ Some place → IsPlaced groups kind class place
  placed (Fetch line) AlwaysHit place e = absurd (cc)
  placed (Fetch line) AlwaysMiss place e = absurd (cc)
  placed (Fetch line) (FirstMiss scope) place e = record { group = record { line = line; scope = scope }; fetches = refl; first = refl; listed = are.sound (record { line = line; scope = scope }) place e }
  placed (Fetch line) Open place e = absurd (cc)
  placed Multiply class place e = absurd (cc)
  placed Data class place e = absurd (cc)

  -- and it is found
  pub found : (kind : SlotKind) (class : Class) (place : ℕ) → IsPlaced groups kind class place → event_place entries kind class ≡ Some place
  found kind class place is =
      subst (λ (k : SlotKind). event_place entries k class ≡ Some place) (sym is.fetches)
      (subst (λ (c : Class). fetch_place entries c is.group.line ≡ Some place) (sym is.first) (are.whole is.group place is.listed))

-- the first events that belong to groups
pub record FirstMisses (groups : List Group) (slots : List Slot) (classes : List Class) (n : ℕ) (misses : List Miss) : Type 0 where
  pub sound : (k : ℕ) (x : Miss) → slice_get misses k ≡ Some x → IsMiss groups slots classes x.event x.group
  pub whole : (event place : ℕ) → event < n → IsMiss groups slots classes event place
      → (k : ℕ) × (slice_get misses k ≡ Some (record { event = event; group = place }))

pub no_misses : (groups : List Group) (slots : List Slot) (classes : List Class) → FirstMisses groups slots classes 0 []
no_misses groups slots classes = record {
  sound = λ k x e. absurd (omega (arith, slice_get_within [] k x e));
  whole = λ event place less is. absurd (omega (arith, less));
}

module _ (groups : List Group) (entries : List ((ℕ × Option ℕ) × ℕ)) (are : ArePlaces groups entries) (slots : List Slot) (classes : List Class) (n : ℕ)
    (slot : Slot) (class : Class) (at : slice_get slots n ≡ Some slot) (there : slice_get classes n ≡ Some class) (misses : List Miss)
    (were : FirstMisses groups slots classes n misses) where
  -- what is known of the event with the number, if it belongs to a group
  known : (event place : ℕ) → event ≡ n → IsMiss groups slots classes event place → IsPlaced groups slot.kind class place
  known event place same is =
      let own : is.slot ≡ slot = same_Some is.slot slot (sym is.event_stands ∙ (ap (slice_get slots) same ∙ at)) in
      let its : FirstMiss is.group.scope ≡ class = same_Some (FirstMiss is.group.scope) class (sym is.class ∙ (ap (slice_get classes) same ∙ there)) in
      record {
        group = is.group;
        fetches = sym (ap (λ (s : Slot). s.kind) own) ∙ is.fetches;
        first = sym its;
        listed = is.listed;
      }

  -- an event that belongs to no group
  pub none_more : event_place entries slot.kind class ≡ None → FirstMisses groups slots classes (n + 1) misses
  none_more none = record {
    sound = were.sound;
    whole = λ event place less is. elim (cases_lt event n) [
      | inl before ↦ were.whole event place before is
      | inr behind ↦
          let same : event ≡ n = omega (arith, behind, less) in
          let some : event_place entries slot.kind class ≡ Some place = found groups entries are slot.kind class place (known event place same is) in
          absurd (cc)
    ];
  }

  -- an event that belongs to the group at a position
  pub one_more : (group : ℕ) → event_place entries slot.kind class ≡ Some group
      → FirstMisses groups slots classes (n + 1) (misses ++ record { event = n; group = group } ∷ [])
  one_more group some = record { sound = sound_more; whole = whole_more }
    where
      added : Miss
      added = record { event = n; group = group }

      here : IsMiss groups slots classes n group
      here =
          let is = placed groups entries are slot.kind class group some in
          record {
            slot = slot;
            group = is.group;
            event_stands = at;
            fetches = is.fetches;
            class = there ∙ ap (λ (c : Class). Some c) is.first;
            listed = is.listed;
          }

      sound_more : (k : ℕ) (x : Miss) → slice_get (misses ++ added ∷ []) k ≡ Some x → IsMiss groups slots classes x.event x.group
      sound_more k x e = elim (of_push misses added k x e) [
        | inl old ↦ were.sound k x old
        | inr last ↦ subst (λ (y : Miss). IsMiss groups slots classes y.event y.group) last.1 here
      ]

      whole_more : (event place : ℕ) → event < n + 1 → IsMiss groups slots classes event place
          → (k : ℕ) × (slice_get (misses ++ added ∷ []) k ≡ Some (record { event = event; group = place }))
      whole_more event place less is = elim (cases_lt event n) [
        | inl before ↦
            let w = were.whole event place before is in
            (w.0, before_push misses added w.0 (record { event = event; group = place }) w.1)
        | inr behind ↦
            let same : event ≡ n = omega (arith, behind, less) in
            let other : event_place entries slot.kind class ≡ Some place = found groups entries are slot.kind class place (known event place same is) in
            let one : group ≡ place = same_Some group place (sym some ∙ other) in (
              length misses,
              at_push misses added
                  ∙ (ap (λ (e : ℕ). Some (record { event = e; group = group })) (sym same) ∙ ap (λ (g : ℕ). Some (record { event = event; group = g })) one),
            )
      ]

-- all events
pub all_misses : (groups : List Group) (slots : List Slot) (classes : List Class) (n : ℕ) (misses : List Miss) → length slots ≤ n
    → FirstMisses groups slots classes n misses → AreMisses groups slots classes misses
all_misses groups slots classes n misses done were = record {
  sound = were.sound;
  whole = λ event place is. were.whole event place (omega (arith, done, slice_get_within slots event is.slot is.event_stands)) is;
}

-- the first groups have their amounts
pub record FirstAmounts (groups : List Group) (amounts : List ℕ) (i : ℕ) (charges : List Charge) : Type 0 where
  pub are : map group_of charges ≡ take i groups
  pub long : length charges ≡ i
  pub each : (k : ℕ) (charge : Charge) → slice_get charges k ≡ Some charge → charge.amount ≡ slice_index amounts k

pub no_amounts : (groups : List Group) (amounts : List ℕ) → FirstAmounts groups amounts 0 []
no_amounts groups amounts = record { are = refl; long = refl; each = λ k charge e. absurd (omega (arith, slice_get_within [] k charge e)) }

pub one_amount : (groups : List Group) (amounts : List ℕ) (i : ℕ) (group : Group) (charges : List Charge) (amount : ℕ) → slice_get groups i ≡ Some group
    → amount ≡ slice_index amounts i → FirstAmounts groups amounts i charges
    → FirstAmounts groups amounts (i + 1) (charges ++ record { line = group.line; scope = group.scope; amount = amount } ∷ [])
one_amount groups amounts i group charges amount at is were = record {
  are = map-append group_of charges (added ∷ []) ∙ (ap (λ (gs : List Group). gs ++ group ∷ []) were.are
      ∙ (ap (λ (g : Group). take i groups ++ g ∷ []) (sym (get_or_from_slice_get groups i group group at)) ∙ sym (take_more groups i group (slice_get_within groups i group at))));
  long = length_more charges ∙ ap (λ (n : ℕ). n + 1) were.long;
  each = λ k charge e. elim (of_push charges added k charge e) [
    | inl old ↦ were.each k charge old
    | inr last ↦
        let same : amount ≡ charge.amount = ap (λ (c : Charge). c.amount) last.1 in
        let place : i ≡ k = sym were.long ∙ sym last.0 in
        sym same ∙ (is ∙ ap (slice_index amounts) place)
  ];
}
  where
    added : Charge
    added = record { line = group.line; scope = group.scope; amount = amount }

    length_more : (xs : List Charge) → length (xs ++ added ∷ []) ≡ length xs + 1
    length_more [] = refl
    length_more (x ∷ xs) = omega (arith, length_more xs)

pub all_amounts : (groups : List Group) (amounts : List ℕ) (i : ℕ) (charges : List Charge) → length groups ≤ i → FirstAmounts groups amounts i charges
    → HaveAmounts groups amounts charges
all_amounts groups amounts i charges done were = record { are = were.are ∙ take_all i groups done; each = were.each }
