-- How groups are gathered.
use Rattle.std.proofs.Common.{◌≡◌, ℕ, ◌+◌, ◌<◌, ◌≤◌, ◌⊎◌, ◌↔◌, List, [], length, get_or, min, slice_get, Some, refl, sym, ap, ◌∙◌, inl, inr, arith}
use Rattle.std.specs.List.{AllPairs, Contains}
use Rattle.std.proofs.lemmas.Bool.{cases_lt}
use Rattle.std.proofs.lemmas.Option.{none-some, same_Some, slice_get_within, slice_get-get_or}
use Rattle.flow_block.specs.declared.block.Slot.{Slot}
use Rattle.flow_block.specs.declared.block.SlotKind.{SlotKind}
use Rattle.flow_block.specs.declared.block.SlotKind.TheVariants.{Fetch, Multiply, Data}
use Rattle.flow_ctx.specs.declared.unfolded.UNode.{UNode}
use Rattle.flow_ctx.specs.declared.unfolded.Unfolded.{Unfolded}
use Rattle.cache_class.specs.declared.class.Class.{Class}
use Rattle.cache_class.specs.declared.class.Class.TheVariants.{AlwaysHit, AlwaysMiss, FirstMiss, Open}
use Rattle.cache_class.specs.declared.class.Classes.{Classes}
use Rattle.cache_class.specs.declared.group.Group.{Group}
use Rattle.cache_class.specs.Accesses.{slots_of}
use Rattle.cache_class.specs.Groups.{IsGroupBefore, AreGroups}
use Rattle.cache_class.specs.GroupsSoFar.{group_of, missed_first, AreGroupsTo}

-- an event belongs to the group that is told of it
told_class : (class : Class) (line : ℕ) (group : Group) → missed_first class line ≡ Some group → (line ≡ group.line) × (class ≡ FirstMiss group.scope)
told_class AlwaysHit line group e = absurd (none-some group e)
told_class AlwaysMiss line group e = absurd (none-some group e)
told_class (FirstMiss scope) line group e =
    let same = same_Some (record { line = line; scope = scope }) group e in
    (ap (λ (g : Group). g.line) same, ap (λ (g : Group). FirstMiss g.scope) same)
told_class Open line group e = absurd (none-some group e)

told : (kind : SlotKind) (class : Class) (group : Group) → group_of kind class ≡ Some group → (kind ≡ Fetch group.line) × (class ≡ FirstMiss group.scope)
told (Fetch line) class group e = let p = told_class class line group e in (ap Fetch p.0, p.1)
told Multiply class group e = absurd (none-some group e)
told Data class group e = absurd (none-some group e)

untold : (kind : SlotKind) (class : Class) (group : Group) → kind ≡ Fetch group.line → class ≡ FirstMiss group.scope → group_of kind class ≡ Some group
untold kind class group p q = λ i. group_of (p i) (q i)

-- the events of a node and the classes that the table lists for it
pub record IsNodeOf (u : Unfolded) (table : Classes) (number : ℕ) (slots : List Slot) (classes : List Class) : Type 0 where
  pub node : UNode
  pub stands : slice_get u.nodes number ≡ Some node
  pub events : slots ≡ slots_of u.program node
  pub listed : slice_get table.slots number ≡ Some classes

pub node_of : (u : Unfolded) (table : Classes) (number : ℕ) (slots : List Slot) (rows : List (List Class)) (row classes : List Class)
    → number < length u.nodes → number < length table.slots → ((node : UNode) → slice_get u.nodes number ≡ Some node → slots ≡ slots_of u.program node)
    → rows ≡ table.slots → row ≡ get_or rows number row → classes ≡ row → IsNodeOf u table number slots classes
node_of u table number slots rows row classes inside within told same at listed =
    let none : UNode = record { chain = []; function = 0; block = 0 } in
    let stands = slice_get-get_or u.nodes number none inside in
    record {
      node = get_or u.nodes number none;
      stands = stands;
      events = told (get_or u.nodes number none) stands;
      listed = slice_get-get_or table.slots number row within ∙ ap Some (sym (at ∙ ap (λ (xs : List (List Class)). get_or xs number row) same) ∙ sym listed);
    }

module _ (u : Unfolded) (table : Classes) where
  pub groups_none : AreGroupsTo u table 0 0 []
  groups_none = record {
    exact = λ g. (λ c. absurd (omega (arith, c.1)), λ is. absurd (elim is.early [ inl h ↦ omega (arith, h) | inr p ↦ omega (arith, p.1) ]));
  }

  module _ (n : ℕ) (slots : List Slot) (classes : List Class) (at : IsNodeOf u table n slots classes) where
    -- the table's classes and the node's events are those at hand
    same_slots : (node : UNode) (number : ℕ) → number ≡ n → slice_get u.nodes number ≡ Some node → slots_of u.program node ≡ slots
    same_slots node number same stands =
        ap (slots_of u.program) (same_Some node at.node (sym stands ∙ ap (slice_get u.nodes) same ∙ at.stands)) ∙ sym at.events

    same_classes : (listed : List Class) (number : ℕ) → number ≡ n → slice_get table.slots number ≡ Some listed → listed ≡ classes
    same_classes listed number same is = same_Some listed classes (sym is ∙ ap (slice_get table.slots) same ∙ at.listed)

    -- an event at its place
    pub groups_more : (i : ℕ) (slot : Slot) (class : Class) (old new : List Group) → slice_get slots i ≡ Some slot → slice_get classes i ≡ Some class
        → ((g : Group) → Contains new g ↔ (Contains old g ⊎ (group_of slot.kind class ≡ Some g)))
        → AreGroupsTo u table n i old → AreGroupsTo u table n (i + 1) new
    groups_more i slot class old new event here exact so = record {
      exact = λ g. (
        λ c. elim ((exact g).0 c) [
          | inl k ↦ let is = (so.exact g).0 k in record {
            number = is.number;
            place = is.place;
            is = is.is;
            early = elim is.early [ inl h ↦ inl h | inr p ↦ inr (p.0, omega (arith, p.1)) ];
          }
          | inr e ↦ let p = told slot.kind class g e in record {
            number = n;
            place = i;
            is = record {
              node = at.node;
              slot = slot;
              classes = classes;
              stands = at.stands;
              event = ap (λ (xs : List Slot). slice_get xs i) (sym at.events) ∙ event;
              fetches = p.0;
              listed = at.listed;
              class = here ∙ ap Some p.1;
            };
            early = inr (refl, omega arith);
          }
        ],
        λ is. elim is.early [
          | inl h ↦ (exact g).1 (inl ((so.exact g).1 (record { number = is.number; place = is.place; is = is.is; early = inl h })))
          | inr p ↦ elim (cases_lt is.place i) [
            | inl h ↦ (exact g).1 (inl ((so.exact g).1 (record { number = is.number; place = is.place; is = is.is; early = inr (p.0, h) })))
            | inr h ↦
                let place : is.place ≡ i = omega (arith, p.1, h) in
                let lists : is.is.classes ≡ classes = same_classes is.is.classes is.number p.0 is.is.listed in
                let nodes : slots_of u.program is.is.node ≡ slots = same_slots is.is.node is.number p.0 is.is.stands in
                let events : is.is.slot ≡ slot = same_Some is.is.slot slot (sym is.is.event ∙ (λ k. slice_get (nodes k) (place k)) ∙ event) in
                let is_class : class ≡ FirstMiss g.scope = same_Some class (FirstMiss g.scope) (sym here ∙ (λ k. slice_get (sym lists k) (sym place k)) ∙ is.is.class) in
                (exact g).1 (inr (untold slot.kind class g (ap (λ (s : Slot). s.kind) (sym events) ∙ is.is.fetches) is_class))
          ]
        ],
      );
    }

    -- behind the last event of a node the next node begins
    pub groups_next : (i : ℕ) (groups : List Group) → min (length slots) (length classes) ≤ i → AreGroupsTo u table n i groups → AreGroupsTo u table (n + 1) 0 groups
    groups_next i groups end so = record {
      exact = λ g. (
        λ c. let is = (so.exact g).0 c in record {
          number = is.number;
          place = is.place;
          is = is.is;
          early = elim is.early [ inl h ↦ inl (omega (arith, h)) | inr p ↦ inl (omega (arith, p.0)) ];
        },
        λ is. (so.exact g).1 (record {
          number = is.number;
          place = is.place;
          is = is.is;
          early = elim is.early [
            | inr p ↦ absurd (omega (arith, p.1))
            | inl h ↦ elim (cases_lt is.number n) [
              | inl less ↦ inl less
              | inr more ↦
                  let same : is.number ≡ n = omega (arith, h, more) in
                  inr (
                    same,
                    omega (
                      arith,
                      end,
                      slice_get_within (slots_of u.program is.is.node) is.place is.is.slot is.is.event,
                      ap length (same_slots is.is.node is.number same is.is.stands),
                      slice_get_within is.is.classes is.place (FirstMiss g.scope) is.is.class,
                      ap length (same_classes is.is.classes is.number same is.is.listed),
                    ),
                  )
            ]
          ];
        }),
      );
    }

  pub groups_all : (n : ℕ) (groups : List Group) → min (length u.nodes) (length table.slots) ≤ n → AllPairs IsGroupBefore groups → AreGroupsTo u table n 0 groups
      → AreGroups u table groups
  groups_all n groups end up so = record {
    ascending = up;
    exact = λ g. (
      λ c. let is = (so.exact g).0 c in record { number = is.number; place = is.place; is = is.is },
      λ is. (so.exact g).1 (record {
        number = is.number;
        place = is.place;
        is = is.is;
        early = inl (omega (
          arith,
          end,
          slice_get_within u.nodes is.number is.is.node is.is.stands,
          slice_get_within table.slots is.number is.is.classes is.is.listed,
        ));
      }),
    );
  }
