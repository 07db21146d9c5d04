-- An unfolding has one table of classes: the flow is one, and what some solution shows no table may pass over.
use Rattle.std.proofs.Common.{◌≡◌, ℕ, zero, suc, ◌<◌, ◌⊎◌, Bool, true, false, List, [], ◌∷◌, length, get_or, take, Option, Some, None, refl, sym, ap, ◌∙◌, subst, inl, inr, arith}
use Rattle.std.specs.List.{All, Any, Contains, cons_option, slice_get}
use Rattle.std.specs.Option.{option_map}
use Rattle.std.proofs.lemmas.Bool.{cases_lt}
use Rattle.std.proofs.lemmas.List.{get_or_past, get_or_default}
use Rattle.std.proofs.lemmas.List.Elements.{All-from_get_or, All-nil, Contains-get_or}
use Rattle.std.proofs.lemmas.Option.{same_Some, slice_get_within, slice_get-map, get_or_from_slice_get}
use Rattle.wx_base.specs.declared.machine.Machine.{Machine}
use Rattle.wx_base.specs.declared.machine.Shape.{Shape}
use Rattle.cache_ages.specs.Bounds.{is_one_of}
use Rattle.cache_ages.proofs.Beside.{one_at}
use Rattle.cache_flow.specs.declared.flow.Flow.{Flow}
use Rattle.cache_flow.specs.Flows.{accesses_of}
use Rattle.flow_block.specs.declared.block.Slot.{Slot}
use Rattle.flow_block.specs.declared.block.SlotKind.{SlotKind}
use Rattle.flow_block.specs.declared.block.SlotKind.TheVariants.{Fetch, Multiply, Data}
use Rattle.flow_ctx.specs.declared.scope.Scope.{Scope}
use Rattle.flow_ctx.specs.declared.scope.Scope.TheVariants.{Run, Loop}
use Rattle.flow_ctx.specs.declared.unfolded.UNode.{UNode}
use Rattle.flow_ctx.specs.declared.unfolded.Unfolded.{Unfolded}
use Rattle.cache_class.specs.declared.class.Class.{Class}
use Rattle.cache_class.specs.declared.class.Class.TheVariants.{FirstMiss}
use Rattle.cache_class.specs.Accesses.{slots_of, fetched, fetched_by, lines_fetched, IsFlowOf}
use Rattle.cache_class.specs.Classes.{size_of, IsOutside, IsClass, IsKindClass, AreNodeClasses}
use Rattle.cache_class.specs.Classes.IsClass.{hits, misses, first, opens}
use Rattle.cache_class.specs.Laws.{ClassesAreOne}
use Rattle.cache_class.proofs.Ascending.{numbers_one}

-- ---- lists

pub same_bool : (a b : Bool) → (a ≡ true → b ≡ true) → (b ≡ true → a ≡ true) → a ≡ b
same_bool true b f g = sym (f refl)
same_bool false true f g = g refl
same_bool false false f g = refl

element : {X : Type 0} (xs : List X) (n : ℕ) → n < length xs → (x : X) × (slice_get xs n ≡ Some x)
element [] n h = absurd (omega arith)
element (x ∷ xs) zero h = (x, refl)
element (x ∷ xs) (suc n) h = element xs n (omega arith)

same_lists : {X : Type 0} (xs ys : List X) → length xs ≡ length ys
    → ((k : ℕ) (x y : X) → slice_get xs k ≡ Some x → slice_get ys k ≡ Some y → x ≡ y) → xs ≡ ys
same_lists [] [] e h = refl
same_lists [] (y ∷ ys) e h = absurd (omega arith)
same_lists (x ∷ xs) [] e h = absurd (omega arith)
same_lists (x ∷ xs) (y ∷ ys) e h =
    let p = h 0 x y refl refl in
    let q = same_lists xs ys (omega arith) (λ k a b s t. h (suc k) a b s t) in
    λ i. p i ∷ q i

-- ---- the flow

pub flow_once : (u : Unfolded) (f g : Flow) → IsFlowOf u f → IsFlowOf u g → f ≡ g
flow_once u f g a b =
    let nodes : f.nodes ≡ g.nodes = a.nodes ∙ sym b.nodes in
    let lines : f.lines ≡ g.lines = numbers_one f.lines g.lines a.ascending b.ascending
    (λ n c. (b.lines n).1 (subst (λ (x : List (List ℕ)). Any (λ accesses. Contains accesses n) x) nodes ((a.lines n).0 c)))
    (λ n c. (a.lines n).1 (subst (λ (x : List (List ℕ)). Any (λ accesses. Contains accesses n) x) (sym nodes) ((b.lines n).0 c))) in
    let start : f.start ≡ g.start = a.start ∙ sym b.start in
    let moves : f.moves ≡ g.moves = a.moves ∙ sym b.moves in
    λ i. record { start = start i; nodes = nodes i; moves = moves i; lines = lines i }

pub one_of_contained : (lines : List ℕ) (line : ℕ) → Contains lines line → is_one_of lines line ≡ true
one_of_contained lines line c = one_at lines c.0 line c.1 (get_or_default lines c.0 0 line c.1 ∙ c.2)

-- nodes access lines of the flow
pub accesses_listed : (u : Unfolded) (flow : Flow) (node : ℕ) → IsFlowOf u flow → All (λ line. is_one_of flow.lines line ≡ true) (accesses_of flow node)
accesses_listed u flow node of = elim (cases_lt node (length flow.nodes)) [
  | inl h ↦ All-from_get_or (λ line. is_one_of flow.lines line ≡ true) (accesses_of flow node) 0
      (λ k lt. one_of_contained flow.lines (get_or (accesses_of flow node) k 0) ((of.lines (get_or (accesses_of flow node) k 0)).1
      (node, accesses_of flow node, h, get_or_default flow.nodes node (accesses_of flow node) [] h, Contains-get_or (accesses_of flow node) k 0 lt)))
  | inr h ↦ rw (get_or_past flow.nodes node [] h) (All-nil (λ line. is_one_of flow.lines line ≡ true))
]

-- ---- scopes

outside_told : (u : Unfolded) (s t : Scope) → IsOutside u s t ⊎ ((s ≡ t) ⊎ IsOutside u t s)
outside_told u Run Run = inr (inl refl)
outside_told u Run (Loop m) = inl tt
outside_told u (Loop k) Run = inr (inr tt)
outside_told u (Loop k) (Loop m) = elim (cases_lt (size_of u (Loop m)) (size_of u (Loop k))) [
  | inl less ↦ inl (inl less)
  | inr more ↦ elim (cases_lt (size_of u (Loop k)) (size_of u (Loop m))) [
    | inl less ↦ inr (inr (inl less))
    | inr other ↦
        let same : size_of u (Loop k) ≡ size_of u (Loop m) = omega (arith, more, other) in
        elim (cases_lt k m) [
          | inl less ↦ inl (inr (same, less))
          | inr above ↦ elim (cases_lt m k) [
            | inl less ↦ inr (inr (inr (sym same, less)))
            | inr equal ↦ let e : k ≡ m = omega (arith, above, equal) in inr (inl (ap Loop e))
          ]
        ]
  ]
]

-- ---- classes

module _ (shape : Shape) (u : Unfolded) (flow : Flow) (node place line : ℕ) where
  class_once : (c d : Class) → IsClass shape u flow node place line c → IsClass shape u flow node place line d → c ≡ d
  class_once c d (hits p) (hits q) = refl
  class_once c d (hits p) (misses q r) = absurd (q p)
  class_once c d (hits p) (first t q r k o) = absurd (q p)
  class_once c d (hits p) (opens q r k) = absurd (q p)
  class_once c d (misses p r) (hits q) = absurd (p q)
  class_once c d (misses p r) (misses q s) = refl
  class_once c d (misses p r) (first t q s k o) = absurd (s r)
  class_once c d (misses p r) (opens q s k) = absurd (s r)
  class_once c d (first t p r k o) (hits q) = absurd (p q)
  class_once c d (first t p r k o) (misses q s) = absurd (r s)
  class_once c d (first s p r k o) (first t q w l n) = elim (outside_told u s t) [
    | inl out ↦ absurd (n s out k)
    | inr rest ↦ elim rest [
      | inl e ↦ ap FirstMiss e
      | inr out ↦ absurd (o t out l)
    ]
  ]
  class_once c d (first t p r k o) (opens q s n) = absurd (n t k)
  class_once c d (opens p r k) (hits q) = absurd (p q)
  class_once c d (opens p r k) (misses q s) = absurd (r s)
  class_once c d (opens p r k) (first t q s l n) = absurd (k t l)
  class_once c d (opens p r k) (opens q s l) = refl

kind_once : (machine : Machine) (u : Unfolded) (flow : Flow) (node : ℕ) (slots : List Slot) (number : ℕ) (kind : SlotKind) (c d : Class)
    → IsKindClass machine u flow node slots number kind c → IsKindClass machine u flow node slots number kind d → c ≡ d
kind_once machine u flow node slots number (Fetch line) c d p q =
    class_once machine.shape u flow node (length (lines_fetched (take number slots))) line c d p q
kind_once machine u flow node slots number Multiply c d p q = p ∙ sym q
kind_once machine u flow node slots number Data c d p q = p ∙ sym q

-- a line that an event fetches is among those fetched
rest_fetched : (o : Option ℕ) (xs : List ℕ) (line : ℕ) → Contains xs line → Contains (cons_option o xs) line
rest_fetched None xs line c = c
rest_fetched (Some x) xs line c = (suc c.0, omega (arith, c.1), c.2)

fetched_in : (slots : List Slot) (k : ℕ) (slot : Slot) (line : ℕ) → slice_get slots k ≡ Some slot → slot.kind ≡ Fetch line → Contains (lines_fetched slots) line
fetched_in [] k slot line s e = absurd (omega (arith, slice_get_within {A = Slot} [] k slot s))
fetched_in (x ∷ slots) zero slot line s e =
    let kind : x.kind ≡ Fetch line = ap (λ (t : Slot). t.kind) (same_Some x slot s) ∙ e in
    let is : fetched x ≡ Some line = ap fetched_by kind in
    subst (λ (o : Option ℕ). Contains (cons_option o (lines_fetched slots)) line) (sym is) (0, omega arith, refl)
fetched_in (x ∷ slots) (suc k) slot line s e = rest_fetched (fetched x) (lines_fetched slots) line (fetched_in slots k slot line s e)

pub line_listed : (u : Unfolded) (flow : Flow) (number : ℕ) (node : UNode) (k : ℕ) (slot : Slot) (line : ℕ) → IsFlowOf u flow → slice_get u.nodes number ≡ Some node
    → slice_get (slots_of u.program node) k ≡ Some slot → slot.kind ≡ Fetch line → is_one_of flow.lines line ≡ true
line_listed u flow number node k slot line of stands event kind =
    let accesses = lines_fetched (slots_of u.program node) in
    let is : slice_get flow.nodes number ≡ Some accesses =
    ap (λ (ns : List (List ℕ)). slice_get ns number) of.nodes ∙ slice_get-map (λ n. lines_fetched (slots_of u.program n)) u.nodes number ∙ ap (option_map (λ n. lines_fetched (slots_of u.program n))) stands in
    one_of_contained flow.lines line ((of.lines line).1
    (number, accesses, slice_get_within flow.nodes number accesses is, get_or_from_slice_get flow.nodes number accesses accesses is, fetched_in (slots_of u.program node) k slot line event kind))

one_table : (u : Unfolded) (machine : Machine) (flow : Flow) (xs ys : List (List Class)) → length xs ≡ length u.nodes → length ys ≡ length u.nodes
    → ((number : ℕ) (node : UNode) (classes : List Class) → slice_get u.nodes number ≡ Some node → slice_get xs number ≡ Some classes → AreNodeClasses machine u flow number (slots_of u.program node) classes)
    → ((number : ℕ) (node : UNode) (classes : List Class) → slice_get u.nodes number ≡ Some node → slice_get ys number ≡ Some classes → AreNodeClasses machine u flow number (slots_of u.program node) classes)
    → xs ≡ ys
one_table u machine flow xs ys p q each other = same_lists xs ys (p ∙ sym q) (λ number cs ds s t.
    let node = element u.nodes number (omega (arith, p, slice_get_within xs number cs s)) in
    let slots = slots_of u.program node.0 in
    let one = each number node.0 cs node.1 s in
    let two = other number node.0 ds node.1 t in
    same_lists cs ds (one.long ∙ sym two.long) (λ k c d f g.
    let slot = element slots k (omega (arith, one.long, slice_get_within cs k c f)) in
    kind_once machine u flow number slots k slot.0.kind c d (one.each k slot.0 c slot.1 f) (two.each k slot.0 d slot.1 g)))

pub classes_one : ClassesAreOne
classes_one u machine table other a b =
    let e : a.flow ≡ b.flow = flow_once u a.flow b.flow a.of b.of in
    let slots : table.slots ≡ other.slots = one_table u machine b.flow table.slots other.slots a.long b.long
    (subst (λ (f : Flow). (number : ℕ) (node : UNode) (classes : List Class) → slice_get u.nodes number ≡ Some node → slice_get table.slots number ≡ Some classes
    → AreNodeClasses machine u f number (slots_of u.program node) classes) e a.each) b.each in
    λ i. record { slots = slots i }
