-- Lines in their order, and one that stands behind them.
use Rattle.std.proofs.Common.{◌≡◌, ℕ, ◌-◌, ◌<◌, ◌⊎◌, inl, inr, true, List, [], ◌∷◌, ◌++◌, length, get_or, Some, ltb, refl, sym, ◌∙◌, ap, arith}
use Rattle.std.proofs.lemmas.Bool.{cases_lt, ltb-true}
use Rattle.std.proofs.lemmas.Bool.Decides.{nat_tests}
use Rattle.std.proofs.lemmas.Option.{none-some, slice_get_within, get_or_from_slice_get, slice_get-get_or}
use Rattle.std.proofs.lemmas.List.Quantifiers.{all_pairs_push}
use Rattle.std.specs.List.{slice_get}
use Rattle.std.specs.Bool.{Decides}
use Rattle.wx_base.specs.declared.image.Image.{Image}
use Rattle.wx_base.specs.declared.machine.Shape.{Shape}
use Rattle.start_file.specs.declared.start_item.Item.{Item}
use Rattle.start_file.specs.declared.start_item.Item.TheVariants as item
use Rattle.start_file.specs.StartText.{place, AreAscending, IsProper}
use Rattle.start_file.specs.StartReading.{Follows}

-- an element does not depend on what stands past the end
pub same_read : (items : List Item) (k : ℕ) (d e : Item) → k < length items → get_or items k d ≡ get_or items k e
same_read items k d e inside = get_or_from_slice_get items k (get_or items k e) d (slice_get-get_or items k e inside)

less_true : (a b : ℕ) → a < b → ltb a b ≡ true
less_true a b h = grind (arith, nat_tests)

not_empty : (items : List Item) (k : ℕ) (last : Item) → items ≡ [] → Some last ≡ slice_get items k → ⊥
not_empty items k last empty is = none-some last (sym (is ∙ ap (λ l. slice_get l k) empty))

-- a line stands behind others if it stands behind the last of them
pub behind_last : (items : List Item) (last next : Item) → AreAscending items → Some last ≡ slice_get items (length items - 1) → place last < place next → Follows items next
behind_last items last next ascend is below = record {
  above = λ k d inside. elim (cases_lt k (length items - 1)) [
    | inl before ↦
        let pair : place (get_or items k d) < place (get_or items (length items - 1) d) = ascend.pairs k (length items - 1) d before (omega (arith, inside)) in
        let there : get_or items (length items - 1) d ≡ last = get_or_from_slice_get items (length items - 1) last d (sym is) in
        let same : place (get_or items (length items - 1) d) ≡ place last = ap place there in
        omega (arith, pair, same, below)
    | inr at ↦
        let k_is : k ≡ length items - 1 = omega (arith, inside, at) in
        let same : place (get_or items k d) ≡ place last = ap (λ j. place (get_or items j d)) k_is ∙ ap place (get_or_from_slice_get items (length items - 1) last d (sym is)) in
        omega (arith, same, below)
  ];
  head = λ empty. absurd (not_empty items (length items - 1) last empty is);
}

pub follows_last : (items : List Item) (last next : Item) → AreAscending items → Some last ≡ slice_get items (length items - 1) → Decides (ltb (place last) (place next)) (Follows items next)
follows_last items last next ascend is = (
  λ less. behind_last items last next ascend is (ltb-true _ _ less),
  λ follows.
      let inside : length items - 1 < length items = slice_get_within items (length items - 1) last (sym is) in
      let above : place (get_or items (length items - 1) last) < place next = follows.above (length items - 1) last inside in
      let same : place (get_or items (length items - 1) last) ≡ place last = ap place (get_or_from_slice_get items (length items - 1) last last (sym is)) in
      less_true _ _ (omega (arith, above, same)),
)

pub ascending_none : AreAscending []
ascending_none = record { pairs = λ i j d before inside. absurd (omega (arith, inside)) }

pub ascending_more : (items : List Item) (next : Item) → AreAscending items → Follows items next → AreAscending (items ++ next ∷ [])
ascending_more items next ascend follows = record { pairs = all_pairs_push (λ a b. place a < place b) items next ascend.pairs follows.above }

-- a line alone is the head
pub begins_more : (items : List Item) (next : Item) → (0 < length items → slice_get items 0 ≡ Some item.Head) → Follows items next → slice_get (items ++ next ∷ []) 0 ≡ Some item.Head
begins_more [] next begins follows = ap Some (follows.head refl)
begins_more (x ∷ more) next begins follows = begins (omega arith)

-- a line is the end or stands before it
pub ended_or : (image : Image) (shape : Shape) (x : Item) → IsProper image shape x → (x ≡ item.End) ⊎ (place x < place item.End)
unfolding place
ended_or image shape item.Head proper = inr (omega arith)
ended_or image shape (item.Register number value) proper = inr (omega (arith, proper.fits.0))
ended_or image shape (item.Flags flags) proper = inr (omega arith)
ended_or image shape (item.Fill byte) proper = inr (omega arith)
ended_or image shape (item.Byte address byte) proper = inr (omega (arith, proper.fits.0))
ended_or image shape (item.Set set lines) proper = inr (omega (arith, proper.fits.0))
ended_or image shape item.End proper = inl refl

pub head_before_end : place item.Head < place item.End
unfolding place
head_before_end = omega arith
