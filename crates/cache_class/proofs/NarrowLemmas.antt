-- An access is one of the flow of its line's set, and what is told of the line there is told of it in the whole flow.
use Rattle.std.proofs.Common.{◌≡◌, ℕ, zero, suc, ◌<◌, ◌≤◌, Bool, true, List, [], ◌∷◌, length, get_or, take, slice_get, Some, refl, sym, ap, ◌∙◌, subst, inl, inr, arith}
use Rattle.std.specs.Bool.{Decides}
use Rattle.std.specs.List.{filter}
use Rattle.std.proofs.lemmas.Bool.{cases_Bool, eq-eqb}
use Rattle.std.proofs.lemmas.List.{get_or-map, length-map, length-take}
use Rattle.std.proofs.lemmas.Option.{get_or_from_slice_get, same_Some, slice_get_within, slice_get-get_or}
use Rattle.wx_base.specs.declared.machine.Shape.{Shape}
use Rattle.wx_base.specs.Cache.{set_of}
use Rattle.cache_flow.specs.declared.flow.Flow.{Flow}
use Rattle.cache_flow.specs.declared.flow.Move.{Move}
use Rattle.cache_flow.specs.Flows.{Part, accesses_of}
use Rattle.cache_flow.specs.Shown.{IsKept}
use Rattle.cache_kept.specs.declared.stretch.Stretch.{Stretch}
use Rattle.cache_kept.specs.declared.ways.Ways.{Ways}
use Rattle.cache_kept.specs.Parts.{IsStretch}
use Rattle.cache_kept.specs.Ways.{AreWays}
use Rattle.cache_sets.specs.declared.verdict.Verdict.{Verdict}
use Rattle.cache_sets.specs.declared.verdict.Verdict.TheVariants.{Held}
use Rattle.cache_sets.specs.Sets.{is_in_set, of_set, IsSetFlow, place_in_set, SetsTellHeld, SetsTellBarred, SetsTellKept}
use Rattle.cache_sets.specs.Verdicts.{AreVerdicts, IsVerdict}
use Rattle.cache_sets.specs.Verdicts.IsVerdict.{held, barred, unsure}
use Rattle.cache_class.specs.Tables.{IsAccess}

-- ---- lists

filtered_place : (p : ℕ → Bool) (xs : List ℕ) (k x : ℕ) → slice_get xs k ≡ Some x → p x ≡ true → slice_get (filter p xs) (length (filter p (take k xs))) ≡ Some x
filtered_place p [] k x at h = absurd (omega (arith, slice_get_within {A = ℕ} [] k x at))
filtered_place p (y ∷ xs) zero x at h = rw (ap p (same_Some y x at) ∙ h) at
filtered_place p (y ∷ xs) (suc k) x at h = elim (cases_Bool (p y)) [
  | inl e ↦ rw e (filtered_place p xs k x at h)
  | inr e ↦ rw e (filtered_place p xs k x at h)
]

-- no more are picked than there are
filter_short : (p : ℕ → Bool) (xs : List ℕ) → length (filter p xs) ≤ length xs
filter_short p [] = omega arith
filter_short p (x ∷ xs) = elim (cases_Bool (p x)) [
  | inl e ↦ rw e (omega (arith, filter_short p xs))
  | inr e ↦ rw e (omega (arith, filter_short p xs))
]

pub few_in_set : (shape : Shape) (set : ℕ) (lines : List ℕ) (i count : ℕ) → count ≡ length (of_set shape set (take i lines)) → count ≤ i
few_in_set shape set lines i count e = omega (arith, e, filter_short (is_in_set shape set) (take i lines), length-take i lines)

-- ---- the access

module _ (shape : Shape) (flow narrow : Flow) (node place line : ℕ) (of : IsSetFlow shape (set_of shape line) flow narrow) (access : IsAccess flow node place line) where
  pub in_its_set : is_in_set shape (set_of shape line) line ≡ true
  in_its_set = eq-eqb (set_of shape line) (set_of shape line) refl

  pub as_many : length narrow.nodes ≡ length flow.nodes
  as_many = ap length of.nodes ∙ length-map flow.nodes (of_set shape (set_of shape line))

  pub narrow_access : IsAccess narrow node (place_in_set shape (set_of shape line) flow node place) line
  narrow_access = record {
    inside = omega (arith, access.inside, as_many);
    stands =
        ap (λ (xs : List ℕ). slice_get xs (place_in_set shape (set_of shape line) flow node place))
        (ap (λ (ns : List (List ℕ)). get_or ns node []) of.nodes ∙ get_or-map (of_set shape (set_of shape line)) flow.nodes node [] [] access.inside)
        ∙ filtered_place (is_in_set shape (set_of shape line)) (accesses_of flow node) place line access.stands in_its_set;
  }

  -- a verdict of the set's flow is one of the flow
  pub told_through : SetsTellHeld → SetsTellBarred → (verdict : Verdict)
      → IsVerdict shape narrow node (place_in_set shape (set_of shape line) flow node place) line verdict → IsVerdict shape flow node place line verdict
  told_through h b verdict (held is) = held ((h shape (set_of shape line) flow narrow node place line of in_its_set).1 is)
  told_through h b verdict (barred never is) =
      barred (λ x. never ((h shape (set_of shape line) flow narrow node place line of in_its_set).0 x)) ((b shape (set_of shape line) flow narrow node place line of in_its_set).1 is)
  told_through h b verdict (unsure never_held never_barred) =
      unsure (λ x. never_held ((h shape (set_of shape line) flow narrow node place line of in_its_set).0 x))
      (λ x. never_barred ((b shape (set_of shape line) flow narrow node place line of in_its_set).0 x))

  pub verdict_told : SetsTellHeld → SetsTellBarred → (verdicts : List (List Verdict)) (told : List Verdict) → AreVerdicts shape narrow verdicts → slice_get verdicts node ≡ Some told
      → IsVerdict shape flow node place line (get_or told (place_in_set shape (set_of shape line) flow node place) Held)
  verdict_told h b verdicts told are at =
      let of_node = are.each node told at in
      let here = place_in_set shape (set_of shape line) flow node place in
      let inside : here < length told = omega (arith, of_node.long, slice_get_within (accesses_of narrow node) here line narrow_access.stands) in
      told_through h b (get_or told here Held) (of_node.each here line (get_or told here Held) narrow_access.stands (slice_get-get_or told here Held inside))

  -- so is what is kept
  pub kept_told : SetsTellKept → (part : Part) (kept : Bool)
      → Decides kept (IsKept shape narrow part node (place_in_set shape (set_of shape line) flow node place) (get_or (accesses_of narrow node) (place_in_set shape (set_of shape line) flow node place) 0))
      → Decides kept (IsKept shape flow part node place line)
  kept_told k part kept decides =
      let here = place_in_set shape (set_of shape line) flow node place in
      let tells = k shape (set_of shape line) flow narrow part node place line of in_its_set in
      let same : get_or (accesses_of narrow node) here 0 ≡ line = get_or_from_slice_get (accesses_of narrow node) here line 0 narrow_access.stands in
      let there : Decides kept (IsKept shape narrow part node here line) = subst (λ (n : ℕ). Decides kept (IsKept shape narrow part node here n)) same decides in
      (λ yes. tells.1 (there.0 yes), λ is. there.1 (tells.0 is))

  -- what is ready for searches of the flow is ready for those of the set's flow
  pub narrow_ways : (ways : Ways) → AreWays (length flow.nodes) flow.moves ways → AreWays (length narrow.nodes) narrow.moves ways
  narrow_ways ways are = subst (λ (n : ℕ). AreWays n narrow.moves ways) (sym as_many) (subst (λ (ms : List Move). AreWays (length flow.nodes) ms ways) (sym of.moves) are)

  pub narrow_stretch : (stretch : Stretch) → IsStretch (length flow.nodes) flow.moves stretch → IsStretch (length narrow.nodes) narrow.moves stretch
  narrow_stretch stretch is =
      subst (λ (n : ℕ). IsStretch n narrow.moves stretch) (sym as_many) (subst (λ (ms : List Move). IsStretch (length flow.nodes) ms stretch) (sym of.moves) is)

  pub narrow_inside : place_in_set shape (set_of shape line) flow node place < length (accesses_of narrow node)
  narrow_inside = slice_get_within (accesses_of narrow node) (place_in_set shape (set_of shape line) flow node place) line narrow_access.stands
