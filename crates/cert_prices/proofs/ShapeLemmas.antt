-- Charges by their groups, addresses that ascend, and the shape of a certificate from its parts.
use Rattle.std.proofs.Common.{◌≡◌, ℕ, zero, suc, ◌+◌, ◌-◌, ◌<◌, ◌≤◌, Bool, true, false, ◌&&◌, List, [], ◌∷◌, length, map, get_or, slice_get, Some, is_some, refl, sym, ap, subst, ◌∙◌, arith, inl, inr, Decides}
use Rattle.std.specs.List.{All}
use Rattle.std.proofs.Math.ListN.{get_or-map}
use Rattle.std.proofs.lemmas.Bool.{false≢true, cases_lt}
use Rattle.std.proofs.lemmas.List.{length-map}
use Rattle.std.proofs.lemmas.Option.{get_or_from_slice_get, slice_get_within}
use Rattle.flow_ctx.specs.declared.unfolded.Unfolded.{Unfolded}
use Rattle.cache_class.specs.declared.class.Classes.{Classes}
use Rattle.cache_class.specs.declared.group.Group.{Group}
use Rattle.cache_class.specs.Groups.{AreGroups}
use Rattle.wx_base.specs.Facts.{AreAscending}
use Rattle.cert_text.specs.declared.certificate.Certificate.{Certificate}
use Rattle.cert_text.specs.declared.certificate.Charge.{Charge}
use Rattle.cert_text.specs.declared.certificate.TotalPrice.{TotalPrice}
use Rattle.cert_rules.specs.Prices.{totalcounts_at}
use Rattle.cert_rules.specs.Rules.{HasShape, group_of}
use Rattle.cert_prices.specs.Sums.{AreTotalCounts, count_at}
use Rattle.cert_prices.proofs.FoundLemmas.{by_elements}
use Rattle.cert_prices.proofs.ReadLemmas.{same_read}

-- the first charges are of the first groups
pub record FirstMatch (charges : List Charge) (groups : List Group) (i : ℕ) : Type 0 where
  pub each : (k : ℕ) (x : Charge) (y : Group) → slice_get charges k ≡ Some x → slice_get groups k ≡ Some y → k < i → group_of x ≡ y

pub none_match : (charges : List Charge) (groups : List Group) → FirstMatch charges groups 0
none_match charges groups = record { each = λ k x y a b h. absurd (omega (arith, h)) }

pub one_match : (charges : List Charge) (groups : List Group) (i : ℕ) (x : Charge) (y : Group) → slice_get charges i ≡ Some x → slice_get groups i ≡ Some y
    → group_of x ≡ y → FirstMatch charges groups i → FirstMatch charges groups (i + 1)
one_match charges groups i x y here there is were = record {
  each = λ k a b at at' less. elim (cases_lt k i) [
    | inl before ↦ were.each k a b at at' before
    | inr behind ↦
        let same : i ≡ k = omega (arith, less, behind) in
        let charge = get_or_from_slice_get charges k a a at in
        let charge' = get_or_from_slice_get charges i x a here in
        let group = get_or_from_slice_get groups k b b at' in
        let group' = get_or_from_slice_get groups i y b there in
        ap group_of (sym charge ∙ ap (λ n. get_or charges n a) (sym same) ∙ charge') ∙ is
        ∙ sym group' ∙ ap (λ n. get_or groups n b) same ∙ group
  ];
}

-- lists of one length whose places match are one
pub matched : (charges : List Charge) (groups : List Group) → length charges ≡ length groups
    → ((k : ℕ) (x : Charge) (y : Group) → slice_get charges k ≡ Some x → slice_get groups k ≡ Some y → group_of x ≡ y) → map group_of charges ≡ groups
matched [] [] long same = refl
matched [] (y ∷ ys) long same = absurd (omega (arith, long))
matched (x ∷ xs) [] long same = absurd (omega (arith, long))
matched (x ∷ xs) (y ∷ ys) long same =
    let first = same 0 x y refl refl in
    let rest = matched xs ys (omega (arith, long)) (λ k a b e f. same (suc k) a b e f) in
    ap (λ g. g ∷ map group_of xs) first ∙ ap (λ gs. y ∷ gs) rest

pub all_match : (charges : List Charge) (groups : List Group) (i : ℕ) → length charges ≡ length groups → length charges ≤ i → FirstMatch charges groups i
    → map group_of charges ≡ groups
all_match charges groups i long h were = matched charges groups long (λ k x y a b.
    let within = slice_get_within charges k x a in were.each k x y a b (omega (arith, within, h)))

-- where one does not match, the lists are not one
pub no_match : (charges : List Charge) (groups : List Group) (i : ℕ) (x : Charge) (y : Group) → slice_get charges i ≡ Some x → slice_get groups i ≡ Some y
    → (group_of x ≡ y → ⊥) → map group_of charges ≡ groups → ⊥
no_match charges groups i x y here there never e =
    let a : get_or (map group_of charges) i (group_of x) ≡ group_of x = get_or-map group_of charges i x ∙ ap group_of (get_or_from_slice_get charges i x x here) in
    let b : get_or groups i (group_of x) ≡ y = get_or_from_slice_get groups i y (group_of x) there in
    never (sym a ∙ ap (λ gs. get_or gs i (group_of x)) e ∙ b)

-- lists of two lengths are not one
pub no_length : (charges : List Charge) (groups : List Group) → (length charges ≡ length groups → ⊥) → map group_of charges ≡ groups → ⊥
no_length charges groups never e = never (sym (length-map charges group_of) ∙ ap length e)

-- the first totals ascend one by one
pub record FirstAscend (totals : List TotalPrice) (i : ℕ) : Type 0 where
  pub each : (k : ℕ) (d : TotalPrice) → k + 1 < i → k + 1 < length totals → (get_or totals k d).address < (get_or totals (k + 1) d).address

steps : (totals : List TotalPrice) (i : ℕ) → length totals ≤ i → FirstAscend totals i → (a n : ℕ) (d : TotalPrice) → a + n + 1 < length totals
    → (get_or totals a d).address < (get_or totals (a + n + 1) d).address
steps totals i h were a zero d within =
    let e : a + 0 + 1 ≡ a + 1 = omega arith in
    let one = were.each a d (omega (arith, within, h)) (omega (arith, within)) in
    subst (λ n. (get_or totals a d).address < (get_or totals n d).address) (sym e) one
steps totals i h were a (suc n) d within =
    let e : a + suc n + 1 ≡ (a + n + 1) + 1 = omega arith in
    let before = steps totals i h were a n d (omega (arith, within)) in
    let one = were.each (a + n + 1) d (omega (arith, within, h)) (omega (arith, within)) in
    subst (λ n. (get_or totals a d).address < (get_or totals n d).address) (sym e) (omega (arith, before, one))

-- all of them
pub all_ascend : (totals : List TotalPrice) (i : ℕ) → length totals ≤ i → FirstAscend totals i → AreAscending (map (λ t. t.address) totals)
all_ascend totals i h were a b d less within =
    let none : TotalPrice = record { address = d; amount = 0 } in
    let address : TotalPrice → ℕ = λ (t : TotalPrice). t.address in
    let long : length (map address totals) ≡ length totals = length-map totals address in
    let first : get_or (map address totals) a d ≡ (get_or totals a none).address = get_or-map address totals a none in
    let second : get_or (map address totals) b d ≡ (get_or totals b none).address = get_or-map address totals b none in
    let far : a + (b - suc a) + 1 ≡ b = omega (arith, less) in
    let step = steps totals i h were a (b - suc a) none (omega (arith, far, within, long)) in
    let there = subst (λ n. (get_or totals a none).address < (get_or totals n none).address) far step in
    omega (arith, first, second, there)

pub none_ascend : (totals : List TotalPrice) → FirstAscend totals 1
none_ascend totals = record { each = λ k d h within. absurd (omega (arith, h)) }

-- one total more
pub one_ascends : (totals : List TotalPrice) (i : ℕ) (d e : TotalPrice) → 1 ≤ i → i < length totals
    → (get_or totals (i - 1) d).address < (get_or totals i e).address → FirstAscend totals i → FirstAscend totals (i + 1)
one_ascends totals i d e h within less were = record {
  each = λ k f below inside. elim (cases_lt (k + 1) i) [
    | inl before ↦ were.each k f before inside
    | inr behind ↦
        let last : k + 1 ≡ i = omega (arith, below, behind) in
        let first : k ≡ i - 1 = omega (arith, last) in
        let a : get_or totals k f ≡ get_or totals (i - 1) d = ap (λ n. get_or totals n f) first ∙ same_read totals (i - 1) f d (omega (arith, within)) in
        let b : get_or totals (k + 1) f ≡ get_or totals i e = ap (λ n. get_or totals n f) last ∙ same_read totals i f e within in
        let p = ap (λ (t : TotalPrice). t.address) a in
        let q = ap (λ (t : TotalPrice). t.address) b in
        omega (arith, p, q, less)
  ];
}

-- two that do not ascend
pub not_ascending : (totals : List TotalPrice) (i : ℕ) (d e : TotalPrice) → 1 ≤ i → i < length totals
    → (get_or totals i e).address ≤ (get_or totals (i - 1) d).address → AreAscending (map (λ t. t.address) totals) → ⊥
not_ascending totals i d e h within least up =
    let less = by_elements (λ (t : TotalPrice). t.address) totals up (i - 1) i d (omega (arith, h)) within in
    let q = ap (λ (t : TotalPrice). t.address) (same_read totals i d e within) in
    omega (arith, less, q, least)

has_first : (xs : List ℕ) → is_some (slice_get xs 0) ≡ true → 0 < length xs
has_first [] e = absurd (false≢true e)
has_first (x ∷ xs) e = omega arith

first_is : (xs : List ℕ) → 0 < length xs → is_some (slice_get xs 0) ≡ true
first_is [] h = absurd (omega (arith, h))
first_is (x ∷ xs) h = refl

-- a count is there where loops with a total are
pub counted_there : (u : Unfolded) (counts : List (ℕ × ℕ)) (totals : List TotalPrice) → AreTotalCounts u counts
    → All (λ t. is_some (count_at counts t.address) ≡ true) totals → All (λ t. 0 < length (totalcounts_at u t.address)) totals
counted_there u counts totals are all = λ k d h.
    let address = (get_or totals k d).address in
    has_first (totalcounts_at u address) (sym (ap is_some (are.each address)) ∙ all k d h)

pub there_counted : (u : Unfolded) (counts : List (ℕ × ℕ)) (totals : List TotalPrice) → AreTotalCounts u counts
    → All (λ t. 0 < length (totalcounts_at u t.address)) totals → All (λ t. is_some (count_at counts t.address) ≡ true) totals
there_counted u counts totals are all = λ k d h.
    let address = (get_or totals k d).address in
    ap is_some (are.each address) ∙ first_is (totalcounts_at u address) (all k d h)

both : (a b : Bool) → (a && b) ≡ true → (a ≡ true) × (b ≡ true)
both true b e = (refl, e)
both false b e = absurd (false≢true e)

joined : (a b : Bool) → a ≡ true → b ≡ true → (a && b) ≡ true
joined a b p q = subst (λ x. (x && b) ≡ true) (sym p) q

-- charges are those of all groups where they are of a list of these
pub told_groups : (u : Unfolded) (classes : Classes) (charges listed : List Charge) (groups all : List Group) (answer : Bool) → AreGroups u classes all
    → ((others : List Group) → AreGroups u classes others → all ≡ others) → listed ≡ charges → groups ≡ all → Decides answer (map group_of listed ≡ groups)
    → Decides answer (AreGroups u classes (map group_of charges))
told_groups u classes charges listed groups all answer are one first second told = (
  λ e. subst (AreGroups u classes) (sym (ap (map group_of) (sym first) ∙ told.0 e ∙ second)) are,
  λ h. told.1 (ap (map group_of) first ∙ sym (one (map group_of charges) h) ∙ sym second),
)

-- the shape from its parts
pub shape_is : (u : Unfolded) (classes : Classes) (c : Certificate) (totals : List TotalPrice) (counts : List (ℕ × ℕ)) (lengths charges ascending counted : Bool)
    → AreTotalCounts u counts → totals ≡ c.totals
    → Decides lengths ((length c.families ≡ length u.nodes) × (length c.multipliers ≡ length u.loops)) → Decides charges (AreGroups u classes (map group_of c.charges))
    → Decides ascending (AreAscending (map (λ t. t.address) totals)) → Decides counted (All (λ t. is_some (count_at counts t.address) ≡ true) totals)
    → Decides (((lengths && charges) && ascending) && counted) (HasShape u classes c)
shape_is u classes c totals counts lengths charges ascending counted told same first second third fourth = (
  λ e.
      let p = both ((lengths && charges) && ascending) counted e in
      let q = both (lengths && charges) ascending p.0 in
      let r = both lengths charges q.0 in
      let lists = first.0 r.0 in
      record {
        families = lists.0;
        charges = second.0 r.1;
        multipliers = lists.1;
        ascending = subst (λ (ts : List TotalPrice). AreAscending (map (λ t. t.address) ts)) same (third.0 q.1);
        totals = subst (λ (ts : List TotalPrice). All (λ t. 0 < length (totalcounts_at u t.address)) ts) same (counted_there u counts totals told (fourth.0 p.1));
      },
  λ h. joined ((lengths && charges) && ascending) counted
      (joined (lengths && charges) ascending
      (joined lengths charges (first.1 (h.families, h.multipliers)) (second.1 h.charges))
      (third.1 (subst (λ (ts : List TotalPrice). AreAscending (map (λ t. t.address) ts)) (sym same) h.ascending)))
      (fourth.1 (there_counted u counts totals told (subst (λ (ts : List TotalPrice). All (λ t. 0 < length (totalcounts_at u t.address)) ts) (sym same) h.totals))),
)
