-- The calls on bounds are those of the definitions.
use Rattle.std.proofs.Common.{◌≡◌, ℕ, ◌+◌, ◌<◌, ◌≤◌, Bool, true, false, cond, ◌&&◌, List, length, get_or, min, max, replicate, inl, inr, refl, sym, ap, ◌∙◌, arith, eqb, ltb, subst}
use Rattle.std.proofs.Math.Path.{fun_ext}
use Rattle.std.proofs.lemmas.Bool.{cases_Bool, le-ltb, true≢false}
use Rattle.std.proofs.lemmas.List.{get_or_default, get_or-replicate, length-replicate}
use Rattle.std.proofs.lemmas.List.Elements.{All-get_or, All-from_get_or, All-same, All-replicate}
use Rattle.std.specs.Bool.{Decides}
use Rattle.std.specs.Global.{Vec}
use Rattle.std.specs.Vec.{with_items}
use Rattle.std.proofs.lemmas.List.{with_items_is}
use Rattle.std.specs.List.{All}
use Rattle.wx_base.specs.declared.machine.Shape.{Shape}
use Rattle.wx_base.specs.Facts.{AreAscending}
use Rattle.wx_base.specs.CacheStates.{is_rival, must_accessed, may_accessed, MustCovers, MayCovers}
use Rattle.cache_ages.specs.Bounds.{beside, is_one_of, aged_as, among}
use Rattle.cache_ages.proofs.Beside.{beside_absent, beside_at, beside_listed, beside_each, apart_from, aged_within, aged_may}

module _ (outside : ℕ) (lines : List ℕ) where
  -- ages that follow place by place from those before
  pub mapped : (f : ℕ → ℕ → ℕ) (before after : List ℕ) → length before ≡ length lines → length after ≡ length lines
      → ((k : ℕ) → k < length lines → get_or after k 0 ≡ f (get_or lines k 0) (get_or before k 0))
      → (line : ℕ) → is_one_of lines line ≡ true → beside outside lines after line ≡ f line (beside outside lines before line)
  mapped f before after b a each line h =
      beside_listed (λ n x y _. y ≡ f n x) outside outside outside lines before after after b a a
      (λ k lt. get_or_default after k outside 0 (omega arith) ∙ each k lt ∙ ap (f (get_or lines k 0)) (get_or_default before k 0 outside (omega arith))) line h

  -- ages that follow place by place from those of two states
  pub joined : (f : ℕ → ℕ → ℕ) (first second after : List ℕ) → f outside outside ≡ outside
      → length first ≡ length lines → length second ≡ length lines → length after ≡ length lines
      → ((k : ℕ) → k < length lines → get_or after k 0 ≡ f (get_or first k 0) (get_or second k 0))
      → beside outside lines after ≡ (λ line. f (beside outside lines first line) (beside outside lines second line))
  joined f first second after e b d a each = fun_ext λ line. elim (cases_Bool (is_one_of lines line)) [
    | inl one ↦
        beside_listed (λ n x y z. z ≡ f x y) outside outside outside lines first second after b d a
        (λ k lt. get_or_default after k outside 0 (omega arith) ∙ each k lt
        ∙ ap (λ x. f x (get_or second k 0)) (get_or_default first k 0 outside (omega arith)) ∙ ap (f (get_or first k outside)) (get_or_default second k 0 outside (omega arith))) line one
    | inr none ↦ rw (beside_absent outside lines after line none, beside_absent outside lines first line none, beside_absent outside lines second line none) (sym e)
  ]

  -- whether one state's ages are below another's, told by places
  pub below_decided : (first second : List ℕ) (r : Bool) → AreAscending lines → length first ≡ length lines → length second ≡ length lines
      → Decides r ((k : ℕ) → k < length lines → get_or first k 0 ≤ get_or second k 0)
      → Decides r ((line : ℕ) → beside outside lines first line ≤ beside outside lines second line)
  below_decided first second r up b d decides = (
    λ yes line. elim (cases_Bool (is_one_of lines line)) [
      | inl one ↦ beside_listed (λ n x y _. x ≤ y) outside outside outside lines first second second b d d
          (λ k lt. omega (arith, decides.0 yes k lt, get_or_default first k 0 outside (omega arith), get_or_default second k 0 outside (omega arith))) line one
      | inr none ↦ rw (beside_absent outside lines first line none, beside_absent outside lines second line none) (omega arith)
    ],
    λ all. decides.1 (λ k lt. omega (
      arith,
      all (get_or lines k 0),
      beside_at outside lines first k (get_or lines k 0) up lt refl b,
      beside_at outside lines second k (get_or lines k 0) up lt refl d,
      get_or_default first k 0 outside (omega arith),
      get_or_default second k 0 outside (omega arith),
    )),
  )

-- a line that is no younger than `below` keeps its age
unaged : (shape : Shape) (line below other age : ℕ) → eqb other line ≡ false → below ≤ age → aged_as shape line below other age ≡ age
unaged shape line below other age apart old = inner (eqb other line) (is_rival shape other line) apart
  where
    inner : (same rival : Bool) → same ≡ false → cond same 0 (cond (rival && ltb age below) (age + 1) age) ≡ age
    inner true rival e = absurd (true≢false e)
    inner false false e = refl
    inner false true e = rw (le-ltb age below old) refl

module _ (shape : Shape) (lines before after : List ℕ) (line below : ℕ) (b : length before ≡ length lines) (a : length after ≡ length lines)
    (within : All (λ age. age ≤ shape.ways) before) (one : is_one_of lines line ≡ true)
    (each : (k : ℕ) → k < length lines → get_or after k 0 ≡ aged_as shape line below (get_or lines k 0) (get_or before k 0)) where
  -- no age passes the number of ways
  pub aged_all_within : below ≤ shape.ways → All (λ age. age ≤ shape.ways) after
  aged_all_within low = All-from_get_or (λ age. age ≤ shape.ways) after 0
      (λ k lt. omega (
        arith,
        each k (omega arith),
        aged_within shape line below (get_or lines k 0) (get_or before k 0) shape.ways low
            (All-get_or (λ age. age ≤ shape.ways) before k 0 (omega arith) within),
      ))

  -- an access in a must state
  pub must_aged : below ≡ beside shape.ways lines before line → beside shape.ways lines after ≡ must_accessed shape (beside shape.ways lines before) line
  must_aged e = fun_ext λ other. elim (cases_Bool (is_one_of lines other)) [
    | inl listed ↦ mapped shape.ways lines (λ n age. aged_as shape line below n age) before after b a each other listed
        ∙ ap (λ n. aged_as shape line n other (beside shape.ways lines before other)) e
    | inr none ↦
        let low : beside shape.ways lines before line ≤ beside shape.ways lines before other =
        omega (arith, beside_absent shape.ways lines before other none, beside_each shape.ways (λ age. age ≤ shape.ways) lines before line (omega arith) within) in
        beside_absent shape.ways lines after other none ∙ sym (beside_absent shape.ways lines before other none)
        ∙ sym (unaged shape line (beside shape.ways lines before line) other (beside shape.ways lines before other) (apart_from lines line other one none) low)
  ]

  -- an access in a may state
  pub may_aged : below ≡ min (beside 0 lines before line + 1) shape.ways → beside 0 lines after ≡ among lines (may_accessed shape (beside 0 lines before) line)
  may_aged e = fun_ext λ other. elim (cases_Bool (is_one_of lines other)) [
    | inl listed ↦ rw listed (mapped 0 lines (λ n age. aged_as shape line below n age) before after b a each other listed
        ∙ ap (λ n. aged_as shape line n other (beside 0 lines before other)) e
        ∙ aged_may shape line (beside 0 lines before line) other (beside 0 lines before other) shape.ways
        (beside_each 0 (λ age. age ≤ shape.ways) lines before other (omega arith) within))
    | inr none ↦ rw none (beside_absent 0 lines after other none)
  ]

-- a Vec whose items were all written
pub written : {X : Type 0} (v : Vec X) (new : List X) → length new ≡ length v.items → (with_items v new).items ≡ new
written v new same = with_items_is v new (same ∙ sym v.ok.0)

pub max_same : (n : ℕ) → max n n ≡ n
max_same n = omega arith

pub min_same : (n : ℕ) → min n n ≡ n
min_same n = omega arith

-- a value of the same lines
pub same_beside : {X : Type 0} (x y : X) (lines others : List ℕ) (values : List X) → y ≡ x → others ≡ lines → beside x lines values ≡ beside y others values
same_beside x y lines others values e f = λ i. beside (sym e i) (sym f i) values

-- equal values beside all lines
pub fresh : (value n : ℕ) (lines values : List ℕ) → values ≡ replicate n value → beside value lines values ≡ (λ line. value)
fresh value n lines values e = fun_ext λ line.
    beside_each value (λ x. x ≡ value) lines values line refl (All-same (λ x. x ≡ value) values (replicate n value) e (All-replicate (λ x. x ≡ value) n value refl))

-- one value beside each listed line
pub filled : (outside value n : ℕ) (lines its values : List ℕ) → its ≡ lines → length lines ≡ n → values ≡ replicate n value
    → (line : ℕ) → is_one_of lines line ≡ true → beside outside its values line ≡ value
filled outside value n lines its values e l v line h =
    let long : length (replicate n value) ≡ length lines = length-replicate n value ∙ sym l in
    rw (e, v) (beside_listed (λ _ x _ _. x ≡ value) outside outside outside lines (replicate n value) (replicate n value) (replicate n value)
    long long long (λ k lt. get_or-replicate n k value outside (omega arith)) line h)

-- a test of all places decides whether a second state covers a first
pub must_decided : (ways others : ℕ) (lines its : List ℕ) (first second : List ℕ) (r : Bool) → AreAscending lines
    → length first ≡ length lines → length second ≡ length its → others ≡ ways → its ≡ lines
    → Decides r ((k : ℕ) → k < length second → get_or first k 0 ≤ get_or second k 0)
    → Decides r (MustCovers (beside others its second) (beside ways lines first))
must_decided ways others lines its first second r up b d e f decides =
    let same : beside ways lines second ≡ beside others its second = same_beside ways others lines its second e f in
    let count : length second ≡ length lines = d ∙ ap length f in
    let all = below_decided ways lines first second r up b count (λ t k lt. decides.0 t k (omega arith), λ h. decides.1 (λ k lt. h k (omega arith))) in (
      λ t. record { each = λ line. subst (λ (ages : ℕ → ℕ). beside ways lines first line ≤ ages line) same (all.0 t line) },
      λ covers. all.1 (λ line. subst (λ (ages : ℕ → ℕ). beside ways lines first line ≤ ages line) (sym same) (covers.each line)),
    )

pub may_decided : (lines its : List ℕ) (first second : List ℕ) (r : Bool) → AreAscending lines
    → length first ≡ length lines → length second ≡ length its → its ≡ lines
    → Decides r ((k : ℕ) → k < length first → get_or second k 0 ≤ get_or first k 0)
    → Decides r (MayCovers (beside 0 its second) (beside 0 lines first))
may_decided lines its first second r up b d f decides =
    let same : beside 0 lines second ≡ beside 0 its second = same_beside {X = ℕ} 0 0 lines its second refl f in
    let count : length second ≡ length lines = d ∙ ap length f in
    let all = below_decided 0 lines second first r up count b (λ t k lt. decides.0 t k (omega arith), λ h. decides.1 (λ k lt. h k (omega arith))) in (
      λ t. record { each = λ line. subst (λ (ages : ℕ → ℕ). ages line ≤ beside 0 lines first line) same (all.0 t line) },
      λ covers. all.1 (λ line. subst (λ (ages : ℕ → ℕ). ages line ≤ beside 0 lines first line) (sym same) (covers.each line)),
    )
