-- The next price to try, from a closed walk that gains.
use Rattle.std.proofs.Common.{◌≡◌, ℕ, ◌+◌, ◌*◌, ◌^◌, ◌<◌, ◌≤◌, Bool, true, false, cond, List, [], ◌∷◌, ◌++◌, take, length, get_or, refl, sym, ap, subst, ◌∙◌, arith}
use Rattle.std.specs.Prelude.{ℤ, pos, ◌+ℤ◌, ◌≤ℤ◌, ◌<ℤ◌}
use Rattle.std.specs.List.{All}
use Rattle.std.specs.Int.{div_ceil}
use Rattle.std.proofs.lemmas.Int.{ints}
use Rattle.std.proofs.lemmas.Grind.{div_ceil_times}
use Rattle.std.proofs.lemmas.List.{take_more}
use Rattle.std.proofs.lemmas.List.Sums.{sum_by_push, sum_by-cons}
use Rattle.std.proofs.lemmas.List.Elements.{All-nil, All-cons}
use Rattle.std.proofs.Math.Nat.{mul-le-mul_left}
use Rattle.path_graph.specs.declared.graph.TheConstants.{LARGEST}
use Rattle.path_problem.specs.declared.net.Link.{Link}
use Rattle.path_graph.specs.Conditions.{IsWithin}
use Rattle.path_graph.specs.Graph.{weight_along}
use Rattle.path_problem.specs.declared.net.Settlement.{Settlement}
use Rattle.path_problem.specs.declared.net.Settlement.TheVariants.{Settled, Gains}
use Rattle.std.specs.Global.{Vec}
use Rattle.path_problem.specs.Net.{link_at, link_weight, IsLinked, IsShortGain, HasSettled, SettlesOrGains}
use Rattle.path_problem.specs.Least.{plain_weight, backs_of, AreSmall, IsPart, GainsBelow, PaysBelow, IsNextPrice}
use Rattle.path_problem.specs.Window.{weight_limit}

-- what the first links of a walk come to
pub record SlopeSoFar (links : List Link) (walk : List ℕ) (count : ℕ) (weight : ℤ) (backs : ℕ) : Type 0 where
  pub weight_is : weight ≡ weight_along (plain_weight links) (take count walk)
  pub backs_is : backs ≡ backs_of links (take count walk)
  pub small : IsWithin (count * weight_limit (2 ^ 16)) weight
  pub few : backs ≤ count

total_push : (weight : ℕ → ℤ) (walk : List ℕ) (a : ℕ) → weight_along weight (walk ++ a ∷ []) ≡ (weight_along weight walk +ℤ weight a)
total_push weight [] a = omega (arith, ints)
total_push weight (b ∷ walk) a = let rest = total_push weight walk a in omega (arith, ints)

pub slope_more : (links : List Link) (walk : List ℕ) (i : ℕ) (weight weight' : ℤ) (backs backs' : ℕ) → SlopeSoFar links walk i weight backs → AreSmall links → All (λ k. k < length links) walk → i < length walk → weight' ≡ (weight +ℤ plain_weight links (get_or walk i 0)) → backs' ≡ backs + cond {A = ℕ} (link_at links (get_or walk i 0)).back 1 0 → SlopeSoFar links walk (i + 1) weight' backs'
slope_more links walk i weight weight' backs backs' s small all h e q =
    let a = get_or walk i 0 in
    let t = take_more walk i 0 h in
    let one = total_push (plain_weight links) (take i walk) a in
    let two = sum_by_push (λ (k : ℕ). cond {A = ℕ} (link_at links k).back 1 0) (take i walk) a in
    let w = small.each a (all i 0 h) in
    let low = w.low in
    let high = w.high in
    let l = s.small.low in
    let m = s.small.high in
    record {
      weight_is = e ∙ ap (λ z. z +ℤ plain_weight links a) s.weight_is ∙ sym one ∙ ap (weight_along (plain_weight links)) (sym t);
      backs_is = q ∙ ap (λ n. n + cond {A = ℕ} (link_at links a).back 1 0) s.backs_is ∙ sym two ∙ ap (backs_of links) (sym t);
      small = record { low = omega (arith, ints); high = omega (arith, ints) };
      few = let f = s.few in let b = bit_le (link_at links a).back in omega arith;
    }
  where
    bit_le : (b : Bool) → cond {A = ℕ} b 1 0 ≤ 1
    bit_le true = omega arith
    bit_le false = omega arith

-- a walk's weight under a price, and what its back links pay
pub total_at : (links : List Link) (price : ℕ) (walk : List ℕ) → (weight_along (link_weight links price) walk +ℤ pos (price * backs_of links walk)) ≡ weight_along (plain_weight links) walk
total_at links price [] = omega (arith, ints)
total_at links price (i ∷ walk) =
    let rest = total_at links price walk in
    let two = sum_by-cons (λ (k : ℕ). cond {A = ℕ} (link_at links k).back 1 0) i walk in
    let here = paid (link_at links i).back in
    let many : price * backs_of links (i ∷ walk) ≡ price * (cond {A = ℕ} (link_at links i).back 1 0 + backs_of links walk) = ap (λ n. price * n) two in
    omega (arith, ints)
  where
    paid : (b : Bool) → cond {A = ℕ} b price 0 ≡ price * cond {A = ℕ} b 1 0
    paid true = omega arith
    paid false = omega arith

pub linked_within : (links : List Link) (walk : List ℕ) (u v : ℕ) → IsLinked links u walk v → All (λ i. i < length links) walk
linked_within links [] u v h = All-nil (λ i. i < length links)
linked_within links (i ∷ walk) u v h = All-cons (λ j. j < length links) i walk h.0 (linked_within links walk (link_at links i).to v h.2)

pub gain_within : (links : List Link) (price : ℕ) (walk : List ℕ) → IsShortGain links price walk → All (λ i. i < length links) walk
gain_within links price walk s = linked_within links walk s.gain.first s.gain.first s.gain.closed

pub small_links : (links : List Link) (count : ℕ) → IsPart links count → AreSmall links
small_links links count p = record {
  each = λ i h.
      let w = (p.at_price 0 (omega arith)).weights i h in
      let low = w.low in
      let high = w.high in
      let none = no_price (link_at links i).back in
      record { low = omega (arith, ints); high = omega (arith, ints) };
}
  where
    no_price : (b : Bool) → cond {A = ℕ} b 0 0 ≡ 0
    no_price true = refl
    no_price false = refl

pub gain_positive : (links : List Link) (price : ℕ) (walk : List ℕ) → IsShortGain links price walk → pos (price * backs_of links walk) <ℤ weight_along (plain_weight links) walk
gain_positive links price walk s =
    let t = total_at links price walk in
    let g = s.gain.gains in
    omega (arith, ints)

pub above_none : (n : ℕ) (z : ℤ) → pos n <ℤ z → pos 0 <ℤ z
above_none n z h = omega (arith, ints)

-- the walk gains at each price that it does not make up for
pub gains_below : (links : List Link) (price end : ℕ) (walk : List ℕ) → IsShortGain links price walk → PaysBelow (weight_along (plain_weight links) walk) (backs_of links walk) end → GainsBelow links end
gains_below links price end walk s p = record {
  each = λ m h.
      let t = total_at links m walk in
      let l = p.each m h in
      record {
        walk = walk;
        gain = record { first = s.gain.first; closed = s.gain.closed; gains = omega (arith, ints) };
      };
}

-- the next price is a greater one
pub next_greater : (links : List Link) (price next : ℕ) (walk : List ℕ) → IsShortGain links price walk → weight_along (plain_weight links) walk ≤ℤ pos (next * backs_of links walk) → price < next
next_greater links price next walk s e =
    let g = gain_positive links price walk s in
    let less : price * backs_of links walk < next * backs_of links walk = omega (arith, ints) in
    by_size price next (backs_of links walk) less
  where
    by_size : (a b k : ℕ) → a * k < b * k → a < b
    by_size a b k h = grind (arith, mul-le-mul_left)

-- ---- the code's numbers

times_le : (a b k : ℕ) → a ≤ b → a * k ≤ b * k
times_le a b k l = let t = mul-le-mul_left k l in omega arith

pub ceil_below : (weight : ℤ) (whole backs next end : ℕ) → weight ≡ pos whole → 0 < backs → next ≡ div_ceil whole backs → end ≤ next → PaysBelow weight backs end
ceil_below weight whole backs next end e some is h = record {
  each = λ m b.
      let t = div_ceil_times whole backs some in
      let low = t.1 in
      let q : next * backs ≡ div_ceil whole backs * backs = ap (λ n. n * backs) is in
      let less : (m + 1) * backs ≤ next * backs = times_le (m + 1) next backs (omega arith) in
      omega (arith, ints);
}

pub ceil_next : (weight : ℤ) (whole backs divisor next : ℕ) → weight ≡ pos whole → divisor ≡ backs → 0 < backs → next ≡ div_ceil whole divisor → next ≤ LARGEST → IsNextPrice weight backs next
ceil_next weight whole backs divisor next e d some is small =
    let t = div_ceil_times whole backs some in
    let up = t.0 in
    let same = is ∙ ap (λ n. div_ceil whole n) d in
    let q : next * backs ≡ div_ceil whole backs * backs = ap (λ n. n * backs) same in
    record {
      small = small;
      below = ceil_below weight whole backs next next e some same (omega arith);
      enough = omega (arith, ints);
    }

pub ceil_large : (weight : ℤ) (whole backs divisor next : ℕ) → weight ≡ pos whole → divisor ≡ backs → 0 < backs → next ≡ div_ceil whole divisor → LARGEST < next → PaysBelow weight backs (LARGEST + 1)
ceil_large weight whole backs divisor next e d some is large = ceil_below weight whole backs next (LARGEST + 1) e some (is ∙ ap (λ n. div_ceil whole n) d) (omega arith)

-- no back link pays at any price
pub never_pays : (weight : ℤ) (backs end : ℕ) → pos 0 <ℤ weight → backs ≡ 0 → PaysBelow weight backs end
never_pays weight backs end some none = record {
  each = λ m b. let z : m * backs ≡ m * 0 = ap (λ n. m * n) none in omega (arith, ints);
}

-- ---- the answers of callees

pub gains_same : (links : List Link) (price : ℕ) (start : List ℤ) (s : Settlement) (walk : Vec ℕ) → s ≡ Gains walk → SettlesOrGains links price start s → IsShortGain links price walk.items
gains_same links price start s walk e h = subst (λ (t : Settlement). SettlesOrGains links price start t) e h

pub settled_same : (links : List Link) (price : ℕ) (start : List ℤ) (s : Settlement) (values : Vec ℤ) → s ≡ Settled values → SettlesOrGains links price start s → HasSettled links price start values.items
settled_same links price start s values e h = subst (λ (t : Settlement). SettlesOrGains links price start t) e h

pub pays_same : {weight weight' : ℤ} {backs backs' end : ℕ} → weight ≡ weight' → backs ≡ backs' → PaysBelow weight backs end → PaysBelow weight' backs' end
pays_same {weight} {weight'} {backs} {backs'} {end} e q p =
    let F : ℤ → Type 0 = λ z. PaysBelow z backs' end in
    let G : ℕ → Type 0 = λ n. PaysBelow weight n end in
    subst F e (subst G q p)

pub enough_same : {weight weight' : ℤ} {backs backs' : ℕ} (next : ℕ) → weight ≡ weight' → backs ≡ backs' → weight ≤ℤ pos (next * backs) → weight' ≤ℤ pos (next * backs')
enough_same {weight} {weight'} {backs} {backs'} next e q p =
    let F : ℤ → Type 0 = λ z. z ≤ℤ pos (next * backs') in
    let G : ℕ → Type 0 = λ n. weight ≤ℤ pos (next * n) in
    subst F e (subst G q p)
