-- Edges that were given an amount one by one.
use Rattle.std.proofs.Common.{◌≡◌, ℕ, ◌+◌, ◌<◌, ◌≤◌, Bool, true, false, ◌||◌, cond, eqb, List, [], length, take, set, get_or, refl, sym, ap, subst, ◌∙◌, slice_index}
use Rattle.std.specs.List.{All}
use Rattle.std.proofs.lemmas.Bool.{false≢true, eq-eqb, eqb-true}
use Rattle.std.proofs.lemmas.Grind.{get_or-set_at}
use Rattle.std.proofs.lemmas.List.{length-set, get_or-set_other, take_all}
use Rattle.std.proofs.lemmas.List.Folds.{list_any_more}
use Rattle.wx_base.specs.Monitor.{is_one_of}
use Rattle.cert_prices.specs.Sums.{Sets}
use Rattle.cert_prices.proofs.ReadLemmas.{same_read}

-- before the first
pub none_set : (amount : ℕ) (old : List ℕ) → Sets [] amount old old
none_set amount old = record { long = refl; each = λ edge h. refl }

either : (a b : Bool) (x y : ℕ) → cond (a || b) x y ≡ cond b x (cond a x y)
either true true x y = refl
either true false x y = refl
either false true x y = refl
either false false x y = refl

-- one edge more
pub one_set : (edges : List ℕ) (i edge amount : ℕ) (old now new : List ℕ) → i < length edges → edge ≡ get_or edges i 0 → edge < length now
    → Sets (take i edges) amount old now → new ≡ set now edge amount → Sets (take (i + 1) edges) amount old new
one_set edges i edge amount old now new h is within were made = record {
  long = ap length made ∙ length-set now edge amount ∙ were.long;
  each = λ other below.
      let more : is_one_of (take (i + 1) edges) other ≡ (is_one_of (take i edges) other || eqb edge other)
      = list_any_more (λ a. eqb a other) edges i 0 h ∙ ap (λ n. is_one_of (take i edges) other || eqb n other) (sym is) in
      step other (eqb edge other) refl
      ∙ ap (cond (eqb edge other) amount) (were.each other below)
      ∙ sym (either (is_one_of (take i edges) other) (eqb edge other) amount (slice_index old other))
      ∙ ap (λ b. cond b amount (slice_index old other)) (sym more);
}
  where
    step : (other : ℕ) (b : Bool) → eqb edge other ≡ b → slice_index new other ≡ cond b amount (slice_index now other)
    step other true f = ap (λ xs. slice_index xs other) made ∙ get_or-set_at now edge other amount 0 (sym (eqb-true edge other f)) within
    step other false f =
        ap (λ xs. slice_index xs other) made
        ∙ get_or-set_other now edge other amount 0 (λ e. false≢true (sym f ∙ eq-eqb edge other (sym e)))

-- after the last
pub all_set : (edges : List ℕ) (i amount : ℕ) (old new : List ℕ) → length edges ≤ i → Sets (take i edges) amount old new → Sets edges amount old new
all_set edges i amount old new h were = subst (λ xs. Sets xs amount old new) (take_all i edges h) were

chosen : (b : Bool) (x y limit : ℕ) → x < limit → y < limit → cond b x y < limit
chosen true x y limit h k = h
chosen false x y limit h k = k

-- amounts stay below a limit
pub sets_below : (edges : List ℕ) (amount limit : ℕ) (old new : List ℕ) → Sets edges amount old new → amount < limit → All (λ a. a < limit) old
    → All (λ a. a < limit) new
sets_below edges amount limit old new sets h all = λ k d within.
    let below : k < length old = subst (λ n. k < n) sets.long within in
    let is = sets.each k below in
    let less = chosen (is_one_of edges k) amount (slice_index old k) limit h (all k 0 below) in
    subst (λ n. n < limit) (sym (same_read new k d 0 within ∙ is)) less
