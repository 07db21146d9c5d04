-- Bytes tell a start or are refused. What is shown is that it cannot be otherwise, so each step may go on as if every statement held or did not.
use Rattle.std.proofs.lemmas.Bool.{cases_lt}
use Rattle.std.proofs.Common.{◌≡◌, ⊎_elim, ◌==◌, ℕ, zero, suc, ◌+◌, ◌<◌, ◌≤◌, ◌^◌, List, [], ◌∷◌, ◌++◌, length, get_or, take, refl, ap, subst, arith}
use Rattle.std.specs.Prelude.{codes}
use Rattle.std.specs.Option.{unwrap_or}
use Rattle.std.proofs.lemmas.List.FromFn.{length-map-range_with_len}
use Rattle.std.proofs.lemmas.List.Splits.{length-slice_split}
use Rattle.wx_base.specs.declared.image.Image.{Image}
use Rattle.wx_base.specs.declared.machine.Machine.{Machine}
use Rattle.wx_base.specs.Cache.{IsCache, IsSet}
use Rattle.cache_lru.specs.Lru.{IsFirstBad}
use Rattle.start_file.specs.declared.start_item.Item.{Item}
use Rattle.start_file.specs.declared.start_item.Item.TheVariants as item
use Rattle.start_file.specs.declared.start_state.Start.{Start}
use Rattle.start_file.specs.declared.start_error.StartError.{StartError}
use Rattle.start_file.specs.declared.start_error.StartError.TheVariants.{Line, NotACache, NoMemory}
use Rattle.start_file.specs.StartText.{lines_in, place, IsProper, IsStartText, Begins}
use Rattle.start_file.specs.StartSaid.{said, of_set, sets_said}
use Rattle.start_file.specs.StartRefusal.{IsRefusal}
use Rattle.start_laws.specs.Laws.{HoldsBytes, IsWholeStart}
use Rattle.start_laws.proofs.Making.{made, is_made, sixteen}
use Rattle.start_laws.proofs.Starting.{starts}

-- a list with an element as one with a last element
record HasLast (xs : List (List ℕ)) : Type 0 where
  front : List (List ℕ)
  last : List ℕ
  is : xs ≡ front ++ last ∷ []

has_last : (xs : List (List ℕ)) → 0 < length xs → HasLast xs
has_last [] some = absurd (omega (arith, some))
has_last (x ∷ []) some = record { front = []; last = x; is = refl }
has_last (x ∷ y ∷ xs) some = let h = has_last (y ∷ xs) (omega arith) in record { front = x ∷ h.front; last = h.last; is = ap (λ t. x ∷ t) h.is }

-- ---- fronts of start texts
-- some start text begins with no line: that of a head and an end
nothing : (image : Image) (machine : Machine) → Begins image machine.shape []
unfolding place
nothing image machine = record {
  further = codes "wx-start 1" ∷ codes "end" ∷ [];
  items = item.Head ∷ item.End ∷ [];
  are = record {
    start = record {
      begins = refl;
      ends = refl;
      ascend = record { pairs = λ i j d before inside. pair i j d before inside };
      proper = λ k d inside. each k d inside;
    };
    spelled = refl;
  };
}
  where
    pair : (i j : ℕ) (d : Item) → i < j → j < 2 → place (get_or (item.Head ∷ item.End ∷ []) i d) < place (get_or (item.Head ∷ item.End ∷ []) j d)
    pair zero zero d before inside = absurd (omega (arith, before))
    pair zero (suc zero) d before inside = omega arith
    pair zero (suc (suc j)) d before inside = absurd (omega (arith, inside))
    pair (suc i) zero d before inside = absurd (omega (arith, before))
    pair (suc i) (suc zero) d before inside = absurd (omega (arith, before))
    pair (suc i) (suc (suc j)) d before inside = absurd (omega (arith, inside))

    each : (k : ℕ) (d : Item) → k < 2 → IsProper image machine.shape (get_or (item.Head ∷ item.End ∷ []) k d)
    each zero d inside = record { fits = tt; may = tt }
    each (suc zero) d inside = record { fits = tt; may = tt }
    each (suc (suc k)) d inside = absurd (omega (arith, inside))

module _ (image : Image) (machine : Machine) (entry : ℕ) (bytes : List ℕ) (holds : HoldsBytes image) (word : entry < 2 ^ 32) (no_start : (start : Start) → IsWholeStart image machine entry bytes start → ⊥) (no_refusal : (e : StartError) → IsRefusal image machine.shape bytes e → e ≡ NoMemory) where
  -- ---- a start text
  module _ (items : List Item) (is : IsStartText image machine.shape bytes items) where
    no_bad : (set : ℕ) → IsFirstBad machine.shape (sets_said machine.shape items) set → ⊥
    no_bad set bad = let e = no_refusal (NotACache set) (record { items = items; is_text = is; bad = bad }) in cc

    -- each set has lines of the set, since else some set would be the first that has not
    first_sets : (n : ℕ) → n ≤ machine.shape.sets → (((k : ℕ) → k < n → IsSet machine.shape k (get_or (sets_said machine.shape items) k [])) → ⊥) → ⊥
    first_sets zero inside stop = stop (λ k below. absurd (omega (arith, below)))
    first_sets (suc n) inside stop =
        first_sets n (omega (arith, inside))
        (λ earlier.
        no_bad n
        (record {
          within = omega (arith, inside);
          bad = λ here. stop (λ k below. by k below earlier here);
          earlier = earlier;
        }))
      where
        by : (k : ℕ) → k < suc n → ((j : ℕ) → j < n → IsSet machine.shape j (get_or (sets_said machine.shape items) j [])) → IsSet machine.shape n (get_or (sets_said machine.shape items) n []) → IsSet machine.shape k (get_or (sets_said machine.shape items) k [])
        by k below earlier here =
            ⊎_elim (λ less. earlier k less)
            (λ more. let same : n ≡ k = omega (arith, below, more) in subst (λ j. IsSet machine.shape j (get_or (sets_said machine.shape items) j [])) same here)
            (cases_lt k n)

    no_text : ⊥
    no_text = first_sets machine.shape.sets (omega arith) (λ each. no_cache (record { sets = length-map-range_with_len (λ set. unwrap_or (said (of_set set) items) []) 0 machine.shape.sets; each = each }))
      where
        no_cache : IsCache machine.shape (sets_said machine.shape items) → ⊥
        no_cache cache =
            no_start (made entry machine.shape items)
            (record {
              told = record { items = items; is_text = is; is = is_made entry machine.shape items };
              registers = sixteen entry items;
              cache = cache;
              starts = starts image machine entry items (made entry machine.shape items) holds word is.are.start.proper (is_made entry machine.shape items) (sixteen entry items) cache;
            })

  -- ---- lines
  module _ (lines : List (List ℕ)) (rest : List ℕ) (split : lines_in bytes ≡ lines ++ rest ∷ []) where
    no_line : (stand : ℕ) → stand ≤ length lines → Begins image machine.shape (take stand lines) → (stand < length lines → Begins image machine.shape (take (stand + 1) lines) → ⊥) → ⊥
    no_line stand within begins no_further =
        let e = no_refusal (Line (stand + 1)) (record {
          lines = lines;
          rest = rest;
          split = split;
          stand = stand;
          counted = refl;
          within = within;
          begins = begins;
          no_further = no_further;
          no_text = no_text;
        }) in
        cc

    -- the first lines begin a start text, since else some line is the first with which none goes on
    each_front : (n : ℕ) → n ≤ length lines → (Begins image machine.shape (take n lines) → ⊥) → ⊥
    each_front zero inside stop = stop (nothing image machine)
    each_front (suc n) inside stop = each_front n (omega (arith, inside)) (λ begins. no_line n (omega (arith, inside)) begins (λ more further. let next : n + 1 ≡ suc n = omega arith in stop (subst (λ k. Begins image machine.shape (take k lines)) next further)))

    pub no_lines : ⊥
    no_lines = each_front (length lines) (omega arith) (λ begins. no_line (length lines) (omega arith) begins (λ more further. omega (arith, more)))

  pub some_is_due : ⊥
  some_is_due =
      let size = length-slice_split (λ b. b == 10) bytes in
      let h = has_last (lines_in bytes) (omega (arith, size)) in
      no_lines h.front h.last h.is
