-- Rows of entries, one row written at a time.
use Rattle.std.proofs.Common.{◌≡◌, ℕ, ◌+◌, ◌<◌, ◌≤◌, Bool, List, [], length, get_or, set, inl, inr, sym, ap, subst, ◌∙◌, arith, get_or-set_same, get_or-set_other}
use Rattle.std.proofs.lemmas.Bool.{cases_eq}
use Rattle.std.proofs.lemmas.List.{get_or-map, map-set, length-map}
use Rattle.std.proofs.lemmas.List.Elements.{All-set, All-get_or}
use Rattle.std.specs.Global.{Vec}
use Rattle.std.specs.List.{All}
use Rattle.cache_pers.specs.Rows.{rows_of}
use Rattle.cache_pers.specs.Stays.{is_set_at, is_set_in}

-- the row at a place
pub row_at : (rows : List (Vec Bool)) (i : ℕ) (row : Vec Bool) → i < length rows → row ≡ get_or rows i row → get_or (rows_of rows) i [] ≡ row.items
row_at rows i row h e = get_or-map (λ (row : Vec Bool). row.items) rows i row [] h ∙ ap (λ (row : Vec Bool). row.items) (sym e)

pub count_of : (rows : List (Vec Bool)) → length (rows_of rows) ≡ length rows
count_of rows = length-map rows (λ (row : Vec Bool). row.items)

-- the rows where one was written
pub rows_set : (rows : List (Vec Bool)) (i : ℕ) (row : Vec Bool) → rows_of (set rows i row) ≡ set (rows_of rows) i row.items
rows_set rows i row = map-set (λ (row : Vec Bool). row.items) rows i row

-- a row of rows of one length
pub row_length : (rows : List (Vec Bool)) (i n : ℕ) (row : Vec Bool) → i < length rows → row ≡ get_or rows i row → All (λ row. length row ≡ n) (rows_of rows) → length row.items ≡ n
row_length rows i n row h e all =
    ap length (sym (row_at rows i row h e)) ∙ All-get_or (λ row. length row ≡ n) (rows_of rows) i [] (omega (arith, count_of rows)) all

pub square_set : (rows : List (Vec Bool)) (i n : ℕ) (row : Vec Bool) → length row.items ≡ n → All (λ row. length row ≡ n) (rows_of rows) → All (λ row. length row ≡ n) (rows_of (set rows i row))
square_set rows i n row e all = rw (rows_set rows i row) (All-set (λ row. length row ≡ n) (rows_of rows) i row.items e all)

module _ (rows : List (Vec Bool)) (i : ℕ) (old row : Vec Bool) (h : i < length rows) (e : old ≡ get_or rows i old) where
  -- the row itself
  pub set_here : (k : ℕ) → is_set_in (rows_of (set rows i row)) i k ≡ is_set_at row.items k
  set_here k =
      let within : i < length (rows_of rows) = omega (arith, count_of rows) in
      ap (λ all. is_set_in all i k) (rows_set rows i row) ∙ ap (λ one. is_set_at one k) (get_or-set_same (rows_of rows) i row.items [] within)

  -- another row
  pub set_there : (j k : ℕ) → (j ≡ i → ⊥) → is_set_in (rows_of (set rows i row)) j k ≡ is_set_in (rows_of rows) j k
  set_there j k ne = ap (λ all. is_set_in all j k) (rows_set rows i row) ∙ ap (λ one. is_set_at one k) (get_or-set_other (rows_of rows) i j row.items [] ne)

  -- what holds of the rows so far holds of one more
  pub set_done : (F : ℕ → ℕ → Bool → Bool) (initial : List (Vec Bool)) → ((k : ℕ) → is_set_at row.items k ≡ F i k (is_set_at old.items k))
      → ((j k : ℕ) → j < i → is_set_in (rows_of rows) j k ≡ F j k (is_set_in (rows_of initial) j k))
      → ((j k : ℕ) → i ≤ j → is_set_in (rows_of rows) j k ≡ is_set_in (rows_of initial) j k)
      → (j k : ℕ) → j < i + 1 → is_set_in (rows_of (set rows i row)) j k ≡ F j k (is_set_in (rows_of initial) j k)
  set_done F initial one done rest j k lt = elim (cases_eq j i) [
    | inl same ↦
        let here : is_set_at old.items k ≡ is_set_in (rows_of initial) i k = ap (λ one. is_set_at one k) (sym (row_at rows i old h e)) ∙ rest i k (omega arith) in
        subst (λ (n : ℕ). is_set_in (rows_of (set rows i row)) n k ≡ F n k (is_set_in (rows_of initial) n k)) (sym same) (set_here k ∙ one k ∙ ap (F i k) here)
    | inr ne ↦ set_there j k ne ∙ done j k (omega (arith, ne))
  ]

  pub set_rest : (initial : List (Vec Bool)) → ((j k : ℕ) → i ≤ j → is_set_in (rows_of rows) j k ≡ is_set_in (rows_of initial) j k)
      → (j k : ℕ) → i + 1 ≤ j → is_set_in (rows_of (set rows i row)) j k ≡ is_set_in (rows_of initial) j k
  set_rest initial rest j k lt = set_there j k (λ same. omega arith) ∙ rest j k (omega arith)
