-- No word matches two rows: a test over the table, and what the test says.
use Rattle.std.proofs.Common.{◌≡◌, ℕ, Bool, true, false, not, ◌&&◌, ◌||◌, eqb, List, [], ◌∷◌, ◌⊎◌, inl, inr, ⊎_elim, get_or, refl, sym, ap, ◌∙◌, subst}
use Rattle.std.proofs.lemmas.Bool.{and_parts, and_from, or_cases, or_left, or_right, eqb-true, eqb-false, eq-eqb, not-true, both_ways}
use Rattle.std.specs.List.{list_all, list_any}
use Rattle.wx_base.specs.Bits.{bits}
use Rattle.wx_base.specs.Instruction.{Kind, AluImmediate, AluShift, AluByRegister, Mul, MulLong, SingleImmediate, SingleRegister, HalfImmediate, HalfRegister, Block, Branch, Exchange, Svc, MovPcLr, kinds, Setting, Row, row_of, has, has_rest, meets, matches, condition, no_condition}

-- the place of a row in the table
abbrev place : Kind → ℕ
place AluImmediate = 0
place AluShift = 1
place AluByRegister = 2
place Mul = 3
place MulLong = 4
place SingleImmediate = 5
place SingleRegister = 6
place HalfImmediate = 7
place HalfRegister = 8
place Block = 9
place Branch = 10
place Exchange = 11
place Svc = 12
place MovPcLr = 13

at_place : (kind : Kind) → get_or kinds (place kind) MovPcLr ≡ kind
at_place AluImmediate = refl
at_place AluShift = refl
at_place AluByRegister = refl
at_place Mul = refl
at_place MulLong = refl
at_place SingleImmediate = refl
at_place SingleRegister = refl
at_place HalfImmediate = refl
at_place HalfRegister = refl
at_place Block = refl
at_place Branch = refl
at_place Exchange = refl
at_place Svc = refl
at_place MovPcLr = refl

same_row : (a b : Kind) → eqb (place a) (place b) ≡ true → a ≡ b
same_row a b e = sym (at_place a) ∙ ap (λ (n : ℕ). get_or kinds n MovPcLr) (eqb-true _ _ e) ∙ at_place b

-- two settings of the same bits
abbrev same_bits : Setting → Setting → Bool
same_bits s t = eqb s.high t.high && eqb s.low t.low

-- settings that exclude each other, and settings that are one
abbrev excludes : Setting → Setting → Bool
excludes s t = same_bits s t && not (eqb s.value t.value)

abbrev is_same : Setting → Setting → Bool
is_same s t = same_bits s t && eqb s.value t.value

-- a row bars what another has
abbrev bars : Row → Row → Bool
bars a b = list_any (λ settings. list_all (λ s. list_any (is_same s) b.fixed) settings) a.barred

-- the test that tells two rows apart
abbrev differs : Row → Row → Bool
differs a b = list_any (λ s. list_any (excludes s) b.fixed) a.fixed || (bars a b || bars b a)

-- the table passes it
abbrev tells : Kind → Kind → Bool
tells a b = eqb (place a) (place b) || differs (row_of a) (row_of b)

table_passes : list_all (λ a. list_all (tells a) kinds) kinds ≡ true
table_passes = refl

Among : Kind → List Kind → Type 0
Among kind [] = ⊥
Among kind (k ∷ ks) = (k ≡ kind) ⊎ Among kind ks

passes : (test : Kind → Bool) (ks : List Kind) (kind : Kind) → Among kind ks → list_all test ks ≡ true → test kind ≡ true
unfolding Among
passes test [] kind m e = absurd m
passes test (k ∷ ks) kind (inl is) e = subst (λ x. test x ≡ true) is (and_parts (test k) (list_all test ks) e).0
passes test (k ∷ ks) kind (inr m) e = passes test ks kind m (and_parts (test k) (list_all test ks) e).1

in_table : (kind : Kind) → Among kind kinds
unfolding Among
in_table AluImmediate = inl refl
in_table AluShift = inr (inl refl)
in_table AluByRegister = inr (inr (inl refl))
in_table Mul = inr (inr (inr (inl refl)))
in_table MulLong = inr (inr (inr (inr (inl refl))))
in_table SingleImmediate = inr (inr (inr (inr (inr (inl refl)))))
in_table SingleRegister = inr (inr (inr (inr (inr (inr (inl refl))))))
in_table HalfImmediate = inr (inr (inr (inr (inr (inr (inr (inl refl)))))))
in_table HalfRegister = inr (inr (inr (inr (inr (inr (inr (inr (inl refl))))))))
in_table Block = inr (inr (inr (inr (inr (inr (inr (inr (inr (inl refl)))))))))
in_table Branch = inr (inr (inr (inr (inr (inr (inr (inr (inr (inr (inl refl))))))))))
in_table Exchange = inr (inr (inr (inr (inr (inr (inr (inr (inr (inr (inr (inl refl)))))))))))
in_table Svc = inr (inr (inr (inr (inr (inr (inr (inr (inr (inr (inr (inr (inl refl))))))))))))
in_table MovPcLr = inr (inr (inr (inr (inr (inr (inr (inr (inr (inr (inr (inr (inr (inl refl)))))))))))))

-- what is among settings that all hold, holds
any_of_all : (p q : Setting → Bool) (settings : List Setting) → list_all p settings ≡ true → list_any q settings ≡ true → (s : Setting) × ((p s ≡ true) × (q s ≡ true))
any_of_all p q [] a e = cc
any_of_all p q (s ∷ settings) a e =
    let parts = and_parts (p s) (list_all p settings) a in
    ⊎_elim (λ h. (s, (parts.0, h))) (λ h. any_of_all p q settings parts.1 h) (or_cases (q s) (list_any q settings) e)

same_bits_hold : (word : ℕ) (s t : Setting) → same_bits s t ≡ true → bits s.high s.low word ≡ bits t.high t.low word
same_bits_hold word s t e =
    let p = and_parts (eqb s.high t.high) (eqb s.low t.low) e in
    let high = eqb-true _ _ p.0 in
    let low = eqb-true _ _ p.1 in
    ap (λ (h : ℕ). bits h s.low word) high ∙ ap (λ (l : ℕ). bits t.high l word) low

excluded : (word : ℕ) (s t : Setting) → has word s ≡ true → has word t ≡ true → excludes s t ≡ true → ⊥
excluded word s t a b e =
    let p = and_parts (same_bits s t) (not (eqb s.value t.value)) e in
    eqb-false s.value t.value (not-true _ p.1) (sym (eqb-true _ _ a) ∙ same_bits_hold word s t p.0 ∙ eqb-true _ _ b)

carried : (word : ℕ) (s t : Setting) → has word t ≡ true → is_same s t ≡ true → has word s ≡ true
carried word s t b e =
    let p = and_parts (same_bits s t) (eqb s.value t.value) e in
    eq-eqb _ _ (same_bits_hold word s t p.0 ∙ eqb-true _ _ b ∙ sym (eqb-true _ _ p.1))

all_carried : (word : ℕ) (fixed settings : List Setting) → list_all (has word) fixed ≡ true → list_all (λ s. list_any (is_same s) fixed) settings ≡ true → list_all (has word) settings ≡ true
all_carried word fixed [] a e = refl
all_carried word fixed (s ∷ settings) a e =
    let p = and_parts (list_any (is_same s) fixed) (list_all (λ t. list_any (is_same t) fixed) settings) e in
    let t = any_of_all (has word) (is_same s) fixed a p.0 in
    and_from (has word s) (list_all (has word) settings) (carried word s t.0 t.1.0 t.1.1) (all_carried word fixed settings a p.1)

some_barred : (word : ℕ) (fixed : List Setting) (barred : List (List Setting)) → list_all (has word) fixed ≡ true → list_any (λ settings. list_all (λ s. list_any (is_same s) fixed) settings) barred ≡ true → list_any (λ settings. list_all (has word) settings) barred ≡ true
some_barred word fixed [] a e = cc
some_barred word fixed (settings ∷ barred) a e =
    ⊎_elim
    (λ h. or_left (list_all (has word) settings) _ (all_carried word fixed settings a h))
    (λ h. or_right (list_all (has word) settings) _ (some_barred word fixed barred a h))
    (or_cases (list_all (λ s. list_any (is_same s) fixed) settings) _ e)

-- what a word that meets a row has, and what it has not
record Met (word : ℕ) (row : Row) : Type 0 where
  fixed : list_all (has word) row.fixed ≡ true
  clear : list_any (λ settings. list_all (has word) settings) row.barred ≡ false

met : (word : ℕ) (row : Row) → meets word row ≡ true → Met word row
met word row e =
    let p = and_parts (list_all (has word) row.fixed) (has_rest word row) e in
    record {
      fixed = p.0;
      clear = not-true _ (and_parts (not (list_any (λ settings. list_all (has word) settings) row.barred)) (row.also word) p.1).0;
    }

barred_by : (word : ℕ) (a b : Row) → Met word a → Met word b → bars a b ≡ true → ⊥
barred_by word a b m n e = both_ways _ m.clear (some_barred word b.fixed a.barred n.fixed e)

some_excluded : (word : ℕ) (xs ys : List Setting) → list_all (has word) xs ≡ true → list_all (has word) ys ≡ true → list_any (λ s. list_any (excludes s) ys) xs ≡ true → ⊥
some_excluded word xs ys a b e =
    let s = any_of_all (has word) (λ s. list_any (excludes s) ys) xs a e in
    let t = any_of_all (has word) (excludes s.0) ys b s.1.1 in
    excluded word s.0 t.0 s.1.0 t.1.0 t.1.1

rows_exclude : (word : ℕ) (a b : Row) → Met word a → Met word b → differs a b ≡ true → ⊥
rows_exclude word a b m n e =
    ⊎_elim
    (some_excluded word a.fixed b.fixed m.fixed n.fixed)
    (λ h. ⊎_elim (barred_by word a b m n) (barred_by word b a n m) (or_cases (bars a b) (bars b a) h))
    (or_cases (list_any (λ s. list_any (excludes s) b.fixed) a.fixed) (bars a b || bars b a) e)

pub apart : (word : ℕ) (a b : Kind) → matches a word ≡ true → matches b word ≡ true → a ≡ b
apart word a b p q =
    let m = met word (row_of a) (and_parts (not (eqb (condition word) no_condition)) (meets word (row_of a)) p).1 in
    let n = met word (row_of b) (and_parts (not (eqb (condition word) no_condition)) (meets word (row_of b)) q).1 in
    let told : tells a b ≡ true = passes (tells a) kinds b (in_table b) (passes (λ x. list_all (tells x) kinds) kinds a (in_table a) table_passes) in
    ⊎_elim (same_row a b) (λ h. absurd (rows_exclude word (row_of a) (row_of b) m n h))
    (or_cases (eqb (place a) (place b)) (differs (row_of a) (row_of b)) told)
