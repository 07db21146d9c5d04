-- No two names are one text, and no name is another one with the suffix of a condition.
use Rattle.std.proofs.Common.{◌≡◌, ℕ, ◌+◌, ◌<◌, Bool, true, List, ◌++◌, length, get_or, take, drop, ◌-◌, eqb, length-append, ◌⊎◌, Option, refl, sym, ◌∙◌, ap, subst, arith}
use Rattle.std.specs.Prelude.{position, unwrap_or}
use Rattle.std.specs.List.{Contains, list_all, range_with_len}
use Rattle.std.specs.Str.{bytes_eq}
use Rattle.std.proofs.lemmas.Bool.{eqb-true}
use Rattle.std.proofs.lemmas.List.{append-nil, get_or_default, take_at, drop_at}
use Rattle.arm_text.specs.declared.mnemonics.Name.{Name}
use Rattle.arm_text.specs.Names.{condition_suffix}
use Rattle.arm_text.specs.Mnemonics.{names, name_text}
use Rattle.arm_text.proofs.Below.{below_all}

-- the number of the name that a text is
abbrev pub number_of : List ℕ → Option ℕ
number_of text = position (λ name. bytes_eq (name_text name) text) names

abbrev number_or_61 : List ℕ → ℕ
number_or_61 text = unwrap_or (number_of text) 61

numbers : (d : Name) → list_all (λ k. eqb (number_or_61 (name_text (get_or names k d))) k) (range_with_len 0 61) ≡ true
numbers d = refl

unmarked : (d : Name) → list_all (λ k. list_all (λ cond. eqb (number_or_61 (name_text (get_or names k d) ++ condition_suffix cond)) 61) (range_with_len 0 14)) (range_with_len 0 61) ≡ true
unmarked d = refl

pub number_is : (k : ℕ) (d : Name) → k < 61 → number_or_61 (name_text (get_or names k d)) ≡ k
number_is k d below = eqb-true _ k (below_all (λ k. eqb (number_or_61 (name_text (get_or names k d))) k) 61 (numbers d) k below)

pub suffixed_is : (k cond : ℕ) (d : Name) → k < 61 → cond < 14 → number_or_61 (name_text (get_or names k d) ++ condition_suffix cond) ≡ 61
suffixed_is k cond d below small =
    eqb-true _ 61 (below_all (λ cond. eqb (number_or_61 (name_text (get_or names k d) ++ condition_suffix cond)) 61) 14
    (below_all (λ k. list_all (λ cond. eqb (number_or_61 (name_text (get_or names k d) ++ condition_suffix cond)) 61) (range_with_len 0 14)) 61 (unmarked d) k below) cond small)

-- a name of the table that is a text, and another one that is it
pub one_name : (i : ℕ) (d name : Name) (text : List ℕ) → i < 61 → Contains names name → text ≡ name_text (get_or names i d) → text ≡ name_text name → get_or names i d ≡ name
one_name i d name text below among here there =
    let first : number_or_61 text ≡ i = ap number_or_61 here ∙ number_is i d below in
    let second : number_or_61 text ≡ among.0 =
    ap number_or_61 there ∙ ap (λ n. number_or_61 (name_text n)) (sym among.2) ∙ number_is among.0 name among.1 in
    let same : i ≡ among.0 = sym first ∙ second in
    get_or_default names i d name below ∙ ap (λ k. get_or names k name) same ∙ among.2

-- a name is no other one with a suffix
pub unsuffixed : (name other : Name) (cond : ℕ) (text : List ℕ) → Contains names name → Contains names other → cond < 14 → text ≡ name_text name → text ≡ name_text other ++ condition_suffix cond → ⊥
unsuffixed name other cond text among too small here there =
    let first : number_or_61 text ≡ among.0 =
    ap number_or_61 here ∙ ap (λ n. number_or_61 (name_text n)) (sym among.2) ∙ number_is among.0 name among.1 in
    let second : number_or_61 text ≡ 61 =
    ap number_or_61 there ∙ ap (λ n. number_or_61 (name_text n ++ condition_suffix cond)) (sym too.2) ∙ suffixed_is too.0 cond other too.1 small in
    let below : among.0 < 61 = among.1 in
    omega arith

two_letters : list_all (λ cond. eqb (length (condition_suffix cond)) 2) (range_with_len 0 14) ≡ true
two_letters = refl

pub suffix_length : (cond : ℕ) → cond < 14 → length (condition_suffix cond) ≡ 2
suffix_length cond small = eqb-true _ 2 (below_all (λ cond. eqb (length (condition_suffix cond)) 2) 14 two_letters cond small)

-- what stands before the last two letters, and these
pub front_is : (n : ℕ) (text name suffix : List ℕ) → text ≡ name ++ suffix → length suffix ≡ 2 → n ≡ length text - 2 → take n text ≡ name
front_is n text name suffix same two at =
    let size : length text ≡ length name + length suffix = ap length same ∙ length-append name suffix in
    ap (take n) same ∙ take_at name suffix n (omega arith)

pub back_is : (n : ℕ) (text name suffix : List ℕ) → text ≡ name ++ suffix → length suffix ≡ 2 → n ≡ length text - 2 → drop n text ≡ suffix
back_is n text name suffix same two at =
    let size : length text ≡ length name + length suffix = ap length same ∙ length-append name suffix in
    ap (drop n) same ∙ drop_at name suffix n (omega arith)

-- the same of a list that is the table
pub one_item : (items : List Name) (i : ℕ) (d name : Name) (text : List ℕ) → items ≡ names → i < 61 → Contains names name → text ≡ name_text (get_or items i d) → text ≡ name_text name → get_or items i d ≡ name
one_item items i d name text table below among here there =
    ap (λ xs. get_or xs i d) table
    ∙ one_name i d name text below among (here ∙ ap (λ xs. name_text (get_or xs i d)) table) there

-- a condition is "always" or has a suffix
pub always_or_less : (cond : ℕ) → cond < 15 → (cond ≡ 14) ⊎ (cond < 14)
always_or_less cond small = grind arith

pub plain : (name : Name) (cond : ℕ) (text : List ℕ) → cond ≡ 14 → text ≡ name_text name ++ condition_suffix cond → text ≡ name_text name
plain name cond text always same =
    same ∙ ap (λ k. name_text name ++ condition_suffix k) always ∙ append-nil (name_text name)
