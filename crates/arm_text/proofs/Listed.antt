-- The text of a list grows by its highest register.
use Rattle.std.proofs.Common.{◌≡◌, ℕ, zero, suc, ◌+◌, ◌-◌, ◌*◌, ◌/◌, ◌%◌, ◌^◌, ◌<◌, ◌≤◌, Bool, true, false, not, ◌==◌, eqb, List, [], ◌∷◌, ◌++◌, length, length-append, codes, refl, sym, ◌∙◌, ap, arith, ◌⊎◌, inl, inr, Some, None, subst}
use Rattle.std.proofs.Math.Nat.{div-eq_of_lt, mod-lt, pow-le-pow_right, add-mul}
use Rattle.std.proofs.lemmas.Nat.{pow-add, mod-pow-add, pow_pos, div-mul-add, mod-mul-add, div-add-mod'}
use Rattle.std.proofs.lemmas.Bool.{cases_lt, eqb-true, eqb-false}
use Rattle.std.proofs.lemmas.Bool.Decides.{nat_tests}
use Rattle.std.proofs.lemmas.List.{append-nil, append_assoc, append_cancel_right}
use Rattle.wx_base.specs.Bits.{is_in}
use Rattle.arm_text.specs.Names.{where_set, register_name}
use Rattle.arm_text.specs.Text.{listed, listed_below, list_text}
use Rattle.arm_text.proofs.Distinct.{register_length, one_end}
use Rattle.arm_text.proofs.Ranges.{texts_more}

-- a list with one register above all of its own
abbrev pub with : ℕ → ℕ → ℕ
with lower register = lower + 2 ^ register

-- the places below a register do not see it
pub record Below (lower register k : ℕ) : Type 0 where
  pub bit : is_in (with lower register) k ≡ is_in lower k
  pub rest : with lower register % 2 ^ k ≡ lower % 2 ^ k

spread : (q x m r whole : ℕ) → whole ≡ q * m + r + x * m → whole ≡ (q + x) * m + r
spread q x m r whole is = is ∙ sym (ap (λ t. t + r) (add-mul q x m) ∙ omega arith)

below : (lower register k : ℕ) → k < register → Below lower register k
below lower register k less =
    let gap = register - k - 1 in
    let all : 2 ^ (gap + 1 + k) ≡ 2 ^ (gap + 1) * 2 ^ k = pow-add 2 (gap + 1) k in
    let twice : 2 ^ (gap + 1) ≡ 2 ^ gap * 2 ^ 1 = pow-add 2 gap 1 in
    let is : gap + 1 + k ≡ register = omega arith in
    let high : 2 ^ register ≡ 2 ^ (gap + 1) * 2 ^ k = ap (λ n. 2 ^ n) (sym is) ∙ all in
    let parts : lower / 2 ^ k * 2 ^ k + lower % 2 ^ k ≡ lower = div-add-mod' lower (2 ^ k) in
    let small : lower % 2 ^ k < 2 ^ k = mod-lt lower (pow_pos k) in
    let whole : with lower register ≡ (lower / 2 ^ k + 2 ^ (gap + 1)) * 2 ^ k + lower % 2 ^ k =
    spread (lower / 2 ^ k) (2 ^ (gap + 1)) (2 ^ k) (lower % 2 ^ k) (with lower register) (omega arith) in
    let above : with lower register / 2 ^ k ≡ lower / 2 ^ k + 2 ^ (gap + 1) =
    ap (λ n. n / 2 ^ k) whole ∙ div-mul-add (lower / 2 ^ k + 2 ^ (gap + 1)) (2 ^ k) (lower % 2 ^ k) small in
    let even : (lower / 2 ^ k + 2 ^ (gap + 1)) % 2 ≡ lower / 2 ^ k % 2 = omega arith in
    record {
      bit = ap (λ n. eqb (n % 2) 1) above ∙ ap (λ n. eqb n 1) even;
      rest = ap (λ n. n % 2 ^ k) whole ∙ mod-mul-add (lower / 2 ^ k + 2 ^ (gap + 1)) (2 ^ k) (lower % 2 ^ k) small;
    }

-- a register of a list by whether it is in it and by what is below it
abbrev pub listed_by : Bool → ℕ → ℕ → List ℕ
listed_by set rest register = where_set set (where_set (not (rest == 0)) (codes ", ") ++ register_name register)

same_below : (lower register n : ℕ) → n ≤ register → listed_below (with lower register) n ≡ listed_below lower n
same_below lower register zero less = refl
same_below lower register (suc n) less =
    let L = with lower register in
    let b = below lower register n (omega arith) in
    let e : n + 1 ≡ suc n = omega arith in
    let step : listed_below L (n + 1) ≡ listed_below lower (n + 1) =
    texts_more (listed L) n ∙ ap (λ t. t ++ listed L n) (same_below lower register n (omega arith))
    ∙ ap (λ s. listed_below lower n ++ listed_by s (L % 2 ^ n) n) b.bit
    ∙ ap (λ r. listed_below lower n ++ listed_by (is_in lower n) r n) b.rest ∙ sym (texts_more (listed lower) n) in
    ap (listed_below L) (sym e) ∙ step ∙ ap (listed_below lower) e

at_top : (lower register : ℕ) → lower < 2 ^ register → listed (with lower register) register ≡ listed_by true lower register
at_top lower register small =
    let L = with lower register in
    let whole : L ≡ 1 * 2 ^ register + lower = omega arith in
    let one : L / 2 ^ register ≡ 1 = ap (λ n. n / 2 ^ register) whole ∙ div-mul-add 1 (2 ^ register) lower small in
    let rest : L % 2 ^ register ≡ lower = ap (λ n. n % 2 ^ register) whole ∙ mod-mul-add 1 (2 ^ register) lower small in
    ap (λ q. listed_by (eqb (q % 2) 1) (L % 2 ^ register) register) one ∙ ap (λ r. listed_by true r register) rest

-- no register above a list is in it
above : (list n : ℕ) → list < 2 ^ n → listed list n ≡ []
above list n small = ap (λ q. listed_by (eqb (q % 2) 1) (list % 2 ^ n) n) (div-eq_of_lt small)

more : (list n k : ℕ) → list < 2 ^ n → listed_below list (n + k) ≡ listed_below list n
more list n zero small = let e : n + zero ≡ n = omega arith in ap (listed_below list) e
more list n (suc k) small =
    let e : n + suc k ≡ n + k + 1 = omega arith in
    let grow : 2 ^ n ≤ 2 ^ (n + k) = let less : n ≤ n + k = omega arith in let one : 0 < 2 = omega arith in pow-le-pow_right one less in
    ap (listed_below list) e ∙ texts_more (listed list) (n + k)
    ∙ ap (λ t. listed_below list (n + k) ++ t) (above list (n + k) (omega arith)) ∙ append-nil (listed_below list (n + k)) ∙ more list n k small

pub list_is : (list n : ℕ) → list < 2 ^ n → n ≤ 16 → list_text list ≡ listed_below list n
unfolding list_text
list_is list n small fits =
    let e : 16 ≡ n + (16 - n) = omega arith in
    ap (listed_below list) e ∙ more list n (16 - n) small

abbrev pub separator : ℕ → List ℕ
separator lower = where_set (not (lower == 0)) (codes ", ")

-- the highest register stands last
pub top : (lower register : ℕ) → lower < 2 ^ register → register < 16 → list_text (with lower register) ≡ list_text lower ++ separator lower ++ register_name register
top lower register small fits =
    let L = with lower register in
    let twice : 2 ^ (register + 1) ≡ 2 ^ register * 2 ^ 1 = pow-add 2 register 1 in
    list_is L (register + 1) (omega arith) (omega arith) ∙ texts_more (listed L) register
    ∙ ap (λ t. t ++ listed L register) (same_below lower register register (omega arith))
    ∙ ap (λ t. listed_below lower register ++ t) (at_top lower register small)
    ∙ sym (append_assoc (listed_below lower register) (separator lower) (register_name register))
    ∙ ap (λ t. t ++ separator lower ++ register_name register) (sym (list_is lower register small (omega arith)))

-- a list that is not empty, by its highest register
pub record IsTop (list bound : ℕ) : Type 0 where
  pub lower : ℕ
  pub register : ℕ
  pub within : register < bound
  pub small : lower < 2 ^ register
  pub is : list ≡ with lower register

pub top_of : (bound list : ℕ) → list < 2 ^ bound → 0 < list → IsTop list bound
top_of zero list small some = absurd (omega arith)
top_of (suc n) list small some =
    let twice : 2 ^ (n + 1) ≡ 2 ^ n * 2 ^ 1 = pow-add 2 n 1 in
    let e : n + 1 ≡ suc n = omega arith in
    let bound : 2 ^ suc n ≡ 2 ^ n * 2 = ap (λ k. 2 ^ k) (sym e) ∙ twice in
    elim (cases_lt list (2 ^ n)) [
      | inl less ↦
          let t = top_of n list less some in
          record { lower = t.lower; register = t.register; within = let w = t.within in omega arith; small = t.small; is = t.is }
      | inr all ↦ record { lower = list - 2 ^ n; register = n; within = omega arith; small = omega arith; is = omega arith }
    ]

pub no_list : list_text 0 ≡ []
unfolding list_text
no_list = refl

pub some_text : (list : ℕ) → list < 2 ^ 16 → 0 < list → list_text list ≡ [] → ⊥
some_text list small some none =
    let t = top_of 16 list small some in
    let two = register_length t.register t.within in
    let size = ap length (sym none ∙ ap list_text t.is ∙ top t.lower t.register t.small t.within) in
    let whole = length-append (list_text t.lower ++ separator t.lower) (register_name t.register) in
    omega arith

-- a list below a register does not end with it
pub not_last : (lower register : ℕ) (rest : List ℕ) → lower < 2 ^ register → register < 16 → list_text lower ≡ rest ++ register_name register → ⊥
not_last lower register rest small fits same = elim (cases_lt 0 lower) [
  | inl some ↦
      let t = top_of register lower small some in
      let within = t.within in
      let one = one_end t.register register (list_text t.lower ++ separator t.lower) rest (omega arith) fits
      (sym (ap list_text t.is ∙ top t.lower t.register t.small (omega arith)) ∙ same) in
      omega arith
  | inr none ↦
      let zero_is : lower ≡ 0 = omega arith in
      let two = register_length register fits in
      let size = ap length (sym no_list ∙ ap list_text (sym zero_is) ∙ same) in
      let whole = length-append rest (register_name register) in
      omega arith
]

pub no_bytes : (text : List ℕ) → length text ≡ 0 → text ≡ []
no_bytes [] size = refl
no_bytes (x ∷ xs) size = absurd (omega arith)

-- a text that ends with a register: what stands before it
pub record EndsWith (list rest : List ℕ) (register : ℕ) : Type 0 where
  pub fits : register < 16
  pub is : list ≡ rest ++ register_name register

-- nothing stands before the only register
pub only_sound : (list rest : List ℕ) (lower register : ℕ) → EndsWith list rest register → length rest ≡ 0 → lower < 2 ^ register → lower < 2 ^ 16 → rest ≡ list_text lower → list ≡ list_text (with lower register)
only_sound list rest lower register ends none small fits same = elim (cases_lt 0 lower) [
  | inl some ↦ absurd (some_text lower fits some (sym same ∙ no_bytes rest none))
  | inr no_more ↦
      let zero_is : lower ≡ 0 = omega arith in
      ends.is ∙ sym (top lower register small ends.fits
      ∙ ap (λ n. list_text lower ++ separator n ++ register_name register) zero_is
      ∙ ap (λ t. t ++ register_name register) (append-nil (list_text lower) ∙ sym same))
]

pub only_complete : (list rest : List ℕ) (lower register : ℕ) → EndsWith list rest register → length rest ≡ 0 → lower < 2 ^ register → list ≡ list_text (with lower register) → rest ≡ list_text lower
only_complete list rest lower register ends none small same =
    let front : rest ≡ list_text lower ++ separator lower =
    append_cancel_right rest (list_text lower ++ separator lower) (register_name register) (sym ends.is ∙ same ∙ top lower register small ends.fits) in
    let size = ap length front in
    let whole = length-append (list_text lower) (separator lower) in
    no_bytes rest none ∙ sym (no_bytes (list_text lower) (omega arith))

is_not_zero : (n : ℕ) → 0 < n → eqb n 0 ≡ false
is_not_zero n some = grind (arith, nat_tests)

-- a comma stands between a register and those before it
pub further_sound : (list rest front : List ℕ) (lower register : ℕ) → EndsWith list rest register → rest ≡ front ++ codes ", " → 0 < length front → lower < 2 ^ register → front ≡ list_text lower → list ≡ list_text (with lower register)
further_sound list rest front lower register ends comma some small same = elim (cases_lt 0 lower) [
  | inl more ↦
      let set : separator lower ≡ codes ", " = ap (λ b. where_set (not b) (codes ", ")) (is_not_zero lower more) in
      ends.is ∙ sym (top lower register small ends.fits
      ∙ ap (λ t. list_text lower ++ t ++ register_name register) set
      ∙ ap (λ t. t ++ register_name register) (ap (λ t. t ++ codes ", ") (sym same) ∙ sym comma))
  | inr no_more ↦
      let zero_is : lower ≡ 0 = omega arith in
      let size = ap length (same ∙ ap list_text zero_is ∙ no_list) in
      absurd (omega arith)
]

pub further_complete : (list rest : List ℕ) (lower register : ℕ) → EndsWith list rest register → 0 < length rest → lower < 2 ^ register → list ≡ list_text (with lower register) → (rest ≡ list_text lower ++ codes ", ") × (0 < lower)
further_complete list rest lower register ends some small same =
    let front : rest ≡ list_text lower ++ separator lower =
    append_cancel_right rest (list_text lower ++ separator lower) (register_name register) (sym ends.is ∙ same ∙ top lower register small ends.fits) in
    elim (cases_lt 0 lower) [
      | inl more ↦
          (front ∙ ap (λ b. list_text lower ++ where_set (not b) (codes ", ")) (is_not_zero lower more), more)
      | inr no_more ↦
          let zero_is : lower ≡ 0 = omega arith in
          let size = ap length (front ∙ ap (λ n. list_text n ++ separator n) zero_is ∙ ap (λ t. t ++ separator 0) no_list) in
          absurd (omega arith)
    ]

pub below_all_lists : (lower register : ℕ) → lower < 2 ^ register → register < 16 → lower < 2 ^ 16
below_all_lists lower register small fits =
    let grow : 2 ^ register ≤ 2 ^ 16 = let less : register ≤ 16 = omega arith in let one : 0 < 2 = omega arith in pow-le-pow_right one less in
    omega arith

pub is_empty : (n : ℕ) → true ≡ eqb n 0 → n ≡ 0
is_empty n test = eqb-true n 0 (sym test)

pub is_some : (n : ℕ) → false ≡ eqb n 0 → 0 < n
is_some n test = let none = eqb-false n 0 (sym test) in omega arith

-- the registers from a bound on have been read
pub record SoFar (text rest : List ℕ) (list bound : ℕ) : Type 0 where
  pub room : list + 2 ^ bound ≤ 2 ^ 16
  pub sound : (lower : ℕ) → lower < 2 ^ bound → rest ≡ list_text lower → text ≡ list_text (lower + list)
  pub complete : (whole : ℕ) → whole < 2 ^ 16 → text ≡ list_text whole → (rest ≡ list_text (whole % 2 ^ bound)) × (whole % 2 ^ bound + list ≡ whole)

pub nothing_read : (text : List ℕ) → SoFar text text 0 16
nothing_read text = record {
  room = omega arith;
  sound = λ lower small same. same ∙ ap list_text (omega arith);
  complete = λ whole small same. let e : whole ≡ whole % 2 ^ 16 = omega arith in (same ∙ ap list_text e, omega arith);
}

twice : (register : ℕ) → 2 ^ (register + 1) ≡ 2 ^ register * 2
twice register = pow-add 2 register 1

-- whether a register is in a list
whether : (whole register : ℕ) → (whole % 2 ^ (register + 1) ≡ whole % 2 ^ register) ⊎ (whole % 2 ^ (register + 1) ≡ whole % 2 ^ register + 2 ^ register)
whether whole register =
    let parts : whole % 2 ^ (1 + register) ≡ (whole / 2 ^ register % 2 ^ 1) * 2 ^ register + whole % 2 ^ register = mod-pow-add whole 1 register in
    let e : 1 + register ≡ register + 1 = omega arith in
    let parts_there : whole % 2 ^ (register + 1) ≡ (whole / 2 ^ register % 2) * 2 ^ register + whole % 2 ^ register =
    ap (λ k. whole % 2 ^ k) (sym e) ∙ parts in
    elim (cases_lt (whole / 2 ^ register % 2) 1) [
      | inl none ↦
          let bit : whole / 2 ^ register % 2 ≡ 0 = omega arith in
          inl (parts_there ∙ ap (λ b. b * 2 ^ register + whole % 2 ^ register) bit ∙ omega arith)
      | inr one ↦
          let bit : whole / 2 ^ register % 2 ≡ 1 = omega arith in
          inr (parts_there ∙ ap (λ b. b * 2 ^ register + whole % 2 ^ register) bit ∙ omega arith)
    ]

pub one_more : (text rest front : List ℕ) (list register : ℕ) → SoFar text rest list (register + 1) →
    ((lower : ℕ) → lower < 2 ^ register → front ≡ list_text lower → rest ≡ list_text (with lower register)) →
    ((lower : ℕ) → lower < 2 ^ register → rest ≡ list_text (with lower register) → front ≡ list_text lower) →
    ((lower : ℕ) → lower < 2 ^ register → rest ≡ list_text lower → ⊥) →
    SoFar text front (list + 2 ^ register) register
one_more text rest front list register so_far sound complete none =
    let double = twice register in
    let room = so_far.room in
    record {
      room = omega arith;
      sound = λ lower small same. let e : lower + 2 ^ register + list ≡ lower + (list + 2 ^ register) = omega arith in
          so_far.sound (with lower register) (omega arith) (sound lower small same) ∙ ap list_text e;
      complete = λ whole fits same.
          let parts = so_far.complete whole fits same in
          let small : whole % 2 ^ register < 2 ^ register = mod-lt whole (pow_pos register) in
          elim (whether whole register) [
            | inl out ↦ absurd (none (whole % 2 ^ register) small (parts.0 ∙ ap list_text out))
            | inr is_within ↦
                let sum = parts.1 in
                (complete (whole % 2 ^ register) small (parts.0 ∙ ap list_text is_within), omega arith)
          ];
    }

pub none_more : (text rest : List ℕ) (list register : ℕ) → SoFar text rest list (register + 1) →
    ((lower : ℕ) → lower < 2 ^ register → rest ≡ list_text (with lower register) → ⊥) →
    SoFar text rest list register
none_more text rest list register so_far none =
    let double = twice register in
    let room = so_far.room in
    record {
      room = omega arith;
      sound = λ lower small same. so_far.sound lower (omega arith) same;
      complete = λ whole fits same.
          let parts = so_far.complete whole fits same in
          let small : whole % 2 ^ register < 2 ^ register = mod-lt whole (pow_pos register) in
          elim (whether whole register) [
            | inl out ↦ let sum = parts.1 in (parts.0 ∙ ap list_text out, omega arith)
            | inr is_within ↦ absurd (none (whole % 2 ^ register) small (parts.0 ∙ ap list_text is_within))
          ];
    }

zero_add : (n : ℕ) → 0 + n ≡ n
zero_add n = omega arith

-- all has been read
pub all_sound : (text rest : List ℕ) (list : ℕ) → SoFar text rest list 0 → length rest ≡ 0 → text ≡ list_text list
all_sound text rest list so_far none = so_far.sound 0 (omega arith) (no_bytes rest none ∙ sym no_list) ∙ ap list_text (zero_add list)

pub all_complete : (text rest : List ℕ) (list whole : ℕ) → SoFar text rest list 0 → whole < 2 ^ 16 → text ≡ list_text whole → (length rest ≡ 0) × (list ≡ whole)
all_complete text rest list whole so_far small same =
    let parts = so_far.complete whole small same in
    let e : whole % 2 ^ 0 ≡ 0 = omega arith in
    let sum = parts.1 in
    (ap length (parts.0 ∙ ap list_text e ∙ no_list), omega arith)

pub same_so_far : (text rest front : List ℕ) (list more bound place : ℕ) → front ≡ rest → more ≡ list → place ≡ bound → SoFar text rest list bound → SoFar text front more place
same_so_far text rest front list more bound place rest_is list_is place_is so_far =
    subst (λ t. SoFar text t more place) (sym rest_is) (subst (λ n. SoFar text rest n place) (sym list_is) (subst (λ b. SoFar text rest list b) (sym place_is) so_far))

pub one_bit : (register : ℕ) → register < 16 → 1 * 2 ^ register % 65536 ≡ 2 ^ register
one_bit register fits =
    let grow : 2 ^ register ≤ 2 ^ 15 = let less : register ≤ 15 = omega arith in let one : 0 < 2 = omega arith in pow-le-pow_right one less in
    omega arith

pub bit_fits : (list register : ℕ) → register < 16 → list + 2 ^ (register + 1) ≤ 2 ^ 16 → list + 1 * 2 ^ register % 65536 < 2 ^ 16
bit_fits list register fits room = let bit = one_bit register fits in let double = twice register in let some = pow_pos register in omega arith

pub some_none : {X : Type 0} {x : X} → Some x ≡ None → ⊥
some_none same = cc
