-- One line more says what it says.
use Rattle.std.proofs.Common.{◌≡◌, ℕ, ◌+◌, ◌<◌, ◌≤◌, Bool, ◌||◌, is_some, List, [], ◌∷◌, ◌++◌, length, get_or, take, Option, Some, None, refl, sym, ◌∙◌, ap}
use Rattle.std.proofs.lemmas.List.{take_more, take_all}
use Rattle.std.specs.Option.{option_or, unwrap_or}
use Rattle.start_file.specs.declared.start_item.Item.{Item}
use Rattle.start_file.specs.StartSaid.{said}

or_joins : {A : Type 0} (a b c : Option A) → option_or (option_or a b) c ≡ option_or a (option_or b c)
or_joins (Some x) b c = refl
or_joins None b c = refl

or_none : {A : Type 0} (a : Option A) → option_or a None ≡ a
or_none (Some x) = refl
or_none None = refl

said_push : {A : Type 0} (about : Item → Option A) (items : List Item) (x : Item) → said about (items ++ x ∷ []) ≡ option_or (about x) (said about items)
said_push about [] x = sym (or_none (about x))
said_push about (y ∷ items) x = ap (λ o. option_or o (about y)) (said_push about items x) ∙ or_joins (about x) (said about items) (about y)

-- what the first lines and the next one say together
pub said_more : {A : Type 0} (about : Item → Option A) (items : List Item) (i : ℕ) (d : Item) → i < length items → said about (take (i + 1) items) ≡ option_or (about (get_or items i d)) (said about (take i items))
said_more about items i d within = ap (said about) (take_more items i d within) ∙ said_push about (take i items) (get_or items i d)

or_reads : {A : Type 0} (a b : Option A) (other : A) → unwrap_or a (unwrap_or b other) ≡ unwrap_or (option_or a b) other
or_reads (Some x) b other = refl
or_reads None b other = refl

-- one line more changes only what it says
pub told_more : {A : Type 0} (about : Item → Option A) (items : List Item) (i : ℕ) (x : Item) (old new other : A) → i < length items → x ≡ get_or items i x → old ≡ unwrap_or (said about (take i items)) other → new ≡ unwrap_or (about x) old
    → new ≡ unwrap_or (said about (take (i + 1) items)) other
told_more about items i x old new other within here before after =
    after ∙ ap (λ o. unwrap_or (about x) o) before ∙ or_reads (about x) (said about (take i items)) other
    ∙ ap (λ y. unwrap_or (option_or (about y) (said about (take i items))) other) here ∙ ap (λ o. unwrap_or o other) (sym (said_more about items i x within))

is_some_or : {A : Type 0} (a b : Option A) → (is_some a || is_some b) ≡ is_some (option_or a b)
is_some_or (Some x) b = refl
is_some_or None b = refl

pub spoken_more : {A : Type 0} (about : Item → Option A) (items : List Item) (i : ℕ) (x : Item) (old new : Bool) → i < length items → x ≡ get_or items i x → old ≡ is_some (said about (take i items)) → new ≡ (is_some (about x) || old)
    → new ≡ is_some (said about (take (i + 1) items))
spoken_more about items i x old new within here before after =
    after ∙ ap (λ o. is_some (about x) || o) before ∙ is_some_or (about x) (said about (take i items))
    ∙ ap (λ y. is_some (option_or (about y) (said about (take i items)))) here ∙ ap is_some (sym (said_more about items i x within))

-- all lines
pub told_all : {A : Type 0} (about : Item → Option A) (items : List Item) (i : ℕ) (told other : A) → length items ≤ i → told ≡ unwrap_or (said about (take i items)) other → told ≡ unwrap_or (said about items) other
told_all about items i told other over before = before ∙ ap (λ l. unwrap_or (said about l) other) (take_all i items over)
