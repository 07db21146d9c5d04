-- The lists of a cache's sets, of which one is set.
use Rattle.std.proofs.Common.{◌≡◌, ◌≢◌, ℕ, ◌<◌, Bool, true, false, ◌==◌, cond, List, [], ◌∷◌, length, get_or, set, refl, sym, ◌∙◌, ap, arith, Some, None, get_or-set_other, get_or-set_same, length-set, All, take, drop, ◌++◌}
use Rattle.std.proofs.lemmas.Bool.{eqb-true, eqb-false}
use Rattle.std.proofs.lemmas.List.{get_or-map, length-map, take-append-le, take_all}
use Rattle.std.proofs.lemmas.List.FromFn.{fill_by_all}
use Rattle.std.specs.Global.{Vec}
use Rattle.std.specs.Option.{unwrap_or}
use Rattle.wx_base.specs.declared.machine.Shape.{Shape}
use Rattle.cache_lru.specs.Lru.{lines_of}
use Rattle.start_file.specs.declared.start_item.Item.{Item}
use Rattle.start_file.specs.declared.start_item.Item.TheVariants as item
use Rattle.start_file.specs.StartSaid.{said, of_set, sets_said}

by_test : (b : Bool) (k s : ℕ) (lists : List (Vec ℕ)) (list : Vec ℕ) (lines : List ℕ) → (k == s) ≡ b → s < length lists → list.items ≡ lines → (get_or (set lists k list) s list).items ≡ unwrap_or (cond b (Some lines) None) (get_or lists s list).items
by_test true k s lists list lines is within same =
    let k_is : k ≡ s = eqb-true k s is in
    let inside : k < length lists = omega (arith, k_is, within) in
    ap (λ n. (get_or (set lists k list) n list).items) (sym k_is) ∙ ap (λ (l : Vec ℕ). l.items) (get_or-set_same lists k list list inside) ∙ same
by_test false k s lists list lines is within same =
    let apart : s ≢ k = λ e. eqb-false k s is (sym e) in
    ap (λ (l : Vec ℕ). l.items) (get_or-set_other lists k s list list apart)

-- a list that is set changes no other
pub one_list : (lists : List (Vec ℕ)) (k : ℕ) (list : Vec ℕ) (lines : List ℕ) (s : ℕ) → s < length lists → list.items ≡ lines → get_or (lines_of (set lists k list)) s [] ≡ unwrap_or (of_set s (item.Set k lines)) (get_or (lines_of lists) s [])
one_list lists k list lines s within same =
    let size : length (set lists k list) ≡ length lists = length-set lists k list in
    get_or-map (λ (l : Vec ℕ). l.items) (set lists k list) s list [] (omega (arith, size, within))
    ∙ by_test (k == s) k s lists list lines refl within same
    ∙ ap (λ old. unwrap_or (of_set s (item.Set k lines)) old) (sym (get_or-map (λ (l : Vec ℕ). l.items) lists s list [] within))

-- lists of which none has a line
pub none_in : (lists : List (Vec ℕ)) → All (λ list. list.items ≡ []) lists → (s : ℕ) → s < length lists → get_or (lines_of lists) s [] ≡ []
none_in [] all s within = absurd (omega (arith, within))
none_in (x ∷ lists) all s within = get_or-map (λ (l : Vec ℕ). l.items) (x ∷ lists) s x [] within ∙ all s x within

-- the lists of all sets are what the lines say
pub all_lists : (shape : Shape) (items : List Item) (lists : List (Vec ℕ)) → length lists ≡ shape.sets
    → ((s : ℕ) → s < length lists → get_or (lines_of lists) s [] ≡ unwrap_or (said (of_set s) items) []) → lines_of lists ≡ sets_said shape items
all_lists shape items lists count each =
    fill_by_all (λ set. unwrap_or (said (of_set set) items) []) (lines_of lists) shape.sets [] (length-map lists (λ (l : Vec ℕ). l.items) ∙ count)
    (λ s small. each s (omega (arith, count, small)))

-- what stands in a vector after its elements were written as a slice
pub written_back : (old new : List (Vec ℕ)) (n : ℕ) → n ≡ length old → length new ≡ length old → take n (new ++ drop (length new) old) ≡ new
written_back old new n size same = take-append-le n new (drop (length new) old) (omega (arith, size, same)) ∙ take_all n new (omega (arith, size, same))
