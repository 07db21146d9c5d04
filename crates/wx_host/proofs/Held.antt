-- What a list of files holds, at a place and after a change.
use Rattle.std.proofs.Common.{◌≡◌, ◌≢◌, ◌↔◌, ℕ, zero, suc, ◌-◌, ◌<◌, ◌≤◌, List, [], ◌∷◌, ◌++◌, length, get_or, set, take, drop, Bool, true, false, IsTrue, refl, arith, Some, None, Result, Ok, Err, min, if◌then◌else◌, length-drop, inl, inr, ◌∙◌, sym, ap}
use Rattle.wx_host.specs.Outside.{Contents, ReadGives}
use Rattle.wx_host.specs.declared.store.StoreFault.{StoreFault}
use Rattle.wx_host.specs.declared.store.StoreFault.TheVariants as store_fault
use Rattle.std.specs.Str.{bytes_eq}
use Rattle.std.proofs.lemmas.Slice.Eq.{bytes_eq-Decides}
use Rattle.std.proofs.lemmas.List.{length-take, take-append-drop}
use Rattle.wx_host.specs.MemStore.{HeldFile, held, IsLastNamed}

-- a name is itself
pub same_name : (xs ys : List ℕ) → xs ≡ ys → bytes_eq xs ys ≡ true
same_name xs ys e = (bytes_eq-Decides xs ys).1 e

-- two names differ
pub other_name : (xs ys : List ℕ) → xs ≢ ys → bytes_eq xs ys ≡ false
other_name xs ys differ =
    (elim (bytes_eq xs ys) as (λ b. (b ≡ true → xs ≡ ys) → b ≡ false) [ true ↦ λ f. absurd (differ (f refl)) | false ↦ λ f. refl ])
    (bytes_eq-Decides xs ys).0

-- no file from a place on has the name, if that at the place has not and none behind it
pub held-drop : (files : List HeldFile) (name : List ℕ) (i : ℕ) (d : HeldFile) → i < length files → (get_or files i d).name ≢ name → held (drop (suc i) files) name ≡ None → held (drop i files) name ≡ None
held-drop [] name i d lt differ h = absurd (omega arith)
held-drop (f ∷ fs) name zero d lt differ h = rw (h, other_name f.name name differ) refl
held-drop (f ∷ fs) name (suc i) d lt differ h = held-drop fs name i d (omega arith) differ h

-- the last file of a name gives the content
pub held-last : (files : List HeldFile) (name : List ℕ) (i : ℕ) (d : HeldFile) → i < length files → (get_or files i d).name ≡ name → held (drop (suc i) files) name ≡ None → held files name ≡ Some (get_or files i d).bytes
held-last [] name i d lt e h = absurd (omega arith)
held-last (f ∷ fs) name zero d lt e h = rw (h, same_name f.name name e) refl
held-last (f ∷ fs) name (suc i) d lt e h = rw (held-last fs name i d (omega arith) e h) refl

-- after another content at the last place of a name, that is the content
pub held-set : (files : List HeldFile) (name : List ℕ) (i : ℕ) (new : HeldFile) → i < length files → new.name ≡ name → held (drop (suc i) files) name ≡ None → held (set files i new) name ≡ Some new.bytes
held-set [] name i new lt e h = absurd (omega arith)
held-set (f ∷ fs) name zero new lt e h = rw (h, same_name new.name name e) refl
held-set (f ∷ fs) name (suc i) new lt e h = rw (held-set fs name i new (omega arith) e h) refl

-- and what every other name has stays
pub held-set_other : (files : List HeldFile) (name other : List ℕ) (i : ℕ) (d new : HeldFile) → (get_or files i d).name ≡ name → new.name ≡ name → other ≢ name → held (set files i new) other ≡ held files other
held-set_other [] name other i d new e e' differ = refl
held-set_other (f ∷ fs) name other zero d new e e' differ =
    rw (other_name f.name other (λ q. differ (sym q ∙ e)), other_name new.name other (λ q. differ (sym q ∙ e'))) refl
held-set_other (f ∷ fs) name other (suc i) d new e e' differ =
    rw (held-set_other fs name other i d new e e' differ) refl

-- a file that is added at the end gives its name its content
pub held-push : (files : List HeldFile) (name : List ℕ) (new : HeldFile) → new.name ≡ name → held (files ++ new ∷ []) name ≡ Some new.bytes
held-push [] name new e = rw (same_name new.name name e) refl
held-push (f ∷ fs) name new e = rw (held-push fs name new e) refl

-- and every other name keeps what it has
pub held-push_other : (files : List HeldFile) (name other : List ℕ) (new : HeldFile) → new.name ≡ name → other ≢ name → held (files ++ new ∷ []) other ≡ held files other
held-push_other [] name other new e differ = rw (other_name new.name other (λ q. differ (sym q ∙ e))) refl
held-push_other (f ∷ fs) name other new e differ = rw (held-push_other fs name other new e differ) refl

-- one step of a search from the back that found nothing so far
pub held-step : (files : List HeldFile) (name : List ℕ) (i : ℕ) (d : HeldFile) (b : Bool) → 0 < i → i ≤ length files → d ≡ get_or files (i - 1) d → (IsTrue b ↔ (d.name ≡ name)) → b ≡ false → held (drop i files) name ≡ None → held (drop (i - 1) files) name ≡ None
held-step files name i d b pos le is named false_b h =
    let e : suc (i - 1) ≡ i = omega arith in
    let lt : i - 1 < length files = omega arith in
    held-drop files name (i - 1) d lt (λ q. let t = named.1 (ap (λ x. x.name) is ∙ q) in cc) (rw e h)

-- what a search from the back that ended at a place has found
pub held-get : (found listed files : List HeldFile) (name bytes : List ℕ) (i : ℕ) (d : HeldFile) → found ≡ listed → listed ≡ files → i < length found → IsLastNamed found name i → d ≡ get_or listed i d → bytes ≡ d.bytes → Some bytes ≡ held files name
held-get found listed files name bytes i d e e' lt last at is =
    let h = held-last found name i d lt (last.0 d) last.1 in
    let at' : d ≡ get_or found i d = rw e at in
    let s : Some bytes ≡ Some (get_or found i d).bytes = rw is (rw (← at') refl) in
    s ∙ sym h ∙ ap (λ fs. held fs name) (e ∙ e')

-- the content of the name, once the file that a search from the back found has another
pub put-found : (found files : List HeldFile) (name bytes content : List ℕ) (i : ℕ) (d new : HeldFile) → found ≡ files → i < length found → IsLastNamed found name i → d ≡ get_or files i d → new.name ≡ d.name → new.bytes ≡ content → content ≡ bytes → held (set files i new) name ≡ Some bytes
put-found found files name bytes content i d new e lt last at named has is =
    let at' : d ≡ get_or found i d = rw e at in
    let e' : new.name ≡ name = named ∙ (ap (λ (x : HeldFile). x.name) at' ∙ last.0 d) in
    let set' : held (set found i new) name ≡ Some new.bytes = held-set found name i new lt e' last.1 in
    rw (← e) (set' ∙ ap (λ xs. Some xs) (has ∙ is))

-- and that of every other name
pub put-found_other : (found files : List HeldFile) (name : List ℕ) (i : ℕ) (d new : HeldFile) → found ≡ files → IsLastNamed found name i → d ≡ get_or files i d → new.name ≡ d.name → (other : List ℕ) → other ≢ name → held (set files i new) other ≡ held files other
put-found_other found files name i d new e last at named other differ =
    let at' : d ≡ get_or found i d = rw e at in
    let old : (get_or found i d).name ≡ name = last.0 d in
    let e' : new.name ≡ name = named ∙ (ap (λ (x : HeldFile). x.name) at' ∙ old) in
    rw (← e) (held-set_other found name other i d new old e' differ)

-- a read of what a name has is one of a store that holds just that
pub read-known : (contents : Contents) (name content bytes : List ℕ) (n n' : ℕ) (r : Result (Unit {0}) StoreFault) → contents name ≡ Some content → ReadGives (Some (λ _. Some content)) [] 0 0 bytes r → ReadGives (Some contents) name n n' bytes r
read-known contents name content bytes n n' (Ok x) e (b, c) = (b, e ∙ c)
read-known contents name content bytes n n' (Err store_fault.Failed) e h =
    elim h.0 [ inl l ↦ absurd (omega arith) | inr q ↦ absurd (omega arith) ]
read-known contents name content bytes n n' (Err store_fault.Missing) e (b, c) = cc
read-known contents name content bytes n n' (Err store_fault.Long) e (b, (rest, l, c)) = (b, (rest, l, e ∙ c))
read-known contents name content bytes n n' (Err store_fault.NoMemory) e b =
    elim b [ inl q ↦ inl q | inr q ↦ inr (q.0, e ∙ q.1) ]

-- what a copy of the first bytes is, where that was not all
pub cut-short : (content into got : List ℕ) (m most : ℕ) (b : Bool) → into ≡ [] → got ≡ (if b then into ++ take m content else into) → true ≡ b → m ≡ min (length content) most → length (take m content) < length content → (length got ≡ most) × ((rest : List ℕ) × (0 < length rest) × (Some content ≡ Some (got ++ rest)))
cut-short content into got m most b empty is ok m_is short =
    let got_is : got ≡ take m content = rw (is, ← ok, empty) refl in
    let l : length (take m content) ≡ min m (length content) = length-take m content in
    let whole : got ++ drop m content ≡ content = rw got_is (take-append-drop m content) in
    (rw got_is (omega arith), (drop m content, rw length-drop (omega arith), ap (λ xs. Some xs) (sym whole)))
