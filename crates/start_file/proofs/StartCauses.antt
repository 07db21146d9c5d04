-- A text has one cause at most, and a start text has none but that its lists are no cache.
use Rattle.std.proofs.Common.{◌≡◌, ◌≢◌, ◌⊎◌, inl, inr, ℕ, ◌+◌, ◌<◌, ◌≤◌, Bool, true, false, ◌==◌, cond, List, [], ◌∷◌, ◌++◌, length, take, drop, All, Option, Some, None, is_some, Result, Ok, Err, refl, sym, ◌∙◌, ap, subst, arith, append_assoc}
use Rattle.std.specs.Prelude.{IfOk, IfErr, OnOk}
use Rattle.std.proofs.lemmas.Bool.{cases_lt, eqb-true, false≢true}
use Rattle.std.proofs.lemmas.List.{take-take, take-append-drop, same_from_push}
use Rattle.std.proofs.lemmas.List.Elements.{All-head, All-tail}
use Rattle.std.specs.Option.{option_or}
use Rattle.wx_base.specs.declared.image.Image.{Image}
use Rattle.wx_base.specs.declared.machine.Shape.{Shape}
use Rattle.wx_base.specs.Image.{Covers}
use Rattle.wx_base.specs.Cache.{IsCache}
use Rattle.cache_lru.specs.Lru.{IsFirstBad}
use Rattle.wx_mem.specs.Memory.{is_written}
use Rattle.start_file.specs.declared.start_item.Item.{Item}
use Rattle.start_file.specs.declared.start_item.Item.TheVariants as item
use Rattle.start_file.specs.declared.start_state.Start.{Start}
use Rattle.start_file.specs.declared.start_error.StartError.{StartError}
use Rattle.start_file.specs.declared.start_error.StartError.TheVariants.{Line, NotACache, NoMemory}
use Rattle.start_file.specs.StartText.{IsProper, AreStartLines, IsStartText, Begins, IsFirstBadLine}
use Rattle.start_file.specs.StartReading.{IsTextRefusal}
use Rattle.start_file.specs.StartSaid.{said, of_byte, sets_said}
use Rattle.start_file.specs.StartMade.{IsCacheRefusal}
use Rattle.start_file.specs.StartRefusal.{IsStartOf, IsNotACacheAt, IsRefusal, IsRefusedFor}

-- what begins with some lines begins with the first of them
begins_sooner : (image : Image) (shape : Shape) (lines : List (List ℕ)) (i n : ℕ) → i ≤ n → Begins image shape (take n lines) → Begins image shape (take i lines)
begins_sooner image shape lines i n before begins =
    let whole : take i lines ++ drop i (take n lines) ≡ take n lines = ap (λ front. front ++ drop i (take n lines)) (sym (take-take i n lines before)) ∙ take-append-drop i (take n lines) in
    record {
      further = drop i (take n lines) ++ begins.further;
      items = begins.items;
      are =
          subst (λ l. AreStartLines image shape l begins.items)
          (ap (λ front. front ++ begins.further) (sym whole) ∙ append_assoc (take i lines) (drop i (take n lines)) begins.further) begins.are;
    }

-- with a line that stands before another first bad one, a start text would go on
not_sooner : (image : Image) (shape : Shape) (text : List ℕ) (m n : ℕ) (a : IsFirstBadLine image shape text m) (b : IsFirstBadLine image shape text n) → a.stand < b.stand → ⊥
not_sooner image shape text m n a b less =
    let same : b.lines ≡ a.lines = (same_from_push b.lines a.lines b.rest a.rest (sym b.split ∙ a.split)).0 in
    let size = ap length same in
    let within = b.within in
    a.no_further (omega (arith, less, size, within))
    (subst (λ lines. Begins image shape (take (a.stand + 1) lines)) same (begins_sooner image shape b.lines (a.stand + 1) b.stand (omega (arith, less)) b.begins))

one_line : (image : Image) (shape : Shape) (text : List ℕ) (m n : ℕ) → IsFirstBadLine image shape text m → IsFirstBadLine image shape text n → m ≡ n
one_line image shape text m n a b =
    let p = a.counted in
    let q = b.counted in
    elim (cases_lt a.stand b.stand) [
      | inl less ↦ absurd (not_sooner image shape text m n a b less)
      | inr at_least ↦ elim (cases_lt b.stand a.stand) [
        | inl more ↦ absurd (not_sooner image shape text n m b a more)
        | inr at_most ↦ omega (arith, p, q, at_least, at_most)
      ]
    ]

one_set : (shape : Shape) (lists : List (List ℕ)) (m n : ℕ) → IsFirstBad shape lists m → IsFirstBad shape lists n → m ≡ n
one_set shape lists m n a b =
    elim (cases_lt m n) [
      | inl less ↦ absurd (a.bad (b.earlier m less))
      | inr at_least ↦ elim (cases_lt n m) [
        | inl more ↦ absurd (b.bad (a.earlier n more))
        | inr at_most ↦ omega (arith, at_least, at_most)
      ]
    ]

-- ---- where the lines were refused
due_for : (image : Image) (shape : Shape) (text : List ℕ) (r e : StartError) → IsTextRefusal image shape text r → IsRefusal image shape text e → e ≢ NoMemory → (r ≡ e) ⊎ (r ≡ NoMemory)
due_for image shape text (Line line) (Line line') at is some = inl (ap Line (one_line image shape text line line' at is))
due_for image shape text (Line line) (NotACache set) at is some = absurd (at.no_text is.items is.is_text)
due_for image shape text (Line line) NoMemory at is some = absurd (some refl)
due_for image shape text (NotACache set) e at is some = absurd at
due_for image shape text NoMemory e at is some = inr refl

pub text_due : (image : Image) (shape : Shape) (text : List ℕ) (r : Result Start StartError) (f : StartError) → r ≡ Err f → IsTextRefusal image shape text f → (e : StartError) → IsRefusal image shape text e → e ≢ NoMemory → IsRefusedFor r e
text_due image shape text r f same at e is some = subst (λ r. IsRefusedFor r e) (sym same) (due_for image shape text f e at is some)

pub text_taken_err : (image : Image) (shape : Shape) (text : List ℕ) (r : Result Start StartError) (f : StartError) → r ≡ Err f → IsTextRefusal image shape text f → (items : List Item) → IsStartText image shape text items → IfErr r (λ e. e ≡ NoMemory)
text_taken_err image shape text r f same at items is = subst (λ r. IfErr r (λ e. e ≡ NoMemory)) (sym same) (memory_for f at)
  where
    memory_for : (f : StartError) → IsTextRefusal image shape text f → f ≡ NoMemory
    memory_for (Line line) at = absurd (at.no_text items is)
    memory_for (NotACache set) at = absurd at
    memory_for NoMemory at = refl

-- ---- where the lines were read
-- the text is a start text, and says this alone
pub record SaysAlone (image : Image) (shape : Shape) (text : List ℕ) (items : List Item) : Type 0 where
  pub is_text : IsStartText image shape text items
  pub once : (others : List Item) → IsStartText image shape text others → others ≡ items

no_cache : (shape : Shape) (lists : List (List ℕ)) (set : ℕ) → IsCache shape lists → IsFirstBad shape lists set → ⊥
no_cache shape lists set is bad = bad.bad (is.each set bad.within)

bad_of : (image : Image) (shape : Shape) (text : List ℕ) (items : List Item) (set : ℕ) → SaysAlone image shape text items → IsNotACacheAt image shape text set → IsFirstBad shape (sets_said shape items) set
bad_of image shape text items set alone at = subst (λ items. IsFirstBad shape (sets_said shape items) set) (alone.once at.items at.is_text) at.bad

pub made_taken : (image : Image) (shape : Shape) (text : List ℕ) (items : List Item) (r : Result Start StartError) → SaysAlone image shape text items → IfErr r (λ e. IsCacheRefusal shape items e)
    → (others : List Item) → IsStartText image shape text others → IsCache shape (sets_said shape others) → IfErr r (λ e. e ≡ NoMemory)
made_taken image shape text items (Ok start) alone refused others is cache = tt
made_taken image shape text items (Err (Line line)) alone refused others is cache = absurd refused
made_taken image shape text items (Err (NotACache set)) alone refused others is cache =
    absurd (no_cache shape (sets_said shape items) set (subst (λ items. IsCache shape (sets_said shape items)) (alone.once others is) cache) refused)
made_taken image shape text items (Err NoMemory) alone refused others is cache = refl

pub made_due : (image : Image) (shape : Shape) (text : List ℕ) (items : List Item) (r : Result Start StartError) → SaysAlone image shape text items → IfErr r (λ e. IsCacheRefusal shape items e) → OnOk r (IsCache shape (sets_said shape items))
    → (e : StartError) → IsRefusal image shape text e → e ≢ NoMemory → IsRefusedFor r e
made_due image shape text items r alone refused cache (Line line) at some = absurd (at.no_text items alone.is_text)
made_due image shape text items r alone refused cache NoMemory at some = absurd (some refl)
made_due image shape text items (Ok start) alone refused cache (NotACache set) at some = no_cache shape (sets_said shape items) set cache (bad_of image shape text items set alone at)
made_due image shape text items (Err (Line line)) alone refused cache (NotACache set) at some = absurd refused
made_due image shape text items (Err (NotACache set')) alone refused cache (NotACache set) at some =
    inl (ap NotACache (one_set shape (sets_said shape items) set' set refused (bad_of image shape text items set alone at)))
made_due image shape text items (Err NoMemory) alone refused cache (NotACache set) at some = inr refl

pub made_once : (image : Image) (shape : Shape) (entry : ℕ) (text : List ℕ) (items : List Item) (r : Result Start StartError) → SaysAlone image shape text items → IfOk r (λ start. IsStartOf entry shape items start)
    → IfOk r (λ start. (others : List Item) → IsStartText image shape text others → IsStartOf entry shape others start)
made_once image shape entry text items (Ok start) alone is = λ others is_text. subst (λ items. IsStartOf entry shape items start) (sym (alone.once others is_text)) is
made_once image shape entry text items (Err e) alone is = tt

-- ---- no byte of the image is written
by_test : (b : Bool) (image : Image) (address byte at : ℕ) → (address == at) ≡ b → (Covers image address → ⊥) → is_some (cond b (Some byte) None) ≡ true → Covers image at → ⊥
by_test true image address byte at is free some covers = free (subst (Covers image) (sym (eqb-true address at is)) covers)
by_test false image address byte at is free some covers = false≢true some

one_outside : (image : Image) (shape : Shape) (at : ℕ) (x : Item) → IsProper image shape x → is_some (of_byte at x) ≡ true → Covers image at → ⊥
one_outside image shape at item.Head proper some covers = false≢true some
one_outside image shape at (item.Register number value) proper some covers = false≢true some
one_outside image shape at (item.Flags flags) proper some covers = false≢true some
one_outside image shape at (item.Fill byte) proper some covers = false≢true some
one_outside image shape at (item.Byte address byte) proper some covers = by_test (address == at) image address byte at refl proper.may some covers
one_outside image shape at (item.Set set lines) proper some covers = false≢true some
one_outside image shape at item.End proper some covers = false≢true some

some_of : {A : Type 0} (a b : Option A) → is_some (option_or a b) ≡ true → (is_some a ≡ true) ⊎ (is_some b ≡ true)
some_of (Some x) b some = inl refl
some_of None b some = inr some

outside : (image : Image) (shape : Shape) (at : ℕ) (items : List Item) → All (IsProper image shape) items → is_some (said (of_byte at) items) ≡ true → Covers image at → ⊥
outside image shape at [] proper some covers = false≢true some
outside image shape at (x ∷ items) proper some covers =
    elim (some_of (said (of_byte at) items) (of_byte at x) some) [
      | inl later ↦ outside image shape at items (All-tail (IsProper image shape) x items proper) later covers
      | inr here ↦ one_outside image shape at x (All-head (IsProper image shape) x items proper) here covers
    ]

pub made_outside : (image : Image) (shape : Shape) (entry : ℕ) (text : List ℕ) (items : List Item) (r : Result Start StartError) → IsStartText image shape text items → IfOk r (λ start. IsStartOf entry shape items start)
    → IfOk r (λ start. (at : ℕ) → is_written start.cpu.memory at ≡ true → Covers image at → ⊥)
made_outside image shape entry text items (Ok start) is_text is = λ at written covers. outside image shape at items is_text.are.start.proper (sym (is.memory.written at) ∙ written) covers
made_outside image shape entry text items (Err e) is_text is = tt
