-- A text tells one start, or has one refusal.
use Rattle.std.proofs.Common.{◌≡◌, ℕ, ◌+◌, ◌<◌, ◌≤◌, List, ◌++◌, length, take, drop, refl, sym, ap, ◌∙◌, subst, arith, append_assoc, ⊎_elim}
use Rattle.std.proofs.lemmas.Bool.{cases_lt}
use Rattle.std.proofs.lemmas.List.{same_from_push, take-append-drop, take-take}
use Rattle.wx_base.specs.declared.image.Image.{Image}
use Rattle.wx_base.specs.declared.machine.Shape.{Shape}
use Rattle.wx_base.specs.Cache.{IsCache}
use Rattle.cache_lru.specs.Lru.{IsFirstBad}
use Rattle.spelling_laws.specs.Laws.{ByteIsOne, DecimalIsOne, WordIsOne}
use Rattle.start_file.specs.declared.start_error.StartError.TheVariants.{Line, NotACache, NoMemory}
use Rattle.start_file.specs.StartText.{AreStartLines, Begins, IsFirstBadLine}
use Rattle.start_file.specs.StartSaid.{sets_said}
use Rattle.start_file.specs.StartRefusal.{IsStartOf}
use Rattle.start_laws.specs.Laws.{NotBoth, OneRefusal, OneStart}
use Rattle.start_laws.proofs.OneItem.{one_list}
use Rattle.start_laws.proofs.OneMade.{same_start}

-- what begins with some lines begins with the first of them
sooner : (image : Image) (shape : Shape) (lines : List (List ℕ)) (i n : ℕ) → i ≤ n → Begins image shape (take n lines) → Begins image shape (take i lines)
sooner image shape lines i n before begins =
    let whole : take i lines ++ drop i (take n lines) ≡ take n lines = ap (λ front. front ++ drop i (take n lines)) (sym (take-take i n lines before)) ∙ take-append-drop i (take n lines) in
    record {
      further = drop i (take n lines) ++ begins.further;
      items = begins.items;
      are =
          subst (λ l. AreStartLines image shape l begins.items)
          (ap (λ front. front ++ begins.further) (sym whole) ∙ append_assoc (take i lines) (drop i (take n lines)) begins.further) begins.are;
    }

not_sooner : (image : Image) (shape : Shape) (text : List ℕ) (m n : ℕ) (a : IsFirstBadLine image shape text m) (b : IsFirstBadLine image shape text n) → a.stand < b.stand → ⊥
not_sooner image shape text m n a b less =
    let same : b.lines ≡ a.lines = (same_from_push b.lines a.lines b.rest a.rest (sym b.split ∙ a.split)).0 in
    let size = ap length same in
    let within = b.within in
    a.no_further (omega (arith, less, size, within))
    (subst (λ lines. Begins image shape (take (a.stand + 1) lines)) same (sooner image shape b.lines (a.stand + 1) b.stand (omega (arith, less)) b.begins))

-- two numbers of which neither is below the other are one
same_number : (m n : ℕ) → (m < n → ⊥) → (n < m → ⊥) → m ≡ n
same_number m n p q = ⊎_elim (λ less. absurd (p less)) (λ more. ⊎_elim (λ less. absurd (q less)) (λ most. omega (arith, more, most)) (cases_lt n m)) (cases_lt m n)

one_line : (image : Image) (shape : Shape) (text : List ℕ) (m n : ℕ) → IsFirstBadLine image shape text m → IsFirstBadLine image shape text n → m ≡ n
one_line image shape text m n a b =
    a.counted ∙ ap (λ k. k + 1) (same_number a.stand b.stand (not_sooner image shape text m n a b) (not_sooner image shape text n m b a)) ∙ sym b.counted

one_set : (shape : Shape) (lists : List (List ℕ)) (m n : ℕ) → IsFirstBad shape lists m → IsFirstBad shape lists n → m ≡ n
one_set shape lists m n a b = same_number m n (λ less. a.bad (b.earlier m less)) (λ less. b.bad (a.earlier n less))

module _ (decimal : DecimalIsOne) (word : WordIsOne) (byte : ByteIsOne) where
  pub one_start : OneStart
  one_start image machine entry bytes a b p q =
      let same = one_list decimal word byte image machine.shape bytes q.told.items p.told.items q.told.is_text p.told.is_text in
      same_start image machine.shape entry p.told.items a b p.told.is (subst (λ items. IsStartOf entry machine.shape items b) same q.told.is) p.registers q.registers

  pub one_refusal : OneRefusal
  one_refusal image machine bytes NoMemory f p q some also = absurd (some refl)
  one_refusal image machine bytes e NoMemory p q some also = absurd (also refl)
  one_refusal image machine bytes (Line m) (Line n) p q some also = ap Line (one_line image machine.shape bytes m n p q)
  one_refusal image machine bytes (Line m) (NotACache n) p q some also = absurd (p.no_text q.items q.is_text)
  one_refusal image machine bytes (NotACache m) (Line n) p q some also = absurd (q.no_text p.items p.is_text)
  one_refusal image machine bytes (NotACache m) (NotACache n) p q some also =
      let same = one_list decimal word byte image machine.shape bytes q.items p.items q.is_text p.is_text in
      ap NotACache (one_set machine.shape (sets_said machine.shape p.items) m n p.bad (subst (λ items. IsFirstBad machine.shape (sets_said machine.shape items) n) same q.bad))

  pub not_both : NotBoth
  not_both image machine entry bytes start NoMemory p q = refl
  not_both image machine entry bytes start (Line n) p q = absurd (q.no_text p.told.items p.told.is_text)
  not_both image machine entry bytes start (NotACache n) p q =
      let same = one_list decimal word byte image machine.shape bytes q.items p.told.items q.is_text p.told.is_text in
      let bad : IsFirstBad machine.shape (sets_said machine.shape p.told.items) n = subst (λ items. IsFirstBad machine.shape (sets_said machine.shape items) n) same q.bad in
      let cache : IsCache machine.shape (sets_said machine.shape p.told.items) = subst (IsCache machine.shape) p.told.is.cache.of_lists p.cache in
      absurd (bad.bad (cache.each n bad.within))
