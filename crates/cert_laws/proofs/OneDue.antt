-- Bytes are the text of one certificate, or have one refusal.
use Rattle.std.proofs.Common.{◌≡◌, ◌≢◌, ⊎_elim, ℕ, ◌+◌, ◌<◌, true, List, [], ◌∷◌, ◌++◌, length, Some, refl, sym, ap, ◌∙◌, subst, arith, append-nil, length-append}
use Rattle.std.specs.Prelude.{slice_get}
use Rattle.std.proofs.lemmas.Bool.{cases_lt, false≢true}
use Rattle.std.proofs.lemmas.Option.{slice_get_within}
use Rattle.cert_lines.specs.declared.kind.Version.{Version}
use Rattle.cert_lines.specs.Grammar.{Begins, IsCut, IsText, Line, StopsAt}
use Rattle.cert_items.specs.declared.item.Item.{Item}
use Rattle.cert_items.specs.Said.{IsSaid}
use Rattle.cert_items.specs.Order.{is_in_order}
use Rattle.cert_items.specs.Faults.{AreItems, none, more, HasNumberFault, HasOrderFault}
use Rattle.cert_text.specs.declared.cert_error.CertError.TheVariants.{Syntax, NoEnd, Number, Order, NoMemory}
use Rattle.cert_text.specs.Told.{certificate_of}
use Rattle.spelling_laws.specs.Laws.{DecimalIsOne, WordIsOne}
use Rattle.cert_laws.specs.Laws.{NotBoth, OneCertificate, OneRefusal}
use Rattle.cert_laws.proofs.OneText.{one_text}
use Rattle.cert_laws.proofs.OneItem.{one_list, one_said, same_line}

-- no text goes on behind its end
abbrev pub NoLinesWithin : Type 0
NoLinesWithin = (v w : Version) (lines others : List Line) (bytes more : List ℕ) → more ≢ [] → IsText bytes v lines → IsText (bytes ++ more) w others → ⊥

-- ---- bytes
same_lines : (bytes : List ℕ) (v w : Version) (lines others : List Line) → IsText bytes v lines → IsText bytes w others → lines ≡ others
same_lines bytes v w lines others p q = (one_text bytes bytes p q refl).same_lines

text_begins : (bytes : List ℕ) (v : Version) (lines : List Line) → IsText bytes v lines → Begins bytes
text_begins bytes v lines text = record { more = []; version = v; lines = lines; text = subst (λ t. IsText t v lines) (sym (append-nil bytes)) text }

cut_begins : (bytes : List ℕ) → IsCut bytes → Begins bytes
cut_begins bytes cut = record { more = cut.more; version = cut.version; lines = cut.lines; text = cut.text }

-- two numbers of which neither is below the other are one
same_number : (m n : ℕ) → (m < n → ⊥) → (n < m → ⊥) → m ≡ n
same_number m n p q = ⊎_elim (λ less. absurd (p less)) (λ more. ⊎_elim (λ less. absurd (q less)) (λ most. omega (arith, more, most)) (cases_lt n m)) (cases_lt m n)

one_stop : (bytes : List ℕ) (m n : ℕ) → StopsAt bytes m → StopsAt bytes n → m ≡ n
one_stop bytes m n p q = same_number m n (λ less. p.longest n less q.begins) (λ less. q.longest m less p.begins)

-- ---- the first line with a fault
-- the lines before a place tell items, and behind these nothing in order stands at it
record IsStuck (lines : List Line) (place : ℕ) : Type 0 where
  before : List Item
  so : AreItems lines before
  long : length before ≡ place
  stuck : (line : Line) (x : Item) → slice_get lines place ≡ Some line → IsSaid line x → is_in_order lines before x ≡ true → ⊥

-- the items that lines tell, up to a place, and the one there
record HasFront (lines : List Line) (place : ℕ) : Type 0 where
  front : List Item
  so : AreItems lines front
  long : length front ≡ place
  line : Line
  tells : Item
  here : slice_get lines place ≡ Some line
  said : IsSaid line tells
  order : is_in_order lines front tells ≡ true

front_at : (lines : List Line) (items : List Item) → AreItems lines items → (place : ℕ) → place < length items → HasFront lines place
front_at lines items none place inside = absurd (omega (arith, inside))
front_at lines items (more {items = front} line x so here said ord) place inside =
    let size = length-append front (x ∷ []) in
    ⊎_elim (λ less. front_at lines front so place less)
    (λ most.
    let last : length front ≡ place = omega (arith, size, inside, most) in
    record { front = front; so = so; long = last; line = line; tells = x; here = subst (λ k. slice_get lines k ≡ Some line) last here; said = said; order = ord })
    (cases_lt place (length front))

module _ (one_decimal : DecimalIsOne) (one_word : WordIsOne) where
  -- no items go past such a place
  not_past : (lines : List Line) (place : ℕ) (items : List Item) → IsStuck lines place → AreItems lines items → place < length items → ⊥
  not_past lines place items stuck so inside =
      let f = front_at lines items so place inside in
      let same : f.front ≡ stuck.before = one_list one_decimal one_word lines f.front stuck.before f.so stuck.so (f.long ∙ sym stuck.long) in
      stuck.stuck f.line f.tells f.here f.said (subst (λ b. is_in_order lines b f.tells ≡ true) same f.order)

  one_place : (lines : List Line) (m n : ℕ) → IsStuck lines m → IsStuck lines n → m ≡ n
  one_place lines m n p q =
      same_number m n (λ less. not_past lines m q.before p q.so (subst (λ k. m < k) (sym q.long) less)) (λ less. not_past lines n p.before q p.so (subst (λ k. n < k) (sym p.long) less))

  number_stuck : (lines : List Line) (at : ℕ) (f : HasNumberFault lines at) → IsStuck lines (length f.before)
  number_stuck lines at f = record {
    before = f.before;
    so = f.so;
    long = refl;
    stuck = λ line x here said ord. f.fault x (subst (λ l. IsSaid l x) (same_line one_decimal one_word lines (length f.before) line f.line here f.here) said);
  }

  order_stuck : (lines : List Line) (at : ℕ) (f : HasOrderFault lines at) → IsStuck lines (length f.before)
  order_stuck lines at f = record {
    before = f.before;
    so = f.so;
    long = refl;
    stuck = λ line x here said ord.
        let lines_same = same_line one_decimal one_word lines (length f.before) line f.line here f.here in
        let same : x ≡ f.tells = one_said one_decimal one_word f.line x f.tells (subst (λ l. IsSaid l x) lines_same said) f.said in
        false≢true (sym f.fault ∙ subst (λ y. is_in_order lines f.before y ≡ true) same ord);
  }

  -- a line with a number fault tells nothing
  not_two_faults : (lines : List Line) (m n : ℕ) → HasNumberFault lines m → HasOrderFault lines n → ⊥
  not_two_faults lines m n p q =
      let places = one_place lines (length p.before) (length q.before) (number_stuck lines m p) (order_stuck lines n q) in
      let line = same_line one_decimal one_word lines (length p.before) q.line p.line (ap (slice_get lines) places ∙ q.here) p.here in
      p.fault q.tells (subst (λ l. IsSaid l q.tells) line q.said)

  one_number_fault : (lines : List Line) (m n : ℕ) → HasNumberFault lines m → HasNumberFault lines n → m ≡ n
  one_number_fault lines m n p q =
      p.counted ∙ ap (λ k. k + 1) (one_place lines (length p.before) (length q.before) (number_stuck lines m p) (number_stuck lines n q)) ∙ sym q.counted

  one_order_fault : (lines : List Line) (m n : ℕ) → HasOrderFault lines m → HasOrderFault lines n → m ≡ n
  one_order_fault lines m n p q =
      p.counted ∙ ap (λ k. k + 1) (one_place lines (length p.before) (length q.before) (order_stuck lines m p) (order_stuck lines n q)) ∙ sym q.counted

  -- lines that all tell something have no fault
  none_stuck : (lines : List Line) (place : ℕ) (items : List Item) (line : Line) → IsStuck lines place → slice_get lines place ≡ Some line → AreItems lines items → length items ≡ length lines → ⊥
  none_stuck lines place items line stuck here so all = not_past lines place items stuck so (subst (λ k. place < k) (sym all) (slice_get_within lines place line here))

  pub one_certificate : OneCertificate
  one_certificate bytes c d p q =
      let lines : q.lines ≡ p.lines = same_lines bytes q.version p.version q.lines p.lines q.text p.text in
      let so : AreItems p.lines q.items = subst (λ l. AreItems l q.items) lines q.so.so in
      let long : length p.items ≡ length q.items = p.so.all ∙ ap length (sym lines) ∙ sym q.so.all in
      p.is ∙ ap certificate_of (one_list one_decimal one_word p.lines p.items q.items p.so.so so long) ∙ sym q.is

  module _ (within : NoLinesWithin) where
    not_cut : (bytes : List ℕ) (v : Version) (lines : List Line) → IsText bytes v lines → IsCut bytes → ⊥
    not_cut bytes v lines text cut = within v cut.version lines cut.lines bytes cut.more cut.some text cut.text

    pub not_both : NotBoth
    not_both bytes c NoMemory p q = refl
    not_both bytes c (Syntax at) p q = absurd (q.none (text_begins bytes p.version p.lines p.text))
    not_both bytes c NoEnd p q = absurd (not_cut bytes p.version p.lines p.text q)
    not_both bytes c (Number at) p q =
        let lines = same_lines bytes p.version q.version p.lines q.lines p.text q.text in
        absurd (none_stuck q.lines (length q.fault.before) p.items q.fault.line (number_stuck q.lines at q.fault) q.fault.here (subst (λ l. AreItems l p.items) lines p.so.so) (p.so.all ∙ ap length lines))
    not_both bytes c (Order at) p q =
        let lines = same_lines bytes p.version q.version p.lines q.lines p.text q.text in
        absurd (none_stuck q.lines (length q.fault.before) p.items q.fault.line (order_stuck q.lines at q.fault) q.fault.here (subst (λ l. AreItems l p.items) lines p.so.so) (p.so.all ∙ ap length lines))

    pub one_refusal : OneRefusal
    one_refusal bytes NoMemory f p q some also = absurd (some refl)
    one_refusal bytes e NoMemory p q some also = absurd (also refl)
    one_refusal bytes (Syntax m) (Syntax n) p q some also = ap Syntax (one_stop bytes m n p q)
    one_refusal bytes (Syntax m) NoEnd p q some also = absurd (p.none (cut_begins bytes q))
    one_refusal bytes (Syntax m) (Number n) p q some also = absurd (p.none (text_begins bytes q.version q.lines q.text))
    one_refusal bytes (Syntax m) (Order n) p q some also = absurd (p.none (text_begins bytes q.version q.lines q.text))
    one_refusal bytes NoEnd (Syntax n) p q some also = absurd (q.none (cut_begins bytes p))
    one_refusal bytes NoEnd NoEnd p q some also = refl
    one_refusal bytes NoEnd (Number n) p q some also = absurd (not_cut bytes q.version q.lines q.text p)
    one_refusal bytes NoEnd (Order n) p q some also = absurd (not_cut bytes q.version q.lines q.text p)
    one_refusal bytes (Number m) (Syntax n) p q some also = absurd (q.none (text_begins bytes p.version p.lines p.text))
    one_refusal bytes (Number m) NoEnd p q some also = absurd (not_cut bytes p.version p.lines p.text q)
    one_refusal bytes (Number m) (Number n) p q some also =
        let lines = same_lines bytes q.version p.version q.lines p.lines q.text p.text in
        ap Number (one_number_fault p.lines m n p.fault (subst (λ l. HasNumberFault l n) lines q.fault))
    one_refusal bytes (Number m) (Order n) p q some also =
        let lines = same_lines bytes q.version p.version q.lines p.lines q.text p.text in
        absurd (not_two_faults p.lines m n p.fault (subst (λ l. HasOrderFault l n) lines q.fault))
    one_refusal bytes (Order m) (Syntax n) p q some also = absurd (q.none (text_begins bytes p.version p.lines p.text))
    one_refusal bytes (Order m) NoEnd p q some also = absurd (not_cut bytes p.version p.lines p.text q)
    one_refusal bytes (Order m) (Number n) p q some also =
        let lines = same_lines bytes q.version p.version q.lines p.lines q.text p.text in
        absurd (not_two_faults p.lines n m (subst (λ l. HasNumberFault l n) lines q.fault) p.fault)
    one_refusal bytes (Order m) (Order n) p q some also =
        let lines = same_lines bytes q.version p.version q.lines p.lines q.text p.text in
        ap Order (one_order_fault p.lines m n p.fault (subst (λ l. HasOrderFault l n) lines q.fault))
