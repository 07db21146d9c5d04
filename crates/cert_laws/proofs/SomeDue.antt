-- Bytes are the text of a certificate or are refused. What is shown is that it cannot be otherwise, so each step may go on as if
-- every statement held or did not.
use Rattle.std.proofs.Common.{◌≡◌, ⊎_elim, ℕ, zero, suc, ◌+◌, ◌<◌, ◌≤◌, Bool, true, false, codes, List, [], ◌∷◌, ◌++◌, length, take, drop, Some, refl, sym, ap, ◌∙◌, subst, arith, append_assoc, append-nil, length-append}
use Rattle.std.specs.Prelude.{slice_get}
use Rattle.std.proofs.lemmas.List.{take-append-drop, take_all, take-take}
use Rattle.std.proofs.lemmas.Option.{slice_get_cases}
use Rattle.cert_lines.specs.declared.kind.Version.{Version}
use Rattle.cert_lines.specs.declared.kind.Kind.TheVariants as kind
use Rattle.cert_lines.specs.declared.kind.Role.TheVariants as role
use Rattle.cert_lines.specs.Grammar.{Line, IsText, Begins, StopsAt, IsCut}
use Rattle.cert_lines.specs.Grammar.IsBegun.{named, worded}
use Rattle.cert_lines.specs.Grammar.AreLines.{empty, lined}
use Rattle.cert_items.specs.declared.item.Item.{Item}
use Rattle.cert_items.specs.Said.{IsSaid}
use Rattle.cert_items.specs.Order.{is_in_order}
use Rattle.cert_items.specs.Faults.{AreItems, none, more}
use Rattle.cert_text.specs.declared.certificate.Certificate.{Certificate}
use Rattle.cert_text.specs.declared.cert_error.CertError.{CertError}
use Rattle.cert_text.specs.declared.cert_error.CertError.TheVariants.{Syntax, NoEnd, Number, Order, NoMemory}
use Rattle.cert_text.specs.Told.{certificate_of}
use Rattle.cert_text.specs.Text.{IsTextOf, IsRefusal}

-- ---- fronts of texts
-- some text begins with nothing
nothing : Begins []
nothing = record {
  more = _;
  version = _;
  lines = _;
  text =
      lined kind.End
      (lined kind.Bound (lined kind.Head empty refl (worded role.Version (codes "1") named refl refl) refl) refl (worded role.Last (codes "0") named refl refl) refl)
      refl named refl;
}

-- what begins with some bytes begins with the first of them
sooner : (bytes : List ℕ) (m n : ℕ) → m ≤ n → Begins (take n bytes) → Begins (take m bytes)
sooner bytes m n before b =
    let whole : take m bytes ++ drop m (take n bytes) ≡ take n bytes = ap (λ (x : List ℕ). x ++ drop m (take n bytes)) (sym (take-take m n bytes before)) ∙ take-append-drop m (take n bytes) in
    record {
      more = drop m (take n bytes) ++ b.more;
      version = b.version;
      lines = b.lines;
      text = subst (λ t. IsText t b.version b.lines) (ap (λ (x : List ℕ). x ++ b.more) (sym whole) ∙ append_assoc (take m bytes) (drop m (take n bytes)) b.more) b.text;
    }

module _ (bytes : List ℕ) (no_text : (c : Certificate) → IsTextOf bytes c → ⊥) (no_refusal : (e : CertError) → IsRefusal bytes e → e ≡ NoMemory) where
  -- ---- lines
  module _ (version : Version) (lines : List Line) (text : IsText bytes version lines) where
    no_number : (before : List Item) (line : Line) → AreItems lines before → slice_get lines (length before) ≡ Some line → ((x : Item) → IsSaid line x → ⊥) → ⊥
    no_number before line so here fault =
        let e = no_refusal (Number (length before + 1)) (record {
          version = version;
          lines = lines;
          text = text;
          fault = record { before = before; so = so; counted = refl; line = line; here = here; fault = fault };
        }) in
        cc

    no_order : (before : List Item) (line : Line) (x : Item) → AreItems lines before → slice_get lines (length before) ≡ Some line → IsSaid line x → is_in_order lines before x ≡ false → ⊥
    no_order before line x so here said fault =
        let e = no_refusal (Order (length before + 1)) (record {
          version = version;
          lines = lines;
          text = text;
          fault = record { before = before; so = so; counted = refl; line = line; here = here; tells = x; said = said; fault = fault };
        }) in
        cc

    line_at : (k : ℕ) → k < length lines → (line : Line) × (slice_get lines k ≡ Some line)
    line_at k inside =
        ⊎_elim (λ found. (found.0, found.2)) (λ past. absurd (omega (arith, inside, past.0))) (slice_get_cases lines k).1

    -- the lines are read one after another
    read_lines : (k : ℕ) → k ≤ length lines → ((items : List Item) → AreItems lines items → length items ≡ k → ⊥) → ⊥
    read_lines zero inside stop = stop [] none refl
    read_lines (suc k) inside stop =
        read_lines k (omega (arith, inside))
        (λ items so count.
        let line = line_at k (omega (arith, inside)) in
        let here : slice_get lines (length items) ≡ Some line.0 = ap (slice_get lines) count ∙ line.1 in
        no_number items line.0 so here (λ x said. go_on items line.0 x so here said count (is_in_order lines items x) refl))
      where
        go_on : (items : List Item) (line : Line) (x : Item) → AreItems lines items → slice_get lines (length items) ≡ Some line → IsSaid line x → length items ≡ k → (b : Bool) → is_in_order lines items x ≡ b → ⊥
        go_on items line x so here said count true e = stop (items ++ x ∷ []) (more line x so here said e) (omega (arith, length-append items (x ∷ []), count))
        go_on items line x so here said count false e = no_order items line x so here said e

    no_whole : ⊥
    no_whole =
        read_lines (length lines) (omega arith)
        (λ items so count. no_text (certificate_of items) (record { version = version; lines = lines; text = text; items = items; so = record { so = so; all = count }; is = refl }))

  -- ---- bytes
  no_cut : IsCut bytes → ⊥
  no_cut cut = let e = no_refusal NoEnd cut in cc

  no_stop : (at : ℕ) → StopsAt bytes at → ⊥
  no_stop at stops = let e = no_refusal (Syntax at) stops in cc

  by_rest : (rest : List ℕ) (version : Version) (lines : List Line) → IsText (bytes ++ rest) version lines → ⊥
  by_rest [] version lines text = no_whole version lines (subst (λ t. IsText t version lines) (append-nil bytes) text)
  by_rest (c ∷ rest) version lines text = no_cut (record { more = c ∷ rest; some = λ e. cc; version = version; lines = lines; text = text })

  no_front : Begins bytes → ⊥
  no_front b = by_rest b.more b.version b.lines b.text

  -- each front begins a text, since else some front is the longest that does
  each_front : (n : ℕ) → n ≤ length bytes → (Begins (take n bytes) → ⊥) → ⊥
  each_front zero inside stop = stop nothing
  each_front (suc n) inside stop =
      each_front n (omega (arith, inside))
      (λ begins.
      no_stop n
      (record {
        none = no_front;
        within = omega (arith, inside);
        begins = begins;
        longest = λ m long b. stop (sooner bytes (suc n) m (omega (arith, long)) b);
      }))

  pub some_is_due : ⊥
  some_is_due = each_front (length bytes) (omega arith) (λ b. no_front (subst Begins (take_all (length bytes) bytes (omega arith)) b))
