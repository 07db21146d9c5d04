-- Reading a certificate is reading its lines and then what they tell.
use Rattle.std.proofs.Common.{◌≡◌, ◌⊎◌, inl, inr, ⊎_elim, ℕ, List, [], ◌++◌, Err, refl, sym, ap, subst, ◌∙◌}
use Rattle.std.specs.Prelude.{◌≢◌, Result}
use Rattle.cert_lines.specs.declared.kind.Version.{Version}
use Rattle.cert_lines.specs.declared.lines_error.LinesError.{LinesError}
use Rattle.cert_lines.specs.declared.lines_error.LinesError.TheVariants as lines
use Rattle.cert_lines.specs.Grammar.{Line, IsText, IsCut}
use Rattle.cert_lines.specs.Reading.{IsRefusal as IsLinesRefusal}
use Rattle.cert_items.specs.declared.items_error.ItemsError.{ItemsError}
use Rattle.cert_items.specs.declared.items_error.ItemsError.TheVariants as items
use Rattle.cert_items.specs.Faults.{HasNumberFault, HasOrderFault, IsRefusal as IsItemsRefusal}
use Rattle.cert_text.specs.declared.certificate.Certificate.{Certificate}
use Rattle.cert_text.specs.declared.cert_error.CertError.{CertError}
use Rattle.cert_text.specs.declared.cert_error.CertError.TheVariants.{Syntax, NoEnd, Number, Order, NoMemory}
use Rattle.cert_text.specs.Text.{IsTextOf, IsNumberAt, IsOrderAt, IsRefusal, IsRefusedFor, of_items}

-- ---- want of memory is no other refusal
syntax_is : (at : ℕ) → lines.Syntax at ≡ lines.NoMemory → ⊥
syntax_is at e = cc

no_end_is : lines.NoEnd ≡ lines.NoMemory → ⊥
no_end_is e = cc

number_is : (line : ℕ) → items.Number line ≡ items.NoMemory → ⊥
number_is line e = cc

order_is : (line : ℕ) → items.Order line ≡ items.NoMemory → ⊥
order_is line e = cc

pub end_is : NoEnd ≡ NoMemory → ⊥
end_is e = cc

-- what is left out at the end of a text leaves it cut
pub front_is_cut : (b more : List ℕ) (c : Certificate) → more ≢ [] → IsTextOf (b ++ more) c → IsCut b
front_is_cut b more c some t = record { more = more; some = some; version = t.version; lines = t.lines; text = t.text }

-- the bytes have these lines alone, and no cause against them
pub record AreLinesOf (b : List ℕ) (ls : List Line) : Type 0 where
  pub one : (v : Version) (others : List Line) → IsText b v others → ls ≡ others
  pub right : (x : LinesError) → IsLinesRefusal b x → x ≢ lines.NoMemory → ⊥

number_in : (b : List ℕ) (ls : List Line) (line : ℕ) → AreLinesOf b ls → IsNumberAt b line → HasNumberFault ls line
number_in b ls line a is = subst (λ (l : List Line). HasNumberFault l line) (sym (a.one is.version is.lines is.text)) is.fault

order_in : (b : List ℕ) (ls : List Line) (line : ℕ) → AreLinesOf b ls → IsOrderAt b line → HasOrderFault ls line
order_in b ls line a is = subst (λ (l : List Line). HasOrderFault l line) (sym (a.one is.version is.lines is.text)) is.fault

-- the refusal of what the lines tell is the one that is due
due_for : (b : List ℕ) (ls : List Line) (x : ItemsError) (e : CertError) → AreLinesOf b ls → ((y : ItemsError) → IsItemsRefusal ls y → y ≢ items.NoMemory → (x ≡ y) ⊎ (x ≡ items.NoMemory))
    → IsRefusal b e → e ≢ NoMemory → (of_items x ≡ e) ⊎ (of_items x ≡ NoMemory)
due_for b ls x (Syntax at) a due is other = absurd (a.right (lines.Syntax at) is (syntax_is at))
due_for b ls x NoEnd a due is other = absurd (a.right lines.NoEnd is no_end_is)
due_for b ls x (Number line) a due is other = ⊎_elim (λ same. inl (ap of_items same)) (λ none. inr (ap of_items none)) (due (items.Number line) (number_in b ls line a is) (number_is line))
due_for b ls x (Order line) a due is other = ⊎_elim (λ same. inl (ap of_items same)) (λ none. inr (ap of_items none)) (due (items.Order line) (order_in b ls line a is) (order_is line))
due_for b ls x NoMemory a due is other = absurd (other refl)

pub items_due : (b : List ℕ) (ls : List Line) (x : ItemsError) (r : Result Certificate CertError) (y e : CertError) → r ≡ Err y → y ≡ of_items x → AreLinesOf b ls
    → ((y : ItemsError) → IsItemsRefusal ls y → y ≢ items.NoMemory → (x ≡ y) ⊎ (x ≡ items.NoMemory)) → IsRefusal b e → e ≢ NoMemory → IsRefusedFor r e
items_due b ls x r y e same gives a due is other = subst (λ (r : Result Certificate CertError). IsRefusedFor r e) (sym (same ∙ ap Err gives)) (due_for b ls x e a due is other)

-- nothing is due where the lines and what they tell are as they must be
pub none_due : (b : List ℕ) (ls : List Line) (e : CertError) → AreLinesOf b ls → ((y : ItemsError) → IsItemsRefusal ls y → y ≢ items.NoMemory → ⊥) → IsRefusal b e → e ≢ NoMemory → ⊥
none_due b ls (Syntax at) a due is other = a.right (lines.Syntax at) is (syntax_is at)
none_due b ls NoEnd a due is other = a.right lines.NoEnd is no_end_is
none_due b ls (Number line) a due is other = due (items.Number line) (number_in b ls line a is) (number_is line)
none_due b ls (Order line) a due is other = due (items.Order line) (order_in b ls line a is) (order_is line)
none_due b ls NoMemory a due is other = other refl
