-- A text of version 2 is what is written of the certificate that it tells.
use Rattle.std.proofs.Common.{◌≡◌, ℕ, List, [], ◌∷◌, ◌++◌, map, drop, Some, None, refl, sym, ◌∙◌, ap, append_assoc, append-nil}
use Rattle.std.specs.Prelude.{Option, flat_map}
use Rattle.std.proofs.lemmas.Grind.{flat_map-append}
use Rattle.cert_lines.specs.declared.kind.Version.{Version}
use Rattle.cert_lines.specs.declared.kind.Kind.{Kind}
use Rattle.cert_lines.specs.declared.kind.Kind.TheVariants as kind
use Rattle.cert_lines.specs.declared.kind.Role.{Role}
use Rattle.cert_lines.specs.declared.kind.Role.TheVariants.{Name}
use Rattle.cert_lines.specs.Table.{name_of, next, separator}
use Rattle.cert_lines.specs.Grammar.{Line, IsBegun, AreLines, IsText}
use Rattle.cert_lines.specs.Grammar.IsBegun.{named, worded}
use Rattle.cert_lines.specs.Grammar.AreLines.{empty, lined}
use Rattle.cert_items.specs.declared.item.Item.{Item}
use Rattle.cert_items.specs.Said.{kind_of, IsSaid}
use Rattle.cert_items.specs.Faults.{AreAllItems}
use Rattle.cert_text.specs.Written.{spelled, line_text, text_of}
use Rattle.cert_text.proofs.ChainLemmas.{all_are}

-- ---- the bytes of lines
-- the role of the word behind some words, the first of which has this role
abbrev leads : Kind → Option Role → List (List ℕ) → Option Role
leads kind o [] = o
leads kind None (word ∷ words) = None
leads kind (Some r) (word ∷ words) = leads kind (next kind r) words

-- one word more
leads_push : (kind : Kind) (o : Option Role) (words : List (List ℕ)) (word : List ℕ) (r : Role) → leads kind o words ≡ Some r → leads kind o (words ++ word ∷ []) ≡ next kind r
leads_push kind o [] word r e = ap (λ (q : Option Role). leads kind q (word ∷ [])) e
leads_push kind None (w ∷ words) word r e = absurd (cc)
leads_push kind (Some q) (w ∷ words) word r e = leads_push kind (next kind q) words word r e

spelled_nil : (kind : Kind) (o : Option Role) → spelled kind o [] ≡ []
spelled_nil kind None = refl
spelled_nil kind (Some r) = refl

spelled_push : (kind : Kind) (o : Option Role) (words : List (List ℕ)) (word : List ℕ) (r : Role) → leads kind o words ≡ Some r → spelled kind o (words ++ word ∷ []) ≡ spelled kind o words ++ separator r ∷ word
spelled_push kind o [] word r e =
    let last : spelled kind (Some r) (word ∷ []) ≡ separator r ∷ word = ap (λ t. separator r ∷ (word ++ t)) (spelled_nil kind (next kind r)) ∙ ap (λ t. separator r ∷ t) (append-nil word) in
    ap (λ (q : Option Role). spelled kind q (word ∷ [])) e ∙ last ∙ ap (λ t. t ++ separator r ∷ word) (sym (spelled_nil kind o))
spelled_push kind None (w ∷ words) word r e = absurd (cc)
spelled_push kind (Some q) (w ∷ words) word r e =
    ap (λ t. separator q ∷ (w ++ t)) (spelled_push kind (next kind q) words word r e) ∙ ap (λ t. separator q ∷ t) (sym (append_assoc w (spelled kind (next kind q) words) (separator r ∷ word)))

-- a line is its words as they are spelled
record IsSpelled (kind : Kind) (words : List (List ℕ)) (r : Role) (line : List ℕ) : Type 0 where
  behind : List (List ℕ)
  is : words ≡ name_of kind ∷ behind
  following : leads kind (next kind Name) behind ≡ next kind r
  text : line ≡ name_of kind ++ spelled kind (next kind Name) behind

spelled_of : (kind : Kind) (words : List (List ℕ)) (r : Role) (line : List ℕ) → IsBegun kind words r line → IsSpelled kind words r line
spelled_of kind words r line named = record { behind = []; is = refl; following = refl; text = sym (ap (λ t. name_of kind ++ t) (spelled_nil kind (next kind Name)) ∙ append-nil (name_of kind)) }
spelled_of kind words r line (worded {words = earlier} {role = q} {text = text} following word begun leads_to is) =
    let s = spelled_of kind earlier q text begun in
    let e : leads kind (next kind Name) s.behind ≡ Some following = s.following ∙ leads_to in
    record {
      behind = s.behind ++ word ∷ [];
      is = ap (λ (l : List (List ℕ)). l ++ word ∷ []) s.is;
      following = leads_push kind (next kind Name) s.behind word following e;
      text = ap (λ t. t ++ separator following ∷ word) s.text ∙ append_assoc (name_of kind) (spelled kind (next kind Name) s.behind) (separator following ∷ word)
          ∙ ap (λ t. name_of kind ++ t) (sym (spelled_push kind (next kind Name) s.behind word following e));
    }

-- the bytes of a line
line_bytes : Line → List ℕ
line_bytes line = name_of line.kind ++ (spelled line.kind (next line.kind Name) (drop 1 line.words) ++ 10 ∷ [])

text_bytes : (v : Version) (lines : List Line) (last : Option Kind) (text : List ℕ) → AreLines v lines last text → text ≡ flat_map line_bytes lines
unfolding line_bytes
text_bytes v lines last text empty = refl
text_bytes v lines last text (lined {v = w} {lines = before} {last = earlier} {text = front} {words = words} {role = r} {line = line} kind so stand begun ends) =
    let s = spelled_of kind words r line begun in
    let this : Line = record { kind = kind; words = words } in
    let here : line ++ 10 ∷ [] ≡ line_bytes this =
    ap (λ t. t ++ 10 ∷ []) s.text ∙ append_assoc (name_of kind) (spelled kind (next kind Name) s.behind) (10 ∷ [])
    ∙ ap (λ (l : List (List ℕ)). name_of kind ++ (spelled kind (next kind Name) (drop 1 l) ++ 10 ∷ [])) (sym s.is) in
    ap (λ t. t ++ (line ++ 10 ∷ [])) (text_bytes w before earlier front so) ∙ ap (λ t. flat_map line_bytes before ++ t) (here ∙ sym (append-nil (line_bytes this))) ∙ sym (flat_map-append line_bytes before (this ∷ []))

same_bytes : (line : Line) (x : Item) → IsSaid line x → line_bytes line ≡ line_text x
unfolding line_bytes
same_bytes line x said =
    ap (λ (k : Kind). name_of k ++ (spelled k (next k Name) (drop 1 line.words) ++ 10 ∷ [])) (sym said.says.0)
    ∙ ap (λ (l : List (List ℕ)). name_of (kind_of x) ++ (spelled (kind_of x) (next (kind_of x) Name) l ++ 10 ∷ [])) said.says.1

flat_by : {A B C : Type 0} (f : A → List C) (g : B → List C) (xs : List A) (ys : List B) → map f xs ≡ map g ys → flat_map f xs ≡ flat_map g ys
flat_by f g [] [] e = refl
flat_by f g [] (y ∷ ys) e = absurd (cc)
flat_by f g (x ∷ xs) [] e = absurd (cc)
flat_by f g (x ∷ xs) (y ∷ ys) e =
    let first : f x ≡ g y = cc in
    let rest : map f xs ≡ map g ys = cc in
    ap (λ t. t ++ flat_map f xs) first ∙ ap (λ t. g y ++ t) (flat_by f g xs ys rest)

pub bytes_are : (bytes : List ℕ) (v : Version) (lines : List Line) (items : List Item) → IsText bytes v lines → AreAllItems lines items → bytes ≡ text_of items
bytes_are bytes v lines items text a = text_bytes v lines (Some kind.End) bytes text ∙ flat_by line_bytes line_text lines items (all_are line_bytes line_text same_bytes lines items a)
