-- That some start text begins with lines, of its lines and of its bytes.
use Rattle.std.proofs.Common.{◌≡◌, ◌↔◌, ℕ, ◌<◌, ◌==◌, false, List, [], ◌∷◌, ◌++◌, length, map, All, refl, sym, ◌∙◌, ap, subst, arith, append_assoc}
use Rattle.std.proofs.lemmas.List.{map-append, same_from_push}
use Rattle.std.proofs.lemmas.List.Folds.{concat-append}
use Rattle.std.proofs.lemmas.List.Elements.{All-head, All-tail}
use Rattle.std.proofs.lemmas.List.Splits.{slice_split_at, length-slice_split}
use Rattle.std.specs.List.{concat}
use Rattle.wx_base.specs.declared.image.Image.{Image}
use Rattle.wx_base.specs.declared.machine.Shape.{Shape}
use Rattle.start_file.specs.StartText.{lines_in, AreStartLines, IsStartText, Begins}
use Rattle.start_file.specs.StartLaws.{line_text, ended, IsFrontOfStartText, AreWithoutFeed}
use Rattle.start_file.proofs.StartWhole.{start_text, lines_of_words}

front_of : (image : Image) (shape : Shape) (lines : List (List ℕ)) → Begins image shape lines → IsFrontOfStartText image shape (ended lines)
front_of image shape lines begins =
    let e : concat (map line_text begins.items) ≡ ended lines ++ ended begins.further =
    ap concat (sym (lines_of_words (lines ++ begins.further) begins.items begins.are.spelled) ∙ map-append (λ line. line ++ 10 ∷ []) lines begins.further)
    ∙ concat-append (map (λ line. line ++ 10 ∷ []) lines) (map (λ line. line ++ 10 ∷ []) begins.further) in
    record {
      tail = ended begins.further;
      items = begins.items;
      is = subst (λ text. IsStartText image shape text begins.items) e (start_text image shape begins.items begins.are.start);
    }

-- a list that is not empty, as what stands before its last element, and that
record Ends {X : Type 0} (xs : List X) : Type 0 where
  front : List X
  last : X
  is : xs ≡ front ++ last ∷ []

ends_of : {X : Type 0} (x : X) (xs : List X) → Ends (x ∷ xs)
ends_of x [] = record { front = []; last = x; is = refl }
ends_of x (y ∷ xs) = let more = ends_of y xs in record { front = x ∷ more.front; last = more.last; is = ap (λ l. x ∷ l) more.is }

ends_some : {X : Type 0} (xs : List X) → 0 < length xs → Ends xs
ends_some [] some = absurd (omega (arith, some))
ends_some (x ∷ xs) some = ends_of x xs

lines_then : (lines : List (List ℕ)) (tail : List ℕ) → AreWithoutFeed lines → lines_in (ended lines ++ tail) ≡ lines ++ lines_in tail
lines_then [] tail free = refl
lines_then (line ∷ lines) tail free =
    ap lines_in (append_assoc (line ++ 10 ∷ []) (ended lines) tail ∙ append_assoc line (10 ∷ []) (ended lines ++ tail))
    ∙ slice_split_at (λ b. b == 10) line 10 (ended lines ++ tail) (All-head (λ line. All (λ b. (b == 10) ≡ false) line) line lines free) refl
    ∙ ap (λ parts. line ∷ parts) (lines_then lines tail (All-tail (λ line. All (λ b. (b == 10) ≡ false) line) line lines free))

begins_of : (image : Image) (shape : Shape) (lines : List (List ℕ)) → AreWithoutFeed lines → IsFrontOfStartText image shape (ended lines) → Begins image shape lines
begins_of image shape lines free front =
    let count = length-slice_split (λ b. b == 10) front.tail in
    let ends = ends_some (lines_in front.tail) (omega (arith, count)) in
    let whole : (lines ++ ends.front) ++ ends.last ∷ [] ≡ front.is.lines ++ [] ∷ [] =
    append_assoc lines ends.front (ends.last ∷ []) ∙ ap (λ parts. lines ++ parts) (sym ends.is) ∙ sym (lines_then lines front.tail free) ∙ front.is.split in
    record {
      further = ends.front;
      items = front.items;
      are = subst (λ l. AreStartLines image shape l front.items) (sym (same_from_push (lines ++ ends.front) front.is.lines ends.last [] whole).0) front.is.are;
    }

pub begun : (image : Image) (shape : Shape) (lines : List (List ℕ)) → AreWithoutFeed lines → Begins image shape lines ↔ IsFrontOfStartText image shape (ended lines)
begun image shape lines free = (front_of image shape lines, begins_of image shape lines free)
