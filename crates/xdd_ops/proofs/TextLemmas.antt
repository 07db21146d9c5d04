-- The lines of one more place.
use Rattle.std.proofs.Common.{◌≡◌, ℕ, ◌+◌, ◌<◌, ◌^◌, List, [], ◌∷◌, ◌++◌, length, slice_get, take, get_or, Option, Some, IfSome, refl, sym, ap, ◌∙◌, arith, append_assoc}
use Rattle.std.proofs.lemmas.List.{take_more}
use Rattle.std.proofs.lemmas.Option.{slice_get_within, get_or_from_slice_get}
use Rattle.xdd_table.specs.declared.node.Node.{Node}
use Rattle.xdd_table.specs.Diagram.{IsTable}
use Rattle.xdd_table.specs.Order.{Finishes}
use Rattle.xdd_ops.specs.Text.{line_at, lines_of, diagram_text, FitsNode, IsTextOf}
use Rattle.xdd_ops.proofs.PlaceLemmas.{length_push, walk_end}
use Rattle.xdd_ops.proofs.ReadLemmas.{append_none}
use borrow.Author.Count.{below_more}

lines_push : (nodes : List Node) (places some : List ℕ) (p : ℕ) → lines_of nodes places (some ++ p ∷ []) ≡ lines_of nodes places some ++ line_at places (slice_get nodes p)
lines_push nodes places [] p = append_none (line_at places (slice_get nodes p))
lines_push nodes places (x ∷ xs) p =
    ap (λ l. line_at places (slice_get nodes x) ++ l) (lines_push nodes places xs p)
    ∙ sym (append_assoc (line_at places (slice_get nodes x)) (lines_of nodes places xs) (line_at places (slice_get nodes p)))

-- a text with one more line
pub lines_more : (nodes : List Node) (places : List ℕ) (i : ℕ) (start text next : List ℕ) → i < length places → text ≡ start ++ lines_of nodes places (take i places)
    → next ≡ text ++ line_at places (slice_get nodes (get_or places i 0)) → next ≡ start ++ lines_of nodes places (take (i + 1) places)
lines_more nodes places i start text next h before is =
    let m = take_more places i 0 h in
    let l = lines_push nodes places (take i places) (get_or places i 0) in
    rw (m, l, ← append_assoc) (is ∙ ap (λ t. t ++ line_at places (slice_get nodes (get_or places i 0))) before)

-- the nodes of one more place fit
pub fit_more : (nodes : List Node) (places : List ℕ) (i : ℕ) → ((k : ℕ) → k < i → IfSome (slice_get nodes (get_or places k 0)) FitsNode) → IfSome (slice_get nodes (get_or places i 0)) FitsNode
    → (k : ℕ) → k < i + 1 → IfSome (slice_get nodes (get_or places k 0)) FitsNode
fit_more nodes places i below here = below_more (λ k. IfSome (slice_get nodes (get_or places k 0)) FitsNode) i below here

fits_node : (o : Option Node) (n : Node) → o ≡ Some n → IfSome o FitsNode → FitsNode n
fits_node o n e h = rw e at h

-- a text that was printed line by line
pub text_printed : (nodes : List Node) (p : ℕ) (text places : List ℕ) → Finishes nodes p [] places → text ≡ diagram_text nodes places → length places < 2 ^ 64 → (0 < length places → IsTable nodes)
    → ((k : ℕ) → k < length places → IfSome (slice_get nodes (get_or places k 0)) FitsNode) → IsTextOf nodes p text
text_printed nodes p text places walk is count table fit =
    let w = walk_end nodes walk refl in
    record {
      table = table (omega (arith, ap length w.1, length_push w.0 p));
      places = places;
      walk = walk;
      is = is;
      count = count;
      fit = λ i q n a at.
          let h = slice_get_within places i q a in
          let g = get_or_from_slice_get places i q 0 a in
          fits_node (slice_get nodes q) n at (rw g at (fit i h));
    }
