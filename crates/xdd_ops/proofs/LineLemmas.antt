-- Where no line is read, none stands.
use Rattle.std.proofs.Common.{◌≡◌, ℕ, ◌<◌, ◌^◌, List, ◌++◌, length, drop, get_or, codes, Option, Some, None, IfNone, sym, ap, ◌∙◌, arith}
use Rattle.std.proofs.lemmas.Option.{none-some, same_Some}
use Rattle.std.specs.Fmt.{decimal}
use Rattle.xdd_table.specs.declared.node.Dd.{Dd}
use Rattle.xdd_table.specs.declared.node.Node.{Node}
use Rattle.xdd_table.specs.declared.node.Node.TheVariants.{Leaf, Branch}
use Rattle.xdd_ops.specs.Read.{line_text, IsLineAt, IsBranchLine}
use Rattle.xdd_ops.specs.Refusal.{BeginsWithLine}

pub if_none : {X : Type 0} (r : Option X) (P : Type 0) → P → IfNone r P
if_none None P p = p
if_none (Some x) P p = tt

-- what stands behind `leaf ` in a line
leaf_of : (lines : List Node) (a b : List ℕ) (Q : Type 0) → a ≡ codes "leaf " ++ b → ((t : ℕ) (tail : List ℕ) → t < 2 ^ 64 → b ≡ decimal t ++ codes "\n" ++ tail → Q) → BeginsWithLine lines a → Q
leaf_of lines a b Q e more w = by_line w.line w.proper w.text
  where
    by_line : (x : Node) → IsLineAt lines (length lines) x → a ≡ line_text x ++ w.tail → Q
    by_line (Leaf t) small text = more t w.tail small (ap (drop 5) (sym e ∙ text))
    by_line (Branch e' hit miss) small text = let first : 108 ≡ 98 = ap (λ l. get_or l 0 0) (sym e ∙ text) in absurd (omega (arith, first))

pub no_leaf : (r : Option Node) (lines : List Node) (a b : List ℕ) (After : List ℕ → Type 0) → a ≡ codes "leaf " ++ b
    → ((t : ℕ) (tail : List ℕ) → t < 2 ^ 64 → b ≡ decimal t ++ codes "\n" ++ tail → (r ≡ Some (Leaf t)) × After tail) → IfNone r (BeginsWithLine lines a → ⊥)
no_leaf (Some x) lines a b After e again = tt
no_leaf None lines a b After e again = leaf_of lines a b ⊥ e (λ t tail small text. none-some (Leaf t) (again t tail small text).0)

-- what stands behind `branch ` in a line
pub branch_of : (lines : List Node) (a b : List ℕ) (Q : Type 0) → length lines < 2 ^ 64 → a ≡ codes "branch " ++ b
    → ((e h m : ℕ) (tail : List ℕ) → IsBranchLine lines (length lines) e h m → e < 2 ^ 32 → h < 2 ^ 64 → m < 2 ^ 64 → b ≡ decimal e ++ codes " " ++ decimal h ++ codes " " ++ decimal m ++ codes "\n" ++ tail → Q)
    → BeginsWithLine lines a → Q
branch_of lines a b Q few e more w = by_line w.line w.proper w.text
  where
    by_line : (x : Node) → IsLineAt lines (length lines) x → a ≡ line_text x ++ w.tail → Q
    by_line (Leaf t) small text = let first : 98 ≡ 108 = ap (λ l. get_or l 0 0) (sym e ∙ text) in absurd (omega (arith, first))
    by_line (Branch e' hit miss) line text =
        let h : hit.place < length lines = line.hit_earlier in
        let m : miss.place < length lines = line.miss_earlier in
        more e' hit.place miss.place w.tail line line.small (omega arith) (omega arith) (ap (drop 7) (sym e ∙ text))

-- the parts of three numbers that were read
pub read_event : (a b c x y z : ℕ) → ◌≡◌ {A = Option (ℕ × ℕ × ℕ)} (Some (a, b, c)) (Some (x, y, z)) → a ≡ x
read_event a b c x y z e = ap (λ (p : ℕ × ℕ × ℕ). p.0) (same_Some (a, b, c) (x, y, z) e)

pub read_hit : (a b c x y z : ℕ) → ◌≡◌ {A = Option (ℕ × ℕ × ℕ)} (Some (a, b, c)) (Some (x, y, z)) → b ≡ y
read_hit a b c x y z e = ap (λ (p : ℕ × ℕ × ℕ). p.1) (same_Some (a, b, c) (x, y, z) e)

pub read_miss : (a b c x y z : ℕ) → ◌≡◌ {A = Option (ℕ × ℕ × ℕ)} (Some (a, b, c)) (Some (x, y, z)) → c ≡ z
read_miss a b c x y z e = ap (λ (p : ℕ × ℕ × ℕ). p.2) (same_Some (a, b, c) (x, y, z) e)

pub dd_same : (a b : Dd) → a.place ≡ b.place → a ≡ b
dd_same a b e = ap (λ x. record { place = x }) e

-- the places of a branch
abbrev pub hit_place : Node → ℕ
hit_place (Leaf t) = 0
hit_place (Branch e hit miss) = hit.place

abbrev pub miss_place : Node → ℕ
miss_place (Leaf t) = 0
miss_place (Branch e hit miss) = miss.place
