-- Where the lines of a certificate's text stand as they must, by what they tell. This project's own format.
use Rattle.std.specs.Prelude.{ℕ, ◌+◌, ◌-◌, Bool, true, false, ◌&&◌, not, ◌==◌, nat_lt, List, [], ◌∷◌, length, drop, map, slice_get, set, replicate, Option, Some, None, fold, count_by, if◌then◌else◌}
use Rattle.std.specs.List.{list_all, list_any}
use Rattle.std.specs.Ordering.{nat_cmp}
use Rattle.std.specs.declared.cmp.Ordering.{Ordering}
use Rattle.std.specs.declared.cmp.Ordering.TheVariants.{Less}
use Rattle.std.specs.Cmp.Lexicographic.{slice_cmp}
use Rattle.wx_text.specs.Cursor.{number_at}
use Rattle.flow_ctx.specs.declared.scope.Scope.{Scope}
use Rattle.flow_ctx.specs.declared.scope.Scope.TheVariants.{Run, Loop}
use Rattle.cert_lines.specs.declared.kind.Kind.{Kind}
use Rattle.cert_lines.specs.declared.kind.Kind.TheVariants as kind
use Rattle.cert_lines.specs.Grammar.{Line}
use Rattle.cert_items.specs.declared.item.Pair.{Pair}
use Rattle.cert_items.specs.declared.item.Item.{Item}
use Rattle.cert_items.specs.declared.item.Item.TheVariants as item

-- ---- kinds and numbers
abbrev pub is_kind : Kind → Kind → Bool
is_kind kind.Vector kind.Vector = true
is_kind kind.Listed kind.Listed = true
is_kind kind.Places kind.Places = true
is_kind a b = false

abbrev pub tells : ℕ → Option ℕ → Bool
tells n (Some m) = m == n
tells n None = false

-- ---- numbers that ascend
-- whether the number is above the one before it
abbrev pub above : Option ℕ → ℕ → Bool
above None n = true
above (Some m) n = nat_lt m n

-- whether each number is above the one before it, where the first stands behind another
abbrev pub ascend : Option ℕ → List ℕ → Bool
ascend last [] = true
ascend last (n ∷ numbers) = above last n && ascend (Some n) numbers

abbrev pub lefts : List Pair → List ℕ
lefts pairs = map (λ p. p.left) pairs

abbrev pub rights : List Pair → List ℕ
rights pairs = map (λ p. p.right) pairs

-- whether the slots ascend and none is 0
abbrev pub are_in_order : List Pair → Bool
are_in_order slots = ascend None (lefts slots) && list_all (λ p. not (p.right == 0)) slots

-- the 35 slots of a vector: those that the pairs name have their values, all others are 0
abbrev pub slots_of : List Pair → List ℕ
slots_of pairs = fold (λ slots p. set slots p.left p.right) (replicate 35 0) pairs

abbrev pub is_less : Ordering → Bool
is_less Less = true
is_less other = false

-- whether a vector comes before another as a list of its slots
abbrev pub is_vector_less : List Pair → List Pair → Bool
is_vector_less a b = is_less (slice_cmp nat_cmp (slots_of a) (slots_of b))

-- ---- the line before
-- whether a vector comes behind the line before it, which may be another one
abbrev pub is_above_vector : Option Item → List Pair → Bool
is_above_vector (Some (item.Vector potential slots)) next = is_vector_less slots next
is_above_vector (Some (item.Listed slots)) next = is_vector_less slots next
is_above_vector other next = true

-- whether a scope comes before another: the run before loops, these by number
abbrev pub is_scope_less : Scope → Scope → Bool
is_scope_less Run Run = false
is_scope_less Run (Loop number) = true
is_scope_less (Loop number) Run = false
is_scope_less (Loop number) (Loop other) = nat_lt number other

-- whether a charge comes behind the line before it: by line, then by scope
abbrev pub is_above_charge : Option Item → ℕ → Scope → Bool
is_above_charge (Some (item.Charge line scope amount)) next within = if nat_lt line next then true else (line == next) && is_scope_less scope within
is_above_charge other next within = true

-- whether a total comes behind the line before it
abbrev pub is_above_total : Option Item → ℕ → Bool
is_above_total (Some (item.Total address amount)) next = nat_lt address next
is_above_total other next = true

-- ---- the other lines
-- how many lines of the kind stand at the front
abbrev pub leading : Kind → List Line → ℕ
leading kind [] = 0
leading kind (line ∷ lines) = if is_kind kind line.kind then leading kind lines + 1 else 0

-- the words behind the colons of pairs
abbrev pub seconds : List (List ℕ) → List (List ℕ)
seconds (first ∷ second ∷ words) = second ∷ seconds words
seconds words = []

-- the words of a line that name places
abbrev pub names_in : Line → List (List ℕ)
names_in line = if is_kind kind.Places line.kind then seconds (drop 2 line.words) else []

-- whether the digits write the number, leading zeros or not
abbrev pub writes : ℕ → List ℕ → Bool
writes n word = tells n (number_at word)

-- whether a line names the place
abbrev pub is_named : List Line → ℕ → Bool
is_named lines place = list_any (λ line. list_any (writes place) (names_in line)) lines

-- ---- numbers from 0
abbrev pub is_node : Item → Bool
is_node (item.Node number count) = true
is_node (item.Places number places) = true
is_node other = false

abbrev pub is_listed : Item → Bool
is_listed (item.Listed slots) = true
is_listed other = false

abbrev pub is_multiplier : Item → Bool
is_multiplier (item.Multiplier number amount) = true
is_multiplier other = false

-- how many vectors the second line counts
abbrev pub counted : Option Item → ℕ
counted (Some (item.Count count)) = count
counted other = 0

-- the last of the lines so far
abbrev pub last_of : List Item → Option Item
last_of items = slice_get items (length items - 1)

-- whether the place of each vector is above the one before and below the count
abbrev pub are_placed : ℕ → List Pair → Bool
are_placed count places = ascend None (rights places) && list_all (λ p. nat_lt p.right count) places

-- whether what a line tells may stand behind what the lines before it tell, and among the lines of the text
abbrev pub is_in_order : List Line → List Item → Item → Bool
is_in_order lines before (item.Head version) = true
is_in_order lines before (item.Node number count) = (number == count_by is_node before) && (count == leading kind.Vector (drop (length before + 1) lines))
is_in_order lines before (item.Vector potential slots) = are_in_order slots && is_above_vector (last_of before) slots
is_in_order lines before (item.Count count) = count == leading kind.Listed (drop (length before + 1) lines)
is_in_order lines before (item.Listed slots) = (are_in_order slots && is_above_vector (last_of before) slots) && is_named lines (count_by is_listed before)
is_in_order lines before (item.Places number places) = (number == count_by is_node before) && are_placed (counted (slice_get before 1)) places
is_in_order lines before (item.Charge line scope amount) = is_above_charge (last_of before) line scope
is_in_order lines before (item.Multiplier number amount) = number == count_by is_multiplier before
is_in_order lines before (item.Total address amount) = is_above_total (last_of before) address && not (amount == 0)
is_in_order lines before (item.Bound amount) = true
is_in_order lines before item.End = true
