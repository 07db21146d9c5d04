-- Where functions and blocks stand in a program in order, and that each place is one.
use Rattle.std.proofs.Common.{◌≡◌, ℕ, zero, suc, ◌-◌, ◌<◌, ◌≤◌, false, List, [], ◌∷◌, length, get_or, slice_get, Option, Some, None, refl, sym, ap, ◌∙◌, subst, arith}
use Rattle.std.specs.List.{All, AllPairs, Contains}
use Rattle.std.proofs.lemmas.Option.{none-some, same_Some, slice_get_within, get_or_from_slice_get, slice_get-get_or, slice_get_read}
use Rattle.flow_block.specs.declared.block.Block.{Block}
use Rattle.flow_block.specs.Blocks.{most_insns}
use Rattle.flow_graph.specs.declared.program.Function.{Function}
use Rattle.flow_graph.specs.declared.program.Program.{Program}
use Rattle.flow_ctx.specs.declared.place.Place.{Place}
use Rattle.flow_ctx.specs.declared.unfolded.Call.{Call}
use Rattle.flow_ctx.specs.declared.unfolded.UNode.{UNode}
use Rattle.flow_ctx.specs.Nodes.{BeginsAt, IsBlockAt, entry_after}
use Rattle.flow_ctx.specs.Targets.{HasPlace, IsBlockNumber, IsFunctionInOrder, IsFunctionNumber, IsInOrder, node_of}
use Rattle.flow_ctx.proofs.Keys.{place_once}

-- values that stand in where there is none
abbrev pub no_function : Function
no_function = record { entry = 0; blocks = []; loops = [] }

abbrev pub no_block : Block
no_block = record { start = 0; insns = []; slots = []; next = None; jumps = []; calls = []; ret = false }

-- what is read at a place of a list that is another
pub read_at : {X : Type 0} (xs ys : List X) (i : ℕ) (x : X) → xs ≡ ys → i < length xs → x ≡ get_or xs i x → slice_get ys i ≡ Some x
read_at {X} xs ys i x same within is = subst (λ (l : List X). slice_get l i ≡ Some x) same (slice_get_read xs (length xs) i x refl within is)

-- of ascending keys each is that of one element
pub same_listed : {X : Type 0} (key : X → ℕ) (xs : List X) → AllPairs (λ x y. key x < key y) xs → (x y : X) → Contains xs x → Contains xs y → key x ≡ key y → x ≡ y
same_listed key xs up x y c d e =
    let cx = slice_get_read xs (length xs) c.0 x refl c.1 (sym c.2) in
    let cy = slice_get_read xs (length xs) d.0 y refl d.1 (sym d.2) in
    let k = place_once key xs up c.0 d.0 x y cx cy e in
    same_Some x y (sym cx ∙ ap (slice_get xs) k ∙ cy)

pub function_found : (program : Program) (entry : ℕ) (fs : List Function) (at : ℕ) → fs ≡ program.functions → at < length fs
    → (get_or fs at no_function).entry ≡ entry → IsFunctionNumber program entry at
function_found program entry fs at same within is = record {
  function = get_or fs at no_function;
  stands = subst (λ (l : List Function). slice_get l at ≡ Some (get_or fs at no_function)) same (slice_get-get_or fs at no_function within);
  begins = is;
}

pub function_nowhere : (program : Program) (entry : ℕ) (fs : List Function) → fs ≡ program.functions
    → ((j : ℕ) → j < length fs → (get_or fs j no_function).entry ≡ entry → ⊥) → (n : ℕ) → IsFunctionNumber program entry n → ⊥
function_nowhere program entry fs same nowhere n f =
    let is : slice_get fs n ≡ Some f.function = subst (λ (l : List Function). slice_get l n ≡ Some f.function) (sym same) f.stands in
    nowhere n (slice_get_within fs n f.function is) (ap (λ (g : Function). g.entry) (get_or_from_slice_get fs n f.function no_function is) ∙ f.begins)

pub block_found : (function : Function) (start : ℕ) (bs : List Block) (at : ℕ) → bs ≡ function.blocks → at < length bs
    → (get_or bs at no_block).start ≡ start → IsBlockNumber function start at
block_found function start bs at same within is = record {
  block = get_or bs at no_block;
  stands = subst (λ (l : List Block). slice_get l at ≡ Some (get_or bs at no_block)) same (slice_get-get_or bs at no_block within);
  begins = is;
}

pub block_nowhere : (function : Function) (start : ℕ) (bs : List Block) → bs ≡ function.blocks
    → ((j : ℕ) → j < length bs → (get_or bs j no_block).start ≡ start → ⊥) → (n : ℕ) → IsBlockNumber function start n → ⊥
block_nowhere function start bs same nowhere n b =
    let is : slice_get bs n ≡ Some b.block = subst (λ (l : List Block). slice_get l n ≡ Some b.block) (sym same) b.stands in
    nowhere n (slice_get_within bs n b.block is) (ap (λ (g : Block). g.start) (get_or_from_slice_get bs n b.block no_block is) ∙ b.begins)

-- the last call of a chain tells its function
pub entry_last : (first : ℕ) (chain : List Call) (call : Call) → slice_get chain (length chain - 1) ≡ Some call → call.entry ≡ entry_after first chain
entry_last first [] call e = absurd (none-some call e)
entry_last first (c ∷ []) call e = ap (λ (x : Call). x.entry) (sym (same_Some c call e))
entry_last first (c ∷ d ∷ rest) call e =
    let k : length (c ∷ d ∷ rest) - 1 ≡ suc (length (d ∷ rest) - 1) = omega arith in
    entry_last c.entry (d ∷ rest) call (subst (λ (n : ℕ). slice_get (c ∷ d ∷ rest) n ≡ Some call) k e)

module _ (program : Program) where
  -- what a node that begins at an address tells of its function and block
  pub begins_function : (node : UNode) (chain : List Call) (address : ℕ) → BeginsAt program node chain address
      → IsFunctionNumber program (entry_after program.start chain) node.function
  begins_function node chain address b = record {
    function = b.function;
    stands = b.is.function_stands;
    begins = b.is.entry ∙ ap (entry_after program.start) b.has;
  }

  pub begins_at : (chain : List Call) (address function block : ℕ) (f : IsFunctionNumber program (entry_after program.start chain) function)
      (g : Function) → slice_get program.functions function ≡ Some g → IsBlockNumber g address block
      → BeginsAt program (record { chain = chain; function = function; block = block }) chain address
  begins_at chain address function block f g is b = record {
    has = refl;
    function = g;
    block = b.block;
    is = record { function_stands = is; entry = ap (λ (x : Function). x.entry) (sym (same_Some f.function g (sym f.stands ∙ is))) ∙ f.begins; block_stands = b.stands };
    start = b.begins;
  }

  module _ (order : IsInOrder program) where
    -- where no function or no block is found, no node begins
    pub no_function_begins : (chain : List Call) (address : ℕ) → ((n : ℕ) → IsFunctionNumber program (entry_after program.start chain) n → ⊥)
        → (node : UNode) → BeginsAt program node chain address → ⊥
    no_function_begins chain address none node b = none node.function (begins_function node chain address b)

    pub same_function : (entry n m : ℕ) (f : IsFunctionNumber program entry n) (g : IsFunctionNumber program entry m) → n ≡ m
    same_function entry n m f g = place_once (λ f. f.entry) program.functions order.functions n m f.function g.function f.stands g.stands (f.begins ∙ sym g.begins)

    -- the function of a node that begins somewhere is the one found
    pub its_function : (chain : List Call) (address n : ℕ) (g : Function) (node : UNode) → IsFunctionNumber program (entry_after program.start chain) n
        → slice_get program.functions n ≡ Some g → (b : BeginsAt program node chain address) → b.function ≡ g
    its_function chain address n g node f is b =
        let e : node.function ≡ n = same_function (entry_after program.start chain) node.function n (begins_function node chain address b) f in
        same_Some b.function g (sym b.is.function_stands ∙ ap (slice_get program.functions) e ∙ is)

    pub no_block_begins : (chain : List Call) (address n : ℕ) (g : Function) → IsFunctionNumber program (entry_after program.start chain) n
        → slice_get program.functions n ≡ Some g → ((m : ℕ) → IsBlockNumber g address m → ⊥)
        → (node : UNode) → BeginsAt program node chain address → ⊥
    no_block_begins chain address n g f is none node b =
        let e = its_function chain address n g node f is b in
        none node.block (record { block = b.block; stands = subst (λ (h : Function). slice_get h.blocks node.block ≡ Some b.block) e b.is.block_stands; begins = b.start })

    pub function_in_order : (n : ℕ) (g : Function) → slice_get program.functions n ≡ Some g → IsFunctionInOrder g
    function_in_order n g is = subst (λ (f : Function). IsFunctionInOrder f) (get_or_from_slice_get program.functions n g g is) (order.each n g (slice_get_within program.functions n g is))

    -- blocks are no longer than blocks may be
    pub block_short : (n m : ℕ) (g : Function) (b : Block) → slice_get program.functions n ≡ Some g → slice_get g.blocks m ≡ Some b → length b.insns ≤ most_insns
    block_short n m g b is is' = subst (λ (x : Block). length x.insns ≤ most_insns) (get_or_from_slice_get g.blocks m b b is')
        ((function_in_order n g is).short m b (slice_get_within g.blocks m b is'))

    -- a node that begins somewhere is one
    pub begins_once : (n m : UNode) (chain : List Call) (address : ℕ) → BeginsAt program n chain address → BeginsAt program m chain address → n ≡ m
    begins_once n m chain address b c =
        let f : n.function ≡ m.function = same_function (entry_after program.start chain) n.function m.function (begins_function n chain address b) (begins_function m chain address c) in
        let g : b.function ≡ c.function = its_function chain address m.function c.function n (begins_function m chain address c) c.is.function_stands b in
        let is : slice_get c.function.blocks n.block ≡ Some b.block = subst (λ (h : Function). slice_get h.blocks n.block ≡ Some b.block) g b.is.block_stands in
        let order = function_in_order m.function c.function c.is.function_stands in
        let k : n.block ≡ m.block = place_once (λ b. b.start) c.function.blocks order.blocks n.block m.block b.block c.block is c.is.block_stands (b.start ∙ sym c.start) in
        let h : n.chain ≡ m.chain = b.has ∙ sym c.has in
        λ i. record { chain = h i; function = f i; block = k i }
