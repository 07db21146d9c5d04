-- The functions, blocks and loops of a program.
use Rattle.std.proofs.Common.{◌≡◌, ℕ, ◌==◌, List, [], map, slice_get, sym, ap, ◌∙◌}
use Rattle.std.specs.Prelude.{Contains, Option, Some, None, find}
use Rattle.std.specs.Option.{option_map_or}
use Rattle.wx_base.specs.declared.facts.Facts.{Facts}
use Rattle.wx_base.specs.declared.image.Image.{Image}
use Rattle.wx_base.specs.declared.machine.Machine.{Machine}
use Rattle.wx_base.specs.Functions.{AreLoops, IsEntry, IsLoop}
use Rattle.wx_base.specs.Monitor as monitor
use Rattle.wx_base.specs.Monitor.{BoundedLoop, loop_at, loops_of}
use Rattle.flow_block.specs.declared.block.Block.{Block}
use Rattle.flow_block.specs.Blocks.{AreBlocks, Begins, IsBlock}
use Rattle.flow_graph.specs.declared.program.Function.{Function}
use Rattle.flow_graph.specs.declared.program.LoopInfo.{LoopInfo}
use Rattle.flow_graph.specs.declared.program.Program.{Program}
use Rattle.flow_graph.specs.Program.{IsProgram, bounded_loop, judged_function}
use Rattle.ctx_laws.proofs.Lists.{all_at, finds, found_has, made, mapped, none_has, one_key, one_element, some_of, listed, place_of}

module _ (image : Image) (facts : Facts) (first : ℕ) (machine : Machine) (program : Program) (built : IsProgram image facts first machine program) where
  abbrev functions : List monitor.Function
  functions = map judged_function program.functions

  -- ---- functions

  pub record IsFunctionAt (place : ℕ) (f : Function) : Type 0 where
    pub stands : slice_get program.functions place ≡ Some f
    pub entry : IsEntry image facts first f.entry
    pub loops : AreLoops image facts f.entry (map bounded_loop f.loops)
    pub blocks : AreBlocks image facts machine f.entry f.blocks

  pub function_at : (place : ℕ) (f : Function) → slice_get program.functions place ≡ Some f → IsFunctionAt place f
  function_at place f e =
      let there = mapped judged_function program.functions place f e in
      record {
        stands = e;
        entry = all_at (λ g. IsEntry image facts first g.entry) functions place (judged_function f) built.rules.functions.entries there;
        loops = all_at (λ g. AreLoops image facts g.entry g.loops) functions place (judged_function f) built.rules.functions.loops there;
        blocks = all_at (λ g. AreBlocks image facts machine g.entry g.blocks) program.functions place f built.blocks e;
      }

  pub record HasFunction (entry : ℕ) : Type 0 where
    pub place : ℕ
    pub function : Function
    pub at : IsFunctionAt place function
    pub is : function.entry ≡ entry

  pub has_function : (entry : ℕ) → IsEntry image facts first entry → HasFunction entry
  has_function entry e =
      let some = some_of (λ f. f.entry ≡ entry) functions (built.rules.functions.whole entry e) in
      let from = made judged_function program.functions some.place some.element some.stands in
      record { place = some.place; function = from.from; at = function_at some.place from.from from.stands; is = ap (λ (f : monitor.Function). f.entry) from.is ∙ some.holds }

  -- a function has one place
  pub one_function : (i j : ℕ) (f g : Function) → slice_get program.functions i ≡ Some f → slice_get program.functions j ≡ Some g → f.entry ≡ g.entry → i ≡ j
  one_function i j f g e h same =
      one_key (λ (f : monitor.Function). f.entry) functions i j (judged_function f) (judged_function g) built.rules.functions.ascending
      (mapped judged_function program.functions i f e) (mapped judged_function program.functions j g h) same

  -- ---- blocks

  pub record HasBlockAt (f : Function) (address : ℕ) : Type 0 where
    pub place : ℕ
    pub block : Block
    pub stands : slice_get f.blocks place ≡ Some block
    pub start : block.start ≡ address

  pub has_block : (place : ℕ) (f : Function) (address : ℕ) → IsFunctionAt place f → Begins image facts machine f.entry address → HasBlockAt f address
  has_block place f address at begins =
      let some = some_of (λ b. b.start ≡ address) f.blocks (at.blocks.whole address begins) in
      record { place = some.place; block = some.element; stands = some.stands; start = some.holds }

  pub one_block : (place : ℕ) (f : Function) (i j : ℕ) (b c : Block) → IsFunctionAt place f → slice_get f.blocks i ≡ Some b → slice_get f.blocks j ≡ Some c → b.start ≡ c.start → i ≡ j
  one_block place f i j b c at e h same = one_key (λ (b : Block). b.start) f.blocks i j b c at.blocks.ascending e h same

  pub block_is : (place : ℕ) (f : Function) (i : ℕ) (b : Block) → IsFunctionAt place f → slice_get f.blocks i ≡ Some b → IsBlock image facts machine f.entry b
  block_is place f i b at e = all_at (λ b. IsBlock image facts machine f.entry b) f.blocks i b at.blocks.each e

  -- ---- loops

  pub loop_is : (place : ℕ) (f : Function) (info : LoopInfo) → IsFunctionAt place f → Contains f.loops info → IsLoop image facts f.entry (bounded_loop info)
  loop_is place f info at c =
      let there = place_of f.loops info c in
      all_at (λ l. IsLoop image facts f.entry l) (map bounded_loop f.loops) there.place (bounded_loop info) at.loops.each (mapped bounded_loop f.loops there.place info there.stands)

  loops_found : (place : ℕ) (f : Function) → IsFunctionAt place f → loops_of functions f.entry ≡ map bounded_loop f.loops
  loops_found place f at =
      ap (λ (o : Option monitor.Function). option_map_or (λ g. g.loops) o [])
      (finds (λ (g : monitor.Function). g.entry) functions place (judged_function f) built.rules.functions.ascending (mapped judged_function program.functions place f at.stands))

  -- the loop that a move is judged by is one of the function
  pub record IsInfoOf (f : Function) (loop : BoundedLoop) (head : ℕ) : Type 0 where
    pub info : LoopInfo
    pub listed : Contains f.loops info
    pub is : bounded_loop info ≡ loop
    pub head_is : info.head ≡ head

  pub judged_loop : (place : ℕ) (f : Function) (head : ℕ) (loop : BoundedLoop) → IsFunctionAt place f → loop_at functions f.entry head ≡ Some loop → IsInfoOf f loop head
  judged_loop place f head loop at e =
      let found : find (λ (l : BoundedLoop). l.head == head) (map bounded_loop f.loops) ≡ Some loop = ap (λ (ls : List BoundedLoop). find (λ l. l.head == head) ls) (sym (loops_found place f at)) ∙ e in
      let has = found_has (λ (l : BoundedLoop). l.head) (map bounded_loop f.loops) head loop found in
      let from = made bounded_loop f.loops has.0.place loop has.0.stands in
      record { info = from.from; listed = listed f.loops has.0.place from.from from.stands; is = from.is; head_is = ap (λ (l : BoundedLoop). l.head) from.is ∙ has.1 }

  pub no_loop : (place : ℕ) (f : Function) (head : ℕ) (info : LoopInfo) → IsFunctionAt place f → loop_at functions f.entry head ≡ None → Contains f.loops info → info.head ≡ head → ⊥
  no_loop place f head info at e c same =
      let none : find (λ (l : BoundedLoop). l.head == head) (map bounded_loop f.loops) ≡ None = ap (λ (ls : List BoundedLoop). find (λ l. l.head == head) ls) (sym (loops_found place f at)) ∙ e in
      let there = place_of f.loops info c in
      none_has (λ (l : BoundedLoop). l.head) (map bounded_loop f.loops) head there.place (bounded_loop info) none (mapped bounded_loop f.loops there.place info there.stands) same

  pub one_loop : (place : ℕ) (f : Function) (l m : LoopInfo) → IsFunctionAt place f → Contains f.loops l → Contains f.loops m → l.head ≡ m.head → l ≡ m
  one_loop place f l m at c d same =
      let p = place_of f.loops l c in
      let q = place_of f.loops m d in
      let e = one_key (λ (l : BoundedLoop). l.head) (map bounded_loop f.loops) p.place q.place (bounded_loop l) (bounded_loop m) at.loops.ascending
      (mapped bounded_loop f.loops p.place l p.stands) (mapped bounded_loop f.loops q.place m q.stands) same in
      one_element f.loops q.place l m (ap (slice_get f.loops) (sym e) ∙ p.stands) q.stands
