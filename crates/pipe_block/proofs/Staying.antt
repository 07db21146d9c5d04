-- Kept answers as the table and the pool grow.
use Rattle.std.proofs.Common.{◌≡◌, ℕ, ◌≤◌, List, [], ◌∷◌, ◌++◌, length, map, slice_get, Some, None, All, refl, sym, ap, ◌∙◌, inl, inr, arith, cond, Bool, true, false, nat_eq, ◌&&◌}
use Rattle.std.proofs.lemmas.Bool.{false≢true, cases_lt}
use Rattle.std.proofs.lemmas.Bool.Decides.{nat_tests}
use Rattle.std.proofs.lemmas.Option.{same_Some, slice_get_within}
use Rattle.std.proofs.lemmas.List.Elements.{All-head, All-tail, All-weaker}
use Rattle.wx_base.specs.declared.machine.Machine.{Machine}
use Rattle.xdd_table.specs.declared.node.Dd.{Dd}
use Rattle.xdd_table.specs.declared.node.Node.{Node}
use Rattle.xdd_table.specs.Diagram.{time}
use Rattle.flow_block.specs.declared.block.Block.{Block}
use Rattle.flow_graph.specs.declared.program.Function.{Function}
use Rattle.flow_ctx.specs.declared.unfolded.UNode.{UNode}
use Rattle.flow_ctx.specs.declared.unfolded.Unfolded.{Unfolded}
use Rattle.flow_ctx.specs.Nodes.{IsBlockOf}
use Rattle.pipe_time.specs.declared.vector.Vector.{Vector}
use Rattle.pipe_block.specs.declared.diagrams.BlockVector.{BlockVector}
use Rattle.pipe_block.specs.declared.key.MemoKey.{MemoKey}
use Rattle.pipe_block.specs.Times.{IsDiagram, AreTimes}
use Rattle.pipe_block.specs.declared.diagrams.Leaving.{Leaving}
use Rattle.pipe_block.specs.declared.ends.Ends.{Ends}
use Rattle.pipe_block.specs.Kept.{same_key, kept_in, number_in, AreEndsOf, AreEndsRight, IsAnswered, IsKeyOf, IsNumberIn, IsRight}
use Rattle.pipe_block.specs.Laws.{TimesStay, InterningKeeps, KeepsVectors}
use Rattle.pipe_block.proofs.Arrivals.{front}
use Rattle.pipe_block.proofs.Plans.{one_more}

same_map : {A B : Type 0} (f g : A → B) (xs : List A) → All (λ x. f x ≡ g x) xs → map f xs ≡ map g xs
same_map f g [] h = refl
same_map f g (x ∷ xs) h =
    let a : f x ≡ g x = All-head (λ x. f x ≡ g x) x xs h in
    let b : map f xs ≡ map g xs = same_map f g xs (All-tail (λ x. f x ≡ g x) x xs h) in
    rw (a, b) refl

pub times_stay : TimesStay
times_stay old new m from block v k w =
    let n = length block.slots in
    let head = All-head (IsDiagram old n) v.last v.slots w.diagrams in
    let tail = All-tail (IsDiagram old n) v.last v.slots w.diagrams in
    let g : length old ≤ length new = k.grows in
    record {
      slots = λ f.
          same_map (λ (d : Dd). time new f d.place) (λ (d : Dd). time old f d.place) v.slots
          (All-weaker (IsDiagram old n) (λ d. time new f d.place ≡ time old f d.place) (λ d x. k.times f d.place x.within) v.slots tail) ∙ w.slots f;
      last = λ f. k.times f v.last.place head.within ∙ w.last f;
      diagrams =
          All-weaker (IsDiagram old n) (IsDiagram new n)
          (λ d x. record { within = omega (arith, x.within); events = k.events d.place n x.within x.events }) (v.last ∷ v.slots) w.diagrams;
    }

pub pool_stays : (pool : List Vector) → KeepsVectors pool pool
pool_stays pool = record { kept = λ place v is. is }

pub interning_keeps : InterningKeeps
interning_keeps old new v place s = record {
  kept = λ p w is. elim (cases_lt place (length old)) [
    | inl l ↦ let e : new ≡ old = s.found l in rw e is
    | inr g ↦
        let e : new ≡ old ++ v ∷ [] = (s.added (omega (arith, g))).1 in
        rw e (front old (v ∷ []) p (slice_get_within old p w is) ∙ is)
  ];
}

both : (x y : Bool) → (x && y) ≡ true → (x ≡ true) × (y ≡ true)
both true y h = (refl, h)
both false y h = absurd (false≢true h)

number_same : (a b : ℕ) → nat_eq a b ≡ true → a ≡ b
number_same a b h = grind (arith, nat_tests)

key_same : (a b : MemoKey) → same_key a b ≡ true → a ≡ b
key_same a b h =
    let w = both (nat_eq a.function b.function) (nat_eq a.block b.block && nat_eq a.place b.place) h in
    let x = both (nat_eq a.block b.block) (nat_eq a.place b.place) w.1 in
    let e : a.function ≡ b.function = number_same a.function b.function w.0 in
    let f : a.block ≡ b.block = number_same a.block b.block x.0 in
    let g : a.place ≡ b.place = number_same a.place b.place x.1 in
    rw (e, f, g) refl

number_itself : (a : ℕ) → nat_eq a a ≡ true
number_itself a = grind (arith, nat_tests)

key_itself : (a : MemoKey) → same_key a a ≡ true
key_itself a = rw (number_itself a.function, number_itself a.block, number_itself a.place) refl

-- a node and a place have one key
pub key_once : (u : Unfolded) (node place : ℕ) (a b : MemoKey) → IsKeyOf u node place a → IsKeyOf u node place b → a ≡ b
key_once u node place a b k l =
    let same : k.at ≡ l.at = same_Some k.at l.at (sym k.stands ∙ l.stands) in
    k.is ∙ ap (λ (n : UNode). record { function = n.function; block = n.block; place = place }) same ∙ sym l.is

module _ (nodes : List Node) (pool : List Vector) (m : Machine) (u : Unfolded) (node place : ℕ) (key : MemoKey) (from : Vector) (b : Block)
    (k : IsKeyOf u node place key) (at : slice_get pool place ≡ Some from) (of : IsBlockOf u node b) where
  same_node : k.at ≡ of.node
  same_node = same_Some k.at of.node (sym k.stands ∙ of.stands)

  from_at : slice_get pool key.place ≡ Some from
  from_at = ap (λ (x : MemoKey). slice_get pool x.place) k.is ∙ at

  function_at : slice_get u.program.functions key.function ≡ Some of.function
  function_at =
      ap (λ (x : MemoKey). slice_get u.program.functions x.function) k.is ∙ (ap (λ (n : UNode). slice_get u.program.functions n.function) same_node ∙ of.function_stands)

  block_at : slice_get of.function.blocks key.block ≡ Some b
  block_at = ap (λ (x : MemoKey). slice_get of.function.blocks x.block) k.is ∙ (ap (λ (n : UNode). slice_get of.function.blocks n.block) same_node ∙ of.block_stands)

  -- the ends of the node's block from the vector at the place are right for their key
  pub right_for : (made : List Leaving) (ends : Ends) → AreEndsOf nodes made m from.slots b ends → IsRight nodes pool m u made key ends
  right_for made ends w = record { function = of.function; block = b; from = from; function_stands = function_at; block_stands = block_at; from_stands = from_at; are = w }

  -- and what is right for the key are these ends
  pub right_ends : (made : List Leaving) (ends : Ends) → IsRight nodes pool m u made key ends → AreEndsOf nodes made m from.slots b ends
  right_ends made ends r =
      let function : r.function ≡ of.function = same_Some r.function of.function (sym r.function_stands ∙ function_at) in
      let block : r.block ≡ b = same_Some r.block b (sym r.block_stands ∙ (ap (λ (f : Function). slice_get f.blocks key.block) function ∙ block_at)) in
      let vector : r.from ≡ from = same_Some r.from from (sym r.from_stands ∙ from_at) in
      rw (← vector, ← block) r.are

-- one more answer is kept
pub right_more : (old new : List (MemoKey × Ends)) (made : List Leaving) (key : MemoKey) (ends : Ends)
    → ((q : MemoKey) → kept_in new q ≡ cond (same_key key q) (Some ends) (kept_in old q))
    → (nodes : List Node) (pool : List Vector) (m : Machine) (u : Unfolded) → AreEndsRight nodes pool m u (record { entries = old; leavings = made })
    → IsRight nodes pool m u made key ends → AreEndsRight nodes pool m u (record { entries = new; leavings = made })
right_more old new made key ends updates nodes pool m u all r = record {
  each = λ q x is.
      one_more (same_key key q) (λ (q : MemoKey) (x : Ends). IsRight nodes pool m u made q x) key q ends x (kept_in old q) (key_same key q) r (all.each q x) (sym (updates q) ∙ is);
}

module _ (old new : List (MemoKey × Ends)) (key : MemoKey) (ends : Ends)
    (updates : (q : MemoKey) → kept_in new q ≡ cond (same_key key q) (Some ends) (kept_in old q)) where
  by_test : (q : MemoKey) (e : Bool) → same_key key q ≡ e → (q ≡ key → ⊥) → cond e (Some ends) (kept_in old q) ≡ kept_in old q
  by_test q true h other = absurd (other (sym (key_same key q h)))
  by_test q false h other = refl

  pub answered : IsAnswered old new key ends
  answered = record {
    there = updates key ∙ ap (λ e. cond e (Some ends) (kept_in old key)) (key_itself key);
    others = λ q other. updates q ∙ by_test q (same_key key q) refl other;
  }

pub answered_before : (entries : List (MemoKey × Ends)) (key : MemoKey) (ends : Ends) → kept_in entries key ≡ Some ends → IsAnswered entries entries key ends
answered_before entries key ends is = record { there = is; others = λ q other. refl }

-- a node's block and a place have one answer, or none
module _ (entries : List (MemoKey × Ends)) (u : Unfolded) (node place : ℕ) (a b : MemoKey) (k : IsKeyOf u node place a) (l : IsKeyOf u node place b) where
  pub known_once : (v w : Ends) → kept_in entries a ≡ Some v → kept_in entries b ≡ Some w → v ≡ w
  known_once v w is was = same_Some v w (sym is ∙ (ap (kept_in entries) (key_once u node place a b k l) ∙ was))

  pub not_known : (w : Ends) → kept_in entries a ≡ None → kept_in entries b ≡ Some w → ⊥
  not_known w none was = let e : None ≡ Some w = sym none ∙ (ap (kept_in entries) (key_once u node place a b k l) ∙ was) in absurd cc

  pub number_moved : (taken : Bool) (number : ℕ) → IsNumberIn entries b taken number → IsNumberIn entries a taken number
  number_moved taken number n = record { ends = n.ends; kept = ap (kept_in entries) (key_once u node place a b k l) ∙ n.kept; is = n.is }

pub number_once : (entries : List (MemoKey × Ends)) (key : MemoKey) (taken : Bool) (a b : ℕ) → IsNumberIn entries key taken a → IsNumberIn entries key taken b → a ≡ b
number_once entries key taken a b x y =
    let same : x.ends ≡ y.ends = same_Some x.ends y.ends (sym x.kept ∙ y.kept) in
    same_Some a b (sym x.is ∙ (ap (λ (e : Ends). number_in e taken) same ∙ y.is))
