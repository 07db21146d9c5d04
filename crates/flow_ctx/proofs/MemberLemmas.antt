-- Which nodes belong to a loop.
use Rattle.std.proofs.Common.{◌≡◌, ℕ, suc, ◌+◌, ◌<◌, ◌≤◌, ◌⊎◌, Bool, true, false, ◌&&◌, List, [], ◌∷◌, ◌++◌, length, get_or, slice_get, take, Option, Some, None, Result, Ok, Err, is_ok, refl, sym, ap, ◌∙◌, subst, inl, inr, arith, eqb}
use lib.Pointwise.{pointwise}
use Rattle.std.specs.Prelude.{Decides}
use Rattle.std.specs.List.{All, AllPairs, Contains}
use Rattle.std.specs.List.Sorted.{IsBinarySearchResult, IsSearchInRange}
use Rattle.std.specs.Ordering.{nat_cmp}
use Rattle.std.proofs.lemmas.Bool.{false≢true}
use Rattle.std.proofs.lemmas.List.{append-nil, get_or_default}
use Rattle.std.proofs.lemmas.Option.{none-some, same_Some, slice_get_past, slice_get_within, get_or_from_slice_get}
use Rattle.wx_base.specs.Facts.{AreAscending}
use Rattle.flow_block.specs.declared.block.Block.{Block}
use Rattle.flow_graph.specs.declared.program.Function.{Function}
use Rattle.flow_graph.specs.declared.program.LoopInfo.{LoopInfo}
use Rattle.flow_graph.specs.declared.program.Program.{Program}
use Rattle.flow_ctx.specs.declared.unfolded.Call.{Call}
use Rattle.flow_ctx.specs.declared.unfolded.UNode.{UNode}
use Rattle.flow_ctx.specs.Nodes.{IsBlockAt}
use Rattle.flow_ctx.specs.declared.place.Place.{Place}
use Rattle.flow_ctx.specs.Targets.{HasPlace, IsFunctionInOrder, node_of}
use Rattle.flow_ctx.specs.Unfolding.{IsHeadOf, IsMember, own, within}
use Rattle.flow_ctx.proofs.Keys.{searched}
use Rattle.flow_ctx.proofs.PlaceLemmas.{both, call_test, from_both, number_same, same_call}

pub told_listed : (xs : List ℕ) (k : ℕ) (r : Result ℕ ℕ) → AreAscending xs → IsSearchInRange r (length xs) → IsBinarySearchResult (λ y. nat_cmp y k) xs r
    → Decides (is_ok r) (Contains xs k)
told_listed xs k (Ok at) up bound found =
    let s = searched (λ x. x) xs up k k (Ok at) bound found in
    (λ h. (at, bound, s.is), λ c. refl)
told_listed xs k (Err at) up bound found =
    let s = searched (λ x. x) xs up k k (Err at) bound found in
    (λ h. absurd (false≢true h), λ c. absurd (s.nowhere c.0 c.1 c.2))

-- the chain begins with another, and a call stands behind
pub prefix_some : (h c : List Call) (call : Call) → pointwise call_test h (take (length h) c) ≡ true → slice_get c (length h) ≡ Some call
    → (rest : List Call) × (c ≡ h ++ call ∷ rest)
prefix_some [] [] call p e = absurd (none-some call e)
prefix_some [] (x ∷ xs) call p e = (xs, ap (λ (y : Call). y ∷ xs) (same_Some x call e))
prefix_some (y ∷ ys) [] call p e = absurd (none-some call e)
prefix_some (y ∷ ys) (x ∷ xs) call p e =
    let b = both (call_test y x) (pointwise call_test ys (take (length ys) xs)) p in
    let r = prefix_some ys xs call b.1 e in
    let s = sym (same_call y x b.0) in
    let e : x ∷ xs ≡ y ∷ (ys ++ call ∷ r.0) = (λ i. s i ∷ r.1 i) in
    (r.0, e)

-- the chain is the other
pub prefix_none : (h c : List Call) → pointwise call_test h (take (length h) c) ≡ true → slice_get c (length h) ≡ None → c ≡ h
prefix_none [] [] p e = refl
prefix_none [] (x ∷ xs) p e = absurd (none-some x (sym e))
prefix_none (y ∷ ys) [] p e = absurd (false≢true p)
prefix_none (y ∷ ys) (x ∷ xs) p e =
    let b = both (call_test y x) (pointwise call_test ys (take (length ys) xs)) p in
    let r = prefix_none ys xs b.1 e in
    let s = sym (same_call y x b.0) in
    λ i. s i ∷ r i

-- a chain that goes on from another begins with it
pub begins : (h rest : List Call) → pointwise call_test h (take (length h) (h ++ rest)) ≡ true
begins [] rest = refl
begins (x ∷ xs) rest = from_both (call_test x x) (pointwise call_test xs (take (length xs) (xs ++ rest)))
    (from_both (eqb x.site x.site) (eqb x.entry x.entry) (number_same x.site x.site refl) (number_same x.entry x.entry refl)) (begins xs rest)

pub begins_itself : (h c : List Call) → c ≡ h → pointwise call_test h (take (length h) c) ≡ true
begins_itself h c e = subst (λ (l : List Call). pointwise call_test h (take (length h) l) ≡ true) (append-nil h ∙ sym e) (begins h [])

pub begins_with : (h c rest : List Call) → c ≡ h ++ rest → pointwise call_test h (take (length h) c) ≡ true
begins_with h c rest e = subst (λ (l : List Call). pointwise call_test h (take (length h) l) ≡ true) (sym e) (begins h rest)

stands_behind : (h rest : List Call) (call : Call) → slice_get (h ++ call ∷ rest) (length h) ≡ Some call
stands_behind [] rest call = refl
stands_behind (x ∷ xs) rest call = stands_behind xs rest call

module _ (program : Program) (head node : UNode) (info : LoopInfo) where
  -- a node of no chain that begins with the head's is no member
  pub other_chain : (pointwise call_test head.chain (take (length head.chain) node.chain) ≡ false) → IsMember program head info node → ⊥
  other_chain p (own f b is e c) = false≢true (sym p ∙ begins_itself head.chain node.chain e)
  other_chain p (within call calls e c) = false≢true (sym p ∙ begins_with head.chain node.chain (call ∷ calls) e)

  module _ (begins : pointwise call_test head.chain (take (length head.chain) node.chain) ≡ true) (address : ℕ)
      (call_is : (call : Call) → slice_get node.chain (length head.chain) ≡ Some call → address ≡ call.site)
      (own_is : slice_get node.chain (length head.chain) ≡ None → (f : Function) (b : Block) → IsBlockAt program node f b → address ≡ b.start)
      (function : Function) (block : Block) (at : IsBlockAt program node function block) where
    there : (o : Option Call) → slice_get node.chain (length head.chain) ≡ o → Contains info.members address → IsMember program head info node
    there None e c = own function block at (prefix_none head.chain node.chain begins e) (subst (λ (a : ℕ). Contains info.members a) (own_is e function block at) c)
    there (Some call) e c =
        let r = prefix_some head.chain node.chain call begins e in
        within call r.0 r.1 (subst (λ (a : ℕ). Contains info.members a) (call_is call e) c)

    back : IsMember program head info node → Contains info.members address
    back (own f b is e c) =
        let past = slice_get_past node.chain (length head.chain) (omega (arith, ap length e)) in
        subst (λ (a : ℕ). Contains info.members a) (sym (own_is past f b is)) c
    back (within call calls e c) =
        let stands : slice_get node.chain (length head.chain) ≡ Some call =
        subst (λ (l : List Call). slice_get l (length head.chain) ≡ Some call) (sym e) (stands_behind head.chain calls call) in
        subst (λ (a : ℕ). Contains info.members a) (sym (call_is call stands)) c

    pub member_told : (listed : Bool) → Decides listed (Contains info.members address) → Decides listed (IsMember program head info node)
    member_told listed d = (λ h. there (slice_get node.chain (length head.chain)) refl (d.0 h), λ m. d.1 (back m))

pub head_nowhere : (program : Program) (node : UNode) (function : Function) (block : Block) → IsBlockAt program node function block
    → (d : LoopInfo) → ((j : ℕ) → j < length function.loops → (get_or function.loops j d).head ≡ block.start → ⊥) → (info : LoopInfo) → IsHeadOf program node info → ⊥
head_nowhere program node function block at d nowhere info h =
    let f : h.function ≡ function = same_Some h.function function (sym h.is.function_stands ∙ at.function_stands) in
    let b : h.block ≡ block = same_Some h.block block (sym h.is.block_stands ∙ ap (λ (g : Function). slice_get g.blocks node.block) f ∙ at.block_stands) in
    let c : Contains function.loops info = subst (λ (g : Function). Contains g.loops info) f h.listed in
    nowhere c.0 c.1 (ap (λ (x : LoopInfo). x.head) (get_or_default function.loops c.0 d info c.1 ∙ c.2) ∙ sym h.head ∙ ap (λ (x : Block). x.start) b)

-- the function and block of a place are those that were read
pub read_block : (program : Program) (place : Place) (f : Function) (b : Block) → HasPlace program place → slice_get program.functions place.function ≡ Some f
    → slice_get f.blocks place.block ≡ Some b → IsBlockAt program (node_of place) f b
read_block program place f b has is is' = record {
  function_stands = is;
  entry = ap (λ (x : Function). x.entry) (same_Some f has.function (sym is ∙ has.is.function_stands)) ∙ has.is.entry;
  block_stands = is';
}

abbrev pub no_info : LoopInfo
no_info = record { head = 0; members = []; maxcount = 0; totalcount = None }

-- the loop that was read at a place of a function's loops
pub info_found : (program : Program) (node : UNode) (f : Function) (b : Block) → IsBlockAt program node f b → (list : List LoopInfo) → list ≡ f.loops
    → (i : ℕ) (info : LoopInfo) → i < length list → info ≡ get_or list i info → (get_or list i no_info).head ≡ b.start → IsHeadOf program node info
info_found program node f b at list same i info inside is head = record {
  function = f;
  block = b;
  is = at;
  listed = subst (λ (l : List LoopInfo). Contains l info) same (i, inside, sym is);
  head = sym (ap (λ (x : LoopInfo). x.head) (is ∙ get_or_default list i info no_info inside) ∙ head);
}

pub info_ascends : (f : Function) → IsFunctionInOrder f → (list : List LoopInfo) → list ≡ f.loops → (i : ℕ) (info : LoopInfo) → i < length list
    → info ≡ get_or list i info → AreAscending info.members
info_ascends f order list same i info inside is =
    subst (λ (x : LoopInfo). AreAscending x.members) (sym is) (subst (λ (l : List LoopInfo). All (λ x. AreAscending x.members) l) (sym same) order.members i info inside)
