-- What a program that was built has: a node where runs start, and one function at an entry.
use Rattle.std.proofs.Common.{◌≡◌, ◌⊎◌, inl, inr, ℕ, ◌<◌, List, [], ◌∷◌, map, length, get_or, slice_get, Some, refl, sym, ap, ◌∙◌, subst, arith}
use Rattle.std.specs.List.{AllPairs, Any, Contains}
use Rattle.std.proofs.lemmas.Bool.{cases_lt}
use Rattle.std.proofs.lemmas.List.{get_or-map, length-map}
use Rattle.std.proofs.lemmas.Option.{get_or_from_slice_get, slice_get_cases, slice_get_read, slice_get_within}
use Rattle.flow_block.specs.declared.block.Block.{Block}
use Rattle.flow_block.specs.Blocks.{AreBlocks, first, leader}
use Rattle.flow_graph.specs.declared.program.Function.{Function}
use Rattle.flow_graph.specs.declared.program.Program.{Program}
use Rattle.flow_graph.specs.Program.{judged_function}
use Rattle.flow_ctx.specs.declared.unfolded.UNode.{UNode}
use Rattle.flow_ctx.specs.Laws.{IsBuilt}
use Rattle.flow_ctx.specs.Nodes.{BeginsAt, IsReached, IsStart, Leads, along, call, entry_after, jump, next, ret, start}
use Rattle.flow_ctx.specs.Targets.{HasBlockAt}

-- an element of a list stands at a place
pub place_of : {X : Type 0} (xs : List X) (x : X) → Contains xs x → (k : ℕ) × (slice_get xs k ≡ Some x)
place_of xs x c = (c.0, slice_get_read xs (length xs) c.0 x refl c.1 (sym c.2))

pairs_unmapped : {X Y : Type 0} (f : X → Y) (R : Y → Y → Type 0) (xs : List X) → AllPairs R (map f xs) → AllPairs (λ x y. R (f x) (f y)) xs
pairs_unmapped f R xs up i j d less within =
    let h = up i j (f d) less (rw length-map within) in
    subst (λ y. R y (f (get_or xs j d))) (get_or-map f xs i d (f d) (omega (arith, less, within)))
    (subst (λ y. R (get_or (map f xs) i (f d)) y) (get_or-map f xs j d (f d) within) h)

any_unmapped : {X Y : Type 0} (f : X → Y) (P : Y → Type 0) (xs : List X) → Any P (map f xs) → Any (λ x. P (f x)) xs
any_unmapped f P xs a =
    let within : a.0 < length xs = subst (λ (n : ℕ). a.0 < n) (length-map xs f) a.2 in
    elim ((slice_get_cases xs a.0).1) [
      | inl w ↦ (a.0, w.0, within, w.3, subst P (sym a.3 ∙ get_or-map f xs a.0 w.0 a.1 within ∙ ap f w.3) a.4)
      | inr w ↦ absurd (omega (arith, within, w.0))
    ]

-- of keys that ascend each stands at one place
place_once : {X : Type 0} (key : X → ℕ) (xs : List X) → AllPairs (λ x y. key x < key y) xs → (i j : ℕ) (x y : X) → slice_get xs i ≡ Some x → slice_get xs j ≡ Some y → key x ≡ key y → i ≡ j
place_once key xs up i j x y is also same =
    let ei : key (get_or xs i x) ≡ key x = ap key (get_or_from_slice_get xs i x x is) in
    let ej : key (get_or xs j x) ≡ key y = ap key (get_or_from_slice_get xs j y x also) in
    elim (cases_lt i j) [
      | inl less ↦ absurd (omega (arith, ei, ej, same, up i j x less (slice_get_within xs j y also)))
      | inr more ↦ elim (cases_lt j i) [
        | inl less ↦ absurd (omega (arith, ei, ej, same, up j i x less (slice_get_within xs i x is)))
        | inr other ↦ omega arith
      ]
    ]

module _ (program : Program) where
  of_begins : (n : UNode) (chain : List _) (address : ℕ) → BeginsAt program n chain address → HasBlockAt program n
  of_begins n chain address b = record { function = b.function; block = b.block; is = b.is }

  of_leads : (from : UNode) (taken : _) (to : UNode) → Leads program from taken to → HasBlockAt program to
  of_leads from taken to (next f b address x i is begins) = of_begins x _ address begins
  of_leads from taken to (jump f b address x i is begins) = of_begins x _ address begins
  of_leads from taken to (call f b entry x i is begins) = of_begins x _ entry begins
  of_leads from taken to (ret f b callers last x i is after begins) = of_begins x callers _ begins

  -- a node that is reached has a block
  pub has_block : (n : UNode) → IsReached program n → HasBlockAt program n
  has_block n (start x s) = of_begins x [] program.start s
  has_block n (along from taken x r l) = of_leads from taken x l

  module _ (built : IsBuilt program) where
    -- nodes with one chain have one function
    pub same_function : (n m : UNode) → IsReached program n → IsReached program m → n.chain ≡ m.chain → n.function ≡ m.function
    same_function n m p q chain =
        let a = has_block n p in
        let b = has_block m q in
        place_once (λ f. f.entry) program.functions
        (pairs_unmapped judged_function (λ f g. f.entry < g.entry) program.functions built.is.is.rules.functions.ascending)
        n.function m.function a.function b.function a.is.function_stands b.is.function_stands
        (a.is.entry ∙ ap (entry_after program.start) chain ∙ sym b.is.entry)

    -- runs start at a node
    pub first_node : (node : UNode) × IsStart program node
    first_node =
        let rules = built.is.is.rules.functions in
        let f = any_unmapped judged_function (λ f. f.entry ≡ built.start) program.functions (rules.whole built.start (inl refl)) in
        let f_is = slice_get_read program.functions (length program.functions) f.0 f.1 refl f.2 (sym f.3) in
        let blocks = subst (λ (g : Function). AreBlocks built.image built.facts built.machine g.entry g.blocks) f.3 (built.is.is.blocks f.0 f.1 f.2) in
        let b = blocks.whole f.1.entry (leader first) in
        let starts : f.1.entry ≡ program.start = f.4 ∙ sym built.is.is.start in (
          record { chain = []; function = f.0; block = b.0 },
          record {
            has = refl;
            function = f.1;
            block = b.1;
            is = record { function_stands = f_is; entry = starts; block_stands = slice_get_read f.1.blocks (length f.1.blocks) b.0 b.1 refl b.2 (sym b.3) };
            start = b.4 ∙ starts;
          },
        )
