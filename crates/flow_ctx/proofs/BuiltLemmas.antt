-- A program that was built is in order.
use Rattle.std.proofs.Common.{◌≡◌, ℕ, ◌<◌, ◌≤◌, List, [], ◌∷◌, map, length, get_or, slice_get, Some, refl, sym, ap, ◌∙◌, subst, inl, inr, arith}
use Rattle.std.specs.List.{All, AllPairs, Any}
use Rattle.std.proofs.lemmas.List.{length-map, get_or-map}
use Rattle.std.proofs.lemmas.Option.{slice_get_cases, slice_get_read}
use Rattle.wx_base.specs.Facts.{AreAscending}
use Rattle.wx_base.specs.Functions as functions
use Rattle.flow_block.specs.declared.block.Block.{Block}
use Rattle.flow_block.specs.Blocks.{AreBlocks, Begins, IsLeader, first, leader, most_insns}
use Rattle.flow_graph.specs.declared.program.Function.{Function}
use Rattle.flow_graph.specs.declared.program.LoopInfo.{LoopInfo}
use Rattle.flow_graph.specs.declared.program.Program.{Program}
use Rattle.flow_graph.specs.Program.{bounded_loop, judged_function}
use Rattle.flow_ctx.specs.Laws.{IsBuilt}
use Rattle.flow_ctx.specs.Targets.{IsFunctionInOrder, IsInOrder}

pairs_unmapped : {X Y : Type 0} (f : X → Y) (R : Y → Y → Type 0) (xs : List X) → AllPairs R (map f xs) → AllPairs (λ x y. R (f x) (f y)) xs
pairs_unmapped f R xs up i j d less within =
    let h = up i j (f d) less (rw length-map within) in
    subst (λ y. R y (f (get_or xs j d))) (get_or-map f xs i d (f d) (omega (arith, less, within)))
    (subst (λ y. R (get_or (map f xs) i (f d)) y) (get_or-map f xs j d (f d) within) h)

all_unmapped : {X Y : Type 0} (f : X → Y) (P : Y → Type 0) (xs : List X) → All P (map f xs) → All (λ x. P (f x)) xs
all_unmapped f P xs all k d within = subst P (get_or-map f xs k d (f d) within) (all k (f d) (rw length-map within))

any_unmapped : {X Y : Type 0} (f : X → Y) (P : Y → Type 0) (xs : List X) → Any P (map f xs) → Any (λ x. P (f x)) xs
any_unmapped f P xs a =
    let within : a.0 < length xs = subst (λ (n : ℕ). a.0 < n) (length-map xs f) a.2 in
    elim ((slice_get_cases xs a.0).1) [
      | inl w ↦ (a.0, w.0, within, w.3, subst P (sym a.3 ∙ get_or-map f xs a.0 w.0 a.1 within ∙ ap f w.3) a.4)
      | inr w ↦ absurd (omega (arith, within, w.0))
    ]

module _ (program : Program) (built : IsBuilt program) where
  function_in_order : (f : Function) → AreBlocks built.image built.facts built.machine f.entry f.blocks
      → functions.AreLoops built.image built.facts f.entry (judged_function f).loops → IsFunctionInOrder f
  function_in_order f blocks loops = record {
    blocks = blocks.ascending;
    short = λ k d within. (blocks.each k d within).count.short;
    loops = pairs_unmapped bounded_loop (λ l m. l.head < m.head) f.loops loops.ascending;
    members = λ k d within. (all_unmapped bounded_loop (λ l. functions.IsLoop built.image built.facts f.entry l) f.loops loops.each k d within).ascending;
  }

  pub in_order : IsInOrder program
  in_order =
      let rules = built.is.is.rules.functions in
      let f = any_unmapped judged_function (λ f. f.entry ≡ built.start) program.functions (rules.whole built.start (inl refl)) in
      let f_is = slice_get_read program.functions (length program.functions) f.0 f.1 refl f.2 (sym f.3) in
      let blocks = subst (λ (g : Function). AreBlocks built.image built.facts built.machine g.entry g.blocks) f.3 (built.is.is.blocks f.0 f.1 f.2) in
      let b = blocks.whole f.1.entry (leader first) in
      let starts : f.1.entry ≡ program.start = f.4 ∙ sym built.is.is.start in
      record {
        functions = pairs_unmapped judged_function (λ f g. f.entry < g.entry) program.functions rules.ascending;
        each = λ k d within. function_in_order (get_or program.functions k d) (built.is.is.blocks k d within)
            (all_unmapped judged_function (λ f. functions.AreLoops built.image built.facts f.entry f.loops) program.functions rules.loops k d within);
        first = record { chain = []; function = f.0; block = b.0 };
        starts = record {
          has = refl;
          function = f.1;
          block = b.1;
          is = record { function_stands = f_is; entry = starts; block_stands = slice_get_read f.1.blocks (length f.1.blocks) b.0 b.1 refl b.2 (sym b.3) };
          start = b.4 ∙ starts;
        };
      }
