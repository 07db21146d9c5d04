-- The program of an image is one: its rules are, and so are the blocks of each of its functions.
use Rattle.std.proofs.Common.{◌≡◌, suc, List, [], ◌∷◌, length, map, refl, sym, ap, ◌∙◌, subst, arith}
use Rattle.std.specs.List.{All}
use Rattle.wx_base.specs.declared.facts.Facts.{Facts}
use Rattle.wx_base.specs.declared.image.Image.{Image}
use Rattle.wx_base.specs.declared.machine.Machine.{Machine}
use Rattle.flow_block.specs.Blocks.{AreBlocks}
use Rattle.flow_block.specs.Laws.{BlocksAreOne}
use Rattle.flow_graph.specs.declared.program.Function.{Function}
use Rattle.flow_graph.specs.declared.program.LoopInfo.{LoopInfo}
use Rattle.flow_graph.specs.Laws.{ProgramIsOne}
use Rattle.flow_graph.specs.Program.{bounded_loop, judged_function, rules_of}
use Rattle.flow_graph.proofs.RulesOne.{rules_one}

info_one : (l m : LoopInfo) → bounded_loop l ≡ bounded_loop m → l ≡ m
info_one l m e = λ i. record { head = (e i).head; members = (e i).members; maxcount = (e i).maxcount; totalcount = (e i).totalcount }

-- lists whose images are one are so themselves, if elements are
module _ {X Y : Type 0} (f : X → Y) (one : (x y : X) → f x ≡ f y → x ≡ y) where
  unmapped : (xs ys : List X) → map f xs ≡ map f ys → xs ≡ ys
  unmapped [] [] e = refl
  unmapped [] (y ∷ ys) e = absurd (omega (arith, ap length e))
  unmapped (x ∷ xs) [] e = absurd (omega (arith, ap length e))
  unmapped (x ∷ xs) (y ∷ ys) e =
      let here : f x ≡ f y = cc in
      let others : map f xs ≡ map f ys = cc in
      let first = one x y here in
      let rest = unmapped xs ys others in
      λ i. first i ∷ rest i

module _ (law : BlocksAreOne) (image : Image) (facts : Facts) (machine : Machine) where
  abbrev HasBlocks : Function → Type 0
  HasBlocks f = AreBlocks image facts machine f.entry f.blocks

  functions_one : (fs gs : List Function) → map judged_function fs ≡ map judged_function gs → All HasBlocks fs → All HasBlocks gs → fs ≡ gs
  functions_one [] [] e p q = refl
  functions_one [] (g ∷ gs) e p q = absurd (omega (arith, ap length e))
  functions_one (f ∷ fs) [] e p q = absurd (omega (arith, ap length e))
  functions_one (f ∷ fs) (g ∷ gs) e p q =
      let here : judged_function f ≡ judged_function g = cc in
      let others : map judged_function fs ≡ map judged_function gs = cc in
      let entry : f.entry ≡ g.entry = ap (λ j. j.entry) here in
      let loops = unmapped bounded_loop info_one f.loops g.loops (ap (λ j. j.loops) here) in
      let blocks = law image facts machine g.entry f.blocks g.blocks (subst (λ x. AreBlocks image facts machine x f.blocks) entry (p 0 f (omega arith))) (q 0 g (omega arith)) in
      let rest = functions_one fs gs others (λ k d within. p (suc k) d (omega arith)) (λ k d within. q (suc k) d (omega arith)) in
      λ i. record { entry = entry i; blocks = blocks i; loops = loops i } ∷ rest i

pub program_one : BlocksAreOne → ProgramIsOne
program_one law image facts start machine p q is_p is_q =
    let rules = rules_one image facts start (rules_of facts p) (rules_of facts q) is_p.rules is_q.rules in
    let starts = is_p.start ∙ sym is_q.start in
    let functions = functions_one law image facts machine p.functions q.functions (ap (λ r. r.functions) rules) is_p.blocks is_q.blocks in
    λ i. record { start = starts i; functions = functions i }
