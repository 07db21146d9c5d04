use Rattle.std.proofs.Common.{◌≡◌, ◌<◌, ◌∷◌, ◌++◌, [], ℕ, ◌+◌, List, take, min, get_or, ◌≤◌, sym, ap, subst, arith, rules}
use Rattle.std.proofs.lemmas.List.{take_more}
use Rattle.std.proofs.lemmas.List.Elements.{All-get_or, All-tail}
use Rattle.xdd_table.specs.declared.node.Dd.{Dd}
use Rattle.pipe_block.specs.Times.{IsDiagram, AreDiagrams}
use Rattle.pipe_block.specs.Rows.{AllAfter, AreFrom}
use Rattle.pipe_block.proofs.Gathers.{first_from, first_before, first_below, first_level, first_of_one, before_one, below_one, level_one}
use Rattle.pipe_block.proofs.gather.first_event.Goals as goal

pub loop-d-init : goal.loop-d-init
loop-d-init c =
    let r = c.root_event-first in
    record {
      bound = r.ensures.bound;
      from = first_of_one c.args.table.now r.result c.args.bundle.now.number r.ensures.first;
      first = before_one c.args.table.now r.result c.args.bundle.now.number r.ensures.first;
      below = below_one c.args.table.now r.result c.args.bundle.now.number r.ensures.first;
      level = level_one c.args.table.now r.result c.args.bundle.now.number r.ensures.bound r.ensures.first;
    }

pub root_event-requires : goal.root_event-requires
root_event-requires c =
    let z : Dd = record { place = 0 } in
    (All-get_or (IsDiagram c.args.table.now 12) c.args.bundle.now.slots c.loop-d.d-index z (omega arith)
    (All-tail (IsDiagram c.args.table.now 12) c.args.bundle.now.number c.args.bundle.now.slots c.requires)).within

pub loop-d-preserved : goal.loop-d-preserved
loop-d-preserved c =
    let z : Dd = record { place = 0 } in
    let i = c.loop-d.d-index in
    let slots : List Dd = c.args.bundle.now.slots in
    let number : Dd = c.args.bundle.now.number in
    let d : Dd = get_or slots i z in
    let e = c.root_event in
    let more : number ∷ take (i + 1) slots ≡ (number ∷ take i slots) ++ d ∷ [] = ap (λ xs. number ∷ xs) (take_more slots i z (omega arith)) in
    let least : c.min-first.result ≡ min c.loop-d.first e.result = search rules in
    let inv = c.loop-d.invariant in
    let r = c.min-first.result in
    let nodes = c.args.table.now in
    let From : List Dd → Type 0 = λ xs. AreFrom nodes r xs in
    let First : List Dd → Type 0 = λ xs. (e : ℕ) → AllAfter nodes e xs → r < 12 → e < r in
    let Below : List Dd → Type 0 = λ xs. (bound : ℕ) → AreDiagrams nodes bound xs → r < 12 → r < bound in
    let Level : List Dd → Type 0 = λ xs. (level : ℕ) → level ≤ 12 → AreFrom nodes level xs → level ≤ r in
    record {
      bound = omega (arith, inv.bound, least);
      from = subst From (sym more) (first_from nodes c.loop-d.first e.result r (number ∷ take i slots) d least e.ensures.first inv.from);
      first = subst First (sym more) (first_before nodes c.loop-d.first e.result r (number ∷ take i slots) d least e.ensures.first inv.first);
      below = subst Below (sym more) (first_below nodes c.loop-d.first e.result r (number ∷ take i slots) d least e.ensures.first inv.below);
      level = subst Level (sym more) (λ level le. first_level nodes c.loop-d.first e.result r (number ∷ take i slots) d least e.ensures.first level e.ensures.bound le inv.level);
    }
