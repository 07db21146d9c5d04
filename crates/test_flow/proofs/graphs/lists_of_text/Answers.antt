use Rattle.std.proofs.Common.{◌≡◌, ℕ, List, length, sym, subst, arith}
use Rattle.std.proofs.lemmas.List.Elements.{All-push}
use Rattle.std.specs.Global.{Vec}
use Rattle.std.specs.List.{All}
use Rattle.graph_loops.specs.Graph.{AreVertices}
use Rattle.test_flow.proofs.Vertices.{graph_of}
use Rattle.test_flow.proofs.graphs.lists_of_text.Goals as goal

pub loop-part-preserved : goal.loop-part-preserved
loop-part-preserved c =
    let P : Vec ℕ → Type 0 = λ list. AreVertices c.args.count list.items in
    subst (λ (lists : List (Vec ℕ)). All P lists) (sym c.in_ok-push.ensures.items)
    (All-push P c.loop-part.lists.items c.in_ok-vertices_of.field-0 c.loop-part.invariant c.in_ok-vertices_of.ensures)

pub returns-2 : goal.returns-2
returns-2 c =
    let so_many : length c.loop-part.lists.items ≡ c.args.count = omega (arith, c.len.ensures, c.loop-part.lists.ok.0) in
    (graph_of c.args.count c.loop-part.lists.items c.loop-part.invariant so_many, so_many)
