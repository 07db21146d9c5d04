-- What was worked out stays right as the table grows.
use Rattle.std.proofs.Common.{◌≡◌, ℕ, List, [], ◌∷◌, Result, Ok, Err, IfOk, refl, arith}
use Rattle.std.specs.Prelude.{OnErr}
use Rattle.std.proofs.lemmas.List.Elements.{All-weaker}
use Rattle.xdd_table.specs.declared.node.Dd.{Dd}
use Rattle.xdd_table.specs.declared.node.Node.{Node}
use Rattle.xdd_table.specs.Diagram.{Keeps}
use Rattle.flow_block.specs.Blocks.{most_slots}
use Rattle.pipe_time.specs.declared.vector.Vector.{Vector}
use Rattle.pipe_time.specs.Pool.{Stands}
use Rattle.pipe_block.specs.Laws.{InterningKeeps, KeepsVectors, LeavingsStay, RightEndsStay}
use Rattle.pipe_block.specs.Times.{IsDiagram}
use Rattle.node_exits.specs.NodeExits.{NodeLeavingStays, WorkStays}

diagram_stays : (old new : List Node) → Keeps old new → (bound : ℕ) (d : Dd) → IsDiagram old bound d → IsDiagram new bound d
diagram_stays old new k bound d w = record { within = omega (arith, w.within, k.grows); events = k.events d.place bound w.within w.events }

pub leaving_stays : LeavingsStay → NodeLeavingStays
leaving_stays law old new u m node from taken l k w = record {
  diagrams = All-weaker (IsDiagram old most_slots) (IsDiagram new most_slots) (λ d is. diagram_stays old new k most_slots d is) (l.cost ∷ l.place ∷ []) w.diagrams;
  each = λ block is. law old new m from.slots block taken l k (w.each block is);
}

pub work_stays : RightEndsStay → WorkStays
work_stays law old new u m work k right = record {
  ends = law old new work.pool work.pool m u work.memo k (record { kept = λ place v is. is }) right.ends;
}

pub keeps_self : (nodes : List Node) → Keeps nodes nodes
keeps_self nodes = record { grows = omega arith; nodes = λ p h. refl; times = λ f p h. refl; begins = λ e p h b. b; events = λ p bound h e. e }

-- a pool keeps its vectors whether there was memory for one more or not
pub pool_kept : {E : Type 0} → InterningKeeps → (old new : List Vector) (v : Vector) (r : Result ℕ E) → IfOk r (λ place. Stands old new v place) → OnErr r (new ≡ old)
    → KeepsVectors old new
pool_kept law old new v (Ok place) stands same = law old new v place stands
pool_kept law old new v (Err e) stands same = record { kept = λ place w is. rw same is }
