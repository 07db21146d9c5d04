-- What the rows of a walk come to: the finish of a block, and what it hands on.
use Rattle.std.proofs.Common.{◌≡◌, ℕ, ◌≤◌, Bool, List, [], ◌∷◌, length, map, slice_get, slice_index, Some, sym, ap, ◌∙◌}
use Rattle.std.specs.Option.{option_map}
use Rattle.std.proofs.lemmas.Option.{slice_get-map}
use Rattle.std.proofs.lemmas.List.Elements.{All-cons, All-nil}
use Rattle.wx_base.specs.declared.machine.Machine.{Machine}
use Rattle.wx_base.specs.Blocks.{past_from}
use Rattle.flow_block.specs.declared.block.Block.{Block}
use Rattle.flow_block.specs.Blocks.{most_slots}
use Rattle.xdd_table.specs.declared.node.Dd.{Dd}
use Rattle.xdd_table.specs.declared.node.Node.{Node}
use Rattle.xdd_table.specs.Diagram.{Combination, time, Keeps}
use Rattle.pipe_block.specs.declared.row.Row.{Row}
use Rattle.pipe_block.specs.Events.{entries_of}
use Rattle.pipe_block.specs.Exits.{exit_row_of}
use Rattle.pipe_block.specs.Leavings.{IsFinishOf, IsLeaving}
use Rattle.pipe_block.specs.Outcomes.{outcome_of}
use Rattle.pipe_block.specs.Rows.{AreMerged, IsColumn, column_of}
use Rattle.pipe_block.specs.Times.{IsDiagram}
use Rattle.pipe_block.specs.Walks.{IsWalk, row_from}
use Rattle.pipe_block.proofs.Rebuilding.{column_kept}
use Rattle.pipe_block.proofs.Results.{window_completion, some_of_map, same_rows}

module _ (plan : List Node) (rows : List Row) (m : Machine) (from : List ℕ) (b : Block) (p : ℕ) (few : length b.slots ≤ most_slots) (w : IsWalk plan rows m from b p) where
  column_diagram : (nodes : List Node) (times : List ℕ) (d : Dd) → IsColumn plan nodes times p d → IsDiagram nodes most_slots d
  column_diagram nodes times d c = record { within = c.within; events = c.events most_slots (w.leads.events most_slots few) }

  -- the completions of the rows
  pub finish_of_rows : (nodes : List Node) (d : Dd) → IsColumn plan nodes (column_of 14 rows) p d → IsFinishOf nodes m from b d
  finish_of_rows nodes d c = record {
    times = λ f.
        let r : Row = row_from m from (entries_of b f) in
        let stands : slice_get (column_of 14 rows) (time plan f p) ≡ Some (slice_index r.slots 14) =
        slice_get-map (λ (r : Row). slice_index r.slots 14) rows (time plan f p) ∙ ap (option_map (λ (r : Row). slice_index r.slots 14)) (w.leads.each f) in
        c.each f (slice_index r.slots 14) stands ∙ window_completion m from (past_from m from (entries_of b f));
    diagram = column_diagram nodes (column_of 14 rows) d c;
  }

  -- the exits of the rows, each different one listed once
  pub leaving_of_rows : (taken : Bool) (mid new : List Node) (different : List Row) (places : List ℕ) (cost place : Dd)
      → ((i j : ℕ) (r : Row) → slice_get different i ≡ Some r → slice_get different j ≡ Some r → i ≡ j)
      → AreMerged (map (exit_row_of m taken) rows) different places
      → IsColumn plan mid (map (λ (r : Row). r.number) (map (exit_row_of m taken) rows)) p cost → Keeps mid new → IsColumn plan new places p place
      → IsLeaving new m from b taken (record { cost = cost; place = place; list = map outcome_of different })
  leaving_of_rows taken mid new different places cost place distinct merged c k d =
      let exit : Row → Row = exit_row_of m taken in
      let exits : List Row = map exit rows in
      let row : Combination → Row = λ f. row_from m from (entries_of b f) in
      let costs : List ℕ = map (λ (r : Row). r.number) exits in
      let later : IsColumn plan new costs p cost = column_kept plan mid new costs p cost k c in
      let stands : (f : Combination) → slice_get exits (time plan f p) ≡ Some (exit (row f)) =
      λ f. slice_get-map exit rows (time plan f p) ∙ ap (option_map exit) (w.leads.each f) in
      record {
        cost = λ f.
            later.each f (exit (row f)).number (slice_get-map (λ (r : Row). r.number) exits (time plan f p) ∙ ap (option_map (λ (r : Row). r.number)) (stands f));
        each = λ f.
            let x = merged.each (time plan f p) (exit (row f)) (stands f) in
            let here : time new f place.place ≡ x.0 = d.each f x.0 x.1 in
            rw here (slice_get-map outcome_of different x.0 ∙ ap (option_map outcome_of) x.2);
        given = λ i o is.
            let s = some_of_map outcome_of different i o is in
            let g = merged.given i s.0 s.1 in
            let e = some_of_map exit rows g.0 s.0 g.1 in
            let a = w.given g.0 e.0 e.1 in
            (a.0, sym s.2 ∙ ap outcome_of (sym e.2 ∙ ap exit a.1));
        once = λ i j o is was.
            let s = some_of_map outcome_of different i o is in
            let t = some_of_map outcome_of different j o was in
            let same : t.0 ≡ s.0 = same_rows t.0 s.0 (t.2 ∙ sym s.2) in
            distinct i j s.0 s.1 (rw same at t.1);
        diagrams = All-cons (IsDiagram new most_slots) cost (place ∷ []) (column_diagram new costs cost later)
            (All-cons (IsDiagram new most_slots) place [] (column_diagram new places place d) (All-nil (IsDiagram new most_slots)));
      }
