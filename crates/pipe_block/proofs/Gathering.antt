-- What is gathered: from the two halves of diagrams, and from diagrams that read no event.
use Rattle.std.proofs.Common.{◌≡◌, ℕ, ◌<◌, Bool, true, false, List, length, slice_get, Option, Some, sym, ap, ◌∙◌, if◌then◌else◌, cond}
use Rattle.xdd_table.specs.declared.node.Dd.{Dd}
use Rattle.xdd_table.specs.declared.node.Node.{Node}
use Rattle.xdd_table.specs.Diagram.{Combination, time, BeginsAfter, EventsLess, Keeps}
use Rattle.pipe_block.specs.declared.row.Row.{Row}
use Rattle.pipe_block.specs.declared.row.Bundle.{Bundle}
use Rattle.pipe_block.specs.Times.{AreDiagrams}
use Rattle.pipe_block.specs.Rows.{row_at, parts, AllAfter, AreCofactors, Extends, LeadsTo, AreGathered}
use Rattle.pipe_block.proofs.Plans.{leads_kept, leads_branch, known_more}

module _ (nodes : List Node) where
  pub to_kept : (old new : List Node) (rows more : List Row) (b : Bundle) (p : ℕ) → Keeps old new → Extends rows more → LeadsTo old rows nodes b p → LeadsTo new more nodes b p
  to_kept old new rows more b p k x w = leads_kept old new rows more (row_at nodes b) (λ e. AllAfter nodes e (parts b)) (λ bound. AreDiagrams nodes bound (parts b)) p k x w

  pub gathered_more : (eq : Bundle → Bundle → Bool) (sound : (a b : Bundle) → eq a b ≡ true → a ≡ b) (plan : List Node) (rows : List Row) (b : Bundle) (d : Dd) (old new : Bundle → Option Dd)
      → AreGathered plan rows nodes old → LeadsTo plan rows nodes b d.place → ((q : Bundle) → new q ≡ cond (eq b q) (Some d) (old q)) → AreGathered plan rows nodes new
  gathered_more eq sound plan rows b d old new all x updates = record {
    each = known_more eq sound (λ q v. LeadsTo plan rows nodes q v.place) b d old new all.each x updates;
  }

  module _ (b hits misses : Bundle) (e : ℕ) (one two : List Node) (rows more : List Row) (hit miss : ℕ) (c : AreCofactors nodes e false b hits) (c' : AreCofactors nodes e true b misses)
      (w : LeadsTo one rows nodes hits hit) (k : Keeps one two) (x : Extends rows more) (v : LeadsTo two more nodes misses miss) where
    pub hit_after : BeginsAfter two e hit
    hit_after = (to_kept one two rows more hits hit k x w).after e c.after

    pub miss_after : BeginsAfter two e miss
    miss_after = v.after e c'.after

    pub hit_within : hit < length two
    hit_within = (to_kept one two rows more hits hit k x w).within

    pub gather_branch : (next : List Node) (d : ℕ) → e < 12 → ((x : ℕ) → AllAfter nodes x (parts b) → e < 12 → x < e) → ((n : ℕ) → AreDiagrams nodes n (parts b) → e < n)
        → d < length next
        → ((f : Combination) → time next f d ≡ (if f e then time two f miss else time two f hit))
        → ((y : ℕ) → y < e → BeginsAfter next y d)
        → ((n : ℕ) → e < n → EventsLess two hit n → EventsLess two miss n → EventsLess next d n)
        → LeadsTo next more nodes b d
    gather_branch next d l first bound within times after less =
        leads_branch two next more (row_at nodes b) (row_at nodes hits) (row_at nodes misses)
        (λ e. AllAfter nodes e (parts b)) (λ n. AreDiagrams nodes n (parts b)) (λ e. AllAfter nodes e (parts hits)) (λ n. AreDiagrams nodes n (parts hits)) (λ e. AllAfter nodes e (parts misses)) (λ n. AreDiagrams nodes n (parts misses))
        e hit miss d (to_kept one two rows more hits hit k x w) v within times after less
        (λ f is. c.times f is) (λ f is. c'.times f is) (λ y a. first y a l) (λ n ds. (bound n ds, (c.events n ds, c'.events n ds)))

  pub gather_leaf : (plan : List Node) (rows : List Row) (b : Bundle) (p : ℕ) (row : Row) → ((f : Combination) → row_at nodes b f ≡ row) → p < length plan
      → ((f : Combination) → slice_get rows (time plan f p) ≡ Some row) → ((e : ℕ) → BeginsAfter plan e p) → ((n : ℕ) → EventsLess plan p n) → LeadsTo plan rows nodes b p
  gather_leaf plan rows b p row is within each after less = record {
    within = within;
    each = λ f. each f ∙ ap (λ r. Some r) (sym (is f));
    after = λ e l. after e;
    events = λ n l. less n;
  }
