-- What the rows of a block, of an exit and of a list of outcomes come to.
use Rattle.std.proofs.Common.{◌≡◌, ℕ, zero, suc, ◌+◌, ◌-◌, ◌<◌, ◌≤◌, Bool, false, List, [], ◌∷◌, ◌++◌, length, map, slice_get, slice_index, Some, refl, sym, ap, ◌∙◌, inl, inr, arith, add-one}
use Rattle.std.specs.List.{range_with_len}
use Rattle.std.proofs.lemmas.List.{length-map, get_or-map, length-set}
use Rattle.std.proofs.lemmas.List.FromFn.{length-range_with_len, get_or-range_with_len}
use Rattle.std.proofs.lemmas.Option.{slice_get_within, slice_get-get_or, get_or_from_slice_get, slice_get-map, same_Some}
use Rattle.std.specs.Option.{option_map}
use Rattle.wx_base.specs.declared.machine.Machine.{Machine}
use Rattle.wx_base.specs.Blocks.{finish_from, Exit, with_jump, cost_of, past_from}
use Rattle.wx_base.specs.Recurrence.{Done, window, ago, c_back}
use Rattle.wx_base.specs.Vector.{slot_count}
use Rattle.flow_block.specs.declared.block.Block.{Block}
use Rattle.xdd_table.specs.declared.node.Dd.{Dd}
use Rattle.xdd_table.specs.declared.node.Node.{Node}
use Rattle.xdd_table.specs.Diagram.{Combination, time}
use Rattle.pipe_block.specs.declared.diagrams.BlockVector.{BlockVector}
use Rattle.pipe_block.specs.declared.diagrams.BlockExit.{BlockExit}
use Rattle.pipe_block.specs.declared.diagrams.Outcome.{Outcome}
use Rattle.pipe_block.specs.declared.row.Row.{Row}
use Rattle.pipe_block.specs.declared.row.Bundle.{Bundle}
use Rattle.pipe_block.specs.Events.{IsTimed, entries_of}
use Rattle.pipe_block.specs.Times.{times_at, AreDiagrams, AreTimes, IsDiagram}
use Rattle.pipe_block.specs.Exits.{exit_row_of, AreExits}
use Rattle.pipe_block.specs.Outcomes.{outcome_of, AreOutcomes}
use Rattle.pipe_block.specs.Rows.{row_at, GivesRows, Leads, LeadsTo, IsColumn, AddsGiven}
use Rattle.pipe_block.specs.Walks.{row_from}
use Rattle.std.proofs.lemmas.List.Elements.{All-cons, All-nil, All-weaker}

-- a vector behind instructions has 35 slots
pub window_long : (m : Machine) (slots : List ℕ) (past : List Done) → length (window m slots past) ≡ slot_count
unfolding window
window_long m slots past = refl

pub window_completion : (m : Machine) (slots : List ℕ) (past : List Done) → slice_index (window m slots past) 14 ≡ ago 1 (c_back slots past)
unfolding window
window_completion m slots past = refl

-- the completion is slot 14
pub finish_is : (nodes : List Node) (m : Machine) (from : List ℕ) (b : Block) (v : BlockVector) (d : Dd) → slice_get v.slots 14 ≡ Some d → AreTimes nodes m from b v → (f : Combination)
    → time nodes f d.place ≡ finish_from m from (entries_of b f)
finish_is nodes m from b v d at w f =
    let l : 14 < length v.slots = slice_get_within v.slots 14 d at in
    let a : slice_index (times_at nodes f v.slots) 14 ≡ time nodes f d.place =
    get_or-map (λ d. time nodes f d.place) v.slots 14 d 0 l ∙ ap (λ x. time nodes f x.place) (get_or_from_slice_get v.slots 14 d d at) in
    sym a ∙ (ap (λ xs. slice_index xs 14) (w.slots f) ∙ window_completion m from (past_from m from (entries_of b f)))

-- the rows of a block
pub block_times : (plan nodes : List Node) (rows : List Row) (p : ℕ) (bundle : Bundle) (m : Machine) (from : List ℕ) (b : Block) (row_of : Combination → Row) (After : ℕ → Type 0)
    → Leads plan rows row_of After (λ bound. length b.slots ≤ bound) p → GivesRows plan nodes rows p bundle → ((f : Combination) → row_of f ≡ row_from m from (entries_of b f))
    → AreTimes nodes m from b (record { slots = bundle.slots; last = bundle.number })
block_times plan nodes rows p bundle m from b row_of After w g same =
    let all : (f : Combination) → row_at nodes bundle f ≡ row_from m from (entries_of b f) = λ f.
    g.each f (row_from m from (entries_of b f)) (w.each f ∙ ap (λ r. Some r) (same f)) (window_long m from (past_from m from (entries_of b f))) in
    record {
      slots = λ f. ap (λ (r : Row). r.slots) (all f);
      last = λ f. ap (λ (r : Row). r.number) (all f);
      diagrams = g.diagrams (length b.slots) (w.events (length b.slots) (omega arith));
    }

exit_long : (m : Machine) (taken : Bool) (row : Row) → length row.slots ≡ slot_count → length (exit_row_of m taken row).slots ≡ slot_count
exit_long m taken row long = length-map (with_jump taken row.number row.slots) (λ t. t - cost_of m (with_jump taken row.number row.slots)) ∙ (length-set row.slots 13 _ ∙ long)

-- the rows of an exit
pub exit_rows_are : (old new plan : List Node) (rows : List Row) (p : ℕ) (bundle : Bundle) (m : Machine) (taken : Bool) (v : BlockVector) → length v.slots ≡ slot_count
    → LeadsTo plan rows old (record { number = v.last; slots = v.slots }) p → GivesRows plan new (map (exit_row_of m taken) rows) p bundle
    → AreExits old new m taken v (record { cost = bundle.number; slots = bundle.slots })
exit_rows_are old new plan rows p bundle m taken v long w g = record {
  exits = λ f.
      let r : Row = row_at old (record { number = v.last; slots = v.slots }) f in
      let at : slice_get (map (exit_row_of m taken) rows) (time plan f p) ≡ Some (exit_row_of m taken r) =
      slice_get-map (exit_row_of m taken) rows (time plan f p) ∙ ap (option_map (exit_row_of m taken)) (w.each f) in
      let l : length r.slots ≡ slot_count = length-map v.slots (λ d. time old f d.place) ∙ long in
      let e : row_at new bundle f ≡ exit_row_of m taken r = g.each f (exit_row_of m taken r) at (exit_long m taken r l) in
      let to : Row → Exit = λ x. record { cost = x.number; slots = x.slots } in
      ap to e;
  diagrams = λ bound ds. g.diagrams bound (w.events bound ds);
}

pub some_of_map : {A B : Type 0} (g : A → B) (xs : List A) (i : ℕ) (y : B) → slice_get (map g xs) i ≡ Some y → (x : A) × (slice_get xs i ≡ Some x) × (g x ≡ y)
some_of_map g [] i y h = cc
some_of_map g (x ∷ xs) zero y h = (x, refl, same_Some (g x) y h)
some_of_map g (x ∷ xs) (suc i) y h = some_of_map g xs i y h

outcome_row : Outcome → Row
outcome_row o = record { number = o.cost; slots = o.vector.slots }

pub same_rows : (r s : Row) → outcome_of r ≡ outcome_of s → r ≡ s
same_rows r s h =
    let to : Outcome → Row = λ o. record { number = o.cost; slots = o.vector.slots } in
    ap to h

-- the list of the rows as outcomes
pub outcomes_are : (old new plan : List Node) (rows : List Row) (p : ℕ) (place : Dd) (e : BlockExit)
    → ((i j : ℕ) (r : Row) → slice_get rows i ≡ Some r → slice_get rows j ≡ Some r → i ≡ j)
    → LeadsTo plan rows old (record { number = e.cost; slots = e.slots }) p → AddsGiven [] rows (row_at old (record { number = e.cost; slots = e.slots })) 0
    → IsColumn plan new (range_with_len 0 (length rows)) p place
    → AreOutcomes old new e (record { list = map outcome_of rows; place = place })
outcomes_are old new plan rows p place e distinct w given c = record {
  each = λ f.
      let i = time plan f p in
      let l : i < length rows = slice_get_within rows i _ (w.each f) in
      let l' : i < length (range_with_len 0 (length rows)) = rw (length-range_with_len 0 (length rows)) l in
      let at : slice_get (range_with_len 0 (length rows)) i ≡ Some i =
      slice_get-get_or (range_with_len 0 (length rows)) i 0 l' ∙ ap (λ x. Some x) (get_or-range_with_len 0 (length rows) i 0 l ∙ omega arith) in
      let same : time new f place.place ≡ i = c.each f i at in
      rw same (slice_get-map outcome_of rows i ∙ ap (option_map outcome_of) (w.each f));
  given = λ i x at.
      let s = some_of_map outcome_of rows i x at in
      elim (given.added i s.0 s.1) [
        | inl none ↦ absurd (let n : i < 0 = slice_get_within [] i s.0 none in omega arith)
        | inr g ↦ let k = g.by (λ x. false) in (k.0, sym s.2 ∙ ap outcome_of k.1)
      ];
  once = λ i j x at at'.
      let s = some_of_map outcome_of rows i x at in
      let t = some_of_map outcome_of rows j x at' in
      let same : t.0 ≡ s.0 = same_rows t.0 s.0 (t.2 ∙ sym s.2) in
      distinct i j s.0 s.1 (rw same at t.1);
  diagrams = λ bound ds.
      All-cons (IsDiagram new bound) place [] (record { within = c.within; events = c.events bound (w.events bound ds) }) (All-nil (IsDiagram new bound));
}

pub range_more : (a n : ℕ) → range_with_len a (n + 1) ≡ range_with_len a n ++ (a + n) ∷ []
range_more a n = rw add-one (go a n)
  where
    go : (a n : ℕ) → range_with_len a (suc n) ≡ range_with_len a n ++ (a + n) ∷ []
    go a zero = let e : a + 0 ≡ a = omega arith in rw e refl
    go a (suc n) = let e : a + 1 + n ≡ a + suc n = omega arith in ap (λ xs. a ∷ xs) (go (a + 1) n ∙ ap (λ x. range_with_len (a + 1) n ++ x ∷ []) e)

-- the diagrams of a block's times read none but the first twelve events
pub few_events : (nodes : List Node) (m : Machine) (from : List ℕ) (b : Block) (v : BlockVector) → IsTimed b → AreTimes nodes m from b v → AreDiagrams nodes 12 (v.last ∷ v.slots)
few_events nodes m from b v t w =
    let k : length b.slots ≤ 12 = t.few in
    All-weaker (IsDiagram nodes (length b.slots)) (IsDiagram nodes 12)
    (λ d x. record { within = x.within; events = λ q e hit miss below is. let l : e < length b.slots = x.events q e hit miss below is in omega arith }) (v.last ∷ v.slots) w.diagrams
