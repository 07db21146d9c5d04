-- What back edges of the first loops give back, and that the edges of a loop lead to its head.
use Rattle.std.proofs.Common.{◌≡◌, ℕ, ◌+◌, ◌<◌, ◌≤◌, eqb, List, [], length, take, replicate, get_or, slice_get, Some, refl, sym, ap, subst, ◌∙◌, slice_index, cond, is_some}
use Rattle.std.specs.List.{All}
use Rattle.std.proofs.lemmas.Bool.{eq-eqb}
use Rattle.std.proofs.lemmas.List.{get_or-replicate, length-replicate, take_all}
use Rattle.std.proofs.lemmas.List.Folds.{list_any_at}
use Rattle.std.proofs.lemmas.Option.{slice_get_within}
use Rattle.flow_graph.specs.declared.program.Program.{Program}
use Rattle.flow_ctx.specs.declared.unfolded.Edge.{Edge}
use Rattle.flow_ctx.specs.declared.unfolded.ULoop.{ULoop}
use Rattle.flow_ctx.specs.declared.unfolded.Unfolded.{Unfolded}
use Rattle.flow_ctx.specs.Unfolding.{IsUnfolding, IsLoop}
use Rattle.wx_base.specs.Monitor.{is_one_of}
use Rattle.cert_text.specs.declared.certificate.Certificate.{Certificate}
use Rattle.cert_text.specs.declared.certificate.TotalPrice.{TotalPrice}
use Rattle.cert_rules.specs.Prices.{back_price, entry_price, head_address, total_price}
use Rattle.cert_prices.specs.Sums.{AreBackPrices, AreEdgePrices, AreEntryPrices, AreGiven}
use Rattle.cert_prices.proofs.AmongLemmas.{AllLeadInto}
use Rattle.cert_prices.proofs.GrownLemmas.{FirstOf}
use Rattle.cert_prices.proofs.ReadLemmas.{contained, of_all}
use Rattle.cert_prices.proofs.SumLemmas.{sum_places-equal}

-- a loop of an unfolding is one
pub loop_at : (program : Program) (u : Unfolded) (i : ℕ) (l : ULoop) → IsUnfolding program u → slice_get u.loops i ≡ Some l → IsLoop program u.nodes u.edges l
loop_at program u i l is at = of_all (λ l. IsLoop program u.nodes u.edges l) u.loops i l is.loops.each at (slice_get_within u.loops i l at)

-- edges that enter a loop lead to its head
pub entries_lead : (program : Program) (u : Unfolded) → IsUnfolding program u → AllLeadInto u.edges (λ l. l.entries) u.loops
entries_lead program u is = record {
  each = λ i l number at one.
      let e = ((loop_at program u i l is at).entries number).0 (contained l.entries number one) in
      (e.edge, e.stands, e.into);
}

-- and so do its back edges
pub backs_lead : (program : Program) (u : Unfolded) → IsUnfolding program u → AllLeadInto u.edges (λ l. l.back) u.loops
backs_lead program u is = record {
  each = λ i l number at one.
      let e = ((loop_at program u i l is at).back number).0 (contained l.back number one) in
      (e.edge, e.stands, e.into);
}

-- so these are edges
pub edges_within : (edges : List Edge) (edges_of : ULoop → List ℕ) (loops : List ULoop) (i : ℕ) (l : ULoop) (count : ℕ) → AllLeadInto edges edges_of loops
    → slice_get loops i ≡ Some l → count ≡ length edges → All (λ edge. edge < count) (edges_of l)
edges_within edges edges_of loops i l count lead at long = λ k d h.
    let n = get_or (edges_of l) k d in
    let e = lead.each i l n at (list_any_at (λ a. eqb a n) (edges_of l) k d h (eq-eqb n n refl)) in
    subst (λ m. n < m) (sym long) (slice_get_within edges n e.0 e.1)

-- before the first loop nothing is given
pub none_given : (edges_of : ULoop → List ℕ) (count : ℕ) (prices amounts : List ℕ) → amounts ≡ replicate count 0 → AreGiven edges_of [] count prices amounts
none_given edges_of count prices amounts zeros = subst (AreGiven edges_of [] count prices) (sym zeros) (record {
  long = length-replicate count 0;
  each = λ edge below. get_or-replicate count edge 0 0 below;
})

-- after the last loop all is
pub all_given : (edges_of : ULoop → List ℕ) (loops : List ULoop) (i count : ℕ) (prices amounts : List ℕ) → length loops ≤ i
    → AreGiven edges_of (take i loops) count prices amounts → AreGiven edges_of loops count prices amounts
all_given edges_of loops i count prices amounts h were = subst (λ ls. AreGiven edges_of ls count prices amounts) (take_all i loops h) were

-- the price is that of a back edge of the loop
abbrev pub IsBackPrice : Certificate → Unfolded → ℕ → ULoop → ℕ → Type 0
IsBackPrice c u number l price = price ≡ back_price c u number l

-- the price that is worked out is that
pub back_is : (c : Certificate) (u : Unfolded) (number : ℕ) (l : ULoop) (multipliers : List ℕ) (totals : List TotalPrice) (price : ℕ) → multipliers ≡ c.multipliers
    → totals ≡ c.totals → price ≡ slice_index multipliers number + cond (is_some l.totalcount) (total_price totals (head_address u l)) 0
    → IsBackPrice c u number l price
back_is c u number l multipliers totals price first second is =
    is ∙ ap (λ ms. slice_index ms number + cond (is_some l.totalcount) (total_price totals (head_address u l)) 0) first
    ∙ ap (λ ts. slice_index c.multipliers number + cond (is_some l.totalcount) (total_price ts (head_address u l)) 0) second

-- all prices
pub all_backs : (c : Certificate) (u : Unfolded) (loops : List ULoop) (prices : List ℕ) → FirstOf (IsBackPrice c u) loops (length loops) prices
    → AreBackPrices c u loops prices
all_backs c u loops prices were = record {
  long = were.long;
  each = λ number l at. were.each number l at (slice_get_within loops number l at);
}

-- what is given by the loops' prices is what edges cost and give back
pub edges_priced : (c : Certificate) (u : Unfolded) (entries backs costs returns : List ℕ) → AreEntryPrices c u.loops entries → AreBackPrices c u u.loops backs
    → AreGiven (λ l. l.entries) u.loops (length u.edges) entries costs → AreGiven (λ l. l.back) u.loops (length u.edges) backs returns
    → AreEdgePrices c u costs returns
edges_priced c u entries backs costs returns first again costing giving = record {
  costs_long = costing.long;
  returns_long = giving.long;
  cost = λ edge below.
      costing.each edge below
      ∙ sum_places-equal (λ (number : ℕ) (l : ULoop). cond (is_one_of l.entries edge) (slice_index entries number) 0) (λ (number : ℕ) (l : ULoop). cond (is_one_of l.entries edge) (entry_price c number l) 0) u.loops
      (λ k l at. ap (λ n. cond (is_one_of l.entries edge) n 0) (first.each k l at));
  returned = λ edge below.
      giving.each edge below
      ∙ sum_places-equal (λ (number : ℕ) (l : ULoop). cond (is_one_of l.back edge) (slice_index backs number) 0) (λ (number : ℕ) (l : ULoop). cond (is_one_of l.back edge) (back_price c u number l) 0) u.loops
      (λ k l at. ap (λ n. cond (is_one_of l.back edge) n 0) (again.each k l at));
}
