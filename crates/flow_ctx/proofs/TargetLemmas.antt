-- How targets are gathered: those of several kinds behind one another.
use Rattle.std.proofs.Common.{◌≡◌, ℕ, zero, suc, ◌+◌, ◌<◌, ◌≤◌, ◌⊎◌, Bool, true, false, List, [], ◌∷◌, ◌++◌, length, get_or, slice_get, take, Option, Some, None, refl, sym, ap, ◌∙◌, subst, inl, inr, arith, append_assoc}
use Rattle.std.specs.List.{All, Any, Contains}
use Rattle.std.proofs.lemmas.Option.{same_Some}
use Rattle.std.proofs.lemmas.List.{append-nil, length_push, same_from_push, take_more}
use Rattle.std.proofs.lemmas.List.Elements.{All-append, All-weaker, All-nil, Contains-append_left, Contains-append_right, Contains-push, Contains-push_cases}
use Rattle.flow_block.specs.declared.block.Block.{Block}
use Rattle.flow_block.specs.Sites.{behind}
use Rattle.flow_graph.specs.declared.program.Function.{Function}
use Rattle.flow_graph.specs.declared.program.Program.{Program}
use Rattle.flow_ctx.specs.declared.place.Place.{Place}
use Rattle.flow_ctx.specs.declared.target.Target.{Target}
use Rattle.flow_ctx.specs.declared.unfolded.Call.{Call}
use Rattle.flow_ctx.specs.declared.unfolded.UNode.{UNode}
use Rattle.flow_ctx.specs.Nodes.{BeginsAt, IsBlockAt, IsReached, Leads, along, last_address, start, next, jump, call, ret}
use Rattle.flow_ctx.specs.Targets.{Adds, AreTargets, At, AtCallee, AtNext, AtReturn, AtSome, HasBlockAt, IsInOrder, LeadTo, node_of}
use Rattle.flow_ctx.proofs.SearchLemmas.{begins_once}

pub any_left : {X : Type 0} (P : X → Type 0) (xs ys : List X) → Any P xs → Any P (xs ++ ys)
any_left P xs ys a = let c = Contains-append_left xs ys a.1 (a.0, a.2, a.3) in (c.0, a.1, c.1, c.2, a.4)

pub any_right : {X : Type 0} (P : X → Type 0) (xs ys : List X) → Any P ys → Any P (xs ++ ys)
any_right P xs ys a = let c = Contains-append_right xs ys a.1 (a.0, a.2, a.3) in (c.0, a.1, c.1, c.2, a.4)

-- nothing of a kind that there is not
pub adds_none : (W : Bool → UNode → Type 0) (xs : List Target) → ((taken : Bool) (node : UNode) → W taken node → ⊥) → Adds W xs xs
adds_none W xs none = record {
  added = [];
  is = sym (append-nil xs);
  each = All-nil (λ t. W t.taken (node_of t.place));
  whole = λ taken node w. absurd (none taken node w);
}

-- a node that is come to has a block
pub of_begins : (program : Program) (n : UNode) (chain : List Call) (address : ℕ) → BeginsAt program n chain address → HasBlockAt program n
of_begins program n chain address b = record { function = b.function; block = b.block; is = b.is }

pub of_leads : (program : Program) (from : UNode) (taken : Bool) (to : UNode) → Leads program from taken to → HasBlockAt program to
of_leads program from taken to (next f b address x i is begins) = of_begins program x from.chain address begins
of_leads program from taken to (jump f b address x i is begins) = of_begins program x from.chain address begins
of_leads program from taken to (call f b entry x i is begins) = of_begins program x (from.chain ++ record { site = last_address b; entry = entry } ∷ []) entry begins
of_leads program from taken to (ret f b callers last x i is after begins) = of_begins program x callers (behind last.site 1) begins

-- a node that is reached has a block
pub reached_has_block : (program : Program) (n : UNode) → IsReached program n → HasBlockAt program n
reached_has_block program n (start x s) = of_begins program x [] program.start s
reached_has_block program n (along from taken x r l) = of_leads program from taken x l

pub adds_one : (W : Bool → UNode → Type 0) (xs : List Target) (t : Target) → W t.taken (node_of t.place)
    → ((taken : Bool) (node : UNode) → W taken node → (t.taken ≡ taken) × (node_of t.place ≡ node)) → Adds W xs (xs ++ t ∷ [])
adds_one W xs t wanted alone = record {
  added = t ∷ [];
  is = refl;
  each = λ k d within. subst (λ (k : ℕ). W (get_or (t ∷ []) k d).taken (node_of (get_or (t ∷ []) k d).place)) (first k within) wanted;
  whole = λ taken node w. (0, t, omega arith, refl, alone taken node w);
}
  where
    first : (k : ℕ) → k < length (t ∷ []) → 0 ≡ k
    first k h = omega arith

pub adds_joined : (V W : Bool → UNode → Type 0) (xs ys zs : List Target) → Adds V xs ys → Adds W ys zs → Adds (λ t n. V t n ⊎ W t n) xs zs
adds_joined V W xs ys zs a b = record {
  added = a.added ++ b.added;
  is = b.is ∙ ap (λ (l : List Target). l ++ b.added) a.is ∙ append_assoc xs a.added b.added;
  each = All-append Either a.added b.added
      (All-weaker (λ t. V t.taken (node_of t.place)) Either (λ t v. inl v) a.added a.each)
      (All-weaker (λ t. W t.taken (node_of t.place)) Either (λ t w. inr w) b.added b.each);
  whole = λ taken node h. elim h [
    | inl v ↦ any_left (λ t. (t.taken ≡ taken) × (node_of t.place ≡ node)) a.added b.added (a.whole taken node v)
    | inr w ↦ any_right (λ t. (t.taken ≡ taken) × (node_of t.place ≡ node)) a.added b.added (b.whole taken node w)
  ];
}
  where
    Either : Target → Type 0
    Either t = V t.taken (node_of t.place) ⊎ W t.taken (node_of t.place)

pub adds_as : (V W : Bool → UNode → Type 0) (xs ys : List Target) → ((taken : Bool) (node : UNode) → V taken node → W taken node)
    → ((taken : Bool) (node : UNode) → W taken node → V taken node) → Adds V xs ys → Adds W xs ys
adds_as V W xs ys there back a = record {
  added = a.added;
  is = a.is;
  each = All-weaker (λ t. V t.taken (node_of t.place)) (λ t. W t.taken (node_of t.place)) (λ t v. there t.taken (node_of t.place) v) a.added a.each;
  whole = λ taken node w. a.whole taken node (back taken node w);
}

module _ (program : Program) (order : IsInOrder program) where
  pub pushed : (chain : List Call) (begin : ℕ) (taken : Bool) (xs : List Target) (place : Place) → BeginsAt program (node_of place) chain begin
      → Adds (At program chain begin taken) xs (xs ++ record { place = place; taken = taken } ∷ [])
  pushed chain begin taken xs place b = adds_one (At program chain begin taken) xs (record { place = place; taken = taken }) (refl, b)
      (λ was node a. (sym a.0, begins_once program order (node_of place) node chain begin b a.1))

  -- the block behind the last call
  pub returns_to : (chain callers : List Call) (last : Call) (block : Block) (xs ys : List Target) → block.ret ≡ true → chain ≡ callers ++ last ∷ []
      → Adds (At program callers (behind last.site 1) true) xs ys → Adds (AtReturn program chain block) xs ys
  returns_to chain callers last block xs ys is after a = adds_as (At program callers (behind last.site 1) true) (AtReturn program chain block) xs ys
      (λ taken node h. record { callers = callers; last = last; ret = is; after = after; taken = h.0; begins = h.1 })
      (λ taken node h.
      let e = same_from_push h.callers callers h.last last (sym h.after ∙ after) in
      let b : BeginsAt program node callers (behind h.last.site 1) = subst (λ (l : List Call). BeginsAt program node l (behind h.last.site 1)) e.0 h.begins in
      (h.taken, subst (λ (l : Call). BeginsAt program node callers (behind l.site 1)) e.1 b))
      a

  -- no return from the function where runs start
  pub returns_nowhere : (chain : List Call) (block : Block) (xs : List Target) → chain ≡ [] → Adds (AtReturn program chain block) xs xs
  returns_nowhere chain block xs none = adds_none (AtReturn program chain block) xs
      (λ taken node h. absurd (omega (arith, length_push h.callers h.last, ap length (sym none ∙ h.after))))

  -- one jump more
  module _ (chain : List Call) (jumps : List ℕ) (i : ℕ) (within : i < length jumps) (xs ys zs : List Target) where
    pub jumps_more : Adds (AtSome program chain (take i jumps)) xs ys → Adds (At program chain (get_or jumps i 0) true) ys zs
        → Adds (AtSome program chain (take (i + 1) jumps)) xs zs
    jumps_more a b = subst (λ (l : List ℕ). Adds (AtSome program chain l) xs zs) (sym (take_more jumps i 0 within))
        (adds_as Both (AtSome program chain (take i jumps ++ get_or jumps i 0 ∷ [])) xs zs there back
        (adds_joined (AtSome program chain (take i jumps)) (At program chain (get_or jumps i 0) true) xs ys zs a b))
      where
        Both : Bool → UNode → Type 0
        Both t n = AtSome program chain (take i jumps) t n ⊎ At program chain (get_or jumps i 0) true t n

        there : (taken : Bool) (node : UNode) → Both taken node → AtSome program chain (take i jumps ++ get_or jumps i 0 ∷ []) taken node
        there taken node (inl s) = record { address = s.address; listed = Contains-append_left (take i jumps) (get_or jumps i 0 ∷ []) s.address s.listed; taken = s.taken; begins = s.begins }
        there taken node (inr s) = record { address = get_or jumps i 0; listed = Contains-push (take i jumps) (get_or jumps i 0); taken = s.0; begins = s.1 }

        back : (taken : Bool) (node : UNode) → AtSome program chain (take i jumps ++ get_or jumps i 0 ∷ []) taken node → Both taken node
        back taken node s = elim (Contains-push_cases (take i jumps) (get_or jumps i 0) s.address s.listed) [
          | inl c ↦ inl (record { address = s.address; listed = c; taken = s.taken; begins = s.begins })
          | inr e ↦ inr (s.taken, subst (λ (a : ℕ). BeginsAt program node chain a) (sym e) s.begins)
        ]

  -- one call more
  module _ (chain : List Call) (site : ℕ) (entries : List ℕ) (i : ℕ) (within : i < length entries) (xs ys zs : List Target) where
    abbrev longer : ℕ → List Call
    longer e = chain ++ record { site = site; entry = e } ∷ []

    pub calls_more : Adds (AtCallee program chain site (take i entries)) xs ys
        → Adds (At program (chain ++ record { site = site; entry = get_or entries i 0 } ∷ []) (get_or entries i 0) true) ys zs
        → Adds (AtCallee program chain site (take (i + 1) entries)) xs zs
    calls_more a b = subst (λ (l : List ℕ). Adds (AtCallee program chain site l) xs zs) (sym (take_more entries i 0 within))
        (adds_as Both (AtCallee program chain site (take i entries ++ get_or entries i 0 ∷ [])) xs zs there back
        (adds_joined (AtCallee program chain site (take i entries)) One xs ys zs a b))
      where
        One : Bool → UNode → Type 0
        One t n = At program (chain ++ record { site = site; entry = get_or entries i 0 } ∷ []) (get_or entries i 0) true t n

        Both : Bool → UNode → Type 0
        Both t n = AtCallee program chain site (take i entries) t n ⊎ One t n

        there : (taken : Bool) (node : UNode) → Both taken node → AtCallee program chain site (take i entries ++ get_or entries i 0 ∷ []) taken node
        there taken node (inl s) = record { entry = s.entry; listed = Contains-append_left (take i entries) (get_or entries i 0 ∷ []) s.entry s.listed; taken = s.taken; begins = s.begins }
        there taken node (inr s) = record { entry = get_or entries i 0; listed = Contains-push (take i entries) (get_or entries i 0); taken = s.0; begins = s.1 }

        back : (taken : Bool) (node : UNode) → AtCallee program chain site (take i entries ++ get_or entries i 0 ∷ []) taken node → Both taken node
        back taken node s = elim (Contains-push_cases (take i entries) (get_or entries i 0) s.entry s.listed) [
          | inl c ↦ inl (record { entry = s.entry; listed = c; taken = s.taken; begins = s.begins })
          | inr e ↦ inr (s.taken, subst (λ (a : ℕ). BeginsAt program node (longer a) a) (sym e) s.begins)
        ]

-- the four kinds are all that a node leads to
module _ (program : Program) (from : UNode) (function : Function) (block : Block) (at : IsBlockAt program from function block) where
  abbrev Next : Bool → UNode → Type 0
  Next = AtNext program from.chain block

  abbrev Jump : Bool → UNode → Type 0
  Jump = AtSome program from.chain block.jumps

  abbrev Callee : Bool → UNode → Type 0
  Callee = AtCallee program from.chain (last_address block) block.calls

  abbrev Return : Bool → UNode → Type 0
  Return = AtReturn program from.chain block

  abbrev All4 : Bool → UNode → Type 0
  All4 t n = ((Next t n ⊎ Jump t n) ⊎ Callee t n) ⊎ Return t n

  its_function : (f : Function) (b : Block) → IsBlockAt program from f b → f ≡ function
  its_function f b i = same_Some f function (sym i.function_stands ∙ at.function_stands)

  its_block : (f : Function) (b : Block) → IsBlockAt program from f b → b ≡ block
  its_block f b i = same_Some b block (sym i.block_stands ∙ ap (λ (g : Function). slice_get g.blocks from.block) (its_function f b i) ∙ at.block_stands)

  leads_there : (taken : Bool) (to : UNode) → All4 taken to → Leads program from taken to
  leads_there taken to (inl (inl (inl s))) = subst (λ (t : Bool). Leads program from t to) (sym s.untaken) (next function block s.address to at s.next s.begins)
  leads_there taken to (inl (inl (inr s))) = subst (λ (t : Bool). Leads program from t to) (sym s.taken) (jump function block s.address to at s.listed s.begins)
  leads_there taken to (inl (inr s)) = subst (λ (t : Bool). Leads program from t to) (sym s.taken) (call function block s.entry to at s.listed s.begins)
  leads_there taken to (inr s) = subst (λ (t : Bool). Leads program from t to) (sym s.taken) (ret function block s.callers s.last to at s.ret s.after s.begins)

  leads_back : (taken : Bool) (to : UNode) → Leads program from taken to → All4 taken to
  leads_back taken to (next f b address x i is begins) = inl (inl (inl (record { address = address; next = ap (λ (x : Block). x.next) (sym (its_block f b i)) ∙ is; untaken = refl; begins = begins })))
  leads_back taken to (jump f b address x i is begins) = inl (inl (inr (record { address = address; listed = subst (λ (x : Block). Contains x.jumps address) (its_block f b i) is; taken = refl; begins = begins })))
  leads_back taken to (call f b entry x i is begins) = inl (inr (record {
    entry = entry;
    listed = subst (λ (x : Block). Contains x.calls entry) (its_block f b i) is;
    taken = refl;
    begins = subst (λ (y : Block). BeginsAt program x (from.chain ++ record { site = last_address y; entry = entry } ∷ []) entry) (its_block f b i) begins;
  }))
  leads_back taken to (ret f b callers last x i is after begins) = inr (record { callers = callers; last = last; ret = ap (λ (x : Block). x.ret) (sym (its_block f b i)) ∙ is; after = after; taken = refl; begins = begins })

  pub are_targets : (a b c d e : List Target) → a ≡ [] → Adds (AtNext program from.chain block) a b → Adds (AtSome program from.chain block.jumps) b c
      → Adds (AtCallee program from.chain (last_address block) block.calls) c d → Adds (AtReturn program from.chain block) d e → AreTargets program from e
  are_targets a b c d e none first second third fourth =
      let two = adds_joined Next Jump a b c first second in
      let three = adds_joined (λ t n. Next t n ⊎ Jump t n) Callee a c d two third in
      let all = adds_joined (λ t n. (Next t n ⊎ Jump t n) ⊎ Callee t n) Return a d e three fourth in
      let same : e ≡ all.added = all.is ∙ ap (λ (l : List Target). l ++ all.added) none in
      record {
        each = subst (λ (l : List Target). All (λ t. Leads program from t.taken (node_of t.place)) l) (sym same)
            (All-weaker (λ t. All4 t.taken (node_of t.place)) (λ t. Leads program from t.taken (node_of t.place)) (λ t h. leads_there t.taken (node_of t.place) h) all.added all.each);
        whole = λ taken to l. subst (λ (x : List Target). LeadTo x taken to) (sym same) (all.whole taken to (leads_back taken to l));
      }

  pub are_targets_of : (chain : List Call) (jumps : List ℕ) (site : ℕ) (calls : List ℕ) → chain ≡ from.chain → jumps ≡ block.jumps
      → site ≡ last_address block → calls ≡ block.calls → (a b c d e : List Target) → a ≡ [] → Adds (AtNext program chain block) a b
      → Adds (AtSome program chain jumps) b c → Adds (AtCallee program chain site calls) c d → Adds (AtReturn program chain block) d e
      → AreTargets program from e
  are_targets_of chain jumps site calls ec ej es el a b c d e none first second third fourth = are_targets a b c d e none
      (subst (λ (l : List Call). Adds (AtNext program l block) a b) ec first)
      (subst (λ (l : List ℕ). Adds (AtSome program from.chain l) b c) ej (subst (λ (l : List Call). Adds (AtSome program l jumps) b c) ec second))
      (subst (λ (l : List ℕ). Adds (AtCallee program from.chain (last_address block) l) c d) el
      (subst (λ (s : ℕ). Adds (AtCallee program from.chain s calls) c d) es
      (subst (λ (l : List Call). Adds (AtCallee program l site calls) c d) ec third)))
      (subst (λ (l : List Call). Adds (AtReturn program l block) d e) ec fourth)
