-- Where a line is known.
use Rattle.std.proofs.Common.{◌≡◌, ℕ, ◌+◌, ◌<◌, Bool, true, false, not, ◌||◌, List, [], ◌∷◌, ◌++◌, length, refl, sym, ap, subst, ◌∙◌, inl, inr, arith}
use Rattle.std.specs.List.{Contains}
use Rattle.std.specs.Global.{Vec}
use Rattle.std.proofs.lemmas.Bool.{cases_eq, cases_lt, false≢true, or_left, or_right}
use Rattle.std.proofs.lemmas.List.Elements.{All-contains, Contains-append_cases, Contains-append_left, Contains-append_right}
use Rattle.wx_base.specs.declared.machine.Shape.{Shape}
use Rattle.wx_base.specs.CacheStates.{Younger, YoungerCovers}
use Rattle.cache_ages.specs.Bounds.{is_one_of}
use Rattle.cache_pers.specs.Stays.{younger_along}
use Rattle.cache_flow.specs.declared.flow.Flow.{Flow}
use Rattle.cache_flow.specs.declared.flow.Move.{Move}
use Rattle.cache_flow.specs.Flows.{Part, IsFlow, accesses_of}
use Rattle.cache_flow.specs.Solutions.{IsYoungerSolution}
use Rattle.cache_kept.specs.Parts.{AreInside, IsClosed, IsCycle, IsInner, IsSure}
use Rattle.cache_kept.specs.Roots.{AreRoots, IsRoot}
use Rattle.cache_kept.specs.Walk.{is_marked, AreNodes, AreSpread}
use Rattle.cache_kept.specs.Ways.{list_at, AreSources, AreTargets}
use Rattle.cache_kept.proofs.Along.{along_known}
use Rattle.cache_kept.proofs.Lists.{none_there, the_one, there_too}

-- ---- solutions

-- over a move between members, what is known behind the source is known at the target
pub known_along : (shape : Shape) (flow : Flow) (part : Part) (members : List ℕ) (line : ℕ) (states : ℕ → Younger) → part.members ≡ members → IsYoungerSolution shape flow part states
    → (source target : ℕ) → IsInner flow.moves members source target → (is_one_of (accesses_of flow source) line || (states source).known line) ≡ true → (states target).known line ≡ true
known_along shape flow part members line states same solution source target inner e =
    let covers : YoungerCovers (states target) (younger_along shape (states source) (accesses_of flow source)) =
    solution.moves (record { from = source; to = target }) inner.move (subst (λ (ms : List ℕ). Contains ms source) (sym same) inner.from) (subst (λ (ms : List ℕ). Contains ms target) (sym same) inner.to) in
    covers.known line (along_known shape line (states source) (accesses_of flow source) ∙ turn (is_one_of (accesses_of flow source) line) ((states source).known line) e)
  where
    turn : (a b : Bool) → (a || b) ≡ true → (b || a) ≡ true
    turn true b e = or_right b true refl
    turn false b e = or_left b false e

-- ---- one cycle

-- all members may know the line
pub inside_closed : (flow : Flow) (members : List ℕ) (line : ℕ) (marks : List Bool) → AreInside (length flow.nodes) members marks → IsClosed flow members line marks
inside_closed flow members line marks inside = record {
  long = inside.long;
  goes = λ source target inner e. (inside.exact target).1 inner.to;
}

-- and do, where the part is a cycle and a member accesses the line
pub cycle_sure : (shape : Shape) (flow : Flow) (part : Part) (members : List ℕ) (line node : ℕ) (marks : List Bool) → part.members ≡ members → AreInside (length flow.nodes) members marks
    → IsCycle flow.moves members → Contains members node → is_one_of (accesses_of flow node) line ≡ true → IsSure shape flow part line marks
cycle_sure shape flow part members line node marks same inside cycle member accessed = record {
  known = λ states solution v marked.
      cycle (λ n. is_one_of (accesses_of flow n) line) (λ n. (states n).known line) (known_along shape flow part members line states same solution)
      node v member accessed ((inside.exact v).0 marked);
}

-- ---- marks of what roots lead to

module _ (flow : Flow) (ways : List (Vec ℕ)) (members : List ℕ) (line : ℕ) (inside marks : List Bool) (roots : List ℕ) (is : IsFlow flow) (targets : AreTargets (length flow.nodes) flow.moves ways)
    (within : AreInside (length flow.nodes) members inside) (all : AreRoots flow members line (length flow.nodes) roots) (spread : AreSpread ways inside roots marks) where
  pub spread_closed : IsClosed flow members line marks
  spread_closed = record {
    long = spread.long ∙ targets.long;
    goes = λ source target inner e. at source target inner (is_marked marks source) refl e;
  }
    where
      at : (source target : ℕ) → IsInner flow.moves members source target → (b : Bool) → is_marked marks source ≡ b
          → (is_marked marks source || is_one_of (accesses_of flow source) line) ≡ true → is_marked marks target ≡ true
      at source target inner true marked e = spread.goes source target marked ((targets.exact source target).1 inner.move) ((within.exact target).1 inner.to)
      at source target inner false marked e =
          let accessed : is_one_of (accesses_of flow source) line ≡ true = sym (ap (λ (b : Bool). b || is_one_of (accesses_of flow source) line) marked) ∙ e in
          let early : source < length flow.nodes = All-contains (λ (m : Move). m.from < length flow.nodes) flow.moves (record { from = source; to = target }) is.from inner.move in
          spread.begun target ((all.exact target).1 (record { source = source; early = early; member = inner.from; accesses = accessed; move = inner.move })) ((within.exact target).1 inner.to)

  pub spread_sure : (shape : Shape) (part : Part) → part.members ≡ members → IsSure shape flow part line marks
  spread_sure shape part same = record {
    known = λ states solution v marked. spread.only (λ n. (states n).known line)
        (λ root there inner. begins states solution root ((all.exact root).0 there) inner)
        (λ from to holds from_in there to_in. known_along shape flow part members line states same solution from to
        (record { move = (targets.exact from to).0 there; from = (within.exact from).0 from_in; to = (within.exact to).0 to_in })
        (or_right (is_one_of (accesses_of flow from) line) ((states from).known line) holds)) v marked;
  }
    where
      begins : (states : ℕ → Younger) → IsYoungerSolution shape flow part states → (root : ℕ) → IsRoot flow members line (length flow.nodes) root → is_marked inside root ≡ true
          → (states root).known line ≡ true
      begins states solution root r inner =
          known_along shape flow part members line states same solution r.source root (record { move = r.move; from = r.member; to = (within.exact root).0 inner })
          (or_left (is_one_of (accesses_of flow r.source) line) ((states r.source).known line) r.accesses)

-- the same lists, marks and roots
pub spread_same : (a b : List (Vec ℕ)) (i j : List Bool) (r s : List ℕ) (marks : List Bool) → a ≡ b → i ≡ j → r ≡ s → AreSpread a i r marks → AreSpread b j s marks
spread_same a b i j r s marks e f g spread =
    subst (λ (x : List (Vec ℕ)). AreSpread x j s marks) e (subst (λ (x : List Bool). AreSpread a x s marks) f (subst (λ (x : List ℕ). AreSpread a i x marks) g spread))

-- ---- roots

pub roots_none : (flow : Flow) (members : List ℕ) (line : ℕ) → AreRoots flow members line 0 []
roots_none flow members line = record { exact = λ root. (λ c. absurd (none_there root c), λ r. absurd (omega (arith, r.early))) }

-- a node that is no member, or does not access the line
pub roots_same : (flow : Flow) (members : List ℕ) (line count : ℕ) (roots : List ℕ) → (Contains members count → is_one_of (accesses_of flow count) line ≡ true → ⊥)
    → AreRoots flow members line count roots → AreRoots flow members line (count + 1) roots
roots_same flow members line count roots none so = record {
  exact = λ root. (
    λ c. let r = (so.exact root).0 c in record { source = r.source; early = omega (arith, r.early); member = r.member; accesses = r.accesses; move = r.move },
    λ r. (so.exact root).1 (record { source = r.source; early = early r; member = r.member; accesses = r.accesses; move = r.move }),
  );
}
  where
    early : {root : ℕ} (r : IsRoot flow members line (count + 1) root) → r.source < count
    early r = elim (cases_lt r.source count) [
      | inl h ↦ h
      | inr p ↦
          let same : r.source ≡ count = omega (arith, r.early, p) in
          absurd (none (subst (λ (n : ℕ). Contains members n) same r.member) (subst (λ (n : ℕ). is_one_of (accesses_of flow n) line ≡ true) same r.accesses))
    ]

pub roots_more : (flow : Flow) (ways : List (Vec ℕ)) (members : List ℕ) (line count : ℕ) (roots after targets : List ℕ) → AreTargets (length flow.nodes) flow.moves ways
    → Contains members count → is_one_of (accesses_of flow count) line ≡ true → targets ≡ list_at ways count → after ≡ roots ++ targets
    → AreRoots flow members line count roots → AreRoots flow members line (count + 1) after
roots_more flow ways members line count roots after targets to member accessed is more so = record {
  exact = λ root. (
    λ c. elim (Contains-append_cases roots targets root (there_too after (roots ++ targets) root more c)) [
      | inl old ↦ let r = (so.exact root).0 old in record { source = r.source; early = omega (arith, r.early); member = r.member; accesses = r.accesses; move = r.move }
      | inr new ↦ record {
        source = count;
        early = omega arith;
        member = member;
        accesses = accessed;
        move = (to.exact count root).0 (there_too targets (list_at ways count) root is new);
      }
    ],
    λ r. there_too (roots ++ targets) after root (sym more) (elim (cases_eq r.source count) [
      | inl e ↦ Contains-append_right roots targets root (there_too (list_at ways count) targets root (sym is)
          ((to.exact count root).1 (subst (λ (n : ℕ). Contains flow.moves (record { from = n; to = root })) e r.move)))
      | inr other ↦ Contains-append_left roots targets root
          ((so.exact root).1 (record { source = r.source; early = omega (arith, r.early, other); member = r.member; accesses = r.accesses; move = r.move }))
    ]),
  );
}

-- moves lead to nodes
pub targets_nodes : (flow : Flow) (ways : List (Vec ℕ)) (node : ℕ) → IsFlow flow → AreTargets (length flow.nodes) flow.moves ways → AreNodes (length ways) (list_at ways node)
targets_nodes flow ways node is to = record {
  within = λ v c. omega (arith, to.long, All-contains (λ (m : Move). m.to < length flow.nodes) flow.moves (record { from = node; to = v }) is.to ((to.exact node v).0 c));
}

pub sources_nodes : (flow : Flow) (ways : List (Vec ℕ)) (node : ℕ) → IsFlow flow → AreSources (length flow.nodes) flow.moves ways → AreNodes (length ways) (list_at ways node)
sources_nodes flow ways node is from = record {
  within = λ v c. omega (arith, from.long, All-contains (λ (m : Move). m.from < length flow.nodes) flow.moves (record { from = v; to = node }) is.from ((from.exact v node).0 c));
}

pub roots_nodes : (flow : Flow) (ways : List (Vec ℕ)) (members : List ℕ) (line : ℕ) (roots : List ℕ) → IsFlow flow → AreTargets (length flow.nodes) flow.moves ways
    → AreRoots flow members line (length flow.nodes) roots → AreNodes (length ways) roots
roots_nodes flow ways members line roots is to so = record {
  within = λ v c.
      let r = (so.exact v).0 c in
      omega (arith, to.long, All-contains (λ (m : Move). m.to < length flow.nodes) flow.moves (record { from = r.source; to = v }) is.to r.move);
}

-- ---- whether a part is a cycle

module _ (flow : Flow) (ahead_ways back_ways : List (Vec ℕ)) (members : List ℕ) (head : ℕ) (inside ahead back : List Bool) (to : AreTargets (length flow.nodes) flow.moves ahead_ways)
    (from : AreSources (length flow.nodes) flow.moves back_ways) (within : AreInside (length flow.nodes) members inside) (first : List ℕ) (is : first ≡ list_at ahead_ways head)
    (spread : AreSpread ahead_ways inside first ahead) (turned : AreSpread back_ways inside (head ∷ []) back)
    (all : (node : ℕ) → Contains members node → is_marked ahead node ≡ true) (too : (node : ℕ) → Contains members node → is_marked back node ≡ true) where
  imply : (a b c : Bool) → (a ≡ true → c ≡ true) → (not c || b) ≡ true → (not a || b) ≡ true
  imply true b true f e = e
  imply true b false f e = absurd (false≢true (f refl))
  imply false b c f e = refl

  itself : (x : Bool) → (not x || x) ≡ true
  itself true = refl
  itself false = refl

  implied : (a b : Bool) → (not a || b) ≡ true → a ≡ true → b ≡ true
  implied true b e h = e
  implied false b e h = absurd (false≢true h)

  pub is_one_cycle : IsCycle flow.moves members
  is_one_cycle sets holds goes source target member set there =
      let head_in : is_marked inside head ≡ true = turned.only (λ n. is_marked inside head)
      (λ root c inner. subst (λ (n : ℕ). is_marked inside n ≡ true) (sym (the_one head root c)) inner) (λ a b h i c j. h) source (too source member) in
      let leads : (not (sets source || holds source) || (sets head || holds head)) ≡ true = turned.only (λ n. not (sets n || holds n) || (sets head || holds head))
      (λ root c inner. subst (λ (n : ℕ). (not (sets n || holds n) || (sets head || holds head)) ≡ true) (the_one head root c) (itself (sets head || holds head)))
      (λ a b h i c j. imply (sets b || holds b) (sets head || holds head) (sets a || holds a)
      (λ e. or_right (sets a) (holds a) (goes b a (record { move = (from.exact b a).0 c; from = (within.exact b).0 j; to = (within.exact a).0 i }) e)) h) source (too source member) in
      let reached : (sets head || holds head) ≡ true = implied (sets source || holds source) (sets head || holds head) leads (or_left (sets source) (holds source) set) in
      spread.only holds
      (λ root c inner. goes head root (record { move = (to.exact head root).0 (there_too first (list_at ahead_ways head) root is c); from = (within.exact head).0 head_in; to = (within.exact root).0 inner }) reached)
      (λ a b h i c j. goes a b (record { move = (to.exact a b).0 c; from = (within.exact a).0 i; to = (within.exact b).0 j }) (or_right (sets a) (holds a) h)) target (all target there)
