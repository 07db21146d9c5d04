-- The first refusals, by what the sites are.
use Rattle.std.proofs.Common.{◌≡◌, ℕ, zero, suc, ◌<◌, ◌≤◌, ◌==◌, ◌&&◌, ◌||◌, Bool, true, false, List, [], ◌∷◌, ◌++◌, length, Contains, AllPairs, Option, Some, None, find, option_to_list, if◌then◌else◌, arith, ap, sym, refl, ◌∙◌, inl, inr, ◌⊎◌, subst, append_assoc}
use Rattle.std.proofs.lemmas.Bool.{false≢true}
use Rattle.std.proofs.lemmas.Bool.Decides.{nat_tests}
use Rattle.std.proofs.lemmas.List.Elements.{Contains-append_left, Contains-append_right, Contains-append_cases, Contains-get_or, All-contains}
use Rattle.std.specs.Option.{is_none, option_map_or}
use Rattle.std.specs.Ordering.{nat_cmp}
use Rattle.std.specs.declared.cmp.Ordering.{Ordering}
use Rattle.std.specs.declared.cmp.Ordering.TheVariants.{Less, Equal, Greater}
use Rattle.std.specs.Prelude.{slice_index_or}
use Rattle.wx_base.specs.declared.facts.Facts.{Facts}
use Rattle.wx_base.specs.declared.image.Image.{Image}
use Rattle.wx_base.specs.declared.machine.Machine.{Machine}
use Rattle.wx_base.specs.Bits.{add_words}
use Rattle.wx_base.specs.Facts.{targets_of}
use Rattle.wx_base.specs.Flow.{flow_of, no_flow}
use Rattle.wx_base.specs.Functions.{code_at, ways_at, callees_at, IsReached}
use Rattle.wx_base.specs.Image.{is_code_word}
use Rattle.wx_base.specs.Paths.{here}
use Rattle.wx_base.specs.Ways.{ways_of}
use Rattle.arm_code.specs.Encoding.{decoded}
use Rattle.arm_code.specs.declared.insn.Insn.{Insn}
use Rattle.flow_graph.specs.declared.error.FlowError.{FlowError}
use Rattle.flow_graph.specs.declared.error.FlowError.TheVariants.{NoMemory, Unsupported, LeavesCode, IndirectNoTargets, BadTarget, Recursion, Irreducible, LoopNoBound, TooManyBlocks}
use Rattle.flow_graph.specs.declared.site.Site.{Site}
use Rattle.flow_graph.specs.Reached.{IsSite, AreSites, IsClosed, IsLeastOutside, LeadsOut, LeadsOutFirst, gone_to, is_untold, leads_of, next_of}
use Rattle.flow_graph.specs.Refusals.{IsForeign, IsGoneTo, IsOutside, IsUntold, IsBadTarget, IsCause, IsFirst, IsNotAfter, rank}
use Rattle.flow_block.specs.Sites.{behind, flow_at, jumps_at, jumps_by}
use Rattle.flow_graph.proofs.Comparisons.{equal_is, less_is, greater_is}
use Rattle.flow_graph.proofs.OutsideLemmas.{only, nothing}
use Rattle.flow_graph.proofs.ReachLemmas.{led}

-- what find gives of ascending sites passes the test, and has the least address of those that do
pub record IsFirstThat (test : Site → Bool) (sites : List Site) (site : Site) : Type 0 where
  pub passes : test site ≡ true
  pub among : Contains sites site
  pub least : (t : Site) → Contains sites t → test t ≡ true → site.address ≤ t.address

pub find_first : (test : Site → Bool) (sites : List Site) (site : Site) → AllPairs (λ s t. s.address < t.address) sites → find test sites ≡ Some site → IsFirstThat test sites site
find_first test [] site up e = absurd cc
find_first test (s ∷ sites) site up e = by (test s) refl (find_first test sites site (λ i j d lt h. up (suc i) (suc j) d (omega arith) (omega arith)))
  where
    by : (b : Bool) → test s ≡ b → (find test sites ≡ Some site → IsFirstThat test sites site) → IsFirstThat test (s ∷ sites) site
    by true p rest =
        let is : s ≡ site = let q : Some s ≡ Some site = rw p at e in cc in
        record {
          passes = subst (λ t. test t ≡ true) is p;
          among = (zero, omega arith, is);
          least = λ t c q. first t is c;
        }
      where
        first : (t : Site) → s ≡ site → Contains (s ∷ sites) t → site.address ≤ t.address
        first t is (zero, h, same) = let x : site.address ≡ t.address = ap (λ u. u.address) (sym is ∙ same) in omega arith
        first t is (suc k, h, same) =
            let x : s.address < t.address = subst (λ u. s.address < u.address) same (up 0 (suc k) t (omega arith) h) in
            let y : s.address ≡ site.address = ap (λ u. u.address) is in omega arith
    by false p rest =
        let r : IsFirstThat test sites site = rest (rw p at e) in
        record {
          passes = r.passes;
          among = later r.among;
          least = λ t c q. after t r c q;
        }
      where
        later : Contains sites site → Contains (s ∷ sites) site
        later (k, h, same) = (suc k, omega arith, same)

        after : (t : Site) → IsFirstThat test sites site → Contains (s ∷ sites) t → test t ≡ true → site.address ≤ t.address
        after t r (zero, h, same) q = absurd (false≢true (sym p ∙ ap test same ∙ q))
        after t r (suc k, h, same) q = r.least t (k, omega arith, same) q

pub find_none : (test : Site → Bool) (sites : List Site) (t : Site) → find test sites ≡ None → Contains sites t → test t ≡ false
find_none test [] t e c = absurd (nothing c)
find_none test (s ∷ sites) t e c = by (test s) refl (λ f c. find_none test sites t f c) c
  where
    by : (b : Bool) → test s ≡ b → (find test sites ≡ None → Contains sites t → test t ≡ false) → Contains (s ∷ sites) t → test t ≡ false
    by true p rest c = absurd (let q : Some s ≡ None = rw p at e in cc)
    by false p rest (zero, h, same) = ap test (sym same) ∙ p
    by false p rest (suc k, h, same) = rest (rw p at e) (k, omega arith, same)

-- an address among those behind sites
pub in_gone : (sites : List Site) (s : Site) (x : ℕ) → Contains sites s → Contains (next_of s) x → Contains (gone_to sites) x
in_gone [] s x c d = absurd (nothing c)
in_gone (t ∷ sites) s x (zero, h, same) d = Contains-append_left (next_of t) (gone_to sites) x (subst (λ u. Contains (next_of u) x) (sym same) d)
in_gone (t ∷ sites) s x (suc k, h, same) d = Contains-append_right (next_of t) (gone_to sites) x (in_gone sites s x (k, omega arith, same) d)

pub record ComesFrom (sites : List Site) (x : ℕ) : Type 0 where
  pub site : Site
  pub among : Contains sites site
  pub next : Contains (next_of site) x

pub of_gone : (sites : List Site) (x : ℕ) → Contains (gone_to sites) x → ComesFrom sites x
of_gone [] x c = absurd (nothing c)
of_gone (t ∷ sites) x c = by (Contains-append_cases (next_of t) (gone_to sites) x c) (λ d. of_gone sites x d)
  where
    by : Contains (next_of t) x ⊎ Contains (gone_to sites) x → (Contains (gone_to sites) x → ComesFrom sites x) → ComesFrom (t ∷ sites) x
    by (inl d) rest = record { site = t; among = (zero, omega arith, refl); next = d }
    by (inr d) rest = let r = rest d in let (k, h, same) = r.among in record { site = r.site; among = (suc k, omega arith, same); next = r.next }

-- a jump is a way
pub jump_is_way : (image : Image) (facts : Facts) (address t : ℕ) → Contains (jumps_at image facts address) t → Contains (ways_at image facts address) t
jump_is_way image facts address t c = by (code_at image address) c
  where
    by : (o : Option ℕ) → Contains (jumps_by facts address (option_map_or (λ word. flow_of word address) o no_flow)) t → Contains (option_map_or (λ word. ways_of facts word address) o []) t
    by None d = absurd (nothing d)
    by (Some word) d =
        let flow = flow_of word address in
        let next = if flow.next then add_words address 4 ∷ [] else [] in
        subst (λ l. Contains l t) (sym (append_assoc next (option_to_list flow.jump) (if flow.indirect then targets_of facts.branches address else [])))
        (Contains-append_right next (jumps_by facts address flow) t d)

-- a way is a jump, or the run goes on there
pub way_is : (image : Image) (facts : Facts) (address t : ℕ) → Contains (ways_at image facts address) t
    → Contains (jumps_at image facts address) t ⊎ (((flow_at image address).next ≡ true) × (t ≡ behind address 1))
way_is image facts address t c = by (code_at image address) c
  where
    goes : (word : ℕ) (next : Bool) → Contains (if next then add_words address 4 ∷ [] else []) t → (next ≡ true) × (t ≡ behind address 1)
    goes word true d = (refl, sym (only d))
    goes word false d = absurd (nothing d)

    split : (word : ℕ) → Contains (if (flow_of word address).next then add_words address 4 ∷ [] else []) t ⊎ Contains (jumps_by facts address (flow_of word address)) t
        → Contains (jumps_by facts address (flow_of word address)) t ⊎ (((flow_of word address).next ≡ true) × (t ≡ behind address 1))
    split word (inl d) = inr (goes word (flow_of word address).next d)
    split word (inr d) = inl d

    by : (o : Option ℕ) → Contains (option_map_or (λ word. ways_of facts word address) o []) t
        → Contains (jumps_by facts address (option_map_or (λ word. flow_of word address) o no_flow)) t ⊎ (((option_map_or (λ word. flow_of word address) o no_flow).next ≡ true) × (t ≡ behind address 1))
    by None d = absurd (nothing d)
    by (Some word) d =
        let flow = flow_of word address in
        let next = if flow.next then add_words address 4 ∷ [] else [] in
        split word (Contains-append_cases next (jumps_by facts address flow) t
        (subst (λ l. Contains l t) (append_assoc next (option_to_list flow.jump) (if flow.indirect then targets_of facts.branches address else [])) d))

-- a test of a list's length, and of two tests
empty_is : {X : Type 0} (l : List X) → (length l == 0) ≡ true → l ≡ []
empty_is [] e = refl
empty_is (x ∷ l) e = absurd (grind (arith, nat_tests))

is_empty : {X : Type 0} (l : List X) → l ≡ [] → (length l == 0) ≡ true
is_empty l e = rw e refl

both_true : (a b : Bool) → a ≡ true → b ≡ true → (a && b) ≡ true
both_true a b e f = rw (e, f) refl

both_are : (a b : Bool) → (a && b) ≡ true → (a ≡ true) × (b ≡ true)
both_are true true e = (refl, refl)
both_are true false e = absurd (false≢true e)
both_are false b e = absurd (false≢true e)

left_true : (a b : Bool) → a ≡ true → (a || b) ≡ true
left_true a b e = rw e refl

right_true : (a b : Bool) → b ≡ true → (a || b) ≡ true
right_true true b e = refl
right_true false b e = e

one_is : (a b : Bool) → (a || b) ≡ true → (a ≡ true) ⊎ (b ≡ true)
one_is true b e = inl refl
one_is false b e = inr e

none_is : (o : Option Insn) → is_none o ≡ true → o ≡ None
none_is None e = refl
none_is (Some i) e = absurd (false≢true e)

-- two refusals of one kind without targets
same_kind : (a b : ℕ) → a ≤ b → (a < b) ⊎ ((a ≡ b) × (0 ≤ 0))
same_kind a b h = grind arith

module _ (image : Image) (facts : Facts) (start : ℕ) (sites : List Site) (a : AreSites image facts start sites) where
  -- the site of an address that is reached
  record SiteAt (address : ℕ) : Type 0 where
    site : Site
    among : Contains sites site
    stands : IsSite image facts site
    at : site.address ≡ address

  site_at : (address : ℕ) → IsReached image facts start address → SiteAt address
  site_at address r = let (k, s, h, is, e) = a.whole address r in
      record { site = s; among = (k, h, is); stands = All-contains (IsSite image facts) sites s a.each (k, h, is); at = e }

  stands_of : (s : Site) → Contains sites s → IsSite image facts s
  stands_of s c = All-contains (IsSite image facts) sites s a.each c

  reached_of : (s : Site) → Contains sites s → IsReached image facts start s.address
  reached_of s c = All-contains (λ t. IsReached image facts start t.address) sites s a.reached c

  -- a word that is none is that of such a site, and the other way round
  foreign_in : (address word : ℕ) → IsForeign image facts start address word → (s : SiteAt address) → is_none s.site.insn ≡ true
  foreign_in address word f s =
      let there : code_at image address ≡ Some s.site.word = subst (λ x. code_at image x ≡ Some s.site.word) s.at s.stands.word in
      let words : Some s.site.word ≡ Some word = sym there ∙ f.stands in
      let same : s.site.word ≡ word = cc in
      ap is_none (s.stands.insn ∙ ap decoded same ∙ f.foreign)

  foreign_of : (s : Site) → Contains sites s → is_none s.insn ≡ true → IsForeign image facts start s.address s.word
  foreign_of s c e = record {
    reached = reached_of s c;
    stands = (stands_of s c).word;
    foreign = sym (stands_of s c).insn ∙ none_is s.insn e;
  }

  -- where a run may come by going on
  gone_in : (address : ℕ) → IsOutside image facts start address → Contains (start ∷ gone_to sites) address
  gone_in address o = by o.come
    where
      behind_in : (g : IsGoneTo image facts start address) → (s : SiteAt g.from) → Contains (start ∷ gone_to sites) address
      behind_in g s =
          let next : s.site.flow.next ≡ true = ap (λ f. f.next) (s.stands.flow ∙ ap (flow_at image) s.at) ∙ g.next in
          let behind_is : behind s.site.address 1 ≡ address = ap (λ x. behind x 1) s.at ∙ sym g.behind in
          let listed : Contains (next_of s.site) address = rw next (zero, omega arith, behind_is) in
          Contains-append_right (start ∷ []) (gone_to sites) address (in_gone sites s.site address s.among listed)

      by : (address ≡ start) ⊎ IsGoneTo image facts start address → Contains (start ∷ gone_to sites) address
      by (inl e) = (zero, omega arith, sym e)
      by (inr g) = behind_in g (site_at g.from g.reached)

  gone_of : (address : ℕ) → Contains (start ∷ gone_to sites) address → is_code_word image address ≡ false → IsOutside image facts start address
  gone_of address c bare = record { come = by (Contains-append_cases (start ∷ []) (gone_to sites) address c); empty = bare }
    where
      listed : (s : Site) → Contains sites s → (next : Bool) → s.flow.next ≡ next → Contains (if next then behind s.address 1 ∷ [] else []) address → IsGoneTo image facts start address
      listed s d true e g = record {
        from = s.address;
        reached = reached_of s d;
        next = ap (λ f. f.next) (sym (stands_of s d).flow) ∙ e;
        behind = sym (only g);
      }
      listed s d false e g = absurd (nothing g)

      by : Contains (start ∷ []) address ⊎ Contains (gone_to sites) address → (address ≡ start) ⊎ IsGoneTo image facts start address
      by (inl d) = inl (sym (only d))
      by (inr d) = let f = of_gone sites address d in inr (listed f.site f.among f.site.flow.next refl f.next)

  -- a jump or call without targets
  untold_in : (address : ℕ) → IsUntold image facts start address → (s : SiteAt address) → is_untold facts s.site ≡ true
  untold_in address u s = by u.untold
    where
      by : (((flow_at image address).indirect ≡ true) × (targets_of facts.branches address ≡ [])) ⊎ (((flow_at image address).call_any ≡ true) × (targets_of facts.calls address ≡ [])) → is_untold facts s.site ≡ true
      by (inl p) = left_true _ _ (both_true _ _ (ap (λ f. f.indirect) (s.stands.flow ∙ ap (flow_at image) s.at) ∙ p.0) (is_empty _ (ap (targets_of facts.branches) s.at ∙ p.1)))
      by (inr p) = right_true _ _ (both_true _ _ (ap (λ f. f.call_any) (s.stands.flow ∙ ap (flow_at image) s.at) ∙ p.0) (is_empty _ (ap (targets_of facts.calls) s.at ∙ p.1)))

  untold_of : (s : Site) → Contains sites s → is_untold facts s ≡ true → IsUntold image facts start s.address
  untold_of s c e = record { reached = reached_of s c; untold = by (one_is _ _ e) }
    where
      by : ((s.flow.indirect && (length (targets_of facts.branches s.address) == 0)) ≡ true) ⊎ ((s.flow.call_any && (length (targets_of facts.calls s.address) == 0)) ≡ true)
          → (((flow_at image s.address).indirect ≡ true) × (targets_of facts.branches s.address ≡ [])) ⊎ (((flow_at image s.address).call_any ≡ true) × (targets_of facts.calls s.address ≡ []))
      by (inl p) = let q = both_are _ _ p in inl (ap (λ f. f.indirect) (sym (stands_of s c).flow) ∙ q.0, empty_is _ q.1)
      by (inr p) = let q = both_are _ _ p in inr (ap (λ f. f.call_any) (sym (stands_of s c).flow) ∙ q.0, empty_is _ q.1)

  -- a target without code
  bad_in : (address target : ℕ) → IsBadTarget image facts start address target → (s : SiteAt address) → Contains (leads_of s.site) target
  bad_in address target b s = by (Contains-append_cases (jumps_at image facts address) (callees_at image facts address) target b.listed)
    where
      by : Contains (jumps_at image facts address) target ⊎ Contains (callees_at image facts address) target → Contains (leads_of s.site) target
      by (inl c) = Contains-append_left s.site.ways.items s.site.callees.items target
          (s.stands.ways.whole target (subst (λ x. Contains (ways_at image facts x) target) (sym s.at) (jump_is_way image facts address target c)))
      by (inr c) = Contains-append_right s.site.ways.items s.site.callees.items target
          (subst (λ l. Contains l target) (sym (s.stands.callees ∙ ap (callees_at image facts) s.at)) c)

  bad_of : IsLeastOutside image (start ∷ gone_to sites) None → (s : Site) → Contains sites s → (target : ℕ) → Contains (leads_of s) target → is_code_word image target ≡ false
      → IsBadTarget image facts start s.address target
  bad_of inside s c target d bare = record {
    reached = reached_of s c;
    listed = by (Contains-append_cases s.ways.items s.callees.items target d);
    empty = bare;
  }
    where
      gone : ((flow_at image s.address).next ≡ true) × (target ≡ behind s.address 1) → IsOutside image facts start target
      gone p = record { come = inr (record { from = s.address; reached = reached_of s c; next = p.0; behind = p.1 }); empty = bare }

      way : Contains (jumps_at image facts s.address) target ⊎ (((flow_at image s.address).next ≡ true) × (target ≡ behind s.address 1)) → Contains (jumps_at image facts s.address ++ callees_at image facts s.address) target
      way (inl e) = Contains-append_left (jumps_at image facts s.address) (callees_at image facts s.address) target e
      way (inr p) = absurd (false≢true (sym bare ∙ inside target (gone_in target (gone p))))

      by : Contains s.ways.items target ⊎ Contains s.callees.items target → Contains (jumps_at image facts s.address ++ callees_at image facts s.address) target
      by (inl e) = way (way_is image facts s.address target ((stands_of s c).ways.sound target e))
      by (inr e) = Contains-append_right (jumps_at image facts s.address) (callees_at image facts s.address) target (subst (λ l. Contains l target) (stands_of s c).callees e)

  -- what a search without an answer rules out
  no_foreign : find (λ s. is_none s.insn) sites ≡ None → (address word : ℕ) → IsForeign image facts start address word → ⊥
  no_foreign e address word f = let s = site_at address f.reached in
      false≢true (sym (find_none (λ s. is_none s.insn) sites s.site e s.among) ∙ foreign_in address word f s)

  no_outside : IsLeastOutside image (start ∷ gone_to sites) None → (address : ℕ) → IsOutside image facts start address → ⊥
  no_outside inside address o = false≢true (sym o.empty ∙ inside address (gone_in address o))

  no_untold : find (λ s. is_untold facts s) sites ≡ None → (address : ℕ) → IsUntold image facts start address → ⊥
  no_untold e address u = let s = site_at address u.reached in
      false≢true (sym (find_none (λ s. is_untold facts s) sites s.site e s.among) ∙ untold_in address u s)

  no_bad : LeadsOut image sites None → (address target : ℕ) → IsBadTarget image facts start address target → ⊥
  no_bad inside address target b = let s = site_at address b.reached in
      false≢true (sym b.empty ∙ All-contains (λ s. IsLeastOutside image (leads_of s) None) sites s.site inside s.among target (bad_in address target b s))

  module _ (machine : Machine) where
    -- the first refusal, of each kind
    pub foreign_first : (s : Site) → find (λ s. is_none s.insn) sites ≡ Some s → IsFirst image facts start machine (Unsupported s.address s.word)
    foreign_first s e = record { cause = foreign_of s r.among r.passes; first = λ other cause. by other cause }
      where
        r : IsFirstThat (λ s. is_none s.insn) sites s
        r = find_first (λ s. is_none s.insn) sites s a.ascending e

        least : (b w : ℕ) → IsForeign image facts start b w → (t : SiteAt b) → s.address ≤ b
        least b w f t = let le = r.least t.site t.among (foreign_in b w f t) in let at = t.at in omega arith

        by : (other : FlowError) → IsCause image facts start machine other → IsNotAfter (Unsupported s.address s.word) other
        by NoMemory c = absurd c
        by (Unsupported b w) c = inr (refl, same_kind s.address b (least b w c (site_at b c.reached)))
        by (LeavesCode b) c = inl (omega arith)
        by (IndirectNoTargets b) c = inl (omega arith)
        by (BadTarget b t) c = inl (omega arith)
        by (Recursion b) c = inl (omega arith)
        by (Irreducible b) c = inl (omega arith)
        by (LoopNoBound b) c = inl (omega arith)
        by TooManyBlocks c = inl (omega arith)

    pub outside_first : find (λ s. is_none s.insn) sites ≡ None → (address : ℕ) → IsLeastOutside image (start ∷ gone_to sites) (Some address)
        → IsFirst image facts start machine (LeavesCode address)
    outside_first known address least = record { cause = gone_of address least.0 least.1; first = λ other cause. by other cause }
      where
        by : (other : FlowError) → IsCause image facts start machine other → IsNotAfter (LeavesCode address) other
        by NoMemory c = absurd c
        by (Unsupported b w) c = absurd (no_foreign known b w c)
        by (LeavesCode b) c = inr (refl, same_kind address b (least.2 b (gone_in b c) c.empty))
        by (IndirectNoTargets b) c = inl (omega arith)
        by (BadTarget b t) c = inl (omega arith)
        by (Recursion b) c = inl (omega arith)
        by (Irreducible b) c = inl (omega arith)
        by (LoopNoBound b) c = inl (omega arith)
        by TooManyBlocks c = inl (omega arith)

    pub untold_first : find (λ s. is_none s.insn) sites ≡ None → IsLeastOutside image (start ∷ gone_to sites) None → (s : Site) → find (λ s. is_untold facts s) sites ≡ Some s
        → IsFirst image facts start machine (IndirectNoTargets s.address)
    untold_first known inside s e = record { cause = untold_of s r.among r.passes; first = λ other cause. by other cause }
      where
        r : IsFirstThat (λ s. is_untold facts s) sites s
        r = find_first (λ s. is_untold facts s) sites s a.ascending e

        least : (b : ℕ) → IsUntold image facts start b → (t : SiteAt b) → s.address ≤ b
        least b u t = let le = r.least t.site t.among (untold_in b u t) in let at = t.at in omega arith

        by : (other : FlowError) → IsCause image facts start machine other → IsNotAfter (IndirectNoTargets s.address) other
        by NoMemory c = absurd c
        by (Unsupported b w) c = absurd (no_foreign known b w c)
        by (LeavesCode b) c = absurd (no_outside inside b c)
        by (IndirectNoTargets b) c = inr (refl, same_kind s.address b (least b c (site_at b c.reached)))
        by (BadTarget b t) c = inl (omega arith)
        by (Recursion b) c = inl (omega arith)
        by (Irreducible b) c = inl (omega arith)
        by (LoopNoBound b) c = inl (omega arith)
        by TooManyBlocks c = inl (omega arith)

    pub bad_first : find (λ s. is_none s.insn) sites ≡ None → IsLeastOutside image (start ∷ gone_to sites) None → find (λ s. is_untold facts s) sites ≡ None
        → (address target : ℕ) → LeadsOutFirst image sites address target → IsFirst image facts start machine (BadTarget address target)
    bad_first known inside told address target f = record {
      cause = subst (λ x. IsBadTarget image facts start x target) f.is (bad_of inside f.site f.among target f.least.0 f.least.1);
      first = λ other cause. by other cause;
    }
      where
        order : (b t : ℕ) → IsBadTarget image facts start b t → (s : SiteAt b) → (address < b) ⊎ ((address ≡ b) × (target ≤ t))
        order b t c s = rank_of (nat_cmp address b) refl
          where
            -- the site found is that of the other target, where their addresses are one
            own : address ≡ b → SiteAt b
            own e = record { site = f.site; among = f.among; stands = stands_of f.site f.among; at = f.is ∙ e }

            rank_of : (o : Ordering) → nat_cmp address b ≡ o → (address < b) ⊎ ((address ≡ b) × (target ≤ t))
            rank_of Less e = inl (less_is address b e)
            rank_of Equal e = let same = equal_is address b e in inr (same, f.least.2 t (bad_in b t c (own same)) c.empty)
            rank_of Greater e =
                let lower : s.site.address < address = let lt = greater_is address b e in let at = s.at in omega arith in
                absurd (false≢true (sym c.empty ∙ f.first s.site s.among lower t (bad_in b t c s)))

        by : (other : FlowError) → IsCause image facts start machine other → IsNotAfter (BadTarget address target) other
        by NoMemory c = absurd c
        by (Unsupported b w) c = absurd (no_foreign known b w c)
        by (LeavesCode b) c = absurd (no_outside inside b c)
        by (IndirectNoTargets b) c = absurd (no_untold told b c)
        by (BadTarget b t) c = inr (refl, order b t c (site_at b c.reached))
        by (Recursion b) c = inl (omega arith)
        by (Irreducible b) c = inl (omega arith)
        by (LoopNoBound b) c = inl (omega arith)
        by TooManyBlocks c = inl (omega arith)

    pub no_causes : find (λ s. is_none s.insn) sites ≡ None → IsLeastOutside image (start ∷ gone_to sites) None → find (λ s. is_untold facts s) sites ≡ None
        → LeadsOut image sites None → (cause : FlowError) → IsCause image facts start machine cause → rank cause ≤ 4 → ⊥
    no_causes known inside told closed NoMemory c h = c
    no_causes known inside told closed (Unsupported b w) c h = no_foreign known b w c
    no_causes known inside told closed (LeavesCode b) c h = no_outside inside b c
    no_causes known inside told closed (IndirectNoTargets b) c h = no_untold told b c
    no_causes known inside told closed (BadTarget b t) c h = no_bad closed b t c
    no_causes known inside told closed (Recursion b) c h = omega arith
    no_causes known inside told closed (Irreducible b) c h = omega arith
    no_causes known inside told closed (LoopNoBound b) c h = omega arith
    no_causes known inside told closed TooManyBlocks c h = omega arith

  -- nothing leads out of the sites
  pub closed : find (λ s. is_none s.insn) sites ≡ None → IsLeastOutside image (start ∷ gone_to sites) None → LeadsOut image sites None → IsClosed image facts start sites
  closed known inside leads = record {
    begins = a.whole start (record { code = inside start (zero, omega arith, refl); path = here start (λ p. nothing p) });
    ways = λ k d h x c. a.whole x (led image facts start (slice_index_or sites k d).address x (a.reached k d h) (Contains-append_left (ways_at image facts (slice_index_or sites k d).address) (callees_at image facts (slice_index_or sites k d).address) x c)
        (leads k d h x (Contains-append_left (slice_index_or sites k d).ways.items (slice_index_or sites k d).callees.items x ((a.each k d h).ways.whole x c))));
    callees = λ k d h x c. a.whole x (led image facts start (slice_index_or sites k d).address x (a.reached k d h) (Contains-append_right (ways_at image facts (slice_index_or sites k d).address) (callees_at image facts (slice_index_or sites k d).address) x c)
        (leads k d h x (Contains-append_right (slice_index_or sites k d).ways.items (slice_index_or sites k d).callees.items x (subst (λ l. Contains l x) (sym (a.each k d h).callees) c))));
    insns = λ k d h none. false≢true (sym (find_none (λ s. is_none s.insn) sites (slice_index_or sites k d) known (Contains-get_or sites k d h)) ∙ ap is_none none);
  }
