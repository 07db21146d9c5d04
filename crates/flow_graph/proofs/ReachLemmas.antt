-- What is reached: the search from a start, and its answer in the order of addresses.
use Rattle.std.proofs.Common.{rules, ◌≡◌, ℕ, zero, suc, ◌<◌, ◌≤◌, ◌+◌, ◌==◌, Bool, true, false, List, [], ◌∷◌, ◌++◌, map, length, take, Contains, AllPairs, All, Any, Some, None, arith, ap, sym, refl, ◌∙◌, inl, inr, ◌⊎◌, subst, append_assoc, if◌then◌else◌, nat_eq, slice_get, length-append}
use Rattle.std.proofs.lemmas.Bool.{false≢true}
use Rattle.std.proofs.lemmas.Bool.Decides.{nat_tests}
use Rattle.std.proofs.lemmas.List.{take-append-le, take_more, take_all, map-append}
use Rattle.std.proofs.lemmas.Option.{slice_get_within, get_or_from_slice_get, slice_get_cases}
use Rattle.std.proofs.lemmas.List.Edits.{Swapped, swapped_from_swap, length-swap}
use Rattle.std.proofs.lemmas.List.Elements.{Contains-append_left, Contains-append_right, Contains-append_cases, Contains-push, All-append, All-push, All-nil, All-weaker}
use Rattle.std.proofs.lemmas.List.Folds.{list_any_at}
use Rattle.std.proofs.lemmas.List.Quantifiers.{all_pairs_push}
use Rattle.std.proofs.lemmas.List.Sorted.{IsPermutation-keeps, Contains-permutation, All-permutation}
use Rattle.std.specs.List.{swap, list_any}
use Rattle.std.specs.List.Sorted.{IsNonDecreasingBy, IsPermutation}
use Rattle.std.specs.Option.{option_map_or}
use Rattle.std.specs.Ordering.{nat_cmp}
use Rattle.std.specs.declared.cmp.Ordering.{Ordering}
use Rattle.std.specs.declared.cmp.Ordering.TheVariants.{Less, Equal, Greater}
use Rattle.std.specs.Prelude.{slice_index_or}
use Rattle.indexmap.specs.IndexSet.{insert_key}
use Rattle.indexmap.proofs.CallerLemmas.{Contains-list_any}
use Rattle.wx_base.specs.declared.facts.Facts.{Facts}
use Rattle.wx_base.specs.declared.image.Image.{Image}
use Rattle.wx_base.specs.Functions.{ways_at, callees_of, callees_at, leads_at, IsReached}
use Rattle.wx_base.specs.Ways.{ways_of}
use Rattle.wx_base.specs.Image.{is_code_word, word_of}
use Rattle.wx_base.specs.Paths.{Path, here, further}
use Rattle.flow_graph.specs.declared.site.Site.{Site}
use Rattle.flow_graph.specs.Reached.{IsSite, IsGrownBy, AreFound, AreSites}
use Rattle.flow_graph.proofs.Comparisons.{equal_is, less_is, greater_is}

-- equal numbers, by the test
pub eq_is : (x y : ℕ) → nat_eq x y ≡ true → x ≡ y
eq_is x y e = grind (arith, nat_tests)

pub eq_self : (x : ℕ) → nat_eq x x ≡ true
eq_self x = grind (arith, nat_tests)

-- an address among others where code stands
abbrev pub CodeAmong : Image → List ℕ → ℕ → Type 0
CodeAmong image others a = Contains others a × (is_code_word image a ≡ true)

-- nothing is looked at yet
pub grown_none : (image : Image) (keys : List ℕ) → IsGrownBy image [] keys keys
grown_none image keys = record {
  added = [];
  is = search rules;
  among = All-nil (CodeAmong image []);
  once = λ h. h;
  whole = λ a c code. absurd (none a c);
}
  where
    none : (a : ℕ) → Contains [] a → ⊥
    none a (k, h, e) = omega arith

-- an address where no code stands adds nothing
pub grown_skip : (image : Image) (others old new : List ℕ) (a : ℕ) → IsGrownBy image others old new → is_code_word image a ≡ false → IsGrownBy image (others ++ a ∷ []) old new
grown_skip image others old new a g bare = record {
  added = g.added;
  is = g.is;
  among = All-weaker (CodeAmong image others) (CodeAmong image (others ++ a ∷ [])) (λ x p. (Contains-append_left others (a ∷ []) x p.0, p.1)) g.added g.among;
  once = g.once;
  whole = λ x c code. by x code (Contains-append_cases others (a ∷ []) x c);
}
  where
    by : (x : ℕ) → is_code_word image x ≡ true → Contains others x ⊎ Contains (a ∷ []) x → Contains new x
    by x code (inl c) = g.whole x c code
    by x code (inr (zero, h, e)) = absurd (false≢true (sym bare ∙ ap (is_code_word image) e ∙ code))
    by x code (inr (suc k, h, e)) = absurd (omega arith)

-- an address of code is added, unless it is there
pub grown_more : (image : Image) (others old new : List ℕ) (a : ℕ) → IsGrownBy image others old new → is_code_word image a ≡ true
    → IsGrownBy image (others ++ a ∷ []) old (insert_key nat_eq new a)
grown_more image others old new a g code = by (list_any (nat_eq a) new) refl
  where
    one : (x : ℕ) → Contains (a ∷ []) x → a ≡ x
    one x (zero, h, e) = e
    one x (suc k, h, e) = absurd (omega arith)

    whole_by : (x : ℕ) (all : List ℕ) → ((y : ℕ) → Contains new y → Contains all y) → Contains all a → is_code_word image x ≡ true → Contains others x ⊎ Contains (a ∷ []) x → Contains all x
    whole_by x all keeps there c (inl h) = keeps x (g.whole x h c)
    whole_by x all keeps there c (inr h) = subst (λ y. Contains all y) (one x h) there

    by : (seen : Bool) → list_any (nat_eq a) new ≡ seen → IsGrownBy image (others ++ a ∷ []) old (insert_key nat_eq new a)
    by true e = rw e (record {
      added = g.added;
      is = g.is;
      among = All-weaker (CodeAmong image others) (CodeAmong image (others ++ a ∷ [])) (λ x p. (Contains-append_left others (a ∷ []) x p.0, p.1)) g.added g.among;
      once = g.once;
      whole = λ x c h. whole_by x new (λ y p. p) (Contains-list_any nat_eq eq_is new a e) h (Contains-append_cases others (a ∷ []) x c);
    })
    by false e = rw e (record {
      added = g.added ++ a ∷ [];
      is = ap (λ l. l ++ a ∷ []) g.is ∙ append_assoc old g.added (a ∷ []);
      among = All-push (CodeAmong image (others ++ a ∷ [])) g.added a (All-weaker (CodeAmong image others) (CodeAmong image (others ++ a ∷ [])) (λ x p. (Contains-append_left others (a ∷ []) x p.0, p.1)) g.added g.among) (Contains-push others a, code);
      once = λ h. all_pairs_push (λ a b. a ≡ b → ⊥) new a (g.once h) (λ k d l same. false≢true (sym e ∙ list_any_at (nat_eq a) new k d l (ap (nat_eq a) same ∙ eq_self a)));
      whole = λ x c h. whole_by x (new ++ a ∷ []) (λ y p. Contains-append_left new (a ∷ []) y p) (Contains-push new a) h (Contains-append_cases others (a ∷ []) x c);
    })

-- a path goes one step further at its end
pub path_on : {leads : ℕ → List ℕ} {a b c : ℕ} → Path leads [] a b → Contains (leads b) c → Path leads [] a c
path_on (here a free) lead = further free lead (here _ (λ p. nothing p))
  where
    nothing : {x : ℕ} → Contains [] x → ⊥
    nothing (k, h, e) = omega arith
path_on (further free first rest) lead = further free first (path_on rest lead)

-- what leads somewhere is code
pub leads_code : (image : Image) (facts : Facts) (a b : ℕ) → Contains (leads_at image facts a) b → is_code_word image a ≡ true
leads_code image facts a b c = by (is_code_word image a) c
  where
    by : (code : Bool) → Contains (option_map_or (λ word. ways_of facts word a) (if code then word_of image a else None) [] ++ option_map_or (λ word. callees_of facts word a) (if code then word_of image a else None) []) b → code ≡ true
    by true h = refl
    by false (k, h, e) = absurd (omega arith)

-- so is the begin of a path to code
pub path_code : (image : Image) (facts : Facts) {a b : ℕ} → Path (leads_at image facts) [] a b → is_code_word image b ≡ true → is_code_word image a ≡ true
path_code image facts (here a free) code = code
path_code image facts (further {a} {b} free first rest) code = leads_code image facts a b first

-- the addresses of sites
abbrev pub addresses : List Site → List ℕ
addresses sites = map (λ s. s.address) sites

-- the search so far: those looked at are a front of those found
pub record Searched (image : Image) (facts : Facts) (start : ℕ) (queue : List ℕ) (sites : List Site) : Type 0 where
  pub looked : addresses sites ≡ take (length sites) queue
  pub within : length sites ≤ length queue
  pub once : AllPairs (λ a b. a ≡ b → ⊥) queue
  pub reached : All (λ a. IsReached image facts start a) queue
  pub each : All (λ s. IsSite image facts s) sites
  pub closed : All (λ s. (a : ℕ) → Contains (leads_at image facts s.address) a → is_code_word image a ≡ true → Contains queue a) sites
  pub begins : is_code_word image start ≡ true → Contains queue start

pub begin : (image : Image) (facts : Facts) (start : ℕ) (queue : List ℕ) → IsGrownBy image (start ∷ []) [] queue → Searched image facts start queue []
begin image facts start queue g = record {
  looked = search rules;
  within = omega arith;
  once = g.once (λ i j d lt h. absurd (omega arith));
  reached = subst (λ l. All (IsReached image facts start) l) (sym g.is) (All-weaker (CodeAmong image (start ∷ [])) (IsReached image facts start) (λ a p. from a p.0 p.1) g.added g.among);
  each = All-nil _;
  closed = All-nil _;
  begins = λ code. g.whole start (zero, omega arith, refl) code;
}
  where
    nothing : {x : ℕ} → Contains [] x → ⊥
    nothing (k, h, e) = omega arith

    from : (a : ℕ) → Contains (start ∷ []) a → is_code_word image a ≡ true → IsReached image facts start a
    from a (zero, h, e) code = record { code = code; path = subst (λ b. Path (leads_at image facts) [] start b) e (here start (λ p. nothing p)) }
    from a (suc k, h, e) code = absurd (omega arith)

-- an element of the first part, and of what a list grew from
kept : {image : Image} {others old new : List ℕ} → IsGrownBy image others old new → (x : ℕ) → Contains old x → Contains new x
kept {image} {others} {old} g x c = subst (λ l. Contains l x) (sym g.is) (Contains-append_left old g.added x c)

-- what a site leads to is reached
pub led : (image : Image) (facts : Facts) (start a b : ℕ) → IsReached image facts start a → Contains (leads_at image facts a) b → is_code_word image b ≡ true → IsReached image facts start b
led image facts start a b r c code = record { code = code; path = path_on r.path c }

-- one more place of a list that may grow
take_on : (queue added : List ℕ) (i a : ℕ) → i < length queue → slice_index_or queue i a ≡ a → take (i + 1) (queue ++ added) ≡ take i queue ++ a ∷ []
take_on queue added i a h is = take-append-le (i + 1) queue added (omega arith) ∙ take_more queue i a h ∙ ap (λ x. take i queue ++ x ∷ []) is

-- the addresses of one site more
addresses_on : (sites : List Site) (site : Site) → addresses (sites ++ site ∷ []) ≡ addresses sites ++ site.address ∷ []
addresses_on sites site = map-append (λ s. s.address) sites (site ∷ [])

pub more : (image : Image) (facts : Facts) (start : ℕ) (queue wider widest : List ℕ) (sites : List Site) (site : Site)
    → Searched image facts start queue sites → length sites < length queue → slice_index_or queue (length sites) site.address ≡ site.address
    → IsSite image facts site → IsGrownBy image site.ways.items queue wider → IsGrownBy image site.callees.items wider widest
    → Searched image facts start widest (sites ++ site ∷ [])
more image facts start queue wider widest sites site s below at is by_ways by_calls = record {
  looked = addresses_on sites site ∙ ap (λ l. l ++ site.address ∷ []) s.looked ∙ sym (rw (grew, length-append sites (site ∷ [])) (take_on queue (by_ways.added ++ by_calls.added) (length sites) site.address below at));
  within = rw (grew, length-append sites (site ∷ []), length-append queue (by_ways.added ++ by_calls.added)) (omega arith);
  once = by_calls.once (by_ways.once s.once);
  reached = subst (λ l. All (IsReached image facts start) l) (sym by_calls.is)
      (All-append (IsReached image facts start) wider by_calls.added
      (subst (λ l. All (IsReached image facts start) l) (sym by_ways.is)
      (All-append (IsReached image facts start) queue by_ways.added s.reached
      (All-weaker (CodeAmong image site.ways.items) (IsReached image facts start) (λ a p. led image facts start site.address a this (Contains-append_left (ways_at image facts site.address) (callees_at image facts site.address) a (is.ways.sound a p.0)) p.1) by_ways.added by_ways.among)))
      (All-weaker (CodeAmong image site.callees.items) (IsReached image facts start) (λ a p. led image facts start site.address a this (Contains-append_right (ways_at image facts site.address) (callees_at image facts site.address) a (subst (λ l. Contains l a) is.callees p.0)) p.1) by_calls.added by_calls.among));
  each = All-push (IsSite image facts) sites site s.each is;
  closed = All-push (Leads widest) sites site (All-weaker (Leads queue) (Leads widest) (λ t h a c code. keep a (h a c code)) sites s.closed) (λ a c code. out a code (Contains-append_cases (ways_at image facts site.address) (callees_at image facts site.address) a c));
  begins = λ code. keep start (s.begins code);
}
  where
    grew : widest ≡ queue ++ (by_ways.added ++ by_calls.added)
    grew = by_calls.is ∙ ap (λ l. l ++ by_calls.added) by_ways.is ∙ append_assoc queue by_ways.added by_calls.added

    keep : (x : ℕ) → Contains queue x → Contains widest x
    keep x c = kept by_calls x (kept by_ways x c)

    this : IsReached image facts start site.address
    this = subst (IsReached image facts start) at (s.reached (length sites) site.address below)

    Leads : List ℕ → Site → Type 0
    Leads found t = (a : ℕ) → Contains (leads_at image facts t.address) a → is_code_word image a ≡ true → Contains found a

    out : (a : ℕ) → is_code_word image a ≡ true → Contains (ways_at image facts site.address) a ⊎ Contains (callees_at image facts site.address) a → Contains widest a
    out a code (inl c) = kept by_calls a (by_ways.whole a (is.ways.whole a c) code)
    out a code (inr c) = by_calls.whole a (subst (λ l. Contains l a) (sym is.callees) c) code

-- an address of a list is that of one of its sites
among_sites : (sites : List Site) (a : ℕ) → Contains (addresses sites) a → Any (λ s. s.address ≡ a) sites
among_sites [] a (k, h, e) = absurd (omega arith)
among_sites (s ∷ sites) a (zero, h, e) = (zero, s, omega arith, refl, e)
among_sites (s ∷ sites) a (suc k, h, e) = let (j, t, below, is, same) = among_sites sites a (k, omega arith, e) in (suc j, t, omega arith, is, same)

-- an address stands where its site does
at_site : (sites : List Site) (k : ℕ) (s : Site) → slice_index_or (addresses sites) k s.address ≡ (slice_index_or sites k s).address
at_site [] k s = refl
at_site (t ∷ sites) zero s = refl
at_site (t ∷ sites) (suc k) s = at_site sites k s

length_addresses : (sites : List Site) → length (addresses sites) ≡ length sites
length_addresses [] = refl
length_addresses (s ∷ sites) = ap suc (length_addresses sites)

pub ended : (image : Image) (facts : Facts) (start : ℕ) (queue : List ℕ) (sites : List Site) → Searched image facts start queue sites → length queue ≤ length sites → AreFound image facts start sites
ended image facts start queue sites s all = record {
  once = λ i j d lt h same. s.once i j d.address lt (omega arith) (place i d ∙ same ∙ sym (place j d));
  each = s.each;
  reached = λ k d h. subst (IsReached image facts start) (place k d) (s.reached k d.address (omega arith));
  whole = λ address r. among_sites sites address (subst (λ l. Contains l address) queue_is (walk r.path (s.begins (path_code image facts r.path r.code)) r.code));
}
  where
    queue_is : queue ≡ addresses sites
    queue_is = sym (s.looked ∙ take_all (length sites) queue all)

    place : (k : ℕ) (d : Site) → slice_index_or queue k d.address ≡ (slice_index_or sites k d).address
    place k d = ap (λ l. slice_index_or l k d.address) queue_is ∙ at_site sites k d

    step : (a b : ℕ) → Contains (leads_at image facts a) b → is_code_word image b ≡ true → Any (λ t. t.address ≡ a) sites → Contains queue b
    step a b lead code (k, t, h, is, e) = subst (λ u. (b : ℕ) → Contains (leads_at image facts u.address) b → is_code_word image b ≡ true → Contains queue b) is (s.closed k t h) b (subst (λ x. Contains (leads_at image facts x) b) (sym e) lead) code

    walk : {a b : ℕ} → Path (leads_at image facts) [] a b → Contains queue a → is_code_word image b ≡ true → Contains queue b
    walk (here a free) c code = c
    walk (further {a} {b} free first rest) c code = walk rest (step a b first (path_code image facts rest code) (among_sites sites a (subst (λ l. Contains l a) queue_is c))) code

-- two sites exchange their places, and still each stands once
module _ (sites : List Site) (i j : ℕ) (hi : i < length sites) (hj : j < length sites) (once : AllPairs (λ s t. s.address ≡ t.address → ⊥) sites) where
  -- two places differ
  differ : (d : Site) (k l : ℕ) → (k ≡ l → ⊥) → k < length sites → l < length sites → (slice_index_or sites k d).address ≡ (slice_index_or sites l d).address → ⊥
  differ d k l other hk hl same = by (nat_cmp k l) refl
    where
      by : (o : Ordering) → nat_cmp k l ≡ o → ⊥
      by Less e = once k l d (less_is k l e) hl same
      by Equal e = other (equal_is k l e)
      by Greater e = once l k d (greater_is k l e) hk (sym same)

  -- where what stands at a place came from
  data From (d : Site) (m : ℕ) : Type 0 where
    first : m ≡ i → (slice_index_or (swap sites i j) m d).address ≡ (slice_index_or sites j d).address → From d m
    second : m ≡ j → (slice_index_or (swap sites i j) m d).address ≡ (slice_index_or sites i d).address → From d m
    other : (m ≡ i → ⊥) → (m ≡ j → ⊥) → (slice_index_or (swap sites i j) m d).address ≡ (slice_index_or sites m d).address → From d m

  swapped : (d : Site) → Swapped (λ m. slice_index_or sites m d) (λ m. slice_index_or (swap sites i j) m d) i j
  swapped d = swapped_from_swap sites (swap sites i j) i j d hi hj refl

  from : (d : Site) (m : ℕ) → From d m
  from d m = by (m == i) refl (m == j) refl
    where
      by : (a : Bool) → (m == i) ≡ a → (b : Bool) → (m == j) ≡ b → From d m
      by true e b f = let is : m ≡ i = grind (arith, nat_tests) in first is (rw is (ap (λ s. s.address) (swapped d).0))
      by false e true f = let is : m ≡ j = grind (arith, nat_tests) in second is (rw is (ap (λ s. s.address) (swapped d).1))
      by false e false f =
          let no_i : m ≡ i → ⊥ = grind (arith, nat_tests) in
          let no_j : m ≡ j → ⊥ = grind (arith, nat_tests) in
          other no_i no_j (ap (λ s. s.address) ((swapped d).2 m no_i no_j))

  swapped_once : AllPairs (λ s t. s.address ≡ t.address → ⊥) (swap sites i j)
  swapped_once k l d lt h same = by (let n = length-swap sites i j in omega arith) (from d k) (from d l)
    where
      by : l < length sites → From d k → From d l → ⊥
      by small (first a e) (first b f) = omega arith
      by small (first a e) (second b f) = differ d j i (λ p. omega arith) hj hi (sym e ∙ same ∙ f)
      by small (first a e) (other b c f) = differ d j l (λ p. c (sym p)) hj small (sym e ∙ same ∙ f)
      by small (second a e) (first b f) = differ d i j (λ p. omega arith) hi hj (sym e ∙ same ∙ f)
      by small (second a e) (second b f) = omega arith
      by small (second a e) (other b c f) = differ d i l (λ p. b (sym p)) hi small (sym e ∙ same ∙ f)
      by small (other a b e) (first c f) = differ d k j b (omega arith) hj (sym e ∙ same ∙ f)
      by small (other a b e) (second c f) = differ d k i a (omega arith) hi (sym e ∙ same ∙ f)
      by small (other a b e) (other c g f) = differ d k l (λ p. omega arith) (omega arith) small (sym e ∙ same ∙ f)

pub sorted : (image : Image) (facts : Facts) (start : ℕ) (sites ordered : List Site) → AreFound image facts start sites → IsPermutation sites ordered → IsNonDecreasingBy (λ s. s.address) ordered → AreSites image facts start ordered
sorted image facts start sites ordered f moved rises = record {
  ascending = λ i j d lt h.
      let order = rises i j d (omega arith) h in
      let differ = IsPermutation-keeps sites (λ l. AllPairs (λ s t. s.address ≡ t.address → ⊥) l) f.once (λ l i j hi hj p. swapped_once l i j hi hj p) ordered moved i j d lt h in
      omega arith;
  each = All-permutation (IsSite image facts) sites ordered moved f.each;
  reached = All-permutation (λ s. IsReached image facts start s.address) sites ordered moved f.reached;
  whole = λ address r. by address (f.whole address r);
}
  where
    by : (address : ℕ) → Any (λ s. s.address ≡ address) sites → Any (λ s. s.address ≡ address) ordered
    by address (k, s, h, is, e) = let (j, below, at) = Contains-permutation sites ordered s moved (k, h, is) in (j, s, below, at, e)

-- the same as `more`, by what the queue gave
pub more_by : (image : Image) (facts : Facts) (start : ℕ) (queue wider widest ways callees : List ℕ) (sites : List Site) (site : Site) (at address : ℕ)
    → Searched image facts start queue sites → Some address ≡ slice_get queue at → at ≡ length sites → site.address ≡ address
    → IsSite image facts site → ways ≡ site.ways.items → IsGrownBy image ways queue wider → callees ≡ site.callees.items → IsGrownBy image callees wider widest
    → Searched image facts start widest (sites ++ site ∷ [])
more_by image facts start queue wider widest ways callees sites site at address s there e same is w by_ways v by_calls =
    let given : slice_get queue (length sites) ≡ Some site.address = rw (← e, same) (sym there) in
    more image facts start queue wider widest sites site s (slice_get_within queue (length sites) site.address given) (get_or_from_slice_get queue (length sites) site.address site.address given) is
    (subst (λ l. IsGrownBy image l queue wider) w by_ways) (subst (λ l. IsGrownBy image l wider widest) v by_calls)

-- a queue has no more where it gives nothing
pub no_more : (queue : List ℕ) (at : ℕ) → None ≡ slice_get queue at → length queue ≤ at
no_more queue at e = by (slice_get_cases queue at).1
  where
    by : ((x : ℕ) × (at < length queue) × (slice_get queue at ≡ Some x) × (slice_index_or queue at x ≡ x)) ⊎ ((length queue ≤ at) × (slice_get queue at ≡ None)) → length queue ≤ at
    by (inl (x, h, some, is)) = absurd cc
    by (inr (h, none)) = h

-- what a queue gives is an address of code
pub queued_code : (image : Image) (facts : Facts) (start : ℕ) (queue : List ℕ) (at address : ℕ) → All (λ a. IsReached image facts start a) queue → Some address ≡ slice_get queue at
    → is_code_word image address ≡ true
queued_code image facts start queue at address reached e =
    let given : slice_get queue at ≡ Some address = sym e in
    (subst (IsReached image facts start) (get_or_from_slice_get queue at address address given) (reached at address (slice_get_within queue at address given))).code
