-- How the numbers of addresses are gathered, and what the lists of all sites say together.
use Rattle.std.proofs.Common.{◌≡◌, ◌↔◌, ℕ, zero, suc, ◌+◌, ◌<◌, List, [], ◌∷◌, ◌++◌, length, get_or, map, take, Some, None, refl, sym, ap, subst, ◌∙◌, inl, inr, arith, ◌^◌}
use Rattle.std.proofs.lemmas.Bool.{cases_lt}
use Rattle.std.proofs.lemmas.List.{get_or_default, get_or-map, get_or_past, get_or_append_left, get_or_push, length-map, length_push, map_more, map_push, take_more}
use Rattle.std.proofs.lemmas.List.Elements.{Contains-get_or, Contains-push_cases}
use Rattle.std.specs.List.{All, AllZip, Any, Contains}
use Rattle.std.specs.Prelude.{slice_index}
use Rattle.std.specs.Global.{Vec}
use Rattle.wx_base.specs.declared.facts.Facts.{Facts}
use Rattle.wx_base.specs.declared.image.Image.{Image}
use Rattle.wx_base.specs.Facts.{AreAscending}
use Rattle.wx_base.specs.Functions.{ways_at, callees_at, IsReached}
use Rattle.arm_code.specs.declared.insn.Insn.{Insn}
use Rattle.arm_code.specs.Encoding.{decoded}
use Rattle.graph_loops.specs.Graph.{edges, lists_of, IsGraph}
use Rattle.flow_graph.specs.declared.listing.Listing.{Listing}
use Rattle.flow_graph.specs.declared.site.Site.{Site}
use Rattle.flow_block.specs.Code.{IsInsn, IsPlace, IsThere}
use Rattle.flow_graph.specs.Listing.{ArePlaces, AreRows, IsListed, IsListing, IsListOf, IsWordOf}
use Rattle.flow_graph.specs.Numbers.{IsNumbering}
use Rattle.flow_graph.specs.Reached.{AreSites, IsClosed, IsSite}
use Rattle.flow_graph.proofs.Numbered.{numbering_from}
use Rattle.flow_graph.proofs.NumberedLists.{pairs_mapped}

none_there : {X : Type 0} (v : X) → Contains [] v → ⊥
none_there v h = absurd (omega (arith, h.1))

-- ---- places

pub there : (addresses : List ℕ) (a : ℕ) → Contains addresses a → IsThere addresses a
there addresses a h = record { place = h.0; at = record { within = h.1; stands = get_or_default addresses h.0 0 a h.1 ∙ h.2 } }

pub place_more : (addresses list places : List ℕ) (a j : ℕ) → ArePlaces addresses list places → j < length addresses → slice_index addresses j ≡ a
    → ArePlaces addresses (list ++ a ∷ []) (places ++ j ∷ [])
place_more addresses list places a j before within stands = record {
  within = λ k h. elim (Contains-push_cases places j k h) [
    | inl there ↦ before.within k there
    | inr is ↦ subst (λ (x : ℕ). x < length addresses) is within
  ];
  are = map_push (slice_index addresses) places j ∙ (λ i. before.are i ++ stands i ∷ []);
}

-- the same for the next of a list
pub next_place : (addresses list places : List ℕ) (i j : ℕ) → i < length list → ArePlaces addresses (take i list) places → j < length addresses
    → slice_index addresses j ≡ get_or list i 0 → ArePlaces addresses (take (i + 1) list) (places ++ j ∷ [])
next_place addresses list places i j h before within stands =
    subst (λ (xs : List ℕ). ArePlaces addresses xs (places ++ j ∷ [])) (sym (take_more list i 0 h)) (place_more addresses (take i list) places (get_or list i 0) j before within stands)

-- ---- rows

pub row_more : (addresses : List ℕ) (lists rows : List (List ℕ)) (list row : List ℕ) → AreRows addresses lists rows → ArePlaces addresses list row
    → AreRows addresses (lists ++ list ∷ []) (rows ++ row ∷ [])
row_more addresses lists rows list row before more = record {
  count = length_push rows row ∙ ap (λ (n : ℕ). n + 1) before.count ∙ sym (length_push lists list);
  each = each;
}
  where
    each : (i : ℕ) → i < length (lists ++ list ∷ []) → ArePlaces addresses (get_or (lists ++ list ∷ []) i []) (get_or (rows ++ row ∷ []) i [])
    each i h = elim (cases_lt i (length lists)) [
      | inl below ↦
          let below_too : i < length rows = omega (arith, before.count) in
          subst (λ (xs : List ℕ). ArePlaces addresses xs (get_or (rows ++ row ∷ []) i [])) (sym (get_or_append_left lists (list ∷ []) [] i below))
          (subst (λ (xs : List ℕ). ArePlaces addresses (get_or lists i []) xs) (sym (get_or_append_left rows (row ∷ []) [] i below_too)) (before.each i below))
      | inr past ↦
          let last : length lists ≡ i = omega (arith, length_push lists list, h) in
          subst (λ (xs : List ℕ). ArePlaces addresses xs (get_or (rows ++ row ∷ []) i [])) (sym (get_or_push lists list [] i last))
          (subst (λ (xs : List ℕ). ArePlaces addresses list xs) (sym (get_or_push rows row [] i (before.count ∙ last))) more)
    ]

-- rows are the lists of a graph with a vertex for each address
pub rows_graph : (addresses : List ℕ) (lists rows : List (List ℕ)) → length lists ≡ length addresses → AreRows addresses lists rows → IsGraph rows
rows_graph addresses lists rows same are = record {
  within = λ u v h. elim (cases_lt u (length rows)) [
    | inl below ↦ omega (arith, (are.each u (omega (arith, are.count))).within v h, are.count)
    | inr past ↦ absurd (none_there v (subst (λ (xs : List ℕ). Contains xs v) (get_or_past rows u [] past) h))
  ];
}

module _ {X : Type 0} where
  -- what holds of each element holds of the one at a place
  pub at_item : (P : X → Type 0) (xs : List X) (i : ℕ) (x : X) → i < length xs → x ≡ get_or xs i x → All P xs → P x
  at_item P xs i x h is all = subst P (sym is) (all i x h)

  -- the row of the next element
  pub next_row : (key : X → List ℕ) (addresses : List ℕ) (xs : List X) (rows after : List (Vec ℕ)) (i : ℕ) (x : X) (row : Vec ℕ)
      → i < length xs → x ≡ get_or xs i x → AreRows addresses (map key (take i xs)) (lists_of rows) → ArePlaces addresses (key x) row.items → after ≡ rows ++ row ∷ []
      → AreRows addresses (map key (take (i + 1) xs)) (lists_of after)
  next_row key addresses xs rows after i x row h is before more grown =
      let lists : map key (take (i + 1) xs) ≡ map key (take i xs) ++ key x ∷ [] = map_more key xs i x h ∙ ap (λ (y : X). map key (take i xs) ++ key y ∷ []) (sym is) in
      let all : lists_of after ≡ lists_of rows ++ row.items ∷ [] = ap lists_of grown ∙ map_push (λ (list : Vec ℕ). list.items) rows row in
      subst (λ (ls : List (List ℕ)). AreRows addresses ls (lists_of after)) (sym lists)
      (subst (λ (rs : List (List ℕ)). AreRows addresses (map key (take i xs) ++ key x ∷ []) rs) (sym all) (row_more addresses (map key (take i xs)) (lists_of rows) (key x) row.items before more))

-- ---- two lists element by element

module _ {X Y : Type 0} (R : X → Y → Type 0) where
  zip_length : (xs : List X) (ys : List Y) → AllZip R xs ys → length xs ≡ length ys
  zip_length [] [] h = refl
  zip_length [] (y ∷ ys) h = absurd h
  zip_length (x ∷ xs) [] h = absurd h
  zip_length (x ∷ xs) (y ∷ ys) h = ap suc (zip_length xs ys h.1)

  zip_at : (xs : List X) (ys : List Y) (i : ℕ) (d : X) (e : Y) → AllZip R xs ys → i < length xs → R (get_or xs i d) (get_or ys i e)
  zip_at [] ys i d e h l = absurd (omega arith)
  zip_at (x ∷ xs) [] i d e h l = absurd h
  zip_at (x ∷ xs) (y ∷ ys) zero d e h l = h.0
  zip_at (x ∷ xs) (y ∷ ys) (suc i) d e h l = zip_at xs ys i d e h.1 (omega arith)

  zip_push : (xs : List X) (ys : List Y) (x : X) (y : Y) → AllZip R xs ys → R x y → AllZip R (xs ++ x ∷ []) (ys ++ y ∷ [])
  zip_push [] [] x y h r = (r, tt)
  zip_push [] (z ∷ ys) x y h r = absurd h
  zip_push (z ∷ xs) [] x y h r = absurd h
  zip_push (z ∷ xs) (w ∷ ys) x y h r = (h.0, zip_push xs ys x y h.1 r)

  -- the next of one list, and another behind the other
  pub zip_next : (xs : List X) (ys : List Y) (i : ℕ) (x : X) (y : Y) → i < length xs → x ≡ get_or xs i x → AllZip R (take i xs) ys → R x y → AllZip R (take (i + 1) xs) (ys ++ y ∷ [])
  zip_next xs ys i x y h is before more =
      subst (λ (zs : List X). AllZip R zs (ys ++ y ∷ [])) (sym (take_more xs i x h ∙ ap (λ (z : X). take i xs ++ z ∷ []) (sym is))) (zip_push (take i xs) ys x y before more)

-- ---- all sites together

module _ {X : Type 0} where
  -- what holds of two values of each element holds of the two at each place
  at_both : {Y : Type 0} (R : Y → ℕ → Type 0) (f : X → Y) (g : X → ℕ) (xs : List X) (e : Y) → All (λ x. R (f x) (g x)) xs
      → (i : ℕ) → i < length xs → R (get_or (map f xs) i e) (get_or (map g xs) i 0)
  at_both R f g [] e all i h = absurd (omega arith)
  at_both R f g (x ∷ rest) e all i h =
      subst (λ y. R y (get_or (map g (x ∷ rest)) i 0)) (sym (get_or-map f (x ∷ rest) i x e h))
      (subst (λ n. R (f (get_or (x ∷ rest) i x)) n) (sym (get_or-map g (x ∷ rest) i x 0 h)) (all i x h))

  -- what holds of the key of the element at a place, whichever it is past the end
  at_key : (P : ℕ → Type 0) (key : X → ℕ) (xs : List X) (i : ℕ) → i < length xs → ((d : X) → P (key (get_or xs i d))) → P (get_or (map key xs) i 0)
  at_key P key [] i h f = absurd (omega arith)
  at_key P key (x ∷ rest) i h f = subst P (sym (get_or-map key (x ∷ rest) i x 0 h)) (f x)

  -- some element has the key that the keys have
  any_key : (key : X → ℕ) (xs : List X) (k : ℕ) → Any (λ x. key x ≡ k) xs → Contains (map key xs) k
  any_key key xs k (i, x, h, is, e) = (i, omega (arith, length-map xs key), get_or-map key xs i x k h ∙ ap key is ∙ e)

  -- rows are numbers of what each address leads to, if the lists have just what it leads to
  numbered_by_rows : (address : X → ℕ) (key : X → List ℕ) (leads : ℕ → List ℕ) (xs : List X) (rows : List (List ℕ)) → AreAscending (map address xs)
      → AreRows (map address xs) (map key xs) rows → All (λ x. (b : ℕ) → Contains (key x) b ↔ Contains (leads (address x)) b) xs → IsNumbering (map address xs) rows leads
  numbered_by_rows address key leads xs rows ascending are just =
      let addresses = map address xs in
      numbering_from addresses rows leads ascending (are.count ∙ length-map xs key ∙ sym (length-map xs address))
      (λ i h k d l. (are.each i (within i h)).within (get_or (edges rows i) k d) (Contains-get_or (edges rows i) k d l))
      (λ i b h. subst (λ (list : List ℕ). Contains list b ↔ Contains (leads (slice_index addresses i)) b) (sym (are.each i (within i h)).are)
      (at_both (λ (list : List ℕ) a. (b : ℕ) → Contains list b ↔ Contains (leads a) b) key address xs [] just i (omega (arith, length-map xs address, h)) b))
    where
      within : (i : ℕ) → i < length (map address xs) → i < length (map key xs)
      within i h = omega (arith, length-map xs address, length-map xs key, h)

module _ {image : Image} {facts : Facts} {start : ℕ} (sites : List Site) (are : AreSites image facts start sites) (closed : IsClosed image facts start sites) where
  pub listed_ways : All (λ s. All (λ a. Contains (map (λ t. t.address) sites) a) s.ways.items) sites
  listed_ways k d h j e l =
      let s = get_or sites k d in
      let a = get_or s.ways.items j e in
      any_key (λ t. t.address) sites a (closed.ways k d h a ((are.each k d h).ways.sound a (Contains-get_or s.ways.items j e l)))

  pub listed_callees : All (λ s. All (λ a. Contains (map (λ t. t.address) sites) a) s.callees.items) sites
  listed_callees k d h j e l =
      let s = get_or sites k d in
      let a = get_or s.callees.items j e in
      any_key (λ t. t.address) sites a (closed.callees k d h a
      (subst (λ (xs : List ℕ). Contains xs a) (are.each k d h).callees (Contains-get_or s.callees.items j e l)))

  pub have_insns : All (λ s. decoded s.word ≡ None → ⊥) sites
  have_insns k d h none = closed.insns k d h ((are.each k d h).insn ∙ none)

  pub addresses_ascend : AreAscending (map (λ s. s.address) sites)
  addresses_ascend = pairs_mapped (λ a b. a < b) (λ s. s.address) sites are.ascending

  -- the listing of sites
  pub listing_of : (insns : List Insn) (ways calls : List (List ℕ)) → All (λ x. x < 2 ^ 32) (map (λ s. s.address) sites) → AllZip (λ (s : Site) insn. IsWordOf s.word insn) sites insns
      → AreRows (map (λ s. s.address) sites) (map (λ s. s.ways.items) sites) ways → AreRows (map (λ s. s.address) sites) (map (λ s. s.callees.items) sites) calls
      → IsListing image facts start (map (λ s. s.address) sites) insns ways calls
  listing_of insns ways calls small read ways_are calls_are = record {
    ascending = addresses_ascend;
    small = λ place h. small place 0 h;
    insn_each = sym (zip_length (λ (s : Site) insn. IsWordOf s.word insn) sites insns read) ∙ sym (length-map sites (λ s. s.address));
    each = each;
    ways_are = numbered_by_rows (λ s. s.address) (λ s. s.ways.items) (ways_at image facts) sites ways addresses_ascend ways_are (λ k d h b. ((are.each k d h).ways.sound b, (are.each k d h).ways.whole b));
    calls_are = numbered_by_rows (λ s. s.address) (λ s. s.callees.items) (callees_at image facts) sites calls addresses_ascend calls_are
        (λ k d h b. (λ c. subst (λ (xs : List ℕ). Contains xs b) (are.each k d h).callees c, λ c. subst (λ (xs : List ℕ). Contains xs b) (sym (are.each k d h).callees) c));
    reached = λ place h. at_both (λ _ a. IsReached image facts start a) (λ s. s.address) (λ s. s.address) sites 0 are.reached place (omega (arith, length-map sites (λ s. s.address), h));
    whole = λ address r. place_of address (are.whole address r);
    first = place_of start closed.begins;
  }
    where
      place_of : (a : ℕ) → Any (λ s. s.address ≡ a) sites → (place : ℕ) × IsPlace (map (λ s. s.address) sites) a place
      place_of a (i, s, h, is, e) =
          (i, record { within = omega (arith, length-map sites (λ s. s.address)); stands = get_or-map (λ s. s.address) sites i s 0 h ∙ ap (λ s. s.address) is ∙ e })

      stands : (s : Site) (insn : Insn) → IsSite image facts s → IsWordOf s.word insn → IsInsn image s.address insn
      stands s insn site word = record { stands = site.word ∙ ap (λ w. Some w) (sym word.spelled); means = ap decoded word.spelled ∙ word.means; valid = word.valid }

      each : (place : ℕ) (d : Insn) → place < length (map (λ s. s.address) sites) → IsInsn image (slice_index (map (λ s. s.address) sites) place) (get_or insns place d)
      each place d h =
          let within : place < length sites = omega (arith, length-map sites (λ s. s.address), h) in
          at_key (λ a. IsInsn image a (get_or insns place d)) (λ s. s.address) sites place within
          (λ s. stands (get_or sites place s) (get_or insns place d) (are.each place s within) (zip_at (λ (s : Site) insn. IsWordOf s.word insn) sites insns place s d read within))

  pub listing_from : (l : Listing) → IsListOf sites l → IsListed image facts start l
  listing_from l of =
      let calls = lists_of l.calls.items in
      subst (λ (xs : List ℕ). IsListing image facts start xs l.insns.items l.ways calls) (sym of.addresses)
      (listing_of l.insns.items l.ways calls (subst (λ (xs : List ℕ). All (λ x. x < 2 ^ 32) xs) of.addresses of.small) of.insns
      (subst (λ (xs : List ℕ). AreRows xs (map (λ s. s.ways.items) sites) l.ways) of.addresses of.ways)
      (subst (λ (xs : List ℕ). AreRows xs (map (λ s. s.callees.items) sites) calls) of.addresses of.calls))
