-- The least addresses where no code stands.
use Rattle.std.proofs.Common.{◌≡◌, ℕ, zero, suc, ◌<◌, ◌≤◌, ◌+◌, true, false, List, [], ◌∷◌, ◌++◌, length, take, Contains, AllPairs, All, Option, Some, None, arith, ap, sym, refl, ◌∙◌, inl, inr, ◌⊎◌, subst, append_assoc}
use Rattle.std.proofs.lemmas.Bool.{false≢true}
use Rattle.std.proofs.lemmas.List.{append-nil, take_more, get_or_default, get_or-take, length-take}
use Rattle.std.proofs.lemmas.List.Elements.{Contains-append_left, Contains-append_right, Contains-append_cases}
use Rattle.std.specs.Ordering.{nat_cmp}
use Rattle.std.specs.declared.cmp.Ordering.{Ordering}
use Rattle.std.specs.declared.cmp.Ordering.TheVariants.{Less, Equal, Greater}
use Rattle.std.specs.Prelude.{slice_index_or}
use Rattle.wx_base.specs.declared.image.Image.{Image}
use Rattle.wx_base.specs.Image.{is_code_word}
use Rattle.flow_graph.specs.declared.site.Site.{Site}
use Rattle.flow_graph.specs.Reached.{IsLeastOutside, IsLeastWith, LeadsOutFirst, gone_to, leads_of, next_of}
use Rattle.flow_graph.proofs.Comparisons.{equal_is, less_is, greater_is}

-- the one element of a list
pub only : {a x : ℕ} → Contains (a ∷ []) x → a ≡ x
only (zero, h, e) = e
only (suc k, h, e) = absurd (omega arith)

-- no list has none
pub nothing : {X : Type 0} {x : X} → Contains {X = X} [] x → ⊥
nothing (k, h, e) = omega arith

module _ (image : Image) where
  -- an address of code changes nothing
  pub with_code : (a : ℕ) (least : Option ℕ) → is_code_word image a ≡ true → IsLeastWith image (a ∷ []) least least
  with_code a None code = record { joined = λ before h x c. by before h x (Contains-append_cases before (a ∷ []) x c) }
    where
      by : (before : List ℕ) → IsLeastOutside image before None → (x : ℕ) → Contains before x ⊎ Contains (a ∷ []) x → is_code_word image x ≡ true
      by before h x (inl c) = h x c
      by before h x (inr c) = subst (λ y. is_code_word image y ≡ true) (only c) code
  with_code a (Some l) code = record { joined = λ before h. (Contains-append_left before (a ∷ []) l h.0, h.1, λ x c free. by before h x free (Contains-append_cases before (a ∷ []) x c)) }
    where
      by : (before : List ℕ) → IsLeastOutside image before (Some l) → (x : ℕ) → is_code_word image x ≡ false → Contains before x ⊎ Contains (a ∷ []) x → l ≤ x
      by before h x free (inl c) = h.2 x c free
      by before h x free (inr c) = absurd (false≢true (sym free ∙ subst (λ y. is_code_word image y ≡ true) (only c) code))

  -- an address that is no less
  pub with_more : (a l : ℕ) → l ≤ a → IsLeastWith image (a ∷ []) (Some l) (Some l)
  with_more a l le = record { joined = λ before h. (Contains-append_left before (a ∷ []) l h.0, h.1, λ x c free. by before h x free (Contains-append_cases before (a ∷ []) x c)) }
    where
      by : (before : List ℕ) → IsLeastOutside image before (Some l) → (x : ℕ) → is_code_word image x ≡ false → Contains before x ⊎ Contains (a ∷ []) x → l ≤ x
      by before h x free (inl c) = h.2 x c free
      by before h x free (inr c) = let e = only c in omega arith

  -- an address that is less
  pub with_less : (a l : ℕ) → is_code_word image a ≡ false → a < l → IsLeastWith image (a ∷ []) (Some l) (Some a)
  with_less a l bare lt = record { joined = λ before h. (Contains-append_right before (a ∷ []) a (zero, omega arith, refl), bare, λ x c free. by before h x free (Contains-append_cases before (a ∷ []) x c)) }
    where
      by : (before : List ℕ) → IsLeastOutside image before (Some l) → (x : ℕ) → is_code_word image x ≡ false → Contains before x ⊎ Contains (a ∷ []) x → a ≤ x
      by before h x free (inl c) = let le = h.2 x c free in omega arith
      by before h x free (inr c) = let e = only c in omega arith

  -- the first address
  pub with_first : (a : ℕ) → is_code_word image a ≡ false → IsLeastWith image (a ∷ []) None (Some a)
  with_first a bare = record { joined = λ before h. (Contains-append_right before (a ∷ []) a (zero, omega arith, refl), bare, λ x c free. by before h x free (Contains-append_cases before (a ∷ []) x c)) }
    where
      by : (before : List ℕ) → IsLeastOutside image before None → (x : ℕ) → is_code_word image x ≡ false → Contains before x ⊎ Contains (a ∷ []) x → a ≤ x
      by before h x free (inl c) = absurd (false≢true (sym free ∙ h x c))
      by before h x free (inr c) = let e = only c in omega arith

  pub with_none : (least : Option ℕ) → IsLeastWith image [] least least
  with_none least = record { joined = λ before h. subst (λ l. IsLeastOutside image l least) (sym (append-nil before)) h }

  pub with_both : (front back : List ℕ) (a b c : Option ℕ) → IsLeastWith image front a b → IsLeastWith image back b c → IsLeastWith image (front ++ back) a c
  with_both front back a b c f g = record { joined = λ before h. subst (λ l. IsLeastOutside image l c) (append_assoc before front back) (g.joined (before ++ front) (f.joined before h)) }

  -- of no address none is least
  pub least_none : IsLeastOutside image [] None
  least_none x c = absurd (nothing c)

  -- the addresses behind one site more
  pub gone_to_on : (sites : List Site) (site : Site) → gone_to (sites ++ site ∷ []) ≡ gone_to sites ++ next_of site
  gone_to_on [] site = append-nil (next_of site)
  gone_to_on (s ∷ sites) site = ap (λ l. next_of s ++ l) (gone_to_on sites site) ∙ sym (append_assoc (next_of s) (gone_to sites) (next_of site))

  pub gone_more : (start i : ℕ) (sites : List Site) (site : Site) (old new : Option ℕ) → i < length sites → site ≡ slice_index_or sites i site
      → IsLeastOutside image (start ∷ gone_to (take i sites)) old → IsLeastWith image (next_of site) old new → IsLeastOutside image (start ∷ gone_to (take (i + 1) sites)) new
  gone_more start i sites site old new h is least more =
      subst (λ l. IsLeastOutside image (start ∷ l) new)
      (sym (ap gone_to (take_more sites i site h ∙ ap (λ s. take i sites ++ s ∷ []) (sym is)) ∙ gone_to_on (take i sites) site))
      (more.joined (start ∷ gone_to (take i sites)) least)

  -- a site that leads out, where none before it does
  pub leads_first : (sites : List Site) (i : ℕ) (site : Site) (target : ℕ) → AllPairs (λ s t. s.address < t.address) sites → i < length sites → site ≡ slice_index_or sites i site
      → All (λ s. IsLeastOutside image (leads_of s) None) (take i sites) → IsLeastOutside image (leads_of site) (Some target) → LeadsOutFirst image sites site.address target
  leads_first sites i site target up h is before least = record {
    site = site;
    among = (i, h, sym is);
    is = refl;
    least = least;
    first = λ other c lt. by other lt c;
  }
    where
      default_is : (i : ℕ) (d e : Site) → i < length sites → slice_index_or sites i d ≡ slice_index_or sites i e
      default_is i d e h = get_or_default sites i d e h

      by : (other : Site) → other.address < site.address → Contains sites other → IsLeastOutside image (leads_of other) None
      by other lt (k, below, at) = early (nat_cmp k i) refl
        where
          early : (o : Ordering) → nat_cmp k i ≡ o → IsLeastOutside image (leads_of other) None
          early Less e =
              let lower : k < i = less_is k i e in
              subst (λ s. IsLeastOutside image (leads_of s) None) (get_or-take i sites k other lower ∙ at) (before k other (rw (length-take i sites) (omega arith)))
          early Equal e =
              let same : i ≡ k = sym (equal_is k i e) in
              let both : site.address ≡ other.address = ap (λ s. s.address) is ∙ ap (λ s. s.address) (default_is i site other h) ∙ ap (λ j. (slice_index_or sites j other).address) same ∙ ap (λ s. s.address) at in
              absurd (omega arith)
          early Greater e =
              let higher : i < k = greater_is k i e in
              let rises : (slice_index_or sites i other).address < (slice_index_or sites k other).address = up i k other higher below in
              let both : site.address ≡ (slice_index_or sites i other).address = ap (λ s. s.address) is ∙ ap (λ s. s.address) (default_is i site other h) in
              let there : (slice_index_or sites k other).address ≡ other.address = ap (λ s. s.address) at in
              absurd (omega arith)
