-- What is reached of an image: what stands at each address that is, and that nothing leads out of these. This project's own.
use Rattle.std.specs.Prelude.{◌≡◌, ◌<◌, ◌≤◌, ℕ, ◌++◌, ◌&&◌, ◌||◌, ◌==◌, Bool, true, false, List, [], ◌∷◌, length, if◌then◌else◌, AllPairs, All, Any, Contains, Option, Some, None}
use Rattle.wx_base.specs.declared.facts.Facts.{Facts}
use Rattle.wx_base.specs.declared.image.Image.{Image}
use Rattle.std.specs.List.{flat_map}
use Rattle.wx_base.specs.Facts.{AreAscending, targets_of}
use Rattle.wx_base.specs.Functions.{code_at, ways_at, callees_at, IsReached}
use Rattle.wx_base.specs.Image.{is_code_word}
use Rattle.arm_code.specs.Encoding.{decoded}
use Rattle.flow_graph.specs.declared.site.Site.{Site}
use Rattle.flow_block.specs.Sites.{behind, flow_at}

-- the elements of a list, ascending and each once
pub record IsSetOf (elements : List ℕ) (sorted : List ℕ) : Type 0 where
  pub ascending : AreAscending sorted
  pub sound : (a : ℕ) → Contains sorted a → Contains elements a
  pub whole : (a : ℕ) → Contains elements a → Contains sorted a

-- what stands at an address of a word of code
pub record IsSite (image : Image) (facts : Facts) (site : Site) : Type 0 where
  pub word : code_at image site.address ≡ Some site.word
  pub insn : site.insn ≡ decoded site.word
  pub flow : site.flow ≡ flow_at image site.address
  pub ways : IsSetOf (ways_at image facts site.address) site.ways.items
  pub callees : site.callees.items ≡ callees_at image facts site.address

-- what is reached from a start, each once
pub record AreFound (image : Image) (facts : Facts) (start : ℕ) (sites : List Site) : Type 0 where
  pub once : AllPairs (λ s t. s.address ≡ t.address → ⊥) sites
  pub each : All (λ s. IsSite image facts s) sites
  pub reached : All (λ s. IsReached image facts start s.address) sites
  pub whole : (address : ℕ) → IsReached image facts start address → Any (λ s. s.address ≡ address) sites

-- the same in the order of addresses
pub record AreSites (image : Image) (facts : Facts) (start : ℕ) (sites : List Site) : Type 0 where
  pub ascending : AllPairs (λ s t. s.address < t.address) sites
  pub each : All (λ s. IsSite image facts s) sites
  pub reached : All (λ s. IsReached image facts start s.address) sites
  pub whole : (address : ℕ) → IsReached image facts start address → Any (λ s. s.address ≡ address) sites

-- a list of addresses, and behind them those words of code among others that were not in it
pub record IsGrownBy (image : Image) (others old new : List ℕ) : Type 0 where
  pub added : List ℕ
  pub is : new ≡ old ++ added
  pub among : All (λ a. Contains others a × (is_code_word image a ≡ true)) added
  pub once : AllPairs (λ a b. a ≡ b → ⊥) old → AllPairs (λ a b. a ≡ b → ⊥) new
  pub whole : (a : ℕ) → Contains others a → is_code_word image a ≡ true → Contains new a

-- the least address of a list where no word of code stands, if there is one
abbrev pub IsLeastOutside : Image → List ℕ → Option ℕ → Type 0
IsLeastOutside image addresses None = (a : ℕ) → Contains addresses a → is_code_word image a ≡ true
IsLeastOutside image addresses (Some least) =
    Contains addresses least × (is_code_word image least ≡ false)
    × ((a : ℕ) → Contains addresses a → is_code_word image a ≡ false → least ≤ a)

-- what is least of a list, and what is least with more addresses behind it
pub record IsLeastWith (image : Image) (added : List ℕ) (old new : Option ℕ) : Type 0 where
  pub joined : (before : List ℕ) → IsLeastOutside image before old → IsLeastOutside image (before ++ added) new

-- the address behind an instruction, if it may go on there
abbrev pub next_of : Site → List ℕ
next_of site = if site.flow.next then behind site.address 1 ∷ [] else []

-- all of them
abbrev pub gone_to : List Site → List ℕ
gone_to sites = flat_map next_of sites

-- whether the facts list no target for an indirect jump or a call by register
abbrev pub is_untold : Facts → Site → Bool
is_untold facts site =
    (site.flow.indirect && (length (targets_of facts.branches site.address) == 0))
    || (site.flow.call_any && (length (targets_of facts.calls site.address) == 0))

-- all to which the instruction leads
abbrev pub leads_of : Site → List ℕ
leads_of site = site.ways.items ++ site.callees.items

-- the first site that leads to where no code stands, and the least such target of it
pub record LeadsOutFirst (image : Image) (sites : List Site) (address target : ℕ) : Type 0 where
  pub site : Site
  pub among : Contains sites site
  pub is : site.address ≡ address
  pub least : IsLeastOutside image (leads_of site) (Some target)
  pub first : (other : Site) → Contains sites other → other.address < address → IsLeastOutside image (leads_of other) None

-- the same, if there is one
abbrev pub LeadsOut : Image → List Site → Option (ℕ × ℕ) → Type 0
LeadsOut image sites None = All (λ s. IsLeastOutside image (leads_of s) None) sites
LeadsOut image sites (Some at) = LeadsOutFirst image sites at.0 at.1

-- nothing leads out of what is reached, and an instruction stands at each address of it
pub record IsClosed (image : Image) (facts : Facts) (start : ℕ) (sites : List Site) : Type 0 where
  pub begins : Any (λ s. s.address ≡ start) sites
  pub ways : All (λ s. (a : ℕ) → Contains (ways_at image facts s.address) a → Any (λ t. t.address ≡ a) sites) sites
  pub callees : All (λ s. (a : ℕ) → Contains (callees_at image facts s.address) a → Any (λ t. t.address ≡ a) sites) sites
  pub insns : All (λ s. s.insn ≡ None → ⊥) sites
