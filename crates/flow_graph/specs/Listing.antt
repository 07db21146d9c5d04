-- The instructions that are reached of an image, numbered in the order of their addresses. This project's own.
use Rattle.std.specs.Prelude.{◌≡◌, ◌<◌, ◌≤◌, ℕ, Bool, false, IsTrue, List, [], ◌++◌, Decides, map, length, slice_index, slice_index_or, All, Contains, Option, Some, None, ◌^◌}
use Rattle.std.specs.List.{AllZip}
use Rattle.wx_base.specs.declared.facts.Facts.{Facts}
use Rattle.wx_base.specs.declared.image.Image.{Image}
use Rattle.wx_base.specs.Facts.{AreAscending}
use Rattle.wx_base.specs.Functions.{ways_at, callees_at, IsReached}
use Rattle.wx_base.specs.Paths.{Path}
use Rattle.arm_code.specs.declared.insn.Insn.{Insn}
use Rattle.arm_code.specs.Encoding.{IsValid, decoded, word_of}
use Rattle.flow_block.specs.Code.{IsInsn, IsPlace}
use Rattle.graph_loops.specs.Graph.{edges, lists_of}
use Rattle.flow_graph.specs.declared.listing.Listing.{Listing}
use Rattle.flow_graph.specs.declared.site.Site.{Site}
use Rattle.flow_graph.specs.Numbers.{IsNumbering}

-- the word is that of the instruction
pub record IsWordOf (word : ℕ) (insn : Insn) : Type 0 where
  pub means : decoded word ≡ Some insn
  pub spelled : word_of insn ≡ word
  pub valid : IsValid insn

-- numbers are the places of some addresses in a list
pub record ArePlaces (addresses list places : List ℕ) : Type 0 where
  pub within : (j : ℕ) → Contains places j → j < length addresses
  pub are : map (λ j. slice_index addresses j) places ≡ list

-- the same for each of some lists
pub record AreRows (addresses : List ℕ) (lists rows : List (List ℕ)) : Type 0 where
  pub count : length rows ≡ length lists
  pub each : (i : ℕ) → i < length lists → ArePlaces addresses (slice_index_or lists i []) (slice_index_or rows i [])

-- the instructions that are reached from a start, with the numbers of what each leads to in its function, and of what it calls
pub record IsListing (image : Image) (facts : Facts) (start : ℕ) (addresses : List ℕ) (insns : List Insn) (ways calls : List (List ℕ)) : Type 0 where
  pub ascending : AreAscending addresses
  pub small : (place : ℕ) → place < length addresses → slice_index addresses place < 2 ^ 32
  pub insn_each : length insns ≡ length addresses
  pub each : (place : ℕ) (d : Insn) → place < length addresses → IsInsn image (slice_index addresses place) (slice_index_or insns place d)
  pub ways_are : IsNumbering addresses ways (ways_at image facts)
  pub calls_are : IsNumbering addresses calls (callees_at image facts)
  pub reached : (place : ℕ) → place < length addresses → IsReached image facts start (slice_index addresses place)
  pub whole : (address : ℕ) → IsReached image facts start address → (place : ℕ) × IsPlace addresses address place
  pub first : (place : ℕ) × IsPlace addresses start place

-- the same of a listing
abbrev pub IsListed : Image → Facts → ℕ → Listing → Type 0
IsListed image facts start l =
    IsListing image facts start l.addresses.items l.insns.items l.ways (lists_of l.calls.items)

-- the lists of some sites: addresses, instructions, and the numbers of what each leads to in its function and of what it calls
pub record IsListOf (sites : List Site) (l : Listing) : Type 0 where
  pub addresses : l.addresses.items ≡ map (λ s. s.address) sites
  pub small : All (λ a. a < 2 ^ 32) l.addresses.items
  pub insns : AllZip (λ s insn. IsWordOf s.word insn) sites l.insns.items
  pub ways : AreRows l.addresses.items (map (λ s. s.ways.items) sites) l.ways
  pub calls : AreRows l.addresses.items (map (λ s. s.callees.items) sites) (lists_of l.calls.items)

-- a function begins at the start, or is called
pub data IsEntryNumber (calls : List (List ℕ)) (start : ℕ) : ℕ → Type 0 where
  at_start : IsEntryNumber calls start start
  called : (site : ℕ) {entry : ℕ} → Contains (edges calls site) entry → IsEntryNumber calls start entry

-- the marks tell which numbers are entries of functions
pub record AreEntries (calls : List (List ℕ)) (start : ℕ) (marks : List Bool) : Type 0 where
  pub count : length marks ≡ length calls
  pub exact : (v : ℕ) → Decides (slice_index_or marks v false) (IsEntryNumber calls start v)

-- marks at the entries of the functions, the start of a run being at an address
pub record IsStart (addresses : List ℕ) (calls : List (List ℕ)) (start : ℕ) (marks : List Bool) : Type 0 where
  pub number : ℕ
  pub place : IsPlace addresses start number
  pub entries : AreEntries calls number marks

-- all that are called are marked
pub record AreMarkedCallees (calls : List (List ℕ)) (marks : List Bool) : Type 0 where
  pub count : length marks ≡ length calls
  pub each : (site v : ℕ) → Contains (edges calls site) v → IsTrue (slice_index_or marks v false)

-- each list has the ways, and then the calls
pub record AreLeads (ways calls leads : List (List ℕ)) : Type 0 where
  pub count : length leads ≡ length ways
  pub each : (v : ℕ) → edges leads v ≡ edges ways v ++ edges calls v

-- what an instruction leads to, by ways and calls
abbrev pub leads_of : List (List ℕ) → List (List ℕ) → ℕ → List ℕ
leads_of ways calls v = edges ways v ++ edges calls v

-- a call leads back to itself, by ways and calls
pub record IsRecursiveNumber (ways calls : List (List ℕ)) (site : ℕ) : Type 0 where
  pub entry : ℕ
  pub callee : Contains (edges calls site) entry
  pub path : Path (leads_of ways calls) [] entry site

-- the least number of a kind, or that there is none
abbrev pub IsLeast : (ℕ → Type 0) → Option ℕ → Type 0
IsLeast P None = (v : ℕ) → P v → ⊥
IsLeast P (Some least) = P least × ((v : ℕ) → P v → least ≤ v)
