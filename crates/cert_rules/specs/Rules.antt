-- When a certificate is valid, for an unfolding on a machine and the classes of its events. This project's own.
use Rattle.std.specs.Prelude.{◌≡◌, ℕ, ◌+◌, ◌^◌, ◌<◌, ◌≤◌, List, length, map, All, slice_get, Some}
use Rattle.wx_base.specs.declared.machine.Machine.{Machine}
use Rattle.wx_base.specs.Facts.{AreAscending}
use Rattle.wx_base.specs.Vector.{Covers, zero_slots}
use Rattle.wx_base.specs.Blocks.{Exit, exit_from, finish_from}
use Rattle.xdd_table.specs.Diagram.{Combination}
use Rattle.flow_block.specs.declared.block.Block.{Block}
use Rattle.flow_ctx.specs.declared.unfolded.Edge.{Edge}
use Rattle.flow_ctx.specs.declared.unfolded.Unfolded.{Unfolded}
use Rattle.flow_ctx.specs.Nodes.{IsBlockOf}
use Rattle.pipe_block.specs.Events.{entries_of}
use Rattle.cache_class.specs.declared.class.Class.{Class}
use Rattle.cache_class.specs.declared.class.Classes.{Classes}
use Rattle.cache_class.specs.declared.group.Group.{Group}
use Rattle.cache_class.specs.Allowed.{IsAllowed}
use Rattle.cache_class.specs.Groups.{AreGroups}
use Rattle.cert_text.specs.declared.certificate.CertVector.{CertVector}
use Rattle.cert_text.specs.declared.certificate.Charge.{Charge}
use Rattle.cert_text.specs.declared.certificate.Certificate.{Certificate}
use Rattle.cert_rules.specs.Prices.{missed, entering, returning, totalcounts_at, paid_at_start}

-- the group that a charge is of
abbrev pub group_of : Charge → Group
group_of charge = record { line = charge.line; scope = charge.scope }

-- The certificate has a family for each node, a charge for each group in their order, a multiplier for each loop, and prices of
-- totals that the unfolding has, in the order of their addresses.
pub record HasShape (u : Unfolded) (classes : Classes) (c : Certificate) : Type 0 where
  pub families : length c.families ≡ length u.nodes
  pub charges : AreGroups u classes (map group_of c.charges)
  pub multipliers : length c.multipliers ≡ length u.loops
  pub ascending : AreAscending (map (λ t. t.address) c.totals)
  pub totals : All (λ t. 0 < length (totalcounts_at u t.address)) c.totals

-- the greatest number that a certificate may have
abbrev pub greatest_number : ℕ
greatest_number = 10 ^ 18

-- the numbers of a vector are at most that
pub record IsSmallVector (v : CertVector) : Type 0 where
  pub potential : v.potential ≤ greatest_number
  pub slots : All (λ time. time ≤ greatest_number) v.slots.slots

-- all numbers of a certificate are
pub record HasSmallNumbers (c : Certificate) : Type 0 where
  pub families : All (λ family. All (λ v. IsSmallVector v) family) c.families
  pub charges : All (λ charge. charge.amount ≤ greatest_number) c.charges
  pub multipliers : All (λ multiplier. multiplier ≤ greatest_number) c.multipliers
  pub totals : All (λ total. total.amount ≤ greatest_number) c.totals
  pub bound : c.bound ≤ greatest_number

-- the vector at a place of a node's family
pub record IsListed (c : Certificate) (node place : ℕ) (v : CertVector) : Type 0 where
  pub family : List CertVector
  pub stands : slice_get c.families node ≡ Some family
  pub listed : slice_get family place ≡ Some v

-- the vector covers that of the empty pipeline
abbrev pub CoversEmpty : CertVector → Type 0
CoversEmpty v = Covers v.slots.slots zero_slots

-- it is the first of the start's family that does
pub record IsFirstCovering (u : Unfolded) (c : Certificate) (v : CertVector) : Type 0 where
  pub place : ℕ
  pub listed : IsListed c u.start place v
  pub covers : CoversEmpty v
  pub first : (earlier : ℕ) (w : CertVector) → earlier < place → IsListed c u.start earlier w → CoversEmpty w → ⊥

-- some vector of the start's family does
pub record HasStart (u : Unfolded) (c : Certificate) : Type 0 where
  pub place : ℕ
  pub vector : CertVector
  pub listed : IsListed c u.start place vector
  pub covers : CoversEmpty vector

-- the block of a node, and the classes of the block's events
pub record IsClassed (u : Unfolded) (classes : Classes) (node : ℕ) (block : Block) (kinds : List Class) : Type 0 where
  pub is : IsBlockOf u node block
  pub stands : slice_get classes.slots node ≡ Some kinds

-- A vector of a node pays for a run that ends in the node's block: under every combination that the classes allow, its potential and the
-- charges of the groups that miss are at least the finish.
pub record PaysFinish (u : Unfolded) (m : Machine) (classes : Classes) (c : Certificate) (node place : ℕ) : Type 0 where
  pub each : (block : Block) (kinds : List Class) (v : CertVector) (f : Combination) → IsClassed u classes node block kinds → IsListed c node place v
      → IsAllowed kinds f → finish_from m v.slots.slots (entries_of block f) ≤ v.potential + missed c.charges f block kinds

-- What was earned before an edge pays for the exit along it: some vector of the target's family covers the exit, and what was earned
-- with what the edge gives back is at least the exit's cost, what the edge costs for the loops that it enters, and that vector's potential.
pub record PaysOn (u : Unfolded) (c : Certificate) (number : ℕ) (edge : Edge) (earned : ℕ) (exit : Exit) : Type 0 where
  pub place : ℕ
  pub next : CertVector
  pub listed : IsListed c edge.to place next
  pub covers : Covers next.slots.slots exit.slots
  pub pays : exit.cost + entering c u number + next.potential ≤ earned + returning c u number

-- A vector of a node pays for going on along each edge of the node: under every combination that the classes allow, its potential and
-- the charges of the groups that miss do.
pub record PaysEdges (u : Unfolded) (m : Machine) (classes : Classes) (c : Certificate) (node place : ℕ) : Type 0 where
  pub each : (number : ℕ) (edge : Edge) (block : Block) (kinds : List Class) (v : CertVector) (f : Combination)
      → slice_get u.edges number ≡ Some edge → edge.from ≡ node → IsClassed u classes node block kinds → IsListed c node place v
      → IsAllowed kinds f
      → PaysOn u c number edge (v.potential + missed c.charges f block kinds) (exit_from m v.slots.slots (entries_of block f) edge.taken)

-- The bound is made of two parts: what the start's first vector that covers the empty pipeline promises, and what is paid at the start.
pub record HasBound (u : Unfolded) (c : Certificate) : Type 0 where
  pub vector : CertVector
  pub first : IsFirstCovering u c vector
  pub is : c.bound ≡ vector.potential + paid_at_start c u

-- the certificate is valid
pub record IsValid (u : Unfolded) (m : Machine) (classes : Classes) (c : Certificate) : Type 0 where
  pub shape : HasShape u classes c
  pub numbers : HasSmallNumbers c
  pub start : HasStart u c
  pub finishes : (node place : ℕ) → PaysFinish u m classes c node place
  pub edges : (node place : ℕ) → PaysEdges u m classes c node place
  pub bound : HasBound u c
