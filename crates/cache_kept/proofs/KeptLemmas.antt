-- Whether a line is kept, as two searches tell it.
use Rattle.std.proofs.Common.{◌≡◌, ℕ, ◌<◌, Bool, true, false, List, length, get_or, refl, sym, subst, arith}
use Rattle.std.specs.Bool.{Decides}
use Rattle.std.specs.List.{Contains}
use Rattle.std.specs.Global.{Vec}
use Rattle.std.proofs.lemmas.Bool.{false≢true}
use Rattle.std.proofs.lemmas.List.Elements.{Contains-get_or}
use Rattle.cache_ages.specs.Bounds.{is_one_of}
use Rattle.cache_flow.specs.Flows.{Part, IsFlow, accesses_of}
use Rattle.cache_flow.specs.Shown.{IsKept}
use Rattle.cache_kept.specs.declared.look.Look.{Look}
use Rattle.cache_kept.specs.Parts.{AreInside, IsClosed, IsCycle, IsSure}
use Rattle.cache_kept.specs.Search.{IsLook, part_at}
use Rattle.cache_kept.specs.Ways.{AreSources}
use Rattle.cache_kept.proofs.KnownLemmas.{cycle_sure}
use Rattle.cache_kept.proofs.Lists.{one_from}
use Rattle.cache_kept.proofs.OverLemmas.{kept_told}
use Rattle.cache_kept.proofs.StretchLemmas.{marked_within}

-- the look at a part with some marks of where the line may be known
pub is_look : (look : Look) (ways : List (Vec ℕ)) (inside known : List Bool) → IsFlow look.flow.now → look.sources.now ≡ ways → look.inside.now ≡ inside → look.known.now ≡ known
    → AreSources (length look.flow.now.nodes) look.flow.now.moves ways → AreInside (length look.flow.now.nodes) look.members.now inside
    → IsClosed look.flow.now look.members.now look.line known → IsLook look
is_look look ways inside known flow same_ways same_inside same_known sources members closed = record {
  flow = flow;
  sources = subst (λ (ls : List (Vec ℕ)). AreSources (length look.flow.now.nodes) look.flow.now.moves ls) (sym same_ways) sources;
  inside = subst (λ (ms : List Bool). AreInside (length look.flow.now.nodes) look.members.now ms) (sym same_inside) members;
  closed = subst (λ (ms : List Bool). IsClosed look.flow.now look.members.now look.line ms) (sym same_known) closed;
}

pub member_node : (count : ℕ) (members : List ℕ) (marks : List Bool) (node : ℕ) → AreInside count members marks → Contains members node → node < count
member_node count members marks node inside member = omega (arith, inside.long, marked_within marks node ((inside.exact node).1 member))

-- the line is kept in each part with these members, or in none
pub told : (look : Look) (node place line : ℕ) (few : Bool) → look.line ≡ line
    → (few ≡ true → IsKept look.shape look.flow.now (part_at look) node place look.line)
    → (few ≡ false → IsKept look.shape look.flow.now (part_at look) node place look.line → ⊥)
    → (part : Part) → part.members ≡ look.members.now → Decides few (IsKept look.shape look.flow.now part node place line)
told look node place line true is kept none part same = (λ e. kept_told look.shape look.flow.now (part_at look) part node place look.line line (sym same) is (kept refl), λ k. refl)
told look node place line false is kept none part same =
    (λ e. absurd (false≢true e), λ k. absurd (none refl (kept_told look.shape look.flow.now part (part_at look) node place line look.line same (sym is) k)))

-- where the part is one cycle the members all know the line that the node accesses
pub sure_in_cycle : (look : Look) (node place : ℕ) (stretch_inside : List Bool) → look.known.now ≡ stretch_inside → AreInside (length look.flow.now.nodes) look.members.now stretch_inside
    → IsCycle look.flow.now.moves look.members.now → Contains look.members.now node → place < length (accesses_of look.flow.now node)
    → look.line ≡ get_or (accesses_of look.flow.now node) place 0 → IsSure look.shape look.flow.now (part_at look) look.line look.known.now
sure_in_cycle look node place inside same members cycle member within is =
    subst (λ (marks : List Bool). IsSure look.shape look.flow.now (part_at look) look.line marks) (sym same)
    (cycle_sure look.shape look.flow.now (part_at look) look.members.now look.line node inside refl members cycle member
    (subst (λ (n : ℕ). is_one_of (accesses_of look.flow.now node) n ≡ true) (sym is)
    (one_from (accesses_of look.flow.now node) (get_or (accesses_of look.flow.now node) place 0) (Contains-get_or (accesses_of look.flow.now node) place 0 within))))
