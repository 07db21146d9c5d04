-- What is followed is a walk, and tells what was executed till each of its parts.
use Rattle.std.proofs.Common.{◌≡◌, ℕ, ◌++◌, List, [], ◌∷◌, refl, ap, subst}
use Rattle.wx_base.specs.Run.{Executed}
use Rattle.flow_ctx.specs.declared.unfolded.Edge.{Edge}
use Rattle.flow_ctx.specs.declared.unfolded.Unfolded.{Unfolded}
use Rattle.flow_ctx.specs.Stays.{IsWalk}
use Rattle.flow_ctx.specs.Stays.IsWalk.{starts, goes}
use Rattle.ctx_laws.specs.Following.{Follows}
use Rattle.ctx_laws.specs.Following.Follows.{begins, executes, moves}
use Rattle.ctx_laws.specs.Laws.{FollowedWalksAreWalks, WalksTellExecuted, WasExecuted}
use Rattle.ctx_laws.proofs.Lists.{not_empty, one_element, tails}

pub followed_walks_are_walks : FollowedWalksAreWalks
followed_walks_are_walks u executed walk node index begins = starts
followed_walks_are_walks u executed walk node index (executes i before w number k f is) = followed_walks_are_walks u before w number k f
followed_walks_are_walks u executed walk node index (moves i before w k number edge f on) = goes number edge w on.stands (followed_walks_are_walks u (i ∷ before) w edge.from k f)

-- a walk leads to one node
pub one_end : (u : Unfolded) (walk : List ℕ) (a b : ℕ) → IsWalk u walk a → IsWalk u walk b → a ≡ b
one_end u walk a b starts starts = refl
one_end u walk a b (goes number edge w e p) (goes _ other _ f q) = ap (λ (x : Edge). x.to) (one_element u.edges number edge other e f)

-- the part of what was executed when nothing more was walked
one_more : (u : Unfolded) (i : Executed) (executed : List Executed) (since : List ℕ) → WasExecuted u executed since → WasExecuted u (i ∷ executed) since
one_more u i executed since w = record { later = i ∷ w.later; before = w.before; node = w.node; are = ap (λ (xs : List Executed). i ∷ xs) w.are; follows = w.follows }

split : (u : Unfolded) (executed : List Executed) (walk later since : List ℕ) (node index : ℕ) → walk ≡ later ++ since → Follows u executed walk node index → WasExecuted u executed since
split u executed walk [] since node index e begins = record { later = []; before = []; node = u.start; are = refl; follows = subst (λ (w : List ℕ). Follows u [] w u.start 0) e begins }
split u executed walk (x ∷ later) since node index e begins = absurd (not_empty [] x (later ++ since) e)
split u executed walk later since node index e (executes i before w number k f is) = one_more u i before since (split u before w later since number k e f)
split u executed walk [] since node index e (moves i before w k number edge f on) =
    record { later = []; before = i ∷ before; node = edge.to; are = refl; follows = subst (λ (v : List ℕ). Follows u (i ∷ before) v edge.to 0) e (moves i before w k number edge f on) }
split u executed walk (x ∷ later) since node index e (moves i before w k number edge f on) =
    split u (i ∷ before) w later since edge.from k (tails number x w (later ++ since) e) f

pub walks_tell_executed : WalksTellExecuted
walks_tell_executed u executed later since node index f = split u executed (later ++ since) later since node index refl f
