use Rattle.std.proofs.Common.{◌≡◌, ℕ, Bool, true, false, List, Some, None, length, take, slice_get, ap, sym, subst}
use Rattle.std.specs.Prelude.{Decides}
use Rattle.std.specs.List.{Contains}
use lib.Pointwise.{pointwise}
use Rattle.std.proofs.lemmas.Bool.{false≢true}
use Rattle.flow_ctx.specs.declared.unfolded.Call.{Call}
use Rattle.flow_ctx.specs.Targets.{node_of}
use Rattle.flow_ctx.proofs.MemberLemmas.{member_told, other_chain}
use Rattle.flow_ctx.proofs.PlaceLemmas.{call_test}
use Rattle.flow_ctx.proofs.members.is_member.Goals as goal

abbrev test : List Call → List Call → Bool
test h s = pointwise call_test h (take (length h) s)

pub returns-then-not-starts_with : goal.returns-then-not-starts_with
returns-then-not-starts_with c =
    let told = subst (λ (h : List Call). test h c.as_slice.result.now ≡ false) c.as_slice-callers.ensures.value (sym c.if-not-starts_with.ensures.value) in
    let told' = subst (λ (s : List Call). test c.args.head.now.chain.items s ≡ false) c.as_slice.ensures.value told in
    (λ h. absurd (false≢true h), λ m. absurd (other_chain c.args.program.now (node_of c.args.head.now) (node_of c.args.place.now) c.args.info.now told' m))

pub returns : goal.returns
returns c =
    let told = subst (λ (h : List Call). test h c.as_slice.result.now ≡ true) c.as_slice-callers.ensures.value (sym c.if-not-starts_with.ensures.value) in
    let told' = subst (λ (s : List Call). test c.args.head.now.chain.items s ≡ true) c.as_slice.ensures.value told in
    let depth : length c.args.head.now.chain.items ≡ length c.as_slice-callers.result.now = ap length (sym c.as_slice-callers.ensures.value) in
    let chain = c.args.place.now.chain.items in
    let place = c.requires.place in
    member_told c.args.program.now (node_of c.args.head.now) (node_of c.args.place.now) c.args.info.now told' c.address_at-address.result
    (λ call e. c.address_at-address.ensures.call call (subst (λ (n : ℕ). slice_get chain n ≡ Some call) depth e))
    (λ e f b at. c.address_at-address.ensures.own (subst (λ (n : ℕ). slice_get chain n ≡ None) depth e) f b at)
    place.function place.block place.is c.is_listed.result
    (subst (λ (l : List ℕ). Decides c.is_listed.result (Contains l c.address_at-address.result)) c.as_slice-2.ensures c.is_listed.ensures)
