use Rattle.std.proofs.Common.{◌++◌, ◌∷◌, [], sym, subst, take, get_or, arith}
use Rattle.std.proofs.lemmas.List.{take_more, take_all}
use Rattle.flow_graph.specs.Reached.{IsGrownBy}
use Rattle.flow_graph.proofs.ReachLemmas.{grown_none, grown_skip, grown_more}
use Rattle.flow_graph.proofs.explore.add_code.Goals as goal
use Rattle.flow_graph.proofs.explore.add_code.Goals.{then-is_code_word+in_ok-insert, else-is_code_word}

pub loop-address-init : goal.loop-address-init
loop-address-init c = grown_none c.args.image.now c.args.reached.now.keys

pub loop-address-preserved : goal.loop-address-preserved
loop-address-preserved c =
    let image = c.args.image.now in
    let i = c.loop-address.address-index in
    let xs = c.args.addresses.now in
    let old = c.args.reached.now.keys in
    let so_far = c.loop-address.invariant in
    rw (take_more xs i 0 c.loop-address-test.true) (
    elim c.if-is_code_word.branch [
      | then-is_code_word+in_ok-insert w ↦
          subst (λ s. IsGrownBy image (take i xs ++ get_or xs i 0 ∷ []) old s.keys) (sym w.reached-is)
          (rw w.in_ok-insert.ensures.keys (grown_more image (take i xs) old c.loop-address.reached.keys (get_or xs i 0) so_far (sym w.if-is_code_word.ensures)))
      | else-is_code_word w ↦
          subst (λ s. IsGrownBy image (take i xs ++ get_or xs i 0 ∷ []) old s.keys) (sym w.reached-is)
          (grown_skip image (take i xs) old c.loop-address.reached.keys (get_or xs i 0) so_far (sym w.if-is_code_word.ensures))
    ])

pub returns : goal.returns
returns c = subst (λ l. IsGrownBy c.args.image.now l c.args.reached.now.keys c.loop-address.reached.keys) (take_all c.loop-address.address-index c.args.addresses.now (omega arith)) c.loop-address.invariant
