use Rattle.std.proofs.Common.{rules, refl, ◌≡◌, [], List, sym, ap, ◌∙◌, arith}
use Rattle.std.specs.Prelude.{◌++◌, ◌+◌}
use Rattle.std.proofs.lemmas.List.Elements.{All-push}
use Rattle.wx_base.specs.Facts.{AreAscending}
use Rattle.std.proofs.lemmas.List.Sorted.{IsNonDecreasingBy-from_sort_by_key}
use Rattle.wx_base.specs.declared.facts.TargetFact.{TargetFact}
use Rattle.ffx_facts.specs.Order.{leading_targets, put_all, target_facts}
use Rattle.ffx_facts.specs.declared.says.Says.{Says}
use Rattle.ffx_facts.proofs.Ordered.{always_states, nothing_left, slice_to_end, target_next, target_skipped, targets_ascend}
use Rattle.ffx_facts.proofs.gather.gather_targets.Goals as goal
use Rattle.ffx_facts.proofs.gather.gather_targets.Goals.{then-is+in_ok-targets_of+in_ok-push, else-is}

pub loop-i-preserved : goal.loop-i-preserved
loop-i-preserved c =
    let kind = c.args.kind in
    let all = c.args.all.now in
    let i = c.loop-i.i in
    let facts = c.loop-i.facts.items in
    elim c.if-is.branch [
      | then-is+in_ok-targets_of+in_ok-push w ↦
          let t = w.in_ok-targets_of.ensures.targets ∙ ap (λ (xs : List Says). put_all [] (leading_targets xs)) (slice_to_end all (i + 1)) in
          let same = sym w.if-is.ensures in
          record {
            left = rw (w.facts-is, w.in_ok-push.ensures.items, t) (target_next kind all i _ facts (omega arith) same ∙ c.loop-i.invariant.left);
            ascend = rw (w.facts-is, w.in_ok-push.ensures.items) (All-push (λ (f : TargetFact). AreAscending f.targets) facts _ c.loop-i.invariant.ascend w.in_ok-targets_of.ensures.ascend);
          }
      | else-is w ↦
          let other = sym w.if-is.ensures in
          record {
            left = rw w.facts-is (ap (λ (fs : List TargetFact). facts ++ fs) (target_skipped kind all i _ (omega arith) other) ∙ c.loop-i.invariant.left);
            ascend = rw w.facts-is c.loop-i.invariant.ascend;
          }
    ]

pub returns-clause-ascend : goal.returns-clause-ascend
returns-clause-ascend c =
    let all = c.args.all.now in
    let facts = c.loop-i.facts.items in
    let sorted = c.sort_by_key.new.self.items in
    let said : facts ≡ target_facts c.args.kind all = nothing_left (target_facts c.args.kind) facts all c.loop-i.i (omega arith) refl c.loop-i.invariant.left in
    targets_ascend c.args.kind all facts sorted (always_states c.args.kind c.requires.kind) c.requires.once said c.loop-i.invariant.ascend c.sort_by_key.ensures.permutation
    (IsNonDecreasingBy-from_sort_by_key (λ (f : TargetFact). f.address) sorted c.in_ok-sort_by_key.ensures.sorted (λ a r q k. search rules))
