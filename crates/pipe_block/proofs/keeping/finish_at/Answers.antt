use Rattle.std.proofs.Common.{◌≡◌, Ok, refl, sym, ap, ◌∙◌}
use Rattle.pipe_block.specs.declared.ends.Ends.{Ends}
use Rattle.pipe_block.specs.Kept.{kept_in}
use Rattle.pipe_block.proofs.EndLemmas.{leavings_self}
use Rattle.pipe_block.proofs.Staying.{answered_before, key_once, known_once, not_known, right_ends}
use Rattle.pipe_block.proofs.keeping.finish_at.Goals as goal

pub returns-in-Some-clause-finish : goal.returns-in-Some-clause-finish
returns-in-Some-clause-finish c from b at of =
    let site = c.args.site.now in
    (right_ends c.args.table.now c.args.pool.now site.machine.now site.unfolded.now site.node c.args.place c.key_of-key.result from b c.key_of-key.ensures at of c.args.memo.now.leavings c.in-Some.ends (c.requires.right.each c.key_of-key.result c.in-Some.ends (sym c.in-Some.ensures))).finish

pub returns-in-Some-clause-leavings : goal.returns-in-Some-clause-leavings
returns-in-Some-clause-leavings c = leavings_self c.args.memo.now.leavings

pub block-requires : goal.block-requires
block-requires c = c.nodes_have_blocks.ensures c.args.site.now.unfolded.now.program c.args.site.now.unfolded.now c.args.site.now.node c.requires.unfolded.unfolded c.requires.node

pub returns-clause-finish : goal.returns-clause-finish
returns-clause-finish c from b at of = (c.in_ok-ends.ensures.ends from b at of).finish

pub returns-in-Some-clause-answered : goal.returns-in-Some-clause-answered
returns-in-Some-clause-answered c key k =
    let same = key_once c.args.site.now.unfolded.now c.args.site.now.node c.args.place key c.key_of-key.result k c.key_of-key.ensures in
    record {
      ends = c.in-Some.ends;
      answered = answered_before c.args.memo.now.entries key c.in-Some.ends (ap (kept_in c.args.memo.now.entries) same ∙ sym c.in-Some.ensures);
      has = refl;
    }

pub returns-in-Some-clause-known : goal.returns-in-Some-clause-known
returns-in-Some-clause-known c key ends k is = (
  ap (λ (x : Ends). Ok x.finish) (known_once c.args.memo.now.entries c.args.site.now.unfolded.now c.args.site.now.node c.args.place c.key_of-key.result key c.key_of-key.ensures k c.in-Some.ends ends (sym c.in-Some.ensures) is),
  refl,
  refl,
)

pub returns-in_err-ends-clause-known : goal.returns-in_err-ends-clause-known
returns-in_err-ends-clause-known c key ends k is =
    absurd (not_known c.args.memo.now.entries c.args.site.now.unfolded.now c.args.site.now.node c.args.place c.key_of-key.result key c.key_of-key.ensures k ends (sym c.in_default.ensures) is)

pub returns-clause-answered : goal.returns-clause-answered
returns-clause-answered c key k = record { ends = c.in_ok-ends.ends; answered = c.in_ok-ends.ensures.answered key k; has = refl }

pub returns-clause-known : goal.returns-clause-known
returns-clause-known c key ends k is =
    absurd (not_known c.args.memo.now.entries c.args.site.now.unfolded.now c.args.site.now.node c.args.place c.key_of-key.result key c.key_of-key.ensures k ends (sym c.in_default.ensures) is)
