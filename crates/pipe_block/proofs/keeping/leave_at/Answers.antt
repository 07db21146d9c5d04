use Rattle.std.proofs.Common.{◌≡◌, ℕ, Ok, refl, ap, ◌∙◌}
use Rattle.std.proofs.lemmas.Option.{slice_get_within}
use Rattle.pipe_block.specs.Kept.{kept_in}
use Rattle.pipe_block.proofs.EndLemmas.{leavings_self}
use Rattle.pipe_block.proofs.Staying.{answered_before, key_once, number_moved, number_once, right_ends}
use Rattle.pipe_block.proofs.keeping.leave_at.Goals as goal

pub returns-in-Some-clause-leaving : goal.returns-in-Some-clause-leaving
returns-in-Some-clause-leaving c from b at of =
    let site = c.args.site.now in
    let found = c.in-Some.ensures.some in
    ((right_ends c.args.table.now c.args.pool.now site.machine.now site.unfolded.now site.node c.args.place c.key_of-key.result from b c.key_of-key.ensures at of c.args.memo.now.leavings found.ends (c.requires.right.each c.key_of-key.result found.ends found.kept)).leaving c.args.taken).each c.in-Some.number found.is

pub returns-in-Some-clause-within : goal.returns-in-Some-clause-within
returns-in-Some-clause-within c =
    let found = c.in-Some.ensures.some in
    let right = c.requires.right.each c.key_of-key.result found.ends found.kept in
    let l = (right.are.leaving c.args.taken).each c.in-Some.number found.is in
    slice_get_within c.args.memo.now.leavings c.in-Some.number l.leaving l.stands

pub returns-in-Some-clause-leavings : goal.returns-in-Some-clause-leavings
returns-in-Some-clause-leavings c = leavings_self c.args.memo.now.leavings

pub returns-clause-leaving : goal.returns-clause-leaving
returns-clause-leaving c from b at of = ((c.in_ok-ends.ensures.ends from b at of).leaving c.args.taken).each c.number_of.result c.number_of.ensures

pub returns-clause-within : goal.returns-clause-within
returns-clause-within c = c.in_ok-ends.ensures.within c.number_of.result c.number_of.ensures

pub returns-in-Some-clause-answered : goal.returns-in-Some-clause-answered
returns-in-Some-clause-answered c key k =
    let found = c.in-Some.ensures.some in
    let same = key_once c.args.site.now.unfolded.now c.args.site.now.node c.args.place key c.key_of-key.result k c.key_of-key.ensures in
    record {
      ends = found.ends;
      answered = answered_before c.args.memo.now.entries key found.ends (ap (kept_in c.args.memo.now.entries) same ∙ found.kept);
      has = found.is;
    }

pub returns-in-Some-clause-known : goal.returns-in-Some-clause-known
returns-in-Some-clause-known c key number k n = (
  ap (λ (x : ℕ). Ok x)
      (number_once c.args.memo.now.entries c.key_of-key.result c.args.taken c.in-Some.number number c.in-Some.ensures.some
      (number_moved c.args.memo.now.entries c.args.site.now.unfolded.now c.args.site.now.node c.args.place c.key_of-key.result key c.key_of-key.ensures k c.args.taken number n)),
  refl,
  refl,
)

pub returns-in_err-ends-clause-known : goal.returns-in_err-ends-clause-known
returns-in_err-ends-clause-known c key number k n =
    absurd (c.in_default.ensures.none number (number_moved c.args.memo.now.entries c.args.site.now.unfolded.now c.args.site.now.node c.args.place c.key_of-key.result key c.key_of-key.ensures k c.args.taken number n))

pub returns-clause-answered : goal.returns-clause-answered
returns-clause-answered c key k = record { ends = c.in_ok-ends.ends; answered = c.in_ok-ends.ensures.answered key k; has = c.number_of.ensures }

pub returns-clause-known : goal.returns-clause-known
returns-clause-known c key number k n =
    absurd (c.in_default.ensures.none number (number_moved c.args.memo.now.entries c.args.site.now.unfolded.now c.args.site.now.node c.args.place c.key_of-key.result key c.key_of-key.ensures k c.args.taken number n))
