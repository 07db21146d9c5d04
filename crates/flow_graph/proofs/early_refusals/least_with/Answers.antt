use Rattle.std.proofs.Common.{sym}
use Rattle.flow_graph.proofs.OutsideLemmas.{with_code, with_more, with_less, with_first}
use Rattle.flow_graph.proofs.early_refusals.least_with.Goals as goal

pub returns-then-is_code_word : goal.returns-then-is_code_word
returns-then-is_code_word c = with_code c.args.image.now c.args.address c.args.least (sym c.if-is_code_word.ensures)

pub returns-in-Some : goal.returns-in-Some
returns-in-Some c = rw c.in-Some.is (with_more c.args.image.now c.args.address c.in-Some.least c.if-least-address.true)

pub returns-in_default : goal.returns-in_default
returns-in_default c = rw c.in-Some.is (with_less c.args.image.now c.args.address c.in-Some.least (sym c.if-is_code_word.ensures) c.if-least-address.false)

pub returns-in_default-2 : goal.returns-in_default-2
returns-in_default-2 c = rw c.in_default.is (with_first c.args.image.now c.args.address (sym c.if-is_code_word.ensures))
