use Rattle.xdd_ops.proofs.AnswerLemmas.{one_text, one_root}
use Rattle.xdd_ops.proofs.PrintedLemmas.{printed_is_text}
use Rattle.xdd_ops.proofs.laws.one_text_a_diagram.Goals as goal

pub returns-clause-text : goal.returns-clause-text
returns-clause-text c = one_text

pub returns-clause-place : goal.returns-clause-place
returns-clause-place c = one_root

pub returns-clause-grammar : goal.returns-clause-grammar
returns-clause-grammar c = printed_is_text
