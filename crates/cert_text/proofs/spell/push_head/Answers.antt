use Rattle.std.proofs.lemmas.Result.{IfOk-equal}
use Rattle.cert_text.proofs.SpellLemmas.{head_text}
use Rattle.cert_text.proofs.spell.push_head.Goals as goal

pub returns : goal.returns
returns c = IfOk-equal c.push_last.result c.push_last.new.out.items _ _ c.push_last.ensures (head_text c.args.out.now.items c.push.new.out.items c.args.count c.in_ok-push.ensures)
