use Rattle.std.proofs.lemmas.Result.{IfOk-equal}
use Rattle.cert_text.proofs.SpellLemmas.{multiplier_text}
use Rattle.cert_text.proofs.spell.push_multiplier.Goals as goal

pub returns : goal.returns
returns c =
    IfOk-equal c.push_last.result c.push_last.new.out.items _ _ c.push_last.ensures
    (multiplier_text c.args.out.now.items c.push.new.out.items c.push_decimal.new.out.items c.args.number c.args.amount c.in_ok-push.ensures c.in_ok-push_decimal.ensures)
