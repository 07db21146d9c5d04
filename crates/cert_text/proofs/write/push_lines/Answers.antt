use Rattle.std.proofs.lemmas.Result.{IfOk-equal}
use Rattle.cert_text.proofs.KeyLemmas.{nodes_listed}
use Rattle.cert_text.proofs.SpellLemmas.{lines_text}
use Rattle.cert_text.proofs.write.push_lines.Goals as goal

pub push_nodes-requires : goal.push_nodes-requires
push_nodes-requires c = rw c.as_slice-2.ensures (nodes_listed c.args.pool.now c.args.c.now.families c.requires)

pub returns : goal.returns
returns c =
    IfOk-equal c.push_bound.result c.push_bound.new.out.items _ _ c.push_bound.ensures
    (lines_text c.args.out.now.items c.push_head.new.out.items c.push_vectors.new.out.items c.push_nodes.new.out.items c.push_charges.new.out.items c.push_multipliers.new.out.items c.push_totals.new.out.items
    c.args.pool.now _ c.len.result c.args.c.now c.as_slice-2.result.now c.as_slice-3.result.now c.as_slice-4.result.now c.as_slice-5.result.now
    c.len.ensures c.as_slice.ensures c.as_slice-2.ensures c.as_slice-3.ensures c.as_slice-4.ensures c.as_slice-5.ensures
    c.in_ok-push_head.ensures c.in_ok-push_vectors.ensures c.in_ok-push_nodes.ensures c.in_ok-push_charges.ensures c.in_ok-push_multipliers.ensures c.in_ok-push_totals.ensures)
