use Rattle.std.proofs.Common.{sym}
use Rattle.flow_graph.proofs.RefusalLemmas.{foreign_first, outside_first, untold_first, bad_first, no_causes, closed}
use Rattle.flow_graph.proofs.early_refusals.refuse_early.Goals as goal

pub returns-in-Some-clause-first : goal.returns-in-Some-clause-first
returns-in-Some-clause-first c = foreign_first c.args.inputs.now.image.now c.args.inputs.now.facts.now c.args.inputs.now.start c.args.sites.now c.requires.sites c.args.inputs.now.machine.now c.in-Some.site.now (sym c.in-Some.ensures)

pub returns-in-Some-least_gone_to-clause-first : goal.returns-in-Some-least_gone_to-clause-first
returns-in-Some-least_gone_to-clause-first c =
    outside_first c.args.inputs.now.image.now c.args.inputs.now.facts.now c.args.inputs.now.start c.args.sites.now c.requires.sites c.args.inputs.now.machine.now (sym c.in_default.ensures) c.in-Some-least_gone_to.addr c.in-Some-least_gone_to.ensures

pub returns-in-Some-first_untold-clause-first : goal.returns-in-Some-first_untold-clause-first
returns-in-Some-first_untold-clause-first c =
    untold_first c.args.inputs.now.image.now c.args.inputs.now.facts.now c.args.inputs.now.start c.args.sites.now c.requires.sites c.args.inputs.now.machine.now (sym c.in_default.ensures) c.in_default-least_gone_to.ensures
    c.in-Some-first_untold.site.now (sym c.in-Some-first_untold.ensures)

pub returns-in-Some-first_leading_out-clause-first : goal.returns-in-Some-first_leading_out-clause-first
returns-in-Some-first_leading_out-clause-first c =
    bad_first c.args.inputs.now.image.now c.args.inputs.now.facts.now c.args.inputs.now.start c.args.sites.now c.requires.sites c.args.inputs.now.machine.now (sym c.in_default.ensures) c.in_default-least_gone_to.ensures
    (sym c.in_default-first_untold.ensures) c.in-Some-first_leading_out.addr c.in-Some-first_leading_out.target c.in-Some-first_leading_out.ensures

pub returns-clause-closed : goal.returns-clause-closed
returns-clause-closed c =
    closed c.args.inputs.now.image.now c.args.inputs.now.facts.now c.args.inputs.now.start c.args.sites.now c.requires.sites (sym c.in_default.ensures) c.in_default-least_gone_to.ensures c.in_default-first_leading_out.ensures

pub returns-clause-clean : goal.returns-clause-clean
returns-clause-clean c = record {
  none = no_causes c.args.inputs.now.image.now c.args.inputs.now.facts.now c.args.inputs.now.start c.args.sites.now c.requires.sites c.args.inputs.now.machine.now (sym c.in_default.ensures) c.in_default-least_gone_to.ensures
      (sym c.in_default-first_untold.ensures) c.in_default-first_leading_out.ensures;
}
