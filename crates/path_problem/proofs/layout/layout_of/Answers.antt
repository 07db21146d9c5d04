use Rattle.path_problem.proofs.layout.layout_of.Goals as goal

pub arcs_from-requires : goal.arcs_from-requires
arcs_from-requires c = record { each = c.requires.sources }
