use Rattle.xdd_ops.proofs.replacement.replace.Given as goal

abbrev pub ghosts-replace_in : goal.ghosts-replace_in
ghosts-replace_in a = record { name = a.blank.name; parts = a.blank.parts }
