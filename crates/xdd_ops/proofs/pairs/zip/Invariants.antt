use Rattle.xdd_ops.proofs.pairs.zip.Given as goal

abbrev pub ghosts-zip_in : goal.ghosts-zip_in
ghosts-zip_in a = record { name = a.blank.name; parts = a.blank.parts }
