use Rattle.cert_judge.proofs.offer.sum.Given as goal

abbrev pub ghosts-sum_in : goal.ghosts-sum_in
ghosts-sum_in a = record { name = a.blank.name; parts = a.blank.parts }
