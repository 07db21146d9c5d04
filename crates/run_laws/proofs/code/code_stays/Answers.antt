use Rattle.run_laws.proofs.CodeLemmas.{steps_keep_code}
use Rattle.run_laws.proofs.ImageLemmas.{code_is_the_images, executed_words_are_the_images, runs_keep_code}
use Rattle.run_laws.proofs.code.code_stays.Goals as goal

pub returns-clause-steps : goal.returns-clause-steps
returns-clause-steps c = steps_keep_code

pub returns-clause-runs : goal.returns-clause-runs
returns-clause-runs c = runs_keep_code

pub returns-clause-looks : goal.returns-clause-looks
returns-clause-looks c = code_is_the_images

pub returns-clause-words : goal.returns-clause-words
returns-clause-words c = executed_words_are_the_images
