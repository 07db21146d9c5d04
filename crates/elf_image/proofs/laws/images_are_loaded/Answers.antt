use Rattle.elf_image.proofs.Due.{images_are_loaded}
use Rattle.elf_image.proofs.laws.images_are_loaded.Goals as goal

pub returns : goal.returns
returns c = images_are_loaded
