-- What is said of the blocks of a function. This project's own.
use Rattle.std.specs.Prelude.{◌≡◌, ℕ, List}
use Rattle.wx_base.specs.declared.facts.Facts.{Facts}
use Rattle.wx_base.specs.declared.image.Image.{Image}
use Rattle.wx_base.specs.declared.machine.Machine.{Machine}
use Rattle.flow_block.specs.declared.block.Block.{Block}
use Rattle.flow_block.specs.Blocks.{AreBlocks}

-- a function of an image with facts, on a machine, has one list of blocks
abbrev pub BlocksAreOne : Type 0
BlocksAreOne = (image : Image) (facts : Facts) (machine : Machine) (entry : ℕ) (bs cs : List Block)
    → AreBlocks image facts machine entry bs → AreBlocks image facts machine entry cs → bs ≡ cs
