-- The start that a text tells, and where a text is refused.
use Rattle.std.specs.Prelude.{◌≡◌, ◌⊎◌, ℕ, List, Result, Ok, Err}
use Rattle.std.specs.Option.{unwrap_or}
use Rattle.wx_base.specs.declared.image.Image.{Image}
use Rattle.wx_base.specs.declared.machine.Shape.{Shape}
use Rattle.arm_step.specs.Cpu.{flags_in}
use Rattle.cache_lru.specs.Lru.{IsFirstBad}
use Rattle.start_file.specs.declared.start_item.Item.{Item}
use Rattle.start_file.specs.declared.start_state.Start.{Start}
use Rattle.start_file.specs.declared.start_error.StartError.{StartError}
use Rattle.start_file.specs.declared.start_error.StartError.TheVariants.{Line, NotACache, NoMemory}
use Rattle.start_file.specs.StartText.{IsStartText, IsFirstBadLine}
use Rattle.start_file.specs.StartSaid.{said, of_flags, no_flags, sets_said, AreRegisters, IsMemory, IsCacheOf}

-- the start is what the lines say, at the entry and with a cache of the shape
pub record IsStartOf (entry : ℕ) (shape : Shape) (items : List Item) (start : Start) : Type 0 where
  pub registers : AreRegisters entry items start.cpu.regs
  pub flags : flags_in start.cpu ≡ unwrap_or (said of_flags items) no_flags
  pub memory : IsMemory items start.cpu.memory
  pub cache : IsCacheOf shape items start.cache

-- the text is a start text, and the start is what its lines say
pub record IsToldBy (image : Image) (shape : Shape) (entry : ℕ) (text : List ℕ) (start : Start) : Type 0 where
  pub items : List Item
  pub is_text : IsStartText image shape text items
  pub is : IsStartOf entry shape items start

-- the text is a start text, and this is the first set of which its lines tell no list of lines of the set
pub record IsNotACacheAt (image : Image) (shape : Shape) (text : List ℕ) (set : ℕ) : Type 0 where
  pub items : List Item
  pub is_text : IsStartText image shape text items
  pub bad : IsFirstBad shape (sets_said shape items) set

-- where a text is refused
abbrev pub IsRefusal : Image → Shape → List ℕ → StartError → Type 0
IsRefusal image shape text (Line line) = IsFirstBadLine image shape text line
IsRefusal image shape text (NotACache set) = IsNotACacheAt image shape text set
IsRefusal image shape text NoMemory = Unit {0}

-- reading answers with the refusal, unless memory runs out
abbrev pub IsRefusedFor : Result Start StartError → StartError → Type 0
IsRefusedFor (Ok start) e = ⊥
IsRefusedFor (Err r) e = (r ≡ e) ⊎ (r ≡ NoMemory)
