-- What the lines must keep so that processor and cache can be made of them, and where that is refused.
use Rattle.std.specs.Prelude.{ℕ, ◌<◌, List}
use Rattle.wx_base.specs.declared.machine.Shape.{Shape}
use Rattle.cache_lru.specs.Lru.{IsFirstBad}
use Rattle.start_file.specs.declared.start_item.Item.{Item}
use Rattle.start_file.specs.declared.start_item.Item.TheVariants as item
use Rattle.start_file.specs.declared.start_error.StartError.{StartError}
use Rattle.start_file.specs.declared.start_error.StartError.TheVariants.{Line, NotACache, NoMemory}
use Rattle.start_file.specs.StartSaid.{sets_said}

-- a line of a register is one of a register below pc
abbrev pub NamesRegister : Item → Type 0
NamesRegister item.Head = Unit {0}
NamesRegister (item.Register number value) = number < 15
NamesRegister (item.Flags flags) = Unit {0}
NamesRegister (item.Fill byte) = Unit {0}
NamesRegister (item.Byte address byte) = Unit {0}
NamesRegister (item.Set set lines) = Unit {0}
NamesRegister item.End = Unit {0}

-- a line of a set is one of so many sets
abbrev pub NamesList : ℕ → Item → Type 0
NamesList sets item.Head = Unit {0}
NamesList sets (item.Register number value) = Unit {0}
NamesList sets (item.Flags flags) = Unit {0}
NamesList sets (item.Fill byte) = Unit {0}
NamesList sets (item.Byte address byte) = Unit {0}
NamesList sets (item.Set set lines) = set < sets
NamesList sets item.End = Unit {0}

-- where making the cache is refused
abbrev pub IsCacheRefusal : Shape → List Item → StartError → Type 0
IsCacheRefusal shape items (Line line) = ⊥
IsCacheRefusal shape items (NotACache set) = IsFirstBad shape (sets_said shape items) set
IsCacheRefusal shape items NoMemory = Unit {0}
