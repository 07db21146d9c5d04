-- Combinations with the events given that always hit or always miss. This project's own.
use Rattle.std.specs.Prelude.{ℕ, Bool, true, false, List, slice_get, Option, Some, None}
use Rattle.cache_class.specs.declared.class.Class.{Class}
use Rattle.cache_class.specs.declared.class.Class.TheVariants.{AlwaysHit, AlwaysMiss, FirstMiss, Open}
use Rattle.xdd_table.specs.Diagram.{Combination, with_event}

-- whether an event misses: as its class has it, or as given where the class leaves the choice or there is none
abbrev pub settled_miss : Option Class → Bool → Bool
settled_miss None miss = miss
settled_miss (Some AlwaysHit) miss = false
settled_miss (Some AlwaysMiss) miss = true
settled_miss (Some (FirstMiss scope)) miss = miss
settled_miss (Some Open) miss = miss

-- the combination with one event settled
abbrev pub settled_event : Class → ℕ → Combination → Combination
settled_event AlwaysHit number f = with_event f number false
settled_event AlwaysMiss number f = with_event f number true
settled_event (FirstMiss scope) number f = f
settled_event Open number f = f

-- the combination with the events of these classes settled
abbrev pub settled : List Class → Combination → Combination
settled classes f = λ number. settled_miss (slice_get classes number) (f number)
