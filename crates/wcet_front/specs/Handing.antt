-- How a text is handed over to a sink. This project's own.
use Rattle.std.specs.Prelude.{◌≡◌, ℕ, List, ◌++◌, Option, Result, Ok, Err}
use Rattle.wx_host.specs.declared.sink.SinkFault.{SinkFault}
use Rattle.wx_host.specs.declared.sink.SinkFault.TheVariants as sink_fault
use Rattle.wx_host.specs.Outside.{Rose}
use Rattle.wcet_front.specs.Growth.{Appends}
use Rattle.wcet_front.specs.Reply.{starved, unwritten}

-- the sink took this text behind what it had, where it tells that
abbrev pub Took : Option (List ℕ) → Option (List ℕ) → List ℕ → Type 0
Took before after text = Appends before after text

-- the sink took a front of this text
abbrev pub TookFront : Option (List ℕ) → Option (List ℕ) → List ℕ → Type 0
TookFront before after text = (front rest : List ℕ) × (text ≡ front ++ rest) × Took before after front

-- How a text is handed over to a sink, and with which status the call ends: all of it was taken; or the sink failed, or
-- memory was wanting, and a front was taken.
pub data HandsOver (taken taken' : Option (List ℕ)) (faults faults' status : ℕ) (text : List ℕ) (ends : ℕ) : Type 0 where
  Whole : ends ≡ status → Took taken taken' text → faults' ≡ faults → HandsOver taken taken' faults faults' status text ends
  Unwritten : ends ≡ unwritten → TookFront taken taken' text → Rose faults faults' → HandsOver taken taken' faults faults' status text ends
  Starved : ends ≡ starved → TookFront taken taken' text → faults' ≡ faults → HandsOver taken taken' faults faults' status text ends

-- the same of the puts that hand a text over
abbrev pub Puts : Option (List ℕ) → Option (List ℕ) → ℕ → ℕ → List ℕ → Result (Unit {0}) SinkFault → Type 0
Puts taken taken' faults faults' text (Ok _) = Took taken taken' text × (faults' ≡ faults)
Puts taken taken' faults faults' text (Err sink_fault.Failed) = TookFront taken taken' text × Rose faults faults'
Puts taken taken' faults faults' text (Err sink_fault.NoMemory) = TookFront taken taken' text × (faults' ≡ faults)
