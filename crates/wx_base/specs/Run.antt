-- Runs of an image on the written machine, and how long they take. This project's own.
use Rattle.std.specs.Prelude.{◌≡◌, ◌≢◌, ℕ, zero, suc, ◌<◌, ◌^◌, Bool, false, not, if◌then◌else◌, List, [], ◌∷◌, map, slice_index, Option, Some, None, Result, Ok, Err}
use Rattle.wx_base.specs.declared.machine.Machine.{Machine}
use Rattle.wx_base.specs.declared.fact_kind.FactKind.{FactKind}
use Rattle.wx_base.specs.declared.fact_kind.FactKind.TheVariants.{Branch, Call, Return, Loop, Total}
use Rattle.wx_base.specs.declared.image.Image.{Image}
use Rattle.wx_base.specs.Image.{byte_of}
use Rattle.wx_base.specs.declared.step.Why.{Why}
use Rattle.wx_base.specs.State.{State, pc, Outcome, Next, Ended, Stopped}
use Rattle.wx_base.specs.Step.{current_word, step}
use Rattle.wx_base.specs.Cache.{Lines, IsCache, line_of, holds_line, accessed}
use Rattle.wx_base.specs.Recurrence.{Entry, Done, next, completion}
use Rattle.wx_base.specs.Flow.{flow_of}
use Rattle.wx_base.specs.Monitor.{Rules, Watch, first_watch, executed_at, judged, leaves}

-- a start: registers, flags and memory, and the instruction cache
pub record Start : Type 0 where
  pub state : State
  pub cache : Lines

-- The starts of a run of the image from an entry: any registers but pc, any flags, a memory that has the
-- image's bytes where its segments are and any bytes elsewhere, and any cache of the machine's shape.
pub record IsStart (machine : Machine) (image : Image) (entry : ℕ) (start : Start) : Type 0 where
  pub entered : start.state.registers pc ≡ entry
  pub words : (r : ℕ) → start.state.registers r < 2 ^ 32
  pub bytes : (address : ℕ) → start.state.memory address < 256
  pub loaded : (address byte : ℕ) → byte_of image address ≡ Some byte → start.state.memory address ≡ byte
  pub cached : IsCache machine.shape start.cache

-- how a run came to its end
pub data End : Type 0 where
  -- its last instruction ends it: a call of the supervisor, or a return without an open call
  Finished : End
  -- the machine stopped before an instruction
  Halted : Why → End
  -- the move to the next instruction breaks a rule
  Broken : FactKind → End

-- an instruction that a run executed: its address, and what the pipeline made of it
pub record Executed : Type 0 where
  pub address : ℕ
  pub done : Done

-- A run so far: where it is; what it has executed, the last instruction first; what it carries to be judged; and its end if it
-- has come to one.
pub record Run : Type 0 where
  pub state : State
  pub cache : Lines
  pub executed : List Executed
  pub watch : Watch
  pub end : Option End

-- what the pipeline made of the instructions, without their addresses
abbrev pub dones : List Executed → List Done
dones executed = map (λ e. e.done) executed

-- nothing was executed
abbrev pub begun : ℕ → Start → Run
begun entry start =
    record {
      state = start.state;
      cache = start.cache;
      executed = [];
      watch = first_watch entry;
      end = None;
    }

-- what the run carries when the machine looks at an instruction, or the rule that the move there breaks; a run's first
-- instruction is reached by no move
abbrev pub watch_before : Rules → List Executed → Watch → ℕ → Result Watch FactKind
watch_before rules [] watch to = Ok watch
watch_before rules (i ∷ executed) watch to = judged rules watch i.done.entry to

-- the same of the instruction that the run comes to
abbrev pub watch_at : Rules → Run → Result Watch FactKind
watch_at rules run = watch_before rules run.executed run.watch (run.state.registers pc)

-- the instruction at pc, as it is executed now
abbrev pub entry_at : Machine → Run → Bool → Bool → Entry
entry_at m run taken slow =
    record {
      word = current_word run.state;
      miss = not (holds_line m.shape run.cache (line_of m.shape (run.state.registers pc)));
      slow = slow;
      taken = taken;
    }

-- the run with this instruction executed, the state after it, and the end if it ends the run
abbrev pub extended : Machine → Run → Watch → Entry → State → Option End → Run
extended m run watch e state end =
    record {
      state = state;
      cache = accessed m.shape run.cache (line_of m.shape (run.state.registers pc));
      executed =
          record {
            address = run.state.registers pc;
            done = record { entry = e; times = next m [] (dones run.executed) e };
          } ∷ run.executed;
      watch = executed_at watch (run.state.registers pc);
      end = end;
    }

-- the end that an instruction makes which went on: a return without an open call ends the run
abbrev pub end_after : Run → Watch → Bool → Option End
end_after run watch taken =
    if leaves watch.frames (flow_of (current_word run.state) (run.state.registers pc)) taken then Some Finished else None

-- the run after the machine looked at the instruction at pc
abbrev pub after_outcome : Machine → Run → Watch → Outcome → Run
after_outcome m run watch (Next went) =
    extended m run watch (entry_at m run went.taken went.slow) went.state (end_after run watch went.taken)
after_outcome m run watch Ended = extended m run watch (entry_at m run false false) run.state (Some Finished)
after_outcome m run watch (Stopped why) = record run { end = Some (Halted why) }

-- the run after the move to pc was judged
abbrev pub after_judgement : Machine → Image → Run → Result Watch FactKind → Run
after_judgement m image run (Err breach) = record run { end = Some (Broken breach) }
after_judgement m image run (Ok watch) = after_outcome m run watch (step m image run.state)

-- one more step of a run; one that has ended stays as it is, so what the machine would do after a move that breaks a rule
-- belongs to no run
abbrev pub advanced : Machine → Image → Rules → Run → Option End → Run
advanced m image rules run (Some end) = run
advanced m image rules run None = after_judgement m image run (watch_at rules run)

-- The run of at most n instructions. It is shorter only where it has come to an end.
unfoldable pub run_of : Machine → Image → Rules → ℕ → Start → ℕ → Run
run_of m image rules entry start zero = begun entry start
run_of m image rules entry start (suc n) =
    let run = run_of m image rules entry start n in advanced m image rules run run.end

-- No move that was judged breaks a rule: those between the run's instructions and, where the machine stopped, the one to
-- where it stopped. A run that is cut has no judged move behind its last instruction.
abbrev pub Obeys : Run → Type 0
Obeys run = (breach : FactKind) → run.end ≢ Some (Broken breach)

-- how long it takes, in cycles
abbrev pub time_of : Run → ℕ
time_of run = completion [] (dones run.executed)

-- the address of the instruction executed last
abbrev pub last_address : Run → ℕ
last_address run = slice_index (map (λ e. e.address) run.executed) 0

-- the address at which a rule is broken: the head of the loop, which the move leads to, else the instruction that jumped
abbrev pub breach_address : Run → FactKind → ℕ
breach_address run Loop = run.state.registers pc
breach_address run Total = run.state.registers pc
breach_address run Branch = last_address run
breach_address run Call = last_address run
breach_address run Return = last_address run
