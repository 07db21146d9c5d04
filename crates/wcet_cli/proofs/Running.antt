-- Runs of a straight program: what has been executed is a front of its words, and takes no longer than if each fetch
-- missed.
use Rattle.std.proofs.Common.{◌≡◌, ℕ, zero, suc, ◌+◌, ◌*◌, ◌^◌, ◌<◌, ◌≤◌, ◌⊎◌, Bool, true, false, cond, ◌==◌, ◌&&◌, List, [], ◌∷◌, ◌++◌, length, map, reverse, Some, None, Result, Ok, Err, refl, sym, ap, ◌∙◌, subst, arith, inl, inr, length-append, append_assoc, le_trans}
use Rattle.std.proofs.lemmas.List.{reverse-append, map-append}
use Rattle.std.proofs.lemmas.Bool.{cond-true, eqb-true}
use Rattle.std.specs.List.{AllByRecursion}
use Rattle.wx_base.specs.declared.machine.Machine.{Machine}
use Rattle.wx_base.specs.Machine.{IsMachine}
use Rattle.wx_base.specs.Instruction.{Kind, AluImmediate, Svc, kind_of, condition, opcode, sets_flags, rn, rd, rotation, immediate, always}
use Rattle.wx_base.specs.declared.image.Image.{Image}
use Rattle.wx_base.specs.Image.{is_code_word}
use Rattle.wx_base.specs.declared.step.Why.TheVariants.{Fetch}
use Rattle.wx_base.specs.declared.step.Flags.{Flags}
use Rattle.wx_base.specs.Arithmetic.{passes}
use Rattle.wx_base.specs.Shifter.{rotated_immediate}
use Rattle.wx_base.specs.State.{State, pc, Outcome, Ended, Stopped}
use Rattle.wx_base.specs.Step.{alu_effect, current_word, step, executed}
use Rattle.wx_base.specs.declared.fact_kind.FactKind.{FactKind}
use Rattle.wx_base.specs.Monitor.{Rules, Frame, Watch, Function, last_of, moved_within, jumped, judged_in, judged}
use Rattle.wx_base.specs.Flow.{flow_of}
use Rattle.wx_base.specs.Recurrence.{Entry, Done, next, past_of, completion}
use Rattle.wx_base.specs.Vector.{Covers, IsWorse}
use Rattle.wx_base.specs.Run.{Start, IsStart, End, Broken, Finished, Executed, dones, Run, begun, run_of, Obeys, time_of, watch_before, watch_at, entry_at, after_outcome, after_judgement, advanced}
use Rattle.pipe_time.specs.Order.{Pairwise, WorseCompletesNoEarlier}
use Rattle.wcet_cli.specs.Straight.{origin, IsPlain, IsLast, bytes_of, address_behind, IsProgram, missing, bound_of, image_of, EachRunTakesAtMost, EachRunObeys}
use Rattle.wcet_cli.proofs.SoFar.{entries, entries_push, length_bytes}
use Rattle.wcet_cli.proofs.Placed.{Loaded, code_word_there, word_there}

-- more instructions are complete no earlier
one_more : (m : Machine) (e : Entry) (es : List Entry) → completion [] (past_of m [] es) ≤ completion [] (past_of m [] (e ∷ es))
unfolding past_of next
one_more m e es = omega arith

some_more : (m : Machine) (xs es : List Entry) → completion [] (past_of m [] es) ≤ completion [] (past_of m [] (xs ++ es))
some_more m [] es = omega arith
some_more m (x ∷ xs) es = le_trans (some_more m xs es) (one_more m x (xs ++ es))

entries_append : (done left : List ℕ) → entries (done ++ left) ≡ entries left ++ entries done
entries_append done left = ap reverse (map-append missing done left) ∙ reverse-append (map missing done) (map missing left)

front_is_sooner : (m : Machine) (program done left : List ℕ) → program ≡ done ++ left → completion [] (past_of m [] (entries done)) ≤ bound_of m program
front_is_sooner m program done left p =
    subst (λ es. completion [] (past_of m [] (entries done)) ≤ completion [] (past_of m [] es))
    (sym (ap entries p ∙ entries_append done left))
    (some_more m (entries left) (entries done))

-- what a word of the program is: a plain one with another behind it, or the last
data Role (word : ℕ) (left : List ℕ) : Type 0 where
  Inner : (word' : ℕ) (left' : List ℕ) → left ≡ word' ∷ left' → IsPlain word → Role word left
  Final : left ≡ [] → IsLast word → Role word left

no_word : (done : List ℕ) (word : ℕ) (left : List ℕ) → done ++ word ∷ left ≡ [] → ⊥
no_word done word left e = let n = ap length e in let k = length-append done (word ∷ left) in omega arith

role : (done : List ℕ) (word : ℕ) (left body : List ℕ) (last : ℕ) → done ++ word ∷ left ≡ body ++ last ∷ [] → AllByRecursion IsPlain body → IsLast last → Role word left
role [] word left [] last e plain ends = let w : word ≡ last = cc in Final (cc) (subst IsLast (sym w) ends)
role [] word left (b ∷ []) last e plain ends = let w : word ≡ b = cc in Inner last [] (cc) (subst IsPlain (sym w) plain.0)
role [] word left (b ∷ c ∷ body) last e plain ends = let w : word ≡ b = cc in Inner c (body ++ last ∷ []) (cc) (subst IsPlain (sym w) plain.0)
role (d ∷ done) word left [] last e plain ends = let n : done ++ word ∷ left ≡ [] = cc in absurd (no_word done word left n)
role (d ∷ done) word left (b ∷ body) last e plain ends =
    let n : done ++ word ∷ left ≡ body ++ last ∷ [] = cc in role done word left body last n plain.1 ends

-- the instruction did not jump
abbrev IsQuiet : Executed → Type 0
IsQuiet i = i.done.entry.taken ≡ false

-- what was executed: the words done, and each entry as its word says, with a fetch that misses or not
record HasDone (m : Machine) (done : List ℕ) (executed : List Executed) : Type 0 where
  entered : List Entry
  past_is : dones executed ≡ past_of m [] entered
  worse : Pairwise IsWorse (entries done) entered
  quiet : AllByRecursion IsQuiet executed

-- the run goes on with a word behind the words done
record Going (m : Machine) (program : List ℕ) (memory : ℕ → ℕ) (run : Run) : Type 0 where
  done : List ℕ
  word : ℕ
  left : List ℕ
  program_is : program ≡ done ++ word ∷ left
  goes_on : run.end ≡ None
  at : run.state.registers pc ≡ address_behind done
  same : run.state.memory ≡ memory
  behind : HasDone m done run.executed

-- the run has come to its end, behind the words done; no rule ended it where no function is listed
record Over (m : Machine) (rules : Rules) (program : List ℕ) (run : Run) : Type 0 where
  done : List ℕ
  left : List ℕ
  program_is : program ≡ done ++ left
  end : End
  ended : run.end ≡ Some end
  calm : rules.functions ≡ [] → (breach : FactKind) → end ≡ Broken breach → ⊥
  behind : HasDone m done run.executed

abbrev Stands : Machine → Rules → List ℕ → (ℕ → ℕ) → Run → Type 0
Stands m rules program memory run = Going m program memory run ⊎ Over m rules program run

at_start : (m : Machine) (program : List ℕ) (start : Start) (word : ℕ) (left : List ℕ) → program ≡ word ∷ left → start.state.registers pc ≡ origin → Going m program start.state.memory (begun origin start)
unfolding past_of
at_start m program start word left p e = record {
  done = [];
  word = word;
  left = left;
  program_is = p;
  goes_on = refl;
  at = e;
  same = refl;
  behind = record { entered = []; past_is = refl; worse = tt; quiet = tt };
}

-- one more word
executed_more : (m : Machine) (done : List ℕ) (word : ℕ) (past : List Executed) (address : ℕ) (e : Entry) → HasDone m done past → e.word ≡ word → e.slow ≡ false → e.taken ≡ false
    → HasDone m (done ++ word ∷ []) (record { address = address; done = record { entry = e; times = next m [] (dones past) e } } ∷ past)
unfolding past_of
executed_more m done word past address e x w s t = record {
  entered = e ∷ x.entered;
  past_is = ap (λ (p : List Done). record { entry = e; times = next m [] p e } ∷ p) x.past_is;
  worse = subst (λ es. Pairwise IsWorse es (e ∷ x.entered)) (sym (entries_push done word)) (is_worse, x.worse);
  quiet = (t, x.quiet);
}
  where
    is_worse : IsWorse (missing word) e
    is_worse = record { word = sym w; taken = sym t; miss = λ h. refl; slow = λ h. cc }

-- where no function is listed, a move from an instruction that did not jump breaks no rule
quiet_move : (rules : Rules) (frames : List Frame) (totals : ℕ → ℕ) (e : Entry) (to : ℕ) → rules.functions ≡ [] → e.taken ≡ false → (w : Watch) × (judged_in rules frames totals e to ≡ Ok w)
quiet_move rules [] totals e to f t = (_, refl)
quiet_move rules (frame ∷ callers) totals e to f t = (
  record { frames = frame ∷ callers; totals = totals },
  ap (λ (b : Bool). cond b (jumped rules frame callers totals (flow_of e.word (last_of frame)) to) (moved_within rules.functions frame callers totals to)) t
      ∙ ap (λ (fs : List Function). moved_within fs frame callers totals to) f,
)

no_breach : (rules : Rules) (past : List Executed) (watch : Watch) (to : ℕ) (breach : FactKind) → rules.functions ≡ [] → AllByRecursion IsQuiet past → watch_before rules past watch to ≡ Err breach → ⊥
unfolding judged
no_breach rules [] watch to breach f quiet e = let g : Ok watch ≡ Err breach = e in cc
no_breach rules (i ∷ past) watch to breach f quiet e =
    let ok = quiet_move rules watch.frames watch.totals i.done.entry to f quiet.0 in
    let g : Ok ok.0 ≡ Err breach = sym ok.1 ∙ e in
    cc

step_is : (m : Machine) (image : Image) (state : State) (word : ℕ) (kind : Kind) → is_code_word image (state.registers pc) ≡ true → current_word state ≡ word → kind_of word ≡ Some kind → step m image state ≡ executed m image state word (Some kind)
unfolding step
step_is m image state word kind code w k =
    ap (λ (b : Bool). cond b (executed m image state (current_word state) (kind_of (current_word state))) (Stopped Fetch)) code
    ∙ ap (λ (x : ℕ). executed m image state x (kind_of x)) w ∙ ap (executed m image state word) k

advance_is : (m : Machine) (image : Image) (rules : Rules) (run : Run) (watch : Watch) (outcome : Outcome) → run.end ≡ None → watch_at rules run ≡ Ok watch → step m image run.state ≡ outcome → advanced m image rules run run.end ≡ after_outcome m run watch outcome
advance_is m image rules run watch outcome e f s =
    ap (advanced m image rules run) e ∙ ap (after_judgement m image run) f ∙ ap (after_outcome m run watch) s

break_is : (m : Machine) (image : Image) (rules : Rules) (run : Run) (why : FactKind) → run.end ≡ None → watch_at rules run ≡ Err why → advanced m image rules run run.end ≡ record run { end = Some (Broken why) }
break_is m image rules run why e f = ap (advanced m image rules run) e ∙ ap (after_judgement m image run) f

-- what a plain word makes of the state
abbrev plain_next : State → ℕ → Outcome
plain_next state word =
    alu_effect state (opcode word) (sets_flags word) (rn word) (rd word)
    (rotated_immediate (immediate word) (rotation word) state.flags.c)

first_of_four : (a b c d : Bool) → (a && b && c && d) ≡ true → a ≡ true
first_of_four true b c d e = refl
first_of_four false b c d e = e

always_passes : (cond : ℕ) (flags : Flags) → (cond == always) ≡ true → passes cond flags ≡ true
unfolding passes
always_passes cond flags e = ap (λ c. passes c flags) (eqb-true cond always e)

plain_executes : (m : Machine) (image : Image) (state : State) (word : ℕ) → IsPlain word → executed m image state word (Some AluImmediate) ≡ plain_next state word
plain_executes m image state word p =
    cond-true _ (plain_next state word) _ (always_passes (condition word) state.flags (first_of_four _ _ _ _ p.plain))

last_executes : (m : Machine) (image : Image) (state : State) (word : ℕ) → IsLast word → executed m image state word (Some Svc) ≡ Ended
last_executes m image state word p = cond-true _ Ended _ (always_passes (condition word) state.flags p.sure)

goes_on_by : (m : Machine) (program : List ℕ) (memory : ℕ → ℕ) (run : Run) (watch : Watch) (g : Going m program memory run) (word' : ℕ) (left' : List ℕ) → 4 * length program ≤ 16777216 → g.left ≡ word' ∷ left' → current_word run.state ≡ g.word → Going m program memory (after_outcome m run watch (plain_next run.state g.word))
unfolding alu_effect
goes_on_by m program memory run watch g word' left' small l w =
    let count : length program ≡ length g.done + length (g.word ∷ g.left) = ap length g.program_is ∙ length-append g.done (g.word ∷ g.left) in
    let longer : length (g.done ++ g.word ∷ []) ≡ length g.done + 1 = length-append g.done (g.word ∷ []) in
    let at = g.at in
    record {
      done = g.done ++ g.word ∷ [];
      word = word';
      left = left';
      program_is = g.program_is ∙ ap (λ xs. g.done ++ g.word ∷ xs) l ∙ sym (append_assoc g.done (g.word ∷ []) (word' ∷ left'));
      goes_on = refl;
      at = omega arith;
      same = g.same;
      behind = executed_more m g.done g.word run.executed (run.state.registers pc) (entry_at m run false false) g.behind w refl refl;
    }

append_nothing : (xs : List ℕ) → xs ≡ xs ++ []
append_nothing [] = refl
append_nothing (x ∷ xs) = ap (λ ys. x ∷ ys) (append_nothing xs)

ends_by : (m : Machine) (rules : Rules) (program : List ℕ) (memory : ℕ → ℕ) (run : Run) (watch : Watch) (g : Going m program memory run) → g.left ≡ [] → current_word run.state ≡ g.word → Over m rules program (after_outcome m run watch Ended)
ends_by m rules program memory run watch g l w = record {
  done = g.done ++ g.word ∷ [];
  left = [];
  program_is = g.program_is ∙ ap (λ xs. g.done ++ g.word ∷ xs) l ∙ append_nothing (g.done ++ g.word ∷ []);
  end = Finished;
  ended = refl;
  calm = λ none breach e. finished e;
  behind = executed_more m g.done g.word run.executed (run.state.registers pc) (entry_at m run false false) g.behind w refl refl;
}
  where
    finished : {breach : FactKind} → Finished ≡ Broken breach → ⊥
    finished e = cc

-- a move was judged to break a rule
broken_by : (m : Machine) (rules : Rules) (program : List ℕ) (memory : ℕ → ℕ) (run : Run) (breach : FactKind) (g : Going m program memory run) → watch_at rules run ≡ Err breach → Over m rules program (record run { end = Some (Broken breach) })
broken_by m rules program memory run breach g f = record {
  done = g.done;
  left = g.word ∷ g.left;
  program_is = g.program_is;
  end = Broken breach;
  ended = refl;
  calm = λ none other e. no_breach rules run.executed run.watch (run.state.registers pc) breach none g.behind.quiet f;
  behind = g.behind;
}

fits_of : (word : ℕ) (left : List ℕ) → Role word left → word < 2 ^ 32
fits_of word left (Inner word' left' l p) = p.fits
fits_of word left (Final l p) = p.fits

-- the instruction is looked at
looked_at : (m : Machine) (rules : Rules) (program : List ℕ) (memory : ℕ → ℕ) (run : Run) (watch : Watch) (g : Going m program memory run) → 4 * length program ≤ 16777216 → current_word run.state ≡ g.word → is_code_word (image_of program) (run.state.registers pc) ≡ true → Role g.word g.left → watch_at rules run ≡ Ok watch → Stands m rules program memory (advanced m (image_of program) rules run run.end)
looked_at m rules program memory run watch g small w code (Inner word' left' l p) f =
    subst (Stands m rules program memory)
    (sym (advance_is m (image_of program) rules run watch _ g.goes_on f (step_is m (image_of program) run.state g.word AluImmediate code w p.kind ∙ plain_executes m (image_of program) run.state g.word p)))
    (inl (goes_on_by m program memory run watch g word' left' small l w))
looked_at m rules program memory run watch g small w code (Final l p) f =
    subst (Stands m rules program memory)
    (sym (advance_is m (image_of program) rules run watch _ g.goes_on f (step_is m (image_of program) run.state g.word Svc code w p.kind ∙ last_executes m (image_of program) run.state g.word p)))
    (inr (ends_by m rules program memory run watch g l w))

-- the move to it is judged first
judged_first : (m : Machine) (rules : Rules) (program : List ℕ) (memory : ℕ → ℕ) (run : Run) (g : Going m program memory run) → 4 * length program ≤ 16777216 → current_word run.state ≡ g.word → is_code_word (image_of program) (run.state.registers pc) ≡ true → Role g.word g.left → (judgement : Result Watch FactKind) → watch_at rules run ≡ judgement → Stands m rules program memory (advanced m (image_of program) rules run run.end)
judged_first m rules program memory run g small w code r (Ok watch) f = looked_at m rules program memory run watch g small w code r f
judged_first m rules program memory run g small w code r (Err breach) f =
    subst (Stands m rules program memory) (sym (break_is m (image_of program) rules run breach g.goes_on f)) (inr (broken_by m rules program memory run breach g f))

stands_on : (m : Machine) (rules : Rules) (program body : List ℕ) (last : ℕ) (memory : ℕ → ℕ) (run : Run) → program ≡ body ++ last ∷ [] → AllByRecursion IsPlain body → IsLast last → 4 * length program ≤ 16777216 → Loaded (image_of program) memory → Stands m rules program memory run → Stands m rules program memory (advanced m (image_of program) rules run run.end)
stands_on m rules program body last memory run e plain ends small loaded (inl g) =
    let r : Role g.word g.left = role g.done g.word g.left body last (sym g.program_is ∙ e) plain ends in
    let w : current_word run.state ≡ g.word =
    word_there program g.done g.word g.left run.state.memory (run.state.registers pc) g.program_is (subst (Loaded (image_of program)) (sym g.same) loaded) small (fits_of g.word g.left r) g.at
    in
    judged_first m rules program memory run g small w (code_word_there program g.done g.word g.left (run.state.registers pc) g.program_is g.at) r
    (watch_at rules run) refl
stands_on m rules program body last memory run e plain ends small loaded (inr o) =
    subst (Stands m rules program memory) (sym (ap (advanced m (image_of program) rules run) o.ended)) (inr o)

first_word : (body : List ℕ) (last : ℕ) → (word : ℕ) × (left : List ℕ) × (body ++ last ∷ [] ≡ word ∷ left)
first_word [] last = (last, [], refl)
first_word (b ∷ body) last = (b, body ++ last ∷ [], refl)

each_run_stands : (m : Machine) (rules : Rules) (program body : List ℕ) (last : ℕ) (start : Start) (n : ℕ) → program ≡ body ++ last ∷ [] → AllByRecursion IsPlain body → IsLast last → 4 * length program ≤ 16777216 → IsStart m (image_of program) origin start → Stands m rules program start.state.memory (run_of m (image_of program) rules origin start n)
unfolding run_of
each_run_stands m rules program body last start zero e plain ends small s =
    let f = first_word body last in inl (at_start m program start f.0 f.1 (e ∙ f.2) s.entered)
each_run_stands m rules program body last start (suc n) e plain ends small s =
    stands_on m rules program body last start.state.memory (run_of m (image_of program) rules origin start n) e plain ends small
    (record { each = s.loaded })
    (each_run_stands m rules program body last start n e plain ends small s)

nothing_covers : Covers [] []
nothing_covers = record { each = λ k. omega arith }

executed_in_time : (m : Machine) (program done left : List ℕ) (past : List Executed) → IsMachine m → WorseCompletesNoEarlier → program ≡ done ++ left → HasDone m done past → completion [] (dones past) ≤ bound_of m program
executed_in_time m program done left past ok law p x =
    subst (λ (y : List Done). completion [] y ≤ bound_of m program) (sym x.past_is)
    (le_trans (law m [] [] (entries done) x.entered ok nothing_covers x.worse) (front_is_sooner m program done left p))

stands_in_time : (m : Machine) (rules : Rules) (program : List ℕ) (memory : ℕ → ℕ) (run : Run) → IsMachine m → WorseCompletesNoEarlier → Stands m rules program memory run → time_of run ≤ bound_of m program
stands_in_time m rules program memory run ok law (inl g) = executed_in_time m program g.done (g.word ∷ g.left) run.executed ok law g.program_is g.behind
stands_in_time m rules program memory run ok law (inr o) = executed_in_time m program o.done o.left run.executed ok law o.program_is o.behind

-- a run obeys rules that list no function
stands_obeying : (m : Machine) (rules : Rules) (program : List ℕ) (memory : ℕ → ℕ) (run : Run) → rules.functions ≡ [] → Stands m rules program memory run → Obeys run
stands_obeying m rules program memory run none (inl g) why e = going (sym g.goes_on ∙ e)
  where
    going : {end : End} → None ≡ Some end → ⊥
    going h = cc
stands_obeying m rules program memory run none (inr o) why e = o.calm none why (over (sym o.ended ∙ e))
  where
    over : {a b : End} → Some a ≡ Some b → a ≡ b
    over h = cc

module _ (m : Machine) (bytes program : List ℕ) (size : length bytes ≤ 16777216) (p : IsProgram bytes program) where
  few : 4 * length program ≤ 16777216
  few =
      let whole : length bytes ≡ length (bytes_of program) + length p.rest = ap length p.spelled ∙ length-append (bytes_of program) p.rest in
      let each = length_bytes program in
      omega arith

  -- Every run of a straight program takes at most as long as its words do if each fetch misses.
  pub every_run_ends_within : IsMachine m → WorseCompletesNoEarlier → EachRunTakesAtMost m (image_of program) origin (bound_of m program)
  every_run_ends_within ok law rules start n s =
      stands_in_time m rules program start.state.memory _ ok law
      (each_run_stands m rules program p.body p.last start n p.words_are p.plain p.ends few s)

  -- And it obeys rules that list no function.
  pub every_run_obeys : EachRunObeys m (image_of program) origin
  every_run_obeys rules start n none s =
      stands_obeying m rules program start.state.memory _ none
      (each_run_stands m rules program p.body p.last start n p.words_are p.plain p.ends few s)
