-- What a step that goes on is: an instruction that is passed over, or the effect of its row.
use Rattle.std.proofs.Common.{◌≡◌, ℕ, ◌%◌, Bool, true, false, cond, not, ◌==◌, List, [], ◌∷◌, refl, sym, ap, ◌∙◌}
use Rattle.std.specs.Prelude.{Option, Some, None, find}
use Rattle.wx_base.specs.declared.machine.Machine.{Machine}
use Rattle.wx_base.specs.declared.image.Image.{Image}
use Rattle.wx_base.specs.declared.step.Why.TheVariants.{Fetch, Align, Store}
use Rattle.wx_base.specs.declared.step.Transfer.{Transfer}
use Rattle.wx_base.specs.declared.step.BlockTransfer.{BlockTransfer}
use Rattle.wx_base.specs.Image.{is_code_word}
use Rattle.wx_base.specs.Instruction.{Kind, kind_of, kinds, matches, condition}
use Rattle.wx_base.specs.Arithmetic.{passes}
use Rattle.wx_base.specs.State.{State, Went, Next, Stopped, pc, goes_on}
use Rattle.wx_base.specs.Step.{current_word, effect, executed, step}
use Rattle.wx_base.specs.Transfer.{address_of, size_of, meets_code, load_effect, store_effect, transfer_effect, block_first, block_size, block_load_effect, block_store_effect, block_effect}

pub of_next : (a b : Went) → Next a ≡ Next b → a ≡ b
of_next a b e = cc

-- the instruction at pc goes on: its row, and what that does
pub data GoesBy (machine : Machine) (image : Image) (state : State) (word : ℕ) (went : Went) : Type 0 where
  passed_over : (kind : Kind) → kind_of word ≡ Some kind → passes (condition word) state.flags ≡ false
      → goes_on state state.registers state.flags false ≡ Next went → GoesBy machine image state word went
  done : (kind : Kind) → kind_of word ≡ Some kind → effect machine image state word kind ≡ Next went → GoesBy machine image state word went

by_test : (machine : Machine) (image : Image) (state : State) (word : ℕ) (went : Went) (kind : Kind) → kind_of word ≡ Some kind → (b : Bool) → passes (condition word) state.flags ≡ b
    → cond b (effect machine image state word kind) (goes_on state state.registers state.flags false) ≡ Next went → GoesBy machine image state word went
by_test machine image state word went kind is true test e = done kind is e
by_test machine image state word went kind is false test e = passed_over kind is test e

by_row : (machine : Machine) (image : Image) (state : State) (word : ℕ) (went : Went) (kind : Option Kind) → kind_of word ≡ kind → executed machine image state word kind ≡ Next went → GoesBy machine image state word went
by_row machine image state word went None is e = cc
by_row machine image state word went (Some kind) is e = by_test machine image state word went kind is (passes (condition word) state.flags) refl e

-- a step that goes on is at a word of code
pub record Goes (machine : Machine) (image : Image) (state : State) (went : Went) : Type 0 where
  pub code : is_code_word image (state.registers pc) ≡ true
  pub by : GoesBy machine image state (current_word state) went

by_code : (machine : Machine) (image : Image) (state : State) (went : Went) (b : Bool) → is_code_word image (state.registers pc) ≡ b
    → cond b (executed machine image state (current_word state) (kind_of (current_word state))) (Stopped Fetch) ≡ Next went → Goes machine image state went
by_code machine image state went true is e = record { code = is; by = by_row machine image state (current_word state) went (kind_of (current_word state)) refl e }
by_code machine image state went false is e = cc

pub goes : (machine : Machine) (image : Image) (state : State) (went : Went) → step machine image state ≡ Next went → Goes machine image state went
unfolding step
goes machine image state went e = by_code machine image state went (is_code_word image (state.registers pc)) refl e

-- what a search finds passes the test
found_at : {X : Type 0} (test : X → Bool) (y x : X) (rest : Option X) (b : Bool) → test y ≡ b → cond b (Some y) rest ≡ Some x → (rest ≡ Some x → test x ≡ true) → test x ≡ true
found_at test y x rest true is found further = let same : y ≡ x = cc in sym (ap test same) ∙ is
found_at test y x rest false is found further = further found

pub found_passes : {X : Type 0} (test : X → Bool) (xs : List X) (x : X) → find test xs ≡ Some x → test x ≡ true
found_passes test [] x e = cc
found_passes test (y ∷ ys) x e = found_at test y x (find test ys) (test y) refl e (found_passes test ys x)

-- a word has what its row asks
pub row_matches : (word : ℕ) (kind : Kind) → kind_of word ≡ Some kind → matches kind word ≡ true
unfolding kind_of
row_matches word kind e = found_passes (λ k. matches k word) kinds kind e

-- a transfer that goes on loads, or stores where no code is
pub data Transfers (machine : Machine) (image : Image) (state : State) (t : Transfer) (went : Went) : Type 0 where
  loads : t.load ≡ true → load_effect machine state t (address_of state.registers t) ≡ Next went → Transfers machine image state t went
  stores : t.load ≡ false → meets_code image (address_of state.registers t) (size_of t.datum) ≡ false
      → store_effect machine state t (address_of state.registers t) ≡ Next went → Transfers machine image state t went

pub transfers : (machine : Machine) (image : Image) (state : State) (t : Transfer) (went : Went) → transfer_effect machine image state t ≡ Next went → Transfers machine image state t went
unfolding transfer_effect
transfers machine image state t went e = aligned (not (address_of state.registers t % size_of t.datum == 0)) t.load (meets_code image (address_of state.registers t) (size_of t.datum)) refl refl e
  where
    aligned : (off load meets : Bool) → t.load ≡ load → meets_code image (address_of state.registers t) (size_of t.datum) ≡ meets
        → cond off (Stopped Align) (cond load (load_effect machine state t (address_of state.registers t)) (cond meets (Stopped Store) (store_effect machine state t (address_of state.registers t)))) ≡ Next went
        → Transfers machine image state t went
    aligned true load meets l m f = cc
    aligned false true meets l m f = loads l f
    aligned false false true l m f = cc
    aligned false false false l m f = stores l m f

-- and so does a block
pub data Moves (machine : Machine) (image : Image) (state : State) (t : BlockTransfer) (went : Went) : Type 0 where
  block_loads : t.load ≡ true → block_load_effect machine state t (block_first state.registers t) ≡ Next went → Moves machine image state t went
  block_stores : t.load ≡ false → meets_code image (block_first state.registers t) (block_size t) ≡ false
      → block_store_effect machine state t (block_first state.registers t) ≡ Next went → Moves machine image state t went

pub moves : (machine : Machine) (image : Image) (state : State) (t : BlockTransfer) (went : Went) → block_effect machine image state t ≡ Next went → Moves machine image state t went
unfolding block_effect
moves machine image state t went e = aligned (not (state.registers t.base % 4 == 0)) t.load (meets_code image (block_first state.registers t) (block_size t)) refl refl e
  where
    aligned : (off load meets : Bool) → t.load ≡ load → meets_code image (block_first state.registers t) (block_size t) ≡ meets
        → cond off (Stopped Align) (cond load (block_load_effect machine state t (block_first state.registers t)) (cond meets (Stopped Store) (block_store_effect machine state t (block_first state.registers t)))) ≡ Next went
        → Moves machine image state t went
    aligned true load meets l m f = cc
    aligned false true meets l m f = block_loads l f
    aligned false false true l m f = cc
    aligned false false false l m f = block_stores l m f
