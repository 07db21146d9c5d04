-- Facts files and their fronts.
use Rattle.std.specs.Prelude.{◌≡◌, ℕ, ◌<◌, ◌≤◌, true, List, ◌++◌, length, take, Some}
use Rattle.ffx_facts.specs.Machine.{Element, State, is_whole, run, start}

-- the bytes are a facts file with these elements
pub record IsFile (bytes : List ℕ) (elements : List Element) : Type 0 where
  pub state : State
  pub read : run (Some start) bytes ≡ Some state
  pub whole : is_whole state ≡ true
  pub has : state.elements ≡ elements

-- some facts file begins with the bytes
pub record Begins (bytes : List ℕ) : Type 0 where
  pub more : List ℕ
  pub elements : List Element
  pub file : IsFile (bytes ++ more) elements

-- so many bytes are the longest front of the bytes with which a facts file begins
pub record IsLongestFront (bytes : List ℕ) (at : ℕ) : Type 0 where
  pub within : at ≤ length bytes
  pub begins : Begins (take at bytes)
  pub longest : (n : ℕ) → at < n → n ≤ length bytes → Begins (take n bytes) → ⊥

-- the bytes are no facts file, and this is their longest front with which one begins
pub record IsNoFile (bytes : List ℕ) (at : ℕ) : Type 0 where
  pub none : (elements : List Element) → IsFile bytes elements → ⊥
  pub front : IsLongestFront bytes at
