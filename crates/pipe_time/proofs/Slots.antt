-- Where in the slots the equations find the instructions that are a width or a queue's length ago.
use Rattle.std.proofs.Common.{◌≡◌, ℕ, ◌+◌, List, [], refl}
use Rattle.wx_base.specs.Machine.{Between}
use Rattle.wx_base.specs.Recurrence.{ago, slot, fe_back, d_back, x_back, c_back}
use Rattle.pipe_time.proofs.Cases.{width_cases, queue_cases}

pub far_fe : (slots : List ℕ) (w : ℕ) → Between 1 2 w → slot slots w ≡ ago w (fe_back slots [])
far_fe slots = width_cases (λ w. slot slots w ≡ ago w (fe_back slots [])) refl refl

pub far_x : (slots : List ℕ) (w : ℕ) → Between 1 2 w → slot slots (10 + w) ≡ ago w (x_back slots [])
far_x slots = width_cases (λ w. slot slots (10 + w) ≡ ago w (x_back slots [])) refl refl

pub far_c : (slots : List ℕ) (w : ℕ) → Between 1 2 w → slot slots (13 + w) ≡ ago w (c_back slots [])
far_c slots = width_cases (λ w. slot slots (13 + w) ≡ ago w (c_back slots [])) refl refl

pub far_d : (slots : List ℕ) (q : ℕ) → Between 1 8 q → slot slots (2 + q) ≡ ago q (d_back slots [])
far_d slots = queue_cases (λ q. slot slots (2 + q) ≡ ago q (d_back slots [])) refl refl refl refl refl refl refl refl
