-- What is known while the words are read one after the other.
use Rattle.std.proofs.Common.{◌≡◌, ℕ, ◌+◌, ◌*◌, ◌<◌, ◌≤◌, List, [], ◌∷◌, ◌++◌, length, map, reverse, refl, sym, ap, ◌∙◌, ◌^◌, subst, ⊎_elim, arith, append_assoc, length-append}
use Rattle.std.proofs.lemmas.List.{reverse-append, map_push, get_or-replicate, get_or_past}
use Rattle.std.proofs.lemmas.Bool.{cases_lt}
use Rattle.std.proofs.lemmas.Grind.{flat_map-append}
use Rattle.std.proofs.lemmas.List.Concat.{flat_map-cons}
use Rattle.std.specs.List.{AllByRecursion}
use Rattle.wx_base.specs.declared.machine.Machine.{Machine}
use Rattle.wx_base.specs.declared.times.Times.{Times}
use Rattle.wx_base.specs.Bits.{bytes_of_word}
use Rattle.wx_base.specs.Machine.{IsMachine}
use Rattle.wx_base.specs.Recurrence.{Entry, Done, next, window, past_of, completion}
use Rattle.wx_base.specs.Vector.{AreWithin, zero_slots}
use Rattle.pipe_time.specs.Windows.{WindowGivesTimes, WindowGivesWindow, NothingIsZero}
use Rattle.wcet_cli.specs.Straight.{origin, IsPlain, IsLast, bytes_of, address_behind, IsProgram, IsCutOff, IsForeign, missing, bound_of}

-- the entries of some words, the last one first
abbrev pub entries : List ℕ → List Entry
entries words = reverse (map missing words)

-- plain words were read up to the rest, and the vector is the window on them
pub record SoFar (m : Machine) (bytes rest : List ℕ) (addr : ℕ) (slots : List ℕ) : Type 0 where
  pub body : List ℕ
  pub spelled : bytes ≡ bytes_of body ++ rest
  pub plain : AllByRecursion IsPlain body
  pub at : addr ≡ address_behind body
  pub slots_are : slots ≡ window m [] (past_of m [] (entries body))
  pub within : AreWithin (4016 * length body) slots

plain_push : (words : List ℕ) (word : ℕ) → AllByRecursion IsPlain words → IsPlain word → AllByRecursion IsPlain (words ++ word ∷ [])
plain_push [] word p q = (q, tt)
plain_push (w ∷ words) word p q = (p.0, plain_push words word p.1 q)

pub entries_push : (words : List ℕ) (word : ℕ) → entries (words ++ word ∷ []) ≡ missing word ∷ entries words
entries_push words word = ap reverse (map_push missing words word) ∙ reverse-append (map missing words) (missing word ∷ [])

bytes_push : (words : List ℕ) (word : ℕ) → bytes_of (words ++ word ∷ []) ≡ bytes_of words ++ bytes_of_word word
bytes_push words word = flat_map-append bytes_of_word words (word ∷ [])

-- four bytes for each word
pub length_bytes : (words : List ℕ) → length (bytes_of words) ≡ 4 * length words
length_bytes [] = refl
length_bytes (w ∷ words) =
    let rest = length_bytes words in
    ap length (flat_map-cons bytes_of_word w words) ∙ omega (arith, length-append (bytes_of_word w) (bytes_of words))

zero_within : AreWithin 0 zero_slots
zero_within = record {
  each = λ k. ⊎_elim
      (λ (h : k < 35). rw (get_or-replicate {A = ℕ} 35 k 0 0 h) (omega arith))
      (λ (h : 35 ≤ k). rw (get_or_past zero_slots k 0 h) (omega arith))
      (cases_lt k 35);
}

pub begin : (m : Machine) (bytes slots : List ℕ) → NothingIsZero → slots ≡ zero_slots → SoFar m bytes bytes origin slots
unfolding past_of
begin m bytes slots zero e = record {
  body = [];
  spelled = refl;
  plain = tt;
  at = refl;
  slots_are = e ∙ sym (zero m);
  within = subst (AreWithin 0) (sym e) zero_within;
}

-- one more plain word
pub more : (m : Machine) (bytes rest behind : List ℕ) (addr word : ℕ) (slots next_slots : List ℕ) (times : Times) → IsMachine m → WindowGivesTimes → WindowGivesWindow → SoFar m bytes rest addr slots → rest ≡ bytes_of_word word ++ behind → IsPlain word → times ≡ next m slots [] (missing word) → next_slots ≡ window m slots (record { entry = missing word; times = times } ∷ []) → ((bound : ℕ) → AreWithin bound slots → AreWithin (bound + 4016) next_slots) → SoFar m bytes behind (addr + 4) next_slots
unfolding past_of
more m bytes rest behind addr word slots next_slots times ok gives_times gives_window s r p t n grows =
    let past = past_of m [] (entries s.body) in
    let body = s.body ++ word ∷ [] in
    let count : length body ≡ length s.body + 1 = length-append s.body (word ∷ []) in
    let at = s.at in
    let times_are : times ≡ next m [] past (missing word) =
    t ∙ ap (λ v. next m v [] (missing word)) s.slots_are ∙ gives_times m [] past (missing word) ok
    in
    let done : Done = record { entry = missing word; times = times } in
    let slots_are : next_slots ≡ window m [] (done ∷ past) =
    n ∙ ap (λ v. window m v (done ∷ [])) s.slots_are ∙ gives_window m [] past done ok
    in
    let past_is : past_of m [] (entries body) ≡ done ∷ past =
    ap (past_of m []) (entries_push s.body word) ∙ ap (λ x. record { entry = missing word; times = x } ∷ past) (sym times_are)
    in
    record {
      body = body;
      spelled = s.spelled ∙ ap (λ x. bytes_of s.body ++ x) r ∙ sym (append_assoc (bytes_of s.body) (bytes_of_word word) behind) ∙ ap (λ x. x ++ behind) (sym (bytes_push s.body word));
      plain = plain_push s.body word s.plain p;
      at = omega arith;
      slots_are = slots_are ∙ ap (window m []) (sym past_is);
      within = rw (count, mul_succ) (grows (4016 * length s.body) s.within);
    }
  where
    mul_succ : (k : ℕ) → 4016 * (k + 1) ≡ 4016 * k + 4016
    mul_succ k = omega arith

-- the word that ends the program
pub ended : (m : Machine) (bytes rest behind : List ℕ) (addr word : ℕ) (slots : List ℕ) (times : Times) → IsMachine m → WindowGivesTimes → SoFar m bytes rest addr slots → rest ≡ bytes_of_word word ++ behind → IsLast word → times ≡ next m slots [] (missing word) → (program : List ℕ) × IsProgram bytes program × (times.c ≡ bound_of m program)
unfolding past_of
ended m bytes rest behind addr word slots times ok gives_times s r p t =
    let past = past_of m [] (entries s.body) in
    let program = s.body ++ word ∷ [] in
    let times_are : times ≡ next m [] past (missing word) =
    t ∙ ap (λ v. next m v [] (missing word)) s.slots_are ∙ gives_times m [] past (missing word) ok
    in
    let bound : bound_of m program ≡ times.c =
    ap (λ es. completion [] (past_of m [] es)) (entries_push s.body word) ∙ ap (λ (x : Times). x.c) (sym times_are)
    in (
      program,
      record {
        body = s.body;
        last = word;
        rest = behind;
        words_are = refl;
        spelled = s.spelled ∙ ap (λ x. bytes_of s.body ++ x) r ∙ sym (append_assoc (bytes_of s.body) (bytes_of_word word) behind) ∙ ap (λ x. x ++ behind) (sym (bytes_push s.body word));
        plain = s.plain;
        ends = p;
      },
      sym bound,
    )

-- the rest is too short for a word
pub cut_off : (m : Machine) (bytes rest : List ℕ) (addr : ℕ) (slots : List ℕ) → SoFar m bytes rest addr slots → length rest < 4 → IsCutOff bytes addr
cut_off m bytes rest addr slots s short = record { body = s.body; rest = rest; spelled = s.spelled; plain = s.plain; short = short; at = s.at }

-- a word that is no instruction of a straight program
pub foreign : (m : Machine) (bytes rest behind : List ℕ) (addr word : ℕ) (slots : List ℕ) → SoFar m bytes rest addr slots → rest ≡ bytes_of_word word ++ behind → word < 2 ^ 32 → (IsPlain word → ⊥) → (IsLast word → ⊥) → IsForeign bytes addr word
foreign m bytes rest behind addr word slots s r small plain last = record {
  body = s.body;
  rest = behind;
  spelled = s.spelled ∙ ap (λ x. bytes_of s.body ++ x) r ∙ sym (append_assoc (bytes_of s.body) (bytes_of_word word) behind);
  plain = s.plain;
  fits = small;
  not_plain = plain;
  not_last = last;
  at = s.at;
}

-- there is room for the address and the times of one more word
pub record HasRoom (addr : ℕ) (slots : List ℕ) : Type 0 where
  pub address : addr + 4 < 2 ^ 32
  pub times : AreWithin (2 ^ 62) slots

pub has_room : (m : Machine) (bytes rest behind : List ℕ) (addr word : ℕ) (slots : List ℕ) → SoFar m bytes rest addr slots → rest ≡ bytes_of_word word ++ behind → length bytes ≤ 16777216 → HasRoom addr slots
has_room m bytes rest behind addr word slots s r small =
    let at = s.at in
    let whole : length bytes ≡ length (bytes_of s.body) + length rest = ap length s.spelled ∙ length-append (bytes_of s.body) rest in
    let words = length_bytes s.body in
    let few : length s.body ≤ 4194304 = omega arith in
    record {
      address = omega arith;
      times = record { each = λ k. let w = s.within.each k in omega arith };
    }
