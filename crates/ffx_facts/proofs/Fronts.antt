-- Where a reading of bytes stops, the longest front of a file ends.
use Rattle.std.proofs.Common.{◌≡◌, ℕ, ◌+◌, ◌<◌, false, List, [], ◌∷◌, ◌++◌, length, get_or, take, drop, Some, None, refl, sym, ap, subst, ◌∙◌, arith}
use Rattle.std.specs.Prelude.{Option}
use Rattle.std.proofs.lemmas.Bool.{false≢true}
use Rattle.std.proofs.lemmas.List.{append-nil, take-append-drop, take_more, take_all, take-take}
use Rattle.ffx_facts.specs.Machine.{State, is_whole, run, start, step}
use Rattle.ffx_facts.specs.File.{Begins, IsNoFile}
use Rattle.ffx_facts.proofs.Endings.{run-append}
use Rattle.ffx_facts.proofs.Live.{ends_front}

run-nil : (x : Option State) → run x [] ≡ x
run-nil None = refl
run-nil (Some s) = refl

-- one byte more
pub front_more : (b : List ℕ) (at : ℕ) (s : State) (x : Option State) → at < length b → run (Some start) (take at b) ≡ Some s → step s (get_or b at 0) ≡ x → run (Some start) (take (at + 1) b) ≡ x
front_more b at s x inside e h =
    ap (run (Some start)) (take_more b at 0 inside) ∙ run-append (Some start) (take at b) (get_or b at 0 ∷ []) ∙ ap (λ (y : Option State). run y (get_or b at 0 ∷ [])) e ∙ ap (λ (y : Option State). run y []) h ∙ run-nil x

-- a reading that stops within the front never goes on
never_on : (b more : List ℕ) (at n : ℕ) (s : State) → at < n → run (Some start) (take (at + 1) b) ≡ None → run (Some start) (take n b ++ more) ≡ Some s → ⊥
never_on b more at n s long dead e =
    let split : take (at + 1) b ++ drop (at + 1) (take n b) ≡ take n b = ap (λ (x : List ℕ). x ++ drop (at + 1) (take n b)) (sym (take-take (at + 1) n b (omega arith))) ∙ take-append-drop (at + 1) (take n b) in
    let whole = run-append (Some start) (take n b) more ∙ ap (λ (x : List ℕ). run (run (Some start) x) more) (sym split)
    ∙ ap (λ (x : Option State). run x more) (run-append (Some start) (take (at + 1) b) (drop (at + 1) (take n b)))
    ∙ ap (λ (x : Option State). run (run x (drop (at + 1) (take n b))) more) dead in
    let no : None ≡ Some s = sym whole ∙ e in
    cc

-- a front that some bytes lead to the end of a file
begins : (a : List ℕ) (s : State) → run (Some start) a ≡ Some s → Begins a
begins a s e =
    let w = ends_front a s e in
    record {
      more = w.more;
      elements = w.last.elements;
      file = record { state = w.last; read = run-append (Some start) a w.more ∙ ap (λ (x : Option State). run x w.more) e ∙ w.reached; whole = w.whole; has = refl };
    }

-- a byte with which no file goes on
pub stops_within : (b : List ℕ) (at : ℕ) (s : State) → at < length b → run (Some start) (take at b) ≡ Some s → run (Some start) (take (at + 1) b) ≡ None → IsNoFile b at
stops_within b at s inside e dead = record {
  none = λ elements file.
      let all : take (length b) b ++ [] ≡ b = append-nil (take (length b) b) ∙ take_all (length b) b (omega arith) in
      never_on b [] at (length b) file.state inside dead (ap (run (Some start)) all ∙ file.read);
  front = record {
    within = omega arith;
    begins = begins (take at b) s e;
    longest = λ n h1 h2 w. never_on b w.more at n w.file.state h1 dead w.file.read;
  };
}

-- the end of the bytes, where no file ends
pub stops_at_end : (b : List ℕ) (s : State) → run (Some start) b ≡ Some s → is_whole s ≡ false → IsNoFile b (length b)
stops_at_end b s e part = record {
  none = λ elements file. let same : Some file.state ≡ Some s = sym file.read ∙ e in let one : file.state ≡ s = cc in false≢true (sym part ∙ ap is_whole (sym one) ∙ file.whole);
  front = record {
    within = omega arith;
    begins = subst Begins (sym (take_all (length b) b (omega arith))) (begins b s e);
    longest = λ n h1 h2 w. omega arith;
  };
}
