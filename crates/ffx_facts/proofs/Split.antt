-- What is a file is spelled by the grammar.
use Rattle.std.proofs.Common.{◌≡◌, ℕ, zero, suc, ◌+◌, ◌-◌, ◌<◌, ◌≤◌, Bool, true, false, cond, ◌&&◌, List, [], ◌∷◌, ◌++◌, length, Some, None, inl, inr, refl, sym, ap, subst, ◌∙◌, arith, length-append, append_assoc, append-nil, eq-eqb, lit<}
use Rattle.std.specs.Prelude.{Option, ◌⊎◌, ◌==◌, ◌||◌, codes, is_some}
use Rattle.std.specs.List.{list_all}
use Rattle.std.specs.Str.{bytes_eq}
use Rattle.std.proofs.lemmas.Bool.{and_parts, eqb-true, false≢true}
use Rattle.std.proofs.lemmas.Slice.Eq.{bytes_eq-Decides}
use Rattle.ffx_facts.specs.declared.word.Word.{Word}
use Rattle.ffx_facts.specs.declared.word.Word.TheVariants as word
use Rattle.ffx_facts.specs.declared.word.TheConstants.{WORDS}
use Rattle.ffx_facts.specs.declared.state.Stage.{Stage}
use Rattle.ffx_facts.specs.declared.state.Stage.TheVariants.{Declared}
use Rattle.ffx_facts.specs.declared.state.Part.{Part}
use Rattle.ffx_facts.specs.declared.state.Part.TheVariants as part
use Rattle.ffx_facts.specs.Pieces.{is_blank, is_name_byte, name_of, spelling}
use Rattle.ffx_facts.specs.Machine.{Element, State, added, began, begins_word, behind, behind_word, ended_tag, entered, found_word, in_word, innermost, is_between, is_empty, is_rooted, is_whole, may_come, moved, past_first, run, start, step, step_in, tail, to_part, word_found}
use Rattle.ffx_facts.specs.File.{IsFile}
use Rattle.ffx_facts.specs.Grammar.{Piece, IsSpelled, IsValue, Leads, MayStand, NoPair, behind_piece, done, spaces, spell, spell_all}
use Rattle.ffx_facts.specs.Grammar.Piece.{Mark, Blank, Comment, Declaration, Open, Attribute, Enter, Empty, End}
use Rattle.ffx_facts.proofs.Endings.{in_part}
use Rattle.ffx_facts.proofs.Spelled.{core, done_same, end_stage, find_passes, dash_count, keep, place_behind_run, with_last}

-- ---- what a run to a whole file says of its first step

choose : {R : Type 0} (b : Bool) (x y : Option State) (a : List ℕ) (last : State) → run (cond b x y) a ≡ Some last → (b ≡ true → run x a ≡ Some last → R) → (b ≡ false → run y a ≡ Some last → R) → R
choose true x y a last e f g = f refl e
choose false x y a last e f g = g refl e

dead : {R : Type 0} (a : List ℕ) (last : State) → run None a ≡ Some last → R
dead a last e = cc

-- the bytes end only between two pieces
ends_between : (s last : State) → run (Some s) [] ≡ Some last → is_whole last ≡ true → is_between s.part ≡ true
ends_between s last e whole =
    let same : s ≡ last = cc in
    let parts = and_parts (is_empty last.nesting && is_rooted last.stage) (is_between last.part) whole in
    ap (λ (x : State). is_between x.part) same ∙ parts.1

-- ---- values

record ValueSplit (u : State) (quote : ℕ) (b : List ℕ) (last : State) (sofar : List ℕ) : Type 0 where
  value : List ℕ
  rest : List ℕ
  next : State
  is : b ≡ value ++ quote ∷ rest
  within : IsValue quote value
  runs : run (Some next) rest ≡ Some last
  same : core next ≡ core (record u { attributes = added u.attributes u.name (sofar ++ value); part = part.Behind })

value_split : (quote : ℕ) (b : List ℕ) (u last : State) → run (Some (in_part (part.Value quote) u)) b ≡ Some last → is_whole last ≡ true → ValueSplit u quote b last u.text
unfolding step
value_split quote [] u last e whole = absurd (false≢true (ends_between (in_part (part.Value quote) u) last e whole))
value_split quote (c ∷ b) u last e whole =
    choose (c == quote) _ _ b last e
    (λ k g. let q : quote ≡ c = sym (eqb-true c quote k) in record {
      value = [];
      rest = b;
      next = record (moved u c) { attributes = added u.attributes u.name u.text; part = part.Behind };
      is = ap (λ (x : ℕ). x ∷ b) (sym q);
      within = refl;
      runs = g;
      same = ap (λ (t : List ℕ). core (record u { attributes = added u.attributes u.name t; part = part.Behind })) (sym (append-nil u.text));
    })
    (λ k g. choose (c == 0x3c) _ _ b last g (λ l h. dead b last h)
    (λ l h.
    let w = value_split quote b (moved u c) last h whole in
    record {
      value = c ∷ w.value;
      rest = w.rest;
      next = w.next;
      is = ap (λ (x : List ℕ). c ∷ x) w.is;
      within = rw (k, l) w.within;
      runs = w.runs;
      same = w.same ∙ ap (λ (t : List ℕ). core (record u { attributes = added u.attributes u.name t; part = part.Behind })) (append_assoc u.text (c ∷ []) w.value);
    }))

-- ---- from the equals sign on

record EqualsSplit (u : State) (b : List ℕ) (last : State) : Type 0 where
  after : ℕ
  quote : ℕ
  value : List ℕ
  rest : List ℕ
  next : State
  is : b ≡ spaces after ++ (quote ∷ (value ++ quote ∷ rest))
  quoted : (quote ≡ 0x22) ⊎ (quote ≡ 0x27)
  within : IsValue quote value
  runs : run (Some next) rest ≡ Some last
  same : core next ≡ core (record u { attributes = added u.attributes u.name value; part = part.Behind })

is_quote : (c : ℕ) → ((c == 0x22) || (c == 0x27)) ≡ true → (c ≡ 0x22) ⊎ (c ≡ 0x27)
is_quote c h = by (c == 0x22) refl h
  where
    by : (b : Bool) → (c == 0x22) ≡ b → (b || (c == 0x27)) ≡ true → (c ≡ 0x22) ⊎ (c ≡ 0x27)
    by true k h = inl (eqb-true c 0x22 k)
    by false k h = inr (eqb-true c 0x27 h)

equals_split : (b : List ℕ) (u last : State) → run (Some (in_part part.Equals u)) b ≡ Some last → is_whole last ≡ true → EqualsSplit u b last
unfolding step
equals_split [] u last e whole = absurd (false≢true (ends_between (in_part part.Equals u) last e whole))
equals_split (c ∷ b) u last e whole =
    choose (c == 0x20) _ _ b last e
    (λ k g.
    let w = equals_split b (moved u c) last g whole in
    record {
      after = suc w.after;
      quote = w.quote;
      value = w.value;
      rest = w.rest;
      next = w.next;
      is = ap (λ (x : ℕ). x ∷ b) (eqb-true c 0x20 k) ∙ ap (λ (x : List ℕ). 0x20 ∷ x) w.is;
      quoted = w.quoted;
      within = w.within;
      runs = w.runs;
      same = w.same;
    })
    (λ k g. choose ((c == 0x22) || (c == 0x27)) _ _ b last g
    (λ l h.
    let w = value_split c b (record (moved u c) { start = u.place + 1; text = [] }) last h whole in
    record {
      after = 0;
      quote = c;
      value = w.value;
      rest = w.rest;
      next = w.next;
      is = ap (λ (x : List ℕ). c ∷ x) w.is;
      quoted = is_quote c l;
      within = w.within;
      runs = w.runs;
      same = w.same;
    })
    (λ l h. dead b last h))

-- ---- from the end of a name on

record NamedSplit (u : State) (b : List ℕ) (last : State) : Type 0 where
  before : ℕ
  tail_split : List ℕ
  is : b ≡ spaces before ++ (0x3d ∷ tail_split)
  from : EqualsSplit u tail_split last

named_split : (b : List ℕ) (u last : State) → run (Some (in_part part.Named u)) b ≡ Some last → is_whole last ≡ true → NamedSplit u b last
unfolding step
named_split [] u last e whole = absurd (false≢true (ends_between (in_part part.Named u) last e whole))
named_split (c ∷ b) u last e whole =
    choose (c == 0x20) _ _ b last e
    (λ k g.
    let w = named_split b (moved u c) last g whole in
    record {
      before = suc w.before;
      tail_split = w.tail_split;
      is = ap (λ (x : ℕ). x ∷ b) (eqb-true c 0x20 k) ∙ ap (λ (x : List ℕ). 0x20 ∷ x) w.is;
      from = moved_equals u c w.tail_split last w.from;
    })
    (λ k g. choose (c == 0x3d) _ _ b last g
    (λ l h. record { before = 0; tail_split = b; is = ap (λ (x : ℕ). x ∷ b) (eqb-true c 0x3d l); from = moved_equals u c b last (equals_split b (moved u c) last h whole) })
    (λ l h. dead b last h))
  where
    moved_equals : (u : State) (c : ℕ) (b : List ℕ) (last : State) → EqualsSplit (moved u c) b last → EqualsSplit u b last
    moved_equals u c b last w = record {
      after = w.after;
      quote = w.quote;
      value = w.value;
      rest = w.rest;
      next = w.next;
      is = w.is;
      quoted = w.quoted;
      within = w.within;
      runs = w.runs;
      same = w.same;
    }

-- ---- names

record NameSplit (u : State) (b : List ℕ) (last : State) (sofar : List ℕ) : Type 0 where
  name : List ℕ
  behind_name : List ℕ
  is : b ≡ name ++ behind_name
  letters : list_all is_name_byte name ≡ true
  new : u.attributes (sofar ++ name) ≡ None
  from : NamedSplit (record u { name = sofar ++ name }) behind_name last

none_of : (o : Option (List ℕ)) → is_some o ≡ false → o ≡ None
none_of None h = refl
none_of (Some x) h = cc

name_split : (b : List ℕ) (u last : State) → run (Some (in_part part.Name u)) b ≡ Some last → is_whole last ≡ true → NameSplit u b last u.text
unfolding step
name_split [] u last e whole = absurd (false≢true (ends_between (in_part part.Name u) last e whole))
name_split (c ∷ b) u last e whole =
    choose (is_name_byte c) _ _ b last e
    (λ k g.
    let w = name_split b (moved u c) last g whole in
    let t = append_assoc u.text (c ∷ []) w.name in
    record {
      name = c ∷ w.name;
      behind_name = w.behind_name;
      is = ap (λ (x : List ℕ). c ∷ x) w.is;
      letters = rw k w.letters;
      new = ap u.attributes (sym t) ∙ w.new;
      from = subst (λ (n : List ℕ). NamedSplit (record u { name = n }) w.behind_name last) t (of_moved (record u { name = (u.text ++ c ∷ []) ++ w.name }) c w.behind_name last w.from);
    })
    (λ k g. choose (is_some (u.attributes u.text)) _ _ b last g (λ l h. dead b last h)
    (λ l h.
    let nil = sym (append-nil u.text) in
    record {
      name = [];
      behind_name = c ∷ b;
      is = refl;
      letters = refl;
      new = ap u.attributes (append-nil u.text) ∙ none_of (u.attributes u.text) l;
      from = subst (λ (n : List ℕ). NamedSplit (record u { name = n }) (c ∷ b) last) nil (named_split (c ∷ b) (record u { name = u.text }) last h whole);
    }))
  where
    of_moved : (u : State) (c : ℕ) (b : List ℕ) (last : State) → NamedSplit (moved u c) b last → NamedSplit u b last
    of_moved u c b last w = record {
      before = w.before;
      tail_split = w.tail_split;
      is = w.is;
      from = record { after = w.from.after; quote = w.from.quote; value = w.from.value; rest = w.from.rest; next = w.from.next; is = w.from.is; quoted = w.from.quoted; within = w.from.within; runs = w.from.runs; same = w.from.same };
    }

-- ---- a piece at the front

-- the bytes are a piece that may stand at a state, and more
pub record Split (m : State) (b : List ℕ) (last : State) : Type 0 where
  pub piece : Piece
  pub rest : List ℕ
  pub next : State
  pub follows : MayStand m.part m.stage m.nesting m.attributes piece
  pub spelled : b ≡ spell piece ++ rest
  pub runs : run (Some next) rest ≡ Some last
  pub same : core next ≡ core (done m piece)
  pub edge : (next.part ≡ part.Between) ⊎ (next.part ≡ part.Behind)

-- ---- end tags

record ClosingSplit (u : State) (b : List ℕ) (last : State) : Type 0 where
  gap : ℕ
  rest : List ℕ
  next : State
  is : b ≡ spaces gap ++ (0x3e ∷ rest)
  runs : run (Some next) rest ≡ Some last
  same : core next ≡ core (record u { nesting = tail u.nesting; part = part.Between })

closing_split : (b : List ℕ) (u last : State) → run (Some (in_part part.Closing u)) b ≡ Some last → is_whole last ≡ true → ClosingSplit u b last
unfolding step
closing_split [] u last e whole = absurd (false≢true (ends_between (in_part part.Closing u) last e whole))
closing_split (c ∷ b) u last e whole =
    choose (c == 0x3e) _ _ b last e
    (λ k g. record { gap = 0; rest = b; next = record (moved u c) { nesting = tail u.nesting; part = part.Between }; is = ap (λ (x : ℕ). x ∷ b) (eqb-true c 0x3e k); runs = g; same = refl })
    (λ k g. choose (c == 0x20) _ _ b last g
    (λ l h.
    let w = closing_split b (moved u c) last h whole in
    record { gap = suc w.gap; rest = w.rest; next = w.next; is = ap (λ (x : ℕ). x ∷ b) (eqb-true c 0x20 l) ∙ ap (λ (x : List ℕ). 0x20 ∷ x) w.is; runs = w.runs; same = w.same })
    (λ l h. dead b last h))

-- ---- within a start tag

spaces_more : (n : ℕ) (b : List ℕ) → spaces n ++ (0x20 ∷ b) ≡ spaces (suc n) ++ b
spaces_more zero b = refl
spaces_more (suc n) b = ap (λ (x : List ℕ). 0x20 ∷ x) (spaces_more n b)

enter_spelled : (n : ℕ) (b : List ℕ) → spaces n ++ (0x3e ∷ b) ≡ (spaces n ++ codes ">") ++ b
enter_spelled n b = sym (append_assoc (spaces n) (codes ">") b)

empty_spelled : (n : ℕ) (b : List ℕ) → spaces n ++ (0x2f ∷ 0x3e ∷ b) ≡ (spaces n ++ codes "/>") ++ b
empty_spelled n b = sym (append_assoc (spaces n) (codes "/>") b)

-- behind spaces, or none, the end of a start tag
tag_end_split : (n c : ℕ) (b : List ℕ) (m u last : State) → keep u ≡ keep m → run (behind (moved u c) c) b ≡ Some last → is_whole last ≡ true
    → (c ≡ 0x20 → run (Some (record (moved u c) { part = part.Gap })) b ≡ Some last → Split (in_part part.Behind m) (spaces n ++ (c ∷ b)) last) → Split (in_part part.Behind m) (spaces n ++ (c ∷ b)) last
unfolding step
tag_end_split n c b m u last k e whole space =
    choose (c == 0x20) _ _ b last e (λ l h. space (eqb-true c 0x20 l) h)
    (λ l h. choose (c == 0x2f) _ _ b last h
    (λ i g. slash b g (eqb-true c 0x2f i))
    (λ i g. choose (c == 0x3e) _ _ b last g
    (λ j f. record {
      piece = Enter n;
      rest = b;
      next = entered (moved u c);
      follows = tt;
      spelled = ap (λ (x : ℕ). spaces n ++ (x ∷ b)) (eqb-true c 0x3e j) ∙ enter_spelled n b;
      runs = f;
      same = ap (λ (x : State). core (entered x)) k;
      edge = inl refl;
    })
    (λ j f. dead b last f)))
  where
    slash : (b : List ℕ) → run (Some (record (moved u c) { part = part.Slash })) b ≡ Some last → c ≡ 0x2f → Split (in_part part.Behind m) (spaces n ++ (c ∷ b)) last
    slash [] g i = absurd (false≢true (ends_between (in_part part.Slash (moved u c)) last g whole))
    slash (d ∷ b) g i =
        choose (d == 0x3e) _ _ b last g
        (λ j f. record {
          piece = Empty n;
          rest = b;
          next = ended_tag (moved (moved u c) d);
          follows = tt;
          spelled = ap (λ (x : ℕ). spaces n ++ (x ∷ d ∷ b)) i ∙ ap (λ (x : ℕ). spaces n ++ (0x2f ∷ x ∷ b)) (eqb-true d 0x3e j) ∙ empty_spelled n b;
          runs = f;
          same = ap (λ (x : State). core (ended_tag x)) k;
          edge = inl refl;
        })
        (λ j f. dead b last f)

attribute_spelled : (gap before after quote : ℕ) (name value rest : List ℕ) → spaces (suc gap) ++ (name ++ (spaces before ++ (0x3d ∷ (spaces after ++ (quote ∷ (value ++ (quote ∷ rest)))))))
    ≡ spell (Attribute gap name before after quote value) ++ rest
attribute_spelled gap before after quote name value rest = sym (simp append_assoc)

-- a name, and the rest of its attribute
attribute_split : (gap c : ℕ) (b : List ℕ) (m u last : State) → keep u ≡ keep m → is_name_byte c ≡ true → run (Some (began (moved u c) c part.Name)) b ≡ Some last → is_whole last ≡ true
    → Split (in_part part.Behind m) (spaces (suc gap) ++ (c ∷ b)) last
attribute_split gap c b m u last k letter e whole =
    let w = name_split b (began (moved u c) c part.Name) last e whole in
    let n = w.from in
    let q = n.from in
    record {
      piece = Attribute gap (c ∷ w.name) n.before q.after q.quote q.value;
      rest = q.rest;
      next = q.next;
      follows = record { named = rw letter w.letters; new = ap (λ (x : State). x.attributes (c ∷ w.name)) (sym k) ∙ w.new; quoted = q.quoted; within = q.within };
      spelled = ap (λ (x : List ℕ). spaces (suc gap) ++ (c ∷ x)) (w.is ∙ ap (λ (x : List ℕ). w.name ++ x) (n.is ∙ ap (λ (x : List ℕ). spaces n.before ++ (0x3d ∷ x)) q.is))
          ∙ attribute_spelled gap n.before q.after q.quote (c ∷ w.name) q.value q.rest;
      runs = q.runs;
      same = q.same ∙ ap (λ (x : State). core (record x { attributes = added x.attributes (c ∷ w.name) q.value; part = part.Behind })) k;
      edge = inr (ap (λ (x : State). x.part) q.same);
    }

gap_split : (b : List ℕ) (n : ℕ) (m u last : State) → keep u ≡ keep m → run (Some (in_part part.Gap u)) b ≡ Some last → is_whole last ≡ true → Split (in_part part.Behind m) (spaces (suc n) ++ b) last
unfolding step
gap_split [] n m u last k e whole = absurd (false≢true (ends_between (in_part part.Gap u) last e whole))
gap_split (c ∷ b) n m u last k e whole =
    choose (is_name_byte c) _ _ b last e
    (λ l h. attribute_split n c b m u last k l h whole)
    (λ l h. tag_end_split (suc n) c b m u last k h whole
    (λ i g. subst (λ (x : List ℕ). Split (in_part part.Behind m) x last) (sym (spaces_more (suc n) b) ∙ ap (λ (x : ℕ). spaces (suc n) ++ (x ∷ b)) (sym i)) (gap_split b (suc n) m (moved u c) last k g whole)))

behind_split : (b : List ℕ) (m last : State) → run (Some (in_part part.Behind m)) b ≡ Some last → is_whole last ≡ true → Split (in_part part.Behind m) b last
unfolding step
behind_split [] m last e whole = absurd (false≢true (ends_between (in_part part.Behind m) last e whole))
behind_split (c ∷ b) m last e whole =
    tag_end_split 0 c b m m last refl e whole
    (λ i g. subst (λ (x : ℕ). Split (in_part part.Behind m) (x ∷ b) last) (sym i) (gap_split b 0 m (moved m c) last refl g whole))

-- ---- comments and the declaration

no_pair_cons : (a b c : ℕ) (bytes : List ℕ) → (c ≡ a → ⊥) → NoPair a b bytes → NoPair a b (c ∷ bytes)
no_pair_cons a b c [] h k = tt
no_pair_cons a b c (d ∷ bytes) h k = (λ e _. h e, k)

record SomeBody (a b : ℕ) (total close : List ℕ) (last : State) (stage : Stage) (u : State) : Type 0 where
  body : List ℕ
  rest : List ℕ
  next : State
  is : total ≡ body ++ (close ++ rest)
  none : NoPair a b body
  runs : run (Some next) rest ≡ Some last
  same : core next ≡ core (record u { stage = stage; part = part.Between })

differs : (c d : ℕ) → (c == d) ≡ false → c ≡ d → ⊥
differs c d h e = false≢true (sym h ∙ eq-eqb c d e)

choose_part : {R : Type 0} (b : Bool) (p q : Option Part) (m : State) (a : List ℕ) (last : State) → run (to_part m (cond b p q)) a ≡ Some last
    → (b ≡ true → run (to_part m p) a ≡ Some last → R) → (b ≡ false → run (to_part m q) a ≡ Some last → R) → R
choose_part true p q m a last e f g = f refl e
choose_part false p q m a last e f g = g refl e

-- the same body, in other words
body_of : (a b : ℕ) (total other close : List ℕ) (last : State) (stage : Stage) (u v : State) → total ≡ other → core (record u { stage = stage; part = part.Between }) ≡ core (record v { stage = stage; part = part.Between })
    → SomeBody a b other close last stage u → SomeBody a b total close last stage v
body_of a b total other close last stage u v e k w = record { body = w.body; rest = w.rest; next = w.next; is = e ∙ w.is; none = w.none; runs = w.runs; same = w.same ∙ k }

-- three dashes were read
comment_3 : (b : List ℕ) (u last : State) → run (Some (in_part (part.Comment 3) u)) b ≡ Some last → is_whole last ≡ true → SomeBody 0x2d 0x2d (0x2d ∷ 0x2d ∷ 0x2d ∷ b) (codes "-->") last u.stage u
unfolding step
comment_3 [] u last e whole = absurd (false≢true (ends_between (in_part (part.Comment 3) u) last e whole))
comment_3 (c ∷ b) u last e whole =
    choose_part (c == 0x3e) _ _ (moved (in_part (part.Comment 3) u) c) b last e
    (λ k g. record {
      body = 0x2d ∷ [];
      rest = b;
      next = record (moved u c) { part = part.Between };
      is = ap (λ (x : ℕ). 0x2d ∷ 0x2d ∷ 0x2d ∷ x ∷ b) (eqb-true c 0x3e k);
      none = tt;
      runs = g;
      same = refl;
    })
    (λ k g. dead b last g)

-- two dashes were read
comment_2 : (b : List ℕ) (u last : State) → run (Some (in_part (part.Comment 2) u)) b ≡ Some last → is_whole last ≡ true → SomeBody 0x2d 0x2d (0x2d ∷ 0x2d ∷ b) (codes "-->") last u.stage u
unfolding step
comment_2 [] u last e whole = absurd (false≢true (ends_between (in_part (part.Comment 2) u) last e whole))
comment_2 (c ∷ b) u last e whole =
    choose_part (c == 0x3e) _ _ (moved (in_part (part.Comment 2) u) c) b last e
    (λ k g. record {
      body = [];
      rest = b;
      next = record (moved u c) { part = part.Between };
      is = ap (λ (x : ℕ). 0x2d ∷ 0x2d ∷ x ∷ b) (eqb-true c 0x3e k);
      none = tt;
      runs = g;
      same = refl;
    })
    (λ k g. choose_part (c == 0x2d) _ _ (moved (in_part (part.Comment 2) u) c) b last g
    (λ l h. body_of 0x2d 0x2d (0x2d ∷ 0x2d ∷ c ∷ b) (0x2d ∷ 0x2d ∷ 0x2d ∷ b) (codes "-->") last u.stage (moved u c) u (ap (λ (x : ℕ). 0x2d ∷ 0x2d ∷ x ∷ b) (eqb-true c 0x2d l)) refl (comment_3 b (moved u c) last h whole))
    (λ l h. dead b last h))

-- no dash was read, or one
comment_split : (b : List ℕ) (dash : Bool) (u last : State) → run (Some (in_part (part.Comment (dash_count dash)) u)) b ≡ Some last → is_whole last ≡ true
    → SomeBody 0x2d 0x2d (with_last dash 0x2d b) (codes "-->") last u.stage u
unfolding step
comment_split [] dash u last e whole = absurd (false≢true (ends_between (in_part (part.Comment (dash_count dash)) u) last e whole))
comment_split (c ∷ b) true u last e whole =
    choose_part (c == 0x2d) _ _ (moved (in_part (part.Comment 1) u) c) b last e
    (λ k g. body_of 0x2d 0x2d (0x2d ∷ c ∷ b) (0x2d ∷ 0x2d ∷ b) (codes "-->") last u.stage (moved u c) u (ap (λ (x : ℕ). 0x2d ∷ x ∷ b) (eqb-true c 0x2d k)) refl (comment_2 b (moved u c) last g whole))
    (λ k g.
    let w = comment_split b false (moved u c) last g whole in
    record {
      body = 0x2d ∷ c ∷ w.body;
      rest = w.rest;
      next = w.next;
      is = ap (λ (x : List ℕ). 0x2d ∷ c ∷ x) w.is;
      none = (λ _ i. differs c 0x2d k i, no_pair_cons 0x2d 0x2d c w.body (differs c 0x2d k) w.none);
      runs = w.runs;
      same = w.same;
    })
comment_split (c ∷ b) false u last e whole =
    choose_part (c == 0x2d) _ _ (moved (in_part (part.Comment 0) u) c) b last e
    (λ k g. body_of 0x2d 0x2d (c ∷ b) (0x2d ∷ b) (codes "-->") last u.stage (moved u c) u (ap (λ (x : ℕ). x ∷ b) (eqb-true c 0x2d k)) refl (comment_split b true (moved u c) last g whole))
    (λ k g.
    let w = comment_split b false (moved u c) last g whole in
    record {
      body = c ∷ w.body;
      rest = w.rest;
      next = w.next;
      is = ap (λ (x : List ℕ). c ∷ x) w.is;
      none = no_pair_cons 0x2d 0x2d c w.body (differs c 0x2d k) w.none;
      runs = w.runs;
      same = w.same;
    })

choose_some : {R : Type 0} (b : Bool) (x y : State) (a : List ℕ) (last : State) → run (Some (cond b x y)) a ≡ Some last → (b ≡ true → run (Some x) a ≡ Some last → R) → (b ≡ false → run (Some y) a ≡ Some last → R) → R
choose_some true x y a last e f g = f refl e
choose_some false x y a last e f g = g refl e

-- behind a question mark that is no end
question_body : (b rest : List ℕ) (body : List ℕ) → 0x3f ∷ b ≡ body ++ (codes "?>" ++ rest) → NoPair 0x3f 0x3e body → NoPair 0x3f 0x3e (0x3f ∷ body)
question_body b rest [] e k = tt
question_body b rest (d ∷ body) e k = (λ _ i. let same : 0x3f ≡ d = cc in let no : 0x3f ≡ 0x3e = same ∙ i in omega arith, k)

declaration_split : (b : List ℕ) (question : Bool) (u last : State) → run (Some (in_part (part.Declaration question) u)) b ≡ Some last → is_whole last ≡ true
    → SomeBody 0x3f 0x3e (with_last question 0x3f b) (codes "?>") last Declared u
unfolding step
declaration_split [] question u last e whole = absurd (false≢true (ends_between (in_part (part.Declaration question) u) last e whole))
declaration_split (c ∷ b) true u last e whole =
    choose_some (c == 0x3e) _ _ b last e
    (λ k g. record {
      body = [];
      rest = b;
      next = record (moved u c) { stage = Declared; part = part.Between };
      is = ap (λ (x : ℕ). 0x3f ∷ x ∷ b) (eqb-true c 0x3e k);
      none = tt;
      runs = g;
      same = refl;
    })
    (λ k g. by k (c == 0x3f) refl g (λ q h. declaration_split b q (moved u c) last h whole))
  where
    by : (c == 0x3e) ≡ false → (x : Bool) → (c == 0x3f) ≡ x → run (Some (in_part (part.Declaration (c == 0x3f)) (moved u c))) b ≡ Some last
        → ((q : Bool) → run (Some (in_part (part.Declaration q) (moved u c))) b ≡ Some last → SomeBody 0x3f 0x3e (with_last q 0x3f b) (codes "?>") last Declared (moved u c))
        → SomeBody 0x3f 0x3e (0x3f ∷ c ∷ b) (codes "?>") last Declared u
    by k true l g later =
        let w = later true (subst (λ (q : Bool). run (Some (in_part (part.Declaration q) (moved u c))) b ≡ Some last) l g) in
        record {
          body = 0x3f ∷ w.body;
          rest = w.rest;
          next = w.next;
          is = ap (λ (x : ℕ). 0x3f ∷ x ∷ b) (eqb-true c 0x3f l) ∙ ap (λ (x : List ℕ). 0x3f ∷ x) w.is;
          none = question_body b w.rest w.body w.is w.none;
          runs = w.runs;
          same = w.same;
        }
    by k false l g later =
        let w = later false (subst (λ (q : Bool). run (Some (in_part (part.Declaration q) (moved u c))) b ≡ Some last) l g) in
        record {
          body = 0x3f ∷ c ∷ w.body;
          rest = w.rest;
          next = w.next;
          is = ap (λ (x : List ℕ). 0x3f ∷ c ∷ x) w.is;
          none = (λ _ i. differs c 0x3e k i, no_pair_cons 0x3f 0x3e c w.body (differs c 0x3f l) w.none);
          runs = w.runs;
          same = w.same;
        }
declaration_split (c ∷ b) false u last e whole = by (c == 0x3f) refl e (λ q h. declaration_split b q (moved u c) last h whole)
  where
    by : (x : Bool) → (c == 0x3f) ≡ x → run (Some (in_part (part.Declaration (c == 0x3f)) (moved u c))) b ≡ Some last
        → ((q : Bool) → run (Some (in_part (part.Declaration q) (moved u c))) b ≡ Some last → SomeBody 0x3f 0x3e (with_last q 0x3f b) (codes "?>") last Declared (moved u c))
        → SomeBody 0x3f 0x3e (c ∷ b) (codes "?>") last Declared u
    by true l g later =
        let w = later true (subst (λ (q : Bool). run (Some (in_part (part.Declaration q) (moved u c))) b ≡ Some last) l g) in
        record { body = w.body; rest = w.rest; next = w.next; is = ap (λ (x : ℕ). x ∷ b) (eqb-true c 0x3f l) ∙ w.is; none = w.none; runs = w.runs; same = w.same }
    by false l g later =
        let w = later false (subst (λ (q : Bool). run (Some (in_part (part.Declaration q) (moved u c))) b ≡ Some last) l g) in
        record {
          body = c ∷ w.body;
          rest = w.rest;
          next = w.next;
          is = ap (λ (x : List ℕ). c ∷ x) w.is;
          none = no_pair_cons 0x3f 0x3e c w.body (differs c 0x3f l) w.none;
          runs = w.runs;
          same = w.same;
        }

-- ---- words

record WordSplit (m : State) (total : List ℕ) (last : State) : Type 0 where
  found : Word
  rest : List ℕ
  seen : State
  comes : may_come m.stage (innermost m.nesting) found ≡ true
  is : total ≡ spelling found ++ rest
  runs : run (Some (behind_word seen found)) rest ≡ Some last
  same : keep seen ≡ keep (in_part part.Word m)
  began_at : seen.start ≡ m.place

word_found_split : (b : List ℕ) (u m last : State) (w : Word) → keep u ≡ keep (in_part part.Word m) → u.start ≡ m.place → found_word u u.text ≡ Some w → run (Some (behind_word u w)) b ≡ Some last → WordSplit m (u.text ++ b) last
word_found_split b u m last w k at found e =
    let p : Word → Bool = λ x. may_come u.stage (innermost u.nesting) x && bytes_eq (spelling x) u.text in
    let parts = and_parts (may_come u.stage (innermost u.nesting) w) (bytes_eq (spelling w) u.text) (find_passes p WORDS w found) in
    record {
      found = w;
      rest = b;
      seen = u;
      comes = ap (λ (x : State). may_come x.stage (innermost x.nesting) w) (sym k) ∙ parts.0;
      is = ap (λ (x : List ℕ). x ++ b) (sym ((bytes_eq-Decides (spelling w) u.text).0 parts.1));
      runs = e;
      same = k;
      began_at = at;
    }

word_split : (b : List ℕ) (u m last : State) → keep u ≡ keep (in_part part.Word m) → u.start ≡ m.place → run (in_word u) b ≡ Some last → is_whole last ≡ true → WordSplit m (u.text ++ b) last
unfolding in_word step
word_split [] u m last k at e whole = by (found_word u u.text) (begins_word u u.text) refl e
  where
    by : (f : Option Word) (x : Bool) → found_word u u.text ≡ f → run (word_found u f x) [] ≡ Some last → WordSplit m (u.text ++ []) last
    by (Some w) x i g = word_found_split [] u m last w k at i g
    by None true i g = absurd (false≢true (ap (λ (x : State). is_between x.part) (sym k) ∙ ends_between u last g whole))
    by None false i g = dead [] last g
word_split (c ∷ b) u m last k at e whole =
    by (found_word u u.text) (begins_word u u.text) refl e
    (λ h. word_split b (moved u c) m last k at h whole)
  where
    by : (f : Option Word) (x : Bool) → found_word u u.text ≡ f → run (word_found u f x) (c ∷ b) ≡ Some last → (run (in_word (moved u c)) b ≡ Some last → WordSplit m ((u.text ++ c ∷ []) ++ b) last) → WordSplit m (u.text ++ c ∷ b) last
    by (Some w) x i g later = word_found_split (c ∷ b) u m last w k at i g
    by None true i g later =
        let goes : step_in u.part u.text (moved u c) c ≡ in_word (moved u c) = ap (λ (x : State). step_in x.part u.text (moved u c) c) k in
        subst (λ (x : List ℕ). WordSplit m x last) (append_assoc u.text (c ∷ []) b) (later (ap (λ (x : Option State). run x b) (sym goes) ∙ g))
    by None false i g later = dead (c ∷ b) last g

-- ---- between two pieces

between_split : (c : ℕ) (b : List ℕ) (m last : State) → run (Some (in_part part.Between m)) (c ∷ b) ≡ Some last → is_whole last ≡ true → Split (in_part part.Between m) (c ∷ b) last
unfolding step
between_split c b m last e whole =
    choose (is_blank c) _ _ b last e
    (λ k g. record { piece = Blank c; rest = b; next = record (moved (in_part part.Between m) c) { stage = past_first m.stage }; follows = k; spelled = refl; runs = g; same = refl; edge = inl refl })
    (λ k g. of (word_split b (began (moved m c) c part.Word) m last refl (let n : m.place + 1 - 1 ≡ m.place = omega arith in n) g whole))
  where
    of_word : (w : Word) (rest : List ℕ) (v : State) → may_come m.stage (innermost m.nesting) w ≡ true → c ∷ b ≡ spelling w ++ rest → run (Some (behind_word v w)) rest ≡ Some last → keep v ≡ keep (in_part part.Word m) → v.start ≡ m.place
        → Split (in_part part.Between m) (c ∷ b) last
    of_word word.Mark rest v comes is runs k at = record {
      piece = Mark;
      rest = rest;
      next = behind_word v word.Mark;
      follows = comes;
      spelled = is;
      runs = runs;
      same = ap (λ (x : State). core (record x { stage = past_first x.stage; part = part.Between })) k;
      edge = inl refl;
    }
    of_word word.Comment rest v comes is runs k at =
        let w = comment_split rest false (record v { stage = past_first v.stage }) last runs whole in
        record {
          piece = Comment w.body;
          rest = w.rest;
          next = w.next;
          follows = w.none;
          spelled = is ∙ ap (λ (x : List ℕ). codes "<!--" ++ x) (w.is ∙ sym (append_assoc w.body (codes "-->") w.rest));
          runs = w.runs;
          same = w.same ∙ ap (λ (x : State). core (record x { stage = past_first x.stage; part = part.Between })) k;
          edge = inl (ap (λ (x : State). x.part) w.same);
        }
    of_word word.Declaration rest v comes is runs k at =
        let w = declaration_split rest false (record v { stage = past_first v.stage }) last runs whole in
        record {
          piece = Declaration w.body;
          rest = w.rest;
          next = w.next;
          follows = (comes, w.none);
          spelled = is ∙ ap (λ (x : List ℕ). codes "<?xml" ++ x) (w.is ∙ sym (append_assoc w.body (codes "?>") w.rest));
          runs = w.runs;
          same = w.same ∙ ap (λ (x : State). core (record x { stage = Declared; part = part.Between })) k;
          edge = inl (ap (λ (x : State). x.part) w.same);
        }
    of_word (word.Start kind) rest v comes is runs k at = record {
      piece = Open kind;
      rest = rest;
      next = behind_word v (word.Start kind);
      follows = comes;
      spelled = is;
      runs = runs;
      same = ap (λ (x : State). core (record x { stage = past_first x.stage; kind = kind; at = v.start; attributes = λ _. None; part = part.Behind })) k
          ∙ ap (λ (n : ℕ). core (record m { stage = past_first m.stage; kind = kind; at = n; attributes = λ _. None; part = part.Behind })) at;
      edge = inr refl;
    }
    of_word (word.End kind) rest v comes is runs k at =
        let w = closing_split rest (record v { stage = past_first v.stage }) last runs whole in
        let name : List ℕ = codes "</" ++ name_of kind in
        record {
          piece = End kind w.gap;
          rest = w.rest;
          next = w.next;
          follows = comes;
          spelled = is ∙ ap (λ (x : List ℕ). name ++ x) (w.is ∙ sym (append_assoc (spaces w.gap) (codes ">") w.rest)) ∙ sym (append_assoc name (spaces w.gap ++ codes ">") w.rest);
          runs = w.runs;
          same = w.same ∙ ap (λ (x : State). core (record x { stage = past_first x.stage; nesting = tail x.nesting; part = part.Between })) k
              ∙ ap (λ (g : Stage). core (record m { stage = g; nesting = tail m.nesting; part = part.Between })) (end_stage m.stage (innermost m.nesting) kind comes);
          edge = inl (ap (λ (x : State). x.part) w.same);
        }

    of : WordSplit m (c ∷ b) last → Split (in_part part.Between m) (c ∷ b) last
    of w = of_word w.found w.rest w.seen w.comes w.is w.runs w.same w.began_at

-- ---- whole files

front_split : (c : ℕ) (b : List ℕ) (m last : State) → (m.part ≡ part.Between) ⊎ (m.part ≡ part.Behind) → run (Some m) (c ∷ b) ≡ Some last → is_whole last ≡ true → Split m (c ∷ b) last
front_split c b m last (inl e) g whole =
    let is : in_part part.Between m ≡ m = ap (λ (p : Part). in_part p m) (sym e) in
    subst (λ (x : State). Split x (c ∷ b) last) is (between_split c b m last (subst (λ (x : State). run (Some x) (c ∷ b) ≡ Some last) (sym is) g) whole)
front_split c b m last (inr e) g whole =
    let is : in_part part.Behind m ≡ m = ap (λ (p : Part). in_part p m) (sym e) in
    subst (λ (x : State). Split x (c ∷ b) last) is (behind_split (c ∷ b) m last (subst (λ (x : State). run (Some x) (c ∷ b) ≡ Some last) (sym is) g) whole)

spell_some : (p : Piece) → 0 < length (spell p)
spell_some Mark = lit< tt
spell_some (Blank c) = omega arith
spell_some (Comment body) = omega arith
spell_some (Declaration body) = omega arith
spell_some (Open kind) = omega arith
spell_some (Attribute gap name before after quote value) = omega arith
spell_some (Enter gap) = omega (arith, length-append (spaces gap) (codes ">"))
spell_some (Empty gap) = omega (arith, length-append (spaces gap) (codes "/>"))
spell_some (End kind gap) = omega arith

-- pieces that lead from a state, and their bytes
record SpelledFrom (s : State) (b : List ℕ) (last : State) : Type 0 where
  pieces : List Piece
  reached : State
  spelled : b ≡ spell_all pieces
  leads : Leads s pieces reached
  same : core last ≡ core reached

-- one piece before others
piece_first : (m s last : State) (b : List ℕ) → core m ≡ core s → (w : Split m b last) → SpelledFrom (behind_piece s w.piece) w.rest last → SpelledFrom s b last
piece_first m s last b k w rest = record {
  pieces = w.piece ∷ rest.pieces;
  reached = rest.reached;
  spelled = w.spelled ∙ ap (λ (x : List ℕ). spell w.piece ++ x) rest.spelled;
  leads = (subst (λ (x : State). MayStand x.part x.stage x.nesting x.attributes w.piece) k w.follows, rest.leads);
  same = rest.same;
}

spelled_from : (n : ℕ) (b : List ℕ) (m s last : State) → length b ≤ n → core m ≡ core s → m.place ≡ s.place → (m.part ≡ part.Between) ⊎ (m.part ≡ part.Behind) → run (Some m) b ≡ Some last → is_whole last ≡ true → SpelledFrom s b last
spelled_from n [] m s last short k at edge e whole = let same : m ≡ last = cc in record { pieces = []; reached = s; spelled = refl; leads = refl; same = ap core (sym same) ∙ k }
spelled_from zero (c ∷ b) m s last short k at edge e whole = absurd (omega arith)
spelled_from (suc n) (c ∷ b) m s last short k at edge e whole =
    let w = front_split c b m last edge e whole in
    let size : length (c ∷ b) ≡ length (spell w.piece) + length w.rest = ap length w.spelled ∙ length-append (spell w.piece) w.rest in
    let some = spell_some w.piece in
    let far = place_behind_run (c ∷ b) m last e in
    let near = place_behind_run w.rest w.next last w.runs in
    let place : w.next.place ≡ s.place + length (spell w.piece) = omega arith in
    piece_first m s last (c ∷ b) k w (spelled_from n w.rest w.next (behind_piece s w.piece) last (omega arith) (w.same ∙ done_same w.piece m s k at) place w.edge w.runs whole)

-- a file is spelled by the grammar, with the same elements
pub file_is_spelled : (b : List ℕ) (elements : List Element) → IsFile b elements → IsSpelled b elements
file_is_spelled b elements f =
    let w = spelled_from (length b) b start start f.state (omega arith) refl refl (inl refl) f.read f.whole in
    record {
      pieces = w.pieces;
      last = w.reached;
      spelled = w.spelled;
      leads = w.leads;
      whole = ap is_whole (sym w.same) ∙ f.whole;
      has = ap (λ (x : State). x.elements) (sym w.same) ∙ f.has;
    }
