-- The lines that were read begin a start text, and with the line that was refused none goes on.
use Rattle.std.proofs.Common.{◌≡◌, ℕ, ◌+◌, ◌-◌, ◌<◌, ◌≤◌, inl, inr, List, [], ◌∷◌, ◌++◌, length, get_or, take, drop, map, All, Some, codes, refl, sym, ◌∙◌, ap, subst, arith, append-nil, length-append, Bor, ◌==◌}
use Rattle.std.proofs.lemmas.List.{take-map, get_or-map, length-map, map-append, take_all, length-take-le, take-take, get_or-take, take-append-le, take-append-drop, same_from_push}
use Rattle.std.proofs.lemmas.List.Elements.{All-push, All-nil, All-take, All-get_or}
use Rattle.std.proofs.lemmas.List.Splits.{length-slice_split}
use Rattle.std.proofs.lemmas.Option.{get_or_from_slice_get, slice_get-get_or, slice_get_within}
use Rattle.std.specs.List.{slice_get}
use Rattle.wx_base.specs.declared.image.Image.{Image}
use Rattle.wx_base.specs.declared.machine.Shape.{Shape}
use Rattle.start_file.specs.declared.start_item.Item.{Item}
use Rattle.start_file.specs.declared.start_item.Item.TheVariants as item
use Rattle.start_file.specs.Start.{words_of, Fits}
use Rattle.start_file.specs.StartText.{words_in, lines_in, place, AreAscending, IsProper, IsStart, AreStartLines, IsStartText, Begins, IsFirstBadLine}
use Rattle.start_file.specs.StartReading.{Follows, AreRead, IsForeign, IsLinesRefusal, IsTextRefusal}
use Rattle.start_file.specs.declared.start_error.StartError.{StartError}
use Rattle.start_file.specs.declared.start_error.StartError.TheVariants.{Line, NotACache, NoMemory}
use Rattle.start_file.proofs.StartSoFar.{ReadSoFar, read_nothing, read_more}
use Rattle.start_file.proofs.StartFollows.{same_read, behind_last, ascending_none, ascending_more, begins_more, ended_or, head_before_end}

-- the first of the lines are read
pub record LinesSoFar (image : Image) (shape : Shape) (lines : List (List ℕ)) (i : ℕ) (items : List Item) : Type 0 where
  pub so_far : ReadSoFar words_of (IsProper image shape) (map words_in lines) i items
  pub ascend : AreAscending items
  pub begins : 0 < length items → slice_get items 0 ≡ Some item.Head

pub no_lines : (image : Image) (shape : Shape) (lines : List (List ℕ)) → LinesSoFar image shape lines 0 []
no_lines image shape lines = record { so_far = read_nothing words_of (IsProper image shape) (map words_in lines); ascend = ascending_none; begins = λ some. absurd (omega (arith, some)) }

pub line_more : (image : Image) (shape : Shape) (lines : List (List ℕ)) (i : ℕ) (items : List Item) (line : List ℕ) (x : Item) → LinesSoFar image shape lines i items
    → i < length lines → get_or lines i [] ≡ line → words_in line ≡ words_of x → IsProper image shape x → Follows items x
    → ((other : Item) → Fits other → words_of x ≡ words_of other → other ≡ x) → LinesSoFar image shape lines (i + 1) (items ++ x ∷ [])
line_more image shape lines i items line x read within here spelled proper follows alone = record {
  so_far =
      read_more words_of (IsProper image shape) (map words_in lines) i items x read.so_far
      (subst (λ n. i < n) (sym (length-map lines words_in)) within)
      (λ d. get_or-map words_in lines i [] d within ∙ ap words_in here ∙ spelled)
      proper (λ w is_proper same. alone w is_proper.fits same);
  ascend = ascending_more items x read.ascend follows;
  begins = λ some. begins_more items x read.begins follows;
}

-- the lines of what begins a start text go on to one
start_with : (image : Image) (shape : Shape) (lines further : List (List ℕ)) (items more : List Item) → map words_in lines ≡ map words_of items → map words_in further ≡ map words_of more
    → IsStart image shape (items ++ more) → Begins image shape lines
start_with image shape lines further items more spelled on start = record {
  further = further;
  items = items ++ more;
  are = record {
    start = start;
    spelled = map-append words_in lines further ∙ ap (λ front. front ++ map words_in further) spelled ∙ ap (λ back. map words_of items ++ back) on ∙ sym (map-append words_of items more);
  };
}

at_end : (items : List Item) (x : Item) → slice_get (items ++ x ∷ []) (length items) ≡ Some x
at_end [] x = refl
at_end (y ∷ items) x = at_end items x

last_of : (items : List Item) (x : Item) → slice_get (items ++ x ∷ []) (length (items ++ x ∷ []) - 1) ≡ Some x
last_of items x =
    let size : length (items ++ x ∷ []) ≡ length items + 1 = length-append items (x ∷ []) in
    let at : length (items ++ x ∷ []) - 1 ≡ length items = omega (arith, size) in
    ap (slice_get (items ++ x ∷ [])) at ∙ at_end items x

proper_head : (image : Image) (shape : Shape) → IsProper image shape item.Head
proper_head image shape = record { fits = tt; may = tt }

proper_end : (image : Image) (shape : Shape) → IsProper image shape item.End
proper_end image shape = record { fits = tt; may = tt }

nothing_before : Follows [] item.Head
nothing_before = record { above = λ k d inside. absurd (omega (arith, inside)); head = λ _. refl }

-- the shortest start
shortest : (image : Image) (shape : Shape) → IsStart image shape (item.Head ∷ item.End ∷ [])
shortest image shape =
    let one : AreAscending (item.Head ∷ []) = ascending_more [] item.Head ascending_none nothing_before in
    record {
      begins = refl;
      ends = refl;
      ascend = ascending_more (item.Head ∷ []) item.End one (behind_last (item.Head ∷ []) item.Head item.End one refl head_before_end);
      proper = All-push (IsProper image shape) (item.Head ∷ []) item.End (All-push (IsProper image shape) [] item.Head (All-nil (IsProper image shape)) (proper_head image shape)) (proper_end image shape);
    }

pub begin_so_far : (image : Image) (shape : Shape) (lines : List (List ℕ)) (items : List Item) → map words_in lines ≡ map words_of items → All (IsProper image shape) items → AreAscending items
    → (0 < length items → slice_get items 0 ≡ Some item.Head) → Begins image shape lines
begin_so_far image shape lines [] spelled proper ascend begins =
    start_with image shape lines (codes "wx-start 1" ∷ codes "end" ∷ []) [] (item.Head ∷ item.End ∷ []) spelled refl (shortest image shape)
begin_so_far image shape lines (y ∷ more) spelled proper ascend begins =
    let items = y ∷ more in
    let inside : length items - 1 < length items = omega arith in
    let last = get_or items (length items - 1) y in
    let is : slice_get items (length items - 1) ≡ Some last = slice_get-get_or items (length items - 1) y inside in
    elim (ended_or image shape last (All-get_or (IsProper image shape) items (length items - 1) y inside proper)) [
      | inl end ↦
          start_with image shape lines [] items [] spelled refl
          (subst (IsStart image shape) (sym (append-nil items)) (record { begins = begins (omega arith); ends = is ∙ ap Some end; ascend = ascend; proper = proper }))
      | inr before ↦
          start_with image shape lines (codes "end" ∷ []) items (item.End ∷ []) spelled refl
          (record {
            begins = begins (omega arith);
            ends = last_of items item.End;
            ascend = ascending_more items item.End ascend (behind_last items last item.End ascend (sym is) before);
            proper = All-push (IsProper image shape) items item.End proper (proper_end image shape);
          })
    ]

pub begin_front : (image : Image) (shape : Shape) (lines : List (List ℕ)) (i : ℕ) (items : List Item) → LinesSoFar image shape lines i items → Begins image shape (take i lines)
begin_front image shape lines i items read =
    begin_so_far image shape (take i lines) items (sym (take-map words_in i lines) ∙ read.so_far.sound) read.so_far.fits read.ascend read.begins

-- what stands behind the lines that were read in a start text that begins with one line more
record IsNext (image : Image) (shape : Shape) (items : List Item) (line : List ℕ) (x : Item) : Type 0 where
  proper : IsProper image shape x
  follows : Follows items x
  spelled : words_in line ≡ words_of x

empty_first : (i : ℕ) (its : List Item) → i < length its → take i its ≡ [] → slice_get its 0 ≡ Some item.Head → get_or its i item.Head ≡ item.Head
empty_first i its inside empty first =
    let size : length (take i its) ≡ i = length-take-le i its (omega (arith, inside)) in
    let none : length (take i its) ≡ 0 = ap length empty in
    let zero_is : i ≡ 0 = omega (arith, size, none) in
    ap (λ k. get_or its k item.Head) zero_is ∙ get_or_from_slice_get its 0 item.Head item.Head first

next_of : (image : Image) (shape : Shape) (lines : List (List ℕ)) (i : ℕ) (items : List Item) → LinesSoFar image shape lines i items → i < length lines
    → (further : List (List ℕ)) (its : List Item) → AreStartLines image shape (take (i + 1) lines ++ further) its
    → IsNext image shape items (get_or lines i []) (get_or its i item.Head)
next_of image shape lines i items read within further its are =
    let front = take (i + 1) lines in
    let front_size : length front ≡ i + 1 = length-take-le (i + 1) lines (omega (arith, within)) in
    let its_size : length its ≡ length (front ++ further) = sym (length-map its words_of) ∙ ap length (sym are.spelled) ∙ length-map (front ++ further) words_in in
    let both : length (front ++ further) ≡ length front + length further = length-append front further in
    let inside : i < length its = omega (arith, front_size, its_size, both) in
    let before : take i (front ++ further) ≡ take i lines = take-append-le i front further (omega (arith, front_size)) ∙ take-take i (i + 1) lines (omega arith) in
    let same : take i (map words_in lines) ≡ map words_of (take i its) =
    take-map words_in i lines ∙ ap (map words_in) (sym before) ∙ sym (take-map words_in i (front ++ further)) ∙ ap (take i) are.spelled ∙ take-map words_of i its in
    let front_is : take i its ≡ items = read.so_far.one (take i its) (All-take (IsProper image shape) i its are.start.proper) same in
    let x = get_or its i item.Head in
    let here : get_or (front ++ further) i [] ≡ get_or lines i [] =
    sym (get_or-take (i + 1) (front ++ further) i [] (omega arith)) ∙ ap (λ l. get_or l i []) (take-append-le (i + 1) front further (omega (arith, front_size)) ∙ take-take (i + 1) (i + 1) lines (omega arith)) ∙ get_or-take (i + 1) lines i [] (omega arith) in
    record {
      proper = All-get_or (IsProper image shape) its i item.Head inside are.start.proper;
      follows = subst (λ l. Follows l x) front_is (record {
        above = λ k d in_front.
            let size : length (take i its) ≡ i = length-take-le i its (omega (arith, inside)) in
            let k_before : k < i = omega (arith, size, in_front) in
            let pair : place (get_or its k item.Head) < place x = are.start.ascend.pairs k i item.Head k_before inside in
            let there : place (get_or (take i its) k d) ≡ place (get_or its k item.Head) =
            ap place (get_or-take i its k d k_before ∙ same_read its k d item.Head (omega (arith, k_before, inside))) in
            omega (arith, pair, there);
        head = λ empty. empty_first i its inside empty are.start.begins;
      });
      spelled =
          ap words_in (sym here) ∙ sym (get_or-map words_in (front ++ further) i [] [] (omega (arith, both, front_size)))
          ∙ ap (λ l. get_or l i []) are.spelled ∙ get_or-map words_of its i item.Head [] inside;
    }

pub none_begins : (image : Image) (shape : Shape) (lines : List (List ℕ)) (i : ℕ) (items : List Item) (line : List ℕ) → LinesSoFar image shape lines i items → i < length lines → get_or lines i [] ≡ line
    → ((x : Item) → IsProper image shape x → Follows items x → words_in line ≡ words_of x → ⊥) → Begins image shape (take (i + 1) lines) → ⊥
none_begins image shape lines i items line read within here none begins =
    let next = next_of image shape lines i items read within begins.further begins.items begins.are in
    none (get_or begins.items i item.Head) next.proper next.follows (ap words_in (sym here) ∙ next.spelled)

pub foreign : (image : Image) (shape : Shape) (lines : List (List ℕ)) (i : ℕ) (items : List Item) (line : List ℕ) → LinesSoFar image shape lines i items → i < length lines → get_or lines i [] ≡ line
    → ((x : Item) → IsProper image shape x → Follows items x → words_in line ≡ words_of x → ⊥) → IsForeign image shape lines (i + 1)
foreign image shape lines i items line read within here none = record {
  stand = i;
  counted = refl;
  within = within;
  begins = begin_front image shape lines i items read;
  none = none_begins image shape lines i items line read within here none;
}

-- all lines are read
pub all_read : (image : Image) (shape : Shape) (lines : List (List ℕ)) (i : ℕ) (items : List Item) → LinesSoFar image shape lines i items → length lines ≤ i → AreRead image shape lines items
all_read image shape lines i items read over =
    let size : length (map words_in lines) ≡ length lines = length-map lines words_in in
    let all : take i (map words_in lines) ≡ map words_in lines = take_all i (map words_in lines) (omega (arith, size, over)) in
    record {
      spelled = sym all ∙ read.so_far.sound;
      one = λ others proper same. read.so_far.one others proper (all ∙ same);
      proper = read.so_far.fits;
      ascend = read.ascend;
      begins = read.begins;
    }

-- a text has its lines once
same_lines : (image : Image) (shape : Shape) (text : List ℕ) (lines : List (List ℕ)) (rest : List ℕ) (items : List Item) → lines_in text ≡ lines ++ rest ∷ [] → IsStartText image shape text items
    → (AreStartLines image shape lines items) × (rest ≡ [])
same_lines image shape text lines rest items split is =
    let both = same_from_push is.lines lines [] rest (sym is.split ∙ split) in
    (subst (λ l. AreStartLines image shape l items) both.0 is.are, sym both.1)

-- a line with which no start text goes on is the first bad one
pub foreign_is_bad : (image : Image) (shape : Shape) (text : List ℕ) (lines : List (List ℕ)) (rest : List ℕ) (line : ℕ) → lines_in text ≡ lines ++ rest ∷ [] → IsForeign image shape lines line → IsFirstBadLine image shape text line
foreign_is_bad image shape text lines rest line split at = record {
  lines = lines;
  rest = rest;
  split = split;
  stand = at.stand;
  counted = at.counted;
  within = omega (arith, at.within);
  begins = at.begins;
  no_further = λ _. at.none;
  no_text = λ items is.
      let are = (same_lines image shape text lines rest items split is).0 in
      at.none (record { further = drop (at.stand + 1) lines; items = items; are = subst (λ l. AreStartLines image shape l items) (sym (take-append-drop (at.stand + 1) lines)) are });
}

-- where all lines were read, the text is a start text if it ends behind the end
pub read_whole : (image : Image) (shape : Shape) (text : List ℕ) (lines : List (List ℕ)) (rest : List ℕ) (items : List Item) → lines_in text ≡ lines ++ rest ∷ [] → AreRead image shape lines items
    → rest ≡ [] → slice_get items (length items - 1) ≡ Some item.End → 0 < length items → IsStartText image shape text items
read_whole image shape text lines rest items split read empty ends some = record {
  lines = lines;
  split = split ∙ ap (λ r. lines ++ r ∷ []) empty;
  are = record { start = record { begins = read.begins some; ends = ends; ascend = read.ascend; proper = read.proper }; spelled = read.spelled };
}

-- it says nothing else
pub says_once : (image : Image) (shape : Shape) (text : List ℕ) (lines : List (List ℕ)) (rest : List ℕ) (items others : List Item) → lines_in text ≡ lines ++ rest ∷ [] → AreRead image shape lines items
    → IsStartText image shape text others → others ≡ items
says_once image shape text lines rest items others split read is =
    let are = (same_lines image shape text lines rest others split is).0 in
    read.one others are.start.proper are.spelled

pub end_is_bad : (image : Image) (shape : Shape) (text : List ℕ) (lines : List (List ℕ)) (rest : List ℕ) (items : List Item) (count : ℕ) → lines_in text ≡ lines ++ rest ∷ [] → count ≡ length lines → AreRead image shape lines items
    → (rest ≡ [] → slice_get items (length items - 1) ≡ Some item.End → ⊥) → IsFirstBadLine image shape text (count + 1)
end_is_bad image shape text lines rest items count split counted read unended = record {
  lines = lines;
  rest = rest;
  split = split;
  stand = count;
  counted = refl;
  within = omega (arith, counted);
  begins = subst (Begins image shape) (sym (take_all count lines (omega (arith, counted)))) (begin_so_far image shape lines items read.spelled read.proper read.ascend read.begins);
  no_further = λ more. absurd (omega (arith, counted, more));
  no_text = λ others is.
      let both = same_lines image shape text lines rest others split is in
      let same : others ≡ items = says_once image shape text lines rest items others split read is in
      unended both.1 (subst (λ l. slice_get l (length l - 1) ≡ Some item.End) same both.0.start.ends);
}

refusal_of : (image : Image) (shape : Shape) (text : List ℕ) (lines : List (List ℕ)) (rest : List ℕ) (e : StartError) → lines_in text ≡ lines ++ rest ∷ [] → IsLinesRefusal image shape lines e → IsTextRefusal image shape text e
refusal_of image shape text lines rest (Line line) split at = foreign_is_bad image shape text lines rest line split at
refusal_of image shape text lines rest (NotACache set) split at = absurd at
refusal_of image shape text lines rest NoMemory split at = tt

-- the parts of a text as its lines and what stands behind them
pub record HasParts (text : List ℕ) (whole lines : List (Bor (List ℕ))) (rest : Bor (List ℕ)) : Type 0 where
  pub parts : map (λ p. p.now) whole ≡ lines_in text
  pub cut : whole ≡ lines ++ rest ∷ []

split_of : (text : List ℕ) (whole lines : List (Bor (List ℕ))) (rest : Bor (List ℕ)) → HasParts text whole lines rest → lines_in text ≡ map (λ p. p.now) lines ++ rest.now ∷ []
split_of text whole lines rest has = sym has.parts ∙ ap (map (λ p. p.now)) has.cut ∙ map-append (λ p. p.now) lines (rest ∷ [])

pub no_parts : (text : List ℕ) (whole : List (Bor (List ℕ))) → map (λ p. p.now) whole ≡ lines_in text → length whole ≡ 0 → ⊥
no_parts text whole parts none =
    let size : length (map (λ p. p.now) whole) ≡ length whole = length-map whole (λ p. p.now) in
    let same : length (map (λ p. p.now) whole) ≡ length (lines_in text) = ap length parts in
    let some = length-slice_split (λ b. b == 10) text in
    omega (arith, size, same, some, none)

pub refused_at : (image : Image) (shape : Shape) (text : List ℕ) (whole lines : List (Bor (List ℕ))) (rest : Bor (List ℕ)) (e : StartError) → HasParts text whole lines rest → IsLinesRefusal image shape (map (λ l. l.now) lines) e → IsTextRefusal image shape text e
refused_at image shape text whole lines rest e has at = refusal_of image shape text (map (λ l. l.now) lines) rest.now e (split_of text whole lines rest has) at

pub unended_at : (image : Image) (shape : Shape) (text : List ℕ) (whole lines : List (Bor (List ℕ))) (rest : Bor (List ℕ)) (items : List Item) → HasParts text whole lines rest → AreRead image shape (map (λ l. l.now) lines) items
    → (rest.now ≡ [] → slice_get items (length items - 1) ≡ Some item.End → ⊥) → IsFirstBadLine image shape text (length lines + 1)
unended_at image shape text whole lines rest items has read unended =
    end_is_bad image shape text (map (λ l. l.now) lines) rest.now items (length lines) (split_of text whole lines rest has) (sym (length-map lines (λ l. l.now))) read unended

pub whole_at : (image : Image) (shape : Shape) (text : List ℕ) (whole lines : List (Bor (List ℕ))) (rest : Bor (List ℕ)) (items : List Item) → HasParts text whole lines rest → AreRead image shape (map (λ l. l.now) lines) items
    → rest.now ≡ [] → slice_get items (length items - 1) ≡ Some item.End → IsStartText image shape text items
whole_at image shape text whole lines rest items has read empty ends =
    let inside = slice_get_within items (length items - 1) item.End ends in
    read_whole image shape text (map (λ l. l.now) lines) rest.now items (split_of text whole lines rest has) read empty ends (omega (arith, inside))

pub once_at : (image : Image) (shape : Shape) (text : List ℕ) (whole lines : List (Bor (List ℕ))) (rest : Bor (List ℕ)) (items others : List Item) → HasParts text whole lines rest → AreRead image shape (map (λ l. l.now) lines) items
    → IsStartText image shape text others → others ≡ items
once_at image shape text whole lines rest items others has read is =
    says_once image shape text (map (λ l. l.now) lines) rest.now items others (split_of text whole lines rest has) read is
