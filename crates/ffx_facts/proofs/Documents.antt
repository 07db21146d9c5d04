-- A document is spelled by pieces.
use Rattle.std.proofs.Common.{◌≡◌, ℕ, ◌+◌, Bool, true, false, List, [], ◌∷◌, ◌++◌, length, Some, None, refl, sym, ap, subst, ◌∙◌, arith, length-append, append_assoc, append-nil}
use Rattle.std.specs.Prelude.{Option, codes, is_some}
use Rattle.std.specs.Str.{bytes_eq}
use Rattle.std.proofs.lemmas.Bool.{false≢true}
use Rattle.std.proofs.lemmas.Slice.Eq.{bytes_eq-Decides}
use Rattle.ffx_facts.specs.declared.kind.Kind.{Kind}
use Rattle.ffx_facts.specs.declared.kind.Kind.TheVariants.{FlowFacts, Function, Loop, MultiBranch, MultiCall, Target}
use Rattle.ffx_facts.specs.declared.state.Stage.{Stage}
use Rattle.ffx_facts.specs.declared.state.Stage.TheVariants.{First, Ahead, Declared, Rooted}
use Rattle.ffx_facts.specs.declared.state.Part.{Part}
use Rattle.ffx_facts.specs.declared.state.Part.TheVariants as part
use Rattle.ffx_facts.specs.Pieces.{is_same_kind, name_of, holds}
use Rattle.ffx_facts.specs.Machine.{Attributes, Element, State, added, innermost, is_whole, may_declare, may_end, may_start, past_first, read_element, start, tail}
use Rattle.ffx_facts.specs.Grammar.{Piece, Follows, IsAttribute, IsSpelled, Leads, MayStand, behind_piece, spaces, spell, spell_all}
use Rattle.ffx_facts.specs.Grammar.Piece.{Mark, Blank, Comment, Declaration, Open, Attribute, Enter, Empty, End}
use Rattle.ffx_facts.specs.Document.{Given, IsSkip, IsProlog, AreAttributes, IsElement, IsContent, IsMark, IsDocument, attribute_bytes, element, end_tag, start_tag, value_of}
use Rattle.ffx_facts.specs.Document.IsSkip.{nothing, blank, comment}
use Rattle.ffx_facts.specs.Document.IsProlog.{plain, declared}
use Rattle.ffx_facts.specs.Document.AreAttributes.{none, one_more}
use Rattle.ffx_facts.specs.Document.IsElement.{empty, filled}
use Rattle.ffx_facts.specs.Document.IsContent.{skipped, around}
use Rattle.ffx_facts.specs.Document.IsMark.{absent, present}

-- ---- pieces one behind another

spell-append : (ps qs : List Piece) → spell_all (ps ++ qs) ≡ spell_all ps ++ spell_all qs
spell-append [] qs = refl
spell-append (p ∷ ps) qs = ap (λ (b : List ℕ). spell p ++ b) (spell-append ps qs) ∙ sym (append_assoc (spell p) (spell_all ps) (spell_all qs))

leads-append : (ps qs : List Piece) (s t u : State) → Leads s ps t → Leads t qs u → Leads s (ps ++ qs) u
leads-append [] qs s t u h k = subst (λ (x : State). Leads x qs u) (sym h) k
leads-append (p ∷ ps) qs s t u h k = (h.0, leads-append ps qs (behind_piece s p) t u h.1 k)

-- each byte of a piece moves the place by one
pub leads-place : (ps : List Piece) (s t : State) → Leads s ps t → t.place ≡ s.place + length (spell_all ps)
leads-place [] s t h = let e : s.place ≡ s.place + 0 = omega arith in ap (λ (x : State). x.place) (sym h) ∙ e
leads-place (p ∷ ps) s t h =
    let e : s.place + length (spell p) + length (spell_all ps) ≡ s.place + length (spell p ++ spell_all ps) = omega (arith, length-append (spell p) (spell_all ps)) in
    leads-place ps (behind_piece s p) t h.1 ∙ e

-- where a piece may stand does not change with how the part is known
follows : (s : State) (q : Part) (p : Piece) → s.part ≡ q → MayStand q s.stage s.nesting s.attributes p → Follows s p
follows s q p e h = subst (λ (x : Part). MayStand x s.stage s.nesting s.attributes p) (sym e) h

-- the bytes are pieces from a state, between two pieces, to another such state
record Takes (s : State) (bytes : List ℕ) (g : Stage) (n : List Kind) (es : List Element) : Type 0 where
  pieces : List Piece
  last : State
  spelled : bytes ≡ spell_all pieces
  leads : Leads s pieces last
  part : last.part ≡ part.Between
  stage : past_first last.stage ≡ g
  nesting : last.nesting ≡ n
  elements : last.elements ≡ es

-- what is known of a state between two pieces
record Stands (s : State) (p : ℕ) (g : Stage) (n : List Kind) (es : List Element) : Type 0 where
  part : s.part ≡ part.Between
  place : s.place ≡ p
  stage : past_first s.stage ≡ g
  nesting : s.nesting ≡ n
  elements : s.elements ≡ es

takes_nothing : (s : State) (place : ℕ) (stage : Stage) (nesting : List Kind) (elements : List Element) → Stands s place stage nesting elements → Takes s [] stage nesting elements
takes_nothing s place stage nesting elements h = record {
  pieces = [];
  last = s;
  spelled = refl;
  leads = refl;
  part = h.part;
  stage = h.stage;
  nesting = h.nesting;
  elements = h.elements;
}

-- a piece, and what comes behind it
piece_then : (p : Piece) (s : State) (bytes : List ℕ) (stage : Stage) (nesting : List Kind) (elements : List Element) → Follows s p → Takes (behind_piece s p) bytes stage nesting elements → Takes s (spell p ++ bytes) stage nesting elements
piece_then p s bytes stage nesting elements h t = record {
  pieces = p ∷ t.pieces;
  last = t.last;
  spelled = ap (λ (b : List ℕ). spell p ++ b) t.spelled;
  leads = (h, t.leads);
  part = t.part;
  stage = t.stage;
  nesting = t.nesting;
  elements = t.elements;
}

-- bytes, and what comes behind them
takes_then : (s : State) (a b : List ℕ) (stage stage' : Stage) (nesting nesting' : List Kind) (elements elements' : List Element) → Takes s a stage nesting elements
    → ((t : State) → Stands t (s.place + length a) stage nesting elements → Takes t b stage' nesting' elements') → Takes s (a ++ b) stage' nesting' elements'
takes_then s a b stage stage' nesting nesting' elements elements' t next =
    let place = leads-place t.pieces s t.last t.leads ∙ ap (λ (x : List ℕ). s.place + length x) (sym t.spelled) in
    let u = next t.last (record { part = t.part; place = place; stage = t.stage; nesting = t.nesting; elements = t.elements }) in
    record {
      pieces = t.pieces ++ u.pieces;
      last = u.last;
      spelled = ap (λ (x : List ℕ). x ++ b) t.spelled ∙ ap (λ (x : List ℕ). spell_all t.pieces ++ x) u.spelled ∙ sym (spell-append t.pieces u.pieces);
      leads = leads-append t.pieces u.pieces s t.last u.last t.leads u.leads;
      part = u.part;
      stage = u.stage;
      nesting = u.nesting;
      elements = u.elements;
    }

-- ---- white space and comments

pub past_twice : (stage : Stage) → past_first (past_first stage) ≡ past_first stage
past_twice First = refl
past_twice Ahead = refl
past_twice Declared = refl
past_twice Rooted = refl

skip_takes : (bytes : List ℕ) → IsSkip bytes → (s : State) (place : ℕ) (stage : Stage) (nesting : List Kind) (elements : List Element) → Stands s place stage nesting elements → Takes s bytes stage nesting elements
skip_takes _ nothing s place stage nesting elements h = takes_nothing s place stage nesting elements h
skip_takes _ (blank c more is next) s place stage nesting elements h =
    piece_then (Blank c) s more stage nesting elements (follows s part.Between (Blank c) h.part is)
    (skip_takes more next (behind_piece s (Blank c)) (s.place + 1) stage nesting elements
    (record { part = h.part; place = refl; stage = past_twice s.stage ∙ h.stage; nesting = h.nesting; elements = h.elements }))
skip_takes _ (comment body more is next) s place stage nesting elements h =
    piece_then (Comment body) s more stage nesting elements (follows s part.Between (Comment body) h.part is)
    (skip_takes more next (behind_piece s (Comment body)) (s.place + length (spell (Comment body))) stage nesting elements
    (record { part = h.part; place = refl; stage = past_twice s.stage ∙ h.stage; nesting = h.nesting; elements = h.elements }))

-- ---- start tags

-- attributes, one after another
abbrev pub adds : Attributes → List Given → Attributes
adds attributes [] = attributes
adds attributes (g ∷ given) = adds (added attributes g.name g.value) given

-- none of the attributes has a name that is taken
abbrev pub IsFree : Attributes → List Given → Type 0
IsFree attributes given = (name : List ℕ) → is_some (value_of given name) ≡ true → attributes name ≡ None

-- what the attributes say, else what was said
abbrev pub or_else : Option (List ℕ) → Option (List ℕ) → Option (List ℕ)
or_else None y = y
or_else (Some x) y = Some x

pub same_bytes : (a : List ℕ) → bytes_eq a a ≡ true
same_bytes a = (bytes_eq-Decides a a).1 refl

pub head_value : (g : Given) (given : List Given) → value_of (g ∷ given) g.name ≡ Some g.value
head_value g given = rw (same_bytes g.name) refl

-- the attributes behind the first have no name that is taken then
rest_free : (attributes : Attributes) (g : Given) (given : List Given) → value_of given g.name ≡ None → IsFree attributes (g ∷ given) → IsFree (added attributes g.name g.value) given
rest_free attributes g given new free name some = by (bytes_eq g.name name) refl
  where
    by : (b : Bool) → bytes_eq g.name name ≡ b → added attributes g.name g.value name ≡ None
    by true e =
        let same : g.name ≡ name = (bytes_eq-Decides g.name name).0 e in
        absurd (false≢true (ap is_some (sym (ap (value_of given) (sym same) ∙ new)) ∙ some))
    by false e = rw e (free name (rw e some))

-- the value of each attribute
pub adds_is : (given : List Given) (attributes : Attributes) (bytes : List ℕ) → AreAttributes given bytes → (name : List ℕ) → adds attributes given name ≡ or_else (value_of given name) (attributes name)
adds_is _ attributes _ none name = refl
adds_is _ attributes _ (one_more g given gap before after quote more named quoted within new next) name = adds_is given (added attributes g.name g.value) more next name ∙ by (bytes_eq g.name name) refl
  where
    by : (b : Bool) → bytes_eq g.name name ≡ b → or_else (value_of given name) (added attributes g.name g.value name) ≡ or_else (value_of (g ∷ given) name) (attributes name)
    by true e =
        let same : g.name ≡ name = (bytes_eq-Decides g.name name).0 e in
        let gone : value_of given name ≡ None = ap (value_of given) (sym same) ∙ new in
        rw (e, gone) refl
    by false e = rw e refl

-- the bytes are the attributes of a tag
record TakesTag (s : State) (given : List Given) (bytes : List ℕ) : Type 0 where
  pieces : List Piece
  place : ℕ
  spelled : bytes ≡ spell_all pieces
  leads : Leads s pieces (record s { attributes = adds s.attributes given; place = place })

pub attribute_spelled : (g : Given) (gap before after quote : ℕ) → attribute_bytes gap g before after quote ≡ spell (Attribute gap g.name before after quote g.value)
attribute_spelled g gap before after quote = simp append_assoc

attributes_take : (given : List Given) (bytes : List ℕ) → AreAttributes given bytes → (s : State) → s.part ≡ part.Behind → IsFree s.attributes given → TakesTag s given bytes
attributes_take _ _ none s at free = record { pieces = []; place = s.place; spelled = refl; leads = refl }
attributes_take _ _ (one_more g given gap before after quote more named quoted within new next) s at free =
    let p : Piece = Attribute gap g.name before after quote g.value in
    let is : IsAttribute s.attributes g.name quote g.value = record { named = named; new = free g.name (ap is_some (head_value g given)); quoted = quoted; within = within } in
    let t = attributes_take given more next (behind_piece s p) at (rest_free s.attributes g given new free) in
    record {
      pieces = p ∷ t.pieces;
      place = t.place;
      spelled = ap (λ (x : List ℕ). x ++ more) (attribute_spelled g gap before after quote) ∙ ap (λ (x : List ℕ). spell p ++ x) t.spelled;
      leads = (follows s part.Behind p at is, t.leads);
    }

-- ---- elements

same_kind : (kind : Kind) → is_same_kind kind kind ≡ true
same_kind FlowFacts = refl
same_kind Function = refl
same_kind Loop = refl
same_kind MultiBranch = refl
same_kind MultiCall = refl
same_kind Target = refl

is_rooted : (stage : Stage) → past_first stage ≡ Rooted → stage ≡ Rooted
is_rooted First h = cc
is_rooted Ahead h = h
is_rooted Declared h = h
is_rooted Rooted h = h

-- the state behind the name and the attributes of a start tag
abbrev tag_of : State → Kind → List Given → ℕ → State
tag_of s kind given place = record s {
  stage = past_first s.stage;
  kind = kind;
  at = s.place;
  attributes = adds (λ _. None) given;
  part = part.Behind;
  place = place;
}

-- the element that is then read
tag_element : (s : State) (kind : Kind) (given : List Given) (bytes : List ℕ) (place : ℕ) → AreAttributes given bytes → read_element (tag_of s kind given place) ≡ element kind s.place given
tag_element s kind given bytes place h =
    all_equal (of (codes "address")) (of (codes "label")) (of (codes "offset")) (of (codes "maxcount")) (of (codes "totalcount"))
  where
    back : (x : Option (List ℕ)) → or_else x None ≡ x
    back None = refl
    back (Some x) = refl

    of : (name : List ℕ) → adds (λ _. None) given name ≡ value_of given name
    of name = adds_is given (λ _. None) bytes h name ∙ back (value_of given name)

    all_equal : {a a' b b' c c' d d' t t' : Option (List ℕ)} → a ≡ a' → b ≡ b' → c ≡ c' → d ≡ d' → t ≡ t'
        → (let x : Element = record { kind = kind; at = s.place; address = a; label = b; offset = c; maxcount = d; totalcount = t } in x) ≡ (let x : Element = record { kind = kind; at = s.place; address = a'; label = b'; offset = c'; maxcount = d'; totalcount = t' } in x)
    all_equal e f g h i = cc

tag_place : (p place : ℕ) (o a b : List ℕ) → place ≡ p + length o + length b → a ≡ b → place ≡ p + length (o ++ a)
tag_place p place o a b e f =
    let long : p + length o + length a ≡ p + length (o ++ a) = omega (arith, length-append o a) in
    e ∙ ap (λ (x : List ℕ). p + length o + length x) (sym f) ∙ long

-- a start tag, up to what ends it
tag_then : (s : State) (kind : Kind) (given : List Given) (attributes bytes : List ℕ) (stage : Stage) (nesting : List Kind) (elements : List Element) → s.part ≡ part.Between → may_start s.stage (innermost s.nesting) kind ≡ true
    → AreAttributes given attributes → ((place : ℕ) → place ≡ s.place + length (spell (Open kind) ++ attributes) → Takes (tag_of s kind given place) bytes stage nesting elements) → Takes s (spell (Open kind) ++ (attributes ++ bytes)) stage nesting elements
tag_then s kind given attributes bytes stage nesting elements at may h next =
    let s' = behind_piece s (Open kind) in
    let t = attributes_take given attributes h s' refl (λ name k. refl) in
    let u = next t.place (tag_place s.place t.place (spell (Open kind)) attributes (spell_all t.pieces) (leads-place t.pieces s' (tag_of s kind given t.place) t.leads) t.spelled) in
    piece_then (Open kind) s (attributes ++ bytes) stage nesting elements (follows s part.Between (Open kind) at may)
    (record {
      pieces = t.pieces ++ u.pieces;
      last = u.last;
      spelled = ap (λ (x : List ℕ). x ++ bytes) t.spelled ∙ ap (λ (x : List ℕ). spell_all t.pieces ++ x) u.spelled ∙ sym (spell-append t.pieces u.pieces);
      leads = leads-append t.pieces u.pieces s' (tag_of s kind given t.place) u.last t.leads u.leads;
      part = u.part;
      stage = u.stage;
      nesting = u.nesting;
      elements = u.elements;
    })

-- the same state in other words
retarget : (s : State) (bytes bytes' : List ℕ) (g : Stage) (n n' : List Kind) (es es' : List Element) → Takes s bytes g n es → bytes' ≡ bytes → n ≡ n' → es ≡ es' → Takes s bytes' g n' es'
retarget s bytes bytes' g n n' es es' t e f h = record {
  pieces = t.pieces;
  last = t.last;
  spelled = e ∙ t.spelled;
  leads = t.leads;
  part = t.part;
  stage = t.stage;
  nesting = t.nesting ∙ f;
  elements = t.elements ∙ h;
}

may_in : (s : State) (outer : Kind) (n : List Kind) (kind : Kind) → past_first s.stage ≡ Rooted → s.nesting ≡ outer ∷ n → holds outer kind ≡ true → may_start s.stage (innermost s.nesting) kind ≡ true
may_in s outer n kind e f h = rw (is_rooted s.stage e, f) h

may_close : (s : State) (kind : Kind) (n : List Kind) → past_first s.stage ≡ Rooted → s.nesting ≡ kind ∷ n → may_end s.stage (innermost s.nesting) kind ≡ true
may_close s kind n e f = rw (is_rooted s.stage e, f) (same_kind kind)

-- an end tag
close_takes : (s : State) (kind : Kind) (gap : ℕ) (n : List Kind) → s.part ≡ part.Between → past_first s.stage ≡ Rooted → s.nesting ≡ kind ∷ n → Takes s (spell (End kind gap) ++ []) Rooted n s.elements
close_takes s kind gap n at e f =
    piece_then (End kind gap) s [] Rooted n s.elements (follows s part.Between (End kind gap) at (may_close s kind n e f))
    (takes_nothing (behind_piece s (End kind gap)) (s.place + length (spell (End kind gap))) Rooted n s.elements
    (record { part = at; place = refl; stage = e; nesting = ap tail f; elements = refl }))

pub empty_bytes : (kind : Kind) (attributes : List ℕ) (gap : ℕ) → start_tag kind attributes gap (codes "/>") ≡ spell (Open kind) ++ (attributes ++ (spell (Empty gap) ++ []))
empty_bytes kind attributes gap = simp (append_assoc, append-nil)

in_line : (o a g e c z : List ℕ) → o ++ a ++ g ++ e ++ c ++ z ≡ o ++ (a ++ ((g ++ e) ++ (c ++ (z ++ []))))
in_line o a g e c z = simp (append_assoc, append-nil)

filled_bytes : (kind : Kind) (attributes content : List ℕ) (gap gap' : ℕ) → start_tag kind attributes gap (codes ">") ++ content ++ end_tag kind gap' ≡ spell (Open kind) ++ (attributes ++ (spell (Enter gap) ++ (content ++ (spell (End kind gap') ++ []))))
filled_bytes kind attributes content gap gap' =
    ap (λ (z : List ℕ). start_tag kind attributes gap (codes ">") ++ content ++ z) (append_assoc (codes "</" ++ name_of kind) (spaces gap') (codes ">"))
    ∙ in_line (codes "<" ++ name_of kind) attributes (spaces gap) (codes ">") content (spell (End kind gap'))

pub start_bytes : (kind : Kind) (attributes : List ℕ) (gap : ℕ) → start_tag kind attributes gap (codes ">") ≡ (spell (Open kind) ++ attributes) ++ spell (Enter gap)
start_bytes kind attributes gap = simp append_assoc

pub place_of : (n : ℕ) (a b : List ℕ) → n + length a + length b ≡ n + length (a ++ b)
place_of n a b = omega (arith, length-append a b)

mutual
  element_takes : (kind : Kind) (place : ℕ) (bytes : List ℕ) (own : List Element) → IsElement kind place bytes own
      → (s : State) → s.part ≡ part.Between → s.place ≡ place → may_start s.stage (innermost s.nesting) kind ≡ true → Takes s bytes Rooted s.nesting (s.elements ++ own)
  element_takes kind place _ _ (empty _ _ gap given attributes h) s at here may =
      retarget s _ (start_tag kind attributes gap (codes "/>")) Rooted s.nesting s.nesting (s.elements ++ element kind s.place given ∷ []) (s.elements ++ element kind place given ∷ [])
      (tag_then s kind given attributes (spell (Empty gap) ++ []) Rooted s.nesting (s.elements ++ element kind s.place given ∷ []) at may h
      (λ place' e.
      let t = tag_of s kind given place' in
      piece_then (Empty gap) t [] Rooted s.nesting (s.elements ++ element kind s.place given ∷ []) tt
      (takes_nothing (behind_piece t (Empty gap)) (place' + length (spell (Empty gap))) Rooted s.nesting (s.elements ++ element kind s.place given ∷ [])
      (record { part = refl; place = refl; stage = refl; nesting = refl; elements = ap (λ (x : Element). s.elements ++ x ∷ []) (tag_element s kind given attributes place' h) }))))
      (empty_bytes kind attributes gap) refl (ap (λ (p : ℕ). s.elements ++ element kind p given ∷ []) here)
  element_takes kind place _ _ (filled _ _ gap gap' given attributes content inner h inside) s at here may =
      retarget s _ (start_tag kind attributes gap (codes ">") ++ content ++ end_tag kind gap') Rooted s.nesting s.nesting (s.elements ++ element kind s.place given ∷ inner) (s.elements ++ element kind place given ∷ inner)
      (tag_then s kind given attributes (spell (Enter gap) ++ (content ++ (spell (End kind gap') ++ []))) Rooted s.nesting (s.elements ++ element kind s.place given ∷ inner) at may h
      (λ place' e.
      let t = tag_of s kind given place' in
      let u = behind_piece t (Enter gap) in
      let there : u.place ≡ place + length (start_tag kind attributes gap (codes ">")) =
      ap (λ (p : ℕ). p + length (spell (Enter gap))) e ∙ place_of s.place (spell (Open kind) ++ attributes) (spell (Enter gap))
      ∙ ap (λ (b : List ℕ). s.place + length b) (sym (start_bytes kind attributes gap)) ∙ ap (λ (p : ℕ). p + length (start_tag kind attributes gap (codes ">"))) here in
      let begun : u.elements ++ inner ≡ s.elements ++ element kind s.place given ∷ inner =
      append_assoc s.elements (read_element t ∷ []) inner ∙ ap (λ (x : Element). s.elements ++ x ∷ inner) (tag_element s kind given attributes place' h) in
      piece_then (Enter gap) t (content ++ (spell (End kind gap') ++ [])) Rooted s.nesting (s.elements ++ element kind s.place given ∷ inner) tt
      (takes_then u content (spell (End kind gap') ++ []) Rooted Rooted (kind ∷ s.nesting) s.nesting (u.elements ++ inner) (s.elements ++ element kind s.place given ∷ inner)
      (content_takes kind _ content inner inside u s.nesting refl there refl refl)
      (λ v at'. retarget v _ _ Rooted s.nesting s.nesting v.elements _ (close_takes v kind gap' s.nesting at'.part at'.stage at'.nesting) refl refl (at'.elements ∙ begun)))))
      (filled_bytes kind attributes content gap gap') refl (ap (λ (p : ℕ). s.elements ++ element kind p given ∷ inner) here)

  content_takes : (outer : Kind) (place : ℕ) (bytes : List ℕ) (own : List Element) → IsContent outer place bytes own
      → (s : State) (n : List Kind) → s.part ≡ part.Between → s.place ≡ place → past_first s.stage ≡ Rooted → s.nesting ≡ outer ∷ n → Takes s bytes Rooted s.nesting (s.elements ++ own)
  content_takes outer place _ _ (skipped _ _ skip h) s n at here e f =
      skip_takes skip h s s.place Rooted s.nesting (s.elements ++ []) (record { part = at; place = refl; stage = e; nesting = refl; elements = sym (append-nil s.elements) })
  content_takes outer place _ _ (around _ kind _ skip bytes more first others skips holds one next) s n at here e f =
      takes_then s (skip ++ bytes) more Rooted Rooted s.nesting s.nesting (s.elements ++ first) (s.elements ++ (first ++ others))
      (takes_then s skip bytes Rooted Rooted s.nesting s.nesting s.elements (s.elements ++ first)
      (skip_takes skip skips s s.place Rooted s.nesting s.elements (record { part = at; place = refl; stage = e; nesting = refl; elements = refl }))
      (λ t st. retarget t _ bytes Rooted t.nesting s.nesting (t.elements ++ first) (s.elements ++ first)
      (element_takes kind _ bytes first one t st.part (st.place ∙ ap (λ (p : ℕ). p + length skip) here) (may_in t outer n kind st.stage (st.nesting ∙ f) holds))
      refl st.nesting (ap (λ (es : List Element). es ++ first) st.elements)))
      (λ t st. retarget t _ more Rooted t.nesting s.nesting (t.elements ++ others) (s.elements ++ (first ++ others))
      (content_takes outer _ more others next t n st.part (st.place ∙ ap (λ (p : ℕ). p + length (skip ++ bytes)) here) st.stage (st.nesting ∙ f))
      refl st.nesting (ap (λ (es : List Element). es ++ others) st.elements ∙ append_assoc s.elements first others))

-- ---- documents

-- what is known behind the mark, and before the root
mark_takes : (bytes : List ℕ) → IsMark bytes → Takes start bytes Ahead [] []
mark_takes _ absent = takes_nothing start 0 Ahead [] [] (record { part = refl; place = refl; stage = refl; nesting = refl; elements = refl })
mark_takes _ present =
    piece_then Mark start [] Ahead [] [] refl
    (takes_nothing (behind_piece start Mark) 3 Ahead [] [] (record { part = refl; place = refl; stage = refl; nesting = refl; elements = refl }))

-- the stage before the root
abbrev IsOpen : Stage → Type 0
IsOpen g = (x : Stage) → past_first x ≡ g → may_start x None FlowFacts ≡ true

open_ahead : IsOpen Ahead
open_ahead First e = refl
open_ahead Ahead e = refl
open_ahead Declared e = refl
open_ahead Rooted e = cc

open_declared : IsOpen Declared
open_declared First e = refl
open_declared Ahead e = refl
open_declared Declared e = refl
open_declared Rooted e = cc

may_declare_ahead : (x : Stage) → past_first x ≡ Ahead → may_declare x ≡ true
may_declare_ahead First e = refl
may_declare_ahead Ahead e = refl
may_declare_ahead Declared e = cc
may_declare_ahead Rooted e = cc

prolog_takes : (bytes : List ℕ) → IsProlog bytes → (s : State) (place : ℕ) → Stands s place Ahead [] [] → (g : Stage) × (IsOpen g × Takes s bytes g [] [])
prolog_takes _ (plain skip h) s place st = (Ahead, (open_ahead, skip_takes skip h s place Ahead [] [] st))
prolog_takes _ (declared before body after h clean k) s place st = (
  Declared,
  (
    open_declared,
    retarget s (before ++ (spell (Declaration body) ++ after)) _ Declared [] [] [] []
        (takes_then s before (spell (Declaration body) ++ after) Ahead Declared [] [] [] [] (skip_takes before h s place Ahead [] [] st)
        (λ t at. piece_then (Declaration body) t after Declared [] [] (follows t part.Between (Declaration body) at.part (may_declare_ahead t.stage at.stage, clean))
        (skip_takes after k (behind_piece t (Declaration body)) (t.place + length (spell (Declaration body))) Declared [] []
        (record { part = at.part; place = refl; stage = refl; nesting = at.nesting; elements = at.elements }))))
        (append_assoc before (spell (Declaration body)) after) refl refl,
  ),
)

whole_end : (s : State) → s.part ≡ part.Between → past_first s.stage ≡ Rooted → s.nesting ≡ [] → is_whole s ≡ true
whole_end s e f h = rw (h, is_rooted s.stage f, e) refl

may_open : (s : State) (g : Stage) → IsOpen g → past_first s.stage ≡ g → s.nesting ≡ [] → may_start s.stage (innermost s.nesting) FlowFacts ≡ true
may_open s g o e f = ap (λ (n : List Kind). may_start s.stage (innermost n) FlowFacts) f ∙ o s.stage e

both_take : (s : State) (a b : List ℕ) (g g' : Stage) (n n' : List Kind) (es es' : List Element) (t : Takes s a g n es) → Takes t.last b g' n' es' → Takes s (a ++ b) g' n' es'
both_take s a b g g' n n' es es' t u = record {
  pieces = t.pieces ++ u.pieces;
  last = u.last;
  spelled = ap (λ (x : List ℕ). x ++ b) t.spelled ∙ ap (λ (x : List ℕ). spell_all t.pieces ++ x) u.spelled ∙ sym (spell-append t.pieces u.pieces);
  leads = leads-append t.pieces u.pieces s t.last u.last t.leads u.leads;
  part = u.part;
  stage = u.stage;
  nesting = u.nesting;
  elements = u.elements;
}

ahead_takes : (mark prolog : List ℕ) → IsMark mark → IsProlog prolog → (g : Stage) × (IsOpen g × Takes start (mark ++ prolog) g [] [])
ahead_takes mark prolog h k = of (mark_takes mark h)
  where
    of : Takes start mark Ahead [] [] → (g : Stage) × (IsOpen g × Takes start (mark ++ prolog) g [] [])
    of t =
        let p = prolog_takes prolog k t.last t.last.place (record { part = t.part; place = refl; stage = t.stage; nesting = t.nesting; elements = t.elements }) in
        (p.0, (p.1.0, both_take start mark prolog Ahead p.0 [] [] [] [] t p.1.1))

from_nought : (n : ℕ) → 0 + n ≡ n
from_nought n = omega arith

-- a document is spelled by pieces, with the same elements
pub document_is_spelled : (bytes : List ℕ) (elements : List Element) → IsDocument bytes elements → IsSpelled bytes elements
document_is_spelled bytes elements d =
    let ahead = ahead_takes d.mark d.prolog d.marked d.ahead in
    let whole : Takes start (d.mark ++ d.prolog ++ d.root ++ d.after) Rooted [] elements =
    takes_then start (d.mark ++ d.prolog ++ d.root) d.after Rooted Rooted [] [] elements elements
    (takes_then start (d.mark ++ d.prolog) d.root ahead.0 Rooted [] [] [] elements ahead.1.1
    (λ t at. retarget t _ d.root Rooted t.nesting [] (t.elements ++ elements) elements
    (element_takes FlowFacts (length (d.mark ++ d.prolog)) d.root elements d.rooted t at.part (at.place ∙ from_nought (length (d.mark ++ d.prolog))) (may_open t ahead.0 ahead.1.0 at.stage at.nesting))
    refl at.nesting (ap (λ (es : List Element). es ++ elements) at.elements)))
    (λ t at. skip_takes d.after d.behind t _ Rooted [] elements at) in
    record {
      pieces = whole.pieces;
      last = whole.last;
      spelled = d.is ∙ whole.spelled;
      leads = whole.leads;
      whole = whole_end whole.last whole.part whole.stage whole.nesting;
      has = whole.elements;
    }
