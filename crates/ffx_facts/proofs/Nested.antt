-- What is spelled by pieces is a document.
use Rattle.std.proofs.Common.{◌≡◌, ℕ, ◌+◌, Bool, true, false, ◌&&◌, List, [], ◌∷◌, ◌++◌, length, Some, None, refl, sym, ap, subst, ◌∙◌, arith, append_assoc, append-nil}
use Rattle.std.specs.Prelude.{Option, codes, is_some}
use Rattle.std.specs.Str.{bytes_eq}
use Rattle.std.proofs.lemmas.Bool.{and_parts, false≢true}
use Rattle.std.proofs.lemmas.Slice.Eq.{bytes_eq-Decides}
use Rattle.ffx_facts.specs.declared.kind.Kind.{Kind}
use Rattle.ffx_facts.specs.declared.kind.Kind.TheVariants.{FlowFacts, Function, Loop, MultiBranch, MultiCall, Target}
use Rattle.ffx_facts.specs.declared.state.Stage.{Stage}
use Rattle.ffx_facts.specs.declared.state.Stage.TheVariants.{First, Ahead, Declared, Rooted}
use Rattle.ffx_facts.specs.declared.state.Part.{Part}
use Rattle.ffx_facts.specs.declared.state.Part.TheVariants as part
use Rattle.ffx_facts.specs.Pieces.{holds, is_same_kind, name_of}
use Rattle.ffx_facts.specs.Machine.{Attributes, Element, State, added, innermost, is_between, is_empty, is_first, is_rooted, is_whole, may_declare, may_end, may_start, past_first, read_element, start, tail}
use Rattle.ffx_facts.specs.Grammar.{Piece, IsAttribute, IsSpelled, Leads, MayStand, NoPair, behind_piece, spaces, spell, spell_all}
use Rattle.ffx_facts.specs.Grammar.Piece.{Mark, Blank, Comment, Declaration, Open, Attribute, Enter, Empty, End}
use Rattle.ffx_facts.specs.Document.{Given, IsSkip, IsProlog, AreAttributes, IsElement, IsContent, IsMark, IsDocument, attribute_bytes, element, end_tag, start_tag, value_of}
use Rattle.ffx_facts.specs.Document.IsSkip.{nothing, blank, comment}
use Rattle.ffx_facts.specs.Document.IsProlog.{plain, declared}
use Rattle.ffx_facts.specs.Document.AreAttributes.{none, one_more}
use Rattle.ffx_facts.specs.Document.IsElement.{empty, filled}
use Rattle.ffx_facts.specs.Document.IsContent.{skipped, around}
use Rattle.ffx_facts.specs.Document.IsMark.{absent, present}
use Rattle.ffx_facts.proofs.Endings.{in_part}
use Rattle.ffx_facts.proofs.Documents.{IsFree, attribute_spelled, or_else, place_of, same_bytes, start_bytes}

-- ---- elements within one another

-- the bytes are what is left of the elements that were begun, the innermost first, and of the file
data Closes : List Kind → ℕ → List ℕ → List Element → Type 0 where
  last : (place : ℕ) (skip : List ℕ) → IsSkip skip → Closes [] place skip []
  up : (kind : Kind) (n : List Kind) (place gap : ℕ) (content rest : List ℕ) (inner others : List Element) → IsContent kind place content inner
      → Closes n (place + length (content ++ end_tag kind gap)) rest others → Closes (kind ∷ n) place (content ++ end_tag kind gap ++ rest) (inner ++ others)

-- bytes before white space and comments that make more of them
abbrev Joins : List ℕ → Type 0
Joins x = (b : List ℕ) → IsSkip b → IsSkip (x ++ b)

at_place_element : (kind : Kind) (p q : ℕ) (bytes : List ℕ) (es : List Element) → p ≡ q → IsElement kind p bytes es → IsElement kind q bytes es
at_place_element kind p q bytes es e h = subst (λ (x : ℕ). IsElement kind x bytes es) e h

at_place_content : (kind : Kind) (p q : ℕ) (bytes : List ℕ) (es : List Element) → p ≡ q → IsContent kind p bytes es → IsContent kind q bytes es
at_place_content kind p q bytes es e h = subst (λ (x : ℕ). IsContent kind x bytes es) e h

at_place_closes : (n : List Kind) (p q : ℕ) (bytes : List ℕ) (es : List Element) → p ≡ q → Closes n p bytes es → Closes n q bytes es
at_place_closes n p q bytes es e h = subst (λ (x : ℕ). Closes n x bytes es) e h

content_joins : (x : List ℕ) → Joins x → (outer : Kind) (at place : ℕ) (bytes : List ℕ) (own : List Element) → at ≡ place + length x → IsContent outer at bytes own → IsContent outer place (x ++ bytes) own
content_joins x join outer at place _ _ e (skipped _ _ skip h) = skipped outer place (x ++ skip) (join skip h)
content_joins x join outer at place _ _ e (around _ kind _ skip bytes more first others skips holds one next) =
    let near : at + length skip ≡ place + length (x ++ skip) = ap (λ (p : ℕ). p + length skip) e ∙ place_of place x skip in
    let far : at + length (skip ++ bytes) ≡ place + length (x ++ skip ++ bytes) =
    ap (λ (p : ℕ). p + length (skip ++ bytes)) e ∙ place_of place x (skip ++ bytes) ∙ ap (λ (b : List ℕ). place + length b) (sym (append_assoc x skip bytes)) in
    let line : x ++ skip ++ bytes ++ more ≡ x ++ (skip ++ bytes ++ more) = simp append_assoc in
    subst (λ (b : List ℕ). IsContent outer place b (first ++ others)) line
    (around outer kind place (x ++ skip) bytes more first others (join skip skips) holds (at_place_element kind _ _ bytes first near one) (at_place_content outer _ _ more others far next))

closes_joins : (x : List ℕ) → Joins x → (n : List Kind) (at place : ℕ) (bytes : List ℕ) (own : List Element) → at ≡ place + length x → Closes n at bytes own → Closes n place (x ++ bytes) own
closes_joins x join _ at place _ _ e (last _ skip h) = last place (x ++ skip) (join skip h)
closes_joins x join _ at place _ _ e (up kind n _ gap content rest inner others inside next) =
    let far : at + length (content ++ end_tag kind gap) ≡ place + length (x ++ content ++ end_tag kind gap) =
    ap (λ (p : ℕ). p + length (content ++ end_tag kind gap)) e ∙ place_of place x (content ++ end_tag kind gap) ∙ ap (λ (b : List ℕ). place + length b) (sym (append_assoc x content (end_tag kind gap))) in
    subst (λ (b : List ℕ). Closes (kind ∷ n) place b (inner ++ others)) (append_assoc (x ++ content) (end_tag kind gap) rest ∙ append_assoc x content (end_tag kind gap ++ rest) ∙ ap (λ (b : List ℕ). x ++ b) (sym (append_assoc content (end_tag kind gap) rest)))
    (up kind n place gap (x ++ content) rest inner others (content_joins x join kind at place content inner e inside) (at_place_closes n _ _ rest others far next))

-- an element at the front of what is left of the one around it
closes_element : (outer kind : Kind) (n : List Kind) (place at : ℕ) (bytes rest : List ℕ) (first others : List Element) → holds outer kind ≡ true → IsElement kind place bytes first → at ≡ place + length bytes
    → Closes (outer ∷ n) at rest others → Closes (outer ∷ n) place (bytes ++ rest) (first ++ others)
closes_element outer kind n place at bytes _ first _ held one e (up _ _ _ gap content rest inner others inside next) =
    let near : place ≡ place + length (codes "") = omega arith in
    let far : at + length (content ++ end_tag outer gap) ≡ place + length (bytes ++ content ++ end_tag outer gap) =
    ap (λ (p : ℕ). p + length (content ++ end_tag outer gap)) e ∙ place_of place bytes (content ++ end_tag outer gap) ∙ ap (λ (b : List ℕ). place + length b) (sym (append_assoc bytes content (end_tag outer gap))) in
    let line : bytes ++ content ++ end_tag outer gap ++ rest ≡ bytes ++ (content ++ end_tag outer gap ++ rest) =
    append_assoc (bytes ++ content) (end_tag outer gap) rest ∙ append_assoc bytes content (end_tag outer gap ++ rest) ∙ ap (λ (b : List ℕ). bytes ++ b) (sym (append_assoc content (end_tag outer gap) rest)) in
    subst (λ (b : List ℕ). Closes (outer ∷ n) place b (first ++ (inner ++ others))) line
    (subst (λ (es : List Element). Closes (outer ∷ n) place (bytes ++ content ++ end_tag outer gap ++ rest) es) (append_assoc first inner others)
    (up outer n place gap (bytes ++ content) rest (first ++ inner) others
    (around outer kind place [] bytes content first inner nothing held (at_place_element kind _ _ bytes first near one) (at_place_content outer _ _ content inner e inside))
    (at_place_closes n _ _ rest others far next)))

-- an end tag at the front
closes_end : (kind : Kind) (n : List Kind) (place at gap : ℕ) (rest : List ℕ) (others : List Element) → at ≡ place + length (end_tag kind gap) → Closes n at rest others → Closes (kind ∷ n) place (end_tag kind gap ++ rest) others
closes_end kind n place at gap rest others e next = up kind n place gap [] rest [] others (skipped kind place [] nothing) (at_place_closes n _ _ rest others e next)

-- ---- start tags

-- an element by what is said of its attributes
abbrev said : Kind → ℕ → Attributes → Element
said kind at attributes = record {
  kind = kind;
  at = at;
  address = attributes (codes "address");
  label = attributes (codes "label");
  offset = attributes (codes "offset");
  maxcount = attributes (codes "maxcount");
  totalcount = attributes (codes "totalcount");
}

said_same : (kind : Kind) (at : ℕ) (a b : Attributes) → ((name : List ℕ) → a name ≡ b name) → said kind at a ≡ said kind at b
said_same kind at a b e = all_equal (e (codes "address")) (e (codes "label")) (e (codes "offset")) (e (codes "maxcount")) (e (codes "totalcount"))
  where
    all_equal : {p p' q q' r r' s s' t t' : Option (List ℕ)} → p ≡ p' → q ≡ q' → r ≡ r' → s ≡ s' → t ≡ t'
        → (let x : Element = record { kind = kind; at = at; address = p; label = q; offset = r; maxcount = s; totalcount = t } in x) ≡ (let x : Element = record { kind = kind; at = at; address = p'; label = q'; offset = r'; maxcount = s'; totalcount = t' } in x)
    all_equal e f g h i = cc

-- what the attributes say, beside those before them
abbrev beside : List Given → Attributes → Attributes
beside given attributes name = or_else (value_of given name) (attributes name)

-- the end of a start tag, and what is left behind it
data TagEnds (kind : Kind) (n : List Kind) (place : ℕ) : List ℕ → List Element → Type 0 where
  at_empty : (gap : ℕ) (rest : List ℕ) (others : List Element) → Closes n (place + length (spell (Empty gap))) rest others → TagEnds kind n place (spell (Empty gap) ++ rest) others
  at_enter : (gap : ℕ) (rest : List ℕ) (others : List Element) → Closes (kind ∷ n) (place + length (spell (Enter gap))) rest others → TagEnds kind n place (spell (Enter gap) ++ rest) others

-- the bytes are what is left of a start tag, and of what was begun before
record TagRest (kind : Kind) (at place : ℕ) (attributes : Attributes) (n : List Kind) (bytes : List ℕ) (new : List Element) : Type 0 where
  given : List Given
  taken : List ℕ
  rest : List ℕ
  others : List Element
  are : AreAttributes given taken
  free : IsFree attributes given
  is : bytes ≡ taken ++ rest
  ends : TagEnds kind n (place + length taken) rest others
  all : new ≡ said kind at (beside given attributes) ∷ others

no_attributes : (kind : Kind) (at place : ℕ) (attributes : Attributes) (n : List Kind) (bytes : List ℕ) (others : List Element) → TagEnds kind n place bytes others → TagRest kind at place attributes n bytes (said kind at attributes ∷ others)
no_attributes kind at place attributes n bytes others h =
    let e : place ≡ place + 0 = omega arith in
    record {
      given = [];
      taken = [];
      rest = bytes;
      others = others;
      are = none;
      free = λ name k. cc;
      is = refl;
      ends = subst (λ (p : ℕ). TagEnds kind n p bytes others) e h;
      all = refl;
    }

-- the name of the first attribute is none of the others'
first_new : (attributes : Attributes) (g : Given) (given : List Given) → IsFree (added attributes g.name g.value) given → value_of given g.name ≡ None
first_new attributes g given free = by (value_of given g.name) refl
  where
    taken : added attributes g.name g.value g.name ≡ Some g.value
    taken = rw (same_bytes g.name) refl

    by : (o : Option (List ℕ)) → value_of given g.name ≡ o → value_of given g.name ≡ None
    by None e = e
    by (Some x) e = let clash : Some g.value ≡ None = sym taken ∙ free g.name (ap is_some e) in cc

-- what is free behind an attribute with a new name is free before it
free_before : (attributes : Attributes) (g : Given) (given : List Given) → attributes g.name ≡ None → IsFree (added attributes g.name g.value) given → IsFree attributes (g ∷ given)
free_before attributes g given new free name some = by (bytes_eq g.name name) refl
  where
    by : (b : Bool) → bytes_eq g.name name ≡ b → attributes name ≡ None
    by true e = ap attributes (sym ((bytes_eq-Decides g.name name).0 e)) ∙ new
    by false e = let later : is_some (value_of given name) ≡ true = rw (sym (let skip : value_of (g ∷ given) name ≡ value_of given name = rw e refl in skip)) some in rw (sym (let past : added attributes g.name g.value name ≡ attributes name = rw e refl in past)) (free name later)

beside_first : (attributes : Attributes) (g : Given) (given : List Given) → value_of given g.name ≡ None → (name : List ℕ) → beside given (added attributes g.name g.value) name ≡ beside (g ∷ given) attributes name
beside_first attributes g given new name = by (bytes_eq g.name name) refl
  where
    by : (b : Bool) → bytes_eq g.name name ≡ b → beside given (added attributes g.name g.value) name ≡ beside (g ∷ given) attributes name
    by true e =
        let gone : value_of given name ≡ None = ap (value_of given) (sym ((bytes_eq-Decides g.name name).0 e)) ∙ new in
        rw (e, gone) refl
    by false e = rw e refl

one_attribute : (kind : Kind) (at place : ℕ) (attributes : Attributes) (n : List Kind) (gap before after quote : ℕ) (name value bytes : List ℕ) (new : List Element) → IsAttribute attributes name quote value
    → TagRest kind at (place + length (spell (Attribute gap name before after quote value))) (added attributes name value) n bytes new → TagRest kind at place attributes n (spell (Attribute gap name before after quote value) ++ bytes) new
one_attribute kind at place attributes n gap before after quote name value bytes new h t =
    let g : Given = record { name = name; value = value } in
    let p : List ℕ = spell (Attribute gap name before after quote value) in
    let fresh = first_new attributes g t.given t.free in
    let spelled = attribute_spelled g gap before after quote in
    record {
      given = g ∷ t.given;
      taken = attribute_bytes gap g before after quote ++ t.taken;
      rest = t.rest;
      others = t.others;
      are = one_more g t.given gap before after quote t.taken h.named h.quoted h.within fresh t.are;
      free = free_before attributes g t.given h.new t.free;
      is = ap (λ (x : List ℕ). p ++ x) t.is ∙ sym (append_assoc p t.taken t.rest) ∙ ap (λ (x : List ℕ). x ++ t.taken ++ t.rest) (sym spelled);
      ends = subst (λ (m : ℕ). TagEnds kind n m t.rest t.others) (place_of place p t.taken ∙ ap (λ (x : List ℕ). place + length (x ++ t.taken)) (sym spelled)) t.ends;
      all = t.all ∙ ap (λ (e : Element). e ∷ t.others) (said_same kind at (beside t.given (added attributes name value)) (beside (g ∷ t.given) attributes) (beside_first attributes g t.given fresh));
    }

-- an element, and what is left behind it
record ElementThen (kind : Kind) (place : ℕ) (n : List Kind) (bytes : List ℕ) (new : List Element) : Type 0 where
  own : List ℕ
  rest : List ℕ
  first : List Element
  others : List Element
  is : bytes ≡ own ++ rest
  one : IsElement kind place own first
  closes : Closes n (place + length own) rest others
  all : new ≡ first ++ others

beside_none : (kind : Kind) (at : ℕ) (given : List Given) → said kind at (beside given (λ _. None)) ≡ element kind at given
beside_none kind at given = said_same kind at (beside given (λ _. None)) (value_of given) (λ name. back (value_of given name))
  where
    back : (x : Option (List ℕ)) → or_else x None ≡ x
    back None = refl
    back (Some x) = refl

tag_bytes : (kind : Kind) (taken : List ℕ) (gap : ℕ) → start_tag kind taken gap (codes "/>") ≡ (spell (Open kind) ++ taken) ++ spell (Empty gap)
tag_bytes kind taken gap = simp append_assoc

end_bytes : (kind : Kind) (gap : ℕ) → end_tag kind gap ≡ spell (End kind gap)
end_bytes kind gap = append_assoc (codes "</" ++ name_of kind) (spaces gap) (codes ">")

-- a start tag by its pieces, and what is behind it
in_pieces : (o t e rest whole : List ℕ) → whole ≡ (o ++ t) ++ e → o ++ (t ++ (e ++ rest)) ≡ whole ++ rest
in_pieces o t e rest whole h = let line : o ++ (t ++ (e ++ rest)) ≡ (o ++ t) ++ e ++ rest = sym (simp append_assoc) in line ∙ ap (λ (x : List ℕ). x ++ rest) (sym h)

place_in_pieces : (place : ℕ) (o t e whole : List ℕ) → whole ≡ (o ++ t) ++ e → place + length o + length t + length e ≡ place + length whole
place_in_pieces place o t e whole h = ap (λ (p : ℕ). p + length e) (place_of place o t) ∙ place_of place (o ++ t) e ∙ ap (λ (x : List ℕ). place + length x) (sym h)

tag_closes : (kind : Kind) (place : ℕ) (n : List Kind) (given : List Given) (taken rest : List ℕ) (others : List Element) → AreAttributes given taken → TagEnds kind n (place + length (spell (Open kind)) + length taken) rest others
    → ElementThen kind place n (spell (Open kind) ++ (taken ++ rest)) (element kind place given ∷ others)
tag_closes kind place n given taken _ _ are (at_empty gap rest others c) =
    let tag = tag_bytes kind taken gap in
    record {
      own = start_tag kind taken gap (codes "/>");
      rest = rest;
      first = element kind place given ∷ [];
      others = others;
      is = in_pieces (spell (Open kind)) taken (spell (Empty gap)) rest _ tag;
      one = empty kind place gap given taken are;
      closes = at_place_closes n _ _ rest others (place_in_pieces place (spell (Open kind)) taken (spell (Empty gap)) _ tag) c;
      all = refl;
    }
tag_closes kind place n given taken _ _ are (at_enter gap rest others c) = of rest others c
  where
    tag : start_tag kind taken gap (codes ">") ≡ (spell (Open kind) ++ taken) ++ spell (Enter gap)
    tag = start_bytes kind taken gap

    here : place + length (spell (Open kind)) + length taken + length (spell (Enter gap)) ≡ place + length (start_tag kind taken gap (codes ">"))
    here = place_in_pieces place (spell (Open kind)) taken (spell (Enter gap)) _ tag

    of : (rest : List ℕ) (others : List Element) → Closes (kind ∷ n) (place + length (spell (Open kind)) + length taken + length (spell (Enter gap))) rest others
        → ElementThen kind place n (spell (Open kind) ++ (taken ++ (spell (Enter gap) ++ rest))) (element kind place given ∷ others)
    of _ _ (up _ _ _ gap' content rest inner others inside next) =
        let s : List ℕ = start_tag kind taken gap (codes ">") in
        let z : List ℕ = end_tag kind gap' in
        record {
          own = s ++ content ++ z;
          rest = rest;
          first = element kind place given ∷ inner;
          others = others;
          is = in_pieces (spell (Open kind)) taken (spell (Enter gap)) (content ++ z ++ rest) s tag ∙ (sym (append_assoc s (content ++ z) rest) ∙ ap (λ (x : List ℕ). x ++ rest) (sym (append_assoc s content z)));
          one = filled kind place gap gap' given taken content inner are (at_place_content kind _ _ content inner here inside);
          closes = at_place_closes n _ _ rest others (ap (λ (p : ℕ). p + length (content ++ z)) here ∙ place_of place s (content ++ z) ∙ ap (λ (x : List ℕ). place + length x) (sym (append_assoc s content z))) next;
          all = refl;
        }

-- an element from its `<` on
element_then : (kind : Kind) (place : ℕ) (n : List Kind) (bytes : List ℕ) (new : List Element) → TagRest kind place (place + length (spell (Open kind))) (λ _. None) n bytes new → ElementThen kind place n (spell (Open kind) ++ bytes) new
element_then kind place n bytes new t =
    let w = tag_closes kind place n t.given t.taken t.rest t.others t.are t.ends in
    record {
      own = w.own;
      rest = w.rest;
      first = w.first;
      others = w.others;
      is = ap (λ (x : List ℕ). spell (Open kind) ++ x) t.is ∙ w.is;
      one = w.one;
      closes = w.closes;
      all = t.all ∙ ap (λ (e : Element). e ∷ t.others) (beside_none kind place t.given) ∙ w.all;
    }

-- ---- the root and what is around it

-- the mark, and what stands before the root
data IsHead : List ℕ → Type 0 where
  head : (mark prolog : List ℕ) → IsMark mark → IsProlog prolog → IsHead (mark ++ prolog)

-- the bytes are what is left of a document whose root was not begun
record Rooting (IsFront : List ℕ → Type 0) (place : ℕ) (bytes : List ℕ) (new : List Element) : Type 0 where
  front : List ℕ
  root : List ℕ
  after : List ℕ
  is : bytes ≡ front ++ root ++ after
  ahead : IsFront front
  rooted : IsElement FlowFacts (place + length front) root new
  behind : IsSkip after

rooting_joins : (P Q : List ℕ → Type 0) (x : List ℕ) → ((b : List ℕ) → P b → Q (x ++ b)) → (at place : ℕ) (bytes : List ℕ) (new : List Element) → at ≡ place + length x → Rooting P at bytes new → Rooting Q place (x ++ bytes) new
rooting_joins P Q x join at place bytes new e r = record {
  front = x ++ r.front;
  root = r.root;
  after = r.after;
  is = ap (λ (b : List ℕ). x ++ b) r.is ∙ (let line : x ++ (r.front ++ r.root ++ r.after) ≡ x ++ r.front ++ r.root ++ r.after = sym (simp append_assoc) in line);
  ahead = join r.front r.ahead;
  rooted = at_place_element FlowFacts _ _ r.root new (ap (λ (p : ℕ). p + length r.front) e ∙ place_of place x r.front) r.rooted;
  behind = r.behind;
}

prolog_joins : (x : List ℕ) → Joins x → (b : List ℕ) → IsProlog b → IsProlog (x ++ b)
prolog_joins x join _ (plain skip h) = plain (x ++ skip) (join skip h)
prolog_joins x join _ (declared before body after h clean k) =
    let d : List ℕ = spell (Declaration body) in
    subst IsProlog (append_assoc (x ++ before) d after ∙ append_assoc x before (d ++ after) ∙ ap (λ (b : List ℕ). x ++ b) (sym (append_assoc before d after))) (declared (x ++ before) body after (join before h) clean k)

-- what is left of a document between two of its pieces
abbrev LeftAt : Stage → List Kind → ℕ → List ℕ → List Element → Type 0
LeftAt First n place bytes new = Rooting IsHead place bytes new
LeftAt Ahead n place bytes new = Rooting IsProlog place bytes new
LeftAt Declared n place bytes new = Rooting IsSkip place bytes new
LeftAt Rooted n place bytes new = Closes n place bytes new

-- before the root no element was begun
abbrev Fits : Stage → List Kind → Type 0
Fits First n = n ≡ []
Fits Ahead n = n ≡ []
Fits Declared n = n ≡ []
Fits Rooted n = Unit {0}

back_skip : (x : List ℕ) → Joins x → (g : Stage) (n : List Kind) (place : ℕ) (bytes : List ℕ) (new : List Element) → LeftAt (past_first g) n (place + length x) bytes new → LeftAt g n place (x ++ bytes) new
back_skip x join First n place bytes new h = rooting_joins IsProlog IsHead x (λ b k. head [] (x ++ b) absent (prolog_joins x join b k)) _ place bytes new refl h
back_skip x join Ahead n place bytes new h = rooting_joins IsProlog IsProlog x (prolog_joins x join) _ place bytes new refl h
back_skip x join Declared n place bytes new h = rooting_joins IsSkip IsSkip x join _ place bytes new refl h
back_skip x join Rooted n place bytes new h = closes_joins x join n _ place bytes new refl h

back_mark : (g : Stage) (n : List Kind) (place : ℕ) (bytes : List ℕ) (new : List Element) → is_first g ≡ true → LeftAt (past_first g) n (place + length (spell Mark)) bytes new → LeftAt g n place (spell Mark ++ bytes) new
back_mark First n place bytes new e h = rooting_joins IsProlog IsHead (spell Mark) (λ b k. head (spell Mark) b present k) _ place bytes new refl h
back_mark Ahead n place bytes new e h = absurd (false≢true e)
back_mark Declared n place bytes new e h = absurd (false≢true e)
back_mark Rooted n place bytes new e h = absurd (false≢true e)

back_declaration : (body : List ℕ) (g : Stage) (n : List Kind) (place : ℕ) (bytes : List ℕ) (new : List Element) → may_declare g ≡ true → NoPair 0x3f 0x3e body → LeftAt Declared n (place + length (spell (Declaration body))) bytes new
    → LeftAt g n place (spell (Declaration body) ++ bytes) new
back_declaration body First n place bytes new e clean h =
    rooting_joins IsSkip IsHead (spell (Declaration body)) (λ b k. head [] (spell (Declaration body) ++ b) absent (declared [] body b nothing clean k)) _ place bytes new refl h
back_declaration body Ahead n place bytes new e clean h = rooting_joins IsSkip IsProlog (spell (Declaration body)) (λ b k. declared [] body b nothing clean k) _ place bytes new refl h
back_declaration body Declared n place bytes new e clean h = absurd (false≢true e)
back_declaration body Rooted n place bytes new e clean h = absurd (false≢true e)

kinds_same : (a b : Kind) → is_same_kind a b ≡ true → a ≡ b
kinds_same FlowFacts FlowFacts e = refl
kinds_same Function Function e = refl
kinds_same Loop Loop e = refl
kinds_same MultiBranch MultiBranch e = refl
kinds_same MultiCall MultiCall e = refl
kinds_same Target Target e = refl
kinds_same _ _ e = absurd (false≢true e)

nothing_left : (place : ℕ) (bytes : List ℕ) (es : List Element) → Closes [] place bytes es → IsSkip bytes × (es ≡ [])
nothing_left _ _ _ (last place skip h) = (h, refl)

-- the root
back_root : (P : List ℕ → Type 0) → P [] → (kind : Kind) (n : List Kind) (place : ℕ) (bytes : List ℕ) (new : List Element) → is_same_kind kind FlowFacts ≡ true → n ≡ [] → ElementThen kind place n bytes new → Rooting P place bytes new
back_root P nil kind n place bytes new same outside w =
    let left = nothing_left _ w.rest w.others (subst (λ (m : List Kind). Closes m (place + length w.own) w.rest w.others) outside w.closes) in
    let here : place ≡ place + 0 = omega arith in
    let elements : w.first ≡ new = sym (append-nil w.first) ∙ ap (λ (es : List Element). w.first ++ es) (sym left.1) ∙ sym w.all in
    record {
      front = [];
      root = w.own;
      after = w.rest;
      is = w.is;
      ahead = nil;
      rooted = subst (λ (es : List Element). IsElement FlowFacts (place + 0) w.own es) elements (at_place_element FlowFacts _ _ w.own w.first here (subst (λ (k : Kind). IsElement k place w.own w.first) (kinds_same kind FlowFacts same) w.one));
      behind = left.0;
    }

back_open : (kind : Kind) (g : Stage) (n : List Kind) (place : ℕ) (bytes : List ℕ) (new : List Element) → may_start g (innermost n) kind ≡ true → Fits g n → ElementThen kind place n bytes new → LeftAt g n place bytes new
back_open kind First n place bytes new may fits w = back_root IsHead (head [] [] absent (plain [] nothing)) kind n place bytes new may fits w
back_open kind Ahead n place bytes new may fits w = back_root IsProlog (plain [] nothing) kind n place bytes new may fits w
back_open kind Declared n place bytes new may fits w = back_root IsSkip nothing kind n place bytes new may fits w
back_open kind Rooted [] place bytes new may fits w = absurd (false≢true may)
back_open kind Rooted (outer ∷ n) place bytes new may fits w =
    subst (λ (es : List Element). Closes (outer ∷ n) place bytes es) (sym w.all)
    (subst (λ (b : List ℕ). Closes (outer ∷ n) place b (w.first ++ w.others)) (sym w.is) (closes_element outer kind n place _ w.own w.rest w.first w.others may w.one refl w.closes))

back_end : (kind : Kind) (gap : ℕ) (g : Stage) (n : List Kind) (place : ℕ) (bytes : List ℕ) (new : List Element) → may_end g (innermost n) kind ≡ true → LeftAt g (tail n) (place + length (spell (End kind gap))) bytes new
    → LeftAt g n place (spell (End kind gap) ++ bytes) new
back_end kind gap First n place bytes new may h = absurd (false≢true may)
back_end kind gap Ahead n place bytes new may h = absurd (false≢true may)
back_end kind gap Declared n place bytes new may h = absurd (false≢true may)
back_end kind gap Rooted [] place bytes new may h = absurd (false≢true may)
back_end kind gap Rooted (outer ∷ n) place bytes new may h =
    subst (λ (k : Kind). Closes (k ∷ n) place (spell (End kind gap) ++ bytes) new) (sym (kinds_same outer kind may))
    (subst (λ (b : List ℕ). Closes (kind ∷ n) place (b ++ bytes) new) (end_bytes kind gap)
    (closes_end kind n place _ gap bytes new (ap (λ (b : List ℕ). place + length b) (sym (end_bytes kind gap))) h))

-- ---- pieces

-- what is left of a document, by the part of it
abbrev Claim : Part → Stage → List Kind → Kind → ℕ → ℕ → Attributes → List ℕ → List Element → Type 0
Claim part.Between g n kind at place attributes bytes new = LeftAt g n place bytes new
Claim part.Behind g n kind at place attributes bytes new = TagRest kind at place attributes n bytes new
Claim _ g n kind at place attributes bytes new = ⊥

abbrev ClaimOf : State → List ℕ → List Element → Type 0
ClaimOf s bytes new = Claim s.part s.stage s.nesting s.kind s.at s.place s.attributes bytes new

-- the element that a piece states
abbrev newly : State → Piece → List Element
newly s (Enter gap) = read_element s ∷ []
newly s (Empty gap) = read_element s ∷ []
newly s _ = []

newly_is : (s : State) (p : Piece) → (behind_piece s p).elements ≡ s.elements ++ newly s p
newly_is s (Enter gap) = refl
newly_is s (Empty gap) = refl
newly_is s _ = sym (append-nil s.elements)

back_piece : (q : Part) (p : Piece) (s : State) (bytes : List ℕ) (new : List Element) → MayStand q s.stage s.nesting s.attributes p → Fits s.stage s.nesting → ClaimOf (behind_piece (in_part q s) p) bytes new
    → ClaimOf (in_part q s) (spell p ++ bytes) (newly (in_part q s) p ++ new)
back_piece part.Between Mark s bytes new may fits h = back_mark s.stage s.nesting s.place bytes new may h
back_piece part.Between (Blank c) s bytes new may fits h = back_skip (c ∷ []) (λ b k. blank c b may k) s.stage s.nesting s.place bytes new h
back_piece part.Between (Comment body) s bytes new may fits h = back_skip (spell (Comment body)) (λ b k. comment body b may k) s.stage s.nesting s.place bytes new h
back_piece part.Between (Declaration body) s bytes new may fits h = back_declaration body s.stage s.nesting s.place bytes new may.0 may.1 h
back_piece part.Between (Open kind) s bytes new may fits h = back_open kind s.stage s.nesting s.place (spell (Open kind) ++ bytes) new may fits (element_then kind s.place s.nesting bytes new h)
back_piece part.Between (End kind gap) s bytes new may fits h = back_end kind gap s.stage s.nesting s.place bytes new may h
back_piece part.Behind (Attribute gap name before after quote value) s bytes new may fits h = one_attribute s.kind s.at s.place s.attributes s.nesting gap before after quote name value bytes new may h
back_piece part.Behind (Enter gap) s bytes new may fits h = no_attributes s.kind s.at s.place s.attributes s.nesting (spell (Enter gap) ++ bytes) new (at_enter gap bytes new h)
back_piece part.Behind (Empty gap) s bytes new may fits h = no_attributes s.kind s.at s.place s.attributes s.nesting (spell (Empty gap) ++ bytes) new (at_empty gap bytes new h)
back_piece _ _ s bytes new may fits h = absurd may

fits_past : (g : Stage) (n : List Kind) → Fits g n → Fits (past_first g) n
fits_past First n h = h
fits_past Ahead n h = h
fits_past Declared n h = h
fits_past Rooted n h = h

fits_declared : (g : Stage) (n : List Kind) → may_declare g ≡ true → Fits g n → Fits Declared n
fits_declared First n may h = h
fits_declared Ahead n may h = h
fits_declared Declared n may h = h
fits_declared Rooted n may h = absurd (false≢true may)

fits_end : (g : Stage) (n : List Kind) (kind : Kind) → may_end g (innermost n) kind ≡ true → Fits g (tail n)
fits_end First n kind may = absurd (false≢true may)
fits_end Ahead n kind may = absurd (false≢true may)
fits_end Declared n kind may = absurd (false≢true may)
fits_end Rooted n kind may = tt

fits_rooted : (n : List Kind) → Fits Rooted n
fits_rooted n = tt

fits_behind : (q : Part) (p : Piece) (s : State) → MayStand q s.stage s.nesting s.attributes p → Fits s.stage s.nesting → Fits (behind_piece s p).stage (behind_piece s p).nesting
fits_behind part.Between Mark s may h = fits_past s.stage s.nesting h
fits_behind part.Between (Blank c) s may h = fits_past s.stage s.nesting h
fits_behind part.Between (Comment body) s may h = fits_past s.stage s.nesting h
fits_behind part.Between (Declaration body) s may h = fits_declared s.stage s.nesting may.0 h
fits_behind part.Between (Open kind) s may h = fits_past s.stage s.nesting h
fits_behind part.Between (End kind gap) s may h = fits_end s.stage s.nesting kind may
fits_behind part.Behind (Attribute gap name before after quote value) s may h = h
fits_behind part.Behind (Enter gap) s may h = fits_rooted (s.kind ∷ s.nesting)
fits_behind part.Behind (Empty gap) s may h = fits_rooted s.nesting
fits_behind _ _ s may h = absurd may

-- nothing is left behind a whole file
whole_left : (q : Part) (g : Stage) (n : List Kind) (kind : Kind) (at place : ℕ) (attributes : Attributes) → (is_empty n && is_rooted g && is_between q) ≡ true → Claim q g n kind at place attributes [] []
whole_left q g n kind at place attributes e =
    let parts = and_parts (is_empty n && is_rooted g) (is_between q) e in
    let two = and_parts (is_empty n) (is_rooted g) parts.0 in
    by q g n two.0 two.1 parts.1
  where
    by : (q : Part) (g : Stage) (n : List Kind) → is_empty n ≡ true → is_rooted g ≡ true → is_between q ≡ true → Claim q g n kind at place attributes [] []
    by part.Between Rooted [] e f h = last place [] nothing
    by q g (k ∷ n) e f h = absurd (false≢true e)
    by q First [] e f h = absurd (false≢true f)
    by q Ahead [] e f h = absurd (false≢true f)
    by q Declared [] e f h = absurd (false≢true f)
    by _ Rooted [] e f h = absurd (false≢true h)

-- what pieces that lead to a whole file are of it
record Left (s final : State) (bytes : List ℕ) : Type 0 where
  new : List Element
  has : final.elements ≡ s.elements ++ new
  claim : ClaimOf s bytes new

left : (ps : List Piece) (s final : State) → Leads s ps final → is_whole final ≡ true → Fits s.stage s.nesting → Left s final (spell_all ps)
left [] s final h whole fits = record {
  new = [];
  has = ap (λ (x : State). x.elements) (sym h) ∙ sym (append-nil s.elements);
  claim = whole_left s.part s.stage s.nesting s.kind s.at s.place s.attributes (ap is_whole h ∙ whole);
}
left (p ∷ ps) s final h whole fits =
    let t = left ps (behind_piece s p) final h.1 whole (fits_behind s.part p s h.0 fits) in
    record {
      new = newly s p ++ t.new;
      has = t.has ∙ ap (λ (es : List Element). es ++ t.new) (newly_is s p) ∙ append_assoc s.elements (newly s p) t.new;
      claim = back_piece s.part p s (spell_all ps) t.new h.0 fits t.claim;
    }

rooting_is_document : (bytes : List ℕ) (elements : List Element) → Rooting IsHead 0 bytes elements → IsDocument bytes elements
rooting_is_document bytes elements r = of r.front r.ahead r.is r.rooted
  where
    of : (front : List ℕ) → IsHead front → bytes ≡ front ++ r.root ++ r.after → IsElement FlowFacts (0 + length front) r.root elements → IsDocument bytes elements
    of _ (head mark prolog m p) e one = record {
      mark = mark;
      prolog = prolog;
      root = r.root;
      after = r.after;
      is = e;
      marked = m;
      ahead = p;
      rooted = at_place_element FlowFacts _ _ r.root elements (let n : 0 + length (mark ++ prolog) ≡ length (mark ++ prolog) = omega arith in n) one;
      behind = r.behind;
    }

-- what is spelled by pieces is a document, with the same elements
pub spelled_is_document : (bytes : List ℕ) (elements : List Element) → IsSpelled bytes elements → IsDocument bytes elements
spelled_is_document bytes elements w =
    let l = left w.pieces start w.last w.leads w.whole refl in
    rooting_is_document bytes elements
    (subst (λ (b : List ℕ). Rooting IsHead 0 b elements) (sym w.spelled) (subst (λ (es : List Element). Rooting IsHead 0 (spell_all w.pieces) es) (sym l.has ∙ w.has) l.claim))
