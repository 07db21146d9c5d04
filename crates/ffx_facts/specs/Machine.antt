-- A facts file read byte by byte: what is known after some bytes, and which byte may come then. This project's own.
use Rattle.std.specs.Prelude.{ℕ, ◌+◌, ◌-◌, codes, Bool, true, false, ◌&&◌, ◌||◌, ◌==◌, is_some, List, [], ◌∷◌, ◌++◌, Option, Some, None, find, if◌then◌else◌, nat_eq, nat_lt}
use Rattle.std.specs.List.{list_any, starts_with}
use Rattle.std.specs.Str.{bytes_eq}
use Rattle.ffx_facts.specs.declared.kind.Kind.{Kind}
use Rattle.ffx_facts.specs.declared.kind.Kind.TheVariants.{FlowFacts}
use Rattle.ffx_facts.specs.declared.word.Word.{Word}
use Rattle.ffx_facts.specs.declared.word.Word.TheVariants as word
use Rattle.ffx_facts.specs.declared.word.TheConstants.{WORDS}
use Rattle.ffx_facts.specs.declared.state.Stage.{Stage}
use Rattle.ffx_facts.specs.declared.state.Stage.TheVariants.{First, Ahead, Declared, Rooted}
use Rattle.ffx_facts.specs.declared.state.Part.{Part}
use Rattle.ffx_facts.specs.declared.state.Part.TheVariants as part
use Rattle.ffx_facts.specs.Pieces.{holds, is_blank, is_name_byte, is_same_kind, spelling}

-- an element: its kind, the place of its `<`, and the values of the attributes that may count
pub record Element : Type 0 where
  pub kind : Kind
  pub at : ℕ
  pub address : Option (List ℕ)
  pub label : Option (List ℕ)
  pub offset : Option (List ℕ)
  pub maxcount : Option (List ℕ)
  pub totalcount : Option (List ℕ)

-- the value of each name that an attribute of a tag has
abbrev pub Attributes : Type 0
Attributes = List ℕ → Option (List ℕ)

-- what is known of a file after some of its bytes
pub record State : Type 0 where
  -- how many bytes there were
  pub place : ℕ
  -- how far the file has come, and in what part of it the next byte stands
  pub stage : Stage
  pub part : Part
  -- the elements that were begun and not ended, the innermost first
  pub nesting : List Kind
  -- the elements whose start tags were read
  pub elements : List Element
  -- of the start tag that is read: its element, where its `<` stands, and its attributes so far
  pub kind : Kind
  pub at : ℕ
  pub attributes : Attributes
  -- the name of the attribute that is read
  pub name : List ℕ
  -- where the word, the name or the value began that is read, and its bytes so far
  pub start : ℕ
  pub text : List ℕ

-- nothing was read
abbrev pub start : State
start = record {
  place = 0;
  stage = First;
  part = part.Between;
  nesting = [];
  elements = [];
  kind = FlowFacts;
  at = 0;
  attributes = λ _. None;
  name = [];
  start = 0;
  text = [];
}

-- the same, one byte on
abbrev pub moved : State → ℕ → State
moved s c = record s { place = s.place + 1; text = s.text ++ c ∷ [] }

-- a word, a name or a value begins with the byte that was read last
abbrev pub began : State → ℕ → Part → State
began s c p = record s { start = s.place - 1; text = c ∷ []; part = p }

-- the byte order mark stands at the very front only
abbrev pub past_first : Stage → Stage
past_first First = Ahead
past_first stage = stage

-- the innermost of the elements that were begun and not ended
abbrev pub innermost : List Kind → Option Kind
innermost [] = None
innermost (kind ∷ _) = Some kind

-- whether the innermost element passes a test
abbrev pub innermost_is : (Kind → Bool) → Option Kind → Bool
innermost_is test None = false
innermost_is test (Some outer) = test outer

-- whether the element may begin: the root where none was, else what may stand in the innermost element
abbrev pub may_start : Stage → Option Kind → Kind → Bool
may_start Rooted inner kind = innermost_is (λ outer. holds outer kind) inner
may_start _ inner kind = is_same_kind kind FlowFacts

-- whether the element may end: it is the innermost
abbrev pub may_end : Stage → Option Kind → Kind → Bool
may_end Rooted inner kind = innermost_is (λ outer. is_same_kind outer kind) inner
may_end _ inner kind = false

abbrev pub is_first : Stage → Bool
is_first First = true
is_first _ = false

abbrev pub may_declare : Stage → Bool
may_declare First = true
may_declare Ahead = true
may_declare _ = false

-- whether a word may come
abbrev pub may_come : Stage → Option Kind → Word → Bool
may_come stage inner word.Mark = is_first stage
may_come stage inner word.Comment = true
may_come stage inner word.Declaration = may_declare stage
may_come stage inner (word.Start kind) = may_start stage inner kind
may_come stage inner (word.End kind) = may_end stage inner kind

-- the start tag of an element begins
abbrev pub begun_tag : State → Kind → State
begun_tag s kind = record s { kind = kind; at = s.start; attributes = λ _. None; part = part.Behind }

-- behind a word
abbrev pub behind_word : State → Word → State
behind_word s word.Mark = record s { stage = past_first s.stage; part = part.Between }
behind_word s word.Comment = record s { stage = past_first s.stage; part = part.Comment 0 }
behind_word s word.Declaration = record s { stage = past_first s.stage; part = part.Declaration false }
behind_word s (word.Start kind) = begun_tag (record s { stage = past_first s.stage }) kind
behind_word s (word.End kind) = record s { stage = past_first s.stage; part = part.Closing }

-- the word that may come and is spelled so
abbrev pub found_word : State → List ℕ → Option Word
found_word s text = find (λ w. may_come s.stage (innermost s.nesting) w && bytes_eq (spelling w) text) WORDS

-- whether some word that may come begins so
abbrev pub begins_word : State → List ℕ → Bool
begins_word s text = list_any (λ w. may_come s.stage (innermost s.nesting) w && starts_with nat_eq (spelling w) text) WORDS

-- the state where a word was found, or only begun
abbrev pub word_found : State → Option Word → Bool → Option State
word_found s (Some w) begun = Some (behind_word s w)
word_found s None begun = if begun then Some s else None

-- a byte of a word, which may be its last
unfoldable pub in_word : State → Option State
in_word s = word_found s (found_word s s.text) (begins_word s s.text)

-- a byte between two pieces
abbrev pub between : State → ℕ → Option State
between s c = if is_blank c then Some (record s { stage = past_first s.stage }) else in_word (began s c part.Word)

-- a byte of a comment, which ends at two dashes and a `>`; no other two dashes stand in it
abbrev pub comment_part : ℕ → ℕ → Option Part
comment_part dashes c =
    if nat_lt dashes 2 then (if c == 0x2d then Some (part.Comment (dashes + 1)) else Some (part.Comment 0))
    else (if c == 0x3e then Some part.Between else (if (dashes == 2) && (c == 0x2d) then Some (part.Comment 3) else None))

abbrev pub to_part : State → Option Part → Option State
to_part s None = None
to_part s (Some p) = Some (record s { part = p })

-- a byte of the XML declaration, which ends at the first `?>`
abbrev pub declaration : State → Bool → ℕ → State
declaration s question c =
    if question && (c == 0x3e) then record s { stage = Declared; part = part.Between } else record s { part = part.Declaration (c == 0x3f) }

-- the element whose start tag is read
abbrev pub read_element : State → Element
read_element s = record {
  kind = s.kind;
  at = s.at;
  address = s.attributes (codes "address");
  label = s.attributes (codes "label");
  offset = s.attributes (codes "offset");
  maxcount = s.attributes (codes "maxcount");
  totalcount = s.attributes (codes "totalcount");
}

-- the start tag that is read ends
abbrev pub ended_tag : State → State
ended_tag s = record s {
  elements = s.elements ++ read_element s ∷ [];
  stage = Rooted;
  part = part.Between;
}

-- the content of the element begins
abbrev pub entered : State → State
entered s = record (ended_tag s) { nesting = s.kind ∷ s.nesting }

-- a byte right behind an element's name or an attribute
abbrev pub behind : State → ℕ → Option State
behind s c =
    if c == 0x20 then Some (record s { part = part.Gap }) else (if c == 0x2f then Some (record s { part = part.Slash })
    else (if c == 0x3e then Some (entered s) else None))

-- a byte behind a space that follows an element's name or an attribute
abbrev pub gap : State → ℕ → Option State
gap s c = if is_name_byte c then Some (began s c part.Name) else behind s c

-- a byte behind the slash of an empty element
abbrev pub slash : State → ℕ → Option State
slash s c = if c == 0x3e then Some (ended_tag s) else None

-- a byte behind an attribute's name
abbrev pub named : State → ℕ → Option State
named s c =
    if c == 0x20 then Some (record s { part = part.Named }) else (if c == 0x3d then Some (record s { part = part.Equals }) else None)

-- a byte of an attribute's name, or the one that ends it; a name occurs once in a tag
abbrev pub in_name : List ℕ → State → ℕ → Option State
in_name before s c =
    if is_name_byte c then Some s
    else (if is_some (s.attributes before) then None else named (record s { name = before }) c)

-- a byte behind an attribute's equals sign
abbrev pub equals : State → ℕ → Option State
equals s c =
    if c == 0x20 then Some s
    else (if (c == 0x22) || (c == 0x27) then Some (record s { part = part.Value c; start = s.place; text = [] }) else None)

-- one attribute more
abbrev pub added : Attributes → List ℕ → List ℕ → Attributes
added attributes name value = λ other. if bytes_eq name other then Some value else attributes other

-- the value of an attribute ends
abbrev pub ended_value : List ℕ → State → State
ended_value before s = record s { attributes = added s.attributes s.name before; part = part.Behind }

-- a byte of an attribute's value, or the quote that ends it
abbrev pub in_value : List ℕ → State → ℕ → ℕ → Option State
in_value before s quote c =
    if c == quote then Some (ended_value before s)
    else (if c == 0x3c then None else Some s)

abbrev pub tail : List Kind → List Kind
tail [] = []
tail (_ ∷ kinds) = kinds

-- a byte of an end tag behind the element's name
abbrev pub closing : State → ℕ → Option State
closing s c =
    if c == 0x3e then Some (record s { nesting = tail s.nesting; part = part.Between }) else (if c == 0x20 then Some s else None)

-- one byte: the state behind it, by the part in which it stands; none where no file goes on so
abbrev pub step_in : Part → List ℕ → State → ℕ → Option State
step_in part.Between before s c = between s c
step_in part.Word before s c = in_word s
step_in (part.Comment dashes) before s c = to_part s (comment_part dashes c)
step_in (part.Declaration question) before s c = Some (declaration s question c)
step_in part.Behind before s c = behind s c
step_in part.Gap before s c = gap s c
step_in part.Slash before s c = slash s c
step_in part.Name before s c = in_name before s c
step_in part.Named before s c = named s c
step_in part.Equals before s c = equals s c
step_in (part.Value quote) before s c = in_value before s quote c
step_in part.Closing before s c = closing s c

unfoldable pub step : State → ℕ → Option State
step s c = step_in s.part s.text (moved s c) c

-- all bytes, one after another
abbrev pub run : Option State → List ℕ → Option State
run None bytes = None
run (Some s) [] = Some s
run (Some s) (c ∷ bytes) = run (step s c) bytes

-- the state of a file that is whole: its root was begun, each element was ended, and no piece is left half
abbrev pub is_between : Part → Bool
is_between part.Between = true
is_between _ = false

abbrev pub is_rooted : Stage → Bool
is_rooted Rooted = true
is_rooted _ = false

abbrev pub is_empty : List Kind → Bool
is_empty [] = true
is_empty (_ ∷ _) = false

abbrev pub is_whole : State → Bool
is_whole s = is_empty s.nesting && is_rooted s.stage && is_between s.part
