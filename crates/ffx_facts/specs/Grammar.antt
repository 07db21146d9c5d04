-- The grammar of facts files: the pieces of which one is made, how each is spelled, and where it may stand. FFX (the flow
-- facts format of the tool OTAWA), the part of it that this project reads.
use Rattle.std.specs.Prelude.{◌≡◌, ◌⊎◌, ℕ, ◌+◌, true, ◌&&◌, ◌==◌, not, List, [], ◌∷◌, ◌++◌, None, codes, length}
use Rattle.std.specs.List.{list_all}
use Prim.Native.Nat.{zero, suc}
use Rattle.ffx_facts.specs.declared.kind.Kind.{Kind}
use Rattle.ffx_facts.specs.declared.state.Stage.{Stage}
use Rattle.ffx_facts.specs.declared.state.Stage.TheVariants.{Declared}
use Rattle.ffx_facts.specs.declared.state.Part.{Part}
use Rattle.ffx_facts.specs.declared.state.Part.TheVariants as part
use Rattle.ffx_facts.specs.Pieces.{is_blank, is_name_byte, name_of}
use Rattle.ffx_facts.specs.Machine.{Attributes, Element, State, added, ended_tag, entered, innermost, is_first, is_whole, may_declare, may_end, may_start, past_first, start, tail}

-- a piece of a file
pub data Piece : Type 0 where
  -- the byte order mark; a byte of white space; a comment; the XML declaration
  Mark : Piece
  Blank : (byte : ℕ) → Piece
  Comment : (body : List ℕ) → Piece
  Declaration : (body : List ℕ) → Piece
  -- a start tag up to the element's name; an attribute in it; its end before content, or that of an element without content
  Open : (kind : Kind) → Piece
  Attribute : (gap : ℕ) (name : List ℕ) (before after : ℕ) (quote : ℕ) (value : List ℕ) → Piece
  Enter : (gap : ℕ) → Piece
  Empty : (gap : ℕ) → Piece
  -- an end tag
  End : (kind : Kind) (gap : ℕ) → Piece

-- so many spaces
abbrev pub spaces : ℕ → List ℕ
spaces zero = []
spaces (suc n) = 0x20 ∷ spaces n

-- the bytes of a piece
abbrev pub spell : Piece → List ℕ
spell Mark = 0xef ∷ 0xbb ∷ 0xbf ∷ []
spell (Blank c) = c ∷ []
spell (Comment body) = codes "<!--" ++ (body ++ codes "-->")
spell (Declaration body) = codes "<?xml" ++ (body ++ codes "?>")
spell (Open kind) = codes "<" ++ name_of kind
spell (Attribute gap name before after quote value) = spaces (suc gap) ++ (name ++ (spaces before ++ (codes "=" ++ (spaces after ++ (quote ∷ (value ++ quote ∷ []))))))
spell (Enter gap) = spaces gap ++ codes ">"
spell (Empty gap) = spaces gap ++ codes "/>"
spell (End kind gap) = (codes "</" ++ name_of kind) ++ (spaces gap ++ codes ">")

-- among the bytes none that is a is followed by one that is b
abbrev pub NoPair : ℕ → ℕ → List ℕ → Type 0
NoPair a b [] = Unit {0}
NoPair a b (c ∷ []) = Unit {0}
NoPair a b (c ∷ d ∷ bytes) = (c ≡ a → d ≡ b → ⊥) × NoPair a b (d ∷ bytes)

-- the name of an attribute: one byte or more
abbrev pub IsName : List ℕ → Type 0
IsName [] = ⊥
IsName (c ∷ name) = list_all is_name_byte (c ∷ name) ≡ true

-- the bytes of a value within its quotes: neither the quote nor `<`
abbrev pub IsValue : ℕ → List ℕ → Type 0
IsValue quote value = list_all (λ c. not (c == quote) && not (c == 0x3c)) value ≡ true

-- an attribute whose name the tag does not have yet
pub record IsAttribute (attributes : Attributes) (name : List ℕ) (quote : ℕ) (value : List ℕ) : Type 0 where
  pub named : IsName name
  pub new : attributes name ≡ None
  pub quoted : (quote ≡ 0x22) ⊎ (quote ≡ 0x27)
  pub within : IsValue quote value

-- where a piece may stand: between tags, or within a start tag
abbrev pub MayStand : Part → Stage → List Kind → Attributes → Piece → Type 0
MayStand part.Between stage nesting attributes Mark = is_first stage ≡ true
MayStand part.Between stage nesting attributes (Blank c) = is_blank c ≡ true
MayStand part.Between stage nesting attributes (Comment body) = NoPair 0x2d 0x2d body
MayStand part.Between stage nesting attributes (Declaration body) = (may_declare stage ≡ true) × NoPair 0x3f 0x3e body
MayStand part.Between stage nesting attributes (Open kind) = may_start stage (innermost nesting) kind ≡ true
MayStand part.Between stage nesting attributes (End kind gap) = may_end stage (innermost nesting) kind ≡ true
MayStand part.Behind stage nesting attributes (Attribute gap name before after quote value) = IsAttribute attributes name quote value
MayStand part.Behind stage nesting attributes (Enter gap) = Unit {0}
MayStand part.Behind stage nesting attributes (Empty gap) = Unit {0}
MayStand _ stage nesting attributes _ = ⊥

abbrev pub Follows : State → Piece → Type 0
Follows s p = MayStand s.part s.stage s.nesting s.attributes p

-- what a piece does
abbrev pub done : State → Piece → State
done s Mark = record s { stage = past_first s.stage }
done s (Blank c) = record s { stage = past_first s.stage }
done s (Comment body) = record s { stage = past_first s.stage }
done s (Declaration body) = record s { stage = Declared }
done s (Open kind) = record s { stage = past_first s.stage; kind = kind; at = s.place; attributes = λ _. None; part = part.Behind }
done s (Attribute gap name before after quote value) = record s { attributes = added s.attributes name value }
done s (Enter gap) = entered s
done s (Empty gap) = ended_tag s
done s (End kind gap) = record s { nesting = tail s.nesting }

-- what is known behind a piece
abbrev pub behind_piece : State → Piece → State
behind_piece s p = record (done s p) { place = s.place + length (spell p) }

-- the bytes of pieces
abbrev pub spell_all : List Piece → List ℕ
spell_all [] = []
spell_all (p ∷ ps) = spell p ++ spell_all ps

-- each piece may stand behind those before it, and this is known behind the last
abbrev pub Leads : State → List Piece → State → Type 0
Leads s [] last = s ≡ last
Leads s (p ∷ ps) last = Follows s p × Leads (behind_piece s p) ps last

-- the bytes are the pieces of a whole file with these elements
pub record IsSpelled (bytes : List ℕ) (elements : List Element) : Type 0 where
  pub pieces : List Piece
  pub last : State
  pub spelled : bytes ≡ spell_all pieces
  pub leads : Leads start pieces last
  pub whole : is_whole last ≡ true
  pub has : last.elements ≡ elements
