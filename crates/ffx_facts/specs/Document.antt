-- A facts file as a document: an element within another, from the root on. FFX (the flow facts format of the tool OTAWA),
-- the part of it that this project reads. A place is the number of bytes before.
use Rattle.std.specs.Prelude.{◌≡◌, ◌⊎◌, ℕ, ◌+◌, true, List, [], ◌∷◌, ◌++◌, Option, Some, None, codes, length, if◌then◌else◌}
use Rattle.std.specs.Str.{bytes_eq}
use Rattle.ffx_facts.specs.declared.kind.Kind.{Kind}
use Rattle.ffx_facts.specs.declared.kind.Kind.TheVariants.{FlowFacts}
use Rattle.ffx_facts.specs.Pieces.{holds, is_blank, name_of}
use Rattle.ffx_facts.specs.Machine.{Element}
use Rattle.ffx_facts.specs.Grammar.{IsName, IsValue, NoPair, spaces}

-- white space and comments; no two dashes follow each other among a comment's bytes
pub data IsSkip : List ℕ → Type 0 where
  nothing : IsSkip []
  blank : (c : ℕ) (more : List ℕ) → is_blank c ≡ true → IsSkip more → IsSkip (c ∷ more)
  comment : (body more : List ℕ) → NoPair 0x2d 0x2d body → IsSkip more → IsSkip (codes "<!--" ++ (body ++ codes "-->") ++ more)

-- what stands before the root element: with the XML declaration, which ends at its first `?>`, or without it
pub data IsProlog : List ℕ → Type 0 where
  plain : (skip : List ℕ) → IsSkip skip → IsProlog skip
  declared : (before body after : List ℕ) → IsSkip before → NoPair 0x3f 0x3e body → IsSkip after → IsProlog (before ++ (codes "<?xml" ++ (body ++ codes "?>")) ++ after)

-- the name of an attribute and its value
pub record Given : Type 0 where
  pub name : List ℕ
  pub value : List ℕ

-- the value of the attribute with a name
abbrev pub value_of : List Given → List ℕ → Option (List ℕ)
value_of [] name = None
value_of (g ∷ given) name = if bytes_eq g.name name then Some g.value else value_of given name

-- the bytes of an attribute: a space or more, its name, `=`, and its value in quotes
abbrev pub attribute_bytes : ℕ → Given → ℕ → ℕ → ℕ → List ℕ
attribute_bytes gap g before after quote = codes " " ++ spaces gap ++ g.name ++ spaces before ++ codes "=" ++ spaces after ++ quote ∷ g.value ++ quote ∷ []

-- the attributes of an element and their bytes; none has the name of a later one
pub data AreAttributes : List Given → List ℕ → Type 0 where
  none : AreAttributes [] []
  one_more : (g : Given) (given : List Given) (gap before after quote : ℕ) (more : List ℕ) → IsName g.name → (quote ≡ 0x22) ⊎ (quote ≡ 0x27) → IsValue quote g.value
      → value_of given g.name ≡ None → AreAttributes given more → AreAttributes (g ∷ given) (attribute_bytes gap g before after quote ++ more)

-- an element at a place, by its attributes
abbrev pub element : Kind → ℕ → List Given → Element
element kind place given = record {
  kind = kind;
  at = place;
  address = value_of given (codes "address");
  label = value_of given (codes "label");
  offset = value_of given (codes "offset");
  maxcount = value_of given (codes "maxcount");
  totalcount = value_of given (codes "totalcount");
}

-- the start tag of an element with the bytes of its attributes, ended by `>` or `/>`
abbrev pub start_tag : Kind → List ℕ → ℕ → List ℕ → List ℕ
start_tag kind attributes gap end = codes "<" ++ name_of kind ++ attributes ++ spaces gap ++ end

-- the end tag of an element
abbrev pub end_tag : Kind → ℕ → List ℕ
end_tag kind gap = codes "</" ++ name_of kind ++ spaces gap ++ codes ">"

mutual
  -- the bytes of an element that begins at a place, and the elements that they hold, in the order of their `<`
  pub data IsElement : Kind → ℕ → List ℕ → List Element → Type 0 where
    empty : (kind : Kind) (place gap : ℕ) (given : List Given) (attributes : List ℕ) → AreAttributes given attributes
        → IsElement kind place (start_tag kind attributes gap (codes "/>")) (element kind place given ∷ [])
    filled : (kind : Kind) (place gap gap' : ℕ) (given : List Given) (attributes content : List ℕ) (inner : List Element) → AreAttributes given attributes
        → IsContent kind (place + length (start_tag kind attributes gap (codes ">"))) content inner
        → IsElement kind place (start_tag kind attributes gap (codes ">") ++ content ++ end_tag kind gap') (element kind place given ∷ inner)

  -- what stands in an element of a kind, from a place on: white space, comments, and elements that may stand there
  pub data IsContent : Kind → ℕ → List ℕ → List Element → Type 0 where
    skipped : (outer : Kind) (place : ℕ) (skip : List ℕ) → IsSkip skip → IsContent outer place skip []
    around : (outer kind : Kind) (place : ℕ) (skip bytes more : List ℕ) (first others : List Element) → IsSkip skip → holds outer kind ≡ true → IsElement kind (place + length skip) bytes first
        → IsContent outer (place + length (skip ++ bytes)) more others → IsContent outer place (skip ++ bytes ++ more) (first ++ others)

-- the byte order mark, or nothing
pub data IsMark : List ℕ → Type 0 where
  absent : IsMark []
  present : IsMark (0xef ∷ 0xbb ∷ 0xbf ∷ [])

-- the bytes are a document with these elements: around its root element white space, comments and the declaration
pub record IsDocument (bytes : List ℕ) (elements : List Element) : Type 0 where
  pub mark : List ℕ
  pub prolog : List ℕ
  pub root : List ℕ
  pub after : List ℕ
  pub is : bytes ≡ mark ++ prolog ++ root ++ after
  pub marked : IsMark mark
  pub ahead : IsProlog prolog
  pub rooted : IsElement FlowFacts (length (mark ++ prolog)) root elements
  pub behind : IsSkip after
