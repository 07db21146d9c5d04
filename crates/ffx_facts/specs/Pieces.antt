-- The words of a facts file. FFX (the flow facts format of the tool OTAWA), the part of it that this project reads.
use Rattle.std.specs.Prelude.{ℕ, Bool, true, false, ◌||◌, List, [], ◌∷◌, ◌++◌, codes, ◌==◌}
use Rattle.std.specs.Char.{is_ascii_alphanumeric}
use Rattle.ffx_facts.specs.declared.kind.Kind.{Kind}
use Rattle.ffx_facts.specs.declared.kind.Kind.TheVariants.{FlowFacts, Function, Loop, MultiBranch, MultiCall, Target}
use Rattle.ffx_facts.specs.declared.word.Word.{Word}
use Rattle.ffx_facts.specs.declared.word.Word.TheVariants as word

-- the name of an element
abbrev pub name_of : Kind → List ℕ
name_of FlowFacts = codes "flowfacts"
name_of Function = codes "function"
name_of Loop = codes "loop"
name_of MultiBranch = codes "multibranch"
name_of MultiCall = codes "multicall"
name_of Target = codes "target"

-- whether two elements are of one kind
abbrev pub is_same_kind : Kind → Kind → Bool
is_same_kind FlowFacts FlowFacts = true
is_same_kind Function Function = true
is_same_kind Loop Loop = true
is_same_kind MultiBranch MultiBranch = true
is_same_kind MultiCall MultiCall = true
is_same_kind Target Target = true
is_same_kind _ _ = false

-- what may stand right inside the file, a function or a loop
abbrev pub is_content : Kind → Bool
is_content FlowFacts = false
is_content Target = false
is_content _ = true

-- whether an element may stand right inside another
abbrev pub holds : Kind → Kind → Bool
holds FlowFacts inner = is_content inner
holds Function inner = is_content inner
holds Loop inner = is_content inner
holds MultiBranch inner = is_same_kind inner Target
holds MultiCall inner = is_same_kind inner Target
holds Target inner = false

-- the bytes of a word: the byte order mark, or what begins a comment, the XML declaration, a start tag or an end tag
abbrev pub spelling : Word → List ℕ
spelling word.Mark = 0xef ∷ 0xbb ∷ 0xbf ∷ []
spelling word.Comment = codes "<!--"
spelling word.Declaration = codes "<?xml"
spelling (word.Start kind) = codes "<" ++ name_of kind
spelling (word.End kind) = codes "</" ++ name_of kind

-- white space between pieces: space, tab, carriage return, line feed
abbrev pub is_blank : ℕ → Bool
is_blank c = (c == 0x20) || (c == 0x09) || (c == 0x0d) || (c == 0x0a)

-- what the name of an attribute is made of: ASCII letters, digits and the bytes of `_-.:`
abbrev pub is_name_byte : ℕ → Bool
is_name_byte c = is_ascii_alphanumeric c || (c == 0x5f) || (c == 0x2d) || (c == 0x2e) || (c == 0x3a)
