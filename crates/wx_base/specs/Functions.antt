-- What is reached of an image, and its functions with their loops, by the ways and calls of its instructions. This project's
-- own.
use Rattle.std.specs.Prelude.{◌≡◌, ◌<◌, ℕ, ◌==◌, ◌++◌, true, List, [], if◌then◌else◌, AllPairs, All, Any, Contains, ◌⊎◌, Option, Some, None, find, option_to_list}
use Rattle.std.specs.Option.{option_map_or}
use Rattle.wx_base.specs.declared.facts.Facts.{Facts}
use Rattle.wx_base.specs.declared.facts.LoopFact.{LoopFact}
use Rattle.wx_base.specs.declared.flow.FlowKind.{FlowKind}
use Rattle.wx_base.specs.declared.image.Image.{Image}
use Rattle.wx_base.specs.Facts.{targets_of, AreAscending}
use Rattle.wx_base.specs.Flow.{flow_of}
use Rattle.wx_base.specs.Image.{word_of, is_code_word}
use Rattle.wx_base.specs.Monitor.{BoundedLoop, Function, Rules}
use Rattle.wx_base.specs.Paths.{Path, IsHead, IsMember}
use Rattle.wx_base.specs.Ways.{ways_of}

-- the functions that an instruction may call: the target of a direct call, and those that the facts list for one by register
abbrev pub callees_by : Facts → ℕ → FlowKind → List ℕ
callees_by facts address flow =
    option_to_list flow.call ++ (if flow.call_any then targets_of facts.calls address else [])

-- the functions that a word at an address may call
abbrev pub callees_of : Facts → ℕ → ℕ → List ℕ
callees_of facts word address = callees_by facts address (flow_of word address)

-- the word of code at an address, if one stands there
abbrev pub code_at : Image → ℕ → Option ℕ
code_at image address = if is_code_word image address then word_of image address else None

-- the ways of the instruction at an address; none where no word of code stands
abbrev pub ways_at : Image → Facts → ℕ → List ℕ
ways_at image facts address = option_map_or (λ word. ways_of facts word address) (code_at image address) []

-- the functions that the instruction at an address may call
abbrev pub callees_at : Image → Facts → ℕ → List ℕ
callees_at image facts address = option_map_or (λ word. callees_of facts word address) (code_at image address) []

-- all to which the instruction at an address leads
abbrev pub leads_at : Image → Facts → ℕ → List ℕ
leads_at image facts address = ways_at image facts address ++ callees_at image facts address

-- an address is reached if a word of code stands there, and ways and calls lead to it from the start
pub record IsReached (image : Image) (facts : Facts) (start address : ℕ) : Type 0 where
  pub code : is_code_word image address ≡ true
  pub path : Path (leads_at image facts) [] start address

-- a function begins at the target of a call that is reached
pub record IsCalled (image : Image) (facts : Facts) (start entry : ℕ) : Type 0 where
  pub site : ℕ
  pub reached : IsReached image facts start site
  pub callee : Contains (callees_at image facts site) entry

-- a function begins at the start, or where one is called
abbrev pub IsEntry : Image → Facts → ℕ → ℕ → Type 0
IsEntry image facts start entry = (entry ≡ start) ⊎ IsCalled image facts start entry

-- a call is recursive if one of its callees leads to it, by ways and calls
pub record IsRecursive (image : Image) (facts : Facts) (site : ℕ) : Type 0 where
  pub entry : ℕ
  pub callee : Contains (callees_at image facts site) entry
  pub path : Path (leads_at image facts) [] entry site

-- what the facts say of the back edges into a head, if one names it
abbrev pub fact_of : Facts → ℕ → Option LoopFact
fact_of facts head = find (λ fact. fact.address == head) facts.loops

-- the fact on a loop's head, with the loop's own bounds
abbrev pub fact_on : BoundedLoop → LoopFact
fact_on loop = record { address = loop.head; maxcount = loop.maxcount; totalcount = loop.totalcount }

-- a loop of the function that begins at an entry, its members in the order of addresses, with the bounds of the fact on its head
pub record IsLoop (image : Image) (facts : Facts) (entry : ℕ) (loop : BoundedLoop) : Type 0 where
  pub head : IsHead (ways_at image facts) entry loop.head
  pub bounds : fact_of facts loop.head ≡ Some (fact_on loop)
  pub ascending : AreAscending loop.members
  pub members : (a : ℕ) → Contains loop.members a → IsMember (ways_at image facts) entry loop.head a
  pub whole : (a : ℕ) → IsMember (ways_at image facts) entry loop.head a → Contains loop.members a

-- the loops of a function: each of its heads has one, in the order of addresses
pub record AreLoops (image : Image) (facts : Facts) (entry : ℕ) (loops : List BoundedLoop) : Type 0 where
  pub ascending : AllPairs (λ l m. l.head < m.head) loops
  pub each : All (λ l. IsLoop image facts entry l) loops
  pub whole : (head : ℕ) → IsHead (ways_at image facts) entry head → Any (λ l. l.head ≡ head) loops

-- the functions of an image from a start, with their loops, in the order of addresses
pub record AreFunctions (image : Image) (facts : Facts) (start : ℕ) (functions : List Function) : Type 0 where
  pub ascending : AllPairs (λ f g. f.entry < g.entry) functions
  pub entries : All (λ f. IsEntry image facts start f.entry) functions
  pub loops : All (λ f. AreLoops image facts f.entry f.loops) functions
  pub whole : (entry : ℕ) → IsEntry image facts start entry → Any (λ f. f.entry ≡ entry) functions

-- What the runs of an image from a start are judged by. There is at most one such, and none where no fact names some head of a
-- function.
pub record AreRules (image : Image) (facts : Facts) (start : ℕ) (rules : Rules) : Type 0 where
  pub branches : rules.branches ≡ facts.branches
  pub calls : rules.calls ≡ facts.calls
  pub functions : AreFunctions image facts start rules.functions
