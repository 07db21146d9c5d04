-- What a scanner stands for.
use Rattle.std.specs.Prelude.{◌≡◌, ℕ, Bool, if◌then◌else◌, List, map, reverse, slice_range, Option, Some, None, option_map}
use Rattle.std.specs.Ordering.{nat_cmp}
use denote.Ref.{Bor}
use Rattle.std.specs.Cmp.Lexicographic.{slice_cmp}
use Rattle.std.specs.BTreeMap.{get_by}
use Rattle.ffx_facts.specs.declared.state.Scanner.{Scanner}
use Rattle.ffx_facts.specs.declared.element.Element.{Element as Kept}
use Rattle.ffx_facts.specs.Machine.{Element, State}

-- the bytes of a value, where there is one
abbrev pub value : Option (Bor (List ℕ)) → Option (List ℕ)
value v = option_map (λ b. b.now) v

-- the element that is kept
abbrev pub element : Kept → Element
element e = record {
  kind = e.kind;
  at = e.at;
  address = value e.address;
  label = value e.label;
  offset = value e.offset;
  maxcount = value e.maxcount;
  totalcount = value e.totalcount;
}

-- the state that a scanner stands for
abbrev pub view : Scanner → State
view s = record {
  place = s.place;
  stage = s.stage;
  part = s.part;
  nesting = reverse s.nesting.items;
  elements = map element s.elements.items;
  kind = s.kind;
  at = s.at;
  attributes = λ q. value (get_by (λ k. slice_cmp nat_cmp q k.now) s.attributes);
  name = s.name.now;
  start = s.start;
  text = slice_range s.bytes.now s.start s.place;
}

-- the answer of a step: where a file can go on so, the scanner stands for the next state
abbrev pub goes : Bool → State → Option State → Type 0
goes alive new next = next ≡ (if alive then Some new else None)
