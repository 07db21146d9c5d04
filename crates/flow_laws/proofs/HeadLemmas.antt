-- Each head of a function begins a block.
use Rattle.std.proofs.Common.{◌≡◌, ℕ, ◌+◌, ◌%◌, ◌^◌, ◌<◌, ◌≤◌, Bool, true, false, cond, ltb, leb, ◌==◌, ◌&&◌, List, [], ◌∷◌, ◌++◌, get_or, refl, sym, ap, subst, inl, inr, arith}
use Rattle.std.specs.Prelude.{◌⊎◌, Option, Some, None, option_to_list}
use Rattle.std.proofs.lemmas.Bool.{false≢true, and_parts, or_cases}
use Rattle.std.proofs.lemmas.Bool.Decides.{nat_tests}
use Rattle.std.proofs.lemmas.List.Elements.{All-head, All-tail, Contains-append_cases, Contains-append_left, Contains-append_right}
use Rattle.std.specs.List.{All, Contains, list_any}
use Rattle.std.specs.Option.{option_map_or}
use Rattle.wx_base.specs.declared.facts.Facts.{Facts}
use Rattle.wx_base.specs.declared.image.Image.{Image}
use Rattle.wx_base.specs.declared.image.Segment.{Segment}
use Rattle.wx_base.specs.Bits.{add_words}
use Rattle.wx_base.specs.Facts.{targets_of}
use Rattle.wx_base.specs.declared.flow.FlowKind.{FlowKind}
use Rattle.wx_base.specs.Flow.{flow_of, no_flow}
use Rattle.wx_base.specs.Functions.{code_at, ways_at}
use Rattle.wx_base.specs.Image.{has_code, is_code_word, spans, word_of}
use Rattle.wx_base.specs.Paths.{Path, IsHead}
use Rattle.wx_base.specs.Ways.{ways_of}
use Rattle.wx_base.specs.Paths.Path.{here, further}
use Rattle.graph_loops.specs.Laws.{HeadsAreEntered}
use Rattle.flow_block.specs.Blocks.{IsLeader}
use Rattle.flow_block.specs.Blocks.IsLeader.{first, target}
use Rattle.flow_block.specs.Sites.{flow_at, jumps_by}
use Rattle.flow_laws.specs.Programs.{EndsInMemory, HeadsBeginBlocks}

-- ---- lists and paths

pub none_there : (v : ℕ) → Contains [] v → ⊥
none_there v h = absurd (omega (arith, h.1))

pub the_one : (u v : ℕ) → Contains (u ∷ []) v → u ≡ v
the_one u v h = let e : h.0 ≡ 0 = omega (arith, h.1) in subst (λ (k : ℕ). get_or (u ∷ []) k v ≡ v) e h.2

-- a path that avoids something avoids nothing
anyway : (leads : ℕ → List ℕ) (avoided : List ℕ) {a b : ℕ} → Path leads avoided a b → Path leads [] a b
anyway leads avoided (here a n) = here a (none_there a)
anyway leads avoided {a} (further n e p) = further (none_there a) e (anyway leads avoided p)

-- ---- code lies in memory

below : (m n : ℕ) → ltb m n ≡ true → m < n
below m n t = grind (arith, nat_tests)

code_below : (address : ℕ) (segments : List Segment) → All (λ s. s.first + s.size ≤ 2 ^ 32) segments → list_any (λ segment. segment.code && spans address segment) segments ≡ true → address < 2 ^ 32
code_below address [] all e = absurd (false≢true e)
code_below address (s ∷ segments) all e = elim (or_cases (s.code && spans address s) (list_any (λ segment. segment.code && spans address segment) segments) e) [
  | inl h ↦
      let spanned = (and_parts s.code (spans address s) h).1 in
      let l : address < s.first + s.size = below address (s.first + s.size) (and_parts (leb s.first address) (ltb address (s.first + s.size)) spanned).1 in
      let m : s.first + s.size ≤ 2 ^ 32 = All-head (λ s. s.first + s.size ≤ 2 ^ 32) s segments all in
      omega arith
  | inr h ↦ code_below address segments (All-tail (λ s. s.first + s.size ≤ 2 ^ 32) s segments all) h
]

pub word_below : (image : Image) (address : ℕ) → EndsInMemory image → is_code_word image address ≡ true → address < 2 ^ 32
word_below image a ends code =
    let a3 = and_parts ((a % 4 == 0) && has_code image a && has_code image (a + 1) && has_code image (a + 2)) (has_code image (a + 3)) code in
    let a2 = and_parts ((a % 4 == 0) && has_code image a && has_code image (a + 1)) (has_code image (a + 2)) a3.0 in
    let a1 = and_parts ((a % 4 == 0) && has_code image a) (has_code image (a + 1)) a2.0 in
    code_below a image.segments ends.each (and_parts (a % 4 == 0) (has_code image a) a1.0).1

pub coded : (b : Bool) (o : Option ℕ) (word : ℕ) → cond b o None ≡ Some word → b ≡ true
coded true o word e = refl
coded false o word e = absurd (let n : None ≡ Some word = e in cc)

-- ---- the ways of an instruction

-- how an instruction leads to an address: by a jump, or because that stands behind it
abbrev pub IsLedBy : Facts → ℕ → FlowKind → ℕ → Type 0
IsLedBy facts from flow to = Contains (jumps_by facts from flow) to ⊎ ((flow.next ≡ true) × (to ≡ add_words from 4))

pub record LeadsBy (image : Image) (facts : Facts) (from to : ℕ) : Type 0 where
  pub word : ℕ
  pub code : code_at image from ≡ Some word
  pub by : IsLedBy facts from (flow_of word from) to

behind_only : (b : Bool) (next to : ℕ) → Contains (cond b (next ∷ []) []) to → (b ≡ true) × (to ≡ next)
behind_only true next to h = (refl, sym (the_one next to h))
behind_only false next to h = absurd (none_there to h)

pub way_by : (facts : Facts) (from to word : ℕ) → Contains (ways_of facts word from) to → IsLedBy facts from (flow_of word from) to
way_by facts from to word h =
    let flow = flow_of word from in
    let next = cond flow.next (add_words from 4 ∷ []) [] in
    let jump = option_to_list flow.jump in
    let listed = cond flow.indirect (targets_of facts.branches from) [] in
    elim (Contains-append_cases (next ++ jump) listed to h) [
      | inr l ↦ inl (Contains-append_right jump listed to l)
      | inl l ↦ elim (Contains-append_cases next jump to l) [
        | inr j ↦ inl (Contains-append_left jump listed to j)
        | inl n ↦ inr (behind_only flow.next (add_words from 4) to n)
      ]
    ]

pub leads_by : (image : Image) (facts : Facts) (from to : ℕ) → Contains (ways_at image facts from) to → LeadsBy image facts from to
leads_by image facts from to h = at (code_at image from) refl h
  where
    at : (o : Option ℕ) → code_at image from ≡ o → Contains (option_map_or (λ word. ways_of facts word from) o []) to → LeadsBy image facts from to
    at None is k = absurd (none_there to k)
    at (Some word) is k = record { word = word; code = is; by = way_by facts from to word k }

same_source : (a b to : ℕ) → a < 2 ^ 32 → b < 2 ^ 32 → to ≡ add_words a 4 → to ≡ add_words b 4 → a ≡ b
same_source a b to h k e f = omega arith

module _ (image : Image) (facts : Facts) (entry head : ℕ) where
  -- an instruction of the function jumps to the head
  jumped_to : (from : ℕ) → Path (ways_at image facts) [] entry from → (l : LeadsBy image facts from head)
      → Contains (jumps_by facts from (flow_of l.word from)) head → IsLeader image facts entry head
  jumped_to from inside l jump =
      let is : flow_at image from ≡ flow_of l.word from = ap (λ (o : Option ℕ). option_map_or (λ word. flow_of word from) o no_flow) l.code in
      target inside (subst (λ (f : FlowKind). Contains (jumps_by facts from f) head) (sym is) jump)

  pub begins_block : HeadsAreEntered → EndsInMemory image → IsHead (ways_at image facts) entry head → IsLeader image facts entry head
  begins_block entered ends h = elim (entered (ways_at image facts) entry head h) [
    | inl e ↦ subst (λ (x : ℕ). IsLeader image facts entry x) (sym e) first
    | inr e ↦
        let back = leads_by image facts h.source head h.back.edge in
        let way = leads_by image facts e.source head e.edge in
        elim way.by [
          | inl j ↦ jumped_to e.source (anyway (ways_at image facts) (head ∷ []) e.path) way j
          | inr next ↦ elim back.by [
            | inl j ↦ jumped_to h.source h.back.reached back j
            | inr also ↦
                let here_below = word_below image e.source ends (coded (is_code_word image e.source) (word_of image e.source) way.word way.code) in
                let there_below = word_below image h.source ends (coded (is_code_word image h.source) (word_of image h.source) back.word back.code) in
                absurd (h.back.through (subst (λ (x : ℕ). Path (ways_at image facts) (head ∷ []) entry x) (same_source e.source h.source head here_below there_below next.1 also.1) e.path))
          ]
        ]
  ]

pub heads_begin_blocks : HeadsAreEntered → HeadsBeginBlocks
heads_begin_blocks entered image facts entry head ends h = begins_block image facts entry head entered ends h
