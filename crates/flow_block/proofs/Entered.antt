-- Where blocks begin whatever stands before, found by one pass over the instructions of a function.
use Rattle.std.proofs.Common.{◌≡◌, ◌<◌, ◌≤◌, ◌+◌, ⊎_elim, ℕ, ◌++◌, Bool, true, false, List, [], ◌∷◌, length, get_or, refl, sym, ap, ◌∙◌, subst, arith, Contains, cond, option_to_list, append_assoc, replicate}
use Rattle.std.specs.Option.{option_map_or}
use Rattle.std.proofs.lemmas.Bool.{cases_lt, cases_eq, both_ways}
use Rattle.std.proofs.lemmas.List.{get_or_past, length-replicate, get_or-replicate}
use Rattle.std.proofs.lemmas.List.Elements.{Contains-append_right, Contains-append_left, Contains-append_cases}
use Rattle.wx_base.specs.declared.facts.Facts.{Facts}
use Rattle.wx_base.specs.declared.flow.FlowKind.{FlowKind}
use Rattle.wx_base.specs.declared.image.Image.{Image}
use Rattle.wx_base.specs.Facts.{targets_of}
use Rattle.wx_base.specs.Flow.{flow_of, no_flow}
use Rattle.wx_base.specs.Functions.{ways_at}
use Rattle.wx_base.specs.Bits.{add_words}
use Rattle.wx_base.specs.Paths.{Path, here, further}
use Rattle.wx_base.specs.Ways.{ways_by}
use Rattle.arm_code.specs.declared.insn.Insn.{Insn}
use Rattle.arm_code.specs.declared.insn.Op.TheVariants.{MovPcLr}
use Rattle.arm_code.specs.Encoding.{word_of}
use Rattle.flow_block.specs.Blocks.{IsOfFunction, IsLeader, first, target, after_end}
use Rattle.flow_block.specs.Code.{Subject, IsPlace, IsThere, IsCode, IsInsn, is_marked, AreMarked, AreLeaders, entered_by}
use Rattle.flow_block.specs.Sites.{behind, flow_at, is_end, jumps_by, jumps_at}
use Rattle.flow_block.proofs.Marks.{same_place}

-- nothing is in no list
pub not_in_none : (a : ℕ) → Contains [] a → ⊥
not_in_none a h = absurd (omega (arith, h.1))

-- a path goes one step further
pub path_push : (leads : ℕ → List ℕ) (a b c : ℕ) → Path leads [] a b → Contains (leads b) c → Path leads [] a c
path_push leads a b c (here _ free) h = further free h (here c (not_in_none c))
path_push leads a b c (further free step rest) h = further free step (path_push leads _ b c rest h)

-- the entry is of its function
pub entry_own : (image : Image) (facts : Facts) (entry : ℕ) → IsOfFunction image facts entry entry
entry_own image facts entry = here entry (not_in_none entry)

-- the flow of an instruction is that of its word
pub flow_is : (image : Image) (a : ℕ) (insn : Insn) → IsInsn image a insn → flow_at image a ≡ flow_of (word_of insn) a
flow_is image a insn h = ap (λ o. option_map_or (λ word. flow_of word a) o no_flow) h.stands

-- its ways are those of its flow
pub ways_are : (image : Image) (facts : Facts) (a : ℕ) (insn : Insn) → IsInsn image a insn → ways_at image facts a ≡ ways_by facts a (flow_at image a)
ways_are image facts a insn h = ap (λ o. option_map_or (λ word. ways_by facts a (flow_of word a)) o []) h.stands ∙ ap (λ f. ways_by facts a f) (sym (flow_is image a insn h))

jump_way : (facts : Facts) (a : ℕ) (flow : FlowKind) (to : ℕ) → Contains (jumps_by facts a flow) to → Contains (ways_by facts a flow) to
jump_way facts a flow to h =
    let front = cond flow.next (add_words a 4 ∷ []) [] in
    subst (λ (x : List ℕ). Contains x to) (sym (append_assoc front (option_to_list flow.jump) (cond flow.indirect (targets_of facts.branches a) [])))
    (Contains-append_right front (jumps_by facts a flow) to h)

-- the instruction of an address of the function
pub insn_own : (s : Subject) (addresses : List ℕ) (insns : List Insn) (body : List Bool) (d : Insn) → IsCode s addresses insns body → (a : ℕ) → IsOfFunction s.image s.facts s.entry a → (insn : Insn) × IsInsn s.image a insn
insn_own s addresses insns body d code a own =
    let at = code.whole a own in
    (get_or insns at.0 d, subst (λ (x : ℕ). IsInsn s.image x (get_or insns at.0 d)) at.1.stands (code.each at.0 d at.1.within))

-- a way leads to an address of the function
pub way_own : (s : Subject) (a to : ℕ) (insn : Insn) → IsInsn s.image a insn → IsOfFunction s.image s.facts s.entry a → Contains (ways_by s.facts a (flow_at s.image a)) to → IsOfFunction s.image s.facts s.entry to
way_own s a to insn h own way =
    path_push (ways_at s.image s.facts) s.entry a to own (subst (λ (x : List ℕ). Contains x to) (sym (ways_are s.image s.facts a insn h)) way)

-- and so does a jump
pub jump_own : (s : Subject) (a to : ℕ) (insn : Insn) → IsInsn s.image a insn → IsOfFunction s.image s.facts s.entry a → Contains (jumps_at s.image s.facts a) to → IsOfFunction s.image s.facts s.entry to
jump_own s a to insn h own jump = way_own s a to insn h own (jump_way s.facts a (flow_at s.image a) to jump)

-- where the address stands, the function's mark is set
pub own_marked : (s : Subject) (addresses : List ℕ) (insns : List Insn) (body : List Bool) → IsCode s addresses insns body → (a place : ℕ) → IsOfFunction s.image s.facts s.entry a → IsPlace addresses a place → is_marked body place ≡ true
own_marked s addresses insns body code a place own at =
    let found = code.whole a own in
    ap (λ n. is_marked body n) (same_place addresses a a place found.0 code.ascending at found.1 refl) ∙ found.2

-- a mark that is set is within the list
pub marked_within : (marks : List Bool) (place : ℕ) → is_marked marks place ≡ true → place < length marks
marked_within marks place h = ⊎_elim (λ l. l) (λ l. absurd (both_ways _ (get_or_past marks place false l) h)) (cases_lt place (length marks))

-- the marks so far, when so many instructions have been looked at
pub record LeadersTo (s : Subject) (addresses : List ℕ) (body marks : List Bool) (upto : ℕ) : Type 0 where
  pub long : length marks ≡ length addresses
  pub sound : (place : ℕ) → is_marked marks place ≡ true → IsLeader s.image s.facts s.entry (get_or addresses place 0)
  pub begin : (place : ℕ) → IsPlace addresses s.entry place → is_marked body place ≡ true → is_marked marks place ≡ true
  pub done : (from to place : ℕ) → from < upto → is_marked body from ≡ true
      → Contains (entered_by s.facts (get_or addresses from 0) (flow_at s.image (get_or addresses from 0))) to
      → IsPlace addresses to place → is_marked body place ≡ true → is_marked marks place ≡ true

one_only : (a b : ℕ) → Contains (a ∷ []) b → a ≡ b
one_only a b h = let e : h.0 ≡ 0 = omega (arith, h.1) in sym (ap (λ n. get_or (a ∷ []) n b) e) ∙ h.2

-- the entry alone
pub begun : (s : Subject) (addresses : List ℕ) (body marks : List Bool) → AreMarked addresses body (replicate (length addresses) false) marks (s.entry ∷ []) → LeadersTo s addresses body marks 0
begun s addresses body marks h = record {
  long = h.long ∙ length-replicate (length addresses) false;
  sound = λ place m. ⊎_elim
      (λ k. absurd (both_ways _ (get_or-replicate (length addresses) place false false (omega (arith, marked_within _ place k, length-replicate (length addresses) false))) k))
      (λ k. subst (λ (x : ℕ). IsLeader s.image s.facts s.entry x) (one_only s.entry _ k.1) first)
      (h.sound place m);
  begin = λ place at own. h.put s.entry place (0, omega arith, refl) at own;
  done = λ from to place l. absurd (omega arith);
}

entered_leads : (s : Subject) (addresses : List ℕ) (from to : ℕ) → IsOfFunction s.image s.facts s.entry from → IsOfFunction s.image s.facts s.entry to → (ends : Bool) → is_end (flow_at s.image from) ≡ ends
    → Contains (jumps_at s.image s.facts from ++ cond ends (behind from 1 ∷ []) []) to → IsLeader s.image s.facts s.entry to
entered_leads s addresses from to own into true e h = ⊎_elim (λ k. target own k)
    (λ k. subst (λ (x : ℕ). IsLeader s.image s.facts s.entry x) (one_only _ to k) (after_end own e (subst (λ (x : ℕ). IsOfFunction s.image s.facts s.entry x) (sym (one_only _ to k)) into)))
    (Contains-append_cases (jumps_at s.image s.facts from) (behind from 1 ∷ []) to h)
entered_leads s addresses from to own into false e h = ⊎_elim (λ k. target own k) (λ k. absurd (not_in_none to k)) (Contains-append_cases (jumps_at s.image s.facts from) [] to h)

-- the instruction at the next place is of the function
pub looked : (s : Subject) (addresses : List ℕ) (insns : List Insn) (body before after : List Bool) (list : List ℕ) (d : Insn) (at : ℕ) → IsCode s addresses insns body → LeadersTo s addresses body before at
    → at < length addresses → is_marked body at ≡ true → AreMarked addresses body before after list → list ≡ entered_by s.facts (get_or addresses at 0) (flow_of (word_of (get_or insns at d)) (get_or addresses at 0)) → LeadersTo s addresses body after (at + 1)
looked s addresses insns body before after list d at code h l own m e =
    let flow = flow_is s.image (get_or addresses at 0) (get_or insns at d) (code.each at d l) in
    let same : list ≡ entered_by s.facts (get_or addresses at 0) (flow_at s.image (get_or addresses at 0)) = e ∙ ap (λ f. entered_by s.facts (get_or addresses at 0) f) (sym flow) in
    record {
      long = m.long ∙ h.long;
      sound = λ place k. ⊎_elim (λ w. h.sound place w)
          (λ w. entered_leads s addresses (get_or addresses at 0) (get_or addresses place 0) (code.own at l own)
          (code.own place (omega (arith, marked_within body place w.0, code.mark_each)) w.0) _ refl
          (subst (λ (x : List ℕ). Contains x (get_or addresses place 0)) same w.1))
          (m.sound place k);
      begin = λ place k w. m.kept place (h.begin place k w);
      done = λ from to place k w c p b. ⊎_elim
          (λ u. m.put to place (subst (λ (x : List ℕ). Contains x to) (sym same) (subst (λ (x : ℕ). Contains (entered_by s.facts (get_or addresses x 0) (flow_at s.image (get_or addresses x 0))) to) u c)) p b)
          (λ u. m.kept place (h.done from to place (omega arith) w c p b))
          (cases_eq from at);
    }

-- it is not of the function
pub passed : (s : Subject) (addresses : List ℕ) (body marks : List Bool) (at : ℕ) → LeadersTo s addresses body marks at → is_marked body at ≡ false → LeadersTo s addresses body marks (at + 1)
passed s addresses body marks at h other = record {
  long = h.long;
  sound = h.sound;
  begin = h.begin;
  done = λ from to place k w c p b. ⊎_elim (λ u. absurd (both_ways _ other (ap (λ n. is_marked body n) (sym u) ∙ w))) (λ u. h.done from to place (omega arith) w c p b) (cases_eq from at);
}

entered_marked : (s : Subject) (addresses : List ℕ) (insns : List Insn) (body marks : List Bool) (at : ℕ) → IsCode s addresses insns body → LeadersTo s addresses body marks at → length addresses ≤ at
    → (from to place : ℕ) → IsOfFunction s.image s.facts s.entry from → IsOfFunction s.image s.facts s.entry to → Contains (entered_by s.facts from (flow_at s.image from)) to → IsPlace addresses to place → is_marked marks place ≡ true
entered_marked s addresses insns body marks at code h l from to place own into c p =
    let k = code.whole from own in
    h.done k.0 to place (omega (arith, k.1.within)) k.2
    (subst (λ (x : ℕ). Contains (entered_by s.facts x (flow_at s.image x)) to) (sym k.1.stands) c) p (own_marked s addresses insns body code to place into p)

behind_entered : (jumps : List ℕ) (a : ℕ) (ends : Bool) → ends ≡ true → Contains (jumps ++ cond ends (a ∷ []) []) a
behind_entered jumps a ends e = subst (λ (x : Bool). Contains (jumps ++ cond x (a ∷ []) []) a) (sym e) (Contains-append_right jumps (a ∷ []) a (0, omega arith, refl))

leader_marked : (s : Subject) (addresses : List ℕ) (insns : List Insn) (body marks : List Bool) (d : Insn) (at : ℕ) → IsCode s addresses insns body → LeadersTo s addresses body marks at → length addresses ≤ at
    → (a place : ℕ) → IsPlace addresses a place → IsLeader s.image s.facts s.entry a → is_marked marks place ≡ true
leader_marked s addresses insns body marks d at code h l _ place p first = h.begin place p (own_marked s addresses insns body code s.entry place (entry_own s.image s.facts s.entry) p)
leader_marked s addresses insns body marks d at code h l _ place p (target {from} {to} own jump) =
    let i = insn_own s addresses insns body d code from own in
    entered_marked s addresses insns body marks at code h l from to place own (jump_own s from to i.0 i.1 own jump)
    (Contains-append_left (jumps_at s.image s.facts from) (cond (is_end (flow_at s.image from)) (behind from 1 ∷ []) []) to jump) p
leader_marked s addresses insns body marks d at code h l _ place p (after_end {from} own e into) =
    entered_marked s addresses insns body marks at code h l from (behind from 1) place own into
    (behind_entered (jumps_at s.image s.facts from) (behind from 1) (is_end (flow_at s.image from)) e) p

-- where a block begins is of the function
pub leader_own : (s : Subject) (addresses : List ℕ) (insns : List Insn) (body : List Bool) (d : Insn) → IsCode s addresses insns body → (a : ℕ) → IsLeader s.image s.facts s.entry a → IsOfFunction s.image s.facts s.entry a
leader_own s addresses insns body d code _ first = entry_own s.image s.facts s.entry
leader_own s addresses insns body d code _ (target {from} {to} own jump) = let i = insn_own s addresses insns body d code from own in jump_own s from to i.0 i.1 own jump
leader_own s addresses insns body d code _ (after_end {from} own e into) = into

-- an address of the function is in the list
pub there : (s : Subject) (addresses : List ℕ) (insns : List Insn) (body : List Bool) → IsCode s addresses insns body → (a : ℕ) → IsOfFunction s.image s.facts s.entry a → IsThere addresses a
there s addresses insns body code a own = let at = code.whole a own in record { place = at.0; at = at.1 }

-- all have been looked at
pub all_looked : (s : Subject) (addresses : List ℕ) (insns : List Insn) (body marks : List Bool) (d : Insn) (at : ℕ) → IsCode s addresses insns body → LeadersTo s addresses body marks at → length addresses ≤ at → AreLeaders s addresses marks
all_looked s addresses insns body marks d at code h l = record {
  long = h.long;
  sound = h.sound;
  whole = λ a place p lead. leader_marked s addresses insns body marks d at code h l a place p lead;
  listed = λ a lead. there s addresses insns body code a (leader_own s addresses insns body d code a lead);
}

-- an instruction, where one has to be named
pub some_insn : Insn
some_insn = record { cond = 14; op = MovPcLr }

pub begun_by : (s : Subject) (addresses : List ℕ) (body before marks : List Bool) (entry : ℕ) → s.entry ≡ entry → before ≡ replicate (length addresses) false → AreMarked addresses body before marks (entry ∷ []) → LeadersTo s addresses body marks 0
begun_by s addresses body before marks entry e f h =
    begun s addresses body marks (subst (λ (x : List Bool). AreMarked addresses body x marks (s.entry ∷ [])) f (subst (λ (x : ℕ). AreMarked addresses body before marks (x ∷ [])) (sym e) h))

pub looked_by : (s : Subject) (facts : Facts) (addresses : List ℕ) (insns : List Insn) (body before after marks : List Bool) (list items : List ℕ) (d : Insn) (at : ℕ) → IsCode s addresses insns body → s.facts ≡ facts → LeadersTo s addresses body before at
    → at < length addresses → is_marked body at ≡ true → AreMarked addresses body before after list → list ≡ items → items ≡ entered_by facts (get_or addresses at 0) (flow_of (word_of (get_or insns at d)) (get_or addresses at 0)) → marks ≡ after → LeadersTo s addresses body marks (at + 1)
looked_by s facts addresses insns body before after marks list items d at code f h l own m e i k =
    subst (λ (x : List Bool). LeadersTo s addresses body x (at + 1)) (sym k)
    (looked s addresses insns body before after list d at code h l own m (e ∙ i ∙ ap (λ x. entered_by x (get_or addresses at 0) (flow_of (word_of (get_or insns at d)) (get_or addresses at 0))) (sym f)))
