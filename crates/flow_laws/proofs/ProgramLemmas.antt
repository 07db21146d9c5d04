-- Ways and calls of a program lead to instructions.
use Rattle.std.proofs.Common.{◌≡◌, ℕ, Bool, true, false, List, [], refl, sym, ap, subst, ◌∙◌, inl, inr}
use Rattle.std.specs.Prelude.{Option, Some, None, option_map}
use Rattle.std.proofs.lemmas.List.Elements.{Contains-append_cases, Contains-append_left, Contains-append_right}
use Rattle.std.specs.List.{Contains}
use Rattle.std.specs.Option.{option_map_or}
use Rattle.wx_base.specs.declared.facts.Facts.{Facts}
use Rattle.wx_base.specs.declared.flow.FlowKind.{FlowKind}
use Rattle.wx_base.specs.declared.image.Image.{Image}
use Rattle.wx_base.specs.declared.machine.Machine.{Machine}
use Rattle.wx_base.specs.Flow.{flow_of, no_flow}
use Rattle.wx_base.specs.Functions.{callees_at, code_at, leads_at, ways_at, IsReached}
use Rattle.wx_base.specs.Image.{is_code_word}
use Rattle.wx_base.specs.Instruction.{kind_of}
use Rattle.wx_base.specs.Paths.{Path}
use Rattle.wx_base.specs.Paths.Path.{here, further}
use Rattle.arm_code.specs.Encoding.{decoded, insn_by}
use Rattle.flow_block.specs.Sites.{flow_at, jumps_at, jumps_by}
use Rattle.flow_graph.specs.declared.error.FlowError.{FlowError}
use Rattle.flow_graph.specs.declared.error.FlowError.TheVariants.{Unsupported, LeavesCode, BadTarget}
use Rattle.flow_graph.specs.Program.{rules_of}
use Rattle.flow_graph.specs.Refusals.{IsCause}
use Rattle.run_laws.specs.Reached.{LeadsToInstructions, RunsFindInstructions}
use Rattle.flow_laws.specs.Programs.{ProgramsLeadToInstructions, RunsOfProgramsFindInstructions}
use Rattle.flow_laws.proofs.HeadLemmas.{none_there, leads_by}

-- a word that no row takes in is no instruction
foreign_word : (word : ℕ) → kind_of word ≡ None → decoded word ≡ None
unfolding decoded
foreign_word word e = ap (option_map (insn_by word)) e

pub one_more : (leads : ℕ → List ℕ) {a b c : ℕ} → Path leads [] a b → Contains (leads b) c → Path leads [] a c
one_more leads {c = c} (here a n) e = further n e (here c (none_there c))
one_more leads (further n f p) e = further n f (one_more leads p e)

by_test : {A : Type 0} (b : Bool) → (b ≡ true → A) → (b ≡ false → A) → A
by_test true so not_so = so refl
by_test false so not_so = not_so refl

module _ (image : Image) (facts : Facts) (start : ℕ) (machine : Machine) (sound : (cause : FlowError) → IsCause image facts start machine cause → ⊥) where
  begins_at_code : is_code_word image start ≡ true
  begins_at_code = by_test (is_code_word image start) (λ e. e) (λ e. absurd (sound (LeavesCode start) (record { come = inl refl; empty = e })))

  flow_is : (from word : ℕ) → code_at image from ≡ Some word → flow_at image from ≡ flow_of word from
  flow_is from word code = ap (λ (o : Option ℕ). option_map_or (λ w. flow_of w from) o no_flow) code

  -- an instruction that is reached leads to a word of code
  way_to_code : (from to : ℕ) → IsReached image facts start from → Contains (ways_at image facts from) to → is_code_word image to ≡ false → ⊥
  way_to_code from to reached way empty =
      let l = leads_by image facts from to way in
      elim l.by [
        | inl j ↦
            let jump : Contains (jumps_at image facts from) to = subst (λ (f : FlowKind). Contains (jumps_by facts from f) to) (sym (flow_is from l.word l.code)) j in
            sound (BadTarget from to) (record { reached = reached; listed = Contains-append_left (jumps_at image facts from) (callees_at image facts from) to jump; empty = empty })
        | inr next ↦ sound (LeavesCode to) (record { come = inr (record { from = from; reached = reached; next = ap (λ (f : FlowKind). f.next) (flow_is from l.word l.code) ∙ next.0; behind = next.1 }); empty = empty })
      ]

  callee_to_code : (from to : ℕ) → IsReached image facts start from → Contains (callees_at image facts from) to → is_code_word image to ≡ false → ⊥
  callee_to_code from to reached callee empty =
      sound (BadTarget from to) (record { reached = reached; listed = Contains-append_right (jumps_at image facts from) (callees_at image facts from) to callee; empty = empty })

  leads_to_code : (from to : ℕ) → IsReached image facts start from → Contains (leads_at image facts from) to → is_code_word image to ≡ true
  leads_to_code from to reached h =
      by_test (is_code_word image to) (λ e. e)
      (λ e. elim (Contains-append_cases (ways_at image facts from) (callees_at image facts from) to h) [
        | inl way ↦ absurd (way_to_code from to reached way e)
        | inr callee ↦ absurd (callee_to_code from to reached callee e)
      ])

  -- all that is led to is code
  code_along : {a b : ℕ} → Path (leads_at image facts) [] start a → is_code_word image a ≡ true → Path (leads_at image facts) [] a b → is_code_word image b ≡ true
  code_along so_far code (here a n) = code
  code_along {a} so_far code (further {b = b} n e p) =
      code_along {a = b} (one_more (leads_at image facts) so_far e) (leads_to_code a b (record { code = code; path = so_far }) e) p

  pub leads : LeadsToInstructions image facts start
  leads = record {
    code = λ a p. code_along (here start (none_there start)) begins_at_code p;
    insn = λ a word p stands none.
        let code = code_along (here start (none_there start)) begins_at_code p in
        sound (Unsupported a word) (record { reached = record { code = code; path = p }; stands = stands; foreign = foreign_word word none });
  }

pub programs_lead : ProgramsLeadToInstructions
programs_lead image facts start machine program is = leads image facts start machine is.sound

pub runs_of_programs : RunsFindInstructions → RunsOfProgramsFindInstructions
runs_of_programs law image facts entry machine program start n is started =
    law machine image facts (rules_of facts program) entry start n started (record { branches = is.is.rules.branches; calls = is.is.rules.calls }) (leads image facts entry machine is.sound)
