use Rattle.std.proofs.Common.{◌∙◌, sym, ap, Some, [], ◌∷◌, length, arith, length-append}
use Rattle.wx_base.specs.Bits.{bytes_of_word}
use Rattle.wx_base.specs.Recurrence.{next, window, Entry}
use Rattle.wcet_cli.proofs.SoFar.{begin, more, ended, cut_off, foreign, has_room}
use Rattle.wcet_cli.proofs.RowsOf.{none_plain, none_last, plain_of, last_of, not_plain_of, not_last_of, missing_of}
use Rattle.wcet_cli.proofs.Running.{every_run_ends_within}
use Rattle.wcet_cli.proofs.commands.straight.bound_of_bytes.Goals as goal

pub loop-word-init : goal.loop-word-init
loop-word-init c =
    begin c.args.machine.now c.args.bytes.now _ c.windows_follow_the_past.ensures.nothing c.zero-pipeline.ensures

pub returns-in_default-decode-clause-fault : goal.returns-in_default-decode-clause-fault
returns-in_default-decode-clause-fault c =
    foreign _ _ _ _ _ _ _ c.loop-word.invariant c.in-Some.ensures.0 c.in-Some.ensures.1
    (none_plain c.in-Some.word (sym c.decode.ensures.exact ∙ c.in_default-decode.is))
    (none_last c.in-Some.word (sym c.decode.ensures.exact ∙ c.in_default-decode.is))

pub advance-times-requires-clause-slots : goal.advance-times-requires-clause-slots
advance-times-requires-clause-slots c =
    (has_room _ _ _ _ _ c.in-Some.word _ c.loop-word.invariant c.in-Some.ensures.0 c.requires.size).times

pub returns-in-Last-clause-bound : goal.returns-in-Last-clause-bound
returns-in-Last-clause-bound c =
    ended _ _ _ _ _ c.in-Some.word _ _ c.requires.machine c.windows_follow_the_past.ensures.times c.loop-word.invariant c.in-Some.ensures.0
    (last_of c.in-Some.word _ c.in-Some.ensures.1 (sym c.decode.ensures.exact ∙ c.in-Some-decode.is) (sym c.role_of.ensures ∙ c.in-Some-role_of.is ∙ ap Some c.in-Last.is))
    (c.advance-times.ensures.times ∙ ap (next c.args.machine.now c.loop-word.pipeline.slots []) (missing_of _ _ c.in-Some-decode.ensures.spelled))

pub overflow_add-addr : goal.overflow_add-addr
overflow_add-addr c =
    let room = has_room _ _ _ _ _ c.in-Some.word _ c.loop-word.invariant c.in-Some.ensures.0 c.requires.size in
    let address = room.address in
    omega arith

pub loop-word-smaller : goal.loop-word-smaller
loop-word-smaller c =
    omega (arith, ap length c.in-Some.ensures.0, length-append (bytes_of_word c.in-Some.word) c.in-Some.behind.now)

pub loop-word-preserved : goal.loop-word-preserved
loop-word-preserved c =
    let entry = missing_of _ _ c.in-Some-decode.ensures.spelled in
    more _ _ _ _ _ c.in-Some.word _ _ _ c.requires.machine c.windows_follow_the_past.ensures.times c.windows_follow_the_past.ensures.slots c.loop-word.invariant c.in-Some.ensures.0
    (plain_of c.in-Some.word _ c.in-Some.ensures.1 (sym c.decode.ensures.exact ∙ c.in-Some-decode.is) (sym c.role_of.ensures ∙ c.in-Some-role_of.is ∙ ap Some c.in_default-role.is))
    (c.advance-times.ensures.times ∙ ap (next c.args.machine.now c.loop-word.pipeline.slots []) entry)
    (c.advance-times.ensures.slots ∙ ap (λ (e : Entry). window c.args.machine.now c.loop-word.pipeline.slots (record { entry = e; times = c.advance-times.result } ∷ [])) entry)
    c.advance-times.ensures.growth

pub returns-clause-fault : goal.returns-clause-fault
returns-clause-fault c = cut_off _ _ _ _ _ c.loop-word.invariant c.in_default.ensures

pub returns-in_default-decode-clause-safe : goal.returns-in_default-decode-clause-safe
returns-in_default-decode-clause-safe c = λ program p. every_run_ends_within _ _ program c.requires.size p c.requires.machine c.worse_is_no_faster.ensures.completion

pub returns-in-Last-clause-safe : goal.returns-in-Last-clause-safe
returns-in-Last-clause-safe c = λ program p. every_run_ends_within _ _ program c.requires.size p c.requires.machine c.worse_is_no_faster.ensures.completion

pub returns-clause-safe : goal.returns-clause-safe
returns-clause-safe c = λ program p. every_run_ends_within _ _ program c.requires.size p c.requires.machine c.worse_is_no_faster.ensures.completion

pub returns-in_default-role_of-clause-safe : goal.returns-in_default-role_of-clause-safe
returns-in_default-role_of-clause-safe c = λ program p. every_run_ends_within _ _ program c.requires.size p c.requires.machine c.worse_is_no_faster.ensures.completion

pub returns-in_default-role_of-clause-fault : goal.returns-in_default-role_of-clause-fault
returns-in_default-role_of-clause-fault c =
    foreign _ _ _ _ _ _ _ c.loop-word.invariant c.in-Some.ensures.0 c.in-Some.ensures.1
    (not_plain_of c.in-Some.word _ (sym c.decode.ensures.exact ∙ c.in-Some-decode.is) (sym c.role_of.ensures ∙ c.in_default-role_of.is))
    (not_last_of c.in-Some.word _ (sym c.decode.ensures.exact ∙ c.in-Some-decode.is) (sym c.role_of.ensures ∙ c.in_default-role_of.is))
