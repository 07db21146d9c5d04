use Rattle.std.proofs.Common.{refl}
use Rattle.wcet_front.specs.Reply.{memory_line, starved}
use Rattle.wcet_cli.specs.Call.{Starves}
use Rattle.wcet_cli.proofs.Answering.{settled_on, starves_on}
use Rattle.wcet_cli.proofs.Ends as ends
use Rattle.wcet_cli.proofs.FaultFree.{no_fault}
use Rattle.wcet_cli.proofs.Handed.{due_ends, must_be_three}
use Rattle.wcet_cli.proofs.Headline.{headline}
use Rattle.wcet_cli.proofs.wcet.Goals as goal

pub returns-in-Ok-clause-answer : goal.returns-in-Ok-clause-answer
returns-in-Ok-clause-answer g c =
    let said = c.say.ensures.answer in
    let cause = settled_on _ c.in-Ok.reply c.answer_to.result c.in-Ok.ensures.replied c.answer_to.ensures.cause in
    (said.0, said.1, ends.answer_of _ _ c.in-Ok.reply _ _ cause said.2, said.3)

pub returns-in-Ok-clause-due : goal.returns-in-Ok-clause-due
returns-in-Ok-clause-due g c contents due told is read_fine write_fine sink_fine =
    let reply = c.in-Ok.reply in
    let cause = settled_on _ reply c.answer_to.result c.in-Ok.ensures.replied c.answer_to.ensures.cause in
    let free = no_fault _ _ reply _ cause (λ r. settled_on _ reply c.answer_to.result c.in-Ok.ensures.replied (c.answer_to.ensures.sound r)) read_fine write_fine in
    let same = settled_on _ reply c.answer_to.result c.in-Ok.ensures.replied (c.answer_to.ensures.due contents due told is) free in
    due_ends _ _ _ _ _ _ reply due free c.say.ensures.answer c.say.ensures.sound sink_fine same

pub returns-in-Ok-clause-sink_fault : goal.returns-in-Ok-clause-sink_fault
returns-in-Ok-clause-sink_fault g c = let said = c.say.ensures.answer in must_be_three _ _ _ _ _ said.0 said.1 said.3

pub returns-in-Ok-clause-answered : goal.returns-in-Ok-clause-answered
returns-in-Ok-clause-answered g c =
    ends.at_zero c.worse_is_no_faster.ensures.completion c.m1_is_in_range.ensures _ _ _ _ _ _ _ (returns-in-Ok-clause-answer g c)

pub returns-in-Ok-clause-headline : goal.returns-in-Ok-clause-headline
returns-in-Ok-clause-headline g c w answered form =
    headline (record { bounds = c.valid_bounds_hold.ensures; loaded = c.images_are_loaded.ensures; ranges = c.descriptions_are_in_range.ensures })
    _ _ _ w _ _ form (returns-in-Ok-clause-answered g c answered)

pub returns-in-Ok-clause-misused : goal.returns-in-Ok-clause-misused
returns-in-Ok-clause-misused g c =
    ends.at_one c.worse_is_no_faster.ensures.completion c.m1_is_in_range.ensures _ _ _ _ _ _ _ (returns-in-Ok-clause-answer g c)

pub returns-in-Ok-clause-unread : goal.returns-in-Ok-clause-unread
returns-in-Ok-clause-unread g c =
    ends.at_two c.worse_is_no_faster.ensures.completion c.m1_is_in_range.ensures _ _ _ _ _ _ _ (returns-in-Ok-clause-answer g c)

pub returns-in-Ok-clause-unwritten : goal.returns-in-Ok-clause-unwritten
returns-in-Ok-clause-unwritten g c =
    ends.at_three c.worse_is_no_faster.ensures.completion c.m1_is_in_range.ensures _ _ _ _ _ _ _ (returns-in-Ok-clause-answer g c)

pub returns-in-Ok-clause-refused_image : goal.returns-in-Ok-clause-refused_image
returns-in-Ok-clause-refused_image g c =
    ends.at_four c.worse_is_no_faster.ensures.completion c.m1_is_in_range.ensures _ _ _ _ _ _ _ (returns-in-Ok-clause-answer g c)

pub returns-in-Ok-clause-refused_facts : goal.returns-in-Ok-clause-refused_facts
returns-in-Ok-clause-refused_facts g c =
    ends.at_five c.worse_is_no_faster.ensures.completion c.m1_is_in_range.ensures _ _ _ _ _ _ _ (returns-in-Ok-clause-answer g c)

pub returns-in-Ok-clause-refused_machine : goal.returns-in-Ok-clause-refused_machine
returns-in-Ok-clause-refused_machine g c =
    ends.at_six c.worse_is_no_faster.ensures.completion c.m1_is_in_range.ensures _ _ _ _ _ _ _ (returns-in-Ok-clause-answer g c)

pub returns-in-Ok-clause-refused_certificate : goal.returns-in-Ok-clause-refused_certificate
returns-in-Ok-clause-refused_certificate g c =
    ends.at_seven c.worse_is_no_faster.ensures.completion c.m1_is_in_range.ensures _ _ _ _ _ _ _ (returns-in-Ok-clause-answer g c)

pub returns-in-Ok-clause-rejected : goal.returns-in-Ok-clause-rejected
returns-in-Ok-clause-rejected g c =
    ends.at_eight c.worse_is_no_faster.ensures.completion c.m1_is_in_range.ensures _ _ _ _ _ _ _ (returns-in-Ok-clause-answer g c)

pub returns-in-Ok-clause-too_large : goal.returns-in-Ok-clause-too_large
returns-in-Ok-clause-too_large g c =
    ends.at_ten c.worse_is_no_faster.ensures.completion c.m1_is_in_range.ensures _ _ _ _ _ _ _ (returns-in-Ok-clause-answer g c)

pub returns-in-Ok-clause-breaks_fact : goal.returns-in-Ok-clause-breaks_fact
returns-in-Ok-clause-breaks_fact g c =
    ends.at_eleven c.worse_is_no_faster.ensures.completion c.m1_is_in_range.ensures _ _ _ _ _ _ _ (returns-in-Ok-clause-answer g c)

pub returns-in-Ok-clause-refused_start : goal.returns-in-Ok-clause-refused_start
returns-in-Ok-clause-refused_start g c =
    ends.at_twelve c.worse_is_no_faster.ensures.completion c.m1_is_in_range.ensures _ _ _ _ _ _ _ (returns-in-Ok-clause-answer g c)

pub returns-in-Ok-clause-kept : goal.returns-in-Ok-clause-kept
returns-in-Ok-clause-kept g c =
    ends.stays c.worse_is_no_faster.ensures.completion c.m1_is_in_range.ensures _ _ _ _ _ _ _ (returns-in-Ok-clause-answer g c)

pub returns-in-Ok-clause-in_part : goal.returns-in-Ok-clause-in_part
returns-in-Ok-clause-in_part g c =
    ends.holds_part c.worse_is_no_faster.ensures.completion c.m1_is_in_range.ensures _ _ _ _ _ _ _ (returns-in-Ok-clause-answer g c)

pub returns-in-Err-clause-answer : goal.returns-in-Err-clause-answer
returns-in-Err-clause-answer g c =
    let cut = starves_on _ c.answer_to.result c.in-Err.ensures.starved c.answer_to.ensures.starved in
    (starved, memory_line, Starves cut refl refl, c.say_memory.ensures.answer)

pub returns-in-Err-clause-kept : goal.returns-in-Err-clause-kept
returns-in-Err-clause-kept g c =
    ends.stays c.worse_is_no_faster.ensures.completion c.m1_is_in_range.ensures _ _ _ _ _ _ _ (returns-in-Err-clause-answer g c)

pub returns-in-Err-clause-in_part : goal.returns-in-Err-clause-in_part
returns-in-Err-clause-in_part g c =
    ends.holds_part c.worse_is_no_faster.ensures.completion c.m1_is_in_range.ensures _ _ _ _ _ _ _ (returns-in-Err-clause-answer g c)
