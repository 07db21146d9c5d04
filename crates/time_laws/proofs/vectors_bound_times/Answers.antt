use Rattle.time_laws.proofs.AlongLemmas.{cover, bound}
use Rattle.time_laws.proofs.vectors_bound_times.Goals as goal

pub returns-clause-slots : goal.returns-clause-slots
returns-clause-slots c m stretches v cost ok along =
    cover m ok c.windows_follow_the_past.ensures.nothing c.windows_go_on.ensures.slots c.windows_go_on.ensures.completion c.completion_never_falls.ensures
    c.delay_is_passed_on.ensures.times c.delay_is_passed_on.ensures.completion c.delay_is_passed_on.ensures.slots c.covering_survives_a_rebase.ensures.slots
    stretches v cost along

pub returns-clause-completion : goal.returns-clause-completion
returns-clause-completion c m stretches v cost last count taken ok along =
    bound m ok c.windows_follow_the_past.ensures.nothing c.windows_go_on.ensures.slots c.windows_go_on.ensures.completion c.completion_never_falls.ensures
    c.delay_is_passed_on.ensures.times c.delay_is_passed_on.ensures.completion c.delay_is_passed_on.ensures.slots c.covering_survives_a_rebase.ensures.slots
    stretches v cost last count taken along
