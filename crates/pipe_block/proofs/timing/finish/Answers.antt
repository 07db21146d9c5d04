use Rattle.std.proofs.Common.{◌<◌, length, get_or, rules}
use Rattle.std.proofs.lemmas.Option.{slice_get-get_or}
use Rattle.pipe_block.proofs.Results.{finish_is}
use Rattle.pipe_block.proofs.timing.finish.Goals as goal

pub returns-clause-value : goal.returns-clause-value
returns-clause-value c =
    let l : 14 < length c.args.v.now.slots = search rules in
    λ nodes m from b w f. finish_is nodes m from b c.args.v.now (get_or c.args.v.now.slots 14 (record { place = 0 })) (slice_get-get_or c.args.v.now.slots 14 (record { place = 0 }) l) w f
