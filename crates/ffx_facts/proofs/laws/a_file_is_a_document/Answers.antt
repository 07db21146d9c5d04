use Rattle.ffx_facts.proofs.Nested.{spelled_is_document}
use Rattle.ffx_facts.proofs.Split.{file_is_spelled}
use Rattle.ffx_facts.proofs.laws.a_file_is_a_document.Goals as goal

pub returns : goal.returns
returns c bytes elements f = spelled_is_document bytes elements (file_is_spelled bytes elements f)
