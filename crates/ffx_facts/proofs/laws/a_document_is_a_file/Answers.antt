use Rattle.ffx_facts.proofs.Documents.{document_is_spelled}
use Rattle.ffx_facts.proofs.Spelled.{spelled_is_file}
use Rattle.ffx_facts.proofs.laws.a_document_is_a_file.Goals as goal

pub returns : goal.returns
returns c bytes elements d = spelled_is_file bytes elements (document_is_spelled bytes elements d)
