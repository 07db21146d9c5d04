use Rattle.std.proofs.Common.{subst, sym}
use Rattle.cert_text.specs.Writable.{IsWritable}
use Rattle.cert_text.proofs.ReadableLemmas.{writable_of}
use Rattle.cert_text.proofs.laws.what_is_read_is_writable.Goals as goal

pub returns : goal.returns
returns c = λ d bytes small t. subst IsWritable (sym t.is) (writable_of bytes t.version t.lines t.items t.text t.so small)
