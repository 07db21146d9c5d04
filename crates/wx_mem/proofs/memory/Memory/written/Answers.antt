use Rattle.std.proofs.Common.{sym, ap, ◌∙◌, is_some}
use Rattle.wx_mem.proofs.Entries.{found}
use Rattle.wx_mem.proofs.memory.Memory.written.Goals as goal

pub returns : goal.returns
returns c = rw (← c.self.view_is) (c.contains_key.ensures ∙ ap is_some (sym (found c.self.inside.bytes.entries c.args.addr)))
