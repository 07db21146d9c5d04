use Rattle.std.proofs.Common.{◌<◌, length, arith}
use Rattle.wx_base.specs.Cache.{set_of}
use Rattle.cache_class.proofs.TableLemmas.{stands_at}
use Rattle.cache_class.proofs.sets.set_of_line.Goals as goal

pub returns : goal.returns
returns c =
    let tables = c.args.tables.now in
    let set = set_of tables.shape c.args.line in
    let inside : set < length tables.sets.items = omega (arith, c.requires.each_set.long, c.requires.form.sets.0) in
    c.requires.each_set.each set c.index.result.now (stands_at tables.sets.items set c.index.result.now inside c.index.ensures)
