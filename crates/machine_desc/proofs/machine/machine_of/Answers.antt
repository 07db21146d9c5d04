use Rattle.std.proofs.Common.{subst, sym, arith, codes, [], ◌≡◌}
use Rattle.toml.specs.View.{view}
use Rattle.machine_desc.specs.Values.{HaveWords, number_at}
use Rattle.machine_desc.proofs.Elements.{regions_right, words_from}
use Rattle.machine_desc.proofs.Machines.{width_in, queue_in, states_in, sets_in, ways_in, line_in}
use Rattle.machine_desc.proofs.machine.machine_of.Goals as goal

pub regions_of-requires : goal.regions_of-requires
regions_of-requires c = subst HaveWords (sym c.elements.ensures) (words_from _ (regions_right (view c.args.document.now) c.requires.faultless))

pub overflow_cast-result : goal.overflow_cast-result
overflow_cast-result c =
    let same : c.number_at.result ≡ number_at (view c.args.document.now) [] (codes "width") = c.number_at.ensures in
    omega (arith, same, (width_in (view c.args.document.now) c.requires.table c.requires.faultless).1)

pub overflow_cast-result-2 : goal.overflow_cast-result-2
overflow_cast-result-2 c =
    let same : c.number_at-2.result ≡ number_at (view c.args.document.now) [] (codes "queue") = c.number_at-2.ensures in
    omega (arith, same, (queue_in (view c.args.document.now) c.requires.table c.requires.faultless).1)

pub overflow_cast-result-3 : goal.overflow_cast-result-3
overflow_cast-result-3 c =
    let same : c.number_at-7.result ≡ number_at (view c.args.document.now) (codes "cache") (codes "sets") = c.number_at-7.ensures in
    omega (arith, same, (sets_in (view c.args.document.now) c.requires.table c.requires.faultless).1)

pub overflow_cast-result-4 : goal.overflow_cast-result-4
overflow_cast-result-4 c =
    let same : c.number_at-8.result ≡ number_at (view c.args.document.now) (codes "cache") (codes "ways") = c.number_at-8.ensures in
    omega (arith, same, (ways_in (view c.args.document.now) c.requires.table c.requires.faultless).1)

pub overflow_cast-result-5 : goal.overflow_cast-result-5
overflow_cast-result-5 c =
    let same : c.number_at-9.result ≡ number_at (view c.args.document.now) (codes "cache") (codes "line") = c.number_at-9.ensures in
    omega (arith, same, (line_in (view c.args.document.now) c.requires.table c.requires.faultless).1)

pub overflow_cast-result-6 : goal.overflow_cast-result-6
overflow_cast-result-6 c =
    let same : c.number_at-11.result ≡ number_at (view c.args.document.now) [] (codes "states") = c.number_at-11.ensures in
    omega (arith, same, (states_in (view c.args.document.now) c.requires.table c.requires.faultless).1)
