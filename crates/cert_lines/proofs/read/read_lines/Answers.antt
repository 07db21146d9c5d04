use Rattle.std.proofs.Common.{◌+◌, Some, None, cond, map, sym, ap, ◌∙◌, arith}
use Rattle.std.specs.Prelude.{Option, slice_index}
use Rattle.std.proofs.lemmas.List.{take_all}
use Rattle.cert_lines.specs.declared.lines_error.LinesError.TheVariants.{Syntax, NoEnd}
use Rattle.cert_lines.specs.Machine.{State, run, start, step}
use Rattle.cert_lines.specs.Reading.{lines_of, view}
use Rattle.cert_lines.proofs.Fronts.{front_more, stops_within, cut, one_reading, no_cause, one_cause}
use Rattle.cert_lines.proofs.ReaderLemmas.{final}
use Rattle.cert_lines.proofs.read.read_lines.Goals as goal

-- ---- a byte that no text goes on with
pub returns-then-not-branch-clause-refused : goal.returns-then-not-branch-clause-refused
returns-then-not-branch-clause-refused c =
    let b = c.args.bytes.now in
    let r = c.loop-at.reader in
    let i = c.loop-at.invariant in
    let dead = ap (λ l. step (view r c.loop-at.at) (slice_index l c.loop-at.at)) (sym i.bytes) ∙ c.in_ok-take.ensures.step ∙ ap (λ alive. cond {A = Option State} alive (Some (view c.take.new.self (c.loop-at.at + 1))) None) c.if-not-branch.true in
    stops_within b c.loop-at.at (view r c.loop-at.at) c.loop-at-test.true i.read (front_more b c.loop-at.at (view r c.loop-at.at) None c.loop-at-test.true i.read dead)

pub returns-then-not-branch-clause-taken : goal.returns-then-not-branch-clause-taken
returns-then-not-branch-clause-taken c = λ v lines is. no_cause c.args.bytes.now v lines is (Syntax c.loop-at.at) (returns-then-not-branch-clause-refused c)

pub returns-then-not-branch-clause-due : goal.returns-then-not-branch-clause-due
returns-then-not-branch-clause-due c = λ e is other. one_cause c.args.bytes.now e (Syntax c.loop-at.at) is other (returns-then-not-branch-clause-refused c)

pub loop-at-preserved : goal.loop-at-preserved
loop-at-preserved c =
    let b = c.args.bytes.now in
    let r = c.loop-at.reader in
    let i = c.loop-at.invariant in
    let goes = ap (λ l. step (view r c.loop-at.at) (slice_index l c.loop-at.at)) (sym i.bytes) ∙ c.in_ok-take.ensures.step ∙ ap (λ alive. cond {A = Option State} alive (Some (view c.take.new.self (c.loop-at.at + 1))) None) c.if-not-branch.false in
    record {
      bytes = c.in_ok-take.ensures.bytes ∙ i.bytes;
      end = i.end;
      ready = c.in_ok-take.ensures.ready c.if-not-branch.false;
      read = front_more b c.loop-at.at (view r c.loop-at.at) (Some (view c.take.new.self (c.loop-at.at + 1))) c.loop-at-test.true i.read goes;
    }

-- ---- all bytes
pub returns-then-not-is_whole-clause-refused : goal.returns-then-not-is_whole-clause-refused
returns-then-not-is_whole-clause-refused c =
    let b = c.args.bytes.now in
    let all = ap (run (Some start)) (sym (take_all c.loop-at.at b (omega (arith, c.loop-at-test.false)))) ∙ c.loop-at.invariant.read in
    cut b (view c.loop-at.reader c.loop-at.at) all (sym (c.is_whole.ensures c.loop-at.at) ∙ c.if-not-is_whole.true)

pub returns-then-not-is_whole-clause-taken : goal.returns-then-not-is_whole-clause-taken
returns-then-not-is_whole-clause-taken c = λ v lines is. no_cause c.args.bytes.now v lines is NoEnd (returns-then-not-is_whole-clause-refused c)

pub returns-then-not-is_whole-clause-due : goal.returns-then-not-is_whole-clause-due
returns-then-not-is_whole-clause-due c = λ e is other. one_cause c.args.bytes.now e NoEnd is other (returns-then-not-is_whole-clause-refused c)

pub returns-clause-read : goal.returns-clause-read
returns-clause-read c =
    let b = c.args.bytes.now in
    let r = c.loop-at.reader in
    let all = ap (run (Some start)) (sym (take_all c.loop-at.at b (omega (arith, c.loop-at-test.false)))) ∙ c.loop-at.invariant.read in
    let is = final b r.version (lines_of r.rows.items) (map (λ w. w.now) r.words.items) r.bytes.now c.loop-at.at r.place all (sym (c.is_whole.ensures c.loop-at.at) ∙ c.if-not-is_whole.false) in
    rw (c.into_lines.ensures.version, c.into_lines.ensures.rows) is

pub returns-clause-once : goal.returns-clause-once
returns-clause-once c = λ v lines is. one_reading c.args.bytes.now c.into_lines.result.version v (lines_of c.into_lines.result.rows) lines (returns-clause-read c) is

pub returns-clause-due : goal.returns-clause-due
returns-clause-due c = λ e is other. other (no_cause c.args.bytes.now c.into_lines.result.version (lines_of c.into_lines.result.rows) (returns-clause-read c) e is)
