use Rattle.std.proofs.Common.{Some, None, Bool, ap, sym, cond, ◌∙◌, arith}
use Rattle.std.proofs.lemmas.List.{take_all}
use Rattle.ffx_facts.specs.Machine.{run, start}
use Rattle.ffx_facts.specs.Scan.{view}
use Rattle.ffx_facts.proofs.Fronts.{front_more, stops_within, stops_at_end}
use Rattle.ffx_facts.proofs.scan.scan.Goals as goal

pub returns-then-not-branch : goal.returns-then-not-branch
returns-then-not-branch c =
    let b = c.args.bytes.now in
    let i = c.loop-at.invariant in
    let dead = c.in_ok-take.ensures.step ∙ ap (λ (alive : Bool). cond alive (Some (view c.take.new.self)) None) c.if-not-branch.true in
    stops_within b c.loop-at.at (view c.loop-at.scanner) (omega arith) i.read (front_more b c.loop-at.at (view c.loop-at.scanner) None (omega arith) i.read dead)

pub loop-at-preserved : goal.loop-at-preserved
loop-at-preserved c =
    let b = c.args.bytes.now in
    let i = c.loop-at.invariant in
    let goes = c.in_ok-take.ensures.step ∙ ap (λ (alive : Bool). cond alive (Some (view c.take.new.self)) None) c.if-not-branch.false in
    record {
      bytes = c.take.ensures.bytes ∙ i.bytes;
      place = omega arith;
      read = front_more b c.loop-at.at (view c.loop-at.scanner) (Some (view c.take.new.self)) (omega arith) i.read goes;
    }

pub returns-then-not-is_whole : goal.returns-then-not-is_whole
returns-then-not-is_whole c =
    let b = c.args.bytes.now in
    let all = ap (run (Some start)) (sym (take_all c.loop-at.at b (omega arith))) ∙ c.loop-at.invariant.read in
    stops_at_end b (view c.loop-at.scanner) all (sym c.is_whole.ensures ∙ c.if-not-is_whole.true)

pub returns : goal.returns
returns c =
    let b = c.args.bytes.now in
    let all = ap (run (Some start)) (sym (take_all c.loop-at.at b (omega arith))) ∙ c.loop-at.invariant.read in
    record {
      state = view c.loop-at.scanner;
      read = all;
      whole = sym c.is_whole.ensures ∙ c.if-not-is_whole.false;
      has = sym c.into_elements.ensures;
    }
