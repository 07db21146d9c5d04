use Rattle.std.proofs.Common.{◌≡◌, ◌<◌, ℕ, List, length, get_or, sym, ap, subst, ◌∙◌, arith}
use Rattle.wx_base.specs.declared.image.Image.{Image}
use Rattle.flow_block.specs.Blocks.{AreBlocks}
use Rattle.flow_block.specs.Code.{IsCode, Subject}
use Rattle.std.proofs.lemmas.List.{get_or_default}
use Rattle.graph_loops.specs.declared.loops.Loop.{Loop}
use Rattle.flow_graph.specs.Outlines.{AreLoopInfos}
use Rattle.flow_graph.proofs.FunctionLemmas.{heads_within, members_within, function_loops, function_code}
use Rattle.flow_graph.proofs.function.function.Goals as goal

pub blocks_of-requires : goal.blocks_of-requires
blocks_of-requires g c =
    let facts = c.args.inputs.now.facts.now in
    let addresses = c.args.listing.now.addresses.items in
    let within : c.args.outline.now.entry < length addresses = omega (arith, c.requires.1.1.1.1.1.0, c.requires.1.1.1.0.ways_are.count) in
    let same = c.requires.0 in
    let entry : c.index-entry.result.now ≡ get_or addresses c.args.outline.now.entry 0 =
    c.index-entry.ensures ∙ get_or_default addresses c.args.outline.now.entry c.index-entry.result.now 0 within in
    let code = function_code c.args.outline.now.entry c.in_ok-body.body.items c.requires.1.1.1.0 within c.in_ok-body.ensures in
    let its_code : IsCode g.of addresses c.args.listing.now.insns.items c.in_ok-body.body.items =
    subst (λ (s : Subject). IsCode s addresses c.args.listing.now.insns.items c.in_ok-body.body.items) (sym same) code in (
      rw (c.as_slice.ensures.value, c.as_slice-2.ensures.value, c.as_slice-3.ensures.value) its_code,
      (c.requires.1.1.0, (ap (λ (s : Subject). s.facts) same, (ap (λ (s : Subject). s.entry) same ∙ sym entry, c.requires.1.0))),
    )

pub loop_infos-requires-clause-heads : goal.loop_infos-requires-clause-heads
loop_infos-requires-clause-heads g c =
    let within : c.args.outline.now.entry < length c.args.listing.now.addresses.items = omega (arith, c.requires.1.1.1.1.1.0, c.requires.1.1.1.0.ways_are.count) in
    rw (c.as_slice.ensures.value, c.as_slice-4.ensures) (heads_within c.requires.1.1.1.0.ways_are c.args.outline.now.entry within c.args.outline.now.structure.loops c.requires.1.1.1.1.0.loops)

pub loop_infos-requires-clause-members : goal.loop_infos-requires-clause-members
loop_infos-requires-clause-members g c =
    let within : c.args.outline.now.entry < length c.args.listing.now.addresses.items = omega (arith, c.requires.1.1.1.1.1.0, c.requires.1.1.1.0.ways_are.count) in
    rw (c.as_slice.ensures.value, c.as_slice-4.ensures) (members_within c.requires.1.1.1.0.ways_are c.args.outline.now.entry within c.args.outline.now.structure.loops c.requires.1.1.1.1.0.loops)

pub loop_infos-requires-clause-bounded : goal.loop_infos-requires-clause-bounded
loop_infos-requires-clause-bounded g c = rw (c.as_slice.ensures.value, c.as_slice-4.ensures) c.requires.1.1.1.1.1.1.each

pub returns : goal.returns
returns g c =
    let facts = c.args.inputs.now.facts.now in
    let addresses = c.args.listing.now.addresses.items in
    let outline = c.args.outline.now in
    let within : outline.entry < length addresses = omega (arith, c.requires.1.1.1.1.1.0, c.requires.1.1.1.0.ways_are.count) in
    let entry : c.index-entry.result.now ≡ get_or addresses outline.entry 0 = c.index-entry.ensures ∙ get_or_default addresses outline.entry c.index-entry.result.now 0 within in
    let infos = c.in_ok-loops.loops.items in
    let are : AreLoopInfos facts addresses outline.structure.loops infos =
    subst (λ (loops : List Loop). AreLoopInfos facts addresses loops infos) c.as_slice-4.ensures (subst (λ (list : List ℕ). AreLoopInfos facts list c.as_slice-4.result.now infos) c.as_slice.ensures.value c.in_ok-loops.ensures) in
    let loops = function_loops c.requires.1.1.1.0.ways_are outline infos within c.requires.1.1.1.1.0 are in
    record {
      begins = entry;
      blocks = rw c.new.ensures (subst (λ (image : Image). AreBlocks image facts c.args.inputs.now.machine.now c.index-entry.result.now c.in_ok-blocks.blocks.items) (ap (λ (s : Subject). s.image) c.requires.0) c.in_ok-blocks.ensures);
      loops = rw (c.new-2.ensures, entry) loops;
    }
