use Rattle.std.proofs.Common.{◌≡◌, ◌<◌, List, ℕ, Bool, true, false, length, get_or, refl, sym, subst, ap}
use Rattle.std.proofs.lemmas.Bool.{false≢true, true≢false}
use Rattle.cache_flow.specs.Flows.{accesses_of}
use Rattle.cache_kept.specs.declared.look.Look.{Look}
use Rattle.cache_kept.specs.Parts.{IsSure}
use Rattle.cache_kept.specs.Search.{part_at}
use Rattle.cache_kept.proofs.KeptLemmas.{is_look, member_node, sure_in_cycle, told}
use Rattle.cache_kept.proofs.KnownLemmas.{inside_closed}
use Rattle.cache_kept.proofs.StepLemmas.{accesses_are}
use Rattle.cache_kept.proofs.kept.is_kept.Goals as goal

pub are_few-requires-clause-look : goal.are_few-requires-clause-look
are_few-requires-clause-look c =
    let look : Look = record { shape = c.args.shape; flow = c.args.flow; sources = c.as_slice.result; members = c.args.stretch.now.members; inside = c.as_slice-2.result; known = c.as_slice-3.result; line = get_or c.as_slice-5.result.now c.args.place 0 } in
    is_look look c.args.ways.now.sources.items c.args.stretch.now.inside.items c.args.stretch.now.inside.items c.requires.flow c.as_slice.ensures.value c.as_slice-2.ensures.value c.as_slice-3.ensures.value
    c.requires.ways.sources c.requires.stretch.inside (inside_closed c.args.flow.now c.args.stretch.now.members.now look.line c.args.stretch.now.inside.items c.requires.stretch.inside)

pub returns-then-few : goal.returns-then-few
returns-then-few c =
    let look : Look = record { shape = c.args.shape; flow = c.args.flow; sources = c.as_slice.result; members = c.args.stretch.now.members; inside = c.as_slice-2.result; known = c.as_slice-3.result; line = get_or c.as_slice-5.result.now c.args.place 0 } in
    let inside : c.args.node < length c.args.flow.now.nodes = member_node (length c.args.flow.now.nodes) c.args.stretch.now.members.now c.args.stretch.now.inside.items c.args.node c.requires.stretch.inside c.requires.member in
    let line : get_or c.as_slice-5.result.now c.args.place 0 ≡ get_or (accesses_of c.args.flow.now c.args.node) c.args.place 0 =
    ap (λ (xs : List ℕ). get_or xs c.args.place 0)
    (accesses_are c.args.flow.now c.args.node c.as_slice-4.result.now c.index-as_slice-node.result c.as_slice-5.result.now inside c.as_slice-4.ensures c.index-as_slice-node.is c.as_slice-5.ensures) in
    told look c.args.node c.args.place (get_or (accesses_of c.args.flow.now c.args.node) c.args.place 0) true line (λ _. c.in_ok-few.ensures.few c.if-few.true) (λ e. absurd (true≢false e))

pub returns-then-stretch : goal.returns-then-stretch
returns-then-stretch c =
    let look : Look = record { shape = c.args.shape; flow = c.args.flow; sources = c.as_slice.result; members = c.args.stretch.now.members; inside = c.as_slice-2.result; known = c.as_slice-3.result; line = get_or c.as_slice-5.result.now c.args.place 0 } in
    let inside : c.args.node < length c.args.flow.now.nodes = member_node (length c.args.flow.now.nodes) c.args.stretch.now.members.now c.args.stretch.now.inside.items c.args.node c.requires.stretch.inside c.requires.member in
    let line : get_or c.as_slice-5.result.now c.args.place 0 ≡ get_or (accesses_of c.args.flow.now c.args.node) c.args.place 0 =
    ap (λ (xs : List ℕ). get_or xs c.args.place 0)
    (accesses_are c.args.flow.now c.args.node c.as_slice-4.result.now c.index-as_slice-node.result c.as_slice-5.result.now inside c.as_slice-4.ensures c.index-as_slice-node.is c.as_slice-5.ensures) in
    told look c.args.node c.args.place (get_or (accesses_of c.args.flow.now c.args.node) c.args.place 0) false line (λ e. absurd (false≢true e))
    (λ _. c.in_ok-few.ensures.many c.if-few.false (sure_in_cycle look c.args.node c.args.place c.args.stretch.now.inside.items c.as_slice-3.ensures.value c.requires.stretch.inside
    (c.requires.stretch.cycle c.if-stretch.true) c.requires.member c.requires.place line))

pub are_few-requires-2-clause-look : goal.are_few-requires-2-clause-look
are_few-requires-2-clause-look c =
    let look : Look = record { shape = c.args.shape; flow = c.args.flow; sources = c.as_slice.result; members = c.args.stretch.now.members; inside = c.as_slice-2.result; known = c.as_slice-6.result; line = get_or c.as_slice-5.result.now c.args.place 0 } in
    is_look look c.args.ways.now.sources.items c.args.stretch.now.inside.items c.in_ok-known.known.items c.requires.flow c.as_slice.ensures.value c.as_slice-2.ensures.value c.as_slice-6.ensures.value
    c.requires.ways.sources c.requires.stretch.inside c.in_ok-known.ensures.closed

pub returns : goal.returns
returns c =
    let look : Look = record { shape = c.args.shape; flow = c.args.flow; sources = c.as_slice.result; members = c.args.stretch.now.members; inside = c.as_slice-2.result; known = c.as_slice-6.result; line = get_or c.as_slice-5.result.now c.args.place 0 } in
    let inside : c.args.node < length c.args.flow.now.nodes = member_node (length c.args.flow.now.nodes) c.args.stretch.now.members.now c.args.stretch.now.inside.items c.args.node c.requires.stretch.inside c.requires.member in
    let line : get_or c.as_slice-5.result.now c.args.place 0 ≡ get_or (accesses_of c.args.flow.now c.args.node) c.args.place 0 =
    ap (λ (xs : List ℕ). get_or xs c.args.place 0)
    (accesses_are c.args.flow.now c.args.node c.as_slice-4.result.now c.index-as_slice-node.result c.as_slice-5.result.now inside c.as_slice-4.ensures c.index-as_slice-node.is c.as_slice-5.ensures) in
    told look c.args.node c.args.place (get_or (accesses_of c.args.flow.now c.args.node) c.args.place 0) c.in_ok-nearer_few.nearer_few line c.in_ok-nearer_few.ensures.few
    (λ e. c.in_ok-nearer_few.ensures.many e
    (subst (λ (marks : List Bool). IsSure c.args.shape c.args.flow.now (part_at look) look.line marks) (sym c.as_slice-6.ensures.value) (c.in_ok-known.ensures.sure c.args.shape (part_at look) refl)))
