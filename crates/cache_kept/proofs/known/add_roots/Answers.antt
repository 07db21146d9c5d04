use Rattle.std.proofs.Common.{◌≡◌, ◌<◌, List, ℕ, false, length, sym, ◌∙◌, ap, arith}
use Rattle.std.proofs.lemmas.Bool.{false≢true}
use Rattle.std.proofs.lemmas.List.{get_or_read}
use Rattle.cache_ages.specs.Bounds.{is_one_of}
use Rattle.cache_flow.specs.Flows.{accesses_of}
use Rattle.cache_kept.proofs.KnownLemmas.{roots_same, roots_more}
use Rattle.cache_kept.proofs.StepLemmas.{accesses_are}
use Rattle.cache_kept.proofs.WaysLemmas.{list_there}
use Rattle.cache_kept.proofs.known.add_roots.Goals as goal

pub returns-then-not-index : goal.returns-then-not-index
returns-then-not-index c =
    let inside : c.args.node < length c.args.stretch.now.inside.items = omega (arith, c.requires.stretch.inside.long, c.requires.node) in
    roots_same c.args.flow.now c.args.stretch.now.members.now c.args.line c.args.node c.args.roots.now.items
    (λ member accessed. false≢true (sym c.if-not-index.true ∙ get_or_read c.args.stretch.now.inside.items c.args.node _ inside c.index.ensures false ∙ (c.requires.stretch.inside.exact c.args.node).1 member))
    c.requires.roots

pub returns-then-not-contains : goal.returns-then-not-contains
returns-then-not-contains c =
    let row : c.as_slice-2.result.now ≡ accesses_of c.args.flow.now c.args.node =
    accesses_are c.args.flow.now c.args.node c.as_slice.result.now c.index-as_slice-node.result c.as_slice-2.result.now c.requires.node c.as_slice.ensures c.index-as_slice-node.is c.as_slice-2.ensures in
    roots_same c.args.flow.now c.args.stretch.now.members.now c.args.line c.args.node c.args.roots.now.items
    (λ member accessed. false≢true (sym c.if-not-contains.true ∙ c.contains.ensures.value ∙ ap (λ (xs : List ℕ). is_one_of xs c.args.line) row ∙ accessed)) c.requires.roots

pub returns : goal.returns
returns c =
    let inside : c.args.node < length c.args.stretch.now.inside.items = omega (arith, c.requires.stretch.inside.long, c.requires.node) in
    let row : c.as_slice-2.result.now ≡ accesses_of c.args.flow.now c.args.node =
    accesses_are c.args.flow.now c.args.node c.as_slice.result.now c.index-as_slice-node.result c.as_slice-2.result.now c.requires.node c.as_slice.ensures c.index-as_slice-node.is c.as_slice-2.ensures in
    roots_more c.args.flow.now c.args.ways.now.targets.items c.args.stretch.now.members.now c.args.line c.args.node c.args.roots.now.items c.extend_from_slice.new.self.items c.as_slice-3.result.now
    c.requires.ways.targets
    ((c.requires.stretch.inside.exact c.args.node).0 (sym (get_or_read c.args.stretch.now.inside.items c.args.node _ inside c.index.ensures false) ∙ c.if-not-index.false))
    (ap (λ (xs : List ℕ). is_one_of xs c.args.line) (sym row) ∙ sym c.contains.ensures.value ∙ c.if-not-contains.false)
    (c.as_slice-3.ensures.value ∙ sym (list_there c.args.ways.now.targets.items c.args.node c.index-2.result.now (omega (arith, c.requires.ways.targets.long, c.requires.node)) c.index-2.ensures))
    c.in_ok-extend_from_slice.ensures.items c.requires.roots
