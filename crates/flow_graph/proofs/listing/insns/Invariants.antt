use Rattle.flow_graph.specs.declared.site.Site.{Site}
use Rattle.std.proofs.Common.{take}
use Rattle.std.specs.List.{AllZip}
use Rattle.flow_graph.specs.Listing.{IsWordOf}
use Rattle.flow_graph.proofs.listing.insns.Given as goal

abbrev pub invariant-loop-site : goal.invariant-loop-site
invariant-loop-site l = AllZip (λ (s : Site) insn. IsWordOf s.word insn) (take l.site-index l.sites) l.insns.items
