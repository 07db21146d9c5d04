use Rattle.flow_graph.specs.declared.site.Site.{Site}
use Rattle.std.proofs.Common.{◌≡◌, None, List, ◌+◌, take, sym, ap, subst, ◌∙◌, arith}
use Rattle.std.specs.List.{AllZip}
use Rattle.arm_code.specs.declared.insn.Insn.{Insn}
use Rattle.arm_code.specs.Encoding.{decoded}
use Rattle.flow_graph.specs.Listing.{IsWordOf}
use Rattle.flow_graph.proofs.ListingLemmas.{at_item, zip_next}
use Rattle.flow_graph.proofs.listing.insns.Goals as goal
use Rattle.flow_graph.proofs.listing.insns.Goals.{in-Some+in_ok-push, in_default}

pub loop-site-preserved : goal.loop-site-preserved
loop-site-preserved c =
    let sites = c.args.sites.now in
    let i = c.loop-site.site-index in
    let site = c.site-item.result in
    elim c.match-decode.branch [
      | in-Some+in_ok-push w ↦
          subst (λ (list : List Insn). AllZip (λ (s : Site) insn. IsWordOf s.word insn) (take (i + 1) sites) list) (sym (ap (λ v. v.items) w.insns-is ∙ w.in_ok-push.ensures.items))
          (zip_next (λ (s : Site) insn. IsWordOf s.word insn) sites c.loop-site.insns.items i site w.in-Some.insn (omega arith) c.site-item.is c.loop-site.invariant
          (record { means = sym w.in-Some.ensures.exact; spelled = w.in-Some.ensures.spelled; valid = w.in-Some.ensures.valid }))
      | in_default w ↦ absurd (at_item (λ s. decoded s.word ≡ None → ⊥) sites i site (omega arith) c.site-item.is c.requires (sym w.in_default.ensures.exact))
    ]
