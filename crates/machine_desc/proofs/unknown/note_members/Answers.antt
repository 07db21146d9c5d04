use Rattle.std.proofs.Common.{◌≡◌, [], ◌∷◌, ◌++◌, ap, sym, ◌∙◌, append_assoc, rules}
use Rattle.toml.proofs.Views.{Entry}
use Rattle.machine_desc.proofs.Names.{unknown_more, known_more}
use Rattle.machine_desc.proofs.unknown.note_members.Goals as goal

pub loop-key-preserved-in_ok-push : goal.loop-key-preserved-in_ok-push
loop-key-preserved-in_ok-push c =
    let l = c.loop-key in
    let done = l.invariant.0 in
    let e : Entry = (c.in-Some.key.now, c.in-Some.field-0-1.now) in
    let left = c.next.new.self in
    let all : c.args.members.now.entries ≡ done ++ e ∷ left = l.invariant.1 ∙ ap (λ es. done ++ es) c.in-Some.ensures.steps in (
      done ++ e ∷ [],
      all ∙ sym (append_assoc done (e ∷ []) left),
      unknown_more c.args.prefix.now c.args.name.now c.args.keys.now done e c.in_ok-dotted.field-0 c.args.unknown.now.items l.unknown.items c.push.new.self.items c.as_str.result.now c.as_str.ensures.value (sym (c.if-not-is_listed.ensures)) (search (rules, c.in_ok-dotted.ensures, c.as_bytes.ensures.value)) l.invariant.2 c.in_ok-push.ensures.items,
    )

pub loop-key-preserved : goal.loop-key-preserved
loop-key-preserved c =
    let l = c.loop-key in
    let done = l.invariant.0 in
    let e : Entry = (c.in-Some.key.now, c.in-Some.field-0-1.now) in
    let left = c.next.new.self in
    let all : c.args.members.now.entries ≡ done ++ e ∷ left = l.invariant.1 ∙ ap (λ es. done ++ es) c.in-Some.ensures.steps in (
      done ++ e ∷ [],
      all ∙ sym (append_assoc done (e ∷ []) left),
      known_more c.args.prefix.now c.args.name.now c.args.keys.now done e c.args.unknown.now.items l.unknown.items c.as_str.result.now c.as_str.ensures.value (sym (c.if-not-is_listed.ensures)) l.invariant.2,
    )
