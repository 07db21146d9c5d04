use Rattle.std.proofs.Common.{◌∙◌, ap, Some}
use Rattle.wx_host.proofs.Held.{put-found, put-found_other, held-push, held-push_other}
use Rattle.wx_host.proofs.mem_store.put_file.Goals as goal

pub returns-in-Some-clause-held : goal.returns-in-Some-clause-held
returns-in-Some-clause-held c =
    put-found _ _ _ _ _ c.in-Some.i c.index_mut-file.result.now _ c.deref.ensures.value c.in-Some.ensures.0 c.in-Some.ensures.1 c.index_mut-file.ensures.value c.set_bytes.ensures.name c.set_bytes.ensures.bytes c.in_ok-content.ensures.items

pub returns-in-Some-clause-others : goal.returns-in-Some-clause-others
returns-in-Some-clause-others c =
    put-found_other _ _ _ c.in-Some.i c.index_mut-file.result.now _ c.deref.ensures.value c.in-Some.ensures.1 c.index_mut-file.ensures.value c.set_bytes.ensures.name

pub returns-in_ok-push-in-None-clause-held : goal.returns-in_ok-push-in-None-clause-held
returns-in_ok-push-in-None-clause-held c =
    let h = held-push c.args.files.now.items c.args.name.now c.new.result (c.new.ensures.name ∙ c.in_ok-from_str-in-None.ensures.ok) in
    rw c.in_ok-push-in-None.ensures.items (h ∙ ap (λ xs. Some xs) (c.new.ensures.bytes ∙ c.in_ok-content.ensures.items))

pub returns-in_ok-push-in-None-clause-others : goal.returns-in_ok-push-in-None-clause-others
returns-in_ok-push-in-None-clause-others c other differ =
    let h = held-push_other c.args.files.now.items c.args.name.now other c.new.result (c.new.ensures.name ∙ c.in_ok-from_str-in-None.ensures.ok) differ in
    rw c.in_ok-push-in-None.ensures.items h
