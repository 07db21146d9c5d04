-- The last register of a list is its highest, and a comma stands before it unless it is the only one.
use Rattle.std.proofs.Common.{◌≡◌, ◌++◌, codes, sym, ◌∙◌, ap}
use Rattle.arm_text.specs.Text.{list_text}
use Rattle.arm_text.proofs.Listed.{EndsWith, separator, top, not_last, only_sound, only_complete, further_sound, further_complete, some_text, below_all_lists, no_bytes, is_empty, is_some}
use Rattle.std.proofs.lemmas.List.{append_cancel_right}
use Rattle.arm_text.proofs.lists.before_last.Goals as goal

pub returns-in_err-rest-clause-complete : goal.returns-in_err-rest-clause-complete
returns-in_err-rest-clause-complete c lower small same =
    absurd (c.in_err-rest.ensures (list_text lower ++ separator lower)
    (same ∙ top lower c.args.register small c.requires ∙ ap (λ name. list_text lower ++ separator lower ++ name) (sym c.register_name.ensures)))

pub returns-then-is_empty-clause-sound : goal.returns-then-is_empty-clause-sound
returns-then-is_empty-clause-sound c lower small same =
    let ends : EndsWith c.args.list.now c.in_ok-rest.rest.now c.args.register =
    record { fits = c.requires; is = c.in_ok-rest.ensures ∙ ap (λ name. c.in_ok-rest.rest.now ++ name) c.register_name.ensures } in
    only_sound c.args.list.now c.in_ok-rest.rest.now lower c.args.register ends (is_empty _ c.if-is_empty.ensures) small (below_all_lists lower c.args.register small c.requires) same

pub returns-then-is_empty-clause-complete : goal.returns-then-is_empty-clause-complete
returns-then-is_empty-clause-complete c lower small same =
    let ends : EndsWith c.args.list.now c.in_ok-rest.rest.now c.args.register =
    record { fits = c.requires; is = c.in_ok-rest.ensures ∙ ap (λ name. c.in_ok-rest.rest.now ++ name) c.register_name.ensures } in
    only_complete c.args.list.now c.in_ok-rest.rest.now lower c.args.register ends (is_empty _ c.if-is_empty.ensures) small same

pub returns-then-is_empty-clause-none : goal.returns-then-is_empty-clause-none
returns-then-is_empty-clause-none c lower small same =
    absurd (not_last lower c.args.register c.in_ok-rest.rest.now small c.requires
    (sym same ∙ c.in_ok-rest.ensures ∙ ap (λ name. c.in_ok-rest.rest.now ++ name) c.register_name.ensures))

pub returns-in_err-rest-2-clause-complete : goal.returns-in_err-rest-2-clause-complete
returns-in_err-rest-2-clause-complete c lower small same =
    let ends : EndsWith c.args.list.now c.in_ok-rest.rest.now c.args.register =
    record { fits = c.requires; is = c.in_ok-rest.ensures ∙ ap (λ name. c.in_ok-rest.rest.now ++ name) c.register_name.ensures } in
    let front = further_complete c.args.list.now c.in_ok-rest.rest.now lower c.args.register ends (is_some _ c.if-is_empty.ensures) small same in
    absurd (c.in_err-rest-2.ensures (list_text lower) (front.0 ∙ ap (λ comma. list_text lower ++ comma) (sym c.as_slice.ensures)))

pub returns-then-is_empty-2-clause-complete : goal.returns-then-is_empty-2-clause-complete
returns-then-is_empty-2-clause-complete c lower small same =
    let ends : EndsWith c.args.list.now c.in_ok-rest.rest.now c.args.register =
    record { fits = c.requires; is = c.in_ok-rest.ensures ∙ ap (λ name. c.in_ok-rest.rest.now ++ name) c.register_name.ensures } in
    let front = further_complete c.args.list.now c.in_ok-rest.rest.now lower c.args.register ends (is_some _ c.if-is_empty.ensures) small same in
    let comma : c.in_ok-rest.rest.now ≡ c.in_ok-rest-2.rest.now ++ codes ", " =
    c.in_ok-rest-2.ensures ∙ ap (λ t. c.in_ok-rest-2.rest.now ++ t) c.as_slice.ensures in
    let lower_is : c.in_ok-rest-2.rest.now ≡ list_text lower =
    append_cancel_right c.in_ok-rest-2.rest.now (list_text lower) (codes ", ") (sym comma ∙ front.0) in
    absurd (some_text lower (below_all_lists lower c.args.register small c.requires) front.1
    (sym lower_is ∙ no_bytes c.in_ok-rest-2.rest.now (is_empty _ c.if-is_empty-2.ensures)))

pub returns-else-is_empty-2-clause-sound : goal.returns-else-is_empty-2-clause-sound
returns-else-is_empty-2-clause-sound c lower small same =
    let ends : EndsWith c.args.list.now c.in_ok-rest.rest.now c.args.register =
    record { fits = c.requires; is = c.in_ok-rest.ensures ∙ ap (λ name. c.in_ok-rest.rest.now ++ name) c.register_name.ensures } in
    let comma : c.in_ok-rest.rest.now ≡ c.in_ok-rest-2.rest.now ++ codes ", " =
    c.in_ok-rest-2.ensures ∙ ap (λ t. c.in_ok-rest-2.rest.now ++ t) c.as_slice.ensures in
    further_sound c.args.list.now c.in_ok-rest.rest.now c.in_ok-rest-2.rest.now lower c.args.register ends comma (is_some _ c.if-is_empty-2.ensures) small same

pub returns-else-is_empty-2-clause-complete : goal.returns-else-is_empty-2-clause-complete
returns-else-is_empty-2-clause-complete c lower small same =
    let ends : EndsWith c.args.list.now c.in_ok-rest.rest.now c.args.register =
    record { fits = c.requires; is = c.in_ok-rest.ensures ∙ ap (λ name. c.in_ok-rest.rest.now ++ name) c.register_name.ensures } in
    let front = further_complete c.args.list.now c.in_ok-rest.rest.now lower c.args.register ends (is_some _ c.if-is_empty.ensures) small same in
    let comma : c.in_ok-rest.rest.now ≡ c.in_ok-rest-2.rest.now ++ codes ", " =
    c.in_ok-rest-2.ensures ∙ ap (λ t. c.in_ok-rest-2.rest.now ++ t) c.as_slice.ensures in
    let lower_is : c.in_ok-rest-2.rest.now ≡ list_text lower =
    append_cancel_right c.in_ok-rest-2.rest.now (list_text lower) (codes ", ") (sym comma ∙ front.0) in
    lower_is

pub returns-else-is_empty-2-clause-none : goal.returns-else-is_empty-2-clause-none
returns-else-is_empty-2-clause-none c lower small same =
    absurd (not_last lower c.args.register c.in_ok-rest.rest.now small c.requires
    (sym same ∙ c.in_ok-rest.ensures ∙ ap (λ name. c.in_ok-rest.rest.now ++ name) c.register_name.ensures))
