-- A text that goes over to a sink piece by piece.
use Rattle.std.proofs.Common.{◌≡◌, ℕ, ◌<◌, List, [], ◌∷◌, ◌++◌, length, take, drop, Option, Some, None, Ok, Err, refl, sym, ap, ◌∙◌, arith, append_assoc, subst, length-drop}
use Rattle.std.specs.Option.{option_map}
use Rattle.std.proofs.lemmas.List.{take-append-drop}
use Rattle.wx_host.specs.declared.sink.SinkFault.{SinkFault}
use Rattle.wx_host.specs.declared.sink.SinkFault.TheVariants as sink_fault
use Rattle.wx_host.specs.Outside.{PutGives, Rose}
use Rattle.wcet_front.specs.Handing.{Took, Puts}

-- the sink has a front of the text, and the rest is left
pub record PutSoFar (taken taken' : Option (List ℕ)) (faults faults' : ℕ) (text rest : List ℕ) : Type 0 where
  pub front : List ℕ
  pub text_is : text ≡ front ++ rest
  pub took : Took taken taken' front
  pub same : faults' ≡ faults

append-nil : (xs : List ℕ) → xs ++ [] ≡ xs
append-nil [] = refl
append-nil (x ∷ xs) = ap (λ ys. x ∷ ys) (append-nil xs)

took_nothing : (taken : Option (List ℕ)) → Took taken taken []
took_nothing None = refl
took_nothing (Some bytes) = ap Some (sym (append-nil bytes))

took_more : (taken taken' taken'' : Option (List ℕ)) (a b : List ℕ) → Took taken taken' a → Took taken' taken'' b → Took taken taken'' (a ++ b)
took_more None taken' taken'' a b p q = q ∙ ap (option_map (λ bytes. bytes ++ b)) p
took_more (Some bytes) taken' taken'' a b p q = q ∙ ap (option_map (λ x. x ++ b)) p ∙ ap Some (append_assoc bytes a b)

pub put_nothing : (taken : Option (List ℕ)) (faults : ℕ) (text : List ℕ) → PutSoFar taken taken faults faults text text
put_nothing taken faults text = record { front = []; text_is = refl; took = took_nothing taken; same = refl }

-- one more piece
pub put_more : (taken taken' taken'' : Option (List ℕ)) (faults faults' faults'' : ℕ) (text rest rest' : List ℕ) (n : ℕ) → PutSoFar taken taken' faults faults' text rest → PutGives taken' taken'' rest faults' faults'' (Ok n) → rest' ≡ drop n rest → PutSoFar taken taken'' faults faults'' text rest'
put_more taken taken' taken'' faults faults' faults'' text rest rest' n s p e = record {
  front = s.front ++ take n rest;
  text_is = s.text_is ∙ ap (λ x. s.front ++ x) (sym (take-append-drop n rest)) ∙ sym (append_assoc s.front (take n rest) (drop n rest)) ∙ ap (λ x. (s.front ++ take n rest) ++ x) (sym e);
  took = took_more taken taken' taken'' s.front (take n rest) s.took p.3;
  same = p.0 ∙ s.same;
}

-- the sink failed, or memory was wanting
pub put_failed : (taken taken' taken'' : Option (List ℕ)) (faults faults' faults'' : ℕ) (text rest : List ℕ) (fault : SinkFault) → PutSoFar taken taken' faults faults' text rest → PutGives taken' taken'' rest faults' faults'' (Err fault) → Puts taken taken'' faults faults'' text (Err fault)
put_failed taken taken' taken'' faults faults' faults'' text rest sink_fault.Failed s p =
    let rose : Rose faults faults'' = subst (λ n. Rose n faults'') s.same p.0 in
    ((s.front, rest, s.text_is, p.1 ∙ s.took), rose)
put_failed taken taken' taken'' faults faults' faults'' text rest sink_fault.NoMemory s p =
    ((s.front, rest, s.text_is, p.1 ∙ s.took), p.0 ∙ s.same)

-- nothing is left
pub put_all_of : (taken taken' : Option (List ℕ)) (faults faults' : ℕ) (text rest : List ℕ) → PutSoFar taken taken' faults faults' text rest → length rest ≡ 0 → Took taken taken' text × (faults' ≡ faults)
put_all_of taken taken' faults faults' text [] s e =
    let whole : text ≡ s.front = s.text_is ∙ append-nil s.front in
    (subst (λ x. Took taken taken' x) (sym whole) s.took, s.same)
put_all_of taken taken' faults faults' text (x ∷ rest) s e = absurd (omega arith)

-- what is left gets shorter
pub put_shortens : (taken taken' : Option (List ℕ)) (faults faults' : ℕ) (rest rest' : List ℕ) (n : ℕ) → PutGives taken taken' rest faults faults' (Ok n) → rest' ≡ drop n rest → 0 < length rest → length rest' < length rest
put_shortens taken taken' faults faults' rest rest' n p e some =
    let few = p.1 in
    let any = p.2 some in
    omega (arith, ap length e, length-drop n rest)
