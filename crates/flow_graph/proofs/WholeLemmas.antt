-- The program of an image from its functions.
use Rattle.std.proofs.Common.{◌≡◌, ℕ, ◌<◌, Bool, List, map, refl, sym, ap, ◌∙◌, subst, arith}
use Rattle.std.proofs.lemmas.List.{get_or-map, length-map}
use Rattle.std.proofs.lemmas.List.Elements.{All-map}
use Rattle.std.specs.List.{All, AllPairs, Any, Contains}
use Rattle.std.specs.Prelude.{slice_index}
use Rattle.wx_base.specs.declared.facts.Facts.{Facts}
use Rattle.wx_base.specs.declared.image.Image.{Image}
use Rattle.wx_base.specs.declared.machine.Machine.{Machine}
use Rattle.wx_base.specs.Functions.{IsEntry, AreLoops}
use Rattle.arm_code.specs.declared.insn.Insn.{Insn}
use Rattle.flow_graph.specs.declared.outline.Outline.{Outline}
use Rattle.flow_graph.specs.declared.program.Function.{Function}
use Rattle.flow_graph.specs.Listing.{IsListing, IsStart}
use Rattle.flow_graph.specs.Outlines.{AreOutlines, AreFunctionsOf}
use Rattle.flow_graph.specs.Program.{IsProgram, judged_function}
use Rattle.flow_graph.proofs.NumberedEntries.{entry_from}
use Rattle.flow_graph.proofs.LoopRefusalLemmas.{outline_within, outline_entry}
use Rattle.flow_graph.proofs.NumberedLists.{keys_ascend, pairs_mapped, pairs_from_mapped, any_with_key}

-- what holds of each image holds of the image of each
all_unmapped : {X Y : Type 0} (P : Y → Type 0) (f : X → Y) (xs : List X) → All P (map f xs) → All (λ x. P (f x)) xs
all_unmapped P f xs h k d within = subst P (get_or-map f xs k d (f d) within) (h k (f d) (omega (arith, length-map xs f, within)))

-- what holds of the image of some element holds of some image
any_mapped : {X Y : Type 0} (P : Y → Type 0) (f : X → Y) (xs : List X) → Any (λ x. P (f x)) xs → Any P (map f xs)
any_mapped P f xs a =
    (a.0, f a.1, omega (arith, length-map xs f, a.2), get_or-map f xs a.0 a.1 (f a.1) a.2 ∙ ap f a.3, a.4)

-- the key of some element is among the keys
key_listed : {X : Type 0} (key : X → ℕ) (xs : List X) (k : ℕ) → Any (λ x. key x ≡ k) xs → Contains (map key xs) k
key_listed key xs k a =
    (a.0, omega (arith, length-map xs key, a.2), get_or-map key xs a.0 a.1 k a.2 ∙ ap key a.3 ∙ a.4)

module _ {image : Image} {facts : Facts} {start : ℕ} {machine : Machine} {addresses : List ℕ} {insns : List Insn} {ways calls : List (List ℕ)} {marks : List Bool} {outlines : List Outline}
    (is : IsListing image facts start addresses insns ways calls) (begins : IsStart addresses calls start marks) (all : AreOutlines ways marks outlines)
    {functions : List Function} (made : AreFunctionsOf image facts machine addresses outlines functions) where
  address_of : Outline → ℕ
  address_of o = slice_index addresses o.entry

  functions_ascend : AllPairs (λ f g. f.entry < g.entry) functions
  unfolding address_of
  functions_ascend =
      let by_entry = keys_ascend addresses is.ascending (λ o. o.entry) outlines (outline_within is begins all) all.ascending in
      pairs_from_mapped (λ a b. a < b) (λ f. f.entry) functions
      (subst (AllPairs (λ a b. a < b)) (sym made.entries) (pairs_mapped (λ a b. a < b) address_of outlines by_entry))

  functions_entries : All (λ f. IsEntry image facts start f.entry) functions
  unfolding address_of
  functions_entries =
      all_unmapped (IsEntry image facts start) (λ f. f.entry) functions
      (subst (All (IsEntry image facts start)) (sym made.entries) (All-map (IsEntry image facts start) address_of outlines (outline_entry is begins all)))

  functions_whole : (entry : ℕ) → IsEntry image facts start entry → Any (λ f. f.entry ≡ entry) functions
  unfolding address_of
  functions_whole entry e =
      let n = entry_from is begins entry e in
      let found = all.whole n.number n.holds in
      let listed : Contains (map address_of outlines) entry =
      key_listed address_of outlines entry (found.0, found.1, found.2, found.3, ap (slice_index addresses) found.4 ∙ sym n.is) in
      any_with_key (λ f. f.entry) functions entry (subst (λ list. Contains list entry) (sym made.entries) listed)

  pub program_is : IsProgram image facts start machine (record { start = start; functions = functions })
  program_is = record {
    start = refl;
    rules = record {
      branches = refl;
      calls = refl;
      functions = record {
        ascending = pairs_mapped (λ f g. f.entry < g.entry) judged_function functions functions_ascend;
        entries = All-map (λ f. IsEntry image facts start f.entry) judged_function functions functions_entries;
        loops = All-map (λ f. AreLoops image facts f.entry f.loops) judged_function functions (λ k d within. (made.each k d within).loops);
        whole = λ entry e. any_mapped (λ f. f.entry ≡ entry) judged_function functions (functions_whole entry e);
      };
    };
    blocks = λ k d within. (made.each k d within).blocks;
  }
