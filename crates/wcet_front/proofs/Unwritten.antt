-- A file that is not written.
use Rattle.std.proofs.Common.{◌≡◌, ℕ, inl, inr, List, [], ◌∷◌, Option, Err, refl, sym, ◌∙◌, subst}
use Rattle.wx_host.specs.declared.store.StoreFault.{StoreFault}
use Rattle.wx_host.specs.declared.store.StoreFault.TheVariants as store_fault
use Rattle.wx_host.specs.Outside.{Contents, NamesGive, WriteGives, ChangesOnly}
use Rattle.wcet_front.specs.declared.reply.Reply.TheVariants as reply
use Rattle.wcet_front.specs.declared.stop.Stop.{Stop}
use Rattle.wcet_front.specs.Reply.{IsNoFault}
use Rattle.wcet_front.specs.StoreUse.{Log, log_of, state_of, StoreUse, use_between}
use Rattle.wcet_front.specs.FileLaws.{appends_nothing}
use Rattle.wcet_front.specs.Stages.{StopsWith}
use Rattle.wcet_front.specs.StageLaws.{stops_for}
use Rattle.wcet_front.specs.Writing.{file_of, IsUnwritten, IsFirstUnwritten, IsCutInWriting, at_front, at_fault}
use Rattle.wcet_front.specs.WritingLaws.{writes_nothing}

failed_is_other : store_fault.Failed ≡ store_fault.NoMemory → ⊥
failed_is_other e = cc

module _ (holds holds' : Option Contents) (reads : Log) (faults faults' : ℕ) (names names' : Option (List (List ℕ))) (name bytes : List ℕ) where
  abbrev used : StoreUse
  used = use_between (state_of holds reads (log_of faults names)) (state_of holds' reads (log_of faults' names'))

  -- the store failed in the write
  fails_at : (fault : StoreFault) → (fault ≡ store_fault.NoMemory → ⊥) → ChangesOnly holds holds' name → NamesGive names names' name (Err fault) → WriteGives holds holds' name bytes faults faults' (Err fault) → IsUnwritten used (file_of name bytes ∷ []) name
  fails_at store_fault.Failed some others asked gives = record {
    front = [];
    bytes = bytes;
    rest = [];
    files_are = refl;
    rose = gives;
    holds = subst (λ h. ChangesOnly h holds' name) (sym (writes_nothing holds)) others;
    names = asked;
  }
  fails_at store_fault.Missing some others asked gives = absurd gives
  fails_at store_fault.Long some others asked gives = absurd gives
  fails_at store_fault.NoMemory some others asked gives = absurd (some refl)

  -- what a write leaves that does not succeed
  pub cut_in_write : (fault : StoreFault) → ChangesOnly holds holds' name → NamesGive names names' name (Err fault) → WriteGives holds holds' name bytes faults faults' (Err fault) → IsCutInWriting used (file_of name bytes ∷ [])
  cut_in_write store_fault.Failed others asked gives = at_fault name (fails_at store_fault.Failed failed_is_other others asked gives)
  cut_in_write store_fault.Missing others asked gives = absurd gives
  cut_in_write store_fault.Long others asked gives = absurd gives
  cut_in_write store_fault.NoMemory others (inl asked) gives = at_front (record {
    front = [];
    rest = file_of name bytes ∷ [];
    names_asked = name ∷ [];
    names_left = [];
    files_are = refl;
    names_are = refl;
    holds = gives ∙ sym (writes_nothing holds);
    names = asked;
  })
  cut_in_write store_fault.NoMemory others (inr same) gives = at_front (record {
    front = [];
    rest = file_of name bytes ∷ [];
    names_asked = [];
    names_left = name ∷ [];
    files_are = refl;
    names_are = refl;
    holds = gives ∙ sym (writes_nothing holds);
    names = same ∙ appends_nothing names;
  })

  -- its reply is that of a write that failed
  pub stops_unwritten : (stop : Stop) (fault : StoreFault) → StopsWith (λ said. (said ≡ reply.Unwritten name) × (fault ≡ store_fault.NoMemory → ⊥)) stop → ChangesOnly holds holds' name
      → NamesGive names names' name (Err fault) → WriteGives holds holds' name bytes faults faults' (Err fault) → StopsWith (IsFirstUnwritten used (file_of name bytes ∷ [])) stop
  stops_unwritten stop fault is others asked gives =
      stops_for _ _ stop (λ said h. record { name = name; unwritten = fails_at fault h.1 others asked gives; is = h.0 }) is

module _ (holds holds' : Option Contents) (faults faults' : ℕ) (name bytes : List ℕ) where
  no_fault : (fault : StoreFault) → (fault ≡ store_fault.NoMemory → ⊥) → (fault ≡ store_fault.Failed → ⊥) → WriteGives holds holds' name bytes faults faults' (Err fault) → ⊥
  no_fault store_fault.Failed some sound gives = sound refl
  no_fault store_fault.Missing some sound gives = gives
  no_fault store_fault.Long some sound gives = gives
  no_fault store_fault.NoMemory some sound gives = some refl

  -- of a store that can't fail there is no such reply
  pub stops_sound : (stop : Stop) (fault : StoreFault) → StopsWith (λ said. (said ≡ reply.Unwritten name) × (fault ≡ store_fault.NoMemory → ⊥)) stop → (fault ≡ store_fault.Failed → ⊥)
      → WriteGives holds holds' name bytes faults faults' (Err fault) → StopsWith IsNoFault stop
  stops_sound stop fault is sound gives = stops_for _ IsNoFault stop (λ said h. absurd (no_fault fault h.1 sound gives)) is
