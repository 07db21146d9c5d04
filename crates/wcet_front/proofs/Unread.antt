-- A file that is not read.
use Rattle.std.proofs.Common.{◌≡◌, ℕ, inl, inr, List, [], ◌∷◌, Option, Err, refl, sym, ◌∙◌, subst}
use Rattle.wx_host.specs.declared.store.StoreFault.{StoreFault}
use Rattle.wx_host.specs.declared.store.StoreFault.TheVariants as store_fault
use Rattle.wx_host.specs.Outside.{Contents, NamesGive, ReadGives}
use Rattle.wcet_front.specs.declared.reply.Reply.{Reply}
use Rattle.wcet_front.specs.Growth.{Appends}
use Rattle.wcet_front.specs.Reply.{IsNoFault}
use Rattle.wcet_front.specs.StoreUse.{Log}
use Rattle.wcet_front.specs.Files.{reads_between, IsUnread, failed, missing, long, IsFirstUnread, IsCutShort, IsFaultReply}
use Rattle.wcet_front.specs.FileLaws.{appends_nothing}

-- its name was asked for
asks_for : (old new : Option (List (List ℕ))) (name : List ℕ) (fault : StoreFault) → (fault ≡ store_fault.NoMemory → ⊥) → NamesGive old new name (Err fault) → Appends old new (name ∷ [])
asks_for old new name store_fault.Failed other is = is
asks_for old new name store_fault.Missing other is = is
asks_for old new name store_fault.Long other is = is
asks_for old new name store_fault.NoMemory other is = absurd (other refl)

module _ (holds : Option Contents) (before after : Log) (name : List ℕ) where
  why : (bytes : List ℕ) (fault : StoreFault) (said : Reply) → ReadGives holds name before.faults after.faults bytes (Err fault) → IsFaultReply name fault said → IsUnread (reads_between holds before after) name said
  why bytes store_fault.Failed said gives is = failed gives.0 is
  why bytes store_fault.Missing said gives is = missing gives.1 is
  why bytes store_fault.Long said gives is = long bytes gives is
  why bytes store_fault.NoMemory said gives is = absurd is

  -- a read that fails leaves the file unread
  pub read_fails : (bytes : List ℕ) (fault : StoreFault) (said : Reply) → (fault ≡ store_fault.NoMemory → ⊥) → NamesGive before.names after.names name (Err fault) → ReadGives holds name before.faults after.faults bytes (Err fault) → IsFaultReply name fault said → IsFirstUnread (reads_between holds before after) (name ∷ []) said
  read_fails bytes fault said other names gives is = record {
    name = name;
    come = record {
      front = [];
      contents = [];
      rest = [];
      names_are = refl;
      whole = tt;
      asked = asks_for before.names after.names name fault other names;
    };
    unread = why bytes fault said gives is;
  }

  -- memory was wanting in the read
  pub cut_in_read : (fault : StoreFault) → fault ≡ store_fault.NoMemory → NamesGive before.names after.names name (Err fault) → IsCutShort (reads_between holds before after) (name ∷ [])
  cut_in_read store_fault.Failed e names = absurd (differ e)
    where
      differ : store_fault.Failed ≡ store_fault.NoMemory → ⊥
      differ e = cc
  cut_in_read store_fault.Missing e names = absurd (differ e)
    where
      differ : store_fault.Missing ≡ store_fault.NoMemory → ⊥
      differ e = cc
  cut_in_read store_fault.Long e names = absurd (differ e)
    where
      differ : store_fault.Long ≡ store_fault.NoMemory → ⊥
      differ e = cc
  cut_in_read store_fault.NoMemory e (inl asked) = record { front = name ∷ []; rest = []; names_are = refl; asked = asked }
  cut_in_read store_fault.NoMemory e (inr same) =
      record { front = []; rest = name ∷ []; names_are = refl; asked = same ∙ appends_nothing before.names }

  -- memory was wanting behind the read
  pub cut_behind_read : (fault : StoreFault) → (fault ≡ store_fault.NoMemory → ⊥) → NamesGive before.names after.names name (Err fault) → IsCutShort (reads_between holds before after) (name ∷ [])
  cut_behind_read fault other names =
      record { front = name ∷ []; rest = []; names_are = refl; asked = asks_for before.names after.names name fault other names }

-- a fault of a store that can't fail is none of the device
pub sound_fault : (name : List ℕ) (fault : StoreFault) (said : Reply) → (fault ≡ store_fault.Failed → ⊥) → IsFaultReply name fault said → IsNoFault said
sound_fault name store_fault.Failed said none is = absurd (none refl)
sound_fault name store_fault.Missing said none is = subst IsNoFault (sym is) tt
sound_fault name store_fault.Long said none is = subst IsNoFault (sym is) tt
sound_fault name store_fault.NoMemory said none is = absurd is
