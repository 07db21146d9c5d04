-- Laws of files that are written, for the commands that write them and for those that don't.
use Rattle.std.specs.Prelude.{◌≡◌, ℕ, Bool, true, false, List, [], ◌∷◌, ◌++◌, Option, Some, None, if◌then◌else◌}
use Rattle.std.proofs.Common.{refl, sym, ap, ◌∙◌, subst}
use Rattle.std.specs.Option.{option_or}
use Rattle.std.specs.Str.{bytes_eq}
use Rattle.std.proofs.lemmas.Slice.Eq.{bytes_eq-Decides}
use Rattle.wx_host.specs.Outside.{Contents, Rose, IsWhole, ChangesOnly}
use Rattle.wx_host.specs.MemStore.{HeldFile}
use Rattle.wcet_front.specs.declared.reply.Reply.{Reply}
use Rattle.wcet_front.specs.Growth.{Appends}
use Rattle.wcet_front.specs.StoreUse.{log_of, state_of, StoreUse, use_between, IsUntouched}
use Rattle.wcet_front.specs.Files.{Reads, reads_between, reads_in, AreRead, IsCutShort, IsFirstUnread, ReadsAndReplies, unread, replied}
use Rattle.wcet_front.specs.Writing as writing
use Rattle.wcet_front.specs.Writing.{file_of, names_of, with_files, writes_in, AreWritten, IsUnwritten, IsFirstUnwritten, IsFrontWritten, IsCutInWriting, at_front, at_fault, Deed, OnlyReplies, RepliesOf, Works, WorksInPart, in_reading, in_writing}
use Rattle.wcet_front.specs.FileLaws.{appends_nothing}

append_nil : {A : Type 0} (xs : List A) → xs ≡ xs ++ []
append_nil [] = refl
append_nil (x ∷ xs) = ap (λ ys. x ∷ ys) (append_nil xs)

-- no files change nothing
pub writes_nothing : (holds : Option Contents) → writes_in [] holds ≡ holds
writes_nothing None = refl
writes_nothing (Some contents) = refl

module _ (name bytes : List ℕ) (old new : Contents) (others : (other : List ℕ) → (other ≡ name → ⊥) → new other ≡ old other) (whole : new name ≡ Some bytes) where
  at_name : (other : List ℕ) (same : Bool) → bytes_eq name other ≡ same → new other ≡ option_or (option_or None (if same then Some bytes else None)) (old other)
  at_name other true e = ap new (sym ((bytes_eq-Decides name other).0 e)) ∙ whole
  at_name other false e = others other (λ is. no (sym e ∙ (bytes_eq-Decides name other).1 (sym is)))
    where
      no : false ≡ true → ⊥
      no h = cc

  new_is : new ≡ with_files (file_of name bytes ∷ []) old
  new_is = λ i other. at_name other (bytes_eq name other) refl i

-- a file is written
pub one_written : (old new : Option Contents) (name bytes : List ℕ) → ChangesOnly old new name → IsWhole new name bytes → new ≡ writes_in (file_of name bytes ∷ []) old
one_written None None name bytes others whole = refl
one_written None (Some new) name bytes others whole = absurd others
one_written (Some old) None name bytes others whole = absurd others
one_written (Some old) (Some new) name bytes others whole = ap Some (new_is name bytes old new others whole)

-- a command that writes nothing
module _ (used : StoreUse) (untouched : IsUntouched used) (names : List (List ℕ)) where
  pub none_written : AreWritten used []
  none_written = record {
    holds = untouched.holds ∙ sym (writes_nothing used.before.holds);
    names = subst (λ n. Appends used.before.writes.names n []) (sym untouched.names) (appends_nothing used.before.writes.names);
  }

  pub works_only : (replies : List (List ℕ) → Reply → Type 0) (said : Reply) → ReadsAndReplies (reads_in used) names replies said → Works used names (OnlyReplies replies) said
  works_only replies said (unread f) = writing.unread untouched f
  works_only replies said (replied contents are h) = writing.worked contents [] are (record { none = refl; says = h }) none_written

no_files : (front rest : List HeldFile) (file : HeldFile) → [] ≡ front ++ file ∷ rest → ⊥
no_files [] rest file e = cc
no_files (x ∷ front) rest file e = cc

-- it does no more than to read and to reply
pub only_reads : (used : StoreUse) (names : List (List ℕ)) (replies : List (List ℕ) → Reply → Type 0) (said : Reply) → Works used names (OnlyReplies replies) said → ReadsAndReplies (reads_in used) names replies said
only_reads used names replies said (writing.unread untouched f) = unread f
only_reads used names replies said (writing.unwritten contents files meant are h f) =
    let stop = f.unwritten in absurd (no_files stop.front stop.rest (file_of f.name stop.bytes) (sym h.none ∙ stop.files_are))
only_reads used names replies said (writing.worked contents files are h wrote) = replied contents are h.says

-- what is replied to some contents, and what follows from it
pub replies_for : (reads : Reads) (names : List (List ℕ)) (P Q : List (List ℕ) → Reply → Type 0) (said : Reply) → ((contents : List (List ℕ)) → P contents said → Q contents said) → ReadsAndReplies reads names P said → ReadsAndReplies reads names Q said
replies_for reads names P Q said follows (unread f) = unread f
replies_for reads names P Q said follows (replied contents are h) = replied contents are (follows contents h)

-- a reply that is due to what a command that writes nothing does is one of its replies
pub only_due : (reads : Reads) (names : List (List ℕ)) (replies : List (List ℕ) → Reply → Type 0) (said : Reply) → ReadsAndReplies reads names (RepliesOf (OnlyReplies replies)) said → ReadsAndReplies reads names replies said
only_due reads names replies said cause = replies_for reads names (RepliesOf (OnlyReplies replies)) replies said (λ contents h. h.deed.says) cause

pub due_only : (reads : Reads) (names : List (List ℕ)) (replies : List (List ℕ) → Reply → Type 0) (said : Reply) → ReadsAndReplies reads names replies said → ReadsAndReplies reads names (RepliesOf (OnlyReplies replies)) said
due_only reads names replies said cause = replies_for reads names replies (RepliesOf (OnlyReplies replies)) said (λ contents h. record { files = []; deed = record { none = refl; says = h } }) cause

split : {A : Type 0} (front : List A) (x : A) (rest : List A) → front ++ x ∷ rest ≡ (front ++ x ∷ []) ++ rest
split [] x rest = refl
split (y ∷ front) x rest = ap (λ xs. y ∷ xs) (split front x rest)

-- the files up to the first that is not read are those that were asked for
pub cut_at_unread : (reads : Reads) (names : List (List ℕ)) (said : Reply) → IsFirstUnread reads names said → IsCutShort reads names
cut_at_unread reads names said f =
    let come = f.come in
    record {
      front = come.front ++ f.name ∷ [];
      rest = come.rest;
      names_are = come.names_are ∙ split come.front f.name come.rest;
      asked = come.asked;
    }

-- all that was written is a front of it
pub all_in_part : (used : StoreUse) (files : List HeldFile) → AreWritten used files → IsCutInWriting used files
all_in_part used files wrote = at_front (record {
  front = files;
  rest = [];
  names_asked = names_of files;
  names_left = [];
  files_are = append_nil files;
  names_are = append_nil (names_of files);
  holds = wrote.holds;
  names = wrote.names;
})

-- what a command did is what it did in part
pub part_of : (used : StoreUse) (names : List (List ℕ)) (does : Deed) (said : Reply) → Works used names does said → WorksInPart used names does
part_of used names does said (writing.unread untouched f) = in_reading untouched (cut_at_unread (reads_in used) names said f)
part_of used names does said (writing.unwritten contents files meant are h f) = in_writing contents files meant are h (at_fault f.name f.unwritten)
part_of used names does said (writing.worked contents files are h wrote) = in_writing contents files said are h (all_in_part used files wrote)

-- Files are read and then others are written: what the first part left as it was is as before it, and what the second left as after it.
module _ (h0 h1 h2 : Option Contents) (f0 f1 f2 g0 g1 g2 : ℕ) (r0 r1 r2 w0 w1 w2 : Option (List (List ℕ)))
    (held_is : h1 ≡ h0) (read_faults : f2 ≡ f1) (read_names : r2 ≡ r1) (write_faults : g1 ≡ g0) (write_names : w1 ≡ w0) where
  abbrev whole : StoreUse
  whole = use_between (state_of h0 (log_of f0 r0) (log_of g0 w0)) (state_of h2 (log_of f2 r2) (log_of g2 w2))

  abbrev second : StoreUse
  second = use_between (state_of h1 (log_of f1 r1) (log_of g1 w1)) (state_of h2 (log_of f1 r1) (log_of g2 w2))

  all_read : (names contents : List (List ℕ)) → AreRead (reads_between h0 (log_of f0 r0) (log_of f1 r1)) names contents → AreRead (reads_in whole) names contents
  all_read names contents are =
      subst (λ f. AreRead (reads_between h0 (log_of f0 r0) (log_of f r2)) names contents) (sym read_faults)
      (subst (λ r. AreRead (reads_between h0 (log_of f0 r0) (log_of f1 r)) names contents) (sym read_names) are)

  written : (files : List HeldFile) → AreWritten second files → AreWritten whole files
  written files wrote = record {
    holds = wrote.holds ∙ ap (writes_in files) held_is;
    names = subst (λ w. Appends w w2 (names_of files)) write_names wrote.names;
  }

  stopped : (files : List HeldFile) (name : List ℕ) → IsUnwritten second files name → IsUnwritten whole files name
  stopped files name stop = record {
    front = stop.front;
    bytes = stop.bytes;
    rest = stop.rest;
    files_are = stop.files_are;
    rose = subst (λ g. Rose g g2) write_faults stop.rose;
    holds = subst (λ h. ChangesOnly (writes_in stop.front h) h2 name) held_is stop.holds;
    names = subst (λ w. Appends w w2 (names_of stop.front ++ name ∷ [])) write_names stop.names;
  }

  in_front : (files : List HeldFile) → IsFrontWritten second files → IsFrontWritten whole files
  in_front files part = record {
    front = part.front;
    rest = part.rest;
    names_asked = part.names_asked;
    names_left = part.names_left;
    files_are = part.files_are;
    names_are = part.names_are;
    holds = part.holds ∙ ap (writes_in part.front) held_is;
    names = subst (λ w. Appends w w2 part.names_asked) write_names part.names;
  }

  in_part : (files : List HeldFile) → IsCutInWriting second files → IsCutInWriting whole files
  in_part files (at_front part) = at_front (in_front files part)
  in_part files (at_fault name stop) = at_fault name (stopped files name stop)

  module _ (names contents : List (List ℕ)) (does : Deed) (files : List HeldFile) (said : Reply) (are : AreRead (reads_between h0 (log_of f0 r0) (log_of f1 r1)) names contents)
      (does_it : does contents files said) where
    pub worked_then : AreWritten second files → Works whole names does said
    worked_then wrote = writing.worked contents files (all_read names contents are) does_it (written files wrote)

    pub stopped_then : (other : Reply) → IsFirstUnwritten second files other → Works whole names does other
    stopped_then other f = writing.unwritten contents files said (all_read names contents are) does_it (record { name = f.name; unwritten = stopped files f.name f.unwritten; is = f.is })

    pub cut_then : IsCutInWriting second files → WorksInPart whole names does
    cut_then part = in_writing contents files said (all_read names contents are) does_it (in_part files part)
