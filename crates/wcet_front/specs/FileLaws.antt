-- Laws of files that are read one after the other, for the commands that read them.
use Rattle.std.specs.Prelude.{◌≡◌, ◌≤◌, ℕ, List, [], ◌∷◌, ◌++◌, length, Option, Some, None}
use Rattle.std.proofs.Common.{◌<◌, inl, inr, refl, sym, ap, ◌∙◌, subst, arith, append_assoc, length-append}
use Rattle.wx_host.specs.Outside.{Contents, Rose, IsMissing, IsCut}
use Rattle.wcet_front.specs.declared.reply.Reply.{Reply}
use Rattle.wcet_front.specs.Growth.{Appends}
use Rattle.wcet_front.specs.Reply.{IsNoFault}
use Rattle.wcet_front.specs.StoreUse.{Log}
use Rattle.wcet_front.specs.Files.{Reads, reads_between, reads_of, IsContent, AreContents, IsUnread, failed, missing, long, IsFirstUnread, AreRead, IsCutShort, ReadsAndReplies, unread, replied}

-- what grew twice grew by both
pub appends_both : {A : Type 0} (before mid after : Option (List A)) (xs ys : List A) → Appends before mid xs → Appends mid after ys → Appends before after (xs ++ ys)
appends_both None mid after xs ys p q = subst (λ m. Appends m after ys) p q
appends_both (Some zs) mid after xs ys p q =
    let r : Appends (Some (zs ++ xs)) after ys = subst (λ m. Appends m after ys) p q in r ∙ ap Some (append_assoc zs xs ys)

append_nil : {A : Type 0} (xs : List A) → xs ++ [] ≡ xs
append_nil [] = refl
append_nil (x ∷ xs) = ap (λ ys. x ∷ ys) (append_nil xs)

-- nothing was added
pub appends_nothing : {A : Type 0} (told : Option (List A)) → Appends told told []
appends_nothing None = refl
appends_nothing (Some xs) = ap Some (sym (append_nil xs))

-- contents of some names, and then of others
are_both : (holds : Option Contents) (names others contents more : List (List ℕ)) → AreContents holds names contents → AreContents holds others more → AreContents holds (names ++ others) (contents ++ more)
are_both holds [] others [] more p q = q
are_both holds [] others (bytes ∷ contents) more p q = absurd p
are_both holds (name ∷ names) others [] more p q = absurd p
are_both holds (name ∷ names) others (bytes ∷ contents) more p q = (p.0, are_both holds names others contents more p.1 q)

rose_from : (before mid after : ℕ) → before ≤ mid → Rose mid after → Rose before after
rose_from before mid after first (inl more) = inl (omega arith)
rose_from before mid after first (inr last) = inr last

module _ (holds holds' : Option Contents) (start mid end : Log) (same : holds' ≡ holds) where
  unread_later : (name : List ℕ) (said : Reply) → start.faults ≤ mid.faults → IsUnread (reads_between holds' mid end) name said → IsUnread (reads_between holds start end) name said
  unread_later name said first (failed rose is) = failed (rose_from start.faults mid.faults end.faults first rose) is
  unread_later name said first (missing none is) = missing (subst (λ h. IsMissing h name) same none) is
  unread_later name said first (long bytes cut is) = long bytes (subst (λ h. IsCut h name bytes) same cut) is

  -- some files are read, and then others
  pub read_both : (names others contents more : List (List ℕ)) → AreRead (reads_between holds start mid) names contents → AreRead (reads_between holds' mid end) others more → AreRead (reads_between holds start end) (names ++ others) (contents ++ more)
  read_both names others contents more p q = record {
    whole = are_both holds names others contents more p.whole (subst (λ h. AreContents h others more) same q.whole);
    asked = appends_both start.names mid.names end.names names others p.asked q.asked;
  }

  -- some files are read, and then another is not
  pub unread_behind : (names others contents : List (List ℕ)) (said : Reply) → start.faults ≤ mid.faults → AreRead (reads_between holds start mid) names contents → IsFirstUnread (reads_between holds' mid end) others said → IsFirstUnread (reads_between holds start end) (names ++ others) said
  unread_behind names others contents said first p q =
      let come = q.come in
      record {
        name = q.name;
        come = record {
          front = names ++ come.front;
          contents = contents ++ come.contents;
          rest = come.rest;
          names_are = ap (λ x. names ++ x) come.names_are ∙ sym (append_assoc names come.front (q.name ∷ come.rest));
          whole = are_both holds names come.front contents come.contents p.whole (subst (λ h. AreContents h come.front come.contents) same come.whole);
          asked = subst (Appends start.names end.names) (sym (append_assoc names come.front (q.name ∷ []))) (appends_both start.names mid.names end.names names (come.front ++ q.name ∷ []) p.asked come.asked);
        };
        unread = unread_later q.name said first q.unread;
      }

  -- some files are read, and then memory is wanting
  pub cut_behind : (names others contents : List (List ℕ)) → AreRead (reads_between holds start mid) names contents → IsCutShort (reads_between holds' mid end) others → IsCutShort (reads_between holds start end) (names ++ others)
  cut_behind names others contents p q = record {
    front = names ++ q.front;
    rest = q.rest;
    names_are = ap (λ x. names ++ x) q.names_are ∙ sym (append_assoc names q.front q.rest);
    asked = appends_both start.names mid.names end.names names q.front p.asked q.asked;
  }

-- the first of some files that is not read is that of more files
pub unread_among : (reads : Reads) (names others : List (List ℕ)) (said : Reply) → IsFirstUnread reads names said → IsFirstUnread reads (names ++ others) said
unread_among reads names others said q =
    let come = q.come in
    record {
      name = q.name;
      come = record {
        front = come.front;
        contents = come.contents;
        rest = come.rest ++ others;
        names_are = ap (λ x. x ++ others) come.names_are ∙ append_assoc come.front (q.name ∷ come.rest) others;
        whole = come.whole;
        asked = come.asked;
      };
      unread = q.unread;
    }

pub cut_among : (reads : Reads) (names others : List (List ℕ)) → IsCutShort reads names → IsCutShort reads (names ++ others)
cut_among reads names others q = record {
  front = q.front;
  rest = q.rest ++ others;
  names_are = ap (λ x. x ++ others) q.names_are ∙ append_assoc q.front q.rest others;
  asked = q.asked;
}

some_is : {A : Type 0} {x y : A} → Some x ≡ Some y → x ≡ y
some_is e = cc

neither : {A : Type 0} {x : A} → None ≡ Some x → ⊥
neither e = cc

-- of a store that tells its contents, and of names of files
module _ (contents : Contents) where
  one_content : (name a b : List ℕ) → IsContent (Some contents) name a → IsContent (Some contents) name b → a ≡ b
  one_content name a b p q = some_is (sym p.1 ∙ q.1)

  -- names have one list of contents
  pub same_contents : (names xs ys : List (List ℕ)) → AreContents (Some contents) names xs → AreContents (Some contents) names ys → xs ≡ ys
  same_contents [] [] [] p q = refl
  same_contents [] [] (y ∷ ys) p q = absurd q
  same_contents [] (x ∷ xs) ys p q = absurd p
  same_contents (name ∷ names) [] ys p q = absurd p
  same_contents (name ∷ names) (x ∷ xs) [] p q = absurd q
  same_contents (name ∷ names) (x ∷ xs) (y ∷ ys) p q =
      ap (λ z. z ∷ xs) (one_content name x y p.0 q.0) ∙ ap (λ zs. y ∷ zs) (same_contents names xs ys p.1 q.1)

  too_long : (a b rest : List ℕ) → length a ≤ 16777216 → length b ≡ 16777216 → 0 < length rest → Some a ≡ Some (b ++ rest) → ⊥
  too_long a b rest short full more e =
      let same : a ≡ b ++ rest = some_is e in omega (arith, ap length same, length-append b rest)

  -- a file that has its content is read
  not_unread : (before after : Log) (name bytes : List ℕ) (said : Reply) → IsContent (Some contents) name bytes → IsUnread (reads_between (Some contents) before after) name said → IsNoFault said → ⊥
  not_unread before after name bytes said is (failed rose e) fine = subst IsNoFault e fine
  not_unread before after name bytes said is (missing none e) fine = neither (sym none ∙ is.1)
  not_unread before after name bytes said is (long front cut e) fine = too_long bytes front cut.1.0 is.0 cut.0 cut.1.1 (sym is.1 ∙ cut.1.2)

  one_unread : (before after before' after' : Log) (name : List ℕ) (r s : Reply) → IsUnread (reads_between (Some contents) before after) name r → IsUnread (reads_between (Some contents) before' after') name s → IsNoFault r → IsNoFault s → r ≡ s
  one_unread before after before' after' name r s (failed rose e) q p f = absurd (subst IsNoFault e p)
  one_unread before after before' after' name r s (missing none e) (failed rose f) p q = absurd (subst IsNoFault f q)
  one_unread before after before' after' name r s (missing none e) (missing none' f) p q = e ∙ sym f
  one_unread before after before' after' name r s (missing none e) (long front cut f) p q = absurd (neither (sym none ∙ cut.1.2))
  one_unread before after before' after' name r s (long front cut e) (failed rose f) p q = absurd (subst IsNoFault f q)
  one_unread before after before' after' name r s (long front cut e) (missing none f) p q = absurd (neither (sym none ∙ cut.1.2))
  one_unread before after before' after' name r s (long front cut e) (long front' cut' f) p q = e ∙ sym f

  -- behind names with contents stands the first that is not read
  record StopsAt (before after : Log) (front rest : List (List ℕ)) (name : List ℕ) (said : Reply) : Type 0 where
    have : List (List ℕ)
    whole : AreContents (Some contents) front have
    unread_is : IsUnread (reads_between (Some contents) before after) name said
    fine : IsNoFault said

  behind : (before after : Log) (first : List ℕ) (front rest : List (List ℕ)) (name : List ℕ) (said : Reply) → StopsAt before after (first ∷ front) rest name said → ((bytes : List ℕ) × IsContent (Some contents) first bytes) × StopsAt before after front rest name said
  behind before after first front rest name said s = by_contents s.have s.whole
    where
      by_contents : (have : List (List ℕ)) → AreContents (Some contents) (first ∷ front) have → ((bytes : List ℕ) × IsContent (Some contents) first bytes) × StopsAt before after front rest name said
      by_contents [] are = absurd are
      by_contents (bytes ∷ have) are = ((bytes, are.0), record { have = have; whole = are.1; unread_is = s.unread_is; fine = s.fine })

  first_is : {x y : List ℕ} {xs ys : List (List ℕ)} → x ∷ xs ≡ y ∷ ys → x ≡ y
  first_is e = cc

  rest_is : {x y : List ℕ} {xs ys : List (List ℕ)} → x ∷ xs ≡ y ∷ ys → xs ≡ ys
  rest_is e = cc

  read_first : (before after : Log) (first name : List ℕ) (rest : List (List ℕ)) (said : Reply) → first ≡ name → (bytes : List ℕ) × IsContent (Some contents) first bytes → StopsAt before after [] rest name said → ⊥
  read_first before after first name rest said e (bytes, is) s =
      not_unread before after name bytes said (subst (λ n. IsContent (Some contents) n bytes) e is) s.unread_is s.fine

  one_stop : (before after before' after' : Log) (front front' rest rest' : List (List ℕ)) (name name' : List ℕ) (r s : Reply) → front ++ name ∷ rest ≡ front' ++ name' ∷ rest' → StopsAt before after front rest name r → StopsAt before' after' front' rest' name' s → r ≡ s
  one_stop before after before' after' [] [] rest rest' name name' r s e p q =
      one_unread before after before' after' name r s p.unread_is (subst (λ n. IsUnread (reads_between (Some contents) before' after') n s) (sym (first_is e)) q.unread_is) p.fine q.fine
  one_stop before after before' after' [] (x ∷ front') rest rest' name name' r s e p q =
      absurd (read_first before after x name rest r (sym (first_is e)) (behind before' after' x front' rest' name' s q).0 p)
  one_stop before after before' after' (x ∷ front) [] rest rest' name name' r s e p q =
      absurd (read_first before' after' x name' rest' s (first_is e) (behind before after x front rest name r p).0 q)
  one_stop before after before' after' (x ∷ front) (y ∷ front') rest rest' name name' r s e p q =
      one_stop before after before' after' front front' rest rest' name name' r s (rest_is e) (behind before after x front rest name r p).1 (behind before' after' y front' rest' name' s q).1

  stops_at : (before after : Log) (names : List (List ℕ)) (said : Reply) (f : IsFirstUnread (reads_between (Some contents) before after) names said) → IsNoFault said → StopsAt before after f.come.front f.come.rest f.name said
  stops_at before after names said f fine = record { have = f.come.contents; whole = f.come.whole; unread_is = f.unread; fine = fine }

  none_left : (front rest : List (List ℕ)) (name : List ℕ) → [] ≡ front ++ name ∷ rest → ⊥
  none_left [] rest name e = cc
  none_left (x ∷ front) rest name e = cc

  -- files that all have contents are read
  all_read : (before after : Log) (names have front rest : List (List ℕ)) (name : List ℕ) (said : Reply) → AreContents (Some contents) names have → names ≡ front ++ name ∷ rest → StopsAt before after front rest name said → ⊥
  all_read before after [] have front rest name said are e s = none_left front rest name e
  all_read before after (x ∷ names) [] front rest name said are e s = absurd are
  all_read before after (x ∷ names) (bytes ∷ have) [] rest name said are e s = read_first before after x name rest said (first_is e) (bytes, are.0) s
  all_read before after (x ∷ names) (bytes ∷ have) (y ∷ front) rest name said are e s =
      all_read before after names have front rest name said are.1 (rest_is e) (behind before after y front rest name said s).1

  -- Of a store that tells its contents and does not fail: where a file is not read, that is the reply that is due.
  pub unread_is_due : (holds : Option Contents) (before after : Log) (names : List (List ℕ)) (replies : List (List ℕ) → Reply → Type 0) (r due : Reply) → holds ≡ Some contents → IsFirstUnread (reads_between holds before after) names r → ReadsAndReplies (reads_of contents) names replies due → IsNoFault r → IsNoFault due → r ≡ due
  unread_is_due holds before after names replies r due told is (unread other) p q =
      let f : IsFirstUnread (reads_between (Some contents) before after) names r = subst (λ h. IsFirstUnread (reads_between h before after) names r) told is in
      one_stop before after _ _ f.come.front other.come.front f.come.rest other.come.rest f.name other.name r due (sym f.come.names_are ∙ other.come.names_are)
      (stops_at before after names r f p) (stops_at _ _ names due other q)
  unread_is_due holds before after names replies r due told is (replied have are cause) p q =
      let f : IsFirstUnread (reads_between (Some contents) before after) names r = subst (λ h. IsFirstUnread (reads_between h before after) names r) told is in
      absurd (all_read before after names have f.come.front f.come.rest f.name r are.whole f.come.names_are (stops_at before after names r f p))

  -- Where all files are read, the reply that is due is one to their contents.
  pub reply_is_due : (holds : Option Contents) (before after : Log) (names have : List (List ℕ)) (replies : List (List ℕ) → Reply → Type 0) (due : Reply) → holds ≡ Some contents → AreRead (reads_between holds before after) names have → ReadsAndReplies (reads_of contents) names replies due → IsNoFault due → replies have due
  reply_is_due holds before after names have replies due told are (unread other) q =
      let w : AreContents (Some contents) names have = subst (λ h. AreContents h names have) told are.whole in
      absurd (all_read _ _ names have other.come.front other.come.rest other.name due w other.come.names_are (stops_at _ _ names due other q))
  reply_is_due holds before after names have replies due told are (replied have' are' cause) q =
      let w : AreContents (Some contents) names have = subst (λ h. AreContents h names have) told are.whole in
      subst (λ x. replies x due) (same_contents names have' have are'.whole w) cause

-- where all files are read and memory is wanting then, all were asked for
pub cut_after : (reads : Reads) (names contents : List (List ℕ)) → AreRead reads names contents → IsCutShort reads names
cut_after reads names contents are = record { front = names; rest = []; names_are = sym (append_nil names); asked = are.asked }
