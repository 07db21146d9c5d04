-- Some reply is due, whatever a store holds.
use Rattle.std.proofs.Common.{◌≡◌, ℕ, ◌+◌, ◌*◌, ◌/◌, ◌%◌, ◌^◌, ◌<◌, ◌≤◌, ◌⊎◌, inl, inr, Bool, true, false, List, [], ◌∷◌, ◌++◌, length, take, drop, Option, Some, None, refl, sym, ap, ◌∙◌, subst, ⊎_elim, arith, append_assoc, length-drop}
use Rattle.std.specs.Prelude.{◌==◌, codes}
use Rattle.std.specs.List.{AllByRecursion}
use Rattle.std.proofs.lemmas.List.{take-append-drop, length-take-le}
use Rattle.std.proofs.lemmas.List.Concat.{flat_map-cons}
use Rattle.std.proofs.lemmas.Bool.{both_ways, cases_lt}
use Rattle.std.proofs.lemmas.Slice.Eq.{bytes_eq-Decides}
use Rattle.std.specs.Str.{bytes_eq}
use Rattle.wx_base.specs.Bits.{bytes_of_word}
use Rattle.wx_base.specs.Machine.{m1}
use Rattle.wx_base.specs.Instruction.{Kind, AluImmediate, Svc, AluShift, AluByRegister, Mul, MulLong, SingleImmediate, SingleRegister, HalfImmediate, HalfRegister, Block, Branch, Exchange, MovPcLr, kind_of, condition, opcode, sets_flags, rn, always}
use Rattle.wx_host.specs.Outside.{Contents}
use Rattle.wcet_front.specs.declared.reply.Reply.{Reply}
use Rattle.wcet_front.specs.declared.reply.Reply.TheVariants as reply
use Rattle.wcet_front.specs.Reply.{IsNoFault}
use Rattle.wcet_front.specs.Files.{reads_of, missing, long, IsComeTo, AreRead, ReadsAndReplies, unread, replied}
use Rattle.wcet_front.specs.WritingLaws.{due_only}
use Rattle.wcet_cli.specs.Straight.{is_plain_alu, origin, IsPlain, IsLast, bytes_of, address_behind, IsProgram, IsCutOff, IsForeign, bound_of}
use Rattle.wcet_cli.specs.Words.{IsFlat}
use Rattle.wcet_cli.specs.FlatCommand.{FlatReplies, bound, leaves_code, unsupported}
use Rattle.wcet_cli.specs.Commands.{Form, Flat, Run, Migrate, Check, IsForm, FitsForm}
use Rattle.wcet_cli.specs.Call.{IsOther, by_none, by_form, AreBytes, IsDue}

-- how the words of some bytes go, from a number of words on
data Course (bytes : List ℕ) : Type 0 where
  Program : (program : List ℕ) → IsProgram bytes program → Course bytes
  CutOff : (address : ℕ) → IsCutOff bytes address → Course bytes
  Foreign : (address word : ℕ) → IsForeign bytes address word → Course bytes

put_before : (word : ℕ) (body after : List ℕ) → bytes_of_word word ++ (bytes_of body ++ after) ≡ bytes_of (word ∷ body) ++ after
put_before word body after =
    sym (ap (λ (x : List ℕ). x ++ after) (flat_map-cons bytes_of_word word body) ∙ append_assoc (bytes_of_word word) (bytes_of body) after)

-- one more plain word before them
before : (word : ℕ) (bytes : List ℕ) → IsPlain word → Course bytes → Course (bytes_of_word word ++ bytes)
before word bytes plain (Program program p) = Program (word ∷ program) (record {
  body = word ∷ p.body;
  last = p.last;
  rest = p.rest;
  words_are = ap (λ ws. word ∷ ws) p.words_are;
  spelled = ap (λ x. bytes_of_word word ++ x) p.spelled ∙ put_before word program p.rest;
  plain = (plain, p.plain);
  ends = p.ends;
})
before word bytes plain (CutOff address c) = CutOff (address_behind (word ∷ c.body)) (record {
  body = word ∷ c.body;
  rest = c.rest;
  spelled = ap (λ x. bytes_of_word word ++ x) c.spelled ∙ put_before word c.body c.rest;
  plain = (plain, c.plain);
  short = c.short;
  at = refl;
})
before word bytes plain (Foreign address other f) = Foreign (address_behind (word ∷ f.body)) other (record {
  body = word ∷ f.body;
  rest = f.rest;
  spelled = ap (λ x. bytes_of_word word ++ x) f.spelled ∙ ap (λ x. bytes_of_word word ++ x) (append_assoc (bytes_of f.body) (bytes_of_word other) f.rest)
      ∙ put_before word f.body (bytes_of_word other ++ f.rest) ∙ sym (append_assoc (bytes_of (word ∷ f.body)) (bytes_of_word other) f.rest);
  plain = (plain, f.plain);
  fits = f.fits;
  not_plain = f.not_plain;
  not_last = f.not_last;
  at = refl;
})

-- four bytes are the bytes of a word
four : (a b c d : ℕ) → a < 256 → b < 256 → c < 256 → d < 256 → (word : ℕ) × (word < 2 ^ 32) × (a ∷ b ∷ c ∷ d ∷ [] ≡ bytes_of_word word)
four a b c d p q r s =
    (a + 256 * b + 65536 * c + 16777216 * d, omega arith, parts (a + 256 * b + 65536 * c + 16777216 * d) (omega arith) (omega arith) (omega arith) (omega arith))
  where
    parts : (word : ℕ) → a ≡ word % 256 → b ≡ word / 256 % 256 → c ≡ word / 65536 % 256 → d ≡ word / 16777216 % 256 → a ∷ b ∷ c ∷ d ∷ [] ≡ bytes_of_word word
    parts word e f g h = rw (e, f, g, h) refl

foreign : (word : ℕ) (bytes : List ℕ) → word < 2 ^ 32 → (IsPlain word → ⊥) → (IsLast word → ⊥) → Course (bytes_of_word word ++ bytes)
foreign word bytes small plain last =
    Foreign origin word
    (record { body = []; rest = bytes; spelled = refl; plain = tt; fits = small; not_plain = plain; not_last = last; at = refl })

-- a word of a row that no straight program has
other : (word : ℕ) (bytes : List ℕ) (kind : Option Kind) → word < 2 ^ 32 → kind_of word ≡ kind → (kind ≡ Some AluImmediate → ⊥) → (kind ≡ Some Svc → ⊥) → Course (bytes_of_word word ++ bytes)
other word bytes kind small e plain last =
    foreign word bytes small (λ p. plain (sym e ∙ p.kind)) (λ l. last (sym e ∙ l.kind))

by_plain : (word : ℕ) (bytes : List ℕ) (b : Bool) → word < 2 ^ 32 → kind_of word ≡ Some AluImmediate → is_plain_alu (condition word) (opcode word) (sets_flags word) (rn word) ≡ b → Course bytes → Course (bytes_of_word word ++ bytes)
by_plain word bytes true small e t later = before word bytes (record { fits = small; kind = e; plain = t }) later
by_plain word bytes false small e t later =
    foreign word bytes small (λ p. both_ways _ t p.plain) (λ l. let k = l.kind in cc)

by_last : (word : ℕ) (bytes : List ℕ) (b : Bool) → word < 2 ^ 32 → kind_of word ≡ Some Svc → (condition word == always) ≡ b → Course (bytes_of_word word ++ bytes)
by_last word bytes true small e t = Program (word ∷ []) (record {
  body = [];
  last = word;
  rest = bytes;
  words_are = refl;
  spelled = ap (λ x. x ++ bytes) (sym (flat_map-cons bytes_of_word word []));
  plain = tt;
  ends = record { fits = small; kind = e; sure = t };
})
by_last word bytes false small e t = foreign word bytes small (λ p. let k = p.kind in cc) (λ l. both_ways _ t l.sure)

by_kind : (word : ℕ) (bytes : List ℕ) (kind : Option Kind) → word < 2 ^ 32 → kind_of word ≡ kind → Course bytes → Course (bytes_of_word word ++ bytes)
by_kind word bytes None small e later = other word bytes None small e (λ h. cc) (λ h. cc)
by_kind word bytes (Some AluImmediate) small e later = by_plain word bytes _ small e refl later
by_kind word bytes (Some Svc) small e later = by_last word bytes _ small e refl
by_kind word bytes (Some AluShift) small e later = other word bytes (Some AluShift) small e (λ h. cc) (λ h. cc)
by_kind word bytes (Some AluByRegister) small e later = other word bytes (Some AluByRegister) small e (λ h. cc) (λ h. cc)
by_kind word bytes (Some Mul) small e later = other word bytes (Some Mul) small e (λ h. cc) (λ h. cc)
by_kind word bytes (Some MulLong) small e later = other word bytes (Some MulLong) small e (λ h. cc) (λ h. cc)
by_kind word bytes (Some SingleImmediate) small e later = other word bytes (Some SingleImmediate) small e (λ h. cc) (λ h. cc)
by_kind word bytes (Some SingleRegister) small e later = other word bytes (Some SingleRegister) small e (λ h. cc) (λ h. cc)
by_kind word bytes (Some HalfImmediate) small e later = other word bytes (Some HalfImmediate) small e (λ h. cc) (λ h. cc)
by_kind word bytes (Some HalfRegister) small e later = other word bytes (Some HalfRegister) small e (λ h. cc) (λ h. cc)
by_kind word bytes (Some Block) small e later = other word bytes (Some Block) small e (λ h. cc) (λ h. cc)
by_kind word bytes (Some Branch) small e later = other word bytes (Some Branch) small e (λ h. cc) (λ h. cc)
by_kind word bytes (Some Exchange) small e later = other word bytes (Some Exchange) small e (λ h. cc) (λ h. cc)
by_kind word bytes (Some MovPcLr) small e later = other word bytes (Some MovPcLr) small e (λ h. cc) (λ h. cc)

ends_short : (bytes : List ℕ) → length bytes < 4 → Course bytes
ends_short bytes short = CutOff origin (record { body = []; rest = bytes; spelled = refl; plain = tt; short = short; at = refl })

course : (bytes : List ℕ) → AllByRecursion (λ byte. byte < 256) bytes → Course bytes
course [] all = ends_short [] (omega arith)
course (a ∷ []) all = ends_short (a ∷ []) (omega arith)
course (a ∷ b ∷ []) all = ends_short (a ∷ b ∷ []) (omega arith)
course (a ∷ b ∷ c ∷ []) all = ends_short (a ∷ b ∷ c ∷ []) (omega arith)
course (a ∷ b ∷ c ∷ d ∷ bytes) all =
    let word = four a b c d all.0 all.1.0 all.1.1.0 all.1.1.1.0 in
    subst Course (ap (λ x. x ++ bytes) (sym word.2))
    (by_kind word.0 bytes (kind_of word.0) word.1 refl (course bytes all.1.1.1.1))

-- the reply that the content of a file calls for
record Due (contents : Contents) (name : List ℕ) : Type 0 where
  due : Reply
  cause : ReadsAndReplies (reads_of contents) (name ∷ []) FlatReplies due
  free : IsNoFault due

module _ (contents : Contents) (name : List ℕ) where
  read_as : (bytes : List ℕ) → contents name ≡ Some bytes → length bytes ≤ 16777216 → AreRead (reads_of contents) (name ∷ []) (bytes ∷ [])
  read_as bytes e l = record { whole = ((l, e), tt); asked = refl }

  of_course : (bytes : List ℕ) → contents name ≡ Some bytes → length bytes ≤ 16777216 → Course bytes → Due contents name
  of_course bytes e l (Program program p) = record { due = reply.Bound (bound_of m1 program); cause = replied (bytes ∷ []) (read_as bytes e l) (bound program p refl); free = tt }
  of_course bytes e l (CutOff address c) = record { due = reply.LeavesCode address; cause = replied (bytes ∷ []) (read_as bytes e l) (leaves_code address c refl); free = tt }
  of_course bytes e l (Foreign address word f) = record { due = reply.Unsupported address word; cause = replied (bytes ∷ []) (read_as bytes e l) (unsupported address word f refl); free = tt }

  come : IsComeTo (reads_of contents) (name ∷ []) name
  come = record { front = []; contents = []; rest = []; names_are = refl; whole = tt; asked = refl }

  of_long : (bytes : List ℕ) → contents name ≡ Some bytes → 16777216 < length bytes → Due contents name
  of_long bytes e l = record {
    due = reply.LongFile name;
    cause = unread (record {
      name = name;
      come = come;
      unread = long (take 16777216 bytes)
          (front bytes 16777216 (omega arith), (drop 16777216 bytes, rest bytes 16777216 l, e ∙ ap Some (sym (take-append-drop 16777216 bytes)))) refl;
    });
    free = tt;
  }
    where
      front : (bytes : List ℕ) (n : ℕ) → n ≤ length bytes → length (take n bytes) ≡ n
      front bytes n p = length-take-le n bytes p

      rest : (bytes : List ℕ) (n : ℕ) → n < length bytes → 0 < length (drop n bytes)
      rest bytes n p = omega (arith, length-drop n bytes)

  of_content : (content : Option (List ℕ)) → contents name ≡ content → AreBytes contents → Due contents name
  of_content None e all =
      record { due = reply.Missing name; cause = unread (record { name = name; come = come; unread = missing e refl }); free = tt }
  of_content (Some bytes) e all =
      ⊎_elim (λ (more : 16777216 < length bytes). of_long bytes e more)
      (λ (short : length bytes ≤ 16777216). of_course bytes e short (course bytes (all name bytes e)))
      (cases_lt 16777216 (length bytes))

-- the words are `flat` and a name
abbrev HasName : List (List ℕ) → Type 0
HasName words = (name : List ℕ) × IsFlat words name

-- they are, or they are not
form : (words : List (List ℕ)) → HasName words ⊎ (HasName words → ⊥)
form [] = inr (λ f. cc_form f.1)
  where
    cc_form : {name : List ℕ} → [] ≡ codes "flat" ∷ name ∷ [] → ⊥
    cc_form e = cc
form (w ∷ []) = inr (λ f. let e = f.1 in cc)
form (w ∷ name ∷ []) = by_test (bytes_eq w (codes "flat")) refl
  where
    by_test : (b : Bool) → bytes_eq w (codes "flat") ≡ b → HasName (w ∷ name ∷ []) ⊎ (HasName (w ∷ name ∷ []) → ⊥)
    by_test true e = inl (name, ap (λ x. x ∷ name ∷ []) ((bytes_eq-Decides w (codes "flat")).0 e))
    by_test false e = inr (λ f. let same : w ≡ codes "flat" = first f.1 in no ((bytes_eq-Decides w (codes "flat")).1 same) e)
      where
        first : {x : List ℕ} → w ∷ name ∷ [] ≡ codes "flat" ∷ x ∷ [] → w ≡ codes "flat"
        first h = cc

        no : bytes_eq w (codes "flat") ≡ true → bytes_eq w (codes "flat") ≡ false → ⊥
        no p q = cc
form (w ∷ name ∷ x ∷ words) = inr (λ f. let e = f.1 in cc)

-- words that are neither those of `flat` nor those of another command fit no form
no_form : (words : List (List ℕ)) → IsOther words → (HasName words → ⊥) → FitsForm words → ⊥
no_form words other none fits = by_command fits.form fits.is
  where
    by_command : (form : Form) → IsForm words form → ⊥
    by_command (Flat name) is = none (name, is)
    by_command (Run w) is = other.no_run w is
    by_command (Migrate w) is = other.no_migrate w is
    by_command (Check w) is = other.no_check w is

-- some reply is due to the words of `flat`
pub some_flat : (contents : Contents) (words : List (List ℕ)) (name : List ℕ) → IsFlat words name → AreBytes contents → (due : Reply) × IsDue contents words due
some_flat contents words name is all =
    let d = of_content contents name (contents name) refl all in
    (d.due, record { cause = by_form (Flat name) is (due_only _ _ FlatReplies d.due d.cause); free = d.free })

-- some reply is due
pub some_is_due : (contents : Contents) (words : List (List ℕ)) → IsOther words → AreBytes contents → (due : Reply) × IsDue contents words due
some_is_due contents words other all =
    ⊎_elim
    (λ (fits : HasName words). some_flat contents words fits.0 fits.1 all)
    (λ (none : HasName words → ⊥). (reply.Usage, record { cause = by_none (no_form words other none) refl; free = tt }))
    (form words)
