-- Bytes are read as a straight program in one way.
use Rattle.std.proofs.Common.{◌≡◌, ℕ, ◌/◌, ◌%◌, ◌^◌, ◌<◌, List, [], ◌∷◌, ◌++◌, length, refl, sym, ap, ◌∙◌, subst, arith, append_assoc, length-append}
use Rattle.std.proofs.lemmas.List.Concat.{flat_map-cons}
use Rattle.std.proofs.lemmas.Grind.{flat_map-append}
use Rattle.std.specs.List.{AllByRecursion}
use Rattle.wx_base.specs.Bits.{bytes_of_word}
use Rattle.wx_base.specs.Machine.{m1}
use Rattle.wcet_front.specs.declared.reply.Reply.{Reply}
use Rattle.wcet_front.specs.declared.reply.Reply.TheVariants as reply
use Rattle.wcet_cli.specs.Straight.{IsPlain, IsLast, bytes_of, address_behind, IsProgram, IsCutOff, IsForeign, bound_of}
use Rattle.wcet_cli.specs.FlatCommand.{FlatReply, bound, leaves_code, unsupported}

-- four bytes are one word
record SameWord (v w : ℕ) (a b : List ℕ) : Type 0 where
  word : v ≡ w
  rest : a ≡ b

same_word : (v w : ℕ) (a b : List ℕ) → v < 2 ^ 32 → w < 2 ^ 32 → bytes_of_word v ++ a ≡ bytes_of_word w ++ b → SameWord v w a b
same_word v w a b p q e =
    let b0 : v % 256 ≡ w % 256 = cc in
    let b1 : v / 256 % 256 ≡ w / 256 % 256 = cc in
    let b2 : v / 65536 % 256 ≡ w / 65536 % 256 = cc in
    let b3 : v / 16777216 % 256 ≡ w / 16777216 % 256 = cc in
    record { word = whole v w p q b0 b1 b2 b3; rest = cc }
  where
    whole : (v w : ℕ) → v < 2 ^ 32 → w < 2 ^ 32 → v % 256 ≡ w % 256 → v / 256 % 256 ≡ w / 256 % 256 → v / 65536 % 256 ≡ w / 65536 % 256 → v / 16777216 % 256 ≡ w / 16777216 % 256 → v ≡ w
    whole v w p q b0 b1 b2 b3 = omega arith

-- where a reading of plain words stops
data Stop (rest : List ℕ) : Type 0 where
  Short : length rest < 4 → Stop rest
  Word : (word : ℕ) (after : List ℕ) → rest ≡ bytes_of_word word ++ after → word < 2 ^ 32 → (IsPlain word → ⊥) → Stop rest

record SameReading (xs ys rest rest' : List ℕ) : Type 0 where
  words : xs ≡ ys
  left : rest ≡ rest'

not_stopped : (rest : List ℕ) (word : ℕ) (after : List ℕ) → Stop rest → rest ≡ bytes_of_word word ++ after → IsPlain word → ⊥
not_stopped rest word after (Short p) e q = omega (arith, ap length e, length-append (bytes_of_word word) after)
not_stopped rest word after (Word w more e' small other) e q =
    let same = same_word word w after more q.fits small (sym e ∙ e') in other (subst IsPlain same.word q)

-- two readings that go as far as they can are one
same_reading : (xs ys rest rest' : List ℕ) → AllByRecursion IsPlain xs → AllByRecursion IsPlain ys → Stop rest → Stop rest' → bytes_of xs ++ rest ≡ bytes_of ys ++ rest' → SameReading xs ys rest rest'
same_reading [] [] rest rest' p q s t e = record { words = refl; left = e }
same_reading [] (y ∷ ys) rest rest' p q s t e =
    let first : rest ≡ bytes_of_word y ++ (bytes_of ys ++ rest') =
    e ∙ ap (λ (x : List ℕ). x ++ rest') (flat_map-cons bytes_of_word y ys) ∙ append_assoc (bytes_of_word y) (bytes_of ys) rest'
    in
    absurd (not_stopped rest y (bytes_of ys ++ rest') s first q.0)
same_reading (x ∷ xs) [] rest rest' p q s t e =
    let first : rest' ≡ bytes_of_word x ++ (bytes_of xs ++ rest) =
    sym e ∙ ap (λ (z : List ℕ). z ++ rest) (flat_map-cons bytes_of_word x xs) ∙ append_assoc (bytes_of_word x) (bytes_of xs) rest
    in
    absurd (not_stopped rest' x (bytes_of xs ++ rest) t first p.0)
same_reading (x ∷ xs) (y ∷ ys) rest rest' p q s t e =
    let left : bytes_of (x ∷ xs) ++ rest ≡ bytes_of_word x ++ (bytes_of xs ++ rest) =
    ap (λ (z : List ℕ). z ++ rest) (flat_map-cons bytes_of_word x xs) ∙ append_assoc (bytes_of_word x) (bytes_of xs) rest
    in
    let right : bytes_of (y ∷ ys) ++ rest' ≡ bytes_of_word y ++ (bytes_of ys ++ rest') =
    ap (λ (z : List ℕ). z ++ rest') (flat_map-cons bytes_of_word y ys) ∙ append_assoc (bytes_of_word y) (bytes_of ys) rest'
    in
    let same = same_word x y (bytes_of xs ++ rest) (bytes_of ys ++ rest') p.0.fits q.0.fits (sym left ∙ e ∙ right) in
    let later = same_reading xs ys rest rest' p.1 q.1 s t same.rest in
    record { words = ap (λ n. n ∷ xs) same.word ∙ ap (λ ws. y ∷ ws) later.words; left = later.left }

-- a reading as far as it can go
record Reading (bytes body rest : List ℕ) : Type 0 where
  spelled : bytes ≡ bytes_of body ++ rest
  plain : AllByRecursion IsPlain body
  stop : Stop rest

same_readings : (bytes xs ys rest rest' : List ℕ) → Reading bytes xs rest → Reading bytes ys rest' → SameReading xs ys rest rest'
same_readings bytes xs ys rest rest' r t = same_reading xs ys rest rest' r.plain t.plain r.stop t.stop (sym r.spelled ∙ t.spelled)

last_is_not_plain : (word : ℕ) → IsLast word → IsPlain word → ⊥
last_is_not_plain word l p = let last = l.kind in let plain = p.kind in cc

program_reading : (bytes program : List ℕ) (p : IsProgram bytes program) → Reading bytes p.body (bytes_of_word p.last ++ p.rest)
program_reading bytes program p = record {
  spelled = p.spelled ∙ ap (λ (ws : List ℕ). bytes_of ws ++ p.rest) p.words_are ∙ ap (λ (x : List ℕ). x ++ p.rest) (flat_map-append bytes_of_word p.body (p.last ∷ [])) ∙ append_assoc (bytes_of p.body) (bytes_of_word p.last) p.rest;
  plain = p.plain;
  stop = Word p.last p.rest refl p.ends.fits (last_is_not_plain p.last p.ends);
}

cut_reading : (bytes : List ℕ) (address : ℕ) (c : IsCutOff bytes address) → Reading bytes c.body c.rest
cut_reading bytes address c = record { spelled = c.spelled; plain = c.plain; stop = Short c.short }

foreign_reading : (bytes : List ℕ) (address word : ℕ) (f : IsForeign bytes address word) → Reading bytes f.body (bytes_of_word word ++ f.rest)
foreign_reading bytes address word f = record {
  spelled = f.spelled ∙ append_assoc (bytes_of f.body) (bytes_of_word word) f.rest;
  plain = f.plain;
  stop = Word word f.rest refl f.fits f.not_plain;
}

too_short : (word : ℕ) (after rest : List ℕ) → bytes_of_word word ++ after ≡ rest → length rest < 4 → ⊥
too_short word after rest e p = omega (arith, ap length e, length-append (bytes_of_word word) after)

-- a program is the only one
pub one_program : (bytes p q : List ℕ) → IsProgram bytes p → IsProgram bytes q → p ≡ q
one_program bytes p q x y =
    let same = same_readings bytes x.body y.body _ _ (program_reading bytes p x) (program_reading bytes q y) in
    let last = same_word x.last y.last x.rest y.rest x.ends.fits y.ends.fits same.left in
    x.words_are ∙ ap (λ (b : List ℕ). b ++ (x.last ∷ [])) same.words ∙ ap (λ n. y.body ++ (n ∷ [])) last.word ∙ sym y.words_are

-- the bytes of a file call for one reply
pub one_flat_reply : (bytes : List ℕ) (r s : Reply) → FlatReply bytes r → FlatReply bytes s → r ≡ s
one_flat_reply bytes r s (bound p x e) (bound q y f) = e ∙ ap (λ program. reply.Bound (bound_of m1 program)) (one_program bytes p q x y) ∙ sym f
one_flat_reply bytes r s (bound p x e) (leaves_code a c f) =
    absurd (too_short x.last x.rest c.rest (same_readings bytes _ _ _ _ (program_reading bytes p x) (cut_reading bytes a c)).left c.short)
one_flat_reply bytes r s (bound p x e) (unsupported a w f g) =
    let same = same_readings bytes _ _ _ _ (program_reading bytes p x) (foreign_reading bytes a w f) in
    let word = same_word x.last w x.rest f.rest x.ends.fits f.fits same.left in
    absurd (f.not_last (subst IsLast word.word x.ends))
one_flat_reply bytes r s (leaves_code a c e) (bound p x f) =
    absurd (too_short x.last x.rest c.rest (same_readings bytes _ _ _ _ (program_reading bytes p x) (cut_reading bytes a c)).left c.short)
one_flat_reply bytes r s (leaves_code a c e) (leaves_code b d f) =
    let same = same_readings bytes _ _ _ _ (cut_reading bytes a c) (cut_reading bytes b d) in
    e ∙ ap reply.LeavesCode (c.at ∙ ap address_behind same.words ∙ sym d.at) ∙ sym f
one_flat_reply bytes r s (leaves_code a c e) (unsupported b w f g) =
    absurd (too_short w f.rest c.rest (same_readings bytes _ _ _ _ (foreign_reading bytes b w f) (cut_reading bytes a c)).left c.short)
one_flat_reply bytes r s (unsupported a w f e) (bound p x g) =
    let same = same_readings bytes _ _ _ _ (program_reading bytes p x) (foreign_reading bytes a w f) in
    let word = same_word x.last w x.rest f.rest x.ends.fits f.fits same.left in
    absurd (f.not_last (subst IsLast word.word x.ends))
one_flat_reply bytes r s (unsupported a w f e) (leaves_code b c g) =
    absurd (too_short w f.rest c.rest (same_readings bytes _ _ _ _ (foreign_reading bytes a w f) (cut_reading bytes b c)).left c.short)
one_flat_reply bytes r s (unsupported a v f e) (unsupported b w g h) =
    let same = same_readings bytes _ _ _ _ (foreign_reading bytes a v f) (foreign_reading bytes b w g) in
    let word = same_word v w f.rest g.rest f.fits g.fits same.left in
    e ∙ ap (λ n. reply.Unsupported n v) (f.at ∙ ap address_behind same.words ∙ sym g.at) ∙ ap (λ n. reply.Unsupported b n) word.word ∙ sym h
