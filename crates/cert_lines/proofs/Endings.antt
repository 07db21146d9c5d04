-- Each front of a text has an end.
use Rattle.std.proofs.Common.{◌≡◌, ℕ, codes, true, List, [], ◌∷◌, ◌++◌, Some, None, refl, sym, ap, subst, ◌∙◌, append_assoc, append-nil}
use Rattle.std.specs.Prelude.{Option}
use Rattle.cert_lines.specs.declared.kind.Version.{Version}
use Rattle.cert_lines.specs.declared.kind.Version.TheVariants.{One, Two}
use Rattle.cert_lines.specs.declared.kind.Kind.{Kind}
use Rattle.cert_lines.specs.declared.kind.Kind.TheVariants as kind
use Rattle.cert_lines.specs.declared.kind.Role.{Role}
use Rattle.cert_lines.specs.declared.kind.Role.TheVariants as role
use Rattle.std.proofs.lemmas.Bool.{or_right}
use Rattle.cert_lines.specs.Table.{part_of, may_stand, next, may_stop, may_end, is_word}
use Rattle.cert_lines.specs.Grammar.{Line, IsBegun, AreLines, version_behind}
use Rattle.cert_lines.specs.Grammar.IsBegun.{named, worded}
use Rattle.cert_lines.specs.Grammar.AreLines.{lined}
use Rattle.cert_lines.specs.Machine.{State}
use Rattle.cert_lines.specs.Machine.State.{Between, Within}
use Rattle.cert_lines.proofs.WordLemmas.{completes}
use Rattle.cert_lines.proofs.Sound.{Tells, IsWithin, worded_so}

-- the text goes on to the end of one
pub record HasEnd (text : List ℕ) : Type 0 where
  pub more : List ℕ
  pub version : Version
  pub lines : List Line
  pub is : AreLines version lines (Some kind.End) (text ++ more)

-- what has an end behind some more bytes has one
longer : (text some : List ℕ) → HasEnd (text ++ some) → HasEnd text
longer text some h = record { more = some ++ h.more; version = h.version; lines = h.lines; is = subst (λ t. AreLines h.version h.lines (Some kind.End) t) (append_assoc text some h.more) h.is }

-- ---- behind a line
from_bound : (v : Version) (lines : List Line) (text : List ℕ) → AreLines v lines (Some kind.Bound) text → HasEnd text
from_bound v lines text so = record { more = codes "end" ++ 10 ∷ []; version = _; lines = _; is = lined kind.End so refl named refl }

from_part : (v : Version) (lines : List Line) (last : Option Kind) (text : List ℕ) → may_stand v (part_of last) kind.Bound ≡ true → AreLines v lines last text → HasEnd text
from_part v lines last text e so = longer text _ (from_bound _ _ _ (lined kind.Bound so e (worded role.Last (codes "0") named refl refl) refl))

from_head : (v : Version) (lines : List Line) (text : List ℕ) → AreLines v lines (Some kind.Head) text → HasEnd text
from_head One lines text so = from_part One lines (Some kind.Head) text refl so
from_head Two lines text so = longer text _ (from_part _ _ _ _ refl (lined kind.Count so refl (worded role.Last (codes "0") named refl refl) refl))

from_nothing : (v : Version) (lines : List Line) (text : List ℕ) → AreLines v lines None text → HasEnd text
from_nothing v lines text so = longer text _ (from_head _ _ _ (lined kind.Head so refl (worded role.Version (codes "1") named refl refl) refl))

from_line : (v : Version) (lines : List Line) (last : Option Kind) (text : List ℕ) → AreLines v lines last text → HasEnd text
from_line v lines None text so = from_nothing v lines text so
from_line v lines (Some kind.Head) text so = from_head v lines text so
from_line v lines (Some kind.Bound) text so = from_bound v lines text so
from_line v lines (Some kind.End) text so = record { more = []; version = v; lines = lines; is = subst (λ t. AreLines v lines (Some kind.End) t) (sym (append-nil text)) so }
from_line One lines last text so = from_part One lines last text refl so
from_line Two lines last text so = from_part Two lines last text refl so

-- ---- in a line
pub record Line' (kind : Kind) (line : List ℕ) : Type 0 where
  pub more : List ℕ
  pub words : List (List ℕ)
  pub role : Role
  pub begun : IsBegun kind words role (line ++ more)
  pub ends : may_end kind role ≡ true

later : (kind : Kind) (line some : List ℕ) → Line' kind (line ++ some) → Line' kind line
later kind line some h = record { more = some ++ h.more; words = h.words; role = h.role; begun = subst (λ t. IsBegun kind h.words h.role t) (append_assoc line some h.more) h.begun; ends = h.ends }

now : (kind : Kind) (words : List (List ℕ)) (r : Role) (line : List ℕ) → may_end kind r ≡ true → IsBegun kind words r line → Line' kind line
now kind words r line e b = record { more = []; words = words; role = r; begun = subst (λ t. IsBegun kind words r t) (sym (append-nil line)) b; ends = e }

-- a number more, and the line may end
number : (kind : Kind) (words : List (List ℕ)) (r following : Role) (line : List ℕ) → next kind r ≡ Some following → is_word kind following (codes "0") ≡ true → may_end kind following ≡ true → IsBegun kind words r line → Line' kind line
number kind words r following line leads is e b = later kind line _ (now kind _ following _ e (worded following (codes "0") b leads is))

scoped : (words : List (List ℕ)) (line : List ℕ) → IsBegun kind.Charge words role.Scope line → Line' kind.Charge line
scoped words line b = number kind.Charge words role.Scope role.Last line refl refl refl b

addressed : (words : List (List ℕ)) (line : List ℕ) → IsBegun kind.Charge words role.Address line → Line' kind.Charge line
addressed words line b = later kind.Charge line _ (scoped _ _ (worded role.Scope (codes "0") b refl refl))

in_line : (kind : Kind) (words : List (List ℕ)) (r : Role) (line : List ℕ) → IsBegun kind words r line → Line' kind line
in_line kind.Head words role.Name line b = later kind.Head line _ (now kind.Head _ role.Version _ refl (worded role.Version (codes "1") b refl refl))
in_line kind.Node words role.Name line b = later kind.Node line _ (number kind.Node _ role.First role.Last _ refl refl refl (worded role.First (codes "0") b refl refl))
in_line kind.Node words role.First line b = number kind.Node words role.First role.Last line refl refl refl b
in_line kind.Vector words role.Name line b = number kind.Vector words role.Name role.First line refl refl refl b
in_line kind.Vector words role.Left line b = number kind.Vector words role.Left role.Right line refl refl refl b
in_line kind.Count words role.Name line b = number kind.Count words role.Name role.Last line refl refl refl b
in_line kind.Listed words role.Left line b = number kind.Listed words role.Left role.Right line refl refl refl b
in_line kind.Places words role.Name line b = number kind.Places words role.Name role.First line refl refl refl b
in_line kind.Places words role.Left line b = number kind.Places words role.Left role.Right line refl refl refl b
in_line kind.Charge words role.Name line b = later kind.Charge line _ (addressed _ _ (worded role.Address (codes "00000000") b refl refl))
in_line kind.Charge words role.Address line b = addressed words line b
in_line kind.Charge words role.Scope line b = scoped words line b
in_line kind.Multiplier words role.Name line b = later kind.Multiplier line _ (number kind.Multiplier _ role.First role.Last _ refl refl refl (worded role.First (codes "0") b refl refl))
in_line kind.Multiplier words role.First line b = number kind.Multiplier words role.First role.Last line refl refl refl b
in_line kind.Total words role.Name line b = later kind.Total line _ (number kind.Total _ role.Address role.Last _ refl refl refl (worded role.Address (codes "00000000") b refl refl))
in_line kind.Total words role.Address line b = number kind.Total words role.Address role.Last line refl refl refl b
in_line kind.Bound words role.Name line b = number kind.Bound words role.Name role.Last line refl refl refl b
in_line kind.End words r line b = now kind.End words r line (or_right (may_stop kind.End r) true refl) b
in_line kind words r line b = now kind words r line refl b

-- ---- in a word
from_within : (v : Version) (lines : List Line) (kind : Kind) (words : List (List ℕ)) (r : Role) (word text : List ℕ) → IsWithin v lines kind words r word text → HasEnd text
from_within v lines kind words r word text w =
    let c = completes kind r word w.begins in
    let l = in_line kind (words ++ (word ++ c.more) ∷ []) r (w.line ++ (word ++ c.more)) (worded_so kind words r w.line (word ++ c.more) w.opened c.whole) in
    let whole : AreLines (version_behind v kind l.words) (lines ++ record { kind = kind; words = l.words } ∷ []) (Some kind) (w.before ++ (((w.line ++ (word ++ c.more)) ++ l.more) ++ 10 ∷ [])) = lined kind w.so w.stand l.begun l.ends in
    let is : w.before ++ (((w.line ++ (word ++ c.more)) ++ l.more) ++ 10 ∷ []) ≡ text ++ ((c.more ++ l.more) ++ 10 ∷ []) = regroup w.before w.line word c.more l.more (10 ∷ []) ∙ ap (λ t. t ++ ((c.more ++ l.more) ++ 10 ∷ [])) (sym w.is) in
    longer text ((c.more ++ l.more) ++ 10 ∷ []) (from_line _ _ (Some kind) _ (subst (λ t. AreLines (version_behind v kind l.words) (lines ++ record { kind = kind; words = l.words } ∷ []) (Some kind) t) is whole))
  where
    regroup : (a b c d e f : List ℕ) → a ++ (((b ++ (c ++ d)) ++ e) ++ f) ≡ (a ++ (b ++ c)) ++ ((d ++ e) ++ f)
    regroup a b c d e f = ap (λ t. a ++ ((t ++ e) ++ f)) (sym (append_assoc b c d)) ∙ ap (λ t. a ++ (t ++ f)) (append_assoc (b ++ c) d e) ∙ ap (λ t. a ++ t) (append_assoc (b ++ c) (d ++ e) f) ∙ sym (append_assoc a (b ++ c) ((d ++ e) ++ f))

pub has_end : (s : State) (text : List ℕ) → Tells s text → HasEnd text
has_end (Between v lines last) text so = from_line v lines last text so
has_end (Within v lines kind words r word) text w = from_within v lines kind words r word text w
