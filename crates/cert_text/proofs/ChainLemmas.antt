-- What the order of the lines of a text says of what they tell, from the front on.
use Rattle.std.proofs.Common.{◌≡◌, ℕ, ◌+◌, ◌≤◌, Bool, true, ◌&&◌, ◌==◌, leb, List, [], ◌∷◌, ◌++◌, length, map, take, Some, None, refl, sym, ◌∙◌, ap, subst, arith}
use Rattle.std.specs.Prelude.{Option, slice_get}
use Rattle.std.proofs.lemmas.Bool.{and_parts, false≢true}
use Rattle.std.proofs.lemmas.Bool.Decides.{nat_tests}
use Rattle.std.proofs.lemmas.List.{length-append, map-append, take_all}
use Rattle.cert_lines.specs.declared.kind.Version.{Version}
use Rattle.cert_lines.specs.declared.kind.Version.TheVariants.{One, Two}
use Rattle.cert_lines.specs.declared.kind.Kind.{Kind}
use Rattle.cert_lines.specs.declared.kind.Kind.TheVariants as kind
use Rattle.cert_lines.specs.Table.{part_of, may_stand, lies}
use Rattle.cert_lines.specs.Grammar.{Line, AreLines, version_of, version_behind}
use Rattle.cert_lines.specs.Grammar.AreLines.{empty, lined}
use Rattle.cert_items.specs.declared.item.Item.{Item}
use Rattle.cert_items.specs.Said.{kind_of, IsSaid}
use Rattle.cert_items.specs.Faults.{AreItems, AreAllItems}
use Rattle.cert_items.specs.Faults.AreItems.{none, more}
use Rattle.cert_text.proofs.OrderLemmas.{AreOrdered, ordered_append}
use Rattle.cert_text.proofs.OrderLemmas.AreOrdered.{done, next}

-- ---- as many lines as bytes at most
one_byte : (t line : List ℕ) → length t + 1 ≤ length (t ++ (line ++ 10 ∷ []))
one_byte t line = let n = length-append t (line ++ 10 ∷ []) in let m = length-append line (10 ∷ []) in omega (arith, n, m)

pub lines_bytes : (v : Version) (lines : List Line) (last : Option Kind) (text : List ℕ) → AreLines v lines last text → length lines ≤ length text
lines_bytes v lines last text empty = omega arith
lines_bytes v lines last text (lined {lines = before} {text = front} {words = words} {line = line} kind so stand begun ends) =
    let n = lines_bytes _ before _ front so in
    let m = length-append before (record { kind = kind; words = words } ∷ []) in
    let k = one_byte front line in
    omega (arith, n, m, k)

-- ---- what lines tell, from the front on
pub ordered_of : (lines : List Line) (items : List Item) → AreItems lines items → AreOrdered lines [] items
ordered_of lines items none = done
ordered_of lines items (more {items = before} line x so here said order) = ordered_append lines [] before (x ∷ []) (ordered_of lines before so) (next x said.fits order done)

-- what is told of the first lines is told of the items
front_push : {B : Type 0} (f : Line → B) (g : Item → B) (lines : List Line) (before : List Item) (line : Line) (x : Item) → map f (take (length before) lines) ≡ map g before → slice_get lines (length before) ≡ Some line → f line ≡ g x
    → map f (take (length (before ++ x ∷ [])) lines) ≡ map g (before ++ x ∷ [])
front_push f g [] [] line x e here is = absurd (cc)
front_push f g (l ∷ lines) [] line x e here is = ap (λ b. b ∷ []) (ap f (some_is here) ∙ is)
  where
    some_is : {A : Type 0} {a b : A} → Some a ≡ Some b → a ≡ b
    some_is {A = A} {a = a} e = ap (λ (o : Option A). elim o as (λ _. A) [ None ↦ a | (Some x) ↦ x ]) e
front_push f g [] (y ∷ before) line x e here is = absurd (cc)
front_push f g (l ∷ lines) (y ∷ before) line x e here is =
    let first : f l ≡ g y = cc in
    let rest : map f (take (length before) lines) ≡ map g before = cc in
    ap (λ b. b ∷ map f (take (length (before ++ x ∷ [])) lines)) first ∙ ap (λ bs. g y ∷ bs) (front_push f g lines before line x rest here is)

front_are : {B : Type 0} (f : Line → B) (g : Item → B) → ((line : Line) (x : Item) → IsSaid line x → f line ≡ g x) → (lines : List Line) (items : List Item) → AreItems lines items → map f (take (length items) lines) ≡ map g items
front_are f g same [] items none = refl
front_are f g same (l ∷ lines) items none = refl
front_are f g same lines items (more {items = before} line x so here said order) = front_push f g lines before line x (front_are f g same lines before so) here (same line x said)

pub all_are : {B : Type 0} (f : Line → B) (g : Item → B) → ((line : Line) (x : Item) → IsSaid line x → f line ≡ g x) → (lines : List Line) (items : List Item) → AreAllItems lines items → map f lines ≡ map g items
all_are f g same lines items a = ap (map f) (sym (take_all (length items) lines (let e = a.all in omega (arith, e)))) ∙ front_are f g same lines items a.so

pub kinds_are : (lines : List Line) (items : List Item) → AreAllItems lines items → map (λ (l : Line). l.kind) lines ≡ map kind_of items
kinds_are lines items a = all_are (λ (l : Line). l.kind) kind_of (λ line x said. sym said.says.0) lines items a

-- ---- lines of kinds that may stand behind one another
pub data Chain (v : Version) : Option Kind → List Kind → Option Kind → Type 0 where
  stay : {from : Option Kind} → Chain v from [] from
  step : {from to : Option Kind} {kinds : List Kind} (k : Kind) → may_stand v (part_of from) k ≡ true → Chain v (Some k) kinds to → Chain v from (k ∷ kinds) to

chain_push : (v : Version) (from : Option Kind) (kinds : List Kind) (to : Option Kind) (k : Kind) → Chain v from kinds to → may_stand v (part_of to) k ≡ true → Chain v from (kinds ++ k ∷ []) (Some k)
chain_push v from [] to k stay e = step k e stay
chain_push v from (j ∷ kinds) to k (step j2 h rest) e = step j h (chain_push v (Some j) kinds to k rest e)

-- the lines are the head of the version and others behind it
pub record AreBegun (v : Version) (lines : List Line) (last : Option Kind) : Type 0 where
  pub words : List (List ℕ)
  pub behind : List Line
  pub is : lines ≡ record { kind = kind.Head; words = words } ∷ behind
  pub version : version_of words ≡ v
  pub some : 1 ≤ part_of last
  pub chain : Chain v (Some kind.Head) (map (λ (l : Line). l.kind) behind) last

part_some : (k : Kind) → 1 ≤ part_of (Some k)
part_some kind.Head = omega arith
part_some kind.Count = omega arith
part_some kind.Listed = omega arith
part_some kind.Node = omega arith
part_some kind.Vector = omega arith
part_some kind.Places = omega arith
part_some kind.Charge = omega arith
part_some kind.Multiplier = omega arith
part_some kind.Total = omega arith
part_some kind.Bound = omega arith
part_some kind.End = omega arith

-- no line but the head is the first
only_head : (k : Kind) → may_stand One 0 k ≡ true → k ≡ kind.Head
only_head kind.Head e = refl
only_head kind.Count e = absurd (false≢true e)
only_head kind.Listed e = absurd (false≢true e)
only_head kind.Node e = absurd (false≢true e)
only_head kind.Vector e = absurd (false≢true e)
only_head kind.Places e = absurd (false≢true e)
only_head kind.Charge e = absurd (false≢true e)
only_head kind.Multiplier e = absurd (false≢true e)
only_head kind.Total e = absurd (false≢true e)
only_head kind.Bound e = absurd (false≢true e)
only_head kind.End e = absurd (false≢true e)

no_head : (v : Version) (p : ℕ) → 1 ≤ p → may_stand v p kind.Head ≡ true → ⊥
no_head v p some e = let z : p ≡ 0 = grind (arith, nat_tests) in omega (arith, z, some)

-- the version does not change behind the head
version_stays : (v : Version) (p : ℕ) (k : Kind) (words : List (List ℕ)) → 1 ≤ p → may_stand v p k ≡ true → version_behind v k words ≡ v
version_stays v p kind.Head words some e = absurd (no_head v p some e)
version_stays v p kind.Count words some e = refl
version_stays v p kind.Listed words some e = refl
version_stays v p kind.Node words some e = refl
version_stays v p kind.Vector words some e = refl
version_stays v p kind.Places words some e = refl
version_stays v p kind.Charge words some e = refl
version_stays v p kind.Multiplier words some e = refl
version_stays v p kind.Total words some e = refl
version_stays v p kind.Bound words some e = refl
version_stays v p kind.End words some e = refl

-- some lines, or none yet
data Start (v : Version) (lines : List Line) (last : Option Kind) : Type 0 where
  nothing : v ≡ One → lines ≡ [] → last ≡ None → Start v lines last
  begun : AreBegun v lines last → Start v lines last

start_push : (v : Version) (lines : List Line) (last : Option Kind) (k : Kind) (words : List (List ℕ)) → Start v lines last → may_stand v (part_of last) k ≡ true
    → Start (version_behind v k words) (lines ++ record { kind = k; words = words } ∷ []) (Some k)
start_push v lines last k words (nothing one none_yet first) e =
    let h : may_stand One 0 k ≡ true = subst (λ (w : Version). may_stand w 0 k ≡ true) one (subst (λ (o : Option Kind). may_stand v (part_of o) k ≡ true) first e) in
    let head : kind.Head ≡ k = sym (only_head k h) in
    subst (λ (j : Kind). Start (version_behind v j words) (lines ++ record { kind = j; words = words } ∷ []) (Some j)) head
    (subst (λ (l : List Line). Start (version_of words) (l ++ record { kind = kind.Head; words = words } ∷ []) (Some kind.Head)) (sym none_yet)
    (begun (record { words = words; behind = []; is = refl; version = refl; some = omega arith; chain = stay })))
start_push v lines last k words (begun b) e =
    let line : Line = record { kind = k; words = words } in
    subst (λ (w : Version). Start w (lines ++ line ∷ []) (Some k)) (sym (version_stays v (part_of last) k words b.some e))
    (begun (record {
      words = b.words;
      behind = b.behind ++ line ∷ [];
      is = ap (λ (l : List Line). l ++ line ∷ []) b.is;
      version = b.version;
      some = part_some k;
      chain = subst (λ (ks : List Kind). Chain v (Some kind.Head) ks (Some k)) (sym (map-append (λ (l : Line). l.kind) b.behind (line ∷ []))) (chain_push v (Some kind.Head) (map (λ (l : Line). l.kind) b.behind) last k b.chain e);
    }))

start_of : (v : Version) (lines : List Line) (last : Option Kind) (text : List ℕ) → AreLines v lines last text → Start v lines last
start_of v lines last text empty = nothing refl refl refl
start_of v lines last text (lined {v = w} {lines = before} {last = earlier} {text = front} {words = words} kind so stand line ends) = start_push w before earlier kind words (start_of w before earlier front so) stand

begun_is : (v : Version) (lines : List Line) (k : Kind) → Start v lines (Some k) → AreBegun v lines (Some k)
begun_is v lines k (nothing a b e) = absurd (cc)
begun_is v lines k (begun b) = b

pub begun_of : (v : Version) (lines : List Line) (k : Kind) (text : List ℕ) → AreLines v lines (Some k) text → AreBegun v lines (Some k)
begun_of v lines k text so = begun_is v lines k (start_of v lines (Some k) text so)

-- ---- parts do not fall
-- each item is of the part or a later one, and of no earlier one than the item before it
abbrev pub Rises : ℕ → List Item → Type 0
Rises part [] = Unit {0}
Rises part (x ∷ items) = (part ≤ part_of (Some (kind_of x))) × Rises (part_of (Some (kind_of x))) items

pub below_high : (low high p : ℕ) → lies low high p ≡ true → p ≤ high
below_high low high p e = let parts = and_parts (leb low p) (leb p high) e in grind (arith, nat_tests)

second_part : (a b : Bool) → (a && b) ≡ true → b ≡ true
second_part a b e = (and_parts a b e).1

is_part : (p n : ℕ) → (p == n) ≡ true → p ≡ n
is_part p n e = grind (arith, nat_tests)

pub stand_rises : (v : Version) (p : ℕ) (k : Kind) → may_stand v p k ≡ true → p ≤ part_of (Some k)
stand_rises v p kind.Head e = let z = is_part p 0 e in omega (arith, z)
stand_rises One p kind.Node e = below_high 1 4 p e
stand_rises Two p kind.Node e = absurd (false≢true e)
stand_rises One p kind.Vector e = let z = is_part p 4 e in omega (arith, z)
stand_rises Two p kind.Vector e = absurd (false≢true e)
stand_rises One p kind.Count e = absurd (false≢true e)
stand_rises Two p kind.Count e = let z = is_part p 1 e in omega (arith, z)
stand_rises One p kind.Listed e = absurd (false≢true e)
stand_rises Two p kind.Listed e = below_high 2 3 p e
stand_rises One p kind.Places e = absurd (false≢true e)
stand_rises Two p kind.Places e = below_high 2 4 p e
stand_rises One p kind.Charge e = below_high 1 5 p e
stand_rises Two p kind.Charge e = below_high 2 5 p e
stand_rises One p kind.Multiplier e = below_high 1 6 p e
stand_rises Two p kind.Multiplier e = below_high 2 6 p e
stand_rises One p kind.Total e = absurd (false≢true e)
stand_rises Two p kind.Total e = below_high 2 7 p e
stand_rises One p kind.Bound e = let n = below_high 1 7 p e in omega (arith, n)
stand_rises Two p kind.Bound e = let n = below_high 2 7 p e in omega (arith, n)
stand_rises v p kind.End e = let z = is_part p 8 e in omega (arith, z)

pub chain_rises : (v : Version) (from to : Option Kind) (items : List Item) (kinds : List Kind) → kinds ≡ map kind_of items → Chain v from kinds to → Rises (part_of from) items
chain_rises v from to [] kinds e c = tt
chain_rises v from to (x ∷ items) [] e c = absurd (cc)
chain_rises v from to (x ∷ items) (j ∷ kinds) e (step k h rest) =
    let first : j ≡ kind_of x = cc in
    let others : kinds ≡ map kind_of items = cc in (
      stand_rises v (part_of from) (kind_of x) (subst (λ (i : Kind). may_stand v (part_of from) i ≡ true) first h),
      chain_rises v (Some (kind_of x)) to items kinds others (subst (λ (i : Kind). Chain v (Some i) kinds to) first rest),
    )

pub rises_by : (a b : ℕ) (items : List Item) → a ≤ b → Rises b items → Rises a items
rises_by a b [] order r = tt
rises_by a b (x ∷ items) order r = (let n = r.0 in omega (arith, n, order), r.1)
