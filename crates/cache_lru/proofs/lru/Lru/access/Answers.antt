use Rattle.std.proofs.Common.{◌≡◌, ℕ, List, length, get_or, map, set, ◌<◌, ◌≤◌, sym, ◌∙◌, arith, subst}
use Rattle.std.proofs.lemmas.List.{length-map}
use Rattle.std.proofs.lemmas.List.Elements.{All-set}
use Rattle.std.specs.Vec.{vec_capacity}
use Rattle.wx_base.specs.declared.machine.Shape.{Shape}
use Rattle.wx_base.specs.Machine.{IsShape}
use Rattle.wx_base.specs.Cache.{IsCache, set_of, touched}
use Rattle.cache_lru.proofs.Caches.{set_within, set_there, lists_after, keeps}
use Rattle.cache_lru.proofs.lru.Lru.access.Goals as goal

within : {X : Type 0} (f : X → List ℕ) (lists : List X) (shape : Shape) (line : ℕ) → IsShape shape → IsCache shape (map f lists) → set_of shape line < length lists
within f lists shape line s c = set_within shape.sets line (length lists) (omega (arith, s.sets)) (sym (length-map lists f) ∙ c.sets)

stays : {X : Type 0} (f : X → List ℕ) (lists : List X) (shape : Shape) (line : ℕ) (x y : X) → IsShape shape → IsCache shape (map f lists)
    → x ≡ get_or lists (set_of shape line) x → f y ≡ touched shape.ways (f x) line → IsCache shape (map f (set lists (set_of shape line) y))
stays f lists shape line x y s c e is =
    let P : List (List ℕ) → Type 0 = λ cache. IsCache shape cache in
    subst P (sym (lists_after f lists shape line x y (within f lists shape line s c) e is)) (keeps shape (map f lists) line s c)

pub touch-requires-clause-fits : goal.touch-requires-clause-fits
touch-requires-clause-fits c =
    (set_there (λ list. list.items) c.self.inside.lists.items c.self.inside.shape c.args.line c.index_mut.result.now c.self.invariant.0 c.self.invariant.1
    (within (λ list. list.items) c.self.inside.lists.items c.self.inside.shape c.args.line c.self.invariant.0 c.self.invariant.1) c.index_mut.ensures.value).fits

pub touch-requires-clause-different : goal.touch-requires-clause-different
touch-requires-clause-different c =
    (set_there (λ list. list.items) c.self.inside.lists.items c.self.inside.shape c.args.line c.index_mut.result.now c.self.invariant.0 c.self.invariant.1
    (within (λ list. list.items) c.self.inside.lists.items c.self.inside.shape c.args.line c.self.invariant.0 c.self.invariant.1) c.index_mut.ensures.value).different

pub invariant_of-self : goal.invariant_of-self
invariant_of-self c = (
  c.self.invariant.0,
  stays (λ list. list.items) c.self.inside.lists.items c.self.inside.shape c.args.line c.index_mut.result.now c.touch.new.list c.self.invariant.0 c.self.invariant.1 c.index_mut.ensures.value c.touch.ensures.lines,
  All-set (λ list. c.self.inside.shape.ways ≤ vec_capacity list) c.self.inside.lists.items (set_of c.self.inside.shape c.args.line) c.touch.new.list c.touch.ensures.room c.self.invariant.2,
)

pub returns-clause-lists : goal.returns-clause-lists
returns-clause-lists c = rw (← c.self.view_is) (lists_after (λ list. list.items) c.self.inside.lists.items c.self.inside.shape c.args.line c.index_mut.result.now c.touch.new.list
    (within (λ list. list.items) c.self.inside.lists.items c.self.inside.shape c.args.line c.self.invariant.0 c.self.invariant.1) c.index_mut.ensures.value c.touch.ensures.lines)

pub returns-clause-cache : goal.returns-clause-cache
returns-clause-cache c = stays (λ list. list.items) c.self.inside.lists.items c.self.inside.shape c.args.line c.index_mut.result.now c.touch.new.list c.self.invariant.0 c.self.invariant.1 c.index_mut.ensures.value c.touch.ensures.lines
