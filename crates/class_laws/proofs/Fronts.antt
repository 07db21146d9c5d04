-- The cache along the instructions of a block is that along its fetch events: an instruction that is not the first of its line
-- changes nothing.
use Rattle.std.proofs.Common.{◌≡◌, ℕ, zero, suc, ◌<◌, ◌≤◌, Bool, true, false, cond, not, List, [], ◌∷◌, ◌++◌, refl, sym, ap, ◌∙◌, inl, inr, arith}
use Rattle.std.specs.Prelude.{Option, Some, None}
use Rattle.std.specs.Option.{option_map_or}
use Rattle.std.proofs.lemmas.Bool.{cases_Bool, false≢true}
use Rattle.std.proofs.lemmas.List.Elements.{filter_map-append}
use Rattle.wx_base.specs.declared.image.Image.{Image}
use Rattle.wx_base.specs.declared.machine.Machine.{Machine}
use Rattle.wx_base.specs.declared.machine.UnitKind.{UnitKind}
use Rattle.wx_base.specs.declared.machine.UnitKind.TheVariants.{Alu, Mul, Mem}
use Rattle.wx_base.specs.Cache.{Lines, IsCache, holds_line, accessed}
use Rattle.wx_base.specs.Functions.{code_at}
use Rattle.wx_base.specs.Instruction.{unit_of}
use Rattle.wx_base.specs.Machine.{IsShape}
use Rattle.flow_block.specs.declared.block.SlotKind.TheVariants.{Fetch}
use Rattle.flow_block.specs.Blocks.{slots_of, slots_at, fetch_slots, unit_slots, has_line, line_at}
use Rattle.flow_block.specs.Sites.{behind}
use Rattle.pipe_block.specs.Events.{is_fetch, misses}
use Rattle.cache_lru.specs.Laws.{AccessKeepsCache, SecondAccessHits}
use Rattle.cache_pers.specs.Stays.{cache_along}
use Rattle.cache_class.specs.Accesses.{fetched, lines_fetched}
use Rattle.class_laws.proofs.Caches.{cache_append, cached, outcomes}
use Rattle.class_laws.proofs.Events.{first_misses, others_hit, unit_part}
use Rattle.class_laws.proofs.Lines.{line_before}

no_unit_line : (at : ℕ) (unit : UnitKind) → lines_fetched (unit_slots at unit) ≡ []
no_unit_line at Alu = refl
no_unit_line at Mul = refl
no_unit_line at Mem = refl

no_part_line : (at : ℕ) (word : Option ℕ) → lines_fetched (option_map_or (λ word. unit_slots at (unit_of word)) word []) ≡ []
no_part_line at None = refl
no_part_line at (Some word) = no_unit_line at (unit_of word)

own_line : (at line : ℕ) (b : Bool) → lines_fetched (cond b [] (record { at = at; kind = Fetch line } ∷ [])) ≡ cond b [] (line ∷ [])
own_line at line true = refl
own_line at line false = refl

no_more : (xs ys : List ℕ) → ys ≡ [] → xs ++ ys ≡ xs
no_more [] ys e = e
no_more (x ∷ xs) ys e = ap (λ l. x ∷ l) (no_more xs ys e)

module _ (image : Image) (machine : Machine) (start : ℕ) where
  lines_at : (place : ℕ) → lines_fetched (slots_at image machine start place) ≡ cond (has_line machine start place (line_at machine start place)) [] (line_at machine start place ∷ [])
  lines_at place =
      filter_map-append fetched (fetch_slots machine start place) (unit_part image start place)
      ∙ no_more (lines_fetched (fetch_slots machine start place)) (lines_fetched (unit_part image start place)) (no_part_line place (code_at image (behind start place)))
      ∙ own_line place (line_at machine start place) (has_line machine start place (line_at machine start place))

  -- the cache before the instruction at a place, by the fetch events before it, from one before the block
  abbrev pub front_of : Lines → ℕ → Lines
  front_of cache place = cache_along machine.shape cache (lines_fetched (slots_of image machine start place))

  module _ (keeps : AccessKeepsCache) (again : SecondAccessHits) (shape : IsShape machine.shape) (cache : Lines) (c : IsCache machine.shape cache) where
    front_grows : (place : ℕ) → front_of cache (suc place) ≡ cache_along machine.shape (front_of cache place) (cond (has_line machine start place (line_at machine start place)) [] (line_at machine start place ∷ []))
    front_grows place =
        ap (cache_along machine.shape cache) (filter_map-append fetched (slots_of image machine start place) (slots_at image machine start place))
        ∙ cache_append machine.shape cache (lines_fetched (slots_of image machine start place)) (lines_fetched (slots_at image machine start place))
        ∙ ap (cache_along machine.shape (front_of cache place)) (lines_at place)

    -- the line was accessed last
    record WasLast (before : Lines) (line : ℕ) : Type 0 where
      earlier : Lines
      is_cache : IsCache machine.shape earlier
      is : before ≡ accessed machine.shape earlier line

    was_first : (place : ℕ) → has_line machine start place (line_at machine start place) ≡ false → front_of cache (suc place) ≡ accessed machine.shape (front_of cache place) (line_at machine start place)
    was_first place e = front_grows place ∙ ap (λ b. cache_along machine.shape (front_of cache place) (cond b [] (line_at machine start place ∷ []))) e

    was_there : (place : ℕ) → has_line machine start place (line_at machine start place) ≡ true → WasLast (front_of cache place) (line_at machine start place)
        → front_of cache (suc place) ≡ accessed machine.shape (front_of cache place) (line_at machine start place)
    was_there place e last =
        let line = line_at machine start place in
        front_grows place
        ∙ ap (λ b. cache_along machine.shape (front_of cache place) (cond b [] (line ∷ []))) e
        ∙ last.is ∙ sym ((again machine.shape last.earlier line shape last.is_cache).1) ∙ ap (λ x. accessed machine.shape x line) (sym last.is)

    -- each instruction accesses its line
    pub front_more : (place : ℕ) → place ≤ 31 → front_of cache (suc place) ≡ accessed machine.shape (front_of cache place) (line_at machine start place)
    front_more zero few = was_first zero refl
    front_more (suc place) few = elim (cases_Bool (has_line machine start (suc place) (line_at machine start (suc place)))) [
      | inl e ↦ was_there (suc place) e (record {
        earlier = front_of cache place;
        is_cache = cached keeps machine.shape shape cache (lines_fetched (slots_of image machine start place)) c;
        is = front_more place (omega arith) ∙ ap (accessed machine.shape (front_of cache place)) (line_before machine shape start place (omega arith) e);
      })
      | inr e ↦ was_first (suc place) e
    ]

    last_of : (place : ℕ) → place ≤ 31 → has_line machine start place (line_at machine start place) ≡ true → WasLast (front_of cache place) (line_at machine start place)
    last_of zero few e = absurd (false≢true e)
    last_of (suc place) few e = record {
      earlier = front_of cache place;
      is_cache = cached keeps machine.shape shape cache (lines_fetched (slots_of image machine start place)) c;
      is = front_more place (omega arith) ∙ ap (accessed machine.shape (front_of cache place)) (line_before machine shape start place (omega arith) e);
    }

    -- an instruction misses at the outcomes exactly if its line is not in the cache before it
    pub fetch_misses : (slow : ℕ → Bool) (count place : ℕ) → place < count → place ≤ 31
        → misses is_fetch (outcomes machine.shape cache slow (slots_of image machine start count)) place 0 (slots_of image machine start count)
        ≡ not (holds_line machine.shape (front_of cache place) (line_at machine start place))
    fetch_misses slow count place less few = elim (cases_Bool (has_line machine start place (line_at machine start place))) [
      | inl e ↦
          let last = last_of place few e in
          let line = line_at machine start place in
          others_hit image machine start cache slow count place less e
          ∙ ap not (sym ((again machine.shape last.earlier line shape last.is_cache).0)) ∙ ap (λ x. not (holds_line machine.shape x line)) (sym last.is)
      | inr e ↦ first_misses image machine start cache slow count place less e
    ]
