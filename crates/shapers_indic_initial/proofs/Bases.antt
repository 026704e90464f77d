-- The search for the base, from the right.
use Rattle.std.proofs.Common.{◌≡◌, ℕ, suc, ◌+◌, ◌<◌, ◌≤◌, Bool, true, false, cond, not, ◌&&◌, ◌||◌, get_or, length, Option, None, Some, sym, ap, ◌∙◌, arith}
use Rattle.std.specs.Option.{option_map_or, option_or}
use Rattle.shapers_buffer.specs.Glyphs.{Glyph, Glyphs}
use Rattle.shapers_base.specs.declared.plan.indic.BaseSearch.{BaseSearch}
use Rattle.shapers_indic.specs.Glyphs.{greatest_place, has_position, some_place}
use Rattle.shapers_indic.proofs.PlaceSearch.{greatest_last, greatest_none, passes_there}
use Rattle.shapers_indic_initial.specs.InitialBase.{is_base, is_base_candidate, has_below_form, search_from, stops_search}
use Rattle.shapers_indic_initial.proofs.PlaceSearch.{greatest_before, greatest_first, greatest_further, some_first}

-- the places from i on are searched: nothing there stops the search, no base stands there, and this
-- says whether a consonant with a below-base form does
pub record Searching (search : BaseSearch) (lo i : ℕ) (below : Bool) (gs : Glyphs) : Type 0 where
  pub from : lo ≤ i
  pub within : i ≤ length gs
  pub still_open : greatest_place (stops_search gs) lo i ≡ greatest_place (stops_search gs) lo (length gs)
  pub no_base : greatest_place (is_base search gs) i (length gs) ≡ None
  pub below_seen : below ≡ some_place (has_below_form search gs) i (length gs)

-- a glyph that doesn't stop the search and isn't the base
pub searching_next : (search : BaseSearch) (lo i : ℕ) (below after : Bool) (gs : Glyphs) → lo ≤ i
    → Searching search lo (i + 1) below gs → stops_search gs i ≡ false → is_base search gs i ≡ false
    → after ≡ has_below_form search gs i || below → Searching search lo i after gs
searching_next search lo i below after gs l s going not_base is =
    let inside : i < length gs = omega arith in
    record {
      from = l;
      within = omega arith;
      still_open = sym (ap (λ b. cond b (Some i) (greatest_place (stops_search gs) lo i)) going)
          ∙ sym (greatest_last _ lo i l) ∙ s.still_open;
      no_base = greatest_first _ i _ inside
          ∙ ap (λ o. option_or o (cond (is_base search gs i) (Some i) None)) s.no_base
          ∙ ap (λ b. cond b (Some i) None) not_base;
      below_seen = is ∙ ap (λ b. has_below_form search gs i || b) s.below_seen
          ∙ sym (some_first _ i _ inside);
    }

-- one that stops it
pub stopped : (search : BaseSearch) (lo i : ℕ) (below : Bool) (gs : Glyphs) → lo ≤ i
    → Searching search lo (i + 1) below gs → stops_search gs i ≡ true
    → None ≡ greatest_place (is_base search gs) (search_from lo gs) (length gs)
stopped search lo i below gs l s stops =
    let there = sym s.still_open ∙ greatest_last _ lo i l
    ∙ ap (λ b. cond b (Some i) (greatest_place (stops_search gs) lo i)) stops in
    let one : i + 1 ≡ suc i = omega arith in
    cc s.no_base

-- the base
search_before : (lo i : ℕ) (o : Option ℕ) → lo ≤ i → ((k : ℕ) → o ≡ Some k → k < i) → option_map_or suc o lo ≤ i
search_before lo i None l before = l
search_before lo i (Some k) l before = search arith

pub found : (search : BaseSearch) (lo i : ℕ) (below : Bool) (gs : Glyphs) → lo ≤ i
    → Searching search lo (i + 1) below gs → stops_search gs i ≡ false → is_base search gs i ≡ true
    → Some i ≡ greatest_place (is_base search gs) (search_from lo gs) (length gs)
found search lo i below gs l s going here =
    let G = greatest_place _ lo i in
    let before =
    search_before lo i G l (λ k is. greatest_before _ lo i k is) in
    let at : search_from lo gs ≤ i = omega (
      arith,
      ap (λ o. option_map_or suc o lo)
          (sym (ap (λ b. cond b (Some i) G) going) ∙ sym (greatest_last _ lo i l) ∙ s.still_open),
    ) in
    let found_here =
    greatest_first _ i _ (omega arith) ∙ ap (λ o. option_or o (cond (is_base search gs i) (Some i) None)) s.no_base
    ∙ ap (λ b. cond b (Some i) None) here in
    sym (greatest_further _ _ i _ i at (omega arith) found_here)

-- none from the limit on
pub none_found : (search : BaseSearch) (lo : ℕ) (below : Bool) (gs : Glyphs)
    → Searching search lo lo below gs → None ≡ greatest_place (is_base search gs) (search_from lo gs) (length gs)
none_found search lo below gs s = cc (greatest_none _ lo lo (omega arith))

-- what is said of a place by the glyph there
pub below_there : (search : BaseSearch) (gs : Glyphs) (i : ℕ) (d : Glyph) → i < length gs
    → has_below_form search gs i ≡ is_base_candidate search (get_or gs i d) && has_position 8 (get_or gs i d)
below_there search gs i d l = cc (passes_there _ gs i d l)

pub base_there : (search : BaseSearch) (gs : Glyphs) (i : ℕ) (below : Bool) (d : Glyph)
    → i < length gs → below ≡ some_place (has_below_form search gs) (i + 1) (length gs)
    → is_base search gs i ≡ is_base_candidate search (get_or gs i d)
    && not (is_base_candidate search (get_or gs i d) && has_position 8 (get_or gs i d))
    && (not (has_position 11 (get_or gs i d)) || below)
base_there search gs i below d l seen = cc (passes_there _ gs i d l)
