-- Khmer: the order, the masks and the merges of a regular syllable, by what moves in it.
use Rattle.std.specs.Prelude.{ℕ, ◌+◌, ◌≡◌, nat_lt, true, Bool, ◌&&◌, ◌||◌, ◌==◌, not, List, [], ◌∷◌, ◌++◌, drop, filter, flat_map, map, reverse, if◌then◌else◌}
use Rattle.std.specs.List.{enumerate_from, list_all, list_any, prefix_len, zip}
use Rattle.shapers_buffer.specs.Lists.{each_after}
use Rattle.shapers_buffer.specs.Places.{pick}
use Rattle.shapers_buffer.specs.Glyphs.{Glyph, Glyphs}
use Rattle.shapers_clusters.specs.Steps.{Step}
use Rattle.shapers_khmer.specs.Khmer.{is_coeng, is_left_vowel, is_reordered_in_khmer, is_ro, khmer_masked, khmer_moves, khmer_order, khmer_places, khmer_steps, merged_by_move, categories_of, with_mask}
use Rattle.shapers_khmer.specs.declared.ot_shaper_khmer.reordering.KhmerOrder.{KhmerOrder}

-- whether a syllable is regular: no Coeng or left vowel comes first, or directly behind a Coeng
abbrev pub is_coeng_or_left_vowel : ℕ → Bool
is_coeng_or_left_vowel category = is_coeng category || is_left_vowel category

abbrev pub is_regular : List ℕ → Bool
is_regular [] = true
is_regular (c ∷ cs) =
    not (is_coeng_or_left_vowel c)
    && list_all (λ p. not (is_coeng p.0 && is_coeng_or_left_vowel p.1)) (zip (c ∷ cs) cs)

-- A part of a syllable: Coeng with the glyph behind it, or one glyph alone; by place and category.
pub data Part : Type 0 where
  Coeng : (place behind : ℕ) → Part
  Alone : (place category : ℕ) → Part

-- the places of its glyphs
abbrev pub part_places : Part → List ℕ
part_places (Coeng place behind) = place ∷ ((place + 1) ∷ [])
part_places (Alone place category) = place ∷ []

-- the parts of categories, numbered from a place on
abbrev pub parts_from : ℕ → List ℕ → List Part
parts_from place [] = []
parts_from place (x ∷ []) = Alone place x ∷ []
parts_from place (x ∷ (y ∷ categories)) =
    if is_coeng x then Coeng place y ∷ parts_from (place + 2) categories
    else Alone place x ∷ parts_from (place + 1) (y ∷ categories)

-- what stands behind the Coengs of parts
abbrev pub behind_coengs : List Part → List ℕ
behind_coengs [] = []
behind_coengs (Coeng place behind ∷ parts) = behind ∷ behind_coengs parts
behind_coengs (Alone place category ∷ parts) = behind_coengs parts

-- whether a Ro moves, by what follows the Coengs before it: fewer than three others, then Ros alone
abbrev pub moves_behind : List ℕ → Bool
moves_behind before =
    let others = prefix_len (λ y. not (is_ro y)) before in
    nat_lt others 3 && list_all is_ro (drop others before)

-- whether a part moves, by the parts before it
abbrev pub is_mover : List Part × Part → Bool
is_mover (before, Coeng place behind) = is_ro behind && moves_behind (behind_coengs before)
is_mover (before, Alone place category) = is_left_vowel category

-- the places of a syllable of these categories: of what moves, last first, and then of the others
abbrev pub order_by_movers : List ℕ → List ℕ
order_by_movers categories =
    let parts = each_after [] (parts_from 0 categories) in
    flat_map (λ e. part_places e.1)
    (reverse (filter is_mover parts) ++ filter (λ e. not (is_mover e)) parts)

-- the order by cases of a regular syllable is that by its movers
abbrev pub KhmerMoversLaw : Type 0
KhmerMoversLaw = (gs : Glyphs) → is_regular (categories_of gs) ≡ true →
    khmer_places gs ≡ order_by_movers (categories_of gs)

-- MASKS. The places of the Coengs that move with their Ro
abbrev pub coeng_place : Part → List ℕ
coeng_place (Coeng place behind) = place ∷ []
coeng_place (Alone place category) = []

abbrev pub moving_coengs : List ℕ → List ℕ
moving_coengs categories =
    flat_map (λ e. coeng_place e.1) (filter is_mover (each_after [] (parts_from 0 categories)))

-- the glyph with a mask besides its own, if it is wanted
abbrev pub with_mask_if : Bool → ℕ → Glyph → Glyph
with_mask_if wanted m g = if wanted then with_mask m g else g

-- the glyph at a place: blwf, abvf, pstf on all but the first, pref on moving pairs, cfar behind
abbrev pub masked_at : KhmerOrder → List ℕ → ℕ → Glyph → Glyph
masked_at r coengs place g =
    with_mask_if (list_any (λ p. nat_lt (p + 1) place) coengs) r.cfar
    (with_mask_if (list_any (λ p. place == p || place == p + 1) coengs) r.pref
    (with_mask_if (nat_lt 0 place) r.others g))

abbrev pub masked_by_movers : KhmerOrder → Glyphs → Glyphs
masked_by_movers r gs =
    map (λ e. masked_at r (moving_coengs (categories_of gs)) e.0 e.1) (enumerate_from 0 gs)

-- the masks by cases of a regular syllable are those by its movers
abbrev pub KhmerMoversMasksLaw : Type 0
KhmerMoversMasksLaw = (r : KhmerOrder) (gs : Glyphs) →
    is_regular (categories_of gs) ≡ true → khmer_masked r gs ≡ masked_by_movers r gs

-- what a syllable becomes, by its movers: the glyphs with their masks, in that order
abbrev pub khmer_by_movers : KhmerOrder → Glyphs → Glyphs
khmer_by_movers r gs =
    if is_reordered_in_khmer gs
    then pick (order_by_movers (categories_of gs)) (masked_by_movers r gs)
    else gs

-- so a regular syllable becomes
abbrev pub KhmerByMoversLaw : Type 0
KhmerByMoversLaw =
    (r : KhmerOrder) (gs : Glyphs) → is_regular (categories_of gs) ≡ true →
    khmer_order r gs ≡ khmer_by_movers r gs

-- MERGES. What merges for a part that moves: from the syllable's start to its end, this included
abbrev pub merged_over : Part → ℕ × ℕ
merged_over (Coeng place behind) = (0, place + 2)
merged_over (Alone place category) = (0, place + 1)

abbrev pub merges_by_movers : List ℕ → List (ℕ × ℕ)
merges_by_movers categories =
    map (λ e. merged_over e.1) (filter is_mover (each_after [] (parts_from 0 categories)))

-- the merges by cases of a regular syllable are those for its movers, in order
abbrev pub KhmerMoversMergesLaw : Type 0
KhmerMoversMergesLaw =
    (gs : Glyphs) → is_regular (categories_of gs) ≡ true →
    map merged_by_move (khmer_moves gs) ≡ merges_by_movers (categories_of gs)

-- THE CALL. What a syllable becomes, and by which steps: of a regular one by its movers
abbrev pub ordered_by_movers : KhmerOrder → Glyphs → Glyphs
ordered_by_movers r gs =
    if is_regular (categories_of gs) && is_reordered_in_khmer gs
    then pick (order_by_movers (categories_of gs)) (masked_by_movers r gs) else khmer_order r gs

abbrev pub steps_by_movers : Glyphs → List Step
steps_by_movers gs =
    if is_regular (categories_of gs) && is_reordered_in_khmer gs then record {
      merged_first = merges_by_movers (categories_of gs);
      places = order_by_movers (categories_of gs);
      merged_then = [];
    }
    ∷ []
    else khmer_steps gs
