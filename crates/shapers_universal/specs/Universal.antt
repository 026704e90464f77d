-- The order of a syllable in the universal shaper, and the merges and moves that lead there.
-- (OpenType, the Universal Shaping Engine.)
use Rattle.std.specs.Prelude.{ℕ, suc, ◌==◌, Bool, false, not, ◌&&◌, ◌||◌, List, [], ◌∷◌, ◌++◌, length, map, filter, reverse, take, drop, if◌then◌else◌}
use Rattle.std.specs.List.{flat_map, list_any, prefix_len, range_with_len, slice_get}
use Rattle.std.specs.Option.{option_map_or}
use Rattle.shapers_buffer.specs.Glyphs.{Glyph, Glyphs}
use Rattle.shapers_buffer.specs.Lists.{cut_after, first_last}
use Rattle.shapers_buffer.specs.Properties.{is_ligated, component}
use Rattle.shapers_clusters.specs.Steps.{Step, steps_along}
use Rattle.shapers_syllabic.specs.Circles.{is_of_kinds}
use Rattle.shapers_syllabic.specs.declared.ot_shaper_syllabic.kinds.use_syllable.TheConstants.{BROKEN_CLUSTER, SAKOT_TERMINATED_CLUSTER, STANDARD_CLUSTER, VIRAMA_TERMINATED_CLUSTER}
use Rattle.shapers_universal.specs.declared.ot_shaper_use.category.TheConstants.{FAbv, FBlw, FMAbv, FMBlw, FMPst, FPst, H, HVM, IS, MAbv, MBlw, MPre, MPst, R, VAbv, VBlw, VMAbv, VMBlw, VMPre, VMPst, VPre, VPst}

-- a category among some
abbrev pub is_of_categories : List ℕ → Glyph → Bool
is_of_categories cs g = list_any (λ c. c == g.category) cs

-- a halant: H, HVM or IS that is no ligature
abbrev pub is_universal_halant : Glyph → Bool
is_universal_halant g = is_of_categories (H ∷ HVM ∷ IS ∷ []) g && not (is_ligated g.glyph_props)

-- the categories of what stands after the base
abbrev pub post_base : List ℕ
post_base = FAbv ∷ FBlw ∷ FPst ∷ FMAbv ∷ FMBlw ∷ FMPst ∷ MAbv ∷ MBlw ∷ MPst ∷ MPre ∷ VAbv ∷ VBlw
    ∷ VPst ∷ VPre ∷ VMAbv ∷ VMBlw ∷ VMPst ∷ VMPre ∷ []

-- what a reph moves behind: all but a halant and what stands after the base
abbrev pub reph_passes : Glyph → Bool
reph_passes g = not (is_of_categories post_base g || is_universal_halant g)

-- how many glyphs the reph in front and what it moves behind are, 0 where no reph stands in front
abbrev pub leading_reph_len : Glyphs → ℕ
leading_reph_len [] = 0
leading_reph_len (g ∷ gs) = if g.category == R then suc (prefix_len reph_passes gs) else 0

-- the list with the first of its first n elements as the last of them
abbrev pub first_behind : {X : Type 0} → ℕ → List X → List X
first_behind n xs = first_last (take n xs) ++ drop n xs

-- the syllable with its reph behind what it passes
abbrev pub reph_moved : Glyphs → Glyphs
reph_moved gs = first_behind (leading_reph_len gs) gs

-- what goes to the front of its piece: VPre and VMPre, of those put in for one glyph the first
abbrev pub goes_front : Glyph → Bool
goes_front g = is_of_categories (VPre ∷ VMPre ∷ []) g && component g.lig_props == 0

-- a list with what passes a test in front, reversed
abbrev pub reversed_first : {X : Type 0} → (X → Bool) → List X → List X
reversed_first test xs = reverse (filter test xs) ++ filter (λ x. not (test x)) xs

-- whether syllables of this kind are reordered
abbrev pub is_reordered_in_universal : Glyphs → Bool
is_reordered_in_universal gs = is_of_kinds (VIRAMA_TERMINATED_CLUSTER ∷ SAKOT_TERMINATED_CLUSTER
    ∷ STANDARD_CLUSTER ∷ BROKEN_CLUSTER ∷ []) gs

-- the pieces of a syllable: once its reph has moved it is cut after each halant
abbrev pub pieces : Glyphs → List Glyphs
pieces gs = cut_after is_universal_halant (reph_moved gs)

-- the order: each piece with what goes to its front in front, reversed
abbrev pub universal_order : Glyphs → Glyphs
universal_order gs =
    if is_reordered_in_universal gs then flat_map (reversed_first goes_front) (pieces gs) else gs

-- the step of the reph: it merges with what it passes
abbrev pub universal_reph_step : Glyphs → Step
universal_reph_step gs = record {
  merged_first = (0, leading_reph_len gs) ∷ [];
  places = first_behind (leading_reph_len gs) (range_with_len 0 (length gs));
  merged_then = [];
}

-- the places of a piece, and whether what stands at one goes to the front
abbrev pub places_within : Glyphs → List ℕ
places_within gs = range_with_len 0 (length gs)

abbrev pub goes_front_at : Glyphs → ℕ → Bool
goes_front_at gs i = option_map_or goes_front (slice_get gs i) false

-- the step of a piece: each glyph that goes to the front merges from the piece's start to its place
abbrev pub piece_step : Glyphs → Step
piece_step gs = record {
  merged_first = map (λ i. (0, suc i))
      (filter (goes_front_at gs) (places_within gs));
  places = reversed_first (goes_front_at gs) (places_within gs);
  merged_then = [];
}

-- the steps of pieces that follow one another
abbrev pub piece_steps : List Glyphs → List (ℕ × List Step)
piece_steps ps = map (λ piece. (length piece, piece_step piece ∷ [])) ps

-- the steps of a syllable: that of its reph, and then those of its pieces
abbrev pub universal_steps : Glyphs → List Step
universal_steps gs =
    if is_reordered_in_universal gs then universal_reph_step gs
    ∷ steps_along (length gs) 0 (piece_steps (pieces gs))
    else []
