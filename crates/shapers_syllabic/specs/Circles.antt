-- Dotted circles: each broken syllable gets one, and where it stands.
use Rattle.std.specs.Prelude.{ℕ, ◌==◌, Bool, ◌&&◌, false, not, List, [], ◌∷◌, ◌++◌, take, drop, count_by, Option, Some, None, unwrap_or, if◌then◌else◌}
use Rattle.std.specs.List.{flat_map, list_any, prefix_len}
use Rattle.shapers_buffer.specs.Glyphs.{Glyph, Glyphs}
use Rattle.shapers_base.specs.declared.font.GlyphId.{GlyphId}
use Rattle.shapers_syllabic.specs.declared.ot_shaper_syllabic.circles.DottedCircles.{DottedCircles}
use Rattle.shapers_buffer.specs.Buffer.{Buffer, asks, no_dotted_circle}
use Rattle.shapers_buffer.specs.Glyph.{default_glyph}
use Rattle.shapers_buffer.specs.Syllables.{syllables, kind_of}

-- whether a syllable is of kind k
abbrev pub is_of_kind : ℕ → Glyphs → Bool
is_of_kind k [] = false
is_of_kind k (g ∷ gs) = kind_of g.syllable == k

-- whether it is of one of these kinds
abbrev pub is_of_kinds : List ℕ → Glyphs → Bool
is_of_kinds kinds [] = false
is_of_kinds kinds (g ∷ gs) = list_any (λ kind. kind == kind_of g.syllable) kinds

-- how many glyphs of a syllable stand in front of its circle: the leading rephas, if there are any
abbrev pub rephas_len : Option ℕ → Glyphs → ℕ
rephas_len None gs = 0
rephas_len (Some repha) gs = prefix_len (λ g. g.category == repha) gs

-- the circle of a syllable: it takes cluster, mask and syllable byte from the first glyph
abbrev pub circle_in : Glyphs → Glyph → Glyph
circle_in [] circle = circle
circle_in (g ∷ gs) circle =
    record circle { cluster = g.cluster; mask = g.mask; syllable = g.syllable }

-- the syllable with its circle: the leading rephas, the circle, the rest
abbrev pub with_circle : DottedCircles → Glyphs → Glyphs
with_circle rule gs = take (rephas_len rule.repha gs) gs ++ circle_in gs rule.circle
    ∷ drop (rephas_len rule.repha gs) gs

-- what a syllable becomes: with its circle, if it is broken
abbrev pub circled_syllable : DottedCircles → Glyphs → Glyphs
circled_syllable rule gs = if is_of_kind rule.broken_kind gs then with_circle rule gs else gs

-- the circle rule: the text with one circle for each broken syllable
abbrev pub with_circles : DottedCircles → Glyphs → Glyphs
with_circles rule gs = flat_map (circled_syllable rule) (syllables gs)

-- how many syllables of a text are of kind k
abbrev pub count_of_kind : ℕ → Glyphs → ℕ
count_of_kind k gs = count_by (is_of_kind k) (syllables gs)

-- whether broken syllables may get circles: there is one, and the caller doesn't forbid it
abbrev pub wants_circles : Buffer → Bool
wants_circles b = b.broken && not (asks no_dotted_circle b)

-- the circles that a buffer gets, where the font has this glyph for them: of a kind of broken
-- syllables, with a category and an auxiliary byte, behind rephas of a category
abbrev pub circles_for : Option GlyphId → ℕ → ℕ → Option ℕ → Option ℕ → Buffer →
    Option DottedCircles
circles_for None k category repha place b = None
circles_for (Some glyph) k category repha place b =
    if wants_circles b then Some (record {
      broken_kind = k;
      circle = record default_glyph
          { glyph_id = glyph.0; category = category; auxiliary = unwrap_or place 0 };
      repha = repha;
    })
    else None

-- the text with these circles, and without any
abbrev pub circled : Option DottedCircles → Glyphs → Glyphs
circled None gs = gs
circled (Some rule) gs = with_circles rule gs
