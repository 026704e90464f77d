-- The third round: a letter and the marks behind it compose, as far as the font has what comes of
-- it (Unicode's Canonical Composition Algorithm).
use Rattle.std.specs.Prelude.{ℕ, zero, suc, ◌+◌, ◌-◌, ◌==◌, nat_lt, Bool, ◌&&◌, ◌||◌, ◌++◌, drop, length, slice_index_or, slice_set, take, Option, None, Some, option_map, if◌then◌else◌}
use Rattle.std.specs.Option.{option_map_or}
use Rattle.shapers_base.specs.declared.font.GlyphId.{GlyphId}
use Rattle.shapers_buffer.specs.Glyphs.{Glyph, Glyphs}
use Rattle.shapers_buffer.specs.declared.buffer.level.BufferClusterLevel.{BufferClusterLevel}
use Rattle.shapers_buffer.specs.Clusters.{merge}
use Rattle.shapers_buffer.specs.Glyph.{default_glyph}
use Rattle.shapers_normal.specs.Context.{Context}
use Rattle.shapers_normal.specs.Properties.{as_character}
use Rattle.shapers_normal.specs.Sorting.{class_of, is_mark_glyph}

-- the glyph at a place
abbrev pub glyph_at : Glyphs → ℕ → Glyph
glyph_at gs i = slice_index_or gs i default_glyph

-- a walk over the text: the starter, the place that it has come to, and the glyphs
pub record StarterWalk : Type 0 where
  pub starter : ℕ
  pub place : ℕ
  pub glyphs : Glyphs

-- whether nothing keeps the glyph there from the starter: it stands right behind it, or the glyph
-- before it has a lesser class
abbrev pub is_free : StarterWalk → Bool
is_free w =
    w.starter + 1 == w.place
    || nat_lt (class_of (glyph_at w.glyphs (w.place - 1))) (class_of (glyph_at w.glyphs w.place))

-- a character with its glyph, if the font has one
abbrev pub if_drawn : Context → Option ℕ → Option (ℕ × GlyphId)
if_drawn context None = None
if_drawn context (Some c) = option_map (λ glyph. (c, glyph)) (context.nominal c)

-- what the starter and the mark there compose to, with its glyph
abbrev pub composition : Context → StarterWalk → Option (ℕ × GlyphId)
composition context w =
    if is_mark_glyph (glyph_at w.glyphs w.place) && is_free w
    then if_drawn context
    (context.composed (glyph_at w.glyphs w.starter).glyph_id (glyph_at w.glyphs w.place).glyph_id)
    else None

-- the glyphs without the one at a place
abbrev pub without_place : ℕ → Glyphs → Glyphs
without_place i gs = take i gs ++ drop (i + 1) gs

-- The mark there joins the starter: all from the starter to it comes into one cluster, the mark
-- goes, and the starter becomes what they compose to.
abbrev pub taken_in : Context → BufferClusterLevel → ℕ × GlyphId → StarterWalk → StarterWalk
taken_in context level drawn w =
    let left = without_place w.place (merge level w.starter (w.place + 1) w.glyphs) in
    let starter = as_character context drawn.0 drawn.1.0 (glyph_at left w.starter) in
    record w { glyphs = slice_set left w.starter starter }

-- the glyph there stays; if it has class 0 it is the next starter
abbrev pub left_as_is : StarterWalk → StarterWalk
left_as_is w = record w {
  starter = if class_of (glyph_at w.glyphs w.place) == 0 then w.place else w.starter;
  place = w.place + 1;
}

abbrev pub next_glyph : Context → BufferClusterLevel → StarterWalk → StarterWalk
next_glyph context level w =
    option_map_or (λ drawn. taken_in context level drawn w) (composition context w) (left_as_is w)

abbrev pub walk_over : Context → BufferClusterLevel → ℕ → StarterWalk → StarterWalk
walk_over context level zero w = w
walk_over context level (suc n) w = walk_over context level n (next_glyph context level w)

-- the text recomposed: its first glyph is a starter, and each other glyph is come to once
abbrev pub recomposed : Context → BufferClusterLevel → Glyphs → Glyphs
recomposed context level gs =
    (walk_over context level (length gs - 1)
    (record { starter = 0; place = 1; glyphs = gs })).glyphs
