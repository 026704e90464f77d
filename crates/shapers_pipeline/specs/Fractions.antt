-- The features of fractions: with decimal numbers on both sides of a fraction slash, those before
-- it take the features of numerators, and those behind it those of denominators.
use Rattle.std.specs.Prelude.{ℕ, zero, suc, ◌==◌, ◌+◌, ◌-◌, bit_or, Bool, true, false, not, ◌&&◌, ◌||◌, length, map, slice_index_or, take, drop, if◌then◌else◌}
use Rattle.std.specs.List.{prefix_len, suffix_len}
use Rattle.shapers_buffer.specs.Glyphs.{Glyph, Glyphs}
use Rattle.shapers_buffer.specs.declared.buffer.level.Direction.{Direction}
use Rattle.shapers_buffer.specs.declared.buffer.level.Direction.TheVariants.{LeftToRight, TopToBottom}
use Rattle.shapers_buffer.specs.Buffer.{Buffer, asks, flags_concat}
use Rattle.shapers_buffer.specs.Clusters.{with_stretch}
use Rattle.shapers_buffer.specs.Glyph.{default_glyph}
use Rattle.shapers_buffer.specs.GlyphFlags.{unsafe_inside, unsafe_to_concat_in, with_bits}
use Rattle.shapers_prepare.specs.NativeDirection.{is_decimal_number}
use Rattle.shapers_plan.specs.declared.ot_shape_plan.DriverMasks.{DriverMasks}
use Rattle.shapers_pipeline.specs.declared.fractions.SlashMasks.{SlashMasks}
use Rattle.shapers_buffer.specs.Properties.{general_category}

abbrev pub is_fraction_slash : Glyph → Bool
is_fraction_slash g = g.glyph_id == 0x2044

abbrev pub is_decimal_glyph : Glyph → Bool
is_decimal_glyph g = is_decimal_number (general_category g.unicode_props)

-- how many decimal numbers stand right before a place, and right behind it
abbrev pub decimals_before : ℕ → Glyphs → ℕ
decimals_before i gs = suffix_len is_decimal_glyph (take i gs)

abbrev pub decimals_behind : ℕ → Glyphs → ℕ
decimals_behind i gs = prefix_len is_decimal_glyph (drop (i + 1) gs)

abbrev pub goes_forward : Direction → Bool
goes_forward LeftToRight = true
goes_forward TopToBottom = true
goes_forward _ = false

-- numerators stand first where the text goes forward
abbrev pub slash_masks : Direction → DriverMasks → SlashMasks
slash_masks direction m =
    let numerators = bit_or m.numr m.frac in
    let denominators = bit_or m.frac m.dnom in
    if goes_forward direction
    then record { before = numerators; slash = m.frac; behind = denominators }
    else record { before = denominators; slash = m.frac; behind = numerators }

-- a fraction whose slash stands at place i, with so many numbers on both sides: nothing may be
-- broken in it
abbrev pub fraction_marked : SlashMasks → ℕ → ℕ → ℕ → Glyphs → Glyphs
fraction_marked m i before behind gs =
    let whole = unsafe_inside (i - before) (i + 1 + behind) gs in
    let first = with_stretch (i - before) i (map (with_bits m.before)) whole in
    let slash = with_stretch i (i + 1) (map (with_bits m.slash)) first in
    with_stretch (i + 1) (i + 1 + behind) (map (with_bits m.behind)) slash

-- The text with the features of the fraction whose slash stands at place i, if one does. A slash
-- that lacks numbers on one side is flagged: a text that brings them there changes what is on the
-- other.
abbrev pub fraction_around : SlashMasks → Bool → ℕ → Glyphs → Glyphs
fraction_around m concat i gs =
    let before = decimals_before i gs in
    let behind = decimals_behind i gs in
    if not (is_fraction_slash (slice_index_or gs i default_glyph)) then gs
    else if before == 0 || behind == 0 then unsafe_to_concat_in concat i (i + 1) gs
    else fraction_marked m i before behind gs

-- so for each of the first n places
abbrev pub fractions_around : SlashMasks → Bool → ℕ → Glyphs → Glyphs
fractions_around m concat zero gs = gs
fractions_around m concat (suc n) gs =
    fraction_around m concat n (fractions_around m concat n gs)

-- whether the font has features for fractions: of whole ones, or of both halves
abbrev pub has_fractions : DriverMasks → Bool
has_fractions m = not (m.frac == 0) || (not (m.numr == 0) && not (m.dnom == 0))

-- the text with the features of its fractions
abbrev pub fractions_set : DriverMasks → Buffer → Glyphs
fractions_set m b =
    let masks = slash_masks b.direction m in
    if has_fractions m
    then fractions_around masks (asks flags_concat b) (length b.glyphs) b.glyphs
    else b.glyphs
