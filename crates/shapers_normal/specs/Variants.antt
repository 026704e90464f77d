-- Variation selectors: what becomes of a character and the selectors behind it.
use Rattle.std.specs.Prelude.{ℕ, ◌+◌, ◌-◌, nat_lt, Bool, false, not, ◌&&◌, ◌||◌, List, [], ◌∷◌, fold, length, map, is_some, if◌then◌else◌}
use Rattle.std.specs.List.{flat_map, list_any, range_with_len}
use Rattle.std.specs.Option.{option_map_or}
use Rattle.shapers_base.specs.declared.font.GlyphId.{GlyphId}
use Rattle.shapers_buffer.specs.declared.buffer.category.hb_unicode_general_category_t.TheVariants.{Cf}
use Rattle.shapers_buffer.specs.Glyphs.{Glyph, Glyphs}
use Rattle.shapers_buffer.specs.declared.buffer.level.BufferClusterLevel.{BufferClusterLevel}
use Rattle.shapers_buffer.specs.Properties.{IGNORABLE, set_property, with_general_category, with_high_byte}
use Rattle.shapers_normal.specs.Context.{Context}
use Rattle.shapers_normal.specs.Properties.{is_from_to, numbered_as}
use Rattle.shapers_normal.specs.Recomposition.{glyph_at}
use Rattle.shapers_normal.specs.Sorting.{is_mark_glyph, stay_together}

-- these groups, and a glyph before them: in the first of them, if what opens that follows a glyph
abbrev pub with_first : (Glyph → Bool) → Glyph → List Glyphs →
    List Glyphs
with_first follows g ((h ∷ group) ∷ groups) =
    if follows h then (g ∷ h ∷ group) ∷ groups else (g ∷ []) ∷ (h ∷ group) ∷ groups
with_first follows g groups = (g ∷ []) ∷ groups

-- the glyphs cut before each that doesn't follow another
abbrev pub cut_before_others : (Glyph → Bool) → Glyphs →
    List Glyphs
cut_before_others follows [] = []
cut_before_others follows (g ∷ gs) = with_first follows g (cut_before_others follows gs)

-- whether a character selects a form of the one before it
abbrev pub selects_form : ℕ → Bool
selects_form c = is_from_to 0xFE00 0xFE0F c || is_from_to 0xE0100 0xE01EF c

abbrev pub is_selector_glyph : Glyph → Bool
is_selector_glyph g = selects_form g.glyph_id

-- whether a cluster is kept as it is: it has several glyphs, and one of them is a selector
abbrev pub is_kept_cluster : Glyphs → Bool
is_kept_cluster (g ∷ []) = false
is_kept_cluster cluster = list_any is_selector_glyph cluster

-- a glyph with the number of its character's glyph, if the font has one
abbrev pub with_number : Context → Glyph → Glyph
with_number context g = option_map_or
    (λ (glyph : GlyphId). numbered_as glyph.0 g)
    (context.nominal g.glyph_id) g

-- A selector that selects nothing: a format character from here on, by whose high byte HarfBuzz
-- knows it again. It isn't ignorable if the caller has a glyph for such selectors.
abbrev pub selecting_nothing : Context → Glyph → Glyph
selecting_nothing context g =
    let selector = with_high_byte 4 (with_general_category Cf g.unicode_props) in
    let drawn = set_property IGNORABLE false selector in
    record g { unicode_props = if context.draws_selectors then drawn else selector }

-- A character and the selectors behind it. Where the font has the form that the first of them
-- selects, its glyph stands for both, and else both stay; further selectors stay.
abbrev pub form_written : Context → Glyphs → Glyphs
form_written context (g ∷ (selector ∷ more)) = option_map_or
    (λ (variant : GlyphId). numbered_as variant.0 g ∷ map (with_number context) more)
    (context.variant g.glyph_id selector.glyph_id)
    (with_number context g ∷ with_number context (selecting_nothing context selector)
    ∷ map (with_number context) more)
form_written context gs = map (with_number context) gs

-- a cluster that is kept
abbrev pub forms_written : Context → Glyphs → Glyphs
forms_written context cluster =
    flat_map (form_written context) (cut_before_others is_selector_glyph cluster)

-- whether a glyph carries on the cluster of marks before it, as a selector
abbrev pub is_selector_behind : Glyphs → ℕ → Bool
is_selector_behind gs i =
    nat_lt 0 i && is_mark_glyph (glyph_at gs i) && is_selector_glyph (glyph_at gs i)

-- whether one glyph stands for the glyph at a place and the selector behind it
abbrev pub has_variant_at : Context → Glyphs → ℕ → Bool
has_variant_at context gs i =
    is_mark_glyph (glyph_at gs (i + 1)) && is_selector_glyph (glyph_at gs (i + 1))
    && not (is_selector_behind gs i)
    && is_some (context.variant (glyph_at gs i).glyph_id (glyph_at gs (i + 1)).glyph_id)

-- the two together, if that is so
abbrev pub variant_joined : Context → BufferClusterLevel → Glyphs → ℕ →
    Glyphs
variant_joined context level gs i =
    if has_variant_at context gs i then stay_together level i (i + 2) gs else gs

-- the text with each such character and its selector in one cluster
abbrev pub variants_joined : Context → BufferClusterLevel → Glyphs →
    Glyphs
variants_joined context level gs =
    fold (λ gs i. variant_joined context level gs i) gs (range_with_len 0 (length gs - 1))
