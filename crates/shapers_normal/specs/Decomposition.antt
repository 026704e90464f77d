-- The first round: characters come apart, as far as the font has the parts, and get their glyphs.
use Rattle.std.specs.Prelude.{ℕ, zero, suc, ◌==◌, Bool, true, false, not, ◌&&◌, ◌||◌, List, [], ◌∷◌, ◌++◌, find, length, map, reverse, Option, None, Some, option_map, if◌then◌else◌}
use Rattle.std.specs.List.{flat_map, list_all, list_any}
use Rattle.std.specs.Option.{option_map_or, option_or}
use Rattle.shapers_base.specs.declared.font.GlyphId.{GlyphId}
use Rattle.shapers_base.specs.declared.plan.record.NormalizationMode.{NormalizationMode}
use Rattle.shapers_base.specs.declared.plan.record.NormalizationMode.TheVariants as modes
use Rattle.shapers_buffer.specs.declared.buffer.category.hb_unicode_general_category_t.{hb_unicode_general_category_t}
use Rattle.shapers_buffer.specs.declared.buffer.category.hb_unicode_general_category_t.TheVariants.{Zs}
use Rattle.shapers_buffer.specs.Glyphs.{Glyph, Glyphs}
use Rattle.shapers_buffer.specs.declared.buffer.level.BufferClusterLevel.{BufferClusterLevel}
use Rattle.shapers_buffer.specs.Properties.{general_category, with_high_byte}
use Rattle.shapers_normal.specs.Context.{Context, has_glyph}
use Rattle.shapers_normal.specs.Properties.{as_character, numbered_as}
use Rattle.shapers_normal.specs.Sorting.{is_mark_glyph}
use Rattle.shapers_normal.specs.declared.ot_shape_normalize.decomposing.Way.{Way}
use Rattle.shapers_normal.specs.declared.ot_shape_normalize.decomposing.Way.TheVariants.{Short, Whole}
use Rattle.shapers_normal.specs.Variants.{cut_before_others, forms_written, is_kept_cluster, is_selector_glyph, variants_joined}

-- what came off behind a base: nothing, where a character comes apart into one
abbrev pub come_off : ℕ → List ℕ
come_off b = if b == 0 then [] else b ∷ []

-- a base, with what came off it, and then something more came off behind
abbrev pub then_off : ℕ → ℕ × List ℕ → ℕ × List ℕ
then_off b step = (step.0, step.1 ++ come_off b)

-- Step by step a character comes apart into a base and what is behind it, as long as the font has
-- what comes off: after each step the base, with all that has come off.
abbrev pub steps_apart : Context → ℕ → ℕ → List (ℕ × List ℕ)
steps_apart context zero c = []
steps_apart context (suc n) c = option_map_or (λ p.
    if p.1 == 0 || has_glyph context p.1
    then (p.0, come_off p.1) ∷ map (then_off p.1) (steps_apart context n p.0) else [])
    (context.decomposed c) []

-- no canonical decomposition takes more steps than this (Unicode's longest takes three)
abbrev pub max_steps : ℕ
max_steps = 8

-- a step's characters, none where there is no step
abbrev pub step_characters : Option (ℕ × List ℕ) → List ℕ
step_characters None = []
step_characters (Some step) = step.0 ∷ step.1

-- the steps in the order in which they are preferred: the short way the first one, else the last
abbrev pub preferred : Bool → List (ℕ × List ℕ) → List (ℕ × List ℕ)
preferred short steps = if short then steps else reverse steps

-- What a character comes apart into in so many steps: the preferred one of those whose base the
-- font has; nothing, where there is none.
abbrev pub apart_in : Context → Bool → ℕ → ℕ → List ℕ
apart_in context short n c = step_characters
    (find (λ step. has_glyph context step.0) (preferred short (steps_apart context n c)))

-- what a character becomes, one way or the other; nothing, where it stays
abbrev pub image : Context → Way → ℕ → List ℕ
image context Short c = if has_glyph context c then [] else apart_in context true max_steps c
image context Whole c = apart_in context false max_steps c

-- the number of a character's glyph, 0 where the font has none
abbrev pub glyph_number : Context → ℕ → ℕ
glyph_number context c = option_map_or (λ (glyph : GlyphId). glyph.0) (context.nominal c) 0

-- the spaces that stand for another width of space, by HarfBuzz's numbers of these widths
abbrev pub spaces : List (ℕ × ℕ)
spaces =
    (0x0020, 18) ∷ (0x00A0, 18) ∷ (0x2000, 2) ∷ (0x2001, 1) ∷ (0x2002, 2) ∷ (0x2003, 1)
    ∷ (0x2004, 3) ∷ (0x2005, 4) ∷ (0x2006, 6) ∷ (0x2007, 19) ∷ (0x2008, 20) ∷ (0x2009, 5)
    ∷ (0x200A, 16) ∷ (0x202F, 21) ∷ (0x205F, 17) ∷ (0x3000, 1) ∷ []

abbrev pub space_kind : ℕ → Option ℕ
space_kind c = option_map (λ p. p.1) (find (λ p. p.0 == c) spaces)

abbrev pub is_space_separator : hb_unicode_general_category_t → Bool
is_space_separator Zs = true
is_space_separator _ = false

abbrev pub kind_with_glyph : Option ℕ → Option GlyphId → Option (ℕ × GlyphId)
kind_with_glyph None glyph = None
kind_with_glyph (Some kind) glyph = option_map (λ glyph. (kind, glyph)) glyph

-- the width that a space stands for, and the glyph that is drawn for it: that of the common space,
-- or else the one for what isn't drawn
abbrev pub drawn_space : Context → Glyph → Option (ℕ × GlyphId)
drawn_space context g =
    if is_space_separator (general_category g.unicode_props)
    then kind_with_glyph (space_kind g.glyph_id)
    (option_or (context.nominal 0x20) context.invisible)
    else None

-- a space that stands for a width
abbrev pub as_space : ℕ → Glyph → Glyph
as_space kind g = record g { unicode_props = with_high_byte kind g.unicode_props }

-- a character that the font lacks and that doesn't come apart: a space as another one, a hyphen
-- that doesn't break as one that does, and else the missing glyph
abbrev pub without_glyph : Context → Glyph → Glyph
without_glyph context g = option_map_or
    (λ space. as_space space.0 (numbered_as space.1.0 g))
    (drawn_space context g)
    (numbered_as (if g.glyph_id == 0x2011 then glyph_number context 0x2010 else 0) g)

-- a character that stays, with its glyph
abbrev pub with_own_glyph : Context → Glyph → Glyph
with_own_glyph context g = option_map_or
    (λ (glyph : GlyphId). numbered_as glyph.0 g)
    (context.nominal g.glyph_id) (without_glyph context g)

-- a glyph as a part of its character; what it becomes, one way or the other: its own character, or
-- those of its image
abbrev pub as_part : Context → Glyph → ℕ → Glyph
as_part context g c = as_character context c (glyph_number context c) g

abbrev pub written_as : Context → Glyph → List ℕ → Glyphs
written_as context g [] = with_own_glyph context g ∷ []
written_as context g (c ∷ cs) = map (as_part context g) (c ∷ cs)

abbrev pub becomes : Context → Way → Glyph → Glyphs
becomes context way g = written_as context g (image context way g.glyph_id)

-- the text cut before each glyph that is no mark
abbrev pub mark_clusters : Glyphs → List Glyphs
mark_clusters gs = cut_before_others is_mark_glyph gs

abbrev pub is_short_alone : NormalizationMode → Bool
is_short_alone modes.CD = false
is_short_alone _ = true

abbrev pub is_short_with_marks : NormalizationMode → Bool
is_short_with_marks modes.NONE = true
is_short_with_marks _ = false

-- How a cluster comes apart. A character alone stays if the font has it, unless the shaper wants
-- letters and marks apart; one with marks comes apart, unless the shaper wants no normalization.
abbrev pub apart_way : Context → Glyphs → Way
apart_way context (g ∷ []) = if is_short_alone context.mode then Short else Whole
apart_way context cluster = if is_short_with_marks context.mode then Short else Whole

-- a cluster with a selector is kept
abbrev pub cluster_becomes : Context → Glyphs → Glyphs
cluster_becomes context cluster =
    if is_kept_cluster cluster then forms_written context cluster
    else flat_map (becomes context (apart_way context cluster)) cluster

-- the text taken apart
abbrev pub text_decomposed : Context → Glyphs → Glyphs
text_decomposed context gs = flat_map (cluster_becomes context) (mark_clusters gs)

-- the first round: a character and its selector come into one cluster, if one glyph stands for both
abbrev pub first_round : Context → BufferClusterLevel → Glyphs → Glyphs
first_round context level gs = text_decomposed context (variants_joined context level gs)

-- whether a text gets its glyphs and nothing else: no glyph is a mark, the font has each character,
-- and the shaper leaves letters whole
abbrev pub stays_alone : Context → Glyph → Bool
stays_alone context g = not (is_mark_glyph g) && has_glyph context g.glyph_id

abbrev pub is_whole : Context → Glyphs → Bool
is_whole context gs = is_short_alone context.mode && list_all (stays_alone context) gs

-- whether nothing comes apart: no glyph is a selector, and each character stays, as its cluster has
-- it
abbrev pub cluster_stays : Context → Glyphs → Bool
cluster_stays context cluster =
    list_all (λ g. length (image context (apart_way context cluster) g.glyph_id) == 0) cluster

abbrev pub stays_together : Context → Glyphs → Bool
stays_together context gs =
    not (list_any is_selector_glyph gs) && list_all (cluster_stays context) (mark_clusters gs)
