-- Whether lookups would apply, computed on tables that are written out by OpenType's specification. Each
-- is a GSUB of one lookup; its glyphs are 5, 7 and 9.
use Rattle.std.proofs.Common.{ℕ, zero, suc, ◌-◌, ◌≡◌, true, false, List, [], ◌∷◌, ◌++◌, refl}
use Rattle.std.specs.Prelude.{map}
use Rattle.shapers_base.specs.declared.font.GlyphId.{GlyphId}
use Rattle.opentype_face.specs.Firsts.{first_from}
use Rattle.opentype_face.specs.Ranges.{bisect}
use Rattle.opentype_layout.specs.Rules.{set_in}
use Rattle.opentype_font.specs.WouldApply.{chained_fits, chained_rule_fits, chained_sets_fit, context_fits, ligature_fits, ligatures_fit, lookup_applies, one_fits, rule_count, rule_fits, sets_fit, subtable_applies, would_apply}

abbrev glyphs : List ℕ → List GlyphId
glyphs numbers = map (λ n. record { 0 = n }) numbers

abbrev single : List ℕ
single =
    0 ∷ 1 ∷ 0 ∷ 0 ∷ 0 ∷ 0 ∷ 0 ∷ 0 ∷ 0 ∷ 10 ∷ 0 ∷ 1 ∷ 0 ∷ 4 ∷ 0 ∷ 1 ∷ 0 ∷ 0 ∷ 0 ∷ 1 ∷ 0 ∷ 8 ∷ 0 ∷
    1 ∷ 0 ∷ 6 ∷ 0 ∷ 3 ∷ 0 ∷ 1 ∷ 0 ∷ 1 ∷ 0 ∷ 5 ∷ []

abbrev single_two : List ℕ
single_two =
    0 ∷ 1 ∷ 0 ∷ 0 ∷ 0 ∷ 0 ∷ 0 ∷ 0 ∷ 0 ∷ 10 ∷ 0 ∷ 1 ∷ 0 ∷ 4 ∷ 0 ∷ 1 ∷ 0 ∷ 0 ∷ 0 ∷ 1 ∷ 0 ∷ 8 ∷ 0 ∷
    2 ∷ 0 ∷ 8 ∷ 0 ∷ 1 ∷ 0 ∷ 9 ∷ 0 ∷ 1 ∷ 0 ∷ 1 ∷ 0 ∷ 5 ∷ []

abbrev multiple : List ℕ
multiple =
    0 ∷ 1 ∷ 0 ∷ 0 ∷ 0 ∷ 0 ∷ 0 ∷ 0 ∷ 0 ∷ 10 ∷ 0 ∷ 1 ∷ 0 ∷ 4 ∷ 0 ∷ 2 ∷ 0 ∷ 0 ∷ 0 ∷ 1 ∷ 0 ∷ 8 ∷ 0 ∷
    1 ∷ 0 ∷ 8 ∷ 0 ∷ 1 ∷ 0 ∷ 0 ∷ 0 ∷ 1 ∷ 0 ∷ 1 ∷ 0 ∷ 5 ∷ []

abbrev reverse : List ℕ
reverse =
    0 ∷ 1 ∷ 0 ∷ 0 ∷ 0 ∷ 0 ∷ 0 ∷ 0 ∷ 0 ∷ 10 ∷ 0 ∷ 1 ∷ 0 ∷ 4 ∷ 0 ∷ 8 ∷ 0 ∷ 0 ∷ 0 ∷ 1 ∷ 0 ∷ 8 ∷ 0 ∷
    1 ∷ 0 ∷ 4 ∷ 0 ∷ 1 ∷ 0 ∷ 1 ∷ 0 ∷ 5 ∷ []

abbrev ligature : List ℕ
ligature =
    0 ∷ 1 ∷ 0 ∷ 0 ∷ 0 ∷ 0 ∷ 0 ∷ 0 ∷ 0 ∷ 10 ∷ 0 ∷ 1 ∷ 0 ∷ 4 ∷ 0 ∷ 4 ∷ 0 ∷ 0 ∷ 0 ∷ 1 ∷ 0 ∷ 8 ∷ 0 ∷
    1 ∷ 0 ∷ 8 ∷ 0 ∷ 1 ∷ 0 ∷ 14 ∷ 0 ∷ 1 ∷ 0 ∷ 1 ∷ 0 ∷ 5 ∷ 0 ∷ 1 ∷ 0 ∷ 4 ∷ 0 ∷ 9 ∷ 0 ∷ 2 ∷ 0 ∷ 7 ∷ []

abbrev context_glyphs : List ℕ
context_glyphs =
    0 ∷ 1 ∷ 0 ∷ 0 ∷ 0 ∷ 0 ∷ 0 ∷ 0 ∷ 0 ∷ 10 ∷ 0 ∷ 1 ∷ 0 ∷ 4 ∷ 0 ∷ 5 ∷ 0 ∷ 0 ∷ 0 ∷ 1 ∷ 0 ∷ 8 ∷ 0 ∷
    1 ∷ 0 ∷ 8 ∷ 0 ∷ 1 ∷ 0 ∷ 14 ∷ 0 ∷ 1 ∷ 0 ∷ 1 ∷ 0 ∷ 5 ∷ 0 ∷ 1 ∷ 0 ∷ 4 ∷ 0 ∷ 2 ∷ 0 ∷ 0 ∷ 0 ∷ 7 ∷ []

abbrev context_classes : List ℕ
context_classes =
    0 ∷ 1 ∷ 0 ∷ 0 ∷ 0 ∷ 0 ∷ 0 ∷ 0 ∷ 0 ∷ 10 ∷ 0 ∷ 1 ∷ 0 ∷ 4 ∷ 0 ∷ 5 ∷ 0 ∷ 0 ∷ 0 ∷ 1 ∷ 0 ∷ 8 ∷ 0 ∷
    2 ∷ 0 ∷ 12 ∷ 0 ∷ 18 ∷ 0 ∷ 2 ∷ 0 ∷ 0 ∷ 0 ∷ 30 ∷ 0 ∷ 1 ∷ 0 ∷ 1 ∷ 0 ∷ 5 ∷ 0 ∷ 1 ∷ 0 ∷ 5 ∷ 0 ∷ 3 ∷
    0 ∷ 1 ∷ 0 ∷ 0 ∷ 0 ∷ 2 ∷ 0 ∷ 1 ∷ 0 ∷ 4 ∷ 0 ∷ 2 ∷ 0 ∷ 0 ∷ 0 ∷ 2 ∷ []

abbrev context_sets : List ℕ
context_sets =
    0 ∷ 1 ∷ 0 ∷ 0 ∷ 0 ∷ 0 ∷ 0 ∷ 0 ∷ 0 ∷ 10 ∷ 0 ∷ 1 ∷ 0 ∷ 4 ∷ 0 ∷ 5 ∷ 0 ∷ 0 ∷ 0 ∷ 1 ∷ 0 ∷ 8 ∷ 0 ∷
    3 ∷ 0 ∷ 2 ∷ 0 ∷ 0 ∷ 0 ∷ 10 ∷ 0 ∷ 16 ∷ 0 ∷ 1 ∷ 0 ∷ 1 ∷ 0 ∷ 5 ∷ 0 ∷ 1 ∷ 0 ∷ 1 ∷ 0 ∷ 7 ∷ []

abbrev chained_glyphs : List ℕ
chained_glyphs =
    0 ∷ 1 ∷ 0 ∷ 0 ∷ 0 ∷ 0 ∷ 0 ∷ 0 ∷ 0 ∷ 10 ∷ 0 ∷ 1 ∷ 0 ∷ 4 ∷ 0 ∷ 6 ∷ 0 ∷ 0 ∷ 0 ∷ 1 ∷ 0 ∷ 8 ∷ 0 ∷
    1 ∷ 0 ∷ 8 ∷ 0 ∷ 1 ∷ 0 ∷ 14 ∷ 0 ∷ 1 ∷ 0 ∷ 1 ∷ 0 ∷ 5 ∷ 0 ∷ 2 ∷ 0 ∷ 6 ∷ 0 ∷ 20 ∷ 0 ∷ 1 ∷ 0 ∷ 3 ∷
    0 ∷ 2 ∷ 0 ∷ 7 ∷ 0 ∷ 0 ∷ 0 ∷ 0 ∷ 0 ∷ 0 ∷ 0 ∷ 0 ∷ 0 ∷ 1 ∷ 0 ∷ 0 ∷ 0 ∷ 0 ∷ []

abbrev chained_classes : List ℕ
chained_classes =
    0 ∷ 1 ∷ 0 ∷ 0 ∷ 0 ∷ 0 ∷ 0 ∷ 0 ∷ 0 ∷ 10 ∷ 0 ∷ 1 ∷ 0 ∷ 4 ∷ 0 ∷ 6 ∷ 0 ∷ 0 ∷ 0 ∷ 1 ∷ 0 ∷ 8 ∷ 0 ∷
    2 ∷ 0 ∷ 16 ∷ 0 ∷ 0 ∷ 0 ∷ 22 ∷ 0 ∷ 0 ∷ 0 ∷ 2 ∷ 0 ∷ 0 ∷ 0 ∷ 34 ∷ 0 ∷ 1 ∷ 0 ∷ 1 ∷ 0 ∷ 5 ∷ 0 ∷ 1 ∷
    0 ∷ 5 ∷ 0 ∷ 3 ∷ 0 ∷ 1 ∷ 0 ∷ 0 ∷ 0 ∷ 2 ∷ 0 ∷ 1 ∷ 0 ∷ 4 ∷ 0 ∷ 0 ∷ 0 ∷ 2 ∷ 0 ∷ 2 ∷ 0 ∷ 1 ∷ 0 ∷
    4 ∷ 0 ∷ 0 ∷ []

abbrev chained_sets : List ℕ
chained_sets =
    0 ∷ 1 ∷ 0 ∷ 0 ∷ 0 ∷ 0 ∷ 0 ∷ 0 ∷ 0 ∷ 10 ∷ 0 ∷ 1 ∷ 0 ∷ 4 ∷ 0 ∷ 6 ∷ 0 ∷ 0 ∷ 0 ∷ 1 ∷ 0 ∷ 8 ∷ 0 ∷
    3 ∷ 0 ∷ 0 ∷ 0 ∷ 2 ∷ 0 ∷ 16 ∷ 0 ∷ 22 ∷ 0 ∷ 1 ∷ 0 ∷ 28 ∷ 0 ∷ 0 ∷ 0 ∷ 1 ∷ 0 ∷ 1 ∷ 0 ∷ 5 ∷ 0 ∷ 1 ∷
    0 ∷ 1 ∷ 0 ∷ 7 ∷ 0 ∷ 1 ∷ 0 ∷ 1 ∷ 0 ∷ 9 ∷ []

-- one glyph of the set
single_0 : would_apply single 0 (glyphs (5 ∷ [])) false ≡ true
unfolding bisect set_in subtable_applies one_fits ligatures_fit ligature_fits context_fits sets_fit rule_fits chained_fits chained_rule_fits chained_sets_fit first_from
single_0 = refl

-- a glyph that is not in the set
single_1 : would_apply single 0 (glyphs (6 ∷ [])) false ≡ false
unfolding bisect set_in subtable_applies one_fits ligatures_fit ligature_fits context_fits sets_fit rule_fits chained_fits chained_rule_fits chained_sets_fit first_from
single_1 = refl

-- two glyphs
single_2 : would_apply single 0 (glyphs (5 ∷ 7 ∷ [])) false ≡ false
unfolding bisect set_in subtable_applies one_fits ligatures_fit ligature_fits context_fits sets_fit rule_fits chained_fits chained_rule_fits chained_sets_fit first_from
single_2 = refl

-- no glyph
single_3 : would_apply single 0 (glyphs []) false ≡ false
unfolding bisect set_in subtable_applies one_fits ligatures_fit ligature_fits context_fits sets_fit rule_fits chained_fits chained_rule_fits chained_sets_fit first_from
single_3 = refl

-- a lookup that the table lacks
single_4 : would_apply single 1 (glyphs (5 ∷ [])) false ≡ false
unfolding bisect set_in subtable_applies one_fits ligatures_fit ligature_fits context_fits sets_fit rule_fits chained_fits chained_rule_fits chained_sets_fit first_from
single_4 = refl

-- format 2
single_two_5 : would_apply single_two 0 (glyphs (5 ∷ [])) false ≡ true
unfolding bisect set_in subtable_applies one_fits ligatures_fit ligature_fits context_fits sets_fit rule_fits chained_fits chained_rule_fits chained_sets_fit first_from
single_two_5 = refl

-- type 2
multiple_6 : would_apply multiple 0 (glyphs (5 ∷ [])) false ≡ true
unfolding bisect set_in subtable_applies one_fits ligatures_fit ligature_fits context_fits sets_fit rule_fits chained_fits chained_rule_fits chained_sets_fit first_from
multiple_6 = refl

-- type 8
reverse_7 : would_apply reverse 0 (glyphs (5 ∷ [])) false ≡ true
unfolding bisect set_in subtable_applies one_fits ligatures_fit ligature_fits context_fits sets_fit rule_fits chained_fits chained_rule_fits chained_sets_fit first_from
reverse_7 = refl

-- the ligature of 5 and 7
ligature_8 : would_apply ligature 0 (glyphs (5 ∷ 7 ∷ [])) false ≡ true
unfolding bisect set_in subtable_applies one_fits ligatures_fit ligature_fits context_fits sets_fit rule_fits chained_fits chained_rule_fits chained_sets_fit first_from
ligature_8 = refl

-- its first glyph alone
ligature_9 : would_apply ligature 0 (glyphs (5 ∷ [])) false ≡ false
unfolding bisect set_in subtable_applies one_fits ligatures_fit ligature_fits context_fits sets_fit rule_fits chained_fits chained_rule_fits chained_sets_fit first_from
ligature_9 = refl

-- another second glyph
ligature_10 : would_apply ligature 0 (glyphs (5 ∷ 8 ∷ [])) false ≡ false
unfolding bisect set_in subtable_applies one_fits ligatures_fit ligature_fits context_fits sets_fit rule_fits chained_fits chained_rule_fits chained_sets_fit first_from
ligature_10 = refl

-- one glyph more
ligature_11 : would_apply ligature 0 (glyphs (5 ∷ 7 ∷ 7 ∷ [])) false ≡ false
unfolding bisect set_in subtable_applies one_fits ligatures_fit ligature_fits context_fits sets_fit rule_fits chained_fits chained_rule_fits chained_sets_fit first_from
ligature_11 = refl

-- another first glyph
ligature_12 : would_apply ligature 0 (glyphs (6 ∷ 7 ∷ [])) false ≡ false
unfolding bisect set_in subtable_applies one_fits ligatures_fit ligature_fits context_fits sets_fit rule_fits chained_fits chained_rule_fits chained_sets_fit first_from
ligature_12 = refl

-- a context by glyphs
context_glyphs_13 : would_apply context_glyphs 0 (glyphs (5 ∷ 7 ∷ [])) true ≡ true
unfolding bisect set_in subtable_applies one_fits ligatures_fit ligature_fits context_fits sets_fit rule_fits chained_fits chained_rule_fits chained_sets_fit first_from
context_glyphs_13 = refl

-- another glyph
context_glyphs_14 : would_apply context_glyphs 0 (glyphs (5 ∷ 8 ∷ [])) false ≡ false
unfolding bisect set_in subtable_applies one_fits ligatures_fit ligature_fits context_fits sets_fit rule_fits chained_fits chained_rule_fits chained_sets_fit first_from
context_glyphs_14 = refl

-- a context by classes: 7 is of class 2
context_classes_15 : would_apply context_classes 0 (glyphs (5 ∷ 7 ∷ [])) true ≡ true
unfolding bisect set_in subtable_applies one_fits ligatures_fit ligature_fits context_fits sets_fit rule_fits chained_fits chained_rule_fits chained_sets_fit first_from
context_classes_15 = refl

-- 6 is of class 0
context_classes_16 : would_apply context_classes 0 (glyphs (5 ∷ 6 ∷ [])) false ≡ false
unfolding bisect set_in subtable_applies one_fits ligatures_fit ligature_fits context_fits sets_fit rule_fits chained_fits chained_rule_fits chained_sets_fit first_from
context_classes_16 = refl

-- a context by sets
context_sets_17 : would_apply context_sets 0 (glyphs (5 ∷ 7 ∷ [])) true ≡ true
unfolding bisect set_in subtable_applies one_fits ligatures_fit ligature_fits context_fits sets_fit rule_fits chained_fits chained_rule_fits chained_sets_fit first_from
context_sets_17 = refl

-- the sets the other way round
context_sets_18 : would_apply context_sets 0 (glyphs (7 ∷ 5 ∷ [])) false ≡ false
unfolding bisect set_in subtable_applies one_fits ligatures_fit ligature_fits context_fits sets_fit rule_fits chained_fits chained_rule_fits chained_sets_fit first_from
context_sets_18 = refl

-- a rule with a glyph before
chained_glyphs_19 : would_apply chained_glyphs 0 (glyphs (5 ∷ 7 ∷ [])) false ≡ true
unfolding bisect set_in subtable_applies one_fits ligatures_fit ligature_fits context_fits sets_fit rule_fits chained_fits chained_rule_fits chained_sets_fit first_from
chained_glyphs_19 = refl

-- which is barred without context
chained_glyphs_20 : would_apply chained_glyphs 0 (glyphs (5 ∷ 7 ∷ [])) true ≡ false
unfolding bisect set_in subtable_applies one_fits ligatures_fit ligature_fits context_fits sets_fit rule_fits chained_fits chained_rule_fits chained_sets_fit first_from
chained_glyphs_20 = refl

-- the next rule has no context
chained_glyphs_21 : would_apply chained_glyphs 0 (glyphs (5 ∷ [])) true ≡ true
unfolding bisect set_in subtable_applies one_fits ligatures_fit ligature_fits context_fits sets_fit rule_fits chained_fits chained_rule_fits chained_sets_fit first_from
chained_glyphs_21 = refl

-- a rule with a glyph behind
chained_classes_22 : would_apply chained_classes 0 (glyphs (5 ∷ 7 ∷ [])) false ≡ true
unfolding bisect set_in subtable_applies one_fits ligatures_fit ligature_fits context_fits sets_fit rule_fits chained_fits chained_rule_fits chained_sets_fit first_from
chained_classes_22 = refl

-- which is barred without context
chained_classes_23 : would_apply chained_classes 0 (glyphs (5 ∷ 7 ∷ [])) true ≡ false
unfolding bisect set_in subtable_applies one_fits ligatures_fit ligature_fits context_fits sets_fit rule_fits chained_fits chained_rule_fits chained_sets_fit first_from
chained_classes_23 = refl

-- sets, with one behind
chained_sets_24 : would_apply chained_sets 0 (glyphs (5 ∷ 7 ∷ [])) false ≡ true
unfolding bisect set_in subtable_applies one_fits ligatures_fit ligature_fits context_fits sets_fit rule_fits chained_fits chained_rule_fits chained_sets_fit first_from
chained_sets_24 = refl

-- which is barred without context
chained_sets_25 : would_apply chained_sets 0 (glyphs (5 ∷ 7 ∷ [])) true ≡ false
unfolding bisect set_in subtable_applies one_fits ligatures_fit ligature_fits context_fits sets_fit rule_fits chained_fits chained_rule_fits chained_sets_fit first_from
chained_sets_25 = refl

-- too few glyphs
chained_sets_26 : would_apply chained_sets 0 (glyphs (5 ∷ [])) false ≡ false
unfolding bisect set_in subtable_applies one_fits ligatures_fit ligature_fits context_fits sets_fit rule_fits chained_fits chained_rule_fits chained_sets_fit first_from
chained_sets_26 = refl

-- ---- how much is asked at most

-- of 257 rules the last isn't asked
rules_257 : rule_count (1 ∷ 1 ∷ []) ≡ 256
rules_257 = refl

rules_256 : rule_count (1 ∷ 0 ∷ []) ≡ 256
rules_256 = refl

rules_255 : rule_count (0 ∷ 255 ∷ []) ≡ 255
rules_255 = refl

unfoldable times : ℕ → List ℕ → List ℕ
times zero bytes = []
times (suc n) bytes = bytes ++ times n bytes

-- a lookup of so many subtables, of which one applies to glyph 5: the one behind so many that aren't there
abbrev subtables : ℕ → ℕ → ℕ → List ℕ
subtables high low before = (0 ∷ 1 ∷ 0 ∷ 0 ∷ high ∷ low ∷ []) ++ times before (0 ∷ 0 ∷ [])
    ++ (2 ∷ 8 ∷ []) ++ times (256 - before) (0 ∷ 0 ∷ [])
    ++ (0 ∷ 1 ∷ 0 ∷ 6 ∷ 0 ∷ 3 ∷ 0 ∷ 1 ∷ 0 ∷ 1 ∷ 0 ∷ 5 ∷ [])

subtables_257 : lookup_applies (subtables 1 1 256) (glyphs (5 ∷ [])) false ≡ false
unfolding bisect set_in subtable_applies one_fits ligatures_fit ligature_fits context_fits sets_fit rule_fits chained_fits chained_rule_fits chained_sets_fit first_from times
subtables_257 = refl

subtables_256 : lookup_applies (subtables 1 0 255) (glyphs (5 ∷ [])) false ≡ true
unfolding bisect set_in subtable_applies one_fits ligatures_fit ligature_fits context_fits sets_fit rule_fits chained_fits chained_rule_fits chained_sets_fit first_from times
subtables_256 = refl
