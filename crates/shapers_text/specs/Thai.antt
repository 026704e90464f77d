-- SARA AM of Thai and Lao in two.
use Rattle.std.specs.Prelude.{ℕ, nat_eq, not, codes, Option, None, Some, ◌-◌, ◌+◌, Bool, ◌||◌, ◌&&◌, ◌==◌, nat_le, nat_lt, bit_and, true, false, List, [], ◌∷◌, ◌++◌, length, map, flat_map, if◌then◌else◌}
use Rattle.std.specs.List.{suffix_len, enumerate_from}
use Rattle.shapers_buffer.specs.declared.buffer.category.hb_unicode_general_category_t.TheVariants.{Mn}
use Rattle.shapers_buffer.specs.Glyphs.{Glyph, Glyphs}
use Rattle.shapers_buffer.specs.declared.buffer.level.BufferClusterLevel.{BufferClusterLevel}
use Rattle.shapers_buffer.specs.declared.buffer.level.BufferClusterLevel.TheVariants.{MonotoneGraphemes}
use Rattle.std.specs.Cmp.Lexicographic.{pointwise}
use Rattle.shapers_buffer.specs.declared.buffer.tag.Script.{Script}
use Rattle.shapers_buffer.specs.Lists.{last_stretch, before_last_stretch, each_after, changed_pieces}
use Rattle.shapers_buffer.specs.Properties.{CONTINUATION, with_general_category, with_property}

-- SARA AM, of Thai and of Lao (Unicode: 0E33 and 0EB3)
abbrev pub is_sara_am : ℕ → Bool
is_sara_am u = u == 0x0E33 || u == 0x0EB3

-- an above-base mark of Thai: MAI HAN-AKAT, SARA I to SARA UEE, 0E3B, MAITAIKHU to YAMAKKAN
-- (OpenType's note on Thai; 0E3B, free in Unicode, stands for Lao's MAI KON)
abbrev pub is_thai_above_base : ℕ → Bool
is_thai_above_base u =
    u == 0x0E31 || (nat_le 0x0E34 u && nat_le u 0x0E37) || u == 0x0E3B
    || (nat_le 0x0E47 u && nat_le u 0x0E4E)

-- an above-base mark: one of Thai, once bit 0x80 is cleared, which leads from Lao to Thai (Unicode)
abbrev pub is_above_base : ℕ → Bool
is_above_base u = is_thai_above_base (bit_and u 0xFFFFFF7F)

-- NIKHAHIT, a continuation of category Mn, and SARA AA out of SARA AM (Unicode's decomposition);
-- both keep its class, which Unicode's SARA AM has none of
abbrev pub nikhahit : Glyph → Glyph
nikhahit am = record am {
  glyph_id = am.glyph_id + 0x1A;
  unicode_props = with_property CONTINUATION (with_general_category Mn am.unicode_props);
}

abbrev pub sara_aa : Glyph → Glyph
sara_aa am = record am { glyph_id = am.glyph_id - 1 }

-- What the rule of SARA AM reads of a text's elements, and makes of them: their character, and the
-- two parts of a SARA AM. So one rule serves glyphs, and characters with their places.
pub record SaraAmRule (X : Type 0) : Type 0 where
  pub character : X → ℕ
  pub nikhahit : X → X
  pub sara_aa : X → X

-- whether it is a SARA AM, whether an above-base mark
abbrev pub is_am : {X : Type 0} → SaraAmRule X → X → Bool
is_am rule = λ x. is_sara_am (rule.character x)

abbrev pub is_above : {X : Type 0} → SaraAmRule X → X → Bool
is_above rule = λ x. is_above_base (rule.character x)

-- `.. W SARA_AM` as `.. NIKHAHIT W SARA_AA`, W the longest sequence of above-base marks (OpenType)
abbrev pub piece_in_two : {X : Type 0} → SaraAmRule X → List X → X → List X
piece_in_two rule text am =
    before_last_stretch (is_above rule) text
    ++ (rule.nikhahit am ∷ (last_stretch (is_above rule) text ++ rule.sara_aa am ∷ []))

-- the text cut after each SARA AM, with each piece that ends with one in two
abbrev pub in_two : {X : Type 0} → SaraAmRule X → List X → List X
in_two rule text = changed_pieces (is_am rule) (piece_in_two rule) text

-- what comes of one element: of a SARA AM its two parts, of another itself
abbrev pub in_parts : {X : Type 0} → SaraAmRule X → X → List X
in_parts rule x = if is_am rule x then rule.nikhahit x ∷ (rule.sara_aa x ∷ []) else x ∷ []

-- the rule on glyphs
abbrev pub glyph_rule : SaraAmRule Glyph
glyph_rule = record { character = λ g. g.glyph_id; nikhahit = nikhahit; sara_aa = sara_aa }

-- the glyphs with each SARA AM in two
abbrev pub glyphs_in_two : Glyphs → Glyphs
glyphs_in_two gs = in_two glyph_rule gs

-- the rule on characters with their places: both parts of a SARA AM keep its place
abbrev pub place_rule : SaraAmRule (ℕ × ℕ)
place_rule = record {
  character = λ p. p.1;
  nikhahit = λ p. (p.0, p.1 + 0x1A);
  sara_aa = λ p. (p.0, p.1 - 1);
}

-- for each glyph of the result the old place that it copies
abbrev pub sara_am_sources : List ℕ → List ℕ
sara_am_sources us = map (λ p. p.0) (in_two place_rule (enumerate_from 0 us))

-- whether a SARA AM without marks joins the glyph before it, as a spacing mark (Unicode's UAX 29)
abbrev pub joins_before : BufferClusterLevel → Bool
joins_before MonotoneGraphemes = true
joins_before _ = false

-- the stretch that a SARA AM at place am merges, with w above-base marks before it
abbrev pub stretch_of_sara_am : BufferClusterLevel → ℕ → ℕ → List (ℕ × ℕ)
stretch_of_sara_am level am w =
    if nat_lt 0 w then (am - w, am + 1) ∷ []
    else if joins_before level && nat_lt 0 am then (am - 1, am + 1) ∷ []
    else []

-- what the character u at a place merges, with w above-base marks before it
abbrev pub stretches_at : BufferClusterLevel → ℕ → ℕ → ℕ → List (ℕ × ℕ)
stretches_at level place u w = if is_sara_am u then stretch_of_sara_am level place w else []

-- the merged stretches of characters, each given with what stands before it; those of a text
abbrev pub stretches_of_each : BufferClusterLevel → List (List ℕ × ℕ) → List (ℕ × ℕ)
stretches_of_each level each =
    flat_map (λ p. stretches_at level (length p.0) p.1 (suffix_len is_above_base p.0)) each

abbrev pub sara_am_stretches : BufferClusterLevel → List ℕ → List (ℕ × ℕ)
sara_am_stretches level us = stretches_of_each level (each_after [] us)

-- whether the plan wants private use forms: the script is Thai, and GSUB doesn't have it
abbrev pub is_thai : Option Script → Bool
is_thai None = false
is_thai (Some s) = pointwise nat_eq s.0 (codes "Thai")

abbrev pub wants_forms : Option Script → Bool → Bool
wants_forms plan_script found = is_thai plan_script && not found
