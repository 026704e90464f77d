-- Positions by the font, computed.
use Prim.Native.String.{String}
use Rattle.std.specs.Prelude.{◌≡◌, ℕ, ◌+◌, ◌==◌, ◌&&◌, nat_eq, pos, Bool, true, false, List, [], ◌∷◌, map, Option, None, Some, codes, refl, if◌then◌else◌}
use Rattle.std.specs.List.{list_any, range_with_len}
use Rattle.std.specs.Cmp.Lexicographic.{pointwise}
use Rattle.shapers_buffer.specs.Glyphs.{Glyph, Glyphs}
use Rattle.shapers_buffer.specs.declared.buffer.tag.hb_tag_t.{hb_tag_t}
use Rattle.shapers_base.specs.declared.font.GlyphId.{GlyphId}
use Rattle.shapers_base.specs.declared.map.feature_map_t.{feature_map_t}
use Rattle.shapers_base.specs.Font.{Font}
use Rattle.shapers_base.specs.Map.{Map}
use Rattle.shapers_indic.proofs.RowWords.{row_positions, script}
use Rattle.shapers_buffer.specs.Glyph.{default_glyph}
use Rattle.shapers_indic_initial.specs.InitialFont.{positions_by_font}
use Rattle.shapers_indic.specs.Glyphs.{number}
use Rattle.shapers_base.specs.declared.plan.indic.BaseSearch.TheVariants.{WithoutMedials}
use Rattle.shapers_base.specs.declared.plan.indic.ZeroContext.TheVariants.{OldSpec}
use Rattle.shapers_indic.specs.Plan.{indic_plan}

abbrev feature : String → ℕ → feature_map_t
feature tag stage = record { tag = record { 0 = codes tag }; mask = 8; stage = stage }

-- a stage of one lookup for each: blwf 10, pstf 11, pref 12, vatu 13, rphf 14
abbrev small : Option hb_tag_t → Map
small chosen = record {
  features = feature "blwf" 0 ∷ feature "pstf" 1 ∷ feature "pref" 2 ∷ feature "vatu" 3 ∷ feature "rphf" 4 ∷ [];
  stages = map (λ i. record { start = i; end = i + 1 }) (range_with_len 0 5);
  lookups =
      10 ∷ 11 ∷ 12 ∷ 13 ∷ 14 ∷ [];
  global = 0;
  chosen = chosen;
  found = true;
}

-- glyph 100 for the virama of Devanagari, and the glyphs that the lookups apply to
abbrev applying : List (ℕ × List ℕ)
applying = (10, 100 ∷ 1 ∷ []) ∷ (10, 2 ∷ 100 ∷ []) ∷ (13, 100 ∷ 3 ∷ []) ∷ (13, 4 ∷ 100 ∷ []) ∷ (11, 100 ∷ 5 ∷ [])
    ∷ (12, 6 ∷ 100 ∷ []) ∷ (11, 7 ∷ 100 ∷ []) ∷ (12, 100 ∷ 8 ∷ []) ∷ (10, 100 ∷ 9 ∷ []) ∷ (11, 100 ∷ 9 ∷ [])
    ∷ (14, 100 ∷ 10 ∷ []) ∷ (10, 100 ∷ 11 ∷ 100 ∷ []) ∷ []

abbrev applies : ℕ → List GlyphId → Bool → Bool
applies lookup ids zero = list_any (λ t. t.0 == lookup && pointwise nat_eq t.1 (map (λ g. g.0) ids)) applying

abbrev font_with : (ℕ → Option GlyphId) → (ℕ → List GlyphId → Bool → Bool) → Font
font_with nominal applies = record { nominal = nominal; advance = λ _. pos 0; applies = applies; offers = λ _. false }

abbrev virama_alone : ℕ → Option GlyphId
virama_alone c = if c == 0x094D then Some (record { 0 = 100 }) else None

abbrev all_characters : ℕ → Option GlyphId
all_characters c = Some (record { 0 = 100 })

-- glyphs 1 to 11 of a position
abbrev glyphs : ℕ → Glyphs
glyphs p = map (λ i. let g : Glyph = record default_glyph { glyph_id = i; auxiliary = p } in g) (range_with_len 1 11)

-- below by blwf or vatu, in either order of virama and consonant; else post-base by pstf or pref; else as it was
by_font : row_positions (positions_by_font (font_with virama_alone applies) (small None)
    (indic_plan WithoutMedials OldSpec (script "Deva") (small None)) (glyphs 4))
    ≡ 8 ∷ 8 ∷ 8 ∷ 8 ∷ 11 ∷ 11 ∷ 11 ∷ 11 ∷ 8 ∷ 4 ∷ 4 ∷ []
by_font = refl

-- other positions than BASE_C stay
other_positions : positions_by_font (font_with virama_alone applies) (small None)
    (indic_plan WithoutMedials OldSpec (script "Deva") (small None)) (glyphs 3) ≡ glyphs 3
other_positions = refl

-- a font without the virama, and a script without one
no_glyph : positions_by_font (font_with virama_alone applies) (small None)
    (indic_plan WithoutMedials OldSpec (script "Beng") (small None)) (glyphs 4) ≡ glyphs 4
no_glyph = refl

no_virama : positions_by_font (font_with all_characters applies) (small None)
    (indic_plan WithoutMedials OldSpec (script "Thai") (small None)) (glyphs 4) ≡ glyphs 4
no_virama = refl

-- in the older specification contexts are left out: a lookup that asks for one doesn't count; in the newer it does
abbrev with_context : ℕ → List GlyphId → Bool → Bool
with_context lookup ids zero = if zero then false else applies lookup ids zero

old_contexts : positions_by_font (font_with virama_alone with_context) (small None)
    (indic_plan WithoutMedials OldSpec (script "Deva") (small None)) (glyphs 4) ≡ glyphs 4
old_contexts = refl

new_contexts : row_positions
    (positions_by_font (font_with virama_alone with_context) (small (Some (record { 0 = codes "dev2" })))
    (indic_plan WithoutMedials OldSpec (script "Deva") (small (Some (record { 0 = codes "dev2" })))) (glyphs 4))
    ≡ 8 ∷ 8 ∷ 8 ∷ 8 ∷ 11 ∷ 11 ∷ 11 ∷ 11 ∷ 8 ∷ 4 ∷ 4 ∷ []
new_contexts = refl

-- a font is queried about a glyph's number, and about 65535 for every greater one
asked_about : map number (map (λ i. let g : Glyph = record default_glyph { glyph_id = i } in g)
    (0 ∷ 1 ∷ 65534 ∷ 65535 ∷ 65536 ∷ 65537 ∷ 72352 ∷ []))
    ≡ map (λ i. let id : GlyphId = record { 0 = i } in id) (0 ∷ 1 ∷ 65534 ∷ 65535 ∷ 65535 ∷ 65535 ∷ 65535 ∷ [])
asked_about = refl
