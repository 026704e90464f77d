-- Worked rows: which glyphs a lookup may begin at.
use Rattle.std.specs.Prelude.{◌≡◌, ℕ, true, false, List, [], ◌∷◌, ◌++◌, map, refl}
use Rattle.shapers_buffer.specs.Glyph.{default_glyph}
use Rattle.shapers_buffer.specs.Glyphs.{Glyph}
use Rattle.opentype_face.specs.Firsts.{first_from}
use Rattle.opentype_face.specs.Ranges.{bisect}
use Rattle.opentype_layout.specs.Starts.{starting, starts_at}
use Rattle.opentype_gsub.specs.Presence.{is_left}
use Rattle.opentype_gsub.specs.declared.pass.LookupUse.{LookupUse}

-- two subtables of type 1: the first for glyphs 5 and 9, the second for glyph 7
abbrev covered : List ℕ → List ℕ
covered glyphs = 0 ∷ 1 ∷ 0 ∷ 6 ∷ 0 ∷ 1 ∷ glyphs

abbrev lookup : List ℕ
lookup = (0 ∷ 1 ∷ 0 ∷ 0 ∷ 0 ∷ 2 ∷ 0 ∷ 10 ∷ 0 ∷ 24 ∷ [])
    ++ (covered (0 ∷ 1 ∷ 0 ∷ 2 ∷ 0 ∷ 5 ∷ 0 ∷ 9 ∷ []) ++ covered (0 ∷ 1 ∷ 0 ∷ 1 ∷ 0 ∷ 7 ∷ []))

-- a glyph by its number and mask; the lookup's mask is 24
abbrev glyph : ℕ → ℕ → Glyph
glyph number mask = record default_glyph { glyph_id = number; mask = mask }

abbrev use_of : LookupUse
use_of = record { index = 0; mask = 24; auto_zwnj = true; auto_zwj = true; random = false; per_syllable = false }

left_by_mask : map (λ mask. is_left use_of lookup (glyph 5 mask)) (0 ∷ 7 ∷ 8 ∷ 16 ∷ 32 ∷ 48 ∷ [])
    ≡ true ∷ true ∷ false ∷ false ∷ true ∷ false ∷ []
unfolding is_left first_from starting starts_at bisect
left_by_mask = refl

-- a number's two lower bytes count
left_by_number : map (λ number. is_left use_of lookup (glyph number 8)) (4 ∷ 5 ∷ 7 ∷ 9 ∷ 65541 ∷ [])
    ≡ true ∷ false ∷ false ∷ false ∷ false ∷ []
unfolding is_left first_from starting starts_at bisect
left_by_number = refl
