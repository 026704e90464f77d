-- Worked rows: which lookups put one glyph for one, and what a font of two does.
use Rattle.std.specs.Prelude.{ℕ, ◌≡◌, true, false, [], ◌∷◌, map, refl}
use Rattle.shapers_buffer.specs.Buffer.{new_buffer}
use Rattle.shapers_buffer.specs.Glyph.{default_glyph}
use Rattle.shapers_buffer.specs.Glyphs.{Glyph}
use Rattle.opentype_face.specs.Firsts.{first_from}
use Rattle.opentype_face.specs.Lookups.{lookup_in}
use Rattle.opentype_face.specs.Ranges.{bisect}
use Rattle.opentype_layout.specs.Sight.{flag_in, ignores, sight_of_context, sight_of_input}
use Rattle.opentype_layout.specs.Starts.{starting, starts_at}
use Rattle.opentype_gsub.specs.Along.{lookup_applied, lookup_stepped}
use Rattle.opentype_gsub.specs.Applied.{one_put, single_put}
use Rattle.opentype_gsub.specs.Came.{came_in, nth_came}
use Rattle.opentype_gsub.specs.Edits.{new_props, replaced}
use Rattle.opentype_gsub.specs.Looked.{tried}
use Rattle.opentype_gsub.specs.Machine.{nested}
use Rattle.opentype_gsub.specs.Presence.{is_left}
use Rattle.opentype_gsub.specs.Setting.{is_seen, sights_of}
use Rattle.opentype_gsub.specs.Substituted.{applied, substituted}
use Rattle.opentype_font.specs.Lookups.{substituted_by, use_for}
use Rattle.opentype_break_laws.specs.OneForOne.{is_one_for_one}
use Rattle.opentype_break_laws.specs.TwoSingles.{first_lookup, two_singles}

-- types 1 and 3, where no alternate is picked at random; type 1 alone where one is
by_value : map (is_one_for_one false) (0 ∷ 1 ∷ 2 ∷ 3 ∷ 4 ∷ 5 ∷ 6 ∷ 7 ∷ 8 ∷ [])
    ≡ false ∷ true ∷ false ∷ true ∷ false ∷ false ∷ false ∷ false ∷ false ∷ []
by_value = refl

at_random : map (is_one_for_one true) (0 ∷ 1 ∷ 2 ∷ 3 ∷ 4 ∷ 5 ∷ 6 ∷ 7 ∷ 8 ∷ [])
    ≡ false ∷ true ∷ false ∷ false ∷ false ∷ false ∷ false ∷ false ∷ false ∷ []
at_random = refl

-- a glyph by its number and mask
abbrev glyph : ℕ → ℕ → Glyph
glyph number mask = record default_glyph { glyph_id = number; mask = mask }

abbrev put : ℕ → ℕ → Glyph
put number mask = record (glyph number mask) { glyph_props = record { 0 = 16 } }

-- 5 and 9 become 7 and 11, where they have bit 8; a glyph flag stays
two_put : (substituted_by [] two_singles first_lookup (record (new_buffer 9) {
  glyphs = glyph 4 256 ∷ glyph 5 257 ∷ glyph 9 768 ∷ glyph 9 512 ∷ [];
})).glyphs ≡ glyph 4 256 ∷ put 7 257 ∷ put 11 768 ∷ glyph 9 512 ∷ []
unfolding substituted applied lookup_applied lookup_stepped is_seen nested tried came_in nth_came sights_of sight_of_input sight_of_context flag_in one_put single_put ignores bisect first_from replaced new_props
two_put = refl

-- so it begins nowhere in a text of a 4, and of a 9 without bit 8
none_begun : map (is_left (use_for first_lookup) (lookup_in two_singles 0)) (glyph 4 256 ∷ glyph 9 512 ∷ glyph 5 256 ∷ [])
    ≡ true ∷ true ∷ false ∷ []
unfolding is_left first_from starting starts_at bisect
none_begun = refl
