-- Worked rows: which glyph a character of a normalized text becomes, and what the font of two singles makes of it.
use Rattle.std.specs.Prelude.{ℕ, ◌≡◌, false, true, [], ◌∷◌, map, refl}
use Rattle.std.proofs.Common.{arith, sym}
use Rattle.std.proofs.lemmas.Bool.{false≢true}
use Rattle.shapers_buffer.specs.Buffer.{Buffer, new_buffer}
use Rattle.shapers_buffer.specs.Glyph.{default_glyph}
use Rattle.shapers_buffer.specs.Glyphs.{Glyph, Glyphs}
use Rattle.shapers_break_laws.specs.Pieces.{CutWhereClear}
use Rattle.shapers_clusters.specs.Breaks.{IsClear}
use Rattle.opentype_face.specs.Firsts.{first_from}
use Rattle.opentype_face.specs.Ranges.{bisect}
use Rattle.opentype_layout.specs.Sight.{flag_in, ignores, sight_of_context, sight_of_input}
use Rattle.opentype_gsub.specs.Along.{lookup_applied, lookup_stepped}
use Rattle.opentype_gsub.specs.Applied.{one_put, single_put}
use Rattle.opentype_gsub.specs.Came.{came_in, nth_came}
use Rattle.opentype_gsub.specs.Edits.{new_props, replaced}
use Rattle.opentype_gsub.specs.Looked.{tried}
use Rattle.opentype_gsub.specs.Machine.{nested}
use Rattle.opentype_gsub.specs.Setting.{is_seen, sights_of}
use Rattle.opentype_gsub.specs.Substituted.{applied, substituted}
use Rattle.opentype_break_laws.specs.NormalizedText.{glyph_mapped, normalized_put, text_mapped}

-- ---- A CHARACTER BECOMES ITS GLYPH, and keeps all but its class and its ligature: a nonspacing mark is a mark

full : Glyph
full = record {
  glyph_id = 0x301;
  mask = 0xFFFFFFFF;
  cluster = 7;
  glyph_props = record { 0 = 9 };
  lig_props = record { 0 = 0xE5 };
  syllable = 4;
  unicode_props = record { 0 = 0xE60C };
  category = 12;
  auxiliary = 13;
}

full_mapped : glyph_mapped full ≡ record {
  glyph_id = 9;
  mask = 0xFFFFFFFF;
  cluster = 7;
  glyph_props = record { 0 = 8 };
  lig_props = record { 0 = 0 };
  syllable = 4;
  unicode_props = record { 0 = 0xE60C };
  category = 12;
  auxiliary = 13;
}
unfolding full
full_mapped = refl

-- the class by the category: of Mn, of its neighbours Me and Mc, and of Mn that need not be drawn
abbrev class_by : ℕ → ℕ
class_by properties = (glyph_mapped (record default_glyph { unicode_props = record { 0 = properties } })).glyph_props.0

classes : map class_by (12 ∷ 11 ∷ 10 ∷ 13 ∷ 44 ∷ 0 ∷ []) ≡ 8 ∷ 2 ∷ 2 ∷ 2 ∷ 2 ∷ 2 ∷ []
classes = refl

-- ---- A TEXT: a character by its number, its glyph's, its cluster, mask and properties

abbrev character : ℕ → ℕ → ℕ → ℕ → ℕ → Glyph
character number glyph c mask properties = record default_glyph {
  glyph_id = number;
  cluster = c;
  mask = mask;
  glyph_props = record { 0 = glyph };
  unicode_props = record { 0 = properties };
}

abbrev text : Buffer
text =
    let b = new_buffer 9 in
    record b {
      glyphs = character 0x61 5 0 256 5 ∷ character 0x301 9 1 257 12 ∷ character 0x62 6 2 256 5
          ∷ character 0x63 5 3 512 5 ∷ [];
      lookups = record { ligature_serial = 7; random_state = 5; operations_left = 0; is_complete = false };
    }

-- its record begins anew
lookups_begun : (text_mapped text).lookups
    ≡ record { ligature_serial = 0; random_state = 1; operations_left = 65536; is_complete = true }
lookups_begun = refl

-- 5 and 9 become 7 and 11, where they have bit 8; the classes of glyphs stand beside what was done
abbrev front : Glyphs
front = character 7 18 0 256 5 ∷ character 11 24 1 257 12 ∷ []

abbrev back : Glyphs
back = character 6 2 2 256 5 ∷ character 5 2 3 512 5 ∷ []

abbrev all : Glyphs
all = character 7 18 0 256 5 ∷ character 11 24 1 257 12 ∷ character 6 2 2 256 5 ∷ character 5 2 3 512 5 ∷ []

text_put : (normalized_put text).glyphs ≡ all
unfolding substituted applied lookup_applied lookup_stepped is_seen nested tried came_in nth_came sights_of sight_of_input sight_of_context flag_in one_put single_put ignores bisect first_from replaced new_props
text_put = refl

-- it may be broken before the 6, and not before the flagged 11
cut_at_six : CutWhereClear all front back
cut_at_six = record {
  parts = refl;
  some_in_front = omega arith;
  some_behind = omega arith;
  clear = record { differ = λ e. absurd (omega (arith, e)); unflagged = refl };
}

none_at_eleven : IsClear all 1 → ⊥
none_at_eleven clear = false≢true (sym clear.unflagged)
