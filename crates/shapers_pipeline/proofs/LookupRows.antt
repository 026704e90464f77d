-- What is kept beside glyphs, and single substitutions.
use Rattle.std.specs.Prelude.{◌≡◌, ◌+◌, ℕ, false, true, List, [], ◌∷◌, refl}
use Rattle.shapers_buffer.specs.Glyphs.{Glyph}
use Rattle.shapers_plan.specs.declared.ot_map.lookups.StageLookup.{StageLookup}
use Rattle.shapers_pipeline.specs.Lookups.{with_note}
use Rattle.shapers_pipeline.specs.Singles.{single_applied}
use Rattle.shapers_pipeline.specs.declared.singles.Single.{Single}

abbrev glyph : ℕ → ℕ → ℕ → ℕ → Glyph
glyph number mask props ligature = record {
  glyph_id = number;
  mask = mask;
  cluster = 5;
  glyph_props = record { 0 = props };
  lig_props = record { 0 = ligature };
  syllable = 13;
  unicode_props = record { 0 = 0x17E7 };
  category = 17;
  auxiliary = 19;
}

-- a note by the glyph, of no ligature, and nothing else changes
noted : with_note (λ g. record { 0 = g.glyph_id + 3 }) (glyph 60 0x77 0 0x6E) ≡ glyph 60 0x77 63 0
noted = refl

-- lookup 4 for glyphs that have bit 16 or 32
abbrev lookup : StageLookup
lookup = record { index = 4; mask = 0x30; auto_zwnj = true; auto_zwj = true; random = false; per_syllable = false }

abbrev singles : List Single
singles =
    record { lookup = 3; glyph = 60; substitute = 70 } ∷ record { lookup = 4; glyph = 61; substitute = 71 }
    ∷ record { lookup = 4; glyph = 60; substitute = 72 } ∷ record { lookup = 4; glyph = 60; substitute = 73 } ∷ []

-- the first entry of the lookup for the glyph, which is marked as substituted, bit 0x10
first_entry : single_applied singles lookup (glyph 60 0x20 0xFF8F 0x6E) ≡ glyph 72 0x20 0xFF9F 0x6E
first_entry = refl

other_entry : single_applied singles lookup (glyph 61 0x10 9 0) ≡ glyph 71 0x10 0x19 0
other_entry = refl

-- none for the glyph, none of the list, and a glyph that lacks the feature
no_entry : single_applied singles lookup (glyph 62 0x30 9 24) ≡ glyph 62 0x30 9 24
no_entry = refl

no_entries : single_applied [] lookup (glyph 60 0x30 9 24) ≡ glyph 60 0x30 9 24
no_entries = refl

lacks_feature : single_applied singles lookup (glyph 60 0x40 9 24) ≡ glyph 60 0x40 9 24
lacks_feature = refl
