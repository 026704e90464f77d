-- A whole text put into a buffer, each field; positions that go with glyphs; code points that are no characters.
use Rattle.std.specs.Prelude.{◌≡◌, true, List, [], ◌∷◌, map, take, Some, codes, pos, ℕ, refl}
use Rattle.std.specs.Borrow.{Bor}
use Rattle.shapers_buffer.specs.Buffer.{Buffer, new_buffer}
use Rattle.shapers_buffer.specs.Glyph.{default_glyph, default_position}
use Rattle.shapers_buffer.specs.LookupRecords.{record_for}
use Rattle.shapers_buffer.specs.Settings.{character_of, positions_of_text, with_settings, with_text}
use Rattle.shapers_buffer.specs.declared.buffer.level.BufferClusterLevel.TheVariants.{Characters}
use Rattle.shapers_buffer.specs.declared.buffer.level.Direction.TheVariants.{RightToLeft}
use Rattle.shapers_buffer.specs.declared.buffer.settings.BufferSettings.{BufferSettings}

-- settings that all differ from a new buffer's
abbrev given : Bor (List ℕ) → Bor (List ℕ) → BufferSettings
given before after = record {
  direction = RightToLeft;
  script = Some (record { 0 = codes "Thai" });
  cluster_level = Characters;
  flags =
      record { 0 = 0xE0 };
  pre_context = before;
  post_context = after;
  has_broken_syllable = true;
  has_stch =
      true;
  max_len = 50;
}

-- a buffer of one glyph, which is placed and listed
abbrev one : Buffer
one = record (new_buffer 7) { glyphs = default_glyph ∷ []; positions = default_position ∷ []; lookups = record_for 17; places = 1 ∷ [] }

-- each setting comes from them, of a context its five nearest characters; glyphs, positions and placement list stay
settled : (before after : Bor (List ℕ)) → with_settings (given before after) one
    ≡ record {
      glyphs = default_glyph ∷ [];
      positions = default_position ∷ [];
      direction = RightToLeft;
      script = Some (record { 0 = codes "Thai" });
      level = Characters;
      flags =
          record { 0 = 0xE0 };
      before = take 5 before.now;
      after = take 5 after.now;
      broken = true;
      stch = true;
      lookups = record_for 17;
      max_len =
          50;
      places = 1 ∷ [];
    }
settled before after = refl

-- with a text glyphs and positions come, too, and the placement list alone stays
a_text : (before after : Bor (List ℕ))
    → with_text (record default_glyph { glyph_id = 65 } ∷ default_glyph ∷ []) [] (given before after) one
    ≡ record {
      glyphs = record default_glyph { glyph_id = 65 } ∷ default_glyph ∷ [];
      positions = [];
      direction = RightToLeft;
      script = Some (record { 0 = codes "Thai" });
      level =
          Characters;
      flags = record { 0 = 0xE0 };
      before = take 5 before.now;
      after = take 5 after.now;
      broken = true;
      stch =
          true;
      lookups = record_for 17;
      max_len = 50;
      places = 1 ∷ [];
    }
a_text before after = refl

placed_text : (before after : Bor (List ℕ))
    → with_text (default_glyph ∷ []) (record default_position { x_advance = pos 9 } ∷ []) (given before after) one
    ≡ record (with_settings (given before after) one) { positions = record default_position { x_advance = pos 9 } ∷ [] }
placed_text before after = refl

-- the positions of two glyphs are these two, and none where there is another number of them
paired : map (λ ps. positions_of_text (default_glyph ∷ default_glyph ∷ []) ps)
    ([] ∷ (default_position ∷ []) ∷ (default_position ∷ record default_position { x_advance = pos 9 } ∷ [])
    ∷ (default_position ∷ default_position ∷ default_position ∷ []) ∷ [])
    ≡ [] ∷ [] ∷ (default_position ∷ record default_position { x_advance = pos 9 } ∷ []) ∷ [] ∷ []
paired = refl

-- and of no glyph none
paired_none : map (λ ps. positions_of_text [] ps) ([] ∷ (default_position ∷ []) ∷ []) ≡ [] ∷ [] ∷ []
paired_none = refl

-- code points at the bounds of the surrogates and of Unicode
characters_of : map character_of (0 ∷ 0x41 ∷ 0xD7FF ∷ 0xD800 ∷ 0xDFFF ∷ 0xE000 ∷ 0x10FFFF ∷ 0x110000 ∷ 0xFFFFFFFF ∷ [])
    ≡ 0 ∷ 0x41 ∷ 0xD7FF ∷ 0xFFFD ∷ 0xFFFD ∷ 0xE000 ∷ 0x10FFFF ∷ 0xFFFD ∷ 0xFFFD ∷ []
characters_of = refl
