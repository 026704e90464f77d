-- Words in a buffer, for the calls on real cases.
use Rattle.std.specs.Prelude.{ℕ, suc, List, [], ◌∷◌}
use Rattle.shapers_buffer.specs.Buffer.{Buffer, new_buffer}
use Rattle.shapers_buffer.specs.Glyph.{default_glyph}
use Rattle.shapers_buffer.specs.Glyphs.{Glyph, Glyphs}

-- a character as a glyph in the cluster of its place, with the bit of a mask that each glyph has
abbrev pub letter : ℕ → ℕ → Glyph
letter place c = record default_glyph { glyph_id = c; mask = 0x80000000; cluster = place }

-- characters as such glyphs, the first of them at this place
abbrev pub letters_from : ℕ → List ℕ → Glyphs
letters_from place [] = []
letters_from place (c ∷ cs) = letter place c ∷ letters_from (suc place) cs

-- a word in a new buffer with room for so many glyphs
abbrev pub word_in : ℕ → List ℕ → Buffer
word_in room word = record (new_buffer room) { glyphs = letters_from 0 word }
