-- Words that are normalized.
use Rattle.std.specs.Prelude.{ℕ, ◌≡◌, ◌+◌, nat_le, Bool, ◌&&◌, List, ◌++◌, length}
use Rattle.std.specs.List.{list_all}
use Rattle.shapers_base.specs.Font.{Font, has_nominal}
use Rattle.shapers_buffer.specs.Glyphs.{Glyphs}
use Rattle.shapers_buffer.specs.declared.buffer.level.BufferClusterLevel.{BufferClusterLevel}
use Rattle.shapers_normal.specs.Context.{Context}
use Rattle.shapers_normal.specs.Normalization.{normalized}
use Rattle.shapers_normal.specs.declared.ot_shape_normalize.normalizing.Rounds.TheVariants.{Always}
use Rattle.shapers_bench.specs.Words.{letters_from}

-- whether a character is a syllable of Hangul for which a font has a glyph; and all of a word
abbrev pub is_drawn_syllable : Font → ℕ → Bool
is_drawn_syllable font c =
    nat_le 0xAC00 c && nat_le c 0xD7A3 && has_nominal font c

abbrev pub are_drawn_syllables : Font → List ℕ → Bool
are_drawn_syllables font word = list_all (is_drawn_syllable font) word

-- A word normalized is any three parts of it, each normalized by itself.
abbrev pub IsItsParts : Context → BufferClusterLevel → List ℕ → Glyphs → Type 0
IsItsParts context level word made = (front middle back : List ℕ) →
    word ≡ front ++ (middle ++ back) →
    let normal = λ (place : ℕ) (part : List ℕ).
    normalized context Always level (letters_from place part) in
    made ≡ normal 0 front
    ++ (normal (length front) middle ++ normal (length front + length middle) back)
