-- Words of Khmer whose syllables meet at borders of clusters.
use Rattle.std.specs.Prelude.{ℕ, ◌≡◌, ◌==◌, not, ◌||◌, Bool, List, map}
use Rattle.std.specs.List.{list_any}
use Rattle.shapers_base.specs.Font.{CharacterTables}
use Rattle.shapers_buffer.specs.Glyphs.{Glyph, Glyphs}
use Rattle.shapers_buffer.specs.Properties.{is_continuation}
use Rattle.shapers_buffer.specs.declared.buffer.level.BufferClusterLevel.TheVariants.{MonotoneGraphemes}
use Rattle.shapers_buffer.specs.declared.buffer.syllables.Span.{Span}
use Rattle.shapers_break_laws.specs.IndicBreaks.{SpansSeparateClusters}
use Rattle.shapers_prepare.specs.CharacterProperties.{CharacterProperties}
use Rattle.shapers_prepare.specs.GlyphProperties.{properties_set}
use Rattle.shapers_prepare.specs.Graphemes.{clusters_formed}
use Rattle.shapers_spans.specs.Cuts.{AreSpansOf}
use Rattle.shapers_spans.specs.Khmer.{khmer_grammar}
use Rattle.shapers_syllabic.specs.Characters.{with_category}
use Rattle.shapers_bench.specs.Words.{letters_from}

-- characters with their properties and Khmer's categories, each grapheme in one cluster
abbrev pub khmer_word : CharacterProperties → CharacterTables → List ℕ → Glyphs
khmer_word properties tables word =
    map (with_category tables)
    (clusters_formed MonotoneGraphemes (properties_set properties (letters_from 0 word)))

-- whether a syllable of Khmer is whole, by its kind; and whether a glyph, if it is of one of these
-- categories, begins a grapheme
abbrev pub is_whole_syllable : Span → Bool
is_whole_syllable span = span.kind == 0

abbrev pub opens_grapheme : List ℕ → Glyph → Bool
opens_grapheme categories g =
    not (list_any (λ c. c == g.category) categories) || not (is_continuation g.unicode_props)

-- Such a word and its syllables, of which no two that meet share a cluster there.
pub record HasBorders (properties : CharacterProperties) (tables : CharacterTables) (word : List ℕ)
    (gs : Glyphs) (spans : List Span) : Type 0 where
  pub glyphs : gs ≡ khmer_word properties tables word
  pub found : AreSpansOf khmer_grammar gs spans
  pub apart : SpansSeparateClusters spans gs
