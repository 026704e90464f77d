-- Rows for borders of found syllables, written out from the rules: the smallest texts in which one
-- stands inside a cluster.
use Rattle.std.proofs.Common.{◌≡◌, true, false, List, [], ◌∷◌, arith, refl, sym}
use Rattle.std.specs.Prelude.{map}
use Rattle.std.proofs.lemmas.Bool.{false≢true}
use Rattle.shapers_buffer.specs.Glyph.{default_glyph}
use Rattle.shapers_buffer.specs.Glyphs.{Glyph}
use Rattle.shapers_buffer.specs.declared.buffer.syllables.Span.{Span}
use Rattle.shapers_spans.specs.Indic.{indic_grammar, indic_rules}
use Rattle.shapers_spans.specs.Khmer.{khmer_grammar, khmer_rules}
use Rattle.shapers_spans.specs.Myanmar.{myanmar_grammar, myanmar_rules}
use Rattle.shapers_spans.specs.Universal.{universal_grammar, universal_rules}
use Rattle.shapers_spans.proofs.GrammarRows.{kind_by}
use Rattle.shapers_spans.proofs.Steps.{nullable, same, chain, member, before, insert, union, step}
use Rattle.shapers_spans.proofs.Tables.{first_kind, after}
use Rattle.shapers_break_laws.specs.IndicBreaks.{SpansSeparateClusters}
use Rattle.shapers_found_laws.specs.FoundBorders.{BeginsGrapheme, IsOneOf}

-- Danda and the vowel sign AA of Devanagari (0964 093E), of categories 0 and 7: no rule takes the
-- first, nor both (255), and the second is a broken syllable, of kind 4
row_indic : map (kind_by indic_grammar) ((0 ∷ []) ∷ (0 ∷ 7 ∷ []) ∷ (7 ∷ []) ∷ []) ≡ 255 ∷ 255 ∷ 4 ∷ []
unfolding indic_rules indic_grammar kind_by nullable same chain member before insert union step first_kind after
row_indic = refl

-- so in Khmer 17D4 17B6 (categories 0 and 23), in Myanmar 1038 102C (8 and 23), and in the universal
-- shaper 1B04 1B35 (39 and 35)
row_khmer : map (kind_by khmer_grammar) ((0 ∷ []) ∷ (0 ∷ 23 ∷ []) ∷ (23 ∷ []) ∷ []) ≡ 255 ∷ 255 ∷ 1 ∷ []
unfolding khmer_rules khmer_grammar kind_by nullable same chain member before insert union step first_kind after
row_khmer = refl

row_myanmar : map (kind_by myanmar_grammar) ((8 ∷ []) ∷ (8 ∷ 23 ∷ []) ∷ (23 ∷ []) ∷ []) ≡ 2 ∷ 255 ∷ 2 ∷ []
unfolding myanmar_rules myanmar_grammar kind_by nullable same chain member before insert union step first_kind after
row_myanmar = refl

row_universal : map (kind_by universal_grammar) ((39 ∷ []) ∷ (39 ∷ 35 ∷ []) ∷ (35 ∷ []) ∷ []) ≡ 7 ∷ 255 ∷ 7 ∷ []
unfolding universal_rules universal_grammar kind_by nullable same chain member before insert union step first_kind
    after
row_universal = refl

-- so in Indic two spans of one glyph each, in a cluster of both since the vowel sign carries on the grapheme
danda : Glyph
danda = record default_glyph { category = 0 }

sign : Glyph
sign = record default_glyph { category = 7; unicode_props = record { 0 = 0x80 } }

two : List Span
two = record { len = 1; kind = 5 } ∷ record { len = 1; kind = 4 } ∷ []

row_shared : SpansSeparateClusters two (danda ∷ sign ∷ []) → ⊥
unfolding danda sign two
row_shared part = part 1 (omega arith) (omega arith) (record {
  front = record { len = 1; kind = 5 } ∷ [];
  back = record { len = 1; kind = 4 } ∷ [];
  split = refl;
  place = refl;
}) refl

-- the premise that isn't met there: a broken syllable opens with a glyph that carries on a grapheme
row_begins : BeginsGrapheme danda
unfolding danda
row_begins = refl

row_carries : BeginsGrapheme sign → ⊥
unfolding sign
row_carries begins = false≢true (sym begins)

-- a letter opens whole syllables, and a vowel sign none
row_one : IsOneOf (1 ∷ 2 ∷ 10 ∷ []) (record default_glyph { category = 2 })
row_one = refl

row_none : IsOneOf (1 ∷ 2 ∷ 10 ∷ []) sign → ⊥
unfolding sign
row_none one = false≢true one
