-- Spans that two texts share, and how far a grammar reads on.
use Rattle.std.proofs.Common.{◌≡◌, ℕ, true, false, [], ◌∷◌, ◌++◌, map, refl}
use Rattle.shapers_buffer.specs.Glyphs.{Glyph}
use Rattle.shapers_buffer.specs.declared.buffer.syllables.Span.{Span}
use Rattle.shapers_buffer.specs.Glyph.{default_glyph}
use Rattle.shapers_spans.specs.Indic.{indic_grammar, indic_rules}
use Rattle.shapers_spans.specs.Khmer.{khmer_grammar, khmer_rules}
use Rattle.shapers_spans.specs.Universal.{universal_grammar, universal_rules}
use Rattle.shapers_spans.proofs.GrammarRows.{kind_by}
use Rattle.shapers_spans.proofs.Steps.{nullable, same, chain, member, before, insert, union, step}
use Rattle.shapers_spans.proofs.Tables.{first_kind, after}
use Rattle.shapers_editing.specs.Affected.{glyphs_in, is_same, shared, shared_back, from_either_end}
use Rattle.shapers_editing.specs.EditedSyllables.{last_n}
use Rattle.shapers_editing.specs.EditedTexts.{with_edit}
use Rattle.shapers_editing.specs.declared.edits.Edit.{Edit}

abbrev span : ℕ → ℕ → Span
span n k = record { len = n; kind = k }

alike : map (is_same (span 2 1)) (span 2 1 ∷ span 2 0 ∷ span 3 1 ∷ []) ≡ true ∷ false ∷ false ∷ []
alike = refl

-- up to the first that differs, in length or in kind
up_to_kind : shared 9 (span 2 0 ∷ span 3 1 ∷ span 1 0 ∷ []) (span 2 0 ∷ span 3 1 ∷ span 1 1 ∷ [])
    ≡ span 2 0 ∷ span 3 1 ∷ []
up_to_kind = refl

up_to_len : shared 9 (span 2 0 ∷ span 3 1 ∷ []) (span 2 0 ∷ span 4 1 ∷ []) ≡ span 2 0 ∷ []
up_to_len = refl

-- and no further than so many glyphs
exactly : shared 5 (span 2 0 ∷ span 3 1 ∷ span 1 0 ∷ []) (span 2 0 ∷ span 3 1 ∷ span 1 0 ∷ [])
    ≡ span 2 0 ∷ span 3 1 ∷ []
exactly = refl

one_less : shared 4 (span 2 0 ∷ span 3 1 ∷ []) (span 2 0 ∷ span 3 1 ∷ []) ≡ span 2 0 ∷ []
one_less = refl

-- up to the end of either
short : shared 9 (span 2 0 ∷ []) (span 2 0 ∷ span 3 1 ∷ []) ≡ span 2 0 ∷ []
short = refl

other_short : shared 9 (span 2 0 ∷ span 3 1 ∷ []) (span 2 0 ∷ []) ≡ span 2 0 ∷ []
other_short = refl

nothing : shared 9 [] (span 2 0 ∷ []) ≡ []
nothing = refl

behind : shared_back 4 (span 9 0 ∷ span 1 0 ∷ span 3 1 ∷ []) (span 1 0 ∷ span 3 1 ∷ []) ≡ span 1 0 ∷ span 3 1 ∷ []
behind = refl

covered : glyphs_in (span 2 0 ∷ span 3 1 ∷ []) ≡ 5
covered = refl

from_end : from_either_end {X = ℕ} true (1 ∷ 2 ∷ 3 ∷ []) ≡ 3 ∷ 2 ∷ 1 ∷ []
from_end = refl

from_start : from_either_end {X = ℕ} false (1 ∷ 2 ∷ 3 ∷ []) ≡ 1 ∷ 2 ∷ 3 ∷ []
from_start = refl

last_two : last_n {X = ℕ} 2 (1 ∷ 2 ∷ 3 ∷ []) ≡ 2 ∷ 3 ∷ []
last_two = refl

-- what stands before an edit, its glyphs, and what stands from its end on; an edit that takes nothing away
abbrev glyph : ℕ → Glyph
glyph n = record default_glyph { glyph_id = n }

replaced : (e : Edit) → with_edit (record e { start = 1; end = 3 }) (glyph 1 ∷ (glyph 2 ∷ (glyph 3 ∷ (glyph 4 ∷ []))))
    ≡ glyph 1 ∷ (e.glyphs.now ++ (glyph 4 ∷ []))
replaced e = refl

put_in : (e : Edit) → with_edit (record e { start = 1; end = 1 }) (glyph 1 ∷ (glyph 2 ∷ []))
    ≡ glyph 1 ∷ (e.glyphs.now ++ (glyph 2 ∷ []))
put_in e = refl

-- The syllable in front of an edit isn't enough. Of two glyphs no rule takes both (255), and so the
-- first is a syllable of its own; with a third behind them they are one syllable. Khmer: a consonant,
-- ZWNJ, a vowel sign above.
khmer_reads_on : map (kind_by khmer_grammar) ((1 ∷ []) ∷ (1 ∷ 5 ∷ []) ∷ (1 ∷ 5 ∷ 20 ∷ []) ∷ []) ≡ 0 ∷ 255 ∷ 0 ∷ []
unfolding khmer_rules khmer_grammar kind_by nullable same chain member before insert union step first_kind after
khmer_reads_on = refl

-- Indic: a consonant, ZWNJ, a halant
indic_reads_on : map (kind_by indic_grammar) ((1 ∷ []) ∷ (1 ∷ 5 ∷ []) ∷ (1 ∷ 5 ∷ 4 ∷ []) ∷ []) ≡ 0 ∷ 255 ∷ 0 ∷ []
unfolding indic_rules indic_grammar kind_by nullable same chain member before insert union step first_kind after
indic_reads_on = refl

-- universal: two segments of hieroglyphs that begin, and a hieroglyph
universal_reads_on : map (kind_by universal_grammar) ((51 ∷ []) ∷ (51 ∷ 51 ∷ []) ∷ (51 ∷ 51 ∷ 49 ∷ []) ∷ [])
    ≡ 5 ∷ 255 ∷ 6 ∷ []
unfolding universal_rules universal_grammar kind_by nullable same chain member before insert union step first_kind after
universal_reads_on = refl
