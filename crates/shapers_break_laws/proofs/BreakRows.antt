-- Clear places of small texts before and after reordering and set-up, written out from the rules.
use Rattle.std.proofs.Common.{ℕ, ◌≡◌, List, [], ◌∷◌, map, refl, sym, arith}
use Rattle.std.specs.Prelude.{None, Some}
use Rattle.std.proofs.lemmas.Bool.{false≢true}
use Rattle.shapers_buffer.specs.Glyphs.{Glyph, Glyphs}
use Rattle.shapers_buffer.specs.declared.buffer.syllables.Span.{Span}
use Rattle.shapers_buffer.specs.declared.buffer.level.BufferClusterLevel.TheVariants.{Characters, MonotoneGraphemes}
use Rattle.shapers_buffer.specs.Glyph.{clusters, default_glyph}
use Rattle.shapers_clusters.specs.Breaks.{IsClear}
use Rattle.shapers_clusters.specs.Steps.{Step, after_steps}
use Rattle.shapers_syllabic.specs.Circles.{circled}
use Rattle.shapers_syllabic.specs.ReorderingLaws.{paused_carried, paused_clusters, paused_order}
use Rattle.shapers_syllabic.specs.Syllabic.{unsafe_spans}
use Rattle.shapers_syllabic.specs.declared.ot_shaper_syllabic.circles.DottedCircles.{DottedCircles}
use Rattle.shapers_myanmar.specs.Myanmar.{myanmar_order, myanmar_steps}
use Rattle.shapers_universal.specs.Universal.{universal_steps}
use Rattle.shapers_break_laws.specs.Setup.{IsFlagged, SpanBorder}

-- a glyph in this cluster with this mask
glyph : ℕ → ℕ → Glyph
glyph c m = record default_glyph { cluster = c; mask = m }

-- the last two of three glyphs change places: after a merge, and without one
swap : List (ℕ × ℕ) → Step
swap sts = record { merged_first = sts; places = 0 ∷ 2 ∷ 1 ∷ []; merged_then = [] }

shown : Glyphs → List (ℕ × ℕ)
shown gs = map (λ (g : Glyph). (g.cluster, g.mask)) gs

-- what is merged keeps the flag of the glyph that doesn't fall: place 1 is clear neither before nor after
row_merged : shown (after_steps MonotoneGraphemes (swap ((1, 3) ∷ []) ∷ []) (glyph 0 0 ∷ glyph 1 3 ∷ glyph 2 3 ∷ [])) ≡
    (0, 0) ∷ (1, 0) ∷ (1, 3) ∷ []
unfolding glyph swap shown
row_merged = refl

row_flagged : IsClear (glyph 0 0 ∷ glyph 1 0 ∷ glyph 1 3 ∷ []) 1 → ⊥
unfolding glyph
row_flagged clear = false≢true (sym clear.unflagged)

-- moved without a merge, or at level Characters, the flagged glyph goes away from place 1, which gets clear
row_unmerged : shown (after_steps MonotoneGraphemes (swap [] ∷ []) (glyph 0 0 ∷ glyph 1 3 ∷ glyph 2 0 ∷ [])) ≡ (0, 0) ∷
    (2, 0) ∷ (1, 3) ∷ []
unfolding glyph swap shown
row_unmerged = refl

row_characters : shown (after_steps Characters (swap ((1, 3) ∷ []) ∷ []) (glyph 0 0 ∷ glyph 1 3 ∷ glyph 2 0 ∷ [])) ≡
    (0, 0) ∷ (2, 0) ∷ (1, 3) ∷ []
unfolding glyph swap shown
row_characters = refl

row_got_clear : IsClear (glyph 0 0 ∷ glyph 2 0 ∷ glyph 1 3 ∷ []) 1
unfolding glyph
row_got_clear = record { differ = λ e. absurd (omega arith); unflagged = refl }

row_was_flagged : IsClear (glyph 0 0 ∷ glyph 1 3 ∷ glyph 2 0 ∷ []) 1 → ⊥
unfolding glyph
row_was_flagged clear = false≢true (sym clear.unflagged)

-- where clusters neither rise nor fall, the flagged glyph beside the cut may fall and lose its flag
row_neither : shown (after_steps MonotoneGraphemes (swap ((1, 3) ∷ []) ∷ []) (glyph 0 0 ∷ glyph 2 3 ∷ glyph 1 0 ∷ [])) ≡
    (0, 0) ∷ (1, 0) ∷ (1, 0) ∷ []
unfolding glyph swap shown
row_neither = refl

-- spans of two glyphs each: where clusters rise and where they fall
two : List Span
two = record { len = 2; kind = 0 } ∷ record { len = 2; kind = 0 } ∷ []

row_rising : map (λ g. g.mask) (unsafe_spans two (glyph 0 8 ∷ glyph 1 0 ∷ glyph 2 0 ∷ glyph 3 16 ∷ []))
    ≡ 8 ∷ 3 ∷ 0 ∷ 19 ∷ []
unfolding glyph two
row_rising = refl

row_falling : map (λ g. g.mask) (unsafe_spans two (glyph 3 8 ∷ glyph 2 0 ∷ glyph 1 0 ∷ glyph 0 16 ∷ []))
    ≡ 11 ∷ 0 ∷ 3 ∷ 16 ∷ []
unfolding glyph two
row_falling = refl

-- so place 2 is clear, a border of the two, and places 1 and 3 aren't
row_clear : IsClear (unsafe_spans two (glyph 3 8 ∷ glyph 2 0 ∷ glyph 1 0 ∷ glyph 0 16 ∷ [])) 2
unfolding glyph two
row_clear = record { differ = λ e. absurd (omega arith); unflagged = refl }

row_inside : IsClear (unsafe_spans two (glyph 3 8 ∷ glyph 2 0 ∷ glyph 1 0 ∷ glyph 0 16 ∷ [])) 3 → ⊥
unfolding glyph two
row_inside clear = false≢true (sym clear.unflagged)

row_border : SpanBorder two 2
unfolding two
row_border = record {
  front = record { len = 2; kind = 0 } ∷ [];
  back = record { len = 2; kind = 0 } ∷ [];
  split =
      refl;
  place = refl;
}

-- a border of spans within a cluster isn't clear; nor is one beside a cluster that goes on in a span with a lower one
row_one_cluster : IsClear (unsafe_spans two (glyph 0 0 ∷ glyph 1 0 ∷ glyph 1 0 ∷ glyph 2 0 ∷ [])) 2 → ⊥
unfolding glyph two
row_one_cluster clear = clear.differ refl

-- flagged is what has bits 1 and 2
row_flags : IsFlagged (glyph 0 11)
unfolding glyph
row_flags = (refl, refl)

row_unsafe_alone : IsFlagged (glyph 0 13) → ⊥
unfolding glyph
row_unsafe_alone flags = absurd (omega (arith, flags.1))

row_concat_alone : IsFlagged (glyph 0 14) → ⊥
unfolding glyph
row_concat_alone flags = absurd (omega (arith, flags.0))

-- Myanmar: a consonant with a left vowel, and another consonant. The vowel goes first, and place 2 is clear: the halves
-- are the whole
letter : ℕ → ℕ → Glyph
letter c category = record default_glyph { cluster = c; category = category }

word : Glyphs
word = letter 0 1 ∷ letter 1 22 ∷ letter 2 1 ∷ []

of_word : List Span
of_word = record { len = 2; kind = 0 } ∷ record { len = 1; kind = 0 } ∷ []

row_word : shown (after_steps MonotoneGraphemes
    (record { merged_first = (0, 2) ∷ []; places = 1 ∷ 0 ∷ 2 ∷ []; merged_then = [] } ∷ [])
    (unsafe_spans of_word word)) ≡ (0, 0) ∷ (0, 0) ∷ (2, 0) ∷ []
unfolding letter word of_word shown
row_word = refl

row_word_clusters : paused_clusters None myanmar_steps MonotoneGraphemes (unsafe_spans of_word word) ≡ 0 ∷ 0 ∷ 2 ∷ []
unfolding letter word of_word
row_word_clusters = refl

row_word_front : map (λ g. g.category) (paused_order None myanmar_order
    (unsafe_spans (record { len = 2; kind = 0 } ∷ []) (letter 0 1 ∷ letter 1 22 ∷ []))) ≡ 22 ∷ 1 ∷ []
unfolding letter
row_word_front = refl

row_word_back : map (λ g. g.category) (paused_order None myanmar_order
    (unsafe_spans (record { len = 1; kind = 0 } ∷ []) (letter 2 1 ∷ []))) ≡ 1 ∷ []
unfolding letter
row_word_back = refl

-- Two rephas in clusters of their own open a broken syllable of the universal shaper, and a third one in the second's
-- cluster is another. The first goes behind the circle, and all three fall to its cluster: place 3 is clear, but the
-- halves share cluster 1.
rephas : Glyphs
rephas = letter 0 18 ∷ letter 1 18 ∷ letter 1 18 ∷ []

of_rephas : List Span
of_rephas = record { len = 2; kind = 7 } ∷ record { len = 1; kind = 7 } ∷ []

circle : DottedCircles
circle = record { broken_kind = 7; circle = record default_glyph { glyph_id = 9; category = 1 }; repha = Some 18 }

row_two_rephas : clusters (circled (Some circle) (unsafe_spans of_rephas rephas)) ≡ 0 ∷ 1 ∷ 0 ∷ 1 ∷ 1 ∷ []
unfolding letter rephas of_rephas circle
row_two_rephas = refl

row_all_fall : paused_clusters (Some circle) universal_steps MonotoneGraphemes (unsafe_spans of_rephas rephas)
    ≡ 0 ∷ 0 ∷ 0 ∷ 1 ∷ 1 ∷ []
unfolding letter rephas of_rephas circle
row_all_fall = refl

row_no_flag_left : map (λ g. g.mask) (paused_carried (Some circle) universal_steps MonotoneGraphemes
    (unsafe_spans of_rephas rephas)) ≡ 0 ∷ 0 ∷ 0 ∷ 0 ∷ 0 ∷ []
unfolding letter rephas of_rephas circle
row_no_flag_left = refl
