-- Lookups, notes, pauses and pieces of small texts, written out from what the law of the whole pipeline needs.
use Rattle.std.proofs.Common.{ℕ, ◌≡◌, [], ◌∷◌, refl, ap, arith, inl}
use Rattle.shapers_arabic.specs.Breaks.{back_at, front_at}
use Rattle.shapers_base.specs.Font.{Font}
use Rattle.shapers_base.specs.declared.plan.hb_ot_shape_plan_t.{hb_ot_shape_plan_t}
use Rattle.shapers_base.specs.declared.plan.pause.Pause.TheVariants.{ArabicFallbackShape, ClearSubstitutionFlags, RecordStch, SyllabicClearVar}
use Rattle.shapers_buffer.specs.Buffer.{Buffer, new_buffer}
use Rattle.shapers_buffer.specs.Glyph.{default_glyph}
use Rattle.shapers_buffer.specs.Glyphs.{Glyph}
use Rattle.shapers_buffer.specs.declared.buffer.glyph_props.GlyphProps.{GlyphProps}
use Rattle.shapers_pipeline.specs.Lookups.{text_noted}
use Rattle.shapers_pipeline.specs.Prepared.{Preparation, text_in_fractions, text_prepared}
use Rattle.shapers_plan.specs.declared.ot_map.lookups.StageLookup.{StageLookup}
use Rattle.shapers_editing.specs.PipelineBreaks.{CutBufferWhereClear, LookupLeaves, NotesReadOrder, Numbering, PauseLeaves, glyphs_made}

-- what is made from the fractions on is what preparation makes, with its notes
row_whole : (p : Preparation) (noted : Glyph → GlyphProps) (b : Buffer)
    → text_noted noted (text_prepared p b) ≡ glyphs_made p noted (text_in_fractions p b)
row_whole p noted b = refl

-- lookups that do nothing leave results side by side
row_idle : (numbered : Numbering) (text : Buffer) (lookup : StageLookup) (b : Buffer)
    → LookupLeaves numbered text (λ lookup b. b) lookup b
row_idle numbered text lookup b front back cut = record {
  before = front;
  behind = back;
  pieces = cut;
  first = λ one is. is.same;
  second = λ one is. is.same;
}

-- notes of glyph numbers, as classes are, and notes of clusters, of glyph flags and of serials
noting : (Glyph → ℕ) → Glyph → GlyphProps
noting f g = record { 0 = f g }

row_numbers : NotesReadOrder (noting (λ g. g.glyph_id))
unfolding noting
row_numbers = record { viewed = λ g. refl; counted = λ g. refl }

glyph : ℕ → ℕ → ℕ → Glyph
glyph c m byte = record default_glyph { cluster = c; mask = m; syllable = byte }

row_clusters : NotesReadOrder (noting (λ g. g.cluster)) → ⊥
unfolding glyph noting
row_clusters notes = absurd (omega (arith, ap (λ (p : GlyphProps). p.0) (notes.viewed (glyph 1 0 0))))

row_flags : NotesReadOrder (noting (λ g. g.mask)) → ⊥
unfolding glyph noting
row_flags notes = absurd (omega (arith, ap (λ (p : GlyphProps). p.0) (notes.viewed (glyph 0 1 0))))

row_serials : NotesReadOrder (noting (λ g. g.syllable)) → ⊥
unfolding glyph noting
row_serials notes = absurd (omega (arith, ap (λ (p : GlyphProps). p.0) (notes.counted (glyph 0 0 0x12))))

-- the pauses that need no premise
row_pauses : (numbered : Numbering) (text : Buffer) (plan : hb_ot_shape_plan_t) (font : Font) (old new : Buffer)
    → let Leaves = PauseLeaves numbered text plan font in Leaves RecordStch old new
    × (Leaves SyllabicClearVar old new × (Leaves ClearSubstitutionFlags old new × Leaves ArabicFallbackShape old new))
row_pauses numbered text plan font old new = (inl refl, (inl refl, (inl refl, inl refl)))

-- a buffer cut where its text is clear, and where it is flagged
two : ℕ → Buffer
two m = record (new_buffer 9) { glyphs = glyph 0 0 0 ∷ glyph 1 m 0 ∷ [] }

row_clear : CutBufferWhereClear (two 2) (front_at 1 (two 2)) (back_at 1 (two 2))
unfolding two glyph
row_clear = record {
  cut = record {
    place = 1;
    some_in_front = omega arith;
    some_behind = omega arith;
    front = refl;
    back = refl;
  };
  clear = record { differ = λ e. absurd (omega (arith, e)); unflagged = refl };
}
