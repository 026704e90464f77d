-- Pieces of small texts, lookups that leave their results side by side and that don't, and the pauses of each shaper.
use Rattle.std.proofs.Common.{ℕ, zero, suc, ◌<◌, ◌≡◌, ◌≢◌, true, false, List, [], ◌∷◌, ◌++◌, length, map, slice_index, refl, sym, ap, ◌∙◌, arith, inl, inr}
use Rattle.std.specs.Prelude.{None, Some, codes}
use Rattle.std.proofs.lemmas.Bool.{false≢true}
use Rattle.shapers_base.specs.declared.plan.pause.Pause.TheVariants.{RecordStch, ArabicFallbackShape}
use Rattle.shapers_buffer.specs.Buffer.{Buffer, new_buffer}
use Rattle.shapers_buffer.specs.Glyph.{default_glyph, order_view, plain}
use Rattle.shapers_buffer.specs.Glyphs.{Glyph, Glyphs}
use Rattle.shapers_buffer.specs.declared.buffer.syllables.Span.{Span}
use Rattle.rustybuzz_shapers.specs.declared.shaper.hb_ot_shaper_t.TheVariants.{Arabic, Hangul, Hebrew, Indic, Khmer, Myanmar, MyanmarZawgyi, Thai, Universal}
use Rattle.shapers_break_laws.specs.Pieces.{CutAtSpans, CutBuffer, CutWhereClear, LeavesPieces, MadeOfPieces, MakesOf, SameButFlags}
use Rattle.shapers_break_laws.specs.ShaperBreaks.{CutAroundMarks, is_by_glyph, shaper_pauses}
use Rattle.shapers_syllabic.specs.Borders.{unnumbered}
use Rattle.shapers_syllabic.proofs.Serials.{same_text}
use Rattle.shapers_break_laws.proofs.Pieces.{own_text}

-- a glyph of a number in this cluster, with this mask and syllable byte
glyph : ℕ → ℕ → ℕ → ℕ → Glyph
glyph n c m byte = record default_glyph { glyph_id = n; cluster = c; mask = m; syllable = byte }

-- glyph flags, and serials between syllables that stay apart, make no difference
row_same : SameButFlags (glyph 5 0 0 0x12 ∷ glyph 6 1 9 0x23 ∷ []) (glyph 5 0 7 0x52 ∷ glyph 6 1 8 0x13 ∷ [])
unfolding glyph
row_same = (refl, refl)

-- a cluster, a mask's other bits, the kind of a syllable and its border do
row_other_cluster : SameButFlags (glyph 5 0 0 0 ∷ []) (glyph 5 1 0 0 ∷ []) → ⊥
unfolding glyph
row_other_cluster same = absurd (omega (arith, ap (λ cs. slice_index cs 0) same.1))

row_other_mask : SameButFlags (glyph 5 0 0 0 ∷ []) (glyph 5 0 8 0 ∷ []) → ⊥
unfolding glyph
row_other_mask same = absurd (omega (
  arith,
  ap (λ ps. slice_index (map (λ (p : Glyphs).
      slice_index (map (λ g. g.mask) p) 0) ps) 0) same.0,
))

row_other_kind : SameButFlags (glyph 5 0 0 0x12 ∷ []) (glyph 5 0 0 0x13 ∷ []) → ⊥
unfolding glyph
row_other_kind same = absurd (omega (
  arith,
  ap (λ ps. slice_index (map (λ (p : Glyphs). slice_index (map (λ g. g.syllable) p) 0) ps) 0) same.0,
))

row_other_border : SameButFlags (glyph 5 0 0 0x12 ∷ glyph 6 0 0 0x12 ∷ [])
    (glyph 5 0 0 0x12 ∷ glyph 6 0 0 0x22 ∷ []) → ⊥
unfolding glyph
row_other_border same = absurd (omega (arith, ap length same.0))

-- a clear place, and one that is flagged; the ends are none
row_clear : CutWhereClear (glyph 5 0 0 0 ∷ glyph 6 1 2 0 ∷ []) (glyph 5 0 0 0 ∷ []) (glyph 6 1 2 0 ∷ [])
unfolding glyph
row_clear = record {
  parts = refl;
  some_in_front = omega arith;
  some_behind = omega arith;
  clear = record { differ = λ e. absurd (omega (arith, e)); unflagged = refl };
}

row_flagged : CutWhereClear (glyph 5 0 0 0 ∷ glyph 6 1 1 0 ∷ []) (glyph 5 0 0 0 ∷ []) (glyph 6 1 1 0 ∷ []) → ⊥
unfolding glyph
row_flagged cut = false≢true (sym cut.clear.unflagged)

row_end : CutWhereClear (glyph 5 0 0 0 ∷ []) (glyph 5 0 0 0 ∷ []) [] → ⊥
row_end cut = let some = cut.some_behind in absurd (omega arith)

-- two spans, and glyphs that share no cluster
span : ℕ → Span
span n = record { len = n; kind = 1 }

apart_ones : (i j : ℕ) → i < 1 → j < 2 → slice_index (0 ∷ []) i ≢ slice_index (1 ∷ 1 ∷ []) j
apart_ones zero zero il jl same = absurd (omega (arith, same))
apart_ones zero (suc zero) il jl same = absurd (omega (arith, same))
apart_ones zero (suc (suc j)) il jl same = absurd (omega (arith, jl))
apart_ones (suc i) j il jl same = absurd (omega (arith, il))

row_at_spans : CutAtSpans (record {
  spans = span 1 ∷ span 2 ∷ [];
  glyphs =
      glyph 5 0 0 0 ∷ glyph 6 1 0 0 ∷ glyph 7 1 0 0 ∷ [];
})
    (record { spans = span 1 ∷ []; glyphs = glyph 5 0 0 0 ∷ [] })
    (record { spans = span 2 ∷ []; glyphs = glyph 6 1 0 0 ∷ glyph 7 1 0 0 ∷ [] })
unfolding glyph span
row_at_spans = record {
  split = refl;
  parts = refl;
  first = refl;
  second = refl;
  apart = λ i j il jl same. apart_ones i j il jl same;
}

-- a buffer's halves keep their outer contexts and lose the inner ones
context : List ℕ → List ℕ → Glyphs → Buffer
context before after gs = record (new_buffer 9) { before = before; after = after; glyphs = gs }

row_halves : CutBuffer (context (1 ∷ []) (2 ∷ []) (glyph 5 0 0 0 ∷ glyph 6 1 0 0 ∷ []))
    (context (1 ∷ []) [] (glyph 5 0 0 0 ∷ [])) (context [] (2 ∷ []) (glyph 6 1 0 0 ∷ []))
unfolding context glyph
row_halves = record {
  place = 1;
  some_in_front = omega arith;
  some_behind = omega arith;
  front = refl;
  back = refl;
}

-- a run of two marks from place 1, cut before the run and behind it
row_before_marks : CutAroundMarks
    (record { start = 1; end = 3; glyphs = glyph 5 0 0 0 ∷ glyph 6 1 0 0 ∷ glyph 7 1 0 0 ∷ [] })
    (record { start = 1; end = 1; glyphs = glyph 5 0 0 0 ∷ [] })
    (record { start = 0; end = 2; glyphs = glyph 6 1 0 0 ∷ glyph 7 1 0 0 ∷ [] })
row_before_marks = record { place = 1; outside = inl (omega arith); front = refl; back = refl }

row_behind_marks : CutAroundMarks
    (record { start = 0; end = 2; glyphs = glyph 5 0 0 0 ∷ glyph 6 0 0 0 ∷ glyph 7 1 0 0 ∷ [] })
    (record { start = 0; end = 2; glyphs = glyph 5 0 0 0 ∷ glyph 6 0 0 0 ∷ [] })
    (record { start = 0; end = 0; glyphs = glyph 7 1 0 0 ∷ [] })
row_behind_marks = record { place = 2; outside = inr (omega arith); front = refl; back = refl }

-- nothing leaves results side by side
row_nothing : (gs : Glyphs) → LeavesPieces (λ gs. gs) gs
row_nothing gs front back cut = record {
  before = front;
  behind = back;
  pieces = cut;
  first = λ same is. is;
  second = λ same is. is;
}

-- a lookup that looks behind a place: a glyph before another one gets number 9, alone it keeps its own
looks_behind : Glyphs → Glyphs
looks_behind (g ∷ (h ∷ [])) = record g { glyph_id = 9 } ∷ (h ∷ [])
looks_behind gs = gs

number : Glyphs → ℕ
number gs = slice_index (map (λ (g : Glyph). g.glyph_id) gs) 0

shown : Glyphs → Glyphs
shown gs = map unnumbered (map plain gs)

shown_number : (gs : Glyphs) → number (shown gs) ≡ number gs
unfolding number shown
shown_number [] = refl
shown_number (g ∷ gs) = refl

same_number : (gs hs : Glyphs) → SameButFlags gs hs → number gs ≡ number hs
unfolding shown
same_number gs hs same = sym (shown_number gs) ∙ ap number (same_text (order_view gs) (order_view hs) same.0)
    ∙ shown_number hs

row_alone : (front back : Glyphs) → glyph 5 0 0 0 ∷ (glyph 6 1 0 0 ∷ []) ≡ front ++ back
    → 0 < length front
    → 0 < length back → number (looks_behind front) ≡ 9 → ⊥
unfolding glyph looks_behind number
row_alone [] back parts some more nine = absurd (omega (arith, some))
row_alone (g ∷ []) back parts some more nine = absurd (omega (arith, ap number parts, nine))
row_alone (g ∷ (h ∷ [])) back parts some more nine = absurd (omega (arith, ap length parts, more))
row_alone (g ∷ (h ∷ (i ∷ gs))) back parts some more nine = absurd (omega (arith, ap length parts))

row_looks_behind : LeavesPieces looks_behind (glyph 5 0 0 0 ∷ (glyph 6 1 0 0 ∷ [])) → ⊥
unfolding glyph looks_behind number
row_looks_behind leaves =
    let made : MadeOfPieces Glyphs CutWhereClear (MakesOf looks_behind)
    (glyph 5 0 0 0 ∷ (glyph 6 1 0 0 ∷ [])) (glyph 9 0 0 0 ∷ []) (glyph 6 1 0 0 ∷ []) =
    leaves (glyph 9 0 0 0 ∷ []) (glyph 6 1 0 0 ∷ []) (record {
      parts = refl;
      some_in_front = omega arith;
      some_behind = omega arith;
      clear = record { differ = λ e. absurd (omega (arith, e)); unflagged = refl };
    }) in
    let alone = made.first made.before (own_text made.before) in
    row_alone made.before made.behind made.pieces.parts made.pieces.some_in_front made.pieces.some_behind
    (same_number (looks_behind made.before) (glyph 9 0 0 0 ∷ []) alone)

-- THE PAUSES of each shaper, as many as its lists have
row_arabic : shaper_pauses Arabic (Some (record { 0 = codes "Arab" })) ≡ RecordStch ∷ ArabicFallbackShape ∷ []
row_arabic = refl

row_syriac : shaper_pauses Arabic (Some (record { 0 = codes "Syrc" })) ≡ RecordStch ∷ []
row_syriac = refl

row_without : map length
    (shaper_pauses Hangul None ∷ shaper_pauses Hebrew None ∷ shaper_pauses MyanmarZawgyi None
    ∷ shaper_pauses Thai None ∷ []) ≡ 0 ∷ 0 ∷ 0 ∷ 0 ∷ []
row_without = refl

-- those that change glyph by glyph: of each shaper's, in their order
row_by_glyph : map (map is_by_glyph)
    (shaper_pauses Arabic None ∷ shaper_pauses Khmer None ∷ shaper_pauses Myanmar None ∷ shaper_pauses Indic None
    ∷ shaper_pauses Universal None ∷ [])
    ≡ (true ∷ []) ∷ (false ∷ false ∷ true ∷ []) ∷ (false ∷ false ∷ true ∷ []) ∷ (false ∷ false ∷ false ∷ true ∷ [])
    ∷ (false ∷ true ∷ false ∷ true ∷ false ∷ false ∷ true ∷ []) ∷ []
row_by_glyph = refl
