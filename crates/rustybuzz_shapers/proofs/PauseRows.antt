-- The pauses, computed: what they do to a small buffer.
use Rattle.std.proofs.Common.{arith}
use Rattle.std.specs.Prelude.{◌≡◌, ◌==◌, ℕ, ◌+◌, true, false, not, List, [], ◌∷◌, map, None, is_some, Result, Err, IsOk, refl}
use Rattle.shapers_buffer.specs.Glyphs.{Glyph, Glyphs}
use Rattle.shapers_buffer.specs.declared.buffer.refusal.ShaperError.{ShaperError}
use Rattle.shapers_buffer.specs.declared.buffer.refusal.ShaperError.TheVariants.{SpansDontCover, UnknownSyllable}
use Rattle.shapers_buffer.specs.declared.buffer.syllables.Span.{Span}
use Rattle.shapers_base.specs.declared.plan.PlanData.TheVariants.{Arabic, Universal}
use Rattle.shapers_base.specs.declared.plan.arabic.arabic_shape_plan_t.{arabic_shape_plan_t}
use Rattle.shapers_base.specs.declared.plan.hb_ot_shape_plan_t.{hb_ot_shape_plan_t}
use Rattle.shapers_base.specs.declared.plan.universal.use_shape_plan_t.{use_shape_plan_t}
use Rattle.shapers_base.specs.declared.plan.pause.Pause.{Pause}
use Rattle.shapers_base.specs.declared.plan.pause.Pause.TheVariants.{SetupSyllablesIndic, SetupSyllablesKhmer, SetupSyllablesMyanmar, SetupSyllablesUse, InitialReordering, ReorderKhmer, ReorderMyanmar, ReorderUse, FinalReordering, RecordStch, RecordRphf, RecordPref, SyllabicClearVar, ClearSubstitutionFlags, ArabicFallbackShape}
use Rattle.shapers_buffer.specs.Buffer.{Buffer, new_buffer}
use Rattle.shapers_base.specs.Font.{Font}
use Rattle.shapers_buffer.specs.Glyph.{default_glyph}
use Rattle.shapers_arabic.specs.PlanData.{IsArabic}
use Rattle.shapers_arabic.specs.Requests.{arabic_list}
use Rattle.shapers_hangul.specs.Requests.{hangul_list}
use Rattle.shapers_indic.specs.Plan.{is_indic_data}
use Rattle.shapers_indic.specs.Requests.{indic_list, indic_overrides}
use Rattle.shapers_indic_initial.specs.InitialPause.{initial_circles}
use Rattle.shapers_khmer.specs.Khmer.{khmer_circles}
use Rattle.shapers_khmer.specs.Plan.{is_khmer_data}
use Rattle.shapers_khmer.specs.Requests.{khmer_list, khmer_overrides}
use Rattle.shapers_myanmar.specs.Myanmar.{myanmar_circles}
use Rattle.shapers_myanmar.specs.Requests.{myanmar_list}
use Rattle.shapers_syllabic.specs.Circles.{circled}
use Rattle.shapers_syllabic.specs.Reordering.{script_circles}
use Rattle.shapers_universal.specs.PlanData.{is_universal}
use Rattle.shapers_universal.specs.Requests.{universal_list}
use Rattle.shapers_universal.specs.UniversalText.{universal_circles}
use Rattle.rustybuzz_shapers.specs.Pauses.{PauseFits, Paused, RefusesPause, pause_circles, may_change, pauses_in, reordering_of}

-- three glyphs, each with its cluster, byte and mask
abbrev glyph : ℕ → ℕ → ℕ → Glyph
glyph c byte m = record default_glyph { cluster = c; syllable = byte; mask = m }

abbrev text : Buffer
text = record (new_buffer 10) { glyphs = glyph 0 0 8 ∷ glyph 1 0 8 ∷ glyph 2 0 8 ∷ [] }

-- spans for them: two glyphs of kind 0, and one of kind k
abbrev spans : ℕ → List Span
spans k = record { len = 2; kind = 0 } ∷ record { len = 1; kind = k } ∷ []

-- the text cut so, with no broken syllable, or with one
abbrev whole : ℕ → Buffer
whole k = record text { glyphs = glyph 0 0x10 8 ∷ glyph 1 0x10 11 ∷ glyph 2 (0x20 + k) 8 ∷ [] }

abbrev broken : ℕ → Buffer
broken k = record (whole k) { broken = true }

-- what a pause makes of the text and these spans
abbrev Cuts : Pause → ℕ → Buffer → Type 0
Cuts pause k new = (plan : hb_ot_shape_plan_t) (font : Font) → Paused pause plan font (spans k) text new

-- of the kinds of Indic 4 is the broken one
indic_broken : Cuts SetupSyllablesIndic 1 (whole 1) × Cuts SetupSyllablesIndic 2 (whole 2)
    × Cuts SetupSyllablesIndic 3 (whole 3) × Cuts SetupSyllablesIndic 4 (broken 4)
    × Cuts SetupSyllablesIndic 5 (whole 5) × Cuts SetupSyllablesIndic 6 (whole 6)
indic_broken = search arith

-- of the kinds of Khmer 1 is the broken one
khmer_broken : Cuts SetupSyllablesKhmer 1 (broken 1) × Cuts SetupSyllablesKhmer 2 (whole 2)
    × Cuts SetupSyllablesKhmer 3 (whole 3)
khmer_broken = search arith

-- of the kinds of Myanmar 2 is the broken one
myanmar_broken : Cuts SetupSyllablesMyanmar 1 (whole 1) × Cuts SetupSyllablesMyanmar 2 (broken 2)
    × Cuts SetupSyllablesMyanmar 3 (whole 3) × Cuts SetupSyllablesMyanmar 4 (whole 4)
myanmar_broken = search arith

-- clearing takes one field of each glyph back, and the fallback of Arabic does nothing
abbrev full : Glyph
full = record {
  glyph_id = 0x916;
  mask = 0x1F;
  cluster = 5;
  glyph_props = record { 0 = 0xFF };
  lig_props = record { 0 = 0xB2 };
  syllable = 0x24;
  unicode_props = record { 0 = 0x09EC };
  category = 1;
  auxiliary = 3;
}

abbrev full_text : Glyphs → Buffer
full_text gs = record (new_buffer 10) { glyphs = gs; broken = true; stch = true }

abbrev Makes : Pause → Glyph → Type 0
Makes pause g = (plan : hb_ot_shape_plan_t) (font : Font) → Paused pause plan font
    [] (full_text (full ∷ full ∷ [])) (full_text (g ∷ g ∷ []))

cleared : Makes SyllabicClearVar (record full { syllable = 0 })
    × Makes ClearSubstitutionFlags (record full { glyph_props = record { 0 = 0xEF } })
    × Makes ArabicFallbackShape full
cleared = search arith

-- set-up refuses spans that don't cover, and nothing else; the others refuse nothing
abbrev too_short : List Span
too_short = record { len = 2; kind = 0 } ∷ []

refused : (font : Font) → RefusesPause {T = Unit {0}} SetupSyllablesIndic font too_short text (Err SpansDontCover)
    × RefusesPause {T = Unit {0}} SetupSyllablesKhmer font too_short text (Err SpansDontCover)
    × RefusesPause {T = Unit {0}} SetupSyllablesMyanmar font too_short text (Err SpansDontCover)
    × RefusesPause {T = Unit {0}} SetupSyllablesUse font too_short text (Err SpansDontCover)
refused font = (refl, refl, refl, refl)

-- a reordering refuses a syllable of unknown kind by its first place: in Khmer one above 2, in
-- Indic one above 5, in Myanmar one above 3; the universal shaper none
abbrev kinds_of : ℕ → ℕ → Buffer
kinds_of k l = record text { glyphs = glyph 0 (0x10 + k) 8 ∷ glyph 1 (0x10 + k) 8 ∷ glyph 2 (0x20 + l) 8 ∷ [] }

unknown : (font : Font) → (r : Result (Unit {0}) ShaperError) → RefusesPause ReorderKhmer font [] (kinds_of 2 3) r
    → r ≡ Err (UnknownSyllable 2)
unknown font r h = h.0

unknown_in_indic : (font : Font) → (r : Result (Unit {0}) ShaperError) → RefusesPause InitialReordering font
    [] (kinds_of 5 6) r → r ≡ Err (UnknownSyllable 2)
unknown_in_indic font r h = h.0

unknown_in_myanmar : (font : Font) → (r : Result (Unit {0}) ShaperError) → RefusesPause ReorderMyanmar font
    [] (kinds_of 4 4) r → r ≡ Err (UnknownSyllable 0)
unknown_in_myanmar font r h = h.0

known : (font : Font) → (r : Result (Unit {0}) ShaperError) → RefusesPause ReorderMyanmar font [] (kinds_of 3 2) r
    → circled (script_circles myanmar_circles font (kinds_of 3 2)) (kinds_of 3 2).glyphs ≡ (kinds_of 3 2).glyphs
    → IsOk r
known font r h stays = h.1 refl stays

-- the pauses that reorder, and no others
abbrev fifteen : List Pause
fifteen = SetupSyllablesIndic ∷ SetupSyllablesKhmer ∷ SetupSyllablesMyanmar ∷ SetupSyllablesUse ∷ InitialReordering
    ∷ ReorderKhmer ∷ ReorderMyanmar ∷ ReorderUse ∷ FinalReordering ∷ RecordStch ∷ RecordRphf ∷ RecordPref
    ∷ SyllabicClearVar ∷ ClearSubstitutionFlags ∷ ArabicFallbackShape ∷ []

which_reorder : (plan : hb_ot_shape_plan_t) (font : Font) (b : Buffer)
    → map (λ pause. is_some (reordering_of pause plan font b)) fifteen ≡ false ∷ false ∷ false ∷ false ∷ true ∷ true
    ∷ true ∷ true ∷ true ∷ false ∷ false ∷ false ∷ false ∷ false ∷ false ∷ []
which_reorder plan font b = refl

-- which circles each of them opens, where the font has a glyph for them: none but the four before substitutions
circles_are : (plan : hb_ot_shape_plan_t) (font : Font) (b : Buffer)
    → map (λ pause. pause_circles pause plan font b) fifteen ≡ None ∷ None ∷ None ∷ None ∷ initial_circles font b
    ∷ script_circles khmer_circles font b ∷ script_circles myanmar_circles font b
    ∷ script_circles universal_circles font b ∷ None ∷ None ∷ None ∷ None ∷ None ∷ None ∷ None ∷ []
circles_are plan font b = refl

-- which of them may change a buffer: without stretched marks and without a mask for rphf neither
-- records anything, and the fallback of Arabic never does anything
changes_by_arabic : (plan : hb_ot_shape_plan_t) (kept : arabic_shape_plan_t)
    → map (λ pause. may_change pause (let p : hb_ot_shape_plan_t = record plan { plan_data = Arabic kept } in p))
    fifteen ≡ true ∷ true ∷ true ∷ true ∷ true ∷ true ∷ true ∷ true ∷ true ∷ kept.has_stch ∷ false ∷ true ∷ true ∷ true
    ∷ false ∷ []
changes_by_arabic plan kept = refl

changes_by_universal : (plan : hb_ot_shape_plan_t) (kept : use_shape_plan_t)
    → map (λ pause. may_change pause (let p : hb_ot_shape_plan_t = record plan { plan_data = Universal kept } in p))
    fifteen ≡ true ∷ true ∷ true ∷ true ∷ true ∷ true ∷ true ∷ true ∷ true ∷ false ∷ not (kept.rphf_mask == 0) ∷ true
    ∷ true ∷ true ∷ false ∷ []
changes_by_universal plan kept = refl

-- the pauses that shapers ask for, in their order
asked_for : map pauses_in (arabic_list true false ∷ arabic_list false true ∷ hangul_list ∷ indic_list ∷ indic_overrides
    ∷ khmer_list ∷ khmer_overrides ∷ myanmar_list ∷ universal_list ∷ [])
    ≡ (RecordStch ∷ ArabicFallbackShape ∷ []) ∷ (RecordStch ∷ []) ∷ []
    ∷ (SetupSyllablesIndic ∷ InitialReordering ∷ FinalReordering ∷ []) ∷ (SyllabicClearVar ∷ [])
    ∷ (SetupSyllablesKhmer ∷ ReorderKhmer ∷ SyllabicClearVar ∷ []) ∷ []
    ∷ (SetupSyllablesMyanmar ∷ ReorderMyanmar ∷ SyllabicClearVar ∷ [])
    ∷ (SetupSyllablesUse ∷ ClearSubstitutionFlags ∷ RecordRphf ∷ ClearSubstitutionFlags ∷ RecordPref ∷ ReorderUse
    ∷ SyllabicClearVar ∷ []) ∷ []
asked_for = refl

-- what they read of the plan
data_read : (plan : hb_ot_shape_plan_t) → (PauseFits SetupSyllablesUse plan ≡ (is_universal plan.plan_data ≡ true))
    × (PauseFits RecordRphf plan ≡ (is_universal plan.plan_data ≡ true))
    × (PauseFits InitialReordering plan ≡ (is_indic_data plan.plan_data ≡ true))
    × (PauseFits FinalReordering plan ≡ (is_indic_data plan.plan_data ≡ true))
    × (PauseFits ReorderKhmer plan ≡ (is_khmer_data plan.plan_data ≡ true))
    × (PauseFits RecordStch plan ≡ IsArabic plan.plan_data)
data_read = search arith
