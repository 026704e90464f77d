-- Set-ups of syllables that are found or written, computed: which pauses they are, what bytes make of
-- a small text, and what is refused.
use Rattle.std.proofs.Common.{arith}
use Rattle.std.specs.Prelude.{◌≡◌, ℕ, ◌+◌, Bool, true, false, List, [], ◌∷◌, map, Ok, Err, refl}
use Rattle.std.proofs.lemmas.Bool.{false≢true}
use Rattle.shapers_buffer.specs.Buffer.{Buffer, new_buffer}
use Rattle.shapers_buffer.specs.Glyph.{default_glyph}
use Rattle.shapers_buffer.specs.Glyphs.{Glyph, Glyphs}
use Rattle.shapers_buffer.specs.declared.buffer.refusal.ShaperError.TheVariants.{Memory, SpansDontCover}
use Rattle.shapers_buffer.specs.declared.buffer.syllables.Span.{Span}
use Rattle.shapers_base.specs.Font.{Font}
use Rattle.shapers_base.specs.declared.plan.hb_ot_shape_plan_t.{hb_ot_shape_plan_t}
use Rattle.shapers_base.specs.declared.plan.pause.Pause.{Pause}
use Rattle.shapers_base.specs.declared.plan.pause.Pause.TheVariants.{SetupSyllablesIndic, SetupSyllablesKhmer, SetupSyllablesMyanmar, SetupSyllablesUse, InitialReordering, ReorderKhmer, ReorderMyanmar, ReorderUse, FinalReordering, RecordStch, RecordRphf, RecordPref, SyllabicClearVar, ClearSubstitutionFlags, ArabicFallbackShape}
use Rattle.shapers_spans.specs.Cuts.{AreSpansOf}
use Rattle.shapers_spans.specs.Indic.{indic_grammar}
use Rattle.shapers_spans.specs.Khmer.{khmer_grammar}
use Rattle.shapers_spans.specs.Myanmar.{myanmar_grammar}
use Rattle.shapers_spans.specs.Universal.{universal_grammar}
use Rattle.rustybuzz_shapers.specs.FoundSyllables.{FoundSpans, RefusesFound, setup_written, sets_up}

-- four pauses of fifteen
four : map sets_up (SetupSyllablesIndic ∷ SetupSyllablesKhmer ∷ SetupSyllablesMyanmar ∷ SetupSyllablesUse ∷ [])
    ≡ true ∷ true ∷ true ∷ true ∷ []
four = refl

eleven : map sets_up (InitialReordering ∷ ReorderKhmer ∷ ReorderMyanmar ∷ ReorderUse ∷ FinalReordering ∷ RecordStch
    ∷ RecordRphf ∷ RecordPref ∷ SyllabicClearVar ∷ ClearSubstitutionFlags ∷ ArabicFallbackShape ∷ [])
    ≡ false ∷ false ∷ false ∷ false ∷ false ∷ false ∷ false ∷ false ∷ false ∷ false ∷ false ∷ []
eleven = refl

-- each by its own grammar; the others have no spans
by_grammar : (gs : Glyphs) (spans : List Span) →
    (FoundSpans SetupSyllablesIndic gs spans ≡ AreSpansOf indic_grammar gs spans)
    × ((FoundSpans SetupSyllablesKhmer gs spans ≡ AreSpansOf khmer_grammar gs spans)
    × ((FoundSpans SetupSyllablesMyanmar gs spans ≡ AreSpansOf myanmar_grammar gs spans)
    × (FoundSpans SetupSyllablesUse gs spans ≡ AreSpansOf universal_grammar gs spans)))
by_grammar gs spans = (refl, (refl, (refl, refl)))

no_spans : (gs : Glyphs) → FoundSpans InitialReordering gs [] × (FoundSpans RecordStch gs [] × FoundSpans ReorderUse gs [])
no_spans gs = (refl, (refl, refl))

-- three glyphs, each with its cluster, byte and mask: two in a syllable of kind 0, and one of kind k
abbrev glyph : ℕ → ℕ → ℕ → Glyph
glyph c byte m = record default_glyph { cluster = c; syllable = byte; mask = m }

abbrev text : ℕ → Buffer
text k = record (new_buffer 10) { glyphs = glyph 0 0x10 8 ∷ glyph 1 0x10 8 ∷ glyph 2 (0x20 + k) 8 ∷ [] }

-- set up, with no broken syllable, or with one
abbrev whole : ℕ → Buffer
whole k = record (text k) { glyphs = glyph 0 0x10 8 ∷ glyph 1 0x10 11 ∷ glyph 2 (0x20 + k) 8 ∷ [] }

abbrev broken : ℕ → Buffer
broken k = record (whole k) { broken = true }

-- what the bytes make of the text
abbrev Sets : Pause → ℕ → Buffer → Type 0
Sets pause k new = (plan : hb_ot_shape_plan_t) → setup_written pause plan (text k) ≡ new

indic_broken : Sets SetupSyllablesIndic 1 (whole 1) × Sets SetupSyllablesIndic 2 (whole 2)
    × Sets SetupSyllablesIndic 3 (whole 3) × Sets SetupSyllablesIndic 4 (broken 4)
    × Sets SetupSyllablesIndic 5 (whole 5)
indic_broken = search arith

khmer_broken : Sets SetupSyllablesKhmer 1 (broken 1) × Sets SetupSyllablesKhmer 2 (whole 2)
khmer_broken = search arith

myanmar_broken : Sets SetupSyllablesMyanmar 1 (whole 1) × Sets SetupSyllablesMyanmar 2 (broken 2)
    × Sets SetupSyllablesMyanmar 3 (whole 3)
myanmar_broken = search arith

-- the other pauses set up nothing
others_stay : Sets ReorderKhmer 1 (text 1) × Sets SyllabicClearVar 2 (text 2) × Sets RecordPref 3 (text 3)
others_stay = search arith

-- a set-up of what is found refuses nothing; the others do as with no spans
refuses_none : (font : Font) (b : Buffer) → (RefusesFound {T = Bool} SetupSyllablesIndic font b (Err Memory) → ⊥)
    × ((RefusesFound {T = Bool} SetupSyllablesUse font b (Err SpansDontCover) → ⊥)
    × RefusesFound {T = Bool} SetupSyllablesKhmer font b (Ok false))
refuses_none font b = ((λ k. false≢true k), ((λ k. false≢true k), refl))

record_refuses_none : (font : Font) (b : Buffer) → RefusesFound {T = Bool} RecordStch font b (Err Memory) → ⊥
record_refuses_none font b k = false≢true k
