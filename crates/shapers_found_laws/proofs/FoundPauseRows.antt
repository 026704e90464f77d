-- Rows for the stages of a shaper of syllables, written out from what they say.
use Rattle.std.proofs.Common.{◌≡◌, ℕ, true, false, [], ◌∷◌, refl, Option, None, Some}
use Rattle.std.specs.Prelude.{map}
use Rattle.std.specs.List.{AllZip}
use Rattle.std.proofs.lemmas.Bool.{false≢true}
use Rattle.shapers_base.specs.declared.plan.pause.Pause.{Pause}
use Rattle.shapers_base.specs.declared.plan.pause.Pause.TheVariants.{SetupSyllablesIndic, SetupSyllablesKhmer, SetupSyllablesMyanmar, SetupSyllablesUse, InitialReordering, ReorderKhmer, ReorderMyanmar, ReorderUse, FinalReordering, RecordStch, RecordRphf, RecordPref, SyllabicClearVar, ClearSubstitutionFlags, ArabicFallbackShape}
use Rattle.shapers_buffer.specs.Buffer.{Buffer, new_buffer}
use Rattle.shapers_buffer.specs.Glyph.{default_glyph}
use Rattle.shapers_buffer.specs.Glyphs.{Glyph, Glyphs}
use Rattle.shapers_plan.specs.declared.ot_map.lookups.Stage.{Stage}
use Rattle.shapers_plan.specs.declared.ot_map.lookups.StageLookup.{StageLookup}
use Rattle.shapers_found_laws.specs.FoundPauses.{LookupsGainNone, ends_reordering, reorders}
use Rattle.shapers_found_laws.specs.FoundSyllables.{GainsNone}

row_reorders : map reorders (InitialReordering ∷ ReorderKhmer ∷ ReorderMyanmar ∷ ReorderUse ∷ FinalReordering ∷ [])
    ≡ true ∷ true ∷ true ∷ true ∷ true ∷ []
row_reorders = refl

row_others : map reorders (SetupSyllablesIndic ∷ SetupSyllablesKhmer ∷ SetupSyllablesMyanmar ∷ SetupSyllablesUse
    ∷ RecordStch ∷ RecordRphf ∷ RecordPref ∷ SyllabicClearVar ∷ ClearSubstitutionFlags ∷ ArabicFallbackShape ∷ [])
    ≡ false ∷ false ∷ false ∷ false ∷ false ∷ false ∷ false ∷ false ∷ false ∷ false ∷ []
row_others = refl

stage : Option Pause → Stage
stage pause = record { start = 0; end = 0; pause = pause }

row_stages : map ends_reordering (stage None ∷ stage (Some SyllabicClearVar) ∷ stage (Some ReorderKhmer) ∷ [])
    ≡ false ∷ false ∷ true ∷ []
unfolding stage
row_stages = refl

-- a lookup that does nothing, and one that makes each glyph a Repha
same-glyphs : (k : ℕ) (gs : Glyphs) → AllZip (GainsNone k) gs gs
same-glyphs k [] = tt
same-glyphs k (g ∷ gs) = (record { byte = refl; gained = λ e. e }, same-glyphs k gs)

row_idle : LookupsGainNone 14 (λ lookup b. b)
row_idle = λ lookup b. same-glyphs 14 b.glyphs

repha : Glyph → Glyph
repha g = record g { category = 14 }

with_rephas : Buffer → Buffer
with_rephas b = record b { glyphs = map repha b.glyphs }

one : Buffer
one = record (new_buffer 9) { glyphs = default_glyph ∷ [] }

row_made : (lookup : StageLookup) → LookupsGainNone 14 (λ lookup b. with_rephas b) → ⊥
unfolding repha with_rephas one
row_made lookup gains = false≢true ((gains lookup one).0.gained refl)
