-- How long a text gets on the way from its characters to its glyphs, and which length is enough.
use Rattle.std.specs.Prelude.{ℕ, ◌+◌, ◌*◌, ◌≡◌, ◌≤◌, ◌≢◌, List, [], fold, length, Option, Result, Err}
use Rattle.std.specs.Option.{option_map_or}
use Rattle.shapers_buffer.specs.Buffer.{Buffer}
use Rattle.shapers_buffer.specs.Glyphs.{Glyph}
use Rattle.shapers_buffer.specs.declared.buffer.glyph_props.GlyphProps.{GlyphProps}
use Rattle.shapers_buffer.specs.declared.buffer.level.Direction.{Direction}
use Rattle.shapers_buffer.specs.declared.buffer.refusal.ShaperError.TheVariants.{TooLong}
use Rattle.rustybuzz_shapers.specs.Lengths.{pause_growth}
use Rattle.rustybuzz_shapers.specs.Stretched.{glyphs_added}
use Rattle.rustybuzz_shapers.specs.declared.shaper.checked.CallError.{CallError}
use Rattle.rustybuzz_shapers.specs.declared.shaper.checked.CallError.TheVariants as call
use Rattle.rustybuzz_shapers.specs.declared.shaper.hb_ot_shaper_t.{hb_ot_shaper_t}
use Rattle.rustybuzz_shapers.specs.declared.shaper.hb_ot_shaper_t.TheVariants.{Hangul, Indic, Thai, Universal}
use Rattle.shapers_plan.specs.declared.ot_map.lookups.Stage.{Stage}
use Rattle.shapers_plan.specs.declared.ot_map.lookups.StageLookup.{StageLookup}
use Rattle.shapers_pipeline.specs.ClusterLaws.{LookupsKeep}
use Rattle.shapers_pipeline.specs.Lookups.{LookupGrows, lookups_of_stage, text_noted}
use Rattle.shapers_pipeline.specs.Positioned.{Positioning, text_positioned, text_shaped}
use Rattle.shapers_pipeline.specs.Prepared.{Preparation, text_prepared}
use Rattle.shapers_pipeline.specs.Refusals.{IsStopped}
use Rattle.shapers_pipeline.specs.ShapeLaws.{PositionsKeep}
use Rattle.shapers_pipeline.specs.Stages.{StagesRun, Substitution}

-- How many times as long preprocessing makes a text at most: for Hangul three jamo for one
-- character, for Thai and Lao two characters for a SARA AM; vowels that are parted get less than a
-- circle each.
abbrev pub preprocess_growth : hb_ot_shaper_t → ℕ
preprocess_growth Hangul = 3
preprocess_growth Thai = 2
preprocess_growth Indic = 2
preprocess_growth Universal = 2
preprocess_growth shaper = 1

-- The length of n characters before the lookups, at most: a circle in front, preprocessing, and in
-- normalization nine for each.
abbrev pub prepared_bound : Option hb_ot_shaper_t → ℕ → ℕ
prepared_bound shaper n = (n + 1) * option_map_or preprocess_growth shaper 1 * 9

-- of n glyphs behind these lookups, each of which makes a text at most so many times as long
abbrev pub looked_up_bound : (StageLookup → ℕ) → List StageLookup → ℕ → ℕ
looked_up_bound growth list n = fold (λ n lookup. n * growth lookup) n list

-- behind a stage: its lookups, and the circles of its pause
abbrev pub stage_bound : (StageLookup → ℕ) → List StageLookup → ℕ → Stage → ℕ
stage_bound growth list n s =
    looked_up_bound growth (lookups_of_stage s list) n * option_map_or pause_growth s.pause 1

abbrev pub stages_bound : (StageLookup → ℕ) → List StageLookup → List Stage → ℕ → ℕ
stages_bound growth list ss n = fold (stage_bound growth list) n ss

-- of n characters behind all stages; positions and hidden glyphs add none
abbrev pub shaped_bound :
    Option hb_ot_shaper_t → (StageLookup → ℕ) → List StageLookup → List Stage → ℕ → ℕ
shaped_bound shaper growth list ss n = stages_bound growth list ss (prepared_bound shaper n)

-- lookups that grow a text by no more than this
abbrev pub LookupsGrow : (StageLookup → ℕ) → (StageLookup → Buffer → Buffer) → Type 0
LookupsGrow growth substituted = (lookup : StageLookup) (b : Buffer) → b.positions ≡ [] →
    LookupGrows (growth lookup) b (substituted lookup b)

-- no text before the lookups is longer
abbrev pub PreparationGrows : Type 0
PreparationGrows = (p : Preparation) (noted : Glyph → GlyphProps) (b : Buffer) →
    length (text_noted noted (text_prepared p b)).glyphs
    ≤ prepared_bound p.shaper (length b.glyphs)

-- and where there is room for so many glyphs, its preparation finds no text too long
abbrev pub PreparationHasRoom : Type 0
PreparationHasRoom = (p : Preparation) (old new : Buffer) (e : CallError) →
    prepared_bound p.shaper (length old.glyphs) ≤ old.max_len → IsStopped p old new e →
    e ≢ call.Refused TooLong

-- none behind stages
abbrev pub StagesGrow : Type 0
StagesGrow = (r : Substitution) (growth : StageLookup → ℕ) (ss : List Stage) (old new : Buffer) →
    LookupsKeep r.substituted → LookupsGrow growth r.substituted → old.positions ≡ [] →
    StagesRun r ss old new →
    length new.glyphs ≤ stages_bound growth r.list ss (length old.glyphs)

-- What comes behind these adds the copies of Arabic's tiles alone, where marks stretch: so many are
-- added to what is no longer than the text was.
abbrev pub stretch_copies : Positioning → Buffer → ℕ
stretch_copies p text = option_map_or (λ shaper. glyphs_added shaper p.font text) p.shaper 0

abbrev pub FinishGrows : Type 0
FinishGrows = (p : Positioning) (direction : Direction) (b : Buffer) → PositionsKeep p →
    let text = text_positioned p b in
    (length text.glyphs ≤ length b.glyphs)
    × (length (text_shaped p direction b).glyphs ≡ length text.glyphs + stretch_copies p text)

-- So of a text all the way: old its characters, mid its glyphs behind the lookups.
abbrev pub ShapingGrows : Type 0
ShapingGrows = (p : Preparation) (noted : Glyph → GlyphProps) (r : Substitution)
    (growth : StageLookup → ℕ) (ss : List Stage) (q : Positioning) (direction : Direction)
    (old mid : Buffer) →
    LookupsKeep r.substituted → LookupsGrow growth r.substituted → PositionsKeep q →
    (text_prepared p old).positions ≡ [] →
    StagesRun r ss (text_noted noted (text_prepared p old)) mid →
    length (text_shaped q direction mid).glyphs
    ≤ shaped_bound p.shaper growth r.list ss (length old.glyphs)
    + stretch_copies q (text_positioned q mid)

-- a call that didn't find the text too long
abbrev pub NotTooLong : {T : Type 0} → Result T CallError → Type 0
NotTooLong r = r ≢ Err (call.Refused TooLong)
