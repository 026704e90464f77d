-- What each hook does, of each shaper that has it. Of the others, which lack it by their
-- `has_hook`: nothing changes and the result says so.
use Rattle.std.specs.Prelude.{ℕ, ◌+◌, ◌≤◌, ◌%◌, map, true, false, ◌≡◌, length, Option, None, Some, Result, IsOk}
use Rattle.std.specs.List.{All, AllByRecursion, list_any}
use Rattle.shapers_buffer.specs.Buffer.{Buffer}
use Rattle.shapers_base.specs.Font.{CharacterTables, Font}
use Rattle.shapers_base.specs.Masks.{masks_stored}
use Rattle.shapers_buffer.specs.Glyph.{clusters, characters}
use Rattle.shapers_buffer.specs.Refusals.{Refuses, RefusesLength}
use Rattle.shapers_arabic.specs.Marks as arabic
use Rattle.shapers_arabic.specs.Marks.{marks_merged, marks_reordered}
use Rattle.shapers_arabic.specs.JoinedText.{AreCharacters, CutsAsHalves, buffer_joined}
use Rattle.shapers_arabic.specs.PlanData.{arabic_plan, breaks_of, IsArabic, masks_of}
use Rattle.shapers_buffer.specs.Glyphs.{Glyphs}
use Rattle.shapers_buffer.specs.declared.buffer.refusal.ShaperError.{ShaperError}
use Rattle.shapers_base.specs.declared.plan.hb_ot_shape_plan_t.{hb_ot_shape_plan_t}
use Rattle.shapers_base.specs.declared.plan.PlanData.{PlanData}
use Rattle.shapers_base.specs.declared.plan.PlanData.TheVariants as data_of
use Rattle.shapers_base.specs.declared.plan.Preprocess.{Preprocess}
use Rattle.shapers_base.specs.declared.plan.Preprocess.TheVariants.{Done, CallerRunsVowelConstraints}
use Rattle.shapers_clusters.specs.Steps.{after_step}
use Rattle.shapers_hangul.specs.Hangul as hangul
use Rattle.shapers_hangul.specs.HangulLaws.{AllKept, KeepsClusters, KeepsGlyphFlags, SpellsByUnits, SpellsSame}
use Rattle.shapers_hangul.specs.Masks.{is_hangul_data, jamo_masks, with_jamo_masks}
use Rattle.shapers_indic.specs.Characters.{composed_in_indic, decomposed_in_indic}
use Rattle.shapers_indic.specs.Plan.{indic_plan}
use Rattle.shapers_khmer.specs.Khmer.{decomposed_in_khmer}
use Rattle.shapers_khmer.specs.Plan.{khmer_masks}
use Rattle.shapers_stretch.specs.Recorded.{start_of}
use Rattle.shapers_stretch.specs.Stretch.{marks_stretched, stretch_refusal}
use Rattle.shapers_stretch.specs.StretchLaws.{AreCopies, IsLaidOver}
use Rattle.shapers_syllabic.specs.Characters.{composed_behind, with_category, with_category_and_position}
use Rattle.shapers_universal.specs.PlanData.{arabic_of, is_universal, universal_plan}
use Rattle.shapers_universal.specs.UniversalMasks.{CanJoin, MasksAreSet}
use Rattle.shapers_text.specs.Hebrew as hebrew
use Rattle.shapers_text.specs.Hebrew.{composed_in_hebrew, hebrew_mark_step}
use Rattle.shapers_text.specs.Thai.{is_sara_am, glyphs_in_two}
use Rattle.shapers_text.specs.ThaiForms.{asks_for_forms, preprocessed_in_thai}
use Rattle.shapers_text.specs.ThaiLaws.{ClustersInTwo, FlagsInTwo, KeptInTwo}
use Rattle.rustybuzz_shapers.specs.Standing.{Lacking, has_hook}
use Rattle.rustybuzz_shapers.specs.declared.shaper.Hook.TheVariants.{PreprocessText, PostprocessGlyphs, SetupMasks, ReorderMarks}
use Rattle.rustybuzz_shapers.specs.declared.shaper.hb_ot_shaper_t.{hb_ot_shaper_t}
use Rattle.rustybuzz_shapers.specs.declared.shaper.hb_ot_shaper_t.TheVariants.{Arabic, Hangul, Hebrew, Indic, Khmer, Myanmar, Thai, Universal}

-- what the shaper keeps in the plan, if it keeps anything
abbrev pub data_created : hb_ot_shaper_t → hb_ot_shape_plan_t → Option PlanData
data_created Arabic plan =
    Some (data_of.Arabic (arabic_plan plan.stretch_start plan.break_flags plan.ot_map))
data_created Hangul plan = Some (data_of.Hangul (record { mask_array = jamo_masks plan.ot_map }))
data_created Indic plan =
    Some (data_of.Indic (indic_plan plan.base_search plan.zero_context plan.script plan.ot_map))
data_created Khmer plan = Some (data_of.Khmer (record { mask_array = khmer_masks plan.ot_map }))
data_created Universal plan =
    let kept = universal_plan plan.stretch_start plan.break_flags plan.script plan.ot_map in
    Some (data_of.Universal kept)
data_created _ plan = None

-- none of the masks in a plan's data touches a glyph flag bit
abbrev pub MasksOffFlags : PlanData → Type 0
MasksOffFlags kept = AllByRecursion (λ mask. mask % 8 ≡ 0) (masks_stored kept)

-- the plan with these data, if there are any
abbrev pub with_created : Option PlanData → hb_ot_shape_plan_t → hb_ot_shape_plan_t
with_created None plan = plan
with_created (Some kept) plan = record plan { plan_data = kept }

-- the plan's data are of the kind that the shaper's hooks read; the others read none
abbrev pub PlanFits : hb_ot_shaper_t → hb_ot_shape_plan_t → Type 0
PlanFits Arabic plan = IsArabic plan.plan_data
PlanFits Hangul plan = is_hangul_data plan.plan_data ≡ true
PlanFits Universal plan = is_universal plan.plan_data ≡ true
PlanFits _ plan = Unit {0}

-- what setting masks requires of the glyphs: where letters join, they are characters
abbrev pub GlyphsFit : hb_ot_shaper_t → hb_ot_shape_plan_t → Glyphs → Type 0
GlyphsFit Arabic plan gs = AreCharacters gs
GlyphsFit Universal plan gs = CanJoin (arabic_of plan.plan_data) gs
GlyphsFit _ plan gs = Unit {0}

-- what reordering marks requires of the stretch: for Arabic at most 32 places
abbrev pub MarksFit : hb_ot_shaper_t → ℕ → ℕ → Type 0
MarksFit Arabic start end = end ≤ start + 32
MarksFit _ start end = Unit {0}

-- what postprocessing requires: for Arabic its data in the plan, and glyph numbers of a font
abbrev pub PostprocessFits : hb_ot_shaper_t → hb_ot_shape_plan_t → Glyphs → Type 0
PostprocessFits Arabic plan gs = IsArabic plan.plan_data × All (λ g. g.glyph_id ≤ 65535) gs
PostprocessFits _ plan gs = Unit {0}

-- what preprocessing returns
abbrev pub preprocess_answer : hb_ot_shaper_t → Option Preprocess
preprocess_answer Hangul = Some Done
preprocess_answer Indic = Some CallerRunsVowelConstraints
preprocess_answer Thai = Some Done
preprocess_answer Universal = Some CallerRunsVowelConstraints
preprocess_answer _ = None

-- the buffer before and after preprocessing
abbrev pub Preprocessed : hb_ot_shaper_t → hb_ot_shape_plan_t → Font → Buffer → Buffer → Type 0
Preprocessed Hangul plan font old new = new ≡ hangul.rewritten_by plan.break_flags font old
Preprocessed Indic plan font old new = new ≡ old
Preprocessed Thai plan font old new = new ≡ preprocessed_in_thai plan font old
Preprocessed Universal plan font old new = new ≡ old
Preprocessed shaper plan font old new = Lacking (has_hook shaper PreprocessText) (new ≡ old)

-- its clusters and glyph flags, that no glyph is lost, and that Hangul's units spell what they take
abbrev pub PreprocessKeeps : hb_ot_shaper_t → hb_ot_shape_plan_t → Font → Buffer → Buffer → Type 0
PreprocessKeeps Hangul plan font old new =
    KeepsClusters font old new × SpellsSame old new × KeepsGlyphFlags font old new
    × SpellsByUnits font old new
PreprocessKeeps Indic plan font old new = new ≡ old
PreprocessKeeps Thai plan font old new =
    ClustersInTwo old.level (characters old.glyphs) (clusters old.glyphs) (clusters new.glyphs)
    × KeptInTwo (asks_for_forms plan) old.glyphs new.glyphs
    × FlagsInTwo old.glyphs new.glyphs
PreprocessKeeps Universal plan font old new = new ≡ old
PreprocessKeeps shaper plan font old new = Lacking (has_hook shaper PreprocessText) (new ≡ old)

-- when it refuses: Hangul and Thai as a growth does, and never where all stays; the others never
abbrev pub RefusesPreprocess :
    {T : Type 0} → hb_ot_shaper_t → Font → Buffer → Result T ShaperError → Type 0
RefusesPreprocess Hangul font old r =
    RefusesLength old.max_len (length (hangul.rewritten font old).glyphs) r
    × (AllKept font old → IsOk r)
RefusesPreprocess Indic font old r = IsOk r
RefusesPreprocess Thai font old r =
    RefusesLength old.max_len (length (glyphs_in_two old.glyphs)) r
    × (list_any (λ g. is_sara_am g.glyph_id) old.glyphs ≡ false → IsOk r)
RefusesPreprocess Universal font old r = IsOk r
RefusesPreprocess shaper font old r = Lacking (has_hook shaper PreprocessText) (IsOk r)

-- the buffer before and after postprocessing
abbrev pub Postprocessed : hb_ot_shaper_t → hb_ot_shape_plan_t → Font → Buffer → Buffer → Type 0
Postprocessed Arabic plan font old new = new ≡ marks_stretched font (start_of plan.plan_data) old
Postprocessed shaper plan font old new = Lacking (has_hook shaper PostprocessGlyphs) (new ≡ old)

-- what it keeps: Arabic's glyphs are copies of old ones, and what is laid is as wide as it says
abbrev pub PostprocessKeeps :
    hb_ot_shaper_t → hb_ot_shape_plan_t → Font → Buffer → Buffer → Type 0
PostprocessKeeps Arabic plan font old new =
    AreCopies old.glyphs new.glyphs × IsLaidOver font (start_of plan.plan_data) old new
PostprocessKeeps shaper plan font old new = Lacking (has_hook shaper PostprocessGlyphs) (new ≡ old)

-- when it refuses: Arabic if a number doesn't fit, then as a growth does; without stretches never
abbrev pub RefusesPostprocess :
    {T : Type 0} → hb_ot_shaper_t → hb_ot_shape_plan_t → Font → Buffer → Result T ShaperError →
    Type 0
RefusesPostprocess Arabic plan font old r =
    let choice = start_of plan.plan_data in
    Refuses (stretch_refusal font choice old) old.max_len
    (length (marks_stretched font choice old).glyphs) r × (old.stch ≡ false → IsOk r)
RefusesPostprocess shaper plan font old r = Lacking (has_hook shaper PostprocessGlyphs) (IsOk r)

-- what composing two characters returns: the character that they compose to, if they do; of the
-- shapers that leave it to the tables None
abbrev pub compose_answer :
    hb_ot_shaper_t → hb_ot_shape_plan_t → CharacterTables → ℕ → ℕ → Option (Option ℕ)
compose_answer Hebrew plan tables a b =
    Some (composed_in_hebrew (tables.composed a b) plan.has_gpos_mark a b)
compose_answer Indic plan tables a b = Some (composed_in_indic tables a b)
compose_answer Khmer plan tables a b = Some (composed_behind tables a b)
compose_answer Universal plan tables a b = Some (composed_behind tables a b)
compose_answer _ plan tables a b = None

-- what decomposing a character returns: the two that it decomposes to, if it does; of the shapers
-- that leave it to the tables None
abbrev pub decompose_answer : hb_ot_shaper_t → CharacterTables → ℕ → Option (Option (ℕ × ℕ))
decompose_answer Indic tables ab = Some (decomposed_in_indic tables ab)
decompose_answer Khmer tables ab = Some (decomposed_in_khmer tables ab)
decompose_answer _ tables ab = None

-- the buffer before and after masks are set
abbrev pub MasksSet :
    hb_ot_shaper_t → hb_ot_shape_plan_t → CharacterTables → Buffer → Buffer → Type 0
MasksSet Arabic plan tables old new =
    let breaks = breaks_of plan.plan_data in
    let masks = masks_of plan.plan_data in
    (new ≡ buffer_joined breaks masks plan.script tables.joining tables.general old)
    × CutsAsHalves plan.script tables.joining tables.general old new
MasksSet Hangul plan tables old new = new ≡ with_jamo_masks plan.plan_data old
MasksSet Indic plan tables old new =
    new ≡ record old { glyphs = map (with_category_and_position tables) old.glyphs }
MasksSet Khmer plan tables old new =
    new ≡ record old { glyphs = map (with_category tables) old.glyphs }
MasksSet Myanmar plan tables old new =
    new ≡ record old { glyphs = map (with_category tables) old.glyphs }
MasksSet Universal plan tables old new =
    MasksAreSet (arabic_of plan.plan_data) plan.script tables old new
MasksSet shaper plan tables old new = Lacking (has_hook shaper SetupMasks) (new ≡ old)

-- the buffer before and after the marks from start to end are reordered
abbrev pub MarksReordered : hb_ot_shaper_t → ℕ → ℕ → Buffer → Buffer → Type 0
MarksReordered Arabic start end old new =
    new ≡ record old
    { glyphs = marks_reordered start end (marks_merged old.level start end old.glyphs) }
MarksReordered Hebrew start end old new =
    new ≡ record old
    { glyphs = after_step old.level (hebrew_mark_step start end old.glyphs) old.glyphs }
MarksReordered shaper start end old new = Lacking (has_hook shaper ReorderMarks) (new ≡ old)

-- that no mark is lost, exact cuts, the cluster law and the flag law
abbrev pub MarksKeep : hb_ot_shaper_t → ℕ → ℕ → Buffer → Buffer → Type 0
MarksKeep Arabic start end old new = arabic.ArabicMarksReordered start end old new
MarksKeep Hebrew start end old new = hebrew.HebrewMarksReordered start end old new
MarksKeep shaper start end old new = Lacking (has_hook shaper ReorderMarks) (new ≡ old)
