-- Hooks that a shaper lacks, computed: nothing changes, and the result says so; and what preprocessing, composing and
-- decomposing return.
use Rattle.std.proofs.Common.{arith}
use Rattle.std.specs.Prelude.{◌≡◌, ℕ, [], ◌∷◌, map, None, Some, false, refl, true}
use Rattle.shapers_buffer.specs.Buffer.{Buffer}
use Rattle.shapers_buffer.specs.declared.buffer.category.hb_unicode_general_category_t.TheVariants.{Lo, Mn}
use Rattle.shapers_base.specs.Font.{CharacterTables, Font}
use Rattle.shapers_base.specs.declared.plan.joining.hb_arabic_joining_type_t.TheVariants.{U}
use Rattle.shapers_base.specs.declared.plan.hb_ot_shape_plan_t.{hb_ot_shape_plan_t}
use Rattle.shapers_base.specs.declared.plan.PlanData.{PlanData}
use Rattle.shapers_base.specs.declared.plan.PlanData.TheVariants as data_of
use Rattle.shapers_indic.specs.Plan.{indic_plan}
use Rattle.shapers_khmer.specs.Plan.{khmer_masks}
use Rattle.shapers_base.specs.declared.plan.Preprocess.TheVariants.{CallerRunsVowelConstraints, Done}
use Rattle.shapers_stretch.specs.Recorded.{start_of}
use Rattle.shapers_stretch.specs.Stretch.{marks_stretched}
use Rattle.rustybuzz_shapers.specs.Hooks.{MarksReordered, MasksSet, Postprocessed, Preprocessed, compose_answer, data_created, decompose_answer, preprocess_answer, with_created}
use Rattle.rustybuzz_shapers.specs.Standing.{Lacking}
use Rattle.rustybuzz_shapers.specs.declared.shaper.hb_ot_shaper_t.TheVariants.{Arabic, Hangul, Hebrew, Indic, Khmer, Myanmar, MyanmarZawgyi, Thai, Universal}

-- a hook that is lacked changes nothing
lacks : {X : Type 0} {x : X} → Lacking false (x ≡ x)
lacks = (refl, refl)

-- Thai and Hangul rewrite the text; Indic and the universal shaper leave it to the caller; the others have no such hook
answers : map preprocess_answer (Arabic ∷ Hangul ∷ Hebrew ∷ Indic ∷ Khmer ∷ Myanmar ∷ MyanmarZawgyi ∷ Thai ∷ Universal
    ∷ []) ≡ None ∷ Some Done ∷ None ∷ Some CallerRunsVowelConstraints ∷ None ∷ None ∷ None ∷ Some Done
    ∷ Some CallerRunsVowelConstraints ∷ []
answers = refl

-- no data in the plan
no_data : (plan : hb_ot_shape_plan_t)
    → map (λ shaper. data_created shaper plan) (Hebrew ∷ Myanmar ∷ MyanmarZawgyi ∷ Thai ∷ []) ≡ None ∷ None ∷ None
    ∷ None ∷ []
no_data plan = refl

-- where there are none the plan stays, and else they take the place of what it had
plan_stays : (plan : hb_ot_shape_plan_t) → with_created None plan ≡ plan
plan_stays plan = refl

plan_changes : (plan : hb_ot_shape_plan_t) (kept : PlanData) → with_created (Some kept) plan
    ≡ record plan { plan_data = kept }
plan_changes plan kept = refl

-- where letters join and where they don't
data_of_khmer : (plan : hb_ot_shape_plan_t)
    → data_created Khmer plan ≡ Some (data_of.Khmer (record { mask_array = khmer_masks plan.ot_map }))
data_of_khmer plan = refl

data_of_indic : (plan : hb_ot_shape_plan_t)
    → data_created Indic plan ≡ Some (data_of.Indic (indic_plan plan.base_search plan.zero_context plan.script plan.ot_map))
data_of_indic plan = refl

-- the text stays before normalization, also where it is left to the caller
text_stays : (plan : hb_ot_shape_plan_t) (font : Font) (b : Buffer) → Preprocessed Arabic plan font b b
    × Preprocessed Hebrew plan font b b × Preprocessed Indic plan font b b × Preprocessed Khmer plan font b b
    × Preprocessed Myanmar plan font b b × Preprocessed MyanmarZawgyi plan font b b
    × Preprocessed Universal plan font b b
text_stays = search (arith, lacks)

-- the glyphs stay after positioning
glyphs_stay : (plan : hb_ot_shape_plan_t) (font : Font) (b : Buffer) → Postprocessed Hangul plan font b b
    × Postprocessed Hebrew plan font b b × Postprocessed Indic plan font b b × Postprocessed Khmer plan font b b
    × Postprocessed Myanmar plan font b b × Postprocessed MyanmarZawgyi plan font b b × Postprocessed Thai plan font b b
    × Postprocessed Universal plan font b b
glyphs_stay = search (arith, lacks)

-- but for Arabic's marks that stretch
marks_stretch : (plan : hb_ot_shape_plan_t) (font : Font) (b : Buffer)
    → Postprocessed Arabic plan font b (marks_stretched font (start_of plan.plan_data) b)
marks_stretch plan font b = refl

-- tables in which no character is a mark, any two compose to E4 and any one decomposes to 61 and 308
abbrev tables : CharacterTables
tables = record {
  joining = λ c. U;
  general = λ c. Lo;
  indic = λ c. (0, 0);
  universal = λ c. 0;
  composed = λ a b. Some 0xE4;
  decomposed = λ ab. Some (0x61, 0x308);
}

-- tables of marks that know no pair
abbrev marks_alone : CharacterTables
marks_alone = record tables { general = λ c. Mn; composed = λ a b. None; decomposed = λ ab. None }

-- five shapers compose nothing, whatever the tables say, and seven decompose nothing: they leave it to them
no_pair : (plan : hb_ot_shape_plan_t) (any : CharacterTables) (x y : ℕ)
    → map (λ shaper. compose_answer shaper plan any x y) (Arabic ∷ Hangul ∷ Myanmar ∷ MyanmarZawgyi ∷ Thai ∷ [])
    ≡ None ∷ None ∷ None ∷ None ∷ None ∷ []
no_pair plan any x y = refl

no_parts : (any : CharacterTables) (x : ℕ)
    → map (λ shaper. decompose_answer shaper any x) (Arabic ∷ Hangul ∷ Hebrew ∷ Myanmar ∷ MyanmarZawgyi ∷ Thai ∷ Universal
    ∷ []) ≡ None ∷ None ∷ None ∷ None ∷ None ∷ None ∷ None ∷ []
no_parts any x = refl

-- the other four compose as their rules say
compositions : (plan : hb_ot_shape_plan_t)
    → map (λ shaper. compose_answer shaper plan tables 0x61 0x308) (Hebrew ∷ Indic ∷ Khmer ∷ Universal ∷ [])
    ≡ Some (Some 0xE4) ∷ Some (Some 0xE4) ∷ Some (Some 0xE4) ∷ Some (Some 0xE4) ∷ []
compositions plan = refl

-- a pair that they leave apart, Hebrew whether GPOS places marks or not
stays_apart : (plan : hb_ot_shape_plan_t)
    → map (λ shaper. compose_answer shaper plan marks_alone 0x61 0x308) (Indic ∷ Khmer ∷ Universal ∷ [])
    ≡ Some None ∷ Some None ∷ Some None ∷ []
stays_apart plan = refl

stays_apart_in_hebrew : (plan : hb_ot_shape_plan_t)
    → map (λ places. compose_answer Hebrew (record plan { has_gpos_mark = places }) marks_alone 0x61 0x308)
    (false ∷ true ∷ []) ≡ Some None ∷ Some None ∷ []
stays_apart_in_hebrew plan = refl

-- YA with its nukta, which Indic alone composes

ya_nukta : (plan : hb_ot_shape_plan_t)
    → map (λ shaper. compose_answer shaper plan tables 0x09AF 0x09BC) (Hebrew ∷ Indic ∷ Khmer ∷ Universal ∷ [])
    ≡ Some (Some 0xE4) ∷ Some (Some 0x09DF) ∷ Some (Some 0xE4) ∷ Some (Some 0xE4) ∷ []
ya_nukta plan = refl

-- the form of alef with patah, where GPOS places no marks
hebrew_form : (plan : hb_ot_shape_plan_t)
    → map (λ places. compose_answer Hebrew (record plan { has_gpos_mark = places }) marks_alone 0x05D0 0x05B7)
    (false ∷ true ∷ []) ≡ Some (Some 0xFB2E) ∷ Some None ∷ []
hebrew_form plan = refl

-- two shapers decompose; RRA stays whole in Indic, and Khmer takes OE apart
decompositions : map (λ shaper. decompose_answer shaper tables 0x0930) (Indic ∷ Khmer ∷ [])
    ≡ Some (Some (0x61, 0x308)) ∷ Some (Some (0x61, 0x308)) ∷ []
decompositions = refl

stays_whole : decompose_answer Indic tables 0x0931 ∷ decompose_answer Indic marks_alone 0x0930
    ∷ decompose_answer Khmer marks_alone 0x17B6 ∷ [] ≡ Some None ∷ Some None ∷ Some None ∷ []
stays_whole = refl

split_vowel : decompose_answer Khmer marks_alone 0x17BE ≡ Some (Some (0x17C1, 0x17BE))
split_vowel = refl

-- masks stay
masks_stay : (plan : hb_ot_shape_plan_t) (any : CharacterTables) (b : Buffer) → MasksSet Hebrew plan any b b
    × MasksSet MyanmarZawgyi plan any b b × MasksSet Thai plan any b b
masks_stay plan any b = (lacks, lacks, lacks)

-- marks stay in their order
marks_stay : (b : Buffer) → MarksReordered Hangul 1 3 b b × MarksReordered Indic 1 3 b b × MarksReordered Khmer 1 3 b b
    × MarksReordered Myanmar 1 3 b b × MarksReordered MyanmarZawgyi 1 3 b b × MarksReordered Thai 1 3 b b
    × MarksReordered Universal 1 3 b b
marks_stay = search (arith, lacks)
