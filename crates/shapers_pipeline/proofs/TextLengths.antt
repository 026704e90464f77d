-- How long each step before the lookups makes a text.
use Rattle.std.proofs.Common.{◌≡◌, ◌∙◌, ℕ, zero, suc, ◌+◌, ◌*◌, ◌-◌, ◌<◌, ◌≤◌, ◌≢◌, ◌==◌, Bool, true, false, get_or, inl, inr, List, [], ◌∷◌, ◌++◌, length, map, reverse, refl, sym, ap, subst, arith}
use Rattle.std.specs.Prelude.{◌&&◌, nat_le, nat_lt, fold, flat_map, Option, None, Some, Err, if◌then◌else◌}
use Rattle.std.specs.List.{AllByRecursion, count_by}
use Rattle.std.specs.Option.{option_map_or}
use Rattle.std.proofs.Math.Nat.{le-mul_of_pos_right, le_refl, le_trans, mul-le-mul_right}
use Rattle.std.proofs.lemmas.Bool.{ltb-true}
use Rattle.std.proofs.lemmas.List.{length-map, length-set}
use Rattle.std.proofs.lemmas.List.Sorted.{length_permutation}
use Rattle.std.proofs.lemmas.List.Sums.{count_by-le-length}
use Rattle.shapers_arabic.specs.PlanData.{breaks_of, masks_of}
use Rattle.shapers_arabic.proofs.JoinedFlags.{joined_added}
use Rattle.shapers_base.specs.Masks.{masks_stored, with_numbered_mask}
use Rattle.shapers_base.specs.declared.plan.arabic.arabic_shape_plan_t.{arabic_shape_plan_t}
use Rattle.shapers_base.specs.Font.{CharacterTables, Font, dotted_circle, has_nominal}
use Rattle.shapers_base.specs.declared.font.GlyphId.{GlyphId}
use Rattle.shapers_base.specs.declared.plan.breaks.BreakFlags.{BreakFlags}
use Rattle.shapers_base.specs.declared.plan.breaks.BreakFlags.TheVariants.{AsCode}
use Rattle.shapers_base.specs.declared.plan.hb_ot_shape_plan_t.{hb_ot_shape_plan_t}
use Rattle.shapers_buffer.specs.Buffer.{Buffer}
use Rattle.shapers_buffer.specs.Clusters.{stretch_of}
use Rattle.shapers_buffer.specs.Glyph.{clusters, default_glyph}
use Rattle.shapers_buffer.specs.Refusals.{RefusesLength}
use Rattle.shapers_buffer.specs.Glyphs.{Glyph, Glyphs}
use Rattle.shapers_buffer.specs.declared.buffer.level.BufferClusterLevel.{BufferClusterLevel}
use Rattle.shapers_buffer.specs.declared.buffer.level.BufferClusterLevel.TheVariants.{Characters, MonotoneCharacters, MonotoneGraphemes}
use Rattle.shapers_buffer.specs.declared.buffer.level.Direction.{Direction}
use Rattle.shapers_buffer.specs.declared.buffer.refusal.ShaperError.{ShaperError}
use Rattle.shapers_buffer.specs.declared.buffer.refusal.ShaperError.TheVariants.{Memory, TooLong, UnknownSyllable, SpansDontCover, StretchOverflow}
use Rattle.shapers_buffer.specs.declared.buffer.tag.Script.{Script}
use Rattle.shapers_clusters.specs.FlagLaw.{OnlyFlagsAdded}
use Rattle.shapers_clusters.proofs.Halves.{Each}
use Rattle.shapers_clusters.proofs.Merging.{length-merge_all}
use Rattle.shapers_indic_initial.specs.Proved.Groups.{flat_map_reversed}
use Rattle.shapers_normal.specs.Context.{Context}
use Rattle.shapers_normal.specs.Decomposition.{first_round}
use Rattle.shapers_normal.specs.Laws.{OrdersAlone}
use Rattle.shapers_normal.specs.Normalization.{composes, has_rounds, joiners_shown, later_rounds, shown_behind}
use Rattle.shapers_normal.specs.Properties.{as_character}
use Rattle.shapers_normal.specs.Recomposition.{StarterWalk, composition, left_as_is, next_glyph, recomposed, taken_in, walk_over}
use Rattle.shapers_normal.specs.Sorting.{class_of, classes, mark_sequences, marks_ordered, max_marks, sequence_ordered, sequence_sorted}
use Rattle.shapers_normal.proofs.RecompositionHalves.{Walking, left_over, length-left, walk_start, walking_by, walking_start}
use Rattle.shapers_normal.proofs.SortingHalves.{run_alone, runs_within}
use Rattle.shapers_normal.proofs.VariantHalves.{grows_ninefold}
use Rattle.shapers_pipeline.specs.NormalizeLaws.{ShapersOrderAlone}
use Rattle.shapers_prepare.specs.CharacterProperties.{CharacterProperties}
use Rattle.shapers_prepare.specs.FirstCircle.{behind_circle, wants_first_circle}
use Rattle.shapers_prepare.specs.GraphemeLaws.{GraphemesCover}
use Rattle.shapers_prepare.specs.Graphemes.{clusters_formed, graphemes}
use Rattle.shapers_prepare.specs.JoinerFlags.{zwnj_flagged}
use Rattle.shapers_prepare.specs.NativeDirection.{graphemes_reversed, graphemes_whole, is_reversed, native_direction, opposite_direction, text_direction}
use Rattle.shapers_prepare.specs.Rotation.{rotated_glyph}
use Rattle.shapers_prepare.specs.Vowels.{left_behind, vowel_circle, vowel_script_of, vowels_circled, vowels_circled_from, vowels_circled_in}
use Rattle.shapers_prepare.proofs.JoinerFlagProofs.{zwnj_flags_added}
use Rattle.shapers_syllabic.specs.Characters.{with_category, with_category_and_position}
use Rattle.shapers_text.specs.Thai.{glyph_rule, is_sara_am}
use Rattle.shapers_text.specs.ThaiForms.{preprocessed_in_thai}
use Rattle.shapers_text.proofs.ThaiInTwo.{lengths}
use Rattle.shapers_hangul.specs.Hangul.{rewritten, rewritten_by}
use Rattle.shapers_universal.specs.PlanData.{arabic_of}
use Rattle.shapers_universal.specs.UniversalMasks.{categorized, with_categories}
use Rattle.rustybuzz_shapers.specs.Lengths.{PreprocessingGrows}
use Rattle.rustybuzz_shapers.specs.declared.shaper.checked.CallError.TheVariants as call
use Rattle.rustybuzz_shapers.specs.declared.shaper.hb_ot_shaper_t.{hb_ot_shaper_t}
use Rattle.rustybuzz_shapers.specs.declared.shaper.hb_ot_shaper_t.TheVariants.{Arabic, Hangul, Hebrew, Indic, Khmer, Myanmar, MyanmarZawgyi, Thai, Universal}
use Rattle.rustybuzz_shapers.proofs.Monotone.{same_clusters}
use Rattle.shapers_pipeline.specs.Lengths.{PreparationGrows, PreparationHasRoom, prepared_bound, preprocess_growth}
use Rattle.shapers_pipeline.specs.Lookups.{with_note}
use Rattle.shapers_pipeline.specs.Masks.{as_glyph, with_features, with_mask_alone}
use Rattle.shapers_pipeline.specs.Prepared.{Growth, Preparation, context_of, growths, rotated_from, rotation_to, text_begun, text_directed, text_in_fractions, text_normalized, text_circled, text_prepared}
use Rattle.shapers_pipeline.specs.Refusals.{OneRefused}
use Rattle.shapers_pipeline.specs.ShaperSteps.{masks_set_by, masks_set_for, universal_masks_set, preprocessed_by, preprocessed_for, preprocessed_len, preprocessed_len_by}
use Rattle.shapers_pipeline.proofs.PreparedClusters.{Parts, clusters-properties, fraction_clusters}
use Rattle.shapers_pipeline.proofs.ClustersKept.{clusters-map}
use Rattle.shapers_pipeline.proofs.Directed.{limit_stays}
use Rattle.shapers_pipeline.proofs.TurnedGraphemes.{ends_within, flagged_same}

-- texts with the same clusters have as many glyphs
pub same_long : (gs hs : Glyphs) → clusters hs ≡ clusters gs → length hs ≡ length gs
same_long gs hs is = sym (length-map hs (λ (g : Glyph). g.cluster)) ∙ ap length is
    ∙ length-map gs (λ (g : Glyph). g.cluster)

-- ---- a circle in front

begun_long : (p : Preparation) (b : Buffer) → length (text_begun p b).glyphs ≡ length b.glyphs
begun_long p b =
    let masked = map (with_mask_alone p.plan.ot_map.global) b.glyphs in
    same_long b.glyphs (text_begun p b).glyphs
    (clusters-properties p.properties [] masked ∙ clusters-map (with_mask_alone p.plan.ot_map.global) (λ g. refl)
    b.glyphs)

circle_long : (p : CharacterProperties) (gs : Glyphs) → length (behind_circle p gs) ≤ length gs + 1
circle_long p [] = omega arith
circle_long p (g ∷ gs) = omega arith

opened_long : (p : Preparation) (b : Buffer) → length (text_circled p b).glyphs ≤ length b.glyphs + 1
opened_long p b =
    let t = text_begun p b in
    let same = begun_long p b in
    elim (wants_first_circle t && has_nominal p.font dotted_circle) as
    (λ test. length (if test then behind_circle p.properties t.glyphs else t.glyphs) ≤ length b.glyphs + 1) [
      | true ↦ omega (arith, same, circle_long p.properties t.glyphs)
      | false ↦ omega (arith, same)
    ]

-- ---- graphemes, and the text's own direction

formed_long : (level : BufferClusterLevel) (gs : Glyphs) → length (clusters_formed level gs) ≡ length gs
formed_long MonotoneGraphemes gs = length-merge_all MonotoneGraphemes (graphemes gs) gs (ends_within gs)
formed_long MonotoneCharacters gs = same_long gs (clusters_formed MonotoneCharacters gs) (flagged_same gs)
formed_long Characters gs = same_long gs (clusters_formed Characters gs) (flagged_same gs)

whole_long : (level : BufferClusterLevel) (gs : Glyphs) → length (graphemes_whole level gs) ≡ length gs
whole_long MonotoneGraphemes gs = refl
whole_long MonotoneCharacters gs = length-merge_all MonotoneCharacters (graphemes gs) gs (ends_within gs)
whole_long Characters gs = refl

turned_long : GraphemesCover → (gs : Glyphs) → length (graphemes_reversed gs) ≡ length gs
turned_long cover gs =
    let part = λ (st : ℕ × ℕ). stretch_of st.0 st.1 gs in
    let sts = graphemes gs in
    length_permutation (flat_map part sts) (flat_map part (reverse sts)) (flat_map_reversed part sts)
    ∙ ap length (cover gs)

directed_long : GraphemesCover → (p : Preparation) (b : Buffer) → length (text_directed p b).glyphs
    ≡ length (text_circled p b).glyphs
directed_long cover p b =
    let o = text_circled p b in
    let t : Buffer = record o { glyphs = clusters_formed o.level o.glyphs } in
    let own = text_direction t.direction (native_direction t.script) t.glyphs in
    let turned : Buffer = record t {
      direction = opposite_direction t.direction;
      glyphs = graphemes_reversed (graphemes_whole t.level t.glyphs);
    } in
    let formed = formed_long o.level o.glyphs in
    elim (is_reversed t.direction own) as (λ test. length (if test then turned else t).glyphs ≡ length o.glyphs) [
      | true ↦ turned_long cover (graphemes_whole t.level t.glyphs) ∙ whole_long t.level t.glyphs ∙ formed
      | false ↦ formed
    ]

-- ---- preprocessing

-- a walk that puts a circle before some glyphs, by a table of any kind X
module _ {X : Type 0} (walk : X → ℕ → Glyphs → Glyphs)
    (left : X → ℕ → Glyph → Glyphs → ℕ) (parts : Parts walk left) where
  long-walk : (s : X) (n : ℕ) (gs : Glyphs) → length (walk s n gs) ≤ length gs * 2
  long-walk s n [] = subst (λ xs. length xs ≤ 0) (sym (parts.nil s n)) (le_refl 0)
  long-walk s n (g ∷ gs) =
      let rest = walk s (left s n g gs) gs in
      let more = long-walk s (left s n g gs) gs in
      subst (λ xs. length xs ≤ suc (length gs) * 2) (sym (parts.cons s n g gs))
      (elim (n == 1) as
      (λ test. length ((if test then vowel_circle g ∷ [] else []) ++ g ∷ rest) ≤ suc (length gs) * 2) [
        | true ↦ omega (arith, more)
        | false ↦ omega (arith, more)
      ])

  long_by : (whole : Option X → Glyphs → Glyphs) →
      ((gs : Glyphs) → whole None gs ≡ gs) →
      ((s : X) (gs : Glyphs) → whole (Some s) gs ≡ walk s 0 gs) → (o : Option X)
      (gs : Glyphs) → length (whole o gs) ≤ length gs * 2
  long_by whole without by None gs = omega (arith, ap length (without gs))
  long_by whole without by (Some s) gs = omega (arith, ap length (by s gs), long-walk s 0 gs)

parted_long : (b : Buffer) → length (vowels_circled b) ≤ length b.glyphs * 2
parted_long b =
    long_by vowels_circled_from left_behind (record { nil = λ s n. refl; cons = λ s n g gs. refl }) vowels_circled_in
    (λ gs. refl) (λ s gs. refl) (vowel_script_of b) b.glyphs

flagged_long : (breaks : BreakFlags) (gs : Glyphs) → length (zwnj_flagged breaks gs) ≡ length gs
flagged_long breaks gs = same_long gs (zwnj_flagged breaks gs)
    (same_clusters gs (zwnj_flagged breaks gs) (zwnj_flags_added breaks gs))

few_ams : (gs : Glyphs) → count_by (λ g. is_sara_am g.glyph_id) gs ≤ length gs
few_ams gs = count_by-le-length (λ g. is_sara_am g.glyph_id) gs

once : (n : ℕ) → n ≤ n * 1
once n = omega arith

by_shaper : PreprocessingGrows → (plan : hb_ot_shape_plan_t) (font : Font) (b : Buffer) (shaper : hb_ot_shaper_t) →
    length (preprocessed_by plan font b shaper).glyphs ≤ length b.glyphs * preprocess_growth shaper
by_shaper grows plan font b Hangul =
    omega (arith, grows Hangul plan font b (rewritten_by plan.break_flags font b) refl)
by_shaper grows plan font b Thai =
    omega (arith, grows Thai plan font b (preprocessed_in_thai plan font b) refl, few_ams b.glyphs)
by_shaper grows plan font b Indic =
    omega (arith, flagged_long plan.break_flags (vowels_circled b), parted_long b)
by_shaper grows plan font b Universal = parted_long b
by_shaper grows plan font b Arabic = once (length b.glyphs)
by_shaper grows plan font b Hebrew = once (length b.glyphs)
by_shaper grows plan font b Khmer = once (length b.glyphs)
by_shaper grows plan font b Myanmar = once (length b.glyphs)
by_shaper grows plan font b MyanmarZawgyi = once (length b.glyphs)

-- what it wants room for
wanted_by : PreprocessingGrows → (plan : hb_ot_shape_plan_t) (font : Font) (b : Buffer) (shaper : hb_ot_shaper_t) →
    preprocessed_len_by font b shaper ≤ length b.glyphs * preprocess_growth shaper
wanted_by grows plan font b Hangul =
    let as_code : hb_ot_shape_plan_t = record plan { break_flags = AsCode } in
    omega (arith, grows Hangul as_code font b (rewritten font b) refl)
wanted_by grows plan font b Thai = omega (arith, (lengths glyph_rule b.glyphs).whole, few_ams b.glyphs)
wanted_by grows plan font b Indic = parted_long b
wanted_by grows plan font b Universal = parted_long b
wanted_by grows plan font b Arabic = once (length b.glyphs)
wanted_by grows plan font b Hebrew = once (length b.glyphs)
wanted_by grows plan font b Khmer = once (length b.glyphs)
wanted_by grows plan font b Myanmar = once (length b.glyphs)
wanted_by grows plan font b MyanmarZawgyi = once (length b.glyphs)

abbrev times : Option hb_ot_shaper_t → ℕ
times shaper = option_map_or preprocess_growth shaper 1

preprocessed_long : PreprocessingGrows → (shaper : Option hb_ot_shaper_t) (plan : hb_ot_shape_plan_t) (font : Font)
    (b : Buffer) → length (preprocessed_for shaper plan font b).glyphs ≤ length b.glyphs * times shaper
preprocessed_long grows None plan font b = once (length b.glyphs)
preprocessed_long grows (Some shaper) plan font b = by_shaper grows plan font b shaper

wanted_long : PreprocessingGrows → (shaper : Option hb_ot_shaper_t) (plan : hb_ot_shape_plan_t) (font : Font)
    (b : Buffer) → preprocessed_len shaper font b ≤ length b.glyphs * times shaper
wanted_long grows None plan font b = once (length b.glyphs)
wanted_long grows (Some shaper) plan font b = wanted_by grows plan font b shaper

-- ---- normalization

abbrev Any : ℕ → Type 0
Any k = Unit {0}

any_each : (gs : Glyphs) → Each Any gs
any_each [] = tt
any_each (g ∷ gs) = (tt, any_each gs)

run_long : (context : Context) → OrdersAlone context → (level : BufferClusterLevel) (run : ℕ × ℕ)
    (gs : Glyphs) → run.1 ≤ length gs → length (sequence_ordered context level run gs) ≡ length gs
run_long context o level run gs within =
    let sorted = sequence_sorted level run.0 run.1 gs in
    let same = (run_alone Any level run.0 run.1 (length gs) within).same_length gs (le_refl (length gs)) in
    elim (nat_lt run.0 run.1) as (λ some. nat_lt run.0 run.1 ≡ some →
    length (if some && nat_le (run.1 - run.0) max_marks then context.reordered level run.0 run.1 sorted else gs)
    ≡ length gs) [
      | true ↦ λ is. elim (nat_le (run.1 - run.0) max_marks) as
          (λ few. length (if few then context.reordered level run.0 run.1 sorted else gs) ≡ length gs) [
            | true ↦ o.same_length level run.0 run.1 sorted (ltb-true run.0 run.1 is) (omega (arith, same, within))
                ∙ same
            | false ↦ refl
          ]
      | false ↦ λ is. refl
    ] refl

runs_long : (context : Context) → OrdersAlone context → (level : BufferClusterLevel) (n : ℕ) (runs : List (ℕ × ℕ))
    (gs : Glyphs) → n ≡ length gs → AllByRecursion (λ run. run.1 ≤ n) runs →
    length (fold (λ gs run. sequence_ordered context level run gs) gs runs) ≡ n
runs_long context o level n [] gs long all = sym long
runs_long context o level n (run ∷ runs) gs long all =
    let one = run_long context o level run gs (omega (arith, long, all.0)) in
    runs_long context o level n runs (sequence_ordered context level run gs) (omega (arith, long, one)) all.1

ordered_long : (context : Context) → OrdersAlone context → (level : BufferClusterLevel) (gs : Glyphs) →
    length (marks_ordered context level gs) ≡ length gs
ordered_long context o level gs =
    runs_long context o level (length gs) (mark_sequences 0 0 (classes gs)) gs refl
    (runs_within 0 0 (length gs) (classes gs) (omega (arith, length-map gs class_of)))

shown_behind_long : (before : ℕ) (gs : Glyphs) → length (shown_behind before gs) ≡ length gs
shown_behind_long before [] = refl
shown_behind_long before (g ∷ []) = refl
shown_behind_long before (g ∷ (h ∷ gs)) = ap suc (shown_behind_long (class_of g) (h ∷ gs))

shown_long : (gs : Glyphs) → length (joiners_shown gs) ≡ length gs
shown_long [] = refl
shown_long (g ∷ gs) = ap suc (shown_behind_long (class_of g) gs)

next_long : (context : Context) (level : BufferClusterLevel) (w : StarterWalk) (o : Option (ℕ × GlyphId)) →
    w.place < length w.glyphs →
    length (option_map_or (λ drawn. taken_in context level drawn w) o (left_as_is w)).glyphs ≤ length w.glyphs
next_long context level w None within = le_refl (length w.glyphs)
next_long context level w (Some drawn) within =
    let left = left_over level w in
    omega (
      arith,
      length-left level w within,
      length-set left w.starter (as_character context drawn.0 drawn.1.0 (get_or left w.starter default_glyph)),
    )

walk_long : (context : Context) (level : BufferClusterLevel) (n : ℕ) (w : StarterWalk) → Walking Any n w →
    length (walk_over context level n w).glyphs ≤ length w.glyphs
walk_long context level zero w i = le_refl (length w.glyphs)
walk_long context level (suc n) w i =
    let one = next_long context level w (composition context w) (omega (arith, i.left)) in
    let rest = walk_long context level n (next_glyph context level w)
    (walking_by Any context level n w (composition context w) i) in
    le_trans rest one

recomposed_long : (context : Context) (level : BufferClusterLevel) (gs : Glyphs) →
    length (recomposed context level gs) ≤ length gs
recomposed_long context level [] = le_refl 0
recomposed_long context level (g ∷ gs) =
    let all : length (g ∷ gs) - 1 ≡ length gs = omega arith in
    subst (λ n. length (walk_over context level n (walk_start (g ∷ gs))).glyphs ≤ length (g ∷ gs)) (sym all)
    (walk_long context level (length gs) (walk_start (g ∷ gs)) (walking_start Any g gs (any_each (g ∷ gs))))

later_long : (context : Context) → OrdersAlone context → (level : BufferClusterLevel) (runs : Bool)
    (gs : Glyphs) → length (later_rounds context runs level gs) ≤ length gs
later_long context o level true gs =
    let ordered = marks_ordered context level gs in
    let same = shown_long ordered ∙ ordered_long context o level gs in
    elim (composes context.mode) as
    (λ test. length (if test then recomposed context level (joiners_shown ordered) else joiners_shown ordered)
    ≤ length gs) [
      | true ↦ omega (arith, same, recomposed_long context level (joiners_shown ordered))
      | false ↦ omega (arith, same)
    ]
later_long context o level false gs = omega (arith, shown_long gs)

-- ---- all together

-- the laws that this rests on
pub record Laws : Type 0 where
  pub grows : PreprocessingGrows
  pub alone : ShapersOrderAlone
  pub cover : GraphemesCover

alone_for : Laws → (p : Preparation) → OrdersAlone (context_of p)
alone_for laws p = laws.alone p.shaper p.plan p.font p.variants p.tables p.texts p.settings.invisible_glyph
    p.settings.draws_selectors

rotated_long : Laws → (p : Preparation) (direction : Direction) (b : Buffer) →
    length (rotated_from p direction b).glyphs ≤ length b.glyphs * times p.shaper
rotated_long laws p direction b =
    let text = preprocessed_for p.shaper p.plan p.font b in
    omega (
      arith,
      length-map text.glyphs (rotated_glyph p.properties p.font (rotation_to p.masks direction)),
      preprocessed_long laws.grows p.shaper p.plan p.font b,
    )

-- so many times the text with a circle in front
abbrev opened_times : Preparation → Buffer → ℕ
opened_times p b = (length b.glyphs + 1) * times p.shaper

in_times : Laws → (p : Preparation) (b : Buffer) → length (text_directed p b).glyphs * times p.shaper ≤ opened_times p b
in_times laws p b =
    mul-le-mul_right (times p.shaper) (omega (arith, directed_long laws.cover p b, opened_long p b))

normal_long : Laws → (p : Preparation) (b : Buffer) → length (text_normalized p b).glyphs
    ≤ prepared_bound p.shaper (length b.glyphs)
normal_long laws p b =
    let d = text_directed p b in
    let r = rotated_from p b.direction d in
    let apart = first_round (context_of p) r.level r.glyphs in
    omega (
      arith,
      later_long (context_of p) (alone_for laws p) r.level (has_rounds p.settings.rounds r.glyphs) apart,
      grows_ninefold (context_of p) r.level r.glyphs,
      rotated_long laws p b.direction d,
      in_times laws p b,
    )

joined_long : (old new : Buffer) → OnlyFlagsAdded old.glyphs new.glyphs → length new.glyphs ≡ length old.glyphs
joined_long old new added = same_long old.glyphs new.glyphs (same_clusters old.glyphs new.glyphs added)

universal_long : (kept : Option arabic_shape_plan_t) (script : Option Script) (tables : CharacterTables) (b : Buffer) →
    length (universal_masks_set kept script tables b).glyphs ≡ length b.glyphs
universal_long None script tables b = length-map b.glyphs (categorized tables.universal)
universal_long (Some p) script tables b =
    let t = with_categories tables b in
    joined_long t (universal_masks_set (Some p) script tables b)
    (joined_added p.break_flags p.mask_array script tables.joining tables.general t _ refl)
    ∙ length-map b.glyphs (categorized tables.universal)

masked_with : (plan : hb_ot_shape_plan_t) (tables : CharacterTables) (b : Buffer) (shaper : hb_ot_shaper_t) →
    length (masks_set_by plan tables b shaper).glyphs ≡ length b.glyphs
masked_with plan tables b Arabic = joined_long b (masks_set_by plan tables b Arabic)
    (joined_added (breaks_of plan.plan_data) (masks_of plan.plan_data) plan.script tables.joining tables.general b _
    refl)
masked_with plan tables b Hangul = length-map b.glyphs (with_numbered_mask (masks_stored plan.plan_data))
masked_with plan tables b Indic = length-map b.glyphs (with_category_and_position tables)
masked_with plan tables b Khmer = length-map b.glyphs (with_category tables)
masked_with plan tables b Myanmar = length-map b.glyphs (with_category tables)
masked_with plan tables b Universal = universal_long (arabic_of plan.plan_data) plan.script tables b
masked_with plan tables b Hebrew = refl
masked_with plan tables b MyanmarZawgyi = refl
masked_with plan tables b Thai = refl

masked_long : (shaper : Option hb_ot_shaper_t) (plan : hb_ot_shape_plan_t) (tables : CharacterTables) (b : Buffer) →
    length (masks_set_for shaper plan tables b).glyphs ≡ length b.glyphs
masked_long None plan tables b = refl
masked_long (Some shaper) plan tables b = masked_with plan tables b shaper

pub preparation_grows : Laws → PreparationGrows
preparation_grows laws p noted b =
    let n = text_normalized p b in
    let f = text_in_fractions p b in
    let m = masks_set_for p.shaper p.plan p.tables f in
    let featured = map (with_features p.ranges) m.glyphs in
    let glyphs = map as_glyph featured in
    omega (
      arith,
      normal_long laws p b,
      same_long n.glyphs f.glyphs (fraction_clusters p.masks n),
      masked_long p.shaper p.plan p.tables f,
      length-map m.glyphs (with_features p.ranges),
      length-map featured as_glyph,
      length-map glyphs (with_note noted),
    )

-- ---- room

times_some : (shaper : Option hb_ot_shaper_t) → 0 < times shaper
times_some None = omega arith
times_some (Some Hangul) = omega arith
times_some (Some Thai) = omega arith
times_some (Some Indic) = omega arith
times_some (Some Universal) = omega arith
times_some (Some Arabic) = omega arith
times_some (Some Hebrew) = omega arith
times_some (Some Khmer) = omega arith
times_some (Some Myanmar) = omega arith
times_some (Some MyanmarZawgyi) = omega arith

fits : (limit wanted bound : ℕ) (e : ShaperError) → wanted ≤ bound → bound ≤ limit →
    RefusesLength {T = Unit {0}} limit wanted (Err e) → e ≢ TooLong
fits limit wanted bound Memory few room refused = λ is. absurd cc
fits limit wanted bound TooLong few room refused = absurd (omega (arith, few, room, refused))
fits limit wanted bound (UnknownSyllable place) few room refused = absurd refused
fits limit wanted bound SpansDontCover few room refused = absurd refused
fits limit wanted bound StretchOverflow few room refused = absurd refused

-- all these steps want no more than this
abbrev AllWant : ℕ → List Growth → Type 0
AllWant bound [] = Unit {0}
AllWant bound (g ∷ gs) = (g.wanted ≤ bound) × AllWant bound gs

none_refuses : (limit bound : ℕ) (gs : List Growth) (e : ShaperError) (new : Buffer) → AllWant bound gs →
    bound ≤ limit → OneRefused limit gs e new → e ≢ TooLong
none_refuses limit bound [] e new few room refused = absurd refused
none_refuses limit bound (g ∷ gs) e new few room (inl here) = fits limit g.wanted bound e few.0 room here.0
none_refuses limit bound (g ∷ gs) e new few room (inr later) = none_refuses limit bound gs e new few.1 room later.1

same_refusal : (e f : ShaperError) → call.Refused e ≡ call.Refused f → e ≡ f
same_refusal e f is = cc

pub preparation_has_room : Laws → PreparationHasRoom
preparation_has_room laws p old new (call.Condition c) room stopped = λ is. absurd cc
preparation_has_room laws p old new (call.Refused e) room stopped =
    let n = length old.glyphs in
    let d = text_directed p old in
    let r = rotated_from p old.direction d in
    let bound = prepared_bound p.shaper n in
    let some = times_some p.shaper in
    let opened : length (text_circled p old).glyphs ≤ bound =
    omega (arith, opened_long p old, le-mul_of_pos_right (n + 1) some) in
    let preprocessed : preprocessed_len p.shaper p.font d ≤ bound =
    omega (arith, wanted_long laws.grows p.shaper p.plan p.font d, in_times laws p old) in
    let normal : length (first_round (context_of p) r.level r.glyphs) ≤ bound =
    omega (
      arith,
      grows_ninefold (context_of p) r.level r.glyphs,
      rotated_long laws p old.direction d,
      in_times laws p old,
    ) in
    λ is. none_refuses old.max_len bound (growths p old) e new (opened, (preprocessed, (normal, tt))) room stopped.1
    (same_refusal e TooLong is)

-- ---- the limit stays

universal_limit : (kept : Option arabic_shape_plan_t) (script : Option Script) (tables : CharacterTables) (b : Buffer) →
    (universal_masks_set kept script tables b).max_len ≡ b.max_len
universal_limit None script tables b = refl
universal_limit (Some p) script tables b = refl

masked_limit : (plan : hb_ot_shape_plan_t) (tables : CharacterTables) (b : Buffer) (shaper : hb_ot_shaper_t) →
    (masks_set_by plan tables b shaper).max_len ≡ b.max_len
masked_limit plan tables b Arabic = refl
masked_limit plan tables b Hangul = refl
masked_limit plan tables b Hebrew = refl
masked_limit plan tables b Indic = refl
masked_limit plan tables b Khmer = refl
masked_limit plan tables b Myanmar = refl
masked_limit plan tables b MyanmarZawgyi = refl
masked_limit plan tables b Thai = refl
masked_limit plan tables b Universal = universal_limit (arabic_of plan.plan_data) plan.script tables b

masked_limit_if : (shaper : Option hb_ot_shaper_t) (plan : hb_ot_shape_plan_t) (tables : CharacterTables) (b : Buffer) →
    (masks_set_for shaper plan tables b).max_len ≡ b.max_len
masked_limit_if None plan tables b = refl
masked_limit_if (Some shaper) plan tables b = masked_limit plan tables b shaper

hook_limit : (plan : hb_ot_shape_plan_t) (font : Font) (b : Buffer) (shaper : hb_ot_shaper_t) →
    (preprocessed_by plan font b shaper).max_len ≡ b.max_len
hook_limit plan font b Hangul = refl
hook_limit plan font b Thai = refl
hook_limit plan font b Indic = refl
hook_limit plan font b Universal = refl
hook_limit plan font b Arabic = refl
hook_limit plan font b Hebrew = refl
hook_limit plan font b Khmer = refl
hook_limit plan font b Myanmar = refl
hook_limit plan font b MyanmarZawgyi = refl

hook_limit_if : (shaper : Option hb_ot_shaper_t) (plan : hb_ot_shape_plan_t) (font : Font) (b : Buffer) →
    (preprocessed_for shaper plan font b).max_len ≡ b.max_len
hook_limit_if None plan font b = refl
hook_limit_if (Some shaper) plan font b = hook_limit plan font b shaper

pub prepared_limit : (p : Preparation) (b : Buffer) → (text_prepared p b).max_len ≡ b.max_len
prepared_limit p b =
    let o = text_circled p b in
    let formed : Buffer = record o { glyphs = clusters_formed o.level o.glyphs } in
    masked_limit_if p.shaper p.plan p.tables (text_in_fractions p b)
    ∙ hook_limit_if p.shaper p.plan p.font (text_directed p b)
    ∙ limit_stays formed
