-- Each step before the lookups keeps the clusters of a text.
use Rattle.std.proofs.Common.{◌≡◌, ◌∙◌, ℕ, zero, suc, ◌+◌, ◌-◌, ◌≤◌, ◌==◌, ◌||◌, Bool, true, false, not, List, [], ◌∷◌, ◌++◌, length, map, refl, sym, ap, subst, arith}
use Rattle.std.specs.Prelude.{◌&&◌, bit_and, bit_or, get_or, nat_le, nat_lt, Ok, Option, None, Some, if◌then◌else◌}
use Rattle.std.specs.Int.{bit_not, w32}
use Rattle.std.specs.Option.{option_map_or}
use Rattle.shapers_arabic.specs.PlanData.{breaks_of, masks_of}
use Rattle.shapers_arabic.proofs.JoinedFlags.{joined_added}
use Rattle.shapers_base.specs.Font.{CharacterTables, Font, dotted_circle, has_nominal}
use Rattle.shapers_base.specs.Masks.{masks_stored, with_numbered_mask}
use Rattle.shapers_base.specs.declared.plan.arabic.arabic_shape_plan_t.{arabic_shape_plan_t}
use Rattle.shapers_base.specs.declared.plan.hb_ot_shape_plan_t.{hb_ot_shape_plan_t}
use Rattle.shapers_buffer.specs.Buffer.{Buffer, asks, flags_concat}
use Rattle.shapers_buffer.specs.Clusters.{merges, with_stretch}
use Rattle.shapers_buffer.specs.Glyph.{characters, clusters, default_glyph}
use Rattle.shapers_buffer.specs.GlyphFlags.{unsafe_inside, unsafe_to_concat_in, with_bits}
use Rattle.shapers_buffer.specs.Lists.{each_after}
use Rattle.shapers_buffer.specs.Glyphs.{Glyph, Glyphs}
use Rattle.shapers_buffer.specs.declared.buffer.level.Direction.{Direction}
use Rattle.shapers_buffer.specs.declared.buffer.tag.Script.{Script}
use Rattle.shapers_clusters.proofs.FlagCalls.{map-unsafe_inside, map-unsafe_to_concat_in, map-with_stretch}
use Rattle.shapers_clusters.proofs.Halves.{Each}
use Rattle.shapers_hangul.specs.Hangul.{rewritten_by}
use Rattle.shapers_hangul.specs.HangulLaws.{KeepsClusters}
use Rattle.shapers_hangul.proofs.HangulClusters.{on_rewritten}
use Rattle.shapers_normal.specs.Laws.{MakesNoCluster, NormalizesMonotone}
use Rattle.shapers_normal.proofs.Pairs.{Pairs}
use Rattle.shapers_pipeline.specs.NormalizeLaws.{ShapersOrderAlone, ShapersOrderMonotone}
use Rattle.shapers_plan.specs.declared.ot_shape_plan.DriverMasks.{DriverMasks}
use Rattle.shapers_plan.specs.declared.ot_shape_plan.user.UserRange.{UserRange}
use Rattle.shapers_prepare.specs.CharacterProperties.{CharacterProperties}
use Rattle.shapers_prepare.specs.FirstCircle.{behind_circle, first_circle, wants_first_circle}
use Rattle.shapers_prepare.specs.GlyphProperties.{properties_set, with_properties_behind}
use Rattle.shapers_prepare.specs.GraphemeLaws.{GraphemesCover, NoGraphemeSplits}
use Rattle.shapers_prepare.specs.Graphemes.{clusters_formed}
use Rattle.shapers_prepare.specs.NativeDirection.{graphemes_reversed, graphemes_whole, in_native_direction, is_reversed, native_direction, opposite_direction, text_direction}
use Rattle.shapers_prepare.specs.Rotation.{as_other_character, mirrored_glyph, rotated_glyph, goes_backward, goes_vertically, upright_glyph, which_font_has}
use Rattle.shapers_prepare.specs.Vowels.{circle_before_last, left_behind, vowel_circle, vowel_script_of, vowels_circled, vowels_circled_from, vowels_circled_in}
use Rattle.shapers_prepare.specs.declared.ot_shape_prepare.rotation.CharRotation.{CharRotation}
use Rattle.shapers_prepare.proofs.JoinerFlagProofs.{zwnj_flags_added}
use Rattle.shapers_syllabic.specs.Characters.{with_category, with_category_and_position}
use Rattle.shapers_text.specs.ThaiForms.{asks_for_forms, marks_flagged, preprocessed_flagged, preprocessed_in_thai, preprocessed_text, pua_shaped}
use Rattle.shapers_text.specs.ThaiLaws.{ClustersInTwo, FlagsInTwo, KeptInTwo}
use Rattle.shapers_text.proofs.ThaiClusters.{plain_in_two, shaped_in_two}
use Rattle.shapers_text.proofs.ThaiFlags.{plain_flags, shaped_flags}
use Rattle.shapers_text.proofs.ThaiKept.{kept_in_two, shaped_kept}
use Rattle.shapers_universal.specs.PlanData.{arabic_of}
use Rattle.shapers_universal.specs.UniversalMasks.{categorized, with_categories}
use Rattle.shapers_buffer.specs.declared.buffer.glyph_props.GlyphProps.{GlyphProps}
use Rattle.rustybuzz_shapers.specs.Hooks.{PreprocessKeeps}
use Rattle.rustybuzz_shapers.specs.Monotone.{HangulStaysMonotone, ThaiStaysMonotone}
use Rattle.rustybuzz_shapers.specs.declared.shaper.hb_ot_shaper_t.{hb_ot_shaper_t}
use Rattle.rustybuzz_shapers.specs.declared.shaper.hb_ot_shaper_t.TheVariants.{Arabic, Hangul, Hebrew, Indic, Khmer, Myanmar, MyanmarZawgyi, Thai, Universal}
use Rattle.rustybuzz_shapers.proofs.Monotone.{same_clusters}
use Rattle.shapers_pipeline.specs.ClusterLaws.{PreparationKeepsClusters}
use Rattle.shapers_pipeline.specs.Fractions.{decimals_before, decimals_behind, fraction_around, fraction_marked, fractions_around, fractions_set, has_fractions, is_fraction_slash, slash_masks}
use Rattle.shapers_pipeline.specs.Lookups.{text_noted, with_note}
use Rattle.shapers_pipeline.specs.Masks.{as_glyph, with_feature, with_features, with_mask_alone}
use Rattle.shapers_pipeline.specs.Prepared.{Preparation, context_of, normalized_from, rotated_from, rotation_to, text_begun, text_directed, text_in_fractions, text_normalized, text_circled, text_prepared}
use Rattle.shapers_pipeline.specs.ShaperSteps.{masks_set_by, masks_set_for, preprocessed_by, preprocessed_for, universal_masks_set}
use Rattle.shapers_pipeline.specs.declared.fractions.SlashMasks.{SlashMasks}
use Rattle.shapers_pipeline.proofs.ClustersKept.{Kept, clusters-map, itself, kept_by, kept_sorted, kept_then, same}
use Rattle.shapers_pipeline.proofs.TurnedGraphemes.{clusters_form, in_other_direction}

-- a buffer whose glyphs became others, at the same level
pub record Keeps (old new : Buffer) : Type 0 where
  pub level : new.level ≡ old.level
  pub glyphs : Kept (merges old.level) old.glyphs new.glyphs

pub after : (a b c : Buffer) → Keeps a b → Keeps b c → Keeps a c
after a b c one two = record {
  level = two.level ∙ one.level;
  glyphs = kept_then (merges a.level) a.glyphs b.glyphs c.glyphs one.glyphs
      (subst (λ l. Kept (merges l) b.glyphs c.glyphs) one.level two.glyphs);
}

-- ---- the features of the whole text, and the properties of its characters

pub clusters-properties : (p : CharacterProperties) (before gs : Glyphs) → clusters
    (map (λ x. with_properties_behind p x.0 x.1) (each_after before gs)) ≡ clusters gs
clusters-properties p before [] = refl
clusters-properties p before (g ∷ gs) = ap (λ ks. g.cluster ∷ ks) (clusters-properties p (before ++ g ∷ []) gs)

begun : (p : Preparation) (b : Buffer) → Keeps b (text_begun p b)
begun p b =
    let masked = map (with_mask_alone p.plan.ot_map.global) b.glyphs in
    record {
      level = refl;
      glyphs = same (merges b.level) b.glyphs (properties_set p.properties masked)
          (clusters-properties p.properties [] masked ∙ clusters-map (with_mask_alone p.plan.ot_map.global)
          (λ g. refl) b.glyphs);
    }

-- ---- a circle in front

circle_kept : (m : Bool) (p : CharacterProperties) (gs : Glyphs) → Kept m gs (behind_circle p gs)
circle_kept m p [] = itself m []
circle_kept m p (g ∷ gs) =
    kept_by m (g ∷ gs) (first_circle p g ∷ (g ∷ gs)) (λ P own. (own.0, own))
    (λ R self own. ((self g.cluster, own.0), own))

circle_opens : (p : Preparation) (b : Buffer) → Keeps b (text_circled p b)
circle_opens p b =
    let t = text_begun p b in
    after b t (text_circled p b) (begun p b) (record {
      level = refl;
      glyphs = elim (wants_first_circle t && has_nominal p.font dotted_circle) as
          (λ test. Kept (merges t.level) t.glyphs (if test then behind_circle p.properties t.glyphs else t.glyphs)) [
            | true ↦ circle_kept (merges t.level) p.properties t.glyphs
            | false ↦ itself (merges t.level) t.glyphs
          ];
    })

-- ---- graphemes, and the text's own direction

directed_from : GraphemesCover → NoGraphemeSplits → (b : Buffer) → Keeps b
    (in_native_direction (record b { glyphs = clusters_formed b.level b.glyphs }))
directed_from cover splits b =
    let t : Buffer = record b { glyphs = clusters_formed b.level b.glyphs } in
    let own = text_direction t.direction (native_direction t.script) t.glyphs in
    let turned : Buffer = record t {
      direction = opposite_direction t.direction;
      glyphs = graphemes_reversed
          (graphemes_whole t.level t.glyphs);
    } in
    elim (is_reversed t.direction own) as (λ test. Keeps b (if test then turned else t)) [
      | true ↦ record { level = refl; glyphs = in_other_direction cover splits b.level b.glyphs }
      | false ↦ record { level = refl; glyphs = clusters_form b.level b.glyphs }
    ]

-- ---- preprocessing

thai_keeps : (plan : hb_ot_shape_plan_t) (font : Font) (b : Buffer) → PreprocessKeeps Thai plan font b
    (preprocessed_in_thai plan font b)
thai_keeps plan font b =
    let has = has_nominal font in
    let gs = b.glyphs in
    let plain = preprocessed_text false has b.level gs in
    let breaks = plan.break_flags in
    let shaped = pua_shaped has (marks_flagged breaks plain) in
    elim (asks_for_forms plan) as (λ forms.
    let new = preprocessed_flagged breaks forms has b.level gs in
    ClustersInTwo b.level (characters gs) (clusters gs) (clusters new) × KeptInTwo forms gs new × FlagsInTwo gs new) [
      | true ↦ (
        shaped_in_two breaks has b.level gs plain shaped refl refl,
        shaped_kept true refl breaks has b.level gs plain shaped refl refl,
        shaped_flags breaks has b.level gs plain shaped refl refl,
      )
      | false ↦ (
        plain_in_two b.level gs plain refl,
        kept_in_two false has b.level gs,
        plain_flags b.level gs plain
            refl,
      )
    ]

-- A walk that puts a circle before some glyphs, by a table of any kind X.
pub record Parts {X : Type 0} (walk : X → ℕ → Glyphs → Glyphs)
    (left : X → ℕ → Glyph → Glyphs → ℕ)
    : Type 0 where
  pub nil : (s : X) (n : ℕ) → walk s n [] ≡ []
  pub cons : (s : X) (n : ℕ) (g : Glyph) (gs : Glyphs) →
      walk s n (g ∷ gs) ≡ circle_before_last n g
      ++ g ∷ walk s (left s n g gs) gs

module _ {X : Type 0} (walk : X → ℕ → Glyphs → Glyphs)
    (left : X → ℕ → Glyph → Glyphs → ℕ) (parts : Parts walk left) where
  each-parted : (P : ℕ → Type 0) (s : X) (n : ℕ) (gs : Glyphs) → Each P gs → Each P (walk s n gs)
  each-parted P s n [] own = subst (Each P) (sym (parts.nil s n)) tt
  each-parted P s n (g ∷ gs) own =
      let rest = walk s (left s n g gs) gs in
      let more = each-parted P s (left s n g gs) gs own.1 in
      subst (Each P) (sym (parts.cons s n g gs))
      (elim (n == 1) as (λ test. Each P ((if test then vowel_circle g ∷ [] else []) ++ g ∷ rest)) [
        | true ↦
            (own.0, (own.0, more))
        | false ↦ (own.0, more)
      ])

  pairs-parted : (R : ℕ → ℕ → Type 0) → ((k : ℕ) → R k k) → (s : X) (n : ℕ) (gs : Glyphs) → Pairs R gs
      → Pairs R (walk s n gs)
  pairs-parted R self s n [] own = subst (Pairs R) (sym (parts.nil s n)) tt
  pairs-parted R self s n (g ∷ gs) own =
      let rest = walk s (left s n g gs) gs in
      let all = each-parted (R g.cluster) s (left s n g gs) gs own.0 in
      let more = pairs-parted R self s (left s n g gs) gs own.1 in
      subst (Pairs R) (sym (parts.cons s n g gs))
      (elim (n == 1) as (λ test. Pairs R ((if test then vowel_circle g ∷ [] else []) ++ g ∷ rest)) [
        | true ↦
            ((self g.cluster, all), (all, more))
        | false ↦ (all, more)
      ])

  parted_by : (whole : Option X → Glyphs → Glyphs) →
      ((gs : Glyphs) → whole None gs ≡ gs) →
      ((s : X) (gs : Glyphs) → whole (Some s) gs ≡ walk s 0 gs) → (m : Bool) (o : Option X)
      (gs : Glyphs) → Kept m gs (whole o gs)
  parted_by whole without by m None gs = subst (Kept m gs) (sym (without gs)) (itself m gs)
  parted_by whole without by m (Some s) gs = subst (Kept m gs) (sym (by s gs))
      (kept_by m gs (walk s 0 gs) (λ P. each-parted P s 0 gs) (λ R self. pairs-parted R self s 0 gs))

parted_kept : (m : Bool) (b : Buffer) → Kept m b.glyphs (vowels_circled b)
parted_kept m b =
    parted_by vowels_circled_from left_behind (record { nil = λ s n. refl; cons = λ s n g gs. refl }) vowels_circled_in
    (λ gs. refl) (λ s gs. refl) m (vowel_script_of b) b.glyphs

unchanged : (b : Buffer) → Keeps b b
unchanged b = record { level = refl; glyphs = itself (merges b.level) b.glyphs }

preprocessed_keeps : ThaiStaysMonotone → HangulStaysMonotone → (plan : hb_ot_shape_plan_t) (font : Font) (b : Buffer)
    (shaper : hb_ot_shaper_t) → Keeps b (preprocessed_by plan font b shaper)
preprocessed_keeps thai hangul plan font b Hangul =
    let breaks = plan.break_flags in
    let new : Buffer = rewritten_by breaks font b in
    let keeps : KeepsClusters font b new = on_rewritten {T = ℕ} (Ok 0) breaks font b new refl in
    record {
      level = refl;
      glyphs = kept_sorted (merges b.level) b.glyphs new.glyphs keeps.made.old_clusters
          (λ merging. hangul plan font b new merging refl);
    }
preprocessed_keeps thai hangul plan font b Thai =
    let keeps = thai_keeps plan font b in
    record {
      level = refl;
      glyphs = kept_sorted (merges b.level) b.glyphs
          (preprocessed_in_thai plan font b).glyphs keeps.0.made.old_clusters
          (λ merging. thai plan font b (preprocessed_in_thai plan font b) merging keeps);
    }
preprocessed_keeps thai hangul plan font b Indic =
    let circled : Buffer = record b { glyphs = vowels_circled b } in
    let new = preprocessed_by plan font b Indic in
    after b circled new (record { level = refl; glyphs = parted_kept (merges b.level) b }) (record {
      level = refl;
      glyphs = same (merges circled.level) circled.glyphs new.glyphs
          (same_clusters circled.glyphs new.glyphs (zwnj_flags_added plan.break_flags circled.glyphs));
    })
preprocessed_keeps thai hangul plan font b Universal = record { level = refl; glyphs = parted_kept (merges b.level) b }
preprocessed_keeps thai hangul plan font b Arabic = unchanged b
preprocessed_keeps thai hangul plan font b Hebrew = unchanged b
preprocessed_keeps thai hangul plan font b Khmer = unchanged b
preprocessed_keeps thai hangul plan font b Myanmar = unchanged b
preprocessed_keeps thai hangul plan font b MyanmarZawgyi = unchanged b

preprocessed_if : ThaiStaysMonotone → HangulStaysMonotone → (shaper : Option hb_ot_shaper_t)
    (plan : hb_ot_shape_plan_t) (font : Font) (b : Buffer) → Keeps b (preprocessed_for shaper plan font b)
preprocessed_if thai hangul None plan font b = unchanged b
preprocessed_if thai hangul (Some shaper) plan font b = preprocessed_keeps thai hangul plan font b shaper

-- ---- rotation

other_cluster : (g h : Glyph) (o : Option ℕ) → h.cluster ≡ g.cluster →
    (option_map_or (as_other_character g) o h).cluster ≡ g.cluster
other_cluster g h None is = is
other_cluster g h (Some c) is = refl

upright_cluster : (p : CharacterProperties) (font : Font) (g : Glyph) → (upright_glyph p font g).cluster
    ≡ g.cluster
upright_cluster p font g = other_cluster g g (which_font_has font (p.vertical g.glyph_id)) refl

mirrored_cluster : (p : CharacterProperties) (font : Font) (backward : Bool) (mask : ℕ) (g : Glyph) →
    (if backward then mirrored_glyph p font mask g else g).cluster ≡ g.cluster
mirrored_cluster p font true mask g = other_cluster g (with_bits mask g)
    (which_font_has font (p.mirroring g.glyph_id)) refl
mirrored_cluster p font false mask g = refl

rotated_cluster : (p : CharacterProperties) (font : Font) (r : CharRotation) (g : Glyph) →
    (rotated_glyph p font r g).cluster ≡ g.cluster
rotated_cluster p font r g =
    let one = if goes_backward r.direction then mirrored_glyph p font r.rtlm_mask g else g in
    let is = mirrored_cluster p font (goes_backward r.direction) r.rtlm_mask g in
    elim (goes_vertically r.direction && not r.has_vert) as
    (λ test. (if test then upright_glyph p font one else one).cluster ≡ g.cluster) [
      | true ↦ upright_cluster p font one
          ∙ is
      | false ↦ is
    ]

rotated : ThaiStaysMonotone → HangulStaysMonotone → (p : Preparation) (direction : Direction) (b : Buffer) → Keeps b
    (rotated_from p direction b)
rotated thai hangul p direction b =
    let text = preprocessed_for p.shaper p.plan p.font b in
    let change = rotated_glyph p.properties p.font (rotation_to p.masks direction) in
    after b text (rotated_from p direction b) (preprocessed_if thai hangul p.shaper p.plan p.font b) (record {
      level = refl;
      glyphs = same (merges text.level) text.glyphs (map change text.glyphs)
          (clusters-map change (rotated_cluster p.properties p.font (rotation_to p.masks direction)) text.glyphs);
    })

-- ---- normalization

-- the laws that this rests on
pub record Laws : Type 0 where
  pub thai : ThaiStaysMonotone
  pub hangul : HangulStaysMonotone
  pub none : MakesNoCluster
  pub monotone : NormalizesMonotone
  pub alone : ShapersOrderAlone
  pub ordered : ShapersOrderMonotone
  pub cover : GraphemesCover
  pub whole : NoGraphemeSplits

normal : Laws → (p : Preparation) (direction : Direction) (b : Buffer) → Keeps b (normalized_from p direction b)
normal laws p direction b =
    let t = rotated_from p direction b in
    let context = context_of p in
    let alone = laws.alone p.shaper p.plan p.font p.variants p.tables p.texts p.settings.invisible_glyph
    p.settings.draws_selectors in
    let ordered = laws.ordered p.shaper p.plan p.font p.variants p.tables p.texts p.settings.invisible_glyph
    p.settings.draws_selectors in
    after b t (normalized_from p direction b) (rotated laws.thai laws.hangul p direction b) (record {
      level = refl;
      glyphs = record {
        none = laws.none context p.settings.rounds t.level t.glyphs alone;
        mono = λ merging rises. laws.monotone context p.settings.rounds t.level t.glyphs alone ordered merging rises;
      };
    })

-- ---- fractions

concat_clusters : (concat : Bool) (i : ℕ) (gs : Glyphs) → clusters
    (unsafe_to_concat_in concat i (i + 1) gs) ≡ clusters gs
concat_clusters concat i gs = map-unsafe_to_concat_in (λ g. g.cluster) (λ g. refl) concat i (i + 1) gs (omega arith)

bits_clusters : (bits s e : ℕ) (gs : Glyphs) → s ≤ e → clusters
    (with_stretch s e (map (with_bits bits)) gs) ≡ clusters gs
bits_clusters bits s e gs order = map-with_stretch (λ g. g.cluster) s e (map (with_bits bits)) gs order
    (λ xs. clusters-map (with_bits bits) (λ g. refl) xs)

marked_clusters : (m : SlashMasks) (i before behind : ℕ) (gs : Glyphs) → clusters
    (fraction_marked m i before behind gs) ≡ clusters gs
marked_clusters m i before behind gs =
    let whole = unsafe_inside (i - before) (i + 1 + behind) gs in
    let first = with_stretch (i - before) i (map (with_bits m.before)) whole in
    let slash = with_stretch i (i + 1) (map (with_bits m.slash)) first in
    bits_clusters m.behind (i + 1) (i + 1 + behind) slash (omega arith)
    ∙ bits_clusters m.slash i (i + 1) first (omega arith)
    ∙ bits_clusters m.before (i - before) i whole (omega arith)
    ∙ map-unsafe_inside (λ g. g.cluster) (λ g. refl) (i - before) (i + 1 + behind) gs (omega arith)

around_clusters : (m : SlashMasks) (concat : Bool) (i : ℕ) (gs : Glyphs) → clusters
    (fraction_around m concat i gs) ≡ clusters gs
around_clusters m concat i gs =
    let before = decimals_before i gs in
    let behind = decimals_behind i gs in
    let made = if before == 0 || behind == 0 then unsafe_to_concat_in concat i (i + 1) gs else fraction_marked m i before
    behind gs in
    let inner : clusters made ≡ clusters gs =
    elim (before == 0 || behind == 0) as (λ test. clusters
    (if test then unsafe_to_concat_in concat i (i + 1) gs else fraction_marked m i before behind gs) ≡ clusters gs) [
      | true ↦ concat_clusters concat i gs
      | false ↦ marked_clusters m i before behind gs
    ] in
    elim (not (is_fraction_slash (get_or gs i default_glyph))) as
    (λ test. clusters (if test then gs else made) ≡ clusters gs) [ true ↦ refl | false ↦ inner ]

all_around_clusters : (m : SlashMasks) (concat : Bool) (n : ℕ) (gs : Glyphs) → clusters
    (fractions_around m concat n gs) ≡ clusters gs
all_around_clusters m concat zero gs = refl
all_around_clusters m concat (suc n) gs = around_clusters m concat n (fractions_around m concat n gs)
    ∙ all_around_clusters m concat n gs

pub fraction_clusters : (m : DriverMasks) (b : Buffer) → clusters (fractions_set m b) ≡ clusters b.glyphs
fraction_clusters m b =
    let set = fractions_around (slash_masks b.direction m) (asks flags_concat b) (length b.glyphs) b.glyphs in
    elim (has_fractions m) as (λ test. clusters (if test then set else b.glyphs) ≡ clusters b.glyphs) [
      | true ↦ all_around_clusters (slash_masks b.direction m) (asks flags_concat b) (length b.glyphs) b.glyphs
      | false ↦ refl
    ]

fractions : (p : Preparation) (b : Buffer) → Keeps b (record b { glyphs = fractions_set p.masks b })
fractions p b = record {
  level = refl;
  glyphs = same (merges b.level) b.glyphs (fractions_set p.masks b)
      (fraction_clusters p.masks b);
}

-- ---- the shaper's masks

map_keeps : (f : Glyph → Glyph) → ((g : Glyph) → (f g).cluster ≡ g.cluster) →
    (b : Buffer) → Keeps b (record b { glyphs = map f b.glyphs })
map_keeps f keeps b = record {
  level = refl;
  glyphs = same (merges b.level) b.glyphs (map f b.glyphs)
      (clusters-map f keeps b.glyphs);
}

universal_keeps : (kept : Option arabic_shape_plan_t) (script : Option Script) (tables : CharacterTables) (b : Buffer)
    → Keeps b (universal_masks_set kept script tables b)
universal_keeps None script tables b = map_keeps (categorized tables.universal) (λ g. refl) b
universal_keeps (Some p) script tables b =
    let t = with_categories tables b in
    let new = universal_masks_set (Some p) script tables b in
    after b t new (map_keeps (categorized tables.universal) (λ g. refl) b) (record {
      level = refl;
      glyphs = same (merges t.level) t.glyphs new.glyphs
          (same_clusters t.glyphs new.glyphs
          (joined_added p.break_flags p.mask_array script tables.joining tables.general t new refl));
    })

numbered_cluster : (masks : List ℕ) (g : Glyph) → (with_numbered_mask masks g).cluster ≡ g.cluster
numbered_cluster masks g = refl

masks_keep : (plan : hb_ot_shape_plan_t) (tables : CharacterTables) (b : Buffer) (shaper : hb_ot_shaper_t) → Keeps b
    (masks_set_by plan tables b shaper)
masks_keep plan tables b Arabic =
    let new = masks_set_by plan tables b Arabic in
    record {
      level = refl;
      glyphs = same (merges b.level) b.glyphs new.glyphs
          (same_clusters b.glyphs new.glyphs (joined_added (breaks_of plan.plan_data)
          (masks_of plan.plan_data) plan.script tables.joining tables.general b new refl));
    }
masks_keep plan tables b Hangul = map_keeps (with_numbered_mask (masks_stored plan.plan_data))
    (numbered_cluster (masks_stored plan.plan_data)) b
masks_keep plan tables b Indic = map_keeps (with_category_and_position tables) (λ g. refl) b
masks_keep plan tables b Khmer = map_keeps (with_category tables) (λ g. refl) b
masks_keep plan tables b Myanmar = map_keeps (with_category tables) (λ g. refl) b
masks_keep plan tables b Universal = universal_keeps (arabic_of plan.plan_data) plan.script tables b
masks_keep plan tables b Hebrew = unchanged b
masks_keep plan tables b MyanmarZawgyi = unchanged b
masks_keep plan tables b Thai = unchanged b

masks_if : (shaper : Option hb_ot_shaper_t) (plan : hb_ot_shape_plan_t) (tables : CharacterTables) (b : Buffer)
    → Keeps b (masks_set_for shaper plan tables b)
masks_if None plan tables b = unchanged b
masks_if (Some shaper) plan tables b = masks_keep plan tables b shaper

-- ---- the caller's features, and glyphs

feature_cluster : (g : Glyph) (f : UserRange) → (with_feature g f).cluster ≡ g.cluster
feature_cluster g f = elim (nat_le f.start g.cluster && nat_lt g.cluster f.end) as (λ test. (if test
    then (let r : Glyph = record g {
      mask = bit_or (bit_and g.mask (bit_not w32 f.mask))
          (bit_and f.value f.mask);
    } in r)
    else g).cluster ≡ g.cluster) [ true ↦ refl | false ↦ refl ]

features_cluster : (fs : List UserRange) (g : Glyph) → (with_features fs g).cluster ≡ g.cluster
features_cluster [] g = refl
features_cluster (f ∷ fs) g = features_cluster fs (with_feature g f) ∙ feature_cluster g f

all_but_lookups : Laws → (p : Preparation) (b : Buffer) → Keeps b (text_prepared p b)
all_but_lookups laws p b =
    let o = text_circled p b in
    let d = text_directed p b in
    let n = text_normalized p b in
    let f = text_in_fractions p b in
    let m = masks_set_for p.shaper p.plan p.tables f in
    let u : Buffer = record m { glyphs = map (with_features p.ranges) m.glyphs } in
    after b o (text_prepared p b) (circle_opens p b)
    (after o d (text_prepared p b) (directed_from laws.cover laws.whole o)
    (after d n (text_prepared p b) (normal laws p b.direction d) (after n f (text_prepared p b) (fractions p n)
    (after f m (text_prepared p b) (masks_if p.shaper p.plan p.tables f)
    (after m u (text_prepared p b) (map_keeps (with_features p.ranges) (features_cluster p.ranges) m)
    (map_keeps as_glyph (λ g. refl) u))))))

noted_keeps : (noted : Glyph → GlyphProps) (b : Buffer) → Keeps b (text_noted noted b)
noted_keeps noted b = record {
  level = refl;
  glyphs = same (merges b.level) b.glyphs (map (with_note noted) b.glyphs)
      (clusters-map (with_note noted) (λ g. refl) b.glyphs);
}

pub preparation_keeps : Laws → PreparationKeepsClusters
preparation_keeps laws p noted b =
    let text = text_prepared p b in
    let keeps = after b text (text_noted noted text) (all_but_lookups laws p b)
    (noted_keeps noted text) in
    (record { level = keeps.level; old_clusters = keeps.glyphs.none }, keeps.glyphs.mono)
