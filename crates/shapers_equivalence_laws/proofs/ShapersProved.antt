-- Shapers with Unicode's tables meet what the law requires.
use Rattle.std.proofs.Common.{◌≡◌, ◌≢◌, ◌&&◌, not, ℕ, Bool, true, false, cond, eqb, [], ◌∷◌, Option, None, Some, refl, sym, ap, ◌∙◌, subst, eqb-true}
use Rattle.std.specs.List.{AllByRecursion, list_any}
use Rattle.std.proofs.lemmas.Bool.{and_parts, false≢true}
use Rattle.std.proofs.lemmas.Option.{none-some}
use Rattle.ucd_table.proofs.Computing.{tables}
use Rattle.rustybuzz_shapers.specs.declared.shaper.hb_ot_shaper_t.{hb_ot_shaper_t}
use Rattle.rustybuzz_shapers.specs.declared.shaper.hb_ot_shaper_t.TheVariants.{Arabic, Hangul, Hebrew, Indic, Khmer, Myanmar, MyanmarZawgyi, Thai, Universal}
use Rattle.shapers_base.specs.Font.{Font}
use Rattle.shapers_base.specs.declared.font.GlyphId.{GlyphId}
use Rattle.shapers_base.specs.declared.plan.hb_ot_shape_plan_t.{hb_ot_shape_plan_t}
use Rattle.shapers_arabic.proofs.MarkLaws as arabic
use Rattle.shapers_buffer.specs.Glyphs.{Glyphs}
use Rattle.shapers_buffer.specs.declared.buffer.level.BufferClusterLevel.{BufferClusterLevel}
use Rattle.shapers_buffer.specs.Glyph.{characters, order_view}
use Rattle.shapers_normal.specs.Context.{Context}
use Rattle.shapers_normal.specs.Decomposition.{first_round}
use Rattle.shapers_normal.specs.Normalization.{composes, has_rounds, later_rounds, normalized}
use Rattle.shapers_normal.specs.Sorting.{class_of, classes, marks_ordered}
use Rattle.shapers_normal.specs.declared.ot_shape_normalize.normalizing.Rounds.{Rounds}
use Rattle.shapers_buffer.specs.Category.{is_mark}
use Rattle.shapers_indic.specs.Characters.{is_ya_nukta, whole_letters}
use Rattle.shapers_pipeline.specs.ByShaper.{composed_for, decomposed_for, is_character}
use Rattle.shapers_pipeline.specs.TextTables.{VariantForms}
use Rattle.shapers_syllabic.specs.Characters.{composed_behind}
use Rattle.shapers_unicode.specs.Answers.{unicode_tables}
use Rattle.shapers_unicode.specs.General.{category_of_character}
use Rattle.shapers_unicode.specs.MappingRows.{mapping_rows}
use Rattle.shapers_unicode.specs.Pairs.{composed, decomposed}
use Rattle.shapers_equivalence_laws.specs.Equivalence.{CanonicallyEquivalent, full_decomposition}
use Rattle.shapers_equivalence_laws.specs.Laws.{AreInOrder, HaveOwnClasses, IsCanonical, IsPlainText, LeavesOrder, OrdersEquivalently, before_composing, has_short_sequences, in_canonical_order, mark_class}
use Rattle.shapers_equivalence_laws.specs.Shapers.{ShapersKeepTexts, ShapersNormalizeEquivalently, is_split_vowel, orders_marks, unicode_context}
use Rattle.shapers_equivalence_laws.proofs.Apart.{AreMarks}
use Rattle.shapers_equivalence_laws.proofs.ArabicOrder.{arabic_arranged, arabic_same, length_arranged}
use Rattle.shapers_equivalence_laws.proofs.HebrewForms.{Alike, hebrew_alike}
use Rattle.shapers_equivalence_laws.proofs.HebrewOrder.{hebrew_arranged, hebrew_of_run, hebrew_same, length_hebrew}
use Rattle.shapers_equivalence_laws.proofs.KhmerTexts.{khmer_first, unicode_pairs}
use Rattle.shapers_equivalence_laws.proofs.ShortRuns.{stretch_whole}
use Rattle.shapers_equivalence_laws.proofs.Proved.{normalizes_so, orders_marks_so, runs_normalize, takes_apart}
use Rattle.shapers_equivalence_laws.proofs.UnicodePairs.{ApartInto, composed_apart, ends, marks_own_class, own_class, same_text}

-- the shapers that take apart by Unicode's pairs alone
abbrev splits_vowels : Option hb_ot_shaper_t → Bool
splits_vowels (Some Khmer) = true
splits_vowels _ = false

-- ---- what comes apart

taken_by : (b : Bool) (o : Option (ℕ × ℕ)) (p : ℕ × ℕ) → cond b o None ≡ Some p → o ≡ Some p
taken_by true o p e = e
taken_by false o p e = absurd (none-some p e)

left_by : (b : Bool) (o : Option (ℕ × ℕ)) (p : ℕ × ℕ) → cond b None o ≡ Some p → o ≡ Some p
left_by true o p e = absurd (none-some p e)
left_by false o p e = e

apart_for : (shaper : Option hb_ot_shaper_t) (c : ℕ) (p : ℕ × ℕ) → splits_vowels shaper ≡ false
    → decomposed_for shaper unicode_tables c ≡ Some p → decomposed c ≡ Some p
apart_for None c p by e = e
apart_for (Some Arabic) c p by e = e
apart_for (Some Hangul) c p by e = e
apart_for (Some Hebrew) c p by e = e
apart_for (Some Indic) c p by e = left_by (list_any (λ d. eqb d c) whole_letters) (decomposed c) p e
apart_for (Some Khmer) c p by e = absurd (false≢true (sym by))
apart_for (Some Myanmar) c p by e = e
apart_for (Some MyanmarZawgyi) c p by e = e
apart_for (Some Thai) c p by e = e
apart_for (Some Universal) c p by e = e

-- ---- what composes

some_by : (b : Bool) (o : Option ℕ) (c : ℕ) → cond b None o ≡ Some c → o ≡ Some c
some_by true o c e = absurd (none-some c e)
some_by false o c e = e

made_by : (b : Bool) (o : Option ℕ) (c : ℕ) → cond b o None ≡ Some c → o ≡ Some c
made_by true o c e = e
made_by false o c e = absurd (none-some c e)

behind_apart : (a b c : ℕ) → composed_behind unicode_tables a b ≡ Some c → ApartInto a b c
behind_apart a b c e = composed_apart a b c (some_by (is_mark (category_of_character a)) (composed a b) c e)

ya_nukta_pair : decomposed 0x09DF ≡ Some (0x09AF, 0x09BC)
unfolding tables decomposed mapping_rows
ya_nukta_pair = refl

ya_nukta_apart : (a b c : ℕ) → is_ya_nukta a b ≡ true → 0x09DF ≡ c → ApartInto a b c
ya_nukta_apart a b c both is =
    let parts = and_parts (eqb a 0x09AF) (eqb b 0x09BC) both in
    let first = eqb-true a 0x09AF parts.0 in
    let second = eqb-true b 0x09BC parts.1 in
    record {
      pair = ap decomposed (sym is) ∙ ya_nukta_pair ∙ ap (λ x. Some (x, 0x09BC)) (sym first) ∙ ap (λ x. Some (a, x))
          (sym second);
      two = ap (λ x. eqb x 0) second;
    }

indic_composed : (a b c : ℕ) (ya : Bool) → (not (is_mark (category_of_character a)) && is_ya_nukta a b) ≡ ya
    → cond ya (Some 0x09DF) (composed_behind unicode_tables a b) ≡ Some c → ApartInto a b c
indic_composed a b c true test e =
    let is : 0x09DF ≡ c = cc in
    ya_nukta_apart a b c (and_parts (not (is_mark (category_of_character a))) (is_ya_nukta a b) test).1 is
indic_composed a b c false test e = behind_apart a b c e

composed_alike : (shaper : Option hb_ot_shaper_t) (plan : hb_ot_shape_plan_t) (a b c : ℕ)
    → splits_vowels shaper ≡ false → composed_for shaper plan unicode_tables a b ≡ Some c → Alike a b c
composed_alike None plan a b c by e = same_text own_class a b c (composed_apart a b c e)
composed_alike (Some Arabic) plan a b c by e = same_text own_class a b c (composed_apart a b c e)
composed_alike (Some Hangul) plan a b c by e = same_text own_class a b c (composed_apart a b c e)
composed_alike (Some Hebrew) plan a b c by e = hebrew_alike a b c plan.has_gpos_mark e
composed_alike (Some Indic) plan a b c by e = same_text own_class a b c
    (indic_composed a b c (not (is_mark (category_of_character a)) && is_ya_nukta a b) refl e)
composed_alike (Some Khmer) plan a b c by e = absurd (false≢true (sym by))
composed_alike (Some Myanmar) plan a b c by e = same_text own_class a b c (composed_apart a b c e)
composed_alike (Some MyanmarZawgyi) plan a b c by e = same_text own_class a b c (composed_apart a b c e)
composed_alike (Some Thai) plan a b c by e = same_text own_class a b c (composed_apart a b c e)
composed_alike (Some Universal) plan a b c by e = same_text own_class a b c (behind_apart a b c e)

-- ---- the premises

pub is_canonical : (shaper : Option hb_ot_shaper_t) (plan : hb_ot_shape_plan_t) (font : Font) (variants : VariantForms)
    (invisible : Option GlyphId) (draws : Bool)
    → splits_vowels shaper ≡ false
    → IsCanonical decomposed (unicode_context shaper plan font variants invisible draws)
is_canonical shaper plan font variants invisible draws by = record {
  ends = ends;
  apart = λ c p e. apart_for shaper c p by (taken_by (is_character c) (decomposed_for shaper unicode_tables c) p e);
  composed = λ a b c e. composed_alike shaper plan a b c by
      (made_by (is_character a && is_character b) (composed_for shaper plan unicode_tables a b) c e);
  marks = λ c some. marks_own_class 8 c some;
}

-- a shaper's order of marks
pub leaves_order : (shaper : Option hb_ot_shaper_t) (plan : hb_ot_shape_plan_t) (font : Font) (variants : VariantForms)
    (invisible : Option GlyphId) (draws : Bool)
    → orders_marks shaper ≡ false → LeavesOrder (unicode_context shaper plan font variants invisible draws)
leaves_order None plan font variants invisible draws by = λ level s e gs some within. refl
leaves_order (Some Arabic) plan font variants invisible draws by = absurd (false≢true (sym by))
leaves_order (Some Hangul) plan font variants invisible draws by = λ level s e gs some within. refl
leaves_order (Some Hebrew) plan font variants invisible draws by = absurd (false≢true (sym by))
leaves_order (Some Indic) plan font variants invisible draws by = λ level s e gs some within. refl
leaves_order (Some Khmer) plan font variants invisible draws by = λ level s e gs some within. refl
leaves_order (Some Myanmar) plan font variants invisible draws by = λ level s e gs some within. refl
leaves_order (Some MyanmarZawgyi) plan font variants invisible draws by = λ level s e gs some within. refl
leaves_order (Some Thai) plan font variants invisible draws by = λ level s e gs some within. refl
leaves_order (Some Universal) plan font variants invisible draws by = λ level s e gs some within. refl

run_marks : (context : Context) (gs : Glyphs) → HaveOwnClasses context gs
    → AllByRecursion (λ g. class_of g ≢ 0) gs → AreMarks context gs
run_marks context [] own marked = tt
run_marks context (g ∷ gs) own marked = ((own.0, marked.0), run_marks context gs own.1 marked.1)

without_order : (context : Context) → LeavesOrder context → OrdersEquivalently decomposed context
without_order context o = record {
  arranged = λ marks. marks;
  same_length = λ marks. refl;
  of_run = λ level s e gs some within. o level s e gs some within ∙ sym (stretch_whole s e (order_view gs) some);
  equivalent = λ marks run. λ k. refl;
}

pub arranged_for : (shaper : Option hb_ot_shaper_t) (plan : hb_ot_shape_plan_t) (font : Font) (variants : VariantForms)
    (invisible : Option GlyphId) (draws : Bool)
    → splits_vowels shaper ≡ false
    → OrdersEquivalently decomposed (unicode_context shaper plan font variants invisible draws)
arranged_for None plan font variants invisible draws by = without_order
    (unicode_context None plan font variants invisible draws)
    (leaves_order None plan font variants invisible draws refl)
arranged_for (Some Arabic) plan font variants invisible draws by =
    let context = unicode_context (Some Arabic) plan font variants invisible draws in
    record {
      arranged = arabic_arranged;
      same_length = length_arranged;
      of_run = λ level s e gs some within. arabic.marks_view level s e gs;
      equivalent = λ marks run. arabic_same context (full_decomposition decomposed)
          (takes_apart decomposed context (is_canonical (Some Arabic) plan font variants invisible draws by)) marks
          (run_marks context marks run.own run.marked);
    }
arranged_for (Some Hangul) plan font variants invisible draws by = without_order
    (unicode_context (Some Hangul) plan font variants invisible draws)
    (leaves_order (Some Hangul) plan font variants invisible draws refl)
arranged_for (Some Hebrew) plan font variants invisible draws by =
    let context = unicode_context (Some Hebrew) plan font variants invisible draws in
    record {
      arranged = hebrew_arranged;
      same_length = length_hebrew;
      of_run = λ level s e gs some within. hebrew_of_run level s e gs some within;
      equivalent = λ marks run. hebrew_same context (full_decomposition decomposed)
          (takes_apart decomposed context (is_canonical (Some Hebrew) plan font variants invisible draws by)) marks
          (run_marks context marks run.own run.marked);
    }
arranged_for (Some Indic) plan font variants invisible draws by = without_order
    (unicode_context (Some Indic) plan font variants invisible draws)
    (leaves_order (Some Indic) plan font variants invisible draws refl)
arranged_for (Some Khmer) plan font variants invisible draws by = absurd (false≢true (sym by))
arranged_for (Some Myanmar) plan font variants invisible draws by = without_order
    (unicode_context (Some Myanmar) plan font variants invisible draws)
    (leaves_order (Some Myanmar) plan font variants invisible draws refl)
arranged_for (Some MyanmarZawgyi) plan font variants invisible draws by = without_order
    (unicode_context (Some MyanmarZawgyi) plan font variants invisible draws)
    (leaves_order (Some MyanmarZawgyi) plan font variants invisible draws refl)
arranged_for (Some Thai) plan font variants invisible draws by = without_order
    (unicode_context (Some Thai) plan font variants invisible draws)
    (leaves_order (Some Thai) plan font variants invisible draws refl)
arranged_for (Some Universal) plan font variants invisible draws by = without_order
    (unicode_context (Some Universal) plan font variants invisible draws)
    (leaves_order (Some Universal) plan font variants invisible draws refl)

-- ---- Khmer, without its split vowels

abbrev khmer_context : hb_ot_shape_plan_t → Font → VariantForms → Option GlyphId → Bool → Context
khmer_context plan font variants invisible draws = record
    (unicode_context (Some Khmer) plan font variants invisible draws) { decomposed = unicode_pairs }

khmer_canonical : (plan : hb_ot_shape_plan_t) (font : Font) (variants : VariantForms) (invisible : Option GlyphId)
    (draws : Bool)
    → IsCanonical decomposed (khmer_context plan font variants invisible draws)
khmer_canonical plan font variants invisible draws = record {
  ends = ends;
  apart = λ c p e. taken_by (is_character c) (decomposed c) p e;
  composed = λ a b c e. same_text own_class a b c
      (behind_apart a b c (made_by (is_character a && is_character b) (composed_behind unicode_tables a b) c e));
  marks = λ c some. marks_own_class 8 c some;
}

khmer_leaves : (plan : hb_ot_shape_plan_t) (font : Font) (variants : VariantForms) (invisible : Option GlyphId)
    (draws : Bool)
    → LeavesOrder (khmer_context plan font variants invisible draws)
khmer_leaves plan font variants invisible draws = λ level s e gs some within. refl

-- ---- the laws

abbrev Normalizes : Option hb_ot_shaper_t → hb_ot_shape_plan_t → Font → VariantForms → Option GlyphId → Bool → Rounds
    → BufferClusterLevel → Glyphs → Type 0
Normalizes shaper plan font variants invisible draws rounds level gs =
    let context = unicode_context shaper plan font variants invisible draws in
    IsPlainText context gs →
    CanonicallyEquivalent decomposed (mark_class context) (characters (before_composing context level gs))
    (characters gs)
    × (((has_rounds rounds gs && composes context.mode) ≡ true → AreInOrder context
    (before_composing context level gs)) → CanonicallyEquivalent decomposed (mark_class context)
    (characters (normalized context rounds level gs)) (characters gs))

abbrev Keeps : Option hb_ot_shaper_t → hb_ot_shape_plan_t → Font → VariantForms → Option GlyphId → Bool → Rounds
    → BufferClusterLevel → Glyphs → Type 0
Keeps shaper plan font variants invisible draws rounds level gs =
    let context = unicode_context shaper plan font variants invisible draws in
    IsPlainText context gs → has_short_sequences (first_round context level gs) ≡ true →
    CanonicallyEquivalent decomposed (mark_class context) (characters (normalized context rounds level gs))
    (characters gs)

by_pairs : (shaper : Option hb_ot_shaper_t) (plan : hb_ot_shape_plan_t) (font : Font) (variants : VariantForms)
    (invisible : Option GlyphId) (draws : Bool) (rounds : Rounds) (level : BufferClusterLevel)
    (gs : Glyphs)
    → splits_vowels shaper ≡ false → Normalizes shaper plan font variants invisible draws rounds level gs
by_pairs shaper plan font variants invisible draws rounds level gs by =
    let context = unicode_context shaper plan font variants invisible draws in
    let canonical = is_canonical shaper plan font variants invisible draws by in
    let arranged = arranged_for shaper plan font variants invisible draws by in
    λ text. (
      orders_marks_so decomposed context level gs canonical arranged text,
      λ in_order. normalizes_so decomposed
          context rounds level gs canonical arranged text in_order,
    )

kept_by_pairs : (shaper : Option hb_ot_shaper_t) (plan : hb_ot_shape_plan_t) (font : Font) (variants : VariantForms)
    (invisible : Option GlyphId) (draws : Bool) (rounds : Rounds) (level : BufferClusterLevel)
    (gs : Glyphs)
    → splits_vowels shaper ≡ false → orders_marks shaper ≡ false
    → Keeps shaper plan font variants invisible draws rounds level gs
kept_by_pairs shaper plan font variants invisible draws rounds level gs by leaves =
    let context = unicode_context shaper plan font variants invisible draws in
    λ text short. runs_normalize decomposed context rounds level gs
    (is_canonical shaper plan font variants invisible draws by)
    (leaves_order shaper plan font variants invisible draws leaves) text short

khmer_normalizes : (plan : hb_ot_shape_plan_t) (font : Font) (variants : VariantForms) (invisible : Option GlyphId)
    (draws : Bool) (rounds : Rounds) (level : BufferClusterLevel) (gs : Glyphs)
    → list_any is_split_vowel gs ≡ false → Normalizes (Some Khmer) plan font variants invisible draws rounds level gs
khmer_normalizes plan font variants invisible draws rounds level gs whole =
    let own = unicode_context (Some Khmer) plan font variants invisible draws in
    let context = khmer_context plan font variants invisible draws in
    let canonical = khmer_canonical plan font variants invisible draws in
    let arranged = without_order context (khmer_leaves plan font variants invisible draws) in
    let first : first_round own level gs ≡ first_round context level gs = khmer_first own level gs whole in
    let class = mark_class own in
    λ text.
    let plain : IsPlainText context gs = record { own = text.own; no_selector = text.no_selector } in (
      subst (λ xs. CanonicallyEquivalent decomposed class (characters (marks_ordered context level xs))
          (characters gs)) (sym first) (orders_marks_so decomposed context level gs canonical arranged plain),
      λ in_order. subst (λ xs. CanonicallyEquivalent decomposed class
          (characters (later_rounds context (has_rounds rounds gs) level xs)) (characters gs)) (sym first)
          (normalizes_so decomposed context rounds level gs canonical arranged plain
          (λ composing.
          let order = in_order composing in
          let same = ap (marks_ordered context level) first in
          record {
            own = subst (HaveOwnClasses context) same order.own;
            ordered = ap
                (λ xs. in_canonical_order (classes xs)) (sym same) ∙ order.ordered;
          })),
    )

khmer_keeps : (plan : hb_ot_shape_plan_t) (font : Font) (variants : VariantForms) (invisible : Option GlyphId)
    (draws : Bool) (rounds : Rounds) (level : BufferClusterLevel) (gs : Glyphs)
    → list_any is_split_vowel gs ≡ false → Keeps (Some Khmer) plan font variants invisible draws rounds level gs
khmer_keeps plan font variants invisible draws rounds level gs whole =
    let own = unicode_context (Some Khmer) plan font variants invisible draws in
    let context = khmer_context plan font variants invisible draws in
    let first : first_round own level gs ≡ first_round context level gs = khmer_first own level gs whole in
    λ text short.
    subst (λ xs. CanonicallyEquivalent decomposed (mark_class own)
    (characters (later_rounds context (has_rounds rounds gs) level xs)) (characters gs)) (sym first)
    (runs_normalize decomposed context rounds level gs (khmer_canonical plan font variants invisible draws)
    (khmer_leaves plan font variants invisible draws) (record { own = text.own; no_selector = text.no_selector })
    (ap has_short_sequences (sym first) ∙ short))

pub shapers_normalize : ShapersNormalizeEquivalently
shapers_normalize None plan font variants invisible draws rounds level gs whole = by_pairs None plan font variants
    invisible draws rounds level gs refl
shapers_normalize (Some Arabic) plan font variants invisible draws rounds level gs whole = by_pairs
    (Some Arabic) plan font variants invisible draws rounds level gs refl
shapers_normalize (Some Hangul) plan font variants invisible draws rounds level gs whole = by_pairs
    (Some Hangul) plan font variants invisible draws rounds level gs refl
shapers_normalize (Some Hebrew) plan font variants invisible draws rounds level gs whole = by_pairs
    (Some Hebrew) plan font variants invisible draws rounds level gs refl
shapers_normalize (Some Indic) plan font variants invisible draws rounds level gs whole = by_pairs
    (Some Indic) plan font variants invisible draws rounds level gs refl
shapers_normalize (Some Khmer) plan font variants invisible draws rounds level gs whole = khmer_normalizes plan font
    variants invisible draws rounds level gs whole
shapers_normalize (Some Myanmar) plan font variants invisible draws rounds level gs whole = by_pairs
    (Some Myanmar) plan font variants invisible draws rounds level gs refl
shapers_normalize (Some MyanmarZawgyi) plan font variants invisible draws rounds level gs whole = by_pairs
    (Some MyanmarZawgyi) plan font variants invisible draws rounds level gs refl
shapers_normalize (Some Thai) plan font variants invisible draws rounds level gs whole = by_pairs
    (Some Thai) plan font variants invisible draws rounds level gs refl
shapers_normalize (Some Universal) plan font variants invisible draws rounds level gs whole = by_pairs
    (Some Universal) plan font variants invisible draws rounds level gs refl

pub shapers_keep : ShapersKeepTexts
shapers_keep None plan font variants invisible draws rounds level gs whole leaves = kept_by_pairs None plan font
    variants invisible draws rounds level gs refl leaves
shapers_keep (Some Arabic) plan font variants invisible draws rounds level gs whole leaves = kept_by_pairs
    (Some Arabic) plan font variants invisible draws rounds level gs refl leaves
shapers_keep (Some Hangul) plan font variants invisible draws rounds level gs whole leaves = kept_by_pairs
    (Some Hangul) plan font variants invisible draws rounds level gs refl leaves
shapers_keep (Some Hebrew) plan font variants invisible draws rounds level gs whole leaves = kept_by_pairs
    (Some Hebrew) plan font variants invisible draws rounds level gs refl leaves
shapers_keep (Some Indic) plan font variants invisible draws rounds level gs whole leaves = kept_by_pairs
    (Some Indic) plan font variants invisible draws rounds level gs refl leaves
shapers_keep (Some Khmer) plan font variants invisible draws rounds level gs whole leaves = khmer_keeps plan font
    variants invisible draws rounds level gs whole
shapers_keep (Some Myanmar) plan font variants invisible draws rounds level gs whole leaves = kept_by_pairs
    (Some Myanmar) plan font variants invisible draws rounds level gs refl leaves
shapers_keep (Some MyanmarZawgyi) plan font variants invisible draws rounds level gs whole leaves = kept_by_pairs
    (Some MyanmarZawgyi) plan font variants invisible draws rounds level gs refl leaves
shapers_keep (Some Thai) plan font variants invisible draws rounds level gs whole leaves = kept_by_pairs
    (Some Thai) plan font variants invisible draws rounds level gs refl leaves
shapers_keep (Some Universal) plan font variants invisible draws rounds level gs whole leaves = kept_by_pairs
    (Some Universal) plan font variants invisible draws rounds level gs refl leaves
