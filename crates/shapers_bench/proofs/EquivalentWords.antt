-- Short words normalized by Unicode's tables.
use Rattle.std.proofs.Common.{◌≡◌, ◌+◌, ◌-◌, ◌≤◌, ◌&&◌, ◌||◌, ◌∙◌, ℕ, suc, true, false, cond, eqb, nat_lt, nat_le, List, [], ◌∷◌, ◌++◌, length, map, Option, None, Some, refl, sym, ap, arith}
use Rattle.std.specs.List.{AllByRecursion, list_all, list_any}
use Rattle.std.proofs.lemmas.Bool.{and_from, and_parts, false≢true}
use Rattle.std.proofs.lemmas.Bool.Decides.{nat_tests}
use Rattle.std.proofs.lemmas.List.{length-map}
use Rattle.shapers_base.specs.Font.{Font}
use Rattle.shapers_base.specs.declared.plan.hb_ot_shape_plan_t.{hb_ot_shape_plan_t}
use Rattle.rustybuzz_shapers.specs.declared.shaper.hb_ot_shaper_t.{hb_ot_shaper_t}
use Rattle.rustybuzz_shapers.specs.declared.shaper.hb_ot_shaper_t.TheVariants.{Hangul}
use Rattle.shapers_buffer.specs.Buffer.{Buffer}
use Rattle.shapers_buffer.specs.Category.{is_mark}
use Rattle.shapers_buffer.specs.Glyph.{characters}
use Rattle.shapers_buffer.specs.Glyphs.{Glyph, Glyphs}
use Rattle.shapers_buffer.specs.Lists.{each_after}
use Rattle.shapers_buffer.specs.declared.buffer.category.hb_unicode_general_category_t.TheVariants.{Cn}
use Rattle.shapers_buffer.specs.declared.buffer.level.BufferClusterLevel.{BufferClusterLevel}
use Rattle.shapers_normal.specs.Decomposition.{first_round}
use Rattle.shapers_normal.specs.Normalization.{normalized}
use Rattle.shapers_normal.specs.Sorting.{class_of, classes, mark_sequences, max_marks}
use Rattle.shapers_normal.specs.Variants.{is_selector_glyph}
use Rattle.shapers_normal.specs.declared.ot_shape_normalize.normalizing.Rounds.TheVariants.{Always}
use Rattle.shapers_normal.proofs.VariantHalves.{grows_ninefold}
use Rattle.shapers_pipeline.specs.TextTables.{VariantForms}
use Rattle.shapers_prepare.specs.GlyphProperties.{is_mark_character, properties_set, with_properties_behind}
use Rattle.shapers_prepare.specs.UnicodeValues.{unicode_properties}
use Rattle.shapers_unicode.specs.Classes.{modified_class}
use Rattle.shapers_unicode.specs.General.{category_of_character}
use Rattle.shapers_unicode.specs.Pairs.{decomposed}
use Rattle.shapers_equivalence_laws.specs.Equivalence.{CanonicallyEquivalent, OrdersAlike, fully_decomposed}
use Rattle.shapers_equivalence_laws.specs.Laws.{IsPlainText, NormalizesEquivalently, SequencesNormalizeEquivalently, has_short_sequences, mark_class}
use Rattle.shapers_equivalence_laws.specs.Shapers.{ShapersKeepTexts, has_split_vowel, orders_marks}
use Rattle.shapers_equivalence_laws.proofs.PlainGlyphs.{kept-class}
use Rattle.shapers_equivalence_laws.proofs.ShapersProved.{arranged_for, is_canonical, leaves_order}
use Rattle.shapers_bench.specs.EquivalentWords.{AreEquivalent, IsNormalized, are_low, context_by, is_low, taken_apart}
use Rattle.shapers_bench.specs.Words.{letter, letters_from, word_in}

-- ---- what a glyph keeps of its character

-- for a character before the surrogates the class that a glyph keeps is that by which normalization orders it
same-class : (shaper : Option hb_ot_shaper_t) (plan : hb_ot_shape_plan_t) (font : Font) (variants : VariantForms) (c : ℕ) → is_low c ≡ true
    → cond (is_mark_character unicode_properties c) (unicode_properties.class c) 0
    ≡ mark_class (context_by shaper plan font variants) c
same-class shaper plan font variants c low =
    let rest = nat_lt 0xDFFF c && nat_lt c 0x110000 in
    ap (λ b. cond (nat_le 0x80 c && is_mark (category_of_character (cond (b || rest) c 0xFFFD)))
    (modified_class (cond (b || rest) c 0xFFFD)) 0) low
    ∙ sym (ap (λ b. cond (nat_le 0x80 c && is_mark (cond (b || rest) (category_of_character c) Cn))
    (cond (b || rest) (modified_class c) 0) 0) low)

-- ---- a word with the properties of its characters

abbrev set_behind : Glyphs → Glyphs → Glyphs
set_behind before gs = map (λ x. with_properties_behind unicode_properties x.0 x.1) (each_after before gs)

own-classes : (shaper : Option hb_ot_shaper_t) (plan : hb_ot_shape_plan_t) (font : Font) (variants : VariantForms) (before : Glyphs) (n : ℕ)
    (word : List ℕ) → are_low word ≡ true
    → AllByRecursion (λ g. class_of g ≡ mark_class (context_by shaper plan font variants) g.glyph_id)
    (set_behind before (letters_from n word))
own-classes shaper plan font variants before n [] low = tt
own-classes shaper plan font variants before n (c ∷ cs) low =
    let p = and_parts (is_low c) (are_low cs) low in (
      kept-class unicode_properties _ c ∙ same-class shaper plan font variants c p.0,
      own-classes shaper plan font variants (before ++ letter n c ∷ []) (suc n) cs p.1,
    )

no-selectors : (before : Glyphs) (n : ℕ) (word : List ℕ) → are_low word ≡ true
    → list_any is_selector_glyph (set_behind before (letters_from n word)) ≡ false
no-selectors before n [] low = refl
no-selectors before n (c ∷ cs) low =
    let p = and_parts (is_low c) (are_low cs) low in
    let less = p.0 in
    let first : nat_le 0xFE00 c ≡ false = grind (arith, nat_tests) in
    let second : nat_le 0xE0100 c ≡ false = grind (arith, nat_tests) in
    let rest = list_any is_selector_glyph (set_behind (before ++ letter n c ∷ []) (letters_from (suc n) cs)) in
    ap (λ b. ((b && nat_le c 0xFE0F) || (nat_le 0xE0100 c && nat_le c 0xE01EF)) || rest) first
    ∙ (ap (λ b. (b && nat_le c 0xE01EF) || rest) second ∙ no-selectors (before ++ letter n c ∷ []) (suc n) cs p.1)

same-characters : (before : Glyphs) (n : ℕ) (word : List ℕ)
    → characters (set_behind before (letters_from n word)) ≡ word
same-characters before n [] = refl
same-characters before n (c ∷ cs) = ap (λ ds. c ∷ ds) (same-characters (before ++ letter n c ∷ []) (suc n) cs)

plain-text : (shaper : Option hb_ot_shaper_t) (plan : hb_ot_shape_plan_t) (font : Font) (variants : VariantForms) (word : List ℕ) → are_low word ≡ true
    → IsPlainText (context_by shaper plan font variants) (properties_set unicode_properties (letters_from 0 word))
plain-text shaper plan font variants word low = record {
  own = own-classes shaper plan font variants [] 0 word low;
  no_selector = no-selectors [] 0 word low;
}

-- ---- short words have short sequences of marks

pub runs-within : (s i : ℕ) (ks : List ℕ) → s ≤ i → i - s + length ks ≤ 32
    → list_all (λ (run : ℕ × ℕ). nat_le (run.1 - run.0) max_marks) (mark_sequences s i ks) ≡ true
runs-within s i [] order few =
    let one : nat_le (i - s) 32 ≡ true = grind (arith, nat_tests) in
    ap (λ b. b && true) one
runs-within s i (k ∷ ks) order few =
    let now : i - s ≤ 32 = omega (arith, few) in
    let one : nat_le (i - s) 32 ≡ true = grind (arith, nat_tests) in
    let short = λ (run : ℕ × ℕ). nat_le (run.1 - run.0) max_marks in
    elim (eqb k 0) as (λ b. list_all short
    (cond b ((s, i) ∷ mark_sequences (i + 1) (i + 1) ks) (mark_sequences s (i + 1) ks)) ≡ true) [
      | true ↦ and_from (nat_le (i - s) 32) (list_all short (mark_sequences (i + 1) (i + 1) ks)) one
          (runs-within (i + 1) (i + 1) ks (omega arith) (omega (arith, few)))
      | false ↦ runs-within s (i + 1) ks (omega (arith, order)) (omega (arith, few, order))
    ]

short-sequences : (shaper : Option hb_ot_shaper_t) (plan : hb_ot_shape_plan_t) (font : Font) (variants : VariantForms) (level : BufferClusterLevel)
    (word : List ℕ) → length word ≤ 3
    → has_short_sequences (first_round (context_by shaper plan font variants) level
    (properties_set unicode_properties (letters_from 0 word))) ≡ true
short-sequences shaper plan font variants level word few =
    let context = context_by shaper plan font variants in
    let gs = properties_set unicode_properties (letters_from 0 word) in
    let hs = first_round context level gs in
    let same = ap length (same-characters [] 0 word) in
    runs-within 0 0 (classes hs) (omega arith)
    (omega (arith, few, same, length-map gs (λ (g : Glyph). g.glyph_id), grows_ninefold context level gs, length-map hs class_of))

-- what a text becomes is equivalent to it where the law says so
apart-alike : OrdersAlike → (shaper : Option hb_ot_shaper_t) (plan other : hb_ot_shape_plan_t) (font : Font)
    (variants : VariantForms) (word cs : List ℕ) →
    let gs = properties_set unicode_properties (letters_from 0 word) in
    CanonicallyEquivalent decomposed (mark_class (context_by shaper plan font variants)) cs (characters gs)
    → taken_apart (context_by None other font variants) cs ≡ taken_apart (context_by None other font variants) word
apart-alike alike shaper plan other font variants word cs same =
    let context = context_by None other font variants in
    let gs = properties_set unicode_properties (letters_from 0 word) in
    alike (mark_class context) (fully_decomposed decomposed cs) (fully_decomposed decomposed (characters gs)) same
    ∙ ap (taken_apart context) (same-characters [] 0 word)

of-buffer : (shaper : Option hb_ot_shaper_t) (font : Font) (variants : VariantForms) (word : List ℕ) (b : Buffer)
    (made : IsNormalized shaper font variants word b)
    → CanonicallyEquivalent decomposed (mark_class (context_by shaper made.plan font variants))
    (characters (normalized (context_by shaper made.plan font variants) Always b.level
    (properties_set unicode_properties (letters_from 0 word))))
    (characters (properties_set unicode_properties (letters_from 0 word)))
    → OrdersAlike → AreEquivalent font variants (characters b.glyphs) word
of-buffer shaper font variants word b made same alike other =
    let context = context_by None other font variants in
    ap (λ gs. taken_apart context (characters gs)) made.glyphs
    ∙ apart-alike alike shaper made.plan other font variants word _ same

-- by the law of each shaper
pub equivalent-by-shaper : ShapersKeepTexts → OrdersAlike → (shaper : Option hb_ot_shaper_t) (font : Font)
    (variants : VariantForms) (word : List ℕ) (b : Buffer) → orders_marks shaper ≡ false
    → ((gs : Glyphs) → has_split_vowel shaper gs ≡ false) → length word ≤ 3
    → IsNormalized shaper font variants word b → AreEquivalent font variants (characters b.glyphs) word
equivalent-by-shaper keep alike shaper font variants word b leaves whole few made =
    let gs = properties_set unicode_properties (letters_from 0 word) in
    of-buffer shaper font variants word b made
    (keep shaper made.plan font variants None false Always b.level gs (whole gs) leaves
    (plain-text shaper made.plan font variants word made.low)
    (short-sequences shaper made.plan font variants b.level word few))
    alike

-- by the law of short sequences, where no shaper has a say
pub equivalent-by-sequences : SequencesNormalizeEquivalently → OrdersAlike → (font : Font) (variants : VariantForms)
    (word : List ℕ) (b : Buffer) → length word ≤ 3 → IsNormalized None font variants word b
    → AreEquivalent font variants (characters b.glyphs) word
equivalent-by-sequences law alike font variants word b few made =
    let gs = properties_set unicode_properties (letters_from 0 word) in
    of-buffer None font variants word b made
    (law decomposed (context_by None made.plan font variants) Always b.level gs
    (is_canonical None made.plan font variants None false refl)
    (leaves_order None made.plan font variants None false refl)
    (plain-text None made.plan font variants word made.low)
    (short-sequences None made.plan font variants b.level word few))
    alike

-- by the law of equivalence, where nothing is composed
pub equivalent-in-hangul : NormalizesEquivalently → OrdersAlike → (font : Font) (variants : VariantForms)
    (word : List ℕ) (b : Buffer) → IsNormalized (Some Hangul) font variants word b
    → AreEquivalent font variants (characters b.glyphs) word
equivalent-in-hangul law alike font variants word b made =
    let gs = properties_set unicode_properties (letters_from 0 word) in
    of-buffer (Some Hangul) font variants word b made
    (law decomposed (context_by (Some Hangul) made.plan font variants) Always b.level gs
    (is_canonical (Some Hangul) made.plan font variants None false refl)
    (arranged_for (Some Hangul) made.plan font variants None false refl)
    (plain-text (Some Hangul) made.plan font variants word made.low)
    (λ composing. absurd (false≢true composing)))
    alike

-- what the steps of the code make
pub by-steps : (shaper : Option hb_ot_shaper_t) (plan : hb_ot_shape_plan_t) (font : Font) (variants : VariantForms)
    (room : ℕ) (word : List ℕ) (old mid new : Buffer) → are_low word ≡ true → old ≡ word_in room word
    → mid ≡ record old { glyphs = properties_set unicode_properties old.glyphs }
    → new ≡ record mid { glyphs = normalized (context_by shaper plan font variants) Always mid.level mid.glyphs }
    → IsNormalized shaper font variants word new
by-steps shaper plan font variants room word old mid new low begun set done =
    let normal = normalized (context_by shaper plan font variants) Always in
    let level : mid.level ≡ new.level = sym (ap (λ (b : Buffer). b.level) done) in
    let glyphs : mid.glyphs ≡ properties_set unicode_properties (letters_from 0 word) =
    ap (λ (b : Buffer). b.glyphs) set ∙ ap (λ (b : Buffer). properties_set unicode_properties b.glyphs) begun in
    record {
      plan = plan;
      low = low;
      glyphs = ap (λ (b : Buffer). b.glyphs) done
          ∙ (ap (λ l. normal l mid.glyphs) level ∙ ap (normal new.level) glyphs);
    }
