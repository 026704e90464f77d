-- Glyphs in the class of their character, from the properties of a text to its own direction.
use Rattle.std.proofs.Common.{◌≡◌, ℕ, zero, suc, ◌-◌, ◌==◌, ◌||◌, ◌&&◌, not, nat_lt, Bool, true, false, cond, nat_le, List, [], ◌∷◌, ◌++◌, flat_map, map, take, drop, reverse, refl, sym, ap, ◌∙◌, subst, eqb-true, ⊎_elim}
use Rattle.std.specs.Prelude.{bit_or, if◌then◌else◌}
use Rattle.std.specs.List.{AllByRecursion, list_any}
use Rattle.std.proofs.lemmas.Bool.{or_cases, or_from, or_parts}
use Rattle.shapers_base.specs.Font.{Font, dotted_circle, has_nominal}
use Rattle.shapers_buffer.specs.Buffer.{Buffer}
use Rattle.shapers_buffer.specs.Category.{is_mark}
use Rattle.shapers_buffer.specs.Clusters.{high, in_cluster, least, low, merge, merge_all, merges, stretch_of, with_stretch}
use Rattle.shapers_buffer.specs.Glyph.{clusters, default_glyph, without_flags}
use Rattle.shapers_buffer.specs.GlyphFlags.{flagged, unsafe_all, unsafe_inside, with_bits, with_bits_off}
use Rattle.shapers_buffer.specs.Glyphs.{Glyph, Glyphs}
use Rattle.shapers_buffer.specs.Lists.{each_after}
use Rattle.shapers_buffer.specs.Properties.{CONTINUATION, IGNORABLE, general_category, high_byte, properties, set_property}
use Rattle.shapers_buffer.specs.Settings.{character_of}
use Rattle.shapers_buffer.specs.declared.buffer.category.hb_unicode_general_category_t.TheVariants.{Cn}
use Rattle.shapers_buffer.specs.declared.buffer.level.BufferClusterLevel.{BufferClusterLevel}
use Rattle.shapers_buffer.specs.declared.buffer.level.BufferClusterLevel.TheVariants.{Characters, MonotoneCharacters, MonotoneGraphemes}
use Rattle.shapers_buffer.proofs.MappedLists.{all-append, all-mapped}
use Rattle.shapers_buffer.proofs.PropertyLemmas.{continuation_keeps, hidden_keeps, ignorable_keeps, set_is_read}
use Rattle.shapers_normal.specs.Properties.{is_seen_by_lookups, joiner_class}
use Rattle.shapers_normal.specs.Sorting.{class_of, class_of_mark}
use Rattle.shapers_normal.specs.Variants.{is_selector_glyph}
use Rattle.shapers_pipeline.specs.ByShaper.{is_character}
use Rattle.shapers_pipeline.specs.Masks.{with_mask_alone}
use Rattle.shapers_prepare.specs.CharacterProperties.{CharacterProperties}
use Rattle.shapers_prepare.specs.FirstCircle.{behind_circle, first_circle, wants_first_circle, with_first_circle}
use Rattle.shapers_prepare.specs.GlyphProperties.{is_mark_character, need_not_be_drawn, properties_set, stored_class, stored_properties, with_properties_behind}
use Rattle.shapers_prepare.specs.Graphemes.{clusters_formed, graphemes}
use Rattle.shapers_prepare.specs.NativeDirection.{graphemes_reversed, graphemes_whole, in_native_direction, is_reversed, native_direction, opposite_direction, text_direction}
use Rattle.shapers_prepare.specs.UnicodeValues.{unicode_properties}
use Rattle.shapers_text.specs.Thai.{is_sara_am}
use Rattle.shapers_unicode.specs.Classes.{modified_class}
use Rattle.shapers_unicode.specs.General.{category_of_character}
use Rattle.shapers_equivalence_laws.proofs.Classless.{lao_am_class, replacement_class, sara_am_class}
use Rattle.shapers_equivalence_laws.proofs.UnicodePairs.{own_class}

-- a glyph in the class of its character, which selects no form
abbrev pub IsPlainGlyph : Glyph → Type 0
IsPlainGlyph g = (class_of g ≡ own_class g.glyph_id) × (is_selector_glyph g ≡ false)

-- the same before a shaper rewrites the text: of the properties of a SARA AM those of a mark are made
abbrev pub IsBegunGlyph : Glyph → Type 0
IsBegunGlyph g = IsPlainGlyph g × (is_sara_am g.glyph_id ≡ true → high_byte g.unicode_props ≡ 0)

-- ---- lists of which each element has a property

pub all-take : {X : Type 0} (P : X → Type 0) (n : ℕ) (xs : List X) → AllByRecursion P xs → AllByRecursion P (take n xs)
all-take P zero xs own = tt
all-take P (suc n) [] own = tt
all-take P (suc n) (x ∷ xs) own = (own.0, all-take P n xs own.1)

pub all-drop : {X : Type 0} (P : X → Type 0) (n : ℕ) (xs : List X) → AllByRecursion P xs → AllByRecursion P (drop n xs)
all-drop P zero xs own = own
all-drop P (suc n) [] own = tt
all-drop P (suc n) (x ∷ xs) own = all-drop P n xs own.1

all-with_stretch : {X : Type 0} (P : X → Type 0) (s e : ℕ) (f : List X → List X) (xs : List X)
    → ((ys : List X) → AllByRecursion P ys → AllByRecursion P (f ys)) → AllByRecursion P xs
    → AllByRecursion P (with_stretch s e f xs)
all-with_stretch P s e f xs keeps own =
    all-append P (take s xs) (f (stretch_of s e xs) ++ drop e xs) (all-take P s xs own)
    (all-append P (f (stretch_of s e xs)) (drop e xs)
    (keeps (stretch_of s e xs) (all-take P (e - s) (drop s xs) (all-drop P s xs own))) (all-drop P e xs own))

all-stretches : {X : Type 0} (P : X → Type 0) (xs : List X) → AllByRecursion P xs → (sts : List (ℕ × ℕ))
    → AllByRecursion P (flat_map (λ st. stretch_of st.0 st.1 xs) sts)
all-stretches P xs own [] = tt
all-stretches P xs own (st ∷ sts) =
    all-append P (stretch_of st.0 st.1 xs) (flat_map (λ st. stretch_of st.0 st.1 xs) sts)
    (all-take P (st.1 - st.0) (drop st.0 xs) (all-drop P st.0 xs own)) (all-stretches P xs own sts)

-- ---- merges and flags, which change clusters and masks alone

module _ (P : Glyph → Type 0) (moved : (m k : ℕ) (g : Glyph) → P g → P (record g { cluster = m; mask = k }))
    (masked : (k : ℕ) (g : Glyph) → P g → P (record g { mask = k })) where
  put : (m : ℕ) (g : Glyph) → P g → P (in_cluster m g)
  put m g own = elim (g.cluster == m) as (λ b. P (cond b g
      (let r : Glyph = record g { cluster = m; mask = without_flags g.mask } in r))) [
        | true ↦ own
        | false ↦ moved m (without_flags g.mask) g own
      ]

  all-merge : (level : BufferClusterLevel) (s e : ℕ) (gs : Glyphs) → AllByRecursion P gs
      → AllByRecursion P (merge level s e gs)
  all-merge level s e gs own =
      let c = least (clusters (stretch_of s e gs)) in
      elim (merges level && not (nat_lt (e - s) 2)) as (λ b. AllByRecursion P (cond b
      (with_stretch (low s e gs) (high s e gs) (map (in_cluster c)) gs) gs)) [
        | true ↦ all-with_stretch P (low s e gs) (high s e gs) (map (in_cluster c)) gs
            (λ ys. all-mapped P P (in_cluster c) ys (put c)) own
        | false ↦ own
      ]

  pub all-merge_all : (level : BufferClusterLevel) (sts : List (ℕ × ℕ)) (gs : Glyphs) → AllByRecursion P gs
      → AllByRecursion P (merge_all level sts gs)
  all-merge_all level [] gs own = own
  all-merge_all level (st ∷ sts) gs own =
      all-merge_all level sts (merge level st.0 st.1 gs) (all-merge level st.0 st.1 gs own)

  flag : (bits m : ℕ) (g : Glyph) → P g → P (with_bits_off bits m g)
  flag bits m g own = elim (g.cluster == m) as (λ b. P (cond b g (with_bits bits g))) [
    | true ↦ own
    | false ↦ masked (bit_or g.mask bits) g own
  ]

  pub all-unsafe_all : (sts : List (ℕ × ℕ)) (gs : Glyphs) → AllByRecursion P gs → AllByRecursion P (unsafe_all sts gs)
  all-unsafe_all [] gs own = own
  all-unsafe_all (st ∷ sts) gs own =
      all-unsafe_all sts (unsafe_inside st.0 st.1 gs)
      (all-with_stretch P st.0 st.1 (flagged 3) gs
      (λ ys. all-mapped P P (with_bits_off 3 (least (clusters ys))) ys (flag 3 (least (clusters ys)))) own)

  -- clusters of graphemes, and the text's own direction
  all-formed : (level : BufferClusterLevel) (gs : Glyphs) → AllByRecursion P gs
      → AllByRecursion P (clusters_formed level gs)
  all-formed MonotoneGraphemes gs own = all-merge_all MonotoneGraphemes (graphemes gs) gs own
  all-formed MonotoneCharacters gs own = all-unsafe_all (graphemes gs) gs own
  all-formed Characters gs own = all-unsafe_all (graphemes gs) gs own

  all-whole : (level : BufferClusterLevel) (gs : Glyphs) → AllByRecursion P gs
      → AllByRecursion P (graphemes_whole level gs)
  all-whole MonotoneGraphemes gs own = own
  all-whole MonotoneCharacters gs own = all-merge_all MonotoneCharacters (graphemes gs) gs own
  all-whole Characters gs own = own

  all-native : (b : Buffer) → AllByRecursion P b.glyphs → AllByRecursion P (in_native_direction b).glyphs
  all-native b own =
      let whole = graphemes_whole b.level b.glyphs in
      let turned : Buffer = record b {
        direction = opposite_direction b.direction;
        glyphs = graphemes_reversed whole;
      } in
      elim (is_reversed b.direction (text_direction b.direction (native_direction b.script) b.glyphs)) as
      (λ test. AllByRecursion P (if test then turned else b).glyphs) [
        | true ↦ all-stretches P whole (all-whole b.level b.glyphs own) (reverse (graphemes whole))
        | false ↦ own
      ]

  pub all-directed : (b : Buffer) → AllByRecursion P b.glyphs
      → AllByRecursion P (in_native_direction (record b { glyphs = clusters_formed b.level b.glyphs })).glyphs
  all-directed b own = all-native (record b { glyphs = clusters_formed b.level b.glyphs })
      (all-formed b.level b.glyphs own)

-- ---- what a glyph keeps of its character

pub kept-category : (p : CharacterProperties) (continues : Bool) (c : ℕ)
    → general_category (stored_properties p continues c) ≡ p.general c
kept-category p continues c =
    let plain = properties (p.general c) (stored_class p c) in
    let ignorable = set_property IGNORABLE (need_not_be_drawn p c) plain in
    let continued = set_property CONTINUATION continues ignorable in
    (hidden_keeps continued).category (need_not_be_drawn p c && is_seen_by_lookups c)
    ∙ ((continuation_keeps ignorable).category continues
    ∙ ((ignorable_keeps plain).category (need_not_be_drawn p c)
    ∙ (set_is_read plain).made (p.general c) (stored_class p c)))

pub kept-byte : (p : CharacterProperties) (continues : Bool) (c : ℕ)
    → high_byte (stored_properties p continues c) ≡ stored_class p c
kept-byte p continues c =
    let plain = properties (p.general c) (stored_class p c) in
    let ignorable = set_property IGNORABLE (need_not_be_drawn p c) plain in
    let continued = set_property CONTINUATION continues ignorable in
    (hidden_keeps continued).byte (need_not_be_drawn p c && is_seen_by_lookups c)
    ∙ ((continuation_keeps ignorable).byte continues
    ∙ ((ignorable_keeps plain).byte (need_not_be_drawn p c)
    ∙ (set_is_read plain).made_byte (p.general c) (stored_class p c)))

-- a mark beyond ASCII has its class
pub kept-class : (p : CharacterProperties) (continues : Bool) (c : ℕ)
    → class_of_mark (stored_properties p continues c) ≡ cond (is_mark_character p c) (p.class c) 0
unfolding class_of_mark
kept-class p continues c =
    ap (λ g. cond (is_mark g) (high_byte (stored_properties p continues c)) 0) (kept-category p continues c)
    ∙ (ap (λ b. cond (is_mark (p.general c)) b 0) (kept-byte p continues c)
    ∙ by (nat_le 0x80 c) (is_mark (p.general c)))
  where
    by : (beyond mark : Bool) → cond mark
        (cond (beyond && mark) (p.class c) (cond (beyond && p.ignorable c) (joiner_class c) 0)) 0
        ≡ cond (beyond && mark) (p.class c) 0
    by true true = refl
    by true false = refl
    by false true = refl
    by false false = refl

none_either_way : (b : Bool) (k : ℕ) → k ≡ 0 → cond b k 0 ≡ 0
none_either_way true k e = e
none_either_way false k e = refl

-- that is the class by which normalization orders it, also where a number is no character's
same-class : (c : ℕ) → cond (is_mark_character unicode_properties c) (unicode_properties.class c) 0 ≡ own_class c
same-class c = by (is_character c)
  where
    by : (b : Bool)
        → cond (nat_le 0x80 c && is_mark (category_of_character (cond b c 0xFFFD))) (modified_class (cond b c 0xFFFD)) 0
        ≡ cond (nat_le 0x80 c && is_mark (cond b (category_of_character c) Cn)) (cond b (modified_class c) 0) 0
    by true = refl
    by false =
        none_either_way (nat_le 0x80 c && is_mark (category_of_character 0xFFFD)) (modified_class 0xFFFD) replacement_class
        ∙ sym (none_either_way (nat_le 0x80 c && is_mark Cn) 0 refl)

pub own-class : (continues : Bool) (c : ℕ) → class_of_mark (stored_properties unicode_properties continues c)
    ≡ own_class c
own-class continues c = kept-class unicode_properties continues c ∙ same-class c

-- SARA AM has no class, and its high byte is 0
no_byte : (c : ℕ) → modified_class (character_of c) ≡ 0 → joiner_class c ≡ 0 → stored_class unicode_properties c ≡ 0
no_byte c class joiner = by (is_mark_character unicode_properties c) (need_not_be_drawn unicode_properties c)
  where
    by : (mark ignorable : Bool)
        → cond mark (modified_class (character_of c)) (cond ignorable (joiner_class c) 0) ≡ 0
    by true ignorable = class
    by false ignorable = none_either_way ignorable (joiner_class c) joiner

sara_am_byte : (c : ℕ) → is_sara_am c ≡ true → stored_class unicode_properties c ≡ 0
sara_am_byte c is =
    ⊎_elim (λ thai. subst (λ d. stored_class unicode_properties d ≡ 0) (sym (eqb-true c 0x0E33 thai))
    (no_byte 0x0E33 sara_am_class refl))
    (λ lao. subst (λ d. stored_class unicode_properties d ≡ 0) (sym (eqb-true c 0x0EB3 lao))
    (no_byte 0x0EB3 lao_am_class refl))
    (or_cases (c == 0x0E33) (c == 0x0EB3) is)

-- ---- the properties of a text, and a circle in front

pub begun : (continues : Bool) (g : Glyph) → is_selector_glyph g ≡ false
    → IsBegunGlyph (record g { unicode_props = stored_properties unicode_properties continues g.glyph_id })
begun continues g selects = (
  (own-class continues g.glyph_id, selects),
  λ is. kept-byte unicode_properties continues g.glyph_id ∙ sara_am_byte g.glyph_id is,
)

abbrev set_behind : Glyphs → Glyphs → Glyphs
set_behind before gs = map (λ x. with_properties_behind unicode_properties x.0 x.1) (each_after before gs)

pub all-set : (before gs : Glyphs) → list_any is_selector_glyph gs ≡ false
    → AllByRecursion IsBegunGlyph (set_behind before gs)
all-set before [] none = tt
all-set before (g ∷ gs) none =
    let parts = or_parts (is_selector_glyph g) (list_any is_selector_glyph gs) none in
    (begun _ g parts.0, all-set (before ++ g ∷ []) gs parts.1)

masked_selectors : (mask : ℕ) (gs : Glyphs)
    → list_any is_selector_glyph (map (with_mask_alone mask) gs) ≡ list_any is_selector_glyph gs
masked_selectors mask [] = refl
masked_selectors mask (g ∷ gs) = ap (λ b. is_selector_glyph g || b) (masked_selectors mask gs)

pub all-begun : (mask : ℕ) (gs : Glyphs) → list_any is_selector_glyph gs ≡ false
    → AllByRecursion IsBegunGlyph (properties_set unicode_properties (map (with_mask_alone mask) gs))
all-begun mask gs none = all-set [] (map (with_mask_alone mask) gs) (masked_selectors mask gs ∙ none)

circle_begun : (g : Glyph) → IsBegunGlyph (first_circle unicode_properties g)
circle_begun g = begun _ (record default_glyph { glyph_id = dotted_circle; cluster = g.cluster; mask = g.mask }) refl

behind_first : (gs : Glyphs) → AllByRecursion IsBegunGlyph gs
    → AllByRecursion IsBegunGlyph (behind_circle unicode_properties gs)
behind_first [] own = tt
behind_first (g ∷ gs) own = (circle_begun g, own)

pub all-circled : (font : Font) (b : Buffer) → AllByRecursion IsBegunGlyph b.glyphs
    → AllByRecursion IsBegunGlyph (with_first_circle unicode_properties font b)
all-circled font b own =
    elim (wants_first_circle b && has_nominal font dotted_circle) as
    (λ test. AllByRecursion IsBegunGlyph (if test then behind_circle unicode_properties b.glyphs else b.glyphs)) [
      | true ↦ behind_first b.glyphs own
      | false ↦ own
    ]

-- ---- plain glyphs, and plain texts

pub all-plain : (gs : Glyphs) → AllByRecursion IsBegunGlyph gs → AllByRecursion IsPlainGlyph gs
all-plain [] own = tt
all-plain (g ∷ gs) own = (own.0.0, all-plain gs own.1)

pub plain_classes : (gs : Glyphs) → AllByRecursion IsPlainGlyph gs
    → AllByRecursion (λ g. class_of g ≡ own_class g.glyph_id) gs
plain_classes [] own = tt
plain_classes (g ∷ gs) own = (own.0.0, plain_classes gs own.1)

pub plain_selectors : (gs : Glyphs) → AllByRecursion IsPlainGlyph gs → list_any is_selector_glyph gs ≡ false
plain_selectors [] own = refl
plain_selectors (g ∷ gs) own =
    or_from (is_selector_glyph g) (list_any is_selector_glyph gs) own.0.1 (plain_selectors gs own.1)
