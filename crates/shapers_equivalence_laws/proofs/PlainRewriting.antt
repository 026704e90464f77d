-- Glyphs stay in the class of their character where circles part vowels, where SARA AM comes in two, and where
-- characters are mirrored or stand upright.
use Rattle.std.proofs.Common.{◌≡◌, ℕ, ◌-◌, ◌+◌, ◌==◌, ◌&&◌, not, Bool, true, false, cond, List, [], ◌∷◌, ◌++◌, flat_map, length, reverse, Option, None, Some, refl, sym, ap, ◌∙◌, subst, arith, eqb-true, ⊎_elim, inl, inr}
use Rattle.std.specs.Prelude.{◌⊎◌, if◌then◌else◌}
use Rattle.std.specs.List.{AllByRecursion, list_any, onto_first, suffix_len}
use Rattle.std.specs.Option.{option_map_or}
use Rattle.std.proofs.lemmas.Bool.{cond_both, false≢true, or_cases, or_parts}
use Rattle.std.proofs.lemmas.List.{reverse-append}
use Rattle.shapers_base.specs.Font.{Font, dotted_circle, has_nominal}
use Rattle.shapers_base.specs.declared.plan.breaks.BreakFlags.{BreakFlags}
use Rattle.shapers_base.specs.declared.plan.breaks.BreakFlags.TheVariants.{AsCode, Sound}
use Rattle.shapers_base.specs.declared.plan.hb_ot_shape_plan_t.{hb_ot_shape_plan_t}
use Rattle.shapers_buffer.specs.Buffer.{Buffer}
use Rattle.shapers_buffer.specs.Category.{has_class, is_mark}
use Rattle.shapers_buffer.specs.Clusters.{merge_all}
use Rattle.shapers_buffer.specs.Glyph.{characters}
use Rattle.shapers_buffer.specs.GlyphFlags.{with_bits}
use Rattle.shapers_buffer.specs.Glyphs.{Glyph, Glyphs}
use Rattle.shapers_buffer.specs.Lists.{before_last_stretch, changed_back, cut_after, last_stretch}
use Rattle.shapers_buffer.specs.Properties.{CONTINUATION, general_category, high_byte, modified_combining_class, with_general_category, with_property}
use Rattle.shapers_buffer.specs.Settings.{character_of}
use Rattle.shapers_buffer.specs.declared.buffer.category.hb_unicode_general_category_t.{hb_unicode_general_category_t}
use Rattle.shapers_buffer.specs.declared.buffer.category.hb_unicode_general_category_t.TheVariants.{Mn}
use Rattle.shapers_buffer.specs.declared.buffer.unicode_props.UnicodeProps.{UnicodeProps}
use Rattle.shapers_buffer.proofs.MappedLists.{all-append}
use Rattle.shapers_buffer.proofs.PropertyLemmas.{continuation_keeps}
use Rattle.shapers_normal.specs.Sorting.{class_of, class_of_mark}
use Rattle.shapers_normal.specs.Variants.{selects_form}
use Rattle.shapers_prepare.specs.JoinerFlags.{begins_with_zwnj, flagged_if_zwnj, zwnj_flagged, zwnj_flagged_behind}
use Rattle.shapers_prepare.specs.Rotation.{as_other_character, goes_backward, goes_vertically, mirrored_glyph, rotated_glyph, upright_glyph, which_font_has}
use Rattle.shapers_prepare.specs.UnicodeValues.{unicode_properties}
use Rattle.shapers_prepare.specs.Vowels.{left_behind, vowel_circle, vowel_script_of, vowels_circled, vowels_circled_from, vowels_circled_in}
use Rattle.shapers_prepare.specs.declared.ot_shape_prepare.rotation.CharRotation.{CharRotation}
use Rattle.shapers_text.specs.Thai.{glyph_rule, glyphs_in_two, is_above, is_am, is_sara_am, nikhahit, piece_in_two, sara_aa, sara_am_stretches}
use Rattle.shapers_text.specs.ThaiForms.{asks_for_forms, marks_flagged, preprocessed_in_thai, pua_shaped}
use Rattle.shapers_equivalence_laws.specs.PreparedTexts.{is_classed_circle}
use Rattle.shapers_equivalence_laws.proofs.Classless.{Exchange, IsClassless, classless_circle, lao_aa_class, lao_am_class, lao_nikhahit_class, mirrored_exchanged, nikhahit_class, no_class, no_class_read, sara_aa_class, sara_am_class, vertical_exchanged}
use Rattle.shapers_equivalence_laws.proofs.PlainGlyphs.{IsBegunGlyph, IsPlainGlyph, all-drop, all-merge_all, all-plain, all-take}
use Rattle.shapers_equivalence_laws.proofs.UnicodePairs.{own_class}

-- a copy as a character without a class of a glyph without one
pub copy_plain : (g : Glyph) (c : ℕ) → own_class g.glyph_id ≡ 0 → IsClassless c → IsPlainGlyph g
    → IsPlainGlyph (record g { glyph_id = c })
copy_plain g c none bare own = (own.0 ∙ none ∙ sym bare.class, bare.selects)

-- ---- circles: they may have the class of the mark that they are a copy of

abbrev pub IsPlainOrCircle : Glyph → Type 0
IsPlainOrCircle g = IsPlainGlyph g ⊎ (g.glyph_id ≡ dotted_circle)

pub all-either : (gs : Glyphs) → AllByRecursion IsPlainGlyph gs → AllByRecursion IsPlainOrCircle gs
all-either [] own = tt
all-either (g ∷ gs) own = (inl own.0, all-either gs own.1)

true_of : (b : Bool) → not b ≡ false → b ≡ true
true_of true e = refl
true_of false e = absurd (false≢true (sym e))

unclassed_circle : (g : Glyph) → g.glyph_id ≡ dotted_circle → is_classed_circle g ≡ false → IsPlainGlyph g
unclassed_circle g circle unclassed =
    let here : (g.glyph_id == dotted_circle) ≡ true = ap (λ c. c == dotted_circle) circle in
    let none : not (class_of g == 0) ≡ false = sym (ap (λ b. b && not (class_of g == 0)) here) ∙ unclassed in (
      eqb-true (class_of g) 0 (true_of (class_of g == 0) none) ∙ sym classless_circle.class ∙ ap own_class (sym circle),
      ap selects_form circle,
    )

pub all-unclassed : (gs : Glyphs) → AllByRecursion IsPlainOrCircle gs → list_any is_classed_circle gs ≡ false
    → AllByRecursion IsPlainGlyph gs
all-unclassed [] own none = tt
all-unclassed (g ∷ gs) own none =
    let parts = or_parts (is_classed_circle g) (list_any is_classed_circle gs) none in (
      ⊎_elim (λ plain. plain) (λ circle. unclassed_circle g circle parts.0) own.0,
      all-unclassed gs own.1 parts.1,
    )

all-circled_from : (s : _) (n : ℕ) (gs : Glyphs) → AllByRecursion IsPlainGlyph gs
    → AllByRecursion IsPlainOrCircle (vowels_circled_from s n gs)
all-circled_from s n [] own = tt
all-circled_from s n (g ∷ gs) own =
    let behind = vowels_circled_from s (left_behind s n g gs) gs in
    let rest : AllByRecursion IsPlainOrCircle behind = all-circled_from s (left_behind s n g gs) gs own.1 in
    elim (n == 1) as (λ b. AllByRecursion IsPlainOrCircle ((if b then vowel_circle g ∷ [] else []) ++ g ∷ behind)) [
      | true ↦ (inr refl, (inl own.0, rest))
      | false ↦ (inl own.0, rest)
    ]

vowels_either : (o : Option _) (gs : Glyphs) → AllByRecursion IsPlainGlyph gs
    → AllByRecursion IsPlainOrCircle (vowels_circled_in o gs)
vowels_either None gs own = all-either gs own
vowels_either (Some s) gs own = all-circled_from s 0 gs own

pub all-vowels : (b : Buffer) → list_any is_classed_circle (vowels_circled b) ≡ false
    → AllByRecursion IsPlainGlyph b.glyphs → AllByRecursion IsPlainGlyph (vowels_circled b)
all-vowels b none own = all-unclassed (vowels_circled b) (vowels_either (vowel_script_of b) b.glyphs own) none

-- ---- flags of graphemes that begin with ZWNJ

plain_flagged : (begins : Bool) (g : Glyph) → IsPlainGlyph g → IsPlainGlyph (flagged_if_zwnj begins g)
plain_flagged true g own = own
plain_flagged false g own = own

all-flagged : (before : Bool) (gs : Glyphs) → AllByRecursion IsPlainGlyph gs
    → AllByRecursion IsPlainGlyph (zwnj_flagged_behind before gs)
all-flagged before [] own = tt
all-flagged before (g ∷ gs) own =
    let begins = begins_with_zwnj before g in
    (plain_flagged begins g own.0, all-flagged begins gs own.1)

pub all-zwnj_flagged : (breaks : BreakFlags) (gs : Glyphs) → AllByRecursion IsPlainGlyph gs
    → AllByRecursion IsPlainGlyph (zwnj_flagged breaks gs)
all-zwnj_flagged AsCode gs own = own
all-zwnj_flagged Sound gs own = all-flagged false gs own

-- ---- SARA AM in two

no_mark_class : (category : hb_unicode_general_category_t) (p : UnicodeProps) → high_byte p ≡ 0
    → modified_combining_class p ≡ 0
unfolding modified_combining_class
no_mark_class category p e = elim (has_class (general_category p)) as (λ b. cond b (high_byte p) 0 ≡ 0) [
  | true ↦ e
  | false ↦ refl
]

mark_byte : (p : UnicodeProps) → high_byte p ≡ 0 → high_byte (with_general_category Mn p) ≡ 0
mark_byte p e =
    let none = no_mark_class Mn p e in
    omega (arith, none)

mark_class_none : (p : UnicodeProps) → high_byte p ≡ 0 → class_of_mark p ≡ 0
unfolding class_of_mark
mark_class_none p e = elim (is_mark (general_category p)) as (λ b. cond b (high_byte p) 0 ≡ 0) [
  | true ↦ e
  | false ↦ refl
]

-- what comes of it: neither part has a class
record PartsOf (c : ℕ) : Type 0 where
  pub am : own_class c ≡ 0
  pub nikhahit : IsClassless (c + 0x1A)
  pub sara_aa : IsClassless (c - 1)

thai_parts : PartsOf 0x0E33
thai_parts = record {
  am = no_class 0x0E33 sara_am_class;
  nikhahit = record { class = no_class 0x0E4D nikhahit_class; selects = refl };
  sara_aa = record { class = no_class 0x0E32 sara_aa_class; selects = refl };
}

lao_parts : PartsOf 0x0EB3
lao_parts = record {
  am = no_class 0x0EB3 lao_am_class;
  nikhahit = record { class = no_class 0x0ECD lao_nikhahit_class; selects = refl };
  sara_aa = record { class = no_class 0x0EB2 lao_aa_class; selects = refl };
}

parts_of : (c : ℕ) → is_sara_am c ≡ true → PartsOf c
parts_of c is =
    ⊎_elim (λ thai. subst PartsOf (sym (eqb-true c 0x0E33 thai)) thai_parts)
    (λ lao. subst PartsOf (sym (eqb-true c 0x0EB3 lao)) lao_parts)
    (or_cases (c == 0x0E33) (c == 0x0EB3) is)

nikhahit_plain : (am : Glyph) → is_sara_am am.glyph_id ≡ true → IsBegunGlyph am → IsPlainGlyph (nikhahit am)
nikhahit_plain am is own =
    let parts = parts_of am.glyph_id is in
    let marked = with_general_category Mn am.unicode_props in
    let byte : high_byte (with_property CONTINUATION marked) ≡ 0 =
    (continuation_keeps marked).byte true ∙ mark_byte am.unicode_props (own.1 is) in
    (mark_class_none (with_property CONTINUATION marked) byte ∙ sym parts.nikhahit.class, parts.nikhahit.selects)

sara_aa_plain : (am : Glyph) → is_sara_am am.glyph_id ≡ true → IsBegunGlyph am → IsPlainGlyph (sara_aa am)
sara_aa_plain am is own =
    let parts = parts_of am.glyph_id is in
    copy_plain am (am.glyph_id - 1) parts.am parts.sara_aa own.0

all-reverse : {X : Type 0} (P : X → Type 0) (xs : List X) → AllByRecursion P xs → AllByRecursion P (reverse xs)
all-reverse P [] own = tt
all-reverse P (x ∷ xs) own =
    subst (AllByRecursion P) (sym (reverse-append (x ∷ []) xs))
    (all-append P (reverse xs) (x ∷ []) (all-reverse P xs own.1) (own.0, tt))

all-onto_first : {X : Type 0} (P : X → Type 0) (x : X) (parts : List (List X)) → P x
    → AllByRecursion (AllByRecursion P) parts → AllByRecursion (AllByRecursion P) (onto_first x parts)
all-onto_first P x [] here own = ((here, tt), tt)
all-onto_first P x (part ∷ parts) here own = ((here, own.0), own.1)

all-cut_after : {X : Type 0} (P : X → Type 0) (test : X → Bool) (xs : List X) → AllByRecursion P xs
    → AllByRecursion (AllByRecursion P) (cut_after test xs)
all-cut_after P test [] own = tt
all-cut_after P test (x ∷ xs) own =
    elim (test x) as (λ b. AllByRecursion (AllByRecursion P)
    (cond b ((x ∷ []) ∷ cut_after test xs) (onto_first x (cut_after test xs)))) [
      | true ↦ ((own.0, tt), all-cut_after P test xs own.1)
      | false ↦ all-onto_first P x (cut_after test xs) own.0 (all-cut_after P test xs own.1)
    ]

piece_plain : (text : Glyphs) (am : Glyph) → is_sara_am am.glyph_id ≡ true → AllByRecursion IsPlainGlyph text
    → IsBegunGlyph am → AllByRecursion IsPlainGlyph (piece_in_two glyph_rule text am)
piece_plain text am is own begun =
    let n = length text - suffix_len (is_above glyph_rule) text in
    all-append IsPlainGlyph (before_last_stretch (is_above glyph_rule) text)
    (nikhahit am ∷ (last_stretch (is_above glyph_rule) text ++ sara_aa am ∷ []))
    (all-take IsPlainGlyph n text own) (
      nikhahit_plain am is begun,
      all-append IsPlainGlyph (last_stretch (is_above glyph_rule) text) (sara_aa am ∷ [])
          (all-drop IsPlainGlyph n text own) (sara_aa_plain am is begun, tt),
    )

changed_plain : (back : Glyphs) → AllByRecursion IsBegunGlyph back
    → AllByRecursion IsPlainGlyph (changed_back (is_am glyph_rule) (piece_in_two glyph_rule) back)
changed_plain [] own = tt
changed_plain (am ∷ before) own =
    cond_both (is_am glyph_rule am) (piece_in_two glyph_rule (reverse before) am) (reverse (am ∷ before))
    (AllByRecursion IsPlainGlyph)
    (λ is. piece_plain (reverse before) am is
    (all-reverse IsPlainGlyph before (all-plain before own.1)) own.0)
    (λ _. all-reverse IsPlainGlyph (am ∷ before) (all-plain (am ∷ before) own))

pieces_plain : (pieces : List Glyphs) → AllByRecursion (AllByRecursion IsBegunGlyph) pieces
    → AllByRecursion IsPlainGlyph
    (flat_map (λ piece. changed_back (is_am glyph_rule) (piece_in_two glyph_rule) (reverse piece)) pieces)
pieces_plain [] own = tt
pieces_plain (piece ∷ pieces) own =
    all-append IsPlainGlyph (changed_back (is_am glyph_rule) (piece_in_two glyph_rule) (reverse piece))
    (flat_map (λ piece. changed_back (is_am glyph_rule) (piece_in_two glyph_rule) (reverse piece)) pieces)
    (changed_plain (reverse piece) (all-reverse IsBegunGlyph piece own.0)) (pieces_plain pieces own.1)

in_two_plain : (gs : Glyphs) → AllByRecursion IsBegunGlyph gs → AllByRecursion IsPlainGlyph (glyphs_in_two gs)
in_two_plain gs own = pieces_plain (cut_after (is_am glyph_rule) gs) (all-cut_after IsBegunGlyph (is_am glyph_rule) gs own)

pub all-thai : (plan : hb_ot_shape_plan_t) (font : Font) (b : Buffer) → asks_for_forms plan ≡ false
    → AllByRecursion IsBegunGlyph b.glyphs → AllByRecursion IsPlainGlyph (preprocessed_in_thai plan font b).glyphs
all-thai plan font b none own =
    let merged = merge_all b.level (sara_am_stretches b.level (characters b.glyphs)) b.glyphs in
    let text = glyphs_in_two merged in
    let shaped = pua_shaped (has_nominal font) (marks_flagged plan.break_flags text) in
    subst (λ forms. AllByRecursion IsPlainGlyph (if forms then shaped else text)) (sym none)
    (in_two_plain merged (all-merge_all IsBegunGlyph (λ m k g begun. begun) (λ k g begun. begun) b.level
    (sara_am_stretches b.level (characters b.glyphs)) b.glyphs own))

-- ---- mirrored characters and vertical forms

-- a glyph as another character that stands for its own
other_plain : (g : Glyph) (d : ℕ) → Exchange (character_of g.glyph_id) d → IsPlainGlyph g
    → IsPlainGlyph (as_other_character g d)
other_plain g d is own = copy_plain g d (no_class_read g.glyph_id is.class) is.other own

chosen_plain : (font : Font) (g h : Glyph) (o : Option ℕ) → IsPlainGlyph g → IsPlainGlyph h
    → ((d : ℕ) → o ≡ Some d → Exchange (character_of g.glyph_id) d)
    → IsPlainGlyph (option_map_or (as_other_character g) (which_font_has font o) h)
chosen_plain font g h None own other stands = other
chosen_plain font g h (Some d) own other stands =
    elim (has_nominal font d) as
    (λ b. IsPlainGlyph (option_map_or (as_other_character g) (cond b (Some d) None) h)) [
      | true ↦ other_plain g d (stands d refl) own
      | false ↦ other
    ]

mirrored_plain : (font : Font) (mask : ℕ) (g : Glyph) → IsPlainGlyph g
    → IsPlainGlyph (mirrored_glyph unicode_properties font mask g)
mirrored_plain font mask g own =
    chosen_plain font g (with_bits mask g) (unicode_properties.mirroring g.glyph_id) own own
    (λ d is. mirrored_exchanged (character_of g.glyph_id) d is)

upright_plain : (font : Font) (g : Glyph) → IsPlainGlyph g → IsPlainGlyph (upright_glyph unicode_properties font g)
upright_plain font g own =
    chosen_plain font g g (unicode_properties.vertical g.glyph_id) own own
    (λ d is. vertical_exchanged (character_of g.glyph_id) d is)

pub rotated_plain : (font : Font) (r : CharRotation) (g : Glyph) → IsPlainGlyph g
    → IsPlainGlyph (rotated_glyph unicode_properties font r g)
rotated_plain font r g own =
    let mirrored_one = if goes_backward r.direction then mirrored_glyph unicode_properties font r.rtlm_mask g else g in
    let one : IsPlainGlyph mirrored_one =
    elim (goes_backward r.direction) as
    (λ b. IsPlainGlyph (if b then mirrored_glyph unicode_properties font r.rtlm_mask g else g)) [
      | true ↦ mirrored_plain font r.rtlm_mask g own
      | false ↦ own
    ] in
    elim (goes_vertically r.direction && not r.has_vert) as
    (λ b. IsPlainGlyph (if b then upright_glyph unicode_properties font mirrored_one else mirrored_one)) [
      | true ↦ upright_plain font mirrored_one one
      | false ↦ one
    ]
