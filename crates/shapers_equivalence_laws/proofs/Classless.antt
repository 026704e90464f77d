-- Characters without a class of marks, by Unicode's tables: jamo and syllables of Hangul, the dotted circle, what is
-- mirrored, and what has a form for vertical text.
use Rattle.std.proofs.Common.{◌≡◌, ℕ, ◌≤◌, ◌==◌, ◌||◌, ◌&&◌, not, Bool, true, false, cond, eqb, nat_le, List, [], ◌∷◌, find, Some, option_map, refl, sym, ap, ◌∙◌, arith, eqb-true}
use Rattle.std.specs.List.{list_all}
use Rattle.std.proofs.lemmas.Bool.{and_parts, cond_both, false≢true}
use Rattle.std.proofs.lemmas.Bool.Decides.{nat_tests}
use Rattle.std.proofs.lemmas.Option.{none-some}
use Rattle.ucd_table.proofs.Computing.{tables}
use Rattle.ucd_table.proofs.Facts.{tree_of, tree_value, tree_value-tree_of}
use Rattle.ucd_table.proofs.RangedFacts.{Stepped-at_points, points_ok}
use Rattle.shapers_buffer.specs.Category.{is_mark}
use Rattle.shapers_buffer.specs.Settings.{character_of}
use Rattle.shapers_buffer.specs.declared.buffer.category.hb_unicode_general_category_t.TheVariants.{Cn}
use Rattle.shapers_hangul.specs.Hangul.{is_between}
use Rattle.shapers_normal.specs.Variants.{selects_form}
use Rattle.shapers_pipeline.specs.ByShaper.{is_character}
use Rattle.shapers_unicode.specs.ClassRows.{class_rows}
use Rattle.shapers_unicode.specs.Classes.{changed_classes, class_exceptions, modified_class}
use Rattle.shapers_unicode.specs.General.{category_of_character}
use Rattle.shapers_unicode.specs.Pairs.{first_or_none, mirrored, mirrored_string}
use Rattle.shapers_unicode.specs.Vertical.{vertical_form, vertical_forms}
use Rattle.shapers_unicode.proofs.ClassSteps.{class_stepped}
use Rattle.shapers_unicode.proofs.CompositionLemmas.{is_empty}
use Rattle.shapers_unicode.proofs.PairSteps.{mirrored_stepped}
use Rattle.shapers_equivalence_laws.proofs.UnicodePairs.{not_of, own_class}

-- a character that has no class, and selects no form
pub record IsClassless (c : ℕ) : Type 0 where
  pub class : own_class c ≡ 0
  pub selects : selects_form c ≡ false

unset : (mark character : Bool) (k : ℕ) → k ≡ 0 → cond mark (cond character k 0) 0 ≡ 0
unset true true k e = e
unset true false k e = refl
unset false character k e = refl

pub no_class : (c : ℕ) → modified_class c ≡ 0 → own_class c ≡ 0
no_class c e = unset (nat_le 0x80 c && is_mark (cond (is_character c) (category_of_character c) Cn)) (is_character c)
    (modified_class c) e

-- a number has no class if the character that it reads as has none
pub no_class_read : (c : ℕ) → modified_class (character_of c) ≡ 0 → own_class c ≡ 0
no_class_read c e = by (is_character c) e
  where
    by : (b : Bool) → modified_class (cond b c 0xFFFD) ≡ 0
        → cond (nat_le 0x80 c && is_mark (cond b (category_of_character c) Cn)) (cond b (modified_class c) 0) 0 ≡ 0
    by true e = unset (nat_le 0x80 c && is_mark (category_of_character c)) true (modified_class c) e
    by false e = unset (nat_le 0x80 c && is_mark Cn) false 0 refl

-- ---- blocks

abbrev is_blank : ℕ → Bool
is_blank c = is_between 0x1100 0x11FF c || is_between 0xAC00 0xD7FB c

classed_elsewhere : (c : ℕ) → eqb (modified_class c) 0 ≡ false → not (is_blank c) ≡ true
unfolding tables points_ok class_stepped
classed_elsewhere c some = Stepped-at_points modified_class class_stepped (λ k. eqb k 0)
    (λ p k. not (is_blank p)) refl c some

blank_class : (c : ℕ) (b : Bool) → eqb (modified_class c) 0 ≡ b → is_blank c ≡ true → modified_class c ≡ 0
blank_class c true e blank = eqb-true (modified_class c) 0 e
blank_class c false e blank = absurd (false≢true (sym (not_of (is_blank c) (classed_elsewhere c e)) ∙ blank))

classless_blank : (c : ℕ) → is_blank c ≡ true → selects_form c ≡ false → IsClassless c
classless_blank c blank selects = record {
  class = no_class c (blank_class c (eqb (modified_class c) 0) refl blank);
  selects = selects;
}

-- jamo, and syllables with the old jamo behind them
pub classless_jamo : (c : ℕ) → 0x1100 ≤ c → c ≤ 0x11FF → IsClassless c
classless_jamo c low high =
    let blank : is_blank c ≡ true = grind (arith, nat_tests) in
    let selects : selects_form c ≡ false = grind (arith, nat_tests) in
    classless_blank c blank selects

pub classless_syllable : (c : ℕ) → 0xAC00 ≤ c → c ≤ 0xD7FB → IsClassless c
classless_syllable c low high =
    let blank : is_blank c ≡ true = grind (arith, nat_tests) in
    let selects : selects_form c ≡ false = grind (arith, nat_tests) in
    classless_blank c blank selects

-- ---- single characters

pub circle_class : modified_class 0x25CC ≡ 0
unfolding tables modified_class class_rows changed_classes class_exceptions
circle_class = refl

pub replacement_class : modified_class 0xFFFD ≡ 0
unfolding tables modified_class class_rows changed_classes class_exceptions
replacement_class = refl

-- SARA AM, NIKHAHIT and SARA AA, of Thai and of Lao
pub sara_am_class : modified_class 0x0E33 ≡ 0
unfolding tables modified_class class_rows changed_classes class_exceptions
sara_am_class = refl

pub nikhahit_class : modified_class 0x0E4D ≡ 0
unfolding tables modified_class class_rows changed_classes class_exceptions
nikhahit_class = refl

pub sara_aa_class : modified_class 0x0E32 ≡ 0
unfolding tables modified_class class_rows changed_classes class_exceptions
sara_aa_class = refl

pub lao_am_class : modified_class 0x0EB3 ≡ 0
unfolding tables modified_class class_rows changed_classes class_exceptions
lao_am_class = refl

pub lao_nikhahit_class : modified_class 0x0ECD ≡ 0
unfolding tables modified_class class_rows changed_classes class_exceptions
lao_nikhahit_class = refl

pub lao_aa_class : modified_class 0x0EB2 ≡ 0
unfolding tables modified_class class_rows changed_classes class_exceptions
lao_aa_class = refl

pub classless_circle : IsClassless 0x25CC
classless_circle = record { class = no_class 0x25CC circle_class; selects = refl }

-- ---- what is mirrored, and what has a form for vertical text

-- two characters of which one may stand for the other
pub record Exchange (c d : ℕ) : Type 0 where
  pub class : modified_class c ≡ 0
  pub other : IsClassless d

unfoldable bares : (ℕ → ℕ) → ℕ → List ℕ → Bool
bares class c ds = class c == 0 && list_all (λ d. class d == 0 && not (selects_form d)) ds

mirrored_bares : (c : ℕ) → is_empty (mirrored_string c) ≡ false → bares modified_class c (mirrored_string c) ≡ true
unfolding tables points_ok bares mirrored_stepped class_stepped
mirrored_bares c some =
    ap (λ class. bares class c (mirrored_string c)) (tree_value-tree_of modified_class class_stepped)
    ∙ Stepped-at_points mirrored_string mirrored_stepped is_empty
    (bares (tree_value 0 (tree_of modified_class class_stepped))) refl c some

exchanged : (c d : ℕ) → (modified_class c == 0) ≡ true → (modified_class d == 0 && not (selects_form d)) ≡ true
    → Exchange c d
exchanged c d first second =
    let parts = and_parts (modified_class d == 0) (not (selects_form d)) second in
    record {
      class = eqb-true (modified_class c) 0 first;
      other = record {
        class = no_class d (eqb-true (modified_class d) 0 parts.0);
        selects = not_of (selects_form d) parts.1;
      };
    }

first_exchanged : (c d : ℕ) (ds : List ℕ) → (is_empty ds ≡ false → bares modified_class c ds ≡ true)
    → first_or_none ds ≡ Some d → Exchange c d
unfolding bares
first_exchanged c d [] ok h = absurd (none-some d h)
first_exchanged c d (x ∷ xs) ok h =
    let test : ℕ → Bool = λ d. modified_class d == 0 && not (selects_form d) in
    let parts = and_parts (modified_class c == 0) (list_all test (x ∷ xs)) (ok refl) in
    let is : x ≡ d = cc in
    let first = and_parts (test x) (list_all test xs) parts.1 in
    exchanged c d parts.0 (ap test (sym is) ∙ first.0)

pub mirrored_exchanged : (c d : ℕ) → mirrored c ≡ Some d → Exchange c d
unfolding mirrored
mirrored_exchanged c d h = first_exchanged c d (mirrored_string c) (mirrored_bares c) h

abbrev is_exchanged : ℕ × ℕ → Bool
is_exchanged p = modified_class p.0 == 0 && (modified_class p.1 == 0 && not (selects_form p.1))

vertical_bares : list_all is_exchanged vertical_forms ≡ true
unfolding tables modified_class class_rows changed_classes class_exceptions vertical_forms
vertical_bares = refl

found_exchanged : (c d : ℕ) (pairs : List (ℕ × ℕ)) → list_all is_exchanged pairs ≡ true
    → option_map (λ p. p.1) (find (λ p. p.0 == c) pairs) ≡ Some d → Exchange c d
found_exchanged c d [] ok h = absurd (none-some d h)
found_exchanged c d (p ∷ ps) ok h =
    let parts = and_parts (is_exchanged p) (list_all is_exchanged ps) ok in
    cond_both (p.0 == c) (Some p) (find (λ p. p.0 == c) ps) (λ o. option_map (λ p. p.1) o ≡ Some d → Exchange c d)
    (λ here e.
    let both = and_parts (modified_class p.0 == 0) (modified_class p.1 == 0 && not (selects_form p.1)) parts.0 in
    let from = eqb-true p.0 c here in
    let to : p.1 ≡ d = cc in
    exchanged c d (ap (λ x. modified_class x == 0) (sym from) ∙ both.0)
    (ap (λ x. modified_class x == 0 && not (selects_form x)) (sym to) ∙ both.1))
    (λ _ e. found_exchanged c d ps parts.1 e)
    h

pub vertical_exchanged : (c d : ℕ) → vertical_form c ≡ Some d → Exchange c d
unfolding vertical_form
vertical_exchanged c d h = found_exchanged c d vertical_forms vertical_bares h
