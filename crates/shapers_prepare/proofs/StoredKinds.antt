-- What one look-up tells of a character that is always drawn is what its glyph keeps.
use Rattle.std.proofs.Common.{◌≡◌, ℕ, ◌+◌, ◌*◌, ◌/◌, ◌%◌, ◌<◌, Bool, true, false, not, ◌&&◌, ◌||◌, ◌==◌, nat_le, nat_lt, cond, refl, sym, ap, ◌∙◌, arith, inl, inr}
use Rattle.std.proofs.lemmas.Bool.{cases_lt, false≢true, le-leb, lt-ltb}
use Rattle.std.proofs.lemmas.Bool.Decides.{nat_tests}
use Rattle.std.proofs.Math.Bool.{or-false}
use Rattle.std.specs.Int.Bits.{or_add_and}
use Rattle.std.proofs.lemmas.Nat.Bits.{and_pow}
use Rattle.shapers_buffer.specs.declared.buffer.unicode_props.UnicodeProps.{UnicodeProps}
use Rattle.shapers_buffer.specs.Category.{category_number, is_mark}
use Rattle.shapers_buffer.specs.Properties.{IGNORABLE, has_bit, is_ignorable, set_bit}
use Rattle.shapers_buffer.specs.Settings.{character_of}
use Rattle.shapers_buffer.proofs.PropertyLemmas.{number-lt}
use Rattle.shapers_normal.specs.Properties.{is_seen_by_lookups, joiner_class}
use Rattle.shapers_unicode.specs.CharacterBits.{character_bits}
use Rattle.shapers_unicode.specs.Classes.{modified_class}
use Rattle.shapers_unicode.specs.General.{category_of_character}
use Rattle.shapers_unicode.specs.Ignorable.{default_ignorable}
use Rattle.shapers_unicode.proofs.CharacterFacts.{beyond_ascii, classless}
use Rattle.shapers_unicode.proofs.CharacterSteps.{ignorable_bit}
use Rattle.shapers_prepare.specs.GlyphProperties.{is_mark_character, stored_properties}
use Rattle.shapers_prepare.specs.CharacterProperties.{CharacterProperties}
use Rattle.shapers_prepare.specs.PropertyWalk.{of_kind}
use Rattle.shapers_prepare.specs.UnicodeValues.{unicode_properties}

-- the bit of a character that need not be drawn
bit_told : (n : ℕ) → has_bit IGNORABLE n ≡ false → (n / 32 % 2 == 1) ≡ false
bit_told n unset = grind (arith, nat_tests, and_pow n 5)

-- the bits of a category, a mark and a class, one after another
drawn : (n : ℕ) → n / 32 % 2 ≡ 0 → set_bit 0x20 false n ≡ n
drawn n unset = omega (arith, and_pow n 5)

carried : (n : ℕ) → n / 128 % 2 ≡ 0 → set_bit 0x80 true n ≡ n + 128
carried n unset = omega (arith, or_add_and n 0x80, and_pow n 7)

not_carried : (n : ℕ) → n / 128 % 2 ≡ 0 → set_bit 0x80 false n ≡ n
not_carried n unset = omega (arith, and_pow n 7)

unseen : (n : ℕ) → n / 64 % 2 ≡ 0 → set_bit 0x40 false n ≡ n
unseen n unset = omega (arith, and_pow n 6)

bits_of_mark : (category class : ℕ) → category < 30
    → set_bit 0x40 false (set_bit 0x80 true (set_bit 0x20 false (category + 256 * class)))
    ≡ category + 0 + 128 + 256 * class
bits_of_mark category class small =
    ap (λ n. set_bit 0x40 false (set_bit 0x80 true n)) (drawn (category + 256 * class) (omega arith))
    ∙ ap (set_bit 0x40 false) (carried (category + 256 * class) (omega arith))
    ∙ unseen (category + 256 * class + 128) (omega arith)
    ∙ omega arith

bits_of_other : (category : ℕ) → category < 30
    → set_bit 0x40 false (set_bit 0x80 false (set_bit 0x20 false (category + 256 * 0))) ≡ category + 0 + 0 + 256 * 0
bits_of_other category small =
    ap (λ n. set_bit 0x40 false (set_bit 0x80 false n)) (drawn (category + 256 * 0) (omega arith))
    ∙ ap (set_bit 0x40 false) (not_carried (category + 256 * 0) (omega arith))
    ∙ unseen (category + 256 * 0) (omega arith)
    ∙ omega arith

-- what a glyph keeps, by what is known of its character
abbrev kept_of : (low mark ignorable seen : Bool) (category class joiner : ℕ) → ℕ
kept_of low mark ignorable seen category class joiner =
    set_bit 0x40 ((low && ignorable) && seen) (set_bit 0x80 (low && mark) (set_bit 0x20 (low && ignorable)
    (category + 256 * cond (low && mark) class (cond (low && ignorable) joiner 0))))

kept_by : (low mark seen : Bool) (category class joiner : ℕ) → category < 30 → (mark ≡ true → low ≡ true)
    → (mark ≡ false → class ≡ 0)
    → category + 0 + cond mark 128 0 + 256 * class ≡ kept_of low mark false seen category class joiner
kept_by true true seen category class joiner small high none = sym (bits_of_mark category class small)
kept_by false true seen category class joiner small high none = absurd (false≢true (high refl))
kept_by true false seen category class joiner small high none =
    ap (λ k. category + 0 + 0 + 256 * k) (none refl) ∙ sym (bits_of_other category small)
kept_by false false seen category class joiner small high none =
    ap (λ k. category + 0 + 0 + 256 * k) (none refl) ∙ sym (bits_of_other category small)

-- a mark is none of ASCII's, whatever number it has
high_mark : (c : ℕ) (b : Bool) → (nat_lt c 0xD800 || (nat_lt 0xDFFF c && nat_lt c 0x110000)) ≡ b
    → is_mark (category_of_character (cond b c 0xFFFD)) ≡ true → nat_le 0x80 c ≡ true
high_mark c true character mark =
    beyond_ascii c (ap (λ m. not (m || default_ignorable c)) mark)
high_mark c false character mark =
    elim (cases_lt c 0xD800) [
      | inl before ↦ absurd
          (false≢true (sym character ∙ ap (λ b. b || (nat_lt 0xDFFF c && nat_lt c 0x110000)) (lt-ltb c 0xD800 before)))
      | inr behind ↦ le-leb 0x80 c (omega arith)
    ]

kept_in : (low mark ignorable seen : Bool) (category class joiner bits : ℕ) → category < 30
    → bits ≡ category + cond ignorable 32 0 + cond mark 128 0 + 256 * class → has_bit IGNORABLE bits ≡ false
    → (mark ≡ true → low ≡ true) → (mark ≡ false → class ≡ 0)
    → bits ≡ kept_of low mark ignorable seen category class joiner
kept_in low mark true seen category class joiner bits small told unset high none =
    absurd (false≢true (sym (bit_told bits unset) ∙ ap (λ n. n / 32 % 2 == 1) told
    ∙ ap (λ n. n == 1) (ignorable_bit category class mark small)))
kept_in low mark false seen category class joiner bits small told unset high none =
    told ∙ kept_by low mark seen category class joiner small high none

abbrev pub props_of_bits : ℕ → UnicodeProps
props_of_bits n = record { 0 = n }

pub kept : (c bits : ℕ) → bits ≡ character_bits (character_of c) → is_ignorable (props_of_bits bits) ≡ false
    → props_of_bits bits ≡ stored_properties unicode_properties (is_mark_character unicode_properties c) c
unfolding character_bits
kept c bits told unset =
    let d = character_of c in
    let general = category_of_character d in
    ap props_of_bits
    (kept_in (nat_le 0x80 c) (is_mark general) (default_ignorable d) (is_seen_by_lookups c) (category_number general)
    (modified_class d) (joiner_class c) bits (number-lt general) told unset (high_mark c _ refl) (classless d))

-- a character that goes on nowhere carries on a grapheme only if it is a mark
pub alone : (p : CharacterProperties) (c : ℕ)
    → stored_properties (of_kind (p.general c) (p.class c) (p.ignorable c))
    (is_mark_character (of_kind (p.general c) (p.class c) (p.ignorable c)) c || false) c
    ≡ stored_properties p (is_mark_character p c) c
alone p c = ap (λ b. stored_properties p b c) (or-false (is_mark_character p c))
