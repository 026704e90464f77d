-- What is kept of characters in one number, by steps, and the places of these numbers in the list of kinds.
use Rattle.std.proofs.Common.{◌≡◌, ℕ, suc, ◌+◌, ◌*◌, ◌/◌, ◌%◌, ◌<◌, Bool, true, false, ◌&&◌, ◌==◌, nat_lt, cond, List, [], ◌∷◌, length, get_or, refl, ap, arith, ltb-true, eqb-true}
use Rattle.std.proofs.lemmas.Bool.{and_parts}
use Rattle.ucd_table.proofs.Computing.{tables}
use Rattle.ucd_table.proofs.Facts.{Stepped-everywhere}
use Rattle.ucd_table.proofs.Stepped.{Stepped, map_stepped, zip_stepped}
use Rattle.shapers_buffer.proofs.PropertyLemmas.{number-lt}
use Rattle.shapers_buffer.specs.Category.{category_number, is_mark}
use Rattle.shapers_unicode.specs.declared.tables.character.TheConstants.{CHARACTER_KINDS}
use Rattle.shapers_unicode.specs.CharacterBits.{bits_of, character_bits}
use Rattle.shapers_unicode.specs.Classes.{modified_class}
use Rattle.shapers_unicode.specs.General.{category_of_character}
use Rattle.shapers_unicode.specs.Ignorable.{default_ignorable}
use Rattle.shapers_unicode.proofs.ClassSteps.{class_stepped}
use Rattle.shapers_unicode.proofs.GeneralSteps.{general_stepped}
use Rattle.shapers_unicode.proofs.IgnorableSteps.{ignorable_stepped, property_stepped}

-- a property more, applied to what takes it
abbrev with : {V W : Type 0} (f : ℕ → V → W) (g : ℕ → V) → Stepped f → Stepped g → Stepped (λ c. f c (g c))
with f g s t = zip_stepped (λ h v. h v) f g s t

unfoldable pub bits_stepped : Stepped character_bits
unfolding character_bits
bits_stepped =
    with _ modified_class
    (with _ default_ignorable
    (map_stepped bits_of category_of_character general_stepped)
    ignorable_stepped)
    class_stepped

-- the place of a number in a list
unfoldable pub kind_place_in : ℕ → List ℕ → ℕ
kind_place_in n [] = 0
kind_place_in n (k ∷ ks) = let later = suc (kind_place_in n ks) in cond (n == k) 0 later

abbrev pub kind_place : ℕ → ℕ
kind_place c = kind_place_in (character_bits c) CHARACTER_KINDS

abbrev pub place_stepped : Stepped kind_place
place_stepped = map_stepped (λ n. kind_place_in n CHARACTER_KINDS) character_bits bits_stepped

-- the number stands in the list, at its place
abbrev is_listed_kind : ℕ → Bool
is_listed_kind n =
    nat_lt (kind_place_in n CHARACTER_KINDS) (length CHARACTER_KINDS)
    && (get_or CHARACTER_KINDS (kind_place_in n CHARACTER_KINDS) 0 == n)

all_listed : (c : ℕ) → is_listed_kind (character_bits c) ≡ true
unfolding tables bits_stepped kind_place_in class_stepped general_stepped ignorable_stepped property_stepped
all_listed = Stepped-everywhere (λ c. is_listed_kind (character_bits c))
    (map_stepped is_listed_kind character_bits bits_stepped) refl

pub kind-listed : (c : ℕ) → kind_place c < length CHARACTER_KINDS
kind-listed c =
    ltb-true _ _ (and_parts (nat_lt (kind_place c) (length CHARACTER_KINDS))
    (get_or CHARACTER_KINDS (kind_place c) 0 == character_bits c) (all_listed c)).0

pub kind-there : (c : ℕ) → get_or CHARACTER_KINDS (kind_place c) 0 ≡ character_bits c
kind-there c =
    eqb-true _ _ (and_parts (nat_lt (kind_place c) (length CHARACTER_KINDS))
    (get_or CHARACTER_KINDS (kind_place c) 0 == character_bits c) (all_listed c)).1

-- what the number tells
low_of : (category class : ℕ) (ignorable mark : Bool) → category < 30
    → (category + cond ignorable 32 0 + cond mark 128 0 + 256 * class) % 32 ≡ category
low_of category class true true small = omega arith
low_of category class true false small = omega arith
low_of category class false true small = omega arith
low_of category class false false small = omega arith

pub category-told : (c : ℕ) → character_bits c % 32 ≡ category_number (category_of_character c)
unfolding character_bits
category-told c =
    low_of (category_number (category_of_character c)) (modified_class c) (default_ignorable c)
    (is_mark (category_of_character c)) (number-lt (category_of_character c))

class_of : (category class : ℕ) (ignorable mark : Bool) → category < 30
    → (category + cond ignorable 32 0 + cond mark 128 0 + 256 * class) / 256 ≡ class
class_of category class true true small = omega arith
class_of category class true false small = omega arith
class_of category class false true small = omega arith
class_of category class false false small = omega arith

pub class-told : (c : ℕ) → character_bits c / 256 ≡ modified_class c
unfolding character_bits
class-told c =
    class_of (category_number (category_of_character c)) (modified_class c) (default_ignorable c)
    (is_mark (category_of_character c)) (number-lt (category_of_character c))

pub ignorable_bit : (category class : ℕ) (mark : Bool) → category < 30
    → (category + 32 + cond mark 128 0 + 256 * class) / 32 % 2 ≡ 1
ignorable_bit category class true small = omega arith
ignorable_bit category class false small = omega arith

drawn_bit : (category class : ℕ) (mark : Bool) → category < 30
    → (category + 0 + cond mark 128 0 + 256 * class) / 32 % 2 ≡ 0
drawn_bit category class true small = omega arith
drawn_bit category class false small = omega arith

drawn_by : (category class : ℕ) (ignorable mark : Bool) → category < 30
    → ((category + cond ignorable 32 0 + cond mark 128 0 + 256 * class) / 32 % 2 == 1) ≡ ignorable
drawn_by category class true mark small = ap (λ n. n == 1) (ignorable_bit category class mark small)
drawn_by category class false mark small = ap (λ n. n == 1) (drawn_bit category class mark small)

pub ignorable-told : (c : ℕ) → (character_bits c / 32 % 2 == 1) ≡ default_ignorable c
unfolding character_bits
ignorable-told c =
    drawn_by (category_number (category_of_character c)) (modified_class c) (default_ignorable c)
    (is_mark (category_of_character c)) (number-lt (category_of_character c))
