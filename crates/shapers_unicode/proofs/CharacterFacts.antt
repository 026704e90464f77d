-- What all characters have in common: what is no mark has no class, and what is a mark or need not be
-- drawn is none of ASCII's.
use Rattle.std.proofs.Common.{◌≡◌, ℕ, Bool, true, false, not, ◌||◌, ◌==◌, nat_le, refl, sym, eqb-true}
use Rattle.std.proofs.lemmas.Bool.{false≢true}
use Rattle.ucd_table.proofs.Computing.{tables}
use Rattle.ucd_table.proofs.Facts.{Stepped-everywhere}
use Rattle.ucd_table.proofs.RangedFacts.{Stepped-at_points, points_ok}
use Rattle.ucd_table.proofs.Stepped.{Stepped, map_stepped, zip_stepped}
use Rattle.shapers_buffer.specs.Category.{is_mark}
use Rattle.shapers_unicode.specs.Classes.{modified_class}
use Rattle.shapers_unicode.specs.General.{category_of_character}
use Rattle.shapers_unicode.specs.Ignorable.{default_ignorable}
use Rattle.shapers_unicode.proofs.ClassSteps.{class_stepped}
use Rattle.shapers_unicode.proofs.GeneralSteps.{general_stepped}
use Rattle.shapers_unicode.proofs.IgnorableSteps.{ignorable_stepped, property_stepped}

abbrev mark_stepped : Stepped (λ c. is_mark (category_of_character c))
mark_stepped = map_stepped is_mark category_of_character general_stepped

mark_or_classless : (c : ℕ) → (is_mark (category_of_character c) || (modified_class c == 0)) ≡ true
unfolding tables class_stepped general_stepped
mark_or_classless = Stepped-everywhere (λ c. is_mark (category_of_character c) || (modified_class c == 0))
    (zip_stepped (λ mark class. mark || (class == 0)) (λ c. is_mark (category_of_character c)) modified_class
    mark_stepped class_stepped) refl

other : (mark none : Bool) → (mark || none) ≡ true → mark ≡ false → none ≡ true
other false none h unmarked = h
other true none h unmarked = absurd (false≢true (sym unmarked))

pub classless : (c : ℕ) → is_mark (category_of_character c) ≡ false → modified_class c ≡ 0
classless c unmarked = eqb-true (modified_class c) 0
    (other (is_mark (category_of_character c)) (modified_class c == 0) (mark_or_classless c) unmarked)

abbrev is_changed : ℕ → Bool
is_changed c = is_mark (category_of_character c) || default_ignorable c

abbrev changed_stepped : Stepped is_changed
changed_stepped = zip_stepped (λ mark ignorable. mark || ignorable) (λ c. is_mark (category_of_character c))
    default_ignorable mark_stepped ignorable_stepped

pub beyond_ascii : (c : ℕ) → not (is_mark (category_of_character c) || default_ignorable c) ≡ false → nat_le 0x80 c ≡ true
unfolding tables points_ok general_stepped ignorable_stepped property_stepped
beyond_ascii c changed = Stepped-at_points is_changed changed_stepped not (λ c v. nat_le 0x80 c) refl c changed
