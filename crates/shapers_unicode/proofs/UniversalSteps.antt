-- The universal shaper's categories by steps.
use Rattle.std.proofs.Common.{ℕ, None, refl}
use Rattle.ucd_table.proofs.Stepped.{Stepped, of_rows, of_ranges, map_stepped, zip_stepped}
use Rattle.ucd_table.proofs.StepsLemmas.{rises_from}
use Rattle.ucd_table.specs.Rows.{in_ranges, value_in}
use Rattle.shapers_unicode.specs.General.{category_of_character}
use Rattle.shapers_unicode.specs.Ignorable.{default_ignorable, ignorable_property}
use Rattle.shapers_unicode.specs.Joining.{joining_type}
use Rattle.shapers_unicode.specs.Values.{Positional as at, Syllabic as is, over}
use Rattle.shapers_unicode.specs.Universal.{own_categories, positional_changes, syllabic_changes, universal_by, universal_category, use_positional, use_syllabic}
use Rattle.shapers_unicode.specs.OtherScriptRanges.{other_script_ranges}
use Rattle.shapers_unicode.specs.PositionalRows.{positional_rows}
use Rattle.shapers_unicode.specs.SyllabicRows.{syllabic_rows}
use Rattle.shapers_unicode.specs.UsePositionalRows.{use_positional_rows}
use Rattle.shapers_unicode.specs.UseSyllabicRows.{use_syllabic_rows}
use Rattle.shapers_unicode.proofs.GeneralSteps.{general_stepped}
use Rattle.shapers_unicode.proofs.IgnorableSteps.{ignorable_stepped, property_stepped}
use Rattle.shapers_unicode.proofs.JoiningSteps.{joining_stepped}

unfoldable pub syllabic_stepped : Stepped (value_in is.Other syllabic_rows)
unfolding rises_from syllabic_rows
syllabic_stepped = of_rows is.Other syllabic_rows refl

unfoldable pub positional_stepped : Stepped (value_in at.NA positional_rows)
unfolding rises_from positional_rows
positional_stepped = of_rows at.NA positional_rows refl

unfoldable pub use_syllabic_stepped : Stepped use_syllabic
unfolding rises_from syllabic_changes use_syllabic_rows
use_syllabic_stepped =
    zip_stepped over (value_in None syllabic_changes)
    (λ c. over (value_in None use_syllabic_rows c) (value_in is.Other syllabic_rows c))
    (of_rows None syllabic_changes refl)
    (zip_stepped over (value_in None use_syllabic_rows) (value_in is.Other syllabic_rows)
    (of_rows None use_syllabic_rows refl) syllabic_stepped)

unfoldable pub use_positional_stepped : Stepped use_positional
unfolding rises_from positional_changes use_positional_rows
use_positional_stepped =
    zip_stepped over (value_in None positional_changes)
    (λ c. over (value_in None use_positional_rows c) (value_in at.NA positional_rows c))
    (of_rows None positional_changes refl)
    (zip_stepped over (value_in None use_positional_rows) (value_in at.NA positional_rows)
    (of_rows None use_positional_rows refl) positional_stepped)

-- a property more, applied to what takes it
abbrev with : {V W : Type 0} (f : ℕ → V → W) (g : ℕ → V) → Stepped f → Stepped g → Stepped (λ c. f c (g c))
with f g s t = zip_stepped (λ h v. h v) f g s t

unfoldable pub universal_stepped : Stepped universal_category
unfolding universal_category rises_from other_script_ranges own_categories
universal_stepped =
    with _ category_of_character
    (with _ joining_type
    (with _ use_syllabic
    (with _ use_positional
    (with _ default_ignorable
    (with _ ignorable_property
    (with _ (value_in None own_categories)
    (map_stepped universal_by (in_ranges other_script_ranges) (of_ranges other_script_ranges refl))
    (of_rows None own_categories refl))
    property_stepped)
    ignorable_stepped)
    use_positional_stepped)
    use_syllabic_stepped)
    joining_stepped)
    general_stepped
