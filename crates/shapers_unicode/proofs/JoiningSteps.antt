-- Joining types by steps, and their numbers.
use Rattle.std.proofs.Common.{◌≡◌, ◌==◌, Some, refl, find}
use Rattle.ucd_table.proofs.Stepped.{Stepped, of_rows, map_stepped, zip_stepped}
use Rattle.ucd_table.proofs.StepsLemmas.{rises_from}
use Rattle.ucd_table.specs.Rows.{value_in}
use Rattle.shapers_base.specs.Numbers.{joining_number, joining_types}
use Rattle.shapers_base.specs.declared.plan.joining.hb_arabic_joining_type_t.{hb_arabic_joining_type_t}
use Rattle.shapers_base.specs.declared.plan.joining.hb_arabic_joining_type_t.TheVariants as joins
use Rattle.shapers_unicode.specs.Values.{JoiningGroup as groups, UnicodeJoining as unicode}
use Rattle.shapers_unicode.specs.Joining.{joined_as, joining_type}
use Rattle.shapers_unicode.specs.GroupRows.{group_rows}
use Rattle.shapers_unicode.specs.JoiningRows.{joining_rows}

unfoldable pub joining_stepped : Stepped joining_type
unfolding joining_type rises_from group_rows joining_rows
joining_stepped =
    zip_stepped joined_as (value_in groups.Elsewhere group_rows) (value_in unicode.U joining_rows)
    (of_rows groups.Elsewhere group_rows refl) (of_rows unicode.U joining_rows refl)

abbrev pub number_stepped : Stepped (λ c. joining_number (joining_type c))
number_stepped = map_stepped joining_number joining_type joining_stepped

pub joining-found : (v : hb_arabic_joining_type_t) → find (λ t. joining_number t == joining_number v) joining_types
    ≡ Some v
joining-found joins.U = refl
joining-found joins.L = refl
joining-found joins.R = refl
joining-found joins.D = refl
joining-found joins.GroupAlaph = refl
joining-found joins.GroupDalathRish = refl
joining-found joins.T = refl
joining-found joins.X = refl
