-- How a character joins its neighbours.
use Rattle.std.specs.Prelude.{ℕ}
use Rattle.ucd_table.specs.Rows.{value_in}
use Rattle.shapers_base.specs.declared.plan.joining.hb_arabic_joining_type_t.{hb_arabic_joining_type_t}
use Rattle.shapers_base.specs.declared.plan.joining.hb_arabic_joining_type_t.TheVariants as joins
use Rattle.shapers_unicode.specs.Values.{JoiningGroup, UnicodeJoining, UnicodeJoining as unicode}
use Rattle.shapers_unicode.specs.Values.JoiningGroup.{Alaph, Dalath_Rish, Elsewhere}
use Rattle.shapers_unicode.specs.GroupRows.{group_rows}
use Rattle.shapers_unicode.specs.JoiningRows.{joining_rows}

-- The shapers' type by Unicode's Joining_Group and Joining_Type: two groups have types of their
-- own, and what causes others to join (a tatweel) joins on both sides.
abbrev pub joined_as : JoiningGroup → UnicodeJoining → hb_arabic_joining_type_t
joined_as Alaph t = joins.GroupAlaph
joined_as Dalath_Rish t = joins.GroupDalathRish
joined_as Elsewhere unicode.C = joins.D
joined_as Elsewhere unicode.D = joins.D
joined_as Elsewhere unicode.L = joins.L
joined_as Elsewhere unicode.R = joins.R
joined_as Elsewhere unicode.T = joins.T
joined_as Elsewhere unicode.U = joins.U

unfoldable pub joining_type : ℕ → hb_arabic_joining_type_t
joining_type c = joined_as (value_in Elsewhere group_rows c) (value_in unicode.U joining_rows c)
