-- Joining_Group, by DerivedJoiningGroup.txt. Written by unicode/generate.
use Rattle.std.specs.Prelude.{List, [], ◌∷◌}
use Rattle.ucd_table.specs.Rows.{Row}
use Rattle.shapers_unicode.specs.Values.{JoiningGroup, JoiningGroup as values}

unfoldable pub group_rows : List (Row JoiningGroup)
group_rows =
    (0x0710, 0x0710, values.Alaph)
    ∷ (0x0715, 0x0716, values.Dalath_Rish)
    ∷ (0x072A, 0x072A, values.Dalath_Rish)
    ∷ (0x072F, 0x072F, values.Dalath_Rish)
    ∷ []
