-- The features of a font's two tables as a value.
use Rattle.std.specs.Prelude.{ℕ, Bool, List, Option}
use Rattle.shapers_buffer.specs.declared.buffer.tag.hb_tag_t.{hb_tag_t}
use Rattle.shapers_base.specs.declared.map.TableIndex.{TableIndex}

-- by table: whether the font has it; the script that was chosen for the text, and whether it is the
-- text's own; the lookups of a feature in that script, and in any; the feature that the script
-- requires, with its lookups
pub record FontTables : Type 0 where
  pub there : TableIndex → Bool
  pub chosen : TableIndex → Option hb_tag_t
  pub found : TableIndex → Bool
  pub lookups : TableIndex → hb_tag_t → Option (List ℕ)
  pub anywhere : TableIndex → hb_tag_t → Option (List ℕ)
  pub required : TableIndex → Option hb_tag_t
  pub required_lookups : TableIndex → List ℕ
