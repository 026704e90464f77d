-- The tags by which a font's tables are asked for a text.
use Rattle.std.specs.Prelude.{ℕ, ◌+◌, ◌*◌, min, List, take, slice_index, Option, None, Some}
use Rattle.shapers_buffer.specs.declared.buffer.tag.Script.{Script}
use Rattle.opentype_layout.specs.Features.{script_tags_in}
use Rattle.opentype_font.specs.declared.text_tags.TagList.{TagList}
use Rattle.opentype_font.specs.declared.text_tags.TextTags.{TextTags}

-- a number of four bytes
abbrev pub number_by : List ℕ → ℕ
number_by code = slice_index code 0 * 0x1000000 + slice_index code 1 * 0x10000
    + slice_index code 2 * 256 + slice_index code 3

-- the tags of a script, the newest first; none where there is no script
abbrev pub tags_of_script : Option Script → List ℕ
tags_of_script None = script_tags_in 0
tags_of_script (Some script) = script_tags_in (number_by script.0)

-- the tags of a list, which has room for three
abbrev pub tags_in : TagList → List ℕ
tags_in list = take (min list.count 3) list.tags

-- the tags of a text's script and of its language, the best first
pub record Tags : Type 0 where
  pub scripts : List ℕ
  pub languages : List ℕ

abbrev pub tags_of : TextTags → Tags
tags_of t = record { scripts = tags_in t.scripts; languages = tags_in t.languages }
