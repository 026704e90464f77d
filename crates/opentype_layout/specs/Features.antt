-- Scripts, language systems and features of GSUB or GPOS (OpenType, Common Table Formats), chosen
-- as HarfBuzz chooses them. Tags are the numbers of their four letters.
use Rattle.std.specs.Prelude.{ℕ, ◌+◌, ◌*◌, ◌==◌, ◌&&◌, ◌||◌, not, nat_lt, nat_le, is_some, bit_or, slice_index, length, min, Bool, true, false, List, [], ◌∷◌, ◌++◌, Option, None, Some, if◌then◌else◌}
use Rattle.opentype_face.specs.Bytes.{u16_in, u32_in, table_at}
use Rattle.opentype_face.specs.Ranges.{bisect}
use Rattle.opentype_layout.specs.declared.features.Chosen.{Chosen}
use Rattle.opentype_face.specs.Firsts.{first_from, or_else}

-- ---- records with tags

-- the number of the record with a tag, of so many of six bytes from a place on
abbrev pub tagged_in : List ℕ → ℕ → ℕ → ℕ → Option ℕ
tagged_in bytes first count tag =
    bisect count (λ i. u32_in bytes (first + i * 6)) (λ i. u32_in bytes (first + i * 6)) tag 0 count

-- ---- scripts

abbrev pub scripts_in : List ℕ → List ℕ
scripts_in table = table_at table (u16_in table 4)

abbrev pub script_in : List ℕ → ℕ → Option ℕ
script_in table tag = tagged_in (scripts_in table) 2 (u16_in (scripts_in table) 0) tag

abbrev pub script_table_in : List ℕ → ℕ → List ℕ
script_table_in table number = table_at (scripts_in table) (u16_in (scripts_in table) (6 + number *
    6))

-- the script of a tag, as one that is the text's own or a default
abbrev pub chosen_as : Bool → ℕ → Option ℕ → Option Chosen
chosen_as is_found tag None = None
chosen_as is_found tag (Some number) = Some (record {
  script = number;
  tag = tag;
  is_found =
      is_found;
})

unfoldable pub nth_script : List ℕ → List ℕ → Bool → ℕ → Option Chosen
nth_script table tags is_found i = chosen_as is_found (slice_index tags i) (script_in table
    (slice_index tags i))

-- the first of these tags that a table has a script for
unfoldable pub first_script_in : List ℕ → List ℕ → Bool → Option Chosen
first_script_in table tags is_found = first_from (length tags) (nth_script table tags is_found) 0

-- The script of a text by its tags, then DFLT, dflt, latn.
abbrev pub default_scripts : List ℕ
default_scripts = 0x44464C54 ∷ 0x64666C74 ∷ 0x6C61746E ∷ []

unfoldable pub chosen_script_in : List ℕ → List ℕ → Option Chosen
chosen_script_in table tags =
    or_else (first_script_in table tags true) (first_script_in table default_scripts false)

-- ---- tags of a script (HarfBuzz, `hb_ot_all_tags_from_script`)

-- the second tag of a script: bng2, dev2, gjr2, gur2, knd2, mlm2, ory2, tml2, tel2, mym2
unfoldable pub new_tag_in : ℕ → ℕ
new_tag_in script =
    if script == 0x42656E67 then 0x626E6732
    else (if script == 0x44657661 then 0x64657632
    else (if script == 0x47756A72 then 0x676A7232
    else (if script == 0x47757275 then 0x67757232
    else (if script == 0x4B6E6461 then 0x6B6E6432
    else (if script == 0x4D6C796D then 0x6D6C6D32
    else (if script == 0x4F727961 then 0x6F727932
    else (if script == 0x54616D6C then 0x746D6C32
    else (if script == 0x54656C75 then 0x74656C32
    else (if script == 0x4D796D72 then 0x6D796D32
    else 0)))))))))

-- Its first tag: most often its ISO 15924 code with a small first letter; else math, kana, `lao `,
-- `yi  `, `nko `, `vai `; 0 for no script.
unfoldable pub old_tag_in : ℕ → ℕ
old_tag_in script =
    if script == 0 then 0
    else (if script == 0x5A6D7468 then 0x6D617468
    else (if script == 0x48697261 then 0x6B616E61
    else (if script == 0x4C616F6F then 0x6C616F20
    else (if script == 0x59696969 then 0x79692020
    else (if script == 0x4E6B6F6F then 0x6E6B6F20
    else (if script == 0x56616969 then 0x76616920
    else bit_or script 0x20000000))))))

-- the third tag ends in 3 where the second ends in 2; Myanmar has none
unfoldable pub third_tag_in : ℕ → ℕ
third_tag_in new = if new == 0 then 0 else (if new == 0x6D796D32 then 0 else bit_or new 0x33)

abbrev pub tag_list : ℕ → List ℕ
tag_list tag = if tag == 0 then [] else tag ∷ []

-- all tags of a script, the newest first
unfoldable pub script_tags_in : ℕ → List ℕ
script_tags_in script =
    (tag_list (third_tag_in (new_tag_in script)) ++ tag_list (new_tag_in script)) ++ tag_list
    (old_tag_in script)

-- ---- language systems

abbrev pub language_in : List ℕ → ℕ → Option ℕ
language_in script tag = tagged_in script 4 (u16_in script 2) tag

unfoldable pub nth_language : List ℕ → List ℕ → ℕ → Option ℕ
nth_language script tags i = language_in script (slice_index tags i)

unfoldable pub first_language_in : List ℕ → List ℕ → Option ℕ
first_language_in script tags = first_from (length tags) (nth_language script tags) 0

-- the language system with a number; the default one where there is none
abbrev pub system_of : List ℕ → Option ℕ → List ℕ
system_of script None = table_at script (u16_in script 0)
system_of script (Some number) = table_at script (u16_in script (8 + number * 6))

-- The language system of the first of these tags that a script has; then that of dflt, then the
-- default one.
unfoldable pub system_in : List ℕ → List ℕ → List ℕ
system_in script tags =
    system_of script (or_else (first_language_in script tags) (language_in script 0x64666C74))

-- ---- features

abbrev pub features_in : List ℕ → List ℕ
features_in table = table_at table (u16_in table 6)

-- the tag of a feature; 0 where there is none
unfoldable pub feature_tag_in : List ℕ → ℕ → ℕ
feature_tag_in table index =
    if nat_lt index (u16_in (features_in table) 0) then u32_in (features_in table) (2 + index * 6)
    else 0

-- the feature that a language system requires
unfoldable pub required_in : List ℕ → Option ℕ
required_in system =
    if length system == 0 then None
    else (if u16_in system 2 == 0xFFFF then None else Some (u16_in system 2))

unfoldable pub nth_feature : List ℕ → List ℕ → ℕ → ℕ → Option ℕ
nth_feature table system tag i =
    if feature_tag_in table (u16_in system (6 + i * 2)) == tag then Some (u16_in system (6 + i *
    2)) else None

-- the first feature of a language system by its tag
unfoldable pub feature_in : List ℕ → List ℕ → ℕ → Option ℕ
feature_in table system tag = first_from (u16_in system 4) (nth_feature table system tag) 0

unfoldable pub nth_any : List ℕ → ℕ → ℕ → Option ℕ
nth_any table tag i = if feature_tag_in table i == tag then Some i else None

-- the first feature of a table by its tag, of any script
unfoldable pub any_feature_in : List ℕ → ℕ → Option ℕ
any_feature_in table tag = first_from (u16_in (features_in table) 0) (nth_any table tag) 0

-- ---- feature variations at the default instance, whose coordinates are 0

-- Whether a condition holds: 0 is within its range (format 1), or its value is above 0 (format 2).
-- Numbers from 0x8000 on are below 0.
unfoldable pub condition_holds : List ℕ → Bool
condition_holds condition =
    if u16_in condition 0 == 1 then
    (u16_in condition 4 == 0 || nat_le 0x8000 (u16_in condition 4)) && nat_lt (u16_in condition 6)
    0x8000
    else (if u16_in condition 0 == 2 then
    not (u16_in condition 2 == 0) && nat_lt (u16_in condition 2) 0x8000
    else false)

unfoldable pub nth_failing : List ℕ → ℕ → Option ℕ
nth_failing set i = if condition_holds (table_at set (u32_in set (2 + i * 4))) then None else Some i

-- whether all conditions of a set hold, of which 256 are read at most
unfoldable pub set_holds : List ℕ → Bool
set_holds set = not (is_some (first_from (min (u16_in set 0) 256) (nth_failing set) 0))

-- the feature variations of a table of version 1.1 or later
unfoldable pub variations_in : List ℕ → List ℕ
variations_in table =
    if nat_lt (u32_in table 0) 0x00010001 then [] else table_at table (u32_in table 10)

unfoldable pub nth_holding : List ℕ → ℕ → Option ℕ
nth_holding variations i =
    if set_holds (table_at variations (u32_in variations (8 + i * 8))) then Some i else None

-- the first record whose conditions hold, of 512 at most
unfoldable pub variation_in : List ℕ → Option ℕ
variation_in variations = first_from (min (u32_in variations 4) 512) (nth_holding variations) 0

abbrev pub substitutions_of : List ℕ → Option ℕ → List ℕ
substitutions_of variations None = []
substitutions_of variations (Some i) = table_at variations (u32_in variations (12 + i * 8))

-- the substitutions of features that hold at the default instance
unfoldable pub substitutions_in : List ℕ → List ℕ
substitutions_in table = substitutions_of (variations_in table) (variation_in (variations_in table))

unfoldable pub nth_substitute : List ℕ → ℕ → ℕ → Option ℕ
nth_substitute substitutions index i =
    if u16_in substitutions (6 + i * 6) == index then Some i else None

-- the first substitution of a feature, of 1024 at most
unfoldable pub substitute_in : List ℕ → ℕ → Option ℕ
substitute_in substitutions index =
    first_from (min (u16_in substitutions 4) 1024) (nth_substitute substitutions index) 0

-- ---- a feature's table and its lookups

abbrev pub plain_feature_in : List ℕ → ℕ → List ℕ
plain_feature_in table index =
    let list = features_in table in
    if nat_lt index (u16_in list 0) then table_at list (u16_in list (6 + index * 6)) else []

-- the table of a feature: the one that its substitution names, or its own
abbrev pub feature_or : List ℕ → ℕ → List ℕ → Option ℕ → List ℕ
feature_or table index substitutions None = plain_feature_in table index
feature_or table index substitutions (Some i) = table_at substitutions (u32_in substitutions (8 + i
    * 6))

-- the table that a variation has for a feature, or its own
unfoldable pub feature_table_in : List ℕ → ℕ → List ℕ
feature_table_in table index =
    feature_or table index (substitutions_in table) (substitute_in (substitutions_in table) index)

-- a feature has so many lookups, and lookup i of it is this one
abbrev pub lookup_count_in : List ℕ → ℕ
lookup_count_in feature = u16_in feature 2

abbrev pub nth_lookup_in : List ℕ → ℕ → ℕ
nth_lookup_in feature i = u16_in feature (4 + i * 2)
