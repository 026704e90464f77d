-- What a plan reads of a table for a text's tags, on a GSUB written out by hand (OpenType, Common Table
-- Formats).
use Rattle.std.specs.Prelude.{ℕ, ◌≡◌, List, [], ◌∷◌, ◌++◌, length, true, false, Option, None, Some, refl}
use Rattle.std.specs.Global.{Vec}
use Rattle.opentype_face.specs.Firsts.{first_from}
use Rattle.opentype_face.specs.Ranges.{bisect}
use Rattle.opentype_layout.specs.Features.{any_feature_in, chosen_script_in, feature_in, feature_table_in, feature_tag_in, first_language_in, first_script_in, new_tag_in, nth_any, nth_feature, nth_holding, nth_language, nth_script, nth_substitute, old_tag_in, required_in, script_tags_in, substitute_in, substitutions_in, system_in, third_tag_in, variation_in, variations_in}
use Rattle.opentype_font.specs.declared.script_features.ListedLookups.TheVariants.{Few, Many}
use Rattle.opentype_font.specs.declared.text_tags.TagList.{TagList}
use Rattle.opentype_font.specs.ScriptFeatures.{FeatureView, features_in_system, first_lookups, has_feature_in, listed_lookups, lookup_numbers, lookups_by, table_view, tag_by}
use Rattle.opentype_font.specs.TextTags.{Tags, number_by, tags_in, tags_of, tags_of_script}

-- ---- tags

number-of-four : number_by (1 ∷ 2 ∷ 3 ∷ 4 ∷ []) ≡ 0x01020304
number-of-four = refl

tag-of-number : tag_by 0xFF020304 ≡ record { 0 = 255 ∷ 2 ∷ 3 ∷ 4 ∷ [] }
tag-of-number = refl

tags-of-deva : tags_of_script (Some (record { 0 = 68 ∷ 101 ∷ 118 ∷ 97 ∷ [] })) ≡ 0x64657633 ∷ 0x64657632 ∷ 0x64657661 ∷ []
unfolding script_tags_in third_tag_in new_tag_in old_tag_in
tags-of-deva = refl

tags-of-no-script : tags_of_script None ≡ []
unfolding script_tags_in third_tag_in new_tag_in old_tag_in
tags-of-no-script = refl

-- a list has as many tags as it counts, and three at most
abbrev counted : ℕ → TagList
counted count = record { tags = 7 ∷ 8 ∷ 9 ∷ []; count = count }

counted-0 : tags_in (counted 0) ≡ []
counted-0 = refl

counted-2 : tags_in (counted 2) ≡ 7 ∷ 8 ∷ []
counted-2 = refl

counted-3 : tags_in (counted 3) ≡ 7 ∷ 8 ∷ 9 ∷ []
counted-3 = refl

counted-4 : tags_in (counted 4) ≡ 7 ∷ 8 ∷ 9 ∷ []
counted-4 = refl

tags-of-text : tags_of (record { scripts = counted 1; languages = counted 2 }) ≡ record { scripts = 7 ∷ []; languages = 7 ∷ 8 ∷ [] }
tags-of-text = refl

-- ---- a table of Latin: without features by default; Romanian requires feature 1; Serbian has features 2
-- and 0. Feature 0 is locl, with lookup 0, feature 1 locl, with 1, feature 2 liga, with 3 and 2, and
-- feature 3 vert, with 4.

abbrev scripts : List ℕ
scripts = (0 ∷ 1 ∷ 108 ∷ 97 ∷ 116 ∷ 110 ∷ 0 ∷ 8 ∷ [])
    ++ (0 ∷ 16 ∷ 0 ∷ 2 ∷ 82 ∷ 79 ∷ 77 ∷ 32 ∷ 0 ∷ 22 ∷ 83 ∷ 82 ∷ 66 ∷ 32 ∷ 0 ∷ 28 ∷ [])
    ++ (0 ∷ 0 ∷ 255 ∷ 255 ∷ 0 ∷ 0 ∷ []) ++ (0 ∷ 0 ∷ 0 ∷ 1 ∷ 0 ∷ 0 ∷ [])
    ++ (0 ∷ 0 ∷ 255 ∷ 255 ∷ 0 ∷ 2 ∷ 0 ∷ 2 ∷ 0 ∷ 0 ∷ [])

abbrev features : List ℕ
features = (0 ∷ 4 ∷ 108 ∷ 111 ∷ 99 ∷ 108 ∷ 0 ∷ 26 ∷ 108 ∷ 111 ∷ 99 ∷ 108 ∷ 0 ∷ 32 ∷ [])
    ++ (108 ∷ 105 ∷ 103 ∷ 97 ∷ 0 ∷ 38 ∷ 118 ∷ 101 ∷ 114 ∷ 116 ∷ 0 ∷ 46 ∷ [])
    ++ (0 ∷ 0 ∷ 0 ∷ 1 ∷ 0 ∷ 0 ∷ []) ++ (0 ∷ 0 ∷ 0 ∷ 1 ∷ 0 ∷ 1 ∷ [])
    ++ (0 ∷ 0 ∷ 0 ∷ 2 ∷ 0 ∷ 3 ∷ 0 ∷ 2 ∷ []) ++ (0 ∷ 0 ∷ 0 ∷ 1 ∷ 0 ∷ 4 ∷ [])

abbrev table : List ℕ
table = (0 ∷ 1 ∷ 0 ∷ 0 ∷ 0 ∷ 10 ∷ 0 ∷ 56 ∷ 0 ∷ 0 ∷ []) ++ scripts ++ features

abbrev latin : List ℕ → Tags
latin languages = record { scripts = 0x6C61746E ∷ []; languages = languages }

abbrev listed : ℕ → List ℕ → FeatureView
listed tag lookups = record { tag = tag_by tag; lookups = lookups }

abbrev vertical : Option FeatureView
vertical = Some (listed 0x76657274 (4 ∷ []))

view-default : table_view table (latin []) ≡ record {
  there = true;
  chosen = Some (tag_by 0x6C61746E);
  own = true;
  features = [];
  required = None;
  vertical = vertical;
}
unfolding any_feature_in chosen_script_in feature_table_in feature_tag_in first_language_in first_script_in nth_any nth_holding nth_language nth_script nth_substitute required_in substitute_in substitutions_in system_in variation_in variations_in first_from bisect
view-default = refl

view-romanian : table_view table (latin (0x4D4F4C20 ∷ 0x524F4D20 ∷ [])) ≡ record {
  there = true;
  chosen = Some (tag_by 0x6C61746E);
  own = true;
  features = [];
  required = Some (listed 0x6C6F636C (1 ∷ []));
  vertical = vertical;
}
unfolding any_feature_in chosen_script_in feature_table_in feature_tag_in first_language_in first_script_in nth_any nth_holding nth_language nth_script nth_substitute required_in substitute_in substitutions_in system_in variation_in variations_in first_from bisect
view-romanian = refl

view-serbian : table_view table (latin (0x53524220 ∷ [])) ≡ record {
  there = true;
  chosen = Some (tag_by 0x6C61746E);
  own = true;
  features = listed 0x6C696761 (3 ∷ 2 ∷ []) ∷ listed 0x6C6F636C (0 ∷ []) ∷ [];
  required = None;
  vertical = vertical;
}
unfolding any_feature_in chosen_script_in feature_table_in feature_tag_in first_language_in first_script_in nth_any nth_holding nth_language nth_script nth_substitute required_in substitute_in substitutions_in system_in variation_in variations_in first_from bisect
view-serbian = refl

-- no script of the text's own: Latin is taken, in the text's language
view-thai : table_view table (record { scripts = 0x74686169 ∷ []; languages = 0x524F4D20 ∷ [] }) ≡ record {
  there = true;
  chosen = Some (tag_by 0x6C61746E);
  own = false;
  features = [];
  required = Some (listed 0x6C6F636C (1 ∷ []));
  vertical = vertical;
}
unfolding any_feature_in chosen_script_in feature_table_in feature_tag_in first_language_in first_script_in nth_any nth_holding nth_language nth_script nth_substitute required_in substitute_in substitutions_in system_in variation_in variations_in first_from bisect
view-thai = refl

-- no table
view-nothing : table_view [] (latin []) ≡ record {
  there = false;
  chosen = None;
  own = false;
  features = [];
  required = None;
  vertical = None;
}
unfolding any_feature_in chosen_script_in first_script_in nth_any nth_script first_from bisect
view-nothing = refl

-- a table without scripts
view-empty : table_view (0 ∷ 1 ∷ []) (latin []) ≡ record {
  there = true;
  chosen = None;
  own = false;
  features = [];
  required = None;
  vertical = None;
}
unfolding any_feature_in chosen_script_in first_script_in nth_any nth_script first_from bisect
view-empty = refl

-- ---- a feature by its tag: in the language's system alone, the required one apart

has-serbian : has_feature_in table (latin (0x53524220 ∷ [])) (tag_by 0x6C6F636C) ≡ true
unfolding chosen_script_in feature_in feature_tag_in first_language_in first_script_in nth_feature nth_language nth_script system_in first_from bisect
has-serbian = refl

has-romanian : has_feature_in table (latin (0x524F4D20 ∷ [])) (tag_by 0x6C6F636C) ≡ false
unfolding chosen_script_in feature_in feature_tag_in first_language_in first_script_in nth_feature nth_language nth_script system_in first_from bisect
has-romanian = refl

has-default : has_feature_in table (latin []) (tag_by 0x6C6F636C) ≡ false
unfolding chosen_script_in feature_in feature_tag_in first_language_in first_script_in nth_feature nth_language nth_script system_in first_from bisect
has-default = refl

has-nothing : has_feature_in [] (latin []) (tag_by 0x6C6F636C) ≡ false
unfolding chosen_script_in first_script_in nth_script first_from bisect
has-nothing = refl

-- the first of two features of a tag
lookups-first : lookups_by (tag_by 2) (listed 1 (7 ∷ []) ∷ listed 2 (8 ∷ []) ∷ listed 2 (9 ∷ []) ∷ []) ≡ Some (8 ∷ [])
unfolding lookups_by first_from
lookups-first = refl

lookups-none : lookups_by (tag_by 3) (listed 1 (7 ∷ []) ∷ listed 2 (8 ∷ []) ∷ []) ≡ None
unfolding lookups_by first_from
lookups-none = refl

-- ---- the first lookups of a feature that has 3 and 2; what is behind the end reads 0

abbrev two-lookups : List ℕ
two-lookups = 0 ∷ 0 ∷ 0 ∷ 2 ∷ 0 ∷ 3 ∷ 0 ∷ 2 ∷ []

first-lookups-0 : first_lookups 0 two-lookups ≡ []
first-lookups-0 = refl

first-lookups-1 : first_lookups 1 two-lookups ≡ 3 ∷ []
first-lookups-1 = refl

first-lookups-2 : first_lookups 2 two-lookups ≡ 3 ∷ 2 ∷ []
first-lookups-2 = refl

first-lookups-3 : first_lookups 3 two-lookups ≡ 3 ∷ 2 ∷ 0 ∷ []
first-lookups-3 = refl

-- a few in place, or a list; either may be empty
listed-few : listed_lookups (Few (record { items = 3 ∷ 2 ∷ [] })) ≡ 3 ∷ 2 ∷ []
listed-few = refl

listed-none : listed_lookups (Few (record { items = [] })) ≡ []
listed-none = refl

listed-many : (lookups : Vec ℕ) → lookups.items ≡ 3 ∷ 2 ∷ [] → listed_lookups (Many lookups) ≡ 3 ∷ 2 ∷ []
listed-many lookups items = items

-- ---- how much is read at most: of 4097 lookups 4096, of 1025 features 1024

lookups-4097 : length (lookup_numbers (0 ∷ 0 ∷ 16 ∷ 1 ∷ [])) ≡ 4096
lookups-4097 = refl

lookups-4095 : length (lookup_numbers (0 ∷ 0 ∷ 15 ∷ 255 ∷ [])) ≡ 4095
lookups-4095 = refl

features-1025 : length (features_in_system [] (0 ∷ 0 ∷ 0 ∷ 0 ∷ 4 ∷ 1 ∷ [])) ≡ 1024
features-1025 = refl

features-1023 : length (features_in_system [] (0 ∷ 0 ∷ 0 ∷ 0 ∷ 3 ∷ 255 ∷ [])) ≡ 1023
features-1023 = refl
