-- The features of a font's two tables, as a plan reads them.
use Rattle.std.specs.Prelude.{ℕ, ◌+◌, ◌*◌, ◌/◌, ◌%◌, ◌==◌, not, min, Bool, false, List, [], ◌∷◌, length, map, slice_index_or, option_map, is_some, Option, None, Some, if◌then◌else◌}
use Rattle.std.specs.List.{range_with_len}
use Rattle.std.specs.Option.{option_map_or}
use Rattle.shapers_base.specs.Map.{of_gsub, same_tag}
use Rattle.shapers_buffer.specs.declared.buffer.tag.hb_tag_t.{hb_tag_t}
use Rattle.shapers_plan.specs.FontFeatures.{FontTables}
use Rattle.opentype_face.specs.Bytes.{u16_in}
use Rattle.opentype_face.specs.Firsts.{first_from}
use Rattle.opentype_layout.specs.Features.{any_feature_in, chosen_script_in, feature_in, feature_table_in, feature_tag_in, lookup_count_in, nth_lookup_in, required_in, script_table_in, system_in}
use Rattle.opentype_layout.specs.declared.features.Chosen.{Chosen}
use Rattle.opentype_font.specs.declared.script_features.ListedFeature.{ListedFeature}
use Rattle.opentype_font.specs.declared.script_features.ListedLookups.{ListedLookups}
use Rattle.opentype_font.specs.declared.script_features.ListedLookups.TheVariants.{Few, Many}
use Rattle.opentype_font.specs.declared.script_features.TableFeatures.{TableFeatures}
use Rattle.opentype_font.specs.TextTags.{Tags, number_by}

-- a tag's four bytes by its number
abbrev pub tag_by : ℕ → hb_tag_t
tag_by n = record { 0 = n / 0x1000000 ∷ n / 0x10000 % 256 ∷ n / 256 % 256 ∷ n % 256 ∷ [] }

-- the language system of a script that is chosen for a text
abbrev pub system_for : List ℕ → Tags → Chosen → List ℕ
system_for table tags c = system_in (script_table_in table c.script) tags.languages

-- whether a table has a feature in it
abbrev pub has_feature_by : List ℕ → Tags → hb_tag_t → Option Chosen → Bool
has_feature_by table tags tag None = false
has_feature_by table tags tag (Some c) =
    is_some (feature_in table (system_for table tags c) (number_by tag.0))

abbrev pub has_feature_in : List ℕ → Tags → hb_tag_t → Bool
has_feature_in table tags tag =
    has_feature_by table tags tag (chosen_script_in table tags.scripts)

-- a feature and its lookups
pub record FeatureView : Type 0 where
  pub tag : hb_tag_t
  pub lookups : List ℕ

-- lookups as they are kept: a few in place, or a list
abbrev pub listed_lookups : ListedLookups → List ℕ
listed_lookups (Few lookups) = lookups.items
listed_lookups (Many lookups) = lookups.items

abbrev pub feature_view : ListedFeature → FeatureView
feature_view f = record { tag = f.tag; lookups = listed_lookups f.lookups }

-- the first lookups of a feature, so many
abbrev pub first_lookups : ℕ → List ℕ → List ℕ
first_lookups count feature = map (nth_lookup_in feature) (range_with_len 0 count)

-- at most 4096 lookups are read of a feature, and 1024 features of a script
abbrev pub lookup_numbers : List ℕ → List ℕ
lookup_numbers feature = first_lookups (min (lookup_count_in feature) 4096) feature

-- a feature by its number, as the font's variations have it
abbrev pub feature_in_list : List ℕ → ℕ → FeatureView
feature_in_list table index =
    record {
      tag = tag_by (feature_tag_in table index);
      lookups = lookup_numbers (feature_table_in
          table index);
    }

abbrev pub features_in_system : List ℕ → List ℕ → List FeatureView
features_in_system table system =
    map (λ i. feature_in_list table (u16_in system (6 + i * 2))) (range_with_len 0 (min (u16_in
    system 4) 1024))

-- what a table has for a script: whether it is there, the chosen script's tag and whether that is
-- the text's own, its features and the required one, and the vertical forms of any script
pub record TableView : Type 0 where
  pub there : Bool
  pub chosen : Option hb_tag_t
  pub own : Bool
  pub features : List FeatureView
  pub required : Option FeatureView
  pub vertical : Option FeatureView

abbrev pub features_view : TableFeatures → TableView
features_view t = record {
  there = t.is_there;
  chosen = t.script;
  own = t.is_found;
  features = map feature_view t.features.items;
  required = option_map feature_view t.required;
  vertical = option_map feature_view t.vertical;
}

abbrev pub view_with : List ℕ → Tags → Option Chosen → TableView
view_with table tags None = record {
  there = not (length table == 0);
  chosen = None;
  own = false;
  features = [];
  required = None;
  vertical = option_map (feature_in_list table) (any_feature_in table 0x76657274);
}
view_with table tags (Some c) =
    let system = system_for table tags c in record {
      there = not (length table == 0);
      chosen = Some (tag_by c.tag);
      own = c.is_found;
      features = features_in_system table system;
      required = option_map (feature_in_list table) (required_in system);
      vertical = option_map (feature_in_list table) (any_feature_in table 0x76657274);
    }

-- by the table's bytes, in the language system for the tags of a text
abbrev pub table_view : List ℕ → Tags → TableView
table_view table tags = view_with table tags (chosen_script_in table tags.scripts)

-- the lookups of a feature, if it has a tag
abbrev pub tagged_lookups : hb_tag_t → FeatureView → Option (List ℕ)
tagged_lookups tag f = if same_tag f.tag tag then Some f.lookups else None

abbrev pub no_feature : FeatureView
no_feature = record { tag = record { 0 = [] }; lookups = [] }

-- those of the first feature that has it
abbrev pub nth_lookups : hb_tag_t → List FeatureView → ℕ → Option (List ℕ)
nth_lookups tag features i = tagged_lookups tag (slice_index_or features i no_feature)

unfoldable pub lookups_by : hb_tag_t → List FeatureView → Option (List ℕ)
lookups_by tag features = first_from (length features) (nth_lookups tag features) 0

-- vertical forms are the one feature that is taken of any script
abbrev pub vertical_lookups : hb_tag_t → Option FeatureView → Option (List ℕ)
vertical_lookups tag None = None
vertical_lookups tag (Some f) = tagged_lookups tag f

abbrev pub tables_from : TableView → TableView → FontTables
tables_from gsub gpos = record {
  there = λ table. (of_gsub table gsub gpos).there;
  chosen = λ table. (of_gsub table gsub gpos).chosen;
  found = λ table. (of_gsub table gsub gpos).own;
  lookups = λ table tag. lookups_by tag (of_gsub table gsub gpos).features;
  anywhere = λ table tag. vertical_lookups tag (of_gsub table gsub gpos).vertical;
  required = λ table. option_map (λ f. f.tag) (of_gsub table gsub gpos).required;
  required_lookups = λ table. option_map_or (λ f. f.lookups) (of_gsub table gsub gpos).required [];
}
