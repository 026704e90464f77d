-- What a map is to its callers, and what can be looked up in it.
use Rattle.std.specs.Prelude.{ℕ, ◌-◌, ◌%◌, ◌==◌, nat_eq, nat_le, Bool, ◌&&◌, List, length, take, drop, find, Option, option_map, unwrap_or, slice_get}
use Rattle.std.specs.List.{list_all, list_any}
use Rattle.std.specs.Option.{option_map_or}
use Rattle.std.specs.Cmp.Lexicographic.{pointwise}
use Rattle.std.specs.declared.ops.Range.{Range}
use Rattle.shapers_buffer.specs.declared.buffer.tag.hb_tag_t.{hb_tag_t}
use Rattle.shapers_base.specs.declared.font.GlyphId.{GlyphId}
use Rattle.shapers_base.specs.declared.map.feature_map_t.{feature_map_t}
use Rattle.shapers_base.specs.declared.map.TableIndex.{TableIndex}
use Rattle.shapers_base.specs.declared.map.TableIndex.TheVariants.{GSUB, GPOS}

-- a map: its features, its stages as ranges of the list of lookups, that list, the bits that hold
-- for the whole text, the script that the font offers for it, and whether that is the requested one
pub record Map : Type 0 where
  pub features : List feature_map_t
  pub stages : List (Range ℕ)
  pub lookups : List ℕ
  pub global : ℕ
  pub chosen : Option hb_tag_t
  pub found : Bool

-- whether a stage is a range of a list of n lookups
abbrev pub can_be_stage : ℕ → Range ℕ → Bool
can_be_stage n r = nat_le r.start r.end && nat_le r.end n

-- whether a feature's mask touches no glyph flag bit, one of the low three
abbrev pub is_off_flags : feature_map_t → Bool
is_off_flags f = f.mask % 8 == 0

-- whether these can be the fields of a map
abbrev pub can_be_map : Map → Bool
can_be_map m =
    list_all (can_be_stage (length m.lookups)) m.stages && list_all is_off_flags m.features

-- the value for GSUB, and the one for GPOS
abbrev pub of_gsub : {X : Type 0} → TableIndex → X → X → X
of_gsub GSUB known unknown = known
of_gsub GPOS known unknown = unknown

-- whether two tags are the same
abbrev pub same_tag : hb_tag_t → hb_tag_t → Bool
same_tag t u = pointwise nat_eq t.0 u.0

-- the first feature by this tag
abbrev pub feature_of : hb_tag_t → Map → Option feature_map_t
feature_of tag m = find (λ f. same_tag f.tag tag) m.features

-- its mask, or 0
abbrev pub mask_of : hb_tag_t → Map → ℕ
mask_of tag m = option_map_or (λ f. f.mask) (feature_of tag m) 0

-- its stage
abbrev pub stage_of : hb_tag_t → Map → Option ℕ
stage_of tag m = option_map (λ f. f.stage) (feature_of tag m)

-- the empty range
abbrev pub no_range : Range ℕ
no_range = record { start = 0; end = 0 }

-- the range of a stage, empty if there is no such stage
abbrev pub range_of : ℕ → Map → Range ℕ
range_of stage m = unwrap_or (slice_get m.stages stage) no_range

-- the range of a tag's stage, empty if there is no feature by it
abbrev pub range_for : hb_tag_t → Map → Range ℕ
range_for tag m = option_map_or (λ stage. range_of stage m) (stage_of tag m) no_range

-- the lookups of a range
abbrev pub lookups_in : Range ℕ → Map → List ℕ
lookups_in r m = take (r.end - r.start) (drop r.start m.lookups)

-- whether one of these lookups would apply to the glyphs
abbrev pub would_one : (ℕ → List GlyphId → Bool → Bool) → List ℕ → List GlyphId → Bool → Bool
would_one applies lookups glyphs zero = list_any (λ lookup. applies lookup glyphs zero) lookups
