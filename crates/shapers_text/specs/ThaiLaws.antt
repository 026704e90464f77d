-- What the rewriting makes of clusters and glyph flags.
use Rattle.std.specs.Prelude.{ℕ, Bool, ◌+◌, ◌-◌, ◌||◌, ◌≡◌, if◌then◌else◌, true, false, List, ◌∷◌, ◌++◌, map, flat_map, length, ◌<◌}
use Rattle.std.specs.List.{AllZip, Contains, suffix_len}
use Rattle.std.specs.List.Sorted.{IsPermutation}
use Rattle.shapers_buffer.specs.Glyphs.{Glyph, Glyphs}
use Rattle.shapers_buffer.specs.declared.buffer.level.BufferClusterLevel.{BufferClusterLevel}
use Rattle.shapers_buffer.specs.declared.buffer.category.hb_unicode_general_category_t.TheVariants.{Cc}
use Rattle.shapers_buffer.specs.Lists.{before_last_stretch}
use Rattle.shapers_buffer.specs.Glyph.{clusters, plain, without_flags, characters}
use Rattle.shapers_buffer.specs.Clusters.{merge_all, merges}
use Rattle.shapers_clusters.specs.Cuts.{ShareCluster}
use Rattle.shapers_buffer.specs.Places.{pick}
use Rattle.shapers_buffer.specs.Properties.{CONTINUATION, with_general_category, without_property}
use Rattle.shapers_clusters.specs.Flags.{FlagsFall}
use Rattle.shapers_clusters.specs.FlagLaw.{AllFlagsStay}
use Rattle.shapers_clusters.specs.Laws.{ClustersMade}
use Rattle.shapers_text.specs.ThaiForms.{preprocessed_text}
use Rattle.shapers_text.specs.Thai.{is_sara_am, is_above_base, in_parts, glyph_rule, glyphs_in_two, sara_am_sources, sara_am_stretches}

-- where a SARA AM's NIKHAHIT stands behind the text xs: behind what comes of it before its marks
abbrev pub new_place : List ℕ → ℕ
new_place xs = length (sara_am_sources (before_last_stretch is_above_base xs))

-- What the rewriting of the characters us makes of their clusters cs: js. They are the clusters of
-- made glyphs, each that of its source after the merges, with exact cuts; each place is the source
-- of some glyph. At the levels that merge, wherever the text is xs, a SARA AM and ys, the places
-- between its NIKHAHIT and where that stood before its move share one cluster.
pub record ClustersInTwo (level : BufferClusterLevel) (us cs js : List ℕ) : Type 0 where
  pub made : ClustersMade level (sara_am_stretches level us) (sara_am_sources us) cs js
  pub none_lost : (p : ℕ) → p < length us → Contains (sara_am_sources us) p
  pub cluster_law : merges level ≡ true → (xs : List ℕ) (u : ℕ) (ys : List ℕ) → us ≡ xs ++ u ∷ ys →
      is_sara_am u ≡ true →
      ShareCluster js (new_place xs) (new_place xs + suffix_len is_above_base xs)

-- whether it is a SARA AM, or the SARA AA or the NIKHAHIT that comes of one
abbrev pub is_of_sara_am : ℕ → Bool
is_of_sara_am u = is_sara_am u || is_sara_am (u + 1) || is_sara_am (u - 0x1A)

-- a glyph without what the rewriting changes of these: the character, its category (of Cf and Zs
-- with the high byte, which is no class) and the continuation
abbrev pub without_number : Glyph → Glyph
without_number g =
    let other = with_general_category Cc g.unicode_props in
    record g { glyph_id = 0; unicode_props = without_property CONTINUATION other }

abbrev pub without_name : Glyph → Glyph
without_name g = if is_of_sara_am g.glyph_id then without_number g else g

-- What it gives: rs. But for its order it is the merged text with each SARA AM taken in rule. Each
-- glyph is its source after the merges; one of a SARA AM is so in all but character, category and
-- continuation. So no cluster rises, and glyph flags stay unless it fell.
pub record InTwoHolds (level : BufferClusterLevel) (gs rs : Glyphs) : Type 0 where
  pub made : map without_name rs
      ≡ map without_name (pick (sara_am_sources (characters gs))
      (merge_all level (sara_am_stretches level (characters gs)) gs))
  pub kept : IsPermutation (flat_map (in_parts glyph_rule)
      (merge_all level (sara_am_stretches level (characters gs)) gs)) rs
  pub in_clusters : ClustersInTwo level (characters gs) (clusters gs) (clusters rs)
  pub falls : AllZip FlagsFall (pick (sara_am_sources (characters gs)) gs) rs

abbrev pub InTwoLaw : Type 0
InTwoLaw = (level : BufferClusterLevel) (gs : Glyphs) →
    InTwoHolds level gs
    (glyphs_in_two (merge_all level (sara_am_stretches level (characters gs)) gs))

-- The flag law, of each glyph by its source: no cluster rises, and unless it fell, no flag is lost.
abbrev pub FlagsInTwo : Glyphs → Glyphs → Type 0
FlagsInTwo gs rs = AllFlagsStay (pick (sara_am_sources (characters gs)) gs) rs

-- a glyph without what the private use forms change
abbrev pub without_form : Glyph → Glyph
without_form g = record g { glyph_id = 0; mask = without_flags g.mask }

-- The forms change characters and glyph flags alone; so clusters are those of the rewriting.
pub record FormsHold (plain shaped : Glyphs) : Type 0 where
  pub rest_stays : map without_form shaped ≡ map without_form plain
  pub clusters_stay : clusters shaped ≡ clusters plain

abbrev pub FormsLaw : Type 0
FormsLaw = (has : ℕ → Bool) (level : BufferClusterLevel) (gs : Glyphs) →
    FormsHold (preprocessed_text false has level gs) (preprocessed_text true has level gs)

-- the order view, and without the characters, which the forms change
abbrev pub kept_view : Bool → Glyph → Glyph
kept_view false g = plain g
kept_view true g = record (plain g) { glyph_id = 0 }

-- No glyph is lost, and none made but the two parts of each SARA AM: the order view is the old one
-- with these, in some order; where the private use forms follow, but for the characters.
abbrev pub KeptInTwo : Bool → Glyphs → Glyphs → Type 0
KeptInTwo forms gs rs =
    IsPermutation (map (kept_view forms) (flat_map (in_parts glyph_rule) gs))
    (map (kept_view forms) rs)
