-- Bits of features, on small lists.
use Prim.Native.String.{String}
use Rattle.std.specs.Prelude.{◌≡◌, ◌||◌, ℕ, nat_eq, Bool, true, false, [], ◌∷◌, map, None, Some, codes, refl, if◌then◌else◌}
use Rattle.std.specs.Cmp.Lexicographic.{pointwise}
use Rattle.shapers_buffer.specs.declared.buffer.tag.hb_tag_t.{hb_tag_t}
use Rattle.shapers_plan.specs.FontFeatures.{FontTables}
use Rattle.shapers_plan.specs.Masks.{bit_count, global_mask, is_mapped, lookups_of, mapped, value_in}
use Rattle.shapers_base.specs.declared.map.TableIndex.TheVariants.{GSUB}
use Rattle.shapers_plan.specs.declared.ot_map.masks.MappedFeature.{MappedFeature}
use Rattle.shapers_plan.specs.declared.ot_map.masks.TheConstants.{F_GLOBAL_SEARCH, F_RANDOM}
use Rattle.shapers_plan.specs.declared.ot_map.requests.FeatureInfo.{FeatureInfo}

-- the flags of a request, by the bits of HarfBuzz's hb_ot_map_feature_flags_t
global_search_flag : F_GLOBAL_SEARCH ≡ 0x10
global_search_flag = refl

random_flag : F_RANDOM ≡ 0x20
random_flag = refl

abbrev is_tag : String → hb_tag_t → Bool
is_tag tag t = pointwise nat_eq t.0 (codes tag)

-- a font whose script has every feature but salt and vert; vert is another script's
abbrev font : FontTables
font = record {
  there = λ _. true;
  chosen = λ _. None;
  found = λ _. false;
  lookups = λ _ t. if is_tag "salt" t
      || is_tag "vert" t then None else Some (7 ∷ []);
  anywhere =
      λ _ t. if is_tag "vert" t then Some (9 ∷ []) else None;
  required = λ _. None;
  required_lookups = λ _. [];
}

abbrev info : String → ℕ → Bool → Bool → ℕ → ℕ → FeatureInfo
info tag flags is_global has_fallback max_value default_value =
    record {
      tag = record { 0 = codes tag };
      flags = flags;
      is_global = is_global;
      has_fallback = has_fallback;
      max_value = max_value;
      default_value = default_value;
      stage = 1;
    }

abbrev feature : String → ℕ → ℕ → ℕ → ℕ → MappedFeature
feature tag flags mask one_mask default_value =
    record {
      tag = record { 0 = codes tag };
      flags = flags;
      mask = mask;
      one_mask = one_mask;
      default_value =
          default_value;
      stage = 1;
    }

-- none of its own for a feature of the whole text; else as many as the value has, and at most 8
bits_of_values : map (λ i. bit_count i) (info "liga" 1 true false 1 1 ∷ info "frac" 0 false false 1 0
    ∷ info "aalt" 1 true false 2 2 ∷ info "rand" 1 true false 255 255 ∷ info "aalt" 0 false false 1000 0 ∷ [])
    ≡ 0 ∷ 1 ∷ 2 ∷ 8 ∷ 8 ∷ []
unfolding lib.Count.count_leading_zeros
bits_of_values = refl

-- bits follow one another from the fifth on; the highest is shared
consecutive : mapped font (info "aalt" 0 false false 3 0 ∷ info "frac" 0 false false 1 0 ∷ info "liga" 1 true false 1 1
    ∷ info "numr" 0 false false 1 0 ∷ [])
    ≡ feature "aalt" 0 48 16 0 ∷ feature "frac" 0 64 64 0 ∷ feature "liga" 1 2147483648 2147483648 1
    ∷ feature "numr" 0 128 128 0 ∷ []
unfolding lib.Count.count_leading_zeros
consecutive = refl

-- what is off or lacking takes none, what has a fallback does
lacking : mapped font (info "frac" 1 true false 0 0 ∷ info "salt" 0 false false 1 0 ∷ info "numr" 0 false false 1 0
    ∷ [])
    ≡ feature "numr" 0 16 16 0 ∷ []
unfolding lib.Count.count_leading_zeros
lacking = refl

with_fallback : mapped font (info "salt" 0 false true 1 0 ∷ []) ≡ feature "salt" 0 16 16 0 ∷ []
unfolding lib.Count.count_leading_zeros
with_fallback = refl

-- the last bit that can be given is the 30th; the highest needs no room
room : map (λ next. is_mapped font next (info "frac" 0 false false 1 0)) (4 ∷ 29 ∷ 30 ∷ []) ≡ true ∷ true ∷ false ∷ []
unfolding lib.Count.count_leading_zeros
room = refl

shared_room : is_mapped font 30 (info "liga" 1 true false 1 1) ≡ true
shared_room = refl

-- a feature of any script serves where the request says so
anywhere : map (λ flags. lookups_of font GSUB (record { 0 = codes "vert" }) flags) (1 ∷ 17 ∷ [])
    ≡ None ∷ Some (9 ∷ []) ∷ []
anywhere = refl

-- values in the two bits from the seventh on; what doesn't fit is cut off
values : map (value_in (feature "aalt" 0 192 64 0)) (0 ∷ 1 ∷ 3 ∷ 5 ∷ []) ≡ 0 ∷ 64 ∷ 192 ∷ 64 ∷ []
values = refl

everywhere : global_mask (feature "aalt" 1 192 64 2 ∷ feature "frac" 0 256 256 0
    ∷ feature "liga" 1 2147483648 2147483648 1 ∷ [])
    ≡ 2147483776
everywhere = refl
