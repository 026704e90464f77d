-- Lists in order, and requests joined by tag, on small ones.
use Prim.Native.String.{String}
use Rattle.std.specs.Prelude.{◌≡◌, ◌+◌, ℕ, Bool, true, false, List, [], ◌∷◌, codes, refl}
use Rattle.shapers_base.specs.declared.plan.planner.Request.TheVariants.{Feature}
use Rattle.shapers_base.specs.Planner.{added, bare_pause, disabled, enabled}
use Rattle.shapers_plan.specs.Ordered.{put_all_in_order}
use Rattle.shapers_plan.specs.Requests.{infos_after, joined_by_tag}
use Rattle.shapers_plan.specs.declared.ot_map.requests.FeatureInfo.{FeatureInfo}

-- pairs in the order of their first numbers, the second numbers of one first number added up
abbrev in_order : List (ℕ × ℕ) → List (ℕ × ℕ) → List (ℕ × ℕ)
in_order xs more = put_all_in_order (λ p. p.0) (λ p q. (p.0, p.1 + q.1)) xs more

each_once : in_order [] ((3, 1) ∷ (1, 1) ∷ (3, 5) ∷ (2, 1) ∷ []) ≡ (1, 1) ∷ (2, 1) ∷ (3, 6) ∷ []
each_once = refl

before_all : in_order ((2, 1) ∷ []) ((1, 4) ∷ []) ≡ (1, 4) ∷ (2, 1) ∷ []
before_all = refl

abbrev info : String → ℕ → Bool → Bool → ℕ → ℕ → ℕ → FeatureInfo
info tag flags is_global has_fallback max_value default_value stage =
    record {
      tag = record { 0 = codes tag };
      flags = flags;
      is_global = is_global;
      has_fallback = has_fallback;
      max_value = max_value;
      default_value = default_value;
      stage = stage;
    }

-- a feature for the whole text has its value everywhere, another one nowhere; each stands behind the pauses before it
by_stage : infos_after 0 (enabled 0 "rvrn" ∷ bare_pause ∷ added 0 "frac" ∷ [])
    ≡ info "rvrn" 1 true false 1 1 0 ∷ info "frac" 0 false false 1 0 1 ∷ []
by_stage = refl

-- tags come in the order of their bytes, capitals first
tags_in_order : joined_by_tag (enabled 0 "rlig" ∷ enabled 0 "abvm" ∷ enabled 0 "Harf" ∷ [])
    ≡ info "Harf" 1 true false 1 1 0 ∷ info "abvm" 1 true false 1 1 0 ∷ info "rlig" 1 true false 1 1 0 ∷ []
tags_in_order = refl

-- a shaper that turns a feature off has the last word; the first stage and the first flags stay
turned_off : joined_by_tag (enabled 8 "liga" ∷ bare_pause ∷ disabled "liga" ∷ []) ≡ info "liga" 9 true false 0 0 0 ∷ []
turned_off = refl

-- a range of the user's takes bits of its own, as many as the greater value needs; elsewhere the first value stays
ranged_after : joined_by_tag (enabled 0 "salt" ∷ Feature (record { 0 = codes "salt" }) 0 3 ∷ [])
    ≡ info "salt" 1 false false 3 1 0 ∷ []
ranged_after = refl

ranged_before : joined_by_tag (Feature (record { 0 = codes "salt" }) 0 3 ∷ enabled 0 "salt" ∷ [])
    ≡ info "salt" 0 true false 1 1 0 ∷ []
ranged_before = refl

-- a fallback of any request counts
any_fallback : joined_by_tag (added 0 "isol" ∷ added 2 "isol" ∷ []) ≡ info "isol" 0 false true 1 0 0 ∷ []
any_fallback = refl
