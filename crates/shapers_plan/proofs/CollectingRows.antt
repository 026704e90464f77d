-- What is requested for a text, and what a user's features become.
use Rattle.std.specs.Prelude.{◌≡◌, ℕ, false, [], ◌∷◌, ◌++◌, map, length, None, Some, codes, refl}
use Rattle.shapers_buffer.specs.declared.buffer.level.Direction.TheVariants.{LeftToRight, RightToLeft, TopToBottom}
use Rattle.shapers_base.specs.declared.plan.planner.Request.TheVariants.{Feature}
use Rattle.rustybuzz_shapers.specs.declared.shaper.hb_ot_shaper_t.TheVariants.{Hangul, Hebrew, Khmer}
use Rattle.shapers_plan.specs.Collecting.{request_of_user, before_shaper, behind_shaper, requests_for}
use Rattle.shapers_plan.specs.Planning.{range_of_user}
use Rattle.shapers_plan.specs.declared.ot_map.masks.MappedFeature.{MappedFeature}
use Rattle.shapers_plan.specs.declared.ot_shape_plan.user.UserFeature.{UserFeature}
use Rattle.shapers_plan.specs.declared.ot_shape_plan.user.UserRange.{UserRange}

-- of no shaper: 27 in horizontal text, 19 in vertical
of_every_text : map (λ d. length (requests_for None None d false [])) (LeftToRight ∷ RightToLeft ∷ TopToBottom ∷ [])
    ≡ 27 ∷ 27 ∷ 19 ∷ []
of_every_text = refl

-- Khmer has 14 and 2, Hebrew none
of_shapers : map (λ s. length (requests_for (Some s) None LeftToRight false [])) (Khmer ∷ Hebrew ∷ []) ≡ 43 ∷ 27 ∷ []
of_shapers = refl

abbrev user : ℕ → ℕ → ℕ → UserFeature
user value start end = record { tag = record { 0 = codes "salt" }; value = value; start = start; end = end }

-- one for the whole text has the flag, one for a range none
of_user : map request_of_user (user 2 0 4294967295 ∷ user 2 0 9 ∷ user 2 1 4294967295 ∷ [])
    ≡ Feature (record { 0 = codes "salt" }) 1 2 ∷ Feature (record { 0 = codes "salt" }) 0 2
    ∷ Feature (record { 0 = codes "salt" }) 0 2 ∷ []
of_user = refl

-- the shaper's overrides come behind the user's
hangul_last : requests_for (Some Hangul) None LeftToRight false (user 2 0 9 ∷ [])
    ≡ before_shaper LeftToRight ++ Feature (record { 0 = codes "ljmo" }) 0 1 ∷ Feature (record { 0 = codes "vjmo" }) 0 1
    ∷ Feature (record { 0 = codes "tjmo" }) 0 1 ∷ behind_shaper LeftToRight ++ Feature (record { 0 = codes "salt" }) 0 2
    ∷ Feature (record { 0 = codes "calt" }) 1 0 ∷ []
hangul_last = refl

abbrev salt : MappedFeature
salt = record { tag = record { 0 = codes "salt" }; flags = 0; mask = 192; one_mask = 64; default_value = 0; stage = 1 }

abbrev range : ℕ → UserRange
range value = record { mask = 192; value = value; start = 3; end = 9 }

-- a range sets the feature's bits to its value; one that the font lacks, or for the whole text, does nothing
ranges : map (range_of_user (salt ∷ [])) (user 2 3 9 ∷ user 0 3 9 ∷ user 2 0 4294967295 ∷ [])
    ≡ Some (range 128) ∷ Some (range 0) ∷ None ∷ []
ranges = refl

lacking : range_of_user [] (user 2 3 9) ≡ None
lacking = refl
