-- Constants by their numbers: categories, positions, feature flags.
use Rattle.std.specs.Prelude.{◌≡◌, [], ◌∷◌, refl}
use Rattle.shapers_base.specs.declared.map.TheConstants as feature
use Rattle.shapers_base.specs.declared.plan.ot_category_t.TheConstants as ot
use Rattle.shapers_base.specs.declared.plan.ot_position_t.TheConstants as pos

-- the categories of the Indic, Khmer and Myanmar shapers
ot_category_t : ot.OT_X ∷ ot.OT_C ∷ ot.OT_V ∷ ot.OT_N ∷ ot.OT_H ∷ ot.OT_ZWNJ ∷ ot.OT_ZWJ ∷ ot.OT_M ∷ ot.OT_SM ∷ ot.OT_A
    ∷ ot.OT_VD ∷ ot.OT_PLACEHOLDER ∷ ot.OT_GB ∷ ot.OT_DOTTEDCIRCLE ∷ ot.OT_RS ∷ ot.OT_MPst ∷ ot.OT_Repha ∷ ot.OT_Ra
    ∷ ot.OT_CM ∷ ot.OT_Symbol ∷ ot.OT_CS ∷ ot.OT_VAbv ∷ ot.OT_VBlw ∷ ot.OT_VPre ∷ ot.OT_VPst ∷ ot.OT_Robatic
    ∷ ot.OT_Xgroup ∷ ot.OT_Ygroup ∷ ot.OT_As ∷ ot.OT_MH ∷ ot.OT_MR ∷ ot.OT_MW ∷ ot.OT_MY ∷ ot.OT_PT ∷ ot.OT_VS
    ∷ ot.OT_ML ∷ ot.IV ∷ [] ≡ 0 ∷ 1 ∷ 2 ∷ 3 ∷ 4 ∷ 5 ∷ 6 ∷ 7 ∷ 8 ∷ 9 ∷ 9 ∷ 10 ∷ 10 ∷ 11 ∷ 12 ∷ 13 ∷ 14 ∷ 15 ∷ 16 ∷ 17
    ∷ 18 ∷ 20 ∷ 21 ∷ 22 ∷ 23 ∷ 25 ∷ 26 ∷ 27 ∷ 32 ∷ 35 ∷ 36 ∷ 37 ∷ 38 ∷ 39 ∷ 40 ∷ 41 ∷ 2 ∷ []
ot_category_t = refl

-- the positions in an Indic syllable
ot_position_t : pos.POS_START ∷ pos.POS_RA_TO_BECOME_REPH ∷ pos.POS_PRE_M ∷ pos.POS_PRE_C ∷ pos.POS_BASE_C
    ∷ pos.POS_AFTER_MAIN ∷ pos.POS_ABOVE_C ∷ pos.POS_BEFORE_SUB ∷ pos.POS_BELOW_C ∷ pos.POS_AFTER_SUB
    ∷ pos.POS_BEFORE_POST ∷ pos.POS_POST_C ∷ pos.POS_AFTER_POST ∷ pos.POS_SMVD ∷ pos.POS_END ∷ [] ≡ 0 ∷ 1 ∷ 2 ∷ 3 ∷ 4
    ∷ 5 ∷ 6 ∷ 7 ∷ 8 ∷ 9 ∷ 10 ∷ 11 ∷ 12 ∷ 13 ∷ 14 ∷ []
ot_position_t = refl

-- what a shaper asks of a feature
feature_flags : feature.F_NONE ∷ feature.F_GLOBAL ∷ feature.F_HAS_FALLBACK ∷ feature.F_MANUAL_ZWNJ
    ∷ feature.F_MANUAL_ZWJ ∷ feature.F_MANUAL_JOINERS ∷ feature.F_PER_SYLLABLE ∷ [] ≡ 0 ∷ 1 ∷ 2 ∷ 4 ∷ 8 ∷ 12 ∷ 64 ∷ []
feature_flags = refl
