-- Flags of graphemes that begin with ZWNJ are only added.
use Rattle.std.proofs.Common.{Bool, true, false, [], ◌∷◌, refl}
use Rattle.shapers_base.specs.declared.plan.breaks.BreakFlags.{BreakFlags}
use Rattle.shapers_base.specs.declared.plan.breaks.BreakFlags.TheVariants.{AsCode, Sound}
use Rattle.shapers_buffer.specs.Glyphs.{Glyph, Glyphs}
use Rattle.shapers_clusters.specs.FlagLaw.{FlagsAdded, OnlyFlagsAdded}
use Rattle.shapers_clusters.proofs.FlagCalls.{keeps-with_bits}
use Rattle.shapers_clusters.proofs.FlagLaw.{added_same}
use Rattle.shapers_prepare.specs.JoinerFlags.{begins_with_zwnj, flagged_if_zwnj, zwnj_flagged, zwnj_flagged_behind}

flagged_added : (begins : Bool) (g : Glyph) → FlagsAdded g (flagged_if_zwnj begins g)
flagged_added true g = record { same = refl; kept = λ k low. keeps-with_bits 3 g k }
flagged_added false g = added_same g g refl refl

behind_added : (before : Bool) (gs : Glyphs) → OnlyFlagsAdded gs (zwnj_flagged_behind before gs)
behind_added before [] = tt
behind_added before (g ∷ gs) =
    let begins = begins_with_zwnj before g in
    (flagged_added begins g, behind_added begins gs)

none_added : (gs : Glyphs) → OnlyFlagsAdded gs gs
none_added [] = tt
none_added (g ∷ gs) = (flagged_added false g, none_added gs)

pub zwnj_flags_added : (breaks : BreakFlags) (gs : Glyphs) → OnlyFlagsAdded gs (zwnj_flagged breaks gs)
zwnj_flags_added AsCode gs = none_added gs
zwnj_flags_added Sound gs = behind_added false gs
