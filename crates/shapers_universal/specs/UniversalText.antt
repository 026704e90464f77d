-- The dotted circles of the universal shaper.
use Rattle.std.specs.Prelude.{None, Some}
use Rattle.shapers_syllabic.specs.declared.ot_shaper_syllabic.kinds.use_syllable.TheConstants.{BROKEN_CLUSTER}
use Rattle.shapers_syllabic.specs.declared.ot_shaper_syllabic.circles.ScriptCircles.{ScriptCircles}
use Rattle.shapers_universal.specs.declared.ot_shaper_use.category.TheConstants.{B, R}

-- its dotted circles: bases, in syllables of the broken kind, behind their leading rephas
abbrev pub universal_circles : ScriptCircles
universal_circles =
    record { broken_kind = BROKEN_CLUSTER; category = B; repha = Some R; position = None }
