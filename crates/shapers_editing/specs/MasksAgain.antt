-- Setting masks a second time.
use Rattle.std.specs.Prelude.{◌≡◌}
use Rattle.shapers_base.specs.declared.plan.hb_ot_shape_plan_t.{hb_ot_shape_plan_t}
use Rattle.shapers_base.specs.Font.{CharacterTables}
use Rattle.shapers_buffer.specs.Buffer.{Buffer}
use Rattle.rustybuzz_shapers.specs.Hooks.{MasksSet}
use Rattle.rustybuzz_shapers.specs.declared.shaper.hb_ot_shaper_t.{hb_ot_shaper_t}

-- what each shaper leaves when masks are set stays when they are set again at once, with the same
-- plan and tables
abbrev pub MasksSetOnce : Type 0
MasksSetOnce = (shaper : hb_ot_shaper_t) (plan : hb_ot_shape_plan_t) (tables : CharacterTables)
    (old mid new : Buffer) → MasksSet shaper plan tables old mid →
    MasksSet shaper plan tables mid new → new ≡ mid
