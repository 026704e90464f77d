-- Words after single substitutions.
use Rattle.std.specs.Prelude.{◌≡◌, List, [], ◌∷◌, None}
use Rattle.shapers_base.specs.Font.{Font}
use Rattle.shapers_base.specs.declared.plan.hb_ot_shape_plan_t.{hb_ot_shape_plan_t}
use Rattle.shapers_buffer.specs.Buffer.{Buffer}
use Rattle.shapers_plan.specs.declared.ot_map.lookups.Stage.{Stage}
use Rattle.shapers_plan.specs.Stages.{applied_always}
use Rattle.shapers_pipeline.specs.Singles.{singles_applied}
use Rattle.shapers_pipeline.specs.Stages.{Substitution}
use Rattle.shapers_pipeline.specs.declared.singles.Single.{Single}

-- a stage of one lookup with nothing behind it
abbrev pub one_stage : List Stage
one_stage = record { start = 0; end = 1; pause = None } ∷ []

-- what it reads, where the lookup is a font's first one and applies to each glyph
abbrev pub substituting : hb_ot_shape_plan_t → Font → List Single → Substitution
substituting plan font singles = record {
  plan = plan;
  font = font;
  substituted = singles_applied singles;
  list = applied_always ∷ [];
}

-- the buffer before and after the substitutions
abbrev pub SubstitutedBy : List Single → Buffer → Buffer → Type 0
SubstitutedBy singles old new = new ≡ singles_applied singles applied_always old
