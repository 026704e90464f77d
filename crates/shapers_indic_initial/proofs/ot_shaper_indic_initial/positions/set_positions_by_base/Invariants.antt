-- The glyphs that are done, and what becomes of the rest.
use Rattle.std.proofs.Common.{◌≡◌, ◌++◌, take, drop}
use Rattle.shapers_indic_initial.proofs.Walks.{walked}
use Rattle.shapers_indic_initial.proofs.Positions.{base_step}
use Rattle.shapers_indic_initial.proofs.ot_shaper_indic_initial.positions.set_positions_by_base.Given as goal

abbrev pub invariant-loop-place : goal.invariant-loop-place
invariant-loop-place l = take l.place l.glyphs ++ walked (base_step l.base.place l.base.has_reph) l.place (drop l.place l.glyphs)
    ≡ walked (base_step l.base.place l.base.has_reph) 0 l.initial.glyphs
