-- The law holds, on types and on buffers.
use Rattle.shapers_arabic.proofs.Edited.{glyphs-stay_near}
use Rattle.shapers_arabic.proofs.Edits.{edits-stay_near}
use Rattle.shapers_arabic.proofs.ot_shaper_arabic.laws.joining_edits_law.Goals as goal

pub returns-clause-types : goal.returns-clause-types
returns-clause-types c = edits-stay_near

pub returns-clause-glyphs : goal.returns-clause-glyphs
returns-clause-glyphs c = glyphs-stay_near
