-- The law holds, on types and on buffers.
use Rattle.shapers_arabic.proofs.Concatenation.{concatenation}
use Rattle.shapers_arabic.proofs.Together.{glyphs-concatenate}
use Rattle.shapers_arabic.proofs.ot_shaper_arabic.laws.joining_concatenation_law.Goals as goal

pub returns-clause-types : goal.returns-clause-types
returns-clause-types c = concatenation

pub returns-clause-glyphs : goal.returns-clause-glyphs
returns-clause-glyphs c = glyphs-concatenate
