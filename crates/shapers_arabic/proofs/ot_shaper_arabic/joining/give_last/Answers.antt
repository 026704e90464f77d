-- Without a letter before, only flags.
use Rattle.std.proofs.Common.{refl, arith}
use Rattle.shapers_buffer.specs.Buffer.{has_flag}
use Rattle.shapers_clusters.proofs.FlagCalls.{map-unsafe_to_concat_in}
use Rattle.shapers_arabic.proofs.FlaggedGlyphs.{flagged-concat}
use Rattle.shapers_arabic.proofs.ot_shaper_arabic.joining.give_last.Goals as goal

pub returns-in-None-clause-flagged : goal.returns-in-None-clause-flagged
returns-in-None-clause-flagged c = search (
  arith,
  flagged-concat c.args.flags 0 c.args.end c.args.glyphs.now c.flag_concat.new.glyphs c.flag_concat.ensures,
)

pub returns-in-None-clause-forms : goal.returns-in-None-clause-forms
returns-in-None-clause-forms c =
    cc (map-unsafe_to_concat_in (λ g. g.auxiliary) (λ g. refl) (has_flag 0x40 c.args.flags) 0 c.args.end
    c.args.glyphs.now (omega arith))
