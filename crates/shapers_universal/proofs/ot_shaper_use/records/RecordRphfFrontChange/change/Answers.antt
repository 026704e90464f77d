-- A glyph with the mask.
use Rattle.std.proofs.Common.{◌≡◌, true, rules}
use Rattle.shapers_base.specs.Masks.{has_bits}
use Rattle.shapers_universal.proofs.SyllableWalks.{rphf_next}
use Rattle.shapers_universal.proofs.ot_shaper_use.records.RecordRphfFrontChange.change.Goals as goal

pub returns-then-glyph-self-ne0 : goal.returns-then-glyph-self-ne0
returns-then-glyph-self-ne0 c rest =
    let bits : has_bits c.args.self.now.mask c.args.glyph.now ≡ true = search rules in search rphf_next
