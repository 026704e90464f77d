-- The byte changes no cluster, so the least is that of the syllable.
use Rattle.std.proofs.Common.{arith}
use Rattle.std.proofs.lemmas.Simd.{map-map}
use Rattle.shapers_buffer.specs.GlyphFlags.{with_bits_off}
use Rattle.shapers_buffer.specs.Syllables.{in_syllable}
use Rattle.shapers_syllabic.proofs.ot_shaper_syllabic.setup.setup_span.Goals as goal

pub returns : goal.returns
returns c =
    let gs = c.args.glyphs.now in
    let byte = in_syllable c.args.byte in
    search (arith, map-map (with_bits_off 3 c.least_cluster-least.result) byte gs, map-map (λ g. g.cluster) byte gs)
