use Rattle.std.proofs.Common.{◌≡◌, ◌<◌, [], All, length}
use Rattle.rustybuzz_shapers.specs.Glyph.{clusters}
use Rattle.shapers_bench.proofs.calling.buffer_of.Given as goal

-- The buffer has no positions, and each cluster in it is a place of the text.
abbrev pub invariant-loop-place : goal.invariant-loop-place
invariant-loop-place l = (l.buffer.positions ≡ [])
    × All (λ cluster. cluster < length l.fn.text) (clusters l.buffer.glyphs)
