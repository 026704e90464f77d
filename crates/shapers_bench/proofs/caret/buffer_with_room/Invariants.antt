use Rattle.std.proofs.Common.{◌≡◌, ◌<◌, [], All, length, take}
use Rattle.rustybuzz_shapers.specs.Glyph.{clusters}
use Rattle.shapers_bench.specs.Words.{word_in}
use Rattle.shapers_bench.proofs.caret.buffer_with_room.Given as goal

-- A glyph for each character so far, whose cluster is a place of the text; no positions.
abbrev pub invariant-loop-place : goal.invariant-loop-place
invariant-loop-place l =
    (l.buffer ≡ word_in l.fn.room (take l.place l.fn.text))
    × ((l.buffer.positions ≡ []) × ((l.buffer.max_len ≡ l.fn.room) × ((length l.buffer.glyphs ≡ l.place)
    × All (λ cluster. cluster < length l.fn.text) (clusters l.buffer.glyphs))))
