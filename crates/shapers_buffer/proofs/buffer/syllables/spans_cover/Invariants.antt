use Rattle.std.proofs.Common.{◌≡◌, drop}
use Rattle.shapers_buffer.specs.Syllables.{spans_cover}
use Rattle.shapers_buffer.proofs.buffer.syllables.spans_cover.Given as goal

abbrev pub invariant-loop-span : goal.invariant-loop-span
invariant-loop-span l = spans_cover l.rest (drop l.span-index l.spans) ≡ spans_cover l.len l.spans
