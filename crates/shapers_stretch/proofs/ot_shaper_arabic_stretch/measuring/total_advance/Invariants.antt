-- What is left, the sum so far with the sum of that, and the bounds of the sum so far.
use Rattle.std.proofs.Common.{◌≡◌, ◌*◌, ◌-◌, ◌≤◌, map, length, pos, neg_ℤ, ◌+ℤ◌, ◌≤ℤ◌}
use Rattle.std.specs.Slice.Iter.{chunks_rest, chunks_size}
use Rattle.shapers_stretch.specs.Measure.{total}
use Rattle.shapers_stretch.proofs.ot_shaper_arabic_stretch.measuring.total_advance.Given as goal

abbrev pub invariant-loop-piece : goal.invariant-loop-piece
invariant-loop-piece l =
    goal.iterator-loop-piece.can_next l.piece-iterator × goal.iterator-loop-piece.is_finite l.piece-iterator
    × (chunks_size l.piece-iterator ≡ 2147483647) × (length (chunks_rest l.piece-iterator) ≤ length l.word)
    × (l.sum +ℤ total (map (λ p. p.x_advance) (chunks_rest l.piece-iterator)) ≡ total (map (λ p. p.x_advance) l.word))
    × (neg_ℤ (pos (0x8000_0000_0000_0000 * (length l.word - length (chunks_rest l.piece-iterator)))) ≤ℤ l.sum)
    × (l.sum ≤ℤ pos (0x8000_0000_0000_0000 * (length l.word - length (chunks_rest l.piece-iterator))))
