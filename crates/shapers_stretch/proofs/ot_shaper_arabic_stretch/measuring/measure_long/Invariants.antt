-- What is left, the sums so far with those of that, and the bounds of the sums so far.
use Rattle.std.proofs.Common.{◌≡◌, ◌*◌, ◌+◌, ◌-◌, ◌≤◌, map, length, pos, neg_ℤ, ◌+ℤ◌, ◌≤ℤ◌}
use Rattle.std.specs.List.{AllByRecursion}
use Rattle.std.specs.Slice.Iter.{chunks_rest, chunks_size}
use Rattle.shapers_stretch.specs.Measure.{total}
use Rattle.shapers_stretch.specs.Stretch.{fixed, repeating, width_of}
use Rattle.shapers_stretch.proofs.ot_shaper_arabic_stretch.measuring.measure_long.Given as goal

abbrev pub invariant-loop-piece : goal.invariant-loop-piece
invariant-loop-piece g l =
    let font = g.F.hb_font_t.font l.font in
    let rest = chunks_rest l.piece-iterator in
    (goal.iterator-loop-piece g).can_next l.piece-iterator × (goal.iterator-loop-piece g).is_finite l.piece-iterator
    × (chunks_size l.piece-iterator ≡ 2147483647) × (length rest ≤ length l.tiles)
    × AllByRecursion (λ g. g.glyph_id ≤ 65535) rest
    × (l.fixed +ℤ total (map (width_of font) (fixed rest)) ≡ total (map (width_of font) (fixed l.tiles)))
    × (l.repeating +ℤ total (map (width_of font) (repeating rest)) ≡ total (map (width_of font) (repeating l.tiles)))
    × (l.repeaters + length (repeating rest) ≡ length (repeating l.tiles))
    × (neg_ℤ (pos (9223372036854775808 * (length l.tiles - length rest))) ≤ℤ l.fixed)
    × (l.fixed ≤ℤ pos (9223372036854775808 * (length l.tiles - length rest)))
    × (neg_ℤ (pos (9223372036854775808 * (length l.tiles - length rest))) ≤ℤ l.repeating)
    × (l.repeating ≤ℤ pos (9223372036854775808 * (length l.tiles - length rest)))
