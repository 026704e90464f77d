-- So many copies are laid, and the others can be.
use Rattle.std.proofs.Common.{◌≡◌, ◌-◌, length, replicate}
use Rattle.std.specs.List.{zip}
use Rattle.shapers_stretch.specs.CountingWalk.{IsNumber}
use Rattle.shapers_stretch.specs.LayingWalk.{CanLay, Lays}
use Rattle.shapers_stretch.specs.Stretch.{Copy}
use Rattle.shapers_stretch.proofs.ot_shaper_arabic_stretch.tiles.lay_copies.Given as goal

abbrev pub invariant-loop : goal.invariant-loop
invariant-loop l =
    let copy : Copy = record { tile = (l.tile.glyph, l.tile.position); move = l.step } in
    record {
      both : length l.glyphs ≡ length l.positions;
      same_length : length l.glyphs ≡ length l.initial.glyphs;
      near : IsNumber l.pen.at;
      can : CanLay l.right_to_left (replicate (l.count - l.counter) copy) l.pen l.glyphs l.positions;
      lays : Lays l.right_to_left (replicate l.counter copy) l.initial.pen l.pen
          (zip l.initial.glyphs l.initial.positions) (zip l.glyphs l.positions);
    }
