-- What is left to list of the pieces.
use Rattle.std.proofs.Common.{◌+◌, ◌-◌, ◌≤◌, length}
use Rattle.shapers_buffer.proofs.Listing.{Left}
use Rattle.shapers_buffer.specs.ListingWalk.{with_listed}
use Rattle.shapers_universal.specs.UniversalWalk.{syllable_places_in_order}
use Rattle.shapers_universal.proofs.ot_shaper_use.ordering.list_pieces.Given as goal

abbrev pub invariant-loop-front : goal.invariant-loop-front
invariant-loop-front l =
    let gs = l.initial.buffer.glyphs in
    let all = syllable_places_in_order l.start l.start l.end gs in
    record {
      left : Left (syllable_places_in_order l.front l.front l.end gs) l.front
          (with_listed l.start all l.initial.buffer.places) (l.start + length all) l.initial.buffer l.buffer;
      inside : l.front ≤ l.end;
    }

abbrev pub decreases-loop-front : goal.decreases-loop-front
decreases-loop-front l = l.end - l.front
