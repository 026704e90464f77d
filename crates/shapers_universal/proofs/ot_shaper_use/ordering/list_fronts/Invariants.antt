-- What is left to list of those that go to the front.
use Rattle.std.proofs.Common.{◌+◌, ◌-◌, ◌≤◌, filter, length, reverse}
use Rattle.std.specs.List.{range_with_len}
use Rattle.shapers_buffer.proofs.Listing.{Left}
use Rattle.shapers_buffer.specs.ListingWalk.{with_listed}
use Rattle.shapers_universal.specs.Universal.{goes_front_at}
use Rattle.shapers_universal.proofs.ot_shaper_use.ordering.list_fronts.Given as goal

abbrev pub invariant-loop-i : goal.invariant-loop-i
invariant-loop-i l =
    let t = goes_front_at l.initial.buffer.glyphs in
    let all = reverse (filter t (range_with_len l.behind (l.end - l.behind))) in
    record {
      left : Left (reverse (filter t (range_with_len l.behind (l.i - l.behind)))) l.at
          (with_listed l.fn.start all l.initial.buffer.places) (l.fn.start + length all) l.initial.buffer l.buffer;
      from : l.behind ≤ l.i;
      within : l.i ≤ l.end;
      room : l.at + (l.i - l.behind) ≤ l.end;
    }
