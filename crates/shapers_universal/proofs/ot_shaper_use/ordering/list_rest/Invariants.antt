-- What is left to list of those that don't go to the front.
use Rattle.std.proofs.Common.{◌+◌, ◌-◌, filter, length}
use Rattle.std.specs.List.{range_with_len}
use Rattle.shapers_buffer.proofs.Listing.{Left}
use Rattle.shapers_buffer.specs.ListingWalk.{with_listed}
use Rattle.shapers_universal.specs.UniversalWalk.{stays_at}
use Rattle.shapers_universal.proofs.ot_shaper_use.ordering.list_rest.Given as goal

abbrev pub invariant-loop-i : goal.invariant-loop-i
invariant-loop-i l =
    let all = filter (stays_at l.initial.buffer.glyphs) (range_with_len l.start (l.end - l.start)) in
    Left (filter (stays_at l.initial.buffer.glyphs) (range_with_len l.i (l.end - l.i))) l.at
    (with_listed l.fn.at all l.initial.buffer.places) (l.fn.at + length all) l.initial.buffer l.buffer
