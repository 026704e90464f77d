-- What is left to list of the reph and what it passes.
use Rattle.std.proofs.Common.{◌+◌, ◌-◌, ◌≤◌, ◌++◌, ◌∷◌, [], length, suc}
use Rattle.std.specs.List.{range_with_len}
use Rattle.shapers_buffer.proofs.Listing.{Left}
use Rattle.shapers_buffer.specs.Lists.{first_last}
use Rattle.shapers_buffer.specs.ListingWalk.{with_listed}
use Rattle.shapers_universal.proofs.ot_shaper_use.ordering.list_reph.Given as goal

abbrev pub invariant-loop-i : goal.invariant-loop-i
invariant-loop-i l =
    let all = first_last (range_with_len l.start (l.behind - l.start)) in
    record {
      left : Left (range_with_len l.i (l.behind - l.i) ++ l.start ∷ []) l.at
          (with_listed l.fn.at all l.initial.buffer.places) (l.fn.at + length all) l.initial.buffer l.buffer;
      from : suc l.start ≤ l.i;
      within : l.i ≤ l.behind;
    }
