-- What is left to list.
use Rattle.std.proofs.Common.{◌+◌, [], filter, length, map}
use Rattle.shapers_buffer.proofs.Listing.{Left}
use Rattle.shapers_buffer.specs.ListingWalk.{with_listed}
use Rattle.shapers_buffer.specs.Placements.{old_place_by_all, placed_by_all}
use Rattle.shapers_indic.specs.Glyphs.{places}
use Rattle.shapers_indic_final.specs.FinalMoveWalk.{matra_placements}
use Rattle.shapers_indic_final.specs.LeftMatraWalk.{is_listed}
use Rattle.shapers_indic_final.proofs.ot_shaper_indic_final.left_matras.list_places.Given as goal

abbrev pub invariant-loop-k : goal.invariant-loop-k
invariant-loop-k l =
    let gs = placed_by_all (matra_placements l.start l.matra l.target) l.start l.end [] l.fn.buffer.glyphs in
    let t = is_listed l.gone l.start (l.start + l.matra) gs in
    let from = map (old_place_by_all (matra_placements l.start l.matra l.target) l.start l.end []) in
    let all = filter t (places l.from l.to) in
    Left (from (filter t (places l.k l.to))) l.at (with_listed l.fn.at (from all) l.fn.buffer.places)
    (l.fn.at + length (from all)) l.fn.buffer l.buffer
