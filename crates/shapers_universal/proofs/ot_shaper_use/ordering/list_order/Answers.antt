-- The first piece, then the others.
use Rattle.std.proofs.Common.{◌≡◌, ◌+◌, ap, arith, ◌∙◌}
use Rattle.shapers_buffer.specs.Clusters.{stretch_of}
use Rattle.shapers_buffer.specs.ListingWalk.{with_listed}
use Rattle.shapers_universal.specs.Universal.{is_universal_halant}
use Rattle.shapers_universal.specs.UniversalWalk.{first_piece_len, piece_places, syllable_places_in_order}
use Rattle.shapers_universal.proofs.UniversalListing.{listed_twice}
use Rattle.shapers_universal.specs.Proved.UniversalPlaces.{calm_places, length-piece, order_first}
use Rattle.shapers_universal.proofs.ot_shaper_use.ordering.list_order.Goals as goal

pub returns : goal.returns
returns c =
    let s = c.args.start in
    let e = c.args.end in
    let behind = c.args.behind in
    let b0 = c.args.buffer.now in
    let gs = b0.glyphs in
    let b1 = c.list_piece.new.buffer in
    let end = behind + c.piece_len.result in
    let len : c.piece_len.result ≡ first_piece_len is_universal_halant (stretch_of behind e gs) =
    c.piece_len.ensures.len ∙ ap (λ xs. first_piece_len is_universal_halant (stretch_of behind e xs)) c.glyphs.ensures
    in
    cc (
      listed_twice s (piece_places s behind end gs) (syllable_places_in_order end end e gs) end b0 b1
          c.list_pieces.new.buffer c.list_piece.ensures
          (omega (
            arith,
            length-piece s behind end gs (omega (arith, c.requires.reph)) (omega arith),
            c.requires.reph,
          ))
          (c.list_pieces.ensures ∙ ap (λ xs. ((record b1 {
            places = with_listed end (syllable_places_in_order end end e xs) b1.places;
          }))) (ap (λ b. b.glyphs) c.list_piece.ensures)),
      order_first s behind e end gs (omega (arith, c.requires.reph)) c.requires.inside c.requires.in_order
          c.requires.in_range
          (calm_places s e behind gs (omega (arith, c.requires.in_order)) c.requires.in_range c.requires.reph)
          (ap (λ k. behind + k) len),
    )
