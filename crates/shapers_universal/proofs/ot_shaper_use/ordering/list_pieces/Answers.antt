-- One piece more.
use Rattle.std.proofs.Common.{◌≡◌, ◌+◌, ap, arith, ◌∙◌}
use Rattle.shapers_buffer.proofs.Listing.{left_as}
use Rattle.shapers_buffer.specs.Buffer.{Buffer}
use Rattle.shapers_buffer.specs.Clusters.{stretch_of}
use Rattle.shapers_buffer.specs.ListingWalk.{with_listed}
use Rattle.shapers_universal.specs.Universal.{is_universal_halant}
use Rattle.shapers_universal.specs.UniversalWalk.{first_piece_len, piece_places, syllable_places_in_order}
use Rattle.shapers_universal.proofs.UniversalListing.{left_ends, left_part, same_when_placed}
use Rattle.shapers_universal.specs.Proved.UniversalPlaces.{calm_nothing, length-piece, order_first, order_none}
use Rattle.shapers_universal.proofs.ot_shaper_use.ordering.list_pieces.Goals as goal

pub loop-front-init : goal.loop-front-init
loop-front-init = search arith

pub loop-front-preserved : goal.loop-front-preserved
loop-front-preserved c =
    let l = c.loop-front in
    let e = c.args.end in
    let b0 = c.args.buffer.now in
    let gs = b0.glyphs in
    let same = same_when_placed b0 l.buffer l.invariant.left.others in
    let end = l.front + c.piece_len.result in
    let len : c.piece_len.result ≡ first_piece_len is_universal_halant (stretch_of l.front e gs) =
    c.piece_len.ensures.len ∙ ap (λ xs. first_piece_len is_universal_halant (stretch_of l.front e xs))
    (c.glyphs.ensures ∙ same) in
    let first = order_first l.front l.front e end gs (omega arith) l.invariant.inside c.loop-front-test.true
    c.requires.in_range (calm_nothing l.front gs) (ap (λ k. l.front + k) len) in
    search (
      arith,
      left_part (piece_places l.front l.front end gs) (syllable_places_in_order end end e gs) l.front end _ _ b0
          l.buffer c.list_piece.new.buffer (left_as _ _ l.front _ _ b0 l.buffer first l.invariant.left)
          (c.list_piece.ensures ∙ ap (λ xs. (let r : Buffer = record l.buffer {
            places = with_listed l.front (piece_places l.front l.front end xs) l.buffer.places;
          } in r)) same) (omega (arith, length-piece l.front l.front end gs (omega arith) (omega arith))),
    )

pub returns : goal.returns
returns c =
    let l = c.loop-front in
    (left_ends _ l.front _ _ c.args.buffer.now l.buffer
    (order_none l.front c.args.end c.args.buffer.now.glyphs (omega arith)) l.invariant.left).0
