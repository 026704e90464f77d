-- One place more, which is listed or not.
use Rattle.std.proofs.Common.{◌≡◌, ◌+◌, true, [], filter, length, map, sym, ap, subst, ◌∙◌, arith}
use Rattle.std.proofs.lemmas.List.{length-map}
use Rattle.shapers_buffer.specs.Buffer.{Buffer}
use Rattle.shapers_buffer.specs.ListingWalk.{with_listed}
use Rattle.shapers_buffer.specs.Places.{with_place}
use Rattle.shapers_buffer.specs.Placements.{MayArrange, old_place_by_all, placed_by_all}
use Rattle.shapers_buffer.proofs.Listing.{left_one}
use Rattle.shapers_indic.specs.Glyphs.{places}
use Rattle.shapers_indic_final.specs.FinalMoveWalk.{matra_placements}
use Rattle.shapers_indic_final.specs.LeftMatraWalk.{is_listed}
use Rattle.shapers_indic_final.proofs.FinalArranged.{matra_fits}
use Rattle.shapers_indic_final.proofs.LeftMatraListing.{listed_next, listed_past}
use Rattle.shapers_indic_final.proofs.ot_shaper_indic_final.left_matras.list_places.Goals as goal
use Rattle.shapers_indic_final.proofs.ot_shaper_indic_final.left_matras.list_places.Goals.{then-is_listed, else-is_listed}

pub arranged-requires : goal.arranged-requires
arranged-requires c =
    let a = c.args in
    let l = c.loop-k in
    let same = ap (λ (b : Buffer). length b.glyphs) l.invariant.others in
    subst (λ ps. MayArrange ps a.start a.end (length l.buffer.glyphs) l.buffer.places) (sym c.matra_placements-moves.ensures)
    (matra_fits a.start a.end (length l.buffer.glyphs) a.matra a.target l.buffer.places c.requires.before c.requires.inside
    (omega arith))

pub arranged_place-place-requires-clause-arranges : goal.arranged_place-place-requires-clause-arranges
arranged_place-place-requires-clause-arranges c =
    let a = c.args in
    let l = c.loop-k in
    let same = ap (λ (b : Buffer). length b.glyphs) l.invariant.others in
    subst (λ ps. MayArrange ps a.start a.end (length l.buffer.glyphs) l.buffer.places) (sym c.matra_placements-moves.ensures)
    (matra_fits a.start a.end (length l.buffer.glyphs) a.matra a.target l.buffer.places c.requires.before c.requires.inside
    (omega arith))

pub set_place-requires : goal.set_place-requires
set_place-requires c =
    let a = c.args in
    let l = c.loop-k in
    let m = matra_placements a.start a.matra a.target in
    let gs = placed_by_all m a.start a.end [] a.buffer.now.glyphs in
    let t = is_listed a.gone a.start (a.start + a.matra) gs in
    let old = old_place_by_all m a.start a.end [] in
    let all = filter t (places a.from a.to) in
    let text : c.arranged.result ≡ gs = c.arranged.ensures.text
    ∙ ap (λ ps. placed_by_all ps a.start a.end l.buffer.places l.buffer.glyphs) c.matra_placements-moves.ensures
    ∙ ap (λ (b : Buffer). placed_by_all m a.start a.end [] b.glyphs) l.invariant.others in
    let here : t l.k ≡ true = sym (ap (λ gs. is_listed a.gone a.start (a.start + a.matra) gs l.k) text) ∙ sym c.is_listed.ensures
    ∙ c.if-is_listed.true in
    let left = listed_next t old l.k a.to l.at _ _ a.buffer.now l.buffer c.loop-k-test.true here l.invariant in
    let n = left.counted in
    let same = ap (λ (b : Buffer). length b.glyphs) l.invariant.others in
    let many : length (map old all) ≡ length all = length-map all old in
    omega (arith, c.requires.room)

pub overflow_add-at : goal.overflow_add-at
overflow_add-at c =
    let a = c.args in
    let l = c.loop-k in
    let m = matra_placements a.start a.matra a.target in
    let gs = placed_by_all m a.start a.end [] a.buffer.now.glyphs in
    let t = is_listed a.gone a.start (a.start + a.matra) gs in
    let old = old_place_by_all m a.start a.end [] in
    let all = filter t (places a.from a.to) in
    let text : c.arranged.result ≡ gs = c.arranged.ensures.text
    ∙ ap (λ ps. placed_by_all ps a.start a.end l.buffer.places l.buffer.glyphs) c.matra_placements-moves.ensures
    ∙ ap (λ (b : Buffer). placed_by_all m a.start a.end [] b.glyphs) l.invariant.others in
    let here : t l.k ≡ true = sym (ap (λ gs. is_listed a.gone a.start (a.start + a.matra) gs l.k) text) ∙ sym c.is_listed.ensures
    ∙ c.if-is_listed.true in
    let left = listed_next t old l.k a.to l.at _ _ a.buffer.now l.buffer c.loop-k-test.true here l.invariant in
    let n = left.counted in
    let many : length (map old all) ≡ length all = length-map all old in
    omega (arith, c.requires.room)

pub loop-k-preserved : goal.loop-k-preserved
loop-k-preserved c =
    let a = c.args in
    let l = c.loop-k in
    let b0 = a.buffer.now in
    let m = matra_placements a.start a.matra a.target in
    let gs = placed_by_all m a.start a.end [] b0.glyphs in
    let t = is_listed a.gone a.start (a.start + a.matra) gs in
    let old = old_place_by_all m a.start a.end [] in
    let from = map old (filter t (places a.from a.to)) in
    let whole = with_listed a.at from b0.places in
    let end = a.at + length from in
    let text : c.arranged.result ≡ gs = c.arranged.ensures.text
    ∙ ap (λ ps. placed_by_all ps a.start a.end l.buffer.places l.buffer.glyphs) c.matra_placements-moves.ensures
    ∙ ap (λ (b : Buffer). placed_by_all m a.start a.end [] b.glyphs) l.invariant.others in
    let read : c.is_listed.result ≡ t l.k = c.is_listed.ensures
    ∙ ap (λ gs. is_listed a.gone a.start (a.start + a.matra) gs l.k) text in
    elim c.if-is_listed.branch [
      | then-is_listed w ↦
          let left = listed_next t old l.k a.to l.at whole end b0 l.buffer c.loop-k-test.true (sym read
          ∙ w.if-is_listed.true) l.invariant in
          let place = w.arranged_place-place.ensures.place
          ∙ ap (λ ps. old_place_by_all ps a.start a.end l.buffer.places l.k) c.matra_placements-moves.ensures in
          let written = w.set_place.ensures
          ∙ ap (λ q. let y : Buffer = record l.buffer { places = with_place l.at q l.buffer.places } in y) place in
          rw w.at-is (left_one (old l.k) _ l.at whole end b0 l.buffer c.if-is_listed.buffer left (w.buffer-is ∙ written))
      | else-is_listed w ↦
          rw (w.at-is, w.buffer-is) (listed_past t old l.k a.to l.at whole end b0 l.buffer c.loop-k-test.true (sym read
          ∙ w.if-is_listed.false) l.invariant)
    ]

pub returns-clause-listed : goal.returns-clause-listed
returns-clause-listed = search (arith, length-map)

pub returns-clause-behind : goal.returns-clause-behind
returns-clause-behind = search (arith, length-map)
