use Rattle.std.proofs.lemmas.List.{take-take}
use Rattle.shapers_stretch.proofs.LayBounds.{no_lay}
use Rattle.std.proofs.lemmas.List.Folds.{list_all-append}
use borrow.Author.Tests.{clash}
use Rattle.std.proofs.lemmas.Bool.{and_parts}
use Rattle.std.proofs.Common.{◌≡◌, ◌∙◌, ap, sym, subst, arith, of_z, to_z, length, ◌+◌, ◌≤◌}
use Rattle.std.specs.List.{zip}
use mir.Syntax.{w64}
use Rattle.shapers_buffer.specs.Clusters.{stretch_of}
use Rattle.shapers_stretch.specs.Cells.{glyphs_of, positions_of}
use Rattle.shapers_stretch.specs.LayingWalk.{CanLay, Lays, laying_by, sequence_copies}
use Rattle.shapers_stretch.specs.Lays.{lay_if_fits}
use Rattle.shapers_stretch.specs.Measure.{numbers_to_fit, fits_i32, start}
use Rattle.shapers_stretch.specs.Stretch.{copies, measured}
use Rattle.shapers_stretch.proofs.Flagging.{all_stretch, flags_made, numbers_stay}
use Rattle.shapers_stretch.proofs.RunLaying.{copies_same, lay_is, measured_is, measured_slices, run_can, run_laid, run_place, run_room, start_is, start_read_near}
use Rattle.shapers_stretch.proofs.ot_shaper_arabic_stretch.tiles.TileLaying.lay_sequence.Goals as goal

pub lay_of_sequence-found-requires : goal.lay_of_sequence-found-requires
lay_of_sequence-found-requires g c = search all_stretch

pub lay_tiles-requires-clause-overlap_low : goal.lay_tiles-requires-clause-overlap_low
lay_tiles-requires-clause-overlap_low g c =
    (lay_is c.args.self.now.choice c.args.self.now.right_to_left
    (measured_slices (g.F.hb_font_t.font c.args.self.now.font.now) c.args.part.word c.args.part.tiles c.args.unlaid.end
    c.args.glyphs.now c.args.positions.now) c.in-Some.lay (sym c.lay_of_sequence-found.ensures ∙ c.in-Some.is)).low

pub lay_tiles-requires-clause-overlap_high : goal.lay_tiles-requires-clause-overlap_high
lay_tiles-requires-clause-overlap_high g c =
    (lay_is c.args.self.now.choice c.args.self.now.right_to_left
    (measured_slices (g.F.hb_font_t.font c.args.self.now.font.now) c.args.part.word c.args.part.tiles c.args.unlaid.end
    c.args.glyphs.now c.args.positions.now) c.in-Some.lay (sym c.lay_of_sequence-found.ensures ∙ c.in-Some.is)).high

pub lay_tiles-requires-clause-near : goal.lay_tiles-requires-clause-near
lay_tiles-requires-clause-near g c =
    start_read_near c.args.self.now.choice c.args.self.now.right_to_left
    (measured_slices (g.F.hb_font_t.font c.args.self.now.font.now) c.args.part.word c.args.part.tiles c.args.unlaid.end
    c.args.glyphs.now c.args.positions.now) c.in-Some.lay (search arith)

pub lay_tiles-requires-clause-numbers : goal.lay_tiles-requires-clause-numbers
lay_tiles-requires-clause-numbers g c =
    numbers_stay (λ n. n ≤ 65535) c.args.part.word c.args.unlaid.end c.args.glyphs.now c.unsafe_to_break_in.new.glyphs
    (search arith) c.unsafe_to_break_in.ensures c.requires.sequence.glyph_numbers

pub lay_tiles-requires-clause-can : goal.lay_tiles-requires-clause-can
lay_tiles-requires-clause-can g c =
    let font = g.F.hb_font_t.font c.args.self.now.font.now in
    let p = c.args.part in
    let u = c.args.unlaid in
    let r = c.requires.sequence in
    let old = zip c.args.glyphs.now c.args.positions.now in
    let word = stretch_of p.word p.tiles old in
    let tiles = stretch_of p.tiles u.end old in
    let within : u.end ≤ length c.args.glyphs.now = omega arith in
    let is : (measured_slices (g.F.hb_font_t.font c.args.self.now.font.now) c.args.part.word c.args.part.tiles
    c.args.unlaid.end c.args.glyphs.now c.args.positions.now) ≡
    (measured font (positions_of word) (glyphs_of tiles)) = measured_is font p.word p.tiles u.end c.args.glyphs.now c.args.positions.now r.order within r.both in
    let flags = flags_made p.word p.tiles u.end c.args.glyphs.now c.unsafe_to_break_in.new.glyphs c.args.positions.now
    c.requires.word r.order within r.both c.unsafe_to_break_in.ensures in
    let from = start_is c.args.self.now.choice c.args.self.now.right_to_left
    (measured_slices (g.F.hb_font_t.font c.args.self.now.font.now) c.args.part.word c.args.part.tiles
    c.args.unlaid.end c.args.glyphs.now c.args.positions.now) c.in-Some.lay
    (sym c.lay_of_sequence-found.ensures ∙ c.in-Some.is)
    ∙ ap (start c.args.self.now.choice c.args.self.now.right_to_left) is in
    let cs = stretch_of p.tiles u.end (zip c.unsafe_to_break_in.new.glyphs c.args.positions.now) in
    let same : sequence_copies font c.in-Some.lay cs
    ≡ copies font (measured_slices (g.F.hb_font_t.font c.args.self.now.font.now) c.args.part.word
    c.args.part.tiles c.args.unlaid.end c.args.glyphs.now c.args.positions.now) cs = copies_same font
    (measured_slices (g.F.hb_font_t.font c.args.self.now.font.now) c.args.part.word c.args.part.tiles
    c.args.unlaid.end c.args.glyphs.now c.args.positions.now) c.in-Some.lay cs
    (lay_is c.args.self.now.choice c.args.self.now.right_to_left
    (measured_slices (g.F.hb_font_t.font c.args.self.now.font.now) c.args.part.word c.args.part.tiles
    c.args.unlaid.end c.args.glyphs.now c.args.positions.now) c.in-Some.lay (sym c.lay_of_sequence-found.ensures
    ∙ c.in-Some.is)) in
    subst (λ sequence. CanLay c.args.self.now.right_to_left sequence
    (record { at = to_z w64 (of_z w64 c.in-Some.lay.start); place = u.place }) c.unsafe_to_break_in.new.glyphs
    c.args.positions.now) (sym (same ∙ ap (λ sequence. copies font sequence cs) is)) (run_can
    (laying_by font c.args.self.now.choice c.args.self.now.right_to_left) word tiles cs p.tiles u.end u.place c.args.glyphs.now c.unsafe_to_break_in.new.glyphs
    c.args.positions.now _ r flags.tiles flags.same_length from)

pub lay_tiles-requires-clause-room : goal.lay_tiles-requires-clause-room
lay_tiles-requires-clause-room g c =
    let font = g.F.hb_font_t.font c.args.self.now.font.now in
    let p = c.args.part in
    let u = c.args.unlaid in
    let r = c.requires.sequence in
    let old = zip c.args.glyphs.now c.args.positions.now in
    let word = stretch_of p.word p.tiles old in
    let tiles = stretch_of p.tiles u.end old in
    let within : u.end ≤ length c.args.glyphs.now = omega arith in
    let is : (measured_slices (g.F.hb_font_t.font c.args.self.now.font.now) c.args.part.word c.args.part.tiles
    c.args.unlaid.end c.args.glyphs.now c.args.positions.now) ≡
    (measured font (positions_of word) (glyphs_of tiles)) = measured_is font p.word p.tiles u.end c.args.glyphs.now c.args.positions.now r.order within r.both in
    let flags = flags_made p.word p.tiles u.end c.args.glyphs.now c.unsafe_to_break_in.new.glyphs c.args.positions.now
    c.requires.word r.order within r.both c.unsafe_to_break_in.ensures in
    let cs = stretch_of p.tiles u.end (zip c.unsafe_to_break_in.new.glyphs c.args.positions.now) in
    let same : sequence_copies font c.in-Some.lay cs
    ≡ copies font (measured_slices (g.F.hb_font_t.font c.args.self.now.font.now) c.args.part.word
    c.args.part.tiles c.args.unlaid.end c.args.glyphs.now c.args.positions.now) cs = copies_same font
    (measured_slices (g.F.hb_font_t.font c.args.self.now.font.now) c.args.part.word c.args.part.tiles
    c.args.unlaid.end c.args.glyphs.now c.args.positions.now) c.in-Some.lay cs
    (lay_is c.args.self.now.choice c.args.self.now.right_to_left
    (measured_slices (g.F.hb_font_t.font c.args.self.now.font.now) c.args.part.word c.args.part.tiles
    c.args.unlaid.end c.args.glyphs.now c.args.positions.now) c.in-Some.lay (sym c.lay_of_sequence-found.ensures
    ∙ c.in-Some.is)) in
    subst (λ sequence. p.tiles + length sequence ≤ u.place) (sym (same ∙ ap (λ sequence. copies font sequence cs) is)) (run_room
    (laying_by font c.args.self.now.choice c.args.self.now.right_to_left) word tiles cs p.tiles u.end u.place c.args.glyphs.now c.args.positions.now r flags.tiles)

pub unreachable-requires : goal.unreachable-requires
unreachable-requires g c =
    let font = g.F.hb_font_t.font c.args.self.now.font.now in
    let p = c.args.part in
    let u = c.args.unlaid in
    let r = c.requires.sequence in
    let old = zip c.args.glyphs.now c.args.positions.now in
    let z = measured font (positions_of (stretch_of p.word p.tiles old)) (glyphs_of (stretch_of p.tiles u.end old)) in
    let is = measured_is font p.word p.tiles u.end c.args.glyphs.now c.args.positions.now r.order
    (omega arith) r.both in
    absurd (clash (sym
    (no_lay c.args.self.now.choice c.args.self.now.right_to_left z (ap (lay_if_fits c.args.self.now.choice
    c.args.self.now.right_to_left) (sym is) ∙ sym c.lay_of_sequence-found.ensures ∙ c.in-None.is))
    ∙ (and_parts _ _ (sym (list_all-append fits_i32 (numbers_to_fit c.args.self.now.choice z) _) ∙ r.fits)).0))

pub returns-clause-flagged : goal.returns-clause-flagged
returns-clause-flagged g c =
    let font = g.F.hb_font_t.font c.args.self.now.font.now in
    let p = c.args.part in
    let u = c.args.unlaid in
    let r = c.requires.sequence in
    let old = zip c.args.glyphs.now c.args.positions.now in
    let word = stretch_of p.word p.tiles old in
    let tiles = stretch_of p.tiles u.end old in
    let within : u.end ≤ length c.args.glyphs.now = omega arith in
    let is : (measured_slices (g.F.hb_font_t.font c.args.self.now.font.now) c.args.part.word c.args.part.tiles
    c.args.unlaid.end c.args.glyphs.now c.args.positions.now) ≡
    (measured font (positions_of word) (glyphs_of tiles)) = measured_is font p.word p.tiles u.end c.args.glyphs.now c.args.positions.now r.order within r.both in
    let flags = flags_made p.word p.tiles u.end c.args.glyphs.now c.unsafe_to_break_in.new.glyphs c.args.positions.now
    c.requires.word r.order within r.both c.unsafe_to_break_in.ensures in
    let cs = stretch_of p.tiles u.end (zip c.unsafe_to_break_in.new.glyphs c.args.positions.now) in
    let same : sequence_copies font c.in-Some.lay cs
    ≡ copies font (measured_slices (g.F.hb_font_t.font c.args.self.now.font.now) c.args.part.word
    c.args.part.tiles c.args.unlaid.end c.args.glyphs.now c.args.positions.now) cs = copies_same font
    (measured_slices (g.F.hb_font_t.font c.args.self.now.font.now) c.args.part.word c.args.part.tiles
    c.args.unlaid.end c.args.glyphs.now c.args.positions.now) c.in-Some.lay cs
    (lay_is c.args.self.now.choice c.args.self.now.right_to_left
    (measured_slices (g.F.hb_font_t.font c.args.self.now.font.now) c.args.part.word c.args.part.tiles
    c.args.unlaid.end c.args.glyphs.now c.args.positions.now) c.in-Some.lay (sym c.lay_of_sequence-found.ensures
    ∙ c.in-Some.is)) in
    let room = subst (λ sequence. p.tiles + length sequence ≤ u.place) (sym (same ∙ ap (λ sequence. copies font sequence cs) is))
    (run_room
    (laying_by font c.args.self.now.choice c.args.self.now.right_to_left) word tiles cs p.tiles u.end u.place c.args.glyphs.now c.args.positions.now r flags.tiles) in
    let n = c.lay_tiles.new in
    let below : p.tiles ≤ c.lay_tiles.result.place = omega arith in
    cc (
      take-take p.tiles c.lay_tiles.result.place (zip n.glyphs n.positions) below,
      c.lay_tiles.ensures.lays.kept,
      take-take p.tiles c.lay_tiles.result.place (zip c.unsafe_to_break_in.new.glyphs c.args.positions.now) below,
    )

pub returns-clause-laid : goal.returns-clause-laid
returns-clause-laid g c =
    let font = g.F.hb_font_t.font c.args.self.now.font.now in
    let p = c.args.part in
    let u = c.args.unlaid in
    let r = c.requires.sequence in
    let old = zip c.args.glyphs.now c.args.positions.now in
    let word = stretch_of p.word p.tiles old in
    let tiles = stretch_of p.tiles u.end old in
    let within : u.end ≤ length c.args.glyphs.now = omega arith in
    let is : (measured_slices (g.F.hb_font_t.font c.args.self.now.font.now) c.args.part.word c.args.part.tiles
    c.args.unlaid.end c.args.glyphs.now c.args.positions.now) ≡
    (measured font (positions_of word) (glyphs_of tiles)) = measured_is font p.word p.tiles u.end c.args.glyphs.now c.args.positions.now r.order within r.both in
    let flags = flags_made p.word p.tiles u.end c.args.glyphs.now c.unsafe_to_break_in.new.glyphs c.args.positions.now
    c.requires.word r.order within r.both c.unsafe_to_break_in.ensures in
    let from = start_is c.args.self.now.choice c.args.self.now.right_to_left
    (measured_slices (g.F.hb_font_t.font c.args.self.now.font.now) c.args.part.word c.args.part.tiles
    c.args.unlaid.end c.args.glyphs.now c.args.positions.now) c.in-Some.lay
    (sym c.lay_of_sequence-found.ensures ∙ c.in-Some.is)
    ∙ ap (start c.args.self.now.choice c.args.self.now.right_to_left) is in
    let mid = zip c.unsafe_to_break_in.new.glyphs c.args.positions.now in
    let cs = stretch_of p.tiles u.end mid in
    let n = c.lay_tiles.new in
    let same : sequence_copies font c.in-Some.lay cs
    ≡ copies font (measured_slices (g.F.hb_font_t.font c.args.self.now.font.now) c.args.part.word
    c.args.part.tiles c.args.unlaid.end c.args.glyphs.now c.args.positions.now) cs = copies_same font
    (measured_slices (g.F.hb_font_t.font c.args.self.now.font.now) c.args.part.word c.args.part.tiles
    c.args.unlaid.end c.args.glyphs.now c.args.positions.now) c.in-Some.lay cs
    (lay_is c.args.self.now.choice c.args.self.now.right_to_left
    (measured_slices (g.F.hb_font_t.font c.args.self.now.font.now) c.args.part.word c.args.part.tiles
    c.args.unlaid.end c.args.glyphs.now c.args.positions.now) c.in-Some.lay (sym c.lay_of_sequence-found.ensures
    ∙ c.in-Some.is)) in
    let lays = subst (λ sequence. Lays c.args.self.now.right_to_left sequence
    (record { at = to_z w64 (of_z w64 c.in-Some.lay.start); place = u.place }) c.lay_tiles.result mid
    (zip n.glyphs n.positions)) (same ∙ ap (λ sequence. copies font sequence cs) is) c.lay_tiles.ensures.lays in
    run_laid
    (laying_by font c.args.self.now.choice c.args.self.now.right_to_left) word tiles cs _ u.place c.lay_tiles.result old mid (zip n.glyphs n.positions) flags.tiles from
    (flags.behind u.place r.ahead) lays

pub returns-clause-place : goal.returns-clause-place
returns-clause-place g c =
    let font = g.F.hb_font_t.font c.args.self.now.font.now in
    let p = c.args.part in
    let u = c.args.unlaid in
    let r = c.requires.sequence in
    let old = zip c.args.glyphs.now c.args.positions.now in
    let word = stretch_of p.word p.tiles old in
    let tiles = stretch_of p.tiles u.end old in
    let within : u.end ≤ length c.args.glyphs.now = omega arith in
    let is : (measured_slices (g.F.hb_font_t.font c.args.self.now.font.now) c.args.part.word c.args.part.tiles
    c.args.unlaid.end c.args.glyphs.now c.args.positions.now) ≡
    (measured font (positions_of word) (glyphs_of tiles)) = measured_is font p.word p.tiles u.end c.args.glyphs.now c.args.positions.now r.order within r.both in
    let flags = flags_made p.word p.tiles u.end c.args.glyphs.now c.unsafe_to_break_in.new.glyphs c.args.positions.now
    c.requires.word r.order within r.both c.unsafe_to_break_in.ensures in
    let mid = zip c.unsafe_to_break_in.new.glyphs c.args.positions.now in
    let cs = stretch_of p.tiles u.end mid in
    let n = c.lay_tiles.new in
    let same : sequence_copies font c.in-Some.lay cs
    ≡ copies font (measured_slices (g.F.hb_font_t.font c.args.self.now.font.now) c.args.part.word
    c.args.part.tiles c.args.unlaid.end c.args.glyphs.now c.args.positions.now) cs = copies_same font
    (measured_slices (g.F.hb_font_t.font c.args.self.now.font.now) c.args.part.word c.args.part.tiles
    c.args.unlaid.end c.args.glyphs.now c.args.positions.now) c.in-Some.lay cs
    (lay_is c.args.self.now.choice c.args.self.now.right_to_left
    (measured_slices (g.F.hb_font_t.font c.args.self.now.font.now) c.args.part.word c.args.part.tiles
    c.args.unlaid.end c.args.glyphs.now c.args.positions.now) c.in-Some.lay (sym c.lay_of_sequence-found.ensures
    ∙ c.in-Some.is)) in
    let lays = subst (λ sequence. Lays c.args.self.now.right_to_left sequence
    (record { at = to_z w64 (of_z w64 c.in-Some.lay.start); place = u.place }) c.lay_tiles.result mid
    (zip n.glyphs n.positions)) (same ∙ ap (λ sequence. copies font sequence cs) is) c.lay_tiles.ensures.lays in
    run_place
    (laying_by font c.args.self.now.choice c.args.self.now.right_to_left) word tiles cs _ u.place c.lay_tiles.result mid (zip n.glyphs n.positions) flags.tiles lays
