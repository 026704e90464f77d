-- A sequence laid, with its word flagged.
use Rattle.std.proofs.Common.{◌≡◌, ◌≤◌, ◌+◌, ℕ, ℤ, Bool, List, ◌++◌, length, map, drop, reverse, Some, arith, of_z, to_z}
use Rattle.std.specs.List.{zip}
use Rattle.std.proofs.lemmas.Int.{to_z-of_z}
use Rattle.std.proofs.lemmas.List.{length-map}
use mir.Syntax.{w64}
use Rattle.shapers_buffer.specs.declared.buffer.glyph.GlyphPosition.{GlyphPosition}
use Rattle.shapers_buffer.specs.Glyphs.{Glyphs}
use Rattle.shapers_buffer.specs.Clusters.{least, stretch_of}
use Rattle.shapers_buffer.specs.Glyph.{clusters}
use Rattle.shapers_base.specs.Font.{Font}
use Rattle.shapers_base.specs.declared.plan.arabic.StretchStart.{StretchStart}
use Rattle.shapers_stretch.specs.declared.ot_shaper_arabic_stretch.tiles.Pen.{Pen}
use Rattle.shapers_stretch.specs.declared.ot_shaper_arabic_stretch.measuring.Lay.{Lay}
use Rattle.shapers_stretch.specs.declared.ot_shaper_arabic_stretch.measuring.TileSequence.{TileSequence}
use Rattle.shapers_stretch.specs.Cells.{Cell, glyphs_of, positions_of}
use Rattle.shapers_stretch.specs.CountingWalk.{IsNumber}
use Rattle.shapers_stretch.specs.LayingWalk.{CanLay, CanLaySequence, IsLayOf, Lays, sequence_copies}
use Rattle.shapers_stretch.specs.Lays.{lay_if_fits}
use Rattle.shapers_stretch.specs.Measure.{start}
use Rattle.shapers_stretch.specs.Stretch.{Laying, copies, laid_sequence, measured, unbroken}
use Rattle.shapers_stretch.proofs.Flagging.{flag_copies, flag_copy, flag_offsets, stretch_glyphs, stretch_positions, tiles_are}
use Rattle.shapers_stretch.proofs.LayBounds.{found_lay}
use Rattle.shapers_stretch.proofs.LaidCopies.{near_fits}
use Rattle.shapers_stretch.proofs.Pen.{laid_is}

-- the tiles of a sequence, flagged with its word
abbrev pub run_tiles : List Cell → List Cell → List Cell
run_tiles word tiles = drop (length word) (unbroken (word ++ tiles))

copies_flagged : (font : Font) (z : TileSequence) (word tiles : List Cell) → copies font z (run_tiles word tiles)
    ≡ map (flag_copy (least (clusters (glyphs_of (word ++ tiles))))) (copies font z tiles)
copies_flagged = search (tiles_are, flag_copies)

pub flagged_length : (font : Font) (z : TileSequence) (word tiles : List Cell) → length (copies font z (run_tiles word tiles))
    ≡ length (copies font z tiles)
flagged_length = search (copies_flagged, length-map)

-- what the sequence measures, on slices
abbrev pub measured_slices : Font → ℕ → ℕ → ℕ → Glyphs → List GlyphPosition → TileSequence
measured_slices font w t e gs ps = measured font (stretch_of w t ps) (stretch_of t e gs)

pub measured_is : (font : Font) (w t e : ℕ) (gs : Glyphs) (ps : List GlyphPosition) → t ≤ e
    → e ≤ length gs → length gs ≡ length ps → measured font (stretch_of w t ps) (stretch_of t e gs)
    ≡ measured font (positions_of (stretch_of w t (zip gs ps))) (glyphs_of (stretch_of t e (zip gs ps)))
measured_is = search (arith, stretch_positions, stretch_glyphs)

-- the copies by the numbers of a sequence are the sequence's
pub copies_same : (font : Font) (z : TileSequence) (lay : Lay) (cs : List Cell) → IsLayOf z lay
    → sequence_copies font lay cs ≡ copies font z cs
copies_same = search arith

-- the lay that was found
pub lay_is : (choice : StretchStart) (right_to_left : Bool) (z : TileSequence) (lay : Lay) → lay_if_fits choice right_to_left z
    ≡ Some lay → IsLayOf z lay
lay_is choice right_to_left z lay e = let found = found_lay choice right_to_left z lay e in search

pub start_near : (choice : StretchStart) (right_to_left : Bool) (z : TileSequence) (lay : Lay)
    → lay_if_fits choice right_to_left z ≡ Some lay → IsNumber lay.start
start_near choice right_to_left z lay e = let s = (found_lay choice right_to_left z lay e).small.start in search

pub start_read : (choice : StretchStart) (right_to_left : Bool) (z : TileSequence) (lay : Lay)
    → lay_if_fits choice right_to_left z ≡ Some lay → to_z w64 (of_z w64 lay.start) ≡ lay.start
start_read = search (to_z-of_z, near_fits, start_near)

pub start_is : (choice : StretchStart) (right_to_left : Bool) (z : TileSequence) (lay : Lay) → lay_if_fits choice right_to_left z
    ≡ Some lay → to_z w64 (of_z w64 lay.start) ≡ start choice right_to_left z
start_is = search (arith, start_read)

pub start_read_near : (choice : StretchStart) (right_to_left : Bool) (z : TileSequence) (lay : Lay)
    → lay_if_fits choice right_to_left z ≡ Some lay → IsNumber (to_z w64 (of_z w64 lay.start))
start_read_near choice right_to_left z lay e =
    search (start_read choice right_to_left z lay e, start_near choice right_to_left z lay e)

-- so its flagged tiles can be laid
pub run_can : (how : Laying) (word tiles cs : List Cell) (first end place : ℕ) (gs fs : Glyphs)
    (ps : List GlyphPosition) (at : ℤ) →
    let z = measured how.font (positions_of word) (glyphs_of tiles) in
    CanLaySequence how word tiles first end place gs ps → cs ≡ run_tiles word tiles → length fs ≡ length gs
    → at ≡ start how.choice how.right_to_left z
    → CanLay how.right_to_left (copies how.font z cs) (record { at = at; place = place }) fs ps
run_can = search (arith, copies_flagged, flag_offsets, laid_is, flagged_length)

pub run_room : (how : Laying) (word tiles cs : List Cell) (first end place : ℕ) (gs : Glyphs)
    (ps : List GlyphPosition) →
    let z = measured how.font (positions_of word) (glyphs_of tiles) in
    CanLaySequence how word tiles first end place gs ps → cs ≡ run_tiles word tiles → first + length (copies how.font z cs)
    ≤ place
run_room = search (arith, flagged_length)

-- what stands then: the word and what stands before it, flagged; the sequence, laid
pub run_place : (how : Laying) (word tiles cs : List Cell) (at : ℤ) (place : ℕ) (after : Pen) (old now : List Cell)
    → let z = measured how.font (positions_of word) (glyphs_of tiles) in cs ≡ run_tiles word tiles
    → Lays how.right_to_left (copies how.font z cs) (record { at = at; place = place }) after old now
    → after.place + length (copies how.font z tiles) ≡ place
run_place = search (arith, flagged_length)

pub run_laid : (how : Laying) (word tiles cs : List Cell) (at : ℤ) (place : ℕ) (after : Pen) (was old now : List Cell) →
    let z = measured how.font (positions_of word) (glyphs_of tiles) in
    cs ≡ run_tiles word tiles → at ≡ start how.choice how.right_to_left z → drop place old ≡ drop place was
    → Lays how.right_to_left (copies how.font z cs) (record { at = at; place = place }) after old now
    → drop after.place now ≡ reverse (laid_sequence how z (run_tiles word tiles)) ++ drop place was
run_laid = search (arith, laid_is)
