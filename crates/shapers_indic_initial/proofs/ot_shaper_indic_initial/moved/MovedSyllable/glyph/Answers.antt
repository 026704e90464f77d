-- Where nothing moves it is the text's, else what the placements bring.
use Rattle.std.proofs.Common.{◌≡◌, [], get_or, length, sym, ap, subst, ◌∙◌, arith}
use Rattle.shapers_buffer.specs.Glyph.{default_glyph}
use Rattle.shapers_buffer.specs.Glyphs.{Glyphs}
use Rattle.shapers_buffer.specs.Placements.{MayArrange, moves_nothing, placed_by_all}
use Rattle.shapers_buffer.specs.declared.buffer.placement.Placement.TheVariants.{Stays}
use Rattle.shapers_buffer.proofs.Arranging.{get_or-default, nothing_moved}
use Rattle.shapers_indic_initial.specs.MovedWalk.{as_moved, moves_then}
use Rattle.shapers_indic_initial.proofs.MovedLaws.{length-moved_syllable, moved_alone, moved_fits, stays_each}
use Rattle.shapers_indic_initial.proofs.ot_shaper_indic_initial.moved.MovedSyllable.glyph.Goals as goal

pub arranged-requires : goal.arranged-requires
arranged-requires c =
    let m = c.args.self.now in
    let b = c.args.buffer.now in
    subst (λ ps. MayArrange ps m.start m.end (length b.glyphs) b.places) (sym c.moves_then-moves.ensures)
    (moved_fits m Stays (length b.glyphs) b.places c.requires.unlisted c.requires.in_order c.requires.in_range
    (stays_each m.start m.end b.places))

pub returns-then-moves_nothing : goal.returns-then-moves_nothing
returns-then-moves_nothing c =
    let m = c.args.self.now in
    let gs = c.args.buffer.now.glyphs in
    let test = sym (ap moves_nothing c.moves_then-moves.ensures) ∙ sym c.moves_nothing.ensures ∙ c.if-moves_nothing.true in
    let same : as_moved m gs ≡ gs =
    nothing_moved (moves_then m Stays) m.start m.end [] gs
    (moved_fits m Stays (length gs) [] c.requires.unlisted c.requires.in_order c.requires.in_range
    (stays_each m.start m.end [])) test in
    c.get.ensures ∙ ap (λ (hs : Glyphs). get_or hs c.args.index c.get.result) (sym same)

pub returns : goal.returns
returns c =
    let m = c.args.self.now in
    let b = c.args.buffer.now in
    let gs = as_moved m b.glyphs in
    let n = length-moved_syllable m b.glyphs c.requires.unlisted c.requires.in_order c.requires.in_range in
    let text : c.arranged.result ≡ gs =
    c.arranged.ensures.text
    ∙ ap (λ ps. placed_by_all ps m.start m.end b.places b.glyphs) c.moves_then-moves.ensures
    ∙ moved_alone m b.places b.glyphs c.requires.unlisted c.requires.in_order c.requires.in_range in
    c.get-2.ensures ∙ ap (λ (hs : Glyphs). get_or hs c.args.index default_glyph) text
    ∙ get_or-default gs c.args.index default_glyph c.get-2.result (omega (arith, n, c.requires.inside))
