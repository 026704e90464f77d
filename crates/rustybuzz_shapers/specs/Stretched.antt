-- The third part of the headline: how many glyphs postprocessing adds, and how wide a mark that
-- stretches is laid.
use Rattle.std.specs.Prelude.{◌≡◌, ◌+ℤ◌, ℕ, ℤ, List, true, length, map}
use Rattle.shapers_buffer.specs.Buffer.{Buffer}
use Rattle.shapers_base.specs.declared.plan.hb_ot_shape_plan_t.{hb_ot_shape_plan_t}
use Rattle.shapers_base.specs.Font.{Font}
use Rattle.shapers_stretch.specs.Cells.{Cell, parts_of_text, tiles_of}
use Rattle.shapers_stretch.specs.Measure.{total}
use Rattle.shapers_stretch.specs.Recorded.{start_of}
use Rattle.shapers_stretch.specs.Stretch.{cells_in_order, copies_in, laying}
use Rattle.shapers_stretch.specs.StretchLaws.{TextIsLaid}
use Rattle.rustybuzz_shapers.specs.Hooks.{Postprocessed}
use Rattle.rustybuzz_shapers.specs.declared.shaper.hb_ot_shaper_t.{hb_ot_shaper_t}
use Rattle.rustybuzz_shapers.specs.declared.shaper.hb_ot_shaper_t.TheVariants.{Arabic}

-- for Arabic the copies of its tiles, for the others none
abbrev pub glyphs_added : hb_ot_shaper_t → Font → Buffer → ℕ
glyphs_added Arabic font old = copies_in font old
glyphs_added _ font old = 0

-- The text after is the parts of the text before, each with its sequence laid: as wide as its
-- numbers say, and where its tiles fit, as the word, or wider by less than a unit per added copy.
abbrev pub StretchesCover : Type 0
StretchesCover = (plan : hb_ot_shape_plan_t) (font : Font) (old new : Buffer) →
    old.stch ≡ true → length old.positions ≡ length old.glyphs →
    Postprocessed Arabic plan font old new →
    (length new.positions ≡ length new.glyphs)
    × TextIsLaid (laying font (start_of plan.plan_data) old) (cells_in_order old)
    (cells_in_order new)

-- the advance of some cells, and of the tiles at the ends of a text's parts
abbrev pub advance_of : List Cell → ℤ
advance_of cs = total (map (λ c. c.1.x_advance) cs)

abbrev pub tiles_advance : List Cell → ℤ
tiles_advance cs = total (map (λ part. advance_of (tiles_of part)) (parts_of_text cs))

-- The line's advance: that before, less the tiles', since copies, however many, have none.
abbrev pub LineAdvances : Type 0
LineAdvances = (plan : hb_ot_shape_plan_t) (font : Font) (old new : Buffer) →
    old.stch ≡ true → length old.positions ≡ length old.glyphs →
    Postprocessed Arabic plan font old new →
    total (map (λ p. p.x_advance) new.positions) +ℤ tiles_advance (cells_in_order old)
    ≡ total (map (λ p. p.x_advance) old.positions)
