-- One placement alone is applied as it is.
use Rattle.std.proofs.Common.{ap, sym, ◌∙◌, arith}
use Rattle.shapers_buffer.specs.Glyphs.{Glyphs}
use Rattle.shapers_buffer.proofs.Arranging.{only_one, still}
use Rattle.shapers_buffer.proofs.buffer.hb_buffer_t.apply_all.Goals as goal

pub returns-then-is_still-2 : goal.returns-then-is_still-2
returns-then-is_still-2 c =
    let a = c.args in
    let b = a.self.now in
    let one = (only_one a.placements.now a.start a.end b.places b.glyphs c.requires).0 in
    let is = one (still _ (search arith)) (still _ (search arith)) in
    c.apply.ensures ∙ ap (λ (gs : Glyphs). record b { glyphs = gs }) (sym is)

pub returns-then-is_still-4 : goal.returns-then-is_still-4
returns-then-is_still-4 c =
    let a = c.args in
    let b = a.self.now in
    let one = (only_one a.placements.now a.start a.end b.places b.glyphs c.requires).1 in
    let is = one (still _ (search arith)) (still _ (search arith)) in
    search arith

pub returns-then-is_still-6 : goal.returns-then-is_still-6
returns-then-is_still-6 c =
    let a = c.args in
    let b = a.self.now in
    let one = (only_one a.placements.now a.start a.end b.places b.glyphs c.requires).2 in
    let is = one (still _ (search arith)) (still _ (search arith)) in
    search arith
