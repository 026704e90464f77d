-- The syllable stands in the text, or in the room for it.
use Rattle.std.proofs.Common.{◌-◌, length, take, sym, ap, subst, ◌∙◌}
use Rattle.shapers_buffer.specs.Buffer.{Buffer}
use Rattle.shapers_buffer.specs.Clusters.{stretch_of}
use Rattle.shapers_buffer.specs.Places.{without_last_zeros}
use Rattle.shapers_buffer.specs.Placements.{placed_by_all}
use Rattle.shapers_buffer.proofs.Arranging.{all_placed_raw, arranges_raw, nothing_moved}
use Rattle.shapers_buffer.proofs.buffer.hb_buffer_t.read_arranged.Goals as goal

pub read-requires : goal.read-requires
read-requires g c =
    let a = c.args in
    let text = c.deref.ensures.value ∙ ap (λ (b : Buffer). b.glyphs) c.self.view_is in
    let none = nothing_moved a.placements.now a.start a.end a.self.now.places a.self.now.glyphs c.requires.arranges
    (sym c.moves_nothing.ensures ∙ c.if-moves_nothing.true) in
    subst (g.R.SyllableReading.can_read a.reading.now) (ap (stretch_of a.start a.end) (none ∙ sym text))
    c.requires.readable

pub returns-then-moves_nothing-clause-read : goal.returns-then-moves_nothing-clause-read
returns-then-moves_nothing-clause-read g c =
    let a = c.args in
    let text = c.deref.ensures.value ∙ ap (λ (b : Buffer). b.glyphs) c.self.view_is in
    let none = nothing_moved a.placements.now a.start a.end a.self.now.places a.self.now.glyphs c.requires.arranges
    (sym c.moves_nothing.ensures ∙ c.if-moves_nothing.true) in
    subst (g.R.SyllableReading.reads a.reading.now c.read.new.self)
    (ap (stretch_of a.start a.end) (text ∙ sym none)) c.read.ensures

pub gather_spare-requires-clause-arranges : goal.gather_spare-requires-clause-arranges
gather_spare-requires-clause-arranges g c =
    let a = c.args in
    let text = sym (c.deref-else-moves_nothing.ensures.value ∙ ap (λ (b : Buffer). b.glyphs) c.self.view_is) in
    let list = sym (ap without_last_zeros c.deref-else-moves_nothing-2.ensures.value
    ∙ ap (λ (b : Buffer). b.places) c.self.view_is) in
    arranges_raw a.placements.now a.start a.end (length a.self.now.glyphs) (length c.deref-else-moves_nothing.result.now)
    a.self.now.places c.deref-else-moves_nothing-2.result.now list (ap length text) c.requires.arranges

pub read-requires-else-moves_nothing : goal.read-requires-else-moves_nothing
read-requires-else-moves_nothing g c =
    let a = c.args in
    let text = sym (c.deref-else-moves_nothing.ensures.value ∙ ap (λ (b : Buffer). b.glyphs) c.self.view_is) in
    let list = sym (ap without_last_zeros c.deref-else-moves_nothing-2.ensures.value
    ∙ ap (λ (b : Buffer). b.places) c.self.view_is) in
    let shown = ap (take (a.end - a.start)) c.deref-else-moves_nothing-3.ensures.value ∙ c.gather_spare.ensures.gathered
    ∙ ap (stretch_of a.start a.end) (all_placed_raw a.placements.now a.start a.end a.self.now.places
    c.deref-else-moves_nothing-2.result.now c.deref-else-moves_nothing.result.now list
    ∙ ap (placed_by_all a.placements.now a.start a.end a.self.now.places) (sym text)) in
    subst (g.R.SyllableReading.can_read a.reading.now) (sym shown) c.requires.readable

pub returns-else-moves_nothing-clause-read : goal.returns-else-moves_nothing-clause-read
returns-else-moves_nothing-clause-read g c =
    let a = c.args in
    let text = sym (c.deref-else-moves_nothing.ensures.value ∙ ap (λ (b : Buffer). b.glyphs) c.self.view_is) in
    let list = sym (ap without_last_zeros c.deref-else-moves_nothing-2.ensures.value
    ∙ ap (λ (b : Buffer). b.places) c.self.view_is) in
    let shown = ap (take (a.end - a.start)) c.deref-else-moves_nothing-3.ensures.value ∙ c.gather_spare.ensures.gathered
    ∙ ap (stretch_of a.start a.end) (all_placed_raw a.placements.now a.start a.end a.self.now.places
    c.deref-else-moves_nothing-2.result.now c.deref-else-moves_nothing.result.now list
    ∙ ap (placed_by_all a.placements.now a.start a.end a.self.now.places) (sym text)) in
    subst (g.R.SyllableReading.reads a.reading.now c.read-else-moves_nothing.new.self) shown c.read-else-moves_nothing.ensures
