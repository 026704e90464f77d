-- Each cluster takes its part of the room.
use Rattle.std.proofs.Common.{◌≡◌, ◌≤◌, ◌∙◌, ◌+◌, ◌-◌, ap, drop, length, take, arith}
use Rattle.std.specs.List.{prefix_len}
use Rattle.shapers_buffer.specs.Glyphs.{Glyphs}
use Rattle.std.proofs.lemmas.List.{length-append, length-drop}
use Rattle.shapers_normal.specs.Variants.{form_written, forms_written, is_selector_glyph}
use Rattle.shapers_normal.proofs.Clusters.{next_form}
use Rattle.shapers_normal.proofs.ot_shape_normalize.variants.room_behind_forms.Goals as goal

pub returns-then-left-len-clause-none : goal.returns-then-left-len-clause-none
returns-then-left-len-clause-none g c =
    let context = g.C.NormalizeContext.context c.args.context.now in
    let gs = c.args.cluster.now in
    let l = c.loop-start in
    let n = c.form_len.result in
    let is : n ≡ 1 + prefix_len is_selector_glyph (drop 1 (drop l.start gs)) = c.form_len.ensures.len
    ∙ ap (λ (xs : Glyphs). 1 + prefix_len is_selector_glyph (drop 1 xs)) c.rest_from.ensures in
    let cluster = form_written context (take (l.start + n - l.start) (drop l.start gs)) in
    let behind = forms_written context (drop (l.start + n) gs) in
    let next = ap length (next_form context gs l.start n c.loop-start-test.true is) in
    λ none. omega (arith, next, length-append cluster behind, l.invariant.room, c.len_of_form-len.ensures)

pub loop-start-preserved : goal.loop-start-preserved
loop-start-preserved g c =
    let context = g.C.NormalizeContext.context c.args.context.now in
    let gs = c.args.cluster.now in
    let l = c.loop-start in
    let n = c.form_len.result in
    let is : n ≡ 1 + prefix_len is_selector_glyph (drop 1 (drop l.start gs)) = c.form_len.ensures.len
    ∙ ap (λ (xs : Glyphs). 1 + prefix_len is_selector_glyph (drop 1 xs)) c.rest_from.ensures in
    let inside : l.start + n ≤ length gs =
    omega (
      arith,
      c.form_len.ensures.within,
      ap length c.rest_from.ensures,
      length-drop l.start gs,
      c.loop-start-test.true,
    ) in
    let cluster = form_written context (take (l.start + n - l.start) (drop l.start gs)) in
    let behind = forms_written context (drop (l.start + n) gs) in
    let next = ap length (next_form context gs l.start n c.loop-start-test.true is) in
    record {
      room = omega (arith, next, length-append cluster behind, l.invariant.room, c.len_of_form-len.ensures);
      few = omega (arith, l.invariant.few);
      within = inside;
    }
