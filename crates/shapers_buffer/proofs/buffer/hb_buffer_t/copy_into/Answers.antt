-- The lists are the buffer's, and its contexts have at most five characters.
use Rattle.std.proofs.Common.{◌∙◌, ap, take}
use Rattle.std.proofs.lemmas.List.{take_all}
use Rattle.shapers_buffer.specs.contracts.buffer.hb_buffer_t.{the_view}
use Rattle.shapers_buffer.specs.Places.{without_last_zeros}
use Rattle.shapers_buffer.proofs.Copying.{with_equal_lists}
use Rattle.shapers_buffer.proofs.buffer.hb_buffer_t.copy_into.Goals as goal

pub returns-clause-ok : goal.returns-clause-ok
returns-clause-ok c =
    let b = c.self.inside in
    let lists = c.in_ok-fill.ensures in
    let before = c.context.ensures.nearest
    ∙ ap (take 5) c.as_slice.ensures.value
    ∙ take_all 5 b.pre_context.items c.self.invariant.before_near in
    let after = c.context-2.ensures.nearest
    ∙ ap (take 5) c.as_slice-2.ensures.value
    ∙ take_all 5 b.post_context.items c.self.invariant.after_near in
    with_equal_lists (the_view b)
    (lists.info ∙ c.deref.ensures.value)
    (lists.pos ∙ c.deref-2.ensures.value)
    before
    after
    (ap without_last_zeros (lists.places ∙ c.deref-3.ensures.value))
    ∙ c.self.view_is
