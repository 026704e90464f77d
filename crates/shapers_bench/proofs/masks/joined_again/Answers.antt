use Rattle.std.proofs.Common.{◌∙◌, subst, sym}
use Rattle.rustybuzz_shapers.specs.Hooks.{MasksSet}
use Rattle.rustybuzz_shapers.specs.declared.shaper.hb_ot_shaper_t.TheVariants.{Arabic}
use Rattle.shapers_buffer.specs.Buffer.{Buffer}
use Rattle.shapers_bench.proofs.masks.joined_again.Goals as goal

pub returns : goal.returns
returns g c =
    let tables = g.T.Tables.tables c.args.tables.now in
    let plan = c.with_data-plan.result in
    let mid = c.checked_setup_masks.new.buffer in
    let new = c.checked_setup_masks-2.new.buffer in
    c.masks_again_law.ensures Arabic plan tables c.in_ok-buffer.buffer mid new c.in_ok-checked_setup_masks.ensures.masks
    (subst (λ (b : Buffer). MasksSet Arabic plan tables b new) c.keep.ensures.same c.in_ok-checked_setup_masks-2.ensures.masks)
    ∙ sym c.in_ok-once.ensures.ok
