-- Joining sees the characters, which categories leave; so they may be set behind it.
use Rattle.std.proofs.Common.{arith}
use Rattle.std.proofs.Common.{◌∙◌, ap, map, refl, subst, sym}
use Rattle.shapers_arabic.specs.JoinedText.{HoldsCut, text_of}
use Rattle.shapers_arabic.proofs.BrokenGlyphs.{breaks-where_clear, none-needless}
use Rattle.shapers_arabic.proofs.FirstPieces.{first-as_flagged}
use Rattle.shapers_buffer.proofs.MappedLists.{map-hidden}
use Rattle.shapers_universal.specs.UniversalMasks.{categorized, with_categories}
use Rattle.shapers_universal.proofs.MaskLemmas.{categories_behind}
use Rattle.shapers_universal.proofs.ot_shaper_use.masks.setup_masks.Goals as goal

pub setup_masks_inner-requires : goal.setup_masks_inner-requires
setup_masks_inner-requires = search arith

pub returns-in-Some-clause-masks : goal.returns-in-Some-clause-masks
returns-in-Some-clause-masks g c =
    let t = g.T.Tables.tables c.args.tables.now in
    let script = c.args.plan.now.script in
    let breaks = c.in-Some.arabic_plan.break_flags in
    let masks = c.in-Some.arabic_plan.mask_array in
    let joined = c.setup_masks_inner.new.buffer in
    let equation = c.set_categories.ensures ∙ ap (with_categories t) c.setup_masks_inner.ensures.joined
    ∙ categories_behind t breaks masks script t.joining t.general c.args.buffer.now in
    let same = map-hidden (λ h. h.auxiliary) (categorized t.universal) (λ h. refl) joined.glyphs in
    rw (c.in-Universal.is, c.in-Some.is) (
      equation,
      subst (λ forms. HoldsCut script (text_of t.joining t.general c.args.buffer.now) forms)
          (sym (ap (λ b. map (λ h. h.auxiliary) b.glyphs) c.set_categories.ensures ∙ same))
          c.setup_masks_inner.ensures.cut,
    )

pub returns-in-Some-clause-breaks : goal.returns-in-Some-clause-breaks
returns-in-Some-clause-breaks g c =
    let t = g.T.Tables.tables c.args.tables.now in
    let script = c.args.plan.now.script in
    let breaks = c.in-Some.arabic_plan.break_flags in
    let masks = c.in-Some.arabic_plan.mask_array in
    let before = with_categories t c.args.buffer.now in
    let new = c.set_categories.new.buffer in
    let equation = c.set_categories.ensures ∙ ap (with_categories t) c.setup_masks_inner.ensures.joined
    ∙ categories_behind t breaks masks script t.joining t.general c.args.buffer.now in
    rw (c.in-Universal.is, c.in-Some.is) (
      breaks-where_clear breaks masks script t.joining t.general before new equation,
      none-needless breaks masks script t.joining t.general before new equation,
      first-as_flagged breaks masks script t.joining t.general before new equation,
    )
