-- The parts of a syllable that is reordered, and another one.
use Rattle.std.proofs.Common.{arith}
use Rattle.std.proofs.Common.{ap, refl, sym, ◌∙◌, subst, [], ◌∷◌}
use Rattle.shapers_buffer.specs.Clusters.{stretch_of}
use Rattle.shapers_indic_initial.specs.InitialReordering.{in_indic_order, indic_order_step, is_reordered_in_indic, masked_in_order}
use Rattle.shapers_indic_initial.specs.InitialRules.{initial_rules}
use Rattle.shapers_indic_initial.specs.MovedWalk.{moved_buffer}
use Rattle.shapers_indic_initial.proofs.InitialSyllable.{initial_syllable, other_syllable}
use Rattle.shapers_indic_initial.proofs.PlainConsonant.{plain_here}
use Rattle.shapers_syllabic.specs.Reordering.{SyllableReordered}
use Rattle.shapers_indic_initial.proofs.ot_shaper_indic_initial.reordering.InitialOrderReorder.reorder.Goals as goal

pub returns-then-is_reordered-clause-related : goal.returns-then-is_reordered-clause-related
returns-then-is_reordered-clause-related g c =
    let instance = c.args.self.now.rules.now in
    let r = initial_rules (g.F.hb_font_t.font instance.font.now) instance.map.now instance.plan.now in
    let s = c.args.start in
    let e = c.args.end in
    let m = c.prepare_for_order-moved.result in
    let ready = c.prepare_for_order-moved.ensures in
    let b1 = c.args.buffer.now in
    let b2 = moved_buffer m c.prepare_for_order-moved.new.buffer in
    let b3 = c.order_syllable-base.new.buffer in
    let b4 = c.mask_syllable.new.buffer in
    let order : SyllableReordered in_indic_order (λ gs. indic_order_step r gs ∷ []) s e b2 b3 =
    subst (λ k. SyllableReordered in_indic_order (λ gs. indic_order_step r gs ∷ []) k e b2 b3) ready.start
    (subst (λ k. SyllableReordered in_indic_order (λ gs. indic_order_step r gs ∷ []) m.start k b2 b3) ready.end
    (c.order_syllable-base.ensures.syllable r refl)) in
    initial_syllable r b1.script s e b1 b2 b3 b4 c.requires.in_order c.requires.in_range
    (ap (λ gs. is_reordered_in_indic (stretch_of s e gs)) (sym c.glyphs-2.ensures) ∙ sym c.is_reordered.ensures
    ∙ c.if-is_reordered.true) ready.reordered order
    (subst (λ script. SyllableReordered (masked_in_order r script) (λ _. []) s e b3 b4) (
    ap (λ b. b.script) order.others ∙ ap (λ b. b.script) ready.reordered.others)
    c.mask_syllable.ensures)

pub returns-else-is_reordered-clause-related : goal.returns-else-is_reordered-clause-related
returns-else-is_reordered-clause-related g c =
    let instance = c.args.self.now.rules.now in
    let s = c.args.start in
    let e = c.args.end in
    let b = c.args.buffer.now in
    other_syllable
    (initial_rules (g.F.hb_font_t.font instance.font.now) instance.map.now instance.plan.now) b.script s e b c.requires.in_order
    (ap (λ gs. is_reordered_in_indic (stretch_of s e gs)) (sym c.glyphs-2.ensures) ∙ sym c.is_reordered.ensures
    ∙ c.if-is_reordered.false)

pub returns-then-is_plain_consonant-clause-related : goal.returns-then-is_plain_consonant-clause-related
returns-then-is_plain_consonant-clause-related g c =
    let instance = c.args.self.now.rules.now in
    let b = c.args.buffer.now in
    plain_here (initial_rules (g.F.hb_font_t.font instance.font.now) instance.map.now instance.plan.now) b.script
    c.args.start c.args.end b c.requires.in_order c.requires.in_range (search arith)
