-- The laws of the initial reordering: its steps fit the syllable, take each place once, and lead to the order.
use Rattle.std.proofs.Common.{◌≡◌, [], ◌∷◌, Option, length, sym, ◌∙◌, ap, subst}
use Rattle.shapers_buffer.specs.Glyphs.{Glyphs}
use Rattle.shapers_buffer.specs.declared.buffer.tag.Script.{Script}
use Rattle.shapers_buffer.specs.Glyph.{plain}
use Rattle.shapers_buffer.specs.Places.{pick}
use Rattle.shapers_buffer.specs.Buffer.{Buffer}
use Rattle.shapers_clusters.specs.Steps.{FitsStep, Permutes, Step}
use Rattle.shapers_clusters.proofs.Picks.{pick-map}
use Rattle.shapers_clusters.proofs.ViewedSteps.{length-same}
use Rattle.shapers_indic_initial.specs.InitialBase.{base_place, has_indic_reph}
use Rattle.shapers_indic.specs.declared.ot_shaper_indic.indic_feature.TheConstants.{HALF}
use Rattle.shapers_indic_initial.specs.InitialMasks.{bits_of}
use Rattle.shapers_indic_initial.specs.InitialOrder.{ordered_base, indic_ordered_places}
use Rattle.shapers_indic_initial.specs.InitialReordering.{halant_step, in_indic_order, initial_order, initial_steps, is_reordered_in_indic, joiner_step, masked_in_order, indic_order_step, steps_of_reordered, with_all_positions, with_base_positions, with_joiner_first}
use Rattle.shapers_indic_initial.specs.InitialPositions.{with_marks_attached}
use Rattle.shapers_indic_initial.specs.InitialRules.{Rules, initial_rules}
use Rattle.shapers_indic_initial.specs.InitialLaws.{InitialReorderLaws}
use Rattle.shapers_indic_initial.specs.InitialPause.{with_positions_and_circles, InitiallyReordered}
use Rattle.shapers_indic_initial.specs.Proved.InitialSteps.{halant_fits, halant_permutes, joiner_fits, joiner_permutes, order_fits}
use Rattle.shapers_indic_initial.specs.Proved.InitialViews.{carried_hides_positions, hidden-by_base, hidden-with_initial_masks, hidden-with_marks_attached, hidden-with_owners_after, seen_hides_masks, seen_hides_positions}
use Rattle.shapers_indic_initial.specs.Proved.OrderedPlaces.{ordered_permutes}
use Rattle.shapers_syllabic.specs.Reordering.{carried}
use Rattle.shapers_syllabic.specs.ReorderingLaws.{ReorderLaws, TextReordered}
use Rattle.shapers_syllabic.proofs.ReorderingLaws.{text_reordered}
use Rattle.shapers_syllabic.proofs.LawsThen.{laws_by_step, laws_then, laws_where}
use Rattle.shapers_base.specs.declared.plan.indic.indic_shape_plan_t.{indic_shape_plan_t}
use Rattle.shapers_base.specs.Font.{Font}
use Rattle.shapers_base.specs.Map.{Map}

-- the step of Kannada
pub joiner_laws : (script : Option Script) → ReorderLaws (with_joiner_first script) (λ gs. joiner_step script gs ∷ [])
joiner_laws script =
    laws_by_step (with_joiner_first script) (joiner_step script) (joiner_fits script) (joiner_permutes script)
    (λ gs. sym (pick-map (λ g. plain (carried g)) (joiner_step script gs).places gs))

-- the step of the older specification's H, with all positions
abbrev pub halant_order : Rules → Option Script → Glyphs → Glyphs
halant_order r script gs = with_all_positions r script (base_place r gs) (with_base_positions r gs)

abbrev pub halant_step_of : Rules → Option Script → Glyphs → Step
halant_step_of r script gs = halant_step r script (base_place r gs) (with_base_positions r gs)

pub length-with_base : (r : Rules) (gs : Glyphs) → length (with_base_positions r gs) ≡ length gs
length-with_base r gs =
    length-same carried (with_base_positions r gs) gs
    (hidden-by_base carried carried_hides_positions (base_place r gs) (has_indic_reph r gs) gs)

pub halant_laws : (r : Rules) (script : Option Script)
    → ReorderLaws (halant_order r script) (λ gs. halant_step_of r script gs ∷ [])
halant_laws r script = laws_by_step (halant_order r script) (halant_step_of r script)
    (λ gs. subst (λ n. FitsStep n (halant_step_of r script gs)) (length-with_base r gs)
    (halant_fits r script (base_place r gs) (with_base_positions r gs)))
    (λ gs. subst (λ n. Permutes n (halant_step_of r script gs)) (length-with_base r gs)
    (halant_permutes r script (base_place r gs) (with_base_positions r gs)))
    (λ gs.
    let base = base_place r gs in
    let places = (halant_step_of r script gs).places in
    let moved = pick places (with_base_positions r gs) in
    hidden-with_owners_after (λ g. plain (carried g)) seen_hides_positions base (with_marks_attached moved)
    ∙ hidden-with_marks_attached (λ g. plain (carried g)) seen_hides_positions moved
    ∙ sym (pick-map (λ g. plain (carried g)) places (with_base_positions r gs))
    ∙ ap (pick places) (hidden-by_base (λ g. plain (carried g)) seen_hides_positions base (has_indic_reph r gs) gs))

-- the step of the order, with all masks
abbrev pub masked_order : Rules → Option Script → Glyphs → Glyphs
masked_order r script gs = masked_in_order r script (in_indic_order gs)

pub order_laws : (r : Rules) (script : Option Script)
    → ReorderLaws (masked_order r script) (λ gs. indic_order_step r gs ∷ [])
order_laws r script = laws_by_step (masked_order r script) (indic_order_step r) (order_fits r) ordered_permutes
    (λ gs.
    hidden-with_initial_masks (λ g. plain (carried g)) r (seen_hides_masks (bits_of r HALF)) script
    (ordered_base (in_indic_order gs)) (in_indic_order gs)
    ∙ sym (pick-map (λ g. plain (carried g)) (indic_ordered_places gs) gs))

-- all steps, and where the syllable is reordered
abbrev pub all_three : Rules → Option Script → Glyphs → Glyphs
all_three r script gs = masked_order r script (halant_order r script (with_joiner_first script gs))

pub three_laws : (r : Rules) (script : Option Script) → ReorderLaws (all_three r script) (steps_of_reordered r script)
three_laws r script =
    laws_then (with_joiner_first script) (λ gs. masked_order r script (halant_order r script gs))
    (λ gs. joiner_step script gs ∷ []) (λ gs. halant_step_of r script gs
    ∷ (indic_order_step r (halant_order r script gs) ∷ []))
    (joiner_laws script)
    (laws_then (halant_order r script) (masked_order r script) (λ gs. halant_step_of r script gs ∷ [])
    (λ gs. indic_order_step r gs ∷ []) (halant_laws r script) (order_laws r script))

pub initial_laws : InitialReorderLaws
initial_laws r script =
    laws_where is_reordered_in_indic (all_three r script) (steps_of_reordered r script) (three_laws r script)

-- the whole text after the pause
pub initial_text_reordered : (font : Font) (m : Map) (p : indic_shape_plan_t) (old new : Buffer)
    → InitiallyReordered font m p old new
    → TextReordered (initial_steps (initial_rules font m p) old.script) (with_positions_and_circles font m p old) new
initial_text_reordered font m p old new done =
    let r = initial_rules font m p in
    text_reordered (initial_order r old.script) (initial_steps r old.script) (with_positions_and_circles font m p old)
    new (initial_laws r old.script) done
