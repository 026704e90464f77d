-- The initial reordering doesn't read the serials of syllables: what it makes of glyphs, and its steps.
use Rattle.std.proofs.Common.{ℕ, ◌≡◌, Bool, true, false, if◌then◌else◌, List, [], ◌∷◌, map, Option, None, Some, refl, sym, ◌∙◌, ap, arith}
use Rattle.std.proofs.lemmas.List.{length-map}
use Rattle.shapers_buffer.specs.Glyphs.{Glyph, Glyphs}
use Rattle.shapers_buffer.specs.declared.buffer.tag.Script.{Script}
use Rattle.shapers_buffer.specs.Glyph.{at_position}
use Rattle.shapers_buffer.specs.Places.{pick}
use Rattle.shapers_buffer.specs.Syllables.{kind_of}
use Rattle.shapers_clusters.specs.Steps.{Step}
use Rattle.shapers_clusters.proofs.EqualArguments.{same_two}
use Rattle.shapers_clusters.proofs.Picks.{pick-map}
use Rattle.shapers_indic_initial.specs.InitialBase.{base_place}
use Rattle.shapers_indic_initial.specs.InitialMasks.{with_initial_masks}
use Rattle.shapers_indic_initial.specs.InitialOrder.{ordered_base, ordered_stretches}
use Rattle.shapers_indic_initial.specs.InitialPositions.{with_marks_attached, with_owners_after}
use Rattle.shapers_indic_initial.specs.InitialReordering.{halant_step, in_indic_order, is_reordered_in_indic, joiner_step, masked_in_order, indic_order_step, with_base_positions, initial_order, initial_steps}
use Rattle.shapers_base.specs.declared.font.GlyphId.{GlyphId}
use Rattle.shapers_base.specs.declared.plan.indic.indic_shape_plan_t.{indic_shape_plan_t}
use Rattle.shapers_base.specs.Font.{Font}
use Rattle.shapers_base.specs.Map.{Map}
use Rattle.shapers_indic_initial.specs.InitialFont.{all_by_virama, by_virama, positions_by_font}
use Rattle.shapers_indic_initial.specs.InitialRules.{Rules, initial_rules}
use Rattle.shapers_indic_initial.specs.InitialLaws.{OrderByFontReadsNoSerials}
use Rattle.shapers_indic_initial.specs.Proved.InitialLaws.{halant_order, halant_step_of, masked_order}
use Rattle.shapers_indic_initial.proofs.InitialReads.{View, base_stays, ordered_base_stays, ordered_places_stay}
use Rattle.shapers_indic_initial.proofs.MaskViews.{masks_shown}
use Rattle.shapers_indic_initial.proofs.InitialWrites.{halant_places_stay, with_base_stays, with_marks_stays, with_owners_after_stays}
use Rattle.shapers_syllabic.specs.Borders.{unnumbered}
use Rattle.shapers_syllabic.proofs.LawsThen.{reads_by_view, reads_then, reads_where}
use Rattle.shapers_syllabic.specs.ReorderingLaws.{ReadsNoSerials}

-- the view without serials
abbrev kinds : View
kinds = record { cluster = λ c. c; mask = λ m. m; syllable = kind_of }

-- the step of Kannada
joiner_step_stays : (script : Option Script) (gs : Glyphs) → joiner_step script (map unnumbered gs)
    ≡ joiner_step script gs
joiner_step_stays = search (arith, length-map)

-- the older specification's H
halant_step_of_stays : (r : Rules) (script : Option Script) (gs : Glyphs)
    → halant_step_of r script (map unnumbered gs) ≡ halant_step_of r script gs
halant_step_of_stays r script gs =
    same_two (halant_step r script) (base_stays kinds r gs) (with_base_stays kinds r gs)
    ∙ (cc (halant_places_stay kinds r script (base_place r gs) (with_base_positions r gs)))

halant_order_stays : (r : Rules) (script : Option Script) (gs : Glyphs)
    → map unnumbered (halant_order r script gs) ≡ halant_order r script (map unnumbered gs)
halant_order_stays r script gs =
    let ps = (halant_step_of r script gs).places in
    cc (
      with_owners_after_stays kinds (base_place r gs) (with_marks_attached (pick ps (with_base_positions r gs))),
      with_marks_stays kinds (pick ps (with_base_positions r gs)),
      pick-map unnumbered ps (with_base_positions r gs),
      with_base_stays kinds r gs,
      same_two (λ base (st : Step). with_owners_after base (with_marks_attached (pick st.places (with_base_positions r
          (map unnumbered gs))))) (sym (base_stays kinds r gs)) (sym (halant_step_of_stays r script gs)),
    )

-- the order
in_order_stays : (gs : Glyphs) → map unnumbered (in_indic_order gs) ≡ in_indic_order (map unnumbered gs)
in_order_stays gs = cc (pick-map _ _ gs, ordered_places_stay kinds gs)

order_step_stays : (r : Rules) (gs : Glyphs) → indic_order_step r (map unnumbered gs) ≡ indic_order_step r gs
order_step_stays r gs =
    same_two (λ (ps : List ℕ) (base : ℕ).
    (record { merged_first = []; places = ps; merged_then = ordered_stretches r ps base })) (ordered_places_stay kinds gs)
    (cc (in_order_stays gs, ordered_base_stays kinds (in_indic_order gs)))

-- masks
masked_order_stays : (r : Rules) (script : Option Script) (gs : Glyphs)
    → map unnumbered (masked_order r script gs) ≡ masked_order r script (map unnumbered gs)
masked_order_stays r script gs =
    let xs = in_indic_order gs in
    masks_shown kinds r (search arith) script (ordered_base xs) xs
    ∙ ap (λ base. with_initial_masks r script base (map unnumbered xs)) (sym (ordered_base_stays kinds xs))
    ∙ ap (masked_in_order r script) (in_order_stays gs)

-- all steps, and where the syllable is reordered
kinds_read : (gs : Glyphs) → is_reordered_in_indic (map unnumbered gs) ≡ is_reordered_in_indic gs
kinds_read [] = refl
kinds_read (g ∷ gs) = search arith

initial_reads_no_serials : (r : Rules) (script : Option Script)
    → ReadsNoSerials (initial_order r script) (initial_steps r script)
initial_reads_no_serials r script =
    reads_where _ _ _ (λ gs hs same. search arith) (reads_then _ _ _ _
    (reads_by_view _ _ (search (pick-map, joiner_step_stays))
    (λ gs. ap (λ (st : Step). st ∷ []) (joiner_step_stays script gs))) (reads_then _ _ _ _
    (reads_by_view _ _ (halant_order_stays r script)
    (λ gs. ap (λ (st : Step). st ∷ []) (halant_step_of_stays r script gs)))
    (reads_by_view _ _ (masked_order_stays r script) (λ gs. ap (λ (st : Step). st ∷ []) (order_step_stays r gs)))))

-- positions by the font
if_position : (b : Bool) (p : ℕ) (g : Glyph) → unnumbered (if b then at_position p g else g)
    ≡ (if b then at_position p (unnumbered g) else unnumbered g)
if_position true p g = refl
if_position false p g = refl

by_virama_stays : (font : Font) (m : Map) (p : indic_shape_plan_t) (v : GlyphId) (gs : Glyphs)
    → map unnumbered (map (by_virama font m p v) gs) ≡ map (by_virama font m p v) (map unnumbered gs)
by_virama_stays font m p v [] = refl
by_virama_stays font m p v (g ∷ gs) = search (arith, by_virama_stays font m p v gs)

all_by_virama_stay : (font : Font) (m : Map) (p : indic_shape_plan_t) (o : Option GlyphId) (gs : Glyphs)
    → map unnumbered (all_by_virama font m p o gs) ≡ all_by_virama font m p o (map unnumbered gs)
all_by_virama_stay font m p None gs = refl
all_by_virama_stay font m p (Some v) gs = by_virama_stays font m p v gs

by_font_same : (font : Font) (m : Map) (p : indic_shape_plan_t) (gs hs : Glyphs)
    → map unnumbered gs ≡ map unnumbered hs → map unnumbered (positions_by_font font m p gs)
    ≡ map unnumbered (positions_by_font font m p hs)
by_font_same = search (arith, all_by_virama_stay)

pub order_by_font_reads_no_serials : OrderByFontReadsNoSerials
order_by_font_reads_no_serials font m p script =
    let reads = initial_reads_no_serials (initial_rules font m p) script in
    record {
      meant = λ gs hs same. reads.meant _ _ (by_font_same font m p gs hs same);
      led = λ gs hs same. reads.led _ _ (by_font_same font m p gs hs same);
    }
