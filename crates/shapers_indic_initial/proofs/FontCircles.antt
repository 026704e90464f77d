-- Positions by the font and dotted circles: neither reads what the other gives.
use Rattle.std.proofs.Common.{arith}
use Rattle.std.proofs.Common.{◌≡◌, ℕ, ◌==◌, false, List, [], ◌∷◌, length, map, flat_map, refl, sym, Option, Some, None}
use Rattle.std.proofs.lemmas.List.{map-append, map-id, take-map, drop-map}
use Rattle.shapers_buffer.specs.Glyphs.{Glyph, Glyphs}
use Rattle.shapers_buffer.specs.Buffer.{Buffer}
use Rattle.shapers_buffer.specs.Glyph.{order_view, at_position}
use Rattle.shapers_buffer.specs.Syllables.{syllables}
use Rattle.shapers_base.specs.declared.font.GlyphId.{GlyphId}
use Rattle.shapers_base.specs.declared.plan.indic.indic_shape_plan_t.{indic_shape_plan_t}
use Rattle.shapers_base.specs.declared.plan.ot_position_t.TheConstants.{POS_BASE_C, POS_END}
use Rattle.shapers_base.specs.declared.plan.ot_category_t.TheConstants.{OT_DOTTEDCIRCLE, OT_Repha}
use Rattle.shapers_syllabic.specs.declared.ot_shaper_syllabic.kinds.indic_syllable.TheConstants.{BROKEN_CLUSTER}
use Rattle.shapers_base.specs.Font.{Font}
use Rattle.shapers_base.specs.Map.{Map}
use Rattle.shapers_clusters.specs.Steps.{Step, after_steps}
use Rattle.shapers_indic_initial.specs.InitialFont.{all_by_virama, by_virama, positions_by_font}
use Rattle.shapers_indic_initial.specs.InitialPause.{InitiallyLinked, InitiallyReordered, initial_circles, order_by_font, steps_by_font, with_positions_and_circles}
use Rattle.shapers_indic_initial.specs.InitialLaws.{InitialCutsBetweenSpans, InitiallyAsPause}
use Rattle.shapers_indic_initial.specs.InitialReordering.{InitialRelation, initial_order, initial_steps}
use Rattle.shapers_indic_initial.specs.InitialRules.{initial_rules}
use Rattle.shapers_indic_initial.proofs.FontPositions.{by_virama-syllable, font_positions-carried, font_positions-viewed, laws_by_font, length-font_positions}
use Rattle.shapers_indic_initial.proofs.InitialSerialsStay.{order_by_font_reads_no_serials}
use Rattle.shapers_syllabic.specs.declared.ot_shaper_syllabic.circles.DottedCircles.{DottedCircles}
use Rattle.shapers_syllabic.specs.Circles.{circle_in, circled, circles_for, is_of_kind, rephas_len}
use Rattle.shapers_indic_initial.specs.Proved.InitialLaws.{initial_laws}
use Rattle.shapers_syllabic.proofs.LinkedSyllables.{text_moved}
use Rattle.shapers_syllabic.proofs.ReorderingLaws.{numbers_kept}
use Rattle.shapers_syllabic.specs.Reordering.{PauseReordered, SyllablesLinked, carried, text_order, text_steps}
use Rattle.shapers_syllabic.proofs.Borders.{syllables-viewed}
use Rattle.shapers_syllabic.proofs.HiddenCuts.{pauses_cut_between_spans}
use Rattle.shapers_syllabic.specs.Borders.{spans_setup}
use Rattle.shapers_syllabic.proofs.ReorderingLemmas.{after_steps-carried}

-- circles whose position isn't BASE_C, so that the font gives them none
abbrev pub NotAtBase : Option DottedCircles → Type 0
NotAtBase None = Unit {0}
NotAtBase (Some rule) = (rule.circle.auxiliary == POS_BASE_C) ≡ false

circles_not_at_base : (o : Option GlyphId) (b : Buffer)
    → NotAtBase (circles_for o BROKEN_CLUSTER OT_DOTTEDCIRCLE (Some OT_Repha) (Some POS_END) b)
circles_not_at_base None b = tt
circles_not_at_base (Some glyph) b = search arith

-- a glyph but for its position
by_virama-others : (font : Font) (m : Map) (p : indic_shape_plan_t) (v : GlyphId) (g : Glyph)
    → at_position 0 (by_virama font m p v g) ≡ at_position 0 g
by_virama-others = search arith

circle_stays : (font : Font) (m : Map) (p : indic_shape_plan_t) (v : GlyphId) (c : Glyph)
    → (c.auxiliary == POS_BASE_C) ≡ false → by_virama font m p v c ≡ c
circle_stays font m p v c none = cc

circle_in_stays : (font : Font) (m : Map) (p : indic_shape_plan_t) (v : GlyphId) (c : Glyph)
    (xs : Glyphs) → (c.auxiliary == POS_BASE_C) ≡ false → circle_in (map (by_virama font m p v) xs) c
    ≡ by_virama font m p v (circle_in xs c)
circle_in_stays font m p v c [] none = search
circle_in_stays font m p v c (g ∷ xs) none = search arith

rephas_stay : (font : Font) (m : Map) (p : indic_shape_plan_t) (v : GlyphId) (repha : Option ℕ)
    (xs : Glyphs) → rephas_len repha (map (by_virama font m p v) xs) ≡ rephas_len repha xs
rephas_stay font m p v (Some c) (g ∷ xs) = search (arith, rephas_stay font m p v (Some c) xs)
rephas_stay font m p v _ _ = refl

kind_stays : (font : Font) (m : Map) (p : indic_shape_plan_t) (v : GlyphId) (k : ℕ) (xs : Glyphs)
    → is_of_kind k (map (by_virama font m p v) xs) ≡ is_of_kind k xs
kind_stays font m p v k [] = refl
kind_stays font m p v k (g ∷ xs) = search arith

joined_past : (f : Glyph → Glyph) (change : Glyphs → Glyphs) → ((xs : Glyphs) → change (map f xs) ≡ map f (change xs))
    → (ps : List Glyphs) → flat_map change (map (map f) ps) ≡ map f (flat_map change ps)
joined_past f change past [] = refl
joined_past f change past (x ∷ ps) = search (arith, map-append, joined_past f change past ps)

-- circles of the text with positions by the font
pub circled_by_font : (font : Font) (m : Map) (p : indic_shape_plan_t) (v : Option GlyphId)
    (circles : Option DottedCircles) → NotAtBase circles → (gs : Glyphs)
    → circled circles (all_by_virama font m p v gs) ≡ all_by_virama font m p v (circled circles gs)
circled_by_font font m p (Some v) (Some rule) none gs = search (arith, syllables-viewed, joined_past, kind_stays, rephas_stay, take-map, circle_in_stays, drop-map, map-append)
circled_by_font font m p _ _ none gs = refl

-- syllables of the text with positions by the font: what they become, and by which steps
syllables_by_font : (font : Font) (m : Map) (p : indic_shape_plan_t) (v : Option GlyphId) (gs : Glyphs)
    → syllables (all_by_virama font m p v gs) ≡ map (all_by_virama font m p v) (syllables gs)
syllables_by_font font m p None gs = sym (map-id _)
syllables_by_font font m p (Some v) gs = syllables-viewed _ (by_virama-syllable font m p v) gs

joined_after : (first change : Glyphs → Glyphs) (ps : List Glyphs)
    → flat_map change (map first ps) ≡ flat_map (λ xs. change (first xs)) ps
joined_after first change [] = refl
joined_after first change (x ∷ ps) = cc (joined_after first change ps)

abbrev piece_of : (Glyphs → List Step) → Glyphs → ℕ × List Step
piece_of steps xs = (length xs, steps xs)

pieces_after : (first : Glyphs → Glyphs) (steps : Glyphs → List Step)
    → ((xs : Glyphs) → length (first xs) ≡ length xs) → (ps : List Glyphs)
    → map (piece_of steps) (map first ps) ≡ map (piece_of (λ xs. steps (first xs))) ps
pieces_after first steps long [] = refl
pieces_after first steps long (x ∷ ps) = cc (long x, pieces_after first steps long ps)

-- The pause by syllables and that of the whole text: what they make of a text, and where their steps lead.
record SamePause (font : Font) (m : Map) (p : indic_shape_plan_t) (old : Buffer) : Type 0 where
  pub order : text_order (initial_order (initial_rules font m p) old.script)
      (order_view (with_positions_and_circles font m p old).glyphs)
      ≡ text_order (order_by_font font m p old.script) (order_view (circled (initial_circles font old) old.glyphs))
  pub moved :
      map carried (after_steps old.level
      (text_steps (initial_steps (initial_rules font m p) old.script)
      (order_view (with_positions_and_circles font m p old).glyphs))
      (with_positions_and_circles font m p old).glyphs)
      ≡ map carried
      (after_steps old.level
      (text_steps (steps_by_font font m p old.script) (order_view (circled (initial_circles font old) old.glyphs)))
      (circled (initial_circles font old) old.glyphs))

same_pause : (font : Font) (m : Map) (p : indic_shape_plan_t) (old : Buffer) → SamePause font m p old
same_pause = search (
  arith,
  circled_by_font,
  circles_not_at_base,
  font_positions-viewed,
  syllables_by_font,
  joined_after,
  after_steps-carried,
  font_positions-carried,
  pieces_after,
  length-font_positions,
)

-- the one is the other
pub initially_reordered : (font : Font) (m : Map) (p : indic_shape_plan_t) (old new : Buffer)
    → PauseReordered (initial_circles font old) (order_by_font font m p old.script) (steps_by_font font m p old.script)
    old new → InitiallyReordered font m p old new
initially_reordered font m p old new done = let same = same_pause font m p old in search

pub paused_by_font : (font : Font) (m : Map) (p : indic_shape_plan_t) (old new : Buffer)
    → InitiallyReordered font m p old new
    → PauseReordered (initial_circles font old) (order_by_font font m p old.script) (steps_by_font font m p old.script)
    old new
paused_by_font font m p old new done = let same = same_pause font m p old in search arith

-- the text gets its circles, positions by the font, and then its order
pub linked_behind_circles : (font : Font) (m : Map) (p q : indic_shape_plan_t) (b0 b1 b2 new : Buffer) → q ≡ p
    → b1 ≡ (let b : Buffer = record b0 { glyphs = circled (initial_circles font b0) b0.glyphs } in b)
    → b2 ≡ (let b : Buffer = record b1 { glyphs = positions_by_font font m q b1.glyphs } in b)
    → SyllablesLinked (InitialRelation (initial_rules font m q)) b2 new → InitiallyLinked font m p b0 new
linked_behind_circles = search (arith, circled_by_font)

-- the chain as a whole text
pub initially_linked : (font : Font) (m : Map) (p : indic_shape_plan_t) (old new : Buffer)
    → InitiallyLinked font m p old new → InitiallyReordered font m p old new
initially_linked font m p old new chain =
    text_moved _ _ _ _ new (λ script. numbers_kept _ _ (initial_laws (initial_rules font m p) script))
    (λ s e b c done. done) chain

pub initially_as_pause : InitiallyAsPause
initially_as_pause = search (paused_by_font, initially_reordered)

-- so it may be cut between spans, directly behind a set-up
pub initial_cuts_between_spans : InitialCutsBetweenSpans
initial_cuts_between_spans font m p spans old new kinds done =
    let script = old.script in
    pauses_cut_between_spans _ _ _ (laws_by_font font m p _ script) (order_by_font_reads_no_serials font m p script)
    _ spans old new kinds (paused_by_font font m p (spans_setup spans _ old) new done)
