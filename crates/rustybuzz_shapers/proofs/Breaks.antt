-- The break law, from what the enum says of masks.
use Rattle.std.proofs.Common.{◌≡◌, ◌∙◌, ◌<◌, ◌++◌, ℕ, List, Some, ap, arith, length, subst, sym}
use Rattle.std.proofs.lemmas.List.{drop-map, length-map, take-map}
use Rattle.std.proofs.lemmas.Simd.{map-map}
use Rattle.shapers_buffer.specs.Buffer.{Buffer}
use Rattle.shapers_buffer.specs.Glyph.{order_view}
use Rattle.shapers_buffer.specs.Glyphs.{Glyphs}
use Rattle.shapers_buffer.proofs.MappedLists.{all-mapped}
use Rattle.shapers_base.specs.Font.{CharacterTables}
use Rattle.shapers_base.specs.declared.plan.arabic.arabic_shape_plan_t.{arabic_shape_plan_t}
use Rattle.shapers_base.specs.declared.plan.hb_ot_shape_plan_t.{hb_ot_shape_plan_t}
use Rattle.shapers_arabic.specs.Breaks.{IsSpared, back_at, front_at}
use Rattle.shapers_arabic.specs.Fresh.{IsFresh, SelectorsAreTransparent}
use Rattle.shapers_arabic.specs.JoinedText.{buffer_joined}
use Rattle.shapers_arabic.specs.PlanData.{breaks_of, masks_of}
use Rattle.shapers_arabic.proofs.BrokenGlyphs.{breaks-where_clear, none-needless}
use Rattle.shapers_arabic.proofs.FirstPieces.{first-as_flagged}
use Rattle.shapers_universal.specs.PlanData.{arabic_of}
use Rattle.shapers_universal.specs.UniversalMasks.{MasksAreSet, with_categories}
use Rattle.shapers_universal.proofs.MaskLemmas.{text_stays}
use Rattle.rustybuzz_shapers.specs.Breaks.{BreaksAsFlagged, SetInHalves, TextsBreakAsFlagged}
use Rattle.rustybuzz_shapers.specs.declared.shaper.hb_ot_shaper_t.TheVariants.{Arabic, Universal}

-- two joined halves in the order view
abbrev views : Buffer → Buffer → Glyphs
views one two = order_view one.glyphs ++ order_view two.glyphs

same_views : (one two front back : Buffer) → one ≡ front → two ≡ back → views front back ≡ views one two
same_views one two front back e f = cc

same_view : (one front : Buffer) → one ≡ front → order_view front.glyphs ≡ order_view one.glyphs
same_view one front e = cc

arabic_breaks : (plan : hb_ot_shape_plan_t) (tables : CharacterTables) (n : ℕ) (old new one two : Buffer)
    → SetInHalves Arabic plan tables n old new one two
    → BreaksAsFlagged (breaks_of plan.plan_data) (masks_of plan.plan_data) plan.script tables n old new one two
arabic_breaks plan tables n old new one two set =
    let breaks = breaks_of plan.plan_data in
    let masks = masks_of plan.plan_data in
    let script = plan.script in
    let joining = tables.joining in
    let general = tables.general in
    let front = buffer_joined breaks masks script joining general (front_at n old) in
    let same = same_views one two front (buffer_joined breaks masks script joining general (back_at n old)) set.first.0
    set.second.0 in
    let same_first = same_view one front set.first.0 in
    let keeps = first-as_flagged breaks masks script joining general old new set.whole.0 n set.inside.0 set.inside.1 in
    record {
      clear = λ clear spared. breaks-where_clear breaks masks script joining general old new set.whole.0 n set.inside.0
          set.inside.1 clear spared ∙ same;
      needless = λ e fresh silent may. none-needless breaks masks script joining general old new set.whole.0 e fresh
          silent n set.inside.0 set.inside.1 (may ∙ sym same);
      first = λ clear. keeps.0 clear ∙ same_first;
      first_needless = λ e fresh silent kept. keeps.1 e fresh silent (kept ∙ sym same_first);
    }

-- categories leave a fresh text fresh
fresh_stays : (tables : CharacterTables) (masks : List ℕ) (b : Buffer) → IsFresh masks b.glyphs
    → IsFresh masks (with_categories tables b).glyphs
fresh_stays tables masks b fresh = search (arith, map-map, all-mapped)

universal_breaks : (plan : hb_ot_shape_plan_t) (tables : CharacterTables) (n : ℕ) (old new one two : Buffer)
    (joins : arabic_shape_plan_t) → arabic_of plan.plan_data ≡ Some joins
    → SetInHalves Universal plan tables n old new one two
    → BreaksAsFlagged joins.break_flags joins.mask_array plan.script tables n old new one two
universal_breaks plan tables n old new one two joins is set =
    let breaks = joins.break_flags in
    let masks = joins.mask_array in
    let script = plan.script in
    let joining = tables.joining in
    let general = tables.general in
    let whole =
    subst (λ o. MasksAreSet o script tables old new) is set.whole in
    let first =
    subst (λ o. MasksAreSet o script tables (front_at n old) one) is set.first in
    let before = with_categories tables old in
    let inside : n < length before.glyphs =
    search (arith, length-map) in
    let front = first.0 ∙ ap (buffer_joined breaks masks script joining general) (search (arith, take-map)) in
    let back =
    (subst (λ o. MasksAreSet o script tables (back_at n old) two) is set.second).0
    ∙ ap (buffer_joined breaks masks script joining general) (search (arith, drop-map)) in
    let same = same_views one two (buffer_joined breaks masks script joining general (front_at n before))
    (buffer_joined breaks masks script joining general (back_at n before)) front back in
    let same_first = same_view one (buffer_joined breaks masks script joining general (front_at n before)) front in
    let still = fresh_stays tables masks old in
    let text = sym (text_stays tables joining general old) in
    let silent_stays = subst (SelectorsAreTransparent script) text in
    let keeps = first-as_flagged breaks masks script joining general before new whole.0 n set.inside.0 inside in
    record {
      clear = λ clear spared. breaks-where_clear breaks masks script joining general before new whole.0 n set.inside.0
          inside clear (subst (λ text. IsSpared breaks script text n) text spared) ∙ same;
      needless = λ e fresh silent may. none-needless breaks masks script joining general before new whole.0 e
          (still fresh) (silent_stays silent) n set.inside.0 inside (may ∙ sym same);
      first = λ clear. keeps.0 clear ∙ same_first;
      first_needless = λ e fresh silent kept. keeps.1 e (still fresh) (silent_stays silent) (kept ∙ sym same_first);
    }

pub texts_break : TextsBreakAsFlagged
texts_break = search (arith, arabic_breaks, universal_breaks)
