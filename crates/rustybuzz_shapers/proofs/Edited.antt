-- Edited texts, from what the enum says of masks.
use Rattle.std.proofs.Common.{◌≡◌, ◌∙◌, ◌≤◌, ℕ, List, length, map, take, drop, Option, ap, subst, arith}
use Rattle.std.proofs.lemmas.List.{drop-map, length-map, map-append, take-map}
use Rattle.std.proofs.lemmas.Simd.{map-map}
use Rattle.shapers_buffer.specs.Buffer.{Buffer}
use Rattle.shapers_buffer.specs.Glyphs.{Glyph, Glyphs}
use Rattle.shapers_buffer.specs.declared.buffer.tag.Script.{Script}
use Rattle.shapers_base.specs.Font.{CharacterTables}
use Rattle.shapers_base.specs.declared.plan.breaks.BreakFlags.{BreakFlags}
use Rattle.shapers_arabic.specs.Edited.{StayNear, edited}
use Rattle.shapers_arabic.specs.JoinedText.{buffer_joined}
use Rattle.shapers_arabic.proofs.Edited.{glyphs-stay_near}
use Rattle.shapers_universal.specs.PlanData.{arabic_of}
use Rattle.shapers_universal.specs.UniversalMasks.{MasksAreSet, categorized, with_categories}
use Rattle.rustybuzz_shapers.specs.Edited.{TextsStayNear}
use Rattle.rustybuzz_shapers.specs.declared.shaper.hb_ot_shaper_t.TheVariants.{Arabic, Universal}
use Rattle.rustybuzz_shapers.proofs.Together.{some-of, types-categorized}

-- joined buffers, edited
edited_by : (breaks : BreakFlags) (masks : List ℕ) (script : Option Script) (tables : CharacterTables) (s e : ℕ)
    (gs : Glyphs) (old new other : Buffer) → let after =
    buffer_joined breaks masks script tables.joining tables.general in new ≡ after old
    → other ≡ after (edited s e gs old) → (s ≤ e) × (e ≤ length old.glyphs)
    → StayNear script tables.joining s e (length gs) old.glyphs new.glyphs other.glyphs
edited_by breaks masks script tables s e gs old new other first second inside =
    search (arith, glyphs-stay_near breaks masks script tables.joining tables.general s e gs old inside.0 inside.1)

pub texts_stay_near : TextsStayNear
texts_stay_near Arabic plan tables s e gs old new other joins set = search (arith, edited_by)
texts_stay_near Universal plan tables s e gs old new other joins set =
    let (own, is) = some-of (arabic_of plan.plan_data) joins in
    let script = plan.script in
    let change = categorized tables.universal in
    let both =
    (subst (λ o. MasksAreSet o script tables (edited s e gs old) other) is set.second).0
    ∙ ap (buffer_joined own.break_flags own.mask_array script tables.joining tables.general)
    (search (arith, map-append, take-map, drop-map)) in
    let places = set.inside in
    let near = edited_by own.break_flags own.mask_array script tables s e (map change gs) (with_categories tables old)
    new other (subst (λ o. MasksAreSet o script tables old new) is set.first).0 both (
      places.0,
      omega (arith, length-map old.glyphs change, places.1),
    ) in
    let change = categorized tables.universal in
    let same = λ (xs : Glyphs). types-categorized tables.joining tables xs in
    let stay = λ (xs : Glyphs). map-map (λ (g : Glyph). g.glyph_id) change xs in
    search (
      arith,
      take-map change s old.glyphs,
      stay (take s old.glyphs),
      same (take s old.glyphs),
      (subst (λ (m : ℕ). StayNear script tables.joining s e m (map change old.glyphs) new.glyphs other.glyphs)
          (length-map gs change) near).before,
      drop-map change e old.glyphs,
      stay (drop e old.glyphs),
      same (drop e old.glyphs),
      (subst (λ (m : ℕ). StayNear script tables.joining s e m (map change old.glyphs) new.glyphs other.glyphs)
          (length-map gs change) near).behind,
    )
texts_stay_near shaper plan tables s e gs old new other joins set = absurd joins
