-- Texts put together, from what the enum says of masks.
use Rattle.std.proofs.Common.{◌≡◌, ◌∙◌, ◌<◌, ℕ, true, List, length, map, Option, None, Some, refl, ap, subst, arith}
use Rattle.std.specs.Option.{is_some}
use Rattle.std.proofs.lemmas.List.{drop-map, length-map, map-append, take-map}
use Rattle.std.proofs.lemmas.Simd.{map-map}
use Rattle.shapers_buffer.specs.Buffer.{Buffer, has_flag}
use Rattle.shapers_buffer.specs.Glyphs.{Glyphs}
use Rattle.shapers_buffer.specs.declared.buffer.tag.Script.{Script}
use Rattle.shapers_base.specs.Font.{CharacterTables}
use Rattle.shapers_base.specs.declared.plan.arabic.arabic_shape_plan_t.{arabic_shape_plan_t}
use Rattle.shapers_base.specs.declared.plan.breaks.BreakFlags.{BreakFlags}
use Rattle.shapers_base.specs.declared.plan.joining.hb_arabic_joining_type_t.{hb_arabic_joining_type_t}
use Rattle.shapers_clusters.specs.Borders.{IsBare}
use Rattle.shapers_clusters.specs.Breaks.{IsClear}
use Rattle.shapers_arabic.specs.JoinedText.{buffer_joined, stored_types}
use Rattle.shapers_arabic.specs.Together.{HasOwnLetter, KeepsParts, together_at}
use Rattle.shapers_arabic.proofs.Together.{glyphs-concatenate}
use Rattle.shapers_universal.specs.PlanData.{arabic_of}
use Rattle.shapers_universal.specs.UniversalMasks.{MasksAreSet, categorized, with_categories}
use Rattle.rustybuzz_shapers.specs.Together.{TextsConcatenate}
use Rattle.rustybuzz_shapers.specs.declared.shaper.hb_ot_shaper_t.TheVariants.{Arabic, Universal}

-- joined buffers put together
together_by : (breaks : BreakFlags) (masks : List ℕ) (script : Option Script) (tables : CharacterTables) (n m : ℕ)
    (one two one_new two_new new : Buffer) → let after =
    buffer_joined breaks masks script tables.joining tables.general in one_new ≡ after one → two_new ≡ after two
    → new ≡ after (together_at n m one two) → has_flag 0x40 two.flags ≡ true → ((0 < n) × (n < length one.glyphs))
    × ((0 < m) × (m < length two.glyphs)) → HasOwnLetter tables.joining tables.general m two → IsClear one_new.glyphs n
    → IsBare two_new.glyphs m → KeepsParts script n m one_new.glyphs two_new.glyphs new.glyphs
together_by breaks masks script tables n m one two one_new two_new new first second whole wants inside letter clear bare
    =
    search (
      arith,
      glyphs-concatenate breaks masks script tables.joining tables.general n m one two wants inside.0.0 inside.0.1
          inside.1.0 inside.1.1 letter (subst (λ (b : Buffer). IsClear b.glyphs n) first clear)
          (subst (λ (b : Buffer). IsBare b.glyphs m) second bare),
    )

-- categories leave the types, and what is put together
pub types-categorized : (joining : ℕ → hb_arabic_joining_type_t) (tables : CharacterTables) (gs : Glyphs)
    → stored_types joining (map (categorized tables.universal) gs) ≡ stored_types joining gs
types-categorized = search (arith, map-map)

pub some-of : (o : Option arabic_shape_plan_t) → is_some o ≡ true → (joins : arabic_shape_plan_t) × (o ≡ Some joins)
some-of (Some joins) e = (joins, refl)
some-of None e = cc

pub texts_concatenate : TextsConcatenate
texts_concatenate Arabic plan tables n m one two one_new two_new new joins set clear bare =
    search (arith, together_by)
texts_concatenate Universal plan tables n m one two one_new two_new new joins set clear bare =
    let (own, is) = some-of (arabic_of plan.plan_data) joins in
    let script = plan.script in
    let both =
    (subst (λ o. MasksAreSet o script tables (together_at n m one two) new) is set.whole).0
    ∙ ap (buffer_joined own.break_flags own.mask_array script tables.joining tables.general)
    (search (arith, map-append, take-map, drop-map)) in
    let change = categorized tables.universal in
    let places = set.inside in
    together_by own.break_flags own.mask_array script tables n m (with_categories tables one)
    (with_categories tables two) one_new two_new new
    (subst (λ o. MasksAreSet o script tables one one_new) is set.first).0
    (subst (λ o. MasksAreSet o script tables two two_new) is set.second).0 both set.wants (
      (
        places.0.0,
        omega (arith, length-map one.glyphs change, places.0.1),
      ),
      (
        places.1.0,
        omega (arith, length-map two.glyphs change, places.1.1),
      ),
    ) (search (arith, drop-map, types-categorized)) clear bare
texts_concatenate shaper plan tables n m one two one_new two_new new joins set clear bare = absurd joins
