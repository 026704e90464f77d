use Rattle.std.proofs.Common.{◌≡◌, false, ◌<◌, ◌≤◌, ◌+ℤ◌, ◌≤ℤ◌, ◌*◌, ◌-◌, neg_ℤ, pos, not, length, map, sym, subst, ap, ◌∙◌, arith, rules, length-append, FitsSigned, to_z, of_z, [], ◌∷◌}
use Rattle.std.specs.List.{AllByRecursion, list_all}
use Rattle.std.proofs.lemmas.Int.{to_z-of_z}
use Rattle.std.specs.Slice.Iter.{chunks_rest}
use mir.Syntax.{w64, w128}
use Rattle.shapers_clusters.proofs.LabelsAsMerged.{all_split}
use Rattle.shapers_stretch.specs.Cells.{repeats}
use Rattle.shapers_stretch.specs.Measure.{fits_i32, left, total}
use Rattle.shapers_stretch.specs.Stretch.{fixed, measured, repeating, width_of}
use Rattle.shapers_stretch.specs.declared.ot_shaper_arabic_stretch.measuring.TileSequence.{TileSequence}
use Rattle.shapers_stretch.proofs.Numbers.{repeating_apart, same_run}
use Rattle.shapers_stretch.proofs.Sums.{kept_counted, kept_piece_counted, kept_piece_summed, kept_summed, length_kept, piece_bounds}
use Rattle.shapers_stretch.proofs.ot_shaper_arabic_stretch.measuring.measure_long.Goals as goal

pub overflow_add-repeaters : goal.overflow_add-repeaters
overflow_add-repeaters g c =
    let counted = kept_piece_counted repeats _ (chunks_rest c.loop-piece.piece-iterator) c.in-Some.piece.now
    (chunks_rest c.next.new.self) c.loop-piece.repeaters c.measure_short-measured.result.repeaters
    c.in-Some.ensures.steps.1.0 c.loop-piece.invariant.7
    (ap (λ (z : TileSequence). z.repeaters) c.measure_short-measured.ensures) in
    let few : length (repeating c.args.tiles.now) ≤ length c.args.tiles.now = search length_kept in
    let fits : length c.args.tiles.now ≤ 18446744073709551615 = omega arith in
    omega arith

pub loop-piece-preserved : goal.loop-piece-preserved
loop-piece-preserved g c =
    let font = g.F.hb_font_t.font c.args.font.now in
    let steps = c.in-Some.ensures.steps in
    let inv = c.loop-piece.invariant in
    let all = length c.args.tiles.now in
    let old = chunks_rest c.loop-piece.piece-iterator in
    let piece = c.in-Some.piece.now in
    let rest = chunks_rest c.next.new.self in
    let part = c.measure_short-measured.result in
    let first = to_z w128 c.loop-piece.fixed-bits in
    let second = to_z w128 c.loop-piece.repeating-bits in
    let more = c.from.result in
    let more_2 = c.from-in-loop-piece.result in
    let fits_part : FitsSigned w64 part.fixed = search rules in
    let fits_part_2 : FitsSigned w64 part.repeating = search rules in
    let short = c.from.ensures ∙ to_z-of_z w64 part.fixed fits_part in
    let short_2 = c.from-in-loop-piece.ensures ∙ to_z-of_z w64 part.repeating fits_part_2 in
    let is = c.measure_short-measured.ensures in
    let less : length rest < length old =
    omega (arith, ap length steps.1.0 ∙ length-append piece rest) in
    let most : all ≤ 18446744073709551615 = omega arith in
    let bounds =
    piece_bounds all (length old) (length rest) first more most less inv.3
    (subst (FitsSigned w64) (sym short) fits_part) inv.8 inv.9 in
    let bounds_2 =
    piece_bounds all (length old) (length rest) second more_2 most less inv.3
    (subst (FitsSigned w64) (sym short_2) fits_part_2) inv.10 inv.11 in
    let same =
    ap (λ x. to_z w128 (of_z w128 (first +ℤ x))) (to_z-of_z w128 more (record { sfits = c.from.type_inv }))
    ∙ to_z-of_z w128 (first +ℤ more) bounds.fits in
    let same_2 =
    ap (λ x. to_z w128 (of_z w128 (second +ℤ x))) (to_z-of_z w128 more_2
    (record { sfits = c.from-in-loop-piece.type_inv })) ∙ to_z-of_z w128 (second +ℤ more_2) bounds_2.fits in
    let summed = kept_piece_summed (width_of font) (λ g. not (repeats g)) _ old piece rest first more steps.1.0 inv.5
    (short ∙ ap (λ (z : TileSequence). z.fixed) is) in
    let summed_2 = kept_piece_summed (width_of font) repeats _ old piece rest second more_2 steps.1.0 inv.6 (short_2
    ∙ ap (λ (z : TileSequence). z.repeating) is) in (
      search rules,
      tt,
      steps.0 ∙ inv.2,
      omega arith,
      (all_split (λ g. g.glyph_id ≤ 65535) piece rest
          (subst (AllByRecursion (λ g. g.glyph_id ≤ 65535)) steps.1.0 inv.4)).1,
      ap (λ x. x +ℤ total (map (width_of font) (fixed rest))) same ∙ summed,
      ap (λ x. x +ℤ total (map (width_of font) (repeating rest))) same_2 ∙ summed_2,
      kept_piece_counted repeats _ old piece rest c.loop-piece.repeaters part.repeaters steps.1.0 inv.7 (ap (λ (z :
          TileSequence). z.repeaters) is),
      subst (λ x. neg_ℤ (pos (9223372036854775808 * (all - length rest))) ≤ℤ x) (sym same) bounds.low,
      subst (λ x. x ≤ℤ pos (9223372036854775808 * (all - length rest))) (sym same) bounds.high,
      subst (λ x. neg_ℤ (pos (9223372036854775808 * (all - length rest))) ≤ℤ x) (sym same_2) bounds_2.low,
      subst (λ x. x ≤ℤ pos (9223372036854775808 * (all - length rest))) (sym same_2) bounds_2.high,
    )

-- a sum that doesn't fit
word_apart : (z : TileSequence) → fits_i32 z.word ≡ false → list_all fits_i32 (z.word ∷ z.fixed ∷ z.repeating ∷ left z ∷ [])
    ≡ false
word_apart z e = cc

fixed_apart : (z : TileSequence) → fits_i32 z.fixed ≡ false → list_all fits_i32 (z.word ∷ z.fixed ∷ z.repeating ∷ left z ∷ [])
    ≡ false
fixed_apart = search arith

pub returns-in_err-narrowed : goal.returns-in_err-narrowed
returns-in_err-narrowed = search (arith, word_apart, to_z-of_z, w128)

pub returns-in_err-narrowed-2 : goal.returns-in_err-narrowed-2
returns-in_err-narrowed-2 g c =
    let font = g.F.hb_font_t.font c.args.font.now in
    let z = measured font c.args.word.now c.args.tiles.now in
    let done : to_z w128 c.loop-piece.fixed-bits ≡ z.fixed = kept_summed (width_of font) (λ g. not (repeats g)) _
    (chunks_rest c.loop-piece.piece-iterator) (to_z w128 c.loop-piece.fixed-bits) c.in-None.ensures.steps.1.0
    c.loop-piece.invariant.5 in
    search (arith, fixed_apart z (ap fits_i32 (sym done) ∙ c.in_err-narrowed-2.ensures))

pub returns-in_err-narrowed-3 : goal.returns-in_err-narrowed-3
returns-in_err-narrowed-3 g c =
    let font = g.F.hb_font_t.font c.args.font.now in
    let z = measured font c.args.word.now c.args.tiles.now in
    let done : to_z w128 c.loop-piece.repeating-bits ≡ z.repeating = kept_summed (width_of font) repeats _
    (chunks_rest c.loop-piece.piece-iterator) (to_z w128 c.loop-piece.repeating-bits) c.in-None.ensures.steps.1.0
    c.loop-piece.invariant.6 in
    search (arith, repeating_apart z (ap fits_i32 (sym done) ∙ c.in_err-narrowed-3.ensures))

pub returns : goal.returns
returns g c =
    let font = g.F.hb_font_t.font c.args.font.now in
    let rest = chunks_rest c.loop-piece.piece-iterator in
    let none = c.in-None.ensures.steps.1.0 in
    let inv = c.loop-piece.invariant in
    let word = to_z-of_z w64 c.in_ok-narrowed.field-0 (search rules) ∙ c.in_ok-narrowed.ensures
    ∙ to_z-of_z w128 c.total_advance-word.result
    (record { sfits = c.total_advance-word.type_inv }) ∙ c.total_advance-word.ensures in
    let first = to_z-of_z w64 c.in_ok-narrowed-2.field-0 (search rules) ∙ c.in_ok-narrowed-2.ensures
    ∙ kept_summed (width_of font) (λ g. not (repeats g)) _ rest (to_z w128 c.loop-piece.fixed-bits) none inv.5 in
    let second = to_z-of_z w64 c.in_ok-narrowed-3.field-0 (search rules) ∙ c.in_ok-narrowed-3.ensures
    ∙ kept_summed (width_of font) repeats _ rest (to_z w128 c.loop-piece.repeating-bits) none inv.6 in
    same_run _ _ _ _ _ _ _ _ word first second (kept_counted repeats _ rest c.loop-piece.repeaters none inv.7)
