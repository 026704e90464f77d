-- How long a text gets, and when it is never too long.
use Rattle.std.proofs.Common.{ℕ, ◌+◌, ◌*◌, ◌≤◌, ◌≡◌, ◌≢◌, List, [], ◌∷◌, length, map, refl, arith, cond}
use Rattle.std.specs.Prelude.{Bool, true, false, Option, None, Some, Result, Ok, Err, IsOk, IsOkUnless, option_map, if◌then◌else◌}
use Rattle.std.specs.List.{count_by, flat_map}
use Rattle.std.proofs.lemmas.Bool.{false≢true}
use Rattle.std.proofs.lemmas.List.{length-append, length-map}
use Rattle.std.proofs.lemmas.List.Elements.{length_all_zip}
use Rattle.std.proofs.lemmas.List.Sorted.{length_permutation}
use Rattle.std.proofs.lemmas.List.Sums.{count_by-le-length, sum_by-cons}
use Rattle.shapers_base.specs.declared.plan.hb_ot_shape_plan_t.{hb_ot_shape_plan_t}
use Rattle.shapers_base.specs.declared.plan.pause.Pause.TheVariants.{SetupSyllablesIndic, SetupSyllablesKhmer, SetupSyllablesMyanmar, SetupSyllablesUse, InitialReordering, ReorderKhmer, ReorderMyanmar, ReorderUse, FinalReordering}
use Rattle.shapers_base.specs.Font.{Font, has_nominal}
use Rattle.shapers_buffer.specs.Buffer.{Buffer}
use Rattle.shapers_buffer.specs.Glyphs.{Glyph, Glyphs}
use Rattle.shapers_buffer.specs.declared.buffer.refusal.ShaperError.{ShaperError}
use Rattle.shapers_buffer.specs.declared.buffer.refusal.ShaperError.TheVariants.{Memory, TooLong, UnknownSyllable, SpansDontCover}
use Rattle.shapers_buffer.specs.Refusals.{RefusesInput, RefusesLength}
use Rattle.shapers_buffer.specs.Syllables.{syllables}
use Rattle.shapers_clusters.specs.FlagLaw.{OnlyFlagsAdded}
use Rattle.shapers_hangul.specs.Hangul.{allows_circles}
use Rattle.shapers_hangul.proofs.Changes.{length-flagged}
use Rattle.shapers_syllabic.specs.Circles.{circled, is_of_kind}
use Rattle.shapers_syllabic.specs.declared.ot_shaper_syllabic.circles.DottedCircles.{DottedCircles}
use Rattle.shapers_syllabic.proofs.CircleLaws.{joined-syllables, length-with_circles}
use Rattle.shapers_text.specs.Thai.{glyph_rule, in_parts, is_sara_am, nikhahit, sara_aa}
use Rattle.shapers_text.specs.ThaiForms.{asks_for_forms, preprocessed_flagged, preprocessed_text}
use Rattle.shapers_text.specs.ThaiLaws.{kept_view}
use Rattle.shapers_text.proofs.ThaiInTwo.{lengths}
use Rattle.shapers_text.proofs.ThaiKept.{kept_in_two}
use Rattle.shapers_text.proofs.ThaiWholeMarks.{clusters-flagged}
use Rattle.rustybuzz_shapers.specs.Hooks.{Preprocessed}
use Rattle.rustybuzz_shapers.specs.Lengths.{PausesGrow, PausesHaveRoom, PreprocessingGrows, PreprocessingHasRoom, broken_in}
use Rattle.rustybuzz_shapers.specs.Pauses.{RefusesReordering}
use Rattle.rustybuzz_shapers.specs.declared.shaper.hb_ot_shaper_t.TheVariants.{Hangul, Indic, Thai, Universal}
use Rattle.rustybuzz_shapers.proofs.HangulLong.{hangul_long}

same_long : (old new : Buffer) → new ≡ old → length new.glyphs ≡ length old.glyphs
same_long old new is = cc

-- THAI
abbrev ams_in : Glyphs → ℕ
ams_in gs = count_by (λ g. is_sara_am g.glyph_id) gs

one_or_two : (b : Bool) (g : Glyph) → length (if b then nikhahit g ∷ (sara_aa g ∷ []) else g ∷ []) ≡ 1 + cond b 1 0
one_or_two true g = refl
one_or_two false g = refl

parts_long : (gs : Glyphs) → length (flat_map (in_parts glyph_rule) gs) ≡ length gs + ams_in gs
parts_long [] = refl
parts_long (g ∷ gs) = search (
  arith,
  length-append (in_parts glyph_rule g) (flat_map (in_parts glyph_rule) gs),
  one_or_two (is_sara_am g.glyph_id) g,
  sum_by-cons (λ (x : Glyph). cond (is_sara_am x.glyph_id) 1 0) g gs,
  parts_long gs,
)

thai_long : (plan : hb_ot_shape_plan_t) (font : Font) (old new : Buffer) → Preprocessed Thai plan font old new
    → length new.glyphs ≡ length old.glyphs + ams_in old.glyphs
thai_long plan font old new is =
    let forms = asks_for_forms plan in
    let made = preprocessed_text forms (has_nominal font) old.level old.glyphs in
    let parts = flat_map (in_parts glyph_rule) old.glyphs in
    cc (
      length-map (preprocessed_flagged plan.break_flags forms (has_nominal font) old.level old.glyphs)
          (λ g. g.cluster),
      clusters-flagged plan.break_flags forms (has_nominal font) old.level old.glyphs,
      length-map made (λ g. g.cluster),
      length-map made (kept_view forms),
      length_permutation (map (kept_view forms) parts) (map (kept_view forms) made)
          (kept_in_two forms (has_nominal font) old.level old.glyphs),
      length-map parts (kept_view forms),
      parts_long old.glyphs,
    )

pub preprocessing_grows : PreprocessingGrows
preprocessing_grows Hangul plan font old new k = search (arith, hangul_long, length-flagged)
preprocessing_grows Indic plan font old new k = same_long old new k
preprocessing_grows Thai plan font old new k = thai_long plan font old new k
preprocessing_grows Universal plan font old new k = same_long old new k
preprocessing_grows _ plan font old new k = same_long old new k.1

-- PAUSES
flags_long : (gs ms : Glyphs) → OnlyFlagsAdded gs ms → length ms ≡ length gs + 0
flags_long = search (arith, length_all_zip)

circled_long : (circles : Option DottedCircles) (gs : Glyphs)
    → length (circled circles gs) ≡ length gs + broken_in circles gs
circled_long None gs = omega arith
circled_long (Some rule) gs = length-with_circles rule gs

pub pauses_grow : PausesGrow
pauses_grow InitialReordering = search (arith, circled_long)
pauses_grow ReorderKhmer = search (arith, circled_long)
pauses_grow ReorderMyanmar = search (arith, circled_long)
pauses_grow ReorderUse = search (arith, circled_long)
pauses_grow FinalReordering = search (arith, length_permutation, length-map)
pauses_grow _ = search (arith, flags_long)

-- ROOM
enough : {T : Type 0} (limit wanted : ℕ) (r : Result T ShaperError) → wanted ≤ limit → RefusesLength limit wanted r
    → IsOkUnless r Memory
enough limit wanted (Ok x) fits h = tt
enough limit wanted (Err Memory) fits h = refl
enough limit wanted (Err TooLong) fits h = absurd (omega (arith, fits, h))
enough limit wanted _ fits h = absurd h

never : {T : Type 0} (r : Result T ShaperError) → IsOk r → IsOkUnless r Memory
never (Ok x) h = tt
never (Err e) h = absurd (false≢true h)

pub preprocessing_has_room : PreprocessingHasRoom
preprocessing_has_room Hangul font old r room k =
    let long = hangul_long font (allows_circles old) old.level old.glyphs in search (arith, enough)
preprocessing_has_room Indic font old r room k = never r k
preprocessing_has_room Thai font old r room k =
    let long = (lengths glyph_rule old.glyphs).whole in search (arith, enough, count_by-le-length)
preprocessing_has_room Universal font old r room k = never r k
preprocessing_has_room _ font old r room k = never r k.1

-- a syllable that is broken has a glyph
at_most_one : (b : Bool) → cond b 1 0 ≤ 1
at_most_one true = omega arith
at_most_one false = omega arith

broken_has_some : (kind : ℕ) (piece : Glyphs) → cond (is_of_kind kind piece) 1 0 ≤ length piece
broken_has_some kind [] = omega arith
broken_has_some kind (g ∷ gs) = search (arith, at_most_one)

few_broken : (kind : ℕ) (pieces : List Glyphs) → count_by (is_of_kind kind) pieces
    ≤ length (flat_map (λ piece. piece) pieces)
few_broken kind [] = omega arith
few_broken kind (piece ∷ pieces) = search (
  arith,
  sum_by-cons (λ (p : Glyphs). cond (is_of_kind kind p) 1 0) piece pieces,
  length-append piece (flat_map (λ p. p) pieces),
  broken_has_some kind piece,
  few_broken kind pieces,
)

-- no more circles open than the text has glyphs, and so it gets twice as long at most
pub few_circles : (circles : Option DottedCircles) (gs : Glyphs) → broken_in circles gs ≤ length gs
few_circles None gs = omega arith
few_circles (Some rule) gs = search (arith, few_broken rule.broken_kind (syllables gs), joined-syllables gs)

pub circles_fit : (circles : Option DottedCircles) (gs : Glyphs) → length (circled circles gs) ≤ length gs * 2
circles_fit = search (arith, circled_long, few_circles)

not_err : {T : Type 0} (r : Result T ShaperError) → IsOk r → r ≢ Err TooLong
not_err (Ok x) h is = absurd cc
not_err (Err e) h is = absurd (false≢true h)

not_long : {T : Type 0} (r : Result T ShaperError) → IsOkUnless r Memory → r ≢ Err TooLong
not_long (Ok x) h is = absurd cc
not_long (Err e) h is = absurd cc

same_err : {T : Type 0} (e f : ShaperError) (r : Result T ShaperError) → r ≡ Err e → r ≡ Err f → e ≡ f
same_err e f (Ok x) one two = absurd cc
same_err e f (Err x) one two = cc

other : {T : Type 0} (r : Result T ShaperError) (e : ShaperError) → e ≢ TooLong → r ≡ Err e → r ≢ Err TooLong
other r e apart h is = apart (same_err e TooLong r h is)

by_spans : (b : Bool) (r : Result Bool ShaperError) → RefusesInput (if b then None else Some SpansDontCover) r
    → r ≢ Err TooLong
by_spans true r h is = not_err r h is
by_spans false r h is = search (arith, other)

reordering : (found : Option ℕ) (circles : Option DottedCircles) (old : Buffer) (r : Result Bool ShaperError)
    → length old.glyphs * 2 ≤ old.max_len
    → RefusesReordering (option_map (λ place. UnknownSyllable place) found) circles old r → r ≢ Err TooLong
reordering None circles old = let fits = circles_fit circles old.glyphs in search (arith, not_long, enough)
reordering (Some place) circles old = search (arith, other)

pub pauses_have_room : PausesHaveRoom
pauses_have_room SetupSyllablesIndic font spans old r room k is = search (arith, by_spans)
pauses_have_room SetupSyllablesKhmer font spans old r room k is = search (arith, by_spans)
pauses_have_room SetupSyllablesMyanmar font spans old r room k is = search (arith, by_spans)
pauses_have_room SetupSyllablesUse font spans old r room k is = search (arith, by_spans)
pauses_have_room InitialReordering font spans old r room k is = search (arith, reordering)
pauses_have_room ReorderKhmer font spans old r room k is = search (arith, reordering)
pauses_have_room ReorderMyanmar font spans old r room k is = search (arith, reordering)
pauses_have_room ReorderUse font spans old r room k is = reordering None _ old r room k is
pauses_have_room _ font spans old r room k is = not_err r k is
