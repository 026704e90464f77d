-- What Sound flags in a Thai text: the walk, and what it leaves.
use Rattle.std.proofs.Common.{◌≡◌, ℕ, ◌+◌, ◌<◌, ◌≤◌, Bool, true, false, cond, List, [], ◌∷◌, length, take, drop, get_or, map, refl, arith}
use Rattle.std.specs.List.{AllByRecursion}
use Rattle.std.proofs.lemmas.List.{length-map, length-take-le}
use Rattle.std.proofs.lemmas.Simd.{map-map}
use Rattle.shapers_buffer.specs.Glyphs.{Glyph, Glyphs}
use Rattle.shapers_buffer.specs.declared.buffer.level.BufferClusterLevel.{BufferClusterLevel}
use Rattle.shapers_buffer.specs.Clusters.{merge_all}
use Rattle.shapers_buffer.specs.Glyph.{characters, clusters, order_view}
use Rattle.shapers_buffer.specs.GlyphFlags.{unsafe_all, unsafe_inside, with_bits}
use Rattle.shapers_buffer.specs.Lists.{each_after}
use Rattle.shapers_base.specs.declared.plan.breaks.BreakFlags.{BreakFlags}
use Rattle.shapers_base.specs.declared.plan.breaks.BreakFlags.TheVariants.{AsCode, Sound}
use Rattle.shapers_clusters.specs.FlagLaw.{AllFlagsStay}
use Rattle.shapers_clusters.proofs.FlagCalls.{map-unsafe_all, map-unsafe_inside, without_flags-or}
use Rattle.shapers_clusters.proofs.FlagLaw.{all_stay_same, unsafe_all_stays}
use Rattle.shapers_clusters.proofs.Flagging.{unsafe_few, unsafe_longer}
use Rattle.shapers_text.specs.Thai.{glyphs_in_two, sara_am_stretches}
use Rattle.shapers_text.specs.ThaiForms.{is_thai_mark, mark_stretches_of_each, marks_flagged, preprocessed_flagged, preprocessed_text, pua_shaped, thai_base_place, whole_mark_stretches, with_characters}
use Rattle.shapers_text.specs.ThaiLaws.{without_form}
use Rattle.shapers_text.proofs.ThaiFormLaws.{base_place_push}
use Rattle.shapers_text.proofs.ThaiFormWalks.{in_order, splits, without_form-pua}

abbrev with_mark : ℕ × ℕ → ℕ × ℕ
with_mark st = (st.0, st.1 + 1)

-- the walk: what is flagged of the last base goes to the place before this one
pub record FlaggingWhole (start now : Glyphs) (i base : ℕ) : Type 0 where
  pub same_text : characters now ≡ characters start
  pub base_is : base ≡ thai_base_place (take i (characters start))
  pub rest : unsafe_all (map with_mark (mark_stretches_of_each (each_after (take i (characters start)) (drop i
      (characters start)))))
      (unsafe_inside base i now) ≡ unsafe_all (whole_mark_stretches (characters start)) start

pub whole_base : (start now : Glyphs) (i base : ℕ) → i ≤ length start → FlaggingWhole start now i base → base ≤ i
whole_base = search (arith, length-take-le, length-map)

pub whole_length : (start now : Glyphs) (i base : ℕ) → FlaggingWhole start now i base → length now ≡ length start
whole_length = search (arith, length-map)

-- what is left after the character u at place i
abbrev to_come : List ℕ → ℕ → List (ℕ × ℕ)
to_come us i = map with_mark (mark_stretches_of_each (each_after (take (i + 1) us) (drop (i + 1) us)))

one_passed : (start now : Glyphs) (i base u : ℕ) (b : Bool) → i < length start
    → FlaggingWhole start now i base → u ≡ get_or (characters start) i 0 → is_thai_mark u ≡ b
    → unsafe_all (to_come (characters start) i)
    (unsafe_all (map with_mark (cond b ((base, i) ∷ []) [])) (unsafe_inside base i now))
    ≡ unsafe_all (whole_mark_stretches (characters start)) start
one_passed start now i base u b inside f read is =
    let us = characters start in
    let s = splits us i u (omega (arith, length-map start (λ x. x.glyph_id))) read in
    let behind = mark_stretches_of_each (each_after (take (i + 1) us) (drop (i + 1) us)) in
    search arith

next_place : (start : Glyphs) (i base u : ℕ) (b : Bool) → i < length start
    → base ≡ thai_base_place (take i (characters start)) → u ≡ get_or (characters start) i 0 → is_thai_mark u ≡ b
    → cond b base i ≡ thai_base_place (take (i + 1) (characters start))
next_place start i base u b inside base_is read is =
    let us = characters start in
    let s = splits us i u (omega (arith, length-map start (λ x. x.glyph_id))) read in
    cc (base_place_push (take i us) u)

-- a mark
pub whole_mark : (start now : Glyphs) (i base u : ℕ) → i < length start → FlaggingWhole start now i base
    → u ≡ get_or (characters start) i 0 → is_thai_mark u ≡ true → FlaggingWhole start now (i + 1) base
whole_mark start now i base u inside f read is =
    let long = whole_length start now i base f in
    search (
      arith,
      next_place start i base u true inside f.base_is read is,
      unsafe_longer base i (i + 1) now (whole_base start now i base (omega arith) f) (omega arith) (omega arith),
      one_passed start now i base u true inside f read is,
    )

-- another character
pub whole_other : (start now : Glyphs) (i base u : ℕ) → i < length start
    → FlaggingWhole start now i base → u ≡ get_or (characters start) i 0 → is_thai_mark u ≡ false
    → FlaggingWhole start (unsafe_inside base i now) (i + 1) i
whole_other start now i base u inside f read is = search (
  arith,
  map-unsafe_inside (λ g. g.glyph_id) (λ g. refl) base i now (whole_base start now i base (omega arith) f),
  next_place start i base u false inside f.base_is read is,
  unsafe_few,
  one_passed start now i base u false inside f read is,
)

-- what the choice flags: flags alone, none lost
with_marks_in_order : (sts : List (ℕ × ℕ)) → AllByRecursion (λ st. st.0 ≤ st.1) sts
    → AllByRecursion (λ st. st.0 ≤ st.1) (map with_mark sts)
with_marks_in_order [] all = tt
with_marks_in_order (st ∷ sts) all = search (arith, with_marks_in_order sts all.1)

whole_in_order : (us : List ℕ) → AllByRecursion (λ st. st.0 ≤ st.1) (whole_mark_stretches us)
whole_in_order = search (arith, with_marks_in_order, in_order)

pub map-marks_flagged : {Y : Type 0} (f : Glyph → Y) → ((g : Glyph) → f (with_bits 3 g) ≡ f g)
    → (breaks : BreakFlags) (gs : Glyphs) → map f (marks_flagged breaks gs) ≡ map f gs
map-marks_flagged f keeps AsCode gs = refl
map-marks_flagged f keeps Sound gs = search (arith, map-unsafe_all, whole_in_order)

pub marks_flagged_stay : (breaks : BreakFlags) (gs : Glyphs) → AllFlagsStay gs (marks_flagged breaks gs)
marks_flagged_stay AsCode gs = all_stay_same gs
marks_flagged_stay Sound gs = search (arith, unsafe_all_stays, whole_in_order)

-- so the forms are the same, and nothing else changes
view-with_characters : (us : List ℕ) (gs : Glyphs) → order_view (with_characters us gs)
    ≡ with_characters us (order_view gs)
view-with_characters (u ∷ us) (g ∷ gs) = cc (view-with_characters us gs)
view-with_characters _ _ = refl

pub order_view-flagged : (breaks : BreakFlags) (forms : Bool) (has : ℕ → Bool) (level : BufferClusterLevel)
    (gs : Glyphs) → order_view (preprocessed_flagged breaks forms has level gs)
    ≡ order_view (preprocessed_text forms has level gs)
order_view-flagged breaks false has level gs = refl
order_view-flagged breaks true has level gs =
    search (arith, view-with_characters, map-unsafe_all, in_order, map-marks_flagged, without_flags-or)

pub clusters-flagged : (breaks : BreakFlags) (forms : Bool) (has : ℕ → Bool) (level : BufferClusterLevel)
    (gs : Glyphs) → clusters (preprocessed_flagged breaks forms has level gs)
    ≡ clusters (preprocessed_text forms has level gs)
clusters-flagged breaks false has level gs = refl
clusters-flagged breaks true has level gs =
    let text = glyphs_in_two (merge_all level (sara_am_stretches level (characters gs)) gs) in
    let flagged = marks_flagged breaks text in
    let cluster : Glyph → ℕ = λ g. g.cluster in
    search (
      arith,
      map-map,
      without_form-pua has flagged,
      map-map cluster without_form flagged,
      map-marks_flagged cluster (λ g. refl) breaks text,
      map-map cluster without_form text,
      without_form-pua has text,
      map-map cluster without_form (pua_shaped has text),
    )
