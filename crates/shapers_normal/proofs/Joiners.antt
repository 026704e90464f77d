-- Grapheme joiners, place after place.
use Rattle.std.proofs.Common.{◌≡◌, ◌+◌, ◌-◌, ◌<◌, ◌≤◌, ℕ, suc, Bool, true, false, ◌&&◌, ◌||◌, cond, eqb, leb, [], ◌∷◌, ◌++◌, length, take, drop, get_or, set, refl, sym, ap, ◌∙◌, arith, append_assoc, drop-cons}
use Rattle.std.proofs.lemmas.List.{drop-set-lt, get_or-set_same, length-drop, length-set, take-append-drop, take_more_set}
use Rattle.shapers_buffer.specs.Glyphs.{Glyph, Glyphs}
use Rattle.shapers_buffer.specs.Glyph.{default_glyph}
use Rattle.shapers_normal.specs.Normalization.{joiners_shown, passes_over, shown_behind, unseen}
use Rattle.shapers_normal.specs.Sorting.{class_of}
use Rattle.shapers_normal.proofs.CharacterProperties.{class_shown}

abbrev glyph_at : Glyphs → ℕ → Glyph
glyph_at gs i = get_or gs i default_glyph

-- the places before i are done
pub record Showing (old now : Glyphs) (i : ℕ) : Type 0 where
  pub text : take i now ++ shown_behind (class_of (glyph_at now (i - 1))) (drop i now) ≡ joiners_shown old
  pub some : 1 ≤ i
  pub same_length : length now ≡ length old

pub showing_start : (gs : Glyphs) → Showing gs gs 1
showing_start [] = record { text = refl; some = omega arith; same_length = refl }
showing_start (g ∷ gs) = record { text = refl; some = omega arith; same_length = refl }

class_passed : (before behind : ℕ) (g : Glyph) → class_of (passes_over before behind g) ≡ class_of g
class_passed before behind g =
    let seen : Bool = eqb g.glyph_id 0x034F && (eqb behind 0 || leb before behind) in
    elim seen as (λ b. class_of (cond b (unseen g) g) ≡ class_of g)
    [ true ↦ class_shown g.unicode_props | false ↦ refl ]

-- one more place, with a glyph on either side
pub showing_next : (old now new : Glyphs) (i : ℕ) → Showing old now i → i + 1 < length now
    → new ≡ set now i (passes_over (class_of (glyph_at now (i - 1))) (class_of (glyph_at now (i + 1))) (glyph_at now i))
    → Showing old new (i + 1)
showing_next old now new i s within is =
    let before = class_of (glyph_at now (i - 1)) in
    let passed_marks = passes_over before (class_of (glyph_at now (i + 1))) (glyph_at now i) in
    let here : i < length now = omega arith in
    let next : suc i ≡ i + 1 = omega arith in
    let last : i + 1 - 1 ≡ i = omega arith in
    let two : drop i now ≡ glyph_at now i ∷ (glyph_at now (i + 1) ∷ drop (suc (i + 1)) now) =
    drop-cons now i default_glyph here ∙ ap (λ n. glyph_at now i ∷ drop n now) next
    ∙ ap (λ gs. glyph_at now i ∷ gs) (drop-cons now (i + 1) default_glyph within) in
    let front : take (i + 1) new ≡ take i now ++ passed_marks ∷ [] = ap (take (i + 1)) is
    ∙ take_more_set now i passed_marks here in
    let back : drop (i + 1) new ≡ glyph_at now (i + 1) ∷ drop (suc (i + 1)) now = ap (drop (i + 1)) is
    ∙ drop-set-lt (i + 1) now i passed_marks (omega arith) ∙ drop-cons now (i + 1) default_glyph within in
    let class : class_of (glyph_at new (i + 1 - 1)) ≡ class_of (glyph_at now i) =
    ap (λ n. class_of (glyph_at new n)) last ∙ ap (λ gs. class_of (glyph_at gs i)) is
    ∙ ap class_of (get_or-set_same now i passed_marks default_glyph here)
    ∙ class_passed before (class_of (glyph_at now (i + 1))) (glyph_at now i) in
    record {
      text =
          ap (λ c. take (i + 1) new ++ shown_behind c (drop (i + 1) new)) class
          ∙ ap (λ gs. take (i + 1) new ++ shown_behind (class_of (glyph_at now i)) gs) back
          ∙ ap (λ gs. gs ++ shown_behind (class_of (glyph_at now i)) (glyph_at now (i + 1) ∷ drop (suc (i + 1)) now))
          front
          ∙ append_assoc (take i now) (passed_marks ∷ [])
          (shown_behind (class_of (glyph_at now i)) (glyph_at now (i + 1) ∷ drop (suc (i + 1)) now))
          ∙ sym (ap (λ gs. take i now ++ shown_behind before gs) two)
          ∙ s.text;
      some = omega arith;
      same_length = ap length is ∙ length-set now i passed_marks ∙ s.same_length;
    }

shown_short : (before : ℕ) (gs : Glyphs) → length gs ≤ 1 → shown_behind before gs ≡ gs
shown_short before [] few = refl
shown_short before (g ∷ []) few = refl
shown_short before (g ∷ (h ∷ gs)) few = absurd (omega arith)

pub showing_end : (old now : Glyphs) (i : ℕ) → Showing old now i → length now ≤ i + 1
    → now ≡ joiners_shown old
showing_end old now i s met =
    sym (take-append-drop i now)
    ∙ ap (λ gs. take i now ++ gs)
    (sym (shown_short (class_of (glyph_at now (i - 1))) (drop i now) (omega (arith, length-drop i now))))
    ∙ s.text
