-- Subtables of `kern`, as far as they are applied.
use Rattle.std.proofs.Common.{[], ◌∷◌, map, ℕ, zero, suc, ◌+◌, ◌-◌, ◌<◌, ◌≤◌, ◌≡◌, nat_lt, true, false, List, length, refl, sym, ap, ◌∙◌, arith}
use Rattle.std.proofs.lemmas.Bool.Decides.{nat_tests}
use Rattle.shapers_buffer.specs.Glyphs.{Glyphs}
use Rattle.opentype_face.specs.Bytes.{table_at, u16_in}
use Rattle.opentype_gpos.specs.Kerned.{PlacedText, in_one_line, kerned_by_subtables, with_step}
use Rattle.opentype_gpos.specs.Finished.{let_go}
use Rattle.opentype_gpos.specs.Moved.{Positions}

abbrev placed : Glyphs → Positions → PlacedText
placed gs ps = record { glyphs = gs; positions = ps }

pub record IsKerning (each : List ℕ → PlacedText → PlacedText) (count : ℕ) (start : List ℕ) (old : PlacedText) (i : ℕ) (bytes : List ℕ)
    (gs : Glyphs) (ps : Positions) : Type 0 where
  pub rest : kerned_by_subtables count each start old ≡ kerned_by_subtables (count - i) each bytes (placed gs ps)
  pub paired : length ps ≡ length gs

none : (each : List ℕ → PlacedText → PlacedText) (bytes : List ℕ) (t : PlacedText) → kerned_by_subtables 0 each bytes t ≡ t
unfolding kerned_by_subtables
none each bytes t = refl

short : (n : ℕ) (each : List ℕ → PlacedText → PlacedText) (bytes : List ℕ) (t : PlacedText) → u16_in bytes 2 < 6 →
    kerned_by_subtables n each bytes t ≡ t
unfolding kerned_by_subtables
short zero each bytes t lt = refl
short (suc n) each bytes t lt = let e : nat_lt (u16_in bytes 2) 6 ≡ true = grind (arith, nat_tests) in rw e refl

one : (n : ℕ) (each : List ℕ → PlacedText → PlacedText) (bytes : List ℕ) (t : PlacedText) → 6 ≤ u16_in bytes 2 →
    kerned_by_subtables (suc n) each bytes t ≡ kerned_by_subtables n each (table_at bytes (u16_in bytes 2)) (each bytes t)
unfolding kerned_by_subtables
one n each bytes t le = let e : nat_lt (u16_in bytes 2) 6 ≡ false = grind (arith, nat_tests) in rw e refl

pub kerning_start : (each : List ℕ → PlacedText → PlacedText) (count : ℕ) (bytes : List ℕ) (gs : Glyphs) (ps : Positions) →
    length ps ≡ length gs → IsKerning each count bytes (placed gs ps) 0 bytes gs ps
kerning_start each count bytes gs ps paired =
    let n : count - 0 ≡ count = omega arith in record { rest = rw n refl; paired = paired }

pub kerning_next : (each : List ℕ → PlacedText → PlacedText) (count : ℕ) (start : List ℕ) (old : PlacedText) (i : ℕ) (bytes rest : List ℕ)
    (gs new : Glyphs) (ps moved : Positions) (len : ℕ) → IsKerning each count start old i bytes gs ps → i < count →
    len ≡ u16_in bytes 2 → 6 ≤ len → length moved ≡ length new → each bytes (placed gs ps) ≡ placed new moved →
    rest ≡ table_at bytes len → IsKerning each count start old (i + 1) rest new moved
kerning_next each count start old i bytes rest gs new ps moved len k lt long le paired is at_rest =
    let n : count - i ≡ suc (count - (i + 1)) = omega arith in
    record {
      rest = rw n at k.rest ∙ one (count - (i + 1)) each bytes (placed gs ps) (rw long at le)
          ∙ ap (kerned_by_subtables (count - (i + 1)) each (table_at bytes (u16_in bytes 2))) is
          ∙ ap (λ b. kerned_by_subtables (count - (i + 1)) each b (placed new moved)) (sym (rw long at at_rest));
      paired = paired;
    }

pub kerning_short : (each : List ℕ → PlacedText → PlacedText) (count : ℕ) (start : List ℕ) (old : PlacedText) (i : ℕ) (bytes : List ℕ)
    (gs : Glyphs) (ps : Positions) (len : ℕ) → IsKerning each count start old i bytes gs ps → len ≡ u16_in bytes 2 → len < 6 →
    kerned_by_subtables count each start old ≡ placed gs ps
kerning_short each count start old i bytes gs ps len k long lt = k.rest ∙ short (count - i) each bytes (placed gs ps) (rw long at lt)

pub kerning_all : (each : List ℕ → PlacedText → PlacedText) (count : ℕ) (start : List ℕ) (old : PlacedText) (i : ℕ) (bytes : List ℕ)
    (gs : Glyphs) (ps : Positions) → IsKerning each count start old i bytes gs ps → count ≤ i →
    kerned_by_subtables count each start old ≡ placed gs ps
kerning_all each count start old i bytes gs ps k le =
    let n : count - i ≡ 0 = omega arith in rw n at k.rest ∙ none each bytes (placed gs ps)

-- ---- a line of no glyphs
pub line_of_none : (step : ℕ) (old new : Positions) → new ≡ map (with_step step) old → length new ≡ 0 →
    new ≡ in_one_line step old
unfolding in_one_line let_go
line_of_none step [] new is none = is
line_of_none step (p ∷ ps) new is none =
    let n : length new ≡ suc (length (map (with_step step) ps)) = ap length is in absurd (omega arith)
