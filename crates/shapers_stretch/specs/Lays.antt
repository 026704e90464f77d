-- How a sequence is laid, where its numbers fit 32 bits.
use Rattle.std.specs.Prelude.{◌≡◌, Bool, false, ℤ, ◌-ℤ◌, [], ◌∷◌, FitsSigned, Option, None, Some, if◌then◌else◌}
use Rattle.std.specs.List.{list_all}
use mir.Syntax.{w32}
use Rattle.shapers_base.specs.declared.plan.arabic.StretchStart.{StretchStart}
use Rattle.shapers_base.specs.declared.plan.arabic.StretchStart.TheVariants.{AsCode, Centred}
use Rattle.shapers_stretch.specs.declared.ot_shaper_arabic_stretch.measuring.Lay.{Lay}
use Rattle.shapers_stretch.specs.declared.ot_shaper_arabic_stretch.measuring.TileSequence.{TileSequence}
use Rattle.shapers_stretch.specs.Measure.{times_added, fits_i32, laid_width, left, numbers_to_fit, overlap, start}

-- what fits 32 bits before tiles are counted
pub record SequenceFits (z : TileSequence) : Type 0 where
  pub word : FitsSigned w32 z.word
  pub fixed : FitsSigned w32 z.fixed
  pub repeating : FitsSigned w32 z.repeating
  pub left : FitsSigned w32 (left z)

-- what a sequence measures, unless one of these numbers doesn't fit
abbrev pub MeasuresSequence : TileSequence → Option TileSequence → Type 0
MeasuresSequence z None =
    list_all fits_i32 (z.word ∷ z.fixed ∷ z.repeating ∷ left z ∷ []) ≡ false
MeasuresSequence z (Some sequence) = sequence ≡ z

abbrev pub lay_of : StretchStart → Bool → TileSequence → Lay
lay_of choice right_to_left z =
    record { added = times_added z; overlap = overlap z; start = start choice right_to_left z }

abbrev pub lay_if_fits : StretchStart → Bool → TileSequence → Option Lay
lay_if_fits choice right_to_left z =
    if list_all fits_i32 (numbers_to_fit choice z) then Some (lay_of choice right_to_left z)
    else None

-- the start alone, where the numbers of its choice fit
abbrev pub start_if_fits : StretchStart → Bool → TileSequence → Option ℤ
start_if_fits AsCode right_to_left z = Some (start AsCode right_to_left z)
start_if_fits Centred right_to_left z =
    if list_all fits_i32 (laid_width z ∷ (z.word -ℤ laid_width z) ∷ []) then Some
    (start Centred right_to_left z)
    else None
