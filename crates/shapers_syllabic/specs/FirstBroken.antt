-- In the code: the first and the last broken syllable of a text, and a text whose last one has been
-- opened.
use Rattle.std.specs.Prelude.{◌≡◌, ◌==◌, ◌+◌, ◌-◌, ℕ, suc, ◌<◌, ◌≤◌, Bool, not, ◌++◌, length, take, drop}
use Rattle.shapers_buffer.specs.Glyphs.{Glyph, Glyphs}
use Rattle.shapers_syllabic.specs.declared.ot_shaper_syllabic.circles.DottedCircles.{DottedCircles}
use Rattle.shapers_syllabic.specs.Circles.{with_circle, with_circles, count_of_kind}
use Rattle.shapers_buffer.specs.Clusters.{stretch_of}
use Rattle.shapers_buffer.specs.Syllables.{kind_of}

-- whether a glyph's syllable is of another kind than k
abbrev pub is_of_other_kind : ℕ → Glyph → Bool
is_of_other_kind k g = not (kind_of g.syllable == k)

-- a broken syllable stands at start..end, and none before it
pub record IsFirstBroken (rule : DottedCircles) (gs : Glyphs) (start end :
    ℕ) : Type 0 where
  pub some : start < end
  pub within : end ≤ length gs
  pub text : with_circles rule gs
      ≡ take start gs
      ++ (with_circle rule (stretch_of start end gs) ++ with_circles rule (drop end gs))
  pub count : count_of_kind rule.broken_kind gs ≡ suc (count_of_kind rule.broken_kind (drop end gs))

-- a broken syllable stands at start..end, and none behind it
pub record IsLastBroken (rule : DottedCircles) (gs : Glyphs) (start end :
    ℕ) : Type 0 where
  pub some : start < end
  pub within : end ≤ length gs
  pub text : with_circles rule gs
      ≡ with_circles rule (take start gs)
      ++ (with_circle rule (stretch_of start end gs) ++ drop end gs)
  pub count : count_of_kind rule.broken_kind gs
      ≡ suc (count_of_kind rule.broken_kind (take start gs))

-- The glyphs before and after the last of so many broken syllables of the first `read` glyphs, at
-- `start`, is opened: what stands before it is left, and what stands behind it from then on is what
-- becomes of the rest.
pub record IsCircled (rule : DottedCircles) (read left start : ℕ) (gs hs : Glyphs) : Type 0 where
  pub before : start < read
  pub same_length : length hs ≡ length gs
  pub front : take start hs ≡ take start gs
  pub text : with_circles rule (take read gs) ++ drop (read + left) gs
      ≡ with_circles rule (take start gs) ++ drop (start + left - 1) hs
  pub count : left ≡ suc (count_of_kind rule.broken_kind (take start gs))
