-- How often one glyph of a text is read.
use Rattle.std.specs.Prelude.{◌≡◌, ℕ, ◌+◌, ◌-◌, ◌<◌, ◌≤◌, ◌⊎◌, Bool, drop, length}
use Rattle.shapers_buffer.specs.Glyphs.{Glyphs}
use Rattle.shapers_spans.specs.Grammar.{read_of}

-- how often the glyph was read, and how many glyphs there are up to it, 0 once it is behind
pub record Watch : Type 0 where
  pub reads : ℕ
  pub ahead : ℕ

-- how many of the glyphs are read
abbrev pub read_left : (Glyphs → Bool) → Glyphs → ℕ
read_left passes gs = length (read_of passes gs)

-- What bounds how often the walks before have read the watched glyph. None did; or at most four
-- times, and once less for each glyph that is still read before it; or they went on behind known
-- joiners, of which it is one, or one of the two behind: one walk that began before the joiners,
-- and one that began with two of them and stopped in the state `cycled`.
abbrev pub IsSpent : (left behind watched len stuck cycled times : ℕ) → Type 0
IsSpent left behind watched len stuck cycled times =
    (times ≡ 0) ⊎ ((times + left ≤ 4 + watched)
    ⊎ ((0 < len) × (behind ≤ watched + 1) × ((times ≤ 1) ⊎ ((times ≤ 2) × (stuck ≡ cycled)))))

-- The watched glyph was read at most five times since `before`, and, if it is still to come, so
-- often that it won't be read more than that.
pub record IsWatched (passes : Glyphs → Bool) (cycled : ℕ)
    (gs : Glyphs) (len stuck before : ℕ) (watch : Watch) : Type 0 where
  pub since : before ≤ watch.reads
  pub few : watch.reads ≤ before + 5
  pub spent : 0 < watch.ahead →
      IsSpent (read_left passes gs) (read_left passes (drop len gs))
      (read_left passes (drop (watch.ahead - 1) gs)) len stuck cycled (watch.reads - before)
