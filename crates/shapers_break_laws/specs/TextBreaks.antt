-- Where a text may be broken that a hook made anew, with glyphs that it hadn't: preprocessed, or
-- stretched.
use Rattle.std.specs.Prelude.{ℕ, ◌-◌, ◌<◌, ◌≡◌, ◌≢◌, ◌++◌, drop, length, slice_index, take}
use Rattle.shapers_buffer.specs.Glyphs.{Glyphs}
use Rattle.shapers_buffer.specs.Buffer.{Buffer}
use Rattle.shapers_buffer.specs.Glyph.{clusters, order_view}
use Rattle.shapers_clusters.specs.Cuts.{ShareNone}

-- two clusters meet at place p
abbrev pub IsClusterBorder : Glyphs → ℕ → Type 0
IsClusterBorder gs p = slice_index (clusters gs) (p - 1) ≢ slice_index (clusters gs) p

-- the halves of a buffer's text, cut before place c, with all else that the buffer has
abbrev pub front_half : ℕ → Buffer → Buffer
front_half c b = record b { glyphs = take c b.glyphs; positions = take c b.positions }

abbrev pub back_half : ℕ → Buffer → Buffer
back_half c b = record b { glyphs = drop c b.glyphs; positions = drop c b.positions }

-- the text is two texts, one after the other, glyph for glyph; or in order view and clusters
abbrev pub JoinsGlyphs : Buffer → Buffer → Buffer → Type 0
JoinsGlyphs one two new = new.glyphs ≡ one.glyphs ++ two.glyphs

abbrev pub JoinsOrder : Buffer → Buffer → Buffer → Type 0
JoinsOrder one two new =
    (order_view new.glyphs ≡ order_view one.glyphs ++ order_view two.glyphs)
    × (clusters new.glyphs ≡ clusters one.glyphs ++ clusters two.glyphs)

-- The text may be broken before place p of what a hook made of it: the text before is cut into
-- halves that share no cluster; the hook makes the first, by itself, the p glyphs before that
-- place, and what it makes of both, each by itself, joins to the whole.
pub record TextBroken (hook : Buffer → Buffer → Type 0) (Joins : Buffer → Buffer → Buffer →
    Type 0) (old new : Buffer) (p : ℕ) : Type 0 where
  pub cut : ℕ
  pub some_in_front : 0 < cut
  pub some_behind : cut < length old.glyphs
  pub apart : ShareNone (take cut old.glyphs) (drop cut old.glyphs)
  pub halves : (one two : Buffer) → hook (front_half cut old) one → hook (back_half cut old) two →
      (length one.glyphs ≡ p) × Joins one two new
