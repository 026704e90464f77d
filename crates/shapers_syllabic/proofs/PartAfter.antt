-- What a part of a reordering leaves for the next.
use Rattle.std.proofs.Common.{ℕ, ◌-◌, ◌≤◌, ◌≡◌, List, ◌++◌, length, take, drop, arith, length-append, length-take-le, length-drop}
use Rattle.std.proofs.lemmas.List.{length-map}
use Rattle.shapers_buffer.specs.Glyphs.{Glyphs}
use Rattle.shapers_buffer.specs.Buffer.{Buffer}
use Rattle.shapers_buffer.specs.Clusters.{stretch_of}
use Rattle.shapers_buffer.specs.Glyph.{order_view, plain}
use Rattle.shapers_clusters.specs.Steps.{Step}
use Rattle.shapers_syllabic.specs.Reordering.{SyllableReordered}
use Rattle.shapers_syllabic.proofs.SyllableThen.{changed_parts}

-- as many glyphs, and its syllable
pub record PartAfter (meaning : Glyphs → Glyphs) (s e : ℕ) (old new : Buffer) : Type 0 where
  pub long : length new.glyphs ≡ length old.glyphs
  pub syllable : stretch_of s e (order_view new.glyphs) ≡ meaning (stretch_of s e (order_view old.glyphs))

pub part_after : (meaning : Glyphs → Glyphs) (steps : Glyphs → List Step) (s e : ℕ) (old new : Buffer) → s ≤ e
    → e ≤ length old.glyphs → length (meaning (stretch_of s e (order_view old.glyphs))) ≡ e - s
    → SyllableReordered meaning steps s e old new → PartAfter meaning s e old new
part_after meaning steps s e old new h l k done =
    let xs = order_view old.glyphs in
    let n : length xs ≡ length old.glyphs = length-map old.glyphs plain in
    let front = length-take-le s xs (omega arith) in
    search (
      arith,
      length-map new.glyphs plain,
      length-append (take s xs) (meaning (stretch_of s e xs) ++ drop e xs),
      length-append (meaning (stretch_of s e xs)) (drop e xs),
      length-drop e xs,
      (changed_parts s e (take s xs) (meaning (stretch_of s e xs)) (drop e xs) (order_view new.glyphs) h front k
          done.order).stretch,
    )
