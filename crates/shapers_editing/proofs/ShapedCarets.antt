-- Carets of a text that was shaped all the way, by what becomes of its clusters.
use Rattle.std.proofs.Common.{ℕ, ◌-◌, ◌<◌, List, length, reverse, get_or, inl, inr, arith}
use Rattle.std.specs.List.{All}
use Rattle.std.proofs.lemmas.List.{get_or-reverse, length-reverse}
use Rattle.std.proofs.lemmas.List.Elements.{All-contains}
use Rattle.shapers_buffer.specs.Glyphs.{Glyphs}
use Rattle.shapers_buffer.specs.declared.buffer.level.Direction.TheVariants.{LeftToRight, RightToLeft}
use Rattle.shapers_buffer.specs.Glyph.{clusters}
use Rattle.shapers_clusters.specs.Cuts.{IsFalling, IsMonotone, IsRising}
use Rattle.shapers_pipeline.specs.Positioned.{text_shaped}
use Rattle.shapers_pipeline.specs.ShapeLaws.{ShapingKeepsClusters}
use Rattle.shapers_editing.specs.ShapedCarets.{EachStopsOneWay, ShapedTextHasCarets}
use Rattle.shapers_editing.proofs.Carets.{borders-were, each-stops, stops-map}

turned-rises : (cs : List ℕ) → IsFalling cs → IsRising (reverse cs)
turned-rises cs falls = λ i j d before within.
    let inside : j < length cs = omega (arith, within, length-reverse cs) in
    omega (
      arith,
      falls (length cs - 1 - j) (length cs - 1 - i) d (omega (arith, before, inside)) (omega (arith, before, inside)),
      get_or-reverse cs i d (omega (arith, before, inside)),
      get_or-reverse cs j d inside,
    )

one-way : (gs : Glyphs) → IsMonotone (clusters gs) → EachStopsOneWay gs
one-way gs (inl up) = inl (up, each-stops LeftToRight gs up)
one-way gs (inr down) = inr (down, each-stops RightToLeft gs (turned-rises (clusters gs) down))

pub shaped-carets : ShapingKeepsClusters → ShapedTextHasCarets
shaped-carets law p noted r ss q wanted old mid end lookups positions none run rises within =
    let new = text_shaped q wanted mid in
    let kept = law p noted r ss q wanted old mid lookups positions none run in
    let before = clusters old.glyphs in
    let inside : All (λ c. c < end) (clusters new.glyphs) =
    λ k d l. All-contains (λ c. c < end) before (get_or (clusters new.glyphs) k d) within
    (kept.0.old_clusters k d l) in (
      λ direction. record {
        map = stops-map direction new.glyphs end inside;
        borders = borders-were LeftToRight direction old.glyphs new.glyphs rises kept.0.old_clusters;
      },
      λ merging sorts. one-way new.glyphs (kept.1 sorts merging (inl rises)),
    )
