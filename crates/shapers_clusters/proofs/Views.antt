-- What shows of steps through a view that hides some fields.
use Rattle.std.proofs.Common.{arith}
use Rattle.std.proofs.Common.{◌≡◌, List, [], ◌∷◌, map, length, refl}
use Rattle.std.specs.List.{AllByRecursion}
use Rattle.std.specs.List.Sorted.{IsPermutation}
use Rattle.std.proofs.lemmas.List.Sorted.{IsPermutation-map}
use Rattle.shapers_buffer.specs.Glyphs.{Glyph, Glyphs}
use Rattle.shapers_buffer.specs.declared.buffer.level.BufferClusterLevel.{BufferClusterLevel}
use Rattle.shapers_buffer.specs.Glyph.{order_view, plain}
use Rattle.shapers_buffer.specs.Places.{pick}
use Rattle.shapers_clusters.specs.Steps.{Step, after_steps, old_places, FitSteps, Permutes}
use Rattle.shapers_clusters.specs.Flags.{HidesFields, whole, seen}
use Rattle.shapers_clusters.proofs.Picks.{pick-map}
use Rattle.shapers_clusters.proofs.Moves.{order_view-after_steps}
use Rattle.shapers_clusters.proofs.Permuted.{order_view-permuted}

-- the view that hides nothing
pub whole_hides : HidesFields whole
whole_hides = search arith

seen-of_view : (view : Glyph → Glyph) (gs : Glyphs) → seen view gs ≡ order_view (map view gs)
seen-of_view view [] = refl
seen-of_view view (g ∷ gs) = cc (seen-of_view view gs)

-- what looks the same through the view does so in its order view
pub seen-same : (view : Glyph → Glyph) (xs ys : Glyphs) → map view xs ≡ map view ys → seen view xs ≡ seen view ys
seen-same = search (arith, seen-of_view)

pub seen-order_view : (view : Glyph → Glyph) → HidesFields view → (gs : Glyphs)
    → seen view (order_view gs) ≡ seen view gs
seen-order_view view hides [] = refl
seen-order_view view hides (g ∷ gs) = cc (hides.apart g, seen-order_view view hides gs)

pub seen-after_steps : (view : Glyph → Glyph) → HidesFields view
    → (level : BufferClusterLevel) (steps : List Step) (gs : Glyphs)
    → seen view (after_steps level steps gs) ≡ pick (old_places (length gs) steps) (seen view gs)
seen-after_steps view hides level steps gs = cc (
  seen-order_view view hides (after_steps level steps gs),
  order_view-after_steps level steps gs,
  pick-map (λ g. plain (view g)) (old_places (length gs) steps) (order_view gs),
  seen-order_view view hides gs,
)

pub seen-permuted : (view : Glyph → Glyph) → HidesFields view
    → (level : BufferClusterLevel) (steps : List Step) (gs : Glyphs) → FitSteps (length gs) steps
    → AllByRecursion (Permutes (length gs)) steps → IsPermutation (seen view gs) (seen view (after_steps level steps gs))
seen-permuted view hides level steps gs f h =
    let rs = after_steps level steps gs in
    search (
      arith,
      seen-order_view view hides gs,
      seen-order_view view hides rs,
      IsPermutation-map (λ g. plain (view g)) (order_view gs) (order_view rs) (order_view-permuted level steps gs f h),
    )
