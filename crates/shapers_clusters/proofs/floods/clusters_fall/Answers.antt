-- The look goes on at the next glyph, with the cluster of this one.
use Rattle.std.proofs.Common.{◌≡◌, ℕ, zero, suc, ◌≤◌, false, [], ◌∷◌, drop, length, refl, arith}
use Rattle.shapers_buffer.specs.Glyphs.{Glyphs}
use Rattle.shapers_clusters.proofs.GroupWalk.{next_at}
use Rattle.shapers_clusters.specs.Floods.{falls_below}
use Rattle.shapers_clusters.proofs.floods.clusters_fall.Goals as goal

none_behind : (c k : ℕ) (gs : Glyphs) → length gs ≤ k → falls_below c (drop k gs) ≡ false
none_behind c zero [] end = refl
none_behind c zero (g ∷ gs) end = absurd (omega arith)
none_behind c (suc k) [] end = refl
none_behind c (suc k) (g ∷ gs) end = none_behind c k gs (omega arith)

pub returns-then-glyph-before : goal.returns-then-glyph-before
returns-then-glyph-before = search (arith, next_at)

pub loop-glyph-preserved : goal.loop-glyph-preserved
loop-glyph-preserved = search (arith, next_at)

pub returns : goal.returns
returns = search (arith, none_behind)
