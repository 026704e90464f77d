-- What the code of the order shows: its merges and moves are the steps.
use Rattle.std.proofs.Common.{◌≡◌, ℕ, ◌+◌, ◌≤◌, true, if◌then◌else◌, [], ◌∷◌, map, length, ap, ◌∙◌, arith}
use Rattle.shapers_buffer.specs.Glyphs.{Glyphs}
use Rattle.shapers_buffer.specs.Clusters.{stretch_of}
use Rattle.shapers_buffer.proofs.ClusterLemmas.{length-stretch}
use Rattle.shapers_clusters.specs.Steps.{steps_along, widened}
use Rattle.shapers_universal.specs.Universal.{is_reordered_in_universal, piece_steps, pieces, universal_reph_step, universal_steps}
use Rattle.shapers_universal.specs.Proved.UniversalSteps.{pieces_sum}
use Rattle.shapers_clusters.proofs.Halves.{along-widened}

-- the steps of a syllable that is reordered, over a text: its reph, then its pieces
pub steps_widened : (s e : ℕ) (gs : Glyphs) → s ≤ e → e ≤ length gs
    → is_reordered_in_universal (stretch_of s e gs) ≡ true
    → map (widened s e (length gs)) (universal_steps (stretch_of s e gs))
    ≡ widened s e (length gs) (universal_reph_step (stretch_of s e gs))
    ∷ steps_along (length gs) s (piece_steps (pieces (stretch_of s e gs)))
steps_widened s e gs h l test =
    let zs = stretch_of s e gs in
    let n = length gs in
    let st = universal_reph_step zs in
    let size = length-stretch s e gs l in
    let ps = piece_steps (pieces zs) in
    let none : s + 0 ≡ s = omega arith in
    let along : map (widened s e n) (steps_along (length zs) 0 ps) ≡ steps_along n s ps =
    ap (λ k. map (widened s e n) (steps_along k 0 ps)) size
    ∙ along-widened s e n 0 ps (omega (arith, pieces_sum zs)) h l ∙ ap (λ j. steps_along n j ps) none in
    ap (λ b. map (widened s e n) (if b then st ∷ steps_along (length zs) 0 ps else [])) test
    ∙ ap (λ xs. widened s e n st ∷ xs) along
