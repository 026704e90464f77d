-- Steps of a syllable of two clusters keep its flags, whatever they are.
use Rattle.std.proofs.Common.{ℕ, ◌<◌, ◌≤◌, ◌≡◌, List, length, get_or, sym, ◌∙◌, subst, arith, inl, inr, ◌⊎◌}
use Rattle.std.specs.List.{All}
use Rattle.std.proofs.lemmas.List.{get_or-map, length-map}
use Rattle.std.proofs.lemmas.List.Elements.{All-from_get_or, All-get_or, AllZip-get_or}
use Rattle.shapers_buffer.specs.Glyphs.{Glyph, Glyphs}
use Rattle.shapers_buffer.specs.declared.buffer.level.BufferClusterLevel.{BufferClusterLevel}
use Rattle.shapers_buffer.specs.Clusters.{least}
use Rattle.shapers_buffer.specs.Glyph.{clusters, default_glyph}
use Rattle.shapers_buffer.specs.Places.{pick}
use Rattle.shapers_clusters.specs.Flags.{FallsTo}
use Rattle.shapers_clusters.specs.Steps.{FitSteps, Step, old_places, after_steps}
use Rattle.shapers_clusters.proofs.ClusterMerges.{least-among}
use Rattle.shapers_clusters.proofs.Falls.{flags_fall}
use Rattle.shapers_clusters.proofs.Moves.{all-joined_steps, length-old_places, within-old_places}
use Rattle.shapers_clusters.proofs.Picks.{get_or-pick, length-pick, within_at}
use Rattle.shapers_clusters.proofs.Proved.{steps_hold}
use Rattle.shapers_break_laws.specs.FinalBreaks.{IsOfTwoClusters}
use Rattle.shapers_break_laws.specs.KeptTextBreaks.{FlaggedInside}
use Rattle.shapers_break_laws.specs.Setup.{IsFlagged}
use Rattle.shapers_break_laws.proofs.Guarded.{IsWhole, LeastOrFlagged}

-- of two clusters the greater is that of what fell to it
greater_of_two : (b c x new old : ℕ) → (x ≡ b) ⊎ (x ≡ c) → (new ≡ b) ⊎ (new ≡ c) → (old ≡ b) ⊎ (old ≡ c) → x < new
    → new ≤ old → new ≡ old
greater_of_two b c x new old is_x is_new is_old above falls = elim is_x [
  | inl xb ↦ elim is_new [
    | inl nb ↦ absurd (omega arith)
    | inr nc ↦ elim is_old [ inl ob ↦ absurd (omega arith) | inr oc ↦ omega arith ]
  ]
  | inr xc ↦ elim is_new [
    | inl nb ↦ elim is_old [ inl ob ↦ omega arith | inr oc ↦ absurd (omega arith) ]
    | inr nc ↦ absurd (omega arith)
  ]
]

-- what holds of all clusters, by glyphs
of_clusters : (P : ℕ → Type 0) (gs : Glyphs) → All (λ g. P g.cluster) gs → All P (clusters gs)
of_clusters P gs h =
    let n = length-map gs (λ (g : Glyph). g.cluster) in
    All-from_get_or P (clusters gs) 0 (λ i l.
    subst P (sym (get_or-map (λ (g : Glyph). g.cluster) gs i default_glyph 0 (omega arith)))
    (All-get_or (λ g. P g.cluster) gs i default_glyph (omega arith) h))

by_clusters : (P : ℕ → Type 0) (gs : Glyphs) → All P (clusters gs) → All (λ g. P g.cluster) gs
by_clusters P gs h =
    let cluster : Glyph → ℕ = λ g. g.cluster in
    let n = length-map gs cluster in
    All-from_get_or (λ (g : Glyph). P g.cluster) gs default_glyph (λ i l.
    subst P (get_or-map cluster gs i default_glyph 0 l) (All-get_or P (clusters gs) i 0 (omega (arith, n, l)) h))

-- what holds of all clusters still does after steps
run_all : (P : ℕ → Type 0) (level : BufferClusterLevel) (steps : List Step) (q : Glyphs) → FitSteps (length q) steps
    → All (λ g. P g.cluster) q → All (λ g. P g.cluster) (after_steps level steps q)
run_all P level steps q fits h = by_clusters P (after_steps level steps q)
    (subst (All P) (sym (steps_hold level steps q fits).clusters_are)
    (all-joined_steps P level (length q) steps (clusters q) (length-map q (λ (g : Glyph). g.cluster)) fits
    (of_clusters P q h)).1)

pub run_two : (level : BufferClusterLevel) (steps : List Step) (q : Glyphs) → FitSteps (length q) steps
    → IsOfTwoClusters q → IsOfTwoClusters (after_steps level steps q)
run_two level steps q fits two =
    (two.0, two.1, run_all (λ k. (k ≡ two.0) ⊎ (k ≡ two.1)) level steps q fits two.2)

-- of its flags none is lost above the least cluster
pub run_flagged : (level : BufferClusterLevel) (steps : List Step) (q : Glyphs) → FitSteps (length q) steps → IsWhole q
    → IsOfTwoClusters q → FlaggedInside (after_steps level steps q)
run_flagged level steps q fits whole two =
    let d = default_glyph in
    let r = after_steps level steps q in
    let m = whole.0 in
    let Two : ℕ → Type 0 = λ k. (k ≡ two.0) ⊎ (k ≡ two.1) in
    let cluster : Glyph → ℕ = λ g. g.cluster in
    let hold = steps_hold level steps q fits in
    let olds = old_places (length q) steps in
    let within = within-old_places (length q) steps in
    let on = length-old_places (length q) steps fits in
    let pn = length-pick olds q within in
    let rn = hold.same_length in
    let cn = length-map r cluster in
    let twos = run_all Two level steps q fits two.2 in
    let lows : All (λ (g : Glyph). m ≤ g.cluster) r = run_all (λ k. m ≤ k) level steps q fits
    (All-from_get_or (λ (g : Glyph). m ≤ g.cluster) q d
    (λ i l. (All-get_or (LeastOrFlagged m) q i d l whole.1).0)) in
    let x = least (clusters r) in
    All-from_get_or (λ (g : Glyph). x < g.cluster → IsFlagged g) r d (λ i l above.
    let g = get_or r i d in
    let j = get_or olds i 0 in
    let jl = within_at (length q) olds within i (omega (arith, on, rn, l)) in
    let o = get_or q j d in
    let was : get_or (pick olds q) i d ≡ o = get_or-pick d olds q within i (omega (arith, on, rn, l)) in
    let falls : FallsTo o g = subst (λ o. FallsTo o g) was
    (AllZip-get_or FallsTo (pick olds q) r i d d hold.falls (omega (arith, pn, on, rn, l))) in
    let f = flags_fall o g falls in
    let at = least-among (clusters r) (omega (arith, cn, l)) in
    let al : at.0 < length r = omega (arith, cn, at.1) in
    let is : (get_or r at.0 d).cluster ≡ x = sym (get_or-map cluster r at.0 d 0 al) ∙ at.2 in
    let is_x : Two x = subst Two is (All-get_or (λ (g : Glyph). Two g.cluster) r at.0 d al twos) in
    let low : m ≤ x = subst (λ k. m ≤ k) is (All-get_or (λ (g : Glyph). m ≤ g.cluster) r at.0 d al lows) in
    let is_g : Two g.cluster = All-get_or (λ (g : Glyph). Two g.cluster) r i d l twos in
    let is_o : Two o.cluster = All-get_or (λ (g : Glyph). Two g.cluster) q j d jl two.2 in
    let same = greater_of_two two.0 two.1 x g.cluster o.cluster is_x is_g is_o above f.at_most in
    let marks = f.kept same in
    let flags = (All-get_or (LeastOrFlagged m) q j d jl whole.1).1 (λ e. absurd (omega (arith, e, same, above, low))) in
    (omega (arith, marks, flags.0), omega (arith, marks, flags.1)))
