-- Syllables without a break inside them: all glyphs but those of a least cluster are flagged.
use Rattle.std.proofs.Common.{ℕ, suc, if◌then◌else◌, ◌-◌, ◌<◌, ◌≤◌, ◌≡◌, ◌≢◌, ◌==◌, true, false, ◌&&◌, List, [], ◌∷◌, ◌++◌, length, map, take, drop, get_or, refl, sym, ap, ◌∙◌, subst, arith, inl, inr, ◌⊎◌, length-append}
use Rattle.std.specs.Int.Bits.{bit_or}
use Rattle.std.specs.List.{All, AllByRecursion, flat_map}
use Rattle.std.proofs.lemmas.Bool.{cases_order, and_from, eq-eqb, eqb-true, both_ways, or_left}
use Rattle.std.proofs.lemmas.List.{get_or-append_right, get_or_append_left, get_or-map, length-map, append-nil}
use Rattle.std.proofs.lemmas.List.Elements.{All-append, All-cons, All-drop, All-from_get_or, All-get_or, All-head, All-take}
use Rattle.std.proofs.lemmas.List.Folds.{list_any_at}
use Rattle.std.proofs.lemmas.Nat.Bits.{bit_at_or}
use Rattle.shapers_buffer.specs.Glyphs.{Glyph, Glyphs}
use Rattle.shapers_buffer.specs.Clusters.{least}
use Rattle.shapers_buffer.specs.Glyph.{clusters, default_glyph}
use Rattle.shapers_buffer.specs.GlyphFlags.{flagged, with_bits, with_bits_off}
use Rattle.shapers_clusters.specs.Breaks.{IsClear, greater, is_unsafe}
use Rattle.shapers_clusters.specs.Flags.{bit_at}
use Rattle.shapers_clusters.proofs.ClusterMerges.{least-le}
use Rattle.shapers_syllabic.specs.Circles.{circle_in, circled_syllable, is_of_kind, rephas_len, with_circle}
use Rattle.shapers_syllabic.specs.declared.ot_shaper_syllabic.circles.DottedCircles.{DottedCircles}
use Rattle.shapers_break_laws.specs.Setup.{FlaggedAt, IsFlagged}

-- a glyph of the least cluster m, or above it and flagged
abbrev pub LeastOrFlagged : ℕ → Glyph → Type 0
LeastOrFlagged m g = (m ≤ g.cluster) × (g.cluster ≢ m → IsFlagged g)

-- glyphs without a break between them
abbrev pub IsWhole : Glyphs → Type 0
IsWhole gs = (m : ℕ) × All (LeastOrFlagged m) gs

-- a flag call over all of them
pub three_flags : (mask : ℕ) → (bit_at 0 (bit_or mask 3) ≡ 1) × (bit_at 1 (bit_or mask 3) ≡ 1)
three_flags mask =
    let a : bit_at 0 3 ≡ 1 = refl in
    let b : bit_at 1 3 ≡ 1 = refl in
    let c : bit_at 0 mask ≤ 1 = omega arith in
    let d : bit_at 1 mask ≤ 1 = omega arith in
    (omega (arith, bit_at_or mask 3 0, a, c), omega (arith, bit_at_or mask 3 1, b, d))

off_flagged : (m : ℕ) (g : Glyph) → m ≤ g.cluster → LeastOrFlagged m (with_bits_off 3 m g)
off_flagged m g h = elim (g.cluster == m) as
    (λ b. (g.cluster == m) ≡ b → LeastOrFlagged m (if b then g else with_bits 3 g)) [
      | true ↦ λ e. (h, λ ne. absurd (ne (eqb-true g.cluster m e)))
      | false ↦ λ e. (h, λ ne. three_flags g.mask)
    ] refl

pub flagged_whole : (gs : Glyphs) → IsWhole (flagged 3 gs)
flagged_whole gs =
    let m = least (clusters gs) in
    let f = with_bits_off 3 m in
    let n = length-map gs f in
    let c = length-map gs (λ (g : Glyph). g.cluster) in (
      m,
      All-from_get_or (LeastOrFlagged m) (map f gs) default_glyph (λ i l.
          let il : i < length gs = omega arith in
          let low : m ≤ get_or (clusters gs) i 0 = least-le (clusters gs) i (omega arith) in
          let is = get_or-map (λ (g : Glyph). g.cluster) gs i default_glyph 0 il in
          subst (LeastOrFlagged m) (sym (get_or-map f gs i default_glyph default_glyph il))
          (off_flagged m (get_or gs i default_glyph) (omega arith))),
    )

-- a circle has cluster and flags of the first glyph
circle_whole : (m : ℕ) (circle : Glyph) (g : Glyph) (gs : Glyphs) → All
    (LeastOrFlagged m) (g ∷ gs) → LeastOrFlagged m (circle_in (g ∷ gs) circle)
circle_whole m circle g gs h = All-head (LeastOrFlagged m) g gs h

pub circled_whole : (rule : DottedCircles) (gs : Glyphs) → IsWhole gs → IsWhole (circled_syllable rule gs)
circled_whole rule [] h = h
circled_whole rule (g ∷ gs) h =
    let P = LeastOrFlagged h.0 in
    let n = rephas_len rule.repha (g ∷ gs) in
    let circle = circle_in (g ∷ gs) rule.circle in
    elim (is_of_kind rule.broken_kind (g ∷ gs)) as (λ b. IsWhole (if b then with_circle rule (g ∷ gs) else g ∷ gs)) [
      | true ↦ (
        h.0,
        All-append P (take n (g ∷ gs)) (circle ∷ drop n (g ∷ gs)) (All-take P n (g ∷ gs) h.1)
            (All-cons P circle (drop n (g ∷ gs)) (circle_whole h.0 rule.circle g gs h.1) (All-drop P n (g ∷ gs) h.1)),
      )
      | false ↦ h
    ]

-- two places of one piece
flagged_inside : (piece rest : Glyphs) (p : ℕ) → IsWhole piece → 0 < p → p < length piece → FlaggedAt
    (piece ++ rest) p
flagged_inside piece rest p h z l =
    let P = LeastOrFlagged h.0 in
    let d = default_glyph in
    let a = get_or piece (p - 1) d in
    let b = get_or piece p d in
    let before : get_or (piece ++ rest) (p - 1) d ≡ a = get_or_append_left piece rest d (p - 1) (omega arith) in
    let behind : get_or (piece ++ rest) p d ≡ b = get_or_append_left piece rest d p l in
    let first : P a = All-get_or P piece (p - 1) d (omega arith) h.1 in
    let second : P b = All-get_or P piece p d l h.1 in
    record {
      rising = λ less. subst IsFlagged (sym behind)
          (second.1 (λ e. absurd (omega (
            arith,
            less,
            ap (λ (g : Glyph). g.cluster) before,
            ap
                (λ (g : Glyph). g.cluster) behind,
            first.0,
            e,
          ))));
      falling = λ less. subst IsFlagged (sym before)
          (first.1 (λ e. absurd (omega (
            arith,
            less,
            ap (λ (g : Glyph). g.cluster) before,
            ap
                (λ (g : Glyph). g.cluster) behind,
            second.0,
            e,
          ))));
    }

-- and two of what stands behind it
flagged_behind : (piece rest : Glyphs) (p : ℕ) → length piece < p → FlaggedAt rest (p - length piece)
    → FlaggedAt (piece ++ rest) p
flagged_behind piece rest p l h =
    let d = default_glyph in
    let n = length piece in
    let i : p - 1 - n ≡ p - n - 1 = omega arith in
    let before : get_or (piece ++ rest) (p - 1) d ≡ get_or rest (p - n - 1) d = get_or-append_right piece rest n
    (p - 1) d refl (omega arith) ∙ ap (λ k. get_or rest k d) i in
    let behind : get_or (piece ++ rest) p d ≡ get_or rest (p - n) d = get_or-append_right piece rest n p d refl
    (omega arith) in
    record {
      rising = λ less. subst IsFlagged (sym behind)
          (h.rising (subst (λ (g : Glyph). g.cluster < (get_or rest (p - n) d).cluster) before
          (subst (λ (g : Glyph). (get_or (piece ++ rest) (p - 1) d).cluster < g.cluster) behind less)));
      falling = λ less. subst IsFlagged (sym before)
          (h.falling (subst (λ (g : Glyph). g.cluster < (get_or rest (p - n - 1) d).cluster) behind
          (subst (λ (g : Glyph). (get_or (piece ++ rest) p d).cluster < g.cluster) before less)));
    }

-- place p is a border of pieces: the first k of them are the p glyphs before it
pub record PieceBorder (pieces : List Glyphs) (p : ℕ) : Type 0 where
  pub count : ℕ
  pub within : count ≤ length pieces
  pub place : length (flat_map (λ piece. piece) (take count pieces)) ≡ p

-- each place of whole pieces is a border, or flagged
pub border_or_flagged : (pieces : List Glyphs) → AllByRecursion IsWhole pieces → (p : ℕ) → 0 < p
    → p < length (flat_map (λ piece. piece) pieces) → PieceBorder pieces p ⊎ FlaggedAt
    (flat_map (λ piece. piece) pieces) p
border_or_flagged [] h p z l = absurd (omega arith)
border_or_flagged (piece ∷ pieces) h p z l =
    let rest = flat_map (λ q. q) pieces in
    let n = length piece in
    let both = length-append piece rest in
    elim (cases_order p n) [
      | inl same ↦ inl (record { count = 1; within = omega arith; place = ap length (append-nil piece) ∙ sym same })
      | inr (inl less) ↦ inr (flagged_inside piece rest p h.0 z less)
      | inr (inr more) ↦ elim (border_or_flagged pieces h.1 (p - n) (omega arith) (omega arith)) [
        | inl border ↦
            let k = border.count in
            let kl = border.within in
            let place = border.place in
            inl (record {
              count = suc k;
              within = omega arith;
              place = length-append piece
                  (flat_map (λ q. q) (take k pieces)) ∙ omega (arith, place, more);
            })
        | inr there ↦ inr (flagged_behind piece rest p more there)
      ]
    ]

-- a clear place isn't flagged
cluster_at : (gs : Glyphs) (k : ℕ) → k < length gs → get_or (clusters gs) k 0 ≡
    (get_or gs k default_glyph).cluster
cluster_at gs k h = get_or-map (λ (g : Glyph). g.cluster) gs k default_glyph 0 h

pub clear_not_flagged : (gs : Glyphs) (p : ℕ) → 0 < p → p < length gs → IsClear gs p → FlaggedAt gs p → ⊥
clear_not_flagged gs p z l clear h =
    let d = default_glyph in
    let a = get_or gs (p - 1) d in
    let b = get_or gs p d in
    let c = greater gs p in
    let first = cluster_at gs (p - 1) (omega arith) in
    let second = cluster_at gs p l in
    let hit : (k : ℕ) → k < length gs → (get_or gs k d).cluster ≡ c → IsFlagged (get_or gs k d) → ⊥ = λ k kl is flags.
    both_ways _ clear.unflagged (list_any_at (λ g. g.cluster == c && is_unsafe g) gs k d kl
    (and_from _ _ (eq-eqb _ _ is) (or_left _ _ (eq-eqb _ _ flags.0)))) in
    elim (cases_order (get_or (clusters gs) (p - 1) 0) (get_or (clusters gs) p 0)) [
      | inl same ↦ clear.differ same
      | inr (inl less) ↦ hit p l (omega arith) (h.rising (omega arith))
      | inr (inr more) ↦ hit (p - 1) (omega arith) (omega arith) (h.falling (omega arith))
    ]
