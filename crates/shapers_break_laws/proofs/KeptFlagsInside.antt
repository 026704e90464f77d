-- Where each run of a cluster keeps a glyph with its flags, no place inside a syllable is clear.
use Rattle.std.proofs.Common.{ℕ, suc, ◌%◌, ◌+◌, ◌-◌, ◌<◌, ◌≤◌, ◌≡◌, ◌≢◌, ◌==◌, max, ◌&&◌, List, [], ◌∷◌, ◌++◌, length, map, take, get_or, refl, sym, ap, ◌∙◌, subst, arith, inl, inr, ◌⊎◌, length-append}
use Rattle.std.specs.List.{AllByRecursion, flat_map}
use Rattle.std.proofs.lemmas.Bool.{and_from, both_ways, cases_order, eq-eqb, or_left}
use Rattle.std.proofs.lemmas.List.{append-nil, get_or-append_right, get_or-map, get_or_append_left, length-map}
use Rattle.std.proofs.lemmas.List.Elements.{All-get_or}
use Rattle.std.proofs.lemmas.List.Folds.{list_any_at}
use Rattle.shapers_buffer.specs.Glyphs.{Glyph, Glyphs}
use Rattle.shapers_buffer.specs.Glyph.{clusters, default_glyph}
use Rattle.shapers_clusters.specs.Breaks.{IsClear, greater, is_unsafe}
use Rattle.shapers_clusters.specs.Flags.{bit_at}
use Rattle.shapers_syllabic.specs.Reordering.{carried}
use Rattle.shapers_break_laws.specs.Setup.{IsFlagged}
use Rattle.shapers_break_laws.proofs.Guarded.{IsWhole, LeastOrFlagged, PieceBorder}
use Rattle.shapers_break_laws.proofs.Keepers.{AllAt, HaveKeepers, Keeper}

-- the greater of two clusters is that of a flagged glyph
pub record GreaterFlagged (gs : Glyphs) (c d : ℕ) : Type 0 where
  pub at : ℕ
  pub within : at < length gs
  pub is : (get_or gs at default_glyph).cluster ≡ max c d
  pub flags : IsFlagged (get_or gs at default_glyph)

abbrev pub cluster_of : Glyphs → ℕ → ℕ
cluster_of gs i = (get_or gs i default_glyph).cluster

-- so of each two clusters that meet
abbrev pub GreaterKept : Glyphs → Type 0
GreaterKept gs = (p : ℕ) → 0 < p → p < length gs → cluster_of gs (p - 1) ≢ cluster_of gs p →
    GreaterFlagged gs (cluster_of gs (p - 1)) (cluster_of gs p)

cluster_at : (gs : Glyphs) (k : ℕ) → k < length gs → get_or (clusters gs) k 0 ≡ cluster_of gs k
cluster_at gs k h = get_or-map (λ (g : Glyph). g.cluster) gs k default_glyph 0 h

-- the cluster of a place is its keeper's
keeper_cluster : (P : Glyph → Type 0) (gs : Glyphs) (i : ℕ) → i < length gs →
    (k : Keeper P gs i) → cluster_of gs k.at ≡ cluster_of gs i
keeper_cluster P gs i l k = sym (cluster_at gs k.at k.within) ∙ k.shares k.at (omega arith) (omega arith)
    ∙ cluster_at gs i l

-- what stands above the least is flagged
flagged_above : (m : ℕ) (gs : Glyphs) → HaveKeepers (LeastOrFlagged m) gs → (i : ℕ) → i < length gs
    → (c d : ℕ) → cluster_of gs i ≡ max c d → m < max c d → GreaterFlagged gs c d
flagged_above m gs have i l c d is above =
    let k = have i l in
    let same = keeper_cluster (LeastOrFlagged m) gs i l k in
    let holds = k.holds in
    record {
      at = k.at;
      within = k.within;
      is = same ∙ is;
      flags = holds.1 (λ e. absurd (omega (arith, same, is, above, e)));
    }

least_below : (m : ℕ) (gs : Glyphs) → HaveKeepers (LeastOrFlagged m) gs → (i : ℕ) → i < length gs
    → m ≤ cluster_of gs i
least_below m gs have i l =
    let k = have i l in
    let same = keeper_cluster (LeastOrFlagged m) gs i l k in
    let holds = k.holds in
    omega (arith, holds.0, same)

pub greater_kept : (m : ℕ) (gs : Glyphs) → HaveKeepers (LeastOrFlagged m) gs → GreaterKept gs
greater_kept m gs have p z l ne =
    let c = cluster_of gs (p - 1) in
    let d = cluster_of gs p in
    let low = least_below m gs have (p - 1) (omega arith) in
    let high = least_below m gs have p l in
    elim (cases_order c d) [
      | inl same ↦ absurd (ne same)
      | inr (inl less) ↦ flagged_above m gs have p l c d (omega arith) (omega arith)
      | inr (inr more) ↦ flagged_above m gs have (p - 1) (omega arith) c d (omega arith) (omega arith)
    ]

-- a whole syllable, glyph by glyph
pub whole_at : (gs : Glyphs) (w : IsWhole gs) → AllAt (LeastOrFlagged w.0) gs
whole_at gs w i l = All-get_or (LeastOrFlagged w.0) gs i default_glyph l w.1

-- in pieces side by side
greater_front : (xs ys : Glyphs) (c d : ℕ) → GreaterFlagged xs c d → GreaterFlagged (xs ++ ys) c d
greater_front xs ys c d g =
    let same = get_or_append_left xs ys default_glyph g.at g.within in
    let w = g.within in
    record {
      at = g.at;
      within = omega (arith, length-append xs ys, w);
      is = ap (λ (h : Glyph). h.cluster) same ∙ g.is;
      flags = subst IsFlagged (sym same) g.flags;
    }

greater_behind : (xs ys : Glyphs) (c d : ℕ) → GreaterFlagged ys c d → GreaterFlagged (xs ++ ys) c d
greater_behind xs ys c d g =
    let n = length xs in
    let i : n + g.at - n ≡ g.at = omega arith in
    let same : get_or (xs ++ ys) (n + g.at) default_glyph ≡ get_or ys g.at default_glyph =
    get_or-append_right xs ys n (n + g.at) default_glyph refl (omega arith) ∙ ap (λ k. get_or ys k default_glyph) i in
    let w = g.within in
    record {
      at = n + g.at;
      within = omega (arith, length-append xs ys, w);
      is = ap (λ (h : Glyph). h.cluster) same ∙ g.is;
      flags = subst IsFlagged (sym same) g.flags;
    }

-- each place of the pieces' results is a border of them, or the greater cluster there is flagged
pub border_or_greater : (pieces : List Glyphs) → AllByRecursion GreaterKept pieces → (p : ℕ) → 0 < p
    → p < length (flat_map (λ piece. piece) pieces) → let all = flat_map (λ piece. piece) pieces in
    cluster_of all (p - 1) ≢ cluster_of all p →
    PieceBorder pieces p ⊎ GreaterFlagged all (cluster_of all (p - 1)) (cluster_of all p)
border_or_greater [] h p z l ne = absurd (omega arith)
border_or_greater (piece ∷ pieces) h p z l ne =
    let rest = flat_map (λ q. q) pieces in
    let n = length piece in
    let both = length-append piece rest in
    elim (cases_order p n) [
      | inl same ↦ inl (record { count = 1; within = omega arith; place = ap length (append-nil piece) ∙ sym same })
      | inr (inl less) ↦
          let a : cluster_of (piece ++ rest) (p - 1) ≡ cluster_of piece (p - 1) = ap
          (λ (g : Glyph). g.cluster) (get_or_append_left piece rest default_glyph (p - 1) (omega arith)) in
          let b : cluster_of (piece ++ rest) p ≡ cluster_of piece p = ap
          (λ (g : Glyph). g.cluster) (get_or_append_left piece rest default_glyph p less) in
          inr (subst (λ c. GreaterFlagged (piece ++ rest) c (cluster_of (piece ++ rest) p)) (sym a)
          (subst (GreaterFlagged (piece ++ rest) (cluster_of piece (p - 1))) (sym b)
          (greater_front piece rest (cluster_of piece (p - 1)) (cluster_of piece p)
          (h.0 p z less (λ e. ne (a ∙ e ∙ sym b))))))
      | inr (inr more) ↦
          let i : p - 1 - n ≡ p - n - 1 = omega arith in
          let a : cluster_of (piece ++ rest) (p - 1) ≡ cluster_of rest (p - n - 1) = ap
          (λ (g : Glyph). g.cluster) (get_or-append_right piece rest n (p - 1) default_glyph refl (omega arith)
          ∙ ap (λ k. get_or rest k default_glyph) i) in
          let b : cluster_of (piece ++ rest) p ≡ cluster_of rest (p - n) = ap
          (λ (g : Glyph). g.cluster) (get_or-append_right piece rest n p default_glyph refl (omega arith)) in
          elim (border_or_greater pieces h.1 (p - n) (omega arith) (omega arith) (λ e. ne (a ∙ e ∙ sym b))) [
            | inl border ↦
                let k = border.count in
                let kl = border.within in
                let place = border.place in
                inl (record {
                  count = suc k;
                  within = omega arith;
                  place = length-append piece
                      (flat_map (λ q. q) (take k pieces)) ∙ omega (arith, place, more);
                })
            | inr there ↦ inr
                (subst (λ c. GreaterFlagged (piece ++ rest) c (cluster_of (piece ++ rest) p)) (sym a)
                (subst (GreaterFlagged (piece ++ rest) (cluster_of rest (p - n - 1))) (sym b)
                (greater_behind piece rest (cluster_of rest (p - n - 1)) (cluster_of rest (p - n)) there)))
          ]
    ]

-- glyphs that show the same clusters and flags
bits_same : (a b : ℕ) → b % 8 ≡ a % 8 → bit_at 0 a ≡ 1 → bit_at 0 b ≡ 1
bits_same a b e h = omega arith

same_at : (xs ys : Glyphs) → map carried xs ≡ map carried ys → (k : ℕ) → k < length xs → k < length ys →
    (cluster_of xs k ≡ cluster_of ys k)
    × ((get_or xs k default_glyph).mask % 8 ≡ (get_or ys k default_glyph).mask % 8)
same_at xs ys same k a b =
    let d = default_glyph in
    let each : carried (get_or xs k d) ≡ carried (get_or ys k d) = sym (get_or-map carried xs k d d a)
    ∙ ap (λ zs. get_or zs k d) same ∙ get_or-map carried ys k d d b in
    (ap (λ (g : Glyph). g.cluster) each, ap (λ (g : Glyph). g.mask) each)

-- so a clear place is a border of pieces
pub clear_at_border_by : (pieces : List Glyphs) → AllByRecursion GreaterKept pieces →
    (new : Glyphs) → let all = flat_map (λ piece. piece) pieces in
    length new ≡ length all → ((k : ℕ) → k < length all → cluster_of new k ≡ cluster_of all k) →
    ((k : ℕ) → k < length all → IsFlagged (get_or all k default_glyph)
    → bit_at 0 (get_or new k default_glyph).mask ≡ 1) → (p : ℕ) → 0 < p → p < length new → IsClear new p
    → PieceBorder pieces p
clear_at_border_by pieces kept new long same flagged p z l clear =
    let all = flat_map (λ piece. piece) pieces in
    let a = same (p - 1) (omega arith) in
    let b = same p (omega arith) in
    let x = cluster_at new (p - 1) (omega arith) in
    let y = cluster_at new p l in
    elim (border_or_greater pieces kept p z (omega arith) (λ e. clear.differ (x ∙ a ∙ e ∙ sym b ∙ sym y))) [
      | inl border ↦ border
      | inr there ↦
          let k = there.at in
          let kw = there.within in
          let kl : k < length new = omega arith in
          let c = same k kw in
          let is = there.is in
          let g = get_or new k default_glyph in
          let own : g.cluster ≡ greater new p = omega (arith, c, is, a, b, x, y) in
          let bad : bit_at 0 g.mask ≡ 1 = flagged k kw there.flags in
          absurd (both_ways _ clear.unflagged (list_any_at (λ g. g.cluster == greater new p && is_unsafe g) new k
          default_glyph kl (and_from _ _ (eq-eqb _ _ own) (or_left _ _ (eq-eqb _ _ bad)))))
    ]

pub clear_at_border : (pieces : List Glyphs) → AllByRecursion GreaterKept pieces →
    (new : Glyphs) → map carried new ≡ map carried (flat_map (λ piece. piece) pieces) → (p : ℕ) → 0 < p
    → p < length new → IsClear new p → PieceBorder pieces p
clear_at_border pieces kept new same p z l clear =
    let all = flat_map (λ piece. piece) pieces in
    let long : length new ≡ length all = sym (length-map new carried) ∙ ap length same ∙ length-map all carried in
    clear_at_border_by pieces kept new long (λ k kl. (same_at new all same k (omega arith) kl).0)
    (λ k kl flags. bits_same (get_or all k default_glyph).mask (get_or new k default_glyph).mask
    (same_at new all same k (omega arith) kl).1 flags.0) p z l clear
