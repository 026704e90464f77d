-- What lookups keep of clusters: none is new, and where they merge they still rise or fall.
use Rattle.std.proofs.Common.{◌≡◌, ◌∙◌, ℕ, ◌+◌, ◌<◌, ◌≤◌, List, [], ◌∷◌, ◌++◌, take, drop, length, get_or, set, refl, sym, ap, subst, inl, inr, zero, suc, arith, add-one}
use Rattle.std.specs.List.{All, Contains, remove}
use Rattle.std.proofs.Math.Seq.{drop-cons}
use Rattle.std.proofs.lemmas.List.{length-map, take-append-drop}
use Rattle.std.proofs.lemmas.List.Elements.{All-contains, All-contains_itself}
use Rattle.shapers_buffer.specs.Glyph.{clusters, default_glyph}
use Rattle.shapers_buffer.specs.Glyphs.{Glyph, Glyphs}
use Rattle.shapers_buffer.specs.Clusters.{merge}
use Rattle.shapers_buffer.specs.declared.buffer.level.BufferClusterLevel.{BufferClusterLevel}
use Rattle.shapers_clusters.specs.Cuts.{IsMonotone}
use Rattle.shapers_clusters.proofs.Cuts.{stays_falling, stays_rising}
use Rattle.shapers_clusters.proofs.Halves.{Each, each-append}
use Rattle.shapers_clusters.proofs.Moves.{all-joined, clusters-merge_all}
use Rattle.opentype_gsub.specs.Kept.{KeepsTextClusters}
use Rattle.opentype_layout.specs.Text.{glyph_at}
use Rattle.opentype_gsub.proofs.Pairs.{Pairs, all_of, each-first, each-last, each_as, each_of, mono_by, pairs-append, pairs-cross, pairs-first, pairs-last, pairs-without}

pub same : (level : BufferClusterLevel) (old new : Glyphs) → clusters new ≡ clusters old → KeepsTextClusters level old new
same level old new is = record {
  none = subst (λ cs. All (Contains (clusters old)) cs) (sym is) (All-contains_itself (clusters old));
  mono = λ merging rises. subst IsMonotone (sym is) rises;
}

pub itself : (level : BufferClusterLevel) (gs : Glyphs) → KeepsTextClusters level gs gs
itself level gs = same level gs gs refl

pub kept_then : (level : BufferClusterLevel) (a b c : Glyphs) → KeepsTextClusters level a b → KeepsTextClusters level b c → KeepsTextClusters level a c
kept_then level a b c one two = record {
  none = λ k d lt. All-contains (Contains (clusters a)) (clusters b) (get_or (clusters c) k d) one.none
      (two.none k d lt);
  mono = λ merging rises. two.mono merging (one.mono merging rises);
}

pub kept_by : (level : BufferClusterLevel) (old new : Glyphs) →
    ((P : ℕ → Type 0) → Each P old → Each P new) →
    ((R : ℕ → ℕ → Type 0) → ((k : ℕ) → R k k) → Pairs R old → Pairs R new) → KeepsTextClusters level old new
kept_by level old new each pairs = record {
  none = all_of (Contains (clusters old)) new
      (each (Contains (clusters old)) (each_of (Contains (clusters old)) old (All-contains_itself (clusters old))));
  mono = λ merging. mono_by old new pairs;
}

-- clusters merged
pub merge_keeps : (level : BufferClusterLevel) (s e : ℕ) (gs : Glyphs) → e ≤ length gs →
    KeepsTextClusters level gs (merge level s e gs)
merge_keeps level s e gs within =
    let fits : e ≤ length (clusters gs) = omega (arith, length-map gs (λ g. g.cluster)) in
    let is = clusters-merge_all level ((s, e) ∷ []) gs in
    let Q : List ℕ → Type 0 = All (Contains (clusters gs)) in
    record {
      none = subst Q (sym is) (all-joined (Contains (clusters gs)) level ((s, e) ∷ []) (clusters gs)
          (fits, tt) (All-contains_itself (clusters gs)));
      mono = λ merging rises. subst IsMonotone (sym is) (elim rises [
        | inl up ↦ inl (stays_rising level ((s, e) ∷ []) (clusters gs) (fits, tt) up)
        | inr down ↦ inr (stays_falling level ((s, e) ∷ []) (clusters gs) (fits, tt) down)
      ]);
    }

-- a glyph that goes
each-without : (P : ℕ → Type 0) (i : ℕ) (gs : Glyphs) → Each P gs → Each P (take i gs ++ drop (suc i) gs)
each-without P zero [] p = tt
each-without P zero (g ∷ gs) p = p.1
each-without P (suc i) [] p = tt
each-without P (suc i) (g ∷ gs) p = (p.0, each-without P i gs p.1)

pub remove_keeps : (level : BufferClusterLevel) (at : ℕ) (gs : Glyphs) → KeepsTextClusters level gs (remove gs at)
remove_keeps level at gs = kept_by level gs (remove gs at)
    (λ P p. each-without P at gs p)
    (λ R r p. (let e : at + 1 ≡ suc at = omega arith in
    subst (λ n. Pairs R (take at gs ++ drop n gs)) e (pairs-without R at gs p)))

-- a glyph in the place of one, in its cluster
pub clusters-set : (at : ℕ) (gs : Glyphs) (g : Glyph) → (at < length gs → g.cluster ≡ (glyph_at gs at).cluster) →
    clusters (set gs at g) ≡ clusters gs
clusters-set at [] g is = refl
clusters-set zero (x ∷ gs) g is = ap (λ k. k ∷ clusters gs) (is (omega arith))
clusters-set (suc at) (x ∷ gs) g is =
    ap (λ ks. x.cluster ∷ ks) (clusters-set at gs g (λ lt. is (omega arith)))

pub set_keeps : (level : BufferClusterLevel) (at : ℕ) (gs : Glyphs) (g : Glyph) →
    (at < length gs → g.cluster ≡ (glyph_at gs at).cluster) → KeepsTextClusters level gs (set gs at g)
set_keeps level at gs g is = same level gs (set gs at g) (clusters-set at gs g is)

-- several in the place of one
equal_each : (P : ℕ → Type 0) (c : ℕ) (parts : Glyphs) → P c → Each (λ k. k ≡ c) parts → Each P parts
equal_each P c parts p equal = each_as (λ k. k ≡ c) P parts (λ k e. subst P (sym e) p) equal

equal_pairs : (R : ℕ → ℕ → Type 0) → ((k : ℕ) → R k k) → (c : ℕ) (parts : Glyphs) → Each (λ k. k ≡ c) parts →
    Pairs R parts
equal_pairs R r c [] equal = tt
equal_pairs R r c (g ∷ gs) equal = (
  each_as (λ k. k ≡ c) (λ k. R g.cluster k) gs
      (λ k e. subst (λ x. R g.cluster x) (equal.0 ∙ sym e) (r g.cluster)) equal.1,
  equal_pairs R r c gs equal.1,
)

each_put : (P : ℕ → Type 0) (before parts behind : Glyphs) (g : Glyph) → Each (λ k. k ≡ g.cluster) parts →
    Each P (before ++ (g ∷ behind)) → Each P (before ++ (parts ++ behind))
each_put P before parts behind g equal p =
    let rest : Each P (g ∷ behind) = each-last P before (g ∷ behind) p in
    each-append P before (parts ++ behind) (each-first P before (g ∷ behind) p)
    (each-append P parts behind (equal_each P g.cluster parts rest.0 equal) rest.1)

pairs_put : (R : ℕ → ℕ → Type 0) → ((k : ℕ) → R k k) → (before parts behind : Glyphs) (g : Glyph) →
    Each (λ k. k ≡ g.cluster) parts → Pairs R (before ++ (g ∷ behind)) → Pairs R (before ++ (parts ++ behind))
pairs_put R r before parts behind g equal p =
    let rest : Pairs R (g ∷ behind) = pairs-last R before (g ∷ behind) p in
    pairs-append R before (parts ++ behind) (pairs-first R before (g ∷ behind) p)
    (pairs-append R parts behind (equal_pairs R r g.cluster parts equal) rest.1
    (equal_each (λ k. Each (R k) behind) g.cluster parts rest.0 equal))
    (each_as (λ k. Each (R k) (g ∷ behind)) (λ k. Each (R k) (parts ++ behind)) before
    (λ k e. each-append (R k) parts behind (equal_each (R k) g.cluster parts e.0 equal) e.1)
    (pairs-cross R before (g ∷ behind) p))

pub parts_keep : (level : BufferClusterLevel) (at : ℕ) (gs parts : Glyphs) → at < length gs →
    Each (λ k. k ≡ (glyph_at gs at).cluster) parts →
    KeepsTextClusters level gs (take at gs ++ (parts ++ drop (at + 1) gs))
parts_keep level at gs parts lt equal =
    let g = glyph_at gs at in
    let split : gs ≡ take at gs ++ (g ∷ drop (at + 1) gs) =
    sym (take-append-drop at gs) ∙ ap (λ xs. take at gs ++ xs) (rw add-one (drop-cons gs at default_glyph lt)) in
    kept_by level gs (take at gs ++ (parts ++ drop (at + 1) gs))
    (λ P p. each_put P (take at gs) parts (drop (at + 1) gs) g equal (subst (Each P) split p))
    (λ R r p. pairs_put R r (take at gs) parts (drop (at + 1) gs) g equal (subst (Pairs R) split p))
