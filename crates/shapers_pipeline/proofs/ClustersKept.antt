-- Texts whose clusters are those of another, and rise or fall where those do.
use Rattle.std.proofs.Common.{◌≡◌, ◌∙◌, ℕ, ◌≤◌, Bool, true, false, cond, [], ◌∷◌, map, reverse, get_or, refl, sym, ap, subst, inl, inr}
use Rattle.std.specs.List.{All, Contains}
use Rattle.std.proofs.lemmas.List.{reverse-append}
use Rattle.std.proofs.lemmas.List.Elements.{All-contains, All-contains_itself}
use Rattle.shapers_buffer.specs.Glyph.{clusters}
use Rattle.shapers_buffer.specs.Glyphs.{Glyph, Glyphs}
use Rattle.shapers_clusters.specs.Cuts.{IsMonotone}
use Rattle.shapers_syllabic.specs.CircleLaws.{NoNewCluster}
use Rattle.shapers_clusters.proofs.Halves.{Each, each-append}
use Rattle.shapers_normal.proofs.Beside.{all_of, each_of}
use Rattle.shapers_normal.proofs.Pairs.{Cross, Pairs, each_as, from_pairs, mono_by, pairs-append, to_pairs}
use Rattle.rustybuzz_shapers.specs.Monotone.{StaysMonotone}

-- each cluster is an old one; and where it merges, they still rise or fall
pub record Kept (merging : Bool) (old new : Glyphs) : Type 0 where
  pub none : NoNewCluster old new
  pub mono : merging ≡ true → IsMonotone (clusters old) → IsMonotone (clusters new)

pub same : (m : Bool) (old new : Glyphs) → clusters new ≡ clusters old → Kept m old new
same m old new is = record {
  none = subst (λ cs. All (Contains (clusters old)) cs) (sym is) (All-contains_itself (clusters old));
  mono = λ merging rises. subst IsMonotone (sym is) rises;
}

pub itself : (m : Bool) (gs : Glyphs) → Kept m gs gs
itself m gs = same m gs gs refl

pub none_then : (a b c : Glyphs) → NoNewCluster a b → NoNewCluster b c → NoNewCluster a c
none_then a b c one two k d lt = All-contains (Contains (clusters a)) (clusters b) (get_or (clusters c) k d) one
    (two k d lt)

pub kept_then : (m : Bool) (a b c : Glyphs) → Kept m a b → Kept m b c → Kept m a c
kept_then m a b c one two = record {
  none = none_then a b c one.none two.none;
  mono = λ merging rises. two.mono merging (one.mono merging rises);
}

-- one of two texts
pub either : (m test : Bool) (old x y : Glyphs) → Kept m old x → Kept m old y → Kept m old (cond test x y)
either m true old x y one two = one
either m false old x y one two = two

-- where glyphs are put in and go, and each new one has a cluster of its neighbours'
pub kept_by : (m : Bool) (old new : Glyphs) → ((P : ℕ → Type 0) → Each P old → Each P new) →
    ((R : ℕ → ℕ → Type 0) → ((k : ℕ) → R k k) → Pairs R old → Pairs R new) → Kept m old new
kept_by m old new each pairs = record {
  none = all_of (Contains (clusters old)) new
      (each (Contains (clusters old)) (each_of (Contains (clusters old)) old (All-contains_itself (clusters old))));
  mono = λ merging. mono_by old new pairs;
}

pub kept_sorted : (m : Bool) (old new : Glyphs) → NoNewCluster old new →
    (m ≡ true → StaysMonotone (clusters old) (clusters new)) → Kept m old new
kept_sorted m old new none stays = record {
  none = none;
  mono = λ merging. elim [ inl up ↦ inl ((stays merging).0 up) | inr down ↦ inr ((stays merging).1 down) ];
}

-- each glyph changed, but for its cluster
pub clusters-map : (f : Glyph → Glyph) → ((g : Glyph) → (f g).cluster ≡ g.cluster) →
    (gs : Glyphs) → clusters (map f gs) ≡ clusters gs
clusters-map f keeps [] = refl
clusters-map f keeps (g ∷ gs) = ap (λ k. k ∷ clusters (map f gs)) (keeps g) ∙ ap (λ ks. g.cluster ∷ ks)
    (clusters-map f keeps gs)

-- ---- a text turned round

abbrev flip : (ℕ → ℕ → Type 0) → ℕ → ℕ → Type 0
flip R a b = R b a

cross_one : (R : ℕ → ℕ → Type 0) (g : Glyph) (gs : Glyphs) → Each (R g.cluster) gs → Cross
    (flip R) gs (g ∷ [])
cross_one R g gs own = each_as (R g.cluster) (λ k. Each (flip R k) (g ∷ [])) gs (λ k r. (r, tt)) own

each-reversed : (P : ℕ → Type 0) (gs : Glyphs) → Each P gs → Each P (reverse gs)
each-reversed P [] own = tt
each-reversed P (g ∷ gs) own = subst (Each P) (sym (reverse-append (g ∷ []) gs))
    (each-append P (reverse gs) (g ∷ []) (each-reversed P gs own.1) (own.0, tt))

pairs-reversed : (R : ℕ → ℕ → Type 0) (gs : Glyphs) → Pairs R gs → Pairs (flip R) (reverse gs)
pairs-reversed R [] own = tt
pairs-reversed R (g ∷ gs) own =
    subst (Pairs (flip R)) (sym (reverse-append (g ∷ []) gs))
    (pairs-append (flip R) (reverse gs) (g ∷ []) (pairs-reversed R gs own.1) (tt, tt)
    (cross_one R g (reverse gs) (each-reversed (R g.cluster) gs own.0)))

pub turned : (m : Bool) (gs : Glyphs) → Kept m gs (reverse gs)
turned m gs = record {
  none = all_of (Contains (clusters gs)) (reverse gs)
      (each-reversed (Contains (clusters gs)) gs
      (each_of (Contains (clusters gs)) gs (All-contains_itself (clusters gs))));
  mono = λ merging. elim [
    | inl up ↦ (let R : ℕ → ℕ → Type 0 = λ a b. a ≤ b in inr
        (from_pairs (flip R) (reverse gs) (pairs-reversed R gs (to_pairs R gs up))))
    | inr down ↦ (let R : ℕ → ℕ → Type 0 = λ a b. b ≤ a in inl
        (from_pairs (flip R) (reverse gs) (pairs-reversed R gs (to_pairs R gs down))))
  ];
}
