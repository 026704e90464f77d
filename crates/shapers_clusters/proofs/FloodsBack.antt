-- The flood of a merge to the left: where it stops, and what it leaves.
use Rattle.std.proofs.Common.{ℕ, zero, suc, ◌<◌, ◌≤◌, ◌≡◌, ◌≢◌, ◌==◌, ◌&&◌, Bool, inl, inr, false, [], ◌∷◌, ◌++◌, length, reverse, take, refl, sym, ◌∙◌, ap, arith}
use Rattle.std.specs.List.{AllZip, list_all}
use Rattle.std.proofs.Math.Bool.{and-true, and_comm}
use Rattle.std.proofs.lemmas.List.{length-reverse, reverse-append, reverse-reverse}
use Rattle.std.proofs.lemmas.List.Folds.{list_all-append}
use Rattle.std.proofs.lemmas.Bool.{cases_Bool}
use Rattle.shapers_buffer.specs.Glyphs.{Glyph, Glyphs}
use Rattle.shapers_buffer.specs.Clusters.{first_cluster, last_cluster, has_cluster, flooded}
use Rattle.shapers_clusters.specs.Flags.{FallsTo}
use Rattle.shapers_clusters.proofs.Falls.{flooded-miss}

-- the flood to the left, over the glyphs of cluster c that end a list
abbrev pub flooded_back : ℕ → ℕ → Glyphs → Glyphs
flooded_back c m gs = reverse (flooded c m (reverse gs))

-- it stops within a list that isn't all in its cluster
stops_within : (c m : ℕ) (gs hs : Glyphs) → list_all (has_cluster c) gs ≡ false →
    flooded c m (gs ++ hs) ≡ flooded c m gs ++ hs
stops_within c m [] hs some = absurd (cc)
stops_within c m (g ∷ gs) hs some = elim (cases_Bool (g.cluster == c)) [
  | inl same ↦
      search (stops_within c m gs hs (sym (ap (λ b. b && list_all (has_cluster c) gs) same) ∙ some))
  | inr other ↦ rw other refl
]

all_reversed : (test : Glyph → Bool) (gs : Glyphs) → list_all test (reverse gs) ≡ list_all test gs
all_reversed test [] = refl
all_reversed test (g ∷ gs) = cc (
  reverse-append (g ∷ []) gs,
  list_all-append test (reverse gs) (g ∷ []),
  all_reversed test gs,
  and-true (test g),
  and_comm (list_all test gs) (test g),
)

pub back_within : (c m : ℕ) (before gs : Glyphs) → list_all (has_cluster c) gs ≡ false →
    flooded_back c m (before ++ gs) ≡ before ++ flooded_back c m gs
back_within = search (reverse-append, stops_within, all_reversed, reverse-reverse)

-- and before it begins, where the last glyph is in another one
pub back_stays : (c m : ℕ) (gs : Glyphs) → (0 < length gs → last_cluster gs ≢ c) → flooded_back c m gs ≡ gs
back_stays c m gs other = ap reverse (front (reverse gs) (λ some. other (omega (arith, length-reverse gs))))
    ∙ reverse-reverse gs
  where
    front : (hs : Glyphs) → (0 < length hs → first_cluster hs ≢ c) → flooded c m hs ≡ hs
    front [] none = refl
    front (h ∷ hs) none = flooded-miss c m h hs (none (omega arith))

pub first_of_fallen : (gs hs : Glyphs) → AllZip FallsTo gs hs → first_cluster hs ≤ first_cluster gs
first_of_fallen [] [] h = omega arith
first_of_fallen (g ∷ gs) (h ∷ hs) all = all.0.0
first_of_fallen _ _ all = absurd all

pub first_taken : (s : ℕ) (gs : Glyphs) → 0 < s → first_cluster (take s gs) ≡ first_cluster gs
first_taken zero gs further = absurd (omega arith)
first_taken (suc s) [] further = refl
first_taken (suc s) (g ∷ gs) further = refl

-- a change of a list of glyphs
abbrev pub Change : Type 0
Change = Glyphs → Glyphs
