-- The flag law through flag calls, merges, copies and other changes.
use Rattle.std.proofs.Common.{ℕ, suc, ◌%◌, ◌≤◌, ◌≡◌, List, [], ◌∷◌, ◌++◌, map, take, drop, length, refl, ap, arith}
use Rattle.std.specs.List.{AllByRecursion, AllZip}
use Rattle.shapers_buffer.specs.Glyphs.{Glyph, Glyphs}
use Rattle.shapers_buffer.specs.declared.buffer.level.BufferClusterLevel.{BufferClusterLevel}
use Rattle.shapers_buffer.specs.Clusters.{merge_all, stretch_of, with_stretch}
use Rattle.shapers_buffer.specs.Glyph.{clusters}
use Rattle.shapers_buffer.specs.GlyphFlags.{unsafe_all, unsafe_inside}
use Rattle.shapers_buffer.specs.Places.{pick}
use Rattle.shapers_clusters.specs.Flags.{FallsTo, FlagsAlone, FlagsFall, KeepsBits}
use Rattle.shapers_clusters.specs.FlagLaw.{AllFlagsStay, FlagsAdded, FlagsStay, KeepsFlags, OnlyFlagsAdded}
use Rattle.shapers_clusters.proofs.Falls.{all_append, all_over, merge_all-falls}
use Rattle.shapers_buffer.proofs.ClusterLemmas.{three_parts}
use Rattle.shapers_clusters.proofs.FlagCalls.{unsafe_inside-alone}
use Rattle.shapers_clusters.proofs.Picks.{AllZip-pick}

-- masks with the same glyph flags
pub flags_kept : (x y : Glyph) → y.mask % 8 ≡ x.mask % 8 → KeepsFlags x y
flags_kept x y e (suc (suc (suc k))) low = absurd (omega arith)
flags_kept x y e _ low = omega arith

pub all_stay_same : (gs : Glyphs) → AllFlagsStay gs gs
all_stay_same [] = tt
all_stay_same (g ∷ gs) = (search arith, all_stay_same gs)

le_on : (a b c : ℕ) → a ≤ b → b ≤ c → a ≤ c
le_on = omega arith

-- one after another
stays_on : (x y z : Glyph) → FlagsStay x y → FlagsStay y z → FlagsStay x z
stays_on = search arith

pub all_stay_on : (xs ys zs : Glyphs) → AllFlagsStay xs ys → AllFlagsStay ys zs → AllFlagsStay xs zs
all_stay_on = search (arith, all_over)

-- glyphs that fall
pub all_fallen : (xs ys : Glyphs) → AllZip FlagsFall xs ys → AllFlagsStay xs ys
all_fallen [] [] h = tt
all_fallen (x ∷ xs) (y ∷ ys) h = search (arith, flags_kept, all_fallen xs ys h.1)
all_fallen _ _ h = absurd h

all_falls : (xs ys : Glyphs) → AllZip FallsTo xs ys → AllFlagsStay xs ys
all_falls [] [] h = tt
all_falls (x ∷ xs) (y ∷ ys) h = search (arith, all_falls xs ys h.1)
all_falls _ _ h = absurd h

-- glyphs whose cluster and bits stay: flags are only added
pub all_added : (xs ys : Glyphs) → clusters ys ≡ clusters xs → AllZip KeepsBits xs ys → OnlyFlagsAdded xs ys
all_added [] [] same h = tt
all_added (x ∷ xs) (y ∷ ys) same h = search (h.0, all_added xs ys (ap (drop 1) same) h.1)
all_added _ _ same h = absurd h

pub added_stay : (xs ys : Glyphs) → OnlyFlagsAdded xs ys → AllFlagsStay xs ys
added_stay [] [] h = tt
added_stay (x ∷ xs) (y ∷ ys) h = search (arith, added_stay xs ys h.1)
added_stay _ _ h = absurd h

pub alone_added : (xs ys : Glyphs) → FlagsAlone xs ys → OnlyFlagsAdded xs ys
alone_added = search (arith, all_added)

-- others with the same clusters and masks
pub all_stay_as : (xs ys zs : Glyphs) → clusters zs ≡ clusters ys
    → map (λ g. g.mask) zs ≡ map (λ g. g.mask) ys → AllFlagsStay xs ys → AllFlagsStay xs zs
all_stay_as [] [] [] same masks h = tt
all_stay_as [] [] (z ∷ zs) same masks h = cc
all_stay_as (x ∷ xs) (y ∷ ys) [] same masks h = cc
all_stay_as (x ∷ xs) (y ∷ ys) (z ∷ zs) same masks h =
    search (arith, all_stay_as xs ys zs (ap (drop 1) same) (ap (drop 1) masks) h.1)
all_stay_as _ _ zs same masks h = absurd h

-- copies
pub all_stay_picked : (places : List ℕ) (xs ys : Glyphs) → AllFlagsStay xs ys
    → AllFlagsStay (pick places xs) (pick places ys)
all_stay_picked = search AllZip-pick

-- flag calls and merges
pub unsafe_all_stays : (sts : List (ℕ × ℕ)) (gs : Glyphs) → AllByRecursion (λ st. st.0 ≤ st.1) sts
    → AllFlagsStay gs (unsafe_all sts gs)
unsafe_all_stays [] gs h = all_stay_same gs
unsafe_all_stays (st ∷ sts) gs h =
    let once = unsafe_inside st.0 st.1 gs in
    all_stay_on gs once (unsafe_all sts once) (search (added_stay, alone_added, unsafe_inside-alone))
    (unsafe_all_stays sts once h.1)

pub merge_all_stays : (level : BufferClusterLevel) (sts : List (ℕ × ℕ)) (gs : Glyphs)
    → AllByRecursion (λ st. st.1 ≤ length gs) sts → AllFlagsStay gs (merge_all level sts gs)
merge_all_stays = search (all_falls, merge_all-falls)

-- flags that are added, one after another
pub added_on : (x y z : Glyph) → FlagsAdded x y → FlagsAdded y z → FlagsAdded x z
added_on = search arith

pub all_added_on : (xs ys zs : Glyphs) → OnlyFlagsAdded xs ys → OnlyFlagsAdded ys zs → OnlyFlagsAdded xs zs
all_added_on = search (arith, all_over)

-- a change of other fields, or one that adds bits, of each glyph
pub changed_added : (change : Glyph → Glyph) → ((g : Glyph) → FlagsAdded g (change g))
    → (gs : Glyphs) → OnlyFlagsAdded gs (map change gs)
changed_added change adds [] = tt
changed_added change adds (g ∷ gs) = (adds g, changed_added change adds gs)

pub added_same : (g h : Glyph) → h.cluster ≡ g.cluster → h.mask ≡ g.mask → FlagsAdded g h
added_same = search arith

all_added_same : (gs : Glyphs) → OnlyFlagsAdded gs gs
all_added_same [] = tt
all_added_same (g ∷ gs) = (added_same g g refl refl, all_added_same gs)

pub stretch_added : (s e : ℕ) (change : Glyph → Glyph) → ((g : Glyph) → FlagsAdded g (change g)) → (gs : Glyphs)
    → s ≤ e → OnlyFlagsAdded gs (with_stretch s e (map change) gs)
stretch_added s e change adds gs h = search (
  arith,
  three_parts s e gs h,
  all_append FlagsAdded (take s gs) (take s gs) (stretch_of s e gs ++ drop e gs)
      (map change (stretch_of s e gs) ++ drop e gs) (all_added_same (take s gs))
      (all_append FlagsAdded (stretch_of s e gs) (map change (stretch_of s e gs)) (drop e gs) (drop e gs)
      (changed_added change adds (stretch_of s e gs)) (all_added_same (drop e gs))),
)
