-- Made glyphs: each comes of an old place, and a view of it stays, whatever else the hook changes.
use Rattle.std.proofs.Common.{ℕ, ◌+◌, ◌-◌, ◌<◌, ◌≤◌, ◌≡◌, List, [], ◌∷◌, ◌++◌, length, map, drop, get_or, refl, sym, ◌∙◌, ap, arith}
use Rattle.std.specs.List.{All, AllByRecursion, AllZip, Contains, enumerate_from}
use Rattle.std.proofs.lemmas.List.{get_or_append_left, get_or-append_right, drop_more, length-drop}
use Rattle.shapers_buffer.specs.Glyphs.{Glyph, Glyphs}
use Rattle.shapers_buffer.specs.Glyph.{default_glyph, clusters}
use Rattle.shapers_buffer.specs.Places.{pick}
use Rattle.shapers_clusters.proofs.Picks.{pick-within}
use Rattle.shapers_clusters.proofs.Moves.{held_by}
use Rattle.shapers_clusters.specs.Flags.{FlagsFall, ShowsClusters}
use Rattle.shapers_clusters.specs.SourceCuts.{HeldAlong}

-- what two texts of the same view share
pub record SameClusters (xs ys : Glyphs) : Type 0 where
  pub clusters_are : clusters ys ≡ clusters xs
  pub flags_stay : AllZip FlagsFall xs ys

pub same_clusters : (view : Glyph → Glyph) → ShowsClusters view → (xs ys : Glyphs)
    → map view ys ≡ map view xs → SameClusters xs ys
same_clusters view shows [] [] same = search arith
same_clusters view shows (x ∷ xs) (y ∷ ys) same =
    let rest = same_clusters view shows xs ys (ap (drop 1) same) in search arith
same_clusters view shows _ _ same = cc

-- a made glyph with the place that it comes of; to the view it is the glyph there
pub record Made (view : Glyph → Glyph) (gs : Glyphs) : Type 0 where
  pub place : ℕ
  pub inside : place < length gs
  pub glyph : Glyph
  pub same : view glyph ≡ view (get_or gs place default_glyph)

-- the glyphs as they stand, from place n on
abbrev pub standing_from : (view : Glyph → Glyph) (gs : Glyphs) (n : ℕ)
    (xs : Glyphs) → drop n gs ≡ xs → List (Made view gs)
standing_from view gs n [] rest = []
standing_from view gs n (x ∷ xs) rest =
    let inside : n < length gs = omega (arith, length-drop n gs, ap length rest) in
    let split = sym rest ∙ drop_more gs n default_glyph inside in
    record { place = n; inside = inside; glyph = x; same = ap view (ap (λ zs. get_or zs 0 default_glyph) split) }
    ∷ standing_from view gs (n + 1) xs (sym (ap (drop 1) split))

-- all of them; they are the glyphs, and numbered
abbrev pub all_standing : (view : Glyph → Glyph) (gs : Glyphs) → List (Made view gs)
all_standing view gs = standing_from view gs 0 gs refl

glyphs-standing_from : (view : Glyph → Glyph) (gs : Glyphs) (n : ℕ)
    (xs : Glyphs) (rest : drop n gs ≡ xs) → map (λ m. m.glyph) (standing_from view gs n xs rest) ≡ xs
glyphs-standing_from view gs n [] rest = refl
glyphs-standing_from view gs n (x ∷ xs) rest = cc (glyphs-standing_from view gs (n + 1) xs _)

pub glyphs-standing : (view : Glyph → Glyph) (gs : Glyphs) → map (λ m. m.glyph) (all_standing view gs) ≡ gs
glyphs-standing view gs = glyphs-standing_from view gs 0 gs refl

numbered-standing_from : {X : Type 0} (read : Glyph → X) (view : Glyph → Glyph)
    (gs : Glyphs) (n : ℕ) (xs : Glyphs) (rest : drop n gs ≡ xs)
    → map (λ m. (m.place, read m.glyph)) (standing_from view gs n xs rest) ≡ enumerate_from n (map read xs)
numbered-standing_from read view gs n [] rest = refl
numbered-standing_from read view gs n (x ∷ xs) rest = cc (numbered-standing_from read view gs (n + 1) xs _)

pub numbered-standing : {X : Type 0} (read : Glyph → X) (view : Glyph → Glyph) (gs : Glyphs)
    → map (λ m. (m.place, read m.glyph)) (all_standing view gs) ≡ enumerate_from 0 (map read gs)
numbered-standing = search numbered-standing_from

-- made glyphs are, to the view, what stands at their places
pub record AreMade (view : Glyph → Glyph) (gs : Glyphs) (sources : List ℕ)
    (rs : Glyphs) : Type 0 where
  pub within : AllByRecursion (λ p. p < length gs) sources
  pub same : map view rs ≡ map view (pick sources gs)

pub are_made : (view : Glyph → Glyph) (gs : Glyphs) (made : List (Made view gs))
    → AreMade view gs (map (λ m. m.place) made) (map (λ m. m.glyph) made)
are_made view gs [] = search arith
are_made view gs (m ∷ made) =
    let rest = are_made view gs made in
    search (pick-within default_glyph m.place (map (λ m. m.place) made) gs m.inside)

-- one of the stretches holds the sources of a part of the result together
pub held_in_stretch : (sts : List (ℕ × ℕ)) (st : ℕ × ℕ) (sources front inside behind : List ℕ) → Contains sts st
    → sources ≡ front ++ (inside ++ behind) → All (λ p. (st.0 ≤ p) × (p < st.1)) inside → (i j : ℕ) → length front ≤ i
    → i < length front + length inside → length front ≤ j → j < length front + length inside → HeldAlong sts sources i j
held_in_stretch sts st sources front inside behind among parts all i j a b c d k low high =
    let at : (n : ℕ) → length front ≤ n → n < length front + length inside
    → get_or sources n 0 ≡ get_or inside (n - length front) 0 =
    search (arith, get_or-append_right, get_or_append_left) in
    search (arith, held_by)
