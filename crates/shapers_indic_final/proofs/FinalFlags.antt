-- Glyph flags after the final reordering of a text.
use Rattle.std.proofs.Common.{ℕ, ◌+◌, ◌-◌, ◌%◌, ◌≡◌, ◌==◌, Bool, true, false, if◌then◌else◌, inl, inr, ◌⊎◌, List, [], ◌∷◌, ◌++◌, map, length, take, drop, Option, refl, ◌∙◌, ap, arith}
use Rattle.std.specs.Prelude.{bit_or}
use Rattle.std.specs.List.{AllZip}
use Rattle.std.proofs.lemmas.Nat.{or_mod}
use Rattle.shapers_buffer.specs.Glyphs.{Glyph, Glyphs}
use Rattle.shapers_buffer.specs.Clusters.{least, stretch_of}
use Rattle.shapers_buffer.specs.Glyph.{clusters}
use Rattle.shapers_buffer.specs.GlyphFlags.{flagged, with_bits, with_bits_off}
use Rattle.shapers_buffer.proofs.MaskBits.{or_assoc}
use Rattle.shapers_buffer.proofs.ClusterLemmas.{three_parts}
use Rattle.shapers_clusters.specs.Flags.{FlagsFall}
use Rattle.shapers_clusters.proofs.Falls.{all_append, all_over}
use Rattle.shapers_indic_final.specs.FinalLaws.{FlagsFallButBreaks}
use Rattle.shapers_indic_final.specs.FinalWordStart.{bound_at, bound_from, is_bound, last_or}
use Rattle.shapers_syllabic.specs.Reordering.{carried}

-- one glyph
but_same : (x : Glyph) → FlagsFallButBreaks x x
but_same x = record { at_most = omega arith; fell = λ l. absurd (omega arith); kept = λ e. inl refl }

fell_then : (y z : ℕ) → (y ≡ 0) ⊎ (y ≡ 3) → (z ≡ y) ⊎ (z ≡ bit_or y 3) → (z ≡ 0) ⊎ (z ≡ 3)
fell_then y z (inl a) (inl b) = inl (b ∙ a)
fell_then y z (inr a) (inl b) = inr (b ∙ a)
fell_then y z (inl a) (inr b) = inr (b ∙ ap (λ n. bit_or n 3) a)
fell_then y z (inr a) (inr b) = inr (b ∙ ap (λ n. bit_or n 3) a)

kept_then : (x y z : ℕ) → (y ≡ x) ⊎ (y ≡ bit_or x 3) → (z ≡ y) ⊎ (z ≡ bit_or y 3) → (z ≡ x) ⊎ (z ≡ bit_or x 3)
kept_then x y z (inl a) (inl b) = inl (b ∙ a)
kept_then x y z (inr a) (inl b) = inr (b ∙ a)
kept_then x y z (inl a) (inr b) = inr (b ∙ ap (λ n. bit_or n 3) a)
kept_then x y z (inr a) (inr b) = inr (cc (or_assoc x 3 3))

but_on : (x y z : Glyph) → FlagsFallButBreaks x y → FlagsFallButBreaks y z → FlagsFallButBreaks x z
but_on x y z one two = record {
  at_most = omega arith;
  fell = search arith;
  kept = λ e. kept_then (x.mask % 8) (y.mask % 8) (z.mask % 8) (one.kept (omega arith)) (two.kept (omega arith));
}

-- lists
all_same : (xs : Glyphs) → AllZip FlagsFallButBreaks xs xs
all_same [] = tt
all_same (x ∷ xs) = (but_same x, all_same xs)

all_of : (xs ys : Glyphs) → AllZip FlagsFall xs ys → AllZip FlagsFallButBreaks xs ys
all_of [] [] h = tt
all_of (x ∷ xs) (y ∷ ys) h = (search arith, all_of xs ys h.1)
all_of _ _ h = absurd h

all_on : (xs ys zs : Glyphs) → AllZip FlagsFallButBreaks xs ys → AllZip FlagsFallButBreaks ys zs
    → AllZip FlagsFallButBreaks xs zs
all_on = search (all_over, but_on)

all_off : (m : ℕ) (xs : Glyphs) → AllZip FlagsFallButBreaks xs (map (with_bits_off 3 m) xs)
all_off m [] = tt
all_off m (x ∷ xs) = (
  elim (x.cluster == m) as (λ b. FlagsFallButBreaks x (if b then x else with_bits 3 x)) [
    | true ↦ but_same x
    | false ↦ record {
      at_most = omega arith;
      fell = λ l. absurd (omega arith);
      kept = λ e. inr (
          or_mod x.mask 3 3);
    }
  ],
  all_off m xs,
)

all_bound : (s : ℕ) (b : Bool) (gs : Glyphs) → AllZip FlagsFallButBreaks gs (bound_at s b gs)
all_bound s false gs = all_same gs
all_bound s true gs =
    let e = s + 1 in
    let a = s - 1 in
    let part = stretch_of a e gs in
    let c = drop e gs in
    search (
      arith,
      three_parts a e gs (omega arith),
      all_append FlagsFallButBreaks (take a gs) (take a gs) (part ++ c) (flagged 3 part ++ c) (all_same (take a gs))
          (all_append FlagsFallButBreaks part (flagged 3 part) c c (all_off (least (clusters part)) part) (all_same
          c)),
    )

all_carried : (xs ys : Glyphs) → map carried ys ≡ map carried xs → AllZip FlagsFallButBreaks xs ys
all_carried [] [] e = tt
all_carried (x ∷ xs) (y ∷ ys) e = search (arith, all_carried xs ys (ap (λ (gs : Glyphs). drop 1 gs) e))
all_carried _ _ e = absurd (cc e)

-- the breaks of a text
pub flags-bound : (s : ℕ) (before : Option Glyph) (syls : List Glyphs)
    (gs : Glyphs) → AllZip FlagsFallButBreaks gs (bound_from s before syls gs)
flags-bound s before [] gs = all_same gs
flags-bound s before (syl ∷ syls) gs =
    let b = is_bound before syl in
    all_on gs (bound_at s b gs) (bound_from (s + length syl) (last_or before syl) syls (bound_at s b gs))
    (all_bound s b gs) (flags-bound (s + length syl) (last_or before syl) syls (bound_at s b gs))

-- behind flags that fell
pub flags-whole : (xs mid bound new : Glyphs) → AllZip FlagsFall xs mid
    → AllZip FlagsFallButBreaks mid bound → map carried new ≡ map carried bound → AllZip FlagsFallButBreaks xs new
flags-whole = search (arith, all_on, all_of, all_carried)
