-- How glyph flags add up: stretches of one place, longer stretches, several stretches.
use Rattle.std.proofs.Common.{◌≡◌, ℕ, ◌-◌, ◌+◌, ◌<◌, ◌≤◌, eqb, bit_or, true, false, cond, List, [], ◌∷◌, ◌++◌, length, take, drop, map, refl, sym, ap, ◌∙◌, arith, append_assoc, length-append, length-take}
use Rattle.std.proofs.lemmas.Bool.{eqb-true, eqb-false}
use Rattle.std.specs.Int.Bits.{or_add_and}
use Rattle.std.specs.List.{AllByRecursion}
use Rattle.std.proofs.lemmas.List.{map-append, length-map, length-take-le, length-drop, take_at, drop_at, drop-drop, take-append-drop, get_or-map, get_or_append_left}
use Rattle.std.proofs.lemmas.List.Elements.{recursion_from_All, All-from_get_or}
use Rattle.std.proofs.lemmas.Nat.{and_or_self}
use Rattle.std.proofs.Math.Seq.{drop-append-add}
use Rattle.shapers_buffer.specs.Glyphs.{Glyph, Glyphs}
use Rattle.shapers_buffer.specs.Glyph.{clusters}
use Rattle.shapers_buffer.specs.Clusters.{least}
use Rattle.shapers_buffer.specs.GlyphFlags.{with_bits, with_bits_off, flagged, unsafe_inside, unsafe_all}
use Rattle.shapers_clusters.proofs.FlagCalls.{map-flagged}
use Rattle.shapers_clusters.proofs.ClusterMerges.{least-le, least-among}
use Rattle.shapers_buffer.proofs.ClusterLemmas.{three_parts}

-- a stretch of one place, or none, has no flags
flagged_few : (bits : ℕ) (gs : Glyphs) → length gs ≤ 1 → flagged bits gs ≡ gs
flagged_few bits [] few = refl
flagged_few bits (g ∷ []) few = search arith
flagged_few bits (g ∷ h ∷ gs) few = absurd (omega arith)

pub unsafe_few : (s e : ℕ) (gs : Glyphs) → s ≤ e → e - s ≤ 1 → unsafe_inside s e gs ≡ gs
unsafe_few = search (arith, three_parts)

pub unsafe_nothing : (s : ℕ) (gs : Glyphs) → unsafe_inside s s gs ≡ gs
unsafe_nothing = search (arith, unsafe_few)

off_twice : (low high : ℕ) (g : Glyph) → low ≤ high → high ≤ g.cluster
    → with_bits_off 3 low (with_bits_off 3 high g) ≡ with_bits_off 3 low g
off_twice low high g below within =
    elim (eqb g.cluster high) as (λ b. eqb g.cluster high ≡ b → with_bits_off 3 low (cond b g (with_bits 3 g))
    ≡ with_bits_off 3 low g) [
      | true ↦ λ e. refl
      | false ↦ λ e. elim (eqb g.cluster low) as (λ c. eqb g.cluster low ≡ c
          → cond c (with_bits 3 g) (with_bits 3 (with_bits 3 g)) ≡ cond c g (with_bits 3 g)) [
            | true ↦ λ d. absurd (omega (arith, eqb-false g.cluster high e, eqb-true g.cluster low d))
            | false ↦ λ d. ap (λ n. (record g { mask = n })) (
                omega (arith, or_add_and (bit_or g.mask 3) 3, and_or_self 3 g.mask))
          ] refl
    ] refl

all_off_twice : (low high : ℕ) (gs : Glyphs) → low ≤ high → AllByRecursion (λ g. high ≤ g.cluster) gs
    → map (with_bits_off 3 low) (map (with_bits_off 3 high) gs) ≡ map (with_bits_off 3 low) gs
all_off_twice low high [] below all = refl
all_off_twice low high (g ∷ gs) below all = search (off_twice, all_off_twice low high gs below all.1)

least_of_front : (xs ys : List ℕ) → 0 < length xs → least (xs ++ ys) ≤ least xs
least_of_front xs ys some =
    let (k, inside, at) = least-among xs some in search (arith, least-le, length-append, get_or_append_left)

pub flagged_twice : (xs ys : Glyphs) → flagged 3 (flagged 3 xs ++ ys) ≡ flagged 3 (xs ++ ys)
flagged_twice [] ys = refl
flagged_twice (x ∷ xs) ys =
    let front = x ∷ xs in
    let high = least (clusters front) in
    let low = least (clusters (front ++ ys)) in
    let P : Glyph → Type 0 = λ g. high ≤ g.cluster in
    cc (
      map-append (λ g. g.cluster) (flagged 3 front) ys,
      map-flagged (λ g. g.cluster) 3 (λ g. refl) front,
      map-append (λ g. g.cluster) front ys,
      map-append (with_bits_off 3 low) (flagged 3 front) ys,
      all_off_twice low high front
          (search (
            arith,
            map-append (λ g. g.cluster) front ys,
            least_of_front (clusters front) (clusters ys) (omega arith),
          ))
          (recursion_from_All P front (All-from_get_or P front x (λ k inside. omega (
            arith,
            least-le (clusters front) k (omega (arith, length-map front (λ g. g.cluster))),
            get_or-map (λ g. g.cluster) front k x 0 inside,
          )))),
      map-append (with_bits_off 3 low) front ys,
    )

pub unsafe_parts : (s e : ℕ) (before middle after : Glyphs) → s ≡ length before → e ≡ length before + length middle
    → unsafe_inside s e (before ++ (middle ++ after)) ≡ before ++ (flagged 3 middle ++ after)
unsafe_parts = search (arith, take_at, drop_at, drop-append-add)

pub unsafe_longer : (s e n : ℕ) (gs : Glyphs) → s ≤ e → e ≤ n → n ≤ length gs
    → unsafe_inside s n (unsafe_inside s e gs) ≡ unsafe_inside s n gs
unsafe_longer s e n gs low high within =
    let before = take s gs in
    let first = take (e - s) (drop s gs) in
    let second = take (n - e) (drop e gs) in
    let after = drop n gs in
    let at_e : s + (e - s) ≡ e = omega arith in
    let at_n : e + (n - e) ≡ n = omega arith in
    let rest : drop e gs ≡ second ++ after = cc (take-append-drop (n - e) (drop e gs), drop-drop (n - e) e gs) in
    let whole : gs ≡ before ++ (first ++ (second ++ after)) =
    sym (take-append-drop s gs) ∙ ap (λ xs. before ++ xs)
    (cc (take-append-drop (e - s) (drop s gs), drop-drop (e - s) s gs) ∙ ap (λ xs. first ++ xs) rest) in
    let a : length before ≡ s = length-take-le s gs (omega arith) in
    let b : length first ≡ e - s = length-take-le (e - s) (drop s gs) (omega (arith, length-drop s gs)) in
    let c : length second ≡ n - e = length-take-le (n - e) (drop e gs) (omega (arith, length-drop e gs)) in
    ap (λ xs. unsafe_inside s n (unsafe_inside s e xs)) whole
    ∙ (let flags = length-map first (with_bits_off 3 (least (clusters first))) in cc (
      append_assoc (flagged 3 first) second after,
      unsafe_parts s n before
          (flagged 3 first ++ second) after (sym a) (omega (arith, length-append (flagged 3 first) second)),
      flagged_twice first second,
      unsafe_parts s n before (first ++ second) after (sym a) (omega (
        arith,
        length-append first second,
      )),
      append_assoc first second after,
    )) ∙ ap (unsafe_inside s n) (sym whole)

-- several stretches, in two lists
pub unsafe_all-append : (xs ys : List (ℕ × ℕ)) (gs : Glyphs)
    → unsafe_all (xs ++ ys) gs ≡ unsafe_all ys (unsafe_all xs gs)
unsafe_all-append [] ys gs = refl
unsafe_all-append (x ∷ xs) ys gs = unsafe_all-append xs ys (unsafe_inside x.0 x.1 gs)
