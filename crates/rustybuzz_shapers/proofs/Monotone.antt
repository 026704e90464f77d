-- What keeps clusters rising, or falling.
use Rattle.std.proofs.Common.{ℕ, zero, suc, ◌<◌, ◌≤◌, ◌≡◌, true, List, [], ◌∷◌, ◌++◌, length, take, drop, get_or, refl, sym, subst, arith, inl, inr, ⊎_elim, Some}
use Rattle.std.specs.List.{AllByRecursion, AllPairs, flat_map}
use Rattle.std.proofs.lemmas.Bool.{cases_lt, cond_both}
use Rattle.shapers_buffer.specs.Glyphs.{Glyph, Glyphs}
use Rattle.shapers_buffer.specs.declared.buffer.level.BufferClusterLevel.{BufferClusterLevel}
use Rattle.shapers_buffer.specs.Clusters.{merges}
use Rattle.shapers_buffer.specs.Glyph.{clusters, default_glyph}
use Rattle.shapers_buffer.specs.Syllables.{syllables}
use Rattle.shapers_base.specs.declared.plan.pause.Pause.TheVariants.{SetupSyllablesIndic, SetupSyllablesKhmer, SetupSyllablesMyanmar, SetupSyllablesUse, InitialReordering, ReorderKhmer, ReorderMyanmar, ReorderUse, FinalReordering}
use Rattle.shapers_clusters.specs.Laws.{ReorderedHold}
use Rattle.shapers_clusters.specs.Steps.{Step, all_first}
use Rattle.shapers_syllabic.specs.Circles.{circle_in, circled_syllable, is_of_kind, rephas_len, with_circle, with_circles}
use Rattle.shapers_syllabic.specs.declared.ot_shaper_syllabic.circles.DottedCircles.{DottedCircles}
use Rattle.shapers_syllabic.proofs.CircleLaws.{joined-syllables}
use Rattle.shapers_clusters.specs.Cuts.{ExactCuts, IsFalling, IsRising}
use Rattle.shapers_clusters.specs.FlagLaw.{OnlyFlagsAdded}
use Rattle.shapers_buffer.specs.Buffer.{Buffer}
use Rattle.rustybuzz_shapers.specs.Monotone.{StaysMonotone, CirclesStayMonotone, ExactCutsStayMonotone, MarksStayMonotone, PausesStayMonotone}
use Rattle.rustybuzz_shapers.specs.declared.shaper.hb_ot_shaper_t.TheVariants.{Arabic, Hebrew}

-- what stands at a place doesn't depend on what stands at none
at_place : (xs : List ℕ) (i : ℕ) (d : ℕ) → i < length xs → get_or xs i d ≡ get_or xs i 0
at_place [] i d l = absurd (omega arith)
at_place (x ∷ xs) zero d l = refl
at_place (x ∷ xs) (suc i) d l = at_place xs i d (omega (arith, l))

pub rising_after : (cs : List ℕ) (sts : List (ℕ × ℕ)) (after : List ℕ) → ExactCuts cs sts after → IsRising cs
    → IsRising after
rising_after cs sts after x up i j d l m =
    let jn : j < length cs = omega (arith, m, x.same_length) in
    let r = x.reached j jn in
    let q = r.0 in
    search (
      arith,
      ⊎_elim
          (λ (a : i < q). omega (
            arith,
            x.least i i (omega (arith, l, jn)) (omega (arith, l, jn)) (λ k b c. absurd (omega (arith, b, c))),
            up i q 0 a r.1,
          )) (λ (a : q ≤ i). x.least i q (omega (arith, l, jn)) r.1 (λ k b c. r.2 k (omega (arith, b, l, a)) (omega
          (arith, c, l, a)))) (cases_lt i q),
      at_place after i d (omega (arith, l, m)),
      at_place after j d m,
    )

pub falling_after : (cs : List ℕ) (sts : List (ℕ × ℕ)) (after : List ℕ) → ExactCuts cs sts after → IsFalling cs
    → IsFalling after
falling_after cs sts after x down i j d l m =
    let jn : j < length cs = omega (arith, m, x.same_length) in
    let r = x.reached i (omega (arith, l, jn)) in
    let q = r.0 in
    search (
      arith,
      ⊎_elim
          (λ (a : q < j). omega (arith, x.least j j jn jn (λ k b c. absurd (omega (arith, b, c))), down q j 0 a jn))
          (λ (a : j ≤ q). x.least j q jn r.1 (λ k b c. r.2 k (omega (arith, b, l, a)) (omega (arith, c, l, a))))
          (cases_lt q j),
      at_place after i d (omega (arith, l, m)),
      at_place after j d m,
    )

pub exact_cuts_stay_monotone : ExactCutsStayMonotone
exact_cuts_stay_monotone cs sts after x = (rising_after cs sts after x, falling_after cs sts after x)

-- the same clusters

pub same_monotone : (cs js : List ℕ) → js ≡ cs → StaysMonotone cs js
same_monotone = search arith

pub unchanged_monotone : (old new : Buffer) → new ≡ old → StaysMonotone (clusters old.glyphs) (clusters new.glyphs)
unchanged_monotone = search (arith, same_monotone)

pub same_clusters : (gs ms : Glyphs) → OnlyFlagsAdded gs ms → clusters ms ≡ clusters gs
same_clusters [] [] h = refl
same_clusters (g ∷ gs) (m ∷ ms) h = cc (h.0.same, same_clusters gs ms h.1)
same_clusters _ _ h = absurd h

pub flags_monotone : (gs ms : Glyphs) → OnlyFlagsAdded gs ms → StaysMonotone (clusters gs) (clusters ms)
flags_monotone = search (arith, same_monotone, same_clusters)

-- a reordering that merges before it moves, through any view
pub merged_monotone : (view : Glyph → Glyph) (level : BufferClusterLevel) (steps : List Step) (gs ms : Glyphs)
    → merges level ≡ true → ReorderedHold view level steps gs ms → StaysMonotone (clusters gs) (clusters ms)
merged_monotone view level steps gs ms m h = let x = h.where_merging m in (
  λ up. rising_after (clusters gs) (all_first steps) (clusters ms) (x.exact (inl up)) up,
  λ down. falling_after (clusters gs) (all_first steps) (clusters ms) (x.exact (inr down)) down,
)

pub marks_stay_monotone : MarksStayMonotone
marks_stay_monotone Arabic start end old new m k = search (arith, merged_monotone)
marks_stay_monotone Hebrew start end old new m k = search (arith, merged_monotone)
marks_stay_monotone _ start end old new m k = unchanged_monotone old new k.1

pub pauses_stay_monotone : PausesStayMonotone
pauses_stay_monotone SetupSyllablesIndic plan font spans old new i m k = search (arith, same_monotone)
pauses_stay_monotone SetupSyllablesKhmer plan font spans old new i m k = search (arith, same_monotone)
pauses_stay_monotone SetupSyllablesMyanmar plan font spans old new i m k = search (arith, same_monotone)
pauses_stay_monotone SetupSyllablesUse plan font spans old new i m k = search (arith, same_monotone)
pauses_stay_monotone InitialReordering plan font spans old new i m k = absurd (cc)
pauses_stay_monotone FinalReordering plan font spans old new i m k = absurd (cc)
pauses_stay_monotone ReorderKhmer plan font spans old new i m k = search (arith, merged_monotone)
pauses_stay_monotone ReorderMyanmar plan font spans old new i m k = search (arith, merged_monotone)
pauses_stay_monotone ReorderUse plan font spans old new i m k = search (arith, merged_monotone)
pauses_stay_monotone _ plan font spans old new i m k = search (arith, flags_monotone)

-- circles

-- each stands so to all behind it
abbrev pub Ordered : (ℕ → ℕ → Type 0) → List ℕ → Type 0
Ordered R [] = Unit {0}
Ordered R (x ∷ xs) = AllByRecursion (R x) xs × Ordered R xs

-- what holds at each place holds of all, what follows from it does, and what holds of all holds at each place
pub all_from : (P : ℕ → Type 0) (xs : List ℕ) → ((j : ℕ) → j < length xs → P (get_or xs j 0)) → AllByRecursion P xs
all_from P [] h = tt
all_from P (x ∷ xs) h = (h 0 (omega arith), all_from P xs (λ j l. h (suc j) (omega (arith, l))))

pub all_weaker : (P Q : ℕ → Type 0) → ((x : ℕ) → P x → Q x) → (xs : List ℕ) → AllByRecursion P xs → AllByRecursion Q xs
all_weaker P Q weaker [] own = tt
all_weaker P Q weaker (x ∷ xs) own = (weaker x own.0, all_weaker P Q weaker xs own.1)

all_at : (P : ℕ → Type 0) (xs : List ℕ) (j d : ℕ) → AllByRecursion P xs → j < length xs → P (get_or xs j d)
all_at P [] j d h l = absurd (omega arith)
all_at P (x ∷ xs) zero d h l = h.0
all_at P (x ∷ xs) (suc j) d h l = all_at P xs j d h.1 (omega (arith, l))

pub from_pairs : (R : ℕ → ℕ → Type 0) (xs : List ℕ) → AllPairs R xs → Ordered R xs
from_pairs R [] h = tt
from_pairs R (x ∷ xs) h = (
  all_from (R x) xs (λ j l. h 0 (suc j) 0 (omega arith) (omega (arith, l))),
  from_pairs R xs (λ i j d l m. h (suc i) (suc j) d (omega (arith, l)) (omega (arith, m))),
)

pub to_pairs : (R : ℕ → ℕ → Type 0) (xs : List ℕ) → Ordered R xs → AllPairs R xs
to_pairs R (x ∷ xs) h zero (suc j) d l m = search (arith, all_at)
to_pairs R (x ∷ xs) h (suc i) (suc j) d l m = to_pairs R xs h.1 i j d (omega (arith, l)) (omega (arith, m))
to_pairs R _ h _ _ d l m = absurd (omega arith)

-- behind the same glyphs
all_front : (P : ℕ → Type 0) (s xs ys : Glyphs) → (AllByRecursion P (clusters xs) → AllByRecursion P (clusters ys))
    → AllByRecursion P (clusters (s ++ xs)) → AllByRecursion P (clusters (s ++ ys))
all_front P [] xs ys f h = f h
all_front P (g ∷ s) xs ys f h = (h.0, all_front P s xs ys f h.1)

ordered_front : (R : ℕ → ℕ → Type 0) (s xs ys : Glyphs)
    → ((x : ℕ) → AllByRecursion (R x) (clusters xs) → AllByRecursion (R x) (clusters ys))
    → (Ordered R (clusters xs) → Ordered R (clusters ys)) → Ordered R (clusters (s ++ xs))
    → Ordered R (clusters (s ++ ys))
ordered_front R [] xs ys all f h = f h
ordered_front R (g ∷ s) xs ys all f h =
    (all_front (R g.cluster) s xs ys (all g.cluster) h.0, ordered_front R s xs ys all f h.1)

-- a circle behind at most one repha doubles the cluster of the first glyph
circle_clusters : (circle g : Glyph) (gs rest : Glyphs) (n : ℕ) → n ≤ 1
    → clusters ((take n (g ∷ gs) ++ circle_in (g ∷ gs) circle ∷ drop n (g ∷ gs)) ++ rest)
    ≡ g.cluster ∷ clusters ((g ∷ gs) ++ rest)
circle_clusters circle g gs rest (suc (suc n)) l = absurd (omega arith)
circle_clusters circle g gs rest _ l = refl

-- what holds of the clusters of a syllable, holds of them with a circle
piece_circled : (P : List ℕ → Type 0) (rule : DottedCircles) (s rest : Glyphs) → rephas_len rule.repha s ≤ 1
    → ((g : Glyph) (gs : Glyphs) → s ≡ g ∷ gs → P (clusters (s ++ rest)) → P (g.cluster ∷ clusters (s ++ rest)))
    → P (clusters (s ++ rest)) → P (clusters (circled_syllable rule s ++ rest))
piece_circled P rule [] rest few double h = h
piece_circled P rule (g ∷ gs) rest few double h =
    cond_both (is_of_kind rule.broken_kind (g ∷ gs)) (with_circle rule (g ∷ gs)) (g ∷ gs)
    (λ xs. P (clusters (xs ++ rest)))
    (λ _. subst P (sym (circle_clusters rule.circle g gs rest (rephas_len rule.repha (g ∷ gs)) few))
    (double g gs refl h)) (λ _. h)

pieces_all : (P : ℕ → Type 0) (rule : DottedCircles) (pieces : List Glyphs)
    → AllByRecursion (λ s. rephas_len rule.repha s ≤ 1) pieces → AllByRecursion P (clusters (flat_map (λ s. s) pieces))
    → AllByRecursion P (clusters (flat_map (circled_syllable rule) pieces))
pieces_all P rule [] few h = h
pieces_all P rule (s ∷ pieces) few h =
    let ys = flat_map (circled_syllable rule) pieces in
    piece_circled (λ cs. AllByRecursion P cs) rule s ys few.0 (λ g gs e i. search arith)
    (all_front P s (flat_map (λ p. p) pieces) ys (pieces_all P rule pieces few.1) h)

pieces_ordered : (R : ℕ → ℕ → Type 0) → ((x : ℕ) → R x x) → (rule : DottedCircles) (pieces : List Glyphs)
    → AllByRecursion (λ s. rephas_len rule.repha s ≤ 1) pieces → Ordered R (clusters (flat_map (λ s. s) pieces))
    → Ordered R (clusters (flat_map (circled_syllable rule) pieces))
pieces_ordered R same rule [] few h = h
pieces_ordered R same rule (s ∷ pieces) few h =
    piece_circled (Ordered R) rule s (flat_map (circled_syllable rule) pieces) few.0 (λ g gs e i. search arith)
    (search (arith, ordered_front, pieces_all, pieces_ordered R same rule pieces few.1))

circled_pairs : (R : ℕ → ℕ → Type 0) → ((x : ℕ) → R x x) → (rule : DottedCircles) (gs : Glyphs)
    → AllByRecursion (λ s. rephas_len rule.repha s ≤ 1) (syllables gs) → AllPairs R (clusters gs)
    → AllPairs R (clusters (with_circles rule gs))
circled_pairs R same rule gs few h =
    to_pairs R (clusters (with_circles rule gs)) (search (arith, pieces_ordered, joined-syllables, from_pairs))

pub circles_stay_monotone : CirclesStayMonotone
circles_stay_monotone rule gs few = (
  circled_pairs (λ a b. a ≤ b) (λ x. omega arith) rule gs few,
  circled_pairs (λ a b. b ≤ a) (λ x. omega arith) rule gs few,
)

-- two rephas with clusters of their own: the circle behind them has the first one's
two_rephas : Glyphs
two_rephas = record default_glyph { category = 18; syllable = 7; cluster = 0 }
    ∷ record default_glyph { category = 18; syllable = 7; cluster = 1 } ∷ []

circle_behind_two : clusters (with_circle (record { broken_kind = 7; circle = default_glyph; repha = Some 18 })
    two_rephas) ≡ 0 ∷ 1 ∷ 0 ∷ []
unfolding two_rephas
circle_behind_two = refl
