-- One glyph of a cluster tells of all, and one flag of a glyph.
use Rattle.std.proofs.Common.{◌≡◌, ◌≢◌, ◌↔◌, ℕ, zero, suc, ◌+◌, ◌-◌, ◌%◌, ◌<◌, ◌≤◌, ◌==◌, Bool, true, false, cond, [], ◌∷◌, ◌++◌, get_or, length, map, take, drop, inl, inr, refl, sym, ap, subst, ◌∙◌, arith}
use Rattle.std.specs.List.{AllByRecursion, list_any, prefix_len}
use Rattle.std.proofs.lemmas.Bool.{and_from, and_left, and_right, both_ways, cases_eq, cases_lt, eq-eqb, eqb-false, false_from_ne_true, ne_eqb}
use Rattle.std.proofs.lemmas.List.{get_or-map, length-map}
use Rattle.std.proofs.lemmas.List.Elements.{All-from_get_or, All-from_recursion}
use Rattle.std.proofs.lemmas.List.Folds.{list_any_at, list_any_none}
use Rattle.shapers_buffer.specs.declared.buffer.flags.BufferFlags.{BufferFlags}
use Rattle.shapers_buffer.specs.Glyphs.{Glyph, Glyphs}
use Rattle.shapers_buffer.specs.Clusters.{has_cluster}
use Rattle.shapers_buffer.specs.Glyph.{clusters, default_glyph, plain}
use Rattle.shapers_buffer.proofs.MappedLists.{all-append}
use Rattle.shapers_clusters.specs.Breaks.{greater, is_unsafe}
use Rattle.shapers_clusters.specs.Cuts.{IsFalling, IsRising}
use Rattle.shapers_clusters.specs.Flags.{bit_at}
use Rattle.shapers_clusters.proofs.Cuts.{falling_to, rising_to}
use Rattle.shapers_position.specs.ClusterFlags.{flags_of, flags_propagated, with_flags}
use Rattle.shapers_position.specs.Laws.{FlagsLaw, OneFlagTells, OneGlyphTells, glyph_flags}
use Rattle.shapers_position.proofs.FlagLaws.{again, by_groups, clear_from, clear_to, clusters-propagated, length-propagated, map-propagated, more, opening_flags, opening_small, opens, run_is, unsafe_at}
use Rattle.shapers_position.proofs.FlagSets.{flags_put, flags_small, kept_one, one_low, unsafe_flags, unsafe_low, unsafe_put, view_put}

-- neighbours of one cluster have the same flags
abbrev Alike : Glyphs → Type 0
Alike [] = Unit {0}
Alike (g ∷ []) = Unit {0}
Alike (g ∷ (h ∷ gs)) = (g.cluster ≡ h.cluster → g.mask % 8 ≡ h.mask % 8) × Alike (h ∷ gs)

-- a text doesn't begin with a glyph of cluster c
abbrev BeginsElsewhere : ℕ → Glyphs → Type 0
BeginsElsewhere c [] = Unit {0}
BeginsElsewhere c (g ∷ gs) = g.cluster ≡ c → ⊥

behind_group : (c : ℕ) (gs : Glyphs) → BeginsElsewhere c (drop (prefix_len (has_cluster c) gs) gs)
behind_group c [] = tt
behind_group c (g ∷ gs) =
    let k = prefix_len (has_cluster c) gs in
    let one : 1 + k ≡ suc k = omega arith in
    let by : (b : Bool) → has_cluster c g ≡ b → BeginsElsewhere c (drop (cond b (1 + k) 0) (g ∷ gs)) = λ b.
    elim b as (λ b. has_cluster c g ≡ b → BeginsElsewhere c (drop (cond b (1 + k) 0) (g ∷ gs))) [
      | true ↦ λ e. (let P : ℕ → Type 0 = λ n. BeginsElsewhere c (drop n (g ∷ gs)) in subst P (sym one)
          (behind_group c gs))
      | false ↦ λ e. eqb-false g.cluster c e
    ] in
    by (has_cluster c g) refl

elsewhere_still : (wanted : BufferFlags) (c : ℕ) (gs : Glyphs) → BeginsElsewhere c gs →
    BeginsElsewhere c (flags_propagated wanted gs)
elsewhere_still wanted c [] other = tt
elsewhere_still wanted c (g ∷ gs) other = let P : Glyphs → Type 0 =
    BeginsElsewhere c in subst P (sym (opens wanted g gs)) other

alike_group : (j c : ℕ) (g : Glyph) (gs hs : Glyphs) → j < 8 → g.cluster ≡ c →
    AllByRecursion (λ h. h.cluster ≡ c) gs → BeginsElsewhere c hs → Alike hs → Alike (map (with_flags j) (g ∷ gs) ++ hs)
alike_group j c g [] [] small is all other rest = tt
alike_group j c g [] (h ∷ hs) small is all other rest = ((λ e. absurd (other (sym e ∙ is))), rest)
alike_group j c g (x ∷ gs) hs small is all other rest =
    ((λ e. flags_put j g small ∙ sym (flags_put j x small)), alike_group j c x gs hs small all.0 all.1 other rest)

alike : (wanted : BufferFlags) (gs : Glyphs) → Alike (flags_propagated wanted gs)
alike wanted gs =
    by_groups (λ gs. Alike (flags_propagated wanted gs)) tt (λ g gs last.
    let k = more g gs in
    let j = opening_flags wanted g gs in
    let P : Glyphs → Type 0 = Alike in
    subst P (sym (opens wanted g gs))
    (alike_group j g.cluster g (take k gs) (flags_propagated wanted (drop k gs)) (opening_small wanted g gs) refl
    (run_is g.cluster gs) (elsewhere_still wanted g.cluster (drop k gs) (behind_group g.cluster gs)) last))
    (length gs) gs (omega arith)

alike_at : (gs : Glyphs) → Alike gs → (p : ℕ) → suc p < length gs →
    get_or (clusters gs) p 0 ≡ get_or (clusters gs) (suc p) 0 →
    get_or (glyph_flags gs) p 0 ≡ get_or (glyph_flags gs) (suc p) 0
alike_at [] a p within e = absurd (omega arith)
alike_at (g ∷ []) a p within e = absurd (omega arith)
alike_at (g ∷ (h ∷ gs)) a zero within e = a.0 e
alike_at (g ∷ (h ∷ gs)) a (suc p) within e = alike_at (h ∷ gs) a.1 p (omega arith) e

pub flags_are_shared : FlagsLaw
flags_are_shared wanted gs =
    let ms = flags_propagated wanted gs in
    record {
      same_view = map-propagated (λ g. plain g) view_put wanted gs;
      same_clusters = clusters-propagated wanted gs;
      alike = λ p within e. alike_at ms (alike wanted gs) p (omega (arith, within, length-propagated wanted gs))
          (ap (λ cs. get_or cs p 0) (clusters-propagated wanted gs) ∙ e
          ∙ ap (λ cs. get_or cs (suc p) 0) (sym (clusters-propagated wanted gs)));
      again = λ unasked. again wanted unasked gs;
      clear = λ p. (clear_from wanted gs p, clear_to wanted gs p);
    }

-- ---- the glyphs of a cluster, from one of them to another

-- all from place p on up to one of the same cluster have the same flags
same_along : (ms : Glyphs) → Alike ms → (p d : ℕ) → p + d < length ms →
    ((k : ℕ) → k ≤ d → get_or (clusters ms) (p + k) 0 ≡ get_or (clusters ms) p 0) →
    get_or (glyph_flags ms) (p + d) 0 ≡ get_or (glyph_flags ms) p 0
same_along ms a p zero within all = ap (λ n. get_or (glyph_flags ms) n 0) (let e : p + 0 ≡ p = omega arith in e)
same_along ms a p (suc d) within all =
    let cs = clusters ms in
    let there : p + suc d ≡ suc (p + d) = omega arith in
    let last : get_or cs (suc (p + d)) 0 ≡ get_or cs p 0 = ap (λ n. get_or cs n 0) (sym there)
    ∙ all (suc d) (omega arith) in
    let before : get_or cs (p + d) 0 ≡ get_or cs p 0 = all d (omega arith) in
    ap (λ n. get_or (glyph_flags ms) n 0) there
    ∙ sym (alike_at ms a (p + d) (omega (arith, there, within)) (before ∙ sym last))
    ∙ same_along ms a p d (omega arith) (λ k low. all k (omega arith))

unsafe_alike : (ms : Glyphs) (p q : ℕ) → p < length ms → q < length ms →
    get_or (glyph_flags ms) q 0 ≡ get_or (glyph_flags ms) p 0 →
    is_unsafe (get_or ms q default_glyph) ≡ is_unsafe (get_or ms p default_glyph)
unsafe_alike ms p q pl ql e =
    let f : Glyph → ℕ = λ g. g.mask % 8 in
    sym (unsafe_low (get_or ms q default_glyph).mask)
    ∙ ap unsafe_flags (sym (get_or-map f ms q default_glyph 0 ql) ∙ e ∙ get_or-map f ms p default_glyph 0 pl)
    ∙ unsafe_low (get_or ms p default_glyph).mask

-- a glyph of cluster c stands at place p, and all of that cluster have its flags: it tells whether one is unsafe
tells_at : (ms : Glyphs) (c p : ℕ) → p < length ms → get_or (clusters ms) p 0 ≡ c →
    ((q : ℕ) → q < length ms → get_or (clusters ms) q 0 ≡ c →
    get_or (glyph_flags ms) q 0 ≡ get_or (glyph_flags ms) p 0) →
    (list_any (unsafe_at c) ms ≡ false) ↔ (is_unsafe (get_or ms p default_glyph) ≡ false)
tells_at ms c p within is all =
    let cluster : (q : ℕ) → q < length ms → get_or (clusters ms) q 0 ≡ (get_or ms q default_glyph).cluster =
    λ q l. get_or-map (λ (g : Glyph). g.cluster) ms q default_glyph 0 l in (
      (λ none. false_from_ne_true (is_unsafe (get_or ms p default_glyph))
          (λ yes. both_ways (list_any (unsafe_at c) ms) none
          (list_any_at (unsafe_at c) ms p default_glyph within
          (and_from _ _ (eq-eqb (get_or ms p default_glyph).cluster c (sym (cluster p within) ∙ is)) yes)))),
      (λ safe. list_any_none (unsafe_at c) ms (All-from_get_or (λ g. unsafe_at c g ≡ false) ms default_glyph
          (λ q l. elim (cases_eq (get_or ms q default_glyph).cluster c) [
            | inl e ↦ and_right _ _ (unsafe_alike ms p q within l (all q l (cluster q l ∙ e)) ∙ safe)
            | inr n ↦ and_left _ _ (ne_eqb (get_or ms q default_glyph).cluster c n)
          ]))),
    )

tells_rising : (ms : Glyphs) (p : ℕ) → Alike ms → IsRising (clusters ms) → 0 < p → p < length ms →
    get_or (clusters ms) (p - 1) 0 ≢ get_or (clusters ms) p 0 →
    (list_any (unsafe_at (greater ms p)) ms ≡ false) ↔ (is_unsafe (get_or ms p default_glyph) ≡ false)
tells_rising ms p a rises some within differ =
    let cs = clusters ms in
    let long : length cs ≡ length ms = length-map ms (λ (g : Glyph). g.cluster) in
    let step = rising_to cs rises (p - 1) p (omega arith) (omega (arith, long)) in
    let c = greater ms p in
    let top : get_or cs p 0 ≡ c = omega (arith, step) in
    tells_at ms c p within top (λ q l e. elim (cases_lt q p) [
      | inl before ↦ (let under = rising_to cs rises q (p - 1) (omega arith) (omega (arith, long)) in absurd
          (differ (omega (arith, under, step, e, top))))
      | inr behind ↦ (
          let there : p + (q - p) ≡ q = omega arith in
          let P : ℕ → Type 0 = λ n. get_or (glyph_flags ms) n 0 ≡ get_or (glyph_flags ms) p 0 in
          subst P there (same_along ms a p (q - p) (omega arith) (λ k few.
          let up = rising_to cs rises p (p + k) (omega arith) (omega (arith, long)) in
          let down = rising_to cs rises (p + k) q (omega arith) (omega (arith, long)) in
          omega (arith, up, down, e, top))))
    ])

tells_falling : (ms : Glyphs) (p : ℕ) → Alike ms → IsFalling (clusters ms) → 0 < p → p < length ms →
    get_or (clusters ms) (p - 1) 0 ≢ get_or (clusters ms) p 0 →
    (list_any (unsafe_at (greater ms p)) ms ≡ false) ↔ (is_unsafe (get_or ms (p - 1) default_glyph) ≡ false)
tells_falling ms p a falls some within differ =
    let cs = clusters ms in
    let long : length cs ≡ length ms = length-map ms (λ (g : Glyph). g.cluster) in
    let step = falling_to cs falls (p - 1) p (omega arith) (omega (arith, long)) in
    let c = greater ms p in
    let top : get_or cs (p - 1) 0 ≡ c = omega (arith, step) in
    tells_at ms c (p - 1) (omega arith) top (λ q l e. elim (cases_lt q p) [
      | inr behind ↦ (let under = falling_to cs falls p q behind (omega (arith, long)) in absurd
          (differ (omega (arith, under, step, e, top))))
      | inl before ↦ (
          let there : q + (p - 1 - q) ≡ p - 1 = omega arith in
          let P : ℕ → Type 0 = λ n. get_or (glyph_flags ms) q 0 ≡ get_or (glyph_flags ms) n 0 in
          subst P there (sym (same_along ms a q (p - 1 - q) (omega arith) (λ k few.
          let up = falling_to cs falls q (q + k) (omega arith) (omega (arith, long)) in
          let down = falling_to cs falls (q + k) (p - 1) (omega arith) (omega (arith, long)) in
          omega (arith, up, down, e, top)))))
    ])

pub one_glyph_tells : OneGlyphTells
one_glyph_tells wanted gs p some within differ =
    let ms = flags_propagated wanted gs in
    let same = clusters-propagated wanted gs in
    let inside : p < length ms = omega (arith, length-propagated wanted gs) in
    let apart : get_or (clusters ms) (p - 1) 0 ≢ get_or (clusters ms) p 0 =
    subst (λ cs. get_or cs (p - 1) 0 ≢ get_or cs p 0) (sym same) differ in (
      (λ rises. let tells = tells_rising ms p (alike wanted gs) (subst IsRising (sym same) rises) some inside apart in (
        (λ clear. tells.0 (clear_to wanted gs p clear).unflagged),
        (λ safe. clear_from wanted gs p (record { differ = apart; unflagged = tells.1 safe })),
      )),
      (λ falls. let tells = tells_falling ms p (alike wanted gs)
          (subst IsFalling (sym same) falls) some inside apart in (
            (λ clear. tells.0 (clear_to wanted gs p clear).unflagged),
            (λ safe. clear_from wanted gs p (record { differ = apart; unflagged = tells.1 safe })),
          )),
    )

-- ---- one flag

abbrev ToldByOne : Glyph → Type 0
ToldByOne g = is_unsafe g ≡ (bit_at 0 g.mask == 1)

told : (j : ℕ) (gs : Glyphs) → j < 8 → unsafe_flags j ≡ (bit_at 0 j == 1) →
    AllByRecursion ToldByOne (map (with_flags j) gs)
told j [] small is = tt
told j (g ∷ gs) small is = (
  unsafe_put j g small ∙ is ∙ ap (λ n. bit_at 0 n == 1) (sym (flags_put j g small))
      ∙ ap (λ n. n == 1) (one_low (with_flags j g).mask),
  told j gs small is,
)

pub one_flag_tells : OneFlagTells
one_flag_tells wanted gs asked =
    All-from_recursion ToldByOne (flags_propagated wanted gs)
    (by_groups (λ gs. AllByRecursion ToldByOne (flags_propagated wanted gs)) tt (λ g gs last.
    let k = more g gs in
    let j = opening_flags wanted g gs in
    let group = g ∷ take k gs in
    let P : Glyphs → Type 0 = AllByRecursion ToldByOne in
    subst P (sym (opens wanted g gs))
    (all-append ToldByOne (map (with_flags j) group) (flags_propagated wanted (drop k gs))
    (told j group (opening_small wanted g gs) (kept_one wanted asked (flags_of group) (flags_small group))) last))
    (length gs) gs (omega arith))
