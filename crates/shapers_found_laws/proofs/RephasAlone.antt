-- Syllables in which a repha stands without another glyph that may be recorded as one.
use Rattle.std.proofs.Common.{◌≡◌, ℕ, suc, ◌+◌, ◌≤◌, Bool, true, false, ◌==◌, ◌⊎◌, List, [], ◌∷◌, ◌++◌, cond, take, drop, refl, sym, ap, subst, inl, inr, arith}
use Rattle.std.specs.Prelude.{◌||◌, count_by, map}
use Rattle.std.specs.List.{AllByRecursion, AllZip, flat_map, prefix_len}
use Rattle.std.proofs.lemmas.List.{take-append-drop}
use Rattle.std.proofs.lemmas.List.Sums.{sum_by-cons}
use Rattle.shapers_base.specs.Masks.{has_bits}
use Rattle.shapers_buffer.specs.Buffer.{Buffer}
use Rattle.shapers_buffer.specs.Glyphs.{Glyph, Glyphs}
use Rattle.shapers_buffer.specs.Properties.{is_substituted}
use Rattle.shapers_buffer.specs.Syllables.{syllables}
use Rattle.shapers_plan.specs.declared.ot_map.lookups.StageLookup.{StageLookup}
use Rattle.shapers_pipeline.specs.Lookups.{looked_up}
use Rattle.shapers_universal.specs.UniversalSyllables.{first_recorded, in_category, rphf_recorded}
use Rattle.shapers_found_laws.specs.AddsNone.{LookupsAddNone, is_in_category}
use Rattle.shapers_found_laws.specs.FoundUniversal.{RephaAlone, may_be_repha}
use Rattle.shapers_found_laws.proofs.AddedNone.{AtMost}
use Rattle.shapers_found_laws.proofs.ZippedGlyphs.{count-less, syllables-of-each}

abbrev pub AllAlone : ℕ → List Glyphs → Type 0
AllAlone mask pieces = AllByRecursion (RephaAlone mask) pieces

-- ---- counts

either-true : (a b : Bool) → b ≡ true → (a || b) ≡ true
either-true true b h = refl
either-true false b h = h

repha-may : (mask : ℕ) (g : Glyph) → is_in_category 18 g ≡ true → may_be_repha mask g ≡ true
repha-may mask g is = ap (λ b. b || has_bits mask g) is

pub rephas-may : (mask : ℕ) (gs : Glyphs) → count_by (is_in_category 18) gs ≤ count_by (may_be_repha mask) gs
rephas-may mask gs = count-less (is_in_category 18) (may_be_repha mask) (repha-may mask) gs

-- ---- what keeps it

pub alone-less : (mask : ℕ) (p q : Glyphs) → count_by (is_in_category 18) q ≤ count_by (is_in_category 18) p
    → count_by (may_be_repha mask) q ≤ count_by (may_be_repha mask) p → RephaAlone mask p → RephaAlone mask q
alone-less mask p q fewer less (inl none) = inl (omega (arith, fewer, none))
alone-less mask p q fewer less (inr few) = inr (omega (arith, less, few))

pieces-less : (mask : ℕ) (ps qs : List Glyphs)
    → AllZip (λ before after. count_by (is_in_category 18) after ≤ count_by (is_in_category 18) before) ps qs
    → AllZip (λ before after. count_by (may_be_repha mask) after ≤ count_by (may_be_repha mask) before) ps qs
    → AllAlone mask ps → AllAlone mask qs
pieces-less mask [] [] fewer less alone = tt
pieces-less mask [] (q ∷ qs) fewer less alone = absurd fewer
pieces-less mask (p ∷ ps) [] fewer less alone = tt
pieces-less mask (p ∷ ps) (q ∷ qs) fewer less alone =
    (alone-less mask p q fewer.0 less.0 alone.0, pieces-less mask ps qs fewer.1 less.1 alone.1)

pub looked-alone : (mask : ℕ) (f : StageLookup → Buffer → Buffer) (list : List StageLookup)
    → LookupsAddNone (is_in_category 18) f list → LookupsAddNone (may_be_repha mask) f list → (b : Buffer)
    → AllAlone mask (syllables b.glyphs) → AllAlone mask (syllables (looked_up f list b).glyphs)
looked-alone mask f [] rephas set b alone = alone
looked-alone mask f (x ∷ xs) rephas set b alone =
    looked-alone mask f xs rephas.1 set.1 (f x b)
    (pieces-less mask (syllables b.glyphs) (syllables (f x b).glyphs) (rephas.0 b) (set.0 b) alone)

-- ---- the record of rphf

-- what it makes of a syllable: nothing, or a repha of the first glyph, or what it makes of the rest
abbrev Shape : ℕ → Glyph → Glyphs → Glyphs → Type 0
Shape mask g gs xs =
    (xs ≡ g ∷ gs)
    ⊎ ((has_bits mask g ≡ true) × ((xs ≡ in_category 18 g ∷ gs) ⊎ (xs ≡ g ∷ rphf_recorded mask gs)))

shaped : (mask : ℕ) (g : Glyph) (gs : Glyphs) → Shape mask g gs (rphf_recorded mask (g ∷ gs))
shaped mask g gs = by (has_bits mask g) refl
  where
    k : ℕ
    k = prefix_len (has_bits mask) gs

    made : ℕ → Glyphs
    made n = first_recorded 18 (take n (g ∷ gs)) ++ drop n (g ∷ gs)

    put : (s : Bool) → (let xs = cond s (in_category 18 g ∷ take k gs) (g ∷ first_recorded 18 (take k gs)) ++ drop k gs in
        (xs ≡ in_category 18 g ∷ gs) ⊎ (xs ≡ g ∷ rphf_recorded mask gs))
    put true = inl (ap (λ (xs : Glyphs). in_category 18 g ∷ xs) (take-append-drop k gs))
    put false = inr refl

    one : suc k ≡ 1 + k
    one = omega arith

    by : (b : Bool) → has_bits mask g ≡ b → Shape mask g gs (made (cond b (1 + k) 0))
    by false is = inl refl
    by true is =
        inr (
          is,
          subst (λ n. (made n ≡ in_category 18 g ∷ gs) ⊎ (made n ≡ g ∷ rphf_recorded mask gs)) one
              (put (is_substituted g.glyph_props)),
        )

abbrev repha_count : Glyphs → ℕ
repha_count gs = count_by (is_in_category 18) gs

repha-cons : (g : Glyph) (gs : Glyphs) → repha_count (g ∷ gs) ≡ cond (is_in_category 18 g) 1 0 + repha_count gs
repha-cons g gs = sum_by-cons (λ (x : Glyph). cond (is_in_category 18 x) 1 0) g gs

may-cons : (mask : ℕ) (g : Glyph) (gs : Glyphs) → count_by (may_be_repha mask) (g ∷ gs)
    ≡ cond (may_be_repha mask g) 1 0 + count_by (may_be_repha mask) gs
may-cons mask g gs = sum_by-cons (λ (x : Glyph). cond (may_be_repha mask x) 1 0) g gs

-- 1 if a test is passed
abbrev one_if : Bool → ℕ
one_if b = cond b 1 0

one-at-most : (b : Bool) → one_if b ≤ 1
one-at-most true = omega arith
one-at-most false = omega arith

may-one : (mask : ℕ) (g : Glyph) → has_bits mask g ≡ true → one_if (may_be_repha mask g) ≡ 1
may-one mask g bits = ap one_if (either-true (g.category == 18) (has_bits mask g) bits)

-- the rephas then were ones, or might become ones
may-next : (mask : ℕ) (g : Glyph) (gs : Glyphs) → repha_count (rphf_recorded mask gs) ≤ count_by (may_be_repha mask) gs
    → Shape mask g gs (rphf_recorded mask (g ∷ gs))
    → repha_count (rphf_recorded mask (g ∷ gs)) ≤ count_by (may_be_repha mask) (g ∷ gs)
may-next mask g gs later (inl same) =
    let e = ap repha_count same in
    let w = rephas-may mask (g ∷ gs) in
    omega (arith, e, w)
may-next mask g gs later (inr (bits, inl put)) =
    let e = ap repha_count put in
    let c = repha-cons (in_category 18 g) gs in
    let m = may-one mask g bits in
    let n = may-cons mask g gs in
    let r = rephas-may mask gs in
    omega (arith, e, c, m, n, r)
may-next mask g gs later (inr (bits, inr on)) =
    let e = ap repha_count on in
    let c = repha-cons g (rphf_recorded mask gs) in
    let m = may-one mask g bits in
    let n = may-cons mask g gs in
    let o = one-at-most (is_in_category 18 g) in
    omega (arith, e, c, m, n, later, o)

recorded-may : (mask : ℕ) (gs : Glyphs) → repha_count (rphf_recorded mask gs) ≤ count_by (may_be_repha mask) gs
recorded-may mask [] = omega arith
recorded-may mask (g ∷ gs) = may-next mask g gs (recorded-may mask gs) (shaped mask g gs)

-- and there is one more at most
one-next : (mask : ℕ) (g : Glyph) (gs : Glyphs) → repha_count (rphf_recorded mask gs) ≤ 1 + repha_count gs
    → Shape mask g gs (rphf_recorded mask (g ∷ gs)) → repha_count (rphf_recorded mask (g ∷ gs)) ≤ 1 + repha_count (g ∷ gs)
one-next mask g gs later (inl same) = let e = ap repha_count same in omega (arith, e)
one-next mask g gs later (inr (bits, inl put)) =
    let e = ap repha_count put in
    let c = repha-cons (in_category 18 g) gs in
    let d = repha-cons g gs in
    omega (arith, e, c, d)
one-next mask g gs later (inr (bits, inr on)) =
    let e = ap repha_count on in
    let c = repha-cons g (rphf_recorded mask gs) in
    let d = repha-cons g gs in
    omega (arith, e, c, d, later)

recorded-one : (mask : ℕ) (gs : Glyphs) → repha_count (rphf_recorded mask gs) ≤ 1 + repha_count gs
recorded-one mask [] = omega arith
recorded-one mask (g ∷ gs) = one-next mask g gs (recorded-one mask gs) (shaped mask g gs)

recorded-few : (mask : ℕ) (gs : Glyphs) → RephaAlone mask gs → repha_count (rphf_recorded mask gs) ≤ 1
recorded-few mask gs (inl none) = let a = recorded-one mask gs in omega (arith, a, none)
recorded-few mask gs (inr few) = let a = recorded-may mask gs in omega (arith, a, few)

abbrev SameByte : Glyph → Glyph → Type 0
SameByte g h = h.syllable ≡ g.syllable

same-bytes : (gs : Glyphs) → AllZip SameByte gs gs
same-bytes [] = tt
same-bytes (g ∷ gs) = (refl, same-bytes gs)

bytes-next : (mask : ℕ) (g : Glyph) (gs : Glyphs) → AllZip SameByte gs (rphf_recorded mask gs)
    → Shape mask g gs (rphf_recorded mask (g ∷ gs)) → AllZip SameByte (g ∷ gs) (rphf_recorded mask (g ∷ gs))
bytes-next mask g gs later (inl same) = subst (AllZip SameByte (g ∷ gs)) (sym same) (same-bytes (g ∷ gs))
bytes-next mask g gs later (inr (bits, inl put)) =
    subst (AllZip SameByte (g ∷ gs)) (sym put) (refl, same-bytes gs)
bytes-next mask g gs later (inr (bits, inr on)) = subst (AllZip SameByte (g ∷ gs)) (sym on) (refl, later)

recorded-bytes : (mask : ℕ) (gs : Glyphs) → AllZip SameByte gs (rphf_recorded mask gs)
recorded-bytes mask [] = tt
recorded-bytes mask (g ∷ gs) = bytes-next mask g gs (recorded-bytes mask gs) (shaped mask g gs)

pieces-recorded : (mask : ℕ) (ps : List Glyphs) → AllAlone mask ps
    → AtMost 1 (is_in_category 18) (map (rphf_recorded mask) ps)
pieces-recorded mask [] alone = tt
pieces-recorded mask (p ∷ ps) alone = (recorded-few mask p alone.0, pieces-recorded mask ps alone.1)

-- behind it no syllable has two
pub recorded-at-most-one : (mask : ℕ) (gs : Glyphs) → AllAlone mask (syllables gs)
    → AtMost 1 (is_in_category 18) (syllables (flat_map (rphf_recorded mask) (syllables gs)))
recorded-at-most-one mask gs alone =
    subst (AtMost 1 (is_in_category 18))
    (sym (syllables-of-each SameByte (λ g h e. e) (rphf_recorded mask) (recorded-bytes mask) gs))
    (pieces-recorded mask (syllables gs) alone)
