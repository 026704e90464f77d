-- Bounds on how often each syllable has glyphs of a sort, through lookups that add none.
use Rattle.std.proofs.Common.{◌≡◌, ◌∙◌, ℕ, ◌+◌, ◌≤◌, Bool, true, false, List, [], ◌∷◌, ◌++◌, cond, refl, sym, ap, arith}
use Rattle.std.specs.Prelude.{count_by}
use Rattle.std.specs.List.{AllByRecursion, AllZip, flat_map, list_any}
use Rattle.std.proofs.lemmas.List.Sums.{sum_by-append}
use Rattle.shapers_buffer.proofs.ListLaws.{count_from_none, none_from_count}
use Rattle.shapers_buffer.specs.Buffer.{Buffer}
use Rattle.shapers_buffer.specs.Glyphs.{Glyph, Glyphs}
use Rattle.shapers_buffer.specs.Syllables.{syllables}
use Rattle.shapers_plan.specs.declared.ot_map.lookups.StageLookup.{StageLookup}
use Rattle.shapers_pipeline.specs.Lookups.{looked_up}
use Rattle.shapers_syllabic.proofs.CircleLaws.{joined-syllables}
use Rattle.shapers_found_laws.specs.AddsNone.{AddsNone, LookupsAddNone}
use Rattle.shapers_found_laws.proofs.ZippedGlyphs.{KeepsByte, count-zip, syllables-zip}

-- each of these syllables has at most n
abbrev pub AtMost : ℕ → (Glyph → Bool) → List Glyphs → Type 0
AtMost n test pieces = AllByRecursion (λ piece. count_by test piece ≤ n) pieces

pub fewer-kept : (n : ℕ) (test : Glyph → Bool) (ps qs : List Glyphs)
    → AllZip (λ before after. count_by test after ≤ count_by test before) ps qs → AtMost n test ps → AtMost n test qs
fewer-kept n test [] [] all few = tt
fewer-kept n test [] (q ∷ qs) all few = absurd all
fewer-kept n test (p ∷ ps) [] all few = tt
fewer-kept n test (p ∷ ps) (q ∷ qs) all few =
    let a = all.0 in
    let b = few.0 in
    (omega (arith, a, b), fewer-kept n test ps qs all.1 few.1)

pub looked-at-most : (n : ℕ) (test : Glyph → Bool) (f : StageLookup → Buffer → Buffer) (list : List StageLookup)
    → LookupsAddNone test f list → (b : Buffer) → AtMost n test (syllables b.glyphs)
    → AtMost n test (syllables (looked_up f list b).glyphs)
looked-at-most n test f [] adds b few = few
looked-at-most n test f (x ∷ xs) adds b few =
    looked-at-most n test f xs adds.1 (f x b)
    (fewer-kept n test (syllables b.glyphs) (syllables (f x b).glyphs) (adds.0 b) few)

-- none at all

count-joined : (test : Glyph → Bool) (p : Glyphs) (ps : List Glyphs) → count_by test (p ++ flat_map (λ q. q) ps)
    ≡ count_by test p + count_by test (flat_map (λ q. q) ps)
count-joined test p ps = sum_by-append (λ g. cond (test g) 1 0) p (flat_map (λ q. q) ps)

none-each : (test : Glyph → Bool) (ps : List Glyphs) → count_by test (flat_map (λ q. q) ps) ≡ 0 → AtMost 0 test ps
none-each test [] none = tt
none-each test (p ∷ ps) none =
    let e = count-joined test p ps in
    (omega (arith, e, none), none-each test ps (omega (arith, e, none)))

none-joined : (test : Glyph → Bool) (ps : List Glyphs) → AtMost 0 test ps → count_by test (flat_map (λ q. q) ps) ≡ 0
none-joined test [] few = refl
none-joined test (p ∷ ps) few =
    let e = count-joined test p ps in
    let a = few.0 in
    let b = none-joined test ps few.1 in
    omega (arith, e, a, b)

pub none-at-most : (test : Glyph → Bool) (gs : Glyphs) → list_any test gs ≡ false → AtMost 0 test (syllables gs)
none-at-most test gs none =
    none-each test (syllables gs) (ap (count_by test) (joined-syllables gs) ∙ count_from_none test gs none)

pub at-most-none : (test : Glyph → Bool) (gs : Glyphs) → AtMost 0 test (syllables gs) → list_any test gs ≡ false
at-most-none test gs few =
    none_from_count test gs (sym (ap (count_by test) (joined-syllables gs)) ∙ none-joined test (syllables gs) few)

-- ---- lookups that put one glyph for one

-- where glyphs stay in their syllables and none passes the test that didn't
pieces-add-none : (test : Glyph → Bool) (R : Glyph → Glyph → Type 0)
    → ((g h : Glyph) → R g h → test h ≡ true → test g ≡ true) → (ps qs : List Glyphs) → AllZip (AllZip R) ps qs
    → AllZip (λ before after. count_by test after ≤ count_by test before) ps qs
pieces-add-none test R back [] [] all = tt
pieces-add-none test R back [] (q ∷ qs) all = absurd all
pieces-add-none test R back (p ∷ ps) [] all = absurd all
pieces-add-none test R back (p ∷ ps) (q ∷ qs) all =
    (count-zip test R back p q all.0, pieces-add-none test R back ps qs all.1)

pub zip-adds-none : (test : Glyph → Bool) (R : Glyph → Glyph → Type 0) → KeepsByte R
    → ((g h : Glyph) → R g h → test h ≡ true → test g ≡ true) → (gs hs : Glyphs) → AllZip R gs hs → AddsNone test gs hs
zip-adds-none test R bytes back gs hs all =
    pieces-add-none test R back (syllables gs) (syllables hs) (syllables-zip R bytes gs hs all)
