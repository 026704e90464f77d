-- Glyphs beside glyphs, in a relation that keeps the bytes of syllables.
use Rattle.std.proofs.Common.{◌≡◌, ◌∙◌, ℕ, ◌+◌, ◌≤◌, Bool, true, false, ◌==◌, List, [], ◌∷◌, ◌++◌, cond, drop, refl, sym, ap, subst, arith}
use Rattle.std.specs.Prelude.{All, count_by, map}
use Rattle.std.specs.List.{AllByRecursion, AllZip, flat_map}
use Rattle.std.proofs.lemmas.Bool.{false≢true}
use Rattle.std.proofs.lemmas.List.Elements.{All-from_recursion, length_all_zip, recursion_from_All}
use Rattle.std.proofs.lemmas.List.Sums.{sum_by-cons}
use Rattle.shapers_buffer.specs.Glyphs.{Glyph, Glyphs}
use Rattle.shapers_buffer.specs.Syllables.{syllables, with_in_front}
use Rattle.shapers_syllabic.proofs.Borders.{OfByte, syllables-mapped}

abbrev pub KeepsByte : (Glyph → Glyph → Type 0) → Type 0
KeepsByte R = (g h : Glyph) → R g h → h.syllable ≡ g.syllable

-- ---- from glyphs to their syllables

in-front : (R : Glyph → Glyph → Type 0) → KeepsByte R → (g h : Glyph) (ps qs : List Glyphs) → R g h
    → AllZip (AllZip R) ps qs → AllZip (AllZip R) (with_in_front g ps) (with_in_front h qs)
in-front R bytes g h [] [] s all = ((s, tt), tt)
in-front R bytes g h [] (q ∷ qs) s all = absurd all
in-front R bytes g h (p ∷ ps) [] s all = absurd all
in-front R bytes g h ([] ∷ ps) ([] ∷ qs) s all = ((s, tt), all.1)
in-front R bytes g h ([] ∷ ps) ((y ∷ q) ∷ qs) s all = absurd all.0
in-front R bytes g h ((x ∷ p) ∷ ps) ([] ∷ qs) s all = absurd all.0
in-front R bytes g h ((x ∷ p) ∷ ps) ((y ∷ q) ∷ qs) s all =
    let same : (y.syllable == h.syllable) ≡ (x.syllable == g.syllable) =
    ap (λ a. a == h.syllable) (bytes x y all.0.0) ∙ ap (λ b. x.syllable == b) (bytes g h s) in
    subst (λ b. AllZip (AllZip R) (with_in_front g ((x ∷ p) ∷ ps))
    (cond b ((h ∷ (y ∷ q)) ∷ qs) ((h ∷ []) ∷ ((y ∷ q) ∷ qs)))) (sym same) (by (x.syllable == g.syllable))
  where
    by : (b : Bool) → AllZip (AllZip R) (cond b ((g ∷ (x ∷ p)) ∷ ps) ((g ∷ []) ∷ ((x ∷ p) ∷ ps)))
        (cond b ((h ∷ (y ∷ q)) ∷ qs) ((h ∷ []) ∷ ((y ∷ q) ∷ qs)))
    by true = ((s, all.0), all.1)
    by false = ((s, tt), all)

pub syllables-zip : (R : Glyph → Glyph → Type 0) → KeepsByte R → (gs hs : Glyphs) → AllZip R gs hs
    → AllZip (AllZip R) (syllables gs) (syllables hs)
syllables-zip R bytes [] [] all = tt
syllables-zip R bytes [] (h ∷ hs) all = absurd all
syllables-zip R bytes (g ∷ gs) [] all = absurd all
syllables-zip R bytes (g ∷ gs) (h ∷ hs) all =
    in-front R bytes g h (syllables gs) (syllables hs) all.0 (syllables-zip R bytes gs hs all.1)

-- ---- what is done to each glyph, and to each syllable for itself

pub map-zip : (R : Glyph → Glyph → Type 0) (f : Glyph → Glyph) → ((g : Glyph) → R g (f g)) → (gs : Glyphs)
    → AllZip R gs (map f gs)
map-zip R f each [] = tt
map-zip R f each (g ∷ gs) = (each g, map-zip R f each gs)

pub same-zip : (R : Glyph → Glyph → Type 0) → ((g : Glyph) → R g g) → (gs : Glyphs) → AllZip R gs gs
same-zip R each [] = tt
same-zip R each (g ∷ gs) = (each g, same-zip R each gs)

pub zip-joined : (R : Glyph → Glyph → Type 0) (gs hs xs ys : Glyphs) → AllZip R gs hs → AllZip R xs ys
    → AllZip R (gs ++ xs) (hs ++ ys)
zip-joined R [] [] xs ys a b = b
zip-joined R [] (h ∷ hs) xs ys a b = absurd a
zip-joined R (g ∷ gs) [] xs ys a b = absurd a
zip-joined R (g ∷ gs) (h ∷ hs) xs ys a b = (a.0, zip-joined R gs hs xs ys a.1 b)

pub each-zip : (R : Glyph → Glyph → Type 0) (f : Glyphs → Glyphs) → ((gs : Glyphs) → AllZip R gs (f gs))
    → (ps : List Glyphs) → AllZip R (flat_map (λ p. p) ps) (flat_map f ps)
each-zip R f each [] = tt
each-zip R f each (p ∷ ps) =
    zip-joined R p (f p) (flat_map (λ q. q) ps) (flat_map f ps) (each p) (each-zip R f each ps)

bytes-stay : (R : Glyph → Glyph → Type 0) → KeepsByte R → (byte : ℕ) (gs hs : Glyphs) → AllZip R gs hs
    → AllByRecursion (λ g. g.syllable ≡ byte) gs → AllByRecursion (λ g. g.syllable ≡ byte) hs
bytes-stay R bytes byte [] [] all own = tt
bytes-stay R bytes byte [] (h ∷ hs) all own = absurd all
bytes-stay R bytes byte (g ∷ gs) [] all own = absurd all
bytes-stay R bytes byte (g ∷ gs) (h ∷ hs) all own =
    (bytes g h all.0 ∙ own.0, bytes-stay R bytes byte gs hs all.1 own.1)

-- so syllables stay what they are
pub syllables-of-each : (R : Glyph → Glyph → Type 0) → KeepsByte R → (f : Glyphs → Glyphs)
    → ((gs : Glyphs) → AllZip R gs (f gs)) → (gs : Glyphs) → syllables (flat_map f (syllables gs))
    ≡ map f (syllables gs)
syllables-of-each R bytes f each gs = syllables-mapped f by gs
  where
    by : (byte : ℕ) (xs : Glyphs) → OfByte byte xs → OfByte byte (f xs)
    by byte xs own =
        let P : Glyph → Type 0 = λ g. g.syllable ≡ byte in
        let long = length_all_zip R xs (f xs) (each xs) in
        let some = own.some in
        record {
          some = omega (arith, long, some);
          all = All-from_recursion P (f xs)
              (bytes-stay R bytes byte xs (f xs) (each xs) (recursion_from_All P xs own.all));
        }

-- ---- how many pass a test

one-no-more : (a b : Bool) → (a ≡ true → b ≡ true) → cond a 1 0 ≤ cond b 1 0
one-no-more false b h = omega arith
one-no-more true true h = omega arith
one-no-more true false h = absurd (false≢true (h refl))

pub count-zip : (test : Glyph → Bool) (R : Glyph → Glyph → Type 0)
    → ((g h : Glyph) → R g h → test h ≡ true → test g ≡ true) → (gs hs : Glyphs) → AllZip R gs hs
    → count_by test hs ≤ count_by test gs
count-zip test R back [] [] all = omega arith
count-zip test R back [] (h ∷ hs) all = absurd all
count-zip test R back (g ∷ gs) [] all = absurd all
count-zip test R back (g ∷ gs) (h ∷ hs) all =
    let one : Glyph → ℕ = λ x. cond (test x) 1 0 in
    let a = sum_by-cons one g gs in
    let b = sum_by-cons one h hs in
    let c = one-no-more (test h) (test g) (back g h all.0) in
    let d = count-zip test R back gs hs all.1 in
    omega (arith, a, b, c, d)

-- fewer pass a test that tells more
pub count-less : (few many : Glyph → Bool) → ((g : Glyph) → few g ≡ true → many g ≡ true) → (gs : Glyphs)
    → count_by few gs ≤ count_by many gs
count-less few many more [] = omega arith
count-less few many more (g ∷ gs) =
    let a = sum_by-cons (λ (x : Glyph). cond (few x) 1 0) g gs in
    let b = sum_by-cons (λ (x : Glyph). cond (many x) 1 0) g gs in
    let c = one-no-more (few g) (many g) (more g) in
    let d = count-less few many more gs in
    omega (arith, a, b, c, d)

pub zip-tails : (R : Glyph → Glyph → Type 0) (gs hs : Glyphs) → AllZip R gs hs → AllZip R (drop 1 gs) (drop 1 hs)
zip-tails R [] [] all = tt
zip-tails R [] (h ∷ hs) all = absurd all
zip-tails R (g ∷ gs) [] all = absurd all
zip-tails R (g ∷ gs) (h ∷ hs) all = all.1

-- a property of syllables that the relation keeps
pub each-kept : (R : Glyph → Glyph → Type 0) (P : Glyphs → Type 0)
    → ((p q : Glyphs) → AllZip R p q → P p → P q) → (ps qs : List Glyphs) → AllZip (AllZip R) ps qs
    → AllByRecursion P ps → AllByRecursion P qs
each-kept R P keeps [] [] all held = tt
each-kept R P keeps [] (q ∷ qs) all held = absurd all
each-kept R P keeps (p ∷ ps) [] all held = tt
each-kept R P keeps (p ∷ ps) (q ∷ qs) all held =
    (keeps p q all.0 held.0, each-kept R P keeps ps qs all.1 held.1)
