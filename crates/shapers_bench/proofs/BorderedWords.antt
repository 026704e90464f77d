-- Words of Khmer whose syllables meet at borders of clusters.
use Rattle.std.proofs.Common.{◌≡◌, ◌∙◌, ◌==◌, ℕ, zero, suc, ◌+◌, ◌-◌, ◌<◌, ◌≤◌, Bool, true, false, not, ◌&&◌, ◌||◌, nat_lt, List, [], ◌∷◌, ◌++◌, length, map, drop, get_or, slice_index, refl, sym, ap, subst, inl, arith}
use Rattle.std.specs.List.{AllByRecursion, list_all, list_any}
use Rattle.std.proofs.lemmas.Bool.{and_parts, false≢true, or_from}
use Rattle.std.proofs.lemmas.Bool.Decides.{nat_tests}
use Rattle.std.proofs.lemmas.List.{get_or-map, length-map}
use Rattle.shapers_base.specs.Font.{CharacterTables}
use Rattle.shapers_buffer.specs.Glyph.{clusters, default_glyph}
use Rattle.shapers_buffer.specs.Glyphs.{Glyph, Glyphs}
use Rattle.shapers_buffer.specs.Lists.{each_after}
use Rattle.shapers_buffer.specs.Properties.{is_continuation}
use Rattle.shapers_buffer.specs.declared.buffer.level.BufferClusterLevel.TheVariants.{MonotoneGraphemes}
use Rattle.shapers_buffer.specs.declared.buffer.syllables.Span.{Span}
use Rattle.shapers_clusters.specs.Cuts.{IsMonotone, held, linked}
use Rattle.shapers_clusters.proofs.Merging.{map-merge_all}
use Rattle.shapers_found_laws.specs.FoundBorders.{BeginsGrapheme, BordersPart, EachOpens, FoundOpensWith, IsOneOf, SharesInGraphemes}
use Rattle.shapers_prepare.specs.CharacterProperties.{CharacterProperties}
use Rattle.shapers_prepare.specs.GlyphProperties.{properties_set, with_properties_behind}
use Rattle.shapers_prepare.specs.GraphemeLaws.{FormedCutsAreExact}
use Rattle.shapers_prepare.specs.Graphemes.{clusters_formed, continuations, graphemes, graphemes_from}
use Rattle.shapers_spans.specs.Cuts.{AreSpansOf}
use Rattle.shapers_spans.specs.Khmer.{khmer_grammar}
use Rattle.shapers_syllabic.specs.Characters.{with_category}
use Rattle.shapers_bench.specs.BorderedWords.{HasBorders, is_whole_syllable, khmer_word, opens_grapheme}
use Rattle.shapers_bench.specs.Words.{letter, letters_from}
use Rattle.shapers_bench.proofs.KhmerStages.{same-clusters}
use Rattle.shapers_bench.proofs.Letters.{as-many, at-place, letters-rise}

-- ---- no grapheme holds a glyph that begins one together with the glyph before it

outside : (s p i : ℕ) → p ≤ s → (nat_lt s p && nat_lt p i) ≡ false
outside s p i before = grind (arith, nat_tests)

past : (s p i : ℕ) → i ≤ p → (nat_lt s p && nat_lt p i) ≡ false
past s p i behind = grind (arith, nat_tests)

none-before : (s i p : ℕ) (cs : List Bool) → p ≤ s → s ≤ i → held (graphemes_from s i cs) p ≡ false
none-before s i p [] before order = or_from (nat_lt s p && nat_lt p i) false (outside s p i before) refl
none-before s i p (true ∷ cs) before order = none-before s (i + 1) p cs before (omega (arith, order))
none-before s i p (false ∷ cs) before order =
    or_from (nat_lt s p && nat_lt p i) (held (graphemes_from i (i + 1) cs) p) (outside s p i before)
    (none-before i (i + 1) p cs (omega (arith, before, order)) (omega arith))

apart-from : (s i k : ℕ) (cs : List Bool) → s < i → k < length cs → get_or cs k true ≡ false
    → held (graphemes_from s i cs) (i + k) ≡ false
apart-from s i k [] order within is = absurd (omega (arith, within))
apart-from s i zero (true ∷ cs) order within is = absurd (false≢true (sym is))
apart-from s i zero (false ∷ cs) order within is =
    or_from (nat_lt s (i + 0) && nat_lt (i + 0) i) (held (graphemes_from i (i + 1) cs) (i + 0))
    (past s (i + 0) i (omega arith)) (none-before i (i + 1) (i + 0) cs (omega arith) (omega arith))
apart-from s i (suc k) (true ∷ cs) order within is =
    let there : i + 1 + k ≡ i + suc k = omega arith in
    ap (held (graphemes_from s (i + 1) cs)) (sym there)
    ∙ apart-from s (i + 1) k cs (omega (arith, order)) (omega (arith, within)) is
apart-from s i (suc k) (false ∷ cs) order within is =
    let there : i + 1 + k ≡ i + suc k = omega arith in
    or_from (nat_lt s (i + suc k) && nat_lt (i + suc k) i) (held (graphemes_from i (i + 1) cs) (i + suc k))
    (past s (i + suc k) i (omega arith))
    (ap (held (graphemes_from i (i + 1) cs)) (sym there)
    ∙ apart-from i (i + 1) k cs (omega arith) (omega (arith, within)) is)

begins-apart : (gs : Glyphs) (p : ℕ) → 0 < p → p < length gs → get_or (continuations gs) p true ≡ false
    → held (graphemes gs) p ≡ false
begins-apart [] p some within is = absurd (omega (arith, within))
begins-apart (g ∷ gs) zero some within is = absurd (omega (arith, some))
begins-apart (g ∷ gs) (suc k) some within is =
    let there : 1 + k ≡ suc k = omega arith in
    ap (held (graphemes_from 0 1 (continuations gs))) (sym there)
    ∙ apart-from 0 1 k (continuations gs) (omega arith)
    (omega (arith, within, length-map gs (λ (h : Glyph). is_continuation h.unicode_props))) is

-- ---- what the steps keep

places-set : (properties : CharacterProperties) (before : Glyphs) (n : ℕ) (word : List ℕ)
    → clusters (map (λ x. with_properties_behind properties x.0 x.1) (each_after before (letters_from n word)))
    ≡ clusters (letters_from n word)
places-set properties before n [] = refl
places-set properties before n (c ∷ cs) =
    ap (λ ks. n ∷ ks) (places-set properties (before ++ letter n c ∷ []) (suc n) cs)

continuations-categorized : (tables : CharacterTables) (gs : Glyphs)
    → continuations (map (with_category tables) gs) ≡ continuations gs
continuations-categorized tables [] = refl
continuations-categorized tables (g ∷ gs) =
    ap (λ bs. is_continuation g.unicode_props ∷ bs) (continuations-categorized tables gs)

-- ---- neighbours share a cluster in graphemes alone

unlike : (p : ℕ) → 0 < p → ((p - 1) == p) ≡ false
unlike p some = grind (arith, nat_tests)

from-none : (n : ℕ) → 0 + n ≡ n
from-none n = omega arith

shares : FormedCutsAreExact → (properties : CharacterProperties) (tables : CharacterTables) (word : List ℕ)
    → SharesInGraphemes (khmer_word properties tables word)
shares exact properties tables word p some within same =
    sym (get_or-map carries gs p default_glyph true within) ∙ (ap (λ bs. get_or bs p true) kept ∙ by (get_or (continuations ps) p true) refl)
  where
    carries : Glyph → Bool
    carries g = is_continuation g.unicode_props

    ps : Glyphs
    ps = properties_set properties (letters_from 0 word)

    formed : Glyphs
    formed = clusters_formed MonotoneGraphemes ps

    gs : Glyphs
    gs = khmer_word properties tables word

    kept : continuations gs ≡ continuations ps
    kept = continuations-categorized tables formed ∙ map-merge_all carries (λ g. refl) MonotoneGraphemes (graphemes ps) ps

    places : clusters ps ≡ clusters (letters_from 0 word)
    places = places-set properties [] 0 word

    many : length ps ≡ length gs
    many = sym (length-map ps carries) ∙ (sym (ap length kept) ∙ length-map gs carries)

    inside : p < length word
    inside =
        omega (arith, within, many, length-map ps (λ (g : Glyph). g.cluster), ap length places, as-many 0 word)

    unlinked : held (graphemes ps) p ≡ false → linked (clusters ps) (graphemes ps) p ≡ false
    unlinked none =
        let a : slice_index (clusters ps) (p - 1) ≡ p - 1 =
        ap (λ cs. slice_index cs (p - 1)) places ∙ (at-place 0 word (p - 1) 0 (omega (arith, inside)) ∙ from-none (p - 1)) in
        let b : slice_index (clusters ps) p ≡ p = ap (λ cs. slice_index cs p) places
        ∙ (at-place 0 word p 0 inside ∙ from-none p) in
        or_from (slice_index (clusters ps) (p - 1) == slice_index (clusters ps) p) (held (graphemes ps) p)
        (ap (λ n. n == slice_index (clusters ps) p) a ∙ (ap (λ n. (p - 1) == n) b ∙ unlike p some)) none

    by : (b : Bool) → get_or (continuations ps) p true ≡ b → get_or (continuations ps) p true ≡ true
    by true is = is
    by false is =
        let cuts = (exact ps (subst IsMonotone (sym places) (inl (letters-rise 0 word)))).0 in
        let shared : slice_index (clusters formed) (p - 1) ≡ slice_index (clusters formed) p =
        sym (ap (λ cs. slice_index cs (p - 1)) (same-clusters tables formed))
        ∙ (same ∙ ap (λ cs. slice_index cs p) (same-clusters tables formed)) in
        let short : p < length (clusters ps) =
        omega (arith, within, many, length-map ps (λ (g : Glyph). g.cluster)) in
        absurd ((cuts.cuts p some short).1 (unlinked (begins-apart ps p some (omega (arith, within, many)) is)) shared)

-- ---- what opens syllables

none-above : (k : ℕ) → (k == 0) ≡ true → 0 < k → ⊥
none-above k is high = false≢true (sym no ∙ is)
  where
    no : (k == 0) ≡ false
    no = grind (arith, nat_tests)

whole-open : (spans : List Span) (gs : Glyphs) → list_all is_whole_syllable spans ≡ true
    → EachOpens (λ span glyph. 0 < span.kind → BeginsGrapheme glyph) spans gs
whole-open [] gs whole = tt
whole-open (span ∷ spans) gs whole =
    let p = and_parts (is_whole_syllable span) (list_all is_whole_syllable spans) whole in
    ((λ high. absurd (none-above span.kind p.0 high)), whole-open spans (drop span.len gs) p.1)

one-begins : (a b : Bool) → (not a || not b) ≡ true → a ≡ true → b ≡ false
one-begins true true is one = absurd (false≢true is)
one-begins true false is one = refl
one-begins false b is one = absurd (false≢true one)

letters-begin : (categories : List ℕ) (gs : Glyphs) → list_all (opens_grapheme categories) gs ≡ true
    → AllByRecursion (λ glyph. IsOneOf categories glyph → BeginsGrapheme glyph) gs
letters-begin categories [] all = tt
letters-begin categories (g ∷ gs) all =
    let p = and_parts (opens_grapheme categories g) (list_all (opens_grapheme categories) gs) all in (
      one-begins (list_any (λ c. c == g.category) categories) (is_continuation g.unicode_props) p.0,
      letters-begin categories gs p.1,
    )

pub word-borders : FormedCutsAreExact → BordersPart → (categories : List ℕ) → FoundOpensWith khmer_grammar 0 categories
    → (properties : CharacterProperties) (tables : CharacterTables) (word : List ℕ) (gs : Glyphs) (spans : List Span)
    → gs ≡ khmer_word properties tables word → AreSpansOf khmer_grammar gs spans
    → list_all is_whole_syllable spans ≡ true → list_all (opens_grapheme categories) gs ≡ true
    → HasBorders properties tables word gs spans
word-borders exact part categories opens properties tables word gs spans is found whole begin =
    record {
      glyphs = is;
      found = found;
      apart = part khmer_grammar 0 categories opens gs spans found
          (subst SharesInGraphemes (sym is) (shares exact properties tables word))
          (letters-begin categories gs begin) (whole-open spans gs whole);
    }
