-- The laws of graphemes.
use Rattle.std.proofs.Common.{◌≡◌, ℕ, zero, suc, ◌+◌, ◌-◌, ◌<◌, ◌≤◌, Bool, true, false, ◌||◌, ◌&&◌, nat_lt, List, [], ◌∷◌, ◌++◌, flat_map, length, drop, get_or, refl, sym, ap, subst, ◌∙◌, arith}
use Rattle.std.proofs.lemmas.Bool.Decides.{nat_tests}
use Rattle.std.proofs.lemmas.Bool.{false≢true}
use Rattle.std.proofs.lemmas.List.{append-nil, drop-drop, get_or-map, length-drop, length-map, take_all, take-append-drop}
use Rattle.shapers_buffer.specs.Glyphs.{Glyph, Glyphs}
use Rattle.shapers_buffer.specs.declared.buffer.level.BufferClusterLevel.TheVariants.{MonotoneGraphemes}
use Rattle.shapers_buffer.specs.Clusters.{stretch_of}
use Rattle.shapers_buffer.specs.Glyph.{clusters, default_glyph}
use Rattle.shapers_buffer.specs.Properties.{is_continuation}
use Rattle.shapers_clusters.specs.Cuts.{EndWithin, ShareCluster, held}
use Rattle.shapers_clusters.proofs.Moves.{clusters-merge_all, held_share}
use Rattle.shapers_clusters.proofs.Proved.{exact_cuts_hold}
use Rattle.shapers_prepare.specs.GraphemeLaws.{FormedCutsAreExact, GraphemesCover, NoGraphemeSplits}
use Rattle.shapers_prepare.specs.Graphemes.{continuations, graphemes, graphemes_from}

-- each grapheme ends within the text
ends_from : (s i n : ℕ) (cs : List Bool) → i + length cs ≤ n → EndWithin n (graphemes_from s i cs)
ends_from s i n [] within = (omega arith, tt)
ends_from s i n (true ∷ cs) within = ends_from s (i + 1) n cs (omega arith)
ends_from s i n (false ∷ cs) within = (omega arith, ends_from i (i + 1) n cs (omega arith))

ends_within : (gs : Glyphs) → EndWithin (length gs) (graphemes gs)
ends_within [] = tt
ends_within (g ∷ gs) =
    ends_from 0 1 (suc (length gs)) (continuations gs)
    (omega (arith, length-map gs (λ (h : Glyph). is_continuation h.unicode_props)))

-- the places between the first one of a grapheme and the one that it has come to
or_right : (a b : Bool) → b ≡ true → (a || b) ≡ true
or_right true b is = refl
or_right false b is = is

or_left : (a b : Bool) → a ≡ true → (a || b) ≡ true
or_left true b is = refl
or_left false b is = absurd (false≢true is)

between : (s p i : ℕ) → s < p → p < i → (nat_lt s p && nat_lt p i) ≡ true
between s p i above below = grind (arith, nat_tests)

open_holds : (s i p : ℕ) (cs : List Bool) → s < p → p < i → held (graphemes_from s i cs) p ≡ true
open_holds s i p [] above below = or_left (nat_lt s p && nat_lt p i) false (between s p i above below)
open_holds s i p (true ∷ cs) above below = open_holds s (i + 1) p cs above (omega arith)
open_holds s i p (false ∷ cs) above below =
    or_left (nat_lt s p && nat_lt p i) (held (graphemes_from i (i + 1) cs) p) (between s p i above below)

-- a glyph that carries on the one before it is held with it
holds_from : (s i k : ℕ) (cs : List Bool) → s < i → get_or cs k false ≡ true → held (graphemes_from s i cs) (i + k)
    ≡ true
holds_from s i k [] order is = absurd (false≢true is)
holds_from s i zero (true ∷ cs) order is = open_holds s (i + 1) (i + 0) cs (omega arith) (omega arith)
holds_from s i zero (false ∷ cs) order is = absurd (false≢true is)
holds_from s i (suc k) (true ∷ cs) order is =
    let there : i + 1 + k ≡ i + suc k = omega arith in
    ap (held (graphemes_from s (i + 1) cs)) (sym there) ∙ holds_from s (i + 1) k cs (omega arith) is
holds_from s i (suc k) (false ∷ cs) order is =
    let there : i + 1 + k ≡ i + suc k = omega arith in
    or_right (nat_lt s (i + suc k) && nat_lt (i + suc k) i) (held (graphemes_from i (i + 1) cs) (i + suc k))
    (ap (held (graphemes_from i (i + 1) cs)) (sym there) ∙ holds_from i (i + 1) k cs (omega arith) is)

holds : (gs : Glyphs) (p : ℕ) → 0 < p → p < length gs
    → is_continuation (get_or gs p default_glyph).unicode_props ≡ true → held (graphemes gs) p ≡ true
holds [] p some inside is = absurd (omega arith)
holds (g ∷ gs) zero some inside is = absurd (omega arith)
holds (g ∷ gs) (suc k) some inside is =
    let there : 1 + k ≡ suc k = omega arith in
    let read : get_or (continuations gs) k false ≡ true =
    get_or-map (λ (h : Glyph). is_continuation h.unicode_props) gs k default_glyph false (omega arith) ∙ is in
    ap (held (graphemes_from 0 1 (continuations gs))) (sym there)
    ∙ holds_from 0 1 k (continuations gs) (omega arith) read

pub no_grapheme_splits : NoGraphemeSplits
no_grapheme_splits gs p some inside is =
    let cs = clusters gs in
    let sts = graphemes gs in
    let n : length cs ≡ length gs = length-map gs (λ (g : Glyph). g.cluster) in
    let ends : EndWithin (length cs) sts = subst (λ n. EndWithin n sts) (sym n) (ends_within gs) in
    subst (λ cs. ShareCluster cs (p - 1) p) (sym (clusters-merge_all MonotoneGraphemes sts gs))
    (held_share MonotoneGraphemes refl sts cs ends (p - 1) p (omega (arith, n)) (omega (arith, n))
    (λ r above below. (let at : p ≡ r = omega (arith, above, below) in subst (λ r. held sts r ≡ true) at
    (holds gs p some inside is))))

pub formed_cuts_are_exact : FormedCutsAreExact
formed_cuts_are_exact gs monotone =
    let law = exact_cuts_hold MonotoneGraphemes (graphemes gs) gs refl (ends_within gs) monotone in
    (law.0, law.1)

-- the graphemes from one place on are the text from there on

cover_from : (gs : Glyphs) (s i : ℕ) (cs : List Bool) → s ≤ i → i + length cs ≡ length gs
    → flat_map (λ st. stretch_of st.0 st.1 gs) (graphemes_from s i cs) ≡ drop s gs
cover_from gs s i [] order end = append-nil (stretch_of s i gs)
    ∙ take_all (i - s) (drop s gs) (omega (arith, length-drop s gs))
cover_from gs s i (true ∷ cs) order end = cover_from gs s (i + 1) cs (omega arith) (omega arith)
cover_from gs s i (false ∷ cs) order end =
    let there : s + (i - s) ≡ i = omega arith in
    ap (λ xs. stretch_of s i gs ++ xs) (cover_from gs i (i + 1) cs (omega arith) (omega arith)
    ∙ ap (λ n. drop n gs) (sym there) ∙ sym (drop-drop (i - s) s gs))
    ∙ take-append-drop (i - s) (drop s gs)

pub graphemes_cover : GraphemesCover
graphemes_cover [] = refl
graphemes_cover (g ∷ gs) =
    cover_from (g ∷ gs) 0 1 (continuations gs) (omega arith)
    (omega (arith, length-map gs (λ (h : Glyph). is_continuation h.unicode_props)))
