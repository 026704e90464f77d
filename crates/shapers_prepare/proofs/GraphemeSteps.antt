-- Graphemes, place after place.
use Rattle.std.proofs.Common.{◌≡◌, ℕ, suc, ◌+◌, ◌<◌, ◌≤◌, Bool, true, false, [], ◌∷◌, length, map, drop, get_or, refl, sym, ap, ◌∙◌, arith, drop-cons}
use Rattle.std.proofs.lemmas.List.{drop_all, get_or-map, length-map}
use Rattle.shapers_buffer.specs.declared.buffer.cluster_ranges.ClusterRange.{ClusterRange}
use Rattle.shapers_buffer.specs.Glyphs.{Glyph, Glyphs}
use Rattle.shapers_buffer.specs.declared.buffer.level.BufferClusterLevel.{BufferClusterLevel}
use Rattle.shapers_buffer.specs.ClusterRanges.{with_range}
use Rattle.shapers_buffer.specs.Clusters.{merge}
use Rattle.shapers_buffer.specs.Glyph.{default_glyph}
use Rattle.shapers_buffer.specs.GlyphFlags.{unsafe_inside}
use Rattle.shapers_buffer.specs.Properties.{is_continuation}
use Rattle.shapers_clusters.proofs.Merging.{map-merge_all, map-with_range}
use Rattle.shapers_clusters.proofs.FlagCalls.{map-unsafe_inside}
use Rattle.shapers_prepare.specs.Graphemes.{continuations, graphemes, graphemes_from}

-- the graphemes from a place on, by whether its glyph carries on the one before it
next_by : (b : Bool) (s i : ℕ) (now all : Glyphs) → i < length now → continuations now ≡ continuations all
    → is_continuation (get_or now i default_glyph).unicode_props ≡ b → graphemes_from s i (drop i (continuations all))
    ≡ graphemes_from s i (b ∷ drop (i + 1) (continuations all))
next_by b s i now all inside same is =
    let cs = continuations all in
    let next : suc i ≡ i + 1 = omega arith in
    let within : i < length cs =
    omega (arith, ap length same, length-map now (λ (g : Glyph). is_continuation g.unicode_props)) in
    let here : get_or cs i false ≡ b = ap (λ cs. get_or cs i false) (sym same)
    ∙ get_or-map (λ (g : Glyph). is_continuation g.unicode_props) now i default_glyph false inside ∙ is in
    ap (graphemes_from s i) (drop-cons cs i false within) ∙ ap (λ b. graphemes_from s i (b ∷ drop (suc i) cs)) here
    ∙ ap (λ n. graphemes_from s i (b ∷ drop n cs)) next

pub grapheme_goes_on : (s i : ℕ) (now all : Glyphs) → i < length now
    → continuations now ≡ continuations all → is_continuation (get_or now i default_glyph).unicode_props ≡ true
    → graphemes_from s i (drop i (continuations all)) ≡ graphemes_from s (i + 1) (drop (i + 1) (continuations all))
grapheme_goes_on s i now all inside same is = next_by true s i now all inside same is

pub grapheme_ends : (s i : ℕ) (now all : Glyphs) → i < length now → continuations now ≡ continuations all
    → is_continuation (get_or now i default_glyph).unicode_props ≡ false
    → graphemes_from s i (drop i (continuations all))
    ≡ (s, i) ∷ graphemes_from i (i + 1) (drop (i + 1) (continuations all))
grapheme_ends s i now all inside same is = next_by false s i now all inside same is

-- behind the last place, the last grapheme is left
pub last_grapheme : (s i : ℕ) (now all : Glyphs) → length now ≤ i → continuations now ≡ continuations all
    → graphemes_from s i (drop i (continuations all)) ≡ (s, i) ∷ []
last_grapheme s i now all met same =
    let f : Glyph → Bool = λ g. is_continuation g.unicode_props in
    ap (graphemes_from s i) (drop_all i (continuations all) (omega (arith, ap length same, length-map now f, met)))

-- merges and flags keep what carries on a grapheme
pub continuations-merged : (level : BufferClusterLevel) (s e : ℕ) (pending next : ClusterRange)
    (now new : Glyphs) → pending.start ≤ pending.end → next.start ≤ next.end
    → with_range next new ≡ merge level s e (with_range pending now) → continuations new ≡ continuations now
continuations-merged level s e pending next now new fits fits_next is =
    let f : Glyph → Bool = λ g. is_continuation g.unicode_props in
    sym (map-with_range f (λ g. refl) next new fits_next)
    ∙ ap (map f) is
    ∙ map-merge_all f (λ g. refl) level ((s, e) ∷ []) (with_range pending now)
    ∙ map-with_range f (λ g. refl) pending now fits

pub continuations-flagged : (s e : ℕ) (gs : Glyphs) → s ≤ e → continuations (unsafe_inside s e gs)
    ≡ continuations gs
continuations-flagged s e gs h = map-unsafe_inside (λ g. is_continuation g.unicode_props) (λ g. refl) s e gs h

-- the graphemes of a text that has a glyph
pub graphemes_start : (gs : Glyphs) → 0 < length gs → graphemes_from 0 1 (drop 1 (continuations gs))
    ≡ graphemes gs
graphemes_start [] some = absurd (omega arith)
graphemes_start (g ∷ gs) some = refl
