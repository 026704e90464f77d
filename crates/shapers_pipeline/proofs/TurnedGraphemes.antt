-- What forming clusters, and turning a text grapheme by grapheme, makes of its clusters.
use Rattle.std.proofs.Common.{◌≡◌, ◌∙◌, ℕ, suc, ◌+◌, ◌-◌, ◌<◌, ◌≤◌, Bool, true, false, List, [], ◌∷◌, ◌++◌, flat_map, length, drop, reverse, get_or, refl, sym, ap, subst, arith, ⊎_elim}
use Rattle.std.specs.List.{All, AllByRecursion, Contains}
use Rattle.std.proofs.lemmas.Bool.{cases_lt, false≢true}
use Rattle.std.proofs.lemmas.Grind.{flat_map-append}
use Rattle.std.proofs.lemmas.List.{append-nil, drop-drop, get_or-drop, get_or-map, length-drop, length-map, length-take, map-append, reverse-append}
use Rattle.std.proofs.lemmas.List.Elements.{All-contains_itself}
use Rattle.shapers_buffer.specs.Glyphs.{Glyph, Glyphs}
use Rattle.shapers_buffer.specs.declared.buffer.level.BufferClusterLevel.{BufferClusterLevel}
use Rattle.shapers_buffer.specs.declared.buffer.level.BufferClusterLevel.TheVariants.{Characters, MonotoneCharacters, MonotoneGraphemes}
use Rattle.shapers_buffer.specs.Clusters.{merge, merge_all, merges, stretch_of}
use Rattle.shapers_buffer.specs.Glyph.{clusters, default_glyph}
use Rattle.shapers_buffer.specs.GlyphFlags.{unsafe_all}
use Rattle.shapers_buffer.specs.Properties.{is_continuation}
use Rattle.shapers_buffer.proofs.ClusterLemmas.{get_or-stretch, map-stretch}
use Rattle.shapers_buffer.proofs.MappedLists.{map-reverse}
use Rattle.shapers_clusters.specs.Cuts.{EndWithin, IsMonotone}
use Rattle.shapers_clusters.proofs.FlagCalls.{map-unsafe_all}
use Rattle.shapers_clusters.proofs.Halves.{Each, each-append, each-drop, each-take}
use Rattle.shapers_clusters.proofs.Merging.{map-merge_all}
use Rattle.shapers_clusters.proofs.Moves.{all-joined, clusters-merge_all}
use Rattle.shapers_clusters.proofs.Proved.{exact_cuts_hold}
use Rattle.shapers_normal.proofs.Beside.{all_of, each_of}
use Rattle.shapers_prepare.specs.GraphemeLaws.{GraphemesCover, NoGraphemeSplits}
use Rattle.shapers_prepare.specs.Graphemes.{clusters_formed, continuations, graphemes, graphemes_from}
use Rattle.shapers_prepare.specs.NativeDirection.{graphemes_reversed, graphemes_whole}
use Rattle.shapers_pipeline.proofs.ClustersKept.{Kept, kept_then, same, turned}
use Rattle.rustybuzz_shapers.proofs.Monotone.{all_from}

-- ---- graphemes as stretches: each ends within the text, and begins before it ends

ends_from : (s i n : ℕ) (cs : List Bool) → i + length cs ≤ n → EndWithin n (graphemes_from s i cs)
ends_from s i n [] within = (omega arith, tt)
ends_from s i n (true ∷ cs) within = ends_from s (i + 1) n cs (omega arith)
ends_from s i n (false ∷ cs) within = (omega arith, ends_from i (i + 1) n cs (omega arith))

pub ends_within : (gs : Glyphs) → EndWithin (length gs) (graphemes gs)
ends_within [] = tt
ends_within (g ∷ gs) = ends_from 0 1 (suc (length gs)) (continuations gs)
    (omega (arith, length-map gs (λ (h : Glyph). is_continuation h.unicode_props)))

rise_from : (s i : ℕ) (cs : List Bool) → s ≤ i → AllByRecursion (λ st. st.0 ≤ st.1) (graphemes_from s i cs)
rise_from s i [] order = (order, tt)
rise_from s i (true ∷ cs) order = rise_from s (i + 1) cs (omega arith)
rise_from s i (false ∷ cs) order = (order, rise_from i (i + 1) cs (omega arith))

rise : (gs : Glyphs) → AllByRecursion (λ st. st.0 ≤ st.1) (graphemes gs)
rise [] = tt
rise (g ∷ gs) = rise_from 0 1 (continuations gs) (omega arith)

-- ---- graphemes_merge, or flagged

graphemes_merge : (level : BufferClusterLevel) (gs : Glyphs) → Kept (merges level) gs
    (merge_all level (graphemes gs) gs)
graphemes_merge level gs =
    let sts = graphemes gs in
    let cs = clusters gs in
    let P : ℕ → Type 0 = Contains cs in
    let within : EndWithin (length cs) sts = subst (λ n. EndWithin n sts)
    (sym (length-map gs (λ (g : Glyph). g.cluster))) (ends_within gs) in
    record {
      none = subst (All P) (sym (clusters-merge_all level sts gs))
          (all-joined P level sts cs within (All-contains_itself cs));
      mono = λ merging rises. (exact_cuts_hold level sts gs merging (ends_within gs) rises).1;
    }

pub flagged_same : (gs : Glyphs) → clusters (unsafe_all (graphemes gs) gs) ≡ clusters gs
flagged_same gs = map-unsafe_all (λ g. g.cluster) (λ g. refl) (graphemes gs) gs (rise gs)

pub clusters_form : (level : BufferClusterLevel) (gs : Glyphs) → Kept (merges level) gs
    (clusters_formed level gs)
clusters_form MonotoneGraphemes gs = graphemes_merge MonotoneGraphemes gs
clusters_form MonotoneCharacters gs = same true gs (unsafe_all (graphemes gs) gs) (flagged_same gs)
clusters_form Characters gs = same false gs (unsafe_all (graphemes gs) gs) (flagged_same gs)

-- both levels that merge do so alike
merged_alike : (sts : List (ℕ × ℕ)) (gs : Glyphs) → merge_all MonotoneCharacters sts gs
    ≡ merge_all MonotoneGraphemes sts gs
merged_alike [] gs = refl
merged_alike (st ∷ sts) gs = merged_alike sts (merge MonotoneCharacters st.0 st.1 gs)

-- ---- one cluster in each grapheme

-- what carries on a grapheme has the cluster of what stands before it
abbrev Whole : Glyphs → Type 0
Whole gs = (p : ℕ) → 0 < p → p < length gs → is_continuation (get_or gs p default_glyph).unicode_props ≡ true →
    get_or (clusters gs) (p - 1) 0 ≡ get_or (clusters gs) p 0

merged_whole : NoGraphemeSplits → (gs : Glyphs) → Whole (merge_all MonotoneGraphemes (graphemes gs) gs)
merged_whole splits gs p some inside is =
    let f : Glyph → Bool = λ g. is_continuation g.unicode_props in
    let text = merge_all MonotoneGraphemes (graphemes gs) gs in
    let alike : continuations text ≡ continuations gs = map-merge_all f (λ g. refl) MonotoneGraphemes
    (graphemes gs) gs in
    let within : p < length gs = omega (arith, inside, ap length alike, length-map text f, length-map gs f) in
    let carries : f (get_or gs p default_glyph) ≡ true =
    sym (get_or-map f gs p default_glyph false within) ∙ ap (λ l. get_or l p false) (sym alike)
    ∙ get_or-map f text p default_glyph false inside ∙ is in
    sym (splits gs p some within carries p (omega arith) (omega arith))

-- the places from s to i have the cluster of place s
abbrev OneFrom : List ℕ → ℕ → ℕ → Type 0
OneFrom cs s i = (j : ℕ) → s ≤ j → j < i → get_or cs j 0 ≡ get_or cs s 0

one_goes_on : (gs : Glyphs) → Whole gs → (s i : ℕ) (cs : List Bool) → s < i → drop i (continuations gs)
    ≡ true ∷ cs → OneFrom (clusters gs) s i → OneFrom (clusters gs) s (i + 1)
one_goes_on gs whole s i cs order rest one j low high =
    let f : Glyph → Bool = λ g. is_continuation g.unicode_props in
    let within : i < length gs = omega (arith, ap length rest, length-drop i (continuations gs), length-map gs f) in
    let none : i + 0 ≡ i = omega arith in
    let read : get_or (continuations gs) i false ≡ true = ap (λ n. get_or (continuations gs) n false) (sym none) ∙ sym
    (get_or-drop i (continuations gs) 0 false) ∙ ap (λ l. get_or l 0 false) rest in
    let carries : f (get_or gs i default_glyph) ≡ true = sym (get_or-map f gs i default_glyph false within) ∙ read in
    ⊎_elim (λ (before : j < i). one j low before)
    (λ (at : i ≤ j). (let here : j ≡ i = omega (arith, at, high) in
    ap (λ n. get_or (clusters gs) n 0) here ∙ sym (whole i (omega (arith, order)) within carries) ∙ one (i - 1)
    (omega (arith, order)) (omega (arith, order))))
    (cases_lt j i)

ones_from : (gs : Glyphs) → Whole gs → (s i : ℕ) (cs : List Bool) → s < i → drop i (continuations gs)
    ≡ cs → OneFrom (clusters gs) s i → AllByRecursion (λ st. OneFrom (clusters gs) st.0 st.1) (graphemes_from s i cs)
ones_from gs whole s i [] order rest one = (one, tt)
ones_from gs whole s i (true ∷ cs) order rest one =
    ones_from gs whole s (i + 1) cs (omega arith) (sym (drop-drop 1 i (continuations gs)) ∙ ap (drop 1) rest)
    (one_goes_on gs whole s i cs order rest one)
ones_from gs whole s i (false ∷ cs) order rest one = (
  one,
  ones_from gs whole i (i + 1) cs (omega arith) (sym (drop-drop 1 i (continuations gs)) ∙ ap (drop 1) rest)
      (λ j low high. (let here : j ≡ i = omega (arith, low, high) in ap (λ n. get_or (clusters gs) n 0) here)),
)

ones : (gs : Glyphs) → Whole gs → AllByRecursion (λ st. OneFrom (clusters gs) st.0 st.1) (graphemes gs)
ones [] whole = tt
ones (g ∷ gs) whole = ones_from (g ∷ gs) whole 0 1 (continuations gs) (omega arith) refl
    (λ j low high. (let here : j ≡ 0 = omega (arith, high) in ap (λ n. get_or (clusters (g ∷ gs)) n 0) here))

-- ---- and so a list of one number, turned round, is itself

pushed : (m : ℕ) (ks : List ℕ) → AllByRecursion (λ k. k ≡ m) ks → ks ++ m ∷ [] ≡ m ∷ ks
pushed m [] own = refl
pushed m (k ∷ ks) own = ap (λ l. k ∷ l) (pushed m ks own.1) ∙ ap (λ j. j ∷ m ∷ ks) own.0 ∙ ap (λ j. m ∷ j ∷ ks)
    (sym own.0)

reversed_one : (m : ℕ) (ks : List ℕ) → AllByRecursion (λ k. k ≡ m) ks → reverse ks ≡ ks
reversed_one m [] own = refl
reversed_one m (k ∷ ks) own =
    reverse-append (k ∷ []) ks ∙ ap (λ l. l ++ k ∷ []) (reversed_one m ks own.1) ∙ ap (λ j. ks ++ j ∷ []) own.0
    ∙ pushed m ks own.1 ∙ ap (λ j. j ∷ ks) (sym own.0)

part_reversed : (gs : Glyphs) (st : ℕ × ℕ) → OneFrom (clusters gs) st.0 st.1 → reverse
    (clusters (stretch_of st.0 st.1 gs)) ≡ clusters (stretch_of st.0 st.1 gs)
part_reversed gs st one =
    let s = st.0 in
    let e = st.1 in
    let cs = clusters gs in
    let part = stretch_of s e cs in
    let is : clusters (stretch_of s e gs) ≡ part = map-stretch (λ g. g.cluster) s e gs in
    let short : length part ≤ e - s = omega (arith, length-take (e - s) (drop s cs)) in
    let all : AllByRecursion (λ k. k ≡ get_or cs s 0) part =
    all_from (λ k. k ≡ get_or cs s 0) part (λ j lt. get_or-stretch s e j 0 cs (omega (arith, lt, short)) ∙ one (s + j)
    (omega arith) (omega (arith, lt, short))) in
    subst (λ ks. reverse ks ≡ ks) (sym is) (reversed_one (get_or cs s 0) part all)

parts_reversed : (gs : Glyphs) (sts : List (ℕ × ℕ)) → AllByRecursion
    (λ st. OneFrom (clusters gs) st.0 st.1) sts → AllByRecursion
    (λ st. reverse (clusters (stretch_of st.0 st.1 gs)) ≡ clusters (stretch_of st.0 st.1 gs)) sts
parts_reversed gs [] own = tt
parts_reversed gs (st ∷ sts) own = (part_reversed gs st own.0, parts_reversed gs sts own.1)

turned_parts : (f : ℕ × ℕ → Glyphs) (sts : List (ℕ × ℕ)) → AllByRecursion
    (λ st. reverse (clusters (f st)) ≡ clusters (f st)) sts → clusters (flat_map f (reverse sts)) ≡ reverse
    (clusters (flat_map f sts))
turned_parts f [] own = refl
turned_parts f (st ∷ sts) own =
    let c : Glyph → ℕ = λ g. g.cluster in
    let last : flat_map f (reverse (st ∷ sts)) ≡ flat_map f (reverse sts) ++ f st =
    ap (flat_map f) (reverse-append (st ∷ []) sts) ∙ flat_map-append f (reverse sts) (st ∷ []) ∙ ap
    (λ xs. flat_map f (reverse sts) ++ xs) (append-nil (f st)) in
    ap clusters last ∙ map-append c (flat_map f (reverse sts)) (f st) ∙ ap (λ ks. ks ++ clusters (f st))
    (turned_parts f sts own.1)
    ∙ ap (λ ks. reverse (clusters (flat_map f sts)) ++ ks) (sym own.0) ∙ sym
    (reverse-append (clusters (f st)) (clusters (flat_map f sts)))
    ∙ ap reverse (sym (map-append c (f st) (flat_map f sts)))

-- ---- turned grapheme by grapheme

turned_whole : GraphemesCover → (gs : Glyphs) → Whole gs → clusters (graphemes_reversed gs) ≡ clusters
    (reverse gs)
turned_whole cover gs whole =
    turned_parts (λ st. stretch_of st.0 st.1 gs) (graphemes gs) (parts_reversed gs (graphemes gs) (ones gs whole))
    ∙ ap (λ xs. reverse (clusters xs)) (cover gs) ∙ sym (map-reverse (λ g. g.cluster) gs)

each-parts : (P : ℕ → Type 0) (gs : Glyphs) → Each P gs → (sts : List (ℕ × ℕ)) → Each P
    (flat_map (λ st. stretch_of st.0 st.1 gs) sts)
each-parts P gs own [] = tt
each-parts P gs own (st ∷ sts) =
    each-append P (stretch_of st.0 st.1 gs) (flat_map (λ st. stretch_of st.0 st.1 gs) sts)
    (each-take P (st.1 - st.0) (drop st.0 gs) (each-drop P st.0 gs own)) (each-parts P gs own sts)

turned_kept : GraphemesCover → (m : Bool) (gs : Glyphs) → (m ≡ true → Whole gs) → Kept m gs
    (graphemes_reversed gs)
turned_kept cover m gs whole =
    let P : ℕ → Type 0 = Contains (clusters gs) in
    record {
      none = all_of P (graphemes_reversed gs) (each-parts P gs (each_of P gs (All-contains_itself (clusters gs)))
          (reverse (graphemes gs)));
      mono = λ merging rises. subst IsMonotone (sym (turned_whole cover gs (whole merging)))
          ((turned m gs).mono merging rises);
    }

-- the text in the other direction
pub in_other_direction : GraphemesCover → NoGraphemeSplits → (level : BufferClusterLevel) (gs : Glyphs) →
    Kept (merges level) gs (graphemes_reversed (graphemes_whole level (clusters_formed level gs)))
in_other_direction cover splits MonotoneGraphemes gs =
    let text = merge_all MonotoneGraphemes (graphemes gs) gs in
    kept_then true gs text (graphemes_reversed text) (graphemes_merge MonotoneGraphemes gs)
    (turned_kept cover true text (λ _. merged_whole splits gs))
in_other_direction cover splits MonotoneCharacters gs =
    let flags = unsafe_all (graphemes gs) gs in
    let text = merge_all MonotoneCharacters (graphemes flags) flags in
    kept_then true gs text (graphemes_reversed text)
    (kept_then true gs flags text (clusters_form MonotoneCharacters gs) (graphemes_merge MonotoneCharacters flags))
    (turned_kept cover true text (λ _. subst Whole (sym (merged_alike (graphemes flags) flags))
    (merged_whole splits flags)))
in_other_direction cover splits Characters gs =
    let flags = unsafe_all (graphemes gs) gs in
    kept_then false gs flags (graphemes_reversed flags) (clusters_form Characters gs)
    (turned_kept cover false flags (λ never. absurd (false≢true never)))
