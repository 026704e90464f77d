-- Clusters that rise, or fall, still do.
use Rattle.std.proofs.Common.{◌≡◌, ◌+◌, ◌-◌, ◌<◌, ◌≤◌, ◌&&◌, ◌||◌, ℕ, zero, suc, Bool, true, false, cond, eqb, nat_lt, nat_le, List, [], ◌∷◌, ◌++◌, length, map, take, drop, get_or, Option, None, Some, refl, sym, ap, ◌∙◌, subst, arith}
use Rattle.std.specs.List.{AllByRecursion, flat_map, fold, range_with_len, slice_rotate_right}
use Rattle.std.specs.Option.{option_map_or}
use Rattle.std.proofs.lemmas.Bool.Decides.{nat_tests}
use Rattle.std.proofs.lemmas.List.{get_or_default, length-map, map-append}
use Rattle.std.proofs.lemmas.List.Elements.{All-from_get_or}
use Rattle.shapers_base.specs.declared.font.GlyphId.{GlyphId}
use Rattle.shapers_buffer.specs.Glyphs.{Glyph, Glyphs}
use Rattle.shapers_buffer.specs.declared.buffer.level.BufferClusterLevel.{BufferClusterLevel}
use Rattle.shapers_buffer.specs.Clusters.{least, merge, merges, stretch_of, with_stretch}
use Rattle.shapers_buffer.specs.Glyph.{clusters, default_glyph}
use Rattle.shapers_buffer.specs.GlyphFlags.{unsafe_inside}
use Rattle.shapers_buffer.proofs.ClusterLemmas.{get_or-stretch, length-stretch, map-stretch, three_parts}
use Rattle.shapers_buffer.proofs.MappedLists.{all-flat_map, all-range}
use Rattle.shapers_clusters.specs.Cuts.{IsMonotone}
use Rattle.shapers_clusters.proofs.Halves.{Each, each-append, each-drop, each-take}
use Rattle.shapers_clusters.proofs.Merging.{length-merge}
use Rattle.shapers_clusters.proofs.Proved.{exact_cuts_hold, merge_holds}
use Rattle.shapers_normal.specs.Context.{Context}
use Rattle.shapers_normal.specs.Decomposition.{apart_way, becomes, cluster_becomes, first_round, image, mark_clusters, text_decomposed}
use Rattle.shapers_normal.specs.Laws.{OrdersAlone, OrdersMonotone, NormalizesMonotone}
use Rattle.shapers_normal.specs.Normalization.{composes, has_rounds, joiners_shown, later_rounds, passes_over, shown_behind, unseen}
use Rattle.shapers_normal.specs.Properties.{as_character, numbered_as}
use Rattle.shapers_normal.specs.Recomposition.{StarterWalk, composition, left_as_is, next_glyph, recomposed, taken_in, walk_over}
use Rattle.shapers_normal.specs.Sorting.{brought_before, class_of, classes, is_mark_glyph, mark_sequences, marks_ordered, passed_marks, sequence_ordered, sequence_sorted, sorted_in, stay_together}
use Rattle.shapers_normal.specs.Variants.{cut_before_others, form_written, forms_written, has_variant_at, is_kept_cluster, is_selector_glyph, selecting_nothing, variant_joined, variants_joined, with_first, with_number}
use Rattle.shapers_normal.proofs.Beside.{each_of}
use Rattle.shapers_normal.proofs.DecompositionClusters.{each-became, each-form, each-written}
use Rattle.shapers_normal.proofs.Pairs.{Pairs, clusters-set, each_as, mono_by, pairs-append, pairs-without, pairs_same, pairs_together, together}
use Rattle.shapers_normal.proofs.RecompositionHalves.{Walking, left_over, length-left, walk_start, walking_by, walking_start}
use Rattle.shapers_normal.proofs.Runs.{length-changed, length-turned}
use Rattle.shapers_normal.proofs.SortingHalves.{passed_few, runs_within}

-- as many glyphs, and clusters that rise or fall still do
record Keeps (old new : Glyphs) : Type 0 where
  same_length : length new ≡ length old
  mono : IsMonotone (clusters old) → IsMonotone (clusters new)

nothing : (gs : Glyphs) → Keeps gs gs
nothing gs = record { same_length = refl; mono = λ m. m }

then : (a b c : Glyphs) → Keeps a b → Keeps b c → Keeps a c
then a b c one two = record { same_length = two.same_length ∙ one.same_length; mono = λ m. two.mono (one.mono m) }

folded : {X : Type 0} (n : ℕ) (Q : X → Type 0) (f : Glyphs → X → Glyphs)
    → ((gs : Glyphs) (x : X) → n ≤ length gs → Q x → Keeps gs (f gs x))
    → (gs : Glyphs) (xs : List X) → n ≤ length gs → AllByRecursion Q xs → Keeps gs (fold f gs xs)
folded n Q f each gs [] long all = nothing gs
folded n Q f each gs (x ∷ xs) long all =
    let one = each gs x long all.0 in
    then gs (f gs x) (fold f (f gs x) xs) one (folded n Q f each (f gs x) xs (omega (arith, one.same_length)) all.1)

chosen : (b : Bool) (gs new : Glyphs) → (b ≡ true → Keeps gs new) → Keeps gs (cond b new gs)
chosen true gs new h = h refl
chosen false gs new h = nothing gs

merge_keeps : (level : BufferClusterLevel) (s e : ℕ) (gs : Glyphs) → merges level ≡ true → e ≤ length gs
    → Keeps gs (merge level s e gs)
merge_keeps level s e gs m within = record {
  same_length = length-merge level s e gs within;
  mono = λ rises. (exact_cuts_hold level ((s, e) ∷ []) gs m (within, tt) rises).1;
}

as_merge : (level : BufferClusterLevel) (s e : ℕ) (gs : Glyphs) → merges level ≡ true
    → stay_together level s e gs ≡ merge level s e gs
as_merge level s e gs m = ap (λ b. cond b (merge level s e gs) (unsafe_inside s e gs)) m

-- ---- the first round

variant_keeps : (context : Context) (level : BufferClusterLevel) (gs : Glyphs) (i : ℕ)
    → merges level ≡ true → i + 1 < length gs → Keeps gs (variant_joined context level gs i)
variant_keeps context level gs i m within =
    chosen (has_variant_at context gs i) gs (stay_together level i (i + 2) gs)
    (λ yes. subst (Keeps gs) (sym (as_merge level i (i + 2) gs m)) (merge_keeps level i (i + 2) gs m (omega arith)))

variants_keep : (context : Context) (level : BufferClusterLevel) (gs : Glyphs) → merges level ≡ true
    → Keeps gs (variants_joined context level gs)
variants_keep context level gs m =
    folded (length gs) (λ i. i + 1 < length gs) (λ gs i. variant_joined context level gs i)
    (λ xs i long q. variant_keeps context level xs i m (omega arith)) gs (range_with_len 0 (length gs - 1))
    (omega arith)
    (all-range (λ i. i + 1 < length gs) 0 (length gs - 1) (λ i low high. omega arith))

together_first : (follows : Glyph → Bool) (g : Glyph) (groups : List Glyphs)
    → together (with_first follows g groups) ≡ g ∷ together groups
together_first follows g [] = refl
together_first follows g ([] ∷ groups) = refl
together_first follows g ((h ∷ group) ∷ groups) =
    elim (follows h) as (λ b. together (cond b ((g ∷ h ∷ group) ∷ groups) ((g ∷ []) ∷ (h ∷ group) ∷ groups))
    ≡ g ∷ together ((h ∷ group) ∷ groups)) [ true ↦ refl | false ↦ refl ]

pub together_cut : (follows : Glyph → Bool) (gs : Glyphs)
    → together (cut_before_others follows gs) ≡ gs
together_cut follows [] = refl
together_cut follows (g ∷ gs) = together_first follows g (cut_before_others follows gs)
    ∙ ap (λ xs. g ∷ xs) (together_cut follows gs)

number_cluster : (g : Glyph) (o : Option GlyphId)
    → (option_map_or (λ (glyph : GlyphId). numbered_as glyph.0 g) o g).cluster ≡ g.cluster
number_cluster g None = refl
number_cluster g (Some glyph) = refl

clusters-numbered : (context : Context) (gs : Glyphs) → clusters (map (with_number context) gs)
    ≡ clusters gs
clusters-numbered context [] = refl
clusters-numbered context (g ∷ gs) =
    ap (λ k. k ∷ clusters (map (with_number context) gs)) (number_cluster g (context.nominal g.glyph_id))
    ∙ ap (λ ks. g.cluster ∷ ks) (clusters-numbered context gs)

form_pairs_by : (R : ℕ → ℕ → Type 0) (context : Context) (g selector : Glyph) (more : Glyphs)
    (o : Option GlyphId) → Pairs R (g ∷ (selector ∷ more))
    → Pairs R (option_map_or (λ (variant : GlyphId). numbered_as variant.0 g ∷ map (with_number context) more) o
    (with_number context g ∷ with_number context (selecting_nothing context selector) ∷ map (with_number context) more))
form_pairs_by R context g selector more None p =
    pairs_same R (g ∷ (selector ∷ more))
    (with_number context g ∷ with_number context (selecting_nothing context selector)
    ∷ map (with_number context) more)
    (ap (λ k. k ∷ (with_number context (selecting_nothing context selector)).cluster
    ∷ clusters (map (with_number context) more)) (number_cluster g (context.nominal g.glyph_id))
    ∙ ap (λ k. g.cluster ∷ k ∷ clusters (map (with_number context) more))
    (number_cluster (selecting_nothing context selector) (context.nominal selector.glyph_id))
    ∙ ap (λ ks. g.cluster ∷ selector.cluster ∷ ks) (clusters-numbered context more)) p
form_pairs_by R context g selector more (Some variant) p =
    let one : Pairs R (g ∷ more) = (p.0.1, p.1.1) in
    pairs_same R (g ∷ more) (numbered_as variant.0 g ∷ map (with_number context) more)
    (ap (λ ks. g.cluster ∷ ks) (clusters-numbered context more)) one

form_pairs : (R : ℕ → ℕ → Type 0) (context : Context) (form : Glyphs) → Pairs R form
    → Pairs R (form_written context form)
form_pairs R context [] p = tt
form_pairs R context (g ∷ []) p = (tt, tt)
form_pairs R context (g ∷ (selector ∷ more)) p =
    form_pairs_by R context g selector more (context.variant g.glyph_id selector.glyph_id) p

-- glyphs of one cluster
constant : (R : ℕ → ℕ → Type 0) (m : ℕ) (gs : Glyphs) → R m m → Each (λ k. k ≡ m) gs → Pairs R gs
constant R m [] r p = tt
constant R m (g ∷ gs) r p = (
  each_as (λ k. k ≡ m) (R g.cluster) gs (λ k e. subst (λ a. R a k) (sym p.0) (subst (R m) (sym e) r)) p.1,
  constant R
      m gs r p.1,
)

pairs_apart : (R : ℕ → ℕ → Type 0) → ((k : ℕ) → R k k) → (f : Glyph → Glyphs)
    → ((P : ℕ → Type 0) (g : Glyph) → P g.cluster → Each P (f g)) → (gs : Glyphs) → Pairs R gs
    → Pairs R (flat_map f gs)
pairs_apart R self f keeps [] p = tt
pairs_apart R self f keeps (g ∷ gs) p =
    let m = g.cluster in
    let rest = flat_map f gs in
    let later : Each (R m) rest =
    all-flat_map (λ (h : Glyph). R m h.cluster) (λ (h : Glyph). R m h.cluster) f
    (λ h q. keeps (R m) h q) gs p.0 in
    pairs-append R (f g) rest (constant R m (f g) (self m) (keeps (λ k. k ≡ m) g refl))
    (pairs_apart R self f keeps gs p.1) (keeps (λ k. Each (R k) rest) g later)

cluster_pairs : (R : ℕ → ℕ → Type 0) → ((k : ℕ) → R k k) → (context : Context) (cluster : Glyphs)
    → Pairs R cluster → Pairs R (cluster_becomes context cluster)
cluster_pairs R self context cluster p =
    let way = apart_way context cluster in
    elim (is_kept_cluster cluster) as (λ b. Pairs R
    (cond b (forms_written context cluster) (flat_map (becomes context way) cluster))) [
      | true ↦ pairs_together R (form_written context) (λ P form q. each-form P context form q) (form_pairs R context)
          (cut_before_others is_selector_glyph cluster)
          (subst (Pairs R) (sym (together_cut is_selector_glyph cluster)) p)
      | false ↦ pairs_apart R self (becomes context way)
          (λ P g q. each-written P context g (image context way g.glyph_id) q) cluster p
    ]

text_pairs : (R : ℕ → ℕ → Type 0) → ((k : ℕ) → R k k) → (context : Context) (gs : Glyphs) → Pairs R gs
    → Pairs R (text_decomposed context gs)
text_pairs R self context gs p =
    pairs_together R (cluster_becomes context) (λ P cluster q. each-became P context cluster q)
    (cluster_pairs R self context) (mark_clusters gs) (subst (Pairs R) (sym (together_cut is_mark_glyph gs)) p)

first_mono : (context : Context) (level : BufferClusterLevel) (gs : Glyphs) → merges level ≡ true
    → IsMonotone (clusters gs) → IsMonotone (clusters (first_round context level gs))
first_mono context level gs m rises =
    let joined = variants_joined context level gs in
    mono_by joined (text_decomposed context joined) (λ R self p. text_pairs R self context joined p)
    ((variants_keep context level gs m).mono rises)

-- ---- the second round

same_clusters : (m : ℕ) (gs hs : Glyphs) → length gs ≡ length hs → Each (λ k. k ≡ m) gs
    → Each (λ k. k ≡ m) hs → clusters gs ≡ clusters hs
same_clusters m [] [] long p q = refl
same_clusters m [] (h ∷ hs) long p q = absurd (omega arith)
same_clusters m (g ∷ gs) [] long p q = absurd (omega arith)
same_clusters m (g ∷ gs) (h ∷ hs) long p q = ap (λ k. k ∷ clusters gs) (p.0 ∙ sym q.0)
    ∙ ap (λ ks. h.cluster ∷ ks) (same_clusters m gs hs (omega arith) p.1 q.1)

all_in : (level : BufferClusterLevel) (a b : ℕ) (gs : Glyphs) → merges level ≡ true → 1 < b - a
    → b ≤ length gs → Each (λ k. k ≡ least (clusters (stretch_of a b gs))) (stretch_of a b (merge level a b gs))
all_in level a b gs m two within =
    let ms = merge level a b gs in
    let one = least (clusters (stretch_of a b gs)) in
    let part = stretch_of a b ms in
    let long : length part ≡ b - a = length-stretch a b ms (omega (arith, length-merge level a b gs within)) in
    each_of (λ k. k ≡ one) part (All-from_get_or (λ k. k ≡ one) (clusters part) 0 (λ j inside.
    let few : j < b - a = omega (arith, long, length-map part (λ g. g.cluster)) in
    ap (λ ks. get_or ks j 0) (map-stretch (λ (g : Glyph). g.cluster) a b ms)
    ∙ get_or-stretch a b j 0 (clusters ms) few
    ∙ (merge_holds level a b gs within).inside m two (a + j) (omega arith) (omega arith)))

turned_same : (m a b : ℕ) (ms : Glyphs) → a ≤ b → Each (λ k. k ≡ m) (stretch_of a b ms)
    → clusters (with_stretch a b (λ xs. slice_rotate_right xs 1) ms) ≡ clusters ms
turned_same m a b ms order all =
    let cluster = λ (g : Glyph). g.cluster in
    let part = stretch_of a b ms in
    let turned = slice_rotate_right part 1 in
    let same : clusters turned ≡ clusters part =
    same_clusters m turned part (length-turned part)
    (each-append (λ k. k ≡ m) (drop (length part - 1) part) (take (length part - 1) part)
    (each-drop (λ k. k ≡ m) (length part - 1) part all) (each-take (λ k. k ≡ m) (length part - 1) part all))
    all in
    map-append cluster (take a ms) (turned ++ drop b ms)
    ∙ ap (λ ks. clusters (take a ms) ++ ks) (map-append cluster turned (drop b ms)
    ∙ ap (λ ks. ks ++ clusters (drop b ms)) same ∙ sym (map-append cluster part (drop b ms)))
    ∙ sym (map-append cluster (take a ms) (part ++ drop b ms))
    ∙ ap clusters (three_parts a b ms order)

unless : (b : Bool) (gs new : Glyphs) → (b ≡ false → Keeps gs new) → Keeps gs (cond b gs new)
unless true gs new h = nothing gs
unless false gs new h = h refl

brought_keeps : (level : BufferClusterLevel) (many i : ℕ) (gs : Glyphs) → merges level ≡ true → 0 < many
    → many ≤ i → i < length gs → Keeps gs (brought_before level many i gs)
brought_keeps level many i gs m some few within =
    let a = i - many in
    let b = i + 1 in
    let turn = λ (xs : Glyphs). slice_rotate_right xs 1 in
    let ms = merge level a b gs in
    let one = merge_keeps level a b gs m (omega arith) in
    let last : Keeps ms (with_stretch a b turn ms) = record {
      same_length =
          length-changed a b turn ms (omega arith) (omega (arith, one.same_length)) (length-turned (stretch_of a b ms)
          ∙ length-stretch a b ms (omega (arith, one.same_length)));
      mono = λ rises. subst IsMonotone
          (sym (turned_same (least (clusters (stretch_of a b gs))) a b ms (omega arith)
          (all_in level a b gs m (omega arith) (omega arith)))) rises;
    } in
    subst (λ xs. Keeps gs (with_stretch a b turn xs)) (sym (as_merge level a b gs m))
    (then gs ms (with_stretch a b turn ms) one last)

sorted_keeps : (level : BufferClusterLevel) (s i : ℕ) (gs : Glyphs) → merges level ≡ true → s ≤ i
    → i < length gs → Keeps gs (sorted_in level s i gs)
sorted_keeps level s i gs m order within =
    let many = passed_marks s i gs in
    unless (eqb many 0) gs (brought_before level many i gs) (λ no.
    let some : 0 < many = grind (arith, nat_tests) in
    brought_keeps level many i gs m some (omega (arith, passed_few s i gs (omega arith))) within)

run_keeps : (level : BufferClusterLevel) (s e : ℕ) (gs : Glyphs) → merges level ≡ true → e ≤ length gs
    → Keeps gs (sequence_sorted level s e gs)
run_keeps level s e gs m within =
    folded e (λ i. (s ≤ i) × (i < e)) (λ gs i. sorted_in level s i gs)
    (λ xs i long q. sorted_keeps level s i xs m q.0 (omega arith)) gs (range_with_len (s + 1) (e - (s + 1))) within
    (all-range (λ i. (s ≤ i) × (i < e)) (s + 1) (e - (s + 1)) (λ i low high. (omega arith, omega arith)))

ordered_keeps : (context : Context) → OrdersAlone context → OrdersMonotone context
    → (level : BufferClusterLevel) (gs : Glyphs) (run : ℕ × ℕ) → merges level ≡ true → run.1 ≤ length gs
    → Keeps gs (sequence_ordered context level run gs)
ordered_keeps context o om level gs run m within =
    let s = run.0 in
    let e = run.1 in
    let sorted = sequence_sorted level s e gs in
    let one = run_keeps level s e gs m within in
    chosen (nat_lt s e && nat_le (e - s) 32) gs (context.reordered level s e sorted) (λ yes.
    let some : s < e = grind (arith, nat_tests) in
    let inside : e ≤ length sorted = omega (arith, one.same_length) in
    then gs sorted (context.reordered level s e sorted) one
    (record {
      same_length = o.same_length level s e sorted some inside;
      mono = λ rises. om level s e sorted m some
          inside rises;
    }))

marks_keep : (context : Context) → OrdersAlone context → OrdersMonotone context
    → (level : BufferClusterLevel) (gs : Glyphs) → merges level ≡ true
    → Keeps gs (marks_ordered context level gs)
marks_keep context o om level gs m =
    folded (length gs) (λ run. run.1 ≤ length gs) (λ gs run. sequence_ordered context level run gs)
    (λ xs run long q. ordered_keeps context o om level xs run m (omega arith)) gs (mark_sequences 0 0 (classes gs))
    (omega arith)
    (runs_within 0 0 (length gs) (classes gs) (omega (arith, length-map gs class_of)))

-- ---- grapheme joiners

passed_cluster : (before behind : ℕ) (g : Glyph) → (passes_over before behind g).cluster ≡ g.cluster
passed_cluster before behind g =
    elim (eqb g.glyph_id 0x034F && (eqb behind 0 || nat_le before behind)) as (λ b.
    (cond b (unseen g) g).cluster ≡ g.cluster) [ true ↦ refl | false ↦ refl ]

clusters-shown_behind : (before : ℕ) (gs : Glyphs) → clusters (shown_behind before gs) ≡ clusters gs
clusters-shown_behind before [] = refl
clusters-shown_behind before (g ∷ []) = refl
clusters-shown_behind before (g ∷ (h ∷ gs)) =
    ap (λ k. k ∷ clusters (shown_behind (class_of g) (h ∷ gs))) (passed_cluster before (class_of h) g)
    ∙ ap (λ ks. g.cluster ∷ ks) (clusters-shown_behind (class_of g) (h ∷ gs))

clusters-shown : (gs : Glyphs) → clusters (joiners_shown gs) ≡ clusters gs
clusters-shown [] = refl
clusters-shown (g ∷ gs) = ap (λ ks. g.cluster ∷ ks) (clusters-shown_behind (class_of g) gs)

-- ---- the third round

abbrev Any : ℕ → Type 0
Any k = Unit {0}

any_each : (gs : Glyphs) → Each Any gs
any_each [] = tt
any_each (g ∷ gs) = (tt, any_each gs)

taken_mono : (context : Context) (level : BufferClusterLevel) (drawn : ℕ × GlyphId) (w : StarterWalk)
    → merges level ≡ true → w.starter < w.place → w.place < length w.glyphs → IsMonotone (clusters w.glyphs)
    → IsMonotone (clusters (taken_in context level drawn w).glyphs)
taken_mono context level drawn w m order within rises =
    let ms = merge level w.starter (w.place + 1) w.glyphs in
    let left = left_over level w in
    let old = get_or left w.starter default_glyph in
    let new = as_character context drawn.0 drawn.1.0 old in
    let one : IsMonotone (clusters ms) =
    (merge_keeps level w.starter (w.place + 1) w.glyphs m (omega arith)).mono rises in
    let two : IsMonotone (clusters left) = mono_by ms left (λ R self p. pairs-without R w.place ms p) one in
    let same : old.cluster ≡ (get_or left w.starter new).cluster =
    ap (λ (g : Glyph). g.cluster)
    (get_or_default left w.starter default_glyph new (omega (arith, length-left level w within))) in
    subst IsMonotone (sym (clusters-set w.starter new left same)) two

next_mono : (context : Context) (level : BufferClusterLevel) (w : StarterWalk) (o : Option (ℕ × GlyphId))
    → merges level ≡ true → w.starter < w.place → w.place < length w.glyphs → IsMonotone (clusters w.glyphs)
    → IsMonotone (clusters (option_map_or (λ drawn. taken_in context level drawn w) o (left_as_is w)).glyphs)
next_mono context level w None m order within rises = rises
next_mono context level w (Some drawn) m order within rises = taken_mono context level drawn w m order within rises

walk_mono : (context : Context) (level : BufferClusterLevel) (n : ℕ) (w : StarterWalk) → merges level ≡ true
    → Walking Any n w → IsMonotone (clusters w.glyphs) → IsMonotone (clusters (walk_over context level n w).glyphs)
walk_mono context level zero w m i rises = rises
walk_mono context level (suc n) w m i rises =
    walk_mono context level n (next_glyph context level w) m
    (walking_by Any context level n w (composition context w) i)
    (next_mono context level w (composition context w) m i.starter (omega (arith, i.left)) rises)

recomposed_mono : (context : Context) (level : BufferClusterLevel) (gs : Glyphs) → merges level ≡ true
    → IsMonotone (clusters gs) → IsMonotone (clusters (recomposed context level gs))
recomposed_mono context level [] m rises = rises
recomposed_mono context level (g ∷ gs) m rises =
    let all : length (g ∷ gs) - 1 ≡ length gs = omega arith in
    subst (λ n. IsMonotone (clusters (walk_over context level n (walk_start (g ∷ gs))).glyphs)) (sym all)
    (walk_mono context level (length gs) (walk_start (g ∷ gs)) m (walking_start Any g gs (any_each (g ∷ gs))) rises)

composed_mono : (context : Context) (level : BufferClusterLevel) (composing : Bool) (gs : Glyphs)
    → merges level ≡ true → IsMonotone (clusters gs)
    → IsMonotone (clusters (cond composing (recomposed context level gs) gs))
composed_mono context level true gs m rises = recomposed_mono context level gs m rises
composed_mono context level false gs m rises = rises

later_mono : (context : Context) → OrdersAlone context → OrdersMonotone context
    → (level : BufferClusterLevel) (runs : Bool) (gs : Glyphs) → merges level ≡ true
    → IsMonotone (clusters gs) → IsMonotone (clusters (later_rounds context runs level gs))
later_mono context o om level true gs m rises =
    let ordered = marks_ordered context level gs in
    composed_mono context level (composes context.mode) (joiners_shown ordered) m
    (subst IsMonotone (sym (clusters-shown ordered)) ((marks_keep context o om level gs m).mono rises))
later_mono context o om level false gs m rises = subst IsMonotone (sym (clusters-shown gs)) rises

pub stays_monotone : NormalizesMonotone
stays_monotone context rounds level gs o om m rises =
    later_mono context o om level (has_rounds rounds gs) (first_round context level gs) m
    (first_mono context level gs m rises)
