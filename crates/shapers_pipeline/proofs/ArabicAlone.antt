-- Arabic's order of marks leaves glyphs beside them alone.
use Rattle.std.proofs.Common.{◌≡◌, ◌+◌, ◌-◌, ◌<◌, ◌≤◌, ℕ, List, [], ◌∷◌, ◌++◌, length, map, take, drop, refl, sym, ap, ◌∙◌, subst, arith}
use Rattle.std.specs.List.{All, Contains, prefix_len}
use Rattle.std.proofs.lemmas.List.{drop-map, length-append, length-map, length-take-le, take-append-le, take-take}
use Rattle.shapers_buffer.specs.Glyphs.{Glyphs}
use Rattle.shapers_buffer.specs.declared.buffer.level.BufferClusterLevel.{BufferClusterLevel}
use Rattle.shapers_buffer.specs.declared.buffer.modified_combining_class.TheConstants.{CCC22, CCC26}
use Rattle.shapers_buffer.specs.Clusters.{merge, merge_all, stretch_of, with_stretch}
use Rattle.shapers_buffer.specs.Glyph.{clusters, order_view, plain}
use Rattle.shapers_buffer.proofs.ClusterLemmas.{length-stretch}
use Rattle.shapers_clusters.specs.Cuts.{EndWithin}
use Rattle.shapers_clusters.specs.Steps.{shifted}
use Rattle.shapers_clusters.proofs.Halves.{Each, each-append, each-drop, each-take}
use Rattle.shapers_arabic.specs.Marks.{Marks, arabic_mark_step, behind, has_lower_class, in_class, is_modifier_of, marks_merged, marks_reordered, split_marks, text_step, with_modifiers_first}
use Rattle.shapers_arabic.proofs.MarkLaws.{mark_laws, marks_view}
use Rattle.shapers_arabic.proofs.MarkLists.{joined_parts, split-joined}
use Rattle.shapers_arabic.proofs.MarkMoves.{moves-merged}
use Rattle.shapers_clusters.proofs.Merging.{map-merge_all}
use Rattle.shapers_normal.specs.Sorting.{class_of, classes}
use Rattle.shapers_normal.proofs.Runs.{drop-changed}
use Rattle.shapers_normal.proofs.Beside.{Local, Not, local_as, local_merge, local_nothing, local_stretch, local_then, within_part}

each-classed : (P : ℕ → Type 0) (class : ℕ) (gs : Glyphs) → Each P gs → Each P (map (in_class class) gs)
each-classed P class [] p = tt
each-classed P class (g ∷ gs) p = (p.0, each-classed P class gs p.1)

abbrev moved : Glyphs → Glyphs
moved gs = with_modifiers_first (split_marks gs)

each-moved : (P : ℕ → Type 0) (gs : Glyphs) → Each P gs → Each P (moved gs)
each-moved P gs p =
    let s = split_marks gs in
    let second = behind (has_lower_class 220) gs in
    let p2 : Each P second = each-drop P (prefix_len (has_lower_class 220) gs) gs p in
    let third = behind (is_modifier_of 220) second in
    let p3 : Each P third = each-drop P (prefix_len (is_modifier_of 220) second) second p2 in
    let fourth = behind (has_lower_class 230) third in
    let p4 : Each P fourth = each-drop P (prefix_len (has_lower_class 230) third) third p3 in
    let low : Each P s.low = each-take P (prefix_len (has_lower_class 220) gs) gs p in
    let below : Each P s.modifiers_below = each-take P (prefix_len (is_modifier_of 220) second) second p2 in
    let middle : Each P s.middle = each-take P (prefix_len (has_lower_class 230) third) third p3 in
    let above : Each P s.modifiers_above = each-take P (prefix_len (is_modifier_of 230) fourth) fourth p4 in
    let rest : Each P s.rest = each-drop P (prefix_len (is_modifier_of 230) fourth) fourth p4 in
    each-append P (map (in_class CCC22) s.modifiers_below) (map (in_class CCC26) s.modifiers_above
    ++ (s.low ++ (s.middle ++ s.rest))) (each-classed P CCC22 s.modifiers_below below)
    (each-append P (map (in_class CCC26) s.modifiers_above) (s.low ++ (s.middle ++ s.rest))
    (each-classed P CCC26 s.modifiers_above above)
    (each-append P s.low (s.middle ++ s.rest) low (each-append P s.middle s.rest middle rest)))

pub sum_joined : (s : Marks) → length (joined_parts s) ≡ length s.low + length s.modifiers_below + length s.middle
    + length s.modifiers_above + length s.rest
sum_joined s =
    omega (
      arith,
      length-append s.low (s.modifiers_below ++ (s.middle ++ (s.modifiers_above ++ s.rest))),
      length-append
          s.modifiers_below (s.middle ++ (s.modifiers_above ++ s.rest)),
      length-append s.middle
          (s.modifiers_above ++ s.rest),
      length-append s.modifiers_above s.rest,
    )

length-moved : (gs : Glyphs) → length (moved gs) ≡ length gs
length-moved gs =
    let s = split_marks gs in
    let below = map (in_class CCC22) s.modifiers_below in
    let above = map (in_class CCC26) s.modifiers_above in
    omega (
      arith,
      length-append below (above ++ (s.low ++ (s.middle ++ s.rest))),
      length-append above
          (s.low ++ (s.middle ++ s.rest)),
      length-append s.low (s.middle ++ s.rest),
      length-append s.middle s.rest,
      length-map s.modifiers_below (in_class CCC22),
      length-map s.modifiers_above (in_class CCC26),
      sum_joined s,
      ap
          length (split-joined gs),
    )

-- what merges of these marks
abbrev merged_of : Glyphs → List (ℕ × ℕ)
merged_of marks = (arabic_mark_step (split_marks marks)).merged_first

merged_within : (marks : Glyphs) → EndWithin (length marks) (merged_of marks)
merged_within marks =
    let s = split_marks marks in
    let all : length s.low + length s.modifiers_below + length s.middle + length s.modifiers_above + length s.rest
    ≡ length marks = sym (sum_joined s) ∙ ap length (split-joined marks) in
    subst (λ n. EndWithin n (merged_of marks)) all
    (moves-merged (length s.low) (length s.modifiers_below) (length s.middle) (length s.modifiers_above)
    (length s.rest)).fits.first_within

merges_alone : (P : ℕ → Type 0) (level : BufferClusterLevel) (s m n : ℕ) (sts : List (ℕ × ℕ)) → s + m ≤ n
    → EndWithin m sts → Local n P (merge_all level (shifted s sts)) (λ k. merge_all level (shifted (k + s) sts))
merges_alone P level s m n [] room all = local_nothing n P
merges_alone P level s m n (st ∷ sts) room all =
    local_then n P (merge level (s + st.0) (s + st.1)) (merge_all level (shifted s sts))
    (λ k. merge level (k + s + st.0) (k + s + st.1)) (λ k. merge_all level (shifted (k + s) sts))
    (local_as n P (merge level (s + st.0) (s + st.1)) (λ k. merge level (k + (s + st.0)) (k + (s + st.1)))
    (λ k. merge level (k + s + st.0) (k + s + st.1))
    (local_merge P level (s + st.0) (s + st.1) n (omega (arith, all.0)))
    (λ k gs.
    let start : k + s + st.0 ≡ k + (s + st.0) = omega arith in
    let end : k + s + st.1 ≡ k + (s + st.1) = omega arith in
    ap (λ a. merge level a (k + s + st.1) gs) start ∙ ap (λ b. merge level (k + (s + st.0)) b gs) end))
    (merges_alone P level s m n sts room all.1)

pub arabic_alone : (P : ℕ → Type 0) (level : BufferClusterLevel) (s e : ℕ) (before gs rest : Glyphs)
    → s < e → e ≤ length gs → Each P gs → Each (Not P) before → Each (Not P) rest →
    marks_reordered (length before + s) (length before + e)
    (marks_merged level (length before + s) (length before + e) (before ++ (gs ++ rest)))
    ≡ before ++ (marks_reordered s e (marks_merged level s e gs) ++ rest)
arabic_alone P level s e before gs rest some within p x y =
    let k = length before in
    let n = length gs in
    let whole = before ++ (gs ++ rest) in
    let marks = stretch_of s e gs in
    let sts = merged_of marks in
    let ends : EndWithin (e - s) sts =
    subst (λ m. EndWithin m sts) (length-stretch s e gs within) (merged_within marks) in
    let both = local_then n P (merge_all level (shifted s sts)) (with_stretch s e moved)
    (λ k. merge_all level (shifted (k + s) sts)) (λ k. with_stretch (k + s) (k + e) moved)
    (merges_alone P level s (e - s) n sts (omega arith) ends)
    (local_stretch P s e n moved (omega arith) within length-moved (each-moved P)) in
    ap (λ ms. with_stretch (k + s) (k + e) moved (merge_all level (shifted (k + s) (merged_of ms)) whole))
    (within_part s e before gs rest (omega arith) within)
    ∙ both.alone before gs rest (omega arith) p x y

pub arabic_in_front : (level : BufferClusterLevel) (s e : ℕ) (gs : Glyphs) → s < e → e ≤ length gs
    → take s (order_view (marks_reordered s e (marks_merged level s e gs))) ≡ take s (order_view gs)
arabic_in_front level s e gs some within =
    let view = order_view gs in
    let long : length view ≡ length gs = length-map gs plain in
    ap (take s) (marks_view level s e gs)
    ∙ take-append-le s (take s view) (moved (stretch_of s e view) ++ drop e view)
    (omega (arith, length-take-le s view (omega arith)))
    ∙ take-take s s view (omega arith)

pub arabic_same_length : (level : BufferClusterLevel) (s e : ℕ) (gs : Glyphs) → s < e → e ≤ length gs
    → length (marks_reordered s e (marks_merged level s e gs)) ≡ length gs
arabic_same_length level s e gs some within =
    let new = marks_reordered s e (marks_merged level s e gs) in
    sym (length-map new (λ g. g.cluster))
    ∙ (mark_laws level s e gs (omega arith) within).glyphs.in_clusters.same_length
    ∙ length-map gs (λ g. g.cluster)

pub arabic_old_clusters : (level : BufferClusterLevel) (s e : ℕ) (gs : Glyphs) → s < e → e ≤ length gs
    → All (Contains (clusters gs)) (clusters (marks_reordered s e (marks_merged level s e gs)))
arabic_old_clusters level s e gs some within =
    (mark_laws level s e gs (omega arith) within).glyphs.in_clusters.old_clusters

-- what stands behind the marks keeps its classes
pub arabic_behind : (level : BufferClusterLevel) (s e : ℕ) (gs : Glyphs) → s < e → e ≤ length gs
    → drop e (classes (marks_reordered s e (marks_merged level s e gs))) ≡ drop e (classes gs)
arabic_behind level s e gs some within =
    let sts = (text_step s e gs).merged_first in
    let ms = merge_all level sts gs in
    let new = marks_reordered s e ms in
    let seen : classes ms ≡ classes gs = map-merge_all class_of (λ g. refl) level sts gs in
    let long : length ms ≡ length gs = sym (length-map ms class_of) ∙ ap length seen ∙ length-map gs class_of in
    drop-map class_of e new
    ∙ ap (map class_of)
    (drop-changed s e e moved ms (omega arith) (omega arith) (omega arith) (length-moved (stretch_of s e ms)
    ∙ length-stretch s e ms (omega arith)))
    ∙ sym (drop-map class_of e ms)
    ∙ ap (drop e) seen
