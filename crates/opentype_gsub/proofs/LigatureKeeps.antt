-- What ligatures keep of clusters: but for the merged ones, all stay.
use Rattle.std.proofs.Common.{◌≡◌, ◌∙◌, ℕ, zero, suc, ◌+◌, ◌-◌, ◌==◌, ◌||◌, Bool, true, false, List, [], ◌∷◌, length, get_or, set, refl, sym, ap, if◌then◌else◌}
use Rattle.std.specs.List.{list_any}
use Rattle.std.proofs.lemmas.List.{length-map}
use Rattle.shapers_buffer.specs.Glyph.{clusters, default_glyph}
use Rattle.shapers_buffer.specs.Glyphs.{Glyph, Glyphs}
use Rattle.shapers_buffer.specs.declared.buffer.level.BufferClusterLevel.{BufferClusterLevel}
use Rattle.opentype_gsub.specs.Edits.{last_place, merged_up_to, replaced}
use Rattle.opentype_gsub.specs.Ligated.{Marked, as_mark, counted_too, followed_by_marks, is_of_last, is_of_marks, ligature_joined, ligature_glyph, marks_inside, marked_one, nothing_counted, number_for, with_followers}
use Rattle.opentype_gsub.specs.declared.ligating.Counted.{Counted}
use Rattle.opentype_gsub.proofs.Kept.{clusters-set}
use Rattle.opentype_layout.specs.Text.{glyph_at}

cluster_mark : (number : ℕ) (c : Counted) (g : Glyph) → (as_mark number c g).cluster ≡ g.cluster
unfolding as_mark
cluster_mark number c g = refl

cluster_ligature : (gdef : List ℕ) (to number count : ℕ) (g : Glyph) → (ligature_glyph gdef to number count g).cluster ≡ g.cluster
unfolding ligature_glyph replaced
cluster_ligature gdef to number count g = refl

if_marked : (cs : List ℕ) (test : Bool) (x y : Marked) → clusters x.text ≡ cs → clusters y.text ≡ cs →
    clusters (if test then x else y).text ≡ cs
if_marked cs true x y one two = one
if_marked cs false x y one two = two

if_same : (cs : List ℕ) (test : Bool) (x y : Glyphs) → clusters x ≡ cs → clusters y ≡ cs →
    clusters (if test then x else y) ≡ cs
if_same cs true x y one two = one
if_same cs false x y one two = two

mark_same : (number : ℕ) (c : Counted) (gs : Glyphs) (i : ℕ) →
    clusters (set gs i (as_mark number c (glyph_at gs i))) ≡ clusters gs
mark_same number c gs i = clusters-set i gs (as_mark number c (glyph_at gs i)) (λ lt. cluster_mark number c (glyph_at gs i))

pub one_same : (number : ℕ) (ps : List ℕ) (gs : Glyphs) (i : ℕ) (c : Counted) →
    clusters (marked_one number ps gs i c).text ≡ clusters gs
unfolding marked_one
one_same number ps gs i c = if_marked (clusters gs) (list_any (λ p. p == i) ps) _ _ refl
    (if_marked (clusters gs) (number == 0) _ _ refl (mark_same number c gs i))

pub marked_same : (n number : ℕ) (ps : List ℕ) (gs : Glyphs) (i : ℕ) (c : Counted) →
    clusters (marks_inside n number ps gs i c).text ≡ clusters gs
unfolding marks_inside
marked_same zero number ps gs i c = refl
marked_same (suc n) number ps gs i c =
    marked_same n number ps (marked_one number ps gs i c).text (i + 1) (marked_one number ps gs i c).counted
    ∙ one_same number ps gs i c

followed_same : (n number : ℕ) (c : Counted) (gs : Glyphs) (i : ℕ) → clusters (followed_by_marks n number c gs i) ≡ clusters gs
unfolding followed_by_marks
followed_same zero number c gs i = refl
followed_same (suc n) number c gs i = if_same (clusters gs) (is_of_last c (glyph_at gs i)) _ gs
    (followed_same n number c (set gs i (as_mark number c (glyph_at gs i))) (i + 1) ∙ mark_same number c gs i) refl

pub behind_same : (of_marks : Bool) (number : ℕ) (c : Counted) (gs : Glyphs) (from : ℕ) →
    clusters (with_followers of_marks number c gs from) ≡ clusters gs
unfolding with_followers
behind_same of_marks number c gs from = if_same (clusters gs) (of_marks || (c.number == 0)) gs _ refl
    (followed_same (length gs - from) number c gs from)

cluster_at : (gs : Glyphs) (i : ℕ) → (glyph_at gs i).cluster ≡ get_or (clusters gs) i default_glyph.cluster
cluster_at [] i = refl
cluster_at (g ∷ gs) zero = refl
cluster_at (g ∷ gs) (suc i) = cluster_at gs i

set_same : (gdef : List ℕ) (to number count at : ℕ) (ms ts : Glyphs) → clusters ts ≡ clusters ms →
    clusters (set ts at (ligature_glyph gdef to number count (glyph_at ms at))) ≡ clusters ms
set_same gdef to number count at ms ts e =
    clusters-set at ts (ligature_glyph gdef to number count (glyph_at ms at))
    (λ lt. cluster_ligature gdef to number count (glyph_at ms at) ∙ cluster_at ms at
    ∙ ap (λ cs. get_or cs at default_glyph.cluster) (sym e) ∙ sym (cluster_at ts at)) ∙ e

pub joined_same : (gdef : List ℕ) (level : BufferClusterLevel) (at : ℕ) (ps : List ℕ) (to : ℕ) (gs : Glyphs) →
    clusters (ligature_joined gdef level at ps to gs) ≡ clusters (merged_up_to level at (last_place at ps) gs)
unfolding ligature_joined
joined_same gdef level at ps to gs =
    let last = last_place at ps in
    let ms = merged_up_to level at last gs in
    let number = number_for ms at ps in
    let m = marks_inside (last - at) number ps ms (at + 1) (counted_too nothing_counted (glyph_at ms at)) in
    set_same gdef to number m.counted.all at ms (with_followers (is_of_marks ms at ps) number m.counted m.text (last + 1))
    (behind_same (is_of_marks ms at ps) number m.counted m.text (last + 1)
    ∙ marked_same (last - at) number ps ms (at + 1) (counted_too nothing_counted (glyph_at ms at)))

pub same_length : (x y : Glyphs) → clusters x ≡ clusters y → length x ≡ length y
same_length x y e = sym (length-map x (λ g. g.cluster)) ∙ ap length e ∙ length-map y (λ g. g.cluster)
