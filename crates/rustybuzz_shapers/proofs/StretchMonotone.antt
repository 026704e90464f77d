-- Clusters that rise, or fall, still do when marks are stretched.
use Rattle.std.proofs.Common.{ℕ, zero, suc, ◌≤◌, ◌≡◌, Bool, true, false, cond, List, [], ◌∷◌, ◌++◌, ℤ, ◌-ℤ◌, length, map, take, drop, replicate, reverse, inl, inr, refl, sym, ap, subst, ◌∙◌, arith}
use Rattle.std.specs.List.{AllByRecursion, AllPairs, flat_map, zip}
use Rattle.std.proofs.lemmas.Bool.{cases_Bool}
use Rattle.std.proofs.lemmas.List.{append-nil, append_assoc, length-map, map-append, reverse-append, take-append-drop, take_at}
use Rattle.std.proofs.lemmas.List.Concat.{flat_map-append}
use Rattle.std.proofs.lemmas.Simd.{map-map}
use Rattle.shapers_base.specs.Font.{Font}
use Rattle.shapers_base.specs.declared.plan.hb_ot_shape_plan_t.{hb_ot_shape_plan_t}
use Rattle.shapers_buffer.specs.Buffer.{Buffer}
use Rattle.shapers_buffer.specs.declared.buffer.glyph.GlyphPosition.{GlyphPosition}
use Rattle.shapers_buffer.specs.Glyphs.{Glyph, Glyphs}
use Rattle.shapers_buffer.specs.Glyph.{clusters}
use Rattle.shapers_buffer.specs.GlyphFlags.{with_bits}
use Rattle.shapers_buffer.specs.Lists.{each_after}
use Rattle.shapers_buffer.proofs.MappedLists.{map-reverse}
use Rattle.shapers_stretch.specs.Cells.{Cell, before_tiles, before_word, parts_of_text, repeats, tiles_of, word_of}
use Rattle.shapers_stretch.specs.Measure.{overlap, times_added}
use Rattle.shapers_stretch.specs.Recorded.{start_of}
use Rattle.shapers_stretch.specs.Stretch.{Copy, Laying, cells_in_order, copies, copies_of, has_sequence, in_working_order, laid_at, laid_sequence, laying, offset, sequence_of_part, goes_leftward, stretched, stretched_over, stretched_part, unbroken, width_of, with_cells}
use Rattle.shapers_stretch.proofs.Flagging.{flag_cell, tiles_are, unbroken_is}
use Rattle.shapers_stretch.proofs.LaidText.{stretch_is_as_wide}
use Rattle.rustybuzz_shapers.specs.Monotone.{StaysMonotone, StretchStaysMonotone}
use Rattle.rustybuzz_shapers.specs.declared.shaper.hb_ot_shaper_t.TheVariants.{Arabic}
use Rattle.rustybuzz_shapers.proofs.HangulMonotone.{KeepsEach, OfItself, keeps_both, keeps_by, keeps_itself}
use Rattle.rustybuzz_shapers.proofs.Monotone.{Ordered, all_weaker, from_pairs, to_pairs, unchanged_monotone}
use Rattle.rustybuzz_shapers.proofs.ThaiMonotone.{all_append, ordered_append}

-- the clusters of cells
abbrev of_cells : List Cell → List ℕ
of_cells cs = map (λ c. c.0.cluster) cs

-- one number, as often as may be
all_reversed : (P : ℕ → Type 0) (xs : List ℕ) → AllByRecursion P xs → AllByRecursion P (reverse xs)
all_reversed P [] own = tt
all_reversed P (x ∷ xs) own =
    search (arith, reverse-append (x ∷ []) xs, all_append P (reverse xs) (x ∷ []) (all_reversed P xs own.1) (own.0, tt))

same_ordered : (R : ℕ → ℕ → Type 0) → OfItself R → (x : ℕ) (ys : List ℕ) → AllByRecursion (λ y. y ≡ x) ys → Ordered R ys
same_ordered R self x [] same = tt
same_ordered R self x (y ∷ ys) same = search (arith, all_weaker, same_ordered R self x ys same.1)

keeps_same : (R : ℕ → ℕ → Type 0) → OfItself R → (x : ℕ) (ys : List ℕ) → AllByRecursion (λ y. y ≡ x) ys
    → KeepsEach R (x ∷ []) ys
keeps_same R self x ys same P = search (arith, all_weaker, same_ordered)

keeps_becomes : (R : ℕ → ℕ → Type 0) (xs us vs : List ℕ) → us ≡ vs → KeepsEach R xs us → KeepsEach R xs vs
keeps_becomes R xs us vs is own P = search arith

-- the clusters of the tiles that copies are of
abbrev of_copies : List Copy → List ℕ
of_copies cs = map (λ c. c.tile.0.cluster) cs

-- the copies of one tile
many_copies : (n : ℕ) (c : Copy) → AllByRecursion (λ y. y ≡ c.tile.0.cluster) (of_copies (replicate n c))
many_copies zero c = tt
many_copies (suc n) c = (refl, many_copies n c)

tile_copies : (font : Font) (part : List Cell) (c : Cell)
    → AllByRecursion (λ y. y ≡ c.0.cluster) (of_copies (copies_of font (sequence_of_part font part) c))
tile_copies font part c = (
  refl,
  elim (repeats c.0) as (λ b. AllByRecursion (λ y. y ≡ c.0.cluster)
      (of_copies (cond b (replicate (times_added (sequence_of_part font part))
      (record { tile = c; move = width_of font c.0 -ℤ overlap (sequence_of_part font part) })) [])))
      [ true ↦ search (arith, many_copies) | false ↦ tt ],
)

-- those of all tiles, the last ones first, turned round
tiles_keep : (R : ℕ → ℕ → Type 0) → OfItself R → (font : Font) (part : List Cell) (ts : List Cell)
    → KeepsEach R (of_cells ts) (reverse (of_copies (flat_map (copies_of font (sequence_of_part font part)) (reverse ts))))
tiles_keep R self font part [] = λ P. keeps_itself P R [] [] refl
tiles_keep R self font part (t ∷ ts) =
    let f = copies_of font (sequence_of_part font part) in
    let one = of_copies (f t) in
    let rest = of_copies (flat_map f (reverse ts)) in
    let is : reverse (of_copies (flat_map f (reverse (t ∷ ts)))) ≡ reverse one ++ reverse rest =
    cc (
      reverse-append (t ∷ []) ts,
      flat_map-append f (reverse ts) (t ∷ []),
      append-nil (f t),
      map-append (λ (c : Copy). c.tile.0.cluster) (flat_map f (reverse ts)) (f t),
      reverse-append rest one,
    ) in
    keeps_becomes R (of_cells (t ∷ ts)) (reverse one ++ reverse rest)
    (reverse (of_copies (flat_map f (reverse (t ∷ ts))))) (sym is)
    (keeps_both R (t.0.cluster ∷ []) (of_cells ts) (reverse one) (reverse rest)
    (search (arith, keeps_same, all_reversed, tile_copies)) (tiles_keep R self font part ts))

-- laid, they have the same clusters
laid_clusters : (right_to_left : Bool) (from : ℤ) (before cs : List Copy)
    → of_cells (map (λ p. laid_at (offset right_to_left from p.0 p.1) p.1.tile) (each_after before cs)) ≡ of_copies cs
laid_clusters right_to_left from before [] = refl
laid_clusters right_to_left from before (c ∷ cs) = cc (laid_clusters right_to_left from (before ++ c ∷ []) cs)

run_keeps : (R : ℕ → ℕ → Type 0) → OfItself R → (how : Laying) (part : List Cell) (ts : List Cell)
    → KeepsEach R (of_cells ts) (of_cells (reverse (laid_sequence how (sequence_of_part how.font part) ts)))
run_keeps R self how part ts =
    keeps_becomes R (of_cells ts) (reverse (of_copies (copies how.font (sequence_of_part how.font part) ts)))
    (of_cells (reverse (laid_sequence how (sequence_of_part how.font part) ts))) (search (arith, laid_clusters, map-reverse))
    (search (arith, tiles_keep))

-- flags change no cluster
flag_if : (b : Bool) (g : Glyph) → (cond b g (with_bits 3 g)).cluster ≡ g.cluster
flag_if true g = refl
flag_if false g = refl

flagged_clusters : (m : ℕ) (cs : List Cell) → of_cells (map (flag_cell m) cs) ≡ of_cells cs
flagged_clusters m [] = refl
flagged_clusters m (c ∷ cs) = search (arith, flag_if, flagged_clusters m cs)

-- A PART
over_keeps : (R : ℕ → ℕ → Type 0) → OfItself R → (how : Laying) (part : List Cell) (word tiles : List Cell)
    → KeepsEach R (of_cells word ++ of_cells tiles)
    (of_cells (stretched_over how (sequence_of_part how.font part) word tiles))
over_keeps R self how part word tiles =
    let whole = unbroken (word ++ tiles) in
    let front = take (length word) whole in
    let back = drop (length word) whole in
    let word_is : of_cells front ≡ of_cells word =
    search (arith, unbroken_is, map-append, flag_cell, take_at, length-map, flagged_clusters) in
    let tiles_are_so : of_cells tiles ≡ of_cells back =
    search (arith, tiles_are, flagged_clusters) in
    keeps_becomes R (of_cells word ++ of_cells tiles)
    (of_cells front ++ of_cells (reverse (laid_sequence how (sequence_of_part how.font part) back)))
    (of_cells (stretched_over how (sequence_of_part how.font part) word tiles)) (search (arith, map-append))
    (search (arith, keeps_both, keeps_itself, keeps_by, run_keeps))

part_keeps : (R : ℕ → ℕ → Type 0) → OfItself R → (how : Laying) (part : List Cell)
    → KeepsEach R (of_cells part) (of_cells (stretched_part how part))
part_keeps R self how part P =
    let z = sequence_of_part how.font part in
    let front = before_word part in
    let word = word_of part in
    let tiles = tiles_of part in
    elim (cases_Bool (has_sequence part)) [
      | inl some ↦
          let is : stretched_part how part ≡ (front ++ stretched_over how z word tiles) = cc in
          let whole : part ≡ front ++ (word ++ tiles) =
          sym (sym (append_assoc front word tiles)
          ∙ ap (λ xs. xs ++ tiles) (take-append-drop _ (before_tiles part)) ∙ take-append-drop _ part) in
          let cs : of_cells part ≡ of_cells front ++ (of_cells word ++ of_cells tiles) = ap of_cells whole
          ∙ map-append (λ (c : Cell). c.0.cluster) front (word ++ tiles)
          ∙ ap (λ ns. of_cells front ++ ns) (map-append (λ (c : Cell). c.0.cluster) word tiles) in
          keeps_becomes R (of_cells part) (of_cells front ++ of_cells (stretched_over how z word tiles))
          (of_cells (stretched_part how part))
          (sym (ap of_cells is ∙ map-append (λ (c : Cell). c.0.cluster) front (stretched_over how z word tiles)))
          (keeps_by R (of_cells part) (of_cells front ++ (of_cells word ++ of_cells tiles))
          (of_cells front ++ of_cells (stretched_over how z word tiles)) cs
          (keeps_both R (of_cells front) (of_cells word ++ of_cells tiles) (of_cells front)
          (of_cells (stretched_over how z word tiles))
          (λ Q. keeps_itself Q R (of_cells front) (of_cells front) refl) (over_keeps R self how part word tiles))) P
      | inr none ↦ search (arith, keeps_itself)
    ]

parts_keep : (R : ℕ → ℕ → Type 0) → OfItself R → (how : Laying) (parts : List (List Cell))
    → KeepsEach R (of_cells (flat_map (λ part. part) parts)) (of_cells (flat_map (stretched_part how) parts))
parts_keep R self how [] = λ P. keeps_itself P R [] [] refl
parts_keep R self how (p ∷ ps) =
    let xs = flat_map (λ part. part) ps in
    let ys = flat_map (stretched_part how) ps in
    keeps_becomes R (of_cells (p ++ xs)) (of_cells (stretched_part how p) ++ of_cells ys)
    (of_cells (stretched_part how p ++ ys)) (search (arith, map-append))
    (keeps_by R (of_cells (p ++ xs)) (of_cells p ++ of_cells xs) (of_cells (stretched_part how p) ++ of_cells ys)
    (search (arith, map-append)) (search (arith, keeps_both, part_keeps, parts_keep R self how ps)))

-- THE BUFFER, whose cells may stand the other way round
ordered_reversed : (R : ℕ → ℕ → Type 0) (xs : List ℕ) → Ordered R xs → Ordered (λ a b. R b a) (reverse xs)
ordered_reversed R [] own = tt
ordered_reversed R (x ∷ xs) own = search (
  arith,
  reverse-append (x ∷ []) xs,
  ordered_append (λ a b. R b a) (reverse xs) (x ∷ []) (ordered_reversed R xs own.1) (tt, tt)
      (all_weaker (R x) (λ y. AllByRecursion (λ b. R b y) (x ∷ [])) (λ y is. (is, tt)) (reverse xs) (all_reversed
      (R x) xs own.0)),
)

zipped_clusters : (gs : Glyphs) (ps : List GlyphPosition) → length ps ≡ length gs → of_cells (zip gs ps) ≡ clusters gs
zipped_clusters [] ps same = refl
zipped_clusters (g ∷ gs) [] same = absurd (omega arith)
zipped_clusters (g ∷ gs) (p ∷ ps) same = cc (zipped_clusters gs ps (omega arith))

in_order : (R : ℕ → ℕ → Type 0) → OfItself R → (how : Laying) (right_to_left : Bool) (cells : List Cell)
    → flat_map (λ part. part) (parts_of_text (in_working_order right_to_left cells))
    ≡ in_working_order right_to_left cells → Ordered R (of_cells cells)
    → Ordered R (of_cells (in_working_order right_to_left (stretched how (in_working_order right_to_left cells))))
in_order R self how true cells whole own =
    (parts_keep R self how (parts_of_text cells) (λ x. Unit {0})).ordered
    (subst (λ cs. Ordered R (of_cells cs)) (sym whole) own)
in_order R self how false cells whole own =
    let turned : Ordered (λ a b. R b a) (of_cells (reverse cells)) = subst (Ordered (λ a b. R b a)) (sym (map-reverse
    (λ (c : Cell). c.0.cluster) cells)) (ordered_reversed R (of_cells cells) own) in
    let made = (parts_keep (λ a b. R b a) self how (parts_of_text (reverse cells)) (λ x. Unit {0})).ordered (subst (λ
    cs. Ordered (λ a b. R b a) (of_cells cs)) (sym whole) turned) in
    search (
      arith,
      map-reverse (λ (c : Cell). c.0.cluster) (stretched how (reverse cells)),
      ordered_reversed (λ a b. R b a) (of_cells (stretched how (reverse cells))) made,
    )

arabic_monotone : (plan : hb_ot_shape_plan_t) (font : Font) (old new : Buffer)
    → length old.positions ≡ length old.glyphs → (b : Bool) → old.stch ≡ b → new ≡ cond b
    (with_cells (in_working_order (goes_leftward old.direction)
    (stretched (laying font (start_of plan.plan_data) old) (cells_in_order old))) old) old → new ≡ cond old.stch
    (with_cells (in_working_order (goes_leftward old.direction)
    (stretched (laying font (start_of plan.plan_data) old) (cells_in_order old))) old) old
    → StaysMonotone (clusters old.glyphs) (clusters new.glyphs)
arabic_monotone plan font old new both false marked is done = unchanged_monotone old new is
arabic_monotone plan font old new both true marked is done =
    let r = goes_leftward old.direction in
    let cells = zip old.glyphs old.positions in
    let how = laying font (start_of plan.plan_data) old in
    let now : clusters new.glyphs ≡ of_cells
    (in_working_order r (stretched how (in_working_order r cells))) = search (arith, map-map) in
    let turned : (R : ℕ → ℕ → Type 0) → OfItself R → AllPairs R (clusters old.glyphs)
    → AllPairs R (clusters new.glyphs) =
    λ R self own. to_pairs R (clusters new.glyphs) (subst (Ordered R) (sym now) (in_order R self how r cells
    ((stretch_is_as_wide font (start_of plan.plan_data) old new marked both done).1.before) (subst (Ordered R) (sym
    (zipped_clusters old.glyphs old.positions both)) (from_pairs R (clusters old.glyphs) own)))) in
    (turned (λ a b. a ≤ b) (λ x. omega arith), turned (λ a b. b ≤ a) (λ x. omega arith))

pub stretch_stays_monotone : StretchStaysMonotone
stretch_stays_monotone Arabic plan font old new both is = search (arith, arabic_monotone)
stretch_stays_monotone _ plan font old new both is = unchanged_monotone old new is.1
