-- Each glyph of a stretched text is a copy of one of the text before, with glyph flags that are only added.
use Rattle.std.proofs.Common.{◌≡◌, ℕ, zero, suc, ℤ, Bool, true, false, cond, not, List, [], ◌∷◌, ◌++◌, length, map, take, drop, replicate, reverse, refl, sym, ◌∙◌, subst, arith}
use Rattle.std.specs.Prelude.{Result, Ok, Err, OnOk, ◌-ℤ◌}
use Rattle.std.specs.List.{AllByRecursion, Contains, onto_first, zip}
use Rattle.std.proofs.lemmas.List.{append_assoc, reverse-append}
use Rattle.shapers_buffer.specs.declared.buffer.glyph.GlyphPosition.{GlyphPosition}
use Rattle.shapers_buffer.specs.Glyphs.{Glyph, Glyphs}
use Rattle.shapers_buffer.specs.declared.buffer.refusal.ShaperError.{ShaperError}
use Rattle.shapers_buffer.specs.Buffer.{Buffer}
use Rattle.shapers_buffer.specs.GlyphFlags.{with_bits_off}
use Rattle.shapers_buffer.specs.Lists.{each_after}
use Rattle.shapers_buffer.proofs.MappedLists.{all-append, all-flat_map, all-mapped}
use Rattle.shapers_base.specs.declared.plan.arabic.StretchStart.{StretchStart}
use Rattle.shapers_base.specs.Font.{Font}
use Rattle.shapers_clusters.specs.FlagLaw.{FlagsAdded}
use Rattle.shapers_clusters.proofs.FlagCalls.{keeps-with_bits}
use Rattle.shapers_stretch.specs.declared.ot_shaper_arabic_stretch.measuring.TileSequence.{TileSequence}
use Rattle.shapers_stretch.specs.Cells.{Cell, before_tiles, before_word, cut_between, glyphs_of, parts_of_text, positions_of, tiles_of, word_of}
use Rattle.shapers_stretch.specs.Measure.{times_added, overlap, start}
use Rattle.shapers_stretch.specs.Stretch.{Copy, Laying, cells, cells_in_order, copies, copies_of, has_sequence, in_working_order, laid, laid_at, laid_sequence, laying, marks_stretched, offset, sequence_of_part, goes_leftward, stretched, stretched_cells, stretched_over, stretched_part, unbroken, width_of}
use Rattle.shapers_stretch.specs.StretchLaws.{AreCopies, IsLaidOver}
use Rattle.shapers_stretch.proofs.LaidText.{stretch_is_as_wide}

-- what all elements of a list have, parts of it have
every_take : {X : Type 0} (P : X → Type 0) (n : ℕ) (xs : List X) → AllByRecursion P xs → AllByRecursion P (take n xs)
every_take P (suc n) (x ∷ xs) all = (all.0, every_take P n xs all.1)
every_take P _ _ all = tt

every_drop : {X : Type 0} (P : X → Type 0) (n : ℕ) (xs : List X) → AllByRecursion P xs → AllByRecursion P (drop n xs)
every_drop P zero xs all = all
every_drop P (suc n) [] all = tt
every_drop P (suc n) (x ∷ xs) all = every_drop P n xs all.1

pub every_reverse : {X : Type 0} (P : X → Type 0) (xs : List X) → AllByRecursion P xs → AllByRecursion P (reverse xs)
every_reverse P [] all = tt
every_reverse P (x ∷ xs) all = search (reverse-append (x ∷ []) xs, all-append P (reverse xs) (x ∷ []) (every_reverse P xs all.1) (all.0, tt))

every_onto : {X : Type 0} (P : X → Type 0) (x : X) (pieces : List (List X)) → P x
    → AllByRecursion (AllByRecursion P) pieces → AllByRecursion (AllByRecursion P) (onto_first x pieces)
every_onto P x [] first all = ((first, tt), tt)
every_onto P x (piece ∷ pieces) first all = ((first, all.0), all.1)

every_cut : {X : Type 0} (P : X → Type 0) (apart : X → X → Bool) (xs : List X) → AllByRecursion P xs
    → AllByRecursion (AllByRecursion P) (cut_between apart xs)
every_cut P apart [] all = tt
every_cut P apart (x ∷ xs) all = search (arith, every_cut P apart xs all.1)

every_replicate : {X : Type 0} (P : X → Type 0) (n : ℕ) (x : X) → P x → AllByRecursion P (replicate n x)
every_replicate P zero x is = tt
every_replicate P (suc n) x is = (is, every_replicate P n x is)

every_after : {X : Type 0} (P : X → Type 0) (before xs : List X) → AllByRecursion P xs
    → AllByRecursion (λ p. P p.1) (each_after before xs)
every_after P before [] all = tt
every_after P before (x ∷ xs) all = (all.0, every_after P (before ++ x ∷ []) xs all.1)

-- a property of glyphs that stays where flags are added, and cells whose glyphs have it
abbrev Stays : (Glyph → Type 0) → Type 0
Stays Q = (g h : Glyph) → FlagsAdded g h → Q g → Q h

abbrev Every : (Glyph → Type 0) → List Cell → Type 0
Every Q cs = AllByRecursion (λ (c : Cell). Q c.0) cs

off_added : (m : ℕ) (g : Glyph) → FlagsAdded g (with_bits_off 3 m g)
off_added = search (arith, keeps-with_bits)

every_off : (Q : Glyph → Type 0) → Stays Q → (m : ℕ) (cs : List Cell) → Every Q cs
    → Every Q (zip (map (with_bits_off 3 m) (glyphs_of cs)) (positions_of cs))
every_off Q stays m [] all = tt
every_off Q stays m (c ∷ cs) all = search (off_added, every_off Q stays m cs all.1)

every_unbroken : (Q : Glyph → Type 0) → Stays Q → (cs : List Cell) → Every Q cs → Every Q (unbroken cs)
every_unbroken Q = search every_off

-- copies of tiles
every_copy_of : (Q : Glyph → Type 0) (font : Font) (z : TileSequence) (c : Cell) → Q c.0
    → AllByRecursion (λ (copy : Copy). Q copy.tile.0) (copies_of font z c)
every_copy_of Q font z c is =
    let P : Copy → Type 0 = λ copy. Q copy.tile.0 in
    search (arith, every_replicate P (times_added z) (record { tile = c; move = width_of font c.0 -ℤ overlap z }) is)

every_laid : (Q : Glyph → Type 0) (right_to_left : Bool) (from : ℤ) (cs : List Copy)
    → AllByRecursion (λ (copy : Copy). Q copy.tile.0) cs → Every Q (laid right_to_left from cs)
every_laid Q right_to_left from cs all =
    all-mapped (λ (p : List Copy × Copy). Q p.1.tile.0) (λ (c : Cell). Q c.0)
    (λ p. laid_at (offset right_to_left from p.0 p.1) p.1.tile) (each_after [] cs) (λ p is. is)
    (search (arith, every_after))

every_laid_run : (Q : Glyph → Type 0) (how : Laying) (z : TileSequence) (tiles : List Cell) → Every Q tiles
    → Every Q (laid_sequence how z tiles)
every_laid_run Q how z tiles all =
    every_laid Q how.right_to_left (start how.choice how.right_to_left z) (copies how.font z tiles)
    (all-flat_map (λ (c : Cell). Q c.0) (λ (copy : Copy). Q copy.tile.0) (copies_of how.font z)
    (λ c is. every_copy_of Q how.font z c is) (reverse tiles) (search every_reverse))

-- a part, and a text
every_over : (Q : Glyph → Type 0) → Stays Q → (how : Laying) (z : TileSequence) (word tiles : List Cell) → Every Q word
    → Every Q tiles → Every Q (stretched_over how z word tiles)
every_over Q stays how z word tiles first second =
    let all = every_unbroken Q stays (word ++ tiles) (search all-append) in
    search (arith, all-append, every_take, every_reverse, every_laid_run, every_drop)

every_stretched : (Q : Glyph → Type 0) → Stays Q → (how : Laying) (cs : List Cell) → Every Q cs
    → Every Q (stretched how cs)
every_stretched Q stays how cs all =
    all-flat_map (AllByRecursion (λ (c : Cell). Q c.0)) (λ (c : Cell). Q c.0) (stretched_part how) (λ part is.
    let P : Cell → Type 0 = λ c. Q c.0 in
    let before = before_tiles part in
    let front = every_take P _ part is in
    let z = sequence_of_part how.font part in elim (not (has_sequence part)) as (λ b. Every Q (cond b part (before_word part ++
    stretched_over how z (word_of part) (tiles_of part)))) [
      | true ↦ is
      | false ↦ all-append P (before_word part)
          (stretched_over how z (word_of part) (tiles_of part)) (every_take P _ before front) (every_over Q stays how z
          (word_of part) (tiles_of part) (every_drop P _ before front) (every_drop P _ part is))
    ]) (parts_of_text cs) (
    search every_cut)

every_zip : (Q : Glyph → Type 0) (gs : Glyphs) (ps : List GlyphPosition) → AllByRecursion Q gs → Every Q (zip gs ps)
every_zip Q (g ∷ gs) (p ∷ ps) all = (all.0, every_zip Q gs ps all.1)
every_zip Q _ _ all = tt

every_in_order : (Q : Glyph → Type 0) (right_to_left : Bool) (cs : List Cell) → Every Q cs
    → Every Q (in_working_order right_to_left cs)
every_in_order Q true cs all = all
every_in_order Q false cs all = search every_reverse

every_marked : (Q : Glyph → Type 0) → Stays Q → (font : Font) (choice : StretchStart) (b : Buffer)
    → AllByRecursion Q b.glyphs → AllByRecursion Q (marks_stretched font choice b).glyphs
every_marked Q stays font choice b all =
    let how = laying font choice b in
    let each : Every Q (stretched_cells font choice b) = every_in_order Q how.right_to_left
    (stretched how (cells_in_order b)) (every_stretched Q
    stays how (cells_in_order b) (every_in_order Q (goes_leftward b.direction) (cells b) (every_zip Q b.glyphs
    b.positions all))) in
    search (arith, all-mapped (λ (c : Cell). Q c.0) Q (λ c. c.0) (stretched_cells font choice b) (λ c is. is) each)

-- each glyph is one of the text
contains_middle : (front : Glyphs) (g : Glyph) (gs : Glyphs) → Contains (front ++ g ∷ gs) g
contains_middle [] g gs = (0, omega arith, refl)
contains_middle (h ∷ front) g gs = let (k, inside, at) = contains_middle front g gs in (suc k, omega arith, at)

among : (all front gs : Glyphs) → all ≡ front ++ gs
    → AllByRecursion (λ g. (old : Glyph) × (Contains all old × FlagsAdded old g)) gs
among all front [] is = tt
among all front (g ∷ gs) is = search (arith, contains_middle front g gs, among all (front ++ g ∷ []) gs (is ∙ sym (append_assoc front (g ∷ []) gs)))

pub on_copies : {T : Type 0} (r : Result T ShaperError) (font : Font) (choice : StretchStart) (old new : Buffer)
    → OnOk r (new ≡ marks_stretched font choice old) → OnOk r (AreCopies old.glyphs new.glyphs)
on_copies (Ok x) font choice old new is =
    let Q : Glyph → Type 0 = λ g. (h : Glyph) × (Contains old.glyphs h × FlagsAdded h g) in
    subst (λ (b : Buffer). AreCopies old.glyphs b.glyphs) (sym is)
    (every_marked Q (λ g h more of. search arith) font choice old (among old.glyphs [] old.glyphs refl))
on_copies (Err e) font choice old new is = tt

-- and the law of widths
pub on_widths : {T : Type 0} (r : Result T ShaperError) (font : Font) (choice : StretchStart) (old new : Buffer)
    → length old.positions ≡ length old.glyphs → OnOk r (new ≡ marks_stretched font choice old)
    → OnOk r (IsLaidOver font choice old new)
on_widths (Ok x) font choice old new both is = λ marked. (stretch_is_as_wide font choice old new marked both is).1
on_widths (Err e) font choice old new both is = tt
