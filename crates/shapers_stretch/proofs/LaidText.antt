-- A stretched text, read from its result: how much longer it is, and how wide what is laid is.
use Rattle.std.proofs.Common.{◌≡◌, ◌+◌, ℕ, ℤ, pos, Bool, true, false, cond, List, [], ◌∷◌, ◌++◌, length, map, take, drop, flat_map, replicate, Result, Ok, Err, OnOk, refl, ap, arith}
use Rattle.std.specs.List.{AllZip, onto_first, sum_by}
use Rattle.std.proofs.lemmas.List.{append_assoc, length-append, length-map, length-reverse, map-append, reverse-reverse, take-append-drop, take_at}
use Rattle.std.proofs.lemmas.List.Folds.{flat_map-map}
use Rattle.std.proofs.lemmas.List.Sums.{sum_by-cons}
use Rattle.shapers_buffer.specs.declared.buffer.refusal.ShaperError.{ShaperError}
use Rattle.shapers_buffer.specs.Buffer.{Buffer}
use Rattle.shapers_buffer.specs.Clusters.{least}
use Rattle.shapers_buffer.specs.Glyph.{clusters}
use Rattle.shapers_buffer.specs.Lists.{each_after}
use Rattle.shapers_base.specs.declared.plan.arabic.StretchStart.{StretchStart}
use Rattle.shapers_base.specs.Font.{Font}
use Rattle.shapers_stretch.specs.Cells.{Cell, before_tiles, before_word, cut_between, glyphs_of, parts_of_text, positions_of, sequence_ends, tiles_of, word_of}
use Rattle.shapers_stretch.specs.CountingWalk.{pen_behind}
use Rattle.shapers_stretch.specs.LayingWalk.{laid_on, offsets}
use Rattle.shapers_stretch.specs.Measure.{copies_added, start}
use Rattle.shapers_stretch.specs.Stretch.{Copy, Laying, cells_in_order, copies, copies_in, has_sequence, in_working_order, laid_at, laid_sequence, laying, marks_stretched, offset, repeating, sequence_of_part, stretched, stretched_part, unbroken}
use Rattle.shapers_stretch.specs.StretchLaws.{PartIsLaid, SequenceIsLaid, TextIsLaid, ids}
use Rattle.shapers_stretch.proofs.Flagging.{flag_cell, flag_copies, flag_copy, flag_offsets, same_id, tiles_are, unbroken_is}
use Rattle.shapers_stretch.proofs.Lengths.{length-copies, length-laid}
use Rattle.shapers_stretch.proofs.Moves.{moves_hold, widths_hold}
use Rattle.shapers_stretch.proofs.PartCounts.{no_run_length, run_length}
use Rattle.shapers_stretch.proofs.Pen.{laid_is}
use Rattle.shapers_stretch.proofs.Postprocessing.{zipped}
use Rattle.shapers_stretch.proofs.Zips.{length-zipped}

-- a text is its parts
onto : {X : Type 0} (x : X) (pieces : List (List X)) → flat_map (λ p. p) (onto_first x pieces)
    ≡ x ∷ flat_map (λ p. p) pieces
onto x [] = refl
onto x (p ∷ pieces) = refl

either : {X : Type 0} (b : Bool) (x : X) (xs : List X) (pieces : List (List X)) → flat_map (λ p. p) pieces ≡ xs
    → flat_map (λ p. p) (cond b ((x ∷ []) ∷ pieces) (onto_first x pieces)) ≡ x ∷ xs
either true x xs pieces e = ap (λ ys. x ∷ ys) e
either false x xs pieces e = cc (onto x pieces)

pieces_join : {X : Type 0} (apart : X → X → Bool) (xs : List X) → flat_map (λ p. p) (cut_between apart xs) ≡ xs
pieces_join apart [] = refl
pieces_join apart (x ∷ xs) = search (arith, pieces_join apart xs)

-- how much longer each part is, and all of them
no_tiles : (part : List Cell) → has_sequence part ≡ false → length (tiles_of part) ≡ 0
no_tiles part e = grind arith

none_repeat : (tiles : List Cell) → length tiles ≡ 0 → length (repeating (glyphs_of tiles)) ≡ 0
none_repeat [] e = refl
none_repeat (t ∷ ts) e = absurd (omega arith)

no_copies : (font : Font) (part : List Cell) → has_sequence part ≡ false → copies_added (sequence_of_part font part) ≡ 0
no_copies = search (arith, none_repeat, no_tiles)

longer_by : (how : Laying) (part : List Cell) (b : Bool) → has_sequence part ≡ b → length (stretched_part how part)
    ≡ length part + copies_added (sequence_of_part how.font part)
longer_by how part true e = run_length how part e
longer_by how part false e = search (arith, no_copies how.font part e)

abbrev copies_of_run : Font → List Cell → ℕ
copies_of_run font part = copies_added (sequence_of_part font part)

parts_longer : (how : Laying) (ps : List (List Cell)) → length (flat_map (stretched_part how) ps)
    ≡ length (flat_map (λ p. p) ps) + sum_by (copies_of_run how.font) ps
parts_longer how [] = refl
parts_longer how (p ∷ ps) = omega (
  arith,
  length-append (stretched_part how p) (flat_map (stretched_part how) ps),
  length-append p (flat_map (λ p. p) ps),
  longer_by how p (has_sequence p) refl,
  parts_longer how ps,
  sum_by-cons (copies_of_run how.font) p ps,
)

length-in_order : {X : Type 0} (r : Bool) (xs : List X) → length (in_working_order r xs) ≡ length xs
length-in_order true xs = refl
length-in_order false xs = length-reverse xs

longer_if : (s : Bool) (x b : Buffer) (n : ℕ) → length x.glyphs ≡ length b.glyphs + n
    → length (cond s x b).glyphs ≡ length b.glyphs + cond s n 0
longer_if true x b n e = e
longer_if false x b n e = omega arith

pub marks_longer : (font : Font) (choice : StretchStart) (b : Buffer) → length b.positions ≡ length b.glyphs
    → length (marks_stretched font choice b).glyphs ≡ length b.glyphs + copies_in font b
marks_longer = search (arith, length-map, length-in_order, parts_longer, pieces_join, length-zipped)

pub grows : {T : Type 0} (font : Font) (choice : StretchStart) (b new : Buffer) (r : Result T ShaperError)
    → length b.positions ≡ length b.glyphs → OnOk r (new ≡ marks_stretched font choice b)
    → OnOk r (length new.glyphs ≡ length b.glyphs + copies_in font b)
grows font choice b new (Ok v) both h = search (arith, marks_longer)
grows font choice b new (Err v) both h = tt

-- the glyphs of copies, and that they have no advance
abbrev copy_id : Copy → ℕ
copy_id copy = copy.tile.0.glyph_id

laid_on-ids : (r : Bool) (pen : ℤ) (cs : List Copy) → ids (laid_on r pen cs) ≡ map copy_id cs
laid_on-ids r pen [] = refl
laid_on-ids r pen (c ∷ cs) = cc (laid_on-ids r (pen_behind r pen c.move) cs)

laid_on-advances : (r : Bool) (pen : ℤ) (cs : List Copy) → map (λ c. c.1.x_advance) (laid_on r pen cs)
    ≡ replicate (length cs) (pos 0)
laid_on-advances r pen [] = refl
laid_on-advances r pen (c ∷ cs) = cc (laid_on-advances r (pen_behind r pen c.move) cs)

flagged_copies-ids : (m : ℕ) (cs : List Copy) → map copy_id (map (flag_copy m) cs) ≡ map copy_id cs
flagged_copies-ids m [] = refl
flagged_copies-ids m (c ∷ cs) = cc (same_id m c.tile.0, flagged_copies-ids m cs)

flagged-ids : (m : ℕ) (cs : List Cell) → ids (map (flag_cell m) cs) ≡ ids cs
flagged-ids m [] = refl
flagged-ids m (c ∷ cs) = cc (same_id m c.0, flagged-ids m cs)

flagged-positions : (m : ℕ) (cs : List Cell) → positions_of (map (flag_cell m) cs) ≡ positions_of cs
flagged-positions m [] = refl
flagged-positions m (c ∷ cs) = cc (flagged-positions m cs)

-- where they stand
laid-offsets : (r : Bool) (from : ℤ) (ps : List (List Copy × Copy))
    → offsets (map (λ p. laid_at (offset r from p.0 p.1) p.1.tile) ps) ≡ map (λ p. offset r from p.0 p.1) ps
laid-offsets r from [] = refl
laid-offsets r from (p ∷ ps) = cc (laid-offsets r from ps)

-- the flagged tiles of a sequence laid
run_laid : (how : Laying) (part : List Cell) → has_sequence part ≡ true → SequenceIsLaid how part (stretched_part how part)
run_laid how part e =
    let z = sequence_of_part how.font part in
    let word = word_of part in
    let tiles = tiles_of part in
    let whole = unbroken (word ++ tiles) in
    let m = least (clusters (glyphs_of (word ++ tiles))) in
    let r = how.right_to_left in
    let from = start how.choice r z in
    let its = copies how.font z tiles in
    let made = laid_sequence how z (drop (length word) whole) in
    let is : made ≡ laid_on r from (map (flag_copy m) its) = search (tiles_are, laid_is, flag_copies) in
    let on = take (length word) whole in
    let over : on ≡ map (flag_cell m) word = search (arith, unbroken_is, map-append, take_at, length-map) in
    let before : before_word part ++ word ≡ before_tiles part = search take-append-drop in
    let long : length made ≡ length (map (flag_copy m) its) =
    search (arith, length-laid, tiles_are, flag_copies) in
    record {
      front = before_word part ++ on;
      copies = made;
      joined = search (arith, append_assoc);
      front_ids = search (arith, map-append, flagged-ids);
      front_positions = search (arith, map-append, flagged-positions);
      tiles = search (arith, laid_on-ids, flagged_copies-ids);
      many = search (arith, length-map, length-copies);
      advances = search (arith, laid_on-advances);
      offsets = cc (flag_offsets r m from its, laid_is r from its, laid-offsets r from (each_after [] its));
      width = moves_hold how.font part;
      covers = widths_hold how.font part;
    }

-- part by part
part_laid : (how : Laying) (part : List Cell) → PartIsLaid how part (stretched_part how part)
part_laid how part = (no_run_length how part, run_laid how part)

parts_laid : (how : Laying) (ps : List (List Cell)) → AllZip (PartIsLaid how) ps (map (stretched_part how) ps)
parts_laid how [] = tt
parts_laid how (p ∷ ps) = (part_laid how p, parts_laid how ps)

text_laid : (how : Laying) (cs : List Cell) → TextIsLaid how cs (stretched how cs)
text_laid how cs = record {
  pieces = map (stretched_part how) (parts_of_text cs);
  before = pieces_join sequence_ends cs;
  after = search flat_map-map;
  each = search parts_laid;
}

-- of a buffer
twice_in_order : {X : Type 0} (r : Bool) (xs : List X) → in_working_order r (in_working_order r xs) ≡ xs
twice_in_order true xs = refl
twice_in_order false xs = reverse-reverse xs

pub stretch_is_as_wide : (font : Font) (choice : StretchStart) (old new : Buffer) → old.stch ≡ true
    → length old.positions ≡ length old.glyphs → new ≡ marks_stretched font choice old
    → (length new.positions ≡ length new.glyphs)
    × TextIsLaid (laying font choice old) (cells_in_order old) (cells_in_order new)
stretch_is_as_wide = search (arith, length-map, zipped, twice_in_order, text_laid)
