-- The last part of a text laid, and what is left to lay.
use Rattle.std.proofs.Common.{◌≡◌, ◌≤◌, ◌<◌, ◌+◌, ◌-◌, ℕ, zero, suc, Bool, true, false, cond, not, ◌&&◌, nat_lt, List, [], ◌∷◌, ◌++◌, length, take, drop, reverse, flat_map, refl, sym, ◌∙◌, ap, arith, subst}
use Rattle.std.specs.List.{suffix_len, zip, AllByRecursion, list_all, list_any, onto_first}
use Rattle.std.proofs.lemmas.List.{drop_all, length-map, append-nil, append_assoc, length-append, length-reverse, length-take-le, take-append-le, drop-append-le, take-append-drop, drop-take, take-take}
use Rattle.std.proofs.lemmas.List.Concat.{flat_map-append}
use Rattle.std.proofs.lemmas.List.Folds.{list_any-append}
use Rattle.std.proofs.lemmas.Slice.Zip.{firsts-zip}
use Rattle.std.proofs.lemmas.Bool.{or_parts}
use borrow.Author.Tests.{lt-true, clash}
use Rattle.shapers_buffer.specs.declared.buffer.glyph.GlyphPosition.{GlyphPosition}
use Rattle.shapers_buffer.specs.Glyphs.{Glyph, Glyphs}
use Rattle.shapers_buffer.specs.Clusters.{stretch_of}
use Rattle.shapers_buffer.proofs.ClusterLemmas.{length-stretch}
use Rattle.shapers_stretch.specs.declared.ot_shaper_arabic_stretch.measuring.TileSequence.{TileSequence}
use Rattle.shapers_stretch.specs.Cells.{Cell, before_tiles, before_word, cut_between, glyphs_of, in_word, is_tile, parts_of_text, positions_of, sequence_ends, tiles_of, word_of}
use Rattle.shapers_stretch.specs.LayingWalk.{CanLaySequence, HasRoomForTiles, IsLaidFrom, IsUnlaid, offsets, text_in_slices, stretched_whole}
use Rattle.shapers_stretch.specs.Measure.{fits_i32, numbers_to_fit}
use Rattle.shapers_stretch.specs.Stretch.{Laying, copies, has_sequence, laid_sequence, measured, overflows, part_overflows, sequence_of_part, stretched, stretched_over, stretched_part, unbroken}
use Rattle.shapers_stretch.proofs.Flagging.{unbroken_is}
use Rattle.shapers_stretch.proofs.LastParts.{last_part_at}
use Rattle.shapers_stretch.proofs.Lengths.{length-copies, length-laid}
use Rattle.shapers_stretch.proofs.RunLaying.{flagged_length}
use Rattle.shapers_stretch.proofs.Zips.{length-zipped, zip-take}

-- the parts of a text together are the text
onto_joined : {X : Type 0} (x : X) (ps : List (List X)) → flat_map (λ p. p) (onto_first x ps) ≡ x ∷ flat_map (λ p. p) ps
onto_joined x [] = refl
onto_joined x (p ∷ ps) = refl

cut_joined_at : {X : Type 0} (b : Bool) (x : X) (ps : List (List X))
    → flat_map (λ p. p) (cond b ((x ∷ []) ∷ ps) (onto_first x ps)) ≡ x ∷ flat_map (λ p. p) ps
cut_joined_at true x ps = refl
cut_joined_at false x ps = onto_joined x ps

cut_joined : {X : Type 0} (apart : X → X → Bool) (xs : List X) → flat_map (λ p. p) (cut_between apart xs) ≡ xs
cut_joined apart [] = refl
cut_joined apart (x ∷ xs) = search (arith, cut_joined apart xs)

flat_grows : {X : Type 0} (f : List X → List X) (ps : List (List X)) → ((p : List X) → length p ≤ length (f p))
    → length (flat_map (λ p. p) ps) ≤ length (flat_map f ps)
flat_grows f [] h = omega arith
flat_grows f (p ∷ ps) h = search (arith, length-append, flat_grows f ps h)

-- how long a part becomes
pub length-over : (how : Laying) (z : TileSequence) (word tiles : List Cell) → length (stretched_over how z word tiles)
    ≡ length word + length (copies how.font z tiles)
length-over =
    search (arith, length-append, length-take-le, unbroken_is, length-map, length-reverse, length-laid, flagged_length)

part_grows_at : (how : Laying) (part : List Cell) (b : Bool) → length part
    ≤ length (cond (not b) part (before_word part ++ stretched_over how (sequence_of_part how.font part) (word_of part)
    (tiles_of part)))
part_grows_at how part false = omega arith
part_grows_at how part true =
    let z = sequence_of_part how.font part in
    let outer : length part ≡ length (before_tiles part) + length (tiles_of part) =
    cc (take-append-drop _ part, length-append (before_tiles part) (tiles_of part)) in
    let inner : length (before_tiles part) ≡ length (before_word part) + length (word_of part) =
    cc (take-append-drop _ (before_tiles part), length-append (before_word part) (word_of part)) in
    search (
      arith,
      length-append (before_word part) (stretched_over how z (word_of part) (tiles_of part)),
      length-over how z (word_of part) (tiles_of part),
      length-copies how.font z (tiles_of part),
    )

pub stretched_longer : (how : Laying) (cs : List Cell) → length cs ≤ length (stretched how cs)
stretched_longer how cs = search (
  arith,
  cut_joined sequence_ends cs,
  flat_grows (stretched_part how) (parts_of_text cs) (λ part. part_grows_at how part (has_sequence part)),
)

-- the parts before the last one, and it

dropped_taken : {X : Type 0} (n m : ℕ) (xs : List X) → n ≤ m → drop n (take m xs) ≡ stretch_of n m xs
dropped_taken n m xs p = ap (λ k. drop n (take k xs)) (omega arith) ∙ drop-take n (m - n) xs

-- What the last part of the text before `end` is, by its places in slices, and what it becomes.
pub record PartOf (how : Laying) (gs : Glyphs) (ps : List GlyphPosition) (s w t end place : ℕ) : Type
    0 where
  pub less : s < end
  pub before_fits : s ≤ w
  pub word_fits : w ≤ t
  pub tiles_fit : t ≤ end
  pub front : overflows how (take s (zip gs ps)) ≡ false
  pub longer : s ≤ length (stretched how (take s (zip gs ps)))
  pub still : t ≡ end → stretched how (text_in_slices end gs ps) ≡ stretched how (take s (zip gs ps))
      ++ stretch_of s end (zip gs ps)
  pub changed : t < end → stretched how (text_in_slices end gs ps) ≡ stretched how (take s (zip gs ps))
      ++ (stretch_of s w (zip gs ps)
      ++ stretched_over how
      (measured how.font (positions_of (stretch_of w t (zip gs ps))) (glyphs_of (stretch_of t end (zip gs ps))))
      (stretch_of w t (zip gs ps)) (stretch_of t end (zip gs ps)))
  pub fits : t < end →
      let z = measured how.font (positions_of (stretch_of w t (zip gs ps)))
      (glyphs_of (stretch_of t end (zip gs ps))) in
      list_all fits_i32 (numbers_to_fit how.choice z ++ offsets (laid_sequence how z (stretch_of t end (zip gs ps)))) ≡ true

same_takes : {X Y : Type 0} (n : ℕ) (xs : List X) (ys : List Y) → length xs ≡ length ys
    → length (take n xs) ≡ length (take n ys)
same_takes zero xs ys e = refl
same_takes (suc n) [] [] e = refl
same_takes (suc n) (x ∷ xs) (y ∷ ys) e = ap suc (same_takes n xs ys (omega arith))
same_takes (suc n) _ _ e = absurd (omega arith)

text_glyphs : (end : ℕ) (gs : Glyphs) (ps : List GlyphPosition) → length gs ≡ length ps
    → glyphs_of (text_in_slices end gs ps) ≡ take end gs
text_glyphs = search (arith, zip-take, firsts-zip, same_takes)

not_false : (a b : Bool) → a ≡ true → (a && not b) ≡ false → b ≡ true
not_false true true p e = refl
not_false true false p e = absurd (clash (sym e))
not_false false b p e = absurd (clash p)

pub part_unlaid : (how : Laying) (gs : Glyphs) (ps : List GlyphPosition) (s w t end place : ℕ) → 0 < end
    → IsUnlaid how gs ps end place → t + suffix_len is_tile (take end gs) ≡ length (take end gs)
    → w + suffix_len in_word (take t (take end gs)) ≡ t → s + suffix_len (λ g. not (is_tile g)) (take w (take end gs))
    ≡ w → PartOf how gs ps s w t end place
part_unlaid how gs ps s w t end place some u e f h =
    let cells = zip gs ps in
    let cs = text_in_slices end gs ps in
    let long = length-zipped gs ps u.both in
    let whole : length cs ≡ end = search (arith, length-take-le) in
    let P : Glyphs → Type 0 = λ xs. (t + suffix_len is_tile xs ≡ length xs)
    × ((w + suffix_len in_word (take t xs) ≡ t) × (s + suffix_len (λ g. not (is_tile g)) (take w xs) ≡ w)) in
    let on = subst P (sym (text_glyphs end gs ps u.both)) (e, (f, h)) in
    let l = last_part_at cs s w t (omega arith) on.0 on.1.0 on.1.1 in
    let s_end : s ≤ end = omega arith in
    let t_end : t ≤ end = omega arith in
    let front = take-take s end cells s_end in
    let before : before_word (drop s cs) ≡ stretch_of s w cells =
    l.before_is ∙ ap (drop s) (take-take w end cells (omega arith)) ∙ dropped_taken s w cells l.before_fits in
    let word = l.word_is ∙ ap (drop w) (take-take t end cells t_end) ∙ dropped_taken w t cells l.word_fits in
    let tiles = l.tiles_is ∙ dropped_taken t end cells t_end in
    let count = ap length tiles ∙ length-stretch t end cells (omega arith) in
    let split =
    ap (flat_map (stretched_part how)) l.parted
    ∙ flat_map-append (stretched_part how) (parts_of_text (take s cs)) (drop s cs ∷ [])
    ∙ ap (λ x. stretched how (take s cs) ++ x) (append-nil (stretched_part how (drop s cs)))
    ∙ ap (λ x. stretched how x ++ stretched_part how (drop s cs)) front in
    let none = or_parts _ _ (sym (ap (list_any (part_overflows how)) l.parted
    ∙ list_any-append (part_overflows how) (parts_of_text (take s cs)) (drop s cs ∷ [])) ∙ u.fits) in
    let has : t < end → has_sequence (drop s cs) ≡ true = λ p. ap (nat_lt 0) count
    ∙ sym (lt-true 0 (end - t) (omega arith)) in
    let hasnt : t ≡ end → has_sequence (drop s cs) ≡ false = λ p. let zero : end - t ≡ 0 =
    omega arith in ap (nat_lt 0) (count ∙ zero) in
    let Z : List Cell → List Cell → TileSequence = λ x y. measured how.font (positions_of x) (glyphs_of y) in
    record {
      less = omega arith;
      before_fits = l.before_fits;
      word_fits = l.word_fits;
      tiles_fit = t_end;
      front = ap (overflows how) (sym front) ∙ none.0;
      longer = omega (
        arith,
        stretched_longer how (take s cells),
        length-take-le s cells (omega arith),
      );
      still = λ p. split ∙ ap (λ x. stretched how (take s cells) ++ x) (ap (λ b. cond (not b) (drop s cs)
          (before_word (drop s cs) ++ stretched_over how (sequence_of_part how.font (drop s cs)) (word_of (drop s cs))
          (tiles_of (drop s cs)))) (hasnt p) ∙ dropped_taken s end cells s_end);
      changed = λ p. split ∙ ap (λ x. stretched how (take s cells) ++ x)
          (ap (λ b. cond (not b) (drop s cs) (before_word (drop s cs) ++ stretched_over how (sequence_of_part how.font (drop s
          cs)) (word_of (drop s cs)) (tiles_of (drop s cs)))) (has p) ∙ ap (λ x. x ++ stretched_over how (Z (word_of
          (drop s cs)) (tiles_of (drop s cs))) (word_of (drop s cs)) (tiles_of (drop s cs))) before ∙ ap (λ x. stretch_of
          s w cells ++ stretched_over how (Z x (tiles_of (drop s cs))) x (tiles_of (drop s cs))) word ∙ ap (λ x.
          stretch_of s w cells ++ stretched_over how (Z (stretch_of w t cells) x) (stretch_of w t cells) x) tiles);
      fits = λ p. sym
          (ap (λ x. list_all fits_i32 (numbers_to_fit how.choice (Z x (tiles_of (drop s cs))) ++ offsets (laid_sequence how (Z
          x (tiles_of (drop s cs))) (tiles_of (drop s cs))))) word ∙ ap (λ x. list_all fits_i32 (numbers_to_fit
          how.choice (Z (stretch_of w t cells) x) ++ offsets (laid_sequence how (Z (stretch_of w t cells) x) x))) tiles)
          ∙ not_false (has_sequence (drop s cs)) _ (has p) (or_parts _ _ none.1).0;
    }

-- so its sequence can be laid
pub part_can : (how : Laying) (gs : Glyphs) (ps : List GlyphPosition) (s w t end place : ℕ) → t < end
    → IsUnlaid how gs ps end place → PartOf how gs ps s w t end place
    → CanLaySequence how (stretch_of w t (zip gs ps)) (stretch_of t end (zip gs ps)) t end place gs ps
part_can how gs ps s w t end place some u l =
    search (arith, length-append, length-stretch, length-zipped, length-over)

-- what is left: the text before the part
all_less : (P : Glyph → Type 0) (s e : ℕ) (gs : Glyphs) → s ≤ e → AllByRecursion P (take e gs)
    → AllByRecursion P (take s gs)
all_less P (suc s) zero gs p all = absurd (omega arith)
all_less P (suc s) (suc e) (g ∷ gs) p all = (all.0, all_less P s e gs (omega arith) all.1)
all_less P _ _ _ p all = tt

pub left_over : (how : Laying) (gs us : Glyphs) (ps vs : List GlyphPosition) (s w t end place q : ℕ)
    (became : List Cell) → IsUnlaid how gs ps end place → PartOf how gs ps s w t end place → length us ≡ length gs
    → length us ≡ length vs → stretched how (text_in_slices end gs ps) ≡ stretched how (take s (zip gs ps)) ++ became
    → q + length became ≡ place → take s (zip us vs) ≡ take s (zip gs ps)
    → drop q (zip us vs) ≡ became ++ drop place (zip gs ps)
    → IsLaidFrom how (stretched_whole how gs ps end place) us vs s q
left_over how gs us ps vs s w t end place q became u l same both split count kept behind =
    let cells = zip gs ps in
    let front = stretched how (take s cells) in
    search (arith, length-append front became, text_glyphs s us vs both, text_glyphs s gs ps u.both, all_less (λ g. g.glyph_id ≤ 65535) s end gs (omega arith) u.glyph_numbers, append_assoc front became (drop place cells))

-- a part without a sequence moves up
pub part_moved : (how : Laying) (gs us : Glyphs) (ps vs : List GlyphPosition) (s w t end place : ℕ) → t ≡ end
    → IsUnlaid how gs ps end place → PartOf how gs ps s w t end place → length us ≡ length gs → length us ≡ length vs
    → let q = place - (t - s) in take q (zip us vs) ≡ take q (zip gs ps)
    → drop q (zip us vs) ≡ stretch_of s t (zip gs ps) ++ drop place (zip gs ps)
    → IsLaidFrom how (stretched_whole how gs ps end place) us vs s q
part_moved how gs us ps vs s w t end place none u l same both kept up =
    let cells = zip gs ps in
    let q = place - (t - s) in
    let long : length cells ≡ length gs = length-zipped gs ps u.both in
    let became = stretch_of s end cells in
    let size : length became ≡ end - s = search (arith, length-stretch) in
    let below : s ≤ q = omega arith in
    left_over how gs us ps vs s w t end place q became u l same both (l.still none)
    (omega arith) (cc (take-take s q (zip us vs) below, take-take s q cells below)) (cc)

-- a part with a sequence: it is laid, and what stands before it moves up
pub part_laid : (how : Laying) (gs hs us : Glyphs) (ps qs vs : List GlyphPosition) (s w t end place p : ℕ)
    → t < end → IsUnlaid how gs ps end place → PartOf how gs ps s w t end place → length hs ≡ length gs
    → length us ≡ length hs → length us ≡ length vs →
    let q = p - (t - s) in
    let word = stretch_of w t (zip gs ps) in
    let tiles = stretch_of t end (zip gs ps) in
    let z = measured how.font (positions_of word) (glyphs_of tiles) in
    take t (zip hs qs) ≡ take w (zip gs ps) ++ take (length word) (unbroken (word ++ tiles)) →
    drop p (zip hs qs) ≡ reverse (laid_sequence how z (drop (length word) (unbroken (word ++ tiles))))
    ++ drop place (zip gs ps) → p + length (copies how.font z tiles) ≡ place →
    take q (zip us vs) ≡ take q (zip hs qs) → drop q (zip us vs) ≡ stretch_of s t (zip hs qs) ++ drop p (zip hs qs)
    → IsLaidFrom how (stretched_whole how gs ps end place) us vs s q
part_laid how gs hs us ps qs vs s w t end place p some u l same same_too both flagged laid count kept up =
    let cells = zip gs ps in
    let now = zip hs qs in
    let q = p - (t - s) in
    let word = stretch_of w t cells in
    let tiles = stretch_of t end cells in
    let z = measured how.font (positions_of word) (glyphs_of tiles) in
    let whole = unbroken (word ++ tiles) in
    let long : length cells ≡ length gs = length-zipped gs ps u.both in
    let ahead : t ≤ p = omega (arith, (part_can how gs ps s w t end place some u l).room) in
    let below : s ≤ q = search arith in
    let before : length (take w cells) ≡ w =
    search (arith, length-take-le) in
    let became = stretch_of s w cells ++ stretched_over how z word tiles in
    let size : length became ≡ (w - s) + ((t - w) + length (copies how.font z tiles)) =
    search (arith, length-append, length-stretch, length-over) in
    let fronted : take s now ≡ take s cells =
    cc (
      take-take s t now (omega (arith, l.before_fits, l.word_fits)),
      take-append-le s (take w cells) (take (length word) whole) (omega (arith, before, l.before_fits)),
      take-take s w cells l.before_fits,
    ) in
    let moved : stretch_of s t now ≡ stretch_of s w cells ++ take (length word) whole =
    cc (
      dropped_taken s t now (omega (arith, l.before_fits, l.word_fits)),
      drop-append-le s (take w cells) (take (length word) whole) (omega (arith, before, l.before_fits)),
      dropped_taken s w cells l.before_fits,
    ) in
    left_over how gs us ps vs s w t end place q became u l (same_too ∙ same) both (l.changed some) (search arith)
    (cc (take-take s q (zip us vs) below, take-take s q now below)) (search (arith, append_assoc))

-- the start: all is left; and the end: nothing is
pub all_left : (how : Laying) (gs : Glyphs) (ps : List GlyphPosition) (len : ℕ)
    → HasRoomForTiles how gs ps len → IsLaidFrom how (stretched how (text_in_slices len gs ps)) gs ps len (length gs)
all_left = search (arith, length-zipped, drop_all, append-nil)

pub none_left : (how : Laying) (whole : List Cell) (gs : Glyphs) (ps : List GlyphPosition) (end place : ℕ)
    → end ≤ 0 → IsLaidFrom how whole gs ps end place → zip gs ps ≡ whole
none_left how whole gs ps zero place p l = search arith
none_left how whole gs ps (suc end) place p l = absurd (omega arith)
