-- A stretched text cut in two: what is made of it is what is made of the halves, unless the cut falls inside a word with
-- its run, all of which is flagged.
use Rattle.std.proofs.Common.{ℕ, zero, suc, ◌<◌, ◌≤◌, ◌≡◌, ◌⊎◌, Bool, true, false, cond, not, List, [], ◌∷◌, ◌++◌, ℤ, length, map, take, drop, reverse, get_or, inl, inr, refl, sym, ap, subst, ◌∙◌, arith, length-append}
use Rattle.std.specs.Prelude.{nat_lt}
use Rattle.std.specs.List.{AllByRecursion, flat_map, list_all, suffix_len}
use Rattle.std.proofs.lemmas.Bool.{and_from, and_parts, cases_lt, lt-ltb, not-true}
use Rattle.std.proofs.lemmas.List.{append-nil, append_assoc, length-map, map-append, reverse-reverse, take_at}
use Rattle.std.proofs.lemmas.List.Folds.{list_all-append}
use Rattle.shapers_buffer.specs.Glyphs.{Glyph, Glyphs}
use Rattle.shapers_buffer.specs.Clusters.{least}
use Rattle.shapers_buffer.specs.Glyph.{clusters}
use Rattle.shapers_buffer.specs.GlyphFlags.{with_bits_off}
use Rattle.shapers_buffer.specs.Lists.{before_last_stretch, each_after, last_stretch}
use Rattle.shapers_buffer.proofs.ListLaws.{last_of, suffix_len_no}
use Rattle.shapers_buffer.proofs.MappedLists.{all-append}
use Rattle.shapers_base.specs.Font.{Font}
use Rattle.shapers_clusters.proofs.ClusterMerges.{least-le}
use Rattle.shapers_buffer.specs.declared.buffer.glyph.GlyphPosition.{GlyphPosition}
use Rattle.shapers_stretch.specs.Cells.{Cell, before_word, glyphs_of, in_word, is_tile, parts_of_text, positions_of, tiles_of, word_of}
use Rattle.shapers_stretch.specs.Measure.{start}
use Rattle.shapers_stretch.specs.Stretch.{Copy, Laying, copies, copies_of, has_sequence, laid_at, laid_sequence, measured, offset, stretched, stretched_over, stretched_part, unbroken}
use Rattle.shapers_stretch.proofs.Flagging.{flag_cell, tiles_are, unbroken_is}
use Rattle.shapers_stretch.proofs.LastParts.{as_one_part, last_run_after, run_split, stops_behind}
use Rattle.shapers_stretch.proofs.Parts.{parts-append}
use Rattle.shapers_stretch.proofs.StretchFlags.{every_reverse}
use Rattle.shapers_clusters.proofs.LabelsAsMerged.{all_split}

abbrev tile : Cell → Bool
tile c = is_tile c.0

abbrev other : Cell → Bool
other c = not (is_tile c.0)

abbrev wordly : Cell → Bool
wordly c = in_word c.0

-- LISTS
-- where a list is two lists in two ways, and the first of the one is no longer, what lies between the cuts
two_cuts : {X : Type 0} (xs ps ys rest : List X) → xs ++ ys ≡ ps ++ rest → length xs ≤ length ps
    → (zs : List X) × ((ps ≡ xs ++ zs) × (ys ≡ zs ++ rest))
two_cuts [] ps ys rest same short = (ps, (refl, same))
two_cuts (x ∷ xs) [] ys rest same short = absurd (omega (arith, short))
two_cuts (x ∷ xs) (p ∷ ps) ys rest same short =
    let first : p ≡ x = sym (ap (λ l. get_or l 0 x) same) in
    let (zs, (front, back)) = two_cuts xs ps ys rest (ap (drop 1) same) (omega (arith, short)) in
    (zs, (ap (λ y. y ∷ ps) first ∙ ap (λ l. x ∷ l) front, back))

pub all_back : {X : Type 0} (P : X → Type 0) (xs : List X) → AllByRecursion P (reverse xs) → AllByRecursion P xs
all_back P xs all = subst (AllByRecursion P) (reverse-reverse xs) (every_reverse P (reverse xs) all)

-- a list of which none passes ends with no run
no_tiles : (xs : List Cell) → list_all other xs ≡ true → suffix_len tile xs ≡ 0
no_tiles xs all = elim (last_of xs) [
  | inl empty ↦ ap (suffix_len tile) empty
  | inr p ↦
      let parts = and_parts _ _ (sym (list_all-append other p.front (p.last ∷ [])) ∙ ap (list_all other) (sym p.parts)
      ∙ all) in
      let fails = not-true (tile p.last) (and_parts (other p.last) true parts.1).0 in
      ap (suffix_len tile) p.parts ∙ suffix_len_no tile p.front p.last fails
]

split_all : {X : Type 0} (test : X → Bool) (xs ys : List X) → list_all test (xs ++ ys) ≡ true
    → (list_all test xs ≡ true) × (list_all test ys ≡ true)
split_all test xs ys all = and_parts _ _ (sym (list_all-append test xs ys) ∙ all)

-- THE FIRST PART
-- what stands behind a part begins with no tile, and the part ends with one
abbrev Follows : List Cell → List Cell → Type 0
Follows tiles rest = (b : Cell) (bs : List Cell) → rest ≡ b ∷ bs → (tile b ≡ false) × (0 < length tiles)

record FirstPart (cs : List Cell) : Type 0 where
  others : List Cell
  tiles : List Cell
  rest : List Cell
  whole : cs ≡ (others ++ tiles) ++ rest
  are_others : list_all other others ≡ true
  are_tiles : list_all tile tiles ≡ true
  follows : Follows tiles rest

tile_first : (c : Cell) (cs : List Cell) → tile c ≡ true → FirstPart cs → FirstPart (c ∷ cs)
tile_first c cs is r =
    let one : list_all tile (c ∷ []) ≡ true = and_from _ _ is refl in
    elim r.others as (λ os. r.others ≡ os → FirstPart (c ∷ cs)) [
      | [] ↦ λ none. record {
        others = [];
        tiles = c ∷ r.tiles;
        rest = r.rest;
        whole = ap (λ l. c ∷ l) (r.whole ∙ ap (λ os. (os ++ r.tiles) ++ r.rest) none);
        are_others = refl;
        are_tiles = and_from _ _ is r.are_tiles;
        follows = λ b bs e. ((r.follows b bs e).0, omega arith);
      }
      | o ∷ os ↦ λ some. record {
        others = [];
        tiles = c ∷ [];
        rest = cs;
        whole = refl;
        are_others = refl;
        are_tiles = one;
        follows = λ b bs e.
            let first : b ≡ o = sym (ap (λ l. get_or l 0 b) e)
            ∙ ap (λ l. get_or l 0 b) (r.whole ∙ ap (λ us. (us ++ r.tiles) ++ r.rest) some) in
            let fails : tile o ≡ false = not-true (tile o) (and_parts (other o) (list_all other os)
            (ap (list_all other) (sym some) ∙ r.are_others)).0 in
            (ap tile first ∙ fails, omega arith);
      }
    ] refl

other_first : (c : Cell) (cs : List Cell) → tile c ≡ false → FirstPart cs → FirstPart (c ∷ cs)
other_first c cs is r = record {
  others = c ∷ r.others;
  tiles = r.tiles;
  rest = r.rest;
  whole = ap (λ l. c ∷ l) r.whole;
  are_others = and_from _ _ (ap not is) r.are_others;
  are_tiles = r.are_tiles;
  follows = r.follows;
}

first_part_of : (cs : List Cell) → FirstPart cs
first_part_of [] = record {
  others = [];
  tiles = [];
  rest = [];
  whole = refl;
  are_others = refl;
  are_tiles = refl;
  follows = λ b bs e. absurd (omega (arith, ap length e));
}
first_part_of (c ∷ cs) =
    let r = first_part_of cs in
    elim (tile c) as (λ b. tile c ≡ b → FirstPart (c ∷ cs)) [
      | true ↦ λ is. tile_first c cs is r
      | false ↦ λ is. other_first c cs is r
    ] refl

-- it is a part
one_then : (others tiles rest : List Cell) → list_all other others ≡ true → list_all tile tiles ≡ true
    → 0 < length (others ++ tiles) → Follows tiles rest → parts_of_text ((others ++ tiles) ++ rest)
    ≡ (others ++ tiles) ∷ parts_of_text rest
one_then others tiles [] os ts some follows = ap parts_of_text (append-nil (others ++ tiles))
    ∙ as_one_part others tiles os ts some
one_then others tiles (b ∷ bs) os ts some follows =
    let (opens, behind) = follows b bs refl in
    elim (last_of tiles) [
      | inl none ↦ absurd (omega (arith, ap length none, behind))
      | inr p ↦
          let last = (split_all tile p.front (p.last ∷ []) (ap (list_all tile) (sym p.parts) ∙ ts)).1 in
          let is = (and_parts (tile p.last) true last).0 in
          let whole : others ++ tiles ≡ (others ++ p.front) ++ p.last ∷ [] = ap (λ l. others ++ l) p.parts
          ∙ sym (append_assoc others p.front (p.last ∷ [])) in
          ap (λ l. parts_of_text (l ++ b ∷ bs)) whole
          ∙ parts-append (others ++ p.front) p.last b bs is opens
          ∙ ap (λ l. parts_of_text l ++ parts_of_text (b ∷ bs)) (sym whole)
          ∙ ap (λ l. l ++ parts_of_text (b ∷ bs)) (as_one_part others tiles os ts some)
    ]

stretched_first : (how : Laying) (others tiles rest : List Cell) → list_all other others ≡ true
    → list_all tile tiles ≡ true → 0 < length (others ++ tiles) → Follows tiles rest
    → stretched how ((others ++ tiles) ++ rest) ≡ stretched_part how (others ++ tiles) ++ stretched how rest
stretched_first how others tiles rest os ts some follows =
    ap (flat_map (stretched_part how)) (one_then others tiles rest os ts some follows)

-- ONE PART
-- without tiles it stays
made_without_run : (how : Laying) (xs : List Cell) → list_all other xs ≡ true → stretched_part how xs ≡ xs
made_without_run how xs os =
    let tiles = (last_run_after tile xs [] (no_tiles xs os) refl).0 in
    let none : has_sequence xs ≡ false = ap (λ l. nat_lt 0 (length (tiles_of l))) (sym (append-nil xs))
    ∙ ap (λ l. nat_lt 0 (length l)) tiles in
    ap (λ b. cond (not b) xs
    (before_word xs ++ stretched_over how (measured how.font (positions_of (word_of xs)) (glyphs_of (tiles_of xs)))
    (word_of xs) (tiles_of xs))) none

-- what a run with its word becomes
abbrev run_made : Laying → List Cell → List Cell → List Cell
run_made how word tiles =
    stretched_over how (measured how.font (positions_of word) (glyphs_of tiles)) word tiles

made_with_run : (how : Laying) (before word tiles : List Cell) → list_all other (before ++ word) ≡ true
    → list_all tile tiles ≡ true → 0 < length tiles → suffix_len wordly before ≡ 0 → list_all wordly word ≡ true
    → stretched_part how ((before ++ word) ++ tiles) ≡ before ++ run_made how word tiles
made_with_run how before word tiles os ts some stops passes =
    let part = (before ++ word) ++ tiles in
    let (tiles_is, before_tiles_is) = last_run_after tile (before ++ word) tiles (no_tiles (before ++ word) os) ts in
    let (run_is, front_is) = last_run_after wordly before word stops passes in
    let word_is : word_of part ≡ word = ap (last_stretch wordly) before_tiles_is ∙ run_is in
    let before_is : before_word part ≡ before = ap (before_last_stretch wordly) before_tiles_is ∙ front_is in
    let has : has_sequence part ≡ true = ap (λ l. nat_lt 0 (length l)) tiles_is ∙ lt-ltb 0 (length tiles) some in
    ap (λ b. cond (not b) part (before_word part ++ run_made how (word_of part) (tiles_of part))) has
    ∙ ap (λ l. l ++ run_made how (word_of part) (tiles_of part)) before_is
    ∙ ap (λ l. before ++ run_made how l (tiles_of part)) word_is
    ∙ ap (λ l. before ++ run_made how word l) tiles_is

-- WHAT SHOWS OF FLAGGED CELLS
-- the glyphs of cells fail a test
abbrev pub NoneOf : (Glyph → Bool) → List Cell → Type 0
NoneOf test cs = AllByRecursion (λ c. test c.0 ≡ false) cs

laid_shows : (test : Glyph → Bool) (right_to_left : Bool) (from : ℤ) (before cs : List Copy)
    → NoneOf test (map (λ p. laid_at (offset right_to_left from p.0 p.1) p.1.tile) (each_after before cs))
    → AllByRecursion (λ copy. test copy.tile.0 ≡ false) cs
laid_shows test right_to_left from before [] all = tt
laid_shows test right_to_left from before (c ∷ cs) all =
    (all.0, laid_shows test right_to_left from (before ++ c ∷ []) cs all.1)

copies_show : (test : Glyph → Bool) (font : Font) (ps : List GlyphPosition) (ms : Glyphs)
    (ts : List Cell) → AllByRecursion (λ (copy : Copy). test copy.tile.0 ≡ false) (flat_map (copies_of font
    (measured font ps ms)) ts) → NoneOf test ts
copies_show test font ps ms [] all = tt
copies_show test font ps ms (t ∷ ts) all =
    let z = measured font ps ms in
    let (first, second) = all_split (λ (copy : Copy). test copy.tile.0 ≡ false) (copies_of font z t)
    (flat_map (copies_of font z) ts) all in
    (first.0, copies_show test font ps ms ts second)

run_shows : (test : Glyph → Bool) (how : Laying) (ps : List GlyphPosition) (ms : Glyphs)
    (ts : List Cell) → NoneOf test (reverse (laid_sequence how (measured how.font ps ms) ts)) → NoneOf test ts
run_shows test how ps ms ts all =
    let z = measured how.font ps ms in
    all_back (λ c. test c.0 ≡ false) ts
    (copies_show test how.font ps ms (reverse ts)
    (laid_shows test how.right_to_left (start how.choice how.right_to_left z) [] (copies how.font z ts)
    (all_back (λ c. test c.0 ≡ false) (laid_sequence how z ts) all)))

over_shows : (test : Glyph → Bool) (how : Laying) (ps : List GlyphPosition) (ms : Glyphs)
    (word tiles : List Cell) → NoneOf test (stretched_over how (measured how.font ps ms) word tiles)
    → NoneOf test (map (flag_cell (least (clusters (glyphs_of (word ++ tiles))))) (word ++ tiles))
over_shows test how ps ms word tiles all =
    let z = measured how.font ps ms in
    let f = flag_cell (least (clusters (glyphs_of (word ++ tiles)))) in
    let whole = unbroken (word ++ tiles) in
    let (first, second) = all_split (λ c. test c.0 ≡ false) (take (length word) whole)
    (reverse (laid_sequence how z (drop (length word) whole))) all in
    let word_is : take (length word) whole ≡ map f word =
    ap (take (length word)) (unbroken_is (word ++ tiles) ∙ map-append f word tiles)
    ∙ take_at (map f word) (map f tiles) (length word) (length-map word f) in
    let tiles_is : NoneOf test (map f tiles) =
    subst (NoneOf test) (tiles_are word tiles) (run_shows test how ps ms (drop (length word) whole) second) in
    subst (NoneOf test) (sym (map-append f word tiles))
    (all-append (λ c. test c.0 ≡ false) (map f word) (map f tiles) (subst (NoneOf test) word_is first) tiles_is)

-- The cut falls between cells a and b of one word with its run: both stand flagged in what is made.
pub record InsideRun (how : Laying) (xs ys : List Cell) : Type 0 where
  pub front : List Cell
  pub a : Cell
  pub b : Cell
  pub back : List Cell
  pub first : xs ≡ front ++ a ∷ []
  pub second : ys ≡ b ∷ back
  pub least : ℕ
  pub low_a : least ≤ a.0.cluster
  pub low_b : least ≤ b.0.cluster
  pub shown : (test : Glyph → Bool) → NoneOf test (stretched how (xs ++ ys))
      → (test (with_bits_off 3 least a.0) ≡ false) × (test (with_bits_off 3 least b.0) ≡ false)

least_of : (cs : List Cell) (front : List Cell) (c : Cell) (back : List Cell) → cs ≡ front ++ c ∷ back
    → least (clusters (glyphs_of cs)) ≤ c.0.cluster
least_of cs front c back is =
    let value : get_or (clusters (glyphs_of (front ++ c ∷ back))) (length front) 0 ≡ c.0.cluster = at_seam front c back in
    let inside : length front < length (clusters (glyphs_of (front ++ c ∷ back))) =
    omega (
      arith,
      length-map (glyphs_of (front ++ c ∷ back)) (λ (g : Glyph). g.cluster),
      length-map (front ++ c ∷ back) (λ (d : Cell). d.0),
      length-append front (c ∷ back),
    ) in
    let low = least-le (clusters (glyphs_of (front ++ c ∷ back))) (length front) inside in
    let same = ap (λ l. least (clusters (glyphs_of l))) is in
    omega (arith, low, value, same)
  where
    at_seam : (fs : List Cell) (c : Cell) (bs : List Cell)
        → get_or (clusters (glyphs_of (fs ++ c ∷ bs))) (length fs) 0 ≡ c.0.cluster
    at_seam [] c bs = refl
    at_seam (f ∷ fs) c bs = at_seam fs c bs

-- of the cells of a word with its run, l before the cut and r behind it
inside_run : (how : Laying) (xs ys before word tiles l r more : List Cell) → word ++ tiles ≡ l ++ r → 0 < length l
    → 0 < length r → xs ≡ before ++ l → ys ≡ r ++ more
    → stretched how (xs ++ ys) ≡ (before ++ run_made how word tiles) ++ stretched how more → InsideRun how xs ys
inside_run how xs ys before word tiles l [] more cut some behind first second made = absurd (omega (arith, behind))
inside_run how xs ys before word tiles l (b ∷ rs) more cut some behind first second made = elim (last_of l) [
  | inl none ↦ absurd (omega (arith, ap length none, some))
  | inr p ↦
      let m = least (clusters (glyphs_of (word ++ tiles))) in
      let whole : word ++ tiles ≡ p.front ++ p.last ∷ (b ∷ rs) = cut ∙ ap (λ zs. zs ++ b ∷ rs) p.parts
      ∙ append_assoc p.front (p.last ∷ []) (b ∷ rs) in
      record {
        front = before ++ p.front;
        a = p.last;
        b = b;
        back = rs ++ more;
        first = first ∙ ap (λ zs. before ++ zs) p.parts ∙ sym (append_assoc before p.front (p.last ∷ []));
        second = second;
        least = m;
        low_a = least_of (word ++ tiles) p.front p.last (b ∷ rs) whole;
        low_b = least_of (word ++ tiles) (p.front ++ p.last ∷ []) b rs (whole
            ∙ sym (append_assoc p.front (p.last ∷ []) (b ∷ rs)));
        shown = λ test none.
            let P : Cell → Type 0 = λ c. test c.0 ≡ false in
            let part = (all_split P (before ++ run_made how word tiles) (stretched how more)
            (subst (NoneOf test) made none)).0 in
            let run = (all_split P before (run_made how word tiles) part).1 in
            let flags = over_shows test how (positions_of word) (glyphs_of tiles) word tiles run in
            let cells = subst (λ zs. NoneOf test (map (flag_cell m) zs)) whole flags in
            let behind = (all_split P (map (flag_cell m) p.front) (map (flag_cell m) (p.last ∷ (b ∷ rs)))
            (subst (NoneOf test) (map-append (flag_cell m) p.front (p.last ∷ (b ∷ rs))) cells)).1 in
            (behind.0, behind.1.0);
      }
]

-- THE CUT
abbrev pub Cut : Laying → List Cell → List Cell → Type 0
Cut how xs ys = (stretched how (xs ++ ys) ≡ stretched how xs ++ stretched how ys) ⊎ InsideRun how xs ys

-- before or inside the word of a part
cut_in_others : (how : Laying) (xs others tiles rest : List Cell) → 0 < length xs
    → list_all other (xs ++ others) ≡ true → list_all tile tiles ≡ true → 0 < length (others ++ tiles)
    → Follows tiles rest → Cut how xs ((others ++ tiles) ++ rest)
cut_in_others how xs others tiles rest some os ts behind follows =
    let (xo, yo) = split_all other xs others os in
    let empty = append-nil xs in
    let all : (xs ++ others) ++ tiles ≡ xs ++ (others ++ tiles) = append_assoc xs others tiles in
    let text : xs ++ ((others ++ tiles) ++ rest) ≡ ((xs ++ others) ++ tiles) ++ rest =
    sym (append_assoc xs (others ++ tiles) rest) ∙ ap (λ l. l ++ rest) (sym all) in
    let whole : stretched how (xs ++ ((others ++ tiles) ++ rest))
    ≡ stretched_part how ((xs ++ others) ++ tiles) ++ stretched how rest =
    ap (stretched how) text
    ∙ stretched_first how (xs ++ others) tiles rest os ts
    (omega (arith, ap length all, length-append xs (others ++ tiles), some)) follows in
    let front : stretched how xs ≡ xs =
    ap (stretched how) (sym (append-nil xs) ∙ sym (append-nil (xs ++ [])))
    ∙ stretched_first how xs [] [] xo refl (omega (arith, ap length empty, some)) (λ b bs e. absurd
    (omega (arith, ap length e)))
    ∙ append-nil (stretched_part how (xs ++ []))
    ∙ ap (stretched_part how) empty
    ∙ made_without_run how xs xo in
    let back = stretched_first how others tiles rest yo ts behind follows in
    let joined : stretched_part how ((xs ++ others) ++ tiles) ≡ xs ++ stretched_part how (others ++ tiles)
    → Cut how xs ((others ++ tiles) ++ rest) = λ parts. inl (whole
    ∙ ap (λ l. l ++ stretched how rest) parts
    ∙ append_assoc xs (stretched_part how (others ++ tiles)) (stretched how rest)
    ∙ ap (λ l. xs ++ l) (sym back)
    ∙ ap (λ l. l ++ stretched how ((others ++ tiles) ++ rest)) (sym front)) in
    elim (cases_lt 0 (length tiles)) [
      | inr none ↦
          let nothing : tiles ≡ [] = empty_list tiles none in
          joined (ap (λ l. stretched_part how ((xs ++ others) ++ l)) nothing
          ∙ ap (stretched_part how) (append-nil (xs ++ others))
          ∙ made_without_run how (xs ++ others) os
          ∙ ap (λ l. xs ++ l) (sym (ap (λ l. stretched_part how (others ++ l)) nothing
          ∙ ap (stretched_part how) (append-nil others) ∙ made_without_run how others yo)))
      | inl run ↦
          let r = run_split wordly (xs ++ others) in
          let parts_os : list_all other (r.front ++ r.sequence) ≡ true = ap (list_all other) (sym r.whole) ∙ os in
          let part : stretched_part how ((xs ++ others) ++ tiles) ≡ r.front ++ run_made how r.sequence tiles =
          ap (λ l. stretched_part how (l ++ tiles)) r.whole
          ∙ made_with_run how r.front r.sequence tiles parts_os ts run r.stops r.passes in
          elim (cases_lt (length r.front) (length xs)) [
            | inl inside ↦
                let (w, (first, second)) = two_cuts r.front xs r.sequence others (sym r.whole) (omega (arith, inside)) in
                inr (inside_run how xs ((others ++ tiles) ++ rest) r.front r.sequence tiles w (others ++ tiles) rest
                (ap (λ l. l ++ tiles) second ∙ append_assoc w others tiles)
                (omega (arith, ap length first, length-append r.front w, inside)) behind first refl
                (whole ∙ ap (λ l. l ++ stretched how rest) part))
            | inr before ↦
                let (bs, (first, second)) = two_cuts xs r.front others r.sequence r.whole before in
                let own : list_all other (bs ++ r.sequence) ≡ true = ap (list_all other) (sym second) ∙ yo in
                let stops = stops_behind wordly xs bs (ap (suffix_len wordly) (sym first) ∙ r.stops) in
                joined (part
                ∙ ap (λ l. l ++ run_made how r.sequence tiles) first
                ∙ append_assoc xs bs (run_made how r.sequence tiles)
                ∙ ap (λ l. xs ++ l) (sym (ap (λ l. stretched_part how (l ++ tiles)) second
                ∙ made_with_run how bs r.sequence tiles own ts run stops r.passes)))
          ]
    ]
  where
    empty_list : (ts : List Cell) → length ts ≤ 0 → ts ≡ []
    empty_list [] none = refl
    empty_list (t ∷ ts) none = absurd (omega (arith, none))

-- inside the run
cut_in_tiles : (how : Laying) (others ts us rest : List Cell) → list_all other others ≡ true
    → list_all tile (ts ++ us) ≡ true → 0 < length ts → 0 < length us → Follows (ts ++ us) rest
    → Cut how (others ++ ts) (us ++ rest)
cut_in_tiles how others ts us rest os all some behind follows =
    let r = run_split wordly others in
    let tiles = ts ++ us in
    let many : 0 < length tiles = omega (arith, length-append ts us, some) in
    let parts_os : list_all other (r.front ++ r.sequence) ≡ true = ap (list_all other) (sym r.whole) ∙ os in
    let text : (others ++ ts) ++ (us ++ rest) ≡ (others ++ tiles) ++ rest =
    sym (append_assoc (others ++ ts) us rest) ∙ ap (λ l. l ++ rest) (append_assoc others ts us) in
    inr (inside_run how (others ++ ts) (us ++ rest) r.front r.sequence tiles (r.sequence ++ ts) us rest
    (sym (append_assoc r.sequence ts us))
    (omega (arith, length-append r.sequence ts, some)) behind
    (ap (λ l. l ++ ts) r.whole ∙ append_assoc r.front r.sequence ts) refl
    (ap (stretched how) text
    ∙ stretched_first how others tiles rest os all (omega (arith, length-append others tiles, many)) follows
    ∙ ap (λ l. l ++ stretched how rest) (ap (λ l. stretched_part how (l ++ tiles)) r.whole
    ∙ made_with_run how r.front r.sequence tiles parts_os all many r.stops r.passes)))

cut_in_part : (how : Laying) (xs zs others tiles rest : List Cell) → 0 < length xs → 0 < length zs
    → others ++ tiles ≡ xs ++ zs → list_all other others ≡ true → list_all tile tiles ≡ true → Follows tiles rest
    → Cut how xs (zs ++ rest)
cut_in_part how xs zs others tiles rest some behind whole os ts follows = elim (cases_lt (length others) (length xs)) [
  | inl inside ↦
      let (us, (first, second)) = two_cuts others xs tiles zs whole (omega (arith, inside)) in
      subst (λ l. Cut how l (zs ++ rest)) (sym first)
      (cut_in_tiles how others us zs rest os (ap (list_all tile) (sym second) ∙ ts)
      (omega (arith, ap length first, length-append others us, inside)) behind
      (subst (λ l. Follows l rest) second follows))
  | inr before ↦
      let (us, (first, second)) = two_cuts xs others zs tiles (sym whole) before in
      subst (λ l. Cut how xs (l ++ rest)) (sym second)
      (cut_in_others how xs us tiles rest some (ap (list_all other) (sym first) ∙ os) ts
      (omega (arith, ap length second, behind)) follows)
]

-- behind the first part
cut_behind : (how : Laying) (xs ys others tiles : List Cell) → list_all other others ≡ true
    → list_all tile tiles ≡ true → 0 < length (others ++ tiles) → Follows tiles (xs ++ ys) → 0 < length xs
    → Cut how xs ys → Cut how ((others ++ tiles) ++ xs) ys
cut_behind how xs ys others tiles os ts part follows some cut =
    let p = others ++ tiles in
    let text : (p ++ xs) ++ ys ≡ p ++ (xs ++ ys) = append_assoc p xs ys in
    let whole : stretched how ((p ++ xs) ++ ys) ≡ stretched_part how p ++ stretched how (xs ++ ys) =
    ap (stretched how) text ∙ stretched_first how others tiles (xs ++ ys) os ts part follows in
    let own : Follows tiles xs = λ b bs e. follows b (bs ++ ys) (ap (λ l. l ++ ys) e) in
    elim cut [
      | inl joined ↦ inl (whole
          ∙ ap (λ l. stretched_part how p ++ l) joined
          ∙ sym (append_assoc (stretched_part how p) (stretched how xs) (stretched how ys))
          ∙ ap (λ l. l ++ stretched how ys) (sym (stretched_first how others tiles xs os ts part own)))
      | inr i ↦ inr (record {
        front = p ++ i.front;
        a = i.a;
        b = i.b;
        back = i.back;
        first = ap (λ l. p ++ l) i.first ∙ sym (append_assoc p i.front (i.a ∷ []));
        second = i.second;
        least = i.least;
        low_a = i.low_a;
        low_b = i.low_b;
        shown = λ test none. i.shown test (all_split (λ c. test c.0 ≡ false) (stretched_part how p)
            (stretched how (xs ++ ys)) (subst (NoneOf test) whole none)).1;
      })
    ]

cut_within : (n : ℕ) (how : Laying) (xs ys : List Cell) → length xs ≤ n → 0 < length xs → 0 < length ys → Cut how xs ys
cut_within zero how xs ys short some behind = absurd (omega (arith, short, some))
cut_within (suc n) how xs ys short some behind =
    let p = first_part_of (xs ++ ys) in
    let part = p.others ++ p.tiles in
    elim (cases_lt (length xs) (length part)) [
      | inl inside ↦
          let (zs, (first, second)) = two_cuts xs part ys p.rest p.whole (omega (arith, inside)) in
          subst (Cut how xs) (sym second)
          (cut_in_part how xs zs p.others p.tiles p.rest some
          (omega (arith, ap length first, length-append xs zs, inside)) first p.are_others p.are_tiles p.follows)
      | inr beyond ↦
          let (zs, (first, second)) = two_cuts part xs p.rest ys (sym p.whole) beyond in
          let follows : Follows p.tiles (zs ++ ys) = subst (Follows p.tiles) second p.follows in
          let long = ap length first ∙ length-append part zs in
          elim (cases_lt 0 (length part)) [
            | inl more ↦ elim (cases_lt 0 (length zs)) [
              | inl left ↦ subst (λ l. Cut how l ys) (sym first)
                  (cut_behind how zs ys p.others p.tiles p.are_others p.are_tiles more follows left
                  (cut_within n how zs ys (omega (arith, long, short, more)) left behind))
              | inr none ↦
                  let nothing : zs ≡ [] = empty_list zs none in
                  let is : xs ≡ part = first ∙ ap (λ l. part ++ l) nothing ∙ append-nil part in
                  let own : Follows p.tiles ys = subst (λ l. Follows p.tiles (l ++ ys)) nothing follows in
                  let alone = stretched_first how p.others p.tiles [] p.are_others p.are_tiles more (λ b bs e. absurd
                  (omega (arith, ap length e))) in
                  subst (λ l. Cut how l ys) (sym is)
                  (inl (stretched_first how p.others p.tiles ys p.are_others p.are_tiles more own
                  ∙ ap (λ l. l ++ stretched how ys) (sym (ap (stretched how) (sym (append-nil part))
                  ∙ alone ∙ append-nil (stretched_part how part)))))
            ]
            | inr none ↦ absurd (some_part (xs ++ ys) p none (omega (arith, length-append xs ys, some)))
          ]
    ]
  where
    empty_list : (ts : List Cell) → length ts ≤ 0 → ts ≡ []
    empty_list [] none = refl
    empty_list (t ∷ ts) none = absurd (omega (arith, none))

    some_part : (cs : List Cell) (p : FirstPart cs) → length (p.others ++ p.tiles) ≤ 0 → 0 < length cs → ⊥
    some_part cs p none some = elim p.rest as (λ l. p.rest ≡ l → ⊥) [
      | [] ↦ λ e. omega (arith, ap length p.whole, length-append (p.others ++ p.tiles) p.rest, ap length e, none, some)
      | b ∷ bs ↦ λ e. omega (arith, (p.follows b bs e).1, length-append p.others p.tiles, none)
    ] refl

pub cut_or_inside : (how : Laying) (xs ys : List Cell) → 0 < length xs → 0 < length ys → Cut how xs ys
cut_or_inside how xs ys some behind = cut_within (length xs) how xs ys (omega arith) some behind
