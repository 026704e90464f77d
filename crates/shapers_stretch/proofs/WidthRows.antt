-- The law of widths, computed: what is laid for a sequence, how far each copy moves the pen, and where it stands.
use Rattle.std.proofs.Common.{◌≡◌, ◌==◌, ℕ, ℤ, pos, negsuc, Bool, true, false, List, [], ◌∷◌, map, refl, arith, if◌then◌else◌}
use Rattle.std.proofs.lemmas.Int.{ints}
use Rattle.shapers_buffer.specs.declared.buffer.level.Direction.TheVariants.{LeftToRight, RightToLeft}
use Rattle.shapers_buffer.specs.Buffer.{Buffer}
use Rattle.shapers_buffer.specs.Properties.{general_category}
use Rattle.shapers_base.specs.declared.plan.arabic.StretchStart.{StretchStart}
use Rattle.shapers_base.specs.declared.plan.arabic.StretchStart.TheVariants.{AsCode, Centred}
use Rattle.shapers_stretch.specs.Cells.{Cell}
use Rattle.shapers_stretch.specs.Measure.{copies_added, laid_width}
use Rattle.shapers_stretch.specs.Stretch.{Laying, copies_in, moves, sequence_of_part}
use Rattle.shapers_stretch.specs.StretchLaws.{TilesFit, laid_copies, offsets_in}
use Rattle.shapers_stretch.proofs.StretchRows.{fixed_tile, font, letter, repeating_tile, second_tile, space, text, widths}

-- of a part: the glyphs laid, their moves, their offsets; the word, what is laid, the copies added
pub record Row : Type 0 where
  pub laid : List ℕ
  pub moves : List ℤ
  pub offsets : List ℤ
  pub together : ℤ
  pub word : ℤ
  pub width : ℤ
  pub more : ℕ

abbrev row : (ℕ → ℤ) → StretchStart → Bool → List Cell → Row
row widths choice right_to_left part =
    let how : Laying = record { font = font widths; choice = choice; right_to_left = right_to_left } in
    let z = sequence_of_part how.font part in
    record {
      laid = map (λ copy. copy.tile.0.glyph_id) (laid_copies how part);
      moves = map (λ copy. copy.move) (laid_copies how part);
      offsets = offsets_in how part;
      together = moves (laid_copies how part);
      word = z.word;
      width = laid_width z;
      more = copies_added z;
    }

-- a word of 1000, a fixed tile of 100, a repeating one of 200: as wide as the word
abbrev seven : List Cell
seven = letter 0 (pos 1000) ∷ fixed_tile ∷ repeating_tile ∷ []

seven_leftward : row widths AsCode true seven ≡ record {
  laid = 3 ∷ 3 ∷ 3 ∷ 3 ∷ 3 ∷ 2 ∷ [];
  moves = pos 200 ∷ pos 175 ∷ pos 175 ∷ pos 175 ∷ pos 175 ∷ pos 100 ∷ [];
  offsets = negsuc 199 ∷ negsuc 374 ∷ negsuc 549 ∷ negsuc 724 ∷ negsuc 899 ∷ negsuc 999 ∷ [];
  together = pos 1000;
  word = pos 1000;
  width = pos 1000;
  more = 4;
}
unfolding general_category
seven_leftward = refl

seven_rightward : row widths Centred false seven ≡ record {
  laid = 3 ∷ 3 ∷ 3 ∷ 3 ∷ 3 ∷ 2 ∷ [];
  moves = pos 200 ∷ pos 175 ∷ pos 175 ∷ pos 175 ∷ pos 175 ∷ pos 100 ∷ [];
  offsets = pos 0 ∷ pos 200 ∷ pos 375 ∷ pos 550 ∷ pos 725 ∷ pos 900 ∷ [];
  together = pos 1000;
  word = pos 1000;
  width = pos 1000;
  more = 4;
}
unfolding general_category
seven_rightward = refl

seven_fit : TilesFit (sequence_of_part (font widths) seven)
unfolding general_category
seven_fit = search (arith, ints)

-- a tile of 300 over 1000: wider by two units, with three copies more
abbrev of_300 : ℕ → ℤ
of_300 n = if n == 3 then pos 300 else pos 999

abbrev wider : List Cell
wider = letter 0 (pos 1000) ∷ repeating_tile ∷ []

wider_leftward : row of_300 Centred true wider ≡ record {
  laid = 3 ∷ 3 ∷ 3 ∷ 3 ∷ [];
  moves = pos 300 ∷ pos 234 ∷ pos 234 ∷ pos 234 ∷ [];
  offsets = negsuc 298 ∷ negsuc 532 ∷ negsuc 766 ∷ negsuc 1000 ∷ [];
  together = pos 1002;
  word = pos 1000;
  width = pos 1002;
  more = 3;
}
unfolding general_category
wider_leftward = refl

wider_rightward : row of_300 AsCode false wider ≡ record {
  laid = 3 ∷ 3 ∷ 3 ∷ 3 ∷ [];
  moves = pos 300 ∷ pos 234 ∷ pos 234 ∷ pos 234 ∷ [];
  offsets = pos 0 ∷ pos 300 ∷ pos 534 ∷ pos 768 ∷ [];
  together = pos 1002;
  word = pos 1000;
  width = pos 1002;
  more = 3;
}
unfolding general_category
wider_rightward = refl

-- two tiles that repeat: the last one is laid first
two_tiles : row widths AsCode true (letter 0 (pos 400) ∷ second_tile ∷ repeating_tile ∷ []) ≡ record {
  laid = 3 ∷ 3 ∷ 2 ∷ 2 ∷ [];
  moves = pos 200 ∷ pos 100 ∷ pos 100 ∷ pos 0 ∷ [];
  offsets = negsuc 199 ∷ negsuc 299 ∷ negsuc 399 ∷ negsuc 399 ∷ [];
  together = pos 400;
  word = pos 400;
  width = pos 400;
  more = 2;
}
unfolding general_category
two_tiles = refl

-- a sequence without a word: its tiles don't fit, and are laid once
abbrev without_word : List Cell
without_word = letter 0 (pos 300) ∷ space ∷ repeating_tile ∷ []

no_word_leftward : row widths AsCode true without_word ≡ record {
  laid = 3 ∷ [];
  moves = pos 200 ∷ [];
  offsets = negsuc 199 ∷ [];
  together = pos 200;
  word = pos 0;
  width = pos 200;
  more = 0;
}
unfolding general_category
no_word_leftward = refl

no_word_rightward : row widths Centred false without_word ≡ record {
  laid = 3 ∷ [];
  moves = pos 200 ∷ [];
  offsets = negsuc 99 ∷ [];
  together = pos 200;
  word = pos 0;
  width = pos 200;
  more = 0;
}
unfolding general_category
no_word_rightward = refl

-- tiles that don't fit the word: one of 200 over 100, and one without a width over 50, which doesn't reach
too_wide_leftward : row widths AsCode true (letter 0 (pos 100) ∷ repeating_tile ∷ []) ≡ record {
  laid = 3 ∷ [];
  moves = pos 200 ∷ [];
  offsets = negsuc 149 ∷ [];
  together = pos 200;
  word = pos 100;
  width = pos 200;
  more = 0;
}
unfolding general_category
too_wide_leftward = refl

too_wide_rightward : row widths Centred false (letter 0 (pos 100) ∷ repeating_tile ∷ []) ≡ record {
  laid = 3 ∷ [];
  moves = pos 200 ∷ [];
  offsets = negsuc 49 ∷ [];
  together = pos 200;
  word = pos 100;
  width = pos 200;
  more = 0;
}
unfolding general_category
too_wide_rightward = refl

no_width : row (λ n. pos 0) AsCode false (letter 0 (pos 50) ∷ repeating_tile ∷ []) ≡ record {
  laid = 3 ∷ 3 ∷ [];
  moves = pos 0 ∷ pos 0 ∷ [];
  offsets = pos 25 ∷ pos 25 ∷ [];
  together = pos 0;
  word = pos 50;
  width = pos 0;
  more = 1;
}
unfolding general_category
no_width = refl

-- how many copies a text adds: none without the mark, the sum of its sequences, found in working order
many : map (copies_in (font widths))
    (text RightToLeft seven ∷ (let b : Buffer = record (text RightToLeft seven) { stch = false } in b)
    ∷ text LeftToRight seven ∷ text LeftToRight (repeating_tile ∷ fixed_tile ∷ letter 0 (pos 1000) ∷ [])
    ∷ text RightToLeft (letter 0 (pos 300) ∷ repeating_tile ∷ letter 0 (pos 1000) ∷ repeating_tile ∷ letter 0 (pos 900)
    ∷ []) ∷ text RightToLeft (letter 0 (pos 1000) ∷ fixed_tile ∷ []) ∷ []) ≡ 4 ∷ 0 ∷ 0 ∷ 4 ∷ 5 ∷ 0 ∷ []
unfolding general_category
many = refl
