-- Rules of each format, on tables written out by hand (OpenType, Sequence Context and Chained Sequence
-- Context formats 1 to 3). Each looks for glyph 6 behind glyph 5; chained ones for 4 before it and 7 behind.
use Rattle.std.specs.Prelude.{ℕ, ◌*◌, ◌≡◌, List, [], ◌∷◌, ◌++◌, map, take, Bool, true, false, Option, None, Some, refl}
use Rattle.std.specs.Option.{option_map}
use Rattle.shapers_buffer.specs.Glyphs.{Glyph, Glyphs}
use Rattle.shapers_buffer.specs.Glyph.{default_glyph}
use Rattle.opentype_face.specs.Ranges.{bisect}
use Rattle.opentype_layout.specs.declared.sight.Sight.{Sight}
use Rattle.opentype_face.specs.Firsts.{first_from}
use Rattle.opentype_layout.specs.Ligatures.{input_in, is_apart}
use Rattle.opentype_layout.specs.Pattern.{places_from, seen_by}
use Rattle.opentype_layout.specs.Rules.{Found, around, by_glyphs, chained_in, context_in, end_in, first_at, first_in, found_at, kind_in, nth_in, reach_before, reach_behind, reach_from, rule_in, set_in, test_in, unchained_in}
use Rattle.opentype_layout.specs.Sight.{ignores, may_pass, next_from, seen_as}

abbrev sight : Sight
sight = record { flag = 0; set = 0; mask = 1; syllable = 0; over_zwnj = true; over_zwj = true; of_gpos = false }

abbrev glyph : ℕ → Glyph
glyph number = record default_glyph { glyph_id = number; mask = 1 }

abbrev text : List ℕ → Glyphs
text numbers = map glyph numbers

-- sets of glyphs, format 1
abbrev set_of : ℕ → List ℕ
set_of number = 0 ∷ 1 ∷ 0 ∷ 1 ∷ 0 ∷ number ∷ []

-- lookup 3 at place 0
abbrev record_of : List ℕ
record_of = 0 ∷ 0 ∷ 0 ∷ 3 ∷ []

-- what a context comes to: the bytes of its records, its places, the place behind, the stretch that it looked at
record Shown : Type 0 where
  records : List ℕ
  places : List ℕ
  end : ℕ
  start : ℕ
  stop : ℕ

abbrev it : List ℕ → ℕ → ℕ → ℕ → Option Shown
it places end start stop = Some (record { records = record_of; places = places; end = end; start = start; stop = stop })

abbrev as_shown : Found → Shown
as_shown f = record {
  records = take (4 * f.count) f.records;
  places = f.places;
  end = f.end;
  start = f.start;
  stop = f.stop;
}

abbrev shown : Bool → List ℕ → List ℕ → ℕ → Option Shown
shown chained bytes numbers at = option_map as_shown (context_in chained [] sight sight bytes (text numbers) at)

-- Sequence Context format 1: the set of first glyphs, a set of one rule
abbrev context1 : List ℕ
context1 = (0 ∷ 1 ∷ 0 ∷ 8 ∷ 0 ∷ 1 ∷ 0 ∷ 14 ∷ []) ++ set_of 5 ++ (0 ∷ 1 ∷ 0 ∷ 4 ∷ [])
    ++ (0 ∷ 2 ∷ 0 ∷ 1 ∷ 0 ∷ 6 ∷ []) ++ record_of

-- Format 2: glyph 5 is of class 1, glyph 6 of class 2; no rules for class 0, a set of one for class 1
abbrev context2 : List ℕ
context2 = (0 ∷ 2 ∷ 0 ∷ 12 ∷ 0 ∷ 18 ∷ 0 ∷ 2 ∷ 0 ∷ 0 ∷ 0 ∷ 28 ∷ []) ++ set_of 5
    ++ (0 ∷ 1 ∷ 0 ∷ 5 ∷ 0 ∷ 2 ∷ 0 ∷ 1 ∷ 0 ∷ 2 ∷ []) ++ (0 ∷ 1 ∷ 0 ∷ 4 ∷ [])
    ++ (0 ∷ 2 ∷ 0 ∷ 1 ∷ 0 ∷ 2 ∷ []) ++ record_of

-- Format 3: two sets
abbrev context3 : List ℕ
context3 = (0 ∷ 3 ∷ 0 ∷ 2 ∷ 0 ∷ 1 ∷ 0 ∷ 14 ∷ 0 ∷ 20 ∷ []) ++ record_of ++ set_of 5 ++ set_of 6

-- Chained Sequence Context format 1
abbrev chained1 : List ℕ
chained1 = (0 ∷ 1 ∷ 0 ∷ 8 ∷ 0 ∷ 1 ∷ 0 ∷ 14 ∷ []) ++ set_of 5 ++ (0 ∷ 1 ∷ 0 ∷ 4 ∷ [])
    ++ (0 ∷ 1 ∷ 0 ∷ 4 ∷ 0 ∷ 2 ∷ 0 ∷ 6 ∷ 0 ∷ 1 ∷ 0 ∷ 7 ∷ 0 ∷ 1 ∷ []) ++ record_of

-- Format 2: glyphs 4 to 7 are of classes 3, 1, 2, 4
abbrev chained2 : List ℕ
chained2 = (0 ∷ 2 ∷ 0 ∷ 16 ∷ 0 ∷ 22 ∷ 0 ∷ 22 ∷ 0 ∷ 22 ∷ 0 ∷ 2 ∷ 0 ∷ 0 ∷ 0 ∷ 36 ∷ []) ++ set_of 5
    ++ (0 ∷ 1 ∷ 0 ∷ 4 ∷ 0 ∷ 4 ∷ 0 ∷ 3 ∷ 0 ∷ 1 ∷ 0 ∷ 2 ∷ 0 ∷ 4 ∷ []) ++ (0 ∷ 1 ∷ 0 ∷ 4 ∷ [])
    ++ (0 ∷ 1 ∷ 0 ∷ 3 ∷ 0 ∷ 2 ∷ 0 ∷ 2 ∷ 0 ∷ 1 ∷ 0 ∷ 4 ∷ 0 ∷ 1 ∷ []) ++ record_of

-- Format 3: a set before, two of the input, one behind
abbrev chained3 : List ℕ
chained3 = (0 ∷ 3 ∷ 0 ∷ 1 ∷ 0 ∷ 22 ∷ 0 ∷ 2 ∷ 0 ∷ 28 ∷ 0 ∷ 34 ∷ 0 ∷ 1 ∷ 0 ∷ 40 ∷ 0 ∷ 1 ∷ []) ++ record_of
    ++ set_of 4 ++ set_of 5 ++ set_of 6 ++ set_of 7

-- contexts of format 1: it fits, the second glyph is another one, the text ends, the first is another one
context1-fits : shown false context1 (5 ∷ 6 ∷ []) 0 ≡ it (0 ∷ 1 ∷ []) 2 0 2
unfolding context_in by_glyphs first_in nth_in rule_in unchained_in chained_in test_in kind_in set_in first_at found_at around end_in reach_behind reach_before reach_from input_in is_apart places_from next_from seen_by seen_as may_pass ignores first_from bisect
context1-fits = refl

context1-second : shown false context1 (5 ∷ 7 ∷ []) 0 ≡ None
unfolding context_in by_glyphs first_in nth_in rule_in unchained_in chained_in test_in kind_in set_in first_at found_at around end_in reach_behind reach_before reach_from input_in is_apart places_from next_from seen_by seen_as may_pass ignores first_from bisect
context1-second = refl

context1-end : shown false context1 (5 ∷ []) 0 ≡ None
unfolding context_in by_glyphs first_in nth_in rule_in unchained_in chained_in test_in kind_in set_in first_at found_at around end_in reach_behind reach_before reach_from input_in is_apart places_from next_from seen_by seen_as may_pass ignores first_from bisect
context1-end = refl

context1-first : shown false context1 (6 ∷ 6 ∷ []) 0 ≡ None
unfolding context_in by_glyphs first_in nth_in rule_in unchained_in chained_in test_in kind_in set_in first_at found_at around end_in reach_behind reach_before reach_from input_in is_apart places_from next_from seen_by seen_as may_pass ignores first_from bisect
context1-first = refl

-- contexts of format 2: it fits, the second glyph is another one, the text ends, the first is another one
context2-fits : shown false context2 (5 ∷ 6 ∷ []) 0 ≡ it (0 ∷ 1 ∷ []) 2 0 2
unfolding context_in by_glyphs first_in nth_in rule_in unchained_in chained_in test_in kind_in set_in first_at found_at around end_in reach_behind reach_before reach_from input_in is_apart places_from next_from seen_by seen_as may_pass ignores first_from bisect
context2-fits = refl

context2-second : shown false context2 (5 ∷ 7 ∷ []) 0 ≡ None
unfolding context_in by_glyphs first_in nth_in rule_in unchained_in chained_in test_in kind_in set_in first_at found_at around end_in reach_behind reach_before reach_from input_in is_apart places_from next_from seen_by seen_as may_pass ignores first_from bisect
context2-second = refl

context2-end : shown false context2 (5 ∷ []) 0 ≡ None
unfolding context_in by_glyphs first_in nth_in rule_in unchained_in chained_in test_in kind_in set_in first_at found_at around end_in reach_behind reach_before reach_from input_in is_apart places_from next_from seen_by seen_as may_pass ignores first_from bisect
context2-end = refl

context2-first : shown false context2 (6 ∷ 6 ∷ []) 0 ≡ None
unfolding context_in by_glyphs first_in nth_in rule_in unchained_in chained_in test_in kind_in set_in first_at found_at around end_in reach_behind reach_before reach_from input_in is_apart places_from next_from seen_by seen_as may_pass ignores first_from bisect
context2-first = refl

-- contexts of format 3: it fits, the second glyph is another one, the text ends, the first is another one
context3-fits : shown false context3 (5 ∷ 6 ∷ []) 0 ≡ it (0 ∷ 1 ∷ []) 2 0 2
unfolding context_in by_glyphs first_in nth_in rule_in unchained_in chained_in test_in kind_in set_in first_at found_at around end_in reach_behind reach_before reach_from input_in is_apart places_from next_from seen_by seen_as may_pass ignores first_from bisect
context3-fits = refl

context3-second : shown false context3 (5 ∷ 7 ∷ []) 0 ≡ None
unfolding context_in by_glyphs first_in nth_in rule_in unchained_in chained_in test_in kind_in set_in first_at found_at around end_in reach_behind reach_before reach_from input_in is_apart places_from next_from seen_by seen_as may_pass ignores first_from bisect
context3-second = refl

context3-end : shown false context3 (5 ∷ []) 0 ≡ None
unfolding context_in by_glyphs first_in nth_in rule_in unchained_in chained_in test_in kind_in set_in first_at found_at around end_in reach_behind reach_before reach_from input_in is_apart places_from next_from seen_by seen_as may_pass ignores first_from bisect
context3-end = refl

context3-first : shown false context3 (6 ∷ 6 ∷ []) 0 ≡ None
unfolding context_in by_glyphs first_in nth_in rule_in unchained_in chained_in test_in kind_in set_in first_at found_at around end_in reach_behind reach_before reach_from input_in is_apart places_from next_from seen_by seen_as may_pass ignores first_from bisect
context3-first = refl

-- chained contexts of format 1: it fits, and where each of the four glyphs is another one
chained1-fits : shown true chained1 (4 ∷ 5 ∷ 6 ∷ 7 ∷ []) 1 ≡ it (1 ∷ 2 ∷ []) 3 0 4
unfolding context_in by_glyphs first_in nth_in rule_in unchained_in chained_in test_in kind_in set_in first_at found_at around end_in reach_behind reach_before reach_from input_in is_apart places_from next_from seen_by seen_as may_pass ignores first_from bisect
chained1-fits = refl

chained1-before : shown true chained1 (5 ∷ 5 ∷ 6 ∷ 7 ∷ []) 1 ≡ None
unfolding context_in by_glyphs first_in nth_in rule_in unchained_in chained_in test_in kind_in set_in first_at found_at around end_in reach_behind reach_before reach_from input_in is_apart places_from next_from seen_by seen_as may_pass ignores first_from bisect
chained1-before = refl

chained1-first : shown true chained1 (4 ∷ 6 ∷ 6 ∷ 7 ∷ []) 1 ≡ None
unfolding context_in by_glyphs first_in nth_in rule_in unchained_in chained_in test_in kind_in set_in first_at found_at around end_in reach_behind reach_before reach_from input_in is_apart places_from next_from seen_by seen_as may_pass ignores first_from bisect
chained1-first = refl

chained1-second : shown true chained1 (4 ∷ 5 ∷ 7 ∷ 7 ∷ []) 1 ≡ None
unfolding context_in by_glyphs first_in nth_in rule_in unchained_in chained_in test_in kind_in set_in first_at found_at around end_in reach_behind reach_before reach_from input_in is_apart places_from next_from seen_by seen_as may_pass ignores first_from bisect
chained1-second = refl

chained1-behind : shown true chained1 (4 ∷ 5 ∷ 6 ∷ 6 ∷ []) 1 ≡ None
unfolding context_in by_glyphs first_in nth_in rule_in unchained_in chained_in test_in kind_in set_in first_at found_at around end_in reach_behind reach_before reach_from input_in is_apart places_from next_from seen_by seen_as may_pass ignores first_from bisect
chained1-behind = refl

-- chained contexts of format 2: it fits, and where each of the four glyphs is another one
chained2-fits : shown true chained2 (4 ∷ 5 ∷ 6 ∷ 7 ∷ []) 1 ≡ it (1 ∷ 2 ∷ []) 3 0 4
unfolding context_in by_glyphs first_in nth_in rule_in unchained_in chained_in test_in kind_in set_in first_at found_at around end_in reach_behind reach_before reach_from input_in is_apart places_from next_from seen_by seen_as may_pass ignores first_from bisect
chained2-fits = refl

chained2-before : shown true chained2 (5 ∷ 5 ∷ 6 ∷ 7 ∷ []) 1 ≡ None
unfolding context_in by_glyphs first_in nth_in rule_in unchained_in chained_in test_in kind_in set_in first_at found_at around end_in reach_behind reach_before reach_from input_in is_apart places_from next_from seen_by seen_as may_pass ignores first_from bisect
chained2-before = refl

chained2-first : shown true chained2 (4 ∷ 6 ∷ 6 ∷ 7 ∷ []) 1 ≡ None
unfolding context_in by_glyphs first_in nth_in rule_in unchained_in chained_in test_in kind_in set_in first_at found_at around end_in reach_behind reach_before reach_from input_in is_apart places_from next_from seen_by seen_as may_pass ignores first_from bisect
chained2-first = refl

chained2-second : shown true chained2 (4 ∷ 5 ∷ 7 ∷ 7 ∷ []) 1 ≡ None
unfolding context_in by_glyphs first_in nth_in rule_in unchained_in chained_in test_in kind_in set_in first_at found_at around end_in reach_behind reach_before reach_from input_in is_apart places_from next_from seen_by seen_as may_pass ignores first_from bisect
chained2-second = refl

chained2-behind : shown true chained2 (4 ∷ 5 ∷ 6 ∷ 6 ∷ []) 1 ≡ None
unfolding context_in by_glyphs first_in nth_in rule_in unchained_in chained_in test_in kind_in set_in first_at found_at around end_in reach_behind reach_before reach_from input_in is_apart places_from next_from seen_by seen_as may_pass ignores first_from bisect
chained2-behind = refl

-- chained contexts of format 3: it fits, and where each of the four glyphs is another one
chained3-fits : shown true chained3 (4 ∷ 5 ∷ 6 ∷ 7 ∷ []) 1 ≡ it (1 ∷ 2 ∷ []) 3 0 4
unfolding context_in by_glyphs first_in nth_in rule_in unchained_in chained_in test_in kind_in set_in first_at found_at around end_in reach_behind reach_before reach_from input_in is_apart places_from next_from seen_by seen_as may_pass ignores first_from bisect
chained3-fits = refl

chained3-before : shown true chained3 (5 ∷ 5 ∷ 6 ∷ 7 ∷ []) 1 ≡ None
unfolding context_in by_glyphs first_in nth_in rule_in unchained_in chained_in test_in kind_in set_in first_at found_at around end_in reach_behind reach_before reach_from input_in is_apart places_from next_from seen_by seen_as may_pass ignores first_from bisect
chained3-before = refl

chained3-first : shown true chained3 (4 ∷ 6 ∷ 6 ∷ 7 ∷ []) 1 ≡ None
unfolding context_in by_glyphs first_in nth_in rule_in unchained_in chained_in test_in kind_in set_in first_at found_at around end_in reach_behind reach_before reach_from input_in is_apart places_from next_from seen_by seen_as may_pass ignores first_from bisect
chained3-first = refl

chained3-second : shown true chained3 (4 ∷ 5 ∷ 7 ∷ 7 ∷ []) 1 ≡ None
unfolding context_in by_glyphs first_in nth_in rule_in unchained_in chained_in test_in kind_in set_in first_at found_at around end_in reach_behind reach_before reach_from input_in is_apart places_from next_from seen_by seen_as may_pass ignores first_from bisect
chained3-second = refl

chained3-behind : shown true chained3 (4 ∷ 5 ∷ 6 ∷ 6 ∷ []) 1 ≡ None
unfolding context_in by_glyphs first_in nth_in rule_in unchained_in chained_in test_in kind_in set_in first_at found_at around end_in reach_behind reach_before reach_from input_in is_apart places_from next_from seen_by seen_as may_pass ignores first_from bisect
chained3-behind = refl
