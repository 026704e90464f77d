-- Worked rows: how far rules look that don't fit.
use Rattle.std.specs.Prelude.{◌≡◌, ℕ, ◌+◌, ◌-◌, true, false, nat_lt, None, Some, List, [], ◌∷◌, map, refl, if◌then◌else◌}
use Rattle.shapers_buffer.specs.Glyph.{default_glyph}
use Rattle.shapers_buffer.specs.Glyphs.{Glyphs}
use Rattle.opentype_layout.specs.Ligatures.{input_in, is_apart}
use Rattle.opentype_layout.specs.Looking.{all_looked, around_looked, counted, is_short, rule_looked, stop_from, swept_from}
use Rattle.opentype_layout.specs.Pattern.{is_number, places_from, seen_by}
use Rattle.opentype_layout.specs.Rules.{Sought}
use Rattle.opentype_layout.specs.Sight.{ignores, may_pass, next_from, seen_as}
use Rattle.opentype_layout.specs.declared.sight.Sight.{Sight}

-- a search that passes over places 0 to 2 ends behind place 3; one with no place left, where it is
stops : map (λ n. stop_from n (λ i. if nat_lt i 3 then None else Some false) 1) (0 ∷ 1 ∷ 2 ∷ 3 ∷ 9 ∷ [])
    ≡ 1 ∷ 2 ∷ 3 ∷ 4 ∷ 4 ∷ []
unfolding stop_from
stops = refl

-- of places that are found one behind the other up to place 5: two are there, four aren't
sweeps_two : swept_from 2 (λ k from. if nat_lt from 5 then Some (from + k) else None) (λ k from. from + 7) 0 2
    ≡ record { to = 5; found = 2 }
unfolding swept_from
sweeps_two = refl

sweeps_four : swept_from 4 (λ k from. if nat_lt from 5 then Some (from + k) else None) (λ k from. from + 7) 0 2
    ≡ record { to = 12; found = 2 }
unfolding swept_from
sweeps_four = refl

-- a stretch is flagged if it isn't too long, nor its places the wrong way round
counts : map (λ stop. counted 4 300 300 3 stop) (2 ∷ 3 ∷ 258 ∷ 259 ∷ [])
    ≡ record { start = 4; stop = 4 } ∷ record { start = 3; stop = 3 } ∷ record { start = 3; stop = 258 }
    ∷ record { start = 4; stop = 4 } ∷ []
unfolding counted is_short
counts = refl

-- glyph 4, then glyphs 5 and 6, then glyph 9
abbrev input : Sight
input = record { flag = 0; set = 0; mask = 8; syllable = 0; over_zwnj = false; over_zwj = true; of_gpos = false }

abbrev context : Sight
context = record { flag = 0; set = 0; mask = 0xFFFFFFFF; syllable = 0; over_zwnj = true; over_zwj = true; of_gpos = false }

abbrev rule : ℕ → Sought
rule count = record {
  before = is_number (0 ∷ 4 ∷ []);
  before_count = 1;
  input = is_number (0 ∷ 6 ∷ []);
  input_count = count;
  behind = is_number (0 ∷ 9 ∷ []);
  behind_count = 1;
  records = [];
  count = 0;
}

abbrev text : List ℕ → Glyphs
text numbers = map (λ number. record default_glyph { glyph_id = number; mask = 8 }) numbers

abbrev looked : ℕ → List ℕ → List ℕ
looked at numbers = let it = rule_looked [] input context 5 (text numbers) at (rule 2) in it.start ∷ it.stop ∷ []

-- it fits; the glyph behind is another one, or isn't there; the second of the input is another one
fits : looked 2 (3 ∷ 4 ∷ 5 ∷ 6 ∷ 9 ∷ []) ≡ 2 ∷ 2 ∷ []
unfolding rule_looked around_looked swept_from stop_from counted is_short input_in is_apart places_from next_from seen_by seen_as ignores may_pass
fits = refl

other_behind : looked 2 (3 ∷ 4 ∷ 5 ∷ 6 ∷ 8 ∷ []) ≡ 2 ∷ 5 ∷ []
unfolding rule_looked around_looked swept_from stop_from counted is_short input_in is_apart places_from next_from seen_by seen_as ignores may_pass
other_behind = refl

none_behind : looked 2 (3 ∷ 4 ∷ 5 ∷ 6 ∷ []) ≡ 2 ∷ 4 ∷ []
unfolding rule_looked around_looked swept_from stop_from counted is_short input_in is_apart places_from next_from seen_by seen_as ignores may_pass
none_behind = refl

other_input : looked 2 (3 ∷ 4 ∷ 5 ∷ 7 ∷ 9 ∷ []) ≡ 2 ∷ 4 ∷ []
unfolding rule_looked around_looked swept_from stop_from counted is_short input_in is_apart places_from next_from seen_by seen_as ignores may_pass
other_input = refl

-- the one before is another one: one more before it counts, as far as the text goes
other_before : looked 2 (3 ∷ 7 ∷ 5 ∷ 6 ∷ 9 ∷ []) ≡ 0 ∷ 5 ∷ []
unfolding rule_looked around_looked swept_from stop_from counted is_short input_in is_apart places_from next_from seen_by seen_as ignores may_pass
other_before = refl

second_before : looked 3 (3 ∷ 3 ∷ 7 ∷ 5 ∷ 6 ∷ 9 ∷ []) ≡ 1 ∷ 6 ∷ []
unfolding rule_looked around_looked swept_from stop_from counted is_short input_in is_apart places_from next_from seen_by seen_as ignores may_pass
second_before = refl

first_before : looked 1 (7 ∷ 5 ∷ 6 ∷ 9 ∷ []) ≡ 0 ∷ 4 ∷ []
unfolding rule_looked around_looked swept_from stop_from counted is_short input_in is_apart places_from next_from seen_by seen_as ignores may_pass
first_before = refl

-- a rule of no glyph, and one of more than 64
no_rule : map (λ count. rule_looked [] input context 2 (text (5 ∷ 7 ∷ [])) 0 (rule count)) (0 ∷ 65 ∷ [])
    ≡ record { start = 0; stop = 0 } ∷ record { start = 0; stop = 0 } ∷ []
unfolding rule_looked around_looked swept_from stop_from counted is_short input_in is_apart places_from next_from seen_by seen_as ignores may_pass
no_rule = refl

-- rules in turn, of which the third fits: what the first three looked at
in_turn : all_looked 5 (λ i. nat_lt 1 i) (λ i. record { start = 7 - i; stop = 8 + i }) 0 (record { start = 7; stop = 7 })
    ≡ record { start = 5; stop = 10 }
unfolding all_looked
in_turn = refl

none_fits : all_looked 2 (λ i. false) (λ i. record { start = 7 - i; stop = 8 + i }) 0 (record { start = 7; stop = 7 })
    ≡ record { start = 6; stop = 9 }
unfolding all_looked
none_fits = refl
