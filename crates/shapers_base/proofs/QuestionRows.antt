-- Questions to a font, computed on a small map.
use Rattle.std.specs.Prelude.{◌≡◌, ◌==◌, true, false, [], ◌∷◌, None, length, codes, refl}
use Rattle.shapers_buffer.specs.declared.buffer.tag.hb_tag_t.{hb_tag_t}
use Rattle.shapers_base.specs.Map.{Map, lookups_in}
use Rattle.shapers_base.specs.Questions.{question_for, would_by}

abbrev blwf : hb_tag_t
blwf = record { 0 = codes "blwf" }

abbrev pstf : hb_tag_t
pstf = record { 0 = codes "pstf" }

-- two lookups in the stage of blwf, between one before and one after them
abbrev small : Map
small = record {
  features = record { tag = blwf; mask = 16; stage = 1 } ∷ [];
  stages = record { start = 0; end = 1 } ∷ record { start = 1; end = 3 } ∷ record { start = 3; end = 4 } ∷ [];
  lookups = 5 ∷ 6 ∷ 7 ∷ 8 ∷ [];
  global =
      0;
  chosen = None;
  found = true;
}

asked : question_for blwf true small ≡ record { lookups = record { start = 1; end = 3 }; zero_context = true }
asked = refl

asked_of_no_feature : question_for pstf false small
    ≡ record { lookups = record { start = 0; end = 0 }; zero_context = false }
asked_of_no_feature = refl

-- yes where one of the two applies, the second alone too; no where only others do
first_applies : would_by (λ lookup _ _. lookup == 6) small (question_for blwf false small) [] ≡ true
first_applies = refl

second_applies : would_by (λ lookup _ _. lookup == 7) small (question_for blwf false small) [] ≡ true
second_applies = refl

before_applies : would_by (λ lookup _ _. lookup == 5) small (question_for blwf false small) [] ≡ false
before_applies = refl

after_applies : would_by (λ lookup _ _. lookup == 8) small (question_for blwf false small) [] ≡ false
after_applies = refl

no_feature : would_by (λ _ _ _. true) small (question_for pstf false small) [] ≡ false
no_feature = refl

-- the context is the question's, and the glyphs are the caller's
context_left_out : would_by (λ _ _ zero. zero) small (question_for blwf true small)
    [] ∷ would_by (λ _ _ zero. zero) small (question_for blwf false small) [] ∷ [] ≡ true ∷ false ∷ []
context_left_out = refl

of_two_glyphs : would_by (λ _ glyphs _. length glyphs == 2) small (question_for blwf true small)
    (record { 0 = 1 } ∷ record { 0 = 2 } ∷ []) ∷ would_by (λ _ glyphs _. length glyphs == 2) small
    (question_for blwf true small) (record { 0 = 1 } ∷ []) ∷ [] ≡ true ∷ false ∷ []
of_two_glyphs = refl

-- a range that leaves the list counts as far as it goes
beyond : lookups_in (record { start = 3; end = 9 }) small ≡ 8 ∷ []
beyond = refl

falling : lookups_in (record { start = 2; end = 1 }) small ≡ []
falling = refl

far_beyond : lookups_in (record { start = 7; end = 9 }) small ≡ []
far_beyond = refl
