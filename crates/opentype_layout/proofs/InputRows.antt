-- What stands between the glyphs of an input: marks that a lookup ignores, signs that aren't
-- drawn, marks of ligatures.
use Rattle.std.specs.Prelude.{ℕ, ◌≡◌, List, [], ◌∷◌, true, false, Option, None, Some, refl}
use Rattle.shapers_buffer.specs.Glyphs.{Glyph, Glyphs}
use Rattle.shapers_buffer.specs.Glyph.{default_glyph}
use Rattle.opentype_layout.specs.declared.sight.Sight.{Sight}
use Rattle.opentype_layout.specs.Ligatures.{input_in, is_apart}
use Rattle.opentype_layout.specs.Pattern.{is_number, places_from, previous_in, seen_by}
use Rattle.opentype_layout.specs.Sight.{ignores, may_pass, next_from, seen_as}

abbrev sight : Sight
sight = record { flag = 0; set = 0; mask = 1; syllable = 0; over_zwnj = false; over_zwj = false; of_gpos = false }

abbrev glyph : ℕ → Glyph
glyph number = record default_glyph { glyph_id = number; mask = 1 }

abbrev mark : ℕ → Glyph
mark number = let g : Glyph = record default_glyph { glyph_id = number; mask = 1; glyph_props = record { 0 = 8 } } in g

-- glyph 9, a zero width non-joiner
abbrev non_joiner : Glyph
non_joiner = record default_glyph { glyph_id = 9; mask = 1; unicode_props = record { 0 = 545 } }

-- where glyph 6, or glyph 9, is behind the first one
abbrev six : Sight → Glyphs → Option (List ℕ)
six s gs = input_in [] s (is_number (0 ∷ 6 ∷ [])) 1 gs 0

abbrev nine : Sight → Glyphs → Option (List ℕ)
nine s gs = input_in [] s (is_number (0 ∷ 9 ∷ [])) 1 gs 0

-- beside it; behind a mark, which is ignored or not; behind a non-joiner, which is passed over or not
beside : six sight (glyph 5 ∷ glyph 6 ∷ []) ≡ Some (1 ∷ [])
unfolding input_in is_apart places_from next_from seen_by seen_as may_pass ignores
beside = refl

mark-ignored : six (record sight { flag = 8 }) (glyph 5 ∷ mark 4 ∷ glyph 6 ∷ []) ≡ Some (2 ∷ [])
unfolding input_in is_apart places_from next_from seen_by seen_as may_pass ignores
mark-ignored = refl

mark-seen : six sight (glyph 5 ∷ mark 4 ∷ glyph 6 ∷ []) ≡ None
unfolding input_in is_apart places_from next_from seen_by seen_as may_pass ignores
mark-seen = refl

joiner-passed : six (record sight { over_zwnj = true }) (glyph 5 ∷ non_joiner ∷ glyph 6 ∷ []) ≡ Some (2 ∷ [])
unfolding input_in is_apart places_from next_from seen_by seen_as may_pass ignores
joiner-passed = refl

joiner-seen : six sight (glyph 5 ∷ non_joiner ∷ glyph 6 ∷ []) ≡ None
unfolding input_in is_apart places_from next_from seen_by seen_as may_pass ignores
joiner-seen = refl

-- where the non-joiner itself is looked for, it counts
joiner-itself : nine (record sight { over_zwnj = true }) (glyph 5 ∷ non_joiner ∷ []) ≡ Some (1 ∷ [])
unfolding input_in is_apart places_from next_from seen_by seen_as may_pass ignores
joiner-itself = refl

-- before a place: the nearest, by how many glyphs stand between
before-beside : previous_in [] sight (is_number (0 ∷ 6 ∷ [])) (glyph 6 ∷ glyph 5 ∷ []) 1 0 0 ≡ Some 0
unfolding next_from seen_by seen_as may_pass ignores
before-beside = refl

before-mark : previous_in [] (record sight { flag = 8 }) (is_number (0 ∷ 6 ∷ [])) (glyph 6 ∷ mark 4 ∷ glyph 5 ∷ []) 2 0 0 ≡ Some 1
unfolding next_from seen_by seen_as may_pass ignores
before-mark = refl

before-other : previous_in [] sight (is_number (0 ∷ 6 ∷ [])) (glyph 7 ∷ glyph 5 ∷ []) 1 0 0 ≡ None
unfolding next_from seen_by seen_as may_pass ignores
before-other = refl

before-start : previous_in [] sight (is_number (0 ∷ 6 ∷ [])) (glyph 5 ∷ []) 0 0 0 ≡ None
unfolding next_from seen_by seen_as may_pass ignores
before-start = refl

-- ---- marks of ligatures: `lig_props` of ligature 1 itself, of marks of its components 1 and 2, and of one of ligature 2

abbrev table_at : ℕ → Glyph
table_at props = record default_glyph { lig_props = record { 0 = props }; glyph_props = record { 0 = 8 } }

abbrev itself : Glyph
itself = record default_glyph { lig_props = record { 0 = 50 }; glyph_props = record { 0 = 4 } }

abbrev ligated : ℕ → ℕ → Glyphs
ligated first other = itself ∷ table_at first ∷ table_at other ∷ []

-- a lookup that ignores ligatures
abbrev ignoring : Sight
ignoring = record sight { flag = 4 }

-- marks of one component are of one input; of two, only where the ligature is ignored, and not in GPOS
one-component : is_apart [] sight (ligated 33 33) 1 2 ≡ false
unfolding is_apart next_from ignores
one-component = refl

two-components : is_apart [] sight (ligated 33 34) 1 2 ≡ true
unfolding is_apart next_from ignores
two-components = refl

seen-through : is_apart [] ignoring (ligated 33 34) 1 2 ≡ false
unfolding is_apart next_from ignores
seen-through = refl

not-in-gpos : is_apart [] (record ignoring { of_gpos = true }) (ligated 33 34) 1 2 ≡ true
unfolding is_apart next_from ignores
not-in-gpos = refl

two-ligatures : is_apart [] sight (ligated 33 65) 1 2 ≡ true
unfolding is_apart next_from ignores
two-ligatures = refl

no-ligature-before : is_apart [] ignoring (table_at 65 ∷ table_at 33 ∷ table_at 34 ∷ []) 1 2 ≡ true
unfolding is_apart next_from ignores
no-ligature-before = refl

-- behind a glyph of no ligature, a mark of one is apart, and so behind another ligature; behind its own it is not
plain-then-mark : is_apart [] sight (ligated 0 33) 1 2 ≡ true
unfolding is_apart next_from ignores
plain-then-mark = refl

own-ligature : is_apart [] sight (ligated 33 33) 0 1 ≡ false
unfolding is_apart next_from ignores
own-ligature = refl

other-ligature : is_apart [] sight (ligated 33 65) 0 2 ≡ true
unfolding is_apart next_from ignores
other-ligature = refl

mark-then-plain : is_apart [] sight (ligated 33 0) 1 2 ≡ true
unfolding is_apart next_from ignores
mark-then-plain = refl

both-plain : is_apart [] sight (ligated 0 0) 1 2 ≡ false
unfolding is_apart next_from ignores
both-plain = refl
