-- What rules begin with, by their bytes as OpenType lays them out.
use Rattle.std.proofs.Common.{◌≡◌, true, false, [], ◌∷◌, refl}
use Rattle.opentype_layout.specs.ContextTables.{place_of_rules}
use Rattle.opentype_layout.specs.RuleHeads.{head_in}

-- a chained rule: one glyph before (7), an input of two (the second is 9), two behind (11 and 12)
chained : head_in true (0 ∷ 1 ∷ 0 ∷ 7 ∷ 0 ∷ 2 ∷ 0 ∷ 9 ∷ 0 ∷ 2 ∷ 0 ∷ 11 ∷ 0 ∷ 12 ∷ [])
    ≡ record { before_count = 1; before = 7; input_count = 2; input = 9; behind_count = 2; behind = 11 }
unfolding head_in
chained = refl

-- two glyphs before (7 and 8), an input of one, one behind (11)
one_glyph : head_in true (0 ∷ 2 ∷ 0 ∷ 7 ∷ 0 ∷ 8 ∷ 0 ∷ 1 ∷ 0 ∷ 1 ∷ 0 ∷ 11 ∷ [])
    ≡ record { before_count = 2; before = 7; input_count = 1; input = 1; behind_count = 1; behind = 11 }
unfolding head_in
one_glyph = refl

-- a rule that isn't chained: an input of three (5 and 6 behind the first), one record
unchained : head_in false (0 ∷ 3 ∷ 0 ∷ 1 ∷ 0 ∷ 5 ∷ 0 ∷ 6 ∷ 0 ∷ 1 ∷ 0 ∷ 40 ∷ [])
    ≡ record { before_count = 0; before = 0; input_count = 3; input = 5; behind_count = 0; behind = 0 }
unfolding head_in
unchained = refl

-- where a context has the count of its sets: in format 1 behind the offset of its glyphs; in format 2
-- behind the offset of one table of classes, or of three
glyphs : place_of_rules true (0 ∷ 1 ∷ []) ≡ 4
glyphs = refl

classes : place_of_rules false (0 ∷ 2 ∷ []) ≡ 6
classes = refl

three_classes : place_of_rules true (0 ∷ 2 ∷ []) ≡ 10
three_classes = refl
