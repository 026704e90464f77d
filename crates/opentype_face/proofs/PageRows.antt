-- Tables of characters and of classes, written out.
use Rattle.std.specs.Prelude.{ℕ, ◌≡◌, refl, List, [], ◌∷◌, map, None, Some}
use Rattle.opentype_face.specs.CharacterTables.{character_place}
use Rattle.opentype_face.specs.ClassTables.{props_if_any}

-- the second page of the tables has U+0000 to U+00FF, the first one U+0200 to U+02FF; U+0100 has none,
-- and beyond the last page that is told of each stands in the first
places : map (character_place (1 ∷ 65535 ∷ 0 ∷ [])) (0 ∷ 255 ∷ 256 ∷ 512 ∷ 767 ∷ [])
    ≡ 256 ∷ 511 ∷ 16776960 ∷ 0 ∷ 255 ∷ []
places = refl

-- GDEF with classes of glyphs 3 to 5, of which 4 has none, and 5 is a mark of class 2; class 2 of marks is
-- that of glyph 5
abbrev gdef : List ℕ
gdef = 0 ∷ 1 ∷ 0 ∷ 0 ∷ 0 ∷ 12 ∷ 0 ∷ 0 ∷ 0 ∷ 0 ∷ 0 ∷ 24 ∷ 0 ∷ 1 ∷ 0 ∷ 3 ∷ 0 ∷ 3 ∷ 0 ∷ 1 ∷ 0 ∷ 0 ∷ 0 ∷ 3
    ∷ 0 ∷ 1 ∷ 0 ∷ 5 ∷ 0 ∷ 1 ∷ 0 ∷ 2 ∷ []

classes : map (props_if_any gdef) (0 ∷ 2 ∷ 3 ∷ 4 ∷ 5 ∷ 6 ∷ 65535 ∷ [])
    ≡ Some 0 ∷ Some 0 ∷ Some 2 ∷ Some 0 ∷ Some 520 ∷ Some 0 ∷ Some 0 ∷ []
classes = refl

-- a font without classes
no_classes : props_if_any (0 ∷ 1 ∷ 0 ∷ 0 ∷ 0 ∷ 0 ∷ []) 3 ≡ None
no_classes = refl
