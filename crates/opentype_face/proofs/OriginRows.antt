-- Vertical origins by outlines that are written out from OpenType's specification.
use Rattle.std.specs.Prelude.{ℕ, ◌/◌, ◌%◌, ◌≡◌, refl, List, [], ◌∷◌, map, flat_map, replicate, None, Some, pos}
use Rattle.opentype_face.specs.Origins.{centred_in, centred_outline, component_size, lender_in, lent_from, measured, top_in}

-- numbers of two bytes
abbrev words : List ℕ → List ℕ
words ns = flat_map (λ n. n / 256 ∷ n % 256 ∷ []) ns

-- records by their flags: two bytes of arguments or four; one number of a scale, two, or four
sizes : map component_size (0 ∷ 1 ∷ 8 ∷ 0x40 ∷ 0x80 ∷ 9 ∷ 0x41 ∷ 0x81 ∷ 0x48 ∷ 0xC0 ∷ 0xFF36 ∷ [])
    ≡ 6 ∷ 8 ∷ 8 ∷ 10 ∷ 14 ∷ 10 ∷ 12 ∷ 16 ∷ 8 ∷ 10 ∷ 6 ∷ []
sizes = refl

-- a composite of the glyphs 5, 6 and 7, by their flags: 5 has arguments of four bytes
abbrev composite : ℕ → ℕ → ℕ → List ℕ
composite f g h = words (65535 ∷ 0 ∷ 0 ∷ 0 ∷ 0 ∷ f ∷ 5 ∷ 1 ∷ 2 ∷ g ∷ 6 ∷ 3 ∷ h ∷ 7 ∷ 4 ∷ [])

-- the last that lends its metrics, of those up to the first behind which there is none
lenders : map lender_in (composite 0x21 0x220 0x200 ∷ composite 0x21 0x220 0 ∷ composite 0x21 0x20 0 ∷ composite 0x221 0x20 0
    ∷ composite 0x21 0x200 0x200 ∷ composite 1 0x220 0x200 ∷ []) ≡ Some 7 ∷ Some 6 ∷ None ∷ Some 5 ∷ Some 6 ∷ None ∷ []
unfolding lent_from
lenders = refl

-- contours of -32768 to -1 are a composite's; an outline that ends before its box is none
simple : map lender_in (words (0 ∷ 0 ∷ 0 ∷ 0 ∷ 0 ∷ 0x200 ∷ 5 ∷ 0 ∷ []) ∷ words (32767 ∷ 0 ∷ 0 ∷ 0 ∷ 0 ∷ 0x200 ∷ 5 ∷ 0 ∷ [])
    ∷ words (32768 ∷ 0 ∷ 0 ∷ 0 ∷ 0 ∷ 0x200 ∷ 5 ∷ 0 ∷ []) ∷ words (65535 ∷ 0 ∷ 0 ∷ 0 ∷ []) ∷ []) ≡ None ∷ None ∷ Some 5 ∷ None ∷ []
unfolding lent_from
simple = refl

-- glyph 0 is simple, and lends 1 its metrics, which lends 2 them; 3 lends itself
abbrev glyf : List ℕ
glyf = words (1 ∷ 0 ∷ 0 ∷ 50 ∷ 700 ∷ 65535 ∷ 0 ∷ 0 ∷ 60 ∷ 710 ∷ 0x200 ∷ 0 ∷ 0 ∷ 65535 ∷ 0 ∷ 0 ∷ 70 ∷ 720 ∷ 0x200 ∷ 1 ∷ 0
    ∷ 65535 ∷ 0 ∷ 0 ∷ 80 ∷ 730 ∷ 0x200 ∷ 3 ∷ 0 ∷ [])

lent : map (measured 64 (replicate 54 0) (words (0 ∷ 5 ∷ 13 ∷ 21 ∷ 29 ∷ [])) glyf) (0 ∷ 1 ∷ 2 ∷ 3 ∷ 4 ∷ []) ≡ 0 ∷ 0 ∷ 0 ∷ 3 ∷ 4 ∷ []
unfolding lent_from measured
lent = refl

lent_once : map (measured 1 (replicate 54 0) (words (0 ∷ 5 ∷ 13 ∷ 21 ∷ 29 ∷ [])) glyf) (0 ∷ 1 ∷ 2 ∷ []) ≡ 0 ∷ 0 ∷ 1 ∷ []
unfolding lent_from measured
lent_once = refl

tops : map top_in (words (1 ∷ 0 ∷ 0 ∷ 50 ∷ 700 ∷ []) ∷ words (0 ∷ 0 ∷ 0 ∷ 50 ∷ 700 ∷ []) ∷ words (1 ∷ 0 ∷ 0 ∷ 50 ∷ []) ∷ [])
    ≡ pos 700 ∷ pos 700 ∷ pos 0 ∷ []
tops = refl

-- boxes of several heights in a line of 1000 units, and an odd one
centres : map (λ height. centred_in (pos 700) height 1000) (0 ∷ 700 ∷ 701 ∷ 999 ∷ 1000 ∷ 1001 ∷ 1002 ∷ 1003 ∷ [])
    ≡ pos 1200 ∷ pos 850 ∷ pos 849 ∷ pos 700 ∷ pos 700 ∷ pos 699 ∷ pos 699 ∷ pos 698 ∷ []
centres = refl

outlines : map (λ outline. centred_outline outline 1001) (words (1 ∷ 5 ∷ 65529 ∷ 105 ∷ 693 ∷ []) ∷ words (1 ∷ 5 ∷ 693 ∷ 105 ∷ 65529 ∷ [])
    ∷ words (0 ∷ 5 ∷ 65529 ∷ 105 ∷ 693 ∷ []) ∷ [] ∷ []) ≡ pos 843 ∷ pos 843 ∷ pos 500 ∷ pos 500 ∷ []
outlines = refl
