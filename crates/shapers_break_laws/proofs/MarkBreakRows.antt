-- Sequences of marks in whole texts and in halves, written out from the rules.
use Rattle.std.proofs.Common.{ℕ, ◌≡◌, List, [], ◌∷◌, ◌++◌, map, take, drop, refl, subst, arith}
use Rattle.shapers_buffer.specs.declared.buffer.category.hb_unicode_general_category_t.TheVariants.{Lo, Mn}
use Rattle.shapers_buffer.specs.Glyphs.{Glyph, Glyphs}
use Rattle.shapers_buffer.specs.declared.buffer.level.BufferClusterLevel.TheVariants.{MonotoneGraphemes}
use Rattle.shapers_buffer.specs.Glyph.{clusters, default_glyph}
use Rattle.shapers_buffer.specs.Properties.{general_category, modified_combining_class, properties}
use Rattle.shapers_clusters.specs.Breaks.{IsClear}
use Rattle.rustybuzz_shapers.specs.declared.shaper.hb_ot_shaper_t.TheVariants.{Arabic, Hebrew, Thai}
use Rattle.shapers_break_laws.specs.MarkBreaks.{NoneClearInside, marks_after}

-- a letter in this cluster, and a mark: its character and class
letter : ℕ → ℕ → Glyph
letter c u = record default_glyph { glyph_id = u; cluster = c; unicode_props = properties Lo 0 }

mark : ℕ → ℕ → ℕ → Glyph
mark c u class = record default_glyph { glyph_id = u; cluster = c; unicode_props = properties Mn class }

classes : Glyphs → List ℕ
classes gs = map (λ g. modified_combining_class g.unicode_props) gs

-- Arabic, a letter, 0651 of class 33 and 0655 in one cluster, a letter: 0655 comes first, with class 22, which HarfBuzz
-- numbers 25
word : Glyphs
word = letter 0 0x0628 ∷ mark 1 0x0651 33 ∷ mark 1 0x0655 220 ∷ letter 3 0x0628 ∷ []

row_word : classes (marks_after Arabic MonotoneGraphemes 1 3 word) ≡ 0 ∷ 25 ∷ 33 ∷ 0 ∷ []
unfolding letter mark word classes modified_combining_class general_category
row_word = refl

row_word_clusters : clusters (marks_after Arabic MonotoneGraphemes 1 3 word) ≡ 0 ∷ 1 ∷ 1 ∷ 3 ∷ []
unfolding letter mark word modified_combining_class general_category
row_word_clusters = refl

-- place 2 isn't clear, and places 1 and 3 are: there the run lies in one half
row_inside : NoneClearInside 1 3 word
unfolding letter mark word
row_inside p low high clear =
    let is : p ≡ 2 = omega arith in
    (subst (IsClear word) is clear).differ refl

row_before : marks_after Arabic MonotoneGraphemes 1 3 word ≡ marks_after Arabic MonotoneGraphemes 1 1 (take 1 word)
    ++ marks_after Arabic MonotoneGraphemes 0 2 (drop 1 word)
unfolding letter mark word modified_combining_class general_category
row_before = refl

row_behind : marks_after Arabic MonotoneGraphemes 1 3 word ≡ marks_after Arabic MonotoneGraphemes 1 3 (take 3 word)
    ++ marks_after Arabic MonotoneGraphemes 0 0 (drop 3 word)
unfolding letter mark word modified_combining_class general_category
row_behind = refl

-- 065C and 0655 in clusters of their own: together they stay, and 0655 alone gets that class
bare : Glyphs
bare = mark 0 0x065C 220 ∷ mark 1 0x0655 220 ∷ []

row_bare : classes (marks_after Arabic MonotoneGraphemes 0 2 bare) ≡ 220 ∷ 220 ∷ []
unfolding mark bare classes modified_combining_class general_category
row_bare = refl

row_bare_halves : classes (marks_after Arabic MonotoneGraphemes 0 1 (take 1 bare)
    ++ marks_after Arabic MonotoneGraphemes 0 1 (drop 1 bare)) ≡ 220 ∷ 25 ∷ []
unfolding mark bare classes modified_combining_class general_category
row_bare_halves = refl

row_bare_clear : IsClear (marks_after Arabic MonotoneGraphemes 0 2 bare) 1
unfolding mark bare modified_combining_class general_category
row_bare_clear = record { differ = λ e. absurd (omega arith); unflagged = refl }

-- Hebrew, classes 20, 22 and 25: the last two change places, unless the first is cut off
points : Glyphs
points = mark 0 0x05B7 20 ∷ mark 1 0x05B0 22 ∷ mark 1 0x05BD 25 ∷ []

row_points : classes (marks_after Hebrew MonotoneGraphemes 0 3 points) ≡ 20 ∷ 25 ∷ 22 ∷ []
unfolding mark points classes modified_combining_class general_category
row_points = refl

row_points_halves : classes (marks_after Hebrew MonotoneGraphemes 0 1 (take 1 points)
    ++ marks_after Hebrew MonotoneGraphemes 0 2 (drop 1 points)) ≡ 20 ∷ 22 ∷ 25 ∷ []
unfolding mark points classes modified_combining_class general_category
row_points_halves = refl

-- another shaper leaves them
row_thai : marks_after Thai MonotoneGraphemes 0 3 points ≡ points
row_thai = refl
