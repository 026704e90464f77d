-- Caret stops of a few texts, and the intervals between them.
use Rattle.std.proofs.Common.{◌≡◌, ℕ, true, false, List, [], ◌∷◌, map, refl}
use Rattle.shapers_buffer.specs.Glyphs.{Glyphs}
use Rattle.shapers_buffer.specs.declared.buffer.level.Direction.TheVariants.{BottomToTop, Invalid, LeftToRight, RightToLeft, TopToBottom}
use Rattle.shapers_buffer.specs.Glyph.{default_glyph}
use Rattle.shapers_editing.specs.Carets.{caret_stops, has_place, intervals, is_backward, lesser, text_clusters}

-- glyphs of these clusters
abbrev of : List ℕ → Glyphs
of cs = map (λ c. record default_glyph { cluster = c }) cs

backward : map is_backward (Invalid ∷ LeftToRight ∷ RightToLeft ∷ TopToBottom ∷ BottomToTop ∷ [])
    ≡ false ∷ false ∷ true ∷ false ∷ true ∷ []
backward = refl

in_text_order : text_clusters LeftToRight (of (0 ∷ 2 ∷ [])) ≡ 0 ∷ 2 ∷ []
in_text_order = refl

from_right : text_clusters RightToLeft (of (2 ∷ 0 ∷ [])) ≡ 0 ∷ 2 ∷ []
from_right = refl

-- each cluster of clusters that rise along the text, once
rising : caret_stops LeftToRight (of (0 ∷ 0 ∷ 2 ∷ 5 ∷ [])) ≡ 0 ∷ 2 ∷ 5 ∷ []
rising = refl

from_top : caret_stops TopToBottom (of (0 ∷ 0 ∷ 2 ∷ 5 ∷ [])) ≡ 0 ∷ 2 ∷ 5 ∷ []
from_top = refl

unset : caret_stops Invalid (of (1 ∷ 2 ∷ 2 ∷ [])) ≡ 1 ∷ 2 ∷ []
unset = refl

falling : caret_stops RightToLeft (of (5 ∷ 2 ∷ 0 ∷ 0 ∷ [])) ≡ 0 ∷ 2 ∷ 5 ∷ []
falling = refl

from_bottom : caret_stops BottomToTop (of (5 ∷ 5 ∷ 0 ∷ [])) ≡ 0 ∷ 5 ∷ []
from_bottom = refl

-- what the reorderings of Indic leave of one syllable
syllable : caret_stops LeftToRight (of (0 ∷ 1 ∷ 2 ∷ 0 ∷ 0 ∷ [])) ≡ 0 ∷ []
syllable = refl

-- clusters out of order: those that are less than all behind them
lesser_ones : lesser (3 ∷ 1 ∷ 0 ∷ 4 ∷ 2 ∷ 7 ∷ 7 ∷ []) ≡ 0 ∷ 2 ∷ 7 ∷ []
lesser_ones = refl

none : caret_stops LeftToRight (of []) ≡ []
none = refl

parts : intervals (0 ∷ 2 ∷ 5 ∷ []) 9 ≡ (0, 2) ∷ (2, 5) ∷ (5, 9) ∷ []
parts = refl

one_part : intervals (4 ∷ []) 5 ≡ (4, 5) ∷ []
one_part = refl

no_part : intervals [] 9 ≡ []
no_part = refl

places : map (λ p. has_place p (2, 5)) (1 ∷ 2 ∷ 4 ∷ 5 ∷ []) ≡ false ∷ true ∷ true ∷ false ∷ []
places = refl
