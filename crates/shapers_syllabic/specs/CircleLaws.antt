-- What dotted circles add to a text, and that nothing else changes.
use Rattle.std.specs.Prelude.{◌≡◌, Bool, true, false, List, [], ◌∷◌, ◌++◌, take, drop, map, filter, All, Contains, Option, None, Some, if◌then◌else◌}
use Rattle.std.specs.List.{flat_map}
use Rattle.shapers_buffer.specs.Glyphs.{Glyphs}
use Rattle.shapers_syllabic.specs.declared.ot_shaper_syllabic.circles.DottedCircles.{DottedCircles}
use Rattle.shapers_syllabic.specs.Circles.{is_of_kind, rephas_len, circle_in, with_circles}
use Rattle.shapers_buffer.specs.Glyph.{clusters}
use Rattle.shapers_buffer.specs.Syllables.{syllables}

-- the elements of a list that aren't marked, and those that are
abbrev pub unmarked : {X : Type 0} → List Bool → List X → List X
unmarked [] xs = xs
unmarked (mark ∷ marks) [] = []
unmarked (mark ∷ marks) (x ∷ xs) = if mark then unmarked marks xs else x ∷ unmarked marks xs

abbrev pub marked : {X : Type 0} → List Bool → List X → List X
marked [] xs = []
marked (mark ∷ marks) [] = []
marked (mark ∷ marks) (x ∷ xs) = if mark then x ∷ marked marks xs else marked marks xs

-- no mark for any of these glyphs
abbrev pub none_marked : Glyphs → List Bool
none_marked gs = map (λ g. false) gs

-- for each glyph of what a syllable becomes, whether it is the circle
abbrev pub marks_in : DottedCircles → Glyphs → List Bool
marks_in rule gs =
    if is_of_kind rule.broken_kind gs then none_marked (take (rephas_len rule.repha gs) gs) ++ true
    ∷ none_marked (drop (rephas_len rule.repha gs) gs)
    else none_marked gs

-- for each place of the text with its circles, whether a circle stands there
abbrev pub circle_marks : DottedCircles → Glyphs → List Bool
circle_marks rule gs = flat_map (marks_in rule) (syllables gs)

-- the circles: one for each broken syllable, in order
abbrev pub circles_of : DottedCircles → Glyphs → Glyphs
circles_of rule gs =
    map (λ piece. circle_in piece rule.circle) (filter (is_of_kind rule.broken_kind) (syllables gs))

-- a text before and after circles came into it: without the circles it is the text that it was,
-- and what was added is its circles
abbrev pub OnlyCirclesAdded : DottedCircles → Glyphs → Glyphs → Type 0
OnlyCirclesAdded rule old new =
    (unmarked (circle_marks rule old) new ≡ old)
    × (marked (circle_marks rule old) new ≡ circles_of rule old)

-- so of a text that gets circles; one that gets none stays
abbrev pub CirclesErased :
    Option DottedCircles → Glyphs → Glyphs → Type 0
CirclesErased None old new = new ≡ old
CirclesErased (Some rule) old new = OnlyCirclesAdded rule old new

-- so of every text with its circles
abbrev pub CirclesCanBeErased : Type 0
CirclesCanBeErased = (rule : DottedCircles) (gs : Glyphs) →
    OnlyCirclesAdded rule gs (with_circles rule gs)

-- each cluster of the new glyphs is one that the old ones had
abbrev pub NoNewCluster : Glyphs → Glyphs → Type 0
NoNewCluster old new = All (Contains (clusters old)) (clusters new)

-- so of the text with its circles
abbrev pub CirclesKeepClusters : Type 0
CirclesKeepClusters =
    (rule : DottedCircles) (gs : Glyphs) → NoNewCluster gs (with_circles rule gs)
