-- Words of the code: of its recursion over the steps, and of its question whether all stays.
use Rattle.std.specs.Prelude.{ℕ, Bool, not, ◌&&◌, ◌==◌, List, [], ◌∷◌, ◌++◌, length, if◌then◌else◌}
use Rattle.shapers_buffer.specs.Glyphs.{Glyph}
use Rattle.shapers_normal.specs.Context.{Context}
use Rattle.shapers_normal.specs.Decomposition.{come_off, image}
use Rattle.shapers_normal.specs.Variants.{is_selector_glyph}
use Rattle.shapers_normal.specs.declared.ot_shape_normalize.decomposing.Way.{Way}

-- an image, or else the base alone, if the font has it
abbrev pub or_base_alone : Bool → ℕ → List ℕ → List ℕ
or_base_alone has a [] = if has then a ∷ [] else []
or_base_alone has a (c ∷ cs) = c ∷ cs

-- an image, if there is one, and what came off behind it
abbrev pub then_come_off : ℕ → List ℕ → List ℕ
then_come_off b [] = []
then_come_off b (c ∷ cs) = (c ∷ cs) ++ come_off b

-- whether a glyph is no selector, and its character stays, one way or the other
abbrev pub stays_unselected : Context → Way → Glyph → Bool
stays_unselected context way g =
    not (is_selector_glyph g) && length (image context way g.glyph_id) == 0
