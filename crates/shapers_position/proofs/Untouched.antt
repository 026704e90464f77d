-- A pass leaves a text without the glyphs that it looks for as it is.
use Rattle.std.proofs.Common.{◌≡◌, ◌≤◌, Bool, false, List, [], ◌∷◌, length, map, refl, ap, ◌∙◌, arith, Option, Some, None}
use Rattle.std.specs.List.{list_any}
use Rattle.std.proofs.lemmas.Bool.{or_parts}
use Rattle.shapers_base.specs.declared.font.GlyphId.{GlyphId}
use Rattle.shapers_buffer.specs.Buffer.{Buffer}
use Rattle.shapers_buffer.specs.declared.buffer.glyph.GlyphPosition.{GlyphPosition}
use Rattle.shapers_buffer.specs.declared.buffer.level.Direction.{Direction}
use Rattle.shapers_buffer.specs.Glyphs.{Glyph, Glyphs}
use Rattle.shapers_choice.specs.Choice.{is_horizontal}
use Rattle.shapers_position.specs.declared.ot_shape_position.ignorables.DefaultIgnorables.{DefaultIgnorables}
use Rattle.shapers_position.specs.declared.ot_shape_position.ignorables.DefaultIgnorables.TheVariants.{Hide, Preserve, Remove}
use Rattle.shapers_position.specs.Ignorables.{drawn_by, ignorable_zeroed, ignorables_hidden, ignorables_removed, ignorables_zeroed, is_default_ignorable, positions_kept}
use Rattle.shapers_position.specs.Widths.{positions_changed}
use Rattle.shapers_position.proofs.RemovalLaws.{ignorables_are_removed}

-- A change of what passes a test, over a list in which nothing does.
pub map-none : {X : Type 0} (test : X → Bool) (f : X → X) → ((x : X) → test x ≡ false → f x ≡ x)
    → (xs : List X) → list_any test xs ≡ false → map f xs ≡ xs
map-none test f leaves [] none = refl
map-none test f leaves (x ∷ xs) none =
    let both = or_parts (test x) (list_any test xs) none in
    cc (leaves x both.0, map-none test f leaves xs both.1)

-- The same of positions, by the glyphs that have them.
pub changed-none : (test : Glyph → Bool) (f : Glyph → GlyphPosition → GlyphPosition)
    → ((g : Glyph) (p : GlyphPosition) → test g ≡ false → f g p ≡ p)
    → (gs : Glyphs) (ps : List GlyphPosition) → length ps ≤ length gs → list_any test gs ≡ false
    → positions_changed f gs ps ≡ ps
changed-none test f leaves [] [] few none = refl
changed-none test f leaves (g ∷ gs) [] few none = refl
changed-none test f leaves [] (p ∷ ps) few none = absurd (omega arith)
changed-none test f leaves (g ∷ gs) (p ∷ ps) few none =
    let both = or_parts (test g) (list_any test gs) none in
    cc (leaves g p both.0, changed-none test f leaves gs ps (omega arith) both.1)

-- Positions of glyphs of which none goes.
kept-none : (gs : Glyphs) (ps : List GlyphPosition) → length ps ≤ length gs
    → list_any is_default_ignorable gs ≡ false → positions_kept gs ps ≡ ps
kept-none [] [] few none = refl
kept-none (g ∷ gs) [] few none = refl
kept-none [] (p ∷ ps) few none = absurd (omega arith)
kept-none (g ∷ gs) (p ∷ ps) few none =
    let both = or_parts (is_default_ignorable g) (list_any is_default_ignorable gs) none in
    cc (both.0, kept-none gs ps (omega arith) both.1)

removed-none : (b : Buffer) → length b.positions ≤ length b.glyphs
    → list_any is_default_ignorable b.glyphs ≡ false → ignorables_removed b ≡ b
removed-none b few none =
    ap (λ gs. let r : Buffer = record b { glyphs = gs; positions = positions_kept b.glyphs b.positions } in r)
    ((ignorables_are_removed b.level b.glyphs).none none)
    ∙ ap (λ ps. let r : Buffer = record b { positions = ps } in r) (kept-none b.glyphs b.positions few none)

pub hidden-none : (i : DefaultIgnorables) (glyph : Option GlyphId) (b : Buffer)
    → length b.positions ≤ length b.glyphs → list_any is_default_ignorable b.glyphs ≡ false
    → ignorables_hidden i glyph b ≡ b
hidden-none Hide (Some glyph) b few none =
    ap (λ gs. let r : Buffer = record b { glyphs = gs } in r)
    (map-none is_default_ignorable (drawn_by glyph) (λ g is. cc is) b.glyphs none)
hidden-none Hide None b few none = removed-none b few none
hidden-none Preserve glyph b few none = refl
hidden-none Remove glyph b few none = removed-none b few none

pub zeroed-none : (i : DefaultIgnorables) (d : Direction) (gs : Glyphs) (ps : List GlyphPosition)
    → length ps ≤ length gs → list_any is_default_ignorable gs ≡ false → ignorables_zeroed i d gs ps ≡ ps
zeroed-none Hide d gs ps few none =
    changed-none is_default_ignorable (ignorable_zeroed (is_horizontal d)) (λ g p is. cc is) gs ps few none
zeroed-none Preserve d gs ps few none = refl
zeroed-none Remove d gs ps few none = refl

-- Positions that each glyph gives by itself, whatever stood there.
pub given-each : (f : Glyph → GlyphPosition) (gs : Glyphs) (ps : List GlyphPosition) → length ps ≡ length gs
    → positions_changed (λ g p. f g) gs ps ≡ map f gs
given-each f [] [] same = refl
given-each f [] (p ∷ ps) same = absurd (omega arith)
given-each f (g ∷ gs) [] same = absurd (omega arith)
given-each f (g ∷ gs) (p ∷ ps) same = ap (λ qs. f g ∷ qs) (given-each f gs ps (omega arith))
