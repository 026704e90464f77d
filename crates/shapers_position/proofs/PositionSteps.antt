-- Positions, changed or brought to the front by their glyphs, step by step.
use Rattle.std.proofs.Common.{◌≡◌, ◌+◌, ◌<◌, ◌≤◌, ℕ, zero, suc, Bool, true, false, cond, List, [], ◌∷◌, ◌++◌, get_or, length, map, set, take, drop, refl, sym, ap, ◌∙◌, arith}
use Rattle.std.specs.Prelude.{filter, not}
use Rattle.std.specs.List.{zip}
use Rattle.std.proofs.lemmas.List.{append_assoc, drop-set-lt, drop_more, take_more_set}
use Rattle.shapers_buffer.specs.declared.buffer.glyph.GlyphPosition.{GlyphPosition}
use Rattle.shapers_buffer.specs.Glyphs.{Glyph, Glyphs}
use Rattle.shapers_buffer.specs.Glyph.{default_glyph, default_position}
use Rattle.shapers_position.specs.Ignorables.{is_default_ignorable, stays_in_text, positions_kept}
use Rattle.shapers_position.specs.Widths.{positions_changed}

-- a text without positions keeps none
pub changed_none : (f : Glyph → GlyphPosition → GlyphPosition) (gs : Glyphs)
    (ps : List GlyphPosition) → length ps ≡ 0 → positions_changed f gs ps ≡ ps
changed_none f [] [] none = refl
changed_none f (g ∷ gs) [] none = refl
changed_none f gs (p ∷ ps) none = absurd (omega arith)

nothing : (n : ℕ) → take {A = GlyphPosition} n [] ≡ []
nothing zero = refl
nothing (suc n) = refl

pub kept_none : (n : ℕ) (gs : Glyphs) (ps : List GlyphPosition) → length ps ≡ 0 →
    take n ps ≡ positions_kept gs ps
kept_none n [] [] none = nothing n
kept_none n (g ∷ gs) [] none = nothing n
kept_none n gs (p ∷ ps) none = absurd (omega arith)

-- the positions from one place on that stay
kept_next : (gs : Glyphs) (ps : List GlyphPosition) (i : ℕ) (b : Bool) → i < length gs →
    length ps ≡ length gs → is_default_ignorable (get_or gs i default_glyph) ≡ b →
    let rest = positions_kept (drop (i + 1) gs) (drop (i + 1) ps) in
    positions_kept (drop i gs) (drop i ps) ≡ cond b rest (get_or ps i default_position ∷ rest)
kept_next gs ps i b inside same is =
    let g = get_or gs i default_glyph in
    let p = get_or ps i default_position in
    let cells = filter (λ (c : Glyph × GlyphPosition). stays_in_text c.0)
    (zip (drop (i + 1) gs) (drop (i + 1) ps)) in
    ap (λ xs. positions_kept xs (drop i ps)) (drop_more gs i default_glyph inside)
    ∙ ap (positions_kept (g ∷ drop (i + 1) gs)) (drop_more ps i default_position (omega arith))
    ∙ ap (λ b. map (λ (c : Glyph × GlyphPosition). c.1) (cond (not b) ((g, p) ∷ cells) cells)) is
    ∙ elim b as (λ b. map (λ (c : Glyph × GlyphPosition). c.1) (cond (not b) ((g, p) ∷ cells) cells)
    ≡ cond b (map (λ c. c.1) cells) (p ∷ map (λ c. c.1) cells)) [ true ↦ refl | false ↦ refl ]

-- that of a glyph that stays comes behind the others
pub moved_stays : (gs : Glyphs) (ps : List GlyphPosition) (k i : ℕ) (p : GlyphPosition) → k ≤ i →
    i < length gs → length ps ≡ length gs → get_or ps i default_position ≡ p →
    is_default_ignorable (get_or gs i default_glyph) ≡ false →
    take (k + 1) (set ps k p) ++ positions_kept (drop (i + 1) gs) (drop (i + 1) (set ps k p))
    ≡ take k ps ++ positions_kept (drop i gs) (drop i ps)
moved_stays gs ps k i p few inside same at is =
    let rest = positions_kept (drop (i + 1) gs) (drop (i + 1) ps) in
    ap (λ xs. xs ++ positions_kept (drop (i + 1) gs) (drop (i + 1) (set ps k p))) (take_more_set ps k p (omega arith))
    ∙ ap (λ xs. (take k ps ++ p ∷ []) ++ positions_kept (drop (i + 1) gs) xs) (drop-set-lt (i + 1) ps k p (omega arith))
    ∙ append_assoc (take k ps) (p ∷ []) rest
    ∙ ap (λ x. take k ps ++ x ∷ rest) (sym at)
    ∙ ap (λ xs. take k ps ++ xs) (sym (kept_next gs ps i false inside same is))

-- that of one that goes is passed over
pub moved_goes : (gs : Glyphs) (ps : List GlyphPosition) (k i : ℕ) → i < length gs →
    length ps ≡ length gs → is_default_ignorable (get_or gs i default_glyph) ≡ true →
    take k ps ++ positions_kept (drop (i + 1) gs) (drop (i + 1) ps)
    ≡ take k ps ++ positions_kept (drop i gs) (drop i ps)
moved_goes gs ps k i inside same is = ap (λ xs. take k ps ++ xs) (sym (kept_next gs ps i true inside same is))
