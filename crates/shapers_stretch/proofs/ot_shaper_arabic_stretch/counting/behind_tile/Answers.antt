use Rattle.std.proofs.Common.{arith}
use Rattle.std.proofs.Common.{◌≡◌, ◌≤◌, ℕ, ℤ, subst, sym, ap, ◌∙◌, rules, FitsSigned, to_z, of_z, ◌-ℤ◌, ◌*ℤ◌, ◌≤ℤ◌, ◌*◌, ◌^◌, pos, negsuc, Some, replicate, [], ◌∷◌}
use Rattle.std.proofs.lemmas.Int.{to_z-of_z}
use mir.Syntax.{w32, w64}
use Rattle.shapers_stretch.specs.CountingWalk.{WalksPen}
use Rattle.shapers_stretch.proofs.Counts.{far_moves, tile_walked}
use Rattle.shapers_stretch.proofs.ot_shaper_arabic_stretch.counting.behind_tile.Goals as goal

-- the added copies together don't move the pen too far
far : (n : ℕ) (advance overlap step : ℤ) → FitsSigned w32 advance → FitsSigned w64 step
    → step ≡ to_z w32 (of_z w32 advance) -ℤ overlap → n ≤ 2 ^ 31 → pos 0 ≤ℤ overlap → (pos n *ℤ overlap) ≤ℤ pos (2 ^ 34)
    → (negsuc (3 * 2 ^ 61) ≤ℤ (pos n *ℤ to_z w64 (of_z w64 step)))
    × ((pos n *ℤ to_z w64 (of_z w64 step)) ≤ℤ pos (3 * 2 ^ 61))
far n advance overlap step fits fits_step e few low shared = search (arith, far_moves n advance overlap step few fits low shared (e ∙ ap (λ x. x -ℤ overlap) (to_z-of_z w32 advance fits)))

pub behind_copies-requires-clause-far_low : goal.behind_copies-requires-clause-far_low
behind_copies-requires-clause-far_low g c =
    (far c.args.lay.added c.advance_of-width.result c.args.lay.overlap c.step_of.result
    (record { sfits = c.advance_of-width.type_inv }) (record { sfits = c.step_of.type_inv }) c.step_of.ensures.value
    c.requires.lay.added c.requires.lay.low c.requires.lay.shared).0

pub behind_copies-requires-clause-far_high : goal.behind_copies-requires-clause-far_high
behind_copies-requires-clause-far_high g c =
    (far c.args.lay.added c.advance_of-width.result c.args.lay.overlap c.step_of.result
    (record { sfits = c.advance_of-width.type_inv }) (record { sfits = c.step_of.type_inv }) c.step_of.ensures.value
    c.requires.lay.added c.requires.lay.low c.requires.lay.shared).1

pub returns : goal.returns
returns g c =
    let rtl = c.args.right_to_left in
    let behind = c.in_ok-behind.behind in
    let advance = to_z-of_z w32 c.advance_of-width.result (record { sfits = c.advance_of-width.type_inv }) in
    let first : WalksPen rtl c.args.pen (c.from.result ∷ []) (Some behind) =
    subst (λ p. WalksPen rtl p (c.from.result ∷ []) (Some behind)) (to_z-of_z w64 c.args.pen c.ranges.pen)
    (subst (λ w. WalksPen rtl (to_z w64 (of_z w64 c.args.pen)) (w ∷ []) (Some behind))
    (to_z-of_z w64 c.from.result (record { sfits = c.from.type_inv })) c.in_ok-behind.ensures) in
    let rest : WalksPen rtl behind (replicate c.args.lay.added c.step_of.result) c.behind_copies.result =
    subst (λ p. WalksPen rtl p (replicate c.args.lay.added c.step_of.result) c.behind_copies.result)
    (to_z-of_z w64 behind (search rules))
    (subst (λ s. WalksPen rtl (to_z w64 (of_z w64 behind)) (replicate c.args.lay.added s)
    c.behind_copies.result) (to_z-of_z w64 c.step_of.result
    (record { sfits = c.step_of.type_inv })) c.behind_copies.ensures) in
    tile_walked
    (g.F.hb_font_t.font c.args.font.now) c.args.lay c.args.tile.now rtl c.args.pen c.from.result c.step_of.result behind
    c.behind_copies.result (sym c.repeats.ensures ∙ c.if-not-repeats.false) (
    (c.from.ensures ∙ advance) ∙ c.advance_of-width.ensures)
    (c.step_of.ensures.value ∙ ap (λ x. x -ℤ c.args.lay.overlap) (sym c.from.ensures)) first rest
