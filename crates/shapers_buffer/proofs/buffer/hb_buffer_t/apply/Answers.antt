-- Each form of a placement makes of the glyphs what its places say.
use Rattle.std.proofs.Common.{◌≡◌, ◌+◌, ◌≤◌, List, ℕ, arith}
use Rattle.shapers_buffer.specs.Places.{PlacesEachOnce}
use Rattle.shapers_buffer.specs.declared.buffer.placement.Placement.{Placement}
use Rattle.shapers_buffer.specs.declared.buffer.placement.Placement.TheVariants.{Forward}
use Rattle.shapers_buffer.proofs.Placements.{forward_inside, placed_forward, placed_stays, rotated_stretch}
use Rattle.shapers_buffer.proofs.buffer.hb_buffer_t.apply.Goals as goal

inside : (placement : Placement) (to from count s e : ℕ) (places : List ℕ) → placement ≡ Forward to from count → s ≤ e
    → PlacesEachOnce placement s e places → (s ≤ to) × (to ≤ from) × (from + count ≤ e)
inside placement to from count s e places is order each = forward_inside to from count s e places order (search arith)

pub bring_forward-requires-clause-in_order : goal.bring_forward-requires-clause-in_order
bring_forward-requires-clause-in_order c =
    let a = c.args in
    let f = c.in-Forward in
    (inside a.placement f.to f.from f.count a.start a.end a.self.now.places f.is c.requires.in_order
    c.requires.permutes).1

pub bring_forward-requires-clause-in_range : goal.bring_forward-requires-clause-in_range
bring_forward-requires-clause-in_range c =
    let a = c.args in
    let f = c.in-Forward in
    let last : f.from + f.count ≤ a.end =
    (inside a.placement f.to f.from f.count a.start a.end a.self.now.places f.is c.requires.in_order
    c.requires.permutes).2 in
    search arith

pub returns-in-Stays : goal.returns-in-Stays
returns-in-Stays c = let a = c.args in let b = a.self.now in search (arith, c.in-Stays.is, placed_stays)

pub returns-in-Forward : goal.returns-in-Forward
returns-in-Forward c =
    let a = c.args in
    let b = a.self.now in
    let f = c.in-Forward in
    let within = inside a.placement f.to f.from f.count a.start a.end b.places f.is c.requires.in_order
    c.requires.permutes in
    cc (
      c.bring_forward.ensures,
      rotated_stretch f.to f.from f.count b.glyphs within.1 (omega arith),
      f.is,
      placed_forward f.to f.from f.count a.start a.end b.places b.glyphs within.0 within.1 within.2
          c.requires.in_range,
    )
