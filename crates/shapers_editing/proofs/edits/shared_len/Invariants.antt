use Rattle.std.proofs.Common.{◌≡◌, ◌+◌, ◌-◌, ◌≤◌, drop}
use Rattle.shapers_editing.specs.Affected.{glyphs_in, shared, from_either_end}
use Rattle.shapers_editing.proofs.edits.shared_len.Given as goal

-- The spans so far are shared, and cover what of the room is used.
abbrev pub invariant-loop-k : goal.invariant-loop-k
invariant-loop-k l =
    let ss = from_either_end l.from_end l.old in
    let ts = from_either_end l.from_end l.new in
    (l.left ≤ l.room) × (glyphs_in (shared l.room ss ts)
    ≡ (l.room - l.left) + glyphs_in (shared l.left (drop l.k ss) (drop l.k ts)))
