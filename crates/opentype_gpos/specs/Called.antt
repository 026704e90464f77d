-- Rules of contexts that fit, and the lookups that they apply.
use Rattle.std.specs.Prelude.{ℕ, zero, suc, ◌+◌, ◌-◌, ◌*◌, ◌⊎◌, nat_lt, true, List, length, slice_index, Option, None, Some, if◌then◌else◌}
use Rattle.std.proofs.Common.{inl, inr}
use Rattle.shapers_buffer.specs.Glyphs.{Glyphs}
use Rattle.opentype_face.specs.Bytes.{u16_in}
use Rattle.opentype_face.specs.Lookups.{lookup_in, operations_in}
use Rattle.opentype_layout.specs.Rules.{Found}
use Rattle.opentype_gpos.specs.Coming.{Setting, came_in, sights_in}
use Rattle.opentype_gpos.specs.Moved.{Positions, flagged_up_to}
use Rattle.opentype_gpos.specs.Looked.{tried}
use Rattle.opentype_gpos.specs.Making.{moved}
use Rattle.opentype_gpos.specs.declared.moves.Move.{Move}

-- A text and its positions, and how many operations the rules at a place have left.
pub record Work : Type 0 where
  pub glyphs : Glyphs
  pub positions : Positions
  pub left : ℕ

abbrev pub move_made : Setting → Move → ℕ → Work → Work
move_made s it at w = let p = moved s.direction it at w.glyphs w.positions in
    record { glyphs = p.glyphs; positions = p.positions; left = w.left }

-- what a lookup that comes to something makes of a text, by what a rule that fits makes of it
abbrev pub made_of : (Found → Work → Work) → Setting → ℕ → Work → Option (Move ⊎ Found) → Work
made_of by_rule s at w None = w
made_of by_rule s at w (Some (inl it)) = move_made s it at w
made_of by_rule s at w (Some (inr rule)) = by_rule rule w

-- A lookup that a rule applies at a place, once. Neither the flag of the lookup nor a feature
-- leaves the glyph at that place out. What it looks at in vain is flagged first.
unfoldable pub lookup_made : (Found → Work → Work) → Setting → List ℕ → ℕ → Work → Work
lookup_made by_rule s lookup at w =
    let sights = sights_in s lookup in
    made_of by_rule s at (record w { glyphs = tried s sights lookup w.glyphs at })
    (came_in s sights lookup w.glyphs at)

-- Record i of a rule: the number of a place of its input, and a lookup's. There is nothing to do
-- where the input has no such place. Where fewer operations are left than the lookup takes, none is
-- left.
unfoldable pub record_made : (Found → Work → Work) → Setting → List ℕ → List ℕ → ℕ → Work → Work
record_made by_rule s records places i w =
    let sequence = u16_in records (i * 4) in
    let lookup = lookup_in s.gpos (u16_in records (i * 4 + 2)) in
    let n = operations_in lookup in
    if nat_lt w.left n then record w { left = 0 }
    else (let v = record w { left = w.left - n } in if nat_lt sequence (length places)
    then lookup_made by_rule s lookup (slice_index places sequence) v else v)

-- so many records, from number i on
unfoldable pub records_made : ℕ → (ℕ → Work → Work) → ℕ → Work → Work
records_made zero each i w = w
records_made (suc n) each i w = records_made n each (i + 1) (each i w)

-- no break inside what a rule looked at
abbrev pub rule_flagged : Found → Work → Work
rule_flagged rule w =
    record w { glyphs = flagged_up_to true rule.start (rule.stop - 1) w.glyphs }

-- A rule that fits applies its records one after another, if rules may go on so many levels deep.
unfoldable pub rule_made : ℕ → Setting → Found → Work → Work
rule_made zero s rule w = w
rule_made (suc n) s rule w = records_made rule.count
    (record_made (rule_made n s) s rule.records rule.places) 0 (rule_flagged rule w)
