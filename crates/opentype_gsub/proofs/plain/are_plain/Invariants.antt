use Rattle.std.proofs.Common.{ℕ, ◌<◌, ◌≡◌, true}
use Rattle.opentype_face.specs.Lookups.{type_in}
use Rattle.opentype_gsub.specs.PlainLookups.{is_plain}
use Rattle.opentype_gsub.proofs.plain.are_plain.Given as goal

abbrev pub invariant-loop-i : goal.invariant-loop-i
invariant-loop-i l = (j : ℕ) → j < l.i → is_plain (type_in 7 l.lookup j) ≡ true
