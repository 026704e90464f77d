-- The font of two single substitutions meets the laws of a font's lookups.
use Rattle.std.proofs.Common.{◌≡◌, inl, [], refl, arith}
use Rattle.shapers_buffer.specs.Buffer.{Buffer}
use Rattle.opentype_font.specs.Lookups.{substituted_by}
use Rattle.opentype_break_laws.specs.FontPieces.{FontLookupsLeavePieces, PutsOneForOne}
use Rattle.opentype_break_laws.specs.TwoSingles.{IsMadeOfPieces, first_lookup, two_singles}

pub two_for_two : PutsOneForOne two_singles first_lookup
two_for_two = record {
  table = (omega arith, λ i less. refl);
  flagless = refl;
}

pub made_of_pieces : FontLookupsLeavePieces → (old new : Buffer)
    → new ≡ substituted_by [] two_singles first_lookup old → IsMadeOfPieces old new.glyphs
made_of_pieces law old new is numbered =
    let leaves = law numbered old [] two_singles first_lookup old (inl two_for_two) in
    rw is leaves
