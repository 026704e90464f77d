-- The three are the first ones of what is left.
use Rattle.std.proofs.Common.{◌≡◌, ◌+◌, ◌≤◌, length}
use Rattle.std.specs.Prelude.{option_map}
use Rattle.std.specs.Slice.Iter.{windows_rest, windows_size}
use Rattle.shapers_text.specs.Hebrew.{second_of_triple, triple_place}
use Rattle.shapers_text.proofs.ot_shaper_hebrew.find_triple.Given as goal

abbrev pub invariant-loop-triple : goal.invariant-loop-triple
invariant-loop-triple l =
    let rest = windows_rest l.triple-iterator in
    record {
      threes : windows_size l.triple-iterator ≡ 3;
      place : l.second + length rest ≤ l.end + 1;
      first : option_map (λ k. l.second + k) (triple_place rest) ≡ second_of_triple l.start l.end l.glyphs;
    }
