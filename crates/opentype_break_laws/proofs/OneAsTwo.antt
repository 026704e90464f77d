-- The font of one sequence meets the laws of a font's lookups.
use Rattle.std.proofs.Common.{ℕ, zero, suc, ◌*◌, ◌%◌, ◌<◌, ◌≤◌, ◌≡◌, ◌==◌, inl, inr, nat_lt, bit_and, if◌then◌else◌, Bool, true, false, List, [], ◌∷◌, length, Option, None, Some, refl, arith}
use Rattle.std.specs.Option.{option_map_or}
use Rattle.std.proofs.lemmas.Bool.Decides.{nat_tests}
use Rattle.shapers_buffer.specs.Buffer.{Buffer}
use Rattle.shapers_buffer.specs.Glyphs.{Glyph, Glyphs}
use Rattle.opentype_face.specs.Firsts.{first_from, or_else}
use Rattle.opentype_face.specs.Lookups.{lookup_in, subtable_in}
use Rattle.opentype_font.specs.Lookups.{substituted_by}
use Rattle.opentype_gsub.specs.Decided.{covered_in, set_at}
use Rattle.opentype_gsub.specs.Edits.{count_in}
use Rattle.opentype_break_laws.specs.FontPieces.{FontLookupsLeavePieces}
use Rattle.opentype_break_laws.specs.OneAsTwo.{IsMadeInPieces, one_as_two}
use Rattle.opentype_break_laws.specs.TwoSingles.{first_lookup}
use Rattle.opentype_break_laws.specs.Sequences.{FirstStays, PutsSequences, StayOrGo, TakesSequences, glyphs_of_all, glyphs_of_one, sequence_for}

puts_one : PutsSequences one_as_two first_lookup
puts_one = record { some = omega arith; types = λ i less. refl; flagless = refl }

abbrev table : List ℕ
table = lookup_in one_as_two 0

-- one glyph or two
abbrev IsOneOrTwo : ℕ → Type 0
IsOneOrTwo n = (0 < n) × (n ≤ 2)

by_place : (place : Option ℕ) → IsOneOrTwo (option_map_or count_in (or_else (set_at (subtable_in 7 table 0) place) None) 1)
by_place None = (omega arith, omega arith)
by_place (Some zero) = (omega arith, omega arith)
by_place (Some (suc i)) =
    let none : nat_lt (suc i) 1 ≡ false = grind (arith, nat_tests) in
    rw none (omega arith, omega arith)

by_number : (number : ℕ) → IsOneOrTwo (option_map_or count_in (sequence_for table number) 1)
unfolding first_from
by_number number = by_place (covered_in (subtable_in 7 table 0) number)

if_none : (none : Bool) (n : ℕ) → IsOneOrTwo n → IsOneOrTwo (if none then 1 else n)
if_none true n is = (omega arith, omega arith)
if_none false n is = is

of_one : (g : Glyph) → IsOneOrTwo (glyphs_of_one 256 table g)
of_one g = if_none (bit_and g.mask 256 == 0) (option_map_or count_in (sequence_for table (g.glyph_id % 65536)) 1)
    (by_number (g.glyph_id % 65536))

stay_behind : (h : Glyph) (gs : Glyphs) → StayOrGo (glyphs_of_one 256 table) h gs
stay_behind h [] = tt
stay_behind h (g ∷ gs) = (inl (of_one g).0, stay_behind g gs)

all_stay : (gs : Glyphs) → FirstStays (glyphs_of_one 256 table) gs
all_stay [] = tt
all_stay (g ∷ gs) = ((of_one g).0, stay_behind g gs)

of_all : (gs : Glyphs) → glyphs_of_all 256 table gs ≤ 2 * length gs
of_all [] = omega arith
of_all (g ∷ gs) = omega (arith, (of_one g).1, of_all gs)

pub made_in_pieces : FontLookupsLeavePieces → (old new : Buffer)
    → new ≡ substituted_by [] one_as_two first_lookup old → IsMadeInPieces old new.glyphs
made_in_pieces law old new is room numbered compares =
    let takes : TakesSequences old one_as_two first_lookup old = record {
      stays = all_stay old.glyphs;
      size = refl;
      room = omega (arith, of_all old.glyphs, room);
    } in
    let leaves = law numbered old [] one_as_two first_lookup old (inr (inr (inr (record {
      puts = puts_one;
      takes = takes;
      compared = compares;
    })))) in
    rw is leaves
