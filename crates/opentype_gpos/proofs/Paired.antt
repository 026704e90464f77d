-- What a subtable of pairs comes to.
use Rattle.std.proofs.Common.{ℕ, ◌≡◌, ◌==◌, ◌<◌, ◌||◌, if◌then◌else◌, List, Option, length, inl, inr, refl, sym, ap, ◌∙◌, arith}
use Rattle.std.proofs.lemmas.Grind.{common_steps}
use Rattle.shapers_buffer.specs.declared.buffer.level.Direction.{Direction}
use Rattle.opentype_gpos.specs.Making.{moved}
use Rattle.opentype_gpos.specs.Moved.{Positions, Progress, pair_moved}
use Rattle.opentype_gpos.specs.declared.moves.Move.TheVariants.{Kerns}
use Rattle.opentype_gpos.specs.declared.moves.PairMove.{PairMove}
use Rattle.opentype_gpos.specs.declared.moves.PairPlace.{PairPlace}
use Rattle.std.specs.Option.{option_map}
use Rattle.shapers_buffer.specs.Glyphs.{Glyphs}
use Rattle.opentype_face.specs.Lookups.{subtable_in, type_in}
use Rattle.opentype_layout.specs.Rules.{context_in}
use Rattle.opentype_gpos.specs.Coming.{Setting, nth_came}
use Rattle.opentype_gpos.specs.Moves.{one_move, pair_found, pair_move}
use Rattle.opentype_gpos.specs.declared.moves.Move.{Move}
use Rattle.opentype_gpos.specs.declared.pass.Sights.{Sights}

inside : (direction : Direction) (pair : PairMove) (at : ℕ) (gs : Glyphs) (ps : Positions) → pair.second < length gs →
    moved direction (Kerns pair) at gs ps ≡ pair_moved direction pair at gs ps
unfolding moved
inside direction pair at gs ps lt = grind (arith, common_steps)

-- what adding its values makes of a text
pub pair_made : (direction : Direction) (it : PairPlace) (pair : PairMove) (at : ℕ) (gs : Glyphs) (ps : Positions) (x : Progress) →
    Kerns pair ≡ pair_found it → pair.second ≡ it.second → it.second < length gs → pair_moved direction pair at gs ps ≡ x →
    moved direction (pair_found it) at gs ps ≡ x
pair_made direction it pair at gs ps x value second lt is =
    ap (λ m. moved direction m at gs ps) (sym value) ∙ inside direction pair at gs ps (omega (arith, second, lt)) ∙ is

by_kind : (s : Setting) (sights : Sights) (gs : Glyphs) (at k : ℕ) (bytes other : List ℕ) → k ≡ 2 → bytes ≡ other →
    option_map inl (pair_move s.gdef sights.input bytes gs at)
    ≡ (if (k == 7) || (k == 8)
    then option_map inr (context_in (k == 8) s.gdef sights.input sights.context other gs at)
    else option_map inl (one_move s.gdef sights.input k other gs at))
unfolding one_move
by_kind s sights gs at k bytes other kind is = rw kind (rw is refl)

pub came_of_pairs : (s : Setting) (sights : Sights) (lookup : List ℕ) (gs : Glyphs) (at i : ℕ) (bytes : List ℕ)
    (x : Option Move) → type_in 9 lookup i ≡ 2 → bytes ≡ subtable_in 9 lookup i →
    x ≡ pair_move s.gdef sights.input bytes gs at → option_map inl x ≡ nth_came s sights lookup gs at i
unfolding nth_came
came_of_pairs s sights lookup gs at i bytes x kind is e =
    rw e (by_kind s sights gs at (type_in 9 lookup i) bytes (subtable_in 9 lookup i) kind is)
