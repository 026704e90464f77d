-- Which glyphs a lookup sees.
use Rattle.std.specs.Prelude.{ℕ, zero, suc, ◌+◌, ◌/◌, ◌%◌, ◌==◌, ◌&&◌, ◌||◌, not, nat_lt, Bool, true, false, bit_and, List, Option, None, Some, if◌then◌else◌}
use Rattle.shapers_buffer.specs.Glyphs.{Glyph}
use Rattle.shapers_buffer.specs.Properties.{has_bit}
use Rattle.opentype_face.specs.Bytes.{u16_in, table_at}
use Rattle.opentype_face.specs.Classes.{is_in_set}
use Rattle.opentype_face.specs.Lookups.{mark_set_in}
use Rattle.opentype_layout.specs.declared.sight.Application.{Application}
use Rattle.opentype_layout.specs.declared.sight.Sight.{Sight}

-- whether a lookup with this flag and this set of marks ignores a glyph
unfoldable pub ignores : List ℕ → ℕ → ℕ → Glyph → Bool
ignores gdef flag set g =
    let props = g.glyph_props.0 in
    if not (bit_and (bit_and props flag) 14 == 0) then true
    else (if not (has_bit 8 props) then false
    else (if has_bit 16 flag then not (is_in_set gdef set (g.glyph_id % 65536))
    else not (flag / 256 == 0) && not (flag / 256 == props / 256)))

-- how many sets of marks GDEF has (from version 1.2 on)
abbrev pub set_count : List ℕ → ℕ
set_count gdef = u16_in (if u16_in gdef 2 == 0 then table_at gdef 0 else table_at gdef (u16_in gdef
    12)) 2

-- A lookup's flag. One with a set of marks that isn't there is read without bit 16, as in HarfBuzz.
unfoldable pub flag_in : List ℕ → List ℕ → ℕ
flag_in gdef lookup =
    if nat_lt (mark_set_in lookup) (set_count gdef) then u16_in lookup 2 else bit_and (u16_in
    lookup 2) 0xFFEF

-- the syllable that a rule stays in whose first glyph is in this one; 0 for none, and in GPOS
abbrev pub syllable_in : Application → ℕ → ℕ
syllable_in how syllable = if how.of_gpos then 0 else (if how.per_syllable then syllable else 0)

-- What the input of a lookup's rules looks at (HarfBuzz, `matcher_t::init`): glyphs of the lookup's
-- features. Zero width non-joiners are passed over in GPOS, joiners by the feature's wish.
unfoldable pub sight_of_input : List ℕ → List ℕ → Application → ℕ → Sight
sight_of_input gdef lookup how syllable = record {
  flag = flag_in gdef lookup;
  set = mark_set_in lookup;
  mask = how.mask;
  syllable = syllable_in how syllable;
  over_zwnj = how.of_gpos;
  over_zwj = how.auto_zwj;
  of_gpos = how.of_gpos;
}

-- What their contexts look at: glyphs of any feature. Zero width non-joiners are passed over in
-- GPOS and by the feature's wish, joiners always.
unfoldable pub sight_of_context : List ℕ → List ℕ → Application → ℕ → Sight
sight_of_context gdef lookup how syllable = record {
  flag = flag_in gdef lookup;
  set = mark_set_in lookup;
  mask = 0xFFFFFFFF;
  syllable = syllable_in how syllable;
  over_zwnj = how.of_gpos || how.auto_zwnj;
  over_zwj = true;
  of_gpos = how.of_gpos;
}

-- joiners are format characters (category 1) with a bit of their own
abbrev pub is_joiner : ℕ → Glyph → Bool
is_joiner bit g = (g.unicode_props.0 % 32 == 1) && has_bit bit g.unicode_props.0

-- whether a search may pass over a glyph that isn't drawn
unfoldable pub may_pass : Sight → Glyph → Bool
may_pass s g =
    has_bit 32 g.unicode_props.0 && not (has_bit 16 g.glyph_props.0)
    && (s.of_gpos || not (has_bit 64 g.unicode_props.0)) && (s.over_zwnj || not (is_joiner 512 g))
    && (s.over_zwj || not (is_joiner 256 g))

-- what a search makes of a glyph that fits its pattern, or doesn't: found, the end, or passed
unfoldable pub seen_as : List ℕ → Sight → Bool → Glyph → Option Bool
seen_as gdef s fits g =
    if ignores gdef s.flag s.set g then None
    else (let is_found = fits && not (bit_and g.mask s.mask == 0)
    && (s.syllable == 0 || s.syllable == g.syllable) in
    if is_found then Some true else (if may_pass s g then None else Some false))

abbrev pub is_passed : Option Bool → Bool
is_passed None = true
is_passed (Some b) = false

abbrev pub is_hit : Option Bool → Bool
is_hit None = false
is_hit (Some b) = b

-- The first glyph from a place on, of so many, that a search finds; none behind one that ends it.
unfoldable pub next_from : ℕ → (ℕ → Option Bool) → ℕ → Option ℕ
next_from zero sight at = None
next_from (suc n) sight at =
    if is_passed (sight at) then next_from n sight (at + 1)
    else (if is_hit (sight at) then Some at else None)
