-- The three glyph flags: who gets which.
use Rattle.std.specs.Prelude.{ℕ, ◌==◌, bit_or, Bool, List, [], ◌∷◌, map, if◌then◌else◌}
use Rattle.shapers_buffer.specs.Glyphs.{Glyph, Glyphs}
use Rattle.shapers_buffer.specs.Glyph.{clusters}
use Rattle.shapers_buffer.specs.Clusters.{least, with_stretch}

-- the glyph with these mask bits besides its own
abbrev pub with_bits : ℕ → Glyph → Glyph
with_bits bits g = record g { mask = bit_or g.mask bits }

-- the glyph with these mask bits, unless its cluster is m
abbrev pub with_bits_off : ℕ → ℕ → Glyph → Glyph
with_bits_off bits m g = if g.cluster == m then g else with_bits bits g

-- mask bits for every glyph whose cluster isn't the list's least; so none for one glyph
abbrev pub flagged : ℕ → Glyphs → Glyphs
flagged bits gs = map (with_bits_off bits (least (clusters gs))) gs

-- no break and no concatenation inside the stretch from s to e: bits 1 and 2
abbrev pub unsafe_inside : ℕ → ℕ → Glyphs → Glyphs
unsafe_inside s e gs = with_stretch s e (flagged 3) gs

-- no break inside these stretches, one after another
abbrev pub unsafe_all : List (ℕ × ℕ) → Glyphs → Glyphs
unsafe_all [] gs = gs
unsafe_all (st ∷ sts) gs = unsafe_all sts (unsafe_inside st.0 st.1 gs)

-- no concatenation at any place of the stretch: bit 2, where the buffer wants it
abbrev pub unsafe_to_concat_in : Bool → ℕ → ℕ → Glyphs → Glyphs
unsafe_to_concat_in asked s e gs = if asked then with_stretch s e (map (with_bits 2)) gs else gs

-- a join inside the stretch: bit 4 where the buffer wants it, else no break
abbrev pub tatweel_inside : Bool → ℕ → ℕ → Glyphs → Glyphs
tatweel_inside asked s e gs = with_stretch s e (flagged (if asked then 4 else 3)) gs

-- One flag call, over the stretch from s to e: no break, no concatenation, or a join inside it.
pub data FlagCall : Type 0 where
  UnsafeToBreak : (s e : ℕ) → FlagCall
  UnsafeToConcat : (s e : ℕ) → FlagCall
  SafeToInsertTatweel : (s e : ℕ) → FlagCall

-- the glyphs after one call, and after several; whether the buffer wants bits 2, and bits 4
abbrev pub flag_called : Bool → Bool → FlagCall → Glyphs → Glyphs
flag_called concat tatweel (UnsafeToBreak s e) gs = unsafe_inside s e gs
flag_called concat tatweel (UnsafeToConcat s e) gs = unsafe_to_concat_in concat s e gs
flag_called concat tatweel (SafeToInsertTatweel s e) gs = tatweel_inside tatweel s e gs

abbrev pub flags_called : Bool → Bool → List FlagCall → Glyphs → Glyphs
flags_called concat tatweel [] gs = gs
flags_called concat tatweel (call ∷ calls) gs =
    flags_called concat tatweel calls (flag_called concat tatweel call gs)
