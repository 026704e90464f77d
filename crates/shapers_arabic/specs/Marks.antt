-- The order of Arabic marks: marks that modify a letter come to the front. (Unicode Technical
-- Report 53.)
use Rattle.std.specs.Prelude.{ℕ, zero, suc, ◌+◌, ◌==◌, nat_lt, Bool, ◌&&◌, ◌≡◌, List, [], ◌∷◌, ◌++◌, length, map, take, drop, replicate}
use Rattle.std.specs.List.{list_any, prefix_len, range_with_len}
use Rattle.shapers_buffer.specs.Glyphs.{Glyph, Glyphs}
use Rattle.shapers_buffer.specs.declared.buffer.modified_combining_class.TheConstants.{CCC22, CCC26}
use Rattle.shapers_buffer.specs.declared.buffer.level.BufferClusterLevel.{BufferClusterLevel}
use Rattle.shapers_buffer.specs.Buffer.{Buffer}
use Rattle.shapers_buffer.specs.Clusters.{stretch_of, with_stretch, merge_all}
use Rattle.shapers_buffer.specs.Properties.{modified_combining_class, with_modified_combining_class}
use Rattle.shapers_clusters.specs.Laws.{ReorderedHold}
use Rattle.shapers_clusters.specs.Steps.{Step, widened}

-- the marks that modify a letter
abbrev pub modifiers : List ℕ
modifiers = 0x0654 ∷ 0x0655 ∷ 0x0658 ∷ 0x06DC ∷ 0x06E3 ∷ 0x06E7 ∷ 0x06E8 ∷ 0x08CA ∷ 0x08CB ∷ 0x08CD
    ∷ 0x08CE ∷ 0x08CF ∷ 0x08D3 ∷ 0x08F3 ∷ []

-- whether a mark is of a class below this one
abbrev pub has_lower_class : ℕ → Glyph → Bool
has_lower_class class g = nat_lt (modified_combining_class g.unicode_props) class

-- whether a mark is of this class and modifies a letter
abbrev pub is_modifier_of : ℕ → Glyph → Bool
is_modifier_of class g =
    modified_combining_class g.unicode_props == class && list_any (λ c. c == g.glyph_id) modifiers

-- the longest front all of which passes a test, and what stands behind it
abbrev pub front_of : (Glyph → Bool) → Glyphs → Glyphs
front_of test gs = take (prefix_len test gs) gs

abbrev pub behind : (Glyph → Bool) → Glyphs → Glyphs
behind test gs = drop (prefix_len test gs) gs

-- marks in five parts: the longest front of classes below 220, the longest sequence of modifiers of
-- 220 behind it, the longest sequence of classes below 230, the modifiers of 230 behind it, and the
-- rest
pub record Marks : Type 0 where
  pub low : Glyphs
  pub modifiers_below : Glyphs
  pub middle : Glyphs
  pub modifiers_above : Glyphs
  pub rest : Glyphs

abbrev pub split_marks : Glyphs → Marks
split_marks gs =
    let second = behind (has_lower_class 220) gs in
    let third = behind (is_modifier_of 220) second in
    let fourth = behind (has_lower_class 230) third in
    record {
      low = front_of (has_lower_class 220) gs;
      modifiers_below = front_of (is_modifier_of 220) second;
      middle = front_of (has_lower_class 230) third;
      modifiers_above = front_of (is_modifier_of 230) fourth;
      rest = behind (is_modifier_of 230) fourth;
    }

-- the modifiers come to the front, those of 220 first, in classes of their own
abbrev pub in_class : ℕ → Glyph → Glyph
in_class class g =
    record g { unicode_props = with_modified_combining_class class g.unicode_props }

abbrev pub with_modifiers_first : Marks → Glyphs
with_modifiers_first s =
    map (in_class CCC22) s.modifiers_below
    ++ (map (in_class CCC26) s.modifiers_above ++ (s.low ++ (s.middle ++ s.rest)))

-- the same of the marks from place start to place end
abbrev pub marks_reordered : ℕ → ℕ → Glyphs → Glyphs
marks_reordered start end gs =
    with_stretch start end (λ marks. with_modifiers_first (split_marks marks)) gs

-- the stretch from p to q, unless nothing moves over it
abbrev pub merged_for : ℕ → ℕ → ℕ → List (ℕ × ℕ)
merged_for zero p q = []
merged_for (suc k) p q = (p, q) ∷ []

-- What merges: the modifiers of 220 with what they pass, then those of 230; by the parts' lengths.
abbrev pub passed : ℕ → ℕ → ℕ → ℕ → List (ℕ × ℕ)
passed a m b n = merged_for m 0 (a + m) ++ merged_for n m (a + m + b + n)

-- the places of the five parts, in their new order
abbrev pub places_moved : ℕ → ℕ → ℕ → ℕ → ℕ → List ℕ
places_moved a m b n c =
    range_with_len a m
    ++ (range_with_len (a + m + b) n
    ++ (range_with_len 0 a ++ (range_with_len (a + m) b ++ range_with_len (a + m + b + n) c)))

-- the same as a step over the places of the marks, from 0 on
abbrev pub arabic_mark_step : Marks → Step
arabic_mark_step s =
    let a = length s.low in
    let m = length s.modifiers_below in
    let b = length s.middle in
    let n = length s.modifiers_above in
    record {
      merged_first = passed a m b n;
      places = places_moved a m b n (length s.rest);
      merged_then = [];
    }

-- and over all places of a text, of which the marks stand from start to end
abbrev pub text_step : ℕ → ℕ → Glyphs → Step
text_step start end gs =
    widened start end (length gs) (arabic_mark_step (split_marks (stretch_of start end gs)))

-- what merges of a text: the step's stretches, one after another
abbrev pub marks_merged : BufferClusterLevel → ℕ → ℕ → Glyphs → Glyphs
marks_merged level start end gs = merge_all level (text_step start end gs).merged_first gs

-- the classes of a list of glyphs
abbrev pub combining_classes : Glyphs → List ℕ
combining_classes gs = map (λ g. modified_combining_class g.unicode_props) gs

-- The classes of the marks in their new order: the modifiers of 220 are of CCC22 now, those of 230
-- of CCC26, and the other marks keep theirs.
abbrev pub classes_moved : Marks → List ℕ
classes_moved s =
    replicate (length s.modifiers_below) CCC22
    ++ (replicate (length s.modifiers_above) CCC26
    ++ combining_classes (s.low ++ (s.middle ++ s.rest)))

-- so of the marks from start to end, and all other glyphs keep theirs too
abbrev pub ModifiersTakeClasses : ℕ → ℕ → Glyphs → Glyphs → Type 0
ModifiersTakeClasses start end old new =
    combining_classes new
    ≡ combining_classes (take start old)
    ++ (classes_moved (split_marks (stretch_of start end old)) ++ combining_classes (drop end old))

-- the view that hides classes: glyphs of a category without one keep their high bytes
abbrev pub without_class : Glyph → Glyph
without_class g = in_class 0 g

-- what the reordering promises, through that view: no glyph is lost, and the laws hold
abbrev pub ArabicMarksReordered : ℕ → ℕ → Buffer → Buffer → Type 0
ArabicMarksReordered start end old new =
    ReorderedHold without_class old.level (text_step start end old.glyphs ∷ []) old.glyphs
    new.glyphs
