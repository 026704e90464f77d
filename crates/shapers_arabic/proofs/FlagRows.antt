-- The flags of joining, computed on values written out from the rule: which letter changes which,
-- whole texts, and glyphs.
use Rattle.std.specs.Prelude.{◌≡◌, ℕ, Bool, true, false, List, [], ◌∷◌, ◌++◌, map, replicate, None, Some, if◌then◌else◌, ◌==◌, refl}
use Rattle.shapers_buffer.specs.Buffer.{Buffer, new_buffer}
use Rattle.shapers_buffer.specs.Glyph.{default_glyph}
use Rattle.shapers_buffer.specs.GlyphFlags.{FlagCall, UnsafeToBreak, UnsafeToConcat, SafeToInsertTatweel}
use Rattle.shapers_buffer.specs.declared.buffer.category.hb_unicode_general_category_t.TheVariants.{Lo}
use Rattle.shapers_buffer.specs.Glyphs.{Glyph}
use Rattle.shapers_base.specs.declared.plan.breaks.BreakFlags.TheVariants.{AsCode}
use Rattle.shapers_base.specs.declared.plan.joining.hb_arabic_joining_type_t.{hb_arabic_joining_type_t}
use Rattle.shapers_base.specs.declared.plan.joining.hb_arabic_joining_type_t.TheVariants.{U, L, R, D, GroupAlaph, GroupDalathRish, T}
use Rattle.shapers_arabic.specs.JoiningFlags.{Letter, nearest_letter, changes_form, can_change, letter_flags, end_flags, joining_flags}
use Rattle.shapers_arabic.specs.JoinedText.{buffer_joined, with_form}
use Rattle.shapers_arabic.specs.JoiningWalk.{waits}
use Rattle.shapers_arabic.specs.declared.ot_shaper_arabic.joining.State.TheVariants.{Start, Closed, Initial, Medial, JoinedAlaph, LaterAlaph, DalathRish}

-- the types of letters, and what can stand before one: nothing, or each of them
letters : List hb_arabic_joining_type_t
letters = U ∷ L ∷ R ∷ D ∷ GroupAlaph ∷ GroupDalathRish ∷ []

befores : List (List hb_arabic_joining_type_t)
befores = [] ∷ (U ∷ []) ∷ (L ∷ []) ∷ (R ∷ []) ∷ (D ∷ []) ∷ (GroupAlaph ∷ []) ∷ (GroupDalathRish ∷ []) ∷ []

abbrev letter : hb_arabic_joining_type_t → List hb_arabic_joining_type_t → Letter
letter own before = record { own = own; before = before }

-- the letter of a type behind each of these, and whether each type behind it changes its form
changed : hb_arabic_joining_type_t → List (List Bool)
unfolding befores letters
changed own = map (λ b. map (changes_form [] (letter own b)) letters) befores

abbrev never : List Bool
never = false ∷ false ∷ false ∷ false ∷ false ∷ false ∷ []

-- R, D, Alaph, Dalath and Rish join back
abbrev by_joining : List Bool
by_joining = false ∷ false ∷ true ∷ true ∷ true ∷ true ∷ []

u_changes : changed U ≡ replicate 7 never
unfolding changed befores letters
u_changes = refl

l_changes : changed L ≡ replicate 7 by_joining
unfolding changed befores letters
l_changes = refl

r_changes : changed R ≡ replicate 7 never
unfolding changed befores letters
r_changes = refl

d_changes : changed D ≡ replicate 7 by_joining
unfolding changed befores letters
d_changes = refl

-- an Alaph that stands alone keeps its form; a final one doesn't
alaph_changes : changed GroupAlaph ≡ never ∷ never ∷ replicate 5 by_joining
unfolding changed befores letters
alaph_changes = refl

rish_changes : changed GroupDalathRish ≡ replicate 7 never
unfolding changed befores letters
rish_changes = refl

can_changes : map (λ b. map (λ own. can_change [] (letter own b)) letters) befores
    ≡ replicate 2 (false ∷ true ∷ false ∷ true ∷ false ∷ false ∷ [])
    ++ replicate 5 (false ∷ true ∷ false ∷ true ∷ true ∷ false ∷ [])
unfolding befores letters
can_changes = refl

-- of the table's states 2 to 5 wait
waiting : map waits (Start ∷ Closed ∷ Initial ∷ Medial ∷ JoinedAlaph ∷ LaterAlaph ∷ DalathRish ∷ []) ≡ false ∷ false
    ∷ true ∷ true ∷ true ∷ true ∷ false ∷ []
waiting = refl

-- what stands before a letter: the text's own nearest letter, else the context's
by_context : map (λ k. changes_form (D ∷ []) k R) (letter GroupAlaph [] ∷ letter GroupAlaph (T ∷ [])
    ∷ letter GroupAlaph (U ∷ D ∷ []) ∷ []) ≡ true ∷ true ∷ false ∷ []
by_context = refl

by_text : changes_form (U ∷ []) (letter GroupAlaph (T ∷ D ∷ [])) R ≡ true
by_text = refl

-- the nearest letter, and its place
found : nearest_letter (T ∷ T ∷ D ∷ T ∷ R ∷ []) ≡ Some (letter D (T ∷ R ∷ []))
found = refl

not_found : nearest_letter (T ∷ T ∷ []) ≡ None
not_found = refl

-- two letters: 4 for a join, 2 for no concatenation, 0 for nothing; each type behind each, by what
-- stands before the first
kind : List FlagCall → ℕ
kind [] = 0
kind (UnsafeToBreak s e ∷ calls) = 1
kind (UnsafeToConcat s e ∷ calls) = 2
kind (SafeToInsertTatweel s e ∷ calls) = 4

pairs : hb_arabic_joining_type_t → List (List ℕ)
unfolding befores letters kind
pairs own = map (λ b. map (λ t. kind (letter_flags [] (Some (letter own b)) t 5)) letters) befores

-- the same with the nearest letter behind the text
ends : hb_arabic_joining_type_t → List (List ℕ)
unfolding befores letters kind
ends own = map (λ b. map (λ t. kind (end_flags [] (Some (letter own b)) (Some t) 5)) letters) befores

abbrev back : List ℕ
back = 0 ∷ 0 ∷ 2 ∷ 2 ∷ 2 ∷ 2 ∷ []

abbrev on : List ℕ
on = 2 ∷ 2 ∷ 4 ∷ 4 ∷ 4 ∷ 4 ∷ []

abbrev nothing : List ℕ
nothing = 0 ∷ 0 ∷ 0 ∷ 0 ∷ 0 ∷ 0 ∷ []

all_pairs : map pairs letters ≡ replicate 7 back ∷ replicate 7 on ∷ replicate 7 back ∷ replicate 7 on
    ∷ (back ∷ back ∷ replicate 5 on) ∷ replicate 7 back ∷ []
unfolding pairs befores letters kind
all_pairs = refl

all_ends : map ends letters ≡ replicate 7 nothing ∷ replicate 7 on ∷ replicate 7 nothing ∷ replicate 7 on
    ∷ (nothing ∷ nothing ∷ replicate 5 on) ∷ replicate 7 nothing ∷ []
unfolding ends befores letters kind
all_ends = refl

-- first letters: those that join back, from the text's start
firsts : map (λ t. joining_flags [] (t ∷ []) []) letters ≡ [] ∷ [] ∷ (UnsafeToConcat 0 1 ∷ [])
    ∷ (UnsafeToConcat 0 1 ∷ []) ∷ (UnsafeToConcat 0 1 ∷ []) ∷ (UnsafeToConcat 0 1 ∷ []) ∷ []
unfolding letters
firsts = refl

first_behind_marks : joining_flags (D ∷ []) (T ∷ T ∷ D ∷ []) [] ≡ UnsafeToConcat 0 3 ∷ []
first_behind_marks = refl

no_letters : joining_flags (D ∷ []) (T ∷ T ∷ []) (D ∷ []) ≡ []
no_letters = refl

no_text : joining_flags (D ∷ []) [] (D ∷ []) ≡ []
no_text = refl

-- whole texts, one call after another
three_ds : joining_flags [] (D ∷ D ∷ D ∷ []) [] ≡ UnsafeToConcat 0 1 ∷ SafeToInsertTatweel 0 2 ∷ SafeToInsertTatweel 1 3
    ∷ []
three_ds = refl

over_a_mark : joining_flags [] (D ∷ T ∷ R ∷ T ∷ D ∷ []) [] ≡ UnsafeToConcat 0 1 ∷ SafeToInsertTatweel 0 3
    ∷ UnsafeToConcat 2 5 ∷ []
over_a_mark = refl

l_waits : joining_flags [] (L ∷ T ∷ U ∷ L ∷ []) [] ≡ UnsafeToConcat 0 3 ∷ []
l_waits = refl

rish_alaph_d : joining_flags [] (GroupDalathRish ∷ GroupAlaph ∷ D ∷ []) [] ≡ UnsafeToConcat 0 1 ∷ UnsafeToConcat 0 2
    ∷ SafeToInsertTatweel 1 3 ∷ []
rish_alaph_d = refl

r_alaph_l : joining_flags [] (R ∷ GroupAlaph ∷ L ∷ []) [] ≡ UnsafeToConcat 0 1 ∷ UnsafeToConcat 0 2 ∷ UnsafeToConcat 1 3
    ∷ []
r_alaph_l = refl

alaph_l : joining_flags [] (GroupAlaph ∷ L ∷ []) [] ≡ UnsafeToConcat 0 1 ∷ []
alaph_l = refl

-- contexts
d_before : joining_flags (T ∷ D ∷ []) (GroupAlaph ∷ R ∷ []) [] ≡ UnsafeToConcat 0 1 ∷ SafeToInsertTatweel 0 2 ∷ []
d_before = refl

d_behind : joining_flags [] (L ∷ T ∷ []) (T ∷ D ∷ []) ≡ SafeToInsertTatweel 0 2 ∷ []
d_behind = refl

u_behind : joining_flags [] (L ∷ T ∷ []) (U ∷ D ∷ []) ≡ UnsafeToConcat 0 2 ∷ []
u_behind = refl

r_stays : joining_flags [] (R ∷ T ∷ []) (D ∷ []) ≡ UnsafeToConcat 0 1 ∷ []
r_stays = refl

marks_behind : joining_flags [] (L ∷ T ∷ []) (T ∷ T ∷ []) ≡ []
marks_behind = refl

-- a glyph in a form: all else stays, and its mask gains the form's
abbrev full : Glyph
full = record {
  glyph_id = 0x916;
  cluster = 5;
  mask = 0x13;
  syllable = 0x24;
  category = 1;
  auxiliary = 3;
  glyph_props = record { 0 = 0x70 };
  lig_props = record { 0 = 2 };
  unicode_props = record { 0 = 0x09AC };
}

in_its_form : with_form (0x100 ∷ 0x210 ∷ []) 1 full ≡ record full { auxiliary = 1; mask = 0x213 }
in_its_form = refl

-- glyphs: D for 1, R for 2, L for 3, T for 4; their masks after joining, by the buffer's flags
abbrev joining_of : ℕ → hb_arabic_joining_type_t
joining_of c = if c == 1 then D else if c == 2 then R else if c == 3 then L else if c == 4 then T else U

abbrev text_with : ℕ → List ℕ → List (ℕ × ℕ) → List ℕ → Buffer
text_with flags before gs after = let b : Buffer =
    record (new_buffer 9) {
      glyphs = map (λ p. let g : Glyph = record default_glyph { glyph_id = p.0; cluster = p.1 } in g) gs;
      before = before;
      after = after;
      flags = record { 0 = flags };
    } in b

abbrev masks_after : Buffer → List ℕ
masks_after b =
    map (λ g. g.mask) (buffer_joined AsCode (0 ∷ 0x20 ∷ 0 ∷ 0 ∷ 0x80 ∷ 0 ∷ 0x10 ∷ 0 ∷ []) None joining_of (λ c. Lo)
    b).glyphs

by_buffer_flags : map (λ flags. masks_after (text_with flags [] ((1, 0) ∷ (1, 1) ∷ (1, 2) ∷ []) []))
    (0 ∷ 0x40 ∷ 0x80 ∷ 0xC0 ∷ []) ≡ (0x10 ∷ 0x83 ∷ 0x23 ∷ []) ∷ (0x12 ∷ 0x83 ∷ 0x23 ∷ []) ∷ (0x10 ∷ 0x84 ∷ 0x24 ∷ [])
    ∷ (0x12 ∷ 0x84 ∷ 0x24 ∷ []) ∷ []
by_buffer_flags = refl

falling_clusters : masks_after (text_with 0xC0 [] ((1, 1) ∷ (1, 0) ∷ []) []) ≡ 0x16 ∷ 0x20 ∷ []
falling_clusters = refl

between_contexts : masks_after (text_with 0x40 (1 ∷ []) ((1, 0) ∷ (4, 1) ∷ []) (3 ∷ [])) ≡ 0x22 ∷ 2 ∷ []
between_contexts = refl
