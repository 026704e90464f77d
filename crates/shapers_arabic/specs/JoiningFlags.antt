-- Which glyph flags joining sets, by forms alone: where a letter changes the form of the one
-- before it, no break between the two, or that a tatweel may stand there; where one might, no
-- concatenation. (HarfBuzz: unsafe to break, unsafe to concat, safe to insert a tatweel.)
use Rattle.std.specs.Prelude.{ℕ, suc, ◌==◌, Bool, false, not, ◌||◌, List, [], ◌∷◌, ◌++◌, length, reverse, Option, None, Some, if◌then◌else◌}
use Rattle.std.specs.List.{list_any}
use Rattle.shapers_buffer.specs.GlyphFlags.{FlagCall, UnsafeToConcat, SafeToInsertTatweel}
use Rattle.shapers_base.specs.declared.plan.joining.hb_arabic_joining_type_t.{hb_arabic_joining_type_t}
use Rattle.shapers_base.specs.declared.plan.joining.hb_arabic_joining_type_t.TheVariants.{U, L, R, D, GroupAlaph, GroupDalathRish}
use Rattle.shapers_arabic.specs.Joining.{is_transparent, nearest, joins_back, act}

-- a letter of a text: its type, and the types before it, nearest first; their number is its place
pub record Letter : Type 0 where
  pub own : hb_arabic_joining_type_t
  pub before : List hb_arabic_joining_type_t

-- the nearest letter of a text that is given from its end
abbrev pub nearest_letter : List hb_arabic_joining_type_t → Option Letter
nearest_letter [] = None
nearest_letter (t ∷ ts) =
    if is_transparent t then nearest_letter ts else Some (record { own = t; before = ts })

-- the letter's form in a text behind this context, with this type behind it or none
abbrev pub form_with :
    List hb_arabic_joining_type_t → Letter → Option hb_arabic_joining_type_t → ℕ
form_with context k after = act (nearest (k.before ++ context)) k.own after

-- whether a letter of type t behind it changes its form: that it has with nothing behind it
abbrev pub changes_form : List hb_arabic_joining_type_t → Letter → hb_arabic_joining_type_t → Bool
changes_form context k t = not (form_with context k (Some t) == form_with context k None)

-- whether some letter behind it changes its form
abbrev pub can_change : List hb_arabic_joining_type_t → Letter → Bool
can_change context k =
    list_any (changes_form context k) (U ∷ L ∷ R ∷ D ∷ GroupAlaph ∷ GroupDalathRish ∷ [])

-- the flags of letter k with a letter of type t behind it, on all places from k to the place end:
-- where t changes the form of k, no break, or that a tatweel is safe there; else, where that joins
-- back or some letter would change the form of k, no concatenation
abbrev pub pair_flags :
    List hb_arabic_joining_type_t → Letter → hb_arabic_joining_type_t → Bool → ℕ → List FlagCall
pair_flags context k t joins end =
    if changes_form context k t then SafeToInsertTatweel (length k.before) end ∷ []
    else if joins || can_change context k then UnsafeToConcat (length k.before) end ∷ []
    else []

-- the flags of a letter of type t, the last before the place end, with the letter before it or none
abbrev pub letter_flags :
    List hb_arabic_joining_type_t → Option Letter → hb_arabic_joining_type_t → ℕ → List FlagCall
letter_flags context None t end = if joins_back (Some t) then UnsafeToConcat 0 end ∷ [] else []
letter_flags context (Some k) t end = pair_flags context k t (joins_back (Some t)) end

-- the flags of the text's last letter with the nearest type behind the text, up to the text's end
abbrev pub end_flags : List hb_arabic_joining_type_t → Option Letter →
    Option hb_arabic_joining_type_t → ℕ → List FlagCall
end_flags context (Some k) (Some t) end = pair_flags context k t false end
end_flags context _ _ end = []

-- the flags of each of these letters, with the types of the text before them, nearest first
abbrev pub flags_along : List hb_arabic_joining_type_t → List hb_arabic_joining_type_t →
    List hb_arabic_joining_type_t → List FlagCall
flags_along context passed [] = []
flags_along context passed (t ∷ ts) =
    let end = suc (length passed) in
    (if is_transparent t then [] else letter_flags context (nearest_letter passed) t end)
    ++ flags_along context (t ∷ passed) ts

-- what joining flags: each letter with the one before it, the last with the nearest type behind
abbrev pub joining_flags : List hb_arabic_joining_type_t → List hb_arabic_joining_type_t →
    List hb_arabic_joining_type_t → List FlagCall
joining_flags context types after =
    flags_along context [] types
    ++ end_flags context (nearest_letter (reverse types)) (nearest after) (length types)
