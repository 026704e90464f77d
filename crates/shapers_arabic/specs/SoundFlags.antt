-- What Sound flags in addition to joining's own calls: each form that a letter takes from what
-- stands before it and that no call of joining tells of, and each form that a selector copies.
use Rattle.std.specs.Prelude.{ℕ, suc, ◌-◌, ◌==◌, not, Bool, ◌&&◌, ◌||◌, List, [], ◌∷◌, ◌++◌, length, Option, None, Some, if◌then◌else◌}
use Rattle.shapers_buffer.specs.GlyphFlags.{FlagCall, UnsafeToBreak}
use Rattle.shapers_base.specs.declared.plan.joining.hb_arabic_joining_type_t.{hb_arabic_joining_type_t}
use Rattle.shapers_arabic.specs.declared.ot_shaper_arabic.arabic_action_t.TheConstants.{FINA, FIN2, FIN3, MEDI, MED2}
use Rattle.shapers_arabic.specs.Joining.{is_transparent, nearest, act, is_selector, form_behind}
use Rattle.shapers_arabic.specs.JoiningFlags.{Letter, nearest_letter}

-- the forms that an Alaph takes from a letter that doesn't join on
abbrev pub is_second_or_third : ℕ → Bool
is_second_or_third form = form == FIN2 || form == FIN3

-- the forms that a letter takes from what stands before it
abbrev pub is_taken : ℕ → Bool
is_taken form =
    form == FINA || form == FIN2 || form == FIN3 || form == MEDI || form == MED2

-- the flags of a letter that ends before place end, in its final form: if FIN2 or FIN3, from the
-- letter before it on; as the first letter, if it took its form from the context, from the start
abbrev pub form_flags : Option Letter → ℕ → ℕ → List FlagCall
form_flags None form end = if is_taken form then UnsafeToBreak 0 end ∷ [] else []
form_flags (Some k) form end =
    if is_second_or_third form then UnsafeToBreak (length k.before) end ∷ [] else []

-- the same at each of these letters, with the types of the text before them, nearest first
abbrev pub form_flags_along : List hb_arabic_joining_type_t → List hb_arabic_joining_type_t →
    List hb_arabic_joining_type_t → List hb_arabic_joining_type_t → List FlagCall
form_flags_along context passed [] after = []
form_flags_along context passed (t ∷ ts) after =
    let form = act (nearest (passed ++ context)) t (nearest (ts ++ after)) in
    (if is_transparent t then [] else form_flags (nearest_letter passed) form (suc (length passed)))
    ++ form_flags_along context (t ∷ passed) ts after

-- the flags of selectors at these places, characters with their forms by the joining rule, behind
-- those before them: a selector whose copied form isn't its own, with the place before it
abbrev pub selector_flags : List (ℕ × ℕ) → List (ℕ × ℕ) → List FlagCall
selector_flags before [] = []
selector_flags before ((c, a) ∷ places) =
    (if is_selector c && not (form_behind before a == a)
    then UnsafeToBreak (length before - 1) (suc (length before)) ∷ []
    else [])
    ++ selector_flags ((c, a) ∷ before) places
