-- The joining rule: the form of a letter is decided by its own type and the nearest types on both
-- sides that aren't transparent. (The Unicode Standard, "Cursive Joining"; for Alaph, Dalath and
-- Rish the OpenType specification for Syriac.)
use Rattle.std.specs.Prelude.{ℕ, ◌==◌, nat_le, Bool, true, false, ◌&&◌, ◌||◌, List, [], ◌∷◌, ◌++◌, Option, None, Some, if◌then◌else◌}
use Rattle.shapers_buffer.specs.declared.buffer.category.hb_unicode_general_category_t.{hb_unicode_general_category_t}
use Rattle.shapers_buffer.specs.declared.buffer.category.hb_unicode_general_category_t.TheVariants.{Mn, Me, Cf}
use Rattle.shapers_base.specs.declared.plan.joining.hb_arabic_joining_type_t.{hb_arabic_joining_type_t}
use Rattle.shapers_base.specs.declared.plan.joining.hb_arabic_joining_type_t.TheVariants.{U, L, R, D, GroupAlaph, GroupDalathRish, T, X}
use Rattle.shapers_arabic.specs.declared.ot_shaper_arabic.arabic_action_t.TheConstants.{ISOL, FINA, FIN2, FIN3, MEDI, MED2, INIT, NONE}

-- the categories of characters that joining passes over unless their type says otherwise
abbrev pub is_passed_over : hb_unicode_general_category_t → Bool
is_passed_over Mn = true
is_passed_over Me = true
is_passed_over Cf = true
is_passed_over _ = false

-- the joining type, where the general category decides X: T or U
abbrev pub resolved : hb_arabic_joining_type_t → hb_unicode_general_category_t →
    hb_arabic_joining_type_t
resolved X category = if is_passed_over category then T else U
resolved own category = own

-- transparent: letters on both sides join over it
abbrev pub is_transparent : hb_arabic_joining_type_t → Bool
is_transparent T = true
is_transparent _ = false

-- the nearest type that isn't transparent, in a text that is given from the near end
abbrev pub nearest : List hb_arabic_joining_type_t → Option hb_arabic_joining_type_t
nearest [] = None
nearest (t ∷ ts) = if is_transparent t then nearest ts else Some t

-- whether the letter before, if there is one, joins on: L and D do
abbrev pub joins_on : Option hb_arabic_joining_type_t → Bool
joins_on (Some L) = true
joins_on (Some D) = true
joins_on _ = false

-- whether the letter after, if there is one, joins back: R, D and both groups do
abbrev pub joins_back : Option hb_arabic_joining_type_t → Bool
joins_back (Some R) = true
joins_back (Some D) = true
joins_back (Some GroupAlaph) = true
joins_back (Some GroupDalathRish) = true
joins_back _ = false

-- the form of a letter that joins on both sides, on one, or on none
abbrev pub form : Bool → Bool → ℕ
form true true = MEDI
form true false = FINA
form false true = INIT
form false false = ISOL

-- Alaph by the letter before it: joined to it; after R or Alaph; after Dalath or Rish; or alone
abbrev pub alaph_after : Option hb_arabic_joining_type_t → ℕ
alaph_after (Some L) = FINA
alaph_after (Some D) = FINA
alaph_after (Some R) = FIN2
alaph_after (Some GroupAlaph) = FIN2
alaph_after (Some GroupDalathRish) = FIN3
alaph_after _ = ISOL

-- Alaph before a letter that joins back: joined it is medial, else it stands alone
abbrev pub alaph_inside : Option hb_arabic_joining_type_t → ℕ
alaph_inside before = if joins_on before then MED2 else ISOL

-- the joining rule: the form of a letter, by the nearest types before and after it
abbrev pub act : Option hb_arabic_joining_type_t → hb_arabic_joining_type_t →
    Option hb_arabic_joining_type_t → ℕ
act before GroupAlaph after = if joins_back after then alaph_inside before else alaph_after before
act before L after = form false (joins_back after)
act before R after = form (joins_on before) false
act before D after = form (joins_on before) (joins_back after)
act before GroupDalathRish after = form (joins_on before) false
act before _ after = NONE

-- the forms of a text between what stands before it, nearest first, and what follows it
abbrev pub forms : List hb_arabic_joining_type_t → List hb_arabic_joining_type_t →
    List hb_arabic_joining_type_t → List ℕ
forms before [] after = []
forms before (t ∷ ts) after =
    act (nearest before) t (nearest (ts ++ after)) ∷ forms (t ∷ before) ts after

-- the free variation selectors of Mongolian
abbrev pub is_selector : ℕ → Bool
is_selector c = nat_le 0x180B c && nat_le c 0x180D || c == 0x180F

-- of places with their forms, nearest first: the nearest form that is no selector's, or the last
abbrev pub form_behind : List (ℕ × ℕ) → ℕ → ℕ
form_behind [] own = own
form_behind ((c, a) ∷ before) own = if is_selector c then form_behind before a else a

-- the selector rule: a selector has the form of the nearest earlier place that is no selector, or
-- of the first place of the text
abbrev pub selected : List (ℕ × ℕ) → List (ℕ × ℕ) → List ℕ
selected before [] = []
selected before ((c, a) ∷ places) =
    (if is_selector c then form_behind before a else a) ∷ selected ((c, a) ∷ before) places
