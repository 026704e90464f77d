-- The calls along the final forms, and along the copied ones, are those that the rule tells.
use Rattle.std.proofs.Common.{arith}
use Rattle.std.proofs.Common.{◌≡◌, ℕ, suc, Bool, true, false, cond, eqb, not, ◌&&◌, List, [], ◌∷◌, ◌++◌, length, map, Option, None, Some, refl, ap, inl, inr, ◌⊎◌}
use Rattle.std.specs.List.{zip}
use Rattle.std.proofs.lemmas.Bool.{eq-eqb}
use Rattle.shapers_buffer.specs.GlyphFlags.{FlagCall}
use Rattle.shapers_buffer.specs.Glyphs.{Glyphs}
use Rattle.shapers_buffer.specs.declared.buffer.tag.Script.{Script}
use Rattle.shapers_base.specs.declared.plan.joining.hb_arabic_joining_type_t.{hb_arabic_joining_type_t}
use Rattle.shapers_base.specs.declared.plan.joining.hb_arabic_joining_type_t.TheVariants.{U, L, R, D, GroupAlaph, GroupDalathRish, T, X}
use Rattle.shapers_arabic.specs.declared.ot_shaper_arabic.arabic_action_t.TheConstants.{NONE}
use Rattle.shapers_arabic.specs.Joining.{nearest, act, forms, is_selector, form_behind, alaph_after}
use Rattle.shapers_arabic.specs.JoiningFlags.{Letter, nearest_letter}
use Rattle.shapers_arabic.specs.JoinedText.{Text, added_calls}
use Rattle.shapers_arabic.specs.JoiningWalk.{copied_calls, form_calls, form_calls_along, place_of, sound_calls_at}
use Rattle.shapers_arabic.proofs.LostForms.{Fits, act_by, act-by, fits}
use Rattle.shapers_arabic.specs.SoundFlags.{is_second_or_third, is_taken, form_flags, form_flags_along, selector_flags}

-- the types whose places have a form, and those that stand among letters without one
abbrev HasForm : hb_arabic_joining_type_t → Type 0
HasForm U = ⊥
HasForm X = ⊥
HasForm T = ⊥
HasForm _ = Unit {0}

abbrev HasNone : hb_arabic_joining_type_t → Type 0
HasNone U = Unit {0}
HasNone X = Unit {0}
HasNone _ = ⊥

alaph-formed : (b : Option hb_arabic_joining_type_t) → eqb (alaph_after b) NONE ≡ false
alaph-formed None = refl
alaph-formed (Some U) = refl
alaph-formed (Some _) = refl

formed-by : (b : Option hb_arabic_joining_type_t) (t : hb_arabic_joining_type_t) (j : Bool) → HasForm t
    → eqb (act_by b t j) NONE ≡ false
formed-by b L true f = refl
formed-by b L false f = refl
formed-by b D true f = search arith
formed-by b D false f = search arith
formed-by b GroupAlaph true f = search arith
formed-by b GroupAlaph false f = alaph-formed b
formed-by b R true f = search arith
formed-by b R false f = search arith
formed-by b GroupDalathRish true f = search arith
formed-by b GroupDalathRish false f = search arith
formed-by b t j f = absurd f

has-form : (b : Option hb_arabic_joining_type_t) (t : hb_arabic_joining_type_t) (n : Option hb_arabic_joining_type_t)
    → HasForm t → eqb (act b t n) NONE ≡ false
has-form = search (arith, act-by, formed-by)

untaken : (own t : hb_arabic_joining_type_t) (n : Option hb_arabic_joining_type_t) → HasNone own
    → (is_taken (act (Some own) t n) ≡ false) × (is_second_or_third (act (Some own) t n) ≡ false)
untaken = search (arith, act-by, Some)

-- the last place with a form is that of the nearest letter, unless that one has none
abbrev Marks : Option ℕ → Option Letter → Type 0
Marks last None = last ≡ None
Marks last (Some k) = HasNone k.own ⊎ (last ≡ Some (length k.before))

here : (last : Option ℕ) (o : Option Letter) (before : Option hb_arabic_joining_type_t) (t : hb_arabic_joining_type_t)
    (n : Option hb_arabic_joining_type_t) (e : ℕ) → Marks last o → Fits o before → form_calls last (act before t n) e
    ≡ form_flags o (act before t n) e
here last None before t n e m f = cc
here last (Some k) before t n e (inr m) f = cc
here last (Some k) before t n e (inl none) f = let un = untaken k.own t n none in search arith

nothing : (o : Option Letter) (e : ℕ) → form_flags o NONE e ≡ []
nothing None e = refl
nothing (Some k) e = refl

along : (context passed ts after : List hb_arabic_joining_type_t) (last : Option ℕ) → Marks last (nearest_letter passed)
    → form_calls_along last (length passed) (forms (passed ++ context) ts after)
    ≡ form_flags_along context passed ts after
along context passed [] after last m = refl
along context passed (T ∷ ts) after last m = along context (T ∷ passed) ts after last m
along context passed (U ∷ ts) after last m =
    search (arith, nothing, along context (U ∷ passed) ts after last (inl tt))
along context passed (X ∷ ts) after last m =
    search (arith, nothing, along context (X ∷ passed) ts after last (inl tt))
along context passed (t ∷ ts) after last m =
    let before = nearest (passed ++ context) in
    let n = nearest (ts ++ after) in
    let p = length passed in
    cc (
      has-form before t n tt,
      here last (nearest_letter passed) before t n (suc p) m (fits context passed),
      along context (t ∷ passed) ts after (Some p) (inr refl),
    )

-- selectors
turned_if : (b : Bool) (calls : List FlagCall) → cond b [] calls ≡ cond (not b) calls []
turned_if true calls = refl
turned_if false calls = refl

alike : (a : ℕ) → eqb a a ≡ true
alike a = eq-eqb a a refl

always : (b : Bool) (a : ℕ) → cond b a a ≡ a
always true a = refl
always false a = refl

copied-here : (b : Bool) (x y a : ℕ) (calls : List FlagCall) → y ≡ x → cond (eqb (cond b x a) a)
    [] calls ≡ cond (b && not (eqb y a)) calls []
copied-here true x y a calls e = search (arith, turned_if)
copied-here false x y a calls e = cc (alike a)

copied-along : (x : ℕ) (before places : List (ℕ × ℕ)) → ((own : ℕ) → form_behind before own ≡ x)
    → copied_calls (Some x) (length before) places ≡ selector_flags before places
copied-along x before [] e = refl
copied-along x before ((c, a) ∷ places) e = search (
  arith,
  copied-along (cond (is_selector c) x a) ((c, a) ∷ before) places (λ k. ap (λ y. cond (is_selector c) y a) (e a)),
)

copied-all : (places : List (ℕ × ℕ)) → copied_calls None 0 places ≡ selector_flags [] places
copied-all [] = refl
copied-all ((c, a) ∷ places) =
    search (arith, always, copied-here, copied-along a ((c, a) ∷ []) places (λ k. always (is_selector c) a))

places-are : (gs : Glyphs) → map place_of gs ≡ zip (map (λ g. g.glyph_id) gs) (map (λ g. g.auxiliary) gs)
places-are [] = refl
places-are (g ∷ gs) = cc (places-are gs)

-- so the calls at joined glyphs are those of the text
pub added-at : (script : Option Script) (text : Text) (hs : Glyphs)
    → map (λ g. g.glyph_id) hs ≡ text.characters → map (λ g. g.auxiliary) hs ≡ forms text.before text.types text.after
    → sound_calls_at script hs ≡ added_calls script text
added-at script text hs =
    search (arith, along text.before [] text.types text.after None refl, copied-all, places-are hs)
