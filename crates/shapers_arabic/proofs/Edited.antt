-- Edits of buffers: of each part beside the edit only one letter changes its form, and the
-- selectors behind it take it over.
use Rattle.std.proofs.Common.{◌≡◌, ℕ, zero, suc, ◌+◌, ◌-◌, ◌≤◌, Bool, true, false, cond, List, [], ◌∷◌, ◌++◌, length, map, take, drop, replicate, reverse, Option, refl, sym, ap, ◌∙◌, subst, arith, append_assoc}
use Rattle.std.specs.List.{prefix_len, zip}
use Rattle.std.proofs.lemmas.List.{length-append, length-map, length-take-le, take-append-drop, take_at, drop_at, drop-drop}
use Rattle.shapers_buffer.specs.Buffer.{Buffer}
use Rattle.shapers_buffer.specs.Glyph.{order_view}
use Rattle.shapers_buffer.specs.declared.buffer.category.hb_unicode_general_category_t.{hb_unicode_general_category_t}
use Rattle.shapers_buffer.specs.Glyphs.{Glyph, Glyphs}
use Rattle.shapers_buffer.specs.declared.buffer.tag.Script.{Script}
use Rattle.shapers_base.specs.declared.plan.breaks.BreakFlags.{BreakFlags}
use Rattle.shapers_base.specs.declared.plan.joining.hb_arabic_joining_type_t.{hb_arabic_joining_type_t}
use Rattle.shapers_arabic.specs.declared.ot_shaper_arabic.arabic_action_t.TheConstants.{NONE}
use Rattle.shapers_arabic.specs.Edited.{GlyphsStayNear, SameBut, StayBefore, StayBehind, edited}
use Rattle.shapers_arabic.specs.Joining.{act, forms, is_selector, nearest, selected}
use Rattle.shapers_arabic.specs.JoinedText.{context_types, forms_of, is_mongolian, joined_glyphs, opening, stored_types, text_of, with_joining_forms}
use Rattle.shapers_arabic.proofs.BrokenGlyphs.{types_long}
use Rattle.shapers_arabic.proofs.FormedParts.{drop-shown, drop-view, take-shown, take-view, text-parts}
use Rattle.shapers_arabic.proofs.JoiningLaws.{in-parts, selected-opening}
use Rattle.shapers_arabic.proofs.JoiningLists.{forms-append, forms-contexts, forms-parts, forms-transparent, length-forms}

-- forms by the rule, or with the selectors
abbrev chosen : Bool → List ℕ → List ℕ → List ℕ
chosen b cs fs = cond b (selected [] (zip cs fs)) fs

-- forms that differ at one place
behind-one : (fs hs : List ℕ) (x : ℕ) → drop (suc (length fs)) (fs ++ x ∷ hs) ≡ hs
behind-one [] hs x = refl
behind-one (f ∷ fs) hs x = behind-one fs hs x

selected-front : (before : List (ℕ × ℕ)) (cs fs hs : List ℕ) (x y : ℕ)
    → take (length fs) (selected before (zip cs (fs ++ x ∷ hs)))
    ≡ take (length fs) (selected before (zip cs (fs ++ y ∷ hs)))
selected-front before (c ∷ cs) (f ∷ fs) hs x y = cc (selected-front ((c, f) ∷ before) cs fs hs x y)
selected-front before _ _ hs x y = refl

selected-back : (before : List (ℕ × ℕ)) (cs fs hs : List ℕ) (x y : ℕ) → let k =
    prefix_len is_selector (drop (suc (length fs)) cs) in drop k
    (drop (suc (length fs)) (selected before (zip cs (fs ++ x ∷ hs))))
    ≡ drop k (drop (suc (length fs)) (selected before (zip cs (fs ++ y ∷ hs))))
selected-back before (c ∷ cs) [] hs x y = search (arith, selected-opening)
selected-back before (c ∷ cs) (f ∷ fs) hs x y = selected-back ((c, f) ∷ before) cs fs hs x y
selected-back before [] _ hs x y = refl

but-by : (b : Bool) (cs fs hs : List ℕ) (x y : ℕ) → let l =
    suc (length fs) + cond b (prefix_len is_selector (drop (suc (length fs)) cs))
    0 in (take (length fs) (chosen b cs (fs ++ x ∷ hs)) ≡ take (length fs) (chosen b cs (fs ++ y ∷ hs)))
    × (drop l (chosen b cs (fs ++ x ∷ hs)) ≡ drop l (chosen b cs (fs ++ y ∷ hs)))
but-by false cs fs hs x y =
    let none : suc (length fs) + 0 ≡ suc (length fs) = omega arith in search (arith, take_at, behind-one)
but-by true cs fs hs x y = let k = prefix_len is_selector (drop (suc (length fs)) cs) in (
  selected-front [] cs fs hs x y,
  sym (drop-drop k (suc (length fs)) (selected [] (zip cs (fs ++ x ∷ hs)))) ∙ selected-back [] cs fs hs x y
      ∙ drop-drop k (suc (length fs)) (selected [] (zip cs (fs ++ y ∷ hs))),
)

abbrev of_script : Option Script → List ℕ → List ℕ → List ℕ
of_script script cs fs = chosen (is_mongolian script) cs fs

but-one : (script : Option Script) (cs fs hs : List ℕ) (x y j : ℕ) → length fs ≡ j
    → SameBut script 0 j cs (of_script script cs (fs ++ x ∷ hs)) (of_script script cs (fs ++ y ∷ hs))
but-one script cs fs hs x y = search (arith, but-by (is_mongolian script) cs fs hs x y)

-- lists that are the same from a place on, cut at another
take-nothing : {X : Type 0} (n : ℕ) → let none : List X = [] in take n none ≡ none
take-nothing zero = refl
take-nothing (suc n) = refl

cut-within : {X : Type 0} (k j : ℕ) (xs : List X) → drop k (take j xs) ≡ take (j - k) (drop k xs)
cut-within (suc k) (suc j) [] = search (arith, take-nothing)
cut-within (suc k) (suc j) (x ∷ xs) = search (arith, cut-within k j xs)
cut-within _ _ xs = search arith

opens-within : (n : ℕ) (cs : List ℕ) → prefix_len is_selector cs ≤ n + prefix_len is_selector (drop n cs)
opens-within (suc n) (c ∷ cs) = search (arith, opens-within n cs)
opens-within _ _ = omega arith

opening-within : (b : Bool) (n : ℕ) (cs : List ℕ) → cond b (prefix_len is_selector cs) 0
    ≤ n + cond b (prefix_len is_selector (drop n cs)) 0
opening-within true n cs = opens-within n cs
opening-within false n cs = omega arith

-- glyphs in such forms
but-shown : (script : Option Script) (k j : ℕ) (cs masks fs hs : List ℕ) (gs : Glyphs) → SameBut script k j cs fs hs
    → SameBut script k j cs (order_view (with_joining_forms masks fs gs)) (order_view (with_joining_forms masks hs gs))
but-shown script k j cs masks fs hs gs same =
    let l = suc j + opening script (drop (suc j) cs) in
    let inner = λ (xs : List ℕ). ap (drop k) (take-shown masks j xs gs) ∙ drop-shown masks k (take j xs) (take j gs)
    in
    search (arith, inner fs, same.0, inner hs, drop-shown, same.1)

-- the forms of a buffer of two parts
record OfParts (script : Option Script) (joining : ℕ → hb_arabic_joining_type_t) (general : ℕ
    → hb_unicode_general_category_t) (b : Buffer) (xs ys : Glyphs) : Type 0 where
  first : take (length xs) (forms_of script (text_of joining general b))
      ≡ of_script script (map (λ g. g.glyph_id) xs)
      (forms (context_types joining general b.before) (stored_types joining xs)
      (stored_types joining ys ++ context_types joining general b.after))
  second : let k =
      opening script (map (λ g. g.glyph_id) ys) in drop (length xs + k) (forms_of script (text_of joining general b))
      ≡ drop k (of_script script (map (λ g. g.glyph_id) ys)
      (forms (reverse (stored_types joining xs) ++ context_types joining general b.before) (stored_types joining ys)
      (context_types joining general b.after)))

of-parts : (script : Option Script) (joining : ℕ → hb_arabic_joining_type_t) (general : ℕ
    → hb_unicode_general_category_t) (b : Buffer) (xs ys : Glyphs) → b.glyphs ≡ xs ++ ys
    → OfParts script joining general b xs ys
of-parts script joining general b xs ys =
    let id = λ (g : Glyph). g.glyph_id in
    let before = context_types joining general b.before in
    let after = context_types joining general b.after in
    let ts = stored_types joining xs in
    let us = stored_types joining ys in
    let parts = in-parts (is_mongolian script)
    (length xs) (map id xs ++ map id ys) (forms before (ts ++ us) after) (map id xs)
    (forms before ts (us ++ after)) (map id ys)
    (forms (reverse ts ++ before) us after) refl (forms-append before ts us after) (length-map xs id) (length-forms
    before ts (us ++ after) ∙ types_long joining xs) in
    search (arith, text-parts, parts.first, parts.second)

-- the part before an edit
stay-before : (breaks : BreakFlags) (masks : List ℕ) (script : Option Script) (joining : ℕ → hb_arabic_joining_type_t)
    (general : ℕ → hb_unicode_general_category_t) (one two : Buffer) (xs ys zs : Glyphs) (n : ℕ)
    → length xs ≡ n → one.glyphs ≡ xs ++ ys → two.glyphs ≡ xs ++ zs → one.before ≡ two.before
    → StayBefore script (stored_types joining xs) (map (λ g. g.glyph_id) xs)
    (order_view (take n (joined_glyphs breaks masks one.flags script (text_of joining general one) one.glyphs)))
    (order_view (take n (joined_glyphs breaks masks two.flags script (text_of joining general two) two.glyphs)))
stay-before breaks masks script joining general one two xs ys zs n long e f fronts =
    let cs = map (λ (g : Glyph). g.glyph_id) xs in
    let ts = stored_types joining xs in
    let before = context_types joining general two.before in
    let near = stored_types joining ys ++ context_types joining general one.after in
    let other = stored_types joining zs ++ context_types joining general two.after in
    let shown = λ (fs : List ℕ). order_view (with_joining_forms masks fs xs) in
    let first_text = text_of joining general one in
    let second_text = text_of joining general two in
    let fs = of_script script cs (forms before ts near) in
    let hs = of_script script cs (forms before ts other) in
    let first_view =
    take-view breaks masks one.flags script first_text one.glyphs n
    ∙ ap (λ us. order_view (with_joining_forms masks us (take n one.glyphs)))
    (ap (λ i. take i (forms_of script first_text)) (sym long) ∙ (of-parts script joining general one xs ys e).first ∙
    ap (λ c. of_script script cs (forms (context_types joining general c) ts near)) fronts)
    ∙ ap (λ gs. order_view (with_joining_forms masks fs gs)) (ap (take n) e ∙ take_at xs ys n long) in
    let second_view =
    take-view breaks masks two.flags script second_text two.glyphs n
    ∙ ap (λ us. order_view (with_joining_forms masks us (take n two.glyphs)))
    (ap (λ i. take i (forms_of script second_text)) (sym long) ∙ (of-parts script joining general two xs zs f).first)
    ∙ ap (λ gs. order_view (with_joining_forms masks hs gs)) (ap (take n) f ∙ take_at xs zs n long) in
    subst (λ gs. StayBefore script ts cs gs
    (order_view (take n (joined_glyphs breaks masks two.flags script second_text two.glyphs)))) (sym first_view)
    (subst (λ gs. StayBefore script ts cs (shown fs) gs) (sym second_view)
    (record {
      none = λ none. ap shown (search (arith, forms-transparent));
      last = λ front tail t is
          letter rest. but-shown script 0 (length front) cs masks fs hs xs (subst (λ us. SameBut script 0 (length front) cs
          (of_script script cs (forms before us near)) (of_script script cs (forms before us other))) (sym is) (
          let seen = nearest (reverse front ++ before) in
          search (
            arith,
            forms-parts,
            but-one script cs (forms before front (t ∷ [])) (replicate (length tail) NONE) (act seen t (nearest near))
                (act seen t (nearest other)) (length front) (length-forms before front (t ∷ [])),
          )));
    }))

-- and the part behind it
stay-behind : (breaks : BreakFlags) (masks : List ℕ) (script : Option Script) (joining : ℕ → hb_arabic_joining_type_t)
    (general : ℕ → hb_unicode_general_category_t) (one two : Buffer) (xs ys zs : Glyphs) (n m : ℕ)
    → length xs ≡ n → length ys ≡ m → one.glyphs ≡ xs ++ zs → two.glyphs ≡ ys ++ zs → one.after ≡ two.after
    → StayBehind script (stored_types joining zs) (map (λ g. g.glyph_id) zs)
    (order_view (drop n (joined_glyphs breaks masks one.flags script (text_of joining general one) one.glyphs)))
    (order_view (drop m (joined_glyphs breaks masks two.flags script (text_of joining general two) two.glyphs)))
stay-behind breaks masks script joining general one two xs ys zs n m long more e f ends =
    let cs = map (λ (g : Glyph). g.glyph_id) zs in
    let ts = stored_types joining zs in
    let k = opening script cs in
    let after = context_types joining general two.after in
    let seen = reverse (stored_types joining xs) ++ context_types joining general one.before in
    let other = reverse (stored_types joining ys) ++ context_types joining general two.before in
    let first_text = text_of joining general one in
    let second_text = text_of joining general two in
    let fs = drop n (forms_of script first_text) in
    let hs = drop m (forms_of script second_text) in
    let us = of_script script cs (forms seen ts after) in
    let vs = of_script script cs (forms other ts after) in
    let shown = λ (ws : List ℕ). order_view (with_joining_forms masks ws zs) in
    let first_forms = drop-drop k n (forms_of script first_text)
    ∙ ap (λ i. drop (i + k) (forms_of script first_text)) (sym long)
    ∙ (of-parts script joining general one xs zs e).second
    ∙ ap (λ c. drop k (of_script script cs (forms seen ts (context_types joining general c)))) ends in
    let second_forms = drop-drop k m (forms_of script second_text)
    ∙ ap (λ i. drop (i + k) (forms_of script second_text)) (sym more)
    ∙ (of-parts script joining general two ys zs f).second in
    subst (λ gs. StayBehind script ts cs gs
    (order_view (drop m (joined_glyphs breaks masks two.flags script second_text two.glyphs)))) (sym
    (drop-view breaks masks one.flags script first_text one.glyphs n
    ∙ ap (λ gs. order_view (with_joining_forms masks fs gs)) (ap (drop n) e ∙ drop_at xs zs n long)))
    (subst (λ gs. StayBehind script ts cs (shown fs) gs) (sym
    (drop-view breaks masks two.flags script second_text two.glyphs m
    ∙ ap (λ gs. order_view (with_joining_forms masks hs gs)) (ap (drop m) f ∙ drop_at ys zs m more)))
    (record {
      none = λ none. let same = first_forms ∙ ap (λ ws. drop k (of_script script cs ws))
          (forms-transparent seen ts after none ∙ sym (forms-transparent other ts after none))
          ∙ sym second_forms in drop-shown masks k fs zs
          ∙ ap (λ ws. order_view (with_joining_forms masks ws (drop k zs))) same ∙ sym (drop-shown masks k hs zs);
      first = λ front tail t is none letter. let j = length front in
          let same = subst (λ rs. SameBut script 0 j cs (of_script script cs (forms seen rs after)) (of_script script cs
          (forms other rs after))) (sym is) (
          let fs = replicate (length front) NONE in
          let j = length front in
          let near = nearest (tail ++ after) in
          search (
            arith,
            forms-append,
            forms-transparent,
            forms-contexts,
            but-one script cs fs (forms (t ∷ (reverse front ++ seen)) tail after)
                (act (nearest (reverse front ++ seen)) t near) (act (nearest (reverse front ++ other)) t near) j
                (sym (ap length (forms-transparent seen front (t ∷ (tail ++ after)) none)) ∙ length-forms seen front
                (t ∷ (tail ++ after))),
          )) in but-shown
          script k j cs masks fs hs zs (
          let k = opening script cs in
          let l = suc j + opening script (drop (suc j) cs) in
          let more = l - k in
          let low = opening-within (is_mongolian script) (suc j) cs in
          let whole : k + more ≡ l = omega arith in
          let past = λ (xs ys : List ℕ) (e : drop k xs ≡ drop k ys).
          sym (ap (λ n. drop n xs) whole) ∙ sym (drop-drop more k xs) ∙ ap (drop more) e ∙ drop-drop more k ys
          ∙ ap (λ n. drop n ys) whole in
          let within = λ (xs ys : List ℕ) (e : drop k xs ≡ drop k ys). cut-within k j xs ∙ ap (take (j - k)) e ∙ sym
          (cut-within k j ys) in
          search (arith, same.0, within hs vs second_forms, past fs us first_forms, same.1, past hs vs second_forms));
    }))

pub glyphs-stay_near : GlyphsStayNear
glyphs-stay_near breaks masks script joining general s e gs b order within =
    let two = edited s e gs b in
    let front = take s b.glyphs in
    let back = drop e b.glyphs in
    let long = length-take-le s b.glyphs (omega arith) in
    search (
      arith,
      stay-before breaks masks script joining general b two front (drop s b.glyphs) (gs ++ back) s long
          (sym (take-append-drop s b.glyphs)) refl refl,
      stay-behind breaks masks script joining general b two (take e b.glyphs) (front ++ gs) back e (s + length gs)
          (length-take-le e b.glyphs within) (omega (arith, length-append front gs))
          (sym (take-append-drop e b.glyphs)) (sym (append_assoc front gs back)) refl,
    )
