-- The law of the cut.
use Rattle.std.proofs.Common.{◌≡◌, ℕ, zero, suc, ◌+◌, Bool, true, false, cond, List, [], ◌∷◌, ◌++◌, length, map, take, drop, reverse, Option, Some, refl, sym, ap, ◌∙◌, subst, arith, inl, inr}
use Rattle.std.specs.List.{prefix_len, zip}
use Rattle.std.proofs.lemmas.List.{length-map, length-take-le, take-append-drop, take-map, drop-map, take_all, take_at, drop_at, drop-drop, map-append}
use Rattle.std.proofs.lemmas.Slice.Zip.{length-zip}
use Rattle.std.specs.Option.{is_some}
use Rattle.shapers_buffer.proofs.MappedLists.{map-reverse}
use Rattle.shapers_buffer.specs.Buffer.{Buffer}
use Rattle.shapers_buffer.specs.Properties.{general_category}
use Rattle.shapers_buffer.specs.declared.buffer.category.hb_unicode_general_category_t.{hb_unicode_general_category_t}
use Rattle.shapers_buffer.specs.Glyphs.{Glyph, Glyphs}
use Rattle.shapers_buffer.specs.declared.buffer.tag.Script.{Script}
use Rattle.shapers_base.specs.declared.plan.joining.hb_arabic_joining_type_t.{hb_arabic_joining_type_t}
use Rattle.shapers_arabic.specs.Joining.{resolved, nearest, is_transparent, forms, is_selector, form_behind, selected}
use Rattle.shapers_arabic.specs.JoinedText.{Text, flag_calls, is_mongolian, forms_of, HoldsCut, stored_types, context_types, text_of, buffer_joined, Shows, AgreesWithTable, CopiedContextsShow, CopiedContextsCut}
use Rattle.shapers_base.specs.declared.plan.breaks.BreakFlags.{BreakFlags}
use Rattle.shapers_arabic.proofs.SoundOrder.{calls-in_order}
use Rattle.shapers_arabic.proofs.JoinedGlyphs.{forms-joined}
use Rattle.shapers_arabic.proofs.SelectedLists.{length-selected, selected-append, selected-same, zip-append}
use Rattle.shapers_arabic.proofs.JoiningLists.{forms-contexts, length-forms, forms-append}

-- so two texts before differ in the selectors that open the text alone
pub selected-opening : (before others : List (ℕ × ℕ)) (cs fs : List ℕ)
    → drop (prefix_len is_selector cs) (selected before (zip cs fs))
    ≡ drop (prefix_len is_selector cs) (selected others (zip cs fs))
selected-opening before others (c ∷ cs) (f ∷ fs) =
    let n = prefix_len is_selector cs in
    let places = zip cs fs in
    elim (is_selector c) as (λ b. is_selector c ≡ b
    → drop (cond b (1 + n) 0) (cond b (form_behind before f) f ∷ selected ((c, f) ∷ before) places)
    ≡ drop (cond b (1 + n) 0) (cond b (form_behind others f) f ∷ selected ((c, f) ∷ others) places)) [
      | true ↦ λ e.
          let more : 1 + n ≡ suc n = omega arith in
          ap (λ k. drop k (form_behind before f ∷ selected ((c, f) ∷ before) places)) more
          ∙ selected-opening ((c, f) ∷ before) ((c, f) ∷ others) cs fs
          ∙ sym (ap (λ k. drop k (form_behind others f ∷ selected ((c, f) ∷ others) places)) more)
      | false ↦ λ e. ap (λ gs. f ∷ gs)
          (selected-same ((c, f) ∷ before) ((c, f) ∷ others) places (λ own. ap (λ b. cond b (form_behind before f) f) e
          ∙ sym (ap (λ b. cond b (form_behind others f) f) e)))
    ] refl
selected-opening before others _ _ = refl

-- forms that fall into two parts, by the rule or with the selectors
pub record InParts (b : Bool) (n : ℕ) (characters whole cs fs ds gs : List ℕ) : Type 0 where
  pub first : take n (cond b (selected [] (zip characters whole)) whole) ≡ cond b (selected [] (zip cs fs)) fs
  pub second : drop (n + cond b (prefix_len is_selector ds) 0) (cond b (selected [] (zip characters whole)) whole)
      ≡ drop (cond b (prefix_len is_selector ds) 0) (cond b (selected [] (zip ds gs)) gs)

pub in-parts : (b : Bool) (n : ℕ) (characters whole cs fs ds gs : List ℕ) → characters ≡ cs ++ ds → whole ≡ fs ++ gs
    → length cs ≡ n → length fs ≡ n → InParts b n characters whole cs fs ds gs
in-parts false n characters whole cs fs ds gs c w l m = search (arith, take_at, drop_at)
in-parts true n characters whole cs fs ds gs c w l m =
    let front = selected [] (zip cs fs) in
    let back = selected (reverse (zip cs fs) ++ []) (zip ds gs) in
    let long = length-selected [] (zip cs fs) ∙ omega (arith, length-zip cs fs) in
    search (
      arith,
      zip-append cs ds fs gs (m ∙ sym l),
      selected-append [] (zip cs fs) (zip ds gs),
      take_at front back n long,
      drop-drop,
      drop_at front back n long,
      selected-opening (reverse (zip cs fs) ++ []) [] ds gs,
    )

-- the law
pub holds-cut : (script : Option Script) (text : Text) → length text.characters ≡ length text.types
    → HoldsCut script text (forms_of script text)
holds-cut script text long n inner_after inner_before h s =
    let ts = take n text.types in
    let us = drop n text.types in
    let fs = forms text.before ts inner_after in
    let gs = forms inner_before us text.after in
    let parts = in-parts (is_mongolian script) n text.characters (forms text.before text.types text.after) (take n
    text.characters) fs (drop n text.characters) gs (sym (take-append-drop n text.characters))
    (ap (λ xs. forms text.before xs text.after) (sym (take-append-drop n text.types))
    ∙ forms-append text.before ts us text.after ∙ ap (λ xs. xs ++ forms (reverse ts ++ text.before) us text.after)
    (forms-contexts text.before text.before ts (us ++ text.after) inner_after refl (sym s.onward))
    ∙ ap (λ xs. fs ++ xs)
    (forms-contexts (reverse ts ++ text.before) inner_before us text.after text.after (sym s.backward) refl)) (length-take-le n
    text.characters (omega arith)) (length-forms text.before ts inner_after ∙ length-take-le n text.types h) in
    search arith

pub length-forms_of : (script : Option Script) (text : Text) → length text.characters ≡ length text.types
    → length (forms_of script text) ≡ length text.types
length-forms_of = search (arith, length-selected, length-zip, length-forms)

-- the auxiliary bytes that joining left are the forms of the text
pub text_long : (joining : ℕ → hb_arabic_joining_type_t) (general : ℕ → hb_unicode_general_category_t) (old : Buffer)
    → let text = text_of joining general old in length text.characters ≡ length text.types
text_long = search (arith, length-map)

pub forms_left : (breaks : BreakFlags) (masks : List ℕ) (script : Option Script) (joining : ℕ
    → hb_arabic_joining_type_t) (general : ℕ → hb_unicode_general_category_t) (old new : Buffer)
    → new ≡ buffer_joined breaks masks script joining general old → map (λ g. g.auxiliary) new.glyphs
    ≡ forms_of script (text_of joining general old)
forms_left breaks masks script joining general old new is =
    let text = text_of joining general old in
    let fs_long =
    sym (length-map old.glyphs (λ g. resolved (joining g.glyph_id) (general_category g.unicode_props)))
    ∙ sym (length-forms_of script text (text_long joining general old)) in
    cc (forms-joined masks (forms_of script text) old.flags
    (flag_calls breaks script text) old.glyphs fs_long (calls-in_order breaks script text))

-- a front that shows a type shows the nearest
pub nearest-of_front : (ts us : List hb_arabic_joining_type_t) → is_some (nearest ts) ≡ true
    → nearest (ts ++ us) ≡ nearest ts
nearest-of_front [] us e = cc
nearest-of_front (t ∷ ts) us e =
    elim (is_transparent t) as (λ b. is_some (cond b (nearest ts) (Some t)) ≡ true
    → cond b (nearest (ts ++ us)) (Some t) ≡ cond b (nearest ts) (Some t)) [
      | true ↦ λ d. nearest-of_front ts us d
      | false ↦ λ d. refl
    ] e

nearest-of_five : (ts : List hb_arabic_joining_type_t) → Shows ts → nearest (take 5 ts) ≡ nearest ts
nearest-of_five ts (inl e) = search (arith, nearest-of_front, take-append-drop 5 ts)
nearest-of_five ts (inr h) = cc (take_all 5 ts h)

pub copied-show : CopiedContextsShow
copied-show = search (arith, nearest-of_five)

-- the table's types of glyphs that agree with it are the stored ones
types-agree : (joining : ℕ → hb_arabic_joining_type_t) (general : ℕ → hb_unicode_general_category_t) (gs : Glyphs)
    → AgreesWithTable general gs → context_types joining general (map (λ g. g.glyph_id) gs) ≡ stored_types joining gs
types-agree joining general [] all = refl
types-agree joining general (g ∷ gs) all = cc (all.0, types-agree joining general gs all.1)

agrees-take : (general : ℕ → hb_unicode_general_category_t) (n : ℕ) (gs : Glyphs)
    → AgreesWithTable general gs → AgreesWithTable general (take n gs)
agrees-take general (suc n) (g ∷ gs) all = (all.0, agrees-take general n gs all.1)
agrees-take general _ _ all = tt

agrees-drop : (general : ℕ → hb_unicode_general_category_t) (n : ℕ) (gs : Glyphs)
    → AgreesWithTable general gs → AgreesWithTable general (drop n gs)
agrees-drop general zero gs all = all
agrees-drop general (suc n) [] all = tt
agrees-drop general (suc n) (g ∷ gs) all = agrees-drop general n gs all.1

-- what a copied context shows: the types of the text there
copied-after : (joining : ℕ → hb_arabic_joining_type_t) (general : ℕ → hb_unicode_general_category_t)
    (gs : Glyphs) (cs : List ℕ) → AgreesWithTable general gs
    → context_types joining general (take 5 (map (λ g. g.glyph_id) gs ++ cs))
    ≡ take 5 (stored_types joining gs ++ context_types joining general cs)
copied-after joining general gs cs all =
    let type_of = λ (c : ℕ). resolved (joining c) (general c) in
    search (arith, take-map, map-append type_of (map (λ g. g.glyph_id) gs) cs, types-agree joining general gs all)

copied-before : (joining : ℕ → hb_arabic_joining_type_t) (general : ℕ → hb_unicode_general_category_t)
    (gs : Glyphs) (cs : List ℕ) → AgreesWithTable general gs
    → context_types joining general (take 5 (reverse (map (λ g. g.glyph_id) gs) ++ cs))
    ≡ take 5 (reverse (stored_types joining gs) ++ context_types joining general cs)
copied-before joining general gs cs all =
    let type_of = λ (c : ℕ). resolved (joining c) (general c) in
    search (
      arith,
      take-map,
      map-append type_of (reverse (map (λ g. g.glyph_id) gs)) cs,
      map-reverse type_of (map (λ g. g.glyph_id) gs),
      types-agree joining general gs all,
    )

-- the forms of a text by its parts
abbrev forms_by : Option Script → List hb_arabic_joining_type_t → List ℕ → List hb_arabic_joining_type_t
    → List hb_arabic_joining_type_t → List ℕ
forms_by script before characters types after =
    forms_of script (record { before = before; characters = characters; types = types; after = after })

pub copied-cut : CopiedContextsCut
copied-cut script joining general b n h all onward backward =
    let gs = b.glyphs in
    let text = text_of joining general b in
    let ids = λ (g : Glyph). g.glyph_id in
    let type_of = λ (g : Glyph). resolved (joining g.glyph_id) (general_category g.unicode_props) in
    let shown = copied-show n text (subst (λ ts. Shows (ts ++ text.after)) (sym
    (drop-map type_of n gs)) onward) (subst (λ ts. Shows
    (reverse ts ++ text.before)) (sym (take-map type_of n gs)) backward) in
    let cut = holds-cut script text (length-map gs ids ∙ sym (length-map gs type_of)) n
    (take 5 (drop n text.types ++ text.after)) (take 5 (reverse (take n text.types) ++ text.before))
    (omega (arith, length-map gs type_of)) shown in
    search (
      arith,
      take-map,
      drop-map,
      copied-after joining general (drop n gs) b.after (agrees-drop general n gs all),
      copied-before joining general (take n gs) b.before (agrees-take general n gs all),
    )
