-- The two walks: the flags, and the forms.
use Rattle.std.proofs.Common.{◌≡◌, ℕ, suc, ◌-◌, ◌+◌, ◌<◌, ◌≤◌, Bool, true, false, cond, ◌||◌, List, [], ◌∷◌, ◌++◌, length, take, drop, get_or, map, refl, sym, ap, ◌∙◌, subst, arith}
use Rattle.std.specs.List.{AllByRecursion, take-map}
use Rattle.std.proofs.lemmas.List.{append-nil, length-map, length-take-le, take_more, drop_more, take_all, drop_all, drop-map, map-append, get_or_at}
use Rattle.std.proofs.lemmas.Simd.{map-map}
use Rattle.shapers_buffer.specs.Glyphs.{Glyph, Glyphs}
use Rattle.shapers_buffer.specs.Clusters.{least, stretch_of}
use Rattle.shapers_buffer.specs.Glyph.{clusters, characters}
use Rattle.shapers_buffer.specs.GlyphFlags.{with_bits_off, flagged, unsafe_inside, unsafe_all}
use Rattle.shapers_buffer.specs.Lists.{each_after}
use Rattle.shapers_clusters.proofs.FlagCalls.{map-unsafe_inside, map-unsafe_all, without_flags-or}
use Rattle.shapers_clusters.proofs.Flagging.{unsafe_nothing, unsafe_longer, unsafe_all-append}
use Rattle.shapers_text.specs.declared.ot_shaper_thai.forms.Action.{Action}
use Rattle.shapers_text.specs.declared.ot_shaper_thai.forms.Action.TheVariants.{NOP}
use Rattle.shapers_text.specs.declared.ot_shaper_thai.forms.Base.{Base}
use Rattle.shapers_text.specs.declared.ot_shaper_thai.forms.Consonant.TheVariants.{NotConsonant}
use Rattle.shapers_text.specs.declared.ot_shaper_thai.forms.Mark.{Mark}
use Rattle.shapers_text.specs.declared.ot_shaper_thai.forms.Mark.TheVariants.{AV}
use Rattle.shapers_text.specs.ThaiForms.{mark_type, stands_above, stands_below, is_thai_mark, action_of, forms_between, with_character, with_characters, thai_base_place, stretch_of_mark, mark_stretches_of_each, mark_stretches, pua_shaped, preprocessed_text}
use Rattle.shapers_text.specs.ThaiWalk.{target, form_set, counted_base, base_after, after_action, after_character}
use Rattle.shapers_text.specs.ThaiLaws.{without_form, FormsLaw}
use Rattle.shapers_text.proofs.ThaiFormLaws.{IsBase, base_push, base_place_push, length-forms, no_action, action_put, shapes}

pub in_order : (each : List (List ℕ × ℕ)) → AllByRecursion (λ st. st.0 ≤ st.1) (mark_stretches_of_each each)
in_order [] = tt
in_order (p ∷ each) = search (arith, in_order each)

-- the walk of the flags: those of the last base go to the place before this one
pub record Flagging (start now : Glyphs) (i base : ℕ) : Type 0 where
  pub same_text : characters now ≡ characters start
  pub base_is : base ≡ thai_base_place (take i (characters start))
  pub rest : unsafe_all (mark_stretches_of_each (each_after (take i (characters start)) (drop i (characters start))))
      (unsafe_inside base (i - 1) now) ≡ unsafe_all (mark_stretches (characters start)) start

flagging_none : (start : Glyphs) → Flagging start start 0 0
flagging_none = search (arith, unsafe_nothing)

-- the text splits at place i
pub record Splits (us : List ℕ) (i u : ℕ) : Type 0 where
  pub rest_is : drop i us ≡ u ∷ drop (i + 1) us
  pub front_is : take (i + 1) us ≡ take i us ++ u ∷ []
  pub length_is : length (take i us) ≡ i

pub splits : (us : List ℕ) (i u : ℕ) → i < length us → u ≡ get_or us i 0 → Splits us i u
splits = search (arith, drop_more, take_more, length-take-le)

flagging_base : (start now : Glyphs) (i base : ℕ) → i ≤ length start → Flagging start now i base → base ≤ i - 1
flagging_base = search (arith, length-take-le, length-map)

flagging_length : (start now : Glyphs) (i base : ℕ) → Flagging start now i base → length now ≡ length start
flagging_length = search (arith, length-map)

-- the flags set at place i: those of the base before it, where its character u is no mark
abbrev pub flags_at : ℕ → ℕ → ℕ → Glyphs → Glyphs
flags_at u base i gs = cond (is_thai_mark u) gs (unsafe_inside base (i - 1) gs)

still : (u base last i : ℕ) (gs : Glyphs) → base ≤ last → last ≤ i → i ≤ length gs
    → unsafe_all (stretch_of_mark base i u) (unsafe_inside base last gs)
    ≡ unsafe_inside (cond (is_thai_mark u) base i) i (cond (is_thai_mark u) gs (unsafe_inside base last gs))
still u base last i gs low high within =
    elim (is_thai_mark u) as (λ b. unsafe_all (cond b ((base, i) ∷ []) []) (unsafe_inside base last gs)
    ≡ unsafe_inside (cond b base i) i (cond b gs (unsafe_inside base last gs))) [
      | true ↦ search (arith, unsafe_longer)
      | false ↦ search (arith, unsafe_nothing)
    ]

characters-flags_at : (u base i : ℕ) (gs : Glyphs) → base ≤ i - 1 → characters (flags_at u base i gs) ≡ characters gs
characters-flags_at u base i gs h = search (arith, map-unsafe_inside (λ g. g.glyph_id) (λ g. refl) base (i - 1) gs h)

flagging_next : (start now : Glyphs) (i base u : ℕ) → i < length start → Flagging start now i base
    → u ≡ get_or (characters start) i 0 → Flagging start (flags_at u base i now) (i + 1) (cond (is_thai_mark u) base i)
flagging_next start now i base u inside f read =
    let us = characters start in
    let long : length us ≡ length start = search (arith, length-map) in
    let now_long = flagging_length start now i base f in
    let s = splits us i u (omega arith) read in
    let low = flagging_base start now i base (omega arith) f in
    let before = take i us in
    let to_come = mark_stretches_of_each (each_after (take (i + 1) us) (drop (i + 1) us)) in
    record {
      same_text = characters-flags_at u base i now low ∙ f.same_text;
      base_is =
          ap (λ n. cond (is_thai_mark u) n i) f.base_is
          ∙ ap (λ n. cond (is_thai_mark u) (thai_base_place before) n) (sym s.length_is)
          ∙ sym (base_place_push before u) ∙ ap thai_base_place (sym s.front_is);
      rest =
          ap (λ n. unsafe_all to_come (unsafe_inside (cond (is_thai_mark u) base i) n (flags_at u base i now)))
          (omega arith) ∙ ap (unsafe_all to_come) (sym (still u base (i - 1) i now low (omega arith) (omega arith)))
          ∙ sym (unsafe_all-append (stretch_of_mark base i u) to_come (unsafe_inside base (i - 1) now))
          ∙ ap (λ sts. unsafe_all sts (unsafe_inside base (i - 1) now))
          (sym (ap (λ vs. mark_stretches_of_each (each_after before vs)) s.rest_is ∙ ap (λ n. stretch_of_mark
          (thai_base_place before) n u ++ mark_stretches_of_each (each_after (before ++ u ∷ []) (drop (i + 1) us)))
          s.length_is ∙ ap (λ n. stretch_of_mark n i u ++ mark_stretches_of_each (each_after (before ++ u ∷ []) (drop
          (i + 1) us))) (sym f.base_is) ∙ ap (λ vs. stretch_of_mark base i u ++ mark_stretches_of_each (each_after vs
          (drop (i + 1) us))) (sym s.front_is))) ∙ f.rest;
    }

flagging_all : (start now : Glyphs) (i base : ℕ) → length start ≤ i → Flagging start now i base
    → unsafe_inside base (i - 1) now ≡ unsafe_all (mark_stretches (characters start)) start
flagging_all = search (arith, drop_all, length-map)

-- glyphs without their characters
abbrev blank : Glyphs → Glyphs
blank gs = map (λ g. with_character g 0) gs

blank-form_set : (has : ℕ → Bool) (gs : Glyphs) (place : ℕ) (action : Action)
    → blank (form_set has place action gs) ≡ blank gs
blank-form_set has (g ∷ gs) (suc place) action = cc (blank-form_set has gs place action)
blank-form_set has _ _ action = refl

characters-form_set : (has : ℕ → Bool) (gs : Glyphs) (place : ℕ) (action : Action)
    → characters (form_set has place action gs) ≡ action_put has place action (characters gs)
characters-form_set has (g ∷ gs) (suc place) action = cc (characters-form_set has gs place action)
characters-form_set has _ _ action = refl

-- a list of glyphs is its characters on any list that is the same without them
rebuilt : (gs hs : Glyphs) → blank gs ≡ blank hs → gs ≡ with_characters (characters gs) hs
rebuilt [] [] same = refl
rebuilt (g ∷ gs) (h ∷ hs) same = search (arith, rebuilt gs hs cc)
rebuilt _ _ same = absurd cc

map_same : (f g : Glyph → Glyph) → ((x : Glyph) → f x ≡ g x) → (xs : Glyphs) → map f xs ≡ map g xs
map_same f g same [] = refl
map_same f g same (x ∷ xs) = search arith

-- flags don't look at characters
blank-unsafe_inside : (s e : ℕ) (gs : Glyphs) → blank (unsafe_inside s e gs) ≡ unsafe_inside s e (blank gs)
blank-unsafe_inside s e gs =
    let f : Glyph → Glyph = λ g. with_character g 0 in
    map-append f (take s gs) (flagged 3 (stretch_of s e gs) ++ drop e gs)
    ∙ ap (λ xs. blank (take s gs) ++ xs) (map-append f (flagged 3 (stretch_of s e gs)) (drop e gs))
    ∙ ap (λ xs. blank (take s gs) ++ (xs ++ blank (drop e gs)))
    (let low = least (clusters (stretch_of s e gs)) in search (
      arith,
      map-map,
      map_same (λ g. with_character
          (with_bits_off 3 low g) 0) (λ g. with_bits_off 3 low (with_character g 0)) (λ g. sym (search arith)) (stretch_of
          s e gs),
      map-map (with_bits_off 3 low) (λ g. with_character g 0) (stretch_of s e gs),
    )) ∙ ap (λ xs. blank (take s gs) ++ (flagged 3 xs ++ blank (drop e gs))) (sym (take-map f (e - s) (drop s gs)))
    ∙ ap (λ xs. blank (take s gs) ++ (flagged 3 (take (e - s) xs) ++ blank (drop e gs))) (sym (drop-map f s gs))
    ∙ ap (λ xs. xs ++ (flagged 3 (stretch_of s e (blank gs)) ++ blank (drop e gs))) (sym (take-map f s gs))
    ∙ ap (λ xs. take s (blank gs) ++ (flagged 3 (stretch_of s e (blank gs)) ++ xs)) (sym (drop-map f e gs))

-- the walk of the forms, on characters
pub record Shaping (has : ℕ → Bool) (us now : List ℕ) (i : ℕ) (base : Base) : Type 0 where
  pub text_is : now ≡ forms_between has [] (take i us) [] ++ drop i us
  pub base_is : IsBase (take i us) base

shaping_read : (has : ℕ → Bool) (us now : List ℕ) (i : ℕ) (base : Base) → i < length us → Shaping has us now i base
    → get_or now i 0 ≡ get_or us i 0
shaping_read = search (arith, drop_more, get_or_at, length-forms, length-take-le)

-- what the code's action does to the characters
abbrev after_mark : (ℕ → Bool) → Base → ℕ → ℕ → List ℕ → List ℕ
after_mark has base i u us = let action =
    action_of base.consonant (mark_type u) base.above base.below in action_put has (target action base.place i) action
    us

shaping_next : (has : ℕ → Bool) (us now : List ℕ) (i u : ℕ) (base : Base) → i < length us → Shaping has us now i base
    → u ≡ get_or us i 0 → Shaping has us (after_mark has base i u now) (i + 1) (base_after base i u)
shaping_next has us now i u base inside s read =
    let front = take i us in
    let p = splits us i u inside read in
    let b = s.base_is in
    search (arith, shapes, base_push front u base i (sym p.length_is) b)

-- the walk of both: but for their characters the glyphs are those of the walk of the flags
pub record Walking (has : ℕ → Bool) (start now : Glyphs) (i : ℕ) (base : Base) : Type 0 where
  pub flags : Glyphs
  pub flagging : Flagging start flags i base.place
  pub shaping : Shaping has (characters start) (characters now) i base
  pub same_rest : blank now ≡ blank flags

pub walking_none : (has : ℕ → Bool) (start : Glyphs) (base : Base)
    → base ≡ record { place = 0; consonant = NotConsonant; above = 0; below = 0 } → Walking has start start 0 base
walking_none has start base none = search (arith, flagging_none start)

pub walking_base : (has : ℕ → Bool) (start now : Glyphs) (i : ℕ) (base : Base) → i ≤ length start
    → Walking has start now i base → base.place ≤ i - 1
walking_base = search (arith, flagging_base)

-- marks do nothing to flags, and other characters nothing to forms
place_after : (mark : Mark) (base : Base) (i u : ℕ) → (counted_base mark base i u).place
    ≡ cond (stands_above mark || stands_below mark) base.place i
place_after AV base i u = refl
place_after _ base i u = refl

put_nop : (has : ℕ → Bool) (us : List ℕ) (i : ℕ) → action_put has i NOP us ≡ us
put_nop has (u ∷ us) (suc i) = cc (put_nop has us i)
put_nop has _ _ = refl

blank-after : (has : ℕ → Bool) (base : Base) (i u : ℕ) (gs hs : Glyphs) → blank gs ≡ blank hs
    → blank (after_character has base i u gs) ≡ blank (flags_at u base.place i hs)
blank-after = search (arith, blank-form_set, blank-unsafe_inside)

pub walking_next : (has : ℕ → Bool) (start now after : Glyphs) (i u : ℕ) (base base' : Base)
    → i < length start → Walking has start now i base → u ≡ get_or (characters now) i 0
    → after ≡ after_character has base i u now → base' ≡ base_after base i u → Walking has start after (i + 1) base'
walking_next has start now after i u base base' inside w at changed counted =
    let us = characters start in
    let long : length us ≡ length start = search (arith, length-map) in
    let read = at ∙ shaping_read has us (characters now) i base (omega arith) w.shaping in
    let flagging = flagging_next start w.flags i base.place u inside w.flagging read in
    let shaping = shaping_next has us (characters now) i u base (omega arith) w.shaping read in
    let next : Walking has start (after_character has base i u now) (i + 1) (base_after base i u) = record {
      flags = flags_at u base.place i w.flags;
      flagging = subst (λ n. Flagging start (flags_at u base.place i w.flags) (i + 1) n)
          (sym (place_after (mark_type u) base i u)) flagging;
      shaping = subst (λ vs. Shaping has us vs (i + 1) (base_after base i u))
          (sym (
          elim (is_thai_mark u) as (λ b. is_thai_mark u ≡ b → characters (cond b (after_action has base i (mark_type
          u) now) (unsafe_inside base.place (i - 1) now)) ≡ after_mark has base i u (characters now)) [
            | true ↦ λ _. characters-form_set has now _ _
            | false ↦ λ none. map-unsafe_inside (λ g. g.glyph_id) (λ g. refl) base.place
                (i - 1) now (walking_base has start now i base (omega arith) w) ∙ sym (put_nop has (characters now) i)
                ∙ ap (λ a. action_put has (target a base.place i) a (characters now))
                (sym (no_action base.consonant (mark_type u) base.above base.below none))
          ] refl)) shaping;
      same_rest = blank-after has base i u now w.flags w.same_rest;
    } in
    subst (λ b. Walking has start after (i + 1) b) (sym counted)
    (subst (λ xs. Walking has start xs (i + 1) (base_after base i u)) (sym changed) next)

pub walking_all : (has : ℕ → Bool) (start now : Glyphs) (i : ℕ) (base : Base) → i ≡ length start
    → Walking has start now i base → unsafe_inside base.place (i - 1) now ≡ pua_shaped has start
walking_all has start now i base end w =
    let us = characters start in
    let long : length us ≡ length start = search (arith, length-map) in
    let whole = unsafe_inside base.place (i - 1) now in
    let flags = unsafe_all (mark_stretches us) start in
    let rest = blank-unsafe_inside base.place (i - 1) now ∙ ap (unsafe_inside base.place
    (i - 1)) w.same_rest ∙ sym (blank-unsafe_inside base.place (i - 1) w.flags) ∙ ap blank
    (flagging_all start w.flags i base.place (omega arith) w.flagging) in
    search (
      arith,
      rebuilt,
      map-unsafe_inside (λ g. g.glyph_id) (λ g. refl) base.place (i - 1) now
          (walking_base has start now i base (omega arith) w),
      take_all,
      drop_all,
      append-nil,
      map-unsafe_all (λ g. g.glyph_id) (λ g. refl) (mark_stretches us) start (in_order (each_after [] us)),
    )

-- the forms change characters and masks alone
pub without_form-with_characters : (us : List ℕ) (gs : Glyphs) → length us ≡ length gs
    → map without_form (with_characters us gs) ≡ map without_form gs
without_form-with_characters [] [] same = refl
without_form-with_characters (u ∷ us) (g ∷ gs) same = cc (without_form-with_characters us gs (omega arith))
without_form-with_characters _ _ same = absurd (omega arith)

pub without_form-pua : (has : ℕ → Bool) (gs : Glyphs) → map without_form (pua_shaped has gs) ≡ map without_form gs
without_form-pua =
    search (arith, without_form-with_characters, length-forms, length-map, map-unsafe_all, without_flags-or, in_order)

pub forms_hold : FormsLaw
forms_hold has level gs = search (
  arith,
  without_form-pua,
  map-map (λ g. g.cluster) without_form (preprocessed_text true has level gs),
  without_form-pua has (preprocessed_text false has level gs),
  map-map,
)
