-- Where no selector has a form by the joining rule, the forms that selectors copy tell those of the rule.
use Rattle.std.proofs.Common.{◌≡◌, ℕ, ◌<◌, Bool, true, false, cond, List, [], ◌∷◌, ◌++◌, length, drop, reverse, refl, sym, ap, ◌∙◌, arith}
use Rattle.std.specs.List.{AllByRecursion, zip}
use Rattle.std.proofs.lemmas.List.{take_at, drop_at}
use Rattle.std.proofs.lemmas.Slice.Zip.{length-zip}
use Rattle.shapers_base.specs.declared.plan.joining.hb_arabic_joining_type_t.{hb_arabic_joining_type_t}
use Rattle.shapers_clusters.proofs.ClearPlaces.{held_by_calls}
use Rattle.shapers_arabic.specs.declared.ot_shaper_arabic.arabic_action_t.TheConstants.{NONE}
use Rattle.shapers_arabic.specs.Joining.{is_transparent, forms, is_selector, selected}
use Rattle.shapers_arabic.specs.SoundFlags.{selector_flags}
use Rattle.shapers_arabic.proofs.JoiningLists.{length-forms}
use Rattle.shapers_arabic.proofs.SelectedLists.{length-selected, selected-append, zip-append}
use Rattle.shapers_arabic.proofs.Selectors.{selectors-free}

-- each selector of these characters has a transparent type
abbrev pub Silent : List ℕ → List hb_arabic_joining_type_t → Type 0
Silent cs ts = AllByRecursion (λ p. is_selector p.0 ≡ true → is_transparent p.1 ≡ true) (zip cs ts)

pub silent-halves : (cs ds : List ℕ) (ts us : List hb_arabic_joining_type_t) → length ts ≡ length cs
    → Silent (cs ++ ds) (ts ++ us) → Silent cs ts × Silent ds us
silent-halves [] ds [] us e all = (tt, all)
silent-halves (c ∷ cs) ds (t ∷ ts) us e all = let rest =
    silent-halves cs ds ts us (omega arith) all.1 in ((all.0, rest.0), rest.1)
silent-halves _ ds _ us e all = absurd (omega arith)

-- each selector of these characters has no form
Formless : List ℕ → List ℕ → Type 0
Formless [] fs = Unit {0}
Formless (c ∷ cs) [] = Unit {0}
Formless (c ∷ cs) (f ∷ fs) = (is_selector c ≡ true → f ≡ NONE) × Formless cs fs

formless : (cs : List ℕ) (before ts after : List hb_arabic_joining_type_t) → Silent cs ts
    → Formless cs (forms before ts after)
unfolding Formless
formless (c ∷ cs) before (t ∷ ts) after all = search (arith, formless cs (t ∷ before) ts after all.1)
formless _ before _ after all = tt

-- so equal copies come from equal forms, whatever stood before
copied-own : (before others : List (ℕ × ℕ)) (cs fs hs : List ℕ) → length fs ≡ length cs → length hs ≡ length cs
    → Formless cs fs → Formless cs hs → selected before (zip cs fs) ≡ selected others (zip cs hs) → fs ≡ hs
unfolding Formless
copied-own before others [] [] [] l m p q e = refl
copied-own before others (c ∷ cs) (f ∷ fs) (h ∷ hs) l m p q e = search (
  arith,
  copied-own ((c, f) ∷ before) ((c, h) ∷ others) cs fs hs (omega arith) (omega arith) p.1 q.1 (ap (drop 1) e),
)
copied-own before others _ _ _ l m p q e = absurd (omega arith)

-- two lists in parts of equal lengths
pub equal-parts : (xs ys us vs : List ℕ) → length xs ≡ length us → xs ++ ys ≡ us ++ vs → (xs ≡ us) × (ys ≡ vs)
equal-parts xs ys us vs long = search (
  arith,
  take_at,
  take_at us vs (length us) refl,
  drop_at xs ys (length us) long,
  drop_at us vs (length us) refl,
)

-- the first half of a text, with the script Mongolian or another one
pub first-own : (b : Bool) (cs : List ℕ) (before ts after behind : List hb_arabic_joining_type_t)
    → length ts ≡ length cs → (b ≡ true → Silent cs ts) → let fs = forms before ts after in let hs =
    forms before ts behind in cond b (selected [] (zip cs fs)) fs ≡ cond b (selected [] (zip cs hs)) hs → fs ≡ hs
first-own false cs before ts after behind long silent e = e
first-own true cs before ts after behind long silent e = search (arith, copied-own, length-forms, formless)

-- both halves: the forms by the rule are those of the halves, and no selector that opens the second
-- copies a form but its own
pub record OwnForms (b : Bool) (cs ds fs gs hs ks : List ℕ) : Type 0 where
  pub first : fs ≡ hs
  pub second : gs ≡ ks
  pub free : held_by_calls (length cs) (cond b (selector_flags [] (zip (cs ++ ds) (fs ++ gs))) []) ≡ false

pub halves-own : (b : Bool) (cs ds : List ℕ) (before ts us after behind inner : List hb_arabic_joining_type_t)
    → 0 < length cs → length ts ≡ length cs → length us ≡ length ds → (b ≡ true → Silent (cs ++ ds) (ts ++ us))
    → let fs = forms before ts behind in let gs = forms inner us after in let hs = forms before ts [] in let ks =
    forms [] us after in cond b (selected [] (zip (cs ++ ds) (fs ++ gs))) (fs ++ gs)
    ≡ cond b (selected [] (zip cs hs)) hs ++ cond b (selected [] (zip ds ks)) ks → OwnForms b cs ds fs gs hs ks
halves-own false cs ds before ts us after behind inner some long more silent e =
    let parts = equal-parts (forms before ts behind) (forms inner us after) (forms before ts []) (forms [] us after)
    (length-forms before ts behind ∙ sym (length-forms before ts [])) e in
    search (arith, parts.0, parts.1)
halves-own true cs ds before ts us after behind inner some long more silent e =
    let fs = forms before ts behind in
    let gs = forms inner us after in
    let hs = forms before ts [] in
    let ks = forms [] us after in
    let f_long : length fs ≡ length cs = search (arith, length-forms) in
    let h_long = length-forms before ts [] ∙ long in
    let both = silent-halves cs ds ts us long (silent refl) in
    let seen = reverse (zip cs fs) ++ [] in
    let zipped = zip-append cs ds fs gs f_long in
    let parts = equal-parts (selected [] (zip cs fs)) (selected seen (zip ds gs)) (selected [] (zip cs hs)) (selected
    [] (zip ds ks))
    (length-selected [] (zip cs fs) ∙ omega (arith, length-zip) ∙ sym (length-selected [] (zip cs hs))) (sym
    (selected-append [] (zip cs fs) (zip ds gs)) ∙ ap (selected []) (sym zipped) ∙ e) in
    let two = copied-own seen [] ds gs ks (search (arith, length-forms))
    (length-forms [] us after ∙ more) (formless ds inner us after both.1) (formless ds [] us after both.1) parts.1 in
    let at : length (zip cs fs) ≡ length cs = omega (arith, length-zip cs fs) in
    record {
      first =
          copied-own [] [] cs fs hs f_long h_long (formless cs before ts behind both.0) (formless cs before ts [] both.0)
          parts.0;
      second = two;
      free =
          ap (λ ps. held_by_calls (length cs) (selector_flags [] ps)) zipped
          ∙ ap (λ n. held_by_calls n (selector_flags [] (zip cs fs ++ zip ds gs))) (sym at)
          ∙ selectors-free (zip cs fs) (zip ds gs) (omega arith) (parts.1
          ∙ ap (λ xs. selected [] (zip ds xs)) (sym two));
    }
