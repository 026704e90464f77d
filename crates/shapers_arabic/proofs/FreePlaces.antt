-- Free places by forms: where the first half keeps its forms no call of joining forbids a break,
-- and where both do, none of Sound.
use Rattle.std.proofs.Common.{◌≡◌, ℕ, ◌<◌, true, cond, List, [], ◌++◌, length, take, drop, reverse, Option, refl, sym, ap, ◌∙◌, subst, arith, append_assoc}
use Rattle.std.specs.List.{zip}
use Rattle.std.proofs.lemmas.List.{length-take-le, take-append-drop, length-drop}
use Rattle.std.proofs.lemmas.List.Folds.{list_any-append}
use Rattle.shapers_buffer.specs.declared.buffer.tag.Script.{Script}
use Rattle.shapers_base.specs.declared.plan.breaks.BreakFlags.TheVariants.{Sound}
use Rattle.shapers_clusters.specs.Breaks.{forbids, IsFree}
use Rattle.shapers_arabic.specs.Breaks.{sound_flags}
use Rattle.shapers_arabic.specs.Fresh.{SelectorsAreTransparent}
use Rattle.shapers_arabic.specs.Joining.{forms, selected}
use Rattle.shapers_arabic.specs.JoiningFlags.{joining_flags}
use Rattle.shapers_arabic.specs.JoinedText.{Text, is_mongolian, flag_calls, forms_of, first_half, second_half}
use Rattle.shapers_arabic.specs.SoundFlags.{form_flags_along, selector_flags}
use Rattle.shapers_arabic.proofs.BreakLists.{as-code, exact}
use Rattle.shapers_arabic.proofs.JoiningLaws.{holds-cut}
use Rattle.shapers_arabic.proofs.JoiningLists.{forms-append}
use Rattle.shapers_arabic.proofs.OwnForms.{Silent, silent-halves, first-own, halves-own}

-- the types of a text in two halves
types-at : (n : ℕ) (text : Text) → n < length text.types → length (take n text.types) ≡ n
types-at = search (arith, length-take-le)

-- the forms of the first half where it sees what follows
seen-front : (script : Option Script) (text : Text) (n : ℕ) → length text.characters ≡ length text.types
    → n < length text.types → take n (forms_of script text)
    ≡ forms_of script (first_half n (drop n text.types ++ text.after) text)
seen-front script text n same within =
    (holds-cut script text same n (drop n text.types ++ text.after) (reverse (take n text.types) ++ text.before)
    (omega arith) (record { onward = refl; backward = refl })).first

-- where no call of joining forbids a break the first half keeps its forms
pub first-free : (script : Option Script) (text : Text) (n : ℕ) → length text.characters ≡ length text.types
    → n < length text.types → IsFree (joining_flags text.before text.types text.after) n → take n (forms_of script text)
    ≡ forms_of script (first_half n [] text)
first-free script text n same within free =
    let ts = take n text.types in
    let kept = (as-code text.before ts (drop n text.types) text.after (omega (arith, length-drop n text.types))).0
    (subst
    (λ xs. IsFree (joining_flags text.before xs text.after) (length ts)) (sym (take-append-drop n text.types)) (subst
    (λ m. IsFree (joining_flags text.before text.types text.after) m) (sym (types-at n text within)) free)) in
    search (arith, seen-front)

-- and the other way round, where selectors are transparent
pub free-first : (script : Option Script) (text : Text) (n : ℕ) → length text.characters ≡ length text.types
    → n < length text.types → SelectorsAreTransparent script text → take n (forms_of script text)
    ≡ forms_of script (first_half n [] text) → IsFree (joining_flags text.before text.types text.after) n
free-first script text n same within silent kept =
    let ts = take n text.types in
    let us = drop n text.types in
    let cs = take n text.characters in
    let long : length ts ≡ length cs = search (arith, length-take-le) in
    let front : is_mongolian script ≡ true → Silent cs ts =
    λ e. (silent-halves cs (drop n text.characters) ts us long
    (subst (λ xs. Silent xs (ts ++ us)) (sym (take-append-drop n text.characters))
    (subst (Silent text.characters) (sym (take-append-drop n text.types)) (silent e)))).0 in
    subst (λ m. IsFree (joining_flags text.before text.types text.after) m) (types-at n text within)
    (subst (λ xs. IsFree (joining_flags text.before xs text.after) (length ts)) (take-append-drop n text.types)
    ((as-code text.before ts us text.after (omega (arith, length-drop n text.types))).1
    (first-own (is_mongolian script) cs text.before ts (us ++ text.after) [] long front (search (arith, seen-front)))))

-- where both halves keep their forms no call of Sound forbids a break, with transparent selectors
pub free-halves : (script : Option Script) (text : Text) (n : ℕ) → length text.characters ≡ length text.types → 0 < n
    → n < length text.types → SelectorsAreTransparent script text
    → forms_of script text ≡ forms_of script (first_half n [] text) ++ forms_of script (second_half n [] text)
    → IsFree (flag_calls Sound script text) n
free-halves script text n same pos within silent kept =
    let b = is_mongolian script in
    let ts = take n text.types in
    let us = drop n text.types in
    let cs = take n text.characters in
    let ds = drop n text.characters in
    let rule = forms text.before text.types text.after in
    let gs = forms (reverse ts ++ text.before) us text.after in
    let at = types-at n text within in
    let c_at = length-take-le n text.characters (omega arith) in
    let chars = take-append-drop n text.characters in
    let types = take-append-drop n text.types in
    let by_rule : rule ≡ (forms text.before ts (us ++ text.after)) ++ gs =
    ap (λ xs. forms text.before xs text.after) (sym types) ∙ forms-append text.before ts us text.after in
    let W : List ℕ → List ℕ → List ℕ = λ xs ys. cond b (selected [] (zip xs ys)) ys in
    let own = halves-own b cs ds text.before ts us text.after (us ++ text.after) (reverse ts ++ text.before) (omega
    arith) (at ∙ sym c_at) (omega (arith, length-drop n text.types, length-drop n text.characters))
    (λ e. subst (λ xs. Silent xs (ts ++ us)) (sym chars) (subst (Silent text.characters) (sym types) (silent e))) (ap
    (W (cs ++ ds)) (sym by_rule) ∙ ap (λ xs. W xs rule) chars ∙ kept) in
    let first = sound_flags text.before text.types text.after in
    let free_first = subst (λ m. IsFree first m) at (subst
    (λ xs. IsFree (sound_flags text.before xs text.after) (length ts)) types ((exact text.before ts us text.after (omega arith)
    (omega (arith, length-drop n text.types))).1
    (forms-append text.before ts us text.after ∙ ap (λ xs. xs ++ gs) own.first
    ∙ ap (λ xs. forms text.before ts [] ++ xs) own.second))) in
    let rest = cond b (selector_flags [] (zip text.characters rule)) [] in
    cc (
      append_assoc (joining_flags text.before text.types text.after)
          (form_flags_along text.before [] text.types text.after) rest,
      list_any-append (forbids n) first rest,
    )
