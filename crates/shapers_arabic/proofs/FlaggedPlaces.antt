-- Where joining's own calls, and those of Sound, forbid a break: told by the nearest letters on both sides of a place.
use Rattle.std.proofs.Common.{◌≡◌, ℕ, suc, ◌+◌, ◌<◌, ◌≤◌, Bool, true, false, cond, ltb, ◌&&◌, ◌||◌, List, [], ◌∷◌, ◌++◌, length, reverse, Option, None, Some, refl, ◌∙◌, arith, append_assoc, length-append}
use Rattle.std.proofs.lemmas.Bool.{lt-ltb, le-ltb, and_from, and_left, and_right}
use Rattle.std.proofs.lemmas.List.{append-nil, length-reverse, reverse-append}
use Rattle.std.proofs.lemmas.List.Folds.{list_any-append}
use Rattle.shapers_buffer.specs.GlyphFlags.{UnsafeToConcat, SafeToInsertTatweel}
use Rattle.shapers_base.specs.declared.plan.joining.hb_arabic_joining_type_t.{hb_arabic_joining_type_t}
use Rattle.shapers_base.specs.declared.plan.joining.hb_arabic_joining_type_t.TheVariants.{T}
use Rattle.shapers_arabic.specs.Joining.{is_transparent, nearest, joins_back, act}
use Rattle.shapers_arabic.specs.JoiningFlags.{Letter, nearest_letter, changes_form, can_change, letter_flags, end_flags, flags_along, joining_flags}
use Rattle.shapers_arabic.proofs.FlagLists.{flags_along-append}
use Rattle.shapers_clusters.specs.Breaks.{forbids}
use Rattle.shapers_clusters.proofs.ClearPlaces.{held_by_calls}
use Rattle.shapers_arabic.specs.SoundFlags.{is_second_or_third, is_taken, form_flags, form_flags_along}

pub or_none : (x : Bool) → (x || false) ≡ x
or_none true = refl
or_none false = refl

pub or_with : (x y z : Bool) → x ≡ z → y ≡ false → (x || y) ≡ z
or_with x y z e f = cc (or_none z)

pub inside : (s p e : ℕ) → s < p → p < e → (ltb s p && ltb p e) ≡ true
inside = search (arith, and_from, lt-ltb)

pub past : (s p e : ℕ) → e ≤ p → (ltb s p && ltb p e) ≡ false
past = search (arith, and_right, le-ltb)

pub ahead : (s p e : ℕ) → p ≤ s → (ltb s p && ltb p e) ≡ false
ahead = search (arith, and_left, le-ltb)

pub and_true : (b x : Bool) → x ≡ true → (b && x) ≡ b
and_true true x e = e
and_true false x e = refl

pub and_false : (b x : Bool) → x ≡ false → (b && x) ≡ false
and_false b x e = and_right b x e

-- one pair of letters
one_held : (b c : Bool) (s e p : ℕ)
    → held_by_calls p (cond b (SafeToInsertTatweel s e ∷ []) (cond c (UnsafeToConcat s e ∷ []) []))
    ≡ (b && (ltb s p && ltb p e))
one_held true c s e p = or_none (ltb s p && ltb p e)
one_held false true s e p = refl
one_held false false s e p = refl

-- a letter that stands before place p, or from it on
abbrev pub StandsBefore : Option Letter → ℕ → Type 0
StandsBefore None p = Unit {0}
StandsBefore (Some k) p = length k.before < p

abbrev StandsFrom : Option Letter → ℕ → Type 0
StandsFrom None p = ⊥
StandsFrom (Some k) p = p ≤ length k.before

pub stands-before : (ts : List hb_arabic_joining_type_t) (p : ℕ) → length ts ≤ p → StandsBefore (nearest_letter ts) p
stands-before [] p h = tt
stands-before (T ∷ ts) p h = stands-before ts p (omega arith)
stands-before (t ∷ ts) p h = omega arith

stands-from : (ts passed : List hb_arabic_joining_type_t) (p : ℕ) → p ≤ length passed
    → StandsFrom (nearest_letter passed) p → StandsFrom (nearest_letter (ts ++ passed)) p
stands-from [] passed p h f = f
stands-from (T ∷ ts) passed p h f = stands-from ts passed p h f
stands-from (t ∷ ts) passed p h f = omega (arith, length-append ts passed)

-- the letter's calls at place p
abbrev pub changed : List hb_arabic_joining_type_t → Option Letter → Option hb_arabic_joining_type_t → Bool
changed context None t = false
changed context (Some k) None = false
changed context (Some k) (Some t) = changes_form context k t

letter-past : (context : List hb_arabic_joining_type_t) (o : Option Letter) (t : hb_arabic_joining_type_t) (e p : ℕ)
    → e ≤ p → held_by_calls p (letter_flags context o t e) ≡ false
letter-past context None t e p h = search (arith, one_held)
letter-past context (Some k) t e p h =
    one_held (changes_form context k t) (joins_back (Some t) || can_change context k) (length k.before) e p
    ∙ and_false (changes_form context k t) _ (search (arith, past))

letter-from : (context : List hb_arabic_joining_type_t) (o : Option Letter) (t : hb_arabic_joining_type_t) (e p : ℕ)
    → StandsFrom o p → held_by_calls p (letter_flags context o t e) ≡ false
letter-from context None t e p h = absurd h
letter-from context (Some k) t e p h =
    one_held (changes_form context k t) (joins_back (Some t) || can_change context k) (length k.before) e p
    ∙ and_false (changes_form context k t) _ (search (arith, ahead))

letter-here : (context : List hb_arabic_joining_type_t) (o : Option Letter) (t : hb_arabic_joining_type_t) (e p : ℕ)
    → StandsBefore o p → p < e → held_by_calls p (letter_flags context o t e) ≡ changed context o (Some t)
letter-here context None t e p h i = search (arith, one_held)
letter-here context (Some k) t e p h i =
    one_held (changes_form context k t) (joins_back (Some t) || can_change context k) (length k.before) e p
    ∙ and_true (changes_form context k t) _ (search (arith, inside))

end-from : (context : List hb_arabic_joining_type_t) (o : Option Letter) (t : Option hb_arabic_joining_type_t) (e p : ℕ)
    → StandsFrom o p → held_by_calls p (end_flags context o t e) ≡ false
end-from context None t e p h = absurd h
end-from context (Some k) None e p h = refl
end-from context (Some k) (Some t) e p h =
    one_held (changes_form context k t) (can_change context k) (length k.before) e p
    ∙ and_false (changes_form context k t) _ (search (arith, ahead))

end-here : (context : List hb_arabic_joining_type_t) (o : Option Letter) (t : Option hb_arabic_joining_type_t) (e p : ℕ)
    → StandsBefore o p → p < e → held_by_calls p (end_flags context o t e) ≡ changed context o t
end-here context (Some k) (Some t) e p h i =
    one_held (changes_form context k t) (can_change context k) (length k.before) e p
    ∙ and_true (changes_form context k t) _ (search (arith, inside))
end-here context _ _ e p h i = refl

-- the calls along a text: before place p, behind its next letter, and there
along-past : (context passed ts : List hb_arabic_joining_type_t) (p : ℕ) → length passed + length ts ≤ p
    → held_by_calls p (flags_along context passed ts) ≡ false
along-past context passed [] p h = refl
along-past context passed (T ∷ ts) p h = along-past context (T ∷ passed) ts p (omega arith)
along-past context passed (t ∷ ts) p h =
    let calls = letter_flags context (nearest_letter passed) t (suc (length passed)) in
    list_any-append (forbids p) calls (flags_along context (t ∷ passed) ts)
    ∙ or_with (held_by_calls p calls) (held_by_calls p (flags_along context (t ∷ passed) ts)) false
    (search (arith, letter-past)) (along-past context (t ∷ passed) ts p (omega arith))

along-from : (context passed ts : List hb_arabic_joining_type_t) (p : ℕ) → p ≤ length passed
    → StandsFrom (nearest_letter passed) p → held_by_calls p (flags_along context passed ts) ≡ false
along-from context passed [] p h f = refl
along-from context passed (T ∷ ts) p h f = along-from context (T ∷ passed) ts p (omega arith) f
along-from context passed (t ∷ ts) p h f =
    search (arith, list_any-append, or_with, letter-from, along-from context (t ∷ passed) ts p (omega arith) h)

pub turned : (t : hb_arabic_joining_type_t) (ts passed : List hb_arabic_joining_type_t)
    → reverse (t ∷ ts) ++ passed ≡ reverse ts ++ (t ∷ passed)
turned t ts = search (arith, reverse-append (t ∷ []) ts, append_assoc)

-- with those at the text's end
along-here : (context passed ts after : List hb_arabic_joining_type_t) (e p : ℕ) → p ≤ length passed → p < e
    → StandsBefore (nearest_letter passed) p → (held_by_calls p (flags_along context passed ts)
    || held_by_calls p (end_flags context (nearest_letter (reverse ts ++ passed)) (nearest after) e))
    ≡ changed context (nearest_letter passed) (nearest (ts ++ after))
along-here context passed [] after e p h i b = search (arith, end-here)
along-here context passed (T ∷ ts) after e p h i b =
    search (arith, turned, along-here context (T ∷ passed) ts after e p (omega arith) i b)
along-here context passed (t ∷ ts) after e p h i b =
    let calls = letter_flags context (nearest_letter passed) t (suc (length passed)) in
    let rest = flags_along context (t ∷ passed) ts in
    let here : held_by_calls p (calls ++ rest) ≡ changed context (nearest_letter passed) (Some t) =
    list_any-append (forbids p) calls rest
    ∙ or_with (held_by_calls p calls) (held_by_calls p rest) (changed context (nearest_letter passed) (Some t))
    (search (arith, letter-here)) (along-from context (t ∷ passed) ts p (omega arith) h) in
    let behind : held_by_calls p (end_flags context (nearest_letter
    (reverse (t ∷ ts) ++ passed)) (nearest after) e) ≡ false =
    cc (
      turned t ts passed,
      end-from context (nearest_letter (reverse ts ++ (t ∷ passed))) (nearest after) e p
          (stands-from (reverse ts) (t ∷ passed) p (omega arith) h),
    ) in
    search (arith, or_with)

-- joining's own calls, at the border of two parts of a text
pub joining-held : (context ts us after : List hb_arabic_joining_type_t) → 0 < length us
    → held_by_calls (length ts) (joining_flags context (ts ++ us) after)
    ≡ changed context (nearest_letter (reverse ts)) (nearest (us ++ after))
joining-held context ts us after some =
    let p = length ts in
    let e = length (ts ++ us) in
    let passed = reverse ts in
    search (
      arith,
      list_any-append,
      flags_along-append context [] ts us,
      append-nil passed,
      list_any-append (forbids p) (flags_along context [] ts) (flags_along context passed us),
      along-past context [] ts p (omega arith),
      reverse-append ts us,
      along-here context passed us after e p (omega (arith, length-reverse ts)) (omega (arith, length-append ts us))
          (stands-before passed p (omega (arith, length-reverse ts))),
    )

-- the calls of Sound at a letter in this form
abbrev pub takes : Option Letter → ℕ → Bool
takes None form = is_taken form
takes (Some k) form = is_second_or_third form

form-past : (o : Option Letter) (form e p : ℕ) → e ≤ p → held_by_calls p (form_flags o form e) ≡ false
form-past _ = search arith

form-from : (o : Option Letter) (form e p : ℕ) → StandsFrom o p → held_by_calls p (form_flags o form e) ≡ false
form-from None form e p h = absurd h
form-from (Some k) form e p h = search arith

form-here : (o : Option Letter) (form e p : ℕ) → 0 < p → StandsBefore o p → p < e
    → held_by_calls p (form_flags o form e) ≡ takes o form
form-here _ = search arith

forms-past : (context passed ts after : List hb_arabic_joining_type_t) (p : ℕ) → length passed + length ts ≤ p
    → held_by_calls p (form_flags_along context passed ts after) ≡ false
forms-past context passed [] after p h = refl
forms-past context passed (T ∷ ts) after p h = forms-past context (T ∷ passed) ts after p (omega arith)
forms-past context passed (t ∷ ts) after p h =
    let calls = form_flags (nearest_letter passed)
    (act (nearest (passed ++ context)) t (nearest (ts ++ after))) (suc (length passed)) in
    list_any-append (forbids p) calls (form_flags_along context (t ∷ passed) ts after)
    ∙ or_with (held_by_calls p calls) (held_by_calls p (form_flags_along context (t ∷ passed) ts after)) false
    (search (arith, form-past)) (forms-past context (t ∷ passed) ts after p (omega arith))

forms-from : (context passed ts after : List hb_arabic_joining_type_t) (p : ℕ) → p ≤ length passed
    → StandsFrom (nearest_letter passed) p → held_by_calls p (form_flags_along context passed ts after) ≡ false
forms-from context passed [] after p h f = refl
forms-from context passed (T ∷ ts) after p h f = forms-from context (T ∷ passed) ts after p (omega arith) f
forms-from context passed (t ∷ ts) after p h f =
    search (arith, list_any-append, or_with, form-from, forms-from context (t ∷ passed) ts after p (omega arith) h)

-- whether Sound's calls reach the first letter of a text from the letter before it
abbrev pub first_takes : Option Letter → Option hb_arabic_joining_type_t → List hb_arabic_joining_type_t
    → List hb_arabic_joining_type_t → Bool
first_takes o before [] after = false
first_takes o before (t ∷ ts) after =
    cond (is_transparent t) (first_takes o before ts after) (takes o (act before t (nearest (ts ++ after))))

forms-here : (context passed ts after : List hb_arabic_joining_type_t) (p : ℕ) → 0 < p → p ≤ length passed
    → StandsBefore (nearest_letter passed) p → held_by_calls p (form_flags_along context passed ts after)
    ≡ first_takes (nearest_letter passed) (nearest (passed ++ context)) ts after
forms-here context passed [] after p z h b = refl
forms-here context passed (T ∷ ts) after p z h b = forms-here context (T ∷ passed) ts after p z (omega arith) b
forms-here context passed (t ∷ ts) after p z h b =
    let form = act (nearest (passed ++ context)) t (nearest (ts ++ after)) in
    let calls = form_flags (nearest_letter passed) form (suc (length passed)) in
    list_any-append (forbids p) calls (form_flags_along context (t ∷ passed) ts after)
    ∙ or_with (held_by_calls p calls) (held_by_calls p (form_flags_along context (t ∷ passed) ts after))
    (takes (nearest_letter passed) form)
    (form-here (nearest_letter passed) form (suc (length passed)) p z b (omega arith))
    (forms-from context (t ∷ passed) ts after p (omega arith) h)

forms-append : (context passed xs ys after : List hb_arabic_joining_type_t)
    → form_flags_along context passed (xs ++ ys) after ≡ form_flags_along context passed xs (ys ++ after)
    ++ form_flags_along context (reverse xs ++ passed) ys after
forms-append context passed [] ys after = refl
forms-append context passed (x ∷ xs) ys after =
    search (arith, append_assoc, turned, forms-append context (x ∷ passed) xs ys after)

-- those calls, at the border of two parts of a text
pub forms-held : (context ts us after : List hb_arabic_joining_type_t) → 0 < length ts
    → held_by_calls (length ts) (form_flags_along context [] (ts ++ us) after)
    ≡ first_takes (nearest_letter (reverse ts)) (nearest (reverse ts ++ context)) us after
forms-held context ts us after some =
    let p = length ts in
    let passed = reverse ts in
    search (
      arith,
      forms-append,
      append-nil passed,
      list_any-append,
      forms-past,
      forms-here context passed us after p some (omega (arith, length-reverse ts))
          (stands-before passed p (omega (arith, length-reverse ts))),
    )
