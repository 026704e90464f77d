-- Texts that are open at their borders may be put together: no letter that stands first behind such
-- a border joins back.
use Rattle.std.proofs.Common.{◌≡◌, ℕ, ◌<◌, ◌≤◌, Bool, true, false, cond, ◌||◌, List, [], ◌∷◌, ◌++◌, length, reverse, Option, None, Some, refl, sym, ap, ◌∙◌, arith}
use Rattle.std.specs.List.{list_any}
use Rattle.std.proofs.lemmas.Bool.{or_parts, or_from, or_left, false≢true}
use Rattle.std.proofs.lemmas.List.{append-nil, length-reverse}
use Rattle.std.proofs.lemmas.List.Folds.{list_any-append}
use Rattle.shapers_buffer.specs.GlyphFlags.{FlagCall, UnsafeToConcat, SafeToInsertTatweel}
use Rattle.shapers_base.specs.declared.plan.joining.hb_arabic_joining_type_t.{hb_arabic_joining_type_t}
use Rattle.shapers_base.specs.declared.plan.joining.hb_arabic_joining_type_t.TheVariants.{U, L, T, X}
use Rattle.shapers_arabic.specs.Joining.{nearest, joins_back, act, forms}
use Rattle.shapers_arabic.specs.JoiningFlags.{Letter, nearest_letter, changes_form, can_change, letter_flags, end_flags, flags_along, joining_flags}
use Rattle.shapers_arabic.proofs.FlagLists.{flags_along-append}
use Rattle.shapers_arabic.proofs.JoiningLists.{forms-append}
use Rattle.shapers_clusters.specs.Breaks.{IsFree}
use Rattle.shapers_clusters.specs.Borders.{forbids_border, IsOpen}
use Rattle.shapers_arabic.specs.Concatenation.{ConcatenationLaw}
use Rattle.shapers_arabic.proofs.FlaggedPlaces.{StandsBefore, stands-before, changed}
use Rattle.shapers_arabic.proofs.LostForms.{lost, first-keeps, second-keeps, not_apart}
use Rattle.shapers_arabic.proofs.BreakLists.{as-code}

open-free : (calls : List FlagCall) (p : ℕ) → IsOpen calls p → IsFree calls p
open-free [] p f = refl
open-free (call ∷ calls) p f = search (
  arith,
  or_from,
  open-free calls p (or_parts (forbids_border p call) (list_any (forbids_border p) calls) f).1,
)

-- whether the first letter joins back
first_letter_joins : List hb_arabic_joining_type_t → Bool
first_letter_joins [] = false
first_letter_joins (T ∷ ts) = first_letter_joins ts
first_letter_joins (t ∷ ts) = joins_back (Some t)

pair-joined : (b c : Bool) (s e p : ℕ) → s < p → p < e
    → list_any (forbids_border p) (cond b (SafeToInsertTatweel s e ∷ []) (cond (true || c) (UnsafeToConcat s e ∷ [])
    [])) ≡ true
pair-joined _ = search arith

letter-joined : (context : List hb_arabic_joining_type_t) (o : Option Letter) (t : hb_arabic_joining_type_t) (e p : ℕ)
    → joins_back (Some t) ≡ true → StandsBefore o p → p < e → list_any (forbids_border p) (letter_flags context o t e)
    ≡ true
letter-joined context None t e p j h i = search arith
letter-joined context (Some k) t e p j h i =
    cc (pair-joined (changes_form context k t) (can_change context k) (length k.before) e p h i)

along-joined : (context passed ts : List hb_arabic_joining_type_t) (p : ℕ) → p ≤ length passed
    → StandsBefore (nearest_letter passed) p → first_letter_joins ts ≡ true
    → list_any (forbids_border p) (flags_along context passed ts) ≡ true
unfolding first_letter_joins
along-joined context passed [] p h b j = absurd (false≢true j)
along-joined context passed (T ∷ ts) p h b j = along-joined context (T ∷ passed) ts p (omega arith) b j
along-joined context passed (t ∷ ts) p h b j = search (arith, list_any-append, or_left, letter-joined)

open-stands : (context cs ds after : List hb_arabic_joining_type_t)
    → IsOpen (joining_flags context (cs ++ ds) after) (length cs) → first_letter_joins ds ≡ false
open-stands context cs ds after f =
    let p = length cs in
    let passed = reverse cs in
    let all = flags_along context [] (cs ++ ds) in
    let end = end_flags context (nearest_letter (reverse (cs ++ ds))) (nearest after) (length (cs ++ ds)) in
    let first = flags_along context [] cs in
    let rest = (or_parts (list_any (forbids_border p) first)
    (list_any (forbids_border p) (flags_along context passed ds)) (sym
    (ap (list_any (forbids_border p)) (search (arith, flags_along-append, append-nil)) ∙ list_any-append
    (forbids_border p) first (flags_along context passed ds))
    ∙ (or_parts (list_any (forbids_border p) all) (list_any (forbids_border p) end) (sym (list_any-append
    (forbids_border p) all end) ∙ f)).0)).1 in
    search (arith, along-joined, length-reverse, stands-before)

-- such a letter changes none before it, and takes no form from what stands before
stands-alone : (context ds behind : List hb_arabic_joining_type_t) (o : Option Letter) → first_letter_joins ds ≡ false
    → (nearest ds ≡ None → nearest behind ≡ None) → changed context o (nearest (ds ++ behind)) ≡ false
unfolding first_letter_joins
stands-alone context [] behind (Some k) f n = cc (n refl)
stands-alone context (T ∷ ds) behind o f n = stands-alone context ds behind o f n
stands-alone context (t ∷ ds) behind (Some k) f n = search arith
stands-alone context _ behind None f n = refl

same-form : (before after : Option hb_arabic_joining_type_t) (t : hb_arabic_joining_type_t)
    → joins_back (Some t) ≡ false → act before t after ≡ act None t after
same-form before after U f = refl
same-form before after L f = refl
same-form before after T f = refl
same-form before after X f = refl
same-form before after t f = absurd (false≢true (sym f))

loses-none : (before : Option hb_arabic_joining_type_t) (ds behind : List hb_arabic_joining_type_t)
    → first_letter_joins ds ≡ false → lost before ds behind ≡ false
unfolding first_letter_joins
loses-none before [] behind f = refl
loses-none before (T ∷ ds) behind f = loses-none before ds behind f
loses-none before (t ∷ ds) behind f = search (arith, not_apart, same-form)

-- of the first text only a break matters
pub concatenation-free : (before ts us after front cs ds behind : List hb_arabic_joining_type_t) → 0 < length us
    → IsFree (joining_flags before (ts ++ us) after) (length ts)
    → IsOpen (joining_flags front (cs ++ ds) behind) (length cs) → (nearest ds ≡ None → nearest behind ≡ None)
    → forms before (ts ++ ds) behind ≡ forms before ts (us ++ after) ++ forms (reverse cs ++ front) ds behind
concatenation-free before ts us after front cs ds behind some a c n =
    let stands = open-stands front cs ds behind c in
    forms-append before ts ds behind ∙ ap (λ fs. fs ++ forms (reverse ts ++ before) ds behind)
    (first-keeps before ts (ds ++ behind) (search (arith, stands-alone)) ∙ sym ((as-code before ts us after some).0
    a)) ∙ ap (λ fs. forms before ts (us ++ after) ++ fs)
    (second-keeps (reverse ts ++ before) [] ds behind refl (search (arith, loses-none)) ∙ sym (second-keeps (reverse
    cs ++ front) [] ds behind refl (search (arith, loses-none))))

pub concatenation : ConcatenationLaw
concatenation = search (arith, concatenation-free, open-free)
