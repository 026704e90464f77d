-- Which forms the halves of a text lose: the last letter's of the first half, and the first letter's of the second.
use Rattle.std.proofs.Common.{arith}
use Rattle.std.proofs.Common.{◌≡◌, ℕ, Bool, true, false, cond, eqb, not, ◌||◌, List, [], ◌∷◌, ◌++◌, length, reverse, replicate, Option, None, Some, refl, sym, ap, ◌∙◌, append_assoc, inl, inr, ◌⊎◌}
use Rattle.std.proofs.lemmas.Bool.{eqb-true, eq-eqb, not-false, not_from_true}
use Rattle.std.proofs.lemmas.List.{reverse-append}
use Rattle.shapers_base.specs.declared.plan.joining.hb_arabic_joining_type_t.{hb_arabic_joining_type_t}
use Rattle.shapers_base.specs.declared.plan.joining.hb_arabic_joining_type_t.TheVariants.{U, L, R, D, GroupAlaph, T, X}
use Rattle.shapers_arabic.specs.declared.ot_shaper_arabic.arabic_action_t.TheConstants.{ISOL, NONE}
use Rattle.shapers_arabic.specs.Joining.{is_transparent, nearest, joins_back, alaph_after, act, forms}
use Rattle.shapers_arabic.specs.JoiningFlags.{Letter, nearest_letter}
use Rattle.shapers_arabic.proofs.JoiningLists.{forms-contexts, forms-parts}
use Rattle.shapers_arabic.proofs.JoiningWalk.{nearest-reverse}
use Rattle.shapers_arabic.proofs.FlagLists.{letter-transparent, no_letter}
use Rattle.shapers_arabic.specs.SoundFlags.{is_second_or_third, is_taken}
use Rattle.shapers_arabic.proofs.FlaggedPlaces.{changed, first_takes}

-- two numbers are equal where the test says so
same : (a b : ℕ) → not (eqb a b) ≡ false → a ≡ b
same a b e = eqb-true a b (not-false (eqb a b) e)

pub not_apart : (a b : ℕ) → a ≡ b → not (eqb a b) ≡ false
not_apart a b e = not_from_true (eqb a b) (eq-eqb a b e)

-- the last letter of a text
record LastLetter (ts : List hb_arabic_joining_type_t) : Type 0 where
  front : List hb_arabic_joining_type_t
  own : hb_arabic_joining_type_t
  tail : List hb_arabic_joining_type_t
  split : ts ≡ front ++ own ∷ tail
  letter : is_transparent own ≡ false
  rest : nearest tail ≡ None

last_letter : (ts : List hb_arabic_joining_type_t) → (nearest ts ≡ None) ⊎ LastLetter ts
last_letter [] = inl refl
last_letter (T ∷ ts) = elim (last_letter ts) [
  | inl none ↦ inl none
  | inr l ↦ inr
      (record {
        front = T ∷ l.front;
        own = l.own;
        tail = l.tail;
        split = ap (λ us. T ∷ us) l.split;
        letter = l.letter;
        rest = l.rest;
      })
]
last_letter (t ∷ ts) = elim (last_letter ts) [
  | inl none ↦ inr (record { front = []; own = t; tail = ts; split = refl; letter = refl; rest = none })
  | inr l ↦ inr
      (record {
        front = t ∷ l.front;
        own = l.own;
        tail = l.tail;
        split = ap (λ us. t ∷ us) l.split;
        letter = l.letter;
        rest = l.rest;
      })
]

last-seen : (ts : List hb_arabic_joining_type_t) (l : LastLetter ts)
    → nearest_letter (reverse ts) ≡ Some (record { own = l.own; before = reverse l.front })
last-seen ts l = search (
  arith,
  l.split,
  reverse-append,
  reverse-append (l.own ∷ []) l.tail,
  append_assoc,
  letter-transparent (reverse l.tail) (l.own ∷ reverse l.front) (nearest-reverse l.tail l.rest),
)

-- the first half: it keeps its forms without what follows exactly where its last letter does
middle : (xs zs : List ℕ) (a b : ℕ) → xs ++ a ∷ zs ≡ xs ++ b ∷ zs → a ≡ b
middle [] zs a b e = cc
middle (x ∷ xs) zs a b e = middle xs zs a b (cc)

changed-from : (context front : List hb_arabic_joining_type_t) (own : hb_arabic_joining_type_t)
    (o : Option hb_arabic_joining_type_t) → let k : Letter =
    record { own = own; before = reverse front } in changed context (Some k) o ≡ false
    → act (nearest (reverse front ++ context)) own o ≡ act (nearest (reverse front ++ context)) own None
changed-from context front own None e = refl
changed-from context front own (Some t) e = same _ _ e

changed-to : (context front : List hb_arabic_joining_type_t) (own : hb_arabic_joining_type_t)
    (o : Option hb_arabic_joining_type_t) → act (nearest (reverse front ++ context)) own o
    ≡ act (nearest (reverse front ++ context)) own None → let k : Letter =
    record { own = own; before = reverse front } in changed context (Some k) o ≡ false
changed-to context front own None e = refl
changed-to context front own (Some t) e = not_apart _ _ e

no-forms : (context ts after : List hb_arabic_joining_type_t) → nearest ts ≡ None
    → forms context ts after ≡ forms context ts []
no-forms context [] after e = refl
no-forms context (T ∷ ts) after e = cc (no-forms (T ∷ context) ts after e)
no-forms context (t ∷ ts) after e = cc

pub first-keeps : (context ts after : List hb_arabic_joining_type_t)
    → changed context (nearest_letter (reverse ts)) (nearest after) ≡ false → forms context ts after ≡ forms context ts
    []
first-keeps context ts after e = elim (last_letter ts) [
  | inl none ↦ search (arith, no-forms)
  | inr l ↦
      search (
        arith,
        l.split,
        forms-parts,
        changed-from context l.front l.own (nearest after)
            (sym (ap (λ o. changed context o (nearest after)) (last-seen ts l)) ∙ e),
      )
]

pub first-kept : (context ts after : List hb_arabic_joining_type_t) → forms context ts after ≡ forms context ts []
    → changed context (nearest_letter (reverse ts)) (nearest after) ≡ false
first-kept context ts after e = elim (last_letter ts) [
  | inl none ↦ search (arith, no_letter, nearest-reverse)
  | inr l ↦
      cc (
        last-seen ts l,
        changed-to context l.front l.own (nearest after)
            (middle (forms context l.front (l.own ∷ [])) (replicate (length l.tail) NONE) _ _ (sym (ap (λ us. forms
            context us after) l.split ∙ forms-parts context l.front l.own l.tail after l.letter l.rest) ∙ e ∙ (ap (λ
            us. forms context us []) l.split ∙ forms-parts context l.front l.own l.tail [] l.letter l.rest))),
      )
]

-- the second half: whether its first letter has another form without what stands before
abbrev pub lost : Option hb_arabic_joining_type_t → List hb_arabic_joining_type_t → List hb_arabic_joining_type_t → Bool
lost before [] after = false
lost before (t ∷ ts) after =
    cond (is_transparent t) (lost before ts after)
    (not (eqb (act before t (nearest (ts ++ after))) (act None t (nearest (ts ++ after)))))

pub second-keeps : (seen others us after : List hb_arabic_joining_type_t) → nearest others ≡ None
    → lost (nearest seen) us after ≡ false → forms seen us after ≡ forms others us after
second-keeps seen others [] after n e = refl
second-keeps seen others (T ∷ us) after n e = cc (second-keeps (T ∷ seen) (T ∷ others) us after n e)
second-keeps seen others (t ∷ us) after n e = search (arith, same, forms-contexts)

pub second-kept : (seen others us after : List hb_arabic_joining_type_t) → nearest others ≡ None
    → forms seen us after ≡ forms others us after → lost (nearest seen) us after ≡ false
second-kept seen others [] after n e = refl
second-kept seen others (T ∷ us) after n e = second-kept (T ∷ seen) (T ∷ others) us after n (cc)
second-kept seen others (t ∷ us) after n e = search (arith, not_apart)

-- of what follows only whether it joins back matters
abbrev pub act_by : Option hb_arabic_joining_type_t → hb_arabic_joining_type_t → Bool → ℕ
act_by before t true = act before t (Some R)
act_by before t false = act before t None

pub act-by : (before : Option hb_arabic_joining_type_t) (t : hb_arabic_joining_type_t)
    (after : Option hb_arabic_joining_type_t) → act before t after ≡ act_by before t (joins_back after)
act-by before _ = search arith

-- the first letter of the text: the forms that it can take from the context
alaph-takes : (b : Option hb_arabic_joining_type_t) → is_taken (alaph_after b) ≡ not (eqb (alaph_after b) ISOL)
alaph-takes None = refl
alaph-takes (Some U) = refl
alaph-takes (Some _) = refl

first-takes : (b : Option hb_arabic_joining_type_t) (t : hb_arabic_joining_type_t) (joins : Bool)
    → is_taken (act_by b t joins) ≡ not (eqb (act_by b t joins) (act_by None t joins))
first-takes b U true = refl
first-takes b L true = refl
first-takes b T true = refl
first-takes b X true = refl
first-takes b GroupAlaph true = search arith
first-takes b D true = search arith
first-takes b t true = search arith
first-takes b U false = refl
first-takes b L false = refl
first-takes b T false = refl
first-takes b X false = refl
first-takes b GroupAlaph false = alaph-takes b
first-takes b t false = search arith

-- two letters: where the second leaves the form of the first as it is, it takes one from it as FIN2 or FIN3 alone
abbrev change : Option hb_arabic_joining_type_t → hb_arabic_joining_type_t → hb_arabic_joining_type_t → Bool
change b own t = not (eqb (act b own (Some t)) (act b own None))

pair-takes : (b : Option hb_arabic_joining_type_t) (own t : hb_arabic_joining_type_t) (joins : Bool)
    → (change b own t || is_second_or_third (act_by (Some own) t joins))
    ≡ (change b own t || not (eqb (act_by (Some own) t joins) (act_by None t joins)))
pair-takes b own U true = refl
pair-takes b own T true = refl
pair-takes b own X true = refl
pair-takes b own L true = refl
pair-takes b own U false = refl
pair-takes b own T false = refl
pair-takes b own X false = refl
pair-takes b own L false = refl
pair-takes b L t joins = refl
pair-takes b D t joins = search arith
pair-takes b own t true = refl
pair-takes b own t false = refl

-- a letter and what stands before the text behind it
abbrev pub Fits : Option Letter → Option hb_arabic_joining_type_t → Type 0
Fits None before = Unit {0}
Fits (Some k) before = before ≡ Some k.own

pub fits : (context ts : List hb_arabic_joining_type_t) → Fits (nearest_letter ts) (nearest (ts ++ context))
fits context [] = tt
fits context (T ∷ ts) = fits context ts
fits context (t ∷ ts) = refl

-- beside joining's own calls, those of Sound reach the first letter of the second half exactly
-- where it has another form without what stands before
pub takes-lost : (context : List hb_arabic_joining_type_t) (o : Option Letter)
    (before : Option hb_arabic_joining_type_t) (us after : List hb_arabic_joining_type_t) → Fits o before
    → (changed context o (nearest (us ++ after)) || first_takes o before us after)
    ≡ (changed context o (nearest (us ++ after)) || lost before us after)
takes-lost context o before [] after f = refl
takes-lost context o before (T ∷ us) after f = takes-lost context o before us after f
takes-lost context None before (t ∷ us) after f =
    let n = nearest (us ++ after) in search (arith, act-by before t n, first-takes, act-by None t n)
takes-lost context (Some k) before (t ∷ us) after f =
    let n = nearest (us ++ after) in search (arith, act-by (Some k.own) t n, pair-takes, act-by None t n)
