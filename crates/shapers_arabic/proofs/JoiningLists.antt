-- The joining rule over lists of types: only the nearest types of a context matter, and a text falls into parts.
use Rattle.std.proofs.Common.{arith}
use Rattle.std.proofs.Common.{◌≡◌, ℕ, suc, false, cond, List, [], ◌∷◌, ◌++◌, length, reverse, replicate, Option, None, Some, refl, ap, append_assoc}
use Rattle.std.proofs.lemmas.List.{reverse-append}
use Rattle.shapers_base.specs.declared.plan.joining.hb_arabic_joining_type_t.{hb_arabic_joining_type_t}
use Rattle.shapers_base.specs.declared.plan.joining.hb_arabic_joining_type_t.TheVariants.{T}
use Rattle.shapers_arabic.specs.declared.ot_shaper_arabic.arabic_action_t.TheConstants.{NONE}
use Rattle.shapers_arabic.specs.Joining.{is_transparent, nearest, act, forms}

-- what is nearest behind a front depends on the rest through its own nearest alone
pub nearest-behind : (ts us vs : List hb_arabic_joining_type_t) → nearest us ≡ nearest vs
    → nearest (ts ++ us) ≡ nearest (ts ++ vs)
nearest-behind [] us vs e = e
nearest-behind (t ∷ ts) us vs e = cc (nearest-behind ts us vs e)

-- a text whose nearest is none is transparent throughout
pub transparent : (t : hb_arabic_joining_type_t) (ts : List hb_arabic_joining_type_t) → nearest (t ∷ ts) ≡ None
    → (t ≡ T) × (nearest ts ≡ None)
transparent T ts e = (refl, e)
transparent _ ts e = cc

pub nearest-transparent : (ts us : List hb_arabic_joining_type_t) → nearest ts ≡ None → nearest (ts ++ us) ≡ nearest us
nearest-transparent [] us e = refl
nearest-transparent (t ∷ ts) us e = let (first, rest) = transparent t ts e in cc (nearest-transparent ts us rest)

-- the forms depend on the contexts through their nearest types alone
pub forms-contexts : (before others ts after behind : List hb_arabic_joining_type_t) → nearest before ≡ nearest others
    → nearest after ≡ nearest behind → forms before ts after ≡ forms others ts behind
forms-contexts before others [] after behind b a = refl
forms-contexts before others (t ∷ ts) after behind b a = search (
  arith,
  nearest-behind,
  forms-contexts (t ∷ before) (t ∷ others) ts after behind (ap (λ o. cond (is_transparent t) o (Some t)) b) a,
)

pub length-forms : (before ts after : List hb_arabic_joining_type_t) → length (forms before ts after) ≡ length ts
length-forms before [] after = refl
length-forms before (t ∷ ts) after = ap suc (length-forms (t ∷ before) ts after)

-- a text in two parts: each part is the other's context
pub forms-append : (before xs ys after : List hb_arabic_joining_type_t) → forms before (xs ++ ys) after
    ≡ forms before xs (ys ++ after) ++ forms (reverse xs ++ before) ys after
forms-append before [] ys after = refl
forms-append before (x ∷ xs) ys after = search (
  arith,
  append_assoc xs ys after,
  forms-append (x ∷ before) xs ys after,
  reverse-append (x ∷ []) xs,
  append_assoc,
)

-- transparent places have no form
pub forms-transparent : (before ts after : List hb_arabic_joining_type_t) → nearest ts ≡ None
    → forms before ts after ≡ replicate (length ts) NONE
forms-transparent before [] after e = refl
forms-transparent before (t ∷ ts) after e =
    let (first, rest) = transparent t ts e in cc (forms-transparent (t ∷ before) ts after rest)

-- a text up to its last letter, that letter, and what is transparent behind it: only the letter's
-- form depends on what follows
abbrev pub forms_in_parts : List hb_arabic_joining_type_t → List hb_arabic_joining_type_t → hb_arabic_joining_type_t
    → List hb_arabic_joining_type_t → Option hb_arabic_joining_type_t → List ℕ
forms_in_parts before front own tail after =
    forms before front (own ∷ []) ++ act (nearest (reverse front ++ before)) own after ∷ replicate (length tail) NONE

pub forms-parts : (before front : List hb_arabic_joining_type_t) (own : hb_arabic_joining_type_t)
    (tail after : List hb_arabic_joining_type_t) → is_transparent own ≡ false → nearest tail ≡ None
    → forms before (front ++ own ∷ tail) after ≡ forms_in_parts before front own tail (nearest after)
forms-parts = search (arith, forms-append, forms-contexts, nearest-transparent, forms-transparent)
