-- The flags of joining over lists of types: a text falls into parts, and each call's stretch is in order.
use Rattle.std.proofs.Common.{◌≡◌, ℕ, suc, ◌≤◌, Bool, true, false, cond, List, [], ◌∷◌, ◌++◌, length, reverse, Option, None, Some, refl, arith, append_assoc}
use Rattle.std.specs.List.{AllByRecursion}
use Rattle.std.proofs.lemmas.List.{append-nil, length-reverse, reverse-append}
use Rattle.shapers_buffer.specs.GlyphFlags.{UnsafeToConcat, SafeToInsertTatweel}
use Rattle.shapers_buffer.proofs.MappedLists.{all-append}
use Rattle.shapers_clusters.specs.Flags.{InOrder}
use Rattle.shapers_base.specs.declared.plan.joining.hb_arabic_joining_type_t.{hb_arabic_joining_type_t}
use Rattle.shapers_arabic.specs.Joining.{is_transparent, nearest}
use Rattle.shapers_arabic.specs.JoiningFlags.{Letter, nearest_letter, letter_flags, end_flags, flags_along, joining_flags}
use Rattle.shapers_arabic.proofs.JoiningLists.{transparent}

-- behind transparent types the nearest letter is that of the rest
pub letter-transparent : (ts us : List hb_arabic_joining_type_t) → nearest ts ≡ None
    → nearest_letter (ts ++ us) ≡ nearest_letter us
letter-transparent [] us e = refl
letter-transparent (t ∷ ts) us e = let (first, rest) = transparent t ts e in cc (letter-transparent ts us rest)

pub no_letter : (ts : List hb_arabic_joining_type_t) → nearest ts ≡ None → nearest_letter ts ≡ None
no_letter ts e = cc (append-nil ts, letter-transparent ts [] e)

-- a text in two parts
pub flags_along-append : (context passed xs ys : List hb_arabic_joining_type_t) → flags_along context passed (xs ++ ys)
    ≡ flags_along context passed xs ++ flags_along context (reverse xs ++ passed) ys
flags_along-append context passed [] ys = refl
flags_along-append context passed (x ∷ xs) ys =
    search (arith, flags_along-append context (x ∷ passed) xs ys, reverse-append (x ∷ []) xs, append_assoc)

-- one more place: a transparent one flags nothing, a letter with the nearest one before it
pub flags-letter : (context ts : List hb_arabic_joining_type_t) (t : hb_arabic_joining_type_t) (end : ℕ)
    → is_transparent t ≡ false → end ≡ suc (length ts) → flags_along context [] (ts ++ t ∷ []) ≡ flags_along context
    [] ts ++ letter_flags context (nearest_letter (reverse ts)) t end
flags-letter = search (arith, flags_along-append, append-nil, length-reverse)

-- each call's stretch begins before it ends
abbrev Before : Option Letter → ℕ → Type 0
Before None n = Unit {0}
Before (Some k) n = length k.before ≤ n

letter-before : (ts : List hb_arabic_joining_type_t) (n : ℕ) → length ts ≤ n → Before (nearest_letter ts) n
letter-before [] n h = tt
letter-before (t ∷ ts) n h =
    let shorter : length ts ≤ n = omega arith in
    elim (is_transparent t) as (λ b. Before (cond b (nearest_letter ts) (Some (record { own = t; before = ts }))) n)
    [ true ↦ letter-before ts n shorter | false ↦ shorter ]

one_or-in_order : (b c : Bool) (s e : ℕ) → s ≤ e
    → AllByRecursion InOrder (cond b (SafeToInsertTatweel s e ∷ []) (cond c (UnsafeToConcat s e ∷ []) []))
one_or-in_order false false s e h = tt
one_or-in_order _ _ s e h = (h, tt)

letter-in_order : (context : List hb_arabic_joining_type_t) (k : Option Letter) (t : hb_arabic_joining_type_t) (end : ℕ)
    → Before k end → AllByRecursion InOrder (letter_flags context k t end)
letter-in_order context _ = search (arith, one_or-in_order)

end-in_order : (context : List hb_arabic_joining_type_t) (k : Option Letter) (o : Option hb_arabic_joining_type_t)
    (end : ℕ) → Before k end → AllByRecursion InOrder (end_flags context k o end)
end-in_order context (Some k) (Some t) end h = search (arith, one_or-in_order)
end-in_order context _ _ end h = tt

along-in_order : (context passed ts : List hb_arabic_joining_type_t)
    → AllByRecursion InOrder (flags_along context passed ts)
along-in_order context passed [] = tt
along-in_order context passed (t ∷ ts) =
    let end = suc (length passed) in
    let calls = letter_flags context (nearest_letter passed) t end in
    let here : AllByRecursion InOrder (cond (is_transparent t) [] calls) =
    elim (is_transparent t) as (λ b. AllByRecursion InOrder (cond b [] calls)) [
      | true ↦ tt
      | false ↦ letter-in_order context (nearest_letter passed) t end (letter-before passed end (omega arith))
    ] in
    search (arith, all-append, along-in_order context (t ∷ passed) ts)

pub joining-in_order : (context types after : List hb_arabic_joining_type_t)
    → AllByRecursion InOrder (joining_flags context types after)
joining-in_order context types after =
    all-append InOrder (flags_along context [] types)
    (end_flags context (nearest_letter (reverse types)) (nearest after) (length types)) (along-in_order context
    [] types) (end-in_order context (nearest_letter (reverse types)) (nearest after) (length types)
    (letter-before (reverse types) (length types) (omega (arith, length-reverse types))))
