-- A letter hides what stands behind it from the places before it, and the other way round.
use Rattle.std.proofs.Common.{◌≡◌, ℕ, zero, suc, ◌+◌, ◌<◌, true, List, [], ◌∷◌, ◌++◌, length, get_or, reverse, refl, arith}
use Rattle.std.specs.Option.{is_some}
use Rattle.std.proofs.lemmas.Bool.{false≢true}
use Rattle.std.proofs.lemmas.List.{get_or-append-add}
use Rattle.shapers_base.specs.declared.plan.joining.hb_arabic_joining_type_t.{hb_arabic_joining_type_t}
use Rattle.shapers_base.specs.declared.plan.joining.hb_arabic_joining_type_t.TheVariants.{T}
use Rattle.shapers_arabic.specs.Edits.{EditsStayNear, is_shielded_behind, is_shielded_before}
use Rattle.shapers_arabic.specs.Joining.{nearest, forms}
use Rattle.shapers_arabic.proofs.JoiningLaws.{nearest-of_front}
use Rattle.shapers_arabic.proofs.JoiningLists.{forms-append, forms-contexts, length-forms}

-- what is nearest behind a front with a letter
same-front : (ts us vs after : List hb_arabic_joining_type_t) → is_some (nearest ts) ≡ true
    → nearest ((ts ++ us) ++ after) ≡ nearest ((ts ++ vs) ++ after)
same-front = search (arith, nearest-of_front)

ahead : (before ts us vs after : List hb_arabic_joining_type_t) (i : ℕ) → i < length ts → is_shielded_behind ts i ≡ true
    → get_or (forms before (ts ++ us) after) i 0 ≡ get_or (forms before (ts ++ vs) after) i 0
ahead before [] us vs after i h e = absurd (omega arith)
ahead before (T ∷ ts) us vs after zero h e = refl
ahead before (t ∷ ts) us vs after zero h e = search (arith, same-front)
ahead before (t ∷ ts) us vs after (suc i) h e = ahead (t ∷ before) ts us vs after i (omega arith) e

edits_stay_behind : (seen others us after : List hb_arabic_joining_type_t) (i : ℕ) → i < length us
    → is_shielded_before us i ≡ true → get_or (forms seen us after) i 0 ≡ get_or (forms others us after) i 0
edits_stay_behind seen others [] after i h e = absurd (omega arith)
edits_stay_behind seen others (T ∷ us) after zero h e = refl
edits_stay_behind seen others (t ∷ us) after zero h e = absurd (false≢true e)
edits_stay_behind seen others (T ∷ us) after (suc i) h e =
    edits_stay_behind (T ∷ seen) (T ∷ others) us after i (omega arith) e
edits_stay_behind seen others (t ∷ us) after (suc i) h e = search (arith, forms-contexts)

-- the forms behind a place
second : (before ts us after : List hb_arabic_joining_type_t) (x : hb_arabic_joining_type_t) (i : ℕ)
    → get_or (forms before (ts ++ x ∷ us) after) (length ts + suc i) 0
    ≡ get_or (forms (x ∷ (reverse ts ++ before)) us after) i 0
second = search (arith, forms-append, length-forms, get_or-append-add)

pub edits-stay_near : EditsStayNear
edits-stay_near = search (arith, ahead, second, edits_stay_behind)
