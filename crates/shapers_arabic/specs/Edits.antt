-- How far a change of one letter reaches, as far as joining goes.
use Rattle.std.specs.Prelude.{ℕ, suc, ◌≡◌, ◌+◌, ◌<◌, Bool, true, ◌||◌, List, ◌∷◌, ◌++◌, length, take, drop, slice_index, slice_index_or, is_some}
use Rattle.shapers_base.specs.declared.plan.joining.hb_arabic_joining_type_t.{hb_arabic_joining_type_t}
use Rattle.shapers_base.specs.declared.plan.joining.hb_arabic_joining_type_t.TheVariants.{U}
use Rattle.shapers_arabic.specs.Joining.{is_transparent, nearest, forms}

-- whether place i of a text is transparent, or a letter stands between it and the text's end
abbrev pub is_shielded_behind : List hb_arabic_joining_type_t → ℕ → Bool
is_shielded_behind ts i =
    is_transparent (slice_index_or ts i U) || is_some (nearest (drop (suc i) ts))

-- whether place i of a text is transparent, or a letter stands between it and the text's start
abbrev pub is_shielded_before : List hb_arabic_joining_type_t → ℕ → Bool
is_shielded_before us i = is_transparent (slice_index_or us i U) || is_some (nearest (take i us))

-- Where one place changes, between ts and us, only its form and the nearest letters' forms do.
abbrev pub EditsStayNear : Type 0
EditsStayNear = (before ts us after : List hb_arabic_joining_type_t)
    (x y : hb_arabic_joining_type_t) (i : ℕ) →
    (i < length ts → is_shielded_behind ts i ≡ true →
    slice_index (forms before (ts ++ x ∷ us) after) i
    ≡ slice_index (forms before (ts ++ y ∷ us) after) i)
    × (i < length us → is_shielded_before us i ≡ true →
    slice_index (forms before (ts ++ x ∷ us) after) (length ts + suc i)
    ≡ slice_index (forms before (ts ++ y ∷ us) after) (length ts + suc i))
