-- The walks that set positions.
use Rattle.std.proofs.Common.{◌≡◌, ℕ, ◌+◌, ◌<◌, ◌≤◌, nat_le, nat_lt, Bool, true, false, cond, not, ◌&&◌, [], ◌∷◌, ◌++◌, map, length, take, drop, find, get_or, set, reverse, Option, None, Some, unwrap_or, if◌then◌else◌, refl, sym, ap, ◌∙◌, arith, append_assoc}
use Rattle.std.specs.List.{enumerate_from}
use Rattle.std.specs.Option.{option_map_or}
use Rattle.std.proofs.lemmas.List.{take_all, drop_all, append-nil, drop_more, get_or_append_left, get_or-take, length-take-le, reverse-append, set_at, take-append-drop, take_more}
use Rattle.shapers_buffer.specs.Glyphs.{Glyph, Glyphs}
use Rattle.shapers_buffer.specs.Glyph.{at_position}
use Rattle.shapers_buffer.specs.Lists.{each_after}
use Rattle.shapers_indic.specs.Glyphs.{has_category, has_position}
use Rattle.shapers_indic_initial.specs.InitialPositions.{bounds, by_base, carries, is_attached, owned_by, position_by_base, with_attached, with_halants, with_owners}
use Rattle.shapers_indic_initial.proofs.Walks.{walked}
use Rattle.shapers_syllabic.specs.Consonants.{is_consonant}

-- by the base: the walk counts
abbrev pub base_step : ℕ → Bool → ℕ → Glyph → ℕ × Glyph
base_step base reph i g = (i + 1, at_position (position_by_base base reph i g.auxiliary) g)

by_base_from : (base : ℕ) (reph : Bool) (i : ℕ) (gs : Glyphs) → walked (base_step base reph) i gs
    ≡ map (λ t. at_position (position_by_base base reph t.0 t.1.auxiliary) t.1) (enumerate_from i gs)
by_base_from base reph i [] = refl
by_base_from base reph i (g ∷ gs) = cc (by_base_from base reph (i + 1) gs)

and_false : (b : Bool) → (b && false) ≡ false
and_false true = refl
and_false false = refl

-- behind the base each glyph keeps its position
walked_behind_base : (base : ℕ) (reph : Bool) (i : ℕ) (gs : Glyphs) → base < i
    → walked (base_step base reph) i gs ≡ gs
walked_behind_base base reph i [] h = refl
walked_behind_base base reph i (g ∷ gs) h = search (arith, walked_behind_base base reph (i + 1) gs (omega arith))

pub based_all : (base : ℕ) (reph : Bool) (i : ℕ) (gs old : Glyphs) → (i < length gs → base < i)
    → take i gs ++ walked (base_step base reph) i (drop i gs) ≡ walked (base_step base reph) 0 old
    → gs ≡ by_base base reph old
based_all base reph i gs old far same =
    (elim (nat_lt i _) as (λ b. nat_lt i (length gs) ≡ b → gs ≡ walked (base_step base reph) 0 old) [
      | true ↦ (λ t.
          sym (take-append-drop i gs) ∙ sym (ap (λ xs. take i gs ++ xs) (walked_behind_base base reph i _ (far (grind
          arith)))) ∙ same)
      | false ↦ (λ t. search (arith, append-nil, take_all, drop_all))
    ]) refl ∙ (by_base_from base reph 0 old)

-- by the nearest glyph before that passes a test: the walk carries its position
abbrev pub nearest_place : (Glyph → Bool) → ℕ → Glyphs → ℕ
nearest_place test d before = option_map_or (λ h. h.auxiliary) (find test (reverse before)) d

abbrev pub carry_step : (Glyph → Bool) → (ℕ → Glyph → Glyph) → ℕ → Glyph → ℕ × Glyph
carry_step test change c g = (cond (test g) g.auxiliary c, change c g)

nearest_next : (test : Glyph → Bool) (d : ℕ) (before : Glyphs) (g : Glyph)
    → cond (test g) g.auxiliary (nearest_place test d before) ≡ nearest_place test d (before ++ g ∷ [])
nearest_next = search (arith, reverse-append)

pub carried_on : (test : Glyph → Bool) (change : ℕ → Glyph → Glyph) (d c : ℕ)
    (before gs : Glyphs) → c ≡ nearest_place test d before → walked (carry_step test change) c gs
    ≡ map (λ t. change (nearest_place test d t.0) t.1) (each_after before gs)
carried_on test change d c before [] e = refl
carried_on test change d c before (g ∷ gs) e =
    cc (carried_on test change d (cond (test g) g.auxiliary c) (before ++ g ∷ []) gs (ap (cond (test g) g.auxiliary) e
    ∙ nearest_next test d before g))

abbrev pub attach_step : ℕ → Glyph → ℕ × Glyph
attach_step = carry_step carries (λ p g. if is_attached g then at_position p g else g)

pub attached_all : (gs : Glyphs) → walked attach_step 0 gs ≡ with_attached gs
attached_all gs = carried_on carries _ 0 0 [] gs refl

abbrev pub halant_step_of : ℕ → Glyph → ℕ × Glyph
halant_step_of =
    carry_step (λ h. not (has_position 2 h))
    (λ p g. if has_category 4 g && has_position 2 g then at_position p g else g)

pub halants_all : (gs : Glyphs) → walked halant_step_of 2 gs ≡ with_halants gs
halants_all gs = carried_on _ _ 2 2 [] gs refl

-- what consonants own, from the right
abbrev pub owner_position : Option Glyph → Option ℕ
owner_position None = None
owner_position (Some h) = if is_consonant h then Some h.auxiliary else None

pub record Owning (i : ℕ) (owner : Option ℕ) (old gs : Glyphs) : Type 0 where
  pub within : i ≤ length old
  pub owned : gs ≡ take i old ++ with_owners (drop i old)
  pub next_owner : owner ≡ owner_position (find bounds (drop i old))

-- the glyph before what is done is still the old one
pub owning_here : (k : ℕ) (owner : Option ℕ) (old gs : Glyphs) (d : Glyph)
    → Owning (k + 1) owner old gs → get_or gs k d ≡ get_or old k d
owning_here k owner old gs d s =
    let long = length-take-le (k + 1) old s.within in search (arith, get_or_append_left, get_or-take)

owned_is : (g : Glyph) (o : Option Glyph)
    → at_position (if nat_le 13 g.auxiliary then g.auxiliary else unwrap_or (owner_position o) g.auxiliary) g
    ≡ (if nat_le 13 g.auxiliary then g else owned_by o g)
owned_is g _ = search arith

pub owning_next : (k p : ℕ) (owner : Option ℕ) (old gs : Glyphs) (d : Glyph)
    → Owning (k + 1) owner old gs → bounds (get_or gs k d) ≡ false
    → p ≡ (if nat_le 13 (get_or gs k d).auxiliary then (get_or gs k d).auxiliary else unwrap_or owner
    (get_or gs k d).auxiliary) → Owning k owner old (set gs k (at_position p (get_or gs k d)))
owning_next k p owner old gs d s unbound is =
    let g = get_or old k d in
    let rest = drop (k + 1) old in
    let inside : k < length old = omega arith in
    search (arith, take_more old k d inside, append_assoc (take k old) (g ∷ []) (with_owners rest), set_at (take k old) g (with_owners rest) (at_position p (get_or gs k d)) k (length-take-le k old (omega arith)), owning_here k owner old gs d s, owned_is g (find bounds rest), drop_more old k d inside)
