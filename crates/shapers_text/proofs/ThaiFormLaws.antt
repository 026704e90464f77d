-- The forms, one more character at the end.
use Rattle.std.proofs.Common.{◌≡◌, ◌⊎◌, inl, inr, ℕ, suc, ◌-◌, ◌+◌, ◌==◌, Bool, true, false, cond, not, ◌||◌, ◌&&◌, List, [], ◌∷◌, ◌++◌, length, get_or, set, refl, sym, ap, ◌∙◌, subst, arith, length-append}
use Rattle.std.specs.List.{list_any, count_by, suffix_len}
use Rattle.std.proofs.lemmas.Bool.{or_parts, eqb-true, not-false, not-true, and_right}
use Rattle.std.proofs.lemmas.List.{append_assoc, append-nil, get_or_at, set_at, reverse-append, length_push}
use Rattle.std.proofs.lemmas.List.Folds.{list_any-append}
use Rattle.std.proofs.lemmas.List.Sums.{take_while-cons}
use Rattle.shapers_buffer.proofs.ListLaws.{last_pass, none_from_count, count_from_none, none_before_push, from_end, suffix_len_yes, suffix_len_no, suffix_len_stop, before_last_run_yes, before_last_run_no, last_run_yes, last_run_no, count_push, last_run_stop, before_last_run_stop}
use Rattle.shapers_text.specs.declared.ot_shaper_thai.forms.Consonant.{Consonant}
use Rattle.shapers_text.specs.declared.ot_shaper_thai.forms.Consonant.TheVariants.{NC, AC, RC, DC, NotConsonant}
use Rattle.shapers_text.specs.declared.ot_shaper_thai.forms.Mark.{Mark}
use Rattle.shapers_text.specs.declared.ot_shaper_thai.forms.Mark.TheVariants.{AV, BV, T, NotMark}
use Rattle.shapers_text.specs.declared.ot_shaper_thai.forms.Action.{Action}
use Rattle.shapers_text.specs.declared.ot_shaper_thai.forms.Action.TheVariants.{NOP, SD, SL, SDL, RD}
use Rattle.shapers_text.specs.declared.ot_shaper_thai.forms.Base.{Base}
use Rattle.shapers_text.specs.ThaiWalk.{counted_base, base_after, target}
use Rattle.shapers_text.specs.ThaiForms.{consonant_type, mark_type, stands_above, stands_below, is_thai_mark, action_of, shaped_by, base_type, marks_above, marks_below, action_after, has_below, is_removable, form_between, forms_between, thai_base_place}

-- as many forms as characters
pub length-forms : (has : ℕ → Bool) (before us after : List ℕ) → length (forms_between has before us after) ≡ length us
length-forms has before [] after = refl
length-forms has before (u ∷ us) after = ap suc (length-forms has (before ++ u ∷ []) us after)

-- the forms of two texts, one after the other
pub forms-append : (has : ℕ → Bool) (before xs ys after : List ℕ) → forms_between has before (xs ++ ys) after
    ≡ forms_between has before xs (ys ++ after) ++ forms_between has (before ++ xs) ys after
forms-append has before [] ys after = cc (append-nil before)
forms-append has before (x ∷ xs) ys after =
    search (arith, append_assoc, forms-append has (before ++ x ∷ []) xs ys after)

-- the marks that follow: one by one
any_of_cond : (b : Bool) (u : ℕ) (us : List ℕ) → list_any (λ v. stands_below (mark_type v)) (cond b (u ∷ us) [])
    ≡ cond b (stands_below (mark_type u) || list_any (λ v. stands_below (mark_type v)) us) false
any_of_cond true u us = refl
any_of_cond false u us = refl

below-cons : (u : ℕ) (us : List ℕ)
    → has_below (u ∷ us) ≡ cond (is_thai_mark u) (stands_below (mark_type u) || has_below us) false
below-cons = search (arith, take_while-cons, any_of_cond)

-- what stands behind a character that is no mark isn't seen
pub below_stop : (us : List ℕ) (a : ℕ) (after : List ℕ) → is_thai_mark a ≡ false
    → has_below (us ++ a ∷ after) ≡ has_below (us ++ [])
below_stop [] a after h = cc (below-cons a after)
below_stop (u ∷ us) a after h = search (arith, below-cons, below_stop us a after h)

pub forms_stop : (has : ℕ → Bool) (before us : List ℕ) (a : ℕ) (after : List ℕ) → is_thai_mark a ≡ false
    → forms_between has before us (a ∷ after) ≡ forms_between has before us []
forms_stop has before [] a after h = refl
forms_stop has before (u ∷ us) a after h = search (arith, below_stop, forms_stop has (before ++ u ∷ []) us a after h)

-- the forms of marks don't depend on what follows

pub forms_marks : (has : ℕ → Bool) (before us after : List ℕ) → list_any (λ u. not (is_thai_mark u)) us ≡ false
    → forms_between has before us after ≡ forms_between has before us []
forms_marks has before [] after marks = refl
forms_marks has before (u ∷ us) after marks =
    let parts = or_parts _ _ marks in search (arith, forms_marks has (before ++ u ∷ []) us after parts.1)

-- one more mark after marks
below_marks : (us : List ℕ) → list_any (λ u. not (is_thai_mark u)) us ≡ false
    → has_below us ≡ list_any (λ u. stands_below (mark_type u)) us
below_marks [] marks = refl
below_marks (u ∷ us) marks = let parts = or_parts _ _ marks in search (arith, below-cons, below_marks us parts.1)

-- where an action acts on the mark itself
abbrev Own : Action → Type 0
Own action = (x y : ℕ) → target action x y ≡ y

own_if : (c : Bool) (action other : Action) → Own action → Own other → Own (cond c action other)
own_if true action other own own_other = own
own_if false action other own own_other = own_other

-- what a mark does to its base: it takes the descender, or leaves it as it is
abbrev TakesDescender : Consonant → Mark → ℕ → ℕ → Bool → Type 0
TakesDescender base mark a b h = (action_of base mark a b ≡ RD)
    × ((is_removable base ≡ true) × ((stands_below mark ≡ true) × (h ≡ false)))

abbrev LeavesBase : Consonant → Mark → ℕ → ℕ → Bool → Type 0
LeavesBase base mark a b h = Own (action_of base mark a b)
    × ((is_removable base && (h || stands_below mark)) ≡ (is_removable base && h))

acts : (base : Consonant) (mark : Mark) (a b : ℕ) (h : Bool) → (b == 0) ≡ not h → TakesDescender base mark a b h
    ⊎ LeavesBase base mark a b h
acts RC BV a b false e = inl (ap (λ c. cond c RD SD) e, (refl, (refl, refl)))
acts RC BV a b true e = inr (λ x y. ap (λ c. target (cond c RD SD) x y) e, refl)
acts RC AV a b false e = inr (λ x y. refl, refl)
acts RC AV a b true e = inr (λ x y. refl, refl)
acts RC T a b false e = inr (own_if (a == 0) SD NOP (λ x y. refl) (λ x y. refl), refl)
acts RC T a b true e = inr (own_if (a == 0) SD NOP (λ x y. refl) (λ x y. refl), refl)
acts RC NotMark a b false e = inr (λ x y. refl, refl)
acts RC NotMark a b true e = inr (λ x y. refl, refl)
acts NC BV a b h e = inr (own_if (b == 0) NOP SD (λ x y. refl) (λ x y. refl), refl)
acts NC AV a b h e = inr (λ x y. refl, refl)
acts NC T a b h e = inr (own_if (a == 0) SD NOP (λ x y. refl) (λ x y. refl), refl)
acts NC NotMark a b h e = inr (λ x y. refl, refl)
acts AC BV a b h e = inr (own_if (b == 0) NOP SD (λ x y. refl) (λ x y. refl), refl)
acts AC AV a b h e = inr (own_if (a == 0) SL NOP (λ x y. refl) (λ x y. refl), refl)
acts AC T a b h e = inr (
  own_if (a == 0) SDL (cond (a == 1) SL NOP) (λ x y. refl) (own_if (a == 1) SL NOP (λ x y. refl) (λ x y. refl)),
  refl,
)
acts AC NotMark a b h e = inr (λ x y. refl, refl)
acts DC BV a b h e = inr (λ x y. refl, refl)
acts DC AV a b h e = inr (λ x y. refl, refl)
acts DC T a b h e = inr (own_if (a == 0) SD NOP (λ x y. refl) (λ x y. refl), refl)
acts DC NotMark a b h e = inr (λ x y. refl, refl)
acts NotConsonant BV a b h e = inr (λ x y. refl, refl)
acts NotConsonant _ a b h e = inr (λ x y. refl, refl)

-- without a consonant a mark never takes a descender
own_without : (mark : Mark) (a b : ℕ) → Own (action_of NotConsonant mark a b)
own_without AV a b = λ x y. refl
own_without _ a b = λ x y. refl

-- what is no mark does nothing
pub no_action : (base : Consonant) (mark : Mark) (a b : ℕ) → (stands_above mark || stands_below mark) ≡ false
    → action_of base mark a b ≡ NOP
no_action base AV a b h = absurd cc
no_action base BV a b h = absurd cc
no_action base T a b h = absurd cc
no_action NC NotMark a b h = refl
no_action _ NotMark a b h = refl

-- a vowel below has no form without a descender
below_keeps : (has : ℕ → Bool) (u : ℕ) → stands_below (mark_type u) ≡ true → shaped_by has u RD ≡ u
below_keeps = search (arith, refl)

-- the forms of a text with a base and its marks at the end
split_forms : (has : ℕ → Bool) (ys : List ℕ) (base : ℕ) (ms after : List ℕ) → is_thai_mark base ≡ false
    → list_any (λ u. not (is_thai_mark u)) ms ≡ false → forms_between has [] (ys ++ base ∷ ms) after ≡ forms_between has
    [] ys [] ++ (cond (is_removable (consonant_type base) && has_below (ms ++ after)) (shaped_by has base RD) base
    ∷ forms_between has (ys ++ base ∷ []) ms [])
split_forms has ys base ms after none = search (arith, forms-append, forms_stop, forms_marks)

or_last : (a b : Bool) → (a || (b || false)) ≡ (a || b)
or_last true b = refl
or_last false true = refl
or_last false false = refl

-- one more mark after marks
-- a list all of which passes is its own last run
passes_run : (test : ℕ → Bool) (ms : List ℕ) → list_any (λ u. not (test u)) ms ≡ false → suffix_len test ms ≡ length ms
passes_run test ms marks =
    from_end (λ xs. list_any (λ u. not (test u)) xs ≡ false → suffix_len test xs ≡ length xs) (λ _. refl)
    (λ xs x same none.
    let parts = none_before_push (λ u. not (test u)) xs x none in
    let whole = suffix_len_yes test xs x (not-false _ parts.1) in
    search (arith, length_push)) ms marks

-- a count is 0 exactly if none passes
zero_count : (test : ℕ → Bool) (xs : List ℕ) → (count_by test xs == 0) ≡ not (list_any test xs)
zero_count test xs =
    elim (list_any test xs) as (λ b. list_any test xs ≡ b → (count_by test xs == 0) ≡ not b) [
      | false ↦ λ none. ap (λ n. n == 0) (count_from_none test xs none)
      | true ↦ λ some. elim (count_by test xs == 0) as (λ c. (count_by test xs == 0) ≡ c → c ≡ false) [
        | true ↦ λ zero. sym some ∙ none_from_count test xs (eqb-true _ _ zero)
        | false ↦ λ _. refl
      ] refl
    ] refl

-- the text at a base's marks
record AtMarks (xs ys : List ℕ) (base : ℕ) (ms : List ℕ) : Type 0 where
  pub type_is : base_type xs ≡ consonant_type base
  pub below_is : (marks_below xs == 0) ≡ not (has_below ms)
  pub place_is : thai_base_place xs ≡ length ys

at_marks : (ys : List ℕ) (base : ℕ) (ms : List ℕ) → is_thai_mark base ≡ false → list_any (λ u. not (is_thai_mark u)) ms
    ≡ false → AtMarks (ys ++ base ∷ ms) ys base ms
at_marks ys base ms none marks =
    let run = passes_run is_thai_mark ms marks in
    let zero_left : length ms - suffix_len is_thai_mark ms ≡ 0 = omega arith in
    search (
      arith,
      before_last_run_stop,
      reverse-append,
      last_run_stop,
      zero_count,
      below_marks,
      length-append,
      suffix_len_stop,
    )

-- a form put in at the last place, or at that of the base
set_base : (has : ℕ → Bool) (ps : List ℕ) (base : ℕ) (ms : List ℕ) (u : ℕ) (rest : List ℕ) (n : ℕ) (action : Action)
    → length ps ≡ n
    → set ((ps ++ base ∷ ms) ++ u ∷ rest) n (shaped_by has (get_or ((ps ++ base ∷ ms) ++ u ∷ rest) n 0) action)
    ≡ ((ps ++ shaped_by has base action ∷ ms) ++ u ∷ []) ++ rest
set_base = search (arith, append_assoc, get_or_at, set_at)

-- a character shaped in place
abbrev pub action_put : (ℕ → Bool) → ℕ → Action → List ℕ → List ℕ
action_put has place action us = set us place (shaped_by has (get_or us place 0) action)

-- one more mark: what it does to the forms so far
abbrev Shapes : (ℕ → Bool) → List ℕ → ℕ → List ℕ → Type 0
Shapes has xs u rest =
    let action = action_after xs u in
    action_put has (target action (thai_base_place xs) (length xs)) action (forms_between has [] xs [] ++ u ∷ rest)
    ≡ forms_between has [] (xs ++ u ∷ []) [] ++ rest

-- the last form, behind the others
last_form : (has : ℕ → Bool) (xs : List ℕ) (u : ℕ) → forms_between has [] (xs ++ u ∷ []) [] ≡ forms_between has
    [] xs (u ∷ []) ++ form_between has xs u [] ∷ []
last_form = search (arith, forms-append)

mark_form : (has : ℕ → Bool) (xs : List ℕ) (u : ℕ) → is_thai_mark u ≡ true → form_between has xs u
    [] ≡ shaped_by has u (action_after xs u)
mark_form has xs u is_one = cc

-- where the mark itself is shaped and the forms before it stay
shapes_own : (has : ℕ → Bool) (xs : List ℕ) (u : ℕ) (rest : List ℕ) → Own (action_after xs u) → forms_between has
    [] xs (u ∷ []) ≡ forms_between has [] xs [] → form_between has xs u [] ≡ shaped_by has u (action_after xs u)
    → Shapes has xs u rest
shapes_own = search (arith, get_or_at, set_at, append_assoc, length-forms, last_form)

-- no mark
shapes_plain : (has : ℕ → Bool) (xs : List ℕ) (u : ℕ) (rest : List ℕ) → is_thai_mark u ≡ false → Shapes has xs u rest
shapes_plain has xs u rest none = search (arith, shapes_own, no_action, forms_stop)

-- a mark with a base
shapes_with : (has : ℕ → Bool) (ys : List ℕ) (base : ℕ) (ms : List ℕ) (u : ℕ) (rest : List ℕ)
    → is_thai_mark base ≡ false → list_any (λ v. not (is_thai_mark v)) ms ≡ false → is_thai_mark u ≡ true
    → Shapes has (ys ++ base ∷ ms) u rest
shapes_with has ys base ms u rest none marks is_one =
    let xs = ys ++ base ∷ ms in
    let at = at_marks ys base ms none marks in
    let h = has_below ms in
    let s = stands_below (mark_type u) in
    let ps = forms_between has [] ys [] in
    let behind = forms_between has (ys ++ base ∷ []) ms [] in
    let now =
    split_forms has ys base ms [] none marks
    ∙ ap (λ b. ps ++ (cond (is_removable (consonant_type base) && b) (shaped_by has base RD) base ∷ behind))
    (ap has_below (append-nil ms))
    ∙ ap (λ k. ps ++ (cond (is_removable k && h) (shaped_by has base RD) base ∷ behind)) (sym at.type_is) in
    let next =
    split_forms has ys base ms (u ∷ []) none marks
    ∙ ap (λ b. ps ++ (cond (is_removable (consonant_type base) && b) (shaped_by has base RD) base ∷ behind))
    (search (arith, below_marks, list_any-append, or_last))
    ∙ ap (λ k. ps ++ (cond (is_removable k && (h || s)) (shaped_by has base RD) base ∷ behind)) (sym at.type_is) in
    elim (acts (base_type xs) (mark_type u) (marks_above xs) (marks_below xs) h at.below_is) [
      | inr leaves ↦
          shapes_own has xs u rest leaves.0
          (next ∙ ap (λ b. ps ++ (cond b (shaped_by has base RD) base ∷ behind)) leaves.1 ∙ sym now)
          (mark_form has xs u is_one)
      | inl takes ↦
          ap
          (λ a. action_put has (target a (thai_base_place xs) (length xs)) a (forms_between has [] xs [] ++ u ∷ rest))
          takes.0 ∙ ap (λ n. action_put has n RD (forms_between has [] xs [] ++ u ∷ rest)) at.place_is
          ∙ ap (λ zs. action_put has (length ys) RD (zs ++ u ∷ rest))
          (now ∙ ap (λ b. ps ++ (cond (is_removable (base_type xs) && b) (shaped_by has base RD) base ∷ behind))
          takes.1.1.1 ∙ ap (λ b. ps ++ (cond b (shaped_by has base RD) base ∷ behind)) (and_right (is_removable
          (base_type xs)) false refl)) ∙ set_base has ps base behind u rest (length ys) RD (length-forms has [] ys [])
          ∙ ap (λ v. ((ps ++ shaped_by has base RD ∷ behind) ++ v ∷ []) ++ rest)
          (sym (mark_form has xs u is_one ∙ ap (shaped_by has u) takes.0 ∙ below_keeps has u takes.1.1.0))
          ∙ ap (λ zs. (zs ++ form_between has xs u [] ∷ []) ++ rest)
          (sym (next ∙ ap (λ b. ps ++ (cond (b && (h || s)) (shaped_by has base RD) base ∷ behind)) takes.1.0 ∙ ap (λ
          b. ps ++ (cond (h || b) (shaped_by has base RD) base ∷ behind)) takes.1.1.0 ∙ ap (λ b. ps ++ (cond (b ||
          true) (shaped_by has base RD) base ∷ behind)) takes.1.1.1))
          ∙ ap (λ zs. zs ++ rest) (sym (last_form has xs u))
    ]

pub shapes : (has : ℕ → Bool) (xs : List ℕ) (u : ℕ) (rest : List ℕ) → Shapes has xs u rest
shapes has xs u rest =
    elim (is_thai_mark u) as (λ b. is_thai_mark u ≡ b → Shapes has xs u rest) [
      | false ↦ λ none. shapes_plain has xs u rest none
      | true ↦ λ is_one. elim (last_pass (λ v. not (is_thai_mark v)) xs) [
        | inl marks ↦
            let run = passes_run is_thai_mark xs marks in
            let zero_left : length xs - suffix_len is_thai_mark xs ≡ 0 = omega arith in
            let no_base : base_type xs ≡ NotConsonant = cc in
            search (arith, shapes_own, own_without, forms_marks)
        | inr p ↦ subst (λ zs. Shapes has zs u rest) (sym p.parts)
            (shapes_with has p.before p.element p.after u rest (not-true _ p.passes) p.none_after is_one)
      ]
    ] refl

-- the base and its counts, as the walk keeps them
pub record IsBase (xs : List ℕ) (base : Base) : Type 0 where
  pub place_is : base.place ≡ thai_base_place xs
  pub type_is : base.consonant ≡ base_type xs
  pub above_is : base.above ≡ marks_above xs
  pub below_is : base.below ≡ marks_below xs

pub base_place_push : (xs : List ℕ) (u : ℕ) → thai_base_place (xs ++ u ∷ [])
    ≡ cond (is_thai_mark u) (thai_base_place xs) (length xs)
base_place_push xs u =
    elim (is_thai_mark u) as (λ b. is_thai_mark u ≡ b → thai_base_place (xs ++ u ∷ [])
    ≡ cond b (thai_base_place xs) (length xs)) [
      | true ↦ λ h. omega (arith, length_push, suffix_len_yes)
      | false ↦ λ h. omega (arith, length_push, suffix_len_no)
    ] refl

base_at : (xs : List ℕ) (u : ℕ) → is_thai_mark u ≡ false
    → IsBase (xs ++ u ∷ []) (record { place = length xs; consonant = consonant_type u; above = 0; below = 0 })
base_at xs u none = search (arith, base_place_push, before_last_run_no, reverse-append, last_run_no)

-- a mark base_counting above or below
abbrev base_counting : Base → Bool → Bool → Base
base_counting base above below =
    record base { above = base.above + cond above 1 0; below = base.below + cond below 1 0 }

counted_is : (mark : Mark) (base : Base) (i u : ℕ) → (stands_above mark || stands_below mark) ≡ true
    → counted_base mark base i u ≡ base_counting base (stands_above mark) (stands_below mark)
counted_is NotMark base i u h = absurd cc
counted_is _ base i u h = search arith

uncounted_is : (mark : Mark) (base : Base) (i u : ℕ) → (stands_above mark || stands_below mark) ≡ false
    → counted_base mark base i u ≡ record { place = i; consonant = consonant_type u; above = 0; below = 0 }
uncounted_is NotMark base i u h = refl
uncounted_is _ base i u h = absurd cc

pub base_push : (xs : List ℕ) (u : ℕ) (base : Base) (i : ℕ) → i ≡ length xs → IsBase xs base
    → IsBase (xs ++ u ∷ []) (base_after base i u)
base_push xs u base i place is =
    elim (is_thai_mark u) as (λ b. is_thai_mark u ≡ b → IsBase (xs ++ u ∷ []) (base_after base i u)) [
      | true ↦ λ is_one. subst (IsBase (xs ++ u ∷ [])) (sym (counted_is (mark_type u) base i u is_one))
          (search (arith, base_place_push, before_last_run_yes, last_run_yes, count_push))
      | false ↦ λ none. subst (IsBase (xs ++ u ∷ [])) (sym (uncounted_is (mark_type u) base i u none))
          (subst (λ n. IsBase (xs ++ u ∷ [])
          ((record { place = n; consonant = consonant_type u; above = 0; below = 0 })))
          (sym place) (base_at xs u none))
    ] refl
