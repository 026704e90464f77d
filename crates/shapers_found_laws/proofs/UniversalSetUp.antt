-- What the universal set-up by found spans leaves: no repha beside another glyph that may be recorded
-- as one.
use Rattle.std.proofs.Common.{◌≡◌, ◌∙◌, ℕ, ◌+◌, ◌-◌, ◌≤◌, Bool, true, false, ◌==◌, List, [], ◌∷◌, ◌++◌, cond, take, drop, length, refl, sym, ap, subst, inl, inr, arith, Option, None, Some}
use Rattle.std.specs.Int.Bits.{and_zero_r}
use Rattle.std.specs.Prelude.{◌||◌, bit_and, bit_or, count_by, get_or, map, min, not}
use Rattle.std.specs.List.{AllByRecursion, AllZip, flat_map, list_any}
use Rattle.std.proofs.lemmas.Bool.{eqb-true, false≢true}
use Rattle.std.proofs.lemmas.List.{take-append-drop}
use Rattle.std.proofs.lemmas.List.Sums.{sum_by-cons}
use Rattle.std.proofs.lemmas.Nat.{and_assoc, and_comm, and_or_apart}
use Rattle.shapers_base.specs.Map.{Map}
use Rattle.shapers_base.specs.Masks.{has_bits}
use Rattle.shapers_base.specs.declared.plan.arabic.arabic_shape_plan_t.{arabic_shape_plan_t}
use Rattle.shapers_base.specs.declared.plan.breaks.BreakFlags.{BreakFlags}
use Rattle.shapers_base.specs.declared.plan.hb_ot_shape_plan_t.{hb_ot_shape_plan_t}
use Rattle.shapers_buffer.specs.GlyphFlags.{flagged, with_bits, with_bits_off}
use Rattle.shapers_buffer.specs.Glyphs.{Glyph, Glyphs}
use Rattle.shapers_buffer.specs.Syllables.{span_bytes, syllables, with_bytes}
use Rattle.shapers_buffer.specs.declared.buffer.syllables.Span.{Span}
use Rattle.shapers_spans.specs.Cuts.{AreSpansOf}
use Rattle.shapers_spans.specs.Universal.{universal_grammar}
use Rattle.shapers_syllabic.specs.Syllabic.{unsafe_spans, unsafe_syllables}
use Rattle.shapers_syllabic.proofs.CircleLaws.{joined-syllables}
use Rattle.shapers_universal.specs.PlanData.{arabic_of, rphf_of}
use Rattle.shapers_universal.specs.UniversalSyllables.{all_forms, first_joins, form_masks, formed, forms_flagged, in_forms, mask_between, may_join, rphf_len, with_forms_for, with_instead, with_rphf, with_syllable_masks}
use Rattle.shapers_universal.proofs.TornPairs.{map-forms_flagged}
use Rattle.shapers_found_laws.specs.AddsNone.{is_in_category}
use Rattle.shapers_found_laws.specs.FoundSyllables.{in_spans}
use Rattle.shapers_found_laws.specs.FoundUniversal.{RephaAlone, RphfApart, may_be_repha}
use Rattle.shapers_found_laws.proofs.AddedNone.{AtMost, none-at-most}
use Rattle.shapers_found_laws.proofs.OpensInRules.{HeadAlone, universal-head}
use Rattle.shapers_found_laws.proofs.RephasAlone.{AllAlone, alone-less}
use Rattle.shapers_found_laws.proofs.ZippedGlyphs.{count-zip, each-kept, each-zip, map-zip, same-zip, syllables-of-each, syllables-zip, zip-joined, zip-tails}

-- ---- bits of the mask

-- a glyph of the same syllable and category that has a bit of the mask only if it had one
abbrev pub Near : ℕ → Glyph → Glyph → Type 0
Near t g h = (h.syllable ≡ g.syllable)
    × ((h.category ≡ g.category) × (bit_and g.mask t ≡ 0 → bit_and h.mask t ≡ 0))

near-same : (t : ℕ) (g : Glyph) → Near t g g
near-same t g = (refl, (refl, λ e. e))

near-bits : (t : ℕ) (g h : Glyph) → Near t g h → has_bits t h ≡ true → has_bits t g ≡ true
near-bits t g h near has = by (bit_and g.mask t == 0) refl
  where
    by : (b : Bool) → (bit_and g.mask t == 0) ≡ b → not b ≡ true
    by false e = refl
    by true e =
        let gone = near.1.1 (eqb-true (bit_and g.mask t) 0 e) in
        let was : not (0 == 0) ≡ true = subst (λ n. not (n == 0) ≡ true) gone has in
        absurd (false≢true was)

near-category : (t : ℕ) (g h : Glyph) → Near t g h → is_in_category 18 h ≡ true → is_in_category 18 g ≡ true
near-category t g h near is = ap (λ c. c == 18) (sym near.1.0) ∙ is

either-back : (a b c d : Bool) → (a ≡ true → c ≡ true) → (b ≡ true → d ≡ true) → (a || b) ≡ true → (c || d) ≡ true
either-back true b c d first second is = ap (λ x. x || d) (first refl)
either-back false b true d first second is = refl
either-back false b false d first second is = second is

near-may : (t : ℕ) (g h : Glyph) → Near t g h → may_be_repha t h ≡ true → may_be_repha t g ≡ true
near-may t g h near is =
    either-back (h.category == 18) (has_bits t h) (g.category == 18) (has_bits t g) (near-category t g h near)
    (near-bits t g h near) is

near-alone : (t : ℕ) (p q : Glyphs) → AllZip (Near t) p q → RephaAlone t p → RephaAlone t q
near-alone t p q all alone =
    alone-less t p q (count-zip (is_in_category 18) (Near t) (near-category t) p q all)
    (count-zip (may_be_repha t) (Near t) (near-may t) p q all) alone

pub near-all : (t : ℕ) (gs hs : Glyphs) → AllZip (Near t) gs hs → AllAlone t (syllables gs) → AllAlone t (syllables hs)
near-all t gs hs all alone =
    each-kept (Near t) (RephaAlone t) (near-alone t) (syllables gs) (syllables hs)
    (syllables-zip (Near t) (λ g h near. near.0) gs hs all) alone

-- ---- the text in its spans

-- a repha in front alone, and no bit of the mask
abbrev Ready : ℕ → Glyphs → Type 0
Ready t p = HeadAlone 18 p × (count_by (has_bits t) p ≤ 0)

near-ready : (t : ℕ) (p q : Glyphs) → AllZip (Near t) p q → Ready t p → Ready t q
near-ready t p q all ready =
    let a = count-zip (is_in_category 18) (Near t) (near-category t) (drop 1 p) (drop 1 q) (zip-tails (Near t) p q all) in
    let b = count-zip (has_bits t) (Near t) (near-bits t) p q all in
    let x = ready.0 in
    let y = ready.1 in
    (omega (arith, a, x), omega (arith, b, y))

bits-in-spans : (t : ℕ) (gs : Glyphs) (bytes : List ℕ) → list_any (has_bits t) (with_bytes gs bytes)
    ≡ list_any (has_bits t) gs
bits-in-spans t [] bytes = refl
bits-in-spans t (g ∷ gs) [] = refl
bits-in-spans t (g ∷ gs) (byte ∷ bytes) = ap (λ b. has_bits t g || b) (bits-in-spans t gs bytes)

both-hold : (t : ℕ) (ps : List Glyphs) → AllByRecursion (HeadAlone 18) ps → AtMost 0 (has_bits t) ps
    → AllByRecursion (Ready t) ps
both-hold t [] a b = tt
both-hold t (p ∷ ps) a b = ((a.0, b.0), both-hold t ps a.1 b.1)

spans-ready : (t : ℕ) (gs : Glyphs) (spans : List Span) → AreSpansOf universal_grammar gs spans
    → list_any (has_bits t) gs ≡ false → AllByRecursion (Ready t) (syllables (in_spans gs spans))
spans-ready t gs spans are unset =
    both-hold t (syllables (in_spans gs spans)) (universal-head gs spans are)
    (none-at-most (has_bits t) (in_spans gs spans) (bits-in-spans t gs (span_bytes 0 spans) ∙ unset))

-- ---- flags

flag-near : (t : ℕ) → bit_and 3 t ≡ 0 → (g : Glyph) → Near t g (with_bits 3 g)
flag-near t free g = (refl, (refl, λ e. and_or_apart t g.mask 3 free ∙ e))

off-near : (t : ℕ) → bit_and 3 t ≡ 0 → (m : ℕ) (g : Glyph) → Near t g (with_bits_off 3 m g)
off-near t free m g = by (g.cluster == m)
  where
    by : (b : Bool) → Near t g (cond b g (with_bits 3 g))
    by true = near-same t g
    by false = flag-near t free g

flags-near : (t : ℕ) → bit_and 3 t ≡ 0 → (gs : Glyphs) → AllZip (Near t) gs (unsafe_syllables gs)
flags-near t free gs =
    subst (λ hs. AllZip (Near t) hs (unsafe_syllables gs)) (joined-syllables gs)
    (each-zip (Near t) (flagged 3) (λ p. map-zip (Near t) _ (λ g. off-near t free _ g) p) (syllables gs))

-- ---- the mask of rphf

abbrev Same : Glyph → Glyph → Type 0
Same g h = (h.syllable ≡ g.syllable) × (h.category ≡ g.category)

masked-same : (t : ℕ) (gs : Glyphs) → AllZip Same gs (with_rphf t gs)
masked-same t gs =
    let n = rphf_len gs in
    subst (λ hs. AllZip Same hs (with_rphf t gs)) (take-append-drop n gs)
    (zip-joined Same (take n gs) (map (with_bits t) (take n gs)) (drop n gs) (drop n gs)
    (map-zip Same (with_bits t) (λ g. (refl, refl)) (take n gs)) (same-zip Same (λ g. (refl, refl)) (drop n gs)))

same-category : (g h : Glyph) → Same g h → is_in_category 18 h ≡ true → is_in_category 18 g ≡ true
same-category g h same is = ap (λ c. c == 18) (sym same.1) ∙ is

-- a glyph may be a repha only if it is one, or has a bit of the mask
may-parts : (a b : Bool) → cond (a || b) 1 0 ≤ cond a 1 0 + cond b 1 0
may-parts true b = omega arith
may-parts false true = omega arith
may-parts false false = omega arith

may-few : (t : ℕ) (gs : Glyphs) → count_by (may_be_repha t) gs
    ≤ count_by (is_in_category 18) gs + count_by (has_bits t) gs
may-few t [] = omega arith
may-few t (g ∷ gs) =
    let a = sum_by-cons (λ (x : Glyph). cond (may_be_repha t x) 1 0) g gs in
    let b = sum_by-cons (λ (x : Glyph). cond (is_in_category 18 x) 1 0) g gs in
    let c = sum_by-cons (λ (x : Glyph). cond (has_bits t x) 1 0) g gs in
    let d = may-parts (g.category == 18) (has_bits t g) in
    let e = may-few t gs in
    omega (arith, a, b, c, d, e)

abbrev one_if : Bool → ℕ
one_if b = cond b 1 0

one-most : (b : Bool) → one_if b ≤ 1
one-most true = omega arith
one-most false = omega arith

masked-alone : (t : ℕ) (p : Glyphs) → Ready t p → RephaAlone t (with_rphf t p)
masked-alone t [] ready = inl refl
masked-alone t (g ∷ gs) ready = by (g.category == 18) refl
  where
    masked : ℕ → Glyphs
    masked n = map (with_bits t) (take n (g ∷ gs)) ++ drop n (g ∷ gs)

    by : (b : Bool) → (g.category == 18) ≡ b → RephaAlone t (masked (cond b 1 (min 3 (length (g ∷ gs)))))
    by true is =
        let a = sum_by-cons (λ (x : Glyph). cond (may_be_repha t x) 1 0) (with_bits t g) gs in
        let b = one-most (may_be_repha t (with_bits t g)) in
        let c = may-few t gs in
        let d = sum_by-cons (λ (x : Glyph). cond (has_bits t x) 1 0) g gs in
        let x : count_by (is_in_category 18) gs ≡ 0 = ready.0 in
        let y = ready.1 in
        inr (omega (arith, a, b, c, d, x, y))
    by false is =
        let a = sum_by-cons (λ (x : Glyph). cond (is_in_category 18 x) 1 0) g gs in
        let b : one_if (g.category == 18) ≡ 0 = ap one_if is in
        let n = min 3 (length (g ∷ gs)) in
        let all : AllZip Same (g ∷ gs) (masked n) =
        subst (λ hs. AllZip Same hs (masked n)) (take-append-drop n (g ∷ gs))
        (zip-joined Same (take n (g ∷ gs)) (map (with_bits t) (take n (g ∷ gs))) (drop n (g ∷ gs)) (drop n (g ∷ gs))
        (map-zip Same (with_bits t) (λ h. (refl, refl)) (take n (g ∷ gs)))
        (same-zip Same (λ h. (refl, refl)) (drop n (g ∷ gs)))) in
        let c = count-zip (is_in_category 18) Same same-category (g ∷ gs) (masked n) all in
        let x : count_by (is_in_category 18) gs ≡ 0 = ready.0 in
        inl (omega (arith, a, b, c, x))

pieces-masked : (t : ℕ) (ps : List Glyphs) → AllByRecursion (Ready t) ps → AllAlone t (map (with_rphf t) ps)
pieces-masked t [] ready = tt
pieces-masked t (p ∷ ps) ready = (masked-alone t p ready.0, pieces-masked t ps ready.1)

text-masked : (t : ℕ) (gs : Glyphs) → AllByRecursion (Ready t) (syllables gs)
    → AllAlone t (syllables (flat_map (with_rphf t) (syllables gs)))
text-masked t gs ready =
    subst (AllAlone t) (sym (syllables-of-each Same (λ g h same. same.0) (with_rphf t) (masked-same t) gs))
    (pieces-masked t (syllables gs) ready)

-- ---- the masks of forms

abbrev NoForm : Map → ℕ → Type 0
NoForm m t = (before behind : Bool) → bit_and (mask_between (form_masks m) before behind) t ≡ 0

instead-near : (t bits form : ℕ) → bit_and form t ≡ 0 → (g : Glyph) → Near t g (with_instead bits form g)
instead-near t bits form free g = (refl, (refl, λ e. gone e))
  where
    x : ℕ
    x = 0xFFFFFFFF - bits

    gone : bit_and g.mask t ≡ 0 → bit_and (bit_or (bit_and g.mask x) form) t ≡ 0
    gone e =
        and_or_apart t (bit_and g.mask x) form free
        ∙ (and_assoc t g.mask x
        ∙ (ap (bit_and g.mask) (and_comm x t)
        ∙ (sym (and_assoc x g.mask t) ∙ (ap (λ n. bit_and n x) e ∙ (and_comm 0 x ∙ and_zero_r x)))))

formed-near : (m : Map) (t : ℕ) → NoForm m t → (before behind : Bool) (p : Glyphs)
    → AllZip (Near t) p (formed (form_masks m) before behind p)
formed-near m t free before behind p = by (may_join p)
  where
    by : (b : Bool) → AllZip (Near t) p
        (cond b (map (with_instead (all_forms (form_masks m)) (mask_between (form_masks m) before behind)) p) p)
    by true =
        map-zip (Near t) (with_instead (all_forms (form_masks m)) (mask_between (form_masks m) before behind))
        (instead-near t (all_forms (form_masks m)) (mask_between (form_masks m) before behind) (free before behind)) p
    by false = same-zip (Near t) (near-same t) p

forms-near : (m : Map) (t : ℕ) → NoForm m t → (before : Bool) (ps : List Glyphs)
    → AllZip (Near t) (flat_map (λ p. p) ps) (in_forms (form_masks m) before ps)
forms-near m t free before [] = tt
forms-near m t free before (p ∷ ps) =
    zip-joined (Near t) p (formed (form_masks m) before (first_joins ps) p) (flat_map (λ q. q) ps)
    (in_forms (form_masks m) (may_join p) ps) (formed-near m t free before (first_joins ps) p)
    (forms-near m t free (may_join p) ps)

text-formed : (arabic : Option arabic_shape_plan_t) (m : Map) (t : ℕ) → NoForm m t → (gs : Glyphs)
    → AllZip (Near t) gs (with_forms_for arabic m gs)
text-formed (Some p) m t free gs = same-zip (Near t) (near-same t) gs
text-formed None m t free gs = by (all_forms (form_masks m) == 0)
  where
    by : (b : Bool) → AllZip (Near t) gs (cond b gs (in_forms (form_masks m) false (syllables gs)))
    by true = same-zip (Near t) (near-same t) gs
    by false =
        subst (λ hs. AllZip (Near t) hs (in_forms (form_masks m) false (syllables gs))) (joined-syllables gs)
        (forms-near m t free false (syllables gs))

-- ---- the flags of forms

abbrev seen_of : ℕ → Glyph → ℕ × (ℕ × ℕ)
seen_of t g = (g.syllable, (g.category, bit_and g.mask t))

seen-near : (t : ℕ) (g h : Glyph) → seen_of t h ≡ seen_of t g → Near t g h
seen-near t g h e = (
  ap (λ (x : ℕ × (ℕ × ℕ)). x.0) e,
  (
    ap (λ (x : ℕ × (ℕ × ℕ)). x.1.0) e,
    λ z. ap (λ (x : ℕ × (ℕ × ℕ)). x.1.1) e ∙ z,
  ),
)

head-is : {X : Type 0} (x y : X) (xs ys : List X) → x ∷ xs ≡ y ∷ ys → x ≡ y
head-is x y xs ys e = ap (λ zs. get_or zs 0 x) e

tail-is : {X : Type 0} (x y : X) (xs ys : List X) → x ∷ xs ≡ y ∷ ys → xs ≡ ys
tail-is x y xs ys e = ap (drop 1) e

seen-zip : (t : ℕ) (gs hs : Glyphs) → map (seen_of t) hs ≡ map (seen_of t) gs → AllZip (Near t) gs hs
seen-zip t [] [] e = tt
seen-zip t [] (h ∷ hs) e = absurd (let l = ap length e in omega (arith, l))
seen-zip t (g ∷ gs) [] e = absurd (let l = ap length e in omega (arith, l))
seen-zip t (g ∷ gs) (h ∷ hs) e = (
  seen-near t g h (head-is (seen_of t h) (seen_of t g) (map (seen_of t) hs) (map (seen_of t) gs) e),
  seen-zip t gs hs (tail-is (seen_of t h) (seen_of t g) (map (seen_of t) hs) (map (seen_of t) gs) e),
)

flag-seen : (t : ℕ) → bit_and 3 t ≡ 0 → (g : Glyph) → seen_of t (with_bits 3 g) ≡ seen_of t g
flag-seen t free g = ap (λ n. (g.syllable, (g.category, n))) (and_or_apart t g.mask 3 free)

forms-flagged-near : (arabic : Option arabic_shape_plan_t) (breaks : BreakFlags) (m : Map) (t : ℕ) → bit_and 3 t ≡ 0
    → (gs : Glyphs) → AllZip (Near t) gs (forms_flagged arabic breaks m gs)
forms-flagged-near arabic breaks m t free gs =
    seen-zip t gs (forms_flagged arabic breaks m gs) (map-forms_flagged (seen_of t) (flag-seen t free) arabic breaks m gs)

-- ---- the set-up

pub set-up-alone : (plan : hb_ot_shape_plan_t) (gs : Glyphs) (spans : List Span) → AreSpansOf universal_grammar gs spans
    → RphfApart plan gs
    → AllAlone (rphf_of plan.plan_data)
    (syllables (forms_flagged (arabic_of plan.plan_data) plan.break_flags plan.ot_map
    (with_syllable_masks plan.plan_data plan.ot_map (unsafe_spans spans gs))))
set-up-alone plan gs spans are apart =
    let t = rphf_of plan.plan_data in
    let cut = in_spans gs spans in
    let unsafe = unsafe_spans spans gs in
    let masked = flat_map (with_rphf t) (syllables unsafe) in
    let forms = with_forms_for (arabic_of plan.plan_data) plan.ot_map masked in
    let ready = each-kept (Near t) (Ready t) (near-ready t) (syllables cut) (syllables unsafe)
    (syllables-zip (Near t) (λ g h near. near.0) cut unsafe (flags-near t apart.unflagged cut))
    (spans-ready t gs spans are apart.unset) in
    let alone = near-all t masked forms (text-formed (arabic_of plan.plan_data) plan.ot_map t apart.formless masked)
    (text-masked t unsafe ready) in
    near-all t forms (forms_flagged (arabic_of plan.plan_data) plan.break_flags plan.ot_map forms)
    (forms-flagged-near (arabic_of plan.plan_data) plan.break_flags plan.ot_map t apart.unflagged forms) alone
