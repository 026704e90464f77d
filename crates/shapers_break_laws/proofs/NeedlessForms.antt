-- A set-up of the universal shaper can't be broken where a half would have the mask of another form.
use Rattle.std.proofs.Common.{ℕ, if◌then◌else◌, cond, nat_lt, ◌+◌, ◌-◌, ◌%◌, ◌<◌, ◌≤◌, ◌≡◌, ◌==◌, ◌^◌, ◌&&◌, ◌||◌, not, bit_and, bit_or, Bool, true, false, inl, inr, List, [], ◌∷◌, ◌++◌, length, map, take, drop, get_or, refl, sym, ap, ◌∙◌, subst, arith, length-append, length-drop}
use Rattle.std.specs.Prelude.{None}
use Rattle.std.specs.Int.{bit_at}
use Rattle.std.specs.List.{flat_map, list_any}
use mir.Syntax.{w32}
use Rattle.std.proofs.lemmas.Bool.{both_ways, cases_lt, eq-eqb, eqb-true}
use Rattle.std.proofs.lemmas.Bool.Decides.{nat_tests}
use Rattle.std.proofs.lemmas.List.{append-nil, append_assoc, length-map, length-take-le, map-append, take-append-drop}
use Rattle.std.proofs.lemmas.Nat.Bits.{bit_at-lt, bit_at-zero, bit_at_above, bit_at_and, bit_at_not, bit_at_or, same_from_bits}
use Rattle.shapers_buffer.specs.Glyphs.{Glyph, Glyphs}
use Rattle.shapers_buffer.specs.declared.buffer.syllables.Span.{Span}
use Rattle.shapers_buffer.specs.Buffer.{Buffer}
use Rattle.shapers_buffer.specs.Glyph.{default_glyph, without_flags}
use Rattle.shapers_buffer.specs.Syllables.{spans_cover, syllables}
use Rattle.shapers_base.specs.Map.{Map}
use Rattle.shapers_clusters.proofs.FlagCalls.{without_flags-or}
use Rattle.shapers_syllabic.specs.Borders.{SameButSerials, unnumbered}
use Rattle.shapers_syllabic.specs.ReorderingLaws.{with_mask_by}
use Rattle.shapers_syllabic.proofs.Borders.{syllables-append, syllables_cut}
use Rattle.shapers_syllabic.proofs.CircleLaws.{joined-syllables}
use Rattle.shapers_syllabic.proofs.HiddenCuts.{same-by}
use Rattle.shapers_syllabic.proofs.Serials.{same_text}
use Rattle.shapers_universal.specs.PlanData.{arabic_of, rphf_of}
use Rattle.shapers_universal.specs.UniversalLaws.{setup_by_spans}
use Rattle.shapers_universal.specs.UniversalSyllables.{all_forms, first_joins, form_masks, formed, is_torn, may_join, mask_between, with_form_masks, with_forms_for, with_instead}
use Rattle.shapers_universal.proofs.TornPairs.{map-forms_flagged}
use Rattle.shapers_break_laws.specs.NeedlessForms.{NoFormFlagIsNeedless}
use Rattle.shapers_break_laws.specs.ScriptBreaks.{FormsOffFlags}
use Rattle.shapers_break_laws.specs.UniversalSound.{flagless, sound_setup}
use Rattle.shapers_break_laws.proofs.ErasedCircles.{NoneEmpty}
use Rattle.shapers_break_laws.proofs.MaskReads.{mask_read}
use Rattle.shapers_break_laws.proofs.Setup.{cover_cut}
use Rattle.shapers_break_laws.proofs.UniversalChain.{length_under, parts_are}
use Rattle.shapers_break_laws.proofs.UniversalSetup.{KeepShapes, forms_for_kept, syllables_kept}
use Rattle.shapers_break_laws.proofs.UniversalSound.{SparesPlace, flags_hidden, forms_in, led, led_halves, length-led, none_empty, pair_in, pairs_in, pairs_kept, some_syllable, text_same}

-- the mask of a form has bits of the masks of forms alone
form_among : (m : Map) (before behind : Bool) (i : ℕ) → bit_at (mask_between (form_masks m) before behind) i
    ≤ bit_at (all_forms (form_masks m)) i
form_among m before behind i =
    let masks = form_masks m in
    let front = bit_at_or masks.isol masks.init i in
    let back = bit_at_or masks.medi masks.fina i in
    let both = bit_at_or (bit_or masks.isol masks.init) (bit_or masks.medi masks.fina) i in
    elim before as (λ a. bit_at (mask_between masks a behind) i ≤ bit_at (all_forms masks) i) [
      | true ↦ elim behind as (λ b. bit_at (mask_between masks true b) i ≤ bit_at (all_forms masks) i)
          [ true ↦ omega arith | false ↦ omega arith ]
      | false ↦ elim behind as (λ b. bit_at (mask_between masks false b) i ≤ bit_at (all_forms masks) i)
          [ true ↦ omega arith | false ↦ omega arith ]
    ]

-- and can be read from the mask of a glyph in that form, flags or not
bit_read : (x bits mask i : ℕ) → bits < 2 ^ 32 → bit_at mask i ≤ bit_at bits i
    → bit_at (bit_and (bit_or (bit_and x (0xFFFFFFFF - bits)) mask) bits) i ≡ bit_at mask i
bit_read x bits mask i fits among =
    let k = 0xFFFFFFFF - bits in
    let two = bit_at-lt bits i in
    let one = bit_at-lt x i in
    let whole = bit_at_and (bit_or (bit_and x k) mask) bits i in
    let either = bit_at_or (bit_and x k) mask i in
    let kept = bit_at_and x k i in
    elim (cases_lt i 32) [
      | inl low ↦
          let off : bit_at k i ≡ 1 - bit_at bits i = bit_at_not w32 bits i fits low in
          omega arith
      | inr high ↦
          let none : bit_at bits i ≡ 0 = bit_at_above bits 32 i fits high in
          omega arith
    ]

form_read : (x bits mask : ℕ) → bits % 8 ≡ 0 → bits ≤ 0xFFFFFFFF → ((i : ℕ) → bit_at mask i ≤ bit_at bits i)
    → bit_and (without_flags (bit_or (bit_and x (0xFFFFFFFF - bits)) mask)) bits ≡ mask
form_read x bits mask off fits among =
    let y = bit_or (bit_and x (0xFFFFFFFF - bits)) mask in
    let under : bits < 2 ^ 32 = omega arith in
    mask_read y bits off ∙ same_from_bits (bit_and y bits) mask (λ i. bit_read x bits mask i under (among i))

-- the mask that the first glyph of a syllable has in a form, glyph flags apart
abbrev form_shown : Map → ℕ → ℕ → ℕ
form_shown m x mask = without_flags (bit_or (bit_and x (0xFFFFFFFF - all_forms (form_masks m))) mask)

abbrev first_mask : Glyphs → ℕ
first_mask gs = (get_or gs 0 default_glyph).mask

head_shown : (m : Map) (before behind : Bool) (g : Glyph) (gs rest : Glyphs) → may_join (g ∷ gs) ≡ true
    → first_mask (flagless (formed (form_masks m) before behind (g ∷ gs) ++ rest))
    ≡ form_shown m g.mask (mask_between (form_masks m) before behind)
head_shown m before behind g gs rest joins =
    let f = with_instead (all_forms (form_masks m)) (mask_between (form_masks m) before behind) in
    ap (λ j. first_mask (flagless ((if j then map f (g ∷ gs) else g ∷ gs) ++ rest))) joins

same_form : (m : Map) → FormsOffFlags None m → (a b c d : Bool) (x : ℕ)
    → form_shown m x (mask_between (form_masks m) a b) ≡ form_shown m x (mask_between (form_masks m) c d)
    → mask_between (form_masks m) a b ≡ mask_between (form_masks m) c d
same_form m off a b c d x same =
    let masks = form_masks m in
    let bits = all_forms masks in
    let read : (e f : Bool) → bit_and (form_shown m x (mask_between masks e f)) bits ≡ mask_between masks e f =
    λ e f. form_read x bits (mask_between masks e f) off.0 off.1 (form_among m e f) in
    sym (read a b) ∙ ap (λ n. bit_and n bits) same ∙ read c d

untorn : (u v x y : ℕ) → u ≡ v → x ≡ y → (not (u == v) || not (x == y)) ≡ false
untorn u v x y a b = ap (λ c. not c || not (x == y)) (eq-eqb u v a) ∙ ap not (eq-eqb x y b)

-- stretches that spare a place
both_spare : (p : ℕ) (xs ys : List (ℕ × ℕ)) → SparesPlace p xs → SparesPlace p ys → SparesPlace p (xs ++ ys)
both_spare p [] ys h k = k
both_spare p (x ∷ xs) ys h k = (h.0, both_spare p xs ys h.1 k)

one_spares : (p s e : ℕ) (b : Bool) → (nat_lt s p && nat_lt p e) ≡ false → SparesPlace p (cond b ((s, e) ∷ []) [])
one_spares p s e true h = (h, tt)
one_spares p s e false h = tt

not_before : (s e p : ℕ) → p ≤ s → (nat_lt s p && nat_lt p e) ≡ false
not_before s e p h = grind (arith, nat_tests)

not_behind : (s e p : ℕ) → e ≤ p → (nat_lt s p && nat_lt p e) ≡ false
not_behind s e p h = grind (arith, nat_tests)

pair_later : (m : Map) (before : Bool) (i p : ℕ) (x : Glyphs) (ps : List Glyphs) → p ≤ i
    → SparesPlace p (pair_in m before i x ps)
pair_later m before i p x [] h = tt
pair_later m before i p x (y ∷ ps) h = one_spares p i (i + (length x + length y))
    (may_join x && (may_join y && is_torn (form_masks m) before (first_joins ps)))
    (not_before i (i + (length x + length y)) p h)

later_spares : (m : Map) (before : Bool) (i p : ℕ) (ps : List Glyphs) → p ≤ i → SparesPlace p (pairs_in m before i ps)
later_spares m before i p [] h = tt
later_spares m before i p (x ∷ ps) h = both_spare p (pair_in m before i x ps)
    (pairs_in m (may_join x) (i + length x) ps) (pair_later m before i p x ps h)
    (later_spares m (may_join x) (i + length x) p ps (omega arith))

length-formed : (m : Map) (before behind : Bool) (p : Glyphs) → length (formed (form_masks m) before behind p)
    ≡ length p
length-formed m before behind p =
    let f = with_instead (all_forms (form_masks m)) (mask_between (form_masks m) before behind) in
    elim (may_join p) as (λ b. length (if b then map f p else p) ≡ length p)
    [ true ↦ length-map p f | false ↦ refl ]

-- two syllables whose halves have the forms of the whole aren't torn
pair_whole : (m : Map) → FormsOffFlags None m → (before behind : Bool) (g h : Glyph) (gs hs zs ws us
    vs : Glyphs)
    → may_join (g ∷ gs) ≡ true → may_join (h ∷ hs) ≡ true
    → first_mask (flagless (formed (form_masks m) before true (g ∷ gs) ++ zs))
    ≡ first_mask (flagless (formed (form_masks m) before false (g ∷ gs) ++ ws))
    → first_mask (flagless (formed (form_masks m) true behind (h ∷ hs) ++ us))
    ≡ first_mask (flagless (formed (form_masks m) false behind (h ∷ hs) ++ vs))
    → is_torn (form_masks m) before behind ≡ false
pair_whole m off before behind g h gs hs zs ws us vs joins more one two =
    let masks = form_masks m in
    untorn (mask_between masks before true) (mask_between masks before false) (mask_between masks true behind)
    (mask_between masks false behind)
    (same_form m off before true before false g.mask
    (sym (head_shown m before true g gs zs joins) ∙ one ∙ head_shown m before false g gs ws joins))
    (same_form m off true behind false behind h.mask
    (sym (head_shown m true behind h hs us more) ∙ two ∙ head_shown m false behind h hs vs more))

-- the test of a pair, where it can't be torn when both join
tested : (a b c : Bool) → (a ≡ true → b ≡ true → c ≡ false) → (a && (b && c)) ≡ false
tested true true c h = h refl refl
tested true false c h = refl
tested false b c h = refl

first-flagless : (gs : Glyphs) → 0 < length gs → first_mask (map unnumbered gs) ≡ first_mask gs
first-flagless [] some = absurd (omega arith)
first-flagless (g ∷ gs) some = refl

-- so at the place where a text in its forms is what its parts are in theirs
broken_pair : (m : Map) → FormsOffFlags None m → (before : Bool) (x y : Glyphs) (qs : List Glyphs) (back : Glyphs)
    → 0 < length x → 0 < length y
    → flagless (forms_in m before (x ∷ (y ∷ qs))) ≡ flagless (forms_in m before (x ∷ [])) ++ back
    → map unnumbered back ≡ map unnumbered (flagless (forms_in m false (y ∷ qs)))
    → (may_join x && (may_join y && is_torn (form_masks m) before (first_joins qs))) ≡ false
broken_pair m off before [] y qs back some more parts same = absurd (omega arith)
broken_pair m off before (g ∷ gs) [] qs back some more parts same = absurd (omega arith)
broken_pair m off before (g ∷ gs) (h ∷ hs) qs back some more parts same =
    let masks = form_masks m in
    let v : Glyph → Glyph = with_mask_by without_flags in
    let x = g ∷ gs in
    let y = h ∷ hs in
    let behind = first_joins qs in
    let whole = formed masks before (may_join y) x in
    let alone = formed masks before false x in
    let rest = forms_in m (may_join x) (y ∷ qs) in
    let own = forms_in m false (y ∷ qs) in
    let (one, two) = parts_are (flagless whole) (flagless rest) (flagless (alone ++ [])) back
    (sym (map-append v whole rest) ∙ parts)
    (length-map whole v ∙ length-formed m before (may_join y) x ∙ sym (length-formed m before false x)
    ∙ sym (ap length (append-nil alone)) ∙ sym (length-map (alone ++ []) v)) in
    let seen : map unnumbered (flagless rest) ≡ map unnumbered (flagless own) = ap (map unnumbered) two ∙ same in
    tested (may_join x) (may_join y) (is_torn masks before behind) (λ joins joins_too.
    let late : (a : Bool) → 0 < length (flagless (formed masks a behind y ++ forms_in m (may_join y) qs)) = λ
    a. omega (
      arith,
      length-map (formed masks a behind y ++ forms_in m (may_join y) qs) v,
      length-append (formed masks a behind y) (forms_in m (may_join y) qs),
      length-formed m a behind y,
    ) in
    let second : first_mask (flagless (formed masks (may_join x) behind y ++ forms_in m (may_join y) qs))
    ≡ first_mask (flagless (formed masks false behind y ++ forms_in m (may_join y) qs)) =
    sym (first-flagless (flagless rest) (late (may_join x))) ∙ ap first_mask seen
    ∙ first-flagless (flagless own) (late false) in
    let nil : Glyphs = [] in
    let first : first_mask (flagless (whole ++ nil)) ≡ first_mask (flagless (alone ++ nil)) =
    ap (λ xs. first_mask (flagless xs)) (append-nil whole) ∙ ap first_mask one in
    pair_whole m off before behind g h gs hs nil nil (forms_in m (may_join y) qs) (forms_in m (may_join y) qs) joins
    joins_too
    (subst (λ b. first_mask (flagless (formed masks before b x ++ nil))
    ≡ first_mask (flagless (alone ++ nil))) joins_too
    first)
    (subst (λ b. first_mask (flagless (formed masks b behind y ++ forms_in m (may_join y) qs))
    ≡ first_mask (flagless (formed masks false behind y ++ forms_in m (may_join y) qs))) joins second))

broken_spares : (m : Map) → FormsOffFlags None m → (before : Bool) (i p : ℕ) (ps qs : List Glyphs) (back : Glyphs)
    → NoneEmpty ps → NoneEmpty qs → 0 < length ps → p ≡ i + length (flat_map (λ q. q) ps)
    → flagless (forms_in m before (ps ++ qs)) ≡ flagless (forms_in m before ps) ++ back
    → map unnumbered back ≡ map unnumbered (flagless (forms_in m false qs))
    → SparesPlace p (pairs_in m before i (ps ++ qs))
broken_spares m off before i p [] qs back some more z place parts same = absurd (omega arith)
broken_spares m off before i p (x ∷ []) [] back some more z place parts same = tt
broken_spares m off before i p (x ∷ []) (y ∷ qs) back some more z place parts same =
    let here : p ≡ i + length x = place ∙ ap (λ xs. i + length xs) (append-nil x) in
    let test = may_join x && (may_join y && is_torn (form_masks m) before (first_joins qs)) in
    let pair = pair_in m before i x (y ∷ qs) in
    let whole : test ≡ false = broken_pair m off before x y qs back some.0 more.0 parts same in
    both_spare p pair (pairs_in m (may_join x) (i + length x) (y ∷ qs))
    (subst (λ b. SparesPlace p (cond b ((i, i + (length x + length y)) ∷ []) [])) (sym whole) tt)
    (later_spares m (may_join x) (i + length x) p (y ∷ qs) (omega arith))
broken_spares m off before i p (x ∷ (z ∷ ps)) qs back some more zs place parts same =
    let v : Glyph → Glyph = with_mask_by without_flags in
    let made = formed (form_masks m) before (may_join z) x in
    let whole = forms_in m (may_join x) ((z ∷ ps) ++ qs) in
    let front = forms_in m (may_join x) (z ∷ ps) in
    let there : p ≡ (i + length x) + length (flat_map (λ q. q) (z ∷ ps)) =
    place ∙ omega (arith, length-append x (flat_map (λ q. q) (z ∷ ps))) in
    let cut : flagless made ++ flagless whole ≡ flagless made ++ (flagless front ++ back) =
    sym (map-append v made whole) ∙ parts ∙ ap (λ l. l ++ back) (map-append v made front)
    ∙ append_assoc (flagless made) (flagless front) back in
    let (own, rest) = parts_are (flagless made) (flagless whole) (flagless made) (flagless front ++ back) cut refl in
    let end = i + (length x + length z) in
    let last : end ≤ p = omega (arith, there, length-append z (flat_map (λ q. q) ps)) in
    both_spare p (pair_in m before i x ((z ∷ ps) ++ qs))
    (pairs_in m (may_join x) (i + length x) ((z ∷ ps) ++ qs))
    (one_spares p i end
    (may_join x && (may_join z && is_torn (form_masks m) before (first_joins (ps ++ qs)))) (not_behind i
    end p last))
    (broken_spares m off (may_join x) (i + length x) p (z ∷ ps) qs back some.1 more (omega arith) there rest same)

-- without masks of forms no pair is torn
none_torn : (m : Map) → all_forms (form_masks m) ≡ 0 → (before behind : Bool) → is_torn (form_masks m) before behind
    ≡ false
none_torn m none before behind =
    let masks = form_masks m in
    let zero : (a b : Bool) → mask_between masks a b ≡ 0 = λ a b. same_from_bits (mask_between masks a b) 0 (λ i.
    let among = form_among m a b i in
    let bits : bit_at (all_forms masks) i ≡ bit_at 0 i = ap (λ n. bit_at n i) none in
    let own = bit_at-zero i in
    omega arith) in
    untorn (mask_between masks before true) (mask_between masks before false) (mask_between masks true behind)
    (mask_between masks false behind) (zero before true ∙ sym (zero before false))
    (zero true behind ∙ sym (zero false behind))

none_pairs : (m : Map) → all_forms (form_masks m) ≡ 0 → (before : Bool) (i p : ℕ) (ps : List Glyphs)
    → SparesPlace p (pairs_in m before i ps)
none_pairs m none before i p [] = tt
none_pairs m none before i p (x ∷ []) = tt
none_pairs m none before i p (x ∷ (y ∷ ps)) =
    let test = may_join x && (may_join y && is_torn (form_masks m) before (first_joins ps)) in
    let whole : test ≡ false = tested (may_join x) (may_join y) (is_torn (form_masks m) before (first_joins ps))
    (λ a b. none_torn m none before (first_joins ps)) in
    both_spare p (pair_in m before i x (y ∷ ps)) (pairs_in m (may_join x) (i + length x) (y ∷ ps))
    (subst (λ b. SparesPlace p (cond b ((i, i + (length x + length y)) ∷ []) [])) (sym whole) tt)
    (none_pairs m none (may_join x) (i + length x) p (y ∷ ps))

spared_none : (p : ℕ) (sts : List (ℕ × ℕ)) → SparesPlace p sts
    → list_any (λ st. nat_lt st.0 p && nat_lt p st.1) sts ≡ false
spared_none p [] h = refl
spared_none p (st ∷ sts) h = ap (λ b. b || list_any (λ st. nat_lt st.0 p && nat_lt p st.1) sts) h.0
    ∙ spared_none p sts h.1

-- the text in its forms
text_spares : (m : Map) → FormsOffFlags None m → (gs hs back : Glyphs) → 0 < length gs
    → syllables (gs ++ hs) ≡ syllables gs ++ syllables hs → (t : Bool) → (all_forms (form_masks m) == 0) ≡ t
    → flagless (if t then gs ++ hs else forms_in m false (syllables (gs ++ hs)))
    ≡ flagless (if t then gs else forms_in m false (syllables gs)) ++ back
    → map unnumbered back ≡ map unnumbered (flagless (if t then hs else forms_in m false (syllables hs)))
    → SparesPlace (length gs) (pairs_in m false 0 (syllables (gs ++ hs)))
text_spares m off gs hs back some pieces true none parts same =
    none_pairs m (eqb-true (all_forms (form_masks m)) 0 none) false 0 (length gs) (syllables (gs ++ hs))
text_spares m off gs hs back some pieces false none parts same =
    subst (λ ps. SparesPlace (length gs) (pairs_in m false 0 ps)) (sym pieces)
    (broken_spares m off false 0 (length gs) (syllables gs) (syllables hs) back
    (none_empty (syllables gs) (syllables_cut gs)) (none_empty (syllables hs) (syllables_cut hs))
    (some_syllable gs some) (omega (arith, ap length (joined-syllables gs)))
    (ap (λ ps. flagless (forms_in m false ps)) (sym pieces) ∙ parts) same)

pub no_form_flag_is_needless : NoFormFlagIsNeedless
no_form_flag_is_needless plan font spans old new kinds covers none off setup p z l torn s =
    let kept = plan.plan_data in
    let m = plan.ot_map in
    let breaks = plan.break_flags in
    let v : Glyph → Glyph = with_mask_by without_flags in
    let all = old.glyphs in
    let n = length all in
    let ss = s.border.front in
    let ts = s.border.back in
    let gs = take p all in
    let hs = drop p all in
    let back = s.halves.behind in
    let long : p < n = subst (λ k. p < k) (ap (λ (b : Buffer). length b.glyphs) setup
    ∙ length_under breaks kept m off spans all old) l in
    let cut = cover_cut spans ss ts n p s.border.split covers s.border.place in
    let here : length gs ≡ p = length-take-le p all (omega arith) in
    let first : spans_cover (length gs) ss ≡ true = ap (λ k. spans_cover k ss) here ∙ cut.first in
    let second : spans_cover (length hs) ts ≡ true = ap (λ k. spans_cover k ts) (length-drop p all) ∙ cut.second in
    let mask = rphf_of kept in
    let parts = led_halves mask spans ss ts gs hs old kinds s.border.split (sym (take-append-drop p all)) first
    second in
    let forms = with_form_masks (form_masks m) in
    let front = led mask ss gs in
    let behind = parts.behind in
    let alone = led mask ts hs in
    let masked : (is : List Span) (xs : Glyphs) → setup_by_spans kept m is xs ≡ forms (led mask is xs) =
    λ is xs. ap (λ a. with_forms_for a m (led mask is xs)) none in
    let shown : (is : List Span) (xs : Glyphs) → sound_setup kept m is xs ≡ flagless (forms (led mask is xs)) =
    λ is xs. flags_hidden (arabic_of kept) m (setup_by_spans kept m is xs) ∙ ap flagless (masked is xs) in
    let whole : setup_by_spans kept m spans all ≡ forms (front ++ behind) = masked spans all ∙ ap forms parts.parts in
    let seen : flagless new.glyphs ≡ flagless (forms (front ++ behind)) = ap (λ (b : Buffer). flagless b.glyphs) setup
    ∙ map-forms_flagged v (λ g. ap (λ k. let r : Glyph = record g { mask = k } in r)
    (without_flags-or g.mask 3 refl)) (arabic_of kept) breaks m (setup_by_spans kept m spans all)
    ∙ ap flagless whole in
    let joined : flagless (forms (front ++ behind)) ≡ flagless (forms front) ++ back = sym seen ∙ s.halves.parts
    ∙ ap (λ xs. xs ++ back) (shown ss gs) in
    let own : SameButSerials back (flagless (forms alone)) = subst (SameButSerials back) (shown ts hs)
    s.halves.renumbered in
    let same : SameButSerials back (flagless (forms behind)) = own
    ∙ sym (same-by without_flags (forms behind) (forms alone) (text_same m behind alone parts.renumbered)) in
    let place : length front ≡ p = length-led mask ss gs old ∙ here in
    let off_all : FormsOffFlags None m = subst (λ a. FormsOffFlags a m) none off in
    let spared = text_spares m off_all front behind back (omega arith) (syllables-append front behind parts.border)
    (all_forms (form_masks m) == 0) refl joined (same_text back (flagless (forms behind)) same) in
    let shape : KeepShapes (front ++ behind) (forms (front ++ behind)) = forms_for_kept None m off_all (front
    ++ behind) in
    let pairs : pairs_in m false 0 (syllables (setup_by_spans kept m spans all))
    ≡ pairs_in m false 0 (syllables (front ++ behind)) = ap (λ xs. pairs_in m false 0 (syllables xs)) whole
    ∙ pairs_kept m false 0 (syllables (front ++ behind)) (syllables (forms (front ++ behind)))
    (syllables_kept (front ++ behind) (forms (front ++ behind)) shape) in
    both_ways _ (spared_none p (pairs_in m false 0 (syllables (setup_by_spans kept m spans all)))
    (subst (SparesPlace p) (sym pairs)
    (subst (λ k. SparesPlace k (pairs_in m false 0 (syllables (front ++ behind)))) place spared))) torn
