-- With Sound no clear place of a universal text parts two syllables whose forms a break would change.
use Rattle.std.proofs.Common.{ℕ, suc, if◌then◌else◌, cond, nat_lt, ◌+◌, ◌-◌, ◌<◌, ◌≤◌, ◌≡◌, ◌==◌, ◌&&◌, ◌||◌, min, not, Bool, true, false, inl, inr, List, [], ◌∷◌, ◌++◌, length, map, take, drop, slice_index, refl, sym, ap, ◌∙◌, subst, arith, length-append, length-drop}
use Rattle.std.specs.Prelude.{Option, None, All}
use Rattle.std.specs.List.{AllByRecursion, flat_map, list_any}
use Rattle.std.proofs.lemmas.Bool.{eqb-true, or_parts, true≢false}
use Rattle.std.proofs.lemmas.Bool.Decides.{nat_tests}
use Rattle.std.proofs.lemmas.List.{append-nil, append_assoc, drop-map, length-map, length-take-le, map-append, take-append-drop, take-map}
use Rattle.std.proofs.lemmas.List.Concat.{flat_map-append}
use Rattle.std.proofs.lemmas.List.Elements.{All-append, All-drop, All-map, All-take}
use Rattle.std.proofs.lemmas.Simd.{map-map}
use Rattle.shapers_buffer.specs.Glyphs.{Glyph, Glyphs}
use Rattle.shapers_buffer.specs.declared.buffer.syllables.Span.{Span}
use Rattle.shapers_buffer.specs.Buffer.{Buffer}
use Rattle.shapers_buffer.specs.Glyph.{without_flags}
use Rattle.shapers_buffer.specs.GlyphFlags.{FlagCall, UnsafeToBreak, flags_called, unsafe_all, unsafe_inside, with_bits}
use Rattle.shapers_buffer.specs.Syllables.{kind_of, spans_cover, syllables, with_spans}
use Rattle.shapers_buffer.proofs.MappedLists.{map-seen}
use Rattle.shapers_base.specs.Map.{Map}
use Rattle.shapers_base.specs.declared.plan.PlanData.{PlanData}
use Rattle.shapers_base.specs.declared.plan.arabic.arabic_shape_plan_t.{arabic_shape_plan_t}
use Rattle.shapers_base.specs.declared.plan.breaks.BreakFlags.TheVariants.{Sound}
use Rattle.shapers_clusters.specs.Breaks.{IsClear, forbids}
use Rattle.shapers_clusters.specs.Flags.{InOrder}
use Rattle.shapers_clusters.proofs.ClearPlaces.{clear-places, length-same}
use Rattle.shapers_clusters.proofs.FlagCalls.{without_flags-or}
use Rattle.shapers_syllabic.specs.declared.ot_shaper_syllabic.kinds.use_syllable.TheConstants.{BROKEN_CLUSTER, HIEROGLYPH_CLUSTER, NON_CLUSTER}
use Rattle.shapers_syllabic.specs.Borders.{MeetAtBorder, SameButSerials, unnumbered}
use Rattle.shapers_syllabic.specs.ReorderingLaws.{with_mask_by}
use Rattle.shapers_syllabic.specs.Syllabic.{unsafe_spans}
use Rattle.shapers_syllabic.proofs.Borders.{Cut, IsUniform, OfByte, SameEnds, border_by, bytes, cut_is, ends-kept, syllables-append, syllables-mapped, syllables_cut}
use Rattle.shapers_syllabic.proofs.CircleLaws.{joined-syllables}
use Rattle.shapers_syllabic.proofs.HiddenCuts.{same-by}
use Rattle.shapers_syllabic.proofs.PauseCuts.{clusters-setup}
use Rattle.shapers_syllabic.proofs.Serials.{KeepsSame, pieces_same}
use Rattle.shapers_syllabic.proofs.SpanCuts.{spans_cut}
use Rattle.shapers_universal.specs.declared.ot_shaper_use.category.TheConstants.{R}
use Rattle.shapers_universal.specs.PlanData.{arabic_of, rphf_of}
use Rattle.shapers_universal.specs.UniversalLaws.{setup_by_spans}
use Rattle.shapers_universal.specs.UniversalSyllables.{all_forms, first_joins, form_masks, formed, forms_flagged, in_forms, is_torn, may_join, mask_between, rphf_len, syllables_setup, torn_pair, torn_pairs, with_form_masks, with_forms_flagged, with_forms_for, with_instead, with_rphf}
use Rattle.shapers_universal.proofs.TornPairs.{map-forms_flagged}
use Rattle.shapers_break_laws.specs.ScriptBreaks.{FormsOffFlags}
use Rattle.shapers_break_laws.specs.Setup.{SpanBorder}
use Rattle.shapers_break_laws.specs.UniversalSound.{SoundlyBroken, UniversalSoundBreaks, flagless, sound_setup}
use Rattle.shapers_break_laws.proofs.Guarded.{clear_not_flagged}
use Rattle.shapers_break_laws.proofs.Setup.{cover_cut, guarded_border, setup_guarded}
use Rattle.shapers_break_laws.proofs.UniversalSetup.{KeepPieces, KeepShapes, flagged_kept, forms_for_kept, guarded_kept, long_kept, rphfs_kept, syllables_kept}

-- forms, and the stretches of torn pairs, by the masks in a map
abbrev pub forms_in : Map → Bool → List Glyphs → Glyphs
forms_in m before ps = in_forms (form_masks m) before ps

abbrev pub pair_in : Map → Bool → ℕ → Glyphs → List Glyphs → List (ℕ × ℕ)
pair_in m before i p ps = torn_pair (form_masks m) before i p ps

abbrev pub pairs_in : Map → Bool → ℕ → List Glyphs → List (ℕ × ℕ)
pairs_in m before i ps = torn_pairs (form_masks m) before i ps

-- texts of the same bytes meet others at the same borders
length-bytes : (gs hs : Glyphs) → bytes gs ≡ bytes hs → length gs ≡ length hs
length-bytes gs hs same =
    let byte : Glyph → ℕ = λ g. g.syllable in
    sym (length-map gs byte) ∙ ap length same ∙ length-map hs byte

pub meet_same : (gs hs xs ys : Glyphs) → bytes xs ≡ bytes gs → bytes ys ≡ bytes hs → MeetAtBorder gs hs
    → MeetAtBorder xs ys
meet_same gs hs xs ys a b border some more same =
    let m = length-bytes xs gs a in
    let n = length-bytes ys hs b in
    border (omega arith) (omega arith)
    (ap (λ k. slice_index (bytes gs) (k - 1)) (sym m) ∙ ap (λ bs. slice_index bs (length xs - 1)) (sym a) ∙ same
    ∙ ap (λ bs. slice_index bs 0) b)

-- a syllable in its form has its bytes
formed_bytes : (m : Map) (before behind : Bool) (p : Glyphs) → bytes (formed (form_masks m) before behind p) ≡ bytes p
formed_bytes m before behind p =
    let byte : Glyph → ℕ = λ g. g.syllable in
    let f = with_instead (all_forms (form_masks m)) (mask_between (form_masks m) before behind) in
    elim (may_join p) as (λ b. bytes (if b then map f p else p) ≡ bytes p) [
      | true ↦ map-map byte f p
      | false ↦ refl
    ]

formed_of : (m : Map) (before behind : Bool) (byte : ℕ) (p : Glyphs) → OfByte byte p → OfByte byte
    (formed (form_masks m) before behind p)
formed_of m before behind byte p u =
    let f = with_instead (all_forms (form_masks m)) (mask_between (form_masks m) before behind) in
    let P : Glyph → Type 0 = λ g. g.syllable ≡ byte in
    elim (may_join p) as (λ b. OfByte byte (if b then map f p else p)) [
      | true ↦ record { some = subst (λ n. 0 < n) (sym (length-map p f)) u.some; all = All-map P f p u.all }
      | false ↦ u
    ]

-- syllables in their forms, one by one
form_pieces : Map → Bool → List Glyphs → List Glyphs
form_pieces m before [] = []
form_pieces m before (p ∷ ps) = formed (form_masks m) before (first_joins ps) p ∷ form_pieces m (may_join p) ps

forms_joined : (m : Map) (before : Bool) (ps : List Glyphs) → forms_in m before ps ≡ flat_map (λ p. p)
    (form_pieces m before ps)
unfolding form_pieces
forms_joined m before [] = refl
forms_joined m before (p ∷ ps) = ap (λ l. formed (form_masks m) before (first_joins ps) p ++ l)
    (forms_joined m (may_join p) ps)

forms_bytes : (m : Map) (before : Bool) (ps : List Glyphs) → bytes (forms_in m before ps) ≡ bytes
    (flat_map (λ p. p) ps)
forms_bytes m before [] = refl
forms_bytes m before (p ∷ ps) =
    let byte : Glyph → ℕ = λ g. g.syllable in
    let rest = forms_in m (may_join p) ps in
    map-append byte (formed (form_masks m) before (first_joins ps) p) rest
    ∙ ap (λ l. l ++ bytes rest) (formed_bytes m before (first_joins ps) p)
    ∙ ap (λ l. bytes p ++ l) (forms_bytes m (may_join p) ps)
    ∙ sym (map-append byte p (flat_map (λ q. q) ps))

forms_cut : (m : Map) (before : Bool) (ps : List Glyphs) → Cut ps → Cut (form_pieces m before ps)
unfolding form_pieces
forms_cut m before [] u = tt
forms_cut m before (p ∷ ps) u =
    let made = formed (form_masks m) before (first_joins ps) p in
    let rest = form_pieces m (may_join p) ps in
    let one : IsUniform made = (u.0.0, formed_of m before (first_joins ps) u.0.0 p u.0.1) in
    let same : bytes (flat_map (λ q. q) rest) ≡ bytes (flat_map (λ q. q) ps) =
    ap bytes (sym (forms_joined m (may_join p) ps)) ∙ forms_bytes m (may_join p) ps in (
      one,
      meet_same p (flat_map (λ q. q) ps) made (flat_map (λ q. q) rest)
          (formed_bytes m before (first_joins ps) p) same u.1,
      forms_cut m (may_join p) ps u.2,
    )

-- which don't read serials
joins-unnumbered : (p : Glyphs) → may_join (map unnumbered p) ≡ may_join p
joins-unnumbered [] = refl
joins-unnumbered (g ∷ gs) =
    let same : kind_of (kind_of g.syllable) ≡ kind_of g.syllable = omega arith in
    ap (λ k. not (k == HIEROGLYPH_CLUSTER) && not (k == NON_CLUSTER)) same

first-unnumbered : (ps : List Glyphs) → first_joins (map (map unnumbered) ps) ≡ first_joins ps
first-unnumbered [] = refl
first-unnumbered (p ∷ ps) = joins-unnumbered p

formed-unnumbered : (m : Map) (before behind : Bool) (p : Glyphs) → map unnumbered
    (formed (form_masks m) before behind p) ≡ formed (form_masks m) before behind (map unnumbered p)
formed-unnumbered m before behind p =
    let f = with_instead (all_forms (form_masks m)) (mask_between (form_masks m) before behind) in
    let xs = map unnumbered p in
    elim (may_join p) as (λ b. map unnumbered (if b then map f p else p) ≡ (if b then map f xs else xs)) [
      | true ↦ map-seen unnumbered f (λ g. refl) p
      | false ↦ refl
    ]
    ∙ ap (λ b. if b then map f xs else xs) (sym (joins-unnumbered p))

forms-unnumbered : (m : Map) (before : Bool) (ps : List Glyphs) → map (map unnumbered)
    (form_pieces m before ps) ≡ form_pieces m before (map (map unnumbered) ps)
unfolding form_pieces
forms-unnumbered m before [] = refl
forms-unnumbered m before (p ∷ ps) =
    let xs = map unnumbered p in
    let xss = map (map unnumbered) ps in
    ap (λ l. l ∷ map (map unnumbered) (form_pieces m (may_join p) ps))
    (formed-unnumbered m before (first_joins ps) p
    ∙ ap (λ b. formed (form_masks m) before b xs) (sym (first-unnumbered ps)))
    ∙ ap (λ l. formed (form_masks m) before (first_joins xss) xs ∷ l) (forms-unnumbered m (may_join p) ps
    ∙ ap (λ b. form_pieces m b xss) (sym (joins-unnumbered p)))

forms_same : (m : Map) (gs hs : Glyphs) → SameButSerials gs hs → SameButSerials
    (forms_in m false (syllables gs)) (forms_in m false (syllables hs))
forms_same m gs hs same =
    let told : (xs : Glyphs) → map (map unnumbered) (syllables (forms_in m false (syllables xs))) ≡ form_pieces
    m false (map (map unnumbered) (syllables xs)) = λ xs. ap (λ l. map (map unnumbered) (syllables l))
    (forms_joined m false (syllables xs))
    ∙ ap (map (map unnumbered)) (cut_is (form_pieces m false (syllables xs))
    (forms_cut m false (syllables xs) (syllables_cut xs)))
    ∙ forms-unnumbered m false (syllables xs) in
    told gs ∙ ap (form_pieces m false) same ∙ sym (told hs)

pub text_same : (m : Map) (gs hs : Glyphs) → SameButSerials gs hs → SameButSerials (with_form_masks (form_masks m) gs)
    (with_form_masks (form_masks m) hs)
text_same m gs hs same = elim (all_forms (form_masks m) == 0) as (λ b. SameButSerials
    (if b then gs else forms_in m false (syllables gs)) (if b then hs else forms_in m false (syllables hs))) [
      | true ↦ same
      | false ↦ forms_same m gs hs same
    ]

pub text_bytes : (m : Map) (gs : Glyphs) → bytes (with_form_masks (form_masks m) gs) ≡ bytes gs
text_bytes m gs = elim (all_forms (form_masks m) == 0) as
    (λ b. bytes (if b then gs else forms_in m false (syllables gs)) ≡ bytes gs) [
      | true ↦ refl
      | false ↦ forms_bytes m false (syllables gs) ∙ ap bytes (joined-syllables gs)
    ]

-- two syllables that aren't torn keep their forms where they part
same_left : (u v : ℕ) (e b : Bool) → (u == v) ≡ e → (not e || b) ≡ false → u ≡ v
same_left u v true b is h = eqb-true u v is
same_left u v false b is h = absurd (true≢false h)

same_right : (u v : ℕ) (e b : Bool) → (u == v) ≡ e → (b || not e) ≡ false → u ≡ v
same_right u v true b is h = eqb-true u v is
same_right u v false false is h = absurd (true≢false h)
same_right u v false true is h = absurd (true≢false h)

first_stays : (m : Map) (before behind x y : Bool) (p : Glyphs) → (x && (y && is_torn (form_masks m) before behind)) ≡
    false → (if x then map (with_instead (all_forms (form_masks m)) (mask_between (form_masks m) before y)) p else p) ≡
    (if x then map (with_instead (all_forms (form_masks m)) (mask_between (form_masks m) before false)) p else p)
first_stays m before behind true true p h = ap (λ bits. map (with_instead (all_forms (form_masks m)) bits) p)
    (same_left (mask_between (form_masks m) before true) (mask_between (form_masks m) before false)
    (mask_between (form_masks m) before true == mask_between (form_masks m) before false)
    (not (mask_between (form_masks m) true behind == mask_between (form_masks m) false behind)) refl h)
first_stays m before behind true false p h = refl
first_stays m before behind false y p h = refl

second_stays : (m : Map) (before behind x y : Bool) (q : Glyphs) → (x && (y && is_torn (form_masks m) before behind)) ≡
    false → (if y then map (with_instead (all_forms (form_masks m)) (mask_between (form_masks m) x behind)) q else q) ≡
    (if y then map (with_instead (all_forms (form_masks m)) (mask_between (form_masks m) false behind)) q else q)
second_stays m before behind true true q h = ap (λ bits. map (with_instead (all_forms (form_masks m)) bits) q)
    (same_right (mask_between (form_masks m) true behind) (mask_between (form_masks m) false behind)
    (mask_between (form_masks m) true behind == mask_between (form_masks m) false behind)
    (not (mask_between (form_masks m) before true == mask_between (form_masks m) before false)) refl h)
second_stays m before behind true false q h = refl
second_stays m before behind false true q h = refl
second_stays m before behind false false q h = refl

-- stretches none of which holds both sides of a place
abbrev pub SparesPlace : ℕ → List (ℕ × ℕ) → Type 0
SparesPlace p sts = AllByRecursion (λ st. (nat_lt st.0 p && nat_lt p st.1) ≡ false) sts

pub spares_front : (p : ℕ) (xs ys : List (ℕ × ℕ)) → SparesPlace p (xs ++ ys) → SparesPlace p xs
spares_front p [] ys h = tt
spares_front p (x ∷ xs) ys h = (h.0, spares_front p xs ys h.1)

spares_behind : (p : ℕ) (xs ys : List (ℕ × ℕ)) → SparesPlace p (xs ++ ys) → SparesPlace p ys
spares_behind p [] ys h = h
spares_behind p (x ∷ xs) ys h = spares_behind p xs ys h.1

not_torn : (s e p : ℕ) (b c : Bool) → b ≡ c → s < p → p < e → SparesPlace p (cond b ((s, e) ∷ []) []) → b ≡ false
not_torn s e p b false is low high h = is
not_torn s e p b true is low high h =
    let found = subst (λ b. SparesPlace p (cond b ((s, e) ∷ []) [])) is h in
    let both : (nat_lt s p && nat_lt p e) ≡ false = found.0 in
    absurd (grind (arith, nat_tests))

-- so syllables cut at a place that is spared have the forms of the whole
forms_split : (m : Map) (before : Bool) (i p : ℕ) (ps qs : List Glyphs)
    → AllByRecursion (λ q. 0 < length q) ps → AllByRecursion (λ q. 0 < length q) qs → 0 < length ps
    → p ≡ i + length (flat_map (λ q. q) ps) → SparesPlace p (pairs_in m before i (ps ++ qs))
    → forms_in m before (ps ++ qs) ≡ forms_in m before ps ++ forms_in m false qs
forms_split m before i p [] qs some more z place h = absurd (omega arith)
forms_split m before i p (x ∷ []) [] some more z place h = sym (append-nil (forms_in m before (x ∷ [])))
forms_split m before i p (x ∷ []) (y ∷ qs) some more z place h =
    let end = i + (length x + length y) in
    let test = may_join x && (may_join y && is_torn (form_masks m) before (first_joins qs)) in
    let here : p ≡ i + length x = place ∙ ap (λ xs. i + length xs) (append-nil x) in
    let some_x = some.0 in
    let some_y = more.0 in
    let one : SparesPlace p (pair_in m before i x (y ∷ qs)) =
    spares_front p (pair_in m before i x (y ∷ qs)) (pairs_in m (may_join x) (i + length x) (y ∷ qs)) h in
    let whole : test ≡ false = not_torn i end p test test refl (omega arith) (omega arith) one in
    ap (λ l. l ++ forms_in m (may_join x) (y ∷ qs))
    (first_stays m before (first_joins qs) (may_join x) (may_join y) x whole)
    ∙ ap (λ l. formed (form_masks m) before false x ++ (l ++ forms_in m (may_join y) qs))
    (second_stays m before (first_joins qs) (may_join x) (may_join y) y whole)
    ∙ ap (λ l. l ++ forms_in m false (y ∷ qs)) (sym (append-nil (formed (form_masks m) before false x)))
forms_split m before i p (x ∷ (y ∷ ps)) qs some more z place h =
    let first = formed (form_masks m) before (may_join y) x in
    let rest = forms_in m (may_join x) (y ∷ ps) in
    let there : p ≡ (i + length x) + length (flat_map (λ q. q) (y ∷ ps)) =
    place ∙ omega (arith, length-append x (flat_map (λ q. q) (y ∷ ps))) in
    let later = spares_behind p (pair_in m before i x ((y ∷ ps) ++ qs))
    (pairs_in m (may_join x) (i + length x) ((y ∷ ps) ++ qs)) h in
    ap (λ l. first ++ l)
    (forms_split m (may_join x) (i + length x) p (y ∷ ps) qs some.1 more (omega arith) there later)
    ∙ sym (append_assoc first rest (forms_in m false qs))

-- flag calls over the stretches
abbrev called : ℕ × ℕ → FlagCall
called st = UnsafeToBreak st.0 st.1

called_all : (sts : List (ℕ × ℕ)) (gs : Glyphs) → unsafe_all sts gs ≡ flags_called false false (map called sts) gs
called_all [] gs = refl
called_all (st ∷ sts) gs = called_all sts (unsafe_inside st.0 st.1 gs)

called_in_order : (sts : List (ℕ × ℕ)) → AllByRecursion (λ st. st.0 ≤ st.1) sts
    → AllByRecursion InOrder (map called sts)
called_in_order [] h = tt
called_in_order (st ∷ sts) h = (h.0, called_in_order sts h.1)

pair_in_order : (m : Map) (before : Bool) (i : ℕ) (p : Glyphs) (ps : List Glyphs) (rest : List (ℕ × ℕ))
    → AllByRecursion (λ st. st.0 ≤ st.1) rest → AllByRecursion (λ st. st.0 ≤ st.1) (pair_in m before i p ps ++ rest)
pair_in_order m before i p [] rest all = all
pair_in_order m before i p (q ∷ ps) rest all =
    elim (may_join p && (may_join q && is_torn (form_masks m) before (first_joins ps))) as (λ b.
    AllByRecursion (λ st. st.0 ≤ st.1) (cond b ((i, i + (length p + length q)) ∷ []) [] ++ rest)) [
      | true ↦ (omega arith, all)
      | false ↦ all
    ]

pairs_in_order : (m : Map) (before : Bool) (i : ℕ) (ps : List Glyphs) → AllByRecursion (λ st. st.0 ≤ st.1)
    (pairs_in m before i ps)
pairs_in_order m before i [] = tt
pairs_in_order m before i (p ∷ ps) = pair_in_order m before i p ps
    (pairs_in m (may_join p) (i + length p) ps) (pairs_in_order m (may_join p) (i + length p) ps)

free_spares : (p : ℕ) (sts : List (ℕ × ℕ)) → list_any (forbids p) (map called sts) ≡ false → SparesPlace p sts
free_spares p [] h = tt
free_spares p (st ∷ sts) h =
    let (one, rest) = or_parts (nat_lt st.0 p && nat_lt p st.1) (list_any (forbids p) (map called sts)) h in
    (one, free_spares p sts rest)

clear_spares : (sts : List (ℕ × ℕ)) (gs : Glyphs) (p : ℕ) → AllByRecursion (λ st. st.0 ≤ st.1) sts → 0 < p
    → p < length gs → IsClear (unsafe_all sts gs) p → SparesPlace p sts
clear_spares sts gs p order z l clear = free_spares p sts (clear-places false false (map called sts) gs p
    (called_in_order sts order) z l (subst (λ xs. IsClear xs p) (called_all sts gs) clear))

-- they are the same whatever the masks
joins_kept : (p q : Glyphs) → KeepShapes p q → may_join q ≡ may_join p
joins_kept [] [] k = refl
joins_kept [] (y ∷ q) k = absurd k
joins_kept (x ∷ p) [] k = absurd k
joins_kept (x ∷ p) (y ∷ q) k =
    ap (λ b. not (kind_of b == HIEROGLYPH_CLUSTER) && not (kind_of b == NON_CLUSTER)) k.0.byte

first_kept : (ps qs : List Glyphs) → KeepPieces ps qs → first_joins qs ≡ first_joins ps
first_kept [] [] k = refl
first_kept [] (q ∷ qs) k = absurd k
first_kept (p ∷ ps) [] k = absurd k
first_kept (p ∷ ps) (q ∷ qs) k = joins_kept p q k.0

pair_kept : (m : Map) (before : Bool) (i : ℕ) (p q : Glyphs) (ps qs : List Glyphs) → KeepShapes p q
    → KeepPieces ps qs → pair_in m before i q qs ≡ pair_in m before i p ps
pair_kept m before i p q [] [] k more = refl
pair_kept m before i p q [] (y ∷ qs) k more = absurd more
pair_kept m before i p q (x ∷ ps) [] k more = absurd more
pair_kept m before i p q (x ∷ ps) (y ∷ qs) k more =
    let shown : Bool → Bool → Bool → ℕ → ℕ → List (ℕ × ℕ) =
    λ a b c k n. cond (a && (b && is_torn (form_masks m) before c)) ((i, i + (k + n)) ∷ []) [] in
    ap (λ a. shown a (may_join y) (first_joins qs) (length q) (length y)) (joins_kept p q k)
    ∙ ap (λ b. shown (may_join p) b (first_joins qs) (length q) (length y)) (joins_kept x y more.0)
    ∙ ap (λ c. shown (may_join p) (may_join x) c (length q) (length y)) (first_kept ps qs more.1)
    ∙ ap (λ k. shown (may_join p) (may_join x) (first_joins ps) k (length y)) (long_kept p q k)
    ∙ ap (shown (may_join p) (may_join x) (first_joins ps) (length p)) (long_kept x y more.0)

pub pairs_kept : (m : Map) (before : Bool) (i : ℕ) (ps qs : List Glyphs) → KeepPieces ps qs
    → pairs_in m before i qs ≡ pairs_in m before i ps
pairs_kept m before i [] [] k = refl
pairs_kept m before i [] (q ∷ qs) k = absurd k
pairs_kept m before i (p ∷ ps) [] k = absurd k
pairs_kept m before i (p ∷ ps) (q ∷ qs) k =
    ap (λ l. l ++ pairs_in m (may_join q) (i + length q) qs) (pair_kept m before i p q ps qs k.0 k.1)
    ∙ ap (λ b. pair_in m before i p ps ++ pairs_in m b (i + length q) qs) (joins_kept p q k.0)
    ∙ ap (λ n. pair_in m before i p ps ++ pairs_in m (may_join p) (i + n) qs) (long_kept p q k.0)
    ∙ ap (λ l. pair_in m before i p ps ++ l) (pairs_kept m (may_join p) (i + length p) ps qs k.1)

-- no syllable is empty
pub none_empty : (ps : List Glyphs) → Cut ps → AllByRecursion (λ p. 0 < length p) ps
none_empty [] u = tt
none_empty (p ∷ ps) u = (u.0.1.some, none_empty ps u.2)

pub some_syllable : (gs : Glyphs) → 0 < length gs → 0 < length (syllables gs)
some_syllable gs z =
    let text = joined-syllables gs in
    let go : (ps : List Glyphs) → 0 < length (flat_map (λ p. p) ps) → 0 < length ps = λ ps. elim ps as
    (λ ps. 0 < length (flat_map (λ p. p) ps) → 0 < length ps) [
      | [] ↦ λ h. h
      | (p ∷ ps) ↦ λ h. omega arith
    ] in
    go (syllables gs) (subst (λ xs. 0 < length xs) (sym text) z)

-- the text in its forms, where it is clear between two parts
text_split : (m : Map) (gs hs : Glyphs) → FormsOffFlags None m → MeetAtBorder gs hs → 0 < length gs → 0 < length hs
    → IsClear (forms_flagged None Sound m (with_form_masks (form_masks m) (gs ++ hs))) (length gs)
    → with_form_masks (form_masks m) (gs ++ hs) ≡ with_form_masks (form_masks m) gs ++ with_form_masks (form_masks m) hs
text_split m gs hs off border some more clear =
    let whole = with_form_masks (form_masks m) (gs ++ hs) in
    let shape : KeepShapes (gs ++ hs) whole = forms_for_kept None m off (gs ++ hs) in
    let pairs = pairs_in m false 0 (syllables whole) in
    let long = long_kept (gs ++ hs) whole shape in
    let spared : SparesPlace (length gs) pairs = clear_spares pairs whole (length gs)
    (pairs_in_order m false 0 (syllables whole)) some (omega (arith, long, length-append gs hs)) clear in
    let parts = syllables-append gs hs border in
    let same : pairs ≡ pairs_in m false 0 (syllables gs ++ syllables hs) =
    pairs_kept m false 0 (syllables (gs ++ hs)) (syllables whole) (syllables_kept (gs ++ hs) whole shape)
    ∙ ap (pairs_in m false 0) parts in
    let length-joined = ap length (sym (joined-syllables gs)) in
    let split = ap (forms_in m false) parts
    ∙ forms_split m false 0 (length gs) (syllables gs) (syllables hs) (none_empty (syllables gs) (syllables_cut gs))
    (none_empty (syllables hs) (syllables_cut hs)) (some_syllable gs some) (omega (arith, length-joined))
    (subst (SparesPlace (length gs)) same spared) in
    elim (all_forms (form_masks m) == 0) as (λ b. (if b then gs ++ hs else forms_in m false (syllables (gs ++ hs))) ≡
    (if b then gs else forms_in m false (syllables gs)) ++ (if b then hs else forms_in m false (syllables hs)))
    [ true ↦ refl | false ↦ split ]

-- the glyphs that spans set up, with the masks of rphf and no forms
abbrev pub led : ℕ → List Span → Glyphs → Glyphs
led mask spans gs = flat_map (with_rphf mask) (syllables (unsafe_spans spans gs))

pub length-led : (mask : ℕ) (spans : List Span) (gs : Glyphs) (old : Buffer) → length (led mask spans gs) ≡ length gs
length-led mask spans gs old =
    let bare = unsafe_spans spans gs in
    let shape = rphfs_kept mask (syllables bare) in
    long_kept (flat_map (λ p. p) (syllables bare)) (led mask spans gs) shape
    ∙ ap length (joined-syllables bare)
    ∙ length-same gs bare (clusters-setup spans BROKEN_CLUSTER (record old { glyphs = gs }))

pub record LedHalves (mask : ℕ) (spans ss ts : List Span) (gs hs : Glyphs) (old : Buffer) : Type 0 where
  pub behind : Glyphs
  pub parts : led mask spans old.glyphs ≡ led mask ss gs ++ behind
  pub renumbered : SameButSerials behind (led mask ts hs)
  pub border : MeetAtBorder (led mask ss gs) behind
  pub broken : (with_spans spans BROKEN_CLUSTER old).broken
      ≡ ((with_spans ss BROKEN_CLUSTER old).broken || (with_spans ts BROKEN_CLUSTER old).broken)

-- the mask of rphf keeps bytes, and reads no serials
rphf_of_byte : (mask byte : ℕ) (gs : Glyphs) → OfByte byte gs → OfByte byte (with_rphf mask gs)
rphf_of_byte mask byte gs u =
    let P : Glyph → Type 0 = λ g. g.syllable ≡ byte in
    let n = rphf_len gs in
    let front = map (with_bits mask) (take n gs) in
    let long = length-append front (drop n gs) ∙ ap (λ k. k + length (drop n gs))
    (length-map (take n gs) (with_bits mask)) ∙ sym (length-append (take n gs) (drop n gs))
    ∙ ap length (take-append-drop n gs) in
    record {
      some = subst (λ k. 0 < k) (sym long) u.some;
      all = All-append P front (drop n gs) (All-map P (with_bits mask) (take n gs) (All-take P n gs u.all))
          (All-drop P n gs u.all);
    }

len_same : (gs : Glyphs) → rphf_len (map unnumbered gs) ≡ rphf_len gs
len_same [] = refl
len_same (g ∷ gs) = ap (λ n. if g.category == R then 1 else min 3 (suc n)) (length-map gs unnumbered)

rphf_same : (mask : ℕ) → KeepsSame (with_rphf mask)
rphf_same mask gs hs same =
    let f = with_bits mask in
    let told : (xs : Glyphs) → map unnumbered (with_rphf mask xs) ≡ with_rphf mask (map unnumbered xs) = λ xs.
    let n = rphf_len xs in
    map-append unnumbered (map f (take n xs)) (drop n xs)
    ∙ ap (λ l. l ++ map unnumbered (drop n xs)) (map-seen unnumbered f (λ g. refl) (take n xs)
    ∙ ap (map f) (sym (take-map unnumbered n xs)))
    ∙ ap (λ l. map f (take n (map unnumbered xs)) ++ l) (sym (drop-map unnumbered n xs))
    ∙ ap (λ k. map f (take k (map unnumbered xs)) ++ drop k (map unnumbered xs)) (sym (len_same xs)) in
    told gs ∙ ap (with_rphf mask) same ∙ sym (told hs)

pub led_halves : (mask : ℕ) (spans ss ts : List Span) (gs hs : Glyphs) (old : Buffer) → All
    (λ span. span.kind ≤ 15) spans → spans ≡ ss ++ ts → old.glyphs ≡ gs ++ hs → spans_cover (length gs) ss ≡ true
    → spans_cover (length hs) ts ≡ true → LedHalves mask spans ss ts gs hs old
led_halves mask spans ss ts gs hs old kinds split text first second =
    let cut = spans_cut spans BROKEN_CLUSTER old kinds ss ts gs hs split text first second in
    let f = with_rphf mask in
    let keeps = rphf_of_byte mask in
    let front = unsafe_spans ss gs in
    let back = unsafe_spans ts hs in
    let ends : (xs : Glyphs) → SameEnds (flat_map f (syllables xs)) xs =
    λ xs. subst (SameEnds (flat_map f (syllables xs))) (joined-syllables xs)
    (ends-kept f keeps (syllables xs) (syllables_cut xs)) in
    record {
      behind = flat_map f (syllables cut.behind);
      parts = ap (λ xs. flat_map f (syllables xs)) cut.parts
          ∙ ap (flat_map f) (syllables-append front cut.behind cut.border)
          ∙ flat_map-append f (syllables front) (syllables cut.behind);
      renumbered = ap (map (map unnumbered)) (syllables-mapped f keeps cut.behind)
          ∙ pieces_same f (rphf_same mask) (syllables cut.behind) (syllables back) cut.renumbered
          ∙ ap (map (map unnumbered)) (sym (syllables-mapped f keeps back));
      border = border_by (flat_map f (syllables front)) (flat_map f (syllables cut.behind)) front cut.behind
          (ends front) (ends cut.behind) cut.border;
      broken = cut.broken;
    }

-- at a clear border of spans
flag_bytes : (gs : Glyphs) → bytes (flagless gs) ≡ bytes gs
flag_bytes gs = map-map (λ (g : Glyph). g.syllable) (with_mask_by without_flags) gs

pub flags_hidden : (arabic : Option arabic_shape_plan_t) (m : Map) (gs : Glyphs)
    → flagless (forms_flagged arabic Sound m gs) ≡ flagless gs
flags_hidden arabic m gs = map-forms_flagged (with_mask_by without_flags)
    (λ g. ap (λ n. let r : Glyph = record g { mask = n } in r) (without_flags-or g.mask 3 refl))
    arabic Sound m gs

pub sound_at : (kept : PlanData) (m : Map) (spans : List Span) (old : Buffer) (p : ℕ)
    → All (λ span. span.kind ≤ 15) spans
    → spans_cover (length old.glyphs) spans ≡ true → arabic_of kept ≡ None → FormsOffFlags None m → 0 < p
    → p < length old.glyphs
    → IsClear (forms_flagged (arabic_of kept) Sound m (setup_by_spans kept m spans old.glyphs)) p → SpanBorder spans p
    → SoundlyBroken kept m spans p old (with_forms_flagged Sound kept m (syllables_setup kept m spans old))
sound_at kept m spans old p kinds covers none off z l clear border =
    let all = old.glyphs in
    let n = length all in
    let ss = border.front in
    let ts = border.back in
    let gs = take p all in
    let hs = drop p all in
    let cut = cover_cut spans ss ts n p border.split covers border.place in
    let long : length gs ≡ p = length-take-le p all (omega arith) in
    let first : spans_cover (length gs) ss ≡ true = ap (λ k. spans_cover k ss) long ∙ cut.first in
    let second : spans_cover (length hs) ts ≡ true = ap (λ k. spans_cover k ts) (length-drop p all) ∙ cut.second in
    let mask = rphf_of kept in
    let parts = led_halves mask spans ss ts gs hs old kinds border.split (sym (take-append-drop p all)) first second in
    let forms = with_form_masks (form_masks m) in
    let front = led mask ss gs in
    let behind = parts.behind in
    let masked : (is : List Span) (xs : Glyphs) → setup_by_spans kept m is xs ≡ forms (led mask is xs) =
    λ is xs. ap (λ a. with_forms_for a m (led mask is xs)) none in
    let shown : (is : List Span) (xs : Glyphs) → sound_setup kept m is xs ≡ flagless (forms (led mask is xs)) =
    λ is xs. flags_hidden (arabic_of kept) m (setup_by_spans kept m is xs) ∙ ap flagless (masked is xs) in
    let whole : setup_by_spans kept m spans all ≡ forms (front ++ behind) = masked spans all ∙ ap forms parts.parts in
    let place : length front ≡ p = length-led mask ss gs old ∙ long in
    let total : length (front ++ behind) ≡ n = ap length (sym parts.parts) ∙ length-led mask spans all old in
    let there : IsClear (forms_flagged None Sound m (forms (front ++ behind))) (length front) =
    subst (IsClear (forms_flagged None Sound m (forms (front ++ behind)))) (sym place)
    (subst (λ a. IsClear (forms_flagged a Sound m (forms (front ++ behind))) p) none
    (subst (λ xs. IsClear (forms_flagged (arabic_of kept) Sound m xs) p) whole clear)) in
    let split = text_split m front behind off parts.border (omega arith)
    (omega (arith, length-append front behind, total, place)) there in
    record {
      border = border;
      halves = record {
        behind = flagless (forms behind);
        parts = shown spans all ∙ ap flagless (ap forms parts.parts ∙ split)
            ∙ map-append (with_mask_by without_flags) (forms front) (forms behind)
            ∙ ap (λ xs. xs ++ flagless (forms behind)) (sym (shown ss gs));
        renumbered = subst (SameButSerials (flagless (forms behind))) (sym (shown ts hs))
            (same-by without_flags (forms behind) (forms (led mask ts hs))
            (text_same m behind (led mask ts hs) parts.renumbered));
        border = subst (λ xs. MeetAtBorder xs (flagless (forms behind))) (sym (shown ss gs))
            (meet_same front behind (flagless (forms front)) (flagless (forms behind))
            (flag_bytes (forms front) ∙ text_bytes m front)
            (flag_bytes (forms behind) ∙ text_bytes m behind) parts.border);
        broken = parts.broken;
      };
    }

pub universal_sound_breaks : UniversalSoundBreaks
universal_sound_breaks plan font spans old new kinds covers sound none off setup p z l clear =
    let kept = plan.plan_data in
    let m = plan.ot_map in
    let bare = unsafe_spans spans old.glyphs in
    let whole : Buffer = with_forms_flagged Sound kept m (syllables_setup kept m spans old) in
    let is : new ≡ whole = setup ∙ ap
    (λ breaks. with_forms_flagged breaks kept m (syllables_setup kept m spans old)) sound in
    let there : IsClear whole.glyphs p = subst (λ (b : Buffer). IsClear b.glyphs p) is clear in
    let inside : p < length whole.glyphs = subst (λ (b : Buffer). p < length b.glyphs) is l in
    let shape = flagged_kept Sound kept m off bare in
    let guarded = guarded_kept spans bare whole.glyphs shape (setup_guarded spans old.glyphs kinds covers) in
    let long : length whole.glyphs ≡ length old.glyphs = long_kept bare whole.glyphs shape
    ∙ length-same old.glyphs bare (clusters-setup spans BROKEN_CLUSTER old) in
    elim (guarded_border spans whole.glyphs guarded p z inside) [
      | inl border ↦ subst (SoundlyBroken kept m spans p old) (sym is)
          (sound_at kept m spans old p kinds covers none (subst (λ a. FormsOffFlags a m) none off) z (omega arith) there
          border)
      | inr flagged ↦ absurd (clear_not_flagged whole.glyphs p z inside there flagged)
    ]
