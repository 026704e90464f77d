-- The walks that give masks, step by step.
use Rattle.std.proofs.Common.{◌≡◌, ℕ, suc, ◌+◌, ◌-◌, ◌<◌, ◌==◌, ◌&&◌, ◌||◌, Bool, true, false, not, cond, if◌then◌else◌, List, [], ◌∷◌, ◌++◌, length, take, drop, map, get_or, set, refl, sym, ap, ◌∙◌, subst, arith, append_assoc, Option, Some, length-take-le}
use Rattle.std.specs.Prelude.{find, slice_get}
use Rattle.std.specs.List.{enumerate_from, list_any, prefix_len, range_with_len}
use Rattle.std.specs.Option.{option_map_or}
use Rattle.std.proofs.Math.Seq.{get_or-append_seam, set-append_seam}
use Rattle.std.proofs.lemmas.List.{drop_more, take_more, map-append, length-map, take-append-drop}
use Rattle.std.proofs.lemmas.List.FromFn.{length-enumerate_from}
use Rattle.shapers_buffer.specs.Glyphs.{Glyph, Glyphs}
use Rattle.shapers_buffer.specs.Clusters.{stretch_of, with_stretch}
use Rattle.shapers_buffer.specs.GlyphFlags.{with_bits}
use Rattle.shapers_buffer.proofs.ListLaws.{none_in_front}
use Rattle.shapers_buffer.proofs.MappedLists.{enumerate-append, values-enumerate_from}
use Rattle.shapers_base.specs.declared.plan.ot_category_t.TheConstants.{OT_ZWNJ}
use Rattle.shapers_buffer.specs.declared.buffer.tag.Script.{Script}
use Rattle.shapers_buffer.specs.Glyph.{default_glyph}
use Rattle.shapers_base.specs.declared.font.GlyphId.{GlyphId}
use Rattle.shapers_base.specs.declared.plan.ot_position_t.TheConstants.{POS_RA_TO_BECOME_REPH}
use Rattle.shapers_indic.specs.declared.ot_shaper_indic.indic_feature.TheConstants.{BLWF, HALF, PREF, RPHF}
use Rattle.shapers_indic.specs.Glyphs.{has_category, has_position, is_one_of, least_place, number, numbers, passes, places}
use Rattle.shapers_indic_initial.specs.InitialRules.{Rules, mask_at}
use Rattle.std.proofs.lemmas.Bool.Decides.{nat_tests}
use Rattle.shapers_syllabic.specs.Consonants.{is_consonant}
use Rattle.shapers_indic_initial.specs.InitialMasks.{bits_of, has_eyelash, is_in_eyelash, loses_half, mask_after_base, mask_before_base, pref_pair, with_eyelash_mask, with_initial_masks, with_pref_mask, without_bits, without_half}

-- one glyph back, in the walk that takes half away
pub half_step : (g : Glyph) (after : Glyphs)
    → (not (is_consonant g) && (is_one_of (OT_ZWNJ ∷ []) g || loses_half after)) ≡ loses_half (g ∷ after)
half_step g after =
    let n = prefix_len _ after in
    let one : suc n ≡ 1 + n = omega arith in
    elim (not _) as (λ b. (b && (is_one_of (OT_ZWNJ ∷ []) g || loses_half after))
    ≡ list_any (is_one_of (OT_ZWNJ ∷ [])) (take (cond b (1 + n) 0) (g ∷ after))) [
      | true ↦ ap (λ m. list_any (is_one_of (OT_ZWNJ ∷ [])) (take m (g ∷ after))) one
      | false ↦ refl
    ]

-- a list whose first elements up to place k are those of another, at k
seam : {X : Type 0} (gs rest : List X) (k : ℕ) (d : X) → k < length gs
    → take (k + 1) gs ++ rest ≡ take k gs ++ get_or gs k d ∷ rest
seam gs rest k d h = ap (λ ys. ys ++ rest) (take_more gs k d h) ∙ append_assoc _ _ rest

seam_get : {X : Type 0} (gs rest : List X) (k : ℕ) (d : X) → k < length gs → get_or (take (k + 1) gs ++ rest) k d
    ≡ get_or gs k d
seam_get gs rest k d h =
    ap (λ ys. get_or ys k d) (seam gs rest k d h)
    ∙ subst (λ n. get_or (take k gs ++ get_or gs k d ∷ rest) n d ≡ get_or gs k d) (length-take-le k gs (omega arith))
    (get_or-append_seam (take k gs) _ rest d)

seam_set : {X : Type 0} (gs rest : List X) (k : ℕ) (d y : X) → k < length gs → set (take (k + 1) gs ++ rest) k y
    ≡ take k gs ++ y ∷ rest
seam_set gs rest k d y h =
    ap (λ ys. set ys k y) (seam gs rest k d h)
    ∙ subst (λ n. set (take k gs ++ get_or gs k d ∷ rest) n y ≡ take k gs ++ y ∷ rest)
    (length-take-le k gs (omega arith)) (set-append_seam _ _ rest y)

-- without a ZWNJ nothing loses half
pub no_half_taken : (bits : ℕ) (gs : Glyphs) → list_any (is_one_of (OT_ZWNJ ∷ [])) gs ≡ false
    → without_half bits gs ≡ gs
no_half_taken bits [] none = refl
no_half_taken bits (g ∷ gs) none =
    let rest : list_any _ gs ≡ false = grind (arith, nat_tests, none) in
    cc (none_in_front _ _ gs rest, no_half_taken bits gs rest)

-- what becomes of a glyph in that walk
abbrev pub half_taken : ℕ → Bool → Glyph → Glyph
half_taken bits loses g = if loses then without_bits bits g else g

same_category : (bits : ℕ) (loses b : Bool) (g : Glyph)
    → (not (is_consonant (half_taken bits b g)) && (is_one_of (OT_ZWNJ ∷ []) (half_taken bits b g) || loses))
    ≡ (not (is_consonant g) && (is_one_of (OT_ZWNJ ∷ []) g || loses))
same_category bits loses true g = refl
same_category bits loses false g = refl

pub record HalfTaken (bits : ℕ) (gs : Glyphs) (i : ℕ) (r : Bool) (xs : Glyphs) : Type
    0 where
  pub glyphs : xs ≡ take i gs ++ without_half bits (drop i gs)
  pub loses : r ≡ loses_half (drop i gs)

pub half_back : (bits : ℕ) (gs xs : Glyphs) (i k : ℕ) (loses r : Bool) (g d : Glyph) → k + 1 ≡ i
    → k < length gs → xs ≡ take i gs ++ without_half bits (drop i gs) → loses ≡ loses_half (drop i gs)
    → g ≡ half_taken bits loses (get_or xs k d) → r ≡ (not (is_consonant g) && (is_one_of (OT_ZWNJ ∷ []) g || loses))
    → HalfTaken bits gs k r (set xs k g)
half_back = search (arith, seam_set, seam_get, drop_more, half_step)

-- a search over places, one place on, and its answer
pub search_on : (P : ℕ → Bool) (i e : ℕ) → i < e → P i ≡ false → find P (places (i + 1) e) ≡ find P (places i e)
search_on P i e h fails =
    let n : suc _ ≡ e - i = omega arith in
    sym (ap (λ b. cond b (Some i) (find P (places (i + 1) e))) fails) ∙ ap (λ m. find P (range_with_len i m)) n

pub search_found : (P : ℕ → Bool) (i e : ℕ) → i < e → P i ≡ true → Some i ≡ find P (places i e)
search_found P = search arith

-- two neighbours, as the font is asked about them
pub pair_at : (gs : Glyphs) (i : ℕ) (d : Glyph) → i + 1 < length gs
    → numbers (stretch_of i (i + 2) gs) ≡ number (get_or gs i d) ∷ number (get_or gs (i + 1) d) ∷ []
pair_at = search (arith, drop_more)

passes_category : (c : ℕ) (gs : Glyphs) (i : ℕ) → passes (has_category c) gs i
    ≡ option_map_or (λ x. x == c) (slice_get (map (λ g. g.category) gs) i) false
passes_category c (g ∷ gs) (suc i) = passes_category c gs i
passes_category c _ _ = refl

pub eyelash_same : (base : ℕ) (xs gs : Glyphs) (i : ℕ)
    → map (λ g. g.category) xs ≡ map (λ g. g.category) gs → is_in_eyelash base xs i ≡ is_in_eyelash base gs i
eyelash_same = search (arith, passes_category)

-- glyphs with mask bits, where a test of their places says so
abbrev pub bits_if : ℕ → (ℕ → Bool) → ℕ × Glyph → Glyph
bits_if bits test t = if test t.0 then with_bits bits t.1 else t.1

categories_stay : (bits : ℕ) (test : ℕ → Bool) (n : ℕ) (gs : Glyphs)
    → map (λ g. g.category) (map (bits_if bits test) (enumerate_from n gs)) ≡ map (λ g. g.category) gs
categories_stay bits test n [] = refl
categories_stay bits test n (g ∷ gs) = search (arith, categories_stay bits test (n + 1) gs)

-- such glyphs up to place i, and the rest as it was
abbrev pub bits_up_to : ℕ → (ℕ → Bool) → ℕ → Glyphs → Glyphs
bits_up_to bits test i gs = map (bits_if bits test) (enumerate_from 0 (take i gs)) ++ drop i gs

pub eyelash_next : (bits base : ℕ) (gs xs ys : Glyphs) (i : ℕ) (d : Glyph) (b : Bool)
    → i < length gs → xs ≡ bits_up_to bits (is_in_eyelash base gs) i gs → b ≡ is_in_eyelash base xs i
    → ys ≡ (if b then set xs i (with_bits bits (get_or xs i d)) else xs)
    → ys ≡ bits_up_to bits (is_in_eyelash base gs) (i + 1) gs
eyelash_next bits base gs xs ys i d b h is test_is ys_is =
    let test = is_in_eyelash base gs in
    let g = get_or gs i d in
    let rest = drop (i + 1) gs in
    let front = map (bits_if bits test) (enumerate_from 0 (take i gs)) in
    let long = length-map (enumerate_from 0 (take i gs)) (bits_if bits test) ∙ length-enumerate_from 0 (take i gs)
    ∙ length-take-le i gs (omega arith) in
    let is' = is ∙ ap (λ zs. front ++ zs) (drop_more gs i d h) in
    let put : (y : Glyph) → set xs i y ≡ front ++ y ∷ rest = λ y. ap (λ zs. set zs i y) is'
    ∙ subst (λ n. set (front ++ g ∷ rest) n y ≡ front ++ y ∷ rest) long (set-append_seam front g rest y) in
    let written : (c : Bool) → (if c then set xs i (with_bits bits (get_or xs i d)) else xs) ≡ front ++ (if c then
    with_bits bits g else g) ∷ rest = λ c. (elim c as (λ e. (if e then set xs i (with_bits bits (get_or xs i d)) else
    xs) ≡ front ++ (if e then with_bits bits g else g) ∷ rest) [
      | true ↦
          put (with_bits bits (get_or xs i d)) ∙ ap (λ x. front ++ with_bits bits x ∷ rest)
          (ap (λ zs. get_or zs i d) is' ∙ subst (λ n. get_or (front ++ g ∷ rest) n d ≡ g) long (get_or-append_seam
          front g rest d))
      | false ↦ is'
    ]) in
    let t = eyelash_same base xs gs i
    (ap (map (λ x. x.category)) is ∙ (map-append _ _ (drop i gs) ∙ ap (λ cs. cs ++ map (λ g. g.category) (drop
    i gs)) (categories_stay bits test 0 _) ∙ sym (map-append _ (take i gs) _)
    ∙ ap (map _) (take-append-drop i gs))) in
    let more = ap (λ zs. map (bits_if bits test) (enumerate_from 0 zs)) (take_more gs i d h)
    ∙ ap (map (bits_if bits test)) (enumerate-append (take i gs) (g ∷ []))
    ∙ map-append (bits_if bits test) (enumerate_from 0 (take i gs)) (enumerate_from (length (take i gs)) (g ∷ []))
    ∙ ap (λ n. front ++ bits_if bits test (n, g) ∷ []) (length-take-le i gs (omega arith)) in
    ys_is ∙ ap (λ c. if c then set xs i (with_bits bits (get_or xs i d)) else xs) (test_is ∙ t) ∙ written (test i)
    ∙ sym (ap (λ zs. zs ++ rest) more ∙ append_assoc front (bits_if bits test (i, g) ∷ []) rest)

-- where the test fails everywhere, and at the end
pub no_eyelash : (bits : ℕ) (test : ℕ → Bool) (gs : Glyphs)
    → map (λ t. if false && test t.0 then with_bits bits t.1 else t.1) (enumerate_from 0 gs) ≡ gs
no_eyelash bits test gs = values-enumerate_from 0 gs

pub eyelash_is : (r : Rules) (script : Option Script) (base : ℕ) (gs : Glyphs) (b : Bool) → b ≡ has_eyelash r script
    → map (λ t. if b && is_in_eyelash base gs t.0 then with_bits (bits_of r BLWF) t.1 else t.1) (enumerate_from 0 gs)
    ≡ with_eyelash_mask r script base gs
eyelash_is = search arith

-- what the font is asked about two neighbours
pub asked_pair : (P : List GlyphId → Bool) (gs : Glyphs) (i : ℕ) (a b : GlyphId) (r : Bool)
    → i + 1 < length gs → a ≡ number (get_or gs i default_glyph) → b ≡ number (get_or gs (i + 1) default_glyph)
    → r ≡ P (a ∷ b ∷ []) → P (numbers (stretch_of i (i + 2) gs)) ≡ r
asked_pair P gs i a b r h is_a is_b is = cc (pair_at gs i _ h)

-- the pair, where there is a mask and room
pub pref_pair_asked : (r : Rules) (base : ℕ) (gs : Glyphs) → 0 < mask_at r PREF → base + 2 < length gs
    → least_place (λ i. r.forms_pref (numbers (stretch_of i (i + 2) gs))) (base + 1) (length gs - 1)
    ≡ pref_pair r base gs
pref_pair_asked = search arith

-- all walks, one after another
pub all_masks : (r : Rules) (script : Option Script) (base : ℕ) (gs g1 g2 g3 g4 g5 : Glyphs)
    (b1 b2 b3 b4 : ℕ) → b1 ≡ bits_of r RPHF
    → g1 ≡ with_stretch 0 (prefix_len (has_position POS_RA_TO_BECOME_REPH) gs) (map (with_bits b1)) gs
    → b2 ≡ mask_before_base r → b3 ≡ mask_after_base r
    → g2 ≡ with_stretch (base + 1) (length g1) (map (with_bits b3)) (with_stretch 0 base (map (with_bits b2)) g1)
    → g3 ≡ with_eyelash_mask r script base g2 → g4 ≡ with_pref_mask r base g3 → b4 ≡ bits_of r HALF
    → g5 ≡ without_half b4 g4 → g5 ≡ with_initial_masks r script base gs
all_masks r script base gs g1 g2 g3 g4 g5 b1 b2 b3 b4 e1 h1 e2 e3 h2 h3 h4 e4 h5 = cc
