-- A syllable in which nothing asks for a change: it stays as it is, and no steps are taken.
use Rattle.std.proofs.Common.{ℕ, zero, suc, ◌+◌, ◌-◌, ◌≤◌, ◌≡◌, ◌==◌, ◌&&◌, ◌||◌, ◌%◌, ◌/◌, not, Bool, true, false, inl, inr, cond, if◌then◌else◌, Option, None, Some, List, [], ◌∷◌, ◌++◌, map, filter, reverse, length, take, drop, refl, sym, ◌∙◌, ap, arith, append-nil, take-append-drop}
use Rattle.std.specs.Prelude.{bit_and}
use Rattle.std.specs.List.{enumerate_from, find, list_any, slice_get}
use Rattle.std.specs.Option.{option_map_or}
use Rattle.std.proofs.lemmas.Bool.{cases_Bool, eqb-true, or_from, or_parts}
use Rattle.std.proofs.lemmas.Nat.{and_mod, and_shr}
use Rattle.shapers_buffer.specs.Glyphs.{Glyph, Glyphs}
use Rattle.shapers_buffer.specs.declared.buffer.tag.Script.{Script}
use Rattle.shapers_buffer.specs.Buffer.{Buffer}
use Rattle.shapers_buffer.specs.Clusters.{stretch_of, with_stretch}
use Rattle.shapers_buffer.specs.Lists.{first_last}
use Rattle.shapers_buffer.specs.Glyph.{at_position, order_view, plain, without_flags}
use Rattle.shapers_buffer.proofs.ClusterLemmas.{map-stretch}
use Rattle.shapers_buffer.proofs.ListLaws.{none_in_front}
use Rattle.shapers_base.specs.declared.font.GlyphId.{GlyphId}
use Rattle.shapers_base.specs.declared.plan.ot_position_t.TheConstants.{POS_BASE_C, POS_BELOW_C, POS_RA_TO_BECOME_REPH}
use Rattle.shapers_base.specs.Masks.{has_bits}
use Rattle.shapers_clusters.specs.Steps.{Step, after_steps, widened}
use Rattle.shapers_indic.specs.Glyphs.{has_position, is_joiner, passes, places}
use Rattle.shapers_indic_final.specs.FinalBase.{Based, along_links, as_linked, first_base, pref_place, with_final_base, with_links}
use Rattle.shapers_indic_final.specs.FinalGlyphs.{is_indic_halant, is_lost_virama, recovered}
use Rattle.shapers_indic_final.specs.FinalMatras.{end_of_base, has_room, is_left, left_places, matra_step, matra_steps, matra_target, takes_matras, merging_step, partitioned, partition_steps, staying_steps, steps_before, with_matras}
use Rattle.shapers_indic_final.specs.FinalPref.{formed_pref, if_formed, pref_step, pref_steps, pref_target}
use Rattle.shapers_indic_final.specs.FinalReordering.{after_matras, after_pref, after_reph, based, final_order, final_steps, steps_of_based, steps_of_pref}
use Rattle.shapers_indic_final.specs.FinalReph.{carried_along, final_reph_step, begins_with_reph, reph_steps, reph_target}
use Rattle.shapers_indic.specs.Plan.{is_malayalam}
use Rattle.shapers_indic_final.specs.FinalWalk.{changes_syllable}
use Rattle.shapers_indic_final.specs.declared.ot_shaper_indic_final.rules.Rules.{Rules}
use Rattle.shapers_syllabic.specs.Consonants.{is_consonant}
use Rattle.shapers_syllabic.specs.Reordering.{SyllableReordered, carried}
use Rattle.shapers_syllabic.proofs.NonePass.{filter-none, filter_not-none, none_behind}
use Rattle.shapers_syllabic.proofs.ReorderingLemmas.{stretch_stays}

-- no place of a list of which none passes a test
never : {X : Type 0} (test : X → Bool) (xs : List X) (i : ℕ) → list_any test xs ≡ false
    → option_map_or test (slice_get xs i) false ≡ false
never test [] i none = refl
never test (x ∷ xs) zero none = (or_parts (test x) (list_any test xs) none).0
never test (x ∷ xs) (suc i) none = never test xs i (or_parts (test x) (list_any test xs) none).1

no_place_of : (test : Glyph → Bool) (gs : Glyphs) (ps : List ℕ) → list_any test gs ≡ false
    → find (passes test gs) ps ≡ None
no_place_of test gs [] none = refl
no_place_of test gs (p ∷ ps) none = ap (λ b. cond b (Some p) (find (passes test gs) ps)) (never test gs p none)
    ∙ no_place_of test gs ps none

none_kept : (test : Glyph → Bool) (gs : Glyphs) (ps : List ℕ) → list_any test gs ≡ false
    → filter (passes test gs) ps ≡ []
none_kept test gs [] none = refl
none_kept test gs (p ∷ ps) none =
    ap (λ b. if b then p ∷ filter (passes test gs) ps else filter (passes test gs) ps) (never test gs p none)
    ∙ none_kept test gs ps none

-- VIRAMAS AND LINKS
none_recovered : (v : Option GlyphId) (gs : Glyphs) → list_any (is_lost_virama v) gs ≡ false
    → map (recovered v) gs ≡ gs
none_recovered v [] none = refl
none_recovered v (g ∷ gs) none =
    let parts = or_parts (is_lost_virama v g) (list_any (is_lost_virama v) gs) none in
    rw parts.0 (ap (λ xs. g ∷ xs) (none_recovered v gs parts.1))

not_linked : (g : Glyph) → has_position POS_BELOW_C g ≡ false → as_linked g ≡ g
not_linked g none = rw none (elim (is_consonant g) as (λ b. (if b && false then at_position POS_BASE_C g else g) ≡ g)
    [ true ↦ refl | false ↦ refl ])

links_stay : (halant : Bool) (gs : Glyphs) → list_any (has_position POS_BELOW_C) gs ≡ false
    → along_links as_linked halant gs ≡ gs
links_stay halant [] none = refl
links_stay false (g ∷ gs) none =
    let parts = or_parts (has_position POS_BELOW_C g) (list_any (has_position POS_BELOW_C) gs) none in
    elim (is_joiner g) as (λ j. (if j then g ∷ along_links as_linked false gs else if is_indic_halant g then g
    ∷ along_links as_linked true gs else g ∷ gs) ≡ g ∷ gs) [
      | true ↦ ap (λ xs. g ∷ xs) (links_stay false gs parts.1)
      | false ↦ elim (is_indic_halant g) as (λ h. (if h then g ∷ along_links as_linked true gs else g ∷ gs) ≡ g ∷ gs) [
        | true ↦ ap (λ xs. g ∷ xs) (links_stay true gs parts.1)
        | false ↦ refl
      ]
    ]
links_stay true (g ∷ gs) none =
    let parts = or_parts (has_position POS_BELOW_C g) (list_any (has_position POS_BELOW_C) gs) none in
    elim (is_joiner g) as (λ j. (if j then g ∷ along_links as_linked true gs else as_linked g
    ∷ along_links as_linked false gs) ≡ g ∷ gs) [
      | true ↦ ap (λ xs. g ∷ xs) (links_stay true gs parts.1)
      | false ↦ ap (λ x. x ∷ along_links as_linked false gs) (not_linked g parts.0)
          ∙ ap (λ xs. g ∷ xs) (links_stay false gs parts.1)
    ]

-- WHAT IS NOT THERE
record Nothing (r : Rules) (script : Option Script) (gs : Glyphs) : Type 0 where
  left : list_any is_left gs ≡ false
  reph : list_any (has_position POS_RA_TO_BECOME_REPH) gs ≡ false
  pref : list_any (has_bits r.pref) gs ≡ false
  lost : list_any (is_lost_virama r.virama) gs ≡ false
  below : is_malayalam script ≡ true → list_any (has_position POS_BELOW_C) gs ≡ false

nothing : (r : Rules) (script : Option Script) (gs : Glyphs) → list_any (changes_syllable r script) gs
    ≡ false → Nothing r script gs
nothing r script [] none = record { left = refl; reph = refl; pref = refl; lost = refl; below = λ on. refl }
nothing r script (g ∷ gs) none =
    let parts = or_parts (changes_syllable r script g) (list_any (changes_syllable r script) gs) none in
    let rest = nothing r script gs parts.1 in
    let four = or_parts _ _ parts.0 in
    let three = or_parts _ _ four.0 in
    let two = or_parts _ _ three.0 in
    let one = or_parts (is_left g) (has_position POS_RA_TO_BECOME_REPH g) two.0 in
    record {
      left = or_from _ _ one.0 rest.left;
      reph = or_from _ _ one.1 rest.reph;
      pref = or_from _ _ two.1 rest.pref;
      lost = or_from _ _ three.1 rest.lost;
      below = λ on. or_from _ _ (and_true_right _ (ap (λ m. has_position POS_BELOW_C g && m) (sym on) ∙ four.1))
          (rest.below on);
    }
  where
    and_true_right : (b : Bool) → (b && true) ≡ false → b ≡ false
    and_true_right true h = h
    and_true_right false h = refl

-- THE BASE: the glyphs stay
links_written_stay : (script : Option Script) (base : ℕ) (gs : Glyphs)
    → (is_malayalam script ≡ true → list_any (has_position POS_BELOW_C) gs ≡ false) → with_links script base gs ≡ gs
links_written_stay script base gs none = elim (cases_Bool (is_malayalam script)) [
  | inl on ↦ rw on
      (ap (λ xs. take (base + 1) gs ++ xs)
      (links_stay false (drop (base + 1) gs) (none_behind (has_position POS_BELOW_C) (base + 1) gs (none on)))
      ∙ take-append-drop (base + 1) gs)
  | inr off ↦ rw off refl
]

glyphs_stay : (r : Rules) (script : Option Script) (gs : Glyphs) → Nothing r script gs
    → (with_final_base r script gs).glyphs ≡ gs
glyphs_stay r script gs none =
    let no_pref : pref_place r.pref (first_base gs) gs ≡ None =
    no_place_of (has_bits r.pref) gs (places (first_base gs + 1) (length gs)) none.pref in
    rw no_pref (links_written_stay script (first_base gs) gs none.below)

based_stay : (r : Rules) (script : Option Script) (gs : Glyphs) → Nothing r script gs
    → (based r script gs).glyphs ≡ gs
based_stay r script gs none = ap (λ xs. (with_final_base r script xs).glyphs) (none_recovered r.virama gs none.lost)
    ∙ glyphs_stay r script gs none

-- NOTHING MOVES
parted_stay : (test : Glyph → Bool) (xs : Glyphs) → list_any test xs ≡ false
    → partitioned test xs ≡ xs
parted_stay test xs none = ap (λ ys. ys ++ filter test xs) (filter_not-none test xs none)
    ∙ ap (λ ys. xs ++ ys) (filter-none test xs none) ∙ append-nil xs

matras_stay : (script : Option Script) (base : ℕ) (gs : Glyphs) → list_any is_left gs ≡ false
    → with_matras script base gs ≡ gs
matras_stay script base gs none =
    let p = matra_target script base gs in
    let front : list_any is_left (stretch_of 0 (p + 1) gs) ≡ false =
    none_in_front is_left (p + 1 - 0) (drop 0 gs) none in
    elim (has_room base gs && takes_matras p gs) as (λ b. (if b then with_stretch 0 (p + 1) (partitioned is_left) gs else gs)
    ≡ gs) [
      | true ↦ stretch_stays 0 (p + 1) (partitioned is_left) gs (omega arith)
          (parted_stay is_left (stretch_of 0 (p + 1) gs) front)
      | false ↦ refl
    ]

no_matra_steps : (script : Option Script) (base : ℕ) (gs : Glyphs) → list_any is_left gs ≡ false
    → matra_steps script base gs ≡ []
no_matra_steps script base gs none =
    let p = matra_target script base gs in
    let e = end_of_base base gs in
    let no_left : left_places p gs ≡ [] = ap reverse (none_kept is_left gs (places 0 p) none) in
    let parting : partition_steps p e gs ≡ [] =
    ap (λ ps. map (λ (t : ℕ × ℕ). matra_step (length gs) e t.1 (p - t.0)) (enumerate_from 0 ps)) no_left in
    let staying : staying_steps base gs ≡ [] =
    ap (merging_step (length gs) e) (no_place_of is_left gs (places 0 base) none) in
    elim (has_room base gs) as (λ b. (if b then steps_before script base gs else []) ≡ []) [
      | true ↦ elim (takes_matras p gs) as (λ b. (if b then partition_steps p e gs else staying_steps base gs) ≡ [])
          [ true ↦ parting | false ↦ staying ]
      | false ↦ refl
    ]

no_reph : (gs : Glyphs) → list_any (has_position POS_RA_TO_BECOME_REPH) gs ≡ false
    → begins_with_reph gs ≡ false
no_reph [] none = refl
no_reph (g ∷ []) none = refl
no_reph (g ∷ (h ∷ gs)) none =
    let parts = or_parts (has_position POS_RA_TO_BECOME_REPH g) (list_any (has_position POS_RA_TO_BECOME_REPH) (h ∷ gs))
    none in
    rw parts.0 refl

no_pref : (pref base : ℕ) (gs : Glyphs) → list_any (has_bits pref) gs ≡ false
    → formed_pref pref base gs ≡ None
no_pref pref base gs none = ap (if_formed gs) (no_place_of (has_bits pref) gs (places (base + 1) (length gs)) none)

-- a syllable with its base, in which nothing moves
abbrev at_base : Glyphs → ℕ → Bool → Based
at_base gs base tries = record { glyphs = gs; base = base; tries_pref = tries }

order_stays : (r : Rules) (script : Option Script) (gs : Glyphs) (base : ℕ) (tries : Bool)
    → Nothing r script gs → after_pref r script (after_reph r (after_matras r script (at_base gs base tries))) ≡ gs
order_stays r script gs base tries none =
    let matras = matras_stay script base gs none.left in
    let reph = no_reph gs none.reph in
    let pref = no_pref r.pref base gs none.pref in
    rw (matras, reph, pref) (elim tries as (λ b. (if b then gs else gs) ≡ gs) [ true ↦ refl | false ↦ refl ])

no_steps : (r : Rules) (script : Option Script) (gs : Glyphs) (base : ℕ) (tries : Bool)
    → Nothing r script gs → steps_of_based r script (at_base gs base tries) ≡ []
no_steps r script gs base tries none =
    let reph = no_reph gs none.reph in
    let n = length gs in
    let pref : pref_steps r.pref script base gs ≡ [] =
    ap (pref_step n (pref_target script base gs)) (no_pref r.pref base gs none.pref) in
    ap (λ xs. matra_steps script base gs
    ++ (reph_steps r.reph_pos base xs ++ steps_of_pref r script (after_reph r (at_base xs base tries))))
    (matras_stay script base gs none.left)
    ∙ ap (λ sts. sts
    ++ (reph_steps r.reph_pos base gs ++ steps_of_pref r script (after_reph r (at_base gs base tries))))
    (no_matra_steps script base gs none.left)
    ∙ ap (λ b. (if b then final_reph_step n (reph_target r.reph_pos base gs) ∷ [] else [])
    ++ steps_of_pref r script
    (at_base (if b then with_stretch 0 (reph_target r.reph_pos base gs + 1) first_last gs else gs)
    (if b then carried_along base (reph_target r.reph_pos base gs) else base) tries)) reph
    ∙ elim tries as (λ b. (if b then pref_steps r.pref script base gs else []) ≡ []) [ true ↦ pref | false ↦ refl ]

lost-view : (v : Option GlyphId) (g : Glyph) → is_lost_virama v (plain g) ≡ is_lost_virama v g
lost-view None g = refl
lost-view (Some v) g = refl

-- what has no bit of a mask has none without its flags
flagless_clear : (bits : ℕ) (g : Glyph) → has_bits bits g ≡ false → has_bits bits (plain g) ≡ false
flagless_clear bits g none =
    let m = g.mask in
    let x = bit_and (without_flags m) bits in
    let clear : bit_and m bits ≡ 0 = elim (cases_Bool (bit_and m bits == 0)) [
      | inl is ↦ eqb-true (bit_and m bits) 0 is
      | inr off ↦ absurd (cc (ap not off, none))
    ] in
    let off : without_flags m % 8 ≡ 0 = omega arith in
    let low : x % 8 ≡ 0 = and_mod (without_flags m) bits 3 ∙ ap (λ n. bit_and n (bits % 8)) off in
    let front : without_flags m / 8 ≡ m / 8 = omega arith in
    let high : x / 8 ≡ 0 = and_shr (without_flags m) bits 3 ∙ ap (λ n. bit_and n (bits / 8)) front
    ∙ sym (and_shr m bits 3) ∙ ap (λ n. n / 8) clear in
    let all : x ≡ 0 = omega arith in
    ap (λ n. not (n == 0)) all

none_seen : (r : Rules) (script : Option Script) (gs : Glyphs)
    → list_any (changes_syllable r script) gs ≡ false → list_any (changes_syllable r script) (order_view gs) ≡ false
none_seen r script [] none = refl
none_seen r script (g ∷ gs) none =
    let parts = or_parts (changes_syllable r script g) (list_any (changes_syllable r script) gs) none in
    let four = or_parts _ _ parts.0 in
    let three = or_parts _ _ four.0 in
    let two = or_parts _ _ three.0 in
    let below : Bool = has_position POS_BELOW_C g && is_malayalam script in
    let more : Bool = list_any (changes_syllable r script) (order_view gs) in
    ap (λ b. b || has_bits r.pref (plain g) || is_lost_virama r.virama (plain g) || below || more) two.0
    ∙ ap (λ b. b || is_lost_virama r.virama (plain g) || below || more) (flagless_clear r.pref g two.1)
    ∙ ap (λ b. b || below || more) (lost-view r.virama g ∙ three.1)
    ∙ ap (λ b. b || more) four.1
    ∙ none_seen r script gs parts.1

-- so of a syllable of a buffer
pub final_stays : (r : Rules) (script : Option Script) (s e : ℕ) (b : Buffer) → s ≤ e
    → list_any (changes_syllable r script) (stretch_of s e b.glyphs) ≡ false
    → SyllableReordered (final_order r script) (final_steps r script) s e b b
final_stays r script s e b h none =
    let zs = stretch_of s e (order_view b.glyphs) in
    let seen : list_any (changes_syllable r script) zs ≡ false =
    ap (list_any (changes_syllable r script)) (sym (map-stretch plain s e b.glyphs))
    ∙ none_seen r script (stretch_of s e b.glyphs) none in
    let n = nothing r script zs seen in
    let found = based r script zs in
    let at : found ≡ at_base zs found.base found.tries_pref =
    ap (λ xs. at_base xs found.base found.tries_pref) (based_stay r script zs n) in
    let order : final_order r script zs ≡ zs =
    ap (λ (x : Based). after_pref r script (after_reph r (after_matras r script x))) at
    ∙ order_stays r script zs found.base found.tries_pref n in
    let steps : final_steps r script zs ≡ [] = ap (steps_of_based r script) at
    ∙ no_steps r script zs found.base found.tries_pref n in
    let ran : List Step → Glyphs =
    λ sts. after_steps b.level (map (widened s e (length b.glyphs)) sts) b.glyphs in
    record {
      others = refl;
      order = sym (stretch_stays s e (final_order r script) (order_view b.glyphs) h order);
      moved = ap (map carried) (sym (ap ran steps));
    }
