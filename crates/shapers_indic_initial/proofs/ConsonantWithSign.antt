-- A syllable of a plain consonant and a sign: nothing in it moves, and it has its positions.
use Rattle.std.proofs.Common.{ℕ, ◌+◌, ◌-◌, ◌≤◌, ◌≡◌, ◌||◌, ◌==◌, Bool, true, false, if◌then◌else◌, inl, inr, List, [], ◌∷◌, ◌++◌, map, length, refl, sym, ◌∙◌, ap, arith}
use Rattle.std.specs.Prelude.{Option, nat_le}
use Rattle.std.specs.List.{range_with_len}
use Rattle.std.proofs.lemmas.Bool.{and_parts, cases_Bool, eqb-true}
use Rattle.std.proofs.lemmas.List.{length-map}
use Rattle.shapers_buffer.specs.Glyphs.{Glyph, Glyphs}
use Rattle.shapers_buffer.specs.declared.buffer.level.BufferClusterLevel.{BufferClusterLevel}
use Rattle.shapers_buffer.specs.declared.buffer.tag.Script.{Script}
use Rattle.shapers_buffer.specs.Buffer.{Buffer}
use Rattle.shapers_buffer.specs.Clusters.{stretch_of}
use Rattle.shapers_buffer.specs.Glyph.{order_view, plain}
use Rattle.shapers_buffer.specs.Places.{pick}
use Rattle.shapers_buffer.proofs.ClusterLemmas.{length-stretch, map-stretch}
use Rattle.shapers_clusters.specs.Steps.{Step, after_steps, still_step, swap_step, widened}
use Rattle.shapers_clusters.proofs.Picks.{pick-all}
use Rattle.shapers_clusters.proofs.Widened.{range-three}
use Rattle.shapers_syllabic.specs.Reordering.{SyllableReordered, carried}
use Rattle.shapers_syllabic.proofs.ReorderingLemmas.{stretch_stays}
use Rattle.shapers_buffer.specs.Properties.{is_ligated}
use Rattle.shapers_base.specs.declared.plan.indic.BaseSearch.{BaseSearch}
use Rattle.shapers_base.specs.declared.plan.indic.BaseSearch.TheVariants.{WithoutMedials, AllConsonants}
use Rattle.shapers_base.specs.declared.plan.indic.RephMode.{RephMode}
use Rattle.shapers_base.specs.declared.plan.indic.RephMode.TheVariants.{Implicit, Explicit, LogRepha}
use Rattle.shapers_base.specs.declared.plan.ot_position_t.TheConstants.{POS_SMVD}
use Rattle.shapers_indic_initial.specs.InitialBase.{base_place, has_indic_reph, is_base, is_base_candidate, joiner_comes_first, begins_with_repha, indic_reph_len}
use Rattle.shapers_indic_initial.specs.InitialPositions.{bounds, by_base, halant_places, with_owner}
use Rattle.shapers_indic_initial.specs.InitialReordering.{first_steps, halant_step, positioned, with_all_positions, with_base_positions, with_joiner_first, with_marks_and_owners}
use Rattle.shapers_indic_initial.specs.InitialRules.{Rules}
use Rattle.shapers_indic_initial.specs.PairWalk.{is_consonant_with_sign, is_sign}
use Rattle.shapers_indic_initial.proofs.PlainConsonant.{not_true, plain_consonant}

-- a vowel sign, a postfixed one, a modifier
data Sign : Type 0 where
  matra : Sign
  postfixed : Sign
  modifier : Sign

abbrev signed : Sign → Glyph → Glyph
signed matra h = record h { category = 7 }
signed postfixed h = record h { category = 13 }
signed modifier h = record h { category = 8 }

-- a consonant and a sign
abbrev pair : Sign → Glyph → Glyph → Glyphs
pair k g h = plain_consonant g ∷ (signed k h ∷ [])

no_joiner : (script : Option Script) (k : Sign) (g h : Glyph) → joiner_comes_first script (pair k g h) ≡ false
no_joiner = search arith

no_repha : (mode : RephMode) (k : Sign) (g h : Glyph) → begins_with_repha mode (pair k g h) ≡ false
no_repha Implicit k g h = refl
no_repha Explicit k g h = refl
no_repha LogRepha k g h = refl

no_reph : (r : Rules) (k : Sign) (g h : Glyph) → indic_reph_len r (pair k g h) ≡ 0
no_reph = search (arith, no_repha)

-- the sign isn't the base, and the consonant is
not_the_base : (chosen : BaseSearch) (k : Sign) (h : Glyph) → is_base_candidate chosen (signed k h) ≡ false
not_the_base WithoutMedials matra h = search arith
not_the_base WithoutMedials postfixed h = search arith
not_the_base WithoutMedials modifier h = search arith
not_the_base AllConsonants matra h = search arith
not_the_base AllConsonants postfixed h = search arith
not_the_base AllConsonants modifier h = search arith

the_base : (chosen : BaseSearch) (k : Sign) (g h : Glyph) → is_ligated g.glyph_props ≡ false
    → is_base chosen (pair k g h) 0 ≡ true
the_base chosen k g h m = rw m refl

is_the_base : (r : Rules) (k : Sign) (g h : Glyph) → is_ligated g.glyph_props ≡ false → base_place r (pair k g h) ≡ 0
is_the_base r matra g h m = search (arith, no_reph, not_the_base, the_base r.search matra g h m)
is_the_base r postfixed g h m = search (arith, no_reph, not_the_base, the_base r.search postfixed g h m)
is_the_base r modifier g h m = search (arith, no_reph, not_the_base, the_base r.search modifier g h m)

still_halants : (r : Rules) (script : Option Script) (k : Sign) (g h : Glyph)
    → halant_places r script 0 (pair k g h) ≡ 0 ∷ (1 ∷ [])
still_halants r script matra g h = search arith
still_halants r script postfixed g h = search arith
still_halants r script modifier g h = search arith

joined : (script : Option Script) (k : Sign) (g h : Glyph) → with_joiner_first script (pair k g h) ≡ pair k g h
joined script k g h =
    ap (λ (b : Bool). pick (if b then swap_step 2 1 else still_step 2).places (pair k g h)) (no_joiner script k g h)

no_reph_here : (r : Rules) (k : Sign) (g h : Glyph) → has_indic_reph r (pair k g h) ≡ false
no_reph_here = search (arith, no_reph)

based : (r : Rules) (k : Sign) (g h : Glyph) → is_ligated g.glyph_props ≡ false
    → with_base_positions r (pair k g h) ≡ pair k g h
based r k g h m =
    ap (λ base. by_base base (has_indic_reph r (pair k g h)) (pair k g h)) (is_the_base r k g h m)
    ∙ ap (λ reph. by_base 0 reph (pair k g h)) (no_reph_here r k g h)

-- nothing owns the last glyph
unowned : (g : Glyph) → with_owner [] g ≡ g
unowned g = elim (cases_Bool (bounds g || nat_le POS_SMVD g.auxiliary)) [
  | inl on ↦ rw on refl
  | inr off ↦ rw off refl
]

marks_stay : (k : Sign) (g h : Glyph) → with_marks_and_owners 0 (pair k g h) ≡ pair k g h
marks_stay matra g h = ap (λ x. plain_consonant g ∷ (x ∷ [])) (unowned (signed matra h))
marks_stay postfixed g h = ap (λ x. plain_consonant g ∷ (x ∷ [])) (unowned (signed postfixed h))
marks_stay modifier g h = ap (λ x. plain_consonant g ∷ (x ∷ [])) (unowned (signed modifier h))

pair_positioned : (r : Rules) (script : Option Script) (k : Sign) (g h : Glyph) → is_ligated g.glyph_props ≡ false
    → positioned r script (pair k g h) ≡ pair k g h
pair_positioned r script k g h m =
    ap (λ xs. with_all_positions r script (base_place r xs) (with_base_positions r xs)) (joined script k g h)
    ∙ ap (λ base. with_all_positions r script base (with_base_positions r (pair k g h))) (is_the_base r k g h m)
    ∙ ap (with_all_positions r script 0) (based r k g h m)
    ∙ ap (λ ps. with_marks_and_owners 0 (pick ps (pair k g h))) (still_halants r script k g h) ∙ marks_stay k g h

-- both steps leave two places as they are
abbrev by_places : List ℕ → Step
by_places ps = record { merged_first = []; places = ps; merged_then = [] }

abbrev still_steps : List Step
still_steps = still_step 2 ∷ (still_step 2 ∷ [])

steps_still : (r : Rules) (script : Option Script) (k : Sign) (g h : Glyph) → is_ligated g.glyph_props ≡ false
    → first_steps r script (pair k g h) ≡ still_steps
steps_still r script k g h m =
    let second =
    ap (λ xs. halant_step r script (base_place r xs) (with_base_positions r xs)) (joined script k g h)
    ∙ ap (λ base. halant_step r script base (with_base_positions r (pair k g h))) (is_the_base r k g h m)
    ∙ ap (halant_step r script 0) (based r k g h m) ∙ ap by_places (still_halants r script k g h) in
    ap (λ (b : Bool). (if b then swap_step 2 1 else still_step 2)
    ∷ (halant_step r script (base_place r (with_joiner_first script (pair k g h)))
    (with_base_positions r (with_joiner_first script (pair k g h))) ∷ [])) (no_joiner script k g h)
    ∙ ap (λ step. still_step 2 ∷ (step ∷ [])) second

-- such steps change nothing
picks_both : (s n : ℕ) (gs : Glyphs) → s + 2 ≤ n → length gs ≡ n
    → pick (range_with_len 0 s ++ (map (λ p. s + p) (0 ∷ (1 ∷ [])) ++ range_with_len (s + 2) (n - (s + 2)))) gs ≡ gs
picks_both s n gs l long = search (arith, range-three s (s + 2) n (omega arith) l, pick-all n gs long)

still_run : (level : BufferClusterLevel) (s : ℕ) (gs : Glyphs) → s + 2 ≤ length gs
    → after_steps level (map (widened s (s + 2) (length gs)) still_steps) gs ≡ gs
still_run level s gs l = cc (picks_both s (length gs) gs l refl)

pair_syllable : (r : Rules) (script : Option Script) (s e : ℕ) (k : Sign) (g h : Glyph) (b : Buffer) → s ≤ e
    → e ≤ length b.glyphs → stretch_of s e (order_view b.glyphs) ≡ pair k g h
    → is_ligated g.glyph_props ≡ false → SyllableReordered (positioned r script) (first_steps r script) s e b b
pair_syllable r script s e k g h b in_order l is m =
    let two : 2 ≡ e - s = sym (ap length is) ∙ (search (length-stretch, length-map)) in
    let end : e ≡ s + 2 = omega arith in
    let ran : List Step → Glyphs =
    λ steps. after_steps b.level (map (widened s e (length b.glyphs)) steps) b.glyphs in
    record {
      others = refl;
      order = sym (stretch_stays s e (positioned r script) (order_view b.glyphs) in_order
          (ap (positioned r script) is ∙ pair_positioned r script k g h m ∙ sym is));
      moved = ap (map carried) (sym (ap (λ gs. ran (first_steps r script gs)) is
          ∙ ap ran (steps_still r script k g h m) ∙ cc (still_run b.level s b.glyphs (omega arith))));
    }

-- a sign by its category
record Signed (h : Glyph) : Type 0 where
  sign : Sign
  same : h ≡ signed sign h

the_third : (a b c : Bool) → (a || (b || (c || false))) ≡ true → a ≡ false → b ≡ false → c ≡ true
the_third a b true on first second = refl
the_third true b false on first second = sym first
the_third false true false on first second = sym second
the_third false false false on first second = on

sign_of : (h : Glyph) → is_sign h ≡ true → Signed h
sign_of h on = elim (cases_Bool (7 == h.category)) [
  | inl seven ↦ record { sign = matra; same = ap (λ c. (record h { category = c })) (sym (eqb-true 7 _ seven)) }
  | inr other ↦ elim (cases_Bool (13 == h.category)) [
    | inl thirteen ↦ record {
      sign = postfixed;
      same = ap (λ c. (record h { category = c })) (sym (eqb-true 13 _ thirteen));
    }
    | inr rest ↦ record {
      sign = modifier;
      same = ap (λ c. (record h { category = c })) (sym (eqb-true 8 _
          (the_third (7 == h.category) (13 == h.category) (8 == h.category) on other rest)));
    }
  ]
]

-- so where the code sees such a syllable
pair_glyphs : (s e : ℕ) (b : Buffer) (xs : Glyphs) → (r : Rules) → (script : Option Script) → s ≤ e
    → e ≤ length b.glyphs → stretch_of s e b.glyphs ≡ xs → is_consonant_with_sign xs ≡ true
    → SyllableReordered (positioned r script) (first_steps r script) s e b b
pair_glyphs s e b (g ∷ (h ∷ [])) r script in_order l is on =
    let first = and_parts _ _ on in
    let consonant = and_parts _ _ first.0 in
    let both = and_parts _ _ consonant.0 in
    let v = plain g in
    let w = sign_of (plain h) first.1 in
    let viewed =
    ap (λ c. (record v { category = c })) (eqb-true _ 1 both.0)
    ∙ ap (λ a. (record v { category = 1; auxiliary = a })) (eqb-true _ 4 both.1) in
    pair_syllable r script s e w.sign v (plain h) b in_order l (sym (map-stretch plain s e _) ∙ ap order_view is
    ∙ ap (λ x. x ∷ (plain h ∷ [])) viewed ∙ ap (λ x. plain_consonant v ∷ (x ∷ [])) w.same) (not_true _ consonant.1)
pair_glyphs s e b _ r script in_order l is on = absurd (cc)

pub pair_here : (r : Rules) (script : Option Script) (s e : ℕ) (b : Buffer) → s ≤ e → e ≤ length b.glyphs
    → is_consonant_with_sign (stretch_of s e b.glyphs) ≡ true
    → SyllableReordered (positioned r script) (first_steps r script) s e b b
pair_here = search pair_glyphs
