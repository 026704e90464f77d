-- Khmer's texts without split vowels are normalized as if Khmer took apart by Unicode's pairs alone.
use Rattle.std.proofs.Common.{◌≡◌, ◌==◌, ◌<◌, ◌-◌, ◌%◌, ◌⊎◌, inl, inr, ◌||◌, not, ℕ, zero, suc, Bool, true, false, cond, List, [], ◌∷◌, ◌++◌, map, Option, None, Some, refl, sym, ap, ◌∙◌, subst, arith}
use Rattle.std.specs.List.{AllByRecursion, find, flat_map, list_any}
use Rattle.std.specs.Option.{option_map_or}
use Rattle.std.proofs.lemmas.Bool.{and_parts, or_parts}
use Rattle.std.proofs.lemmas.Bool.Decides.{nat_tests}
use Rattle.std.proofs.lemmas.Option.{none-some}
use Rattle.ucd_table.proofs.Computing.{tables}
use Rattle.ucd_table.proofs.RangedFacts.{Stepped-at_points, points_ok}
use Rattle.shapers_base.specs.declared.plan.record.NormalizationMode.{NormalizationMode}
use Rattle.shapers_base.specs.declared.plan.record.NormalizationMode.TheVariants as modes
use Rattle.shapers_buffer.specs.Glyphs.{Glyph, Glyphs}
use Rattle.shapers_buffer.specs.declared.buffer.level.BufferClusterLevel.{BufferClusterLevel}
use Rattle.shapers_buffer.specs.Glyph.{order_view}
use Rattle.shapers_hangul.specs.Hangul.{is_lv, is_s, lead, trail, vowel}
use Rattle.shapers_khmer.specs.Khmer.{decomposed_in_khmer, split_vowels}
use Rattle.shapers_normal.specs.Context.{Context, has_glyph}
use Rattle.shapers_normal.specs.Decomposition.{apart_in, apart_way, becomes, cluster_becomes, come_off, first_round, image, mark_clusters, preferred, step_characters, steps_apart, then_off, written_as}
use Rattle.shapers_normal.specs.Sorting.{is_mark_glyph}
use Rattle.shapers_normal.specs.Variants.{forms_written, is_kept_cluster, variants_joined}
use Rattle.shapers_normal.proofs.Monotone.{together_cut}
use Rattle.shapers_normal.proofs.Pairs.{together}
use Rattle.shapers_normal.proofs.Viewed.{variants-view}
use Rattle.shapers_pipeline.specs.ByShaper.{is_character}
use Rattle.shapers_unicode.specs.Answers.{unicode_tables}
use Rattle.shapers_unicode.specs.Pairs.{as_pair, canonical_mapping, decomposed, hangul_parts}
use Rattle.shapers_unicode.proofs.CompositionLemmas.{is_empty}
use Rattle.shapers_unicode.proofs.PairSteps.{mapping_stepped}
use Rattle.shapers_equivalence_laws.proofs.UnicodePairs.{within_bounds, empty_of, no_syllable, not_of, parts_all, syllable}

-- a context that takes other characters apart in the same way
record TakesAlike (context other : ℕ → Option (ℕ × ℕ)) (spared : ℕ → Bool) : Type 0 where
  pub same : (c : ℕ) → spared c ≡ false → context c ≡ other c
  pub parts : (c : ℕ) (p : ℕ × ℕ) → spared c ≡ false → other c ≡ Some p → spared p.0 ≡ false

abbrev taking : Context → (ℕ → Option (ℕ × ℕ)) → Context
taking context pairs = record context { decomposed = pairs }

steps_by : (context : Context) (a b : ℕ → Option (ℕ × ℕ)) (n : ℕ) (o : Option (ℕ × ℕ))
    → ((p : ℕ × ℕ) → o ≡ Some p → steps_apart (taking context a) n p.0 ≡ steps_apart (taking context b) n p.0) →
    option_map_or (λ p. cond (p.1 == 0 || has_glyph context p.1)
    ((p.0, come_off p.1) ∷ map (then_off p.1) (steps_apart (taking context a) n p.0)) []) o []
    ≡ option_map_or (λ p. cond (p.1 == 0 || has_glyph context p.1)
    ((p.0, come_off p.1) ∷ map (then_off p.1) (steps_apart (taking context b) n p.0)) []) o []
steps_by context a b n None same = refl
steps_by context a b n (Some p) same = ap
    (λ steps. cond (p.1 == 0 || has_glyph context p.1) ((p.0, come_off p.1) ∷ map (then_off p.1) steps) [])
    (same p refl)

steps_same : (context : Context) (a b : ℕ → Option (ℕ × ℕ)) (spared : ℕ → Bool) → TakesAlike a b spared → (n c : ℕ)
    → spared c ≡ false → steps_apart (taking context a) n c ≡ steps_apart (taking context b) n c
steps_same context a b spared t zero c free = refl
steps_same context a b spared t (suc n) c free =
    ap (λ o. option_map_or (λ p. cond (p.1 == 0 || has_glyph context p.1)
    ((p.0, come_off p.1) ∷ map (then_off p.1) (steps_apart (taking context a) n p.0)) []) o []) (t.same c free)
    ∙ steps_by context a b n (b c) (λ p e. steps_same context a b spared t n p.0 (t.parts c p free e))

apart_same : (context : Context) (a b : ℕ → Option (ℕ × ℕ)) (spared : ℕ → Bool) → TakesAlike a b spared
    → (short : Bool) (c : ℕ) → spared c ≡ false
    → apart_in (taking context a) short 8 c ≡ apart_in (taking context b) short 8 c
apart_same context a b spared t short c free = ap
    (λ steps. step_characters (find (λ step. has_glyph context step.0) (preferred short steps)))
    (steps_same context a b spared t 8 c free)

abbrev in_mode : Context → NormalizationMode → Context
in_mode context m = record context { mode = m }

short_same : (context : Context) (a b : ℕ → Option (ℕ × ℕ)) (spared : ℕ → Bool) → TakesAlike a b spared → (c : ℕ)
    → spared c ≡ false
    → cond (has_glyph context c) [] (apart_in (taking context a) true 8 c) ≡ cond (has_glyph context c) []
    (apart_in (taking context b) true 8 c)
short_same context a b spared t c free = ap (λ cs. cond (has_glyph context c) [] cs)
    (apart_same context a b spared t true c free)

image_same : (context : Context) (a b : ℕ → Option (ℕ × ℕ)) (spared : ℕ → Bool) → TakesAlike a b spared
    → (m : NormalizationMode) (cluster : Glyphs) (c : ℕ) → spared c ≡ false →
    image (in_mode (taking context a) m) (apart_way (in_mode (taking context a) m) cluster) c ≡ image
    (in_mode (taking context b) m) (apart_way (in_mode (taking context b) m) cluster) c
image_same context a b spared t modes.NONE [] c free = short_same (in_mode context modes.NONE) a b spared t c free
image_same context a b spared t modes.NONE (g ∷ []) c free = short_same (in_mode context modes.NONE) a b spared t c free
image_same context a b spared t modes.NONE (g ∷ (h ∷ gs)) c free = short_same
    (in_mode context modes.NONE) a b spared t c free
image_same context a b spared t modes.AUTO [] c free = apart_same (in_mode context modes.AUTO) a b spared t false c free
image_same context a b spared t modes.AUTO (g ∷ []) c free = short_same (in_mode context modes.AUTO) a b spared t c free
image_same context a b spared t modes.AUTO (g ∷ (h ∷ gs)) c free = apart_same
    (in_mode context modes.AUTO) a b spared t false c free
image_same context a b spared t modes.CD [] c free = apart_same (in_mode context modes.CD) a b spared t false c free
image_same context a b spared t modes.CD (g ∷ []) c free = apart_same
    (in_mode context modes.CD) a b spared t false c free
image_same context a b spared t modes.CD (g ∷ (h ∷ gs)) c free = apart_same
    (in_mode context modes.CD) a b spared t false c free

-- ---- texts

abbrev Free : (ℕ → Bool) → Glyphs → Type 0
Free spared gs = AllByRecursion (λ g. spared g.glyph_id ≡ false) gs

glyphs_same : (context : Context) (a b : ℕ → Option (ℕ × ℕ)) (spared : ℕ → Bool) → TakesAlike a b spared
    → (cluster gs : Glyphs) → Free spared gs →
    flat_map (becomes (taking context a) (apart_way (taking context a) cluster)) gs ≡ flat_map
    (becomes (taking context b) (apart_way (taking context b) cluster)) gs
glyphs_same context a b spared t cluster [] free = refl
glyphs_same context a b spared t cluster (g ∷ gs) free =
    ap (λ cs. written_as (taking context a) g cs ++ flat_map
    (becomes (taking context a) (apart_way (taking context a) cluster)) gs)
    (image_same context a b spared t context.mode cluster g.glyph_id free.0)
    ∙ ap (λ xs. becomes (taking context b) (apart_way (taking context b) cluster) g ++ xs)
    (glyphs_same context a b spared t cluster gs free.1)

cluster_same : (context : Context) (a b : ℕ → Option (ℕ × ℕ)) (spared : ℕ → Bool) → TakesAlike a b spared
    → (cluster : Glyphs) → Free spared cluster
    → cluster_becomes (taking context a) cluster ≡ cluster_becomes (taking context b) cluster
cluster_same context a b spared t cluster free = ap
    (λ xs. cond (is_kept_cluster cluster) (forms_written context cluster) xs)
    (glyphs_same context a b spared t cluster cluster free)

free_parts : (spared : ℕ → Bool) (gs hs : Glyphs) → Free spared (gs ++ hs)
    → Free spared gs × Free spared hs
free_parts spared [] hs free = (tt, free)
free_parts spared (g ∷ gs) hs free = let rest = free_parts spared gs hs free.1 in ((free.0, rest.0), rest.1)

groups_same : (context : Context) (a b : ℕ → Option (ℕ × ℕ)) (spared : ℕ → Bool) → TakesAlike a b spared
    → (groups : List Glyphs) → Free spared (together groups)
    → flat_map (cluster_becomes (taking context a)) groups ≡ flat_map (cluster_becomes (taking context b)) groups
groups_same context a b spared t [] free = refl
groups_same context a b spared t (group ∷ groups) free =
    let parts = free_parts spared group (together groups) free in
    ap (λ xs. xs ++ flat_map (cluster_becomes (taking context a)) groups)
    (cluster_same context a b spared t group parts.0)
    ∙ ap (λ xs. cluster_becomes (taking context b) group ++ xs) (groups_same context a b spared t groups parts.1)

free_view : (spared : ℕ → Bool) (gs : Glyphs) → Free spared gs → Free spared (order_view gs)
free_view spared [] free = tt
free_view spared (g ∷ gs) free = (free.0, free_view spared gs free.1)

free_of_view : (spared : ℕ → Bool) (gs : Glyphs) → Free spared (order_view gs) → Free spared gs
free_of_view spared [] free = tt
free_of_view spared (g ∷ gs) free = (free.0, free_of_view spared gs free.1)

first_same : (context : Context) (a b : ℕ → Option (ℕ × ℕ)) (spared : ℕ → Bool) → TakesAlike a b spared
    → (level : BufferClusterLevel) (gs : Glyphs) → Free spared gs
    → first_round (taking context a) level gs ≡ first_round (taking context b) level gs
first_same context a b spared t level gs free =
    let joined = variants_joined context level gs in
    let here : Free spared joined = free_of_view spared joined
    (subst (Free spared) (sym (variants-view context level gs)) (free_view spared gs free)) in
    groups_same context a b spared t (mark_clusters joined)
    (subst (Free spared) (sym (together_cut is_mark_glyph joined)) here)

-- ---- Khmer

abbrev is_split : ℕ → Bool
is_split c = list_any (λ v. v == c) split_vowels

unfoldable whole_parts : List ℕ → Bool
whole_parts mapping = parts_all (λ a. not (is_split a)) mapping

mapped_whole : (c : ℕ) → is_empty (canonical_mapping c) ≡ false → whole_parts (canonical_mapping c) ≡ true
unfolding tables points_ok whole_parts mapping_stepped
mapped_whole c some = Stepped-at_points canonical_mapping mapping_stepped is_empty
    (λ p mapping. whole_parts mapping) refl c some

outside : (x : ℕ) → (x < 0x17BE) ⊎ (0x17C5 < x) → is_split x ≡ false
outside x (inl low) = grind (arith, nat_tests)
outside x (inr high) = grind (arith, nat_tests)

pair_whole : (c : ℕ) (mapping : List ℕ) (p : ℕ × ℕ) → whole_parts mapping ≡ true → as_pair mapping ≡ Some p
    → is_split p.0 ≡ false
unfolding whole_parts
pair_whole c [] p w e = absurd (none-some p e)
pair_whole c (a ∷ []) p w e = ap (λ o. is_split (option_map_or (λ (q : ℕ × ℕ). q.0) o a)) (sym e) ∙ not_of
    (is_split a) w
pair_whole c (a ∷ (b ∷ [])) p w e = ap (λ o. is_split (option_map_or (λ (q : ℕ × ℕ). q.0) o a)) (sym e) ∙ not_of
    (is_split a) (and_parts (not (is_split a)) (not (is_split b)) w).0
pair_whole c (a ∷ (b ∷ (d ∷ rest))) p w e = absurd (none-some p e)

mapping_by : (c : ℕ) (p : ℕ × ℕ) (none : Bool) → is_empty (canonical_mapping c) ≡ none
    → as_pair (canonical_mapping c) ≡ Some p → is_split p.0 ≡ false
mapping_by c p true e h = absurd (none-some p (sym (ap as_pair (empty_of (canonical_mapping c) e)) ∙ h))
mapping_by c p false e h = pair_whole c (canonical_mapping c) p (mapped_whole c e) h

hangul_whole : (c : ℕ) (lv : Bool) → is_lv c ≡ lv → is_s c ≡ true → is_split (hangul_parts c).0 ≡ false
hangul_whole c true e is =
    let inside = within_bounds 0xAC00 0xD7A3 c is in
    let low = inside.0 in
    let high = inside.1 in
    ap (λ b. is_split (cond {A = ℕ × ℕ} b (lead c, vowel c) (c - (c - 0xAC00) % 28, trail c)).0) e ∙ outside (lead c)
    (inl (omega arith))
hangul_whole c false e is =
    let inside = within_bounds 0xAC00 0xD7A3 c is in
    let low = inside.0 in
    let high = inside.1 in
    ap (λ b. is_split (cond {A = ℕ × ℕ} b (lead c, vowel c) (c - (c - 0xAC00) % 28, trail c)).0) e ∙ outside
    (c - (c - 0xAC00) % 28) (inr (omega arith))

parts_by : (c : ℕ) (p : ℕ × ℕ) (s : Bool) → is_s c ≡ s → decomposed c ≡ Some p → is_split p.0 ≡ false
parts_by c p true e h =
    let is : Some (hangul_parts c) ≡ Some p = sym (syllable c e) ∙ h in
    ap (λ o. is_split (option_map_or (λ (q : ℕ × ℕ). q.0) o 0)) (sym is) ∙ hangul_whole c (is_lv c) refl e
parts_by c p false e h = mapping_by c p (is_empty (canonical_mapping c)) refl (sym (no_syllable c e) ∙ h)

-- Khmer's pairs and Unicode's
abbrev pub khmer_pairs : ℕ → Option (ℕ × ℕ)
khmer_pairs c = cond (is_character c) (decomposed_in_khmer unicode_tables c) None

abbrev pub unicode_pairs : ℕ → Option (ℕ × ℕ)
unicode_pairs c = cond (is_character c) (decomposed c) None

taken_by : (b : Bool) (o : Option (ℕ × ℕ)) (p : ℕ × ℕ) → cond b o None ≡ Some p → o ≡ Some p
taken_by true o p e = e
taken_by false o p e = absurd (none-some p e)

alike : TakesAlike khmer_pairs unicode_pairs is_split
alike = record {
  same = λ c free. ap (λ b. cond (is_character c) (cond b (Some (0x17C1, c)) (decomposed c)) None) free;
  parts = λ c p free e. parts_by c p (is_s c) refl (taken_by (is_character c) (decomposed c) p e);
}

free_of : (gs : Glyphs) → list_any (λ (g : Glyph). is_split g.glyph_id) gs ≡ false
    → Free is_split gs
free_of [] e = tt
free_of (g ∷ gs) e = let parts = or_parts (is_split g.glyph_id)
    (list_any (λ (g : Glyph). is_split g.glyph_id) gs) e in (parts.0, free_of gs parts.1)

-- a text without split vowels comes apart as by Unicode's pairs
pub khmer_first : (context : Context) (level : BufferClusterLevel) (gs : Glyphs)
    → list_any (λ (g : Glyph). list_any (λ v. v == g.glyph_id) split_vowels) gs ≡ false
    → first_round (record context { decomposed = khmer_pairs }) level gs ≡ first_round
    (record context { decomposed = unicode_pairs }) level gs
khmer_first context level gs whole = first_same context khmer_pairs unicode_pairs is_split alike level gs
    (free_of gs whole)
