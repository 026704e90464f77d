-- A text without marks that the font has gets its glyphs and nothing else.
use Rattle.std.proofs.Common.{◌≡◌, ◌==◌, ◌+◌, ◌-◌, ◌&&◌, ℕ, zero, suc, Bool, true, false, not, cond, eqb, nat_lt, nat_le, List, [], ◌∷◌, ◌++◌, length, map, get_or, Option, None, Some, refl, sym, ap, ◌∙◌, subst, arith}
use Rattle.std.specs.List.{AllByRecursion, flat_map, fold, list_all, list_any, range_with_len}
use Rattle.std.specs.Option.{option_map_or}
use Rattle.std.specs.Prelude.{is_some}
use Rattle.std.proofs.lemmas.Bool.{and_parts, false≢true, or_parts}
use Rattle.std.proofs.lemmas.Bool.Decides.{nat_tests}
use Rattle.std.proofs.lemmas.List.{length-map}
use Rattle.shapers_base.specs.declared.font.GlyphId.{GlyphId}
use Rattle.shapers_buffer.specs.Glyphs.{Glyph, Glyphs}
use Rattle.shapers_buffer.specs.declared.buffer.level.BufferClusterLevel.{BufferClusterLevel}
use Rattle.shapers_buffer.specs.Glyph.{default_glyph}
use Rattle.shapers_buffer.specs.Properties.{general_category}
use Rattle.shapers_normal.specs.Context.{Context, has_glyph}
use Rattle.shapers_normal.specs.Decomposition.{apart_in, becomes, cluster_becomes, first_round, is_short_alone, is_whole, mark_clusters, stays_alone, text_decomposed, without_glyph, written_as}
use Rattle.shapers_normal.specs.Laws.{WholeTextsStay}
use Rattle.shapers_normal.specs.Normalization.{composes, has_rounds, joiners_shown, later_rounds, normalized, shown_behind}
use Rattle.shapers_normal.specs.Properties.{grapheme_joiner, numbered_as}
use Rattle.shapers_normal.specs.Recomposition.{StarterWalk, is_free, if_drawn, left_as_is, recomposed, taken_in, walk_over}
use Rattle.shapers_normal.specs.Sorting.{class_of, classes, is_mark_glyph, mark_sequences, sequence_ordered, sequence_sorted, stay_together}
use Rattle.shapers_normal.specs.Variants.{is_selector_glyph, is_selector_behind, variant_joined, with_first, with_number}
use Rattle.shapers_normal.specs.declared.ot_shape_normalize.decomposing.Way.{Way}
use Rattle.shapers_normal.specs.declared.ot_shape_normalize.normalizing.Rounds.{Rounds}
use Rattle.shapers_normal.specs.declared.ot_shape_normalize.decomposing.Way.TheVariants.{Short, Whole}
use Rattle.shapers_normal.proofs.CharacterProperties.{class_of_other}
use Rattle.shapers_normal.proofs.Halves.{not_joiner}

-- a glyph that stays by itself
record Stays (context : Context) (g : Glyph) : Type 0 where
  no_mark : is_mark_glyph g ≡ false
  has : has_glyph context g.glyph_id ≡ true

stays : (context : Context) (g : Glyph) (mark has : Bool) → is_mark_glyph g ≡ mark
    → has_glyph context g.glyph_id ≡ has → (not mark && has) ≡ true → Stays context g
stays context g false true x y e = record { no_mark = x; has = y }
stays context g false false x y e = absurd (false≢true e)
stays context g true has x y e = absurd (false≢true e)

all_stay : (context : Context) (gs : Glyphs) → list_all (stays_alone context) gs ≡ true
    → AllByRecursion (Stays context) gs
all_stay context [] e = tt
all_stay context (g ∷ gs) e =
    let parts = and_parts (stays_alone context g) (list_all (stays_alone context) gs) e in
    (stays context g (is_mark_glyph g) (has_glyph context g.glyph_id) refl refl parts.0, all_stay context gs parts.1)

default_is_no_mark : is_mark_glyph default_glyph ≡ false
unfolding general_category
default_is_no_mark = refl

no_mark_at : (context : Context) (gs : Glyphs) (k : ℕ) → AllByRecursion (Stays context) gs
    → is_mark_glyph (get_or gs k default_glyph) ≡ false
no_mark_at context [] k all = default_is_no_mark
no_mark_at context (g ∷ gs) zero all = all.0.no_mark
no_mark_at context (g ∷ gs) (suc k) all = no_mark_at context gs k all.1

-- ---- the first round

each_alone : (context : Context) (gs : Glyphs) → AllByRecursion (Stays context) gs
    → mark_clusters gs ≡ map (λ g. g ∷ []) gs
each_alone context [] all = refl
each_alone context (g ∷ []) all = refl
each_alone context (g ∷ (h ∷ gs)) all =
    let rest = map (λ g. g ∷ []) gs in
    ap (with_first is_mark_glyph g) (each_alone context (h ∷ gs) all.1)
    ∙ ap (λ b. cond b ((g ∷ h ∷ []) ∷ rest) ((g ∷ []) ∷ (h ∷ []) ∷ rest)) all.1.0.no_mark

whichever : {X Y : Type 0} (f : X → Y) (o : Option X) (a b : Y) → is_some o ≡ true
    → option_map_or f o a ≡ option_map_or f o b
whichever f None a b e = absurd (false≢true e)
whichever f (Some x) a b e = refl

abbrev by_way : Context → Glyph → Way → Glyphs
by_way context g way = flat_map (becomes context way) (g ∷ [])

one_becomes : (context : Context) (g : Glyph) → is_short_alone context.mode ≡ true → Stays context g
    → cluster_becomes context (g ∷ []) ≡ with_number context g ∷ []
one_becomes context g short s =
    let c = g.glyph_id in
    let f = λ (glyph : GlyphId). numbered_as glyph.0 g in
    ap (λ b. by_way context g (cond b Short Whole)) short
    ∙ ap (λ b. written_as context g (cond b [] (apart_in context true 8 c)) ++ []) s.has
    ∙ ap (λ (h : Glyph). h ∷ []) (whichever f (context.nominal c) (without_glyph context g) g s.has)

all_become : (context : Context) (gs : Glyphs) → is_short_alone context.mode ≡ true
    → AllByRecursion (Stays context) gs → flat_map (cluster_becomes context) (map (λ g. g ∷ []) gs)
    ≡ map (with_number context) gs
all_become context [] short all = refl
all_become context (g ∷ gs) short all =
    ap (λ xs. xs ++ flat_map (cluster_becomes context) (map (λ g. g ∷ []) gs)) (one_becomes context g short all.0)
    ∙ ap (λ xs. with_number context g ∷ xs) (all_become context gs short all.1)

none_joined : (context : Context) (level : BufferClusterLevel) (gs : Glyphs) (i : ℕ)
    → AllByRecursion (Stays context) gs → variant_joined context level gs i ≡ gs
none_joined context level gs i all =
    let s = get_or gs (i + 1) default_glyph in
    ap (λ b. cond (b && is_selector_glyph s && not (is_selector_behind gs i)
    && is_some (context.variant (get_or gs i default_glyph).glyph_id s.glyph_id)) (stay_together level i (i + 2) gs)
    gs) (no_mark_at context gs (i + 1) all)

nothing_joined : (context : Context) (level : BufferClusterLevel) (gs : Glyphs) (places : List ℕ)
    → AllByRecursion (Stays context) gs → fold (λ gs i. variant_joined context level gs i) gs places ≡ gs
nothing_joined context level gs [] all = refl
nothing_joined context level gs (i ∷ places) all =
    ap (λ xs. fold (λ gs i. variant_joined context level gs i) xs places) (none_joined context level gs i all)
    ∙ nothing_joined context level gs places all

first_by : (context : Context) (level : BufferClusterLevel) (gs : Glyphs) → is_short_alone context.mode
    ≡ true → AllByRecursion (Stays context) gs → first_round context level gs ≡ map (with_number context) gs
first_by context level gs short all =
    ap (text_decomposed context) (nothing_joined context level gs (range_with_len 0 (length gs - 1)) all)
    ∙ ap (flat_map (cluster_becomes context)) (each_alone context gs all)
    ∙ all_become context gs short all

-- the first round, as the code writes it
pub whole_round : (context : Context) (level : BufferClusterLevel) (gs : Glyphs)
    → is_whole context gs ≡ true → map (with_number context) gs ≡ first_round context level gs
whole_round context level gs whole =
    let parts = and_parts (is_short_alone context.mode) (list_all (stays_alone context) gs) whole in
    sym (first_by context level gs parts.0 (all_stay context gs parts.1))

pub whole_length : (context : Context) (level : BufferClusterLevel) (gs : Glyphs)
    → is_whole context gs ≡ true → length (first_round context level gs) ≡ length gs
whole_length context level gs whole =
    let parts = and_parts (is_short_alone context.mode) (list_all (stays_alone context) gs) whole in
    ap length (first_by context level gs parts.0 (all_stay context gs parts.1)) ∙ length-map gs (with_number context)

-- ---- the later rounds

seen_through : (context : Context) (g : Glyph) (o : Option GlyphId) (Same : Glyph → Type 0)
    → ((n : ℕ) → Same (numbered_as n g)) → Same g
    → Same (option_map_or (λ (glyph : GlyphId). numbered_as glyph.0 g) o g)
seen_through context g None Same some none = none
seen_through context g (Some glyph) Same some none = some glyph.0

numbered_stays : (context : Context) (g : Glyph) → Stays context g → Stays context (with_number context g)
numbered_stays context g s =
    seen_through context g (context.nominal g.glyph_id) (Stays context)
    (λ n. record { no_mark = s.no_mark; has = s.has }) s

all_numbered : (context : Context) (gs : Glyphs) → AllByRecursion (Stays context) gs
    → AllByRecursion (Stays context) (map (with_number context) gs)
all_numbered context [] all = tt
all_numbered context (g ∷ gs) all = (numbered_stays context g all.0, all_numbered context gs all.1)

abbrev Empty : ℕ × ℕ → Type 0
Empty run = run.0 ≡ run.1

runs_empty : (context : Context) (i : ℕ) (gs : Glyphs) → AllByRecursion (Stays context) gs
    → AllByRecursion Empty (mark_sequences i i (classes gs))
runs_empty context i [] all = (refl, tt)
runs_empty context i (g ∷ gs) all =
    let letter : class_of g ≡ 0 = class_of_other g all.0.no_mark in
    subst (λ c. AllByRecursion Empty
    (cond (eqb c 0) ((i, i) ∷ mark_sequences (i + 1) (i + 1) (classes gs)) (mark_sequences i (i + 1) (classes gs))))
    (sym letter) (refl, runs_empty context (i + 1) gs all.1)

empty_stays : (context : Context) (level : BufferClusterLevel) (gs : Glyphs) (run : ℕ × ℕ) → Empty run
    → sequence_ordered context level run gs ≡ gs
empty_stays context level gs run same =
    let none : nat_lt run.0 run.1 ≡ false = grind (arith, nat_tests) in
    ap (λ b. cond (b && nat_le (run.1 - run.0) 32)
    (context.reordered level run.0 run.1 (sequence_sorted level run.0 run.1 gs)) gs) none

all_empty : (context : Context) (level : BufferClusterLevel) (gs : Glyphs) (runs : List (ℕ × ℕ))
    → AllByRecursion Empty runs → fold (λ gs run. sequence_ordered context level run gs) gs runs ≡ gs
all_empty context level gs [] all = refl
all_empty context level gs (run ∷ runs) all =
    ap (λ xs. fold (λ gs run. sequence_ordered context level run gs) xs runs) (empty_stays context level gs run all.0)
    ∙ all_empty context level gs runs all.1

abbrev NoJoiner : Glyph → Type 0
NoJoiner g = eqb g.glyph_id 0x034F ≡ false

none_shown : (before : ℕ) (gs : Glyphs) → AllByRecursion NoJoiner gs → shown_behind before gs ≡ gs
none_shown before [] all = refl
none_shown before (g ∷ []) all = refl
none_shown before (g ∷ (h ∷ gs)) all =
    ap (λ x. x ∷ shown_behind (class_of g) (h ∷ gs)) (not_joiner before (class_of h) g all.0)
    ∙ ap (λ xs. g ∷ xs) (none_shown (class_of g) (h ∷ gs) all.1)

no_joiner_shown : (gs : Glyphs) → AllByRecursion NoJoiner gs → joiners_shown gs ≡ gs
no_joiner_shown [] all = refl
no_joiner_shown (g ∷ gs) all = ap (λ xs. g ∷ xs) (none_shown (class_of g) gs all.1)

without_joiners : (gs : Glyphs) → list_any (λ g. eqb g.glyph_id 0x034F) gs ≡ false → AllByRecursion NoJoiner gs
without_joiners [] e = tt
without_joiners (g ∷ gs) e =
    let parts = or_parts (eqb g.glyph_id 0x034F) (list_any (λ g. eqb g.glyph_id 0x034F) gs) e in
    (parts.0, without_joiners gs parts.1)

-- A text without grapheme joiners has none to show.
pub none_is_shown : (gs : Glyphs) → list_any (λ g. g.glyph_id == grapheme_joiner) gs ≡ false → joiners_shown gs ≡ gs
none_is_shown gs e = no_joiner_shown gs (without_joiners gs e)

-- A text without marks behind its first place, and in the end without such joiners, is done after the first round.
pub first_round_alone : (context : Context) (rounds : Rounds) (level : BufferClusterLevel) (gs : Glyphs)
    → has_rounds rounds gs ≡ false
    → list_any (λ g. g.glyph_id == grapheme_joiner) (first_round context level gs) ≡ false
    → normalized context rounds level gs ≡ first_round context level gs
first_round_alone context rounds level gs runs none =
    ap (λ b. later_rounds context b level (first_round context level gs)) runs
    ∙ none_is_shown (first_round context level gs) none

no_joiners : (context : Context) (gs : Glyphs) → list_any (λ g. eqb g.glyph_id 0x034F) gs ≡ false
    → AllByRecursion NoJoiner (map (with_number context) gs)
no_joiners context [] e = tt
no_joiners context (g ∷ gs) e =
    let parts = or_parts (eqb g.glyph_id 0x034F) (list_any (λ g. eqb g.glyph_id 0x034F) gs) e in
    (seen_through context g (context.nominal g.glyph_id) NoJoiner (λ n. parts.0) parts.0, no_joiners context gs parts.1)

nothing_taken : (context : Context) (level : BufferClusterLevel) (n : ℕ) (w : StarterWalk)
    → AllByRecursion (Stays context) w.glyphs → (walk_over context level n w).glyphs ≡ w.glyphs
nothing_taken context level zero w all = refl
nothing_taken context level (suc n) w all =
    let mark = get_or w.glyphs w.place default_glyph in
    ap (λ b. (walk_over context level n
    (option_map_or (λ drawn. taken_in context level drawn w)
    (cond (b && is_free w)
    (if_drawn context (context.composed (get_or w.glyphs w.starter default_glyph).glyph_id mark.glyph_id)) None)
    (left_as_is w))).glyphs) (no_mark_at context w.glyphs w.place all)
    ∙ nothing_taken context level n (left_as_is w) all

nothing_composed : (context : Context) (level : BufferClusterLevel) (composing : Bool) (gs : Glyphs)
    → AllByRecursion (Stays context) gs → cond composing (recomposed context level gs) gs ≡ gs
nothing_composed context level true gs all =
    nothing_taken context level (length gs - 1) (record { starter = 0; place = 1; glyphs = gs }) all
nothing_composed context level false gs all = refl

nothing_later : (context : Context) (level : BufferClusterLevel) (runs : Bool) (gs : Glyphs)
    → AllByRecursion (Stays context) gs → AllByRecursion NoJoiner gs → later_rounds context runs level gs ≡ gs
nothing_later context level true gs all none =
    let round = λ (xs : Glyphs). cond (composes context.mode)
    (recomposed context level (joiners_shown xs)) (joiners_shown xs) in
    ap round (all_empty context level gs (mark_sequences 0 0 (classes gs)) (runs_empty context 0 gs all))
    ∙ ap (λ xs. cond (composes context.mode) (recomposed context level xs) xs) (no_joiner_shown gs none)
    ∙ nothing_composed context level (composes context.mode) gs all
nothing_later context level false gs all none = no_joiner_shown gs none

pub whole_texts_stay : WholeTextsStay
whole_texts_stay context rounds level gs whole none =
    let parts = and_parts (is_short_alone context.mode) (list_all (stays_alone context) gs) whole in
    let all = all_stay context gs parts.1 in
    ap (later_rounds context (has_rounds rounds gs) level) (first_by context level gs parts.0 all)
    ∙ nothing_later context level (has_rounds rounds gs) (map (with_number context) gs) (all_numbered context gs all)
    (no_joiners context gs none)
