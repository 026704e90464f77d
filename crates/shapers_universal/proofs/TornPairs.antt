-- What Sound flags in a text whose syllables have their forms: the walk, and what it leaves.
use Rattle.std.proofs.Common.{◌≡◌, ℕ, ◌-◌, ◌+◌, ◌<◌, ◌≤◌, ◌&&◌, Bool, true, false, cond, List, [], ◌∷◌, ◌++◌, length, take, drop, map, Option, None, refl, sym, ap, ◌∙◌, arith, length-take-le, length-drop}
use Rattle.std.specs.List.{AllByRecursion}
use Rattle.std.proofs.lemmas.List.{drop_all, drop-drop, drop-map, length-map, take_rest}
use Rattle.std.proofs.lemmas.List.Sums.{prefix_len-le-length}
use Rattle.shapers_buffer.specs.Glyphs.{Glyph, Glyphs}
use Rattle.shapers_buffer.specs.Clusters.{stretch_of}
use Rattle.shapers_buffer.specs.GlyphFlags.{unsafe_all, unsafe_inside, with_bits}
use Rattle.shapers_buffer.specs.Syllables.{first_syllable_len, syllables}
use Rattle.shapers_buffer.proofs.SyllableLaws.{syllables_are_longest}
use Rattle.shapers_base.specs.Map.{Map}
use Rattle.shapers_base.specs.declared.plan.arabic.arabic_shape_plan_t.{arabic_shape_plan_t}
use Rattle.shapers_base.specs.declared.plan.breaks.BreakFlags.{BreakFlags}
use Rattle.shapers_base.specs.declared.plan.breaks.BreakFlags.TheVariants.{Sound}
use Rattle.shapers_clusters.specs.FlagLaw.{OnlyFlagsAdded}
use Rattle.shapers_clusters.proofs.FlagCalls.{map-unsafe_all, unsafe_inside-alone}
use Rattle.shapers_clusters.proofs.FlagLaw.{all_added_on, alone_added}
use Rattle.shapers_clusters.proofs.Flagging.{unsafe_all-append}
use Rattle.shapers_syllabic.proofs.Borders.{syllables-viewed}
use Rattle.shapers_syllabic.proofs.SetupFlags.{same_added}
use Rattle.shapers_syllabic.proofs.SyllableWalks.{syllables_from}
use Rattle.shapers_universal.specs.UniversalSyllables.{first_joins, forms_flagged, is_torn, may_join, torn_pair, torn_pairs}
use Rattle.shapers_universal.specs.declared.ot_shaper_use.forms.FormMasks.{FormMasks}
use Rattle.shapers_universal.proofs.SyllableWalks.{first_joins-text}

nothing_and : (a : Bool) (sts : List (ℕ × ℕ)) → cond (a && false) sts [] ≡ []
nothing_and true sts = refl
nothing_and false sts = refl

-- the stretch of a pair, by the rest of the text behind its first syllable
rest_pair : (masks : FormMasks) (before : Bool) (i : ℕ) (syl rest : Glyphs)
    → torn_pair masks before i syl (syllables rest)
    ≡ cond (may_join syl && (may_join rest && is_torn masks before (may_join (drop
    (first_syllable_len rest) rest)))) ((i, i + (length syl + first_syllable_len rest)) ∷ []) []
rest_pair masks before i syl [] = search arith
rest_pair masks before i syl (g ∷ gs) =
    search (arith, syllables_are_longest, first_joins-text, length-take-le, prefix_len-le-length)

pair_at : (masks : FormMasks) (before : Bool) (s e : ℕ) (gs : Glyphs) → s ≤ e → e ≤ length gs → let end =
    e + first_syllable_len (drop e gs) in torn_pair masks before s (stretch_of s e gs) (syllables (drop e gs))
    ≡ cond (may_join (stretch_of s e gs) && (may_join (drop e gs) && is_torn masks before (may_join
    (drop end gs)))) ((s, end) ∷ []) []
pair_at = search (arith, rest_pair, drop-drop, length-take-le, length-drop)

-- so with what the code reads
pub pair_read : (masks : FormMasks) (before : Bool) (s e n : ℕ) (behind tears : Bool) (gs : Glyphs) → s ≤ e
    → e ≤ length gs → n ≡ first_syllable_len (take (length gs - e) (drop e gs))
    → behind ≡ may_join (take (length gs - (e + n)) (drop (e + n) gs))
    → tears ≡ (may_join (stretch_of s e gs) && (may_join (take (length gs - e)
    (drop e gs)) && is_torn masks before behind))
    → torn_pair masks before s (stretch_of s e gs) (syllables (drop e gs)) ≡ cond tears ((s, e + n) ∷ []) []
pair_read = search (arith, pair_at, take_rest)

-- at the end of the text there is none
pub no_pair : (masks : FormMasks) (before : Bool) (s e : ℕ) (gs : Glyphs) → length gs ≤ e
    → torn_pair masks before s (stretch_of s e gs) (syllables (drop e gs)) ≡ []
no_pair masks before s e gs past = cc (drop_all e gs past)

-- masks tell nothing of them
abbrev bare : Glyph → Glyph
bare g = record g { mask = 0 }

bare_joins : (gs : Glyphs) → may_join (map bare gs) ≡ may_join gs
bare_joins [] = refl
bare_joins (g ∷ gs) = refl

bare_first : (ps : List Glyphs) → first_joins (map (map bare) ps) ≡ first_joins ps
bare_first [] = refl
bare_first (p ∷ ps) = bare_joins p

bare_pair : (masks : FormMasks) (before : Bool) (i : ℕ) (p : Glyphs) (ps : List Glyphs)
    → torn_pair masks before i (map bare p) (map (map bare) ps) ≡ torn_pair masks before i p ps
bare_pair masks before i p [] = refl
bare_pair masks before i p (q ∷ ps) = search (arith, length-map)

bare_pairs : (masks : FormMasks) (before : Bool) (i : ℕ) (ps : List Glyphs)
    → torn_pairs masks before i (map (map bare) ps) ≡ torn_pairs masks before i ps
bare_pairs masks before i [] = refl
bare_pairs masks before i (p ∷ ps) = search (arith, length-map, bare_pairs masks (may_join p) (i + length p) ps)

pairs_alike : (masks : FormMasks) (before : Bool) (i : ℕ) (gs hs : Glyphs) → map bare gs ≡ map bare hs
    → torn_pairs masks before i (syllables gs) ≡ torn_pairs masks before i (syllables hs)
pairs_alike masks before i gs hs same =
    let told : (xs : Glyphs) → torn_pairs masks before i (syllables xs) ≡ torn_pairs masks before i (syllables (map
    bare xs)) = λ xs. sym (ap (torn_pairs masks before i) (syllables-viewed bare (λ g. refl) xs)
    ∙ bare_pairs masks before i (syllables xs)) in
    cc (told gs, told hs)

-- they are in order
pair_in_order : (masks : FormMasks) (before : Bool) (i : ℕ) (p : Glyphs) (ps : List Glyphs)
    (rest : List (ℕ × ℕ)) → AllByRecursion (λ st. st.0 ≤ st.1) rest
    → AllByRecursion (λ st. st.0 ≤ st.1) (torn_pair masks before i p ps ++ rest)
pair_in_order masks before i p [] rest all = all
pair_in_order masks before i p (q ∷ ps) rest all = search arith

pairs_in_order : (masks : FormMasks) (before : Bool) (i : ℕ) (ps : List Glyphs)
    → AllByRecursion (λ st. st.0 ≤ st.1) (torn_pairs masks before i ps)
pairs_in_order masks before i [] = tt
pairs_in_order masks before i (p ∷ ps) = search (arith, pairs_in_order masks (may_join p) (i + length p) ps)

-- after one syllable
pub pairs_next : (masks : FormMasks) (before : Bool) (s e : ℕ) (gs hs : Glyphs) → s < length gs
    → e ≡ s + first_syllable_len (drop s gs) → e ≤ length gs
    → hs ≡ unsafe_all (torn_pair masks before s (stretch_of s e gs) (syllables (drop e gs))) gs
    → unsafe_all (torn_pairs masks (may_join (stretch_of s e gs)) e (syllables (drop e hs))) hs
    ≡ unsafe_all (torn_pairs masks before s (syllables (drop s gs))) gs
pairs_next masks before s e gs hs some is inside flagged =
    let n = first_syllable_len (drop s gs) in
    let syl = stretch_of s e gs in
    let rest = syllables (drop e gs) in
    let size : e - s ≡ n = omega arith in
    let pair = torn_pair masks before s syl rest in
    let joins = may_join syl in
    let same : map bare hs ≡ map bare gs =
    ap (map bare) flagged ∙ map-unsafe_all bare (λ g. refl) pair gs (search arith) in
    cc (
      pairs_alike masks joins e (drop e hs) (drop e gs)
          (sym (drop-map bare e hs) ∙ ap (drop e) same ∙ drop-map bare e gs),
      unsafe_all-append pair (torn_pairs masks joins e rest) gs,
      length-take-le (e - s) (drop s gs) (omega (arith, length-drop s gs)),
      syllables_from s n gs (omega (arith, length-drop s gs)) refl,
    )

-- what the choice flags: flags alone, none lost
pub map-forms_flagged : {Y : Type 0} (f : Glyph → Y) → ((g : Glyph) → f (with_bits 3 g) ≡ f g)
    → (arabic : Option arabic_shape_plan_t) (breaks : BreakFlags) (m : Map) (gs : Glyphs)
    → map f (forms_flagged arabic breaks m gs) ≡ map f gs
map-forms_flagged f keeps None Sound m gs = search (map-unsafe_all, pairs_in_order)
map-forms_flagged f keeps _ _ m gs = refl

all_unsafe_added : (sts : List (ℕ × ℕ)) (gs : Glyphs) → AllByRecursion (λ st. st.0 ≤ st.1) sts
    → OnlyFlagsAdded gs (unsafe_all sts gs)
all_unsafe_added [] gs all = same_added gs
all_unsafe_added (st ∷ sts) gs all =
    let once = unsafe_inside st.0 st.1 gs in
    all_added_on gs once (unsafe_all sts once) (search (alone_added, unsafe_inside-alone))
    (all_unsafe_added sts once all.1)

pub forms_flagged_added : (arabic : Option arabic_shape_plan_t) (breaks : BreakFlags) (m : Map) (gs : Glyphs)
    → OnlyFlagsAdded gs (forms_flagged arabic breaks m gs)
forms_flagged_added None Sound m gs = search (all_unsafe_added, pairs_in_order)
forms_flagged_added _ _ m gs = same_added gs
