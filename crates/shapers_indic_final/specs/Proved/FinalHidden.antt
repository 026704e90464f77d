-- The search for the base changes nothing that is carried along, and the base lies in the syllable or at its end.
use Rattle.std.proofs.Common.{ℕ, ◌+◌, ◌-◌, ◌<◌, ◌≤◌, ◌≡◌, ◌==◌, Bool, true, false, if◌then◌else◌, [], ◌∷◌, ◌++◌, map, length, take, drop, length-drop, reverse, Option, None, Some, refl, sym, ◌∙◌, ap, arith}
use Rattle.std.specs.Prelude.{find, unwrap_or, is_some, ◌&&◌}
use Rattle.std.specs.Option.{option_map_or}
use Rattle.std.proofs.lemmas.List.{map-append, take-append-drop}
use Rattle.shapers_buffer.specs.Glyphs.{Glyph, Glyphs}
use Rattle.shapers_buffer.specs.declared.buffer.tag.Script.{Script}
use Rattle.shapers_buffer.specs.Glyph.{at_position}
use Rattle.shapers_buffer.specs.Properties.{LIGATED, MULTIPLIED, without_mark}
use Rattle.shapers_base.specs.declared.font.GlyphId.{GlyphId}
use Rattle.shapers_base.specs.declared.plan.ot_category_t.TheConstants.{OT_H, OT_ZWJ}
use Rattle.shapers_base.specs.declared.plan.ot_position_t.TheConstants.{POS_BASE_C}
use Rattle.shapers_clusters.proofs.FlagCalls.{map-with_stretch}
use Rattle.shapers_clusters.proofs.ViewedSteps.{length-same}
use Rattle.shapers_indic.specs.Glyphs.{greatest_place, is_joiner, is_one_of, least_place, passes}
use Rattle.shapers_indic_final.specs.FinalBase.{along_links, as_linked, base_by_links, base_by_pref, before_halants, before_joiner, behind_halants, first_base, if_unformed, is_behind_base, is_from_base_on, is_unformed, is_unformed_below, last_link, links_from, links_written, is_base_like, pref_place, stepped_back, unformed_pref, with_final_base, with_base_at, with_links, with_pref_base, with_viramas}
use Rattle.shapers_indic_final.specs.FinalGlyphs.{is_indic_halant, is_lost_virama, recovered}
use Rattle.shapers_base.specs.Masks.{has_bits}
use Rattle.shapers_indic.specs.Plan.{is_malayalam}
use Rattle.shapers_indic_final.specs.declared.ot_shaper_indic_final.rules.Rules.{Rules}
use Rattle.shapers_indic_final.specs.Proved.FinalTargets.{find_passes, passes_within, steps_within}
use Rattle.shapers_syllabic.specs.Reordering.{carried}
use Rattle.shapers_indic.proofs.PlaceSearch.{PlaceWithin, greatest_within, least_within}

-- viramas
hidden-recovered : (v : Option GlyphId) (g : Glyph) → carried (recovered v g) ≡ carried g
hidden-recovered v g =
    let props = without_mark MULTIPLIED (without_mark LIGATED g.glyph_props) in
    elim (is_lost_virama v g) as (λ b. carried (if b then record g { category = OT_H; glyph_props = props } else g)
    ≡ carried g) [ true ↦ refl | false ↦ refl ]

pub hidden-viramas : (r : Rules) (gs : Glyphs) → map carried (with_viramas r gs) ≡ map carried gs
hidden-viramas r [] = refl
hidden-viramas r (g ∷ gs) = ap (λ x. x ∷ map carried (with_viramas r gs)) (hidden-recovered r.virama g)
    ∙ ap (λ xs. carried g ∷ xs) (hidden-viramas r gs)

-- positions
hidden-positions : (p : ℕ) (gs : Glyphs) → map carried (map (at_position p) gs) ≡ map carried gs
hidden-positions p [] = refl
hidden-positions p (g ∷ gs) = ap (λ xs. carried g ∷ xs) (hidden-positions p gs)

hidden-base_at : (i : ℕ) (gs : Glyphs) → map carried (with_base_at i gs) ≡ map carried gs
hidden-base_at i gs =
    map-with_stretch carried i (i + 1) (map (at_position POS_BASE_C)) gs (omega arith) (hidden-positions POS_BASE_C)

pub hidden-pref_base : (pref base : ℕ) (gs : Glyphs) → map carried (with_pref_base pref base gs)
    ≡ map carried gs
hidden-pref_base pref base gs =
    elim (is_some (unformed_pref pref base gs)) as (λ b. map carried
    (if b then with_base_at (base_by_pref pref base gs) gs else gs) ≡ map carried gs) [
      | true ↦ hidden-base_at (base_by_pref pref base gs) gs
      | false ↦ refl
    ]

hidden-as_linked : (g : Glyph) → carried (as_linked g) ≡ carried g
hidden-as_linked g =
    elim (is_unformed_below g) as (λ b. carried (if b then at_position POS_BASE_C g else g) ≡ carried g)
    [ true ↦ refl | false ↦ refl ]

hidden-along : (halant : Bool) (gs : Glyphs) → map carried (along_links as_linked halant gs)
    ≡ map carried gs
hidden-along true [] = refl
hidden-along false [] = refl
hidden-along false (g ∷ gs) =
    let f = as_linked in
    elim (is_joiner g) as (λ j. map carried (if j then g ∷ along_links f false gs else if is_indic_halant g then g
    ∷ along_links f true gs else g ∷ gs) ≡ carried g ∷ map carried gs) [
      | true ↦ ap (λ xs. carried g ∷ xs) (hidden-along false gs)
      | false ↦ elim (is_indic_halant g) as (λ h. map carried (if h then g ∷ along_links f true gs else g ∷ gs)
          ≡ carried g ∷ map carried gs) [
            | true ↦ ap (λ xs. carried g ∷ xs) (hidden-along true gs)
            | false ↦ refl
          ]
    ]
hidden-along true (g ∷ gs) =
    let f = as_linked in
    elim (is_joiner g) as (λ j. map carried (if j then g ∷ along_links f true gs else f g ∷ along_links f false gs)
    ≡ carried g ∷ map carried gs) [
      | true ↦ ap (λ xs. carried g ∷ xs) (hidden-along true gs)
      | false ↦ ap (λ x. x ∷ map carried (along_links f false gs)) (hidden-as_linked g)
          ∙ ap (λ xs. carried g ∷ xs) (hidden-along false gs)
    ]

hidden-written : (base : ℕ) (gs : Glyphs) → map carried (links_written base gs) ≡ map carried gs
hidden-written base gs =
    let a = take (base + 1) gs in
    let c = drop (base + 1) gs in
    map-append carried a (along_links as_linked false c)
    ∙ ap (λ xs. map carried a ++ xs) (hidden-along false c)
    ∙ sym (map-append carried a c)
    ∙ ap (map carried) (take-append-drop (base + 1) gs)

pub hidden-links : (script : Option Script) (base : ℕ) (gs : Glyphs)
    → map carried (with_links script base gs) ≡ map carried gs
hidden-links script base gs =
    elim (is_malayalam script) as (λ b. map carried (if b then links_written base gs else gs) ≡ map carried gs) [
      | true ↦ hidden-written base gs
      | false ↦ refl
    ]

pub hidden-based : (r : Rules) (script : Option Script) (gs : Glyphs)
    → map carried (with_final_base r script gs).glyphs ≡ map carried gs
hidden-based r script gs =
    let first = first_base gs in
    hidden-links script (base_by_pref r.pref first gs) (with_pref_base r.pref first gs)
    ∙ hidden-pref_base r.pref first gs

-- the base
or_length : (gs : Glyphs) (o : Option ℕ) → ((j : ℕ) → o ≡ Some j → PlaceWithin 0 (length gs) j)
    → unwrap_or o (length gs) ≤ length gs
or_length gs None within = omega arith
or_length gs (Some j) within = let k = within j refl in omega (arith, k.high)

first_within : (gs : Glyphs) → first_base gs ≤ length gs
first_within gs =
    or_length gs (least_place (passes is_from_base_on gs) 0 (length gs))
    (λ j found. least_within (passes is_from_base_on gs) 0 (length gs) j found)

behind_within : (gs : Glyphs) (i : ℕ) → i < length gs → behind_halants gs i ≤ length gs
behind_within gs i l = let rest = steps_within is_indic_halant (drop i gs) in omega (arith, length-drop i gs)

by_pref_from : (base : ℕ) (gs : Glyphs) (o : Option ℕ) → base ≤ length gs
    → ((j : ℕ) → o ≡ Some j → j < length gs) → option_map_or (behind_halants gs) (if_unformed gs o) base ≤ length gs
by_pref_from base gs None l within = l
by_pref_from base gs (Some j) l within =
    elim (passes is_unformed gs j) as (λ b. option_map_or (behind_halants gs) (if b then Some j else None) base
    ≤ length gs) [
      | true ↦ behind_within gs j (within j refl)
      | false ↦ l
    ]

by_pref_within : (pref base : ℕ) (gs : Glyphs) → base ≤ length gs → base_by_pref pref base gs ≤ length gs
by_pref_within pref base gs l =
    by_pref_from base gs (pref_place pref base gs) l
    (λ j found. (least_within (passes (has_bits pref) gs) (base + 1) (length gs) j found).high)

or_base : (base n : ℕ) (o : Option ℕ) → base ≤ n → ((j : ℕ) → o ≡ Some j → j < n) → unwrap_or o base ≤ n
or_base base n None l within = l
or_base base n (Some j) l within = let k = within j refl in omega (arith, k)

by_links_within : (script : Option Script) (base : ℕ) (gs : Glyphs) → base ≤ length gs
    → base_by_links script base gs ≤ length gs
by_links_within script base gs l =
    let links = reverse (links_from false (base + 1) (drop (base + 1) gs)) in
    let test = passes is_unformed_below gs in
    elim (is_malayalam script) as (λ b. (if b then last_link base gs else base) ≤ length gs) [
      | true ↦ or_base base (length gs) (find test links) l
          (λ j found. passes_within is_unformed_below gs j (find_passes test links j found))
      | false ↦ l
    ]

back_within : (base : ℕ) (gs : Glyphs) → stepped_back base gs ≤ base
back_within base gs = elim (passes is_behind_base gs base) as (λ b. (if b then base - 1 else base) ≤ base)
    [ true ↦ omega arith | false ↦ omega arith ]

joiner_within : (base : ℕ) (gs : Glyphs) → before_joiner base gs ≤ base
joiner_within base gs =
    elim (base == length gs && passes (is_one_of (OT_ZWJ ∷ [])) gs (base - 1)) as (λ b. (if b then base - 1 else base)
    ≤ base) [ true ↦ omega arith | false ↦ omega arith ]

or_start : (base : ℕ) (o : Option ℕ) → ((j : ℕ) → o ≡ Some j → PlaceWithin 1 (base + 1) j) → unwrap_or o 0 ≤ base
or_start base None within = omega arith
or_start base (Some j) within = let k = within j refl in omega (arith, k.high)

halants_within : (base : ℕ) (gs : Glyphs) → before_halants base gs ≤ base
halants_within base gs =
    elim (base == length gs) as (λ b.
    (if b then base else unwrap_or (greatest_place (passes is_base_like gs) 1 (base + 1)) 0) ≤ base) [
      | true ↦ omega arith
      | false ↦ or_start base (greatest_place (passes is_base_like gs) 1 (base + 1))
          (λ j found. greatest_within (passes is_base_like gs) 1 (base + 1) j found)
    ]

pub base_within : (r : Rules) (script : Option Script) (gs : Glyphs) → (with_final_base r script gs).base
    ≤ length (with_final_base r script gs).glyphs
base_within r script gs =
    let first = first_base gs in
    let opened = with_pref_base r.pref first gs in
    let by_pref = base_by_pref r.pref first gs in
    let linked = with_links script by_pref opened in
    let one : length opened ≡ length gs = length-same carried opened gs (hidden-pref_base r.pref first gs) in
    let two : length linked ≡ length opened = length-same carried linked opened (hidden-links script by_pref opened) in
    let a = by_pref_within r.pref first gs (first_within gs) in
    let by_links = base_by_links script by_pref opened in
    let b : by_links ≤ length opened = by_links_within script by_pref opened (omega (arith, one, a)) in
    let back = stepped_back by_links linked in
    let c = back_within by_links linked in
    let d = joiner_within back linked in
    let e = halants_within (before_joiner back linked) linked in
    omega (arith, two, b, c, d, e)
