-- A text without flags, and a cluster of one glyph.
use Rattle.std.proofs.Common.{◌≡◌, ◌%◌, ℕ, Bool, true, false, ◌||◌, cond, List, [], ◌∷◌, ◌++◌, length, map, get_or, set, refl, ap, ◌∙◌, arith}
use Rattle.std.specs.Int.Bits.{bit_or, or_zero_r}
use Rattle.std.specs.Prelude.{bit_and, fold}
use Rattle.std.specs.List.{AllByRecursion, flat_map, list_any}
use Rattle.std.proofs.lemmas.Bool.{or_parts}
use Rattle.std.proofs.lemmas.Bool.Decides.{nat_tests}
use Rattle.shapers_buffer.specs.declared.buffer.flags.BufferFlags.{BufferFlags}
use Rattle.shapers_buffer.specs.Buffer.{flags_concat, flags_tatweel, has_flag}
use Rattle.shapers_buffer.specs.Glyphs.{Glyph, Glyphs}
use Rattle.shapers_buffer.specs.Glyph.{default_glyph, without_flags}
use Rattle.shapers_buffer.specs.Clusters.{has_cluster}
use Rattle.shapers_position.specs.ClusterFlags.{cluster_groups, flags_propagated, flags_shared, flags_wanted, group_with_first, is_flagged, joins_decided, with_flags}
use Rattle.shapers_position.proofs.Untouched.{map-none}

without : (g : Glyph) → is_flagged g ≡ false → g.mask % 8 ≡ 0
without g off = grind (arith, nat_tests)

put-none : (g : Glyph) → is_flagged g ≡ false → with_flags 0 g ≡ g
put-none g off =
    let none = without g off in
    let same : without_flags g.mask ≡ g.mask = omega (arith, none) in
    ap (λ (m : ℕ). let r : Glyph = record g { mask = m } in r) (or_zero_r (without_flags g.mask) ∙ same)

gathered-none : (a : ℕ) (gs : Glyphs) → a ≡ 0 → list_any is_flagged gs ≡ false
    → fold (λ f (g : Glyph). bit_or f (g.mask % 8)) a gs ≡ 0
gathered-none a [] is none = is
gathered-none a (g ∷ gs) is none =
    let both = or_parts (is_flagged g) (list_any is_flagged gs) none in
    gathered-none (bit_or a (g.mask % 8)) gs (ap (bit_or a) (without g both.0) ∙ ap (λ n. bit_or n 0) is) both.1

wanted_by : (tatweel concat : Bool) → (let settled = cond tatweel (joins_decided 0) 0 in
    cond concat settled (bit_and settled 5)) ≡ 0
wanted_by true true = refl
wanted_by true false = refl
wanted_by false true = refl
wanted_by false false = refl

wanted-none : (wanted : BufferFlags) → flags_wanted wanted 0 ≡ 0
wanted-none wanted = wanted_by (has_flag flags_tatweel wanted) (has_flag flags_concat wanted)

shared-none : (wanted : BufferFlags) (gs : Glyphs) → list_any is_flagged gs ≡ false → flags_shared wanted gs ≡ gs
shared-none wanted gs none =
    ap (λ k. map (with_flags k) gs) (ap (flags_wanted wanted) (gathered-none 0 gs refl none) ∙ wanted-none wanted)
    ∙ map-none is_flagged (with_flags 0) put-none gs none

-- the groups of a text are the text
abbrev Clean : Glyphs → Type 0
Clean group = list_any is_flagged group ≡ false

record Grouped (groups : List Glyphs) (gs : Glyphs) : Type 0 where
  clean : AllByRecursion Clean groups
  whole : flat_map (λ group. group) groups ≡ gs

joined : (g : Glyph) (groups : List Glyphs) (gs : Glyphs) → is_flagged g ≡ false → Grouped groups gs
    → Grouped (group_with_first g groups) (g ∷ gs)
joined g [] gs off by = record { clean = (ap (λ b. b || false) off, tt); whole = ap (λ xs. g ∷ xs) by.whole }
joined g ([] ∷ groups) gs off by =
    record { clean = (ap (λ b. b || false) off, by.clean); whole = ap (λ xs. g ∷ xs) by.whole }
joined g ((h ∷ group) ∷ groups) gs off by =
    let one = ap (λ b. b || false) off in
    let more = ap (λ b. b || list_any is_flagged (h ∷ group)) off ∙ by.clean.0 in
    elim (has_cluster g.cluster h) as
    (λ b. Grouped (cond b ((g ∷ h ∷ group) ∷ groups) ((g ∷ []) ∷ (h ∷ group) ∷ groups)) (g ∷ gs)) [
      | true ↦ record { clean = (more, by.clean.1); whole = ap (λ xs. g ∷ xs) by.whole }
      | false ↦ record { clean = (one, by.clean); whole = ap (λ xs. g ∷ xs) by.whole }
    ]

grouped : (gs : Glyphs) → list_any is_flagged gs ≡ false → Grouped (cluster_groups gs) gs
grouped [] none = record { clean = tt; whole = refl }
grouped (g ∷ gs) none =
    let both = or_parts (is_flagged g) (list_any is_flagged gs) none in
    joined g (cluster_groups gs) gs both.0 (grouped gs both.1)

all-none : (wanted : BufferFlags) (groups : List Glyphs) → AllByRecursion Clean groups
    → flat_map (flags_shared wanted) groups ≡ flat_map (λ group. group) groups
all-none wanted [] all = refl
all-none wanted (group ∷ groups) all =
    ap (λ xs. xs ++ flat_map (flags_shared wanted) groups) (shared-none wanted group all.0)
    ∙ ap (λ xs. group ++ xs) (all-none wanted groups all.1)

-- A text in which no glyph has a flag.
pub propagated-none : (wanted : BufferFlags) (gs : Glyphs) → list_any is_flagged gs ≡ false
    → flags_propagated wanted gs ≡ gs
propagated-none wanted gs none =
    let by = grouped gs none in
    all-none wanted (cluster_groups gs) by.clean ∙ by.whole

-- A cluster of one glyph.
pub shared-one : (wanted : BufferFlags) (gs : Glyphs) → length gs ≡ 1
    → let g = get_or gs 0 default_glyph in
    set gs 0 (with_flags (flags_wanted wanted (g.mask % 8)) g) ≡ flags_shared wanted gs
shared-one wanted [] one = absurd (omega arith)
shared-one wanted (g ∷ []) one = refl
shared-one wanted (g ∷ (h ∷ gs)) one = absurd (omega arith)
