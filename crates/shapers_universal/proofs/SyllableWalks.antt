-- Steps of the walks over syllables.
use Rattle.std.proofs.Common.{one-add, ◌≡◌, ℕ, ◌+◌, ◌<◌, ◌≤◌, Bool, true, [], ◌∷◌, ◌++◌, length, take, drop, refl, ap, sym, ◌∙◌, arith, length-drop, append_assoc, false, ◌≢◌, None, Some, Option}
use Rattle.std.proofs.lemmas.List.{take-append-drop}
use Rattle.shapers_buffer.specs.Glyphs.{Glyph, Glyphs}
use Rattle.shapers_buffer.specs.Clusters.{stretch_of, with_stretch}
use Rattle.shapers_buffer.specs.Syllables.{first_syllable_len, syllables, has_byte}
use Rattle.shapers_buffer.proofs.SyllableLaws.{syllables_are_longest}
use Rattle.shapers_syllabic.proofs.SyllableWalks.{changed_stretch, syllables_from}
use Rattle.shapers_universal.specs.declared.ot_shaper_use.forms.FormMasks.{FormMasks}
use Rattle.shapers_universal.specs.UniversalSyllables.{first_joins, first_recorded, formed, in_forms, may_join, rphf_recorded}
use Rattle.shapers_base.specs.Masks.{has_bits}
use Rattle.std.specs.Prelude.{◌==◌, if◌then◌else◌}
use Rattle.std.specs.List.{flat_map, prefix_len}
use Rattle.std.proofs.lemmas.Bool.{eqb-true, eq-eqb, false≢true}
use Rattle.shapers_universal.specs.UniversalWalk.{left_to_change}
use Rattle.std.specs.Option.{option_eq}
use Rattle.std.proofs.Math.Dec.{eqb}
use Rattle.shapers_universal.specs.declared.ot_shaper_use.category.TheConstants.{R}

-- a syllable that goes on, and the ones behind it, are the syllables of the rest
resumed-by : (f : Glyphs → Glyphs) → f [] ≡ []
    → (byte : ℕ) (h : Glyph) (hs : Glyphs) (same : Bool) → (h.syllable == byte) ≡ same → let n =
    prefix_len (has_byte byte) (h ∷ hs) in f (take n (h ∷ hs)) ++ flat_map f (syllables (drop n (h ∷ hs)))
    ≡ flat_map f (syllables (h ∷ hs))
resumed-by f none byte h hs true test =
    let by_byte : ℕ → Glyphs = λ b. let n = prefix_len (has_byte b) hs in f (h ∷ take n hs)
    ++ flat_map f (syllables (drop n hs)) in
    rw (test, one-add (prefix_len (has_byte byte) hs)) (ap by_byte (search arith)
    ∙ sym (ap (flat_map f) (syllables_are_longest h hs)))
resumed-by f none byte h hs false test = rw (test, none) refl

resumed : (f : Glyphs → Glyphs) → f [] ≡ [] → (byte : ℕ) (gs : Glyphs)
    → let n = prefix_len (has_byte byte) gs in f (take n gs) ++ flat_map f (syllables (drop n gs))
    ≡ flat_map f (syllables gs)
resumed f none byte [] = rw none refl
resumed f none byte (h ∷ hs) = search (arith, resumed-by)

-- what the record of a glyph says: how it changes, and whether the changes go on
abbrev Continues : (Glyphs → Glyphs) → Glyph → Glyph → Bool → Type 0
Continues f g new goes_on = (rest : Glyphs) → f (g ∷ rest) ≡ new ∷ (if goes_on then f rest else rest)

pub changed_first : (f : Glyphs → Glyphs) → f [] ≡ []
    → (g new : Glyph) (goes_on : Bool) (gs : Glyphs) → Continues f g new goes_on
    → new ∷ left_to_change f (if goes_on then None else Some g.syllable) gs ≡ flat_map f (syllables (g ∷ gs))
changed_first f none g new true = search arith
changed_first f none g new false = search (arith, syllables_are_longest)

-- a glyph of a syllable whose changes have ended stays
pub passed_next : (f : Glyphs → Glyphs) (passed : Option ℕ) (g : Glyph)
    (gs : Glyphs) → option_eq eqb passed (Some g.syllable) ≡ true → left_to_change f passed (g ∷ gs)
    ≡ g ∷ left_to_change f passed gs
passed_next f None g gs same = absurd (false≢true same)
passed_next f (Some byte) g gs same =
    rw (eq-eqb g.syllable byte (sym (eqb-true byte g.syllable same)), one-add (prefix_len (has_byte byte) gs)) refl

another : (f : Glyphs → Glyphs) (byte : ℕ) (g : Glyph) (gs : Glyphs) (same : Bool) → (g.syllable == byte) ≡ same
    → byte ≢ g.syllable → left_to_change f (Some byte) (g ∷ gs) ≡ flat_map f (syllables (g ∷ gs))
another f byte g gs true test other = search arith
another f byte g gs false test other = rw test refl

-- one of another syllable is its first
pub next_is_first : (f : Glyphs → Glyphs) (passed : Option ℕ) (g : Glyph)
    (gs : Glyphs) → option_eq eqb passed (Some g.syllable) ≡ false → left_to_change f passed (g ∷ gs)
    ≡ flat_map f (syllables (g ∷ gs))
next_is_first f None g gs other = refl
next_is_first f (Some byte) g gs other = search arith

-- a glyph with the mask of rphf: its record, and that of the rest if it goes on
pub rphf_next : (mask : ℕ) (g new : Glyph) (goes_on : Bool) (rest : Glyphs)
    → has_bits mask g ≡ true → Continues (first_recorded R) g new goes_on → rphf_recorded mask (g ∷ rest)
    ≡ new ∷ (if goes_on then rphf_recorded mask rest else rest)
rphf_next mask g new true rest bits continues = let n = prefix_len (has_bits mask) rest in search (arith, one-add n)
rphf_next mask g new false rest bits continues =
    let n = prefix_len (has_bits mask) rest in
    rw (bits, one-add n) (ap (λ xs. xs ++ drop n rest) (continues (take n rest))
    ∙ ap (λ xs. new ∷ xs) (take-append-drop n rest))

-- whether the first syllable joins is told by the first glyph
pub first_joins-text : (gs : Glyphs) → first_joins (syllables gs) ≡ may_join gs
first_joins-text [] = refl
first_joins-text (g ∷ gs) = cc (syllables_are_longest g gs)

-- after one syllable in its form
pub form_next : (masks : FormMasks) (before : Bool) (s e : ℕ) (gs hs : Glyphs) → s < length gs
    → e ≡ s + first_syllable_len (drop s gs) → e ≤ length gs
    → hs ≡ with_stretch s e (formed masks before (may_join (drop e gs))) gs → length hs ≡ length gs
    → take e hs ++ in_forms masks (may_join (stretch_of s e gs)) (syllables (drop e hs))
    ≡ take s gs ++ in_forms masks before (syllables (drop s gs))
form_next masks before s e gs hs some is inside changed as_long =
    let n = first_syllable_len (drop s gs) in
    let f = formed masks before (may_join (drop e gs)) in
    let step = changed_stretch f s e gs hs (omega arith) inside changed as_long in
    search (
      arith,
      append_assoc (take s gs) (f (stretch_of s e gs))
          (in_forms masks (may_join (stretch_of s e gs)) (syllables (drop e hs))),
      syllables_from s n gs (omega (arith, length-drop s gs)) refl,
    )
