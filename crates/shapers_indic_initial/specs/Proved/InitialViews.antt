-- What shows of a syllable through views that hide positions or masks.
use Rattle.std.proofs.Common.{ℕ, ◌+◌, ◌-◌, ◌%◌, ◌≤◌, ◌<◌, ◌≡◌, ◌&&◌, ◌||◌, Bool, true, false, not, if◌then◌else◌, [], ◌∷◌, ◌++◌, map, length, take, drop, Option, None, Some, refl, sym, ◌∙◌, ap, arith, inl, inr}
use Rattle.std.specs.Prelude.{find, nat_le, bit_and, bit_or}
use Rattle.std.specs.List.{enumerate_from, prefix_len}
use Rattle.std.proofs.lemmas.Bool.{cases_lt}
use Rattle.std.proofs.lemmas.Nat.{or_mod}
use Rattle.std.proofs.lemmas.List.{append-nil, drop_all, length-map, map-append, take-append-drop, take_all}
use Rattle.shapers_buffer.specs.Glyphs.{Glyph, Glyphs}
use Rattle.shapers_buffer.specs.declared.buffer.tag.Script.{Script}
use Rattle.shapers_buffer.specs.Clusters.{stretch_of, with_stretch}
use Rattle.shapers_buffer.specs.GlyphFlags.{with_bits}
use Rattle.shapers_buffer.specs.Glyph.{plain, without_flags, at_position}
use Rattle.shapers_buffer.specs.Lists.{each_after}
use Rattle.shapers_buffer.proofs.ClusterLemmas.{three_parts}
use Rattle.shapers_base.specs.declared.plan.ot_position_t.TheConstants.{POS_RA_TO_BECOME_REPH, POS_SMVD}
use Rattle.shapers_indic.specs.declared.ot_shaper_indic.indic_feature.TheConstants.{ABVF, BLWF, HALF, PREF, PSTF, RPHF}
use Rattle.shapers_indic.specs.Glyphs.{has_position}
use Rattle.shapers_indic_initial.specs.InitialMasks.{applies_before_base, bits_of, has_eyelash, is_in_eyelash, loses_half, mask_after_base, mask_before_base, pref_pair, with_bits_on_pair, with_eyelash_mask, with_initial_masks, with_masks_around, with_pref_mask, with_reph_mask, without_bits, without_half}
use Rattle.shapers_indic_initial.specs.InitialPositions.{attached_to, before_next, bounds, by_base, halant_behind, owned_by, position_by_base, with_attached, with_halants, with_marks_attached, with_owners, with_owners_after, with_signs}
use Rattle.shapers_indic_initial.specs.InitialRules.{Rules}
use Rattle.shapers_syllabic.specs.Reordering.{carried}

-- a view that hides positions, and one
pub record HidesPositions {X : Type 0} (f : Glyph → X) : Type 0 where
  pub hidden : (p : ℕ) (g : Glyph) → f (at_position p g) ≡ f g

-- that hides mask bits: those that are given, which touch no glyph flag, and those of half, which are taken away
pub record HidesMasks {X : Type 0} (f : Glyph → X) (half : ℕ) : Type 0 where
  pub given : (m : ℕ) (g : Glyph) → m % 8 ≡ 0 → f (with_bits m g) ≡ f g
  pub taken : (g : Glyph) → f (without_bits half g) ≡ f g

pub bits_off : (r : Rules) (feature : ℕ) → bits_of r feature % 8 ≡ 0
bits_off r feature = omega arith

or_off : (a b : ℕ) → a % 8 ≡ 0 → b % 8 ≡ 0 → bit_or a b % 8 ≡ 0
or_off a b h k = or_mod a b 3 ∙ ap (λ n. bit_or n (b % 8)) h ∙ ap (bit_or 0) k

pub before_off : (r : Rules) → mask_before_base r % 8 ≡ 0
before_off r =
    let b : Bool = not r.old && applies_before_base r.config.blwf_mode in
    (elim b as (λ c. (if c then bit_or (bits_of r HALF) (bits_of r BLWF) else bits_of r HALF) % 8 ≡ 0) [
      | true ↦ or_off (bits_of r HALF) (bits_of r BLWF) (bits_off r HALF) (bits_off r BLWF)
      | false ↦ bits_off r HALF
    ])

pub after_off : (r : Rules) → mask_after_base r % 8 ≡ 0
after_off r =
    or_off (bit_or (bits_of r BLWF) (bits_of r ABVF)) (bits_of r PSTF)
    (or_off (bits_of r BLWF) (bits_of r ABVF) (bits_off r BLWF) (bits_off r ABVF)) (bits_off r PSTF)

-- a changed stretch that doesn't show
pub hidden-stretch : {X : Type 0} (f : Glyph → X) (change : Glyphs → Glyphs)
    (s e : ℕ) (gs : Glyphs) → s ≤ e → map f (change (stretch_of s e gs)) ≡ map f (stretch_of s e gs)
    → map f (with_stretch s e change gs) ≡ map f gs
hidden-stretch f change s e gs h same =
    let a = take s gs in
    let c = drop e gs in
    map-append f a (change (stretch_of s e gs) ++ c)
    ∙ ap (λ ys. map f a ++ ys) (map-append f (change (stretch_of s e gs)) c ∙ ap (λ ys. ys ++ map f c) same
    ∙ sym (map-append f (stretch_of s e gs) c))
    ∙ sym (map-append f a (stretch_of s e gs ++ c))
    ∙ ap (map f) (three_parts s e gs h)

-- glyphs changed by their places
hidden-numbered : {X : Type 0} (f : Glyph → X) (change : ℕ → Glyph → Glyph)
    → ((i : ℕ) (g : Glyph) → f (change i g) ≡ f g) → (n : ℕ) (gs : Glyphs)
    → map f (map (λ t. change t.0 t.1) (enumerate_from n gs)) ≡ map f gs
hidden-numbered f change each n [] = refl
hidden-numbered f change each n (g ∷ gs) =
    ap (λ x. x ∷ map f (map (λ t. change t.0 t.1) (enumerate_from (n + 1) gs))) (each n g)
    ∙ ap (λ xs. f g ∷ xs) (hidden-numbered f change each (n + 1) gs)

-- positions by the base
pub hidden-by_base : {X : Type 0} (f : Glyph → X) → HidesPositions f
    → (base : ℕ) (reph : Bool) (gs : Glyphs) → map f (by_base base reph gs) ≡ map f gs
hidden-by_base f h base reph gs =
    hidden-numbered f (λ i g. at_position (position_by_base base reph i g.auxiliary) g)
    (λ i g. h.hidden (position_by_base base reph i g.auxiliary) g) 0 gs

-- positions of attached marks
hidden-each_after : {X : Type 0} (f : Glyph → X) (change : Glyphs → Glyph
    → Glyph) → ((before : Glyphs) (g : Glyph) → f (change before g) ≡ f g)
    → (before gs : Glyphs) → map f (map (λ t. change t.0 t.1) (each_after before gs)) ≡ map f gs
hidden-each_after f change each before [] = refl
hidden-each_after f change each before (g ∷ gs) =
    ap (λ x. x ∷ map f (map (λ t. change t.0 t.1) (each_after (before ++ g ∷ []) gs))) (each before g)
    ∙ ap (λ xs. f g ∷ xs) (hidden-each_after f change each (before ++ g ∷ []) gs)

hidden-if : {X : Type 0} (f : Glyph → X) → HidesPositions f → (b : Bool) (p : ℕ) (g : Glyph)
    → f (if b then at_position p g else g) ≡ f g
hidden-if f h true p g = h.hidden p g
hidden-if f h false p g = refl

pub hidden-with_attached : {X : Type 0} (f : Glyph → X) → HidesPositions f → (gs : Glyphs)
    → map f (with_attached gs) ≡ map f gs
hidden-with_attached f h gs = hidden-each_after f attached_to (λ before g. hidden-if f h _ _ g) [] gs

pub hidden-with_halants : {X : Type 0} (f : Glyph → X) → HidesPositions f → (gs : Glyphs)
    → map f (with_halants gs) ≡ map f gs
hidden-with_halants f h gs = hidden-each_after f halant_behind (λ before g. hidden-if f h _ _ g) [] gs

hidden-before_next : {X : Type 0} (f : Glyph → X) → HidesPositions f
    → (g : Glyph) (gs : Glyphs) → f (before_next g gs) ≡ f g
hidden-before_next f h g [] = refl
hidden-before_next f h g (next ∷ gs) = hidden-if f h _ _ g

pub hidden-with_signs : {X : Type 0} (f : Glyph → X) → HidesPositions f → (gs : Glyphs)
    → map f (with_signs gs) ≡ map f gs
hidden-with_signs f h [] = refl
hidden-with_signs f h (g ∷ gs) = ap (λ x. x ∷ map f (with_signs gs)) (hidden-before_next f h g gs)
    ∙ ap (λ xs. f g ∷ xs) (hidden-with_signs f h gs)

pub hidden-with_marks_attached : {X : Type 0} (f : Glyph → X) → HidesPositions f → (gs : Glyphs)
    → map f (with_marks_attached gs) ≡ map f gs
hidden-with_marks_attached f h gs = hidden-with_halants f h (with_signs (with_attached gs))
    ∙ hidden-with_signs f h (with_attached gs) ∙ hidden-with_attached f h gs

-- positions of what consonants own
hidden-owned_by : {X : Type 0} (f : Glyph → X) → HidesPositions f
    → (o : Option Glyph) (g : Glyph) → f (owned_by o g) ≡ f g
hidden-owned_by f h None g = refl
hidden-owned_by f h (Some x) g = hidden-if f h _ _ g

hidden-kept_or : {X : Type 0} (f : Glyph → X) (b : Bool) (g x : Glyph) → f x ≡ f g
    → f (if b then g else x) ≡ f g
hidden-kept_or f true g x h = refl
hidden-kept_or f false g x h = h

pub hidden-with_owners : {X : Type 0} (f : Glyph → X) → HidesPositions f → (gs : Glyphs)
    → map f (with_owners gs) ≡ map f gs
hidden-with_owners f h [] = refl
hidden-with_owners f h (g ∷ gs) =
    ap (λ x. x ∷ map f (with_owners gs))
    (hidden-kept_or f (bounds g || nat_le POS_SMVD g.auxiliary) g (owned_by (find bounds gs) g)
    (hidden-owned_by f h (find bounds gs) g)) ∙ ap (λ xs. f g ∷ xs) (hidden-with_owners f h gs)

pub hidden-with_owners_after : {X : Type 0} (f : Glyph → X) → HidesPositions f
    → (base : ℕ) (gs : Glyphs) → map f (with_owners_after base gs) ≡ map f gs
hidden-with_owners_after f h base gs =
    let a = take (base + 1) gs in
    let c = drop (base + 1) gs in
    map-append f a (with_owners c) ∙ ap (λ ys. map f a ++ ys) (hidden-with_owners f h c) ∙ sym (map-append f a c)
    ∙ ap (map f) (take-append-drop (base + 1) gs)

-- masks
pub hidden-with_bits : {X : Type 0} (f : Glyph → X) → {half : ℕ} → HidesMasks f half → (m : ℕ) → m % 8 ≡ 0
    → (gs : Glyphs) → map f (map (with_bits m) gs) ≡ map f gs
hidden-with_bits f h m off [] = refl
hidden-with_bits f h m off (g ∷ gs) = ap (λ x. x ∷ map f (map (with_bits m) gs)) (h.given m g off)
    ∙ ap (λ xs. f g ∷ xs) (hidden-with_bits f h m off gs)

-- a stretch up to the end that begins behind it
past_end : (m s n : ℕ) (gs : Glyphs) → n ≡ length gs → n < s → with_stretch s n (map (with_bits m)) gs
    ≡ gs
past_end m s n gs long past =
    let none : n - s ≡ 0 = omega arith in
    ap (λ a. a ++ (map (with_bits m) (stretch_of s n gs) ++ drop n gs)) (take_all s gs (omega arith))
    ∙ ap (λ k. gs ++ (map (with_bits m) (take k (drop s gs)) ++ drop n gs)) none
    ∙ ap (λ c. gs ++ c) (drop_all n gs (omega arith))
    ∙ append-nil gs

hidden-to_end : {X : Type 0} (f : Glyph → X) → {half : ℕ} → HidesMasks f half → (m s n : ℕ) → m % 8 ≡ 0
    → (gs : Glyphs) → n ≡ length gs → map f (with_stretch s n (map (with_bits m)) gs) ≡ map f gs
hidden-to_end f h m s n off gs long = elim (cases_lt n s) [
  | inl past ↦ ap (map f) (past_end m s n gs long past)
  | inr within ↦ hidden-stretch f (map (with_bits m)) s n gs within (hidden-with_bits f h m off (stretch_of s n gs))
]

pub hidden-with_reph_mask : {X : Type 0} (f : Glyph → X) → {half : ℕ} → HidesMasks f half
    → (r : Rules) (gs : Glyphs) → map f (with_reph_mask r gs) ≡ map f gs
hidden-with_reph_mask f h r gs =
    hidden-stretch f (map (with_bits (bits_of r RPHF))) 0 (prefix_len (has_position POS_RA_TO_BECOME_REPH) gs) gs
    (omega arith) (hidden-with_bits f h (bits_of r RPHF) (bits_off r RPHF) _)

pub hidden-with_masks_around : {X : Type 0} (f : Glyph → X) → {half : ℕ} → HidesMasks f half
    → (r : Rules) (base : ℕ) (gs : Glyphs) → map f (with_masks_around r base gs) ≡ map f gs
hidden-with_masks_around f h r base gs =
    let before = with_stretch 0 base (map (with_bits (mask_before_base r))) gs in
    let same : map f before ≡ map f gs =
    hidden-stretch f (map (with_bits (mask_before_base r))) 0 base gs (omega arith)
    (hidden-with_bits f h (mask_before_base r) (before_off r) _) in
    let long : length gs ≡ length before = sym (length-map gs f) ∙ ap length (sym same) ∙ length-map before f in
    hidden-to_end f h (mask_after_base r) (base + 1) (length gs) (after_off r) before long ∙ same

hidden-if_bits : {X : Type 0} (f : Glyph → X) → {half : ℕ} → HidesMasks f half → (b : Bool) (m : ℕ)
    → m % 8 ≡ 0 → (g : Glyph) → f (if b then with_bits m g else g) ≡ f g
hidden-if_bits f h true m off g = h.given m g off
hidden-if_bits f h false m off g = refl

pub hidden-with_eyelash_mask : {X : Type 0} (f : Glyph → X) → {half : ℕ} → HidesMasks f half
    → (r : Rules) (script : Option Script) (base : ℕ) (gs : Glyphs)
    → map f (with_eyelash_mask r script base gs) ≡ map f gs
hidden-with_eyelash_mask f h r script base gs =
    hidden-numbered f (λ i g. if has_eyelash r script && is_in_eyelash base gs i then with_bits (bits_of r BLWF) g else
    g) (λ i g. hidden-if_bits f h (has_eyelash r script && is_in_eyelash base gs i) (bits_of r BLWF)
    (bits_off r BLWF) g) 0 gs

hidden-on_pair : {X : Type 0} (f : Glyph → X) → {half : ℕ} → HidesMasks f half → (m : ℕ) → m % 8 ≡ 0
    → (o : Option ℕ) (gs : Glyphs) → map f (with_bits_on_pair m o gs) ≡ map f gs
hidden-on_pair f h m off None gs = refl
hidden-on_pair f h m off (Some i) gs =
    hidden-stretch f (map (with_bits m)) i (i + 2) gs (omega arith) (hidden-with_bits f h m off _)

pub hidden-with_pref_mask : {X : Type 0} (f : Glyph → X) → {half : ℕ} → HidesMasks f half
    → (r : Rules) (base : ℕ) (gs : Glyphs) → map f (with_pref_mask r base gs) ≡ map f gs
hidden-with_pref_mask f h r base gs = hidden-on_pair f h (bits_of r PREF) (bits_off r PREF) (pref_pair r base gs) gs

hidden-if_without : {X : Type 0} (f : Glyph → X) → {half : ℕ} → HidesMasks f half
    → (b : Bool) (g : Glyph) → f (if b then without_bits half g else g) ≡ f g
hidden-if_without f h true g = h.taken g
hidden-if_without f h false g = refl

pub hidden-without_half : {X : Type 0} (f : Glyph → X) → (half : ℕ) → HidesMasks f half
    → (gs : Glyphs) → map f (without_half half gs) ≡ map f gs
hidden-without_half f half h [] = refl
hidden-without_half f half h (g ∷ gs) =
    ap (λ x. x ∷ map f (without_half half gs)) (hidden-if_without f h (loses_half gs) g)
    ∙ ap (λ xs. f g ∷ xs) (hidden-without_half f half h gs)

pub hidden-with_initial_masks : {X : Type 0} (f : Glyph → X) → (r : Rules) → HidesMasks f (bits_of r HALF)
    → (script : Option Script) (base : ℕ) (gs : Glyphs) → map f (with_initial_masks r script base gs)
    ≡ map f gs
hidden-with_initial_masks f r h script base gs =
    let one = with_reph_mask r gs in
    let two = with_masks_around r base one in
    let three = with_eyelash_mask r script base two in
    hidden-without_half f (bits_of r HALF) h (with_pref_mask r base three)
    ∙ hidden-with_pref_mask f h r base three
    ∙ hidden-with_eyelash_mask f h r script base two
    ∙ hidden-with_masks_around f h r base one
    ∙ hidden-with_reph_mask f h r gs

-- the views of the laws
seen_hides_mask : (m : ℕ) (g : Glyph) → plain (carried (record g { mask = m })) ≡ plain (carried g)
seen_hides_mask m g =
    let none : without_flags (m % 8) ≡ without_flags (g.mask % 8) = omega arith in
    ap (λ (x : ℕ). record g { cluster = 0; mask = x; category = 0; auxiliary = 0; glyph_props = record { 0 = 0 } }) none

pub seen_hides_positions : HidesPositions (λ g. plain (carried g))
seen_hides_positions = record { hidden = λ p g. refl }

pub carried_hides_positions : HidesPositions carried
carried_hides_positions = record { hidden = λ p g. refl }

pub seen_hides_masks : (half : ℕ) → HidesMasks (λ g. plain (carried g)) half
seen_hides_masks half = record {
  given = λ m g off. seen_hides_mask (bit_or g.mask m) g;
  taken = λ g. seen_hides_mask (bit_and g.mask (0xFFFFFFFF - half)) g;
}
