-- Units and items: how far they reach, one after another.
use Rattle.std.proofs.Common.{◌≡◌, ◌⊎◌, inl, inr, ℕ, zero, suc, ◌+◌, ◌-◌, ◌<◌, ◌≤◌, ◌&&◌, ◌||◌, ◌==◌, not, Bool, true, false, cond, List, [], ◌∷◌, length, get_or, drop, refl, ap, arith}
use Rattle.std.proofs.lemmas.Bool.Decides.{nat_tests}
use Rattle.std.proofs.lemmas.List.{drop_all, length-drop, drop-drop}
use Rattle.shapers_base.specs.Font.{Font, has_nominal}
use Rattle.shapers_hangul.specs.declared.ot_shaper_hangul.item.Item.{Item}
use Rattle.shapers_hangul.specs.declared.ot_shaper_hangul.item.JoinedTone.{JoinedTone}
use Rattle.shapers_hangul.specs.declared.ot_shaper_hangul.item.JoinedTone.TheVariants.{Absent, Before, Behind}
use Rattle.shapers_hangul.specs.declared.ot_shaper_hangul.item.Unit.{Unit}
use Rattle.shapers_hangul.specs.declared.ot_shaper_hangul.item.Unit.TheVariants.{ComposedTwo, Syllable, Other}
use Rattle.shapers_hangul.specs.Hangul.{is_l, is_v, is_t, combines_t, is_s, is_lv, is_tone, with_t, is_narrow, syllable_unit, lone_tone, lone_unit, first_unit, taken, is_syllable, is_marked, joined_tone, is_split, first_item, tone_len, item_len, items_from, items, items_at, Fit}

-- both of two tests that pass together; a choice of two units
pub both : (a b : Bool) → a && b ≡ true → (a ≡ true) × (b ≡ true)
both true b h = (refl, h)
both false b h = absurd cc

pub either : (Q : Unit → Type 0) (b : Bool) (x y : Unit) → (b ≡ true → Q x) → (b ≡ false → Q y) → Q (cond b x y)
either Q b x y passes fails = elim b as (λ a. b ≡ a → Q (cond a x y)) [ true ↦ passes | false ↦ fails ] refl

-- what a test that 0 fails says of a number
pub above : (test : ℕ → Bool) (v : ℕ) → test 0 ≡ false → test v ≡ true → 0 < v
above test zero none passes = absurd cc
above test (suc v) none passes = omega arith

pub taken_some : (x : Unit) → 1 ≤ taken x
taken_some (ComposedTwo s) = omega arith
taken_some _ = omega arith

taken_most : (x : Unit) → taken x ≤ 3
taken_most (ComposedTwo s) = omega arith
taken_most _ = omega arith

-- a unit takes the next character only if there is one, and so the one behind it
abbrev Reaches : ℕ → ℕ → Unit → Type 0
Reaches v t x = (taken x ≤ 1) ⊎ ((0 < v) × ((taken x ≤ 2) ⊎ (0 < t)))

unit_reaches : (font : Font) (circles : Bool) (u v t : ℕ) → Reaches v t (first_unit font circles u v t)
unit_reaches font circles u v t =
    let Q = λ (x : Unit). Reaches v t x in
    either Q (is_tone u) (lone_tone font circles u) _ (λ _. search arith) (λ _. either Q (is_l u && is_v v) _ _
    (λ h. let some = above is_v v refl (both (is_l u) (is_v v) h).1 in search arith)
    (λ _. either Q (is_s u) (syllable_unit font u v) Other (λ _.
    either (λ (x : Unit). Reaches v t x) ((is_lv u && combines_t v) && has_nominal font (with_t u v)) (ComposedTwo
    (with_t u v)) _ (λ h. inr (
      above combines_t v refl (both (is_lv u) _ (both _ (has_nominal font (with_t u v)) h).0).1,
      inl (omega arith),
    )) (λ _. search arith)) (λ _. inl (omega arith))))

-- a character that isn't 0 stands within the text
pub there : (us : List ℕ) (i : ℕ) → 0 < get_or us i 0 → i < length us
there [] i some = absurd (omega arith)
there (u ∷ us) zero some = omega arith
there (u ∷ us) (suc i) some = omega (arith, there us i some)

pub unit_within : (font : Font) (circles : Bool) (us : List ℕ) → 0 < length us
    → taken (first_unit font circles (get_or us 0 0) (get_or us 1 0) (get_or us 2 0)) ≤ length us
unit_within font circles us some = elim (unit_reaches font circles (get_or us 0 0) (get_or us 1 0) (get_or us 2 0)) [
  | inl one ↦ omega arith
  | inr p ↦
      search (arith, there, taken_most)
]

tone_within : (font : Font) (x : Unit) (us : List ℕ) → taken x ≤ length us
    → taken x + tone_len (joined_tone font x (get_or us (taken x) 0)) ≤ length us
tone_within font x us within =
    let w = get_or us (taken x) 0 in
    elim (is_syllable x && is_tone w) as (λ b. is_syllable x && is_tone w ≡ b
    → taken x + tone_len (cond b (cond (is_narrow font w) Behind Before) Absent) ≤ length us) [
      | true ↦ λ h.
          let inside = there us (taken x) (above is_tone w refl (both (is_syllable x) (is_tone w) h).1) in
          elim (is_narrow font w) as (λ b. taken x + tone_len (cond b Behind Before) ≤ length us)
          [ true ↦ omega arith | false ↦ omega arith ]
      | false ↦ λ _. omega arith
    ] refl

pub first_item-within : (font : Font) (circles : Bool) (us : List ℕ) → 0 < length us
    → item_len (first_item font circles us) ≤ length us
first_item-within = search (tone_within, unit_within)

-- what the cases come to for a character that no jamo and no tone follows
abbrev item_of : Unit → JoinedTone → ℕ → Item
item_of unit tone n = record { unit = unit; tone = tone; unsafe_len = n }

neither : (a b : Bool) → a || b ≡ false → (a ≡ false) × (b ≡ false)
neither false b h = (refl, h)
neither true b h = absurd cc

never : {X : Type 0} (b : Bool) (x y : X) → cond (b && false) x y ≡ y
never true x y = refl
never false x y = refl

never_so : {X : Type 0} (b c : Bool) (x y : X) → cond ((b && false) && c) x y ≡ y
never_so true c x y = refl
never_so false c x y = refl

-- T that combines is T
combines_no : (v : ℕ) → is_t v ≡ false → combines_t v ≡ false
combines_no = grind arith

turned : {X : Type 0} (a b c : Bool) (x y z : X) → (b ≡ true → a ≡ false)
    → cond b y (cond a x z) ≡ cond a x (cond b y z)
turned true true c x y z apart = search arith
turned _ _ c x y z apart = refl

has_or_parts : (has jamo : Bool) (p : Unit) → cond (not has && jamo) p (cond has Syllable Other)
    ≡ cond has Syllable (cond jamo p Other)
has_or_parts true jamo p = refl
has_or_parts false true p = refl
has_or_parts false false p = refl

unit_lone : (font : Font) (circles : Bool) (u v t : ℕ) → is_v v ≡ false → is_t v ≡ false → first_unit font circles u v t
    ≡ lone_unit font circles u
unit_lone = search (arith, combines_no, never_so, has_or_parts, nat_tests)

lone_taken : (font : Font) (circles : Bool) (u : ℕ) → taken (lone_unit font circles u) ≡ 1
lone_taken = search arith

pub lone_first : (font : Font) (circles : Bool) (us : List ℕ) (unit : Unit)
    → is_v (get_or us 1 0) || (is_t (get_or us 1 0) || is_tone (get_or us 1 0)) ≡ false
    → unit ≡ lone_unit font circles (get_or us 0 0) → item_of unit Absent 0 ≡ first_item font circles us
lone_first font circles us unit free =
    let b = get_or us 1 0 in
    let (no_v, others) = neither (is_v b) (is_t b || is_tone b) free in
    let (no_t, no_tone) = neither (is_t b) (is_tone b) others in
    search (arith, unit_lone, lone_taken, never, never_so)

-- what an item flags stands within the text, too
cond_holds : (Q : ℕ → Type 0) (b : Bool) (x y : ℕ) → (b ≡ true → Q x) → (b ≡ false → Q y) → Q (cond b x y)
cond_holds Q b x y passes fails = elim b as (λ a. b ≡ a → Q (cond a x y)) [ true ↦ passes | false ↦ fails ] refl

pub first_item-unsafe : (font : Font) (circles : Bool) (us : List ℕ) → 0 < length us
    → (first_item font circles us).unsafe_len ≤ length us
first_item-unsafe font circles us some =
    let u = get_or us 0 0 in
    let v = get_or us 1 0 in
    let x = first_unit font circles u v (get_or us 2 0) in
    let Q : ℕ → Type 0 = λ n. n ≤ length us in
    let within = unit_within font circles us some in
    cond_holds Q (is_l u && is_v v) (taken x) _ (λ _. within) (λ _. cond_holds Q (is_marked x && tone_len
    (joined_tone font x (get_or us (taken x) 0)) == 1) (taken x) _ (λ _. within)
    (λ _. cond_holds Q (is_split font u v) 2 0
    (λ h. omega (
      arith,
      there us 1 (above is_t v refl (both (is_lv u) (is_t v) (both (is_lv u && is_t v) _ h).0).1),
    )) (λ _. omega arith)))

-- the items from a place on: what the item before took is skipped, and then the first item opens the rest
skipped : (read : List ℕ → Item) (place skip : ℕ) (us : List ℕ) → items_from read place skip us
    ≡ items_from read (place + skip) 0 (drop skip us)
skipped read place zero [] = refl
skipped read place (suc skip) [] = refl
skipped read place zero (u ∷ us) = search arith
skipped read place (suc skip) (u ∷ us) = search (arith, skipped read (place + 1) skip us)

item_next : (read : List ℕ → Item) (place k : ℕ) (us : List ℕ) → 0 < length us → item_len (read us) ≡ suc k
    → items_from read place 0 us ≡ (place, read us) ∷ items_from read (place + suc k) 0 (drop (suc k) us)
item_next read place k [] some takes = absurd (omega arith)
item_next read place k (u ∷ us) some takes = search (arith, skipped)

pub items_at_next : (font : Font) (circles : Bool) (us : List ℕ) (place : ℕ) (item : Item) → place < length us
    → item ≡ first_item font circles (drop place us) → items_at font circles us place ≡ (place, item)
    ∷ items_at font circles us (place + item_len item)
items_at_next font circles us place item inside is =
    let read = first_item font circles in
    let rest = drop place us in
    let k = item_len item - 1 in
    let some : 1 ≤ item_len item = omega (arith, taken_some item.unit) in
    let takes : item_len (read rest) ≡ suc k = omega (arith, ap item_len is) in
    cc (item_next read place k rest (omega (arith, length-drop place us)) takes, drop-drop (item_len item) place us)

pub items_at_end : (font : Font) (circles : Bool) (us : List ℕ) (place : ℕ) → length us ≤ place
    → items_at font circles us place ≡ []
items_at_end = search drop_all

-- all items stand within the text, with what they flag
items_fit_from : (font : Font) (circles : Bool) (place skip : ℕ) (us : List ℕ)
    → Fit (place + length us) (items_from (first_item font circles) place skip us)
items_fit_from font circles place skip [] = tt
items_fit_from font circles place zero (u ∷ us) = search (
  arith,
  first_item-within font circles (u ∷ us) (omega arith),
  first_item-unsafe font circles (u ∷ us) (omega arith),
  items_fit_from font circles (place + 1) (item_len (first_item font circles (u ∷ us)) - 1) us,
)
items_fit_from font circles place (suc skip) (u ∷ us) =
    search (arith, items_fit_from font circles (place + 1) skip us)

pub items_fit : (font : Font) (circles : Bool) (us : List ℕ) → Fit (length us) (items font circles us)
items_fit = search (arith, items_fit_from)
