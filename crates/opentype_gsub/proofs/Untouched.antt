-- A text stays as it is where a lookup can't begin.
use Rattle.std.proofs.Common.{◌⊎◌, inl, inr, ◌≡◌, ◌∙◌, ℕ, zero, suc, ◌+◌, ◌-◌, ◌%◌, ◌==◌, ◌<◌, ◌≤◌, ◌||◌, ◌&&◌, not, Bool, true, false, nat_lt, bit_and, Option, None, Some, List, [], length, refl, sym, ap, subst, arith, if◌then◌else◌}
use Rattle.std.specs.Option.{is_some}
use Rattle.std.proofs.lemmas.Bool.Decides.{nat_tests}
use Rattle.std.proofs.lemmas.Grind.{common_steps}
use Rattle.std.specs.Prelude.{Err, Ok, OnOk, Result}
use Rattle.shapers_buffer.specs.Buffer.{Buffer}
use Rattle.shapers_buffer.specs.declared.buffer.glyph.GlyphPosition.{GlyphPosition}
use Rattle.shapers_buffer.specs.declared.buffer.refusal.ShaperError.{ShaperError}
use Rattle.shapers_buffer.specs.Glyphs.{Glyph, Glyphs}
use Rattle.shapers_buffer.specs.declared.buffer.lookup_record.LookupRecord.{LookupRecord}
use Rattle.opentype_face.specs.Bytes.{u16_in, table_at}
use Rattle.opentype_face.specs.Firsts.{first_from}
use Rattle.opentype_face.specs.Glyphs.{coverage_in}
use Rattle.opentype_face.specs.Lookups.{lookup_in, subtable_in, subtables_in, type_in}
use Rattle.opentype_layout.specs.Rules.{first_at}
use Rattle.opentype_layout.specs.Text.{glyph_at}
use Rattle.opentype_layout.specs.declared.sight.Sight.{Sight}
use Rattle.opentype_gsub.specs.Applied.{PlaceChange, alternate_put, chosen_put, is_random, ligated_put, multiple_put, one_put, random_put, single_put, two_byte_number, value_of}
use Rattle.opentype_gsub.specs.Decided.{alternate_at, covered_in, set_at, set_for_glyph, single_at}
use Rattle.opentype_gsub.specs.Came.{came_in, nth_came}
use Rattle.opentype_gsub.specs.Machine.{nested}
use Rattle.opentype_layout.specs.Looking.{looked_by, nothing, unjoined}
use Rattle.opentype_gsub.specs.Looked.{lookup_looked, rules_in, subtable_looked, tried}
use Rattle.opentype_layout.specs.Starts.{ArePassed, IsPassed, NoneStarts, starting, starts_at, starts_with}
use Rattle.opentype_gsub.specs.Presence.{applied_from, is_left}
use Rattle.opentype_gsub.specs.Reversed.{all_looked_back, nth_looked_back, tried_back, lookup_stepped_back, nth_reversed, reversed_at, reversed_in, applied_backward, with_glyph}
use Rattle.opentype_gsub.specs.Setting.{Setting, is_seen, sights_of}
use Rattle.opentype_gsub.specs.Substituted.{applied, setting_for, substituted}
use Rattle.opentype_gsub.specs.Along.{Along, lookup_stepped, lookup_applied}
use Rattle.opentype_gsub.specs.declared.pass.LookupUse.{LookupUse}
use Rattle.opentype_gsub.specs.declared.pass.Sights.{Sights}
use Rattle.opentype_layout.proofs.Lookings.{all_none, kept_if, no_context, stretch_if, unflagged}
use Rattle.opentype_layout.proofs.NoneFits.{no_rule, none_if, none_mapped, none_of, none_then}
use Rattle.opentype_layout.proofs.SubtableStarts.{starts_plain}
use Rattle.opentype_gsub.proofs.LawGrows.{none_each}

none_by : {X : Type 0} (o : Option X) → is_some o ≡ false → o ≡ None
none_by None e = refl
none_by (Some x) e = absurd (cc)

-- ---- a subtable that doesn't begin with a glyph

at_start : (kind : ℕ) (bytes : List ℕ) → (u16_in bytes 0 == 3) ≡ false → starts_at false kind bytes ≡ 2
unfolding starts_at
at_start kind bytes e = rw e refl

at_first : (kind : ℕ) (bytes : List ℕ) → ((kind == 5) || (kind == 6)) ≡ true → (u16_in bytes 0 == 3) ≡ true →
    starts_at false kind bytes ≡ first_at (kind == 6) bytes
unfolding starts_at
at_first kind bytes context e = grind (arith, common_steps, nat_tests)

first_of : (kind : ℕ) (chained : Bool) (bytes : List ℕ) → (kind == 6) ≡ chained →
    first_at (kind == 6) bytes ≡ first_at chained bytes
first_of kind chained bytes e = rw e refl

covered_by : (kind : ℕ) (bytes : List ℕ) (glyph at : ℕ) → starts_with false kind bytes glyph ≡ false →
    starts_at false kind bytes ≡ at → coverage_in (table_at bytes (u16_in bytes at)) glyph ≡ None
covered_by kind bytes glyph at none e =
    none_by _ (subst (λ n. is_some (coverage_in (table_at bytes (u16_in bytes n)) glyph) ≡ false) e none)

no_set : (bytes : List ℕ) (glyph : ℕ) → covered_in bytes glyph ≡ None → set_for_glyph bytes glyph ≡ None
no_set bytes glyph e = none_if (u16_in bytes 0 == 1) _ None (λ t. ap (set_at bytes) e) (λ t. refl)

no_change : (s : Setting) (sight : Sight) (kind : ℕ) (bytes : List ℕ) (gs : Glyphs) (at : ℕ) (r : LookupRecord) →
    covered_in bytes (two_byte_number gs at) ≡ None → one_put s sight kind bytes gs at r ≡ None
unfolding one_put single_put multiple_put alternate_put random_put chosen_put ligated_put
no_change s sight kind bytes gs at r e =
    let set = no_set bytes (two_byte_number gs at) e in
    none_if (kind == 1) _ _ (λ t. none_mapped _ _ (ap (single_at bytes (two_byte_number gs at)) e))
    (λ t. none_if (kind == 2) _ _ (λ t. none_mapped _ _ set)
    (λ t. none_if (kind == 3) _ _ (λ t. none_if (is_random s.lookup.random sight (glyph_at gs at)) _ _
    (λ u. none_then _ _ set) (λ u. none_mapped _ _ (ap (alternate_at _) set)))
    (λ t. none_if (kind == 4) _ None (λ t. none_then _ _ set) (λ t. refl))))

-- a value that asks for no alternate at random
pub not_random : (s : Setting) (sight : Sight) (bytes : List ℕ) (gs : Glyphs) (at : ℕ) (r : LookupRecord) →
    is_random s.lookup.random sight (glyph_at gs at) ≡ false →
    chosen_put s sight bytes gs at r ≡ alternate_put s.gdef bytes (value_of sight (glyph_at gs at)) gs at r
unfolding chosen_put
not_random s sight bytes gs at r e = rw e refl

pub nth_none : (s : Setting) (sights : Sights) (lookup : List ℕ) (at : ℕ) (gs : Glyphs) (r : LookupRecord) (i : ℕ) →
    starts_with false (type_in 7 lookup i) (subtable_in 7 lookup i) (two_byte_number gs at) ≡ false →
    nth_came s sights lookup at gs r i ≡ None
unfolding nth_came
nth_none s sights lookup at gs r i none =
    let kind = type_in 7 lookup i in
    let bytes = subtable_in 7 lookup i in
    let glyph = two_byte_number gs at in
    none_if ((kind == 5) || (kind == 6)) _ _
    (λ t. none_mapped _ _ (no_rule (kind == 6) s.gdef sights.input sights.context bytes gs at
    (λ e. covered_by kind bytes glyph _ none (at_first kind bytes t e))
    (λ e. covered_by kind bytes glyph 2 none (at_start kind bytes e))))
    (λ t. none_mapped _ _ (no_change s sights.input kind bytes gs at r
    (covered_by kind bytes glyph 2 none (starts_plain kind bytes (grind (arith, common_steps, t)) (grind (arith, common_steps, t))))))

nth_reversed_none : (gdef : List ℕ) (sights : Sights) (lookup : List ℕ) (gs : Glyphs) (at i : ℕ) →
    starts_with false (type_in 7 lookup i) (subtable_in 7 lookup i) (two_byte_number gs at) ≡ false →
    nth_reversed gdef sights lookup gs at i ≡ None
unfolding nth_reversed reversed_in
nth_reversed_none gdef sights lookup gs at i none =
    let kind = type_in 7 lookup i in
    let bytes = subtable_in 7 lookup i in
    none_if (kind == 8) _ None
    (λ t. none_if (u16_in bytes 0 == 1) _ None
    (λ one. ap (reversed_at gdef sights bytes gs at) (covered_by kind bytes (two_byte_number gs at) 2 none
    (at_start kind bytes (grind (arith, nat_tests)))))
    (λ one. refl))
    (λ t. refl)

-- ---- a lookup that doesn't

not_started : (test : Bool) (i : ℕ) → is_some (if test then Some i else None) ≡ false → test ≡ false
not_started true i e = absurd (cc)
not_started false i e = refl

starts_none : (lookup : List ℕ) (glyph i : ℕ) → is_some (starting false lookup glyph i) ≡ false →
    starts_with false (type_in 7 lookup i) (subtable_in 7 lookup i) glyph ≡ false
unfolding starting
starts_none lookup glyph i e = not_started _ i e

each_none : (lookup : List ℕ) (glyph : ℕ) → is_some (first_from (subtables_in lookup) (starting false lookup glyph) 0) ≡ false →
    (d : ℕ) → d < subtables_in lookup → starts_with false (type_in 7 lookup (0 + d)) (subtable_in 7 lookup (0 + d)) glyph ≡ false
each_none lookup glyph none d lt =
    starts_none lookup glyph (0 + d) (none_each (starting false lookup glyph) (subtables_in lookup) 0 none d lt)

came_none : (s : Setting) (lookup : List ℕ) (gs : Glyphs) (at : ℕ) (r : LookupRecord) →
    is_some (first_from (subtables_in lookup) (starting false lookup (two_byte_number gs at)) 0) ≡ false →
    came_in s lookup gs at r ≡ None
unfolding came_in
came_none s lookup gs at r none = let sights = sights_of s.gdef s.lookup lookup (glyph_at gs at) in
    none_if (nat_lt at (length gs)) _ None
    (λ t. none_of (nth_came s sights lookup at gs r) (subtables_in lookup) 0
    (λ d lt. nth_none s sights lookup at gs r (0 + d) (each_none lookup (two_byte_number gs at) none d lt)))
    (λ t. refl)

-- ---- nothing is looked at either

no_rules : (kind : ℕ) (bytes : List ℕ) (glyph : ℕ) → starts_with false kind bytes glyph ≡ false →
    rules_in kind bytes glyph ≡ None
unfolding rules_in
no_rules kind bytes glyph none =
    none_if (kind == 4) _ _
    (λ t. none_mapped _ _ (no_set bytes glyph (covered_by kind bytes glyph 2 none (starts_plain kind bytes (grind (arith, nat_tests)) (grind (arith, nat_tests))))))
    (λ t. none_if (kind == 5) _ _
    (λ t. no_context false bytes glyph
    (λ e. covered_by kind bytes glyph _ none (at_first kind bytes (grind (arith, common_steps, nat_tests)) e ∙ first_of kind false bytes (grind (arith, nat_tests))))
    (λ e. covered_by kind bytes glyph 2 none (at_start kind bytes e)))
    (λ t. none_if (kind == 6) _ None
    (λ t. no_context true bytes glyph
    (λ e. covered_by kind bytes glyph _ none (at_first kind bytes (grind (arith, common_steps, nat_tests)) e ∙ first_of kind true bytes t))
    (λ e. covered_by kind bytes glyph 2 none (at_start kind bytes e)))
    (λ t. refl)))

unlooked : (s : Setting) (sights : Sights) (lookup : List ℕ) (gs : Glyphs) (at i : ℕ) →
    starts_with false (type_in 7 lookup i) (subtable_in 7 lookup i) (two_byte_number gs at) ≡ false →
    subtable_looked s sights lookup gs at i ≡ nothing at
unfolding subtable_looked
unlooked s sights lookup gs at i none =
    ap (looked_by s.gdef sights.input sights.context s.len gs at) (no_rules (type_in 7 lookup i) (subtable_in 7 lookup i) (two_byte_number gs at) none)

three_of : (format : ℕ) → not (format == 1) ≡ false → (format == 3) ≡ false
three_of format e = grind (arith, common_steps, nat_tests)

looked_none : (s : Setting) (sights : Sights) (lookup : List ℕ) (gs : Glyphs) (at : ℕ) →
    is_some (first_from (subtables_in lookup) (starting false lookup (two_byte_number gs at)) 0) ≡ false →
    lookup_looked s sights lookup gs at ≡ nothing at
unfolding lookup_looked
looked_none s sights lookup gs at none =
    all_none _ (subtable_looked s sights lookup gs at) at (subtables_in lookup) 0
    (λ d lt. unlooked s sights lookup gs at (0 + d) (each_none lookup (two_byte_number gs at) none d lt))

tried_none : (s : Setting) (lookup : List ℕ) (gs : Glyphs) (at : ℕ) →
    is_some (first_from (subtables_in lookup) (starting false lookup (two_byte_number gs at)) 0) ≡ false →
    tried s lookup gs at ≡ gs
unfolding tried
tried_none s lookup gs at none = let sights = sights_of s.gdef s.lookup lookup (glyph_at gs at) in
    kept_if (s.concat && nat_lt at (length gs)) _ gs
    (ap (λ x. unjoined x gs) (looked_none s sights lookup gs at none) ∙ unflagged at gs)

still_by : (test : Bool) (x : PlaceChange) → (if test then x else x) ≡ x
still_by true x = refl
still_by false x = refl

stands_still : (s : Setting) (lookup : List ℕ) (gs : Glyphs) (at : ℕ) (r : LookupRecord) → tried s lookup gs at ≡ gs →
    came_in s lookup gs at r ≡ None → lookup_stepped s lookup gs at r ≡ record { text = gs; next = at + 1; lookups = r }
unfolding lookup_stepped nested
stands_still s lookup gs at r t e =
    let test = is_seen s.gdef s.lookup lookup (glyph_at gs at) in
    rw (t, e) (still_by test _)

unseen : (s : Setting) (lookup : List ℕ) (g : Glyph) → (bit_and g.mask s.lookup.mask == 0) ≡ true →
    is_seen s.gdef s.lookup lookup g ≡ false
unfolding is_seen
unseen s lookup g e = rw e refl

left_by : (zero_mask none : Bool) → (zero_mask || not none) ≡ true → (zero_mask ≡ true) ⊎ (none ≡ false)
left_by true none e = inl refl
left_by false true e = absurd (cc)
left_by false false e = inr refl

masked : (zero_mask none : Bool) → zero_mask ≡ true → (zero_mask || none) ≡ true
masked true none e = refl
masked false none e = absurd (cc)

begun_nowhere : (zero_mask : Bool) (o : Option ℕ) → o ≡ None → (zero_mask || not (is_some o)) ≡ true
begun_nowhere true o e = refl
begun_nowhere false None e = refl
begun_nowhere false (Some x) e = absurd (cc)

-- a glyph that has no bit of the mask, and one that no subtable begins with
pub left_masked : (use_of : LookupUse) (lookup : List ℕ) (g : Glyph) → (bit_and g.mask use_of.mask == 0) ≡ true →
    is_left use_of lookup g ≡ true
unfolding is_left
left_masked use_of lookup g e = masked _ _ e

pub left_none : (use_of : LookupUse) (lookup : List ℕ) (g : Glyph) →
    NoneStarts false lookup (g.glyph_id % 65536) 0 (subtables_in lookup) → is_left use_of lookup g ≡ true
unfolding is_left
left_none use_of lookup g n = begun_nowhere _ _
    (none_of (starting false lookup (g.glyph_id % 65536)) (subtables_in lookup) 0 (λ d lt. n.none (0 + d) (omega arith) (omega arith)))

-- the same of what the code reads
pub left_unmasked : (use_of : LookupUse) (lookup : List ℕ) (g : Glyph) → bit_and g.mask use_of.mask ≡ 0 →
    is_left use_of lookup g ≡ true
left_unmasked use_of lookup g e = left_masked use_of lookup g (rw e refl)

pub left_unstarted : (use_of : LookupUse) (lookup : List ℕ) (g : Glyph) (number : ℕ) (may : Bool) →
    (may ≡ false → NoneStarts false lookup number 0 (subtables_in lookup)) → number ≡ g.glyph_id % 65536 →
    not may ≡ true → is_left use_of lookup g ≡ true
left_unstarted use_of lookup g number false none is e = left_none use_of lookup g (rw is at (none refl))
left_unstarted use_of lookup g number true none is e = absurd (cc)

left_passed : (use_of : LookupUse) (lookup : List ℕ) (g : Glyph) → IsPassed false lookup use_of.mask g →
    is_left use_of lookup g ≡ true
left_passed use_of lookup g p = elim p [
  | inl unmasked ↦ left_unmasked use_of lookup g unmasked
  | inr none ↦ left_none use_of lookup g none
]

pub all_passed : (use_of : LookupUse) (lookup : List ℕ) (gs : Glyphs) (from end : ℕ) →
    ArePassed false lookup use_of.mask gs from end → (j : ℕ) → from ≤ j → j < end → is_left use_of lookup (glyph_at gs j) ≡ true
all_passed use_of lookup gs from end p j le lt = left_passed use_of lookup (glyph_at gs j) (p.each j le lt)

-- a subtable comes to nothing where it doesn't begin
pub nth_unstarted : (s : Setting) (sights : Sights) (lookup : List ℕ) (at : ℕ) (gs : Glyphs) (r : LookupRecord) (i : ℕ) →
    starting false lookup (two_byte_number gs at) i ≡ None → nth_came s sights lookup at gs r i ≡ None
nth_unstarted s sights lookup at gs r i e =
    nth_none s sights lookup at gs r i (starts_none lookup (two_byte_number gs at) i (ap is_some e))

why_left : (s : Setting) (lookup : List ℕ) (g : Glyph) → is_left s.lookup lookup g ≡ true →
    ((bit_and g.mask s.lookup.mask == 0) ≡ true)
    ⊎ (is_some (first_from (subtables_in lookup) (starting false lookup (g.glyph_id % 65536)) 0) ≡ false)
unfolding is_left
why_left s lookup g e = left_by _ _ e

passed_over : (s : Setting) (lookup : List ℕ) (gs : Glyphs) (at : ℕ) (r : LookupRecord) →
    is_seen s.gdef s.lookup lookup (glyph_at gs at) ≡ false →
    lookup_stepped s lookup gs at r ≡ record { text = gs; next = at + 1; lookups = r }
unfolding lookup_stepped
passed_over s lookup gs at r e = rw e refl

pub step_left : (s : Setting) (lookup : List ℕ) (gs : Glyphs) (at : ℕ) (r : LookupRecord) → is_left s.lookup lookup (glyph_at gs at) ≡ true →
    lookup_stepped s lookup gs at r ≡ record { text = gs; next = at + 1; lookups = r }
step_left s lookup gs at r e = elim (why_left s lookup (glyph_at gs at) e) [
  | inl zero_mask ↦ passed_over s lookup gs at r (unseen s lookup (glyph_at gs at) zero_mask)
  | inr none ↦ stands_still s lookup gs at r (tried_none s lookup gs at none) (came_none s lookup gs at r none)
]

-- ---- along a text

-- a lookup begins at no place before one
abbrev pub AreLeft : LookupUse → List ℕ → Glyphs → ℕ → Type 0
AreLeft use_of lookup gs first = (j : ℕ) → j < first → is_left use_of lookup (glyph_at gs j) ≡ true

pub step_on : (f : Glyphs → ℕ → LookupRecord → PlaceChange) (n : ℕ) (gs : Glyphs) (at : ℕ) (r : LookupRecord) → at < length gs →
    f gs at r ≡ record { text = gs; next = at + 1; lookups = r } →
    lookup_applied (suc n) f gs at r ≡ lookup_applied n f gs (at + 1) r
unfolding lookup_applied
step_on f n gs at r lt e =
    let t : nat_lt at (length gs) ≡ true = grind (arith, nat_tests) in rw (t, e) refl

pub walk_on : (f : Glyphs → ℕ → LookupRecord → PlaceChange) (p n : ℕ) (gs : Glyphs) (at : ℕ) (r : LookupRecord) → at + p ≤ length gs →
    ((j : ℕ) → at ≤ j → j < at + p → f gs j r ≡ record { text = gs; next = j + 1; lookups = r }) →
    lookup_applied (p + n) f gs at r ≡ lookup_applied n f gs (at + p) r
walk_on f zero n gs at r within h =
    let z : 0 + n ≡ n = omega arith in
    let e : at + 0 ≡ at = omega arith in rw (z, e) refl
walk_on f (suc p) n gs at r within h =
    let e : at + 1 + p ≡ at + suc p = omega arith in
    let m : suc p + n ≡ suc (p + n) = omega arith in
    ap (λ k. lookup_applied k f gs at r) m ∙ step_on f (p + n) gs at r (omega arith) (h at (omega arith) (omega arith))
    ∙ walk_on f p n gs (at + 1) r (omega arith) (λ j le lt. h j (omega arith) (omega arith))
    ∙ ap (λ k. lookup_applied n f gs k r) e

pub applied_is : (s : Setting) (gs : Glyphs) (r : LookupRecord) (first : ℕ) →
    AreLeft s.lookup (lookup_in s.gsub s.lookup.index) gs first → first ≤ length gs →
    applied_from s (lookup_in s.gsub s.lookup.index) first gs r ≡ applied s gs r
unfolding applied applied_from
applied_is s gs r first left within =
    let lookup = lookup_in s.gsub s.lookup.index in
    let e : first + (length gs - first) ≡ length gs = omega arith in
    let z : 0 + first ≡ first = omega arith in
    let walks = walk_on (lookup_stepped s lookup) first (length gs - first) gs 0 r (omega arith)
    (λ j le lt. step_left s lookup gs j r (left j (omega arith))) in
    let back : Along = record { text = applied_backward (length gs) (lookup_stepped_back s lookup) gs; lookups = r } in
    ap (λ (x : Along). if type_in 7 lookup 0 == 8 then back else x) (sym (rw (e, z) at walks))

-- ---- nothing to do

kept_back : (s : Setting) (lookup : List ℕ) (gs : Glyphs) (at : ℕ) →
    is_some (first_from (subtables_in lookup) (starting false lookup (two_byte_number gs at)) 0) ≡ false →
    with_glyph s.gdef gs at (first_from (subtables_in lookup)
    (nth_reversed s.gdef (sights_of s.gdef s.lookup lookup (glyph_at gs at)) lookup gs at) 0) ≡ gs
kept_back s lookup gs at none = let sights = sights_of s.gdef s.lookup lookup (glyph_at gs at) in
    ap (with_glyph s.gdef gs at) (none_of (nth_reversed s.gdef sights lookup gs at) (subtables_in lookup) 0
    (λ d lt. nth_reversed_none s.gdef sights lookup gs at (0 + d) (each_none lookup (two_byte_number gs at) none d lt)))

unlooked_back : (gdef : List ℕ) (sights : Sights) (lookup : List ℕ) (gs : Glyphs) (at i : ℕ) →
    starts_with false (type_in 7 lookup i) (subtable_in 7 lookup i) (two_byte_number gs at) ≡ false →
    nth_looked_back gdef sights lookup gs at i ≡ nothing at
unfolding nth_looked_back
unlooked_back gdef sights lookup gs at i none =
    let kind = type_in 7 lookup i in
    let bytes = subtable_in 7 lookup i in
    stretch_if (not (kind == 8)) _ _ (nothing at) (λ t. refl) (λ t.
    stretch_if (not (u16_in bytes 0 == 1)) _ _ (nothing at) (λ u. refl) (λ u. (let e = covered_by kind bytes (two_byte_number gs at) 2 none
    (at_start kind bytes (three_of (u16_in bytes 0) u)) in rw e refl)))

back_untried : (s : Setting) (lookup : List ℕ) (gs : Glyphs) (at : ℕ) →
    is_some (first_from (subtables_in lookup) (starting false lookup (two_byte_number gs at)) 0) ≡ false →
    tried_back s lookup gs at ≡ gs
unfolding tried_back all_looked_back
back_untried s lookup gs at none = let sights = sights_of s.gdef s.lookup lookup (glyph_at gs at) in
    kept_if s.concat _ gs (ap (λ x. unjoined x gs) (all_none _ (nth_looked_back s.gdef sights lookup gs at) at (subtables_in lookup) 0
    (λ d lt. unlooked_back s.gdef sights lookup gs at (0 + d) (each_none lookup (two_byte_number gs at) none d lt)))
    ∙ unflagged at gs)

same_if : (test : Bool) (x gs : Glyphs) → (test ≡ true → x ≡ gs) → (if test then x else gs) ≡ gs
same_if true x gs e = e refl
same_if false x gs e = refl

pub back_left : (s : Setting) (lookup : List ℕ) (gs : Glyphs) (at : ℕ) → is_left s.lookup lookup (glyph_at gs at) ≡ true →
    lookup_stepped_back s lookup gs at ≡ gs
unfolding lookup_stepped_back
back_left s lookup gs at e = same_if (is_seen s.gdef s.lookup lookup (glyph_at gs at)) _ gs
    (λ seen. elim (why_left s lookup (glyph_at gs at) e) [
      | inl zero_mask ↦ absurd (let no = unseen s lookup (glyph_at gs at) zero_mask in cc)
      | inr none ↦ (let e = back_untried s lookup gs at none in rw e (kept_back s lookup gs at none))
    ])

walk_back_left : (f : Glyphs → ℕ → Glyphs) (n : ℕ) (gs : Glyphs) → ((j : ℕ) → j < n → f gs j ≡ gs) → applied_backward n f gs ≡ gs
unfolding applied_backward
walk_back_left f zero gs h = refl
walk_back_left f (suc n) gs h =
    ap (applied_backward n f) (h n (omega arith)) ∙ walk_back_left f n gs (λ j lt. h j (omega arith))

no_steps : (f : Glyphs → ℕ → LookupRecord → PlaceChange) (gs : Glyphs) (at : ℕ) (r : LookupRecord) →
    lookup_applied 0 f gs at r ≡ record { text = gs; lookups = r }
unfolding lookup_applied
no_steps f gs at r = refl

both_same : (test : Bool) (x y z : Along) → x ≡ z → y ≡ z → (if test then x else y) ≡ z
both_same true x y z one two = one
both_same false x y z one two = two

from_end : (s : Setting) (gs : Glyphs) (r : LookupRecord) (first : ℕ) →
    AreLeft s.lookup (lookup_in s.gsub s.lookup.index) gs first → length gs ≤ first →
    applied_from s (lookup_in s.gsub s.lookup.index) first gs r ≡ record { text = gs; lookups = r }
unfolding applied_from
from_end s gs r first left all =
    let lookup = lookup_in s.gsub s.lookup.index in
    let e : length gs - first ≡ 0 = omega arith in
    let with_record : Glyphs → Along = λ xs. record { text = xs; lookups = r } in
    both_same (type_in 7 lookup 0 == 8) _ _ (with_record gs)
    (ap with_record
    (walk_back_left (lookup_stepped_back s lookup) (length gs) gs (λ j lt. back_left s lookup gs j (left j (omega arith)))))
    (rw e (no_steps (lookup_stepped s lookup) gs first r))

pub left_alone : (s : Setting) (gs : Glyphs) (r : LookupRecord) (first : ℕ) →
    AreLeft s.lookup (lookup_in s.gsub s.lookup.index) gs first → first ≤ length gs → length gs ≤ first →
    applied s gs r ≡ record { text = gs; lookups = r }
left_alone s gs r first left within all = sym (applied_is s gs r first left within) ∙ from_end s gs r first left all

-- ---- in a buffer

pub buffer_left : (gdef gsub : List ℕ) (use_of : LookupUse) (b : Buffer) (lookup : List ℕ) (first : ℕ) →
    lookup ≡ lookup_in gsub use_of.index → AreLeft use_of lookup b.glyphs first → first ≤ length b.glyphs →
    length b.glyphs ≤ first → b ≡ substituted gdef gsub use_of b
unfolding substituted
buffer_left gdef gsub use_of b lookup first is left within all =
    let put : Along → Buffer = λ it. (let new : Buffer = record b { glyphs = it.text; lookups = it.lookups } in new) in
    ap put (sym (left_alone (setting_for gdef gsub use_of b) b.glyphs b.lookups first (rw is at left) within all))

pub text_applied : (gdef gsub : List ℕ) (use_of : LookupUse) (b : Buffer) (lookup : List ℕ) (it : Along) (first : ℕ) →
    lookup ≡ lookup_in gsub use_of.index → AreLeft use_of lookup b.glyphs first → first ≤ length b.glyphs →
    applied_from (setting_for gdef gsub use_of b) lookup first b.glyphs b.lookups ≡ it →
    it ≡ applied (setting_for gdef gsub use_of b) b.glyphs b.lookups
text_applied gdef gsub use_of b lookup it first is left within from =
    sym (rw is at from) ∙ applied_is (setting_for gdef gsub use_of b) b.glyphs b.lookups first (rw is at left) within

pub buffer_applied : (gdef gsub : List ℕ) (use_of : LookupUse) (b : Buffer) (it : Along) →
    it ≡ applied (setting_for gdef gsub use_of b) b.glyphs b.lookups → b.positions ≡ [] →
    (let new : Buffer = record b { glyphs = it.text; positions = []; lookups = it.lookups } in new)
    ≡ substituted gdef gsub use_of b
unfolding substituted
buffer_applied gdef gsub use_of b it is none =
    let put : Along → List GlyphPosition → Buffer = λ x ps.
    (let new : Buffer = record b { glyphs = x.text; positions = ps; lookups = x.lookups } in new) in
    ap (λ x. put x []) is ∙ ap (put (applied (setting_for gdef gsub use_of b) b.glyphs b.lookups)) (sym none)

pub ok_then : {T P Q : Type 0} (r : Result T ShaperError) → (P → Q) → OnOk r P → OnOk r Q
ok_then (Ok _) f p = f p
ok_then (Err _) f p = p
