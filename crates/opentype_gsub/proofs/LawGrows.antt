-- By how much a lookup makes a text longer: not at all, where none of its subtables may add glyphs.
use Rattle.std.proofs.Common.{inl, inr, ◌⊎◌, ◌≡◌, ℕ, zero, suc, ◌+◌, ◌*◌, ◌%◌, ◌<◌, ◌≤◌, ◌==◌, ◌||◌, Bool, true, false, nat_lt, Option, None, Some, List, length, refl, subst, arith, if◌then◌else◌}
use Rattle.std.specs.Option.{is_some, option_map}
use Rattle.std.proofs.lemmas.Bool.{ltb-true}
use Rattle.shapers_buffer.specs.Buffer.{Buffer}
use Rattle.shapers_buffer.specs.GlyphFlags.{unsafe_inside}
use Rattle.shapers_buffer.specs.Glyphs.{Glyphs}
use Rattle.shapers_buffer.specs.declared.buffer.lookup_record.LookupRecord.{LookupRecord}
use Rattle.opentype_face.specs.Bytes.{u16_in}
use Rattle.opentype_face.specs.Lookups.{lookup_in, rule_count_in, subtable_in, subtables_in, type_in}
use Rattle.opentype_face.specs.Firsts.{first_from, or_else}
use Rattle.opentype_layout.specs.Text.{glyph_at}
use Rattle.opentype_layout.specs.declared.sight.Sight.{Sight}
use Rattle.opentype_gsub.specs.Applied.{PlaceChange, alternate_put, chosen_put, is_random, ligated_put, ligature_put, one_put, put_in, next_state, random_of, random_put, single_put, two_byte_number}
use Rattle.opentype_gsub.specs.Decided.{set_for_glyph}
use Rattle.opentype_gsub.specs.Growth.{adding, growth_in, may_add}
use Rattle.opentype_gsub.specs.Ligatures.{nth_ligature}
use Rattle.opentype_gsub.specs.Came.{Begun, Frame, came_in, nth_came}
use Rattle.opentype_gsub.specs.Machine.{MachineStep, nested, started, machine_stepped}
use Rattle.opentype_gsub.specs.Reversed.{nth_reversed, tried_back, lookup_stepped_back, applied_backward, with_glyph}
use Rattle.opentype_gsub.specs.Setting.{Setting, is_seen, sights_of}
use Rattle.opentype_gsub.specs.Substituted.{applied, setting_for, substituted}
use Rattle.opentype_gsub.specs.Along.{Along, lookup_stepped, lookup_applied, went_on}
use Rattle.opentype_gsub.specs.declared.pass.LookupUse.{LookupUse}
use Rattle.opentype_gsub.specs.declared.pass.Sights.{Sights}
use Rattle.opentype_gsub.proofs.LawKeeps.{ForEach, AreWithin, each_when, first_each, glyphs_grow, if_each, last_within, ligature_within, each_mapped, mapped_if, or_each, then_each}
use Rattle.opentype_gsub.specs.Flagged.{unbroken}
use Rattle.opentype_gsub.specs.Looked.{tried}
use Rattle.opentype_gsub.specs.declared.reverse.Reversal.{Reversal}
use Rattle.opentype_gsub.proofs.Unbroken.{all_unbroken_same, tried_back_same, tried_same, unbroken_same}
use Rattle.opentype_gsub.proofs.LigatureKeeps.{same_length}
use Rattle.opentype_gsub.proofs.Lengths.{ligated_few, put_few}

or_left : (a b : Bool) → (a || b) ≡ false → a ≡ false
or_left true b e = e
or_left false b e = refl

or_right : (a b : Bool) → (a || b) ≡ false → b ≡ false
or_right true b e = absurd (cc)
or_right false b e = e

-- the second of two, by a test that fails
second : {X : Type 0} (P : X → Type 0) (test : Bool) (o p : Option X) → test ≡ false → ForEach P p →
    ForEach P (if test then o else p)
second P true o p e b = absurd (cc)
second P false o p e b = b

-- ---- none of several

none_or : {X : Type 0} (o p : Option X) → is_some (or_else o p) ≡ false → (is_some o ≡ false) × (is_some p ≡ false)
none_or None p e = (refl, e)
none_or (Some x) p e = absurd (cc)

pub none_each : {X : Type 0} (f : ℕ → Option X) (n i : ℕ) → is_some (first_from n f i) ≡ false →
    (d : ℕ) → d < n → is_some (f (i + d)) ≡ false
unfolding first_from
none_each f zero i h d lt = absurd (omega arith)
none_each f (suc n) i h zero lt =
    let e : i ≡ i + 0 = omega arith in
    subst (λ j. is_some (f j) ≡ false) e ((none_or (f i) (first_from n f (i + 1)) h).0)
none_each f (suc n) i h (suc d) lt =
    let e : i + 1 + d ≡ i + suc d = omega arith in
    subst (λ j. is_some (f j) ≡ false) e
    (none_each f n (i + 1) ((none_or (f i) (first_from n f (i + 1)) h).1) d (omega arith))

each_to : {X : Type 0} (P : X → Type 0) (f : ℕ → Option X) (n i : ℕ) → ((d : ℕ) → d < n → ForEach P (f (i + d))) →
    ForEach P (first_from n f i)
unfolding first_from
each_to P f zero i h = tt
each_to P f (suc n) i h =
    let e : i + 0 ≡ i = omega arith in
    or_each P (f i) (first_from n f (i + 1)) (subst (λ j. ForEach P (f j)) e (h 0 (omega arith)))
    (each_to P f n (i + 1) (λ d lt. (let k : i + suc d ≡ i + 1 + d = omega arith in
    subst (λ j. ForEach P (f j)) k (h (suc d) (omega arith)))))

by_test : (test : Bool) (i : ℕ) → is_some (if test then Some i else None) ≡ false → test ≡ false
by_test true i e = absurd (cc)
by_test false i e = refl

not_adding : (lookup : List ℕ) (i : ℕ) → is_some (adding lookup i) ≡ false → may_add (type_in 7 lookup i) ≡ false
unfolding adding
not_adding lookup i e = by_test (may_add (type_in 7 lookup i)) i e

-- ---- subtables that add nothing

abbrev pub Lessens : Glyphs → PlaceChange → Type 0
Lessens gs change = length change.text ≤ length gs

if_less : (gs : Glyphs) (test : Bool) (x y : PlaceChange) → Lessens gs x → Lessens gs y → Lessens gs (if test then x else y)
if_less gs true x y one two = one
if_less gs false x y one two = two

ligature_less : (s : Setting) (at : ℕ) (gs : Glyphs) (r : LookupRecord) (it : ℕ × List ℕ) → at < length gs → AreWithin (length gs) it →
    Lessens gs (ligature_put s.gdef s.level at gs r it)
ligature_less s at gs r it lt all = if_less gs (length it.1 == 0) _ _ (put_few s.gdef at gs it.0)
    (ligated_few s.level s.gdef at it.0 it.1 gs (last_within (length gs) at it.1 lt all))

random_less : (s : Setting) (at : ℕ) (gs : Glyphs) (r : LookupRecord) (set : List ℕ) →
    ForEach (Lessens gs) (random_of s.gdef at gs r set)
random_less s at gs r set = let flagged = unsafe_inside 0 (length gs) gs in
    if_each (Lessens gs) (u16_in set 0 == 0) None _ tt
    (let count = u16_in set 0 in
    let to = u16_in set ((next_state r.random_state % count + 1) * 2) in
    omega (arith, put_few s.gdef at flagged to, same_length flagged gs (all_unbroken_same gs)))

one_less : (s : Setting) (sight : Sight) (kind : ℕ) (bytes : List ℕ) (gs : Glyphs) (at : ℕ) (r : LookupRecord) → at < length gs →
    (kind == 2) ≡ false → ForEach (Lessens gs) (one_put s sight kind bytes gs at r)
unfolding one_put single_put alternate_put random_put chosen_put ligated_put
one_less s sight kind bytes gs at r lt not_two =
    if_each (Lessens gs) (kind == 1) _ _ (each_mapped (Lessens gs) (put_in s.gdef at gs r) _ (put_few s.gdef at gs))
    (second (Lessens gs) (kind == 2) _ _ not_two
    (if_each (Lessens gs) (kind == 3) _ _
    (if_each (Lessens gs) (is_random s.lookup.random sight (glyph_at gs at)) _ _
    (then_each (Lessens gs) (random_of s.gdef at gs r) (set_for_glyph bytes (two_byte_number gs at)) (random_less s at gs r))
    (each_mapped (Lessens gs) (put_in s.gdef at gs r) _ (put_few s.gdef at gs)))
    (if_each (Lessens gs) (kind == 4) _ None
    (then_each (Lessens gs) _ _ (λ set. mapped_if (AreWithin (length gs)) (Lessens gs)
    (ligature_put s.gdef s.level at gs r) _
    (first_each (AreWithin (length gs)) (nth_ligature s.gdef sight gs at set) (rule_count_in set) 0
    (λ j. ligature_within s.gdef sight gs at _))
    (λ it all. ligature_less s at gs r it lt all)))
    tt)))

abbrev pub CameLess : Glyphs → PlaceChange ⊎ Begun → Type 0
CameLess gs (inl change) = Lessens gs change
CameLess gs (inr b) = ⊥

nth_less : (s : Setting) (sights : Sights) (lookup : List ℕ) (at : ℕ) (gs : Glyphs) (r : LookupRecord) (i : ℕ) → at < length gs →
    may_add (type_in 7 lookup i) ≡ false → ForEach (CameLess gs) (nth_came s sights lookup at gs r i)
unfolding nth_came
nth_less s sights lookup at gs r i lt none =
    let kind = type_in 7 lookup i in
    let bytes = subtable_in 7 lookup i in
    let one : Option PlaceChange = one_put s sights.input kind bytes gs at r in
    second (CameLess gs) ((kind == 5) || (kind == 6)) _ (option_map inl one)
    (or_right (kind == 2) ((kind == 5) || (kind == 6)) none)
    (mapped_if (Lessens gs) (CameLess gs) inl one
    (one_less s sights.input kind bytes gs at r lt (or_left (kind == 2) ((kind == 5) || (kind == 6)) none)) (λ change less. less))

came_less : (s : Setting) (lookup : List ℕ) (gs : Glyphs) (at : ℕ) (r : LookupRecord) →
    is_some (first_from (subtables_in lookup) (adding lookup) 0) ≡ false → ForEach (CameLess gs) (came_in s lookup gs at r)
unfolding came_in
came_less s lookup gs at r none = each_when (CameLess gs) (nat_lt at (length gs)) _
    (λ e. each_to (CameLess gs) (nth_came s (sights_of s.gdef s.lookup lookup (glyph_at gs at)) lookup at gs r) (subtables_in lookup) 0
    (λ d lt. nth_less s (sights_of s.gdef s.lookup lookup (glyph_at gs at)) lookup at gs r (0 + d) (ltb-true at (length gs) e)
    (not_adding lookup (0 + d) (none_each (adding lookup) (subtables_in lookup) 0 none d lt))))

started_less : (step : Glyphs → LookupRecord → List Frame → MachineStep) (gs : Glyphs) (r : LookupRecord) (came : Option (PlaceChange ⊎ Begun)) →
    ForEach (CameLess gs) came → length (started step gs r came).text ≤ length gs
started_less step gs r None h = omega arith
started_less step gs r (Some (inl change)) h = h
started_less step gs r (Some (inr b)) h = absurd h

pub step_less : (s : Setting) (lookup : List ℕ) → is_some (first_from (subtables_in lookup) (adding lookup) 0) ≡ false →
    (gs : Glyphs) (at : ℕ) (r : LookupRecord) → length (lookup_stepped s lookup gs at r).text ≤ length gs
unfolding lookup_stepped nested
step_less s lookup none gs at r = let flagged = tried s lookup gs at in
    if_less gs (is_seen s.gdef s.lookup lookup (glyph_at gs at))
    (went_on at (started (machine_stepped s) flagged r (came_in s lookup flagged at r))) _
    (let less = started_less (machine_stepped s) flagged r (came_in s lookup flagged at r) (came_less s lookup flagged at r none) in
    let same = same_length flagged gs (tried_same s lookup gs at) in omega arith) (omega arith)

if_text : (n : ℕ) (test : Bool) (x y : Glyphs) → length x ≤ n → length y ≤ n → length (if test then x else y) ≤ n
if_text n true x y one two = one
if_text n false x y one two = two

if_walked : (n : ℕ) (test : Bool) (x y : Along) → length x.text ≤ n → length y.text ≤ n → length (if test then x else y).text ≤ n
if_walked n true x y one two = one
if_walked n false x y one two = two

pub walk_less : (f : Glyphs → ℕ → LookupRecord → PlaceChange) →
    ((gs : Glyphs) (at : ℕ) (r : LookupRecord) → length (f gs at r).text ≤ length gs) →
    (n : ℕ) (gs : Glyphs) (at : ℕ) (r : LookupRecord) → length (lookup_applied n f gs at r).text ≤ length gs
unfolding lookup_applied
walk_less f h zero gs at r = omega arith
walk_less f h (suc n) gs at r = if_walked (length gs) (nat_lt at (length gs)) _ _
    (let one = h gs at r in
    let more = walk_less f h n (f gs at r).text (f gs at r).next (f gs at r).lookups in omega arith) (omega arith)

with_less : (gdef : List ℕ) (gs : Glyphs) (at : ℕ) (it : Option Reversal) → length (with_glyph gdef gs at it) ≤ length gs
with_less gdef gs at None = omega arith
with_less gdef gs at (Some it) = let flagged = unbroken (length gs) it.start it.stop gs in
    omega (arith, put_few gdef at flagged it.glyph, same_length flagged gs (unbroken_same (length gs) it.start it.stop gs))

back_less : (s : Setting) (lookup : List ℕ) (gs : Glyphs) (at : ℕ) → length (lookup_stepped_back s lookup gs at) ≤ length gs
unfolding lookup_stepped_back
back_less s lookup gs at = let flagged = tried_back s lookup gs at in
    if_text (length gs) (is_seen s.gdef s.lookup lookup (glyph_at gs at)) _ gs
    (omega (
      arith,
      with_less s.gdef flagged at (first_from (subtables_in lookup) (nth_reversed s.gdef
          (sights_of s.gdef s.lookup lookup (glyph_at gs at)) lookup flagged at) 0),
      same_length flagged gs (tried_back_same s lookup gs at),
    )) (omega arith)

walk_back_less : (f : Glyphs → ℕ → Glyphs) → ((gs : Glyphs) (at : ℕ) → length (f gs at) ≤ length gs) →
    (n : ℕ) (gs : Glyphs) → length (applied_backward n f gs) ≤ length gs
unfolding applied_backward
walk_back_less f h zero gs = omega arith
walk_back_less f h (suc n) gs = (let one = h gs n in let more = walk_back_less f h n (f gs n) in omega arith)

applied_less : (s : Setting) (gs : Glyphs) (r : LookupRecord) →
    is_some (first_from (subtables_in (lookup_in s.gsub s.lookup.index)) (adding (lookup_in s.gsub s.lookup.index)) 0) ≡ false →
    length (applied s gs r).text ≤ length gs
unfolding applied
applied_less s gs r none = let lookup = lookup_in s.gsub s.lookup.index in
    if_walked (length gs) (type_in 7 lookup 0 == 8) _ _
    (walk_back_less (lookup_stepped_back s lookup) (back_less s lookup) (length gs) gs)
    (walk_less (lookup_stepped s lookup) (step_less s lookup none) (length gs) gs 0 r)

by_growth : (old new : ℕ) (test : Bool) → new ≤ old * 65536 → (test ≡ false → new ≤ old) →
    new ≤ old * (if test then 65536 else 1)
by_growth old new true most less = most
by_growth old new false most less = let few = less refl in omega arith

glyphs_less : (gdef gsub : List ℕ) (use_of : LookupUse) (b : Buffer) →
    is_some (first_from (subtables_in (lookup_in gsub use_of.index)) (adding (lookup_in gsub use_of.index)) 0) ≡ false →
    length (substituted gdef gsub use_of b).glyphs ≤ length b.glyphs
unfolding substituted
glyphs_less gdef gsub use_of b none = applied_less (setting_for gdef gsub use_of b) b.glyphs b.lookups none

pub glyphs_grow_by : (gdef gsub : List ℕ) (use_of : LookupUse) (b : Buffer) →
    length (substituted gdef gsub use_of b).glyphs ≤ length b.glyphs * growth_in gsub use_of.index
glyphs_grow_by gdef gsub use_of b = by_growth (length b.glyphs) (length (substituted gdef gsub use_of b).glyphs)
    (is_some (first_from (subtables_in (lookup_in gsub use_of.index)) (adding (lookup_in gsub use_of.index)) 0))
    (glyphs_grow gdef gsub use_of b) (glyphs_less gdef gsub use_of b)
