-- What a lookup keeps of a text, from what its subtables keep.
use Rattle.std.proofs.Common.{◌||◌, subst, inl, inr, ◌⊎◌, ◌≡◌, ℕ, ◌+◌, ◌-◌, ◌*◌, ◌<◌, ◌≤◌, ◌==◌, Bool, true, false, nat_lt, Option, None, Some, List, [], ◌∷◌, length, get_or, refl, sym, zero, suc, arith, if◌then◌else◌}
use Rattle.std.specs.List.{AllByRecursion, list_any}
use Rattle.std.specs.Option.{option_and_then, option_map}
use Rattle.std.proofs.lemmas.Bool.{ltb-true}
use Rattle.shapers_buffer.specs.GlyphFlags.{unsafe_inside}
use Rattle.shapers_buffer.specs.Glyphs.{Glyphs}
use Rattle.shapers_buffer.specs.declared.buffer.lookup_record.LookupRecord.{LookupRecord}
use Rattle.opentype_face.specs.Bytes.{u16_in, table_at}
use Rattle.opentype_gsub.specs.Kept.{KeepsTextClusters}
use Rattle.opentype_gsub.specs.Decided.{set_for_glyph}
use Rattle.opentype_gsub.specs.Edits.{last_place, replaced}
use Rattle.opentype_layout.specs.Text.{glyph_at}
use Rattle.opentype_face.specs.Firsts.{first_from, or_else}
use Rattle.opentype_layout.specs.Sight.{is_hit, is_passed, next_from}
use Rattle.opentype_layout.specs.Pattern.{is_number, next_in, places_from, seen_by}
use Rattle.opentype_layout.specs.Ligatures.{if_together, input_in, is_apart}
use Rattle.opentype_gsub.specs.Ligatures.{nth_ligature, ligature_of}
use Rattle.opentype_gsub.specs.Applied.{PlaceChange, alternate_put, chosen_put, is_random, ligated_put, ligature_put, multiple_put, one_put, put_in, random_of, random_put, sequence_put, single_put, two_byte_number}
use Rattle.opentype_gsub.specs.Came.{Begun, Frame, begun, came_in, nth_came}
use Rattle.opentype_gsub.specs.Machine.{AfterCall, Nested, MachineStep, charged, lookup_called, called_by, ended, goes_on_with, nested, step_pushed, ran, started, machine_stepped, turn_operations, turned}
use Rattle.opentype_gsub.specs.Setting.{Setting, is_seen, sights_of}
use Rattle.opentype_gsub.specs.Along.{Along, lookup_stepped, lookup_applied, went_on}
use Rattle.opentype_gsub.specs.Substituted.{applied, limit_in, setting_for, substituted}
use Rattle.opentype_gsub.specs.declared.pass.LookupUse.{LookupUse}
use Rattle.opentype_gsub.specs.declared.pass.Sights.{Sights}
use Rattle.shapers_buffer.specs.Buffer.{Buffer}
use Rattle.std.specs.Prelude.{Err, IsOkUnless, Ok, Result, slice_set}
use Rattle.shapers_buffer.specs.Refusals.{RefusesLength}
use Rattle.shapers_buffer.specs.declared.buffer.refusal.ShaperError.{ShaperError}
use Rattle.shapers_buffer.specs.declared.buffer.refusal.ShaperError.TheVariants.{Memory, TooLong}
use Rattle.opentype_face.specs.Lookups.{lookup_in, rule_count_in, subtable_in, subtables_in, type_in}
use Rattle.opentype_layout.specs.Rules.{Found, context_in}
use Rattle.opentype_gsub.specs.Reversed.{tried_back, lookup_stepped_back, applied_backward, with_glyph}
use Rattle.opentype_layout.specs.declared.sight.Sight.{Sight}
use Rattle.opentype_gsub.specs.Flagged.{unbroken}
use Rattle.opentype_gsub.specs.Looked.{tried}
use Rattle.opentype_gsub.specs.declared.reverse.Reversal.{Reversal}
use Rattle.opentype_gsub.proofs.Unbroken.{all_unbroken_same, tried_back_same, tried_same, unbroken_same}
use Rattle.opentype_gsub.proofs.LigatureKeeps.{same_length}
use Rattle.opentype_gsub.proofs.Kept.{itself, kept_then, same}
use Rattle.opentype_gsub.proofs.Lengths.{ligated_few, put_few, sequence_few}
use Rattle.opentype_gsub.proofs.LookupKeeps.{ligated_keeps, put_keeps, sequence_keeps}

-- what holds of what an option has
abbrev pub ForEach : {X : Type 0} → (X → Type 0) → Option X → Type 0
ForEach P None = Unit {0}
ForEach P (Some x) = P x

pub each_mapped : {X Y : Type 0} (P : Y → Type 0) (f : X → Y) (o : Option X) → ((x : X) → P (f x)) → ForEach P (option_map f o)
each_mapped P f None h = tt
each_mapped P f (Some x) h = h x

pub mapped_if : {X Y : Type 0} (Q : X → Type 0) (P : Y → Type 0) (f : X → Y) (o : Option X) → ForEach Q o →
    ((x : X) → Q x → P (f x)) → ForEach P (option_map f o)
mapped_if Q P f None q h = tt
mapped_if Q P f (Some x) q h = h x q

pub then_each : {X Y : Type 0} (P : Y → Type 0) (f : X → Option Y) (o : Option X) → ((x : X) → ForEach P (f x)) →
    ForEach P (option_and_then f o)
then_each P f None h = tt
then_each P f (Some x) h = h x

then_if : {X Y : Type 0} (Q : X → Type 0) (P : Y → Type 0) (f : X → Option Y) (o : Option X) → ForEach Q o →
    ((x : X) → Q x → ForEach P (f x)) → ForEach P (option_and_then f o)
then_if Q P f None q h = tt
then_if Q P f (Some x) q h = h x q

pub or_each : {X : Type 0} (P : X → Type 0) (o p : Option X) → ForEach P o → ForEach P p → ForEach P (or_else o p)
or_each P None p a b = b
or_each P (Some x) p a b = a

pub first_each : {X : Type 0} (P : X → Type 0) (f : ℕ → Option X) (n i : ℕ) → ((j : ℕ) → ForEach P (f j)) →
    ForEach P (first_from n f i)
unfolding first_from
first_each P f zero i h = tt
first_each P f (suc n) i h = or_each P (f i) (first_from n f (i + 1)) (h i) (first_each P f n (i + 1) h)

pub if_each : {X : Type 0} (P : X → Type 0) (test : Bool) (o p : Option X) → ForEach P o → ForEach P p →
    ForEach P (if test then o else p)
if_each P true o p a b = a
if_each P false o p a b = b

-- ---- places are within the text

weaker : {P Q : ℕ → Type 0} (o : Option ℕ) → ((p : ℕ) → P p → Q p) → ForEach P o → ForEach Q o
weaker None h a = tt
weaker (Some p) h a = h p a

next_within : (sight : ℕ → Option Bool) (n at : ℕ) → ForEach (λ p. p < at + n) (next_from n sight at)
unfolding next_from
next_within sight zero at = tt
next_within sight (suc n) at =
    if_each (λ p. p < at + suc n) (is_passed (sight at)) (next_from n sight (at + 1)) _
    (weaker (next_from n sight (at + 1)) (λ p lt. omega arith) (next_within sight n (at + 1)))
    (if_each (λ p. p < at + suc n) (is_hit (sight at)) (Some at) None (omega arith) tt)

within_by : (len from : ℕ) (sight : ℕ → Option Bool) (n : ℕ) → len - from ≡ n →
    ForEach (λ p. p < len) (next_from n sight from)
unfolding next_from
within_by len from sight zero e = tt
within_by len from sight (suc n) e = weaker (next_from (suc n) sight from) (λ p lt. omega arith)
    (next_within sight (suc n) from)

next_in_within : (gdef : List ℕ) (sight : Sight) (test : ℕ → ℕ → Bool) (gs : Glyphs) (k from : ℕ) →
    ForEach (λ p. p < length gs) (next_in gdef sight test gs k from)
next_in_within gdef sight test gs k from =
    within_by (length gs) from (λ i. seen_by gdef sight test k (glyph_at gs i)) (length gs - from) refl

all_within : (len : ℕ) (next : ℕ → ℕ → Option ℕ) → ((k from : ℕ) → ForEach (λ p. p < len) (next k from)) →
    (n k from : ℕ) → ForEach (AllByRecursion (λ p. p < len)) (places_from n next k from)
unfolding places_from
all_within len next h zero k from = tt
all_within len next h (suc n) k from =
    then_if (λ p. p < len) (AllByRecursion (λ p. p < len)) _ (next k from) (h k from)
    (λ p lt. mapped_if (AllByRecursion (λ q. q < len)) (AllByRecursion (λ q. q < len)) (λ ps. p ∷ ps)
    (places_from n next (k + 1) (p + 1)) (all_within len next h n (k + 1) (p + 1))
    (λ ps all. (lt, all)))

get_all : (P : ℕ → Type 0) (xs : List ℕ) → AllByRecursion P xs → (j : ℕ) → j < length xs → P (get_or xs j 0)
get_all P [] all j lt = absurd (omega arith)
get_all P (x ∷ xs) all zero lt = all.0
get_all P (x ∷ xs) all (suc j) lt = get_all P xs all.1 j (omega arith)

pick_less : (len : ℕ) (test : Bool) (x y : ℕ) → x < len → y < len → (if test then x else y) < len
pick_less len true x y one two = one
pick_less len false x y one two = two

pub last_within : (len at : ℕ) (ps : List ℕ) → at < len → AllByRecursion (λ p. p < len) ps → last_place at ps < len
last_within len at [] lt all = lt
last_within len at (p ∷ ps) lt all =
    pick_less len (length (p ∷ ps) == 0) at (get_or (p ∷ ps) (length (p ∷ ps) - 1) 0) lt
    (get_all (λ q. q < len) (p ∷ ps) all (length (p ∷ ps) - 1) (omega arith))

abbrev pub AreWithin : ℕ → ℕ × List ℕ → Type 0
AreWithin len it = AllByRecursion (λ p. p < len) it.1

together : (len : ℕ) (gdef : List ℕ) (sight : Sight) (gs : Glyphs) (at : ℕ) (o : Option (List ℕ)) →
    ForEach (AllByRecursion (λ p. p < len)) o → ForEach (AllByRecursion (λ p. p < len)) (if_together gdef sight gs at o)
together len gdef sight gs at None h = tt
together len gdef sight gs at (Some places) h =
    if_each (AllByRecursion (λ p. p < len)) (list_any (is_apart gdef sight gs at) places) None (Some places) tt h

input_within : (gdef : List ℕ) (sight : Sight) (test : ℕ → ℕ → Bool) (count : ℕ) (gs : Glyphs) (at : ℕ) →
    ForEach (AllByRecursion (λ p. p < length gs)) (input_in gdef sight test count gs at)
unfolding input_in
input_within gdef sight test count gs at = together (length gs) gdef sight gs at _
    (all_within (length gs) _ (next_in_within gdef sight test gs) count 0 (at + 1))

pub ligature_within : (gdef : List ℕ) (sight : Sight) (gs : Glyphs) (at : ℕ) (ligature : List ℕ) →
    ForEach (AreWithin (length gs)) (ligature_of gdef sight gs at ligature)
unfolding ligature_of
ligature_within gdef sight gs at ligature =
    if_each (AreWithin (length gs)) _ None _ tt
    (mapped_if (AllByRecursion (λ p. p < length gs)) (AreWithin (length gs)) (λ ps. (u16_in ligature 0, ps))
    (input_in gdef sight (is_number (table_at ligature 4)) (u16_in ligature 2 - 1) gs at)
    (input_within gdef sight (is_number (table_at ligature 4)) (u16_in ligature 2 - 1) gs at)
    (λ ps all. all))

-- ---- what lookups keep

pub record Keeps (s : Setting) (old new : Glyphs) : Type 0 where
  pub kept : KeepsTextClusters s.level old new
  pub few : (n : ℕ) → length old ≤ n → s.limit ≤ n → length new ≤ n

unchanged : (s : Setting) (gs : Glyphs) → Keeps s gs gs
unchanged s gs = record { kept = itself s.level gs; few = λ n within limited. within }

keeps_then : (s : Setting) (a b c : Glyphs) → Keeps s a b → Keeps s b c → Keeps s a c
keeps_then s a b c one two = record {
  kept = kept_then s.level a b c one.kept two.kept;
  few = λ n within limited. two.few n (one.few n within limited) limited;
}

no_longer : (s : Setting) (old new : Glyphs) → KeepsTextClusters s.level old new → length new ≤ length old → Keeps s old new
no_longer s old new kept few = record { kept = kept; few = λ n within limited. omega arith }

flagging_keeps : (s : Setting) (gs : Glyphs) (old_len start stop : ℕ) →
    Keeps s gs (unbroken old_len start stop gs)
flagging_keeps s gs old_len start stop = let kept = unbroken_same old_len start stop gs in
    no_longer s gs _ (same s.level gs _ kept)
    (omega (arith, same_length (unbroken old_len start stop gs) gs kept))

trying_keeps : (s : Setting) (lookup : List ℕ) (gs : Glyphs) (at : ℕ) → Keeps s gs (tried s lookup gs at)
trying_keeps s lookup gs at = let kept = tried_same s lookup gs at in
    no_longer s gs _ (same s.level gs _ kept) (omega (arith, same_length (tried s lookup gs at) gs kept))

begun_keeps : (s : Setting) (chained : Bool) (gs : Glyphs) (m : Found) → Keeps s gs (begun s chained gs m).text
unfolding begun
begun_keeps s chained gs m = flagging_keeps s gs (if chained then s.len else length gs) m.start m.stop

abbrev pub ChangeKeeps : Setting → Glyphs → PlaceChange → Type 0
ChangeKeeps s gs change = Keeps s gs change.text

if_keeps : (s : Setting) (gs : Glyphs) (test : Bool) (x y : PlaceChange) → ChangeKeeps s gs x → ChangeKeeps s gs y →
    ChangeKeeps s gs (if test then x else y)
if_keeps s gs true x y one two = one
if_keeps s gs false x y one two = two

in_keeps : (s : Setting) (at : ℕ) (gs : Glyphs) (to : ℕ) → Keeps s gs (slice_set gs at (replaced s.gdef to 0 (glyph_at gs at)))
in_keeps s at gs to = no_longer s gs _ (put_keeps s.level s.gdef at gs to) (put_few s.gdef at gs to)

ligature_keeps : (s : Setting) (at : ℕ) (gs : Glyphs) (r : LookupRecord) (it : ℕ × List ℕ) → at < length gs → AreWithin (length gs) it →
    ChangeKeeps s gs (ligature_put s.gdef s.level at gs r it)
ligature_keeps s at gs r it lt all = if_keeps s gs (length it.1 == 0) _ _ (in_keeps s at gs it.0)
    (let in_it = last_within (length gs) at it.1 lt all in
    no_longer s gs _ (ligated_keeps s.level s.gdef at it.0 it.1 gs in_it) (ligated_few s.level s.gdef at it.0 it.1 gs in_it))

-- an alternate at random
random_keeps : (s : Setting) (at : ℕ) (gs : Glyphs) (r : LookupRecord) (set : List ℕ) →
    ForEach (ChangeKeeps s gs) (random_of s.gdef at gs r set)
random_keeps s at gs r set = let flagged = unsafe_inside 0 (length gs) gs in
    let kept = all_unbroken_same gs in
    if_each (ChangeKeeps s gs) (u16_in set 0 == 0) None _ tt
    (keeps_then s gs flagged _ (no_longer s gs _ (same s.level gs _ kept) (omega (arith, same_length flagged gs kept)))
    (in_keeps s at flagged _))

one_keeps : (s : Setting) (sight : Sight) (kind : ℕ) (bytes : List ℕ) (gs : Glyphs) (at : ℕ) (r : LookupRecord) → at < length gs →
    ForEach (ChangeKeeps s gs) (one_put s sight kind bytes gs at r)
unfolding one_put single_put multiple_put alternate_put random_put chosen_put ligated_put
one_keeps s sight kind bytes gs at r lt =
    if_each (ChangeKeeps s gs) (kind == 1) _ _ (each_mapped (ChangeKeeps s gs) (put_in s.gdef at gs r) _ (in_keeps s at gs))
    (if_each (ChangeKeeps s gs) (kind == 2) _ _
    (each_mapped (ChangeKeeps s gs) (sequence_put s at gs r) _
    (λ sequence. record { kept = sequence_keeps s at gs r sequence lt; few = sequence_few s at gs r sequence lt }))
    (if_each (ChangeKeeps s gs) (kind == 3) _ _
    (if_each (ChangeKeeps s gs) (is_random s.lookup.random sight (glyph_at gs at)) _ _
    (then_each (ChangeKeeps s gs) (random_of s.gdef at gs r) (set_for_glyph bytes (two_byte_number gs at)) (random_keeps s at gs r))
    (each_mapped (ChangeKeeps s gs) (put_in s.gdef at gs r) _ (in_keeps s at gs)))
    (if_each (ChangeKeeps s gs) (kind == 4) _ None
    (then_each (ChangeKeeps s gs) _ _ (λ set. mapped_if (AreWithin (length gs)) (ChangeKeeps s gs)
    (ligature_put s.gdef s.level at gs r) _
    (first_each (AreWithin (length gs)) (nth_ligature s.gdef sight gs at set) (rule_count_in set) 0
    (λ j. ligature_within s.gdef sight gs at _))
    (λ it all. ligature_keeps s at gs r it lt all)))
    tt)))

-- ---- at a place

abbrev pub CameKeeps : Setting → Glyphs → PlaceChange ⊎ Begun → Type 0
CameKeeps s gs (inl change) = ChangeKeeps s gs change
CameKeeps s gs (inr b) = Keeps s gs b.text

nth_keeps : (s : Setting) (sights : Sights) (lookup : List ℕ) (at : ℕ) (gs : Glyphs) (r : LookupRecord) (i : ℕ) → at < length gs →
    ForEach (CameKeeps s gs) (nth_came s sights lookup at gs r i)
unfolding nth_came
nth_keeps s sights lookup at gs r i lt =
    let kind = type_in 7 lookup i in
    let bytes = subtable_in 7 lookup i in
    let one : Option PlaceChange = one_put s sights.input kind bytes gs at r in
    let rule : Option Found = context_in (kind == 6) s.gdef sights.input sights.context bytes gs at in
    let begins : Found → PlaceChange ⊎ Begun = λ m. inr (begun s (kind == 6) gs m) in
    if_each (CameKeeps s gs) ((kind == 5) || (kind == 6)) (option_map begins rule) (option_map inl one)
    (each_mapped (CameKeeps s gs) begins rule (begun_keeps s (kind == 6) gs))
    (mapped_if (ChangeKeeps s gs) (CameKeeps s gs) inl one (one_keeps s sights.input kind bytes gs at r lt) (λ change keeps. keeps))

pub each_when : {X : Type 0} (P : X → Type 0) (test : Bool) (o : Option X) → (test ≡ true → ForEach P o) →
    ForEach P (if test then o else None)
each_when P true o h = h refl
each_when P false o h = tt

came_keeps : (s : Setting) (lookup : List ℕ) (gs : Glyphs) (at : ℕ) (r : LookupRecord) → ForEach (CameKeeps s gs) (came_in s lookup gs at r)
unfolding came_in
came_keeps s lookup gs at r = each_when (CameKeeps s gs) (nat_lt at (length gs)) _
    (λ e. first_each (CameKeeps s gs) (nth_came s (sights_of s.gdef s.lookup lookup (glyph_at gs at)) lookup at gs r) (subtables_in lookup) 0
    (λ j. nth_keeps s (sights_of s.gdef s.lookup lookup (glyph_at gs at)) lookup at gs r j (ltb-true at (length gs) e)))

-- ---- the machine

by_keeps : (s : Setting) (gs : Glyphs) (r : LookupRecord) (f : Frame) (came : Option (PlaceChange ⊎ Begun)) → ForEach (CameKeeps s gs) came →
    Keeps s gs (called_by gs r f came).text
by_keeps s gs r f None h = unchanged s gs
by_keeps s gs r f (Some (inl change)) h = h
by_keeps s gs r f (Some (inr b)) h = h

if_called : (s : Setting) (gs : Glyphs) (test : Bool) (x y : AfterCall) → Keeps s gs x.text → Keeps s gs y.text →
    Keeps s gs (if test then x else y).text
if_called s gs true x y one two = one
if_called s gs false x y one two = two

called_keeps : (s : Setting) (gs : Glyphs) (r : LookupRecord) (f : Frame) → Keeps s gs (lookup_called s gs r f).text
unfolding lookup_called
called_keeps s gs r f =
    let lookup = lookup_in s.gsub (u16_in f.records (f.next * 4 + 2)) in
    let place = get_or f.places (u16_in f.records (f.next * 4)) 0 in
    let flagged = tried s lookup gs place in
    if_called s gs _ _ _
    (keeps_then s gs flagged _ (trying_keeps s lookup gs place) (by_keeps s flagged r _ _ (came_keeps s lookup flagged place r)))
    (unchanged s gs)

ended_keeps : (s : Setting) (gs : Glyphs) (r : LookupRecord) (f : Frame) (fs : List Frame) → Keeps s gs (ended gs r f fs).text
ended_keeps s gs r f [] = unchanged s gs
ended_keeps s gs r f (outer ∷ fs) = unchanged s gs

if_turn : (s : Setting) (gs : Glyphs) (test : Bool) (x y : MachineStep) → Keeps s gs x.text → Keeps s gs y.text →
    Keeps s gs (if test then x else y).text
if_turn s gs true x y one two = one
if_turn s gs false x y one two = two

turned_keeps : (s : Setting) (gs : Glyphs) (r : LookupRecord) (f : Frame) (fs : List Frame) → Keeps s gs (turned s gs r f fs).text
unfolding turned
turned_keeps s gs r f fs =
    if_turn s gs _ (step_pushed (lookup_called s gs r f) fs) (ended gs r f fs) (called_keeps s gs r f) (ended_keeps s gs r f fs)

stepped_keeps : (s : Setting) (gs : Glyphs) (r : LookupRecord) (fs : List Frame) → Keeps s gs (machine_stepped s gs r fs).text
unfolding machine_stepped
stepped_keeps s gs r [] = unchanged s gs
stepped_keeps s gs r (f ∷ fs) = let n = turn_operations s f in
    if_turn s gs _ (turned s gs (charged n r) f fs) _ (turned_keeps s gs (charged n r) f fs) (unchanged s gs)

goes_keeps : (s : Setting) (gs : Glyphs) (rest : Glyphs → LookupRecord → List Frame → Nested) (t : MachineStep) (end : Option (Option ℕ)) →
    Keeps s gs t.text → ((hs : Glyphs) (r : LookupRecord) (fs : List Frame) → Keeps s hs (rest hs r fs).text) →
    Keeps s gs (goes_on_with rest t end).text
goes_keeps s gs rest t None one more = keeps_then s gs t.text _ one (more t.text t.lookups t.stack)
goes_keeps s gs rest t (Some end) one more = one

ran_keeps : (s : Setting) (n : ℕ) (gs : Glyphs) (r : LookupRecord) (fs : List Frame) → Keeps s gs (ran n (machine_stepped s) gs r fs).text
unfolding ran
ran_keeps s zero gs r fs = unchanged s gs
ran_keeps s (suc n) gs r fs = let it = machine_stepped s gs r fs in
    goes_keeps s gs (ran n (machine_stepped s)) it it.end (stepped_keeps s gs r fs) (ran_keeps s n)

started_keeps : (s : Setting) (gs : Glyphs) (r : LookupRecord) (came : Option (PlaceChange ⊎ Begun)) → ForEach (CameKeeps s gs) came →
    Keeps s gs (started (machine_stepped s) gs r came).text
started_keeps s gs r None h = unchanged s gs
started_keeps s gs r (Some (inl change)) h = h
started_keeps s gs r (Some (inr b)) h =
    keeps_then s gs b.text _ h (ran_keeps s r.operations_left b.text r (b.frame ∷ []))

nested_keeps : (s : Setting) (lookup : List ℕ) (gs : Glyphs) (at : ℕ) (r : LookupRecord) → Keeps s gs (nested s lookup gs at r).text
unfolding nested
nested_keeps s lookup gs at r = let flagged = tried s lookup gs at in
    keeps_then s gs flagged _ (trying_keeps s lookup gs at)
    (started_keeps s flagged r (came_in s lookup flagged at r) (came_keeps s lookup flagged at r))

-- ---- along the text

step_keeps : (s : Setting) (lookup : List ℕ) (gs : Glyphs) (at : ℕ) (r : LookupRecord) → Keeps s gs (lookup_stepped s lookup gs at r).text
unfolding lookup_stepped
step_keeps s lookup gs at r =
    if_keeps s gs (is_seen s.gdef s.lookup lookup (glyph_at gs at)) (went_on at (nested s lookup gs at r)) _
    (nested_keeps s lookup gs at r) (unchanged s gs)

if_text : (s : Setting) (gs x y : Glyphs) (test : Bool) → Keeps s gs x → Keeps s gs y → Keeps s gs (if test then x else y)
if_text s gs x y true one two = one
if_text s gs x y false one two = two

if_walked : (s : Setting) (gs : Glyphs) (x y : Along) (test : Bool) → Keeps s gs x.text → Keeps s gs y.text →
    Keeps s gs (if test then x else y).text
if_walked s gs x y true one two = one
if_walked s gs x y false one two = two

pub walk_keeps : (s : Setting) (f : Glyphs → ℕ → LookupRecord → PlaceChange) →
    ((gs : Glyphs) (at : ℕ) (r : LookupRecord) → Keeps s gs (f gs at r).text) →
    (n : ℕ) (gs : Glyphs) (at : ℕ) (r : LookupRecord) → Keeps s gs (lookup_applied n f gs at r).text
unfolding lookup_applied
walk_keeps s f h zero gs at r = unchanged s gs
walk_keeps s f h (suc n) gs at r = let stepped = f gs at r in
    if_walked s gs _ _ (nat_lt at (length gs))
    (keeps_then s gs stepped.text _ (h gs at r) (walk_keeps s f h n stepped.text stepped.next stepped.lookups))
    (unchanged s gs)

with_keeps : (s : Setting) (gs : Glyphs) (at : ℕ) (it : Option Reversal) → Keeps s gs (with_glyph s.gdef gs at it)
with_keeps s gs at None = unchanged s gs
with_keeps s gs at (Some it) = keeps_then s gs (unbroken (length gs) it.start it.stop gs) _ (flagging_keeps s gs (length gs) it.start it.stop)
    (in_keeps s at (unbroken (length gs) it.start it.stop gs) it.glyph)

back_keeps : (s : Setting) (lookup : List ℕ) (gs : Glyphs) (at : ℕ) → Keeps s gs (lookup_stepped_back s lookup gs at)
unfolding lookup_stepped_back
back_keeps s lookup gs at = let flagged = tried_back s lookup gs at in
    let kept = tried_back_same s lookup gs at in
    if_text s gs _ gs (is_seen s.gdef s.lookup lookup (glyph_at gs at))
    (keeps_then s gs flagged _ (no_longer s gs _ (same s.level gs _ kept) (omega (arith, same_length flagged gs kept)))
    (with_keeps s flagged at _)) (unchanged s gs)

walk_back_keeps : (s : Setting) (f : Glyphs → ℕ → Glyphs) → ((gs : Glyphs) (at : ℕ) → Keeps s gs (f gs at)) →
    (n : ℕ) (gs : Glyphs) → Keeps s gs (applied_backward n f gs)
unfolding applied_backward
walk_back_keeps s f h zero gs = unchanged s gs
walk_back_keeps s f h (suc n) gs = keeps_then s gs (f gs n) _ (h gs n) (walk_back_keeps s f h n (f gs n))

pub applied_keeps : (s : Setting) (gs : Glyphs) (r : LookupRecord) → Keeps s gs (applied s gs r).text
unfolding applied
applied_keeps s gs r = let lookup = lookup_in s.gsub s.lookup.index in
    if_walked s gs _ _ (type_in 7 lookup 0 == 8)
    (walk_back_keeps s (lookup_stepped_back s lookup) (back_keeps s lookup) (length gs) gs)
    (walk_keeps s (lookup_stepped s lookup) (step_keeps s lookup) (length gs) gs 0 r)

-- ---- of a buffer

pub glyphs_keep : (gdef gsub : List ℕ) (use_of : LookupUse) (b : Buffer) →
    KeepsTextClusters b.level b.glyphs (substituted gdef gsub use_of b).glyphs
unfolding substituted
glyphs_keep gdef gsub use_of b = (applied_keeps (setting_for gdef gsub use_of b) b.glyphs b.lookups).kept

pub others_keep : (gdef gsub : List ℕ) (use_of : LookupUse) (b : Buffer) →
    (let new = substituted gdef gsub use_of b in new ≡ record b { glyphs = new.glyphs; lookups = new.lookups })
unfolding substituted
others_keep gdef gsub use_of b = refl

pub applied_fits : (gdef gsub : List ℕ) (use_of : LookupUse) (b : Buffer) → length b.glyphs ≤ b.max_len →
    length (applied (setting_for gdef gsub use_of b) b.glyphs b.lookups).text ≤ b.max_len
applied_fits gdef gsub use_of b fits =
    (applied_keeps (setting_for gdef gsub use_of b) b.glyphs b.lookups).few b.max_len fits (omega arith)

pub fits_by : (gdef gsub : List ℕ) (use_of : LookupUse) (b : Buffer) (it : Along) → length b.glyphs ≤ b.max_len →
    it ≡ applied (setting_for gdef gsub use_of b) b.glyphs b.lookups → length it.text ≤ b.max_len
fits_by gdef gsub use_of b it fits is = subst (λ (x : Along). length x.text ≤ b.max_len) (sym is) (applied_fits gdef gsub use_of b fits)

-- what isn't too long is refused for memory alone
pub memory_alone : {T : Type 0} (r : Result T ShaperError) (limit wanted : ℕ) → RefusesLength limit wanted r → wanted ≤ limit →
    IsOkUnless r Memory
memory_alone (Ok _) limit wanted refuses fits = search
memory_alone (Err Memory) limit wanted refuses fits = search
memory_alone (Err TooLong) limit wanted refuses fits = absurd (omega arith)
memory_alone _ limit wanted refuses fits = absurd refuses

limited : (len max_len : ℕ) → 1 ≤ len → limit_in len max_len ≤ len * 65536
limited len max_len some = omega arith

few_text : (it : Along) (test : Bool) → length (if test then it else it).text ≤ length it.text
few_text it true = omega arith
few_text it false = omega arith

grown_by : (s : Setting) (gs : Glyphs) (r : LookupRecord) (max_len : ℕ) → s.limit ≡ limit_in (length gs) max_len →
    length (applied s gs r).text ≤ length gs * 65536
unfolding applied lookup_applied applied_backward
grown_by s [] r max_len is = few_text (record { text = []; lookups = r }) (type_in 7 (lookup_in s.gsub s.lookup.index) 0 == 8)
grown_by s (g ∷ gs) r max_len is =
    let few : s.limit ≤ length (g ∷ gs) * 65536 = omega (arith, is, limited (length (g ∷ gs)) max_len (omega arith)) in
    (applied_keeps s (g ∷ gs) r).few (length (g ∷ gs) * 65536) (omega arith) few

pub glyphs_grow : (gdef gsub : List ℕ) (use_of : LookupUse) (b : Buffer) →
    length (substituted gdef gsub use_of b).glyphs ≤ length b.glyphs * 65536
unfolding substituted
glyphs_grow gdef gsub use_of b = grown_by (setting_for gdef gsub use_of b) b.glyphs b.lookups b.max_len refl
