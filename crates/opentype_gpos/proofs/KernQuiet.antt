-- The table `kern` leaves a text whose glyphs begin no pair of it.
use Rattle.std.proofs.Common.{ℕ, zero, suc, ◌+◌, ◌-◌, ◌%◌, ◌<◌, ◌≤◌, ◌≡◌, ◌==◌, bit_and, nat_lt, Bool, true, false, List, [], ◌∷◌, map, length, reverse, get_or, Option, None, Some, if◌then◌else◌, refl, sym, ap, subst, ◌∙◌, arith}
use Rattle.std.specs.List.{list_any}
use Rattle.std.proofs.Math.ListN.{get_or-map}
use Rattle.std.proofs.lemmas.Bool.Decides.{nat_tests}
use Rattle.std.proofs.lemmas.List.{get_or-reverse, length-map, length-reverse, reverse-reverse}
use Rattle.std.proofs.lemmas.List.Folds.{list_any_at}
use Rattle.shapers_buffer.specs.Buffer.{Buffer, asks, flags_concat}
use Rattle.shapers_buffer.specs.Glyph.{default_glyph}
use Rattle.shapers_buffer.specs.GlyphFlags.{unsafe_to_concat_in}
use Rattle.shapers_buffer.specs.Glyphs.{Glyphs}
use Rattle.shapers_buffer.specs.declared.buffer.level.Direction.{Direction}
use Rattle.shapers_clusters.proofs.FlagCalls.{map-unsafe_to_concat_in}
use Rattle.opentype_face.specs.Bytes.{table_at, u16_in}
use Rattle.opentype_layout.specs.Text.{glyph_at}
use Rattle.opentype_gpos.specs.Along.{applied_along}
use Rattle.opentype_gpos.specs.Finished.{is_backward, let_go}
use Rattle.opentype_gpos.specs.KernLefts.{AreLefts, AreQuiet, BeginsNone, IsQuiet, IsQuietIn, is_within}
use Rattle.opentype_gpos.specs.Kerned.{PlacedText, in_one_line, is_across, is_for, kern_sight, kern_stepped, kern_value, kerned, kerned_along, kerned_by, kerned_by_subtables, kerned_text, kerned_with, line_step}
use Rattle.opentype_gpos.specs.Moved.{Positions, Progress, is_vertical}
use Rattle.opentype_gpos.specs.Moves.{number_at}
use Rattle.opentype_gpos.specs.Nearby.{next_any, number_in}
use Rattle.opentype_gpos.specs.declared.kern_lefts.Lefts.{Lefts}

abbrev placed : Glyphs → Positions → PlacedText
placed gs ps = record { glyphs = gs; positions = ps }

-- ---- a step along a text

abbrev IsSame : Glyphs → Positions → Progress → Type 0
IsSame gs ps c = (c.glyphs ≡ gs) × (c.positions ≡ ps)

same_if : (test : Bool) (gs : Glyphs) (ps : Positions) (a b : Progress) → (test ≡ true → IsSame gs ps a) → IsSame gs ps b →
    IsSame gs ps (if test then a else b)
same_if true gs ps a b one two = one refl
same_if false gs ps a b one two = two

same_zero : (n : ℕ) (gs : Glyphs) (ps : Positions) (a b : Progress) → n ≡ 0 → IsSame gs ps a →
    IsSame gs ps (if n == 0 then a else b)
same_zero n gs ps a b e one = rw e one

below : (n : ℕ) → n % 65536 < 65536
below n = omega arith

with_same : (bytes : List ℕ) (v : Bool) (gs : Glyphs) (ps : Positions) (at : ℕ) (o : Option ℕ) →
    BeginsNone bytes (number_at gs at) → IsSame gs ps (kerned_with bytes v gs ps at o)
with_same bytes v gs ps at None quiet = (refl, refl)
with_same bytes v gs ps at (Some j) quiet = same_zero (kern_value bytes (number_at gs at) (number_at gs j)) gs ps _ _
    (quiet.none (number_at gs j) (below (glyph_at gs j).glyph_id)) (refl, refl)

step_same : (bytes : List ℕ) (mask : ℕ) (v : Bool) (gs : Glyphs) (ps : Positions) (at : ℕ) →
    BeginsNone bytes (number_at gs at) → IsSame gs ps (kern_stepped bytes mask v gs ps at)
unfolding kern_stepped
step_same bytes mask v gs ps at quiet = same_if (bit_and (glyph_at gs at).mask mask == 0) gs ps _ _ (λ t. (refl, refl))
    (with_same bytes v gs ps at (next_any [] (kern_sight mask) gs (at + 1)) quiet)

-- ---- and along it

same_from : (n : ℕ) (f : Glyphs → Positions → ℕ → Progress) (gs hs : Glyphs) (ps qs : Positions) (next : ℕ) → hs ≡ gs → qs ≡ ps →
    IsSame gs ps (applied_along n f gs ps next) → IsSame gs ps (applied_along n f hs qs next)
same_from n f gs hs ps qs next e g h = rw (e, g) h

along_same : (n : ℕ) (f : Glyphs → Positions → ℕ → Progress) (gs : Glyphs) (ps : Positions) →
    ((at : ℕ) → at < length gs → IsSame gs ps (f gs ps at)) → (at : ℕ) → IsSame gs ps (applied_along n f gs ps at)
unfolding applied_along
along_same zero f gs ps each at = (refl, refl)
along_same (suc n) f gs ps each at = same_if (nat_lt at (length gs)) gs ps _ _
    (λ t. (let s = each at (grind (arith, nat_tests, t)) in
    same_from n f gs (f gs ps at).glyphs ps (f gs ps at).positions (f gs ps at).next s.0 s.1
    (along_same n f gs ps each (f gs ps at).next)))
    (refl, refl)

-- ---- by a subtable

abbrev BeginNone : List ℕ → Glyphs → Type 0
BeginNone bytes gs = (i : ℕ) → i < length gs → BeginsNone bytes (number_at gs i)

left_if : {X : Type 0} (test : Bool) (x y : X) → (test ≡ true → x ≡ y) → (if test then x else y) ≡ y
left_if true x y h = h refl
left_if false x y h = refl

-- no glyphs have no line
no_line : (step : ℕ) → in_one_line step [] ≡ []
unfolding in_one_line let_go
no_line step = refl

line_left : (bytes : List ℕ) (step : ℕ) (gs : Glyphs) (ps : Positions) → length ps ≡ length gs → BeginNone bytes gs →
    (if is_across bytes then in_one_line step ps else ps) ≡ ps
line_left bytes step gs [] paired quiet = left_if (is_across bytes) (in_one_line step []) [] (λ across. no_line step)
line_left bytes step gs (p ∷ ps) paired quiet = left_if (is_across bytes) (in_one_line step (p ∷ ps)) (p ∷ ps)
    (λ across. (let flat : is_across bytes ≡ false = (quiet 0 (omega (arith, paired))).in_line in absurd (cc)))

along_left : (bytes : List ℕ) (mask : ℕ) (d : Direction) (t : PlacedText) → length t.positions ≡ length t.glyphs →
    BeginNone bytes t.glyphs → kerned_along bytes mask d t ≡ t
unfolding kerned_along
along_left bytes mask d t paired quiet =
    let f : Glyphs → Positions → ℕ → Progress = kern_stepped bytes mask (is_vertical d) in
    let walked : Positions → PlacedText = λ ps. (let end = applied_along (length t.glyphs) f t.glyphs ps 0 in
    placed end.glyphs end.positions) in
    let s = along_same (length t.glyphs) f t.glyphs t.positions
    (λ at lt. step_same bytes mask (is_vertical d) t.glyphs t.positions at (quiet at lt)) 0 in
    ap walked (line_left bytes (line_step d) t.glyphs t.positions paired quiet)
    ∙ ap (λ gs. placed gs (applied_along (length t.glyphs) f t.glyphs t.positions 0).positions) s.0
    ∙ ap (placed t.glyphs) s.1

by_left : (mask : ℕ) (d : Direction) (bytes : List ℕ) (t : PlacedText) → length t.positions ≡ length t.glyphs →
    BeginNone bytes t.glyphs → kerned_by mask d bytes t ≡ t
unfolding kerned_by
by_left mask d bytes t paired quiet = left_if (is_for d bytes) _ t (λ fits. along_left bytes mask d t paired quiet)

-- ---- by one after another

ends_if : (short : Bool) (t u : PlacedText) → (short ≡ false → u ≡ t) → (if short then t else u) ≡ t
ends_if true t u e = refl
ends_if false t u e = e refl

abbrev AreQuietIn : ℕ → List ℕ → Glyphs → Type 0
AreQuietIn n bytes gs = (i : ℕ) → i < length gs → IsQuietIn n bytes (number_at gs i)

turns_left : (n : ℕ) (each : List ℕ → PlacedText → PlacedText) (t : PlacedText) →
    ((bytes : List ℕ) → BeginNone bytes t.glyphs → each bytes t ≡ t) → (bytes : List ℕ) → AreQuietIn n bytes t.glyphs →
    kerned_by_subtables n each bytes t ≡ t
unfolding kerned_by_subtables
turns_left zero each t left bytes quiet = refl
turns_left (suc n) each t left bytes quiet = ends_if (nat_lt (u16_in bytes 2) 6) t _
    (λ long. (let le : 6 ≤ u16_in bytes 2 = grind (arith, nat_tests, long) in
    ap (kerned_by_subtables n each (table_at bytes (u16_in bytes 2))) (left bytes (λ i lt. (quiet i lt le).0))
    ∙ turns_left n each t left (table_at bytes (u16_in bytes 2)) (λ i lt. (quiet i lt le).1)))

-- ---- a text that is turned around, and back

abbrev turned_if : Bool → PlacedText → PlacedText
turned_if b t = if b then placed (reverse t.glyphs) (reverse t.positions) else t

quiet_turned : (n : ℕ) (bytes : List ℕ) (gs : Glyphs) → AreQuietIn n bytes gs → AreQuietIn n bytes (reverse gs)
quiet_turned n bytes gs quiet i lt =
    let within : i < length gs = omega (arith, lt, length-reverse gs) in
    subst (λ g. IsQuietIn n bytes (number_in g)) (sym (get_or-reverse gs i default_glyph within))
    (quiet (length gs - 1 - i) (omega arith))

turned_left : (b : Bool) (n : ℕ) (bytes : List ℕ) (f : PlacedText → PlacedText) (t : PlacedText) →
    ((u : PlacedText) → length u.positions ≡ length u.glyphs → AreQuietIn n bytes u.glyphs → f u ≡ u) →
    length t.positions ≡ length t.glyphs → AreQuietIn n bytes t.glyphs → turned_if b (f (turned_if b t)) ≡ t
turned_left true n bytes f t left paired quiet =
    let u : PlacedText = placed (reverse t.glyphs) (reverse t.positions) in
    let h : f u ≡ u = left u (length-reverse t.positions ∙ paired ∙ sym (length-reverse t.glyphs))
    (quiet_turned n bytes t.glyphs quiet) in
    ap (turned_if true) h ∙ ap (λ gs. placed gs (reverse (reverse t.positions))) (reverse-reverse t.glyphs)
    ∙ ap (placed t.glyphs) (reverse-reverse t.positions)
turned_left false n bytes f t left paired quiet = left t paired quiet

-- ---- the table

pub text_left : (table : List ℕ) (mask : ℕ) (d : Direction) (t : PlacedText) → length t.positions ≡ length t.glyphs →
    AreQuiet table t.glyphs → kerned_text table mask d t ≡ t
unfolding kerned_text
text_left table mask d t paired quiet = left_if (u16_in table 0 == 0) _ t
    (λ version. turned_left (is_backward d) (u16_in table 2) (table_at table 4)
    (kerned_by_subtables (u16_in table 2) (kerned_by mask d) (table_at table 4)) t
    (λ u even none. turns_left (u16_in table 2) (kerned_by mask d) u (λ bytes h. by_left mask d bytes u even h)
    (table_at table 4) none) paired quiet)

-- ---- and a buffer, whose flags don't change the numbers of its glyphs

same_numbers : (asked : Bool) (gs : Glyphs) →
    map number_in (unsafe_to_concat_in asked 0 (length gs) gs) ≡ map number_in gs
same_numbers asked gs = map-unsafe_to_concat_in number_in (λ g. refl) asked 0 (length gs) gs (omega arith)

number_mapped : (gs hs : Glyphs) (i : ℕ) → map number_in gs ≡ map number_in hs → number_at gs i ≡ number_at hs i
number_mapped gs hs i e = sym (get_or-map number_in gs i default_glyph)
    ∙ ap (λ ns. get_or ns i (number_in default_glyph)) e ∙ get_or-map number_in hs i default_glyph

length_mapped : (gs hs : Glyphs) → map number_in gs ≡ map number_in hs → length gs ≡ length hs
length_mapped gs hs e = sym (length-map gs number_in) ∙ ap length e ∙ length-map hs number_in

quiet_alike : (table : List ℕ) (gs hs : Glyphs) → map number_in gs ≡ map number_in hs → AreQuiet table hs → AreQuiet table gs
quiet_alike table gs hs e quiet i lt = subst (IsQuiet table) (sym (number_mapped gs hs i e))
    (quiet i (subst (λ n. i < n) (length_mapped gs hs e) lt))

is_no : (test : Bool) → (test ≡ true → ⊥) → test ≡ false
is_no true h = absurd (h refl)
is_no false h = refl

none_within : (lefts : Lefts) (gs : Glyphs) (i : ℕ) → list_any (λ g. is_within lefts (number_in g)) gs ≡ false →
    i < length gs → is_within lefts (number_at gs i) ≡ false
none_within lefts gs i none lt = is_no (is_within lefts (number_at gs i)) (λ e.
    (let any = list_any_at (λ g. is_within lefts (number_in g)) gs i default_glyph lt e in cc))

buffer_left : (table : List ℕ) (mask : ℕ) (lefts : Lefts) (b : Buffer) → length b.positions ≡ length b.glyphs →
    AreLefts table lefts → list_any (λ g. is_within lefts (number_in g)) b.glyphs ≡ false →
    (let gs : Glyphs = unsafe_to_concat_in (asks flags_concat b) 0 (length b.glyphs) b.glyphs in
    let flagged : Buffer = record b { glyphs = gs } in flagged ≡ kerned table mask b)
unfolding kerned
buffer_left table mask lefts b paired are none =
    let gs : Glyphs = unsafe_to_concat_in (asks flags_concat b) 0 (length b.glyphs) b.glyphs in
    let e : map number_in gs ≡ map number_in b.glyphs = same_numbers (asks flags_concat b) b.glyphs in
    let put : PlacedText → Buffer = λ t. (let r : Buffer = record b { glyphs = t.glyphs; positions = t.positions } in r) in
    sym (ap put (text_left table mask b.direction (placed gs b.positions) (paired ∙ sym (length_mapped gs b.glyphs e))
    (quiet_alike table gs b.glyphs e (λ i lt. are (number_at b.glyphs i) (below (glyph_at b.glyphs i).glyph_id)
    (none_within lefts b.glyphs i none lt)))))

pub flagged_left : (inside table : List ℕ) (mask : ℕ) (lefts : Lefts) (b new : Buffer) (len : ℕ) → inside ≡ table →
    AreLefts inside lefts → length b.positions ≡ length b.glyphs →
    list_any (λ g. is_within lefts (number_in g)) b.glyphs ≡ false → len ≡ length b.glyphs →
    (let gs : Glyphs = unsafe_to_concat_in (asks flags_concat b) 0 len b.glyphs in
    let flagged : Buffer = record b { glyphs = gs } in new ≡ flagged) → new ≡ kerned table mask b
flagged_left inside table mask lefts b new len same are paired none n is =
    let flagged : ℕ → Buffer = λ k. (let r : Buffer = record b { glyphs = unsafe_to_concat_in (asks flags_concat b) 0 k b.glyphs } in r) in
    is ∙ ap flagged n ∙ buffer_left table mask lefts b paired (subst (λ t. AreLefts t lefts) same are) none
