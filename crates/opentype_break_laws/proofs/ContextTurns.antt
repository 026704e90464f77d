-- What a rule of contexts makes of a text, whose lookups put one glyph for one.
use Rattle.std.proofs.Common.{ℕ, zero, suc, ◌+◌, ◌-◌, ◌*◌, ◌^◌, ◌%◌, ◌<◌, ◌≤◌, ◌≡◌, ◌==◌, ◌||◌, ◌⊎◌, inr, min, nat_le, nat_lt, bit_and, slice_index, if◌then◌else◌, Bool, true, false, List, [], ◌∷◌, ◌++◌, length, map, take, drop, set, Option, None, Some, option_map, refl, sym, ap, subst, ◌∙◌, arith}
use Rattle.std.specs.List.{AllByRecursion}
use Rattle.std.proofs.lemmas.Bool.Decides.{nat_tests}
use Rattle.std.proofs.lemmas.List.{append-nil, drop-map, length-set, set-get_or, take-append-drop, take_all}
use Rattle.shapers_buffer.specs.Glyph.{default_glyph}
use Rattle.shapers_buffer.specs.Glyphs.{Glyph, Glyphs}
use Rattle.shapers_buffer.specs.declared.buffer.lookup_record.LookupRecord.{LookupRecord}
use Rattle.opentype_face.specs.Bytes.{u16_in}
use Rattle.opentype_face.specs.Firsts.{first_from}
use Rattle.opentype_face.specs.Lookups.{operations_in, subtable_in, subtables_in, type_in}
use Rattle.opentype_layout.specs.Rules.{Found, context_in}
use Rattle.opentype_layout.specs.Sight.{sight_of_context, sight_of_input}
use Rattle.opentype_layout.specs.Text.{glyph_at}
use Rattle.opentype_gsub.specs.Applied.{PlaceChange}
use Rattle.opentype_gsub.specs.Came.{Begun, Frame, begun, begun_frame, came_in, nth_came}
use Rattle.opentype_gsub.specs.Edits.{replaced}
use Rattle.opentype_gsub.specs.Flagged.{unbroken}
use Rattle.opentype_gsub.specs.Looked.{tried}
use Rattle.opentype_gsub.specs.Machine.{AfterCall, MachineStep, Nested, called_by, capped, charged, climbing, ended, frame_shifted, goes_on_with, lookup_called, machine_stepped, place_moved, places_shifted, ran, started, step_pushed, turn_operations, turned, undone, with_left}
use Rattle.opentype_gsub.specs.Setting.{Setting, sights_of, sights_within}
use Rattle.opentype_gsub.specs.declared.pass.LookupUse.{LookupUse}
use Rattle.opentype_gsub.specs.declared.pass.Sights.{Sights}
use Rattle.opentype_gsub.proofs.Machines.{came_is, turn_paid}
use Rattle.opentype_break_laws.specs.Contexts.{context_fit, lookup_named, rule_operations}
use Rattle.opentype_break_laws.specs.OneForOne.{PutOneForOne}
use Rattle.opentype_break_laws.proofs.ByGlyph.{as_change, comes, first_mapped, found_by, put_if, still_tried, value_by}

-- ---- PLACES STAY where no glyph comes or goes

abbrev pub AreSmall : List ℕ → Type 0
AreSmall ps = AllByRecursion (λ q. q < 2 ^ 64) ps

each_still : (xs : List ℕ) → AreSmall xs → map (place_moved 0 0) xs ≡ xs
each_still [] all = refl
each_still (x ∷ xs) all =
    let e : place_moved 0 0 x ≡ x = omega (arith, all.0) in
    ap (λ (y : ℕ). y ∷ map (place_moved 0 0) xs) e ∙ ap (λ (ys : List ℕ). x ∷ ys) (each_still xs all.1)

none_shifted : (sequence : ℕ) (places : List ℕ) → length places ≤ 64 → AreSmall places
    → places_shifted sequence 0 0 places ≡ places
unfolding places_shifted climbing
none_shifted sequence places few small =
    let s = capped (sequence + 1) in
    let e : capped (s + 0) ≡ s = omega arith in
    let back = sym (drop-map (place_moved 0 0) s places) ∙ ap (drop s) (each_still places small) in
    ap (λ n. take 64 ((take s places ++ []) ++ map (place_moved 0 0) (drop n places))) e
    ∙ ap (λ (t : List ℕ). take 64 ((take s places ++ []) ++ t)) back
    ∙ ap (λ (t : List ℕ). take 64 (t ++ drop s places)) (append-nil (take s places))
    ∙ ap (take 64) (take-append-drop s places) ∙ take_all 64 places few

-- a rule that fits, whose lookups up to one are applied
abbrev pub frame_at : Found → ℕ → ℕ → ℕ → Frame
frame_at m k sequence before = record {
  records = m.records;
  count = m.count;
  next = k;
  places = m.places;
  end = m.end;
  sequence = sequence;
  before = before;
}

-- it has few and small places
pub record HasFewPlaces (m : Found) : Type 0 where
  pub few : length m.places ≤ 64
  pub small : AreSmall m.places
  pub ends : m.end < 2 ^ 64

frame_kept : (len : ℕ) (m : Found) (k sequence : ℕ) → HasFewPlaces m
    → frame_shifted len (frame_at m k sequence len) ≡ frame_at m k sequence len
unfolding frame_shifted
frame_kept len m k sequence has =
    let added : len - len ≡ 0 = omega arith in
    let removed : min 0 (m.end - slice_index m.places sequence) ≡ 0 = omega arith in
    let many : nat_lt 64 (length m.places + 0) ≡ false = grind (arith, nat_tests, has.few) in
    let ends : place_moved 0 0 m.end ≡ m.end = omega (arith, has.ends) in
    let made : ℕ → List ℕ → ℕ → Frame = λ next places end. record {
      records = m.records;
      count = m.count;
      next = next;
      places = places;
      end = end;
      sequence = sequence;
      before = len;
    } in
    let by : Bool → ℕ → ℕ → Frame = λ b a d. (if b then made m.count m.places (place_moved a d m.end)
    else made k (places_shifted sequence a d m.places) (place_moved a d m.end)) in
    ap (λ n. by (nat_lt 64 (length m.places + n)) n (min n (m.end - slice_index m.places sequence))) added
    ∙ ap (by (nat_lt 64 (length m.places + 0)) 0) removed ∙ ap (λ b. by b 0 0) many
    ∙ ap (λ l. made k l (place_moved 0 0 m.end)) (none_shifted sequence m.places has.few has.small)
    ∙ ap (made k m.places) ends

-- ---- ONE LOOKUP OF A RULE

-- a glyph as such a lookup leaves it, whether its features are the lookup's or not
abbrev pub applied_to : List ℕ → LookupUse → List ℕ → Glyph → Glyph
applied_to gdef use_of table g = put_if gdef true
    (found_by table (g.glyph_id % 65536) (value_by use_of.mask (bit_and g.mask use_of.mask))) g

-- a text after the lookup of one record
abbrev pub record_applied : List ℕ → List ℕ → LookupUse → List ℕ → List ℕ → ℕ → Glyphs → Glyphs
record_applied gdef gsub use_of records places k gs =
    let place = slice_index places (u16_in records (k * 4)) in
    if nat_lt (u16_in records (k * 4)) (length places)
    then set gs place (applied_to gdef use_of (lookup_named gsub records k) (glyph_at gs place)) else gs

-- and after those of so many, from one on
unfoldable pub rule_applied : List ℕ → List ℕ → LookupUse → List ℕ → List ℕ → ℕ → ℕ → Glyphs → Glyphs
rule_applied gdef gsub use_of records places zero k gs = gs
rule_applied gdef gsub use_of records places (suc n) k gs =
    rule_applied gdef gsub use_of records places n (k + 1) (record_applied gdef gsub use_of records places k gs)

pub all_at : (P : ℕ → Type 0) (xs : List ℕ) (i : ℕ) → AllByRecursion P xs → i < length xs → P (slice_index xs i)
all_at P [] i all lt = absurd (omega (arith, lt))
all_at P (x ∷ xs) zero all lt = all.0
all_at P (x ∷ xs) (suc i) all lt = all_at P xs i all.1 (omega (arith, lt))

abbrev after_call : Glyphs → LookupRecord → Frame → AfterCall
after_call gs r f = record { text = gs; lookups = r; frame = f; inner = None }

called_found : (s : Setting) (gs : Glyphs) (r : LookupRecord) (m : Found) (k sequence place : ℕ) (o : Option ℕ)
    → HasFewPlaces m
    → called_by gs r (frame_at m k sequence (length gs)) (option_map (as_change s place gs r) o)
    ≡ after_call (set gs place (put_if s.gdef true o (glyph_at gs place))) r (frame_at m k sequence (length gs))
called_found s gs r m k sequence place None has =
    ap (λ x. after_call x r (frame_at m k sequence (length gs))) (sym (set-get_or gs place default_glyph))
called_found s gs r m k sequence place (Some to) has =
    let put = set gs place (replaced s.gdef to 0 (glyph_at gs place)) in
    ap (λ n. after_call put r (frame_shifted n (frame_at m k sequence (length gs)))) (length-set gs place (replaced
    s.gdef to 0 (glyph_at gs place)))
    ∙ ap (after_call put r) (frame_kept (length gs) m k sequence has)

called_at : (s : Setting) (gs : Glyphs) (r : LookupRecord) (m : Found) (k sequence place : ℕ) (table : List ℕ)
    → HasFewPlaces m
    → PutOneForOne s.lookup.random table → place < length gs
    → called_by (tried s table gs place) r (frame_at m k sequence (length gs)) (came_in s table (tried s table gs
    place) place r)
    ≡ after_call (set gs place (applied_to s.gdef s.lookup table (glyph_at gs place))) r (frame_at m k sequence (length
    gs))
called_at s gs r m k sequence place table has all lt =
    let g = glyph_at gs place in
    let f = frame_at m k sequence (length gs) in
    ap (λ x. called_by x r f (came_in s table x place r)) (still_tried s table gs place all)
    ∙ ap (called_by gs r f) (comes s table gs place r all lt)
    ∙ called_found s gs r m k sequence place
    (found_by table (g.glyph_id % 65536) (value_by s.lookup.mask (bit_and g.mask s.lookup.mask))) has

abbrev record_by : List ℕ → LookupUse → List ℕ → ℕ → Glyphs → Bool → Glyphs
record_by gdef use_of table place gs b = if b then set gs place (applied_to gdef use_of table (glyph_at gs place)) else
    gs

call_if : (b : Bool) (x y z : AfterCall) → (b ≡ true → x ≡ z) → (b ≡ false → y ≡ z) → (if b then x else y) ≡ z
call_if true x y z one two = one refl
call_if false x y z one two = two refl

-- what a lookup that a rule calls makes of a text
call_is : (s : Setting) (gs : Glyphs) (r : LookupRecord) (m : Found) (k sequence before : ℕ) → HasFewPlaces m
    → AllByRecursion (λ q. q < length gs) m.places → PutOneForOne s.lookup.random (lookup_named s.gsub m.records k)
    → (let inside = nat_lt (u16_in m.records (k * 4)) (length m.places) in
    lookup_called s gs r (frame_at m k sequence before)
    ≡ after_call (record_applied s.gdef s.gsub s.lookup m.records m.places k gs) r (frame_at m (k + 1)
    (if inside then u16_in m.records (k * 4) else sequence) (if inside then length gs else before)))
unfolding lookup_called
call_is s gs r m k sequence before has within puts =
    let called = u16_in m.records (k * 4) in
    let table = lookup_named s.gsub m.records k in
    let place = slice_index m.places called in
    let made : Bool → AfterCall = λ b. after_call (record_by s.gdef s.lookup table place gs b) r
    (frame_at m (k + 1) (if b then called else sequence) (if b then length gs else before)) in
    call_if (nat_lt called (length m.places)) _ _ (made (nat_lt called (length m.places)))
    (λ t. (let lt : called < length m.places = grind (arith, nat_tests, t) in
    called_at s gs r m (k + 1) called place table has puts (all_at (λ q. q < length gs) m.places called within lt)
    ∙ ap made (sym t)))
    (λ t. ap made (sym t))

-- ---- ALL LOOKUPS OF A RULE

one_turn : (step : Glyphs → LookupRecord → List Frame → MachineStep) (n : ℕ) (gs : Glyphs) (r : LookupRecord) (fs :
    List Frame)
    (t : MachineStep) → step gs r fs ≡ t → ran (suc n) step gs r fs ≡ goes_on_with (ran n step) t t.end
unfolding ran
one_turn step n gs r fs t e = ap (λ (x : MachineStep). goes_on_with (ran n step) x x.end) e

paid : (n : ℕ) (r : LookupRecord) → n ≤ r.operations_left → charged n r ≡ with_left (r.operations_left - n) r
paid n r le =
    let t : nat_le n r.operations_left ≡ true = grind (arith, nat_tests, le) in
    ap (λ b. if b then with_left (r.operations_left - n) r else undone r) t

step_by : (b : Bool) (x y : MachineStep) → b ≡ true → (if b then x else y) ≡ x
step_by b x y t = ap (λ c. if c then x else y) t

step_other : (b : Bool) (x y : MachineStep) → b ≡ false → (if b then x else y) ≡ y
step_other b x y t = ap (λ c. if c then x else y) t

-- a rule's end
last_turn : (s : Setting) (gs : Glyphs) (r : LookupRecord) (m : Found) (k sequence before : ℕ) → k ≡ m.count
    → 1 ≤ r.operations_left
    → machine_stepped s gs r (frame_at m k sequence before ∷ [])
    ≡ record { text = gs; lookups = with_left (r.operations_left - 1) r; stack = []; end = Some (Some m.end) }
unfolding turned
last_turn s gs r m k sequence before is le =
    let f = frame_at m k sequence before in
    let over : nat_lt k m.count ≡ false = grind (arith, nat_tests, is) in
    let takes : turn_operations s f ≡ 1 = ap (λ b. if b then operations_in (lookup_named s.gsub m.records k) else 1)
    over in
    let enough : nat_le (turn_operations s f) r.operations_left ≡ true = ap (λ n. nat_le n r.operations_left) takes
    ∙ grind (arith, nat_tests, le) in
    let left = charged (turn_operations s f) r in
    let left_is : left ≡ with_left (r.operations_left - 1) r = ap (λ n. charged n r) takes ∙ paid 1 r le in
    let end_with : LookupRecord → MachineStep = λ q. record {
      text = gs;
      lookups = q;
      stack = [];
      end = Some (Some
          m.end);
    } in
    turn_paid s gs r left f [] (end_with left) (nat_le (turn_operations s f) r.operations_left) refl enough refl
    (step_other (nat_lt k m.count) (step_pushed (lookup_called s gs left f) []) (ended gs left f []) over)
    ∙ ap end_with left_is

next_turn : (s : Setting) (gs : Glyphs) (r : LookupRecord) (m : Found) (k sequence before : ℕ) → HasFewPlaces m
    → k < m.count
    → AllByRecursion (λ q. q < length gs) m.places → PutOneForOne s.lookup.random (lookup_named s.gsub m.records k)
    → operations_in (lookup_named s.gsub m.records k) ≤ r.operations_left
    → (let inside = nat_lt (u16_in m.records (k * 4)) (length m.places) in
    machine_stepped s gs r (frame_at m k sequence before ∷ []) ≡ record {
      text = record_applied s.gdef s.gsub s.lookup m.records m.places k gs;
      lookups = with_left (r.operations_left - operations_in (lookup_named s.gsub m.records k)) r;
      stack = frame_at m (k + 1) (if inside then u16_in m.records (k * 4) else sequence) (if inside then length gs else
          before) ∷ [];
      end = None;
    })
unfolding turned
next_turn s gs r m k sequence before has lt within puts le =
    let f = frame_at m k sequence before in
    let n = operations_in (lookup_named s.gsub m.records k) in
    let some : nat_lt k m.count ≡ true = grind (arith, nat_tests, lt) in
    let takes : turn_operations s f ≡ n = ap (λ b. if b then n else 1) some in
    let enough : nat_le (turn_operations s f) r.operations_left ≡ true = ap (λ x. nat_le x r.operations_left) takes
    ∙ grind (arith, nat_tests, le) in
    let left = charged (turn_operations s f) r in
    let left_is : left ≡ with_left (r.operations_left - n) r = ap (λ x. charged x r) takes ∙ paid n r le in
    let inside = nat_lt (u16_in m.records (k * 4)) (length m.places) in
    let go_with : LookupRecord → MachineStep = λ q. step_pushed (after_call (record_applied s.gdef s.gsub s.lookup
    m.records m.places k gs) q
    (frame_at m (k + 1) (if inside then u16_in m.records (k * 4) else sequence) (if inside then length gs else
    before))) [] in
    turn_paid s gs r left f [] (go_with left) (nat_le (turn_operations s f) r.operations_left) refl enough refl
    (step_by (nat_lt k m.count) (step_pushed (lookup_called s gs left f) []) (ended gs left f []) some
    ∙ ap (λ c. step_pushed c []) (call_is s gs left m k sequence before has within puts)) ∙ ap go_with left_is

long_if : (b : Bool) (gs : Glyphs) (place : ℕ) (g : Glyph) → length (if b then set gs place g else gs) ≡ length gs
long_if true gs place g = length-set gs place g
long_if false gs place g = refl

pub record_long : (gdef gsub : List ℕ) (use_of : LookupUse) (records places : List ℕ) (k : ℕ) (gs : Glyphs)
    → length (record_applied gdef gsub use_of records places k gs) ≡ length gs
record_long gdef gsub use_of records places k gs =
    long_if (nat_lt (u16_in records (k * 4)) (length places)) gs (slice_index places (u16_in records (k * 4))) _

none_left : (s : Setting) (m : Found) (k : ℕ) (gs : Glyphs)
    → rule_applied s.gdef s.gsub s.lookup m.records m.places 0 k gs ≡ gs
unfolding rule_applied
none_left s m k gs = refl

one_more : (s : Setting) (m : Found) (n k : ℕ) (gs : Glyphs) → rule_applied s.gdef s.gsub s.lookup m.records m.places
    (suc n) k gs
    ≡ rule_applied s.gdef s.gsub s.lookup m.records m.places n (k + 1) (record_applied s.gdef s.gsub s.lookup m.records
    m.places k gs)
unfolding rule_applied
one_more s m n k gs = refl

abbrev pub ends_so : Setting → Found → ℕ → ℕ → Glyphs → LookupRecord → Nested
ends_so s m n k gs r = record {
  text = rule_applied s.gdef s.gsub s.lookup m.records m.places n k gs;
  end = Some m.end;
  lookups = with_left (r.operations_left - rule_operations s.gsub m.records n k) r;
}

rule_ran : (s : Setting) (m : Found) → HasFewPlaces m
    → ((k : ℕ) → k < m.count → PutOneForOne s.lookup.random (lookup_named s.gsub m.records k))
    → (n turns k sequence before : ℕ) (gs : Glyphs) (r : LookupRecord) → k + n ≡ m.count
    → AllByRecursion (λ q. q < length gs) m.places → rule_operations s.gsub m.records n k ≤ r.operations_left
    → r.operations_left ≤ turns
    → ran turns (machine_stepped s) gs r (frame_at m k sequence before ∷ []) ≡ ends_so s m n k gs r
rule_ran s m has puts zero zero k sequence before gs r is within le few = absurd (omega (arith, le, few))
rule_ran s m has puts zero (suc turns) k sequence before gs r is within le few =
    let last : k ≡ m.count = omega (arith, is) in
    let with_text : Glyphs → Nested = λ x. record {
      text = x;
      end = Some m.end;
      lookups = with_left (r.operations_left
          - 1) r;
    } in
    one_turn (machine_stepped s) turns gs r (frame_at m k sequence before ∷ []) _
    (last_turn s gs r m k sequence before last (omega (arith, le))) ∙ ap with_text (sym (none_left s m k gs))
rule_ran s m has puts (suc n) zero k sequence before gs r is within le few =
    absurd (omega (arith, le, few))
rule_ran s m has puts (suc n) (suc turns) k sequence before gs r is within le few =
    let lt : k < m.count = omega (arith, is) in
    let cost = operations_in (lookup_named s.gsub m.records k) in
    let rest = rule_operations s.gsub m.records n (k + 1) in
    let made = record_applied s.gdef s.gsub s.lookup m.records m.places k gs in
    let long : length gs ≡ length made = sym (record_long s.gdef s.gsub s.lookup m.records m.places k gs) in
    let inside = nat_lt (u16_in m.records (k * 4)) (length m.places) in
    let on : k + 1 + n ≡ m.count = omega (arith, is) in
    let left : r.operations_left - cost - rest ≡ r.operations_left - (cost + rest) = omega arith in
    let ended_with : Glyphs → ℕ → Nested = λ x left. record { text = x; end = Some m.end; lookups = with_left left r }
    in
    one_turn (machine_stepped s) turns gs r (frame_at m k sequence before ∷ []) _
    (next_turn s gs r m k sequence before has lt within (puts k lt) (omega (arith, le)))
    ∙ rule_ran s m has puts n turns (k + 1) (if inside then u16_in m.records (k * 4) else sequence)
    (if inside then length gs else before) made (with_left (r.operations_left - cost) r) on
    (subst (λ size. AllByRecursion (λ q. q < size) m.places) long within) (omega (arith, le)) (omega (arith, le, few))
    ∙ ap (λ x. ended_with x (r.operations_left - cost - rest)) (sym (one_more s m n k gs))
    ∙ ap (ended_with (rule_applied s.gdef s.gsub s.lookup m.records m.places (suc n) k gs)) left

-- ---- WHAT A LOOKUP OF CONTEXTS COMES TO

-- the text with the rule that fits, of no break inside what it looked at
abbrev pub as_begun : Glyphs → Found → PlaceChange ⊎ Begun
as_begun gs m = inr (record { text = unbroken (length gs) m.start m.stop gs; frame = begun_frame (length gs) m })

begun_same : (s : Setting) (chained : Bool) (gs : Glyphs) (m : Found) → s.len ≡ length gs
    → begun s chained gs m ≡ record { text = unbroken (length gs) m.start m.stop gs; frame = begun_frame (length gs) m }
unfolding begun
begun_same s true gs m is =
    let made : ℕ → Begun = λ n. record { text = unbroken n m.start m.stop gs; frame = begun_frame (length gs) m } in ap
    made is
begun_same s false gs m is = refl

mapped_same : {X Y : Type 0} (f h : X → Y) (o : Option X) → ((x : X) → f x ≡ h x) → option_map f o ≡ option_map h o
mapped_same f h None same = refl
mapped_same f h (Some x) same = ap Some (same x)

came_if : {X : Type 0} (b : Bool) (x y : Option X) → b ≡ true → (if b then x else y) ≡ x
came_if true x y e = refl
came_if false x y e = absurd (cc)

nth_context : (s : Setting) (sights : Sights) (table : List ℕ) (gs : Glyphs) (at : ℕ) (r : LookupRecord) (i : ℕ)
    → s.len ≡ length gs
    → ((type_in 7 table i == 5) || (type_in 7 table i == 6)) ≡ true → nth_came s sights table at gs r i
    ≡ option_map (as_begun gs) (context_in (type_in 7 table i == 6) s.gdef sights.input sights.context (subtable_in 7
    table i) gs at)
unfolding nth_came
nth_context s sights table gs at r i is kind =
    let chained = type_in 7 table i == 6 in
    let found = context_in chained s.gdef sights.input sights.context (subtable_in 7 table i) gs at in
    came_if ((type_in 7 table i == 5) || chained) _ _ kind
    ∙ mapped_same (λ m. inr (begun s chained gs m)) (as_begun gs) found (λ m. ap inr (begun_same s chained gs m is))

sights_here : (gdef : List ℕ) (use_of : LookupUse) (table : List ℕ) (g : Glyph) → use_of.per_syllable ≡ false
    → sights_of gdef use_of table g ≡ sights_within gdef use_of table 0
unfolding sights_of sights_within sight_of_input sight_of_context
sights_here gdef use_of table g e = rw e refl

pub comes_context : (s : Setting) (table : List ℕ) (gs : Glyphs) (at : ℕ) (r : LookupRecord) → s.len ≡ length gs
    → s.lookup.per_syllable ≡ false
    → ((i : ℕ) → i < subtables_in table → ((type_in 7 table i == 5) || (type_in 7 table i == 6)) ≡ true)
    → at < length gs
    → came_in s table gs at r
    ≡ option_map (as_begun gs) (context_fit s.gdef (sights_within s.gdef s.lookup table 0) table gs at)
unfolding context_fit
comes_context s table gs at r is across types lt =
    let sights = sights_of s.gdef s.lookup table (glyph_at gs at) in
    let fit : Sights → Option Found = λ x. first_from (subtables_in table) (λ i.
    context_in (type_in 7 table i == 6) s.gdef x.input x.context (subtable_in 7 table i) gs at) 0 in
    sym (came_is s table gs at r sights lt refl)
    ∙ first_mapped (as_begun gs) (λ i. context_in (type_in 7 table i == 6) s.gdef sights.input sights.context
    (subtable_in 7 table i) gs at)
    (nth_came s sights table at gs r) (subtables_in table) 0
    (λ d less. nth_context s sights table gs at r (0 + d) is (types (0 + d) (omega (arith, less))))
    ∙ ap (λ x. option_map (as_begun gs) (fit x)) (sights_here s.gdef s.lookup table (glyph_at gs at) across)

-- what the lookup makes of a text that is tried, by the rule that fits
abbrev pub nested_by : Setting → Glyphs → LookupRecord → Option Found → Nested
nested_by s gs r None = record { text = gs; end = None; lookups = r }
nested_by s gs r (Some m) = ends_so s m m.count 0 (unbroken (length gs) m.start m.stop gs) r

-- a rule that fits can be applied
pub record CanApply (s : Setting) (gs : Glyphs) (r : LookupRecord) (m : Found) : Type 0 where
  pub few : HasFewPlaces m
  pub within : AllByRecursion (λ q. q < length gs) m.places
  pub puts : (k : ℕ) → k < m.count → PutOneForOne s.lookup.random (lookup_named s.gsub m.records k)
  pub operations : rule_operations s.gsub m.records m.count 0 ≤ r.operations_left

pub started_is : (s : Setting) (gs : Glyphs) (r : LookupRecord) (o : Option Found) → ((m : Found) → o ≡ Some m
    → CanApply s gs r m)
    → ((m : Found) → length (unbroken (length gs) m.start m.stop gs) ≡ length gs)
    → started (machine_stepped s) gs r (option_map (as_begun gs) o) ≡ nested_by s gs r o
started_is s gs r None can long = refl
started_is s gs r (Some m) can long =
    let it = can m refl in
    let zero_on : 0 + m.count ≡ m.count = omega arith in
    rule_ran s m it.few it.puts m.count r.operations_left 0 0 (length gs) (unbroken (length gs) m.start m.stop gs) r
    zero_on
    (subst (λ size. AllByRecursion (λ q. q < size) m.places) (sym (long m)) it.within) it.operations (omega arith)
