-- The machine of nested lookups, as far as it has come.
use Rattle.std.proofs.Common.{ℕ, zero, suc, min, ◌+◌, ◌-◌, ◌<◌, ◌≤◌, ◌≡◌, ◌∙◌, List, [], ◌∷◌, ◌++◌, drop, take, map, length, get_or, reverse, Option, None, Some, refl, sym, ap, arith, append_assoc, length-append, Bool, true, false, ◌==◌}
use Rattle.std.proofs.Common.{◌⊎◌}
use Rattle.std.proofs.lemmas.Bool.Decides.{nat_tests}
use Rattle.std.proofs.lemmas.List.{append-nil, map-append, reverse-append, take_all, take_at}
use Rattle.shapers_buffer.specs.Glyphs.{Glyphs}
use Rattle.opentype_gsub.specs.Applied.{PlaceChange}
use Rattle.opentype_face.specs.Firsts.{first_from}
use Rattle.opentype_gsub.specs.Setting.{Setting, sights_of}
use Rattle.opentype_gsub.specs.declared.pass.Sights.{Sights}
use Rattle.std.specs.Prelude.{IfOk, Result, if◌then◌else◌}
use Rattle.std.proofs.Common.{subst}
use Rattle.shapers_buffer.specs.declared.buffer.refusal.ShaperError.{ShaperError}
use Rattle.opentype_layout.specs.Text.{glyph_at}
use Rattle.std.proofs.Common.{nat_le, nat_lt}
use Rattle.opentype_gsub.specs.Came.{Begun, came_in, nth_came, Frame, IsCome}
use Rattle.opentype_gsub.specs.Machine.{IsEnded, charged, lookup_called, deeper, ended, step_pushed, frame_shifted, machine_stepped, MachineStep, Nested, next_lookup, capped, climbing, goes_on_with, place_moved, ran, places_shifted, stack_left, turn_operations, turned, undone, waiting, waiting_frame}
use Rattle.opentype_gsub.specs.declared.shifting.Rule.{Rule}
use Rattle.opentype_gsub.specs.declared.machine.Outcome.{Outcome}
use Rattle.shapers_buffer.specs.declared.buffer.lookup_record.LookupRecord.{LookupRecord}
use Rattle.opentype_gsub.specs.declared.machine.Outcome.TheVariants.{Nothing, Done, Fits}
use Rattle.opentype_face.proofs.Foremost.{IsFirst, first_hit, first_out, first_passed, first_start}
use Rattle.opentype_face.specs.Lookups.{operations_in, subtables_in}

-- ---- places put in while there is room

pub record IsFilling (old new all rest : List ℕ) : Type 0 where
  pub same : take 64 (new ++ rest) ≡ take 64 (old ++ all)
  pub few : length new ≤ 64

pub filling_start : (old all : List ℕ) → length old ≤ 64 → IsFilling old old all all
filling_start old all few = record { same = refl; few = few }

pub full_before : (old all : List ℕ) → length old ≡ 64 → old ≡ take 64 (old ++ all)
full_before old all full = sym (take_at old all 64 full)

pub is_64 : (b : Bool) (xs : List ℕ) → b ≡ (length xs == 64) → b ≡ true → length xs ≡ 64
is_64 b xs is e = grind (arith, nat_tests)

pub not_64 : (b : Bool) (xs : List ℕ) → b ≡ (length xs == 64) → b ≡ false → length xs ≤ 64 → length xs < 64
not_64 b xs is e few = grind (arith, nat_tests)

pub filling_next : (old new next all rest more : List ℕ) (x : ℕ) → IsFilling old new all rest → rest ≡ x ∷ more →
    next ≡ new ++ x ∷ [] → length new < 64 → IsFilling old next all more
filling_next old new next all rest more x f is made lt = record {
  few = (let l = ap length made in let m = length-append new (x ∷ []) in omega arith);
  same = ap (λ t. take 64 (t ++ more)) made ∙ ap (take 64) (append_assoc new (x ∷ []) more)
      ∙ ap (λ t. take 64 (new ++ t)) (sym is) ∙ f.same;
}

pub filling_full : (old new all rest : List ℕ) → IsFilling old new all rest → length new ≡ 64 → new ≡ take 64 (old ++ all)
filling_full old new all rest f full = sym (take_at new rest 64 full) ∙ f.same

pub filling_all : (old new all rest : List ℕ) → IsFilling old new all rest → rest ≡ [] →
    new ≡ take 64 (old ++ all)
filling_all old new all rest f none =
    sym (take_all 64 new f.few) ∙ ap (take 64) (sym (append-nil new)) ∙ ap (λ t. take 64 (new ++ t)) (sym none) ∙ f.same

climb_one : (n place : ℕ) → climbing (suc n) place ≡ capped (place + 1) ∷ climbing n (capped (place + 1))
unfolding climbing
climb_one n place = refl

climb_none : (place : ℕ) → climbing 0 place ≡ []
unfolding climbing
climb_none place = refl

pub climbing_next : (count k from : ℕ) → k < count →
    climbing (count - k) from ≡ capped (from + 1) ∷ climbing (count - (k + 1)) (capped (from + 1))
climbing_next count k from lt = let e : count - k ≡ suc (count - (k + 1)) = omega arith in rw e (climb_one (count - (k + 1)) from)

pub climbing_out : (count k from : ℕ) → count ≤ k → climbing (count - k) from ≡ []
climbing_out count k from le = let e : count - k ≡ 0 = omega arith in rw e (climb_none from)

pub climb_start : (old : List ℕ) (count from : ℕ) → length old ≤ 64 →
    IsFilling old old (climbing count from) (climbing (count - 0) from)
climb_start old count from few = let e : count - 0 ≡ count = omega arith in rw e (filling_start old (climbing count from) few)

pub climb_more : (count k from x : ℕ) → k < count → x ≡ min (from + 1) 18446744073709551615 →
    climbing (count - k) from ≡ x ∷ climbing (count - (k + 1)) x
climb_more count k from x lt is =
    let c : x ≡ capped (from + 1) = omega arith in rw c (climbing_next count k from lt)

take_both : (n : ℕ) (xs ys : List ℕ) → take n (take n xs ++ ys) ≡ take n (xs ++ ys)
take_both zero xs ys = refl
take_both (suc n) [] ys = refl
take_both (suc n) (x ∷ xs) ys = ap (λ t. x ∷ t) (take_both n xs ys)

take_twice : (xs ys : List ℕ) → take 64 (take 64 xs ++ ys) ≡ take 64 (xs ++ ys)
take_twice xs ys = take_both 64 xs ys

pub three_filled : (a b c one two three : List ℕ) → one ≡ take 64 ([] ++ a) → two ≡ take 64 (one ++ b) →
    three ≡ take 64 (two ++ c) → three ≡ take 64 ((a ++ b) ++ c)
three_filled a b c one two three x y z =
    z ∙ ap (λ t. take 64 (t ++ c)) (y ∙ ap (λ t. take 64 (t ++ b)) x ∙ take_twice a b) ∙ take_twice (a ++ b) c

-- ---- subtables tried in turn

abbrev pub Comes : Type 0
Comes = Glyphs → LookupRecord → ℕ → Option (PlaceChange ⊎ Begun)

pub record IsComing (f : Comes) (count i : ℕ) (old : Glyphs) (before : LookupRecord) (gs : Glyphs) (r : LookupRecord) : Type 0 where
  pub same : gs ≡ old
  pub kept : r ≡ before
  pub first : IsFirst (f old before) count i

pub coming_start : (f : Comes) (count : ℕ) (old : Glyphs) (before : LookupRecord) → IsComing f count 0 old before old before
coming_start f count old before = record { same = refl; kept = refl; first = first_start (f old before) count }

-- what comes at a place is what comes of the text that was given
pub same_come : (f : Comes) (i : ℕ) (old gs : Glyphs) (before r : LookupRecord) → gs ≡ old → r ≡ before → f old before i ≡ f gs r i
same_come f i old gs before r same kept = sym (ap (λ x. f x r i) same ∙ ap (λ q. f old q i) kept)

pub coming_next : (f : Comes) (count i : ℕ) (old gs new : Glyphs) (before r after : LookupRecord) →
    IsComing f count i old before gs r → i < count → IsCome (f gs r i) gs r new after Nothing →
    IsComing f count (i + 1) old before new after
coming_next f count i old gs new before r after t lt is = record {
  same = is.1.0 ∙ t.same;
  kept = is.1.1 ∙ t.kept;
  first = first_passed (f old before) count i t.first lt (same_come f i old gs before r t.same t.kept ∙ is.0);
}

pub coming_done : (f : Comes) (count i : ℕ) (old gs new : Glyphs) (before r after : LookupRecord) (next : ℕ) →
    IsComing f count i old before gs r → i < count → IsCome (f gs r i) gs r new after (Done next) →
    IsCome (first_from count (f old before) 0) old before new after (Done next)
coming_done f count i old gs new before r after next t lt is =
    first_hit (f old before) count i _ t.first lt (same_come f i old gs before r t.same t.kept ∙ is)

pub coming_fits : (f : Comes) (count i : ℕ) (old gs new : Glyphs) (before r after : LookupRecord) (rule : Rule) →
    IsComing f count i old before gs r → i < count → IsCome (f gs r i) gs r new after (Fits rule) →
    IsCome (first_from count (f old before) 0) old before new after (Fits rule)
coming_fits f count i old gs new before r after rule t lt is =
    (first_hit (f old before) count i _ t.first lt (same_come f i old gs before r t.same t.kept ∙ is.0), is.1 ∙ t.kept)

pub coming_none : (f : Comes) (count i : ℕ) (old gs : Glyphs) (before r : LookupRecord) →
    IsComing f count i old before gs r → count ≤ i → IsCome (first_from count (f old before) 0) old before gs r Nothing
coming_none f count i old gs before r t le = (first_out (f old before) count i t.first le, (t.same, t.kept))

-- ---- turns

abbrev pub Turns : Type 0
Turns = Glyphs → LookupRecord → List Frame → MachineStep

-- so many turns are left
pub record IsRunning (step : Turns) (turns : ℕ) (old : Glyphs) (before : LookupRecord) (start : List Frame) (left : ℕ)
    (gs : Glyphs) (r : LookupRecord) (fs : List Frame) : Type 0 where
  pub rest : ran turns step old before start ≡ ran left step gs r fs

one_turn : (step : Turns) (n : ℕ) (gs : Glyphs) (r : LookupRecord) (fs : List Frame) →
    ran (suc n) step gs r fs ≡ goes_on_with (ran n step) (step gs r fs) (step gs r fs).end
unfolding ran
one_turn step n gs r fs = refl

no_turn : (step : Turns) (gs : Glyphs) (r : LookupRecord) (fs : List Frame) →
    ran 0 step gs r fs ≡ record { text = gs; end = None; lookups = undone r }
unfolding ran
no_turn step gs r fs = refl

pub running_start : (step : Turns) (turns : ℕ) (old : Glyphs) (before : LookupRecord) (start fs : List Frame) → fs ≡ start →
    IsRunning step turns old before start turns old before fs
running_start step turns old before start fs is = rw is (record { rest = refl })

turn_is : (step : Turns) (turns left : ℕ) (old gs : Glyphs) (before r : LookupRecord) (start fs : List Frame) (t : MachineStep) →
    IsRunning step turns old before start left gs r fs → 0 < left → step gs r fs ≡ t →
    ran turns step old before start ≡ goes_on_with (ran (left - 1) step) t t.end
turn_is step turns left old gs before r start fs t at lt is =
    let e : left ≡ suc (left - 1) = omega arith in
    at.rest ∙ ap (λ n. ran n step gs r fs) e ∙ one_turn step (left - 1) gs r fs
    ∙ ap (λ x. goes_on_with (ran (left - 1) step) x x.end) is

pub running_next : (step : Turns) (turns left : ℕ) (old gs new : Glyphs) (before r after : LookupRecord) (start fs next : List Frame) →
    IsRunning step turns old before start left gs r fs → 0 < left →
    step gs r fs ≡ record { text = new; lookups = after; stack = next; end = None } →
    IsRunning step turns old before start (left - 1) new after next
running_next step turns left old gs new before r after start fs next at lt is =
    record { rest = turn_is step turns left old gs before r start fs _ at lt is }

pub running_end : (step : Turns) (turns left : ℕ) (old gs new : Glyphs) (before r after : LookupRecord) (start fs next : List Frame)
    (end : Option ℕ) →
    IsRunning step turns old before start left gs r fs → 0 < left →
    step gs r fs ≡ record { text = new; lookups = after; stack = next; end = Some end } →
    ran turns step old before start ≡ record { text = new; end = end; lookups = after }
running_end step turns left old gs new before r after start fs next end at lt is =
    turn_is step turns left old gs before r start fs _ at lt is

pub running_called : (step : Turns) (turns left : ℕ) (old gs text new : Glyphs) (before r mid after : LookupRecord)
    (start fs next : List Frame) (result : Result (Option ℕ) ShaperError) →
    IsRunning step turns old before start left gs r fs → 0 < left →
    step gs r fs ≡ record { text = text; lookups = mid; stack = next; end = None } →
    IfOk result (λ end. ran (left - 1) step text mid next ≡ record { text = new; end = end; lookups = after }) →
    IfOk result (λ end. ran turns step old before start ≡ record { text = new; end = end; lookups = after })
running_called step turns left old gs text new before r mid after start fs next result at lt is rest =
    subst (λ (all : Nested). IfOk result (λ end. all ≡ record { text = new; end = end; lookups = after }))
    (sym (turn_is step turns left old gs before r start fs _ at lt is)) rest

pub running_out : (step : Turns) (turns left : ℕ) (old gs : Glyphs) (before r : LookupRecord) (start fs : List Frame) →
    IsRunning step turns old before start left gs r fs → left ≡ 0 →
    ran turns step old before start ≡ record { text = gs; end = None; lookups = undone r }
running_out step turns left old gs before r start fs at none =
    at.rest ∙ ap (λ n. ran n step gs r fs) none ∙ no_turn step gs r fs

-- ---- the stack, its top first

pub top_first : (callers : List (Option Rule)) (caller : Option Rule) →
    waiting (callers ++ caller ∷ []) ≡ waiting_frame caller ∷ waiting callers
top_first callers caller =
    ap reverse (map-append waiting_frame callers (caller ∷ [])) ∙ reverse-append (map waiting_frame callers) (waiting_frame caller ∷ [])

-- ---- at the text's end

pub came_out : (s : Setting) (lookup : List ℕ) (gs : Glyphs) (at : ℕ) (r : LookupRecord) → length gs ≤ at → came_in s lookup gs at r ≡ None
unfolding came_in
came_out s lookup gs at r le = let e : nat_lt at (length gs) ≡ false = grind (arith, nat_tests) in rw e refl

pub came_is : (s : Setting) (lookup : List ℕ) (gs : Glyphs) (at : ℕ) (r : LookupRecord) (sights : Sights) → at < length gs →
    sights ≡ sights_of s.gdef s.lookup lookup (glyph_at gs at) →
    first_from (subtables_in lookup) (nth_came s sights lookup at gs r) 0 ≡ came_in s lookup gs at r
unfolding came_in
came_is s lookup gs at r sights lt is =
    let e : nat_lt at (length gs) ≡ true = grind (arith, nat_tests) in
    let h : Sights → Option (PlaceChange ⊎ Begun) = λ x. first_from (subtables_in lookup) (nth_came s x lookup at gs r) 0 in
    rw e (ap h is)

pub came_by : (s : Setting) (lookup : List ℕ) (gs new : Glyphs) (at : ℕ) (r after : LookupRecord) (sights : Sights)
    (result : Result Outcome ShaperError) → at < length gs → sights ≡ sights_of s.gdef s.lookup lookup (glyph_at gs at) →
    IfOk result (λ o. IsCome (first_from (subtables_in lookup) (nth_came s sights lookup at gs r) 0) gs r new after o) →
    IfOk result (λ o. IsCome (came_in s lookup gs at r) gs r new after o)
came_by s lookup gs new at r after sights result lt is come =
    subst (λ came. IfOk result (λ o. IsCome came gs r new after o)) (came_is s lookup gs at r sights lt is) come

-- ---- the arms of a turn

ended_is : (gs : Glyphs) (r : LookupRecord) (f now : Frame) (below fs : List Frame) (it : Option (Option ℕ)) →
    IsEnded (length gs) f below now fs it →
    ended gs r f below ≡ record { text = gs; lookups = r; stack = stack_left it now fs; end = it }
ended_is gs r f now [] fs it e = rw e refl
ended_is gs r f now (outer ∷ below) fs it e = rw (e.1, e.0) refl

-- What is there for a turn: the operations that it takes are left.
pub turn_paid : (s : Setting) (gs : Glyphs) (r after : LookupRecord) (f : Frame) (below : List Frame) (t : MachineStep)
    (enough : Bool) → enough ≡ nat_le (turn_operations s f) r.operations_left → enough ≡ true →
    after ≡ charged (turn_operations s f) r → turned s gs after f below ≡ t → machine_stepped s gs r (f ∷ below) ≡ t
unfolding machine_stepped
turn_paid s gs r after f below t enough is e c turn =
    ap (λ b. if b then turned s gs (charged (turn_operations s f) r) f below
    else record { text = gs; lookups = charged (turn_operations s f) r; stack = []; end = Some None }) (sym is ∙ e)
    ∙ ap (λ x. turned s gs x f below) (sym c) ∙ turn

pub turn_unpaid : (s : Setting) (gs : Glyphs) (r after : LookupRecord) (f : Frame) (below : List Frame) (enough : Bool) →
    enough ≡ nat_le (turn_operations s f) r.operations_left → enough ≡ false → after ≡ charged (turn_operations s f) r →
    machine_stepped s gs r (f ∷ below) ≡ record { text = gs; lookups = after; stack = []; end = Some None }
unfolding machine_stepped
turn_unpaid s gs r after f below enough is e c =
    ap (λ b. if b then turned s gs (charged (turn_operations s f) r) f below
    else record { text = gs; lookups = charged (turn_operations s f) r; stack = []; end = Some None }) (sym is ∙ e)
    ∙ (let stopped : LookupRecord → MachineStep = λ x. record { text = gs; lookups = x; stack = []; end = Some None } in
    ap stopped (sym c))

-- What a turn takes, by the arm that it comes to.
pub end_operations : (s : Setting) (f : Frame) → f.count ≤ f.next → turn_operations s f ≡ 1
end_operations s f le = let t : nat_lt f.next f.count ≡ false = grind (arith, nat_tests) in rw t refl

pub call_operations : (s : Setting) (f : Frame) (lookup : List ℕ) (n : ℕ) → f.next < f.count → lookup ≡ next_lookup s f →
    n ≡ operations_in lookup → turn_operations s f ≡ n
call_operations s f lookup n lt is cost =
    let t : nat_lt f.next f.count ≡ true = grind (arith, nat_tests) in
    ap (λ b. if b then operations_in (next_lookup s f) else 1) t ∙ ap (λ table. operations_in table) (sym is) ∙ sym cost

pub turn_ends : (s : Setting) (gs : Glyphs) (r : LookupRecord) (f now : Frame) (below fs : List Frame) (it : Option (Option ℕ)) →
    f.count ≤ f.next → IsEnded (length gs) f below now fs it →
    turned s gs r f below ≡ record { text = gs; lookups = r; stack = stack_left it now fs; end = it }
unfolding turned
turn_ends s gs r f now below fs it le e =
    let t : nat_lt f.next f.count ≡ false = grind (arith, nat_tests) in rw t (ended_is gs r f now below fs it e)

pub turn_calls : (s : Setting) (gs text : Glyphs) (r after : LookupRecord) (f frame : Frame) (inner : Option Frame)
    (below new : List Frame) → f.next < f.count →
    lookup_called s gs r f ≡ record { text = text; lookups = after; frame = frame; inner = inner } →
    new ≡ deeper inner (frame ∷ below) →
    turned s gs r f below ≡ record { text = text; lookups = after; stack = new; end = None }
unfolding turned
turn_calls s gs text r after f frame inner below new lt c made =
    let t : nat_lt f.next f.count ≡ true = grind (arith, nat_tests) in
    rw t (ap (λ x. step_pushed x below) c
    ∙ (let p : List Frame → MachineStep = λ stack. record { text = text; lookups = after; stack = stack; end = None } in ap p (sym made)))

-- ---- a rule's end

pub ended_below : (len : ℕ) (f now : Frame) (old rest : List (Option Rule)) (waits : Option Rule) →
    old ≡ rest ++ waits ∷ [] → now ≡ frame_shifted len (waiting_frame waits) →
    IsEnded len f (waiting old) now (waiting rest) None
ended_below len f now old rest waits is s =
    rw (ap waiting is ∙ top_first rest waits) (ap (λ g. g ∷ waiting rest) s, refl)

pub settled_is : (first first_too behind sequence added removed : ℕ) (places front back one two three : List ℕ) →
    first ≡ min (sequence + 1) 18446744073709551615 → behind ≡ min (first + removed) 18446744073709551615 →
    front ≡ take first places → back ≡ drop behind places →
    one ≡ take 64 ([] ++ front) → two ≡ take 64 (one ++ climbing added (get_or places sequence 0)) →
    three ≡ take 64 (two ++ map (place_moved added removed) back) →
    three ≡ places_shifted sequence added removed places
unfolding places_shifted
settled_is first first_too behind sequence added removed places front back one two three f b x y p q r =
    let first_is : first ≡ capped (sequence + 1) = omega arith in
    let behind_is : behind ≡ capped (capped (sequence + 1) + removed) = omega arith in
    three_filled front (climbing added (get_or places sequence 0)) (map (place_moved added removed) back) one two three p q r
    ∙ ap (λ t. take 64 ((t ++ climbing added (get_or places sequence 0)) ++ map (place_moved added removed) back)) (x ∙ ap (λ n. take n places) first_is)
    ∙ ap (λ t. take 64 ((take (capped (sequence + 1)) places ++ climbing added (get_or places sequence 0)) ++ map (place_moved added removed) t))
    (y ∙ ap (λ n. drop n places) behind_is)
