-- Rules that apply lookups, and these lookups: a machine with a stack of rules, at most 64 deep.
use Rattle.std.specs.Prelude.{ℕ, zero, suc, ◌+◌, ◌-◌, ◌*◌, ◌^◌, ◌≡◌, ◌⊎◌, min, nat_le, nat_lt, List, [], ◌∷◌, ◌++◌, map, take, drop, length, reverse, slice_index, Option, None, Some, if◌then◌else◌}
use Rattle.std.proofs.Common.{inl, inr}
use Rattle.shapers_buffer.specs.Glyphs.{Glyphs}
use Rattle.shapers_buffer.specs.declared.buffer.lookup_record.LookupRecord.{LookupRecord}
use Rattle.opentype_face.specs.Bytes.{u16_in}
use Rattle.opentype_face.specs.Lookups.{lookup_in, operations_in}
use Rattle.opentype_gsub.specs.Applied.{PlaceChange, incomplete}
use Rattle.opentype_gsub.specs.Came.{Begun, Frame, came_in, frame_of}
use Rattle.opentype_gsub.specs.Looked.{tried}
use Rattle.opentype_gsub.specs.Setting.{Setting}
use Rattle.opentype_gsub.specs.declared.shifting.Rule.{Rule}

-- ---- what an applied lookup added or took away moves the places behind it

abbrev pub capped : ℕ → ℕ
capped n = min (2 ^ 64 - 1) n

abbrev pub place_moved : ℕ → ℕ → ℕ → ℕ
place_moved added removed place = capped (place + added) - removed

-- the places right behind one
unfoldable pub climbing : ℕ → ℕ → List ℕ
climbing zero place = []
climbing (suc n) place = capped (place + 1) ∷ climbing n (capped (place + 1))

-- of at most 64
unfoldable pub places_shifted : ℕ → ℕ → ℕ → List ℕ → List ℕ
places_shifted sequence added removed places =
    take 64 ((take (capped (sequence + 1)) places ++ climbing added (slice_index places sequence))
    ++ map (place_moved added removed) (drop (capped (capped (sequence + 1) + removed)) places))

-- How many glyphs went, but no more than stand from the lookup's place up to the end. Where the
-- places become more than 64, the rule has no further lookup.
unfoldable pub frame_shifted : ℕ → Frame → Frame
frame_shifted len f =
    let added = len - f.before in
    let removed = min (f.before - len) (f.end - slice_index f.places f.sequence) in
    if nat_lt 64 (length f.places + added) then record {
      records = f.records;
      count = f.count;
      next = f.count;
      places = f.places;
      end = place_moved added removed f.end;
      sequence = f.sequence;
      before = f.before;
    }
    else record {
      records = f.records;
      count = f.count;
      next = f.next;
      places = places_shifted f.sequence added removed f.places;
      end = place_moved added removed f.end;
      sequence = f.sequence;
      before = f.before;
    }

-- ---- one lookup of a rule

pub record AfterCall : Type 0 where
  pub text : Glyphs
  pub lookups : LookupRecord
  pub frame : Frame
  pub inner : Option Frame

abbrev pub called_by : Glyphs → LookupRecord → Frame → Option (PlaceChange ⊎ Begun) → AfterCall
called_by gs r f None = record { text = gs; lookups = r; frame = f; inner = None }
called_by gs r f (Some (inl change)) = record {
  text = change.text;
  lookups = change.lookups;
  frame = frame_shifted (length change.text) f;
  inner = None;
}
called_by gs r f (Some (inr b)) = record {
  text = b.text;
  lookups = r;
  frame = f;
  inner = Some b.frame;
}

-- the frame whose lookup is applied at one of its places
abbrev pub aimed : ℕ → ℕ → Frame → Frame
aimed sequence len f = record {
  records = f.records;
  count = f.count;
  next = f.next + 1;
  places = f.places;
  end = f.end;
  sequence = sequence;
  before = len;
}

-- the lookup that a rule applies next
abbrev pub next_lookup : Setting → Frame → List ℕ
next_lookup s f = lookup_in s.gsub (u16_in f.records (f.next * 4 + 2))

unfoldable pub lookup_called : Setting → Glyphs → LookupRecord → Frame → AfterCall
lookup_called s gs r f =
    let sequence = u16_in f.records (f.next * 4) in
    let lookup = next_lookup s f in
    let place = slice_index f.places sequence in
    let flagged = tried s lookup gs place in
    if nat_lt sequence (length f.places)
    then called_by flagged r (aimed sequence (length gs) f) (came_in s lookup flagged place r)
    else record { text = gs; lookups = r; frame = aimed f.sequence f.before f; inner = None }

-- ---- the text's operations

abbrev pub with_left : ℕ → LookupRecord → LookupRecord
with_left n r = record r { operations_left = n }

-- Something is left undone for want of operations: none is left, and the text isn't complete.
abbrev pub undone : LookupRecord → LookupRecord
undone r = with_left 0 (incomplete r)

-- so many operations are taken from those that are left, if these are as many
abbrev pub charged : ℕ → LookupRecord → LookupRecord
charged n r =
    if nat_le n r.operations_left then with_left (r.operations_left - n) r else undone r

-- What a turn takes: the end of a rule one operation, and a lookup what its subtables say.
abbrev pub turn_operations : Setting → Frame → ℕ
turn_operations s f = if nat_lt f.next f.count then operations_in (next_lookup s f) else 1

-- ---- one turn of the machine

pub record MachineStep : Type 0 where
  pub text : Glyphs
  pub lookups : LookupRecord
  pub stack : List Frame
  pub end : Option (Option ℕ)

abbrev pub ended : Glyphs → LookupRecord → Frame → List Frame → MachineStep
ended gs r f [] = record { text = gs; lookups = r; stack = []; end = Some (Some f.end) }
ended gs r f (outer ∷ fs) = record {
  text = gs;
  lookups = r;
  stack = frame_shifted (length gs) outer ∷ fs;
  end = None;
}

-- The same, as the code gives it: the rule in hand, those that wait below it, and where the machine
-- ends, what it ends with.
abbrev pub IsEnded :
    ℕ → Frame → List Frame → Frame → List Frame → Option (Option ℕ) → Type 0
IsEnded len f [] now fs it = it ≡ Some (Some f.end)
IsEnded len f (outer ∷ rest) now fs it = (now ∷ fs ≡ frame_shifted len outer ∷ rest) × (it ≡ None)

-- the stack after a turn, by the rule in hand and those that wait below it
abbrev pub stack_left : Option (Option ℕ) → Frame → List Frame → List Frame
stack_left None f fs = f ∷ fs
stack_left (Some end) f fs = []

abbrev pub deeper : Option Frame → List Frame → List Frame
deeper None fs = fs
deeper (Some f) fs = if nat_lt (length fs) 64 then f ∷ fs else fs

abbrev pub step_pushed : AfterCall → List Frame → MachineStep
step_pushed c fs = record {
  text = c.text;
  lookups = c.lookups;
  stack = deeper c.inner (c.frame ∷ fs);
  end = None;
}

-- the next lookup of the rule in hand, or the end of that rule
unfoldable pub turned : Setting → Glyphs → LookupRecord → Frame → List Frame → MachineStep
turned s gs r f fs =
    if nat_lt f.next f.count then step_pushed (lookup_called s gs r f) fs else ended gs r f fs

-- Where fewer operations are left than that takes, the rules on the stack end undone.
unfoldable pub machine_stepped : Setting → Glyphs → LookupRecord → List Frame → MachineStep
machine_stepped s gs r [] = record { text = gs; lookups = r; stack = []; end = Some None }
machine_stepped s gs r (f ∷ fs) =
    let n = turn_operations s f in
    if nat_le n r.operations_left then turned s gs (charged n r) f fs
    else record { text = gs; lookups = charged n r; stack = []; end = Some None }

-- ---- the machine

-- the text, the place behind what was done, and the record of the text's lookups
pub record Nested : Type 0 where
  pub text : Glyphs
  pub end : Option ℕ
  pub lookups : LookupRecord

abbrev pub goes_on_with : (Glyphs → LookupRecord → List Frame → Nested) → MachineStep → Option
    (Option ℕ) → Nested
goes_on_with rest t None = rest t.text t.lookups t.stack
goes_on_with rest t (Some end) = record { text = t.text; end = end; lookups = t.lookups }

-- In at most so many turns. As many as there are operations are enough, since each turn takes one
-- at least.
unfoldable pub ran : ℕ → (Glyphs → LookupRecord → List Frame → MachineStep) → Glyphs →
    LookupRecord → List Frame → Nested
ran zero step gs r fs = record { text = gs; end = None; lookups = undone r }
ran (suc n) step gs r fs = let it = step gs r fs in goes_on_with (ran n step) it it.end

abbrev pub started : (Glyphs → LookupRecord → List Frame → MachineStep) → Glyphs → LookupRecord →
    Option (PlaceChange ⊎ Begun) → Nested
started step gs r None = record { text = gs; end = None; lookups = r }
started step gs r (Some (inl change)) = record {
  text = change.text;
  end = Some change.next;
  lookups = change.lookups;
}
started step gs r (Some (inr b)) = ran r.operations_left step b.text r (b.frame ∷ [])

-- A lookup's table at a place, and the lookups that its rules apply, with the operations that the
-- text has left.
unfoldable pub nested : Setting → List ℕ → Glyphs → ℕ → LookupRecord → Nested
nested s lookup gs at r =
    let flagged = tried s lookup gs at in
    started (machine_stepped s) flagged r (came_in s lookup flagged at r)

-- The rules that wait in the code for the one in hand, the last one first. Each is there; what is
-- left of the room has none.
abbrev pub waiting_frame : Option Rule → Frame
waiting_frame (Some rule) = frame_of rule
waiting_frame None = record {
  records = [];
  count = 0;
  next = 0;
  places = [];
  end = 0;
  sequence = 0;
  before = 0;
}

abbrev pub waiting : List (Option Rule) → List Frame
waiting callers = reverse (map waiting_frame callers)
