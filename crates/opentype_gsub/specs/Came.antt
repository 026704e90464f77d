-- What a lookup comes to at a place: a change, or a rule that fits.
use Rattle.std.specs.Prelude.{ℕ, ◌==◌, ◌||◌, ◌≡◌, ◌⊎◌, nat_lt, Bool, List, length, Option, None, Some, if◌then◌else◌}
use Rattle.std.proofs.Common.{inl, inr}
use Rattle.std.specs.Option.{option_map}
use Rattle.shapers_buffer.specs.Glyphs.{Glyphs}
use Rattle.shapers_buffer.specs.declared.buffer.lookup_record.LookupRecord.{LookupRecord}
use Rattle.opentype_face.specs.Firsts.{first_from}
use Rattle.opentype_face.specs.Lookups.{subtable_in, subtables_in, type_in}
use Rattle.opentype_layout.specs.Rules.{Found, context_in}
use Rattle.opentype_layout.specs.Text.{glyph_at}
use Rattle.opentype_gsub.specs.Applied.{PlaceChange, one_put}
use Rattle.opentype_gsub.specs.Flagged.{unbroken}
use Rattle.opentype_gsub.specs.Setting.{Setting, sights_of}
use Rattle.opentype_gsub.specs.declared.machine.Outcome.{Outcome}
use Rattle.opentype_gsub.specs.declared.machine.Outcome.TheVariants.{Nothing, Done, Fits}
use Rattle.opentype_gsub.specs.declared.pass.Sights.{Sights}
use Rattle.opentype_gsub.specs.declared.shifting.Rule.{Rule}

-- a rule that fits, and how far its lookups are applied
pub record Frame : Type 0 where
  pub records : List ℕ
  pub count : ℕ
  pub next : ℕ
  pub places : List ℕ
  pub end : ℕ
  pub sequence : ℕ
  pub before : ℕ

abbrev pub frame_of : Rule → Frame
frame_of rule = record {
  records = rule.records.now;
  count = rule.count;
  next = rule.next;
  places = rule.places.items;
  end = rule.end;
  sequence = rule.sequence;
  before = rule.before;
}

-- one that was just found
abbrev pub begun_frame : ℕ → Found → Frame
begun_frame len m = record {
  records = m.records;
  count = m.count;
  next = 0;
  places = m.places;
  end = m.end;
  sequence = 0;
  before = len;
}

-- A text with a rule that fits: no break is inside the stretch that the rule looked at. That of a
-- chained context begins in the text as the lookup has changed it.
pub record Begun : Type 0 where
  pub text : Glyphs
  pub frame : Frame

unfoldable pub begun : Setting → Bool → Glyphs → Found → Begun
begun s chained gs m =
    let old_len = (if chained then s.len else length gs) in
    record { text = unbroken old_len m.start m.stop gs; frame = begun_frame (length gs) m }

unfoldable pub nth_came : Setting → Sights → List ℕ → ℕ → Glyphs → LookupRecord → ℕ → Option
    (PlaceChange ⊎ Begun)
nth_came s sights lookup at gs r i =
    if (type_in 7 lookup i == 5) || (type_in 7 lookup i == 6)
    then option_map (λ m. inr (begun s (type_in 7 lookup i == 6) gs m))
    (context_in (type_in 7 lookup i == 6) s.gdef sights.input sights.context (subtable_in 7 lookup
    i) gs at)
    else option_map inl
    (one_put s sights.input (type_in 7 lookup i) (subtable_in 7 lookup i) gs at r)

-- by the first of its subtables that fits
unfoldable pub came_in : Setting → List ℕ → Glyphs → ℕ → LookupRecord → Option
    (PlaceChange ⊎ Begun)
came_in s lookup gs at r =
    if nat_lt at (length gs)
    then first_from (subtables_in lookup) (nth_came s (sights_of s.gdef s.lookup lookup (glyph_at gs
    at)) lookup at gs r) 0
    else None

-- a text and its record before and after, and the outcome that the code gives then
abbrev pub IsCome : Option (PlaceChange ⊎ Begun) → Glyphs → LookupRecord → Glyphs → LookupRecord →
    Outcome → Type 0
IsCome came old before new after Nothing = (came ≡ None) × ((new ≡ old) × (after ≡ before))
IsCome came old before new after (Done next) =
    came ≡ Some (inl (record { text = new; next = next; lookups = after }))
IsCome came old before new after (Fits rule) =
    (came ≡ Some (inr (record { text = new; frame = frame_of rule }))) × (after ≡ before)
