-- The walk along the letters flags what the rule says of the text so far.
use Rattle.std.proofs.Common.{◌≡◌, ℕ, ◌+◌, ◌<◌, ◌≤◌, Bool, true, false, cond, ◌||◌, List, [], ◌∷◌, length, take, get_or, reverse, Option, None, Some, arith, append_assoc}
use Rattle.std.specs.List.{AllByRecursion}
use Rattle.std.proofs.lemmas.List.{append-nil, length-reverse, length-take-le, reverse-append, take_all, take_more}
use Rattle.shapers_buffer.specs.GlyphFlags.{UnsafeToConcat, SafeToInsertTatweel}
use Rattle.shapers_buffer.specs.declared.buffer.flags.BufferFlags.{BufferFlags}
use Rattle.shapers_buffer.specs.Glyphs.{Glyphs}
use Rattle.shapers_clusters.specs.Flags.{InOrder}
use Rattle.shapers_base.specs.declared.plan.joining.hb_arabic_joining_type_t.{hb_arabic_joining_type_t}
use Rattle.shapers_base.specs.declared.plan.joining.hb_arabic_joining_type_t.TheVariants.{U}
use Rattle.shapers_arabic.specs.declared.ot_shaper_arabic.joining.State.{State}
use Rattle.shapers_arabic.specs.Joining.{is_transparent, nearest, joins_back}
use Rattle.shapers_arabic.specs.JoiningFlags.{nearest_letter, pair_flags, letter_flags, end_flags, flags_along, joining_flags}
use Rattle.shapers_arabic.specs.JoiningWalk.{cell, LastLetter, LastIs, IsWithin, waits, given_flags, step_flags, FlaggedBy}
use Rattle.shapers_arabic.proofs.JoiningTable.{gives_change}
use Rattle.shapers_arabic.proofs.JoiningWalk.{nearest-reverse, transparent-is}
use Rattle.shapers_arabic.proofs.FlagLists.{flags_along-append, letter-transparent, no_letter, flags-letter}
use Rattle.shapers_arabic.proofs.FlaggedGlyphs.{flagged-again}

-- the last letter of the text so far, as the rule sees it
last-seen : (before ts : List hb_arabic_joining_type_t) (state : State) (k : ℕ) (l : LastLetter before ts state k)
    → nearest_letter (reverse ts) ≡ Some (record { own = l.own; before = reverse l.front })
last-seen before ts state k l = search (
  arith,
  l.split,
  reverse-append,
  reverse-append (l.own ∷ []) l.tail,
  append_assoc,
  letter-transparent (reverse l.tail) (l.own ∷ reverse l.front) (nearest-reverse l.tail l.rest),
)

-- two letters by the table, and by the rule
pair-step : (before ts : List hb_arabic_joining_type_t) (state : State) (k : ℕ) (l : LastLetter before ts state k)
    (t : hb_arabic_joining_type_t) (joins : Bool) (end : ℕ) → given_flags k end (cell state t).0 (joins || waits state)
    ≡ pair_flags before (record { own = l.own; before = reverse l.front }) t joins end
pair-step = search (arith, gives_change, length-reverse)

step-letter : (before ts : List hb_arabic_joining_type_t) (state : State) (last : Option ℕ)
    (t : hb_arabic_joining_type_t) (end : ℕ) → LastIs before ts state last
    → step_flags last state end (cell state t).0 (joins_back (Some t))
    ≡ letter_flags before (nearest_letter (reverse ts)) t end
step-letter before ts state None t end l = search (arith, no_letter, nearest-reverse)
step-letter before ts state (Some k) t end l = search (arith, pair-step, last-seen before ts state k l)

pub step-end : (before ts : List hb_arabic_joining_type_t) (state : State) (last : Option ℕ)
    (t : hb_arabic_joining_type_t) (end : ℕ) → LastIs before ts state last
    → step_flags last state end (cell state t).0 false ≡ end_flags before (nearest_letter (reverse ts)) (Some t) end
step-end before ts state None t end l = search (arith, no_letter, nearest-reverse)
step-end before ts state (Some k) t end l =
    cc (pair-step before ts state k l t false end, last-seen before ts state k l)

-- the stretches of a step are in order
given-in_order : (b c : Bool) (s e : ℕ) → s ≤ e
    → AllByRecursion InOrder (cond b (cond c (UnsafeToConcat s e ∷ []) []) (SafeToInsertTatweel s e ∷ []))
given-in_order true false s e h = tt
given-in_order _ _ s e h = (h, tt)

pub step-in_order : (last : Option ℕ) (state : State) (end given : ℕ) (joins : Bool) → IsWithin last end
    → AllByRecursion InOrder (step_flags last state end given joins)
step-in_order _ = search (arith, given-in_order)

-- the walk goes on over a transparent place, goes on over a letter, and ends
pub flagged-transparent : (flags : BufferFlags) (before types : List hb_arabic_joining_type_t)
    (first gs hs : Glyphs) (i : ℕ) (t : hb_arabic_joining_type_t) → i < length types
    → get_or types i U ≡ t → is_transparent t ≡ true → FlaggedBy flags (flags_along before [] (take i types)) first gs
    → FlaggedBy flags [] gs hs → FlaggedBy flags (flags_along before [] (take (i + 1) types)) first hs
flagged-transparent flags before types first gs hs i t h at e =
    search (arith, take_more types i U h, transparent-is t e, flags_along-append, append-nil)

pub flagged-letter : (flags : BufferFlags) (before types : List hb_arabic_joining_type_t)
    (first gs hs : Glyphs) (i : ℕ) (state : State) (last : Option ℕ) (t : hb_arabic_joining_type_t)
    → i < length types → get_or types i U ≡ t → is_transparent t ≡ false → LastIs before (take i types) state last
    → FlaggedBy flags (flags_along before [] (take i types)) first gs
    → FlaggedBy flags (step_flags last state (i + 1) (cell state t).0 (joins_back (Some t))) gs hs
    → FlaggedBy flags (flags_along before [] (take (i + 1) types)) first hs
flagged-letter flags before types first gs hs i state last t h at e l flagged step =
    let ts = take i types in
    search (
      arith,
      take_more,
      flags-letter before ts t (i + 1) e (omega (arith, length-take-le i types (omega arith))),
      step-letter,
      flagged-again,
    )

pub flagged-no_end : (flags : BufferFlags) (before types after : List hb_arabic_joining_type_t)
    (first gs : Glyphs) (i : ℕ) → i ≡ length types → nearest after ≡ None
    → FlaggedBy flags (flags_along before [] (take i types)) first gs
    → FlaggedBy flags (joining_flags before types after) first gs
flagged-no_end = search (arith, take_all, append-nil)
