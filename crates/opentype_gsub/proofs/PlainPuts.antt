-- Lookups that put single glyphs in, one subtable after another.
use Rattle.std.proofs.Common.{ℕ, ◌+◌, ◌-◌, ◌<◌, ◌≤◌, ◌≡◌, ◌==◌, ◌||◌, ◌⊎◌, ◌∙◌, inl, inr, Bool, true, false, List, length, is_some, Option, None, Some, refl, sym, ap, subst, arith}
use Rattle.std.specs.Option.{option_map}
use Rattle.std.proofs.lemmas.Bool.Decides.{nat_tests}
use Rattle.shapers_buffer.specs.Glyphs.{Glyphs}
use Rattle.shapers_buffer.specs.declared.buffer.lookup_record.LookupRecord.{LookupRecord}
use Rattle.opentype_face.specs.Firsts.{first_from}
use Rattle.opentype_face.specs.Lookups.{subtable_in, subtables_in, type_in}
use Rattle.opentype_layout.specs.Sight.{sight_of_input}
use Rattle.opentype_layout.specs.Text.{glyph_at}
use Rattle.opentype_layout.proofs.NoneFits.{none_of}
use Rattle.opentype_gsub.specs.Along.{Along, lookup_applied, lookup_stepped}
use Rattle.opentype_gsub.specs.Growth.{adding, may_add}
use Rattle.opentype_gsub.specs.Looked.{tried}
use Rattle.opentype_gsub.specs.Machine.{nested}
use Rattle.opentype_gsub.specs.Presence.{applied_from}
use Rattle.opentype_layout.specs.declared.sight.Sight.{Sight}
use Rattle.opentype_gsub.specs.Applied.{IsChange, PlaceChange, one_put}
use Rattle.opentype_gsub.specs.Came.{Begun, IsCome, came_in, nth_came}
use Rattle.opentype_gsub.specs.PlainLookups.{ArePlain, is_plain, outcome_of}
use Rattle.opentype_gsub.specs.Setting.{Setting, how_of, is_seen, sights_of}
use Rattle.opentype_gsub.specs.declared.machine.Outcome.TheVariants.{Done, Nothing}
use Rattle.opentype_gsub.specs.declared.pass.Sights.{Sights}
use Rattle.opentype_gsub.proofs.LawGrows.{step_less, walk_less}
use Rattle.opentype_gsub.proofs.Machines.{came_is}
use Rattle.opentype_gsub.proofs.Walks.{IsStill, IsWalked, Steps, walked_all, walked_out, walked_start}

below : (j i : ℕ) → j < i + 1 → (j < i) ⊎ (j ≡ i)
below j i lt = grind arith

pub plain_next : (lookup : List ℕ) (i kind : ℕ) (it : Bool) →
    ((j : ℕ) → j < i → is_plain (type_in 7 lookup j) ≡ true) → kind ≡ type_in 7 lookup i → it ≡ is_plain kind → it ≡ true →
    (j : ℕ) → j < i + 1 → is_plain (type_in 7 lookup j) ≡ true
plain_next lookup i kind it h is plain e j lt = elim (below j i lt) [
  | inl less ↦ h j less
  | inr same ↦ ap (λ k. is_plain (type_in 7 lookup k)) same ∙ sym (ap is_plain is) ∙ sym plain ∙ e
]

pub not_two : (kind it : ℕ) → kind ≡ it → is_plain it ≡ true → (kind == 2) ≡ false
not_two kind it is plain = grind (arith, nat_tests)

ruleless : (kind : ℕ) → is_plain kind ≡ true → ((kind == 5) || (kind == 6)) ≡ false
ruleless kind plain = grind (arith, nat_tests)

came_plain : (s : Setting) (sights : Sights) (lookup : List ℕ) (at i : ℕ) (gs : Glyphs) (r : LookupRecord) →
    is_plain (type_in 7 lookup i) ≡ true →
    nth_came s sights lookup at gs r i
    ≡ option_map inl (one_put s sights.input (type_in 7 lookup i) (subtable_in 7 lookup i) gs at r)
unfolding nth_came
came_plain s sights lookup at i gs r plain = rw (ruleless (type_in 7 lookup i) plain) refl

put_came_of : (change : Option PlaceChange) (came : Option (PlaceChange ⊎ Begun)) (old new : Glyphs) (before after : LookupRecord)
    (next : Option ℕ) → came ≡ option_map inl change → IsChange change old before new after next →
    IsCome came old before new after (outcome_of next)
put_came_of change came old new before after None e is = (e ∙ ap (option_map inl) is.0, is.1)
put_came_of change came old new before after (Some next) e is = e ∙ ap (option_map inl) is

pub put_came : (s : Setting) (sights : Sights) (sight : Sight) (lookup bytes : List ℕ) (at i kind : ℕ) (gs new : Glyphs)
    (r after : LookupRecord) (next : Option ℕ) → is_plain (type_in 7 lookup i) ≡ true → sights.input ≡ sight →
    kind ≡ type_in 7 lookup i → bytes ≡ subtable_in 7 lookup i → IsChange (one_put s sight kind bytes gs at r) gs r new after next →
    IsCome (nth_came s sights lookup at gs r i) gs r new after (outcome_of next)
put_came s sights sight lookup bytes at i kind gs new r after next plain same k b is =
    put_came_of (one_put s sight kind bytes gs at r) _ gs new r after next
    (came_plain s sights lookup at i gs r plain
    ∙ ap (λ x. option_map inl (one_put s x (type_in 7 lookup i) (subtable_in 7 lookup i) gs at r)) same
    ∙ ap (λ x. option_map inl (one_put s sight x (subtable_in 7 lookup i) gs at r)) (sym k)
    ∙ ap (λ x. option_map inl (one_put s sight kind x gs at r)) (sym b)) is

-- ---- at a place

pub came_seen : (s : Setting) (lookup bytes : List ℕ) (gs flagged new : Glyphs) (at : ℕ) (r after : LookupRecord) (sight : Sight)
    (next : Option ℕ) → at < length flagged →
    sight ≡ sight_of_input s.gdef lookup (how_of s.lookup) (glyph_at flagged at).syllable →
    flagged ≡ tried s bytes gs at → bytes ≡ lookup →
    ((sights : Sights) → sights.input ≡ sight →
    IsCome (first_from (subtables_in lookup) (nth_came s sights lookup at flagged r) 0) flagged r new after (outcome_of next)) →
    IsCome (came_in s lookup (tried s lookup gs at) at r) (tried s lookup gs at) r new after (outcome_of next)
unfolding sights_of
came_seen s lookup bytes gs flagged new at r after sight next lt same is b come =
    let sights = sights_of s.gdef s.lookup lookup (glyph_at flagged at) in
    let e : flagged ≡ tried s lookup gs at = is ∙ ap (λ x. tried s x gs at) b in
    subst (λ x. IsCome (came_in s lookup x at r) x r new after (outcome_of next)) e
    (subst (λ came. IsCome came flagged r new after (outcome_of next))
    (came_is s lookup flagged at r sights lt refl) (come sights (sym same)))

pub stepped_put : (s : Setting) (lookup : List ℕ) (gs new : Glyphs) (at next : ℕ) (r after : LookupRecord) →
    is_seen s.gdef s.lookup lookup (glyph_at gs at) ≡ true →
    IsCome (came_in s lookup (tried s lookup gs at) at r) (tried s lookup gs at) r new after (Done next) →
    lookup_stepped s lookup gs at r ≡ record { text = new; next = next; lookups = after }
unfolding lookup_stepped nested
stepped_put s lookup gs new at next r after seen come = rw (seen, come) refl

pub stepped_none : (s : Setting) (lookup : List ℕ) (gs new : Glyphs) (at : ℕ) (r after : LookupRecord) →
    is_seen s.gdef s.lookup lookup (glyph_at gs at) ≡ true →
    IsCome (came_in s lookup (tried s lookup gs at) at r) (tried s lookup gs at) r new after Nothing →
    lookup_stepped s lookup gs at r ≡ record { text = new; next = at + 1; lookups = after }
unfolding lookup_stepped nested
stepped_none s lookup gs new at r after seen come =
    let with_text : Glyphs → LookupRecord → PlaceChange = λ x q. record { text = x; next = at + 1; lookups = q } in
    let stepped : lookup_stepped s lookup gs at r ≡ with_text (tried s lookup gs at) r = rw (seen, come.0) refl in
    stepped ∙ ap (λ x. with_text x r) (sym come.1.0) ∙ ap (with_text new) (sym come.1.1)

-- ---- along a text

not_back : (kind : ℕ) → is_plain kind ≡ true → (kind == 8) ≡ false
not_back kind plain = grind (arith, nat_tests)

applied_plain : (s : Setting) (lookup : List ℕ) (gs : Glyphs) (first : ℕ) (r : LookupRecord) → ArePlain lookup →
    applied_from s lookup first gs r ≡ lookup_applied (length gs - first) (lookup_stepped s lookup) gs first r
unfolding applied_from
applied_plain s lookup gs first r plain = rw (not_back (type_in 7 lookup 0) (plain.1 0 plain.0)) refl

pub along_start : (f : Steps) (gs : Glyphs) (from n : ℕ) (r : LookupRecord) → n ≡ length gs - from →
    IsWalked f (length gs - from) gs from r n gs from r
along_start f gs from n r is = rw is (walked_start f (length gs - from) gs from r)

pub along_out : (s : Setting) (lookup : List ℕ) (old : Glyphs) (from : ℕ) (before : LookupRecord) (n : ℕ) (text : Glyphs)
    (at : ℕ) (r : LookupRecord) (place : ℕ) → ArePlain lookup →
    IsWalked (lookup_stepped s lookup) (length old - from) old from before n text at r →
    IsStill (lookup_stepped s lookup) text r at place → (length text ≤ place) ⊎ (at + n ≤ place) →
    applied_from s lookup from old before ≡ record { text = text; lookups = r }
along_out s lookup old from before n text at r place plain w h far =
    applied_plain s lookup old from before plain
    ∙ walked_out (lookup_stepped s lookup) (length old - from) old from before n text at r place w h far

pub along_all : (s : Setting) (lookup : List ℕ) (old : Glyphs) (from : ℕ) (before : LookupRecord) (n : ℕ) (text : Glyphs)
    (at : ℕ) (r : LookupRecord) → ArePlain lookup →
    IsWalked (lookup_stepped s lookup) (length old - from) old from before n text at r → n ≡ 0 →
    applied_from s lookup from old before ≡ record { text = text; lookups = r }
along_all s lookup old from before n text at r plain w none =
    applied_plain s lookup old from before plain
    ∙ walked_all (lookup_stepped s lookup) (length old - from) old from before n text at r w none

-- ---- the text gets no longer

adds_none : (kind : ℕ) → is_plain kind ≡ true → may_add kind ≡ false
adds_none kind plain = grind (arith, nat_tests)

not_adding : (lookup : List ℕ) (i : ℕ) → ArePlain lookup → i < subtables_in lookup → adding lookup i ≡ None
unfolding adding
not_adding lookup i plain lt = let no = adds_none (type_in 7 lookup i) (plain.1 i lt) in rw no refl

none_adds : (lookup : List ℕ) → ArePlain lookup → is_some (first_from (subtables_in lookup) (adding lookup) 0) ≡ false
none_adds lookup plain = ap is_some (none_of (adding lookup) (subtables_in lookup) 0 (λ d lt. not_adding lookup (0 + d) plain (omega arith)))

pub plain_few : (s : Setting) (lookup : List ℕ) (gs new : Glyphs) (first : ℕ) (r after : LookupRecord) → ArePlain lookup →
    applied_from s lookup first gs r ≡ record { text = new; lookups = after } → length new ≤ length gs
plain_few s lookup gs new first r after plain is =
    subst (λ (it : Along). length it.text ≤ length gs) (sym (applied_plain s lookup gs first r plain) ∙ is)
    (walk_less (lookup_stepped s lookup) (step_less s lookup (none_adds lookup plain)) (length gs - first) gs first r)
