-- Lookups that put one glyph for one change each glyph of a text by itself.
use Rattle.std.proofs.Common.{ℕ, zero, suc, ◌+◌, ◌%◌, ◌/◌, ◌<◌, ◌≡◌, ◌==◌, ◌&&◌, ◌||◌, ◌⊎◌, inl, inr, max, nat_lt, bit_and, if◌then◌else◌, Bool, true, false, List, [], ◌∷◌, ◌++◌, length, map, set, Option, None, Some, option_map, refl, sym, ap, subst, ◌∙◌, arith, append_assoc, length-append}
use Rattle.std.specs.Option.{option_map_or}
use Rattle.std.proofs.Math.Seq.{get_or-append_seam, set-append_seam}
use Rattle.std.proofs.lemmas.Bool.Decides.{nat_tests}
use Rattle.std.proofs.lemmas.List.{set-get_or}
use Rattle.shapers_buffer.specs.Buffer.{Buffer}
use Rattle.shapers_buffer.specs.Glyph.{default_glyph}
use Rattle.shapers_buffer.specs.Glyphs.{Glyph, Glyphs}
use Rattle.shapers_buffer.specs.declared.buffer.lookup_record.LookupRecord.{LookupRecord}
use Rattle.opentype_face.specs.Firsts.{first_from, or_else}
use Rattle.opentype_face.specs.Lookups.{lookup_in, subtable_in, subtables_in, type_in}
use Rattle.opentype_layout.specs.Looking.{looked_by, nothing, unjoined}
use Rattle.opentype_layout.specs.Sight.{sight_of_input}
use Rattle.opentype_layout.specs.Text.{glyph_at}
use Rattle.opentype_layout.specs.declared.sight.Sight.{Sight}
use Rattle.opentype_layout.proofs.Lookings.{all_none, kept_if, unflagged}
use Rattle.opentype_gsub.specs.Along.{Along, lookup_applied, lookup_stepped, went_on}
use Rattle.opentype_gsub.specs.Applied.{PlaceChange, alternate_put, lowest_bit, one_put, put_in, single_put, two_byte_number, value_of}
use Rattle.opentype_gsub.specs.Came.{Begun, came_in, nth_came}
use Rattle.opentype_gsub.specs.Decided.{alternate_in, single_in}
use Rattle.opentype_gsub.specs.Edits.{replaced}
use Rattle.opentype_gsub.specs.Looked.{lookup_looked, rules_in, subtable_looked, tried}
use Rattle.opentype_gsub.specs.Machine.{MachineStep, nested, started}
use Rattle.opentype_gsub.specs.Came.{Frame}
use Rattle.opentype_gsub.specs.Setting.{Setting, is_seen, sights_of}
use Rattle.opentype_gsub.specs.Substituted.{applied, setting_for, substituted}
use Rattle.opentype_gsub.specs.declared.pass.LookupUse.{LookupUse}
use Rattle.opentype_gsub.specs.declared.pass.Sights.{Sights}
use Rattle.opentype_gsub.proofs.Machines.{came_is}
use Rattle.opentype_gsub.proofs.Untouched.{not_random}
use Rattle.opentype_break_laws.specs.OneForOne.{PutOneForOne, is_one_for_one}

-- ---- ALONG A TEXT

-- a step that changes the glyph at its place alone, and goes on to the next
pub record IsEach (f : Glyph → Glyph) (step : Glyphs → ℕ → LookupRecord → PlaceChange) : Type 0 where
  pub each : (gs : Glyphs) (at : ℕ) (r : LookupRecord) → at < length gs
      → step gs at r ≡ record { text = set gs at (f (glyph_at gs at)); next = at + 1; lookups = r }

pub next_step : (step : Glyphs → ℕ → LookupRecord → PlaceChange) (n : ℕ) (gs : Glyphs) (at : ℕ) (r : LookupRecord)
    (c : PlaceChange) → at < length gs → step gs at r ≡ c
    → lookup_applied (suc n) step gs at r ≡ lookup_applied n step c.text c.next c.lookups
unfolding lookup_applied
next_step step n gs at r c lt e =
    let t : nat_lt at (length gs) ≡ true = grind (arith, nat_tests) in rw (t, e) refl

pub no_step : (step : Glyphs → ℕ → LookupRecord → PlaceChange) (gs : Glyphs) (at : ℕ) (r : LookupRecord)
    → lookup_applied 0 step gs at r ≡ record { text = gs; lookups = r }
unfolding lookup_applied
no_step step gs at r = refl

pub walk_each : (f : Glyph → Glyph) (step : Glyphs → ℕ → LookupRecord → PlaceChange) → IsEach f step
    → (before gs : Glyphs) (r : LookupRecord) → lookup_applied (length gs) step (before ++ gs) (length before) r
    ≡ record { text = before ++ map f gs; lookups = r }
walk_each f step each before [] r = no_step step (before ++ []) (length before) r
walk_each f step each before (g ∷ gs) r =
    let at = length before in
    let whole : Glyphs = before ++ g ∷ gs in
    let done : Glyphs = before ++ f g ∷ [] in
    let lt : at < length whole = omega (arith, length-append before (g ∷ gs)) in
    let put : set whole at (f (glyph_at whole at)) ≡ before ++ f g ∷ gs =
    ap (λ x. set whole at (f x)) (get_or-append_seam before g gs default_glyph) ∙ set-append_seam before g gs (f g) in
    let grown : done ++ gs ≡ before ++ f g ∷ gs = append_assoc before (f g ∷ []) gs in
    let long : at + 1 ≡ length done = omega (arith, length-append before (f g ∷ [])) in
    let with_text : Glyphs → ℕ → PlaceChange = λ x n. record { text = x; next = n; lookups = r } in
    let one : step whole at r ≡ with_text (done ++ gs) (length done) = each.each whole at r lt
    ∙ ap (λ x. with_text x (at + 1)) (put ∙ sym grown) ∙ ap (with_text (done ++ gs)) long in
    let ended : Glyphs → Along = λ x. record { text = x; lookups = r } in
    next_step step (length gs) whole at r (with_text (done ++ gs) (length done)) lt one
    ∙ walk_each f step each done gs r ∙ ap ended (append_assoc before (f g ∷ []) (map f gs))

-- ---- WHAT A SUBTABLE PUTS IN

-- the value of a feature, by the bits of its mask that a glyph has
abbrev pub value_by : ℕ → ℕ → ℕ
value_by mask held = held / max 1 (lowest_bit mask)

-- what subtable i puts in a glyph's place, by the value of the lookup's feature
abbrev pub put_by : List ℕ → ℕ → ℕ → ℕ → Option ℕ
put_by table number value i =
    if type_in 7 table i == 1 then single_in (subtable_in 7 table i) number
    else alternate_in (subtable_in 7 table i) number value

one_or_three : (random : Bool) (kind : ℕ) → is_one_for_one random kind ≡ true
    → (kind ≡ 1) ⊎ ((kind ≡ 3) × (random ≡ false))
one_or_three true kind is = inl (grind (arith, nat_tests))
one_or_three false kind is = grind (arith, nat_tests)

mapped_twice : {X Y Z : Type 0} (f : X → Y) (h : Y → Z) (o : Option X)
    → option_map h (option_map f o) ≡ option_map (λ x. h (f x)) o
mapped_twice f h None = refl
mapped_twice f h (Some x) = refl

or_mapped : {X Y : Type 0} (f : X → Y) (o p : Option X)
    → or_else (option_map f o) (option_map f p) ≡ option_map f (or_else o p)
or_mapped f None p = refl
or_mapped f (Some x) p = refl

pub first_mapped : {X Y : Type 0} (f : X → Y) (from : ℕ → Option X) (to : ℕ → Option Y) (n i : ℕ)
    → ((d : ℕ) → d < n → to (i + d) ≡ option_map f (from (i + d)))
    → first_from n to i ≡ option_map f (first_from n from i)
unfolding first_from
first_mapped f from to zero i h = refl
first_mapped f from to (suc n) i h =
    let z : i + 0 ≡ i = omega arith in
    let here : to i ≡ option_map f (from i) = subst (λ j. to j ≡ option_map f (from j)) z (h 0 (omega arith)) in
    let rest = first_mapped f from to n (i + 1) (λ d lt. (let k : i + suc d ≡ i + 1 + d = omega arith in
    subst (λ j. to j ≡ option_map f (from j)) k (h (suc d) (omega arith)))) in
    ap (λ o. or_else o (first_from n to (i + 1))) here ∙ ap (or_else (option_map f (from i))) rest
    ∙ or_mapped f (from i) (first_from n from (i + 1))

-- a place's change, as a lookup comes to it
abbrev pub as_change : Setting → ℕ → Glyphs → LookupRecord → ℕ → PlaceChange ⊎ Begun
as_change s at gs r to = inl (put_in s.gdef at gs r to)

by_one : (s : Setting) (sight : Sight) (bytes : List ℕ) (gs : Glyphs) (at : ℕ) (r : LookupRecord)
    → one_put s sight 1 bytes gs at r ≡ option_map (put_in s.gdef at gs r) (single_in bytes (two_byte_number gs at))
unfolding one_put single_put
by_one s sight bytes gs at r = refl

by_three : (s : Setting) (sight : Sight) (bytes : List ℕ) (gs : Glyphs) (at : ℕ) (r : LookupRecord)
    → s.lookup.random ≡ false → one_put s sight 3 bytes gs at r
    ≡ option_map (put_in s.gdef at gs r) (alternate_in bytes (two_byte_number gs at) (value_of sight (glyph_at gs at)))
unfolding one_put alternate_put
by_three s sight bytes gs at r e =
    not_random s sight bytes gs at r (ap (λ b. b && (value_of sight (glyph_at gs at) == 255)) e)

pub ruleless : (s : Setting) (sights : Sights) (table : List ℕ) (at : ℕ) (gs : Glyphs) (r : LookupRecord) (i kind : ℕ)
    → type_in 7 table i ≡ kind → ((kind == 5) || (kind == 6)) ≡ false → nth_came s sights table at gs r i
    ≡ option_map inl (one_put s sights.input kind (subtable_in 7 table i) gs at r)
unfolding nth_came
ruleless s sights table at gs r i kind is e = rw (is, e) refl

nth_put : (s : Setting) (sights : Sights) (table : List ℕ) (at : ℕ) (gs : Glyphs) (r : LookupRecord) (i : ℕ)
    → is_one_for_one s.lookup.random (type_in 7 table i) ≡ true → nth_came s sights table at gs r i
    ≡ option_map (as_change s at gs r) (put_by table (two_byte_number gs at) (value_of sights.input (glyph_at gs at)) i)
nth_put s sights table at gs r i is =
    let bytes = subtable_in 7 table i in
    let number = two_byte_number gs at in
    let value = value_of sights.input (glyph_at gs at) in
    let put : ℕ → Option ℕ = λ kind. if kind == 1 then single_in bytes number else alternate_in bytes number value in
    elim (one_or_three s.lookup.random (type_in 7 table i) is) [
      | inl one ↦ ruleless s sights table at gs r i 1 one refl ∙ ap (option_map inl) (by_one s sights.input bytes gs at r)
          ∙ mapped_twice (put_in s.gdef at gs r) inl (put 1)
          ∙ ap (λ kind. option_map (as_change s at gs r) (put kind)) (sym one)
      | inr three ↦ ruleless s sights table at gs r i 3 three.0 refl
          ∙ ap (option_map inl) (by_three s sights.input bytes gs at r three.1)
          ∙ mapped_twice (put_in s.gdef at gs r) inl (put 3)
          ∙ ap (λ kind. option_map (as_change s at gs r) (put kind)) (sym three.0)
    ]

-- ---- AT A PLACE

-- what the first of a lookup's subtables that has something puts in
abbrev pub found_by : List ℕ → ℕ → ℕ → Option ℕ
found_by table number value = first_from (subtables_in table) (put_by table number value) 0

value_held : (s : Setting) (table : List ℕ) (g : Glyph)
    → value_of (sights_of s.gdef s.lookup table g).input g ≡ value_by s.lookup.mask (bit_and g.mask s.lookup.mask)
unfolding sights_of sight_of_input
value_held s table g = refl

pub comes : (s : Setting) (table : List ℕ) (gs : Glyphs) (at : ℕ) (r : LookupRecord) → PutOneForOne s.lookup.random table
    → at < length gs → came_in s table gs at r ≡ option_map (as_change s at gs r)
    (found_by table (two_byte_number gs at) (value_by s.lookup.mask (bit_and (glyph_at gs at).mask s.lookup.mask)))
comes s table gs at r all lt =
    let g = glyph_at gs at in
    let sights = sights_of s.gdef s.lookup table g in
    sym (came_is s table gs at r sights lt refl)
    ∙ first_mapped (as_change s at gs r) (put_by table (two_byte_number gs at) (value_of sights.input g))
    (nth_came s sights table at gs r) (subtables_in table) 0 (λ d less. nth_put s sights table at gs r (0 + d) (all.1 (0 + d) (omega (arith, less))))
    ∙ ap (λ v. option_map (as_change s at gs r) (found_by table (two_byte_number gs at) v)) (value_held s table g)

-- nothing is looked at beside the glyph
no_rules : (random : Bool) (kind : ℕ) (bytes : List ℕ) (number : ℕ) → is_one_for_one random kind ≡ true
    → rules_in kind bytes number ≡ None
unfolding rules_in
no_rules random kind bytes number is = elim (one_or_three random kind is) [
  | inl one ↦ rw one refl
  | inr three ↦ rw three.0 refl
]

unlooked : (s : Setting) (sights : Sights) (table : List ℕ) (gs : Glyphs) (at i : ℕ)
    → is_one_for_one s.lookup.random (type_in 7 table i) ≡ true → subtable_looked s sights table gs at i ≡ nothing at
unfolding subtable_looked
unlooked s sights table gs at i is =
    ap (looked_by s.gdef sights.input sights.context s.len gs at)
    (no_rules s.lookup.random (type_in 7 table i) (subtable_in 7 table i) (two_byte_number gs at) is)

pub still_tried : (s : Setting) (table : List ℕ) (gs : Glyphs) (at : ℕ) → PutOneForOne s.lookup.random table
    → tried s table gs at ≡ gs
unfolding tried lookup_looked
still_tried s table gs at all =
    let sights = sights_of s.gdef s.lookup table (glyph_at gs at) in
    kept_if (s.concat && nat_lt at (length gs)) _ gs
    (ap (λ x. unjoined x gs) (all_none _ (subtable_looked s sights table gs at) at (subtables_in table) 0
    (λ d less. unlooked s sights table gs at (0 + d) (all.1 (0 + d) (omega (arith, less))))) ∙ unflagged at gs)

-- a glyph with what was found in its place, if the lookup sees it
abbrev pub put_if : List ℕ → Bool → Option ℕ → Glyph → Glyph
put_if gdef seen found g = if seen then option_map_or (λ to. replaced gdef to 0 g) found g else g

came_each : (s : Setting) (gs : Glyphs) (at : ℕ) (r : LookupRecord)
    (step : Glyphs → LookupRecord → List Frame → MachineStep) (seen : Bool) (found : Option ℕ)
    → (let it : PlaceChange = (if seen then went_on at (started step gs r (option_map (as_change s at gs r) found))
    else record { text = gs; next = at + 1; lookups = r }) in it)
    ≡ record { text = set gs at (put_if s.gdef seen found (glyph_at gs at)); next = at + 1; lookups = r }
came_each s gs at r step true (Some to) = refl
came_each s gs at r step true None =
    let with_text : Glyphs → PlaceChange = λ x. record { text = x; next = at + 1; lookups = r } in
    ap with_text (sym (set-get_or gs at default_glyph))
came_each s gs at r step false found =
    let with_text : Glyphs → PlaceChange = λ x. record { text = x; next = at + 1; lookups = r } in
    ap with_text (sym (set-get_or gs at default_glyph))

-- a glyph as the lookup leaves it
abbrev pub changed : List ℕ → LookupUse → List ℕ → Glyph → Glyph
changed gdef use_of table g = put_if gdef (is_seen gdef use_of table g)
    (found_by table (g.glyph_id % 65536) (value_by use_of.mask (bit_and g.mask use_of.mask))) g

pub steps_each : (s : Setting) (table : List ℕ) → PutOneForOne s.lookup.random table
    → IsEach (changed s.gdef s.lookup table) (lookup_stepped s table)
unfolding lookup_stepped nested
steps_each s table all = record {
  each = λ gs at r lt. (let step = came_each s gs at r _ (is_seen s.gdef s.lookup table (glyph_at gs at)) _ in
      rw (still_tried s table gs at all, comes s table gs at r all lt) step);
}

-- ---- IN A BUFFER

pub not_back : (random : Bool) (kind : ℕ) → is_one_for_one random kind ≡ true → (kind == 8) ≡ false
not_back random kind is = elim (one_or_three random kind is) [
  | inl one ↦ ap (λ k. k == 8) one
  | inr three ↦ ap (λ k. k == 8) three.0
]

pub substituted_each : (gdef gsub : List ℕ) (use_of : LookupUse) (b : Buffer)
    → PutOneForOne use_of.random (lookup_in gsub use_of.index)
    → (substituted gdef gsub use_of b).glyphs ≡ map (changed gdef use_of (lookup_in gsub use_of.index)) b.glyphs
unfolding substituted applied
substituted_each gdef gsub use_of b all =
    let table = lookup_in gsub use_of.index in
    let s = setting_for gdef gsub use_of b in
    let forwards = not_back use_of.random (type_in 7 table 0) (all.1 0 all.0) in
    let walked = walk_each (changed gdef use_of table) (lookup_stepped s table) (steps_each s table all) [] b.glyphs b.lookups in
    rw forwards (ap (λ (x : Along). x.text) walked)
