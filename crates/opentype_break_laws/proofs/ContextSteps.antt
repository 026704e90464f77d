-- A step of a lookup of contexts along a text: what it makes of the text, and of a part that stands by itself.
use Rattle.std.proofs.Common.{ℕ, zero, suc, ◌+◌, ◌-◌, ◌*◌, ◌/◌, ◌%◌, ◌<◌, ◌≤◌, ◌≡◌, ◌≢◌, ◌==◌, ◌&&◌, ◌||◌, ◌⊎◌, inl, inr, min, nat_le, nat_lt, bit_and, slice_index, if◌then◌else◌, Bool, true, false, List, [], ◌∷◌, length, map, set, Option, None, Some, refl, sym, ap, subst, ◌∙◌, arith}
use Rattle.std.specs.List.{AllByRecursion}
use Rattle.std.proofs.lemmas.Bool.{false≢true}
use Rattle.std.proofs.lemmas.Bool.Decides.{nat_tests}
use Rattle.std.proofs.lemmas.List.{get_or-set_other, get_or-set_same, length-map, length-set}
use Rattle.shapers_buffer.specs.Glyph.{default_glyph, without_flags}
use Rattle.shapers_buffer.specs.GlyphFlags.{UnsafeToBreak, unsafe_inside, unsafe_to_concat_in, with_bits}
use Rattle.shapers_buffer.specs.Glyphs.{Glyph, Glyphs}
use Rattle.shapers_clusters.specs.Breaks.{IsClear}
use Rattle.shapers_clusters.specs.FlagLaw.{OnlyFlagsAdded}
use Rattle.shapers_clusters.proofs.ClearPlaces.{clear-places}
use Rattle.shapers_clusters.proofs.FlagCalls.{map-unsafe_inside, map-unsafe_to_concat_in, unsafe_inside-alone, unsafe_to_concat_in-alone, without_flags-or}
use Rattle.shapers_clusters.proofs.FlagLaw.{added_same, all_added_on, alone_added}
use Rattle.opentype_face.specs.Bytes.{u16_in}
use Rattle.opentype_layout.specs.Looking.{is_short, unjoined}
use Rattle.opentype_layout.specs.Text.{glyph_at}
use Rattle.opentype_layout.specs.declared.looking.Stretch.{Stretch}
use Rattle.opentype_gsub.specs.Edits.{replaced}
use Rattle.opentype_gsub.specs.Flagged.{unbroken}
use Rattle.opentype_gsub.specs.Looked.{lookup_looked, tried}
use Rattle.opentype_gsub.specs.Setting.{Setting, sights_of}
use Rattle.opentype_gsub.specs.declared.pass.LookupUse.{LookupUse}
use Rattle.opentype_break_laws.specs.Contexts.{lookup_named}
use Rattle.shapers_break_laws.proofs.KeptFlags.{added_clear}
use Rattle.opentype_break_laws.proofs.ByGlyph.{found_by, put_if, value_by}
use Rattle.opentype_break_laws.proofs.ContextTurns.{all_at, applied_to, record_applied, record_long, rule_applied}
use Rattle.opentype_break_laws.proofs.LigatureFits.{IsPartOf, essence, places_behind}
use Rattle.opentype_break_laws.proofs.LigatureViews.{AlikeTo, alike_long}

-- ---- WHAT STAYS of a text

-- a glyph's cluster, syllable, features and ligature
abbrev pub staying_view : Glyph → Glyph
staying_view g = record default_glyph {
  cluster = g.cluster;
  mask = without_flags g.mask;
  lig_props = g.lig_props;
  syllable = g.syllable;
}

-- a text has these, glyph by glyph, and no flag is lost
pub record ComesOf (old new : Glyphs) : Type 0 where
  pub kept : AlikeTo staying_view new old
  pub added : OnlyFlagsAdded old new

added_none : (gs : Glyphs) → OnlyFlagsAdded gs gs
added_none [] = tt
added_none (g ∷ gs) = (added_same g g refl refl, added_none gs)

pub comes_same : (gs : Glyphs) → ComesOf gs gs
comes_same gs = record { kept = refl; added = added_none gs }

pub comes_on : (xs ys zs : Glyphs) → ComesOf xs ys → ComesOf ys zs → ComesOf xs zs
comes_on xs ys zs one two = record { kept = two.kept ∙ one.kept; added = all_added_on xs ys zs one.added two.added }

pub comes_long : (old new : Glyphs) → ComesOf old new → length new ≡ length old
comes_long old new comes = alike_long staying_view new old comes.kept

-- and nothing but flags is new
pub record FlagsOnly (old new : Glyphs) : Type 0 where
  pub comes : ComesOf old new
  pub same : AlikeTo essence new old

pub only_none : (gs : Glyphs) → FlagsOnly gs gs
only_none gs = record { comes = comes_same gs; same = refl }

with_mask : Glyph → ℕ → Glyph
with_mask g m = record g { mask = m }

kept_flagged : (bits : ℕ) → bits / 8 ≡ 0 → (g : Glyph) → staying_view (with_bits bits g) ≡ staying_view g
unfolding with_mask
kept_flagged bits low g = ap (with_mask (staying_view g)) (without_flags-or g.mask bits low)

same_flagged : (bits : ℕ) → bits / 8 ≡ 0 → (g : Glyph) → essence (with_bits bits g) ≡ essence g
unfolding with_mask
same_flagged bits low g = ap (with_mask (essence g)) (without_flags-or g.mask bits low)

pub unsafe_only : (s e : ℕ) (gs : Glyphs) → s ≤ e → FlagsOnly gs (unsafe_inside s e gs)
unsafe_only s e gs le = record {
  comes = record {
    kept = map-unsafe_inside staying_view (kept_flagged 3 refl) s e gs le;
    added = alone_added gs (unsafe_inside s e gs) (unsafe_inside-alone s e gs le);
  };
  same = map-unsafe_inside essence (same_flagged 3 refl) s e gs le;
}

unjoined_only : (s e : ℕ) (gs : Glyphs) → s ≤ e → FlagsOnly gs (unsafe_to_concat_in true s e gs)
unjoined_only s e gs le = record {
  comes = record {
    kept = map-unsafe_to_concat_in staying_view (kept_flagged 2 refl) true s e gs le;
    added = alone_added gs (unsafe_to_concat_in true s e gs) (unsafe_to_concat_in-alone true s e gs le);
  };
  same = map-unsafe_to_concat_in essence (same_flagged 2 refl) true s e gs le;
}

pub only_if : (b : Bool) (old new : Glyphs) → (b ≡ true → FlagsOnly old new) → FlagsOnly old (if b then new else old)
only_if true old new is = is refl
only_if false old new is = only_none old

pub both_true : (a b : Bool) → (a && b) ≡ true → (a ≡ true) × (b ≡ true)
both_true true b e = (refl, e)
both_true false b e = absurd (false≢true e)

pub unbroken_only : (old_len start stop : ℕ) (gs : Glyphs) → FlagsOnly gs (unbroken old_len start stop gs)
unfolding unbroken
unbroken_only old_len start stop gs =
    let end = min (length gs) stop in
    only_if (nat_le start end && is_short (end - start) old_len (length gs)) gs (unsafe_inside start end gs)
    (λ t. unsafe_only start end gs (grind (
      arith,
      nat_tests,
      (both_true (nat_le start end) (is_short (end - start)
          old_len (length gs)) t).0,
    )))

pub unjoined_flags : (looked : Stretch) (gs : Glyphs) → FlagsOnly gs (unjoined looked gs)
unfolding unjoined
unjoined_flags looked gs =
    let end = min (length gs) looked.stop in
    only_if (nat_lt looked.start end) gs (unsafe_to_concat_in true looked.start end gs)
    (λ t. unjoined_only looked.start end gs (grind (arith, nat_tests, t)))

pub tried_only : (s : Setting) (table : List ℕ) (gs : Glyphs) (at : ℕ) → FlagsOnly gs (tried s table gs at)
unfolding tried
tried_only s table gs at =
    let sights = sights_of s.gdef s.lookup table (glyph_at gs at) in
    only_if (s.concat && nat_lt at (length gs)) gs (unjoined (lookup_looked s sights table gs at) gs)
    (λ t. unjoined_flags (lookup_looked s sights table gs at) gs)

-- ---- A GLYPH PUT IN

set_kept : (gs : Glyphs) (i : ℕ) (x : Glyph) → staying_view x ≡ staying_view (glyph_at gs i)
    → AlikeTo staying_view (set gs i x) gs
set_kept [] i x e = refl
set_kept (g ∷ gs) zero x e = ap (λ y. y ∷ map staying_view gs) e
set_kept (g ∷ gs) (suc i) x e = ap (λ l. staying_view g ∷ l) (set_kept gs i x e)

set_added : (gs : Glyphs) (i : ℕ) (x : Glyph) → x.cluster ≡ (glyph_at gs i).cluster → x.mask ≡ (glyph_at gs i).mask
    → OnlyFlagsAdded gs (set gs i x)
set_added [] i x c m = tt
set_added (g ∷ gs) zero x c m = (added_same g x c m, added_none gs)
set_added (g ∷ gs) (suc i) x c m = (added_same g g refl refl, set_added gs i x c m)

put_cluster : (gdef : List ℕ) (o : Option ℕ) (g : Glyph) → (put_if gdef true o g).cluster ≡ g.cluster
unfolding replaced
put_cluster gdef (Some to) g = refl
put_cluster gdef None g = refl

put_mask : (gdef : List ℕ) (o : Option ℕ) (g : Glyph) → (put_if gdef true o g).mask ≡ g.mask
unfolding replaced
put_mask gdef (Some to) g = refl
put_mask gdef None g = refl

put_kept : (gdef : List ℕ) (o : Option ℕ) (g : Glyph) → staying_view (put_if gdef true o g) ≡ staying_view g
unfolding replaced
put_kept gdef (Some to) g = refl
put_kept gdef None g = refl

set_comes : (b : Bool) (gdef : List ℕ) (use_of : LookupUse) (table : List ℕ) (place : ℕ) (gs : Glyphs)
    → ComesOf gs (if b then set gs place (applied_to gdef use_of table (glyph_at gs place)) else gs)
set_comes true gdef use_of table place gs =
    let g = glyph_at gs place in
    let o = found_by table (g.glyph_id % 65536) (value_by use_of.mask (bit_and g.mask use_of.mask)) in
    record {
      kept = set_kept gs place (put_if gdef true o g) (put_kept gdef o g);
      added = set_added gs place (put_if gdef true o g) (put_cluster gdef o g) (put_mask gdef o g);
    }
set_comes false gdef use_of table place gs = comes_same gs

pub rule_comes : (gdef gsub : List ℕ) (use_of : LookupUse) (records places : List ℕ) (n k : ℕ) (gs : Glyphs)
    → ComesOf gs (rule_applied gdef gsub use_of records places n k gs)
unfolding rule_applied
rule_comes gdef gsub use_of records places zero k gs = comes_same gs
rule_comes gdef gsub use_of records places (suc n) k gs =
    let made = record_applied gdef gsub use_of records places k gs in
    comes_on gs made (rule_applied gdef gsub use_of records places n (k + 1) made)
    (set_comes (nat_lt (u16_in records (k * 4)) (length places)) gdef use_of (lookup_named gsub records k)
    (slice_index places (u16_in records (k * 4))) gs)
    (rule_comes gdef gsub use_of records places n (k + 1) made)

-- ---- THE SAME in a part

with_fields : Glyph → ℕ → ℕ → ℕ → Glyph
with_fields g m b l = record g { mask = m; syllable = b; lig_props = record { 0 = l } }

fields_same : (g : Glyph) (m n b c k l : ℕ) → m ≡ n → b ≡ c → k ≡ l → with_fields g m b k ≡ with_fields g n c l
fields_same g m n b c k l one two three =
    ap (λ x. with_fields g x b k) one ∙ ap (λ x. with_fields g n x k) two ∙ ap (with_fields g n c) three

put_twice : (gdef : List ℕ) (o : Option ℕ) (g : Glyph) → without_flags g.mask ≡ without_flags (without_flags g.mask)
    → g.syllable % 16 ≡ g.syllable % 16 % 16 → g.lig_props.0 % 32 ≡ g.lig_props.0 % 32 % 32
    → essence (put_if gdef true o g) ≡ essence (put_if gdef true o (essence g))
unfolding replaced with_fields
put_twice gdef (Some to) g one two three = fields_same (essence (replaced gdef to 0 g)) (without_flags g.mask)
    (without_flags (without_flags g.mask)) (g.syllable % 16) (g.syllable % 16 % 16) (g.lig_props.0 % 32) (g.lig_props.0
    % 32 % 32) one two three
put_twice gdef None g one two three = fields_same (essence g) (without_flags g.mask)
    (without_flags (without_flags g.mask)) (g.syllable % 16) (g.syllable % 16 % 16) (g.lig_props.0 % 32) (g.lig_props.0
    % 32 % 32) one two three

put_essence : (gdef : List ℕ) (o : Option ℕ) (g : Glyph)
    → essence (put_if gdef true o g) ≡ essence (put_if gdef true o (essence g))
put_essence gdef o g =
    let mask : without_flags g.mask ≡ without_flags (without_flags g.mask) = omega arith in
    let byte : g.syllable % 16 ≡ g.syllable % 16 % 16 = omega arith in
    let number : g.lig_props.0 % 32 ≡ g.lig_props.0 % 32 % 32 = omega arith in
    put_twice gdef o g mask byte number

applied_essence : (gdef : List ℕ) (use_of : LookupUse) (table : List ℕ)
    → ((m : ℕ) → bit_and (without_flags m) use_of.mask ≡ bit_and m use_of.mask) → (g : Glyph)
    → essence (applied_to gdef use_of table g) ≡ essence (applied_to gdef use_of table (essence g))
applied_essence gdef use_of table flagless g =
    let by : ℕ → Option ℕ = λ held. found_by table (g.glyph_id % 65536) (value_by use_of.mask held) in
    put_essence gdef (by (bit_and g.mask use_of.mask)) g
    ∙ ap (λ n. essence (put_if gdef true (by n) (essence g))) (sym (flagless g.mask))

applied_same : (gdef : List ℕ) (use_of : LookupUse) (table : List ℕ)
    → ((m : ℕ) → bit_and (without_flags m) use_of.mask ≡ bit_and m use_of.mask) → (g h : Glyph) → essence g ≡ essence h
    → essence (applied_to gdef use_of table g) ≡ essence (applied_to gdef use_of table h)
applied_same gdef use_of table flagless g h e = applied_essence gdef use_of table flagless g
    ∙ ap (λ x. essence (applied_to gdef use_of table x)) e ∙ sym (applied_essence gdef use_of table flagless h)

set_here : (gs : Glyphs) (i j : ℕ) (x : Glyph) → j ≡ i → i < length gs → glyph_at (set gs i x) j ≡ x
set_here gs i j x e lt = ap (glyph_at (set gs i x)) e ∙ get_or-set_same gs i x default_glyph lt

part_by : (part text : Glyphs) (from q i : ℕ) (x y : Glyph) → IsPartOf part text from → q < length part
    → essence x ≡ essence y
    → i < length part → ((i ≡ q) ⊎ (i ≢ q)) → essence (glyph_at (set part q x) i) ≡ essence (glyph_at (set text (from +
    q) y) (from + i))
part_by part text from q i x y alike lt same inside (inl e) =
    let there : from + i ≡ from + q = omega (arith, e) in
    ap essence (set_here part q i x e lt) ∙ same
    ∙ ap essence (sym (set_here text (from + q) (from + i) y there (omega (arith, lt, alike.within))))
part_by part text from q i x y alike lt same inside (inr other) =
    ap essence (get_or-set_other part q i x default_glyph other) ∙ alike.alike i inside
    ∙ ap essence (sym (get_or-set_other text (from + q) (from + i) y default_glyph (λ e. other (omega (arith, e)))))

decided : (b : Bool) (i q : ℕ) → (i == q) ≡ b → (i ≡ q) ⊎ (i ≢ q)
decided true i q e = inl (grind (arith, nat_tests, e))
decided false i q e = inr (λ same. grind (arith, nat_tests, e, same))

equal_or : (i q : ℕ) → (i ≡ q) ⊎ (i ≢ q)
equal_or i q = decided (i == q) i q refl

part_set : (part text : Glyphs) (from q : ℕ) (x y : Glyph) → IsPartOf part text from → q < length part
    → essence x ≡ essence y
    → IsPartOf (set part q x) (set text (from + q) y) from
part_set part text from q x y alike lt same = record {
  within = omega (arith, alike.within, length-set part q x, length-set text (from + q) y);
  alike = λ i inside. (let here : i < length part = omega (arith, inside, length-set part q x) in
      part_by part text from q i x y alike lt same here (equal_or i q));
}

moved_at : (from : ℕ) (ps : List ℕ) (i : ℕ) → i < length ps → slice_index (places_behind from ps) i ≡ from +
    slice_index ps i
moved_at from [] i lt = absurd (omega (arith, lt))
moved_at from (p ∷ ps) zero lt = refl
moved_at from (p ∷ ps) (suc i) lt = moved_at from ps i (omega (arith, lt))

part_if : (b : Bool) (part text : Glyphs) (from q p : ℕ) (x y : Glyph) → IsPartOf part text from
    → (b ≡ true → (q < length part) × ((p ≡ from + q) × (essence x ≡ essence y)))
    → IsPartOf (if b then set part q x else part) (if b then set text p y else text) from
part_if true part text from q p x y alike is =
    let it = is refl in
    subst (λ n. IsPartOf (set part q x) (set text n y) from) (sym it.1.0) (part_set part text from q x y alike it.0
    it.1.1)
part_if false part text from q p x y alike is = alike

record_alike : (gdef gsub : List ℕ) (use_of : LookupUse) → ((m : ℕ)
    → bit_and (without_flags m) use_of.mask ≡ bit_and m use_of.mask)
    → (records places : List ℕ) (k : ℕ) (part text : Glyphs) (from : ℕ) → IsPartOf part text from
    → AllByRecursion (λ q. q < length part) places
    → IsPartOf (record_applied gdef gsub use_of records places k part) (record_applied gdef gsub use_of records
    (places_behind from places) k text) from
record_alike gdef gsub use_of flagless records places k part text from alike all =
    let called = u16_in records (k * 4) in
    let table = lookup_named gsub records k in
    let q = slice_index places called in
    let p = slice_index (places_behind from places) called in
    let long : length (places_behind from places) ≡ length places = length-map places (λ x. from + x) in
    subst (λ n. IsPartOf (record_applied gdef gsub use_of records places k part)
    (if nat_lt called n then set text p (applied_to gdef use_of table (glyph_at text p)) else text) from) (sym long)
    (part_if (nat_lt called (length places)) part text from q p (applied_to gdef use_of table (glyph_at part q))
    (applied_to gdef use_of table (glyph_at text p)) alike
    (λ t. (let lt : called < length places = grind (arith, nat_tests, t) in
    let inside : q < length part = all_at (λ x. x < length part) places called all lt in
    let place : p ≡ from + q = moved_at from places called lt in (
      inside,
      (
        place,
        applied_same gdef use_of table flagless (glyph_at part q) (glyph_at text p)
            (alike.alike q inside ∙ ap (λ n. essence (glyph_at text n)) (sym place)),
      ),
    ))))

pub rule_alike : (gdef gsub : List ℕ) (use_of : LookupUse) → ((m : ℕ)
    → bit_and (without_flags m) use_of.mask ≡ bit_and m use_of.mask)
    → (records places : List ℕ) (n k : ℕ) (part text : Glyphs) (from : ℕ) → IsPartOf part text from
    → AllByRecursion (λ q. q < length part) places
    → IsPartOf (rule_applied gdef gsub use_of records places n k part) (rule_applied gdef gsub use_of records
    (places_behind from places) n k text) from
unfolding rule_applied
rule_alike gdef gsub use_of flagless records places zero k part text from alike all = alike
rule_alike gdef gsub use_of flagless records places (suc n) k part text from alike all =
    rule_alike gdef gsub use_of flagless records places n (k + 1) (record_applied gdef gsub use_of records places k
    part)
    (record_applied gdef gsub use_of records (places_behind from places) k text) from
    (record_alike gdef gsub use_of flagless records places k part text from alike all)
    (subst (λ size. AllByRecursion (λ q. q < size) places) (sym (record_long gdef gsub use_of records places k part))
    all)

-- ---- NOTHING ELSE CHANGES

other_if : (b : Bool) (gs : Glyphs) (place j : ℕ) (x : Glyph) → (b ≡ true → j ≢ place)
    → glyph_at (if b then set gs place x else gs) j ≡ glyph_at gs j
other_if true gs place j x other = get_or-set_other gs place j x default_glyph (other refl)
other_if false gs place j x other = refl

-- a glyph that none of the places is of stays
pub rule_outside : (gdef gsub : List ℕ) (use_of : LookupUse) (records places : List ℕ) (n k : ℕ) (gs : Glyphs) (j : ℕ)
    → AllByRecursion (λ q. j ≢ q) places → glyph_at (rule_applied gdef gsub use_of records places n k gs) j ≡ glyph_at
    gs j
unfolding rule_applied
rule_outside gdef gsub use_of records places zero k gs j all = refl
rule_outside gdef gsub use_of records places (suc n) k gs j all =
    let called = u16_in records (k * 4) in
    let place = slice_index places called in
    rule_outside gdef gsub use_of records places n (k + 1) (record_applied gdef gsub use_of records places k gs) j all
    ∙ other_if (nat_lt called (length places)) gs place j (applied_to gdef use_of (lookup_named gsub records k)
    (glyph_at gs place))
    (λ t. all_at (λ q. j ≢ q) places called all (grind (arith, nat_tests, t)))

-- ---- A CLEAR PLACE is in no stretch that a rule looked at

unbroken_is : (gs : Glyphs) (start stop : ℕ) → start ≤ stop → stop ≤ length gs → stop - start ≤ 255
    → unbroken (length gs) start stop gs ≡ unsafe_inside start stop gs
unfolding unbroken is_short
unbroken_is gs start stop le within few =
    let n = length gs in
    let ends : min n stop ≡ stop = omega (arith, within) in
    let first : nat_le start stop ≡ true = grind (arith, nat_tests, le) in
    let second : nat_le n (stop - start + n) ≡ true = grind (arith, nat_tests) in
    let third : nat_le (stop - start + n - n) 255 ≡ true = grind (arith, nat_tests, few) in
    let made : Bool → Glyphs = λ b. if b then unsafe_inside start stop gs else gs in
    let by : ℕ → Glyphs = λ e. (if nat_le start e && (nat_le n (e - start + n) && nat_le (e - start + n - n) 255) then
    unsafe_inside start e gs else gs) in
    ap by ends ∙ ap (λ b. made (b && (nat_le n (stop - start + n) && nat_le (stop - start + n - n) 255))) first
    ∙ ap (λ b. made (b && nat_le (stop - start + n - n) 255)) second ∙ ap made third

none_forbids : (a b : Bool) → ((a && b) || false) ≡ false → a ≡ true → b ≡ true → ⊥
none_forbids true true e one two = absurd (false≢true (sym e))
none_forbids true false e one two = absurd (false≢true two)
none_forbids false b e one two = absurd (false≢true one)

-- a place of a text is clear, if it is inside of it
abbrev pub ClearAt : Glyphs → ℕ → Type 0
ClearAt gs p = 0 < p → p < length gs → IsClear gs p

-- a stretch in which no break is allowed has no place that is clear afterwards
pub not_unsafe : (gs last : Glyphs) (start stop p : ℕ) → stop ≤ length gs
    → ComesOf (unsafe_inside start stop gs) last → ClearAt last p → start < p → p < stop → ⊥
not_unsafe gs last start stop p within comes clear low high =
    let made = unsafe_inside start stop gs in
    let inner : start ≤ stop = omega (arith, low, high) in
    let long : length made ≡ length gs = comes_long gs made (unsafe_only start stop gs inner).comes in
    let last_long : length last ≡ length made = comes_long made last comes in
    let here : p < length last = omega (arith, high, within, long, last_long) in
    let was = added_clear made last comes.added p (omega (arith, low)) here (clear (omega (arith, low)) here) in
    let free = clear-places false false (UnsafeToBreak start stop ∷ []) gs p (inner, tt) (omega (
      arith,
      low,
    )) (omega (arith, high, within)) was in
    none_forbids (nat_lt start p) (nat_lt p stop) free (grind (arith, nat_tests, low)) (grind (arith, nat_tests, high))

pub not_inside : (gs last : Glyphs) (start stop p : ℕ) → stop ≤ length gs → stop - start ≤ 255
    → ComesOf (unbroken (length gs) start stop gs) last → ClearAt last p → start < p → p < stop → ⊥
not_inside gs last start stop p within few comes clear low high =
    let is = unbroken_is gs start stop (omega (arith, low, high)) within few in
    not_unsafe gs last start stop p within (subst (λ made. ComesOf made last) is comes) clear low high
