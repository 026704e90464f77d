-- A lookup of contexts along a text, and along a part of it that stands by itself.
use Rattle.std.proofs.Common.{ℕ, zero, suc, ◌+◌, ◌^◌, ◌%◌, ◌<◌, ◌≤◌, ◌≡◌, ◌≢◌, ◌==◌, ◌⊎◌, inl, inr, bit_and, if◌then◌else◌, Bool, true, false, List, [], ◌∷◌, length, drop, Option, None, Some, refl, sym, ap, subst, ◌∙◌, arith}
use Rattle.std.specs.List.{AllByRecursion}
use Rattle.std.proofs.lemmas.Bool.Decides.{nat_tests}
use Rattle.std.proofs.lemmas.Nat.{and_mask}
use Rattle.shapers_buffer.specs.Glyph.{without_flags}
use Rattle.shapers_buffer.specs.Glyphs.{Glyph, Glyphs}
use Rattle.shapers_buffer.specs.Properties.{component}
use Rattle.shapers_buffer.specs.declared.buffer.level.BufferClusterLevel.{BufferClusterLevel}
use Rattle.shapers_buffer.specs.declared.buffer.lookup_record.LookupRecord.{LookupRecord}
use Rattle.opentype_layout.specs.Rules.{Found}
use Rattle.opentype_layout.specs.Sight.{sight_of_context, sight_of_input}
use Rattle.opentype_layout.specs.Text.{glyph_at}
use Rattle.opentype_gsub.specs.Along.{lookup_stepped, went_on}
use Rattle.opentype_gsub.specs.Applied.{PlaceChange}
use Rattle.opentype_gsub.specs.Flagged.{unbroken}
use Rattle.opentype_gsub.specs.Looked.{tried}
use Rattle.opentype_gsub.specs.Machine.{Nested, machine_stepped, nested, started}
use Rattle.opentype_gsub.specs.Setting.{Setting, is_seen, sights_within}
use Rattle.opentype_break_laws.specs.Contexts.{ApplyOneForOne, HasContexts, HasFeature, context_fit}
use Rattle.opentype_break_laws.specs.OrderedTexts.{HasNoComponents}
use Rattle.opentype_break_laws.proofs.ContextFits.{FoundWithin, IsTakenPart, LooksAtFeatures, found_within}
use Rattle.opentype_break_laws.proofs.ContextRules.{Agrees, below_all, fit_gives, moved_found}
use Rattle.opentype_break_laws.proofs.ContextSteps.{ComesOf, FlagsOnly, comes_long, comes_on, comes_same, staying_view, rule_alike, rule_comes, rule_outside, tried_only, unbroken_only}
use Rattle.opentype_break_laws.proofs.ContextTurns.{CanApply, comes_context, nested_by, rule_applied, started_is}
use Rattle.opentype_break_laws.proofs.LigatureFits.{IsPartOf, essence, places_behind}
use Rattle.opentype_break_laws.proofs.LigatureViews.{AlikeTo, alike_long, at_same, head_or}

-- ---- A LOOKUP of contexts, and texts that it can be applied to

pub record IsContextual (s : Setting) (most : ℕ) (table : List ℕ) : Type 0 where
  pub rules : HasContexts s.lookup.random s.gsub most table
  pub across : s.lookup.per_syllable ≡ false
  pub flagless : (m : ℕ) → bit_and (without_flags m) s.lookup.mask ≡ bit_and m s.lookup.mask

pub record IsReady (s : Setting) (gs : Glyphs) : Type 0 where
  pub components : HasNoComponents gs
  pub features : AllByRecursion HasFeature gs
  pub size : length gs < 2 ^ 64
  pub len : s.len ≡ length gs

all_kept : (P : Glyph → Type 0) → ((g h : Glyph) → staying_view g ≡ staying_view h → P h → P g) → (new old : Glyphs)
    → AlikeTo staying_view new old → AllByRecursion P old → AllByRecursion P new
all_kept P on [] old e all = tt
all_kept P on (g ∷ gs) [] e all = absurd (omega (arith, ap length e))
all_kept P on (g ∷ gs) (h ∷ hs) e all = (on g h (ap head_or e) all.0, all_kept P on gs hs (ap (drop 1) e) all.1)

feature_kept : (g h : Glyph) → staying_view g ≡ staying_view h → HasFeature h → HasFeature g
feature_kept g h e has =
    let masks : without_flags g.mask ≡ without_flags h.mask = ap (λ (x : Glyph). x.mask) e in omega (arith, masks, has)

pub ready_on : (s : Setting) (old new : Glyphs) → ComesOf old new → IsReady s old → IsReady s new
ready_on s old new comes ready =
    let long : length new ≡ length old = comes_long old new comes in
    record {
      components = all_kept (λ (g : Glyph). component g.lig_props ≡ 0)
          (λ g h e is. ap (λ (x : Glyph). component x.lig_props) e ∙ is) new old comes.kept ready.components;
      features = all_kept HasFeature feature_kept new old comes.kept ready.features;
      size = omega (arith, long, ready.size);
      len = ready.len ∙ sym long;
    }

pub all_index : (P : Glyph → Type 0) (gs : Glyphs) → AllByRecursion P gs → (i : ℕ) → i < length gs → P (glyph_at gs i)
all_index P [] all i lt = absurd (omega (arith, lt))
all_index P (g ∷ gs) all zero lt = all.0
all_index P (g ∷ gs) all (suc i) lt = all_index P gs all.1 i (omega (arith, lt))

-- ---- HOW it looks at glyphs

pub looks_input : (s : Setting) (most : ℕ) (table : List ℕ) → IsContextual s most table
    → LooksAtFeatures (sights_within s.gdef s.lookup table 0).input
unfolding sights_within sight_of_input
looks_input s most table is = record {
  anywhere = ap (λ b. if b then 0 else 0) is.across;
  flagless = λ g has. ap (λ n. n == 0) (is.flagless g.mask);
}

some_feature : (m : ℕ) → 8 ≤ m % 2 ^ 32 → (bit_and m 4294967295 == 0) ≡ false
some_feature m le =
    let low : bit_and m 4294967295 ≡ m % 2 ^ 32 = and_mask m 32 in
    ap (λ n. n == 0) low ∙ grind (arith, nat_tests, le)

pub looks_context : (s : Setting) (most : ℕ) (table : List ℕ) → IsContextual s most table
    → LooksAtFeatures (sights_within s.gdef s.lookup table 0).context
unfolding sights_within sight_of_context
looks_context s most table is = record {
  anywhere = ap (λ b. if b then 0 else 0) is.across;
  flagless = λ g has. some_feature (without_flags g.mask) (omega (arith, has)) ∙ sym (some_feature g.mask has);
}

abbrev pub contexts_at : Setting → List ℕ → Glyphs → ℕ → Option Found
contexts_at s table gs at = context_fit s.gdef (sights_within s.gdef s.lookup table 0) table gs at

pub taken_part : (s t : Setting) (part text : Glyphs) (from : ℕ) → IsPartOf part text from → IsReady t part
    → IsReady s text
    → IsTakenPart part text from
taken_part s t part text from alike here there = record {
  alike = alike;
  features = all_index HasFeature part here.features;
  here = here.components;
  there = there.components;
  size = there.size;
}

-- ---- A STEP

-- what a step makes of a text
abbrev pub step_result : Setting → List ℕ → Glyphs → ℕ → LookupRecord → PlaceChange
step_result s table gs at r =
    if is_seen s.gdef s.lookup table (glyph_at gs at)
    then went_on at (nested_by s (tried s table gs at) r (contexts_at s table (tried s table gs at) at))
    else record { text = gs; next = at + 1; lookups = r }

pub record RuleFound (s : Setting) (most : ℕ) (gs : Glyphs) (at : ℕ) (m : Found) : Type 0 where
  pub within : FoundWithin gs at m
  pub applies : ApplyOneForOne s.lookup.random s.gsub most m.records m.count

pub rule_found : (s : Setting) (most : ℕ) (table : List ℕ) (gs : Glyphs) (at : ℕ) (m : Found)
    → IsContextual s most table
    → IsReady s gs → at < length gs → contexts_at s table gs at ≡ Some m → RuleFound s most gs at m
rule_found s most table gs at m is ready lt e =
    let sights = sights_within s.gdef s.lookup table 0 in
    fit_gives (RuleFound s most gs at m) (λ rule. ApplyOneForOne s.lookup.random s.gsub most rule.records rule.count)
    s.gdef sights table gs at m is.rules.rules
    (λ rule has fit. record {
      within = found_within s.gdef sights.input sights.context gs at rule m ready.components ready.size lt fit;
      applies = subst (λ (x : Found). ApplyOneForOne s.lookup.random s.gsub most x.records x.count) (sym fit.is) has;
    }) e

can_apply : (s : Setting) (most : ℕ) (gs : Glyphs) (at : ℕ) (r : LookupRecord) (m : Found) → length gs < 2 ^ 64
    → most ≤ r.operations_left → RuleFound s most gs at m → CanApply s gs r m
can_apply s most gs at r m size le found = record {
  few = record {
    few = found.within.few;
    small = below_all (2 ^ 64) m.start m.end m.places (omega (
      arith,
      found.within.looked,
      found.within.stop,
      size,
    )) found.within.places;
    ends = omega (arith, found.within.looked, found.within.stop, size);
  };
  within = below_all (length gs) m.start m.end m.places (omega (
    arith,
    found.within.looked,
    found.within.stop,
  )) found.within.places;
  puts = found.applies.lookups;
  operations = omega (arith, found.applies.operations, le);
}

-- what the step comes to where the lookup sees the glyph
abbrev step_with : Setting → List ℕ → Glyphs → ℕ → LookupRecord → Nested → PlaceChange
step_with s table gs at r n =
    if is_seen s.gdef s.lookup table (glyph_at gs at) then went_on at n else record {
      text = gs;
      next = at + 1;
      lookups
          = r;
    }

pub step_is : (s : Setting) (most : ℕ) (table : List ℕ) (gs : Glyphs) (at : ℕ) (r : LookupRecord)
    → IsContextual s most table
    → IsReady s gs → at < length gs → most ≤ r.operations_left
    → lookup_stepped s table gs at r ≡ step_result s table gs at r
unfolding lookup_stepped nested
step_is s most table gs at r is ready lt le =
    let fs = tried s table gs at in
    let comes = (tried_only s table gs at).comes in
    let after = ready_on s gs fs comes ready in
    let here : at < length fs = omega (arith, lt, comes_long gs fs comes) in
    let o = contexts_at s table fs at in
    ap (λ x. step_with s table gs at r (started (machine_stepped s) fs r x))
    (comes_context s table fs at r after.len is.across is.rules.types here)
    ∙ ap (step_with s table gs at r) (started_is s fs r o
    (λ m e. can_apply s most fs at r m after.size le (rule_found s most table fs at m is after here e))
    (λ m. comes_long fs (unbroken (length fs) m.start m.stop fs) (unbroken_only (length fs) m.start m.stop fs).comes))

-- what a step leaves as it was
pub record StepKeeps (most : ℕ) (gs : Glyphs) (at : ℕ) (r : LookupRecord) (c : PlaceChange) : Type 0 where
  pub comes : ComesOf gs c.text
  pub rises : at < c.next
  pub left : r.operations_left ≤ c.lookups.operations_left + most

rule_keeps : (s : Setting) (gs fs : Glyphs) (m : Found) → FlagsOnly gs fs
    → ComesOf gs (rule_applied s.gdef s.gsub s.lookup m.records m.places m.count 0 (unbroken (length fs) m.start m.stop
    fs))
rule_keeps s gs fs m only =
    let us = unbroken (length fs) m.start m.stop fs in
    let made = rule_applied s.gdef s.gsub s.lookup m.records m.places m.count 0 us in
    comes_on gs fs made only.comes (comes_on fs us made (unbroken_only (length fs) m.start m.stop fs).comes
    (rule_comes s.gdef s.gsub s.lookup m.records m.places m.count 0 us))

keeps_by : (s : Setting) (most : ℕ) (gs fs : Glyphs) (at : ℕ) (r : LookupRecord) (seen : Bool) (o : Option Found)
    → FlagsOnly gs fs
    → ((m : Found) → o ≡ Some m → RuleFound s most fs at m)
    → StepKeeps most gs at r (let c : PlaceChange = (if seen then went_on at (nested_by s fs r o)
    else record { text = gs; next = at + 1; lookups = r }) in c)
keeps_by s most gs fs at r true None only found = record { comes = only.comes; rises = omega arith; left = omega arith }
keeps_by s most gs fs at r true (Some m) only found =
    let it = found m refl in
    record {
      comes = rule_keeps s gs fs m only;
      rises = it.within.ends;
      left = omega (arith, it.applies.operations);
    }
keeps_by s most gs fs at r false o only found = record {
  comes = comes_same gs;
  rises = omega arith;
  left = omega arith;
}

pub step_keeps : (s : Setting) (most : ℕ) (table : List ℕ) (gs : Glyphs) (at : ℕ) (r : LookupRecord)
    → IsContextual s most table
    → IsReady s gs → at < length gs → StepKeeps most gs at r (step_result s table gs at r)
step_keeps s most table gs at r is ready lt =
    let fs = tried s table gs at in
    let only = tried_only s table gs at in
    let here : at < length fs = omega (arith, lt, comes_long gs fs only.comes) in
    keeps_by s most gs fs at r (is_seen s.gdef s.lookup table (glyph_at gs at)) (contexts_at s table fs at) only
    (λ m e. rule_found s most table fs at m is (ready_on s gs fs only.comes ready) here e)

-- ---- A STEP in a part

-- the same lookup in another buffer
abbrev pub beside : Setting → BufferClusterLevel → Bool → ℕ → ℕ → Setting
beside s level concat len limit = record {
  gdef = s.gdef;
  gsub = s.gsub;
  level = level;
  concat = concat;
  len = len;
  limit = limit;
  lookup = s.lookup;
}

-- a place is in front of a part, or behind it
abbrev pub LiesOutside : ℕ → ℕ → ℕ → Type 0
LiesOutside from n j = (j < from) ⊎ (from + n ≤ j)

pub record PartStepped (from : ℕ) (gs hs : Glyphs) (c d : PlaceChange) : Type 0 where
  pub alike : IsPartOf d.text c.text from
  pub next : c.next ≡ from + d.next
  pub inside : d.next ≤ length hs
  pub outside : (j : ℕ) → LiesOutside from (length hs) j → essence (glyph_at c.text j) ≡ essence (glyph_at gs j)

pub part_only : (gs fs hs fh : Glyphs) (from : ℕ) → AlikeTo essence fs gs → AlikeTo essence fh hs → IsPartOf hs gs from
    → IsPartOf fh fs from
part_only gs fs hs fh from one two alike = record {
  within = omega (arith, alike.within, alike_long essence fs gs one, alike_long essence fh hs two);
  alike = λ i lt. (let inside : i < length hs = omega (arith, lt, alike_long essence fh hs two) in
      at_same essence fh hs i two ∙ alike.alike i inside ∙ sym (at_same essence fs gs (from + i) one));
}

apart_one : (from n j q : ℕ) → q < n → LiesOutside from n j → j ≢ from + q
apart_one from n j q lt (inl before) = λ e. absurd (omega (arith, e, before))
apart_one from n j q lt (inr behind) = λ e. absurd (omega (arith, e, behind, lt))

apart_all : (from n j : ℕ) (ps : List ℕ) → LiesOutside from n j → AllByRecursion (λ q. q < n) ps
    → AllByRecursion (λ q. j ≢ q) (places_behind from ps)
apart_all from n j [] out all = tt
apart_all from n j (p ∷ ps) out all = (apart_one from n j p all.0 out, apart_all from n j ps out all.1)

rule_stepped : (s : Setting) (gs fs hs fh : Glyphs) (from at : ℕ) (r q : LookupRecord) (it : Found)
    → ((m : ℕ) → bit_and (without_flags m) s.lookup.mask ≡ bit_and m s.lookup.mask) → AlikeTo essence fs gs
    → AlikeTo essence fh hs
    → IsPartOf hs gs from → FoundWithin fh at it
    → PartStepped from gs hs (went_on (from + at) (nested_by s fs r (Some (moved_found from it)))) (went_on at
    (nested_by s fh q (Some it)))
rule_stepped s gs fs hs fh from at r q it flagless one two alike within =
    let us = unbroken (length fs) (from + it.start) (from + it.stop) fs in
    let uh = unbroken (length fh) it.start it.stop fh in
    let us_only = unbroken_only (length fs) (from + it.start) (from + it.stop) fs in
    let uh_only = unbroken_only (length fh) it.start it.stop fh in
    let long : length fh ≡ length hs = alike_long essence fh hs two in
    let ulong : length uh ≡ length fh = comes_long fh uh uh_only.comes in
    let here = part_only fs us fh uh from us_only.same uh_only.same (part_only gs fs hs fh from one two alike) in
    record {
      alike = rule_alike s.gdef s.gsub s.lookup flagless it.records it.places it.count 0 uh us from here
          (below_all (length uh) it.start it.end it.places (omega (
            arith,
            within.looked,
            within.stop,
            ulong,
          )) within.places);
      next = refl;
      inside = omega (arith, within.looked, within.stop, long);
      outside = λ j out. ap essence (rule_outside s.gdef s.gsub s.lookup it.records (places_behind from it.places)
          it.count 0 us j
          (apart_all from (length hs) j it.places out
          (below_all (length hs) it.start it.end it.places (omega (
            arith,
            within.looked,
            within.stop,
            long,
          )) within.places)))
          ∙ at_same essence us fs j us_only.same ∙ at_same essence fs gs j one;
    }

-- as the lookup sees the glyph or doesn't, and by what fits
pub stepped_alike : (s : Setting) (gs fs hs fh : Glyphs) (from at : ℕ) (r q : LookupRecord) (seen : Bool) (o p : Option
    Found)
    → ((m : ℕ) → bit_and (without_flags m) s.lookup.mask ≡ bit_and m s.lookup.mask) → AlikeTo essence fs gs
    → AlikeTo essence fh hs
    → IsPartOf hs gs from → at < length hs → Agrees from (from + length hs) o p
    → ((m : Found) → seen ≡ true → o ≡ Some m → (from ≤ m.start) × (m.stop ≤ from + length hs))
    → ((m : Found) → p ≡ Some m → FoundWithin fh at m)
    → PartStepped from gs hs (let c : PlaceChange = (if seen then went_on (from + at) (nested_by s fs r o)
    else record { text = gs; next = from + at + 1; lookups = r }) in c) (let c : PlaceChange = (if seen then went_on at
    (nested_by s fh q p)
    else record { text = hs; next = at + 1; lookups = q }) in c)
stepped_alike s gs fs hs fh from at r q true None p flagless one two alike lt agrees apart within =
    let on : from + at + 1 ≡ from + (at + 1) = omega arith in
    subst (λ x. PartStepped from gs hs (went_on (from + at) (nested_by s fs r None)) (went_on at (nested_by s fh q x)))
    (sym (agrees.none refl)) (record {
      alike = part_only gs fs hs fh from one two alike;
      next = on;
      inside = omega (arith, lt);
      outside = λ j out. at_same essence fs gs j one;
    })
stepped_alike s gs fs hs fh from at r q true (Some m) p flagless one two alike lt agrees apart within =
    let low = apart m refl refl in
    let it = agrees.some m refl low.0 low.1 in
    subst (λ x. PartStepped from gs hs (went_on (from + at) (nested_by s fs r (Some x))) (went_on at (nested_by s fh q
    p))) (sym it.1.1)
    (subst (λ x. PartStepped from gs hs (went_on (from + at) (nested_by s fs r (Some (moved_found from it.0))))
    (went_on at (nested_by s fh q x)))
    (sym it.1.0) (rule_stepped s gs fs hs fh from at r q it.0 flagless one two alike (within it.0 it.1.0)))
stepped_alike s gs fs hs fh from at r q false o p flagless one two alike lt agrees apart within =
    let on : from + at + 1 ≡ from + (at + 1) = omega arith in
    record { alike = alike; next = on; inside = omega (arith, lt); outside = λ j out. refl }
