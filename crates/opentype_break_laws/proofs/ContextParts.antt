-- What a lookup of contexts makes of a text in two parts is what it makes of the parts.
use Rattle.std.proofs.Common.{ℕ, zero, suc, ◌+◌, ◌-◌, ◌*◌, ◌<◌, ◌≤◌, ◌≡◌, ◌⊎◌, inl, inr, nat_lt, if◌then◌else◌, Bool, true, false, List, length, Option, None, Some, unwrap_or, refl, sym, ap, subst, ◌∙◌, arith}
use Rattle.std.specs.Prelude.{IfSome}
use Rattle.std.proofs.lemmas.Bool.Decides.{nat_tests}
use Rattle.shapers_buffer.specs.Glyphs.{Glyphs}
use Rattle.shapers_buffer.specs.declared.buffer.level.BufferClusterLevel.{BufferClusterLevel}
use Rattle.shapers_buffer.specs.declared.buffer.lookup_record.LookupRecord.{LookupRecord}
use Rattle.opentype_layout.specs.Rules.{Found}
use Rattle.opentype_layout.specs.Text.{glyph_at}
use Rattle.opentype_gsub.specs.Along.{Along, lookup_applied, lookup_stepped, went_on}
use Rattle.opentype_gsub.specs.Applied.{PlaceChange}
use Rattle.opentype_gsub.specs.Flagged.{unbroken}
use Rattle.opentype_gsub.specs.Looked.{tried}
use Rattle.opentype_gsub.specs.Machine.{Nested}
use Rattle.opentype_gsub.specs.Setting.{Setting, is_seen, sights_within}
use Rattle.opentype_break_laws.specs.Contexts.{LookAtFew}
use Rattle.opentype_break_laws.proofs.ByGlyph.{next_step, no_step}
use Rattle.opentype_break_laws.proofs.ContextRules.{Agrees, fit_agrees}
use Rattle.opentype_break_laws.proofs.ContextSteps.{ClearAt, ComesOf, FlagsOnly, comes_long, comes_on, comes_same, not_inside, rule_comes, tried_only}
use Rattle.opentype_break_laws.proofs.ContextTurns.{nested_by, rule_applied}
use Rattle.opentype_break_laws.proofs.ContextWalk.{IsContextual, LiesOutside, IsReady, PartStepped, RuleFound, beside, contexts_at, looks_context, looks_input, part_only, ready_on, rule_found, step_is, step_keeps, step_result, stepped_alike, taken_part}
use Rattle.opentype_break_laws.proofs.LigatureFits.{IsPartOf, essence}
use Rattle.opentype_break_laws.proofs.LigatureViews.{at_same}
use Rattle.opentype_break_laws.proofs.LigatureWalk.{seen_same}

-- ---- THE WALK

over_step : (step : Glyphs → ℕ → LookupRecord → PlaceChange) (n : ℕ) (gs : Glyphs) (at : ℕ) (r : LookupRecord)
    → length gs ≤ at
    → lookup_applied n step gs at r ≡ record { text = gs; lookups = r }
unfolding lookup_applied
over_step step zero gs at r le = refl
over_step step (suc n) gs at r le =
    let t : nat_lt at (length gs) ≡ false = grind (arith, nat_tests, le) in rw t refl

by_test : (b : Bool) (at n : ℕ) → nat_lt at n ≡ b → (at < n) ⊎ (n ≤ at)
by_test true at n e = inl (grind (arith, nat_tests, e))
by_test false at n e = inr (grind (arith, nat_tests, e))

pub inside_or : (at n : ℕ) → (at < n) ⊎ (n ≤ at)
inside_or at n = by_test (nat_lt at n) at n refl

more_times : (most n : ℕ) → most * suc n ≡ most * n + most
more_times most n = omega arith

pub walk_comes : (s : Setting) (most : ℕ) (table : List ℕ) → IsContextual s most table
    → (n : ℕ) (gs : Glyphs) (at : ℕ) (r : LookupRecord)
    → IsReady s gs → most * n ≤ r.operations_left → ComesOf gs (lookup_applied n (lookup_stepped s table) gs at r).text
walk_comes s most table is zero gs at r ready le =
    subst (λ (x : Along). ComesOf gs x.text) (sym (no_step (lookup_stepped s table) gs at r)) (comes_same gs)
walk_comes s most table is (suc n) gs at r ready le = elim (inside_or at (length gs)) [
  | inl lt ↦ (let c = step_result s table gs at r in
      let enough : most ≤ r.operations_left = omega (arith, le, more_times most n) in
      let keeps = step_keeps s most table gs at r is ready lt in
      subst (λ (x : Along). ComesOf gs x.text)
      (sym (next_step (lookup_stepped s table) n gs at r c lt (step_is s most table gs at r is ready lt enough)))
      (comes_on gs c.text (lookup_applied n (lookup_stepped s table) c.text c.next c.lookups).text keeps.comes
      (walk_comes s most table is n c.text c.next c.lookups (ready_on s gs c.text keeps.comes ready)
      (omega (arith, le, more_times most n, keeps.left)))))
  | inr over ↦ subst (λ (x : Along). ComesOf gs x.text) (sym (over_step (lookup_stepped s table) (suc n) gs at r over))
      (comes_same gs)
]

-- ---- NO RULE of the text looks over a clear place

some_found : (x m : Found) → Some x ≡ Some m → x ≡ m
some_found x m e = ap (λ (o : Option Found). unwrap_or o x) e

if_some_is : (P : Found → Type 0) (o : Option Found) (m : Found) → IfSome o P → o ≡ Some m → P m
if_some_is P None m is e = absurd (cc)
if_some_is P (Some x) m is e = subst P (some_found x m e) is

-- flags that were only tried don't count
few_tried : (s : Setting) (most : ℕ) (table : List ℕ) (gs fs : Glyphs) (at : ℕ) (m : Found) → IsContextual s most table
    → IsReady s gs → FlagsOnly gs fs → at < length gs → LookAtFew s.gdef s.lookup table gs
    → contexts_at s table fs at ≡ Some m
    → m.stop ≤ length fs → m.stop - m.start ≤ 255
few_tried s most table gs fs at m is ready only lt few e within =
    let sights = sights_within s.gdef s.lookup table 0 in
    let long : length fs ≡ length gs = comes_long gs fs only.comes in
    let z : at ≡ 0 + at = omega arith in
    let whole : IsPartOf gs fs 0 = record {
      within = omega (arith, long);
      alike = λ i inside. (let k : i ≡ 0 + i = omega arith in
          sym (at_same essence fs gs i only.same) ∙ ap (λ j. essence (glyph_at fs j)) k);
    } in
    let agrees = fit_agrees s.gdef sights table gs fs 0 at (looks_input s most table is) (looks_context s most table is)
    (taken_part s s gs fs 0 whole ready (ready_on s gs fs only.comes ready)) lt in
    let it = agrees.some m (ap (contexts_at s table fs) (sym z) ∙ e) (omega arith) (omega (arith, within, long)) in
    let small : it.0.stop - it.0.start ≤ 255 = if_some_is (λ x. x.stop - x.start ≤ 255) (contexts_at s table gs at)
    it.0 (few at lt) it.1.0 in
    let start : m.start ≡ 0 + it.0.start = ap (λ (x : Found). x.start) it.1.1 in
    let stop : m.stop ≡ 0 + it.0.stop = ap (λ (x : Found). x.stop) it.1.1 in
    omega (arith, small, start, stop)

-- a rule that fits at a place of a part looks at the part alone, if its ends are clear in the end
looks_inside : (s : Setting) (gs last : Glyphs) (from n at : ℕ) (m : Found) → at < n → m.start ≤ from + at
    → from + at < m.stop
    → m.stop ≤ length gs → m.stop - m.start ≤ 255 → ComesOf (unbroken (length gs) m.start m.stop gs) last
    → ClearAt last from
    → ClearAt last (from + n) → (from ≤ m.start) × (m.stop ≤ from + n)
looks_inside s gs last from n at m lt low high within few comes one two = (
  elim (inside_or m.start from) [
    | inl before ↦ absurd (not_inside gs last m.start m.stop from within few comes one before (omega (arith, high)))
    | inr le ↦ le
  ],
  elim (inside_or (from + n) m.stop) [
    | inl over ↦ absurd (not_inside gs last m.start m.stop (from + n) within few comes two (omega (
      arith,
      low,
      lt,
    )) over)
    | inr le ↦ le
  ],
)

-- ---- A STEP in the text and in a part

-- the text that the lookup makes in the end, and whether the ends of a part are clear in it
pub record ClearEnds (last : Glyphs) (from n : ℕ) : Type 0 where
  pub first : ClearAt last from
  pub second : ClearAt last (from + n)

seen_comes : (s : Setting) (gs fs last : Glyphs) (at : ℕ) (r : LookupRecord) (seen : Bool) (o : Option Found) (m :
    Found) → seen ≡ true → o ≡ Some m
    → ComesOf (let c : PlaceChange = (if seen then went_on at (nested_by s fs r o) else record {
      text = gs;
      next = at +
          1;
      lookups = r;
    }) in c).text last
    → ComesOf (unbroken (length fs) m.start m.stop fs) last
seen_comes s gs fs last at r true None m sees e comes = absurd (cc)
seen_comes s gs fs last at r true (Some x) m sees e comes =
    let us = unbroken (length fs) x.start x.stop fs in
    subst (λ (y : Found). ComesOf (unbroken (length fs) y.start y.stop fs) last) (some_found x m e)
    (comes_on us (rule_applied s.gdef s.gsub s.lookup x.records x.places x.count 0 us) last
    (rule_comes s.gdef s.gsub s.lookup x.records x.places x.count 0 us) comes)
seen_comes s gs fs last at r false o m sees e comes = absurd (cc)

nested_beside : (s : Setting) (level : BufferClusterLevel) (concat : Bool) (len limit : ℕ) (gs : Glyphs) (r :
    LookupRecord)
    (o : Option Found) → nested_by (beside s level concat len limit) gs r o ≡ nested_by s gs r o
nested_beside s level concat len limit gs r None = refl
nested_beside s level concat len limit gs r (Some m) = refl

pub is_beside : (s : Setting) (most : ℕ) (table : List ℕ) (level : BufferClusterLevel) (concat : Bool) (len limit : ℕ)
    → IsContextual s most table → IsContextual (beside s level concat len limit) most table
is_beside s most table level concat len limit is = record {
  rules = is.rules;
  across = is.across;
  flagless =
      is.flagless;
}

step_alike : (s : Setting) (most : ℕ) (table : List ℕ) (level : BufferClusterLevel) (concat : Bool) (len limit : ℕ) (gs
    hs last : Glyphs) (from at : ℕ) (r q : LookupRecord)
    → (let t = beside s level concat len limit in IsContextual s most table → IsReady s gs → IsReady t hs
    → IsPartOf hs gs from
    → at < length hs → LookAtFew s.gdef s.lookup table gs
    → ComesOf (step_result s table gs (from + at) r).text last → ClearEnds last from (length hs)
    → PartStepped from gs hs (step_result s table gs (from + at) r) (step_result t table hs at q))
step_alike s most table level concat len limit gs hs last from at r q is ready part_ready alike lt few comes clear =
    let t = beside s level concat len limit in
    let sights = sights_within s.gdef s.lookup table 0 in
    let there : from + at < length gs = omega (arith, lt, alike.within) in
    let fs = tried s table gs (from + at) in
    let fh = tried t table hs at in
    let one = tried_only s table gs (from + at) in
    let two = tried_only t table hs at in
    let fs_ready = ready_on s gs fs one.comes ready in
    let fh_ready = ready_on t hs fh two.comes part_ready in
    let flong : length fs ≡ length gs = comes_long gs fs one.comes in
    let hlong : length fh ≡ length hs = comes_long hs fh two.comes in
    let o = contexts_at s table fs (from + at) in
    let p = contexts_at s table fh at in
    let seen = is_seen s.gdef s.lookup table (glyph_at gs (from + at)) in
    let seen_is : is_seen s.gdef s.lookup table (glyph_at hs at) ≡ seen = seen_same s.gdef s.lookup table is.flagless
    (glyph_at hs at)
    (glyph_at gs (from + at)) (alike.alike at lt) in
    let here : at < length fh = omega (arith, lt, hlong) in
    let there_too : from + at < length fs = omega (arith, there, flong) in
    let agrees = fit_agrees s.gdef sights table fh fs from at (looks_input s most table is) (looks_context s most table
    is)
    (taken_part s t fh fs from (part_only gs fs hs fh from one.same two.same alike) fh_ready fs_ready) here in
    let found : (m : Found) → o ≡ Some m → RuleFound s most fs (from + at) m = λ m e. rule_found s most table fs (from
    + at) m is fs_ready there_too e in
    let whole = step_result s table gs (from + at) r in
    let by_seen : Bool → Nested → PlaceChange = λ b n. (let c : PlaceChange = (if b then went_on at n
    else record { text = hs; next = at + 1; lookups = q }) in c) in
    subst (λ b. PartStepped from gs hs whole (by_seen b (nested_by t fh q p))) (sym seen_is)
    (subst (λ n. PartStepped from gs hs whole (by_seen seen n)) (sym (nested_beside s level concat len limit fh q p))
    (stepped_alike s gs fs hs fh from at r q seen o p is.flagless one.same two.same alike lt
    (subst (λ n. Agrees from (from + n) o p) hlong agrees)
    (λ m sees e. (let f = (found m e).within in
    looks_inside s fs last from (length hs) at m lt f.start (omega (arith, f.ends, f.looked)) f.stop
    (few_tried s most table gs fs (from + at) m is ready one there few e f.stop)
    (seen_comes s gs fs last (from + at) r seen o m sees e comes) clear.first clear.second))
    (λ m e. (rule_found t most table fh at m (is_beside s most table level concat len limit is) fh_ready here
    e).within)))

-- ---- ALONG A PART

-- the text when the lookup has gone over a part, and the part by itself
pub record WalkedPart (s : Setting) (most : ℕ) (table : List ℕ) (from : ℕ) (gs hs made : Glyphs) (whole : Along) : Type
    0 where
  pub steps : ℕ
  pub text : Glyphs
  pub lookups : LookupRecord
  pub same : whole ≡ lookup_applied steps (lookup_stepped s table) text (from + length hs) lookups
  pub alike : IsPartOf made text from
  pub outside : (j : ℕ) → LiesOutside from (length hs) j → essence (glyph_at text j) ≡ essence (glyph_at gs j)
  pub comes : ComesOf gs text
  pub enough : length gs ≤ from + length hs + steps
  pub left : most * steps ≤ lookups.operations_left
  pub few : (j : ℕ) → LookAtFew s.gdef s.lookup table (lookup_applied j (lookup_stepped s table) text (from + length
      hs) lookups).text

-- it goes over the rest of the part, if it can go over it to the text's end
abbrev Walks : (s : Setting) → ℕ → List ℕ → BufferClusterLevel → Bool → ℕ → ℕ → ℕ → ℕ → Type 0
Walks s most table level concat len limit n m =
    let t = beside s level concat len limit in
    (gs hs : Glyphs) (from at : ℕ) (r q : LookupRecord) →
    let whole = lookup_applied n (lookup_stepped s table) gs (from + at) r in
    IsReady s gs → IsReady t hs → IsPartOf hs gs from → most * n ≤ r.operations_left → most * m ≤ q.operations_left →
    length gs ≤ from + at + n → length hs ≤ at + m → at ≤ length hs → ClearEnds whole.text from (length hs) →
    ((j : ℕ) → LookAtFew s.gdef s.lookup table (lookup_applied j (lookup_stepped s table) gs (from + at) r).text) →
    WalkedPart s most table from gs hs (lookup_applied m (lookup_stepped t table) hs at q).text whole

walked_over : (s : Setting) (most : ℕ) (table : List ℕ) (t : Setting) (n m : ℕ) (gs hs : Glyphs) (from at : ℕ) (r q :
    LookupRecord)
    → IsPartOf hs gs from → most * n ≤ r.operations_left → length gs ≤ from + at + n → at ≡ length hs
    → ((j : ℕ) → LookAtFew s.gdef s.lookup table (lookup_applied j (lookup_stepped s table) gs (from + at) r).text)
    → WalkedPart s most table from gs hs (lookup_applied m (lookup_stepped t table) hs at q).text (lookup_applied n
    (lookup_stepped s table) gs (from + at) r)
walked_over s most table t n m gs hs from at r q alike le enough is few = record {
  steps = n;
  text = gs;
  lookups = r;
  same = ap (λ x. lookup_applied n (lookup_stepped s table) gs (from + x) r) is;
  alike = subst (λ (x : Along). IsPartOf x.text gs from) (sym (over_step (lookup_stepped t table) m hs at q (omega
      (arith, is)))) alike;
  outside = λ j out. refl;
  comes = comes_same gs;
  enough = omega (arith, enough, is);
  left = le;
  few = λ j. subst (λ x. LookAtFew s.gdef s.lookup table (lookup_applied j (lookup_stepped s table) gs (from + x)
      r).text) is (few j);
}

-- one step, and the rest
walk_on : (s : Setting) (most : ℕ) (table : List ℕ) (level : BufferClusterLevel) (concat : Bool) (len limit n m : ℕ)
    → IsContextual s most table → Walks s most table level concat len limit n m
    → (let t = beside s level concat len limit in
    (gs hs : Glyphs) (from at : ℕ) (r q : LookupRecord) →
    let whole = lookup_applied (suc n) (lookup_stepped s table) gs (from + at) r in
    IsReady s gs → IsReady t hs → IsPartOf hs gs from → most * suc n ≤ r.operations_left
    → most * suc m ≤ q.operations_left →
    length gs ≤ from + at + suc n → length hs ≤ at + suc m → at < length hs → ClearEnds whole.text from (length hs) →
    ((j : ℕ) → LookAtFew s.gdef s.lookup table (lookup_applied j (lookup_stepped s table) gs (from + at) r).text) →
    WalkedPart s most table from gs hs (lookup_applied (suc m) (lookup_stepped t table) hs at q).text whole)
walk_on s most table level concat len limit n m is walks gs hs from at r q ready part_ready alike le part_le enough
    part_enough lt clear few =
    let t = beside s level concat len limit in
    let is_part = is_beside s most table level concat len limit is in
    let there : from + at < length gs = omega (arith, lt, alike.within) in
    let c = step_result s table gs (from + at) r in
    let d = step_result t table hs at q in
    let rest = lookup_applied n (lookup_stepped s table) c.text c.next c.lookups in
    let have : most ≤ r.operations_left = omega (arith, le, more_times most n) in
    let part_have : most ≤ q.operations_left = omega (arith, part_le, more_times most m) in
    let one : (j : ℕ) → lookup_applied (suc j) (lookup_stepped s table) gs (from + at) r
    ≡ lookup_applied j (lookup_stepped s table) c.text c.next c.lookups = λ j.
    next_step (lookup_stepped s table) j gs (from + at) r c there (step_is s most table gs (from + at) r is ready there
    have) in
    let two : lookup_applied (suc m) (lookup_stepped t table) hs at q ≡ lookup_applied m (lookup_stepped t table)
    d.text d.next d.lookups =
    next_step (lookup_stepped t table) m hs at q d lt (step_is t most table hs at q is_part part_ready lt part_have) in
    let keeps = step_keeps s most table gs (from + at) r is ready there in
    let part_keeps = step_keeps t most table hs at q is_part part_ready lt in
    let c_ready = ready_on s gs c.text keeps.comes ready in
    let d_ready = ready_on t hs d.text part_keeps.comes part_ready in
    let left : most * n ≤ c.lookups.operations_left = omega (arith, le, more_times most n, keeps.left) in
    let part_left : most * m ≤ d.lookups.operations_left = omega (arith, part_le, more_times most m, part_keeps.left) in
    let comes = walk_comes s most table is n c.text c.next c.lookups c_ready left in
    let clear_rest : ClearEnds rest.text from (length hs) = subst (λ (x : Along). ClearEnds x.text from (length hs))
    (one n) clear in
    let nothing_yet : LookAtFew s.gdef s.lookup table gs = subst (λ (x : Along). LookAtFew s.gdef s.lookup table x.text)
    (no_step (lookup_stepped s table) gs (from + at) r) (few 0) in
    let it = step_alike s most table level concat len limit gs hs rest.text from at r q is ready part_ready alike lt
    nothing_yet comes clear_rest in
    let long : length c.text ≡ length gs = comes_long gs c.text keeps.comes in
    let part_long : length d.text ≡ length hs = comes_long hs d.text part_keeps.comes in
    let few_rest : (j : ℕ) → LookAtFew s.gdef s.lookup table (lookup_applied j (lookup_stepped s table) c.text (from +
    d.next) c.lookups).text =
    λ j. subst (λ x. LookAtFew s.gdef s.lookup table (lookup_applied j (lookup_stepped s table) c.text x
    c.lookups).text) it.next
    (subst (λ (x : Along). LookAtFew s.gdef s.lookup table x.text) (one j) (few (suc j))) in
    let moved : rest ≡ lookup_applied n (lookup_stepped s table) c.text (from + d.next) c.lookups =
    ap (λ x. lookup_applied n (lookup_stepped s table) c.text x c.lookups) it.next in
    let more = walks c.text d.text from d.next c.lookups d.lookups c_ready d_ready it.alike left part_left
    (omega (arith, enough, long, it.next, keeps.rises)) (omega (arith, part_enough, part_long, part_keeps.rises))
    (omega (arith, it.inside, part_long))
    (subst (λ (x : Along). ClearEnds x.text from (length d.text)) moved (subst (ClearEnds rest.text from) (sym
    part_long) clear_rest)) few_rest in
    record {
      steps = more.steps;
      text = more.text;
      lookups = more.lookups;
      same = one n ∙ moved ∙ more.same ∙ ap (λ x. lookup_applied more.steps (lookup_stepped s table) more.text (from +
          x) more.lookups) part_long;
      alike = subst (λ (x : Along). IsPartOf x.text more.text from) (sym two) more.alike;
      outside = λ j out. more.outside j (subst (λ x. LiesOutside from x j) (sym part_long) out) ∙ it.outside j out;
      comes = comes_on gs c.text more.text keeps.comes more.comes;
      enough = omega (arith, more.enough, long, part_long);
      left = more.left;
      few = λ j. subst (λ x. LookAtFew s.gdef s.lookup table (lookup_applied j (lookup_stepped s table) more.text (from
          + x) more.lookups).text) part_long (more.few j);
    }

pub walked : (s : Setting) (most : ℕ) (table : List ℕ) (level : BufferClusterLevel) (concat : Bool) (len limit : ℕ)
    → IsContextual s most table → (n m : ℕ) → Walks s most table level concat len limit n m
walked s most table level concat len limit is n zero gs hs from at r q ready part_ready alike le part_le enough
    part_enough inside clear few =
    walked_over s most table (beside s level concat len limit) n zero gs hs from at r q alike le enough (omega (
      arith,
      inside,
      part_enough,
    )) few
walked s most table level concat len limit is zero (suc m) gs hs from at r q ready part_ready alike le part_le enough
    part_enough inside clear few =
    walked_over s most table (beside s level concat len limit) zero (suc m) gs hs from at r q alike le enough
    (omega (arith, inside, enough, alike.within)) few
walked s most table level concat len limit is (suc n) (suc m) gs hs from at r q ready part_ready alike le part_le
    enough part_enough inside clear few =
    elim (inside_or at (length hs)) [
      | inl lt ↦ walk_on s most table level concat len limit n m is (walked s most table level concat len limit is n m)
          gs hs from at r q
          ready part_ready alike le part_le enough part_enough lt clear few
      | inr over ↦ walked_over s most table (beside s level concat len limit) (suc n) (suc m) gs hs from at r q alike
          le enough
          (omega (arith, inside, over)) few
    ]

-- ---- TWO PARTS

-- glyph by glyph, but for what such a lookup doesn't tell apart
pub record MadeBeside (last one two : Glyphs) (p : ℕ) : Type 0 where
  pub first : (i : ℕ) → i < length one → essence (glyph_at one i) ≡ essence (glyph_at last i)
  pub second : (i : ℕ) → i < length two → essence (glyph_at two i) ≡ essence (glyph_at last (p + i))

abbrev pub made_along : Setting → List ℕ → Glyphs → LookupRecord → Glyphs
made_along s table gs r = (lookup_applied (length gs) (lookup_stepped s table) gs 0 r).text

pub two_parts : (s t u : Setting) (most : ℕ) (table : List ℕ) → (let a = beside s t.level t.concat t.len t.limit in
    let b = beside s u.level u.concat u.len u.limit in IsContextual s most table
    → (gs hs is : Glyphs) (r q v : LookupRecord) → IsReady s gs → IsReady a hs → IsReady b is → IsPartOf hs gs 0
    → IsPartOf is gs (length hs) → length gs ≡ length hs + length is
    → most * length gs ≤ r.operations_left → most * length hs ≤ q.operations_left → most * length is ≤ v.operations_left
    → ClearAt (made_along s table gs r) (length hs)
    → ((j : ℕ) → LookAtFew s.gdef s.lookup table (lookup_applied j (lookup_stepped s table) gs 0 r).text)
    → MadeBeside (made_along s table gs r) (made_along a table hs q) (made_along b table is v) (length hs))
two_parts s t u most table contextual gs hs is r q v ready one_ready two_ready one two whole le one_le two_le clear few
    =
    let a = beside s t.level t.concat t.len t.limit in
    let b = beside s u.level u.concat u.len u.limit in
    let p = length hs in
    let last = made_along s table gs r in
    let long : length last ≡ length gs = comes_long gs last (walk_comes s most table contextual (length gs) gs 0 r
    ready le) in
    let start : 0 + p ≡ p = omega arith in
    let low : ClearAt last 0 = λ some lt. absurd (omega (arith, some)) in
    let first = walked s most table t.level t.concat t.len t.limit contextual (length gs) p gs hs 0 0 r q ready
    one_ready one le one_le
    (omega arith) (omega arith) (omega arith) (record { first = low; second = subst (ClearAt last) (sym start) clear })
    few in
    let mid_ready = ready_on s gs first.text first.comes ready in
    let mid_long : length first.text ≡ length gs = comes_long gs first.text first.comes in
    let mid_two : IsPartOf is first.text p = record {
      within = omega (arith, mid_long, whole);
      alike = λ i lt. two.alike i lt ∙ sym (first.outside (p + i) (inr (omega arith)));
    } in
    let places : 0 + p ≡ p + 0 = omega arith in
    let end_same : made_along s table gs r ≡ (lookup_applied first.steps (lookup_stepped s table) first.text (p + 0)
    first.lookups).text =
    ap (λ (x : Along). x.text) (first.same ∙ ap (λ x. lookup_applied first.steps (lookup_stepped s table) first.text x
    first.lookups) places) in
    let high : ClearAt last (p + length is) = λ some lt. absurd (omega (arith, lt, long, whole)) in
    let second = walked s most table u.level u.concat u.len u.limit contextual first.steps (length is) first.text is p
    0 first.lookups v
    mid_ready two_ready mid_two first.left two_le (omega (arith, first.enough, mid_long)) (omega arith) (omega arith)
    (subst (λ x. ClearEnds x p (length is)) end_same (record { first = clear; second = high }))
    (λ j. subst (λ x. LookAtFew s.gdef s.lookup table (lookup_applied j (lookup_stepped s table) first.text x
    first.lookups).text) places (first.few j)) in
    let end_long : length second.text ≡ length first.text = comes_long first.text second.text second.comes in
    let over = over_step (lookup_stepped s table) second.steps second.text (p + length is) second.lookups
    (omega (arith, end_long, mid_long, whole)) in
    let end : last ≡ second.text = end_same ∙ ap (λ (x : Along). x.text) (second.same ∙ over) in
    record {
      first = λ i lt. (let inside : i < p = omega (
        arith,
        lt,
        comes_long hs (made_along a table hs q)
            (walk_comes a most table (is_beside s most table t.level t.concat t.len t.limit contextual) p hs 0 q
            one_ready one_le),
      ) in
          let z : 0 + i ≡ i = omega arith in
          first.alike.alike i lt ∙ ap (λ x. essence (glyph_at first.text x)) z ∙ sym (second.outside i (inl inside))
          ∙ ap (λ x. essence (glyph_at x i)) (sym end));
      second = λ i lt. second.alike.alike i lt ∙ ap (λ x. essence (glyph_at x (p + i))) (sym end);
    }

-- ---- SHORT TEXTS: each rule flags what it looked at

times_more : (most k : ℕ) → most * suc k ≡ most * k + most
times_more most k = omega arith

walk_within : (s : Setting) (most : ℕ) (table : List ℕ) → IsContextual s most table
    → (n k : ℕ) (gs : Glyphs) (at : ℕ) (r : LookupRecord)
    → IsReady s gs → length gs ≤ at + k → most * k ≤ r.operations_left
    → ComesOf gs (lookup_applied n (lookup_stepped s table) gs at r).text
walk_within s most table is zero k gs at r ready short le =
    subst (λ (x : Along). ComesOf gs x.text) (sym (no_step (lookup_stepped s table) gs at r)) (comes_same gs)
walk_within s most table is (suc n) zero gs at r ready short le =
    subst (λ (x : Along). ComesOf gs x.text) (sym (over_step (lookup_stepped s table) (suc n) gs at r (omega (
      arith,
      short,
    )))) (comes_same gs)
walk_within s most table is (suc n) (suc k) gs at r ready short le = elim (inside_or at (length gs)) [
  | inl lt ↦ (let c = step_result s table gs at r in
      let enough : most ≤ r.operations_left = omega (arith, le, times_more most k) in
      let keeps = step_keeps s most table gs at r is ready lt in
      subst (λ (x : Along). ComesOf gs x.text)
      (sym (next_step (lookup_stepped s table) n gs at r c lt (step_is s most table gs at r is ready lt enough)))
      (comes_on gs c.text (lookup_applied n (lookup_stepped s table) c.text c.next c.lookups).text keeps.comes
      (walk_within s most table is n k c.text c.next c.lookups (ready_on s gs c.text keeps.comes ready)
      (omega (arith, short, comes_long gs c.text keeps.comes, keeps.rises)) (omega (
        arith,
        le,
        times_more most k,
        keeps.left,
      )))))
  | inr over ↦ subst (λ (x : Along). ComesOf gs x.text) (sym (over_step (lookup_stepped s table) (suc n) gs at r over))
      (comes_same gs)
]

if_each : (P : Found → Type 0) (o : Option Found) → ((m : Found) → o ≡ Some m → P m) → IfSome o P
if_each P None each = tt
if_each P (Some m) each = each m refl

pub short_flags : (s : Setting) (most : ℕ) (table : List ℕ) → IsContextual s most table
    → (gs : Glyphs) (r : LookupRecord) → IsReady s gs
    → most * length gs ≤ r.operations_left → length gs ≤ 255
    → (steps : ℕ) → LookAtFew s.gdef s.lookup table (lookup_applied steps (lookup_stepped s table) gs 0 r).text
short_flags s most table is gs r ready le few steps at lt =
    let made = (lookup_applied steps (lookup_stepped s table) gs 0 r).text in
    let comes = walk_within s most table is steps (length gs) gs 0 r ready (omega arith) le in
    let long : length made ≡ length gs = comes_long gs made comes in
    if_each (λ m. m.stop - m.start ≤ 255) (contexts_at s table made at)
    (λ m e. omega (
      arith,
      few,
      long,
      (rule_found s most table made at m is (ready_on s gs made comes ready) lt
          e).within.stop,
    ))

-- ---- OPERATIONS that a walk leaves

walk_left : (s : Setting) (most : ℕ) (table : List ℕ) → IsContextual s most table
    → (n k : ℕ) (gs : Glyphs) (at : ℕ) (r : LookupRecord)
    → IsReady s gs → length gs ≤ at + k → most * k ≤ r.operations_left
    → r.operations_left ≤ (lookup_applied n (lookup_stepped s table) gs at r).lookups.operations_left + most * k
walk_left s most table is zero k gs at r ready short le =
    subst (λ (x : Along). r.operations_left ≤ x.lookups.operations_left + most * k) (sym (no_step (lookup_stepped s
    table) gs at r)) (omega arith)
walk_left s most table is (suc n) zero gs at r ready short le =
    subst (λ (x : Along). r.operations_left ≤ x.lookups.operations_left + most * 0)
    (sym (over_step (lookup_stepped s table) (suc n) gs at r (omega (arith, short)))) (omega arith)
walk_left s most table is (suc n) (suc k) gs at r ready short le = elim (inside_or at (length gs)) [
  | inl lt ↦ (let c = step_result s table gs at r in
      let enough : most ≤ r.operations_left = omega (arith, le, times_more most k) in
      let keeps = step_keeps s most table gs at r is ready lt in
      let rest = walk_left s most table is n k c.text c.next c.lookups (ready_on s gs c.text keeps.comes ready)
      (omega (arith, short, comes_long gs c.text keeps.comes, keeps.rises)) (omega (
        arith,
        le,
        times_more most k,
        keeps.left,
      )) in
      subst (λ (x : Along). r.operations_left ≤ x.lookups.operations_left + most * suc k)
      (sym (next_step (lookup_stepped s table) n gs at r c lt (step_is s most table gs at r is ready lt enough)))
      (omega (arith, rest, keeps.left, times_more most k)))
  | inr over ↦ subst (λ (x : Along). r.operations_left ≤ x.lookups.operations_left + most * suc k)
      (sym (over_step (lookup_stepped s table) (suc n) gs at r over)) (omega arith)
]

pub operations_left_by : (s : Setting) (most : ℕ) (table : List ℕ) → IsContextual s most table
    → (gs : Glyphs) (r : LookupRecord) → IsReady s gs
    → most * length gs ≤ r.operations_left
    → r.operations_left ≤ (lookup_applied (length gs) (lookup_stepped s table) gs 0 r).lookups.operations_left + most *
    length gs
operations_left_by s most table is gs r ready le = walk_left s most table is (length gs) (length gs) gs 0 r ready
    (omega arith) le
