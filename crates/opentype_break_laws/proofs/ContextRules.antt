-- The rule of contexts that fits a part of a text that stands by itself is the one that fits the text there.
use Rattle.std.proofs.Common.{ℕ, zero, suc, ◌+◌, ◌-◌, ◌^◌, ◌%◌, ◌<◌, ◌≤◌, ◌≡◌, ◌==◌, if◌then◌else◌, Bool, true, false, is_some, List, [], ◌∷◌, length, Option, None, Some, option_and_then, option_map, refl, sym, ap, subst, ◌∙◌, arith}
use Rattle.std.specs.List.{AllByRecursion}
use Rattle.std.specs.Prelude.{IfSome}
use Rattle.shapers_buffer.specs.Glyphs.{Glyph, Glyphs}
use Rattle.opentype_face.specs.Bytes.{table_at, u16_in}
use Rattle.opentype_face.specs.Firsts.{first_from, or_else}
use Rattle.opentype_face.specs.Glyphs.{class_in, coverage_in}
use Rattle.opentype_face.specs.Lookups.{subtable_in, subtables_in, type_in}
use Rattle.opentype_layout.specs.Ligatures.{input_in}
use Rattle.opentype_layout.specs.Looking.{RuleList, context_rules, entries_in, one_in}
use Rattle.opentype_layout.specs.Pattern.{next_in, places_from, previous_in}
use Rattle.opentype_layout.specs.Rules.{Found, Sought, by_glyphs, context_in, end_in, first_at, first_in, found_at, kind_in, nth_in, reach_before, reach_behind, reach_from, rule_in, set_in, sets_at}
use Rattle.opentype_layout.specs.Text.{glyph_at}
use Rattle.opentype_layout.specs.declared.sight.Sight.{Sight}
use Rattle.opentype_gsub.specs.declared.pass.Sights.{Sights}
use Rattle.opentype_break_laws.specs.Contexts.{EachRule, context_fit}
use Rattle.opentype_break_laws.proofs.LigatureFits.{input_climbs, places_behind, together_here}
use Rattle.opentype_break_laws.proofs.LigatureModel.{climbs_last, last_of}
use Rattle.opentype_break_laws.proofs.ContextFits.{FitsBy, IsTakenPart, LooksAtFeatures, PlacesBack, backward, before_within, by_fit, end_moved, fits_by, fitted, forward, found_within, places_back, places_found, reach_found, reach_kept}

-- ---- THE PARTS OF A FIT, in a part and in the text

input_found : (gdef : List ℕ) (sight : Sight) (test : ℕ → ℕ → Bool) (count : ℕ) (part text : Glyphs) (from at : ℕ) (ps
    : List ℕ)
    → LooksAtFeatures sight → IsTakenPart part text from → input_in gdef sight test count part at ≡ Some ps
    → input_in gdef sight test count text (from + at) ≡ Some (places_behind from ps)
unfolding input_in
input_found gdef sight test count part text from at ps looks taken e =
    let here = places_from count (next_in gdef sight test part) 0 (at + 1) in
    let there = places_from count (next_in gdef sight test text) 0 (from + at + 1) in
    let on : from + (at + 1) ≡ from + at + 1 = omega arith in
    together_here gdef sight text (from + at) there taken.there
    ∙ subst (λ x. places_from count (next_in gdef sight test text) 0 x ≡ Some (places_behind from ps)) on
    (places_found count (next_in gdef sight test part) (next_in gdef sight test text) from (length part)
    (forward gdef sight test part text from looks taken) 0 (at + 1) ps (sym (together_here gdef sight part at here
    taken.here) ∙ e))

input_back : (gdef : List ℕ) (sight : Sight) (test : ℕ → ℕ → Bool) (count : ℕ) (part text : Glyphs) (from at : ℕ) (qs :
    List ℕ)
    → LooksAtFeatures sight → IsTakenPart part text from → input_in gdef sight test count text (from + at) ≡ Some qs
    → AllByRecursion (λ q. q < from + length part) qs → PlacesBack (input_in gdef sight test count part at) from qs
unfolding input_in
input_back gdef sight test count part text from at qs looks taken e all =
    let here = places_from count (next_in gdef sight test part) 0 (at + 1) in
    let there = places_from count (next_in gdef sight test text) 0 (from + at + 1) in
    let on : from + at + 1 ≡ from + (at + 1) = omega arith in
    let found : there ≡ Some qs = sym (together_here gdef sight text (from + at) there taken.there) ∙ e in
    subst (λ o. PlacesBack o from qs) (sym (together_here gdef sight part at here taken.here))
    (places_back count (next_in gdef sight test part) (next_in gdef sight test text) from (length part)
    (forward gdef sight test part text from looks taken) 0 (at + 1) qs
    (subst (λ x. places_from count (next_in gdef sight test text) 0 x ≡ Some qs) on found) all)

behind_found : (gdef : List ℕ) (sight : Sight) (test : ℕ → ℕ → Bool) (count : ℕ) (part text : Glyphs) (from at e : ℕ)
    → LooksAtFeatures sight → IsTakenPart part text from → reach_behind gdef sight test count part at ≡ Some e
    → reach_behind gdef sight test count text (from + at) ≡ Some (from + e)
unfolding reach_behind
behind_found gdef sight test count part text from at e looks taken is =
    reach_found count (next_in gdef sight test part) (next_in gdef sight test text) from (length part)
    (forward gdef sight test part text from looks taken) 0 at e is

behind_back : (gdef : List ℕ) (sight : Sight) (test : ℕ → ℕ → Bool) (count : ℕ) (part text : Glyphs) (from at e : ℕ)
    → LooksAtFeatures sight → IsTakenPart part text from → e ≤ length part
    → reach_behind gdef sight test count text (from + at) ≡ Some (from + e)
    → reach_behind gdef sight test count part at ≡ Some e
unfolding reach_behind
behind_back gdef sight test count part text from at e looks taken le is =
    reach_kept count (next_in gdef sight test part) (next_in gdef sight test text) from (length part)
    (forward gdef sight test part text from looks taken) 0 at e le is

before_found : (gdef : List ℕ) (sight : Sight) (test : ℕ → ℕ → Bool) (count : ℕ) (part text : Glyphs) (from at e : ℕ)
    → LooksAtFeatures sight → IsTakenPart part text from → at < length part
    → reach_before gdef sight test count part at ≡ Some e
    → reach_before gdef sight test count text (from + at) ≡ Some e
unfolding reach_before
before_found gdef sight test count part text from at e looks taken lt is =
    let z : 0 + e ≡ e = omega arith in
    subst (λ x. reach_from count (previous_in gdef sight test text (from + at)) 0 0 ≡ Some x) z
    (reach_found count (previous_in gdef sight test part at) (previous_in gdef sight test text (from + at)) 0 at
    (backward gdef sight test part text from at looks taken lt) 0 0 e is)

before_back : (gdef : List ℕ) (sight : Sight) (test : ℕ → ℕ → Bool) (count : ℕ) (part text : Glyphs) (from at e : ℕ)
    → LooksAtFeatures sight → IsTakenPart part text from → at < length part → e ≤ at
    → reach_before gdef sight test count text (from + at) ≡ Some e → reach_before gdef sight test count part at ≡ Some e
unfolding reach_before
before_back gdef sight test count part text from at e looks taken lt le is =
    let z : e ≡ 0 + e = omega arith in
    reach_kept count (previous_in gdef sight test part at) (previous_in gdef sight test text (from + at)) 0 at
    (backward gdef sight test part text from at looks taken lt) 0 0 e le
    (subst (λ x. reach_from count (previous_in gdef sight test text (from + at)) 0 0 ≡ Some x) z is)

-- ---- A RULE THAT FITS, moved

abbrev pub moved_found : ℕ → Found → Found
moved_found from m = record {
  records = m.records;
  count = m.count;
  places = places_behind from m.places;
  end = from + m.end;
  start = from + m.start;
  stop = from + m.stop;
}

fitted_moved : (rule : Sought) (from at : ℕ) (ps : List ℕ) (stop back : ℕ) → back ≤ at
    → from + last_of at ps + 1 < 2 ^ 64
    → moved_found from (fitted rule at ps stop back) ≡ fitted rule (from + at) (places_behind from ps) (from + stop)
    back
fitted_moved rule from at ps stop back le lt =
    let low : from + (at - back) ≡ from + at - back = omega (arith, le) in
    let made : ℕ → ℕ → Found = λ e s. record {
      records = rule.records;
      count = rule.count;
      places = places_behind from (at ∷ ps);
      end = e;
      start = s;
      stop = from + stop;
    } in
    ap (λ e. made e (from + (at - back))) (sym (end_moved from at ps lt))
    ∙ ap (made (end_in (from + at) (places_behind from ps))) low

-- in the text, too
fit_found : (gdef : List ℕ) (input context : Sight) (part text : Glyphs) (from at : ℕ) (rule : Sought) (m : Found)
    → LooksAtFeatures input → LooksAtFeatures context → IsTakenPart part text from → at < length part
    → FitsBy gdef input context part at rule m → FitsBy gdef input context text (from + at) rule (moved_found from m)
fit_found gdef input context part text from at rule m one two taken lt fit =
    let ps = fit.places in
    let climbs = input_climbs gdef input rule.input (rule.input_count - 1) part at ps taken.here fit.taken in
    let last = climbs_last at ps (length part) lt climbs in
    let small : from + last_of at ps + 1 < 2 ^ 64 = omega (arith, last.1.0, taken.size, taken.alike.within) in
    let back_low = before_within gdef context rule.before rule.before_count part at fit.back fit.before in
    record {
      some = fit.some;
      few = fit.few;
      places = places_behind from ps;
      stop = from + fit.stop;
      back = fit.back;
      taken = input_found gdef input rule.input (rule.input_count - 1) part text from at ps one taken fit.taken;
      behind = ap (reach_behind gdef context rule.behind rule.behind_count text) (end_moved from at ps small)
          ∙ behind_found gdef context rule.behind rule.behind_count part text from (end_in at ps) fit.stop two taken
          fit.behind;
      before = before_found gdef context rule.before rule.before_count part text from at fit.back two taken lt
          fit.before;
      is = ap (moved_found from) fit.is ∙ fitted_moved rule from at ps fit.stop fit.back back_low small;
    }

-- a rule that fits the part, as the text has it
pub record FitsPart (gdef : List ℕ) (input context : Sight) (part : Glyphs) (from at : ℕ) (rule : Sought) (m : Found) :
    Type 0 where
  pub here : Found
  pub fits : FitsBy gdef input context part at rule here
  pub moved : m ≡ moved_found from here

pub below_all : (n : ℕ) (start end : ℕ) (ps : List ℕ) → end ≤ n → AllByRecursion (λ q. (start ≤ q) × (q < end)) ps
    → AllByRecursion (λ q. q < n) ps
below_all n start end [] le all = tt
below_all n start end (p ∷ ps) le all = (omega (arith, le, all.0.1), below_all n start end ps le all.1)

fit_back : (gdef : List ℕ) (input context : Sight) (part text : Glyphs) (from at : ℕ) (rule : Sought) (m : Found)
    → LooksAtFeatures input → LooksAtFeatures context → IsTakenPart part text from → at < length part
    → from ≤ m.start → m.stop ≤ from + length part → FitsBy gdef input context text (from + at) rule m
    → FitsPart gdef input context part from at rule m
fit_back gdef input context part text from at rule m one two taken lt low high fit =
    let inside : from + at < length text = omega (arith, lt, taken.alike.within) in
    let w = found_within gdef input context text (from + at) rule m taken.there taken.size inside fit in
    let qs = fit.places in
    let start : m.start ≡ from + at - fit.back = ap (λ (x : Found). x.start) fit.is in
    let end : m.end ≡ end_in (from + at) qs = ap (λ (x : Found). x.end) fit.is in
    let stop : m.stop ≡ fit.stop = ap (λ (x : Found). x.stop) fit.is in
    let all = subst (AllByRecursion (λ q. (m.start ≤ q) × (q < m.end))) (ap (λ (x : Found). x.places) fit.is) w.places
    in
    let it = input_back gdef input rule.input (rule.input_count - 1) part text from at qs one taken fit.taken
    (below_all (from + length part) m.start m.end qs (omega (arith, w.looked, high)) all.1) in
    let ps = it.places in
    let climbs = input_climbs gdef input rule.input (rule.input_count - 1) part at ps taken.here it.found in
    let last = climbs_last at ps (length part) lt climbs in
    let small : from + last_of at ps + 1 < 2 ^ 64 = omega (arith, last.1.0, taken.size, taken.alike.within) in
    let ends : end_in (from + at) qs ≡ from + end_in at ps = ap (end_in (from + at)) it.moved
    ∙ end_moved from at ps small in
    let back_low = before_within gdef context rule.before rule.before_count text (from + at) fit.back fit.before in
    let back_in : fit.back ≤ at = omega (arith, low, start, back_low) in
    let away : ℕ = fit.stop - from in
    let moved : fit.stop ≡ from + away = omega (arith, w.looked, end, ends, stop) in
    let behind : reach_behind gdef context rule.behind rule.behind_count text (from + end_in at ps) ≡ Some (from +
    away) =
    ap (reach_behind gdef context rule.behind rule.behind_count text) (sym ends) ∙ fit.behind ∙ ap Some moved in
    record {
      here = fitted rule at ps away fit.back;
      fits = record {
        some = fit.some;
        few = fit.few;
        places = ps;
        stop = away;
        back = fit.back;
        taken = it.found;
        behind = behind_back gdef context rule.behind rule.behind_count part text from (end_in at ps) away two taken
            (omega (arith, high, stop, moved)) behind;
        before = before_back gdef context rule.before rule.before_count part text from at fit.back two taken lt back_in
            fit.before;
        is = refl;
      };
      moved = fit.is ∙ ap (λ l. fitted rule (from + at) l fit.stop fit.back) it.moved
          ∙ ap (λ s. fitted rule (from + at) (places_behind from ps) s fit.back) moved
          ∙ sym (fitted_moved rule from at ps away fit.back back_in small);
    }

-- ---- WHAT FITS, in the part and in the text

-- Where nothing fits the text there, nothing fits the part; and what fits and looks at the part alone fits the part.
pub record Agrees (from end : ℕ) (there here : Option Found) : Type 0 where
  pub none : there ≡ None → here ≡ None
  pub some : (m : Found) → there ≡ Some m → from ≤ m.start → m.stop ≤ end
      → (it : Found) × ((here ≡ Some it) × (m ≡ moved_found from it))

agree_none : (from end : ℕ) → Agrees from end None None
agree_none from end = record { none = λ e. refl; some = λ m e low high. absurd (cc) }

agree_or : (from end : ℕ) (o p r s : Option Found) → Agrees from end o p → Agrees from end r s
    → Agrees from end (or_else o r) (or_else p s)
agree_or from end None p r s one rest = subst (λ x. Agrees from end r (or_else x s)) (sym (one.none refl)) rest
agree_or from end (Some x) p r s one rest = record {
  none = λ e. absurd (cc);
  some = λ m e low high. (let it = one.some m e low high in (it.0, (ap (λ y. or_else y s) it.1.0, it.1.1)));
}

agree_first : (from end : ℕ) (f h : ℕ → Option Found) (n i : ℕ) → ((j : ℕ) → Agrees from end (f j) (h j))
    → Agrees from end (first_from n f i) (first_from n h i)
unfolding first_from
agree_first from end f h zero i each = agree_none from end
agree_first from end f h (suc n) i each =
    agree_or from end (f i) (h i) (first_from n f (i + 1)) (first_from n h (i + 1)) (each i) (agree_first from end f h
    n (i + 1) each)

agree_then : (from end : ℕ) (f h : RuleList → Option Found) (o : Option RuleList) → ((rules : RuleList)
    → Agrees from end (f rules) (h rules))
    → Agrees from end (option_and_then f o) (option_and_then h o)
agree_then from end f h None each = agree_none from end
agree_then from end f h (Some rules) each = each rules

lost_too : (from : ℕ) (there here : Option Found) → ((m : Found) → here ≡ Some m → there ≡ Some (moved_found from m))
    → there ≡ None → here ≡ None
lost_too from there None on e = refl
lost_too from there (Some m) on e =
    let some = on m refl in absurd (cc)

found_agrees : (gdef : List ℕ) (input context : Sight) (part text : Glyphs) (from at : ℕ) (rule : Sought)
    → LooksAtFeatures input → LooksAtFeatures context → IsTakenPart part text from → at < length part
    → Agrees from (from + length part) (found_at gdef input context text (from + at) rule) (found_at gdef input context
    part at rule)
found_agrees gdef input context part text from at rule one two taken lt = record {
  none = lost_too from (found_at gdef input context text (from + at) rule) (found_at gdef input context part at rule)
      (λ m e. by_fit gdef input context text (from + at) rule (moved_found from m)
      (fit_found gdef input context part text from at rule m one two taken lt (fits_by gdef input context part at rule
      m e)));
  some = λ m e low high. (let it = fit_back gdef input context part text from at rule m one two taken lt low high
      (fits_by gdef input context text (from + at) rule m e) in
      (it.here, (by_fit gdef input context part at rule it.here it.fits, it.moved)));
}

-- ---- THE RULES OF A SUBTABLE

abbrev pub first_rule : List ℕ → Sight → Sight → Glyphs → ℕ → RuleList → Option Found
first_rule gdef input context gs at rules = first_from rules.count (λ j. found_at gdef input context gs at (rules.rule
    j)) 0

alone : (o : Option Found) → or_else o None ≡ o
alone None = refl
alone (Some m) = refl

one_alone : (gdef : List ℕ) (input context : Sight) (gs : Glyphs) (at : ℕ) (rules : RuleList) (rule : Sought)
    → rules.count ≡ 1
    → rules.rule 0 ≡ rule → first_rule gdef input context gs at rules ≡ found_at gdef input context gs at rule
unfolding first_from
one_alone gdef input context gs at rules rule one is =
    ap (λ n. first_from n (λ j. found_at gdef input context gs at (rules.rule j)) 0) one
    ∙ alone (found_at gdef input context gs at (rules.rule 0)) ∙ ap (found_at gdef input context gs at) is

rules_by : (one two three some : Bool) (covered : Option ℕ) (by : Option ℕ → Option Found) (f : RuleList → Option Found)
    (each : ℕ → RuleList) (classes third : RuleList) (x : Option Found) → by None ≡ None → ((n : ℕ)
    → by (Some n) ≡ f (each n))
    → f third ≡ x → (let o : Option Found = (if one then by covered else (if two then (if is_some covered then f
    classes else None)
    else (if three then (if some then x else None) else None))) in o)
    ≡ option_and_then f (let o : Option RuleList = (if one then option_map each covered
    else (if two then (if is_some covered then Some classes else None) else (if three then (if some then Some third
    else None) else None))) in o)
rules_by true two three some None by f each classes third x none each_is is = none
rules_by true two three some (Some n) by f each classes third x none each_is is = each_is n
rules_by false true three some None by f each classes third x none each_is is = refl
rules_by false true three some (Some n) by f each classes third x none each_is is = refl
rules_by false false true true covered by f each classes third x none each_is is = sym is
rules_by false false true false covered by f each classes third x none each_is is = refl
rules_by false false false some covered by f each classes third x none each_is is = refl

context_is : (chained : Bool) (gdef : List ℕ) (input context : Sight) (bytes : List ℕ) (gs : Glyphs) (at : ℕ)
    → context_in chained gdef input context bytes gs at ≡ option_and_then (first_rule gdef input context gs at)
    (context_rules chained bytes ((glyph_at gs at).glyph_id % 65536))
unfolding context_in context_rules by_glyphs first_in nth_in
context_is chained gdef input context bytes gs at =
    let glyph = (glyph_at gs at).glyph_id % 65536 in
    let tables = kind_in chained bytes in
    let format = u16_in bytes 0 in
    rules_by (format == 1) (format == 2) (format == 3)
    (is_some (coverage_in (table_at bytes (u16_in bytes (first_at chained bytes))) glyph))
    (coverage_in (table_at bytes (u16_in bytes 2)) glyph) (by_glyphs gdef input context tables bytes gs at)
    (first_rule gdef input context gs at) (λ number. entries_in tables (set_in bytes 4 number))
    (entries_in tables (set_in bytes (sets_at chained) (class_in tables.input glyph))) (one_in tables bytes)
    (found_at gdef input context gs at (rule_in tables bytes)) refl (λ n. refl)
    (one_alone gdef input context gs at (one_in tables bytes) (rule_in tables bytes) refl refl)

-- ---- THE RULE OF A LOOKUP that fits

pub fit_agrees : (gdef : List ℕ) (sights : Sights) (table : List ℕ) (part text : Glyphs) (from at : ℕ)
    → LooksAtFeatures sights.input → LooksAtFeatures sights.context → IsTakenPart part text from → at < length part
    → Agrees from (from + length part) (context_fit gdef sights table text (from + at)) (context_fit gdef sights table
    part at)
unfolding context_fit
fit_agrees gdef sights table part text from at one two taken lt =
    let end : ℕ = from + length part in
    let number : (glyph_at text (from + at)).glyph_id % 65536 ≡ (glyph_at part at).glyph_id % 65536 =
    ap (λ (g : Glyph). g.glyph_id % 65536) (sym (taken.alike.alike at lt)) in
    let here : Bool → List ℕ → Option Found = λ chained bytes. context_in chained gdef sights.input sights.context
    bytes part at in
    let there : Bool → List ℕ → Option Found = λ chained bytes. context_in chained gdef sights.input sights.context
    bytes text (from + at) in
    let f = first_rule gdef sights.input sights.context text (from + at) in
    let h = first_rule gdef sights.input sights.context part at in
    let each : (chained : Bool) (bytes : List ℕ) → Agrees from end (there chained bytes) (here chained bytes) = λ
    chained bytes.
    (let o = context_rules chained bytes ((glyph_at part at).glyph_id % 65536) in
    let there_is : there chained bytes ≡ option_and_then f o = context_is chained gdef sights.input sights.context
    bytes text (from + at)
    ∙ ap (λ n. option_and_then f (context_rules chained bytes n)) number in
    subst (λ x. Agrees from end x (here chained bytes)) (sym there_is)
    (subst (λ x. Agrees from end (option_and_then f o) x) (sym (context_is chained gdef sights.input sights.context
    bytes part at))
    (agree_then from end f h o (λ rules. agree_first from end (λ j. found_at gdef sights.input sights.context text
    (from + at) (rules.rule j))
    (λ j. found_at gdef sights.input sights.context part at (rules.rule j)) rules.count 0
    (λ j. found_agrees gdef sights.input sights.context part text from at (rules.rule j) one two taken lt))))) in
    agree_first from end (λ i. there (type_in 7 table i == 6) (subtable_in 7 table i)) (λ i. here (type_in 7 table i ==
    6) (subtable_in 7 table i))
    (subtables_in table) 0 (λ i. each (type_in 7 table i == 6) (subtable_in 7 table i))

or_gives : (Goal : Type 0) (o p : Option Found) (m : Found) → (o ≡ Some m → Goal) → (p ≡ Some m → Goal)
    → or_else o p ≡ Some m → Goal
or_gives Goal None p m one rest e = rest e
or_gives Goal (Some x) p m one rest e = one e

first_gives : (Goal : Type 0) (h : ℕ → Option Found) (m : Found) (n i : ℕ) → ((j : ℕ) → j < i + n → h j ≡ Some m → Goal)
    → first_from n h i ≡ Some m → Goal
unfolding first_from
first_gives Goal h m zero i gives e = absurd (cc)
first_gives Goal h m (suc n) i gives e =
    or_gives Goal (h i) (first_from n h (i + 1)) m (gives i (omega arith))
    (first_gives Goal h m n (i + 1) (λ j lt. gives j (omega (arith, lt)))) e

rules_give : (Goal : Type 0) (P : Sought → Type 0) (gdef : List ℕ) (input context : Sight) (gs : Glyphs) (at : ℕ) (m :
    Found)
    (o : Option RuleList) → IfSome o (λ rules. (j : ℕ) → j < rules.count → P (rules.rule j))
    → ((rule : Sought) → P rule → found_at gdef input context gs at rule ≡ Some m → Goal)
    → option_and_then (first_rule gdef input context gs at) o ≡ Some m → Goal
rules_give Goal P gdef input context gs at m None all gives e = absurd (cc)
rules_give Goal P gdef input context gs at m (Some rules) all gives e =
    first_gives Goal (λ j. found_at gdef input context gs at (rules.rule j)) m rules.count 0
    (λ j lt is. gives (rules.rule j) (all j (omega (arith, lt))) is) e

-- a rule that fits is one of the lookup's
pub fit_gives : (Goal : Type 0) (P : Sought → Type 0) (gdef : List ℕ) (sights : Sights) (table : List ℕ) (gs : Glyphs)
    (at : ℕ)
    (m : Found) → EachRule P table
    → ((rule : Sought) → P rule → FitsBy gdef sights.input sights.context gs at rule m → Goal)
    → context_fit gdef sights table gs at ≡ Some m → Goal
unfolding context_fit
fit_gives Goal P gdef sights table gs at m all gives e =
    first_gives Goal (λ i. context_in (type_in 7 table i == 6) gdef sights.input sights.context (subtable_in 7 table i)
    gs at) m
    (subtables_in table) 0 (λ i lt is. rules_give Goal P gdef sights.input sights.context gs at m
    (context_rules (type_in 7 table i == 6) (subtable_in 7 table i) ((glyph_at gs at).glyph_id % 65536))
    (all i ((glyph_at gs at).glyph_id % 65536) (omega (arith, lt)))
    (λ rule has found. gives rule has (fits_by gdef sights.input sights.context gs at rule m found))
    (sym (context_is (type_in 7 table i == 6) gdef sights.input sights.context (subtable_in 7 table i) gs at) ∙ is)) e
