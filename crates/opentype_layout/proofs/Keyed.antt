-- Rules that a key bars fit nowhere.
use Rattle.std.proofs.Common.{ℕ, zero, suc, ◌+◌, ◌-◌, ◌*◌, ◌==◌, ◌<◌, ◌≡◌, Bool, true, false, Option, None, Some, List, [], refl, sym, ap, subst, ◌∙◌, arith, get_or-drop, if◌then◌else◌}
use Rattle.std.specs.Prelude.{nat_lt}
use Rattle.shapers_buffer.specs.Glyphs.{Glyphs}
use Rattle.std.specs.Option.{is_some}
use Rattle.opentype_face.specs.Bytes.{u16_in, table_at}
use Rattle.opentype_face.specs.Glyphs.{coverage_in}
use Rattle.opentype_layout.specs.Keys.{IsBarred, bars, begins_with}
use Rattle.opentype_layout.specs.Ligatures.{input_in}
use Rattle.opentype_layout.specs.Pattern.{next_in, places_from, previous_in}
use Rattle.opentype_layout.specs.RuleHeads.{head_in}
use Rattle.opentype_layout.specs.Rules.{Kind, Sought, around, chained_in, context_in, end_in, found_at, kind_in, reach_before, reach_behind, reach_from, rule_in, test_in, unchained_in, with_stop}
use Rattle.opentype_layout.specs.declared.keys.Key.{Key}
use Rattle.opentype_layout.specs.declared.keys.Keys.{Keys}
use Rattle.opentype_layout.specs.declared.rule_heads.RuleHead.{RuleHead}
use Rattle.opentype_layout.specs.declared.sight.Sight.{Sight}
use Rattle.opentype_layout.proofs.NoneFits.{none_if}

-- ---- a search for several that doesn't find the first

pub no_places : (next : ℕ → ℕ → Option ℕ) (n from : ℕ) → 0 < n → next 0 from ≡ None → places_from n next 0 from ≡ None
unfolding places_from
no_places next zero from lt e = absurd (omega arith)
no_places next (suc n) from lt e = rw e refl

no_reach : (next : ℕ → ℕ → Option ℕ) (n from : ℕ) → 0 < n → next 0 from ≡ None → reach_from n next 0 from ≡ None
unfolding reach_from
no_reach next zero from lt e = absurd (omega arith)
no_reach next (suc n) from lt e = rw e refl

-- ---- rules whose lists don't begin as a place has it

starts_off : (gdef : List ℕ) (context : Sight) (rule : Sought) (gs : Glyphs) (at : ℕ) (places : List ℕ) (o : Option ℕ) →
    reach_before gdef context rule.before rule.before_count gs at ≡ None →
    with_stop gdef context rule gs at places o ≡ None
starts_off gdef context rule gs at places None e = refl
starts_off gdef context rule gs at places (Some stop) e = rw e refl

around_off : (gdef : List ℕ) (context : Sight) (rule : Sought) (gs : Glyphs) (at : ℕ) (o : Option (List ℕ)) →
    reach_before gdef context rule.before rule.before_count gs at ≡ None → around gdef context rule gs at o ≡ None
unfolding around
around_off gdef context rule gs at None e = refl
around_off gdef context rule gs at (Some places) e =
    starts_off gdef context rule gs at places (reach_behind gdef context rule.behind rule.behind_count gs (end_in at places)) e

pub none_before : (gdef : List ℕ) (input context : Sight) (gs : Glyphs) (at : ℕ) (rule : Sought) → 0 < rule.before_count →
    previous_in gdef context rule.before gs at 0 0 ≡ None → found_at gdef input context gs at rule ≡ None
unfolding found_at reach_before
none_before gdef input context gs at rule lt e =
    none_if (rule.input_count == 0) None _ (λ t. refl)
    (λ t. none_if (nat_lt 64 rule.input_count) None _ (λ t. refl)
    (λ t. around_off gdef context rule gs at _ (no_reach _ rule.before_count 0 lt e)))

pub none_input : (gdef : List ℕ) (input context : Sight) (gs : Glyphs) (at : ℕ) (rule : Sought) → 1 < rule.input_count →
    next_in gdef input rule.input gs 0 (at + 1) ≡ None → found_at gdef input context gs at rule ≡ None
unfolding found_at around input_in
none_input gdef input context gs at rule lt e =
    let n = no_places (next_in gdef input rule.input gs) (rule.input_count - 1) (at + 1) (omega arith) e in
    none_if (rule.input_count == 0) None _ (λ t. refl)
    (λ t. none_if (nat_lt 64 rule.input_count) None _ (λ t. refl) (λ t. rw n refl))

pub none_behind : (gdef : List ℕ) (input context : Sight) (gs : Glyphs) (at : ℕ) (rule : Sought) → rule.input_count ≡ 1 →
    0 < rule.behind_count → next_in gdef context rule.behind gs 0 (end_in at []) ≡ None →
    found_at gdef input context gs at rule ≡ None
unfolding found_at around input_in places_from reach_behind
none_behind gdef input context gs at rule one lt e =
    let n = no_reach (next_in gdef context rule.behind gs) rule.behind_count (end_in at []) lt e in
    rw one (rw n refl)

-- ---- the first number of a list, in a rule's bytes

pub part_first : (bytes : List ℕ) (at : ℕ) → 0 < at → u16_in (table_at bytes at) 0 ≡ u16_in bytes at
part_first bytes zero lt = absurd (omega arith)
part_first bytes (suc at) lt =
    let one = get_or-drop (suc at) bytes 0 0 in
    let two = get_or-drop (suc at) bytes 1 0 in
    grind (arith, one, two)

pub barred_at : (key : Key) (bytes : List ℕ) (at from : ℕ) → at ≡ from → 0 < from →
    bars key (λ n. u16_in bytes from == n) ≡ true → bars key (begins_with (table_at bytes at)) ≡ true
barred_at key bytes at from e lt b =
    ap (λ place. bars key (begins_with (table_at bytes place))) e
    ∙ ap (λ first. bars key (λ n. first == n)) (part_first bytes from lt) ∙ b

-- ---- rules in bytes

pub chained_before : (kind : Kind) (keys : Keys) (bytes : List ℕ) → (kind.format == 3) ≡ false → 0 < u16_in bytes 0 →
    bars keys.before (λ n. u16_in bytes 2 == n) ≡ true → IsBarred kind keys (chained_in kind bytes)
unfolding chained_in
chained_before kind keys bytes t lt b = rw t (record {
  none = λ gdef input context gs at are. none_before gdef input context gs at _ lt
      (are.no_before (table_at bytes 2) (barred_at keys.before bytes 2 2 refl (omega arith) b));
})

pub chained_input : (kind : Kind) (keys : Keys) (bytes : List ℕ) → (kind.format == 3) ≡ false →
    1 < u16_in bytes (2 + u16_in bytes 0 * 2) →
    bars keys.input (λ n. u16_in bytes (2 + u16_in bytes 0 * 2 + 2) == n) ≡ true →
    IsBarred kind keys (chained_in kind bytes)
unfolding chained_in
chained_input kind keys bytes t lt b = rw t (record {
  none = λ gdef input context gs at are. none_input gdef input context gs at _ lt
      (are.no_input _ (barred_at keys.input bytes _ (2 + u16_in bytes 0 * 2 + 2) (omega arith) (omega arith) b));
})

pub chained_behind : (kind : Kind) (keys : Keys) (bytes : List ℕ) → (kind.format == 3) ≡ false →
    u16_in bytes (2 + u16_in bytes 0 * 2) ≡ 1 → 0 < u16_in bytes (2 + u16_in bytes 0 * 2 + 2) →
    bars keys.behind (λ n. u16_in bytes (2 + u16_in bytes 0 * 2 + 4) == n) ≡ true →
    IsBarred kind keys (chained_in kind bytes)
unfolding chained_in
chained_behind kind keys bytes t one lt b =
    let e : 2 + u16_in bytes 0 * 2 + 0 + 2 ≡ 2 + u16_in bytes 0 * 2 + 2 = omega arith in
    let some : 0 < u16_in bytes (2 + u16_in bytes 0 * 2 + 0 + 2) = rw e lt in
    rw (t, one) (record {
      none = λ gdef input context gs at are. none_behind gdef input context gs at _ refl some
          (are.no_behind _ (barred_at keys.behind bytes _ (2 + u16_in bytes 0 * 2 + 4) (omega arith) (omega arith) b));
    })

pub unchained_input : (kind : Kind) (keys : Keys) (bytes : List ℕ) → (kind.format == 3) ≡ false → 1 < u16_in bytes 0 →
    bars keys.input (λ n. u16_in bytes 4 == n) ≡ true → IsBarred kind keys (unchained_in kind bytes)
unfolding unchained_in
unchained_input kind keys bytes t lt b = rw t (record {
  none = λ gdef input context gs at are. none_input gdef input context gs at _ lt
      (are.no_input (table_at bytes 4) (barred_at keys.input bytes 4 4 refl (omega arith) b));
})

-- ---- rules by their heads

chosen : {X : Type 0} (test : Bool) (x y : X) → test ≡ true → (if test then x else y) ≡ x
chosen true x y e = refl
chosen false x y e = absurd (cc)

left_out : {X : Type 0} (test : Bool) (x y : X) → test ≡ false → (if test then x else y) ≡ y
left_out true x y e = absurd (cc)
left_out false x y e = refl

by_chained : (kind : Kind) (keys : Keys) (bytes : List ℕ) → kind.chained ≡ true →
    IsBarred kind keys (chained_in kind bytes) → IsBarred kind keys (rule_in kind bytes)
unfolding rule_in
by_chained kind keys bytes e b = subst (λ (rule : Sought). IsBarred kind keys rule)
    (sym (chosen kind.chained (chained_in kind bytes) (unchained_in kind bytes) e)) b

by_unchained : (kind : Kind) (keys : Keys) (bytes : List ℕ) → kind.chained ≡ false →
    IsBarred kind keys (unchained_in kind bytes) → IsBarred kind keys (rule_in kind bytes)
unfolding rule_in
by_unchained kind keys bytes e b = subst (λ (rule : Sought). IsBarred kind keys rule)
    (sym (left_out kind.chained (chained_in kind bytes) (unchained_in kind bytes) e)) b

before_of : (kind : Kind) (keys : Keys) (bytes : List ℕ) (chained : Bool) → kind.chained ≡ chained →
    (kind.format == 3) ≡ false → 0 < (head_in chained bytes).before_count →
    bars keys.before (λ n. (head_in chained bytes).before == n) ≡ true → IsBarred kind keys (rule_in kind bytes)
unfolding head_in
before_of kind keys bytes true e t lt b = by_chained kind keys bytes e (chained_before kind keys bytes t lt b)
before_of kind keys bytes false e t lt b = absurd (omega arith)

pub head_before : (kind : Kind) (keys : Keys) (bytes : List ℕ) (head : RuleHead) → (kind.format == 3) ≡ false →
    head ≡ head_in kind.chained bytes → 0 < head.before_count → bars keys.before (λ n. head.before == n) ≡ true →
    IsBarred kind keys (rule_in kind bytes)
head_before kind keys bytes head t is lt b = before_of kind keys bytes kind.chained refl t (rw is at lt) (rw is at b)

input_of : (kind : Kind) (keys : Keys) (bytes : List ℕ) (chained : Bool) → kind.chained ≡ chained →
    (kind.format == 3) ≡ false → 1 < (head_in chained bytes).input_count →
    bars keys.input (λ n. (head_in chained bytes).input == n) ≡ true → IsBarred kind keys (rule_in kind bytes)
unfolding head_in
input_of kind keys bytes true e t lt b = by_chained kind keys bytes e (chained_input kind keys bytes t lt b)
input_of kind keys bytes false e t lt b = by_unchained kind keys bytes e (unchained_input kind keys bytes t lt b)

pub head_input : (kind : Kind) (keys : Keys) (bytes : List ℕ) (head : RuleHead) → (kind.format == 3) ≡ false →
    head ≡ head_in kind.chained bytes → 1 < head.input_count → bars keys.input (λ n. head.input == n) ≡ true →
    IsBarred kind keys (rule_in kind bytes)
head_input kind keys bytes head t is lt b = input_of kind keys bytes kind.chained refl t (rw is at lt) (rw is at b)

behind_of : (kind : Kind) (keys : Keys) (bytes : List ℕ) (chained : Bool) → kind.chained ≡ chained →
    (kind.format == 3) ≡ false → (head_in chained bytes).input_count ≡ 1 → 0 < (head_in chained bytes).behind_count →
    bars keys.behind (λ n. (head_in chained bytes).behind == n) ≡ true → IsBarred kind keys (rule_in kind bytes)
unfolding head_in
behind_of kind keys bytes true e t one lt b =
    let place : 2 + u16_in bytes 0 * 2 + 2 + 2 ≡ 2 + u16_in bytes 0 * 2 + 4 = omega arith in
    by_chained kind keys bytes e (chained_behind kind keys bytes t one (rw one at lt) (rw place at (rw one at b)))
behind_of kind keys bytes false e t one lt b = absurd (omega arith)

pub head_behind : (kind : Kind) (keys : Keys) (bytes : List ℕ) (head : RuleHead) → (kind.format == 3) ≡ false →
    head ≡ head_in kind.chained bytes → head.input_count ≡ 1 → 0 < head.behind_count →
    bars keys.behind (λ n. head.behind == n) ≡ true → IsBarred kind keys (rule_in kind bytes)
head_behind kind keys bytes head t is one lt b =
    behind_of kind keys bytes kind.chained refl t (rw is at one) (rw is at lt) (rw is at b)

-- ---- contexts of format 3, whose numbers are offsets of sets

barred_set : (key : Key) (of bytes : List ℕ) (at from : ℕ) → at ≡ from → 0 < from →
    bars key (λ n. is_some (coverage_in (table_at of (u16_in bytes from)) n)) ≡ true →
    bars key (test_in 3 (table_at bytes at) of 0) ≡ true
unfolding test_in
barred_set key of bytes at from e lt b =
    ap (λ place. bars key (test_in 3 (table_at bytes place) of 0)) e
    ∙ ap (λ offset. bars key (λ n. is_some (coverage_in (table_at of offset) n))) (part_first bytes from lt) ∙ b

pub sets_before : (gdef : List ℕ) (input context : Sight) (kind : Kind) (bytes : List ℕ) (gs : Glyphs) (at : ℕ) (key : Key) →
    kind.format ≡ 3 → 0 < u16_in bytes 2 →
    ((test : ℕ → ℕ → Bool) (k : ℕ) → bars key (test k) ≡ true → previous_in gdef context test gs at k 0 ≡ None) →
    bars key (λ n. is_some (coverage_in (table_at kind.before (u16_in bytes 4)) n)) ≡ true →
    found_at gdef input context gs at (chained_in kind bytes) ≡ None
unfolding chained_in
sets_before gdef input context kind bytes gs at key t lt none b =
    rw t (none_before gdef input context gs at _ lt
    (none (test_in 3 (table_at bytes 4) kind.before) 0 (barred_set key kind.before bytes 4 4 refl (omega arith) b)))

pub sets_input : (gdef : List ℕ) (input context : Sight) (kind : Kind) (bytes : List ℕ) (gs : Glyphs) (at : ℕ) (key : Key) →
    kind.format ≡ 3 → 1 < u16_in bytes (4 + u16_in bytes 2 * 2) →
    ((test : ℕ → ℕ → Bool) (k : ℕ) → bars key (test k) ≡ true → next_in gdef input test gs k (at + 1) ≡ None) →
    bars key (λ n. is_some (coverage_in (table_at kind.input (u16_in bytes (4 + u16_in bytes 2 * 2 + 4))) n)) ≡ true →
    found_at gdef input context gs at (chained_in kind bytes) ≡ None
unfolding chained_in
sets_input gdef input context kind bytes gs at key t lt none b =
    let place = 4 + u16_in bytes 2 * 2 + 2 + 2 in
    rw t (none_input gdef input context gs at _ lt (none (test_in 3 (table_at bytes place) kind.input) 0
    (barred_set key kind.input bytes place (4 + u16_in bytes 2 * 2 + 4) (omega arith) (omega arith) b)))

pub sets_behind : (gdef : List ℕ) (input context : Sight) (kind : Kind) (bytes : List ℕ) (gs : Glyphs) (at : ℕ) (key : Key) →
    kind.format ≡ 3 → u16_in bytes (4 + u16_in bytes 2 * 2) ≡ 1 → 0 < u16_in bytes (4 + u16_in bytes 2 * 2 + 4) →
    ((test : ℕ → ℕ → Bool) (k : ℕ) → bars key (test k) ≡ true → next_in gdef context test gs k (end_in at []) ≡ None) →
    bars key (λ n. is_some (coverage_in (table_at kind.behind (u16_in bytes (4 + u16_in bytes 2 * 2 + 6))) n)) ≡ true →
    found_at gdef input context gs at (chained_in kind bytes) ≡ None
unfolding chained_in
sets_behind gdef input context kind bytes gs at key t one lt none b =
    let e : 4 + u16_in bytes 2 * 2 + 2 + 2 ≡ 4 + u16_in bytes 2 * 2 + 4 = omega arith in
    let some : 0 < u16_in bytes (4 + u16_in bytes 2 * 2 + 2 + 2) = rw e lt in
    let place = 4 + u16_in bytes 2 * 2 + 2 + 2 + 2 in
    rw (t, one) (none_behind gdef input context gs at _ refl some (none (test_in 3 (table_at bytes place) kind.behind) 0
    (barred_set key kind.behind bytes place (4 + u16_in bytes 2 * 2 + 6) (omega arith) (omega arith) b)))

pub none_chained : (gdef : List ℕ) (input context : Sight) (kind : Kind) (bytes : List ℕ) (gs : Glyphs) (at : ℕ) →
    kind.chained ≡ true → found_at gdef input context gs at (chained_in kind bytes) ≡ None →
    found_at gdef input context gs at (rule_in kind bytes) ≡ None
unfolding rule_in chained_in
none_chained gdef input context kind bytes gs at e none = rw e none

pub no_context : (chained : Bool) (gdef : List ℕ) (input context : Sight) (bytes : List ℕ) (gs : Glyphs) (at : ℕ) →
    u16_in bytes 0 ≡ 3 → found_at gdef input context gs at (rule_in (kind_in chained bytes) bytes) ≡ None →
    None ≡ context_in chained gdef input context bytes gs at
unfolding context_in
no_context chained gdef input context bytes gs at e none =
    rw e (sym (none_if _ _ None (λ t. none) (λ t. refl)))
