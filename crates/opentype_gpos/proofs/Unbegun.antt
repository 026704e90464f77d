-- A lookup does nothing where none of its subtables begins.
use Rattle.std.proofs.Common.{inl, ◌≡◌, ◌∙◌, ℕ, zero, suc, ◌+◌, ◌-◌, ◌==◌, ◌<◌, ◌≤◌, ◌||◌, ◌&&◌, IfSome, unwrap_or, Bool, true, false, nat_lt, Option, None, Some, List, length, refl, sym, ap, subst, arith, if◌then◌else◌}
use Rattle.std.specs.Option.{is_some, option_map}
use Rattle.std.proofs.lemmas.Bool.Decides.{nat_tests}
use Rattle.std.proofs.lemmas.Grind.{common_steps}
use Rattle.shapers_buffer.specs.Buffer.{Buffer}
use Rattle.shapers_buffer.specs.Glyphs.{Glyphs}
use Rattle.shapers_buffer.specs.declared.buffer.level.Direction.{Direction}
use Rattle.opentype_face.specs.Bytes.{u16_in, table_at}
use Rattle.opentype_face.specs.Firsts.{first_from}
use Rattle.opentype_face.specs.Glyphs.{coverage_in}
use Rattle.opentype_face.specs.Lookups.{lookup_in, subtable_in, subtables_in, type_in}
use Rattle.opentype_face.proofs.Foremost.{IsFirst, first_found, first_hit, first_missed, first_out, first_passed, first_start}
use Rattle.opentype_layout.specs.Looking.{looked_by, nothing, unjoined}
use Rattle.opentype_layout.specs.Rules.{first_at}
use Rattle.opentype_layout.specs.Starts.{NoneStarts, starting, starts_at}
use Rattle.opentype_layout.specs.declared.sight.Application.{Application}
use Rattle.opentype_layout.specs.declared.sight.Sight.{Sight}
use Rattle.opentype_layout.proofs.Lookings.{all_none, kept_if, no_context, stretch_if, unflagged}
use Rattle.opentype_layout.proofs.NoneFits.{no_rule, none_if, none_mapped, none_of, none_then}
use Rattle.opentype_layout.proofs.Skipped.{over}
use Rattle.opentype_layout.proofs.SubtableStarts.{places_plain}
use Rattle.opentype_gpos.specs.Anchors.{joint_in}
use Rattle.opentype_gpos.specs.Coming.{Setting, came, came_in, nth_came, sights_in}
use Rattle.opentype_gpos.specs.Looked.{lookup_looked, move_looked, subtable_looked, tried}
use Rattle.opentype_gpos.specs.Moved.{Positions, Progress}
use Rattle.opentype_gpos.specs.Moves.{base_move, covered_by, cursive_move, ligature_move, mark_move, number_at, one_move, pair_found, pair_move, single_move}
use Rattle.opentype_gpos.specs.Along.{passed, position_stepped, positioned, setting_for, stepped_by}
use Rattle.opentype_gpos.specs.declared.coming.Came.{Came}
use Rattle.opentype_gpos.specs.declared.moves.PairPlace.{PairPlace}
use Rattle.opentype_gpos.specs.declared.pass.Sights.{Sights}
use Rattle.opentype_gpos.proofs.Paired.{came_of_pairs}
use Rattle.opentype_gpos.proofs.Walks.{IsWalked, glyphs_out, positions_out, walked_next, walked_start}

is_none : {X : Type 0} (o : Option X) → is_some o ≡ false → o ≡ None
is_none None e = refl
is_none (Some x) e = absurd (cc)

-- ---- where the set stands that a subtable doesn't have a glyph in

at_start : (kind : ℕ) (bytes : List ℕ) → (u16_in bytes 0 == 3) ≡ false → starts_at true kind bytes ≡ 2
unfolding starts_at
at_start kind bytes e = rw e refl

at_first : (kind : ℕ) (bytes : List ℕ) → ((kind == 7) || (kind == 8)) ≡ true → (u16_in bytes 0 == 3) ≡ true →
    starts_at true kind bytes ≡ first_at (kind == 8) bytes
unfolding starts_at
at_first kind bytes context e = grind (arith, common_steps, nat_tests)

not_started : (test : Bool) (i : ℕ) → (if test then Some i else None) ≡ None → test ≡ false
not_started true i e = absurd (cc)
not_started false i e = refl

uncovered : (lookup : List ℕ) (glyph i at : ℕ) → starting true lookup glyph i ≡ None →
    starts_at true (type_in 9 lookup i) (subtable_in 9 lookup i) ≡ at →
    coverage_in (table_at (subtable_in 9 lookup i) (u16_in (subtable_in 9 lookup i) at)) glyph ≡ None
unfolding starting
uncovered lookup glyph i at none e =
    let bytes = subtable_in 9 lookup i in
    is_none _ (subst (λ n. is_some (coverage_in (table_at bytes (u16_in bytes n)) glyph) ≡ false) e (not_started _ i none))

-- ---- and does nothing there

no_joint : (bytes : List ℕ) (side glyph : ℕ) → coverage_in (table_at bytes (u16_in bytes 2)) glyph ≡ None →
    joint_in bytes side glyph ≡ None
unfolding joint_in
no_joint bytes side glyph e = none_if (u16_in bytes 0 == 1) _ None (λ t. none_then _ _ e) (λ t. refl)

no_move : (gdef : List ℕ) (sight : Sight) (kind : ℕ) (bytes : List ℕ) (gs : Glyphs) (at : ℕ) →
    covered_by bytes 2 (number_at gs at) ≡ None → one_move gdef sight kind bytes gs at ≡ None
unfolding one_move single_move pair_move cursive_move base_move ligature_move mark_move
no_move gdef sight kind bytes gs at e =
    none_if (kind == 1) _ _ (λ t. rw e refl)
    (λ t. none_if (kind == 2) _ _ (λ t. rw e refl)
    (λ t. none_if (kind == 3) _ _ (λ t. none_then _ _ (no_joint bytes 0 (number_at gs at) e))
    (λ t. none_if (kind == 4) _ _ (λ t. rw e refl)
    (λ t. none_if (kind == 5) _ _ (λ t. rw e refl)
    (λ t. none_if (kind == 6) _ None (λ t. rw e refl) (λ t. refl))))))

pub nth_none : (s : Setting) (sights : Sights) (lookup : List ℕ) (gs : Glyphs) (at i : ℕ) →
    starting true lookup (number_at gs at) i ≡ None → nth_came s sights lookup gs at i ≡ None
unfolding nth_came
nth_none s sights lookup gs at i none =
    let kind = type_in 9 lookup i in
    let bytes = subtable_in 9 lookup i in
    let glyph = number_at gs at in
    none_if ((kind == 7) || (kind == 8)) _ _
    (λ t. none_mapped _ _ (no_rule (kind == 8) s.gdef sights.input sights.context bytes gs at
    (λ e. uncovered lookup glyph i _ none (at_first kind bytes t e))
    (λ e. uncovered lookup glyph i 2 none (at_start kind bytes e))))
    (λ t. none_mapped _ _ (no_move s.gdef sights.input kind bytes gs at
    (uncovered lookup glyph i 2 none (places_plain kind bytes (grind (arith, common_steps, t)) (grind (arith, common_steps, t))))))

-- ---- the subtables that are passed over, one after another

pub passed_to : (s : Setting) (sights : Sights) (lookup : List ℕ) (gs : Glyphs) (at glyph from next : ℕ) →
    IsFirst (nth_came s sights lookup gs at) (subtables_in lookup) from → glyph ≡ number_at gs at →
    from ≤ next → next ≤ subtables_in lookup → NoneStarts true lookup glyph from next →
    IsFirst (nth_came s sights lookup gs at) (subtables_in lookup) next
passed_to s sights lookup gs at glyph from next first is le within none =
    let e : from + (next - from) ≡ next = omega arith in
    rw e at (over (nth_came s sights lookup gs at) (subtables_in lookup) (next - from) from first (omega arith)
    (λ j low high. nth_none s sights lookup gs at j
    (rw is at (none.none j low (omega arith)))))

-- a lookup's subtables are tried up to one, and none has come to anything
pub record IsTried (s : Setting) (sights : Sights) (lookup : List ℕ) (gs : Glyphs) (at from : ℕ) : Type 0 where
  pub first : IsFirst (nth_came s sights lookup gs at) (subtables_in lookup) from
  pub within : from ≤ subtables_in lookup

pub tried_start : (s : Setting) (sights : Sights) (lookup : List ℕ) (gs : Glyphs) (at : ℕ) → IsTried s sights lookup gs at 0
tried_start s sights lookup gs at = record { first = first_start _ _; within = omega arith }

tried_to : (s : Setting) (sights : Sights) (lookup : List ℕ) (gs : Glyphs) (at glyph from : ℕ) (found : Option ℕ) (next : ℕ) →
    IsTried s sights lookup gs at from → glyph ≡ number_at gs at →
    IfSome found (λ n. (from ≤ n) × (n < subtables_in lookup)) →
    NoneStarts true lookup glyph from (unwrap_or found (subtables_in lookup)) → found ≡ Some next →
    (next < subtables_in lookup) × IsFirst (nth_came s sights lookup gs at) (subtables_in lookup) next
tried_to s sights lookup gs at glyph from found next t is inside none e =
    let within : (from ≤ next) × (next < subtables_in lookup) = rw e at inside in
    let some : NoneStarts true lookup glyph from next = rw e at none in
    (within.1, passed_to s sights lookup gs at glyph from next t.first is within.0 (omega (arith, within.1)) some)

pub tried_found : (s : Setting) (sights : Sights) (lookup : List ℕ) (gs : Glyphs) (at glyph from : ℕ) (found : Option ℕ) (next : ℕ)
    (o : Option Came) → IsTried s sights lookup gs at from → glyph ≡ number_at gs at →
    IfSome found (λ n. (from ≤ n) × (n < subtables_in lookup)) →
    NoneStarts true lookup glyph from (unwrap_or found (subtables_in lookup)) → found ≡ Some next →
    option_map came o ≡ nth_came s sights lookup gs at next → is_some o ≡ true →
    option_map came o ≡ first_from (subtables_in lookup) (nth_came s sights lookup gs at) 0
tried_found s sights lookup gs at glyph from found next o t is inside none e value some =
    let to = tried_to s sights lookup gs at glyph from found next t is inside none e in
    first_found came (nth_came s sights lookup gs at) (subtables_in lookup) next o to.1 to.0 value some

pub tried_missed : (s : Setting) (sights : Sights) (lookup : List ℕ) (gs : Glyphs) (at glyph from : ℕ) (found : Option ℕ) (next : ℕ)
    (o : Option Came) → IsTried s sights lookup gs at from → glyph ≡ number_at gs at →
    IfSome found (λ n. (from ≤ n) × (n < subtables_in lookup)) →
    NoneStarts true lookup glyph from (unwrap_or found (subtables_in lookup)) → found ≡ Some next →
    option_map came o ≡ nth_came s sights lookup gs at next → is_some o ≡ false →
    IsTried s sights lookup gs at (next + 1)
tried_missed s sights lookup gs at glyph from found next o t is inside none e value missed =
    let to = tried_to s sights lookup gs at glyph from found next t is inside none e in
    record {
      first = first_missed came (nth_came s sights lookup gs at) (subtables_in lookup) next o to.1 to.0 value missed;
      within = omega (arith, to.0);
    }

pub tried_all : (s : Setting) (sights : Sights) (lookup : List ℕ) (gs : Glyphs) (at glyph from : ℕ) (found : Option ℕ) →
    IsTried s sights lookup gs at from → glyph ≡ number_at gs at →
    NoneStarts true lookup glyph from (unwrap_or found (subtables_in lookup)) → found ≡ None →
    None ≡ first_from (subtables_in lookup) (nth_came s sights lookup gs at) 0
tried_all s sights lookup gs at glyph from found t is none e =
    let rest : NoneStarts true lookup glyph from (subtables_in lookup) = rw e at none in
    let end = passed_to s sights lookup gs at glyph from (subtables_in lookup) t.first is t.within (omega arith) rest in
    sym (first_out (nth_came s sights lookup gs at) (subtables_in lookup) (subtables_in lookup) end (omega arith))

-- ---- a subtable of pairs with tables

pub tried_pair : (s : Setting) (sights : Sights) (lookup : List ℕ) (gs : Glyphs) (at i : ℕ) (bytes : List ℕ)
    (o : Option PairPlace) (pair : PairPlace) → IsTried s sights lookup gs at i → i < subtables_in lookup →
    type_in 9 lookup i ≡ 2 → bytes ≡ subtable_in 9 lookup i →
    option_map pair_found o ≡ pair_move s.gdef sights.input bytes gs at → o ≡ Some pair →
    Some (inl (pair_found pair)) ≡ first_from (subtables_in lookup) (nth_came s sights lookup gs at) 0
tried_pair s sights lookup gs at i bytes o pair t lt kind is value some =
    let e = came_of_pairs s sights lookup gs at i bytes (option_map pair_found o) kind is value in
    sym (first_hit (nth_came s sights lookup gs at) (subtables_in lookup) i (inl (pair_found pair)) t.first lt
    (sym (rw some at e)))

pub tried_no_pair : (s : Setting) (sights : Sights) (lookup : List ℕ) (gs : Glyphs) (at i : ℕ) (bytes : List ℕ)
    (o : Option PairPlace) → IsTried s sights lookup gs at i → i < subtables_in lookup →
    type_in 9 lookup i ≡ 2 → bytes ≡ subtable_in 9 lookup i →
    option_map pair_found o ≡ pair_move s.gdef sights.input bytes gs at → o ≡ None →
    IsTried s sights lookup gs at (i + 1)
tried_no_pair s sights lookup gs at i bytes o t lt kind is value missed =
    let e = came_of_pairs s sights lookup gs at i bytes (option_map pair_found o) kind is value in
    record {
      first = first_passed (nth_came s sights lookup gs at) (subtables_in lookup) i t.first lt (sym (rw missed at e));
      within = omega arith;
    }

pub tried_out : (s : Setting) (sights : Sights) (lookup : List ℕ) (gs : Glyphs) (at i : ℕ) →
    IsTried s sights lookup gs at i → subtables_in lookup ≤ i →
    None ≡ first_from (subtables_in lookup) (nth_came s sights lookup gs at) 0
tried_out s sights lookup gs at i t le =
    sym (first_out (nth_came s sights lookup gs at) (subtables_in lookup) i t.first le)

came_none : (s : Setting) (sights : Sights) (lookup : List ℕ) (gs : Glyphs) (at : ℕ) →
    NoneStarts true lookup (number_at gs at) 0 (subtables_in lookup) → came_in s sights lookup gs at ≡ None
unfolding came_in
came_none s sights lookup gs at none =
    none_if (nat_lt at (length gs)) _ None
    (λ t. none_of (nth_came s sights lookup gs at) (subtables_in lookup) 0
    (λ d lt. nth_none s sights lookup gs at (0 + d) (none.none (0 + d) (omega arith) (omega arith))))
    (λ t. refl)

-- ---- nothing is looked at in vain either

no_look : (gdef : List ℕ) (sight : Sight) (d : Direction) (kind : ℕ) (bytes : List ℕ) (gs : Glyphs) (at : ℕ) →
    covered_by bytes 2 (number_at gs at) ≡ None → move_looked gdef sight d kind bytes gs at ≡ nothing at
unfolding move_looked
no_look gdef sight d kind bytes gs at e = rw e refl

unlooked : (s : Setting) (sights : Sights) (lookup : List ℕ) (gs : Glyphs) (at i : ℕ) →
    starting true lookup (number_at gs at) i ≡ None → subtable_looked s sights lookup gs at i ≡ nothing at
unfolding subtable_looked
unlooked s sights lookup gs at i none =
    let kind = type_in 9 lookup i in
    let bytes = subtable_in 9 lookup i in
    let glyph = number_at gs at in
    stretch_if ((kind == 7) || (kind == 8)) _ _ (nothing at)
    (λ t. ap (looked_by s.gdef sights.input sights.context (length gs) gs at) (no_context (kind == 8) bytes glyph
    (λ e. uncovered lookup glyph i _ none (at_first kind bytes t e))
    (λ e. uncovered lookup glyph i 2 none (at_start kind bytes e))))
    (λ t. no_look s.gdef sights.input s.direction kind bytes gs at
    (uncovered lookup glyph i 2 none (places_plain kind bytes (grind (arith, common_steps, t)) (grind (arith, common_steps, t)))))

looked_none : (s : Setting) (sights : Sights) (lookup : List ℕ) (gs : Glyphs) (at : ℕ) →
    NoneStarts true lookup (number_at gs at) 0 (subtables_in lookup) → lookup_looked s sights lookup gs at ≡ nothing at
unfolding lookup_looked
looked_none s sights lookup gs at none =
    all_none _ (subtable_looked s sights lookup gs at) at (subtables_in lookup) 0
    (λ d lt. unlooked s sights lookup gs at (0 + d) (none.none (0 + d) (omega arith) (omega arith)))

tried_none : (s : Setting) (sights : Sights) (lookup : List ℕ) (gs : Glyphs) (at : ℕ) →
    NoneStarts true lookup (number_at gs at) 0 (subtables_in lookup) → tried s sights lookup gs at ≡ gs
unfolding tried
tried_none s sights lookup gs at none = kept_if (s.concat && nat_lt at (length gs)) _ gs
    (ap (λ x. unjoined x gs) (looked_none s sights lookup gs at none) ∙ unflagged at gs)

-- ---- and a step along a text

either_way : (test : Bool) (x y z : Progress) → x ≡ z → y ≡ z → (if test then x else y) ≡ z
either_way true x y z one two = one
either_way false x y z one two = two

pub step_passed : (s : Setting) (sights : Sights) (lookup : List ℕ) (gs : Glyphs) (ps : Positions) (at : ℕ) →
    NoneStarts true lookup (number_at gs at) 0 (subtables_in lookup) →
    position_stepped s sights lookup gs ps at ≡ record { glyphs = gs; positions = ps; next = at + 1 }
unfolding position_stepped
step_passed s sights lookup gs ps at none =
    either_way _ _ _ (passed at gs ps)
    (ap (stepped_by s at (tried s sights lookup gs at) ps) (came_none s sights lookup gs at none)
    ∙ ap (λ x. passed at x ps) (tried_none s sights lookup gs at none)) refl

-- ---- and the whole text before the first glyph that one begins with

stays_to : (f : Glyphs → Positions → ℕ → Progress) (steps : ℕ) (gs : Glyphs) (ps : Positions) (p : ℕ) → length ps ≡ length gs →
    p ≤ steps → p ≤ length gs → ((j : ℕ) → j < p → f gs ps j ≡ record { glyphs = gs; positions = ps; next = j + 1 }) →
    IsWalked f steps gs ps p gs ps p
stays_to f steps gs ps zero paired le within h = walked_start f steps gs ps paired
stays_to f steps gs ps (suc p) paired le within h =
    let e : p + 1 ≡ suc p = omega arith in
    subst (λ (n : ℕ). IsWalked f steps gs ps n gs ps n) e (walked_next f steps gs ps p gs ps p gs ps (p + 1)
    (stays_to f steps gs ps p paired (omega arith) (omega arith) (λ j lt. h j (omega arith))) (omega arith) (omega arith) paired
    (h p (omega arith)))

walked_first : (s : Setting) (lookup : List ℕ) (gs : Glyphs) (ps : Positions) (first : ℕ) → length ps ≡ length gs →
    first ≤ length gs → ((i : ℕ) → i < first → NoneStarts true lookup (number_at gs i) 0 (subtables_in lookup)) →
    IsWalked (position_stepped s (sights_in s lookup) lookup) (length gs) gs ps first gs ps first
walked_first s lookup gs ps first paired within none =
    stays_to (position_stepped s (sights_in s lookup) lookup) (length gs) gs ps first paired within within
    (λ j lt. step_passed s (sights_in s lookup) lookup gs ps j (none j lt))

-- ---- and a text that it begins nowhere in

pub positioned_nowhere : (gdef gpos : List ℕ) (index : ℕ) (how : Application) (b : Buffer) → length b.positions ≡ length b.glyphs →
    ((i : ℕ) → i < length b.glyphs →
    NoneStarts true (lookup_in gpos index) (number_at b.glyphs i) 0 (subtables_in (lookup_in gpos index))) →
    positioned gdef gpos index how b ≡ b
unfolding positioned
positioned_nowhere gdef gpos index how b paired none =
    let walk = walked_first (setting_for gdef gpos how b) (lookup_in gpos index) b.glyphs b.positions (length b.glyphs) paired
    (omega arith) none in
    let put : Glyphs → Positions → Buffer = λ gs ps. (let r : Buffer = record b { glyphs = gs; positions = ps } in r) in
    sym (ap (λ gs. put gs b.positions) (glyphs_out _ _ _ _ _ _ _ _ walk (omega arith))
    ∙ ap (put _) (positions_out _ _ _ _ _ _ _ _ walk (omega arith)))
