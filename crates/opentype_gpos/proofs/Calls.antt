-- Rules of contexts, as far as their lookups are applied.
use Rattle.std.proofs.Common.{Bool, true, false, ◌==◌, ℕ, zero, suc, ◌+◌, ◌-◌, ◌*◌, nat_lt, ◌<◌, ◌≤◌, ◌≡◌, List, [], ◌∷◌, ◌++◌, map, reverse, length, Option, None, Some, refl, sym, ap, ◌∙◌, arith, length-append}
use Rattle.std.proofs.lemmas.Bool.Decides.{nat_tests}
use Rattle.std.specs.Option.{option_map}
use Rattle.std.proofs.lemmas.List.{length-map, length-reverse, map-append, reverse-append}
use Rattle.shapers_buffer.specs.Glyphs.{Glyphs}
use Rattle.opentype_face.specs.Bytes.{u16_in}
use Rattle.opentype_face.specs.Lookups.{lookup_in, operations_in}
use Rattle.opentype_layout.specs.Rules.{Found, found}
use Rattle.opentype_layout.specs.declared.rules.Matched.{Matched}
use Rattle.opentype_gpos.specs.Called.{Work, record_made, records_made, rule_flagged, rule_made}
use Rattle.opentype_gpos.specs.CalledWalk.{Begun, begun_rule, begun_on, made_if_found, rest_made, rest_of_rule}
use Rattle.opentype_gpos.specs.Coming.{Setting}
use Rattle.opentype_gpos.specs.Moved.{Positions, flagged_up_to}
use Rattle.opentype_gpos.specs.declared.calling.Frame.{Frame}

abbrev work : Glyphs → Positions → ℕ → Work
work gs ps left = record { glyphs = gs; positions = ps; left = left }

-- ---- records one after another
no_records : (each : ℕ → Work → Work) (i : ℕ) (w : Work) → records_made 0 each i w ≡ w
unfolding records_made
no_records each i w = refl

one_record : (n : ℕ) (each : ℕ → Work → Work) (i : ℕ) (w : Work) →
    records_made (suc n) each i w ≡ records_made n each (i + 1) (each i w)
unfolding records_made
one_record n each i w = refl

next_record : (count i : ℕ) (each : ℕ → Work → Work) (w : Work) → i < count →
    records_made (count - i) each i w ≡ records_made (count - (i + 1)) each (i + 1) (each i w)
next_record count i each w lt =
    let n : count - i ≡ suc (count - (i + 1)) = omega arith in rw n (one_record (count - (i + 1)) each i w)

past_records : (count i : ℕ) (each : ℕ → Work → Work) (w : Work) → count ≤ i →
    records_made (count - i) each i w ≡ w
past_records count i each w le = let n : count - i ≡ 0 = omega arith in rw n (no_records each i w)

-- ---- where no more lookups may be applied
spent_record : (by_rule : Found → Work → Work) (s : Setting) (records places : List ℕ) (i : ℕ) (gs : Glyphs)
    (ps : Positions) → record_made by_rule s records places i (work gs ps 0) ≡ work gs ps 0
unfolding record_made
spent_record by_rule s records places i gs ps =
    let n = operations_in (lookup_in s.gpos (u16_in records (i * 4 + 2))) in
    let e : nat_lt 0 n ≡ true = grind (arith, nat_tests) in rw e refl

spent_records : (n : ℕ) (by_rule : Found → Work → Work) (s : Setting) (records places : List ℕ) (i : ℕ) (gs : Glyphs)
    (ps : Positions) → records_made n (record_made by_rule s records places) i (work gs ps 0) ≡ work gs ps 0
spent_records zero by_rule s records places i gs ps = no_records _ i _
spent_records (suc n) by_rule s records places i gs ps =
    one_record n _ i _ ∙ ap (records_made n (record_made by_rule s records places) (i + 1)) (spent_record by_rule s records places i gs ps)
    ∙ spent_records n by_rule s records places (i + 1) gs ps

pub spent : (s : Setting) (fs : List Begun) (gs : Glyphs) (ps : Positions) →
    rest_made s fs (work gs ps 0) ≡ work gs ps 0
unfolding rest_made
spent s [] gs ps = refl
spent s (f ∷ fs) gs ps =
    ap (rest_made s fs) (spent_records (f.count - f.next) _ s f.records f.places f.next gs ps) ∙ spent s fs gs ps

-- ---- rules on a stack
top_first : (stack : List Frame) (frame : Frame) → begun_on (stack ++ frame ∷ []) ≡ begun_rule frame ∷ begun_on stack
top_first stack frame =
    ap reverse (map-append begun_rule stack (frame ∷ [])) ∙ reverse-append (map begun_rule stack) (begun_rule frame ∷ [])

begun_length : (stack : List Frame) → length (begun_on stack) ≡ length stack
begun_length stack = length-reverse (map begun_rule stack) ∙ length-map stack begun_rule

top : (s : Setting) (f : Begun) (fs : List Begun) (w : Work) →
    rest_made s (f ∷ fs) w ≡ rest_made s fs (rest_of_rule s (length fs + 1) f w)
unfolding rest_made
top s f fs w = refl

no_rules : (s : Setting) (w : Work) → rest_made s [] w ≡ w
unfolding rest_made
no_rules s w = refl

too_deep : (s : Setting) (rule : Found) (w : Work) → rule_made 0 s rule w ≡ w
unfolding rule_made
too_deep s rule w = refl

deep : (n : ℕ) (s : Setting) (rule : Found) (w : Work) → rule_made (suc n) s rule w
    ≡ records_made rule.count (record_made (rule_made n s) s rule.records rule.places) 0 (rule_flagged rule w)
unfolding rule_made
deep n s rule w = refl

-- what the top rule's next record makes, and then the rest of the rules
rest_of : (s : Setting) (stack : List Frame) (frame : Frame) (w : Work) →
    rest_made s (begun_on (stack ++ frame ∷ [])) w
    ≡ rest_made s (begun_on stack) (rest_of_rule s (length stack + 1) (begun_rule frame) w)
rest_of s stack frame w =
    ap (λ fs. rest_made s fs w) (top_first stack frame) ∙ top s (begun_rule frame) (begun_on stack) w
    ∙ ap (λ n. rest_made s (begun_on stack) (rest_of_rule s (n + 1) (begun_rule frame) w)) (begun_length stack)

-- a rule is put on top
pub pushed : (s : Setting) (stack : List Frame) (rule : Found) (frame : Frame) (w : Work) → length stack < 63 →
    begun_rule frame ≡ record { records = rule.records; count = rule.count; places = rule.places; next = 0 } →
    rest_made s (begun_on (stack ++ frame ∷ [])) (rule_flagged rule w)
    ≡ rest_made s (begun_on stack) (rule_made (63 - length stack) s rule w)
pushed s stack rule frame w lt is =
    let n : 63 - length stack ≡ suc (63 - (length stack + 1)) = omega arith in
    let count : rule.count - 0 ≡ rule.count = omega arith in
    rest_of s stack frame (rule_flagged rule w)
    ∙ ap (λ f. rest_made s (begun_on stack) (rest_of_rule s (length stack + 1) f (rule_flagged rule w))) is
    ∙ ap (rest_made s (begun_on stack)) (ap (λ k. records_made k (record_made (rule_made (63 - (length stack + 1)) s) s rule.records rule.places) 0
    (rule_flagged rule w)) count ∙ sym (deep (63 - (length stack + 1)) s rule w) ∙ ap (λ k. rule_made k s rule w) (sym n))

-- or left out, where that would be too deep
pub left_out : (s : Setting) (stack : List Frame) (inner : Option Found) (w : Work) → length stack ≡ 63 →
    rest_made s (begun_on stack) w
    ≡ rest_made s (begun_on stack) (made_if_found (rule_made (63 - length stack) s) inner w)
left_out s stack None w full = refl
left_out s stack (Some rule) w full =
    let n : 63 - length stack ≡ 0 = omega arith in
    sym (ap (rest_made s (begun_on stack)) (ap (λ k. rule_made k s rule w) n ∙ too_deep s rule w))

pub pushed_as : (s : Setting) (stack new : List Frame) (it : Option Matched) (rule : Matched) (frame : Frame) (gs flagged : Glyphs)
    (ps : Positions) (left : ℕ) → it ≡ Some rule → length stack < 63 → new ≡ stack ++ frame ∷ [] →
    begun_rule frame ≡ record { records = rule.records.now; count = rule.count; places = rule.places.items; next = 0 } →
    flagged ≡ flagged_up_to true rule.start (rule.stop - 1) gs →
    rest_made s (begun_on new) (work flagged ps left)
    ≡ rest_made s (begun_on stack) (made_if_found (rule_made (63 - length stack) s) (option_map (λ m. found m) it) (work gs ps left))
pushed_as s stack new it rule frame gs flagged ps left some lt made is flags =
    ap (λ (f : List Frame). rest_made s (begun_on f) (work flagged ps left)) made
    ∙ ap (λ g. rest_made s (begun_on (stack ++ frame ∷ [])) (work g ps left)) flags
    ∙ pushed s stack (found rule) frame (work gs ps left) lt is
    ∙ ap (λ (m : Option Matched). rest_made s (begun_on stack) (made_if_found (rule_made (63 - length stack) s) (option_map (λ m. found m) m) (work gs ps left)))
    (sym some)

pub is_full : (b : Bool) (stack : List Frame) → b ≡ (length stack == 63) → b ≡ true → length stack ≡ 63
is_full b stack is e = grind (arith, nat_tests)

pub not_full : (b : Bool) (stack : List Frame) → b ≡ (length stack == 63) → b ≡ false → length stack ≤ 63 → length stack < 63
not_full b stack is e few = grind (arith, nat_tests)

-- ---- the arms of a step
pub turn_ended : (s : Setting) (old stack : List Frame) (frame : Frame) (w : Work) → old ≡ stack ++ frame ∷ [] →
    frame.count ≤ frame.next → rest_made s (begun_on stack) w ≡ rest_made s (begun_on old) w
turn_ended s old stack frame w is le =
    sym (ap (λ (f : List Frame). rest_made s (begun_on f) w) is ∙ rest_of s stack frame w
    ∙ ap (rest_made s (begun_on stack)) (past_records frame.count frame.next _ w le))

pub turn_called : (s : Setting) (stack : List Frame) (frame after : Frame) (w v : Work) (inner : Option Found) →
    frame.next < frame.count →
    begun_rule after ≡ record { records = frame.records.now; count = frame.count; places = frame.places.items; next = frame.next + 1 } →
    record_made (rule_made (63 - (length stack + 1)) s) s frame.records.now frame.places.items frame.next w
    ≡ made_if_found (rule_made (63 - (length stack + 1)) s) inner v →
    rest_made s (begun_on (stack ++ after ∷ [])) (made_if_found (rule_made (63 - (length stack + 1)) s) inner v)
    ≡ rest_made s (begun_on (stack ++ frame ∷ [])) w
turn_called s stack frame after w v inner lt is made =
    rest_of s stack after _
    ∙ ap (λ f. rest_made s (begun_on stack) (rest_of_rule s (length stack + 1) f (made_if_found (rule_made (63 - (length stack + 1)) s) inner v))) is
    ∙ ap (λ u. rest_made s (begun_on stack) (records_made (frame.count - (frame.next + 1))
    (record_made (rule_made (63 - (length stack + 1)) s) s frame.records.now frame.places.items) (frame.next + 1) u)) (sym made)
    ∙ ap (rest_made s (begun_on stack)) (sym (next_record frame.count frame.next _ w lt)) ∙ sym (rest_of s stack frame w)

pub turn_goes_on : (s : Setting) (old stack pushed : List Frame) (frame after : Frame) (places : List ℕ) (w v : Work)
    (inner : Option Found) (end : Work) → places ≡ frame.places.items → old ≡ stack ++ frame ∷ [] → pushed ≡ stack ++ after ∷ [] → frame.next < frame.count →
    begun_rule after ≡ record { records = frame.records.now; count = frame.count; places = frame.places.items; next = frame.next + 1 } →
    record_made (rule_made (63 - (length stack + 1)) s) s frame.records.now places frame.next w
    ≡ made_if_found (rule_made (63 - (length stack + 1)) s) inner v →
    end ≡ rest_made s (begun_on pushed) (made_if_found (rule_made (63 - length pushed) s) inner v) →
    end ≡ rest_made s (begun_on old) w
turn_goes_on s old stack pushed frame after places w v inner end at_places is made lt same call e =
    let n : length pushed ≡ length stack + 1 = ap length made ∙ length-append stack (after ∷ []) in
    e ∙ ap (λ k. rest_made s (begun_on pushed) (made_if_found (rule_made (63 - k) s) inner v)) n
    ∙ ap (λ (f : List Frame). rest_made s (begun_on f) (made_if_found (rule_made (63 - (length stack + 1)) s) inner v)) made
    ∙ turn_called s stack frame after w v inner lt same
    (ap (λ p. record_made (rule_made (63 - (length stack + 1)) s) s frame.records.now p frame.next w) (sym at_places) ∙ call)
    ∙ ap (λ (f : List Frame). rest_made s (begun_on f) w) (sym is)

-- ---- the loop over turns
pub record IsRunning (s : Setting) (start : Work) (rule : Found) (stack : List Frame) (gs : Glyphs) (ps : Positions)
    (left : ℕ) : Type 0 where
  pub rest : rule_made 63 s rule start ≡ rest_made s (begun_on stack) (work gs ps left)
  pub few : length stack ≤ 63
  pub paired : length ps ≡ length gs

pub running_start : (s : Setting) (rule : Found) (start : Work) (none stack : List Frame) (gs : Glyphs) (ps : Positions)
    (left : ℕ) → none ≡ [] → rest_made s (begun_on stack) (work gs ps left)
    ≡ rest_made s (begun_on none) (made_if_found (rule_made (63 - length none) s) (Some rule) start) →
    length stack ≤ 63 → length ps ≡ length gs → IsRunning s start rule stack gs ps left
running_start s rule start none stack gs ps left is e few paired = record {
  rest = sym (e ∙ ap (λ (f : List Frame). rest_made s (begun_on f) (rule_made (63 - length f) s rule start)) is
      ∙ no_rules s (rule_made 63 s rule start));
  few = few;
  paired = paired;
}

pub running_none : (s : Setting) (rule : Found) (start : Work) (stack : List Frame) (gs new : Glyphs) (ps moved : Positions)
    (left : ℕ) → IsRunning s start rule stack gs ps left → stack ≡ [] → new ≡ gs → moved ≡ ps →
    rule_made 63 s rule start ≡ work new moved left
running_none s rule start stack gs new ps moved left r is same_glyphs same_positions =
    r.rest ∙ ap (λ (f : List Frame). rest_made s (begun_on f) (work gs ps left)) is ∙ no_rules s (work gs ps left)
    ∙ ap (λ g. work g ps left) (sym same_glyphs) ∙ ap (λ p. work new p left) (sym same_positions)

pub running_spent : (s : Setting) (rule : Found) (start : Work) (stack : List Frame) (gs : Glyphs) (ps : Positions)
    (left : ℕ) → IsRunning s start rule stack gs ps left → left ≡ 0 →
    rule_made 63 s rule start ≡ work gs ps 0
running_spent s rule start stack gs ps left r none =
    r.rest ∙ ap (λ n. rest_made s (begun_on stack) (work gs ps n)) none ∙ spent s (begun_on stack) gs ps

-- ---- the loop over a rule's records
pub record IsApplying (s : Setting) (rule : Found) (start : Work) (i : ℕ) (gs : Glyphs) (ps : Positions) (left : ℕ) :
    Type 0 where
  pub rest : rule_made 64 s rule start
      ≡ records_made (rule.count - i) (record_made (rule_made 63 s) s rule.records rule.places) i (work gs ps left)
  pub paired : length ps ≡ length gs

pub applying_start : (s : Setting) (rule : Found) (gs flagged : Glyphs) (ps : Positions) → length ps ≡ length flagged →
    work flagged ps 4096 ≡ rule_flagged rule (work gs ps 4096) →
    IsApplying s rule (work gs ps 4096) 0 flagged ps 4096
applying_start s rule gs flagged ps paired is =
    let count : rule.count - 0 ≡ rule.count = omega arith in
    let each : ℕ → Work → Work = record_made (rule_made 63 s) s rule.records rule.places in
    record {
      rest = deep 63 s rule (work gs ps 4096) ∙ ap (records_made rule.count each 0) (sym is)
          ∙ ap (λ n. records_made n each 0 (work flagged ps 4096)) (sym count);
      paired = paired;
    }

pub applying_next : (s : Setting) (rule : Found) (start : Work) (i : ℕ) (gs new : Glyphs) (ps moved : Positions) (left fewer : ℕ) →
    IsApplying s rule start i gs ps left → i < rule.count → length moved ≡ length new →
    record_made (rule_made 63 s) s rule.records rule.places i (work gs ps left) ≡ work new moved fewer →
    IsApplying s rule start (i + 1) new moved fewer
applying_next s rule start i gs new ps moved left fewer a lt paired is =
    let each : ℕ → Work → Work = record_made (rule_made 63 s) s rule.records rule.places in
    record {
      rest = a.rest ∙ next_record rule.count i each (work gs ps left) lt
          ∙ ap (records_made (rule.count - (i + 1)) each (i + 1)) is;
      paired = paired;
    }

pub applied_all : (s : Setting) (rule : Found) (start : Work) (i : ℕ) (gs : Glyphs) (ps : Positions) (left : ℕ) →
    IsApplying s rule start i gs ps left → rule.count ≤ i → rule_made 64 s rule start ≡ work gs ps left
applied_all s rule start i gs ps left a le = a.rest ∙ past_records rule.count i _ (work gs ps left) le

pub applied_spent : (s : Setting) (rule : Found) (start : Work) (i : ℕ) (gs : Glyphs) (ps : Positions) (left : ℕ) →
    IsApplying s rule start i gs ps left → left ≡ 0 → rule_made 64 s rule start ≡ work gs ps left
applied_spent s rule start i gs ps left a none =
    let each : ℕ → Work → Work = record_made (rule_made 63 s) s rule.records rule.places in
    a.rest ∙ ap (λ n. records_made (rule.count - i) each i (work gs ps n)) none
    ∙ spent_records (rule.count - i) _ s rule.records rule.places i gs ps ∙ ap (work gs ps) (sym none)
