-- What moves and flags keep of a text, lookups keep.
use Rattle.std.proofs.Common.{ℕ, zero, suc, ◌+◌, ◌-◌, ◌*◌, ◌<◌, ◌≤◌, ◌≡◌, ◌∙◌, ◌&&◌, ◌⊎◌, min, nat_lt, is_some, inl, inr, Bool, true, false, List, [], length, map, Option, None, Some, if◌then◌else◌, refl, sym, ap, arith}
use Rattle.std.proofs.lemmas.Grind.{common_steps}
use Rattle.std.proofs.lemmas.List.{length-map}
use Rattle.shapers_clusters.proofs.FlagCalls.{map-unsafe_to_concat_in}
use Rattle.shapers_buffer.specs.Buffer.{Buffer}
use Rattle.shapers_buffer.specs.GlyphFlags.{unsafe_to_concat_in, with_bits}
use Rattle.shapers_buffer.specs.Glyphs.{Glyph, Glyphs}
use Rattle.shapers_buffer.specs.declared.buffer.level.Direction.{Direction}
use Rattle.opentype_face.specs.Bytes.{u16_in}
use Rattle.opentype_face.specs.Lookups.{lookup_in, operations_in}
use Rattle.opentype_layout.specs.Looking.{unjoined}
use Rattle.opentype_layout.specs.Rules.{Found}
use Rattle.opentype_layout.specs.declared.looking.Stretch.{Stretch}
use Rattle.opentype_layout.specs.declared.sight.Application.{Application}
use Rattle.opentype_gpos.specs.Called.{Work, lookup_made, made_of, record_made, records_made, rule_made}
use Rattle.opentype_gpos.specs.Coming.{Setting, came_in, sights_in}
use Rattle.opentype_gpos.specs.Looked.{lookup_looked, tried}
use Rattle.opentype_gpos.specs.Making.{moved}
use Rattle.opentype_gpos.specs.Moved.{Positions, Progress, flagged_up_to}
use Rattle.opentype_gpos.specs.Along.{position_stepped, positioned, setting_for, stepped_by, applied_along}
use Rattle.opentype_gpos.specs.declared.moves.Move.{Move}
use Rattle.opentype_gpos.specs.declared.pass.Sights.{Sights}

pub record IsKept (d : Direction) (P : Glyphs → Positions → Type 0) : Type 1 where
  pub moves : (it : Move) (at : ℕ) (gs : Glyphs) (ps : Positions) → at < length gs → P gs ps →
      P (moved d it at gs ps).glyphs (moved d it at gs ps).positions
  pub flags : (start last : ℕ) (gs : Glyphs) (ps : Positions) → P gs ps → P (flagged_up_to true start last gs) ps
  pub joins : (looked : Stretch) (gs : Glyphs) (ps : Positions) → P gs ps → P (unjoined looked gs) ps

-- ---- flags of concatenation

join_alike : {Y : Type 0} (f : Glyph → Y) → ((g : Glyph) → f (with_bits 2 g) ≡ f g) → (test : Bool) (s e : ℕ) (gs : Glyphs) →
    (test ≡ true → s ≤ e) → map f (if test then unsafe_to_concat_in true s e gs else gs) ≡ map f gs
join_alike f same true s e gs h = map-unsafe_to_concat_in f same true s e gs (h refl)
join_alike f same false s e gs h = refl

pub unjoined_alike : {Y : Type 0} (f : Glyph → Y) → ((g : Glyph) → f (with_bits 2 g) ≡ f g) → (looked : Stretch) (gs : Glyphs) →
    map f (unjoined looked gs) ≡ map f gs
unfolding unjoined
unjoined_alike f same looked gs = let end = min (length gs) looked.stop in
    join_alike f same (nat_lt looked.start end) looked.start end gs (λ t. grind (arith, common_steps, t))

pub unjoined_length : (looked : Stretch) (gs : Glyphs) → length (unjoined looked gs) ≡ length gs
unjoined_length looked gs = sym (length-map (unjoined looked gs) (λ g. g.cluster))
    ∙ ap length (unjoined_alike (λ g. g.cluster) (λ g. refl) looked gs) ∙ length-map gs (λ g. g.cluster)

holds_if : (test : Bool) (P : Glyphs → Positions → Type 0) (x gs : Glyphs) (ps : Positions) → P x ps → P gs ps →
    P (if test then x else gs) ps
holds_if true P x gs ps one two = one
holds_if false P x gs ps one two = two

tried_length : (s : Setting) (sights : Sights) (lookup : List ℕ) (gs : Glyphs) (at : ℕ) →
    length (tried s sights lookup gs at) ≡ length gs
unfolding tried
tried_length s sights lookup gs at = holds_if (s.concat && nat_lt at (length gs)) (λ x ps. length x ≡ length gs) _ gs []
    (unjoined_length (lookup_looked s sights lookup gs at) gs) refl

tried_keeps : (s : Setting) (P : Glyphs → Positions → Type 0) → IsKept s.direction P → (sights : Sights) (lookup : List ℕ)
    (gs : Glyphs) (ps : Positions) (at : ℕ) → P gs ps → P (tried s sights lookup gs at) ps
unfolding tried
tried_keeps s P k sights lookup gs ps at h =
    holds_if (s.concat && nat_lt at (length gs)) P _ gs ps (k.joins _ gs ps h) h

-- ---- lookups

abbrev Holds : (Glyphs → Positions → Type 0) → Work → Type 0
Holds P w = P w.glyphs w.positions

choose : (t : Bool) (P : Glyphs → Positions → Type 0) (a b : Work) → Holds P a → Holds P b →
    Holds P (if t then a else b)
choose true P a b x y = x
choose false P a b x y = y

-- a lookup comes to something only inside the text
came_if : (t : Bool) (o : Option (Move ⊎ Found)) → is_some (if t then o else None) ≡ true → t ≡ true
came_if true o e = refl
came_if false o e = e

came_inside : (s : Setting) (sights : Sights) (lookup : List ℕ) (gs : Glyphs) (at : ℕ) →
    is_some (came_in s sights lookup gs at) ≡ true → at < length gs
unfolding came_in
came_inside s sights lookup gs at e = let t : nat_lt at (length gs) ≡ true = came_if _ _ e in grind (arith, t)

still_inside : (s : Setting) (sights : Sights) (lookup : List ℕ) (gs : Glyphs) (at : ℕ) →
    is_some (came_in s sights lookup gs at) ≡ true → at < length (tried s sights lookup gs at)
still_inside s sights lookup gs at e =
    let n = tried_length s sights lookup gs at in
    let lt = came_inside s sights lookup gs at e in
    omega (arith, n, lt)

made_keeps : (s : Setting) (P : Glyphs → Positions → Type 0) → IsKept s.direction P →
    (by_rule : Found → Work → Work) → ((rule : Found) (w : Work) → Holds P w → Holds P (by_rule rule w)) →
    (at : ℕ) (w : Work) (o : Option (Move ⊎ Found)) → (is_some o ≡ true → at < length w.glyphs) → Holds P w →
    Holds P (made_of by_rule s at w o)
made_keeps s P k by_rule each at w None inside h = h
made_keeps s P k by_rule each at w (Some (inl it)) inside h = k.moves it at w.glyphs w.positions (inside refl) h
made_keeps s P k by_rule each at w (Some (inr rule)) inside h = each rule w h

lookup_keeps : (s : Setting) (P : Glyphs → Positions → Type 0) → IsKept s.direction P →
    (by_rule : Found → Work → Work) → ((rule : Found) (w : Work) → Holds P w → Holds P (by_rule rule w)) →
    (lookup : List ℕ) (at : ℕ) (w : Work) → Holds P w → Holds P (lookup_made by_rule s lookup at w)
unfolding lookup_made
lookup_keeps s P k by_rule each lookup at w h =
    let sights = sights_in s lookup in
    made_keeps s P k by_rule each at (record w { glyphs = tried s sights lookup w.glyphs at }) _
    (still_inside s sights lookup w.glyphs at) (tried_keeps s P k sights lookup w.glyphs w.positions at h)

record_keeps : (s : Setting) (P : Glyphs → Positions → Type 0) → IsKept s.direction P →
    (by_rule : Found → Work → Work) → ((rule : Found) (w : Work) → Holds P w → Holds P (by_rule rule w)) →
    (records places : List ℕ) (i : ℕ) (w : Work) → Holds P w → Holds P (record_made by_rule s records places i w)
unfolding record_made
record_keeps s P k by_rule each records places i w h =
    let n = operations_in (lookup_in s.gpos (u16_in records (i * 4 + 2))) in
    choose (nat_lt w.left n) P _ _ h (choose _ P _ _ (lookup_keeps s P k by_rule each _ _ (record w { left = w.left - n }) h) h)

records_keep : (n : ℕ) (P : Glyphs → Positions → Type 0) (f : ℕ → Work → Work) →
    ((i : ℕ) (w : Work) → Holds P w → Holds P (f i w)) → (i : ℕ) (w : Work) → Holds P w →
    Holds P (records_made n f i w)
unfolding records_made
records_keep zero P f each i w h = h
records_keep (suc n) P f each i w h = records_keep n P f each (i + 1) (f i w) (each i w h)

rule_keeps : (n : ℕ) (s : Setting) (P : Glyphs → Positions → Type 0) → IsKept s.direction P → (rule : Found) (w : Work) →
    Holds P w → Holds P (rule_made n s rule w)
unfolding rule_made
rule_keeps zero s P k rule w h = h
rule_keeps (suc n) s P k rule w h = records_keep rule.count P _
    (λ i v g. record_keeps s P k (rule_made n s) (λ r u f. rule_keeps n s P k r u f) rule.records rule.places i v g)
    0 _ (k.flags rule.start (rule.stop - 1) w.glyphs w.positions h)

-- ---- and so along a text
abbrev pub Stays : (Glyphs → Positions → Type 0) → Progress → Type 0
Stays P c = P c.glyphs c.positions

pub choose_step : (t : Bool) (P : Glyphs → Positions → Type 0) (a b : Progress) → Stays P a → Stays P b →
    Stays P (if t then a else b)
choose_step true P a b x y = x
choose_step false P a b x y = y

step_by : (s : Setting) (P : Glyphs → Positions → Type 0) → IsKept s.direction P → (at : ℕ) (gs : Glyphs)
    (ps : Positions) (o : Option (Move ⊎ Found)) → (is_some o ≡ true → at < length gs) → P gs ps →
    Stays P (stepped_by s at gs ps o)
step_by s P k at gs ps None inside h = h
step_by s P k at gs ps (Some (inl it)) inside h = k.moves it at gs ps (inside refl) h
step_by s P k at gs ps (Some (inr rule)) inside h = rule_keeps 64 s P k rule _ h

step_keeps : (s : Setting) (P : Glyphs → Positions → Type 0) → IsKept s.direction P → (sights : Sights)
    (lookup : List ℕ) (gs : Glyphs) (ps : Positions) (at : ℕ) → P gs ps →
    Stays P (position_stepped s sights lookup gs ps at)
unfolding position_stepped
step_keeps s P k sights lookup gs ps at h =
    choose_step _ P _ _ (step_by s P k at _ ps _ (still_inside s sights lookup gs at)
    (tried_keeps s P k sights lookup gs ps at h)) h

pub walk_keeps : (n : ℕ) (P : Glyphs → Positions → Type 0) (f : Glyphs → Positions → ℕ → Progress) →
    ((gs : Glyphs) (ps : Positions) (at : ℕ) → P gs ps → Stays P (f gs ps at)) →
    (gs : Glyphs) (ps : Positions) (at : ℕ) → P gs ps → Stays P (applied_along n f gs ps at)
unfolding applied_along
walk_keeps zero P f each gs ps at h = h
walk_keeps (suc n) P f each gs ps at h = choose_step (nat_lt at (length gs)) P _ _
    (walk_keeps n P f each (f gs ps at).glyphs (f gs ps at).positions (f gs ps at).next (each gs ps at h)) h

pub positioned_keeps : (P : Glyphs → Positions → Type 0) (gdef gpos : List ℕ) (index : ℕ) (how : Application) (b : Buffer) →
    IsKept b.direction P → P b.glyphs b.positions →
    P (positioned gdef gpos index how b).glyphs (positioned gdef gpos index how b).positions
unfolding positioned
positioned_keeps P gdef gpos index how b k h =
    let s : Setting = setting_for gdef gpos how b in
    let lookup : List ℕ = lookup_in gpos index in
    walk_keeps (length b.glyphs) P (position_stepped s (sights_in s lookup) lookup)
    (λ gs ps at g. step_keeps s P k (sights_in s lookup) lookup gs ps at g) b.glyphs b.positions 0 h
