-- A lookup along a text, and over a buffer.
use Rattle.std.specs.Prelude.{ℕ, zero, suc, ◌+◌, ◌==◌, ◌&&◌, ◌⊎◌, not, bit_and, nat_lt, List, length, Option, None, Some, if◌then◌else◌}
use Rattle.std.proofs.Common.{inl, inr}
use Rattle.shapers_buffer.specs.Buffer.{Buffer, asks, flags_concat}
use Rattle.shapers_buffer.specs.Glyphs.{Glyphs}
use Rattle.opentype_face.specs.Lookups.{lookup_in}
use Rattle.opentype_layout.specs.Rules.{Found}
use Rattle.opentype_layout.specs.Sight.{ignores}
use Rattle.opentype_layout.specs.Text.{glyph_at}
use Rattle.opentype_layout.specs.declared.sight.Application.{Application}
use Rattle.opentype_gpos.specs.Called.{rule_made}
use Rattle.opentype_gpos.specs.Coming.{Setting, came_in, sights_in}
use Rattle.opentype_gpos.specs.Looked.{tried}
use Rattle.opentype_gpos.specs.Making.{moved}
use Rattle.opentype_gpos.specs.Moved.{Positions, Progress}
use Rattle.opentype_gpos.specs.declared.moves.Move.{Move}
use Rattle.opentype_gpos.specs.declared.pass.Sights.{Sights}

-- nothing at a place
abbrev pub passed : ℕ → Glyphs → Positions → Progress
passed at gs ps = record { glyphs = gs; positions = ps; next = at + 1 }

-- A rule that fits at a place, with the lookups that it applies, in at most 4,096 operations and 64
-- levels deep. The text goes on behind its input.
abbrev pub at_rule : Setting → Found → Glyphs → Positions → Progress
at_rule s rule gs ps =
    let w = rule_made 64 s rule (record { glyphs = gs; positions = ps; left = 4096 }) in
    record { glyphs = w.glyphs; positions = w.positions; next = rule.end }

-- what a lookup that comes to something at a place makes of a text
abbrev pub stepped_by : Setting → ℕ → Glyphs → Positions → Option (Move ⊎ Found) → Progress
stepped_by s at gs ps None = passed at gs ps
stepped_by s at gs ps (Some (inl it)) = moved s.direction it at gs ps
stepped_by s at gs ps (Some (inr rule)) = at_rule s rule gs ps

-- what a lookup does at a place: nothing to a glyph that hasn't its feature, or that it ignores;
-- else what it looks at in vain is flagged first
unfoldable pub position_stepped : Setting → Sights → List ℕ → Glyphs → Positions → ℕ → Progress
position_stepped s sights lookup gs ps at =
    let g = glyph_at gs at in
    if not (bit_and g.mask sights.input.mask == 0)
    && not (ignores s.gdef sights.input.flag sights.input.set g)
    then stepped_by s at (tried s sights lookup gs at) ps (came_in s sights lookup gs at)
    else passed at gs ps

-- a text from a place on, in at most so many steps
unfoldable pub applied_along :
    ℕ → (Glyphs → Positions → ℕ → Progress) → Glyphs → Positions → ℕ → Progress
applied_along zero f gs ps at = record { glyphs = gs; positions = ps; next = at }
applied_along (suc n) f gs ps at =
    if nat_lt at (length gs)
    then applied_along n f (f gs ps at).glyphs (f gs ps at).positions (f gs ps at).next
    else record { glyphs = gs; positions = ps; next = at }

-- the whole text, in as many steps as there are glyphs
abbrev pub applied_whole : Setting → List ℕ → Glyphs → Positions → Progress
applied_whole s lookup gs ps =
    applied_along (length gs) (position_stepped s (sights_in s lookup) lookup) gs ps 0

abbrev pub setting_for : List ℕ → List ℕ → Application → Buffer → Setting
setting_for gdef gpos how b =
    record {
      gdef = gdef;
      gpos = gpos;
      direction = b.direction;
      how = how;
      concat = asks flags_concat b;
    }

-- a lookup by its number, as a plan has it applied
unfoldable pub positioned : List ℕ → List ℕ → ℕ → Application → Buffer → Buffer
positioned gdef gpos index how b =
    let end = applied_whole (setting_for gdef gpos how b) (lookup_in gpos index) b.glyphs
    b.positions
    in record b { glyphs = end.glyphs; positions = end.positions }
