-- Sequences of joiners, which the walk of the code goes on behind.
use Rattle.std.specs.Prelude.{◌≡◌, ℕ, zero, suc, ◌<◌, Bool, true, false, List, [], ◌∷◌, drop, take, Option, None}
use Rattle.shapers_buffer.specs.Glyphs.{Glyphs}
use Rattle.shapers_spans.specs.Grammar.{read_of}

-- Of the first n glyphs, those that are read are joiners, and a glyph that is read, or none, stands
-- behind them.
abbrev pub Joined : (Glyphs → Bool) → (ℕ → Bool) → Glyphs → ℕ → Type 0
Joined passes is_joiner gs zero = passes gs ≡ false
Joined passes is_joiner [] (suc n) = ⊥
Joined passes is_joiner (g ∷ gs) (suc n) =
    (passes (g ∷ gs) ≡ false → is_joiner g.category ≡ true) × Joined passes is_joiner gs n

-- from the state nothing ends, whatever front of the glyphs is read
abbrev pub EndsNothing : (Glyphs → Bool) → (ℕ → List ℕ → Option ℕ) →
    Glyphs → ℕ → Type 0
EndsNothing passes ends gs state = (m : ℕ) → ends state (take m (read_of passes gs)) ≡ None

-- What is known of joiners: of so many glyphs in front those that are read are joiners, and nothing
-- ends from this state behind them.
pub record KnowsJoiners (passes : Glyphs → Bool) (is_joiner : ℕ → Bool)
    (ends : ℕ → List ℕ → Option ℕ) (gs : Glyphs) (len stuck : ℕ) : Type 0 where
  pub joined : Joined passes is_joiner gs len
  pub ends_none : 0 < len → EndsNothing passes ends (drop len gs) stuck
