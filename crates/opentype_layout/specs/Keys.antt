-- What the glyphs beside a place say of the rules that may fit there.
use Rattle.std.specs.Prelude.{ℕ, ◌+◌, ◌==◌, ◌≡◌, not, Bool, true, false, List, [], None}
use Rattle.shapers_buffer.specs.Glyphs.{Glyphs}
use Rattle.opentype_face.specs.Bytes.{u16_in}
use Rattle.opentype_layout.specs.Pattern.{next_in, previous_in}
use Rattle.opentype_layout.specs.Rules.{Kind, Sought, end_in, found_at, test_in}
use Rattle.opentype_layout.specs.declared.keys.Key.{Key}
use Rattle.opentype_layout.specs.declared.keys.Key.TheVariants.{Any, Number, Nothing}
use Rattle.opentype_layout.specs.declared.keys.Keys.{Keys}
use Rattle.opentype_layout.specs.declared.sight.Sight.{Sight}

-- Whether no rule fits whose first number passes a test: the key is the one number that must pass
-- it, or any, or there is none.
unfoldable pub bars : Key → (ℕ → Bool) → Bool
bars Any test = false
bars (Number n) test = not (test n)
bars Nothing test = true

-- whether a list of numbers begins with one
abbrev pub begins_with : List ℕ → ℕ → Bool
begins_with numbers n = u16_in numbers 0 == n

-- What the three lists of a rule must begin with, so that the rule may fit a place: where a key
-- bars a list's first number, the search for its first glyph finds none. The glyphs behind an input
-- are those behind the place, where the input is one glyph.
pub record AreKeys (gdef : List ℕ) (input context : Sight) (kind : Kind) (gs : Glyphs) (at : ℕ)
    (keys : Keys) : Type 0 where
  pub no_before : (numbers : List ℕ) → bars keys.before (begins_with numbers) ≡ true →
      previous_in gdef context (test_in kind.format numbers kind.before) gs at 0 0 ≡ None
  pub no_input : (numbers : List ℕ) → bars keys.input (begins_with numbers) ≡ true →
      next_in gdef input (test_in kind.format numbers kind.input) gs 0 (at + 1) ≡ None
  pub no_behind : (numbers : List ℕ) → bars keys.behind (begins_with numbers) ≡ true →
      next_in gdef context (test_in kind.format numbers kind.behind) gs 0 (end_in at []) ≡ None

-- such a rule fits no place that has these keys
pub record IsBarred (kind : Kind) (keys : Keys) (rule : Sought) : Type 0 where
  pub none : (gdef : List ℕ) (input context : Sight) (gs : Glyphs) (at : ℕ) →
      AreKeys gdef input context kind gs at keys → found_at gdef input context gs at rule ≡ None
