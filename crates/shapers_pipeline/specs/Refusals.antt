-- Where the preparation of a text stops.
use Rattle.std.specs.Prelude.{ℕ, ◌≡◌, ◌≤◌, ◌⊎◌, List, [], ◌∷◌, Err}
use Rattle.shapers_buffer.specs.Buffer.{Buffer}
use Rattle.shapers_buffer.specs.Refusals.{RefusesLength}
use Rattle.shapers_buffer.specs.declared.buffer.refusal.ShaperError.{ShaperError}
use Rattle.rustybuzz_shapers.specs.Checked.{IsFirstUnmet, MetBefore}
use Rattle.rustybuzz_shapers.specs.declared.shaper.checked.CallError.{CallError}
use Rattle.rustybuzz_shapers.specs.declared.shaper.checked.CallError.TheVariants as call
use Rattle.rustybuzz_shapers.specs.declared.shaper.checked.Condition.{Condition}
use Rattle.rustybuzz_shapers.specs.declared.shaper.checked.Condition.TheVariants.{Positions, PlanData, Glyphs}
use Rattle.shapers_pipeline.specs.Prepared.{Growth, Preparation, growths, text_in_fractions}
use Rattle.shapers_pipeline.specs.ShaperSteps.{GlyphsFitFor, PlanFitsFor}

-- all these steps had room
abbrev pub AllHadRoom : ℕ → List Growth → Type 0
AllHadRoom limit [] = Unit {0}
AllHadRoom limit (g ∷ gs) = (g.wanted ≤ limit) × AllHadRoom limit gs

-- one of these steps refused, as a growth to its length does, and all before it had room; the
-- buffer is as it was before that step
abbrev pub OneRefused : ℕ → List Growth → ShaperError → Buffer → Type 0
OneRefused limit [] e new = ⊥
OneRefused limit (g ∷ gs) e new =
    (RefusesLength {T = Unit {0}} limit g.wanted (Err e) × (new ≡ g.before))
    ⊎ ((g.wanted ≤ limit) × OneRefused limit gs e new)

-- a text that is prepared: it had no positions, the plan has what the shaper reads, each step had
-- room, and the glyphs are such as the shaper's masks are set of
pub record IsPrepared (p : Preparation) (old : Buffer) : Type 0 where
  pub positions : old.positions ≡ []
  pub plan_data : PlanFitsFor p.shaper p.plan
  pub room : AllHadRoom old.max_len (growths p old)
  pub glyphs : GlyphsFitFor p.shaper p.plan (text_in_fractions p old).glyphs

-- what each condition is for the preparation of a text: of the glyphs as they are once all that
-- comes before the shaper's masks is done; what isn't named isn't required
abbrev pub preparation_asks : Preparation → Buffer → Condition → Type 0
preparation_asks p old Positions = old.positions ≡ []
preparation_asks p old PlanData = PlanFitsFor p.shaper p.plan
preparation_asks p old Glyphs = GlyphsFitFor p.shaper p.plan (text_in_fractions p old).glyphs
preparation_asks p old _ = Unit {0}

-- The first condition that isn't met, and what the buffer is then: as it was; or, where the glyphs
-- aren't such, with all that comes before the shaper's masks, which had room.
abbrev pub IsUnmet : Preparation → Buffer → Buffer → Condition → Type 0
IsUnmet p old new Glyphs =
    IsFirstUnmet (preparation_asks p old) Glyphs
    × (AllHadRoom old.max_len (growths p old) × (new ≡ text_in_fractions p old))
IsUnmet p old new c = IsFirstUnmet (preparation_asks p old) c × (new ≡ old)

-- why the preparation stopped, and what the buffer is then; a step refuses once the conditions
-- before that of the glyphs are met
abbrev pub IsStopped : Preparation → Buffer → Buffer → CallError → Type 0
IsStopped p old new (call.Condition c) = IsUnmet p old new c
IsStopped p old new (call.Refused e) =
    MetBefore (preparation_asks p old) Glyphs
    × OneRefused old.max_len (growths p old) e new
