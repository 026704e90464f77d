-- When a refusal comes.
use Rattle.std.specs.Prelude.{ℕ, ◌≡◌, ◌<◌, ◌≤◌, IsOk, Option, None, Some, Result, Ok, Err}
use Rattle.shapers_buffer.specs.declared.buffer.refusal.ShaperError.{ShaperError}
use Rattle.shapers_buffer.specs.declared.buffer.refusal.ShaperError.TheVariants.{Memory, TooLong, UnknownSyllable, SpansDontCover, StretchOverflow}

-- TooLong exactly where what is wanted passes the limit, before Memory, and no other refusal
abbrev pub RefusesLength : {T : Type 0} → ℕ → ℕ → Result T ShaperError → Type 0
RefusesLength limit wanted (Ok _) = wanted ≤ limit
RefusesLength limit wanted (Err Memory) = wanted ≤ limit
RefusesLength limit wanted (Err TooLong) = limit < wanted
RefusesLength limit wanted (Err (UnknownSyllable _)) = ⊥
RefusesLength limit wanted (Err SpansDontCover) = ⊥
RefusesLength limit wanted (Err StretchOverflow) = ⊥

-- Refusals in their order. What the input itself gives comes first, and exactly then: an unknown
-- syllable, spans that don't cover, a stretch that doesn't fit. Then TooLong, exactly where what is
-- wanted passes the limit. Memory comes last.
abbrev pub Refuses : {T : Type 0} → Option ShaperError → ℕ → ℕ → Result T ShaperError → Type 0
Refuses (Some e) limit wanted r = r ≡ Err e
Refuses None limit wanted r = RefusesLength limit wanted r

-- the same of a call that takes no memory and makes nothing longer
abbrev pub RefusesInput : {T : Type 0} → Option ShaperError → Result T ShaperError → Type 0
RefusesInput (Some e) r = r ≡ Err e
RefusesInput None r = IsOk r
