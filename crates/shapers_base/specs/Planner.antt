-- What a planner is to its callers, and the words for requests.
use Prim.Native.String.{String}
use Rattle.std.specs.Prelude.{ℕ, List, [], ◌∷◌, ◌++◌, Option, None, Some, bit_or, codes}
use Rattle.std.specs.List.{flat_map}
use Rattle.shapers_buffer.specs.declared.buffer.tag.Script.{Script}
use Rattle.shapers_base.specs.declared.map.TheConstants.{F_GLOBAL}
use Rattle.shapers_base.specs.declared.plan.pause.Pause as pauses
use Rattle.shapers_base.specs.declared.plan.planner.Request.{Request}
use Rattle.shapers_base.specs.declared.plan.planner.Request.TheVariants.{Feature, Pause}

-- a planner: the script, and the requests so far
pub record Planner : Type 0 where
  pub script : Option Script
  pub requests : List Request

-- the planner with these requests after its own
abbrev pub with_requests : List Request → Planner → Planner
with_requests rs p = record p { requests = p.requests ++ rs }

-- the request for a feature that masks turn on
abbrev pub added : ℕ → String → Request
added flags tag = Feature (record { 0 = codes tag }) flags 1

-- the request for a feature that holds for the whole text
abbrev pub enabled : ℕ → String → Request
enabled flags tag = added (bit_or flags F_GLOBAL) tag

-- the request that a feature be off
abbrev pub disabled : String → Request
disabled tag = Feature (record { 0 = codes tag }) F_GLOBAL 0

-- a pause without a function, and one with
abbrev pub bare_pause : Request
bare_pause = Pause None

abbrev pub pause_for : pauses.Pause → Request
pause_for p = Pause (Some p)

-- each request followed by a pause without a function
abbrev pub each_paused : List Request → List Request
each_paused rs = flat_map (λ r. r ∷ bare_pause ∷ []) rs
