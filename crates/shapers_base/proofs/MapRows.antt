-- The questions to a map and the words for requests, computed on small ones.
use Rattle.std.specs.Prelude.{◌≡◌, ◌==◌, ℕ, true, false, [], ◌∷◌, Some, None, codes, refl}
use Rattle.shapers_buffer.specs.declared.buffer.tag.hb_tag_t.{hb_tag_t}
use Rattle.shapers_base.specs.declared.map.TheConstants.{F_MANUAL_JOINERS}
use Rattle.shapers_base.specs.declared.plan.planner.Request.TheVariants.{Feature}
use Rattle.shapers_base.specs.declared.map.TableIndex.TheVariants.{GSUB, GPOS}
use Rattle.shapers_base.specs.Map.{Map, can_be_map, lookups_in, mask_of, of_gsub, range_for, range_of, stage_of}
use Rattle.shapers_base.specs.Questions.{question_for, would_by}
use Rattle.shapers_base.specs.Planner.{added, enabled, disabled, bare_pause, each_paused, with_requests}

abbrev blwf : hb_tag_t
blwf = record { 0 = codes "blwf" }

abbrev pstf : hb_tag_t
pstf = record { 0 = codes "pstf" }

-- a map with two features by one tag, and three stages over four lookups
abbrev small : Map
small = record {
  features = record { tag = blwf; mask = 16; stage = 1 } ∷ record { tag = blwf; mask = 32; stage = 2 } ∷ [];
  stages = record { start = 0; end = 1 } ∷ record { start = 1; end = 3 } ∷ record { start = 3; end = 4 } ∷ [];
  lookups = 5 ∷ 6 ∷ 7 ∷ 8 ∷ [];
  global = 0;
  chosen = None;
  found = true;
}

can_be_small : can_be_map small ≡ true
can_be_small = refl

-- a mask with a flag bit, a range that falls, and one that leaves the list
flag_bit : can_be_map (record small { features = record { tag = blwf; mask = 20; stage = 1 } ∷ [] }) ≡ false
flag_bit = refl

falling_range : can_be_map (record small { stages = record { start = 2; end = 1 } ∷ [] }) ≡ false
falling_range = refl

long_range : can_be_map (record small { stages = record { start = 2; end = 5 } ∷ [] }) ≡ false
long_range = refl

-- the first entry counts, and without one the mask is 0
first_mask : mask_of blwf small ≡ 16
first_mask = refl

no_mask : mask_of pstf small ≡ 0
no_mask = refl

first_stage : stage_of blwf small ≡ Some 1
first_stage = refl

-- with two lookups in the stage it is true where only the second applies
second_lookup : would_by (λ lookup _ _. lookup == 7) small (question_for blwf false small) [] ≡ true
second_lookup = refl

other_stage : would_by (λ lookup _ _. lookup == 8) small (question_for blwf false small) [] ≡ false
other_stage = refl

no_stage : lookups_in (range_for pstf small) small ≡ []
no_stage = refl

-- the map knows GSUB, and not GPOS
gsub_known : of_gsub {X = ℕ} GSUB 16 0 ≡ 16
gsub_known = refl

gpos_unknown : of_gsub {X = ℕ} GPOS 16 0 ≡ 0
gpos_unknown = refl

-- each stage has its own range; a stage behind the last has none, and so has a feature that names it
first_range : range_of 0 small ≡ record { start = 0; end = 1 }
first_range = refl

last_range : range_of 2 small ≡ record { start = 3; end = 4 }
last_range = refl

range_beyond : range_of 3 small ≡ record { start = 0; end = 0 }
range_beyond = refl

stage_beyond : lookups_in (range_for pstf (record small { features = record { tag = pstf; mask = 8; stage = 3 } ∷ [] }))
    small ≡ []
stage_beyond = refl

joiner_flags : added (F_MANUAL_JOINERS) "blwf" ≡ Feature blwf 12 1
joiner_flags = refl

rlig_flags : enabled 10 "blwf" ≡ Feature blwf 11 1
rlig_flags = refl

off : disabled "blwf" ≡ Feature blwf 1 0
off = refl

paused : each_paused (bare_pause ∷ []) ≡ bare_pause ∷ bare_pause ∷ []
paused = refl

-- new requests stand behind the planner's own, in their order
requests_behind : with_requests (disabled "liga" ∷ bare_pause ∷ [])
    (record { script = None; requests = enabled 0 "ccmp" ∷ [] })
    ≡ record { script = None; requests = enabled 0 "ccmp" ∷ disabled "liga" ∷ bare_pause ∷ [] }
requests_behind = refl
