-- A text in the script and direction of its plan, with room for it, and as its caller has it again.
use Rattle.std.specs.Prelude.{ℕ, ◌*◌, ◌==◌, length, max, min, Option, if◌then◌else◌}
use Rattle.shapers_buffer.specs.Buffer.{Buffer}
use Rattle.shapers_buffer.specs.declared.buffer.level.Direction.{Direction}
use Rattle.shapers_buffer.specs.declared.buffer.tag.Script.{Script}
use Rattle.shapers_plan.specs.EnginePlan.{PlanView}

-- the text in this script and direction
abbrev pub as_planned : Option Script → Direction → Buffer → Buffer
as_planned script direction b = record b { direction = direction; script = script }

-- what a call made of a text, in the script and direction that the text had before the call
abbrev pub put_back : Buffer → Buffer → Buffer
put_back old b = as_planned old.script old.direction b

-- the greatest length of a buffer for which none is set (HarfBuzz 12, HB_BUFFER_MAX_LEN_DEFAULT)
abbrev pub max_len_unset : ℕ
max_len_unset = 0x3FFFFFFF

-- how long a text of n characters may get while it is shaped, in a buffer of this greatest length:
-- as long as that; where none is set, 256 times as long as it is, and at least 65,536 (HarfBuzz 12,
-- HB_BUFFER_MAX_LEN_FACTOR and _MIN)
abbrev pub shape_limit : ℕ → ℕ → ℕ
shape_limit max_len n =
    if max_len == max_len_unset then min max_len_unset (max 65536 (256 * n)) else max_len

-- the text that is shaped by a plan
abbrev pub text_to_shape : PlanView → Buffer → Buffer
text_to_shape plan b =
    let planned = as_planned plan.plan.script plan.direction b in
    record planned { max_len = shape_limit b.max_len (length b.glyphs) }

-- what shaping made of it, with the script, direction and greatest length that the text had
abbrev pub given_back : Buffer → Buffer → Buffer
given_back old b =
    let own = put_back old b in
    record own { max_len = old.max_len }
