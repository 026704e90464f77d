-- What a call made of a text in its plan's script and direction, with those that the text had.
use Rattle.std.proofs.Common.{◌≡◌, ◌∙◌, ap, Result, Ok, Err, IfErr}
use Rattle.std.specs.Prelude.{Option}
use Rattle.shapers_buffer.specs.Buffer.{Buffer}
use Rattle.shapers_buffer.specs.declared.buffer.level.Direction.{Direction}
use Rattle.shapers_buffer.specs.declared.buffer.tag.Script.{Script}
use Rattle.shapers_pipeline.specs.Planned.{as_planned, put_back}

pub is_put_back : {script : Option Script} {direction : Direction} (old mid made new : Buffer) → script ≡ old.script →
    direction ≡ old.direction → new ≡ as_planned script direction mid → mid ≡ made → new ≡ put_back old made
is_put_back {script} {direction} old mid made new s d last same =
    last ∙ ap (λ x. as_planned x direction mid) s ∙ ap (λ x. as_planned old.script x mid) d ∙ ap (put_back old) same

pub if_err_weaker : {T E : Type 0} {P Q : E → Type 0} (r : Result T E) → ((e : E) → P e → Q e) → IfErr r P → IfErr r Q
if_err_weaker (Ok x) f h = tt
if_err_weaker (Err e) f h = f e h
