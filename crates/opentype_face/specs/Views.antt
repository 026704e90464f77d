-- What a function lends, against what it is to be.
use Rattle.std.specs.Prelude.{◌≡◌, Result, Ok, Err}
use Rattle.opentype_face.specs.declared.directory.FaceError.{FaceError}

-- a result, seen by view, is what reading gives
abbrev pub Gives : {X Y : Type 0} → (X → Y) → Result X FaceError → Result Y FaceError → Type 0
Gives view (Ok x) read = read ≡ Ok (view x)
Gives view (Err e) read = read ≡ Err e
