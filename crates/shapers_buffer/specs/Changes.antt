-- What a closure does that changes one thing.
use Rattle.std.specs.Prelude.{◌≡◌, ⊤}
use Rattle.std.specs.Borrow.{MutBor}
use Rattle.std.specs.Fn.{Shared}

-- each call of the closure changes what it is given as this function does
abbrev pub ChangesAs : {F X : Type 0} → Shared F (MutBor X × ⊤) (⊤ × (MutBor X × ⊤)) → F
    → (X → X) → Type 0
ChangesAs {F} {X} g change f =
    (p q : MutBor X) → g.post change (p, tt) (tt, (q, tt)) → q.now ≡ f p.now
