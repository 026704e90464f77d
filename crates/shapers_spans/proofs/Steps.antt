-- What is left of an expression behind a category (Brzozowski), simplified.
use Rattle.std.proofs.Common.{ℕ, Bool, true, false, ◌==◌, cond}
use Rattle.shapers_spans.specs.Re.{Re, none, empty, one, seq, alt, star}

unfoldable pub nullable : Re → Bool
nullable none = false
nullable empty = true
nullable (one k) = false
nullable (seq a b) = let rest = nullable b in cond (nullable a) rest false
nullable (alt a b) = let rest = nullable b in cond (nullable a) true rest
nullable (star a) = true

unfoldable pub same : Re → Re → Bool
same none none = true
same empty empty = true
same (one j) (one k) = j == k
same (seq a b) (seq c d) = let rest = same b d in cond (same a c) rest false
same (alt a b) (alt c d) = let rest = same b d in cond (same a c) rest false
same (star a) (star b) = same a b
same _ _ = false

unfoldable pub chain : Re → Re → Re
chain none b = none
chain empty b = b
chain (seq x y) b = seq x (chain y b)
chain (one k) b = seq (one k) b
chain (alt x y) b = seq (alt x y) b
chain (star x) b = seq (star x) b

unfoldable pub member : Re → Re → Bool
member a (alt x y) = let rest = member a y in cond (same a x) true rest
member a none = same a none
member a empty = same a empty
member a (one k) = same a (one k)
member a (seq x y) = same a (seq x y)
member a (star x) = same a (star x)

unfoldable pub before : Re → Re → Re
before a none = a
before a empty = alt a empty
before a (one k) = alt a (one k)
before a (seq x y) = alt a (seq x y)
before a (alt x y) = alt a (alt x y)
before a (star x) = alt a (star x)

unfoldable pub insert : Re → Re → Re
insert a b = cond (member a b) b (before a b)

unfoldable pub union : Re → Re → Re
union none b = b
union (alt x y) b = union x (union y b)
union empty b = insert empty b
union (one k) b = insert (one k) b
union (seq x y) b = insert (seq x y) b
union (star x) b = insert (star x) b

unfoldable pub step : ℕ → Re → Re
step k none = none
step k empty = none
step k (one j) = cond (j == k) empty none
step k (seq a b) =
    let front = chain (step k a) b in
    let both = union front (step k b) in
    cond (nullable a) both front
step k (alt a b) = union (step k a) (step k b)
step k (star a) = chain (step k a) (star a)
