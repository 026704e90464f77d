-- The tables of a context by their parts.
use Rattle.std.proofs.Common.{ℕ, ◌==◌, ◌≡◌, Bool, true, false, Option, None, Some, List, refl, sym, if◌then◌else◌}
use Rattle.opentype_face.specs.Bytes.{u16_in}
use Rattle.std.specs.Option.{IfSome}
use Rattle.opentype_layout.specs.RuleHeads.{SetOfRules}
use Rattle.opentype_layout.specs.Rules.{Kind, kind_in}

chained_of : (third second chained : Bool) (a b c d : Kind) → a.chained ≡ chained → b.chained ≡ true → c.chained ≡ false →
    d.chained ≡ chained →
    (if third then a else (if second then (if chained then b else c) else d)).chained ≡ chained
chained_of true second chained a b c d e f g h = e
chained_of false true true a b c d e f g h = f
chained_of false true false a b c d e f g h = g
chained_of false false chained a b c d e f g h = h

pub kind_chained : (chained : Bool) (bytes : List ℕ) → (kind_in chained bytes).chained ≡ chained
unfolding kind_in
kind_chained chained bytes =
    chained_of (u16_in bytes 0 == 3) (u16_in bytes 0 == 2) chained _ _ _ _ refl refl refl refl

alike : (kind : Kind) (chained : Bool) (format : ℕ) (before input behind : List ℕ) → kind.chained ≡ chained → format ≡ kind.format →
    before ≡ kind.before → input ≡ kind.input → behind ≡ kind.behind →
    (let k : Kind = record { chained = chained; format = format; before = before; input = input; behind = behind } in k) ≡ kind
alike kind chained format before input behind a b c d e = rw (sym a, b, c, d, e) refl

pub kind_is : (chained : Bool) (bytes : List ℕ) (format : ℕ) (before input behind : List ℕ) →
    format ≡ (kind_in chained bytes).format → before ≡ (kind_in chained bytes).before →
    input ≡ (kind_in chained bytes).input → behind ≡ (kind_in chained bytes).behind →
    (let k : Kind = record { chained = chained; format = format; before = before; input = input; behind = behind } in k)
    ≡ kind_in chained bytes
kind_is chained bytes format before input behind = alike (kind_in chained bytes) chained format before input behind (kind_chained chained bytes)

pub same_rules : {T : Type 0} (table : Option T) (rules : T → SetOfRules) (chained one : Bool) (set bytes : List ℕ) →
    chained ≡ one → set ≡ bytes → IfSome table (λ it. rules it ≡ record { chained = one; bytes = bytes }) →
    IfSome table (λ it. rules it ≡ record { chained = chained; bytes = set })
same_rules None rules chained one set bytes e f h = tt
same_rules (Some it) rules chained one set bytes e f h = rw (e, f) h
