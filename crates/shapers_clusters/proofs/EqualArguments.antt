-- Functions at several equal arguments.
use Rattle.std.proofs.Common.{arith}
use Rattle.std.proofs.Common.{◌≡◌}

pub same_two : {A B C : Type 0} (f : A → B → C) {a b : A} {c d : B} → a ≡ b → c ≡ d → f a c ≡ f b d
same_two f {a} {b} {c} {d} p q = cc

pub same_three : {A B C D : Type 0} (f : A → B → C → D) {a b : A} {c d : B} {e g : C} → a ≡ b → c ≡ d → e ≡ g
    → f a c e ≡ f b d g
same_three f {a} {b} {c} {d} {e} {g} p q r = cc (same_two (f b) q r)

pub same_four : {A B C D E : Type 0} (f : A → B → C → D → E) {a b : A} {c d : B} {e g : C} {h k : D} → a ≡ b → c ≡ d
    → e ≡ g → h ≡ k → f a c e h ≡ f b d g k
same_four f {a} {b} {c} {d} {e} {g} {h} {k} = search arith
