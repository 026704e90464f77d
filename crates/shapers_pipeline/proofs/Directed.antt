-- What turning a text keeps of its buffer.
use Rattle.std.proofs.Common.{◌≡◌, Bool, true, false, refl}
use Rattle.std.specs.Prelude.{if◌then◌else◌}
use Rattle.shapers_buffer.specs.Buffer.{Buffer}
use Rattle.shapers_prepare.specs.NativeDirection.{in_native_direction}

either : {X Y : Type 0} (f : X → Y) (test : Bool) (x y : X) → f x ≡ f y → f (if test then x else y) ≡ f y
either f true x y same = same
either f false x y same = refl

pub positions_stay : (b : Buffer) → (in_native_direction b).positions ≡ b.positions
positions_stay b = either (λ x. x.positions) _ _ b refl

pub limit_stays : (b : Buffer) → (in_native_direction b).max_len ≡ b.max_len
limit_stays b = either (λ x. x.max_len) _ _ b refl
