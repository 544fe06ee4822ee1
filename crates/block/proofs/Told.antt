-- What a value that is told says of the tests before it. Assumes nothing.
use Rattle.std.proofs.Common.{◌≡◌, Bool, true, false, cond, Some, None, Option, refl}
use Rattle.std.specs.Option.{option_map}

pub mapped_from : {A B : Type 0} (t : Bool) (f : A → B) (o : Option A) (y : B) → cond t (option_map f o) None ≡ Some y → (t ≡ true) × ((x : A) × (o ≡ Some x) × (f x ≡ y))
mapped_from true f (Some x) y e = (refl, (x, refl, cc))
mapped_from true f None y e = cc
mapped_from false f o y e = cc
