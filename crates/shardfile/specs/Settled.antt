-- A value put where there was none. Assumes nothing.
use Rattle.std.specs.Prelude.{◌≡◌, true, false, is_some, Option}

pub record Settled {T : Type 0} (before value after : Option T) : Type 0 where
  pub free : is_some before ≡ false
  pub some : is_some value ≡ true
  pub put : after ≡ value
