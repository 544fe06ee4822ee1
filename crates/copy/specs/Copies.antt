-- The scheme Copy: a shard is the whole blob. Assumes nothing.
use Rattle.std.specs.Prelude.{ℕ, ◌+◌, Bool, cond, ◌&&◌, List, [], ◌∷◌, length, Ok, Err, nat_le, nat_lt}
use Rattle.std.specs.Str.{bytes_eq}
use Rattle.register.specs.declared.commitment.Config.{Config}
use Rattle.scheme.specs.declared.fault.Fault.TheVariants.{TooFew, TooLong}
use Rattle.scheme.specs.Pieces.{Indexed}
use Rattle.scheme.specs.Told.{Opened}

-- a shard is good if its index is below minimum + extra and it hashes to the root
abbrev pub copy_good : (List ℕ → List ℕ) → Config → List ℕ → ℕ → List ℕ → Bool
copy_good digest config root index shard =
    nat_lt index (config.minimum + config.extra) && bytes_eq (digest shard) root

-- a list opens to its first shard, if that is within the limit
abbrev pub copy_opens : ℕ → List Indexed → Opened
copy_opens limit [] = Err TooFew
copy_opens limit (s ∷ _) = cond (nat_le (length s.bytes) limit) (Ok s.bytes) (Err TooLong)
