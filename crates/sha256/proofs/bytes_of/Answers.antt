use Rattle.std.proofs.Common.{rules}
use Rattle.hash.proofs.FromFn.{made_each}
use Rattle.sha256.specs.Fips180.{byte_of, bytes}
use Rattle.sha256.proofs.bytes_of.Goals as goal

pub returns : goal.returns
unfolding bytes
returns c = made_each _ (byte_of c.args.h) _ 32 (λ k x f low call. search rules) _ c.from_fn.ensures.items
