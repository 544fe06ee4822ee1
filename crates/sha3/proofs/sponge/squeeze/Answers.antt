use Rattle.std.proofs.Common.{rules}
use Rattle.sha3.specs.Fips202.{squeezed, squeezed_byte}
use Rattle.hash.proofs.FromFn.{made_each}
use Rattle.sha3.proofs.sponge.squeeze.Goals as goal

pub returns : goal.returns
unfolding squeezed
returns c = made_each _ (squeezed_byte c.args.state) _ 32 (λ k x f low call. search rules) c.from_fn.result c.from_fn.ensures.items
