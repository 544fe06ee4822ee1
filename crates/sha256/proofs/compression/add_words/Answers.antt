use Rattle.std.proofs.Common.{get_or, rules}
use Rattle.hash.proofs.FromFn.{made_each}
use Rattle.sha256.specs.Fips180.{add, sums}
use Rattle.sha256.proofs.compression.add_words.Goals as goal

pub returns : goal.returns
unfolding sums
returns c =
    made_each _ (λ i. add (get_or c.args.x i 0) (get_or c.args.y i 0)) _ 8 (λ i x f low call. search rules) _ c.from_fn.ensures.items
