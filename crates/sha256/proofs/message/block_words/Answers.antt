use Rattle.std.proofs.Common.{◌*◌, rules}
use Rattle.hash.proofs.FromFn.{made_each}
use Rattle.sha256.specs.Fips180.{word, words}
use Rattle.sha256.proofs.message.block_words.Goals as goal

pub returns : goal.returns
unfolding words
returns c =
    made_each _ (λ j. word c.args.block.now (4 * j)) _ 16 (λ j x f low call. search rules) _ c.from_fn.ensures.items
