use Rattle.std.proofs.Common.{◌≡◌, ◌∙◌, nat_eq, rules}
use Rattle.std.proofs.lemmas.Iterator.{YieldsList-from_slice}
use Rattle.std.proofs.lemmas.Iterator.Search.{position_from_yields_List}
use Rattle.std.specs.Cmp.Lexicographic.{pointwise}
use Rattle.register.specs.declared.key.Key.{Key}
use Rattle.rosters.specs.Sound.{all_bytes, index}
use Rattle.rosters.proofs.Scans.{position_is}
use Rattle.rosters.proofs.members.place.Goals as goal

pub returns : goal.returns
returns c =
    let k = c.args.key.now.bytes in
    let ks = c.args.keys.now in
    let at = position_from_yields_List (λ (l : Key). pointwise nat_eq l.bytes k) _ _ c.position.result c.position.ensures.ran (YieldsList-from_slice ks cc) (λ x b q h. search rules) in
    let is : c.position.result ≡ index k (all_bytes ks) = at ∙ position_is k ks in
    search rules
