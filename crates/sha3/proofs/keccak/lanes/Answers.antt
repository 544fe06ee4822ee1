use Rattle.std.proofs.Common.{[], ◌∷◌}
use Rattle.sha3.proofs.Lanes.{all_lanes}
use Rattle.sha3.proofs.keccak.lanes.Goals as goal

pub returns : goal.returns
returns g c =
    all_lanes (λ x y r. goal.F-post g c.args.lane x y r)
    (c.lane.result ∷ c.lane-2.result ∷ c.lane-3.result ∷ c.lane-4.result ∷ c.lane-5.result ∷
    c.lane-6.result ∷ c.lane-7.result ∷ c.lane-8.result ∷ c.lane-9.result ∷ c.lane-10.result ∷
    c.lane-11.result ∷ c.lane-12.result ∷ c.lane-13.result ∷ c.lane-14.result ∷ c.lane-15.result ∷
    c.lane-16.result ∷ c.lane-17.result ∷ c.lane-18.result ∷ c.lane-19.result ∷ c.lane-20.result ∷
    c.lane-21.result ∷ c.lane-22.result ∷ c.lane-23.result ∷ c.lane-24.result ∷ c.lane-25.result ∷ [])
    c.lane.ensures c.lane-2.ensures c.lane-3.ensures c.lane-4.ensures c.lane-5.ensures
    c.lane-6.ensures c.lane-7.ensures c.lane-8.ensures c.lane-9.ensures c.lane-10.ensures
    c.lane-11.ensures c.lane-12.ensures c.lane-13.ensures c.lane-14.ensures c.lane-15.ensures
    c.lane-16.ensures c.lane-17.ensures c.lane-18.ensures c.lane-19.ensures c.lane-20.ensures
    c.lane-21.ensures c.lane-22.ensures c.lane-23.ensures c.lane-24.ensures c.lane-25.ensures
