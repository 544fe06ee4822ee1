use Rattle.std.proofs.Common.{◌≡◌, ℕ, ◌+◌, drop, Ok, Err, Result}
use Rattle.table.specs.Table.{found}
use Rattle.table.proofs.scan.Given as goal

-- a place among the entries from n on, counted from the first entry
abbrev ahead : ℕ → Result ℕ ℕ → Result ℕ ℕ
ahead n (Ok i) = Ok (n + i)
ahead n (Err i) = Err (n + i)

abbrev pub invariant-loop-i : goal.invariant-loop-i
invariant-loop-i g l =
    let it = found g.E.Key.Ordered.order g.E.Entry.named l.key in
    ahead l.i (it (drop l.i l.entries)) ≡ it l.entries
