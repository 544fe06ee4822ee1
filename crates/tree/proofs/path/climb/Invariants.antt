-- What is left of the path, the node so far, and the place that it has on its level.
use Rattle.std.proofs.Common.{◌≡◌, ◌*◌, ◌/◌, ◌^◌, ◌≤◌, length, drop}
use Rattle.std.specs.Slice.Iter.{chunks_exact_rest, chunks_exact_size}
use Rattle.tree.specs.Trees.{climbed}
use Rattle.tree.proofs.path.climb.Given as goal

abbrev pub invariant-loop-sibling : goal.invariant-loop-sibling
invariant-loop-sibling g l =
    record {
      size : chunks_exact_size l.sibling-iterator ≡ 32;
      left : chunks_exact_rest l.sibling-iterator ≡ drop (32 * length l.yielded) l.path;
      within : 32 * length l.yielded ≤ length l.path;
      long : length l.node ≡ 32;
      at : l.place ≡ l.index / 2 ^ length l.yielded;
      climbs : l.node ≡ climbed (g.D.Hash.digest l.hash) l.initial.node l.index l.path (length l.yielded);
    }
