-- Intake: what one shard does to the record that it is for. Assumes nothing.
use Rattle.std.specs.Prelude.{ℕ, Bool, true, false, cond, ◌&&◌, List, [], ◌∷◌, ◌++◌, Some, None, Option, ◌==◌, slice_index_or, slice_set}
use Rattle.std.specs.Ordering.{nat_cmp}
use Rattle.std.specs.Str.{bytes_eq}
use Rattle.register.specs.Order.{order}
use Rattle.rosters.specs.Sound.{index}
use Rattle.scheme.specs.Pieces.{Indexed}
use Rattle.table.specs.Laws.{look}
use Rattle.table.specs.Table.{put}
use Rattle.model.specs.Meaning.{Meaning, good_for}
use Rattle.model.specs.State.{Phase, awaiting, cached, Rec, Sent, Shards, with_contribution}
use Rattle.model.specs.declared.answer.Reason.{Reason}
use Rattle.model.specs.declared.answer.Reason.TheVariants.{Stranger, WrongIndex, Equivocation, BadAssigned}

-- what goes out once the assigned shard is verified: on a node with an own index its bytes, to everybody
pub data Action : Type 0 where
  broadcast : List ℕ → Action
  ready : Action

-- what intake comes to
pub record Taken : Type 0 where
  pub rec : Rec
  pub report : Option Reason
  pub action : Option Action
  pub gained : Bool

-- a shard by its sender and index: the assigned one, the sender's own, or neither
pub data Class : Type 0 where
  assigned : Class
  owned : Class
  stray : Class

abbrev pub dropped : Rec → Taken
dropped r = record { rec = r; report = None; action = None; gained = false }

abbrev pub rejected : Reason → Rec → Taken
rejected reason r = record { rec = r; report = Some reason; action = None; gained = false }

abbrev pub index_of : Indexed → ℕ
index_of s = s.index

abbrev pub sender_of : Sent → List ℕ
sender_of p = p.sender

abbrev pub received_at : ℕ → Shards → Option Indexed
received_at i w = look nat_cmp index_of i w.received

-- the leader is known, and is this key
abbrev pub leads : Option (List ℕ) → List ℕ → Bool
leads None k = false
leads (Some l) k = bytes_eq l k

-- the index is the own one; a node without one is assigned what the leader sends at the leader's own index
abbrev pub is_assigned : Option ℕ → Option (List ℕ) → List ℕ → ℕ → ℕ → Bool
is_assigned (Some own) leader sender place i = i == own
is_assigned None leader sender place i = leads leader sender && i == place

-- `place` is the sender's index
abbrev pub classed : Option ℕ → Option (List ℕ) → List ℕ → ℕ → ℕ → Class
classed own leader sender place i = cond (is_assigned own leader sender place i) assigned (cond (i == place) owned stray)

abbrev pub led : {X : Type 0} → Option (List ℕ) → X → X → X
led None known unknown = unknown
led (Some l) known unknown = known

abbrev pub with_received : Indexed → List Indexed → Shards → Shards
with_received s checked w =
    record { received = put nat_cmp index_of s w.received; checked = checked; pending = w.pending; job = w.job }

abbrev pub with_pending : Sent → Shards → Shards
with_pending p w =
    record { received = put nat_cmp index_of p.shard w.received; checked = w.checked; pending = put order sender_of p w.pending; job = w.job }

abbrev pub contributes : Indexed → Rec → List Bool
contributes s r = slice_set r.contributed s.index true

-- what a node with an own index, and one without, does with a verified shard
abbrev pub acts : Option ℕ → Indexed → Action
acts None s = ready
acts (Some own) s = broadcast s.bytes

-- the phase with a good assigned shard in it
abbrev pub joined : Indexed → Phase → Phase
joined s (awaiting w) = awaiting (with_received s (w.checked ++ s ∷ []) w)
joined s (cached blob) = cached blob

-- a good shard that is assigned
abbrev pub verifies : Option ℕ → Indexed → Rec → Taken
verifies own s r =
    record { rec = with_contribution (contributes s r) true (joined s r.phase) r; report = None; action = Some (acts own s); gained = true }

abbrev pub checks : Bool → Option ℕ → Indexed → Rec → Taken
checks good own s r = cond good (verifies own s r) (rejected BadAssigned r)

-- a shard that waits for a job
abbrev pub waits : List ℕ → Indexed → Shards → Rec → Taken
waits sender s w r =
    record { rec = with_contribution (contributes s r) r.verified (awaiting (with_pending (record { sender = sender; shard = s }) w)) r; report = None; action = None; gained = true }

-- before the block, a received index ends intake
abbrev pub unless_received : Option Indexed → Indexed → Rec → Taken → Taken
unless_received (Some x) s r next = cond (bytes_eq x.bytes s.bytes) (dropped r) (rejected Equivocation r)
unless_received None s r next = next

abbrev pub unless_contributed : Indexed → Rec → Taken → Taken
unless_contributed s r next = cond (slice_index_or r.contributed s.index false) (dropped r) next

module _ (good : Indexed → Bool) (own : Option ℕ) (sender : List ℕ) (s : Indexed) (r : Rec) where
  -- the record's phase together with the shard's class decides
  abbrev pub arrives : Phase → Class → Taken
  arrives (awaiting w) stray = led r.leader (rejected WrongIndex r) (dropped r)
  arrives (cached blob) stray = led r.leader (rejected WrongIndex r) (dropped r)
  arrives (awaiting w) assigned =
      unless_received (received_at s.index w) s r (unless_contributed s r (cond r.verified (waits sender s w r) (checks (good s) own s r)))
  arrives (awaiting w) owned = unless_received (received_at s.index w) s r (unless_contributed s r (waits sender s w r))
  arrives (cached blob) assigned = unless_contributed s r (cond r.verified (dropped r) (checks (good s) own s r))
  arrives (cached blob) owned = dropped r

  -- by the sender's place among the members
  abbrev pub from_member : Option ℕ → Taken
  from_member None = rejected Stranger r
  from_member (Some place) = arrives r.phase (classed own r.leader sender place s.index)

-- `keys` are the members of the record's epoch
unfoldable pub intake : Meaning → ℕ → List (List ℕ) → Option ℕ → List ℕ → Indexed → Rec → Taken
intake m limit keys own sender s r = from_member (good_for m limit r.commitment) own sender s r (index sender keys)
