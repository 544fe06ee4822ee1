-- The three promises, over the history of calls and answers. Assumes nothing.
use Rattle.std.specs.Prelude.{◌≡◌, ℕ, ◌-◌, ◌<◌, ◌≤◌, true, ◌⊎◌, List, [], ◌∷◌, ◌++◌, map, length, is_some, Some, Ok, ◌≢◌, slice_index_or}
use Rattle.std.specs.List.{AllByRecursion}
use Rattle.block.specs.declared.kind.Reading.{Reading}
use Rattle.register.specs.Commitments.{config_at, config_of}
use Rattle.rosters.specs.Sound.{index}
use Rattle.scheme.specs.Pieces.{Indexed}
use Rattle.model.specs.Calls.{Answer, refused, answered, changed_peers, given, told, Call, discovery, notarization, shard, completion, peer_change, block_look_up, verified_look_up, Rooms}
use Rattle.model.specs.Histories.{Agrees, Announced, Assignment, Entry, Event, HandedIn, Leads, on_roll, roll, since}
use Rattle.model.specs.Intake.{index_of}
use Rattle.model.specs.Meaning.{Meaning, Roster, fitted_for, good_for, minimum_of, opened_for}
use Rattle.model.specs.State.{Limits, State}
use Rattle.model.specs.Steps.{step}
use Rattle.model.specs.declared.answer.Outcome.{Outcome}
use Rattle.model.specs.declared.answer.Outcome.TheVariants.{NoEpoch, NoMember, OtherEpoch, LeaderStands, Declined, Held, Cached, Ignored, Boxed, NotBoxed, Gain, NoGain, Short, Rebuilt, Failed}
use Rattle.model.specs.declared.answer.Refusal.TheVariants.{NoBlock}

abbrev pub Distinct : List ℕ → Type 0
Distinct [] = Unit {0}
Distinct (x ∷ xs) = AllByRecursion (λ y. x ≢ y) xs × Distinct xs

-- a completion that answers `cached` or `short`
abbrev pub GoesOn : Outcome → Type 0
GoesOn (Short n) = Unit {0}
GoesOn (Rebuilt n) = Unit {0}
GoesOn (Failed n e) = ⊥
GoesOn NoEpoch = ⊥
GoesOn NoMember = ⊥
GoesOn OtherEpoch = ⊥
GoesOn LeaderStands = ⊥
GoesOn Declined = ⊥
GoesOn Held = ⊥
GoesOn Cached = ⊥
GoesOn Ignored = ⊥
GoesOn Boxed = ⊥
GoesOn NotBoxed = ⊥
GoesOn Gain = ⊥
GoesOn NoGain = ⊥

abbrev pub CompletesWell : Answer → Type 0
CompletesWell (answered o rs a) = GoesOn o
CompletesWell (refused n) = ⊥
CompletesWell changed_peers = ⊥
CompletesWell (given b) = ⊥
CompletesWell (told b) = ⊥

-- a completion numbered above `most` has cached the block
abbrev pub CachedAbove : ℕ → Outcome → Type 0
CachedAbove most (Short n) = n ≤ most
CachedAbove most (Failed n e) = n ≤ most
CachedAbove most (Rebuilt n) = Unit {0}
CachedAbove most NoEpoch = Unit {0}
CachedAbove most NoMember = Unit {0}
CachedAbove most OtherEpoch = Unit {0}
CachedAbove most LeaderStands = Unit {0}
CachedAbove most Declined = Unit {0}
CachedAbove most Held = Unit {0}
CachedAbove most Cached = Unit {0}
CachedAbove most Ignored = Unit {0}
CachedAbove most Boxed = Unit {0}
CachedAbove most NotBoxed = Unit {0}
CachedAbove most Gain = Unit {0}
CachedAbove most NoGain = Unit {0}

abbrev pub EndedAbove : ℕ → Answer → Type 0
EndedAbove most (answered o rs a) = CachedAbove most o
EndedAbove most (refused n) = Unit {0}
EndedAbove most changed_peers = Unit {0}
EndedAbove most (given b) = Unit {0}
EndedAbove most (told b) = Unit {0}

-- the call completes a job of the commitment
abbrev pub Completing : List ℕ → Call → Type 0
Completing c (completion d rooms) = d ≡ c
Completing c (discovery d leader round rooms) = ⊥
Completing c (notarization d round rooms) = ⊥
Completing c (shard d peer x rooms) = ⊥
Completing c (peer_change ks) = ⊥
Completing c (block_look_up d room) = ⊥
Completing c (verified_look_up d) = ⊥

abbrev pub Spares : List ℕ → Answer → Type 0
Spares k (answered o rs a) = AllByRecursion (λ r. r.key ≢ k) rs
Spares k (refused n) = Unit {0}
Spares k changed_peers = Unit {0}
Spares k (given b) = Unit {0}
Spares k (told b) = Unit {0}

module _ (limits : Limits) (m : Meaning) (a : Assignment) (h : List Event) where
  -- some peer handed the shard in for the commitment, and it is good
  pub record GoodShard (c : List ℕ) (s : Indexed) : Type 0 where
    pub good : good_for m limits.blob c s ≡ true
    pub sender : List ℕ
    pub handed : HandedIn h c sender s

  -- shards that open to the block of the commitment
  pub record OpensToBlock (c : List ℕ) (shards : List Indexed) : Type 0 where
    pub blob : List ℕ
    pub reading : Reading
    pub opens : opened_for m limits.blob c shards ≡ Ok blob
    pub fits : fitted_for m limits.blob c blob ≡ Ok reading

  -- good shards of the commitment at distinct indices, as many as its minimum or more
  pub record Sufficient (c : List ℕ) (shards : List Indexed) : Type 0 where
    pub many : minimum_of c ≤ length shards
    pub distinct : Distinct (map index_of shards)
    pub each : AllByRecursion (GoodShard c) shards

  -- the participant at this place handed in a good shard since the admission, and never another one there
  pub record HandsIn (c : List ℕ) (keys : List (List ℕ)) (place : ℕ) : Type 0 where
    pub member : place < length keys
    pub bytes : List ℕ
    pub good : good_for m limits.blob c (record { index = place; bytes = bytes }) ≡ true
    pub handed : HandedIn (since limits.window c h) c (slice_index_or keys place []) (record { index = place; bytes = bytes })
    pub only : (others : List ℕ) → HandedIn h c (slice_index_or keys place []) (record { index = place; bytes = others }) → others ≡ bytes

  -- a held commitment of which enough participants, those at `places`, handed in good shards
  pub record Enough (c : List ℕ) (entry : Entry) (places : List ℕ) : Type 0 where
    pub held : on_roll c (roll limits.window h) ≡ Some entry
    pub distinct : Distinct places
    pub many : minimum_of c ≤ length places
    pub each : AllByRecursion (HandsIn c (a.keys entry.round.epoch.0)) places
    pub known : AllByRecursion (λ e. is_some (e.roster.keys entry.round.epoch.0) ≡ true) (since limits.window c h)
    pub opens : (shards : List Indexed) → Sufficient c shards → OpensToBlock c shards

  abbrev pub asked : Rooms
  asked = record { reports = 512; broadcast = limits.shard }

  -- the block is cached, or a job is out whose completion would answer `cached` or `short`; and each completion since the
  -- admission that was numbered above the participants less those has answered `cached`. `would` tells what a call would answer
  pub record Brought (would : Call → Answer) (c : List ℕ) (entry : Entry) (places : List ℕ) : Type 0 where
    pub now : ((room : ℕ) → would (block_look_up c room) ≢ refused NoBlock) ⊎ CompletesWell (would (completion c asked))
    pub past : AllByRecursion (λ e. Completing c e.call → EndedAbove (length (a.keys entry.round.epoch.0) - length places) e.answer) (since limits.window c h)

  abbrev pub EnoughBringTheBlock : (Call → Answer) → Type 0
  EnoughBringTheBlock would = (c : List ℕ) (entry : Entry) (places : List ℕ) → Enough c entry places → Brought would c entry places

  -- a member of each announced epoch, whose shards for announced commitments are good and at its own index or this node's
  pub record Blameless (k : List ℕ) : Type 0 where
    pub member : (c : List ℕ) (e : ℕ) → Announced h c e → is_some (index k (a.keys e)) ≡ true
    pub once : (c : List ℕ) (e f : ℕ) → Announced h c e → Announced h c f → e ≡ f
    pub good : (c : List ℕ) (e : ℕ) (s : Indexed) → Announced h c e → HandedIn h c k s → good_for m limits.blob c s ≡ true
    pub placed : (c : List ℕ) (e : ℕ) (s : Indexed) → Announced h c e → HandedIn h c k s → (index k (a.keys e) ≡ Some s.index) ⊎ (a.own e ≡ Some s.index)
    pub alike : (c : List ℕ) (s t : Indexed) → GoodShard c s → GoodShard c t → s.index ≡ t.index → s ≡ t

  abbrev pub NobodyWithoutCause : Type 0
  NobodyWithoutCause = (k : List ℕ) → Blameless k → AllByRecursion (λ e. Spares k e.answer) h

  -- the block is what good shards, each handed in, open to with the commitment's config behind it, and fits the commitment
  pub record HandedInBlock (c block : List ℕ) : Type 0 where
    pub entry : Entry
    pub held : on_roll c (roll limits.window h) ≡ Some entry
    pub shards : List Indexed
    pub sufficient : Sufficient c shards
    pub participants : AllByRecursion (λ s. s.index < length (a.keys entry.round.epoch.0)) shards
    pub config : List ℕ
    pub four : length config ≡ 4
    pub spelled : config_at config 0 ≡ config_of c
    pub opens : opened_for m limits.blob c shards ≡ Ok (block ++ config)
    pub reading : Reading
    pub fits : fitted_for m limits.blob c (block ++ config) ≡ Ok reading

  -- what a look-up gives
  abbrev pub Gives : Call → Answer → Type 0
  Gives (block_look_up c room) (given block) = HandedInBlock c block
  Gives (block_look_up c room) (refused n) = Unit {0}
  Gives (block_look_up c room) (answered o rs x) = Unit {0}
  Gives (block_look_up c room) changed_peers = Unit {0}
  Gives (block_look_up c room) (told b) = Unit {0}
  Gives (discovery c leader round rooms) answer = Unit {0}
  Gives (notarization c round rooms) answer = Unit {0}
  Gives (shard c peer x rooms) answer = Unit {0}
  Gives (completion c rooms) answer = Unit {0}
  Gives (peer_change ks) answer = Unit {0}
  Gives (verified_look_up c) answer = Unit {0}

-- every block that a look-up gave was handed in before
abbrev pub BlocksWereHandedIn : Limits → Meaning → Assignment → List Event → Type 0
BlocksWereHandedIn limits m a [] = Unit {0}
BlocksWereHandedIn limits m a (e ∷ h) = Gives limits m a h e.call e.answer × BlocksWereHandedIn limits m a h

pub record Promises (limits : Limits) (m : Meaning) (a : Assignment) (h : List Event) (would : Call → Answer) : Type 0 where
  pub enough : EnoughBringTheBlock limits m a h would
  pub cause : NobodyWithoutCause limits m a h
  pub blocks : BlocksWereHandedIn limits m a h

-- whatever the calls, they hold of every history that leads to a state, at that state
abbrev pub PromisesHold : Type 0
PromisesHold =
    (limits : Limits) (m : Meaning) (a : Assignment) (h : List Event) (s : State) (roster : Roster) →
    Leads limits m a h s → Agrees a roster → Promises limits m a h (λ call. (step limits m roster call s).answer)
