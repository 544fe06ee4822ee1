-- Histories: the calls that an engine was given and what it answered, the latest first. Assumes nothing.
use Rattle.std.specs.Prelude.{◌≡◌, ℕ, Bool, true, false, cond, ◌⊎◌, List, [], ◌∷◌, is_some, IfSome, Option}
use Rattle.register.specs.Order.{order}
use Rattle.register.specs.declared.counters.Round.{Round}
use Rattle.rosters.specs.Roster.{Fair}
use Rattle.scheme.specs.Pieces.{Indexed}
use Rattle.table.specs.Laws.{look}
use Rattle.table.specs.Table.{changed, put, without}
use Rattle.model.specs.Calls.{Answer, refused, answered, changed_peers, given, told, Call, discovery, notarization, shard, completion, peer_change, block_look_up, verified_look_up}
use Rattle.model.specs.Meaning.{Meaning, Roster}
use Rattle.model.specs.State.{Limits, State, fresh, larger}
use Rattle.model.specs.Steps.{step}
use Rattle.model.specs.Window.{trimmed}
use Rattle.model.specs.declared.answer.Outcome.{Outcome}
use Rattle.model.specs.declared.answer.Outcome.TheVariants.{NoEpoch, NoMember, OtherEpoch, LeaderStands, Declined, Held, Cached, Ignored, Boxed, NotBoxed, Gain, NoGain, Short, Rebuilt, Failed}

pub record Event : Type 0 where
  pub roster : Roster
  pub call : Call
  pub answer : Answer

-- every epoch's keys and this node's own index there, which never change
pub record Assignment : Type 0 where
  pub keys : ℕ → List (List ℕ)
  pub own : ℕ → Option ℕ

-- of each epoch a roster tells what is assigned, or that it is unknown
pub record Agrees (a : Assignment) (roster : Roster) : Type 0 where
  pub fair : (e : ℕ) → Fair (roster.keys e) (roster.own e)
  pub tells : (e : ℕ) → IfSome (roster.keys e) (λ ks. (ks ≡ a.keys e) × (roster.own e ≡ a.own e))

-- a freshly made engine comes by the history to the state
abbrev pub Leads : Limits → Meaning → Assignment → List Event → State → Type 0
Leads limits m a [] s = s ≡ fresh
Leads limits m a (e ∷ h) s =
    (before : State) × Leads limits m a h before × Agrees a e.roster × (step limits m e.roster e.call before ≡ record { state = s; answer = e.answer })

abbrev pub Any : {X : Type 0} → (X → Type 0) → List X → Type 0
Any P [] = ⊥
Any P (x ∷ xs) = P x ⊎ Any P xs

-- a call that was not turned down
abbrev pub Counts : Answer → Type 0
Counts (refused n) = ⊥
Counts (answered o rs a) = Unit {0}
Counts changed_peers = Unit {0}
Counts (given b) = Unit {0}
Counts (told b) = Unit {0}

-- the call brings this shard for the commitment, from the peer with this key
abbrev pub Brings : List ℕ → List ℕ → Indexed → Call → Type 0
Brings c k s (shard d peer x rooms) = (d ≡ c) × (peer ≡ k) × (x ≡ s)
Brings c k s (discovery d leader round rooms) = ⊥
Brings c k s (notarization d round rooms) = ⊥
Brings c k s (completion d rooms) = ⊥
Brings c k s (peer_change ks) = ⊥
Brings c k s (block_look_up d room) = ⊥
Brings c k s (verified_look_up d) = ⊥

-- the call names the commitment with a round of this epoch
abbrev pub Names : List ℕ → ℕ → Call → Type 0
Names c e (discovery d leader round rooms) = (d ≡ c) × (round.epoch.0 ≡ e)
Names c e (notarization d round rooms) = (d ≡ c) × (round.epoch.0 ≡ e)
Names c e (shard d peer x rooms) = ⊥
Names c e (completion d rooms) = ⊥
Names c e (peer_change ks) = ⊥
Names c e (block_look_up d room) = ⊥
Names c e (verified_look_up d) = ⊥

abbrev pub HandedIn : List Event → List ℕ → List ℕ → Indexed → Type 0
HandedIn h c k s = Any (λ e. Counts e.answer × Brings c k s e.call) h

abbrev pub Announced : List Event → List ℕ → ℕ → Type 0
Announced h c e = Any (λ x. Counts x.answer × Names c e x.call) h

-- a commitment on the roll
pub record Entry : Type 0 where
  pub commitment : List ℕ
  pub round : Round

abbrev pub commitment_of : Entry → List ℕ
commitment_of x = x.commitment

abbrev pub round_of : Entry → Round
round_of x = x.round

-- the entry of a commitment
abbrev pub on_roll : List ℕ → List Entry → Option Entry
on_roll c roll = look order commitment_of c roll

abbrev pub raised : Round → Entry → Entry
raised round x = record { commitment = x.commitment; round = larger x.round round }

-- one that is on the roll takes the larger round; another enters, and beyond the window one leaves
abbrev pub enrolled : ℕ → List ℕ → Round → List Entry → List Entry
enrolled window c round roll =
    cond (is_some (on_roll c roll))
    (changed order commitment_of (raised round) c roll)
    (trimmed round_of commitment_of window (put order commitment_of (record { commitment = c; round = round }) roll))

-- outcomes that say that the commitment is held
abbrev pub says_held : Outcome → Bool
says_held Held = true
says_held LeaderStands = true
says_held Cached = true
says_held NoEpoch = false
says_held NoMember = false
says_held OtherEpoch = false
says_held Declined = false
says_held Ignored = false
says_held Boxed = false
says_held NotBoxed = false
says_held Gain = false
says_held NoGain = false
says_held (Short n) = false
says_held (Rebuilt n) = false
says_held (Failed n e) = false

abbrev pub says_failed : Outcome → Bool
says_failed (Failed n e) = true
says_failed (Short n) = false
says_failed (Rebuilt n) = false
says_failed Held = false
says_failed LeaderStands = false
says_failed Cached = false
says_failed NoEpoch = false
says_failed NoMember = false
says_failed OtherEpoch = false
says_failed Declined = false
says_failed Ignored = false
says_failed Boxed = false
says_failed NotBoxed = false
says_failed Gain = false
says_failed NoGain = false

abbrev pub announces : Answer → ℕ → List ℕ → Round → List Entry → List Entry
announces (answered o rs a) window c round roll = cond (says_held o) (enrolled window c round roll) roll
announces (refused n) window c round roll = roll
announces changed_peers window c round roll = roll
announces (given b) window c round roll = roll
announces (told b) window c round roll = roll

abbrev pub strikes : Answer → List ℕ → List Entry → List Entry
strikes (answered o rs a) c roll = cond (says_failed o) (without order commitment_of c roll) roll
strikes (refused n) c roll = roll
strikes changed_peers c roll = roll
strikes (given b) c roll = roll
strikes (told b) c roll = roll

abbrev pub fed : ℕ → Answer → Call → List Entry → List Entry
fed window answer (discovery c leader round rooms) roll = announces answer window c round roll
fed window answer (notarization c round rooms) roll = announces answer window c round roll
fed window answer (completion c rooms) roll = strikes answer c roll
fed window answer (shard c peer x rooms) roll = roll
fed window answer (peer_change ks) roll = roll
fed window answer (block_look_up c room) roll = roll
fed window answer (verified_look_up c) roll = roll

-- which commitments are held, kept from calls and answers alone
abbrev pub roll : ℕ → List Event → List Entry
roll window [] = []
roll window (e ∷ h) = fed window e.answer e.call (roll window h)

-- what came after the commitment was last admitted, where it is on the roll
abbrev pub since : ℕ → List ℕ → List Event → List Event
since window c [] = []
since window c (e ∷ h) = cond (is_some (on_roll c (roll window h))) (e ∷ since window c h) []
