-- The run of the example, computed.
use Rattle.std.proofs.Common.{◌≡◌, ℕ, ◌⊎◌, List, [], ◌∷◌, Ok, sym, refl, ◌∙◌, ap, inl, inr, arith}
use Rattle.scheme.specs.Pieces.{Indexed}
use Rattle.model.specs.Calls.{Call, block_look_up, completion, discovery, shard}
use Rattle.model.specs.Histories.{Agrees, Announced, HandedIn, Leads}
use Rattle.model.specs.Intake.{intake}
use Rattle.model.specs.Jobs.{completes, tries}
use Rattle.model.specs.Promises.{GoodShard, OpensToBlock, Sufficient}
use Rattle.model.specs.State.{State, fresh}
use Rattle.model.specs.Steps.{completion_of, discovery_of, shard_of, step}
use Rattle.enough.specs.Example

abbrev after : Call → State → State
after call s = (step Example.limits Example.meaning Example.roster call s).state

abbrev admitted : State
admitted = after (discovery Example.commitment Example.first_key Example.round Example.rooms) fresh

abbrev waiting : State
waiting = after (shard Example.commitment Example.third_key Example.bad Example.rooms) admitted

abbrev started : State
started = after (shard Example.commitment Example.first_key (Example.good_at 0) Example.rooms) waiting

abbrev returned : State
returned = after (completion Example.commitment Example.rooms) started

abbrev again : State
again = after (shard Example.commitment Example.second_key (Example.good_at 1) Example.rooms) returned

abbrev rebuilt : State
rebuilt = after (completion Example.commitment Example.rooms) again

abbrev looked : State
looked = after (block_look_up Example.commitment 2) rebuilt

agrees : Agrees Example.assignment Example.roster
agrees = record { fair = λ _. (omega arith, tt, tt); tells = λ _. (refl, refl) }

leads : Leads Example.limits Example.meaning Example.assignment Example.history looked
unfolding step discovery_of shard_of intake tries completion_of completes
leads =
    (rebuilt, (again, (returned, (started, (waiting, (admitted, (fresh, refl, agrees, refl), agrees, refl), agrees, refl), agrees, refl), agrees, refl), agrees, refl), agrees, refl)

-- who handed in which shard
abbrev Sent : List ℕ → Indexed → Type 0
Sent k x =
    ((Example.first_key ≡ k) × (Example.good_at 0 ≡ x)) ⊎
    (((Example.second_key ≡ k) × (Example.good_at 1 ≡ x)) ⊎ ((Example.third_key ≡ k) × (Example.bad ≡ x)))

-- what was handed in, for which commitment and by whom
sent : (c k : List ℕ) (x : Indexed) → HandedIn Example.history c k x → (Example.commitment ≡ c) × Sent k x
sent c k x h = grind arith

-- the commitment was announced, with one epoch
announced : (c : List ℕ) (e : ℕ) → Announced Example.history c e → (Example.commitment ≡ c) × (7 ≡ e)
announced c e h = grind arith

-- all that the first key handed in is its own shard
own : (c : List ℕ) (x : Indexed) → HandedIn Example.history c Example.first_key x → (Example.commitment ≡ c) × (Example.good_at 0 ≡ x)
own c x h = grind (arith, sent)

-- what was handed in is the bad shard, or the blob
either : (k : List ℕ) (x : Indexed) → HandedIn Example.history Example.commitment k x → (Example.bad ≡ x) ⊎ (Example.blob ≡ x.bytes)
either k x h = grind (arith, sent)

opens : (shards : List Indexed) → Sufficient Example.limits Example.meaning Example.assignment Example.history Example.commitment shards →
    OpensToBlock Example.limits Example.meaning Example.assignment Example.history Example.commitment shards
opens [] s = absurd (omega (arith, s.many))
opens (x ∷ xs) s =
    let same : Example.blob ≡ x.bytes = grind (arith, s.each.0.good, either s.each.0.sender x s.each.0.handed) in
    record { blob = Example.blob; reading = Example.whole Example.blob; opens = ap Ok (sym same); fits = refl }

-- nothing else was handed in at a place below the bad one
only : (k : List ℕ) (i : ℕ) (others : List ℕ) → (2 ≡ i → ⊥) → HandedIn Example.history Example.commitment k (record { index = i; bytes = others }) → others ≡ Example.blob
only k i others low h = grind (arith, either)

pub example : Example.ExampleStands
example = (
  looked,
  leads,
  record {
    held = refl;
    distinct = ((omega arith, tt), (tt, tt));
    many = omega arith;
    each = (
      record { member = omega arith; bytes = Example.blob; good = refl; handed = inr (inr (inr (inr (inl (tt, (refl, refl, refl)))))); only = λ others h. only Example.first_key 0 others (omega arith) h },
      (record { member = omega arith; bytes = Example.blob; good = refl; handed = inr (inr (inl (tt, (refl, refl, refl)))); only = λ others h. only Example.second_key 1 others (omega arith) h }, tt),
    );
    known = grind arith;
    opens = opens;
  },
)

-- a good shard is the blob at its index
blob_at : (c : List ℕ) (x : Indexed) → GoodShard Example.limits Example.meaning Example.assignment Example.history c x → Example.good_at x.index ≡ x
blob_at c x g = grind (arith, sent)

pub blameless : Example.BlamelessStands
blameless = record {
  member = λ c e a. refl;
  once = λ c e f a b. sym (announced c e a).1 ∙ (announced c f b).1;
  good = λ c e s a h. grind (arith, own);
  placed = λ c e s a h. grind (arith, own);
  alike = λ c s t g f is. grind (arith, blob_at);
}
