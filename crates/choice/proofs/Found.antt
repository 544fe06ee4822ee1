-- A search among all of them finds the choice of a name, or none has it. Assumes nothing.
use Rattle.std.proofs.Common.{◌≡◌, ◌≢◌, ℕ, List, length, Contains, Option, Some, None, Result, MatchOption, Bor, sym, subst, ◌∙◌, ap, ◌<◌}
use Rattle.std.proofs.lemmas.List.Elements.{All-contains, All-from_all_within}
use Rattle.std.specs.List.{AllWithin, HoldsAt}
use Rattle.std.specs.Option.{ok_or, option_copied}
use Rattle.choice.specs.Names.{Named}

module _ {C : Type 0} (name_of : C → List ℕ) (name : List ℕ) (all : List C) where
  abbrev First : Bor C → Type 0
  First x = (name ≡ name_of x.now) × (i : ℕ) × (i < length all) × HoldsAt (λ y. y ≡ x.now) all i × AllWithin (λ y. name ≢ name_of y) all 0 i

  pub found : {E : Type 0} (r : Option (Bor C)) (o : Option C) (answer : Result C E) (e : E) → ((c : C) → Contains all c) → MatchOption r (AllWithin (λ y. name ≢ name_of y) all 0 (length all)) First → o ≡ option_copied r → answer ≡ ok_or o e → Named name_of name answer
  found {E} None o answer e every none copied is =
      let P : Result C E → Type 0 = Named name_of name in
      subst P (sym (is ∙ ap (λ (x : Option C). ok_or x e) copied)) (λ c. All-contains (λ y. name ≢ name_of y) all c (All-from_all_within (λ y. name ≢ name_of y) all none) (every c))
  found {E} (Some x) o answer e every some copied is =
      let P : Result C E → Type 0 = Named name_of name in
      subst P (sym (is ∙ ap (λ (x : Option C). ok_or x e) copied)) some.0
