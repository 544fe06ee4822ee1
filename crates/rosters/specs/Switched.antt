-- What the changes of a table of epochs leave.
use Rattle.std.specs.Prelude.{◌≡◌, ℕ, Bool, true, false, cond, List, is_some, Some, None, Option, ◌≢◌, refl}
use Rattle.std.specs.declared.cmp.Ordering.TheVariants.{Equal}
use Rattle.std.proofs.Common.{⊎_elim, sym, ap, ◌∙◌, arith}
use Rattle.std.proofs.lemmas.Bool.{cases_eq}
use Rattle.std.proofs.lemmas.Bool.Decides.{nat_tests}
use Rattle.std.specs.Cmp.{IsTotalOrder, nat_cmp_total, on_total}
use Rattle.std.specs.Option.{option_map}
use Rattle.register.specs.declared.counters.Epoch.{Epoch}
use Rattle.table.specs.Laws as table
use Rattle.table.proofs.Lawful.{table_laws}
use Rattle.rosters.specs.Enrolled.{keys_of, roll_of}
use Rattle.rosters.specs.Epochs.{Laws, by_number, filed_under, keys_told, new_row, own_told, row, numbered, epoch_of, switched, with_known}
use Rattle.rosters.specs.Roster.{Fair}
use Rattle.rosters.specs.declared.epochs.Row.{Row}
use Rattle.rosters.specs.Soundness.{members_fair}
use Rattle.std.specs.Ordering.{nat_cmp}

-- what an epoch's row tells is fair
told_by : (r : Row) (b : Bool) → Fair (cond b (Some (keys_of r.members)) None) (cond b r.members.own None)
told_by r true = members_fair r.members
told_by r false = refl

pub told_fair : (o : Option Row) → Fair (keys_told o) (own_told o)
told_fair None = refl
told_fair (Some r) = told_by r r.known

pub told_is_some : (o : Option Row) (r : Row) → o ≡ Some r → true ≡ is_some o
told_is_some o r h = ap is_some (sym h)

numbers : IsTotalOrder by_number
numbers = on_total (λ (e : Epoch). e.0) nat_cmp_total

rows : table.Laws by_number epoch_of
rows = table_laws by_number epoch_of numbers

same_number : (a b : ℕ) → nat_cmp a b ≡ Equal → a ≡ b
same_number a b h = grind (arith, nat_tests)

same_roll : (known : Bool) (o : Option Row) → option_map (λ (r : Row). roll_of r.members) (option_map (with_known known) o) ≡ option_map (λ (r : Row). roll_of r.members) o
same_roll known None = refl
same_roll known (Some r) = refl

switch_own : (e : ℕ) (known : Bool) (rs : List Row) → row e (switched e known rs) ≡ option_map (with_known known) (row e rs)
switch_own e known rs = rows.changed_found (with_known known) (numbered e) rs (λ r. refl)

switch_others : (e j : ℕ) (known : Bool) (rs : List Row) → (e ≢ j) → row j (switched e known rs) ≡ row j rs
switch_others e j known rs differ =
    rows.changed_others (with_known known) (numbered e) (numbered j) rs (λ r. refl) (λ h. differ (same_number e j h))

switch_files : (e j : ℕ) (known : Bool) (rs : List Row) → filed_under j (switched e known rs) ≡ filed_under j rs
switch_files e j known rs =
    let roll = option_map (λ (r : Row). roll_of r.members) in
    ⊎_elim
    (λ same. ap (λ n. filed_under n (switched e known rs)) (sym same) ∙ ap roll (switch_own e known rs) ∙ same_roll known (row e rs) ∙ ap (λ n. filed_under n rs) same)
    (λ differ. ap roll (switch_others e j known rs differ))
    (cases_eq e j)

pub epoch_laws : Laws
epoch_laws = record {
  switch_files = switch_files;
  switch_own = switch_own;
  switch_others = switch_others;
  add_own = λ e m rs none. rows.put_found (new_row e m) rs none;
  add_others = λ e j m rs differ. rows.put_others (new_row e m) (numbered j) rs (λ h. differ (same_number e j h));
}
