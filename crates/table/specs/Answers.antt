-- What a call answers, by the table's count, the slots of the slice and where the key is found.
use Rattle.std.specs.Prelude.{ℕ, Bool, true, false, cond, Ok, Err, Result, nat_lt}
use Rattle.table.specs.declared.Refusal.{Refusal}
use Rattle.table.specs.declared.Refusal.TheVariants.{Overrun, Full, Present, Absent}

abbrev pub admits : Bool → Result ℕ ℕ → Result ℕ Refusal
admits room (Ok i) = Err Present
admits true (Err i) = Ok i
admits false (Err i) = Err Full

abbrev pub inserts : ℕ → ℕ → Result ℕ ℕ → Result ℕ Refusal
inserts count slots at = cond (nat_lt slots count) (Err Overrun) (admits (nat_lt count slots) at)

abbrev pub releases : Result ℕ ℕ → Result ℕ Refusal
releases (Ok i) = Ok i
releases (Err i) = Err Absent

abbrev pub removes : ℕ → ℕ → Result ℕ ℕ → Result ℕ Refusal
removes count slots at = cond (nat_lt slots count) (Err Overrun) (releases at)
