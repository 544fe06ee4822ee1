-- What each choice means: what the implementation that it names means. Assumes nothing.
use Rattle.std.specs.Prelude.{ℕ, Bool, List, Option}
use Rattle.register.specs.declared.commitment.Config.{Config}
use Rattle.sha256.specs.Fips180.{sha256}
use Rattle.sha3.specs.Fips202.{sha3_256}
use Rattle.scheme.specs.Pieces.{Indexed}
use Rattle.scheme.specs.Told.{Opened}
use Rattle.copy.specs.Copies.{copy_good, copy_opens}
use Rattle.parity.specs.Parities.{parity_good, parity_opens}
use Rattle.block.specs.declared.kind.Reading.{Reading}
use Rattle.plain.specs.Plains.{plain_reads}
use Rattle.listed.specs.Listeds.{listed_reads}
use Rattle.choice.specs.declared.hashes.HashChoice.{HashChoice}
use Rattle.choice.specs.declared.hashes.HashChoice.TheVariants.{Sha256, Sha3}
use Rattle.choice.specs.declared.kinds.KindChoice.{KindChoice}
use Rattle.choice.specs.declared.kinds.KindChoice.TheVariants.{Plain, Listed}
use Rattle.choice.specs.declared.schemes.SchemeChoice.{SchemeChoice}
use Rattle.choice.specs.declared.schemes.SchemeChoice.TheVariants.{Copy, Parity}

abbrev pub digest_by : HashChoice → List ℕ → List ℕ
digest_by Sha256 = sha256
digest_by Sha3 = sha3_256

abbrev pub good_by : SchemeChoice → (List ℕ → List ℕ) → Config → List ℕ → ℕ → ℕ → List ℕ → Bool
good_by Copy digest config root limit = copy_good digest config root
good_by Parity digest config root limit = parity_good digest config root

abbrev pub opens_by : SchemeChoice → (List ℕ → List ℕ) → Config → List ℕ → ℕ → List Indexed → Opened
opens_by Copy digest config root = copy_opens
opens_by Parity digest config root = parity_opens config

abbrev pub reads_by : KindChoice → (List ℕ → List ℕ) → List ℕ → Option Reading
reads_by Plain = plain_reads
reads_by Listed = listed_reads
