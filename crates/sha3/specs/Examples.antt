-- Digests of three messages, as they are published: no bytes, "abc", and 1,600 bits of bytes A3.
use Rattle.std.specs.Prelude.{◌≡◌, [], ◌∷◌, replicate, codes}
use Rattle.sha3.specs.Fips202.{sha3_256}

abbrev pub Empty : Type 0
Empty =
    sha3_256 [] ≡ 167 ∷ 255 ∷ 198 ∷ 248 ∷ 191 ∷ 30 ∷ 215 ∷ 102 ∷ 81 ∷ 193 ∷ 71 ∷ 86 ∷ 160 ∷ 97 ∷ 214 ∷ 98 ∷ 245 ∷ 128 ∷ 255 ∷ 77 ∷ 228 ∷ 59 ∷ 73 ∷ 250 ∷ 130 ∷ 216 ∷ 10 ∷ 75 ∷ 128 ∷ 248 ∷ 67 ∷ 74 ∷ []

abbrev pub Abc : Type 0
Abc =
    sha3_256 (codes "abc") ≡ 58 ∷ 152 ∷ 93 ∷ 167 ∷ 79 ∷ 226 ∷ 37 ∷ 178 ∷ 4 ∷ 92 ∷ 23 ∷ 45 ∷ 107 ∷ 211 ∷ 144 ∷ 189 ∷ 133 ∷ 95 ∷ 8 ∷ 110 ∷ 62 ∷ 157 ∷ 82 ∷ 91 ∷ 70 ∷ 191 ∷ 226 ∷ 69 ∷ 17 ∷ 67 ∷ 21 ∷ 50 ∷ []

abbrev pub Bits1600 : Type 0
Bits1600 =
    sha3_256 (replicate 200 163) ≡ 121 ∷ 243 ∷ 138 ∷ 222 ∷ 197 ∷ 194 ∷ 3 ∷ 7 ∷ 169 ∷ 142 ∷ 247 ∷ 110 ∷ 131 ∷ 36 ∷ 175 ∷ 191 ∷ 212 ∷ 108 ∷ 253 ∷ 129 ∷ 178 ∷ 46 ∷ 57 ∷ 115 ∷ 198 ∷ 95 ∷ 161 ∷ 189 ∷ 157 ∷ 227 ∷ 23 ∷ 135 ∷ []
