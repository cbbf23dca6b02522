-- Numbers in bytes, the lowest byte first.
use Rattle.std.specs.Prelude.{ℕ, zero, suc, ◌+◌, ◌*◌, ◌/◌, ◌%◌, ◌≤◌, List, [], ◌∷◌, get_or}

-- the number in n bytes from byte i on
unfoldable pub little_endian : ℕ → ℕ → List ℕ → ℕ
little_endian zero i s = 0
little_endian (suc n) i s = get_or s i 0 + 256 * little_endian n (suc i) s

-- n bytes of a number, the lowest first
unfoldable pub lowest_bytes : (n : ℕ) → ℕ → List ℕ
lowest_bytes zero x = []
lowest_bytes (suc n) x = x % 256 ∷ lowest_bytes n (x / 256)

-- each of n numbers of a list from the one at i on is a byte
abbrev pub AreBytes : ℕ → ℕ → List ℕ → Type 0
AreBytes zero i s = Unit
AreBytes (suc n) i s = (get_or s i 0 ≤ 255) × AreBytes n (suc i) s
