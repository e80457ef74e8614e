-- Little-endian numbers and their bytes are inverse. Assumes nothing.
use mathlib.Core.Path.{◌≡◌, refl, ap, ap₂}
use mathlib.Core.List.{List, ◌∷◌}
use Prim.Native.Nat.{ℕ, zero, suc, ◌+◌, ◌*◌, ◌/◌, ◌%◌, ◌^◌, ◌<◌}
use native.Mathlib.Omega.{arith}
use native.Mathlib.Nat.{pow-suc}
use lib.ListN.{length}
use Rattle.laws.specs.Idioms.{number_in, bytes_of}
use Rattle.laws.specs.Bytes.{Bytes, none, more}

pub bytes-length : (k n : ℕ) → length (bytes_of k n) ≡ k
unfolding bytes_of
bytes-length zero n = refl
bytes-length (suc k) n = ap suc (bytes-length k (n / 256))

pub bytes_are : (k n : ℕ) → Bytes (bytes_of k n)
unfolding bytes_of
bytes_are zero n = none
bytes_are (suc k) n = more {b = n % 256} (omega arith) (bytes_are k (n / 256))

pub number-bytes : (k n : ℕ) → n < 256 ^ k → number_in (bytes_of k n) ≡ n
unfolding number_in bytes_of
number-bytes zero n h = omega arith
number-bytes (suc k) n h =
    let p : n < 256 ^ k * 256 = rw (← pow-suc 256 k) h in
    let e = number-bytes k (n / 256) (omega arith) in
    omega (arith, e)

pub bytes-number : {l : List ℕ} → Bytes l → bytes_of (length l) (number_in l) ≡ l
unfolding number_in bytes_of
bytes-number none = refl
bytes-number (more {b = b} {l = l} h r) =
    let low : (b + 256 * number_in l) % 256 ≡ b = omega arith in
    let high : (b + 256 * number_in l) / 256 ≡ number_in l = omega arith in
    ap₂ {C = List ℕ} (λ (x : ℕ) (xs : List ℕ). x ∷ xs) low (rw high (bytes-number r))
