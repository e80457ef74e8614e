-- Words of four lanes: lanes added and taken out again, and the lanes of a word by its eight bytes. Assumes nothing.
use mathlib.Core.Path.{◌≡◌, refl}
use mathlib.Core.List.{List, [], ◌∷◌}
use Prim.Native.Nat.{ℕ, ◌+◌, ◌*◌, ◌/◌, ◌%◌, ◌<◌, ◌≤◌}
use native.Mathlib.Omega.{arith}
use native.Mathlib.Nat.{add-zero}
use lib.ListN.{length, get_or}
use Rattle.rules.specs.File.{sum_of, running_sum}
use Rattle.laws.specs.Idioms.{from, number_in, part}
use Rattle.laws.proofs.Parts.{part-eight}
use Rattle.lanes.specs.Lanes.{lanes, evens_of, added_of, weighed_of, early}

lane_off : (a x : ℕ) → a < 65536 → (a + 65536 * x) / 65536 ≡ x
lane_off a x h = omega arith

lane_of : (a x : ℕ) → a < 65536 → (a + 65536 * x) % 65536 ≡ a
lane_of a x h = omega arith

lane_last : (a : ℕ) → a < 65536 → a % 65536 ≡ a
lane_last a h = omega arith

lanes-out : (a b c d : ℕ) → a < 65536 → b < 65536 → c < 65536 → d < 65536
    → (added_of (lanes a b c d) ≡ a + b + c + d) × (weighed_of (lanes a b c d) ≡ b + 2 * c + 3 * d)
unfolding added_of weighed_of
lanes-out a b c d ha hb hc hd = (simp (lane_off, lane_of, lane_last), simp (lane_off, lane_of, lane_last))

-- w has four lanes, none above n
pub record Split (n w : ℕ) : Type 0 where
  pub a : ℕ
  pub b : ℕ
  pub c : ℕ
  pub d : ℕ
  pub is : w ≡ lanes a b c d
  pub small : (a ≤ n) × (b ≤ n) × (c ≤ n) × (d ≤ n)

pub none : Split 0 0
none = record { a = 0; b = 0; c = 0; d = 0; is = refl; small = omega arith }

module _ {n w : ℕ} (l : Split n w) where
  pub plus : {m v p : ℕ} → Split m v → n + m ≤ p → Split p (w + v)
  plus k h = record { a = l.a + k.a; b = l.b + k.b; c = l.c + k.c; d = l.d + k.d; is = omega arith; small = omega arith }

  pub fits : n < 65536 → w < 18446744073709551616
  fits h = omega arith

  out : n < 65536 → (added_of w ≡ l.a + l.b + l.c + l.d) × (weighed_of w ≡ l.b + 2 * l.c + 3 * l.d)
  out h = rw l.is (lanes-out l.a l.b l.c l.d (omega arith) (omega arith) (omega arith) (omega arith))

-- so both are taken out of two words' lanes one word after the other
pub plus-out : {n w m v : ℕ} (l : Split n w) (k : Split m v) → n + m < 65536 → (added_of (w + v) ≡ added_of w + added_of v) × (weighed_of (w + v) ≡ weighed_of w + weighed_of v)
unfolding plus
plus-out {n} {w} {m} l k h = omega (arith, out l (omega arith), out k (omega arith), out (plus l {p = n + m} k (omega arith)) h)

bytes_off : (a b x : ℕ) → a < 256 → b < 256 → (a + 256 * (b + 256 * x)) / 65536 ≡ x
bytes_off a b x ha hb = omega arith

byte_of : (a x : ℕ) → a < 256 → (a + 256 * x) % 256 ≡ a
byte_of a x h = omega arith

byte_last : (a : ℕ) → a < 256 → a % 256 ≡ a
byte_last a h = omega arith

byte_off : (a x : ℕ) → a < 256 → (a + 256 * x) / 256 ≡ x
byte_off a x h = omega arith

-- a word's eight bytes: those in the even places, those in the odd ones, and both sums by them
module _ (a b c d e f g h : ℕ) (ha : a < 256) (hb : b < 256) (hc : c < 256) (hd : d < 256) (he : e < 256) (hf : f < 256) (hg : g < 256) (hh : h < 256) where
  eight : List ℕ
  eight = a ∷ b ∷ c ∷ d ∷ e ∷ f ∷ g ∷ h ∷ []

  evens_word : Split 255 (evens_of (number_in eight))
  unfolding eight evens_of number_in
  evens_word = record { a = a; b = c; c = e; d = g; is = simp (bytes_off, byte_of); small = omega arith }

  odds_word : Split 255 (evens_of (number_in eight / 256))
  unfolding eight evens_of number_in
  odds_word = record { a = b; b = d; c = f; d = h; is = simp (byte_off, bytes_off, byte_of, add-zero, byte_last); small = omega arith }

  word_sums : (added_of (evens_of (number_in eight)) + added_of (evens_of (number_in eight / 256)) ≡ sum_of eight)
      × (running_sum eight + early (evens_of (number_in eight)) (evens_of (number_in eight / 256)) ≡ 8 * sum_of eight)
  unfolding eight evens_word odds_word running_sum
  word_sums = omega (arith, out evens_word (omega arith), out odds_word (omega arith))

module _ (s : List ℕ) (byte : (i : ℕ) → get_or s i 0 < 256) (n : ℕ) (room : n + 8 ≤ length s) where
  pub evens_at : Split 255 (evens_of (number_in (part s n 8)))
  unfolding from eight
  evens_at = rw (part-eight s n room) (evens_word _ _ _ _ _ _ _ _ (byte _) (byte _) (byte _) (byte _) (byte _) (byte _) (byte _) (byte _))

  pub odds_at : Split 255 (evens_of (number_in (part s n 8) / 256))
  unfolding from eight
  odds_at = rw (part-eight s n room) (odds_word _ _ _ _ _ _ _ _ (byte _) (byte _) (byte _) (byte _) (byte _) (byte _) (byte _) (byte _))

  pub sums_at : let w = part s n 8 in (added_of (evens_of (number_in w)) + added_of (evens_of (number_in w / 256)) ≡ sum_of w)
      × (running_sum w + early (evens_of (number_in w)) (evens_of (number_in w / 256)) ≡ 8 * sum_of w)
  unfolding from eight
  sums_at = rw (part-eight s n room) (word_sums _ _ _ _ _ _ _ _ (byte _) (byte _) (byte _) (byte _) (byte _) (byte _) (byte _) (byte _))
