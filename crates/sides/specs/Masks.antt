-- The cores that are near or far, as the bits of one number: core 1 is the lowest. Assumes nothing.
use Rattle.std.specs.Prelude.{ℕ, zero, suc, ◌+◌, ◌*◌, Bool, true, false, cond, not, ◌&&◌, List, map, eqb}
use Rattle.laws.specs.Idioms.{up_to, entry, filled}
use Rattle.rules.specs.Cores.{share}

abbrev pub as_bit : Bool → ℕ
as_bit true = 1
as_bit false = 0

-- of n cores from a up, those that pass a test
unfoldable pub mask_from : (ℕ → Bool) → ℕ → ℕ → ℕ
mask_from test a zero = 0
mask_from test a (suc n) = as_bit (test a) + 2 * mask_from test (a + 1) n

-- of cores 1 to n
abbrev pub mask : (ℕ → Bool) → ℕ → ℕ
mask test n = mask_from test 1 n

-- is_near of the rules, or is_far, by the sets alone
abbrev pub on_side : Bool → List ℕ → ℕ → ℕ → Bool
on_side near sets p q = not (eqb q p) && cond near (share (entry 0 sets p) (entry 0 sets q)) (not (share (entry 0 sets p) (entry 0 sets q)))

-- for each core the cores near it, or far from it
unfoldable pub side_masks : Bool → ℕ → List ℕ → List ℕ
side_masks near cores sets = filled 8 0 (map (λ p. mask (on_side near sets p) cores) (up_to cores))
