-- RULES 9.1: how one refusal is chosen. Assumes nothing.
use Rattle.std.specs.Prelude.{ℕ, zero, suc, ◌+◌, Bool, cond, eqb, Result, Ok, Err}
use Rattle.rules.specs.declared.Refusal.{Refusal}

-- nothing refused; a refusal with its number and place
abbrev pub accepted : Refusal
accepted = record { number = 0; place = 0 }

abbrev pub refused : ℕ → ℕ → Refusal
refused n place = record { number = n; place = place }

abbrev pub is_accepted : Refusal → Bool
is_accepted r = eqb r.number 0

-- RULES 9.1: the first link that refuses. The chains of a file, a table and a start go up by number
infixl 20 ◌or_else◌
abbrev pub ◌or_else◌ : Refusal → Refusal → Refusal
a or_else b = cond (is_accepted a) b a

-- number n, with a place, if something is at fault there
abbrev pub given : ℕ → ℕ → Bool → Refusal
given n place fault = cond fault (refused n place) accepted

-- number n, with the first place at fault of the m places from k on
unfoldable pub first_from : ℕ → (ℕ → Bool) → ℕ → ℕ → Refusal
first_from n fault k zero = accepted
first_from n fault k (suc m) = cond (fault k) (refused n k) (first_from n fault (k + 1) m)

-- RULES 9.1: the same of places 1 to m
abbrev pub first : ℕ → (ℕ → Bool) → ℕ → Refusal
first n fault m = first_from n fault 1 m

-- what code answers: the refusal, or where nothing is refused what is asked for
unfoldable pub granted : {A : Type 0} → Refusal → A → Result A Refusal
granted r x = cond (is_accepted r) (Ok x) (Err r)

-- and back: the refusal that an answer has, or none
unfoldable pub refusal_of : {A : Type 0} → Result A Refusal → Refusal
refusal_of (Ok x) = accepted
refusal_of (Err r) = r
