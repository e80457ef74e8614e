-- Outputs that answers are stored into, one after the other, where each has room. Assumes nothing.
use mathlib.Core.Path.{◌≡◌, refl, ap}
use mathlib.Core.Bool.{false, ◌||◌}
use mathlib.Core.List.{List, [], ◌∷◌, ◌++◌, map, map-append}
use Prim.Native.Nat.{ℕ, ◌+◌, ◌<◌, ◌≤◌}
use native.Mathlib.Omega.{arith}
use native.Mathlib.Numerals.{add-one}
use lib.ListN.{length, length-map, length-append, length-drop, take, get_or, set}
use lib.Seq.{take-suc, take_all, length-take-le}
use borrow.Author.Tests.{ltb-false}
use Rattle.rules.specs.declared.Answer.{Answer}
use Rattle.rules.specs.declared.Refusal.{Refusal}
use Rattle.rules.specs.Judgement.{misses}
use Rattle.rules.specs.Chain.{accepted, is_accepted, granted, refusal_of}
use Rattle.facts.proofs.Chain.{number_of}
use Rattle.laws.proofs.Tests.{or_neither}
use Rattle.stored.specs.Stored.{short, laid_over, bound_in, rounds_in, by_in, Stored}

-- ---- one output

-- one value more, in a place that is there
laid_snoc : (new out : List ℕ) (i x : ℕ) → length new ≡ i → i < length out → set (laid_over new out) i x ≡ laid_over (new ++ (x ∷ [])) out
laid_snoc new out i x e h = rw (← e) (go new out (omega arith))
  where
    go : (new out : List ℕ) → length new < length out → set (laid_over new out) (length new) x ≡ laid_over (new ++ (x ∷ [])) out
    go [] [] h = absurd (omega arith)
    go [] (y ∷ ys) h = refl
    go (n ∷ new) [] h = absurd (omega arith)
    go (n ∷ new) (y ∷ ys) h = ap {B = List ℕ} (λ l. n ∷ l) (go new ys (omega arith))

module _ {A : Type 0} (f : A → ℕ) (l : List A) (i : ℕ) (out : List ℕ) where
  many : i ≤ length l → length (map f (take i l)) ≡ i
  many h = rw (length-map, length-take-le i l h)

  -- what f makes of the first i members is there; then what it makes of the next
  laid_next : (d : A) → i < length l → i < length out → set (laid_over (map f (take i l)) out) i (f (get_or l i d)) ≡ laid_over (map f (take (i + 1) l)) out
  laid_next d h room = rw (add-one i, take-suc l i d h, map-append) (laid_snoc (map f (take i l)) out i (f (get_or l i d)) (many (omega arith)) room)

  -- an output keeps its length
  laid_length : i ≤ length l → i ≤ length out → length (laid_over (map f (take i l)) out) ≡ length out
  laid_length h room = simp (length-append, length-drop, many h) (omega arith)

-- ---- the three

-- where something is refused nothing changes
pub unchanged : {r : Refusal} {answers : List Answer} {bounds rounds by : List ℕ} → is_accepted r ≡ false → Stored r answers bounds rounds by bounds rounds by
unchanged e = record { bounds_are = rw e; rounds_are = rw e; by_are = rw e }

-- what is stored by the refusal that an answer has is so by the refusal that it is made of
pub stored-by : {A : Type 0} (r : Refusal) (x : A) {answers : List Answer} {bounds rounds by bounds' rounds' by' : List ℕ}
    → Stored (refusal_of (granted r x)) answers bounds rounds by bounds' rounds' by' → Stored r answers bounds rounds by bounds' rounds' by'
stored-by r x so = record {
  bounds_are = rw (number_of r x) at so.bounds_are;
  rounds_are = rw (number_of r x) at so.rounds_are;
  by_are = rw (number_of r x) at so.by_are;
}

-- each has room, and the first i answers are in it
pub record Storing (answers : List Answer) (i : ℕ) (bounds rounds by bounds' rounds' by' : List ℕ) : Type 0 where
  pub reached : i ≤ length answers
  pub has_room : (short (length answers) bounds || short (length answers) rounds || short (length answers) by) ≡ false
  pub stored : Stored accepted (take i answers) bounds rounds by bounds' rounds' by'

module _ {answers : List Answer} {i : ℕ} {bounds rounds by bounds' rounds' by' : List ℕ} (so : Storing answers i bounds rounds by bounds' rounds' by') where
  room : (length answers ≤ length bounds) × (length answers ≤ length rounds) × (length answers ≤ length by)
  room =
      let n = length answers in
      let (two, third) = or_neither (short n bounds || short n rounds) (short n by) so.has_room in
      let (first, second) = or_neither (short n bounds) (short n rounds) two in
      (ltb-false _ _ first, ltb-false _ _ second, ltb-false _ _ third)

  lengths : (length bounds' ≡ length bounds) × (length rounds' ≡ length rounds) × (length by' ≡ length by)
  lengths = (
    rw so.stored.bounds_are (laid_length bound_in answers i bounds so.reached (omega (arith, so.reached, room.0))),
    rw so.stored.rounds_are (laid_length rounds_in answers i rounds so.reached (omega (arith, so.reached, room.1))),
    rw so.stored.by_are (laid_length by_in answers i by so.reached (omega (arith, so.reached, room.2))),
  )

  module _ (h : i < length answers) where
    -- a place of each output
    pub fits : (i < length bounds') × (i < length rounds') × (i < length by')
    fits = (omega (arith, lengths.0, room.0), omega (arith, lengths.1, room.1), omega (arith, lengths.2, room.2))

    -- one answer more
    pub storing_next : let a = get_or answers i (misses 0) in
        Storing answers (i + 1) bounds rounds by (set bounds' i (bound_in a)) (set rounds' i (rounds_in a)) (set by' i (by_in a))
    storing_next = record {
      reached = omega arith;
      has_room = so.has_room;
      stored = record {
        bounds_are = rw so.stored.bounds_are (laid_next bound_in answers i bounds (misses 0) h (omega (arith, room.0)));
        rounds_are = rw so.stored.rounds_are (laid_next rounds_in answers i rounds (misses 0) h (omega (arith, room.1)));
        by_are = rw so.stored.by_are (laid_next by_in answers i by (misses 0) h (omega (arith, room.2)));
      };
    }

  -- all of them
  pub storing_done : length answers ≤ i → Stored accepted answers bounds rounds by bounds' rounds' by'
  storing_done end = rw (take_all i answers end) at so.stored
