-- A chain of refusals: where it gives none, none of its links does; and how code walks it. Assumes nothing.
use mathlib.Core.Path.{◌≡◌, refl, sym, ◌∙◌, ap}
use mathlib.Core.Bool.{Bool, true, false, cond, not}
use Prim.Native.Nat.{ℕ, suc}
use native.Mathlib.Omega.{arith}
use borrow.Author.Tests.{eqb-true, ne_eqb}
use Rattle.rules.specs.declared.Refusal.{Refusal}
use Rattle.std.specs.Prelude.{Result, Ok, Err, IsErrAnd, is_ok, is_err, ◌≤◌}
use Rattle.std.proofs.lemmas.Result.{err_from_is_err_and}
use Rattle.rules.specs.Chain.{accepted, refused, is_accepted, ◌or_else◌, given, granted, refusal_of}

pub both-accepted : (a b : Refusal) → is_accepted (a or_else b) ≡ true → (is_accepted a ≡ true) × (is_accepted b ≡ true)
both-accepted a b e = go (is_accepted a) refl e
  where
    go : (x : Bool) → is_accepted a ≡ x → is_accepted (cond x b a) ≡ true → (is_accepted a ≡ true) × (is_accepted b ≡ true)
    go true p q = (p, q)
    go false p q = let z : ◌≡◌ {A = ℕ} 0 1 = cc in (absurd (omega arith), absurd (omega arith))

-- the first that refuses, and the last where none before it does
pub first-refuses : (a b : Refusal) → is_accepted a ≡ false → a or_else b ≡ a
first-refuses a b e = rw e

pub second_decides : (a b : Refusal) → is_accepted a ≡ true → a or_else b ≡ b
second_decides a b e = rw e

pub no_fault : (n place : ℕ) (fault : Bool) → is_accepted (given (suc n) place fault) ≡ true → fault ≡ false
no_fault n place true e = absurd (omega (arith, eqb-true (suc n) 0 e))
no_fault n place false e = refl

-- what code answers: by the refusal, and back
pub allowed : {A : Type 0} (r : Refusal) (x : A) → is_accepted r ≡ true → granted r x ≡ Ok x
unfolding granted
allowed r x e = rw e

pub denied : {A : Type 0} (r : Refusal) (x : A) → is_accepted r ≡ false → granted r x ≡ Err r
unfolding granted
denied r x e = rw e

pub was-allowed : {A : Type 0} (r : Refusal) (x : A) {y : A} → granted r x ≡ Ok y → (is_accepted r ≡ true) × (x ≡ y)
unfolding granted
was-allowed r x {y} e = go (is_accepted r) refl e
  where
    go : (b : Bool) → is_accepted r ≡ b → cond b (Ok x) (Err r) ≡ Ok y → (is_accepted r ≡ true) × (x ≡ y)
    go true p q = (p, cc)
    go false p q = absurd cc

pub was-denied : {A : Type 0} (r : Refusal) (x : A) {d : Refusal} → granted r x ≡ Err d → (is_accepted r ≡ false) × (r ≡ d)
unfolding granted
was-denied r x {d} e = go (is_accepted r) refl e
  where
    go : (b : Bool) → is_accepted r ≡ b → cond b (Ok x) (Err r) ≡ Err d → (is_accepted r ≡ false) × (r ≡ d)
    go true p q = absurd cc
    go false p q = (p, cc)

-- a number by which something is refused is that of the answer's refusal
pub number_of : {A : Type 0} (r : Refusal) (x : A) → (refusal_of (granted r x)).number ≡ r.number
unfolding granted refusal_of
number_of r x = go (is_accepted r) refl
  where
    go : (b : Bool) → is_accepted r ≡ b → (refusal_of (cond b (Ok x) (Err r))).number ≡ r.number
    go true p = sym (eqb-true r.number 0 p)
    go false p = refl

-- a fault at a place
module _ {A : Type 0} (n place : ℕ) {fault : Bool} (x : A) where
  pub faulty : 1 ≤ n → fault ≡ true → Err (refused n place) ≡ granted (given n place fault) x
  faulty h e = rw e (sym (denied (refused n place) x (ne_eqb n 0 (λ z. absurd (omega (arith, z))))))

  pub faultless : fault ≡ false → Ok x ≡ granted (given n place fault) x
  faultless e = rw e (sym (allowed accepted x refl))

pub was-faulty : {A : Type 0} (n place : ℕ) (fault : Bool) (x : A) → 1 ≤ n → {d : Refusal}
    → Err d ≡ granted (given n place fault) x → (fault ≡ true) × (d ≡ refused n place)
was-faulty n place true x h {d} e = let q : Err d ≡ Err (refused n place) = e ∙ sym (faulty n place x h refl) in (refl, cc)
was-faulty n place false x h {d} e = let q : Err d ≡ Ok x = e ∙ sym (faultless n place x refl) in absurd cc

pub was-faultless : {A : Type 0} (n place : ℕ) (fault : Bool) (x : A) → 1 ≤ n → {v : A} → Ok v ≡ granted (given n place fault) x → fault ≡ false
was-faultless n place true x h {v} e = let q : Ok v ≡ Err (refused n place) = e ∙ sym (faulty n place x h refl) in absurd cc
was-faultless n place false x h e = refl

-- as code walks it by `?`: a link that refuses is the answer, and after one that passes the rest is
pub returned : {A : Type 0} (r : Result A Refusal) {d : Refusal} → IsErrAnd r (λ e. e ≡ d) → r ≡ Err d
returned r h = let p = err_from_is_err_and r h in rw (p.1, p.2)

module _ {A B : Type 0} (a b : Refusal) (x : A) (y : B) where
  pub stops_at : {r : Result B Refusal} {d : Refusal} → IsErrAnd r (λ e. e ≡ d) → Err d ≡ granted a x → r ≡ granted (a or_else b) y
  stops_at {r} h e = let w = was-denied a x (sym e) in rw (returned r h, ← w.1, first-refuses a b w.0) (sym (denied a y w.0))

  pub goes_on_to : {v : A} → Ok v ≡ granted a x → {r : Result B Refusal} → r ≡ granted b y → r ≡ granted (a or_else b) y
  goes_on_to e h = let w = was-allowed a x (sym e) in h ∙ sym (rw (second_decides a b w.0))

-- is it refused? as code asks an answer
module _ {A : Type 0} (r : Refusal) (x : A) {y : Result A Refusal} (is : y ≡ granted r x) {b : Bool} where
  pub asked-ok : b ≡ is_ok y → is_accepted r ≡ b
  unfolding granted
  asked-ok e = go (is_accepted r) refl (e ∙ ap is_ok is)
    where
      go : (a : Bool) → is_accepted r ≡ a → b ≡ is_ok (cond a (Ok x) (Err r)) → is_accepted r ≡ b
      go true p q = p ∙ sym q
      go false p q = p ∙ sym q

  pub asked_err : b ≡ is_err y → is_accepted r ≡ not b
  unfolding granted
  asked_err e = go (is_accepted r) refl (e ∙ ap is_err is)
    where
      go : (a : Bool) → is_accepted r ≡ a → b ≡ is_err (cond a (Ok x) (Err r)) → is_accepted r ≡ not b
      go true p q = p ∙ sym (ap not q)
      go false p q = p ∙ sym (ap not q)

-- what is refused is so whatever was asked for
pub denied-alike : {A B : Type 0} (r : Refusal) (x : A) (y : B) {d : Refusal} → Err d ≡ granted r x → Err d ≡ granted r y
denied-alike r x y e = let w = was-denied r x (sym e) in rw (← w.1) (sym (denied r y w.0))

-- and what stands there where something is refused is not asked for
pub granted-where : {A : Type 0} (r : Refusal) (x y : A) → granted r (cond (is_accepted r) x y) ≡ granted r x
unfolding granted
granted-where r x y = go (is_accepted r)
  where
    go : (b : Bool) → cond b (Ok (cond b x y)) (Err r) ≡ cond b (Ok x) (Err r)
    go true = refl
    go false = refl
