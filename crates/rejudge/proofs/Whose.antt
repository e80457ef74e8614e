-- An answer about one of two tables, by what its check gave. Assumes nothing.
use mathlib.Core.Path.{◌≡◌, refl, ap, ◌∙◌}
use mathlib.Core.Bool.{Bool, true, false, cond}
use Rattle.std.specs.Prelude.{Result, Ok, Err, IsErrAnd, MatchResult}
use Rattle.std.proofs.lemmas.Result.{err_from_is_err_and}
use Rattle.rules.specs.declared.Refusal.{Refusal}
use Rattle.rules.specs.declared.Faulty.{Faulty}
use Rattle.rules.specs.declared.CarryRefusal.{CarryRefusal}
use Rattle.rules.specs.Chain.{is_accepted, granted}
use Rattle.rejudge.specs.Carried.{about}

-- as code makes it, where each error is mapped so
pub mapped : {A : Type 0} (which : Faulty) (a : Result A Refusal) {r : Result A CarryRefusal} (P : Refusal → CarryRefusal → Type 0)
    → ((x : Refusal) (d : CarryRefusal) → P x d → d ≡ record { refusal = x; faulty = which })
    → MatchResult a (λ x. r ≡ Ok x) (λ x. IsErrAnd r (P x)) → r ≡ about which a
unfolding about
mapped which (Ok x) P call h = h
mapped which (Err x) {r} P call h = let p = err_from_is_err_and r h in p.1 ∙ rw (call x p.0 p.2)

module _ {A : Type 0} (which : Faulty) (a : Refusal) (x : A) {r : Result A Refusal} (is : r ≡ granted a x) where
  pub about_ok : {v : A} → Ok v ≡ about which r → (is_accepted a ≡ true) × (x ≡ v)
  unfolding about granted
  about_ok {v} e = go (is_accepted a) refl (e ∙ ap (about which) is)
    where
      go : (b : Bool) → is_accepted a ≡ b → Ok v ≡ about which (cond b (Ok x) (Err a)) → (is_accepted a ≡ true) × (x ≡ v)
      go true p q = (p, cc)
      go false p q = absurd cc

  pub about_err : {d : CarryRefusal} → Err d ≡ about which r → (is_accepted a ≡ false) × (d ≡ record { refusal = a; faulty = which })
  unfolding about granted
  about_err {d} e = go (is_accepted a) refl (e ∙ ap (about which) is)
    where
      go : (b : Bool) → is_accepted a ≡ b → Err d ≡ about which (cond b (Ok x) (Err a)) → (is_accepted a ≡ false) × (d ≡ record { refusal = a; faulty = which })
      go true p q = absurd cc
      go false p q = (p, cc)

-- and in one, as the answer to two files is told
pub about_granted : {A : Type 0} (which : Faulty) (a : Refusal) (x : A) {r : Result A Refusal} → r ≡ granted a x
    → about which r ≡ cond (is_accepted a) (Ok x) (Err (record { refusal = a; faulty = which }))
unfolding about granted
about_granted which a x is = ap (about which) is ∙ go (is_accepted a)
  where
    go : (b : Bool) → about which (cond b (Ok x) (Err a)) ≡ cond b (Ok x) (Err (record { refusal = a; faulty = which }))
    go true = refl
    go false = refl

-- where code passes it on by `?`
pub returned-on : {A : Type 0} (r : Result A CarryRefusal) {d : CarryRefusal} → IsErrAnd r (λ e. e ≡ d) → r ≡ Err d
returned-on r h = let p = err_from_is_err_and r h in rw (p.1, p.2)
