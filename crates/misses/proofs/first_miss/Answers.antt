-- The first task that misses, as the library finds its place. Assumes nothing.
use mathlib.Core.Path.{◌≡◌}
use mathlib.Core.Bool.{true, false}
use Prim.Native.Nat.{◌<◌, ◌≤◌}
use native.Mathlib.Omega.{arith}
use borrow.Author.Tests.{tests}
use borrow.Author.Rules.{rules}
use lib.ListN.{length, take}
use Rattle.std.specs.List.{AllWithin, HoldsAt}
use Rattle.std.specs.Option.{MatchOption}
use Rattle.std.proofs.lemmas.Iterator.{IsFirst-from_position, YieldsList-from_slice}
use Rattle.rules.specs.Listing.{is_miss}
use Rattle.laws.proofs.Runs.{unmapped}
use Rattle.misses.proofs.Missed.{last-none, last-first}
use Rattle.misses.proofs.first_miss.Goals.{After-position}
use Rattle.misses.proofs.first_miss.Goals as goal

room : (c : After-position) → c.args.n ≤ length c.args.answers
room c = let long : length c.args.answers ≡ 32 = search (rules, unmapped) in omega arith

first : (c : After-position) → let l = take c.args.n c.args.answers in
    MatchOption c.position.result (AllWithin (λ a. is_miss a.verdict ≡ false) l 0 (length l))
    (λ i. (i < length l) × HoldsAt (λ a. is_miss a.verdict ≡ true) l i × AllWithin (λ a. is_miss a.verdict ≡ false) l 0 i)
first c = IsFirst-from_position _ _ _ (λ a. is_miss a.verdict ≡ true) (λ a. is_miss a.verdict ≡ false) c.position.ensures.ran (YieldsList-from_slice _ c.iter.ensures.rest) (λ x q k. search (rules, tests)) (λ x q k. search (rules, tests))

pub returns-in_err-place : goal.returns-in_err-place
returns-in_err-place c =
    let h = rw c.in_err-place.was at (first (goal.at.returns-in_err-place c).After-position) in
    rw c.from_residual.ensures (last-none c.args.answers c.args.n (room (goal.at.returns-in_err-place c).After-position) h)

pub returns : goal.returns
returns c =
    let h = rw c.in_ok-place.was at (first (goal.at.returns c).After-position) in
    last-first c.args.answers c.args.n (room (goal.at.returns c).After-position) c.in_ok-place.place h
