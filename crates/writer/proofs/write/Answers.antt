-- Writing: 5 to 11, then 15, then the whole file. Assumes nothing.
use mathlib.Core.Path.{◌≡◌, sym, ◌∙◌}
use mathlib.Core.Bool.{true}
use Prim.Native.Nat.{◌+◌, ◌-◌, ◌≤◌}
use native.Mathlib.Omega.{arith}
use borrow.Author.Rules.{rules}
use borrow.Author.Tests.{ltb-false}
use lib.ListN.{length}
use Rattle.rules.specs.Chain.{is_accepted}
use Rattle.rules.specs.Refusals.{check_table}
use Rattle.rules.specs.File.{body, encode}
use Rattle.rules.specs.Operations.{check_write}
use Rattle.facts.proofs.Accepted.{sound}
use Rattle.facts.proofs.Chain.{returned, stops_at, goes_on_to, denied-alike, was-allowed, was-faultless, faultless}
use Rattle.laws.proofs.Runs.{unmapped}
use Rattle.places.proofs.Places.{length_is}
use Rattle.encode.proofs.Stores.{body-length}
use Rattle.writer.proofs.Writing.{file_small, encode-length, refuses_all, writes_all, file_stores}
use Rattle.writer.proofs.write.Goals.{After-file_length-n, In_ok-refuse_if}
use Rattle.writer.proofs.write.Goals as goal

pub returns-in_err-check_lent : goal.returns-in_err-check_lent
unfolding check_write
returns-in_err-check_lent c = let h = c.from_residual.ensures.1 in refuses_all _ _ (returned _ h) (stops_at _ _ _ _ h c.in_err-check_lent.ensures)

-- 5 to 11 were passed
passed : (c : After-file_length-n) → is_accepted (check_table c.args.t) ≡ true
passed c = (was-allowed _ _ (sym c.in_ok-check_lent.ensures)).0

-- the length that was worked out is the file's
lengths : (c : After-file_length-n) → let t = c.args.t in
    (c.file_length-n.result ≡ length (body t) + 12) × (c.file_length-n.result ≡ length (encode t))
lengths c =
    let t = c.args.t in
    let fits = sound t (passed c) in
    let all : length t.task ≡ 32 = search (rules, unmapped) in
    omega (arith, c.file_length-n.ensures.value, body-length t (search rules) (search rules) fits.cores-in.high (omega arith), encode-length t)

pub returns-in_err-refuse_if : goal.returns-in_err-refuse_if
unfolding check_write
returns-in_err-refuse_if c =
    let h = c.from_residual-in_err-refuse_if.ensures.1 in
    let link = rw (lengths (goal.at.returns-in_err-refuse_if c).After-file_length-n).1 at c.in_err-refuse_if.ensures in
    refuses_all _ _ (returned _ h) (goes_on_to _ _ _ _ c.in_ok-check_lent.ensures (returned _ h ∙ denied-alike _ _ _ link))

-- and so was 15
room : (c : In_ok-refuse_if) → c.file_length-n.result ≤ length c.args.out.now
room c = ltb-false _ _ (was-faultless 15 0 _ (tt {0}) (omega arith) c.in_ok-refuse_if.ensures)

pub put_body-requires : goal.put_body-requires
put_body-requires c =
    let t = c.args.t in
    let fits = sound t (passed (goal.at.put_body-requires c).After-file_length-n) in
    let there = room (goal.at.put_body-requires c).In_ok-refuse_if in
    omega (arith, c.file_length-n.ensures.value, length_is t.fourth t.cores t.tasks)

pub put_trailer-requires : goal.put_trailer-requires
put_trailer-requires c =
    let there = room (goal.at.put_trailer-requires c).In_ok-refuse_if in
    omega (arith, c.put_body.auto, lengths (goal.at.put_trailer-requires c).After-file_length-n, c.file_length-n.ensures.upper_bound)

pub overflow_sub-n : goal.overflow_sub-n
overflow_sub-n c = omega (arith, lengths (goal.at.overflow_sub-n c).After-file_length-n)

pub returns : goal.returns
unfolding check_write
returns c =
    let a = c.args in
    let fits = sound a.t (passed (goal.at.returns c).After-file_length-n) in
    let long = lengths (goal.at.returns c).After-file_length-n in
    let there = room (goal.at.returns c).In_ok-refuse_if in
    let e : c.file_length-n.result - 12 ≡ length (body a.t) = omega (arith, long) in
    let h : length (encode a.t) ≤ length a.out.now = omega (arith, long) in
    let few : length (encode a.t) ≤ 990 = omega (arith, long, c.file_length-n.ensures.value, file_small a.t.fourth a.t.cores a.t.tasks fits.cores-in.high fits.tasks-in.high) in
    rw (c.put_trailer.ensures, e, c.put_body.ensures, file_stores a.t a.out.now h)
    (writes_all _ _ (goes_on_to _ _ _ _ c.in_ok-check_lent.ensures (rw long.1 (faultless 15 0 _ (rw long.1 at (was-faultless 15 0 _ (tt {0}) (omega arith) c.in_ok-refuse_if.ensures))))) few)
