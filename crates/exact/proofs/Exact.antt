-- Every promise is exact: each is an equation with its result, or equations with its parts. Assumes nothing.
use mathlib.Core.Path.{◌≡◌, sym, ◌∙◌}
use mathlib.Core.List.{List}
use Prim.Native.Nat.{ℕ}
use Rattle.text.specs.Put.{Given}
use Rattle.rules.specs.declared.Refusal.{Refusal}
use Rattle.rules.specs.declared.Answer.{Answer}
use Rattle.stored.specs.Stored.{Stored}
use Rattle.exact.specs.Exact.{Exact, Promises}

-- what equals a rule is one
only_one : {A : Type 0} (rule : A) → Exact (λ a. a ≡ rule)
only_one rule a b p q = p ∙ sym q

-- and so is a pair whose parts do
both : {A B : Type 0} {a c : A} {b d : B} → a ≡ c → b ≡ d → ◌≡◌ {A = A × B} (a, b) (c, d)
both p q = cc

all_four : {A : Type 0} {n m : A} {a b c d e f : List ℕ} → n ≡ m → a ≡ b → c ≡ d → e ≡ f → ◌≡◌ {A = A × List ℕ × List ℕ × List ℕ} (n, a, c, e) (m, b, d, f)
all_four p q r s = cc

-- answers in three lent outputs
stored : {A : Type 0} (rule : A) (refusal : Refusal) (answers : List Answer) (bounds rounds by : List ℕ)
    → Exact (λ (r : A × List ℕ × List ℕ × List ℕ). (r.0 ≡ rule) × Stored refusal answers bounds rounds by r.1 r.2 r.3)
stored rule refusal answers bounds rounds by a b p q =
    all_four (p.0 ∙ sym q.0) (p.1.bounds_are ∙ sym q.1.bounds_are) (p.1.rounds_are ∙ sym q.1.rounds_are) (p.1.by_are ∙ sym q.1.by_are)

-- a text in a lent buffer
given : (text out : List ℕ) → Exact (λ (r : ℕ × List ℕ). Given text out r.0 r.1)
given text out a b p q = both (p.length_is ∙ sym q.length_is) (p.bytes_are ∙ sym q.bytes_are)

-- a number, and a lent buffer
told : (rule : ℕ) (after : List ℕ) → Exact (λ (r : ℕ × List ℕ). (r.0 ≡ rule) × (r.1 ≡ after))
told rule after a b p q = both (p.0 ∙ sym q.0) (p.1 ∙ sym q.1)

pub promises : Promises
promises = record {
  whole = λ s. only_one _;
  check-file = λ s. only_one _;
  read = λ s. only_one _;
  read-nothing = λ refusal. only_one _;
  view = λ s k. only_one _;
  view_refusal = λ s k. only_one _;
  write = λ t out a b p q. both (p.answered ∙ sym q.answered) (p.stored ∙ sym q.stored);
  check-to-judge = λ s. only_one _;
  read-to-judge = λ s. only_one _;
  salvage = λ s out a b p q. both (p.answered ∙ sym q.answered) (p.stored ∙ sym q.stored);
  salvage-told = λ s out. told _ _;
  front = λ input n. only_one _;
  ddr3_1333 = only_one _;
  check-timing = λ row. only_one _;
  check-bus = λ row. only_one _;
  check-tasks = λ t. only_one _;
  board-refusal = λ cores partitions tasks fourth row sets. only_one _;
  check-board = λ t. only_one _;
  check = λ t. only_one _;
  worsens = λ older newer. only_one _;
  difference = λ older newer. only_one _;
  admit_table = λ t. only_one _;
  admit_start = λ t k start. only_one _;
  judge-one = λ t k start. only_one _;
  judge-all = λ t starts. only_one _;
  judge-carried = λ older newer a b p q. p.is ∙ sym q.is;
  list = λ s out. given _ out;
  lines = λ t answers out. given _ out;
  refused = λ number out. given _ out;
  receipt-line = λ s out. given _ out;
  receipt-status = λ s. only_one _;
  report-line = λ r answered e out. given _ out;
  reported-line = λ answered out. given _ out;
  of_file = λ s. only_one _;
  judge_file = λ s starts bounds rounds by. stored _ _ _ bounds rounds by;
  carry_files = λ older newer bounds rounds by a b p q. stored _ _ _ bounds rounds by a b (p.0, p.1.stored) (q.0, q.1.stored);
  carry-code = λ answered. only_one _;
  worsens-files = λ older newer. only_one _;
  piece = λ s mark k. only_one _;
  reason = λ number out. given _ out;
  task-count = λ s. only_one _;
  record-place = λ s k. only_one _;
  ryb_read = λ s. only_one _;
  ryb_whole = λ s. only_one _;
  ryb_tasks = λ s. only_one _;
  ryb_judge = λ s starts bounds rounds by. stored _ _ _ bounds rounds by;
  ryb_list = λ s out. given _ out;
  ryb_view = λ s k. only_one _;
  ryb_record = λ s k. only_one _;
  ryb_carry = λ older newer bounds rounds by a b p q. stored _ _ _ bounds rounds by a b (p.0, p.1.stored) (q.0, q.1.stored);
  ryb_worsens = λ older newer. only_one _;
  ryb_salvage = λ s out. told _ _;
  ryb_reason = λ number out. given _ out;
}
