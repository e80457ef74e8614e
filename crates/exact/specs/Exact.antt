-- Any two results that a contract allows are the same: a row for each public operation, with what its contract allows. Assumes nothing.
use Rattle.std.specs.Prelude.{ℕ, ◌≡◌, Bool, cond, List, take, Option, Result, ⊤}
use Rattle.rules.specs.declared.Table.{Table}
use Rattle.rules.specs.declared.Picos.{Picos}
use Rattle.rules.specs.declared.Refusal.{Refusal}
use Rattle.rules.specs.declared.Answer.{Answer}
use Rattle.rules.specs.declared.Salvage.{Salvage}
use Rattle.rules.specs.declared.Rejudgement.{Rejudgement}
use Rattle.rules.specs.declared.CarryRefusal.{CarryRefusal}
use Rattle.rules.specs.Chain.{granted}
use Rattle.rules.specs.Order as Order
use Rattle.rules.specs.Timing as Timing
use Rattle.rules.specs.Timing.{Row}
use Rattle.rules.specs.Refusals.{check_timing, check_bus, board_refusal, check_board, check_tasks, check_table, check_judged, check_start}
use Rattle.rules.specs.File.{check_whole}
use Rattle.rules.specs.Operations.{check_file, read_nothing, reading, check_to_judge, read_to_judge, check_view, viewing, judge_one, judge_all}
use Rattle.rules.specs.Salvage.{salvaging, salvaged_out}
use Rattle.rules.specs.Listing.{refused_line, table_text, listing, receipt, report}
use Rattle.rules.specs.Results.{Read, Salvaged, counts_of}
use Rattle.changes.specs.declared.Figure.{Figure}
use Rattle.changes.specs.declared.Change.{Change}
use Rattle.changes.specs.Difference as Difference
use Rattle.starts.specs.Starts.{in_picos}
use Rattle.rejudge.specs.Carried.{Carried}
use Rattle.writer.specs.Answers.{Wrote}
use Rattle.text.specs.Put.{Given}
use Rattle.plain.specs.Codes.{code_of, salvage_code}
use Rattle.judged.specs.JudgedFile.{check_judged_file, JudgedFile}
use Rattle.recarry.specs.Files.{carry_refusal, granted_carry, refusal_carried, carry_code, CarriedFiles, files_worsen}
use Rattle.salvaging.specs.Front.{Salvages}
use Rattle.report.specs.Counts.{reported}
use Rattle.reasons.specs.Reasons.{reason_text}
use Rattle.pieces.specs.Pieces.{piece_of}
use Rattle.shown.specs.Shown.{task_count, record_place}
use Rattle.receipt.specs.Status.{receipt_status}
use Rattle.status.specs.Status.{file_status}

-- a promise that allows one result; of an operation that is lent buffers, the result with their final bytes
abbrev pub Exact : {A : Type 0} → (A → Type 0) → Type 0
Exact {A} allowed = (a b : A) → allowed a → allowed b → a ≡ b

-- what a check answers
abbrev pub Checked : Type 0
Checked = Result ⊤ Refusal

pub record Promises : Type 0 where
  -- arrival, file, view and writer
  pub whole : (s : List ℕ) → Exact (λ (r : Checked). r ≡ granted (check_whole s) tt)
  pub check-file : (s : List ℕ) → Exact (λ (r : Checked). r ≡ granted (check_file s) tt)
  pub read : (s : List ℕ) → Exact (λ (r : Result Table Refusal). r ≡ granted (reading s).refusal (reading s).table)
  -- what a refused reading gives by the rules; in code it is an `Err`
  pub read-nothing : (refusal : Refusal) → Exact (λ (r : Read). r ≡ read_nothing refusal)
  pub view : (s : List ℕ) (k : ℕ) → Exact (λ (part : List ℕ). part ≡ viewing s k)
  pub view_refusal : (s : List ℕ) (k : ℕ) → Exact (λ (r : Checked). r ≡ granted (check_view s k) tt)
  pub write : (t : Table) (out : List ℕ) → Exact (λ (r : Result ℕ Refusal × List ℕ). Wrote t out r.0 r.1)
  -- admit_file
  pub check-to-judge : (s : List ℕ) → Exact (λ (r : Checked). r ≡ granted (check_to_judge s) tt)
  pub read-to-judge : (s : List ℕ) → Exact (λ (r : Result Table Refusal). r ≡ granted (read_to_judge s).refusal (read_to_judge s).table)
  -- salvaging
  pub salvage : (s out : List ℕ) → Exact (λ (r : Result Salvage Refusal × List ℕ). Salvages s out r.0 r.1)
  pub salvage-told : (s out : List ℕ) → Exact (λ (r : ℕ × List ℕ). (r.0 ≡ salvage_code (salvaging s out)) × (r.1 ≡ salvaged_out s out))
  -- input
  pub front : (input : List ℕ) (n : ℕ) → Exact (λ (part : List ℕ). part ≡ take n input)
  -- timing and tasks
  pub ddr3_1333 : Exact (λ (r : Row). r ≡ Timing.ddr3_1333)
  pub check-timing : (row : Row) → Exact (λ (r : Checked). r ≡ granted (check_timing row) tt)
  pub check-bus : (row : Row) → Exact (λ (r : Checked). r ≡ granted (check_bus row) tt)
  pub check-tasks : (t : Table) → Exact (λ (r : Checked). r ≡ granted (check_tasks t) tt)
  -- checks
  pub board-refusal : (cores partitions tasks fourth : ℕ) (row : Row) (sets : List ℕ) → Exact (λ (r : Checked). r ≡ granted (board_refusal cores partitions tasks fourth row sets) tt)
  pub check-board : (t : Table) → Exact (λ (r : Checked). r ≡ granted (check_board t) tt)
  pub check : (t : Table) → Exact (λ (r : Checked). r ≡ granted (check_table t) tt)
  -- order
  pub worsens : (older newer : Table) → Exact (λ (r : Bool). r ≡ Order.worsens older newer)
  pub difference : (older newer : Table) → Exact (λ (r : Option (Change Figure)). r ≡ Difference.difference older newer)
  -- admit
  pub admit_table : (t : Table) → Exact (λ (r : Checked). r ≡ granted (check_judged t) tt)
  pub admit_start : (t : Table) (k : ℕ) (start : Picos) → Exact (λ (r : Checked). r ≡ granted (check_start t k start.0) tt)
  -- judge
  pub judge-one : (t : Table) (k : ℕ) (start : Picos) → Exact (λ (r : Result Answer Refusal). r ≡ granted (judge_one t k start.0).refusal (judge_one t k start.0).answer)
  pub judge-all : (t : Table) (starts : List Picos) → Exact (λ (r : Result (List Answer) Refusal). r ≡ granted (judge_all t (in_picos starts)).refusal (judge_all t (in_picos starts)).answers)
  -- rejudge
  pub judge-carried : (older newer : Table) → Exact (λ (r : Result Rejudgement CarryRefusal). Carried older newer r)
  -- listing
  pub list : (s out : List ℕ) → Exact (λ (r : ℕ × List ℕ). Given (listing s) out r.0 r.1)
  pub lines : (t : Table) (answers : List Answer) (out : List ℕ) → Exact (λ (r : ℕ × List ℕ). Given (table_text t answers) out r.0 r.1)
  -- receipt
  pub refused : (number : ℕ) (out : List ℕ) → Exact (λ (r : ℕ × List ℕ). Given (refused_line number) out r.0 r.1)
  pub receipt-line : (s out : List ℕ) → Exact (λ (r : ℕ × List ℕ). Given (receipt s) out r.0 r.1)
  pub receipt-status : (s : List ℕ) → Exact (λ (r : ℕ). r ≡ receipt_status s)
  -- report
  pub report-line : (r : Salvaged) (answered : Result Salvage Refusal) → answered ≡ granted r.refusal (counts_of r)
      → (out : List ℕ) → Exact (λ (x : ℕ × List ℕ). Given (report r) out x.0 x.1)
  pub reported-line : (answered : Result Salvage Refusal) (out : List ℕ) → Exact (λ (x : ℕ × List ℕ). Given (reported answered) out x.0 x.1)
  -- status
  pub of_file : (s : List ℕ) → Exact (λ (r : ℕ). r ≡ file_status s)
  -- judged
  pub judge_file : (s starts bounds rounds by : List ℕ)
      → Exact (λ (r : Checked × List ℕ × List ℕ × List ℕ). (r.0 ≡ granted (check_judged_file s starts bounds rounds by) tt) × JudgedFile s starts bounds rounds by r.1 r.2 r.3)
  -- recarry
  pub carry_files : (older newer bounds rounds by : List ℕ)
      → Exact (λ (r : Result ⊤ CarryRefusal × List ℕ × List ℕ × List ℕ). (r.0 ≡ granted_carry (carry_refusal older newer bounds rounds by) tt) × CarriedFiles older newer bounds rounds by r.1 r.2 r.3)
  pub carry-code : (answered : Result ⊤ CarryRefusal) → Exact (λ (r : ℕ). r ≡ carry_code (refusal_carried answered))
  pub worsens-files : (older newer : List ℕ) → Exact (λ (r : Bool). r ≡ files_worsen older newer)
  -- pieces and reasons
  pub piece : (s : List ℕ) (mark k : ℕ) → Exact (λ (part : List ℕ). part ≡ piece_of mark s k)
  pub reason : (number : ℕ) (out : List ℕ) → Exact (λ (r : ℕ × List ℕ). Given (reason_text number) out r.0 r.1)
  -- shown
  pub task-count : (s : List ℕ) → Exact (λ (r : ℕ). r ≡ task_count s)
  pub record-place : (s : List ℕ) (k : ℕ) → Exact (λ (r : ℕ). r ≡ record_place s k)
  -- the C interface
  pub ryb_read : (s : List ℕ) → Exact (λ (r : ℕ). r ≡ code_of (check_file s))
  pub ryb_whole : (s : List ℕ) → Exact (λ (r : ℕ). r ≡ code_of (check_whole s))
  pub ryb_tasks : (s : List ℕ) → Exact (λ (r : ℕ). r ≡ task_count s)
  pub ryb_judge : (s starts bounds rounds by : List ℕ)
      → Exact (λ (r : ℕ × List ℕ × List ℕ × List ℕ). (r.0 ≡ code_of (check_judged_file s starts bounds rounds by)) × JudgedFile s starts bounds rounds by r.1 r.2 r.3)
  pub ryb_list : (s out : List ℕ) → Exact (λ (r : ℕ × List ℕ). Given (listing s) out r.0 r.1)
  pub ryb_view : (s : List ℕ) (k : ℕ) → Exact (λ (r : ℕ). r ≡ code_of (check_view s k))
  pub ryb_record : (s : List ℕ) (k : ℕ) → Exact (λ (r : ℕ). r ≡ record_place s k)
  pub ryb_carry : (older newer bounds rounds by : List ℕ)
      → Exact (λ (r : ℕ × List ℕ × List ℕ × List ℕ). (r.0 ≡ carry_code (carry_refusal older newer bounds rounds by)) × CarriedFiles older newer bounds rounds by r.1 r.2 r.3)
  pub ryb_worsens : (older newer : List ℕ) → Exact (λ (r : ℕ). r ≡ cond (files_worsen older newer) 1 0)
  pub ryb_salvage : (s out : List ℕ) → Exact (λ (r : ℕ × List ℕ). (r.0 ≡ salvage_code (salvaging s out)) × (r.1 ≡ salvaged_out s out))
  pub ryb_reason : (number : ℕ) (out : List ℕ) → Exact (λ (r : ℕ × List ℕ). Given (reason_text number) out r.0 r.1)
