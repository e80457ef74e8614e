-- A short text for each refusal's number. Assumes nothing.
use Rattle.std.specs.Prelude.{cond, List, ◌++◌, ℕ, eqb}
use Rattle.laws.specs.Idioms.{text}
use Rattle.pieces.specs.Pieces.{piece_of}

-- for the numbers of RULES 9.3 from 0, which refuses nothing, to 19, and for every other; a bar ends each but the last
unfoldable pub numbered_texts : List ℕ
numbered_texts =
    text "nothing is refused|"
    ++ text "the file has under 46 bytes|"
    ++ text "the file's length is not what its counts say|"
    ++ text "the file's trailer gives another length|"
    ++ text "a sum is wrong: the file's bytes were altered|"
    ++ text "a count is outside its limits, or the fourth byte has unknown bits|"
    ++ text "a timing figure is outside its range|"
    ++ text "the timing figures contradict each other|"
    ++ text "a core's set of partitions is empty or names one that is not there|"
    ++ text "a task's core is not one of the table's|"
    ++ text "a task's period, deadline or execution time is outside its limits|"
    ++ text "a task's request count is above 1000000|"
    ++ text "there is no such task|"
    ++ text "a given start is above its task's deadline|"
    ++ text "a given start is above what the equation gives there|"
    ++ text "the output is shorter than the file|"
    ++ text "a bus table's s is 0, or another of its timing figures is not 0|"
    ++ text "the file ends before its core sets do, or no task record is kept|"
    ++ text "the table is salvaged: tasks may be missing, so it is not judged|"
    ++ text "the file is not cut: it is accepted as it is|"
    ++ text "no refusal has this number"

-- 255 is the C interface's own; 124 is the bar
unfoldable pub reason_text : ℕ → List ℕ
reason_text number = cond (eqb number 255) (text "an output is shorter than the tasks") (piece_of 124 numbered_texts number)

-- the length of the longest
abbrev pub longest_reason : ℕ
longest_reason = 66
