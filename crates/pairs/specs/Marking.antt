-- The values of an evaluation, marked.
use Rattle.std.specs.Prelude.{ℕ, zero, suc, List, Bool, true, false}
use Rattle.memo.specs.Memo.{value_at, is_noted}
use Rattle.marks.specs.Marks.{with_mark}

-- The marks with term t marked, where the test passes.
abbrev pub mark_if : Bool → List ℕ → ℕ → List ℕ
mark_if true m t = with_mark m t
mark_if false m t = m

-- The marks with the value of expression k marked, if it is noted in the memo.
abbrev pub mark_value : List ℕ → ℕ → List ℕ → List ℕ
mark_value memo k m = mark_if (is_noted memo k) m (value_at memo k)

-- The marks with the value of each of the first n expressions marked that is noted in the memo.
unfoldable pub mark_values : List ℕ → ℕ → List ℕ → List ℕ
mark_values memo zero m = m
mark_values memo (suc k) m = mark_value memo k (mark_values memo k m)
