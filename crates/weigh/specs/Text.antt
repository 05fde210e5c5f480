-- WEIGH's answer.
use Rattle.std.specs.Prelude.{ℕ, leb}
use mathlib.Core.List.{List, [], ◌∷◌, flat_map, flatten}
use Rattle.search.specs.Law.{Law, semiring}
use Rattle.search.specs.Line.{Line}
use Rattle.weigh.specs.Weigh.{weight, weights_of}
use Rattle.weigh.specs.Outcome.{Outcome, proved, atmost, unproved, noted, weigh}
use Rattle.text.specs.Bytes.{ascii, number, parted}
use Rattle.text.specs.TermText.{write_term}
use Rattle.text.specs.Answer.{Answer, ◌>>=◌, require, fitting, field, yes_no}
use Rattle.text.specs.Proof.{proof}
use Rattle.text.specs.Find.{step, uses, path_lines, none_lines}
use Rattle.weigh.specs.Job.{WeighJob, read_weigh}

-- `total=`, the sum of the path's weights
unfoldable pub total_line : WeighJob → List Line → List ℕ
unfolding field number weight weights_of
total_line j xs = field "total=" (number (weight (weights_of j.weights) xs))

-- the lines of FIND's answer, with `total=` after `steps=`, and in an atmost `atleast=` after that; or those of its none
unfoldable pub weigh_lines : List Law → WeighJob → Outcome → List (List ℕ)
unfolding flat_map field ascii write_term number parted uses step proof yes_no total_line
weigh_lines ws j (proved xs e n) = path_lines ws (ascii "proved") j.left j.right (total_line j xs ∷ []) xs e
weigh_lines ws j (atmost xs l e n) = path_lines ws (ascii "atmost") j.left j.right (total_line j xs ∷ field "atleast=" (number l) ∷ []) xs e
weigh_lines ws j (unproved e n c) = none_lines j.left j.right e c

unfoldable pub weigh_text : List Law → WeighJob → Outcome → List ℕ
unfolding flatten weigh_lines
weigh_text ws j o = flatten (weigh_lines ws j o)

-- how the search for a job ends
abbrev pub job_weighed : WeighJob → Outcome
job_weighed j = weigh semiring (weights_of j.weights) j.cost j.limits j.left j.right

unfoldable pub weigh_entry : (job : List ℕ) (slots room : ℕ) → Answer (List ℕ)
unfolding ◌>>=◌ require read_weigh weigh semiring weights_of weigh_text fitting
weigh_entry bs slots room = do
  j ← read_weigh bs
  _ ← require 7 (leb (noted (job_weighed j)) slots)
  fitting room (weigh_text semiring j (job_weighed j))
