-- The texts of outcomes, put line by line.
use Prim.Native.Nat.{ℕ}
use Prim.Native.Char.{code}
use mathlib.Core.Path.{◌≡◌, refl, sym, ap, ◌∙◌}
use mathlib.Core.Bool.{Bool}
use mathlib.Core.List.{List, [], ◌++◌, append_assoc, flatten}
use lib.ListN.{length}
use Rattle.terms.specs.Term.{Term}
use Rattle.search.specs.Law.{semiring}
use Rattle.search.specs.Line.{Line}
use Rattle.search.specs.Search.{Noted, proved, unproved}
use Rattle.search.specs.Cut.{cut}
use Rattle.search.specs.Traced.{Traced, none, more}
use Rattle.text.specs.Bytes.{ascii, number, parted}
use Rattle.text.specs.Answer.{field}
use Rattle.text.specs.Job.{Job}
use Rattle.text.specs.Find.{uses, outcome_lines, outcome_text}
use Rattle.text.specs.Printing.{path_text, none_text, figures}
use Rattle.text.specs.Walk.{Walk}
use Rattle.text.specs.Writer.{Writes}
use Rattle.text.specs.declared.writer.Writer.{Writer}
use Rattle.text.proofs.Writing.{then, put_as}

-- the lines with the figures, and what follows them
pub figures_then : (m : List ℕ) (e : ℕ) (xs : List Line) {t : List ℕ} {o o₁ o₂ : Writer} → Writes (figures m e xs) o o₁ → Writes t o₁ o₂
    → Writes (field "steps=" (number (length xs)) ++ (m ++ (field "expanded=" (number e) ++ (field "uses=" (parted (code ",") (uses semiring xs)) ++ t)))) o o₂
figures_then m e xs {t} p q =
    let steps : List ℕ = field "steps=" (number (length xs)) in
    let opened : List ℕ = field "expanded=" (number e) in
    let laws : List ℕ = field "uses=" (parted (code ",") (uses semiring xs)) in
    put_as
    (append_assoc steps (m ++ (opened ++ laws)) t
    ∙ ap (λ l. steps ++ l) (append_assoc m (opened ++ laws) t ∙ ap (λ l. m ++ l) (append_assoc opened laws t)))
    (then p q)

-- what is put of a path or of a none is the outcome's text
module _ (j : Job) {o o₁ : Writer} where
  pub proved_put : (xs : List Line) (e n : ℕ) → Writes (path_text (ascii "proved") j.left j.right [] xs e) o o₁
      → Writes (outcome_text semiring j (proved xs e n)) o o₁
  unfolding outcome_text outcome_lines flatten
  proved_put xs e n p = p

  pub none_put : (e n : ℕ) {c : Bool} → c ≡ cut semiring j.limits j.left → Writes (none_text j.left j.right e c) o o₁
      → Writes (outcome_text semiring j (unproved e n)) o o₁
  unfolding outcome_text outcome_lines
  none_put e n h p = rw (sym h) p

traced_count : {ws : List ℕ} {ns : List Noted} {k : ℕ} {ks : List ℕ} {xs : List Line} → Traced ws ns k ks xs → length ks ≡ length xs
traced_count none = refl
traced_count (more h T) = rw (traced_count T)

-- a path lists a slot for each line
pub walk_count : {ws ks : List ℕ} {s : Term} {xs : List Line} → Walk ws ks s xs → length ks ≡ length xs
walk_count w = traced_count w.lines
