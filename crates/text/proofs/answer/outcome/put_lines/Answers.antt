-- `put_lines` meets its contract.
use mathlib.Core.Path.{refl}
use mathlib.Core.List.{flatten}
use Rattle.search.specs.Law.{semiring}
use Rattle.text.specs.TermText.{write_term}
use Rattle.text.specs.Answer.{field}
use Rattle.text.specs.Bytes.{ascii}
use Rattle.text.specs.Proof.{proof}
use Rattle.text.proofs.Writing.{then, put_last}
use Rattle.text.proofs.Outcomes.{figures_then}
use Rattle.text.proofs.answer.outcome.put_lines.Goals as goal

pub returns : goal.returns
unfolding flatten field ascii
returns g c =
    λ s t xs m left right walk more names.
    then (c.line.ensures c.args.verdict.now refl)
    (then (c.line-2.ensures (write_term s) (s, left, refl))
    (then (c.line-3.ensures (write_term t) (t, right, refl))
    (figures_then m c.args.found.expanded xs (c.put_figures.ensures s xs m walk more)
    (then (c.put_steps.ensures s xs walk) (put_last (c.line-4.ensures (proof semiring s t xs) (s, t, xs, walk, names, refl)))))))
