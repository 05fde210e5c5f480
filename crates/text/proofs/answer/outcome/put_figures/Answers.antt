-- `put_figures` meets its contract.
use Prim.Native.Char.{code}
use mathlib.Core.Path.{refl, ap, sym}
use lib.ListN.{length}
use Rattle.search.specs.Law.{semiring}
use Rattle.text.specs.Bytes.{ascii}
use Rattle.text.specs.Bytes.{number, parted}
use Rattle.text.specs.Answer.{field}
use Rattle.text.specs.Find.{uses}
use Rattle.text.proofs.Writing.{then}
use Rattle.text.proofs.Outcomes.{walk_count}
use Rattle.text.proofs.answer.outcome.put_figures.Goals as goal

pub returns : goal.returns
unfolding field ascii
returns g c =
    λ s xs m walk more.
    then (c.line.ensures (number (length xs)) (ap number (sym (walk_count walk))))
    (then (c.put.ensures m more)
    (then (c.line-2.ensures (number c.args.found.expanded) refl) (c.line-3.ensures (parted (code ",") (uses semiring xs)) (s, xs, walk, refl))))
