-- `repeats` meets its contract.
use mathlib.Core.Path.{sym, ◌∙◌}
use denote.Enum.Bare.{same_true}
use Rattle.search.specs.contracts.search.Law as law
use Rattle.search.specs.contracts.search.Direction as direction
use Rattle.search.proofs.Repeating.{comm_repeated}
use borrow.Author.Rules.{rules}
use Rattle.search.proofs.line.repeats.Goals as goal

pub returns-then-eq : goal.returns-then-eq
returns-then-eq c =
    comm_repeated _ _ _ (same_true law.the_type (search rules) _ _ (sym c.eq.ensures ∙ c.if-eq.true))
    (λ q. same_true direction.the_type (search rules) _ _ (sym c.eq-then-eq.ensures ∙ q))
