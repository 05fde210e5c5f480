-- `compare` meets its contract: the order is decided at the place where the runs differ.
use Rattle.terms.proofs.Compared.{compares_same, compares_at}
use Rattle.terms.proofs.term.compare.Goals as goal

pub returns-in-Some : goal.returns-in-Some
returns-in-Some c = compares_at c.in-Some.k c.in-Some.ensures c.get.result c.get-in-Some.result c.get.ensures.lookup c.get-in-Some.ensures.lookup c.cmp.ensures

pub returns-in-None : goal.returns-in-None
returns-in-None c = compares_same c.in-None.ensures
