-- `offer` of two terms makes the equation and tries it.
use Rattle.std.proofs.Common.{refl}
use Rattle.words.specs.Renaming.{new_of}
use Rattle.words.proofs.Visited.{offered}
use Rattle.words.proofs.Candidates.{terms_made}
use Rattle.words.proofs.candidate.TermsRenamed.offer.Goals as goal

pub returns-clause-tried : goal.returns-clause-tried
returns-clause-tried c =
    let a = c.args in
    offered
    (λ small. terms_made (new_of a.renaming.now) a.self.now.a.now a.self.now.b.now _ _ refl refl c.rename.ensures c.rename-2.ensures c.front.ensures c.front-2.ensures)
    c.offer.ensures.tried
