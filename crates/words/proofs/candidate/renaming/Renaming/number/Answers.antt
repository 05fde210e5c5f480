-- `number` looks a small number up.
use Rattle.std.proofs.Common.{◌∙◌}
use Rattle.words.specs.Renaming.{new_of}
use Rattle.words.proofs.Tabled.{tabled_at}
use Rattle.words.proofs.candidate.renaming.Renaming.number.Goals as goal

pub returns-in-Some : goal.returns-in-Some
returns-in-Some c =
    let a = c.args in
    let h = c.in-Some.ensures.lookup in
    h.3.1 0 ∙ tabled_at (new_of a.self.now) a.self.now.table a.x a.self.now.tabled h.3.0
