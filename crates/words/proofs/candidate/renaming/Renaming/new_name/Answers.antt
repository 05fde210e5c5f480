-- `new_name` looks the name up.
use Rattle.std.proofs.Common.{◌∙◌, sym, le_refl}
use Rattle.words.proofs.Renamed.{renamed_at}
use Rattle.words.proofs.candidate.renaming.Renaming.new_name.Goals as goal

pub returns-in-Some : goal.returns-in-Some
returns-in-Some c =
    let a = c.args in
    c.unwrap_or.ensures ∙ rw c.copied.ensures (c.get.ensures.lookup.4 (le_refl c.in-Some.i) a.x)
    ∙ renamed_at a.self.now.numbers.now a.x a.self.now.names.now _ (sym c.in-Some.is ∙ c.place_of.ensures.is)

pub returns-in-None : goal.returns-in-None
returns-in-None c = let a = c.args in renamed_at a.self.now.numbers.now a.x a.self.now.names.now _ (sym c.in-None.is ∙ c.place_of.ensures.is)
