-- What a renaming of the code does.
use Rattle.std.specs.Prelude.{ℕ}
use Rattle.words.specs.Rename.{renamed}
use Rattle.words.specs.declared.candidate.renaming.Renaming.{Renaming}

-- the new name of a letter
abbrev pub new_of : Renaming → ℕ → ℕ
new_of r = renamed r.names.now r.numbers.now
