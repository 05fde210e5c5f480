-- `put_atom` meets its contract: 0 has no word, 1 the empty word, a letter itself.
use Rattle.words.proofs.Atoms.{atom_zero, atom_one, atom_letter}
use Rattle.std.proofs.Common.{rules}
use Rattle.words.proofs.normal_form.put_atom.Goals as goal

pub returns-in-4096 : goal.returns-in-4096
returns-in-4096 c = search (atom_zero, rules)

pub returns-in-4097 : goal.returns-in-4097
returns-in-4097 c = search (atom_one, rules)

pub returns-in_default : goal.returns-in_default
returns-in_default c = search (atom_letter, rules)
