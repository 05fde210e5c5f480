-- `finish` meets its contract, by what comparing the new part with the old one tells.
use Rattle.terms.proofs.Compared.{equals}
use Rattle.search.proofs.Splicing.{finish_rest}
use Rattle.search.proofs.line.finish.Goals as goal

pub returns : goal.returns
returns c =
    let a = c.args in
    let h = c.requires in
    finish_rest a.s.now a.at a.end a.out.now a.n a.m c.append.new.out _ (equals c.eq.ensures) h.1 h.3 _ c.if-eq.false c.if-out-m.false c.append.ensures.0 c.append.ensures.1
