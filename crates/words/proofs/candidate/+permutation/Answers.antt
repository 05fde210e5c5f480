-- `permutation` puts the first number into a permutation of the others.
use Rattle.std.proofs.Common.{arith}
use Rattle.words.proofs.Permuted.{none_permuted, one_more_permuted}
use Rattle.words.proofs.candidate.+permutation.Goals as goal

pub returns-then-k-eq0 : goal.returns-then-k-eq0
returns-then-k-eq0 t c = none_permuted _ _ _ _ c.if-k-eq0.true

pub returns : goal.returns
returns t c =
    let a = c.args in
    one_more_permuted a.k a.i a.c c.permutation.new.out c.shift.new.s c.if-k-eq0.false
    (omega arith) c.permutation.ensures c.shift.ensures
