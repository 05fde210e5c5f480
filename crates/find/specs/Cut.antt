-- Of a longer input the first 4,097 bytes are enough: the program prints of them what is due for the whole.
use Rattle.std.specs.Prelude.{ℕ, ◌<◌, ◌≡◌, List, length, take}
use Rattle.std.proofs.Common.{sym, ap, ◌∙◌, ⊎_elim, arith, take_all, length-take-le}
use Rattle.std.proofs.lemmas.Bool.{lt-leb}
use Rattle.terms.specs.Theory.Order.{below?}
use Rattle.text.specs.Answer.{◌>>=◌, require, refused, printed}
use Rattle.text.specs.FindJob.{read_find}
use Rattle.text.specs.Find.{find}
use Rattle.text.specs.Entry.{program}

long_refused : (bs : List ℕ) (slots room : ℕ) → 4096 < length bs → find bs slots room ≡ refused 1
unfolding find read_find ◌>>=◌ require
long_refused bs slots room h = rw (lt-leb (length bs) 4096 h)

pub cut_enough : (bs : List ℕ) → program (take 4097 bs) ≡ program bs
unfolding program
cut_enough bs =
    ⊎_elim (λ short. ap program (take_all 4097 bs (omega arith)))
    (λ long.
    let l : 4096 < length (take 4097 bs) = omega (arith, length-take-le 4097 bs long) in
    ap printed (long_refused (take 4097 bs) 400 32768 l ∙ sym (long_refused bs 400 32768 (omega arith))))
    (below? (length bs) 4097)
