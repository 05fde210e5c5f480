-- Of a longer input the first 8,193 bytes are enough: the program prints of them what is due for the whole.
use Rattle.std.specs.Prelude.{ℕ, ◌<◌, ◌≡◌, List, length, take}
use Rattle.std.proofs.Common.{sym, ap, ◌∙◌, ⊎_elim, arith, take_all, length-take-le}
use Rattle.std.proofs.lemmas.Bool.{lt-leb}
use Rattle.terms.specs.Theory.Order.{below?}
use Rattle.text.specs.Answer.{◌>>=◌, require, refused, printed}
use Rattle.checking.specs.Check.{read_check, check_with, check, program}

long_refused : (bs : List ℕ) (room : ℕ) → 8192 < length bs → check bs room ≡ refused 1
unfolding check check_with read_check ◌>>=◌ require
long_refused bs room h = rw (lt-leb (length bs) 8192 h)

pub cut_enough : (bs : List ℕ) → program (take 8193 bs) ≡ program bs
unfolding program
cut_enough bs =
    ⊎_elim (λ short. ap program (take_all 8193 bs (omega arith)))
    (λ long.
    let l : 8192 < length (take 8193 bs) = omega (arith, length-take-le 8193 bs long) in
    ap printed (long_refused (take 8193 bs) 64 l ∙ sym (long_refused bs 64 (omega arith))))
    (below? (length bs) 8193)
