use Rattle.std.proofs.Common.{◌≡◌, ◌+◌, ◌-◌, ◌*◌, ◌<◌, suc, drop, get_or, ap, sym, ◌∙◌, arith, add-one, drop-cons, length-drop}
use Rattle.text.specs.declared.job.Mark.TheVariants as is
use Rattle.text.specs.Bytes.{digits}
use Rattle.text.specs.Reading.{limited}
use Rattle.text.proofs.Marking.{tells, marked}
use Rattle.text.proofs.Numbers.{allowed, too_large, malformed, past, foul, next, done}
use Rattle.text.proofs.job.digits.Goals.{then-n-most, else-n-most}
use Rattle.text.proofs.job.digits.Goals as goal

pub returns-in_default : goal.returns-in_default
returns-in_default c =
    let s = c.args.text.now in
    let i = c.loop-b.b-index in
    let b = get_or s i 0 in
    sym (c.loop-b.invariant ∙ ap (limited c.args.most)
    (rw (drop-cons s i 0 c.loop-b-test.true) (foul b (drop (suc i) s) c.loop-b.n (λ h k. c.in_default.not-Digit (b - 48) (c.mark_of.ensures ∙ marked b h k))))
    ∙ malformed c.args.most)

pub loop-b-preserved : goal.loop-b-preserved
loop-b-preserved c =
    let s = c.args.text.now in
    let most = c.args.most in
    let i = c.loop-b.b-index in
    let n = c.loop-b.n in
    let b = get_or s i 0 in
    let d = tells b (is.Digit c.in-Digit.d) (sym c.mark_of.ensures ∙ c.in-Digit.is) in
    let more = drop (suc i) s in
    let e : limited most (digits 0 s) ≡ limited most (digits (n * 10 + (b - 48)) more) =
    c.loop-b.invariant ∙ ap (limited most) (rw (drop-cons s i 0 c.loop-b-test.true) (next b more n d.0 d.1)) in
    elim c.if-n-most.branch [
      | then-n-most w ↦ rw (w.n-is, w.from.ensures, d.2, add-one) e
      | else-n-most w ↦
          let h : most < n = w.if-n-most.false in
          let k : most < n * 10 + (b - 48) = omega (arith, h) in
          rw (w.n-is, add-one) (e ∙ past more most (n * 10 + (b - 48)) n k h)
    ]

pub returns-then-n-most-2 : goal.returns-then-n-most-2
returns-then-n-most-2 c =
    let s = c.args.text.now in
    sym (c.loop-b.invariant ∙ ap (limited c.args.most) (done (drop c.loop-b.b-index s) c.loop-b.n (omega (arith, length-drop c.loop-b.b-index s))) ∙ allowed c.args.most c.loop-b.n c.if-n-most-2.true)

pub returns-else-n-most-2 : goal.returns-else-n-most-2
returns-else-n-most-2 c =
    let s = c.args.text.now in
    sym (c.loop-b.invariant ∙ ap (limited c.args.most) (done (drop c.loop-b.b-index s) c.loop-b.n (omega (arith, length-drop c.loop-b.b-index s))) ∙ too_large c.args.most c.loop-b.n c.if-n-most-2.false)
