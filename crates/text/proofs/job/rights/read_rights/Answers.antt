use Rattle.std.proofs.Common.{◌≡◌, ◌≤◌, ◌<◌, length, take, ap, arith, Some, None}
use Rattle.std.proofs.lemmas.Option.{MatchOption-at_some, MatchOption-at_none}
use Rattle.std.proofs.lemmas.Result.{err_from_is_err_and}
use Rattle.std.proofs.lemmas.List.{length-take-le}
use Rattle.text.specs.declared.refusal.Refusal.TheVariants.{NoTerm}
use Rattle.text.specs.Bytes.{ascii}
use Rattle.text.specs.Reading.{Valued}
use Rattle.text.specs.SideRead.{TermRead}
use Rattle.text.proofs.Rights.{none_read, all_read, there_is, foul_side, large_side, small_side, some_of}
use Rattle.text.proofs.job.rights.read_rights.Goals.{in-Some, in-None}
use Rattle.text.proofs.job.rights.read_rights.Goals as goal

pub loop-r-init : goal.loop-r-init
loop-r-init c = none_read c.args.w.lines.now c.args.rights.now c.args.w.rights c.args.w.counted

pub unwrap-requires : goal.unwrap-requires
unfolding ascii
unwrap-requires c = some_of _ _ c.keyed.result (there_is c.loop-r.invariant c.loop-r-test.true) c.keyed.ensures

pub read_term-requires : goal.read_term-requires
read_term-requires c =
    let v : Valued c.loop-r.rest.now _ c.unwrap.result.0.now c.unwrap.result.1.now = MatchOption-at_some _ _ _ c.unwrap.ensures c.keyed.ensures in
    omega (arith, v.shorter, c.loop-r.invariant.short)

pub returns-in_err-n : goal.returns-in_err-n
unfolding ascii
returns-in_err-n c =
    let p = err_from_is_err_and c.from_residual.result c.from_residual.ensures.1 in
    let none : c.read_term.result ≡ None = grind arith in
    let e : c.in_err-n.field-0.0 ≡ NoTerm = grind arith in
    let v : Valued c.loop-r.rest.now (ascii "right=") c.unwrap.result.0.now c.unwrap.result.1.now = MatchOption-at_some _ _ _ c.unwrap.ensures c.keyed.ensures in
    rw (p.1, p.2, e) (record {
      kept = c.loop-r.auto.rights;
      exact = foul_side c.loop-r.invariant c.loop-r-test.true v (MatchOption-at_none _ _ none c.read_term.ensures);
    })

pub slice_bounds-of-end : goal.slice_bounds-of-end
slice_bounds-of-end c =
    let some : c.read_term.result ≡ Some c.in_ok-n.n = grind arith in
    let t : TermRead c.unwrap.result.0.now c.read_term.new.run c.in_ok-n.n = MatchOption-at_some _ _ _ some c.read_term.ensures in
    t.room

pub loop-r-preserved : goal.loop-r-preserved
unfolding ascii
loop-r-preserved c =
    let some : c.read_term.result ≡ Some c.in_ok-n.n = grind arith in
    let v : Valued c.loop-r.rest.now (ascii "right=") c.unwrap.result.0.now c.unwrap.result.1.now = MatchOption-at_some _ _ _ c.unwrap.ensures c.keyed.ensures in
    let t : TermRead c.unwrap.result.0.now c.read_term.new.run c.in_ok-n.n = MatchOption-at_some _ _ _ some c.read_term.ensures in
    let n = length-take-le c.in_ok-n.n c.read_term.new.run t.room in
    elim c.match-of.branch [
      | in-Some w ↦
          let e : w.in-Some.right.numbers.now ≡ take c.in_ok-n.n c.read_term.new.run = w.in-Some.ensures in
          let l : c.in_ok-n.n ≤ 31 = omega (arith, w.in-Some.right.fits, ap length e, n) in
          rw (w.rights-is, w.read-is) (small_side c.loop-r.invariant c.loop-r-test.true v t l (rw e at w.hold_slot.ensures))
      | in-None w ↦
          let l : 31 < c.in_ok-n.n = omega (arith, w.in-None.ensures, n) in
          rw (w.rights-is, w.read-is) (large_side c.loop-r.invariant c.loop-r-test.true v t l)
    ]

pub returns : goal.returns
returns c = record { kept = c.loop-r.auto.rights; exact = all_read c.loop-r.invariant c.loop-r-test.false }
